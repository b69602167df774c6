use Rattle.std.proofs.Common.{◌≡◌, ◌∙◌, ◌&&◌, ℕ, Bool, false, List, [], Option, Some, None, IfSome, Ok, ap, drop, refl, slice_get, subst, sym}
use Rattle.read_requests.specs.Request.Coded.{register_named, set_by}
use Rattle.read_requests.proofs.Numbering.{set_register-named}
use Rattle.run_model.specs.Registers.{Known, value_in_force}
use Rattle.run_model.specs.Requests.{Response}
use Rattle.run_model.specs.Requests.Effects.{meant_by}
use Rattle.run_model.specs.Requests.Numbering.{increment_given, set_register, set_to}
use Rattle.run_model.specs.Run.{known_at}
use Rattle.run_model.specs.declared.step.Step.TheVariants.{Nothing}
use Rattle.read_obeying.specs.Acting.{DoesEffect, Kept, kept, texts_read}
use Rattle.read_obeying.proofs.Effects.{and_false, quiet-effect, set_register-unnamed, set_register-without}
use Rattle.read_obeying.proofs.numbering.set_register.Goals as goal

pub returns-in-None : goal.returns-in-None
returns-in-None c = λ breaks. record {
  acts = λ l h stands.
      let u = c.args.unread.now in
      let old : Kept = kept c.args.lasting.now c.args.meaning.now in
      let k : Known = known_at h old.registers.all u.input in
      let given = c.get.ensures ∙ ap (λ (texts : List (List ℕ)). slice_get texts 0) c.arguments-arguments.ensures in
      let unnamed = sym (c.register_named.ensures (texts_read u) given) ∙ c.in-None.is in
      let nothing = quiet-effect [] [] old old u Nothing refl refl refl in
      subst (λ (r : Response). DoesEffect (meant_by (breaks && false) r) old old u u (Ok Nothing)) (sym (set_register-unnamed k (texts_read u) unnamed)) nothing;
}

pub returns-in-None-get : goal.returns-in-None-get
returns-in-None-get c = λ breaks. record {
  acts = λ l h stands.
      let u = c.args.unread.now in
      let old : Kept = kept c.args.lasting.now c.args.meaning.now in
      let k : Known = known_at h old.registers.all u.input in
      let none : None ≡ slice_get (texts_read u) 1 = rw c.in-None-get.is at (c.get-in-Some.ensures ∙ ap (λ (texts : List (List ℕ)). slice_get texts 1) c.arguments-arguments.ensures) in
      let nothing = quiet-effect [] [] old old u Nothing refl refl refl in
      subst (λ (r : Response). DoesEffect (meant_by (breaks && false) r) old old u u (Ok Nothing)) (sym (set_register-without k (texts_read u) (sym none))) nothing;
}

pub returns-in-Some-get : goal.returns-in-Some-get
returns-in-Some-get c = λ breaks. record {
  acts = λ l h stands.
      let u = c.args.unread.now in
      let old : Kept = kept c.args.lasting.now c.args.meaning.now in
      let as_given : List (List ℕ) = texts_read u in
      let k : Known = known_at h old.registers.all u.input in
      let name : List ℕ = c.in-Some.name in
      let text : List ℕ = c.in-Some-get.text.now in
      let argument : (n : ℕ) → _ = λ n. ap (λ (texts : List (List ℕ)). slice_get texts n) c.arguments-arguments.ensures in
      let named : Some name ≡ register_named as_given = sym c.in-Some.is ∙ c.register_named.ensures as_given (c.get.ensures ∙ argument 0) in
      let second : Some text ≡ slice_get as_given 1 = rw c.in-Some-get.is at (c.get-in-Some.ensures ∙ argument 1) in
      let known : IfSome (register_named as_given) (λ n. value_in_force k name ≡ value_in_force k n) =
      subst (λ (n : Option (List ℕ)). IfSome n (λ n. value_in_force k name ≡ value_in_force k n)) named refl in
      let is : set_by name c.numbers_given-numbers.result ≡ set_register k as_given =
      c.numbers_given-numbers.ensures name as_given (c.get-in-Some-get.ensures ∙ argument 2)
      ∙ ap (λ r. set_to name r (increment_given (drop 2 as_given))) (c.value_beside-in_force.ensures l h stands)
      ∙ sym (set_register-named k as_given name text (value_in_force k name) named second known) in
      let done = c.set_to in
      let new : Kept = kept done.new.lasting done.new.meaning in
      subst (λ (b : Bool). DoesEffect (meant_by b (set_register k as_given)) old new u u done.result) (sym (and_false breaks))
      (subst (λ (r : Response). DoesEffect (meant_by false r) old new u u done.result) is (done.ensures u));
}
