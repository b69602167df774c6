use Rattle.std.proofs.Common.{◌≡◌, ◌∙◌, ◌&&◌, ℕ, Bool, true, List, [], ◌∷◌, Ok, Err, Result, ap, refl, slice_get, subst, sym}
use Rattle.page_model.specs.declared.event.Event.TheVariants.{Set}
use Rattle.page_model.specs.declared.settings.Param.TheVariants.{Indent}
use Rattle.roff_num.specs.declared.num.NumFault.{NumFault}
use Rattle.run_model.specs.PageEvents.{PageEvent}
use Rattle.run_model.specs.Registers.{Known}
use Rattle.run_model.specs.Requests.Effects.{behind_break, meant_by}
use Rattle.run_model.specs.Requests.Lengths.{length_wanted, setting_length}
use Rattle.run_model.specs.Run.{known_at}
use Rattle.run_model.specs.declared.event.PageEvent.TheVariants.{Text}
use Rattle.run_model.specs.declared.message.Message.TheVariants.{BadNumber}
use Rattle.run_state.proofs.InForce.{settings-in_force}
use Rattle.read_obeying.specs.Acting.{DoesEffect, Kept, kept, texts_read}
use Rattle.read_obeying.proofs.Effects.{and_true, quiet-effect}
use Rattle.read_obeying.proofs.lengths.set_indent.Goals as goal

pub returns-in-Ok : goal.returns-in-Ok
returns-in-Ok c = λ rs. record {
  acts = λ l h stands.
      let u = c.args.unread.now in
      let breaks = c.args.breaks in
      let done = c.set_always in
      let old : Kept = kept rs c.args.meaning.now in
      let new : Kept = kept rs done.new.meaning in
      let k : Known = known_at h rs.all u.input in
      let as_given : List (List ℕ) = texts_read u in
      let events : List PageEvent = Text (Set (Indent c.in-Ok.columns)) ∷ [] in
      let first = c.get.ensures ∙ ap (λ (texts : List (List ℕ)). slice_get texts 0) c.arguments-arguments.ensures in
      let in_force = c.settings-settings.ensures.kept ∙ settings-in_force l h c.args.composer.now stands in
      let wanted : Ok c.in-Ok.columns ≡ length_wanted k.settings.indent k.settings.previous_indent as_given =
      sym c.in-Ok.is ∙ c.length_wanted.ensures as_given first
      ∙ ap (λ s. length_wanted s.indent s.previous_indent as_given) in_force in
      subst (λ (r : Result ℕ NumFault). DoesEffect (meant_by (breaks && true) (setting_length Indent r)) old new u u (Ok done.result)) wanted
      (quiet-effect [] (behind_break (breaks && true) events) old new u done.result refl done.ensures.says
      (done.ensures.kept ∙ ap (λ (b : Bool). behind_break b events) (sym (and_true breaks))));
}

pub returns-in-Err : goal.returns-in-Err
returns-in-Err c = λ rs. record {
  acts = λ l h stands.
      let u = c.args.unread.now in
      let breaks = c.args.breaks in
      let done = c.report in
      let old : Kept = kept rs c.args.meaning.now in
      let new : Kept = kept rs done.new.meaning in
      let k : Known = known_at h rs.all u.input in
      let as_given : List (List ℕ) = texts_read u in
      let first = c.get.ensures ∙ ap (λ (texts : List (List ℕ)). slice_get texts 0) c.arguments-arguments.ensures in
      let in_force = c.settings-settings.ensures.kept ∙ settings-in_force l h c.args.composer.now stands in
      let wanted : Err c.in-Err.field-0 ≡ length_wanted k.settings.indent k.settings.previous_indent as_given =
      sym c.in-Err.is ∙ c.length_wanted.ensures as_given first
      ∙ ap (λ s. length_wanted s.indent s.previous_indent as_given) in_force in
      subst (λ (r : Result ℕ NumFault). DoesEffect (meant_by (breaks && true) (setting_length Indent r)) old new u u (Ok done.result)) wanted
      (quiet-effect (BadNumber ∷ []) [] old new u done.result refl done.ensures.says done.ensures.none);
}
