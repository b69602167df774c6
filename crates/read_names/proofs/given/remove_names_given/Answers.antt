use Rattle.std.proofs.Common.{◌≡◌, ◌∙◌, ℕ, List, Some, None, ap, slice_get, sym, refl, reverse}
use Rattle.read_names.specs.NamesGiven.{name_in}
use Rattle.read_names.proofs.RemovedNames.{texts_stay, without_none, without_one}
use Rattle.read_names.proofs.given.remove_names_given.Goals.{in-Some, in_default}
use Rattle.read_names.proofs.given.remove_names_given.Goals as goal

pub loop-index-preserved : goal.loop-index-preserved
loop-index-preserved c =
    let n = c.loop-index.index in
    let old = c.args.unread.now in
    let now = c.loop-index.unread in
    let texts = reverse old.input.arguments.whole in
    let stay = texts_stay n texts old now c.loop-index.invariant in
    let given = c.name_at.ensures ∙ ap (λ (texts : List (List ℕ)). name_in (slice_get texts n)) stay in
    elim c.match-name_at.branch [
      | in-Some w ↦
          let named : name_in (slice_get texts n) ≡ Some w.in-Some.name = sym given ∙ w.in-Some.is in
          rw w.unread-is (without_one n texts old now c.loop-index.invariant (slice_get texts n) w.in-Some.name w.remove.new.self refl named w.remove.ensures.change)
      | in_default w ↦
          let none : name_in (slice_get texts n) ≡ None = sym given ∙ w.in_default.is in
          rw w.unread-is (without_none n texts old now c.loop-index.invariant (slice_get texts n) refl none)
    ]
