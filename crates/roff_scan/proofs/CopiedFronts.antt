-- Bytes that are put behind the newest text in the making, and are taken with others.
use Rattle.std.proofs.Common.{◌≡◌, ℕ, List, Ok, sym, ap, subst, ◌∙◌, Result}
use Rattle.roff_num.specs.declared.limit.Limit.{Limit}
use Rattle.input_source.specs.Tape.{Tape}
use Rattle.input_model.specs.Input.{Input}
use Rattle.input_model.specs.Input.Names.{adding}
use Rattle.input_model.specs.Unread.{Unread, changing}
use Rattle.roff_scan.specs.Unread.Calls.{IsFront, PassesFront, front_bytes}
use Rattle.roff_scan.specs.Unread.Copied.{CopiesFront}
use Rattle.roff_scan.proofs.AddedFronts.{added-allowed, adding-texts, grown, with_open}
use Rattle.roff_scan.proofs.Staged.{passes-staged, stage-behind}

module _ {E : Type 0} (u new : Unread E) (ready text : List ℕ) (count : ℕ) (r : Result (Unit {0}) Limit) (made : (r, new) ≡ changing (adding text u.input) u)
    (allowed : r ≡ Ok tt) where
  -- behind bytes that were added the same bytes stand in front
  pub copied_in_front : IsFront count ready u → IsFront count ready new
  copied_in_front front = subst (IsFront count ready) (sym (added-allowed u new text r made allowed)) (record { among = front.among; within = front.within })

  -- and where they were taken they were copied
  pub copies_front : (old gives : Tape → Type 0) (after : Unread E) → PassesFront old gives (front_bytes count ready new) new after
      → CopiesFront old gives (front_bytes count ready u) text u after
  copies_front old gives after passed =
      let i : Input E = u.input in
      let texts : List (List ℕ) = grown u new text r made in
      let bytes : List ℕ = front_bytes count ready u in
      let passes : PassesFront old gives bytes (with_open texts u) after =
      subst (λ (v : Unread E). PassesFront old gives (front_bytes count ready v) v after) (added-allowed u new text r made allowed) passed in
      let stage = stage-behind old gives bytes i.escapes i.arguments texts u after passes in
      record {
        passes = passes-staged old gives bytes i.escapes i.arguments texts u after passes;
        arguments = ap (λ (j : Input E). j.arguments) stage;
        half_read = ap (λ (j : Input E). j.escapes) stage;
        texts = ap (λ (j : Input E). j.open_texts) stage ∙ sym (ap (λ (j : Input E). j.open_texts) (adding-texts text i));
      }
