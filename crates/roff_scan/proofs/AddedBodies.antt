-- Bytes of a body that are put behind the newest text in the making at once.
use Rattle.std.proofs.Common.{◌≡◌, ℕ, ◌+◌, ◌≤◌, true, List, length, take, Ok, refl, sym, ap, subst, ◌∙◌, arith, Result, length-take-le, take-take}
use Rattle.std.specs.List.{AllByRecursion}
use Rattle.roff_num.specs.declared.limit.Limit.{Limit}
use Rattle.input_source.specs.Bytes.{is_text_byte}
use Rattle.input_source.specs.Tape.{Tape}
use Rattle.input_model.specs.Input.{Input}
use Rattle.input_model.specs.Input.Names.{adding}
use Rattle.input_model.specs.Unread.{Unread, asks_to_take, changing}
use Rattle.roff_scan.specs.Unread.Calls.{IsFront, NoNewline, PassesFront, front_bytes, next_bytes}
use Rattle.roff_scan.specs.Unread.Runs.{TakesRun}
use Rattle.roff_scan.specs.declared.run_kind.RunKind.TheVariants.{Definition}
use Rattle.roff_scan.proofs.AddedFronts.{added-allowed, adding-texts, grown, with_open}
use Rattle.roff_scan.proofs.RunKinds.{no_bound, no_newline_of}
use Rattle.roff_scan.proofs.Staged.{passes-staged, stage-behind}

-- what is put behind a text: a copy of the first of some bytes
pub copy-first : (front copy text : List ℕ) (count : ℕ) → count ≤ length front → take (length (take count front)) copy ≡ take count front → text ≡ take count copy
    → text ≡ take count front
copy-first front copy text count few copied cut = cut ∙ ap (λ (n : ℕ). take n copy) (sym (length-take-le count front few)) ∙ copied

module _ {E : Type 0} (u new : Unread E) (ready front text : List ℕ) (count : ℕ) (r : Result (Unit {0}) Limit) (made : (r, new) ≡ changing (adding text u.input) u)
    (allowed : r ≡ Ok tt) (among : length front ≤ length (next_bytes u.input.ahead u.looked ready))
    (same : front ≡ take (length front) (next_bytes u.input.ahead u.looked ready)) (cut : text ≡ take count front) (few : count ≤ length front) where
  -- the texts in the making behind them
  abbrev texts : List (List ℕ)
  texts = grown u new text r made

  body_grown : new ≡ with_open texts u
  body_grown = added-allowed u new text r made allowed

  -- the bytes that were added stand in front
  pub body_in_front : u.input.charge + length front ≤ u.limits.bytes → IsFront count ready new
  body_in_front within =
      subst (IsFront count ready) (sym body_grown) (record { among = omega (arith, among, few); within = omega (arith, within, few) })

  first_of_body : text ≡ front_bytes count ready new
  first_of_body =
      cut ∙ ap (take count) same ∙ take-take count (length front) (next_bytes u.input.ahead u.looked ready) few ∙ sym (ap (front_bytes count ready) body_grown)

  -- none of them is a newline
  pub body_no_newline : AllByRecursion (λ b. is_text_byte b ≡ true) text → NoNewline (front_bytes count ready new)
  body_no_newline plain = subst NoNewline first_of_body (no_newline_of is_text_byte refl text plain)

  -- and they were added, and taken
  pub adds_body : (old gives : Tape → Type 0) (after : Unread E) → AllByRecursion (λ b. is_text_byte b ≡ true) text → (asks_to_take u ≡ true → ⊥)
      → PassesFront old gives (front_bytes count ready new) new after → TakesRun Definition old gives ready count u after
  adds_body old gives after plain ahead passed =
      let i : Input E = u.input in
      let passes : PassesFront old gives text (with_open texts u) after =
      subst (λ (v : Unread E). PassesFront old gives text v after) body_grown
      (subst (λ (xs : List ℕ). PassesFront old gives xs new after) (sym first_of_body) passed) in
      let stage = stage-behind old gives text i.escapes i.arguments texts u after passes in
      record {
        bytes = text;
        length_is = ap length cut ∙ length-take-le count front few;
        are_of = plain;
        fewer = no_bound text i.arguments;
        passes = passes-staged old gives text i.escapes i.arguments texts u after passes;
        arguments = ap (λ (j : Input E). j.arguments) stage;
        half_read = ap (λ (j : Input E). j.escapes) stage;
        texts = ap (λ (j : Input E). j.open_texts) stage ∙ sym (ap (λ (j : Input E). j.open_texts) (adding-texts text i));
        whole = λ goes asks. absurd (ahead asks);
      }
