-- A glyph, where an environment stands for its history: in the open field, if one is open.
use Rattle.std.proofs.Common.{◌≡◌, ◌↔◌, ℕ, ◌+◌, ◌<◌, ◌≤◌, ◌∷◌, Option, Some, None, Result, Ok, Err, OnOk, IsErr, inl, inr, ap, sym, subst, arith, length}
use Rattle.std.proofs.lemmas.Bool.{cases_lt}
use Rattle.page_model.specs.declared.glyph.Glyph.{Glyph}
use Rattle.page_model.specs.declared.event.Event.TheVariants.{Print}
use Rattle.page_model.specs.Glyphs.{glyph_text}
use Rattle.page_model.specs.Events.{History}
use Rattle.page_model.specs.Lines.{pending_length as length_plainly}
use Rattle.page_model.specs.Fields.{Field, so_far, told_plainly, told_behind}
use Rattle.page_model.specs.Behind.{pending_length}
use Rattle.roff_lines.specs.Env.Kept.{Kept, KeptField, kept_length, length_told, length_with, kept_with_glyph, with_glyph_in, with_glyph_told}
use Rattle.roff_lines.specs.Env.Stands.{Stands, StandsBehind, StandsFor, StandsTold}
use Rattle.roff_lines.proofs.InField.{Stands-glyph_in, limit-glyph}
use Rattle.roff_lines.proofs.Printed.{Stands-print, room-print, within-print}
use Rattle.roff_lines.proofs.Told.{told_as}

-- where no field is kept, it is one of the open word
pub length_told-none : (g : Glyph) (k : Kept) → k.field ≡ None → length_told g k ≡ length_with g k
length_told-none g k none =
    ap (λ (o : Option KeptField). elim o [ None ↦ length_with g k | Some f ↦ kept_length k + k.blanks + length (glyph_text g) ]) none

pub with_glyph_told-none : (g : Glyph) (k : Kept) → k.field ≡ None → with_glyph_told g k ≡ kept_with_glyph g k
with_glyph_told-none g k none =
    ap (λ (o : Option KeptField). elim o [ None ↦ kept_with_glyph g k | Some f ↦ with_glyph_in g f k ]) none

module _ (g : Glyph) (line_cap : ℕ) where
  glyph_told : (h : History) (f : Option Field) (k : Kept) → StandsTold line_cap h f k → length_told g k ≤ k.cap
      → StandsFor line_cap (told_behind (Print g) (told_as h f)) (with_glyph_told g k)
  glyph_told h None k s room =
      let same = length_told-none g k s.no_field in
      subst (StandsFor line_cap (told_behind (Print g) (told_as h None))) (sym (with_glyph_told-none g k s.no_field))
      (Stands-print line_cap h k s g (omega (arith, same, room)))
  glyph_told h (Some f) k s room = Stands-glyph_in line_cap h f k s g room

  limit_told : (h : History) (f : Option Field) (k : Kept) → StandsTold line_cap h f k
      → (k.cap < length_told g k) ↔ (line_cap < length_plainly (so_far (told_behind (Print g) (told_as h f))))
  limit_told h None k s =
      let same = length_told-none g k s.no_field in
      let reached : ℕ = length_plainly (Print g ∷ h) in (
        λ over. elim (cases_lt line_cap reached) [ inl less ↦ less | inr few ↦ absurd (omega (arith, same, over, room-print line_cap h k s g few)) ],
        λ over. elim (cases_lt k.cap (length_told g k)) [
          | inl less ↦ less
          | inr few ↦ absurd (omega (arith, over, within-print line_cap h k s g (omega (arith, same, few))))
        ],
      )
  limit_told h (Some f) k s = limit-glyph line_cap h f k s g

  module _ (h : History) (k : Kept) (s : Stands line_cap h k) where
    -- what is kept behind it stands for the history with it
    pub Stands-glyph_told : length_told g k ≤ k.cap → Stands line_cap (Print g ∷ h) (with_glyph_told g k)
    Stands-glyph_told room = glyph_told (told_plainly h).events (told_plainly h).field k s room

    -- it is within the limit exactly where what is kept is
    pub limit-glyph_told : (k.cap < length_told g k) ↔ (line_cap < pending_length (Print g ∷ h))
    limit-glyph_told = limit_told (told_plainly h).events (told_plainly h).field k s

-- so does an environment that was told a glyph, where the limit let it through
pub StandsBehind-glyph : {E : Type 0} (r : Result (Unit {0}) E) (g : Glyph) (old new : Kept) → OnOk r (new ≡ with_glyph_told g old)
    → IsErr r ↔ (old.cap < length_told g old) → OnOk r (StandsBehind old (Print g) new)
StandsBehind-glyph (Ok u) g old new kept limit =
    λ line_cap h s. elim (cases_lt old.cap (length_told g old)) [
      | inl over ↦ let wrong = limit.1 over in cc
      | inr room ↦ subst (Stands line_cap (Print g ∷ h)) (sym kept) (Stands-glyph_told g line_cap h old s room)
    ]
StandsBehind-glyph (Err e) g old new kept limit = tt
