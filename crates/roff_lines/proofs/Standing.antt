-- What an environment keeps, whether a field is open or not: with the open field's text at its tab it stands for all that happened.
use Rattle.std.proofs.Common.{◌≡◌, ℕ, ◌^◌, min, true, false, Option, Some, None, refl, sym, ap, subst, ◌∙◌, ◌++◌}
use Rattle.page_model.specs.Events.{History, settings_after, is_interrupted}
use Rattle.page_model.specs.Fields.{Field, field_text, field_told, plain, so_far, told_plainly}
use Rattle.page_model.specs.Behind.{last_text, last_width}
use Rattle.roff_lines.specs.Env.Kept.{Kept, KeptField, with_field_left}
use Rattle.roff_lines.specs.Env.Stands.{Stands, StandsInField, StandsPlain, StandsTold}
use Rattle.roff_lines.proofs.Told.{settings_after-plain, is_interrupted-plain, last_text-plain, last_width-plain}

-- the text of this field stands in the open word, at its tab
abbrev pub left : KeptField → Kept → Kept
left f k = record k { word = k.word ++ f.text; field = None; is_open = true; blanks = f.word_blanks }

-- that of the open one, if one is
abbrev left_where : Option KeptField → Kept → Kept
left_where o k = elim o [ None ↦ k | Some f ↦ left f k ]

with_field_left-is : (f : KeptField) (k : Kept) → k.field ≡ Some f → with_field_left k ≡ left f k
with_field_left-is f k is = ap (λ (o : Option KeptField). left_where o k) is

-- where none is open all is as it was
pub with_field_left-none : (k : Kept) → k.field ≡ None → with_field_left k ≡ k
with_field_left-none k none = ap (λ (o : Option KeptField). left_where o k) none

-- what it leaves as it is
left_by : {A : Type 0} (get : Kept → A) (o : Option KeptField) (k : Kept) → ((g : KeptField) → get (left g k) ≡ get k)
    → get (left_where o k) ≡ get k
left_by get None k same = refl
left_by get (Some g) k same = same g

left_same : {A : Type 0} (get : Kept → A) (k : Kept) → ((g : KeptField) → get (left g k) ≡ get k) → get (with_field_left k) ≡ get k
left_same get k same = left_by get k.field k same

-- an environment stands in a field as it does with the field's text at its tab
pub left_in_field : (line_cap : ℕ) (h : History) (f : Field) (k : Kept) (s : StandsInField line_cap h f k)
    → StandsPlain line_cap (field_told 0 f h) (left s.field k)
left_in_field line_cap h f k s = subst (StandsPlain line_cap (field_told 0 f h)) (with_field_left-is s.field k s.field_is) s.left

pub in_field : (line_cap : ℕ) (h : History) (f : Field) (k : Kept) (field : KeptField) → k.field ≡ Some field → field.way ≡ f.way
    → field.is_centred ≡ f.is_centred → field.text ≡ field_text f → k.blanks ≡ min f.gap (2 ^ 33) → k.is_open ≡ false
    → StandsPlain line_cap (field_told 0 f h) (left field k) → StandsInField line_cap h f k
in_field line_cap h f k field is way centred text gap closed s = record {
  field = field;
  field_is = is;
  way = way;
  is_centred = centred;
  text = text;
  gap = gap;
  none_open = closed;
  left = subst (StandsPlain line_cap (field_told 0 f h)) (sym (with_field_left-is field k is)) s;
}

-- so it does whether one is open or not
left_told : (line_cap : ℕ) (h : History) (f : Option Field) (k : Kept) → StandsTold line_cap h f k
    → StandsPlain line_cap (so_far (record { events = h; field = f })) (with_field_left k)
left_told line_cap h None k s = subst (StandsPlain line_cap h) (sym (with_field_left-none k s.no_field)) s
left_told line_cap h (Some f) k s = s.left

pub left_stands : (line_cap : ℕ) (h : History) (k : Kept) → Stands line_cap h k → StandsPlain line_cap (plain h) (with_field_left k)
left_stands line_cap h k s = left_told line_cap (told_plainly h).events (told_plainly h).field k s

module _ (line_cap : ℕ) (h : History) (k : Kept) (s : Stands line_cap h k) where
  pub settings-stands : k.settings ≡ settings_after h
  settings-stands =
      sym (left_same (λ (n : Kept). n.settings) k (λ g. refl)) ∙ (left_stands line_cap h k s).settings ∙ sym (settings_after-plain h)

  pub last_width-stands : k.last_width ≡ last_width h
  last_width-stands =
      sym (left_same (λ (n : Kept). n.last_width) k (λ g. refl)) ∙ (left_stands line_cap h k s).last_width ∙ sym (last_width-plain h)

  pub finished-stands : k.finished ≡ last_text h
  finished-stands =
      sym (left_same (λ (n : Kept). n.finished) k (λ g. refl)) ∙ (left_stands line_cap h k s).finished ∙ sym (last_text-plain h)

  pub is_interrupted-stands : k.is_interrupted ≡ is_interrupted h
  is_interrupted-stands =
      sym (left_same (λ (n : Kept). n.is_interrupted) k (λ g. refl)) ∙ (left_stands line_cap h k s).is_interrupted ∙ sym (is_interrupted-plain h)
