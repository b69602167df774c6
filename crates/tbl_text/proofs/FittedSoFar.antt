-- How much of a text fits in so many columns, item by item.
use Rattle.std.proofs.Common.{◌≡◌, ℕ, ◌+◌, ◌-◌, ◌≤◌, Bool, true, false, List, [], ◌∷◌, length, take, drop, sym, ap, ◌∙◌, arith, length-drop, nat_lt, if◌then◌else◌, drop-drop, length-take-le}
use Rattle.std.proofs.lemmas.List.{drop_all}
use Rattle.std.proofs.lemmas.List.Sums.{sum_by-cons}
use Rattle.tbl_text.specs.Fitted.{fitting, fitting_len}
use Rattle.tbl_text.specs.Items.{Item, columns, items}
use Rattle.tbl_text.specs.Measuring.{len_of}
use Rattle.tbl_text.specs.declared.items.What.{What}

-- so many bytes of a text fit so far, and so many columns are left
pub record IsFitted (room : ℕ) (text : List ℕ) (at left : ℕ) : Type 0 where
  pub is : at + fitting_len left (drop at text) ≡ fitting_len room text
  pub within : at ≤ length text

-- the next item, by whether it fits
module _ (room : ℕ) (text : List ℕ) (at left len : ℕ) (what : What) (so_far : IsFitted room text at left)
    (first : items (drop at text) ≡ record { bytes = take len (drop at text); what = what } ∷ items (drop len (drop at text))) where
  abbrev next : Item
  next = record { bytes = take len (drop at text); what = what }

  abbrev others : List Item
  others = fitting (left - columns what) (items (drop len (drop at text)))

  fits-by : (t : Bool) → nat_lt left (columns what) ≡ t → fitting_len left (drop at text) ≡ len_of (if t then [] else next ∷ others)
  fits-by t is =
      ap (λ (xs : List Item). len_of (fitting left xs)) first ∙ ap (λ (b : Bool). len_of (if b then [] else next ∷ others)) is

  pub fitted-over : nat_lt left (columns what) ≡ true → at ≡ fitting_len room text
  fitted-over wide = omega (arith, so_far.is, fits-by true wide)

  pub fitted-more : len ≤ length (drop at text) → nat_lt left (columns what) ≡ false → IsFitted room text (at + len) (left - columns what)
  fitted-more inside narrow =
      let size : length (take len (drop at text)) ≡ len = length-take-le len (drop at text) inside in
      let more = sum_by-cons (λ (i : Item). length i.bytes) next others in
      let same : fitting_len (left - columns what) (drop (at + len) text) ≡ len_of others =
      ap (λ (rest : List ℕ). fitting_len (left - columns what) rest) (sym (drop-drop len at text)) in
      record {
        is = omega (arith, so_far.is, fits-by false narrow, more, size, same);
        within = omega (arith, so_far.within, inside, length-drop at text);
      }

-- all of it
pub fitted-all : (room : ℕ) (text : List ℕ) (at left : ℕ) → IsFitted room text at left → length text ≤ at → at ≡ fitting_len room text
fitted-all room text at left so_far end =
    let none : fitting_len left (drop at text) ≡ 0 = ap (λ (rest : List ℕ). fitting_len left rest) (drop_all at text end) in
    omega (arith, so_far.is, none)
