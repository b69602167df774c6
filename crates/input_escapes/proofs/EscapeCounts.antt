-- How many of what the code keeps are names, and texts that are measured.
use Rattle.std.proofs.Common.{◌≡◌, ℕ, ◌+◌, List, [], ◌∷◌, reverse, take, refl, ap, ◌∙◌, arith}
use Rattle.std.specs.List.{sum_by}
use Rattle.std.proofs.lemmas.List.{reverse-append}
use Rattle.std.proofs.lemmas.List.Sums.{sum_by-append}
use Rattle.input_escapes.specs.OpenEscape.{names_in, widths_in}
use Rattle.input_escapes.specs.EscapeTexts.{joined, names_among, widths_among, one_name, one_width}
use Rattle.input_escapes.specs.declared.open_escape.HeldEscape.{HeldEscape}
use Rattle.input_escapes.specs.declared.open_escape.HeldEscape.TheVariants.{Backslash, Comment, Name, Size, Delimited, Width, Condition}

-- a sum with one more
sum_by-cons : (f : HeldEscape → ℕ) (item : HeldEscape) (items : List HeldEscape)
    → sum_by f (item ∷ items) ≡ f item + sum_by f items
sum_by-cons f item items =
    let one : sum_by f (item ∷ []) ≡ 0 + f item = refl in
    omega (arith, one, sum_by-append f (item ∷ []) items)

-- a sum backwards
sum_by-reverse : (f : HeldEscape → ℕ) (items : List HeldEscape) → sum_by f (reverse items) ≡ sum_by f items
sum_by-reverse f [] = refl
sum_by-reverse f (item ∷ items) =
    ap (sum_by f) (reverse-append (item ∷ []) items)
    ∙ sum_by-append f (reverse items) (item ∷ [])
    ∙ (
    let none : sum_by f [] ≡ 0 = refl in
    omega (arith, none, sum_by-cons f item items, sum_by-cons f item [], sum_by-reverse f items)
    )

-- names, from the back on
names_in-back : (items : List HeldEscape) (block : List ℕ) → names_in (joined items block) ≡ names_among items
names_in-back [] block = refl
names_in-back (Backslash ∷ items) block = omega (arith, names_in-back items block)
names_in-back (Comment ∷ items) block = omega (arith, names_in-back items block)
names_in-back (Name purpose part ∷ items) block =
    omega (arith, sum_by-cons one_name (Name purpose part) items, names_in-back items block)
names_in-back (Size part ∷ items) block = omega (arith, names_in-back items block)
names_in-back (Delimited purpose delimiter begin ∷ items) block = omega (arith, names_in-back items (take begin block))
names_in-back (Width delimiter width is_deep ∷ items) block = omega (arith, names_in-back items block)
names_in-back (Condition part begin ∷ items) block = omega (arith, names_in-back items (take begin block))

pub names_in-joined : (items : List HeldEscape) (block : List ℕ) → names_in (joined (reverse items) block) ≡ names_among items
names_in-joined items block = names_in-back (reverse items) block ∙ sum_by-reverse one_name items

-- texts that are measured, from the back on
widths_in-back : (items : List HeldEscape) (block : List ℕ) → widths_in (joined items block) ≡ widths_among items
widths_in-back [] block = refl
widths_in-back (Backslash ∷ items) block = omega (arith, widths_in-back items block)
widths_in-back (Comment ∷ items) block = omega (arith, widths_in-back items block)
widths_in-back (Name purpose part ∷ items) block = omega (arith, widths_in-back items block)
widths_in-back (Size part ∷ items) block = omega (arith, widths_in-back items block)
widths_in-back (Delimited purpose delimiter begin ∷ items) block = omega (arith, widths_in-back items (take begin block))
widths_in-back (Width delimiter width is_deep ∷ items) block =
    omega (arith, sum_by-cons one_width (Width delimiter width is_deep) items, widths_in-back items block)
widths_in-back (Condition part begin ∷ items) block = omega (arith, widths_in-back items (take begin block))

pub widths_in-joined : (items : List HeldEscape) (block : List ℕ) → widths_in (joined (reverse items) block) ≡ widths_among items
widths_in-joined items block = widths_in-back (reverse items) block ∙ sum_by-reverse one_width items
