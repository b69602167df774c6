-- Items that were read, the nearest first, in front of others.
use Rattle.std.proofs.Common.{◌≡◌, ℕ, ◌+◌, Bool, true, false, List, [], ◌∷◌, ◌++◌, length, refl, sym, ap, ◌∙◌, arith, ◌||◌, None, is_some, sum_by, if◌then◌else◌}
use Rattle.std.specs.List.{list_any}
use Rattle.std.proofs.Math.Bool.{or-false}
use Rattle.std.proofs.lemmas.List.Sums.{sum_by-cons}
use Rattle.tbl_text.specs.Items.{Item, columns, is_glyph, note}
use Rattle.tbl_text.specs.Measuring.{before_glyphs, has_notes, len_of, text_measured, up_to_last_glyph, width_of}
use Rattle.tbl_text.specs.MeasuredSoFar.{behind_glyphs, measured_behind}
use Rattle.tbl_text.specs.declared.measure.Measuring.{Measuring}

-- the items that were read, and then others
abbrev pub onto : List Item → List Item → List Item
onto [] rest = rest
onto (x ∷ before) rest = onto before (x ∷ rest)

-- items that were read behind others
pub onto-onto : (read before rest : List Item) → onto (onto read before) rest ≡ onto before (read ++ rest)
onto-onto [] before rest = refl
onto-onto (x ∷ read) before rest = onto-onto read (x ∷ before) rest

-- a sum over them
pub sum-onto : (f : Item → ℕ) (before rest : List Item) → sum_by f (onto before rest) ≡ sum_by f before + sum_by f rest
sum-onto f [] rest = omega arith
sum-onto f (x ∷ before) rest = sum-onto f before (x ∷ rest) ∙ omega (arith, sum_by-cons f x rest, sum_by-cons f x before)

-- whether something is told of them
or-swap : (a b c : Bool) → (a || (b || c)) ≡ ((b || a) || c)
or-swap true true c = refl
or-swap true false c = refl
or-swap false true c = refl
or-swap false false c = refl

pub any-onto : (test : Item → Bool) (before rest : List Item) → list_any test (onto before rest) ≡ (list_any test before || list_any test rest)
any-onto test [] rest = refl
any-onto test (x ∷ before) rest = any-onto test before (x ∷ rest) ∙ or-swap (list_any test before) (test x) (list_any test rest)

-- how many of their bytes reach up to the last glyph
abbrev pub glyphs_of : List Item → ℕ
glyphs_of [] = 0
glyphs_of (x ∷ before) = if is_glyph x.what then len_of (x ∷ before) else glyphs_of before

-- an item that is read moves over
moved : (x : Item) (before left : List Item) (glyph : Bool) → is_glyph x.what ≡ glyph
    → behind_glyphs (glyphs_of before) (len_of before) (before_glyphs x left) ≡ behind_glyphs (glyphs_of (x ∷ before)) (len_of (x ∷ before)) left
moved x before [] true is =
    ap (λ (t : Bool). behind_glyphs (glyphs_of before) (len_of before) (if t then x ∷ [] else [])) is
    ∙ omega (arith, sum_by-cons (λ i. length i.bytes) x [], sum_by-cons (λ i. length i.bytes) x before)
    ∙ ap (λ (t : Bool). if t then len_of (x ∷ before) else glyphs_of before) (sym is)
moved x before [] false is =
    ap (λ (t : Bool). behind_glyphs (glyphs_of before) (len_of before) (if t then x ∷ [] else [])) is
    ∙ ap (λ (t : Bool). if t then len_of (x ∷ before) else glyphs_of before) (sym is)
moved x before (y ∷ left) glyph is = omega (arith, sum_by-cons (λ i. length i.bytes) x (y ∷ left), sum_by-cons (λ i. length i.bytes) x before)

nothing-before : (left : List Item) → len_of left ≡ behind_glyphs 0 0 left
nothing-before [] = refl
nothing-before (x ∷ left) = omega arith

pub glyphs-onto : (before rest : List Item) → len_of (up_to_last_glyph (onto before rest)) ≡ behind_glyphs (glyphs_of before) (len_of before) (up_to_last_glyph rest)
glyphs-onto [] rest = nothing-before (up_to_last_glyph rest)
glyphs-onto (x ∷ before) rest = glyphs-onto before (x ∷ rest) ∙ moved x before (up_to_last_glyph rest) (is_glyph x.what) refl

pub glyphs-behind : (read before : List Item) → glyphs_of (onto read before) ≡ behind_glyphs (glyphs_of before) (len_of before) (up_to_last_glyph read)
glyphs-behind [] before = refl
glyphs-behind (x ∷ read) before = glyphs-behind read (x ∷ before) ∙ sym (moved x before (up_to_last_glyph read) (is_glyph x.what) refl)

-- what they measure
abbrev pub measuring_of : List Item → Measuring
measuring_of before = record { at = len_of before; width = width_of before; glyphs = glyphs_of before; has_notes = has_notes before }

pub measuring-more : (before : List Item) (x : Item) → measured_behind (measuring_of before) (length x.bytes) x.what ≡ measuring_of (x ∷ before)
measuring-more before x =
    let at : len_of before + length x.bytes ≡ len_of (x ∷ before) = omega (arith, sum_by-cons (λ i. length i.bytes) x before) in
    let width : width_of before + columns x.what ≡ width_of (x ∷ before) = omega (arith, sum_by-cons (λ i. columns i.what) x before) in
    ap (λ (n : ℕ). record { at = n; width = width_of before + columns x.what; glyphs = if is_glyph x.what then n else glyphs_of before; has_notes = is_some (note x.what) || has_notes before }) at
    ∙ ap (λ (n : ℕ). record { at = len_of (x ∷ before); width = n; glyphs = glyphs_of (x ∷ before); has_notes = is_some (note x.what) || has_notes before }) width

-- the whole text, which is read
pub text_measured-onto : (before : List Item)
    → text_measured (onto before []) ≡ record { width = width_of before; glyphs = glyphs_of before; split = None; has_notes = has_notes before }
text_measured-onto before =
    let width : width_of (onto before []) ≡ width_of before = sum-onto (λ i. columns i.what) before [] ∙ omega arith in
    let notes : has_notes (onto before []) ≡ has_notes before = any-onto (λ i. is_some (note i.what)) before [] ∙ or-false (has_notes before) in
    let glyphs : len_of (up_to_last_glyph (onto before [])) ≡ glyphs_of before = glyphs-onto before [] in
    ap (λ (n : ℕ). record { width = n; glyphs = len_of (up_to_last_glyph (onto before [])); split = None; has_notes = has_notes (onto before []) }) width
    ∙ ap (λ (n : ℕ). record { width = width_of before; glyphs = n; split = None; has_notes = has_notes (onto before []) }) glyphs
    ∙ ap (λ (t : Bool). record { width = width_of before; glyphs = glyphs_of before; split = None; has_notes = t }) notes
