-- How many things may be half read within each other.
use Rattle.std.proofs.Common.{◌≡◌, ℕ, ◌+◌, ◌*◌, ◌<◌, ◌≤◌, Bool, true, false, ◌&&◌, not, List, [], ◌∷◌, drop, length, Option, refl, sym, ap, subst, ◌∙◌, arith, rules, pos, nat_le, if◌then◌else◌, leb-false}
use Rattle.std.proofs.lemmas.Bool.{lt-leb}
use Rattle.input_escapes.specs.OpenEscape.{OpenEscape, Backslash, Comment, Name, Size, Delimited, Width, Condition, names_in, text_held, widths_in}
use Rattle.input_escapes.specs.EscapeTexts.{IsOnTop}
use Rattle.input_escapes.specs.OpenEscapes.{most_names, most_widths, surroundings, reads_text, reads_widths}
use Rattle.input_escapes.specs.Nesting.{IsNested, is_nested, is_nothing, is_open, may_stand}
use Rattle.input_escapes.proofs.EscapeTexts.{with_delimiter, with_part}
use Rattle.input_escapes.specs.declared.escapes.NameUse.{NameUse}
use Rattle.input_escapes.specs.declared.open_escape.ConditionPart.{ConditionPart}
use Rattle.input_escapes.specs.declared.open_escape.CopyUnit.{CopyUnit}
use Rattle.input_escapes.specs.declared.open_escape.HeldEscape.TheVariants.{Backslash as BackslashRead}
use Rattle.input_escapes.specs.declared.open_escape.HeldEscape.{HeldEscape}
use Rattle.input_escapes.specs.declared.open_escape.NamePart.{NamePart}
use Rattle.input_escapes.specs.declared.open_escape.Surroundings.{Surroundings}
use Rattle.input_escapes.specs.declared.open_escape.Surroundings.TheVariants.{Text as InText, Arguments as InArguments, Copy as InCopy}

-- of two things that hold, the first does
first_of : (a b : Bool) → a && b ≡ true → a ≡ true
first_of true b both = refl
first_of false b both = both

-- and the second
second_of : (a b : Bool) → a && b ≡ true → b ≡ true
second_of true b both = both
second_of false b both = absurd (search (rules, both))

-- what doesn't hold is false
not_true : (a : Bool) → not a ≡ true → a ≡ false
not_true true is = absurd (search (rules, is))
not_true false is = refl

-- each stands where something may stand
pub open-rest : (half : OpenEscape) (rest : List OpenEscape) → IsNested (half ∷ rest) → is_open rest ≡ true
open-rest half rest nested = first_of (is_open rest) (may_stand half rest) (first_of (is_open rest && may_stand half rest) (is_nested rest) nested)

-- and where it may
pub may_stand-rest : (half : OpenEscape) (rest : List OpenEscape) → IsNested (half ∷ rest) → may_stand half rest ≡ true
may_stand-rest half rest nested =
    second_of (is_open rest) (may_stand half rest) (first_of (is_open rest && may_stand half rest) (is_nested rest) nested)

-- above others that are nested
pub IsNested-rest : (half : OpenEscape) (rest : List OpenEscape) → IsNested (half ∷ rest) → IsNested rest
IsNested-rest half rest nested =
    second_of (is_open rest && may_stand half rest) (is_nested rest) nested

-- nothing
nothing-escapes : (half : List OpenEscape) → is_nothing half ≡ true → half ≡ []
nothing-escapes [] is = refl
nothing-escapes (first ∷ rest) is = absurd (search (rules, is))

-- a condition stands above nothing
nothing-below : (part : ConditionPart) (text : List ℕ) (rest : List OpenEscape) → IsNested (Condition part text ∷ rest)
    → rest ≡ []
nothing-below part text rest nested = nothing-escapes rest (may_stand-rest (Condition part text) rest nested)

-- where text is read widths are too
reads_widths-text : (around : Surroundings) → reads_text around ≡ true → reads_widths around ≡ true
reads_widths-text (InText place) reads = refl
reads_widths-text InArguments reads = refl
reads_widths-text InCopy reads = reads

-- a text that isn't too deep to be measured stands within fewer than may be
widths-below : (delimiter : Option ℕ) (width : ℕ) (rest : List OpenEscape) → IsNested (Width delimiter width false ∷ rest) → widths_in rest < most_widths
widths-below delimiter width rest nested =
    leb-false most_widths (widths_in rest)
    (not_true (nat_le most_widths (widths_in rest))
    (second_of (reads_widths (surroundings (InText (pos 0)) rest)) (not (nat_le most_widths (widths_in rest))) (may_stand-rest (Width delimiter width false) rest nested)))

-- where widths are read, there are no more than may be
widths-around : (half : List OpenEscape) → IsNested half → reads_widths (surroundings (InText (pos 0)) half) ≡ true → widths_in half ≤ most_widths
widths-around [] nested around = omega arith
widths-around (Backslash ∷ rest) nested around = absurd (search (rules, around))
widths-around (Comment ∷ rest) nested around = absurd (search (rules, around))
widths-around (Name purpose part ∷ rest) nested around = absurd (search (rules, around))
widths-around (Size part ∷ rest) nested around = absurd (search (rules, around))
widths-around (Delimited purpose delimiter text ∷ rest) nested around =
    widths-around rest (IsNested-rest (Delimited purpose delimiter text) rest nested)
    (reads_widths-text (surroundings (InText (pos 0)) rest) (may_stand-rest (Delimited purpose delimiter text) rest nested))
widths-around (Width delimiter width true ∷ rest) nested around = absurd (search (rules, around))
widths-around (Width delimiter width false ∷ rest) nested around = omega (arith, widths-below delimiter width rest nested)
widths-around (Condition part text ∷ rest) nested around = omega (arith, ap widths_in (nothing-below part text rest nested))

-- of texts that are measured there is one more at most
widths-nested : (half : List OpenEscape) → IsNested half → widths_in half ≤ most_widths + 1
widths-nested [] nested = omega arith
widths-nested (Backslash ∷ rest) nested = widths-nested rest (IsNested-rest Backslash rest nested)
widths-nested (Comment ∷ rest) nested = widths-nested rest (IsNested-rest Comment rest nested)
widths-nested (Name purpose part ∷ rest) nested = widths-nested rest (IsNested-rest (Name purpose part) rest nested)
widths-nested (Size part ∷ rest) nested = widths-nested rest (IsNested-rest (Size part) rest nested)
widths-nested (Delimited purpose delimiter text ∷ rest) nested = widths-nested rest (IsNested-rest (Delimited purpose delimiter text) rest nested)
widths-nested (Width delimiter width is_deep ∷ rest) nested =
    let around : reads_widths (surroundings (InText (pos 0)) rest) ≡ true =
    first_of (reads_widths (surroundings (InText (pos 0)) rest)) (if is_deep then nat_le most_widths (widths_in rest) else not (nat_le most_widths (widths_in rest)))
    (may_stand-rest (Width delimiter width is_deep) rest nested) in
    omega (arith, widths-around rest (IsNested-rest (Width delimiter width is_deep) rest nested) around)
widths-nested (Condition part text ∷ rest) nested = widths-nested rest (IsNested-rest (Condition part text) rest nested)

-- of names there are no more than may be
names-nested : (half : List OpenEscape) → IsNested half → names_in half ≤ most_names
names-nested [] nested = omega arith
names-nested (Backslash ∷ rest) nested = names-nested rest (IsNested-rest Backslash rest nested)
names-nested (Comment ∷ rest) nested = names-nested rest (IsNested-rest Comment rest nested)
names-nested (Name purpose part ∷ rest) nested =
    let room : names_in rest < most_names =
    leb-false most_names (names_in rest) (not_true (nat_le most_names (names_in rest)) (may_stand-rest (Name purpose part) rest nested)) in
    omega arith
names-nested (Size part ∷ rest) nested = names-nested rest (IsNested-rest (Size part) rest nested)
names-nested (Delimited purpose delimiter text ∷ rest) nested = names-nested rest (IsNested-rest (Delimited purpose delimiter text) rest nested)
names-nested (Width delimiter width is_deep ∷ rest) nested = names-nested rest (IsNested-rest (Width delimiter width is_deep) rest nested)
names-nested (Condition part text ∷ rest) nested = names-nested rest (IsNested-rest (Condition part text) rest nested)

-- what may stand beside the names, and twice the texts that are measured: a condition or a text between delimiters, and
-- one on top
abbrev spare : List OpenEscape → ℕ
spare [] = 0
spare (Backslash ∷ rest) = 2
spare (Comment ∷ rest) = 2
spare (Name purpose part ∷ rest) = 1
spare (Size part ∷ rest) = 2
spare (Delimited purpose delimiter text ∷ rest) = 1
spare (Width delimiter width is_deep ∷ rest) = 0
spare (Condition part text ∷ rest) = 1

spare-open : (half : List OpenEscape) → is_open half ≡ true → spare half ≤ 1
spare-open [] is = omega arith
spare-open (Backslash ∷ rest) is = absurd (search (rules, is))
spare-open (Comment ∷ rest) is = absurd (search (rules, is))
spare-open (Name purpose part ∷ rest) is = omega arith
spare-open (Size part ∷ rest) is = absurd (search (rules, is))
spare-open (Delimited purpose delimiter text ∷ rest) is = omega arith
spare-open (Width delimiter width is_deep ∷ rest) is = omega arith
spare-open (Condition part text ∷ rest) is = omega arith

spare-text : (half : List OpenEscape) → reads_text (surroundings (InText (pos 0)) half) ≡ true → spare half ≡ 0
spare-text [] around = refl
spare-text (Backslash ∷ rest) around = absurd (search (rules, around))
spare-text (Comment ∷ rest) around = absurd (search (rules, around))
spare-text (Name purpose part ∷ rest) around = absurd (search (rules, around))
spare-text (Size part ∷ rest) around = absurd (search (rules, around))
spare-text (Delimited purpose delimiter text ∷ rest) around = absurd (search (rules, around))
spare-text (Width delimiter width is_deep ∷ rest) around = refl
spare-text (Condition part text ∷ rest) around = absurd (search (rules, around))

spare-few : (half : List OpenEscape) → spare half ≤ 2
spare-few [] = omega arith
spare-few (Backslash ∷ rest) = omega arith
spare-few (Comment ∷ rest) = omega arith
spare-few (Name purpose part ∷ rest) = omega arith
spare-few (Size part ∷ rest) = omega arith
spare-few (Delimited purpose delimiter text ∷ rest) = omega arith
spare-few (Width delimiter width is_deep ∷ rest) = omega arith
spare-few (Condition part text ∷ rest) = omega arith

length-spare : (half : List OpenEscape) → IsNested half → length half ≤ names_in half + 2 * widths_in half + spare half
length-spare [] nested = omega arith
length-spare (Backslash ∷ rest) nested =
    omega (arith, length-spare rest (IsNested-rest Backslash rest nested), spare-open rest (open-rest Backslash rest nested))
length-spare (Comment ∷ rest) nested =
    omega (arith, length-spare rest (IsNested-rest Comment rest nested), spare-open rest (open-rest Comment rest nested))
length-spare (Name purpose part ∷ rest) nested =
    omega (arith, length-spare rest (IsNested-rest (Name purpose part) rest nested), spare-open rest (open-rest (Name purpose part) rest nested))
length-spare (Size part ∷ rest) nested =
    omega (arith, length-spare rest (IsNested-rest (Size part) rest nested), spare-open rest (open-rest (Size part) rest nested))
length-spare (Delimited purpose delimiter text ∷ rest) nested =
    let top = Delimited purpose delimiter text in
    omega (arith, length-spare rest (IsNested-rest top rest nested), spare-text rest (may_stand-rest top rest nested))
length-spare (Width delimiter width is_deep ∷ rest) nested =
    let top = Width delimiter width is_deep in
    omega (arith, length-spare rest (IsNested-rest top rest nested), spare-open rest (open-rest top rest nested))
length-spare (Condition part text ∷ rest) nested = omega (arith, ap length (nothing-below part text rest nested))

-- so there are few things in all
pub length-nested : (half : List OpenEscape) → IsNested half → length half ≤ 28
length-nested half nested =
    omega (arith, length-spare half nested, spare-few half, names-nested half nested, widths-nested half nested)

-- of these no more are names
names_in-length : (half : List OpenEscape) → names_in half ≤ length half
names_in-length [] = omega arith
names_in-length (Backslash ∷ rest) = omega (arith, names_in-length rest)
names_in-length (Comment ∷ rest) = omega (arith, names_in-length rest)
names_in-length (Name purpose part ∷ rest) = omega (arith, names_in-length rest)
names_in-length (Size part ∷ rest) = omega (arith, names_in-length rest)
names_in-length (Delimited purpose delimiter text ∷ rest) = omega (arith, names_in-length rest)
names_in-length (Width delimiter width is_deep ∷ rest) = omega (arith, names_in-length rest)
names_in-length (Condition part text ∷ rest) = omega (arith, names_in-length rest)

-- below the top of a few there are fewer names than may be
pub names-below : (item : HeldEscape) (half : List OpenEscape) (top : IsOnTop item half) → length half ≤ 8 → names_in top.rest < 8
names-below item half top few = omega (arith, names_in-length top.rest, ap length top.same, few)

-- so a name may stand where a backslash stands
pub IsNested-named : (purpose : NameUse) (part : NamePart) (half : List OpenEscape) → IsNested half → (top : IsOnTop BackslashRead half) → names_in top.rest < 8
    → IsNested (Name purpose part ∷ drop 1 half)
IsNested-named purpose part half nested top few =
    let rest : List OpenEscape = top.rest in
    let within : IsNested (Backslash ∷ rest) = subst IsNested top.same nested in
    subst (λ (h : List OpenEscape). IsNested (Name purpose part ∷ drop 1 h)) (sym top.same)
    (ap (λ (c : Bool). c && not (nat_le most_names (names_in rest)) && is_nested rest) (open-rest Backslash rest within)
    ∙ ap (λ (c : Bool). not c && is_nested rest) (lt-leb most_names (names_in rest) few)
    ∙ IsNested-rest Backslash rest within)

-- a unit more of a text
pub IsNested-text_held : (unit : CopyUnit) (half : List OpenEscape) → IsNested half → IsNested (text_held unit half)
IsNested-text_held unit [] nested = nested
IsNested-text_held unit (Backslash ∷ rest) nested = nested
IsNested-text_held unit (Comment ∷ rest) nested = nested
IsNested-text_held unit (Name purpose part ∷ rest) nested = nested
IsNested-text_held unit (Size part ∷ rest) nested = nested
IsNested-text_held unit (Delimited purpose delimiter text ∷ rest) nested = nested
IsNested-text_held unit (Width delimiter width is_deep ∷ rest) nested = nested
IsNested-text_held unit (Condition part text ∷ rest) nested = nested

-- the delimiter of a text
pub IsNested-with_delimiter : (d : ℕ) (half : List OpenEscape) → IsNested half → IsNested (with_delimiter d half)
IsNested-with_delimiter d [] nested = nested
IsNested-with_delimiter d (Backslash ∷ rest) nested = nested
IsNested-with_delimiter d (Comment ∷ rest) nested = nested
IsNested-with_delimiter d (Name purpose part ∷ rest) nested = nested
IsNested-with_delimiter d (Size part ∷ rest) nested = nested
IsNested-with_delimiter d (Delimited purpose delimiter text ∷ rest) nested = nested
IsNested-with_delimiter d (Width delimiter width is_deep ∷ rest) nested = nested
IsNested-with_delimiter d (Condition part text ∷ rest) nested = nested

-- another part of a condition
pub IsNested-with_part : (part : ConditionPart) (half : List OpenEscape) → IsNested half → IsNested (with_part part half)
IsNested-with_part part [] nested = nested
IsNested-with_part part (Backslash ∷ rest) nested = nested
IsNested-with_part part (Comment ∷ rest) nested = nested
IsNested-with_part part (Name purpose other ∷ rest) nested = nested
IsNested-with_part part (Size other ∷ rest) nested = nested
IsNested-with_part part (Delimited purpose delimiter text ∷ rest) nested = nested
IsNested-with_part part (Width delimiter width is_deep ∷ rest) nested = nested
IsNested-with_part part (Condition before text ∷ rest) nested = nested
