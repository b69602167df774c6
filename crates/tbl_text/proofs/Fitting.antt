-- What an escape is takes no more columns than the escape has bytes.
use Rattle.std.proofs.Common.{◌≡◌, ℕ, ◌≤◌, Bool, true, false, List, [], ◌∷◌, length, refl, ap, ◌∙◌, arith, ◌==◌, ◌&&◌, Option, Some, None, bytes_eq, cond, find, option_map}
use Rattle.std.specs.List.{list_all}
use Rattle.std.proofs.Math.Bool.{and-false}
use Rattle.input_escapes.specs.Characters.{Character as CharacterOf, character, characters}
use Rattle.input_escapes.specs.Escapes.{escape_of}
use Rattle.input_escapes.specs.declared.escapes.Escape.{Escape as Kind}
use Rattle.input_escapes.specs.declared.escapes.Escape.TheVariants.{Prints, Blank as PrintsBlank, NoWidth, Nothing as GivesNothing, Tab, Interrupts, Brace, LeftOut, Comment, Size, Name, Text as BeginsText, Width}
use Rattle.input_escapes.specs.declared.escapes.NameUse.{NameUse}
use Rattle.input_escapes.specs.declared.escapes.NameUse.TheVariants.{Register, Text as ReadsText, Argument, Character, Font, LeftOut as LeftOutName}
use Rattle.input_escapes.specs.declared.escapes.TextUse.TheVariants.{Motion as OfMotion, LeftOut as LeftOutText}
use Rattle.input_escapes.specs.declared.open_escape.Found.{Found}
use Rattle.input_escapes.specs.declared.open_escape.Found.TheVariants.{GoesOn, Unit as GivesUnit, Holds, Escape, Asks, Motion, Measures, Tells, Decides}
use Rattle.tbl_text.specs.Items.{character_what, columns, escape_what, found_what, name_what}
use Rattle.tbl_text.proofs.Costs.{worth}
use Rattle.tbl_text.proofs.PlainTexts.{one_wide}

-- a name of one byte is no character's, as these all have two
short_other : (name other : List ℕ) → length name ≤ 1 → (length other == 2) ≡ true → bytes_eq name other ≡ false
short_other [] [] short two = absurd (cc two)
short_other [] (x ∷ other) short two = refl
short_other (b ∷ []) [] short two = refl
short_other (b ∷ []) (x ∷ []) short two = absurd (cc two)
short_other (b ∷ []) (x ∷ y ∷ other) short two = and-false (b == x)
short_other (b ∷ c ∷ name) other short two = absurd (omega (arith, short))

-- two tests that hold
first_of : (a b : Bool) → (a && b) ≡ true → a ≡ true
first_of true b both = refl
first_of false b both = both

second_of : (a b : Bool) → (a && b) ≡ true → b ≡ true
second_of true b both = both
second_of false b both = absurd (cc both)

not_found : (name : List ℕ) (rows : List CharacterOf) → length name ≤ 1 → list_all (λ row. length row.name == 2) rows ≡ true
    → find (λ row. bytes_eq name row.name) rows ≡ None
not_found name [] short two = refl
not_found name (row ∷ rows) short two =
    ap (λ (t : Bool). cond t (Some row) (find (λ r. bytes_eq name r.name) rows))
    (short_other name row.name short (first_of (length row.name == 2) (list_all (λ r. length r.name == 2) rows) two))
    ∙ not_found name rows short (second_of (length row.name == 2) (list_all (λ r. length r.name == 2) rows) two)

no_character : (name : List ℕ) → length name ≤ 1 → character name ≡ None
no_character name short = ap (option_map (λ row. row.text)) (not_found name characters short refl)

-- an escape without a name has a column at most
escape-narrow : (b : ℕ) (kind : Kind) → columns (escape_what b kind) ≤ 1
escape-narrow b (Prints byte) = one_wide byte
escape-narrow b PrintsBlank = omega arith
escape-narrow b NoWidth = omega arith
escape-narrow b GivesNothing = omega arith
escape-narrow b Tab = omega arith
escape-narrow b Interrupts = omega arith
escape-narrow b Brace = omega arith
escape-narrow b LeftOut = omega arith
escape-narrow b Comment = omega arith
escape-narrow b Size = omega arith
escape-narrow b (Name purpose) = omega arith
escape-narrow b (BeginsText OfMotion) = omega arith
escape-narrow b (BeginsText (LeftOutText letter)) = omega arith
escape-narrow b Width = omega arith

-- so has one with a name that isn't a character's of two bytes
short-narrow : (name : List ℕ) → length name ≤ 1 → columns (name_what Character (Some name)) ≤ 1
short-narrow name short =
    let none : columns (name_what Character (Some name)) ≡ 0 = ap (λ (o : Option (List ℕ)). columns (character_what o)) (no_character name short) in
    omega (arith, none)

name-fits : (len : ℕ) (purpose : NameUse) (name : Option (List ℕ)) → 1 ≤ len → worth (Asks purpose name) ≤ len → columns (name_what purpose name) ≤ 4
    → columns (name_what purpose name) ≤ len
name-fits len (Register step) name some dear few = omega arith
name-fits len ReadsText name some dear few = omega arith
name-fits len Argument name some dear few = omega arith
name-fits len (LeftOutName b) name some dear few = omega arith
name-fits len Font name some dear few = omega arith
name-fits len Character None some dear few = omega arith
name-fits len Character (Some []) some dear few = omega (arith, some, short-narrow [] (omega arith))
name-fits len Character (Some (a ∷ [])) some dear few = omega (arith, some, short-narrow (a ∷ []) (omega arith))
name-fits len Character (Some (a ∷ b ∷ more)) some dear few = omega (arith, dear, few)

pub found-fits : (len : ℕ) (found : Found) → 1 ≤ len → worth found ≤ len → columns (found_what found) ≤ 4 → columns (found_what found) ≤ len
found-fits len (Escape b) some dear few = omega (arith, some, escape-narrow b (escape_of b))
found-fits len (Asks purpose name) some dear few = name-fits len purpose name some dear few
found-fits len (Motion width remark) some dear few = omega arith
found-fits len (Measures width) some dear few = omega arith
found-fits len GoesOn some dear few = omega arith
found-fits len (GivesUnit unit) some dear few = omega arith
found-fits len (Holds unit) some dear few = omega arith
found-fits len (Tells remark) some dear few = omega arith
found-fits len (Decides decision freed) some dear few = omega arith
