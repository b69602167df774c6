-- Bytes of a condition that are taken at once: what is half read behind them.
use Rattle.std.proofs.Common.{◌≡◌, ℕ, suc, ◌+◌, ◌==◌, ◌≤◌, ◌<◌, Bool, true, false, not, ◌&&◌, ◌||◌, if◌then◌else◌, List, [], ◌∷◌, ◌++◌, length, take, get_or, Option, Some, None, refl, sym, ap, subst, ◌∙◌, arith, length-append, codes, nat_le, leb-true, ne_eqb}
use Rattle.std.proofs.Math.Seq.{take-suc}
use Rattle.std.proofs.lemmas.Bool.{and_parts, lt-leb}
use Rattle.input_source.specs.Bytes.{backslash, blank, is_argument_byte, is_digit, is_dropped, is_silent, newline, tab}
use Rattle.input_escapes.specs.ConditionFronts.{ByteTaken, HalvesTaken, HoldsOn, IsHeld, IsRead, NothingTaken, TakesByte, TakesFront, TakesOn, is_of_expression}
use Rattle.input_escapes.specs.Conditions.{begins_expression, byte_or_backslash, choice_made, delimiter_met, expression_over, is_among, to_decide}
use Rattle.input_escapes.specs.EscapeFronts.{ReadsByte, ReadsOn}
use Rattle.input_escapes.specs.OpenEscape.{OpenEscape, Backslash, Condition, Reads as ReadsOf, text_held, texts_held}
use Rattle.input_escapes.specs.EscapeTexts.{IsOnTop, KeptEscapes, leaving}
use Rattle.input_escapes.specs.declared.open_escape.ConditionPart.{ConditionPart}
use Rattle.input_escapes.specs.declared.open_escape.ConditionPart.TheVariants.{Choice, Compared, Expression}
use Rattle.input_escapes.specs.declared.open_escape.CopyUnit.TheVariants.{Byte}
use Rattle.input_escapes.specs.declared.open_escape.Decision.TheVariants.{Is, OnPages}
use Rattle.input_escapes.specs.declared.open_escape.HeldEscape.TheVariants.{Condition as ConditionRead}
use Rattle.input_escapes.specs.declared.open_escape.Found.{Found}
use Rattle.input_escapes.specs.declared.open_escape.Found.TheVariants.{GoesOn, Holds}

-- one byte more is held of a condition
held-one : (part later : ConditionPart) (text : List ℕ) (rest : List OpenEscape) (b : ℕ)
    → texts_held (text_held (Byte b) (Condition later text ∷ rest)) ≡ texts_held (Condition part text ∷ rest) + 1
held-one part later text rest b = omega (arith, length-append text (b ∷ []))

-- none of five tests holds
none_of_five : (first second third fourth fifth : Bool) → (not (first || (second || third)) && not (fourth || fifth)) ≡ true
    → (first ≡ false) × ((second ≡ false) × ((third ≡ false) × ((fourth ≡ false) × (fifth ≡ false))))
none_of_five true second third fourth fifth none = absurd (cc)
none_of_five false true third fourth fifth none = absurd (cc)
none_of_five false false true fourth fifth none = absurd (cc)
none_of_five false false false true fifth none = absurd (cc)
none_of_five false false false false true none = absurd (cc)
none_of_five false false false false false none = (refl, (refl, (refl, (refl, refl))))

-- a byte of an expression is held
holds-expression : (negated : Bool) (text : List ℕ) (rest : List OpenEscape) (b : ℕ) → is_of_expression b ≡ true
    → HoldsOn (Condition (Expression negated) text ∷ rest) b (Condition (Expression negated) text ∷ rest)
holds-expression negated text rest b is =
    let none = none_of_five (b == backslash) (is_dropped b) (b == newline) (b == blank) (b == tab) is in
    let half : List OpenEscape = Condition (Expression negated) text ∷ rest in
    record {
      stands = none.1.0;
      no_newline = none.1.1.0;
      stays =
          ap (λ (c : Bool). (c || b == tab) || b == newline) none.1.1.1.0
          ∙ ap (λ (c : Bool). c || b == newline) none.1.1.1.1
          ∙ none.1.1.0;
      holds = λ base.
          ap (λ (c : Bool). if c then (GoesOn, Backslash ∷ half) else if c || b == tab then expression_over rest negated (Some b) text else (Holds (Byte b), half)) none.0
          ∙ ap (λ (c : Bool). if c then expression_over rest negated (Some b) text else (Holds (Byte b), half)) none.1.1.1.1;
      held = held-one (Expression negated) (Expression negated) text rest b;
    }

-- a byte below another, and one above it, is another one
below : (b c : ℕ) → b < c → (b == c) ≡ false
below b c less = ne_eqb b c (λ same. omega (arith, less, same))

above : (b c : ℕ) → c < b → (b == c) ≡ false
above b c more = ne_eqb b c (λ same. omega (arith, more, same))

-- what a byte of a choice gives, by the tests on it
abbrev asked : Bool → List ℕ → List OpenEscape → ℕ → Bool → Bool → Bool → Bool → Bool → Bool → Bool → Bool → ReadsOf
asked negated text rest b escapes blanks bang o e t n number =
    if escapes then (GoesOn, Backslash ∷ Condition (Choice negated) text ∷ rest)
    else if blanks && not negated then (GoesOn, Condition (Choice negated) text ∷ rest)
    else if bang && not negated then (GoesOn, Condition (Choice true) text ∷ rest)
    else if o then (GoesOn, to_decide rest text (OnPages (not negated)) None)
    else if e then (GoesOn, to_decide rest text (OnPages negated) None)
    else if t then (GoesOn, to_decide rest text (Is negated) None)
    else if n then (GoesOn, to_decide rest text (Is (not negated)) None)
    else if number then (Holds (Byte b), Condition (Expression negated) text ∷ rest)
    else (GoesOn, Condition (Compared negated b None) text ∷ rest)

-- a digit begins an expression
holds-digit : (negated : Bool) (text : List ℕ) (rest : List OpenEscape) (b : ℕ) → is_digit b ≡ true
    → HoldsOn (Condition (Choice negated) text ∷ rest) b (Condition (Expression negated) text ∷ rest)
holds-digit negated text rest b is =
    let bounds = and_parts (nat_le 48 b) (nat_le b 57) is in
    let least : 48 ≤ b = leb-true 48 b bounds.0 in
    let most : b ≤ 57 = leb-true b 57 bounds.1 in
    let gives = asked negated text rest b in
    let number : begins_expression b ≡ true = ap (λ (c : Bool). c || is_among (codes "(+-.|") b) is in
    record {
      stands =
          ap (λ (c : Bool). (c || b == 127) && not (b == newline || b == tab || is_silent b)) (lt-leb (suc b) 32 (omega (arith, least)))
          ∙ ap (λ (c : Bool). c && not (b == newline || b == tab || is_silent b)) (below b 127 (omega (arith, most)));
      no_newline = above b newline (omega (arith, least));
      stays = above b newline (omega (arith, least));
      holds = λ base.
          ap (λ (c : Bool). gives c (b == blank) (b == 33) (b == 111) (b == 101) (b == 116) (b == 110) (begins_expression b)) (below b 92 (omega (arith, most)))
          ∙ ap (λ (c : Bool). gives false c (b == 33) (b == 111) (b == 101) (b == 116) (b == 110) (begins_expression b)) (above b 32 (omega (arith, least)))
          ∙ ap (λ (c : Bool). gives false false c (b == 111) (b == 101) (b == 116) (b == 110) (begins_expression b)) (above b 33 (omega (arith, least)))
          ∙ ap (λ (c : Bool). gives false false false c (b == 101) (b == 116) (b == 110) (begins_expression b)) (below b 111 (omega (arith, most)))
          ∙ ap (λ (c : Bool). gives false false false false c (b == 116) (b == 110) (begins_expression b)) (below b 101 (omega (arith, most)))
          ∙ ap (λ (c : Bool). gives false false false false false c (b == 110) (begins_expression b)) (below b 116 (omega (arith, most)))
          ∙ ap (λ (c : Bool). gives false false false false false false c (begins_expression b)) (below b 110 (omega (arith, most)))
          ∙ ap (λ (c : Bool). gives false false false false false false false c) number;
      held = held-one (Choice negated) (Expression negated) text rest b;
    }

-- a byte was taken that is held
takes-held : (b : ℕ) (old new : KeptEscapes) (top : List OpenEscape) → HoldsOn old.escapes b top → new ≡ record old { escapes = text_held (Byte b) top } → TakesByte b true old new
takes-held b old new top holds is = record {
  taken = λ is_so. IsHeld top holds (ap (λ (k : KeptEscapes). k.escapes) is);
  kept = λ isnt. absurd (cc);
  room = ap (λ (k : KeptEscapes). k.room) is;
}

-- a byte was taken that is one more of an expression
pub takes-more : (negated : Bool) (begin b : ℕ) (old new : KeptEscapes) → IsOnTop (ConditionRead (Expression negated) begin) old.escapes → is_of_expression b ≡ true
    → new ≡ record old { escapes = text_held (Byte b) old.escapes } → TakesByte b true old new
takes-more negated begin b old new top is held =
    takes-held b old new old.escapes (subst (λ (half : List OpenEscape). HoldsOn half b half) (sym top.same) (holds-expression negated top.text top.rest b is)) held

-- what a choice becomes as a digit begins its expression
abbrev pub choice_over : (negated : Bool) (begin : ℕ) (old : KeptEscapes) → IsOnTop (ConditionRead (Choice negated) begin) old.escapes → KeptEscapes
choice_over negated begin old top = record old { escapes = Condition (Expression negated) top.text ∷ top.rest }

-- the digit was taken
pub takes-digit : (negated : Bool) (begin b : ℕ) (old now new : KeptEscapes) (top : IsOnTop (ConditionRead (Choice negated) begin) old.escapes) → is_digit b ≡ true
    → now ≡ choice_over negated begin old top → new ≡ record now { escapes = text_held (Byte b) now.escapes } → TakesByte b true old new
takes-digit negated begin b old now new top digit is held =
    let there : List OpenEscape = Condition (Expression negated) top.text ∷ top.rest in
    takes-held b old new there
    (subst (λ (half : List OpenEscape). HoldsOn half b there) (sym top.same) (holds-digit negated top.text top.rest b digit))
    (held ∙ ap (λ (k : KeptEscapes). record k { escapes = text_held (Byte b) k.escapes }) is)

-- none of three tests holds
none_of_three : (first second third : Bool) → not (first || (second || third)) ≡ true → (first ≡ false) × ((second ≡ false) × (third ≡ false))
none_of_three true second third none = absurd (cc)
none_of_three false true third none = absurd (cc)
none_of_three false false true none = absurd (cc)
none_of_three false false false none = (refl, (refl, refl))

-- what a byte of a choice gives that begins no number, by the tests on it
abbrev chosen : Bool → List ℕ → List OpenEscape → ℕ → Bool → Bool → Bool → Bool → Bool → Bool → Bool → ReadsOf
chosen negated text rest b blanks bang o e t n number =
    if blanks then (GoesOn, Condition (Choice negated) text ∷ rest)
    else if bang then (GoesOn, Condition (Choice true) text ∷ rest)
    else if o then (GoesOn, to_decide rest text (OnPages (not negated)) None)
    else if e then (GoesOn, to_decide rest text (OnPages negated) None)
    else if t then (GoesOn, to_decide rest text (Is negated) None)
    else if n then (GoesOn, to_decide rest text (Is (not negated)) None)
    else if number then (Holds (Byte b), Condition (Expression negated) text ∷ rest)
    else (GoesOn, Condition (Compared negated b None) text ∷ rest)

-- it gives nothing yet, and holds no more
record GoesOnWith (half : List OpenEscape) (r : ReadsOf) : Type 0 where
  found : r ≡ (GoesOn, r.1)
  held : texts_held r.1 ≡ texts_held half

chosen-goes : (negated : Bool) (text : List ℕ) (rest : List OpenEscape) (b : ℕ) (blanks bang o e t n : Bool)
    → GoesOnWith (Condition (Choice negated) text ∷ rest) (chosen negated text rest b blanks bang o e t n false)
chosen-goes negated text rest b true bang o e t n = record { found = refl; held = refl }
chosen-goes negated text rest b false true o e t n = record { found = refl; held = refl }
chosen-goes negated text rest b false false true e t n = record { found = refl; held = refl }
chosen-goes negated text rest b false false false true t n = record { found = refl; held = refl }
chosen-goes negated text rest b false false false false true n = record { found = refl; held = refl }
chosen-goes negated text rest b false false false false false true = record { found = refl; held = refl }
chosen-goes negated text rest b false false false false false false = record { found = refl; held = refl }

choice-goes : (negated : Bool) (text : List ℕ) (rest : List OpenEscape) (b : ℕ) → begins_expression b ≡ false
    → GoesOnWith (Condition (Choice negated) text ∷ rest) (choice_made rest negated text b)
choice-goes negated text rest b no_number =
    subst (λ (c : Bool). GoesOnWith (Condition (Choice negated) text ∷ rest)
    (chosen negated text rest b (b == blank && not negated) (b == 33 && not negated) (b == 111) (b == 101) (b == 116) (b == 110) c))
    (sym no_number)
    (chosen-goes negated text rest b (b == blank && not negated) (b == 33 && not negated) (b == 111) (b == 101) (b == 116) (b == 110))

-- a byte that begins no number says what is asked, or delimits texts
reads-choice : (negated : Bool) (text : List ℕ) (rest : List OpenEscape) (b : ℕ) → is_argument_byte b ≡ true → begins_expression b ≡ false
    → ReadsOn (Condition (Choice negated) text ∷ rest) b (choice_made rest negated text b).1
reads-choice negated text rest b is no_number =
    let none = none_of_three (b == backslash) (is_dropped b) (b == newline) is in
    let half : List OpenEscape = Condition (Choice negated) text ∷ rest in
    let goes = choice-goes negated text rest b no_number in
    record {
      stands = none.1.0;
      no_newline = none.1.1;
      stays = none.1.1;
      goes_on = λ base. ap (λ (c : Bool). if c then (GoesOn, Backslash ∷ half) else choice_made rest negated text b) none.0 ∙ goes.found;
      held = goes.held;
    }

-- it was read
pub reads-chosen : (negated : Bool) (begin b : ℕ) (found : Found) (old new : KeptEscapes) (top : IsOnTop (ConditionRead (Choice negated) begin) old.escapes)
    → is_argument_byte b ≡ true → begins_expression b ≡ false → (found, new) ≡ leaving (choice_made top.rest negated top.text b) old → ReadsByte b true old new
reads-chosen negated begin b found old new top is no_number made =
    let there : new ≡ record old { escapes = (choice_made top.rest negated top.text b).1 } = ap (λ (p : Found × KeptEscapes). p.1) made in
    record {
      read = λ is_so. subst (λ (half : List OpenEscape). ReadsOn half b new.escapes) (sym top.same)
          (subst (λ (next : List OpenEscape). ReadsOn (Condition (Choice negated) top.text ∷ top.rest) b next) (sym (ap (λ (k : KeptEscapes). k.escapes) there))
          (reads-choice negated top.text top.rest b is no_number));
      kept = λ isnt. absurd (cc);
      room = ap (λ (k : KeptEscapes). k.room) there;
    }

-- texts that are compared are ended or parted by their delimiter
met-goes : (negated : Bool) (d : ℕ) (first : Option ℕ) (text : List ℕ) (rest : List OpenEscape)
    → GoesOnWith (Condition (Compared negated d first) text ∷ rest) (delimiter_met rest negated d first text)
met-goes negated d None text rest = record { found = refl; held = refl }
met-goes negated d (Some first) text rest = record { found = refl; held = refl }

-- the delimiter was taken
pub takes-delimiter : (negated : Bool) (d : ℕ) (first : Option ℕ) (begin b : ℕ) (found : Found) (old new : KeptEscapes)
    (top : IsOnTop (ConditionRead (Compared negated d first) begin) old.escapes)
    → is_argument_byte b ≡ true → (b == d) ≡ true → (found, new) ≡ leaving (delimiter_met top.rest negated d first top.text) old → TakesByte b true old new
takes-delimiter negated d first begin b found old new top is same made =
    let none = none_of_three (b == backslash) (is_dropped b) (b == newline) is in
    let half : List OpenEscape = Condition (Compared negated d first) top.text ∷ top.rest in
    let next : ReadsOf = delimiter_met top.rest negated d first top.text in
    let goes = met-goes negated d first top.text top.rest in
    let there : new ≡ record old { escapes = next.1 } = ap (λ (p : Found × KeptEscapes). p.1) made in
    let reads : ReadsOn half b next.1 = record {
      stands = none.1.0;
      no_newline = none.1.1;
      stays = none.1.1;
      goes_on = λ base. ap (λ (c : Bool). if c then next else byte_or_backslash top.rest (Compared negated d first) top.text b) same ∙ goes.found;
      held = goes.held;
    } in
    record {
      taken = λ is_so. IsRead (subst (λ (h : List OpenEscape). ReadsOn h b new.escapes) (sym top.same)
          (subst (λ (h : List OpenEscape). ReadsOn half b h) (sym (ap (λ (k : KeptEscapes). k.escapes) there)) reads));
      kept = λ isnt. absurd (cc);
      room = ap (λ (k : KeptEscapes). k.room) there;
    }

-- a byte of the texts was taken, and is held
pub takes-text : (negated : Bool) (d : ℕ) (first : Option ℕ) (begin b : ℕ) (old new : KeptEscapes) → IsOnTop (ConditionRead (Compared negated d first) begin) old.escapes
    → is_argument_byte b ≡ true → (b == d) ≡ false → new ≡ record old { escapes = text_held (Byte b) old.escapes } → TakesByte b true old new
takes-text negated d first begin b old new top is other held =
    let none = none_of_three (b == backslash) (is_dropped b) (b == newline) is in
    let part : ConditionPart = Compared negated d first in
    let half : List OpenEscape = Condition part top.text ∷ top.rest in
    let holds : HoldsOn half b half = record {
      stands = none.1.0;
      no_newline = none.1.1;
      stays = none.1.1;
      holds = λ base.
          ap (λ (c : Bool). if c then delimiter_met top.rest negated d first top.text else byte_or_backslash top.rest part top.text b) other
          ∙ ap (λ (c : Bool). if c then (GoesOn, Backslash ∷ half) else (Holds (Byte b), half)) none.0;
      held = held-one part part top.text top.rest b;
    } in
    takes-held b old new old.escapes (subst (λ (h : List OpenEscape). HoldsOn h b h) (sym top.same) holds) held

-- one byte more is held at the most
pub taken-held : (half next : List OpenEscape) (b : ℕ) → TakesOn half b next → texts_held next ≤ texts_held half + 1
taken-held half next b (IsRead reads) = omega (arith, reads.held)
taken-held half next b (IsHeld top holds is) = omega (arith, ap texts_held is, holds.held)

-- the last byte is taken behind the others
pub HalvesTaken-last : (half there next : List OpenEscape) (bytes : List ℕ) (b : ℕ) → HalvesTaken half bytes there → TakesOn there b next → HalvesTaken half (bytes ++ b ∷ []) next
HalvesTaken-last _ there next _ b (NothingTaken half) takes = ByteTaken half next next b [] takes (NothingTaken next)
HalvesTaken-last half _ next _ b (ByteTaken _ second there c bytes first others) takes =
    ByteTaken half second next c (bytes ++ b ∷ []) first (HalvesTaken-last second there next bytes b others takes)

-- none was taken yet
pub TakesFront-none : (bytes : List ℕ) (k : KeptEscapes) → TakesFront bytes 0 k k
TakesFront-none bytes k = record { few = omega arith; taken = NothingTaken k.escapes; held = omega arith; room = refl }

-- there is room for one more
pub front-room : (bytes : List ℕ) (count : ℕ) (old now : KeptEscapes) → TakesFront bytes count old now → count < length bytes
    → texts_held old.escapes + length bytes ≤ old.room → texts_held now.escapes < now.room
front-room bytes count old now takes inside room = omega (arith, takes.held, takes.room, inside, room)

-- one more was taken
pub TakesFront-more : (bytes : List ℕ) (count : ℕ) (old now new : KeptEscapes) (is_taken : Bool) → TakesFront bytes count old now → count < length bytes
    → is_taken ≡ true → TakesByte (get_or bytes count 0) is_taken now new → TakesFront bytes (count + 1) old new
TakesFront-more bytes count old now new is_taken takes inside is byte =
    let b : ℕ = get_or bytes count 0 in
    let on : TakesOn now.escapes b new.escapes = byte.taken is in
    let next : count + 1 ≡ suc count = omega arith in
    let more : take (count + 1) bytes ≡ take count bytes ++ b ∷ [] = ap (λ (n : ℕ). take n bytes) next ∙ take-suc bytes count 0 inside in
    record {
      few = omega (arith, inside);
      taken = subst (λ (xs : List ℕ). HalvesTaken old.escapes xs new.escapes) (sym more) (HalvesTaken-last old.escapes now.escapes new.escapes (take count bytes) b takes.taken on);
      held = omega (arith, takes.held, taken-held now.escapes new.escapes b on);
      room = byte.room ∙ takes.room;
    }

-- no more was taken
pub TakesFront-ended : (bytes : List ℕ) (count b : ℕ) (old now new : KeptEscapes) (is_taken : Bool) → TakesFront bytes count old now → is_taken ≡ false
    → TakesByte b is_taken now new → TakesFront bytes count old new
TakesFront-ended bytes count b old now new is_taken takes isnt byte = subst (TakesFront bytes count old) (sym (byte.kept isnt)) takes

-- no newline is taken so
pub taken-plain : (half next : List OpenEscape) (b : ℕ) → TakesOn half b next → (b == newline) ≡ false
taken-plain half next b (IsRead reads) = reads.no_newline
taken-plain half next b (IsHeld top holds is) = holds.no_newline
