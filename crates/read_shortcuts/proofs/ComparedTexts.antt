-- Bytes of a condition that compares texts: what is half read behind each of them.
use Rattle.std.proofs.Common.{◌≡◌, ℕ, ◌+◌, ◌==◌, Bool, true, false, not, ◌&&◌, ◌||◌, List, [], ◌∷◌, ◌++◌, length, take, drop, get_or, ◌<◌, suc, Option, None, Some, inl, inr, refl, sym, ap, subst, ◌∙◌, arith, append-nil, append_assoc, length-append, bytes_eq, if◌then◌else◌, eqb-true}
use Rattle.std.proofs.Math.Seq.{take-append_seam, drop-append_seam}
use Rattle.std.proofs.lemmas.Bool.{cases_Bool}
use Rattle.input_source.specs.Bytes.{backslash, is_dropped, newline}
use Rattle.input_escapes.specs.ConditionFronts.{ByteTaken, HalvesTaken, HoldsOn, IsHeld, IsRead, NothingTaken}
use Rattle.input_escapes.specs.Conditions.{delimiter_met, so_unless, text_is_same, unit_of_condition}
use Rattle.input_escapes.specs.EscapeFronts.{ReadsOn}
use Rattle.input_escapes.specs.OpenEscape.{OpenEscape, Backslash, Condition}
use Rattle.input_escapes.specs.declared.open_escape.ConditionPart.TheVariants.{Choice, Compared, Decided}
use Rattle.input_escapes.specs.declared.open_escape.CopyUnit.TheVariants.{Byte}
use Rattle.input_escapes.specs.declared.open_escape.Decision.TheVariants.{Is}
use Rattle.input_escapes.specs.declared.open_escape.Found.TheVariants.{GoesOn}
use Rattle.roff_scan.proofs.RunKinds.{no_newline_of}
use Rattle.roff_scan.specs.Unread.Calls.{NoNewline}
use Rattle.read_shortcuts.specs.Compared.{OfText, is_delimiter, is_of_text, negating}
use Rattle.read_shortcuts.specs.Registers.{OfArgument}
use Rattle.read_shortcuts.proofs.ConstantConditions.{choice}
use Rattle.read_shortcuts.proofs.ExpressionFronts.{all_suc}
use Rattle.read_shortcuts.proofs.RegisterNames.{ReadsEscape, name_byte}

-- texts that are compared, of which so much is read
abbrev pub comparing : Bool → ℕ → Option ℕ → List ℕ → List OpenEscape
comparing negated d first text = Condition (Compared negated d first) text ∷ []

-- a condition that compared them
abbrev pub compared : Bool → List ℕ → List OpenEscape
compared so texts = Condition (Decided (Is so) None) texts ∷ []

-- a delimiter is an apostrophe or a quote, so what holds of both holds of it
pub of_delimiter : (P : ℕ → Type 0) (d : ℕ) → is_delimiter d ≡ true → P 39 → P 34 → P d
of_delimiter P d is first second = elim (cases_Bool (d == 39)) [
  | inl same ↦ subst P (sym (eqb-true d 39 same)) first
  | inr other ↦ subst P (sym (eqb-true d 34 (sym (ap (λ (c : Bool). c || d == 34) other) ∙ is))) second
]

-- behind the front of a line one begins texts, also behind a `!`
opens : (negated : Bool) (d : ℕ) → is_delimiter d ≡ true → ReadsOn (Condition (Choice negated) [] ∷ []) d (comparing negated d None [])
opens negated d is =
    of_delimiter (λ b. ReadsOn (Condition (Choice negated) [] ∷ []) b (comparing negated b None [])) d is (first negated) (second negated)
  where
    first : (negated : Bool) → ReadsOn (Condition (Choice negated) [] ∷ []) 39 (comparing negated 39 None [])
    first true = record { stands = refl; no_newline = refl; stays = refl; goes_on = λ base. refl; held = refl }
    first false = record { stands = refl; no_newline = refl; stays = refl; goes_on = λ base. refl; held = refl }

    second : (negated : Bool) → ReadsOn (Condition (Choice negated) [] ∷ []) 34 (comparing negated 34 None [])
    second true = record { stands = refl; no_newline = refl; stays = refl; goes_on = λ base. refl; held = refl }
    second false = record { stands = refl; no_newline = refl; stays = refl; goes_on = λ base. refl; held = refl }

negates : ReadsOn choice 33 (Condition (Choice true) [] ∷ [])
negates = record { stands = refl; no_newline = refl; stays = refl; goes_on = λ base. refl; held = refl }

pub halves-opening : (negated : Bool) (d : ℕ) → is_delimiter d ≡ true → HalvesTaken choice (negating negated ++ d ∷ []) (comparing negated d None [])
halves-opening true d is =
    ByteTaken choice (Condition (Choice true) [] ∷ []) (comparing true d None []) 33 (d ∷ []) (IsRead negates)
    (ByteTaken (Condition (Choice true) [] ∷ []) (comparing true d None []) (comparing true d None []) d [] (IsRead (opens true d is)) (NothingTaken (comparing true d None [])))
halves-opening false d is =
    ByteTaken choice (comparing false d None []) (comparing false d None []) d [] (IsRead (opens false d is)) (NothingTaken (comparing false d None []))

-- the escape of an argument is read in them
pub reads_escape-comparing : (negated : Bool) (d : ℕ) → is_delimiter d ≡ true → ReadsEscape OfArgument (comparing negated d None [])
reads_escape-comparing negated d is = of_delimiter (λ b. ReadsEscape OfArgument (comparing negated b None [])) d is first second
  where
    first : ReadsEscape OfArgument (comparing negated 39 None [])
    first = record {
      begins = record { stands = refl; no_newline = refl; stays = refl; goes_on = λ base. refl; held = refl };
      named = record { stands = refl; no_newline = refl; stays = refl; goes_on = λ base. refl; held = refl };
      opened = λ long. absurd long;
      short = λ b plain no_paren no_plus no_minus base. (let none = name_byte b plain in rw (none.0) refl);
      given = λ name. refl;
    }

    second : ReadsEscape OfArgument (comparing negated 34 None [])
    second = record {
      begins = record { stands = refl; no_newline = refl; stays = refl; goes_on = λ base. refl; held = refl };
      named = record { stands = refl; no_newline = refl; stays = refl; goes_on = λ base. refl; held = refl };
      opened = λ long. absurd long;
      short = λ b plain no_paren no_plus no_minus base. (let none = name_byte b plain in rw (none.0) refl);
      given = λ name. refl;
    }

-- none of four tests holds
none_of_four : (first second third fourth : Bool) → (not (first || (second || third)) && not fourth) ≡ true
    → (first ≡ false) × ((second ≡ false) × ((third ≡ false) × (fourth ≡ false)))
none_of_four true second third fourth none = absurd (cc)
none_of_four false true third fourth none = absurd (cc)
none_of_four false false true fourth none = absurd (cc)
none_of_four false false false true none = absurd (cc)
none_of_four false false false false none = (refl, (refl, (refl, refl)))

-- a byte of a text is held
holds-text : (negated : Bool) (d : ℕ) (first : Option ℕ) (text : List ℕ) (b : ℕ) → is_of_text d b ≡ true → HoldsOn (comparing negated d first text) b (comparing negated d first text)
holds-text negated d first text b is =
    let none = none_of_four (b == backslash) (is_dropped b) (b == newline) (b == d) is in
    let half : List OpenEscape = comparing negated d first text in
    record {
      stands = none.1.0;
      no_newline = none.1.1.0;
      stays = none.1.1.0;
      holds = λ base.
          ap (λ (c : Bool). if c then delimiter_met [] negated d first text
          else if b == backslash then (GoesOn, Backslash ∷ half) else unit_of_condition [] (Compared negated d first) text (Byte b)) none.1.1.1
          ∙ ap (λ (c : Bool). if c then (GoesOn, Backslash ∷ half) else unit_of_condition [] (Compared negated d first) text (Byte b)) none.0;
      held = omega (arith, length-append text (b ∷ []));
    }

-- and so are all that stand behind each other
pub halves-text : (negated : Bool) (d : ℕ) (first : Option ℕ) (text more : List ℕ) → OfText d more
    → HalvesTaken (comparing negated d first text) more (comparing negated d first (text ++ more))
halves-text negated d first text [] are =
    subst (λ (t : List ℕ). HalvesTaken (comparing negated d first text) [] (comparing negated d first t)) (sym (append-nil text)) (NothingTaken (comparing negated d first text))
halves-text negated d first text (b ∷ more) are =
    let half : List OpenEscape = comparing negated d first text in
    ByteTaken half (comparing negated d first (text ++ b ∷ [])) (comparing negated d first (text ++ b ∷ more)) b more (IsHeld half (holds-text negated d first text b are.0) refl)
    (subst (λ (t : List ℕ). HalvesTaken (comparing negated d first (text ++ b ∷ [])) more (comparing negated d first t)) (append_assoc text (b ∷ []) more)
    (halves-text negated d first (text ++ b ∷ []) more are.1))

-- the delimiter behind the first text, and behind the second
meets : (negated : Bool) (d : ℕ) (text : List ℕ) → is_delimiter d ≡ true → ReadsOn (comparing negated d None text) d (comparing negated d (Some (length text)) text)
meets negated d text is =
    of_delimiter (λ b. ReadsOn (comparing negated b None text) b (comparing negated b (Some (length text)) text)) d is
    (record { stands = refl; no_newline = refl; stays = refl; goes_on = λ base. refl; held = refl })
    (record { stands = refl; no_newline = refl; stays = refl; goes_on = λ base. refl; held = refl })

ends : (negated : Bool) (d first : ℕ) (texts : List ℕ) → is_delimiter d ≡ true
    → ReadsOn (comparing negated d (Some first) texts) d (compared (so_unless negated (text_is_same (Some first) texts)) texts)
ends negated d first texts is =
    of_delimiter (λ b. ReadsOn (comparing negated b (Some first) texts) b (compared (so_unless negated (text_is_same (Some first) texts)) texts)) d is
    (record { stands = refl; no_newline = refl; stays = refl; goes_on = λ base. refl; held = refl })
    (record { stands = refl; no_newline = refl; stays = refl; goes_on = λ base. refl; held = refl })

-- two texts that stand behind each other are compared
same-texts : (text other : List ℕ) → text_is_same (Some (length text)) (text ++ other) ≡ bytes_eq text other
same-texts text other =
    ap (λ (t : List ℕ). bytes_eq t (drop (length text) (text ++ other))) (take-append_seam text other) ∙ ap (λ (t : List ℕ). bytes_eq text t) (drop-append_seam text other)

-- bytes, one behind others
taken-behind : (half mid last : List OpenEscape) (bytes more : List ℕ) → HalvesTaken half bytes mid → HalvesTaken mid more last → HalvesTaken half (bytes ++ more) last
taken-behind _ mid last _ more (NothingTaken half) others = others
taken-behind half mid last _ more (ByteTaken _ next _ b bytes takes rest) others = ByteTaken half next last b (bytes ++ more) takes (taken-behind next mid last bytes more rest others)

-- behind the first text the second one is read, and they are compared
pub halves-behind : (negated : Bool) (d : ℕ) (text other : List ℕ) → is_delimiter d ≡ true → OfText d other
    → HalvesTaken (comparing negated d None text) (d ∷ (other ++ d ∷ [])) (compared (so_unless negated (bytes_eq text other)) (text ++ other))
halves-behind negated d text other is are =
    let texts : List ℕ = text ++ other in
    let first : List OpenEscape = comparing negated d (Some (length text)) text in
    let half : List OpenEscape = comparing negated d (Some (length text)) texts in
    let last : List OpenEscape = compared (so_unless negated (text_is_same (Some (length text)) texts)) texts in
    subst (λ (same : Bool). HalvesTaken (comparing negated d None text) (d ∷ (other ++ d ∷ [])) (compared (so_unless negated same) texts)) (same-texts text other)
    (ByteTaken (comparing negated d None text) first last d (other ++ d ∷ []) (IsRead (meets negated d text is))
    (taken-behind first half last other (d ∷ []) (halves-text negated d (Some (length text)) text other are)
    (ByteTaken half last last d [] (IsRead (ends negated d (length text) texts is)) (NothingTaken last))))

-- no newline is among them
pub text-plain : (d : ℕ) (bytes : List ℕ) → OfText d bytes → NoNewline bytes
text-plain d bytes are = no_newline_of (is_of_text d) refl bytes are

pub delimiter-plain : (d : ℕ) → is_delimiter d ≡ true → (d == newline) ≡ false
delimiter-plain d is = of_delimiter (λ b. (b == newline) ≡ false) d is refl refl

-- one byte more of a text
pub text-more : (d : ℕ) (bytes : List ℕ) (count : ℕ) → count < length bytes → is_of_text d (get_or bytes count 0) ≡ true → OfText d (take count bytes) → OfText d (take (count + 1) bytes)
text-more d bytes count less is are =
    let next : suc count ≡ count + 1 = omega arith in
    subst (λ (n : ℕ). OfText d (take n bytes)) next (all_suc (λ b. is_of_text d b ≡ true) bytes count less are is)
