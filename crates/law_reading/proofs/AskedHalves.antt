-- What the bytes of a condition leave half read, one after another.
use Rattle.std.proofs.Common.{◌≡◌, ℕ, zero, suc, ◌+◌, Bool, true, false, List, [], ◌∷◌, ◌++◌, length, Option, Some, None, refl, ap, ap₂, sym, subst, ◌∙◌, arith, append_assoc, All, bytes_eq, ◌||◌, ◌&&◌, not, replicate, if◌then◌else◌, ◌==◌, eq-eqb, ne_eqb, append-nil, length-append}
use Rattle.std.proofs.Math.Seq.{drop-append_seam, take-append_seam}
use Rattle.std.proofs.lemmas.List.Elements.{All-head, All-tail}
use Rattle.input_source.specs.Bytes.{backslash, blank, is_dropped, newline, tab}
use Rattle.input_escapes.specs.ConditionFronts.{ByteTaken, HalvesTaken, HoldsOn, IsHeld, IsRead, NothingTaken, TakesOn, is_of_expression}
use Rattle.input_escapes.specs.Conditions.{begins_expression, byte_or_backslash, delimiter_met, expression_over, so_unless, text_is_same, to_decide}
use Rattle.input_escapes.specs.EscapeFronts.{ReadsOn}
use Rattle.input_escapes.specs.EscapeLaws.{delimits_texts, is_between, two_texts}
use Rattle.input_escapes.specs.OpenEscape.{OpenEscape, Backslash, Condition, Reads, texts_held}
use Rattle.input_escapes.specs.declared.open_escape.ConditionPart.TheVariants.{Choice, Compared, Expression}
use Rattle.input_escapes.specs.declared.open_escape.CopyUnit.TheVariants.{Byte}
use Rattle.input_escapes.specs.declared.open_escape.Decision.{Decision}
use Rattle.input_escapes.specs.declared.open_escape.Decision.TheVariants.{Is, OnPages}
use Rattle.input_escapes.specs.declared.open_escape.Found.TheVariants.{GoesOn, Holds}
use Rattle.law_reading.specs.AskingLaws.{AreDelimited, IsQuestion, Question, OddPage, EvenPage, Never, Always, SameTexts, asking, question_bytes}
use Rattle.law_reading.specs.BadConditions.{cut_texts, second_text}
use Rattle.law_reading.specs.ConditionLaws.{AreKept}

-- a condition of which nothing is asked yet
abbrev pub choice : Bool → List OpenEscape
choice negated = Condition (Choice negated) [] ∷ []

-- one that is read, and decides
abbrev pub whole : Decision → List ℕ → List OpenEscape
whole decision text = to_decide [] text decision None

-- bytes behind others
HalvesTaken-append : (half mid last : List OpenEscape) (front behind : List ℕ) → HalvesTaken half front mid → HalvesTaken mid behind last → HalvesTaken half (front ++ behind) last
HalvesTaken-append _ mid last _ behind (NothingTaken half) others = others
HalvesTaken-append half mid last _ behind (ByteTaken _ next _ b bytes takes path) others =
    ByteTaken half next last b (bytes ++ behind) takes (HalvesTaken-append next mid last bytes behind path others)

-- one byte alone
halves-one : (half next : List OpenEscape) (b : ℕ) → TakesOn half b next → HalvesTaken half (b ∷ []) next
halves-one half next b takes = ByteTaken half next next b [] takes (NothingTaken next)

-- blanks, and a `!`
halves-blanks : (n : ℕ) → HalvesTaken (choice false) (replicate n blank) (choice false)
halves-blanks zero = NothingTaken (choice false)
halves-blanks (suc n) =
    ByteTaken (choice false) (choice false) (choice false) blank (replicate n blank)
    (IsRead (record { stands = refl; no_newline = refl; stays = refl; goes_on = λ base. refl; held = refl })) (halves-blanks n)

halves-bang : (negated : Bool) (bytes : List ℕ) (last : List OpenEscape) → HalvesTaken (choice negated) bytes last
    → HalvesTaken (choice false) (if negated then 33 ∷ bytes else bytes) last
halves-bang true bytes last path =
    ByteTaken (choice false) (choice true) last 33 bytes
    (IsRead (record { stands = refl; no_newline = refl; stays = refl; goes_on = λ base. refl; held = refl })) path
halves-bang false bytes last path = path

pub halves-asking : (blanks : ℕ) (negated : Bool) (bytes : List ℕ) (last : List OpenEscape) → HalvesTaken (choice negated) bytes last
    → HalvesTaken (choice false) (asking blanks negated bytes) last
halves-asking blanks negated bytes last path =
    HalvesTaken-append (choice false) (choice false) last (replicate blanks blank) (if negated then 33 ∷ bytes else bytes)
    (halves-blanks blanks) (halves-bang negated bytes last path)

-- bytes of which one is of a kind, and the other isn't
pub differs : (p : ℕ → Bool) (b c : ℕ) → p b ≡ true → p c ≡ false → (b == c) ≡ false
differs p b c is isnt = ne_eqb b c (λ same. cc)

-- a test fails
neither : (a b : Bool) → not (a || b) ≡ true → b ≡ false
neither true b none = absurd (cc)
neither false true none = absurd (cc)
neither false false none = refl

-- what a byte of a choice gives, by the tests on it
abbrev gives : Bool → ℕ → Bool → Bool → Bool → Bool → Bool → Bool → Bool → Bool → Reads
gives negated b escapes blanks bang o e t n number =
    if escapes then (GoesOn, Backslash ∷ choice negated)
    else if blanks && not negated then (GoesOn, choice negated)
    else if bang && not negated then (GoesOn, choice true)
    else if o then (GoesOn, whole (OnPages (not negated)) [])
    else if e then (GoesOn, whole (OnPages negated) [])
    else if t then (GoesOn, whole (Is negated) [])
    else if n then (GoesOn, whole (Is (not negated)) [])
    else if number then (Holds (Byte b), Condition (Expression negated) [] ∷ [])
    else (GoesOn, Condition (Compared negated b None) [] ∷ [])

-- one that asks for none of these
gives-other : (p : ℕ → Bool) (negated : Bool) (b : ℕ) → p b ≡ true → p backslash ≡ false → p blank ≡ false → p 33 ≡ false → p 111 ≡ false → p 101 ≡ false → p 116 ≡ false → p 110 ≡ false
    → gives negated b (b == backslash) (b == blank) (b == 33) (b == 111) (b == 101) (b == 116) (b == 110) (begins_expression b)
    ≡ gives negated b false false false false false false false (begins_expression b)
gives-other p negated b is escapes blanks bang o e t n =
    let g = gives negated b in
    let number : Bool = begins_expression b in
    ap (λ (c : Bool). g c (b == blank) (b == 33) (b == 111) (b == 101) (b == 116) (b == 110) number) (differs p b backslash is escapes)
    ∙ ap (λ (c : Bool). g false c (b == 33) (b == 111) (b == 101) (b == 116) (b == 110) number) (differs p b blank is blanks)
    ∙ ap (λ (c : Bool). g false false c (b == 111) (b == 101) (b == 116) (b == 110) number) (differs p b 33 is bang)
    ∙ ap (λ (c : Bool). g false false false c (b == 101) (b == 116) (b == 110) number) (differs p b 111 is o)
    ∙ ap (λ (c : Bool). g false false false false c (b == 116) (b == 110) number) (differs p b 101 is e)
    ∙ ap (λ (c : Bool). g false false false false false c (b == 110) number) (differs p b 116 is t)
    ∙ ap (λ (c : Bool). g false false false false false false c number) (differs p b 110 is n)

-- where the first text of two ends that are cut, if it does, and what is held of them
abbrev pub first_end : List ℕ → Option (List ℕ) → Option ℕ
first_end first None = None
first_end first (Some second) = Some (length first)

abbrev pub texts_so_far : List ℕ → Option (List ℕ) → List ℕ
texts_so_far first None = first
texts_so_far first (Some second) = first ++ second

-- they are compared
both-compared : (first second : List ℕ) → text_is_same (Some (length first)) (first ++ second) ≡ bytes_eq first second
both-compared first second = ap₂ (λ (f g : List ℕ). bytes_eq f g) (take-append_seam first second) (drop-append_seam first second)

pub cut-compared : (first : List ℕ) (second : Option (List ℕ)) → text_is_same (first_end first second) (texts_so_far first second) ≡ bytes_eq first (second_text second)
cut-compared first None = refl
cut-compared first (Some second) = both-compared first second

module _ (negated : Bool) (d : ℕ) where
  -- two texts of which so much is read
  abbrev pub compared : Option ℕ → List ℕ → List OpenEscape
  compared first text = Condition (Compared negated d first) text ∷ []

  -- the delimiter in front
  reads-front : delimits_texts d ≡ true → is_dropped d ≡ false → ReadsOn (choice negated) d (compared None [])
  reads-front delimits kept = record {
    stands = kept;
    no_newline = differs delimits_texts d newline delimits refl;
    stays = differs delimits_texts d newline delimits refl;
    goes_on = λ base.
        gives-other delimits_texts negated d delimits refl refl refl refl refl refl refl
        ∙ ap (λ (c : Bool). gives negated d false false false false false false false c) (neither _ (begins_expression d) delimits);
    held = refl;
  }

  -- the one behind a text
  reads-behind : (first : Option ℕ) (text : List ℕ) (next : List OpenEscape) → delimits_texts d ≡ true → is_dropped d ≡ false
      → delimiter_met [] negated d first text ≡ (GoesOn, next) → texts_held next ≡ length text + 0 → ReadsOn (compared first text) d next
  reads-behind first text next delimits kept met held = record {
    stands = kept;
    no_newline = differs delimits_texts d newline delimits refl;
    stays = differs delimits_texts d newline delimits refl;
    goes_on = λ base.
        ap (λ (c : Bool). if c then delimiter_met [] negated d first text else byte_or_backslash [] (Compared negated d first) text d) (eq-eqb d d refl) ∙ met;
    held = held;
  }

  -- a byte between them
  between_parts : (a b c rest : Bool) → (not (a || b || c) && rest) ≡ true → (a ≡ false) × (b ≡ false) × (c ≡ false) × (rest ≡ true)
  between_parts true b c rest all = absurd (cc)
  between_parts false true c rest all = absurd (cc)
  between_parts false false true rest all = absurd (cc)
  between_parts false false false rest all = (refl, refl, refl, all)

  holds-between : (first : Option ℕ) (text : List ℕ) (b : ℕ) → (b == d) ≡ false → (b == backslash) ≡ false → (b == newline) ≡ false → is_dropped b ≡ false
      → HoldsOn (compared first text) b (compared first text)
  holds-between first text b other plain no_newline kept = record {
    stands = kept;
    no_newline = no_newline;
    stays = no_newline;
    holds = λ base.
        ap (λ (c : Bool). if c then delimiter_met [] negated d first text else byte_or_backslash [] (Compared negated d first) text b) other
        ∙ ap (λ (c : Bool). if c then (GoesOn, Backslash ∷ compared first text) else (Holds (Byte b), compared first text)) plain;
    held = omega (arith, length-append text (b ∷ []));
  }

  -- a text
  halves-text : (first : Option ℕ) (so_far text : List ℕ) → is_between d text ≡ true → AreKept text → HalvesTaken (compared first so_far) text (compared first (so_far ++ text))
  halves-text first so_far [] between kept = subst (λ (t : List ℕ). HalvesTaken (compared first so_far) [] (compared first t)) (sym (append-nil so_far)) (NothingTaken (compared first so_far))
  halves-text first so_far (b ∷ text) between kept =
      let parts = between_parts (b == d) (b == backslash) (b == newline) (is_between d text) between in
      let here : List OpenEscape = compared first so_far in
      ByteTaken here (compared first (so_far ++ b ∷ [])) (compared first (so_far ++ b ∷ text)) b text
      (IsHeld here (holds-between first so_far b parts.0 parts.1 parts.2 (All-head (λ c. is_dropped c ≡ false) b text kept)) refl)
      (subst (λ (t : List ℕ). HalvesTaken (compared first (so_far ++ b ∷ [])) text (compared first t)) (append_assoc so_far (b ∷ []) text)
      (halves-text first (so_far ++ b ∷ []) text parts.3 (All-tail (λ c. is_dropped c ≡ false) b text kept)))

  -- the first, behind its delimiter
  halves-first : (first : List ℕ) → delimits_texts d ≡ true → is_dropped d ≡ false → is_between d first ≡ true → AreKept first
      → HalvesTaken (choice negated) (d ∷ first) (compared None first)
  halves-first first delimits kept between first_kept =
      ByteTaken (choice negated) (compared None []) (compared None first) d first (IsRead (reads-front delimits kept))
      (halves-text None [] first between first_kept)

  -- the first, or both, without a delimiter behind it
  pub halves-cut : (first : List ℕ) (second : Option (List ℕ)) → AreDelimited d first (second_text second)
      → HalvesTaken (choice negated) (cut_texts d first second) (compared (first_end first second) (texts_so_far first second))
  halves-cut first None are = halves-first first are.delimits are.delimiter_kept are.first_between are.first_kept
  halves-cut first (Some second) are =
      let both : List ℕ = first ++ second in
      let n : Option ℕ = Some (length first) in
      let back : HalvesTaken (compared None first) (d ∷ second) (compared n both) =
      ByteTaken (compared None first) (compared n first) (compared n both) d second
      (IsRead (reads-behind None first (compared n first) are.delimits are.delimiter_kept refl refl))
      (halves-text n first second are.second_between are.second_kept) in
      HalvesTaken-append (choice negated) (compared None first) (compared n both) (d ∷ first) (d ∷ second)
      (halves-first first are.delimits are.delimiter_kept are.first_between are.first_kept) back

  -- both, between their delimiters
  halves-texts : (first second : List ℕ) → AreDelimited d first second
      → HalvesTaken (choice negated) (two_texts d first second) (whole (Is (so_unless negated (bytes_eq first second))) (first ++ second))
  halves-texts first second are =
      let both : List ℕ = first ++ second in
      let n : Option ℕ = Some (length first) in
      let last : List OpenEscape = whole (Is (so_unless negated (text_is_same n both))) both in
      let end : HalvesTaken (compared n both) (d ∷ []) last =
      halves-one (compared n both) last d (IsRead (reads-behind n both last are.delimits are.delimiter_kept refl refl)) in
      subst (λ (same : Bool). HalvesTaken (choice negated) (two_texts d first second) (whole (Is (so_unless negated same)) both))
      (both-compared first second)
      (HalvesTaken-append (choice negated) (compared n both) last ((d ∷ first) ++ d ∷ second) (d ∷ []) (halves-cut first (Some second) are) end)

-- what is held of a question, and what decides it
abbrev pub question_held : Question → List ℕ
question_held (SameTexts delimiter first second) = first ++ second
question_held (_) = []

abbrev pub decision_of : Bool → Question → Decision
decision_of negated OddPage = OnPages (not negated)
decision_of negated EvenPage = OnPages negated
decision_of negated Never = Is negated
decision_of negated Always = Is (not negated)
decision_of negated (SameTexts delimiter first second) = Is (so_unless negated (bytes_eq first second))

-- a letter
halves-letter : (negated : Bool) (b : ℕ) (decision : Decision) → TakesOn (choice negated) b (whole decision []) → HalvesTaken (choice negated) (b ∷ []) (whole decision [])
halves-letter negated b decision takes = halves-one (choice negated) (whole decision []) b takes

pub halves-question : (negated : Bool) (question : Question) → IsQuestion question
    → HalvesTaken (choice negated) (question_bytes question) (whole (decision_of negated question) (question_held question))
halves-question negated OddPage is =
    halves-letter negated 111 (OnPages (not negated)) (IsRead (record { stands = refl; no_newline = refl; stays = refl; goes_on = λ base. refl; held = refl }))
halves-question negated EvenPage is =
    halves-letter negated 101 (OnPages negated) (IsRead (record { stands = refl; no_newline = refl; stays = refl; goes_on = λ base. refl; held = refl }))
halves-question negated Never is =
    halves-letter negated 116 (Is negated) (IsRead (record { stands = refl; no_newline = refl; stays = refl; goes_on = λ base. refl; held = refl }))
halves-question negated Always is =
    halves-letter negated 110 (Is (not negated)) (IsRead (record { stands = refl; no_newline = refl; stays = refl; goes_on = λ base. refl; held = refl }))
halves-question negated (SameTexts delimiter first second) is = halves-texts negated delimiter first second is

-- an expression of which so much is read
abbrev pub expression : Bool → List ℕ → List OpenEscape
expression negated text = Condition (Expression negated) text ∷ []

-- none of five tests holds
none_of_five : (first second third fourth fifth : Bool) → (not (first || (second || third)) && not (fourth || fifth)) ≡ true
    → (first ≡ false) × ((second ≡ false) × ((third ≡ false) × ((fourth ≡ false) × (fifth ≡ false))))
none_of_five true second third fourth fifth none = absurd (cc)
none_of_five false true third fourth fifth none = absurd (cc)
none_of_five false false true fourth fifth none = absurd (cc)
none_of_five false false false true fifth none = absurd (cc)
none_of_five false false false false true none = absurd (cc)
none_of_five false false false false false none = (refl, (refl, (refl, (refl, refl))))

abbrev IsOfIt : ℕ → Type 0
IsOfIt b = is_of_expression b ≡ true

-- its first byte
holds-first : (negated : Bool) (b : ℕ) → begins_expression b ≡ true → IsOfIt b → HoldsOn (choice negated) b (expression negated [])
holds-first negated b begins is =
    let none = none_of_five (b == backslash) (is_dropped b) (b == newline) (b == blank) (b == tab) is in
    record {
      stands = none.1.0;
      no_newline = none.1.1.0;
      stays = none.1.1.0;
      holds = λ base.
          gives-other begins_expression negated b begins refl refl refl refl refl refl refl
          ∙ ap (λ (c : Bool). gives negated b false false false false false false false c) begins;
      held = omega arith;
    }

-- others
holds-more : (negated : Bool) (text : List ℕ) (b : ℕ) → IsOfIt b → HoldsOn (expression negated text) b (expression negated text)
holds-more negated text b is =
    let none = none_of_five (b == backslash) (is_dropped b) (b == newline) (b == blank) (b == tab) is in
    record {
      stands = none.1.0;
      no_newline = none.1.1.0;
      stays =
          ap (λ (c : Bool). (c || b == tab) || b == newline) none.1.1.1.0
          ∙ ap (λ (c : Bool). c || b == newline) none.1.1.1.1
          ∙ none.1.1.0;
      holds = λ base.
          ap (λ (c : Bool). if c then (GoesOn, Backslash ∷ expression negated text)
          else if c || b == tab then expression_over [] negated (Some b) text else (Holds (Byte b), expression negated text)) none.0
          ∙ ap (λ (c : Bool). if c then expression_over [] negated (Some b) text else (Holds (Byte b), expression negated text)) none.1.1.1.1;
      held = omega (arith, length-append text (b ∷ []));
    }

halves-more : (negated : Bool) (so_far text : List ℕ) → All IsOfIt text → HalvesTaken (expression negated so_far) text (expression negated (so_far ++ text))
halves-more negated so_far [] are = subst (λ (t : List ℕ). HalvesTaken (expression negated so_far) [] (expression negated t)) (sym (append-nil so_far)) (NothingTaken (expression negated so_far))
halves-more negated so_far (b ∷ text) are =
    ByteTaken (expression negated so_far) (expression negated (so_far ++ b ∷ [])) (expression negated (so_far ++ b ∷ text)) b text
    (IsHeld (expression negated so_far) (holds-more negated so_far b (All-head IsOfIt b text are)) refl)
    (subst (λ (t : List ℕ). HalvesTaken (expression negated (so_far ++ b ∷ [])) text (expression negated t)) (append_assoc so_far (b ∷ []) text)
    (halves-more negated (so_far ++ b ∷ []) text (All-tail IsOfIt b text are)))

pub halves-expression : (negated : Bool) (first : ℕ) (others : List ℕ) → begins_expression first ≡ true → All IsOfIt (first ∷ others)
    → HalvesTaken (choice negated) (first ∷ others) (expression negated (first ∷ others))
halves-expression negated first others begins are =
    ByteTaken (choice negated) (expression negated (first ∷ [])) (expression negated (first ∷ others)) first others
    (IsHeld (expression negated []) (holds-first negated first begins (All-head IsOfIt first others are)) refl)
    (halves-more negated (first ∷ []) others (All-tail IsOfIt first others are))
