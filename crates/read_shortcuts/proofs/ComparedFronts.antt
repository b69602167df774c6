-- Where a condition stands in front that compares an argument with a text.
use Rattle.std.proofs.Common.{◌≡◌, ℕ, ◌-◌, ◌≤◌, Bool, true, false, List, [], ◌∷◌, length, take, drop, get_or, Option, Some, None, sym, ap, subst, ◌∙◌, arith, append_assoc, IfSome}
use Rattle.std.proofs.Math.Seq.{take-length}
use Rattle.input_model.specs.Input.Calls.{argument_live}
use Rattle.run_model.specs.Reading.Items.{PageUnread}
use Rattle.input_source.specs.Bytes.{blank}
use Rattle.roff_scan.specs.Unread.Calls.{IsFront, front_bytes}
use Rattle.read_shortcuts.specs.Compared.{AnswersText, ComparesBehind, ComparesFront, OfText, is_delimiter}
use Rattle.read_shortcuts.specs.ControlFronts.{StandsReady}
use Rattle.read_shortcuts.specs.declared.answered.Answer.{Answer}

-- where five bytes stand, others stand behind them
pub behind-five : (bytes : List ℕ) → 5 ≤ length bytes
    → bytes ≡ get_or bytes 0 0 ∷ get_or bytes 1 0 ∷ get_or bytes 2 0 ∷ get_or bytes 3 0 ∷ get_or bytes 4 0 ∷ take (length bytes - 5) (drop 5 bytes)
behind-five [] many = absurd (omega (arith, many))
behind-five (a ∷ []) many = absurd (omega (arith, many))
behind-five (a ∷ b ∷ []) many = absurd (omega (arith, many))
behind-five (a ∷ b ∷ c ∷ []) many = absurd (omega (arith, many))
behind-five (a ∷ b ∷ c ∷ d ∷ []) many = absurd (omega (arith, many))
behind-five (a ∷ b ∷ c ∷ d ∷ e ∷ bytes) many =
    let all : length (a ∷ b ∷ c ∷ d ∷ e ∷ bytes) - 5 ≡ length bytes = omega arith in
    ap (λ (others : List ℕ). a ∷ b ∷ c ∷ d ∷ e ∷ others) (sym (ap (λ (n : ℕ). take n bytes) all ∙ take-length bytes))

behind-four : (bytes : List ℕ) → 4 ≤ length bytes
    → bytes ≡ get_or bytes 0 0 ∷ get_or bytes 1 0 ∷ get_or bytes 2 0 ∷ get_or bytes 3 0 ∷ take (length bytes - 4) (drop 4 bytes)
behind-four [] many = absurd (omega (arith, many))
behind-four (a ∷ []) many = absurd (omega (arith, many))
behind-four (a ∷ b ∷ []) many = absurd (omega (arith, many))
behind-four (a ∷ b ∷ c ∷ []) many = absurd (omega (arith, many))
behind-four (a ∷ b ∷ c ∷ d ∷ bytes) many =
    let all : length (a ∷ b ∷ c ∷ d ∷ bytes) - 4 ≡ length bytes = omega arith in
    ap (λ (others : List ℕ). a ∷ b ∷ c ∷ d ∷ others) (sym (ap (λ (n : ℕ). take n bytes) all ∙ take-length bytes))

-- so these bytes begin with such a condition, if it answers
pub compares-behind : (found : Option Answer) (negated : Bool) (bytes : List ℕ) (u : PageUnread) (text : List ℕ) → 5 ≤ length bytes
    → get_or bytes 1 0 ≡ 92 → get_or bytes 2 0 ≡ 36 → 49 ≤ get_or bytes 3 0 → get_or bytes 3 0 ≤ 57 → get_or bytes 4 0 ≡ get_or bytes 0 0
    → is_delimiter (get_or bytes 0 0) ≡ true → text ≡ argument_live (get_or bytes 3 0 - 49) u.input → OfText (get_or bytes 0 0) text
    → IfSome found (λ answer. AnswersText negated (get_or bytes 0 0) text (take (length bytes - 5) (drop 5 bytes)) answer)
    → IfSome found (λ answer. ComparesBehind negated bytes u answer)
compares-behind None negated bytes u text many second third above below fifth delimits text_is plain answers = tt
compares-behind (Some answer) negated bytes u text many second third above below fifth delimits text_is plain answers =
    let d : ℕ = get_or bytes 0 0 in
    let digit : ℕ = get_or bytes 3 0 in
    let five : List ℕ → List ℕ = λ others. d ∷ 92 ∷ 36 ∷ digit ∷ d ∷ others in
    record {
      delimiter = d;
      digit = digit;
      other = answers.other;
      more = answers.more;
      is = behind-five bytes many
          ∙ ap (λ (b : ℕ). d ∷ b ∷ get_or bytes 2 0 ∷ digit ∷ get_or bytes 4 0 ∷ take (length bytes - 5) (drop 5 bytes)) second
          ∙ ap (λ (b : ℕ). d ∷ 92 ∷ b ∷ digit ∷ get_or bytes 4 0 ∷ take (length bytes - 5) (drop 5 bytes)) third
          ∙ ap (λ (b : ℕ). d ∷ 92 ∷ 36 ∷ digit ∷ b ∷ take (length bytes - 5) (drop 5 bytes)) fifth
          ∙ ap five answers.is
          ∙ ap five (sym (append_assoc answers.other (d ∷ []) answers.more));
      delimits = delimits;
      above = above;
      below = below;
      text = text;
      text_is = text_is;
      plain = plain;
      plain_other = answers.plain_other;
      so = answers.so;
      len = answers.len;
      count = answers.count;
    }

-- and it stands in front, behind three bytes and a blank
pub compares-front : (found : Option Answer) (u : PageUnread) (ready all : List ℕ) → 4 ≤ length all → get_or all 3 0 ≡ blank
    → all ≡ front_bytes (length all) ready u → IsFront (length all) ready u
    → IfSome found (λ answer. ComparesBehind false (take (length all - 4) (drop 4 all)) u answer) → IfSome found (λ answer. ComparesFront ready u answer)
compares-front None u ready all many fourth are front answers = tt
compares-front (Some answer) u ready all many fourth are front answers = record {
  mark = get_or all 0 0;
  first = get_or all 1 0;
  second = get_or all 2 0;
  negated = false;
  bytes = take (length all - 4) (drop 4 all);
  stands = subst (λ (xs : List ℕ). StandsReady xs ready u)
      (behind-four all many ∙ ap (λ (b : ℕ). get_or all 0 0 ∷ get_or all 1 0 ∷ get_or all 2 0 ∷ b ∷ take (length all - 4) (drop 4 all)) fourth)
      (record { are = are; front = front });
  answers = answers;
}

-- also behind a `!`
pub compares-negated : (found : Option Answer) (u : PageUnread) (ready all : List ℕ) → 5 ≤ length all → get_or all 3 0 ≡ blank → get_or all 4 0 ≡ 33
    → all ≡ front_bytes (length all) ready u → IsFront (length all) ready u
    → IfSome found (λ answer. ComparesBehind true (take (length all - 5) (drop 5 all)) u answer) → IfSome found (λ answer. ComparesFront ready u answer)
compares-negated None u ready all many fourth fifth are front answers = tt
compares-negated (Some answer) u ready all many fourth fifth are front answers = record {
  mark = get_or all 0 0;
  first = get_or all 1 0;
  second = get_or all 2 0;
  negated = true;
  bytes = take (length all - 5) (drop 5 all);
  stands = subst (λ (xs : List ℕ). StandsReady xs ready u)
      (behind-five all many
      ∙ ap (λ (b : ℕ). get_or all 0 0 ∷ get_or all 1 0 ∷ get_or all 2 0 ∷ b ∷ get_or all 4 0 ∷ take (length all - 5) (drop 5 all)) fourth
      ∙ ap (λ (b : ℕ). get_or all 0 0 ∷ get_or all 1 0 ∷ get_or all 2 0 ∷ blank ∷ b ∷ take (length all - 5) (drop 5 all)) fifth)
      (record { are = are; front = front });
  answers = answers;
}
