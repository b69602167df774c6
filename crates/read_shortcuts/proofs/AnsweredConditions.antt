-- What a condition answers that stands whole in front and asks for a register: where its bytes stand, and what is taken of them.
use Rattle.std.proofs.Common.{◌≡◌, ℕ, ◌≤◌, List, [], ◌∷◌, ◌++◌, length, take, drop, get_or, ◌-◌, Option, Some, None, refl, sym, ap, subst, ◌∙◌, arith, append_assoc, length-append, IfSome}
use Rattle.std.proofs.lemmas.List.{take-append-drop}
use Rattle.std.proofs.Math.Seq.{take-length}
use Rattle.roff_num.specs.declared.short_name.ShortName.{ShortName}
use Rattle.input_source.specs.Bytes.{blank}
use Rattle.run_state.specs.declared.composer.Composer.{Composer as ComposerOf}
use Rattle.read_lines.specs.Reader.State.{ReaderState}
use Rattle.run_model.specs.Reading.Items.{PageUnread}
use Rattle.run_model.specs.declared.line_state.LineState.{LineState}
use Rattle.roff_scan.specs.Unread.Calls.{IsFront, front_bytes}
use Rattle.read_shortcuts.specs.Answered.{AnswersBehind, AnswersFront, AreOfExpression, AsksFor, EndsBehind, IsAnswer, asking_bytes}
use Rattle.read_shortcuts.specs.ControlFronts.{StandsName, StandsReady}
use Rattle.read_shortcuts.specs.Registers.{BeginsRegister, OfRegister, register_escape}
use Rattle.read_shortcuts.specs.declared.answered.Answer.{Answer}
use Rattle.read_shortcuts.specs.declared.control.ControlFront.{ControlFront}
use Rattle.read_shortcuts.proofs.ConstantConditions.{no_newline-blank}
use Rattle.read_shortcuts.proofs.ControlFronts.{ready-some}
use Rattle.read_shortcuts.proofs.ExpressionFronts.{expression-plain}
use Rattle.read_shortcuts.proofs.LinesRead.{plain-append, three}
use Rattle.read_shortcuts.proofs.RegistersPut.{no_newline}
use Rattle.read_shortcuts.proofs.TakenConditions.{StandsWhole}

-- where the fourth of some bytes is a blank, others stand behind it
behind-four : (bytes : List ℕ) → 4 ≤ length bytes → get_or bytes 3 0 ≡ blank
    → bytes ≡ get_or bytes 0 0 ∷ get_or bytes 1 0 ∷ get_or bytes 2 0 ∷ blank ∷ take (length bytes - 4) (drop 4 bytes)
behind-four [] many is = absurd (omega (arith, many))
behind-four (a ∷ []) many is = absurd (omega (arith, many))
behind-four (a ∷ b ∷ []) many is = absurd (omega (arith, many))
behind-four (a ∷ b ∷ c ∷ []) many is = absurd (omega (arith, many))
behind-four (a ∷ b ∷ c ∷ d ∷ bytes) many is =
    let all : length (a ∷ b ∷ c ∷ d ∷ bytes) - 4 ≡ length bytes = omega arith in
    ap (λ (e : ℕ). a ∷ b ∷ c ∷ e ∷ bytes) is
    ∙ ap (λ (others : List ℕ). a ∷ b ∷ c ∷ blank ∷ others) (sym (ap (λ (n : ℕ). take n bytes) all ∙ take-length bytes))

-- where the escape of a register begins them, and bytes of an expression and a blank stand behind it, they ask for it
pub answers-behind : (found : Option Answer) (r : ReaderState) (es : ComposerOf) (u : PageUnread) (name : ShortName) (count : ℕ) (bytes behind rest : List ℕ) → BeginsRegister bytes name
    → behind ≡ drop (length (register_escape name)) bytes → EndsBehind count behind → rest ≡ take count behind
    → IfSome found (λ answer. IsAnswer r es u name rest answer) → IfSome found (λ answer. AnswersBehind r es u bytes answer)
answers-behind None r es u name count bytes behind rest begins is_behind ends is_rest answered = tt
answers-behind (Some answer) r es u name count bytes behind rest begins is_behind ends is_rest answered =
    let escape : List ℕ = register_escape name in
    let ended : behind ≡ rest ++ blank ∷ ends.more =
    sym (take-append-drop count behind) ∙ ap (λ (xs : List ℕ). take count behind ++ xs) ends.ended ∙ ap (λ (xs : List ℕ). xs ++ blank ∷ ends.more) (sym is_rest) in
    record {
      name = name;
      rest = rest;
      asks = record {
        named = begins.named;
        are = subst AreOfExpression (sym is_rest) ends.are;
        more = ends.more;
        is = sym (take-append-drop (length escape) bytes) ∙ ap (λ (xs : List ℕ). xs ++ drop (length escape) bytes) begins.is
            ∙ ap (λ (xs : List ℕ). escape ++ xs) (sym is_behind ∙ ended ∙ sym (append_assoc rest (blank ∷ []) ends.more)) ∙ sym (append_assoc escape (rest ++ blank ∷ []) ends.more);
      };
      is = answered;
    }

-- they stand in front, behind three bytes and a blank
pub answers-front : (found : Option Answer) (r : ReaderState) (es : ComposerOf) (u : PageUnread) (ready all : List ℕ) → 4 ≤ length all → get_or all 3 0 ≡ blank
    → all ≡ front_bytes (length all) ready u → IsFront (length all) ready u
    → IfSome found (λ answer. AnswersBehind r es u (take (length all - 4) (drop 4 all)) answer) → IfSome found (λ answer. AnswersFront r es ready u answer)
answers-front None r es u ready all many is are front answered = tt
answers-front (Some answer) r es u ready all many is are front answered = record {
  mark = get_or all 0 0;
  first = get_or all 1 0;
  second = get_or all 2 0;
  bytes = take (length all - 4) (drop 4 all);
  stands = subst (λ (xs : List ℕ). StandsReady xs ready u) (behind-four all many is) (record { are = are; front = front });
  answers = answered;
}

-- the bytes of a control line's front, and of a condition behind a blank that asks for a register
abbrev pub asking_front : ControlFront → ShortName → List ℕ → List ℕ
asking_front front name rest = three front ++ blank ∷ asking_bytes name rest

-- such a condition stands behind the front of a line
pub stands-asking : (front : ControlFront) (ready : List ℕ) (u : PageUnread) (mark first second : ℕ) (condition more : List ℕ)
    → StandsReady (mark ∷ first ∷ second ∷ blank ∷ (condition ++ more)) ready u → StandsReady (three front) ready u → StandsReady (three front ++ blank ∷ condition) ready u
stands-asking front ready u mark first second condition more all stands =
    let bytes : List ℕ = mark ∷ first ∷ second ∷ [] in
    let there : StandsReady (bytes ++ blank ∷ condition) ready u = ready-some (bytes ++ blank ∷ condition) more ready u all in
    let some : StandsReady bytes ready u = ready-some bytes (blank ∷ condition) ready u there in
    let same : bytes ≡ three front = some.are ∙ sym stands.are in
    subst (λ (xs : List ℕ). StandsReady xs ready u) (ap (λ (xs : List ℕ). xs ++ blank ∷ condition) same) there

module _ (r : ReaderState) (es : ComposerOf) (front : ControlFront) (ready : List ℕ) (reading : LineState) (before : PageUnread) (answer : Answer)
    (named : StandsName front reading r.reading ready before) (answers : AnswersFront r es ready before answer) where
  -- its bytes, and those in front of them
  pub stands-answered : StandsWhole (asking_front front answers.answers.name answers.answers.rest) ready answer before
  stands-answered =
      let name : ShortName = answers.answers.name in
      let rest : List ℕ = answers.answers.rest in
      let asks : AsksFor name rest answers.bytes = answers.answers.asks in
      record {
        stands = stands-asking front ready before answers.mark answers.first answers.second (asking_bytes name rest) asks.more
            (subst (λ (xs : List ℕ). StandsReady (answers.mark ∷ answers.first ∷ answers.second ∷ blank ∷ xs) ready before) asks.is answers.stands) named.stands;
        count = omega (arith, answers.answers.is.count, length-append (register_escape name) (rest ++ blank ∷ []), length-append rest (blank ∷ []));
        some = omega arith;
        plain = plain-append (three front ++ blank ∷ []) (asking_bytes name rest) (no_newline-blank front.breaks front.first front.second named.first named.second)
            (plain-append (register_escape name) (rest ++ blank ∷ []) (no_newline OfRegister name.first name.second asks.named)
            (plain-append rest (blank ∷ []) (expression-plain rest asks.are) (refl, tt)));
      }
