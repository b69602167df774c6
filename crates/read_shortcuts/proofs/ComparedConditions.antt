-- A condition that compares an argument with a text is read at once, and decides: as if the argument's text had been put in front and read.
use Rattle.std.proofs.Common.{◌≡◌, ℕ, ◌+◌, ◌==◌, ◌≤◌, Bool, true, false, List, [], ◌∷◌, ◌++◌, length, None, refl, sym, ap, subst, ◌∙◌, arith, append-nil, append_assoc, length-append, bytes_eq, ne_eqb}
use Rattle.input_source.specs.Bytes.{blank, newline}
use Rattle.input_source.specs.Tape.{Tape}
use Rattle.run_state.specs.declared.composer.Composer.{Composer as ComposerOf}
use Rattle.input_escapes.specs.Conditions.{so_unless}
use Rattle.input_model.specs.Input.{pushed}
use Rattle.input_model.specs.Input.Calls.{arguments_live}
use Rattle.input_model.specs.Unread.{IsWithin}
use Rattle.read_lines.specs.Reader.State.{ReaderState}
use Rattle.run_model.proofs.ItemsTaken.{Origin, ahead_at}
use Rattle.run_model.specs.Reading.Branches.{branch_of}
use Rattle.run_model.specs.Reading.Items.{PageInput, PageUnread}
use Rattle.run_model.specs.declared.line_state.LineState.{LineState}
use Rattle.run_model.specs.declared.line_state.LineState.TheVariants.{Deciding}
use Rattle.roff_scan.specs.Unread.Calls.{NoNewline, PassesFront, front_bytes}
use Rattle.roff_scan.specs.Unread.Texts.{CountsText, HasRoomFor}
use Rattle.read_shortcuts.specs.Compared.{ComparesBehind, ComparesFront, bytes_beside, comparing_bytes, negating}
use Rattle.read_shortcuts.specs.Conditions.{DecidesTexts, HoldsMore, ReadsAsked, kept_half}
use Rattle.read_shortcuts.specs.ControlFronts.{StandsName, StandsReady}
use Rattle.read_shortcuts.specs.KeptResults.{kept_unread, results_kept}
use Rattle.read_shortcuts.specs.Registers.{OfArgument, argument_name, escape_behind}
use Rattle.read_shortcuts.specs.declared.answered.Answer.{Answer}
use Rattle.read_shortcuts.specs.declared.control.ControlFront.{ControlFront}
use Rattle.read_shortcuts.proofs.AnsweredConditions.{stands-asking}
use Rattle.read_shortcuts.proofs.ArgumentsPut.{argument_named-digit, is_name-digit}
use Rattle.read_shortcuts.proofs.AskedConditions.{IsAsked, between as there, charge_between, reads-asked, reads-rest, within-between}
use Rattle.read_shortcuts.proofs.ComingBytes.{CameFrom, IsOpen, at, newly_held, none_left, of_source}
use Rattle.read_shortcuts.proofs.ComparedTexts.{compared, comparing, delimiter-plain, halves-behind, halves-opening, halves-text, reads_escape-comparing, text-plain}
use Rattle.read_shortcuts.proofs.ConstantConditions.{no_newline-blank}
use Rattle.read_shortcuts.proofs.LinesRead.{plain-append, three}
use Rattle.read_shortcuts.proofs.RegisterNames.{asks_text, reads_names-deciding}
use Rattle.read_shortcuts.proofs.TakenConditions.{StandsWhole, TakenFrom, taken-from}

-- how many bytes stand in front of the argument's escape, behind the front of a line and a blank
opening-length : (negated : Bool) (d : ℕ) (more : List ℕ) → length (negating negated ++ d ∷ more) + 9 ≡ bytes_beside negated + length more
opening-length true d more = omega arith
opening-length false d more = omega arith

-- a digit is no newline
digit-plain : (digit : ℕ) → 49 ≤ digit → (digit == newline) ≡ false
digit-plain digit above = ne_eqb digit newline (λ same. omega (arith, same, above))

-- no newline is among the bytes in front of the argument's escape, nor behind it
plain-negating : (negated : Bool) → NoNewline (negating negated)
plain-negating true = (refl, tt)
plain-negating false = tt

module _ (keeps : Bool) (gave gives : Tape → Type 0) (r : ReaderState) (es : ComposerOf) (front : ControlFront) (ready : List ℕ) (negated : Bool) (bytes : List ℕ) (answer : Answer)
    (before : PageUnread) (from : Origin) (named : StandsName front (Deciding keeps) r.reading ready before) (is : ComparesBehind negated bytes before answer)
    (is_open : IsOpen from gives before.looked) (within : IsWithin before) (room : HasRoomFor answer.len answer.count before) (few : length (results_kept keeps answer.so before.input) ≤ before.limits.conditions)
    (ahead : before.input.ahead ≡ ahead_at from (three front ++ blank ∷ (negating negated ++ comparing_bytes is.delimiter is.digit is.other)))
    (comes : CameFrom from gave gives (three front ++ blank ∷ (negating negated ++ comparing_bytes is.delimiter is.digit is.other)))
    (stack : pushed before.input + answer.len + newly_held from (is.delimiter ∷ (is.other ++ is.delimiter ∷ [])) ≤ before.limits.stack) where
  abbrev i : PageInput
  i = before.input

  abbrev d : ℕ
  d = is.delimiter

  abbrev opening : List ℕ
  opening = negating negated ++ d ∷ []

  abbrev escape : List ℕ
  escape = escape_behind OfArgument is.digit None

  abbrev closing : List ℕ
  closing = d ∷ (is.other ++ d ∷ [])

  parts : three front ++ blank ∷ (negating negated ++ comparing_bytes d is.digit is.other) ≡ three front ++ blank ∷ (opening ++ (escape ++ (closing ++ [])))
  parts =
      ap (λ (xs : List ℕ). three front ++ blank ∷ xs)
      (sym (append_assoc (negating negated) (d ∷ []) (escape ++ closing)) ∙ ap (λ (xs : List ℕ). opening ++ (escape ++ xs)) (sym (append-nil closing)))

  all-length : length opening + 4 + length escape + length closing ≡ answer.count
  all-length =
      omega (arith, opening-length negated d [], opening-length negated d is.other, length-append (negating negated) (d ∷ []), length-append (negating negated) (d ∷ is.other), length-append is.other (d ∷ []), is.count)

  closed : NoNewline (d ∷ [])
  closed = (delimiter-plain d is.delimits, tt)

  abbrev asked : IsAsked OfArgument keeps gave gives r es front ready before
  asked = record {
    from = from;
    opening = opening;
    name = argument_name is.digit;
    text = is.text;
    rest = closing;
    more = [];
    half = comparing negated d None [];
    read = comparing negated d None is.text;
    last = compared (so_unless negated (bytes_eq is.text is.other)) (is.text ++ is.other);
    named = named;
    within = within;
    is_open = is_open;
    plain = plain-append (three front ++ blank ∷ []) opening (no_newline-blank front.breaks front.first front.second named.first named.second)
        (plain-append (negating negated) (d ∷ []) (plain-negating negated) closed);
    plain_escape = (refl, (refl, (digit-plain is.digit is.above, tt)));
    plain_rest = (closed.0, plain-append is.other (d ∷ []) (text-plain d is.other is.plain_other) closed);
    opens = halves-opening negated d is.delimits;
    none_held = refl;
    asks = asks_text OfArgument i.names (Deciding keeps) (reads_names-deciding keeps) (comparing negated d None []) (reads_escape-comparing negated d is.delimits) i.arguments i.open_texts is.digit None
        (is_name-digit is.digit is.above is.below);
    text_is = λ charge limits h stands. is.text_is ∙ sym (argument_named-digit is.digit (arguments_live i) is.above is.below);
    reads = halves-text negated d None [] is.text is.plain;
    read_held = omega arith;
    others = halves-behind negated d is.text is.other is.delimits is.plain_other;
    last_held = omega (arith, length-append is.text is.other, length-append is.other (d ∷ []));
    ahead = ahead ∙ ap (λ (xs : List ℕ). ahead_at from xs) parts;
    comes = subst (CameFrom from gave gives) parts comes;
    stack = omega (arith, stack, is.len);
    shallow = room.shallow;
    charges = omega (arith, room.bytes, is.len, all-length);
  }

  abbrev so : Bool
  so = so_unless negated (bytes_eq is.text is.other)

  abbrev between : PageUnread
  between = there OfArgument keeps gave gives r es front ready before asked

  within-last : (kept : Bool) → kept ≡ answer.so → IsWithin (kept_half keeps kept between)
  within-last kept same =
      let inside = within-between OfArgument keeps gave gives r es front ready before asked in
      record {
        charge = inside.charge;
        newlines = inside.newlines;
        pushed = omega (arith, inside.pushed);
        depth = inside.depth;
        results = subst (λ (s : Bool). length (results_kept keeps s i) ≤ before.limits.conditions) (sym same) few;
        stored = inside.stored;
        names = inside.names;
        making = inside.making;
      }

  decides-last : DecidesTexts es gave gives r (record r { reading = branch_of so }) before (kept_half keeps so between)
  decides-last = record {
    keeps = keeps;
    between = between;
    asked = subst (λ (bytes : List ℕ). ReadsAsked OfArgument es keeps bytes gave gives r before between) (none_left from)
        (reads-asked OfArgument keeps gave gives r es front ready before asked (of_source from []) between
        (reads-rest OfArgument keeps gave gives r es front ready before asked d (is.other ++ d ∷ []) refl refl (delimiter-plain d is.delimits)));
    so = so;
    texts = is.text ++ is.other;
    half = refl;
    is = refl;
    reads = refl;
    within = within-last so (sym is.so);
  }

  -- there the input is once its bytes were taken, and the text was counted
  pub decides-texts : DecidesTexts es gave gives r (record r { reading = branch_of answer.so }) before (at from (kept_unread keeps answer.so before) [] (ahead_at from []) (i.charge + (answer.len + 1) + answer.count))
  decides-texts =
      let charge : charge_between OfArgument keeps gave gives r es front ready before asked ≡ i.charge + (answer.len + 1) + answer.count = omega (arith, length-append (three front ++ blank ∷ []) opening, all-length, is.len) in
      subst (λ (s : Bool). DecidesTexts es gave gives r (record r { reading = branch_of s }) before (at from (kept_unread keeps s before) [] (ahead_at from []) (i.charge + (answer.len + 1) + answer.count))) (sym is.so)
      (subst (λ (n : ℕ). DecidesTexts es gave gives r (record r { reading = branch_of so }) before (at from (kept_unread keeps so before) [] (ahead_at from []) n)) charge decides-last)

-- such a condition stands in front with the front of its line
abbrev comparing_front : ControlFront → (ready : List ℕ) (u : PageUnread) (answer : Answer) → ComparesFront ready u answer → List ℕ
comparing_front front ready u answer c = three front ++ blank ∷ (negating c.negated ++ comparing_bytes c.answers.delimiter c.answers.digit c.answers.other)

pub stands-compared : (r : ReaderState) (front : ControlFront) (ready : List ℕ) (reading : LineState) (before : PageUnread) (answer : Answer) → StandsName front reading r.reading ready before
    → (compares : ComparesFront ready before answer) → StandsWhole (comparing_front front ready before answer compares) ready answer before
stands-compared r front ready reading before answer named compares =
    let is : ComparesBehind compares.negated compares.bytes before answer = compares.answers in
    let d : ℕ = is.delimiter in
    let condition : List ℕ = comparing_bytes d is.digit is.other in
    let end : NoNewline (d ∷ []) = (delimiter-plain d is.delimits, tt) in
    record {
      stands = stands-asking front ready before compares.mark compares.first compares.second (negating compares.negated ++ condition) is.more
          (subst (λ (xs : List ℕ). StandsReady (compares.mark ∷ compares.first ∷ compares.second ∷ blank ∷ xs) ready before)
          (ap (λ (xs : List ℕ). negating compares.negated ++ xs) is.is ∙ sym (append_assoc (negating compares.negated) condition is.more)) compares.stands) named.stands;
      count = omega (arith, is.count, opening-length compares.negated d is.other, length-append (negating compares.negated) (d ∷ is.other), length-append (negating compares.negated) condition, length-append is.other (d ∷ []));
      some = omega arith;
      plain = plain-append (three front ++ blank ∷ []) (negating compares.negated ++ condition) (no_newline-blank front.breaks front.first front.second named.first named.second)
          (plain-append (negating compares.negated) condition (plain-negating compares.negated)
          (end.0, (refl, (refl, (digit-plain is.digit is.above, (end.0, plain-append is.other (d ∷ []) (text-plain d is.other is.plain_other) end))))));
    }

-- it was taken at once
pub decides-compared : (keeps : Bool) (gave gives : Tape → Type 0) (r : ReaderState) (es : ComposerOf) (front : ControlFront) (ready : List ℕ) (before counted after : PageUnread) (answer : Answer)
    → StandsName front (Deciding keeps) r.reading ready before → ComparesFront ready before answer → CountsText answer.len answer.count (kept_unread keeps answer.so before) counted
    → HoldsMore answer before → IsWithin before → IsWithin after → (new : ReaderState) → PassesFront gave gives (front_bytes answer.count ready counted) counted after
    → new ≡ record r { reading = branch_of answer.so } → DecidesTexts es gave gives r new before after
decides-compared keeps gave gives r es front ready before counted after answer named compares counts held within inside new passes reads =
    let is : ComparesBehind compares.negated compares.bytes before answer = compares.answers in
    let d : ℕ = is.delimiter in
    let t : TakenFrom keeps gave gives answer before after (comparing_front front ready before answer compares) =
    taken-from keeps (comparing_front front ready before answer compares) ready answer before counted (stands-compared r front ready (Deciding keeps) before answer named compares) counts gave gives after named.none_half held inside passes in
    subst (λ (n : ReaderState). DecidesTexts es gave gives r n before after) (sym reads)
    (subst (λ (u : PageUnread). DecidesTexts es gave gives r (record r { reading = branch_of answer.so }) before u) (sym t.is)
    (decides-texts keeps gave gives r es front ready compares.negated compares.bytes answer before t.from named is t.is_open within t.room t.few t.ahead t.comes
    (t.stack (d ∷ (is.other ++ d ∷ [])) (omega (arith, opening-length compares.negated d [], is.count, length-append is.other (d ∷ []))))))
