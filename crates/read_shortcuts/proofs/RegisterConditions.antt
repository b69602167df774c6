-- A condition that asks for a register is read at once, and decides: as if the register's text had been put in front and read.
use Rattle.std.proofs.Common.{◌≡◌, ℕ, ◌+◌, ◌==◌, ◌<◌, ◌≤◌, Bool, true, false, List, [], ◌∷◌, ◌++◌, length, Some, Ok, refl, sym, ap, subst, ◌∙◌, arith, append-nil, length-append, int_lt, pos}
use Rattle.roff_num.specs.Expressions.{value_at}
use Rattle.roff_num.specs.declared.num.Num.{Num}
use Rattle.roff_num.specs.declared.num.Scale.TheVariants.{Units}
use Rattle.roff_num.specs.declared.short_name.ShortName.{ShortName}
use Rattle.input_source.specs.Bytes.{blank}
use Rattle.input_source.specs.Tape.{Tape}
use Rattle.run_state.specs.declared.composer.Composer.{Composer as ComposerOf}
use Rattle.input_escapes.specs.ConditionFronts.{NothingTaken}
use Rattle.input_model.specs.Input.{Ahead, EndAhead, bytes_ahead, ends_ahead, pushed}
use Rattle.input_model.specs.Shown.{seen_ahead}
use Rattle.input_model.specs.Unread.{IsWithin}
use Rattle.read_lines.specs.Reader.State.{ReaderState}
use Rattle.run_model.proofs.ItemsTaken.{Origin, ahead_at}
use Rattle.run_model.proofs.PlainRuns.{bytes_ahead-behind, ends_ahead-behind_all}
use Rattle.run_model.specs.PageEvents.{PageEvent}
use Rattle.run_model.specs.Reading.Branches.{branch_of}
use Rattle.run_model.specs.Reading.Items.{PageInput, PageUnread}
use Rattle.run_model.specs.declared.line_state.LineState.TheVariants.{Deciding}
use Rattle.roff_scan.specs.Unread.Calls.{PassesFront, front_bytes}
use Rattle.roff_scan.specs.Unread.Texts.{CountsText, HasRoomFor}
use Rattle.read_shortcuts.specs.Answered.{AnswersFront, AsksFor, IsAnswer}
use Rattle.read_shortcuts.specs.Conditions.{DecidesBehind, DecidesRegister, HoldsMore, NoRest, PassesEndIf, coming, deciding_reader}
use Rattle.read_shortcuts.specs.ControlFronts.{StandsName}
use Rattle.read_shortcuts.specs.KeptResults.{kept_unread, results_kept}
use Rattle.read_shortcuts.specs.Registers.{OfRegister}
use Rattle.read_shortcuts.specs.Stages.{ReadsPast}
use Rattle.read_shortcuts.specs.declared.answered.Answer.{Answer}
use Rattle.read_shortcuts.specs.declared.control.ControlFront.{ControlFront}
use Rattle.read_shortcuts.proofs.AddedRuns.{turned-same}
use Rattle.read_shortcuts.proofs.AnsweredConditions.{asking_front, stands-answered}
use Rattle.read_shortcuts.proofs.AskedConditions.{IsAsked, between, bytes-last, charge_between, charge_ended, ended, ends-left, reads-asked, reads-rest, within-between, within-ended}
use Rattle.read_shortcuts.proofs.ComingBytes.{CameFrom, IsOpen, at, newly_held, none_left, of_source, passes-next, sees-next}
use Rattle.read_shortcuts.proofs.ConstantConditions.{choice, expression, no_newline-blank, none_due-branch, passes-behind}
use Rattle.read_shortcuts.proofs.ExpressionFronts.{expression-plain, expression-stays, halves-more, halves-number}
use Rattle.read_shortcuts.proofs.RegisterNames.{asks_text, reads_escape-choice, reads_names-deciding}
use Rattle.read_shortcuts.proofs.RegistersPut.{name_for, no_newline}
use Rattle.read_shortcuts.proofs.TakenConditions.{TakenFrom, taken-from}

module _ (keeps : Bool) (gave gives : Tape → Type 0) (r : ReaderState) (es : ComposerOf) (front : ControlFront) (ready : List ℕ) (name : ShortName) (bytes : List ℕ) (answer : Answer)
    (before : PageUnread) (from : Origin) (named : StandsName front (Deciding keeps) r.reading ready before) (is_open : IsOpen from gives before.looked) (within : IsWithin before)
    (room : HasRoomFor answer.len answer.count before) where
  abbrev i : PageInput
  i = before.input

  -- the blank that ends the expression, where it is a byte of the source, and what stands ahead in front of it
  abbrev last : List ℕ
  last = of_source from (blank ∷ [])

  abbrev behind : List (Ahead PageEvent)
  behind = ahead_at from (blank ∷ [])

  -- where the expression has decided
  abbrev kept : Bool → List (Ahead PageEvent) → ℕ → PageUnread
  kept so items charge = at from (kept_unread keeps so before) [] items charge

  -- it is asked for
  abbrev asked : (rest : List ℕ) → AsksFor name rest bytes → IsAnswer r es before name rest answer → before.input.ahead ≡ ahead_at from (asking_front front name rest)
      → CameFrom from gave gives (asking_front front name rest) → pushed i + answer.len + newly_held from rest ≤ before.limits.stack → IsAsked OfRegister keeps gave gives r es front ready before
  asked rest asks is ahead comes stack = record {
    from = from;
    opening = [];
    name = name;
    text = is.text;
    rest = rest;
    more = blank ∷ [];
    half = choice;
    read = expression is.text;
    last = expression (is.text ++ rest);
    named = named;
    within = within;
    is_open = is_open;
    plain = no_newline-blank front.breaks front.first front.second named.first named.second;
    plain_escape = no_newline OfRegister name.first name.second asks.named;
    plain_rest = expression-plain rest asks.are;
    opens = NothingTaken choice;
    none_held = refl;
    asks = asks_text OfRegister i.names (Deciding keeps) (reads_names-deciding keeps) choice reads_escape-choice i.arguments i.open_texts name.first name.second
        (name_for OfRegister name.first name.second tt asks.named);
    text_is = λ charge limits h stands. is.text_is limits h stands;
    reads = halves-number is.text is.number;
    read_held = omega arith;
    others = halves-more is.text rest asks.are;
    last_held = omega (arith, length-append is.text rest);
    ahead = ahead;
    comes = comes;
    stack = omega (arith, stack, is.len);
    shallow = room.shallow;
    charges = omega (arith, room.bytes, is.len, is.count);
  }

  -- no count is above its limit there
  within-kept : (so : Bool) (items : List (Ahead PageEvent)) (charge : ℕ) → length (results_kept keeps so i) ≤ before.limits.conditions → bytes_ahead items ≤ bytes_ahead i.ahead
      → ends_ahead items ≤ before.limits.depth → i.charge ≤ charge → charge ≤ before.limits.bytes → IsWithin (kept so items charge)
  within-kept so items charge few bytes ends least most = record {
    charge = most;
    newlines = omega (arith, within.newlines, least);
    pushed = omega (arith, within.pushed, bytes);
    depth = ends;
    results = few;
    stored = within.stored;
    names = within.names;
    making = within.making;
  }

  -- the blank was read past, where the branch begins
  reads-blank : (so : Bool) (charge : ℕ) → IsWithin (kept so (ahead_at from []) (charge + 1))
      → ReadsPast (coming last gives) gives (record r { reading = branch_of so }) (record r { reading = branch_of so }) (kept so behind charge) (kept so (ahead_at from []) (charge + 1))
  reads-blank so charge inside = record {
    bytes = blank ∷ [];
    turned = turned-same (λ b. b == blank) i.names (branch_of so) [] i.arguments i.open_texts (blank ∷ []) refl (none_due-branch so) (passes-behind so) (refl, tt);
    passes = subst (λ (left : List ℕ). PassesFront (coming last gives) (coming left gives) (blank ∷ []) (kept so behind charge) (kept so (ahead_at from []) (charge + 1)))
        (none_left from) (passes-next from gives (kept_unread keeps so before) [] (blank ∷ []) [] charge is_open (refl, tt) (omega arith) inside.charge);
    registers = refl;
    meaning = refl;
    within = inside;
  }

  -- the expression decides where this is half read of it: the end of a text, if it is said, and the blank were read past
  decides-behind : (text : List ℕ) (items : List (Ahead PageEvent)) (charge over : ℕ) (value : Num × ℕ) (is_ended : Bool) → let so : Bool = int_lt (pos 0) value.0.0 in
      value_at text 0 Units (Some (pos 0)) ≡ Ok value → seen_ahead items ≡ seen_ahead behind → bytes_ahead items ≡ bytes_ahead behind → ends_ahead items ≤ ends_ahead behind + 1
      → i.charge ≤ charge → charge ≤ over → (IsWithin (kept so behind over) → PassesEndIf is_ended (kept so items charge) (kept so behind over))
      → length (results_kept keeps so i) ≤ before.limits.conditions → bytes_ahead behind ≤ bytes_ahead i.ahead → ends_ahead behind < before.limits.depth
      → over + 1 ≡ i.charge + (answer.len + 1) + answer.count
      → DecidesBehind keeps (coming last gives) gives (deciding_reader keeps r) (record r { reading = branch_of so }) (at from before (expression text) items charge)
      (kept so (ahead_at from []) (i.charge + (answer.len + 1) + answer.count))
  decides-behind text items charge over value is_ended number sees same one least more ends few fewer shallow counted =
      let so : Bool = int_lt (pos 0) value.0.0 in
      let half : PageUnread = at from before (expression text) items charge in
      let within-over : IsWithin (kept so behind over) =
      within-kept so behind over few fewer (omega (arith, shallow)) (omega (arith, least, more)) (omega (arith, counted, room.bytes)) in
      let within-last : IsWithin (kept so (ahead_at from []) (over + 1)) =
      within-kept so (ahead_at from []) (over + 1) few (omega (arith, fewer, bytes_ahead-behind from (blank ∷ []))) (omega (arith, shallow, ends_ahead-behind_all from (blank ∷ [])))
      (omega (arith, least, more)) (omega (arith, counted, room.bytes)) in
      subst (λ (n : ℕ). DecidesBehind keeps (coming last gives) gives (deciding_reader keeps r) (record r { reading = branch_of so }) half (kept so (ahead_at from []) n)) counted
      (record {
        deciding = refl;
        text = text;
        half = refl;
        sees = sees-next from gives half blank [] is_open sees;
        value = value;
        is_number = number;
        within = within-kept so items charge few (omega (arith, same, fewer)) (omega (arith, one, shallow)) least (omega (arith, more, counted, room.bytes));
        is_ended = is_ended;
        over = kept so behind over;
        ends = ends within-over;
        behind = reads-blank so over within-last;
      })

  -- so it decides, where as much was taken as is to be
  decides : (rest : List ℕ) (asks : AsksFor name rest bytes) (is : IsAnswer r es before name rest answer) → before.input.ahead ≡ ahead_at from (asking_front front name rest)
      → CameFrom from gave gives (asking_front front name rest) → pushed i + answer.len + newly_held from rest ≤ before.limits.stack
      → length (results_kept keeps (int_lt (pos 0) is.value.0.0) i) ≤ before.limits.conditions
      → DecidesRegister es gave gives r (record r { reading = branch_of (int_lt (pos 0) is.value.0.0) }) before
      (kept (int_lt (pos 0) is.value.0.0) (ahead_at from []) (i.charge + (answer.len + 1) + answer.count))
  decides [] asks is ahead comes stack few =
      let a : IsAsked OfRegister keeps gave gives r es front ready before = asked [] asks is ahead comes stack in
      let charge : ℕ = charge_ended OfRegister keeps gave gives r es front ready before a in
      let number : value_at is.text 0 Units (Some (pos 0)) ≡ Ok is.value = ap (λ (xs : List ℕ). value_at xs 0 Units (Some (pos 0))) (sym (append-nil is.text)) ∙ is.is_number in
      record {
        keeps = keeps;
        last = last;
        between = ended OfRegister keeps gave gives r es front ready before a;
        reads = reads-asked OfRegister keeps gave gives r es front ready before a last (ended OfRegister keeps gave gives r es front ready before a) (NoRest refl refl);
        within = within-ended OfRegister keeps gave gives r es front ready before a;
        decides = decides-behind is.text (EndAhead ∷ behind) charge (charge + 1) is.value true number refl refl (omega arith) (omega arith) (omega arith)
            (λ inside. (record { behind = behind; in_front = refl; input = refl; within = inside.charge }, inside)) few
            (bytes-last OfRegister keeps gave gives r es front ready before a).0 (ends-left OfRegister keeps gave gives r es front ready before a (blank ∷ [])) (omega (arith, is.len, is.count));
      }
  decides (b ∷ rest) asks is ahead comes stack few =
      let a : IsAsked OfRegister keeps gave gives r es front ready before = asked (b ∷ rest) asks is ahead comes stack in
      let charge : ℕ = charge_between OfRegister keeps gave gives r es front ready before a in
      record {
        keeps = keeps;
        last = last;
        between = between OfRegister keeps gave gives r es front ready before a;
        reads = reads-asked OfRegister keeps gave gives r es front ready before a last (between OfRegister keeps gave gives r es front ready before a)
            (reads-rest OfRegister keeps gave gives r es front ready before a b rest refl refl (expression-stays is.text b asks.are.0));
        within = within-between OfRegister keeps gave gives r es front ready before a;
        decides = decides-behind (is.text ++ b ∷ rest) behind charge charge is.value false is.is_number refl refl (omega arith) (omega arith) (omega arith) (λ inside. refl) few
            (bytes-last OfRegister keeps gave gives r es front ready before a).0 (ends-left OfRegister keeps gave gives r es front ready before a (blank ∷ [])) (omega (arith, is.len, is.count));
      }

-- it was taken at once
pub decides-register : (keeps : Bool) (gave gives : Tape → Type 0) (r : ReaderState) (es : ComposerOf) (front : ControlFront) (ready : List ℕ) (before counted after : PageUnread) (answer : Answer)
    → StandsName front (Deciding keeps) r.reading ready before → AnswersFront r es ready before answer → CountsText answer.len answer.count (kept_unread keeps answer.so before) counted
    → HoldsMore answer before → IsWithin before → IsWithin after → (new : ReaderState) → PassesFront gave gives (front_bytes answer.count ready counted) counted after
    → new ≡ record r { reading = branch_of answer.so } → DecidesRegister es gave gives r new before after
decides-register keeps gave gives r es front ready before counted after answer named answers counts held within inside new passes reads =
    let rest : List ℕ = answers.answers.rest in
    let is : IsAnswer r es before answers.answers.name rest answer = answers.answers.is in
    let t : TakenFrom keeps gave gives answer before after (asking_front front answers.answers.name rest) =
    taken-from keeps (asking_front front answers.answers.name rest) ready answer before counted (stands-answered r es front ready (Deciding keeps) before answer named answers) counts gave gives after named.none_half held inside passes in
    subst (λ (n : ReaderState). DecidesRegister es gave gives r n before after) (sym reads)
    (subst (λ (u : PageUnread). DecidesRegister es gave gives r (record r { reading = branch_of answer.so }) before u) (sym t.is)
    (subst (λ (so : Bool). DecidesRegister es gave gives r (record r { reading = branch_of so }) before (at t.from (kept_unread keeps so before) [] (ahead_at t.from []) (before.input.charge + (answer.len + 1) + answer.count)))
    (sym is.so)
    (decides keeps gave gives r es front ready answers.answers.name answers.bytes answer before t.from named t.is_open within t.room rest answers.answers.asks is t.ahead t.comes
    (t.stack rest (omega (arith, is.count))) (subst (λ (so : Bool). length (results_kept keeps so before.input) ≤ before.limits.conditions) is.so t.few))))
