-- An escape of a condition is read at once, with the front of its line and bytes behind it: as if its text had been put in front and read.
use Rattle.std.proofs.Common.{◌≡◌, ℕ, ◌+◌, ◌<◌, ◌≤◌, Bool, List, [], ◌∷◌, ◌++◌, length, map, Some, false, refl, sym, ap, subst, arith}
use Rattle.roff_num.specs.ShortNames.{name_bytes}
use Rattle.roff_num.specs.declared.limits.Limits.{Limits}
use Rattle.roff_num.specs.declared.short_name.ShortName.{ShortName}
use Rattle.input_source.specs.Bytes.{blank}
use Rattle.input_source.specs.Tape.{Tape}
use Rattle.run_state.specs.declared.composer.Composer.{Composer as ComposerOf}
use Rattle.run_state.specs.Composer.Standing.{StandFor}
use Rattle.input_escapes.specs.ConditionFronts.{HalvesTaken}
use Rattle.input_escapes.specs.OpenEscape.{OpenEscape, texts_held}
use Rattle.input_escapes.specs.Waiting.{is_ended_by}
use Rattle.input_escapes.specs.declared.open_escape.Waiting.TheVariants.{Waits}
use Rattle.input_model.proofs.Counts.{bytes_ahead-bytes, ends_ahead-bytes}
use Rattle.input_model.specs.Input.{Ahead, ByteAhead, EndAhead, bytes_ahead, depth, ends_ahead, pushed}
use Rattle.input_model.specs.Unread.{IsWithin}
use Rattle.read_lines.specs.Reader.State.{ReaderState}
use Rattle.run_model.proofs.ItemsTaken.{Origin, ahead_at}
use Rattle.run_model.proofs.PlainRuns.{ends_ahead-behind_all}
use Rattle.run_model.specs.Environments.{PageHistory}
use Rattle.run_model.specs.PageEvents.{PageEvent}
use Rattle.run_model.specs.Reading.Items.{PageInput, PageUnread}
use Rattle.run_model.specs.Reading.Units.{interrupted}
use Rattle.run_model.specs.Reading.Waiting.{waiting_in}
use Rattle.run_model.specs.Run.{known_at}
use Rattle.run_model.specs.Stages.{Turned, stage_of}
use Rattle.run_model.specs.declared.line_state.LineState.TheVariants.{Deciding}
use Rattle.roff_scan.proofs.PassingAhead.{bytes_taken-is}
use Rattle.roff_scan.specs.Unread.Calls.{NoNewline, OfTexts, PassesFront}
use Rattle.read_shortcuts.specs.Conditions.{ReadsAsked, ReadsRest, SeesNext, SomeRest, coming, deciding_reader}
use Rattle.read_shortcuts.specs.ControlFronts.{StandsName}
use Rattle.read_shortcuts.specs.Registers.{Asked, AsksText, PutsText, escape_of, text_asked, with_text}
use Rattle.read_shortcuts.specs.Stages.{ReadsPast}
use Rattle.read_shortcuts.specs.declared.control.ControlFront.{ControlFront}
use Rattle.read_shortcuts.proofs.ComingBytes.{CameFrom, IsOpen, at, counts-next, free-next, newly_held, of_source, passes-front, passes-next, sees-next}
use Rattle.read_shortcuts.proofs.ConditionRuns.{turned-taken}
use Rattle.read_shortcuts.proofs.ConstantConditions.{choice, takes-half, turned-blank}
use Rattle.read_shortcuts.proofs.ControlFronts.{stage_with}
use Rattle.read_shortcuts.proofs.LinesRead.{Turned-append, three}
use Rattle.read_shortcuts.proofs.RegistersPut.{free_ahead-bytes, some_bytes}

-- bytes that are held of a condition were read past
pub reads-held : (from : Origin) (gave gives : Tape → Type 0) (u : PageUnread) (keeps : Bool) (r : ReaderState) (half last : List OpenEscape) (bytes : List ℕ) (items behind : List (Ahead PageEvent)) (charge : ℕ)
    → HalvesTaken half bytes last → PassesFront gave gives bytes (at from u half items charge) (at from u half behind (charge + length bytes))
    → IsWithin (at from u last behind (charge + length bytes))
    → ReadsPast gave gives (deciding_reader keeps r) (deciding_reader keeps r) (at from u half items charge) (at from u last behind (charge + length bytes))
reads-held from gave gives u keeps r half last bytes items behind charge halves passes within = record {
  bytes = bytes;
  turned = turned-taken u.input.names (Deciding keeps) u.input.arguments u.input.open_texts half last bytes refl (takes-half keeps) halves;
  passes = passes;
  registers = refl;
  meaning = refl;
  within = within;
}

-- An escape of a condition stands behind the front of its line and an opening, and bytes behind it and more: they come from there, its text
-- is held behind the opening, and the bytes behind that. The limits have room for all of it.
pub record IsAsked (asked_for : Asked) (keeps : Bool) (gave gives : Tape → Type 0) (r : ReaderState) (es : ComposerOf) (front : ControlFront) (ready : List ℕ) (before : PageUnread) : Type 0 where
  pub from : Origin
  pub opening : List ℕ
  pub name : ShortName
  pub text : List ℕ
  pub rest : List ℕ
  pub more : List ℕ
  pub half : List OpenEscape
  pub read : List OpenEscape
  pub last : List OpenEscape
  pub named : StandsName front (Deciding keeps) r.reading ready before
  pub within : IsWithin before
  pub is_open : IsOpen from gives before.looked
  pub plain : NoNewline (three front ++ blank ∷ opening)
  pub plain_escape : NoNewline (escape_of asked_for name)
  pub plain_rest : NoNewline rest
  pub opens : HalvesTaken choice opening half
  pub none_held : texts_held half ≡ 0
  pub asks : AsksText asked_for before.input.names (stage_with (Deciding keeps) half before.input.arguments before.input.open_texts) (escape_of asked_for name) (name_bytes name)
  pub text_is : (charge : ℕ) (limits : Limits) (h : PageHistory) → StandFor limits h es
      → let i : PageInput = (at from before half (ahead_at from (rest ++ more)) charge).input in text ≡ text_asked asked_for (known_at h r.registers.all i) (interrupted (Deciding keeps) i) (name_bytes name)
  pub reads : HalvesTaken half text read
  pub read_held : texts_held read ≡ length text
  pub others : HalvesTaken read rest last
  pub last_held : texts_held last ≤ length text + length rest
  pub ahead : before.input.ahead ≡ ahead_at from (three front ++ blank ∷ (opening ++ (escape_of asked_for name ++ (rest ++ more))))
  pub comes : CameFrom from gave gives (three front ++ blank ∷ (opening ++ (escape_of asked_for name ++ (rest ++ more))))
  pub stack : pushed before.input + length text + newly_held from rest ≤ before.limits.stack
  pub shallow : depth before.input < before.limits.depth
  pub charges : before.input.charge + length opening + 4 + length (escape_of asked_for name) + length text + 1 + length rest ≤ before.limits.bytes

module _ (asked_for : Asked) (keeps : Bool) (gave gives : Tape → Type 0) (r : ReaderState) (es : ComposerOf) (front : ControlFront) (ready : List ℕ) (before : PageUnread)
    (a : IsAsked asked_for keeps gave gives r es front ready before) where
  abbrev i : PageInput
  i = before.input

  abbrev escape : List ℕ
  escape = escape_of asked_for a.name

  -- the bytes in front of the escape, and what comes in front of it, behind it, and behind the bytes behind it
  abbrev front_of : List ℕ
  front_of = three front ++ blank ∷ a.opening

  abbrev from_escape : List ℕ
  from_escape = escape ++ (a.rest ++ a.more)

  abbrev first : List ℕ
  first = of_source a.from from_escape

  abbrev second : List ℕ
  second = of_source a.from (a.rest ++ a.more)

  -- how much was taken in front of the escape, of it, of its text, of the text's end, and of the bytes behind it
  abbrev charge_asked : ℕ
  charge_asked = i.charge + length front_of

  abbrev charge_put : ℕ
  charge_put = charge_asked + length escape

  abbrev pub charge_ended : ℕ
  charge_ended = charge_put + length a.text

  abbrev pub charge_over : ℕ
  charge_over = charge_ended + 1

  abbrev pub charge_between : ℕ
  charge_between = charge_over + length a.rest

  -- no count is above its limit on the way
  pub within-at : (held : List OpenEscape) (items : List (Ahead PageEvent)) (charge : ℕ) → bytes_ahead items + texts_held held ≤ bytes_ahead i.ahead + length a.text + newly_held a.from a.rest
      → ends_ahead items ≤ before.limits.depth → i.charge ≤ charge → charge ≤ before.limits.bytes → IsWithin (at a.from before held items charge)
  within-at held items charge bytes ends least most = record {
    charge = most;
    newlines = omega (arith, a.within.newlines, least);
    pushed = omega (arith, bytes, a.stack);
    depth = ends;
    results = a.within.results;
    stored = a.within.stored;
    names = a.within.names;
    making = a.within.making;
  }

  -- what counts of the items ahead
  bytes-asked : bytes_ahead (ahead_at a.from from_escape) ≤ bytes_ahead i.ahead
  bytes-asked = omega (arith, ap (λ (items : List (Ahead PageEvent)). bytes_ahead items) a.ahead, (counts-next a.from front_of from_escape).0)

  bytes-put : bytes_ahead (ahead_at a.from (a.rest ++ a.more)) ≤ bytes_ahead i.ahead
  bytes-put = omega (arith, (counts-next a.from escape (a.rest ++ a.more)).0, bytes-asked)

  pub bytes-last : (bytes_ahead (ahead_at a.from a.more) ≤ bytes_ahead i.ahead) × (bytes_ahead (ahead_at a.from a.more) + length a.rest ≤ bytes_ahead i.ahead + newly_held a.from a.rest)
  bytes-last = let taken = counts-next a.from a.rest a.more in (omega (arith, taken.0, bytes-put), omega (arith, taken.1, bytes-put))

  pub ends-left : (bytes : List ℕ) → ends_ahead (ahead_at a.from bytes) < before.limits.depth
  ends-left bytes =
      let all = ap (λ (items : List (Ahead PageEvent)). ends_ahead items) a.ahead in
      omega (arith, all, ends_ahead-behind_all a.from (front_of ++ from_escape), ends_ahead-behind_all a.from bytes, a.shallow)

  -- in front of the escape
  abbrev asked : PageUnread
  asked = at a.from before a.half (ahead_at a.from from_escape) charge_asked

  within-asked : IsWithin asked
  within-asked = within-at a.half (ahead_at a.from from_escape) charge_asked (omega (arith, a.none_held, bytes-asked)) (omega (arith, ends-left from_escape)) (omega arith) (omega (arith, a.charges))

  turned-front : Turned i.names (stage_of r.reading i) front_of (stage_of (Deciding keeps) asked.input)
  turned-front =
      subst (λ (opened : List OpenEscape). Turned i.names (stage_with r.reading opened i.arguments i.open_texts) front_of (stage_with (Deciding keeps) a.half i.arguments i.open_texts)) (sym a.named.none_half)
      (Turned-append i.names (stage_with r.reading [] i.arguments i.open_texts) (stage_with (Deciding keeps) choice i.arguments i.open_texts) (stage_with (Deciding keeps) a.half i.arguments i.open_texts)
      (three front ++ blank ∷ []) a.opening
      (turned-blank i.names r.reading keeps front.breaks front.first front.second i.arguments i.open_texts a.named.none_due a.named.begins a.named.first a.named.second a.named.leads)
      (turned-taken i.names (Deciding keeps) i.arguments i.open_texts choice a.half a.opening refl (takes-half keeps) a.opens))

  past-front : ReadsPast gave (coming first gives) r (deciding_reader keeps r) before asked
  past-front = record {
    bytes = front_of;
    turned = turned-front;
    passes = passes-front a.from gave gives before front_of from_escape a.is_open a.plain (omega arith) a.ahead a.comes (omega (arith, a.charges));
    registers = refl;
    meaning = refl;
    within = within-asked;
  }

  -- behind it, with its text in front
  abbrev passed : PageUnread
  passed = at a.from before a.half (ahead_at a.from (a.rest ++ a.more)) charge_put

  within-put : IsWithin (with_text a.text passed)
  within-put =
      let bytes = bytes_ahead-bytes a.text (EndAhead ∷ ahead_at a.from (a.rest ++ a.more)) in
      let ends = ends_ahead-bytes a.text (EndAhead ∷ ahead_at a.from (a.rest ++ a.more)) in
      within-at a.half (map ByteAhead a.text ++ EndAhead ∷ ahead_at a.from (a.rest ++ a.more)) charge_put (omega (arith, bytes, a.none_held, bytes-put)) (omega (arith, ends, ends-left (a.rest ++ a.more))) (omega arith) (omega (arith, a.charges))

  puts-text : PutsText asked_for (coming first gives) (coming second gives) (deciding_reader keeps r) es asked (with_text a.text passed)
  puts-text =
      let free_text = free_ahead-bytes a.text (EndAhead ∷ ahead_at a.from (a.rest ++ a.more)) in
      let free_escape = free-next a.from escape (a.rest ++ a.more) in
      let some = some_bytes asked_for a.name.first a.name.second in
      record {
        bytes = escape;
        name = name_bytes a.name;
        text = a.text;
        passed = passed;
        asked = a.asks;
        passes = passes-next a.from gives before a.half escape (a.rest ++ a.more) charge_asked a.is_open a.plain_escape some (omega (arith, a.charges));
        text_is = λ limits h stands. a.text_is charge_put limits h stands;
        put = refl;
        fewer = omega (arith, free_text, free_escape, some, a.charges);
        half = refl;
        within = within-put;
      }

  -- in front of its end
  abbrev pub ended : PageUnread
  ended = at a.from before a.read (EndAhead ∷ ahead_at a.from (a.rest ++ a.more)) charge_ended

  pub within-ended : IsWithin ended
  within-ended =
      within-at a.read (EndAhead ∷ ahead_at a.from (a.rest ++ a.more)) charge_ended (omega (arith, a.read_held, bytes-put)) (omega (arith, ends-left (a.rest ++ a.more))) (omega arith) (omega (arith, a.charges))

  reads-text : ReadsPast (coming second gives) (coming second gives) (deciding_reader keeps r) (deciding_reader keeps r) (with_text a.text passed) ended
  reads-text =
      let behind : List (Ahead PageEvent) = EndAhead ∷ ahead_at a.from (a.rest ++ a.more) in
      let there : PageUnread = with_text a.text passed in
      reads-held a.from (coming second gives) (coming second gives) before keeps r a.half a.read a.text (map ByteAhead a.text ++ behind) behind charge_put a.reads
      (OfTexts (record {
        behind = behind;
        in_front = refl;
        stays = record { before = λ t may. may; after = λ t may. may };
        input = ap (λ (j : PageInput). record before { input = j }) (sym (bytes_taken-is a.text behind there.input refl));
        within = omega (arith, a.charges);
      }))
      within-ended

  -- and so far it was read
  pub reads-asked : (last_bytes : List ℕ) (between : PageUnread) → ReadsRest keeps second last_bytes gives (deciding_reader keeps r) ended between
      → ReadsAsked asked_for es keeps last_bytes gave gives r before between
  reads-asked last_bytes between reads_rest = record {
    first = first;
    second = second;
    asked = asked;
    past = past-front;
    put = with_text a.text passed;
    puts = puts-text;
    ended = ended;
    text = reads-text;
    rest = reads_rest;
  }

  -- behind the bytes behind it
  abbrev pub between : PageUnread
  between = at a.from before a.last (ahead_at a.from a.more) charge_between

  pub within-between : IsWithin between
  within-between = within-at a.last (ahead_at a.from a.more) charge_between (omega (arith, a.last_held, bytes-last.1)) (omega (arith, ends-left a.more)) (omega arith) (omega (arith, a.charges))

  pub reads-rest : (b : ℕ) (bytes : List ℕ) → a.rest ≡ b ∷ bytes → waiting_in (Deciding keeps) ended.input ≡ Waits → is_ended_by a.read (Some b) ≡ false
      → ReadsRest keeps second (of_source a.from a.more) gives (deciding_reader keeps r) ended between
  reads-rest b bytes is waits stays =
      let over : PageUnread = at a.from before a.read (ahead_at a.from (a.rest ++ a.more)) charge_over in
      let inside : IsWithin over = within-at a.read (ahead_at a.from (a.rest ++ a.more)) charge_over (omega (arith, a.read_held, bytes-put)) (omega (arith, ends-left (a.rest ++ a.more))) (omega arith) (omega (arith, a.charges)) in
      SomeRest over
      (record {
        waits = waits;
        byte = b;
        sees = subst (λ (xs : List ℕ). SeesNext b (coming (of_source a.from (xs ++ a.more)) gives) (at a.from before a.read (EndAhead ∷ ahead_at a.from (xs ++ a.more)) charge_ended)) (sym is)
            (sees-next a.from gives (at a.from before a.read (EndAhead ∷ ahead_at a.from (b ∷ bytes ++ a.more)) charge_ended) b (bytes ++ a.more) a.is_open refl);
        stays = stays;
        passes = record { behind = ahead_at a.from (a.rest ++ a.more); in_front = refl; input = refl; within = omega (arith, a.charges) };
        within = inside;
      })
      (reads-held a.from (coming second gives) (coming (of_source a.from a.more) gives) before keeps r a.read a.last a.rest (ahead_at a.from (a.rest ++ a.more)) (ahead_at a.from a.more) charge_over a.others
      (passes-next a.from gives before a.read a.rest a.more charge_over a.is_open a.plain_rest (omega (arith, ap (λ (xs : List ℕ). length xs) is)) (omega (arith, a.charges))) within-between)
