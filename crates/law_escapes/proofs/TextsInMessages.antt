-- A message tells what the parts of its line are read as.
use Rattle.std.proofs.Common.{◌≡◌, ℕ, ◌+◌, ◌≤◌, Bool, true, false, List, [], ◌∷◌, ◌++◌, length, reverse, None, refl, ap, sym, subst, ◌∙◌, arith, append_assoc, fold, length-append}
use Rattle.std.proofs.lemmas.List.Sums.{fold-append}
use Rattle.roff_num.specs.declared.limits.Limits.{Limits}
use Rattle.roff_num.specs.declared.short_name.ShortName.{ShortName}
use Rattle.roff_num.specs.ShortNames.{name_bytes}
use Rattle.input_model.specs.Arguments.{Arguments, held, live_bytes, no_arguments}
use Rattle.input_source.specs.Bytes.{blank, newline, behind_blanks}
use Rattle.roff_store.specs.Named.{Named}
use Rattle.roff_store.specs.Texts.{Entry}
use Rattle.input_escapes.specs.OpenEscape.{OpenEscape}
use Rattle.input_model.specs.Input.{bytes_ahead, ends_ahead, lines_taken}
use Rattle.law_escapes.proofs.PartRuns.{NoPart, OnBytes, OnText, PartsPath, RoomFor, after-parts, behind_bytes-append, behind_bytes-charged, bytes_ahead-front, ends_ahead-front, knows-behind}
use Rattle.law_escapes.proofs.ReadTexts.{ByName, More, charged}
use Rattle.law_escapes.proofs.TextsInCalls.{line_front, lines_taken-charged, name-of_line, paid}
use Rattle.law_escapes.specs.Parts.{AreParts, Escape, IsCopiedPart, MayHave, MayMeasure, MayRead, MayWrite, Part, Written, bytes_of, cost_of_texts, known_behind_part, registers_behind, rewritten, rewritten_part}
use Rattle.law_escapes.specs.TextsInCalls.{HasRoomForTexts}
use Rattle.law_escapes.specs.TextsInMessages.{EndsBy, MessagesOfTheSourceTellTheTextsRead, MessagesTellTheTextsRead, ReadsMessage, RunsEndWithTheTextsOfTheSource, RunsEndWithTheTextsRead}
use Rattle.law_reading.proofs.CalledArguments.{most_of}
use Rattle.law_escapes.proofs.MessageBytes.{few-units, path-front, telling, way-tell}
use Rattle.law_escapes.proofs.CopiedParts.{copied-behind, copied-part, part-of_line}
use Rattle.input_escapes.specs.EscapeLaws.{copied}
use Rattle.law_reading.proofs.MessageLaws.{held-fold, tell, told-front}
use Rattle.law_escapes.proofs.MessageLines.{step-told}
use Rattle.law_reading.specs.CallLaws.{BeginsLine}
use Rattle.law_reading.specs.InterpolationLaws.{text_named}
use Rattle.law_reading.specs.WordCalls.{call_with}
use Rattle.run_model.proofs.ItemsTaken.{Fits-IsWithin, FromAhead, FromSource, Origin, ahead_at, made-Fits, tape_at, taken_as-going_on}
use Rattle.run_model.proofs.Leads.{after-add}
use Rattle.run_model.proofs.NameBytes.{stage}
use Rattle.run_model.proofs.PlainRuns.{HasRoom, HasRoom-behind, HasRoom-start, IsSmall, IsWithin-HasRoom, Most, after-Path, behind_byte, behind_bytes, behind_bytes-charge, behind_bytes-counts, counted, counted-ahead, counted-last, counted-source, is-run_at, run_at, step-taken}
use Rattle.run_model.specs.Messages.{told_line}
use Rattle.run_model.specs.ItemsTaken.{TakesItems}
use Rattle.run_model.specs.Reading.Items.{PageInput}
use Rattle.run_model.specs.Registers.{Known}
use Rattle.run_model.specs.Run.{State, nothing_follows, aborted, after, known, made, message_told, step}
use Rattle.run_model.specs.Stages.{Stage}
use Rattle.run_model.specs.Within.{IsWithin}
use Rattle.run_model.specs.declared.line_state.LineState.{LineState}
use Rattle.run_model.specs.declared.line_state.LineState.TheVariants.{LineStart, Told, Collecting}
use Rattle.run_model.specs.declared.purpose.Purpose.TheVariants.{Telling}

-- parts are told behind what is held, by the first of them
tells-part : (aborts : Bool) (k : Known) (j : PageInput) (names : Named Entry) (texts : List (List ℕ)) (most : ℕ) (t : Bool × Arguments) (part : Part) (parts : List Part)
    → MayHave false IsCopiedPart k j part → held t.1 + length (copied (rewritten k j (part ∷ parts))) ≤ most
    → (let others : List ℕ = copied (rewritten (known_behind_part k part) j parts) in
    (u : Bool × Arguments) → held u.1 + length others ≤ most
    → PartsPath j (most_of most texts) names (known_behind_part k part) (telling aborts texts u) parts (telling aborts texts (fold tell u others)))
    → PartsPath j (most_of most texts) names k (telling aborts texts t) (part ∷ parts) (telling aborts texts (fold tell t (copied (rewritten k j (part ∷ parts)))))
tells-part aborts k j names texts most t _ parts (MayWrite bytes may) few tells =
    let u : Bool × Arguments = fold tell t (copied bytes) in
    let others : List ℕ = copied (rewritten k j parts) in
    let same : copied (bytes ++ rewritten k j parts) ≡ copied bytes ++ others = copied-behind bytes (rewritten k j parts) may in
    let all : length (copied (bytes ++ rewritten k j parts)) ≡ length (copied bytes) + length others = ap length same ∙ length-append (copied bytes) others in
    subst (λ (v : Bool × Arguments). PartsPath j (most_of most texts) names k (telling aborts texts t) (Written bytes ∷ parts) (telling aborts texts v))
    (sym (ap (fold tell t) same ∙ fold-append tell t (copied bytes) others))
    (OnBytes k (telling aborts texts t) (telling aborts texts u) (telling aborts texts (fold tell u others)) bytes parts (part-of_line bytes may)
    (way-tell aborts names texts most t bytes (copied bytes) (copied-part bytes may) (omega (arith, few, all)))
    (tells u (omega (arith, few, all, held-fold t (copied bytes)))))
tells-part aborts k j names texts most t _ parts (MayRead purpose name bytes is quiet may) few tells =
    let part : Part = Escape purpose name bytes in
    let text : List ℕ = text_named k j purpose name in
    let u : Bool × Arguments = fold tell t (copied text) in
    let behind : List ℕ = rewritten (known_behind_part k part) j parts in
    let others : List ℕ = copied behind in
    let same : copied (text ++ behind) ≡ copied text ++ others = copied-behind text behind may in
    let all : length (copied (text ++ behind)) ≡ length (copied text) + length others = ap length same ∙ length-append (copied text) others in
    subst (λ (v : Bool × Arguments). PartsPath j (most_of most texts) names k (telling aborts texts t) (part ∷ parts) (telling aborts texts v))
    (sym (ap (fold tell t) same ∙ fold-append tell t (copied text) others))
    (OnText k (Collecting (Telling aborts t.0)) (Collecting (Telling aborts u.0)) t.1 u.1 texts texts (telling aborts texts (fold tell u others)) part parts refl (ByName purpose name bytes refl is quiet)
    (way-tell aborts names texts most t text (copied text) (copied-part text may) (omega (arith, few, all)))
    (tells u (omega (arith, few, all, held-fold t (copied text)))))
tells-part aborts k j names texts most t _ parts (MayMeasure d text measures may plain) few tells = absurd (cc)

tells-parts : (aborts : Bool) (j : PageInput) (names : Named Entry) (texts : List (List ℕ)) (most : ℕ) (k : Known) (t : Bool × Arguments) (parts : List Part)
    → AreParts false IsCopiedPart k j parts → held t.1 + length (copied (rewritten k j parts)) ≤ most
    → PartsPath j (most_of most texts) names k (telling aborts texts t) parts (telling aborts texts (fold tell t (copied (rewritten k j parts))))
tells-parts aborts j names texts most k t [] may few = NoPart k (telling aborts texts t)
tells-parts aborts j names texts most k t (part ∷ parts) may few =
    tells-part aborts k j names texts most t part parts may.0 few (λ u. tells-parts aborts j names texts most (known_behind_part k part) u parts may.1)

-- of them no more bytes are copied than are read
copied-few : (part : List ℕ) → IsCopiedPart part → length (copied part) ≤ length part
copied-few part may = few-units part (copied part) (copied-part part may)

copied-parts : (j : PageInput) (k : Known) (parts : List Part) → AreParts false IsCopiedPart k j parts → length (copied (rewritten k j parts)) ≤ length (rewritten k j parts)
copied-parts j k [] may = omega arith
copied-parts j k (part ∷ parts) may =
    let text : List ℕ = rewritten_part k j part in
    let others : List ℕ = rewritten (known_behind_part k part) j parts in
    let is : IsCopiedPart text = text-of k j part may.0 in
    omega (arith, ap length (copied-behind text others is), length-append (copied text) (copied others), length-append text others, copied-few text is, copied-parts j (known_behind_part k part) parts may.1)
  where
    text-of : (k : Known) (j : PageInput) (part : Part) → MayHave false IsCopiedPart k j part → IsCopiedPart (rewritten_part k j part)
    text-of k j _ (MayWrite bytes may) = may
    text-of k j _ (MayRead purpose name bytes is quiet may) = may
    text-of k j _ (MayMeasure d text measures may plain) = absurd (cc)

-- how much they hold
held-parts : (t : Bool × Arguments) (bytes : List ℕ) (most : ℕ) → held t.1 + length bytes ≤ most → held (fold tell t bytes).1 ≤ most
held-parts t bytes most few = omega (arith, few, held-fold t bytes)

-- a run that told a message
abbrev told_from : State → Origin → List ℕ → List ℕ → State
told_from s from line text =
    record s { tape = tape_at from [] s.tape; input = counted from line s.input; messages = s.messages ++ told_line false (behind_blanks text) }

-- it is told behind its line
tells-behind : (s : State) (from : Origin) (front : List ℕ) (text : List ℕ) → BeginsLine s
    → let t : Bool × Arguments = fold tell (true, no_arguments) text in
    message_told (run_at s s.input.names (stage (Told false) t.1 s.input.open_texts) from [] (behind_byte from newline (behind_bytes from front s.input)))
    ≡ told_from s from (front ++ newline ∷ []) text
tells-behind s from front text begins =
    let t : Bool × Arguments = fold tell (true, no_arguments) text in
    let j : PageInput = counted from (front ++ newline ∷ []) s.input in
    let of : PageInput → Arguments → List OpenEscape → LineState → List ℕ → State = λ m a h r told. record s {
      tape = tape_at from [] s.tape;
      input = record m { arguments = a; escapes = h; names = s.input.names; open_texts = s.input.open_texts };
      reading = r;
      messages = s.messages ++ told_line false told;
    } in
    ap (λ (m : PageInput). of m no_arguments [] LineStart (reverse t.1.begun)) (counted-last from front newline s.input)
    ∙ ap (λ (a : Arguments). of j a [] LineStart (reverse t.1.begun)) (sym begins.arguments)
    ∙ ap (λ (h : List OpenEscape). of j s.input.arguments h LineStart (reverse t.1.begun)) (sym begins.escapes)
    ∙ ap (λ (r : LineState). of j s.input.arguments s.input.escapes r (reverse t.1.begun)) (sym begins.reading)
    ∙ ap (of j s.input.arguments s.input.escapes s.reading) (told-front text)

-- the whole line is read: its message is due
module _ (l : Limits) (s : State) (from : Origin) (aborts : Bool) (control : ℕ) (name : ShortName) (parts : List Part)
    (begins : BeginsLine s) (has : ReadsMessage aborts s.input.names control name) (may : AreParts false IsCopiedPart (known s) s.input parts)
    (ahead : s.input.ahead ≡ ahead_at from (call_with control name (bytes_of parts))) (tape : s.tape ≡ tape_at from (call_with control name (bytes_of parts)) s.tape)
    (charge : s.input.charge + cost_of_texts (known s) s.input parts + length (call_with control name (bytes_of parts)) ≤ l.bytes)
    (has_room : HasRoomForTexts l s (rewritten (known s) s.input parts)) (within : IsWithin l s) where
  abbrev k : Known
  k = known s

  abbrev j : PageInput
  j = s.input

  abbrev names : Named Entry
  names = s.input.names

  abbrev texts : List (List ℕ)
  texts = s.input.open_texts

  abbrev front : List ℕ
  front = line_front control name

  abbrev bytes : List ℕ
  bytes = bytes_of parts

  abbrev last : List ℕ
  last = bytes ++ newline ∷ []

  abbrev line : List ℕ
  line = call_with control name bytes

  abbrev cost : ℕ
  cost = cost_of_texts k j parts

  abbrev read : List ℕ
  read = copied (rewritten k j parts)

  read-few : length read ≤ length (rewritten k j parts)
  read-few = copied-parts j k parts may

  abbrev most : Most
  most = most_of (length read) texts

  abbrev begun : Bool × Arguments
  begun = (true, no_arguments)

  abbrev t : Bool × Arguments
  t = fold tell begun read

  abbrev due_stage : Stage
  due_stage = stage (Told aborts) t.1 texts

  abbrev i2 : PageInput
  i2 = charged cost (behind_bytes from bytes (behind_bytes from front s.input))

  -- the registers behind the parts
  abbrev v : State
  v = record s { registers = registers_behind s.registers parts }

  abbrev due_state : State
  due_state = run_at v names due_stage from [] (behind_byte from newline i2)

  same : line ≡ front ++ last
  same = append_assoc (control ∷ name_bytes name) (blank ∷ bytes) (newline ∷ []) ∙ sym (append_assoc (control ∷ name_bytes name) (blank ∷ []) last)

  -- what is counted of it
  counts : behind_byte from newline i2 ≡ charged cost (behind_bytes from line s.input)
  counts =
      ap (λ (m : PageInput). behind_byte from newline (charged cost m)) (behind_bytes-append from front bytes s.input)
      ∙ behind_bytes-charged from (newline ∷ []) cost (behind_bytes from (front ++ bytes) s.input)
      ∙ ap (charged cost) (behind_bytes-append from (front ++ bytes) (newline ∷ []) s.input ∙ ap (λ (all : List ℕ). behind_bytes from all s.input) (append_assoc front bytes (newline ∷ []) ∙ sym same))

  is-due : (after l (length line + cost) s ≡ due_state) × IsWithin l due_state
  is-due =
      let start : Stage = stage LineStart no_arguments texts in
      let mid : Stage = telling aborts texts begun in
      let end : Stage = telling aborts texts t in
      let is : run_at s names start from (front ++ last) s.input ≡ s =
      is-run_at s from (front ++ last) start begins.reading begins.escapes begins.arguments refl (ahead ∙ ap (ahead_at from) same) (tape ∙ ap (λ (all : List ℕ). tape_at from all s.tape) same) in
      let sizes : length line ≡ length front + length last = ap length same ∙ length-append front last in
      let stands : bytes_ahead s.input.ahead ≡ bytes_ahead (ahead_at from (front ++ last)) = ap bytes_ahead (ahead ∙ ap (ahead_at from) same) in
      let room_start : HasRoom l s names from most start (front ++ last) s.input =
      HasRoom-start l s names from most start (front ++ last) s.input (subst (IsWithin l) (sym is) within)
      (omega (arith, charge, ap length same)) (omega (arith, has_room.beside, read-few)) within.store within.making in
      let i1 : PageInput = behind_bytes from front s.input in
      let one = after-Path l s names from most start mid front last s.input begins.takes (path-front aborts names texts (length read) control name has) room_start in
      let room : RoomFor l s names from most mid (length (rewritten k j parts) + 0) (cost + 0) last i1 = record {
        room = one.1;
        charged_all = omega (arith, charge, sizes, behind_bytes-charge from front s.input);
        stack =
            omega (arith, has_room.beside, stands, bytes_ahead-front from front last, ap (λ (m : PageInput). live_bytes m.calls) (behind_bytes-counts from front s.input));
        deep = omega (arith, has_room.deep, ap ends_ahead (ahead ∙ ap (ahead_at from) same), ends_ahead-front from front last);
      } in
      let behind =
      after-parts l j most names s from k begins.takes refl mid end parts (newline ∷ []) 0 0 i1 (More newline [])
      (tells-parts aborts j names texts (length read) k begun parts may (omega arith))
      (record { none_half = refl; held_few = omega arith; stored_few = omega arith; texts_few = omega arith })
      (knows-behind s k j from front s.input (name-of_line control name has.begins has.is_name) (record { is_known = refl; calls = refl })) room in
      let small : IsSmall most due_stage =
      record { none_half = refl; held_few = held-parts begun read (length read) (omega arith); stored_few = omega arith; texts_few = omega arith } in
      let room_due : HasRoom l v names from most due_stage [] (behind_byte from newline i2) =
      HasRoom-behind l v names from most end due_stage newline [] i2 (omega arith) behind.room.room in
      let within_due : IsWithin l due_state = IsWithin-HasRoom l v names from most due_stage [] (behind_byte from newline i2) small room_due in
      let at : State = run_at v names end from [] (behind_byte from newline i2) in
      let takes : TakesItems v = record { going = begins.takes.going; is_open = begins.takes.is_open; idle = begins.takes.idle; unsprung = begins.takes.unsprung; none_due = begins.takes.none_due } in
      let sum : length line + cost ≡ length front + ((length bytes + cost) + 1) = omega (arith, sizes, length-append bytes (newline ∷ [])) in (
        ap (λ (n : ℕ). after l n s) sum
            ∙ after-add l (length front) ((length bytes + cost) + 1) s
            ∙ ap (after l ((length bytes + cost) + 1)) (ap (after l (length front)) (sym is) ∙ one.0)
            ∙ after-add l (length bytes + cost) 1 (run_at s names mid from last i1)
            ∙ ap (after l 1) behind.leads
            ∙ step-taken l v names from end newline [] i2 due_state takes refl refl (omega (arith, behind.room.charged_all)) (taken_as-going_on at.input (Told aborts) at) within_due,
        within_due,
      )

-- it is told
told-with-texts : (l : Limits) (s : State) (from : Origin) (control : ℕ) (name : ShortName) (parts : List Part)
    → BeginsLine s → ReadsMessage false s.input.names control name → AreParts false IsCopiedPart (known s) s.input parts
    → let line : List ℕ = call_with control name (bytes_of parts) in
    let cost : ℕ = cost_of_texts (known s) s.input parts in
    let told : State = told_from (paid s (registers_behind s.registers parts) cost) from line (copied (rewritten (known s) s.input parts)) in
    s.input.ahead ≡ ahead_at from line → s.tape ≡ tape_at from line s.tape → HasRoomForTexts l s (rewritten (known s) s.input parts) → IsWithin l s → IsWithin l told
    → after l (length line + cost + 1) s ≡ told
told-with-texts l s from control name parts begins has may ahead tape has_room within within_told =
    let cost : ℕ = cost_of_texts (known s) s.input parts in
    let bytes : List ℕ = bytes_of parts in
    let front : List ℕ = line_front control name in
    let line : List ℕ = call_with control name bytes in
    let read : List ℕ = copied (rewritten (known s) s.input parts) in
    let v : State = paid s (registers_behind s.registers parts) cost in
    let told : State = told_from v from line read in
    let charge : s.input.charge + cost + length line ≤ l.bytes = omega (arith, within_told.bytes, behind_bytes-charge from line (charged cost s.input)) in
    let due = is-due l s from false control name parts begins has may ahead tape charge has_room within in
    let u : State = due_state l s from false control name parts begins has may ahead tape charge has_room within in
    let t : Bool × Arguments = fold tell (true, no_arguments) read in
    let at : PageInput → State = λ m. run_at v s.input.names (stage (Told false) t.1 s.input.open_texts) from [] m in
    let is_same : line ≡ front ++ (bytes ++ newline ∷ []) = same l s from false control name parts begins has may ahead tape charge has_room within in
    let is_told : message_told u ≡ told =
    ap (λ (m : PageInput). message_told (at m)) (counts l s from false control name parts begins has may ahead tape charge has_room within)
    ∙ ap (λ (m : PageInput). message_told (at m))
    (sym (behind_bytes-charged from line cost s.input)
    ∙ ap (λ (all : List ℕ). behind_bytes from all (charged cost s.input)) (is_same ∙ sym (append_assoc front bytes (newline ∷ [])))
    ∙ sym (behind_bytes-append from (front ++ bytes) (newline ∷ []) (charged cost s.input)))
    ∙ tells-behind v from (front ++ bytes) read
    (record {
      takes = record { going = begins.takes.going; is_open = begins.takes.is_open; idle = begins.takes.idle; unsprung = begins.takes.unsprung; none_due = begins.takes.none_due };
      reading = begins.reading;
      escapes = begins.escapes;
      arguments = begins.arguments;
    })
    ∙ ap (λ (all : List ℕ). told_from v from all read) (append_assoc front bytes (newline ∷ []) ∙ sym is_same) in
    after-add l (length line + cost) 1 s
    ∙ ap (after l 1) due.0
    ∙ step-told l u begins.takes.going begins.takes.idle begins.takes.unsprung refl
    ∙ ap (made l u) is_told
    ∙ made-Fits l u told (Fits-IsWithin l told within_told)

-- or it ends the run
step-ends : (l : Limits) (u : State) → u.ended ≡ None → u.to_do ≡ [] → u.follows ≡ nothing_follows → u.reading ≡ Told true → step l u ≡ aborted u
step-ends l u going idle unsprung reading = rw (going, idle, unsprung, reading) refl

ended-with-texts : (l : Limits) (s : State) (from : Origin) (control : ℕ) (name : ShortName) (parts : List Part)
    → BeginsLine s → ReadsMessage true s.input.names control name → AreParts false IsCopiedPart (known s) s.input parts
    → let line : List ℕ = call_with control name (bytes_of parts) in
    let cost : ℕ = length line + cost_of_texts (known s) s.input parts in
    let read : List ℕ = copied (rewritten (known s) s.input parts) in
    s.input.ahead ≡ ahead_at from line → s.tape ≡ tape_at from line s.tape → s.input.charge + cost ≤ l.bytes → HasRoomForTexts l s (rewritten (known s) s.input parts) → IsWithin l s
    → let ended : State = after l (cost + 1) s in
    EndsBy s (behind_blanks read) cost ended × (ended.input.ahead ≡ ahead_at from []) × (ended.tape ≡ tape_at from [] s.tape)
ended-with-texts l s from control name parts begins has may ahead tape charge has_room within =
    let line : List ℕ = call_with control name (bytes_of parts) in
    let texts_cost : ℕ = cost_of_texts (known s) s.input parts in
    let cost : ℕ = length line + texts_cost in
    let read : List ℕ = copied (rewritten (known s) s.input parts) in
    let few : s.input.charge + texts_cost + length line ≤ l.bytes = omega (arith, charge) in
    let due = is-due l s from true control name parts begins has may ahead tape few has_room within in
    let u : State = due_state l s from true control name parts begins has may ahead tape few has_room within in
    let is : after l (cost + 1) s ≡ aborted u =
    after-add l cost 1 s ∙ ap (after l 1) due.0 ∙ step-ends l u begins.takes.going begins.takes.idle begins.takes.unsprung refl in
    let taken : u.input.charge ≡ s.input.charge + cost =
    omega (arith, ap (λ (m : PageInput). m.charge) (counts l s from true control name parts begins has may ahead tape few has_room within), behind_bytes-charge from line s.input) in (
      record {
        ended = ap (λ (v : State). v.ended) is;
        told_last = ap (λ (v : State). v.last_message) is ∙ ap (told_line true) (told-front read);
        told_before = ap (λ (v : State). v.messages) is;
        happened = ap (λ (v : State). v.history) is;
        taken = ap (λ (v : State). v.input.charge) is ∙ taken;
      },
      ap (λ (v : State). v.input.ahead) is,
      ap (λ (v : State). v.tape) is,
    )

pub messages_tell_the_texts_read : MessagesTellTheTextsRead
messages_tell_the_texts_read l s control name parts rest begins has may ahead room within within_told =
    let line : List ℕ = call_with control name (bytes_of parts) in
    let cost : ℕ = cost_of_texts (known s) s.input parts in
    let read : List ℕ = copied (rewritten (known s) s.input parts) in
    let of : PageInput → State = λ i. record s { registers = registers_behind s.registers parts; input = i; messages = s.messages ++ told_line false (behind_blanks read) } in
    let sum : s.input.charge + cost + length line ≡ s.input.charge + (length line + cost) = omega arith in
    let is : told_from (paid s (registers_behind s.registers parts) cost) (FromAhead rest) line read ≡ of (record s.input { ahead = rest; charge = s.input.charge + (length line + cost) }) =
    ap of (counted-ahead rest line (charged cost s.input)) ∙ ap (λ (n : ℕ). of (record s.input { ahead = rest; charge = n })) sum in
    told-with-texts l s (FromAhead rest) control name parts begins has may ahead refl room within (subst (IsWithin l) (sym is) within_told) ∙ is

pub messages_of_the_source_tell_the_texts_read : MessagesOfTheSourceTellTheTextsRead
messages_of_the_source_tell_the_texts_read l s control name parts tape begins has may none stands room within within_told =
    let line : List ℕ = call_with control name (bytes_of parts) in
    let cost : ℕ = cost_of_texts (known s) s.input parts in
    let read : List ℕ = copied (rewritten (known s) s.input parts) in
    let of : PageInput → State = λ i. record s { tape = tape; registers = registers_behind s.registers parts; input = i; messages = s.messages ++ told_line false (behind_blanks read) } in
    let is : told_from (paid s (registers_behind s.registers parts) cost) (FromSource tape) line read ≡ of (record (lines_taken line s.input) { charge = s.input.charge + (length line + cost) }) =
    ap of (counted-source tape line (charged cost s.input) none ∙ lines_taken-charged line cost s.input) in
    told-with-texts l s (FromSource tape) control name parts begins has may none stands room within (subst (IsWithin l) (sym is) within_told) ∙ is

pub runs_end_with_the_texts_read : RunsEndWithTheTextsRead
runs_end_with_the_texts_read l s control name parts rest begins has may ahead charge room within =
    let all = ended-with-texts l s (FromAhead rest) control name parts begins has may ahead refl charge room within in (all.0, all.1)

pub runs_end_with_the_texts_of_the_source : RunsEndWithTheTextsOfTheSource
runs_end_with_the_texts_of_the_source l s control name parts tape begins has may none stands charge room within =
    let all = ended-with-texts l s (FromSource tape) control name parts begins has may none stands charge room within in (all.0, all.2)
