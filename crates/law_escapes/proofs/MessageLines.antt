-- A message with an escape in it tells the text that is read in the escape's place.
use Rattle.std.proofs.Common.{◌≡◌, ℕ, ◌+◌, ◌≤◌, Bool, true, false, List, [], ◌∷◌, ◌++◌, length, map, reverse, Some, None, refl, ap, sym, subst, ◌∙◌, arith, All, fold, if◌then◌else◌, le-ltb, append-nil, length-append}
use Rattle.std.proofs.lemmas.List.Sums.{fold-append}
use Rattle.roff_num.specs.declared.limit.Limit.TheVariants.{Bytes}
use Rattle.roff_num.specs.declared.limits.Limits.{Limits}
use Rattle.roff_num.specs.declared.short_name.ShortName.{ShortName}
use Rattle.roff_num.specs.ShortNames.{name_bytes}
use Rattle.input_model.specs.Arguments.{Arguments, held, no_arguments}
use Rattle.input_source.specs.Bytes.{blank, newline, behind_blanks}
use Rattle.roff_store.specs.Named.{Named}
use Rattle.roff_store.specs.Texts.{Entry}
use Rattle.input_model.specs.Input.Calls.{arguments_live}
use Rattle.input_model.specs.Input.Names.{body_named}
use Rattle.input_model.specs.Input.{Ahead, ByteAhead, EndAhead, bytes_ahead, depth, ends_ahead, item_taken, pushed, pushing}
use Rattle.input_escapes.specs.OpenEscape.{OpenEscape}
use Rattle.input_escapes.specs.declared.escapes.NameUse.{NameUse}
use Rattle.input_escapes.specs.declared.escapes.NameUse.TheVariants.{Register}
use Rattle.law_reading.proofs.InterpolatedNames.{escapes_read_as_texts}
use Rattle.law_reading.specs.CallLaws.{BeginsLine}
use Rattle.law_reading.specs.InterpolationLaws.{IsEscapeOf, Short, Long, ShortString, LongString, OfArgument, StandsForItself, stepped, text_named, with_text_ahead}
use Rattle.law_reading.specs.MessageLaws.{HasMessage}
use Rattle.law_escapes.specs.MessageLines.{MessagesTellWhatIsRead, message_line, steps}
use Rattle.run_model.proofs.ItemsTaken.{Fits-IsWithin, FromAhead, Origin, made-Fits, step-reads, taken_as-going_on}
use Rattle.run_model.proofs.Leads.{after-add}
use Rattle.run_model.proofs.NameBytes.{stage}
use Rattle.run_model.proofs.PlainRuns.{HasRoom, HasRoom-behind, HasRoom-start, IsSmall, IsWithin-HasRoom, Most, after-Path, behind_bytes-ahead, is-run_at, run_at, step-taken}
use Rattle.run_model.specs.ItemsTaken.{TakesItems}
use Rattle.run_model.specs.Messages.{told_line}
use Rattle.run_model.specs.Reading.Escapes.{argument_named}
use Rattle.run_model.specs.Registers.{Known, known_stepped, text_of_register}
use Rattle.run_model.specs.declared.line_state.LineState.{LineState}
use Rattle.run_model.specs.Reading.Items.{PageInput}
use Rattle.run_model.specs.Run.{State, nothing_follows, ahead_taken, after, known, made, message_told, step, stopped_by}
use Rattle.run_model.specs.Stages.{Stage}
use Rattle.run_model.specs.Within.{IsWithin}
use Rattle.run_model.specs.PageEvents.{PageEvent}
use Rattle.run_model.specs.declared.line_state.LineState.TheVariants.{LineStart, Told}
use Rattle.law_reading.proofs.MessageLaws.{held-fold, path-front, path-tell, tell, telling, told-front}
use Rattle.law_reading.proofs.CalledArguments.{most_of}

-- a pushed text's end is taken
step-end : (l : Limits) (s : State) (names : Named Entry) (texts : List (List ℕ)) (t : Bool × Arguments) (items : List (Ahead PageEvent)) (i : PageInput) → TakesItems s
    → i.charge + 1 ≤ l.bytes
    → let u : State = run_at s names (telling texts t) (FromAhead (EndAhead ∷ items)) [] i in
    let v : State = run_at s names (telling texts t) (FromAhead items) [] (record i { charge = i.charge + 1 }) in
    IsWithin l v → step l u ≡ v
step-end l s names texts t items i on few within =
    let u : State = run_at s names (telling texts t) (FromAhead (EndAhead ∷ items)) [] i in
    let v : State = run_at s names (telling texts t) (FromAhead items) [] (record i { charge = i.charge + 1 }) in
    let done : State = made l u (ahead_taken EndAhead (record u { input = item_taken EndAhead items u.input })) in
    step-reads l u on.going on.idle on.unsprung refl
    ∙ ap (λ (c : Bool). if c then stopped_by l Bytes u else done) (le-ltb l.bytes (i.charge + 1) (omega (arith, few)))
    ∙ made-Fits l u v (Fits-IsWithin l v within)

-- the message is told behind its line
pub step-told : (l : Limits) (u : State) → u.ended ≡ None → u.to_do ≡ [] → u.follows ≡ nothing_follows → u.reading ≡ Told false → step l u ≡ made l u (message_told u)
step-told l u going idle unsprung reading = rw (going, idle, unsprung, reading) refl

-- an escape that steps nothing changes nothing else
pub stepped-none : (purpose : NameUse) (named : List ℕ) (s : State) → steps purpose ≡ false → stepped purpose named s ≡ s
stepped-none (Register None) named s none = refl
stepped-none (Register (Some direction)) named s none = absurd (cc)
stepped-none purpose named s none = refl

-- what stands ahead, behind some bytes
pub split-ahead : (bytes more : List ℕ) (rest : List (Ahead PageEvent)) → map ByteAhead (bytes ++ more) ++ rest ≡ map ByteAhead bytes ++ (map ByteAhead more ++ rest)
split-ahead [] more rest = refl
split-ahead (b ∷ bytes) more rest = ap (λ (items : List (Ahead PageEvent)). ByteAhead b ∷ items) (split-ahead bytes more rest)

bytes_ahead-front : (bytes : List ℕ) (rest : List (Ahead PageEvent)) → bytes_ahead (map ByteAhead bytes ++ rest) ≡ length bytes + bytes_ahead rest
bytes_ahead-front [] rest = omega arith
bytes_ahead-front (b ∷ bytes) rest = omega (arith, bytes_ahead-front bytes rest)

ends_ahead-front : (bytes : List ℕ) (rest : List (Ahead PageEvent)) → ends_ahead (map ByteAhead bytes ++ rest) ≡ ends_ahead rest
ends_ahead-front [] rest = refl
ends_ahead-front (b ∷ bytes) rest = ends_ahead-front bytes rest

-- the text that an escape stands for is the same in front of it
pub same-text : (k j : Known) (i m : PageInput) (purpose : NameUse) (named escape : List ℕ) → IsEscapeOf purpose named escape → k ≡ j → i.names ≡ m.names → i.calls ≡ m.calls
    → text_named k i purpose named ≡ text_named j m purpose named
same-text k j i m _ _ _ (Short step x may plain) known names calls = ap (λ (n : Known). text_of_register (known_stepped step (x ∷ []) n) (x ∷ [])) known
same-text k j i m _ _ _ (Long step x y first second) known names calls =
    ap (λ (n : Known). text_of_register (known_stepped step (x ∷ y ∷ []) n) (x ∷ y ∷ [])) known
same-text k j i m _ _ _ (ShortString x may no_opening) known names calls = ap (λ (n : Named Entry). body_named (x ∷ []) (record i { names = n })) names
same-text k j i m _ _ _ (LongString x y first second) known names calls = ap (λ (n : Named Entry). body_named (x ∷ y ∷ []) (record i { names = n })) names
same-text k j i m _ _ _ (OfArgument x may) known names calls = ap (λ (c : List (List (List ℕ))). argument_named (x ∷ []) (arguments_live (record i { calls = c }))) calls

module _ (l : Limits) (s : State) (control : ℕ) (name : ShortName) (front behind : List ℕ) (purpose : NameUse) (named escape : List ℕ) (rest : List (Ahead PageEvent))
    (begins : BeginsLine s) (has : HasMessage s.input.names control name) (front_itself : All StandsForItself front) (behind_itself : All StandsForItself behind)
    (text_itself : All StandsForItself (text_named (known s) s.input purpose named))
    (ahead : s.input.ahead ≡ map ByteAhead (message_line control name front escape behind) ++ rest)
    (room : pushed s.input + length (text_named (known s) s.input purpose named) ≤ l.stack) (deep : depth s.input + 1 ≤ l.depth) (within : IsWithin l s)
    (charged : s.input.charge + length (message_line control name front escape behind) + length (text_named (known s) s.input purpose named) + 1 ≤ l.bytes) where
  abbrev names : Named Entry
  names = s.input.names

  abbrev texts : List (List ℕ)
  texts = s.input.open_texts

  abbrev text : List ℕ
  text = text_named (known s) s.input purpose named

  abbrev first : List ℕ
  first = (control ∷ name_bytes name) ++ blank ∷ front

  abbrev last : List ℕ
  last = behind ++ newline ∷ []

  abbrev line : List ℕ
  line = first ++ (escape ++ last)

  abbrev n : ℕ
  n = length front + length text + length behind

  abbrev most : Most
  most = most_of n texts

  abbrev from : Origin
  from = FromAhead rest

  abbrev rest1 : List (Ahead PageEvent)
  rest1 = map ByteAhead last ++ rest

  abbrev read : Origin
  read = FromAhead (EndAhead ∷ rest1)

  abbrev t1 : Bool × Arguments
  t1 = fold tell (true, no_arguments) front

  abbrev t2 : Bool × Arguments
  t2 = fold tell t1 text

  abbrev t3 : Bool × Arguments
  t3 = fold tell t2 behind

  abbrev with_charge : ℕ → PageInput
  with_charge c = record s.input { charge = c }

  abbrev c1 : ℕ
  c1 = s.input.charge + length first

  abbrev c2 : ℕ
  c2 = c1 + length escape

  abbrev c3 : ℕ
  c3 = c2 + length text

  abbrev c4 : ℕ
  c4 = c3 + 1

  abbrev c5 : ℕ
  c5 = c4 + length behind

  abbrev u1 : State
  u1 = run_at s names (telling texts t1) from (escape ++ last) (with_charge c1)

  abbrev u2 : State
  u2 = run_at s names (telling texts t1) read text (with_charge c2)

  abbrev u4 : State
  u4 = run_at s names (telling texts t2) from last (with_charge c4)

  abbrev u6 : State
  u6 = run_at s names (stage (Told false) t3.1 texts) from [] (with_charge (c5 + 1))

  lengths : length line ≡ length first + (length escape + (length behind + 1))
  lengths = omega (arith, length-append first (escape ++ last), length-append escape last, length-append behind (newline ∷ []))

  firsts : length front + 1 ≤ length first
  firsts = omega (arith, length-append (control ∷ name_bytes name) (blank ∷ front))

  stands : bytes_ahead s.input.ahead ≡ length line + bytes_ahead rest
  stands = ap bytes_ahead ahead ∙ bytes_ahead-front line rest

  held1 : held t1.1 ≤ length front
  held1 = omega (arith, held-fold (true, no_arguments) front)

  held2 : held t2.1 ≤ length front + length text
  held2 = omega (arith, held1, held-fold t1 text)

  held3 : held t3.1 ≤ n
  held3 = omega (arith, held2, held-fold t2 behind)

  small : (t : Bool × Arguments) → held t.1 ≤ n → IsSmall most (telling texts t)
  small t few = record { none_half = refl; held_few = few; stored_few = omega arith; texts_few = omega arith }

  -- up to the escape
  reaches-escape : (after l (length first) s ≡ u1) × HasRoom l s names from most (telling texts t1) (escape ++ last) (with_charge c1)
  reaches-escape =
      let start : Stage = stage LineStart no_arguments texts in
      let is : run_at s names start from line s.input ≡ s = is-run_at s from line start begins.reading begins.escapes begins.arguments refl ahead refl in
      let begun : HasRoom l s names from most start line s.input =
      HasRoom-start l s names from most start line s.input (subst (IsWithin l) (sym is) within) (omega (arith, charged)) (omega (arith, room, stands, lengths, firsts)) within.store within.making in
      let one = after-Path l s names from most start (telling texts t1) first (escape ++ last) s.input begins.takes
      (path-front names texts n control name front has front_itself (omega arith)) begun in
      let same = behind_bytes-ahead rest first s.input in (
        ap (after l (length first)) (sym is) ∙ one.0 ∙ ap (run_at s names (telling texts t1) from (escape ++ last)) same,
        subst (HasRoom l s names from most (telling texts t1) (escape ++ last)) same one.1,
      )

  room2 : HasRoom l s names read most (telling texts t1) text (with_charge c2)
  room2 =
      let before = reaches-escape.1 in
      record {
        charged = omega (arith, charged, lengths);
        stack = omega (arith, room, stands, lengths, firsts, held1, bytes_ahead-front text (EndAhead ∷ rest1), bytes_ahead-front last rest, length-append behind (newline ∷ []));
        depth = omega (arith, deep, ap ends_ahead ahead, ends_ahead-front line rest, ends_ahead-front text (EndAhead ∷ rest1), ends_ahead-front last rest);
        store = before.store;
        texts = before.texts;
        making = before.making;
        conditions = before.conditions;
        registers = before.registers;
        title = before.title;
        environments = before.environments;
        output = before.output;
        traps = before.traps;
      }

  room4 : HasRoom l s names from most (telling texts t2) last (with_charge c4)
  room4 = record {
    charged = omega (arith, charged, lengths, length-append behind (newline ∷ []));
    stack = omega (arith, room, stands, lengths, firsts, held2, bytes_ahead-front last rest, length-append behind (newline ∷ []));
    depth = omega (arith, deep, ap ends_ahead ahead, ends_ahead-front line rest, ends_ahead-front last rest);
    store = room2.store;
    texts = room2.texts;
    making = room2.making;
    conditions = room2.conditions;
    registers = room2.registers;
    title = room2.title;
    environments = room2.environments;
    output = room2.output;
    traps = room2.traps;
  }

  within4 : IsWithin l u4
  within4 = IsWithin-HasRoom l s names from most (telling texts t2) last (with_charge c4) (small t2 (omega (arith, held2))) room4

  -- the text is read in its place
  reads-text : IsEscapeOf purpose named escape → steps purpose ≡ false → after l (length escape) u1 ≡ u2
  reads-text is_escape none =
      let on : TakesItems u1 = record { going = begins.takes.going; is_open = begins.takes.is_open; idle = begins.takes.idle; unsprung = begins.takes.unsprung; none_due = refl } in
      let input : PageInput =
      pushing (text_named (known u1) u1.input purpose named) (record u1.input { ahead = rest1; charge = u1.input.charge + length escape }) in
      let same : with_text_ahead purpose named (length escape) rest1 u1 ≡ u2 =
      ap (λ (u : State). record u { input = input }) (stepped-none purpose named u1 none)
      ∙ ap (λ (t : List ℕ). run_at s names (telling texts t1) read t (with_charge c2)) (same-text (known u1) (known s) u1.input s.input purpose named escape is_escape refl refl refl) in
      let within1 : IsWithin l u1 = IsWithin-HasRoom l s names from most (telling texts t1) (escape ++ last) (with_charge c1) (small t1 (omega (arith, held1))) reaches-escape.1 in
      let within2 : IsWithin l u2 = IsWithin-HasRoom l s names read most (telling texts t1) text (with_charge c2) (small t1 (omega (arith, held1))) room2 in
      escapes_read_as_texts l u1 purpose named escape rest1 is_escape on refl (omega arith) refl (split-ahead escape last rest) within1 (subst (IsWithin l) (sym same) within2) ∙ same

  -- and its end
  reads-end : after l (length text + 1) u2 ≡ u4
  reads-end =
      let two = after-Path l s names read most (telling texts t1) (telling texts t2) text [] (with_charge c2) begins.takes
      (path-tell names texts n t1 text text_itself (omega (arith, held1)))
      (subst (λ (all : List ℕ). HasRoom l s names read most (telling texts t1) all (with_charge c2)) (sym (append-nil text)) room2) in
      let same = behind_bytes-ahead (EndAhead ∷ rest1) text (with_charge c2) in
      after-add l (length text) 1 u2
      ∙ ap (λ (all : List ℕ). after l 1 (after l (length text) (run_at s names (telling texts t1) read all (with_charge c2)))) (sym (append-nil text))
      ∙ ap (after l 1) (two.0 ∙ ap (run_at s names (telling texts t2) read []) same)
      ∙ step-end l s names texts t2 rest1 (with_charge c3) begins.takes (omega (arith, charged, lengths)) within4

  -- what stands behind it, and the newline
  reads-last : after l (length behind + 1) u4 ≡ u6
  reads-last =
      let two = after-Path l s names from most (telling texts t2) (telling texts t3) behind (newline ∷ []) (with_charge c4) begins.takes
      (path-tell names texts n t2 behind behind_itself (omega (arith, held2))) room4 in
      let same = behind_bytes-ahead rest behind (with_charge c4) in
      let room5 : HasRoom l s names from most (telling texts t3) (newline ∷ []) (with_charge c5) = subst (HasRoom l s names from most (telling texts t3) (newline ∷ [])) same two.1 in
      let end : Stage = stage (Told false) t3.1 texts in
      let room6 : HasRoom l s names from most end [] (with_charge (c5 + 1)) = HasRoom-behind l s names from most (telling texts t3) end newline [] (with_charge c5) (omega arith) room5 in
      let within6 : IsWithin l u6 =
      IsWithin-HasRoom l s names from most end [] (with_charge (c5 + 1)) (record { none_half = refl; held_few = held3; stored_few = omega arith; texts_few = omega arith }) room6 in
      let at : State = run_at s names (telling texts t3) from [] (with_charge (c5 + 1)) in
      after-add l (length behind) 1 u4
      ∙ ap (after l 1) (two.0 ∙ ap (run_at s names (telling texts t3) from (newline ∷ [])) same)
      ∙ step-taken l s names from (telling texts t3) newline [] (with_charge c5) u6 begins.takes refl refl (omega (arith, charged, lengths)) (taken_as-going_on at.input (Told false) at) within6

  abbrev told : State
  told = record s {
    input = record s.input { ahead = rest; charge = s.input.charge + length line + length text + 1 };
    messages = s.messages ++ told_line false (behind_blanks ((front ++ text) ++ behind));
  }

  -- and all is told
  tells-all : IsWithin l told → after l 1 u6 ≡ told
  tells-all within_told =
      let of : ℕ → Arguments → List OpenEscape → LineState → List ℕ → State = λ c a h r t. record s {
        input = record s.input { ahead = rest; charge = c; arguments = a; escapes = h };
        reading = r;
        messages = s.messages ++ told_line false t;
      } in
      let total : ℕ = s.input.charge + length line + length text + 1 in
      let sum : c5 + 1 ≡ total = omega (arith, lengths) in
      let all : List ℕ = behind_blanks ((front ++ text) ++ behind) in
      let begin : Bool × Arguments = (true, no_arguments) in
      let folded : fold tell begin ((front ++ text) ++ behind) ≡ t3 =
      fold-append tell begin (front ++ text) behind ∙ ap (λ (t : Bool × Arguments). fold tell t behind) (fold-append tell begin front text) in
      let same : message_told u6 ≡ told =
      ap (λ (c : ℕ). of c no_arguments [] LineStart (reverse t3.1.begun)) sum
      ∙ ap (λ (a : Arguments). of total a [] LineStart (reverse t3.1.begun)) (sym begins.arguments)
      ∙ ap (λ (h : List OpenEscape). of total s.input.arguments h LineStart (reverse t3.1.begun)) (sym begins.escapes)
      ∙ ap (λ (r : LineState). of total s.input.arguments s.input.escapes r (reverse t3.1.begun)) (sym begins.reading)
      ∙ ap (of total s.input.arguments s.input.escapes s.reading)
      (ap (λ (t : Bool × Arguments). reverse t.1.begun) (sym folded) ∙ told-front ((front ++ text) ++ behind)) in
      step-told l u6 begins.takes.going begins.takes.idle begins.takes.unsprung refl
      ∙ ap (made l u6) same
      ∙ made-Fits l u6 told (Fits-IsWithin l told within_told)

  pub tells-line : IsEscapeOf purpose named escape → steps purpose ≡ false → IsWithin l told → after l (length line + length text + 2) s ≡ told
  tells-line is_escape none within_told =
      let last_steps : ℕ = (length behind + 1) + 1 in
      let sum : length line + length text + 2 ≡ length first + (length escape + ((length text + 1) + last_steps)) = omega (arith, lengths) in
      ap (λ (m : ℕ). after l m s) sum
      ∙ after-add l (length first) (length escape + ((length text + 1) + last_steps)) s
      ∙ ap (after l (length escape + ((length text + 1) + last_steps))) reaches-escape.0
      ∙ after-add l (length escape) ((length text + 1) + last_steps) u1
      ∙ ap (after l ((length text + 1) + last_steps)) (reads-text is_escape none)
      ∙ after-add l (length text + 1) last_steps u2
      ∙ ap (after l last_steps) reads-end
      ∙ after-add l (length behind + 1) 1 u4
      ∙ ap (after l 1) reads-last
      ∙ tells-all within_told

pub messages_tell_what_is_read : MessagesTellWhatIsRead
messages_tell_what_is_read l s control name front behind purpose named escape rest begins has is_escape none front_itself behind_itself text_itself ahead room deep within within_told =
    tells-line l s control name front behind purpose named escape rest begins has front_itself behind_itself text_itself ahead room deep within within_told.bytes
    is_escape none within_told
