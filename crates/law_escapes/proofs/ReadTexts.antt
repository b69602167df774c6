-- An escape is read as its text, wherever its line stands, and the text's end is taken.
use Rattle.std.proofs.Common.{◌≡◌, ℕ, ◌+◌, ◌≤◌, Bool, true, false, List, [], ◌∷◌, ◌++◌, length, Option, Some, None, refl, ap, sym, subst, ◌∙◌, arith, All, decimal, is_some, map, not, ◌&&◌, ◌||◌, if◌then◌else◌, ◌==◌, le-ltb, append-nil}
use Rattle.std.proofs.lemmas.List.Elements.{All-append, All-cons, All-head, All-nil, All-tail, All-weaker}
use Rattle.roff_num.specs.declared.direction.Direction.{Direction}
use Rattle.input_escapes.specs.OpenEscape.{names_in, OpenEscape}
use Rattle.input_source.specs.Bytes.{is_dropped, newline}
use Rattle.roff_store.proofs.Calls.{length-with_entry_same}
use Rattle.roff_store.specs.Named.{entry_of, with_entry, Named}
use Rattle.roff_store.specs.Registers.{Registers, next_value, register_of, with_step}
use Rattle.roff_store.specs.declared.register.Register.{Register as ARegister}
use Rattle.roff_num.specs.Ranges.{is_in_range}
use Rattle.input_escapes.specs.declared.escapes.NameUse.TheVariants.{Register}
use Rattle.law_reading.proofs.WidthLaws.{measured_texts_of_the_source_read_as_digits, measured_texts_read_as_digits}
use Rattle.law_reading.specs.WidthLaws.{IsPlain, MayDelimit, measures_texts, text_units, width_escape, with_width_ahead}
use Rattle.run_model.specs.Reading.Units.{settled_for}
use Rattle.run_model.proofs.ItemsTaken.{not-second, Fits-IsWithin, FromAhead, FromSource, Origin, ahead_at, made-Fits, step-reads, tape_at}
use Rattle.run_model.specs.Messages.{message_lines}
use Rattle.run_model.specs.Registers.{AllRegisters, Known, StepBy, changed_by, is_page, is_read_only, is_step_out_of_range, number_in_range, page_register}
use Rattle.run_model.specs.Requests.Effects.{page_numbered}
use Rattle.run_model.specs.TitleTexts.{title_length}
use Rattle.run_model.specs.declared.message.Message.TheVariants.{BadNumber}
use Rattle.roff_num.specs.declared.direction.Direction.TheVariants.{Down, Up}
use Rattle.roff_num.specs.declared.limit.Limit.TheVariants.{Bytes}
use Rattle.roff_num.specs.declared.limits.Limits.{Limits}
use Rattle.input_model.specs.Arguments.{Arguments}
use Rattle.input_source.specs.Tape.{Ended, Ends, OneByte, Tape, front, items_then}
use Rattle.roff_store.specs.Texts.{Entry}
use Rattle.input_escapes.specs.EscapeLaws.{sign}
use Rattle.input_escapes.specs.Waiting.{decides, is_ended_by}
use Rattle.input_escapes.specs.declared.escapes.NameUse.{NameUse}
use Rattle.input_escapes.specs.declared.open_escape.Waiting.{Waiting}
use Rattle.input_escapes.specs.declared.open_escape.Waiting.TheVariants.{Decides, Takes, Waits}
use Rattle.input_model.specs.Input.{Ahead, ByteAhead, EndAhead, item_taken, pushing}
use Rattle.input_model.specs.Shown.{seen_ahead}
use Rattle.law_reading.proofs.InterpolatedNames.{escapes_of_the_source_read_as_texts, escapes_read_as_texts, with_text_ahead-arguments}
use Rattle.law_reading.proofs.Interpolation.{ReadsEscapes, ReadsEscapes-reads_escapes, is_no_newline, none_due-reads}
use Rattle.law_escapes.proofs.MessageLines.{same-text, split-ahead}
use Rattle.law_reading.specs.InterpolationLaws.{IsEscapeOf, Long, LongString, OfArgument, Short, ShortString, StandsForItself, reads_above, reads_escapes, stepped, text_named, with_source_behind, with_text_ahead}
use Rattle.law_escapes.specs.Parts.{Escape, Measured, Part, Written, bytes_of_part, cost_of_texts, known_behind_part, registers_behind_part, registers_stepped, rewritten_part, steps_quietly}
use Rattle.run_model.proofs.NameBytes.{stage}
use Rattle.run_model.proofs.PlainRuns.{behind_bytes, behind_bytes-ahead, run_at}
use Rattle.run_model.proofs.Waiting.{undecided}
use Rattle.run_model.specs.ItemsTaken.{TakesItems}
use Rattle.run_model.specs.Reading.Ends.{due}
use Rattle.run_model.specs.Reading.Items.{PageInput}
use Rattle.run_model.specs.Reading.Waiting.{waiting_in}
use Rattle.run_model.specs.Run.{State, after, ahead_taken, awaited, awaited_of_source, escape_ends, in_front_taken, known, made, read_waiting, step, stopped_by, taking_ahead}
use Rattle.run_model.specs.Stages.{Stage}
use Rattle.run_model.specs.Within.{IsWithin}
use Rattle.run_model.specs.PageEvents.{PageEvent}
use Rattle.run_model.specs.declared.line_state.LineState.{LineState}

-- so much more was taken
abbrev pub charged : ℕ → PageInput → PageInput
charged n i = record i { charge = i.charge + n }

-- bytes that don't end a line
abbrev pub IsOfOneLine : List ℕ → Type 0
IsOfOneLine bytes = All (λ b. (b == newline) ≡ false) bytes

-- those of an escape don't
signs : (step : Option Direction) → IsOfOneLine (sign step)
signs None = All-nil (λ b. (b == newline) ≡ false)
signs (Some Up) = All-cons (λ b. (b == newline) ≡ false) 43 [] refl (All-nil (λ b. (b == newline) ≡ false))
signs (Some Down) = All-cons (λ b. (b == newline) ≡ false) 45 [] refl (All-nil (λ b. (b == newline) ≡ false))

next-of_line : (b : ℕ) (bytes : List ℕ) → (b == newline) ≡ false → IsOfOneLine bytes → IsOfOneLine (b ∷ bytes)
next-of_line b bytes is others = All-cons (λ c. (c == newline) ≡ false) b bytes is others

last-of_line : (b : ℕ) → (b == newline) ≡ false → IsOfOneLine (b ∷ [])
last-of_line b is = next-of_line b [] is (All-nil (λ c. (c == newline) ≡ false))

pub escape-of_line : (purpose : NameUse) (name bytes : List ℕ) → IsEscapeOf purpose name bytes → IsOfOneLine bytes
escape-of_line _ _ _ (Short step x may plain) =
    let end : IsOfOneLine (x ∷ []) = last-of_line x (is_no_newline x may) in
    next-of_line 92 (110 ∷ sign step ++ x ∷ []) refl
    (next-of_line 110 (sign step ++ x ∷ []) refl (All-append (λ b. (b == newline) ≡ false) (sign step) (x ∷ []) (signs step) end))
escape-of_line _ _ _ (Long step x y first second) =
    let end : IsOfOneLine (40 ∷ x ∷ y ∷ []) = next-of_line 40 (x ∷ y ∷ []) refl (next-of_line x (y ∷ []) (is_no_newline x first) (last-of_line y (is_no_newline y second))) in
    next-of_line 92 (110 ∷ sign step ++ 40 ∷ x ∷ y ∷ []) refl
    (next-of_line 110 (sign step ++ 40 ∷ x ∷ y ∷ []) refl (All-append (λ b. (b == newline) ≡ false) (sign step) (40 ∷ x ∷ y ∷ []) (signs step) end))
escape-of_line _ _ _ (ShortString x may no_opening) =
    next-of_line 92 (42 ∷ x ∷ []) refl (next-of_line 42 (x ∷ []) refl (last-of_line x (is_no_newline x may)))
escape-of_line _ _ _ (LongString x y first second) =
    next-of_line 92 (42 ∷ 40 ∷ x ∷ y ∷ []) refl
    (next-of_line 42 (40 ∷ x ∷ y ∷ []) refl
    (next-of_line 40 (x ∷ y ∷ []) refl (next-of_line x (y ∷ []) (is_no_newline x first) (last-of_line y (is_no_newline y second)))))
escape-of_line _ _ _ (OfArgument x may) =
    next-of_line 92 (36 ∷ x ∷ []) refl (next-of_line 36 (x ∷ []) refl (last-of_line x (is_no_newline x may)))

-- what is counted of bytes of the source that don't end a line
abbrev line_after : List ℕ → ℕ → ℕ → ℕ
line_after [] newlines line = line
line_after (b ∷ bytes) newlines line = newlines + 1

line_after-again : (bytes : List ℕ) (newlines : ℕ) → line_after bytes newlines (newlines + 1) ≡ newlines + 1
line_after-again [] newlines = refl
line_after-again (b ∷ bytes) newlines = refl

source-of_line : (tape : Tape) (bytes : List ℕ) (i : PageInput) → IsOfOneLine bytes
    → behind_bytes (FromSource tape) bytes i ≡ record i { charge = i.charge + length bytes; line = line_after bytes i.newlines i.line }
source-of_line tape [] i one = ap (λ (c : ℕ). record i { charge = c }) (omega arith)
source-of_line tape (b ∷ bytes) i one =
    let next : PageInput = record i { charge = i.charge + 1; line = i.newlines + 1 } in
    let plain : (b == newline) ≡ false = All-head (λ c. (c == newline) ≡ false) b bytes one in
    let total : i.charge + 1 + length bytes ≡ i.charge + length (b ∷ bytes) = omega arith in
    ap (λ (c : Bool). behind_bytes (FromSource tape) bytes (record next { newlines = if c then i.newlines + 1 else i.newlines })) plain
    ∙ source-of_line tape bytes next (All-tail (λ c. (c == newline) ≡ false) b bytes one)
    ∙ ap (λ (c : ℕ). record i { charge = c; line = line_after bytes i.newlines (i.newlines + 1) }) total
    ∙ ap (λ (n : ℕ). record i { charge = i.charge + length (b ∷ bytes); line = n }) (line_after-again bytes i.newlines)

-- an escape has a byte
line_after-escape : (purpose : NameUse) (name bytes : List ℕ) (newlines line : ℕ) → IsEscapeOf purpose name bytes → line_after bytes newlines line ≡ newlines + 1
line_after-escape _ _ _ newlines line (Short step x may plain) = refl
line_after-escape _ _ _ newlines line (Long step x y first second) = refl
line_after-escape _ _ _ newlines line (ShortString x may no_opening) = refl
line_after-escape _ _ _ newlines line (LongString x y first second) = refl
line_after-escape _ _ _ newlines line (OfArgument x may) = refl

-- the escape of a text that is measured ends no line, either
plain-of_line : (d : ℕ) (text : List ℕ) → IsPlain d text → IsOfOneLine text
plain-of_line d text plain = All-weaker (λ b. ((b == d) ≡ false) × StandsForItself b) (λ b. (b == newline) ≡ false) (λ b is. is_no_newline b is.1) text plain

measured-of_line : (d : ℕ) (text : List ℕ) → MayDelimit d → IsPlain d text → IsOfOneLine (width_escape d text)
measured-of_line d text may plain =
    let is_kept : (d == newline) ≡ false = not-second (is_dropped d) (d == newline) may in
    next-of_line 92 (119 ∷ d ∷ text ++ d ∷ []) refl
    (next-of_line 119 (d ∷ text ++ d ∷ []) refl
    (next-of_line d (text ++ d ∷ []) is_kept (All-append (λ b. (b == newline) ≡ false) text (d ∷ []) (plain-of_line d text plain) (last-of_line d is_kept))))

-- a part is read as a text, where this is read
pub data IsRead (k : Known) (reading : LineState) : Part → Type 0 where
  ByName : (purpose : NameUse) (name bytes : List ℕ) → reads_escapes reading ≡ true → IsEscapeOf purpose name bytes → steps_quietly k purpose name ≡ true
      → IsRead k reading (Escape purpose name bytes)
  ByWidth : (d : ℕ) (text : List ℕ) → reads_escapes reading ≡ true → measures_texts reading ≡ true → MayDelimit d → IsPlain d text → IsRead k reading (Measured d text)

pub read-escapes : (k : Known) (reading : LineState) (part : Part) → IsRead k reading part → reads_escapes reading ≡ true
read-escapes k reading _ (ByName purpose name bytes reads is quiet) = reads
read-escapes k reading _ (ByWidth d text reads measures may plain) = reads

pub read-of_line : (k : Known) (reading : LineState) (part : Part) → IsRead k reading part → IsOfOneLine (bytes_of_part part)
read-of_line k reading _ (ByName purpose name bytes reads is quiet) = escape-of_line purpose name bytes is
read-of_line k reading _ (ByWidth d text reads measures may plain) = measured-of_line d text may plain

-- what it costs
pub read-cost : (k : Known) (j : PageInput) (reading : LineState) (part : Part) (parts : List Part) → IsRead k reading part
    → cost_of_texts k j (part ∷ parts) ≡ length (rewritten_part k j part) + 1 + cost_of_texts (known_behind_part k part) j parts
read-cost k j reading _ parts (ByName purpose name bytes reads is quiet) = refl
read-cost k j reading _ parts (ByWidth d text reads measures may plain) = refl

-- its text is the same in front of it
pub read-same : (k m : Known) (i j : PageInput) (reading : LineState) (part : Part) → IsRead k reading part → k ≡ m → i.names ≡ j.names → i.calls ≡ j.calls
    → rewritten_part k i part ≡ rewritten_part m j part
read-same k m i j reading _ (ByName purpose name bytes reads is quiet) known names calls = same-text k m i j purpose name bytes is known names calls
read-same k m i j reading _ (ByWidth d text reads measures may plain) known names calls = refl

-- a step that nothing is told of changes the registers alone
quiet-step : (page out : Bool) (direction : Direction) (name : List ℕ) (s : State) → not (page || out) ≡ true
    → record s {
      registers = changed_by (StepBy name direction) s.registers;
      messages = s.messages ++ message_lines s.input.line (if out then BadNumber ∷ [] else []);
      to_do = page_numbered (if page then number_in_range (next_value direction (page_register (known s))) else None) ++ s.to_do;
    }
    ≡ record s { registers = changed_by (StepBy name direction) s.registers }
quiet-step true out direction name s quiet = absurd (cc)
quiet-step false true direction name s quiet = absurd (cc)
quiet-step false false direction name s quiet =
    ap (λ (m : List ℕ). record s { registers = changed_by (StepBy name direction) s.registers; messages = m }) (append-nil s.messages)

stepped-quietly : (purpose : NameUse) (name : List ℕ) (s : State) → steps_quietly (known s) purpose name ≡ true
    → stepped purpose name s ≡ record s { registers = registers_stepped purpose name s.registers }
stepped-quietly (Register None) name s quiet = refl
stepped-quietly (Register (Some direction)) name s quiet = quiet-step (is_page name) (is_step_out_of_range direction name (known s)) direction name s quiet
stepped-quietly purpose name s quiet = refl

-- the registers are as many behind a step, and no title changes
pub record AreAsMany (now before : AllRegisters) : Type 0 where
  pub named : length now.named ≡ length before.named
  pub title : title_length now.title ≡ title_length before.title

stepped-named : (direction : Direction) (name : List ℕ) (named : Registers) (has in_range : Bool) (r : ARegister) → is_some (entry_of name named) ≡ has
    → length (if has && in_range then with_entry name r named else named) ≡ length named
stepped-named direction name named true true r is = length-with_entry_same name r named is
stepped-named direction name named true false r is = refl
stepped-named direction name named false in_range r is = refl

step-many : (read_only page : Bool) (direction : Direction) (name : List ℕ) (rs : AllRegisters)
    → AreAsMany (if read_only then rs else if page then rs else record rs { named = with_step direction name rs.named }) rs
step-many true page direction name rs = record { named = refl; title = refl }
step-many false true direction name rs = record { named = refl; title = refl }
step-many false false direction name rs =
    let r : ARegister = register_of name rs.named in
    record {
      named = stepped-named direction name rs.named (is_some (entry_of name rs.named)) (is_in_range (next_value direction r)) (record r { value = record { 0 = next_value direction r } }) refl;
      title = refl;
    }

registers-stepped : (purpose : NameUse) (name : List ℕ) (rs : AllRegisters) → AreAsMany (registers_stepped purpose name rs) rs
registers-stepped (Register None) name rs = record { named = refl; title = refl }
registers-stepped (Register (Some direction)) name rs = step-many (is_read_only name) (is_page name) direction name rs
registers-stepped purpose name rs = record { named = refl; title = refl }

pub part-many : (rs : AllRegisters) (part : Part) → AreAsMany (registers_behind_part rs part) rs
part-many rs (Written bytes) = record { named = refl; title = refl }
part-many rs (Escape purpose name bytes) = registers-stepped purpose name rs
part-many rs (Measured d text) = record { named = refl; title = refl }

-- a tape behind some bytes
pub split-tape : (bytes more : List ℕ) (tape : Tape) → items_then (map OneByte (bytes ++ more)) tape ≡ items_then (map OneByte bytes) (items_then (map OneByte more) tape)
split-tape [] more tape = refl
split-tape (b ∷ bytes) more tape = ap (λ (t : Tape). record t { items = OneByte b ∷ t.items }) (split-tape bytes more tape)

-- a text stands in front of the bytes that come next, and its end
abbrev pub in_front : Origin → List ℕ → Origin
in_front from bytes = FromAhead (EndAhead ∷ ahead_at from bytes)

abbrev pub standing : State → Origin → List ℕ → State
standing s from bytes = record s { tape = tape_at from bytes s.tape }

-- a run with the registers behind a part
abbrev pub behind_read : State → Part → State
behind_read s part = record s { registers = registers_behind_part s.registers part }

-- nothing else changes where it is read
abbrev with_text : State → LineState → Arguments → List (Ahead PageEvent) → List ℕ → PageInput → State
with_text u reading a rest text i = record u { input = pushing text (record i { ahead = rest; arguments = settled_for reading a }) }

with_text-ahead : (purpose : NameUse) (name bytes : List ℕ) (taken : ℕ) (rest : List (Ahead PageEvent)) (u : State) → ReadsEscapes u.reading → steps_quietly (known u) purpose name ≡ true
    → with_text_ahead purpose name taken rest u
    ≡ with_text (behind_read u (Escape purpose name bytes)) u.reading u.input.arguments rest (text_named (known u) u.input purpose name) (charged taken u.input)
with_text-ahead purpose name bytes taken rest u on quiet =
    with_text_ahead-arguments purpose name taken rest u on
    ∙ ap (λ (v : State). record v {
      input = pushing (text_named (known u) u.input purpose name) (record u.input { ahead = rest; arguments = settled_for u.reading u.input.arguments; charge = u.input.charge + taken });
    }) (stepped-quietly purpose name u quiet)

with_width-ahead : (width taken : ℕ) (rest : List (Ahead PageEvent)) (u : State) → ReadsEscapes u.reading → u.input.escapes ≡ []
    → with_width_ahead width [] taken rest u ≡ with_text u u.reading u.input.arguments rest (decimal width) (charged taken u.input)
with_width-ahead width taken rest u on half =
    ap (λ (h : List OpenEscape). record u {
      input = pushing (decimal width) (record u.input { ahead = rest; escapes = h; arguments = settled_for u.reading u.input.arguments; charge = u.input.charge + taken });
    }) (sym half)

-- a part is read as its text, where its bytes stand ahead
part-ahead : (l : Limits) (u : State) (part : Part) (rest : List (Ahead PageEvent)) → TakesItems u → IsRead (known u) u.reading part → u.input.escapes ≡ []
    → u.input.ahead ≡ map ByteAhead (bytes_of_part part) ++ rest
    → let read : State = with_text (behind_read u part) u.reading u.input.arguments rest (rewritten_part (known u) u.input part) (charged (length (bytes_of_part part)) u.input) in
    IsWithin l u → IsWithin l read → after l (length (bytes_of_part part)) u ≡ read
part-ahead l u _ rest takes (ByName purpose name bytes reads is quiet) half ahead within within_read =
    let same = with_text-ahead purpose name bytes (length bytes) rest u (ReadsEscapes-reads_escapes u.reading reads) quiet in
    escapes_read_as_texts l u purpose name bytes rest is takes (ap reads_above half) (omega (arith, ap names_in half)) reads ahead within (subst (IsWithin l) (sym same) within_read) ∙ same
part-ahead l u _ rest takes (ByWidth d text reads measures may plain) half ahead within within_read =
    let same = with_width-ahead (text_units text) (length (width_escape d text)) rest u (ReadsEscapes-reads_escapes u.reading reads) half in
    measured_texts_read_as_digits l u d text rest may plain takes measures half ahead within (subst (IsWithin l) (sym same) within_read) ∙ same

-- and where they stand in the source
part-of_source : (l : Limits) (u : State) (part : Part) (tape : Tape) → TakesItems u → IsRead (known u) u.reading part → u.input.escapes ≡ [] → u.input.ahead ≡ []
    → u.tape ≡ items_then (map OneByte (bytes_of_part part)) tape
    → let v : State = with_source_behind tape u in
    let read : State = with_text (behind_read v part) u.reading u.input.arguments [] (rewritten_part (known u) u.input part) (charged (length (bytes_of_part part)) v.input) in
    IsWithin l u → IsWithin l read → after l (length (bytes_of_part part)) u ≡ read
part-of_source l u _ tape takes (ByName purpose name bytes reads is quiet) half none stands within within_read =
    let v : State = with_source_behind tape u in
    let same =
    with_text-ahead purpose name bytes (length bytes) [] v (ReadsEscapes-reads_escapes u.reading reads) quiet
    ∙ ap (λ (t : List ℕ). with_text (behind_read v (Escape purpose name bytes)) u.reading u.input.arguments [] t (charged (length bytes) v.input))
    (same-text (known v) (known u) v.input u.input purpose name bytes is refl refl refl) in
    escapes_of_the_source_read_as_texts l u purpose name bytes tape is takes (ap reads_above half) (omega (arith, ap names_in half)) reads none stands within
    (subst (IsWithin l) (sym same) within_read) ∙ same
part-of_source l u _ tape takes (ByWidth d text reads measures may plain) half none stands within within_read =
    let v : State = with_source_behind tape u in
    let same = with_width-ahead (text_units text) (length (width_escape d text)) [] v (ReadsEscapes-reads_escapes u.reading reads) half in
    measured_texts_of_the_source_read_as_digits l u d text tape may plain takes measures half none stands within (subst (IsWithin l) (sym same) within_read) ∙ same

-- a part has a byte
line_after-part : (k : Known) (reading : LineState) (part : Part) (newlines line : ℕ) → IsRead k reading part → line_after (bytes_of_part part) newlines line ≡ newlines + 1
line_after-part k reading _ newlines line (ByName purpose name bytes reads is quiet) = line_after-escape purpose name bytes newlines line is
line_after-part k reading _ newlines line (ByWidth d text reads measures may plain) = refl

-- so it is at a stage
pub reads-text : (l : Limits) (s : State) (names : Named Entry) (from : Origin) (reading : LineState) (a : Arguments) (texts : List (List ℕ)) (part : Part) (last : List ℕ) (i : PageInput)
    → let bytes : List ℕ = bytes_of_part part in
    let u : State = run_at s names (stage reading a texts) from (bytes ++ last) i in
    TakesItems s → IsRead (known u) reading part
    → let text : List ℕ = rewritten_part (known u) u.input part in
    let read : State = run_at (standing (behind_read s part) from last) names (stage reading (settled_for reading a) texts) (in_front from last) text (behind_bytes from bytes i) in
    IsWithin l u → IsWithin l read → after l (length bytes) u ≡ read
reads-text l s names (FromAhead rest) reading a texts part last i takes is within within_read =
    let bytes : List ℕ = bytes_of_part part in
    let from : Origin = FromAhead rest in
    let u : State = run_at s names (stage reading a texts) from (bytes ++ last) i in
    let text : List ℕ = rewritten_part (known u) u.input part in
    let behind : List (Ahead PageEvent) = map ByteAhead last ++ rest in
    let on : ReadsEscapes reading = ReadsEscapes-reads_escapes reading (read-escapes (known u) reading part is) in
    let taking : TakesItems u = record { going = takes.going; is_open = takes.is_open; idle = takes.idle; unsprung = takes.unsprung; none_due = none_due-reads reading on } in
    let at : PageInput → State = run_at (standing (behind_read s part) from last) names (stage reading (settled_for reading a) texts) (in_front from last) text in
    let same : at (charged (length bytes) i) ≡ at (behind_bytes from bytes i) = ap at (sym (behind_bytes-ahead rest bytes i)) in
    part-ahead l u part behind taking is refl (split-ahead bytes last rest) within (subst (IsWithin l) (sym same) within_read) ∙ same
reads-text l s names (FromSource tape) reading a texts part last i takes is within within_read =
    let bytes : List ℕ = bytes_of_part part in
    let from : Origin = FromSource tape in
    let u : State = run_at s names (stage reading a texts) from (bytes ++ last) i in
    let text : List ℕ = rewritten_part (known u) u.input part in
    let behind : Tape = items_then (map OneByte last) tape in
    let on : ReadsEscapes reading = ReadsEscapes-reads_escapes reading (read-escapes (known u) reading part is) in
    let taking : TakesItems u = record { going = takes.going; is_open = takes.is_open; idle = takes.idle; unsprung = takes.unsprung; none_due = none_due-reads reading on } in
    let at : PageInput → State = run_at (standing (behind_read s part) from last) names (stage reading (settled_for reading a) texts) (in_front from last) text in
    let same : at (record i { charge = i.charge + length bytes; line = i.newlines + 1 }) ≡ at (behind_bytes from bytes i) =
    ap (λ (n : ℕ). at (record i { charge = i.charge + length bytes; line = n })) (sym (line_after-part (known u) reading part i.newlines i.line is))
    ∙ ap at (sym (source-of_line tape bytes i (read-of_line (known u) reading part is))) in
    part-of_source l u part behind taking is refl refl (split-tape bytes last tape) within (subst (IsWithin l) (sym same) within_read) ∙ same

-- behind a text its end is taken, whether a byte is waited for or not
read-end : (l : Limits) (w : Waiting) (u : State) (items : List (Ahead PageEvent)) → decides w ≡ false → u.input.ahead ≡ EndAhead ∷ items
    → awaited l (seen_ahead u.input.ahead) u ≡ in_front_taken l u.input.ahead u → read_waiting l w u ≡ taking_ahead l EndAhead items u
read-end l Takes u items undecided is sees = ap (λ (all : List (Ahead PageEvent)). in_front_taken l all u) is
read-end l Decides u items undecided is sees = absurd (cc)
read-end l Waits u items undecided is sees = sees ∙ ap (λ (all : List (Ahead PageEvent)). in_front_taken l all u) is

-- some bytes stand there
pub data IsMore : List ℕ → Type 0 where
  More : (b : ℕ) (bytes : List ℕ) → IsMore (b ∷ bytes)

pub more-behind : (bytes more : List ℕ) → IsMore more → IsMore (bytes ++ more)
more-behind [] more is = is
more-behind (b ∷ bytes) more is = More b (bytes ++ more)

-- what is seen behind it is a byte of the line
sees-byte : (l : Limits) (s : State) (names : Named Entry) (from : Origin) (p : Stage) (more : List ℕ) (i : PageInput) → TakesItems s → IsMore more → p.escapes ≡ []
    → let u : State = run_at (standing s from more) names p (in_front from more) [] i in
    awaited l (seen_ahead u.input.ahead) u ≡ in_front_taken l u.input.ahead u
sees-byte l s names (FromAhead rest) p _ i takes (More b bytes) half =
    let u : State = run_at (standing s (FromAhead rest) (b ∷ bytes)) names p (in_front (FromAhead rest) (b ∷ bytes)) [] i in
    ap (λ (h : List OpenEscape). if is_ended_by h (Some b) then made l u (escape_ends u) else in_front_taken l u.input.ahead u) half
sees-byte l s names (FromSource tape) p _ i takes (More b bytes) half =
    let u : State = run_at (standing s (FromSource tape) (b ∷ bytes)) names p (in_front (FromSource tape) (b ∷ bytes)) [] i in
    ap (λ (closed : Bool). awaited_of_source l (if closed then Ends Ended else front u.tape) u) takes.is_open
    ∙ ap (λ (h : List OpenEscape). if is_ended_by h (Some b) then made l u (escape_ends u) else in_front_taken l u.input.ahead u) half

pub reads-end : (l : Limits) (s : State) (names : Named Entry) (from : Origin) (reading : LineState) (a : Arguments) (texts : List (List ℕ)) (more : List ℕ) (i : PageInput)
    → TakesItems s → IsMore more → due reading ≡ None → i.charge + 1 ≤ l.bytes
    → let u : State = run_at (standing s from more) names (stage reading a texts) (in_front from more) [] i in
    let v : State = run_at s names (stage reading a texts) from more (charged 1 i) in
    IsWithin l v → step l u ≡ v
reads-end l s names from reading a texts more i takes is_more none_due few within =
    let u : State = run_at (standing s from more) names (stage reading a texts) (in_front from more) [] i in
    let v : State = run_at s names (stage reading a texts) from more (charged 1 i) in
    let items : List (Ahead PageEvent) = ahead_at from more in
    let done : State = made l u (ahead_taken EndAhead (record u { input = item_taken EndAhead items u.input })) in
    step-reads l u takes.going takes.idle takes.unsprung none_due
    ∙ read-end l (waiting_in reading u.input) u items (undecided reading a.place [] None refl) refl (sees-byte l s names from (stage reading a texts) more i takes is_more refl)
    ∙ ap (λ (c : Bool). if c then stopped_by l Bytes u else done) (le-ltb l.bytes (i.charge + 1) (omega (arith, few)))
    ∙ made-Fits l u v (Fits-IsWithin l v within)
