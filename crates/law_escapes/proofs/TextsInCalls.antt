-- A body that a line calls gets the arguments that the line's parts are read as.
use Rattle.std.proofs.Common.{◌≡◌, ℕ, ◌+◌, ◌≤◌, Bool, true, false, List, [], ◌∷◌, ◌++◌, length, refl, ap, sym, subst, ◌∙◌, arith, append_assoc, All, ◌*◌, ◌||◌, ◌&&◌, if◌then◌else◌, decimal, fold, nat_le, nat_lt, not, reverse, sum_by, ◌==◌, le-ltb, ne_eqb, length-append}
use Rattle.std.proofs.Math.Nat.{min-le_right}
use Rattle.std.proofs.lemmas.Fmt.{decimal_is_IsNumeral}
use Rattle.std.proofs.lemmas.Str.Parse.{digit_from_value}
use Rattle.std.specs.Str.Parse.{AllDigits}
use Rattle.input_escapes.specs.Measures.{byte_columns, most_width}
use Rattle.std.proofs.lemmas.List.Elements.{All-append, All-cons, All-nil, All-weaker}
use Rattle.std.proofs.lemmas.List.Sums.{fold-append}
use Rattle.roff_num.specs.declared.limits.Limits.{Limits}
use Rattle.roff_num.specs.declared.short_name.ShortName.{ShortName}
use Rattle.roff_num.specs.ShortNames.{name_bytes}
use Rattle.input_model.proofs.Settling.{held-only_kept-settled}
use Rattle.input_model.specs.Arguments.{Arguments, arguments_read, held, is_behind_quote, live_bytes, no_arguments, only_kept, settled, settled_at, with_unit}
use Rattle.input_model.specs.declared.place.Place.{Place}
use Rattle.input_model.specs.declared.place.Place.TheVariants.{BehindQuote, Between, InPlain, InQuotes}
use Rattle.input_source.specs.Bytes.{backslash, blank, is_dropped, is_silent, newline, tab}
use Rattle.roff_store.specs.Named.{Named}
use Rattle.roff_store.specs.Texts.{Entry}
use Rattle.input_model.specs.Input.{bytes_ahead, counting, ends_ahead, lines_taken}
use Rattle.law_escapes.proofs.PartRuns.{NoPart, OnBytes, OnText, PartsPath, RoomFor, after-parts, behind_bytes-append, behind_bytes-charged, bytes_ahead-front, ends_ahead-front, knows-behind}
use Rattle.law_escapes.proofs.ReadTexts.{ByName, ByWidth, IsOfOneLine, IsRead, More, charged}
use Rattle.law_escapes.proofs.CallUnits.{AreUnits, agrees-units, call_unit_held, held-units, units-append, units-line, way-call}
use Rattle.law_escapes.proofs.CopiedParts.{copied-of_line}
use Rattle.input_escapes.specs.EscapeLaws.{begins_reading, is_only_copied}
use Rattle.law_reading.specs.ConditionLaws.{is_whole}
use Rattle.law_reading.specs.DefinitionLaws.{IsOfLine}
use Rattle.law_escapes.specs.Parts.{AreParts, Escape, IsOnlyCopied, MayHave, MayMeasure, MayRead, MayWrite, Measured, Part, Written, bytes_of, cost_of_texts, known_behind_part, registers_behind, rewritten, rewritten_part}
use Rattle.law_escapes.specs.TextsInCalls.{BodiesGetTheTextsRead, BodiesOfTheSourceGetTheTextsRead, HasRoomForTexts, LinesAreReadAsRewritten, NoneBehindQuote, behind_part, behind_parts, parts_read_as, units_of}
use Rattle.law_reading.proofs.CallLaws.{called_from, newline-calls, reads-body}
use Rattle.law_reading.proofs.CalledArguments.{arguments_at, most_of, only_kept-few, turns-call}
use Rattle.law_reading.proofs.LineNames.{Allows, ReadsName, onward, reads-name}
use Rattle.law_reading.proofs.ReadArguments.{Agrees, Full, IsClean, Same, agrees-kept, agrees-whole, given-agrees}
use Rattle.law_reading.specs.CallLaws.{BeginsLine, IsApostrophe, IsControl, IsDot, with_call}
use Rattle.law_reading.specs.InterpolationLaws.{text_named}
use Rattle.law_reading.specs.WordCalls.{NamesBody, call_with}
use Rattle.run_model.proofs.ItemsTaken.{FromAhead, FromSource, Origin, ahead_at, not-second, tape_at}
use Rattle.run_model.proofs.Leads.{after-add}
use Rattle.run_model.proofs.NameBytes.{stage}
use Rattle.run_model.proofs.PlainRuns.{HasRoom, HasRoom-start, Here, Most, Path, Path-append, after-Path, behind_byte, behind_bytes, behind_bytes-charge, behind_bytes-counts, counted-ahead, counted-source, is-run_at, run_at, step-taken}
use Rattle.run_model.specs.Reading.Items.{PageInput}
use Rattle.law_reading.specs.WidthLaws.{text_units}
use Rattle.run_model.specs.ItemsTaken.{TakesItems}
use Rattle.run_model.specs.Registers.{AllRegisters, Known}
use Rattle.run_model.specs.Reading.ControlLines.{BelongsToName, ends_name}
use Rattle.run_model.specs.Run.{State, after, byte_taken, known}
use Rattle.run_model.specs.Stages.{Stage}
use Rattle.run_model.specs.Within.{IsWithin}
use Rattle.run_model.specs.declared.line_state.LineState.TheVariants.{LineStart, Collecting}
use Rattle.run_model.specs.declared.purpose.Purpose.TheVariants.{Calling}

-- what is held in front of an escape is what the line was read as there
same-settled : (whole : List (List ℕ)) (begun : List ℕ) (place : Place) → length whole ≤ 8 → IsClean place begun
    → Agrees (only_kept (settled (arguments_at whole begun place))) (settled (arguments_at whole begun place))
same-settled whole begun Between few clean = agrees-kept whole begun Between few clean
same-settled whole begun InPlain few clean = agrees-kept whole begun InPlain few clean
same-settled whole begun InQuotes few clean = agrees-kept whole begun InQuotes few clean
same-settled whole begun BehindQuote few clean =
    agrees-whole (reverse begun ∷ whole) (nat_le (length (reverse begun ∷ whole)) 8) refl (omega (arith, few))

full-settled : (whole more : List (List ℕ)) (begun : List ℕ) (place : Place) → length whole ≡ 9
    → Agrees (arguments_at whole [] Between) (settled (arguments_at (more ++ whole) begun place))
full-settled whole more begun Between full = Full whole more begun Between full
full-settled whole more begun InPlain full = Full whole more begun InPlain full
full-settled whole more begun InQuotes full = Full whole more begun InQuotes full
full-settled whole more begun BehindQuote full = Full whole (reverse begun ∷ more) [] Between full

agrees-settled : (a u : Arguments) → Agrees a u → Agrees (only_kept (settled a)) (settled u)
agrees-settled _ _ (Same whole begun place few clean) = same-settled whole begun place few clean
agrees-settled _ _ (Full whole more begun place full) =
    subst (λ (a : Arguments). Agrees a (settled (arguments_at (more ++ whole) begun place))) (sym (only_kept-few whole [] Between (omega (arith, full))))
    (full-settled whole more begun place full)

-- the digits of a width are copied
record IsDigit (b : ℕ) : Type 0 where
  of_line : IsOfLine b
  plain : (b == backslash) ≡ false

is-digit : (b : ℕ) → 48 ≤ b → b ≤ 57 → IsDigit b
is-digit b low high =
    let no_control : nat_lt b 32 ≡ false = le-ltb b 32 (omega (arith, low)) in
    let no_delete : (b == 127) ≡ false = ne_eqb b 127 (λ is. omega (arith, is, high)) in
    let no_newline : (b == newline) ≡ false = ne_eqb b 10 (λ is. omega (arith, is, low)) in
    let mid : Bool = not (b == newline || b == tab || is_silent b) in
    record {
      of_line =
          ap (λ (c : Bool). not (((c || b == 127) && mid) || b == newline)) no_control
          ∙ ap (λ (c : Bool). not ((c && mid) || b == newline)) no_delete
          ∙ ap not no_newline;
      plain = ne_eqb b 92 (λ is. omega (arith, is, high));
    }

copied-digits : (bytes : List ℕ) → AllDigits 10 bytes → IsOnlyCopied bytes
copied-digits [] digits = record { bytes = All-nil IsOfLine; only_copied = refl; whole = refl }
copied-digits (b ∷ []) digits =
    let range = digit_from_value b digits.0 in
    let is : IsDigit b = is-digit b range.0 range.1 in
    record { bytes = All-cons IsOfLine b [] is.of_line (All-nil IsOfLine); only_copied = refl; whole = ap not is.plain }
copied-digits (b ∷ c ∷ bytes) digits =
    let range = digit_from_value b digits.0 in
    let is : IsDigit b = is-digit b range.0 range.1 in
    let others : IsOnlyCopied (c ∷ bytes) = copied-digits (c ∷ bytes) digits.1 in
    record {
      bytes = All-cons IsOfLine b (c ∷ bytes) is.of_line others.bytes;
      only_copied = ap (λ (x : Bool). if x then not (begins_reading c) && is_only_copied bytes else is_only_copied (c ∷ bytes)) is.plain ∙ others.only_copied;
      whole = ap (λ (x : Bool). if x then is_whole bytes else is_whole (c ∷ bytes)) is.plain ∙ others.whole;
    }

copied-width : (text : List ℕ) → IsOnlyCopied (decimal (text_units text))
copied-width text =
    let few : text_units text ≤ 2147483647 = min-le_right (24 * sum_by byte_columns text) most_width in
    copied-digits (decimal (text_units text)) (decimal_is_IsNumeral (text_units text) (omega (arith, few))).0.1

-- what is read in the place of a part is copied
text-copied : (k : Known) (j : PageInput) (part : Part) → MayHave true IsOnlyCopied k j part → IsOnlyCopied (rewritten_part k j part)
text-copied k j _ (MayWrite bytes is) = is
text-copied k j _ (MayRead purpose name bytes is_escape quiet is) = is
text-copied k j _ (MayMeasure d text measures may plain) = copied-width text

-- parts are read behind arguments that are held
record ReadsParts (j : PageInput) (names : Named Entry) (name : ShortName) (texts : List (List ℕ)) (most : ℕ) (k : Known) (a u : Arguments) (parts : List Part) : Type 0 where
  there : Arguments
  path : PartsPath j (most_of most texts) names k (stage (Collecting (Calling name)) a texts) parts (stage (Collecting (Calling name)) there texts)
  agrees : Agrees there (behind_parts k j u parts)

-- by the text of the first of them
reads-text : (k : Known) (j : PageInput) (names : Named Entry) (name : ShortName) (texts : List (List ℕ)) (most : ℕ) (a u : Arguments) (part : Part) (parts : List Part)
    → IsRead k (Collecting (Calling name)) part → IsOnlyCopied (rewritten_part k j part) → behind_part k j u part ≡ fold with_unit (settled u) (units_of (rewritten_part k j part))
    → held a + length (rewritten k j (part ∷ parts)) ≤ most → Agrees a u
    → (let k1 : Known = known_behind_part k part in
    (b v : Arguments) → held b + length (rewritten k1 j parts) ≤ most → Agrees b v → ReadsParts j names name texts most k1 b v parts)
    → ReadsParts j names name texts most k a u (part ∷ parts)
reads-text k j names name texts most a u part parts is may behind few agrees reads =
    let k1 : Known = known_behind_part k part in
    let text : List ℕ = rewritten_part k j part in
    let units : AreUnits text (units_of text) = units-line text may in
    let begun : Arguments = only_kept (settled a) in
    let next : Arguments = fold call_unit_held begun (units_of text) in
    let same : held begun ≡ held a = held-only_kept-settled a in
    let all : length (text ++ rewritten k1 j parts) ≡ length text + length (rewritten k1 j parts) = length-append text (rewritten k1 j parts) in
    let others =
    reads next (fold with_unit (settled u) (units_of text)) (omega (arith, few, all, same, held-units begun text (units_of text) units))
    (agrees-units begun (settled u) (units_of text) (agrees-settled a u agrees)) in
    record {
      there = others.there;
      path =
          OnText k (Collecting (Calling name)) (Collecting (Calling name)) a next texts texts (stage (Collecting (Calling name)) others.there texts) part parts refl is
          (way-call names name texts most begun text (units_of text) units (omega (arith, few, all, same)))
          others.path;
      agrees = subst (λ (v : Arguments). Agrees others.there (behind_parts k1 j v parts)) (sym behind) others.agrees;
    }

-- by the first of them
reads-part : (k : Known) (j : PageInput) (names : Named Entry) (name : ShortName) (texts : List (List ℕ)) (most : ℕ) (a u : Arguments) (part : Part) (parts : List Part)
    → MayHave true IsOnlyCopied k j part → held a + length (rewritten k j (part ∷ parts)) ≤ most → Agrees a u
    → (let k1 : Known = known_behind_part k part in
    (b v : Arguments) → held b + length (rewritten k1 j parts) ≤ most → Agrees b v → ReadsParts j names name texts most k1 b v parts)
    → ReadsParts j names name texts most k a u (part ∷ parts)
reads-part k j names name texts most a u _ parts (MayWrite bytes may) few agrees reads =
    let units : AreUnits bytes (units_of bytes) = units-line bytes may in
    let next : Arguments = fold call_unit_held a (units_of bytes) in
    let all : length (bytes ++ rewritten k j parts) ≡ length bytes + length (rewritten k j parts) = length-append bytes (rewritten k j parts) in
    let others = reads next (fold with_unit u (units_of bytes)) (omega (arith, few, all, held-units a bytes (units_of bytes) units)) (agrees-units a u (units_of bytes) agrees) in
    record {
      there = others.there;
      path =
          OnBytes k (stage (Collecting (Calling name)) a texts) (stage (Collecting (Calling name)) next texts) (stage (Collecting (Calling name)) others.there texts) bytes parts (copied-of_line bytes may)
          (way-call names name texts most a bytes (units_of bytes) units (omega (arith, few, all)))
          others.path;
      agrees = others.agrees;
    }
reads-part k j names name texts most a u _ parts (MayRead purpose escape bytes is quiet may) few agrees reads =
    reads-text k j names name texts most a u (Escape purpose escape bytes) parts (ByName purpose escape bytes refl is quiet) may refl few agrees reads
reads-part k j names name texts most a u _ parts (MayMeasure d text measures may plain) few agrees reads =
    reads-text k j names name texts most a u (Measured d text) parts (ByWidth d text refl refl may plain) (copied-width text) refl few agrees reads

reads-parts : (j : PageInput) (names : Named Entry) (name : ShortName) (texts : List (List ℕ)) (most : ℕ) (k : Known) (a u : Arguments) (parts : List Part)
    → AreParts true IsOnlyCopied k j parts → held a + length (rewritten k j parts) ≤ most → Agrees a u → ReadsParts j names name texts most k a u parts
reads-parts j names name texts most k a u [] may few agrees = record { there = a; path = NoPart k (stage (Collecting (Calling name)) a texts); agrees = agrees }
reads-parts j names name texts most k a u (part ∷ parts) may few agrees =
    reads-part k j names name texts most a u part parts may.0 few agrees (λ b v. reads-parts j names name texts most (known_behind_part k part) b v parts may.1)

-- a line up to the blank behind its name
abbrev pub line_front : ℕ → ShortName → List ℕ
line_front control name = (control ∷ name_bytes name) ++ blank ∷ []

none-third : (w x y z : Bool) → (w || (x || (y || z))) ≡ false → y ≡ false
none-third true x y z none = absurd (cc)
none-third false true y z none = absurd (cc)
none-third false false true z none = absurd (cc)
none-third false false false z none = refl

pub no_newline-name : (b : ℕ) → BelongsToName b → (b == newline) ≡ false
no_newline-name b belongs =
    none-third (b == blank) (b == tab) (b == newline) (b == backslash) (not-second (is_dropped b) (ends_name b) belongs)

pub no_newline-control : (control : ℕ) → IsControl control → (control == newline) ≡ false
no_newline-control _ IsDot = refl
no_newline-control _ IsApostrophe = refl

pub name-of_line : (control : ℕ) (name : ShortName) → IsControl control → All BelongsToName (name_bytes name) → IsOfOneLine (line_front control name)
name-of_line control name begins is_name =
    let NoNewline : ℕ → Type 0 = λ b. (b == newline) ≡ false in
    All-append NoNewline (control ∷ name_bytes name) (blank ∷ [])
    (All-cons NoNewline control (name_bytes name) (no_newline-control control begins)
    (All-weaker BelongsToName NoNewline no_newline-name (name_bytes name) is_name))
    (All-cons NoNewline blank [] refl (All-nil NoNewline))

reads-front : (names : Named Entry) (name : ShortName) (texts : List (List ℕ)) (most control : ℕ) (body : List ℕ) → NamesBody names control name body
    → Path (most_of most texts) names (stage LineStart no_arguments texts) (line_front control name) (stage (Collecting (Calling name)) no_arguments texts)
reads-front names name texts most control body call =
    let allows : Allows (most_of most texts) no_arguments texts = record { held_few = omega arith; stored_few = omega arith; texts_few = omega arith } in
    let begins : ReadsName (most_of most texts) names no_arguments texts (control ∷ name_bytes name) (Collecting (Calling name)) =
    reads-name (most_of most texts) names no_arguments texts control name (Collecting (Calling name)) call.begins call.is_name allows (reads-body names name body call.stands_for) in
    let mid : Stage = stage begins.reading no_arguments texts in
    let end : Stage = stage (Collecting (Calling name)) no_arguments texts in
    Path-append (most_of most texts) names (stage LineStart no_arguments texts) mid end (control ∷ name_bytes name) (blank ∷ []) begins.path
    (onward (most_of most texts) names no_arguments texts begins.reading (Collecting (Calling name)) blank [] end begins.does.none_due
    (λ k i. begins.does.at_blank k mid i ∙ turns-call names name no_arguments texts blank refl k i) allows (Here end))

-- a run that has stepped the registers of a line, and paid for its texts, before it reads the line
abbrev pub paid : State → AllRegisters → ℕ → State
paid s registers cost = record s { registers = registers; input = charged cost s.input }

-- the whole line
called-with-texts : (l : Limits) (s : State) (from : Origin) (control : ℕ) (name : ShortName) (body : List ℕ) (parts : List Part)
    → BeginsLine s → NamesBody s.input.names control name body → AreParts true IsOnlyCopied (known s) s.input parts
    → let line : List ℕ = call_with control name (bytes_of parts) in
    let cost : ℕ = cost_of_texts (known s) s.input parts in
    let called : State = called_from (paid s (registers_behind s.registers parts) cost) from line body (parts_read_as (known s) s.input parts) in
    s.input.ahead ≡ ahead_at from line → s.tape ≡ tape_at from line s.tape → HasRoomForTexts l s (rewritten (known s) s.input parts) → IsWithin l s → IsWithin l called
    → after l (length line + cost) s ≡ called
called-with-texts l s from control name body parts begins call may ahead tape has_room within within_called =
    let k : Known = known s in
    let j : PageInput = s.input in
    let names : Named Entry = s.input.names in
    let texts : List (List ℕ) = s.input.open_texts in
    let front : List ℕ = line_front control name in
    let bytes : List ℕ = bytes_of parts in
    let last : List ℕ = bytes ++ newline ∷ [] in
    let line : List ℕ = call_with control name bytes in
    let cost : ℕ = cost_of_texts k j parts in
    let arguments : List (List ℕ) = parts_read_as k j parts in
    let v : State = paid s (registers_behind s.registers parts) cost in
    let called : State = called_from v from line body arguments in
    let most : Most = most_of (length (rewritten k j parts)) texts in
    let start : Stage = stage LineStart no_arguments texts in
    let mid : Stage = stage (Collecting (Calling name)) no_arguments texts in
    let in_line : List ℕ = control ∷ name_bytes name in
    let same : line ≡ front ++ last = append_assoc in_line (blank ∷ bytes) (newline ∷ []) ∙ sym (append_assoc in_line (blank ∷ []) last) in
    let is : run_at s names start from (front ++ last) s.input ≡ s =
    is-run_at s from (front ++ last) start begins.reading begins.escapes begins.arguments refl (ahead ∙ ap (ahead_at from) same) (tape ∙ ap (λ (all : List ℕ). tape_at from all s.tape) same) in
    let charge : s.input.charge + cost + length line ≤ l.bytes = omega (arith, within_called.bytes, behind_bytes-charge from line (charged cost s.input)) in
    let sizes : length line ≡ length front + length last = ap length same ∙ length-append front last in
    let stands : bytes_ahead s.input.ahead ≡ bytes_ahead (ahead_at from (front ++ last)) = ap bytes_ahead (ahead ∙ ap (ahead_at from) same) in
    let begun : HasRoom l s names from most start (front ++ last) s.input =
    HasRoom-start l s names from most start (front ++ last) s.input (subst (IsWithin l) (sym is) within)
    (omega (arith, charge, ap length same)) (omega (arith, has_room.beside)) within.store within.making in
    let i1 : PageInput = behind_bytes from front s.input in
    let one = after-Path l s names from most start mid front last s.input begins.takes (reads-front names name texts (length (rewritten k j parts)) control body call) begun in
    let reads = reads-parts j names name texts (length (rewritten k j parts)) k no_arguments no_arguments parts may (omega arith) (Same [] [] Between (omega arith) refl) in
    let end : Stage = stage (Collecting (Calling name)) reads.there texts in
    let room : RoomFor l s names from most mid (length (rewritten k j parts) + 0) (cost + 0) last i1 = record {
      room = one.1;
      charged_all = omega (arith, charge, sizes, behind_bytes-charge from front s.input);
      stack =
          omega (arith, has_room.beside, stands, bytes_ahead-front from front last, ap (λ (m : PageInput). live_bytes m.calls) (behind_bytes-counts from front s.input));
      deep = omega (arith, has_room.deep, ap ends_ahead (ahead ∙ ap (ahead_at from) same), ends_ahead-front from front last);
    } in
    let behind =
    after-parts l j most names s from k begins.takes refl mid end parts (newline ∷ []) 0 0 i1 (More newline []) reads.path
    (record { none_half = refl; held_few = omega arith; stored_few = omega arith; texts_few = omega arith })
    (knows-behind s k j from front s.input (name-of_line control name call.begins call.is_name) (record { is_known = refl; calls = refl })) room in
    let i2 : PageInput = charged cost (behind_bytes from bytes i1) in
    let counts : i2 ≡ behind_bytes from (front ++ bytes) (charged cost s.input) =
    ap (charged cost) (behind_bytes-append from front bytes s.input) ∙ sym (behind_bytes-charged from (front ++ bytes) cost s.input) in
    let takes : TakesItems v = record { going = begins.takes.going; is_open = begins.takes.is_open; idle = begins.takes.idle; unsprung = begins.takes.unsprung; none_due = begins.takes.none_due } in
    let taken : byte_taken newline (run_at v names end from [] (behind_byte from newline i2)) ≡ called =
    ap (λ (m : PageInput). byte_taken newline (run_at v names end from [] (behind_byte from newline m))) counts
    ∙ newline-calls v from name body (front ++ bytes) arguments (Collecting (Calling name)) reads.there
    (record {
      takes = takes;
      reading = begins.reading;
      escapes = begins.escapes;
      arguments = begins.arguments;
    })
    call.stands_for (given-agrees reads.there (behind_parts k j no_arguments parts) reads.agrees)
    (record { none_due = refl; at_blank = λ k p i. refl; at_newline = λ k p i. refl })
    ∙ ap (λ (all : List ℕ). called_from v from all body arguments) (append_assoc front bytes (newline ∷ []) ∙ sym same) in
    let sum : length line + cost ≡ length front + ((length bytes + cost) + 1) = omega (arith, sizes, length-append bytes (newline ∷ [])) in
    ap (λ (n : ℕ). after l n s) sum
    ∙ after-add l (length front) ((length bytes + cost) + 1) s
    ∙ ap (after l ((length bytes + cost) + 1)) (ap (after l (length front)) (sym is) ∙ one.0)
    ∙ after-add l (length bytes + cost) 1 (run_at s names mid from last i1)
    ∙ ap (after l 1) behind.leads
    ∙ step-taken l (record s { registers = registers_behind s.registers parts }) names from end newline [] i2 called
    (record { going = begins.takes.going; is_open = begins.takes.is_open; idle = begins.takes.idle; unsprung = begins.takes.unsprung; none_due = begins.takes.none_due }) refl refl (omega (arith, behind.room.charged_all)) taken within_called

pub bodies_get_the_texts_read : BodiesGetTheTextsRead
bodies_get_the_texts_read l s control name body parts rest begins call may ahead room within within_called =
    let line : List ℕ = call_with control name (bytes_of parts) in
    let cost : ℕ = cost_of_texts (known s) s.input parts in
    let arguments : List (List ℕ) = parts_read_as (known s) s.input parts in
    let registers : AllRegisters = registers_behind s.registers parts in
    let of : ℕ → State = λ n. record s { registers = registers; input = with_call body arguments (record s.input { ahead = rest; charge = n }) } in
    let sum : s.input.charge + cost + length line ≡ s.input.charge + (length line + cost) = omega arith in
    let is : called_from (paid s registers cost) (FromAhead rest) line body arguments ≡ of (s.input.charge + (length line + cost)) =
    ap (λ (i : PageInput). record s { registers = registers; input = with_call body arguments i }) (counted-ahead rest line (charged cost s.input)) ∙ ap of sum in
    called-with-texts l s (FromAhead rest) control name body parts begins call may ahead refl room within (subst (IsWithin l) (sym is) within_called) ∙ is

-- lines of the source, and what was paid before
pub lines_taken-charged : (bytes : List ℕ) (n : ℕ) (i : PageInput) → lines_taken bytes (charged n i) ≡ record (lines_taken bytes i) { charge = i.charge + (length bytes + n) }
lines_taken-charged [] n i = ap (λ (c : ℕ). record i { charge = c }) (omega arith)
lines_taken-charged (b ∷ bytes) n i =
    let first : i.charge + n + 1 ≡ i.charge + 1 + n = omega arith in
    let sum : i.charge + 1 + (length bytes + n) ≡ i.charge + (length (b ∷ bytes) + n) = omega arith in
    ap (λ (c : ℕ). lines_taken bytes (record (counting b i) { charge = c })) first
    ∙ lines_taken-charged bytes n (counting b i)
    ∙ ap (λ (c : ℕ). record (lines_taken bytes (counting b i)) { charge = c }) sum

pub bodies_of_the_source_get_the_texts_read : BodiesOfTheSourceGetTheTextsRead
bodies_of_the_source_get_the_texts_read l s control name body parts tape begins call may none stands room within within_called =
    let line : List ℕ = call_with control name (bytes_of parts) in
    let cost : ℕ = cost_of_texts (known s) s.input parts in
    let arguments : List (List ℕ) = parts_read_as (known s) s.input parts in
    let registers : AllRegisters = registers_behind s.registers parts in
    let of : PageInput → State = λ i. record s { tape = tape; registers = registers; input = with_call body arguments i } in
    let is : called_from (paid s registers cost) (FromSource tape) line body arguments ≡ of (record (lines_taken line s.input) { charge = s.input.charge + (length line + cost) }) =
    ap of (counted-source tape line (charged cost s.input) none ∙ lines_taken-charged line cost s.input) in
    called-with-texts l s (FromSource tape) control name body parts begins call may none stands room within (subst (IsWithin l) (sym is) within_called) ∙ is

-- where no quote was closed, nothing else follows it
settled-none : (place : Place) (a : Arguments) → is_behind_quote place ≡ false → settled_at place a ≡ a
settled-none Between a none = refl
settled-none InPlain a none = refl
settled-none InQuotes a none = refl
settled-none BehindQuote a none = absurd (cc)

read-rewritten : (i : PageInput) (k : Known) (a : Arguments) (parts : List Part) → AreParts true IsOnlyCopied k i parts → NoneBehindQuote k i a parts
    → behind_parts k i a parts ≡ fold with_unit a (units_of (rewritten k i parts))
read-rewritten i k a [] may none = refl
read-rewritten i k a (Written bytes ∷ parts) may none =
    let whole : IsOnlyCopied bytes = text-copied k i (Written bytes) may.0 in
    read-rewritten i k (fold with_unit a (units_of bytes)) parts may.1 none
    ∙ sym (fold-append with_unit a (units_of bytes) (units_of (rewritten k i parts)))
    ∙ ap (fold with_unit a) (sym (units-append bytes (rewritten k i parts) whole.whole))
read-rewritten i k a (Escape purpose name bytes ∷ parts) may none =
    let part : Part = Escape purpose name bytes in
    let others : List ℕ = rewritten (known_behind_part k part) i parts in
    let text : List ℕ = text_named k i purpose name in
    let whole : IsOnlyCopied text = text-copied k i part may.0 in
    read-rewritten i (known_behind_part k part) (fold with_unit (settled a) (units_of text)) parts may.1 none.1
    ∙ ap (λ (b : Arguments). fold with_unit (fold with_unit b (units_of text)) (units_of others)) (settled-none a.place a none.0)
    ∙ sym (fold-append with_unit a (units_of text) (units_of others))
    ∙ ap (fold with_unit a) (sym (units-append text others whole.whole))
read-rewritten i k a (Measured d measured ∷ parts) may none =
    let others : List ℕ = rewritten k i parts in
    let text : List ℕ = decimal (text_units measured) in
    let whole : IsOnlyCopied text = copied-width measured in
    read-rewritten i k (fold with_unit (settled a) (units_of text)) parts may.1 none.1
    ∙ ap (λ (b : Arguments). fold with_unit (fold with_unit b (units_of text)) (units_of others)) (settled-none a.place a none.0)
    ∙ sym (fold-append with_unit a (units_of text) (units_of others))
    ∙ ap (fold with_unit a) (sym (units-append text others whole.whole))

pub lines_are_read_as_rewritten : LinesAreReadAsRewritten
lines_are_read_as_rewritten k i parts may none = ap arguments_read (read-rewritten i k no_arguments parts may none)
