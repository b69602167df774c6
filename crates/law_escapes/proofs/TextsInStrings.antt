-- A line that sets a string enters what the parts of its text are copied to.
use Rattle.std.proofs.Common.{◌≡◌, ℕ, ◌+◌, ◌≤◌, Bool, true, false, List, [], ◌∷◌, ◌++◌, length, Some, refl, ap, sym, subst, ◌∙◌, arith, append_assoc, not, replicate, if◌then◌else◌, ◌==◌, append-nil, length-append}
use Rattle.std.proofs.lemmas.List.Elements.{All-append, All-cons, All-nil, All-replicate, All-weaker}
use Rattle.roff_num.specs.declared.limits.Limits.{Limits}
use Rattle.roff_num.specs.declared.short_name.ShortName.{ShortName}
use Rattle.roff_num.specs.ShortNames.{name_bytes}
use Rattle.input_model.specs.Arguments.{live_bytes, no_arguments}
use Rattle.input_source.specs.Bytes.{blank, newline, quote}
use Rattle.roff_store.specs.Named.{Named}
use Rattle.roff_store.specs.Texts.{Entry}
use Rattle.input_escapes.specs.EscapeLaws.{copied}
use Rattle.input_escapes.specs.OpenEscape.{unit_bytes}
use Rattle.input_model.specs.Input.{bytes_ahead, ends_ahead, lines_taken}
use Rattle.input_model.specs.Input.Names.{stored}
use Rattle.law_escapes.proofs.CopiedParts.{copied-behind, copied-part, part-of_line}
use Rattle.law_escapes.proofs.PartRuns.{NoPart, OnBytes, OnText, PartsPath, RoomFor, after-parts, behind_bytes-append, behind_bytes-charged, bytes_ahead-front, ends_ahead-front, knows-behind}
use Rattle.law_escapes.proofs.ReadTexts.{ByName, IsOfOneLine, More, charged}
use Rattle.law_escapes.proofs.TextsInCalls.{lines_taken-charged, no_newline-control, no_newline-name, paid}
use Rattle.law_escapes.proofs.Ways.{way}
use Rattle.law_escapes.specs.Parts.{AreParts, Escape, IsCopiedPart, MayHave, MayMeasure, MayRead, MayWrite, Part, Written, bytes_of, cost_of_texts, known_behind_part, registers_behind, rewritten}
use Rattle.law_escapes.specs.TextsInCalls.{HasRoomForTexts}
use Rattle.law_escapes.specs.TextsInStrings.{SetsTexts, StringsAreTheTextsRead, StringsOfTheSourceAreTheTextsRead}
use Rattle.law_reading.proofs.DefinedBytes.{IsCopied, NoUnit, OneUnit}
use Rattle.law_reading.proofs.Interpolation.{is_no_newline}
use Rattle.law_reading.proofs.LineNames.{Allows, ReadsName, onward, reads-name}
use Rattle.law_reading.proofs.StringLaws.{making-few, most_for, newline-sets, onward-text, path-blanks, path-name, path-unit, reads-request, set_from, setting, stays-front, turns-quote, word-itself}
use Rattle.law_reading.specs.CallLaws.{BeginsLine}
use Rattle.law_reading.specs.DefinitionLaws.{with_definition}
use Rattle.law_reading.specs.InterpolationLaws.{text_named}
use Rattle.law_reading.specs.StringLaws.{HasRoomForOne, IsOfWord, may_stand, string_line}
use Rattle.run_model.proofs.ItemsTaken.{FromAhead, FromSource, Origin, ahead_at, tape_at}
use Rattle.run_model.proofs.Leads.{after-add}
use Rattle.run_model.proofs.NameBytes.{stage}
use Rattle.run_model.proofs.PlainRuns.{HasRoom, HasRoom-start, Here, IsSmall, Most, Path, Path-append, after-Path, behind_byte, behind_bytes, behind_bytes-charge, behind_bytes-counts, counted-ahead, counted-source, is-run_at, run_at, step-taken}
use Rattle.run_model.specs.Reading.ControlLines.{BelongsToName}
use Rattle.run_model.specs.Reading.Items.{PageInput}
use Rattle.run_model.specs.Registers.{AllRegisters, Known}
use Rattle.run_model.specs.Run.{State, after, byte_taken, known}
use Rattle.run_model.specs.Stages.{Stage}
use Rattle.run_model.specs.Within.{IsWithin}
use Rattle.run_model.specs.declared.line_state.LineState.TheVariants.{LineStart, Collecting}
use Rattle.run_model.specs.declared.purpose.Purpose.TheVariants.{StringName, StringText}

-- bytes of the text are copied; behind the first of them nothing is in front any more
record ReadsBytes (names : Named Entry) (name : ShortName) (appends : Bool) (before : List (List ℕ)) (bound : ℕ) (quoted : Bool) (text line copy rest : List ℕ) : Type 0 where
  ends : Bool
  path : Path (most_for name before bound) names (setting name appends before (not quoted) text) line (setting name appends before (not ends) (text ++ copy))
  stands : may_stand ends rest ≡ true

reads-bytes : (names : Named Entry) (name : ShortName) (appends : Bool) (before : List (List ℕ)) (bound : ℕ) (quoted : Bool) (text line copy rest : List ℕ)
    → IsCopied line copy → may_stand quoted (copy ++ rest) ≡ true → length text + length copy ≤ bound → ReadsBytes names name appends before bound quoted text line copy rest
reads-bytes names name appends before bound quoted text _ _ rest NoUnit stands few =
    let here : Stage = setting name appends before (not quoted) text in
    record {
      ends = quoted;
      path = subst (λ (all : List ℕ). Path (most_for name before bound) names here [] (setting name appends before (not quoted) all)) (sym (append-nil text)) (Here here);
      stands = stands;
    }
reads-bytes names name appends before bound quoted text _ _ rest (OneUnit unit written line copy writes behind others) stands few =
    let bytes : List ℕ = unit_bytes unit in
    let more = reads-bytes names name appends before bound true (text ++ bytes) line copy rest others refl (omega (arith, few, length-append text bytes, length-append bytes copy)) in
    record {
      ends = more.ends;
      path =
          subst (λ (all : List ℕ). Path (most_for name before bound) names (setting name appends before (not quoted) text) (written ++ line) (setting name appends before (not more.ends) all))
          (append_assoc text bytes copy)
          (path-unit names name appends before bound (not quoted) text unit written line (setting name appends before (not more.ends) ((text ++ bytes) ++ copy)) writes behind
          (stays-front quoted unit (copy ++ rest) (subst (λ (all : List ℕ). may_stand quoted all ≡ true) (append_assoc bytes copy rest) stands))
          (omega (arith, few)) (omega (arith, few, length-append text bytes, length-append bytes copy)) more.path);
      stands = more.stands;
    }

-- the parts of the text are copied
record ReadsTexts (j : PageInput) (names : Named Entry) (name : ShortName) (appends : Bool) (before : List (List ℕ)) (bound : ℕ) (k : Known) (quoted : Bool) (text : List ℕ) (parts : List Part) : Type 0 where
  ends : Bool
  path : PartsPath j (most_for name before bound) names k (setting name appends before (not quoted) text) parts (setting name appends before (not ends) (text ++ copied (rewritten k j parts)))

-- by the first of them
reads-part : (k : Known) (j : PageInput) (names : Named Entry) (name : ShortName) (appends : Bool) (before : List (List ℕ)) (bound : ℕ) (quoted : Bool) (text : List ℕ) (part : Part) (parts : List Part)
    → MayHave false IsCopiedPart k j part → may_stand quoted (copied (rewritten k j (part ∷ parts))) ≡ true → length text + length (copied (rewritten k j (part ∷ parts))) ≤ bound
    → (let k1 : Known = known_behind_part k part in
    (q : Bool) (t : List ℕ) → may_stand q (copied (rewritten k1 j parts)) ≡ true → length t + length (copied (rewritten k1 j parts)) ≤ bound
    → ReadsTexts j names name appends before bound k1 q t parts)
    → ReadsTexts j names name appends before bound k quoted text (part ∷ parts)
reads-part k j names name appends before bound quoted text _ parts (MayWrite bytes is) stands few reads =
    let copy : List ℕ = copied bytes in
    let others : List ℕ = copied (rewritten k j parts) in
    let same : copied (bytes ++ rewritten k j parts) ≡ copy ++ others = copied-behind bytes (rewritten k j parts) is in
    let sizes : length (copied (bytes ++ rewritten k j parts)) ≡ length copy + length others = ap length same ∙ length-append copy others in
    let one =
    reads-bytes names name appends before bound quoted text bytes copy others (copied-part bytes is)
    (subst (λ (all : List ℕ). may_stand quoted all ≡ true) same stands) (omega (arith, few, sizes)) in
    let more = reads one.ends (text ++ copy) one.stands (omega (arith, few, sizes, length-append text copy)) in
    record {
      ends = more.ends;
      path =
          subst (λ (all : List ℕ). PartsPath j (most_for name before bound) names k (setting name appends before (not quoted) text) (Written bytes ∷ parts) (setting name appends before (not more.ends) all))
          (append_assoc text copy others ∙ ap (λ (rest : List ℕ). text ++ rest) (sym same))
          (OnBytes k (setting name appends before (not quoted) text) (setting name appends before (not one.ends) (text ++ copy)) (setting name appends before (not more.ends) ((text ++ copy) ++ others)) bytes parts
          (part-of_line bytes is)
          (way (most_for name before bound) names (setting name appends before (not quoted) text) (setting name appends before (not one.ends) (text ++ copy)) bytes one.path) more.path);
    }
reads-part k j names name appends before bound quoted text _ parts (MayRead purpose escape bytes is_escape quiet is) stands few reads =
    let part : Part = Escape purpose escape bytes in
    let own : List ℕ = text_named k j purpose escape in
    let behind : List ℕ = rewritten (known_behind_part k part) j parts in
    let copy : List ℕ = copied own in
    let others : List ℕ = copied behind in
    let same : copied (own ++ behind) ≡ copy ++ others = copied-behind own behind is in
    let sizes : length (copied (own ++ behind)) ≡ length copy + length others = ap length same ∙ length-append copy others in
    let one =
    reads-bytes names name appends before bound quoted text own copy others (copied-part own is)
    (subst (λ (all : List ℕ). may_stand quoted all ≡ true) same stands) (omega (arith, few, sizes)) in
    let more = reads one.ends (text ++ copy) one.stands (omega (arith, few, sizes, length-append text copy)) in
    record {
      ends = more.ends;
      path =
          subst (λ (all : List ℕ). PartsPath j (most_for name before bound) names k (setting name appends before (not quoted) text) (part ∷ parts) (setting name appends before (not more.ends) all))
          (append_assoc text copy others ∙ ap (λ (rest : List ℕ). text ++ rest) (sym same))
          (OnText k (Collecting (StringText (Some name) appends (not quoted))) (Collecting (StringText (Some name) appends (not one.ends))) no_arguments no_arguments (before ++ text ∷ []) (before ++ (text ++ copy) ∷ [])
          (setting name appends before (not more.ends) ((text ++ copy) ++ others)) part parts refl (ByName purpose escape bytes refl is_escape quiet)
          (way (most_for name before bound) names (setting name appends before (not quoted) text) (setting name appends before (not one.ends) (text ++ copy)) own one.path) more.path);
    }
reads-part k j names name appends before bound quoted text _ parts (MayMeasure d measured measures may plain) stands few reads = absurd (cc)

reads-parts : (j : PageInput) (names : Named Entry) (name : ShortName) (appends : Bool) (before : List (List ℕ)) (bound : ℕ) (k : Known) (quoted : Bool) (text : List ℕ) (parts : List Part)
    → AreParts false IsCopiedPart k j parts → may_stand quoted (copied (rewritten k j parts)) ≡ true → length text + length (copied (rewritten k j parts)) ≤ bound
    → ReadsTexts j names name appends before bound k quoted text parts
reads-parts j names name appends before bound k quoted text [] may stands few =
    let here : Stage = setting name appends before (not quoted) text in
    record {
      ends = quoted;
      path =
          subst (λ (all : List ℕ). PartsPath j (most_for name before bound) names k here [] (setting name appends before (not quoted) all)) (sym (append-nil text)) (NoPart k here);
    }
reads-parts j names name appends before bound k quoted text (part ∷ parts) may stands few =
    reads-part k j names name appends before bound quoted text part parts may.0 stands few
    (λ q t. reads-parts j names name appends before bound (known_behind_part k part) q t parts may.1)

-- the bytes in front of the text: up to the blanks behind the string's name, and a quote
abbrev up_to_blanks : ℕ → ShortName → ShortName → ℕ → List ℕ
up_to_blanks control request name blanks = (control ∷ name_bytes request) ++ ((blank ∷ name_bytes name) ++ (blank ∷ replicate blanks blank))

abbrev quote_if : Bool → List ℕ
quote_if quoted = if quoted then quote ∷ [] else []

behind-quote : (quoted : Bool) (text : List ℕ) → (if quoted then quote ∷ text else text) ≡ quote_if quoted ++ text
behind-quote true text = refl
behind-quote false text = refl

quote-of_line : (quoted : Bool) → IsOfOneLine (quote_if quoted)
quote-of_line true = All-cons (λ b. (b == newline) ≡ false) quote [] refl (All-nil (λ b. (b == newline) ≡ false))
quote-of_line false = All-nil (λ b. (b == newline) ≡ false)

front-of_line : (names : Named Entry) (control : ℕ) (request : ShortName) (appends : Bool) (name : ShortName) (blanks : ℕ) (quoted : Bool) (k : Known) (i : PageInput) (parts : List Part)
    → SetsTexts names control request appends name quoted k i parts → IsOfOneLine (up_to_blanks control request name blanks ++ quote_if quoted)
front-of_line names control request appends name blanks quoted k i parts sets =
    let NoNewline : ℕ → Type 0 = λ b. (b == newline) ≡ false in
    All-append NoNewline (up_to_blanks control request name blanks) (quote_if quoted)
    (All-append NoNewline (control ∷ name_bytes request) ((blank ∷ name_bytes name) ++ (blank ∷ replicate blanks blank))
    (All-cons NoNewline control (name_bytes request) (no_newline-control control sets.begins)
    (All-weaker BelongsToName NoNewline no_newline-name (name_bytes request) sets.is_name_of_request))
    (All-append NoNewline (blank ∷ name_bytes name) (blank ∷ replicate blanks blank)
    (All-cons NoNewline blank (name_bytes name) refl (All-weaker IsOfWord NoNewline (λ b of_word. is_no_newline b (word-itself b of_word)) (name_bytes name) sets.is_name))
    (All-cons NoNewline blank (replicate blanks blank) refl (All-replicate NoNewline blanks blank refl))))
    (quote-of_line quoted)

path-quote : (names : Named Entry) (name : ShortName) (appends : Bool) (before : List (List ℕ)) (bound : ℕ) (quoted : Bool)
    → Path (most_for name before bound) names (setting name appends before true []) (quote_if quoted) (setting name appends before (not quoted) [])
path-quote names name appends before bound true =
    onward-text names name appends before bound true false [] [] quote [] (setting name appends before false []) (omega arith) (turns-quote names name appends before)
    (Here (setting name appends before false []))
path-quote names name appends before bound false = Here (setting name appends before true [])

path-front : (names : Named Entry) (control : ℕ) (request : ShortName) (appends : Bool) (name : ShortName) (blanks : ℕ) (quoted : Bool) (k : Known) (i : PageInput) (parts : List Part)
    (before : List (List ℕ)) (bound : ℕ) → SetsTexts names control request appends name quoted k i parts
    → Path (most_for name before bound) names (stage LineStart no_arguments before) (up_to_blanks control request name blanks ++ quote_if quoted) (setting name appends before (not quoted) [])
path-front names control request appends name blanks quoted k i parts before bound sets =
    let most : Most = most_for name before bound in
    let behind_name : List ℕ = (blank ∷ name_bytes name) ++ (blank ∷ replicate blanks blank) in
    let start : Stage = stage LineStart no_arguments before in
    let mid : Stage = setting name appends before true [] in
    let allows : Allows most no_arguments before = record { held_few = omega arith; stored_few = omega arith; texts_few = omega arith } in
    let reads : ReadsName most names no_arguments before (control ∷ name_bytes request) (Collecting (StringName appends)) =
    reads-name most names no_arguments before control request (Collecting (StringName appends)) sets.begins sets.is_name_of_request allows
    (reads-request names request appends sets.of_request sets.stands_for sets.reads_string) in
    let named : Stage = stage reads.reading no_arguments before in
    let path_named : Path most names named behind_name mid =
    onward most names no_arguments before reads.reading (Collecting (StringName appends)) blank (name_bytes name ++ blank ∷ replicate blanks blank) mid reads.does.none_due
    (λ k i. reads.does.at_blank k named i) allows
    (path-name names appends before bound name.first name.second (replicate blanks blank) mid sets.is_name (path-blanks names name appends before bound blanks)) in
    Path-append most names start mid (setting name appends before (not quoted) []) (up_to_blanks control request name blanks) (quote_if quoted)
    (Path-append most names start named mid (control ∷ name_bytes request) behind_name reads.path path_named) (path-quote names name appends before bound quoted)

-- the whole line
set-with-texts : (l : Limits) (s : State) (from : Origin) (control : ℕ) (request : ShortName) (appends : Bool) (name : ShortName) (blanks : ℕ) (quoted : Bool) (parts : List Part)
    → BeginsLine s → SetsTexts s.input.names control request appends name quoted (known s) s.input parts
    → let line : List ℕ = string_line control request name blanks quoted (bytes_of parts) in
    let read : List ℕ = rewritten (known s) s.input parts in
    let cost : ℕ = cost_of_texts (known s) s.input parts in
    let set : State = set_from (paid s (registers_behind s.registers parts) cost) from line name appends (copied read) in
    s.input.ahead ≡ ahead_at from line → s.tape ≡ tape_at from line s.tape → stored s.input + length (copied read) ≤ l.store → HasRoomForOne l s name → HasRoomForTexts l s read
    → IsWithin l s → IsWithin l set → after l (length line + cost) s ≡ set
set-with-texts l s from control request appends name blanks quoted parts begins sets ahead tape stored_few one_more has_room within within_set =
    let k : Known = known s in
    let j : PageInput = s.input in
    let names : Named Entry = s.input.names in
    let before : List (List ℕ) = s.input.open_texts in
    let front0 : List ℕ = up_to_blanks control request name blanks in
    let front : List ℕ = front0 ++ quote_if quoted in
    let bytes : List ℕ = bytes_of parts in
    let last : List ℕ = bytes ++ newline ∷ [] in
    let line : List ℕ = string_line control request name blanks quoted bytes in
    let cost : ℕ = cost_of_texts k j parts in
    let read : List ℕ = rewritten k j parts in
    let text : List ℕ = copied read in
    let bound : ℕ = length text in
    let v : State = paid s (registers_behind s.registers parts) cost in
    let set : State = set_from v from line name appends text in
    let most : Most = most_for name before bound in
    let start : Stage = stage LineStart no_arguments before in
    let mid : Stage = setting name appends before (not quoted) [] in
    let same : line ≡ front ++ last =
    ap (λ (behind : List ℕ). (front0 ++ behind) ++ newline ∷ []) (behind-quote quoted bytes)
    ∙ ap (λ (all : List ℕ). all ++ newline ∷ []) (sym (append_assoc front0 (quote_if quoted) bytes))
    ∙ append_assoc front bytes (newline ∷ []) in
    let is : run_at s names start from (front ++ last) s.input ≡ s =
    is-run_at s from (front ++ last) start begins.reading begins.escapes begins.arguments refl (ahead ∙ ap (ahead_at from) same) (tape ∙ ap (λ (all : List ℕ). tape_at from all s.tape) same) in
    let charge : s.input.charge + cost + length line ≤ l.bytes = omega (arith, within_set.bytes, behind_bytes-charge from line (charged cost s.input)) in
    let sizes : length line ≡ length front + length last = ap length same ∙ length-append front last in
    let stands : bytes_ahead s.input.ahead ≡ bytes_ahead (ahead_at from (front ++ last)) = ap bytes_ahead (ahead ∙ ap (ahead_at from) same) in
    let room_start : HasRoom l s names from most start (front ++ last) s.input =
    HasRoom-start l s names from most start (front ++ last) s.input (subst (IsWithin l) (sym is) within)
    (omega (arith, charge, ap length same)) (omega (arith, one_more.named)) (omega (arith, stored_few)) (omega (arith, one_more.making)) in
    let i1 : PageInput = behind_bytes from front s.input in
    let one =
    after-Path l s names from most start mid front last s.input begins.takes (path-front names control request appends name blanks quoted k j parts before bound sets) room_start in
    let reads = reads-parts j names name appends before bound k quoted [] parts sets.parts sets.stands (omega arith) in
    let end : Stage = setting name appends before (not reads.ends) text in
    let room : RoomFor l s names from most mid (length read + 0) (cost + 0) last i1 = record {
      room = one.1;
      charged_all = omega (arith, charge, sizes, behind_bytes-charge from front s.input);
      stack =
          omega (arith, has_room.beside, stands, bytes_ahead-front from front last, ap (λ (m : PageInput). live_bytes m.calls) (behind_bytes-counts from front s.input));
      deep = omega (arith, has_room.deep, ap ends_ahead (ahead ∙ ap (ahead_at from) same), ends_ahead-front from front last);
    } in
    let small : IsSmall most mid =
    record { none_half = refl; held_few = omega arith; stored_few = making-few before [] bound (omega arith); texts_few = omega (arith, length-append before ([] ∷ [])) } in
    let behind =
    after-parts l j most names s from k begins.takes refl mid end parts (newline ∷ []) 0 0 i1 (More newline []) reads.path small
    (knows-behind s k j from front s.input (front-of_line names control request appends name blanks quoted k j parts sets) (record { is_known = refl; calls = refl })) room in
    let i2 : PageInput = charged cost (behind_bytes from bytes i1) in
    let counts : i2 ≡ behind_bytes from (front ++ bytes) (charged cost s.input) =
    ap (charged cost) (behind_bytes-append from front bytes s.input) ∙ sym (behind_bytes-charged from (front ++ bytes) cost s.input) in
    let taken : byte_taken newline (run_at v names end from [] (behind_byte from newline i2)) ≡ set =
    ap (λ (m : PageInput). byte_taken newline (run_at v names end from [] (behind_byte from newline m))) counts
    ∙ newline-sets v from (front ++ bytes) name appends (not reads.ends) text
    (record {
      takes = record { going = begins.takes.going; is_open = begins.takes.is_open; idle = begins.takes.idle; unsprung = begins.takes.unsprung; none_due = begins.takes.none_due };
      reading = begins.reading;
      escapes = begins.escapes;
      arguments = begins.arguments;
    })
    ∙ ap (λ (all : List ℕ). set_from v from all name appends text) (append_assoc front bytes (newline ∷ []) ∙ sym same) in
    let sum : length line + cost ≡ length front + ((length bytes + cost) + 1) = omega (arith, sizes, length-append bytes (newline ∷ [])) in
    ap (λ (n : ℕ). after l n s) sum
    ∙ after-add l (length front) ((length bytes + cost) + 1) s
    ∙ ap (after l ((length bytes + cost) + 1)) (ap (after l (length front)) (sym is) ∙ one.0)
    ∙ after-add l (length bytes + cost) 1 (run_at s names mid from last i1)
    ∙ ap (after l 1) behind.leads
    ∙ step-taken l (record s { registers = registers_behind s.registers parts }) names from end newline [] i2 set
    (record { going = begins.takes.going; is_open = begins.takes.is_open; idle = begins.takes.idle; unsprung = begins.takes.unsprung; none_due = begins.takes.none_due }) refl refl (omega (arith, behind.room.charged_all)) taken within_set

pub strings_are_the_texts_read : StringsAreTheTextsRead
strings_are_the_texts_read l s control request appends name blanks quoted parts rest begins sets ahead stored_few one room within within_set =
    let line : List ℕ = string_line control request name blanks quoted (bytes_of parts) in
    let cost : ℕ = cost_of_texts (known s) s.input parts in
    let text : List ℕ = copied (rewritten (known s) s.input parts) in
    let registers : AllRegisters = registers_behind s.registers parts in
    let of : PageInput → State = λ i. record s { registers = registers; input = with_definition name appends text s.input.open_texts i } in
    let sum : s.input.charge + cost + length line ≡ s.input.charge + (length line + cost) = omega arith in
    let is : set_from (paid s registers cost) (FromAhead rest) line name appends text ≡ of (record s.input { ahead = rest; charge = s.input.charge + (length line + cost) }) =
    ap of (counted-ahead rest line (charged cost s.input)) ∙ ap (λ (n : ℕ). of (record s.input { ahead = rest; charge = n })) sum in
    set-with-texts l s (FromAhead rest) control request appends name blanks quoted parts begins sets ahead refl stored_few one room within (subst (IsWithin l) (sym is) within_set) ∙ is

pub strings_of_the_source_are_the_texts_read : StringsOfTheSourceAreTheTextsRead
strings_of_the_source_are_the_texts_read l s control request appends name blanks quoted parts tape begins sets none stands stored_few one room within within_set =
    let line : List ℕ = string_line control request name blanks quoted (bytes_of parts) in
    let cost : ℕ = cost_of_texts (known s) s.input parts in
    let text : List ℕ = copied (rewritten (known s) s.input parts) in
    let registers : AllRegisters = registers_behind s.registers parts in
    let of : PageInput → State = λ i. record s { tape = tape; registers = registers; input = with_definition name appends text s.input.open_texts i } in
    let is : set_from (paid s registers cost) (FromSource tape) line name appends text ≡ of (record (lines_taken line s.input) { charge = s.input.charge + (length line + cost) }) =
    ap of (counted-source tape line (charged cost s.input) none ∙ lines_taken-charged line cost s.input) in
    set-with-texts l s (FromSource tape) control request appends name blanks quoted parts begins sets none stands stored_few one room within (subst (IsWithin l) (sym is) within_set) ∙ is
