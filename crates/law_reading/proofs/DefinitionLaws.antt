-- The lines of definitions are copied, one after another, and enter their names as they are.
use Rattle.std.proofs.Common.{◌≡◌, ℕ, ◌+◌, ◌-◌, ◌≤◌, Bool, List, ◌∷◌, ◌++◌, length, Option, Some, None, refl, ap, sym, subst, ◌∙◌, arith, [], true, false, append_assoc, remove, sum_by, if◌then◌else◌, All, IsTrue, ◌&&◌, ◌||◌, not, ◌==◌, append-nil, length-append, eqb-true}
use Rattle.std.proofs.Math.Seq.{drop-length, get_or-append_seam}
use Rattle.std.proofs.lemmas.List.Edits.{remove-append_right}
use Rattle.std.proofs.lemmas.List.Sums.{sum_by-append, sum_by-cons}
use Rattle.roff_num.specs.declared.limits.Limits.{Limits}
use Rattle.input_model.specs.Arguments.{Arguments, held}
use Rattle.input_source.specs.Bytes.{newline, backslash, dot, is_dropped, tab}
use Rattle.input_escapes.specs.OpenEscape.{OpenEscape, Backslash, unit_bytes}
use Rattle.input_model.specs.Input.{lines_taken}
use Rattle.input_model.specs.Input.Names.{body_named, calling_on, stored}
use Rattle.input_escapes.specs.declared.open_escape.CopyUnit.TheVariants.{Byte, Kept}
use Rattle.roff_store.specs.Named.{Named, with_entry}
use Rattle.roff_store.specs.TextCalls.{Enter}
use Rattle.roff_store.specs.Texts.{Body, Entry}
use Rattle.run_model.proofs.ItemsTaken.{FromAhead, FromSource, Origin, ahead_at, tape_at, not-first, not-second}
use Rattle.run_model.proofs.PlainRuns.{HasRoom, HasRoom-start, Most, Path, after-last, behind_byte, behind_bytes, counted, counted-ahead, counted-last, counted-source, is-run_at, run_at, Here}
use Rattle.law_reading.specs.DefinitionLaws.{AreItsLines, BeginsDefinition, DefinitionsEnterTheirLines, DefinitionsOfTheSourceEnterTheirLines, IgnoredLinesEnterNothing, IgnoredLinesOfTheSourceEnterNothing, LinesBeginBehindTwoDots, behind_end, bytes_of_lines, definition_bytes, text_of_lines, with_definition, IsTextLine, IsOfLine}
use Rattle.run_model.specs.Definitions.{end_mark, front_of, line_from, line_with, matched_behind}
use Rattle.run_model.specs.Within.{IsWithin}
use Rattle.run_model.specs.Output.{PageHistory}
use Rattle.run_model.specs.Reading.{byte_taking}
use Rattle.run_model.specs.Reading.DefinedLines.{behind_definition, definition_unit}
use Rattle.run_model.specs.Reading.Items.{PageInput, Taking}
use Rattle.run_model.specs.Reading.Strings.{string_entered}
use Rattle.run_model.specs.Registers.{AllRegisters, Known}
use Rattle.run_model.specs.Run.{State, after, byte_taken, known, known_at, taken_as}
use Rattle.roff_num.specs.ShortNames.{name_bytes}
use Rattle.run_model.specs.Stages.{Stage, input_at}
use Rattle.run_model.specs.declared.definition.DefinitionLine.TheVariants.{IsLast}
use Rattle.run_model.specs.declared.line_state.LineState.TheVariants.{Collecting}
use Rattle.run_model.specs.declared.purpose.Purpose.TheVariants.{Defining}
use Rattle.roff_num.specs.declared.short_name.ShortName.{ShortName}
use Rattle.law_reading.proofs.DefinedBytes.{Allows, Definition, defining, making, newest-last, reads-unit, AsItself, Escaped, IsCopied, NoUnit, OneUnit, no_newline, onward-mark, path-line}
use Rattle.std.proofs.lemmas.Bool.{eqb-false}
use Rattle.std.proofs.lemmas.List.Elements.{All-head, All-tail}
use Rattle.input_escapes.proofs.Copying.{taken-copied}
use Rattle.input_escapes.specs.EscapeLaws.{begins_reading, copied, copied_escape, is_only_copied}
use Rattle.input_escapes.specs.OpenEscapes.{byte_read, unit_taken}
use Rattle.input_escapes.specs.declared.open_escape.CopyUnit.{CopyUnit}
use Rattle.input_escapes.specs.declared.open_escape.Found.TheVariants.{GoesOn, Unit as GivesUnit}
use Rattle.input_escapes.specs.declared.open_escape.Surroundings.TheVariants.{Copy as AboveCopy}
use Rattle.law_reading.specs.ConditionLaws.{is_whole}
use Rattle.law_reading.specs.InterpolationLaws.{StandsForItself}

-- the unit that the byte behind a backslash gives
abbrev escape_unit : Bool → Bool → Bool → ℕ → CopyUnit
escape_unit is_backslash is_dot is_tab b = if is_backslash then Byte backslash else if is_dot then Byte dot else if is_tab then Byte tab else Kept b

reads-escape_unit : (is_newline is_backslash is_dot is_tab : Bool) (b : ℕ) → is_newline ≡ false
    → (if is_newline then (GoesOn, []) else if is_backslash then unit_taken [] (Byte backslash) else if is_dot then unit_taken [] (Byte dot) else if is_tab then unit_taken [] (Byte tab) else unit_taken [] (Kept b))
    ≡ (GivesUnit (escape_unit is_backslash is_dot is_tab b), [])
reads-escape_unit true is_backslash is_dot is_tab b is = absurd (cc)
reads-escape_unit false true is_dot is_tab b is = refl
reads-escape_unit false false true is_tab b is = refl
reads-escape_unit false false false true b is = refl
reads-escape_unit false false false false b is = refl

bytes-escape_unit : (is_newline is_backslash is_dot is_tab : Bool) (b : ℕ) → is_newline ≡ false
    → unit_bytes (escape_unit is_backslash is_dot is_tab b)
    ≡ (if is_newline then [] else if is_backslash then backslash ∷ [] else if is_dot then dot ∷ [] else if is_tab then tab ∷ [] else backslash ∷ b ∷ [])
bytes-escape_unit true is_backslash is_dot is_tab b is = absurd (cc)
bytes-escape_unit false true is_dot is_tab b is = refl
bytes-escape_unit false false true is_tab b is = refl
bytes-escape_unit false false false true b is = refl
bytes-escape_unit false false false false b is = refl

behind-escape_unit : (is_backslash is_dot is_tab : Bool) (b : ℕ) → matched_behind (escape_unit is_backslash is_dot is_tab b) ≡ None
behind-escape_unit true is_dot is_tab b = refl
behind-escape_unit false true is_tab b = refl
behind-escape_unit false false true b = refl
behind-escape_unit false false false b = refl

-- a byte of a line that is no backslash stands for itself
stands-itself : (is_backslash is_else : Bool) → is_backslash ≡ false → IsTrue (not is_else) → IsTrue (not (is_backslash || is_else))
stands-itself true is_else is none = absurd (cc)
stands-itself false is_else is none = none

-- a line of a definition's text is copied
both_hold : (a b : Bool) → (a && b) ≡ true → (a ≡ true) × (b ≡ true)
both_hold true b both = (refl, both)
both_hold false b both = absurd (cc)

not-true : (c : Bool) → not c ≡ true → c ≡ false
not-true true is = absurd (cc)
not-true false is = refl

copied-itself : (b : ℕ) (line copy : List ℕ) → IsOfLine b → (b == backslash) ≡ false → IsCopied line copy → IsCopied (b ∷ line) (b ∷ copy)
copied-itself b line copy of_line plain others =
    let itself : StandsForItself b = stands-itself (b == backslash) (is_dropped b || b == newline) plain of_line in
    OneUnit (Byte b) (b ∷ []) line copy (AsItself b itself) (ap (λ (c : Bool). if c then Some 0 else None) (no_newline b itself)) others

copied-two : (is : Bool) (b c : ℕ) (line : List ℕ) → (b == backslash) ≡ is → IsOfLine b → IsOfLine c
    → (if is then not (begins_reading c) && is_only_copied line else is_only_copied (c ∷ line)) ≡ true → (if is then is_whole line else is_whole (c ∷ line)) ≡ true
    → (is_only_copied line ≡ true → is_whole line ≡ true → IsCopied line (copied line))
    → (is_only_copied (c ∷ line) ≡ true → is_whole (c ∷ line) ≡ true → IsCopied (c ∷ line) (copied (c ∷ line)))
    → IsCopied (b ∷ c ∷ line) (if is then copied_escape c ++ copied line else b ∷ copied (c ∷ line))
copied-two true b c line is of_line of_line_too only whole behind behind_plain =
    let both = both_hold (not (begins_reading c)) (is_only_copied line) only in
    let none : (c == newline) ≡ false = not-second (is_dropped c) (c == newline) of_line_too in
    let unit : CopyUnit = escape_unit (c == backslash) (c == dot) (c == 116) c in
    let reads : byte_read AboveCopy (Backslash ∷ []) c ≡ (GivesUnit unit, []) =
    taken-copied AboveCopy c refl (not-true (begins_reading c) both.0) ∙ reads-escape_unit (c == newline) (c == backslash) (c == dot) (c == 116) c none in
    let all : IsCopied (backslash ∷ c ∷ line) (unit_bytes unit ++ copied line) =
    OneUnit unit (backslash ∷ c ∷ []) line (copied line) (Escaped unit c (not-first (is_dropped c) (c == newline) of_line_too) reads)
    (behind-escape_unit (c == backslash) (c == dot) (c == 116) c) (behind both.1 whole) in
    subst (λ (e : ℕ). IsCopied (e ∷ c ∷ line) (copied_escape c ++ copied line)) (sym (eqb-true b backslash is))
    (subst (λ (bytes : List ℕ). IsCopied (backslash ∷ c ∷ line) (bytes ++ copied line)) (bytes-escape_unit (c == newline) (c == backslash) (c == dot) (c == 116) c none) all)
copied-two false b c line is of_line of_line_too only whole behind behind_plain =
    copied-itself b (c ∷ line) (copied (c ∷ line)) of_line is (behind_plain only whole)

pub copied-line : (line : List ℕ) → All IsOfLine line → is_only_copied line ≡ true → is_whole line ≡ true → IsCopied line (copied line)
copied-line [] bytes only whole = NoUnit
copied-line (b ∷ []) bytes only whole = copied-itself b [] [] (All-head IsOfLine b [] bytes) (not-true (b == backslash) whole) NoUnit
copied-line (b ∷ c ∷ line) bytes only whole =
    let others : All IsOfLine (c ∷ line) = All-tail IsOfLine b (c ∷ line) bytes in
    copied-two (b == backslash) b c line refl (All-head IsOfLine b (c ∷ line) bytes) (All-head IsOfLine c line others) only whole
    (copied-line line (All-tail IsOfLine c line others)) (copied-line (c ∷ line) others)

-- all its lines
pub path-lines : (most : Most) (names : Named Entry) (d : Definition) (a : Arguments) (bound : ℕ) (text : List ℕ) (lines : List (List ℕ)) (more : List ℕ) (r : Stage)
    → Allows most d a bound → All StandsForItself (end_mark d.end) → All (IsTextLine d.end) lines → length text + length (text_of_lines lines) ≤ bound
    → Path most names (defining d a (text ++ text_of_lines lines) (Some 0)) more r
    → Path most names (defining d a text (Some 0)) (bytes_of_lines lines ++ more) r
path-lines most names d a bound text [] more r allows mark texts small path =
    subst (λ (all : List ℕ). Path most names (defining d a all (Some 0)) more r) (append-nil text) path
path-lines most names d a bound text (line ∷ lines) more r allows mark texts small path =
    let first : IsTextLine d.end line = All-head (IsTextLine d.end) line lines texts in
    let copy : List ℕ = copied line in
    let whole : List ℕ = copy ++ newline ∷ [] in
    let others : List ℕ = text_of_lines lines in
    let sizes : length (whole ++ others) ≡ length copy + 1 + length others = omega (arith, length-append whole others, length-append copy (newline ∷ [])) in
    subst (λ (bytes : List ℕ). Path most names (defining d a text (Some 0)) bytes r) (sym (append_assoc (line ++ newline ∷ []) (bytes_of_lines lines) more))
    (path-line most names d a bound text [] (end_mark d.end) line copy (bytes_of_lines lines ++ more) r allows mark (copied-line line first.bytes first.only_copied first.whole)
    (omega (arith, small, sizes)) refl first.goes_on
    (path-lines most names d a bound (text ++ whole) lines more r allows mark (All-tail (IsTextLine d.end) line lines texts)
    (omega (arith, small, sizes, length-append text whole, length-append copy (newline ∷ [])))
    (subst (λ (all : List ℕ). Path most names (defining d a all (Some 0)) more r) (sym (append_assoc text whole others)) path)))

-- and the mark in front of the line that ends it
same_byte : (c : ℕ) (is : Bool) → (c == c) ≡ is → is ≡ true
same_byte c true is = refl
same_byte c false is = absurd (eqb-false c c is refl)

pub path-mark : (most : Most) (names : Named Entry) (d : Definition) (a : Arguments) (bound : ℕ) (text done todo : List ℕ)
    → Allows most d a bound → length text ≤ bound → All StandsForItself todo → end_mark d.end ≡ done ++ todo
    → Path most names (defining d a text (Some (length done))) todo (defining d a text (Some (length (end_mark d.end))))
path-mark most names d a bound text done [] allows small mark is =
    subst (λ (all : List ℕ). Path most names (defining d a text (Some (length done))) [] (defining d a text (Some (length all)))) (sym (is ∙ append-nil done))
    (Here (defining d a text (Some (length done))))
path-mark most names d a bound text done (c ∷ todo) allows small mark is =
    let end : Stage = defining d a text (Some (length (end_mark d.end))) in
    let next : List ℕ = done ++ c ∷ [] in
    let as_long : length next ≡ length done + 1 = omega (arith, length-append done (c ∷ [])) in
    onward-mark most names d a bound text done todo c c (c ∷ []) todo end allows (AsItself c (All-head StandsForItself c todo mark)) small is (same_byte c (c == c) refl)
    (subst (λ (m : ℕ). Path most names (defining d a text (Some m)) todo end) as_long
    (path-mark most names d a bound text next todo allows small (All-tail StandsForItself c todo mark) (is ∙ sym (append_assoc done (c ∷ []) todo))))

-- the text enters its name, if it has one
abbrev pub entered_by : Option ShortName → Bool → List ℕ → List (List ℕ) → PageInput → PageInput
entered_by None appends text before i = i
entered_by (Some name) appends text before i = with_definition name appends text before i

pub remove-last : (before : List (List ℕ)) (text : List ℕ) → remove (before ++ text ∷ []) (length before) ≡ before
remove-last before text =
    let none : length before - length before ≡ 0 = omega arith in
    remove-append_right before (text ∷ []) (length before) (length before) refl (omega arith)
    ∙ ap (λ (n : ℕ). before ++ remove (text ∷ []) n) none
    ∙ append-nil before

pub entered-by : (name : Option ShortName) (appends : Bool) (before others : List (List ℕ)) (text : List ℕ) (i : PageInput)
    → string_entered name appends (record i { open_texts = making name before others text }) ≡ entered_by name appends text before (record i { open_texts = others })
entered-by None appends before others text i = refl
entered-by (Some name) appends before others text i =
    let texts : List (List ℕ) = before ++ text ∷ [] in
    let front : List ℕ = if appends then body_named (name_bytes name) i else [] in
    let of : List ℕ → List (List ℕ) → PageInput = λ own left.
    record i { names = with_entry (name_bytes name) (Body (front ++ own)) i.names; open_texts = left } in
    ap (λ (id : Option ℕ). calling_on (λ n. Enter n (name_bytes name) appends) id (record i { open_texts = texts })) (newest-last before text)
    ∙ ap (λ (own : List ℕ). of own (remove texts (length before))) (get_or-append_seam before text [] [])
    ∙ ap (of text) (remove-last before text)

-- the newline behind the mark ends the definition
line_from-newline : (mark : List ℕ) → line_from mark (Some (length mark)) (Byte newline) ≡ IsLast newline
line_from-newline mark = ap (λ (rest : List ℕ). line_with rest (length mark) (newline ∷ [])) (drop-length mark)

ends-line : (names : Named Entry) (d : Definition) (a : Arguments) (text : List ℕ) (k : Known) (i : PageInput)
    → let n : ℕ = length (end_mark d.end) in
    byte_taking k (Collecting (Defining d.name d.appends d.end (Some n))) (input_at names (defining d a text (Some n)) i) newline
    ≡ behind_definition k (entered_by d.name d.appends text d.before (record i { escapes = []; arguments = a; names = names; open_texts = d.others })) d.end newline
ends-line names d a text k i =
    let n : ℕ = length (end_mark d.end) in
    let here : PageInput = input_at names (defining d a text (Some n)) i in
    reads-unit names d a text (Some n) [] (Byte newline) newline k i refl refl
    ∙ ap (definition_unit k here d.name d.appends d.end (front_of (end_mark d.end) (Some n)) (Byte newline)) (line_from-newline (end_mark d.end))
    ∙ ap (λ (j : PageInput). behind_definition k j d.end newline) (entered-by d.name d.appends d.before d.others text here)

-- a run behind the line that ends a definition
abbrev pub defined_from : State → Origin → List ℕ → Definition → List ℕ → State
defined_from s from bytes d text =
    behind_end d.end (record s { tape = tape_at from [] s.tape; input = entered_by d.name d.appends text d.before (counted from bytes s.input) })

-- what is known is known there too
known-entered_by : (h : PageHistory) (registers : AllRegisters) (name : Option ShortName) (appends : Bool) (text : List ℕ) (before : List (List ℕ)) (i : PageInput)
    → known_at h registers (entered_by name appends text before i) ≡ known_at h registers i
known-entered_by h registers None appends text before i = refl
known-entered_by h registers (Some name) appends text before i = refl

pub newline-ends : (s : State) (from : Origin) (front : List ℕ) (d : Definition) (text : List ℕ) → s.input.escapes ≡ [] → d.others ≡ s.input.open_texts
    → byte_taken newline (run_at s s.input.names (defining d s.input.arguments text (Some (length (end_mark d.end)))) from [] (behind_byte from newline (behind_bytes from front s.input)))
    ≡ defined_from s from (front ++ newline ∷ []) d text
newline-ends s from front d text half others =
    let q : Stage = defining d s.input.arguments text (Some (length (end_mark d.end))) in
    let i : PageInput = behind_byte from newline (behind_bytes from front s.input) in
    let u : State = run_at s s.input.names q from [] i in
    let here : PageInput = record i { ahead = ahead_at from [] } in
    let at : PageInput → List OpenEscape → List (List ℕ) → PageInput = λ j h texts.
    entered_by d.name d.appends text d.before (record j { escapes = h; arguments = s.input.arguments; names = s.input.names; open_texts = texts }) in
    let of : PageInput → List OpenEscape → List (List ℕ) → State = λ j h texts. behind_end d.end (record s { tape = tape_at from [] s.tape; input = at j h texts }) in
    let j : PageInput = counted from (front ++ newline ∷ []) s.input in
    ap (λ (t : Taking). taken_as t u) (ends-line s.input.names d s.input.arguments text (known u) here)
    ∙ ap (λ (k : Known). taken_as (behind_definition k (at here [] d.others) d.end newline) u)
    (sym (known-entered_by s.history s.registers d.name d.appends text d.before (record here { escapes = []; arguments = s.input.arguments; names = s.input.names; open_texts = d.others })))
    ∙ ap (λ (k : PageInput). of k [] d.others) (counted-last from front newline s.input)
    ∙ ap (λ (h : List OpenEscape). of j h d.others) (sym half)
    ∙ ap (of j s.input.escapes) others

-- what a text may make of all that is stored
abbrev beside : Option ShortName → ℕ → ℕ
beside None n = 0
beside (Some name) n = n

beside-few : (name : Option ShortName) (n bound : ℕ) → n ≤ bound → beside name n ≤ beside name bound
beside-few None n bound few = omega arith
beside-few (Some name) n bound few = few

pub making-stored : (name : Option ShortName) (before others : List (List ℕ)) (text : List ℕ) → others ≡ making name before others []
    → sum_by length (making name before others text) ≤ sum_by length others + beside name (length text)
making-stored None before others text is = omega arith
making-stored (Some name) before others text is =
    let same : sum_by length others ≡ sum_by length (before ++ [] ∷ []) = ap (λ (texts : List (List ℕ)). sum_by length texts) is in
    let size : List ℕ → ℕ = length in
    omega (arith, same, sum_by-append size before (text ∷ []), sum_by-append size before ([] ∷ []), sum_by-cons size text [], sum_by-cons size [] [])

pub making-length : (name : Option ShortName) (before others : List (List ℕ)) (text : List ℕ) → others ≡ making name before others []
    → length (making name before others text) ≡ length others
making-length None before others text is = refl
making-length (Some name) before others text is =
    let all : length others ≡ length (before ++ [] ∷ []) = ap (λ (texts : List (List ℕ)). length texts) is in
    omega (arith, all, length-append before (text ∷ []), length-append before ([] ∷ []))

-- a definition's lines, and the line that ends it
defined-by : (l : Limits) (s : State) (from : Origin) (name : Option ShortName) (appends : Bool) (end : Option ShortName) (before lines : List (List ℕ))
    → BeginsDefinition s name appends end → s.input.open_texts ≡ making name before s.input.open_texts [] → AreItsLines end lines
    → let bytes : List ℕ = definition_bytes end lines in
    let text : List ℕ = text_of_lines lines in
    let d : Definition = record { name = name; appends = appends; end = end; before = before; others = s.input.open_texts } in
    s.input.ahead ≡ ahead_at from bytes → s.tape ≡ tape_at from bytes s.tape → s.input.charge + length bytes ≤ l.bytes
    → stored s.input + beside name (length text) ≤ l.store → IsWithin l s → IsWithin l (defined_from s from bytes d text)
    → after l (length bytes) s ≡ defined_from s from bytes d text
defined-by l s from name appends end before lines begins own its ahead tape charged stored_few within within_behind =
    let names : Named Entry = s.input.names in
    let a : Arguments = s.input.arguments in
    let bytes : List ℕ = definition_bytes end lines in
    let text : List ℕ = text_of_lines lines in
    let front : List ℕ = bytes_of_lines lines ++ end_mark end in
    let d : Definition = record { name = name; appends = appends; end = end; before = before; others = s.input.open_texts } in
    let most : Most = record { held = held a; stored = sum_by length s.input.open_texts + beside name (length text); texts = length s.input.open_texts } in
    let start : Stage = defining d a [] (Some 0) in
    let last : Stage = defining d a text (Some (length (end_mark end))) in
    let allows : Allows most d a (length text) = record {
      held_few = omega arith;
      stored_few = λ t few. omega (arith, making-stored name before s.input.open_texts t own, beside-few name (length t) (length text) few);
      texts_few = λ t. omega (arith, making-length name before s.input.open_texts t own);
    } in
    let is : run_at s names start from bytes s.input ≡ s = is-run_at s from bytes start begins.reading begins.escapes refl own ahead tape in
    let path : Path most names start front last =
    path-lines most names d a (length text) [] lines (end_mark end) last allows its.mark its.texts (omega arith)
    (path-mark most names d a (length text) text [] (end_mark end) allows (omega arith) its.mark refl) in
    let room : HasRoom l s names from most start bytes s.input =
    HasRoom-start l s names from most start bytes s.input (subst (IsWithin l) (sym is) within) charged (omega (arith, within.stack)) (omega (arith, stored_few)) within.making in
    ap (after l (length bytes)) (sym is)
    ∙ after-last l s names from most start last front newline s.input (defined_from s from bytes d text)
    begins.takes path room refl refl (newline-ends s from front d text begins.escapes refl) within_behind

pub definitions_enter_their_lines : DefinitionsEnterTheirLines
definitions_enter_their_lines l s name appends end before lines rest begins own its ahead room within within_behind =
    let bytes : List ℕ = definition_bytes end lines in
    let text : List ℕ = text_of_lines lines in
    let d : Definition = record { name = Some name; appends = appends; end = end; before = before; others = s.input.open_texts } in
    let of : PageInput → State = λ i. behind_end end (record s { input = with_definition name appends text before i }) in
    let is : defined_from s (FromAhead rest) bytes d text ≡ of (record s.input { ahead = rest; charge = s.input.charge + length bytes }) =
    ap of (counted-ahead rest bytes s.input) in
    defined-by l s (FromAhead rest) (Some name) appends end before lines begins own its ahead refl room.taken room.stored_beside within (subst (IsWithin l) (sym is) within_behind) ∙ is

pub definitions_of_the_source_enter_their_lines : DefinitionsOfTheSourceEnterTheirLines
definitions_of_the_source_enter_their_lines l s name appends end before lines tape begins own its none stands room within within_behind =
    let bytes : List ℕ = definition_bytes end lines in
    let text : List ℕ = text_of_lines lines in
    let d : Definition = record { name = Some name; appends = appends; end = end; before = before; others = s.input.open_texts } in
    let of : PageInput → State = λ i. behind_end end (record s { tape = tape; input = with_definition name appends text before i }) in
    let is : defined_from s (FromSource tape) bytes d text ≡ of (lines_taken bytes s.input) = ap of (counted-source tape bytes s.input none) in
    defined-by l s (FromSource tape) (Some name) appends end before lines begins own its none stands room.taken room.stored_beside within (subst (IsWithin l) (sym is) within_behind) ∙ is

pub ignored_lines_enter_nothing : IgnoredLinesEnterNothing
ignored_lines_enter_nothing l s appends end lines rest begins its ahead charged within within_behind =
    let bytes : List ℕ = definition_bytes end lines in
    let d : Definition = record { name = None; appends = appends; end = end; before = []; others = s.input.open_texts } in
    let of : PageInput → State = λ i. behind_end end (record s { input = i }) in
    let is : defined_from s (FromAhead rest) bytes d (text_of_lines lines) ≡ of (record s.input { ahead = rest; charge = s.input.charge + length bytes }) =
    ap of (counted-ahead rest bytes s.input) in
    defined-by l s (FromAhead rest) None appends end [] lines begins refl its ahead refl charged (omega (arith, within.store)) within (subst (IsWithin l) (sym is) within_behind) ∙ is

pub ignored_lines_of_the_source_enter_nothing : IgnoredLinesOfTheSourceEnterNothing
ignored_lines_of_the_source_enter_nothing l s appends end lines tape begins its none stands charged within within_behind =
    let bytes : List ℕ = definition_bytes end lines in
    let d : Definition = record { name = None; appends = appends; end = end; before = []; others = s.input.open_texts } in
    let of : PageInput → State = λ i. behind_end end (record s { tape = tape; input = i }) in
    let is : defined_from s (FromSource tape) bytes d (text_of_lines lines) ≡ of (lines_taken bytes s.input) = ap of (counted-source tape bytes s.input none) in
    defined-by l s (FromSource tape) None appends end [] lines begins refl its none stands charged (omega (arith, within.store)) within (subst (IsWithin l) (sym is) within_behind) ∙ is

pub lines_begin_behind_two_dots : LinesBeginBehindTwoDots
lines_begin_behind_two_dots k i = refl
