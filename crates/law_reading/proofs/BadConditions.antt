-- Conditions that ask nothing are false, texts that are cut are compared, and expressions that are no numbers are told and false.
use Rattle.std.proofs.Common.{◌≡◌, ℕ, zero, suc, ◌+◌, ◌≤◌, Bool, true, false, List, [], ◌∷◌, ◌++◌, length, Option, Some, None, refl, ap, sym, subst, ◌∙◌, arith, Result, Err, bytes_eq, pos}
use Rattle.roff_num.specs.Expressions.{value_at}
use Rattle.roff_num.specs.declared.limits.Limits.{Limits}
use Rattle.roff_num.specs.declared.num.Num.{Num}
use Rattle.roff_num.specs.declared.num.NumFault.{NumFault}
use Rattle.roff_num.specs.declared.num.Scale.TheVariants.{Units}
use Rattle.roff_num.specs.declared.short_name.ShortName.{ShortName}
use Rattle.roff_num.specs.ShortNames.{name_bytes}
use Rattle.input_model.specs.Arguments.{live_bytes, no_arguments}
use Rattle.input_source.specs.Bytes.{blank, newline}
use Rattle.input_source.specs.Tape.{Answer, Tape, front}
use Rattle.input_model.specs.Input.{Ahead, ByteAhead}
use Rattle.input_escapes.specs.ConditionFronts.{NothingTaken}
use Rattle.input_escapes.specs.Conditions.{ends_condition, expression_valued, so_unless, text_is_same}
use Rattle.input_escapes.specs.declared.open_escape.ConditionPart.{ConditionPart}
use Rattle.input_escapes.specs.declared.open_escape.ConditionPart.TheVariants.{Choice, Compared, Expression}
use Rattle.input_escapes.specs.declared.open_escape.Decision.TheVariants.{Is}
use Rattle.law_reading.proofs.AskedHalves.{choice, compared, cut-compared, expression, first_end, halves-asking, halves-cut, texts_so_far, whole}
use Rattle.law_reading.proofs.AskingLaws.{AheadIs, EndIs, FrontIs, SourceIs, asked-ends, behind-expression, chosen_from, EndsThere, ends-it, halves-number, held-ahead}
use Rattle.law_reading.proofs.AskingRuns.{asked_at, asks, path-front, path-whole, to_hold}
use Rattle.law_reading.proofs.LineRooms.{most_of}
use Rattle.law_reading.specs.AskingLaws.{AreDelimited, HasCondition, IsExpression, asking, asking_line, with_branch}
use Rattle.law_reading.specs.BadConditions.{BadNumbersAreToldAndFalse, BadNumbersOfTheSourceAreToldAndFalse, CutTextsAreCompared, CutTextsOfTheSourceAreCompared, EmptyConditionsAreFalse, EmptyConditionsOfTheSourceAreFalse, cut_texts, empty_condition, second_text, with_bad_number}
use Rattle.law_reading.specs.CallLaws.{BeginsLine}
use Rattle.law_reading.specs.CutNames.{AtNewline, AtTheEnd, CutsLine}
use Rattle.run_model.proofs.ItemsTaken.{FromAhead, FromSource, Origin, ahead_at, tape_at, taken_as-going_on}
use Rattle.run_model.proofs.NameBytes.{stage}
use Rattle.run_model.proofs.PlainRuns.{Path, behind_bytes, counted-ahead, counted-source}
use Rattle.run_model.specs.Reading.Found.{read_in}
use Rattle.run_model.specs.Reading.Items.{PageInput}
use Rattle.run_model.specs.Run.{State, after, escape_ends, known, taken_as}
use Rattle.run_model.specs.Within.{IsWithin}
use Rattle.run_model.specs.PageEvents.{PageEvent}
use Rattle.run_model.specs.declared.line_state.LineState.TheVariants.{Deciding, LineStart}

-- a run that told a bad number behind these bytes
abbrev told_from : State → Origin → List ℕ → State
told_from s from line = with_bad_number (behind_bytes from line s.input).line s

-- an expression that is no number is told as it ends
ends-bad : (s : State) (keeps negated : Bool) (from : Origin) (text line : List ℕ) (fault : NumFault) → value_at text 0 Units (Some (pos 0)) ≡ Err fault
    → escape_ends (asked_at s keeps from (expression negated text) line) ≡ asked_at (told_from s from line) keeps from (whole (Is false) text) line
ends-bad s keeps negated from text line fault is =
    let u : State = asked_at s keeps from (expression negated text) line in
    ap (λ (r : Result (Num × ℕ) NumFault). taken_as (read_in (known u) (Deciding keeps) u.input (expression_valued [] negated None text r)) u) is

bad-from : (l : Limits) (s : State) (keeps : Bool) (from : Origin) (control : ℕ) (name : ShortName) (blanks : ℕ) (negated : Bool) (text : List ℕ) (fault : NumFault)
    (seen : Option ℕ) → BeginsLine s → HasCondition s.input.names control name keeps → IsExpression text (Err fault) → EndsThere (Expression negated) seen → FrontIs from seen
    → let bytes : List ℕ = asking blanks negated text in
    let line : List ℕ = asking_line control name bytes in
    s.input.ahead ≡ ahead_at from line → s.tape ≡ tape_at from line s.tape → to_hold from bytes + live_bytes s.input.calls ≤ l.stack
    → IsWithin l s → IsWithin l (chosen_from (told_from s from line) keeps from line false)
    → after l (length line + 2) s ≡ chosen_from (told_from s from line) keeps from line false
bad-from l s keeps from control name blanks negated text fault seen begins has is ends comes ahead tape held within chosen =
    let bytes : List ℕ = asking blanks negated text in
    let line : List ℕ = asking_line control name bytes in
    asked-ends l s keeps false from (control ∷ name_bytes name ++ blank ∷ []) bytes (Expression negated) text (told_from s from line).messages seen begins
    (path-front s control name keeps has) (halves-asking blanks negated text (expression negated text) (halves-number negated text (Err fault) is)) refl ends comes
    (ends-bad s keeps negated from text line fault is.comes_to) ahead tape held within chosen

pub bad_numbers_are_told_and_false : BadNumbersAreToldAndFalse
bad_numbers_are_told_and_false l s control name keeps blanks negated text fault b rest begins has is ends ahead within chosen =
    let bytes : List ℕ = asking blanks negated text in
    let line : List ℕ = asking_line control name bytes in
    let behind : List (Ahead PageEvent) = ByteAhead b ∷ rest in
    let same = ap (λ (i : PageInput). with_bad_number i.line (with_branch keeps false i s)) (counted-ahead behind line s.input) in
    bad-from l s keeps (FromAhead behind) control name blanks negated text fault (Some b) begins has is (ends-it b ends) (AheadIs b rest) ahead refl
    (held-ahead l s behind (control ∷ name_bytes name ++ blank ∷ []) bytes within ahead) within (subst (IsWithin l) (sym same) chosen)
    ∙ same

pub bad_numbers_of_the_source_are_told_and_false : BadNumbersOfTheSourceAreToldAndFalse
bad_numbers_of_the_source_are_told_and_false l s control name keeps blanks negated text fault tape begins has is ends none stands room within chosen =
    let line : List ℕ = asking_line control name (asking blanks negated text) in
    let same = ap (λ (i : PageInput). with_bad_number i.line (with_branch keeps false i (record s { tape = tape }))) (counted-source tape line s.input none) in
    let seen = behind-expression negated tape (front tape) refl ends in
    bad-from l s keeps (FromSource tape) control name blanks negated text fault seen.0 begins has is seen.1.0 seen.1.1 none stands
    (omega (arith, room)) within (subst (IsWithin l) (sym same) chosen)
    ∙ same

-- what asks nothing is false as it ends
ends-empty : (s : State) (keeps negated : Bool) (from : Origin) (line : List ℕ)
    → escape_ends (asked_at s keeps from (choice negated) line) ≡ asked_at s keeps from (whole (Is false) []) line
ends-empty s keeps negated from line =
    let u : State = asked_at s keeps from (choice negated) line in
    let v : State = asked_at s keeps from (whole (Is false) []) line in
    taken_as-going_on v.input (Deciding keeps) u

empty-behind : (l : Limits) (s : State) (keeps : Bool) (from : Origin) (front : List ℕ) (blanks : ℕ) (negated : Bool) (seen : Option ℕ) → BeginsLine s
    → Path (most_of s) s.input.names (stage LineStart no_arguments s.input.open_texts) front (asks s keeps (choice false)) → EndsThere (Choice negated) seen → FrontIs from seen
    → let bytes : List ℕ = asking blanks negated [] in
    let line : List ℕ = front ++ bytes in
    s.input.ahead ≡ ahead_at from line → s.tape ≡ tape_at from line s.tape → to_hold from bytes + live_bytes s.input.calls ≤ l.stack
    → IsWithin l s → IsWithin l (chosen_from s keeps from line false) → after l (length line + 2) s ≡ chosen_from s keeps from line false
empty-behind l s keeps from front blanks negated seen begins path ends comes ahead tape held within chosen =
    let bytes : List ℕ = asking blanks negated [] in
    asked-ends l s keeps false from front bytes (Choice negated) [] s.messages seen begins path
    (halves-asking blanks negated [] (choice negated) (NothingTaken (choice negated))) refl ends comes
    (ends-empty s keeps negated from (front ++ bytes)) ahead tape held within chosen

-- what is held of it, with the blank of a name of one byte or without it
fewer_held : (from : Origin) (b : ℕ) (bytes : List ℕ) → to_hold from bytes ≤ to_hold from (b ∷ bytes)
fewer_held (FromAhead rest) b bytes = omega arith
fewer_held (FromSource tape) b bytes = omega arith

empty-from : (l : Limits) (s : State) (keeps : Bool) (from : Origin) (control first : ℕ) (second : Option ℕ) (blanks : ℕ) (negated : Bool) (seen : Option ℕ)
    → let name : ShortName = record { first = first; second = second } in
    BeginsLine s → HasCondition s.input.names control name keeps → 2 ≤ length (name_bytes name) + blanks → EndsThere (Choice negated) seen → FrontIs from seen
    → let line : List ℕ = empty_condition control name blanks negated in
    s.input.ahead ≡ ahead_at from line → s.tape ≡ tape_at from line s.tape → to_hold from (asking blanks negated []) + live_bytes s.input.calls ≤ l.stack
    → IsWithin l s → IsWithin l (chosen_from s keeps from line false) → after l (length line + 2) s ≡ chosen_from s keeps from line false
empty-from l s keeps from control first (Some second) blanks negated seen begins has enough ends comes ahead tape held within chosen =
    empty-behind l s keeps from (control ∷ first ∷ second ∷ []) blanks negated seen begins (path-whole s control first second keeps has) ends comes ahead tape held within chosen
empty-from l s keeps from control first None zero negated seen begins has enough ends comes ahead tape held within chosen = absurd (omega (arith, enough))
empty-from l s keeps from control first None (suc n) negated seen begins has enough ends comes ahead tape held within chosen =
    let name : ShortName = record { first = first; second = None } in
    empty-behind l s keeps from (control ∷ first ∷ blank ∷ []) n negated seen begins (path-front s control name keeps has) ends comes ahead tape
    (omega (arith, held, fewer_held from blank (asking n negated []))) within chosen

pub empty_conditions_are_false : EmptyConditionsAreFalse
empty_conditions_are_false l s control name keeps blanks negated rest begins has enough ahead within chosen =
    let line : List ℕ = empty_condition control name blanks negated in
    let behind : List (Ahead PageEvent) = ByteAhead newline ∷ rest in
    let same = ap (λ (i : PageInput). with_branch keeps false i s) (counted-ahead behind line s.input) in
    empty-from l s keeps (FromAhead behind) control name.first name.second blanks negated (Some newline) begins has enough refl (AheadIs newline rest) ahead refl
    (held-ahead l s behind (control ∷ name_bytes name) (asking blanks negated []) within ahead) within (subst (IsWithin l) (sym same) chosen)
    ∙ same

-- what may cut it in the source ends it
cuts : (part : ConditionPart) (tape : Tape) (answer : Answer) → front tape ≡ answer → ends_condition part (Some newline) ≡ true → CutsLine answer
    → (seen : Option ℕ) × (EndsThere part seen × FrontIs (FromSource tape) seen)
cuts part tape _ is ends AtNewline = (Some newline, (ends, SourceIs newline tape is))
cuts part tape _ is ends AtTheEnd = (None, (tt, EndIs tape is))

pub empty_conditions_of_the_source_are_false : EmptyConditionsOfTheSourceAreFalse
empty_conditions_of_the_source_are_false l s control name keeps blanks negated tape begins has enough none stands cut room within chosen =
    let line : List ℕ = empty_condition control name blanks negated in
    let same = ap (λ (i : PageInput). with_branch keeps false i (record s { tape = tape })) (counted-source tape line s.input none) in
    let seen = cuts (Choice negated) tape (front tape) refl refl cut in
    empty-from l s keeps (FromSource tape) control name.first name.second blanks negated seen.0 begins has enough seen.1.0 seen.1.1 none stands
    (omega (arith, room)) within (subst (IsWithin l) (sym same) chosen)
    ∙ same

-- texts that are cut are compared as they end
ends-cut : (s : State) (keeps negated : Bool) (from : Origin) (d : ℕ) (first : List ℕ) (second : Option (List ℕ)) (line : List ℕ)
    → let text : List ℕ = texts_so_far first second in
    escape_ends (asked_at s keeps from (compared negated d (first_end first second) text) line)
    ≡ asked_at s keeps from (whole (Is (so_unless negated (bytes_eq first (second_text second)))) text) line
ends-cut s keeps negated from d first second line =
    let text : List ℕ = texts_so_far first second in
    let u : State = asked_at s keeps from (compared negated d (first_end first second) text) line in
    let v : Bool → State = λ same. asked_at s keeps from (whole (Is (so_unless negated same)) text) line in
    taken_as-going_on (v (text_is_same (first_end first second) text)).input (Deciding keeps) u ∙ ap v (cut-compared first second)

cut-from : (l : Limits) (s : State) (keeps : Bool) (from : Origin) (control : ℕ) (name : ShortName) (blanks : ℕ) (negated : Bool) (d : ℕ) (first : List ℕ)
    (second : Option (List ℕ)) (seen : Option ℕ) → BeginsLine s → HasCondition s.input.names control name keeps → AreDelimited d first (second_text second)
    → EndsThere (Compared negated d (first_end first second)) seen → FrontIs from seen
    → let bytes : List ℕ = asking blanks negated (cut_texts d first second) in
    let line : List ℕ = asking_line control name bytes in
    let so : Bool = so_unless negated (bytes_eq first (second_text second)) in
    s.input.ahead ≡ ahead_at from line → s.tape ≡ tape_at from line s.tape → to_hold from bytes + live_bytes s.input.calls ≤ l.stack
    → IsWithin l s → IsWithin l (chosen_from s keeps from line so) → after l (length line + 2) s ≡ chosen_from s keeps from line so
cut-from l s keeps from control name blanks negated d first second seen begins has are ends comes ahead tape held within chosen =
    let texts : List ℕ = cut_texts d first second in
    let bytes : List ℕ = asking blanks negated texts in
    let line : List ℕ = asking_line control name bytes in
    let so : Bool = so_unless negated (bytes_eq first (second_text second)) in
    let text : List ℕ = texts_so_far first second in
    asked-ends l s keeps so from (control ∷ name_bytes name ++ blank ∷ []) bytes (Compared negated d (first_end first second)) text s.messages seen begins
    (path-front s control name keeps has) (halves-asking blanks negated texts (compared negated d (first_end first second) text) (halves-cut negated d first second are))
    refl ends comes (ends-cut s keeps negated from d first second line) ahead tape held within chosen

pub cut_texts_are_compared : CutTextsAreCompared
cut_texts_are_compared l s control name keeps blanks negated d first second rest begins has are ahead within chosen =
    let bytes : List ℕ = asking blanks negated (cut_texts d first second) in
    let line : List ℕ = asking_line control name bytes in
    let so : Bool = so_unless negated (bytes_eq first (second_text second)) in
    let behind : List (Ahead PageEvent) = ByteAhead newline ∷ rest in
    let same = ap (λ (i : PageInput). with_branch keeps so i s) (counted-ahead behind line s.input) in
    cut-from l s keeps (FromAhead behind) control name blanks negated d first second (Some newline) begins has are refl (AheadIs newline rest) ahead refl
    (held-ahead l s behind (control ∷ name_bytes name ++ blank ∷ []) bytes within ahead) within (subst (IsWithin l) (sym same) chosen)
    ∙ same

pub cut_texts_of_the_source_are_compared : CutTextsOfTheSourceAreCompared
cut_texts_of_the_source_are_compared l s control name keeps blanks negated d first second tape begins has are none stands cut room within chosen =
    let line : List ℕ = asking_line control name (asking blanks negated (cut_texts d first second)) in
    let so : Bool = so_unless negated (bytes_eq first (second_text second)) in
    let same = ap (λ (i : PageInput). with_branch keeps so i (record s { tape = tape })) (counted-source tape line s.input none) in
    let seen = cuts (Compared negated d (first_end first second)) tape (front tape) refl refl cut in
    cut-from l s keeps (FromSource tape) control name blanks negated d first second seen.0 begins has are seen.1.0 seen.1.1 none stands
    (omega (arith, room)) within (subst (IsWithin l) (sym same) chosen)
    ∙ same
