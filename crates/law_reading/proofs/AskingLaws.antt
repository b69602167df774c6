-- A condition leads to its branch, which is read or skipped.
use Rattle.std.proofs.Common.{◌≡◌, ℕ, ◌+◌, ◌≤◌, Bool, true, false, List, [], ◌∷◌, ◌++◌, length, Option, Some, None, refl, ap, sym, subst, ◌∙◌, arith, All, Result, Ok, ◌%◌, ◌==◌, int_lt, map, not, pos, unsigned_abs, if◌then◌else◌}
use Rattle.std.specs.Prelude.{⊤}
use Rattle.roff_num.specs.Expressions.{value_at}
use Rattle.roff_num.specs.declared.limits.Limits.{Limits}
use Rattle.roff_num.specs.declared.num.Num.{Num}
use Rattle.roff_num.specs.declared.num.NumFault.{NumFault}
use Rattle.roff_num.specs.declared.num.Scale.TheVariants.{Units}
use Rattle.roff_num.specs.declared.short_name.ShortName.{ShortName}
use Rattle.roff_num.specs.ShortNames.{name_bytes}
use Rattle.input_model.specs.Arguments.{Arguments, live_bytes, no_arguments}
use Rattle.input_source.specs.Bytes.{blank}
use Rattle.input_source.specs.Tape.{Answer, Tape, Ended, Ends, Gives, OneByte, front}
use Rattle.input_model.specs.Input.{Ahead, ByteAhead, bytes_ahead}
use Rattle.input_escapes.specs.ConditionFronts.{HalvesTaken, is_of_expression}
use Rattle.input_escapes.specs.Conditions.{ends_condition, ends_expression, expression_valued, is_decided, so_unless}
use Rattle.input_escapes.specs.declared.open_escape.ConditionPart.{ConditionPart}
use Rattle.input_escapes.specs.declared.open_escape.ConditionPart.TheVariants.{Choice, Compared, Decided, Expression}
use Rattle.input_escapes.specs.declared.open_escape.Waiting.TheVariants.{Decides, Waits}
use Rattle.input_escapes.specs.OpenEscape.{OpenEscape, Condition}
use Rattle.input_escapes.specs.declared.open_escape.Decision.{Decision}
use Rattle.input_escapes.specs.declared.open_escape.Decision.TheVariants.{Is, OnPages}
use Rattle.law_reading.proofs.AskedHalves.{choice, decision_of, expression, halves-asking, halves-expression, halves-question, question_held, whole}
use Rattle.law_reading.proofs.AskingRuns.{RoomToAsk, asked-behind, asked_at, asks, path-front, to_hold, to_hold-front, within-asks}
use Rattle.law_reading.proofs.LineRooms.{most_of}
use Rattle.law_reading.specs.AskingLaws.{BeforeByte, BeforeTheEnd, BlankEnds, NewlineEnds, TabEnds, EndsIt, ConditionsChooseTheirBranch, ConditionsOfTheSourceChooseTheirBranch, ExpressionsChooseTheirBranch, ExpressionsOfTheSourceChooseTheirBranch, EndsExpression, HasCondition, IsExpression, IsQuestion, Question, OddPage, EvenPage, Never, Always, SameTexts, asking, asking_line, is_answered, question_bytes, with_branch}
use Rattle.law_reading.specs.CallLaws.{BeginsLine}
use Rattle.run_model.proofs.ItemsTaken.{Fits-IsWithin, FromAhead, FromSource, Origin, ahead_at, made-Fits, step-reads, tape_at, taken_as-going_on}
use Rattle.run_model.proofs.Leads.{after-add}
use Rattle.run_model.proofs.NameBytes.{stage}
use Rattle.run_model.proofs.PlainRuns.{Path, behind_bytes, behind_bytes-charge, behind_bytes-counts, counted, counted-ahead, counted-source}
use Rattle.run_model.specs.ItemsTaken.{TakesItems}
use Rattle.run_model.specs.Reading.Branches.{branch_of, is_so, with_result_if}
use Rattle.run_model.specs.Reading.Found.{read_in}
use Rattle.run_model.specs.Environments.{PageHistory}
use Rattle.run_model.specs.Layouts.{layout_of}
use Rattle.run_model.specs.Reading.Items.{PageInput}
use Rattle.run_model.specs.Registers.{is_page_odd}
use Rattle.run_model.specs.PageEvents.{PageEvent}
use Rattle.run_model.specs.Run.{State, after, answered, awaited_of_source, escape_ends, in_front_taken, known, made, read_waiting, source_answer, step, taken_as}
use Rattle.run_model.specs.Within.{IsWithin}
use Rattle.run_model.specs.declared.line_state.LineState.TheVariants.{Deciding, LineStart}

-- a run whose condition was decided so
abbrev pub chosen_from : State → Bool → Origin → List ℕ → Bool → State
chosen_from s keeps from line so = with_branch keeps so (counted from line s.input) (record s { tape = tape_at from [] s.tape })

is-chosen : (s : State) (keeps : Bool) (from : Origin) (half : List OpenEscape) (line : List ℕ) (so : Bool) → BeginsLine s
    → let u : State = asked_at s keeps from half line in
    record u { input = with_result_if keeps so (record u.input { escapes = [] }); reading = branch_of so } ≡ chosen_from s keeps from line so
is-chosen s keeps from half line so begins =
    let of : PageInput → Arguments → List OpenEscape → State = λ j a h. record s {
      tape = tape_at from [] s.tape;
      input = with_result_if keeps so (record j { arguments = a; escapes = h; names = s.input.names; open_texts = s.input.open_texts });
      reading = branch_of so;
    } in
    let j : PageInput = counted from line s.input in
    ap (λ (i : PageInput). of (record i { ahead = ahead_at from [] }) no_arguments []) (behind_bytes-counts from line s.input)
    ∙ ap (λ (a : Arguments). of j a []) (sym begins.arguments)
    ∙ ap (λ (h : List OpenEscape). of j s.input.arguments h) (sym begins.escapes)

-- a condition that is read decides in a step of its own
step-decides : (l : Limits) (s : State) (keeps : Bool) (from : Origin) (decision : Decision) (text line : List ℕ) → BeginsLine s
    → let u : State = asked_at s keeps from (whole decision text) line in
    let so : Bool = is_so (known u) decision in
    IsWithin l (chosen_from s keeps from line so) → step l u ≡ chosen_from s keeps from line so
step-decides l s keeps from decision text line begins within =
    let u : State = asked_at s keeps from (whole decision text) line in
    let so : Bool = is_so (known u) decision in
    let behind : PageInput = with_result_if keeps so (record u.input { escapes = [] }) in
    let done : State = record u { input = behind; reading = branch_of so } in
    let is : done ≡ chosen_from s keeps from line so = is-chosen s keeps from (whole decision text) line so begins in
    step-reads l u begins.takes.going begins.takes.idle begins.takes.unsprung refl
    ∙ ap (made l u) (taken_as-going_on behind (branch_of so) u)
    ∙ made-Fits l u done (Fits-IsWithin l done (subst (IsWithin l) (sym is) within))
    ∙ is

-- what it costs
kept-charge : (keeps so : Bool) (i : PageInput) → (with_result_if keeps so i).charge ≡ i.charge
kept-charge true so i = refl
kept-charge false so i = refl

pub charge-chosen : (l : Limits) (s : State) (keeps : Bool) (from : Origin) (line : List ℕ) (so : Bool) → IsWithin l (chosen_from s keeps from line so)
    → s.input.charge + length line ≤ l.bytes
charge-chosen l s keeps from line so within =
    omega (arith, within.bytes, kept-charge keeps so (counted from line s.input), behind_bytes-charge from line s.input)

-- it is the same wherever on the way
so-same : (s u : State) (decision : Decision) → u.history ≡ s.history → is_so (known u) decision ≡ is_so (known s) decision
so-same s u (Is so) same = refl
so-same s u (OnPages odd) same =
    let is_odd : PageHistory → Bool = λ h. unsigned_abs (layout_of h).number.0 % 2 == 1 in
    ap (λ (h : PageHistory). if odd then is_odd h else not (is_odd h)) same

-- a line up to the end of what it asks
decided-from : (l : Limits) (s : State) (keeps : Bool) (from : Origin) (control : ℕ) (name : ShortName) (bytes : List ℕ) (decision : Decision) (text : List ℕ)
    → BeginsLine s → HasCondition s.input.names control name keeps → HalvesTaken (choice false) bytes (whole decision text)
    → let line : List ℕ = asking_line control name bytes in
    let so : Bool = is_so (known s) decision in
    s.input.ahead ≡ ahead_at from line → s.tape ≡ tape_at from line s.tape → to_hold from bytes + live_bytes s.input.calls ≤ l.stack
    → IsWithin l s → IsWithin l (chosen_from s keeps from line so) → after l (length line + 1) s ≡ chosen_from s keeps from line so
decided-from l s keeps from control name bytes decision text begins has halves ahead tape held within chosen =
    let line : List ℕ = asking_line control name bytes in
    let so : Bool = is_so (known s) decision in
    let one = asked-behind l s keeps from (control ∷ name_bytes name ++ blank ∷ []) bytes (whole decision text) begins (path-front s control name keeps has) halves ahead tape within (charge-chosen l s keeps from line so chosen) held in
    let same : is_so (known (asked_at s keeps from (whole decision text) line)) decision ≡ so = so-same s (asked_at s keeps from (whole decision text) line) decision refl in
    after-add l (length line) 1 s
    ∙ ap (after l 1) one.0
    ∙ step-decides l s keeps from decision text line begins (subst (λ (c : Bool). IsWithin l (chosen_from s keeps from line c)) (sym same) chosen)
    ∙ ap (chosen_from s keeps from line) same

-- what decides a question is its answer
not-not : (b : Bool) → b ≡ not (not b)
not-not true = refl
not-not false = refl

so-question : (s : State) (negated : Bool) (question : Question) → is_so (known s) (decision_of negated question) ≡ so_unless negated (is_answered (known s) question)
so-question s true OddPage = refl
so-question s false OddPage = refl
so-question s true EvenPage = not-not (is_page_odd (known s))
so-question s false EvenPage = refl
so-question s true Never = refl
so-question s false Never = refl
so-question s true Always = refl
so-question s false Always = refl
so-question s negated (SameTexts delimiter first second) = refl

question-from : (l : Limits) (s : State) (keeps : Bool) (from : Origin) (control : ℕ) (name : ShortName) (blanks : ℕ) (negated : Bool) (question : Question)
    → BeginsLine s → HasCondition s.input.names control name keeps → IsQuestion question
    → let bytes : List ℕ = asking blanks negated (question_bytes question) in
    let line : List ℕ = asking_line control name bytes in
    let so : Bool = so_unless negated (is_answered (known s) question) in
    s.input.ahead ≡ ahead_at from line → s.tape ≡ tape_at from line s.tape → to_hold from bytes + live_bytes s.input.calls ≤ l.stack
    → IsWithin l s → IsWithin l (chosen_from s keeps from line so) → after l (length line + 1) s ≡ chosen_from s keeps from line so
question-from l s keeps from control name blanks negated question begins has is ahead tape held within chosen =
    let bytes : List ℕ = asking blanks negated (question_bytes question) in
    let line : List ℕ = asking_line control name bytes in
    let decision : Decision = decision_of negated question in
    let same = so-question s negated question in
    decided-from l s keeps from control name bytes decision (question_held question) begins has
    (halves-asking blanks negated (question_bytes question) (whole decision (question_held question)) (halves-question negated question is)) ahead tape held within
    (subst (λ (c : Bool). IsWithin l (chosen_from s keeps from line c)) (sym same) chosen)
    ∙ ap (chosen_from s keeps from line) same

-- what stands ahead and may be held counts already
pub held-ahead : (l : Limits) (s : State) (rest : List (Ahead PageEvent)) (front bytes : List ℕ) → IsWithin l s → s.input.ahead ≡ map ByteAhead (front ++ bytes) ++ rest
    → to_hold (FromAhead rest) bytes + live_bytes s.input.calls ≤ l.stack
held-ahead l s rest front bytes within ahead = omega (arith, within.stack, ap bytes_ahead ahead, to_hold-front rest front bytes)

pub conditions_choose_their_branch : ConditionsChooseTheirBranch
conditions_choose_their_branch l s control name keeps blanks negated question rest begins has is ahead within chosen =
    let bytes : List ℕ = asking blanks negated (question_bytes question) in
    let line : List ℕ = asking_line control name bytes in
    let so : Bool = so_unless negated (is_answered (known s) question) in
    let same = ap (λ (i : PageInput). with_branch keeps so i s) (counted-ahead rest line s.input) in
    question-from l s keeps (FromAhead rest) control name blanks negated question begins has is ahead refl
    (held-ahead l s rest (control ∷ name_bytes name ++ blank ∷ []) bytes within ahead) within (subst (IsWithin l) (sym same) chosen)
    ∙ same

pub conditions_of_the_source_choose_their_branch : ConditionsOfTheSourceChooseTheirBranch
conditions_of_the_source_choose_their_branch l s control name keeps blanks negated question tape begins has is none stands room within chosen =
    let line : List ℕ = asking_line control name (asking blanks negated (question_bytes question)) in
    let so : Bool = so_unless negated (is_answered (known s) question) in
    let same = ap (λ (i : PageInput). with_branch keeps so i (record s { tape = tape })) (counted-source tape line s.input none) in
    question-from l s keeps (FromSource tape) control name blanks negated question begins has is none stands (omega (arith, room)) within (subst (IsWithin l) (sym same) chosen)
    ∙ same

-- nothing that can be read ends no condition that isn't read yet
ends_nothing : (part : ConditionPart) → is_decided part ≡ false → ends_condition part None ≡ false
ends_nothing (Choice negated) waits = refl
ends_nothing (Expression negated) waits = refl
ends_nothing (Compared negated d first) waits = refl
ends_nothing (Decided decision freed) waits = absurd (cc)

-- this byte comes next, or the source has ended
pub data FrontIs : Origin → Option ℕ → Type 0 where
  AheadIs : (b : ℕ) (rest : List (Ahead PageEvent)) → FrontIs (FromAhead (ByteAhead b ∷ rest)) (Some b)
  SourceIs : (b : ℕ) (tape : Tape) → front tape ≡ Gives (OneByte b) → FrontIs (FromSource tape) (Some b)
  EndIs : (tape : Tape) → front tape ≡ Ends Ended → FrontIs (FromSource tape) None

-- what it means for a condition that isn't read yet: it ends there
abbrev pub EndsThere : ConditionPart → Option ℕ → Type 0
EndsThere part (Some b) = ends_condition part (Some b) ≡ true
EndsThere part None = ⊤

-- a condition that isn't read yet ends before what can't continue it
step-ends : (l : Limits) (s : State) (keeps : Bool) (from : Origin) (part : ConditionPart) (text line : List ℕ) (seen : Option ℕ) → TakesItems s → FrontIs from seen
    → EndsThere part seen → is_decided part ≡ false
    → let u : State = asked_at s keeps from (Condition part text ∷ []) line in step l u ≡ made l u (escape_ends u)
step-ends l s keeps _ part text line _ on (AheadIs b rest) ends waits =
    let u : State = asked_at s keeps (FromAhead (ByteAhead b ∷ rest)) (Condition part text ∷ []) line in
    step-reads l u on.going on.idle on.unsprung refl
    ∙ ap (λ (c : Bool). read_waiting l (if c then Decides else Waits) u) waits
    ∙ ap (λ (c : Bool). if c then made l u (escape_ends u) else in_front_taken l u.input.ahead u) ends
step-ends l s keeps _ part text line _ on (SourceIs b tape gives) ends waits =
    let u : State = asked_at s keeps (FromSource tape) (Condition part text ∷ []) line in
    let answers : source_answer u ≡ Gives (OneByte b) = ap (λ (closed : Bool). if closed then Ends Ended else front u.tape) on.is_open ∙ gives in
    step-reads l u on.going on.idle on.unsprung refl
    ∙ ap (λ (c : Bool). read_waiting l (if c then Decides else Waits) u) waits
    ∙ ap (λ (a : Answer). awaited_of_source l a u) answers
    ∙ ap (λ (c : Bool). if c then made l u (escape_ends u) else in_front_taken l u.input.ahead u) ends
step-ends l s keeps _ part text line _ on (EndIs tape ends) _ waits =
    let u : State = asked_at s keeps (FromSource tape) (Condition part text ∷ []) line in
    let answers : source_answer u ≡ Ends Ended = ap (λ (closed : Bool). if closed then Ends Ended else front u.tape) on.is_open ∙ ends in
    step-reads l u on.going on.idle on.unsprung refl
    ∙ ap (λ (c : Bool). read_waiting l (if c then Decides else Waits) u) waits
    ∙ ap (λ (a : Answer). awaited_of_source l a u) answers
    ∙ ap (λ (c : Bool). if c then made l u (escape_ends u) else in_front_taken l u.input.ahead u) (ends_nothing part waits)
    ∙ ap (λ (a : Answer). answered l a u) answers

-- what ended so is whole in that step, and decides in the next one, whatever is told in between
ended-from : (l : Limits) (s : State) (keeps so : Bool) (from : Origin) (half : List OpenEscape) (text line messages : List ℕ) → BeginsLine s
    → RoomToAsk l s keeps from (whole (Is so) text) [] (behind_bytes from line s.input)
    → let told : State = record s { messages = messages } in
    let u : State = asked_at s keeps from half line in
    step l u ≡ made l u (asked_at told keeps from (whole (Is so) text) line) → IsWithin l (chosen_from told keeps from line so)
    → after l 2 u ≡ chosen_from told keeps from line so
ended-from l s keeps so from half text line messages begins room ends within =
    let told : State = record s { messages = messages } in
    let u : State = asked_at s keeps from half line in
    let v : State = asked_at s keeps from (whole (Is so) text) line in
    let on : TakesItems s = begins.takes in
    let begins_told : BeginsLine told = record {
      takes = record { going = on.going; is_open = on.is_open; idle = on.idle; unsprung = on.unsprung; none_due = on.none_due };
      reading = begins.reading;
      escapes = begins.escapes;
      arguments = begins.arguments;
    } in
    ap (after l 1)
    (ends ∙ made-Fits l u (asked_at told keeps from (whole (Is so) text) line)
    (Fits-IsWithin l v (within-asks l s keeps from (whole (Is so) text) [] (behind_bytes from line s.input) room)))
    ∙ step-decides l told keeps from (Is so) text line begins_told within

-- a condition that isn't read yet ends where its line does, or its expression: a step ends it, and one decides
pub asked-ends : (l : Limits) (s : State) (keeps so : Bool) (from : Origin) (front bytes : List ℕ) (part : ConditionPart) (text messages : List ℕ) (seen : Option ℕ)
    → BeginsLine s → Path (most_of s) s.input.names (stage LineStart no_arguments s.input.open_texts) front (asks s keeps (choice false))
    → HalvesTaken (choice false) bytes (Condition part text ∷ []) → is_decided part ≡ false → EndsThere part seen → FrontIs from seen
    → let line : List ℕ = front ++ bytes in
    let told : State = record s { messages = messages } in
    escape_ends (asked_at s keeps from (Condition part text ∷ []) line) ≡ asked_at told keeps from (whole (Is so) text) line
    → s.input.ahead ≡ ahead_at from line → s.tape ≡ tape_at from line s.tape → to_hold from bytes + live_bytes s.input.calls ≤ l.stack
    → IsWithin l s → IsWithin l (chosen_from told keeps from line so) → after l (length line + 2) s ≡ chosen_from told keeps from line so
asked-ends l s keeps so from front bytes part text messages seen begins path halves waits ends comes is ahead tape held within chosen =
    let line : List ℕ = front ++ bytes in
    let told : State = record s { messages = messages } in
    let half : List OpenEscape = Condition part text ∷ [] in
    let u : State = asked_at s keeps from half line in
    let one = asked-behind l s keeps from front bytes half begins path halves ahead tape within (charge-chosen l told keeps from line so chosen) held in
    let ended : step l u ≡ made l u (asked_at told keeps from (whole (Is so) text) line) =
    step-ends l s keeps from part text line seen begins.takes comes ends waits ∙ ap (made l u) is in
    after-add l (length line) 2 s
    ∙ ap (after l 2) one.0
    ∙ ended-from l s keeps so from half text line messages begins (record { room = one.1.room; stack = one.1.stack }) ended chosen

-- an expression that has ended is valued
ends-valued : (s : State) (keeps negated : Bool) (from : Origin) (text line : List ℕ) (value : Num × ℕ) → value_at text 0 Units (Some (pos 0)) ≡ Ok value
    → escape_ends (asked_at s keeps from (expression negated text) line) ≡ asked_at s keeps from (whole (Is (so_unless negated (int_lt (pos 0) value.0.0))) text) line
ends-valued s keeps negated from text line value is =
    let u : State = asked_at s keeps from (expression negated text) line in
    let v : State = asked_at s keeps from (whole (Is (so_unless negated (int_lt (pos 0) value.0.0))) text) line in
    ap (λ (r : Result (Num × ℕ) NumFault). taken_as (read_in (known u) (Deciding keeps) u.input (expression_valued [] negated None text r)) u) is
    ∙ taken_as-going_on v.input (Deciding keeps) u

abbrev IsOfIt : ℕ → Type 0
IsOfIt b = is_of_expression b ≡ true

-- the bytes of an expression
pub halves-number : (negated : Bool) (text : List ℕ) (value : Result (Num × ℕ) NumFault) → IsExpression text value
    → HalvesTaken (choice negated) text (expression negated text)
halves-number negated text value is =
    subst (λ (t : List ℕ). HalvesTaken (choice negated) t (expression negated t)) (sym is.bytes)
    (halves-expression negated is.first is.others is.begins (subst (λ (t : List ℕ). All IsOfIt t) is.bytes is.are_of_it))

expression-from : (l : Limits) (s : State) (keeps : Bool) (from : Origin) (control : ℕ) (name : ShortName) (blanks : ℕ) (negated : Bool) (text : List ℕ) (value : Num × ℕ)
    (seen : Option ℕ) → BeginsLine s → HasCondition s.input.names control name keeps → IsExpression text (Ok value) → EndsThere (Expression negated) seen → FrontIs from seen
    → let bytes : List ℕ = asking blanks negated text in
    let line : List ℕ = asking_line control name bytes in
    let so : Bool = so_unless negated (int_lt (pos 0) value.0.0) in
    s.input.ahead ≡ ahead_at from line → s.tape ≡ tape_at from line s.tape → to_hold from bytes + live_bytes s.input.calls ≤ l.stack
    → IsWithin l s → IsWithin l (chosen_from s keeps from line so) → after l (length line + 2) s ≡ chosen_from s keeps from line so
expression-from l s keeps from control name blanks negated text value seen begins has is ends comes ahead tape held within chosen =
    let bytes : List ℕ = asking blanks negated text in
    let line : List ℕ = asking_line control name bytes in
    let so : Bool = so_unless negated (int_lt (pos 0) value.0.0) in
    asked-ends l s keeps so from (control ∷ name_bytes name ++ blank ∷ []) bytes (Expression negated) text s.messages seen begins
    (path-front s control name keeps has) (halves-asking blanks negated text (expression negated text) (halves-number negated text (Ok value) is)) refl ends comes
    (ends-valued s keeps negated from text line value is.comes_to) ahead tape held within chosen

-- a byte that ends an expression
pub ends-it : (b : ℕ) → EndsIt b → ends_expression (Some b) ≡ true
ends-it _ BlankEnds = refl
ends-it _ TabEnds = refl
ends-it _ NewlineEnds = refl

pub expressions_choose_their_branch : ExpressionsChooseTheirBranch
expressions_choose_their_branch l s control name keeps blanks negated text value b rest begins has is ends ahead within chosen =
    let bytes : List ℕ = asking blanks negated text in
    let line : List ℕ = asking_line control name bytes in
    let so : Bool = so_unless negated (int_lt (pos 0) value.0.0) in
    let behind : List (Ahead PageEvent) = ByteAhead b ∷ rest in
    let same = ap (λ (i : PageInput). with_branch keeps so i s) (counted-ahead behind line s.input) in
    expression-from l s keeps (FromAhead behind) control name blanks negated text value (Some b) begins has is (ends-it b ends) (AheadIs b rest) ahead refl
    (held-ahead l s behind (control ∷ name_bytes name ++ blank ∷ []) bytes within ahead) within (subst (IsWithin l) (sym same) chosen)
    ∙ same

-- what may stand behind an expression in the source ends it
pub behind-expression : (negated : Bool) (tape : Tape) (answer : Answer) → front tape ≡ answer → EndsExpression answer
    → (seen : Option ℕ) × (EndsThere (Expression negated) seen × FrontIs (FromSource tape) seen)
behind-expression negated tape _ is (BeforeByte b ends) = (Some b, (ends-it b ends, SourceIs b tape is))
behind-expression negated tape _ is BeforeTheEnd = (None, (tt, EndIs tape is))

pub expressions_of_the_source_choose_their_branch : ExpressionsOfTheSourceChooseTheirBranch
expressions_of_the_source_choose_their_branch l s control name keeps blanks negated text value tape begins has is ends none stands room within chosen =
    let line : List ℕ = asking_line control name (asking blanks negated text) in
    let so : Bool = so_unless negated (int_lt (pos 0) value.0.0) in
    let same = ap (λ (i : PageInput). with_branch keeps so i (record s { tape = tape })) (counted-source tape line s.input none) in
    let seen = behind-expression negated tape (front tape) refl ends in
    expression-from l s keeps (FromSource tape) control name blanks negated text value seen.0 begins has is seen.1.0 seen.1.1 none stands
    (omega (arith, room)) within (subst (IsWithin l) (sym same) chosen)
    ∙ same
