-- Laws of the two branches of a condition together, and of results at the end of a called body (manual, sections 7 and 16).
use Rattle.std.specs.Prelude.{◌≡◌, ℕ, ◌+◌, ◌<◌, ◌≤◌, Bool, true, not, pos, int_lt, List, [], ◌∷◌, ◌++◌, length, map, drop, All, Ok}
use Rattle.roff_num.specs.declared.limits.Limits.{Limits}
use Rattle.roff_num.specs.declared.num.Num.{Num}
use Rattle.roff_num.specs.declared.short_name.ShortName.{ShortName}
use Rattle.input_source.specs.Tape.{Tape, OneByte, front, items_then}
use Rattle.input_escapes.specs.Conditions.{so_unless}
use Rattle.input_model.specs.Input.{Ahead, ByteAhead, ReturnAhead, lines_taken, pushed}
use Rattle.law_reading.specs.AskingLaws.{EndsExpression, EndsIt, HasCondition, IsExpression, IsQuestion, Question, asking, asking_line, is_answered, question_bytes, with_branch}
use Rattle.law_reading.specs.CallLaws.{BeginsLine}
use Rattle.law_reading.specs.ElseLaws.{HasElse, else_front}
use Rattle.run_model.specs.Reading.Branches.{branch_of}
use Rattle.run_model.specs.Reading.Items.{PageInput}
use Rattle.run_model.specs.Run.{State, after, known}
use Rattle.run_model.specs.Within.{IsWithin}
use Rattle.run_model.specs.PageEvents.{PageEvent}

-- One of two branches is read, and the other is skipped: the first where this is so, in so many steps from where its line begins,
-- and the other where it isn't, in so many from where that one does. Behind both no result is kept of them.
pub record OneIsRead (l : Limits) (so : Bool) (s : State) (first : ℕ) (t : State) (other : ℕ) : Type 0 where
  pub first_is : (after l first s).reading ≡ branch_of so
  pub other_is : (after l other t).reading ≡ branch_of (not so)
  pub none_kept : (after l other t).input.results ≡ s.input.results

-- Of the branch behind a condition and the one of the next line that has the other branch exactly one is read, whatever was read
-- in between, if the results that are kept there are those behind the condition.
abbrev pub ExactlyOneBranchIsRead : Type 0
ExactlyOneBranchIsRead =
    (l : Limits) (s t : State) (control : ℕ) (name : ShortName) (blanks : ℕ) (negated : Bool) (question : Question)
    (rest : List (Ahead PageEvent)) (other_control : ℕ) (other_name : ShortName) (other_rest : List (Ahead PageEvent)) →
    BeginsLine s → HasCondition s.input.names control name true → IsQuestion question →
    let line : List ℕ = asking_line control name (asking blanks negated (question_bytes question)) in
    let other : List ℕ = else_front other_control other_name in
    s.input.ahead ≡ map ByteAhead line ++ rest →
    let so : Bool = so_unless negated (is_answered (known s) question) in
    let chosen : State = with_branch true so (record s.input { ahead = rest; charge = s.input.charge + length line }) s in
    IsWithin l s → IsWithin l chosen →
    BeginsLine t → HasElse t.input.names other_control other_name → t.input.ahead ≡ map ByteAhead other ++ other_rest →
    t.input.results ≡ chosen.input.results → IsWithin l t → t.input.charge + length other ≤ l.bytes →
    OneIsRead l so s (length line + 1) t (length other)

-- and so it is where both lines stand in the source itself, with nothing ahead of them
abbrev pub ExactlyOneBranchOfTheSourceIsRead : Type 0
ExactlyOneBranchOfTheSourceIsRead =
    (l : Limits) (s t : State) (control : ℕ) (name : ShortName) (blanks : ℕ) (negated : Bool) (question : Question)
    (tape : Tape) (other_control : ℕ) (other_name : ShortName) (other_tape : Tape) →
    BeginsLine s → HasCondition s.input.names control name true → IsQuestion question → s.input.ahead ≡ [] →
    let asked : List ℕ = asking blanks negated (question_bytes question) in
    let line : List ℕ = asking_line control name asked in
    let other : List ℕ = else_front other_control other_name in
    s.tape ≡ items_then (map OneByte line) tape →
    let so : Bool = so_unless negated (is_answered (known s) question) in
    let chosen : State = with_branch true so (lines_taken line s.input) (record s { tape = tape }) in
    pushed s.input + length asked ≤ l.stack → IsWithin l s → IsWithin l chosen →
    BeginsLine t → HasElse t.input.names other_control other_name → t.input.ahead ≡ [] →
    t.tape ≡ items_then (map OneByte other) other_tape →
    t.input.results ≡ chosen.input.results → IsWithin l t → t.input.charge + length other ≤ l.bytes →
    OneIsRead l so s (length line + 1) t (length other)

-- So it is of an expression, up to the byte that ends it, where it is a number.
abbrev pub OneBranchOfAnExpressionIsRead : Type 0
OneBranchOfAnExpressionIsRead =
    (l : Limits) (s t : State) (control : ℕ) (name : ShortName) (blanks : ℕ) (negated : Bool) (text : List ℕ) (value : Num × ℕ) (b : ℕ)
    (rest : List (Ahead PageEvent)) (other_control : ℕ) (other_name : ShortName) (other_rest : List (Ahead PageEvent)) →
    BeginsLine s → HasCondition s.input.names control name true → IsExpression text (Ok value) → EndsIt b →
    let line : List ℕ = asking_line control name (asking blanks negated text) in
    let other : List ℕ = else_front other_control other_name in
    s.input.ahead ≡ map ByteAhead line ++ ByteAhead b ∷ rest →
    let so : Bool = so_unless negated (int_lt (pos 0) value.0.0) in
    let behind : PageInput = record s.input { ahead = ByteAhead b ∷ rest; charge = s.input.charge + length line } in
    let chosen : State = with_branch true so behind s in
    IsWithin l s → IsWithin l chosen →
    BeginsLine t → HasElse t.input.names other_control other_name → t.input.ahead ≡ map ByteAhead other ++ other_rest →
    t.input.results ≡ chosen.input.results → IsWithin l t → t.input.charge + length other ≤ l.bytes →
    OneIsRead l so s (length line + 2) t (length other)

-- and so it is where both lines stand in the source itself, with nothing ahead of them
abbrev pub OneBranchOfAnExpressionOfTheSourceIsRead : Type 0
OneBranchOfAnExpressionOfTheSourceIsRead =
    (l : Limits) (s t : State) (control : ℕ) (name : ShortName) (blanks : ℕ) (negated : Bool) (text : List ℕ) (value : Num × ℕ)
    (tape : Tape) (other_control : ℕ) (other_name : ShortName) (other_tape : Tape) →
    BeginsLine s → HasCondition s.input.names control name true → IsExpression text (Ok value) → EndsExpression (front tape) →
    s.input.ahead ≡ [] →
    let asked : List ℕ = asking blanks negated text in
    let line : List ℕ = asking_line control name asked in
    let other : List ℕ = else_front other_control other_name in
    s.tape ≡ items_then (map OneByte line) tape →
    let so : Bool = so_unless negated (int_lt (pos 0) value.0.0) in
    let chosen : State = with_branch true so (lines_taken line s.input) (record s { tape = tape }) in
    pushed s.input + length asked ≤ l.stack → IsWithin l s → IsWithin l chosen →
    BeginsLine t → HasElse t.input.names other_control other_name → t.input.ahead ≡ [] →
    t.tape ≡ items_then (map OneByte other) other_tape →
    t.input.results ≡ chosen.input.results → IsWithin l t → t.input.charge + length other ≤ l.bytes →
    OneIsRead l so s (length line + 2) t (length other)

-- results that were kept while so many bodies that lines called, or more, hadn't ended, and those kept while fewer hadn't
abbrev pub AreKeptWithin : ℕ → List (Bool × ℕ) → Type 0
AreKeptWithin calls results = All (λ (result : Bool × ℕ). calls ≤ result.1) results

abbrev pub AreKeptOutside : ℕ → List (Bool × ℕ) → Type 0
AreKeptOutside calls results = All (λ (result : Bool × ℕ). result.1 < calls) results

-- At the end of a called body the results that were kept in it are gone, and those kept outside of it stay. It takes one step, at
-- the cost of one, and a line begins.
abbrev pub ResultsEndWithTheirBody : Type 0
ResultsEndWithTheirBody =
    (l : Limits) (s : State) (inside outside : List (Bool × ℕ)) (rest : List (Ahead PageEvent)) →
    BeginsLine s → s.input.ahead ≡ ReturnAhead 0 ∷ rest → s.input.results ≡ inside ++ outside →
    AreKeptWithin (length s.input.calls) inside → AreKeptOutside (length s.input.calls) outside →
    IsWithin l s → s.input.charge + 1 ≤ l.bytes →
    after l 1 s
    ≡ record s {
      input = record s.input { ahead = rest; charge = s.input.charge + 1; calls = drop 1 s.input.calls; results = outside };
    }
