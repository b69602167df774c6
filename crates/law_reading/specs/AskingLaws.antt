-- Laws of the lines that ask a condition: what is asked, and the branch that comes behind it (manual, section 16).
use Rattle.std.specs.Prelude.{◌≡◌, ℕ, ◌+◌, ◌≤◌, ⊤, Bool, true, false, not, pos, int_lt, List, [], ◌∷◌, ◌++◌, length, map, replicate, All, bytes_eq, Some, Result, Ok, if◌then◌else◌}
use Rattle.roff_num.specs.Expressions.{value_at}
use Rattle.roff_num.specs.declared.limits.Limits.{Limits}
use Rattle.roff_num.specs.declared.num.Num.{Num}
use Rattle.roff_num.specs.declared.num.NumFault.{NumFault}
use Rattle.roff_num.specs.declared.num.Scale.TheVariants.{Units}
use Rattle.roff_num.specs.declared.short_name.ShortName.{ShortName}
use Rattle.roff_num.specs.ShortNames.{name_bytes}
use Rattle.input_source.specs.Bytes.{blank, is_dropped, newline, tab}
use Rattle.input_source.specs.Tape.{Answer, Tape, Ended, Ends, Gives, OneByte, front, items_then}
use Rattle.roff_store.specs.Named.{Named}
use Rattle.roff_store.specs.Texts.{Entry}
use Rattle.input_escapes.specs.ConditionFronts.{is_of_expression}
use Rattle.input_escapes.specs.Conditions.{begins_expression, so_unless}
use Rattle.input_escapes.specs.EscapeLaws.{delimits_texts, is_between, two_texts}
use Rattle.input_model.specs.Input.{Ahead, ByteAhead, lines_taken, pushed}
use Rattle.law_reading.specs.CallLaws.{BeginsLine, IsControl}
use Rattle.law_reading.specs.ConditionLaws.{AreKept}
use Rattle.run_model.specs.Reading.Branches.{branch_of, with_result_if}
use Rattle.run_model.specs.Reading.ControlLines.{BelongsToName}
use Rattle.run_model.specs.Reading.Items.{PageInput}
use Rattle.run_model.specs.Registers.{Known, is_page_odd}
use Rattle.run_model.specs.Requests.{called_by, row_of}
use Rattle.run_model.specs.Run.{State, after, known}
use Rattle.run_model.specs.Within.{IsWithin}
use Rattle.run_model.specs.PageEvents.{PageEvent}
use Rattle.run_model.specs.declared.request.Called.TheVariants.{Request as ARequest}
use Rattle.run_model.specs.declared.request.LineReading.TheVariants.{ByCondition}
use Rattle.run_model.specs.declared.request.Request.{Request}

-- a line asks a condition: its name stands for a request that reads one, whose result is kept for another branch or not
pub record HasCondition (names : Named Entry) (control : ℕ) (name : ShortName) (keeps : Bool) : Type 0 where
  pub begins : IsControl control
  pub is_name : All BelongsToName (name_bytes name)
  pub of_request : Request
  pub stands_for : called_by name names ≡ ARequest of_request
  pub reads_condition : (row_of of_request).line ≡ ByCondition keeps

-- what a condition may ask: whether the page is odd, or even; what is never so, or always; or whether two texts are the same
pub data Question : Type 0 where
  OddPage : Question
  EvenPage : Question
  Never : Question
  Always : Question
  SameTexts : (delimiter : ℕ) → (first second : List ℕ) → Question

-- its bytes
abbrev pub question_bytes : Question → List ℕ
question_bytes OddPage = 111 ∷ []
question_bytes EvenPage = 101 ∷ []
question_bytes Never = 116 ∷ []
question_bytes Always = 110 ∷ []
question_bytes (SameTexts delimiter first second) = two_texts delimiter first second

-- whether it is so
abbrev pub is_answered : Known → Question → Bool
is_answered k OddPage = is_page_odd k
is_answered k EvenPage = not (is_page_odd k)
is_answered k Never = false
is_answered k Always = true
is_answered k (SameTexts delimiter first second) = bytes_eq first second

-- two texts may stand between such delimiters as they are
pub record AreDelimited (delimiter : ℕ) (first second : List ℕ) : Type 0 where
  pub delimits : delimits_texts delimiter ≡ true
  pub first_between : is_between delimiter first ≡ true
  pub second_between : is_between delimiter second ≡ true
  pub delimiter_kept : is_dropped delimiter ≡ false
  pub first_kept : AreKept first
  pub second_kept : AreKept second

abbrev pub IsQuestion : Question → Type 0
IsQuestion (SameTexts delimiter first second) = AreDelimited delimiter first second
IsQuestion (_) = ⊤

-- blanks and perhaps a `!` in front of what is asked
abbrev pub asking : ℕ → Bool → List ℕ → List ℕ
asking blanks negated bytes = replicate blanks blank ++ (if negated then 33 ∷ bytes else bytes)

-- the line up to where what is asked ends
abbrev pub asking_line : ℕ → ShortName → List ℕ → List ℕ
asking_line control name bytes = (control ∷ name_bytes name ++ blank ∷ []) ++ bytes

-- a condition was decided so behind this input: the branch begins, which is read or skipped, and the result is kept if it is
-- to be
abbrev pub with_branch : Bool → Bool → PageInput → State → State
with_branch keeps so behind s = record s { input = with_result_if keeps so behind; reading = branch_of so }

-- A condition leads to its branch, which is read where it is so, and else skipped; its result is kept where the request keeps it.
-- So many steps lead there as the line has bytes up to the end of what is asked, and one more; each byte costs one.
abbrev pub ConditionsChooseTheirBranch : Type 0
ConditionsChooseTheirBranch =
    (l : Limits) (s : State) (control : ℕ) (name : ShortName) (keeps : Bool) (blanks : ℕ) (negated : Bool) (question : Question)
    (rest : List (Ahead PageEvent)) →
    BeginsLine s → HasCondition s.input.names control name keeps → IsQuestion question →
    let line : List ℕ = asking_line control name (asking blanks negated (question_bytes question)) in
    s.input.ahead ≡ map ByteAhead line ++ rest →
    let so : Bool = so_unless negated (is_answered (known s) question) in
    let chosen : State = with_branch keeps so (record s.input { ahead = rest; charge = s.input.charge + length line }) s in
    IsWithin l s → IsWithin l chosen → after l (length line + 1) s ≡ chosen

-- and so it is where the line stands in the source itself, with nothing ahead of it, and there is room for the texts
abbrev pub ConditionsOfTheSourceChooseTheirBranch : Type 0
ConditionsOfTheSourceChooseTheirBranch =
    (l : Limits) (s : State) (control : ℕ) (name : ShortName) (keeps : Bool) (blanks : ℕ) (negated : Bool) (question : Question)
    (tape : Tape) →
    BeginsLine s → HasCondition s.input.names control name keeps → IsQuestion question → s.input.ahead ≡ [] →
    let asked : List ℕ = asking blanks negated (question_bytes question) in
    let line : List ℕ = asking_line control name asked in
    s.tape ≡ items_then (map OneByte line) tape →
    let so : Bool = so_unless negated (is_answered (known s) question) in
    let chosen : State = with_branch keeps so (lines_taken line s.input) (record s { tape = tape }) in
    pushed s.input + length asked ≤ l.stack → IsWithin l s → IsWithin l chosen → after l (length line + 1) s ≡ chosen

-- an expression of a condition, up to the byte that ends it, and what it comes to: a value, or a fault where it is no number; what
-- of it stands behind its number is passed over
pub record IsExpression (text : List ℕ) (value : Result (Num × ℕ) NumFault) : Type 0 where
  pub first : ℕ
  pub others : List ℕ
  pub bytes : text ≡ first ∷ others
  pub begins : begins_expression first ≡ true
  pub are_of_it : All (λ b. is_of_expression b ≡ true) text
  pub comes_to : value_at text 0 Units (Some (pos 0)) ≡ value

-- a byte that ends an expression: a blank, a tab or a newline
pub data EndsIt : ℕ → Type 0 where
  BlankEnds : EndsIt blank
  TabEnds : EndsIt tab
  NewlineEnds : EndsIt newline

-- An expression up to such a byte is so where its value is above 0. Behind its bytes one step ends it, and one
-- decides; the byte that ended it stands where it stood.
abbrev pub ExpressionsChooseTheirBranch : Type 0
ExpressionsChooseTheirBranch =
    (l : Limits) (s : State) (control : ℕ) (name : ShortName) (keeps : Bool) (blanks : ℕ) (negated : Bool) (text : List ℕ)
    (value : Num × ℕ) (b : ℕ) (rest : List (Ahead PageEvent)) →
    BeginsLine s → HasCondition s.input.names control name keeps → IsExpression text (Ok value) → EndsIt b →
    let line : List ℕ = asking_line control name (asking blanks negated text) in
    s.input.ahead ≡ map ByteAhead line ++ ByteAhead b ∷ rest →
    let so : Bool = so_unless negated (int_lt (pos 0) value.0.0) in
    let behind : PageInput = record s.input { ahead = ByteAhead b ∷ rest; charge = s.input.charge + length line } in
    let chosen : State = with_branch keeps so behind s in
    IsWithin l s → IsWithin l chosen → after l (length line + 2) s ≡ chosen

-- what may stand behind an expression in the source: a byte that ends it, or the end of all input
pub data EndsExpression : Answer → Type 0 where
  BeforeByte : (b : ℕ) → EndsIt b → EndsExpression (Gives (OneByte b))
  BeforeTheEnd : EndsExpression (Ends Ended)

-- and so it is where the line stands in the source itself, with nothing ahead of it, and there is room for the expression
abbrev pub ExpressionsOfTheSourceChooseTheirBranch : Type 0
ExpressionsOfTheSourceChooseTheirBranch =
    (l : Limits) (s : State) (control : ℕ) (name : ShortName) (keeps : Bool) (blanks : ℕ) (negated : Bool) (text : List ℕ)
    (value : Num × ℕ) (tape : Tape) →
    BeginsLine s → HasCondition s.input.names control name keeps → IsExpression text (Ok value) → EndsExpression (front tape) →
    s.input.ahead ≡ [] →
    let asked : List ℕ = asking blanks negated text in
    let line : List ℕ = asking_line control name asked in
    s.tape ≡ items_then (map OneByte line) tape →
    let so : Bool = so_unless negated (int_lt (pos 0) value.0.0) in
    let chosen : State = with_branch keeps so (lines_taken line s.input) (record s { tape = tape }) in
    pushed s.input + length asked ≤ l.stack → IsWithin l s → IsWithin l chosen → after l (length line + 2) s ≡ chosen
