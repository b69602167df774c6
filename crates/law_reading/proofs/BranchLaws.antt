-- Of two branches one is read: the other takes the newest result that is kept, and results end with the body in which they were kept.
use Rattle.std.proofs.Common.{◌≡◌, ℕ, ◌+◌, ◌<◌, ◌≤◌, Bool, true, List, [], ◌∷◌, ◌++◌, length, Option, Some, None, refl, ap, sym, ◌∙◌, arith, ◌-◌, false, drop, if◌then◌else◌, All, le-leb, le-ltb, length-append, length-drop}
use Rattle.std.proofs.lemmas.Bool.{lt-leb}
use Rattle.std.proofs.lemmas.List.Elements.{All-head, All-tail}
use Rattle.roff_num.specs.declared.limit.Limit.TheVariants.{Bytes}
use Rattle.roff_num.specs.declared.limits.Limits.{Limits}
use Rattle.input_model.specs.Arguments.{live_bytes, Arguments, no_arguments}
use Rattle.input_escapes.specs.OpenEscape.{OpenEscape}
use Rattle.input_model.specs.Input.{Ahead, ReturnAhead, bytes_ahead, counting, ends_ahead, item_taken, lines_taken, results_below}
use Rattle.law_reading.proofs.AskingLaws.{conditions_choose_their_branch, conditions_of_the_source_choose_their_branch, expressions_choose_their_branch, expressions_of_the_source_choose_their_branch}
use Rattle.law_reading.specs.AskingLaws.{asking, asking_line, question_bytes}
use Rattle.law_reading.specs.BranchLaws.{AreKeptOutside, AreKeptWithin, ExactlyOneBranchIsRead, ExactlyOneBranchOfTheSourceIsRead, OneBranchOfAnExpressionIsRead, OneBranchOfAnExpressionOfTheSourceIsRead, OneIsRead, ResultsEndWithTheirBody}
use Rattle.law_reading.specs.CallLaws.{BeginsLine, IsControl}
use Rattle.law_reading.specs.ElseLaws.{else_front, is_other_read, ElseOfTheSourceTakesTheNewestResult, ElseTakesTheNewestResult, HasElse}
use Rattle.run_model.proofs.ItemsTaken.{Fits, made-Fits, step-reads, FromAhead, FromSource, Origin, ahead_at, not-first, not-second, tape_at, taken_as-going_on}
use Rattle.run_model.specs.Reading.Branches.{branch_of, reads_else, branch_taking}
use Rattle.run_model.specs.Reading.Returns.{behind_return}
use Rattle.run_model.specs.Reading.Items.{PageInput, Taking, going_on}
use Rattle.run_model.specs.Reading.Waiting.{waiting_above}
use Rattle.run_model.specs.Run.{State, ahead_taken, in_front_taken, made, read_waiting, going_back_to, step, stopped_by, after, byte_taken, known, taken_as}
use Rattle.run_model.specs.PageEvents.{PageEvent}
use Rattle.run_model.specs.declared.line_state.LineState.{LineState}
use Rattle.run_model.specs.declared.line_state.LineState.TheVariants.{LineStart, Control, Name}
use Rattle.roff_num.specs.declared.short_name.ShortName.{ShortName}
use Rattle.input_source.specs.Bytes.{blank, is_dropped}
use Rattle.input_model.specs.Input.Calls.{last_result, with_result, without_last}
use Rattle.roff_store.specs.Named.{Named}
use Rattle.roff_store.specs.Texts.{Entry}
use Rattle.law_reading.proofs.LineNames.{Allows, onward, turns-control}
use Rattle.run_model.proofs.NameBytes.{turns-first}
use Rattle.run_model.proofs.PlainRuns.{HasRoom-behind, Here, Path, after-Path, behind_byte, behind_bytes, counted, counted-ahead, counted-last, counted-source, is-run_at, run_at, step-taken}
use Rattle.run_model.specs.Reading.{byte_taking, undropped_taking}
use Rattle.run_model.specs.Reading.ControlLines.{BelongsToName, behind_called, behind_name, called_taking, ends_name, line_taking, name_ended_taking, name_whole_taking}
use Rattle.run_model.specs.Reading.Ends.{due}
use Rattle.run_model.specs.Registers.{Known}
use Rattle.run_model.specs.Requests.{called_by}
use Rattle.run_model.specs.Stages.{Stage}
use Rattle.run_model.specs.Within.{IsWithin}
use Rattle.run_model.specs.declared.request.Called.{Called}
use Rattle.run_model.specs.declared.request.LineReading.{LineReading}
use Rattle.law_reading.proofs.LineRooms.{RoomIn, most_of, reads_at, room-start, within-room}

-- a blank where a branch begins
branch-blank : (so : Bool) (k : Known) (i : PageInput) → i.escapes ≡ [] → branch_taking k i so blank ≡ going_on i (branch_of so)
branch-blank true k i none_half =
    ap (λ (half : List OpenEscape). branch_taking k (record i { escapes = half }) true blank) none_half
    ∙ ap (λ (half : List OpenEscape). going_on (record i { escapes = half }) (branch_of true)) (sym none_half)
branch-blank false k i none_half = refl

taking-blank : (so : Bool) (k : Known) (i : PageInput) → i.escapes ≡ [] → byte_taking k (branch_of so) i blank ≡ going_on i (branch_of so)
taking-blank true k i none_half = branch-blank true k i none_half
taking-blank false k i none_half = refl

none-due : (so : Bool) → due (branch_of so) ≡ None
none-due true = refl
none-due false = refl

-- the result goes, where the other branch is read or skipped
abbrev without : State → Origin → List ℕ → PageInput → State
without s from bytes i = run_at s s.input.names (reads_at (branch_of (reads_else (last_result i))) s) from bytes (without_last i)

fewer : (n m most : ℕ) → m ≡ n - 1 → n ≤ most → m ≤ most
fewer n m most is few = omega (arith, is, few)

within-without : (l : Limits) (s : State) (from : Origin) (reading : LineState) (bytes : List ℕ) (i : PageInput) → RoomIn l s from reading bytes i → IsWithin l (without s from bytes i)
within-without l s from reading bytes i room =
    let within : IsWithin l (run_at s s.input.names (reads_at reading s) from bytes i) = within-room l s from reading bytes i room in
    record {
      bytes = within.bytes;
      stack = within.stack;
      depth = within.depth;
      store = within.store;
      texts = within.texts;
      making = within.making;
      conditions = fewer (length i.results) (length (drop 1 i.results)) l.conditions (length-drop 1 i.results) within.conditions;
      names = within.names;
      title = within.title;
      environments = within.environments;
      output = within.output;
      traps = within.traps;
    }

-- what the name stands for, at its last byte, and at the blank behind it
behind-else : (names : Named Entry) (control : ℕ) (name : ShortName) (i : PageInput) (breaks : Bool) → HasElse names control name → i.names ≡ names
    → behind_called i breaks (called_by name i.names) ≡ going_on (without_last i) (branch_of (reads_else (last_result i)))
behind-else names control name i breaks has is_names =
    ap (λ (n : Named Entry). behind_called i breaks (called_by name n)) is_names
    ∙ ap (behind_called i breaks) has.stands_for
    ∙ ap (behind_name i breaks has.of_request) has.reads_branch

blank-else : (names : Named Entry) (control : ℕ) (name : ShortName) (k : Known) (i : PageInput) (breaks : Bool) → HasElse names control name → i.names ≡ names → i.escapes ≡ []
    → name_ended_taking k i breaks name blank ≡ going_on (without_last i) (branch_of (reads_else (last_result i)))
blank-else names control name k i breaks has is_names none_half =
    ap (λ (n : Named Entry). called_taking k i breaks (called_by name n) blank) is_names
    ∙ ap (λ (called : Called). called_taking k i breaks called blank) has.stands_for
    ∙ ap (λ (reads : LineReading). line_taking k i breaks has.of_request reads blank) has.reads_branch
    ∙ branch-blank (reads_else (last_result i)) k (without_last i) none_half

-- a run behind the front of the line
abbrev else_from : State → Origin → List ℕ → State
else_from s from front =
    record s { tape = tape_at from [] s.tape; input = without_last (counted from front s.input); reading = branch_of (is_other_read s.input.results) }

reads-newest : (results : List (Bool × ℕ)) → reads_else (elim results [ [] ↦ None | result ∷ others ↦ Some result.0 ]) ≡ is_other_read results
reads-newest [] = refl
reads-newest (result ∷ others) = refl

is-else : (s : State) (from : Origin) (front : List ℕ) (b : ℕ) → BeginsLine s
    → without s from [] (behind_byte from b (behind_bytes from front s.input)) ≡ else_from s from (front ++ b ∷ [])
is-else s from front b begins =
    let of : PageInput → Arguments → List OpenEscape → State = λ j a h. record s {
      tape = tape_at from [] s.tape;
      input = without_last (record j { arguments = a; escapes = h; names = s.input.names; open_texts = s.input.open_texts });
      reading = branch_of (reads_else (last_result j));
    } in
    let j : PageInput = counted from (front ++ b ∷ []) s.input in
    ap (λ (k : PageInput). of k no_arguments []) (counted-last from front b s.input)
    ∙ ap (λ (a : Arguments). of j a []) (sym begins.arguments)
    ∙ ap (λ (h : List OpenEscape). of j s.input.arguments h) (sym begins.escapes)
    ∙ ap (λ (so : Bool). record s { tape = tape_at from [] s.tape; input = without_last j; reading = branch_of so }) (reads-newest s.input.results)

-- the control character and the first byte of the name
path-first : (s : State) (control first : ℕ) → IsControl control → BelongsToName first
    → (breaks : Bool) × Path (most_of s) s.input.names (reads_at LineStart s) (control ∷ first ∷ []) (reads_at (Name breaks first) s)
path-first s control first is_control belongs =
    let names : Named Entry = s.input.names in
    let texts : List (List ℕ) = s.input.open_texts in
    let begins = turns-control names no_arguments texts control is_control in
    let there : Stage = reads_at (Name begins.0 first) s in
    let allows : Allows (most_of s) no_arguments texts = record { held_few = omega arith; stored_few = omega arith; texts_few = omega arith } in (
      begins.0,
      onward (most_of s) names no_arguments texts LineStart (Control begins.0) control (first ∷ []) there refl begins.1 allows
          (onward (most_of s) names no_arguments texts (Control begins.0) (Name begins.0 first) first [] there refl
          (turns-first names no_arguments texts begins.0 first belongs) allows (Here there)),
    )

else-from : (l : Limits) (s : State) (from : Origin) (control first : ℕ) (second : Option ℕ)
    → let name : ShortName = record { first = first; second = second } in
    BeginsLine s → HasElse s.input.names control name → s.input.ahead ≡ ahead_at from (else_front control name) → s.tape ≡ tape_at from (else_front control name) s.tape
    → IsWithin l s → s.input.charge + length (else_front control name) ≤ l.bytes
    → after l (length (else_front control name)) s ≡ else_from s from (else_front control name)
else-from l s from control first None begins has ahead tape within charged =
    let name : ShortName = record { first = first; second = None } in
    let line : List ℕ = control ∷ first ∷ blank ∷ [] in
    let names : Named Entry = s.input.names in
    let begun = path-first s control first has.begins (All-head BelongsToName first [] has.is_name) in
    let q : Stage = reads_at (Name begun.0 first) s in
    let is : run_at s names (reads_at LineStart s) from line s.input ≡ s =
    is-run_at s from line (reads_at LineStart s) begins.reading begins.escapes begins.arguments refl ahead tape in
    let there = after-Path l s names from (most_of s) (reads_at LineStart s) q (control ∷ first ∷ []) (blank ∷ []) s.input begins.takes begun.1
    (room-start l s from line begins ahead tape within charged) in
    let m : PageInput = behind_bytes from (control ∷ first ∷ []) s.input in
    let u : State = run_at s names q from [] (behind_byte from blank m) in
    let room : RoomIn l s from (Name begun.0 first) [] (behind_byte from blank m) =
    HasRoom-behind l s names from (most_of s) q q blank [] m (omega arith) there.1 in
    let takes : byte_taken blank u ≡ without s from [] (behind_byte from blank m) =
    ap (λ (t : Taking). taken_as t u) (blank-else names control name (known u) u.input begun.0 has refl refl)
    ∙ taken_as-going_on (without_last u.input) (branch_of (reads_else (last_result u.input))) u in
    ap (after l 3) (sym is)
    ∙ ap (after l 1) there.0
    ∙ step-taken l s names from q blank [] m (without s from [] (behind_byte from blank m)) begins.takes refl refl (omega (arith, there.1.charged)) takes
    (within-without l s from (Name begun.0 first) [] (behind_byte from blank m) room)
    ∙ is-else s from (control ∷ first ∷ []) blank begins
else-from l s from control first (Some second) begins has ahead tape within charged =
    let name : ShortName = record { first = first; second = Some second } in
    let line : List ℕ = control ∷ first ∷ second ∷ blank ∷ [] in
    let names : Named Entry = s.input.names in
    let others : All BelongsToName (second ∷ []) = All-tail BelongsToName first (second ∷ []) has.is_name in
    let belongs : BelongsToName second = All-head BelongsToName second [] others in
    let begun = path-first s control first has.begins (All-head BelongsToName first (second ∷ []) has.is_name) in
    let q : Stage = reads_at (Name begun.0 first) s in
    let is : run_at s names (reads_at LineStart s) from line s.input ≡ s =
    is-run_at s from line (reads_at LineStart s) begins.reading begins.escapes begins.arguments refl ahead tape in
    let there = after-Path l s names from (most_of s) (reads_at LineStart s) q (control ∷ first ∷ []) (second ∷ blank ∷ []) s.input begins.takes begun.1
    (room-start l s from line begins ahead tape within charged) in
    let m : PageInput = behind_bytes from (control ∷ first ∷ []) s.input in
    let j : PageInput = behind_byte from second m in
    let u : State = run_at s names q from (blank ∷ []) j in
    let so : Bool = reads_else (last_result s.input) in
    let room : RoomIn l s from (Name begun.0 first) (blank ∷ []) j = HasRoom-behind l s names from (most_of s) q q second (blank ∷ []) m (omega arith) there.1 in
    let room_behind : RoomIn l s from (Name begun.0 first) [] (behind_byte from blank j) = HasRoom-behind l s names from (most_of s) q q blank [] j (omega arith) room in
    let takes : byte_taken second u ≡ without s from (blank ∷ []) j =
    ap (λ (c : Bool). taken_as (if c then going_on u.input (Name begun.0 first) else undropped_taking (known u) (Name begun.0 first) u.input second) u)
    (not-first (is_dropped second) (ends_name second) belongs)
    ∙ ap (λ (c : Bool). taken_as (if c then name_ended_taking (known u) u.input begun.0 (record { first = first; second = None }) second else name_whole_taking u.input begun.0 name) u)
    (not-second (is_dropped second) (ends_name second) belongs)
    ∙ ap (λ (t : Taking). taken_as t u) (behind-else names control name u.input begun.0 has refl)
    ∙ taken_as-going_on (without_last u.input) (branch_of so) u in
    let last : Stage = reads_at (branch_of so) s in
    let v : State = run_at s names last from [] (behind_byte from blank (without_last j)) in
    let stays : byte_taken blank v ≡ without s from [] (behind_byte from blank j) =
    ap (λ (t : Taking). taken_as t v) (taking-blank so (known v) v.input refl) ∙ taken_as-going_on v.input (branch_of so) v in
    ap (after l 4) (sym is)
    ∙ ap (after l 2) there.0
    ∙ ap (after l 1) (step-taken l s names from q second (blank ∷ []) m (without s from (blank ∷ []) j) begins.takes refl refl (omega (arith, there.1.charged)) takes
    (within-without l s from (Name begun.0 first) (blank ∷ []) j room))
    ∙ step-taken l s names from last blank [] (without_last j) (without s from [] (behind_byte from blank j)) begins.takes (none-due so) refl (omega (arith, room.charged)) stays
    (within-without l s from (Name begun.0 first) [] (behind_byte from blank j) room_behind)
    ∙ is-else s from (control ∷ first ∷ second ∷ []) blank begins

pub else_takes_the_newest_result : ElseTakesTheNewestResult
else_takes_the_newest_result l s control name rest begins has ahead within charged =
    else-from l s (FromAhead rest) control name.first name.second begins has ahead refl within charged
    ∙ ap (λ (i : PageInput). record s { input = without_last i; reading = branch_of (is_other_read s.input.results) }) (counted-ahead rest (else_front control name) s.input)

pub else_of_the_source_takes_the_newest_result : ElseOfTheSourceTakesTheNewestResult
else_of_the_source_takes_the_newest_result l s control name tape begins has none stands within charged =
    else-from l s (FromSource tape) control name.first name.second begins has none stands within charged
    ∙ ap (λ (i : PageInput). record s { tape = tape; input = without_last i; reading = branch_of (is_other_read s.input.results) }) (counted-source tape (else_front control name) s.input none)

-- bytes of the source keep no result
results-lines : (bytes : List ℕ) (i : PageInput) → (lines_taken bytes i).results ≡ i.results
results-lines [] i = refl
results-lines (b ∷ bytes) i = results-lines bytes (counting b i)

-- of both branches, by what their lines lead to
one-is-read : (l : Limits) (so : Bool) (s t first other : State) (n m calls : ℕ) → after l n s ≡ first → first.reading ≡ branch_of so → after l m t ≡ other
    → other.reading ≡ branch_of (is_other_read t.input.results) → other.input.results ≡ drop 1 t.input.results → t.input.results ≡ (so, calls) ∷ s.input.results
    → OneIsRead l so s n t m
one-is-read l so s t first other n m calls one read_first two read_other left kept = record {
  first_is = ap (λ (u : State). u.reading) one ∙ read_first;
  other_is = ap (λ (u : State). u.reading) two ∙ read_other ∙ ap (λ (results : List (Bool × ℕ)). branch_of (is_other_read results)) kept;
  none_kept = ap (λ (u : State). u.input.results) two ∙ left ∙ ap (λ (results : List (Bool × ℕ)). drop 1 results) kept;
}

-- and of those in the source
one-of-the-source : (l : Limits) (so : Bool) (s t first other : State) (n m : ℕ) (line front : List ℕ) → after l n s ≡ first → first.reading ≡ branch_of so → after l m t ≡ other
    → other.reading ≡ branch_of (is_other_read t.input.results) → other.input.results ≡ drop 1 (lines_taken front t.input).results
    → t.input.results ≡ (with_result so (lines_taken line s.input)).results → OneIsRead l so s n t m
one-of-the-source l so s t first other n m line front one read_first two read_other left kept =
    let i : PageInput = lines_taken line s.input in
    one-is-read l so s t first other n m (length i.calls) one read_first two read_other
    (left ∙ ap (λ (results : List (Bool × ℕ)). drop 1 results) (results-lines front t.input))
    (kept ∙ ap (λ (results : List (Bool × ℕ)). (so, length i.calls) ∷ results) (results-lines line s.input))

pub exactly_one_branch_is_read : ExactlyOneBranchIsRead
exactly_one_branch_is_read l s t control name blanks negated question rest other_control other_name other_rest begins has is ahead within chosen later has_else stands kept within_later charged =
    one-is-read l _ s t _ _ _ _ (length s.input.calls)
    (conditions_choose_their_branch l s control name true blanks negated question rest begins has is ahead within chosen) refl
    (else_takes_the_newest_result l t other_control other_name other_rest later has_else stands within_later charged) refl refl kept

pub exactly_one_branch_of_the_source_is_read : ExactlyOneBranchOfTheSourceIsRead
exactly_one_branch_of_the_source_is_read l s t control name blanks negated question tape other_control other_name other_tape begins has is none ahead room within chosen later has_else none_later stands kept within_later charged =
    one-of-the-source l _ s t _ _ _ _ (asking_line control name (asking blanks negated (question_bytes question))) (else_front other_control other_name)
    (conditions_of_the_source_choose_their_branch l s control name true blanks negated question tape begins has is none ahead room within chosen) refl
    (else_of_the_source_takes_the_newest_result l t other_control other_name other_tape later has_else none_later stands within_later charged) refl refl kept

pub one_branch_of_an_expression_is_read : OneBranchOfAnExpressionIsRead
one_branch_of_an_expression_is_read l s t control name blanks negated text value b rest other_control other_name other_rest begins has is ends ahead within chosen later has_else stands kept within_later charged =
    one-is-read l _ s t _ _ _ _ (length s.input.calls)
    (expressions_choose_their_branch l s control name true blanks negated text value b rest begins has is ends ahead within chosen) refl
    (else_takes_the_newest_result l t other_control other_name other_rest later has_else stands within_later charged) refl refl kept

pub one_branch_of_an_expression_of_the_source_is_read : OneBranchOfAnExpressionOfTheSourceIsRead
one_branch_of_an_expression_of_the_source_is_read l s t control name blanks negated text value tape other_control other_name other_tape begins has is ends none ahead room within chosen later has_else none_later stands kept within_later charged =
    one-of-the-source l _ s t _ _ _ _ (asking_line control name (asking blanks negated text)) (else_front other_control other_name)
    (expressions_of_the_source_choose_their_branch l s control name true blanks negated text value tape begins has is ends none ahead room within chosen) refl
    (else_of_the_source_takes_the_newest_result l t other_control other_name other_tape later has_else none_later stands within_later charged) refl refl kept

-- the results that are kept behind the end of a body
below-outside : (calls : ℕ) (outside : List (Bool × ℕ)) → AreKeptOutside calls outside → results_below calls outside ≡ outside
below-outside calls [] are = refl
below-outside calls (result ∷ others) are =
    ap (λ (c : Bool). if c then results_below calls others else result ∷ others)
    (lt-leb calls result.1 (All-head (λ (r : Bool × ℕ). r.1 < calls) result others are))

below-inside : (calls : ℕ) (inside outside : List (Bool × ℕ)) → AreKeptWithin calls inside → AreKeptOutside calls outside → results_below calls (inside ++ outside) ≡ outside
below-inside calls [] outside within are = below-outside calls outside are
below-inside calls (result ∷ others) outside within are =
    ap (λ (c : Bool). if c then results_below calls (others ++ outside) else result ∷ others ++ outside)
    (le-leb calls result.1 (All-head (λ (r : Bool × ℕ). calls ≤ r.1) result others within))
    ∙ below-inside calls others outside (All-tail (λ (r : Bool × ℕ). calls ≤ r.1) result others within) are

-- the arguments of the calls that are left
live-drop : (calls : List (List (List ℕ))) → live_bytes (drop 1 calls) ≤ live_bytes calls
live-drop [] = omega arith
live-drop (arguments ∷ calls) = omega arith

-- the end of a body in front is taken
step-return : (l : Limits) (s : State) (rest : List (Ahead PageEvent)) → BeginsLine s → s.input.ahead ≡ ReturnAhead 0 ∷ rest → s.input.charge + 1 ≤ l.bytes
    → step l s ≡ made l s (record s { input = item_taken (ReturnAhead 0) rest s.input })
step-return l s rest begins ahead charged =
    let there : State = record s { input = item_taken (ReturnAhead 0) rest s.input } in
    let done : State = made l s (ahead_taken (ReturnAhead 0) there) in
    step-reads l s begins.takes.going begins.takes.idle begins.takes.unsprung begins.takes.none_due
    ∙ ap (λ (r : LineState). read_waiting l (waiting_above r s.input.arguments.place s.input.escapes) s) begins.reading
    ∙ ap (λ (half : List OpenEscape). read_waiting l (waiting_above LineStart s.input.arguments.place half) s) begins.escapes
    ∙ ap (λ (items : List (Ahead PageEvent)). in_front_taken l items s) ahead
    ∙ ap (λ (c : Bool). if c then stopped_by l Bytes s else done) (le-ltb l.bytes (s.input.charge + 1) (omega (arith, charged)))
    ∙ ap (λ (r : LineState). made l s (going_back_to (behind_return 0 r) there)) begins.reading
    ∙ ap (λ (r : LineState). made l s (record there { reading = r })) (sym begins.reading)

pub results_end_with_their_body : ResultsEndWithTheirBody
results_end_with_their_body l s inside outside rest begins ahead results are_within are_outside within charged =
    let taken : State = record s { input = item_taken (ReturnAhead 0) rest s.input } in
    let of : List (Bool × ℕ) → State = λ kept. record s { input = record s.input { ahead = rest; charge = s.input.charge + 1; calls = drop 1 s.input.calls; results = kept } } in
    let same : taken ≡ of outside =
    ap of (ap (results_below (length s.input.calls)) results ∙ below-inside (length s.input.calls) inside outside are_within are_outside) in
    let fits : Fits l s.registers (of outside).input = record {
      names = within.names;
      title = within.title;
      stack = omega (arith, within.stack, ap bytes_ahead ahead, live-drop s.input.calls);
      depth = omega (arith, within.depth, ap ends_ahead ahead);
      store = within.store;
      texts = within.texts;
      making = within.making;
      conditions = omega (arith, within.conditions, ap (λ (r : List (Bool × ℕ)). length r) results, length-append inside outside);
    } in
    step-return l s rest begins ahead charged ∙ ap (made l s) same ∙ made-Fits l s (of outside) fits
