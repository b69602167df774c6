-- What reading of control lines changes in the input: its counts stay, no free byte comes ahead, and few endings more are to
-- come.
--
-- Each function f of reading has its lemma here, with a line for each of its cases: Alike-f where it changes arguments and
-- texts alone, and else Keeps-f.
use Rattle.std.proofs.Common.{◌≡◌, ℕ, ◌≤◌, Bool, true, false, List, [], ◌∷◌, Option, Some, None, refl, sym, subst, ap, ◌∙◌, arith, ◌&&◌, length, nat_le, if◌then◌else◌, ◌==◌}
use Rattle.input_source.specs.Bytes.{newline, blank, quote}
use Rattle.input_model.specs.Input.Calls.{arguments_given, called_text, calling_body}
use Rattle.input_model.specs.Input.Names.{body_named, calling, calling_on}
use Rattle.input_escapes.specs.declared.open_escape.CopyUnit.{CopyUnit}
use Rattle.input_escapes.specs.declared.open_escape.CopyUnit.TheVariants.{Byte, Kept}
use Rattle.input_escapes.specs.OpenEscape.{unit_bytes}
use Rattle.input_escapes.specs.declared.open_escape.Found.{Found}
use Rattle.input_escapes.specs.declared.open_escape.Found.TheVariants.{GoesOn, Unit as GivesUnit, Holds, Escape, Asks, Motion, Measures, Tells, Decides}
use Rattle.run_model.specs.declared.line_state.LineState.{LineState}
use Rattle.run_model.specs.declared.line_state.LineState.TheVariants.{LineStart, Collecting}
use Rattle.run_model.specs.declared.purpose.Purpose.TheVariants.{Arguments as InArguments, Telling, Calling, Defining}
use Rattle.roff_num.specs.declared.short_name.ShortName.{ShortName}
use Rattle.run_model.specs.declared.request.LineReading.{LineReading}
use Rattle.run_model.specs.declared.request.LineReading.TheVariants.{ByArguments, ByCondition, ByElse, ByLastLine, ByMessage, ByString, ByLines, ByTitle}
use Rattle.run_model.specs.declared.request.LinesFor.{LinesFor}
use Rattle.run_model.specs.declared.request.LinesFor.TheVariants.{Macro, Nobody}
use Rattle.roff_num.specs.ShortNames.{name_at, name_bytes, name_or_none}
use Rattle.run_model.specs.declared.request.Request.{Request}
use Rattle.run_model.specs.Reading.Arguments.{unit_found, arguments_ended, reading_behind, calling_all, ended_by}
use Rattle.run_model.specs.Reading.Collecting.{collected, unit_taking}
use Rattle.run_model.specs.Reading.Calls.{holding_call, call_unit}
use Rattle.run_model.specs.Reading.Definitions.{lines_begun, definition_begun, definition_named, definition_dropped, definition_grown}
use Rattle.run_model.specs.Reading.Items.{PageInput, going_on}
use Rattle.run_model.specs.Reading.Messages.{message_unit}
use Rattle.run_model.specs.Reading.Strings.{name_read, string_begun, string_emptied, string_entered, string_grown, string_line_ended, string_name_behind, string_name_or_text, string_name_unit, string_unit}
use Rattle.run_model.specs.Reading.Units.{holding, interrupted, no_unit_found, settling}
use Rattle.input_model.specs.Arguments.{no_arguments}
use Rattle.roff_store.specs.TextCalls.{Call, DropOpen, PushOpen, Enter}
use Rattle.roff_store.specs.Texts.{newest}
use Rattle.run_model.specs.Registers.{Known}
use Rattle.run_model.specs.Requests.{Effect, row_of, request_effect, PageEvent}
use Rattle.run_model.specs.TurnsToCome.{begun, endings_of, free_ahead}
use Rattle.input_model.specs.Input.{Ahead}
use Rattle.input_model.specs.Input.Few.{AreFewFrom}
use Rattle.input_model.proofs.FewEvents.{few-called, few-more}
use Rattle.run_model.proofs.Collected.{of-collected}
use Rattle.run_model.proofs.KeepingText.{Keeps, KeepsBy, Keeps-if, free_ahead-called, Keeps-measuring, Keeps-holding_text, Keeps-asking}

-- an input that differs from another in its arguments and texts alone
pub record Alike (j i : PageInput) : Type 0 where
  pub charge : j.charge ≡ i.charge
  pub newlines : j.newlines ≡ i.newlines
  pub line : j.line ≡ i.line
  pub ahead : j.ahead ≡ i.ahead
  pub escapes : j.escapes ≡ i.escapes

pub Alike-same : (i : PageInput) → Alike i i
Alike-same i = record { charge = refl; newlines = refl; line = refl; ahead = refl; escapes = refl }

-- where no name is read it keeps what was kept
pub Keeps-alike : (most : ℕ) (i j : PageInput) (old : LineState) (n : PageInput) (reading : LineState) → Keeps most i j old → Alike n j → begun reading ≡ 0 → Keeps most i n reading
Keeps-alike most i j old n reading keeps alike unnamed = record {
  charge = alike.charge ∙ keeps.charge;
  newlines = alike.newlines ∙ keeps.newlines;
  line = alike.line ∙ keeps.line;
  free = ap free_ahead alike.ahead ∙ keeps.free;
  few = λ room within few. subst (λ (items : List (Ahead PageEvent)). AreFewFrom room items) (sym alike.ahead) (keeps.few room within few);
  escapes = let same : endings_of n.escapes ≡ endings_of j.escapes = ap endings_of alike.escapes in omega (arith, keeps.escapes, same, unnamed);
}

-- and where no more turns of its own are needed
pub Keeps-no_more : (most : ℕ) (i j : PageInput) (old : LineState) (n : PageInput) (reading : LineState) → Keeps most i j old → Alike n j → begun reading ≤ begun old
    → Keeps most i n reading
Keeps-no_more most i j old n reading keeps alike few = record {
  charge = alike.charge ∙ keeps.charge;
  newlines = alike.newlines ∙ keeps.newlines;
  line = alike.line ∙ keeps.line;
  free = ap free_ahead alike.ahead ∙ keeps.free;
  few = λ room within few. subst (λ (items : List (Ahead PageEvent)). AreFewFrom room items) (sym alike.ahead) (keeps.few room within few);
  escapes = let same : endings_of n.escapes ≡ endings_of j.escapes = ap endings_of alike.escapes in omega (arith, keeps.escapes, same, few);
}

-- calls on what names stand for leave an input alike
Alike-calling_all : (calls : List Call) (j i : PageInput) → Alike j i → Alike (calling_all calls j) i
Alike-calling_all [] j i alike = alike
Alike-calling_all (call ∷ calls) j i alike =
    Alike-calling_all calls (calling call j) i (record { charge = alike.charge; newlines = alike.newlines; line = alike.line; ahead = alike.ahead; escapes = alike.escapes })

-- so do calls on texts
Alike-calling_on : (call : ℕ → Call) (id : Option ℕ) (i : PageInput) → Alike (calling_on call id i) i
Alike-calling_on call None i = Alike-same i
Alike-calling_on call (Some id) i = record { charge = refl; newlines = refl; line = refl; ahead = refl; escapes = refl }

pub Alike-string_begun : (name : Option ShortName) (i : PageInput) → Alike (string_begun name i) i
Alike-string_begun None i = record { charge = refl; newlines = refl; line = refl; ahead = refl; escapes = refl }
Alike-string_begun (Some name) i = record { charge = refl; newlines = refl; line = refl; ahead = refl; escapes = refl }

pub Alike-string_grown : (name : Option ShortName) (unit : CopyUnit) (i : PageInput) → Alike (string_grown name unit i) i
Alike-string_grown None unit i = Alike-same i
Alike-string_grown (Some name) unit i = Alike-calling_on (λ id. PushOpen id (unit_bytes unit)) (newest i.open_texts) i

pub Alike-string_entered : (name : Option ShortName) (appends : Bool) (i : PageInput) → Alike (string_entered name appends i) i
Alike-string_entered None appends i = Alike-same i
Alike-string_entered (Some name) appends i = Alike-calling_on (λ id. Enter id (name_bytes name) appends) (newest i.open_texts) i

Alike-if : (c : Bool) (i j n : PageInput) → Alike i n → Alike j n → Alike (if c then i else j) n
Alike-if true i j n first second = first
Alike-if false i j n first second = second

pub Alike-string_emptied : (name : Option ShortName) (appends : Bool) (i : PageInput) → Alike (string_emptied name appends i) i
Alike-string_emptied None appends i = Alike-same i
Alike-string_emptied (Some name) appends i =
    Alike-if _ i _ i (Alike-same i) (record { charge = refl; newlines = refl; line = refl; ahead = refl; escapes = refl })

pub Alike-definition_grown : (name : Option ShortName) (bytes : List ℕ) (i : PageInput) → Alike (definition_grown name bytes i) i
Alike-definition_grown None bytes i = Alike-same i
Alike-definition_grown (Some name) bytes i = Alike-calling_on (λ id. PushOpen id bytes) (newest i.open_texts) i

pub Alike-definition_dropped : (name : Option ShortName) (i : PageInput) → Alike (definition_dropped name i) i
Alike-definition_dropped None i = Alike-same i
Alike-definition_dropped (Some name) i = Alike-calling_on (λ id. DropOpen id) (newest i.open_texts) i

-- and so does a unit of a call
pub Alike-holding_call : (unit : CopyUnit) (i : PageInput) → Alike (holding_call unit i) i
Alike-holding_call unit i =
    Alike-if (nat_le 9 (length i.arguments.whole)) i (holding unit i) i (Alike-same i)
    (record { charge = refl; newlines = refl; line = refl; ahead = refl; escapes = refl })

-- behind a request's line the input is left at the most
few-reading_behind : (line : LineReading) → begun (reading_behind line) ≤ 1
few-reading_behind ByArguments = omega arith
few-reading_behind (ByCondition keeping) = omega arith
few-reading_behind ByElse = omega arith
few-reading_behind ByLastLine = omega arith
few-reading_behind (ByMessage aborts) = omega arith
few-reading_behind (ByString appends) = omega arith
few-reading_behind (ByLines lines) = omega arith
few-reading_behind ByTitle = omega arith

-- the end of a request's line
pub Keeps-ended_by : (most : ℕ) (i j : PageInput) (old : LineState) (request : Request) (effect : Effect) → Keeps most i j old
    → begun (reading_behind (row_of request).line) ≤ begun old → KeepsBy most i (ended_by j request effect)
Keeps-ended_by most i j old request effect keeps few =
    let released : PageInput = record j { arguments = no_arguments } in
    Keeps-no_more most i j old (calling_all effect.calls released) (reading_behind (row_of request).line) keeps
    (Alike-calling_all effect.calls released j (record { charge = refl; newlines = refl; line = refl; ahead = refl; escapes = refl })) few

-- a definition begins
Keeps-definition_begun : (most : ℕ) (i j : PageInput) (old : LineState) (name : Option ShortName) (appends : Bool)
    (end : Option ShortName) → Keeps most i j old → 3 ≤ begun old → KeepsBy most i (definition_begun j name appends end)
Keeps-definition_begun most i j old name appends end keeps some =
    Keeps-no_more most i j old (string_begun name j) (Collecting (Defining name appends end (Some 0))) keeps (Alike-string_begun name j) some

Keeps-definition_named : (most : ℕ) (i j : PageInput) (old : LineState) (appends : Bool) (name : Option (Option ShortName))
    (end : Option ShortName) → Keeps most i j old → 3 ≤ begun old → KeepsBy most i (definition_named j appends name end)
Keeps-definition_named most i j old appends None end keeps some =
    Keeps-alike most i j old _ LineStart keeps (record { charge = refl; newlines = refl; line = refl; ahead = refl; escapes = refl }) refl
Keeps-definition_named most i j old appends (Some None) end keeps some =
    Keeps-alike most i j old _ LineStart keeps (record { charge = refl; newlines = refl; line = refl; ahead = refl; escapes = refl }) refl
Keeps-definition_named most i j old appends (Some (Some name)) end keeps some =
    Keeps-definition_begun most i j old (Some name) appends end keeps some

Keeps-lines_begun : (most : ℕ) (i j : PageInput) (old : LineState) (lines : LinesFor) (as_given : List (List ℕ))
    → Keeps most i j old → 3 ≤ begun old → KeepsBy most i (lines_begun j lines as_given)
Keeps-lines_begun most i j old (Macro appends) as_given keeps some =
    Keeps-definition_named most i j old appends (name_at 0 as_given) (name_or_none (name_at 1 as_given)) keeps some
Keeps-lines_begun most i j old Nobody as_given keeps some =
    Keeps-definition_begun most i j old None false (name_or_none (name_at 0 as_given)) keeps some

-- the end of a line of arguments
Keeps-line_ended_by : (most : ℕ) (k : Known) (i j : PageInput) (old : LineState) (breaks : Bool) (request : Request) → Keeps most i j old → 3 ≤ begun old
    → KeepsBy most i (ended_by j request (request_effect k breaks request (arguments_given j)))
Keeps-line_ended_by most k i j old breaks request keeps some =
    Keeps-ended_by most i j old request (request_effect k breaks request (arguments_given j)) keeps
    (omega (arith, few-reading_behind (row_of request).line, some))

-- the same, behind which a definition may begin
pub Keeps-arguments_ended : (most : ℕ) (k : Known) (i j : PageInput) (old : LineState) (breaks : Bool) (request : Request)
    (line : LineReading) → Keeps most i j old → 3 ≤ begun old → KeepsBy most i (arguments_ended k j breaks request line)
Keeps-arguments_ended most k i j old breaks request (ByLines lines) keeps some =
    Keeps-lines_begun most i j old lines (arguments_given j) keeps some
Keeps-arguments_ended most k i j old breaks request ByArguments keeps some =
    Keeps-line_ended_by most k i j old breaks request keeps some
Keeps-arguments_ended most k i j old breaks request (ByCondition keeping) keeps some =
    Keeps-line_ended_by most k i j old breaks request keeps some
Keeps-arguments_ended most k i j old breaks request ByElse keeps some =
    Keeps-line_ended_by most k i j old breaks request keeps some
Keeps-arguments_ended most k i j old breaks request ByLastLine keeps some =
    Keeps-line_ended_by most k i j old breaks request keeps some
Keeps-arguments_ended most k i j old breaks request (ByMessage aborts) keeps some =
    Keeps-line_ended_by most k i j old breaks request keeps some
Keeps-arguments_ended most k i j old breaks request (ByString appends) keeps some =
    Keeps-line_ended_by most k i j old breaks request keeps some
Keeps-arguments_ended most k i j old breaks request ByTitle keeps some =
    Keeps-line_ended_by most k i j old breaks request keeps some

-- a unit of a line of arguments
pub Keeps-unit_found : (most : ℕ) (k : Known) (i j : PageInput) (breaks : Bool) (request : Request) (unit : CopyUnit) → Keeps most i j (Collecting (InArguments breaks request))
    → KeepsBy most i (unit_found k j breaks request unit)
Keeps-unit_found most k i j breaks request (Byte b) keeps =
    Keeps-if most i (b == newline) _ _
    (Keeps-arguments_ended most k i j (Collecting (InArguments breaks request)) breaks request (row_of request).line keeps (omega arith))
    (record { charge = keeps.charge; newlines = keeps.newlines; line = keeps.line; free = keeps.free; few = keeps.few; escapes = keeps.escapes })
Keeps-unit_found most k i j breaks request (Kept b) keeps =
    record { charge = keeps.charge; newlines = keeps.newlines; line = keeps.line; free = keeps.free; few = keeps.few; escapes = keeps.escapes }

-- what was found that is no unit
pub Keeps-no_unit_found : (most : ℕ) (k : Known) (i j : PageInput) (reading : LineState) (found : Found) → Keeps most i j reading
    → KeepsBy most i (no_unit_found k j reading found)
Keeps-no_unit_found most k i j reading (Holds unit) keeps = Keeps-holding_text most i j reading unit keeps
Keeps-no_unit_found most k i j reading (Asks purpose name) keeps = Keeps-asking most k i j reading purpose name keeps
Keeps-no_unit_found most k i j reading (Measures width) keeps = Keeps-measuring most i j reading width keeps
Keeps-no_unit_found most k i j reading (Tells remark) keeps = keeps
Keeps-no_unit_found most k i j reading GoesOn keeps = keeps
Keeps-no_unit_found most k i j reading (GivesUnit unit) keeps = keeps
Keeps-no_unit_found most k i j reading (Escape b) keeps = keeps
Keeps-no_unit_found most k i j reading (Motion columns remark) keeps = keeps
Keeps-no_unit_found most k i j reading (Decides decision freed) keeps = keeps

-- what was found where a line collects units
pub Keeps-collected : (most : ℕ) (k : Known) (i j : PageInput) (reading : LineState) (found : Found) → Keeps most i j reading
    → ((unit : CopyUnit) → Keeps most i j reading → KeepsBy most i (unit_taking k j reading unit)) → KeepsBy most i (collected k j reading found)
Keeps-collected most k i j reading found keeps units =
    of-collected (KeepsBy most i) k j reading found (λ unit. units unit keeps)
    (Keeps-no_unit_found most k i (interrupted reading j) reading found
    (record { charge = keeps.charge; newlines = keeps.newlines; line = keeps.line; free = keeps.free; few = keeps.few; escapes = keeps.escapes }))

-- a unit of a string's text
pub Keeps-string_unit : (most : ℕ) (i j : PageInput) (old : LineState) (name : Option ShortName) (appends is_front : Bool) (unit : CopyUnit) → Keeps most i j old
    → KeepsBy most i (string_unit j name appends is_front unit)
Keeps-string_unit most i j old name appends is_front (Byte b) keeps =
    Keeps-if most i (b == newline) _ _ (Keeps-alike most i j old _ LineStart keeps (Alike-string_entered name appends j) refl)
    (Keeps-if most i (is_front && b == blank) _ _ (Keeps-alike most i j old j _ keeps (Alike-same j) refl)
    (Keeps-if most i (is_front && b == quote) _ _ (Keeps-alike most i j old j _ keeps (Alike-same j) refl)
    (Keeps-alike most i j old _ _ keeps (Alike-string_grown name (Byte b) j) refl)))
Keeps-string_unit most i j old name appends is_front (Kept b) keeps =
    Keeps-alike most i j old _ _ keeps (Alike-string_grown name (Kept b) j) refl

-- what comes of its name
pub Keeps-string_line_ended : (most : ℕ) (i j : PageInput) (old : LineState) (appends : Bool) (name : Option (Option ShortName)) → Keeps most i j old
    → KeepsBy most i (string_line_ended j appends name)
Keeps-string_line_ended most i j old appends None keeps =
    Keeps-alike most i j old _ LineStart keeps (record { charge = refl; newlines = refl; line = refl; ahead = refl; escapes = refl }) refl
Keeps-string_line_ended most i j old appends (Some name) keeps =
    let released : PageInput = record j { arguments = no_arguments } in
    Keeps-alike most i released old _ LineStart
    (record { charge = keeps.charge; newlines = keeps.newlines; line = keeps.line; free = keeps.free; few = keeps.few; escapes = keeps.escapes })
    (Alike-string_emptied name appends released) refl

Keeps-string_name_behind : (most : ℕ) (i j : PageInput) (old : LineState) (appends : Bool) (name : Option (Option ShortName)) → Keeps most i j old
    → KeepsBy most i (string_name_behind j appends name)
Keeps-string_name_behind most i j old appends None keeps = Keeps-alike most i j old j _ keeps (Alike-same j) refl
Keeps-string_name_behind most i j old appends (Some name) keeps = Keeps-alike most i j old _ _ keeps (Alike-string_begun name j) refl

Keeps-string_name_or_text : (most : ℕ) (i j : PageInput) (old : LineState) (appends : Bool) (unit : CopyUnit) (name : Option (Option ShortName)) → Keeps most i j old
    → KeepsBy most i (string_name_or_text j appends unit name)
Keeps-string_name_or_text most i j old appends unit None keeps =
    Keeps-string_name_behind most i (holding unit j) old appends (name_read (holding unit j))
    (record { charge = keeps.charge; newlines = keeps.newlines; line = keeps.line; free = keeps.free; few = keeps.few; escapes = keeps.escapes })
Keeps-string_name_or_text most i j old appends unit (Some name) keeps =
    Keeps-string_unit most i (string_begun name j) LineStart name appends true unit (Keeps-alike most i j old _ LineStart keeps (Alike-string_begun name j) refl)

pub Keeps-string_name_unit : (most : ℕ) (i j : PageInput) (old : LineState) (appends : Bool) (unit : CopyUnit) → Keeps most i j old
    → KeepsBy most i (string_name_unit j appends unit)
Keeps-string_name_unit most i j old appends (Byte b) keeps =
    Keeps-if most i (b == newline) _ _ (Keeps-string_line_ended most i j old appends (name_at 0 (arguments_given j)) keeps)
    (Keeps-if most i (b == quote) _ _ (Keeps-string_name_or_text most i j old appends (Byte b) (name_read j) keeps)
    (Keeps-string_name_or_text most i (settling j) old appends (Byte b) (name_read (settling j))
    (record { charge = keeps.charge; newlines = keeps.newlines; line = keeps.line; free = keeps.free; few = keeps.few; escapes = keeps.escapes })))
Keeps-string_name_unit most i j old appends (Kept b) keeps =
    Keeps-string_name_or_text most i (settling j) old appends (Kept b) (name_read (settling j))
    (record { charge = keeps.charge; newlines = keeps.newlines; line = keeps.line; free = keeps.free; few = keeps.few; escapes = keeps.escapes })

-- a unit of a message's text
pub Keeps-message_unit : (most : ℕ) (i j : PageInput) (aborts is_front : Bool) (unit : CopyUnit) → Keeps most i j (Collecting (Telling aborts is_front))
    → KeepsBy most i (message_unit j aborts is_front unit)
Keeps-message_unit most i j aborts is_front (Byte b) keeps =
    Keeps-if most i (b == newline) _ _
    (record { charge = keeps.charge; newlines = keeps.newlines; line = keeps.line; free = keeps.free; few = keeps.few; escapes = omega (arith, keeps.escapes) })
    (Keeps-if most i (is_front && b == blank) _ _
    (record { charge = keeps.charge; newlines = keeps.newlines; line = keeps.line; free = keeps.free; few = keeps.few; escapes = keeps.escapes })
    (record { charge = keeps.charge; newlines = keeps.newlines; line = keeps.line; free = keeps.free; few = keeps.few; escapes = keeps.escapes }))
Keeps-message_unit most i j aborts is_front (Kept b) keeps =
    record { charge = keeps.charge; newlines = keeps.newlines; line = keeps.line; free = keeps.free; few = keeps.few; escapes = keeps.escapes }

-- a body that a line calls is in front
pub Keeps-called : (most : ℕ) (i j : PageInput) (old : LineState) (name : ShortName) → Keeps most i j old
    → KeepsBy most i (going_on (calling_body (body_named (name_bytes name) j) j) LineStart)
Keeps-called most i j old name keeps = record {
  charge = keeps.charge;
  newlines = keeps.newlines;
  line = keeps.line;
  free = free_ahead-called (called_text (body_named (name_bytes name) j)) 0 j.ahead ∙ keeps.free;
  few = λ room within few. few-called room (called_text (body_named (name_bytes name) j)) 0 j.ahead (few-more room 5 j.ahead within (keeps.few room within few));
  escapes = omega (arith, keeps.escapes);
}

-- a unit behind the name of a body that a line calls
pub Keeps-call_unit : (most : ℕ) (i j : PageInput) (name : ShortName) (unit : CopyUnit) → Keeps most i j (Collecting (Calling name)) → KeepsBy most i (call_unit j name unit)
Keeps-call_unit most i j name (Byte b) keeps =
    Keeps-if most i (b == newline) _ _ (Keeps-called most i j (Collecting (Calling name)) name keeps)
    (Keeps-if most i (b == quote) _ _
    (Keeps-no_more most i j (Collecting (Calling name)) _ (Collecting (Calling name)) keeps (Alike-holding_call (Byte b) j) (omega arith))
    (Keeps-no_more most i (settling j) (Collecting (Calling name)) _ (Collecting (Calling name))
    (record { charge = keeps.charge; newlines = keeps.newlines; line = keeps.line; free = keeps.free; few = keeps.few; escapes = keeps.escapes })
    (Alike-holding_call (Byte b) (settling j)) (omega arith)))
Keeps-call_unit most i j name (Kept b) keeps =
    Keeps-no_more most i (settling j) (Collecting (Calling name)) _ (Collecting (Calling name))
    (record { charge = keeps.charge; newlines = keeps.newlines; line = keeps.line; free = keeps.free; few = keeps.few; escapes = keeps.escapes })
    (Alike-holding_call (Kept b) (settling j)) (omega arith)
