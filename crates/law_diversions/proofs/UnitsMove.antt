-- What units of lines do with the texts in the making: a text is one more just while a string or a macro is made. A diversion is
-- opened where none is made, by an event that stands alone.
--
-- Each function f of reading has its lemma Moves-f here, with a line for each of its cases.
use Rattle.std.proofs.Common.{◌≡◌, ◌⊎◌, inl, inr, ℕ, Bool, true, false, List, [], ◌∷◌, Option, Some, None, refl, ◌&&◌, nat_le, if◌then◌else◌, ◌==◌}
use Rattle.roff_num.specs.declared.short_name.ShortName.{ShortName}
use Rattle.roff_num.specs.ShortNames.{name_at, name_bytes, name_or_none}
use Rattle.input_model.specs.Arguments.{no_arguments}
use Rattle.input_source.specs.Bytes.{newline, blank, backslash, quote}
use Rattle.input_escapes.specs.OpenEscapes.{byte_read}
use Rattle.input_escapes.specs.declared.open_escape.CopyUnit.{CopyUnit}
use Rattle.input_escapes.specs.declared.open_escape.CopyUnit.TheVariants.{Byte, Kept}
use Rattle.input_escapes.specs.declared.open_escape.Decision.TheVariants.{Is}
use Rattle.input_escapes.specs.declared.open_escape.Found.{Found}
use Rattle.input_escapes.specs.declared.open_escape.Found.TheVariants.{GoesOn, Unit as GivesUnit, Holds, Escape, Asks, Motion, Measures, Tells as Says, Decides}
use Rattle.input_escapes.specs.declared.open_escape.Surroundings.TheVariants.{Arguments as AboveArguments}
use Rattle.input_model.specs.Input.{choosing}
use Rattle.input_model.specs.Input.Calls.{arguments_given}
use Rattle.input_escapes.specs.OpenEscape.{unit_bytes}
use Rattle.run_model.specs.Reading.Arguments.{arguments_ended, line_ended, unit_found, reading_behind, calling_all}
use Rattle.run_model.specs.Reading.Beginnings.{at_start}
use Rattle.run_model.specs.Reading.Branches.{branch_of, branch_taking, condition_begun, condition_found, decided, is_so, skipping_taking, with_result_if}
use Rattle.run_model.specs.Reading.Collecting.{collected, unit_taking}
use Rattle.run_model.specs.Reading.Calls.{call_unit, holding_call}
use Rattle.run_model.specs.Reading.ControlLines.{dropped_taking}
use Rattle.run_model.specs.Reading.Definitions.{definition_named, lines_begun}
use Rattle.run_model.specs.Reading.Items.{PageInput, Taking, going_on}
use Rattle.run_model.specs.Reading.Messages.{message_unit}
use Rattle.run_model.specs.Reading.Strings.{name_read, string_line_ended, string_name_behind, string_name_or_text, string_name_unit, string_unit, string_begun, string_emptied}
use Rattle.run_model.specs.Reading.Units.{holding, interrupted, settling}
use Rattle.run_model.specs.Registers.{Known}
use Rattle.run_model.specs.Requests.{request_effect, row_of, PageEvent}
use Rattle.run_model.specs.Requests.Effects.{Effect}
use Rattle.run_model.specs.declared.line_state.LineState.{LineState}
use Rattle.run_model.specs.declared.line_state.LineState.TheVariants.{LineStart, Branch, Deciding, Dropped, Collecting}
use Rattle.run_model.specs.declared.purpose.Purpose.TheVariants.{StringText, Defining}
use Rattle.run_model.specs.declared.request.LineReading.{LineReading}
use Rattle.run_model.specs.declared.request.LineReading.TheVariants.{ByArguments, ByCondition, ByElse, ByLastLine, ByMessage, ByString, ByLines, ByTitle}
use Rattle.run_model.specs.declared.request.LinesFor.{LinesFor}
use Rattle.run_model.specs.declared.request.LinesFor.TheVariants.{Macro, Nobody}
use Rattle.run_model.specs.declared.request.Request.{Request}
use Rattle.run_model.proofs.Collected.{of-collected}
use Rattle.roff_store.specs.TextCalls.{Call, Append, DropOpen, Enter, Lease, Open, PushOpen, Release, Remove, Rename, Set, Take}
use Rattle.input_model.specs.Input.Names.{calling}
use Rattle.law_diversions.specs.DivertedTexts.{IsAbove, NoneAbove, OneAbove, is_making}
use Rattle.run_model.proofs.RequestAnswers.{LeaveTexts}
use Rattle.law_diversions.proofs.MildRequests.{OpensOne, means-request_effect}
use Rattle.law_diversions.proofs.OpenTexts.{above-adding, above-entering, above-one, above-same}
use Rattle.law_diversions.proofs.TextsLeft.{AreMild, AtBranch, Leaves-no_unit_found, Texts-beginning_found}

-- what is meant: events that open no diversion, or one that does, where no text is made
abbrev pub MayDivert : Taking → Type 0
MayDivert t = AreMild t.effect.events ⊎ ((is_making t.reading ≡ false) × OpensOne t.effect.events)

-- what is done with an item leaves these texts below the one that is made, if one is
abbrev pub Moves : List (List ℕ) → Taking → Type 0
Moves below t = IsAbove below (is_making t.reading) t.input.open_texts × MayDivert t

pub leaves-move : (below texts : List (List ℕ)) (making : Bool) {now : Bool} {there : List (List ℕ)} {events : List PageEvent}
    → IsAbove below making texts
    → (there ≡ texts) × ((now ≡ making) × AreMild events)
    → IsAbove below now there × (AreMild events ⊎ ((now ≡ false) × OpensOne events))
leaves-move below texts making above leaves = (above-same below making _ texts _ above leaves.0 leaves.1.0, inl leaves.1.1)

pub texts-move : (texts : List (List ℕ)) {now : Bool} {there : List (List ℕ)} {events : List PageEvent}
    → (there ≡ texts) × ((now ≡ false) × AreMild events)
    → IsAbove texts now there × (AreMild events ⊎ ((now ≡ false) × OpensOne events))
texts-move texts leaves = leaves-move texts texts false NoneAbove leaves

-- where none is made
moves-below : (below texts : List (List ℕ)) (now : Bool) (there : List (List ℕ)) → IsAbove below false texts → IsAbove texts now there
    → IsAbove below now there
moves-below below _ now there NoneAbove moves = moves

pub plain : (below texts : List (List ℕ)) {now : Bool} {there : List (List ℕ)} {events : List PageEvent} → IsAbove below false texts
    → IsAbove texts now there × (AreMild events ⊎ ((now ≡ false) × OpensOne events))
    → IsAbove below now there × (AreMild events ⊎ ((now ≡ false) × OpensOne events))
plain below texts above moves = (moves-below below texts _ _ above moves.0, moves.1)

-- either of two, by a test
pub Moves-if : (below : List (List ℕ)) (c : Bool) (t u : Taking) → Moves below t → Moves below u → Moves below (if c then t else u)
Moves-if below true t u first second = first
Moves-if below false t u first second = second

-- a byte of a dropped line
pub Moves-dropped : (i : PageInput) (b : ℕ) → Moves i.open_texts (dropped_taking i b)
Moves-dropped i b = by_test (b == newline)
  where
    by_test : (ends : Bool) → Moves i.open_texts (going_on i (if ends then LineStart else Dropped))
    by_test true = (NoneAbove, inl tt)
    by_test false = (NoneAbove, inl tt)

-- a branch that is read, or not
pub Moves-decided_on : (i : PageInput) (so : Bool) → Moves i.open_texts (going_on i (branch_of so))
Moves-decided_on i true = (NoneAbove, inl tt)
Moves-decided_on i false = (NoneAbove, inl tt)

-- what was found where a line collects units
pub Moves-collected : (below : List (List ℕ)) (k : Known) (i : PageInput) (reading : LineState) (found : Found)
    → IsAbove below (is_making reading) i.open_texts
    → ((unit : CopyUnit) → Moves below (unit_taking k i reading unit)) → Moves below (collected k i reading found)
Moves-collected below k i reading found above moves =
    of-collected (Moves below) k i reading found moves
    (leaves-move below i.open_texts (is_making reading) above (Leaves-no_unit_found k (interrupted reading i) reading found))

-- a text is begun, if a name gets it
begun-string : (name : Option ShortName) (appends is_front : Bool) (i : PageInput)
    → IsAbove i.open_texts (is_making (Collecting (StringText name appends is_front))) (string_begun name i).open_texts
begun-string None appends is_front i = NoneAbove
begun-string (Some name) appends is_front i = OneAbove []

begun-definition : (name : Option ShortName) (appends : Bool) (end : Option ShortName) (matched : Option ℕ) (i : PageInput)
    → IsAbove i.open_texts (is_making (Collecting (Defining name appends end matched))) (string_begun name i).open_texts
begun-definition None appends end matched i = NoneAbove
begun-definition (Some name) appends end matched i = OneAbove []

-- the end of a request's line
Moves-definition_named : (i : PageInput) (appends : Bool) (name : Option (Option ShortName)) (end : Option ShortName)
    → Moves i.open_texts (definition_named i appends name end)
Moves-definition_named i appends None end = (NoneAbove, inl tt)
Moves-definition_named i appends (Some None) end = (NoneAbove, inl tt)
Moves-definition_named i appends (Some (Some name)) end = (begun-definition (Some name) appends end (Some 0) i, inl tt)

pub Moves-lines_begun : (i : PageInput) (lines : LinesFor) (as_given : List (List ℕ)) → Moves i.open_texts (lines_begun i lines as_given)
Moves-lines_begun i (Macro appends) as_given = Moves-definition_named i appends (name_at 0 as_given) (name_or_none (name_at 1 as_given))
Moves-lines_begun i Nobody as_given = (NoneAbove, inl tt)

-- calls on names leave the texts
left-calling_all : (calls : List Call) (i : PageInput) → LeaveTexts calls → (calling_all calls i).open_texts ≡ i.open_texts
left-calling_all [] i leave = refl
left-calling_all (Set name entry ∷ calls) i leave = left-calling_all calls (calling (Set name entry) i) leave
left-calling_all (Append name bytes ∷ calls) i leave = left-calling_all calls (calling (Append name bytes) i) leave
left-calling_all (Remove name ∷ calls) i leave = left-calling_all calls (calling (Remove name) i) leave
left-calling_all (Rename from to ∷ calls) i leave = left-calling_all calls (calling (Rename from to) i) leave
left-calling_all (Open ∷ calls) i leave = absurd leave
left-calling_all (PushOpen id bytes ∷ calls) i leave = absurd leave
left-calling_all (Enter id name appends ∷ calls) i leave = absurd leave
left-calling_all (DropOpen id ∷ calls) i leave = absurd leave
left-calling_all (Lease name id ∷ calls) i leave = absurd leave
left-calling_all (Take id count ∷ calls) i leave = absurd leave
left-calling_all (Release id ∷ calls) i leave = absurd leave

unmade-behind : (line : LineReading) → is_making (reading_behind line) ≡ false
unmade-behind ByArguments = refl
unmade-behind (ByCondition keeps) = refl
unmade-behind ByElse = refl
unmade-behind ByLastLine = refl
unmade-behind (ByMessage aborts) = refl
unmade-behind (ByString appends) = refl
unmade-behind (ByLines lines) = refl
unmade-behind ByTitle = refl

meant-divert : (events : List PageEvent) (reading : LineState) → is_making reading ≡ false → AreMild events ⊎ OpensOne events
    → AreMild events ⊎ ((is_making reading ≡ false) × OpensOne events)
meant-divert events reading unmade (inl mild) = inl mild
meant-divert events reading unmade (inr opens) = inr (unmade, opens)

Moves-line_ended : (k : Known) (i : PageInput) (breaks : Bool) (request : Request) → Moves i.open_texts (line_ended k i breaks request)
Moves-line_ended k i breaks request =
    let means = means-request_effect k breaks request (arguments_given i) in
    let effect : Effect = request_effect k breaks request (arguments_given i) in
    let unmade = unmade-behind (row_of request).line in (
      above-same i.open_texts false _ i.open_texts _ NoneAbove
          (left-calling_all effect.calls (record i { arguments = no_arguments }) means.1) unmade,
      meant-divert effect.events (reading_behind (row_of request).line) unmade means.0,
    )

Moves-arguments_ended : (k : Known) (i : PageInput) (breaks : Bool) (request : Request) (line : LineReading)
    → Moves i.open_texts (arguments_ended k i breaks request line)
Moves-arguments_ended k i breaks request (ByLines lines) = Moves-lines_begun i lines (arguments_given i)
Moves-arguments_ended k i breaks request ByArguments = Moves-line_ended k i breaks request
Moves-arguments_ended k i breaks request (ByCondition keeps) = Moves-line_ended k i breaks request
Moves-arguments_ended k i breaks request ByElse = Moves-line_ended k i breaks request
Moves-arguments_ended k i breaks request ByLastLine = Moves-line_ended k i breaks request
Moves-arguments_ended k i breaks request (ByMessage aborts) = Moves-line_ended k i breaks request
Moves-arguments_ended k i breaks request ByTitle = Moves-line_ended k i breaks request
Moves-arguments_ended k i breaks request (ByString appends) = Moves-line_ended k i breaks request

pub Moves-unit_found : (k : Known) (i : PageInput) (breaks : Bool) (request : Request) (unit : CopyUnit)
    → Moves i.open_texts (unit_found k i breaks request unit)
Moves-unit_found k i breaks request (Byte b) =
    Moves-if i.open_texts (b == newline) _ _ (Moves-arguments_ended k i breaks request (row_of request).line) (NoneAbove, inl tt)
Moves-unit_found k i breaks request (Kept b) = (NoneAbove, inl tt)

-- a branch
pub Moves-skipping_taking : (i : PageInput) (opened closed : ℕ) (behind : Bool) (b : ℕ)
    → Moves i.open_texts (skipping_taking i opened closed behind b)
Moves-skipping_taking i opened closed true b = (NoneAbove, inl tt)
Moves-skipping_taking i opened closed false b =
    Moves-if i.open_texts (b == backslash) _ _ (NoneAbove, inl tt)
    (Moves-if i.open_texts (b == newline && nat_le opened closed) _ _ (NoneAbove, inl tt) (NoneAbove, inl tt))

pub Moves-branch_taking : (k : Known) (i : PageInput) (so : Bool) (b : ℕ) → Moves i.open_texts (branch_taking k i so b)
Moves-branch_taking k i true b =
    texts-move i.open_texts
    (Texts-beginning_found k (record i { escapes = (byte_read (at_start k) i.escapes b).1 }) Branch
    (byte_read (at_start k) i.escapes b).0 AtBranch)
Moves-branch_taking k i false b = Moves-skipping_taking i 0 0 false b

Moves-decided : (k : Known) (i : PageInput) (so : Bool) (freed : Option ℕ) → Moves i.open_texts (decided k i so freed)
Moves-decided k i so None = Moves-decided_on i so
Moves-decided k i so (Some b) = Moves-branch_taking k i so b

Moves-result : (k : Known) (i : PageInput) (keeps so : Bool) (freed : Option ℕ)
    → Moves i.open_texts (decided k (with_result_if keeps so i) so freed)
Moves-result k i true so freed = Moves-decided k (with_result_if true so i) so freed
Moves-result k i false so freed = Moves-decided k i so freed

pub Moves-condition_found : (k : Known) (i : PageInput) (keeps : Bool) (found : Found)
    → Moves i.open_texts (condition_found k i keeps found)
Moves-condition_found k i keeps (Decides decision freed) = Moves-result k i keeps (is_so k decision) freed
Moves-condition_found k i keeps GoesOn = texts-move i.open_texts (Leaves-no_unit_found k i (Deciding keeps) GoesOn)
Moves-condition_found k i keeps (GivesUnit unit) = texts-move i.open_texts (Leaves-no_unit_found k i (Deciding keeps) (GivesUnit unit))
Moves-condition_found k i keeps (Escape b) = texts-move i.open_texts (Leaves-no_unit_found k i (Deciding keeps) (Escape b))
Moves-condition_found k i keeps (Holds unit) = texts-move i.open_texts (Leaves-no_unit_found k i (Deciding keeps) (Holds unit))
Moves-condition_found k i keeps (Asks purpose name) =
    texts-move i.open_texts (Leaves-no_unit_found k i (Deciding keeps) (Asks purpose name))
Moves-condition_found k i keeps (Motion columns remark) =
    texts-move i.open_texts (Leaves-no_unit_found k i (Deciding keeps) (Motion columns remark))
Moves-condition_found k i keeps (Measures width) = texts-move i.open_texts (Leaves-no_unit_found k i (Deciding keeps) (Measures width))
Moves-condition_found k i keeps (Says remark) = texts-move i.open_texts (Leaves-no_unit_found k i (Deciding keeps) (Says remark))

pub Moves-condition_begun : (k : Known) (i : PageInput) (keeps : Bool) (b : ℕ) → Moves i.open_texts (condition_begun k i keeps b)
Moves-condition_begun k i keeps b =
    let read = byte_read AboveArguments (choosing i).escapes b in
    Moves-if i.open_texts (b == newline) _ _ (Moves-condition_found k i keeps (Decides (Is false) (Some b)))
    (Moves-condition_found k (record i { escapes = read.1 }) keeps read.0)

-- a string
pub Moves-string_unit : (below : List (List ℕ)) (i : PageInput) (name : Option ShortName) (appends is_front : Bool) (unit : CopyUnit)
    → IsAbove below (is_making (Collecting (StringText name appends is_front))) i.open_texts
    → Moves below (string_unit i name appends is_front unit)
Moves-string_unit below i None appends is_front (Byte b) above =
    Moves-if below (b == newline) _ _ (above, inl tt)
    (Moves-if below (is_front && b == blank) _ _ (above, inl tt)
    (Moves-if below (is_front && b == quote) _ _ (above, inl tt) (above, inl tt)))
Moves-string_unit below i None appends is_front (Kept b) above = (above, inl tt)
Moves-string_unit below i (Some name) appends is_front (Byte b) above =
    let one = above-one below i.open_texts above in
    Moves-if below (b == newline) _ _ (above-entering below one.0 (name_bytes name) appends i one.1, inl tt)
    (Moves-if below (is_front && b == blank) _ _ (above, inl tt)
    (Moves-if below (is_front && b == quote) _ _ (above, inl tt) (above-adding below one.0 (unit_bytes (Byte b)) i one.1, inl tt)))
Moves-string_unit below i (Some name) appends is_front (Kept b) above =
    let one = above-one below i.open_texts above in (above-adding below one.0 (unit_bytes (Kept b)) i one.1, inl tt)

emptied-texts : (keeps : Bool) (i j : PageInput) → j.open_texts ≡ i.open_texts → (if keeps then i else j).open_texts ≡ i.open_texts
emptied-texts true i j same = refl
emptied-texts false i j same = same

pub string_emptied-texts : (name : Option ShortName) (appends : Bool) (i : PageInput)
    → (string_emptied name appends i).open_texts ≡ i.open_texts
string_emptied-texts None appends i = refl
string_emptied-texts (Some name) appends i = emptied-texts _ i _ refl

Moves-string_line_ended : (i : PageInput) (appends : Bool) (name : Option (Option ShortName))
    → Moves i.open_texts (string_line_ended i appends name)
Moves-string_line_ended i appends None = (NoneAbove, inl tt)
Moves-string_line_ended i appends (Some name) =
    texts-move i.open_texts (string_emptied-texts name appends (record i { arguments = no_arguments }), (refl, tt))

Moves-string_name_behind : (i : PageInput) (appends : Bool) (name : Option (Option ShortName))
    → Moves i.open_texts (string_name_behind i appends name)
Moves-string_name_behind i appends None = (NoneAbove, inl tt)
Moves-string_name_behind i appends (Some name) = (begun-string name appends true i, inl tt)

Moves-string_name_or_text : (i : PageInput) (appends : Bool) (unit : CopyUnit) (name : Option (Option ShortName))
    → Moves i.open_texts (string_name_or_text i appends unit name)
Moves-string_name_or_text i appends unit None = Moves-string_name_behind (holding unit i) appends (name_read (holding unit i))
Moves-string_name_or_text i appends unit (Some name) =
    Moves-string_unit i.open_texts (string_begun name i) name appends true unit (begun-string name appends true i)

pub Moves-string_name_unit : (i : PageInput) (appends : Bool) (unit : CopyUnit) → Moves i.open_texts (string_name_unit i appends unit)
Moves-string_name_unit i appends (Byte b) =
    Moves-if i.open_texts (b == newline) _ _ (Moves-string_line_ended i appends (name_at 0 (arguments_given i)))
    (Moves-if i.open_texts (b == quote) _ _ (Moves-string_name_or_text i appends (Byte b) (name_read i))
    (Moves-string_name_or_text (settling i) appends (Byte b) (name_read (settling i))))
Moves-string_name_unit i appends (Kept b) = Moves-string_name_or_text (settling i) appends (Kept b) (name_read (settling i))

-- a message
pub Moves-message_unit : (i : PageInput) (aborts is_front : Bool) (unit : CopyUnit)
    → Moves i.open_texts (message_unit i aborts is_front unit)
Moves-message_unit i aborts is_front (Byte b) =
    Moves-if i.open_texts (b == newline) _ _ (NoneAbove, inl tt)
    (Moves-if i.open_texts (is_front && b == blank) _ _ (NoneAbove, inl tt) (NoneAbove, inl tt))
Moves-message_unit i aborts is_front (Kept b) = (NoneAbove, inl tt)

-- a call
held-texts : (unit : CopyUnit) (i : PageInput) → (holding_call unit i).open_texts ≡ i.open_texts
held-texts unit i = emptied-texts _ i _ refl

pub Moves-call_unit : (i : PageInput) (name : ShortName) (unit : CopyUnit) → Moves i.open_texts (call_unit i name unit)
Moves-call_unit i name (Byte b) =
    Moves-if i.open_texts (b == newline) _ _ (NoneAbove, inl tt)
    (Moves-if i.open_texts (b == quote) _ _ (texts-move i.open_texts (held-texts (Byte b) i, (refl, tt)))
    (texts-move i.open_texts (held-texts (Byte b) (settling i), (refl, tt))))
Moves-call_unit i name (Kept b) = texts-move i.open_texts (held-texts (Kept b) (settling i), (refl, tt))
