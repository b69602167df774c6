-- What the code of the reader takes of a line, by its place there, as the definition takes it.
use Rattle.std.proofs.Common.{◌≡◌, ℕ, Bool, false, List, [], ◌++◌, Option, Some, None, Result, Ok, Err, refl, sym, subst, ap, ◌∙◌, if◌then◌else◌, ◌==◌}
use Rattle.std.specs.Option.{option_to_list}
use Rattle.roff_num.specs.declared.limits.Limits.{Limits}
use Rattle.run_model.specs.Environments.{interrupted_line}
use Rattle.run_model.specs.Events.Lines.{line_events}
use Rattle.run_model.specs.Events.Steps.{events_of, messages_of}
use Rattle.run_state.specs.Composer.Standing.{StandFor}
use Rattle.run_state.specs.declared.composer.Composer.{Composer as ComposerOf}
use Rattle.roff_num.specs.declared.limit.Limit.{Limit}
use Rattle.input_source.specs.Bytes.{blank, is_dropped, newline}
use Rattle.input_model.specs.Unread.{EndsDecided, changing, input_refusal, reading}
use Rattle.input_escapes.specs.OpenEscapes.{reading_ended}
use Rattle.input_escapes.specs.declared.open_escape.Found.{Found}
use Rattle.input_escapes.specs.declared.open_escape.Found.TheVariants.{Decides, GoesOn}
use Rattle.run_model.specs.Output.{PageHistory}
use Rattle.read_lines.specs.Reader.State.{ReaderState}
use Rattle.read_lines.specs.Reader.Taken.{IsReady, TakesAs, Took}
use Rattle.run_model.specs.Reading.Items.{PageUnread, PageInput, Taking, behind_events, going_on}
use Rattle.run_model.specs.Reading.{escape_ended, undropped_taking, byte_taking}
use Rattle.run_model.specs.Reading.Branches.{branch_of}
use Rattle.run_model.specs.Reading.Found.{found_in, place_in}
use Rattle.input_escapes.specs.declared.open_escape.Decision.TheVariants.{Is}
use Rattle.input_escapes.specs.declared.open_escape.Surroundings.{Surroundings}
use Rattle.input_escapes.specs.declared.open_escape.Surroundings.TheVariants.{Arguments as AboveArguments}
use Rattle.run_model.specs.Reading.Beginnings.{beginning_text, escape_begun, first_escape, first_taking, going_on_told, line_begun, line_begun_as}
use Rattle.run_model.specs.Reading.Ends.{end_taking, last_line_ended}
use Rattle.run_model.specs.Reading.Strings.{string_line_ended}
use Rattle.run_model.specs.Reading.Units.{interrupted}
use Rattle.run_model.specs.Reading.Collecting.{collected}
use Rattle.run_model.specs.Registers.{Known}
use Rattle.run_model.specs.Registers.Capped.{Capped}
use Rattle.run_model.specs.PageEvents.{PageEvent}
use Rattle.run_model.specs.Requests.{saying}
use Rattle.run_model.specs.Run.{known_at}
use Rattle.run_model.specs.declared.message.Message.{Message}
use Rattle.run_model.specs.declared.step.Step.{Step}
use Rattle.run_model.specs.declared.step.Step.TheVariants.{Nothing}
use Rattle.run_model.specs.declared.line_state.LineState.{LineState}
use Rattle.run_model.specs.declared.line_state.LineState.TheVariants.{LineStart, Branch, Braced, Text as InText, Control, Name, Deciding, Skipping, Dropped, Told, Exiting, TitleFront, Title as InTitle, Collecting}
use Rattle.run_model.specs.declared.purpose.Purpose.{Purpose}
use Rattle.run_model.specs.declared.purpose.Purpose.TheVariants.{StringName, StringText, Arguments as InArguments, Telling, Calling, Defining}
use Rattle.roff_num.specs.declared.short_name.ShortName.{ShortName}
use Rattle.run_model.specs.declared.line_state.TextLine.{TextLine}
use Rattle.run_model.specs.declared.line_state.TextStep.{TextStep}
use Rattle.run_model.specs.TextLine.Stepping.{step_at}
use Rattle.run_model.proofs.InputCounts.{NoMore, first_passed-few_names, first_passed-no_more}
use Rattle.read_lines.proofs.TakesAs.{TakesAs-where, TakesAs-as, few_names, short_title, keeps-meaning, TakesAs-asked, TakesAs-ended_at}
use Rattle.read_names.proofs.InputsChanged.{passed_none, passed_one}

-- This is read on, and some messages and events are meant.
pub TakesAs-said : (t : Known → Taking) (behind : LineState) (messages : List Message) (events : List PageEvent) (es : ComposerOf) (old new : ReaderState) (u : PageUnread) (m : Step)
    → ((k : Known) → t k ≡ record { input = u.input; reading = behind; effect = saying messages events })
    → new ≡ record old { reading = behind; meaning = new.meaning }
    → messages_of new.meaning.message m ≡ messages → events_of new.meaning.events m ≡ events → TakesAs t es old new u u (Ok m)
TakesAs-said t behind messages events es old new u m as_defined came says means = record {
  takes = λ l h stands ready.
      subst (λ (taking : Taking). Took taking old.registers new u u m) (sym (as_defined (known_at h old.registers.all u.input)))
      (record {
        became = record {
          input = refl;
          reading = ap (λ (s : ReaderState). s.reading) came;
          registers = ap (λ (s : ReaderState). s.registers) came;
          within = ready.within;
        };
        messages = says;
        events = means;
      });
}

-- this is read on, and nothing is meant
pub TakesAs-meant : (t : Known → Taking) (behind : LineState) (es : ComposerOf) (old new : ReaderState) (u : PageUnread) (m : Step)
    → ((k : Known) → t k ≡ going_on u.input behind) → new ≡ record old { reading = behind } → m ≡ Nothing
    → TakesAs t es old new u u (Ok m)
TakesAs-meant t behind es old new u m as_defined came none =
    TakesAs-said t behind [] [] es old new u m as_defined (keeps-meaning behind old new came)
    (ap (messages_of new.meaning.message) none) (ap (events_of new.meaning.events) none)

-- a step of a text line
pub TakesAs-stepped : (t : PageInput → Taking) (step : TextStep) (es : ComposerOf) (old new : ReaderState) (u : PageUnread) (m : Step)
    → ((i : PageInput) → step_at i step ≡ t i) → new ≡ record old { reading = step.reading; meaning = new.meaning }
    → messages_of new.meaning.message m ≡ option_to_list step.message → events_of new.meaning.events m ≡ line_events step.events
    → TakesAs (λ k. t u.input) es old new u u (Ok m)
TakesAs-stepped t step es old new u m as_defined came says means =
    TakesAs-said (λ k. t u.input) step.reading (option_to_list step.message) (line_events step.events) es old new u m
    (λ k. sym (as_defined u.input)) came says means

-- the input changes, and this is read on
pub TakesAs-changed : (i : PageInput) (place : LineState) (es : ComposerOf) (old new : ReaderState) (before behind : PageUnread) (m : Step) (done : Unit {0})
    → (Ok done, behind) ≡ changing i before → new ≡ record old { reading = place } → m ≡ Nothing
    → TakesAs (λ k. going_on i place) es old new before behind (Ok m)
TakesAs-changed i place es old new before behind m done changes came none = record {
  takes = λ l h stands ready.
      let passed = passed_none (input_refusal before.limits i) i before behind done changes in
      record {
        became = record {
          input = passed.0;
          reading = ap (λ (s : ReaderState). s.reading) came;
          registers = ap (λ (s : ReaderState). s.registers) came;
          within = first_passed-few_names before.limits old.registers.all i (few_names old.registers before ready) (short_title old.registers before ready) ∙ passed.1;
        };
        messages = ap (messages_of new.meaning.message) none;
        events = ap (events_of new.meaning.events) none;
      };
}

-- the input changes so that no more is counted, and this is read on
pub TakesAs-gone_on : (i : PageInput) (place : LineState) (es : ComposerOf) (old new : ReaderState) (before behind : PageUnread) → NoMore i before.input
    → behind ≡ record before { input = i } → new ≡ record old { reading = place } → TakesAs (λ k. going_on i place) es old new before behind (Ok Nothing)
TakesAs-gone_on i place es old new before behind less is came = record {
  takes = λ l h stands ready. record {
    became = record {
      input = is;
      reading = ap (λ (s : ReaderState). s.reading) came;
      registers = ap (λ (s : ReaderState). s.registers) came;
      within = first_passed-no_more before.limits old.registers.all i before.input less ready.within;
    };
    messages = refl;
    events = refl;
  };
}

-- or a limit refuses the change
pub TakesAs-not_changed : (i : PageInput) (place : LineState) (es : ComposerOf) (old new : ReaderState) (before behind : PageUnread) (limit : Limit)
    → (Err limit, behind) ≡ changing i before → TakesAs (λ k. going_on i place) es old new before behind (Err limit)
TakesAs-not_changed i place es old new before behind limit changes = record {
  takes = λ l h stands ready.
      let refused = passed_one (input_refusal before.limits i) i before behind limit changes in
      first_passed-few_names before.limits old.registers.all i (few_names old.registers before ready) (short_title old.registers before ready) ∙ refused;
}

-- a step that begins a text line, by the interrupted line that the environments have
pub TakesAs-begun : (t : PageInput → TextLine → Taking) (step : TextStep) (interrupted : Option TextLine) (line : TextLine)
    (es : ComposerOf) (old new : ReaderState) (u : PageUnread) (m : Step)
    → ((l : Limits) (h : PageHistory) → StandFor l h es → interrupted ≡ interrupted_line h) → line ≡ line_begun_as interrupted
    → ((i : PageInput) → step_at i step ≡ t i line) → new ≡ record old { reading = step.reading; meaning = new.meaning }
    → messages_of new.meaning.message m ≡ option_to_list step.message → events_of new.meaning.events m ≡ going_on_told interrupted ++ line_events step.events
    → TakesAs (λ k. beginning_text k (t u.input)) es old new u u (Ok m)
TakesAs-begun t step interrupted line es old new u m asked begun steps came says means =
    let at : Option TextLine → Taking = λ l. behind_events (going_on_told l) (t u.input (line_begun_as l)) in
    TakesAs-asked (λ k l. at l) (λ k. k.interrupted) interrupted es old new u u (Ok m) (λ l h rs i stands. asked l h stands)
    (record {
      takes = λ l h stands ready.
          subst (λ (taking : Taking). Took (behind_events (going_on_told interrupted) taking) old.registers new u u m)
          (steps u.input ∙ ap (t u.input) begun)
          (record {
            became = record {
              input = refl;
              reading = ap (λ (s : ReaderState). s.reading) came;
              registers = ap (λ (s : ReaderState). s.registers) came;
              within = ready.within;
            };
            messages = says;
            events = means;
          });
    })

-- where a branch begins, or its rest behind its brace, a byte without a meaning of its own there begins a line
pub first_taking-any : (k : Known) (i : PageInput) (at : LineState) (b : ℕ) → (at ≡ Branch → (b == blank) ≡ false)
    → (at ≡ Braced → ((b == blank) ≡ false) × ((b == newline) ≡ false)) → line_begun k i b ≡ first_taking k i at b
first_taking-any k i LineStart b in_branch in_brace = refl
first_taking-any k i Branch b in_branch in_brace =
    ap (λ (c : Bool). if c then going_on i Branch else line_begun k i b) (sym (in_branch refl))
first_taking-any k i Braced b in_branch in_brace =
    ap (λ (c : Bool). if c then going_on i LineStart else line_begun k i b) (sym (in_brace refl).1)
    ∙ ap (λ (c : Bool). if c then going_on i Braced else (if b == newline then going_on i LineStart else line_begun k i b)) (sym (in_brace refl).0)
first_taking-any k i (InText line) b in_branch in_brace = refl
first_taking-any k i (Control breaks) b in_branch in_brace = refl
first_taking-any k i (Name breaks first) b in_branch in_brace = refl
first_taking-any k i (Collecting purpose) b in_branch in_brace = refl
first_taking-any k i (Deciding keeps) b in_branch in_brace = refl
first_taking-any k i (Skipping opened closed behind) b in_branch in_brace = refl
first_taking-any k i (Told aborts) b in_branch in_brace = refl
first_taking-any k i Exiting b in_branch in_brace = refl
first_taking-any k i Dropped b in_branch in_brace = refl
first_taking-any k i TitleFront b in_branch in_brace = refl
first_taking-any k i (InTitle delimiter) b in_branch in_brace = refl

-- behind a backslash and a newline a line begins, but in a branch
pub first_escape-newline : (k : Known) (i : PageInput) (at : LineState) → (at ≡ Branch → ⊥) → going_on i LineStart ≡ first_escape k i at newline
first_escape-newline k i Branch none = absurd (none refl)
first_escape-newline k i LineStart none = refl
first_escape-newline k i Braced none = refl
first_escape-newline k i (InText line) none = refl
first_escape-newline k i (Control breaks) none = refl
first_escape-newline k i (Name breaks first) none = refl
first_escape-newline k i (Collecting purpose) none = refl
first_escape-newline k i (Deciding keeps) none = refl
first_escape-newline k i (Skipping opened closed behind) none = refl
first_escape-newline k i (Told aborts) none = refl
first_escape-newline k i Exiting none = refl
first_escape-newline k i Dropped none = refl
first_escape-newline k i TitleFront none = refl
first_escape-newline k i (InTitle delimiter) none = refl

-- and so it is with an escape
pub first_escape-any : (k : Known) (i : PageInput) (at : LineState) (b : ℕ) → (at ≡ Branch → (b == 123) ≡ false) → (b == newline) ≡ false
    → escape_begun k i b ≡ first_escape k i at b
first_escape-any k i LineStart b in_branch no_newline = ap (λ (c : Bool). if c then going_on i LineStart else escape_begun k i b) (sym no_newline)
first_escape-any k i Branch b in_branch no_newline =
    ap (λ (c : Bool). if c then going_on i Branch else escape_begun k i b) (sym no_newline)
    ∙ ap (λ (c : Bool). if c then going_on i Braced else if b == newline then going_on i Branch else escape_begun k i b) (sym (in_branch refl))
first_escape-any k i Braced b in_branch no_newline = ap (λ (c : Bool). if c then going_on i LineStart else escape_begun k i b) (sym no_newline)
first_escape-any k i (InText line) b in_branch no_newline = ap (λ (c : Bool). if c then going_on i LineStart else escape_begun k i b) (sym no_newline)
first_escape-any k i (Control breaks) b in_branch no_newline = ap (λ (c : Bool). if c then going_on i LineStart else escape_begun k i b) (sym no_newline)
first_escape-any k i (Name breaks first) b in_branch no_newline = ap (λ (c : Bool). if c then going_on i LineStart else escape_begun k i b) (sym no_newline)
first_escape-any k i (Collecting purpose) b in_branch no_newline = ap (λ (c : Bool). if c then going_on i LineStart else escape_begun k i b) (sym no_newline)
first_escape-any k i (Deciding keeps) b in_branch no_newline = ap (λ (c : Bool). if c then going_on i LineStart else escape_begun k i b) (sym no_newline)
first_escape-any k i (Skipping opened closed behind) b in_branch no_newline = ap (λ (c : Bool). if c then going_on i LineStart else escape_begun k i b) (sym no_newline)
first_escape-any k i (Told aborts) b in_branch no_newline = ap (λ (c : Bool). if c then going_on i LineStart else escape_begun k i b) (sym no_newline)
first_escape-any k i Exiting b in_branch no_newline = ap (λ (c : Bool). if c then going_on i LineStart else escape_begun k i b) (sym no_newline)
first_escape-any k i Dropped b in_branch no_newline = ap (λ (c : Bool). if c then going_on i LineStart else escape_begun k i b) (sym no_newline)
first_escape-any k i TitleFront b in_branch no_newline = ap (λ (c : Bool). if c then going_on i LineStart else escape_begun k i b) (sym no_newline)
first_escape-any k i (InTitle delimiter) b in_branch no_newline = ap (λ (c : Bool). if c then going_on i LineStart else escape_begun k i b) (sym no_newline)

-- by whether a byte is dropped
pub taking-of : (k : Known) (r : LineState) (i : PageInput) (b : ℕ) (c : Bool) → c ≡ is_dropped b
    → (if c then going_on (interrupted r i) r else undropped_taking k r i b) ≡ byte_taking k r i b
taking-of k r i b c is = ap (λ (dropped : Bool). if dropped then going_on (interrupted r i) r else undropped_taking k r i b) is

-- a byte that isn't dropped
pub TakesAs-undropped : (b : ℕ) (es : ComposerOf) (old new : ReaderState) (before behind : PageUnread) (result : Result Step Limit) → false ≡ is_dropped b
    → TakesAs (λ k. undropped_taking k old.reading before.input b) es old new before behind result
    → TakesAs (λ k. byte_taking k old.reading before.input b) es old new before behind result
TakesAs-undropped b es old new before behind result is takes =
    TakesAs-as (λ k. undropped_taking k old.reading before.input b) (λ k. byte_taking k old.reading before.input b) es old new before behind result
    (λ k. taking-of k old.reading before.input b false is) takes

-- within a line whose bytes are collected the end of the input is a newline, but of a string and of a definition
pub end_taking-collected : (k : Known) (purpose : Purpose) (i : PageInput) → ((appends : Bool) → purpose ≡ StringName appends → ⊥)
    → ((name : Option ShortName) (appends is_front : Bool) → purpose ≡ StringText name appends is_front → ⊥)
    → ((name : Option ShortName) (appends : Bool) (end : Option ShortName) (matched : Option ℕ) → purpose ≡ Defining name appends end matched → ⊥)
    → undropped_taking k (Collecting purpose) i newline ≡ end_taking k (Collecting purpose) i
end_taking-collected k (InArguments breaks request) i named strings defines = refl
end_taking-collected k (Calling name) i named strings defines = refl
end_taking-collected k (Telling aborts is_front) i named strings defines = refl
end_taking-collected k (StringName appends) i named strings defines = absurd (named appends refl)
end_taking-collected k (StringText name appends is_front) i named strings defines = absurd (strings name appends is_front refl)
end_taking-collected k (Defining name appends end matched) i named strings defines = absurd (defines name appends end matched refl)

-- and within others, where no interrupted line ends with it, but of a title
pub end_taking-newline : (k : Known) (r : LineState) (i : PageInput) → (r ≡ LineStart → ⊥) → (r ≡ Dropped → ⊥) → (r ≡ Exiting → ⊥)
    → (r ≡ Braced → ⊥) → ((breaks : Bool) → r ≡ Control breaks → ⊥) → ((purpose : Purpose) → r ≡ Collecting purpose → ⊥)
    → ((opened closed : ℕ) (behind : Bool) → r ≡ Skipping opened closed behind → ⊥)
    → ((keeps : Bool) → r ≡ Deciding keeps → ⊥) → ((aborts : Bool) → r ≡ Told aborts → ⊥) → ((delimiter : ℕ) → r ≡ InTitle delimiter → ⊥)
    → undropped_taking k r i newline ≡ end_taking k r i
end_taking-newline k LineStart i begun dropped left braced control collects skips decides told titled = absurd (begun refl)
end_taking-newline k Branch i begun dropped left braced control collects skips decides told titled = refl
end_taking-newline k Braced i begun dropped left braced control collects skips decides told titled = absurd (braced refl)
end_taking-newline k (InText line) i begun dropped left braced control collects skips decides told titled = refl
end_taking-newline k (Control breaks) i begun dropped left braced control collects skips decides told titled = absurd (control breaks refl)
end_taking-newline k (Name breaks first) i begun dropped left braced control collects skips decides told titled = refl
end_taking-newline k (Collecting purpose) i begun dropped left braced control collects skips decides told titled = absurd (collects purpose refl)
end_taking-newline k (Deciding keeps) i begun dropped left braced control collects skips decides told titled = absurd (decides keeps refl)
end_taking-newline k (Skipping opened closed behind) i begun dropped left braced control collects skips decides told titled =
    absurd (skips opened closed behind refl)
end_taking-newline k (Told aborts) i begun dropped left braced control collects skips decides told titled = absurd (told aborts refl)
end_taking-newline k Exiting i begun dropped left braced control collects skips decides told titled = absurd (left refl)
end_taking-newline k Dropped i begun dropped left braced control collects skips decides told titled = absurd (dropped refl)
end_taking-newline k TitleFront i begun dropped left braced control collects skips decides told titled = refl
end_taking-newline k (InTitle delimiter) i begun dropped left braced control collects skips decides told titled = absurd (titled delimiter refl)

-- a string's line leaves the line's beginning
pub string_line_ended-going : (i : PageInput) (appends : Bool) (name : Option (Option ShortName))
    → string_line_ended i appends name ≡ going_on (string_line_ended i appends name).input LineStart
string_line_ended-going i appends None = refl
string_line_ended-going i appends (Some name) = refl

-- a line ends, and then an interrupted one
pub TakesAs-last_line : (t : Taking) (es : ComposerOf) (old mid new : ReaderState)
    (before behind : PageUnread) (ends m : Step)
    → t ≡ going_on t.input LineStart → TakesAs (λ k. t) es old mid before behind (Ok ends)
    → ((u : PageUnread) → TakesAs (λ k. last_line_ended k u.input) es mid new u u (Ok m))
    → TakesAs (λ k. last_line_ended k t.input) es old new before behind (Ok m)
TakesAs-last_line t es old mid new before behind ends m goes_on line interrupted =
    let i : PageInput = t.input in
    let first : TakesAs (λ k. going_on i LineStart) es old mid before behind (Ok ends) =
    subst (λ (taking : Taking). TakesAs (λ k. taking) es old mid before behind (Ok ends)) goes_on line in
    record {
      takes = λ l h stands ready.
          let one : Took (going_on i LineStart) old.registers mid before behind ends = first.takes l h stands ready in
          let there : PageUnread = record before { input = i } in
          let two : TakesAs (λ k. last_line_ended k i) es mid new there there (Ok m) = interrupted there in
          let registers : mid.registers ≡ old.registers = one.became.registers in
          let at_mid : IsReady mid.registers there =
          subst (λ (r : Capped). IsReady r there) (sym registers) (record { cap = ready.cap; line = ready.line; within = one.became.within }) in
          let taken = two.takes l h stands at_mid in
          record {
            became = record {
              input = one.became.input;
              reading = taken.became.reading;
              registers = taken.became.registers ∙ registers;
              within = one.became.within;
            };
            messages = taken.messages;
            events = taken.events;
          };
    }

-- or a limit refuses the first
pub TakesAs-no_last_line : (t : Taking) (es : ComposerOf) (old new : ReaderState) (before behind : PageUnread) (limit : Limit)
    → t ≡ going_on t.input LineStart → TakesAs (λ k. t) es old new before behind (Err limit)
    → TakesAs (λ k. last_line_ended k t.input) es old new before behind (Err limit)
TakesAs-no_last_line t es old new before behind limit goes_on refused =
    let i : PageInput = t.input in
    let first : TakesAs (λ k. going_on i LineStart) es old new before behind (Err limit) =
    subst (λ (taking : Taking). TakesAs (λ k. taking) es old new before behind (Err limit)) goes_on refused in
    record { takes = λ l h stands ready. first.takes l h stands ready }

-- what was found where a line collects units
pub TakesAs-collected : (place : LineState) (found : Found) (es : ComposerOf) (old new : ReaderState) (before behind : PageUnread) (result : Result Step Limit)
    → ((k : Known) (i : PageInput) → collected k i place found ≡ found_in k i place found) → old.reading ≡ place
    → TakesAs (λ k. collected k before.input old.reading found) es old new before behind result
    → TakesAs (λ k. found_in k before.input old.reading found) es old new before behind result
TakesAs-collected place found es old new before behind result collects is takes =
    let i : PageInput = before.input in
    TakesAs-as (λ k. collected k i old.reading found) (λ k. found_in k i old.reading found) es old new before behind result
    (λ k. subst (λ (r : LineState). collected k i r found ≡ found_in k i r found) (sym is) (collects k i)) takes

-- a condition that is read and asks nothing more decides
pub TakesAs-decided : (so : Bool) (es : ComposerOf) (old new : ReaderState) (before behind : PageUnread) → old.reading ≡ Deciding false
    → EndsDecided (Some so) before behind → new ≡ record old { reading = branch_of so }
    → TakesAs (λ k. escape_ended k old.reading before.input) es old new before behind (Ok Nothing)
TakesAs-decided so es old new before behind deciding ends came =
    let found : Found = Decides (Is so) None in
    TakesAs-ended_at (λ k i f. found_in k i old.reading f) (λ k. place_in k old.reading) AboveArguments es
    (λ l h rs i stands. ap (place_in (known_at h rs i)) (sym deciding)) old new before behind behind found (Ok Nothing) (ends AboveArguments)
    (TakesAs-where (λ k r. found_in k behind.input r found) (Deciding false) es old new behind behind (Ok Nothing) deciding
    (TakesAs-meant (λ k. found_in k behind.input (Deciding false) found) (branch_of so) es old new behind Nothing (λ k. refl) came refl))

-- the expression of a condition ended that is a number: it decides next
pub TakesAs-expression_ended : (keeps : Bool) (es : ComposerOf) (old : ReaderState) (before behind : PageUnread) → old.reading ≡ Deciding keeps
    → ((base : Surroundings) → (GoesOn, behind) ≡ reading (reading_ended base before.input.escapes) before)
    → TakesAs (λ k. escape_ended k old.reading before.input) es old old before behind (Ok Nothing)
TakesAs-expression_ended keeps es old before behind deciding ends =
    TakesAs-ended_at (λ k i f. found_in k i old.reading f) (λ k. place_in k old.reading) AboveArguments es
    (λ l h rs i stands. ap (place_in (known_at h rs i)) (sym deciding)) old old before behind behind GoesOn (Ok Nothing) (ends AboveArguments)
    (TakesAs-where (λ k r. found_in k behind.input r GoesOn) (Deciding keeps) es old old behind behind (Ok Nothing) deciding
    (TakesAs-meant (λ k. found_in k behind.input (Deciding keeps) GoesOn) (Deciding keeps) es old old behind Nothing (λ k. refl)
    (ap (λ (r : LineState). record old { reading = r }) deciding) refl))
