-- The line that ends a definition: its text enters a name first, and what limit refuses that refuses the whole step.
use Rattle.std.proofs.Common.{◌≡◌, ℕ, ◌+◌, ◌-◌, Bool, true, false, List, [], ◌∷◌, ◌++◌, length, Option, Some, None, Result, Ok, Err, refl, sym, subst, ap, ◌∙◌, arith, is_some, nat_lt, sum_by, if◌then◌else◌}
use Rattle.run_state.specs.declared.composer.Composer.{Composer as ComposerOf}
use Rattle.roff_num.specs.declared.limit.Limit.{Limit}
use Rattle.roff_num.specs.declared.limit.Limit.TheVariants.{Conditions, Depth, Diversions, Names, Stack, Store}
use Rattle.roff_num.specs.declared.limits.Limits.{Limits}
use Rattle.input_escapes.specs.OpenEscape.{unit_bytes}
use Rattle.input_model.specs.Input.{beginning_line, depth, pushed, result_count}
use Rattle.input_model.specs.Input.Names.{calling_on, dropping}
use Rattle.input_model.specs.Unread.{input_refusal}
use Rattle.input_escapes.specs.declared.open_escape.CopyUnit.{CopyUnit}
use Rattle.roff_store.specs.TextCalls.{Call, Enter}
use Rattle.roff_store.specs.Texts.{bytes_in, newest}
use Rattle.run_model.specs.Definitions.{end_mark, ends_mark, front_of, line_from, matched_behind}
use Rattle.run_model.specs.Events.Steps.{events_of, messages_of}
use Rattle.run_model.specs.Output.{PageHistory}
use Rattle.read_lines.specs.Reader.State.{ReaderState}
use Rattle.read_names.specs.Inputs.{InputCameTo}
use Rattle.read_lines.specs.Reader.Taken.{Takes, TakesAs}
use Rattle.run_model.specs.Reading.Items.{PageUnread, PageInput, Taking, going_on}
use Rattle.run_model.specs.Reading.DefinedLines.{behind_definition, definition_line, definition_unit}
use Rattle.run_model.specs.Reading.Definitions.{definition_cut, definition_dropped, definition_grown}
use Rattle.run_model.specs.Reading.Strings.{string_entered}
use Rattle.roff_num.specs.ShortNames.{name_bytes}
use Rattle.run_model.specs.Registers.{AllRegisters, Known, changed_by_all}
use Rattle.run_model.specs.Run.{known_at}
use Rattle.run_model.specs.TitleTexts.{title_length}
use Rattle.run_model.specs.declared.definition.DefinitionLine.{DefinitionLine}
use Rattle.run_model.specs.declared.definition.DefinitionLine.TheVariants.{IsText}
use Rattle.run_model.specs.declared.step.Step.{Step}
use Rattle.run_model.specs.declared.line_state.LineState.TheVariants.{LineStart, Collecting}
use Rattle.run_model.specs.declared.purpose.Purpose.TheVariants.{Defining}
use Rattle.run_model.specs.declared.message.Message.TheVariants.{DefinitionNotEnded}
use Rattle.roff_num.specs.declared.short_name.ShortName.{ShortName}
use Rattle.read_steps.proofs.DefinitionEnds.{LeavesTexts, LeavesTexts-behind_definition, NamesAndTexts, names_and_texts}
use Rattle.run_model.proofs.InputCounts.{NoMore, first_passed-few_names, first_passed-no_more, not_above}
use Rattle.read_lines.proofs.Strings.{refused_none}
use Rattle.read_lines.proofs.TakesAs.{Takes-elsewhere, few_names, short_title}

-- what is known behind a call on texts in the making is what was known before
known-calling_on : (call : ℕ → Call) (id : Option ℕ) (h : PageHistory) (rs : AllRegisters) (i : PageInput) → known_at h rs (calling_on call id i) ≡ known_at h rs i
known-calling_on call None h rs i = refl
known-calling_on call (Some id) h rs i = refl

known-entered : (name : Option ShortName) (appends : Bool) (h : PageHistory) (rs : AllRegisters) (i : PageInput)
    → known_at h rs (string_entered name appends i) ≡ known_at h rs i
known-entered None appends h rs i = refl
known-entered (Some name) appends h rs i = known-calling_on (λ id. Enter id (name_bytes name) appends) (newest i.open_texts) h rs i

-- the first limit that what stands in front is above, or what is kept
abbrev ahead_refusal : Limits → PageInput → Option Limit
ahead_refusal l i =
    if nat_lt l.stack (pushed i) then Some Stack
    else if nat_lt l.depth (depth i) then Some Depth
    else if nat_lt l.conditions (result_count i) then Some Conditions
    else None

-- the first one that names and texts are above, and else that one
abbrev refusal_of : Bool → Bool → Bool → Option Limit → Option Limit
refusal_of store names diversions rest =
    if store then Some Store else if names then Some Names else if diversions then Some Diversions else rest

abbrev texts_refusal : Limits → NamesAndTexts → Option Limit → Option Limit
texts_refusal l texts rest =
    refusal_of (nat_lt l.store (bytes_in texts.names + sum_by length texts.open_texts)) (nat_lt l.names (length texts.names - texts.first_names))
    (nat_lt l.diversions (length texts.open_texts - 1)) rest

-- a refusal by names and texts alone is one whatever stands in front
refused_by_texts : (store names diversions : Bool) (rest other : Option Limit) (limit : Limit) → rest ≡ None
    → refusal_of store names diversions rest ≡ Some limit → refusal_of store names diversions other ≡ Some limit
refused_by_texts true names diversions rest other limit none refused = refused
refused_by_texts false true diversions rest other limit none refused = refused
refused_by_texts false false true rest other limit none refused = refused
refused_by_texts false false false rest other limit none refused = cc

none_refused : (store names diversions : Bool) (rest : Option Limit) → refusal_of store names diversions rest ≡ None → rest ≡ None
none_refused true names diversions rest none = cc
none_refused false true diversions rest none = cc
none_refused false false true rest none = cc
none_refused false false false rest none = none

-- a call on texts in the making leaves what stands in front
ahead-calling_on : (call : ℕ → Call) (id : Option ℕ) (l : Limits) (i : PageInput) → ahead_refusal l (calling_on call id i) ≡ ahead_refusal l i
ahead-calling_on call None l i = refl
ahead-calling_on call (Some id) l i = refl

ahead-entered : (name : Option ShortName) (appends : Bool) (l : Limits) (i : PageInput) → ahead_refusal l (string_entered name appends i) ≡ ahead_refusal l i
ahead-entered None appends l i = refl
ahead-entered (Some name) appends l i = ahead-calling_on (λ id. Enter id (name_bytes name) appends) (newest i.open_texts) l i

-- where a text can't enter its name, no input of these names and texts is within the limits
refused-behind : (l : Limits) (name : Option ShortName) (appends : Bool) (i behind : PageInput) (limit : Limit) → input_refusal l i ≡ None
    → names_and_texts behind ≡ names_and_texts (string_entered name appends i) → input_refusal l (string_entered name appends i) ≡ Some limit
    → input_refusal l behind ≡ Some limit
refused-behind l name appends i behind limit within same refused =
    let none : ahead_refusal l (string_entered name appends i) ≡ None =
    ahead-entered name appends l i ∙ none_refused _ _ _ (ahead_refusal l i) within in
    ap (λ (texts : NamesAndTexts). texts_refusal l texts (ahead_refusal l behind)) same
    ∙ refused_by_texts _ _ _ (ahead_refusal l (string_entered name appends i)) (ahead_refusal l behind) limit none refused

-- nor is the step that goes on behind it
pub TakesAs-not_entered : (name : Option ShortName) (appends : Bool) (end : Option ShortName) (b : ℕ) (es : ComposerOf) (old new : ReaderState) (before behind : PageUnread)
    (limit : Limit) → ends_mark b ≡ true → InputCameTo (string_entered name appends before.input) before behind (Err limit)
    → TakesAs (λ k. behind_definition k (string_entered name appends before.input) end b) es old new before behind (Err limit)
TakesAs-not_entered name appends end b es old new before behind limit ends refused = record {
  takes = λ l h stands ready.
      let entered : PageInput = string_entered name appends before.input in
      let k : Known = known_at h old.registers.all before.input in
      let step : Taking = behind_definition k entered end b in
      let leaves : LeavesTexts entered step = LeavesTexts-behind_definition k entered end b ends in
      let within = refused_none old.registers before ready in
      let few : nat_lt before.limits.names (length (changed_by_all step.effect.changes old.registers.all).named) ≡ false =
      ap (λ (n : ℕ). nat_lt before.limits.names n) (leaves.registers old.registers.all) ∙ few_names old.registers before ready in
      let short : nat_lt before.limits.line (title_length (changed_by_all step.effect.changes old.registers.all).title) ≡ false =
      not_above before.limits.line (title_length old.registers.all.title) (title_length (changed_by_all step.effect.changes old.registers.all).title)
      (leaves.title old.registers.all) (short_title old.registers before ready) in
      first_passed-few_names before.limits (changed_by_all step.effect.changes old.registers.all) step.input few short
      ∙ refused-behind before.limits name appends before.input step.input limit within leaves.texts (refused.becomes within);
}

-- what is taken once the text has entered its name
pub TakesAs-entered : (t : Known → PageInput → Taking) (name : Option ShortName) (appends : Bool) (es : ComposerOf) (old new : ReaderState) (before mid behind : PageUnread)
    (done : Unit {0}) (result : Result Step Limit) → InputCameTo (string_entered name appends before.input) before mid (Ok done)
    → TakesAs (λ k. t k mid.input) es old new mid behind result
    → TakesAs (λ k. t k (string_entered name appends before.input)) es old new before behind result
TakesAs-entered t name appends es old new before mid behind done result became takes = record {
  takes = λ l h stands ready.
      let i : PageInput = string_entered name appends before.input in
      let now = became.becomes (refused_none old.registers before ready) in
      let moved : TakesAs (λ k. t k i) es old new (record before { input = i }) behind result =
      subst (λ (u : PageUnread). TakesAs (λ k. t k u.input) es old new u behind result) now.0 takes in
      let within = first_passed-few_names before.limits old.registers.all i (few_names old.registers before ready) (short_title old.registers before ready) ∙ now.1 in
      subst (λ (k : Known). Takes (t k i) old.registers new before behind result) (known-entered name appends h old.registers.all before.input)
      (Takes-elsewhere (t (known_at h old.registers.all i) i) old.registers new before behind i result
      (moved.takes l h stands (record { cap = ready.cap; line = ready.line; within = within })));
}

-- a line of which nothing was read counts for no more
NoMore-beginning : (i : PageInput) → NoMore (beginning_line i) i
NoMore-beginning i = record { bytes = omega arith; texts = omega arith; results = omega arith; stored = omega arith; names = omega arith; open_texts = omega arith }

-- what is taken once a line begins
pub TakesAs-line_begun : (t : Known → PageInput → Taking) (es : ComposerOf) (old new : ReaderState) (before mid behind : PageUnread) (result : Result Step Limit)
    → mid ≡ record before { input = beginning_line before.input } → TakesAs (λ k. t k mid.input) es old new mid behind result
    → TakesAs (λ k. t k (beginning_line before.input)) es old new before behind result
TakesAs-line_begun t es old new before mid behind result begins takes =
    let i : PageInput = beginning_line before.input in
    let moved : TakesAs (λ k. t k i) es old new (record before { input = i }) behind result =
    subst (λ (u : PageUnread). TakesAs (λ k. t k u.input) es old new u behind result) begins takes in
    record {
      takes = λ l h stands ready.
          let within = first_passed-no_more before.limits old.registers.all i before.input (NoMore-beginning before.input) ready.within in
          Takes-elsewhere (t (known_at h old.registers.all before.input) i) old.registers new before behind i result
          (moved.takes l h stands (record { cap = ready.cap; line = ready.line; within = within }));
    }

-- a unit of a line that isn't the last one is text, behind what stood in front of it
pub definition_line-text : (k : Known) (i : PageInput) (name : Option ShortName) (appends : Bool) (end : Option ShortName) (matched behind : Option ℕ) (unit : CopyUnit)
    (front : List ℕ) → front ≡ front_of (end_mark end) matched → behind ≡ matched_behind unit → line_from (end_mark end) matched unit ≡ IsText
    → going_on (definition_grown name (front ++ unit_bytes unit) i) (Collecting (Defining name appends end behind)) ≡ definition_line k i name appends end matched unit
definition_line-text k i name appends end matched behind unit front stands goes_on is =
    ap (λ (bytes : List ℕ). going_on (definition_grown name (bytes ++ unit_bytes unit) i) (Collecting (Defining name appends end behind))) stands
    ∙ ap (λ (m : Option ℕ). going_on (definition_grown name (front_of (end_mark end) matched ++ unit_bytes unit) i) (Collecting (Defining name appends end m))) goes_on
    ∙ ap (λ (line : DefinitionLine). definition_unit k i name appends end (front_of (end_mark end) matched) unit line) (sym is)

-- the text of a definition that ends with the input is dropped, if a name would have got it
pub definition_dropped-some : (name : Option ShortName) (i : PageInput) → is_some name ≡ true → definition_dropped name i ≡ dropping i
definition_dropped-some None i is = cc
definition_dropped-some (Some name) i is = refl

pub definition_dropped-none : (name : Option ShortName) (i : PageInput) → is_some name ≡ false → definition_dropped name i ≡ i
definition_dropped-none None i is = refl
definition_dropped-none (Some name) i is = cc

pub TakesAs-cut : (name : Option ShortName) (es : ComposerOf) (old new : ReaderState) (before behind : PageUnread) (m : Step)
    → behind ≡ record before { input = definition_dropped name before.input }
    → (input_refusal before.limits before.input ≡ None → input_refusal before.limits (definition_dropped name before.input) ≡ None)
    → new ≡ record old { reading = LineStart; meaning = new.meaning }
    → messages_of new.meaning.message m ≡ DefinitionNotEnded ∷ [] → events_of new.meaning.events m ≡ []
    → TakesAs (λ k. definition_cut before.input name) es old new before behind (Ok m)
TakesAs-cut name es old new before behind m dropped allowed came says none = record {
  takes = λ l h stands ready. record {
    became = record {
      input = dropped;
      reading = ap (λ (s : ReaderState). s.reading) came;
      registers = ap (λ (s : ReaderState). s.registers) came;
      within = first_passed-few_names before.limits old.registers.all (definition_dropped name before.input) (few_names old.registers before ready)
          (short_title old.registers before ready) ∙ allowed (refused_none old.registers before ready);
    };
    messages = says;
    events = none;
  };
}
