-- What the code does where a definition begins and ends, as the definition does it.
use Rattle.std.proofs.Common.{◌≡◌, ℕ, ◌≤◌, Bool, length, Option, Some, None, Result, refl, subst, ◌∙◌, arith, length-take}
use Rattle.std.specs.Option.{option_flatten}
use Rattle.run_state.specs.declared.composer.Composer.{Composer as ComposerOf}
use Rattle.roff_num.specs.declared.limit.Limit.{Limit}
use Rattle.input_model.proofs.KeptArguments.{held-finished, held-only_kept}
use Rattle.input_model.specs.Arguments.{finished}
use Rattle.input_model.specs.Input.{with_arguments}
use Rattle.run_model.specs.Definitions.{end_mark, front_of}
use Rattle.read_lines.specs.Reader.State.{ReaderState}
use Rattle.read_lines.specs.Reader.Taken.{TakesAs}
use Rattle.run_model.specs.Reading.Items.{PageUnread, PageInput, Taking}
use Rattle.run_model.specs.Reading.Arguments.{arguments_ended, line_ended}
use Rattle.run_model.specs.Reading.Definitions.{definition_begun}
use Rattle.run_model.specs.Registers.{Known}
use Rattle.roff_num.specs.ShortNames.{name_or_none}
use Rattle.run_model.specs.declared.step.Step.{Step}
use Rattle.roff_num.specs.declared.short_name.ShortName.{ShortName}
use Rattle.run_model.specs.declared.request.LineReading.{LineReading}
use Rattle.run_model.specs.declared.request.LineReading.TheVariants.{ByArguments, ByCondition, ByElse, ByLastLine, ByMessage, ByString, ByLines, ByTitle}
use Rattle.run_model.specs.declared.request.LinesFor.{LinesFor}
use Rattle.run_model.specs.declared.request.Request.{Request}
use Rattle.run_model.proofs.InputCounts.{NoMore}
use Rattle.read_lines.proofs.TakesAs.{TakesAs-less}

-- the line of any request but one by which lines are defined ends as the request is obeyed
pub arguments_ended-obeyed : (k : Known) (i : PageInput) (breaks : Bool) (request : Request) (line : LineReading) → ((lines : LinesFor) → line ≡ ByLines lines → ⊥)
    → line_ended k i breaks request ≡ arguments_ended k i breaks request line
arguments_ended-obeyed k i breaks request ByArguments no_lines = refl
arguments_ended-obeyed k i breaks request (ByCondition keeps) no_lines = refl
arguments_ended-obeyed k i breaks request (ByString appends) no_lines = refl
arguments_ended-obeyed k i breaks request ByLastLine no_lines = refl
arguments_ended-obeyed k i breaks request (ByMessage aborts) no_lines = refl
arguments_ended-obeyed k i breaks request ByTitle no_lines = refl
arguments_ended-obeyed k i breaks request ByElse no_lines = refl
arguments_ended-obeyed k i breaks request (ByLines lines) no_lines = absurd (no_lines lines refl)

-- the input of a line that has ended
abbrev pub line_finished : PageUnread → PageUnread
line_finished u = record u { input = with_arguments (finished u.input.arguments) u.input }

-- its arguments count for no more
NoMore-finished : (i : PageInput) → NoMore (with_arguments (finished i.arguments) i) i
NoMore-finished i =
    let same = held-only_kept (finished i.arguments) ∙ held-finished i.arguments in
    record { bytes = omega (arith, same); texts = omega arith; results = omega arith; stored = omega arith; names = omega arith; open_texts = omega arith }

-- a definition begins behind a line as it does where the line's arguments are
definition_begun-finished : (i : PageInput) (name : Option ShortName) (appends : Bool) (end : Option ShortName)
    → definition_begun (with_arguments (finished i.arguments) i) name appends end ≡ definition_begun i name appends end
definition_begun-finished i None appends end = refl
definition_begun-finished i (Some name) appends end = refl

pub TakesAs-behind_line : (name : Option ShortName) (appends : Bool) (end : Option ShortName) (es : ComposerOf) (old new : ReaderState) (before mid behind : PageUnread)
    (result : Result Step Limit) → mid ≡ line_finished before → TakesAs (λ k. definition_begun mid.input name appends end) es old new mid behind result
    → TakesAs (λ k. definition_begun before.input name appends end) es old new before behind result
TakesAs-behind_line name appends end es old new before mid behind result finishes takes =
    let i : PageInput = with_arguments (finished before.input.arguments) before.input in
    let there : TakesAs (λ k. definition_begun i name appends end) es old new (line_finished before) behind result =
    subst (λ (u : PageUnread). TakesAs (λ k. definition_begun u.input name appends end) es old new u behind result) finishes takes in
    TakesAs-less i (λ k. definition_begun before.input name appends end) es old new before behind result (NoMore-finished before.input) refl refl
    (subst (λ (t : Taking). TakesAs (λ k. t) es old new (line_finished before) behind result) (definition_begun-finished before.input name appends end) there)

-- what stands in front of a line that may be the last one is a part of its mark
mark_few : (end : Option ShortName) → length (end_mark end) ≤ 3
mark_few None = omega arith
mark_few (Some name) = elim name.second as (λ second. length (end_mark (Some (record { first = name.first; second = second }))) ≤ 3) [
  | None ↦ omega arith
  | Some second ↦ omega arith
]

pub front_of-few : (end : Option ShortName) (matched : Option ℕ) → length (front_of (end_mark end) matched) ≤ 3
front_of-few end None = omega arith
front_of-few end (Some matched) = omega (arith, mark_few end, length-take matched (end_mark end))

-- the name that an argument gives, if it is there and gives one
pub flatten-name : (name : Option (Option ShortName)) → option_flatten name ≡ name_or_none name
flatten-name None = refl
flatten-name (Some name) = refl
