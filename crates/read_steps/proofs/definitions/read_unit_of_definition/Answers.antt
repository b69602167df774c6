use Rattle.std.proofs.Common.{◌≡◌, Err, Ok, Some, ap, refl, rules, sym, ◌++◌}
use Rattle.input_escapes.specs.OpenEscape.{unit_bytes}
use Rattle.run_model.specs.Definitions.{end_mark, front_of, line_from, matched_behind}
use Rattle.run_model.specs.Reading.DefinedLines.{behind_definition, definition_line, definition_unit}
use Rattle.run_model.specs.Reading.Definitions.{definition_grown}
use Rattle.run_model.specs.Reading.Items.{going_on}
use Rattle.run_model.specs.Reading.Strings.{string_entered}
use Rattle.run_model.specs.declared.definition.DefinitionLine.TheVariants.{IsLast, IsText, MayBeLast}
use Rattle.run_model.specs.declared.line_state.LineState.TheVariants.{Collecting}
use Rattle.run_model.specs.declared.purpose.Purpose.TheVariants.{Defining}
use Rattle.read_lines.proofs.BegunDefinitions.{front_of-few}
use Rattle.run_model.proofs.MarkEnds.{ends-line_from}
use Rattle.read_steps.proofs.EndedDefinitions.{definition_line-text}
use Rattle.read_lines.proofs.Strings.{TakesAs-became, TakesAs-not_became}
use Rattle.read_lines.proofs.TakesAs.{TakesAs-as}
use Rattle.read_lines.proofs.LinesTaken.{TakesAs-meant}
use Rattle.read_steps.proofs.definitions.read_unit_of_definition.Goals as goal

pub returns-in-MayBeLast : goal.returns-in-MayBeLast
returns-in-MayBeLast c =
    let i = c.args.unread.now.input in
    let name = c.args.name in
    let appends = c.args.appends in
    let end = c.args.end in
    let matched = c.args.matched in
    let unit = c.args.unit in
    let done = c.read_on in
    let line : line_from (end_mark end) matched unit ≡ MayBeLast c.in-MayBeLast.matched = search rules in
    TakesAs-meant (λ k. definition_line k i name appends end matched unit) (Collecting (Defining name appends end (Some c.in-MayBeLast.matched))) c.args.composer.now c.args.reader.now
    done.new.self c.args.unread.now done.result (λ k. ap (definition_unit k i name appends end (front_of (end_mark end) matched) unit) line)
    (search rules) done.ensures.step

pub end_definition-requires : goal.end_definition-requires
end_definition-requires c =
    let line : line_from (end_mark c.args.end) c.args.matched c.args.unit ≡ IsLast c.in-IsLast.byte = search rules in
    ends-line_from (end_mark c.args.end) c.args.matched c.args.unit c.in-IsLast.byte line

pub returns-in-IsLast : goal.returns-in-IsLast
returns-in-IsLast c =
    let i = c.args.unread.now.input in
    let name = c.args.name in
    let appends = c.args.appends in
    let end = c.args.end in
    let matched = c.args.matched in
    let unit = c.args.unit in
    let done = c.end_definition in
    let line : line_from (end_mark end) matched unit ≡ IsLast c.in-IsLast.byte = search rules in
    TakesAs-as (λ k. behind_definition k (string_entered name appends i) end c.in-IsLast.byte) (λ k. definition_line k i name appends end matched unit)
    c.args.composer.now c.args.reader.now done.new.reader c.args.unread.now done.new.unread done.result
    (λ k. ap (definition_unit k i name appends end (front_of (end_mark end) matched) unit) (sym line)) done.ensures

pub grow_definition-requires : goal.grow_definition-requires
grow_definition-requires c =
    let stands : c.front.result.now ≡ front_of (end_mark c.args.end) c.args.matched = search rules in
    rw stands (front_of-few c.args.end c.args.matched)

pub returns-in_err-grow_definition-in-IsText : goal.returns-in_err-grow_definition-in-IsText
returns-in_err-grow_definition-in-IsText c =
    let u = c.args.unread.now in
    let name = c.args.name in
    let appends = c.args.appends in
    let end = c.args.end in
    let matched = c.args.matched in
    let unit = c.args.unit in
    let limit = c.in_err-grow_definition-in-IsText.field-0.0 in
    let front = c.front.result.now in
    let line : line_from (end_mark end) matched unit ≡ IsText = search rules in
    let stands : front ≡ front_of (end_mark end) matched = search rules in
    let refused : c.from_residual.result ≡ Err limit = search rules in
    rw refused
    (TakesAs-as (λ k. going_on (definition_grown name (front ++ unit_bytes unit) u.input) (Collecting (Defining name appends end (matched_behind unit))))
    (λ k. definition_line k u.input name appends end matched unit) c.args.composer.now c.args.reader.now c.args.reader.now u c.grow_definition.new.unread (Err limit)
    (λ k. definition_line-text k u.input name appends end matched (matched_behind unit) unit front stands refl line)
    (TakesAs-not_became (definition_grown name (front ++ unit_bytes unit) u.input) (Collecting (Defining name appends end (matched_behind unit))) c.args.composer.now c.args.reader.now
    c.args.reader.now u c.grow_definition.new.unread limit c.in_err-grow_definition-in-IsText.ensures))

pub returns-in_ok-grow_definition-in-IsText : goal.returns-in_ok-grow_definition-in-IsText
returns-in_ok-grow_definition-in-IsText c =
    let u = c.args.unread.now in
    let name = c.args.name in
    let appends = c.args.appends in
    let end = c.args.end in
    let matched = c.args.matched in
    let unit = c.args.unit in
    let front = c.front.result.now in
    let done = c.read_on-in-IsText in
    let line : line_from (end_mark end) matched unit ≡ IsText = search rules in
    let stands : front ≡ front_of (end_mark end) matched = search rules in
    TakesAs-as (λ k. going_on (definition_grown name (front ++ unit_bytes unit) u.input) (Collecting (Defining name appends end (matched_behind unit))))
    (λ k. definition_line k u.input name appends end matched unit) c.args.composer.now c.args.reader.now done.new.self u c.grow_definition.new.unread (Ok done.result)
    (λ k. definition_line-text k u.input name appends end matched (matched_behind unit) unit front stands refl line)
    (TakesAs-became (definition_grown name (front ++ unit_bytes unit) u.input) (Collecting (Defining name appends end (matched_behind unit))) c.args.composer.now c.args.reader.now
    done.new.self u c.grow_definition.new.unread done.result c.in_ok-grow_definition-in-IsText.field-0 c.in_ok-grow_definition-in-IsText.ensures
    (search rules) done.ensures.step)
