use Rattle.std.proofs.Common.{◌≡◌, Bool, rules, refl, subst}
use Rattle.input_model.specs.Input.Calls.{last_result, without_last}
use Rattle.read_lines.specs.Reader.Taken.{TakesAs}
use Rattle.run_model.specs.Reading.Items.{PageUnread}
use Rattle.run_model.specs.Reading.Branches.{branch_taking, reads_else}
use Rattle.run_model.specs.Reading.ControlLines.{line_taking}
use Rattle.run_model.specs.Requests.{row_of}
use Rattle.run_model.specs.declared.request.LineReading.TheVariants.{ByArguments, ByCondition, ByElse, ByLastLine, ByLines, ByMessage, ByString, ByTitle}
use Rattle.read_lines.proofs.TakesAs.{NoMore-without_last, TakesAs-less, TakesAs-line}
use Rattle.read_steps.proofs.control_lines.read_first.Goals as goal

pub returns-in-ByArguments : goal.returns-in-ByArguments
returns-in-ByArguments c =
    let done = c.read_from in
    let line : (row_of c.args.request).line ≡ ByArguments = search rules in
    TakesAs-line ByArguments c.args.breaks c.args.request c.args.byte c.args.composer.now c.args.reader.now done.new.reader c.args.unread.now done.new.unread done.result line
    done.ensures

pub returns-in-ByLastLine : goal.returns-in-ByLastLine
returns-in-ByLastLine c =
    let done = c.read_from-in-ByLastLine in
    let line : (row_of c.args.request).line ≡ ByLastLine = search rules in
    TakesAs-line ByLastLine c.args.breaks c.args.request c.args.byte c.args.composer.now c.args.reader.now done.new.reader c.args.unread.now done.new.unread done.result line
    done.ensures

pub returns-in-ByLines : goal.returns-in-ByLines
returns-in-ByLines c =
    let done = c.read_from-in-ByLines in
    let line : (row_of c.args.request).line ≡ ByLines c.in-ByLines.field-0 = search rules in
    TakesAs-line (ByLines c.in-ByLines.field-0) c.args.breaks c.args.request c.args.byte c.args.composer.now c.args.reader.now done.new.reader c.args.unread.now done.new.unread done.result line
    done.ensures

pub returns-in-ByString : goal.returns-in-ByString
returns-in-ByString c =
    let done = c.read_from-in-ByString in
    let line : (row_of c.args.request).line ≡ ByString c.in-ByString.appends = search rules in
    TakesAs-line (ByString c.in-ByString.appends) c.args.breaks c.args.request c.args.byte c.args.composer.now c.args.reader.now done.new.reader c.args.unread.now done.new.unread done.result line
    done.ensures

pub returns-in-ByMessage : goal.returns-in-ByMessage
returns-in-ByMessage c =
    let done = c.read_from-in-ByMessage in
    let line : (row_of c.args.request).line ≡ ByMessage c.in-ByMessage.aborts = search rules in
    TakesAs-line (ByMessage c.in-ByMessage.aborts) c.args.breaks c.args.request c.args.byte c.args.composer.now c.args.reader.now done.new.reader c.args.unread.now done.new.unread done.result line
    done.ensures

pub returns-in-ByTitle : goal.returns-in-ByTitle
returns-in-ByTitle c =
    let done = c.read_from-in-ByTitle in
    let line : (row_of c.args.request).line ≡ ByTitle = search rules in
    TakesAs-line ByTitle c.args.breaks c.args.request c.args.byte c.args.composer.now c.args.reader.now done.new.reader c.args.unread.now done.new.unread done.result line
    done.ensures

pub returns-in-ByCondition : goal.returns-in-ByCondition
returns-in-ByCondition c =
    let keeps = c.in-ByCondition.keeps in
    let done = c.begin_condition in
    let line : (row_of c.args.request).line ≡ ByCondition keeps = search rules in
    TakesAs-line (ByCondition keeps) c.args.breaks c.args.request c.args.byte c.args.composer.now c.args.reader.now done.new.self c.args.unread.now done.new.unread done.result line
    done.ensures

pub returns-in-ByElse : goal.returns-in-ByElse
returns-in-ByElse c =
    let es = c.args.composer.now in
    let old = c.args.reader.now in
    let u = c.args.unread.now in
    let b = c.args.byte in
    let breaks = c.args.breaks in
    let request = c.args.request in
    let done = c.begin_branch in
    let line : (row_of request).line ≡ ByElse = search rules in
    let so : c.eq-so.result ≡ reads_else (last_result u.input) = search rules in
    let At : PageUnread → Bool → Type 0 = λ v so. TakesAs (λ k. branch_taking k v.input so b) es old done.new.self v done.new.unread done.result in
    TakesAs-line ByElse breaks request b es old done.new.self u done.new.unread done.result line
    (TakesAs-less (without_last u.input) (λ k. line_taking k u.input breaks request ByElse b) es old done.new.self u done.new.unread done.result
    (NoMore-without_last u.input) refl refl (subst (λ (v : PageUnread). At v (reads_else (last_result u.input))) c.take_result.ensures.change (subst (λ (so : Bool). At c.take_result.new.self so) so done.ensures)))
