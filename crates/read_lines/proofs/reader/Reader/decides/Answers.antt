use Rattle.std.proofs.Common.{◌≡◌, false, rules}
use Rattle.run_model.specs.declared.line_state.LineState.TheVariants.{Deciding}
use Rattle.read_lines.proofs.LinesTaken.{TakesAs-decided}
use Rattle.read_lines.proofs.reader.Reader.decides.Goals as goal

pub returns-in-Some-clause-decides : goal.returns-in-Some-clause-decides
returns-in-Some-clause-decides c = λ did es.
    let deciding : c.args.self.now.reading ≡ Deciding false = search rules in
    TakesAs-decided c.in-Some.so es c.args.self.now c.go_on.new.self c.args.unread.now c.end_decided.new.self deciding (search rules) (search rules)
