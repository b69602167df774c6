use Rattle.std.proofs.Common.{◌≡◌, ℕ, List, sym, ap, ◌∙◌}
use Rattle.std.specs.List.{slice_range}
use Rattle.tbl_data.proofs.LineSteps.{kind-line, none-kept, row-line}
use Rattle.tbl_kept.specs.TableText.{block_of}
use Rattle.tbl_layout.specs.DataLines.{line_kind}
use Rattle.tbl_data.proofs.table_data.TableData.take_data_line.Goals as goal
use Rattle.tbl_data.proofs.table_data.TableData.take_data_line.Goals.{After-line_kind}

kind : (c : After-line_kind) → line_kind (slice_range (block_of c.args.text.now) c.args.line.from c.args.line.to) ≡ c.line_kind.result
kind c = ap (λ (b : List ℕ). line_kind (slice_range b c.args.line.from c.args.line.to)) (sym c.block.ensures) ∙ sym c.line_kind.ensures

pub returns-in-Rule-clause-made : goal.returns-in-Rule-clause-made
returns-in-Rule-clause-made c =
    kind-line (kind (goal.at.returns-in-Rule-clause-made c).After-line_kind ∙ c.in-Rule.is)
    (c.take_rule.ensures.made c.args.text.now c.args.line c.requires.fits c.requires.closed)

pub returns-in-Formats-clause-made : goal.returns-in-Formats-clause-made
returns-in-Formats-clause-made c =
    kind-line (kind (goal.at.returns-in-Formats-clause-made c).After-line_kind ∙ c.in-Formats.is)
    (c.begin_further.ensures.made c.args.text.now c.args.line c.requires.fits c.requires.closed)

pub returns-in-Command-clause-made : goal.returns-in-Command-clause-made
returns-in-Command-clause-made c =
    kind-line (kind (goal.at.returns-in-Command-clause-made c).After-line_kind ∙ c.in-Command.is)
    (c.take_command.ensures.made c.args.text.now c.requires.lies.within c.requires.fits c.requires.closed)

pub returns-in-Row-clause-made : goal.returns-in-Row-clause-made
returns-in-Row-clause-made c =
    row-line (kind (goal.at.returns-in-Row-clause-made c).After-line_kind ∙ c.in-Row.is)
    (none-kept c.args.text.now c.args.self.now c.requires.fits c.requires.closed) c.take_fields.ensures.made
