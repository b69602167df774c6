use Rattle.roff_lines.proofs.Steps.{last-blank}
use Rattle.roff_lines.proofs.lanes.behind_last_blank.Goals as goal

pub returns-clause-few : goal.returns-clause-few
returns-clause-few c =
    (last-blank c.args.bytes.now c.args.start c.args.count c.blanks_of_step.result c.in_front-blanks.result c.requires.within c.requires.count
    c.blanks_of_step.ensures c.in_front-blanks.ensures).few

pub returns-clause-blank : goal.returns-clause-blank
returns-clause-blank c =
    (last-blank c.args.bytes.now c.args.start c.args.count c.blanks_of_step.result c.in_front-blanks.result c.requires.within c.requires.count
    c.blanks_of_step.ensures c.in_front-blanks.ensures).blank

pub returns-clause-others : goal.returns-clause-others
returns-clause-others c =
    (last-blank c.args.bytes.now c.args.start c.args.count c.blanks_of_step.result c.in_front-blanks.result c.requires.within c.requires.count
    c.blanks_of_step.ensures c.in_front-blanks.ensures).others
