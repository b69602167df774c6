use Rattle.std.proofs.Common.{◌∙◌}
use Rattle.tbl_core.proofs.GatheredBytes.{ready_gathered, source_answers}
use Rattle.tbl_core.proofs.gathered.GatheredSource.take_next.Goals as goal

pub returns-clause-gives : goal.returns-clause-gives
returns-clause-gives g c =
    let kept = c.gather.ensures.kept in
    source_answers g.S.ByteSource.gives c.args.self.now c.gather.new.self c.take-taken.new.self _ c.requires c.take-taken.ensures.gives kept.inner kept.tables

pub returns-clause-giving : goal.returns-clause-giving
returns-clause-giving g c = λ pends. c.gather.ensures.kept.giving ∙ c.take-taken.ensures.giving pends

pub returns-clause-ready : goal.returns-clause-ready
returns-clause-ready g c = ready_gathered c.gather.new.self c.gather.ensures.none c.gather.ensures.many
