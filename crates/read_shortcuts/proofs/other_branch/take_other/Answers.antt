use Rattle.std.proofs.Common.{ap, ◌∙◌, arith}
use Rattle.run_model.specs.declared.line_state.LineState.{LineState}
use Rattle.read_shortcuts.proofs.BytesTaken.{front_taken}
use Rattle.read_shortcuts.proofs.OtherBranches.{other-plain, takes-other}
use Rattle.read_shortcuts.proofs.other_branch.take_other.Goals as goal

pub take_front-requires-clause-plain : goal.take_front-requires-clause-plain
take_front-requires-clause-plain g c = other-plain c.args.front c.args.reader.now.reading (g.S.ByteSource.ready c.args.source.now) c.args.unread.now c.requires

pub returns-clause-takes : goal.returns-clause-takes
returns-clause-takes g c =
    let r = c.args.reader.now in
    takes-other _ _ r c.go_on.new.self c.args.front (g.S.ByteSource.ready c.args.source.now) c.args.unread.now c.take_front.new.unread c.take_result.new.self c.take_result.result c.is_read-so.result
    c.requires c.take_front.ensures.passes c.take_result.ensures.last c.take_result.ensures.change c.is_read-so.ensures c.stays_within.ensures
    (c.go_on.ensures ∙ ap (λ (reading : LineState). record r { reading = reading }) c.branch-so.ensures)

pub returns-clause-taken : goal.returns-clause-taken
returns-clause-taken g c =
    rw c.take_result.ensures.change
    (front_taken _ _ 3 _ c.args.unread.now c.take_front.new.unread c.requires.stands.front (omega arith) c.take_front.ensures.passes)
