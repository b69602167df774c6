use Rattle.std.proofs.Common.{take, ap, sym, ◌∙◌}
use Rattle.roff_scan.proofs.Fronts.{begins-ahead, begins-ready, nothing_looked}
use Rattle.roff_scan.proofs.unread.fronts.front_of.Goals as goal

pub returns-then-not-is_empty-clause-bytes : goal.returns-then-not-is_empty-clause-bytes
returns-then-not-is_empty-clause-bytes g c =
    (begins-ahead c.args.input_ahead.now.ahead c.args.looked (g.S.ByteSource.ready c.args.source.now) c.at_most.result.now c.args.most c.front.result.now
    (sym c.is_empty.ensures ∙ c.if-not-is_empty.true) c.front.ensures c.at_most.ensures).same

pub returns-then-not-is_empty-clause-among : goal.returns-then-not-is_empty-clause-among
returns-then-not-is_empty-clause-among g c =
    (begins-ahead c.args.input_ahead.now.ahead c.args.looked (g.S.ByteSource.ready c.args.source.now) c.at_most.result.now c.args.most c.front.result.now
    (sym c.is_empty.ensures ∙ c.if-not-is_empty.true) c.front.ensures c.at_most.ensures).among

pub returns-then-not-is_empty-clause-few : goal.returns-then-not-is_empty-clause-few
returns-then-not-is_empty-clause-few g c =
    (begins-ahead c.args.input_ahead.now.ahead c.args.looked (g.S.ByteSource.ready c.args.source.now) c.at_most.result.now c.args.most c.front.result.now
    (sym c.is_empty.ensures ∙ c.if-not-is_empty.true) c.front.ensures c.at_most.ensures).few

pub returns-clause-bytes : goal.returns-clause-bytes
returns-clause-bytes g c =
    (begins-ready c.args.input_ahead.now.ahead c.args.looked (g.S.ByteSource.ready c.args.source.now) c.at_most-2.result.now c.args.most
    (sym c.is_empty.ensures ∙ c.if-not-is_empty.false) (nothing_looked c.args.looked (sym c.is_nothing.ensures ∙ c.if-not-is_nothing.false)) (c.at_most-2.ensures ∙ ap (take c.args.most) c.buffered.ensures)).same

pub returns-clause-among : goal.returns-clause-among
returns-clause-among g c =
    (begins-ready c.args.input_ahead.now.ahead c.args.looked (g.S.ByteSource.ready c.args.source.now) c.at_most-2.result.now c.args.most
    (sym c.is_empty.ensures ∙ c.if-not-is_empty.false) (nothing_looked c.args.looked (sym c.is_nothing.ensures ∙ c.if-not-is_nothing.false)) (c.at_most-2.ensures ∙ ap (take c.args.most) c.buffered.ensures)).among

pub returns-clause-few : goal.returns-clause-few
returns-clause-few g c =
    (begins-ready c.args.input_ahead.now.ahead c.args.looked (g.S.ByteSource.ready c.args.source.now) c.at_most-2.result.now c.args.most
    (sym c.is_empty.ensures ∙ c.if-not-is_empty.false) (nothing_looked c.args.looked (sym c.is_nothing.ensures ∙ c.if-not-is_nothing.false)) (c.at_most-2.ensures ∙ ap (take c.args.most) c.buffered.ensures)).few
