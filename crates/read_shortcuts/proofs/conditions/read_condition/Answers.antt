use Rattle.std.proofs.Common.{Bool, Some, ap, subst, ◌∙◌, arith}
use Rattle.read_names.specs.NamesRead.{LeadsTo}
use Rattle.run_model.specs.Reading.ControlLines.{behind_called}
use Rattle.run_model.specs.Requests.{called_by}
use Rattle.run_model.specs.declared.line_state.LineState.{LineState}
use Rattle.run_model.specs.declared.line_state.LineState.TheVariants.{Deciding}
use Rattle.read_shortcuts.specs.Conditions.{AsksNothing, ByConstant, StandsBehind}
use Rattle.read_shortcuts.specs.declared.conditions.BehindName.{BehindName}
use Rattle.read_shortcuts.proofs.BytesTaken.{front_taken}
use Rattle.read_shortcuts.proofs.ConstantConditions.{decides-constant, stands-constant}
use Rattle.read_shortcuts.proofs.conditions.read_condition.Goals as goal

pub returns-in-Some-clause-decides : goal.returns-in-Some-clause-decides
returns-in-Some-clause-decides g c = λ decided.
    let front = c.args.front in
    let u = c.args.unread.now in
    let so = c.in-Some.so in
    let ready = g.S.ByteSource.ready c.args.source.now in
    let bytes = c.front.result.now in
    let asks : AsksNothing bytes so = subst (λ (b : BehindName). StandsBehind bytes b) c.in-Some.ensures.constant c.behind_name-behind.ensures in
    ByConstant (decides-constant _ _ c.args.reader.now c.go_on.new.self front.breaks front.first front.second so ready u c.take_front.new.unread
    c.requires.none_half c.requires.none_due c.requires.begins c.requires.first c.requires.second
    (subst (λ (keeps : Bool). LeadsTo (λ i. behind_called i front.breaks (called_by (record { first = front.first; second = Some front.second }) u.input.names)) (Deciding keeps))
    c.in-Some.ensures.deciding c.requires.leads)
    (stands-constant front.breaks front.first front.second so bytes ready u c.front.ensures.bytes c.front.ensures.front asks c.requires.stands)
    c.in-Some.ensures.ahead c.take_front.ensures.passes c.stays_within.ensures c.stays_within-in-Some.ensures
    (c.go_on.ensures ∙ ap (λ (reading : LineState). record c.args.reader.now { reading = reading }) c.branch-so.ensures))

pub returns-in-Some-clause-taken : goal.returns-in-Some-clause-taken
returns-in-Some-clause-taken g c =
    let front = c.args.front in
    let u = c.args.unread.now in
    let so = c.in-Some.so in
    let ready = g.S.ByteSource.ready c.args.source.now in
    let bytes = c.front.result.now in
    let asks : AsksNothing bytes so = subst (λ (b : BehindName). StandsBehind bytes b) c.in-Some.ensures.constant c.behind_name-behind.ensures in
    let stands = stands-constant front.breaks front.first front.second so bytes ready u c.front.ensures.bytes c.front.ensures.front asks c.requires.stands in
    front_taken _ _ 6 ready u c.take_front.new.unread stands.front (omega arith) c.take_front.ensures.passes
