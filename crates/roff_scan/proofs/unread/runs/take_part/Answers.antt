use Rattle.std.proofs.Common.{◌≡◌, ℕ, Some, subst}
use Rattle.input_arguments.specs.ArgumentTexts.Kept.{StopsAt}
use Rattle.roff_scan.proofs.PartsTaken.{part-blanks, part-condition, part-definition, part-dropped, part-held, part-held_fewer, part-ignored, part-name}
use Rattle.roff_scan.proofs.unread.runs.take_part.Goals as goal

pub returns-in-Blanks-clause-takes : goal.returns-in-Blanks-clause-takes
returns-in-Blanks-clause-takes c = part-blanks c.args.kind c.args.front.now _ c.args.arguments.now c.args.escapes.now c.in-Blanks.is c.blanks_in_front.ensures

pub returns-in-Arguments-clause-takes : goal.returns-in-Arguments-clause-takes
returns-in-Arguments-clause-takes c = part-held c.args.kind c.args.front.now _ c.args.arguments.now c.args.escapes.now _ c.in-Arguments.is c.take_front.ensures.takes

pub returns-in-CallArguments-clause-takes : goal.returns-in-CallArguments-clause-takes
returns-in-CallArguments-clause-takes c =
    part-held_fewer c.args.kind c.args.front.now _ c.args.arguments.now c.args.escapes.now _ _ c.in-CallArguments.is c.take_front-in-CallArguments.ensures.takes

pub returns-in-Name-clause-takes : goal.returns-in-Name-clause-takes
returns-in-Name-clause-takes c = part-name c.args.kind c.args.front.now _ c.args.arguments.now c.args.escapes.now _ c.in-Name.is c.read_front.ensures

pub returns-in-Condition-clause-takes : goal.returns-in-Condition-clause-takes
returns-in-Condition-clause-takes c = part-condition c.args.kind c.args.front.now _ c.args.arguments.now c.args.escapes.now _ c.in-Condition.is c.take_front-in-Condition.ensures

pub returns-in-Definition-clause-takes : goal.returns-in-Definition-clause-takes
returns-in-Definition-clause-takes c = part-definition c.args.kind c.args.front.now _ c.args.arguments.now c.args.escapes.now c.in-Definition.is c.text_in_front.ensures

pub returns-in-Ignored-clause-takes : goal.returns-in-Ignored-clause-takes
returns-in-Ignored-clause-takes c = part-ignored c.args.kind c.args.front.now _ c.args.arguments.now c.args.escapes.now c.in-Ignored.is c.text_in_front-in-Ignored.ensures

pub returns-in-Dropped-clause-takes : goal.returns-in-Dropped-clause-takes
returns-in-Dropped-clause-takes c = part-dropped c.args.kind c.args.front.now _ c.args.arguments.now c.args.escapes.now _ c.in-Dropped.is c.passed_len.ensures

pub returns-in-CallArguments-clause-stops : goal.returns-in-CallArguments-clause-stops
returns-in-CallArguments-clause-stops c = λ most is.
    let same : c.in-CallArguments.most ≡ most = cc (c.in-CallArguments.is, is) in
    subst (λ (n : ℕ). StopsAt (Some n) c.args.front.now c.take_front-in-CallArguments.result c.take_front-in-CallArguments.new.self.arguments) same c.take_front-in-CallArguments.ensures.stops
