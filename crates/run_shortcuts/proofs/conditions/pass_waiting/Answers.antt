use Rattle.std.proofs.Common.{ap, refl, sym, ◌∙◌}
use Rattle.run_model.specs.Reading.Items.{PageUnread}
use Rattle.read_shortcuts.specs.Conditions.{OfAhead}
use Rattle.run_items.proofs.HalfEnded.{byte-seen}
use Rattle.run_shortcuts.proofs.EndsAtOnce.{ends-expression, goes_past_expression, waits-reading}
use Rattle.run_shortcuts.proofs.PassingEnds.{goes_past_seen}
use Rattle.run_turns.proofs.ComingFurther.{comes_none}
use Rattle.run_shortcuts.proofs.conditions.pass_waiting.Goals as goal

pub returns-then-is_ended_by-clause-past : goal.returns-then-is_ended_by-clause-past
returns-then-is_ended_by-clause-past g c = λ out err.
    let old = c.args.run.now in
    let done = c.decide_expression in
    goes_past_expression old _ done.result c.in-Some.byte _ c.requires.run.none_due
    (waits-reading c.args.keeps old c.requires.deciding c.requires.waits) (OfAhead (byte-seen _ _ (sym c.look_ahead.ensures.sees ∙ c.in-Some.is))) (sym c.is_ended_by.ensures ∙ c.if-is_ended_by.true)
    (λ did. ends-expression c.args.keeps old done.new.self c.requires.deciding (done.ensures.ended did) c.stays_within.ensures) (λ not. ap (λ (u : PageUnread). record old { unread = u }) (done.ensures.kept not)) _ _

pub returns-else-is_ended_by-clause-past : goal.returns-else-is_ended_by-clause-past
returns-else-is_ended_by-clause-past g c = λ out err.
    let old = c.args.run.now in
    let done = c.pass_end-is_passed in
    goes_past_seen old _ done.result c.in-Some.byte _ c.requires.run.none_due
    (waits-reading c.args.keeps old c.requires.deciding c.requires.waits) (OfAhead (byte-seen _ _ (sym c.look_ahead.ensures.sees ∙ c.in-Some.is))) (sym c.is_ended_by.ensures ∙ c.if-is_ended_by.false)
    done.ensures.passes c.stays_within-else-is_ended_by.ensures done.ensures.unchanged refl _ _

pub returns-in-None-clause-past : goal.returns-in-None-clause-past
returns-in-None-clause-past g c = λ out err. comes_none _ _ _ _
