use Rattle.std.proofs.Common.{◌+◌, ◌<◌, ◌≤◌, ℕ, List, drop, length, ap, refl, ◌∙◌, arith}
use Rattle.input_model.specs.Input.{depth, pushed, pushing}
use Rattle.input_model.specs.Unread.{IsWithin, Unread, changing}
use Rattle.roff_scan.specs.Unread.Kept.{kept_by}
use Rattle.roff_scan.proofs.Changing.{push_within}
use Rattle.roff_scan.proofs.unread.Unread.push_read.Goals as goal

pub returns-clause-rest : goal.returns-clause-rest
returns-clause-rest g c = λ so.
    let kept = kept_by c.self.inside in
    let rest : List ℕ = drop c.args.count c.args.text.now in
    let there : Unread _ = record kept { input = record kept.input { charge = kept.input.charge + c.args.count } } in
    let before = c.self.invariant.within in
    let allowed : kept.input.charge + length c.args.text.now < kept.limits.bytes = rw (← c.self.view_is) at c.requires.bytes in
    let room : pushed kept.input + length rest ≤ kept.limits.stack = rw (← c.self.view_is) at c.requires.stack in
    let shallow : depth kept.input < kept.limits.depth = rw (← c.self.view_is) at c.requires.shallow in
    let within : IsWithin there = record {
      charge = omega (arith, allowed, c.requires.among);
      newlines = omega (arith, before.newlines);
      pushed = before.pushed;
      depth = before.depth;
      results = before.results;
      stored = before.stored;
      names = before.names;
      making = before.making;
    } in
    rw (← c.self.view_is)
    (ap (λ p. p.1)
    (c.push.ensures.change ∙ ap (λ (text : List ℕ). changing (pushing text there.input) there) c.split_at.ensures.back
    ∙ push_within there rest within (pushed there.input) refl (omega (arith, room)) shallow))
