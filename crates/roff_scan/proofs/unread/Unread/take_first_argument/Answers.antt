use Rattle.std.proofs.Common.{◌≡◌, ℕ, List, [], Some, length, take, ap, refl, rules, subst, sym, ◌∙◌, arith}
use Rattle.input_model.specs.Arguments.{Arguments}
use Rattle.input_arguments.specs.ArgumentTexts.Kept.{KeptArguments, NoMore, StopsAt}
use Rattle.roff_scan.specs.Unread.Calls.{next_bytes}
use Rattle.roff_scan.specs.Unread.Kept.{kept_by}
use Rattle.roff_scan.specs.declared.run_kind.RunKind.TheVariants.{CallArguments}
use Rattle.roff_scan.proofs.FirstArguments.{cut_of_front, may-stand, stands-between, stops-cut, unended-take}
use Rattle.roff_scan.proofs.Fronts.{next-ready}
use Rattle.roff_scan.proofs.Runs.{run_no_newline, takes_none, takes_run}
use Rattle.roff_scan.proofs.Sound.{sound-part}
use Rattle.roff_scan.proofs.unread.Unread.take_first_argument.Goals as goal

pub returns-then-is_empty-clause-takes : goal.returns-then-is_empty-clause-takes
returns-then-is_empty-clause-takes g c =
    let kept = kept_by c.self.inside in
    let ready = g.S.ByteSource.ready c.args.source.now in
    let empty : c.argument_in_front-front.result.now ≡ [] = search rules in
    let other = rw (← c.self.view_is) at c.requires in
    let held = rw (← c.self.view_is) at c.room_for-most.ensures.held in
    rw (← c.self.view_is)
    (record {
      none_begun = c.is_between.result;
      stands = may-stand c.is_between.result kept.input.arguments.place c.is_between.ensures.between other;
      took = takes_none (CallArguments 1) (g.S.ByteSource.gives c.args.source.now) ready kept c.self.invariant.within.charge (λ goes. absurd (cc));
      unended = tt;
      between = stands-between c.is_between.result kept.input.arguments.place c.is_between.ensures.others;
      stops = λ asks. stops-cut (Some 1) c.is_between.result ready kept c.front_of-bytes.result.now c.argument_in_front-front.result.now c.room_for-most.result 0 kept.input.arguments
          c.argument_in_front-front.ensures.whole c.front_of-bytes.ensures.whole (held refl) asks
          (NoMore (omega (arith, ap (λ (bytes : List ℕ). length bytes) empty)));
    })

pub invariant_of-self : goal.invariant_of-self
invariant_of-self g c =
    sound-part c.self.inside c.self.invariant (CallArguments 1) _ _ _ _ _ c.take_part-count.ensures.takes
    (omega (arith, c.argument_in_front-front.ensures.among, c.front_of-bytes.ensures.few)) (rw (← c.self.view_is) at c.room_for-most.ensures.stack)

pub pass_front-requires-clause-plain : goal.pass_front-requires-clause-plain
pass_front-requires-clause-plain g c = λ none.
    let cut = c.argument_in_front-front.ensures in
    run_no_newline (CallArguments 1) (g.S.ByteSource.ready c.args.source.now) (kept_by c.self.inside) c.argument_in_front-front.result.now c.take_part-count.result c.room_for-most.result
    (omega (arith, cut.among, c.front_of-bytes.ensures.among))
    (cut_of_front c.argument_in_front-front.result.now c.front_of-bytes.result.now _ cut.begins cut.among c.front_of-bytes.ensures.bytes)
    c.take_part-count.ensures.takes.few _ c.take_part-count.ensures.takes.are_of c.take_part-count.ensures.takes.half_read refl

pub returns-clause-takes : goal.returns-clause-takes
returns-clause-takes g c =
    let kept = kept_by c.self.inside in
    let ready = g.S.ByteSource.ready c.args.source.now in
    let gave = g.S.ByteSource.gives c.args.source.now in
    let gives = g.S.ByteSource.gives c.pass_front.new.source in
    let front = c.argument_in_front-front.result.now in
    let cut = c.argument_in_front-front.ensures in
    let part = c.take_part-count.ensures.takes in
    let next = next_bytes kept.input.ahead kept.looked ready in
    let same : front ≡ take (length front) next = cut_of_front front c.front_of-bytes.result.now next cut.begins cut.among c.front_of-bytes.ensures.bytes in
    let other = rw (← c.self.view_is) at c.requires in
    let held = rw (← c.self.view_is) at c.room_for-most.ensures.held in
    let there = ap (λ (k : KeptArguments). k.arguments) part.held in
    let took = takes_run (CallArguments 1) ready kept front c.take_part-count.result (length front)
    (omega (arith, cut.among, c.front_of-bytes.ensures.among))
    same part.few gave gives
    c.take_part-count.new.escapes.escapes c.take_part-count.new.arguments.arguments c.pass_front.new.self (λ is. absurd (cc)) part.are_of part.fewer
    there part.half_read part.whole
    (λ none unlooked. same ∙ ap (take (length front)) (next-ready kept.input.ahead kept.looked ready none unlooked)) (λ goes. absurd (cc)) c.pass_front.ensures.passes in
    rw (← c.self.view_is)
    (record {
      none_begun = c.is_between.result;
      stands = may-stand c.is_between.result kept.input.arguments.place c.is_between.ensures.between other;
      took = took;
      unended = unended-take c.is_between.result front c.take_part-count.result cut.unended;
      between = stands-between c.is_between.result kept.input.arguments.place c.is_between.ensures.others;
      stops = λ asks. stops-cut (Some 1) c.is_between.result ready kept c.front_of-bytes.result.now front c.room_for-most.result c.take_part-count.result _
          cut.whole c.front_of-bytes.ensures.whole (held refl) asks
          (subst (λ (a : Arguments). StopsAt (Some 1) front c.take_part-count.result a) (there ∙ sym took.arguments) (c.take_part-count.ensures.stops 1 refl));
    })
