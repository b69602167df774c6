use Rattle.std.proofs.Common.{◌<◌, ◌^◌, rules}
use Rattle.input_ahead.proofs.Framing.{IsSound-none}
use Rattle.input_ahead.proofs.input_ahead.InputAhead.new.Goals as goal

pub invariant_of-result : goal.invariant_of-result
invariant_of-result g c =
    let limits = c.args.limits.now in
    let small : limits.stack < 2 ^ 32 = search rules in
    let store : limits.store < 2 ^ 32 = search rules in
    let names = c.in-Some-checked_add.cap_names in
    rw (c.in_ok-new.ensures, c.in_ok-new-2.ensures)
    (IsSound-none limits.stack limits.depth names c.in-Some.cap_open limits.store small store)
