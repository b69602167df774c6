use Rattle.std.proofs.Common.{◌+◌, ◌<◌, ◌^◌, length, rules}
use Rattle.run_events.proofs.Titling.{width-within}
use Rattle.run_events.proofs.formatter.Formatter.put_title.Goals as goal

pub put_on-requires-clause-width : goal.put_on-requires-clause-width
put_on-requires-clause-width g c =
    let few : length c.left.result.now + length c.centre.result.now + length c.right.result.now < 2 ^ 32 =
    rw (c.left.ensures, c.centre.ensures, c.right.ensures) c.stays_short.ensures in
    let columns : c.from.result < 2 ^ 32 = search rules in
    width-within c.args.number.now c.left.result.now c.centre.result.now c.right.result.now c.from.result c.requires.short few columns
