use Rattle.std.proofs.Common.{length, ap, arith, length-take}
use Rattle.tbl_options.proofs.notes.option_text.Goals as goal

pub append-requires : goal.append-requires
append-requires c = omega (arith, ap length c.at_most.ensures, length-take 32 c.args.option.now, ap length c.new-text.ensures)
