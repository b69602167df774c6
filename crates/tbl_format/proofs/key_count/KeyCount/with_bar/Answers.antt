use Rattle.std.proofs.Common.{◌≡◌, true, nat_lt, arith}
use Rattle.std.proofs.lemmas.Bool.Decides.{nat_tests}
use Rattle.tbl_format.proofs.KeyCounting.{Counts-bar}
use Rattle.tbl_format.proofs.key_count.KeyCount.with_bar.Goals as goal

pub returns-then-has_room-clause-value : goal.returns-then-has_room-clause-value
returns-then-has_room-clause-value c = λ f counts.
    let less = c.if-has_room.true in
    let test : nat_lt c.args.self.bars 2 ≡ true = grind (arith, nat_tests) in
    Counts-bar f c.args.self true test counts
