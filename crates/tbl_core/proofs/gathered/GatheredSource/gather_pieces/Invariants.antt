use Rattle.std.proofs.Common.{◌≤◌, length}
use Rattle.tbl_core.specs.Gathered.{GathersOn}
use Rattle.tbl_core.proofs.gathered.GatheredSource.gather_pieces.Given as goal

abbrev pub invariant-loop : goal.invariant-loop
invariant-loop g l = record {
  on : GathersOn l.initial.self l.self;
  many : l.counter ≤ length l.self.gathered.items;
}
