use Rattle.std.proofs.Common.{◌≡◌, []}
use Rattle.bench_pages.proofs.numbered.Given as goal

abbrev pub invariant-loop : goal.invariant-loop
invariant-loop l = l.pages.diversions ≡ []
