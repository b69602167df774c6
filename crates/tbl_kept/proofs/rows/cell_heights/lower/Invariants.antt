use Rattle.std.proofs.Common.{◌≡◌, ℕ, ◌-◌, ◌++◌, length, map, take, drop}
use Rattle.tbl_kept.proofs.rows.cell_heights.lower.Given as goal

abbrev pub invariant-loop-cell : goal.invariant-loop-cell
invariant-loop-cell l = record {
  left : take l.cell l.left ++ map (λ (n : ℕ). n - l.height) (drop l.cell l.left) ≡ map (λ (n : ℕ). n - l.height) l.fn.left;
  many : length l.left ≡ length l.fn.left;
}
