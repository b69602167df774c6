use Rattle.std.proofs.Common.{◌≡◌, ◌+◌, ◌-◌, ◌≤◌, ◌++◌, length, map, take, drop}
use Rattle.tbl_layout.specs.Columns.{gaps, gaps_from, placed, placed_with, share, spread, total, width_of_all}
use Rattle.tbl_layout.specs.declared.columns.Column.{Column}
use Rattle.tbl_layout.proofs.columns.set_starts.Given as goal

abbrev pub invariant-loop-at : goal.invariant-loop-at
invariant-loop-at l = record {
  done : take l.at l.columns ++ placed l.place (spread l.more l.all l.front (gaps_from l.bars l.gap (drop l.at l.asked))) (drop l.at l.columns) ≡ placed_with l.bars l.more l.asked l.fn.columns;
  same : length l.columns ≡ length l.fn.columns;
  front : l.front + total (gaps_from l.bars l.gap (drop l.at l.asked)) ≡ total (gaps l.bars l.asked);
  room : l.place + total (map (λ (c : Column). c.width) (drop l.at l.columns)) + total (gaps_from l.bars l.gap (drop l.at l.asked)) + (l.more - share l.more l.front l.all) ≤ width_of_all l.bars l.fn.columns l.asked + l.more;
}
