use Rattle.std.proofs.Common.{◌≡◌, ℕ, ◌-◌, ◌≤◌, List, drop, length}
use Rattle.tbl_format.specs.Format.{FormatRow}
use Rattle.tbl_kept.specs.Rows.{elements_of}
use Rattle.tbl_lines.specs.PictureLines.{line_below}
use Rattle.tbl_picture.proofs.walk.beside.row_below.Given as goal

abbrev pub invariant-loop-at : goal.invariant-loop-at
invariant-loop-at l = record {
  within : l.at ≤ length l.rows.elements;
  line : (bytes : List ℕ) (formats : List FormatRow)
      → line_below (elements_of bytes formats (drop l.at l.rows.elements))
      ≡ line_below (elements_of bytes formats (drop l.element l.rows.elements));
}

abbrev pub decreases-loop-at : goal.decreases-loop-at
decreases-loop-at l = length l.rows.elements - l.at
