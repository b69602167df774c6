use Rattle.std.proofs.Common.{◌≡◌, ◌<◌, ◌≤◌, ◌+◌, ℕ, suc, drop, length, min, true, false, sym, ap, ◌∙◌, arith}
use Rattle.std.proofs.Math.Nat.{min-eq_right}
use Rattle.tbl_format.specs.Cells.{start_of}
use Rattle.tbl_format.specs.RowsServed.{all_rows}
use Rattle.tbl_kept.specs.RowsLaying.{element_at}
use Rattle.tbl_layout.specs.Entries.{key_at}
use Rattle.tbl_lines.specs.CellsLeft.{all_keys, first_entry}
use Rattle.tbl_tall.proofs.CellStops.{ends-behind-start, found-here, none-before, none-here, starts-far}
use Rattle.tbl_tall.proofs.StopsBelow.{kept-used, lies-within}
use Rattle.tbl_tall.proofs.stops.first_entry.Goals.{After-end_of-begin, In-loop-begin}
use Rattle.tbl_tall.proofs.stops.first_entry.Goals as goal
use Rattle.tbl_tall.specs.StopsKept.{fields_kept, format_kept}

-- few cells stand in front of a column, and the next one begins further on
few-cells : (c : In-loop-begin) → c.loop-begin.own ≤ c.loop-begin.begin
few-cells c =
    let formats = all_rows c.args.format.now.format in
    let format = format_kept formats (element_at c.args.rows.now.elements c.args.element) in
    let begins = rw c.requires.keys at c.loop-begin.invariant.begins in
    let within = lies-within formats c.args.rows.now c.args.element c.requires.at c.requires.lie in
    omega (arith, begins, starts-far (length c.args.rows.now.columns) format c.loop-begin.own within)

further : (c : After-end_of-begin) → c.loop-begin.begin < c.end_of-begin.result
further c =
    let formats = all_rows c.args.format.now.format in
    let format = format_kept formats (element_at c.args.rows.now.elements c.args.element) in
    let begins = rw c.requires.keys at c.loop-begin.invariant.begins in
    let ends = rw c.requires.keys at c.end_of-begin.ensures.value in
    let within = lies-within formats c.args.rows.now c.args.element c.requires.at c.requires.lie in
    omega (arith, begins, ends, ends-behind-start (length c.args.rows.now.columns) format c.loop-begin.own within)

pub loop-begin-preserved : goal.loop-begin-preserved
loop-begin-preserved c =
    let i = c.loop-begin.invariant in
    let begin = c.loop-begin.begin in
    let own = c.loop-begin.own in
    let n = length c.args.rows.now.columns in
    let formats = all_rows c.args.format.now.format in
    let e = element_at c.args.rows.now.elements c.args.element in
    let format = format_kept formats e in
    let keys = all_keys n format in
    let within = lies-within formats c.args.rows.now c.args.element c.requires.at c.requires.lie in
    let few : begin < n = omega (arith, c.loop-begin-test.true, c.requires.most) in
    let next : suc own ≡ own + 1 = omega arith in
    let ends = rw c.requires.keys at c.end_of-begin.ensures.value in
    record {
      begins = c.end_of-begin.ensures.value ∙ ap (start_of c.args.keys.now) next;
      behind = omega (arith, i.behind, further c);
      value = λ bytes laid.
          let fields = fields_kept bytes formats e in
          let told = kept-used bytes formats n e own c.field_of.ensures laid (c.is_used.ensures bytes (key_at format own)) in
          let unused = told ∙ c.if-is_used.false in
          ap (λ (m : ℕ). min c.args.most (first_entry n c.args.from m (drop (own + 1) keys) (drop (own + 1) fields))) ends
          ∙ ap (min c.args.most) (sym (none-here n c.args.from begin format fields own within (rw c.requires.keys at i.begins) few unused))
          ∙ i.value bytes laid;
    }

pub loop-begin-smaller : goal.loop-begin-smaller
loop-begin-smaller c = omega (arith, c.loop-begin-test.true, further c)

pub returns-then-is_used-clause-value : goal.returns-then-is_used-clause-value
returns-then-is_used-clause-value c = λ bytes laid.
    let i = c.loop-begin.invariant in
    let begin = c.loop-begin.begin in
    let own = c.loop-begin.own in
    let n = length c.args.rows.now.columns in
    let formats = all_rows c.args.format.now.format in
    let e = element_at c.args.rows.now.elements c.args.element in
    let format = format_kept formats e in
    let within = lies-within formats c.args.rows.now c.args.element c.requires.at c.requires.lie in
    let few : begin < n = omega (arith, c.loop-begin-test.true, c.requires.most) in
    let less : begin ≤ c.args.most = omega (arith, c.loop-begin-test.true) in
    let told = kept-used bytes formats n e own c.field_of.ensures laid (c.is_used.ensures bytes (key_at format own)) in
    let found = found-here n c.args.from begin format (fields_kept bytes formats e) own within i.behind (rw c.requires.keys at i.begins) few
    (told ∙ c.if-is_used.true) in
    sym (sym (i.value bytes laid) ∙ ap (min c.args.most) found ∙ min-eq_right less)

pub returns-clause-value : goal.returns-clause-value
returns-clause-value c = λ bytes laid.
    let i = c.loop-begin.invariant in
    let formats = all_rows c.args.format.now.format in
    let e = element_at c.args.rows.now.elements c.args.element in
    let within = lies-within formats c.args.rows.now c.args.element c.requires.at c.requires.lie in
    none-before (length c.args.rows.now.columns) c.args.from c.loop-begin.begin c.args.most (format_kept formats e) (fields_kept bytes formats e)
    c.loop-begin.own within (rw c.requires.keys at i.begins) (omega (arith, c.loop-begin-test.false)) c.requires.most ∙ i.value bytes laid

pub end_of-begin-requires : goal.end_of-begin-requires
end_of-begin-requires c =
    omega (arith, few-cells (goal.at.end_of-begin-requires c).In-loop-begin, c.loop-begin-test.true, c.requires.most, c.requires.small)

pub overflow_add-own : goal.overflow_add-own
overflow_add-own c =
    omega (arith, few-cells (goal.at.overflow_add-own c).In-loop-begin, c.loop-begin-test.true, c.requires.most, c.requires.small)
