use Rattle.std.proofs.Common.{ℕ, List, [], length, map, sym, subst, ap, ◌∙◌, arith}
use Rattle.std.specs.List.{AllByRecursion}
use Rattle.std.proofs.lemmas.List.{with_items_is}
use Rattle.tbl_format.specs.RowsServed.{all_rows}
use Rattle.tbl_kept.specs.KeptHeights.{raised}
use Rattle.tbl_kept.specs.Rows.{ElementLaid, KeptElement}
use Rattle.tbl_kept.specs.RowsInside.{LieBetween, kept_by, kept_in}
use Rattle.tbl_kept.specs.declared.rows.Element.{Element}
use Rattle.tbl_kept.proofs.HeightSteps.{lies-in}
use Rattle.tbl_kept.proofs.RowsAlone.{none-above, raised-alone, rows-none}
use Rattle.tbl_kept.proofs.rows.TableRows.set_heights.Goals as goal

pub set_heights-requires-clause-lie : goal.set_heights-requires-clause-lie
set_heights-requires-clause-lie c =
    let a = c.self.inside in
    rw (c.as_mut_slice.ensures.value, c.as_slice-entries.ensures.value)
    (lies-in a.entries.items (all_rows c.args.format.now.format) 0 a.row_start a.elements.items c.self.invariant.start c.self.invariant.rows
    (rw (← c.self.view_is) at c.requires.within))

pub set_heights-requires-clause-room : goal.set_heights-requires-clause-room
set_heights-requires-clause-room c =
    let columns = rw (← c.self.view_is) at c.requires.columns in
    let has = c.self.invariant.lefts_reserved in
    record {
      here = omega (arith, columns, c.self.invariant.columns_few, has.here);
      above = omega (arith, columns, c.self.invariant.columns_few, has.above);
    }

pub invariant_of-self : goal.invariant_of-self
invariant_of-self c =
    let a = c.self.inside in
    let written = with_items_is a.elements c.set_heights.new.elements (c.set_heights.auto.elements ∙ c.as_mut_slice.ensures.len) in
    record {
      entries_reserved = c.self.invariant.entries_reserved;
      elements_reserved = c.self.invariant.elements_reserved;
      columns_reserved = c.self.invariant.columns_reserved;
      start = c.self.invariant.start;
      rows = rw written (c.set_heights.ensures.places 0 a.row_start
          (subst (λ (es : List Element). LieBetween 0 es a.row_start) (sym c.as_mut_slice.ensures.value) c.self.invariant.rows));
      no_blocks = c.self.invariant.no_blocks;
      no_above = c.self.invariant.no_above;
      columns_few = c.self.invariant.columns_few;
      lefts_reserved = c.set_heights.ensures.room a.column_room c.self.invariant.lefts_reserved;
    }

pub returns-then-goes_on : goal.returns-then-goes_on
returns-then-goes_on c = λ bytes laid alone.
    let a = c.self.inside in
    let formats = all_rows c.args.format.now.format in
    let columns = rw (← c.self.view_is) at c.requires.columns in
    let written = with_items_is a.elements c.set_heights.new.elements (c.set_heights.auto.elements ∙ c.as_mut_slice.ensures.len) in
    let kept = map (kept_in a.entries.items) a.elements.items in
    let here = subst (λ (n : ℕ). AllByRecursion (ElementLaid bytes formats n) kept) columns (rw (← c.self.view_is) at laid) in
    let all = (rw (c.as_mut_slice.ensures.value, c.as_slice-entries.ensures.value) at c.set_heights.ensures.raised) bytes here in
    rw (← c.self.view_is, written) (ap (λ (els : List KeptElement). record (kept_by a) { elements = els })
    (all ∙ ap (λ (n : ℕ). raised bytes formats c.args.is_inside n kept) (sym columns)))

pub returns-else-goes_on : goal.returns-else-goes_on
returns-else-goes_on c = λ bytes laid alone.
    let a = c.self.inside in
    let formats = all_rows c.args.format.now.format in
    let kept = map (kept_in a.entries.items) a.elements.items in
    let none = none-above bytes formats (c.has_above.ensures (c.goes_on.ensures.keys c.if-goes_on.false)) kept
    (rows-none a.entries.items a.elements.items (c.self.invariant.no_above (c.goes_on.ensures.fields c.if-goes_on.false))) in
    rw (← c.self.view_is) (ap (λ (els : List KeptElement). record (kept_by a) { elements = els })
    (sym (raised-alone bytes formats c.args.is_inside (length a.columns.items) kept [] [] 0 none
    (rw (← c.self.view_is) at laid) (rw (← c.self.view_is) at alone))))
