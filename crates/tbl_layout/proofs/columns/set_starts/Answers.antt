use Rattle.std.proofs.Common.{◌≡◌, ℕ, ◌+◌, ◌-◌, ◌≤◌, ◌<◌, List, [], ◌∷◌, ◌++◌, length, take, drop, set, get_or, refl, sym, ap, subst, ◌∙◌, arith, length-set, None, false}
use Rattle.tbl_format.specs.declared.format.Asked.{Asked}
use Rattle.tbl_layout.specs.declared.bars.Bars.{Bars}
use Rattle.tbl_layout.specs.Columns.{gaps, gaps_from, placed, placed_with, share, spread, total}
use Rattle.tbl_layout.specs.Widths.{separation}
use Rattle.tbl_layout.specs.declared.columns.Column.{Column}
use Rattle.tbl_layout.proofs.ColumnsEnd.{all_done}
use Rattle.tbl_layout.proofs.Placing.{next, next_gap, next_placed, next_width, widths_behind, widths_of}
use Rattle.tbl_layout.proofs.Shares.{share-grows, share-most}
use Rattle.tbl_layout.proofs.columns.set_starts.Goals as goal
use Rattle.tbl_layout.proofs.columns.set_starts.Goals.{In-loop-at, After-saturating_sub}

abbrev no_column : Column
no_column = record { needs = record { alone = 0; strip = 0; left = 0; right = 0; split = 0 }; bars = 0; width = 0; start = 0 }

abbrev no_asked : Asked
no_asked = record { separation = None; least = None; is_equal = false; bars = 0 }

-- what is left to place
abbrev left : Bars → ℕ → ℕ → ℕ → ℕ → ℕ → List Asked → List Column → List Column
left bars place more all front gap asked columns = placed place (spread more all front (gaps_from bars gap asked)) columns

none_left : (bars : Bars) (place more all front gap : ℕ) (asked : List Asked) → left bars place more all front gap asked [] ≡ []
none_left bars place more all front gap [] = refl
none_left bars place more all front gap (a ∷ asked) = refl

-- the column that comes, and the gap in front of it, are of those that are left
record Coming (bars : Bars) (asked : List Asked) (columns : List Column) (at gap : ℕ) : Type 0 where
  in_asked : at < length asked
  in_columns : at < length columns
  gap_is : total (gaps_from bars gap (drop at asked)) ≡ gap + total (gaps_from bars (separation bars (get_or asked at no_asked)) (drop (at + 1) asked))
  width_is : widths_of (drop at columns) ≡ (get_or columns at no_column).width + widths_of (drop (at + 1) columns)

coming : (c : In-loop-at) → Coming c.args.bars c.args.asked.now c.loop-at.columns c.loop-at.at c.loop-at.gap
coming c =
    let asked : c.loop-at.at < length c.args.asked.now = omega (arith, c.min-at-end.ensures, c.loop-at-test.true) in
    let columns : c.loop-at.at < length c.loop-at.columns = omega (arith, c.min-at-end.ensures, c.loop-at-test.true, c.loop-at.invariant.same) in
    record {
      in_asked = asked;
      in_columns = columns;
      gap_is = next_gap c.args.bars c.args.asked.now c.loop-at.at c.loop-at.gap no_asked asked;
      width_is = next_width c.loop-at.columns c.loop-at.at no_column columns;
    }

few : (c : In-loop-at) → c.loop-at.front + c.loop-at.gap ≤ total (gaps c.args.bars c.args.asked.now)
few c = omega (arith, c.loop-at.invariant.front, (coming c).gap_is)

-- the part of what is spread that falls to this gap
record Part (more front gap all part : ℕ) : Type 0 where
  is : part ≡ share more (front + gap) all - share more front all
  grows : share more front all ≤ share more (front + gap) all
  most : share more (front + gap) all ≤ more

part : (c : After-saturating_sub) → Part c.args.more c.loop-at.front c.loop-at.gap c.all_gaps-all.result c.saturating_sub.result
part c = record {
  is = omega (arith, c.share-before.ensures, c.share.ensures, c.saturating_sub.ensures);
  grows = share-grows c.args.more c.loop-at.front c.loop-at.gap c.all_gaps-all.result;
  most = share-most c.args.more (c.loop-at.front + c.loop-at.gap) c.all_gaps-all.result (omega (arith, c.all_gaps-all.ensures, c.requires, few (goal.at.After-saturating_sub c).In-loop-at));
}

-- with them the column ends on the page
ends : (c : After-saturating_sub) → c.loop-at.place + (c.loop-at.gap + c.saturating_sub.result) + (get_or c.loop-at.columns c.loop-at.at no_column).width < 4294967296
ends c =
    let next = coming (goal.at.After-saturating_sub c).In-loop-at in
    let p = part c in
    omega (arith, c.loop-at.invariant.room, next.gap_is, next.width_is, c.requires, p.is, p.grows, p.most)

pub overflow_add-front : goal.overflow_add-front
overflow_add-front c = omega (arith, few (goal.at.overflow_add-front c).In-loop-at, c.requires)

pub share-requires-clause-front : goal.share-requires-clause-front
share-requires-clause-front c = omega (arith, few (goal.at.share-requires-clause-front c).In-loop-at, c.requires)

pub overflow_add-column : goal.overflow_add-column
overflow_add-column c = omega (arith, ends (goal.at.overflow_add-column c).After-saturating_sub)

pub overflow_add-column-in-loop-at : goal.overflow_add-column-in-loop-at
overflow_add-column-in-loop-at c = omega (arith, ends (goal.at.overflow_add-column-in-loop-at c).After-saturating_sub)

pub overflow_add-place : goal.overflow_add-place
overflow_add-place c = omega (arith, ends (goal.at.overflow_add-place c).After-saturating_sub)

pub loop-at-preserved : goal.loop-at-preserved
loop-at-preserved c =
    let a = c.args.asked.now in
    let column = coming (goal.at.loop-at-preserved c).In-loop-at in
    let p = part (goal.at.loop-at-preserved c).After-saturating_sub in
    let start = c.loop-at.place + (c.loop-at.gap + c.saturating_sub.result) in
    let behind = ap (λ (g : ℕ). total (gaps_from c.args.bars g (drop (c.loop-at.at + 1) a))) c.separation-gap.ensures.value in
    let placed_so : ℕ → ℕ → Type 0 = λ between more.
    take (c.loop-at.at + 1) (set c.loop-at.columns c.loop-at.at (next c.loop-at.columns c.loop-at.at no_column (c.loop-at.place + (c.loop-at.gap + more))))
    ++ placed (c.loop-at.place + (c.loop-at.gap + more) + (get_or c.loop-at.columns c.loop-at.at no_column).width)
    (spread c.args.more c.all_gaps-all.result (c.loop-at.front + c.loop-at.gap) (gaps_from c.args.bars between (drop (c.loop-at.at + 1) a)))
    (drop (c.loop-at.at + 1) (set c.loop-at.columns c.loop-at.at (next c.loop-at.columns c.loop-at.at no_column (c.loop-at.place + (c.loop-at.gap + more)))))
    ≡ placed_with c.args.bars c.args.more a c.args.columns.now in
    record {
      done = subst (placed_so c.separation-gap.result) (sym p.is)
          (subst (λ (g : ℕ). placed_so g (share c.args.more (c.loop-at.front + c.loop-at.gap) c.all_gaps-all.result - share c.args.more c.loop-at.front c.all_gaps-all.result))
          (sym c.separation-gap.ensures.value)
          (next_placed c.args.bars c.args.more c.all_gaps-all.result c.loop-at.columns a c.loop-at.at no_column no_asked column.in_columns column.in_asked c.loop-at.place c.loop-at.front c.loop-at.gap
          ∙ c.loop-at.invariant.done));
      same = length-set c.loop-at.columns c.loop-at.at _ ∙ c.loop-at.invariant.same;
      front = omega (arith, c.loop-at.invariant.front, column.gap_is, behind);
      room = omega (arith, c.loop-at.invariant.room, column.gap_is, column.width_is, widths_behind c.loop-at.columns c.loop-at.at (next c.loop-at.columns c.loop-at.at no_column start), p.is, p.grows, p.most, behind);
    }

pub returns : goal.returns
returns c =
    sym (all_done (left c.args.bars c.loop-at.place c.args.more c.all_gaps-all.result c.loop-at.front c.loop-at.gap) (λ (columns : List Column). refl)
    (none_left c.args.bars c.loop-at.place c.args.more c.all_gaps-all.result c.loop-at.front c.loop-at.gap) c.loop-at.columns c.args.asked.now c.loop-at.at
    (omega (arith, c.min-at-end.ensures, c.loop-at-test.false, c.loop-at.invariant.same)))
    ∙ c.loop-at.invariant.done
