-- Columns that get their places, one behind the other.
use Rattle.std.proofs.Common.{◌≡◌, ℕ, ◌+◌, ◌-◌, ◌<◌, List, [], ◌∷◌, ◌++◌, length, map, take, drop, set, get_or, sym, ap, ◌∙◌, arith, append_assoc, drop-set-lt}
use Rattle.std.proofs.lemmas.List.{drop_more, take_more_set}
use Rattle.tbl_format.specs.declared.format.Asked.{Asked}
use Rattle.tbl_layout.specs.declared.bars.Bars.{Bars}
use Rattle.tbl_layout.specs.Columns.{gaps_from, placed, share, spread, total}
use Rattle.tbl_layout.specs.Widths.{separation}
use Rattle.tbl_layout.specs.declared.columns.Column.{Column}

abbrev pub widths_of : List Column → ℕ
widths_of columns = total (map (λ c. c.width) columns)

-- the gap in front of the next column is one of those that are left
pub next_gap : (bars : Bars) (asked : List Asked) (at gap : ℕ) (d : Asked) → at < length asked
    → total (gaps_from bars gap (drop at asked)) ≡ gap + total (gaps_from bars (separation bars (get_or asked at d)) (drop (at + 1) asked))
next_gap bars asked at gap d within = ap (λ (rest : List Asked). total (gaps_from bars gap rest)) (drop_more asked at d within)

-- and so is its width
pub next_width : (columns : List Column) (at : ℕ) (d : Column) → at < length columns
    → widths_of (drop at columns) ≡ (get_or columns at d).width + widths_of (drop (at + 1) columns)
next_width columns at d within = ap widths_of (drop_more columns at d within)

pub widths_behind : (columns : List Column) (at : ℕ) (c : Column) → widths_of (drop (at + 1) (set columns at c)) ≡ widths_of (drop (at + 1) columns)
widths_behind columns at c = ap widths_of (drop-set-lt (at + 1) columns at c (omega arith))

-- the next column is placed
abbrev pub next : List Column → ℕ → Column → ℕ → Column
next columns at d start = record (get_or columns at d) { start = start }

module _ (bars : Bars) (more all : ℕ) (columns : List Column) (asked : List Asked) (at : ℕ) (d : Column) (e : Asked) (in_columns : at < length columns) (in_asked : at < length asked) where
  pub next_placed : (place front gap : ℕ)
      → (let start = place + (gap + (share more (front + gap) all - share more front all)) in
      take (at + 1) (set columns at (next columns at d start))
      ++ placed (start + (get_or columns at d).width)
      (spread more all (front + gap) (gaps_from bars (separation bars (get_or asked at e)) (drop (at + 1) asked)))
      (drop (at + 1) (set columns at (next columns at d start))))
      ≡ take at columns ++ placed place (spread more all front (gaps_from bars gap (drop at asked))) (drop at columns)
  next_placed place front gap =
      let start = place + (gap + (share more (front + gap) all - share more front all)) in
      let behind = gaps_from bars (separation bars (get_or asked at e)) (drop (at + 1) asked) in
      ap (λ (front_part : List Column). front_part ++ placed (start + (get_or columns at d).width) (spread more all (front + gap) behind) (drop (at + 1) (set columns at (next columns at d start))))
      (take_more_set columns at (next columns at d start) in_columns)
      ∙ ap (λ (rest : List Column). (take at columns ++ next columns at d start ∷ []) ++ placed (start + (get_or columns at d).width) (spread more all (front + gap) behind) rest)
      (drop-set-lt (at + 1) columns at (next columns at d start) (omega arith))
      ∙ append_assoc (take at columns) (next columns at d start ∷ []) (placed (start + (get_or columns at d).width) (spread more all (front + gap) behind) (drop (at + 1) columns))
      ∙ sym (ap (λ (rest : List Column). take at columns ++ placed place (spread more all front (gaps_from bars gap (drop at asked))) rest) (drop_more columns at d in_columns)
      ∙ ap (λ (rest : List Asked). take at columns ++ placed place (spread more all front (gaps_from bars gap rest)) (get_or columns at d ∷ drop (at + 1) columns)) (drop_more asked at e in_asked))
