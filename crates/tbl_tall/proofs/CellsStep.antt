-- Along the cells of a row, one more.
use Rattle.std.proofs.Common.{◌≡◌, ℕ, suc, ◌+◌, ◌-◌, ◌<◌, ◌≤◌, List, [], ◌∷◌, ◌++◌, drop, drop-cons, get_or, length, replicate, Option, None, sym, ap, subst, ◌∙◌, arith, false, length-append}
use Rattle.std.proofs.lemmas.List.{length-replicate}
use Rattle.tbl_format.specs.Cells.{AreCells}
use Rattle.tbl_format.specs.declared.format.Key.TheVariants.{Left as LeftKey}
use Rattle.tbl_format.specs.declared.format.Standing.TheVariants.{Middle}
use Rattle.tbl_format.proofs.CellColumns.{columns_behind}
use Rattle.tbl_layout.specs.KeptEntries.{no_entry}
use Rattle.tbl_line_cells.specs.LinesDrawn.{keys_in}
use Rattle.tbl_tall.specs.ShownBars.{owner_of, owners}
use Rattle.tbl_line_cells.specs.declared.cells.CellLeft.{CellLeft}
use Rattle.tbl_tall.proofs.CellsSpread.{first-end, spread}
use Rattle.tbl_tall.proofs.CellsThrough.{owners-next}
use Rattle.tbl_tall.proofs.RowBars.{spread-next}
use Rattle.tbl_text.specs.declared.block_parts.BlockPlace.TheVariants.{AtLine}

-- as it is read where there is none
abbrev pub no_cell : CellLeft
no_cell = record {
  key = record { bars = 0; key = LeftKey; end = 0; standing = Middle; has_no_width = false };
  entry = no_entry;
  lead = 0;
  place = AtLine 0 None;
  rows = 0;
  is_used = false;
  stop = 0;
  is_cut = false;
}

module _ (cells : List CellLeft) (at : ℕ) (some : at < length cells) where
  abbrev pub cell_at : CellLeft
  cell_at = get_or cells at no_cell

  pub cells-here : drop at cells ≡ cell_at ∷ drop (at + 1) cells
  cells-here =
      let next : suc at ≡ at + 1 = omega arith in
      drop-cons cells at no_cell some ∙ ap (λ (n : ℕ). cell_at ∷ drop n cells) next

  pub order-here : (column : ℕ) → AreCells column (keys_in (drop at cells)) → AreCells column (cell_at.key ∷ keys_in (drop (at + 1) cells))
  order-here column order = subst (λ (cs : List CellLeft). AreCells column (keys_in cs)) cells-here order

  pub columns-step : (column n : ℕ) → columns_behind column (keys_in (drop at cells)) ≡ n
      → columns_behind cell_at.key.end (keys_in (drop (at + 1) cells)) ≡ n
  columns-step column n is = sym (ap (λ (cs : List CellLeft). columns_behind column (keys_in cs)) cells-here) ∙ is

  pub end-few : (column n : ℕ) → AreCells column (keys_in (drop at cells)) → columns_behind column (keys_in (drop at cells)) ≡ n → cell_at.key.end ≤ n
  end-few column n order is =
      omega (arith, first-end column cell_at.key (keys_in (drop (at + 1) cells)) (order-here column order), columns-step column n is)

  pub owners-step : (xs : List (Option ℕ)) (column : ℕ) (all : List (Option ℕ)) → xs ++ owners at column (drop at cells) ≡ all
      → (xs ++ replicate (cell_at.key.end - column) (owner_of at cell_at)) ++ owners (at + 1) cell_at.key.end (drop (at + 1) cells) ≡ all
  owners-step xs column all so_far =
      let next : at + 1 ≡ suc at = omega arith in
      let rest = drop (at + 1) cells in
      ap (λ (n : ℕ). (xs ++ replicate (cell_at.key.end - column) (owner_of at cell_at)) ++ owners n cell_at.key.end rest) next
      ∙ owners-next xs at column cell_at rest all (sym (ap (λ (cs : List CellLeft). xs ++ owners at column cs) cells-here) ∙ so_far)

  pub spread-step : (f : ℕ → ℕ) (xs : List ℕ) (v column : ℕ) (all : List ℕ) → v ≡ f at
      → xs ++ spread f at column (keys_in (drop at cells)) ≡ all
      → ((xs ++ v ∷ []) ++ replicate (cell_at.key.end - column - 1) 0) ++ spread f (at + 1) cell_at.key.end (keys_in (drop (at + 1) cells)) ≡ all
  spread-step f xs v column all is so_far =
      let next : at + 1 ≡ suc at = omega arith in
      let rest = keys_in (drop (at + 1) cells) in
      ap (λ (n : ℕ). ((xs ++ v ∷ []) ++ replicate (cell_at.key.end - column - 1) 0) ++ spread f n cell_at.key.end rest) next
      ∙ spread-next f xs v at column cell_at.key rest all is
      (sym (ap (λ (cs : List CellLeft). xs ++ spread f at column (keys_in cs)) cells-here) ∙ so_far)

-- how many there are, and room for more
pub many-step : {A : Type 0} (xs ys : List A) (o : A) (column end : ℕ) → ys ≡ xs ++ replicate (end - column) o → length xs ≡ column → column < end
    → length ys ≡ end
many-step xs ys o column end is many more =
    omega (arith, ap length is, length-append xs (replicate (end - column) o), length-replicate (end - column) o, many, more)

pub room-step : (many column end all capacity now : ℕ) → many ≡ column → end ≤ all → all ≤ capacity → now ≡ capacity → column < end
    → many + (end - column) ≤ now
room-step many column end all capacity now is few room same more = omega (arith, is, few, room, same, more)

-- and of bars
pub many-shown : (xs ys : List ℕ) (v column end : ℕ) → ys ≡ (xs ++ v ∷ []) ++ replicate (end - column - 1) 0 → length xs ≡ column → column < end
    → length ys ≡ end
many-shown xs ys v column end is many more =
    omega (
      arith,
      ap length is,
      length-append (xs ++ v ∷ []) (replicate (end - column - 1) 0),
      length-append xs (v ∷ []),
      length-replicate {A = ℕ} (end - column - 1) 0,
      many,
      more,
    )

pub push-room : {len many column end all capacity now : ℕ} → len ≡ many → many ≡ column → column < end → end ≤ all → all + 1 ≤ capacity
    → now ≡ capacity
    → len < now
push-room is same more few room now_is = omega (arith, is, same, more, few, room, now_is)

pub zeros-room : (xs : List ℕ) (v : ℕ) {ys : List ℕ} {column end all capacity before now : ℕ} → ys ≡ xs ++ v ∷ [] → length xs ≡ column → column < end → end ≤ all
    → all + 1 ≤ capacity → before ≡ capacity → now ≡ before → length ys + (end - column - 1) ≤ now
zeros-room xs v {column = column} {end = end} is many more few room before_is now_is =
    omega (arith, ap length is, length-append xs (v ∷ []), many, more, few, room, before_is, now_is)
