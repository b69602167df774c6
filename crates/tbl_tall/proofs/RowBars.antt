-- The bars that a line of a row shows, cell by cell.
use Rattle.std.proofs.Common.{◌≡◌, ℕ, zero, suc, ◌-◌, ◌<◌, Bool, true, false, List, [], ◌∷◌, ◌++◌, length, map, get_or, replicate, Option, None, Some, refl, sym, ap, subst, ◌∙◌, arith, append_assoc, if◌then◌else◌, is_some}
use Rattle.std.proofs.lemmas.List.{length-map}
use Rattle.tbl_format.specs.Cells.{AreCells, cell_behind}
use Rattle.tbl_format.specs.Format.{columns_of_keys}
use Rattle.tbl_format.specs.declared.format.FormatKey.{FormatKey}
use Rattle.tbl_format.proofs.CellColumns.{columns_of-behind}
use Rattle.tbl_layout.specs.Widths.{edge_bars, inner_bars}
use Rattle.tbl_options.specs.declared.options.Boxing.{Boxing}
use Rattle.tbl_lines.specs.CellsLeft.{Left}
use Rattle.tbl_lines.specs.LinesLeft.{OfRow, bars_at_cell, bars_in_front, joined_here}
use Rattle.tbl_lines.specs.PictureLeft.{through_rule}
use Rattle.tbl_tall.specs.Bands.{ShowBars}
use Rattle.tbl_line_cells.specs.LinesDrawn.{keys_in}
use Rattle.tbl_layout.specs.declared.data_lines.RuleSign.{RuleSign}
use Rattle.tbl_line_cells.specs.KeptCells.{AllLeft, IsLeft, ShowsRule, behind_rules}
use Rattle.tbl_line_cells.specs.declared.cells.CellLeft.{CellLeft}
use Rattle.tbl_tall.proofs.BandsAlike.{through-key}
use Rattle.tbl_line_cells.proofs.FirstLines.{joined-shown}
use Rattle.tbl_tall.proofs.CellsSpread.{at_found, length-spread, spread, spread-shown}

-- cells that are left have the keys of what is kept of them
pub rules-key : (rules : ℕ) (l : Left) → (behind_rules rules l).key ≡ l.key
rules-key zero l = refl
rules-key (suc rules) l = rules-key rules (through_rule l) ∙ through-key l

pub keys-left : (bytes : List ℕ) (rules : ℕ) (cells : List CellLeft) (lefts : List Left) → AllLeft bytes cells lefts
    → map (λ (l : Left). l.key) (map (behind_rules rules) lefts) ≡ keys_in cells
keys-left bytes rules [] [] all = refl
keys-left bytes rules [] (l ∷ lefts) all = absurd all
keys-left bytes rules (c ∷ cells) [] all = absurd all
keys-left bytes rules (c ∷ cells) (l ∷ lefts) all =
    ap (λ (k : FormatKey). k ∷ map (λ (m : Left). m.key) (map (behind_rules rules) lefts)) (rules-key rules l ∙ sym all.0.key)
    ∙ ap (λ (ks : List FormatKey). c.key ∷ ks) (keys-left bytes rules cells lefts all.1)

pub as-many-left : (bytes : List ℕ) (cells : List CellLeft) (lefts : List Left) → AllLeft bytes cells lefts → length lefts ≡ length cells
as-many-left bytes [] [] all = refl
as-many-left bytes [] (l ∷ lefts) all = absurd all
as-many-left bytes (c ∷ cells) [] all = absurd all
as-many-left bytes (c ∷ cells) (l ∷ lefts) all = ap suc (as-many-left bytes cells lefts all.1)

none-either : (t : Bool) → ◌≡◌ {A = ℕ} (if t then 0 else 0) 0
none-either true = refl
none-either false = refl

-- what stands in front of the first cell, in front of another one, and behind the last
module _ (bytes : List ℕ) (boxing : Boxing) (last rules : ℕ) where
  abbrev pub fronts_of : List Left → ℕ → ℕ
  fronts_of lefts cell = bars_in_front boxing last (map (behind_rules rules) lefts) cell

  pub front-first : (cells : List CellLeft) (lefts : List Left) (none : CellLeft) → AllLeft bytes cells lefts → 0 < length cells
      → fronts_of lefts 0 ≡ edge_bars boxing (get_or cells 0 none).key.bars
  front-first [] lefts none all some = absurd (omega (arith, some))
  front-first (c ∷ cells) [] none all some = absurd all
  front-first (c ∷ cells) (l ∷ lefts) none all some = ap (λ (k : FormatKey). edge_bars boxing k.bars) (rules-key rules l ∙ sym all.0.key)

  pub record Between (lefts : List Left) (n : ℕ) (c d : CellLeft) : Type 0 where
    pub own : Left
    pub next : Left
    pub own_is : IsLeft bytes c own
    pub next_is : IsLeft bytes d next
    pub bars : fronts_of lefts (suc n)
        ≡ (if is_some (joined_here (behind_rules rules own) (behind_rules rules next)) then 0 else inner_bars boxing d.key.bars)

  pub front-later : (cells : List CellLeft) (lefts : List Left) (n : ℕ) (none : CellLeft) → AllLeft bytes cells lefts → suc n < length cells
      → Between lefts n (get_or cells n none) (get_or cells (suc n) none)
  front-later [] lefts n none all more = absurd (omega (arith, more))
  front-later (c ∷ []) lefts n none all more = absurd (omega (arith, more))
  front-later (c ∷ d ∷ cells) [] n none all more = absurd all
  front-later (c ∷ d ∷ cells) (l ∷ []) n none all more = absurd all.1
  front-later (c ∷ d ∷ cells) (l ∷ m ∷ lefts) zero none all more = record {
    own = l;
    next = m;
    own_is = all.0;
    next_is = all.1.0;
    bars = ap (λ (k : FormatKey). if is_some (joined_here (behind_rules rules l) (behind_rules rules m)) then 0 else inner_bars boxing k.bars)
        (rules-key rules m ∙ sym all.1.0.key);
  }
  front-later (c ∷ d ∷ cells) (l ∷ m ∷ lefts) (suc n) none all more =
      let rest = front-later (d ∷ cells) (m ∷ lefts) n none all.1 (omega (arith, more)) in
      record { own = rest.own; next = rest.next; own_is = rest.own_is; next_is = rest.next_is; bars = rest.bars }

  -- as they are by what is kept of both cells on the line
  pub front-kept : (cells : List CellLeft) (lefts : List Left) (at : ℕ) (none before here : CellLeft) (joined : Option RuleSign)
      → AllLeft bytes cells lefts
      → 0 < at → at < length cells
      → ((l : Left) → IsLeft bytes (get_or cells (at - 1) none) l → ShowsRule bytes before (behind_rules rules l))
      → ((l : Left) → IsLeft bytes (get_or cells at none) l → ShowsRule bytes here (behind_rules rules l))
      → ((l m : Left) → IsLeft bytes before l → IsLeft bytes here m → joined ≡ joined_here l m)
      → fronts_of lefts at ≡ (if is_some joined then 0 else inner_bars boxing (get_or cells at none).key.bars)
  front-kept cells lefts at none before here joined all some more shows next_shows joins =
      let n = at - 1 in
      let same : suc n ≡ at = omega (arith, some) in
      let b = front-later cells lefts n none all (omega (arith, some, more)) in
      let next_is = subst (λ (m : ℕ). IsLeft bytes (get_or cells m none) b.next) same b.next_is in
      let left = shows b.own b.own_is in
      let right = next_shows b.next next_is in
      let both : joined_here (behind_rules rules b.own) (behind_rules rules b.next) ≡ joined
      = sym (joins left.shown right.shown left.is right.is ∙ joined-shown bytes before here (behind_rules rules b.own)
      (behind_rules rules b.next) left right) in
      ap (fronts_of lefts) (sym same)
      ∙ b.bars
      ∙ ap (λ (j : Option RuleSign). if is_some j then 0 else inner_bars boxing (get_or cells (suc n) none).key.bars) both
      ∙ ap (λ (m : ℕ). if is_some joined then 0 else inner_bars boxing (get_or cells m none).key.bars) same

  -- none, where the cell has none in front of it
  pub front-none : (cells : List CellLeft) (lefts : List Left) (at : ℕ) (none : CellLeft) → AllLeft bytes cells lefts → 0 < at → at < length cells
      → inner_bars boxing (get_or cells at none).key.bars ≡ 0 → fronts_of lefts at ≡ 0
  front-none cells lefts at none all some more no_bars =
      let n = at - 1 in
      let same : suc n ≡ at = omega (arith, some) in
      let b = front-later cells lefts n none all (omega (arith, some, more)) in
      let by : ℕ → ℕ = λ bars. if is_some (joined_here (behind_rules rules b.own) (behind_rules rules b.next)) then 0 else bars in
      ap (fronts_of lefts) (sym same)
      ∙ b.bars
      ∙ ap (λ (m : ℕ). by (inner_bars boxing (get_or cells m none).key.bars)) same
      ∙ ap by no_bars
      ∙ none-either (is_some (joined_here (behind_rules rules b.own) (behind_rules rules b.next)))

  front-last : (lefts : List Left) → 0 < length lefts → bars_in_front boxing last lefts (length lefts) ≡ edge_bars boxing last
  front-last [] some = absurd (omega (arith, some))
  front-last (l ∷ []) some = refl
  front-last (l ∷ m ∷ lefts) some = front-last (m ∷ lefts) (omega arith)

  found-shown : (lefts : List Left) (found : Option ℕ) → at_found (bars_in_front boxing last lefts) found ≡ bars_at_cell boxing last lefts found
  found-shown lefts None = refl
  found-shown lefts (Some cell) = refl

  -- all of it
  pub shown-all : (cells : List CellLeft) (lefts : List Left) → AllLeft bytes cells lefts → AreCells 0 (keys_in cells)
      → ShowBars boxing (columns_of_keys (keys_in cells)) (spread (fronts_of lefts) 0 0 (keys_in cells)) (OfRow (map (behind_rules rules) lefts) last)
  shown-all cells lefts all are = record {
    boundaries = omega (arith, length-spread (fronts_of lefts) 0 0 (keys_in cells) are, columns_of-behind (keys_in cells));
    shown = λ boundary few.
        spread-shown (fronts_of lefts) (keys_in cells) boundary are (omega (arith, few, columns_of-behind (keys_in cells)))
        ∙ found-shown (map (behind_rules rules) lefts) (cell_behind (keys_in cells) boundary)
        ∙ ap (λ (ks : List FormatKey). bars_at_cell boxing last (map (behind_rules rules) lefts) (cell_behind ks boundary)) (sym
        (keys-left bytes rules cells lefts all));
  }

  pub shown-last : (cells : List CellLeft) (lefts : List Left) (xs : List ℕ) (column : ℕ) → AllLeft bytes cells lefts → 0 < length cells
      → xs ++ spread (fronts_of lefts) (length cells) column [] ≡ spread (fronts_of lefts) 0 0 (keys_in cells)
      → xs ++ edge_bars boxing last ∷ [] ≡ spread (fronts_of lefts) 0 0 (keys_in cells)
  shown-last cells lefts xs column all some is =
      let rest = map (behind_rules rules) lefts in
      let many : length rest ≡ length cells = length-map lefts (behind_rules rules) ∙ as-many-left bytes cells lefts all in
      let more : 0 < length rest = omega (arith, many, some) in
      ap (λ (n : ℕ). xs ++ n ∷ [])
      (sym (front-last rest more) ∙ ap (λ (n : ℕ). bars_in_front boxing last rest n) many)
      ∙ is

-- one cell more
pub spread-next : (f : ℕ → ℕ) (xs : List ℕ) (v at column : ℕ) (k : FormatKey) (keys : List FormatKey) (all : List ℕ) → v ≡ f at
    → xs ++ spread f at column (k ∷ keys) ≡ all
    → ((xs ++ v ∷ []) ++ replicate (k.end - column - 1) 0) ++ spread f (suc at) k.end keys ≡ all
spread-next f xs v at column k keys all is so_far =
    let zeros = replicate (k.end - column - 1) 0 in
    let rest = spread f (suc at) k.end keys in
    append_assoc (xs ++ v ∷ []) zeros rest
    ∙ append_assoc xs (v ∷ []) (zeros ++ rest)
    ∙ ap (λ (n : ℕ). xs ++ n ∷ (zeros ++ rest)) is
    ∙ so_far
