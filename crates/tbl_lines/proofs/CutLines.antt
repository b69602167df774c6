-- Lines on which nothing runs on: nothing is cut there. And what is cut by, where nothing stands between columns.
use Rattle.std.proofs.Common.{◌≡◌, ℕ, suc, Bool, true, false, not, ◌&&◌, ◌==◌, List, [], ◌∷◌, ◌++◌, drop, min, Option, Some, None, refl, ap, ◌∙◌, if◌then◌else◌, is_some, unwrap_or}
use Rattle.std.specs.List.{AllByRecursion}
use Rattle.tbl_format.specs.Cells.{end_of}
use Rattle.tbl_format.specs.Format.{FormatRow}
use Rattle.tbl_format.specs.declared.format.FormatKey.{FormatKey}
use Rattle.tbl_layout.specs.Columns.{passes, place_in, stands}
use Rattle.tbl_layout.specs.Entries.{Above, Block, Command, Content, Element, Repeated, Row, Rule, Ruled, Short, Text}
use Rattle.tbl_layout.specs.Heights.{cell_below}
use Rattle.tbl_layout.specs.declared.columns.Column.{Column}
use Rattle.tbl_layout.specs.declared.data_lines.RuleSign.{RuleSign}
use Rattle.tbl_options.specs.declared.options.Boxing.{Boxing}
use Rattle.tbl_lines.specs.CellsLeft.{Left, all_keys, all_stopped, first_entry, first_used, goes_on, stop_below}
use Rattle.tbl_lines.specs.LinesLeft.{Shown, all_cut, cut_cells, if_cut, if_runs_on, next_drawn, place_of_text, runs_on, shown_by}
use Rattle.tbl_lines.specs.PictureLines.{Cell, Sheet, boxed_from, frame_sign, rule_in_front, ruled_between, ruled_inside}

-- nothing of what is shown runs on
abbrev pub NoneRunOn : List Shown → Type 0
NoneRunOn all = AllByRecursion (λ x. x.runs_on ≡ None) all

pub all_cut-none : (s : Sheet) (fronts : List Cell) (all : List Shown) → NoneRunOn all → all_cut s fronts all ≡ all
all_cut-none s fronts [] none = refl
all_cut-none s fronts (x ∷ all) none =
    let drawn = next_drawn s.width (drop 1 fronts) all in
    ap (λ (o : Option Left). if_runs_on o s drawn x ∷ all_cut s (drop 1 fronts) all) none.0
    ∙ ap (λ (rest : List Shown). x ∷ rest) (all_cut-none s (drop 1 fronts) all none.1)

pub cut_cells-none : (s : Sheet) (fronts : List Cell) (all : List Shown) → NoneRunOn all → cut_cells s fronts all ≡ []
cut_cells-none s fronts [] none = refl
cut_cells-none s fronts (x ∷ all) none =
    let drawn = next_drawn s.width (drop 1 fronts) all in
    ap (λ (o : Option Left). if_cut o s drawn x ++ cut_cells s (drop 1 fronts) all) none.0 ∙ cut_cells-none s (drop 1 fronts) all none.1

-- what has a width doesn't run on, and stands where its key puts it
pub runs-plain : (own : Left) (c : Column) → own.key.has_no_width ≡ false → runs_on own c ≡ false
runs-plain own c plain = ap (λ (t : Bool). t && (own.lead == 0 && passes c own.key.key (stands own.key.key own.field))) plain

pub place-still : (own : Left) (c : Column) → runs_on own c ≡ false → place_of_text own c ≡ place_in c own.key.key (stands own.key.key own.field)
place-still own c still = ap (λ (t : Bool). if t then 0 else place_in c own.key.key (stands own.key.key own.field)) still

pub place-plain : (own : Left) (c : Column) → own.key.has_no_width ≡ false
    → place_of_text own c ≡ place_in c own.key.key (stands own.key.key own.field)
place-plain own c plain = place-still own c (runs-plain own c plain)

none-here : (t : Bool) (x : Shown) → x.runs_on ≡ None → (if t then x else record x { runs = [] }).runs_on ≡ None
none-here true x none = none
none-here false x none = none

text-still : (own : Left) (c : Column) → runs_on own c ≡ false → (if runs_on own c then Some own else None) ≡ None
text-still own c still = ap (λ (t : Bool). if t then Some own else None) still

pub shown-still : (f : Content) (own : Left) (c : Column) (end : ℕ) → runs_on own c ≡ false → (shown_by f own c end).runs_on ≡ None
shown-still (Text bytes) own c end still = text-still own c still
shown-still (Block measure lines) own c end still = text-still own c still
shown-still Above own c end still = text-still own c still
shown-still (Ruled sign) own c end still = none-here (own.lead == 0) (shown_by (Ruled sign) (record own { lead = 0 }) c end) refl
shown-still Short own c end still = none-here (own.lead == 0) (shown_by Short (record own { lead = 0 }) c end) refl
shown-still (Repeated b) own c end still = none-here (own.lead == 0) (shown_by (Repeated b) (record own { lead = 0 }) c end) refl

pub shown-none : (f : Content) (own : Left) (c : Column) (end : ℕ) → own.key.has_no_width ≡ false → (shown_by f own c end).runs_on ≡ None
shown-none f own c end plain = shown-still f own c end (runs-plain own c plain)

-- and no cell with a width ends in front of others
pub all_stopped-none : (columns : ℕ) (keys : List FormatKey) (elements : List Element) (cell : ℕ) (cells : List Left)
    → AllByRecursion (λ c. c.key.has_no_width ≡ false) cells → all_stopped columns keys elements cell cells ≡ cells
all_stopped-none columns keys elements cell [] plain = refl
all_stopped-none columns keys elements cell (c ∷ cells) plain =
    let stop = min (first_used columns c.key.end cells) (stop_below columns keys cell elements) in
    ap (λ (t : Bool). (if t && not (goes_on c) then record c { stop = stop } else c) ∷ all_stopped columns keys elements (suc cell) cells) plain.0
    ∙ ap (λ (rest : List Left). c ∷ rest) (all_stopped-none columns keys elements (suc cell) cells plain.1)

-- the rules of a box don't change what stands below a cell
module _ (columns : ℕ) where
  -- by what stands below it in the row that comes
  abbrev below-by : List FormatKey → FormatRow → List Content → ℕ → Option ℕ → ℕ → ℕ
  below-by keys format fields cell below further =
      if is_some below then min (first_entry columns (end_of keys cell) 0 (all_keys columns format) fields) further else columns

  below-front : (keys : List FormatKey) (cell : ℕ) (behind_row : Bool) (rules : List FormatRow) (elements : List Element)
      → stop_below columns keys cell (rule_in_front behind_row rules ++ elements) ≡ stop_below columns keys cell elements
  below-front keys cell true [] elements = refl
  below-front keys cell true (format ∷ rules) elements = refl
  below-front keys cell false [] elements = refl
  below-front keys cell false (format ∷ rules) elements = refl

  below-between : (keys : List FormatKey) (cell : ℕ) (behind_row : Bool) (elements : List Element)
      → stop_below columns keys cell (ruled_between behind_row elements) ≡ stop_below columns keys cell elements
  below-between keys cell behind_row [] = refl
  below-between keys cell behind_row (Row rules format fields ∷ elements) =
      let below = cell_below keys format.keys fields cell in
      below-front keys cell behind_row rules (Row rules format fields ∷ ruled_between true elements)
      ∙ ap (below-by keys format fields cell below) (below-between format.keys (unwrap_or below 0) true elements)
  below-between keys cell behind_row (Rule sign ∷ elements) = below-between keys cell false elements
  below-between keys cell behind_row (Command bytes ∷ elements) = below-between keys cell behind_row elements

  below-inside : (keys : List FormatKey) (cell : ℕ) (is_inside behind_row : Bool) (elements : List Element)
      → stop_below columns keys cell (if is_inside then ruled_between behind_row elements else elements) ≡ stop_below columns keys cell elements
  below-inside keys cell true behind_row elements = below-between keys cell behind_row elements
  below-inside keys cell false behind_row elements = refl

  below-end : (keys : List FormatKey) (cell : ℕ) (none : Bool) (sign : RuleSign) (elements : List Element)
      → stop_below columns keys cell (elements ++ (if none then [] else Rule sign ∷ [])) ≡ stop_below columns keys cell elements
  below-end keys cell true sign [] = refl
  below-end keys cell false sign [] = refl
  below-end keys cell none sign (Row rules format fields ∷ elements) =
      let below = cell_below keys format.keys fields cell in
      ap (below-by keys format fields cell below) (below-end format.keys (unwrap_or below 0) none sign elements)
  below-end keys cell none sign (Rule other ∷ elements) = below-end keys cell none sign elements
  below-end keys cell none sign (Command bytes ∷ elements) = below-end keys cell none sign elements

  pub stop_below-boxed : (keys : List FormatKey) (cell : ℕ) (boxing : Boxing) (behind_row : Bool) (elements : List Element)
      → stop_below columns keys cell (boxed_from boxing behind_row elements) ≡ stop_below columns keys cell elements
  stop_below-boxed keys cell boxing behind_row elements =
      below-end keys cell (boxing.bars == 0) (frame_sign boxing.bars) (ruled_inside boxing behind_row elements)
      ∙ below-inside keys cell boxing.is_inside behind_row elements
