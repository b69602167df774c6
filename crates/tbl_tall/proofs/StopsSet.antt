-- It is said of the cells of a row, from the last one on, where what is without width in them ends: they stay the same else.
use Rattle.std.proofs.Common.{◌≡◌, ℕ, zero, suc, ◌+◌, ◌<◌, ◌≤◌, min, Bool, true, false, not, ◌&&◌, List, [], ◌∷◌, get_or, length, map, set, refl, sym, ap, subst, ◌∙◌, arith, if◌then◌else◌, nat_lt}
use Rattle.std.specs.List.{AllByRecursion}
use Rattle.tbl_format.proofs.CellColumns.{columns_behind}
use Rattle.tbl_format.specs.Cells.{AreCells}
use Rattle.tbl_format.specs.declared.format.FormatKey.{FormatKey}
use Rattle.tbl_layout.specs.Entries.{Element}
use Rattle.tbl_lines.specs.CellsLeft.{Left, all_stopped, first_used, goes_on, stop_below, stopped}
use Rattle.tbl_lines.proofs.CutLines.{stop_below-boxed}
use Rattle.tbl_lines.specs.PictureLines.{boxed_from}
use Rattle.tbl_options.specs.declared.options.Boxing.{Boxing}
use Rattle.tbl_line_cells.specs.KeptCells.{AllLeft, IsLeft}
use Rattle.tbl_line_cells.specs.declared.cells.CellLeft.{CellLeft}
use Rattle.tbl_tall.specs.RowsNext.{HasKeys}
use Rattle.tbl_tall.specs.TallRows.{HaveKeys}
use Rattle.tbl_tall.specs.StopsKept.{is_used_at, start_from, stopped_from}

-- a cell and others are as they were, but for where they end
pub record IsSame (c d : CellLeft) : Type 0 where
  pub key : c.key ≡ d.key
  pub used : c.is_used ≡ d.is_used
  pub rows : c.rows ≡ d.rows

pub same-of : (c d : CellLeft) → c ≡ record d { stop = c.stop } → IsSame c d
same-of c d is = record {
  key = ap (λ (x : CellLeft). x.key) is;
  used = ap (λ (x : CellLeft). x.is_used) is;
  rows = ap (λ (x : CellLeft). x.rows) is;
}

abbrev pub AreSame : List CellLeft → List CellLeft → Type 0
AreSame [] [] = Unit {0}
AreSame [] (d ∷ others) = ⊥
AreSame (c ∷ cells) [] = ⊥
AreSame (c ∷ cells) (d ∷ others) = IsSame c d × AreSame cells others

pub all-same : (cells : List CellLeft) → AreSame cells cells
all-same [] = tt
all-same (c ∷ cells) = (record { key = refl; used = refl; rows = refl }, all-same cells)

pub same-many : (cells others : List CellLeft) → AreSame cells others → length cells ≡ length others
same-many [] [] same = refl
same-many [] (d ∷ others) same = absurd same
same-many (c ∷ cells) [] same = absurd same
same-many (c ∷ cells) (d ∷ others) same = ap suc (same-many cells others same.1)

pub same-set : (cells others : List CellLeft) (at : ℕ) (none new : CellLeft) → at < length cells → IsSame new (get_or cells at none) → AreSame cells others
    → AreSame (set cells at new) others
same-set [] others at none new some is same = absurd (omega (arith, some))
same-set (c ∷ cells) [] at none new some is same = absurd same
same-set (c ∷ cells) (d ∷ others) zero none new some is same =
    (record { key = is.key ∙ same.0.key; used = is.used ∙ same.0.used; rows = is.rows ∙ same.0.rows }, same.1)
same-set (c ∷ cells) (d ∷ others) (suc at) none new some is same = (same.0, same-set cells others at none new (omega (arith, some)) is same.1)

pub same-keys : (cells others : List CellLeft) (keys : List FormatKey) → AreSame cells others → HasKeys others keys → HasKeys cells keys
same-keys [] [] keys same has = has
same-keys [] (d ∷ others) keys same has = absurd same
same-keys (c ∷ cells) [] keys same has = absurd same
same-keys (c ∷ cells) (d ∷ others) [] same has = absurd has
same-keys (c ∷ cells) (d ∷ others) (k ∷ keys) same has = (
  record {
    bars = ap (λ (j : FormatKey). j.bars) same.0.key ∙ has.0.bars;
    end = ap (λ (j : FormatKey). j.end) same.0.key ∙ has.0.end;
  },
  same-keys cells others keys same.1 has.1,
)

pub same-come : (cells others : List CellLeft) (n : ℕ) → AreSame cells others → AllByRecursion (λ (c : CellLeft). c.rows ≤ n) others
    → AllByRecursion (λ (c : CellLeft). c.rows ≤ n) cells
same-come [] others n same come = tt
same-come (c ∷ cells) [] n same come = absurd same
same-come (c ∷ cells) (d ∷ others) n same come = (omega (arith, same.0.rows, come.0), same-come cells others n same.1 come.1)

pub has-many : (cells : List CellLeft) (keys : List FormatKey) → HasKeys cells keys → length cells ≡ length keys
has-many [] [] has = refl
has-many [] (k ∷ keys) has = absurd has
has-many (c ∷ cells) [] has = absurd has
has-many (c ∷ cells) (k ∷ keys) has = ap suc (has-many cells keys has.1)

-- one of them begins within the columns
pub start-few : (from : ℕ) (cells : List CellLeft) (keys : List FormatKey) (at : ℕ) → HasKeys cells keys → AreCells from keys
    → start_from from cells at ≤ columns_behind from keys
start-few from [] [] zero has are = omega arith
start-few from [] [] (suc at) has are = omega arith
start-few from [] (k ∷ keys) at has are = absurd has
start-few from (c ∷ cells) [] at has are = absurd has
start-few from (c ∷ cells) (k ∷ keys) zero has are = omega (arith, are.0, start-few k.end cells keys zero has.1 are.1)
start-few from (c ∷ cells) (k ∷ keys) (suc at) has are =
    subst (λ (n : ℕ). start_from n cells at ≤ columns_behind k.end keys) (sym has.0.end) (start-few k.end cells keys at has.1 are.1)

pub few-by : (t : Bool) (x y most : ℕ) → x ≤ most → y ≤ most → (if t then x else y) ≤ most
few-by true x y most one other = one
few-by false x y most one other = other

-- whether something stands in one, and where it begins
pub used-is : (cells : List CellLeft) (at : ℕ) (none : CellLeft) (t : Bool) → at < length cells → (get_or cells at none).is_used ≡ t
    → is_used_at cells at ≡ t
used-is [] at none t some is = absurd (omega (arith, some))
used-is (c ∷ cells) zero none t some is = is
used-is (c ∷ cells) (suc at) none t some is = used-is cells at none t (omega (arith, some)) is

pub start-is : (from : ℕ) (cells : List CellLeft) (at : ℕ) (none : CellLeft) → at < length cells
    → start_from from cells (suc at) ≡ (get_or cells at none).key.end
start-is from [] at none some = absurd (omega (arith, some))
start-is from (c ∷ cells) zero none some = refl
start-is from (c ∷ cells) (suc at) none some = start-is c.key.end cells at none (omega (arith, some))

-- behind how many columns something stands next, from one of some cells on
abbrev pub first_behind : ℕ → ℕ → ℕ → List Left → ℕ
first_behind columns from zero lefts = first_used columns from lefts
first_behind columns from (suc at) [] = columns
first_behind columns from (suc at) (l ∷ lefts) = first_behind columns l.key.end at lefts

pub first-end : (bytes : List ℕ) (columns from : ℕ) (cells : List CellLeft) (lefts : List Left) → AllLeft bytes cells lefts
    → columns ≡ first_behind columns from (length cells) lefts
first-end bytes columns from [] [] all = refl
first-end bytes columns from [] (l ∷ lefts) all = absurd all
first-end bytes columns from (c ∷ cells) [] all = absurd all
first-end bytes columns from (c ∷ cells) (l ∷ lefts) all = first-end bytes columns l.key.end cells lefts all.1

pub first-next : (bytes : List ℕ) (columns from : ℕ) (cells others : List CellLeft) (lefts : List Left) (at : ℕ) → at < length cells
    → AllLeft bytes others lefts → AreSame cells others
    → (if is_used_at cells at then start_from from cells at else first_behind columns from (suc at) lefts) ≡ first_behind columns from at lefts
first-next bytes columns from [] others lefts at some all same = absurd (omega (arith, some))
first-next bytes columns from (c ∷ cells) [] lefts at some all same = absurd same
first-next bytes columns from (c ∷ cells) (d ∷ others) [] at some all same = absurd all
first-next bytes columns from (c ∷ cells) (d ∷ others) (l ∷ lefts) zero some all same =
    ap (λ (t : Bool). if t then from else first_used columns l.key.end lefts) (same.0.used ∙ all.0.used)
first-next bytes columns from (c ∷ cells) (d ∷ others) (l ∷ lefts) (suc at) some all same =
    ap (λ (k : FormatKey). if is_used_at cells at then start_from k.end cells at else first_behind columns l.key.end (suc at) lefts) (same.0.key ∙ all.0.key)
    ∙ first-next bytes columns l.key.end cells others lefts at (omega (arith, some)) all.1 same.1

module _ (bytes : List ℕ) (columns : ℕ) (keys : List FormatKey) (elements : List Element) where
  -- of none yet, and of one more
  pub stops-none : (cells : List CellLeft) (lefts : List Left) (cell : ℕ) → AllLeft bytes cells lefts
      → AllLeft bytes cells (stopped_from columns keys elements (length cells) cell lefts)
  stops-none [] [] cell all = tt
  stops-none [] (l ∷ lefts) cell all = absurd all
  stops-none (c ∷ cells) [] cell all = absurd all
  stops-none (c ∷ cells) (l ∷ lefts) cell all = (all.0, stops-none cells lefts (suc cell) all.1)

  pub stops-next : (cells : List CellLeft) (lefts : List Left) (at cell from next : ℕ) (none new : CellLeft) → at < length cells
      → ((n : ℕ) (l : Left) (others : List Left) → n ≡ cell + at → IsLeft bytes (get_or cells at none) l → next ≡ first_used columns l.key.end others
      → IsLeft bytes new (stopped columns keys elements n l others))
      → next ≡ first_behind columns from (suc at) lefts → AllLeft bytes cells (stopped_from columns keys elements (suc at) cell lefts)
      → AllLeft bytes (set cells at new) (stopped_from columns keys elements at cell lefts)
  stops-next [] lefts at cell from next none new some step is all = absurd (omega (arith, some))
  stops-next (c ∷ cells) [] zero cell from next none new some step is all = absurd all
  stops-next (c ∷ cells) [] (suc at) cell from next none new some step is all = absurd all
  stops-next (c ∷ cells) (l ∷ lefts) zero cell from next none new some step is all =
      (step cell l lefts (omega arith) all.0 is, all.1)
  stops-next (c ∷ cells) (l ∷ lefts) (suc at) cell from next none new some step is all = (
    all.0,
    stops-next cells lefts at (suc cell) l.key.end next none new (omega (arith, some))
        (λ n m others here left first. step n m others (omega (arith, here)) left first) is all.1,
  )

  -- of one cell: it has a width, goes on, or neither
  abbrev stop_by : ℕ → Left → List Left → Bool → Left
  stop_by cell l others t = if t then record l { stop = min (first_used columns l.key.end others) (stop_below columns keys cell elements) } else l

  pub stop-free : (c : CellLeft) (l : Left) (others : List Left) (cell next stop : ℕ) → c.key.has_no_width ≡ true → nat_lt 0 c.rows ≡ false → IsLeft bytes c l
      → next ≡ first_used columns l.key.end others → stop ≡ min next (stop_below columns keys cell elements)
      → IsLeft bytes (record c { stop = stop }) (stopped columns keys elements cell l others)
  stop-free c l others cell next stop free down is first found =
      let here : l.key.has_no_width ≡ true = ap (λ (k : FormatKey). k.has_no_width) (sym is.key) ∙ free in
      let begins : goes_on l ≡ false = ap (nat_lt 0) (sym is.rows) ∙ down in
      let own = record l { stop = min (first_used columns l.key.end others) (stop_below columns keys cell elements) } in
      let made : IsLeft bytes (record c { stop = stop }) own = record {
        key = is.key;
        field = is.field;
        lead = is.lead;
        rows = is.rows;
        used = is.used;
        stop = found ∙ ap (λ (n : ℕ). min n (stop_below columns keys cell elements)) first;
        cut = is.cut;
        lies = is.lies;
        within = is.within;
        place = is.place;
        laid = is.laid;
      } in
      subst (λ (m : Left). IsLeft bytes (record c { stop = stop }) m)
      (sym (ap (λ (t : Bool). stop_by cell l others (t && not (goes_on l))) here ∙ ap (λ (t : Bool). stop_by cell l others (not t)) begins)) made

-- the rules of a box don't count
pub stops-boxed : (columns : ℕ) (keys : List FormatKey) (boxing : Boxing) (behind_row : Bool) (elements : List Element) (cell : ℕ) (cells : List Left)
    → all_stopped columns keys (boxed_from boxing behind_row elements) cell cells ≡ all_stopped columns keys elements cell cells
stops-boxed columns keys boxing behind_row elements cell [] = refl
stops-boxed columns keys boxing behind_row elements cell (c ∷ cells) =
    let stop : ℕ → Left = λ n.
    if c.key.has_no_width && not (goes_on c) then record c { stop = min (first_used columns c.key.end cells) n } else c in
    ap (λ (n : ℕ). stop n ∷ all_stopped columns keys (boxed_from boxing behind_row elements) (suc cell) cells)
    (stop_below-boxed columns keys cell boxing behind_row elements)
    ∙ ap (λ (rest : List Left). stopped columns keys elements cell c cells ∷ rest) (stops-boxed columns keys boxing behind_row elements (suc cell) cells)

-- and cells keep their keys
module _ {A : Type 0} (of : FormatKey → A) where
  stop-key : (t : Bool) (c : Left) (stop : ℕ) → of ((if t then record c { stop = stop } else c).key) ≡ of c.key
  stop-key true c stop = refl
  stop-key false c stop = refl

  stops-of : (columns : ℕ) (keys : List FormatKey) (elements : List Element) (cell : ℕ) (cells : List Left)
      → map (λ (c : Left). of c.key) (all_stopped columns keys elements cell cells) ≡ map (λ (c : Left). of c.key) cells
  stops-of columns keys elements cell [] = refl
  stops-of columns keys elements cell (c ∷ cells) =
      ap (λ (x : A). x ∷ map (λ (c : Left). of c.key) (all_stopped columns keys elements (suc cell) cells)) (stop-key (c.key.has_no_width && not (goes_on c)) c _)
      ∙ ap (λ (xs : List A). of c.key ∷ xs) (stops-of columns keys elements (suc cell) cells)

pub stops-have : (columns : ℕ) (keys : List FormatKey) (elements : List Element) (cell : ℕ) (cells : List Left) (own : List FormatKey)
    → HaveKeys cells own → HaveKeys (all_stopped columns keys elements cell cells) own
stops-have columns keys elements cell cells own have = record {
  bars = stops-of (λ (k : FormatKey). k.bars) columns keys elements cell cells ∙ have.bars;
  ends = stops-of (λ (k : FormatKey). k.end) columns keys elements cell cells ∙ have.ends;
}
