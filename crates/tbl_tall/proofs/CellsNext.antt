-- The cells of the row that comes next, one by one: what is left of each, its key, and over how many rows it has come.
use Rattle.std.proofs.Common.{◌≡◌, ℕ, zero, suc, ◌+◌, ◌-◌, ◌<◌, ◌≤◌, Bool, false, if◌then◌else◌, List, [], ◌∷◌, ◌++◌, drop, get_or, length, map, refl, sym, ap, subst, ◌∙◌, arith, append_assoc, length-append, Option, None, Some, unwrap_or}
use Rattle.std.specs.List.{AllByRecursion}
use Rattle.tbl_format.specs.Cells.{cell_count, same_cell}
use Rattle.tbl_format.specs.Format.{FormatRow, columns_of_keys}
use Rattle.tbl_format.specs.FormatRows.{AreWithin}
use Rattle.tbl_format.specs.RowsServed.{row_at}
use Rattle.tbl_format.specs.declared.format.FormatKey.{FormatKey}
use Rattle.tbl_format.specs.declared.format.Key.TheVariants.{Left as LeftKey}
use Rattle.tbl_kept.proofs.HeightSteps.{length-in_front}
use Rattle.tbl_kept.proofs.CellHeights.{above-seen}
use Rattle.tbl_kept.specs.KeptHeights.{cell_above_kept, field_kept}
use Rattle.tbl_kept.specs.Rows.{Command as CommandKept, KeptElement, Row as RowKept, Rule as RuleKept}
use Rattle.tbl_kept.specs.RowsLaying.{element_at, goes_on}
use Rattle.tbl_layout.specs.Entries.{key_at}
use Rattle.tbl_layout.specs.KeptEntries.{all_entries, no_entry}
use Rattle.tbl_layout.specs.declared.entry.Entry.{Entry}
use Rattle.tbl_lines.specs.CellsLeft.{Left, all_keys, gone_on, keys_behind}
use Rattle.tbl_line_cells.specs.KeptCells.{AllLeft, IsKeyAt, IsLeft}
use Rattle.tbl_tall.specs.LinesOver.{HasInFront}
use Rattle.tbl_tall.specs.RowsNext.{GoesOnWith, HasKey, HasKeys, NoneAbove, OneAbove, RowAbove, RowIsAt, above_kept, cells_by}
use Rattle.tbl_tall.specs.TallRows.{ElementLies}
use Rattle.tbl_line_cells.specs.declared.cells.CellLeft.{CellLeft}
use Rattle.tbl_tall.specs.declared.next_cells.RowComing.{RowComing}

-- what holds of all of some, holds of each
pub all-at : {A : Type 0} (P : A → Type 0) (xs : List A) (at : ℕ) (none : A) → at < length xs → AllByRecursion P xs → P (get_or xs at none)
all-at P [] at none some all = absurd (omega (arith, some))
all-at P (x ∷ xs) zero none some all = all.0
all-at P (x ∷ xs) (suc at) none some all = all-at P xs at none (omega (arith, some)) all.1

pub all-drop : {A : Type 0} (P : A → Type 0) (xs : List A) (n : ℕ) → AllByRecursion P xs → AllByRecursion P (drop n xs)
all-drop P xs zero all = all
all-drop P [] (suc n) all = tt
all-drop P (x ∷ xs) (suc n) all = all-drop P xs n all.1

pub drop-past : {A : Type 0} (xs : List A) (n : ℕ) → length xs ≤ n → drop n xs ≡ []
drop-past [] zero past = refl
drop-past [] (suc n) past = refl
drop-past (x ∷ xs) zero past = absurd (omega (arith, past))
drop-past (x ∷ xs) (suc n) past = drop-past xs n (omega (arith, past))

pub append-none : {A : Type 0} (xs : List A) → xs ++ [] ≡ xs
append-none [] = refl
append-none (x ∷ xs) = ap (λ (rest : List _). x ∷ rest) (append-none xs)

-- what a place behind some holds is there
pub get-drop : {A : Type 0} (xs : List A) (at : ℕ) (x none : A) (rest : List A) → drop at xs ≡ x ∷ rest → get_or xs at none ≡ x
get-drop [] zero x none rest is = absurd cc
get-drop [] (suc at) x none rest is = absurd cc
get-drop (y ∷ xs) zero x none rest is = ap (λ ys. get_or ys 0 none) is
get-drop (y ∷ xs) (suc at) x none rest is = get-drop xs at x none rest is

-- one of some cells that are left so
pub record LeftAt (bytes : List ℕ) (c : CellLeft) (at : ℕ) (lefts : List Left) : Type 0 where
  pub left : Left
  pub kept : IsLeft bytes c left
  pub is : (f : Left → Left) (new : Left) → get_or (map f lefts) at new ≡ f left

pub left-at : (bytes : List ℕ) (cells : List CellLeft) (lefts : List Left) (at : ℕ) (none : CellLeft) → at < length cells
    → AllLeft bytes cells lefts → LeftAt bytes (get_or cells at none) at lefts
left-at bytes [] lefts at none some all = absurd (omega (arith, some))
left-at bytes (c ∷ cells) [] at none some all = absurd all
left-at bytes (c ∷ cells) (l ∷ lefts) zero none some all = record { left = l; kept = all.0; is = λ f new. refl }
left-at bytes (c ∷ cells) (l ∷ lefts) (suc at) none some all =
    let more = left-at bytes cells lefts at none (omega (arith, some)) all.1 in
    record { left = more.left; kept = more.kept; is = λ f new. more.is f new }

pub left-there : (bytes : List ℕ) (cells : List CellLeft) (lefts : List Left) (at : ℕ) (c : CellLeft) (new : Left) → at < length cells
    → c ≡ get_or cells at c → AllLeft bytes cells lefts → GoesOnWith bytes (Some at) lefts new c
left-there bytes cells lefts at c new some is all =
    let found = left-at bytes cells lefts at c some all in
    record {
      left = found.left;
      kept = subst (λ (d : CellLeft). IsLeft bytes d found.left) (sym is) found.kept;
      is = found.is (gone_on new.key) new;
    }

pub left-past : (bytes : List ℕ) (cells : List CellLeft) (lefts : List Left) (at : ℕ) (f : Left → Left) (new : Left) → length cells ≤ at
    → AllLeft bytes cells lefts → get_or (map f lefts) at new ≡ new
left-past bytes [] [] at f new past all = refl
left-past bytes [] (l ∷ lefts) at f new past all = absurd all
left-past bytes (c ∷ cells) [] at f new past all = absurd all
left-past bytes (c ∷ cells) (l ∷ lefts) zero f new past all = absurd (omega (arith, past))
left-past bytes (c ∷ cells) (l ∷ lefts) (suc at) f new past all = left-past bytes cells lefts at f new (omega (arith, past)) all.1

-- one cell more
module _ (bytes : List ℕ) (f : ℕ → FormatKey → Left) (keys : List FormatKey) (all : List Left) (cells : List CellLeft) (cell : ℕ) where
  pub next-left : (c : CellLeft) (k : FormatKey)
      → ((more : List CellLeft) → AllLeft bytes more (cells_by f cell (drop cell keys)) → AllLeft bytes (cells ++ more) all)
      → drop cell keys ≡ k ∷ drop (suc cell) keys → IsLeft bytes c (f cell k)
      → (more : List CellLeft) → AllLeft bytes more (cells_by f (cell + 1) (drop (cell + 1) keys)) → AllLeft bytes ((cells ++ c ∷ []) ++ more) all
  next-left c k so_far is left more rest =
      let next : cell + 1 ≡ suc cell = omega arith in
      subst (λ (cs : List CellLeft). AllLeft bytes cs all) (sym (append_assoc cells (c ∷ []) more))
      (so_far (c ∷ more) (subst (λ (ks : List FormatKey). AllLeft bytes (c ∷ more) (cells_by f cell ks)) (sym is)
      (left, subst (λ (n : ℕ). AllLeft bytes more (cells_by f n (drop n keys))) next rest)))

  pub end-left : ((more : List CellLeft) → AllLeft bytes more (cells_by f cell (drop cell keys)) → AllLeft bytes (cells ++ more) all)
      → length keys ≤ cell → AllLeft bytes cells all
  end-left so_far past =
      subst (λ (cs : List CellLeft). AllLeft bytes cs all) (append-none cells)
      (so_far [] (subst (λ (ks : List FormatKey). AllLeft bytes [] (cells_by f cell ks)) (sym (drop-past keys cell past)) tt))

-- behind some cells one more stands
pub record OneMore (Stands Few : CellLeft → Type 0) (own : FormatKey) (old : List CellLeft) (room : ℕ) (new : List CellLeft) (now : ℕ) : Type 0 where
  pub cell : CellLeft
  pub items : new ≡ old ++ cell ∷ []
  pub capacity : now ≡ room
  pub stands : Stands cell
  pub key : HasKey cell own
  pub few : Few cell

pub cells-map : (f : FormatKey → Left) (cell : ℕ) (keys : List FormatKey) → cells_by (λ (n : ℕ) (k : FormatKey). f k) cell keys ≡ map f keys
cells-map f cell [] = refl
cells-map f cell (k ∷ keys) = ap (λ (rest : List Left). f k ∷ rest) (cells-map f (suc cell) keys)

module _ (keys : List FormatKey) (cells : List CellLeft) (cell : ℕ) where
  pub next-key : (c : CellLeft) (k : FormatKey) → ((more : List CellLeft) → HasKeys more (drop cell keys) → HasKeys (cells ++ more) keys)
      → drop cell keys ≡ k ∷ drop (suc cell) keys → HasKey c k
      → (more : List CellLeft) → HasKeys more (drop (cell + 1) keys) → HasKeys ((cells ++ c ∷ []) ++ more) keys
  next-key c k so_far is has more rest =
      let next : cell + 1 ≡ suc cell = omega arith in
      subst (λ (cs : List CellLeft). HasKeys cs keys) (sym (append_assoc cells (c ∷ []) more))
      (so_far (c ∷ more) (subst (λ (ks : List FormatKey). HasKeys (c ∷ more) ks) (sym is)
      (has, subst (λ (n : ℕ). HasKeys more (drop n keys)) next rest)))

  pub end-key : ((more : List CellLeft) → HasKeys more (drop cell keys) → HasKeys (cells ++ more) keys) → length keys ≤ cell → HasKeys cells keys
  end-key so_far past =
      subst (λ (cs : List CellLeft). HasKeys cs keys) (append-none cells)
      (so_far [] (subst (λ (ks : List FormatKey). HasKeys [] ks) (sym (drop-past keys cell past)) tt))

pub all-less : (cells : List CellLeft) (some most : ℕ) → some ≤ most → AllByRecursion (λ (c : CellLeft). c.rows < some) cells
    → AllByRecursion (λ (c : CellLeft). c.rows < most) cells
all-less [] some most few all = tt
all-less (c ∷ cells) some most few all = (omega (arith, few, all.0), all-less cells some most few all.1)

pub all-under : (cells : List CellLeft) (most : ℕ) → AllByRecursion (λ (c : CellLeft). c.rows ≤ most) cells
    → AllByRecursion (λ (c : CellLeft). c.rows < most + 1) cells
all-under [] most all = tt
all-under (c ∷ cells) most all = (omega (arith, all.0), all-under cells most all.1)

pub all-next : {A : Type 0} (P : A → Type 0) (xs : List A) (x : A) → AllByRecursion P xs → P x → AllByRecursion P (xs ++ x ∷ [])
all-next P [] x all is = (is, tt)
all-next P (y ∷ xs) x all is = (all.0, all-next P xs x all.1 is)

-- how many cells a row has
pub keys-behind-many : (count bars column : ℕ) → length (keys_behind count bars column) ≡ count
keys-behind-many zero bars column = refl
keys-behind-many (suc count) bars column = ap suc (keys-behind-many count 0 (suc column))

pub keys-many : (columns : ℕ) (format : FormatRow) → length (all_keys columns format) ≡ cell_count format.keys columns
keys-many columns format =
    let own = columns_of_keys format.keys in
    length-append format.keys (keys_behind (columns - own) format.bars own)
    ∙ ap (λ (n : ℕ). length format.keys + n) (keys-behind-many (columns - own) format.bars own)

-- the key letter of a cell
letters-behind : (count bars column cell : ℕ) → get_or (map (λ (k : FormatKey). k.key) (keys_behind count bars column)) cell LeftKey ≡ LeftKey
letters-behind zero bars column cell = refl
letters-behind (suc count) bars column zero = refl
letters-behind (suc count) bars column (suc cell) = letters-behind count 0 (suc column) cell

letters-append : (keys more : List FormatKey) (cell : ℕ)
    → ((n : ℕ) → get_or (map (λ (k : FormatKey). k.key) more) n LeftKey ≡ LeftKey)
    → get_or (map (λ (k : FormatKey). k.key) (keys ++ more)) cell LeftKey ≡ get_or (map (λ (k : FormatKey). k.key) keys) cell LeftKey
letters-append [] more cell left = left cell
letters-append (k ∷ keys) more zero left = refl
letters-append (k ∷ keys) more (suc cell) left = letters-append keys more cell left

letter-there : (keys : List FormatKey) (cell : ℕ) (k : FormatKey) (rest : List FormatKey) → drop cell keys ≡ k ∷ rest
    → get_or (map (λ (k : FormatKey). k.key) keys) cell LeftKey ≡ k.key
letter-there [] zero k rest is = absurd cc
letter-there [] (suc cell) k rest is = absurd cc
letter-there (j ∷ keys) zero k rest is = ap (λ (ks : List FormatKey). get_or (map (λ (k : FormatKey). k.key) ks) 0 LeftKey) is
letter-there (j ∷ keys) (suc cell) k rest is = letter-there keys cell k rest is

pub letter-at : (columns : ℕ) (format : FormatRow) (cell : ℕ) (k : FormatKey) → drop cell (all_keys columns format) ≡ k ∷ drop (suc cell) (all_keys columns format)
    → k.key ≡ key_at format cell
letter-at columns format cell k is =
    let own = columns_of_keys format.keys in
    sym (letter-there (all_keys columns format) cell k (drop (suc cell) (all_keys columns format)) is)
    ∙ letters-append format.keys (keys_behind (columns - own) format.bars own) cell (λ n. letters-behind (columns - own) format.bars own n)

pub fronts-lie : (formats : List FormatRow) (columns : ℕ) (elements : List KeptElement) → AllByRecursion (ElementLies formats columns) elements
    → AllByRecursion (HasInFront formats) elements
fronts-lie formats columns [] lie = tt
fronts-lie formats columns (RowKept keys rules height entries ∷ elements) lie =
    (length-in_front formats keys rules lie.0.serves lie.0.in_front, fronts-lie formats columns elements lie.1)
fronts-lie formats columns (RuleKept sign ∷ elements) lie = (tt, fronts-lie formats columns elements lie.1)
fronts-lie formats columns (CommandKept from to ∷ elements) lie = (tt, fronts-lie formats columns elements lie.1)

-- the cell of the row above is that of its keys
above-by : (bytes : List ℕ) (formats : List FormatRow) (cell above rules height : ℕ) (entries : List Entry) (row : KeptElement)
    → cell_above_kept bytes formats cell (RowKept above rules height entries) row
    ≡ above_kept bytes formats (row_at formats above).keys row cell
above-by bytes formats cell above rules height entries (RowKept keys own_rules own_height fields) = refl
above-by bytes formats cell above rules height entries (RuleKept sign) = refl
above-by bytes formats cell above rules height entries (CommandKept from to) = refl

pub above-is : (bytes : List ℕ) (formats : List FormatRow) (elements : List KeptElement) (above : Option ℕ) (at : ℕ) (keys : List FormatKey) (cell : ℕ)
    (row : KeptElement) → above ≡ Some at → RowAbove formats elements above keys
    → cell_above_kept bytes formats cell (element_at elements at) row ≡ above_kept bytes formats keys row cell
above-is bytes formats elements above at keys cell row is NoneAbove = absurd cc
above-is bytes formats elements above at keys cell row is (OneAbove {above = other} {keys = ks} {rules = rules} {height = height} {entries = entries} there) =
    let same : other ≡ at = ap (λ (o : Option ℕ). unwrap_or o 0) is in
    ap (λ (n : ℕ). cell_above_kept bytes formats cell (element_at elements n) row) (sym same)
    ∙ ap (λ (e : KeptElement). cell_above_kept bytes formats cell e row) there
    ∙ above-by bytes formats cell ks rules height entries row

-- a cell whose field isn't that of the cell above goes on with none
pub none-above : (bytes : List ℕ) (formats : List FormatRow) (above : List FormatKey) (row : KeptElement) (cell : ℕ)
    → goes_on (field_kept formats cell row).kind ≡ false → above_kept bytes formats above row cell ≡ None
none-above bytes formats above (RowKept keys rules height entries) cell not =
    let format = row_at formats keys in
    let field = get_or (all_entries format entries) cell no_entry in
    ap (λ (t : Bool). if t then same_cell above format.keys cell else None) (above-seen bytes format.bars format.keys entries cell field.kind refl ∙ not)
none-above bytes formats above (RuleKept sign) cell not = refl
none-above bytes formats above (CommandKept from to) cell not = refl

-- the keys of a row, as they are lent
pub key-lent : (formats : List FormatRow) (keys columns bars cell : ℕ) (lent : List FormatKey) (k : FormatKey) → lent ≡ (row_at formats keys).keys
    → bars ≡ (row_at formats keys).bars → IsKeyAt k cell (all_keys columns (record { keys = lent; bars = bars }))
    → IsKeyAt k cell (all_keys columns (row_at formats keys))
key-lent formats keys columns bars cell lent k is many at =
    subst (λ (ks : List FormatKey). IsKeyAt k cell (all_keys columns (record { keys = ks; bars = (row_at formats keys).bars }))) is
    (subst (λ (n : ℕ). IsKeyAt k cell (all_keys columns (record { keys = lent; bars = n }))) many at)

-- a row among those that lie so
pub row-within : (formats : List FormatRow) (columns : ℕ) (elements : List KeptElement) (row : RowComing) → row.at < length elements → RowIsAt elements row
    → AllByRecursion (ElementLies formats columns) elements → AreWithin columns (row_at formats row.keys).keys
row-within formats columns elements row some is lie =
    let own = RowKept row.keys row.rules row.height is.entries in
    let there : element_at elements row.at ≡ own = get-drop elements row.at own (CommandKept 0 0) (drop (suc row.at) elements) is.is in
    let lies : ElementLies formats columns own
    = subst (λ (e : KeptElement). ElementLies formats columns e) there (all-at (ElementLies formats columns) elements row.at (CommandKept 0 0) some lie) in
    lies.cells
