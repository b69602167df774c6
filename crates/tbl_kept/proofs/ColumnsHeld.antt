-- What columns hold of the rows that are kept.
use Rattle.std.proofs.Common.{◌≡◌, ℕ, zero, suc, ◌+◌, ◌<◌, ◌≤◌, max, List, [], ◌∷◌, ◌++◌, length, map, drop, get_or, replicate, refl, sym, ap, ◌∙◌, arith, drop-drop, get_or-drop}
use Rattle.std.specs.List.{AllByRecursion}
use Rattle.std.proofs.Math.ListN.{get_or-append}
use Rattle.tbl_format.specs.Format.{FormatRow}
use Rattle.tbl_format.specs.RowsServed.{no_keys, row_at}
use Rattle.tbl_layout.specs.Columns.{alone, greatest, in_strip, left_of, needing, needs_of, right_of, row_stands, split_width}
use Rattle.tbl_layout.specs.KeptEntries.{stands_of}
use Rattle.tbl_layout.specs.declared.columns.Column.{Column}
use Rattle.tbl_layout.specs.declared.columns.Needs.{Needs}
use Rattle.tbl_layout.specs.declared.columns.Stands.{Stands}
use Rattle.tbl_layout.specs.declared.columns.Stands.TheVariants.{Nowhere}
use Rattle.tbl_layout.specs.declared.data_lines.RuleSign.{RuleSign}
use Rattle.tbl_layout.specs.declared.entry.Entry.{Entry}
use Rattle.tbl_kept.specs.Rows.{Command, ElementKept, KeptElement, Row, Rule, columns_holding, held_by, no_column, stands_in}
use Rattle.tbl_kept.proofs.CellSteps.{cells-left, row_stands-past}

-- needs that are the same, one by one
pub needs-same : (a b : Needs) → a.alone ≡ b.alone → a.strip ≡ b.strip → a.left ≡ b.left → a.right ≡ b.right → a.split ≡ b.split → a ≡ b
needs-same a b alone strip left right split =
    ap (λ (n : ℕ). record a { alone = n }) alone
    ∙ ap (λ (n : ℕ). record b { strip = n; left = a.left; right = a.right; split = a.split }) strip
    ∙ ap (λ (n : ℕ). record b { left = n; right = a.right; split = a.split }) left
    ∙ ap (λ (n : ℕ). record b { right = n; split = a.split }) right
    ∙ ap (λ (n : ℕ). record b { split = n }) split

-- the greatest of numbers, and of one more behind them
greatest-last : (f : Stands → ℕ) (entries : List Stands) (last : Stands) → greatest (map f (entries ++ last ∷ [])) ≡ max (greatest (map f entries)) (f last)
greatest-last f [] last = omega arith
greatest-last f (e ∷ entries) last = omega (arith, greatest-last f entries last)

-- what entries need with one more behind them
pub needs_of-last : (entries : List Stands) (last : Stands) → needs_of (entries ++ last ∷ []) ≡ needing (needs_of entries) last
needs_of-last entries last =
    needs-same (needs_of (entries ++ last ∷ [])) (needing (needs_of entries) last)
    (greatest-last alone entries last) (greatest-last in_strip entries last) (greatest-last left_of entries last) (greatest-last right_of entries last)
    (greatest-last split_width entries last)

-- an entry that stands nowhere needs nothing
pub needs_of-nowhere : (entries : List Stands) → needs_of (Nowhere ∷ entries) ≡ needs_of entries
needs_of-nowhere entries =
    needs-same (needs_of (Nowhere ∷ entries)) (needs_of entries) (omega arith) (omega arith) (omega arith) (omega arith) (omega arith)

pub needing-nowhere : (n : Needs) → needing n Nowhere ≡ n
needing-nowhere n = needs-same (needing n Nowhere) n (omega arith) (omega arith) (omega arith) (omega arith) (omega arith)

-- how the field of a column stands, by what stands from that column on
pub get_or-rest : (entries rest : List Stands) (column : ℕ) → drop column entries ≡ rest → get_or entries column Nowhere ≡ get_or rest 0 Nowhere
get_or-rest entries rest column is =
    let same : column ≡ column + 0 = omega arith in
    ap (λ (n : ℕ). get_or entries n Nowhere) same
    ∙ sym (get_or-drop column entries 0 Nowhere)
    ∙ ap (λ (ss : List Stands). get_or ss 0 Nowhere) is

pub rest-next : {A : Type 0} (xs rest : List A) (column : ℕ) → drop column xs ≡ rest → drop (suc column) xs ≡ drop 1 rest
rest-next {A} xs rest column is =
    let next : column + 1 ≡ suc column = omega arith in
    sym (drop-drop 1 column xs ∙ ap (λ (n : ℕ). drop n xs) next) ∙ ap (λ (ys : List A). drop 1 ys) is

module _ (formats : List FormatRow) where
  -- the fields of a row, in the columns of the table
  abbrev pub row_of : ℕ → List Entry → List Stands
  row_of keys entries = row_stands stands_of 0 (row_at formats keys).keys entries

  -- one row more
  stands_in-row : (column : ℕ) (elements : List KeptElement) (keys rules height : ℕ) (entries : List Entry)
      → stands_in formats column (elements ++ Row keys rules height entries ∷ [])
      ≡ stands_in formats column elements ++ get_or (row_of keys entries) column Nowhere ∷ []
  stands_in-row column [] keys rules height entries = refl
  stands_in-row column (Row other before high row ∷ elements) keys rules height entries =
      ap (λ (rest : List Stands). get_or (row_of other row) column Nowhere ∷ rest) (stands_in-row column elements keys rules height entries)
  stands_in-row column (Rule sign ∷ elements) keys rules height entries = stands_in-row column elements keys rules height entries
  stands_in-row column (Command from to ∷ elements) keys rules height entries = stands_in-row column elements keys rules height entries

  module _ (elements : List KeptElement) (keys rules height : ℕ) (entries : List Entry) where
    needs-row : (column : ℕ) (rest : List Stands) → drop column (row_of keys entries) ≡ rest
        → needs_of (stands_in formats column (elements ++ Row keys rules height entries ∷ []))
        ≡ needing (needs_of (stands_in formats column elements)) (get_or rest 0 Nowhere)
    needs-row column rest is =
        ap needs_of (stands_in-row column elements keys rules height entries)
        ∙ needs_of-last (stands_in formats column elements) (get_or (row_of keys entries) column Nowhere)
        ∙ ap (λ (s : Stands). needing (needs_of (stands_in formats column elements)) s) (get_or-rest (row_of keys entries) rest column is)

    pub holding-row : (count column : ℕ) (rest : List Stands) → drop column (row_of keys entries) ≡ rest
        → held_by rest (columns_holding formats elements column count)
        ≡ columns_holding formats (elements ++ Row keys rules height entries ∷ []) column count
    holding-row zero column [] is = refl
    holding-row zero column (s ∷ rest) is = refl
    holding-row (suc count) column [] is =
        ap (λ (n : Needs). record no_column { needs = n } ∷ columns_holding formats elements (suc column) count)
        (sym (needs-row column [] is ∙ needing-nowhere (needs_of (stands_in formats column elements))))
        ∙ ap (λ (cs : List Column). record no_column { needs = needs_of (stands_in formats column (elements ++ Row keys rules height entries ∷ [])) } ∷ cs)
        (holding-row count (suc column) [] (rest-next (row_of keys entries) [] column is))
    holding-row (suc count) column (s ∷ rest) is =
        ap (λ (n : Needs). record no_column { needs = n } ∷ held_by rest (columns_holding formats elements (suc column) count))
        (sym (needs-row column (s ∷ rest) is))
        ∙ ap (λ (cs : List Column). record no_column { needs = needs_of (stands_in formats column (elements ++ Row keys rules height entries ∷ [])) } ∷ cs)
        (holding-row count (suc column) rest (rest-next (row_of keys entries) (s ∷ rest) column is))

  -- a command stands in no column
  stands_in-command : (column : ℕ) (elements : List KeptElement) (from to : ℕ)
      → stands_in formats column (elements ++ Command from to ∷ []) ≡ stands_in formats column elements
  stands_in-command column [] from to = refl
  stands_in-command column (Row keys rules height entries ∷ elements) from to =
      ap (λ (rest : List Stands). get_or (row_of keys entries) column Nowhere ∷ rest) (stands_in-command column elements from to)
  stands_in-command column (Rule sign ∷ elements) from to = stands_in-command column elements from to
  stands_in-command column (Command start end ∷ elements) from to = stands_in-command column elements from to

  pub columns_holding-command : (elements : List KeptElement) (from to column count : ℕ)
      → columns_holding formats (elements ++ Command from to ∷ []) column count ≡ columns_holding formats elements column count
  columns_holding-command elements from to column zero = refl
  columns_holding-command elements from to column (suc count) =
      ap (λ (ss : List Stands). record no_column { needs = needs_of ss } ∷ columns_holding formats (elements ++ Command from to ∷ []) (suc column) count)
      (stands_in-command column elements from to)
      ∙ ap (λ (cs : List Column). record no_column { needs = needs_of (stands_in formats column elements) } ∷ cs)
      (columns_holding-command elements from to (suc column) count)

  -- a rule stands in none either
  stands_in-rule : (column : ℕ) (elements : List KeptElement) (sign : RuleSign)
      → stands_in formats column (elements ++ Rule sign ∷ []) ≡ stands_in formats column elements
  stands_in-rule column [] sign = refl
  stands_in-rule column (Row keys rules height entries ∷ elements) sign =
      ap (λ (rest : List Stands). get_or (row_of keys entries) column Nowhere ∷ rest) (stands_in-rule column elements sign)
  stands_in-rule column (Rule other ∷ elements) sign = stands_in-rule column elements sign
  stands_in-rule column (Command from to ∷ elements) sign = stands_in-rule column elements sign

  pub columns_holding-rule : (elements : List KeptElement) (sign : RuleSign) (column count : ℕ)
      → columns_holding formats (elements ++ Rule sign ∷ []) column count ≡ columns_holding formats elements column count
  columns_holding-rule elements sign column zero = refl
  columns_holding-rule elements sign column (suc count) =
      ap (λ (ss : List Stands). record no_column { needs = needs_of ss } ∷ columns_holding formats (elements ++ Rule sign ∷ []) (suc column) count)
      (stands_in-rule column elements sign)
      ∙ ap (λ (cs : List Column). record no_column { needs = needs_of (stands_in formats column elements) } ∷ cs)
      (columns_holding-rule elements sign (suc column) count)

  -- further columns
  pub columns_holding-more : (elements : List KeptElement) (column count more all : ℕ) → all ≡ count + more
      → columns_holding formats elements column all
      ≡ columns_holding formats elements column count ++ columns_holding formats elements (column + count) more
  columns_holding-more elements column zero more all is =
      let same : all ≡ more = omega (arith, is) in
      let first : column ≡ column + zero = omega arith in
      ap (λ (n : ℕ). columns_holding formats elements column n) same ∙ ap (λ (n : ℕ). columns_holding formats elements n more) first
  columns_holding-more elements column (suc count) more zero is = absurd (omega (arith, is))
  columns_holding-more elements column (suc count) more (suc all) is =
      let next : suc column + count ≡ column + suc count = omega arith in
      ap (λ (cs : List Column). record no_column { needs = needs_of (stands_in formats column elements) } ∷ cs)
      (columns_holding-more elements (suc column) count more all (omega (arith, is))
      ∙ ap (λ (n : ℕ). columns_holding formats elements (suc column) count ++ columns_holding formats elements n more) next)

  pub length-columns_holding : (elements : List KeptElement) (column count : ℕ) → length (columns_holding formats elements column count) ≡ count
  length-columns_holding elements column zero = refl
  length-columns_holding elements column (suc count) = ap (λ (n : ℕ). suc n) (length-columns_holding elements (suc column) count)

  -- behind the fields of all rows a column needs nothing
  module _ (bytes : List ℕ) (columns : ℕ) where
    needs-behind : (column : ℕ) (elements : List KeptElement) → columns ≤ column → AllByRecursion (ElementKept bytes formats columns) elements
        → needs_of (stands_in formats column elements) ≡ needs_of []
    needs-behind column [] behind kept = refl
    needs-behind column (Row keys rules height entries ∷ elements) behind kept =
        ap (λ (s : Stands). needs_of (s ∷ stands_in formats column elements))
        (row_stands-past stands_of columns column (row_at formats keys).keys entries
        (cells-left columns (row_at formats keys).keys (length entries) kept.0.cells kept.0.short) behind)
        ∙ needs_of-nowhere (stands_in formats column elements)
        ∙ needs-behind column elements behind kept.1
    needs-behind column (Rule sign ∷ elements) behind kept = needs-behind column elements behind kept.1
    needs-behind column (Command from to ∷ elements) behind kept = needs-behind column elements behind kept.1

    pub columns_holding-behind : (elements : List KeptElement) → AllByRecursion (ElementKept bytes formats columns) elements → (column more : ℕ)
        → columns ≤ column → columns_holding formats elements column more ≡ replicate more no_column
    columns_holding-behind elements kept column zero behind = refl
    columns_holding-behind elements kept column (suc more) behind =
        ap (λ (n : Needs). record no_column { needs = n } ∷ columns_holding formats elements (suc column) more) (needs-behind column elements behind kept)
        ∙ ap (λ (cs : List Column). no_column ∷ cs) (columns_holding-behind elements kept (suc column) more (omega (arith, behind)))

-- rows of formats behind those that are known
module _ (bytes : List ℕ) (formats more : List FormatRow) (columns : ℕ) where
  pub row_at-more : (keys : ℕ) → keys < length formats → row_at (formats ++ more) keys ≡ row_at formats keys
  row_at-more keys serves = get_or-append formats more no_keys keys serves

  stands_in-formats : (column : ℕ) (elements : List KeptElement) → AllByRecursion (ElementKept bytes formats columns) elements
      → stands_in (formats ++ more) column elements ≡ stands_in formats column elements
  stands_in-formats column [] kept = refl
  stands_in-formats column (Row keys rules height entries ∷ elements) kept =
      ap (λ (row : FormatRow). get_or (row_stands stands_of 0 row.keys entries) column Nowhere ∷ stands_in (formats ++ more) column elements)
      (row_at-more keys kept.0.serves)
      ∙ ap (λ (rest : List Stands). get_or (row_of formats keys entries) column Nowhere ∷ rest) (stands_in-formats column elements kept.1)
  stands_in-formats column (Rule sign ∷ elements) kept = stands_in-formats column elements kept.1
  stands_in-formats column (Command from to ∷ elements) kept = stands_in-formats column elements kept.1

  pub columns_holding-formats : (elements : List KeptElement) → AllByRecursion (ElementKept bytes formats columns) elements → (column count : ℕ)
      → columns_holding (formats ++ more) elements column count ≡ columns_holding formats elements column count
  columns_holding-formats elements kept column zero = refl
  columns_holding-formats elements kept column (suc count) =
      ap (λ (ss : List Stands). record no_column { needs = needs_of ss } ∷ columns_holding (formats ++ more) elements (suc column) count)
      (stands_in-formats column elements kept)
      ∙ ap (λ (cs : List Column). record no_column { needs = needs_of (stands_in formats column elements) } ∷ cs)
      (columns_holding-formats elements kept (suc column) count)
