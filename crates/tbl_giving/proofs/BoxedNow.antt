-- What is to come of a picture by what is kept: its elements, with the rules that the box adds, and the heights of their rows.
use Rattle.std.proofs.Common.{◌≡◌, ℕ, suc, ◌-◌, Bool, true, false, ◌&&◌, List, [], ◌∷◌, ◌++◌, refl, sym, ap, ◌∙◌, arith, if◌then◌else◌, ◌==◌}
use Rattle.std.specs.List.{slice_range}
use Rattle.tbl_format.specs.Format.{FormatRow}
use Rattle.tbl_format.specs.RowsServed.{row_at}
use Rattle.tbl_kept.specs.Rows.{Command, KeptElement, Row, Rule, elements_of, fields_of, heights_of, rows_in_front}
use Rattle.tbl_layout.specs.Entries.{Command as OneCommand, Content, Element, Row as OneRow, Rule as OneRule}
use Rattle.tbl_layout.specs.declared.data_lines.RuleSign.TheVariants.{Single}
use Rattle.tbl_lines.specs.PictureLines.{boxed_from}
use Rattle.tbl_options.specs.declared.options.Boxing.{Boxing}
use Rattle.tbl_picture.proofs.BoxedElements.{boxed-command, boxed-keys, boxed-row, boxed-none, boxed-rule, boxed-between}
use Rattle.tbl_giving.specs.LinesWalked.{boxed_now, heights_now}
use Rattle.tbl_tall.specs.LinesOver.{heights_kept}
use Rattle.tbl_tall.specs.TallRows.{keys_in_front, next_height, wholes_in_front}

-- a row behind the rules that the box adds: none, or one in front of it
data RowBoxed (boxing : Boxing) (behind : Bool) (rules : List FormatRow) (format : FormatRow) (fields : List Content) (elements : List Element) : Type 0 where
  Alone : boxed_from boxing behind (OneRow rules format fields ∷ elements) ≡ OneRow rules format fields ∷ boxed_from boxing true elements
      → RowBoxed boxing behind rules format fields elements
  Ruled : boxed_from boxing behind (OneRow rules format fields ∷ elements) ≡ OneRule Single ∷ OneRow rules format fields ∷ boxed_from boxing true elements
      → RowBoxed boxing behind rules format fields elements

none-and : (t : Bool) → (t && false) ≡ false
none-and true = refl
none-and false = refl

pub kept-heights : (elements : List KeptElement) → heights_kept elements ≡ heights_of elements
kept-heights [] = refl
kept-heights (Row keys rules height entries ∷ elements) = ap (λ (hs : List ℕ). height ∷ hs) (kept-heights elements)
kept-heights (Rule sign ∷ elements) = kept-heights elements
kept-heights (Command from to ∷ elements) = kept-heights elements

module _ (boxing : Boxing) (bytes : List ℕ) (formats : List FormatRow) where
  -- elements by the rules that stand in front of their first row
  abbrev pub as-now : List Element → List KeptElement → List Element
  as-now all kept = boxed_now boxing bytes formats (wholes_in_front all) (keys_in_front all) kept

  -- a row, in front of which the box adds a rule, or none
  row-is : (adds behind : Bool) → (boxing.is_inside && behind) ≡ adds → (rules : List FormatRow) (format : FormatRow) (fields : List Content)
      (elements : List Element) → RowBoxed boxing behind rules format fields elements
  row-is false behind is rules format fields elements = Alone (boxed-row boxing behind rules format fields elements is)
  row-is true behind is (rule ∷ rules) format fields elements = Alone (boxed-keys boxing behind rule rules format fields elements)
  row-is true behind is [] format fields elements =
      Ruled (boxed-between boxing behind format fields elements is
      ∙ ap (λ (more : List Element). OneRule Single ∷ more) (boxed-row boxing false [] format fields elements (none-and boxing.is_inside)))

  fresh-row : (behind : Bool) (rules : List FormatRow) (format : FormatRow) (fields : List Content) (elements : List Element)
      → RowBoxed boxing behind rules format fields elements
      → (if wholes_in_front (boxed_from boxing behind (OneRow rules format fields ∷ elements)) == 0 then [] else OneRule Single ∷ [])
      ++ OneRow (keys_in_front (boxed_from boxing behind (OneRow rules format fields ∷ elements))) format fields ∷ boxed_from boxing true elements
      ≡ boxed_from boxing behind (OneRow rules format fields ∷ elements)
  fresh-row behind rules format fields elements (Alone is) =
      ap (λ (all : List Element). (if wholes_in_front all == 0 then [] else OneRule Single ∷ [])
      ++ OneRow (keys_in_front all) format fields ∷ boxed_from boxing true elements) is ∙ sym is
  fresh-row behind rules format fields elements (Ruled is) =
      ap (λ (all : List Element). (if wholes_in_front all == 0 then [] else OneRule Single ∷ [])
      ++ OneRow (keys_in_front all) format fields ∷ boxed_from boxing true elements) is ∙ sym is

  -- elements are what is to come of them, where nothing was given
  pub fresh : (behind : Bool) (kept : List KeptElement)
      → as-now (boxed_from boxing behind (elements_of bytes formats kept)) kept ≡ boxed_from boxing behind (elements_of bytes formats kept)
  fresh behind [] = sym (boxed-none boxing behind (boxing.bars == 0) refl)
  fresh behind (Row keys rules height entries ∷ elements) =
      let fields = fields_of bytes (row_at formats keys) entries in
      let all = elements_of bytes formats elements in
      fresh-row behind (rows_in_front formats keys rules) (row_at formats keys) fields all
      (row-is (boxing.is_inside && behind) behind refl (rows_in_front formats keys rules) (row_at formats keys) fields all)
  fresh behind (Rule sign ∷ elements) =
      let all = elements_of bytes formats elements in
      let rule = boxed-rule boxing behind sign all in
      let rest = boxed_from boxing false all in
      let less : suc (wholes_in_front rest) - 1 ≡ wholes_in_front rest = omega arith in
      ap (λ (xs : List Element). as-now xs (Rule sign ∷ elements)) rule
      ∙ ap (λ (n : ℕ). OneRule sign ∷ boxed_now boxing bytes formats n (keys_in_front rest) elements) less
      ∙ ap (λ (xs : List Element). OneRule sign ∷ xs) (fresh false elements) ∙ sym rule
  fresh behind (Command from to ∷ elements) =
      let all = elements_of bytes formats elements in
      let command = boxed-command boxing behind (slice_range bytes from to) all in
      ap (λ (xs : List Element). as-now xs (Command from to ∷ elements)) command
      ∙ ap (λ (xs : List Element). OneCommand (slice_range bytes from to) ∷ xs) (fresh behind elements) ∙ sym command

  -- and the heights of their rows
  height-row : (behind : Bool) (rules : List FormatRow) (format : FormatRow) (fields : List Content) (elements : List Element) (height : ℕ) (heights : List ℕ)
      → RowBoxed boxing behind rules format fields elements
      → next_height (height ∷ heights) (boxed_from boxing behind (OneRow rules format fields ∷ elements)) ≡ height
  height-row behind rules format fields elements height heights (Alone is) = ap (λ (all : List Element). next_height (height ∷ heights) all) is
  height-row behind rules format fields elements height heights (Ruled is) = ap (λ (all : List Element). next_height (height ∷ heights) all) is

  pub fresh-heights : (behind : Bool) (kept : List KeptElement)
      → heights_now (next_height (heights_of kept) (boxed_from boxing behind (elements_of bytes formats kept))) kept ≡ heights_of kept
  fresh-heights behind [] = refl
  fresh-heights behind (Row keys rules height entries ∷ elements) =
      let fields = fields_of bytes (row_at formats keys) entries in
      let all = elements_of bytes formats elements in
      ap (λ (n : ℕ). n ∷ heights_of elements)
      (height-row behind (rows_in_front formats keys rules) (row_at formats keys) fields all height (heights_of elements)
      (row-is (boxing.is_inside && behind) behind refl (rows_in_front formats keys rules) (row_at formats keys) fields all))
  fresh-heights behind (Rule sign ∷ elements) =
      ap (λ (xs : List Element). heights_now (next_height (heights_of elements) xs) elements) (boxed-rule boxing behind sign (elements_of bytes formats elements))
      ∙ fresh-heights false elements
  fresh-heights behind (Command from to ∷ elements) =
      ap (λ (xs : List Element). heights_now (next_height (heights_of elements) xs) elements)
      (boxed-command boxing behind (slice_range bytes from to) (elements_of bytes formats elements))
      ∙ fresh-heights behind elements
