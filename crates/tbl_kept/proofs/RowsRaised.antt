-- Rows that have their heights in the table: nothing else of them changes.
use Rattle.std.proofs.Common.{◌≡◌, ℕ, suc, Bool, List, [], ◌∷◌, length, drop, get_or, refl, sym, ap, subst, ◌∙◌}
use Rattle.std.specs.List.{AllByRecursion}
use Rattle.tbl_format.specs.Format.{FormatRow}
use Rattle.tbl_format.specs.RowsServed.{row_at}
use Rattle.tbl_format.specs.declared.format.FormatKey.{FormatKey}
use Rattle.tbl_layout.specs.Entries.{Element as OneElement}
use Rattle.tbl_layout.specs.Heights.{heights, heights_behind}
use Rattle.tbl_kept.specs.KeptHeights.{raised, with_heights}
use Rattle.tbl_kept.specs.Rows.{Command, ElementLaid, KeptElement, KeptRows, Row, RowsLaid, Rule, element_of, elements_of, heights_of}

-- there are as many
pub length-with_heights : (hs : List ℕ) (elements : List KeptElement) → length (with_heights hs elements) ≡ length elements
length-with_heights hs [] = refl
length-with_heights hs (Row keys rules height entries ∷ elements) = ap (λ (n : ℕ). suc n) (length-with_heights (drop 1 hs) elements)
length-with_heights hs (Rule sign ∷ elements) = ap (λ (n : ℕ). suc n) (length-with_heights hs elements)
length-with_heights hs (Command from to ∷ elements) = ap (λ (n : ℕ). suc n) (length-with_heights hs elements)

module _ (bytes : List ℕ) (formats : List FormatRow) where
  pub with_heights-elements : (hs : List ℕ) (elements : List KeptElement)
      → elements_of bytes formats (with_heights hs elements) ≡ elements_of bytes formats elements
  with_heights-elements hs [] = refl
  with_heights-elements hs (Row keys rules height entries ∷ elements) =
      ap (λ (es : List OneElement). element_of bytes formats (Row keys rules height entries) ∷ es) (with_heights-elements (drop 1 hs) elements)
  with_heights-elements hs (Rule sign ∷ elements) =
      ap (λ (es : List OneElement). element_of bytes formats (Rule sign) ∷ es) (with_heights-elements hs elements)
  with_heights-elements hs (Command from to ∷ elements) =
      ap (λ (es : List OneElement). element_of bytes formats (Command from to) ∷ es) (with_heights-elements hs elements)

  pub with_heights-laid : (columns : ℕ) (hs : List ℕ) (elements : List KeptElement)
      → AllByRecursion (ElementLaid bytes formats columns) elements → AllByRecursion (ElementLaid bytes formats columns) (with_heights hs elements)
  with_heights-laid columns hs [] laid = tt
  with_heights-laid columns hs (Row keys rules height entries ∷ elements) laid = (laid.0, with_heights-laid columns (drop 1 hs) elements laid.1)
  with_heights-laid columns hs (Rule sign ∷ elements) laid = (tt, with_heights-laid columns hs elements laid.1)
  with_heights-laid columns hs (Command from to ∷ elements) laid = (laid.0, with_heights-laid columns hs elements laid.1)

  -- they have these heights
  heights-with : (is_inside : Bool) (columns : ℕ) (elements : List KeptElement) (above : List FormatKey) (left : List ℕ) (front : ℕ)
      → heights_of (with_heights (heights_behind is_inside columns above left front (elements_of bytes formats elements)) elements)
      ≡ heights_behind is_inside columns above left front (elements_of bytes formats elements)
  heights-with is_inside columns [] above left front = refl
  heights-with is_inside columns (Row keys rules height entries ∷ elements) above left front =
      let all = elements_of bytes formats (Row keys rules height entries ∷ elements) in
      ap (λ (hs : List ℕ). get_or (heights_behind is_inside columns above left front all) 0 1 ∷ hs)
      (heights-with is_inside columns elements (row_at formats keys).keys _ 0)
  heights-with is_inside columns (Rule sign ∷ elements) above left front = heights-with is_inside columns elements above left (suc front)
  heights-with is_inside columns (Command from to ∷ elements) above left front = heights-with is_inside columns elements above left front

  -- so they are laid out
  pub RowsLaid-raised : (is_inside : Bool) (k : KeptRows) (columns : ℕ) (elements : List KeptElement) → columns ≡ length k.columns
      → AllByRecursion (ElementLaid bytes formats columns) elements → k.elements ≡ raised bytes formats is_inside columns elements
      → RowsLaid bytes formats is_inside k
  RowsLaid-raised is_inside k columns elements same laid is =
      let hs = heights is_inside columns (elements_of bytes formats elements) in
      let all : elements_of bytes formats k.elements ≡ elements_of bytes formats elements =
      ap (elements_of bytes formats) is ∙ with_heights-elements hs elements in
      record {
        elements = subst (λ (n : ℕ). AllByRecursion (ElementLaid bytes formats n) k.elements) same
            (subst (AllByRecursion (ElementLaid bytes formats columns)) (sym is) (with_heights-laid columns hs elements laid));
        heights = ap heights_of is ∙ heights-with is_inside columns elements [] [] 0
            ∙ ap (λ (es : List OneElement). heights is_inside columns es) (sym all)
            ∙ ap (λ (n : ℕ). heights is_inside n (elements_of bytes formats k.elements)) same;
      }
