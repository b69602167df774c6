-- Titles: three parts on a line (manual, section 14).
use Rattle.std.specs.Prelude.{ℕ, ◌+◌, ◌-◌, List, [], ◌∷◌, ◌++◌, if◌then◌else◌, ◌==◌}
use Rattle.page_model.specs.Glyphs.{glyph_blank, text_width}
use Rattle.page_model.specs.Words.{is_empty}
use Rattle.page_model.specs.Columns.{spaces}
use Rattle.page_model.specs.TitleColumns.{centre_column, right_column}

-- A title: its three parts, its length in columns, and the page number as it is printed. In a part the byte of a glyph's blank
-- is a blank, and 1 stands for the page number.
pub record Title : Type 0 where
  pub left : List ℕ
  pub centre : List ℕ
  pub right : List ℕ
  pub length : ℕ
  pub number : List ℕ

-- the byte that stands for the page number
abbrev pub page_mark : ℕ
page_mark = 0x01

-- a part as it is printed
abbrev pub part_text : List ℕ → List ℕ → List ℕ
part_text number [] = []
part_text number (b ∷ part) =
    if b == page_mark then number ++ part_text number part
    else (if b == glyph_blank then 32 else b) ∷ part_text number part

-- a part at a column, behind a text that ends at another one: an empty part shows no blanks
abbrev pub part_at : ℕ → ℕ → List ℕ → List ℕ
part_at column end part = if is_empty part then [] else spaces (column - end) ++ part

-- three parts in a length: an empty one in the centre has its place
abbrev pub parts_placed : ℕ → List ℕ → List ℕ → List ℕ → List ℕ
parts_placed length left centre right =
    let centre_at = centre_column length (text_width centre) (text_width left) in
    let right_at = right_column length (text_width right) (centre_at + text_width centre) in
    let shown = left ++ part_at centre_at (text_width left) centre in
    shown ++ part_at right_at (text_width shown) right

-- a title as it is printed
abbrev pub title_text : Title → List ℕ
title_text t = parts_placed t.length (part_text t.number t.left) (part_text t.number t.centre) (part_text t.number t.right)
