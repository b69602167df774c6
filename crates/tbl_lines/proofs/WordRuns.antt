-- The words of a block's line, by where they lie, and their columns.
use Rattle.std.proofs.Common.{◌≡◌, ℕ, zero, suc, ◌+◌, ◌-◌, ◌≤◌, List, [], ◌∷◌, length, take, drop, map, get_or, replicate, refl, sym, ap, ◌∙◌, arith, drop-drop, take-take}
use Rattle.std.specs.List.{slice_range}
use Rattle.std.proofs.lemmas.List.{drop-take}
use Rattle.std.proofs.lemmas.List.Sums.{sum_by-cons}
use Rattle.std.proofs.lemmas.Slice.{between_is}
use Rattle.tbl_layout.specs.Entries.{Run, block_line, columns_of, further_words}
use Rattle.tbl_layout.specs.declared.columns.Column.{Column}
use Rattle.tbl_layout.specs.declared.entry.Entry.{Entry}
use Rattle.tbl_layout.specs.declared.entry.EntryKind.{EntryKind}
use Rattle.tbl_layout.specs.declared.entry.EntryKind.TheVariants.{Above, Block, Repeated, Ruled, Short, Split, Text}
use Rattle.tbl_layout.specs.KeptEntries.{IsBlock, Lies, measure_by}
use Rattle.tbl_lines.specs.PictureLines.{Cell}
use Rattle.tbl_lines.specs.RowsLeft.{begins_at, behind_first, block_text, cell_left, first_of, lines_left_by}
use Rattle.tbl_lines.specs.declared.row_columns.RowColumn.{RowColumn}
use Rattle.tbl_text.proofs.BlockSlices.{length-slice_range}
use Rattle.tbl_text.specs.BlockLines.{lines_of, width_behind}
use Rattle.tbl_text.specs.BlockPlaces.{left_at, parts_at}
use Rattle.tbl_text.specs.BlockWords.{EmptyLine, OneWord, Part}
use Rattle.tbl_text.specs.declared.block_parts.BlockPlace.{BlockPlace}
use Rattle.tbl_text.specs.declared.block_parts.BlockPlace.TheVariants.{AtEnd, AtLine, AtLineWithin, Behind, BehindWithin}

-- a part of a part
pub slice-in : {A : Type 0} (xs : List A) (a b f t : ℕ) → a + t ≤ b
    → slice_range (slice_range xs a b) f t ≡ slice_range xs (a + f) (a + t)
slice-in {A = A} xs a b f t within =
    between_is (slice_range xs a b) f t
    ∙ ap (λ (ys : List A). drop f ys) (take-take t (b - a) (drop a xs) (omega (arith, within)) ∙ sym (drop-take a t xs))
    ∙ drop-drop f a (take (a + t) xs)
    ∙ sym (between_is xs (a + f) (a + t))

-- how wide a line is with further words
pub columns-further : (width : ℕ) (words : List Part) → width + columns_of (further_words words) ≡ width_behind width words
columns-further width [] = omega arith
columns-further width (EmptyLine ∷ words) = columns-further width words
columns-further width (OneWord w ∷ words) =
    let more = further_words words in
    let run : Run = record { bytes = w.text; to_glyph = w.to_glyph; columns = w.columns } in
    omega (
      arith,
      columns-further (width + w.gap + w.columns) words,
      sum_by-cons (λ (r : Run). r.columns) run more,
      sum_by-cons (λ (r : Run). r.columns) (record { bytes = replicate w.gap 32; to_glyph = []; columns = w.gap }) (run ∷ more),
    )

-- a block's bytes are no more than the table's
pub few-bytes : (bytes : List ℕ) (e : Entry) → Lies bytes e → length (block_text bytes e) ≤ length bytes
few-bytes bytes e lies = omega (arith, lies.within, length-slice_range bytes (e.from + 1) e.to lies.within)

pub few-left : (bytes : List ℕ) (p : BlockPlace) → left_at bytes p ≤ length bytes + 1
few-left bytes (AtLine line before) = omega arith
few-left bytes (Behind at end ends) = omega arith
few-left bytes AtEnd = omega arith
few-left bytes (AtLineWithin line before room) = omega arith
few-left bytes (BehindWithin at end ends room) = omega arith

-- nothing in front leaves all
pub drop-of-none : {A : Type 0} (n : ℕ) (xs : List A) → take n xs ≡ [] → drop n xs ≡ xs
drop-of-none zero xs none = refl
drop-of-none (suc n) [] none = refl
drop-of-none (suc n) (x ∷ xs) none = absurd (cc)

-- the lines of a block are those of what is left of it
block-by : (k : EntryKind) (bytes : List ℕ) (line : ℕ) (c : Column) (end : ℕ) (e : Entry) (p : BlockPlace) → IsBlock k
    → lines_left_by k bytes line c end e p ≡ map block_line (lines_of (measure_by k) (parts_at (block_text bytes e) p))
block-by (Text glyphs width) bytes line c end e p is = absurd is
block-by (Split s) bytes line c end e p is = absurd is
block-by (Block b) bytes line c end e p is = refl
block-by (Ruled sign) bytes line c end e p is = absurd is
block-by Short bytes line c end e p is = absurd is
block-by (Repeated b) bytes line c end e p is = absurd is
block-by Above bytes line c end e p is = absurd is

module _ (bytes : List ℕ) (line : ℕ) (r : RowColumn) (is : IsBlock r.entry.kind) where
  pub block-first : first_of (cell_left bytes line r)
      ≡ get_or (map block_line (lines_of (measure_by r.entry.kind) (parts_at (block_text bytes r.entry) r.place))) 0 []
  block-first = ap (λ (lines : List (List Run)). get_or lines 0 []) (block-by r.entry.kind bytes line r.column r.end r.entry r.place is)

  pub block-moved : (p : BlockPlace) → map block_line (lines_of (measure_by r.entry.kind) (parts_at (block_text bytes r.entry) p))
      ≡ drop 1 (map block_line (lines_of (measure_by r.entry.kind) (parts_at (block_text bytes r.entry) r.place)))
      → cell_left bytes (suc line) (record r { place = p }) ≡ behind_first (cell_left bytes line r)
  block-moved p moved =
      let cell : List (List Run) → Cell = λ lines. record { at = begins_at r; lines = lines; below = [] } in
      ap cell (block-by r.entry.kind bytes (suc line) r.column r.end r.entry p is ∙ moved)
      ∙ ap (λ (lines : List (List Run)). cell (drop 1 lines)) (sym (block-by r.entry.kind bytes line r.column r.end r.entry r.place is))
