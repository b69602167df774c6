-- How many entries are still to count behind lines of a row on which something is cut.
use Rattle.std.proofs.Common.{◌≡◌, ℕ, zero, suc, ◌+◌, ◌-◌, ◌<◌, ◌≤◌, List, [], ◌∷◌, drop, length, map, get_or, refl, sym, ap, subst, ◌∙◌, arith}
use Rattle.tbl_format.specs.Format.{FormatRow}
use Rattle.tbl_layout.specs.Entries.{Content, Element, Row}
use Rattle.tbl_lines.specs.CellsLeft.{Left, bars_at_end, behind_line, cells_next}
use Rattle.tbl_lines.specs.CutEntries.{all_with_cut, behind_row, cut_from, cut_in_row, first_cut, with_cut}
use Rattle.tbl_lines.specs.LinesLeft.{Beside, OfRow, row_cut}
use Rattle.tbl_lines.specs.PictureLeft.{behind_lines}
use Rattle.tbl_lines.specs.PictureLines.{Sheet}
use Rattle.tbl_giving.proofs.CutsCounted.{comes-beside}
use Rattle.tbl_tall.proofs.MarksApart.{alike-behind, alike-marked, row-same}
use Rattle.tbl_giving.specs.CutsCounted.{CutsCome, CutsGo, LinesCounted}
use Rattle.tbl_tall.specs.CutsMarked.{AreAlike, bare}
use Rattle.tbl_tall.specs.TallRows.{Comes, KeptTall, RowStands}

-- a row comes, in front of which nothing more stands
pub row-stands : {bytes : List ℕ} {formats : List FormatRow} {s : Sheet} {t : KeptTall} {heights : List ℕ} {cells : List Left} {above : Beside}
    {format : FormatRow} {fields : List Content} {elements : List Element} → Comes bytes formats s t heights cells above (Row [] format fields ∷ elements)
    → RowStands bytes s t format cells (get_or heights 0 0)
row-stands comes = record {
  left = comes.left;
  keys = comes.keys;
  height = comes.height;
  last = comes.last;
  within = comes.within;
  some = comes.some;
  room = comes.room;
  first = λ _. comes.band.below_shown;
}

-- it stands so where its line is laid
pub stands-laid : {bytes : List ℕ} {s : Sheet} {t new : KeptTall} {format : FormatRow} {cells : List Left} {lines : ℕ}
    → new ≡ record t { line = new.line } → RowStands bytes s t format cells lines → RowStands bytes s new format cells lines
stands-laid {bytes} {s} {t} {new} {format} {cells} {lines} same stands =
    subst (λ (k : KeptTall). RowStands bytes s k format cells lines) (sym same) (record {
      left = stands.left;
      keys = stands.keys;
      height = stands.height;
      last = stands.last;
      within = stands.within;
      some = stands.some;
      room = stands.room;
      first = stands.first;
    })

-- none of its lines was given
pub none-counted : {bytes : List ℕ} {s : Sheet} {t : KeptTall} {format : FormatRow} {cells : List Left} {lines : ℕ} → 0 < lines
    → RowStands bytes s t format cells lines → LinesCounted 0 bytes s t format cells lines
none-counted {lines = zero} some stands = absurd (omega (arith, some))
none-counted {cells} {lines = suc more} some stands = record {
  own = cells;
  more = more;
  stands = stands;
  many = omega arith;
  behind = refl;
  alike = let one : suc more - 1 ≡ more = omega arith in ap (λ (n : ℕ). map bare (behind_lines n cells)) one;
}

alike-lines : (lines : ℕ) (xs ys : List Left) → AreAlike xs ys → AreAlike (behind_lines lines xs) (behind_lines lines ys)
alike-lines zero xs ys same = same
alike-lines (suc lines) xs ys same = alike-lines lines (map behind_line xs) (map behind_line ys) (alike-behind xs ys same)

-- one more of them was given, and another follows
pub line-counted : {counted here : ℕ} {bytes : List ℕ} {s : Sheet} {t new : KeptTall} {format : FormatRow} {cells : List Left} {lines rest : ℕ}
    (so_far : LinesCounted counted bytes s t format cells lines) → so_far.more ≡ suc rest
    → let cut = row_cut s (bars_at_end (length s.columns) format) so_far.own in
    here ≡ first_cut (length s.columns) cut → RowStands bytes s new format (map behind_line (all_with_cut cut so_far.own)) so_far.more
    → LinesCounted (counted + here) bytes s new format cells lines
line-counted {counted} {here} {bytes} {s} {t} {new} {format} {cells} {lines} {rest} so_far is first stands =
    let n = length s.columns in
    let last = bars_at_end n format in
    let own = so_far.own in
    let cut = row_cut s last own in
    let marked = all_with_cut cut own in
    let next = map behind_line marked in
    let many : cut_in_row s last lines cells ≡ counted + (first_cut n cut + cut_in_row s last (suc rest) next) =
    so_far.many ∙ ap (λ (m : ℕ). counted + (first_cut n cut + cut_in_row s last m next)) is in
    let alike : AreAlike (behind_lines (lines - 1) cells) (behind_lines rest (map behind_line own)) =
    so_far.alike ∙ ap (λ (m : ℕ). map bare (behind_lines m own)) is in
    record {
      own = next;
      more = rest;
      stands = subst (λ (m : ℕ). RowStands bytes s new format next m) is stands;
      many = omega (arith, many, first);
      behind = so_far.behind ∙ ap (λ (m : ℕ). behind_row s last m next) is;
      alike = alike ∙ alike-lines rest (map behind_line own) next (alike-behind own marked (alike-marked (with_cut cut) (λ l. refl) own));
    }

-- all of them were given, and the next row comes
pub row-go : {counted here : ℕ} {bytes : List ℕ} {formats : List FormatRow} {s : Sheet} {t start new : KeptTall} {heights others : List ℕ}
    {format : FormatRow} {fields : List Content} {elements : List Element} {count : ℕ}
    (row : CutsCome bytes formats s start heights (Row [] format fields ∷ elements) count)
    (so_far : LinesCounted counted bytes s t format row.cells (get_or heights 0 0)) → so_far.more ≡ 0 → drop 1 heights ≡ others
    → let cut = row_cut s (bars_at_end (length s.columns) format) so_far.own in
    let marked = all_with_cut cut so_far.own in
    here ≡ first_cut (length s.columns) cut → Comes bytes formats s new others (cells_next (length s.columns) format.keys (map behind_line marked) others elements)
    (OfRow marked (bars_at_end (length s.columns) format)) elements
    → CutsGo (counted + here) bytes formats s new others elements count
row-go {counted} {here} {bytes} {formats} {s} {t} {start} {new} {heights} {others} {format} {fields} {elements} {count} row so_far is behind first comes =
    let cells = row.cells in
    let n = length s.columns in
    let last = bars_at_end n format in
    let lines = get_or heights 0 0 in
    let own = so_far.own in
    let cut = row_cut s last own in
    let marked = all_with_cut cut own in
    let next = map behind_line marked in
    let line = OfRow (behind_lines (lines - 1) cells) last in
    let more = cut_from s others (cells_next n format.keys next others elements) line elements in
    let here_all : cut_in_row s last lines cells ≡ counted + (first_cut n cut + 0) =
    so_far.many ∙ ap (λ (m : ℕ). counted + (first_cut n cut + cut_in_row s last m next)) is in
    let left : behind_row s last lines cells ≡ next = so_far.behind ∙ ap (λ (m : ℕ). behind_row s last m next) is in
    let alike : AreAlike marked (behind_lines (lines - 1) cells) =
    sym (so_far.alike ∙ ap (λ (m : ℕ). map bare (behind_lines m own)) is ∙ alike-marked (with_cut cut) (λ l. refl) own) in
    let rest : cut_from s (drop 1 heights) (cells_next n format.keys (behind_row s last lines cells) (drop 1 heights) elements) line elements ≡ more =
    ap (λ (ls : List Left). cut_from s (drop 1 heights) (cells_next n format.keys ls (drop 1 heights) elements) line elements) left
    ∙ ap (λ (hs : List ℕ). cut_from s hs (cells_next n format.keys next hs elements) line elements) behind in
    let whole : 0 + (cut_in_row s last lines cells
    + cut_from s (drop 1 heights) (cells_next n format.keys (behind_row s last lines cells) (drop 1 heights) elements) line elements) ≡ count = row.many in
    record {
      more = more;
      all = omega (arith, whole, here_all, rest, first);
      come = record {
        cells = cells_next n format.keys next others elements;
        above = line;
        comes = comes-beside bytes formats s new others (cells_next n format.keys next others elements) (OfRow marked last) line elements comes
            (row-same s.bars.boxing n last marked (behind_lines (lines - 1) cells) alike);
        many = refl;
      };
    }

-- what was counted is part of all that is
pub lines-few : {counted here : ℕ} {bytes : List ℕ} {formats : List FormatRow} {s : Sheet} {t start : KeptTall} {heights : List ℕ}
    {format : FormatRow} {fields : List Content} {elements : List Element} {count : ℕ}
    (come : CutsCome bytes formats s start heights (Row [] format fields ∷ elements) count)
    (so_far : LinesCounted counted bytes s t format come.cells (get_or heights 0 0))
    → here ≡ first_cut (length s.columns) (row_cut s (bars_at_end (length s.columns) format) so_far.own) → counted + here ≤ count
lines-few {counted} {here} {bytes} {formats} {s} {t} {start} {heights} {format} {fields} {elements} {count} come so_far first =
    let n = length s.columns in
    let last = bars_at_end n format in
    let lines = get_or heights 0 0 in
    let own = so_far.own in
    let cut = row_cut s last own in
    let next = map behind_line (all_with_cut cut own) in
    let many : cut_in_row s last lines come.cells ≡ counted + (first_cut n cut + cut_in_row s last so_far.more next) = so_far.many in
    let line = OfRow (behind_lines (lines - 1) come.cells) last in
    let whole : 0 + (cut_in_row s last lines come.cells
    + cut_from s (drop 1 heights) (cells_next n format.keys (behind_row s last lines come.cells) (drop 1 heights) elements) line elements) ≡ count = come.many in
    omega (arith, many, whole, first)
