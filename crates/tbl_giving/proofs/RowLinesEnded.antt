-- Behind a line of a row: another one begins, or the next row comes.
use Rattle.std.proofs.Common.{◌≡◌, ℕ, suc, ◌+◌, ◌-◌, ◌<◌, List, [], ◌∷◌, drop, length, map, refl, sym, ap, subst, ◌∙◌, arith}
use Rattle.tbl_format.specs.Format.{FormatRow}
use Rattle.tbl_format.specs.RowsServed.{row_at}
use Rattle.tbl_kept.specs.Rows.{Command, KeptElement, KeptRows, Row, Rule}
use Rattle.tbl_lines.specs.CellsLeft.{bars_at_end, behind_line}
use Rattle.tbl_lines.specs.LinesLeft.{OfRow}
use Rattle.tbl_giving.proofs.LinesGo.{PartCame}
use Rattle.tbl_giving.proofs.PartsNext.{RowFirst}
use Rattle.tbl_giving.proofs.RowsEnded.{HandsOn, another, row-ended}
use Rattle.tbl_giving.proofs.RulesEnded.{drop-within}
use Rattle.tbl_giving.specs.LinesWalked.{HasCome, IsRowOf, KeptLineByLine, LineBegins, LineGone, coming, sheet_by}
use Rattle.tbl_giving.specs.PartsToCome.{ToCome, all_lines}
use Rattle.tbl_picture.specs.Walks.{KeptWalk}
use Rattle.tbl_giving.specs.declared.line_by_line.Place.{Place}
use Rattle.tbl_giving.specs.declared.line_by_line.Place.TheVariants.{AtElement, OnRow}
use Rattle.tbl_tall.specs.TallRows.{KeptTall, RowEnded, RowStands}

-- the first of some elements is a row, which this row of the formats serves
record FirstRow (formats : List FormatRow) (format : FormatRow) (all : List KeptElement) : Type 0 where
  pub row : RowFirst all
  pub serves : format ≡ row_at formats row.keys

first-row : (formats : List FormatRow) (format : FormatRow) (all : List KeptElement) → IsRowOf formats format all → FirstRow formats format all
first-row formats format [] row = absurd row
first-row formats format (Row keys others height entries ∷ kept) row = record {
  row = record { keys = keys; others = others; height = height; entries = entries; kept = kept; is = refl };
  serves = row;
}
first-row formats format (Rule sign ∷ kept) row = absurd row
first-row formats format (Command from to ∷ kept) row = absurd row

module _ (bytes : List ℕ) (formats : List FormatRow) (rows : KeptRows) (g : KeptLineByLine) (room : ℕ)
    (come : HasCome bytes formats rows (record g { place = OnRow }) room) where
  abbrev on : KeptLineByLine
  on = record g { place = OnRow }

  abbrev x : ToCome
  x = coming bytes formats rows on

  first : FirstRow formats come.stands.format (drop g.element rows.elements)
  first = first-row formats come.stands.format (drop g.element rows.elements) come.stands.row

  pub row-within : g.element < length rows.elements
  row-within = drop-within g.element rows.elements (Row first.row.keys first.row.others first.row.height first.row.entries) first.row.kept first.row.is

  pub line-another : (tall : KeptTall) → RowStands bytes (sheet_by rows g) tall come.stands.format (map behind_line x.cells) come.stands.more
      → 0 < tall.lines_left → tall.come ≡ g.tall.come → tall.room ≡ g.tall.room
      → PartCame bytes formats rows on (record g { place = OnRow; tall = tall }) room
  line-another tall stands some ended same =
      let more : come.stands.more ≡ suc (come.stands.more - 1) = omega (arith, some, stands.height) in
      another bytes formats rows g room come first.row tall (come.stands.more - 1)
      more ended same
      (subst (λ (n : ℕ). RowStands bytes (sheet_by rows g) tall come.stands.format (map behind_line x.cells) n) more stands)

  pub line-last : (mid tall : KeptTall) → RowStands bytes (sheet_by rows g) mid come.stands.format (map behind_line x.cells) come.stands.more
      → mid.lines_left ≡ 0
      → (RowStands bytes (sheet_by rows g) g.tall come.stands.format x.cells 1
      → RowEnded bytes (sheet_by rows g) mid (map behind_line x.cells) (OfRow x.cells (bars_at_end (length rows.columns) come.stands.format)))
      → HandsOn bytes formats rows g.element mid tall (sheet_by rows g)
      → tall.come ≡ g.tall.come + 1 → tall.room ≡ g.tall.room
      → PartCame bytes formats rows on (record g { element = suc g.element; place = AtElement; tall = tall }) room
  line-last mid tall stands none ends hands ended same =
      let more : come.stands.more ≡ 0 = sym stands.height ∙ none in
      let one = subst (λ (n : ℕ). RowStands bytes (sheet_by rows g) g.tall come.stands.format x.cells (suc n)) more come.stands.stands in
      row-ended bytes formats rows g room come first.row mid tall more hands
      (subst (λ (f : FormatRow). RowEnded bytes (sheet_by rows g) mid (map behind_line x.cells) (OfRow x.cells (bars_at_end (length rows.columns) f))) first.serves (ends one))
      ended same

-- what was given then, and what comes
module _ {bytes : List ℕ} {formats : List FormatRow} {rows : KeptRows} {g old : KeptLineByLine} {w : KeptWalk} (view : g ≡ old) (is : old.place ≡ OnRow) where
  from-row : {new : KeptLineByLine} {last : KeptWalk} → LineGone bytes formats rows (record g { place = OnRow }) new w last
      → LineGone bytes formats rows old new w last
  from-row {new} {last} gone =
      let place : g.place ≡ OnRow = ap (λ (k : KeptLineByLine). k.place) view ∙ is in
      subst (λ (k : KeptLineByLine). LineGone bytes formats rows k new w last) view
      (subst (λ (p : Place). LineGone bytes formats rows (record g { place = p }) new w last) (sym place) gone)

  pub another-gone : {tall : KeptTall} {new : KeptLineByLine} {last : KeptWalk}
      → PartCame bytes formats rows (record g { place = OnRow }) (record g { place = OnRow; tall = tall }) w.room → tall.room ≡ g.tall.room
      → LineBegins bytes formats rows (record g { place = OnRow; tall = tall }) new w last → LineGone bytes formats rows old new w last
  another-gone came same begins =
      from-row (record {
        can = begins.can;
        same = begins.same ∙ ap (λ (x : ToCome). all_lines (sheet_by rows g) x) came.is;
        room = begins.room;
        own = begins.own ∙ same;
      })

  pub last-gone : {tall : KeptTall} → PartCame bytes formats rows (record g { place = OnRow }) (record g { element = suc g.element; place = AtElement; tall = tall }) w.room
      → tall.room ≡ g.tall.room → LineGone bytes formats rows old (record g { element = g.element + 1; place = AtElement; tall = tall }) w w
  last-gone {tall} came same =
      let one : suc g.element ≡ g.element + 1 = omega arith in
      subst (λ (n : ℕ). LineGone bytes formats rows old (record g { element = n; place = AtElement; tall = tall }) w w) one
      (from-row (record {
        can = record { come = came.come; under = tt };
        same = ap (λ (x : ToCome). all_lines (sheet_by rows g) x) came.is;
        room = refl;
        own = same;
      }))
