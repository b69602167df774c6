-- Behind a line of a row of a picture with cells of several rows.
use Rattle.std.proofs.Common.{◌≡◌, ℕ, suc, ◌+◌, ◌-◌, ◌<◌, true, List, [], ◌∷◌, drop, get_or, length, map, sym, ap, subst, ◌∙◌, arith}
use Rattle.tbl_format.specs.Format.{FormatRow}
use Rattle.tbl_format.specs.RowsServed.{row_at}
use Rattle.tbl_kept.specs.Rows.{KeptElement, KeptRows, Row, elements_of, fields_of, heights_of}
use Rattle.tbl_kept.specs.RowsLaying.{element_at}
use Rattle.tbl_layout.specs.Entries.{Content, Element, Row as OneRow}
use Rattle.tbl_layout.specs.declared.entry.Entry.{Entry}
use Rattle.tbl_lines.specs.CellsLeft.{Left, bars_at_end, behind_line, cells_next}
use Rattle.tbl_lines.specs.LinesLeft.{Beside, OfRow}
use Rattle.tbl_lines.specs.PictureLines.{Sheet, boxed_from}
use Rattle.tbl_giving.proofs.BoxedNow.{fresh, fresh-heights, kept-heights}
use Rattle.tbl_giving.proofs.CutsAtElements.{element-is}
use Rattle.tbl_giving.proofs.LinesGo.{PartCame, part-came}
use Rattle.tbl_giving.proofs.PartsNext.{RowFirst}
use Rattle.tbl_giving.proofs.RulesEnded.{drop-next, drop-within}
use Rattle.tbl_giving.specs.LinesWalked.{HasCome, KeptLineByLine, StandsNext, boxed_now, coming, heights_left, heights_now, sheet_by}
use Rattle.tbl_giving.specs.PartsToCome.{HasPart, HasPartBy, ToCome, behind_by, behind_part, behind_row_line}
use Rattle.tbl_giving.specs.declared.line_by_line.Place.TheVariants.{AtElement, OnRow}
use Rattle.tbl_tall.specs.Bands.{keys_left, wholes_left}
use Rattle.tbl_tall.specs.LinesOver.{heights_kept}
use Rattle.tbl_tall.specs.TallRows.{Comes, KeptTall, RowEnded, RowStands, wholes_in_front}

-- the row behind one that has ended comes
abbrev pub HandsOn : List ℕ → List FormatRow → KeptRows → ℕ → KeptTall → KeptTall → Sheet → Type 0
HandsOn bytes formats rows element old new s = (cells : List Left) (above : Beside) (keys rules height : ℕ) (entries : List Entry)
    → element_at rows.elements element ≡ Row keys rules height entries → RowEnded bytes s old cells above
    → let more = drop (suc element) rows.elements in
    let rest = boxed_from s.bars.boxing true (elements_of bytes formats more) in
    Comes bytes formats s new (heights_kept more) (cells_next (length s.columns) (row_at formats keys).keys cells (heights_kept more) rest) above rest

module _ (bytes : List ℕ) (formats : List FormatRow) (rows : KeptRows) (g : KeptLineByLine) (room : ℕ) where
  abbrev on : KeptLineByLine
  on = record g { place = OnRow }

  abbrev s : Sheet
  s = sheet_by rows g

  module _ (come : HasCome bytes formats rows on room) (row : RowFirst (drop g.element rows.elements)) where
    abbrev x : ToCome
    x = coming bytes formats rows on

    abbrev fields : List Content
    fields = fields_of bytes (row_at formats row.keys) row.entries

    abbrev rest : List Element
    rest = boxed_from g.bars.boxing true (elements_of bytes formats row.kept)

    elements : x.elements ≡ OneRow [] (row_at formats row.keys) fields ∷ rest
    elements = come.elements ∙ ap (λ (es : List KeptElement). boxed_now g.bars.boxing bytes formats 0 [] es) row.is

    heights : x.heights ≡ g.tall.lines_left ∷ heights_of row.kept
    heights = come.heights ∙ ap (λ (es : List KeptElement). heights_now g.tall.lines_left es) row.is

    lines : g.tall.lines_left ≡ suc come.stands.more
    lines = come.stands.stands.height

    has : HasPart x
    has = subst (λ (es : List Element). HasPartBy x.heights es) (sym elements)
        (subst (λ (hs : List ℕ). 0 < get_or hs 0 0) (sym heights) (omega (arith, lines)))

    -- what is to come behind the line
    behind : behind_part s x ≡ behind_row_line s come.stands.more (heights_of row.kept) x.cells x.above (row_at formats row.keys) fields rest
    behind =
        let more : g.tall.lines_left - 1 ≡ come.stands.more = omega (arith, lines) in
        ap (λ (es : List Element). behind_by s x.heights x.cells x.above es) elements
        ∙ ap (λ (hs : List ℕ). behind_row_line s (get_or hs 0 0 - 1) (drop 1 hs) x.cells x.above (row_at formats row.keys) fields rest) heights
        ∙ ap (λ (n : ℕ). behind_row_line s n (heights_of row.kept) x.cells x.above (row_at formats row.keys) fields rest) more

    -- another line of it
    pub another : (tall : KeptTall) (more : ℕ) → come.stands.more ≡ suc more → tall.come ≡ g.tall.come → tall.room ≡ g.tall.room
        → RowStands bytes s tall come.stands.format (map behind_line x.cells) (suc more)
        → PartCame bytes formats rows on (record g { place = OnRow; tall = tall }) room
    another tall more some ended same stands =
        let new = record g { place = OnRow; tall = tall } in
        let all = behind ∙ ap (λ (n : ℕ). behind_row_line s n (heights_of row.kept) x.cells x.above (row_at formats row.keys) fields rest) some in
        part-came bytes formats rows on room g.element OnRow tall come has come.element (omega (arith, ended, come.ended)) same
        (ap (λ (es : List KeptElement). boxed_now g.bars.boxing bytes formats 0 [] es) row.is ∙ ap (λ (z : ToCome). z.elements) (sym all))
        (ap (λ (es : List KeptElement). heights_now tall.lines_left es) row.is ∙ ap (λ (n : ℕ). n ∷ heights_of row.kept) stands.height
        ∙ ap (λ (z : ToCome). z.heights) (sym all))
        (subst (λ (z : ToCome). StandsNext OnRow bytes formats rows new z) (sym all)
        (record { format = come.stands.format; row = come.stands.row; more = more; stands = stands }))

    -- the row has ended
    pub row-ended : (mid tall : KeptTall) → come.stands.more ≡ 0 → HandsOn bytes formats rows g.element mid tall s
        → RowEnded bytes s mid (map behind_line x.cells) (OfRow x.cells (bars_at_end (length rows.columns) (row_at formats row.keys)))
        → tall.come ≡ g.tall.come + 1 → tall.room ≡ g.tall.room
        → PartCame bytes formats rows on (record g { element = suc g.element; place = AtElement; tall = tall }) room
    row-ended mid tall none hands ended come_more same =
        let new = record g { element = suc g.element; place = AtElement; tall = tall } in
        let boxing = g.bars.boxing in
        let next : drop (suc g.element) rows.elements ≡ row.kept = drop-next g.element rows.elements (Row row.keys row.others row.height row.entries) row.kept row.is in
        let above = OfRow x.cells (bars_at_end (length rows.columns) (row_at formats row.keys)) in
        let at = element-is rows.elements g.element (Row row.keys row.others row.height row.entries) row.kept row.is in
        let comes = hands (map behind_line x.cells) above row.keys row.others row.height row.entries at ended in
        let comes_kept = subst (λ (es : List KeptElement). let all = boxed_from boxing true (elements_of bytes formats es) in
        Comes bytes formats s tall (heights_kept es) (cells_next (length s.columns) (row_at formats row.keys).keys (map behind_line x.cells) (heights_kept es) all) above all)
        next comes in
        let front = subst (λ (hs : List ℕ).
        Comes bytes formats s tall hs (cells_next (length s.columns) (row_at formats row.keys).keys (map behind_line x.cells) hs rest) above rest)
        (kept-heights row.kept) comes_kept in
        let all = behind ∙ ap (λ (n : ℕ). behind_row_line s n (heights_of row.kept) x.cells x.above (row_at formats row.keys) fields rest) none in
        let heights_new : heights_left rows new ≡ heights_of row.kept =
        ap (λ (es : List KeptElement). heights_now tall.lines_left es) next
        ∙ ap (λ (n : ℕ). heights_now n row.kept) front.height ∙ fresh-heights boxing bytes formats true row.kept in
        part-came bytes formats rows on room (suc g.element) AtElement tall come has
        (drop-within g.element rows.elements (Row row.keys row.others row.height row.entries) row.kept row.is) (omega (arith, come_more, come.ended)) same
        (ap (λ (es : List KeptElement). boxed_now boxing bytes formats (wholes_left tall.band) (keys_left formats tall.band) es) next
        ∙ ap (λ (n : ℕ). boxed_now boxing bytes formats n (keys_left formats tall.band) row.kept) front.wholes
        ∙ ap (λ (rs : List FormatRow). boxed_now boxing bytes formats (wholes_in_front rest) rs row.kept) front.rules
        ∙ fresh boxing bytes formats true row.kept ∙ ap (λ (z : ToCome). z.elements) (sym all))
        (heights_new ∙ ap (λ (z : ToCome). z.heights) (sym all))
        (subst (λ (z : ToCome). StandsNext AtElement bytes formats rows new z) (sym all)
        (record { comes = front; whole = heights_new ∙ ap (λ (es : List KeptElement). heights_of es) (sym next) }))
