-- A table that is laid out: its picture can be given, and no line follows.
use Rattle.std.proofs.Common.{◌≡◌, ℕ, suc, ◌+◌, ◌<◌, ◌≤◌, min, List, [], ◌∷◌, ◌++◌, length, map, take, Option, Some, None, refl, sym, ap, subst, ◌∙◌, arith, append-nil, length-append, take_at}
use Rattle.std.specs.List.{AllByRecursion}
use Rattle.tbl_data.specs.TableData.{ElementEnds}
use Rattle.tbl_data.specs.declared.phase.Phase.{Phase}
use Rattle.tbl_data.specs.declared.phase.Phase.TheVariants.{Bad, InData}
use Rattle.tbl_data.specs.declared.table_data.OpenBlock.{OpenBlock}
use Rattle.tbl_data.specs.declared.table_data.OpenBlock.TheVariants.{Dropped, Kept, Nothing as NoBlock}
use Rattle.tbl_data.specs.declared.table_data.TableData.{TableData}
use Rattle.input_escapes.specs.EscapeTexts.{KeptEscapes}
use Rattle.tbl_format.specs.RowsServed.{all_rows}
use Rattle.tbl_format.specs.Format.{FormatRow}
use Rattle.tbl_format.specs.FormatLaws.{RowHeld}
use Rattle.tbl_format.specs.declared.format.Asked.{Asked}
use Rattle.tbl_format.specs.declared.limits.TblLimits.{TblLimits}
use Rattle.tbl_options.specs.Notes.{NotesWithin}
use Rattle.tbl_options.specs.declared.notes.KeptNote.{KeptNote}
use Rattle.tbl_options.specs.declared.options.Options.{Options}
use Rattle.tbl_kept.specs.Joined.{Joined, behind_joined}
use Rattle.tbl_kept.specs.Rows.{KeptRows, RowsLaid, SameRoom, elements_of}
use Rattle.tbl_kept.specs.TableText.{KeptText, block_of}
use Rattle.tbl_kept.proofs.RowsKeeping.{RowsLaid-more, elements_of-laid-more}
use Rattle.tbl_layout.specs.Columns.{columns_from, equal_widths, gaps, gaps_from, greatest, placed, placed_with, share, spread, total, width_of_all, with_equal, with_widths}
use Rattle.tbl_layout.specs.Entries.{Element}
use Rattle.tbl_layout.specs.LayoutLaws.{StandInOrder}
use Rattle.tbl_layout.specs.Spans.{all_fitted, all_wide, columns_laid, filled}
use Rattle.tbl_layout.specs.Widths.{left_edge, separation, table_bars}
use Rattle.tbl_layout.specs.declared.bars.Bars.{Bars}
use Rattle.tbl_layout.specs.declared.columns.Column.{Column}
use Rattle.tbl_format.proofs.RowsHeld.{read-held}
use Rattle.tbl_layout.proofs.PlacesBetween.{bars-laid, bars-placed_with, bars_of_asked, bars_of_columns, places-between}
use Rattle.tbl_layout.proofs.Spreading.{length-all_fitted}
use Rattle.tbl_layout.proofs.Shares.{share-grows, share-most}
use Rattle.tbl_lines.specs.RowsWalked.{AreNarrow}
use Rattle.tbl_lines.specs.PictureLines.{Sheet}
use Rattle.tbl_table.specs.Kept.{PartsFit, row_open, table_of}
use Rattle.tbl_table.specs.Laying.{IsLaid, body_of, columns_by, lacking_by}
use Rattle.tbl_table.specs.MayTell.{line_may_tell}
use Rattle.tbl_giving.specs.Giving.{HasCells, IsLaidOut}
use Rattle.tbl_lines.specs.RulePlaces.{HavePlaces}
use Rattle.tbl_table.specs.Table.{body_filled, laid_out}
use Rattle.tbl_table.specs.declared.begun.Begun.{Begun}
use Rattle.tbl_table.specs.declared.begun.Begun.TheVariants.{Nothing}
use Rattle.tbl_table.proofs.DataLies.{lies-laid}
use Rattle.tbl_table.proofs.LineEnds.{data-reads}
use Rattle.tbl_table.proofs.RowsPlaced.{rows-have}
use Rattle.tbl_table.proofs.TableFits.{KeysFit-by, behind-len, counted-keys, rooms-by}

-- as many columns as are asked for
length-widths : (asked : List Asked) (columns : List Column) → length (with_widths asked columns) ≡ length columns
length-widths [] columns = refl
length-widths (a ∷ asked) [] = refl
length-widths (a ∷ asked) (c ∷ columns) = ap (λ (n : ℕ). suc n) (length-widths asked columns)

length-equal : (width : ℕ) (asked : List Asked) (columns : List Column) → length (with_equal width asked columns) ≡ length columns
length-equal width [] columns = refl
length-equal width (a ∷ asked) [] = refl
length-equal width (a ∷ asked) (c ∷ columns) = ap (λ (n : ℕ). suc n) (length-equal width asked columns)

length-from : (elements : List Element) (column : ℕ) (asked : List Asked) → length (columns_from elements column asked) ≡ length asked
length-from elements column [] = refl
length-from elements column (a ∷ asked) = ap (λ (n : ℕ). suc n) (length-from elements (suc column) asked)

length-laid : (bars : Bars) (line_length : ℕ) (asked : List Asked) (elements : List Element)
    → length (columns_laid bars line_length asked elements) ≡ length asked
length-laid bars line_length asked elements =
    let all = filled bars line_length asked elements in
    let from = columns_from all 0 asked in
    let alone = with_widths asked from in
    let wide = all_fitted bars asked (all_wide all) alone in
    length-equal (greatest (equal_widths asked wide)) asked wide
    ∙ length-all_fitted bars asked (all_wide all) alone
    ∙ length-widths asked from
    ∙ length-from all 0 asked

length-placed : (place : ℕ) (spaces : List ℕ) (columns : List Column) → length (placed place spaces columns) ≡ length columns
length-placed place [] columns = refl
length-placed place (gap ∷ spaces) [] = refl
length-placed place (gap ∷ spaces) (c ∷ columns) = ap (λ (n : ℕ). suc n) (length-placed (place + gap + c.width) spaces columns)

length-spread : (more all front : ℕ) (spaces : List ℕ) → length (spread more all front spaces) ≡ length spaces
length-spread more all front [] = refl
length-spread more all front (gap ∷ spaces) = ap (λ (n : ℕ). suc n) (length-spread more all (front + gap) spaces)

length-gaps : (bars : Bars) (gap : ℕ) (asked : List Asked) → length (gaps_from bars gap asked) ≡ length asked
length-gaps bars gap [] = refl
length-gaps bars gap (a ∷ asked) = ap (λ (n : ℕ). suc n) (length-gaps bars (separation bars a) asked)

-- each ends where all do, at the most
each-narrow : (most place : ℕ) (spaces : List ℕ) (columns : List Column) → length columns ≤ length spaces
    → place + total spaces + total (map (λ c. c.width) columns) < most → AllByRecursion (λ c. c.start + c.width < most) (placed place spaces columns)
each-narrow most place [] [] short few = tt
each-narrow most place [] (c ∷ columns) short few = absurd (omega (arith, short))
each-narrow most place (gap ∷ spaces) [] short few = tt
each-narrow most place (gap ∷ spaces) (c ∷ columns) short few =
    (omega (arith, few), each-narrow most (place + gap + c.width) spaces columns (omega (arith, short)) (omega (arith, few)))

-- what is spread is no more than there is
spread-most : (more all front : ℕ) (spaces : List ℕ)
    → total (spread more all front spaces) + share more front all ≤ total spaces + share more (front + total spaces) all
spread-most more all front [] =
    let same : share more (front + 0) all ≡ share more front all = ap (λ (n : ℕ). share more n all) (omega arith) in omega (arith, same)
spread-most more all front (gap ∷ spaces) =
    let further = spread-most more all (front + gap) spaces in
    let same : share more (front + gap + total spaces) all ≡ share more (front + (gap + total spaces)) all = ap (λ (n : ℕ). share more n all) (omega arith) in
    omega (arith, further, same, share-grows more front gap all)

spread-all : (more : ℕ) (spaces : List ℕ) → total (spread more (total spaces) 0 spaces) ≤ total spaces + more
spread-all more spaces =
    omega (arith, spread-most more (total spaces) 0 spaces, share-most more (0 + total spaces) (total spaces) (omega arith))

-- columns that end below a place are narrow
pub narrow-parts : (columns : List Column) → AllByRecursion (λ c. c.start + c.width < 4294967296) columns → AreNarrow columns
narrow-parts [] narrow = tt
narrow-parts (c ∷ columns) narrow = (record { end = narrow.0 }, narrow-parts columns narrow.1)

pub placed-narrow : (bars : Bars) (most more : ℕ) (asked : List Asked) (columns : List Column) → length columns ≤ length asked → width_of_all bars columns asked + more < most
    → AllByRecursion (λ c. c.start + c.width < most) (placed_with bars more asked columns)
placed-narrow bars most more asked columns short few =
    let spaces = gaps bars asked in
    each-narrow most (left_edge bars) (spread more (total spaces) 0 spaces) columns
    (omega (arith, short, length-spread more (total spaces) 0 spaces, length-gaps bars 0 asked)) (omega (arith, few, spread-all more spaces))

-- the keys of rows that are held have their cells
cells-held : (front : ℕ) (asked : List Asked) (formats : List FormatRow) → AllByRecursion (RowHeld front asked) formats
    → AllByRecursion HasCells formats
cells-held front asked [] held = tt
cells-held front asked (format ∷ formats) held = (held.0.cells, cells-held front asked formats held.1)

-- a row that isn't begun leaves no block open
pub none-open-by : (pending : Option Joined) (block : OpenBlock) → pending ≡ None → block ≡ NoBlock → row_open pending block ≡ 0
none-open-by None NoBlock none closed = refl
none-open-by None Kept none closed = absurd (cc)
none-open-by None (Dropped had_surplus) none closed = absurd (cc)
none-open-by (Some j) block none closed = absurd (cc)

module _ {l : TblLimits} {phase : Phase} {begun : Begun} {text : KeptText} {d : TableData} (fits : PartsFit l phase begun text d) (is : phase ≡ InData) (none : text.pending ≡ None) (closed : d.open ≡ NoBlock) where
  -- its bytes
  pub settled-is : (n : ℕ) → n ≡ length (text.settled ++ behind_joined text.pending []) → take n (block_of text) ≡ text.settled
  settled-is n n_is =
      let len : n ≡ length text.settled =
      n_is ∙ ap (λ (p : Option Joined). length (text.settled ++ behind_joined p [])) none ∙ ap (λ (xs : List ℕ). length xs) (append-nil text.settled) in
      take_at text.settled (behind_joined text.pending text.line) n (sym len)

  -- its format has a row, and so a column
  some-asked : 0 < length d.format.format.asked
  some-asked =
      let f = d.format.format in
      let served : d.keys < length (all_rows f) = (data-reads fits is).fits.served.serves in
      fits.keys.rows.wide (omega (arith, served, length-append f.earlier f.rows))

  -- it passes as one behind a fault
  pub notes-settled : NotesWithin (length text.settled) d.notes.notes
  notes-settled = (data-reads fits is).fits.notes

  pub laid-fits : (rows : KeptRows) (escapes : KeptEscapes) (told : List KeptNote) → NotesWithin (length text.settled) told
      → SameRoom d.rows rows → AllByRecursion (ElementEnds (length text.settled)) rows.elements
      → PartsFit l Bad Nothing text (record d { rows = rows; escapes = escapes; notes = record d.notes { to_tell = told } })
  laid-fits rows escapes told within rooms lies =
      record {
        rooms = rooms-by fits.rooms rooms.entries rooms.elements rooms.columns refl refl refl;
        bytes = fits.bytes;
        keys = KeysFit-by refl tt (counted-keys fits.keys);
        rows = record {
          entries = omega (arith, ap line_may_tell none);
          elements = omega (arith, none-open-by text.pending d.open none closed);
        };
        messages = record { few = omega (arith, fits.messages.few); telling = within };
        by_phase = record { alone = none; lies = lies; fits = record { closed = closed; notes = notes-settled } };
      }

  module _ (line_length : ℕ) (options : Options) (new : TableData)
      (laid : IsLaid text.settled (table_bars options.boxing d.format.format) line_length d new) where
    abbrev pub bars : Bars
    bars = table_bars options.boxing d.format.format

    pub laid-lies : AllByRecursion (ElementEnds (length text.settled)) new.rows.elements
    laid-lies = lies-laid text.settled (all_rows d.format.format) bars.boxing.is_inside new.rows laid.laid

    count-laid : length new.rows.columns ≡ length d.format.format.asked
    count-laid =
        ap (λ (cs : List Column). length cs) laid.columns ∙ length-laid bars line_length d.format.format.asked (body_of text.settled d)

    -- the rows with their places
    abbrev pub places : ℕ → KeptRows
    places more = record new.rows { columns = placed_with bars more d.format.format.asked new.rows.columns }

    count-placed : (more : ℕ) → length (places more).columns ≡ length d.format.format.asked
    count-placed more =
        length-placed (left_edge bars)
        (spread more (total (gaps bars d.format.format.asked)) 0 (gaps bars d.format.format.asked)) new.rows.columns
        ∙ count-laid

    -- its columns stand in order, with places for all bars
    places-are : (more width : ℕ) → more ≡ lacking_by bars options.expanded line_length text.settled d
        → width ≡ (laid_out line_length (table_of phase options text d)).width
        → HavePlaces (all_rows d.format.format) (record { bars = bars; width = width; columns = (places more).columns })
    places-are more width more_is width_is =
        let asked = d.format.format.asked in
        let columns = columns_by bars line_length text.settled d in
        let table = laid_out line_length (table_of phase options text d) in
        let kept : bars_of_columns columns ≡ bars_of_asked asked = bars-laid bars line_length asked (body_of text.settled d) in
        let columns_are : (places more).columns ≡ table.columns =
        ap (λ (cs : List Column). placed_with bars more asked cs) laid.columns
        ∙ ap (λ (n : ℕ). placed_with bars n asked columns) more_is in
        record {
          order = subst (λ (n : ℕ). StandInOrder bars n (places more).columns) (sym width_is)
              (subst (StandInOrder bars table.width) (sym columns_are) (places-between bars options.expanded line_length asked columns kept));
          rows = rows-have d.format.format.front asked (places more).columns
              (bars-placed_with bars more asked new.rows.columns ∙ ap bars_of_columns laid.columns ∙ kept)
              (all_rows d.format.format) (read-held d.format.format fits.keys.made).rows;
        }

    pub laid-out : (columns more width : ℕ) → columns ≡ min l.columns l.text
        → width_of_all bars new.rows.columns d.format.format.asked + more < 4294967296
        → more ≡ lacking_by bars options.expanded line_length text.settled d
        → width ≡ (laid_out line_length (table_of phase options text d)).width
        → width < 4294967296
        → RowsLaid text.settled (all_rows d.format.format) bars.boxing.is_inside (places more) → IsLaidOut bars width text (places more) d.format columns
    laid-out columns more width columns_is narrow more_is width_is wide rows = record {
      laid = RowsLaid-more text.settled (behind_joined text.pending text.line) (all_rows d.format.format) bars.boxing.is_inside (places more) rows;
      some = omega (arith, some-asked, count-placed more);
      few = omega (
        arith,
        columns_is,
        count-placed more,
        fits.keys.columns,
        fits.keys.asked,
        fits.bytes.few,
      );
      narrow = narrow-parts (places more).columns (placed-narrow bars 4294967296 more d.format.format.asked new.rows.columns (omega (arith, count-laid)) narrow);
      places = places-are more width more_is width_is;
      cells = cells-held d.format.format.front d.format.format.asked (all_rows d.format.format) (read-held d.format.format fits.keys.made).rows;
      wide = wide;
      small = omega (arith, fits.bytes.most, fits.bytes.block, fits.rooms.small, behind-len text.pending text.line, length-append text.settled (behind_joined text.pending text.line), length-append text.settled (behind_joined text.pending []));
    }

    -- whatever is made of its columns and its rows
    pub laid-are : {A : Type 0} (made : Sheet → List Element → A) (width more : ℕ) → more ≡ lacking_by bars options.expanded line_length text.settled d
        → RowsLaid text.settled (all_rows d.format.format) bars.boxing.is_inside (places more)
        → made (record { bars = bars; width = width; columns = (places more).columns }) (elements_of (block_of text) (all_rows d.format.format) (places more).elements)
        ≡ made (record { bars = bars; width = width; columns = (laid_out line_length (table_of phase options text d)).columns })
        (body_filled line_length (table_of phase options text d))
    laid-are made width more more_is rows =
        let asked = d.format.format.asked in
        let body = filled bars line_length asked (body_of text.settled d) in
        let sheet : List Column → Sheet = λ cs. record { bars = bars; width = width; columns = cs } in
        ap (λ (es : List Element). made (sheet (placed_with bars more asked new.rows.columns)) es)
        (elements_of-laid-more text.settled (behind_joined text.pending text.line) (all_rows d.format.format) bars.boxing.is_inside (places more) rows ∙ laid.body)
        ∙ ap (λ (cs : List Column). made (sheet (placed_with bars more asked cs)) body) laid.columns
        ∙ ap (λ (n : ℕ). made (sheet (placed_with bars n asked (columns_by bars line_length text.settled d))) body) more_is
