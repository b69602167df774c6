-- A table in its data that is laid out, gets its places, and is told of: what is known of it by what the calls that do it answer.
use Rattle.std.proofs.Common.{◌≡◌, ℕ, ◌+◌, ◌-◌, ◌<◌, ◌≤◌, ◌^◌, min, Bool, List, [], ◌++◌, length, map, replicate, take, None, Some, sym, ap, subst, ◌∙◌, arith, if◌then◌else◌}
use Rattle.roff_num.specs.declared.limit.Limit.TheVariants.{Width}
use Rattle.std.specs.List.{AllByRecursion}
use Rattle.tbl_data.specs.TableData.{DataFits, ElementEnds, begun_by}
use Rattle.tbl_data.specs.declared.phase.Phase.TheVariants.{Bad, InData}
use Rattle.tbl_data.specs.declared.table_data.OpenBlock.TheVariants.{Nothing as NoBlock}
use Rattle.tbl_data.specs.declared.table_data.TableData.{TableData}
use Rattle.tbl_format.specs.Format.{FormatRow}
use Rattle.tbl_format.specs.RowsServed.{all_rows}
use Rattle.tbl_format.specs.declared.limits.TblLimits.{TblLimits}
use Rattle.tbl_giving.specs.Giving.{IsLaidOut, cuts_laid, lines_laid}
use Rattle.tbl_kept.specs.Joined.{behind_joined}
use Rattle.tbl_kept.specs.Rows.{KeptRows, RowsLaid, SameRoom}
use Rattle.tbl_kept.specs.TableText.{KeptText, block_of}
use Rattle.tbl_layout.specs.Columns.{width_of_all}
use Rattle.tbl_layout.specs.KeptEntries.{content_of}
use Rattle.tbl_layout.specs.Widths.{table_bars}
use Rattle.tbl_layout.specs.declared.bars.Bars.{Bars}
use Rattle.tbl_layout.specs.declared.columns.Column.{Column}
use Rattle.tbl_lines.specs.CutEntries.{cut_entries}
use Rattle.tbl_lines.specs.PictureLeft.{table_lines}
use Rattle.tbl_options.specs.Notes.{NotesWithin, cut_note, told_at, told_of_all}
use Rattle.tbl_options.specs.declared.message.Message.TheVariants.{EntryCut}
use Rattle.tbl_table.specs.Kept.{PartsFit, table_of}
use Rattle.tbl_table.specs.Laying.{IsLaid, lacking_by, laid_by, with_places}
use Rattle.tbl_table.specs.Steps.{width_met, with_cut}
use Rattle.tbl_table.specs.Table.{TableRead, body_filled, cut_told, laid_out, sheet_of}
use Rattle.tbl_table.specs.declared.begun.Begun.TheVariants.{Nothing}
use Rattle.tbl_table.specs.declared.table.Table.TheInside.{Inside}
use Rattle.tbl_table.proofs.LaidTables.{laid-are, laid-fits, laid-lies, laid-out, notes-settled, places, settled-is}
use Rattle.tbl_table.proofs.LineEnds.{data-reads}
use Rattle.tbl_table.proofs.NotesKept.{NotesWithin-cuts, cuts-said}
use Rattle.tbl_table.proofs.TableEnds.{none-begun-open, none-test, over-test, within-test}

-- it is laid out: its bars, how wide it is, and how many columns of the page are spread
pub record IsLaidHere (a : Inside) (line_length : ℕ) (b : Bars) (new : TableData) (wide spread : ℕ) : Type 0 where
  pub fits : PartsFit a.limits a.phase a.begun a.text a.kept
  pub is : a.phase ≡ InData
  pub none : a.text.pending ≡ None
  pub closed : a.kept.open ≡ NoBlock
  pub bars : b ≡ table_bars a.options.boxing a.kept.format.format
  pub laid : IsLaid a.text.settled (table_bars a.options.boxing a.kept.format.format) line_length a.kept new
  pub width : wide ≡ min (laid_by (table_bars a.options.boxing a.kept.format.format) a.options.expanded line_length a.text.settled a.kept).width (2 ^ 64 - 1)
  pub more : spread ≡ lacking_by (table_bars a.options.boxing a.kept.format.format) a.options.expanded line_length a.text.settled a.kept

-- it is within the limit, and its columns have their places
pub record IsPlacedHere (l : TblLimits) (b : Bars) (new : TableData) (wide more : ℕ) (set : TableData) : Type 0 where
  pub few : wide ≤ l.width
  pub value : set ≡ with_places b more new
  pub laid : (bytes : List ℕ) (formats : List FormatRow) (is_inside : Bool) → RowsLaid bytes formats is_inside new.rows
      → RowsLaid bytes formats is_inside set.rows

-- its messages are to tell, with those of entries that are cut
abbrev pub IsToldHere : KeptText → Bars → ℕ → TableData → ℕ → TableData → Type 0
IsToldHere text b wide set number kept =
    kept ≡ record set { notes = with_cut number (cuts_laid b wide text set.rows set.format) set.notes; escapes = kept.escapes }

module _ (a : Inside) (fits : PartsFit a.limits a.phase a.begun a.text a.kept) (is : a.phase ≡ InData) (none : a.text.pending ≡ None) (rests : begun_by a.kept.open (map (content_of a.text.settled) a.kept.rows.row) ≡ None) (from : ℕ) (block : List ℕ) (from_is : from ≡ length (a.text.settled ++ behind_joined a.text.pending [])) (block_is : block ≡ block_of a.text) where
  closed-block : a.kept.open ≡ NoBlock
  closed-block = none-begun-open a.kept.open (map (content_of a.text.settled) a.kept.rows.row) rests

  -- the bytes that it lies in
  bytes-settled : take from block ≡ a.text.settled
  bytes-settled = ap (λ (xs : List ℕ). take from xs) block_is ∙ settled-is fits is none closed-block from from_is

  pub fits-bytes : DataFits (take from block) a.kept
  fits-bytes = subst (λ (xs : List ℕ). DataFits xs a.kept) (sym bytes-settled) (data-reads fits is).fits

  pub laid-here : {line_length : ℕ} {b : Bars} {new : TableData} {wide more : ℕ} → b ≡ table_bars a.options.boxing a.kept.format.format
      → IsLaid (take from block) b line_length a.kept new
      → wide ≡ min (laid_by b a.options.expanded line_length (take from block) a.kept).width (2 ^ 64 - 1)
      → more ≡ lacking_by b a.options.expanded line_length (take from block) a.kept
      → IsLaidHere a line_length b new wide more
  laid-here b_is laid wide_is more_is =
      let slice : take from block ≡ a.text.settled = bytes-settled in
      record {
        fits = fits;
        is = is;
        none = none;
        closed = closed-block;
        bars = b_is;
        laid = rw (slice, b_is) at laid;
        width = rw (slice, b_is) at wide_is;
        more = rw (slice, b_is) at more_is;
      }

module _ {a : Inside} {line_length : ℕ} {b : Bars} {new : TableData} {wide more : ℕ} (here : IsLaidHere a line_length b new wide more) where
  abbrev bars : Bars
  bars = table_bars a.options.boxing a.kept.format.format

  abbrev table : TableRead
  table = table_of a.phase a.options a.text a.kept

  -- the limit on its width
  pub over-limit : a.limits.width < wide → width_met a.limits.width (laid_out line_length table).width ≡ Some Width
  over-limit over =
      ap (λ (t : Bool). if t then Some Width else None) (over-test a.limits.width (laid_out line_length table).width wide here.fits.rooms.wide here.width over)

  pub within-limit : wide ≤ a.limits.width → width_met a.limits.width (laid_out line_length table).width ≡ None
  within-limit few =
      ap (λ (t : Bool). if t then Some Width else None) (none-test a.limits.width (laid_out line_length table).width wide here.fits.rooms.wide here.width few)

  whole-width : wide ≤ a.limits.width → (laid_out line_length table).width ≤ a.limits.width
  whole-width few = within-test a.limits.width (laid_out line_length table).width wide here.fits.rooms.wide here.width few

  pub width-is : wide ≤ a.limits.width → wide ≡ (laid_out line_length table).width
  width-is few = omega (arith, here.width, whole-width few, here.fits.rooms.wide)

  lies : AllByRecursion (ElementEnds (length a.text.settled)) new.rows.elements
  lies = laid-lies here.fits here.is here.none here.closed line_length a.options new here.laid

  notes-lie : NotesWithin (length a.text.settled) a.kept.notes.notes
  notes-lie = notes-settled here.fits here.is here.none here.closed

  -- where it is cut
  pub cut-fits : PartsFit a.limits Bad Nothing a.text (record new { notes = record new.notes { to_tell = new.notes.notes } })
  cut-fits =
      subst (λ (e : TableData). PartsFit a.limits Bad Nothing a.text (record e { notes = record e.notes { to_tell = e.notes.notes } })) (sym here.laid.same)
      (laid-fits here.fits here.is here.none here.closed new.rows new.escapes a.kept.notes.notes notes-lie here.laid.rooms lies)

  module _ {set : TableData} (placed : IsPlacedHere a.limits b new wide more set) where
    abbrev rows : KeptRows
    rows = places here.fits here.is here.none here.closed line_length a.options new here.laid more

    set-is : set ≡ record a.kept { rows = rows; escapes = new.escapes }
    set-is =
        let value : set ≡ with_places bars more new = rw here.bars at placed.value in
        value ∙ ap (λ (e : TableData). with_places bars more e) here.laid.same

    rows-set : RowsLaid a.text.settled (all_rows a.kept.format.format) bars.boxing.is_inside rows
    rows-set =
        subst (λ (e : TableData). RowsLaid a.text.settled (all_rows a.kept.format.format) bars.boxing.is_inside e.rows) set-is
        (placed.laid a.text.settled (all_rows a.kept.format.format) bars.boxing.is_inside here.laid.laid)

    narrow : width_of_all bars new.rows.columns a.kept.format.format.asked + more < 4294967296
    narrow =
        omega (arith, whole-width placed.few, here.fits.rooms.wide, here.more, ap (λ (cs : List Column). width_of_all bars cs a.kept.format.format.asked) here.laid.columns)

    laid-rows : (columns : ℕ) → columns ≡ min a.limits.columns a.limits.text → IsLaidOut b wide a.text rows a.kept.format columns
    laid-rows columns columns_is =
        subst (λ (x : Bars). IsLaidOut x wide a.text rows a.kept.format columns) (sym here.bars)
        (laid-out here.fits here.is here.none here.closed line_length a.options new here.laid columns more wide columns_is narrow here.more
        (width-is placed.few) (omega (arith, placed.few, here.fits.rooms.wide)) rows-set)

    pub can-tell : (columns : ℕ) → columns ≡ min a.limits.columns a.limits.text → IsLaidOut b wide a.text set.rows set.format columns
    can-tell columns columns_is =
        subst (λ (e : TableData). IsLaidOut b wide a.text e.rows e.format columns) (sym set-is) (laid-rows columns columns_is)

    module _ (number : ℕ) (kept : TableData) (told : IsToldHere a.text b wide set number kept) where
      kept-is : kept ≡ record a.kept { rows = rows; notes = with_cut number (cuts_laid b wide a.text rows a.kept.format) a.kept.notes; escapes = kept.escapes }
      kept-is =
          told
          ∙ ap (λ (e : TableData). record e { notes = with_cut number (cuts_laid b wide a.text e.rows e.format) e.notes; escapes = kept.escapes }) set-is

      pub can-give : (columns : ℕ) → columns ≡ min a.limits.columns a.limits.text → IsLaidOut b wide a.text kept.rows kept.format columns
      can-give columns columns_is =
          subst (λ (e : TableData). IsLaidOut b wide a.text e.rows e.format columns) (sym kept-is) (laid-rows columns columns_is)

      pub given-fits : PartsFit a.limits Bad Nothing a.text kept
      given-fits =
          let rooms : SameRoom a.kept.rows rows = record { entries = here.laid.rooms.entries; elements = here.laid.rooms.elements; columns = here.laid.rooms.columns } in
          let cut = cuts_laid b wide a.text rows a.kept.format in
          subst (λ (e : TableData). PartsFit a.limits Bad Nothing a.text e) (sym kept-is)
          (laid-fits here.fits here.is here.none here.closed rows kept.escapes (a.kept.notes.notes ++ replicate cut (cut_note number))
          (NotesWithin-cuts (length a.text.settled) number cut a.kept.notes.notes notes-lie) rooms lies)

      -- what is made of it is made of the table
      cuts-of : cuts_laid b wide a.text rows a.kept.format ≡ cut_entries (sheet_of line_length table) (body_filled line_length table)
      cuts-of =
          ap (λ (x : Bars). cuts_laid x wide a.text rows a.kept.format) here.bars
          ∙ ap (λ (n : ℕ). cuts_laid bars n a.text rows a.kept.format) (width-is placed.few)
          ∙ laid-are here.fits here.is here.none here.closed line_length a.options new here.laid cut_entries (laid_out line_length table).width more here.more rows-set

      pub cuts-told : told_of_all a.text.settled kept.notes.to_tell ≡ told_of_all a.text.settled a.kept.notes.notes ++ cut_told number line_length table
      cuts-told =
          ap (λ (e : TableData). told_of_all a.text.settled e.notes.to_tell) kept-is
          ∙ cuts-said a.text.settled a.kept.notes.notes number (cuts_laid b wide a.text rows a.kept.format)
          ∙ ap (λ (n : ℕ). told_of_all a.text.settled a.kept.notes.notes ++ replicate n (told_at number EntryCut)) cuts-of

      pub lines-given : lines_laid b wide a.text kept.rows kept.format ≡ table_lines (sheet_of line_length table) (body_filled line_length table)
      lines-given =
          ap (λ (e : TableData). lines_laid b wide a.text e.rows e.format) kept-is
          ∙ ap (λ (x : Bars). lines_laid x wide a.text rows a.kept.format) here.bars
          ∙ ap (λ (n : ℕ). lines_laid bars n a.text rows a.kept.format) (width-is placed.few)
          ∙ laid-are here.fits here.is here.none here.closed line_length a.options new here.laid table_lines (laid_out line_length table).width more here.more rows-set
