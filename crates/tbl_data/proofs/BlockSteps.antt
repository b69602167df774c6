-- The lines of text blocks of the data, as they are kept.
use Rattle.std.proofs.Common.{◌≡◌, ◌≢◌, ◌==◌, ℕ, suc, ◌+◌, ◌-◌, Bool, true, false, List, [], ◌∷◌, ◌++◌, length, map, get_or, Some, refl, sym, ap, subst, ◌∙◌, arith, append-nil, length-append, All, is_some, option_map}
use Rattle.std.specs.List.{slice_range}
use Rattle.std.proofs.lemmas.List.{map-append}
use Rattle.input_source.specs.Bytes.{newline}
use Rattle.tbl_data.specs.DataRead.{fields_with_block, with_text}
use Rattle.tbl_data.specs.LineTaken.{LineLies, Makes, contents_in, left_from, row_begun, text_made}
use Rattle.tbl_data.specs.OpenBlocks.{had_surplus}
use Rattle.tbl_data.specs.TableData.{DataFits, EndsInBlock, LastEndsAt, OpenBehind, OpenEndsAt, OpenFits, StandsBehind, begun_by, row_with_block, table_by}
use Rattle.tbl_data.specs.TableRead.{RowBegun}
use Rattle.tbl_data.specs.declared.data_line.DataLine.{DataLine}
use Rattle.tbl_data.specs.declared.phase.Phase.TheVariants.{InData}
use Rattle.tbl_data.specs.declared.table_data.OpenBlock.{OpenBlock}
use Rattle.tbl_data.specs.declared.table_data.OpenBlock.TheVariants.{Dropped, Kept, Nothing}
use Rattle.tbl_data.specs.declared.table_data.TableData.{TableData}
use Rattle.tbl_data.proofs.EndsKept.{changed-ends}
use Rattle.tbl_data.proofs.LineFields.{grows-same}
use Rattle.tbl_data.proofs.RowSteps.{block-last}
use Rattle.tbl_format.specs.Format.{FormatRow}
use Rattle.tbl_format.specs.RowsServed.{all_rows, row_at}
use Rattle.tbl_format.specs.declared.format.Key.{Key}
use Rattle.tbl_kept.proofs.KeptFields.{AreOpened-kept}
use Rattle.tbl_kept.proofs.RowsKeeping.{RowBegunKept-block_end, contents-block_end}
use Rattle.tbl_kept.specs.Rows.{AreKept, last_changed, with_block_end}
use Rattle.tbl_kept.specs.RowsGrowing.{BlockGrows, with_line}
use Rattle.tbl_kept.specs.RowsLaying.{AreOpened, IsOpenedKind}
use Rattle.tbl_kept.specs.TableText.{KeptText, block_of}
use Rattle.tbl_layout.specs.Entries.{Block, Content}
use Rattle.tbl_layout.specs.KeptEntries.{IsBlock, IsKeptBy, IsOpened, block_lines, content_by, content_of, with_end}
use Rattle.tbl_layout.specs.declared.entry.BlockEntry.{BlockEntry}
use Rattle.tbl_layout.specs.declared.entry.Entry.{Entry}
use Rattle.tbl_layout.specs.declared.entry.EntryKind.{EntryKind}
use Rattle.tbl_layout.specs.declared.entry.EntryKind.TheVariants.{Above as AboveKind, Block as BlockKind, Repeated as RepeatedKind, Ruled as RuledKind, Short as ShortKind, Split as SplitKind, Text as TextKind}

-- the block that is the last of a row's fields, and those in front of it
record LastBlock (row : List Entry) : Type 0 where
  front : List Entry
  last : Entry
  is : row ≡ front ++ last ∷ []
  block : IsBlock last.kind

last-block : (row : List Entry) → EndsInBlock row → LastBlock row
last-block [] ends = absurd ends
last-block (e ∷ []) ends = record { front = []; last = e; is = refl; block = ends }
last-block (e ∷ next ∷ row) ends =
    let more = last-block (next ∷ row) ends in
    record { front = e ∷ more.front; last = more.last; is = ap (λ (es : List Entry). e ∷ es) more.is; block = more.block }

-- where it ends
last-ends : (front : List Entry) (e : Entry) (place : ℕ) → LastEndsAt place (front ++ e ∷ []) → e.to ≡ place
last-ends [] e place ends = ends
last-ends (f ∷ []) e place ends = ends
last-ends (f ∷ next ∷ front) e place ends = last-ends (next ∷ front) e place ends

ends-last : (front : List Entry) (e : Entry) (place : ℕ) → e.to ≡ place → LastEndsAt place (front ++ e ∷ [])
ends-last [] e place is = is
ends-last (f ∷ []) e place is = is
ends-last (f ∷ next ∷ front) e place is = ends-last (next ∷ front) e place is

block-behind : (front : List Entry) (e : Entry) → IsBlock e.kind → EndsInBlock (front ++ e ∷ [])
block-behind [] e block = block
block-behind (f ∷ []) e block = block
block-behind (f ∷ next ∷ front) e block = block-behind (next ∷ front) e block

changed-last : (change : Entry → Entry) (front : List Entry) (e : Entry) → last_changed change (front ++ e ∷ []) ≡ front ++ change e ∷ []
changed-last change [] e = refl
changed-last change (f ∷ []) e = refl
changed-last change (f ∷ next ∷ front) e = ap (λ (es : List Entry). f ∷ es) (changed-last change (next ∷ front) e)

-- it is kept as it was read
opened-by : (kind : EntryKind) (bytes : List ℕ) (key : Key) (e : Entry) → IsKeptBy kind bytes key e → IsBlock kind → IsOpened bytes e
opened-by (TextKind glyphs width) bytes key e kept block = absurd block
opened-by (SplitKind s) bytes key e kept block = absurd block
opened-by (BlockKind b) bytes key e kept block = kept
opened-by (RuledKind sign) bytes key e kept block = absurd block
opened-by ShortKind bytes key e kept block = absurd block
opened-by (RepeatedKind b) bytes key e kept block = absurd block
opened-by AboveKind bytes key e kept block = absurd block

last-opened : (bytes : List ℕ) (format : FormatRow) (column : ℕ) (front : List Entry) (e : Entry) → AreKept bytes format column (front ++ e ∷ []) → IsBlock e.kind → IsOpened bytes e
last-opened bytes format column [] e kept block = opened-by e.kind bytes _ e kept.0 block
last-opened bytes format column (f ∷ front) e kept block = last-opened bytes format (suc column) front e kept.1 block

content-block : (kind : EntryKind) (bytes : List ℕ) (from to : ℕ) → IsBlock kind → IsOpenedKind kind
    → content_by kind bytes from to ≡ Block 0 (block_lines bytes from to)
content-block (TextKind glyphs width) bytes from to block opened = absurd block
content-block (SplitKind s) bytes from to block opened = absurd block
content-block (BlockKind b) bytes from to block opened = ap (λ (o : BlockEntry). Block o.measure (block_lines bytes from to)) opened
content-block (RuledKind sign) bytes from to block opened = absurd block
content-block ShortKind bytes from to block opened = absurd block
content-block (RepeatedKind b) bytes from to block opened = absurd block
content-block AboveKind bytes from to block opened = absurd block

-- the last of fields of which no block is filled
last-unfilled : (front : List Entry) (e : Entry) → AreOpened (front ++ e ∷ []) → IsOpenedKind e.kind
last-unfilled [] e opened = opened.0
last-unfilled (f ∷ front) e opened = last-unfilled front e opened.1

-- a row that ends in a block, by its fields
module _ (bytes : List ℕ) (row : List Entry) (ends : EndsInBlock row) (opened : AreOpened row) where
  abbrev split : LastBlock row
  split = last-block row ends

  abbrev lines : List (List ℕ)
  lines = block_lines bytes split.last.from split.last.to

  last-opened-kind : IsOpenedKind split.last.kind
  last-opened-kind = last-unfilled split.front split.last (subst AreOpened split.is opened)

  contents-split : map (content_of bytes) row ≡ map (content_of bytes) split.front ++ Block 0 lines ∷ []
  contents-split =
      ap (map (content_of bytes)) split.is
      ∙ map-append (content_of bytes) split.front (split.last ∷ [])
      ∙ ap (λ (c : Content). map (content_of bytes) split.front ++ c ∷ []) (content-block split.last.kind bytes split.last.from split.last.to split.block last-opened-kind)

  row-split : row_with_block (map (content_of bytes) row) ≡ record { fields = map (content_of bytes) split.front; block = Some lines; had_surplus = false }
  row-split = ap row_with_block contents-split ∙ block-last (map (content_of bytes) split.front) 0 lines

  pub kept-contents : fields_with_block (row_with_block (map (content_of bytes) row)) ≡ map (content_of bytes) row
  kept-contents = ap fields_with_block row-split ∙ sym contents-split

  pub kept-some : is_some (row_with_block (map (content_of bytes) row)).block ≡ true
  kept-some = ap (λ (r : RowBegun). is_some r.block) row-split

  pub kept-surplus : (row_with_block (map (content_of bytes) row)).had_surplus ≡ false
  kept-surplus = ap (λ (r : RowBegun). r.had_surplus) row-split

-- what a row is of which a block is open, when that ends
pub begun-contents : (o : OpenBlock) (bytes : List ℕ) (row : List Entry) → OpenFits o row → AreOpened row → o ≢ Nothing
    → fields_with_block (row_begun o (map (content_of bytes) row)) ≡ map (content_of bytes) row
begun-contents Nothing bytes row fits opened some = absurd (some refl)
begun-contents Kept bytes row fits opened some = kept-contents bytes row fits opened
begun-contents (Dropped had) bytes row fits opened some = append-nil (map (content_of bytes) row)

pub begun-surplus : (o : OpenBlock) (bytes : List ℕ) (row : List Entry) → OpenFits o row → AreOpened row → o ≢ Nothing
    → (row_begun o (map (content_of bytes) row)).had_surplus ≡ had_surplus o
begun-surplus Nothing bytes row fits opened some = absurd (some refl)
begun-surplus Kept bytes row fits opened some = kept-surplus bytes row fits opened
begun-surplus (Dropped had) bytes row fits opened some = refl

pub begun-kept : (o : OpenBlock) (bytes : List ℕ) (row : List Entry) → OpenFits o row → AreOpened row → o ≡ Kept
    → is_some (row_begun o (map (content_of bytes) row)).block ≡ true
begun-kept Nothing bytes row fits opened is = absurd (cc)
begun-kept Kept bytes row fits opened is = kept-some bytes row fits opened
begun-kept (Dropped had) bytes row fits opened is = absurd (cc)

pub begun-some : (o : OpenBlock) (contents : List Content) → o ≢ Nothing → begun_by o contents ≡ Some (row_begun o contents)
begun-some Nothing contents some = absurd (some refl)
begun-some Kept contents some = refl
begun-some (Dropped had) contents some = refl

-- no block of the row is filled
pub row-unfilled : (bytes : List ℕ) (d : TableData) → DataFits bytes d → AreOpened d.rows.row
row-unfilled bytes d fits = AreOpened-kept bytes (row_at (all_rows d.format.format) d.keys) 0 d.rows.row fits.kept.row

-- the block that is kept has a line more
module _ (k : KeptText) (line : DataLine) (lies : LineLies (block_of k) line) (plain : All (λ b. (b == newline) ≡ false) (left_from k line line.from)) (d : TableData) (fits : DataFits (block_of k) d) where
  module _ (open_is : d.open ≡ Kept) where
    abbrev bytes : List ℕ
    bytes = block_of k

    abbrev row : List Entry
    row = d.rows.row

    ends-block : EndsInBlock row
    ends-block = subst (λ (o : OpenBlock). OpenFits o row) open_is fits.block

    unfilled : AreOpened row
    unfilled = row-unfilled bytes d fits

    abbrev parts : LastBlock row
    parts = last-block row ends-block

    behind-is : OpenBehind bytes line.from d.open row → StandsBehind bytes line.from row
    behind-is behind = subst (λ (o : OpenBlock). OpenBehind bytes line.from o row) open_is behind

    module _ (behind : OpenBehind bytes line.from d.open row) where
      abbrev stands : StandsBehind bytes line.from row
      stands = behind-is behind

      ends-there : parts.last.to ≡ line.from - 1
      ends-there = last-ends parts.front parts.last (line.from - 1) (subst (λ (es : List Entry). LastEndsAt (line.from - 1) es) parts.is stands.ends)

      opened : IsOpened bytes parts.last
      opened = last-opened bytes (row_at (all_rows d.format.format) d.keys) 0 parts.front parts.last
          (subst (λ (es : List Entry). AreKept bytes (row_at (all_rows d.format.format) d.keys) 0 es) parts.is fits.kept.row) parts.block

      begins : parts.last.to + 1 ≡ line.from
      begins = omega (arith, ends-there, stands.some)

      grows : BlockGrows bytes parts.last line.to
      grows = record {
        is = opened.is;
        order = opened.lies.order;
        more = omega (arith, ends-there, stands.some, lies.order);
        within = lies.within;
        ended = ap (λ (n : ℕ). get_or bytes n 0) ends-there ∙ stands.newline;
        line = subst (λ (n : ℕ). All (λ b. (b == newline) ≡ false) (slice_range bytes n line.to)) (sym begins) plain;
      }

      abbrev text : List ℕ
      text = left_from k line line.from

      abbrev contents : List Content
      contents = map (content_of bytes) parts.front

      abbrev old_lines : List (List ℕ)
      old_lines = block_lines bytes parts.last.from parts.last.to

      row-more : row_with_block (map (content_of bytes) (with_block_end line.to d.rows).row) ≡ with_text text (row_with_block (map (content_of bytes) row))
      row-more =
          ap row_with_block (contents-block_end bytes (all_rows d.format.format) d.rows parts.front parts.last line.to parts.is grows)
          ∙ ap (λ (c : Content). row_with_block (contents ++ with_line (slice_range bytes (parts.last.to + 1) line.to) c ∷ [])) (content-block parts.last.kind bytes parts.last.from parts.last.to parts.block
          (last-opened-kind bytes row ends-block unfilled))
          ∙ ap (λ (n : ℕ). row_with_block (contents ++ Block 0 (old_lines ++ slice_range bytes n line.to ∷ []) ∷ [])) begins
          ∙ block-last contents 0 (old_lines ++ text ∷ [])
          ∙ sym (ap (with_text text) (row-split bytes row ends-block unfilled))

      abbrev pub extended : TableData
      extended = record d { rows = with_block_end line.to d.rows }

      new-row : (with_block_end line.to d.rows).row ≡ parts.front ++ with_end line.to parts.last ∷ []
      new-row = ap (last_changed (with_end line.to)) parts.is ∙ changed-last (with_end line.to) parts.front parts.last

      pub extends-kept : Makes k line 0 (text_made k line) InData d extended
      extends-kept = record {
        table = λ options is.
            ap (λ (o : OpenBlock). record (table_by InData options bytes extended) { begun = begun_by o (map (content_of bytes) (with_block_end line.to d.rows).row) }) open_is
            ∙ ap (λ (r : RowBegun). record (table_by InData options bytes d) { begun = Some r }) row-more
            ∙ sym (ap (λ (o : OpenBlock). record (table_by InData options bytes d) { begun = option_map (with_text text) (begun_by o (map (content_of bytes) row)) }) open_is);
        fits = record {
          kept = RowBegunKept-block_end bytes (all_rows d.format.format) d.rows parts.front parts.last line.to parts.is d.keys grows fits.kept;
          block = subst (λ (o : OpenBlock). OpenFits o extended.rows.row) (sym open_is)
              (subst EndsInBlock (sym new-row) (block-behind parts.front (with_end line.to parts.last) parts.block));
          columns = fits.columns;
          served = fits.served;
          whole = fits.whole;
          notes = fits.notes;
        };
        ends = subst (λ (o : OpenBlock). OpenEndsAt line.to o extended.rows.row) (sym open_is)
            (subst (LastEndsAt line.to) (sym new-row) (ends-last parts.front (with_end line.to parts.last) line.to refl));
        settled = λ ends. record { elements = ends.elements; row = changed-ends line.to row ends.row; notes = ends.notes };
        grown = record {
          entries = omega (arith, ap (λ (es : List Entry). length es) new-row, ap (λ (es : List Entry). length es) parts.is, length-append parts.front (with_end line.to parts.last ∷ []), length-append parts.front (parts.last ∷ []));
          elements = omega arith;
          notes = omega arith;
          to_tell = refl;
          rooms = record { entries = refl; elements = refl; columns = refl; notes = refl; keys = refl; asked = refl; escapes = refl };
        };
      }

  -- one that is dropped stays as it is, and so does none
  pub extends-dropped : (had : Bool) → d.open ≡ Dropped had → Makes k line 0 (text_made k line) InData d d
  extends-dropped had is = record {
    table = λ options same.
        ap (λ (o : OpenBlock). record (table_by InData options (block_of k) d) { begun = begun_by o (contents_in k d) }) is
        ∙ sym (ap (λ (o : OpenBlock). record (table_by InData options (block_of k) d) { begun = option_map (with_text (left_from k line line.from)) (begun_by o (contents_in k d)) }) is);
    fits = fits;
    ends = subst (λ (o : OpenBlock). OpenEndsAt line.to o d.rows.row) (sym is) tt;
    settled = λ ends. ends;
    grown = grows-same 0 d;
  }

  pub extends-none : d.open ≡ Nothing → Makes k line 0 (text_made k line) InData d d
  extends-none is = record {
    table = λ options same.
        ap (λ (o : OpenBlock). record (table_by InData options (block_of k) d) { begun = begun_by o (contents_in k d) }) is
        ∙ sym (ap (λ (o : OpenBlock). record (table_by InData options (block_of k) d) { begun = option_map (with_text (left_from k line line.from)) (begun_by o (contents_in k d)) }) is);
    fits = fits;
    ends = subst (λ (o : OpenBlock). OpenEndsAt line.to o d.rows.row) (sym is) tt;
    settled = λ ends. ends;
    grown = grows-same 0 d;
  }
