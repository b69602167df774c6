-- The fields of a line of the data, as they are taken one after another.
use Rattle.std.proofs.Common.{◌≡◌, ℕ, ◌+◌, ◌-◌, ◌<◌, ◌≤◌, Bool, true, false, not, List, [], ◌∷◌, ◌++◌, length, take, drop, Some, refl, sym, ap, subst, ◌∙◌, arith, length-append, if◌then◌else◌, take_all}
use Rattle.std.specs.List.{slice_range}
use Rattle.std.proofs.lemmas.List.{drop_all, drop_more, length-map}
use Rattle.tbl_data.specs.DataRead.{cells, notes_of_field, row_opened, serving, surplus_notes, with_fields, with_open_row, with_row}
use Rattle.tbl_data.specs.LineTaken.{EndsRow, Grows, LineLies, Makes, OpensBlock, RowFits, TakesField, cells_next, contents_in, fields_made, key_next, last_made, left_from, more_notes, surplus_kept}
use Rattle.tbl_data.specs.TableData.{EndsBy, OpenEndsAt, SameRooms, Serves, table_by}
use Rattle.tbl_data.specs.TableRead.{TableRead, with_notes}
use Rattle.tbl_data.specs.declared.data_line.DataLine.{DataLine}
use Rattle.tbl_data.specs.declared.phase.Phase.{Phase}
use Rattle.tbl_data.specs.declared.phase.Phase.TheVariants.{InData}
use Rattle.tbl_data.specs.declared.table_data.OpenBlock.{OpenBlock}
use Rattle.tbl_data.specs.declared.table_data.OpenBlock.TheVariants.{Nothing}
use Rattle.tbl_data.specs.declared.table_data.TableData.{TableData}
use Rattle.tbl_data.proofs.FieldSteps.{last-kept, no-room, one-field, opening-last}
use Rattle.tbl_data.proofs.EndsKept.{notes-end, within-append}
use Rattle.tbl_data.proofs.RowSteps.{cells-is, key-is, table-notes}
use Rattle.tbl_options.specs.Notes.{NotesWithin, told_of_all}
use Rattle.tbl_options.specs.declared.message.Told.{Told}
use Rattle.tbl_options.specs.declared.options.Options.{Options}
use Rattle.tbl_format.specs.declared.format.Key.{Key}
use Rattle.tbl_kept.specs.Joined.{ends_joined, line_at}
use Rattle.tbl_kept.specs.TableNotes.{KeptNotes}
use Rattle.tbl_kept.specs.TableText.{KeptText, block_of}
use Rattle.tbl_layout.proofs.Fields.{field_len, fields-front, fields_behind, front-part, length-part, rest-part}
use Rattle.tbl_layout.specs.Data.{fields}
use Rattle.tbl_layout.specs.DataLines.{ends_in_block, opens_block}
use Rattle.tbl_layout.specs.Entries.{Content, content_under, key_at}
use Rattle.tbl_layout.specs.KeptEntries.{content_of}

-- rooms that stay through two steps
pub rooms-behind : (a b c : TableData) → SameRooms a b → SameRooms b c → SameRooms a c
rooms-behind a b c first second = record {
  entries = second.entries ∙ first.entries;
  elements = second.elements ∙ first.elements;
  columns = second.columns ∙ first.columns;
  notes = second.notes ∙ first.notes;
  keys = second.keys ∙ first.keys;
  asked = second.asked ∙ first.asked;
  escapes = second.escapes ∙ first.escapes;
}

pub rooms-same : (a : TableData) → SameRooms a a
rooms-same a = record { entries = refl; elements = refl; columns = refl; notes = refl; keys = refl; asked = refl; escapes = refl }

-- what grows in two steps
pub grows-behind : (m n i j most : ℕ) (a b c : TableData) → m + n ≤ most → Grows m i a b → Grows n j b c → Grows most (i + j) a c
grows-behind m n i j most a b c few first second = record {
  entries = omega (arith, few, first.entries, second.entries);
  elements = omega (arith, first.elements, second.elements);
  notes = omega (arith, few, first.notes, second.notes);
  to_tell = second.to_tell ∙ first.to_tell;
  rooms = rooms-behind a b c first.rooms second.rooms;
}

-- of nothing no more than so many
pub grows-same : (count : ℕ) (a : TableData) → Grows count 1 a a
grows-same count a = record { entries = omega arith; elements = omega arith; notes = omega arith; to_tell = refl; rooms = rooms-same a }

-- what a line makes of a table, said in another way
pub makes-as : (k : KeptText) (line : DataLine) (count most : ℕ) (make other : TableRead → TableRead) (phase : Phase) (old new : TableData) → count ≤ most
    → ((options : Options) → options.separator ≡ line.separator → make (table_by InData options (block_of k) old) ≡ other (table_by InData options (block_of k) old))
    → Makes k line count make phase old new → Makes k line most other phase old new
makes-as k line count most make other phase old new few same made = record {
  table = λ options is. made.table options is ∙ same options is;
  fits = made.fits;
  ends = made.ends;
  settled = made.settled;
  grown = record {
    entries = omega (arith, few, made.grown.entries);
    elements = made.grown.elements;
    notes = omega (arith, few, made.grown.notes);
    to_tell = made.grown.to_tell;
    rooms = made.grown.rooms;
  };
}

-- and behind a step, which makes something of it first
pub makes-behind : (k : KeptText) (line : DataLine) (m n most : ℕ) (make other : TableRead → TableRead) (old mid new : TableData) → m + n ≤ most
    → ((options : Options) → make (table_by InData options (block_of k) mid) ≡ other (table_by InData options (block_of k) old))
    → Grows m 0 old mid → (EndsBy line.to old → EndsBy line.to mid) → Makes k line n make InData mid new → Makes k line most other InData old new
makes-behind k line m n most make other old mid new few same grown first made = record {
  table = λ options is. made.table options is ∙ same options;
  fits = made.fits;
  ends = made.ends;
  settled = λ ends. made.settled (first ends);
  grown = grows-behind m n 0 1 most old mid new few grown made.grown;
}

-- the fields of what is left of a line: one alone, and a first one before others
pub record Some-fields (separator : ℕ) (text : List ℕ) : Type 0 where
  pub next : List ℕ
  pub rest : List (List ℕ)
  pub is : fields separator text ≡ next ∷ rest

pub some-fields : (separator : ℕ) (text : List ℕ) → Some-fields separator text
some-fields separator text = record { next = _; rest = _; is = fields-front separator text }

module _ (k : KeptText) (line : DataLine) (lies : LineLies (block_of k) line) (at len : ℕ) (order : at ≤ line.to) (is : len ≡ field_len line.separator (left_from k line at)) where
  abbrev text : List ℕ
  text = left_from k line at

  text-len : length text ≡ line.to - at
  text-len = length-part (block_of k) at line.to order lies.within

  pub fields-alone : at + len ≡ line.to → fields line.separator text ≡ text ∷ []
  unfolding fields_behind
  fields-alone end =
      let all : field_len line.separator text ≡ length text = omega (arith, is, end, text-len) in
      fields-front line.separator text
      ∙ ap (λ (n : ℕ). take n text ∷ fields_behind line.separator (drop n text)) all
      ∙ ap (λ (front : List ℕ). front ∷ fields_behind line.separator (drop (length text) text)) (take_all (length text) text (omega arith))
      ∙ ap (λ (rest : List ℕ). text ∷ fields_behind line.separator rest) (drop_all (length text) text (omega arith))

  pub fields-first : at + len < line.to
      → fields line.separator text ≡ slice_range (block_of k) at (at + len) ∷ fields line.separator (left_from k line (at + len + 1))
  unfolding fields_behind
  fields-first more =
      let few : at + len ≤ line.to = omega (arith, more) in
      let some : len < length text = omega (arith, more, text-len) in
      let one : at + (len + 1) ≡ at + len + 1 = omega arith in
      fields-front line.separator text
      ∙ ap (λ (n : ℕ). take n text ∷ fields_behind line.separator (drop n text)) (sym is)
      ∙ ap (λ (front : List ℕ). front ∷ fields_behind line.separator (drop len text)) (front-part (block_of k) at line.to order lies.within len few)
      ∙ ap (λ (rest : List ℕ). slice_range (block_of k) at (at + len) ∷ fields_behind line.separator rest) (drop_more text len 0 some)
      ∙ ap (λ (rest : List ℕ). slice_range (block_of k) at (at + len) ∷ fields line.separator rest) (rest-part (block_of k) at line.to order lies.within (len + 1))
      ∙ ap (λ (n : ℕ). slice_range (block_of k) at (at + len) ∷ fields line.separator (left_from k line n)) one

-- a cell that comes next is one of the table's
cell-among : (k : KeptText) (d : TableData) → Serves d.format.format d.keys d.rules → length d.rows.row < cells_next d → (options : Options)
    → length (contents_in k d) < cells (table_by InData options (block_of k) d)
cell-among k d served cell options =
    subst (λ (n : ℕ). length (contents_in k d) < n) (sym (cells-is InData options (block_of k) d served))
    (omega (arith, cell, length-map d.rows.row (content_of (block_of k))))

by-had : (had : Bool) → (if had then 0 else 1) ≤ 1
by-had true = omega arith
by-had false = omega arith

-- the last field of a line
module _ (k : KeptText) (line : DataLine) (at : ℕ) (had : Bool) (d : TableData) (cell : length d.rows.row < cells_next d) (served : Serves d.format.format d.keys d.rules) where
  abbrev field : List ℕ
  field = left_from k line at

  has-cell : (options : Options) → length (contents_in k d) < cells (table_by InData options (block_of k) d)
  has-cell options = cell-among k d served cell options

  abbrev ends : List (ℕ × ℕ)
  ends = ends_joined k.pending

  abbrev key : Key
  key = key_next d

  same-key : (options : Options) → key_at (serving (table_by InData options (block_of k) d)) (length (contents_in k d)) ≡ key
  same-key options = key-is InData options (block_of k) d served

  pub last-opens : (most : ℕ) (new : TableData) → 1 ≤ most → opens_block field ≡ true → OpensBlock (block_of k) had d new → OpenEndsAt line.to new.open new.rows.row → (EndsBy line.to d → EndsBy line.to new) → Grows (if had then 0 else 1) 0 d new
      → Makes k line most (last_made k line at had d) InData d new
  last-opens most new few opens block end settled grown =
      let one : (if had then 0 else 1) ≤ 1 = by-had had in record {
        table = λ options is.
            block.table options
            ∙ sym (opening-last ends line.number (at - line.from) (contents_in k d) had (table_by InData options (block_of k) d) field (has-cell options) opens
            ∙ ap (λ (x : Key). record (table_by InData options (block_of k) d) { begun = Some (row_opened had x (contents_in k d)) }) (same-key options));
        fits = block.fits;
        ends = end;
        settled = settled;
        grown = record { entries = omega (arith, few, one, grown.entries); elements = omega (arith, grown.elements); notes = omega (arith, few, one, grown.notes); to_tell = grown.to_tell; rooms = grown.rooms };
      }

  pub last-ends : (most : ℕ) (mid new : TableData) → line.to - at + 1 ≤ most → opens_block field ≡ false
      → TakesField k line at line.to d mid → EndsRow (block_of k) mid new → (EndsBy line.to mid → EndsBy line.to new) → new.open ≡ Nothing → Grows 0 1 mid new
      → Makes k line most (last_made k line at had d) InData d new
  last-ends most mid new few opens taken ended settled closed grown = record {
    table = λ options is.
        ended.table options
        ∙ ap (λ (contents : List Content). with_row contents (table_by InData options (block_of k) mid)) taken.row
        ∙ ap (λ (t : TableRead). with_row (contents_in k d ++ content_under key field ∷ []) t) (taken.table options)
        ∙ sym (last-kept ends line.number (at - line.from) (contents_in k d) had (table_by InData options (block_of k) d) field (has-cell options) opens
        ∙ ap (λ (x : Key). with_row (contents_in k d ++ content_under x field ∷ []) (with_notes (notes_of_field x ends line.number (at - line.from) field) (table_by InData options (block_of k) d))) (same-key options));
    fits = ended.fits;
    ends = subst (λ (o : OpenBlock). OpenEndsAt line.to o new.rows.row) (sym closed) tt;
    settled = λ ends. settled (taken.settled ends);
    grown = grows-behind (line.to - at + 1) 0 0 1 most d mid new (omega (arith, few)) taken.grown grown;
  }

-- surplus fields
module _ (k : KeptText) (line : DataLine) (at : ℕ) (had : Bool) (d : TableData) (full : cells_next d ≤ length d.rows.row) (served : Serves d.format.format d.keys d.rules) (notes : KeptNotes) (told : notes ≡ more_notes (surplus_kept (not had) (line_at (ends_joined k.pending) (at - line.from - 1) line.number)) d.notes) where
  abbrev told_surplus : TableData
  told_surplus = record d { notes = notes }

  surplus-told : (first : Bool) (n : ℕ) → told_of_all (block_of k) (surplus_kept first n) ≡ surplus_notes first n
  surplus-told true n = refl
  surplus-told false n = refl

  surplus-within : (first : Bool) (n len : ℕ) → NotesWithin len (surplus_kept first n)
  surplus-within true n len = (tt, tt)
  surplus-within false n len = tt

  surplus-few : (first : Bool) (n : ℕ) → length (surplus_kept first n) ≤ 1
  surplus-few true n = omega arith
  surplus-few false n = omega arith

  abbrev sur-line : ℕ
  sur-line = line_at (ends_joined k.pending) (at - line.from - 1) line.number

  pub surplus-fits : RowFits (block_of k) d → RowFits (block_of k) told_surplus
  surplus-fits fits = record {
    kept = fits.kept;
    columns = fits.columns;
    served = fits.served;
    small = fits.small;
    whole = fits.whole;
    notes = subst (λ (n : KeptNotes). NotesWithin (length (block_of k)) n.notes) (sym told)
        (within-append (length (block_of k)) d.notes.notes (surplus_kept (not had) sur-line) fits.notes (surplus-within (not had) sur-line (length (block_of k))));
  }

  surplus-grows : Grows 1 0 d told_surplus
  surplus-grows = record {
    entries = omega arith;
    elements = omega arith;
    notes = omega (arith, ap (λ (n : KeptNotes). length n.notes) told, length-append d.notes.notes (surplus_kept (not had) sur-line), surplus-few (not had) sur-line);
    to_tell = ap (λ (n : KeptNotes). n.to_tell) told;
    rooms = record { entries = refl; elements = refl; columns = refl; notes = ap (λ (n : KeptNotes). n.note_room) told; keys = refl; asked = refl; escapes = refl };
  }

  abbrev told-table : Options → TableRead
  told-table options = with_notes (surplus_notes (not had) sur-line) (table_by InData options (block_of k) d)

  surplus-table : (options : Options) → table_by InData options (block_of k) told_surplus ≡ told-table options
  surplus-table options =
      table-notes InData options (block_of k) d (surplus_kept (not had) sur-line) notes told
      ∙ ap (λ (ts : List Told). with_notes ts (table_by InData options (block_of k) d)) (surplus-told (not had) sur-line)

  surplus-law : (options : Options) → fields_made k line at had d (table_by InData options (block_of k) d)
      ≡ with_open_row (ends_in_block (fields line.separator (left_from k line at))) true (contents_in k d) (told-table options)
  surplus-law options =
      let some = some-fields line.separator (left_from k line at) in
      let t = table_by InData options (block_of k) d in
      let all : cells t ≤ length (contents_in k d) =
      subst (λ (n : ℕ). n ≤ length (contents_in k d)) (sym (cells-is InData options (block_of k) d served))
      (omega (arith, full, length-map d.rows.row (content_of (block_of k)))) in
      ap (λ (fs : List (List ℕ)). with_fields (ends_joined k.pending) line.number (at - line.from) fs (contents_in k d) had t) some.is
      ∙ no-room (ends_joined k.pending) line.number (at - line.from) (contents_in k d) had t some.next some.rest all
      ∙ ap (λ (fs : List (List ℕ)). with_open_row (ends_in_block fs) true (contents_in k d) (told-table options)) (sym some.is)

  surplus-settled : EndsBy line.to d → EndsBy line.to told_surplus
  surplus-settled ends = record {
    elements = ends.elements;
    row = ends.row;
    notes = notes-end line.to d.notes notes (surplus_kept (not had) sur-line) told (surplus-within (not had) sur-line line.to) ends.notes;
  }

  pub surplus-opens : (most : ℕ) (new : TableData) → 1 ≤ most → ends_in_block (fields line.separator (left_from k line at)) ≡ true
      → OpensBlock (block_of k) true told_surplus new → OpenEndsAt line.to new.open new.rows.row → (EndsBy line.to told_surplus → EndsBy line.to new) → Grows 0 0 told_surplus new
      → Makes k line most (fields_made k line at had d) InData d new
  surplus-opens most new few opens block end settled grown = record {
    table = λ options is.
        block.table options
        ∙ ap (λ (t : TableRead). record t { begun = Some (row_opened true (key_next d) (contents_in k d)) }) (surplus-table options)
        ∙ sym (surplus-law options ∙ ap (λ (b : Bool). with_open_row b true (contents_in k d) (told-table options)) opens);
    fits = block.fits;
    ends = end;
    settled = λ ends. settled (surplus-settled ends);
    grown = record {
      entries = omega (arith, few, grown.entries);
      elements = omega (arith, grown.elements);
      notes = omega (arith, few, grown.notes, surplus-grows.notes);
      to_tell = grown.to_tell ∙ surplus-grows.to_tell;
      rooms = rooms-behind d told_surplus new surplus-grows.rooms grown.rooms;
    };
  }

  pub surplus-ends : (most : ℕ) (new : TableData) → 1 ≤ most → ends_in_block (fields line.separator (left_from k line at)) ≡ false
      → EndsRow (block_of k) told_surplus new → (EndsBy line.to told_surplus → EndsBy line.to new) → new.open ≡ Nothing → Grows 0 1 told_surplus new
      → Makes k line most (fields_made k line at had d) InData d new
  surplus-ends most new few opens ended settled closed grown = record {
    table = λ options is.
        ended.table options
        ∙ ap (λ (t : TableRead). with_row (contents_in k d) t) (surplus-table options)
        ∙ sym (surplus-law options ∙ ap (λ (b : Bool). with_open_row b true (contents_in k d) (told-table options)) opens);
    fits = ended.fits;
    ends = subst (λ (o : OpenBlock). OpenEndsAt line.to o new.rows.row) (sym closed) tt;
    settled = λ ends. settled (surplus-settled ends);
    grown = grows-behind 1 0 0 1 most d told_surplus new (omega (arith, few)) surplus-grows grown;
  }

-- some fields are taken: with those that are left the table is what all make of it
pub record FieldsSoFar (k : KeptText) (line : DataLine) (first at : ℕ) (had : Bool) (old now : TableData) : Type 0 where
  pub table : (options : Options) → fields_made k line at had now (table_by InData options (block_of k) now) ≡ fields_made k line first had old (table_by InData options (block_of k) old)
  pub fits : RowFits (block_of k) now
  pub closed : now.open ≡ Nothing
  pub settled : EndsBy line.to old → EndsBy line.to now
  pub grown : Grows (at - first) 0 old now
  pub order : first ≤ at
  pub within : at ≤ line.to
  pub cells : cells_next now ≡ cells_next old

module _ {k : KeptText} {line : DataLine} {first at : ℕ} {had : Bool} {old now : TableData} (so_far : FieldsSoFar k line first at had old now) where
  -- what is left makes of it what all do
  pub fields-end : {new : TableData} → Makes k line (line.to - at + 1) (fields_made k line at had now) InData now new
      → Makes k line (line.to - first + 1) (fields_made k line first had old) InData old new
  fields-end {new} made =
      makes-behind k line (at - first) (line.to - at + 1) (line.to - first + 1) (fields_made k line at had now) (fields_made k line first had old) old now new
      (omega (arith, so_far.order, so_far.within)) so_far.table so_far.grown so_far.settled made

  module _ (lies : LineLies (block_of k) line) {len : ℕ} (is : len ≡ field_len line.separator (left_from k line at)) where
    pub fields-last : {new : TableData} → at + len ≡ line.to → Makes k line (line.to - at + 1) (last_made k line at had now) InData now new
        → Makes k line (line.to - first + 1) (fields_made k line first had old) InData old new
    fields-last {new} end made =
        let alone = fields-alone k line lies at len so_far.within is end in
        fields-end
        (makes-as k line (line.to - at + 1) (line.to - at + 1) (last_made k line at had now) (fields_made k line at had now) InData now new (omega arith)
        (λ options same. sym (ap (λ (fs : List (List ℕ)). with_fields (ends_joined k.pending) line.number (at - line.from) fs (contents_in k now) had (table_by InData options (block_of k) now)) alone))
        made)

    module _ (cell : length now.rows.row < cells_next now) (more : at + len < line.to) where
      abbrev this : List ℕ
      this = slice_range (block_of k) at (at + len)

      abbrev key_now : Key
      key_now = key_next now

      same-key-now : (options : Options) → key_at (serving (table_by InData options (block_of k) now)) (length (contents_in k now)) ≡ key_now
      same-key-now options = key-is InData options (block_of k) now so_far.fits.served

      room : (options : Options) → length (contents_in k now) < cells (table_by InData options (block_of k) now)
      room options = cell-among k now so_far.fits.served cell options

      abbrev behind-it : Some-fields line.separator (left_from k line (at + len + 1))
      behind-it = some-fields line.separator (left_from k line (at + len + 1))

      made-by : (options : Options) → fields_made k line at had now (table_by InData options (block_of k) now)
          ≡ with_fields (ends_joined k.pending) line.number (at - line.from) (this ∷ behind-it.next ∷ behind-it.rest) (contents_in k now) had (table_by InData options (block_of k) now)
      made-by options =
          ap (λ (fs : List (List ℕ)). with_fields (ends_joined k.pending) line.number (at - line.from) fs (contents_in k now) had (table_by InData options (block_of k) now))
          (fields-first k line lies at len so_far.within is more ∙ ap (λ (fs : List (List ℕ)). this ∷ fs) behind-it.is)

      pub fields-next : {new : TableData} → line.from ≤ at → TakesField k line at (at + len) now new
          → FieldsSoFar k line first (at + len + 1) had old new
      fields-next {new} from taken =
          let ends = ends_joined k.pending in
          let n = line.number in
          let place : at - line.from + length this + 1 ≡ at + len + 1 - line.from =
          omega (arith, from, length-part (block_of k) at (at + len) (omega arith) (omega (arith, more, lies.within))) in
          let next = behind-it in
          record {
            table = λ options.
                let t = table_by InData options (block_of k) now in
                sym (made-by options
                ∙ one-field ends n (at - line.from) this next.next next.rest (contents_in k now) had t (room options)
                ∙ ap (λ (x : Key). with_fields ends n (at - line.from + length this + 1) (next.next ∷ next.rest) (contents_in k now ++ content_under x this ∷ []) had (with_notes (notes_of_field x ends n (at - line.from) this) t)) (same-key-now options)
                ∙ ap (λ (fs : List (List ℕ)). with_fields ends n (at - line.from + length this + 1) fs (contents_in k now ++ content_under key_now this ∷ []) had (with_notes (notes_of_field key_now ends n (at - line.from) this) t)) (sym next.is)
                ∙ ap (λ (p : ℕ). with_fields ends n p (fields line.separator (left_from k line (at + len + 1))) (contents_in k now ++ content_under key_now this ∷ []) had (with_notes (notes_of_field key_now ends n (at - line.from) this) t)) place
                ∙ ap (λ (cs : List Content). with_fields ends n (at + len + 1 - line.from) (fields line.separator (left_from k line (at + len + 1))) cs had (with_notes (notes_of_field key_now ends n (at - line.from) this) t)) (sym taken.row)
                ∙ ap (λ (u : TableRead). with_fields ends n (at + len + 1 - line.from) (fields line.separator (left_from k line (at + len + 1))) (contents_in k new) had u) (sym (taken.table options)))
                ∙ so_far.table options;
            fits = taken.fits;
            closed = taken.closed ∙ so_far.closed;
            settled = λ ends. taken.settled (so_far.settled ends);
            grown = grows-behind (at - first) (at + len - at + 1) 0 0 (at + len + 1 - first) old now new (omega (arith, so_far.order)) so_far.grown taken.grown;
            order = omega (arith, so_far.order);
            within = omega (arith, more);
            cells = taken.cells ∙ so_far.cells;
          }
