-- What is left of a field that begins is the field in the table.
use Rattle.std.proofs.Common.{◌≡◌, ℕ, zero, suc, ◌+◌, ◌-◌, ◌≤◌, max, Bool, true, false, List, [], ◌∷◌, length, drop, get_or, map, Option, Some, None, refl, sym, ap, ◌∙◌, arith, if◌then◌else◌, ◌==◌, nat_lt, eq-eqb, ltb-true, ltb-false, ne_eqb}
use Rattle.std.specs.List.{slice_range}
use Rattle.std.proofs.lemmas.List.{length-map}
use Rattle.tbl_format.specs.declared.format.Key.{Key}
use Rattle.tbl_layout.specs.Columns.{place_in, stands}
use Rattle.tbl_layout.specs.Entries.{Above, Block, Content, Run, Text, block_line, is_number, lines_of_field, run_of}
use Rattle.tbl_layout.specs.KeptEntries.{IsFilled, IsLaidBy, IsText, block_lines, content_by, content_of, kind_with, lines_by, stands_by, stands_of}
use Rattle.tbl_layout.specs.declared.columns.Column.{Column}
use Rattle.tbl_layout.specs.declared.columns.Stands.{Stands}
use Rattle.tbl_layout.specs.declared.entry.Entry.{Entry}
use Rattle.tbl_layout.specs.declared.entry.EntryKind.{EntryKind}
use Rattle.tbl_layout.specs.declared.entry.EntryKind.TheVariants.{Above as AboveKind, Block as BlockKind, Repeated as RepeatedKind, Ruled as RuledKind, Short as ShortKind, Split as SplitKind, Text as TextKind}
use Rattle.tbl_lines.specs.PictureLines.{Cell, cell_of, is_ruled, one_run, repeated, rule_end}
use Rattle.tbl_lines.specs.RowsLeft.{begins_at, begins_by, block_text, cell_left, end_by, is_ruled_by, lines_left_by, rule_end_by, text_lines, text_run}
use Rattle.tbl_lines.specs.RowsLent.{first_place}
use Rattle.tbl_lines.specs.declared.row_columns.RowColumn.{RowColumn}
use Rattle.tbl_layout.specs.DataLines.{sign_byte}
use Rattle.tbl_layout.specs.declared.data_lines.RuleSign.{RuleSign}
use Rattle.tbl_lines.proofs.RowColumns.{drop-none}
use Rattle.tbl_lines.proofs.RowsBegun.{split-is, text-run}
use Rattle.tbl_layout.proofs.TextStands.{empty-split, text-stands}
use Rattle.tbl_text.proofs.BlockSlices.{length-slice_range}
use Rattle.tbl_text.specs.BlockLines.{lines_of}
use Rattle.tbl_text.specs.BlockPlaces.{parts_at}
use Rattle.tbl_text.specs.BlockWords.{Part, lines_in, parts_of}
use Rattle.tbl_text.specs.Measuring.{measured}
use Rattle.tbl_text.specs.declared.block_parts.BlockPlace.{BlockPlace}
use Rattle.tbl_text.specs.declared.block_parts.BlockPlace.TheVariants.{AtEnd, AtLine}
use Rattle.tbl_text.specs.declared.measure.Split.{Split}

-- an element of a list, and one behind its end
pub get-at : {A : Type 0} (n : ℕ) (xs : List A) (x : A) (rest : List A) (d : A) → drop n xs ≡ x ∷ rest → get_or xs n d ≡ x
get-at n [] x rest d is = absurd (let no_one = sym (drop-none n) ∙ is in cc)
get-at zero (y ∷ xs) x rest d is = cc
get-at (suc n) (y ∷ xs) x rest d is = get-at n xs x rest d is

pub get-past : {A : Type 0} (n : ℕ) (xs : List A) (d : A) → drop n xs ≡ [] → get_or xs n d ≡ d
get-past n [] d is = refl
get-past zero (y ∷ xs) d is = absurd (cc)
get-past (suc n) (y ∷ xs) d is = get-past n xs d is

pub drop-past : {A : Type 0} (n : ℕ) (xs : List A) → drop n xs ≡ [] → drop (suc n) xs ≡ []
drop-past n [] is = refl
drop-past zero (y ∷ xs) is = absurd (cc)
drop-past (suc n) (y ∷ xs) is = drop-past n xs is

-- a text has one line
lines-one : (from glyphs width : ℕ) (split : Option Split) → lines_by (kind_with from glyphs width split) ≡ 1
lines-one from glyphs width None = refl
lines-one from glyphs width (Some s) = refl

text-high : (key : Key) (all : List ℕ) → max 1 (length (lines_of_field key (Text all))) ≡ 1
text-high key [] = omega arith
text-high key (b ∷ all) = omega arith

-- what is left of a text or a block that begins is that
record FieldSame (bytes : List ℕ) (c : Column) (end : ℕ) (key : Key) (e : Entry) (f : Content) : Type 0 where
  begins : begins_by e.kind c key e ≡ c.start + place_in c key (stands_of key e)
  stands : stands_of key e ≡ stands key f
  lines : lines_left_by e.kind bytes 0 c end e (first_place e) ≡ lines_of_field key f
  high : max 1 (length (lines_of_field key f)) ≡ max 1 (lines_by e.kind)

module _ (bytes : List ℕ) (c : Column) (end : ℕ) (key : Key) (e : Entry) where
  text-lines-by : (p : BlockPlace) (split : Option Split) (all : List ℕ) → (measured (is_number key) all).split ≡ split → slice_range bytes e.from e.to ≡ all
      → e.from ≤ e.to → e.to ≤ length bytes
      → lines_left_by (kind_with e.from (e.from + (measured (is_number key) all).glyphs) (measured (is_number key) all).width split) bytes 0 c end e p
      ≡ lines_of_field key (Text all)
  text-lines-by p None [] is slice order within =
      let none : e.from ≡ e.to = omega (arith, order, ap length slice, length-slice_range bytes e.from e.to within) in
      let m = measured (is_number key) [] in
      ap (λ (t : Bool). text_lines t (text_run bytes e (e.from + m.glyphs) m.width)) (eq-eqb e.from e.to none)
  text-lines-by p (Some s) [] is slice order within = absurd (let none = sym is ∙ empty-split (is_number key) in cc)
  text-lines-by p None (b ∷ all) is slice order within =
      let m = measured (is_number key) (b ∷ all) in
      let some : (e.from == e.to) ≡ false = ne_eqb e.from e.to (λ same. omega (arith, same, ap length slice, length-slice_range bytes e.from e.to within)) in
      ap (λ (t : Bool). text_lines t (text_run bytes e (e.from + m.glyphs) m.width)) some
      ∙ ap (λ (run : Run). (run ∷ []) ∷ []) (text-run bytes e m is ∙ ap (run_of m) slice)
  text-lines-by p (Some s) (b ∷ all) is slice order within =
      let m = measured (is_number key) (b ∷ all) in
      ap (λ (run : Run). (run ∷ []) ∷ []) (split-is bytes e m s is ∙ ap (run_of m) slice)

  text-begins : (from glyphs width : ℕ) (split : Option Split)
      → begins_by (kind_with from glyphs width split) c key e ≡ c.start + place_in c key (stands_of key e)
  text-begins from glyphs width None = refl
  text-begins from glyphs width (Some s) = refl

  text-field : IsText bytes (is_number key) e → FieldSame bytes c end key e (Text (slice_range bytes e.from e.to))
  text-field laid =
      let all = slice_range bytes e.from e.to in
      let m = measured (is_number key) all in
      let kind : e.kind ≡ kind_with e.from (e.from + m.glyphs) m.width m.split = ap (λ (x : Entry). x.kind) laid.is in
      record {
        begins = ap (λ (k : EntryKind). begins_by k c key e) kind ∙ text-begins e.from (e.from + m.glyphs) m.width m.split;
        stands = ap (stands_of key) laid.is ∙ text-stands key e.from all;
        lines =
            ap (λ (k : EntryKind). lines_left_by k bytes 0 c end e (first_place e)) kind
            ∙ text-lines-by (first_place e) m.split all refl refl laid.order laid.within;
        high =
            let one : lines_by e.kind ≡ 1 = ap lines_by kind ∙ lines-one e.from (e.from + m.glyphs) m.width m.split in
            text-high key all ∙ omega (arith, one);
      }

  block-parts : (t : Bool) → nat_lt e.from e.to ≡ t → e.from ≤ e.to
      → parts_at (block_text bytes e) (if t then AtLine 0 None else AtEnd) ≡ parts_of (block_lines bytes e.from e.to)
  block-parts true is order =
      let some : (e.from == e.to) ≡ false = ne_eqb e.from e.to (λ same. omega (arith, same, ltb-true e.from e.to is)) in
      ap (λ (t : Bool). parts_of (if t then [] else lines_in (block_text bytes e))) (sym some)
  block-parts false is order =
      let none : (e.from == e.to) ≡ true = eq-eqb e.from e.to (omega (arith, order, ltb-false e.from e.to is)) in
      ap (λ (t : Bool). parts_of (if t then [] else lines_in (block_text bytes e))) (sym none)

  block-field : (measure : ℕ) → IsFilled bytes measure e → FieldSame bytes c end key e (Block measure (block_lines bytes e.from e.to))
  block-field measure laid =
      let lines = block_lines bytes e.from e.to in
      let f : List Part → List (List Run) = λ parts. map block_line (lines_of measure parts) in
      record {
        begins = ap (λ (k : EntryKind). begins_by k c key e) laid.is;
        stands = ap (λ (k : EntryKind). stands_by key k (e.from == e.to)) laid.is;
        lines =
            ap (λ (k : EntryKind). lines_left_by k bytes 0 c end e (first_place e)) laid.is
            ∙ ap f (block-parts (nat_lt e.from e.to) refl laid.lies.order);
        high =
            ap (λ (n : ℕ). max 1 n) (length-map (lines_of measure (parts_of lines)) block_line)
            ∙ ap (λ (k : EntryKind). max 1 (lines_by k)) (sym laid.is);
      }

  -- nothing is left where the field above goes on
  above-field : e.kind ≡ AboveKind → FieldSame bytes c end key e Above
  above-field kind = record {
    begins = ap (λ (k : EntryKind). begins_by k c key e) kind;
    stands = ap (λ (k : EntryKind). stands_by key k (e.from == e.to)) kind;
    lines = ap (λ (k : EntryKind). lines_left_by k bytes 0 c end e (first_place e)) kind;
    high = ap (λ (k : EntryKind). max 1 (lines_by k)) (sym kind);
  }

-- whether a field is a rule that is drawn so
pub ruled-same : (sign : RuleSign) (k : EntryKind) (bytes : List ℕ) (from to : ℕ) → is_ruled sign (content_by k bytes from to) ≡ is_ruled_by sign k
ruled-same sign (TextKind glyphs width) bytes from to = refl
ruled-same sign (SplitKind s) bytes from to = refl
ruled-same sign (BlockKind b) bytes from to = refl
ruled-same sign (RuledKind other) bytes from to = refl
ruled-same sign ShortKind bytes from to = refl
ruled-same sign (RepeatedKind b) bytes from to = refl
ruled-same sign AboveKind bytes from to = refl

-- what is left of a field that begins is the field, in front of these columns and these fields
module _ (bars : ℕ) (bytes : List ℕ) (c : Column) (columns : List Column) (key : Key) (e : Entry) (next : Content) (entries : List Entry) where
  abbrev pub held : RowColumn
  held = record { column = c; key = key; entry = e; place = first_place e; end = end_by bars e.kind c columns entries }

  pub record CellSame : Type 0 where
    pub cell : cell_of bars key c columns next (content_of bytes e) ≡ cell_left bytes 0 held
    pub high : max 1 (length (cell_left bytes 0 held).lines) ≡ max 1 (lines_by e.kind)

  -- what a field of a kind would be
  abbrev cell_by : EntryKind → Cell
  cell_by k = record { at = begins_by k c key e; lines = lines_left_by k bytes 0 c (end_by bars k c columns entries) e (first_place e); below = [] }

  field-cell : (f : Content) → FieldSame bytes c (end_by bars e.kind c columns entries) key e f → content_of bytes e ≡ f
      → cell_of bars key c columns next f ≡ record { at = c.start + place_in c key (stands key f); lines = lines_of_field key f; below = [] }
      → CellSame
  field-cell f same content is =
      let cell : ℕ → List (List Run) → Cell = λ at lines. record { at = at; lines = lines; below = [] } in
      let lines = lines_of_field key f in
      record {
        cell =
            ap (cell_of bars key c columns next) content ∙ is
            ∙ ap (λ (s : Stands). cell (c.start + place_in c key s) lines) (sym same.stands)
            ∙ ap (λ (n : ℕ). cell n lines) (sym same.begins)
            ∙ ap (cell (begins_at held)) (sym same.lines);
        high = ap (λ (ls : List (List Run)). max 1 (length ls)) same.lines ∙ same.high;
      }

  rule-cell : (k : EntryKind) → k ≡ e.kind → cell_of bars key c columns next (content_by k bytes e.from e.to) ≡ cell_by k
      → max 1 (length (cell_by k).lines) ≡ max 1 (lines_by k) → CellSame
  rule-cell k is cell high = record {
    cell = ap (λ (x : EntryKind). cell_of bars key c columns next (content_by x bytes e.from e.to)) (sym is) ∙ cell ∙ ap cell_by is;
    high = ap (λ (x : EntryKind). max 1 (length (cell_by x).lines)) (sym is) ∙ high ∙ ap (λ (x : EntryKind). max 1 (lines_by x)) is;
  }

  pub cell-same : (k : EntryKind) → k ≡ e.kind → IsLaidBy k bytes key e
      → ((sign : RuleSign) → rule_end bars sign c columns next ≡ rule_end_by bars sign c columns entries) → CellSame
  cell-same (TextKind glyphs width) is laid ends =
      field-cell (Text (slice_range bytes e.from e.to)) (text-field bytes c (end_by bars e.kind c columns entries) key e laid)
      (ap (λ (k : EntryKind). content_by k bytes e.from e.to) (sym is)) refl
  cell-same (SplitKind s) is laid ends =
      field-cell (Text (slice_range bytes e.from e.to)) (text-field bytes c (end_by bars e.kind c columns entries) key e laid)
      (ap (λ (k : EntryKind). content_by k bytes e.from e.to) (sym is)) refl
  cell-same (BlockKind b) is laid ends =
      field-cell (Block b.measure (block_lines bytes e.from e.to)) (block-field bytes c (end_by bars e.kind c columns entries) key e b.measure laid)
      (ap (λ (k : EntryKind). content_by k bytes e.from e.to) (sym is)) refl
  cell-same (RuledKind sign) is laid ends =
      rule-cell (RuledKind sign) is (ap (λ (end : ℕ). one_run c.start (repeated (sign_byte sign) (end - c.start))) (ends sign)) refl
  cell-same ShortKind is laid ends = rule-cell ShortKind is refl refl
  cell-same (RepeatedKind b) is laid ends = rule-cell (RepeatedKind b) is refl refl
  cell-same AboveKind is laid ends =
      field-cell Above (above-field bytes c (end_by bars e.kind c columns entries) key e (sym is))
      (ap (λ (k : EntryKind). content_by k bytes e.from e.to) (sym is)) refl
