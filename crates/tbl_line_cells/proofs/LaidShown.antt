-- What a cell shows that is laid as it is left.
use Rattle.std.proofs.Common.{◌≡◌, ℕ, zero, suc, ◌+◌, ◌-◌, ◌<◌, ◌==◌, Bool, true, false, ◌&&◌, List, [], ◌∷◌, drop, get_or, map, Option, None, Some, refl, sym, ap, subst, ◌∙◌, if◌then◌else◌, true≢false}
use Rattle.tbl_format.specs.declared.format.FormatKey.{FormatKey}
use Rattle.tbl_format.specs.declared.format.Key.{Key}
use Rattle.tbl_layout.specs.Columns.{passes, place_in, place_of_rule, stands, widest_entry}
use Rattle.tbl_layout.specs.DataLines.{sign_byte}
use Rattle.tbl_layout.specs.declared.data_lines.RuleSign.TheVariants.{Single}
use Rattle.tbl_layout.specs.Entries.{Above as AboveField, Block as BlockField, Content, Repeated as RepeatedField, Ruled as RuledField, Run, Short as ShortField, Text as TextField, block_line, lines_of_field}
use Rattle.tbl_layout.specs.KeptEntries.{IsLaid, block_lines, content_by, content_of, no_entry, stands_of}
use Rattle.tbl_layout.specs.declared.columns.Column.{Column}
use Rattle.tbl_layout.specs.declared.data_lines.RuleSign.{RuleSign}
use Rattle.tbl_layout.specs.declared.entry.Entry.{Entry}
use Rattle.tbl_layout.specs.declared.entry.EntryKind.{EntryKind}
use Rattle.tbl_layout.specs.declared.entry.EntryKind.TheVariants.{Above, Block, Repeated, Ruled, Short, Split, Text}
use Rattle.tbl_lines.specs.CellsLeft.{Left}
use Rattle.tbl_lines.specs.LinesLeft.{Shown, drawn_at, if_here, runs_on, shown, shown_by, shown_cell}
use Rattle.tbl_lines.specs.PictureLines.{Cell, cell_of}
use Rattle.tbl_lines.specs.RowsLeft.{begins_by, end_by, lines_left_by}
use Rattle.tbl_lines.specs.RowsLent.{first_place}
use Rattle.tbl_lines.specs.RowsWalked.{IsNarrow}
use Rattle.tbl_kept.proofs.LaidStands.{laid-stands}
use Rattle.tbl_lines.proofs.RowCells.{CellSame, cell-same}
use Rattle.tbl_text.specs.BlockLines.{lines_of}
use Rattle.tbl_text.specs.BlockWords.{parts_of}
use Rattle.tbl_line_cells.proofs.CellsKept.{no-lead, nothing-lies}
use Rattle.tbl_text.specs.declared.block_parts.BlockPlace.TheVariants.{AtEnd}
use Rattle.tbl_line_cells.specs.KeptCells.{GoesOnBy, IsLeft}
use Rattle.tbl_line_cells.specs.LaidCells.{DrawsByte, EndsItself, IsShown, RunsAs, on_line, runs_at, text_of}
use Rattle.tbl_line_cells.specs.declared.cells.CellLeft.{CellLeft}
use Rattle.tbl_line_cells.specs.declared.laid_cells.LaidCell.{LaidCell}
use Rattle.tbl_line_cells.specs.declared.laid_cells.TextAt.{TextAt}

-- what is left of a cell, of whose field no more is known than what it is kept as
abbrev pub kept_as : List ℕ → CellLeft → EntryKind → ℕ → ℕ → Left
kept_as bytes cell kind lead gone = record {
  key = cell.key;
  field = content_by kind bytes cell.entry.from cell.entry.to;
  lead = lead;
  gone = gone;
  rows = cell.rows;
  is_used = cell.is_used;
  stop = cell.stop;
  is_cut = cell.is_cut;
}

pub left-is : (bytes : List ℕ) (cell : CellLeft) (l : Left) (lead : ℕ) → IsLeft bytes cell l → lead ≡ l.lead
    → kept_as bytes cell cell.entry.kind lead l.gone ≡ l
left-is bytes cell l lead is lead_is =
    let own : FormatKey → Content → ℕ → ℕ → Bool → ℕ → Bool → Left =
    λ k f n rows used stop cut. record {
      key = k;
      field = f;
      lead = n;
      gone = l.gone;
      rows = rows;
      is_used = used;
      stop = stop;
      is_cut = cut;
    } in
    let field = content_of bytes cell.entry in
    ap (λ (k : FormatKey). own k field lead cell.rows cell.is_used cell.stop cell.is_cut) is.key
    ∙ ap (λ (f : Content). own l.key f lead cell.rows cell.is_used cell.stop cell.is_cut) is.field
    ∙ ap (λ (n : ℕ). own l.key l.field n cell.rows cell.is_used cell.stop cell.is_cut) lead_is
    ∙ ap (λ (n : ℕ). own l.key l.field l.lead n cell.is_used cell.stop cell.is_cut) is.rows
    ∙ ap (λ (u : Bool). own l.key l.field l.lead l.rows u cell.stop cell.is_cut) is.used
    ∙ ap (λ (n : ℕ). own l.key l.field l.lead l.rows l.is_used n cell.is_cut) is.stop
    ∙ ap (λ (b : Bool). own l.key l.field l.lead l.rows l.is_used l.stop b) is.cut

-- what a cell shows in which nothing runs on
abbrev pub written_as : Content → Left → Column → Bool → Content → Shown
written_as field own c runs other = record {
  at = c.start + (if runs then 0 else place_in c own.key.key (stands own.key.key other));
  runs = if own.lead == 0 then get_or (lines_of_field own.key.key field) own.gone [] else [];
  is_text = true;
  rows = own.rows;
  runs_on = if runs then Some own else None;
}

abbrev plain_by : Content → Left → Column → ℕ → Shown
plain_by (RuledField sign) own c end = shown_by (RuledField sign) own c end
plain_by ShortField own c end = shown_by ShortField own c end
plain_by (RepeatedField b) own c end = shown_by (RepeatedField b) own c end
plain_by field own c end = written_as field own c false field

abbrev plain_shown : Left → Column → ℕ → Shown
plain_shown own c end = plain_by own.field own c end

plain-written : (field : Content) (own : Left) (c : Column) → own.field ≡ field → runs_on own c ≡ false
    → written_as field own c (runs_on own c) own.field ≡ written_as field own c false field
plain-written field own c is stays =
    ap (λ (b : Bool). written_as field own c b own.field) stays ∙ ap (written_as field own c false) is

plain-by : (field : Content) (own : Left) (c : Column) (end : ℕ) → own.field ≡ field → runs_on own c ≡ false
    → shown_by field own c end ≡ plain_by field own c end
plain-by (TextField bytes) own c end is stays = plain-written (TextField bytes) own c is stays
plain-by (BlockField measure lines) own c end is stays = plain-written (BlockField measure lines) own c is stays
plain-by AboveField own c end is stays = plain-written AboveField own c is stays
plain-by (RuledField sign) own c end is stays = refl
plain-by ShortField own c end is stays = refl
plain-by (RepeatedField b) own c end is stays = refl

pub plain-is : (own : Left) (c : Column) (end : ℕ) → runs_on own c ≡ false → shown own c end ≡ plain_shown own c end
plain-is own c end stays = plain-by own.field own c end refl stays

here-none : (b : Bool) (s : Shown) → s.runs_on ≡ None → (if b then s else record s { runs = [] }).runs_on ≡ None
here-none true s none = none
here-none false s none = none

plain-none : (field : Content) (own : Left) (c : Column) (end : ℕ) → (plain_by field own c end).runs_on ≡ None
plain-none (TextField bytes) own c end = refl
plain-none (BlockField measure lines) own c end = refl
plain-none AboveField own c end = refl
plain-none (RuledField sign) own c end = here-none (own.lead == 0) (drawn_at c.start (sign_byte sign) (end - c.start)) refl
plain-none ShortField own c end =
    here-none (own.lead == 0) (drawn_at (c.start + place_of_rule c own.key.key) (sign_byte Single) (widest_entry c.needs)) refl
plain-none (RepeatedField b) own c end = here-none (own.lead == 0) (drawn_at c.start b c.width) refl

-- above a field's next line nothing of it is shown, and nothing runs on
pub and-false : (b : Bool) → (b && false) ≡ false
and-false true = refl
and-false false = refl

pub lead-stays : (own : Left) (c : Column) → 0 < own.lead → runs_on own c ≡ false
lead-stays own c more =
    ap (λ (b : Bool). own.key.has_no_width && (b && passes c own.key.key (stands own.key.key own.field))) (no-lead own.lead more)
    ∙ and-false own.key.has_no_width

if-none : (own : Left) (s : Shown) → (own.lead == 0) ≡ false → (if_here own s).runs ≡ []
if-none own s above = ap (λ (b : Bool). (if b then s else record s { runs = [] }).runs) above

no-runs : (field : Content) (own : Left) (c : Column) (end : ℕ) → (own.lead == 0) ≡ false → (plain_by field own c end).runs ≡ []
no-runs (RuledField sign) own c end above = if-none own (drawn_at c.start (sign_byte sign) (end - c.start)) above
no-runs ShortField own c end above =
    if-none own (drawn_at (c.start + place_of_rule c own.key.key) (sign_byte Single) (widest_entry c.needs)) above
no-runs (RepeatedField b) own c end above = if-none own (drawn_at c.start b c.width) above
no-runs (TextField bytes) own c end above =
    ap (λ (b : Bool). if b then get_or (lines_of_field own.key.key (TextField bytes)) own.gone [] else []) above
no-runs (BlockField measure lines) own c end above =
    ap (λ (b : Bool). if b then get_or (lines_of_field own.key.key (BlockField measure lines)) own.gone [] else []) above
no-runs AboveField own c end above = ap (λ (b : Bool). if b then get_or (lines_of_field own.key.key AboveField) own.gone [] else []) above

abbrev nothing_laid : Column → Key → Option TextAt → LaidCell
nothing_laid c key text = record { column = c; key = key; entry = no_entry; place = AtEnd; text = text; runs_on = None }

nothing-plain : (bytes : List ℕ) (own : Left) (c : Column) (key : Key) (end : ℕ) (text : Option TextAt) → 0 < own.lead → IsNarrow c
    → text ≡ text_of (plain_shown own c end) → IsShown bytes (nothing_laid c key text) (plain_shown own c end)
nothing-plain bytes own c key end text more narrow text_is = record {
  byte = λ none. refl;
  drawn = record {
    shows = sym (ap (λ (runs : List Run). runs_at runs (plain_shown own c end).at) (no-runs own.field own c end (no-lead own.lead more)));
    text = text_is;
    lies = nothing-lies bytes;
    within = tt;
    narrow = narrow;
    ends = tt;
  };
  running = subst (RunsAs bytes (nothing_laid c key text) (plain_shown own c end) None) (sym (plain-none own.field own c end)) tt;
}

pub nothing-shown : (bytes : List ℕ) (own : Left) (c : Column) (key : Key) (end : ℕ) (text : Option TextAt) → 0 < own.lead → IsNarrow c
    → text ≡ text_of (shown own c end) → IsShown bytes (nothing_laid c key text) (shown own c end)
nothing-shown bytes own c key end text more narrow text_is =
    let same = plain-is own c end (lead-stays own c more) in
    subst (IsShown bytes (nothing_laid c key text)) (sym same) (nothing-plain bytes own c key end text more narrow (text_is ∙ ap text_of same))

-- what is no rule and no byte is a text
abbrev pub IsWritten : EntryKind → Type 0
IsWritten (Ruled sign) = ⊥
IsWritten Short = ⊥
IsWritten (Repeated b) = ⊥
IsWritten kind = Unit {0}

pub is-written : (k : EntryKind) → ((sign : RuleSign) → k ≡ Ruled sign → ⊥) → (k ≡ Short → ⊥) → ((b : ℕ) → k ≡ Repeated b → ⊥) → IsWritten k
is-written (Text glyphs width) ruled short repeated = tt
is-written (Split s) ruled short repeated = tt
is-written (Block b) ruled short repeated = tt
is-written (Ruled sign) ruled short repeated = ruled sign refl
is-written Short ruled short repeated = short refl
is-written (Repeated b) ruled short repeated = repeated b refl
is-written Above ruled short repeated = tt

pub ends-itself : (k : EntryKind) → ((sign : RuleSign) → k ≡ Ruled sign → ⊥) → EndsItself k
ends-itself (Text glyphs width) ruled = tt
ends-itself (Split s) ruled = tt
ends-itself (Block b) ruled = tt
ends-itself (Ruled sign) ruled = ruled sign refl
ends-itself Short ruled = tt
ends-itself (Repeated b) ruled = tt
ends-itself Above ruled = tt

-- lines of a block behind some
pub first-behind : {A B : Type 0} (f : A → B) (n : ℕ) (xs : List A) (d : B) → get_or (map f (drop n xs)) 0 d ≡ get_or (map f xs) n d
first-behind f zero [] d = refl
first-behind f zero (x ∷ xs) d = refl
first-behind f (suc n) [] d = refl
first-behind f (suc n) (x ∷ xs) d = first-behind f n xs d

-- runs that are the same, at the same column of the page
pub same-runs : (lines others : List (List Run)) (at place gone : ℕ) → lines ≡ others → at ≡ place → gone ≡ 0
    → runs_at (get_or lines 0 []) at ≡ runs_at (get_or others gone []) place
same-runs lines others at place gone same begins none =
    ap (λ (ls : List (List Run)). runs_at (get_or ls 0 []) at) same
    ∙ ap (λ (n : ℕ). runs_at (get_or others 0 []) n) begins
    ∙ ap (λ (n : ℕ). runs_at (get_or others n []) place) (sym none)

module _ (bytes : List ℕ) (cell : CellLeft) (c : Column) (end : ℕ) (laid : IsLaid bytes cell.key.key cell.entry) where
  abbrev key : Key
  key = cell.key.key

  abbrev e : Entry
  e = cell.entry

  -- as a field of a row
  same : CellSame 0 bytes c [] key e (TextField []) []
  same = cell-same 0 bytes c [] key e (TextField []) [] e.kind refl laid (λ sign. refl)

  abbrev field_cell : EntryKind → Cell
  field_cell k = cell_of 0 key c [] (TextField []) (content_by k bytes e.from e.to)

  begins-same : (k : EntryKind) → k ≡ e.kind → begins_by k c key e ≡ (field_cell k).at
  begins-same k is =
      ap (λ (x : EntryKind). begins_by x c key e) is
      ∙ sym (ap (λ (d : Cell). d.at) same.cell)
      ∙ ap (λ (x : EntryKind). (field_cell x).at) (sym is)

  pub lines-same : (k : EntryKind) → k ≡ e.kind
      → lines_left_by k bytes 0 c (end_by 0 k c [] []) e (first_place e) ≡ (field_cell k).lines
  lines-same k is =
      ap (λ (x : EntryKind). lines_left_by x bytes 0 c (end_by 0 x c [] []) e (first_place e)) is
      ∙ sym (ap (λ (d : Cell). d.lines) same.cell)
      ∙ ap (λ (x : EntryKind). (field_cell x).lines) (sym is)

  -- where a text begins
  abbrev text_there : ℕ → Option TextAt
  text_there at = Some (record { at = at; rows = cell.rows })

  text-by : (k : EntryKind) (lead gone : ℕ) → k ≡ e.kind → IsWritten k
      → text_there (c.start + place_in c key (stands_of key e)) ≡ text_of (plain_shown (kept_as bytes cell k lead gone) c end)
  text-by (Text glyphs width) lead gone is written = ap text_there (begins-same (Text glyphs width) is)
  text-by (Split s) lead gone is written = ap text_there (begins-same (Split s) is)
  text-by (Block b) lead gone is written = ap text_there (begins-same (Block b) is)
  text-by Above lead gone is written = ap text_there (begins-same Above is)
  text-by (Ruled sign) lead gone is written = absurd written
  text-by Short lead gone is written = absurd written
  text-by (Repeated b) lead gone is written = absurd written

  pub text-begins : (l : Left) → IsLeft bytes cell l → IsWritten e.kind → runs_on l c ≡ false
      → text_there (c.start + place_in c key (stands_of key e)) ≡ text_of (shown l c end)
  text-begins l is written stays =
      text-by e.kind cell.lead l.gone refl written
      ∙ ap (λ (m : Left). text_of (plain_shown m c end)) (left-is bytes cell l cell.lead is is.lead)
      ∙ ap text_of (sym (plain-is l c end stays))

  -- what it shows on its line
  abbrev laid_as : EntryKind → Cell
  laid_as k = record { at = begins_by k c key e; lines = lines_left_by k bytes 0 c 0 e cell.place; below = [] }

  shows-by : (k : EntryKind) (gone : ℕ) → k ≡ e.kind → EndsItself k → GoesOnBy k bytes e cell.place gone
      → on_line (laid_as k) ≡ on_line (shown_cell (plain_shown (kept_as bytes cell k 0 gone) c end))
  shows-by (Text glyphs width) gone is ends none =
      let k = Text glyphs width in
      same-runs (lines_left_by k bytes 0 c 0 e cell.place) (field_cell k).lines (begins_by k c key e) (field_cell k).at gone
      (lines-same k is) (begins-same k is) none
  shows-by (Split s) gone is ends none =
      let k = Split s in
      same-runs (lines_left_by k bytes 0 c 0 e cell.place) (field_cell k).lines (begins_by k c key e) (field_cell k).at gone
      (lines-same k is) (begins-same k is) none
  shows-by (Block b) gone is ends goes =
      let all = lines_of b.measure (parts_of (block_lines bytes e.from e.to)) in
      let at = begins_by (Block b) c key e in
      ap (λ (ls : List (List _)). runs_at (get_or (map block_line ls) 0 []) at) goes.lines
      ∙ ap (λ (runs : List Run). runs_at runs at) (first-behind block_line gone all [])
      ∙ ap (λ (n : ℕ). runs_at (get_or (map block_line all) gone []) n) (begins-same (Block b) is)
  shows-by (Ruled sign) gone is ends none = absurd ends
  shows-by Short gone is ends none = refl
  shows-by (Repeated b) gone is ends none = refl
  shows-by Above gone is ends none = refl

  -- it is laid
  abbrev laid_cell : Option TextAt → LaidCell
  laid_cell text = record { column = c; key = key; entry = e; place = cell.place; text = text; runs_on = None }

  -- what is a byte is one
  byte-by : (k : EntryKind) (lead gone : ℕ) → k ≡ e.kind → (plain_shown (kept_as bytes cell k lead gone) c end).is_text ≡ false → DrawsByte k e
  byte-by (Text glyphs width) lead gone is none = absurd (true≢false none)
  byte-by (Split s) lead gone is none = absurd (true≢false none)
  byte-by (Block b) lead gone is none = absurd (true≢false none)
  byte-by (Ruled sign) lead gone is none = tt
  byte-by Short lead gone is none = tt
  byte-by (Repeated b) lead gone is none = tt
  byte-by Above lead gone is none = tt

  plain-laid : (l : Left) (text : Option TextAt) → IsLeft bytes cell l → cell.lead ≡ 0 → EndsItself e.kind → IsNarrow c
      → text ≡ text_of (plain_shown l c end) → IsShown bytes (laid_cell text) (plain_shown l c end)
  plain-laid l text is here ends narrow text_is = record {
    byte = λ none. byte-by e.kind cell.lead l.gone refl
        (ap (λ (m : Left). (plain_shown m c end).is_text) (left-is bytes cell l cell.lead is is.lead) ∙ none);
    drawn = record {
      shows =
          shows-by e.kind l.gone refl ends is.place
          ∙ ap (λ (m : Left). on_line (shown_cell (plain_shown m c end))) (left-is bytes cell l 0 is (sym here ∙ is.lead));
      text = text_is;
      lies = is.lies;
      within = is.within;
      narrow = narrow;
      ends = ends;
    };
    running = subst (RunsAs bytes (laid_cell text) (plain_shown l c end) None) (sym (plain-none l.field l c end)) tt;
  }

  pub laid-shown : (l : Left) (text : Option TextAt) → IsLeft bytes cell l → cell.lead ≡ 0 → EndsItself e.kind → IsNarrow c
      → runs_on l c ≡ false → text ≡ text_of (shown l c end) → IsShown bytes (laid_cell text) (shown l c end)
  laid-shown l text is here ends narrow stays text_is =
      let same = plain-is l c end stays in
      subst (IsShown bytes (laid_cell text)) (sym same) (plain-laid l text is here ends narrow (text_is ∙ ap text_of same))

-- whether something in it runs on
pub runs-kept : (bytes : List ℕ) (cell : CellLeft) (l : Left) (c : Column) → IsLeft bytes cell l → cell.key.has_no_width ≡ true → cell.lead ≡ 0
    → passes c cell.key.key (stands_of cell.key.key cell.entry) ≡ runs_on l c
runs-kept bytes cell l c is free here =
    ap (passes c cell.key.key) (laid-stands cell.entry.kind bytes cell.key.key cell.entry refl is.laid)
    ∙ ap (λ (f : Content). passes c cell.key.key (stands cell.key.key f)) is.field
    ∙ ap (λ (b : Bool). b && passes c cell.key.key (stands cell.key.key l.field)) (ap (λ (n : ℕ). n == 0) (sym here ∙ is.lead))
    ∙ ap (λ (b : Bool). b && ((l.lead == 0) && passes c cell.key.key (stands cell.key.key l.field))) (sym free)
    ∙ ap (λ (k : FormatKey). k.has_no_width && ((l.lead == 0) && passes c k.key (stands k.key l.field))) is.key
