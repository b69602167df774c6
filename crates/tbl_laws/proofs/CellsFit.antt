-- What cells show stands in their columns, where these have room for it, and is shown whole.
use Rattle.std.proofs.Common.{◌≡◌, ℕ, ◌+◌, ◌-◌, ◌≤◌, max, Bool, true, false, List, [], get_or, Option, Some, None, refl, sym, ap, subst, ◌∙◌, arith, if◌then◌else◌, ◌==◌, ◌&&◌, ◌||◌, ◌/◌, nat_lt, le-ltb}
use Rattle.tbl_format.specs.declared.format.Key.{Key}
use Rattle.tbl_format.specs.declared.format.Key.TheVariants.{Above as AboveKey, Alphabetic, Center, DoubleRule, Left as LeftKey, Numeric, Right, Rule, Spanned, WideNumeric}
use Rattle.tbl_layout.specs.Columns.{passes, place_in, place_of_rule, shift, shift_of_rule, stands, widest_entry}
use Rattle.tbl_layout.specs.DataLines.{sign_byte}
use Rattle.tbl_layout.specs.EntriesFit.{HasRoomFor}
use Rattle.tbl_layout.specs.Entries.{Above, Block, Content, Repeated, Ruled, Run, Short, Text, columns_of, lines_of_field}
use Rattle.tbl_layout.specs.declared.columns.Column.{Column}
use Rattle.tbl_layout.specs.declared.columns.Stands.{Stands}
use Rattle.tbl_layout.specs.declared.columns.Stands.TheVariants.{Alone, Apart, InStrip, Nowhere}
use Rattle.tbl_layout.specs.declared.data_lines.RuleSign.TheVariants.{Single}
use Rattle.tbl_lines.specs.CellsLeft.{Left}
use Rattle.tbl_lines.specs.LinesLeft.{drawn_at, place_of_text, runs_on, shown, shown_by, shown_cell}
use Rattle.tbl_laws.specs.PiecesApart.{Fits}
use Rattle.tbl_lines.proofs.CutLines.{place-still, shown-still}
use Rattle.tbl_laws.proofs.PiecesBehind.{Within, drawn-within, here-within, text-within}
use Rattle.tbl_lines.proofs.EntriesFit.{LineFits, lines-fit, some-fits}

-- keys leave entries in their columns
shift-few : (k : Key) (spare : ℕ) → shift k spare ≤ spare
shift-few LeftKey spare = omega arith
shift-few Right spare = omega arith
shift-few Center spare = omega arith
shift-few Numeric spare = omega arith
shift-few WideNumeric spare = omega arith
shift-few Alphabetic spare = omega arith
shift-few Spanned spare = omega arith
shift-few AboveKey spare = omega arith
shift-few Rule spare = omega arith
shift-few DoubleRule spare = omega arith

pub shift-rule-few : (k : Key) (spare : ℕ) → shift_of_rule k spare ≤ spare
shift-rule-few LeftKey spare = omega arith
shift-rule-few Right spare = omega arith
shift-rule-few Center spare = omega arith
shift-rule-few Numeric spare = omega arith
shift-rule-few WideNumeric spare = omega arith
shift-rule-few Alphabetic spare = omega arith
shift-rule-few Spanned spare = omega arith
shift-rule-few AboveKey spare = omega arith
shift-rule-few Rule spare = omega arith
shift-rule-few DoubleRule spare = omega arith

pub place-fits : (c : Column) (k : Key) (s : Stands) (runs : List Run) → HasRoomFor c s → LineFits s runs → place_in c k s + columns_of runs ≤ c.width
place-fits c k (Alone columns) runs room fits = omega (arith, room, fits, shift-few k (c.width - columns))
place-fits c k (InStrip columns) runs room fits = omega (arith, room.0, room.1, fits)
place-fits c k (Apart left right) runs room fits = omega (arith, room.0, room.1, room.2, fits)
place-fits c k Nowhere runs room fits = omega (arith, ap columns_of fits)

-- what fits passes no end of its columns, so it doesn't run on
pub passes-none : (c : Column) (k : Key) (s : Stands) → HasRoomFor c s → passes c k s ≡ false
passes-none c k (Alone columns) room = le-ltb c.width columns (omega (arith, room))
passes-none c k (InStrip columns) room = le-ltb c.width (place_in c k (InStrip columns) + columns) (omega (arith, room.0, room.1))
passes-none c k (Apart left right) room =
    let middle = (c.width - (c.needs.left + c.needs.right)) / 2 + c.needs.left in
    ap (λ (t : Bool). t || nat_lt c.width (middle + right)) (le-ltb middle left (omega (arith, room.0)))
    ∙ le-ltb c.width (middle + right) (omega (arith, room.1, room.2))
passes-none c k Nowhere room = refl

and-none : (s t : Bool) → (s && (t && false)) ≡ false
and-none true true = refl
and-none true false = refl
and-none false t = refl

pub still-fits : (own : Left) (c : Column) → HasRoomFor c (stands own.key.key own.field) → runs_on own c ≡ false
still-fits own c room =
    let plain = own.key.has_no_width in
    ap (λ (t : Bool). plain && (own.lead == 0 && t)) (passes-none c own.key.key (stands own.key.key own.field) room)
    ∙ and-none plain (own.lead == 0)

pub still-by : (f : Content) (own : Left) (c : Column) → own.field ≡ f → HasRoomFor c (stands own.key.key f) → runs_on own c ≡ false
still-by f own c is room = still-fits own c (subst (λ (g : Content). HasRoomFor c (stands own.key.key g)) (sym is) room)

pub place-by : (f : Content) (own : Left) (c : Column) → own.field ≡ f → HasRoomFor c (stands own.key.key f)
    → place_of_text own c ≡ place_in c own.key.key (stands own.key.key f)
place-by f own c is room =
    place-still own c (still-by f own c is room) ∙ ap (λ (g : Content). place_in c own.key.key (stands own.key.key g)) is

pub shown-whole : (own : Left) (c : Column) (end : ℕ) → Fits own c → (shown own c end).runs_on ≡ None
shown-whole own c end fits = shown-still own.field own c end (still-fits own c fits.entry)

module _ (own : Left) (c : Column) (end : ℕ) (behind : c.start ≤ end) where
  abbrev to : ℕ
  to = max end (c.start + c.width)

  text-in : (f : Content) (on : Option Left) → own.field ≡ f → HasRoomFor c (stands own.key.key f)
      → Within (shown_cell (record {
        at = c.start + place_of_text own c;
        runs = if own.lead == 0 then get_or (lines_of_field own.key.key f) own.gone [] else [];
        is_text = true;
        rows = own.rows;
        runs_on = on;
      })) c.start to
  text-in f on is room =
      let k = own.key.key in
      let s = stands k f in
      let line = get_or (lines_of_field k f) own.gone [] in
      let runs = if own.lead == 0 then line else [] in
      let fits = place-fits c k s runs room (some-fits (own.lead == 0) s line (lines-fit k f own.gone)) in
      text-within c.start (place_of_text own c) to own.rows runs on (omega arith) (omega (arith, fits, place-by f own c is room))

  abbrev on : Option Left
  on = if runs_on own c then Some own else None

  field-within : (f : Content) → own.field ≡ f → HasRoomFor c (stands own.key.key f) → widest_entry c.needs ≤ c.width
      → Within (shown_cell (shown_by f own c end)) c.start to
  field-within (Text bytes) is room widest = text-in (Text bytes) on is room
  field-within (Block measure lines) is room widest = text-in (Block measure lines) on is room
  field-within (Ruled sign) is room widest =
      here-within (own.lead == 0) (drawn_at c.start (sign_byte sign) (end - c.start)) c.start to (omega arith)
      (drawn-within c.start (sign_byte sign) (end - c.start) c.start to (omega arith) (omega (arith, behind)))
  field-within Short is room widest =
      let at = c.start + place_of_rule c own.key.key in
      let count = widest_entry c.needs in
      here-within (own.lead == 0) (drawn_at at (sign_byte Single) count) c.start to (omega arith)
      (drawn-within at (sign_byte Single) count c.start to (omega arith) (omega (arith, widest, shift-rule-few own.key.key (c.width - count))))
  field-within (Repeated b) is room widest =
      here-within (own.lead == 0) (drawn_at c.start b c.width) c.start to (omega arith)
      (drawn-within c.start b c.width c.start to (omega arith) (omega arith))
  field-within Above is room widest = text-in Above on is room

  -- what a cell shows
  pub shown-within : Fits own c → Within (shown_cell (shown own c end)) c.start to
  shown-within fits = field-within own.field refl fits.entry fits.widest
