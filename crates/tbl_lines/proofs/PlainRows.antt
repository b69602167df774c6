-- A row of which no cell goes on with one above it or below it: what its lines show is what is left of its cells.
use Rattle.std.proofs.Common.{◌≡◌, ℕ, zero, suc, ◌+◌, Bool, true, false, ◌&&◌, ◌==◌, List, [], ◌∷◌, ◌++◌, get_or, map, refl, sym, ap, subst, ◌∙◌, arith, if◌then◌else◌, append_assoc, le-ltb, append-nil}
use Rattle.std.specs.List.{AllByRecursion}
use Rattle.tbl_format.specs.declared.format.FormatKey.{FormatKey}
use Rattle.tbl_layout.specs.Entries.{Above, Block, Content, Repeated, Ruled, Run, Short, Text, field_at, lines_of_field}
use Rattle.tbl_layout.specs.Columns.{place_in, stands}
use Rattle.tbl_layout.specs.declared.columns.Column.{Column}
use Rattle.tbl_layout.specs.declared.data_lines.RuleSign.{RuleSign}
use Rattle.tbl_lines.specs.CellsLeft.{Left, behind_line}
use Rattle.tbl_lines.specs.LinesLeft.{Shown, in_order, is_behind, place_of_text, put, shown, shown_by, shown_cell}
use Rattle.tbl_lines.specs.PictureLines.{Cell, at_column, cell_of, end_of, rule_end, with_fronts, written}
use Rattle.tbl_lines.specs.RowsAlone.{alone_at, alone_from, field_behind}
use Rattle.tbl_lines.proofs.CutLines.{place-plain}

-- behind a line of it
gone-one : (line : ℕ) → line + 1 ≡ suc line
gone-one line = omega arith

behind-one : (line : ℕ) (k : FormatKey) (f : Content) → behind_line (alone_at line k f) ≡ alone_at (suc line) k f
behind-one zero k (Text bytes) = refl
behind-one zero k (Block measure lines) = refl
behind-one zero k (Ruled sign) = refl
behind-one zero k Short = refl
behind-one zero k (Repeated b) = refl
behind-one zero k Above = refl
behind-one (suc line) k (Text bytes) = refl
behind-one (suc line) k (Block measure lines) =
    ap (λ (n : ℕ). record (alone_at (suc line) k (Block measure lines)) { gone = n }) (gone-one (suc line))
behind-one (suc line) k (Ruled sign) = refl
behind-one (suc line) k Short = refl
behind-one (suc line) k (Repeated b) = refl
behind-one (suc line) k Above = refl

pub behind-alone : (line cell : ℕ) (keys : List FormatKey) (fields : List Content)
    → map behind_line (alone_from line cell keys fields) ≡ alone_from (suc line) cell keys fields
behind-alone line cell [] fields = refl
behind-alone line cell (k ∷ keys) fields =
    ap (λ (c : Left). c ∷ map behind_line (alone_from line (suc cell) keys fields)) (behind-one line k (field_at fields cell))
    ∙ ap (λ (cells : List Left). alone_at (suc line) k (field_at fields cell) ∷ cells) (behind-alone line (suc cell) keys fields)

-- cells that come over no row stand in the order of their columns
abbrev pub AreNew : List Shown → Type 0
AreNew all = AllByRecursion (λ s. s.rows ≡ 0) all

and-false : (t : Bool) → (t && false) ≡ false
and-false true = refl
and-false false = refl

not-behind : (s other : Shown) → s.rows ≡ 0 → is_behind s other ≡ false
not-behind s other new =
    let front = s.is_text && other.is_text && s.at == other.at in
    ap (λ (t : Bool). front && t) (le-ltb other.rows s.rows (omega (arith, new))) ∙ and-false front

put-last : (s : Shown) (all : List Shown) → s.rows ≡ 0 → put s all ≡ all ++ s ∷ []
put-last s [] new = refl
put-last s (other ∷ others) new =
    ap (λ (t : Bool). if t then s ∷ other ∷ others else other ∷ put s others) (not-behind s other new)
    ∙ ap (λ (rest : List Shown). other ∷ rest) (put-last s others new)

order-behind : (done all : List Shown) → AreNew all → in_order done all ≡ done ++ all
order-behind done [] new = sym (append-nil done)
order-behind done (s ∷ all) new =
    ap (λ (first : List Shown). in_order first all) (put-last s done new.0)
    ∙ order-behind (done ++ s ∷ []) all new.1
    ∙ append_assoc done (s ∷ []) all

pub same-order : (all : List Shown) → AreNew all → in_order [] all ≡ all
same-order all new = order-behind [] all new

new-here : (t : Bool) (s : Shown) → s.rows ≡ 0 → (if t then s else record s { runs = [] }).rows ≡ 0
new-here true s new = new
new-here false s new = new

pub new-shown : (f : Content) (own : Left) (c : Column) (end : ℕ) → own.rows ≡ 0 → (shown_by f own c end).rows ≡ 0
new-shown (Text bytes) own c end new = new
new-shown (Block measure lines) own c end new = new
new-shown (Ruled sign) own c end new = new-here (own.lead == 0) (shown_by (Ruled sign) (record own { lead = 0 }) c end) refl
new-shown Short own c end new = new-here (own.lead == 0) (shown_by Short (record own { lead = 0 }) c end) refl
new-shown (Repeated b) own c end new = new-here (own.lead == 0) (shown_by (Repeated b) (record own { lead = 0 }) c end) refl
new-shown Above own c end new = new

-- the first line of a cell is a line of another one, wherever they begin
pub record SameOn (line : ℕ) (c d : Cell) : Type 0 where
  pub column : (place : ℕ) → at_column c.at place (get_or c.lines 0 c.below) ≡ at_column d.at place (get_or d.lines line d.below)
  pub end : (place : ℕ) → end_of c.at place (get_or c.lines 0 c.below) ≡ end_of d.at place (get_or d.lines line d.below)

pub same-none : (line : ℕ) (c d : Cell) → get_or c.lines 0 c.below ≡ [] → get_or d.lines line d.below ≡ [] → SameOn line c d
same-none line c d none empty = record {
  column = λ place. ap (at_column c.at place) none ∙ sym (ap (at_column d.at place) empty);
  end = λ place. ap (end_of c.at place) none ∙ sym (ap (end_of d.at place) empty);
}

pub same-text : (line : ℕ) (c d : Cell) → c.at ≡ d.at → get_or c.lines 0 c.below ≡ get_or d.lines line d.below → SameOn line c d
same-text line c d at text = record {
  column = λ place. ap (at_column c.at place) text ∙ ap (λ (n : ℕ). at_column n place (get_or d.lines line d.below)) at;
  end = λ place. ap (end_of c.at place) text ∙ ap (λ (n : ℕ). end_of n place (get_or d.lines line d.below)) at;
}

abbrev pub AllSame : ℕ → List Cell → List Cell → Type 0
AllSame line [] [] = Unit {0}
AllSame line [] (d ∷ ds) = ⊥
AllSame line (c ∷ cs) [] = ⊥
AllSame line (c ∷ cs) (d ∷ ds) = SameOn line c d × AllSame line cs ds

pub written-on : (line : ℕ) (cs ds : List Cell) → AllSame line cs ds → (place : ℕ) → written 0 place cs ≡ written line place ds
written-on line [] [] same place = refl
written-on line [] (d ∷ ds) same place = absurd same
written-on line (c ∷ cs) [] same place = absurd same
written-on line (c ∷ cs) (d ∷ ds) same place =
    let text = get_or d.lines line d.below in
    ap (λ (runs : List Run). runs ++ written 0 (end_of c.at place (get_or c.lines 0 c.below)) cs) (same.0.column place)
    ∙ ap (λ (n : ℕ). at_column d.at place text ++ written 0 n cs) (same.0.end place)
    ∙ ap (λ (rest : List Run). at_column d.at place text ++ rest) (written-on line cs ds same.1 (end_of d.at place text))

pub fronts-on : (line : ℕ) (fs gs cs ds : List Cell) → AllSame line fs gs → AllSame line cs ds
    → AllSame line (with_fronts fs cs) (with_fronts gs ds)
fronts-on line [] [] cs ds fronts same = same
fronts-on line [] (g ∷ gs) cs ds fronts same = absurd fronts
fronts-on line (f ∷ fs) [] cs ds fronts same = absurd fronts
fronts-on line (f ∷ fs) (g ∷ gs) [] [] fronts same = (fronts.0, fronts-on line fs gs [] [] fronts.1 same)
fronts-on line (f ∷ fs) (g ∷ gs) [] (d ∷ ds) fronts same = absurd same
fronts-on line (f ∷ fs) (g ∷ gs) (c ∷ cs) [] fronts same = absurd same
fronts-on line (f ∷ fs) (g ∷ gs) (c ∷ cs) (d ∷ ds) fronts same = (fronts.0, (same.0, fronts-on line fs gs cs ds fronts.1 same.1))

-- what a cell shows on a line is that line of it
module _ (bars : ℕ) (k : FormatKey) (plain : k.has_no_width ≡ false) (c : Column) (columns : List Column) (next : Content) (end : ℕ) where
  abbrev here : ℕ → Content → Cell
  here line f = shown_cell (shown (alone_at line k f) c end)

  abbrev whole : Content → Cell
  whole f = cell_of bars k.key c columns next f

  place : (line : ℕ) (f : Content) → c.start + place_of_text (alone_at line k f) c ≡ c.start + place_in c k.key (stands k.key (field_behind line f))
  place line f = ap (λ (n : ℕ). c.start + n) (place-plain (alone_at line k f) c plain)

  late-text : (line : ℕ) (bytes : List ℕ) → get_or (lines_of_field k.key (Text bytes)) (suc line) [] ≡ []
  late-text line [] = refl
  late-text line (b ∷ bytes) = refl

  pub cell-on : (line : ℕ) (f : Content) → ((sign : RuleSign) → line ≡ 0 → f ≡ Ruled sign → end ≡ rule_end bars sign c columns next)
      → SameOn line (here line f) (whole f)
  cell-on zero (Text bytes) ends = same-text 0 (here 0 (Text bytes)) (whole (Text bytes)) (place 0 (Text bytes)) refl
  cell-on zero (Block measure lines) ends = same-text 0 (here 0 (Block measure lines)) (whole (Block measure lines)) (place 0 (Block measure lines)) refl
  cell-on zero (Ruled sign) ends =
      let same : end ≡ rule_end bars sign c columns next = ends sign refl refl in
      subst (λ (n : ℕ). SameOn 0 (shown_cell (shown (alone_at 0 k (Ruled sign)) c n)) (whole (Ruled sign))) (sym same)
      (same-text 0 (shown_cell (shown (alone_at 0 k (Ruled sign)) c (rule_end bars sign c columns next))) (whole (Ruled sign)) refl refl)
  cell-on zero Short ends = same-text 0 (here 0 Short) (whole Short) refl refl
  cell-on zero (Repeated b) ends = same-text 0 (here 0 (Repeated b)) (whole (Repeated b)) refl refl
  cell-on zero Above ends = same-none 0 (here 0 Above) (whole Above) refl refl
  cell-on (suc line) (Text bytes) ends = same-none (suc line) (here (suc line) (Text bytes)) (whole (Text bytes)) refl (late-text line bytes)
  cell-on (suc line) (Block measure lines) ends =
      same-text (suc line) (here (suc line) (Block measure lines)) (whole (Block measure lines)) (place (suc line) (Block measure lines)) refl
  cell-on (suc line) (Ruled sign) ends = same-none (suc line) (here (suc line) (Ruled sign)) (whole (Ruled sign)) refl refl
  cell-on (suc line) Short ends = same-none (suc line) (here (suc line) Short) (whole Short) refl refl
  cell-on (suc line) (Repeated b) ends = same-none (suc line) (here (suc line) (Repeated b)) (whole (Repeated b)) refl refl
  cell-on (suc line) Above ends = same-none (suc line) (here (suc line) Above) (whole Above) refl refl
