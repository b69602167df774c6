-- The rows of formats have no more columns and bars than are asked for.
use Rattle.std.proofs.Common.{◌≡◌, ℕ, zero, suc, ◌+◌, ◌<◌, ◌≤◌, max, Bool, true, false, not, List, [], ◌∷◌, ◌++◌, length, get_or, map, nat_lt, refl, sym, subst, arith, append_assoc, append-nil, if◌then◌else◌}
use Rattle.std.specs.List.{AllByRecursion}
use Rattle.tbl_format.specs.Format.{Format, FormatRow, asked_by, asking, asking_for_bars, at_fault, columns_of_keys, done, fault_if, format_byte, format_byte_at, further, has_some, is_misplaced, looked_again, most_bars, plain_key, read_behind, said_by, stepped, with_any_key, with_asked, with_columns, with_last, with_whole, widened}
use Rattle.tbl_format.specs.Cells.{start_of}
use Rattle.tbl_format.specs.FormatLaws.{AreHeld, Further, IsHeld, IsRead, Line, NoByte, RowHeld, most_beside, bars_among}
use Rattle.tbl_format.specs.FormatSteps.{step}
use Rattle.tbl_format.specs.RowsServed.{all_rows}
use Rattle.tbl_format.specs.declared.format.Asked.{Asked}
use Rattle.tbl_format.specs.declared.format.FormatKey.{FormatKey}
use Rattle.tbl_format.specs.declared.format.FormatPlace.{FormatPlace}
use Rattle.tbl_format.specs.declared.format.FormatPlace.TheVariants.{AtEnd, AtFault, InRows}
use Rattle.tbl_format.specs.declared.format.Key.{Key}
use Rattle.tbl_format.specs.declared.format.RowPart.TheVariants.{BehindKey}
use Rattle.tbl_format.specs.declared.format_step.Does.{Does}
use Rattle.tbl_format.specs.declared.format_step.Does.TheVariants.{AddBar, AddKey, DropWidth, EndFormat, EndRow, Equalize, LeaveOut, Nothing, Separate, Stand, Widen}
use Rattle.tbl_format.specs.declared.format_step.FormatStep.{FormatStep}
use Rattle.tbl_format.proofs.Elements.{each-append}
use Rattle.tbl_format.proofs.BarsBeside.{append-most, bars-none, changed-most, last-held, last-most}
use Rattle.tbl_format.proofs.KeyCounting.{length-asking, length-with_columns}
use Rattle.tbl_format.proofs.KeysWith.{cells-append, cells-changed, cells-kept, columns-none, columns-some, columns_of-append, columns_of-changed, columns_of-kept, either-with}

-- the rows, and the row begun
pub record Held (f : Format) : Type 0 where
  pub rows : AreHeld f
  pub row : IsHeld f.front f.asked f.row f.bars

-- as much is asked, or more
record AsksMore (front other : ℕ) (asked others : List Asked) : Type 0 where
  columns : length asked ≤ length others
  most : (column : ℕ) → most_beside front asked column ≤ most_beside other others column

module _ (front other : ℕ) (asked others : List Asked) (more : AsksMore front other asked others) where
  row-more : (keys : List FormatKey) (bars : ℕ) → IsHeld front asked keys bars → IsHeld other others keys bars
  row-more keys bars held = record {
    cells = held.cells;
    short = omega (arith, held.short, more.columns);
    most = λ cell. omega (arith, held.most cell, more.most (start_of keys cell));
  }

  rows-more : (rows : List FormatRow) → AllByRecursion (RowHeld front asked) rows → AllByRecursion (RowHeld other others) rows
  rows-more [] held = tt
  rows-more (row ∷ rows) held = (row-more row.keys row.bars held.0, rows-more rows held.1)

-- no key, and no bar
none-held : (front : ℕ) (asked : List Asked) → IsHeld front asked [] 0
none-held front asked = record { cells = tt; short = omega arith; most = λ cell. omega (arith, bars-none cell) }

-- a fault
held-fault : (t : Bool) (f : Format) → Held f → Held (fault_if t f)
held-fault true f held = record { rows = held.rows; row = held.row }
held-fault false f held = held

-- a key more
columns-same : (asked : List Asked) (count column : ℕ)
    → get_or (map (λ (a : Asked). a.bars) asked) column 0 ≡ get_or (map (λ (a : Asked). a.bars) (with_columns asked count)) column 0
columns-same [] count zero = refl
columns-same [] count (suc column) = refl
columns-same (a ∷ asked) zero column = refl
columns-same (a ∷ asked) (suc count) zero = refl
columns-same (a ∷ asked) (suc count) (suc column) = columns-same asked count column

columns-most : (front : ℕ) (asked : List Asked) (count column : ℕ) → most_beside front asked column ≤ most_beside front (with_columns asked count) column
columns-most front asked count zero = omega arith
columns-most front asked count (suc column) = omega (arith, columns-same asked count column)

held-key : (key : Key) (f : Format) → Held f → Held (with_any_key key f)
held-key key f held =
    let count = columns_of_keys f.row in
    let k = plain_key f.bars key count in
    let others = with_columns f.asked count in
    let columns = length-with_columns f.asked count held.row.short in
    let more = columns-most f.front f.asked count in
    let most : (cell : ℕ) → bars_among f.row f.bars cell ≤ most_beside f.front others (start_of f.row cell) =
    λ cell. omega (arith, held.row.most cell, more (start_of f.row cell)) in
    record {
      rows = rows-more f.front f.front f.asked others (record { columns = omega (arith, columns); most = more }) (all_rows f) held.rows;
      row = either-with (λ (keys : List FormatKey). IsHeld f.front others keys 0) key f.bars f.row
          (λ some. record {
            cells = cells-changed widened 1 (λ q. refl) f.row held.row.cells;
            short = omega (arith, columns, columns_of-changed widened 1 (λ q. refl) f.row some);
            most = changed-most widened (λ q. refl) f.row 0 f.bars (most_beside f.front others) most (omega arith);
          })
          (record {
            cells = cells-append f.row k (omega arith) held.row.cells;
            short = omega (arith, columns, columns_of-append f.row k);
            most = append-most f.row k (most_beside f.front others) most;
          });
    }

-- bars ask for room
asked-more : (n count : ℕ) (asked : List Asked) (column : ℕ)
    → get_or (map (λ (a : Asked). a.bars) asked) column 0 ≤ get_or (map (λ (a : Asked). a.bars) (asking (most_bars n) count asked)) column 0
asked-more n zero asked column = omega arith
asked-more n (suc count) [] column = omega arith
asked-more n (suc zero) (a ∷ asked) zero = omega arith
asked-more n (suc zero) (a ∷ asked) (suc column) = omega arith
asked-more n (suc (suc count)) (a ∷ asked) zero = omega arith
asked-more n (suc (suc count)) (a ∷ asked) (suc column) = asked-more n (suc count) asked column

asked-most : (front n count : ℕ) (asked : List Asked) (column : ℕ)
    → most_beside front asked column ≤ most_beside front (asking (most_bars n) count asked) column
asked-most front n count asked zero = omega arith
asked-most front n count asked (suc column) = asked-more n count asked column

asked-last : (front n count : ℕ) (asked : List Asked) → 0 < count → count ≤ length asked
    → n ≤ most_beside front (asking (most_bars n) count asked) count
asked-last front n zero asked some within = absurd (omega (arith, some))
asked-last front n (suc count) [] some within = absurd (omega (arith, within))
asked-last front n (suc zero) (a ∷ asked) some within = omega arith
asked-last front n (suc (suc count)) (a ∷ asked) some within = asked-last front n (suc count) asked (omega arith) (omega (arith, within))

front-most : (front n : ℕ) (asked : List Asked) (column : ℕ) → most_beside front asked column ≤ most_beside (max front n) asked column
front-most front n asked zero = omega arith
front-most front n asked (suc column) = omega arith

held-asking : (t : Bool) (n : ℕ) (f : Format) → has_some f.row ≡ t → Held f
    → Held (if t then with_asked (most_bars n) (record f { bars = n }) else record f { bars = n; front = max f.front n })
held-asking true n f some held =
    let count = columns_of_keys f.row in
    let others = asking (most_bars n) count f.asked in
    let columns = length-asking (most_bars n) count f.asked in
    let most = asked-most f.front n count f.asked in
    let last = asked-last f.front n count f.asked (columns-some f.row held.row.cells some) held.row.short in
    record {
      rows = rows-more f.front f.front f.asked others (record { columns = omega (arith, columns); most = most }) (all_rows f) held.rows;
      row = record {
        cells = held.row.cells;
        short = omega (arith, held.row.short, columns);
        most = last-most f.row f.bars n (most_beside f.front f.asked) (most_beside f.front others) most last held.row.most;
      };
    }
held-asking false n f none held =
    let zero_is = columns-none f.row none in
    let last : n ≤ most_beside (max f.front n) f.asked 0 = omega arith in
    let most = front-most f.front n f.asked in
    record {
      rows = rows-more f.front (max f.front n) f.asked f.asked (record { columns = omega arith; most = most }) (all_rows f) held.rows;
      row = record {
        cells = held.row.cells;
        short = held.row.short;
        most = last-most f.row f.bars n (most_beside f.front f.asked) (most_beside (max f.front n) f.asked) most
            (subst (λ (m : ℕ). n ≤ most_beside (max f.front n) f.asked m) (sym zero_is) last) held.row.most;
      };
    }

held-bar : (t : Bool) (f : Format) → Held f → Held (if t then asking_for_bars (record f { bars = f.bars + 1 }) else at_fault f)
held-bar true f held = held-asking (has_some f.row) (f.bars + 1) f refl held
held-bar false f held = record { rows = held.rows; row = held.row }

-- what asks for no bar
module _ (change : Asked → Asked) (same : (a : Asked) → (change a).bars ≡ a.bars) where
  asked-same : (count : ℕ) (asked : List Asked) (column : ℕ)
      → get_or (map (λ (a : Asked). a.bars) (asking change count asked)) column 0 ≡ get_or (map (λ (a : Asked). a.bars) asked) column 0
  asked-same zero asked column = refl
  asked-same (suc count) [] column = refl
  asked-same (suc zero) (a ∷ asked) zero = same a
  asked-same (suc zero) (a ∷ asked) (suc column) = refl
  asked-same (suc (suc count)) (a ∷ asked) zero = refl
  asked-same (suc (suc count)) (a ∷ asked) (suc column) = asked-same (suc count) asked column

  change-most : (front count : ℕ) (asked : List Asked) (column : ℕ)
      → most_beside front asked column ≤ most_beside front (asking change count asked) column
  change-most front count asked zero = omega arith
  change-most front count asked (suc column) = omega (arith, asked-same count asked column)

  held-asked : (f : Format) → Held f → Held (with_asked change f)
  held-asked f held =
      let count = columns_of_keys f.row in
      let more : AsksMore f.front f.front f.asked (asking change count f.asked) =
      record { columns = omega (arith, length-asking change count f.asked); most = change-most f.front count f.asked } in
      record {
        rows = rows-more f.front f.front f.asked (asking change count f.asked) more (all_rows f) held.rows;
        row = row-more f.front f.front f.asked (asking change count f.asked) more f.row f.bars held.row;
      }

-- what is said of the last key, but for its bars and columns
module _ (change : FormatKey → FormatKey) (same : (k : FormatKey) → (change k).bars ≡ k.bars) (ends : (k : FormatKey) → (change k).end ≡ k.end) where
  held-said : (f : Format) → Held f → Held (with_last change f)
  held-said f held =
      let most = most_beside f.front f.asked in
      let columns = columns_of-kept change ends f.row in
      let last = last-held f.row f.bars most held.row.most in
      record {
        rows = held.rows;
        row = record {
          cells = cells-kept change ends f.row held.row.cells;
          short = omega (arith, held.row.short, columns);
          most = changed-most change same f.row f.bars f.bars most held.row.most
              (subst (λ (n : ℕ). f.bars ≤ most n) (sym columns) last);
        };
      }

-- the row begun is whole
held-whole : (t u : Bool) (f : Format) → Held f
    → Held (if t then record f { rows = f.rows ++ record { keys = f.row; bars = f.bars } ∷ []; row = []; bars = 0 } else fault_if u f)
held-whole true u f held =
    let last : FormatRow = record { keys = f.row; bars = f.bars } in
    record {
      rows = subst (λ (rows : List FormatRow). AllByRecursion (RowHeld f.front f.asked) rows) (append_assoc f.earlier f.rows (last ∷ []))
          (each-append (RowHeld f.front f.asked) (f.earlier ++ f.rows) (last ∷ []) held.rows (held.row, tt));
      row = none-held f.front f.asked;
    }
held-whole false u f held = held-fault u f held

-- behind each thing that a byte does
held-done : (does : Does) (f : Format) → Held f → Held (done does f)
held-done Nothing f held = held
held-done (AddKey key) f held = held-fault (is_misplaced key f) (with_any_key key f) (held-key key f held)
held-done AddBar f held = held-bar (nat_lt f.bars 2) f held
held-done (Separate n) f held = held-asked (asked_by (Separate n)) (λ a. refl) f held
held-done (Widen n) f held = held-asked (asked_by (Widen n)) (λ a. refl) f held
held-done Equalize f held = held-asked (asked_by Equalize) (λ a. refl) f held
held-done DropWidth f held = held-said (said_by DropWidth) (λ k. refl) (λ k. refl) f held
held-done (Stand standing) f held = held-said (said_by (Stand standing)) (λ k. refl) (λ k. refl) f held
held-done (LeaveOut letter) f held = held
held-done EndRow f held = held-whole (has_some f.row) (nat_lt 0 f.bars) f held
held-done EndFormat f held =
    held-fault (not (has_some (with_whole f).rows)) (with_whole f) (held-whole (has_some f.row) (nat_lt 0 f.bars) f held)

held-stepped : (s : FormatStep) (f : Format) → Held f → Held (stepped s f)
held-stepped s f held = held-done s.does (record f { place = s.place }) (record { rows = held.rows; row = held.row })

held-looked : (t : Bool) (front : List ℕ) (b : ℕ) (f : Format) → Held f → Held (looked_again t front b f)
held-looked false front b f held = held
held-looked true front b f held = held-stepped (step BehindKey front b) f held

held-at : (place : FormatPlace) (front : List ℕ) (f : Format) (b : ℕ) → Held f → Held (format_byte_at place front f b)
held-at (InRows part) front f b held =
    let s = step part front b in held-looked s.is_again front b (stepped s f) (held-stepped s f held)
held-at AtEnd front f b held = held
held-at AtFault front f b held = held

held-behind : (front : List ℕ) (f : Format) (bytes : List ℕ) → Held f → Held (read_behind front f bytes)
held-behind front f [] held = held
held-behind front f (b ∷ bytes) held = held-behind (front ++ b ∷ []) (format_byte front f b) bytes (held-at f.place front f b held)

-- however it is read
held-further : (f : Format) → Held f → Held (further f)
held-further f held = record {
  rows = subst (λ (rows : List FormatRow). AllByRecursion (RowHeld f.front f.asked) rows) (sym (append-nil (f.earlier ++ f.rows))) held.rows;
  row = none-held f.front f.asked;
}

pub read-held : (f : Format) → IsRead f → Held f
read-held _ NoByte = record { rows = tt; row = none-held 0 [] }
read-held _ (Line f line read) = held-behind [] f line (read-held f read)
read-held _ (Further f read) = held-further f (read-held f read)
