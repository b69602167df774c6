-- Where what is without width in cells that begin with their row ends at the latest: the first cell behind it in which something stands.
use Rattle.std.proofs.Common.{◌≡◌, ℕ, zero, suc, ◌+◌, ◌-◌, ◌<◌, ◌≤◌, min, Bool, true, false, not, ◌&&◌, List, [], ◌∷◌, ◌++◌, drop, length, refl, sym, ap, subst, ◌∙◌, arith, le-ltb, lt-ltb, if◌then◌else◌, nat_lt}
use Rattle.std.proofs.Math.Nat.{min-eq_left}
use Rattle.std.proofs.Math.Seq.{drop-nil}
use Rattle.tbl_format.proofs.CellColumns.{columns_behind, columns_of-behind, end_behind, end_of-behind, start_behind, start_behind-next, start_behind-none}
use Rattle.tbl_format.specs.Cells.{AreCells, end_of, start_of}
use Rattle.tbl_format.specs.Format.{FormatRow, columns_of_keys}
use Rattle.tbl_format.specs.FormatRows.{AreWithin}
use Rattle.tbl_format.specs.declared.format.FormatKey.{FormatKey}
use Rattle.tbl_layout.specs.Entries.{Content, field_at, is_entry}
use Rattle.tbl_lines.specs.CellsLeft.{all_keys, first_entry, keys_behind}
use Rattle.tbl_tall.proofs.KeysCover.{all-cells, all-columns}

-- behind the keys of a row each cell has one column, among all of them too
ones-end : (count bars from cell : ℕ) → end_behind from (keys_behind count bars from) cell ≡ from + (cell + 1)
ones-end zero bars from cell = refl
ones-end (suc count) bars from zero = refl
ones-end (suc count) bars from (suc cell) =
    let next : from + 1 ≡ suc from = omega arith in
    ap (λ (n : ℕ). end_behind n (keys_behind count 0 (suc from)) cell) next ∙ ones-end count 0 (suc from) cell ∙ omega arith

append-end : (count bars from : ℕ) (keys : List FormatKey) (cell : ℕ)
    → end_behind from (keys ++ keys_behind count bars (columns_behind from keys)) cell ≡ end_behind from keys cell
append-end count bars from [] cell = ones-end count bars from cell
append-end count bars from (k ∷ keys) zero = refl
append-end count bars from (k ∷ keys) (suc cell) = append-end count bars k.end keys cell

pub all-end : (columns : ℕ) (format : FormatRow) (cell : ℕ) → end_behind 0 (all_keys columns format) cell ≡ end_of format.keys cell
all-end columns format cell =
    let own = columns_of_keys format.keys in
    ap (λ (n : ℕ). end_behind 0 (format.keys ++ keys_behind (columns - own) format.bars n) cell) (columns_of-behind format.keys)
    ∙ append-end (columns - own) format.bars 0 format.keys cell ∙ sym (end_of-behind format.keys cell)

pub all-start : (columns : ℕ) (format : FormatRow) (cell : ℕ) → start_behind 0 (all_keys columns format) cell ≡ start_of format.keys cell
all-start columns format zero = refl
all-start columns format (suc cell) = all-end columns format cell

-- a cell that begins within the columns is one of all
some-behind : (from : ℕ) (keys : List FormatKey) (cell : ℕ) → start_behind from keys cell < columns_behind from keys → cell < length keys
some-behind from [] cell begins = absurd (omega (arith, begins, start_behind-none from cell))
some-behind from (k ∷ keys) zero begins = omega arith
some-behind from (k ∷ keys) (suc cell) begins =
    omega (arith, some-behind k.end keys cell (omega (arith, begins, start_behind-next from k keys cell)))

pub some-cell : (columns : ℕ) (format : FormatRow) (cell : ℕ) → AreWithin columns format.keys → start_of format.keys cell < columns
    → cell < length (all_keys columns format)
some-cell columns format cell within begins =
    let keys = all_keys columns format in
    some-behind 0 keys cell (omega (arith, begins, all-start columns format cell, columns_of-behind keys, all-columns columns format within))

-- each cell ends behind its beginning, and begins behind as many columns as there are cells before it
ends-more : (from : ℕ) (keys : List FormatKey) (cell : ℕ) → AreCells from keys → start_behind from keys cell < end_behind from keys cell
ends-more from [] cell cells = omega (arith, start_behind-none from cell)
ends-more from (k ∷ keys) zero cells = cells.0
ends-more from (k ∷ keys) (suc cell) cells = omega (arith, start_behind-next from k keys cell, ends-more k.end keys cell cells.1)

begins-behind : (from : ℕ) (keys : List FormatKey) (cell : ℕ) → AreCells from keys → from + cell ≤ start_behind from keys cell
begins-behind from [] cell cells = omega (arith, start_behind-none from cell)
begins-behind from (k ∷ keys) zero cells = omega arith
begins-behind from (k ∷ keys) (suc cell) cells = omega (arith, cells.0, start_behind-next from k keys cell, begins-behind k.end keys cell cells.1)

pub ends-behind-start : (columns : ℕ) (format : FormatRow) (cell : ℕ) → AreWithin columns format.keys → start_of format.keys cell < end_of format.keys cell
ends-behind-start columns format cell within =
    omega (arith, all-start columns format cell, all-end columns format cell, ends-more 0 (all_keys columns format) cell (all-cells columns format within))

pub starts-far : (columns : ℕ) (format : FormatRow) (cell : ℕ) → AreWithin columns format.keys → cell ≤ start_of format.keys cell
starts-far columns format cell within =
    omega (arith, all-start columns format cell, begins-behind 0 (all_keys columns format) cell (all-cells columns format within))

cells-drop : (from : ℕ) (keys : List FormatKey) (cell : ℕ) → AreCells from keys → AreCells (start_behind from keys cell) (drop cell keys)
cells-drop from [] zero cells = tt
cells-drop from [] (suc cell) cells = tt
cells-drop from (k ∷ keys) zero cells = cells
cells-drop from (k ∷ keys) (suc cell) cells =
    subst (λ (n : ℕ). AreCells n (drop cell keys)) (sym (start_behind-next from k keys cell)) (cells-drop k.end keys cell cells.1)

-- from one cell on to the next
abbrev first_by : ℕ → ℕ → ℕ → ℕ → Bool → List FormatKey → List Content → ℕ
first_by none column from end is_used keys fields =
    if not (nat_lt from column) && is_used then from else first_entry none column end keys fields

one-further : (none column from begin : ℕ) (keys : List FormatKey) (fields : List Content) (cell : ℕ) → cell < length keys
    → first_entry none column from (drop cell keys) fields
    ≡ first_by none column from (end_behind begin keys cell) (is_entry (field_at fields 0)) (drop (suc cell) keys) (drop 1 fields)
one-further none column from begin [] fields cell some = absurd (omega (arith, some))
one-further none column from begin (k ∷ keys) fields zero some = refl
one-further none column from begin (k ∷ keys) fields (suc cell) some = one-further none column from k.end keys fields cell (omega (arith, some))

drop-one : {A : Type 0} (xs : List A) (n : ℕ) → drop 1 (drop n xs) ≡ drop (suc n) xs
drop-one xs zero = refl
drop-one [] (suc n) = refl
drop-one (x ∷ xs) (suc n) = drop-one xs n

drop-more : {A : Type 0} (xs : List A) (n : ℕ) → drop n (drop 1 xs) ≡ drop (suc n) xs
drop-more [] n = drop-nil n
drop-more (x ∷ xs) n = refl

drop-first : (fields : List Content) (cell : ℕ) → field_at (drop cell fields) 0 ≡ field_at fields cell
drop-first fields zero = refl
drop-first [] (suc cell) = refl
drop-first (f ∷ fields) (suc cell) = drop-first fields cell

one-cell : (none column from begin : ℕ) (keys : List FormatKey) (fields : List Content) (cell : ℕ) → cell < length keys
    → first_entry none column from (drop cell keys) (drop cell fields)
    ≡ first_by none column from (end_behind begin keys cell) (is_entry (field_at fields cell)) (drop (suc cell) keys) (drop (suc cell) fields)
one-cell none column from begin keys fields cell some =
    one-further none column from begin keys (drop cell fields) cell some
    ∙ ap (λ (f : Content). first_by none column from (end_behind begin keys cell) (is_entry f) (drop (suc cell) keys) (drop 1 (drop cell fields))) (drop-first fields cell)
    ∙ ap (λ (fs : List Content). first_by none column from (end_behind begin keys cell) (is_entry (field_at fields cell)) (drop (suc cell) keys) fs) (drop-one fields cell)

-- something stands in it, or doesn't
pub found-here : (columns from begin : ℕ) (format : FormatRow) (fields : List Content) (cell : ℕ) → AreWithin columns format.keys → from ≤ begin
    → begin ≡ start_of format.keys cell → begin < columns → is_entry (field_at fields cell) ≡ true
    → first_entry columns from begin (drop cell (all_keys columns format)) (drop cell fields) ≡ begin
found-here columns from begin format fields cell within behind is few used =
    let keys = all_keys columns format in
    let some : cell < length keys = some-cell columns format cell within (omega (arith, is, few)) in
    let end = end_behind 0 keys cell in
    one-cell columns from begin 0 keys fields cell some
    ∙ ap (λ (t : Bool). if not t && is_entry (field_at fields cell) then begin else first_entry columns from end (drop (suc cell) keys) (drop (suc cell) fields)) (le-ltb begin from behind)
    ∙ ap (λ (t : Bool). if t then begin else first_entry columns from end (drop (suc cell) keys) (drop (suc cell) fields)) used

false-and : (t : Bool) → (t && false) ≡ false
false-and true = refl
false-and false = refl

pub none-here : (columns from begin : ℕ) (format : FormatRow) (fields : List Content) (cell : ℕ) → AreWithin columns format.keys
    → begin ≡ start_of format.keys cell → begin < columns → is_entry (field_at fields cell) ≡ false
    → first_entry columns from begin (drop cell (all_keys columns format)) (drop cell fields)
    ≡ first_entry columns from (end_of format.keys cell) (drop (cell + 1) (all_keys columns format)) (drop (cell + 1) fields)
none-here columns from begin format fields cell within is few used =
    let keys = all_keys columns format in
    let some : cell < length keys = some-cell columns format cell within (omega (arith, is, few)) in
    let end = end_behind 0 keys cell in
    let next : suc cell ≡ cell + 1 = omega arith in
    one-cell columns from begin 0 keys fields cell some
    ∙ ap (λ (t : Bool). if not (nat_lt begin from) && t then begin else first_entry columns from end (drop (suc cell) keys) (drop (suc cell) fields)) used
    ∙ ap (λ (t : Bool). if t then begin else first_entry columns from end (drop (suc cell) keys) (drop (suc cell) fields)) (false-and (not (nat_lt begin from)))
    ∙ ap (λ (n : ℕ). first_entry columns from n (drop (suc cell) keys) (drop (suc cell) fields)) (all-end columns format cell)
    ∙ ap (λ (n : ℕ). first_entry columns from (end_of format.keys cell) (drop n keys) (drop n fields)) next

-- none begins before
least-by : (t : Bool) (most x y : ℕ) → most ≤ x → most ≤ y → most ≤ (if t then x else y)
least-by true most x y one other = one
least-by false most x y one other = other

first-least : (none column from most : ℕ) (keys : List FormatKey) (fields : List Content) → most ≤ from → most ≤ none → AreCells from keys
    → most ≤ first_entry none column from keys fields
first-least none column from most [] fields one other cells = other
first-least none column from most (k ∷ keys) fields one other cells =
    least-by (not (nat_lt from column) && is_entry (field_at fields 0)) most from (first_entry none column k.end keys (drop 1 fields)) one
    (first-least none column k.end most keys (drop 1 fields) (omega (arith, one, cells.0)) other cells.1)

pub none-before : (columns from begin most : ℕ) (format : FormatRow) (fields : List Content) (cell : ℕ) → AreWithin columns format.keys
    → begin ≡ start_of format.keys cell → most ≤ begin → most ≤ columns
    → most ≡ min most (first_entry columns from begin (drop cell (all_keys columns format)) (drop cell fields))
none-before columns from begin most format fields cell within is past few =
    let keys = all_keys columns format in
    let starts : start_behind 0 keys cell ≡ begin = omega (arith, all-start columns format cell, is) in
    sym (min-eq_left (first-least columns from begin most (drop cell keys) (drop cell fields) past few
    (subst (λ (n : ℕ). AreCells n (drop cell keys)) starts (cells-drop 0 keys cell (all-cells columns format within)))))

-- those in front of a column don't count
skip-front : (none from : ℕ) (keys : List FormatKey) (fields : List Content) (cell : ℕ) → AreCells from keys → cell < length keys
    → from < end_behind from keys cell
    → first_entry none (end_behind from keys cell) from keys fields
    ≡ first_entry none (end_behind from keys cell) (end_behind from keys cell) (drop (suc cell) keys) (drop (suc cell) fields)
skip-front none from [] fields cell cells some more = absurd (omega (arith, some))
skip-front none from (k ∷ keys) fields zero cells some more =
    ap (λ (t : Bool). if not t && is_entry (field_at fields 0) then from else first_entry none k.end k.end keys (drop 1 fields)) (lt-ltb from k.end more)
skip-front none from (k ∷ keys) fields (suc cell) cells some more =
    let end = end_behind k.end keys cell in
    let further : k.end < end = omega (arith, begins-behind k.end keys cell cells.1, ends-more k.end keys cell cells.1) in
    let few : cell < length keys = omega (arith, some) in
    ap (λ (t : Bool). if not t && is_entry (field_at fields 0) then from else first_entry none end k.end keys (drop 1 fields)) (lt-ltb from end more)
    ∙ skip-front none k.end keys (drop 1 fields) cell cells.1 few further
    ∙ ap (λ (fs : List Content). first_entry none end end (drop (suc cell) keys) fs) (drop-more fields (suc cell))

pub skip-all : (columns : ℕ) (format : FormatRow) (fields : List Content) (cell : ℕ) → AreWithin columns format.keys → end_of format.keys cell ≤ columns
    → first_entry columns (end_of format.keys cell) 0 (all_keys columns format) fields
    ≡ first_entry columns (end_of format.keys cell) (end_of format.keys cell) (drop (cell + 1) (all_keys columns format)) (drop (cell + 1) fields)
skip-all columns format fields cell within few =
    let keys = all_keys columns format in
    let cells = all-cells columns format within in
    let next : suc cell ≡ cell + 1 = omega arith in
    let some : cell < length keys = some-cell columns format cell within (omega (arith, few, ends-behind-start columns format cell within)) in
    let more : 0 < end_behind 0 keys cell = omega (arith, ends-more 0 keys cell cells) in
    subst (λ (n : ℕ). first_entry columns (end_of format.keys cell) 0 keys fields
    ≡ first_entry columns (end_of format.keys cell) (end_of format.keys cell) (drop n keys) (drop n fields)) next
    (subst (λ (n : ℕ). first_entry columns n 0 keys fields ≡ first_entry columns n n (drop (suc cell) keys) (drop (suc cell) fields)) (all-end columns format cell)
    (skip-front columns 0 keys fields cell cells some more))
