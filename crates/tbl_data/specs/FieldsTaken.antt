-- The fields of a line of a table, taken one after another.
use Rattle.std.specs.Prelude.{◌≡◌, ℕ, ◌+◌, ◌-◌, ◌<◌, ◌≤◌, Bool, true, false, not, List, [], ◌∷◌, ◌++◌, length, Some}
use Rattle.tbl_kept.specs.Joined.{line_at}
use Rattle.tbl_layout.specs.DataLines.{ends_in_block, opens_block}
use Rattle.tbl_layout.specs.Entries.{Content, content_under, key_at}
use Rattle.tbl_data.specs.DataRead.{cells, notes_of_field, row_opened, serving, surplus_notes, with_fields, with_open_row, with_row}
use Rattle.tbl_data.specs.TableRead.{TableRead, with_notes}

-- what the first of some fields makes of the table, by where it stands
pub record TakesFields : Type 0 where
  -- one that has a cell is kept, its messages are told, and the others go on behind it
  pub first : (ends : List (ℕ × ℕ)) (n place : ℕ) (field next : List ℕ) (rest : List (List ℕ)) (in_front : List Content) (had : Bool) (t : TableRead)
      → let key = key_at (serving t) (length in_front) in
      length in_front < cells t
      → with_fields ends n place (field ∷ next ∷ rest) in_front had t
      ≡ with_fields ends n (place + length field + 1) (next ∷ rest) (in_front ++ content_under key field ∷ []) had
      (with_notes (notes_of_field key ends n place field) t)
  -- the last one ends the row, or opens a text block
  pub last : (ends : List (ℕ × ℕ)) (n place : ℕ) (in_front : List Content) (had : Bool) (t : TableRead) (field : List ℕ)
      → let key = key_at (serving t) (length in_front) in
      length in_front < cells t → opens_block field ≡ false
      → with_fields ends n place (field ∷ []) in_front had t
      ≡ with_row (in_front ++ content_under key field ∷ []) (with_notes (notes_of_field key ends n place field) t)
  pub opening : (ends : List (ℕ × ℕ)) (n place : ℕ) (in_front : List Content) (had : Bool) (t : TableRead) (field : List ℕ)
      → length in_front < cells t → opens_block field ≡ true
      → with_fields ends n place (field ∷ []) in_front had t
      ≡ record t { begun = Some (row_opened had (key_at (serving t) (length in_front)) in_front) }
  -- without a cell all are surplus, which is told once a row; of them only a last one counts that opens a text block
  pub surplus : (ends : List (ℕ × ℕ)) (n place : ℕ) (in_front : List Content) (had : Bool) (t : TableRead) (field : List ℕ) (rest : List (List ℕ))
      → cells t ≤ length in_front
      → with_fields ends n place (field ∷ rest) in_front had t
      ≡ with_open_row (ends_in_block (field ∷ rest)) true in_front (with_notes (surplus_notes (not had) (line_at ends (place - 1) n)) t)
