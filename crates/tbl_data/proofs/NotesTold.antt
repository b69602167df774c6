-- What is told of a text, item by item.
use Rattle.std.proofs.Common.{◌≡◌, ℕ, suc, ◌+◌, ◌≤◌, Bool, true, false, List, [], ◌∷◌, ◌++◌, length, drop, Option, Some, None, refl, ap, ◌∙◌, arith, ◌||◌, ◌==◌, if◌then◌else◌, is_some, option_map, option_to_list}
use Rattle.tbl_data.specs.DataRead.{item_notes}
use Rattle.tbl_data.specs.LineTaken.{more_notes, notes_kept}
use Rattle.tbl_options.specs.Notes.{NotesWithin, told_at, told_of_all}
use Rattle.tbl_options.specs.declared.message.Message.TheVariants.{NotMeasured as NotMeasuredMessage}
use Rattle.tbl_options.specs.declared.message.Told.{Told}
use Rattle.tbl_kept.specs.Joined.{line_at}
use Rattle.tbl_kept.specs.TableNotes.{KeptNotes}
use Rattle.memchr.specs.Find.{IsFirstByte, Nowhere, Passes, is_byte2}
use Rattle.input_source.specs.Bytes.{blank, is_dropped, is_silent, tab}
use Rattle.tbl_text.proofs.ItemLists.{items-byte}
use Rattle.tbl_text.specs.Items.{Item, byte_what, items, note}
use Rattle.tbl_text.specs.declared.items.What.TheVariants.{Blank, Byte, Dropped, NotMeasured as NotMeasuredItem, Nothing}
use Rattle.tbl_text.specs.Measuring.{has_notes, notes_from}
use Rattle.tbl_text.specs.declared.measure.Note.{Note}

-- some messages of a text are told: with what is left of it they are all, and no more than the bytes that were read
pub record ItemsTold (ends : List (ℕ × ℕ)) (n place : ℕ) (text : List ℕ) (at : ℕ) (old new : KeptNotes) : Type 0 where
  pub all : more_notes (notes_kept ends n place (notes_from at (items (drop at text)))) new
      ≡ more_notes (notes_kept ends n place (notes_from 0 (items text))) old
  pub few : length new.notes ≤ length old.notes + at
  pub room : new.note_room ≡ old.note_room

-- as they are told, these are those of the definition
told-item : (ends : List (ℕ × ℕ)) (n place : ℕ) (bytes : List ℕ) (from : ℕ) (rest : List Note) (b : Option ℕ)
    → told_of_all bytes (notes_kept ends n place (option_to_list (option_map (λ b. record { place = from; byte = b }) b) ++ rest))
    ≡ option_to_list (option_map (λ b. told_at (line_at ends (place + from) n) (NotMeasuredMessage b)) b) ++ told_of_all bytes (notes_kept ends n place rest)
told-item ends n place bytes from rest None = refl
told-item ends n place bytes from rest (Some b) = refl

told-by : (ends : List (ℕ × ℕ)) (n place : ℕ) (bytes : List ℕ) (from : ℕ) (its : List Item)
    → told_of_all bytes (notes_kept ends n place (notes_from from its)) ≡ item_notes ends n (place + from) its
told-by ends n place bytes from [] = refl
told-by ends n place bytes from (item ∷ its) =
    let len = length item.bytes in
    let here = option_to_list (option_map (λ b. told_at (line_at ends (place + from) n) (NotMeasuredMessage b)) (note item.what)) in
    let next : place + (from + len) ≡ place + from + len = omega arith in
    told-item ends n place bytes from (notes_from (from + len) its) (note item.what)
    ∙ ap (λ (ts : List Told). here ++ ts) (told-by ends n place bytes (from + len) its)
    ∙ ap (λ (p : ℕ). here ++ item_notes ends n p its) next

pub items-told : (ends : List (ℕ × ℕ)) (n place : ℕ) (bytes : List ℕ) (its : List Item)
    → told_of_all bytes (notes_kept ends n place (notes_from 0 its)) ≡ item_notes ends n place its
items-told ends n place bytes its = told-by ends n place bytes 0 its ∙ ap (λ (p : ℕ). item_notes ends n p its) (omega arith)

-- they name no option
pub items-within : (ends : List (ℕ × ℕ)) (n place len : ℕ) (notes : List Note) → NotesWithin len (notes_kept ends n place notes)
items-within ends n place len [] = tt
items-within ends n place len (note ∷ notes) = (tt, items-within ends n place len notes)

-- where all items of a text are measured it has none
none-by : (its : List Item) (from next : ℕ) (b : Option ℕ) → (has_notes its ≡ false → notes_from next its ≡ []) → (is_some b || has_notes its) ≡ false
    → option_to_list (option_map (λ b. record { place = from; byte = b }) b) ++ notes_from next its ≡ []
none-by its from next None further is = further is
none-by its from next (Some b) further is = absurd (cc)

pub none-told : (its : List Item) (from : ℕ) → has_notes its ≡ false → notes_from from its ≡ []
none-told [] from none = refl
none-told (item ∷ its) from none = none-by its from (from + length item.bytes) (note item.what) (none-told its (from + length item.bytes)) none

-- a text without a backslash and a tab has none
neither : (t u : Bool) → ((t || u) ≡ true → ⊥) → (t ≡ false) × (u ≡ false)
neither true u none = absurd (none refl)
neither false true none = absurd (none refl)
neither false false none = (refl, refl)

byte-by : (is_blank is_tab dropped silent : Bool) (b : ℕ) → is_tab ≡ false
    → note (if is_blank then Blank else if is_tab then NotMeasuredItem 116 else if dropped then Dropped else if silent then Nothing else Byte b) ≡ None
byte-by true is_tab dropped silent b is = refl
byte-by false true dropped silent b is = absurd (cc)
byte-by false false true silent b is = refl
byte-by false false false true b is = refl
byte-by false false false false b is = refl

untold : (text : List ℕ) (from : ℕ) → Nowhere (Passes (is_byte2 92 9) text) 0 (length text) → notes_from from (items text) ≡ []
untold [] from none = refl
untold (b ∷ text) from none =
    let tests = neither (b == 92) (b == 9) (none 0 (omega arith) (omega arith)) in
    let here : note (byte_what b) ≡ None = byte-by (b == blank) (b == tab) (is_dropped b) (is_silent b) b tests.1 in
    let rest = untold text (from + 1) (λ k low high passes. none (suc k) (omega arith) (omega (arith, high)) passes) in
    ap (notes_from from) (items-byte (b ∷ text) (omega arith) tests.0)
    ∙ ap (λ (x : Option ℕ). option_to_list (option_map (λ b. record { place = from; byte = b }) x) ++ notes_from (from + 1) (items text)) here
    ∙ rest

pub untold-found : (text : List ℕ) (found : Option ℕ) → IsFirstByte (is_byte2 92 9) text found → is_some found ≡ false → notes_from 0 (items text) ≡ []
untold-found text None none is = untold text 0 none
untold-found text (Some at) first is = absurd (cc)
