-- A title's parts, byte by byte.
use Rattle.std.specs.Prelude.{◌≡◌, ℕ, Bool, false, not, ◌&&◌, ◌||◌, List, [], ◌++◌, if◌then◌else◌, ◌==◌}
use Rattle.std.specs.List.{AllByRecursion, take_while}
use Rattle.page_model.specs.Glyphs.{glyph_blank}
use Rattle.page_model.specs.Words.{is_empty}
use Rattle.page_model.specs.Columns.{spaces}
use Rattle.page_model.specs.Titles.{page_mark}

-- no byte is a blank
abbrev pub HasNoBlank : List ℕ → Type 0
HasNoBlank bytes = AllByRecursion (λ b. (b == 32) ≡ false) bytes

-- whether a byte of a part is printed as a blank
abbrev pub is_blank_byte : ℕ → Bool
is_blank_byte b = b == glyph_blank || b == 32

-- whether it is printed as itself, and is no blank
abbrev pub is_shown : ℕ → Bool
is_shown b = not (is_blank_byte b) && not (b == page_mark)

-- the bytes in front of a part that are printed as blanks
abbrev pub blank_bytes_in_front : List ℕ → List ℕ
blank_bytes_in_front part = take_while is_blank_byte part

-- those in front that are printed as themselves
abbrev pub shown_in_front : List ℕ → List ℕ
shown_in_front part = take_while is_shown part

-- blanks in front of a text, but none where it is empty
abbrev pub blanks_before : ℕ → List ℕ → List ℕ
blanks_before n text = if is_empty text then [] else spaces n ++ text
