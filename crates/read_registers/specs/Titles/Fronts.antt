-- Bytes of a title's part that are read at once (manual, section 14).
use Rattle.std.specs.Prelude.{◌≡◌, ℕ, ◌<◌, ◌≤◌, ◌==◌, ◌⊎◌, Bool, true, false, not, ◌&&◌, List, length, map, nat_le, slice_index_or, take, Option, if◌then◌else◌}
use Rattle.std.specs.List.{AllByRecursion}
use Rattle.page_model.specs.Glyphs.{glyph_blank}
use Rattle.page_model.specs.Titles.{page_mark}
use Rattle.run_model.specs.Reading.Titles.{is_page_character}
use Rattle.read_registers.specs.Lasting.{TitlesKept}
use Rattle.run_model.specs.TitleTexts.{title_length, with_bytes}

-- whether a byte is no control byte, no backslash, and not the delimiter
abbrev pub is_plain : ℕ → ℕ → Bool
is_plain delimiter b = nat_le 32 b && (not (b == 127) && (not (b == 92) && not (b == delimiter)))

-- what it is in the part, where this character stands for the page number
abbrev pub kept_byte : Option ℕ → ℕ → ℕ
kept_byte character b = if is_page_character character b then page_mark else (if b == 32 then glyph_blank else b)

-- a byte ends nothing, and stands for the page number, a blank, or itself
abbrev pub IsPlain : ℕ → ℕ → Type 0
IsPlain delimiter b = is_plain delimiter b ≡ true

-- so many of these bytes were read of the part that comes: each of them is such a byte, and the title has no more than it may
pub record AddsFront (front : List ℕ) (delimiter count : ℕ) (old new : TitlesKept) : Type 0 where
  pub some : count ≤ length front
  pub plain : AllByRecursion (IsPlain delimiter) (take count front)
  pub added : new ≡ record old { title = with_bytes (map (kept_byte old.page_character) (take count front)) old.title }
  pub within : title_length new.title ≤ new.line
  -- they go as far as there are such bytes, and the title has room
  pub goes : count < length front → (is_plain delimiter (slice_index_or front count 0) ≡ false) ⊎ (title_length new.title ≡ new.line)
