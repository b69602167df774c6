-- What the code keeps of a text whose items are being measured.
use Rattle.std.specs.Prelude.{ℕ, ◌+◌, ◌==◌, Bool, true, false, ◌||◌, ◌&&◌, nat_lt, Option, Some, None, is_some, List, [], ◌∷◌, if◌then◌else◌}
use Rattle.std.specs.Option.{option_or}
use Rattle.input_source.specs.Bytes.{dot, is_digit, is_dropped, is_text_byte}
use Rattle.tbl_text.specs.Items.{Item, columns, is_glyph, note}
use Rattle.tbl_text.specs.Measuring.{len_of}
use Rattle.tbl_text.specs.declared.items.What.{What}
use Rattle.tbl_text.specs.declared.items.What.TheVariants.{Ampersand, Nothing}
use Rattle.tbl_text.specs.declared.measure.Before.{Before}
use Rattle.tbl_text.specs.declared.measure.Before.TheVariants.{Other, Digit, Dot}
use Rattle.tbl_text.specs.declared.measure.Measuring.{Measuring}
use Rattle.tbl_text.specs.declared.measure.Split.{Split}
use Rattle.tbl_text.specs.declared.measure.Splitting.{Splitting}

-- one item more, by its length
abbrev pub measured_behind : Measuring → ℕ → What → Measuring
measured_behind m len what = record {
  at = m.at + len;
  width = m.width + columns what;
  glyphs = if is_glyph what then m.at + len else m.glyphs;
  has_notes = is_some (note what) || m.has_notes;
}

-- how many bytes reach up to the last glyph behind items more, which begin at a place and of which these are left up to theirs
abbrev pub behind_glyphs : ℕ → ℕ → List Item → ℕ
behind_glyphs glyphs at [] = glyphs
behind_glyphs glyphs at (x ∷ items) = at + len_of (x ∷ items)

-- a split between two items, with so much width in front
abbrev pub split_between : ℕ → ℕ → Split
split_between left place = record { left = left; end = place; behind = place }

-- whether a digit stands before a place, and the split before the dot that does
abbrev pub is_digit_before : Before → Bool
is_digit_before Digit = true
is_digit_before (_) = false

abbrev pub dot_before : Before → Option Split
dot_before (Dot split) = Some split
dot_before (_) = None

-- where a number may be split behind one byte more, which stands for itself
abbrev pub byte_split : Splitting → ℕ → ℕ → ℕ → What → Splitting
byte_split s at width b what =
    if is_digit b then record s {
      dot = option_or (dot_before s.before) s.dot;
      digit = Some (split_between (width + columns what) (at + 1));
      before = Digit;
    }
    else if b == dot then record s {
      dot = if is_digit_before s.before then Some (split_between width at) else s.dot;
      before = Dot (split_between width at);
    }
    else if is_dropped b then s
    else record s { before = Other }

-- the first `\&` splits it
abbrev pub ampersand_split : Splitting → ℕ → ℕ → ℕ → What → Splitting
ampersand_split s at width len Ampersand =
    record s { ampersand = option_or s.ampersand (Some (record { left = width; end = at; behind = at + len })) }
ampersand_split s at width len (_) = s

-- one item more, by its first byte and its length
abbrev pub item_split : Splitting → ℕ → ℕ → ℕ → ℕ → What → Splitting
item_split s at width b len what =
    ampersand_split (if len == 1 then byte_split s at width b what else record s { before = Other }) at width len what

-- what an item is shown as, where a `\&` has split the number or none has
abbrev pub shown : Option Split → What → What
shown None Ampersand = Nothing
shown split what = what

-- a byte that is ASCII and prints itself
abbrev pub is_ascii_text : ℕ → Bool
is_ascii_text b = is_text_byte b && nat_lt b 127
