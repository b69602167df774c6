-- How deep things may be half read within each other (manual, sections 8 and 16).
use Rattle.std.specs.Prelude.{◌≡◌, ◌≤◌, pos, Bool, true, false, not, ◌&&◌, is_some, List, [], ◌∷◌, length, nat_le, if◌then◌else◌}
use Rattle.input_escapes.specs.OpenEscape.{OpenEscape, Backslash, Comment, Name, Size, Delimited, Width, Condition, names_in, widths_in}
use Rattle.input_escapes.specs.OpenEscapes.{most_names, most_widths, surroundings, reads_text, reads_widths}
use Rattle.input_escapes.specs.declared.open_escape.Surroundings.TheVariants.{Text as InText}

-- whether all of these are names
abbrev pub are_all_names : List OpenEscape → Bool
are_all_names [] = true
are_all_names (Name purpose part ∷ rest) = are_all_names rest
are_all_names (half ∷ rest) = false

-- names within each other, no more than may be
pub record AreNames (half : List OpenEscape) : Type 0 where
  pub all : are_all_names half ≡ true
  pub few : length half ≤ most_names

-- whether something may stand above these: nothing does above a backslash, a comment, a size, or before a delimiter
abbrev pub is_open : List OpenEscape → Bool
is_open [] = true
is_open (Backslash ∷ rest) = false
is_open (Comment ∷ rest) = false
is_open (Name purpose part ∷ rest) = true
is_open (Size part ∷ rest) = false
is_open (Delimited purpose delimiter text ∷ rest) = is_some delimiter
is_open (Width delimiter width is_deep ∷ rest) = is_some delimiter
is_open (Condition part text ∷ rest) = true

-- whether nothing is half read
abbrev pub is_nothing : List OpenEscape → Bool
is_nothing [] = true
is_nothing (half ∷ rest) = false

-- whether this may stand above these, if anything may: sizes and texts between delimiters where text is read, widths where
-- text or arguments are, deep ones within as many as may be, names if there are fewer than may be, and conditions within
-- nothing
abbrev pub may_stand : OpenEscape → List OpenEscape → Bool
may_stand Backslash rest = true
may_stand Comment rest = true
may_stand (Name purpose part) rest = not (nat_le most_names (names_in rest))
may_stand (Size part) rest = reads_text (surroundings (InText (pos 0)) rest)
may_stand (Delimited purpose delimiter text) rest = reads_text (surroundings (InText (pos 0)) rest)
may_stand (Width delimiter width is_deep) rest =
    reads_widths (surroundings (InText (pos 0)) rest) && (if is_deep then nat_le most_widths (widths_in rest) else not (nat_le most_widths (widths_in rest)))
may_stand (Condition part text) rest = is_nothing rest

-- whether each stands where it may
abbrev pub is_nested : List OpenEscape → Bool
is_nested [] = true
is_nested (half ∷ rest) = is_open rest && may_stand half rest && is_nested rest

-- things that are half read within each other as they may be
abbrev pub IsNested : List OpenEscape → Type 0
IsNested half = is_nested half ≡ true
