-- The first line that some words fill, where each word is known by its gap and its width alone.
use Rattle.std.specs.Prelude.{ℕ, ◌+◌, List, [], ◌∷◌, nat_le, Option, Some, None, if◌then◌else◌}
pub use Rattle.roff_lines.specs.declared.fill.Word.{Word as MeasuredWord}

-- the width of a line with a word more, if it fits in the measure; the first word always does
abbrev pub width_with : ℕ → Option ℕ → MeasuredWord → Option ℕ
width_with measure None w = Some w.width
width_with measure (Some width) w =
    let wider = width + w.gap + w.width in if nat_le wider measure then Some wider else None

-- how many of some words join a line, which has this width if it has a word
abbrev pub count_joining : ℕ → Option ℕ → List MeasuredWord → ℕ
count_joining measure line [] = 0
count_joining measure line (w ∷ ws) =
    elim (width_with measure line w) [ None ↦ 0 | Some width ↦ 1 + count_joining measure (Some width) ws ]

-- how many of some words the first line takes
abbrev pub first_line_count : ℕ → List MeasuredWord → ℕ
first_line_count measure ws = count_joining measure None ws
