-- The pages that the options of a command line ask for: those that are written.
use Rattle.std.specs.Prelude.{ℕ, ◌^◌, ◌==◌, ◌&&◌, Bool, List, [], ◌∷◌, ◌++◌, length, nat_lt, pos, int_le, Option, Some, None, Result, Ok, Err, if◌then◌else◌, option_and_then, option_map, codes}
use Rattle.std.specs.Char.{is_ascii_digit}
use Rattle.std.specs.List.{list_all}
use Rattle.std.specs.Str.Parse.{digits_value}
use Rattle.clap.specs.Words.{Row, Text, first_of}
use Rattle.roff_num.specs.declared.num.Num.{Num}
use Rattle.page_model.specs.Turning.{most_ranges}
use Rattle.input_source.specs.Bytes.{comma}
use Rattle.cli_words.specs.declared.pages.Pages.{Pages}
use Rattle.cli_words.specs.declared.pages.Pages.TheVariants.{Listed, Bad}

-- a page of this number
abbrev pub page : ℕ → Num
page n = record { 0 = pos n }

-- the greatest number of one
abbrev pub greatest_page : ℕ
greatest_page = 2147483647

-- a range has a hyphen between its first page and its last one
abbrev pub hyphen : ℕ
hyphen = 45

-- whether a text is digits alone
abbrev pub are_digits : Text → Bool
are_digits text = list_all is_ascii_digit text

-- the number that a text writes: some digits, and no number above the greatest one
abbrev pub page_written : Text → Option Num
page_written text =
    if are_digits text && nat_lt 0 (length text) && nat_lt (digits_value 10 text) (2 ^ 31) then Some (page (digits_value 10 text)) else None

-- the last page of a range, by what stands behind its hyphen: where nothing does there is none
abbrev pub last_written : Text → Option Num
last_written [] = Some (page greatest_page)
last_written (b ∷ text) = page_written (b ∷ text)

-- a range from its first page to its last one, which doesn't come before it
abbrev pub range_from : Option Num → Option Num → Option (Num × Num)
range_from (Some first) (Some last) = if int_le first.0 last.0 then Some (first, last) else None
range_from (_) (_) = None

-- what stands in front of the first byte of this kind, and what behind it, if there is one
unfoldable pub split_at : ℕ → Text → Option (Text × Text)
split_at mark [] = None
split_at mark (b ∷ text) = if b == mark then Some ([], text) else option_map (λ parts. (b ∷ parts.0, parts.1)) (split_at mark text)

-- the range that a text writes, by what stands in front of a hyphen and behind it: `N` is the one page, `N-M` these pages and those
-- between them, and `N-` all from this one on
abbrev pub range_split : Text → Option (Text × Text) → Option (Num × Num)
range_split text None = option_map (λ n. (n, n)) (page_written text)
range_split text (Some parts) = range_from (page_written parts.0) (last_written parts.1)

abbrev pub range_written : Text → Option (Num × Num)
range_written text = range_split text (split_at hyphen text)

-- a byte in front of the first of some parts
abbrev pub in_front : ℕ → List Text → List Text
in_front b [] = (b ∷ []) ∷ []
in_front b (part ∷ parts) = (b ∷ part) ∷ parts

-- the parts of a text between bytes of this kind
unfoldable pub parts_at : ℕ → Text → List Text
parts_at mark [] = [] ∷ []
parts_at mark (b ∷ text) = if b == mark then [] ∷ parts_at mark text else in_front b (parts_at mark text)

-- the range that a text writes behind these, if no more are listed than may be
abbrev pub next_range : List (Num × Num) → Text → Option (Num × Num)
next_range done text = if nat_lt (length done) most_ranges then range_written text else None

-- these ranges and those of further parts, if each writes one and there are no more than may be
unfoldable pub ranges_behind : List (Num × Num) → List Text → Option (List (Num × Num))
ranges_behind done [] = Some done
ranges_behind done (part ∷ parts) = option_and_then (λ range. ranges_behind (done ++ range ∷ []) parts) (next_range done part)

-- the ranges that a list writes, with commas between them
abbrev pub ranges_written : Text → Option (List (Num × Num))
ranges_written text = ranges_behind [] (parts_at comma text)

-- the ranges of a list, or the text of a bad one
abbrev pub ranges_or_bad : Text → Option (List (Num × Num)) → Result (List (Num × Num)) Text
ranges_or_bad text None = Err text
ranges_or_bad text (Some ranges) = Ok ranges

-- those of a list that is given, if one is: without it there are none
abbrev pub pages_listed : Option Text → Result (List (Num × Num)) Text
pages_listed None = Ok []
pages_listed (Some text) = ranges_or_bad text (ranges_written text)

-- the pages that a command's options ask for
abbrev pub pages_asked : List Row → Result (List (Num × Num)) Text
pages_asked rows = pages_listed (first_of (codes "pages") rows)

-- what the code's answer says
abbrev pub told_pages : Pages → Result (List (Num × Num)) Text
told_pages (Listed ranges) = Ok ranges.items
told_pages (Bad text) = Err text.now
