-- Laws of titles: what a line with three parts places, and the columns at which they stand (manual, section 14).
use Rattle.std.specs.Prelude.{◌≡◌, ℕ, ◌+◌, ◌-◌, ◌/◌, ◌≤◌, max, Bool, true, false, ◌&&◌, List, [], ◌∷◌, ◌++◌, length, map, take, drop, nat_le, All, Option, None, Some, option_map, ℤ, FitsSigned, if◌then◌else◌, ◌==◌}
use Rattle.std.specs.Int.{w32}
use Rattle.page_model.specs.Events.{settings_after}
use Rattle.page_model.specs.Words.{is_empty}
use Rattle.roff_num.specs.ShortNames.{name_bytes}
use Rattle.roff_num.specs.RegisterText.{register_text}
use Rattle.roff_num.specs.declared.limits.Limits.{Limits}
use Rattle.roff_num.specs.declared.short_name.ShortName.{ShortName}
use Rattle.page_model.specs.Puts.{puts}
use Rattle.input_source.specs.Bytes.{backslash, blank}
use Rattle.input_source.specs.Tape.{Tape, OneByte, items_then}
use Rattle.roff_store.specs.Named.{Named}
use Rattle.roff_store.specs.Texts.{Entry}
use Rattle.input_model.specs.Input.{Ahead, ByteAhead, lines_taken}
use Rattle.law_reading.specs.CallLaws.{BeginsLine, IsControl}
use Rattle.law_reading.specs.TextLaws.{AllQuiet, all_performed}
use Rattle.law_reading.specs.WordCalls.{call_with}
use Rattle.run_model.specs.Environments.{text_of}
use Rattle.run_model.specs.Layouts.{happens, layout_of}
use Rattle.run_model.specs.PageEvents.{PageEvent, PageHistory, PastEvent}
use Rattle.run_model.specs.Reading.ControlLines.{BelongsToName}
use Rattle.run_model.specs.Registers.{AllRegisters}
use Rattle.run_model.specs.Requests.{called_by}
use Rattle.run_model.specs.Run.{State, after}
use Rattle.run_model.specs.TitleTexts.{TitleText}
use Rattle.run_model.specs.Titles.{told}
use Rattle.run_model.specs.TurnsToCome.{behind_all}
use Rattle.run_model.specs.Within.{IsWithin}
use Rattle.run_model.specs.declared.event.PageEvent.TheVariants.{Title}
use Rattle.run_model.specs.declared.request.Called.TheVariants.{Request as ARequest}
use Rattle.run_model.specs.declared.request.Request.TheVariants.{Title as PlaceTitle}
use Rattle.run_model.specs.declared.title.WhichTitle.TheVariants.{Kept, Read}
use Rattle.run_model.specs.declared.title.WhichTitle.{WhichTitle}

-- a title on a line: three parts, the byte that stands before and between them, and whether it stands behind them too
pub record TitleOnLine : Type 0 where
  pub delimiter : ℕ
  pub left : List ℕ
  pub middle : List ℕ
  pub right : List ℕ
  pub is_closed : Bool

-- what stands behind the parts
abbrev pub closing : ℕ → Bool → List ℕ
closing delimiter is_closed = if is_closed then delimiter ∷ [] else []

-- its bytes
abbrev pub title_bytes : TitleOnLine → List ℕ
title_bytes t =
    t.delimiter ∷ (t.left ++ t.delimiter ∷ (t.middle ++ t.delimiter ∷ (t.right ++ closing t.delimiter t.is_closed)))

-- the line: what begins it, its name, and behind a blank the title
abbrev pub title_line : ℕ → ShortName → TitleOnLine → List ℕ
title_line control name t = call_with control name (title_bytes t)

-- a byte that is printed in one column: a blank, or a visible one
abbrev pub is_printable : ℕ → Bool
is_printable b = nat_le 32 b && nat_le b 126

-- a byte may be a delimiter: it is visible, and begins no escape
pub record IsDelimiter (b : ℕ) : Type 0 where
  pub prints : is_printable b ≡ true
  pub is_visible : (b == blank) ≡ false
  pub no_escape : (b == backslash) ≡ false

-- a byte of a part stands for itself, or for the page number: it begins no escape, and isn't the delimiter
pub record IsPartByte (delimiter b : ℕ) : Type 0 where
  pub prints : is_printable b ≡ true
  pub no_escape : (b == backslash) ≡ false
  pub no_delimiter : (b == delimiter) ≡ false

-- a title may be so
pub record IsTitle (t : TitleOnLine) : Type 0 where
  pub delimiter_is : IsDelimiter t.delimiter
  pub left_is : All (IsPartByte t.delimiter) t.left
  pub middle_is : All (IsPartByte t.delimiter) t.middle
  pub right_is : All (IsPartByte t.delimiter) t.right

-- a part with the page number in the place of each byte that is this character, if one stands for it
abbrev pub with_number : Option ℕ → List ℕ → List ℕ → List ℕ
with_number None number part = part
with_number (Some c) number [] = []
with_number (Some c) number (b ∷ part) =
    if b == c then number ++ with_number (Some c) number part else b ∷ with_number (Some c) number part

-- and so all three
abbrev pub numbered : Option ℕ → List ℕ → TitleOnLine → TitleOnLine
numbered page number t = record t {
  left = with_number page number t.left;
  middle = with_number page number t.middle;
  right = with_number page number t.right;
}

-- a line places a title: its name stands for the request that does so
pub record NamesTitle (names : Named Entry) (control : ℕ) (name : ShortName) : Type 0 where
  pub begins : IsControl control
  pub is_name : All BelongsToName (name_bytes name)
  pub stands_for : called_by name names ≡ ARequest PlaceTitle

-- The column of the middle part: half of what it leaves free of the title length is in front of it, rounded down. It stands
-- behind the left part, which may go further.
abbrev pub middle_column : ℕ → TitleOnLine → ℕ
middle_column columns t = max ((columns - length t.middle) / 2) (length t.left)

-- the column of the right part: it ends where the title length does, or stands behind the middle part, which may go further
abbrev pub right_title_column : ℕ → TitleOnLine → ℕ
right_title_column columns t = max (columns - length t.right) (middle_column columns t + length t.middle)

-- where its text ends: behind the last part that isn't empty
abbrev pub end_column : ℕ → TitleOnLine → ℕ
end_column columns t =
    if is_empty t.right
    then (if is_empty t.middle then length t.left else middle_column columns t + length t.middle)
    else right_title_column columns t + length t.right

-- bytes stand in a text at a column, each byte of which is one
abbrev pub HasBytesAt : ℕ → List ℕ → List ℕ → Type 0
HasBytesAt column bytes text = take (length bytes) (drop column text) ≡ bytes

-- from a column on, up to another, a text has blanks alone
abbrev pub IsBlank : ℕ → ℕ → List ℕ → Type 0
IsBlank from to text = All (λ b. b ≡ blank) (take (to - from) (drop from text))

-- The parts of a title stand in a text where they belong in so many columns: the left part in front, the middle one in the
-- middle, and the right one at the end. Between them are blanks, and behind them nothing.
pub record PartsStand (columns : ℕ) (t : TitleOnLine) (text : List ℕ) : Type 0 where
  pub left : HasBytesAt 0 t.left text
  pub middle : HasBytesAt (middle_column columns t) t.middle text
  pub right : HasBytesAt (right_title_column columns t) t.right text
  pub before_middle : IsBlank (length t.left) (middle_column columns t) text
  pub before_right : IsBlank (middle_column columns t + length t.middle) (right_title_column columns t) text
  pub ends : length text ≡ end_column columns t

-- an event behind a history puts this text on a line, with no blank lines behind it
abbrev pub PutsText : PageHistory → PastEvent → List ℕ → Type 0
PutsText h e text = option_map (λ x. puts x (layout_of h)) (happens h e) ≡ Some (Some (record { first = Some text; space = 0 }))

-- So a title is placed: in a text in which its parts stand where they belong in the title length that is in force then, with the
-- number that the page has then in its format, wherever this character stands.
pub record PlacesTitle (page : Option ℕ) (t : TitleOnLine) (h : PageHistory) (rs : AllRegisters) (which : WhichTitle) : Type 0 where
  pub text : List ℕ
  pub is_put : PutsText h (told rs (Title which)) text
  pub stands :
      let number : ℤ = (layout_of h).number.0 in
      FitsSigned w32 number →
      PartsStand (settings_after (text_of h)).title_length (numbered page (register_text rs.page_format number) t) text

-- What the line of a title does. In as many steps as it has bytes it leads to where the title that was read is to be placed next,
-- and wherever that is its parts stand where they belong, also where it is kept while a macro is read. Each event is a step: the
-- title, and in front of it the first page's beginning, where none was begun, if no limit refuses these, the last page doesn't end
-- with one, and none springs a macro or changes the text of a diversion: the title stands on the page.
pub record LeadsToTitle (l : Limits) (s : State) (t : TitleOnLine) (line : List ℕ) (behind : State) : Type 0 where
  pub read : TitleText
  pub places : (h : PageHistory) (rs : AllRegisters) → rs.title ≡ read → PlacesTitle s.registers.page_character t h rs Read
  pub keeps : (h : PageHistory) (rs : AllRegisters) → rs.kept_title ≡ read → PlacesTitle s.registers.page_character t h rs Kept
  pub is_next : after l (length line) s ≡ record behind { registers = record s.registers { title = read }; to_do = Title Read ∷ [] }
  pub is_placed :
      let rs : AllRegisters = record s.registers { title = read } in
      let events : List PageEvent = all_performed rs (Title Read ∷ []) s.history in
      AllQuiet l rs s.history events →
      after l (length line + length events) s ≡ record behind { registers = rs; history = behind_all rs events s.history }

-- Three parts of printable bytes stand in the title's text where they belong, and its line costs one for each byte. So it is where
-- the limit on lines has room for all three parts, in which a page number counts as one byte.
abbrev pub TitlesHaveThreeParts : Type 0
TitlesHaveThreeParts =
    (l : Limits) (s : State) (control : ℕ) (name : ShortName) (t : TitleOnLine) (rest : List (Ahead PageEvent)) →
    BeginsLine s → NamesTitle s.input.names control name → IsTitle t →
    let line : List ℕ = title_line control name t in
    s.input.ahead ≡ map ByteAhead line ++ rest → IsWithin l s → s.input.charge + length line ≤ l.bytes →
    length t.left + length t.middle + length t.right ≤ l.line →
    LeadsToTitle l s t line (record s { input = record s.input { ahead = rest; charge = s.input.charge + length line } })

-- and so it is where the line stands in the source itself, with nothing ahead of it
abbrev pub TitlesOfTheSourceHaveThreeParts : Type 0
TitlesOfTheSourceHaveThreeParts =
    (l : Limits) (s : State) (control : ℕ) (name : ShortName) (t : TitleOnLine) (tape : Tape) →
    BeginsLine s → NamesTitle s.input.names control name → IsTitle t → s.input.ahead ≡ [] →
    let line : List ℕ = title_line control name t in
    s.tape ≡ items_then (map OneByte line) tape → IsWithin l s → s.input.charge + length line ≤ l.bytes →
    length t.left + length t.middle + length t.right ≤ l.line →
    LeadsToTitle l s t line (record s { tape = tape; input = lines_taken line s.input })
