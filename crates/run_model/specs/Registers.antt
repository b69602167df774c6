-- The number registers of a run: those that a document sets, the page number, and the read-only ones (manual,
-- section 8 and the lists of registers before section 1). Beside them stands what else a run keeps: the macro that is read last,
-- and what belongs to titles (section 14).
use Rattle.std.specs.Prelude.{ℕ, ◌*◌, ◌%◌, ◌==◌, unsigned_abs, Bool, ◌&&◌, not, List, [], ◌∷◌, ℤ, pos, negsuc, bytes_eq, codes, find, fold, min, is_some, option_map, Option, Some, None, if◌then◌else◌}
use Rattle.page_model.specs.declared.settings.Settings.{Settings}
use Rattle.roff_num.specs.Ranges.{greatest_number, is_in_range}
use Rattle.roff_num.specs.RegisterText.{register_text}
use Rattle.roff_num.specs.ShortNames.{name_bytes}
use Rattle.roff_num.specs.declared.format.Format.{Format}
use Rattle.roff_num.specs.declared.format.Format.TheVariants.{Decimal}
use Rattle.roff_num.specs.declared.num.Num.{Num}
use Rattle.roff_num.specs.declared.short_name.ShortName.{ShortName}
use Rattle.roff_store.specs.Named.{without_entry}
use Rattle.roff_store.specs.Registers.{Registers, register_of, unset_register, next_value, with_setting, with_format, with_step}
use Rattle.roff_num.specs.declared.direction.Direction.{Direction}
use Rattle.roff_store.specs.declared.register.Register.{Register}
use Rattle.page_model.specs.Layout.{Layout}
use Rattle.page_model.specs.Queries.{diversion_name, is_diverting, nl, place_now, way_to_trap}
use Rattle.run_model.specs.declared.message.Message.{Message}
use Rattle.run_model.specs.declared.line_state.TextLine.{TextLine}
use Rattle.run_model.specs.declared.message.Message.TheVariants.{BadNumber}
use Rattle.run_model.specs.declared.query.Query.{Query}
use Rattle.run_model.specs.declared.query.Query.TheVariants.{Newlines, Indent, LineLength, LastWidth, Filling, LineSpacing, ColumnWidth, Arguments, PagePlace, PageLength, PageOffset, WayToTrap, TextPlace, DiversionHeight, DiversionWidth, DiversionName}
use Rattle.run_model.specs.TitleTexts.{TitleText, title_begun, part_ended, with_bytes}
pub mod Capped

-- the registers that can be set: those by name, and of the page number `%`, whose value is the layout's, the increment and the
-- format; the macro that is read behind the input, if there is one; the character that stands for the page number in titles, if
-- one does; the title that was read last, and one that is kept
pub record AllRegisters : Type 0 where
  pub named : Registers
  pub page_increment : Num
  pub page_format : Format
  pub last_macro : Option ShortName
  pub page_character : Option ℕ
  pub title : TitleText
  pub kept_title : TitleText

-- at first none is set, there is no such macro, and `%` stands for the page number
abbrev pub no_registers : AllRegisters
no_registers = record {
  named = [];
  page_increment = unset_register.increment;
  page_format = unset_register.format;
  last_macro = None;
  page_character = Some 37;
  title = title_begun [];
  kept_title = title_begun [];
}

-- all that a request or an escape may ask of the run
pub record Known : Type 0 where
  pub settings : Settings
  pub registers : AllRegisters
  -- the newlines taken of the source
  pub newlines : ℕ
  -- the width of the last finished line, in columns
  pub last_width : ℕ
  -- how many arguments the innermost body has that a line called
  pub arguments : ℕ
  -- the place on the line of the input, in columns
  pub place : ℕ
  -- the interrupted line that the next text line goes on with, if there is one
  pub interrupted : Option TextLine
  -- whether an environment was left that may be gone back to
  pub has_left : Bool
  -- the layout of pages
  pub layout : Layout

-- the read-only registers, each with what it asks for
abbrev pub read_only : List (List ℕ × Query)
read_only =
    (codes ".c", Newlines) ∷ (codes ".i", Indent) ∷ (codes ".l", LineLength) ∷ (codes ".n", LastWidth)
    ∷ (codes ".u", Filling) ∷ (codes ".v", LineSpacing) ∷ (codes ".V", LineSpacing) ∷ (codes ".H", ColumnWidth)
    ∷ (codes ".$", Arguments) ∷ (codes ".d", TextPlace) ∷ (codes ".o", PageOffset) ∷ (codes ".p", PageLength)
    ∷ (codes ".t", WayToTrap) ∷ (codes ".z", DiversionName) ∷ (codes "nl", PagePlace) ∷ (codes "dn", DiversionHeight)
    ∷ (codes "dl", DiversionWidth) ∷ []

-- what a read-only register asks for, if a name is one's
abbrev pub query_of : List ℕ → Option Query
query_of name = option_map (λ row. row.1) (find (λ row. bytes_eq name row.0) read_only)

-- whether a name is that of a read-only register
abbrev pub is_read_only : List ℕ → Bool
is_read_only name = is_some (query_of name)

-- a width in columns, in basic units
abbrev pub in_units : ℕ → ℕ
in_units columns = 24 * columns

-- a height in lines, in basic units
abbrev pub in_heights : ℕ → ℕ
in_heights lines = 40 * lines

-- a count above the greatest number reads as that
abbrev pub at_greatest : ℕ → ℤ
at_greatest n = pos (min n greatest_number)

-- a place, in basic units; before the first page it is -1
abbrev pub place_told : Option ℕ → ℤ
place_told None = negsuc 0
place_told (Some lines) = at_greatest (in_heights lines)

-- how far something is, in basic units; where nothing lies ahead it is as far as can be told
abbrev pub way_told : Option ℕ → ℤ
way_told None = pos greatest_number
way_told (Some lines) = at_greatest (in_heights lines)

-- the place where text goes, in lines: in the innermost open diversion, or on the page; none before the first page
abbrev pub text_place : Layout → Option ℕ
text_place L = if is_diverting L then Some (place_now L) else nl L

-- what is known about that, in basic units where it is a length; a name is 0 as a number
abbrev pub answer : Known → Query → ℤ
answer k Newlines = at_greatest k.newlines
answer k Indent = at_greatest (in_units k.settings.indent)
answer k LineLength = at_greatest (in_units k.settings.line_length)
answer k LastWidth = at_greatest (in_units k.last_width)
answer k Filling = pos (if k.settings.filling then 1 else 0)
answer k LineSpacing = pos 40
answer k ColumnWidth = pos 24
answer k Arguments = at_greatest k.arguments
answer k PagePlace = place_told (nl k.layout)
answer k PageLength = at_greatest (in_heights k.layout.length)
answer k PageOffset = at_greatest (in_units k.layout.offset)
answer k WayToTrap = way_told (way_to_trap k.layout)
answer k TextPlace = place_told (text_place k.layout)
answer k DiversionHeight = at_greatest (in_heights k.layout.height)
answer k DiversionWidth = at_greatest (in_units k.layout.width)
answer k DiversionName = pos 0

-- the place from which heights are measured, in basic units: that of the text
abbrev pub place_down : Known → ℤ
place_down k = at_greatest (in_heights (place_now k.layout))

-- the page number's name
abbrev pub page_name : List ℕ
page_name = codes "%"

-- whether a name is the page number's
abbrev pub is_page : List ℕ → Bool
is_page name = bytes_eq name page_name

-- the page number's register
abbrev pub page_register : Known → Register
page_register k = record {
  value = k.layout.number;
  increment = k.registers.page_increment;
  format = k.registers.page_format;
}

-- the register that a name reads as, if it isn't read-only
abbrev pub settable : List ℕ → Known → Register
settable name k = if is_page name then page_register k else register_of name k.registers.named

-- a diversion's name as text, or nothing
abbrev pub name_told : Option ShortName → List ℕ
name_told None = []
name_told (Some name) = name_bytes name

-- the text of a read-only register that asks for this: a name as it is, and a value in plain decimal
abbrev pub text_answered : Known → Query → List ℕ
text_answered k DiversionName = name_told (diversion_name k.layout)
text_answered k query = register_text (Decimal 1) (answer k query)

-- the text of a name that asks for this, if it does
abbrev pub text_asked : Option Query → Known → List ℕ → List ℕ
text_asked (Some query) k name = text_answered k query
text_asked None k name = let r : Register = settable name k in register_text r.format r.value.0

-- the text that the escape `\n` gives
abbrev pub text_of_register : Known → List ℕ → List ℕ
text_of_register k name = text_asked (query_of name) k name

-- the value that is in force under a name, by the read-only register that the name asks for, if it asks for one
abbrev pub value_asked : Option Query → Known → List ℕ → Num
value_asked (Some query) k name = record { 0 = answer k query }
value_asked None k name = (settable name k).value

-- the value that is in force under a name
abbrev pub value_in_force : Known → List ℕ → Num
value_in_force k name = value_asked (query_of name) k name

-- whether the page number is odd
abbrev pub is_page_odd : Known → Bool
is_page_odd k = unsigned_abs k.layout.number.0 % 2 == 1

-- a change of the registers; one of a read-only register changes nothing, and the page number's value isn't among them
pub data Change : Type 0 where
  -- `nr`: a value and an increment
  SetTo : (name : List ℕ) (value increment : Num) → Change
  -- `af`: a format
  FormatAs : (name : List ℕ) (format : Format) → Change
  -- `rr`: these go; the page number stays
  Remove : (names : List (List ℕ)) → Change
  -- `\n+x`, `\n-x`: a step, if it isn't out of range
  StepBy : (name : List ℕ) (direction : Direction) → Change
  -- `em`: this macro is read behind the input
  ReadLast : (name : Option ShortName) → Change
  -- `pc`: this character stands for the page number in titles
  CharacterIs : (character : Option ℕ) → Change
  -- a title begins: these bytes are read of its left part
  TitleBegins : (bytes : List ℕ) → Change
  -- bytes are read of the part that comes
  TitleGets : (bytes : List ℕ) → Change
  -- that part has ended
  PartEnds : Change

-- what is kept of the page number changed so, or the others
abbrev pub changing_one : List ℕ → (AllRegisters → AllRegisters) → (Registers → Registers) → AllRegisters → AllRegisters
changing_one name page others rs =
    if is_read_only name then rs
    else if is_page name then page rs
    else record rs { named = others rs.named }

-- the registers behind a change
abbrev pub changed_by : Change → AllRegisters → AllRegisters
changed_by (SetTo name value increment) rs =
    changing_one name (λ r. record r { page_increment = increment }) (with_setting name value increment) rs
changed_by (FormatAs name format) rs =
    changing_one name (λ r. record r { page_format = format }) (with_format name format) rs
changed_by (Remove names) rs = record rs { named = fold (λ named name. without_entry name named) rs.named names }
changed_by (StepBy name direction) rs =
    changing_one name (λ r. r) (with_step direction name) rs
changed_by (ReadLast name) rs = record rs { last_macro = name }
changed_by (CharacterIs character) rs = record rs { page_character = character }
changed_by (TitleBegins bytes) rs = record rs { title = title_begun bytes }
changed_by (TitleGets bytes) rs = record rs { title = with_bytes bytes rs.title }
changed_by PartEnds rs = record rs { title = part_ended rs.title }

-- behind some changes, one after another
abbrev pub changed_by_all : List Change → AllRegisters → AllRegisters
changed_by_all [] rs = rs
changed_by_all (c ∷ cs) rs = changed_by_all cs (changed_by c rs)

-- whether a step would be out of range; a read-only register isn't stepped
abbrev pub is_step_out_of_range : Direction → List ℕ → Known → Bool
is_step_out_of_range direction name k =
    not (is_read_only name) && not (is_in_range (next_value direction (settable name k)))

-- the step that an escape makes, if it makes one
abbrev pub step_changes : Option Direction → List ℕ → List Change
step_changes None name = []
step_changes (Some direction) name = StepBy name direction ∷ []

-- what is said of it
abbrev pub step_messages : Option Direction → List ℕ → Known → List Message
step_messages None name k = []
step_messages (Some direction) name k = if is_step_out_of_range direction name k then BadNumber ∷ [] else []

-- a page number, if it isn't out of range
abbrev pub number_in_range : ℤ → Option Num
number_in_range v = if is_in_range v then Some (record { 0 = v }) else None

-- the number that the page gets by a step, if it gets one
abbrev pub page_stepped : Option Direction → List ℕ → Known → Option Num
page_stepped None name k = None
page_stepped (Some direction) name k =
    if is_page name then number_in_range (next_value direction (page_register k)) else None

-- the layout where the page got a number, if it did
abbrev pub numbered : Option Num → Layout → Layout
numbered None L = L
numbered (Some n) L = record L { number = n }

-- what is known behind some changes
abbrev pub known_behind : List Change → Known → Known
known_behind changes k = record k { registers = changed_by_all changes k.registers }

-- and behind a step
abbrev pub known_stepped : Option Direction → List ℕ → Known → Known
known_stepped step name k =
    record (known_behind (step_changes step name) k) { layout = numbered (page_stepped step name k) k.layout }
