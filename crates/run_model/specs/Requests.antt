-- The requests, as in the manual's alphabetical list of requests and sections.
use Rattle.std.specs.Prelude.{ℕ, ◌+◌, Bool, true, false, List, [], ◌∷◌, ◌++◌, map, codes, slice_get, Option, Some, None, ◌&&◌}
use Rattle.roff_store.specs.Named.{Named, entry_of}
use Rattle.roff_store.specs.Texts.{Entry, Body, Request as RequestEntry}
use Rattle.page_model.specs.declared.settings.Param.TheVariants.{Filling, Adjusting}
pub use Rattle.run_model.specs.PageEvents.{PageEvent}
pub use Rattle.run_model.specs.declared.event.PageEvent.TheVariants.{Text, Interrupt, Environment, Back, InputTrap as SetsTrap, Page}
pub use Rattle.run_model.specs.Registers.{Known}
use Rattle.run_model.specs.declared.request.LineReading.{LineReading}
use Rattle.run_model.specs.declared.request.LineReading.TheVariants.{ByArguments, ByCondition, ByElse, ByLastLine, ByMessage, ByString, ByLines, ByTitle}
use Rattle.run_model.specs.declared.request.Request.{Request}
use Rattle.run_model.specs.declared.request.Request.TheVariants.{Abort, Adjust, AppendDiversion, AppendString, AssignFormat, BeginPage, Break, ChangeTrap, DefineString, DiversionTrap, Divert, Else, EndMacro, Exit, Fill, If, IfElse, Indent, InputTrap, LineLength, Need, NoAdjust, NoFill, NoSpace, NumberRegister, PageLength, PageNumber, PageOffset, PlantTrap, RemoveNames, RemoveRegisters, Rename, RestoreSpacing, Space as SpaceDown, TellMessage, WithoutEffect, LeftOut, AppendMacro, DefineMacro, Ignore, Centre, Environment as SwitchEnvironment, LineSpacing, TabStops, TemporaryIndent, PageCharacter, Title as TitleRequest, TitleLength}
use Rattle.run_model.specs.declared.request.Called.{Called}
use Rattle.run_model.specs.declared.request.Called.TheVariants.{Request as ARequest, Body as ABody, Nothing as Unknown}
use Rattle.run_model.specs.declared.request.LinesFor.TheVariants.{Macro, Nobody}
use Rattle.roff_num.specs.declared.short_name.ShortName.{ShortName}
use Rattle.roff_num.specs.ShortNames.{name_bytes}
pub use Rattle.run_model.specs.Requests.Effects.{Effect, doing, saying, Response, Around, Ignored, Obeyed, nothing, setting, left_out, meant_by}
use Rattle.run_model.specs.Requests.Adjustment.{adjust, centre}
use Rattle.run_model.specs.Requests.Spacing.{space_down, need, spaceless, line_spacing}
use Rattle.run_model.specs.Requests.Lengths.{line_length, indent, temporary_indent, title_length}
use Rattle.run_model.specs.Requests.Paging.{begin_page, page_length, page_number, page_offset}
use Rattle.run_model.specs.Requests.Tabs.{tab_stops}
use Rattle.run_model.specs.Requests.Switching.{switch}
use Rattle.run_model.specs.Requests.Naming.{end_macro, remove_names, rename}
use Rattle.run_model.specs.Requests.Springing.{input_trap}
use Rattle.run_model.specs.Requests.Titles.{page_character, place_title}
use Rattle.run_model.specs.Requests.Traps.{change_trap, plant_trap}
use Rattle.run_model.specs.Requests.Diverting.{diversion_trap, divert}
use Rattle.run_model.specs.Requests.Numbering.{assign_format, set_register, remove_registers}
pub mod Effects
pub mod Adjustment
pub mod Spacing
pub mod Lengths
pub mod Paging
pub mod Tabs
pub mod Switching
pub mod Numbering
pub mod Naming
pub mod Springing
pub mod Titles
pub mod Traps
pub mod Diverting

-- a request's name, how its line is read, whether it breaks, and what it does with its arguments
pub record Row : Type 0 where
  pub name : List ℕ
  pub line : LineReading
  pub breaks : Bool
  pub does : Known → List (List ℕ) → Response

-- a row, as it stands in the table
abbrev pub row : List ℕ → LineReading → Bool → (Known → List (List ℕ) → Response) → Row
row name line breaks does = record { name = name; line = line; breaks = breaks; does = does }

-- the same, whatever is known and given
abbrev pub always : Response → Known → List (List ℕ) → Response
always done known as_given = done

-- the table, in the order of the names, and beside each request the number of its section
abbrev pub row_of : Request → Row
row_of Abort = row (codes "ab") (ByMessage true) false (always nothing)  -- section 20
row_of Adjust = row (codes "ad") ByArguments false (λ known. adjust)  -- section 4
row_of AssignFormat = row (codes "af") ByArguments false (λ known. assign_format)  -- section 8
row_of AppendMacro = row (codes "am") (ByLines (Macro true)) false (always nothing)  -- section 7
row_of AppendString = row (codes "as") (ByString true) false (always nothing)  -- section 7
row_of BeginPage = row (codes "bp") ByArguments true begin_page  -- section 3
row_of Break = row (codes "br") ByArguments true (always nothing)  -- section 4
row_of Centre = row (codes "ce") ByArguments true (λ known. centre)  -- section 4
row_of ChangeTrap = row (codes "ch") ByArguments false change_trap  -- section 7
row_of AppendDiversion = row (codes "da") ByArguments false (λ known. divert true)  -- section 7
row_of DefineMacro = row (codes "de") (ByLines (Macro false)) false (always nothing)  -- section 7
row_of Divert = row (codes "di") ByArguments false (λ known. divert false)  -- section 7
row_of DefineString = row (codes "ds") (ByString false) false (always nothing)  -- section 7
row_of DiversionTrap = row (codes "dt") ByArguments false diversion_trap  -- section 7
row_of Else = row (codes "el") ByElse false (always nothing)  -- section 16
row_of EndMacro = row (codes "em") ByArguments false (λ known. end_macro)  -- section 7
row_of SwitchEnvironment = row (codes "ev") ByArguments false switch  -- section 17
row_of Exit = row (codes "ex") ByLastLine false (always nothing)  -- section 18
row_of Fill = row (codes "fi") ByArguments true (always (setting (Filling true)))  -- section 4
row_of IfElse = row (codes "ie") (ByCondition true) false (always nothing)  -- section 16
row_of If = row (codes "if") (ByCondition false) false (always nothing)  -- section 16
row_of Ignore = row (codes "ig") (ByLines Nobody) false (always nothing)  -- section 20
row_of Indent = row (codes "in") ByArguments true indent  -- section 6
row_of InputTrap = row (codes "it") ByArguments false (λ known. input_trap)  -- section 7
row_of LineLength = row (codes "ll") ByArguments false line_length  -- section 6
row_of LineSpacing = row (codes "ls") ByArguments false line_spacing  -- section 5
row_of TitleLength = row (codes "lt") ByArguments false title_length  -- section 14
row_of NoAdjust = row (codes "na") ByArguments false (always (setting (Adjusting false)))  -- section 4
row_of Need = row (codes "ne") ByArguments false need  -- section 3
row_of NoFill = row (codes "nf") ByArguments true (always (setting (Filling false)))  -- section 4
row_of NumberRegister = row (codes "nr") ByArguments false set_register  -- section 8
row_of NoSpace = row (codes "ns") ByArguments false (always (spaceless true))  -- section 5
row_of PageCharacter = row (codes "pc") ByArguments false (λ known. page_character)  -- section 14
row_of PageLength = row (codes "pl") ByArguments false page_length  -- section 3
row_of PageNumber = row (codes "pn") ByArguments false page_number  -- section 3
row_of PageOffset = row (codes "po") ByArguments false page_offset  -- section 3
row_of RemoveNames = row (codes "rm") ByArguments false (λ known. remove_names)  -- section 7
row_of Rename = row (codes "rn") ByArguments false (λ known. rename)  -- section 7
row_of RemoveRegisters = row (codes "rr") ByArguments false (λ known. remove_registers)  -- section 8
row_of RestoreSpacing = row (codes "rs") ByArguments false (always (spaceless false))  -- section 5
row_of SpaceDown = row (codes "sp") ByArguments true space_down  -- section 5
row_of TabStops = row (codes "ta") ByArguments false (λ known. tab_stops)  -- section 9
row_of TemporaryIndent = row (codes "ti") ByArguments true temporary_indent  -- section 6
row_of TitleRequest = row (codes "tl") ByTitle false (always place_title)  -- section 14
row_of TellMessage = row (codes "tm") (ByMessage false) false (always nothing)  -- section 20
row_of PlantTrap = row (codes "wh") ByArguments false plant_trap  -- section 7
row_of (WithoutEffect name) = row name ByArguments false (always nothing)
row_of (LeftOut name) = row name ByArguments false (always (left_out name))

-- the names of those that are read without effect
abbrev pub names_without_effect : List (List ℕ)
names_without_effect =
    codes "bd" ∷ codes "cs" ∷ codes "fp" ∷ codes "ft" ∷ codes "ps" ∷ codes "ss"  -- section 2
    ∷ codes "vs"  -- section 5
    ∷ codes "cu" ∷ codes "lg" ∷ codes "ul"  -- section 10
    ∷ codes "hc" ∷ codes "hw" ∷ codes "hy" ∷ codes "nh"  -- section 13
    ∷ codes "lf" ∷ []  -- section 20

-- the names of those that are left out
abbrev pub names_left_out : List (List ℕ)
names_left_out =
    codes "mk" ∷ codes "rt"  -- section 3
    ∷ codes "os" ∷ codes "sv"  -- section 5
    ∷ codes "fc" ∷ codes "lc" ∷ codes "tc"  -- section 9
    ∷ codes "c2" ∷ codes "cc" ∷ codes "ec" ∷ codes "eo" ∷ codes "tr" ∷ codes "uf"  -- section 10
    ∷ codes "nm" ∷ codes "nn"  -- section 15
    ∷ codes "rd"  -- section 18
    ∷ codes "cf" ∷ codes "nx" ∷ codes "pi" ∷ codes "so" ∷ codes "sy"  -- section 19
    ∷ codes "fl" ∷ codes "mc" ∷ codes "pm" ∷ []  -- section 20

-- the requests that are built, in the order of their names
abbrev pub built : List Request
built =
    Abort ∷ Adjust ∷ AssignFormat ∷ AppendMacro ∷ AppendString ∷ BeginPage ∷ Break ∷ Centre ∷ ChangeTrap ∷ AppendDiversion ∷ DefineMacro
    ∷ Divert ∷ DefineString ∷ DiversionTrap ∷ Else ∷ EndMacro ∷ SwitchEnvironment ∷ Exit ∷ Fill ∷ IfElse ∷ If ∷ Ignore ∷ Indent
    ∷ InputTrap ∷ LineLength ∷ LineSpacing ∷ TitleLength ∷ NoAdjust ∷ Need ∷ NoFill ∷ NumberRegister ∷ NoSpace ∷ PageCharacter
    ∷ PageLength ∷ PageNumber ∷ PageOffset ∷ RemoveNames ∷ Rename ∷ RemoveRegisters ∷ RestoreSpacing ∷ SpaceDown ∷ TabStops
    ∷ TemporaryIndent ∷ TitleRequest ∷ TellMessage ∷ PlantTrap ∷ []

-- those that do nothing, or nothing but say that they are left out
abbrev pub others : List Request
others = map WithoutEffect names_without_effect ++ map LeftOut names_left_out

-- all requests
abbrev pub requests : List Request
requests = built ++ others

-- what names stand for before anything is read: that of each request for the request, by its place in the list
abbrev pub entries_from : ℕ → List Request → Named Entry
entries_from number [] = []
entries_from number (request ∷ others) = ((row_of request).name, RequestEntry number) ∷ entries_from (number + 1) others

abbrev pub first_entries : Named Entry
first_entries = entries_from 0 requests

-- the request that an entry is for
abbrev pub request_of : Option Entry → Option Request
request_of None = None
request_of (Some (RequestEntry number)) = slice_get requests number
request_of (Some (Body bytes)) = None

-- the request that a name stands for, if it stands for one
abbrev pub request_named : List ℕ → Named Entry → Option Request
request_named name names = request_of (entry_of name names)

-- what a line does whose name has this entry
abbrev pub called_as : ShortName → Option Entry → Called
called_as name None = Unknown
called_as name (Some (RequestEntry number)) =
    elim (slice_get requests number) [ None ↦ Unknown | Some request ↦ ARequest request ]
called_as name (Some (Body bytes)) = ABody name

-- what a line does that begins with a name
abbrev pub called_by : ShortName → Named Entry → Called
called_by name names = called_as name (entry_of (name_bytes name) names)

-- what a request means: it breaks if its row says so and a dot called it
abbrev pub request_effect : Known → Bool → Request → List (List ℕ) → Effect
request_effect known breaks request as_given =
    let row : Row = row_of request in meant_by (breaks && row.breaks) (row.does known as_given)
