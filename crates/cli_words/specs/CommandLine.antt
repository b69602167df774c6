-- The command line: its commands, options and operands, and what its words ask for.
use Rattle.std.specs.Prelude.{◌≡◌, ◌≢◌, ◌⊎◌, ◌^◌, ◌-◌, ◌&&◌, ℕ, Bool, false, true, List, [], ◌∷◌, length, map, min, fold, bytes_eq, nat_lt, Option, Some, None, if◌then◌else◌, option_and_then, option_map, unwrap_or, codes, decimal, pos}
use Rattle.std.specs.Char.{digit_value}
use Rattle.std.specs.List.{list_all}
use Rattle.std.specs.Str.Parse.{digits_value, without_leading_plus}
use Rattle.clap.specs.Words.{App, IsAmong, Kinds, Row, Rule, Text, all_of, new_app, new_rule, one_of, with_rule, with_subcommand}
use Rattle.clap.specs.declared.builder.ArgAction.TheVariants.{Append}
use Rattle.clap.specs.declared.error.ErrorKind.{ErrorKind}
use Rattle.clap.specs.declared.error.ErrorKind.TheVariants.{DisplayHelp, DisplayVersion}
use Rattle.clap.specs.declared.builder.value_parser.ValueParser.TheVariants.{Signed}
use Rattle.roff_num.specs.declared.limit.Limit.{Limit}
use Rattle.roff_num.specs.declared.limit.Limit.TheVariants.{Bytes, Store, Stack, Depth, Names, Line, Traps, Output, Diversions, Environments, Conditions, Rows, Columns, Text as TableText, Width, TblBytes, Messages}
use Rattle.roff_num.specs.declared.limits.Limits.{Limits}
use Rattle.roff_num.specs.Clauses.{default_limits, limit_name, limits_with, value_of}
use Rattle.tbl_format.specs.declared.limits.TblLimits.{TblLimits}
use Rattle.tbl_format.specs.TblLimits.{default_tbl_limits, tbl_limits_with, tbl_value_of}
use Rattle.roff_num.specs.declared.num.Num.{Num}
use Rattle.cli_words.specs.PagesAsked.{pages_asked, told_pages}
use Rattle.cli_words.specs.RegistersAsked.{registers_asked, told}
use Rattle.cli_words.specs.declared.options.LimitOf.{LimitOf}
use Rattle.cli_words.specs.declared.options.LimitOf.TheVariants.{Formatter, Tables}
use Rattle.cli_words.specs.declared.request.Asked.{Asked}
use Rattle.cli_words.specs.declared.request.Asked.TheVariants.{Nroff, Tbl, Both}
use Rattle.cli_words.specs.declared.request.Request.{Request}

-- the limits of the formatter that have an option, in the order of help
abbrev pub option_limits : List Limit
option_limits = Bytes ∷ Store ∷ Stack ∷ Depth ∷ Names ∷ Line ∷ Traps ∷ Output ∷ Diversions ∷ Environments ∷ Conditions ∷ Messages ∷ []

-- those of tables beside the formatter, and those of tables alone
abbrev pub table_limits : List Limit
table_limits = Rows ∷ Columns ∷ TableText ∷ Width ∷ []

abbrev pub tbl_limits : List Limit
tbl_limits = Rows ∷ Columns ∷ TableText ∷ Width ∷ TblBytes ∷ Output ∷ Messages ∷ []

-- the value of an option that isn't used, as a text, if it has one
abbrev pub default_texts : Option ℕ → List Text
default_texts None = []
default_texts (Some default) = decimal default ∷ []

-- an option that takes a number from 0 to 1,000,000,000, with its default, if it has one
abbrev pub number_option : Text → Option ℕ → Rule
number_option name default = record (new_rule name) {
  long = Some name;
  value_names = 1;
  parser = Some (Signed (pos 0) (pos 1000000000));
  defaults = default_texts default;
}

-- whether a limit bounds something where no option sets it: that on messages doesn't
abbrev pub is_bound_by_default : Limit → Bool
is_bound_by_default Messages = false
is_bound_by_default _ = true

-- what a limit of a part of the program is where no option sets it
abbrev pub value_by_default : LimitOf → Limit → ℕ
value_by_default Formatter limit = value_of default_limits limit
value_by_default Tables limit = tbl_value_of default_tbl_limits limit

-- the default that its option shows: none where that bounds nothing
abbrev pub default_of : LimitOf → Limit → Option ℕ
default_of of limit = if is_bound_by_default limit then Some (value_by_default of limit) else None

-- its option has its name and default
abbrev pub limit_option : LimitOf → Limit → Rule
limit_option of limit = number_option (limit_name limit) (default_of of limit)

-- the option that numbers the first page: no number is greater than this
abbrev pub greatest_first_page : ℕ
greatest_first_page = 99999

abbrev pub first_page_option : Rule
first_page_option = record (new_rule (codes "first-page")) {
  short = Some 110;
  long = Some (codes "first-page");
  value_names = 1;
  parser = Some (Signed (pos 0) (pos greatest_first_page));
}

-- the option that lists the pages that are written
abbrev pub pages_option : Rule
pages_option = record (new_rule (codes "pages")) { short = Some 111; long = Some (codes "pages"); value_names = 1 }

-- the option that sets a number register: its name, and an expression behind it; it may be repeated
abbrev pub register_option : Rule
register_option = record (new_rule (codes "register")) {
  short = Some 114;
  long = Some (codes "register");
  value_names = 1;
  action = Some Append;
}

-- a command with the options of what is given to a run at its start
abbrev pub with_start : App → App
with_start app = with_rule (with_rule (with_rule app first_page_option) pages_option) register_option

-- the line length, in columns, within which tables are centred
abbrev pub line_length_option : Rule
line_length_option = number_option (codes "line-length") (Some 65)

-- the operands: any number of files, and standard input where there is none
abbrev pub file_operand : Rule
file_operand = record (new_rule (codes "FILE")) {
  range = Some (record { start_inclusive = 0; end_inclusive = 2 ^ 64 - 1 });
  action = Some Append;
  defaults = codes "-" ∷ [];
}

-- a command of this name, before its options
abbrev pub command_named : Text → App
command_named name = with_rule (new_app name) file_operand

-- the command `nroff` formats text, `tbl` puts pictures for tables, and `both` does one behind the other
unfoldable pub nroff_app : App
nroff_app = fold with_rule (with_start (command_named (codes "nroff"))) (map (limit_option Formatter) option_limits)

unfoldable pub tbl_app : App
tbl_app = with_rule (fold with_rule (command_named (codes "tbl")) (map (limit_option Tables) tbl_limits)) line_length_option

unfoldable pub both_app : App
both_app =
    let named = with_start (command_named (codes "both")) in
    let formatter = fold with_rule named (map (limit_option Formatter) option_limits) in
    with_rule (fold with_rule formatter (map (limit_option Tables) table_limits)) line_length_option

-- the program `roff`: it has a version, and wants a command
unfoldable pub roff_app : App
roff_app =
    let roff = new_app (codes "roff") in
    let top = record roff { top = record roff.top { has_version = true; subcommand_required = true } } in
    with_subcommand (with_subcommand (with_subcommand top nroff_app.top) tbl_app.top) both_app.top

-- the number that a text writes, if it writes one below 2^32
abbrev pub number_of : Text → Option ℕ
number_of text =
    let digits = without_leading_plus text in
    if nat_lt 0 (length digits) && list_all (λ d. nat_lt (digit_value d) 10) digits && nat_lt (digits_value 10 digits) (2 ^ 32)
    then Some (digits_value 10 digits)
    else None

-- the number that a limit's option is given
abbrev pub number_asked : List Row → Limit → Option ℕ
number_asked rows limit = option_and_then number_of (one_of (limit_name limit) rows)

-- limits with one of them set, if there is a number for it; how one is set is passed
abbrev pub set_if_asked : {L : Type 0} → (L → Limit → ℕ → L) → L → Limit → Option ℕ → L
set_if_asked set l limit None = l
set_if_asked set l limit (Some n) = set l limit n

-- limits with one of them set by its option
abbrev pub set_by : {L : Type 0} → (L → Limit → ℕ → L) → List Row → L → Limit → L
set_by set rows l limit = set_if_asked set l limit (number_asked rows limit)

-- the limits that the options ask for, and the default of each other one
abbrev pub limits_asked : List Row → Limits
limits_asked rows = fold (set_by limits_with rows) default_limits option_limits

abbrev pub tbl_limits_asked : List Row → TblLimits
tbl_limits_asked rows = fold (set_by tbl_limits_with rows) default_tbl_limits tbl_limits

-- beside the formatter: its limit on the bytes of the input is that of tables too
abbrev pub table_limits_asked : List Row → TblLimits
table_limits_asked rows =
    record (fold (set_by tbl_limits_with rows) default_tbl_limits table_limits) { bytes = (limits_asked rows).bytes }

-- the line length that is asked for
abbrev pub line_length_asked : List Row → ℕ
line_length_asked rows = unwrap_or (option_and_then number_of (one_of (codes "line-length") rows)) 65

-- the number of the first page, if one is asked for
abbrev pub first_page_of : ℕ → Num
first_page_of n = record { 0 = pos (min n greatest_first_page) }

abbrev pub first_page_asked : List Row → Option Num
first_page_asked rows = option_map first_page_of (option_and_then number_of (one_of (codes "first-page") rows))

-- what a command's options ask for, by its name
abbrev pub asked_by : Text → List Row → Option Asked
asked_by name rows =
    if bytes_eq name (codes "nroff") then Some (Nroff (limits_asked rows))
    else if bytes_eq name (codes "tbl") then Some (Tbl (tbl_limits_asked rows) (line_length_asked rows))
    else if bytes_eq name (codes "both") then Some (Both (limits_asked rows) (table_limits_asked rows) (line_length_asked rows))
    else None

-- the same of the command that the parser found
abbrev pub asked_in : Option (Text × List Row) → Option Asked
asked_in None = None
asked_in (Some (name, rows)) = asked_by name rows

-- each limit has the number that its option is given, and its default where it is given none; one without an
-- option is none of these
abbrev pub EachOptionSetsItsLimit : {L : Type 0} → (L → Limit → ℕ) → (List Row → L) → L → Type 0
EachOptionSetsItsLimit {L} value asked default =
    (rows : List Row) (limit : Limit)
    → (value (asked rows) limit ≡ unwrap_or (number_asked rows limit) (value default limit))
    ⊎ ((l : L) → value l limit ≡ 0)

-- the files that the operands name
abbrev pub files_asked : List Row → List Text
files_asked rows = unwrap_or (all_of (codes "FILE") rows) []

-- the request is for these files, this first page, these pages and registers, and what else the command's options ask for
pub record Asks (name : Text) (rows : List Row) (request : Request) : Type 0 where
  pub files : map (λ file. file.now) request.files.items ≡ files_asked rows
  pub first_page : request.first_page ≡ first_page_asked rows
  pub pages : told_pages request.pages ≡ pages_asked rows
  pub registers : told request.registers ≡ registers_asked rows
  pub asked : Some request.asked ≡ asked_by name rows

-- the request is for the command that the parser found, with its options and operands
abbrev pub AsksFor : Option (Text × List Row) → Request → Type 0
AsksFor None request = ⊥
AsksFor (Some (name, rows)) request = Asks name rows request

-- the words ask for help or for the version
abbrev pub AskForHelp : Kinds → Type 0
AskForHelp kinds = (kinds ≢ []) × ((kind : ErrorKind) → IsAmong kind kinds → (kind ≡ DisplayHelp) ⊎ (kind ≡ DisplayVersion))

-- the words have a mistake
abbrev pub AreMistaken : Kinds → Type 0
AreMistaken kinds = (kinds ≢ []) × ((kind : ErrorKind) → IsAmong kind kinds → (kind ≢ DisplayHelp) × (kind ≢ DisplayVersion))
