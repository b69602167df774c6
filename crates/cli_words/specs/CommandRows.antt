-- Worked command lines, without the program's name.
use Rattle.std.specs.Prelude.{ℕ, ℤ, List, ◌∷◌, codes, Option, Some, None, Result, if◌then◌else◌, option_map}
use Rattle.clap.specs.Words.{Kinds, Text, fault_of, subcommand_of, takes}
use Rattle.roff_num.specs.declared.limits.Limits.{Limits}
use Rattle.roff_num.specs.declared.num.Num.{Num}
use Rattle.roff_num.specs.Clauses.{default_limits}
use Rattle.tbl_format.specs.declared.limits.TblLimits.{TblLimits}
use Rattle.cli_words.specs.CommandLine.{asked_by, files_asked, first_page_asked, roff_app}
use Rattle.cli_words.specs.PagesAsked.{pages_asked}
use Rattle.cli_words.specs.RegistersAsked.{registers_asked}
use Rattle.cli_words.specs.declared.request.Asked.{Asked}
use Rattle.cli_words.specs.declared.request.Asked.TheVariants.{Nroff, Tbl, Both}

-- the files that a command is asked to read, and what its options ask for
pub record AskedOf : Type 0 where
  pub files : List Text
  pub asked : Option Asked

-- what the words ask for, where they are in order
abbrev pub asked : List Text → Option AskedOf
asked words =
    let all = codes "roff" ∷ words in
    if takes roff_app all
    then option_map (λ p. record { files = files_asked p.1; asked = asked_by p.0 p.1 }) (subcommand_of roff_app all)
    else None

-- the registers that the words ask for, where they are in order, or the first text that is bad
abbrev pub registers : List Text → Option (Result (List (ℕ × Num)) Text)
registers words =
    let all = codes "roff" ∷ words in
    if takes roff_app all then option_map (λ p. registers_asked p.1) (subcommand_of roff_app all) else None

-- the number of the first page, where the words are in order and ask for one, and the pages that are written, or the text of a bad
-- list
abbrev pub first_page : List Text → Option (Option Num)
first_page words =
    let all = codes "roff" ∷ words in
    if takes roff_app all then option_map (λ p. first_page_asked p.1) (subcommand_of roff_app all) else None

abbrev pub pages : List Text → Option (Result (List (Num × Num)) Text)
pages words =
    let all = codes "roff" ∷ words in
    if takes roff_app all then option_map (λ p. pages_asked p.1) (subcommand_of roff_app all) else None

-- a register of this name, with this value
abbrev pub valued : ℕ → ℤ → ℕ × Num
valued name value = (name, record { 0 = value })

-- `nroff` with these files and these limits
abbrev pub formats : List Text → Limits → Option AskedOf
formats files limits = Some (record { files = files; asked = Some (Nroff limits) })

-- `tbl`, and `both`, for this line length
abbrev pub tables : List Text → TblLimits → ℕ → Option AskedOf
tables files limits line_length = Some (record { files = files; asked = Some (Tbl limits line_length) })

abbrev pub formats_tables : List Text → Limits → TblLimits → ℕ → Option AskedOf
formats_tables files limits table_limits line_length =
    Some (record { files = files; asked = Some (Both limits table_limits line_length) })

-- the default limits, with these on the bytes and on a line
abbrev pub limited : ℕ → ℕ → Limits
limited bytes line = record default_limits { bytes = bytes; line = line }

-- one limit after another, from 1 on
abbrev pub numbered : Limits
numbered = record {
  bytes = 1;
  store = 2;
  stack = 3;
  depth = 4;
  names = 5;
  line = 6;
  traps = 7;
  output = 8;
  diversions = 9;
  environments = 10;
  conditions = 11;
  messages = 12;
}

-- the same of the limits of tables
abbrev pub tables_numbered : TblLimits
tables_numbered = record { rows = 1; columns = 2; text = 3; width = 4; bytes = 5; output = 6; messages = 7 }

-- the fault of the words
abbrev pub fault : List Text → Kinds
fault words = fault_of roff_app (codes "roff" ∷ words)
