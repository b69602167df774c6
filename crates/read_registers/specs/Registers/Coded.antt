-- What the code of the registers is given, as the definition's.
use Rattle.std.specs.Prelude.{◌≡◌, ℕ, List}
use Rattle.read_registers.specs.Lasting.{NumbersKept}
use Rattle.read_registers.specs.declared.lasting.Change.{Change as CodedChange}
use Rattle.read_registers.specs.declared.lasting.Change.TheVariants.{SetTo as CodedSetTo, FormatAs as CodedFormatAs, ReadLast as CodedReadLast, CharacterIs as CodedCharacterIs}
use Rattle.read_registers.specs.declared.registers.Facts.{Facts}
use Rattle.run_model.specs.declared.query.Query.{Query}
use Rattle.read_registers.specs.declared.registers.read_only.ReadOnly.{ReadOnly}
use Rattle.roff_pages.specs.Pages.Stands.{StandsAs}
use Rattle.run_model.specs.Registers.{Known, Change, SetTo, FormatAs, ReadLast, CharacterIs}

-- a row that the code's table of read-only registers has
abbrev pub coded_row : (List ℕ × Query) → ReadOnly
coded_row row = record { name = row.0; query = row.1 }

-- these are facts of what is known of a run
pub record AreOf (k : Known) (facts : Facts) : Type 0 where
  pub settings : facts.composer.now.environments.in_force.lines.settings ≡ k.settings
  pub last_width : facts.composer.now.environments.in_force.lines.last_width ≡ k.last_width
  pub newlines : facts.newlines ≡ k.newlines
  pub arguments : facts.arguments ≡ k.arguments
  pub pages : StandsAs k.layout facts.composer.now.pages

-- these are the number registers that are known
pub record AreNumbersOf (k : Known) (n : NumbersKept) : Type 0 where
  pub named : n.named ≡ k.registers.named
  pub page_increment : n.page_increment ≡ k.registers.page_increment
  pub page_format : n.page_format ≡ k.registers.page_format

-- a change that a request makes
abbrev pub change_of : CodedChange → Change
change_of (CodedSetTo name value increment) = SetTo name value increment
change_of (CodedFormatAs name format) = FormatAs name format
change_of (CodedReadLast name) = ReadLast name
change_of (CodedCharacterIs character) = CharacterIs character
