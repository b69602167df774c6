-- Bytes of a title that the reader takes at once (manual, section 14).
use Rattle.std.specs.Prelude.{◌≡◌, ℕ, ◌≤◌, ◌⊎◌, List, [], map}
use Rattle.std.specs.List.{AllByRecursion}
use Rattle.input_source.specs.Tape.{Tape}
use Rattle.input_model.specs.Unread.{IsWithin, Stays}
use Rattle.roff_scan.specs.Unread.Calls.{PassesFront}
use Rattle.read_registers.specs.Titles.Fronts.{IsPlain, kept_byte}
use Rattle.read_lines.specs.Reader.State.{ReaderState}
use Rattle.run_model.specs.Reading.Items.{PageUnread}
use Rattle.run_model.specs.Registers.{TitleGets}
use Rattle.run_model.specs.Registers.Capped.{with_change}
use Rattle.run_model.specs.TitleTexts.{title_length}
use Rattle.run_model.specs.declared.line_state.LineState.TheVariants.{Title as InTitle}

-- bytes of a part came next: each stands for the page number, a blank or itself, none passes the limit, and nothing but the title and
-- what is counted changes
pub record TitleBytes (delimiter : ℕ) (bytes : List ℕ) (gave gives : Tape → Type 0) (old new : ReaderState) (before after : PageUnread) : Type 0 where
  pub reading : old.reading ≡ InTitle delimiter
  pub none_half : before.input.escapes ≡ []
  pub plain : AllByRecursion (IsPlain delimiter) bytes
  pub added : new ≡ record old { registers = with_change (TitleGets (map (kept_byte old.registers.all.page_character) bytes)) old.registers }
  pub room : title_length new.registers.all.title ≤ new.registers.line
  pub passes : PassesFront gave gives bytes before after

-- no byte was taken, and the source wasn't asked
pub record TakesNone (gave gives : Tape → Type 0) (old new : ReaderState) (before after : PageUnread) : Type 0 where
  pub reader : new ≡ old
  pub unread : after ≡ before
  pub stays : Stays gave gives

-- some were taken at once, or none
pub record ReadsTitle (gave gives : Tape → Type 0) (old new : ReaderState) (before after : PageUnread) : Type 0 where
  pub took : ((delimiter : ℕ) × ((bytes : List ℕ) × TitleBytes delimiter bytes gave gives old new before after))
      ⊎ TakesNone gave gives old new before after
  pub within : IsWithin after
