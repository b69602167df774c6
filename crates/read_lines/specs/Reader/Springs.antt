-- How the reader reads a macro that sprang.
use Rattle.std.specs.Prelude.{◌≡◌, Result, Ok, Err}
use Rattle.input_model.specs.Input.Calls.{springing}
use Rattle.input_model.specs.Input.Names.{body_named}
use Rattle.roff_num.specs.ShortNames.{name_bytes}
use Rattle.roff_num.specs.declared.limit.Limit.{Limit}
use Rattle.roff_num.specs.declared.short_name.ShortName.{ShortName}
use Rattle.read_lines.specs.Reader.State.{ReaderState}
use Rattle.input_model.specs.Unread.{changing}
use Rattle.run_model.specs.Reading.Items.{PageInput, PageUnread}
use Rattle.run_model.specs.Reading.Returns.{back_of, in_sprung}
use Rattle.run_model.specs.declared.line_state.LineState.{LineState}
use Rattle.run_model.specs.declared.request.Called.{Called}
use Rattle.run_model.specs.declared.request.Called.TheVariants.{Body as ABody}

-- the input as the body of a name springs
abbrev pub sprung_input : ShortName → LineState → PageInput → PageInput
sprung_input name reading i = springing (body_named (name_bytes name) i) (back_of reading) i

-- the reader, as far as it read that
abbrev pub ReadsSprung : ReaderState → ReaderState → Result (Unit {0}) Limit → Type 0
ReadsSprung old new (Ok done) = new ≡ record old { reading = in_sprung old.reading }
ReadsSprung old new (Err limit) = new ≡ old

-- What a name stands for was put in front as it sprang, unless a limit refused it; without a body nothing changed.
pub record SpringsBody (name : ShortName) (old new : ReaderState) (before behind : PageUnread) (result : Result (Unit {0}) Limit) : Type 0 where
  pub input : (result, behind) ≡ changing (sprung_input name old.reading before.input) before
  pub reads : ReadsSprung old new result

-- and without a body nothing changed
pub record SpringsNothing (old new : ReaderState) (before behind : PageUnread) (result : Result (Unit {0}) Limit) : Type 0 where
  pub goes_on : result ≡ Ok tt
  pub input : behind ≡ before
  pub reader : new ≡ old

abbrev pub Springs : Called → ReaderState → ReaderState → PageUnread → PageUnread → Result (Unit {0}) Limit → Type 0
Springs (ABody name) old new before behind result = SpringsBody name old new before behind result
Springs (_) old new before behind result = SpringsNothing old new before behind result
