-- What a string's text begins with.
use Rattle.std.specs.Prelude.{◌≡◌, ℕ, ◌==◌, true, false, if◌then◌else◌, List, [], ◌∷◌, take, take_while, Some}
use Rattle.input_source.specs.Bytes.{blank, is_text_byte, quote}
use Rattle.roff_scan.specs.Unread.Calls.{next_bytes}
use Rattle.roff_scan.specs.Unread.Runs.{room_for}
use Rattle.roff_scan.specs.declared.run_kind.RunKind.TheVariants.{Definition}
use Rattle.run_model.specs.Reading.Items.{PageUnread}
use Rattle.run_model.specs.declared.line_state.LineState.{LineState}
use Rattle.run_model.specs.declared.line_state.LineState.TheVariants.{Collecting}
use Rattle.run_model.specs.declared.purpose.Purpose.TheVariants.{StringText}
use Rattle.read_shortcuts.specs.Runs.{ready_allowed}
use Rattle.read_shortcuts.specs.declared.strings.TextFront.{TextFront}
use Rattle.read_shortcuts.specs.declared.strings.TextFront.TheVariants.{Quote, Kept, Other}

-- these bytes begin with one that is neither a blank nor a quote
pub record AreKept (bytes : List ℕ) : Type 0 where
  pub first : ℕ
  pub rest : List ℕ
  pub are : bytes ≡ first ∷ rest
  pub no_blank : (first == blank) ≡ false
  pub no_quote : (first == quote) ≡ false

-- the bytes that come next do
abbrev pub BeginsKept : List ℕ → PageUnread → Type 0
BeginsKept ready u = AreKept (next_bytes u.input.ahead u.looked ready)

-- a quote is the first of these bytes
pub record IsQuoted (bytes : List ℕ) : Type 0 where
  pub rest : List ℕ
  pub are : bytes ≡ quote ∷ rest

-- what these bytes begin with
abbrev pub text_front : List ℕ → TextFront
text_front [] = Other
text_front (b ∷ rest) = if b == quote then Quote else if b == blank then Other else Kept

-- the bytes of the source that are taken together where a string's text begins so: a quote alone, or those up to one that isn't
-- kept, as many as the limits have room for
abbrev pub bytes_of_front : TextFront → PageUnread → List ℕ → List ℕ
bytes_of_front Quote u ready = quote ∷ []
bytes_of_front Kept u ready = take_while is_text_byte (take (room_for Definition u) ready)
bytes_of_front Other u ready = []

-- those that are taken where this is read
abbrev pub string_front : LineState → PageUnread → List ℕ → List ℕ
string_front (Collecting (StringText (Some name) appends true)) u ready = bytes_of_front (text_front (ready_allowed u ready)) u ready
string_front (_) u ready = []
