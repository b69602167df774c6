-- The arguments of a control line (manual, section 7.3).
use Rattle.std.specs.Prelude.{◌≡◌, ℕ, ◌+◌, ◌<◌, Bool, true, false, not, ◌||◌, List, [], ◌∷◌, ◌++◌, length, reverse, take, drop, filter, slice_get, if◌then◌else◌, ◌==◌, Option, None, Some, ⊤}
use Rattle.input_model.specs.declared.place.Place.{Place}
use Rattle.input_model.specs.declared.place.Place.TheVariants.{Between, InPlain, InQuotes, BehindQuote}
use Rattle.input_escapes.specs.declared.open_escape.CopyUnit.{CopyUnit}
use Rattle.input_escapes.specs.declared.open_escape.CopyUnit.TheVariants.{Byte, Kept}
use Rattle.input_source.specs.Bytes.{blank, quote, backslash}

-- the arguments read, and the one being read, each the newest first
pub record Arguments : Type 0 where
  pub whole : List (List ℕ)
  pub begun : List ℕ
  pub place : Place

-- no argument yet
abbrev pub no_arguments : Arguments
no_arguments = record { whole = []; begun = []; place = Between }

-- the one being read is whole
abbrev pub with_whole : Arguments → Arguments
with_whole a = record { whole = reverse a.begun ∷ a.whole; begun = []; place = Between }

-- whether the quote that was read last closes its argument unless another one follows
abbrev pub is_behind_quote : Place → Bool
is_behind_quote Between = false
is_behind_quote InPlain = false
is_behind_quote InQuotes = false
is_behind_quote BehindQuote = true

-- one byte more of the one being read
abbrev pub with_byte : Arguments → Place → ℕ → Arguments
with_byte a place b = record a { begun = b ∷ a.begun; place = place }

-- a byte between arguments: a blank, an opening quote, or the first byte of one
abbrev pub between : Arguments → ℕ → Arguments
between a b =
    if b == blank then a
    else if b == quote then record a { place = InQuotes }
    else with_byte a InPlain b

-- a byte, by where the reading stands
abbrev pub with_byte_at : Place → Arguments → ℕ → Arguments
with_byte_at Between a b = between a b
with_byte_at InPlain a b = if b == blank then with_whole a else with_byte a InPlain b
with_byte_at InQuotes a b = if b == quote then record a { place = BehindQuote } else with_byte a InQuotes b
with_byte_at BehindQuote a b = if b == quote then with_byte a InQuotes b else between (with_whole a) b

-- the arguments behind one byte more of the line
abbrev pub with_argument_byte : Arguments → ℕ → Arguments
with_argument_byte a b = with_byte_at a.place a b

-- the arguments where what follows is no quote, by where the reading stands
abbrev pub settled_at : Place → Arguments → Arguments
settled_at Between a = a
settled_at InPlain a = a
settled_at InQuotes a = a
settled_at BehindQuote a = with_whole a

-- the arguments where what follows is no quote: behind one within quotes the argument is whole
abbrev pub settled : Arguments → Arguments
settled a = settled_at a.place a

-- where the reading stands once a byte has begun an argument, if none was begun
abbrev pub in_argument : Place → Place
in_argument Between = InPlain
in_argument InPlain = InPlain
in_argument InQuotes = InQuotes
in_argument BehindQuote = BehindQuote

-- two bytes of the argument being read, or of the one that they begin
abbrev pub with_two_bytes : Arguments → ℕ → ℕ → Arguments
with_two_bytes a b c = with_byte (with_byte a (in_argument a.place) b) (in_argument a.place) c

-- the arguments behind an escape that is kept: its two bytes neither separate nor quote
abbrev pub with_kept : Arguments → ℕ → Arguments
with_kept a b = with_two_bytes (settled a) backslash b

-- the arguments behind a unit of copy mode
abbrev pub with_unit : Arguments → CopyUnit → Arguments
with_unit a (Byte b) = with_argument_byte a b
with_unit a (Kept b) = with_kept a b

-- the arguments behind a unit of a text in which nothing separates or quotes
abbrev pub with_plain : Arguments → CopyUnit → Arguments
with_plain a (Byte b) = with_byte a InPlain b
with_plain a (Kept b) = with_byte (with_byte a InPlain backslash) InPlain b

-- the bytes of some texts
abbrev pub total_length : List (List ℕ) → ℕ
total_length [] = 0
total_length (text ∷ texts) = length text + total_length texts

-- the bytes that arguments hold while they are read
abbrev pub held : Arguments → ℕ
held a = total_length a.whole + length a.begun

-- the arguments once the line has ended, by where the reading stood
abbrev pub finished_at : Place → Arguments → Arguments
finished_at Between a = a
finished_at InPlain a = with_whole a
finished_at InQuotes a = with_whole a
finished_at BehindQuote a = with_whole a

-- the arguments once the line has ended: the one being read is whole
abbrev pub finished : Arguments → Arguments
finished a = finished_at a.place a

-- the arguments in order, at the line's end
abbrev pub arguments_read : Arguments → List (List ℕ)
arguments_read a = reverse (finished a).whole

-- how many arguments are kept whatever they are
abbrev pub kept_by_place : ℕ
kept_by_place = 32

-- whether a text has a byte
abbrev pub has_byte : List ℕ → Bool
has_byte [] = false
has_byte (b ∷ text) = true

-- so many arguments, and of those behind them the ones that have a byte: an empty one there is kept by nobody
abbrev pub kept_behind : ℕ → List (List ℕ) → List (List ℕ)
kept_behind n texts = take n texts ++ filter has_byte (drop n texts)

-- what is kept of a line's arguments
abbrev pub kept : List (List ℕ) → List (List ℕ)
kept texts = kept_behind kept_by_place texts

-- of the arguments that are whole only those that are kept
abbrev pub only_kept : Arguments → Arguments
only_kept a = record a { whole = reverse (kept (reverse a.whole)) }

-- what is kept of the arguments behind such bytes of the line
abbrev pub bytes_held : List ℕ → Arguments → Arguments
bytes_held [] a = a
bytes_held (b ∷ bytes) a = bytes_held bytes (only_kept (with_argument_byte a b))

-- fewer than so many arguments are whole, or any number of them where there is no bound
abbrev pub AreFewer : Option ℕ → Arguments → Type 0
AreFewer None a = ⊤
AreFewer (Some most) a = length a.whole < most

-- that is so before each of these bytes is held
abbrev pub HeldFewer : Option ℕ → List ℕ → Arguments → Type 0
HeldFewer most [] a = ⊤
HeldFewer most (b ∷ bytes) a = AreFewer most a × HeldFewer most bytes (only_kept (with_argument_byte a b))

-- those that are kept by place are at their places
abbrev pub FirstArgumentsAreKept : Type 0
FirstArgumentsAreKept =
    (texts : List (List ℕ)) (index : ℕ) → index < kept_by_place → slice_get (kept texts) index ≡ slice_get texts index

-- the bytes of the arguments of calls that aren't over
abbrev pub live_bytes : List (List (List ℕ)) → ℕ
live_bytes [] = 0
live_bytes (arguments ∷ calls) = total_length arguments + live_bytes calls

-- whether a byte is one of an argument, by where the reading stands: else it separates or quotes
abbrev pub is_held : Place → ℕ → Bool
is_held Between b = not (b == blank || b == quote)
is_held InPlain b = not (b == blank)
is_held InQuotes b = not (b == quote)
is_held BehindQuote b = not (b == blank)
