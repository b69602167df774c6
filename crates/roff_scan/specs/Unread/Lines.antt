-- Bytes of a control line that are taken together, and the newline that ends it (manual, section 7).
use Rattle.std.specs.Prelude.{◌≡◌, ℕ, ◌+◌, ◌-◌, ◌==◌, Bool, true, false, ◌||◌, Option, List, [], ◌∷◌, ◌++◌, length, min, drop, take, if◌then◌else◌}
use Rattle.std.specs.List.{AllByRecursion}
use Rattle.input_arguments.specs.ArgumentTexts.Kept.{StopsAt}
use Rattle.input_model.specs.Arguments.{Arguments, HeldFewer, bytes_held}
use Rattle.input_model.specs.Input.{pushed}
use Rattle.input_model.specs.Unread.{IsWithin, Unread, asks_to_take}
use Rattle.roff_scan.specs.Unread.Calls.{IsFront, PassesFront, front_bytes}
use Rattle.roff_scan.specs.Unread.FirstArguments.{first_room}
use Rattle.roff_scan.specs.declared.unread.lines.BehindHeld.{BehindHeld}
use Rattle.roff_scan.specs.declared.unread.lines.BehindHeld.TheVariants.{End, Newline, Named, Comment, Other}
use Rattle.input_source.specs.Bytes.{backslash, is_argument_byte, newline, quote}
use Rattle.input_source.specs.Tape.{Tape}

-- a newline stands behind so many bytes that come next, and the limit on bytes allows it
pub record StandsNewline {E : Type 0} (count : ℕ) (ready : List ℕ) (u : Unread E) : Type 0 where
  pub front : IsFront (count + 1) ready u
  pub last : front_bytes (count + 1) ready u ≡ front_bytes count ready u ++ newline ∷ []

-- whether a newline stands behind the bytes that are held of a line, and ended it
abbrev pub is_ended : BehindHeld → Bool
is_ended Newline = true
is_ended (_) = false

-- these bytes, and the newline behind them, if so the line ended
abbrev pub ended_by : BehindHeld → List ℕ → List ℕ
ended_by behind bytes = if is_ended behind then bytes ++ newline ∷ [] else bytes

-- whether a newline is the first of these bytes
abbrev pub begins_with_newline : List ℕ → Bool
begins_with_newline [] = false
begins_with_newline (b ∷ bytes) = b == newline

-- what a backslash begins with the byte behind it: a comment, or the escape of a register, a string or an argument
abbrev pub behind_backslash : List ℕ → BehindHeld
behind_backslash [] = Other
behind_backslash (b ∷ bytes) = if b == quote then Comment else if b == 110 || (b == 42 || b == 36) then Named else Other

-- what these bytes begin with
abbrev pub standing : List ℕ → BehindHeld
standing [] = End
standing (b ∷ bytes) = if b == newline then Newline else if b == backslash then behind_backslash bytes else Other

-- this stands behind the first so many of the bytes that stand ready, as far as the limits have room for them, where they come next
abbrev pub TellsBehind : {E : Type 0} → ℕ → List ℕ → BehindHeld → Unread E → Type 0
TellsBehind count ready behind u = asks_to_take u ≡ true → behind ≡ standing (drop count (take (first_room u) ready))

-- how many bytes of a line the limits have room for, of which all but the first so many are held
abbrev pub line_room : {E : Type 0} → ℕ → Unread E → ℕ
line_room skipped u = min (u.limits.bytes - u.input.charge) (skipped + (u.limits.stack - pushed u.input))

-- the bytes of a line behind the first so many, of those that stand ready, as far as the limits have room for them
abbrev pub line_behind : {E : Type 0} → ℕ → Unread E → List ℕ → List ℕ
line_behind skipped u ready = drop skipped (take (line_room skipped u) ready)

-- these are the arguments of the line
abbrev pub with_held : {E : Type 0} → Arguments → Unread E → Unread E
with_held a u = record u { input = record u.input { arguments = a } }

-- The first so many bytes that came next were taken, then those behind them that are held in the arguments of the line, where there is
-- a bound as long as fewer than so many are whole, and then a newline, which isn't read yet. Of the source they are all of the line, up
-- to the first that isn't held as it is read, or as many as the limits have room for.
pub record HoldsLine {E : Type 0} (most : Option ℕ) (skipped : ℕ) (old new : Tape → Type 0) (ready : List ℕ) (behind : BehindHeld) (before after : Unread E) : Type 0 where
  pub held : List ℕ
  pub are_held : AllByRecursion (λ b. is_argument_byte b ≡ true) held
  pub fewer : HeldFewer most held before.input.arguments
  pub within : IsWithin (with_held (bytes_held held before.input.arguments) before)
  pub passes : PassesFront old new (ended_by behind (front_bytes skipped ready before ++ held)) (with_held (bytes_held held before.input.arguments) before) after
  pub stops : asks_to_take before ≡ true → StopsAt most (line_behind skipped before ready) (length held) (bytes_held held before.input.arguments)
  pub stands : asks_to_take before ≡ true → behind ≡ standing (drop (length held) (line_behind skipped before ready))
