-- The first argument of a line, as far as it is read and isn't whole.
use Rattle.std.specs.Prelude.{◌≡◌, ◌⊎◌, ℕ, ◌==◌, ◌||◌, Bool, true, false, not, List, [], ◌∷◌, ⊤, ◌+◌, ◌-◌, drop, length, min, take, take_while, Some}
use Rattle.input_model.specs.Arguments.{is_behind_quote}
use Rattle.input_model.specs.declared.place.Place.{Place}
use Rattle.input_model.specs.declared.place.Place.TheVariants.{Between}
use Rattle.input_arguments.specs.ArgumentTexts.Kept.{StopsAt}
use Rattle.input_source.specs.Bytes.{blank, quote}
use Rattle.input_source.specs.Tape.{Tape}
use Rattle.input_model.specs.Input.{pushed}
use Rattle.input_model.specs.Unread.{Unread, asks_to_take}
use Rattle.roff_scan.specs.Unread.Runs.{TakesRun}
use Rattle.roff_scan.specs.declared.run_kind.RunKind.TheVariants.{CallArguments}

-- a byte that neither ends an argument nor quotes
abbrev pub is_inside : ℕ → Bool
is_inside b = not (b == blank || b == quote)

-- none of these bytes ends an argument: blanks stand in front of it, where none is begun, and then bytes of it
abbrev pub Unended : Bool → List ℕ → Type 0
Unended none_begun [] = ⊤
Unended none_begun (b ∷ bytes) = (((b == blank) ≡ true) × ((none_begun ≡ true) × Unended none_begun bytes)) ⊎ ((is_inside b ≡ true) × Unended false bytes)

-- where the reading may stand in front of them
abbrev pub MayStand : Bool → Place → Type 0
MayStand true place = place ≡ Between
MayStand false place = is_behind_quote place ≡ false

-- how many of these bytes are blanks, up to the first that isn't, and how many neither end an argument nor quote
abbrev pub blanks_in : List ℕ → ℕ
blanks_in bytes = length (take_while (λ b. b == blank) bytes)

abbrev pub inside_in : List ℕ → ℕ
inside_in bytes = length (take_while is_inside bytes)

-- of these bytes the blanks in front of an argument, if none is begun, and the bytes behind them up to a blank or a quote
abbrev pub first_argument : Bool → List ℕ → List ℕ
first_argument true bytes = take (blanks_in bytes + inside_in (drop (blanks_in bytes) bytes)) bytes
first_argument false bytes = take (inside_in bytes) bytes

-- how many bytes of an argument the limits have room for
abbrev pub first_room : {E : Type 0} → Unread E → ℕ
first_room u = min (u.limits.bytes - u.input.charge) (u.limits.stack - pushed u.input)

-- So many bytes were taken together that are held in the first argument of a line, none of which ends it. Of the source all that stand
-- ready are, up to the first that isn't held or ends it, or as many as the limits have room for; none where an argument is whole.
pub record TakesFirst {E : Type 0} (old new : Tape → Type 0) (ready : List ℕ) (count : ℕ) (before after : Unread E) : Type 0 where
  pub none_begun : Bool
  pub stands : MayStand none_begun before.input.arguments.place
  pub took : TakesRun (CallArguments 1) old new ready count before after
  pub unended : Unended none_begun took.bytes
  pub between : before.input.arguments.place ≡ Between → none_begun ≡ true
  pub stops : asks_to_take before ≡ true → StopsAt (Some 1) (first_argument none_begun (take (first_room before) ready)) count after.input.arguments
