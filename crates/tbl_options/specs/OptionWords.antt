-- The words of options, as they come one after another: each waits for the next one, with which it may be known.
use Rattle.std.specs.Prelude.{ℕ, ◌≤◌, Bool, true, false, not, ◌&&◌, List, [], ◌∷◌, slice_range, if◌then◌else◌, ◌==◌}
use Rattle.tbl_options.specs.Options.{is_unknown, option_of, option_of_two, with_set}
use Rattle.tbl_options.specs.declared.options.OptionsRead.{OptionsRead}
use Rattle.tbl_options.specs.declared.options.Options.{Options}
use Rattle.tbl_options.specs.declared.options.TableOption.{TableOption}

-- the word that waits, if it has a byte
abbrev pub held_word : List ℕ → OptionsRead → List ℕ
held_word text r = slice_range text r.from r.to

pub record IsHeld (len : ℕ) (r : OptionsRead) : Type 0 where
  pub order : r.from ≤ r.to
  pub within : r.to ≤ len

-- behind the word that waits and the next one, which say this together
abbrev pub behind_two : OptionsRead → List ℕ → TableOption → ℕ → ℕ → OptionsRead
behind_two r held two from to =
    if is_unknown two then record { options = with_set (option_of held) r.options; from = from; to = to }
    else record { options = with_set two r.options; from = to; to = to }

-- behind one word more, which lies there, if it has a byte
abbrev pub behind_word : List ℕ → OptionsRead → ℕ → ℕ → OptionsRead
behind_word text r from to =
    if from == to then r
    else if r.from == r.to then record { options = r.options; from = from; to = to }
    else behind_two r (held_word text r) (option_of_two (held_word text r) (slice_range text from to)) from to

-- behind the last word
abbrev pub options_behind : List ℕ → OptionsRead → Options
options_behind text r = if r.from == r.to then r.options else with_set (option_of (held_word text r)) r.options

-- whether the word that waits is ignored as no word comes any more, and as this one comes
abbrev pub ignores_last : List ℕ → OptionsRead → Bool
ignores_last text r = not (r.from == r.to) && is_unknown (option_of (held_word text r))

abbrev pub ignores_before : List ℕ → OptionsRead → ℕ → ℕ → Bool
ignores_before text r from to =
    if from == to then false
    else ignores_last text r && is_unknown (option_of_two (held_word text r) (slice_range text from to))

abbrev pub ignored_by : Bool → List ℕ → List (List ℕ)
ignored_by true word = word ∷ []
ignored_by false word = []
