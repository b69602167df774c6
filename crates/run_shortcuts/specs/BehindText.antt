-- What stands behind bytes of a text that were told, as far as is seen.
use Rattle.std.specs.Prelude.{ℕ, ◌-◌, Bool, false, List, [], ◌∷◌, ◌==◌, ◌||◌, drop, nat_le, if◌then◌else◌}
use Rattle.input_source.specs.Bytes.{backslash, blank}
use Rattle.run_model.specs.Reading.Items.{PageUnread}
use Rattle.read_shortcuts.specs.Runs.{ready_allowed}
use Rattle.run_shortcuts.specs.declared.fronts.Behind.{Behind}
use Rattle.run_shortcuts.specs.declared.fronts.Behind.TheVariants.{Escape, Named, Other}

-- whether a byte behind a backslash begins a name of a text: `n` that of a register, `*` of a string, `$` of an argument
abbrev pub begins_name : ℕ → Bool
begins_name b = b == 110 || (b == 42 || b == 36)

-- a backslash, with these bytes behind it: the escape of such a text, or another one
abbrev pub escape_before : List ℕ → Behind
escape_before [] = Escape
escape_before (b ∷ bytes) = if begins_name b then Named else Escape

-- what these bytes begin with: an escape, or anything else
abbrev pub begin_with : List ℕ → Behind
begin_with [] = Other
begin_with (b ∷ bytes) = if b == backslash then escape_before bytes else Other

-- what stands at this place of these bytes: at their end and behind it nothing is seen
abbrev pub behind_text : List ℕ → ℕ → Behind
behind_text bytes place = begin_with (drop place bytes)

-- whether the first of these bytes is no control byte
abbrev pub begins_above_controls : List ℕ → Bool
begins_above_controls [] = false
begins_above_controls (b ∷ bytes) = nat_le blank b

-- what stands behind so many of these bytes that were told; where a control byte stands first nothing is looked at
abbrev pub behind_told : List ℕ → ℕ → Behind
behind_told bytes count = if begins_above_controls bytes then behind_text bytes count else Other

-- what stands behind bytes that were told of those that stood ready: each of them counted
abbrev pub behind_ready : List ℕ → PageUnread → PageUnread → Behind
behind_ready ready old new = behind_told (ready_allowed old ready) (new.input.charge - old.input.charge)
