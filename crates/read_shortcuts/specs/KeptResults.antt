-- Results of conditions that are kept where their lines are read at once (manual, section 16).
use Rattle.std.specs.Prelude.{ℕ, Bool, if◌then◌else◌, List, ◌∷◌, length}
use Rattle.run_model.specs.Reading.Items.{PageInput, PageUnread}

-- the results that are kept behind a condition, by whether its own is to be
abbrev pub results_kept : Bool → Bool → PageInput → List (Bool × ℕ)
results_kept keeps so i = if keeps then (so, length i.calls) ∷ i.results else i.results

-- the input with them
abbrev pub kept_input : Bool → Bool → PageInput → PageInput
kept_input keeps so i = record i { results = results_kept keeps so i }

abbrev pub kept_unread : Bool → Bool → PageUnread → PageUnread
kept_unread keeps so u = record u { input = kept_input keeps so u.input }
