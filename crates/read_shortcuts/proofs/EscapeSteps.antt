-- Bytes of an escape that a run takes one by one: each changes what is read and half read, and what it tells is to be done.
use Rattle.std.proofs.Common.{◌≡◌, ℕ, ◌+◌, ◌≤◌, Bool, false, List, [], ◌∷◌, ◌++◌, Option, Some, None, refl, ap, ◌∙◌, arith, map, append-nil}
use Rattle.roff_num.specs.declared.limit.Limit.{Limit}
use Rattle.roff_num.specs.declared.limits.Limits.{Limits}
use Rattle.input_escapes.specs.OpenEscape.{OpenEscape}
use Rattle.input_escapes.specs.Waiting.{is_ended_by}
use Rattle.input_model.specs.Input.{ByteAhead, with_escapes}
use Rattle.input_source.specs.Tape.{Tape}
use Rattle.run_model.proofs.ItemsTaken.{FromAhead, FromSource, IsOpenFor, Origin, ahead_at, byte_ahead_is_taken, bytes_of_the_source_are_taken, tape_at}
use Rattle.run_model.proofs.PlainRuns.{behind_byte}
use Rattle.read_shortcuts.proofs.PrintedRuns.{Fits, told_at}
use Rattle.run_model.specs.Output.{PageHistory}
use Rattle.run_model.specs.PageEvents.{PageEvent}
use Rattle.run_model.specs.Reading.{byte_taking}
use Rattle.run_model.specs.Reading.Ends.{due}
use Rattle.run_model.specs.Reading.Items.{PageInput, Taking, meaning_events}
use Rattle.run_model.specs.Registers.{AllRegisters}
use Rattle.run_model.specs.Run.{State, byte_taken, known_at, made, step, taken_as, unless_refused}
use Rattle.run_model.specs.declared.line_state.LineState.{LineState}
use Rattle.run_model.specs.declared.phase.Phase.{Phase}

-- a run with these registers and messages
module _ (l : Limits) (rs : AllRegisters) (messages : List ℕ) (phase : Phase) (closed : Bool) where
  -- where it reads this, with this half read, in front of these bytes
  abbrev pub half_at : LineState → Origin → List ℕ → Tape → List OpenEscape → PageInput → PageHistory → List PageEvent → State
  half_at r from bytes tape half i h to_do = told_at l r rs messages phase closed (tape_at from bytes tape) (record i { ahead = ahead_at from bytes; escapes = half }) h to_do

  -- a byte is taken there
  taken : (reading : LineState) (from : Origin) (tape : Tape) (b : ℕ) (bytes : List ℕ) (half : List OpenEscape) (i : PageInput) (h : PageHistory) → due reading ≡ None → IsOpenFor from closed
      → is_ended_by half (Some b) ≡ false → i.charge + 1 ≤ l.bytes
      → step l (half_at reading from (b ∷ bytes) tape half i h [])
      ≡ made l (half_at reading from (b ∷ bytes) tape half i h []) (byte_taken b (half_at reading from bytes tape half (behind_byte from b i) h []))
  taken reading (FromAhead rest) tape b bytes half i h none_due is_open goes few =
      byte_ahead_is_taken l (half_at reading (FromAhead rest) (b ∷ bytes) tape half i h []) b (map ByteAhead bytes ++ rest) refl refl refl none_due refl goes (omega (arith, few))
  taken reading (FromSource behind) tape b bytes half i h none_due is_open goes few =
      bytes_of_the_source_are_taken l (half_at reading (FromSource behind) (b ∷ bytes) tape half i h []) b
      (record { going = refl; is_open = is_open; idle = refl; unsprung = refl; none_due = none_due }) refl refl goes (omega (arith, few))

  -- what it means is to be done
  taken_as-events : (state : State) (j : PageInput) (r : LineState) (events : List PageEvent) → state.messages ≡ messages → state.to_do ≡ []
      → taken_as (meaning_events j r events) state ≡ record state { input = j; reading = r; to_do = events }
  taken_as-events state j r events said idle =
      ap (λ (all : List ℕ). record state { input = j; reading = r; messages = all; to_do = events ++ state.to_do }) (append-nil state.messages)
      ∙ ap (λ (es : List PageEvent). record state { input = j; reading = r; to_do = events ++ es }) idle
      ∙ ap (λ (es : List PageEvent). record state { input = j; reading = r; to_do = es }) (append-nil events)

  -- so the step at a byte is what the byte means
  pub step-read : (reading there : LineState) (from : Origin) (tape : Tape) (b : ℕ) (bytes : List ℕ) (half next : List OpenEscape) (events : List PageEvent) (i : PageInput) (h : PageHistory)
      → due reading ≡ None → IsOpenFor from closed → is_ended_by half (Some b) ≡ false → i.charge + 1 ≤ l.bytes
      → ((j : PageInput) → byte_taking (known_at h rs (with_escapes half j)) reading (with_escapes half j) b ≡ meaning_events (with_escapes next j) there events)
      → Fits l reading rs messages phase closed from bytes (record (behind_byte from b i) { escapes = next })
      → step l (half_at reading from (b ∷ bytes) tape half i h []) ≡ half_at there from bytes tape next (behind_byte from b i) h events
  step-read reading there from tape b bytes half next events i h none_due is_open goes few means fits =
      let before : State = half_at reading from (b ∷ bytes) tape half i h [] in
      let here : State = half_at reading from bytes tape half (behind_byte from b i) h [] in
      let behind : PageInput = record (behind_byte from b i) { ahead = ahead_at from bytes } in
      taken reading from tape b bytes half i h none_due is_open goes few
      ∙ ap (λ (t : Taking). made l before (taken_as t here)) (means behind)
      ∙ ap (made l before) (taken_as-events here (with_escapes next behind) there events refl refl)
      ∙ ap (λ (r : Option Limit). unless_refused l r before (half_at there from bytes tape next (behind_byte from b i) h events)) fits
