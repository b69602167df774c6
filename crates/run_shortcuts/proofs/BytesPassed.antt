-- Bytes that were taken at once, wherever they stood: the run goes past them where it is at its place behind them.
use Rattle.std.proofs.Common.{◌≡◌, ℕ, ◌+◌, ◌*◌, ◌≤◌, Bool, true, false, List, [], length, refl, sym, ap, subst, ◌∙◌, arith, map}
use Rattle.input_source.specs.Tape.{OneByte, Tape, items_then}
use Rattle.input_model.specs.Looking.{is_closed, looked_then}
use Rattle.input_model.specs.declared.looked.Looked.{Looked}
use Rattle.roff_scan.specs.Unread.Calls.{OfSource, OfTexts, PassesFront}
use Rattle.run_model.specs.Reading.Items.{PageInput, PageUnread}
use Rattle.run_model.proofs.ItemsTaken.{FromAhead, FromSource, IsOpenFor, Origin, ahead_at, tape_at}
use Rattle.run_model.proofs.PlainRuns.{counted, counted-source}
use Rattle.read_shortcuts.proofs.TurnedRuns.{counted-bytes_taken}
use Rattle.page_bytes.specs.Sinks.{Sunk}
use Rattle.run_items.specs.Outcome.{Beginning, Seen, seen}
use Rattle.run_turns.specs.declared.running.Running.{Running as Coded}
use Rattle.run_turns.specs.Running.Turning.{AreLeft, GoesPast, IsAt, turns_of_run}
use Rattle.run_model.specs.Output.{PageHistory}
use Rattle.run_state.specs.Composer.Standing.{StandFor}

-- behind bytes that were taken from there, with this unread input behind them, the run is at its place, over what is left of the
-- tape
abbrev pub ComesBehind : List ℕ → PageUnread → Coded → Coded → Type 0
ComesBehind bytes passed old new =
    (whole : Beginning) (t taken : Tape) (start now : Seen) (from : Origin) → IsOpenFor from (is_closed old.unread.looked)
    → old.unread.input.ahead ≡ ahead_at from bytes → old.unread.input.charge + length bytes ≤ old.unread.limits.bytes
    → passed ≡ record old.unread { input = counted from bytes old.unread.input }
    → looked_then old.unread.looked taken ≡ tape_at from bytes (looked_then old.unread.looked taken)
    → tape_at from [] (looked_then old.unread.looked taken) ≡ looked_then old.unread.looked t
    → IsAt whole taken start now old → IsAt whole t start now new

-- so many turns are left behind them, wherever the code stood for a history
abbrev pub LeftBehind : Bool → List ℕ → PageUnread → Coded → Coded → Type 0
LeftBehind fewer bytes passed old new =
    (from : Origin) → old.unread.input.ahead ≡ ahead_at from bytes → old.unread.input.charge + length bytes ≤ old.unread.limits.bytes
    → passed ≡ record old.unread { input = counted from bytes old.unread.input }
    → (h : PageHistory) → StandFor old.limits h old.interpreter.formatter.composer → AreLeft fewer (turns_of_run new) (turns_of_run old)

-- and as many messages of the source's
left_noted : (fewer : Bool) (left turns noted notes : ℕ) → notes ≤ noted → AreLeft fewer left turns → AreLeft fewer (left + 4 * notes) (turns + 4 * noted)
left_noted true left turns noted notes few less = omega (arith, few, less)
left_noted false left turns noted notes few less = omega (arith, few, less)

passed_at : (fewer : Bool) (gave gives : Tape → Type 0) (noted notes : ℕ) (now : Seen) (bytes : List ℕ) (old new : Coded) (passed : PageUnread)
    → new.limits ≡ old.limits → ComesBehind bytes passed old new → LeftBehind fewer bytes passed old new → notes ≤ noted → PassesFront gave gives bytes old.unread passed
    → GoesPast fewer gave gives noted notes old new now now
passed_at fewer gave gives noted notes now bytes old new passed limits comes left few (OfSource passes) =
    let is : (tape : Tape) → passed ≡ record old.unread { input = counted (FromSource tape) bytes old.unread.input } = λ tape.
    passes.input ∙ ap (λ (j : PageInput). record old.unread { input = j }) (sym (counted-source tape bytes old.unread.input passes.ahead)) in
    record {
      limits = limits;
      taken = map OneByte bytes;
      before = passes.in_front;
      comes = λ t tape start may at any.
          comes t tape (items_then (map OneByte bytes) tape) start now (FromSource tape) (ap is_closed passes.looked) passes.ahead passes.within (is tape)
          (ap (λ (looked : Looked). looked_then looked (items_then (map OneByte bytes) tape)) passes.looked)
          (sym (ap (λ (looked : Looked). looked_then looked tape) passes.looked)) at;
      turns = λ t tape start may at any.
          left_noted fewer (turns_of_run new) (turns_of_run old) noted notes few (left (FromSource tape) passes.ahead passes.within (is tape) at.history at.stands);
    }
passed_at fewer gave gives noted notes now bytes old new passed limits comes left few (OfTexts passes) =
    let from : Origin = FromAhead passes.behind in
    let is : passed ≡ record old.unread { input = counted from bytes old.unread.input } =
    passes.input ∙ ap (λ (j : PageInput). record old.unread { input = j }) (sym (counted-bytes_taken passes.behind bytes old.unread.input passes.in_front)) in
    record {
      limits = limits;
      taken = [];
      before = passes.stays.before;
      comes = λ t tape start may at any. comes t tape tape start now from tt passes.in_front passes.within is refl refl at;
      turns = λ t tape start may at any.
          left_noted fewer (turns_of_run new) (turns_of_run old) noted notes few (left from passes.in_front passes.within is at.history at.stands);
    }

-- so the run goes past them, as the source counts
pub goes_past-passed : (fewer : Bool) (gave gives : Tape → Type 0) (noted notes failed failures : ℕ) (out err : Sunk) (bytes : List ℕ) (old new : Coded) (passed : PageUnread)
    → new.limits ≡ old.limits → ComesBehind bytes passed old new → LeftBehind fewer bytes passed old new → PassesFront gave gives bytes old.unread passed
    → notes ≤ noted → failures ≡ failed → GoesPast fewer gave gives noted notes old new (seen failed out err) (seen failures out err)
goes_past-passed fewer gave gives noted notes failed failures out err bytes old new passed limits comes left passes few same =
    subst (λ (n : ℕ). GoesPast fewer gave gives noted notes old new (seen failed out err) (seen n out err)) (sym same)
    (passed_at fewer gave gives noted notes (seen failed out err) bytes old new passed limits comes left few passes)
