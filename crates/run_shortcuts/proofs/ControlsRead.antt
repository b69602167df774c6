-- A control line whose front was read at once, and what was done behind it: the run goes further.
use Rattle.std.proofs.Common.{◌≡◌, ℕ, Bool, true, false, Result, refl, ap, ◌∙◌}
use Rattle.input_source.specs.Tape.{Tape}
use Rattle.input_source.specs.declared.source.ByteSource as byte_source
use Rattle.page_bytes.specs.Sinks.{Sunk}
use Rattle.read_lines.specs.Reader.State.{ReaderState}
use Rattle.read_shortcuts.specs.ControlFronts.{is_past, is_read}
use Rattle.read_shortcuts.specs.ControlReads.{ReadsControl}
use Rattle.read_shortcuts.specs.declared.control.ControlRead.{ControlRead}
use Rattle.read_shortcuts.specs.declared.control.ControlRead.TheVariants.{Condition, Decided, Dropped, Escape, Front, Held, HeldForCall, HeldToEnd, Nothing, Short}
use Rattle.run_items.specs.Outcome.{Seen, seen}
use Rattle.run_model.specs.Reading.Items.{PageUnread}
use Rattle.run_model.specs.declared.status.Status.{Status}
use Rattle.run_shortcuts.proofs.ConditionsAtOnce.{goes_further_at_once}
use Rattle.run_shortcuts.proofs.Turned.{goes_past_turned}
use Rattle.run_turns.specs.declared.running.Running.{Running as Coded}
use Rattle.run_turns.specs.Running.Turning.{Comes}
use Rattle.run_turns.proofs.ComingFurther.{comes_both, comes_further, comes_nowhere}

-- what was read, and not past, and no newline is left of it: it decided
decided_else : (result : ControlRead) → is_past result ≡ false → is_read result ≡ true → (result ≡ HeldToEnd → ⊥) → result ≡ Decided
decided_else Decided past some no_line = refl
decided_else HeldToEnd past some no_line = absurd (no_line refl)
decided_else Nothing past some no_line = let wrong : false ≡ true = some in absurd (cc)
decided_else Escape past some no_line = let wrong : false ≡ true = some in absurd (cc)
decided_else Short past some no_line = let wrong : false ≡ true = some in absurd (cc)
decided_else Front past some no_line = let wrong : true ≡ false = past in absurd (cc)
decided_else Dropped past some no_line = let wrong : true ≡ false = past in absurd (cc)
decided_else Condition past some no_line = let wrong : true ≡ false = past in absurd (cc)
decided_else (Held behind) past some no_line = let wrong : true ≡ false = past in absurd (cc)
decided_else (HeldForCall behind) past some no_line = let wrong : true ≡ false = past in absurd (cc)

module _ {S : Type 0} (g : byte_source.Ghosts S) (was is : S) (out err : Sunk) (old : Coded) (after : PageUnread) (r : ReaderState) (result : ControlRead)
    (read : ReadsControl g was is old.interpreter.formatter.composer old.interpreter.reader r old.unread after result) where
  -- where the run stands behind it
  abbrev there : Coded
  there = record old { unread = after; interpreter = record old.interpreter { reader = r } }

  module _ (fewer : Bool) (gives : Tape → Type 0) (notes : ℕ) (new : Coded) (behind : Seen) {ended : Result (Unit {0}) Status}
      (further : Comes fewer (g.gives is) gives (g.notes is) notes there new (seen (g.failures is) out err) behind ended) where
    -- from in front of it
    abbrev Onward : Type 0
    Onward = Comes fewer (g.gives was) gives (g.notes was) notes old new (seen (g.failures was) out err) behind ended

    -- behind bytes that were read past
    pub comes_behind : is_past result ≡ true → Onward
    comes_behind past =
        comes_both false
        (goes_past_turned (g.gives was) (g.gives is) (g.notes was) (g.notes is) (g.failures was) (g.failures is) out err old after r (read.past past) read.notes read.failures) further

    -- where nothing was read
    pub comes_unread : is_read result ≡ false → Onward
    comes_unread none =
        let kept = read.unchanged none in
        comes_both false
        (comes_nowhere (g.gives was) (g.gives is) (g.notes was) (g.notes is) (g.failures was) (g.failures is) out err old there (ap g.gives kept.2) (ap g.notes kept.2) (ap g.failures kept.2)
        (ap (λ (x : ReaderState). record old { interpreter = record old.interpreter { reader = x }; unread = after }) kept.0 ∙ ap (λ (u : PageUnread). record old { unread = u }) kept.1))
        further

    -- where no newline was taken that isn't read yet
    pub comes_other : (result ≡ HeldToEnd → ⊥) → Onward
    comes_other no_line = by (is_past result) refl (is_read result) refl
      where
        by : (past : Bool) → is_past result ≡ past → (some : Bool) → is_read result ≡ some → Onward
        by true past some told = comes_behind past
        by false past false none = comes_unread none
        by false past true some =
            comes_both false
            (comes_further
            (goes_further_at_once (g.gives was) (g.gives is) (g.notes was) (g.notes is) (g.failures was) (g.failures is) out err old after r
            (read.decides (decided_else result past some no_line)) read.notes read.failures))
            further
