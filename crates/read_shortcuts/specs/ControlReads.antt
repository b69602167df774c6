-- What was read of a control line at once, and what it led to.
use Rattle.std.specs.Prelude.{◌≡◌, ◌<◌, ◌≤◌, true, false}
use Rattle.input_source.specs.declared.source.ByteSource as byte_source
use Rattle.run_state.specs.declared.composer.Composer.{Composer as ComposerOf}
use Rattle.read_lines.specs.Reader.State.{ReaderState}
use Rattle.run_model.specs.Reading.Items.{PageUnread}
use Rattle.read_shortcuts.specs.Conditions.{DecidesAtOnce}
use Rattle.read_shortcuts.specs.ControlFronts.{is_past, is_read}
use Rattle.read_shortcuts.specs.DroppedLines.{LineBegun}
use Rattle.read_shortcuts.specs.Runs.{IsRun}
use Rattle.read_shortcuts.specs.Stages.{ReadsLine, ReadsPast}
use Rattle.read_shortcuts.specs.declared.control.ControlRead.{ControlRead}
use Rattle.read_shortcuts.specs.declared.control.ControlRead.TheVariants.{Condition, Decided, Dropped, Held, HeldForCall, HeldToEnd}
use Rattle.roff_scan.specs.declared.unread.lines.BehindHeld.{BehindHeld}
use Rattle.roff_scan.specs.declared.run_kind.RunKind.TheVariants.{Arguments, CallArguments, Condition as ConditionRun}

-- This was read of a control line, over a source that was at one state and is at another: its bytes were read past, or up to its newline,
-- or a condition decided, and what stands behind them begins: some were taken; or nothing changed. The source has no more notes, and failed no
-- more often.
pub record ReadsControl {S : Type 0} (g : byte_source.Ghosts S) (was is : S) (es : ComposerOf) (old new : ReaderState) (before after : PageUnread) (result : ControlRead) : Type 0 where
  pub past : is_past result ≡ true → ReadsPast (g.gives was) (g.gives is) old new before after
  pub line : result ≡ HeldToEnd → ReadsLine (g.gives was) (g.gives is) old new before after
  pub held : (behind : BehindHeld) → result ≡ Held behind → IsRun Arguments new.reading after.input.escapes
  pub call : (behind : BehindHeld) → result ≡ HeldForCall behind → IsRun (CallArguments 8) new.reading after.input.escapes
  pub condition : result ≡ Condition → IsRun ConditionRun new.reading after.input.escapes
  pub decides : result ≡ Decided → DecidesAtOnce es (g.gives was) (g.gives is) old new before after
  pub dropped : result ≡ Dropped → LineBegun new before after
  pub taken : is_read result ≡ true → before.input.charge < after.input.charge
  pub unchanged : is_read result ≡ false → (new ≡ old) × (after ≡ before) × (is ≡ was)
  pub notes : g.notes is ≤ g.notes was
  pub failures : g.failures is ≡ g.failures was
