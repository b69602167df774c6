-- Bytes that are taken together and put behind a text in the making (manual, section 7.1).
use Rattle.std.specs.Prelude.{◌≡◌, ℕ, List}
use Rattle.input_model.specs.Input.Names.{adding}
use Rattle.input_model.specs.Unread.{Unread}
use Rattle.input_source.specs.Tape.{Tape}
use Rattle.roff_scan.specs.Unread.Calls.{PassesFront}
use Rattle.roff_scan.specs.Unread.Runs.{with_stage_of}

-- These bytes that came next were taken together, each at its cost, and these were put behind the newest text in the making, if there
-- is one; nothing else changed beside what is counted.
pub record CopiesFront {E : Type 0} (old new : Tape → Type 0) (bytes text : List ℕ) (before after : Unread E) : Type 0 where
  pub passes : PassesFront old new bytes before (record after { input = with_stage_of before.input after.input })
  pub arguments : after.input.arguments ≡ before.input.arguments
  pub half_read : after.input.escapes ≡ before.input.escapes
  pub texts : after.input.open_texts ≡ (adding text before.input).open_texts
