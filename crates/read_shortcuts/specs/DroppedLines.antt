-- Lines that are dropped, read at once with their newlines (manual, section 7).
use Rattle.std.specs.Prelude.{◌≡◌, ◌<◌, ◌≤◌, ◌+◌, ℕ, List, [], ◌∷◌, ◌++◌, length, drop}
use Rattle.read_lines.specs.Reader.State.{ReaderState}
use Rattle.run_model.specs.Reading.Items.{PageUnread}
use Rattle.run_model.specs.Stages.{Turned, stage_of}
use Rattle.run_model.specs.TurnsToCome.{turns_to_come}
use Rattle.run_model.specs.declared.line_state.LineState.{LineState}
use Rattle.run_model.specs.declared.line_state.LineState.TheVariants.{Dropped, LineStart}
use Rattle.roff_scan.specs.Unread.Calls.{IsFront, NoNewline, front_bytes}
use Rattle.input_source.specs.Bytes.{newline}

-- so many bytes stand in front, one at least and no newline, behind which the rest of the line is dropped
pub record LeadsToDropped (count : ℕ) (reading : LineState) (ready : List ℕ) (u : PageUnread) : Type 0 where
  pub front : IsFront count ready u
  pub some : 1 ≤ count
  pub plain : NoNewline (front_bytes count ready u)
  pub none_half : u.input.escapes ≡ []
  pub turned : Turned u.input.names (stage_of reading u.input) (front_bytes count ready u) (stage_of Dropped u.input)

-- behind the first so many of these bytes stand others, which are dropped, and then a newline, in front of which there are so many
pub record EndsDropped (skipped : ℕ) (bytes : List ℕ) (count : ℕ) : Type 0 where
  pub dropped : List ℕ
  pub rest : List ℕ
  pub among : skipped ≤ length bytes
  pub are : drop skipped bytes ≡ dropped ++ newline ∷ rest
  pub plain : NoNewline dropped
  pub counted : count ≡ skipped + length dropped

-- a line begins behind bytes that were taken, and fewer turns are to come
pub record LineBegun (new : ReaderState) (before after : PageUnread) : Type 0 where
  pub begins : new.reading ≡ LineStart
  pub fewer : turns_to_come after < turns_to_come before
