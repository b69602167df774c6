-- How a text line begins whose bytes stand in front (manual, section 4.1).
use Rattle.std.specs.Prelude.{◌≡◌, ℕ, ◌+◌, ◌≤◌, ◌&&◌, ◌==◌, Bool, true, List, [], ◌∷◌, None, nat_lt, not}
use Rattle.roff_num.specs.declared.limits.Limits.{Limits}
use Rattle.input_model.specs.Unread.{asks_to_take}
use Rattle.input_source.specs.Bytes.{apostrophe, backslash, dot}
use Rattle.run_model.specs.Environments.{PageHistory, interrupted_line}
use Rattle.run_state.specs.Composer.Standing.{StandFor}
use Rattle.run_events.specs.Formatter.Telling.{TellsFront}
use Rattle.run_events.specs.declared.formatter.Formatter.{Formatter}
use Rattle.read_shortcuts.specs.Runs.{ready_allowed}
use Rattle.run_turns.specs.declared.running.Running.{Running as Coded}

-- a byte with which a text line begins, and which is printed: neither a control byte, a blank, DEL, a backslash nor one that begins
-- a control line
abbrev pub begins_text : ℕ → Bool
begins_text b = nat_lt 32 b && not (b == 127) && not (b == backslash) && not (b == dot) && not (b == apostrophe)

-- such a byte comes first of these
abbrev pub BeginWithText : List ℕ → Type 0
BeginWithText [] = ⊥
BeginWithText (b ∷ bytes) = begins_text b ≡ true

-- plain text stands ready where a line begins: the source's next byte is the next one, and the limit on bytes allows it
abbrev pub StandsText : List ℕ → Coded → Type 0
StandsText ready run = (asks_to_take run.unread ≡ true) × BeginWithText (ready_allowed run.unread ready)

-- the run stands for a history behind which no interrupted line goes on
pub record NoneGoesOn (run : Coded) : Type 0 where
  pub limits : Limits
  pub history : PageHistory
  pub stands : StandFor limits history run.interpreter.formatter.composer
  pub none : interrupted_line history ≡ None

-- As many of these bytes as are told together were told and taken, and maybe others behind them: once a page has begun, all that finish
-- no line and keep the pending line within its limit.
pub record TellsText (front : List ℕ) (old new : Coded) : Type 0 where
  pub count : ℕ
  pub behind : Formatter
  pub tells : TellsFront front count old.interpreter.formatter behind
  pub taken : old.unread.input.charge + count ≤ new.unread.input.charge
