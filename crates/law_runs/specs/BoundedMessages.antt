-- Laws over runs whose messages are bounded. The message that says why a run ended isn't counted.
use Rattle.std.specs.Prelude.{◌≡◌, ℕ, ◌<◌, ◌≤◌, length, None}
use Rattle.roff_num.specs.declared.limit.Limit.TheVariants.{Messages}
use Rattle.roff_num.specs.declared.limits.Limits.{Limits}
use Rattle.run_model.specs.Run.{State, after, initial, step, stopped_by, told_after}
use Rattle.run_model.specs.declared.start.Start.{Start}
use Rattle.input_source.specs.Tape.{Tape}

-- behind each number of steps the messages have so many bytes at the most
abbrev pub MessagesAreWithin : Type 0
MessagesAreWithin =
    (l : Limits) (start : Start) (tape : Tape) (n : ℕ) → length (told_after l n (initial l start tape)).messages ≤ l.messages

-- What comes of so many steps whose messages are bounded. Where the messages are within the limit behind as many steps without the
-- bound, it is what comes of these. Or the run stops, with the message of that limit, at the state before the first step with
-- which its messages would pass it.
pub data ToldOrStopped (l : Limits) (n : ℕ) (s : State) : State → Type 0 where
  AllTold : length (after l n s).messages ≤ l.messages → ToldOrStopped l n s (after l n s)
  StopsBefore : (m : ℕ) → m < n → (after l m s).ended ≡ None → length (after l m s).messages ≤ l.messages
      → l.messages < length (step l (after l m s)).messages → ToldOrStopped l n s (stopped_by l Messages (after l m s))

-- the limit on messages changes nothing else
abbrev pub MessagesOnlyStop : Type 0
MessagesOnlyStop =
    (l : Limits) (start : Start) (tape : Tape) (n : ℕ) → ToldOrStopped l n (initial l start tape) (told_after l n (initial l start tape))
