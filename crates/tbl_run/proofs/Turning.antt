-- The turns of the loop, as steps of the definition.
use Rattle.std.proofs.Common.{◌≡◌, ◌∙◌, ◌⊎◌, ℕ, ◌+◌, ◌-◌, ◌<◌, ◌≤◌, suc, Bool, true, false, List, [], ◌∷◌, ◌++◌, length, length-append, nat_lt, Option, Some, None, ap, append_assoc, arith, inl, inr, refl, subst, sym}
use Rattle.std.specs.Io.KnownBytes.{Appends}
use Rattle.roff_num.specs.Faults.{Rises}
use Rattle.page_bytes.proofs.Appending.{Appends-append, Appends-nothing}
use Rattle.page_bytes.specs.Devices.{AppendsBetween, Seen}
use Rattle.page_bytes.specs.Sinks.{CountsFault, Sunk}
use Rattle.run_model.specs.declared.status.Status.{Status}
use Rattle.input_source.specs.Tape.{Answer, Ended, Ends, Failed, Gives, Item, OneByte, OneNote, Stopped, Tape, items_then}
use Rattle.tbl_options.specs.Messages.{tbl_message_line}
use Rattle.tbl_core.specs.Stages.{Takes}
use Rattle.tbl_core.specs.Tables.{line_of}
use Rattle.tbl_core.specs.Yields.{At, at_start}
use Rattle.tbl_format.specs.declared.limits.TblLimits.{TblLimits}
use Rattle.tbl_options.specs.declared.message.Message.TheVariants.{WriteFailed}
use Rattle.tbl_run.specs.Coming.{HasCome}
use Rattle.tbl_run.specs.Outcome.{Completes, MessagesFail, TblOutcome, OutputFails, PutsTables}
use Rattle.tbl_run.specs.Run.{State, Written, done_with, initial, step, steps}
use Rattle.tbl_run.specs.declared.run.Counts.{Counts}
use Rattle.tbl_run.specs.Turns.{Adds, EndsItself, ErrFails, FailsAdding, GoesOn, OutFails}

-- items and then others are all of them
items_then-append : (first others : List Item) (tape : Tape) → items_then (first ++ others) tape ≡ items_then first (items_then others tape)
items_then-append first others tape = ap (λ (items : List Item). record { items = items; ending = tape.ending }) (append_assoc first others tape.items)

-- a sink was given more behind what it has
pub Appends-adds : (start : Option (List ℕ)) {now behind : Sunk} (from to : List ℕ) → Appends start now.contents from → Adds now behind from to
    → Appends start behind.contents to
Appends-adds start from to appends adds = rw adds.is (Appends-append start _ _ from adds.more appends adds.writes.written)

-- or a beginning of it
pub AppendsBetween-fails : (start : Option (List ℕ)) {now behind : Sunk} (from to : List ℕ) → Appends start now.contents from → FailsAdding now behind from to
    → AppendsBetween start behind.contents from to
AppendsBetween-fails start from to appends adding = record {
  front = adding.fails.written.front;
  back = adding.fails.written.back;
  split = adding.is ∙ ap (λ (more : List ℕ). from ++ more) adding.fails.written.split;
  written = Appends-append start _ _ from adding.fails.written.front appends adding.fails.written.written;
}

-- before the first turn
pub starts : (l : TblLimits) (line_length : ℕ) (gives : Tape → Type 0) (at : At) (now : Seen) → at ≡ at_start
    → HasCome l line_length gives gives at (record { written = 0; told = 0 }) now now
starts l line_length gives at now is = record {
  taken = [];
  gave = λ left may. may;
  turns = 0;
  written = record { output = []; messages = []; ended = None };
  goes_on = refl;
  comes = λ left may. rw is refl;
  text = Appends-nothing now.out.contents;
  told = Appends-nothing now.err.contents;
  faults = record { source = omega arith; out = refl; err = refl };
  counted = record { written = refl; told = refl };
  within = record { written = omega arith; told = omega arith };
}

-- an answer was taken
module _ {first old new : Tape → Type 0} (l : TblLimits) (line_length : ℕ) (at at' : At) (a : Answer) (counts : Counts) (line : ℕ) (start now behind : Seen)
    (come : HasCome l line_length first old at counts start now) (takes : Takes old new l line_length at at' a) (line_is : line ≡ line_of at'.standing)
    (failures : now.failures ≤ behind.failures) where
  abbrev taken : List Item
  taken = come.taken ++ takes.taken

  before : (left : Tape) → new left → first (items_then taken left)
  before left may = rw (items_then-append come.taken takes.taken left) (come.gave (items_then takes.taken left) (takes.took.before left may))

  -- the state before the answer is written
  abbrev at_answer : (left : Tape) → State
  at_answer left = record { stage = record { tape = items_then takes.taken left; at = at }; written = come.written }

  comes : (left : Tape) → new left → steps l line_length come.turns (initial (items_then taken left)) ≡ at_answer left
  comes left may = rw (items_then-append come.taken takes.taken left) (come.comes (items_then takes.taken left) (takes.took.before left may))

  -- and behind it
  abbrev behind_answer : (left : Tape) → State
  behind_answer left = record { stage = record { tape = left; at = at' }; written = done_with l line a come.written }

  stepped : (left : Tape) → new left → step l line_length (at_answer left) ≡ behind_answer left
  stepped left may = rw (takes.is left may, line_is) refl

  -- it was written, and the loop goes on
  pub goes_on : (counts' : Counts) → GoesOn l line a come.written counts' now.out behind.out now.err behind.err
      → HasCome l line_length first new at' counts' start behind
  goes_on counts' went = record {
    taken = taken;
    gave = before;
    turns = suc come.turns;
    written = done_with l line a come.written;
    goes_on = went.goes_on;
    comes = λ left may. ap (step l line_length) (comes left may) ∙ stepped left may;
    text = Appends-adds start.out.contents come.written.output _ come.text went.text;
    told = Appends-adds start.err.contents come.written.messages _ come.told went.messages;
    faults = record {
      source = omega (arith, come.faults.source, failures);
      out = went.text.writes.failures ∙ come.faults.out;
      err = went.messages.writes.failures ∙ come.faults.err;
    };
    counted = went.counted;
    within = went.within;
  }

  -- or the run ended
  module _ (status : Status) (left : Tape) (may : new left) where
    abbrev whole : Tape
    whole = items_then taken left

    came : steps l line_length come.turns (initial whole) ≡ at_answer left
    came = comes left may

    rest : left ≡ (step l line_length (at_answer left)).stage.tape
    rest = ap (λ (s : State). s.stage.tape) (sym (stepped left may))

    ended : (a ≡ Ends Failed → Rises start.failures behind.failures) → EndsItself l line a come.written status now.out behind.out now.err behind.err
        → Completes l line_length whole left status start behind
    ended rises ends = record {
      state = at_answer left;
      comes = record { count = come.turns; is = came; goes_on = come.goes_on };
      ended = subst (λ (s : State). s.written.ended ≡ Some status) (sym (stepped left may)) ends.ended;
      rest = rest;
      text = subst (λ (s : State). Appends start.out.contents behind.out.contents s.written.output) (sym (stepped left may))
          (Appends-adds start.out.contents come.written.output _ come.text ends.text);
      messages = subst (λ (s : State). Appends start.err.contents behind.err.contents s.written.messages) (sym (stepped left may))
          (Appends-adds start.err.contents come.written.messages _ come.told ends.messages);
      faults = record {
        source = omega (arith, come.faults.source, failures);
        out = ends.text.writes.failures ∙ come.faults.out;
        err = ends.messages.writes.failures ∙ come.faults.err;
      };
      fault = λ device. rises (ends.fault device);
    }

    -- what is told of a fault of the output on this line
    abbrev Told : ℕ → Type 0
    Told n =
        let told = come.written.messages ++ tbl_message_line n WriteFailed in
        (Appends start.err.contents behind.err.contents told × (behind.err.failures ≡ start.err.failures))
        ⊎ (AppendsBetween start.err.contents behind.err.contents come.written.messages told × CountsFault start.err.failures behind.err.failures)

    told_so : let told = come.written.messages ++ tbl_message_line line WriteFailed in
        Adds now.err behind.err come.written.messages told ⊎ FailsAdding now.err behind.err come.written.messages told → Told line
    told_so (inl adds) = inl (Appends-adds start.err.contents come.written.messages _ come.told adds, adds.writes.failures ∙ come.faults.err)
    told_so (inr adding) = inr (
      AppendsBetween-fails start.err.contents come.written.messages _ come.told adding,
      rw (sym come.faults.err) adding.fails.fault,
    )

    out_failed : OutFails l line a come.written status now.out behind.out now.err behind.err → OutputFails l line_length whole left status start behind
    out_failed fails = record {
      is_device = fails.is_device;
      state = at_answer left;
      comes = record { count = come.turns; is = came; goes_on = come.goes_on };
      rest = rest;
      text = subst (λ (s : State). AppendsBetween start.out.contents behind.out.contents come.written.output s.written.output)
          (sym (stepped left may)) (AppendsBetween-fails start.out.contents come.written.output _ come.text fails.text);
      fault = rw (sym come.faults.out) fails.text.fails.fault;
      messages = subst (λ (s : State). Told (line_of s.stage.at.standing)) (sym (stepped left may)) (subst Told line_is (told_so fails.messages));
    }

    err_failed : ErrFails l line a come.written status now.out behind.out now.err behind.err → MessagesFail l line_length whole left status start behind
    err_failed fails = record {
      is_device = fails.is_device;
      state = at_answer left;
      comes = record { count = come.turns; is = came; goes_on = come.goes_on };
      rest = rest;
      text = rw fails.text come.text;
      messages = subst (λ (s : State). AppendsBetween start.err.contents behind.err.contents come.written.messages s.written.messages)
          (sym (stepped left may)) (AppendsBetween-fails start.err.contents come.written.messages _ come.told fails.messages);
      fault = rw (sym come.faults.err) fails.messages.fails.fault;
      output_stays = ap (λ (o : Sunk). o.failures) fails.text ∙ come.faults.out;
    }

    outcome : (a ≡ Ends Failed → Rises start.failures behind.failures)
        → (EndsItself l line a come.written status now.out behind.out now.err behind.err ⊎ OutFails l line a come.written status now.out behind.out now.err behind.err
        ⊎ ErrFails l line a come.written status now.out behind.out now.err behind.err)
        → TblOutcome l line_length whole left status start behind
    outcome rises (inl ends) = inl (ended rises ends)
    outcome rises (inr (inl fails)) = inr (inl (out_failed fails))
    outcome rises (inr (inr fails)) = inr (inr (err_failed fails))

  -- so it did as the definition's
  pub has_ended : (status : Status) → (a ≡ Ends Failed → Rises start.failures behind.failures)
      → (EndsItself l line a come.written status now.out behind.out now.err behind.err ⊎ OutFails l line a come.written status now.out behind.out now.err behind.err
      ⊎ ErrFails l line a come.written status now.out behind.out now.err behind.err)
      → PutsTables l line_length status first new start behind
  has_ended status rises ends = record {
    taken = taken;
    took = record { before = before; some = takes.took.some; some_given = takes.took.some_given };
    outcome = λ left may. outcome status left may rises ends;
  }

-- so many bytes, or a message: fewer of both may still be written
pub falls : (l : TblLimits) (line : ℕ) (a : Answer) (w : Written) (count : ℕ) (counts' : Counts) (notes notes' : ℕ) (out out' err err' : Sunk)
    → w.ended ≡ None → GoesOn l line a w counts' out out' err err' → count ≡ length w.output → notes' ≤ notes → ((m : List ℕ) → a ≡ Gives (OneNote m) → notes' < notes)
    → (l.output - counts'.written) + notes' < (l.output - count) + notes
falls l line (Gives (OneByte b)) w count counts' notes notes' out out' err err' none went counted fewer note = go (nat_lt (length w.output) l.output) refl
  where
    go : (x : Bool) → nat_lt (length w.output) l.output ≡ x → (l.output - counts'.written) + notes' < (l.output - count) + notes
    go true e =
        let one : counts'.written ≡ length (w.output ++ b ∷ []) = rw e at went.counted.written in
        let more : length (w.output ++ b ∷ []) ≡ length w.output + 1 = length-append w.output (b ∷ []) in
        let within : counts'.written ≤ l.output = went.within.written in
        omega (arith, one, more, within, counted, fewer)
    go false e =
        let bad = rw e at went.goes_on in
        cc
falls l line (Gives (OneNote m)) w count counts' notes notes' out out' err err' none went counted fewer note =
    go (nat_lt l.messages (length (w.messages ++ m))) refl
  where
    go : (x : Bool) → nat_lt l.messages (length (w.messages ++ m)) ≡ x → (l.output - counts'.written) + notes' < (l.output - count) + notes
    go true e =
        let bad = rw e at went.goes_on in
        cc
    go false e =
        let same : counts'.written ≡ length w.output = rw e at went.counted.written in
        omega (arith, same, counted, note m refl)
falls l line (Ends Ended) w count counts' notes notes' out out' err err' none went counted fewer note = let bad = went.goes_on in cc
falls l line (Ends Failed) w count counts' notes notes' out out' err err' none went counted fewer note = let bad = went.goes_on in cc
falls l line (Ends (Stopped limit)) w count counts' notes notes' out out' err err' none went counted fewer note = let bad = went.goes_on in cc
