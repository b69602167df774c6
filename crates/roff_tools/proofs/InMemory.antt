-- A whole run in memory, between watched sinks.
use Rattle.std.proofs.Common.{◌≡◌, ℕ, ◌+◌, ◌<◌, ◌≤◌, inl, inr, List, [], ◌∷◌, ◌++◌, length, take, Option, Some, None, sym, ap, ◌∙◌, subst, append_assoc, arith, length-append}
use Rattle.std.proofs.lemmas.List.{take-append-le}
use Rattle.std.specs.Io.KnownBytes.{Appends}
use Rattle.std.specs.Option.{option_to_list}
use Rattle.roff_num.specs.Lists.{IsBeginning}
use Rattle.roff_num.specs.declared.limits.Limits.{Limits}
use Rattle.run_items.specs.Outcome.{Outcome}
use Rattle.run_model.specs.declared.start.Start.{Start}
use Rattle.roff_engine.specs.Outcomes.{HadNoFault}
use Rattle.run_model.specs.Results.{output_of, messages_of, status_of}
use Rattle.run_model.specs.declared.status.Status.{Status}
use Rattle.page_bytes.specs.Devices.{Seen, seen}
use Rattle.page_bytes.specs.Sinks.{AppendsFront, Sunk}
use Rattle.roff_engine.proofs.Outcomes.{each_outcome_gives}
use Rattle.input_source.specs.Tape.{Tape}
use Rattle.cli_devices.specs.Memory.{kept_by, room_of}
use Rattle.cli_devices.specs.WatchedSink.Telling.{IsSound, given_to, nothing_told, told_by}
use Rattle.cli_devices.specs.declared.watched.WatchedSink.{WatchedSink}
use Rattle.cli_devices.proofs.Overflows.{overflow_or_not, kept-first, kept-all, given-longer}
use Rattle.tbl_format.specs.declared.limits.TblLimits.{TblLimits}
use Rattle.tbl_core.specs.Yields.{at_start, yields}
use Rattle.tbl_run.specs.Outcome.{TblOutcome}
use Rattle.tbl_run.specs.Results.{tbl_messages_of, tbl_output_of, tbl_status_of}
use Rattle.tbl_run.proofs.Outcomes.{each_outcome_gives as each_tbl_outcome_gives}
use Rattle.roff_tools.specs.InMemory.{IsWholeResult, IsWholeTblResult, RanInMemory}
use Rattle.roff_tools.specs.declared.in_memory.Formatted.{Formatted}
use Rattle.roff_tools.specs.declared.in_memory.Room.{Room}
use Rattle.roff_tools.specs.Jobs.{RunsJob}
use Rattle.roff_tools.specs.declared.job.Job.{Job}
use Rattle.roff_tools.specs.declared.job.Job.TheVariants.{Nroff, Tbl, Both}

-- a run of a job over one tape, between sinks of which this is told
pub RunsJob-told : (job : Job) (status : Status) (t t' left : Tape) (faults : ℕ) (out out' err err' : Sunk) (now : Seen)
    → t ≡ t' → out ≡ out' → err ≡ err'
    → RunsJob job status (λ u. u ≡ t) (λ u. u ≡ left) (seen faults out err) now → RunsJob job status (λ u. u ≡ t') (λ u. u ≡ left) (seen faults out' err') now
RunsJob-told job status t t' left faults out out' err err' now tape_is out_is err_is runs =
    let over = subst (λ (v : Tape). RunsJob job status (λ u. u ≡ v) (λ u. u ≡ left) (seen faults out err) now) tape_is runs in
    let to_out = subst (λ (o : Sunk). RunsJob job status (λ u. u ≡ t') (λ u. u ≡ left) (seen faults o err) now) out_is over in
    subst (λ (e : Sunk). RunsJob job status (λ u. u ≡ t') (λ u. u ≡ left) (seen faults out' e) now) err_is to_out

-- what a definition's run writes and reports, and its status
pub record Due : Type 0 where
  pub output : List ℕ
  pub messages : List ℕ
  pub ended : Option Status

-- all of that was written and reported, and the status is its
pub record AllGiven (due : Due) (status : Status) (out out' err err' : Sunk) : Type 0 where
  pub text : Appends out.contents out'.contents due.output
  pub told : Appends err.contents err'.contents due.messages
  pub ended : due.ended ≡ Some status

-- what a run in memory gives of it
pub record RunInMemory (due : Due) (room : Room) (f : Formatted) : Type 0 where
  pub out : WatchedSink
  pub err : WatchedSink
  pub text : AppendsFront (nothing_told room.output).contents (told_by out).contents due.output
  pub told : HadNoFault (nothing_told room.output) (told_by out)
      → AppendsFront (nothing_told room.messages).contents (told_by err).contents due.messages
  pub all : HadNoFault (nothing_told room.output) (told_by out) → HadNoFault (nothing_told room.messages) (told_by err)
      → AllGiven due f.status (nothing_told room.output) (told_by out) (nothing_told room.messages) (told_by err)
  pub output : f.output.items ≡ kept_by out.sink
  pub messages : f.messages.items ≡ kept_by err.sink
  pub out_sound : IsSound out
  pub err_sound : IsSound err

-- of the formatter, and of `tbl`
abbrev pub due_of : Limits → Start → Tape → Due
due_of l start t = record { output = output_of l start t; messages = messages_of l start t; ended = status_of l start t }

abbrev pub tbl_due_of : TblLimits → ℕ → Tape → Due
tbl_due_of l line_length t =
    record { output = tbl_output_of l line_length t; messages = tbl_messages_of l line_length t; ended = tbl_status_of l line_length t }

-- the formatter ran over a tape
formatter_gave : (job : Job) (l : Limits) (start : Start) (given t left : Tape) (room : Room) (f : Formatted) (ran : RanInMemory job given room f)
    → Outcome l start t left f.status (seen ran.faults_before (nothing_told room.output) (nothing_told room.messages)) (seen ran.faults (told_by ran.out) (told_by ran.err))
    → RunInMemory (due_of l start t) room f
formatter_gave job l start given t left room f ran outcome =
    let gives = each_outcome_gives l start t left f.status _ _ outcome in record {
      out = ran.out;
      err = ran.err;
      text = gives.text;
      told = gives.messages;
      all = λ out_well err_well. let all = gives.all out_well err_well in record { text = all.text; told = all.messages; ended = all.ended };
      output = ran.output;
      messages = ran.messages;
      out_sound = ran.out_sound;
      err_sound = ran.err_sound;
    }

-- the formatter ran
pub formatter_ran : (l : Limits) (start : Start) (t : Tape) (room : Room) (f : Formatted) → RanInMemory (Nroff l start) t room f → RunInMemory (due_of l start t) room f
formatter_ran l start t room f ran =
    let runs = ran.runs in
    let rest : Tape = runs.took.some in
    let before = seen ran.faults_before (nothing_told room.output) (nothing_told room.messages) in
    let now = seen ran.faults (told_by ran.out) (told_by ran.err) in
    let over = runs.took.before rest runs.took.some_given in
    let outcome = subst (λ (u : Tape). Outcome l start u rest f.status before now) over (runs.outcome rest runs.took.some_given) in
    formatter_gave (Nroff l start) l start t t rest room f ran outcome

-- the formatter ran over what tables give
pub both_ran : (l : Limits) (start : Start) (tables : TblLimits) (line_length : ℕ) (t : Tape) (room : Room) (f : Formatted)
    → RanInMemory (Both l start tables line_length) t room f → RunInMemory (due_of l start (yields tables line_length at_start t)) room f
both_ran l start tables line_length t room f ran =
    let runs = ran.runs in
    let over = runs.over runs.some runs.some_given in
    let before = seen ran.faults_before (nothing_told room.output) (nothing_told room.messages) in
    let now = seen ran.faults (told_by ran.out) (told_by ran.err) in
    let outcome = subst (λ (u : Tape). Outcome l start (yields tables line_length at_start u) over.rest f.status before now) over.given over.outcome in
    formatter_gave (Both l start tables line_length) l start t (yields tables line_length at_start t) over.rest room f ran outcome

-- tables were put
pub tables_ran : (l : TblLimits) (line_length : ℕ) (t : Tape) (room : Room) (f : Formatted) → RanInMemory (Tbl l line_length) t room f
    → RunInMemory (tbl_due_of l line_length t) room f
tables_ran l line_length t room f ran =
    let runs = ran.runs in
    let rest : Tape = runs.took.some in
    let before = seen ran.faults_before (nothing_told room.output) (nothing_told room.messages) in
    let now = seen ran.faults (told_by ran.out) (told_by ran.err) in
    let over = runs.took.before rest runs.took.some_given in
    let outcome = subst (λ (u : Tape). TblOutcome l line_length u rest f.status before now) over (runs.outcome rest runs.took.some_given) in
    let gives = each_tbl_outcome_gives l line_length t rest f.status before now outcome in record {
      out = ran.out;
      err = ran.err;
      text = gives.text;
      told = gives.messages;
      all = λ out_well err_well. let all = gives.all out_well err_well in record { text = all.text; told = all.messages; ended = all.ended };
      output = ran.output;
      messages = ran.messages;
      out_sound = ran.out_sound;
      err_sound = ran.err_sound;
    }

-- a sink that was given a beginning of a text
record IsGiven (room : ℕ) (w : WatchedSink) (text : List ℕ) : Type 0 where
  rest : List ℕ
  room_stays : room_of w.sink ≡ room
  split : text ≡ given_to w ++ rest

IsGiven-front : (room : ℕ) (w : WatchedSink) (text : List ℕ) → AppendsFront (Some (room ∷ [])) (told_by w).contents text → IsGiven room w text
IsGiven-front room w text given =
    let told : room_of w.sink ∷ given_to w ≡ room ∷ given.front = given.written in
    let all : given_to w ≡ given.front = cc in record {
      rest = given.back;
      room_stays = cc;
      split = rw all given.split;
    }

-- what it keeps is a beginning too
IsGiven-kept : (room : ℕ) (w : WatchedSink) (text : List ℕ) → IsGiven room w text → IsBeginning (kept_by w.sink) text
IsGiven-kept room w text given = record {
  rest = option_to_list w.overflow ++ given.rest;
  split = given.split ∙ append_assoc (kept_by w.sink) (option_to_list w.overflow) given.rest;
}

-- it was given more than it has room for
IsGiven-longer : (room : ℕ) (w : WatchedSink) (text : List ℕ) → IsGiven room w text → IsSound w → (byte : ℕ) → w.overflow ≡ Some byte → room < length text
IsGiven-longer room w text given sound byte is =
    let longer = given-longer w sound byte is in
    let whole : length text ≡ length (given_to w) + length given.rest = ap length given.split ∙ length-append (given_to w) given.rest in
    omega (arith, longer, whole, given.room_stays)

-- then it keeps the first bytes of the text
IsGiven-first : (room : ℕ) (w : WatchedSink) (text : List ℕ) → IsGiven room w text → IsSound w → (byte : ℕ) → w.overflow ≡ Some byte → kept_by w.sink ≡ take room text
IsGiven-first room w text given sound byte is =
    let longer : room_of w.sink ≤ length (given_to w) = let more = given-longer w sound byte is in omega (arith, more) in
    kept-first w sound ∙ sym (take-append-le (room_of w.sink) (given_to w) given.rest longer)
    ∙ ap (take (room_of w.sink)) (sym given.split) ∙ ap (λ n. take n text) given.room_stays

-- a sink that keeps all that it was given had no fault
had_no_fault : (room : ℕ) (w : WatchedSink) → IsSound w → w.overflow ≡ None → HadNoFault (nothing_told room) (told_by w)
had_no_fault room w sound none rises = let rose = rw (sound.faultless none) at rises in omega (arith, rose)

module _ (due : Due) (room : Room) (f : Formatted) (run : RunInMemory due room f) where
  abbrev out_room : ℕ
  out_room = room.output

  abbrev err_room : ℕ
  err_room = room.messages

  abbrev out : WatchedSink
  out = run.out

  abbrev err : WatchedSink
  err = run.err

  out_given : IsGiven out_room out due.output
  out_given = IsGiven-front out_room out due.output run.text

  -- a beginning of the text is kept
  output_begins : IsBeginning (kept_by out.sink) due.output
  output_begins = IsGiven-kept out_room out due.output out_given

  -- the messages have room, if the text has and there is room for all of them
  messages_have_room : out.overflow ≡ None → length due.messages ≤ err_room → err.overflow ≡ None
  messages_have_room none fits =
      elim (overflow_or_not err.overflow) [
        | inl err_none ↦ err_none
        | inr some ↦
            let given = IsGiven-front err_room err due.messages (run.told (had_no_fault out_room out run.out_sound none)) in
            let longer = IsGiven-longer err_room err due.messages given run.err_sound some.0 some.1 in
            absurd (omega (arith, longer, fits))
      ]

  -- then the run gives all
  all_given : out.overflow ≡ None → length due.messages ≤ err_room
      → AllGiven due f.status (nothing_told out_room) (told_by out) (nothing_told err_room) (told_by err)
  all_given none fits = run.all (had_no_fault out_room out run.out_sound none) (had_no_fault err_room err run.err_sound (messages_have_room none fits))

  -- the text has room if there is room for all of it
  output_has_room : length due.output ≤ out_room → out.overflow ≡ None
  output_has_room fits =
      elim (overflow_or_not out.overflow) [
        | inl none ↦ none
        | inr some ↦
            let longer = IsGiven-longer out_room out due.output out_given run.out_sound some.0 some.1 in
            absurd (omega (arith, longer, fits))
      ]

  -- all of the text is kept
  output_kept : out.overflow ≡ None → length due.messages ≤ err_room → kept_by out.sink ≡ due.output
  output_kept none fits =
      let told : room_of out.sink ∷ given_to out ≡ out_room ∷ due.output = (all_given none fits).text in
      let given : given_to out ≡ due.output = cc in
      kept-all out none ∙ given

  -- and all of the messages
  messages_kept : out.overflow ≡ None → length due.messages ≤ err_room → kept_by err.sink ≡ due.messages
  messages_kept none fits =
      let told : room_of err.sink ∷ given_to err ≡ err_room ∷ due.messages = (all_given none fits).told in
      let given : given_to err ≡ due.messages = cc in
      kept-all err (messages_have_room none fits) ∙ given

  -- the first bytes of the text are kept, whether it has room or not
  output_first : length due.messages ≤ err_room → kept_by out.sink ≡ take out_room due.output
  output_first fits =
      elim (overflow_or_not out.overflow) [
        | inl none ↦ first_of_all none
        | inr some ↦ IsGiven-first out_room out due.output out_given run.out_sound some.0 some.1
      ]
    where
      first_of_all : out.overflow ≡ None → kept_by out.sink ≡ take out_room due.output
      first_of_all none =
          let told : room_of out.sink ∷ given_to out ≡ out_room ∷ due.output = (all_given none fits).text in
          let given : given_to out ≡ due.output = cc in
          let stays : room_of out.sink ≡ out_room = cc in
          kept-first out run.out_sound ∙ ap (take (room_of out.sink)) given ∙ ap (λ n. take n due.output) stays

  -- with room for all of it, the run gives the definition's text, its messages and its status
  output_whole : length due.output ≤ room.output → length due.messages ≤ room.messages → f.output.items ≡ due.output
  output_whole output_fits messages_fit = run.output ∙ output_kept (output_has_room output_fits) messages_fit

  messages_whole : length due.output ≤ room.output → length due.messages ≤ room.messages → f.messages.items ≡ due.messages
  messages_whole output_fits messages_fit = run.messages ∙ messages_kept (output_has_room output_fits) messages_fit

  status_whole : length due.output ≤ room.output → length due.messages ≤ room.messages → Some f.status ≡ due.ended
  status_whole output_fits messages_fit = sym (all_given (output_has_room output_fits) messages_fit).ended

  -- with room for the messages, as many of its first bytes as there is room for
  pub first_bytes : length due.messages ≤ room.messages → f.output.items ≡ take room.output due.output
  first_bytes fits = run.output ∙ output_first fits

  -- and in any case a beginning of it
  pub begins : IsBeginning f.output.items due.output
  begins = rw run.output output_begins

-- the definition's result, with room for all of it
pub whole_result : (l : Limits) (start : Start) (t : Tape) (room : Room) (f : Formatted) → RunInMemory (due_of l start t) room f
    → length (output_of l start t) ≤ room.output → length (messages_of l start t) ≤ room.messages → IsWholeResult l start t f
whole_result l start t room f run output_fits messages_fit = record {
  output = output_whole (due_of l start t) room f run output_fits messages_fit;
  messages = messages_whole (due_of l start t) room f run output_fits messages_fit;
  status = status_whole (due_of l start t) room f run output_fits messages_fit;
}

-- and of `tbl`
pub whole_tables : (l : TblLimits) (line_length : ℕ) (t : Tape) (room : Room) (f : Formatted) → RunInMemory (tbl_due_of l line_length t) room f
    → length (tbl_output_of l line_length t) ≤ room.output → length (tbl_messages_of l line_length t) ≤ room.messages → IsWholeTblResult l line_length t f
whole_tables l line_length t room f run output_fits messages_fit = record {
  output = output_whole (tbl_due_of l line_length t) room f run output_fits messages_fit;
  messages = messages_whole (tbl_due_of l line_length t) room f run output_fits messages_fit;
  status = status_whole (tbl_due_of l line_length t) room f run output_fits messages_fit;
}
