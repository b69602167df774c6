-- What is half read of a condition ends at once: the run has come behind it.
use Rattle.std.proofs.Common.{◌≡◌, ℕ, suc, zero, ◌+◌, ◌<◌, ◌≤◌, Bool, true, false, List, [], length, Option, Some, None, refl, sym, ap, subst, ◌∙◌, arith, if◌then◌else◌}
use Rattle.roff_num.specs.declared.limit.Limit.{Limit}
use Rattle.roff_num.specs.declared.limits.Limits.{Limits}
use Rattle.input_escapes.specs.OpenEscapes.{reading_ended}
use Rattle.input_escapes.specs.Waiting.{decides, is_ended_by, waiting_of}
use Rattle.input_escapes.specs.declared.open_escape.Decision.TheVariants.{Is}
use Rattle.input_escapes.specs.declared.open_escape.Found.TheVariants.{Decides as DecidesIt, GoesOn}
use Rattle.input_escapes.specs.declared.open_escape.Surroundings.{Surroundings}
use Rattle.input_escapes.specs.declared.open_escape.Surroundings.TheVariants.{Arguments as AboveArguments, Copy as AboveCopy}
use Rattle.input_escapes.specs.declared.open_escape.Waiting.{Waiting}
use Rattle.input_escapes.specs.declared.open_escape.Waiting.TheVariants.{Decides, Waits}
use Rattle.input_model.proofs.FewEvents.{few-behind}
use Rattle.input_model.specs.Input.{Ahead}
use Rattle.input_model.specs.Unread.{EndsDecided, IsWithin, reading}
use Rattle.input_source.specs.Tape.{Tape}
use Rattle.read_lines.proofs.TakesAs.{few_names, short_title}
use Rattle.run_model.specs.Environments.{PageHistory}
use Rattle.run_model.specs.Reading.{escape_ended}
use Rattle.run_model.specs.Reading.Branches.{branch_of}
use Rattle.run_model.specs.Reading.Ends.{due}
use Rattle.run_model.specs.Reading.Items.{PageInput, PageUnread, Taking, going_on}
use Rattle.run_model.specs.Reading.Waiting.{waiting_in}
use Rattle.run_model.specs.Registers.{AllRegisters, Known}
use Rattle.run_model.specs.Run.{Leads, State, escape_ends, in_front_taken, item_read, known, known_at, made, read_waiting, taken_as, unless_refused}
use Rattle.run_model.specs.Run.Counts.{counts_in, first_passed}
use Rattle.run_model.specs.TurnsToCome.{begun, turns_within}
use Rattle.run_model.specs.PageEvents.{PageEvent}
use Rattle.run_model.specs.declared.line_state.LineState.{LineState}
use Rattle.run_model.specs.declared.line_state.LineState.TheVariants.{Deciding}
use Rattle.run_model.proofs.InputCounts.{IsWithin-allowed, first_passed-few_names}
use Rattle.run_model.proofs.ItemsTaken.{step-reads, taken_as-going_on}
use Rattle.run_model.proofs.TurnsToCome.{turns_within-escape_ended}
use Rattle.run_model.proofs.Waiting.{ended-deciding, length-is_ended_by}
use Rattle.run_turns.specs.declared.running.Running.{Running as Coded}
use Rattle.run_items.specs.Outcome.{Beginning, Seen}
use Rattle.run_shortcuts.specs.EndsAtOnce.{EndsAtOnce}
use Rattle.run_items.specs.Room.{FewFor}
use Rattle.run_turns.specs.Running.Turning.{GoesPast, IsAt, state_at, turns_left}
use Rattle.run_items.proofs.EndsUnseen.{few-unseen}
use Rattle.run_items.proofs.Fronts.{few-seen_ended}
use Rattle.read_shortcuts.specs.Conditions.{SeesNext}
use Rattle.run_shortcuts.proofs.GoingPast.{IsAt-leads}
use Rattle.run_shortcuts.proofs.SeenNext.{awaits-next, sees_on}
use Rattle.run_turns.proofs.TurnsLeft.{turns_of_run-fewer}
use Rattle.run_items.proofs.HalfEnded.{FewBehind, decided-at_once, expression-at_once, unread-read, ahead-read, waits-deciding, decides-deciding}
use Rattle.run_turns.proofs.ComingFurther.{comes_further, comes_none}

module _ (gave : Tape → Type 0) (old new : Coded) (none_due : due old.interpreter.reader.reading ≡ None) (ends : EndsAtOnce old new) (some : 1 ≤ length old.unread.input.escapes)
    (reads_on : (tape : Tape) → gave tape → (h : PageHistory) (messages : List ℕ)
    → let s : State = state_at tape old h messages in item_read old.limits s ≡ made old.limits s (escape_ends s))
    (few_behind : FewBehind old.interpreter.reader.reading old.unread.input) where
  -- what is read and the input behind it
  abbrev read_on : LineState
  read_on = new.interpreter.reader.reading

  abbrev left : PageInput
  left = new.unread.input

  -- the run is at its place there
  IsAt-ended : (whole : Beginning) (tape : Tape) (start now : Seen) → gave tape → IsAt whole tape start now old → IsAt whole tape start now new
  IsAt-ended whole tape start now given at =
      let l : Limits = old.unread.limits in
      let rs : AllRegisters = old.interpreter.reader.registers.all in
      let there : PageUnread = record old.unread { input = left } in
      let s : State = state_at tape old at.history at.messages in
      let t : State = record s { input = left; reading = read_on } in
      let inside : IsWithin there = subst IsWithin (ap (λ (run : Coded). run.unread) ends.is) ends.within in
      let fits : first_passed l (counts_in rs left) ≡ None =
      first_passed-few_names l rs left (few_names old.interpreter.reader.registers old.unread at.ready) (short_title old.interpreter.reader.registers old.unread at.ready) ∙ IsWithin-allowed there inside in
      let meant : escape_ends s ≡ t = ap (λ (taking : Taking). taken_as taking s) (ends.ended (known s)) ∙ taken_as-going_on left read_on s in
      let leads : Leads old.limits s t = record {
        steps = suc zero;
        there = step-reads old.limits s refl refl refl none_due
            ∙ reads_on tape given at.history at.messages
            ∙ ap (λ (done : State). made old.limits s done) meant
            ∙ ap (λ (r : Option Limit). unless_refused old.limits r s t) (subst (λ (k : Limits). first_passed k (counts_in rs left) ≡ None) at.limits fits);
      } in
      let few : FewFor [] read_on left.escapes old.unread.input.ahead =
      subst (λ (taking : Taking). FewFor taking.effect.events taking.reading taking.input.escapes old.unread.input.ahead) (ends.ended (known s)) (few_behind (known s) at.few) in
      subst (λ (run : Coded). IsAt whole tape start now run) (sym ends.is)
      (IsAt-leads whole tape tape start now old (record old.interpreter { reader = record old.interpreter.reader { reading = read_on } }) there at.history at leads refl at.stands
      (record { cap = at.ready.cap; line = at.ready.line; within = fits }) at.limits
      (subst (λ (items : List (Ahead PageEvent)). FewFor [] read_on left.escapes items) (sym ends.ahead) few))

  -- fewer turns are to come
  fewer-ended : turns_left new < turns_left old
  fewer-ended =
      let bytes : ℕ = old.unread.limits.bytes in
      let k : Known = known_at [] old.interpreter.reader.registers.all old.unread.input in
      let less : turns_within bytes left + begun read_on + 1 ≤ turns_within bytes old.unread.input + begun old.interpreter.reader.reading =
      subst (λ (taking : Taking). turns_within bytes taking.input + begun taking.reading + 1 ≤ turns_within bytes old.unread.input + begun old.interpreter.reader.reading) (ends.ended k)
      (turns_within-escape_ended bytes k old.interpreter.reader.reading old.unread.input some) in
      subst (λ (run : Coded). turns_left run < turns_left old) (sym ends.is) (omega (arith, less))

  pub goes_further_at_once : (notes : ℕ) (now : Seen) → GoesPast true gave gave notes notes old new now now
  goes_further_at_once notes now =
      let behind = turns_of_run-fewer old new fewer-ended (ap (λ (run : Coded). run.phase) ends.is) in
      record {
        limits = ap (λ (run : Coded). run.limits) ends.is;
        taken = [];
        before = λ t given. given;
        comes = λ t tape start given at any. IsAt-ended t tape start now given at;
        turns = λ t tape start given at any. omega (arith, behind);
      }

-- a condition that is read decides
pub goes_further_decided : (old new : Coded) (is_decided : Bool) → due old.interpreter.reader.reading ≡ None
    → (is_decided ≡ true → waiting_in old.interpreter.reader.reading old.unread.input ≡ Decides) → (is_decided ≡ true → EndsAtOnce old new) → (is_decided ≡ false → new ≡ old)
    → (gave : Tape → Type 0) (notes : ℕ) (now : Seen) → GoesPast is_decided gave gave notes notes old new now now
goes_further_decided old new true none_due decided ends kept gave notes now =
    let is : waiting_in old.interpreter.reader.reading old.unread.input ≡ Decides = decided refl in
    let stays : is_ended_by old.unread.input.escapes None ≡ true =
    ended-deciding old.interpreter.reader.reading old.unread.input.arguments.place old.unread.input.escapes None (ap decides is) in
    goes_further_at_once gave old new none_due (ends refl) (length-is_ended_by old.unread.input.escapes None stays)
    (λ tape given h messages. ap (λ (w : Waiting). read_waiting old.limits w (state_at tape old h messages)) is)
    (λ k few. few-unseen k old.interpreter.reader.reading old.unread.input stays few) notes now
goes_further_decided old new false none_due decided ends kept gave notes now =
    subst (λ (run : Coded). GoesPast false gave gave notes notes old run now now) (sym (kept refl)) (comes_none gave notes old now)

-- an expression ends before a byte that is seen next
pub goes_past_expression : (old new : Coded) (is_ended : Bool) (b : ℕ) (gave : Tape → Type 0) → due old.interpreter.reader.reading ≡ None → waiting_in old.interpreter.reader.reading old.unread.input ≡ Waits
    → SeesNext b gave old.unread → is_ended_by old.unread.input.escapes (Some b) ≡ true
    → (is_ended ≡ true → EndsAtOnce old new) → (is_ended ≡ false → new ≡ old)
    → (notes : ℕ) (now : Seen) → GoesPast false gave gave notes notes old new now now
goes_past_expression old new true b gave none_due waits sees stays ends kept notes now =
    comes_further (goes_further_at_once gave old new none_due (ends refl) (length-is_ended_by old.unread.input.escapes (Some b) stays)
    (λ tape given h messages.
    let s : State = state_at tape old h messages in
    ap (λ (w : Waiting). read_waiting old.limits w s) waits
    ∙ awaits-next gave old b sees old.limits tape given h messages
    ∙ ap (λ (c : Bool). if c then made old.limits s (escape_ends s) else in_front_taken old.limits s.input.ahead s) stays)
    (λ k few. few-seen_ended k old.interpreter.reader.reading old.unread.input (few-behind 5 old.unread.input.ahead few.few (sees_on sees))) notes now)
goes_past_expression old new false b gave none_due waits sees stays ends kept notes now =
    subst (λ (run : Coded). GoesPast false gave gave notes notes old run now now) (sym (kept refl)) (comes_none gave notes old now)

-- so the expression ended at once
pub ends-expression : (keeps : Bool) (old : Coded) (after : PageUnread) → old.interpreter.reader.reading ≡ Deciding keeps
    → ((base : Surroundings) → (GoesOn, after) ≡ reading (reading_ended base old.unread.input.escapes) old.unread) → IsWithin after
    → EndsAtOnce old (record old { unread = after })
ends-expression keeps old after deciding ends within = record {
  ended = λ k.
      subst (λ (r : LineState). escape_ended k r old.unread.input ≡ going_on after.input r) (sym deciding) (expression-at_once keeps old.unread after ends k);
  ahead = ahead-read GoesOn _ old.unread after (ends AboveArguments);
  within = within;
  is = ap (λ (u : PageUnread). record old { unread = u }) (unread-read GoesOn _ old.unread after (ends AboveArguments));
}

-- and a condition that decided did
pub ends-decided : (so : Bool) (old : Coded) (after : PageUnread) → old.interpreter.reader.reading ≡ Deciding false → EndsDecided (Some so) old.unread after → IsWithin after
    → EndsAtOnce old (record old { unread = after; interpreter = record old.interpreter { reader = record old.interpreter.reader { reading = branch_of so } } })
ends-decided so old after deciding ends within = record {
  ended = λ k.
      subst (λ (r : LineState). escape_ended k r old.unread.input ≡ going_on after.input (branch_of so)) (sym deciding) (decided-at_once so old.unread after ends k);
  ahead = ahead-read (DecidesIt (Is so) None) _ old.unread after (ends AboveArguments);
  within = within;
  is = ap (λ (u : PageUnread). record old { unread = u; interpreter = record old.interpreter { reader = record old.interpreter.reader { reading = branch_of so } } })
      (unread-read (DecidesIt (Is so) None) _ old.unread after (ends AboveArguments));
}

-- where it is read
pub waits-reading : (keeps : Bool) (old : Coded) → old.interpreter.reader.reading ≡ Deciding keeps → waiting_of AboveCopy old.unread.input.escapes ≡ Waits
    → waiting_in old.interpreter.reader.reading old.unread.input ≡ Waits
waits-reading keeps old deciding waits =
    ap (λ (r : LineState). waiting_in r old.unread.input) deciding ∙ waits-deciding keeps old.unread.input.arguments.place old.unread.input.escapes waits

pub decides-reading : (keeps : Bool) (old : Coded) → old.interpreter.reader.reading ≡ Deciding keeps → decides (waiting_of AboveCopy old.unread.input.escapes) ≡ true
    → waiting_in old.interpreter.reader.reading old.unread.input ≡ Decides
decides-reading keeps old deciding is =
    ap (λ (r : LineState). waiting_in r old.unread.input) deciding ∙ decides-deciding keeps old.unread.input.arguments.place old.unread.input.escapes is
