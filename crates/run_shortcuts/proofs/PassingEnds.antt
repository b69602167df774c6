-- A run that goes past the end of a text ahead, or of a call.
use Rattle.std.proofs.Common.{◌≡◌, ℕ, suc, zero, ◌+◌, ◌<◌, Bool, true, false, List, [], ◌∷◌, Option, Some, None, refl, sym, ap, subst, ◌∙◌, arith, if◌then◌else◌, le-ltb}
use Rattle.roff_num.specs.declared.limit.Limit.{Limit}
use Rattle.roff_num.specs.declared.limit.Limit.TheVariants.{Bytes}
use Rattle.roff_num.specs.declared.limits.Limits.{Limits}
use Rattle.input_escapes.specs.OpenEscape.{OpenEscape}
use Rattle.input_model.specs.declared.place.Place.{Place}
use Rattle.input_escapes.specs.declared.open_escape.Waiting.{Waiting}
use Rattle.input_escapes.specs.Waiting.{is_ended_by}
use Rattle.input_escapes.specs.declared.open_escape.Waiting.TheVariants.{Takes as TakesAny, Waits}
use Rattle.run_model.specs.Reading.Waiting.{line_waits, waiting_above, waiting_in}
use Rattle.input_model.specs.Input.{Ahead, EndAhead, ReturnAhead, item_taken}
use Rattle.input_source.specs.Tape.{Tape}
use Rattle.input_model.specs.Unread.{IsWithin}
use Rattle.input_model.specs.Shown.{seen_ahead}
use Rattle.roff_scan.specs.Unread.Calls.{PassesEnd, PassesReturn}
use Rattle.run_model.specs.Reading.Items.{PageUnread, PageInput}
use Rattle.run_model.specs.Reading.Returns.{behind_return}
use Rattle.run_model.specs.Reading.Ends.{due}
use Rattle.run_model.specs.Registers.{AllRegisters}
use Rattle.run_model.specs.Output.{PageHistory}
use Rattle.run_model.specs.Run.{Leads, State, nothing_follows, escape_ends, in_front_taken, item_read, made, read_waiting, step, stopped_by, unless_refused}
use Rattle.run_model.specs.Run.Counts.{counts_in, first_passed}
use Rattle.run_model.specs.TurnsToCome.{turns_to_come}
use Rattle.run_model.specs.PageEvents.{PageEvent}
use Rattle.run_model.specs.declared.line_state.LineState.{LineState}
use Rattle.run_model.proofs.InputCounts.{IsWithin-allowed, first_passed-few_names}
use Rattle.run_model.proofs.ItemsTaken.{step-reads}
use Rattle.read_lines.proofs.TakesAs.{few_names, short_title}
use Rattle.run_items.specs.declared.interpreter.Interpreter.{Interpreter}
use Rattle.run_turns.specs.declared.running.Running.{Running as Coded}
use Rattle.run_items.specs.Outcome.{Beginning, Seen}
use Rattle.run_items.specs.Room.{FewFor}
use Rattle.run_turns.specs.Running.Turning.{GoesPast, IsAt, state_at, turns_left}
use Rattle.read_shortcuts.specs.Conditions.{SeesNext}
use Rattle.run_shortcuts.proofs.GoingPast.{IsAt-leads}
use Rattle.run_shortcuts.proofs.SeenNext.{awaits-next, sees_on}
use Rattle.input_model.specs.Input.Few.{AreFew}
use Rattle.run_items.proofs.Fronts.{few-sees, few-undecided}
use Rattle.run_items.proofs.Sighted.{takes-next}
use Rattle.run_turns.proofs.TurnsLeft.{turns_of_run-fewer}
use Rattle.run_items.proofs.EndsTaken.{IsEnd, end_of_text, end_of_call}
use Rattle.run_turns.proofs.ComingFurther.{comes_further, comes_none}

module _ (item : Ahead PageEvent) (reads_on : LineState → LineState) (ends : IsEnd item reads_on) (old : Coded) (after : PageUnread) (behind : List (Ahead PageEvent)) (gave : Tape → Type 0)
    (none_due : due old.interpreter.reader.reading ≡ None) (front : old.unread.input.ahead ≡ item ∷ behind)
    (takes : (l : Limits) (tape : Tape) → gave tape → (h : PageHistory) (messages : List ℕ) → let s : State = state_at tape old h messages in item_read l s ≡ in_front_taken l s.input.ahead s)
    (few_behind : FewFor [] old.interpreter.reader.reading old.unread.input.escapes old.unread.input.ahead
    → FewFor [] (reads_on old.interpreter.reader.reading) old.unread.input.escapes behind)
    (allowed : old.unread.input.charge < old.unread.limits.bytes)
    (is : after ≡ record old.unread { input = item_taken item behind old.unread.input }) (within : IsWithin after) where
  -- what reads on behind it
  abbrev over : Interpreter
  over = record old.interpreter { reader = record old.interpreter.reader { reading = reads_on old.interpreter.reader.reading } }

  -- it is taken in a step
  step-end : (l : Limits) (s : State) → s.ended ≡ None → s.to_do ≡ [] → s.follows ≡ nothing_follows → due s.reading ≡ None → s.input.ahead ≡ item ∷ behind → item_read l s ≡ in_front_taken l s.input.ahead s → s.input.charge < l.bytes
      → first_passed l (counts_in s.registers (item_taken item behind s.input)) ≡ None
      → step l s ≡ record s { input = item_taken item behind s.input; reading = reads_on s.reading }
  step-end l s going idle unsprung none_due in_front any few fits =
      let there : State = record s { input = item_taken item behind s.input; reading = reads_on s.reading } in
      step-reads l s going idle unsprung none_due
      ∙ any
      ∙ ap (λ (items : List (Ahead PageEvent)). in_front_taken l items s) in_front
      ∙ ends.taken l s behind
      ∙ ap (λ (c : Bool). if c then stopped_by l Bytes s else made l s there) (le-ltb l.bytes (s.input.charge + 1) (omega (arith, few)))
      ∙ ap (λ (r : Option Limit). unless_refused l r s there) fits

  -- so the run is at its place behind it
  IsAt-end : (whole : Beginning) (tape : Tape) (start now : Seen) → gave tape → IsAt whole tape start now old → IsAt whole tape start now (record old { interpreter = over; unread = after })
  IsAt-end whole tape start now given at =
      let l : Limits = old.unread.limits in
      let rs : AllRegisters = old.interpreter.reader.registers.all in
      let i : PageInput = item_taken item behind old.unread.input in
      let there : PageUnread = record old.unread { input = i } in
      let s : State = state_at tape old at.history at.messages in
      let t : State = record s { input = i; reading = reads_on s.reading } in
      let inside : IsWithin there = subst IsWithin is within in
      let fits : first_passed l (counts_in rs i) ≡ None =
      first_passed-few_names l rs i (few_names old.interpreter.reader.registers old.unread at.ready) (short_title old.interpreter.reader.registers old.unread at.ready) ∙ IsWithin-allowed there inside in
      let leads : Leads l s t = record {
        steps = suc zero;
        there = step-end l s refl refl refl none_due front (takes l tape given at.history at.messages) allowed fits;
      } in
      subst (λ (u : PageUnread). IsAt whole tape start now (record old { interpreter = over; unread = u })) (sym is)
      (IsAt-leads whole tape tape start now old over there at.history at
      (subst (λ (k : Limits). Leads k s t) at.limits leads) refl at.stands (record { cap = at.ready.cap; line = at.ready.line; within = fits }) at.limits
      (few_behind at.few))

  -- fewer turns are to come
  fewer-end : turns_left (record old { interpreter = over; unread = after }) < turns_left old
  fewer-end =
      let less : turns_to_come after < turns_to_come old.unread =
      subst (λ (u : PageUnread). turns_to_come u < turns_to_come old.unread) (sym is) (ends.fewer old.unread.limits.bytes old.unread.input behind front allowed) in
      omega (arith, less, ends.begun_behind old.interpreter.reader.reading)

  goes_further_end : (notes : ℕ) (now : Seen) → GoesPast true gave gave notes notes old (record old { interpreter = over; unread = after }) now now
  goes_further_end notes now = record {
    limits = refl;
    taken = [];
    before = λ t given. given;
    comes = λ t tape start given at any. IsAt-end t tape start now given at;
    turns = λ t tape start given at any. (let behind = turns_of_run-fewer old (record old { interpreter = over; unread = after }) fewer-end refl in omega (arith, behind));
  }

-- an end is taken where nothing is waited for
module _ (item : Ahead PageEvent) (reads_on : LineState → LineState) (ends : IsEnd item reads_on) (old : Coded) (behind : List (Ahead PageEvent))
    (front : old.unread.input.ahead ≡ item ∷ behind) (any : waiting_in old.interpreter.reader.reading old.unread.input ≡ TakesAny) where
  takes_any : (l : Limits) (tape : Tape) (h : PageHistory) (messages : List ℕ) → let s : State = state_at tape old h messages in item_read l s ≡ in_front_taken l s.input.ahead s
  takes_any l tape h messages = ap (λ (w : Waiting). read_waiting l w (state_at tape old h messages)) any

  few_any : FewFor [] old.interpreter.reader.reading old.unread.input.escapes old.unread.input.ahead
      → FewFor [] (reads_on old.interpreter.reader.reading) old.unread.input.escapes behind
  few_any few =
      few-undecided [] (reads_on old.interpreter.reader.reading) old.unread.input.escapes behind (ends.few behind (subst (λ (items : List (Ahead PageEvent)). AreFew items) front few.few))
      (takes-next old.interpreter.reader.reading old.unread.input.arguments.place old.unread.input.escapes any)

-- past the end of a text, or past nothing
pub goes_further_passed : (old new : Coded) (is_passed : Bool) → (is_passed ≡ true → due old.interpreter.reader.reading ≡ None)
    → (is_passed ≡ true → waiting_in old.interpreter.reader.reading old.unread.input ≡ TakesAny) → (is_passed ≡ true → PassesEnd old.unread new.unread)
    → (is_passed ≡ true → IsWithin new.unread) → (is_passed ≡ false → new ≡ old) → new ≡ record old { unread = new.unread }
    → (gave : Tape → Type 0) (notes : ℕ) (now : Seen) → GoesPast is_passed gave gave notes notes old new now now
goes_further_passed old new true none_due takes passed within kept others gave notes now =
    let p = passed refl in
    subst (λ (run : Coded). GoesPast true gave gave notes notes old run now now) (sym others)
    (goes_further_end EndAhead (λ reading. reading) end_of_text old new.unread p.behind gave (none_due refl) p.in_front
    (λ l tape given. takes_any EndAhead (λ reading. reading) end_of_text old p.behind p.in_front (takes refl) l tape) (few_any EndAhead (λ reading. reading) end_of_text old p.behind p.in_front (takes refl))
    (omega (arith, p.within)) p.input (within refl) notes now)
goes_further_passed old new false none_due takes passed within kept others gave notes now =
    subst (λ (run : Coded). GoesPast false gave gave notes notes old run now now) (sym (kept refl)) (comes_none gave notes old now)

-- the end of a text is taken where a byte is waited for, and one is seen next that stays for what is half read
module _ (old : Coded) (behind : List (Ahead PageEvent)) (b : ℕ) (gave : Tape → Type 0) (front : old.unread.input.ahead ≡ EndAhead ∷ behind)
    (waits : waiting_in old.interpreter.reader.reading old.unread.input ≡ Waits) (sees : SeesNext b gave old.unread)
    (stays : is_ended_by old.unread.input.escapes (Some b) ≡ false) where
  takes_seen : (l : Limits) (tape : Tape) → gave tape → (h : PageHistory) (messages : List ℕ) → let s : State = state_at tape old h messages in item_read l s ≡ in_front_taken l s.input.ahead s
  takes_seen l tape given h messages =
      let s : State = state_at tape old h messages in
      ap (λ (w : Waiting). read_waiting l w s) waits
      ∙ awaits-next gave old b sees l tape given h messages
      ∙ ap (λ (c : Bool). if c then made l s (escape_ends s) else in_front_taken l s.input.ahead s) stays

  few_seen : FewFor [] old.interpreter.reader.reading old.unread.input.escapes old.unread.input.ahead → FewFor [] old.interpreter.reader.reading old.unread.input.escapes behind
  few_seen few =
      let there : PageInput = record old.unread.input { ahead = behind } in
      few-sees old.interpreter.reader.reading there (end_of_text.few behind (subst (λ (items : List (Ahead PageEvent)). AreFew items) front few.few))
      (λ next none. sees_on sees (ap (λ (items : List (Ahead PageEvent)). seen_ahead items) front ∙ none))

-- past it, or past nothing
pub goes_past_seen : (old new : Coded) (is_passed : Bool) (b : ℕ) (gave : Tape → Type 0) → due old.interpreter.reader.reading ≡ None → waiting_in old.interpreter.reader.reading old.unread.input ≡ Waits
    → SeesNext b gave old.unread → is_ended_by old.unread.input.escapes (Some b) ≡ false → (is_passed ≡ true → PassesEnd old.unread new.unread)
    → IsWithin new.unread → (is_passed ≡ false → new.unread ≡ old.unread) → new ≡ record old { unread = new.unread }
    → (notes : ℕ) (now : Seen) → GoesPast false gave gave notes notes old new now now
goes_past_seen old new true b gave none_due waits sees stays passed within kept others notes now =
    let p = passed refl in
    subst (λ (run : Coded). GoesPast false gave gave notes notes old run now now) (sym others)
    (comes_further (goes_further_end EndAhead (λ reading. reading) end_of_text old new.unread p.behind gave none_due p.in_front
    (takes_seen old p.behind b gave p.in_front waits sees stays) (few_seen old p.behind b gave p.in_front waits sees stays)
    (omega (arith, p.within)) p.input within notes now))
goes_past_seen old new false b gave none_due waits sees stays passed within kept others notes now =
    subst (λ (run : Coded). GoesPast false gave gave notes notes old run now now) (sym (others ∙ ap (λ (u : PageUnread). record old { unread = u }) (kept refl)))
    (comes_none gave notes old now)

-- past the end of a call, or past nothing
pub goes_further_returned : (old new : Coded) (is_passed : Bool) → due old.interpreter.reader.reading ≡ None → ((place : Place) → line_waits old.interpreter.reader.reading place ≡ TakesAny)
    → old.unread.input.escapes ≡ []
    → (is_passed ≡ true → PassesReturn old.unread new.unread) → (is_passed ≡ true → IsWithin new.unread)
    → (is_passed ≡ true
    → new ≡ record old {
      interpreter = record old.interpreter { reader = record old.interpreter.reader { reading = behind_return 0 old.interpreter.reader.reading } };
      unread = new.unread;
    })
    → (is_passed ≡ false → new ≡ old) → (gave : Tape → Type 0) (notes : ℕ) (now : Seen) → GoesPast is_passed gave gave notes notes old new now now
goes_further_returned old new true none_due takes none passed within is kept gave notes now =
    let p = passed refl in
    let any : waiting_in old.interpreter.reader.reading old.unread.input ≡ TakesAny =
    ap (λ (half : List OpenEscape). waiting_above old.interpreter.reader.reading old.unread.input.arguments.place half) none ∙ takes old.unread.input.arguments.place in
    subst (λ (run : Coded). GoesPast true gave gave notes notes old run now now) (sym (is refl))
    (goes_further_end (ReturnAhead 0) (λ reading. behind_return 0 reading) end_of_call old new.unread p.behind gave none_due p.in_front
    (λ l tape given. takes_any (ReturnAhead 0) (λ reading. behind_return 0 reading) end_of_call old p.behind p.in_front any l tape)
    (few_any (ReturnAhead 0) (λ reading. behind_return 0 reading) end_of_call old p.behind p.in_front any)
    (omega (arith, p.within)) p.input (within refl) notes now)
goes_further_returned old new false none_due takes none passed within is kept gave notes now =
    subst (λ (run : Coded). GoesPast false gave gave notes notes old run now now) (sym (kept refl)) (comes_none gave notes old now)
