-- What was left behind an event that stopped the others is performed, up to one that stops once more.
use Rattle.std.proofs.Common.{◌∙◌, ◌≡◌, ◌≤◌, ◌+◌, ◌*◌, ℕ, Bool, false, List, [], length, Option, Some, None, Result, Ok, Err, ap, append-nil, arith, refl, subst, sym, drop}
use Rattle.roff_num.specs.declared.short_name.ShortName.{ShortName}
use Rattle.input_source.specs.Tape.{Tape}
use Rattle.run_events.proofs.EventsLeft.{going-none}
use Rattle.run_events.specs.Formatter.Performing.{acting}
use Rattle.run_events.specs.Formatter.Sprung.{behind_sprung, first_going_on, is_going_on, left_behind, most_back, unsprung_weight}
use Rattle.run_events.specs.declared.halt.Halt.{Halt}
use Rattle.run_events.specs.declared.sprung.Sprung.{Sprung}
use Rattle.run_items.proofs.Fronts.{few-put_back}
use Rattle.run_items.specs.Halting.{Halts}
use Rattle.run_items.specs.Outcome.{Beginning, OutcomeOf, Reaches, Seen, seen}
use Rattle.run_items.specs.Performing.{ComesTo, KeepsReading, PerformsLeft, going}
use Rattle.run_items.specs.declared.interpreter.Interpreter.{Interpreter}
use Rattle.run_model.proofs.LinesLeft.{lines_left-few}
use Rattle.input_model.specs.Looking.{is_closed, looked_then}
use Rattle.run_model.specs.Environments.{PageHistory, interrupted_line}
use Rattle.run_model.specs.Registers.Capped.{Capped}
use Rattle.run_model.specs.PageEvents.{PageEvent}
use Rattle.run_model.specs.Run.{State, followed_by, only_sprung}
use Rattle.run_model.specs.TurnsToCome.{begun, lines_left, phases_left, turns_to_come}
use Rattle.run_model.specs.declared.line_state.LineState.{LineState}
use Rattle.run_model.specs.declared.status.Status.{Status}
use Rattle.page_bytes.specs.Sinks.{Sunk}
use Rattle.run_items.proofs.Halted.{IsLeftOf-looked_then, halted_at}
use Rattle.run_turns.proofs.GoingOn.{turns-most}
use Rattle.run_turns.specs.Running.Springing.{IsSettled, Stops, StopsNextSettled, turns_where}
use Rattle.run_turns.specs.Running.Turning.{line_turns, state_at}
use Rattle.run_turns.specs.declared.running.Running.{Running as Coded}
use Rattle.run_items.proofs.LastLeft.{last-left, not-true}

-- The events that are left were performed where no text is to change any more and no macro is due.
module _ (sprung : Sprung) (old : Coded) (interpreter : Interpreter) (out_old out_new : Sunk) (failures : ℕ) (err : Sunk) (unsprung : old.interpreter.formatter.composer.due.sprung ≡ None) where
  abbrev new : Coded
  new = record old { interpreter = interpreter }

  abbrev kept : List PageEvent
  kept = old.interpreter.reader.meaning.events

  -- what holds of a state with the reading and the registers of before holds of one with those of now
  as_now : (there : Interpreter) → KeepsReading old.interpreter there → (P : State → Type 0) (tape : Tape) (h : PageHistory) (messages : List ℕ)
      → P (state_at tape old h messages) → P (state_at tape (record old { interpreter = there }) h messages)
  as_now there same P tape h messages holds =
      let at : LineState → Capped → State = λ reading rs.
      going (looked_then old.unread.looked tape) old.unread.input reading rs.all h messages old.phase (is_closed old.unread.looked) [] in
      subst (λ (reading : LineState). P (at reading there.reader.registers)) (sym same.reading)
      (subst (λ (rs : Capped). P (at old.interpreter.reader.reading rs)) (sym same.registers) holds)

  -- how far they were
  came : (r : Result (Option Sprung) Halt) → PerformsLeft sprung.left old.interpreter interpreter out_old out_new r
      → (t : Beginning) (tape : Tape) (start : Seen) (most : ℕ) → (at : IsSettled t tape start (seen failures out_old err) sprung most old)
      → ComesTo old.limits t start (seen failures out_new err) (state_at tape old at.history at.messages) kept at.stopped.first interpreter.reader.meaning.events [] r interpreter.formatter.composer
  came r performs t tape start most at =
      let s : State = state_at tape old at.history at.messages in
      let now : Seen = seen failures out_old err in
      let quiet : is_going_on sprung.why ≡ false = not-true (is_going_on sprung.why) (λ is. at.stopped.named is unsprung) in
      let left_is : left_behind sprung kept ≡ drop sprung.left kept =
      ap (λ (goes_on : Bool). first_going_on goes_on (drop sprung.left kept)) quiet ∙ going-none (drop sprung.left kept) in
      let settled : Reaches old.limits t start now (acting s (left_behind sprung kept) at.history) =
      subst (λ (due : Option ShortName). Reaches old.limits t start now (followed_by (only_sprung due) (left_behind sprung kept) s)) unsprung at.reaches in
      performs.all old.limits t start failures err s at.stopped.first [] refl (record {
        history = at.history;
        reaches = subst (λ (events : List PageEvent). Reaches old.limits t start now (acting s events at.history)) (left_is ∙ sym (append-nil (drop sprung.left kept))) settled;
        stands = at.stands;
        few = last-left sprung.left (lines_left (interrupted_line at.history)) (lines_left (interrupted_line at.stopped.first)) kept
            (lines_left-few (interrupted_line at.history)) at.stopped.lines;
      })

  -- as many turns are to come, but for interrupted lines
  same-turns : (r : Result (Option Sprung) Halt) (most : ℕ) → PerformsLeft sprung.left old.interpreter interpreter out_old out_new r
      → turns_where new most ≡ turns_where old most
  same-turns r most performs =
      ap (λ (reading : LineState). 4 * (turns_to_come old.unread + begun reading) + line_turns reading most + phases_left old.phase) performs.reader.reading

  -- all of them, or up to one that stopped once more
  pub stops_next : (next : Option Sprung) → PerformsLeft sprung.left old.interpreter interpreter out_old out_new (Ok next)
      → StopsNextSettled sprung old new (seen failures out_old err) (seen failures out_new err) (Ok next)
  stops_next None performs = record {
    limits = refl;
    comes = record {
      goes = λ t tape start most at.
          let c = came (Ok None) performs t tape start most at in record {
            history = c.history;
            messages = at.messages;
            reaches = as_now interpreter performs.reader (λ (s : State). Reaches old.limits t start (seen failures out_new err) (record s { to_do = [] })) tape c.history at.messages c.reaches;
            stands = c.stands;
            ready = rw performs.reader.registers at.ready;
            limits = at.limits;
            few = rw performs.reader.reading
                (few-put_back kept [] old.interpreter.reader.reading old.unread.input.escapes old.unread.input.ahead old.unread.input
                at.stopped.few (λ room some few. few) (omega arith) at.stopped.short);
          };
      turns = λ t tape start most at.
          let c = came (Ok None) performs t tape start most at in
          let fewer = turns-most old.limits c.history new most c.stands (omega (arith, c.lines, at.stopped.most)) in
          omega (arith, fewer, same-turns (Ok None) most performs);
      falls = λ t tape start most at. tt;
    };
  }
  stops_next (Some next) performs = record {
    limits = refl;
    comes = record {
      goes = λ t tape start most at.
          let c = came (Ok (Some next)) performs t tape start most at in
          let stops : Stops next kept interpreter.formatter.composer.due.sprung old.interpreter.reader.reading old.unread.input.escapes old.unread.input.ahead
          (lines_left (interrupted_line c.history)) most = record {
            named = c.keeps.1;
            left = subst (λ (events : List PageEvent). length (left_behind next events) ≤ most_back kept) c.keeps.0 c.few;
            short = at.stopped.short;
            few = at.stopped.few;
            first = at.stopped.first;
            lines = c.lines;
            most = at.stopped.most;
          } in record {
            history = c.history;
            messages = at.messages;
            reaches =
                let P : State → Type 0 = λ s.
                Reaches old.limits t start (seen failures out_new err) (behind_sprung interpreter.formatter.composer (Some next) interpreter.reader.meaning.events [] s) in
                as_now interpreter performs.reader P tape c.history at.messages c.reaches;
            stands = c.stands;
            ready = rw performs.reader.registers at.ready;
            limits = at.limits;
            stopped =
                let P : List PageEvent → LineState → Type 0 = λ events reading.
                Stops next events interpreter.formatter.composer.due.sprung reading old.unread.input.escapes old.unread.input.ahead
                (lines_left (interrupted_line c.history)) most in
                subst (λ (reading : LineState). P interpreter.reader.meaning.events reading) (sym performs.reader.reading)
                (subst (λ (events : List PageEvent). P events old.interpreter.reader.reading) (sym c.keeps.0) stops);
          };
      turns = λ t tape start most at. omega (arith, same-turns (Ok (Some next)) most performs);
      falls = λ t tape start most at.
          let least : unsprung_weight old.interpreter.formatter.composer.due.sprung ≡ 1 = ap (λ (due : Option ShortName). unsprung_weight due) unsprung in
          omega (arith, least, performs.moves old.limits at.history at.stands);
    };
  }

  -- or the run halts
  pub stops_halted : (halt : Halt) (status : Status) (behind : Seen) → PerformsLeft sprung.left old.interpreter interpreter out_old out_new (Err halt)
      → ((t : Beginning) (tape : Tape) (start : Seen) → Halts old.limits t tape old.unread.input.line halt start (seen failures out_new err) → OutcomeOf old.limits t tape status start behind)
      → StopsNextSettled sprung old new (seen failures out_old err) behind (Err status)
  stops_halted halt status behind performs ends = record {
    limits = refl;
    comes = record {
      goes = λ t tape start most at.
          ends t tape start (halted_at old.limits t tape old.unread.input.line start (seen failures out_new err) (state_at tape old at.history at.messages)
          (IsLeftOf-looked_then old.unread.looked tape) refl refl halt (came (Err halt) performs t tape start most at));
      turns = λ t tape start most at. tt;
      falls = λ t tape start most at. tt;
    };
  }
