-- What the end of a phase takes: the last macro is read, or the run closes.
use Rattle.std.proofs.Common.{◌≡◌, [], ◌++◌, List, Option, None, Result, Ok, append-nil, arith, refl, subst, sym, ap, ◌∙◌}
use Rattle.roff_num.specs.declared.limit.Limit.{Limit}
use Rattle.run_items.specs.declared.interpreter.Interpreter.{Interpreter}
use Rattle.run_events.specs.declared.halt.Halt.{Halt}
use Rattle.run_items.specs.Performing.{DoesTaking, PerformsAll, Sinks, going, sinks}
use Rattle.run_events.specs.declared.sprung.Sprung.{Sprung}
use Rattle.run_items.proofs.EventsTaken.{OnOk-fact, TakingDone-came}
use Rattle.page_bytes.specs.Sinks.{Sunk}
use Rattle.read_lines.specs.Reader.State.{ReaderState}
use Rattle.read_lines.specs.Reader.Taken.{TakesAs}
use Rattle.run_model.proofs.Leads.{Leads-to}
use Rattle.run_model.specs.Events.Lines.{closing_events}
use Rattle.run_model.specs.Reading.Items.{PageInput, PageUnread, going_on, meaning_events}
use Rattle.run_model.specs.Run.{State, initial, step, taken_as, unless_refused}
use Rattle.run_model.specs.PageEvents.{PageEvent}
use Rattle.run_model.specs.declared.line_state.LineState.{LineState}
use Rattle.run_model.specs.declared.line_state.LineState.TheVariants.{LineStart}
use Rattle.run_model.specs.declared.step.Step.{Step}

-- the reader took what only reads on
pub reads_on_taking : (j : PageInput) (next : LineState) (old : Interpreter) (reader : ReaderState) (before behind : PageUnread) (told : Sinks) (m : Step)
    → TakesAs (λ k. going_on j next) old.formatter.composer old.reader reader before behind (Ok m)
    → DoesTaking (λ k. going_on j next) [] old (record old { reader = reader }) before behind told told (Ok None)
reads_on_taking j next old reader before behind told m takes = record {
  became = λ l h stood ready. (takes.takes l h stood ready).became;
  does = λ t0 start failures from tape h messages phase closed rest stood ready reached opens.
      let took = takes.takes before.limits h stood ready in
      let s : State = taken_as (going_on j next) (going tape before.input old.reader.reading old.reader.registers.all h messages phase closed rest) in
      let goes : step before.limits from ≡ s = opens.opens ∙ ap (λ (r : Option Limit). unless_refused before.limits r from s) took.became.within in record {
        history = h;
        reaches = record {
          comes = Leads-to before.limits (initial before.limits t0.start t0.tape) from s reached.comes goes;
          text = rw (← opens.wrote) reached.text;
          messages = rw (append-nil (messages ++ []), append-nil messages, ← opens.said) reached.messages;
          faults = reached.faults;
          room = rw (append-nil (messages ++ []), append-nil messages, ← opens.said) reached.room;
        };
        stands = stood;
        lines = omega arith;
        few = omega arith;
        keeps = tt;
      };
}

-- a line begins, and the events are performed that close the run
pub closing_taking : (old new : Interpreter) (reader : ReaderState) (u : PageUnread) (out_old out_new err : Sunk) (r : Result (Option Sprung) Halt)
    → reader.meaning.events ≡ closing_events → reader ≡ record old.reader { reading = LineStart; meaning = reader.meaning }
    → PerformsAll reader.meaning.events (record old { reader = reader }) new out_old out_new r
    → DoesTaking (λ k. meaning_events u.input LineStart closing_events) [] old new u u (sinks out_old err) (sinks out_new err) r
closing_taking old new reader u out_old out_new err r kept is performed =
    let mid : Interpreter = record old { reader = reader } in
    let performs : PerformsAll closing_events mid new out_old out_new r =
    subst (λ (events : List PageEvent). PerformsAll events mid new out_old out_new r) kept performed in
    record {
      became = λ l h stood ready. OnOk-fact r _ (record {
        input = refl;
        reading = performs.reader.reading ∙ ap (λ (s : ReaderState). s.reading) is;
        registers = performs.reader.registers ∙ ap (λ (s : ReaderState). s.registers) is;
        within = ready.within;
      });
      does = λ t0 start failures from tape h messages phase closed rest stood ready reached opens.
          let s : State =
          taken_as (meaning_events u.input LineStart closing_events) (going tape u.input old.reader.reading old.reader.registers.all h messages phase closed rest) in
          let goes : step u.limits from ≡ s = opens.opens ∙ ap (λ (r : Option Limit). unless_refused u.limits r from s) ready.within in
          TakingDone-came u.limits t0 start _ from s closing_events h new.reader.meaning.events rest r new.formatter.composer
          (performs.all u.limits t0 start failures err s h rest stood (sym (ap (λ (s : ReaderState). s.registers.all) is)) (record {
            comes = Leads-to u.limits (initial u.limits t0.start t0.tape) from s reached.comes goes;
            text = rw (← opens.wrote) reached.text;
            messages = rw (append-nil (messages ++ []), append-nil messages, ← opens.said) reached.messages;
            faults = reached.faults;
            room = rw (append-nil (messages ++ []), append-nil messages, ← opens.said) reached.room;
          }));
    }
