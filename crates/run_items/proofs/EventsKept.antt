-- Events that an interpreter performed: those that are left behind what sprang are kept.
use Rattle.run_events.specs.Formatter.Performing.{PerformsOne, PerformsTitle, Flows, PerformsEvents, SprungAt, acting, behind_event, behind_events}
use Rattle.roff_num.specs.declared.format.Format.{Format}
use Rattle.run_model.specs.TitleTexts.{TitleText}
use Rattle.run_model.specs.Titles.{title_told}
use Rattle.run_model.specs.declared.event.PageEvent.TheVariants.{Title}
use Rattle.run_model.specs.declared.title.WhichTitle.{WhichTitle}
use Rattle.run_events.proofs.LinesLeft.{lines_left-all}
use Rattle.std.proofs.Common.{◌∙◌, ◌≡◌, ◌≤◌, List, [], ◌∷◌, ◌++◌, length, Option, Some, None, Result, Ok, Err, ap, append-nil, arith, subst, sym}
use Rattle.roff_num.specs.declared.limits.Limits.{Limits}
use Rattle.run_state.specs.declared.composer.Composer.{Composer as ComposerOf}
use Rattle.run_items.specs.declared.interpreter.Interpreter.{Interpreter}
use Rattle.run_events.specs.declared.halt.Halt.{Halt}
use Rattle.run_events.specs.declared.sprung.Sprung.{Sprung}
use Rattle.run_items.specs.Outcome.{Beginning, Reaches, Seen, seen}
use Rattle.run_items.specs.Performing.{ComesTo, PerformsAll, DoesEvent}
use Rattle.run_events.specs.Formatter.Sprung.{behind_sprung, left_behind, most_back}
use Rattle.run_model.specs.Output.{PageHistory}
use Rattle.run_model.specs.PageEvents.{PageEvent}
use Rattle.read_lines.specs.Reader.State.{ReaderState}
use Rattle.run_model.specs.Registers.{AllRegisters}
use Rattle.run_model.specs.Run.{State}
use Rattle.run_model.specs.Springs.{word_end_of}
use Rattle.page_bytes.specs.Sinks.{Sunk}

-- an event was performed by the formatter, and what is read stays
pub event_done : (e : PageEvent) (old new : Interpreter) (out out_new : Sunk) (r : Result (Option Sprung) Halt) → PerformsOne e old.formatter new.formatter out out_new r
    → new.reader ≡ old.reader → DoesEvent e old new out out_new r
event_done e old new out out_new r done reader = record {
  one = λ l t before failures err s h rest stood same reached. done.one l t before failures err s h rest stood reached;
  reader = reader;
  moves = done.moves;
}

-- so was one before which no word end comes
pub event_alone : (e : PageEvent) (old new : Interpreter) (out out_new : Sunk) (r : Result (Option Sprung) Halt) → ((h : PageHistory) → word_end_of h e ≡ None)
    → PerformsEvents (e ∷ []) old.formatter new.formatter out out_new r → new.reader ≡ old.reader → DoesEvent e old new out out_new r
event_alone e old new out out_new r none only reader = record {
  one = λ l t before failures err s h rest stood same reached. only.performs l t before failures err s h rest stood (none h, tt) reached;
  reader = reader;
  moves = λ l h stood. only.moves;
}

-- and a title with the text that the registers keep
pub title_done : (which : WhichTitle) (text : TitleText) (format : Format) (old new : Interpreter) (out out_new : Sunk) (r : Result (Option Sprung) Halt)
    → title_told old.reader.registers.all which ≡ record { text = text; format = format }
    → PerformsTitle which text format old.formatter new.formatter out out_new r → new.reader ≡ old.reader → DoesEvent (Title which) old new out out_new r
title_done which text format old new out out_new r is placed reader = record {
  one = λ l t before failures err s h rest stood same reached.
      placed.title l t before failures err s h rest stood (ap (λ (rs : AllRegisters). title_told rs which) same ∙ is) reached;
  reader = reader;
  moves = λ l h stood. placed.moves;
}

-- events were performed that sprang nothing, and stood one behind another
pub all_quietly : (events : List PageEvent) (old new : Interpreter) (out out_new : Sunk) (done : Result (Option Sprung) Halt) → ((rs : AllRegisters) (h : PageHistory) → Flows rs events h)
    → done ≡ Ok None → PerformsEvents events old.formatter new.formatter out out_new done → new.reader ≡ old.reader → PerformsAll events old new out out_new (Ok None)
all_quietly events old new out out_new done flows quiet ended same_reader =
    let only : PerformsEvents events old.formatter new.formatter out out_new (Ok None) = subst (λ (r : Result (Option Sprung) Halt). PerformsEvents events old.formatter new.formatter out out_new r) quiet ended in record {
      all = λ l t before failures err s h rest stood same reached.
          let did = only.performs l t before failures err s h rest stood (flows s.registers h) reached in record {
            history = behind_events s.registers events h;
            reaches = did.reaches;
            stands = did.stands;
            lines = lines_left-all s.registers events h;
            few = omega arith;
            keeps = tt;
          };
      reader = record { reading = ap (λ (r : ReaderState). r.reading) same_reader; registers = ap (λ (r : ReaderState). r.registers) same_reader };
    }

-- what one of them sprang, where the reader keeps them now
module _ (events kept rest : List PageEvent) (l : Limits) (t : Beginning) (before now : Seen) (s : State) (h : PageHistory) (sprung : Sprung) (es : ComposerOf) where
  pub came_sprung : events ≡ kept → SprungAt l t before now s events h sprung rest es → ComesTo l t before now s events h kept rest (Ok (Some sprung)) es
  came_sprung is p = record {
    history = p.history;
    reaches = subst (λ (events : List PageEvent). Reaches l t before now (behind_sprung es (Some sprung) events rest (acting s [] p.history))) is p.reaches;
    stands = p.stands;
    lines = p.lines;
    few =
        let whole : events ++ [] ≡ events = append-nil events in
        subst (λ (kept : List PageEvent). length (left_behind sprung kept) ≤ most_back events) is
        (subst (λ (events : List PageEvent). length (left_behind sprung events) ≤ most_back events) whole (p.few []));
    keeps = (sym is, p.named);
  }

pub all_sprung : (events : List PageEvent) (old mid : Interpreter) (reader : ReaderState) (out out_new : Sunk) (sprung : Sprung) (done : Result (Option Sprung) Halt) → ((rs : AllRegisters) (h : PageHistory) → Flows rs events h)
    → reader.meaning.events ≡ events → reader ≡ record mid.reader { meaning = reader.meaning }
    → done ≡ Ok (Some sprung) → PerformsEvents events old.formatter mid.formatter out out_new done → mid.reader ≡ old.reader → PerformsAll events old (record mid { reader = reader }) out out_new (Ok (Some sprung))
all_sprung events old mid reader out out_new sprung done flows kept others found ended same_reader =
    let only : PerformsEvents events old.formatter mid.formatter out out_new (Ok (Some sprung)) = subst (λ (r : Result (Option Sprung) Halt). PerformsEvents events old.formatter mid.formatter out out_new r) found ended in record {
      all = λ l t before failures err s h rest stood same reached.
          came_sprung events reader.meaning.events rest l t before (seen failures out_new err) s h sprung mid.formatter.composer (sym kept)
          (only.performs l t before failures err s h rest stood (flows s.registers h) reached);
      reader = record {
        reading = ap (λ (r : ReaderState). r.reading) others ∙ ap (λ (r : ReaderState). r.reading) same_reader;
        registers = ap (λ (r : ReaderState). r.registers) others ∙ ap (λ (r : ReaderState). r.registers) same_reader;
      };
    }

-- or the code halted
pub all_halted : (events : List PageEvent) (old new : Interpreter) (out out_new : Sunk) (halt : Halt) → ((rs : AllRegisters) (h : PageHistory) → Flows rs events h)
    → PerformsEvents events old.formatter new.formatter out out_new (Err halt) → new.reader ≡ old.reader → PerformsAll events old new out out_new (Err halt)
all_halted events old new out out_new halt flows only same_reader = record {
  all = λ l t before failures err s h rest stood same reached. only.performs l t before failures err s h rest stood (flows s.registers h) reached;
  reader = record { reading = ap (λ (r : ReaderState). r.reading) same_reader; registers = ap (λ (r : ReaderState). r.registers) same_reader };
}

-- one event was performed, which the reader keeps if it is left
pub one_quietly : (e : PageEvent) (old new : Interpreter) (out out_new : Sunk) (done : Result (Option Sprung) Halt) → done ≡ Ok None → DoesEvent e old new out out_new done → PerformsAll (e ∷ []) old new out out_new (Ok None)
one_quietly e old new out out_new done quiet ended =
    let one : DoesEvent e old new out out_new (Ok None) = subst (λ (r : Result (Option Sprung) Halt). DoesEvent e old new out out_new r) quiet ended in record {
      all = λ l t before failures err s h rest stood same reached.
          let did = one.one l t before failures err s h rest stood same reached in record {
            history = behind_event s.registers e h;
            reaches = did.reaches;
            stands = did.stands;
            lines = lines_left-all s.registers (e ∷ []) h;
            few = omega arith;
            keeps = tt;
          };
      reader = record { reading = ap (λ (r : ReaderState). r.reading) one.reader; registers = ap (λ (r : ReaderState). r.registers) one.reader };
    }

pub one_sprung : (e : PageEvent) (old mid : Interpreter) (reader : ReaderState) (out out_new : Sunk) (sprung : Sprung) (done : Result (Option Sprung) Halt)
    → reader.meaning.events ≡ e ∷ [] → reader ≡ record mid.reader { meaning = reader.meaning }
    → done ≡ Ok (Some sprung) → DoesEvent e old mid out out_new done → PerformsAll (e ∷ []) old (record mid { reader = reader }) out out_new (Ok (Some sprung))
one_sprung e old mid reader out out_new sprung done kept others found ended =
    let one : DoesEvent e old mid out out_new (Ok (Some sprung)) = subst (λ (r : Result (Option Sprung) Halt). DoesEvent e old mid out out_new r) found ended in record {
      all = λ l t before failures err s h rest stood same reached.
          came_sprung (e ∷ []) reader.meaning.events rest l t before (seen failures out_new err) s h sprung mid.formatter.composer (sym kept)
          (one.one l t before failures err s h rest stood same reached);
      reader = record {
        reading = ap (λ (r : ReaderState). r.reading) others ∙ ap (λ (r : ReaderState). r.reading) one.reader;
        registers = ap (λ (r : ReaderState). r.registers) others ∙ ap (λ (r : ReaderState). r.registers) one.reader;
      };
    }

pub one_halted : (e : PageEvent) (old new : Interpreter) (out out_new : Sunk) (halt : Halt) → DoesEvent e old new out out_new (Err halt) → PerformsAll (e ∷ []) old new out out_new (Err halt)
one_halted e old new out out_new halt one = record {
  all = λ l t before failures err s h rest stood same reached. one.one l t before failures err s h rest stood same reached;
  reader = record { reading = ap (λ (r : ReaderState). r.reading) one.reader; registers = ap (λ (r : ReaderState). r.registers) one.reader };
}
