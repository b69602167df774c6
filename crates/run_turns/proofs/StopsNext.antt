-- Events that stop their list one after another, up to where the run goes on: each time less is left to be done.
use Rattle.std.proofs.Common.{◌∙◌, ◌≡◌, ◌≤◌, ◌<◌, ◌+◌, ◌*◌, ◌-◌, ℕ, Bool, true, false, Option, Some, None, Result, Ok, Err, ap, arith, refl, subst, ◌||◌, is_some}
use Rattle.roff_num.specs.declared.short_name.ShortName.{ShortName}
use Rattle.input_source.specs.Tape.{Tape}
use Rattle.run_state.specs.declared.composer.Composer.{Composer as ComposerOf}
use Rattle.run_events.specs.Formatter.Sprung.{unsprung_weight, word_weight}
use Rattle.run_events.specs.declared.sprung.Sprung.{Sprung}
use Rattle.run_items.specs.Outcome.{Beginning, Seen}
use Rattle.run_model.specs.TurnsToCome.{phases_left}
use Rattle.run_model.specs.declared.status.Status.{Status}
use Rattle.run_turns.specs.Running.Springing.{GoesOn, GoesOnSettled, IsBehind, Settles, StopsFall, StopsNext, StopsNextSettled, TurnsBehind, stops_left, turns_where}
use Rattle.run_turns.specs.Running.Turning.{line_turns, turns_left}
use Rattle.run_turns.specs.declared.running.Running.{Running as Coded}

-- what is still to be done of an open word or field and a macro counts little
word-most : (is_open : Bool) → word_weight is_open ≤ 2
word-most true = omega arith
word-most false = omega arith

unsprung-most : (name : Option ShortName) → unsprung_weight name ≤ 1
unsprung-most None = omega arith
unsprung-most (Some name) = omega arith

stops-most : (sprung : Sprung) (es : ComposerOf) → stops_left sprung es ≤ 1023
stops-most sprung es =
    omega (arith, word-most (es.environments.in_force.lines.is_open || is_some es.environments.in_force.lines.field), unsprung-most es.due.sprung)

-- Since one event stopped others did, of which this is the last: so many more may.
pub record StoodSo (first sprung : Sprung) (old run : Coded) (before now : Seen) (left : ℕ) : Type 0 where
  pub limits : run.limits ≡ old.limits
  pub goes : (t : Beginning) (tape : Tape) (start : Seen) (most : ℕ) → IsBehind t tape start before (Some first) most old
      → IsBehind t tape start now (Some sprung) most run
  pub turns : (t : Beginning) (tape : Tape) (start : Seen) (most : ℕ) → IsBehind t tape start before (Some first) most old
      → turns_where run most ≤ turns_where old most
  pub falls : (t : Beginning) (tape : Tape) (start : Seen) (most : ℕ) → IsBehind t tape start before (Some first) most old
      → stops_left sprung run.interpreter.formatter.composer + 1 ≤ left

-- at first no other did
pub stood_first : (first : Sprung) (old : Coded) (now : Seen) → StoodSo first first old old now now 1024
stood_first first old now = record {
  limits = refl;
  goes = λ t tape start most at. at;
  turns = λ t tape start most at. omega arith;
  falls = λ t tape start most at. omega (arith, stops-most first old.interpreter.formatter.composer);
}

module _ (first sprung : Sprung) (old mid new : Coded) (before now behind : Seen) (left : ℕ) (stood : StoodSo first sprung old mid before now left) where
  -- another did
  pub stood_next : (next : Sprung) (r : Result (Option Sprung) Status) → r ≡ Ok (Some next) → StopsNext sprung mid new now behind r → StoodSo first next old new before behind (left - 1)
  stood_next next r is gone =
      let stops : StopsNext sprung mid new now behind (Ok (Some next)) = subst (λ (r : Result (Option Sprung) Status). StopsNext sprung mid new now behind r) is gone in record {
        limits = stops.limits ∙ stood.limits;
        goes = λ t tape start most at. stops.comes.goes t tape start most (stood.goes t tape start most at);
        turns = λ t tape start most at. omega (arith, stood.turns t tape start most at, stops.comes.turns t tape start most (stood.goes t tape start most at));
        falls = λ t tape start most at.
            let fewer : stops_left next new.interpreter.formatter.composer < stops_left sprung mid.interpreter.formatter.composer =
            stops.comes.falls t tape start most (stood.goes t tape start most at) in
            omega (arith, stood.falls t tape start most at, fewer);
      }

  -- none did: the run goes on
  pub stood_done : (r : Result (Option Sprung) Status) → r ≡ Ok None → StopsNext sprung mid new now behind r → GoesOn (Some first) old new before behind (Ok tt)
  stood_done r is gone =
      let stops : StopsNext sprung mid new now behind (Ok None) = subst (λ (r : Result (Option Sprung) Status). StopsNext sprung mid new now behind r) is gone in record {
        limits = stops.limits ∙ stood.limits;
        goes = λ t tape start most at. stops.comes.goes t tape start most (stood.goes t tape start most at);
        turns = λ t tape start most at. omega (arith, stood.turns t tape start most at, stops.comes.turns t tape start most (stood.goes t tape start most at));
      }

  -- or has ended
  pub stood_ended : (status : Status) → StopsNext sprung mid new now behind (Err status) → GoesOn (Some first) old new before behind (Err status)
  stood_ended status stops = record {
    limits = stops.limits ∙ stood.limits;
    goes = λ t tape start most at. stops.comes.goes t tape start most (stood.goes t tape start most at);
    turns = λ t tape start most at. tt;
  }

-- no more can't be left
pub stood_never : (first sprung : Sprung) (old run : Coded) (before now : Seen) (left : ℕ) → left ≡ 0 → StoodSo first sprung old run before now left → GoesOn (Some first) old run before now (Ok tt)
stood_never first sprung old run before now left none stood = record {
  limits = stood.limits;
  goes = λ t tape start most at. absurd (omega (arith, none, stood.falls t tape start most at));
  turns = λ t tape start most at. absurd (omega (arith, none, stood.falls t tape start most at));
}

-- a run in which a text may have changed has as many turns to come
same-turns : (sprung : Sprung) (old mid : Coded) (now halfway : Seen) (most : ℕ) → Settles sprung old mid now halfway (Ok tt) → turns_where mid most ≡ turns_where old most
same-turns sprung old mid now halfway most settles =
    ap (λ (run : Coded). 4 * turns_left mid + line_turns run.interpreter.reader.reading most + phases_left run.phase) settles.others
    ∙ ap (λ (turns : ℕ). 4 * turns + line_turns old.interpreter.reader.reading most + phases_left old.phase) settles.turns

-- no more than of one are no more than of the other
turns-as : (turns other most : ℕ) (r : Result (Option Sprung) Status) (run : Coded) → turns ≡ other → TurnsBehind turns most r run → TurnsBehind other most r run
turns-as turns other most r run same few = subst (λ (n : ℕ). TurnsBehind n most r run) same few

-- the text was changed, and then the run came further
pub settled_then : (sprung : Sprung) (old mid new : Coded) (now halfway behind : Seen) (r : Result (Option Sprung) Status) → Settles sprung old mid now halfway (Ok tt)
    → StopsNextSettled sprung mid new halfway behind r → StopsNext sprung old new now behind r
settled_then sprung old mid new now halfway behind r settles stops =
    let same : stops_left sprung mid.interpreter.formatter.composer ≡ stops_left sprung old.interpreter.formatter.composer =
    ap (λ (run : Coded). stops_left sprung run.interpreter.formatter.composer) settles.others in record {
      limits = stops.limits ∙ ap (λ (run : Coded). run.limits) settles.others;
      comes = record {
        goes = λ t tape start most at. stops.comes.goes t tape start most (settles.goes t tape start most at);
        turns = λ t tape start most at.
            turns-as (turns_where mid most) (turns_where old most) most r new (same-turns sprung old mid now halfway most settles)
            (stops.comes.turns t tape start most (settles.goes t tape start most at));
        falls = λ t tape start most at.
            subst (λ (n : ℕ). StopsFall n r new) same (stops.comes.falls t tape start most (settles.goes t tape start most at));
      };
    }

-- or a limit refused the change
pub settled_ended : (sprung : Sprung) (old new : Coded) (now behind : Seen) (status : Status) → Settles sprung old new now behind (Err status)
    → StopsNext sprung old new now behind (Err status)
settled_ended sprung old new now behind status settles = record {
  limits = ap (λ (run : Coded). run.limits) settles.others;
  comes = record {
    goes = λ t tape start most at. settles.goes t tape start most at;
    turns = λ t tape start most at. tt;
    falls = λ t tape start most at. tt;
  };
}

-- the run went on in a macro that sprang
pub sprung_done : (sprung : Sprung) (old new : Coded) (now behind : Seen) → GoesOnSettled sprung old new now behind (Ok tt)
    → StopsNextSettled sprung old new now behind (Ok None)
sprung_done sprung old new now behind goes = record {
  limits = goes.limits;
  comes = record {
    goes = λ t tape start most at. goes.goes t tape start most at;
    turns = λ t tape start most at. goes.turns t tape start most at;
    falls = λ t tape start most at. tt;
  };
}

-- or has ended there
pub sprung_ended : (sprung : Sprung) (old new : Coded) (now behind : Seen) (status : Status) → GoesOnSettled sprung old new now behind (Err status)
    → StopsNextSettled sprung old new now behind (Err status)
sprung_ended sprung old new now behind status goes = record {
  limits = goes.limits;
  comes = record {
    goes = λ t tape start most at. goes.goes t tape start most at;
    turns = λ t tape start most at. tt;
    falls = λ t tape start most at. tt;
  };
}
