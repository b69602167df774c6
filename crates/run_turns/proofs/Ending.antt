-- What the code does where the input ends: what is half read ends, and a line, and the phases.
use Rattle.std.proofs.Common.{◌≡◌, ℕ, List, ◌++◌, Option, None, Err, inl, refl, subst, sym, ap, append-nil, ◌∙◌}
use Rattle.roff_num.specs.declared.limit.Limit.{Limit}
use Rattle.roff_num.specs.declared.limits.Limits.{Limits}
use Rattle.run_turns.specs.declared.running.Running.{Running as Coded}
use Rattle.run_items.specs.Outcome.{Seen}
use Rattle.run_turns.specs.Running.Turning.{DoesItem, MayEnd, state_at}
use Rattle.run_model.specs.Run.{State, initial, ending_as, phase_ended, step, unless_refused, grown}
use Rattle.run_model.specs.Run.Counts.{counts_in, first_passed}
use Rattle.run_model.specs.declared.phase.Phase.TheVariants.{Closing}
use Rattle.run_model.specs.declared.status.Status.TheVariants.{Done}
use Rattle.run_model.proofs.Leads.{ToldLeads-to}
use Rattle.run_items.proofs.Bounded.{told_reached, told_step-quiet}
use Rattle.run_items.proofs.InputEnds.{rest_at_end}

-- the last phase ends, and the run with it
pub closed_acts : (line : ℕ) (old : Coded) (now : Seen) → MayEnd old → DoesItem line (phase_ended Closing) old old now now (Err Done)
closed_acts line old now may_end = record {
  limits = refl;
  acts = λ t tape start from took.
      let s : State = state_at tape old took.history took.messages in
      let done : State = ending_as Done s in
      let allowed : first_passed old.limits (grown done) ≡ None =
      subst (λ (l : Limits). first_passed l (counts_in old.interpreter.reader.registers.all old.unread.input) ≡ None) took.limits took.ready.within in
      let there : step old.limits from ≡ done = took.opens.opens ∙ ap (λ (r : Option Limit). unless_refused old.limits r from done) allowed in
      inl (record {
        state = done;
        reaches = record {
          comes = ToldLeads-to old.limits (initial old.limits t.start t.tape) from done (told_reached old.limits t start now from took.reaches)
              (told_step-quiet old.limits from done now.err.room took.opens.goes_on took.reaches.room there
              (sym took.opens.said ∙ ap (λ (last : List ℕ). from.messages ++ last) took.quiet ∙ append-nil from.messages));
          text = rw (← took.opens.wrote) took.reaches.text;
          messages = rw (append-nil, ← took.opens.said) took.reaches.messages;
          faults = took.reaches.faults;
        };
        ended = refl;
        rest = rest_at_end old.unread.looked tape done may_end refl refl;
        fault = λ wrong. cc;
      });
  turns = λ t tape start from took. tt;
}
