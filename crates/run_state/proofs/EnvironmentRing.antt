-- The code's ring of environments, behind each call.
use Rattle.std.proofs.Common.{◌≡◌, ◌∙◌, Bool, List, ◌∷◌, Option, refl, sym, ap, subst}
use Rattle.roff_lines.specs.Env.Stands.{StandsBehind}
use Rattle.roff_lines.specs.Env.Kept.{Kept as KeptLines}
use Rattle.page_model.specs.declared.event.Event.TheVariants.{Count, Interrupt as IsInterrupted}
use Rattle.run_model.specs.declared.environment_number.EnvironmentNumber.{EnvironmentNumber}
use Rattle.run_model.specs.declared.event.InputTrap.{InputTrap}
use Rattle.run_model.specs.declared.line_state.TextLine.{TextLine}
use Rattle.run_model.specs.Environments.{Environments, counted_down, gone_back, is_same, switched_to, turned_to, ring_turned_unless, with_event, with_interruption}
use Rattle.run_state.specs.Environments.Kept.{KeptNumbers}
use Rattle.run_state.specs.Environments.Standing.{Becomes, StandBy}
use Rattle.run_state.specs.declared.environments.Environments.{Environments as EnvironmentsOf}

-- the code's ring turned once more, or not if the right one is in force
pub Becomes-unless : (is_there so : Bool) (old new : EnvironmentsOf) → is_there ≡ so → Becomes (ring_turned_unless so) old new → Becomes (ring_turned_unless is_there) old new
Becomes-unless is_there so old new is becomes = subst (λ (there : Bool). Becomes (ring_turned_unless there) old new) (sym is) becomes

-- the code's ring turned to an environment, at most twice
pub Becomes-turned_to : (number : EnvironmentNumber) (old once twice : EnvironmentsOf)
    → Becomes (ring_turned_unless (is_same old.number number)) old once
    → Becomes (ring_turned_unless (is_same once.number number)) once twice
    → Becomes (turned_to number) old twice
Becomes-turned_to number old once twice first second = record {
  becomes = λ l es stands.
      let middle : Environments = ring_turned_unless (is_same es.number number) es in
      let stands_once : StandBy l middle once =
      subst (λ n. StandBy l (ring_turned_unless (is_same n number) es) once) stands.number (first.becomes l es stands) in
      subst (λ n. StandBy l (ring_turned_unless (is_same n number) middle) twice) stands_once.number (second.becomes l middle stands_once);
}

-- the code's environments with these left
abbrev leaving : KeptNumbers → EnvironmentsOf → EnvironmentsOf
leaving kept old = record old { left = kept }

-- one is left for another
pub Becomes-switched : (number : EnvironmentNumber) (old new : EnvironmentsOf) (kept : KeptNumbers)
    → kept ≡ record old.left { numbers = old.number ∷ old.left.numbers } → Becomes (turned_to number) (leaving kept old) new → Becomes (switched_to number) old new
Becomes-switched number old new kept is there = record {
  becomes = λ l es stands.
      there.becomes l (record es { left = es.number ∷ es.left })
      (record {
        number = stands.number;
        in_force = stands.in_force;
        next = stands.next;
        last = stands.last;
        left =
            ap (λ (k : KeptNumbers). k.numbers) is ∙ ap (λ (n : EnvironmentNumber). n ∷ old.left.numbers) stands.number
            ∙ ap (λ (left : List EnvironmentNumber). es.number ∷ left) stands.left;
        cap = ap (λ (k : KeptNumbers). k.cap) is ∙ stands.cap;
      });
}

-- the one that was left last is gone back to
pub Becomes-gone_back : (number : EnvironmentNumber) (old new : EnvironmentsOf) (kept : KeptNumbers)
    → old.left.numbers ≡ number ∷ kept.numbers → kept.cap ≡ old.left.cap → Becomes (turned_to number) (leaving kept old) new
    → Becomes (λ es. gone_back es.left es) old new
Becomes-gone_back number old new kept opened cap there = record {
  becomes = λ l es stands.
      let left : number ∷ kept.numbers ≡ es.left = sym opened ∙ stands.left in
      subst (λ (left : List EnvironmentNumber). StandBy l (gone_back left es) new) left
      (there.becomes l (record es { left = kept.numbers })
      (record {
        number = stands.number;
        in_force = stands.in_force;
        next = stands.next;
        last = stands.last;
        left = refl;
        cap = cap ∙ stands.cap;
      }));
}

-- the line of the one in force is interrupted
pub Becomes-interrupted : (line : TextLine) (old new : EnvironmentsOf) (lines : KeptLines) → StandsBehind old.in_force.lines IsInterrupted lines
    → new ≡ record old { in_force = record old.in_force { lines = lines; interrupted = line } } → Becomes (with_interruption line) old new
Becomes-interrupted line old new lines behind is = record {
  becomes = λ l es stands.
      subst (λ (coded : EnvironmentsOf). StandBy l (with_interruption line es) coded) (sym is)
      (record {
        number = stands.number;
        in_force = record { lines = behind l.line es.in_force.text stands.in_force.lines; interrupted = refl; input_trap = stands.in_force.input_trap };
        next = stands.next;
        last = stands.last;
        left = stands.left;
        cap = stands.cap;
      });
}

-- a text line of it counts, and so does its trap
pub Becomes-counted : (old new : EnvironmentsOf) (lines : KeptLines) (trap : Option InputTrap) → StandsBehind old.in_force.lines Count lines
    → trap ≡ counted_down old.in_force.input_trap → new ≡ record old { in_force = record old.in_force { lines = lines; input_trap = trap } }
    → Becomes (with_event Count) old new
Becomes-counted old new lines trap behind counted is = record {
  becomes = λ l es stands.
      subst (λ (coded : EnvironmentsOf). StandBy l (with_event Count es) coded) (sym is)
      (record {
        number = stands.number;
        in_force = record {
          lines = behind l.line es.in_force.text stands.in_force.lines;
          interrupted = stands.in_force.interrupted;
          input_trap = counted ∙ ap counted_down stands.in_force.input_trap;
        };
        next = stands.next;
        last = stands.last;
        left = stands.left;
        cap = stands.cap;
      });
}
