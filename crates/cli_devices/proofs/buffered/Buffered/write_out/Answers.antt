use Rattle.std.proofs.Common.{◌≡◌, ◌≤◌, [], drop, length, refl, rules, ◌∙◌, drop-drop}
use Rattle.std.proofs.KnownBytes.{Keeps-refl, Keeps-trans}
use Rattle.cli_devices.proofs.Holding.{held_over, held_still, written_out}
use Rattle.cli_devices.proofs.buffered.Buffered.write_out.Goals as goal

pub loop-self-init : goal.loop-self-init
loop-self-init g c = (Keeps-refl _, refl)

pub loop-self-preserved : goal.loop-self-preserved
loop-self-preserved g c =
    let now = c.loop-self.self in
    let rest : c.split_at.result.1.now ≡ drop now.next now.held.items = rw c.as_slice.ensures.value at c.split_at.ensures.back in
    let wrote = rw rest at c.in-Some.ensures.some in (
      Keeps-trans _ _ _ c.loop-self.invariant.0
          (rw (← drop-drop c.in-Some.count now.next now.held.items) (written_out (g.W.BlockWrite.sunk now.writer).contents _ c.in-Some.count (drop now.next now.held.items) wrote.written)),
      wrote.failures ∙ c.loop-self.invariant.1,
    )

pub returns-in-None-clause-given : goal.returns-in-None-clause-given
returns-in-None-clause-given g c = Keeps-trans _ _ _ c.loop-self.invariant.0 (held_still _ _ _ c.in-None.ensures.none.kept)

pub returns-in-None-clause-fault : goal.returns-in-None-clause-fault
returns-in-None-clause-fault g c = rw c.loop-self.invariant.1 at c.in-None.ensures.none.fault

pub returns-clause-given : goal.returns-clause-given
returns-clause-given g c =
    let now = c.loop-self.self in
    let over : length now.held.items ≤ now.next = search rules in
    let cleared : c.clear.new.self.items ≡ [] = search rules in
    Keeps-trans _ _ _ c.loop-self.invariant.0 (held_over (g.W.BlockWrite.sunk now.writer).contents now.held.items c.clear.new.self.items now.next over cleared)
