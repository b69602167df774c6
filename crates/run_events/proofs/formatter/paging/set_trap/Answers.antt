use Rattle.std.proofs.lemmas.Int.{to_z-of_z}
use Rattle.std.proofs.Common.{rules, w32, refl}
use Rattle.page_model.specs.declared.layout_event.LayoutEvent.TheVariants.{Uproot, MoveTrap, RemoveTrap, DiversionTrap, NoDiversionTrap}
use Rattle.run_events.proofs.Quiet.{plants_within, sets_quietly}
use Rattle.run_events.proofs.formatter.paging.set_trap.Goals as goal

pub returns-in-Plant : goal.returns-in-Plant
returns-in-Plant c = rw (c.in-Plant.is, c.within_limit.ensures) (plants_within c.in-Plant.trap _ _ c.args.due.now c.plant.result c.plant.ensures.ok c.plant.ensures.within c.plant.ensures.limit c.plant.ensures.same c.plant.ensures.full)

pub returns-in-RemoveTrap : goal.returns-in-RemoveTrap
returns-in-RemoveTrap c = rw c.in-RemoveTrap.is (sets_quietly (RemoveTrap c.in-RemoveTrap.name) _ _ c.args.due.now refl refl c.remove_trap.ensures tt)

pub returns-in-DiversionTrap : goal.returns-in-DiversionTrap
returns-in-DiversionTrap c = rw c.in-DiversionTrap.is (sets_quietly (DiversionTrap c.in-DiversionTrap.trap) _ _ c.args.due.now refl refl c.diversion_trap.ensures tt)

pub returns-in-NoDiversionTrap : goal.returns-in-NoDiversionTrap
returns-in-NoDiversionTrap c = rw c.in-NoDiversionTrap.is (sets_quietly (NoDiversionTrap) _ _ c.args.due.now refl refl c.diversion_trap-in-NoDiversionTrap.ensures tt)

pub returns-in-Uproot : goal.returns-in-Uproot
returns-in-Uproot c = rw c.in-Uproot.is (sets_quietly (Uproot c.in-Uproot.place) _ _ c.args.due.now refl refl (rw (to_z-of_z w32 c.in-Uproot.place (search rules)) at c.uproot.ensures) tt)

pub returns-in-MoveTrap : goal.returns-in-MoveTrap
returns-in-MoveTrap c = rw c.in-MoveTrap.is (sets_quietly (MoveTrap c.in-MoveTrap.name c.in-MoveTrap.place) _ _ c.args.due.now refl refl (rw (to_z-of_z w32 c.in-MoveTrap.place (search rules)) at c.move_trap.ensures) tt)
