use Rattle.std.proofs.Common.{map, take}
use Rattle.cli_devices.specs.Inputs.Part.{AreNamed}
use Rattle.roff_tools.proofs.program.open_all.Given as goal

-- the parts so far are those of the names so far
abbrev pub invariant-loop-name : goal.invariant-loop-name
invariant-loop-name g l =
    AreNamed (g.R.Readers.opens l.rt) (g.R.Readers.stands l.rt) (map (λ name. name.now) (take l.name-index l.names)) l.parts.items
