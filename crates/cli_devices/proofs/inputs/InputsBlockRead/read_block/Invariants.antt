use Rattle.std.proofs.Common.{◌≡◌, length}
use Rattle.input_source.specs.Tape.{Tape}
use Rattle.cli_devices.specs.Inputs.Giving.{inputs_give}
use Rattle.cli_devices.proofs.inputs.InputsBlockRead.read_block.Given as goal

-- what the parts that are left may give all of them might have given: those that were taken off had nothing left
abbrev pub invariant-loop-part : goal.invariant-loop-part
invariant-loop-part g l =
    ((t : Tape) → inputs_give g.F.BlockRead.gives g.S.BlockRead.gives l.self-inside.parts.items t → inputs_give g.F.BlockRead.gives g.S.BlockRead.gives l.fn.self t)
    × (length l.block ≡ length l.fn.block)

abbrev pub decreases-loop-part : goal.decreases-loop-part
decreases-loop-part g l = length l.self-inside.parts.items
