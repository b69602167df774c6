use Rattle.input_arguments.specs.ArgumentList.{listed}
use Rattle.read_registers.specs.Lasting.{capped_of}
use Rattle.read_obeying.proofs.RemovedRegisters.{Removed}
use Rattle.read_obeying.proofs.registers.remove_given.Given as goal

abbrev pub invariant-loop-index : goal.invariant-loop-index
invariant-loop-index l =
    Removed l.index (listed l.arguments) l.fn.lasting
    (capped_of l.lasting-inside.registers l.lasting-inside.titles l.lasting-inside.last_macro)
