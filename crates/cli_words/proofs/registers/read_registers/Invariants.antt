use Rattle.std.proofs.Common.{◌≡◌, map, drop}
use Rattle.cli_words.specs.RegistersAsked.{registers_behind, registers_of}
use Rattle.cli_words.proofs.registers.read_registers.Given as goal

-- behind those read, what the rest asks for
abbrev pub invariant-loop-text : goal.invariant-loop-text
invariant-loop-text l =
    registers_behind l.registers.items (map (λ text. text.now) (drop l.text-index l.texts)) ≡ registers_of (map (λ text. text.now) l.texts)
