use Rattle.std.proofs.Common.{◌≡◌, ◌==◌, false, rules}
use Rattle.input_escapes.specs.declared.open_escape.CopyUnit.TheVariants.{Byte}
use Rattle.read_steps.proofs.arguments.read_unit.Goals.{in_default-via-in-Byte+in_default, in_default-via-in_default}
use Rattle.read_steps.proofs.arguments.read_unit.Goals as goal

pub returns-in-Byte-eq10 : goal.returns-in-Byte-eq10
returns-in-Byte-eq10 c = let is : c.args.unit ≡ Byte 10 = search rules in rw is c.end_arguments.ensures

pub returns-in_default : goal.returns-in_default
returns-in_default c = elim c.in_default.branch [
  | in_default-via-in-Byte+in_default w ↦
      let no_newline : (w.in_default.field-0 == 10) ≡ false = search rules in
      rw (w.in_default.is, no_newline) (rw w.in_default.is at (c.hold.ensures c.args.composer.now))
  | in_default-via-in_default w ↦ rw w.in_default.is (rw w.in_default.is at (c.hold.ensures c.args.composer.now))
]
