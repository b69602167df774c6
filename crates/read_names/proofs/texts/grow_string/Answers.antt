use Rattle.std.proofs.Common.{◌≡◌, true, is_some, rules}
use Rattle.input_escapes.specs.declared.open_escape.CopyUnit.TheVariants.{Byte, Kept}
use Rattle.read_names.proofs.GrownTexts.{InputCameTo-grown}
use Rattle.read_names.proofs.texts.grow_string.Goals as goal

pub returns-in-Byte : goal.returns-in-Byte
returns-in-Byte c =
    let named : is_some c.args.name ≡ true = search rules in
    rw c.in-Byte.is (InputCameTo-grown c.args.name (Byte c.in-Byte.byte) c.args.unread.now c.add.new.self c.add.result named c.add.ensures.change)

pub returns-in-Kept : goal.returns-in-Kept
returns-in-Kept c =
    let named : is_some c.args.name ≡ true = search rules in
    rw c.in-Kept.is
    (InputCameTo-grown c.args.name (Kept c.in-Kept.byte) c.args.unread.now c.add-in-Kept.new.self c.add-in-Kept.result named
    c.add-in-Kept.ensures.change)
