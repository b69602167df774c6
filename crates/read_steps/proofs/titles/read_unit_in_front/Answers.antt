use Rattle.std.proofs.Common.{◌≡◌, ◌==◌, false, rules}
use Rattle.input_escapes.specs.declared.open_escape.CopyUnit.TheVariants.{Byte}
use Rattle.read_steps.proofs.titles.read_unit_in_front.Goals as goal

pub returns-in-Byte-eq10 : goal.returns-in-Byte-eq10
returns-in-Byte-eq10 c = let is : c.args.unit ≡ Byte 10 = search rules in rw is c.end_empty_title.ensures

pub returns-in-Byte : goal.returns-in-Byte
returns-in-Byte c =
    let no_newline : (c.in-Byte.delimiter == 10) ≡ false = search rules in
    let no_blank : (c.in-Byte.delimiter == 32) ≡ false = search rules in
    rw (c.in-Byte.is, no_newline, no_blank) (c.open_title.ensures c.args.composer.now c.args.unread.now)

pub returns-in-Kept : goal.returns-in-Kept
returns-in-Kept c = rw c.in-Kept.is (c.open_at_escape.ensures c.args.composer.now c.args.unread.now)
