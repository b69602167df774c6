use Rattle.std.proofs.Common.{List}
use Rattle.input_escapes.specs.OpenEscape.{OpenEscape, Backslash, Name}
use Rattle.input_escapes.specs.declared.open_escape.HeldEscape.TheVariants.{Backslash as BackslashRead}
use Rattle.input_escapes.specs.declared.open_escape.NamePart.TheVariants.{Nothing}
use Rattle.input_escapes.proofs.EscapeFronts.{read_in_place}
use Rattle.input_escapes.proofs.NestedEscapes.{IsNested-named, names-below}
use Rattle.input_escapes.proofs.open_escapes.OpenEscapes.name_escape.Goals as goal

pub push-requires-clause-stands : goal.push-requires-clause-stands
push-requires-clause-stands c =
    let half : List OpenEscape = c.args.self.now.escapes in
    let top = c.requires.on_top in
    let few = names-below BackslashRead half top (c.is_shallow.ensures c.if-not-is_shallow.false) in
    rw c.pop.ensures (IsNested-named c.in-Some.purpose Nothing half c.requires.nested top few)

pub returns : goal.returns
returns c =
    let top = c.requires.on_top in
    let few = names-below BackslashRead c.args.self.now.escapes top (c.is_shallow.ensures c.if-not-is_shallow.false) in
    read_in_place c.args.byte Backslash (Name c.in-Some.purpose Nothing) top.rest c.args.self.now _ top.same (c.in-Some.ensures top.rest few)
    (rw c.pop.ensures at c.push.ensures)
