use Rattle.std.proofs.Common.{◌-◌, ◌∙◌, List, Some, length, reverse, sym, ap, subst, arith, length-take}
use Rattle.std.proofs.lemmas.List.{length-reverse}
use Rattle.input_escapes.specs.OpenEscape.{OpenEscape}
use Rattle.input_escapes.specs.EscapeTexts.{KeptEscapes, joined}
use Rattle.input_escapes.specs.Nesting.{IsNested}
use Rattle.input_escapes.specs.declared.open_escape.HeldEscape.TheVariants.{Delimited}
use Rattle.input_escapes.proofs.EscapeTexts.{joined-delimited, AreJoined-delimited, length-joined, reverse-replaced, with_delimiter}
use Rattle.input_escapes.proofs.NestedEscapes.{length-nested, IsNested-with_delimiter}
use Rattle.input_escapes.proofs.open_escapes.OpenEscapes.delimit.Goals as goal

pub push-requires : goal.push-requires
push-requires c =
    let inside = c.self.inside in
    let front = ap length c.pop.ensures.rest in
    let half : List OpenEscape = joined (reverse inside.items.items) inside.texts.items in (
      omega arith,
      omega (
        arith,
        front,
        length-take (length inside.items.items - 1) inside.items.items,
        length-nested half c.self.invariant.nested,
        length-joined (reverse inside.items.items) inside.texts.items,
        length-reverse inside.items.items,
      ),
    )

pub invariant_of-self : goal.invariant_of-self
invariant_of-self c =
    let inside = c.self.inside in
    let back = reverse inside.items.items in
    let block = inside.texts.items in
    let items = rw c.pop.ensures.rest at c.push.ensures.items in
    let top = rw (c.in-Some-Delimited.field-0-is, ← c.self.view_is) at c.in-Some-Delimited.ensures.top in
    let replaced = reverse-replaced inside.items.items (Delimited c.in-Some-Delimited.purpose (Some c.args.delimiter) c.in-Some-Delimited.begin) in
    record {
      small = c.self.invariant.small;
      reserved = c.self.invariant.reserved;
      within = c.self.invariant.within;
      joined =
          rw (items, replaced)
          (AreJoined-delimited back block c.in-Some-Delimited.purpose _ c.in-Some-Delimited.begin c.args.delimiter c.self.invariant.joined top);
      nested =
          rw (items, replaced)
          (subst IsNested
          (sym (joined-delimited back block c.in-Some-Delimited.purpose _ c.in-Some-Delimited.begin c.args.delimiter c.self.invariant.joined top))
          (IsNested-with_delimiter c.args.delimiter (joined back block) c.self.invariant.nested));
    }

pub returns-in-Some-Delimited : goal.returns-in-Some-Delimited
returns-in-Some-Delimited c = λ purpose text rest same.
    let inside = c.self.inside in
    let back = reverse inside.items.items in
    let block = inside.texts.items in
    let items = rw c.pop.ensures.rest at c.push.ensures.items in
    let top = rw (c.in-Some-Delimited.field-0-is, ← c.self.view_is) at c.in-Some-Delimited.ensures.top in
    let replaced = reverse-replaced inside.items.items (Delimited c.in-Some-Delimited.purpose (Some c.args.delimiter) c.in-Some-Delimited.begin) in
    let half = rw (← c.self.view_is) at same in
    rw (items, replaced, ← c.self.view_is)
    (ap (λ (half : List OpenEscape). let k : KeptEscapes = record { escapes = half; room = inside.room } in k)
    (joined-delimited back block c.in-Some-Delimited.purpose _ c.in-Some-Delimited.begin c.args.delimiter c.self.invariant.joined top
    ∙ ap (with_delimiter c.args.delimiter) half))
