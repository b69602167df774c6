use Rattle.std.proofs.Common.{◌-◌, ◌∙◌, List, length, reverse, sym, ap, subst, arith, length-take}
use Rattle.std.proofs.lemmas.List.{length-reverse}
use Rattle.input_escapes.specs.OpenEscape.{OpenEscape}
use Rattle.input_escapes.specs.EscapeTexts.{KeptEscapes, joined}
use Rattle.input_escapes.specs.Nesting.{IsNested}
use Rattle.input_escapes.specs.declared.open_escape.HeldEscape.TheVariants.{Condition}
use Rattle.input_escapes.specs.declared.open_escape.Found.TheVariants.{GoesOn}
use Rattle.input_escapes.proofs.EscapeTexts.{joined-turned, AreJoined-turned, length-joined, reverse-replaced, with_part}
use Rattle.input_escapes.proofs.NestedEscapes.{length-nested, IsNested-with_part}
use Rattle.input_escapes.proofs.open_escapes.OpenEscapes.turn.Goals as goal

pub push-requires : goal.push-requires
push-requires c =
    let inside = c.self.inside in
    let front = ap length c.pop.ensures.rest in
    let half : List OpenEscape = joined (reverse inside.items.items) inside.texts.items in (
      omega arith,
      omega (
        arith,
        front,
        length-take (length inside.items.items - 1) inside.items.items,
        length-nested half c.self.invariant.nested,
        length-joined (reverse inside.items.items) inside.texts.items,
        length-reverse inside.items.items,
      ),
    )

pub invariant_of-self : goal.invariant_of-self
invariant_of-self c =
    let inside = c.self.inside in
    let back = reverse inside.items.items in
    let block = inside.texts.items in
    let items = rw c.pop.ensures.rest at c.push.ensures.items in
    let top = rw (c.in-Some-Condition.field-0-is, ← c.self.view_is) at c.in-Some-Condition.ensures.top in
    let replaced = reverse-replaced inside.items.items (Condition c.args.part c.in-Some-Condition.begin) in
    record {
      small = c.self.invariant.small;
      reserved = c.self.invariant.reserved;
      within = c.self.invariant.within;
      joined = rw (items, replaced) (AreJoined-turned back block _ c.in-Some-Condition.begin c.args.part c.self.invariant.joined top);
      nested =
          rw (items, replaced)
          (subst IsNested (sym (joined-turned back block _ c.in-Some-Condition.begin c.args.part c.self.invariant.joined top))
          (IsNested-with_part c.args.part (joined back block) c.self.invariant.nested));
    }

pub returns-in-Some-Condition : goal.returns-in-Some-Condition
returns-in-Some-Condition c = λ before text rest same.
    let inside = c.self.inside in
    let back = reverse inside.items.items in
    let block = inside.texts.items in
    let items = rw c.pop.ensures.rest at c.push.ensures.items in
    let top = rw (c.in-Some-Condition.field-0-is, ← c.self.view_is) at c.in-Some-Condition.ensures.top in
    let replaced = reverse-replaced inside.items.items (Condition c.args.part c.in-Some-Condition.begin) in
    let half = rw (← c.self.view_is) at same in
    rw (items, replaced, ← c.self.view_is)
    (ap (λ (half : List OpenEscape). let k : KeptEscapes = record { escapes = half; room = inside.room } in (GoesOn, k))
    (joined-turned back block _ c.in-Some-Condition.begin c.args.part c.self.invariant.joined top ∙ ap (with_part c.args.part) half))
