use Rattle.std.proofs.Common.{◌≤◌, ◌∷◌, List, length, reverse, sym, ap, subst, arith}
use Rattle.std.proofs.lemmas.List.{length-reverse}
use Rattle.input_escapes.specs.OpenEscape.{OpenEscape}
use Rattle.input_escapes.specs.Nesting.{IsNested}
use Rattle.input_escapes.specs.EscapeTexts.{KeptEscapes, joined, begun}
use Rattle.input_escapes.proofs.EscapeTexts.{length-joined, pushed, AreJoined-pushed}
use Rattle.input_escapes.proofs.NestedEscapes.{length-nested}
use Rattle.input_escapes.proofs.open_escapes.OpenEscapes.push.Goals as goal

pub push-requires : goal.push-requires
push-requires c =
    let inside = c.self.inside in
    let half : List OpenEscape = joined (reverse inside.items.items) inside.texts.items in
    let few : length (begun c.args.escape ∷ half) ≤ 28 = length-nested (begun c.args.escape ∷ half) (rw (← c.self.view_is) at c.requires.stands) in
    (omega arith, omega (arith, few, length-joined (reverse inside.items.items) inside.texts.items, length-reverse inside.items.items))

pub invariant_of-self : goal.invariant_of-self
invariant_of-self c =
    let inside = c.self.inside in
    let begins = rw (← c.self.view_is) at c.requires.begins in
    record {
      small = c.self.invariant.small;
      reserved = c.self.invariant.reserved;
      within = c.self.invariant.within;
      joined = rw c.push.ensures.items (AreJoined-pushed c.args.escape inside.items.items inside.texts.items c.self.invariant.joined begins);
      nested =
          rw c.push.ensures.items
          (subst IsNested (sym (pushed c.args.escape inside.items.items inside.texts.items c.self.invariant.joined begins)) (rw (← c.self.view_is) at c.requires.stands));
    }

pub returns : goal.returns
returns c =
    let inside = c.self.inside in
    let begins = rw (← c.self.view_is) at c.requires.begins in
    rw (c.push.ensures.items, ← c.self.view_is)
    (ap (λ (half : List OpenEscape). let k : KeptEscapes = record { escapes = half; room = inside.room } in k)
    (pushed c.args.escape inside.items.items inside.texts.items c.self.invariant.joined begins))
