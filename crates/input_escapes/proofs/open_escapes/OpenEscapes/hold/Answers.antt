use Rattle.std.proofs.Common.{ℕ, ◌<◌, ◌∷◌, [], ◌++◌, ◌∙◌, List, length, reverse, vec_len, vec_capacity, sym, ap, arith, length-append, append_assoc}
use Rattle.input_source.specs.Bytes.{backslash}
use Rattle.input_escapes.specs.OpenEscape.{OpenEscape, unit_bytes}
use Rattle.input_escapes.specs.EscapeTexts.{KeptEscapes, joined}
use Rattle.input_escapes.specs.declared.open_escape.CopyUnit.TheVariants.{Byte, Kept}
use Rattle.input_escapes.proofs.EscapeTexts.{held-append, AreJoined-held, has_text-on_top, held-joined, held-more}
use Rattle.input_escapes.proofs.NestedEscapes.{IsNested-text_held}
use Rattle.input_escapes.proofs.open_escapes.OpenEscapes.hold.Goals as goal

pub unwrap-requires : goal.unwrap-requires
unwrap-requires c =
    let inside = c.self.inside in
    let back = reverse inside.items.items in
    let block = inside.texts.items in
    let room = rw (← c.self.view_is, c.in-Byte.is) at c.requires in
    let top = rw (← c.self.view_is) at c.in-Some.ensures.top in
    let has = has_text-on_top c.in-Some.item (joined back block) top ∙ sym c.holds_text.ensures ∙ c.if-holds_text.true in
    let few : vec_len inside.texts < vec_capacity inside.texts =
    omega (
      arith,
      room,
      held-more (Byte c.in-Byte.byte) (joined back block) has,
      held-joined back block c.self.invariant.joined,
      c.self.invariant.reserved,
      inside.texts.ok.0,
    ) in
    c.push.ensures.succeeds few

pub invariant_of-self : goal.invariant_of-self
invariant_of-self c =
    let inside = c.self.inside in
    let back = reverse inside.items.items in
    let block = inside.texts.items in
    let room = rw (← c.self.view_is, c.in-Byte.is) at c.requires in
    let top = rw (← c.self.view_is) at c.in-Some.ensures.top in
    let has = has_text-on_top c.in-Some.item (joined back block) top ∙ sym c.holds_text.ensures ∙ c.if-holds_text.true in
    let items = rw c.unwrap.ensures at c.push.ensures.items in
    let unit = Byte c.in-Byte.byte in
    let longer = ap length items ∙ length-append block (c.in-Byte.byte ∷ []) in
    record {
      small = c.self.invariant.small;
      reserved = omega (arith, c.self.invariant.reserved, c.push.ensures.capacity);
      within = omega (arith, longer, room, held-more unit (joined back block) has, held-joined back block c.self.invariant.joined);
      joined = rw items (AreJoined-held back block unit c.self.invariant.joined has);
      nested =
          rw (items, held-append back block unit c.self.invariant.joined has)
          (IsNested-text_held unit (joined back block) c.self.invariant.nested);
    }

pub returns-in-Byte : goal.returns-in-Byte
returns-in-Byte c =
    let inside = c.self.inside in
    let back = reverse inside.items.items in
    let block = inside.texts.items in
    let top = rw (← c.self.view_is) at c.in-Some.ensures.top in
    let has = has_text-on_top c.in-Some.item (joined back block) top ∙ sym c.holds_text.ensures ∙ c.if-holds_text.true in
    let items = rw c.unwrap.ensures at c.push.ensures.items in
    rw (items, ← c.self.view_is, c.in-Byte.is)
    (ap (λ (half : List OpenEscape). let k : KeptEscapes = record { escapes = half; room = inside.room } in k)
    (held-append back block (Byte c.in-Byte.byte) c.self.invariant.joined has))

pub unwrap-requires-in-Kept : goal.unwrap-requires-in-Kept
unwrap-requires-in-Kept c =
    let inside = c.self.inside in
    let back = reverse inside.items.items in
    let block = inside.texts.items in
    let room = rw (← c.self.view_is, c.in-Kept.is) at c.requires in
    let top = rw (← c.self.view_is) at c.in-Some.ensures.top in
    let has = has_text-on_top c.in-Some.item (joined back block) top ∙ sym c.holds_text.ensures ∙ c.if-holds_text.true in
    let few : vec_len inside.texts < vec_capacity inside.texts =
    omega (
      arith,
      room,
      held-more (Kept c.in-Kept.byte) (joined back block) has,
      held-joined back block c.self.invariant.joined,
      c.self.invariant.reserved,
      inside.texts.ok.0,
    ) in
    c.push-in-Kept.ensures.succeeds few

pub unwrap-requires-in-Kept-2 : goal.unwrap-requires-in-Kept-2
unwrap-requires-in-Kept-2 c =
    let inside = c.self.inside in
    let back = reverse inside.items.items in
    let block = inside.texts.items in
    let room = rw (← c.self.view_is, c.in-Kept.is) at c.requires in
    let top = rw (← c.self.view_is) at c.in-Some.ensures.top in
    let has = has_text-on_top c.in-Some.item (joined back block) top ∙ sym c.holds_text.ensures ∙ c.if-holds_text.true in
    let first = rw c.unwrap-in-Kept.ensures at c.push-in-Kept.ensures.items in
    let longer = ap length first ∙ length-append block (backslash ∷ []) in
    let few : vec_len c.push-in-Kept.new.self < vec_capacity c.push-in-Kept.new.self =
    omega (
      arith,
      room,
      longer,
      held-more (Kept c.in-Kept.byte) (joined back block) has,
      held-joined back block c.self.invariant.joined,
      c.self.invariant.reserved,
      c.push-in-Kept.ensures.capacity,
      inside.texts.ok.0,
      c.push-in-Kept.new.self.ok.0,
    ) in
    c.push-in-Kept-2.ensures.succeeds few

pub invariant_of-self-in-Kept : goal.invariant_of-self-in-Kept
invariant_of-self-in-Kept c =
    let inside = c.self.inside in
    let back = reverse inside.items.items in
    let block = inside.texts.items in
    let room = rw (← c.self.view_is, c.in-Kept.is) at c.requires in
    let top = rw (← c.self.view_is) at c.in-Some.ensures.top in
    let has = has_text-on_top c.in-Some.item (joined back block) top ∙ sym c.holds_text.ensures ∙ c.if-holds_text.true in
    let first = rw c.unwrap-in-Kept.ensures at c.push-in-Kept.ensures.items in
    let second = rw c.unwrap-in-Kept-2.ensures at c.push-in-Kept-2.ensures.items in
    let unit = Kept c.in-Kept.byte in
    let items = second ∙ ap (λ (front : List ℕ). front ++ c.in-Kept.byte ∷ []) first ∙ append_assoc block (backslash ∷ []) (c.in-Kept.byte ∷ []) in
    let longer = ap length items ∙ length-append block (unit_bytes unit) in
    record {
      small = c.self.invariant.small;
      reserved = omega (arith, c.self.invariant.reserved, c.push-in-Kept.ensures.capacity, c.push-in-Kept-2.ensures.capacity);
      within = omega (arith, longer, room, held-more unit (joined back block) has, held-joined back block c.self.invariant.joined);
      joined = rw items (AreJoined-held back block unit c.self.invariant.joined has);
      nested =
          rw (items, held-append back block unit c.self.invariant.joined has)
          (IsNested-text_held unit (joined back block) c.self.invariant.nested);
    }

pub returns-in-Kept : goal.returns-in-Kept
returns-in-Kept c =
    let inside = c.self.inside in
    let back = reverse inside.items.items in
    let block = inside.texts.items in
    let top = rw (← c.self.view_is) at c.in-Some.ensures.top in
    let has = has_text-on_top c.in-Some.item (joined back block) top ∙ sym c.holds_text.ensures ∙ c.if-holds_text.true in
    let first = rw c.unwrap-in-Kept.ensures at c.push-in-Kept.ensures.items in
    let second = rw c.unwrap-in-Kept-2.ensures at c.push-in-Kept-2.ensures.items in
    let items = second ∙ ap (λ (front : List ℕ). front ++ c.in-Kept.byte ∷ []) first ∙ append_assoc block (backslash ∷ []) (c.in-Kept.byte ∷ []) in
    rw (items, ← c.self.view_is, c.in-Kept.is)
    (ap (λ (half : List OpenEscape). let k : KeptEscapes = record { escapes = half; room = inside.room } in k)
    (held-append back block (Kept c.in-Kept.byte) c.self.invariant.joined has))
