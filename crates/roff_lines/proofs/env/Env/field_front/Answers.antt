use Rattle.std.proofs.Common.{◌≡◌, ◌<◌, ◌≤◌, ℕ, List, length, take, drop, sym, ap, subst, ◌∙◌, arith, length-take, take-take}
use Rattle.std.specs.List.{AllByRecursion}
use Rattle.roff_lines.specs.Env.Kept.{Kept, with_glyphs_told}
use Rattle.roff_lines.specs.Env.Tells.{EndsInField, Tells}
use Rattle.roff_lines.specs.GlyphsInFront.{glyphs_in_front}
use Rattle.roff_lines.proofs.TextFront.{few-counted, taken-counted}
use Rattle.roff_lines.proofs.GlyphsInField.{EndsInField-counted, EndsInField-none, Tells-counted, above-in, room-in}
use Rattle.roff_lines.proofs.env.Env.field_front.Goals as goal

pub returns-then-told-eq0-clause-ends : goal.returns-then-told-eq0-clause-ends
returns-then-told-eq0-clause-ends c =
    let bytes : List ℕ = c.args.bytes.now in
    let old : Kept = c.args.self.now in
    let counted = c.measured_glyphs-told in
    let told : ℕ = counted.result.0 in
    let room : ℕ = c.field_room.result in
    let text : List ℕ = take c.args.count bytes in
    let cap = counted.ensures.glyphs ∙ ap (λ n. take n (glyphs_in_front bytes)) c.min.ensures in
    let few = few-counted bytes c.args.count room told counted.ensures.text cap in
    let within : told ≤ length text = omega (arith, few, length-take c.args.count bytes, c.requires.text) in
    let taken = taken-counted bytes c.args.count room told counted.ensures.text cap in
    let same : take told text ≡ take told bytes = take-take told c.args.count bytes few in
    EndsInField-none text old told room within c.requires.above taken c.field_room.ensures c.requires.«open» (omega (arith, c.if-told-eq0.true))

pub glyphs_in_field-requires-clause-room : goal.glyphs_in_field-requires-clause-room
glyphs_in_field-requires-clause-room c =
    let bytes : List ℕ = c.args.bytes.now in
    let old : Kept = c.args.self.now in
    let counted = c.measured_glyphs-told in
    let told : ℕ = counted.result.0 in
    let room : ℕ = c.field_room.result in
    let text : List ℕ = take c.args.count bytes in
    let cap = counted.ensures.glyphs ∙ ap (λ n. take n (glyphs_in_front bytes)) c.min.ensures in
    let few = few-counted bytes c.args.count room told counted.ensures.text cap in
    let within : told ≤ length text = omega (arith, few, length-take c.args.count bytes, c.requires.text) in
    let taken = taken-counted bytes c.args.count room told counted.ensures.text cap in
    let same : take told text ≡ take told bytes = take-take told c.args.count bytes few in
    room-in text old told room within c.requires.above taken c.field_room.ensures c.requires.«open»

pub glyphs_in_field-requires-clause-above : goal.glyphs_in_field-requires-clause-above
glyphs_in_field-requires-clause-above c =
    let bytes : List ℕ = c.args.bytes.now in
    let old : Kept = c.args.self.now in
    let counted = c.measured_glyphs-told in
    let told : ℕ = counted.result.0 in
    let room : ℕ = c.field_room.result in
    let text : List ℕ = take c.args.count bytes in
    let cap = counted.ensures.glyphs ∙ ap (λ n. take n (glyphs_in_front bytes)) c.min.ensures in
    let few = few-counted bytes c.args.count room told counted.ensures.text cap in
    let within : told ≤ length text = omega (arith, few, length-take c.args.count bytes, c.requires.text) in
    let taken = taken-counted bytes c.args.count room told counted.ensures.text cap in
    let same : take told text ≡ take told bytes = take-take told c.args.count bytes few in
    subst (AllByRecursion (λ b. 32 < b)) same (above-in text old told room within c.requires.above taken c.field_room.ensures c.requires.«open»)

pub returns-clause-told : goal.returns-clause-told
returns-clause-told c =
    let bytes : List ℕ = c.args.bytes.now in
    let old : Kept = c.args.self.now in
    let counted = c.measured_glyphs-told in
    let told : ℕ = counted.result.0 in
    let room : ℕ = c.field_room.result in
    let text : List ℕ = take c.args.count bytes in
    let cap = counted.ensures.glyphs ∙ ap (λ n. take n (glyphs_in_front bytes)) c.min.ensures in
    let few = few-counted bytes c.args.count room told counted.ensures.text cap in
    let within : told ≤ length text = omega (arith, few, length-take c.args.count bytes, c.requires.text) in
    let taken = taken-counted bytes c.args.count room told counted.ensures.text cap in
    let same : take told text ≡ take told bytes = take-take told c.args.count bytes few in
    subst (Tells (take told bytes) old) (sym c.glyphs_in_field.ensures)
    (subst (λ (xs : List ℕ). Tells xs old (with_glyphs_told xs old)) same (Tells-counted text old told room within c.requires.above taken c.field_room.ensures c.requires.«open» (omega arith)))

pub returns-clause-ends : goal.returns-clause-ends
returns-clause-ends c =
    let bytes : List ℕ = c.args.bytes.now in
    let old : Kept = c.args.self.now in
    let counted = c.measured_glyphs-told in
    let told : ℕ = counted.result.0 in
    let room : ℕ = c.field_room.result in
    let text : List ℕ = take c.args.count bytes in
    let cap = counted.ensures.glyphs ∙ ap (λ n. take n (glyphs_in_front bytes)) c.min.ensures in
    let few = few-counted bytes c.args.count room told counted.ensures.text cap in
    let within : told ≤ length text = omega (arith, few, length-take c.args.count bytes, c.requires.text) in
    let taken = taken-counted bytes c.args.count room told counted.ensures.text cap in
    let same : take told text ≡ take told bytes = take-take told c.args.count bytes few in
    subst (EndsInField (drop told text)) (sym c.glyphs_in_field.ensures)
    (subst (λ (xs : List ℕ). EndsInField (drop told text) (with_glyphs_told xs old)) same (EndsInField-counted text old told room within c.requires.above taken c.field_room.ensures c.requires.«open»))
