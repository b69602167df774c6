use Rattle.std.proofs.Common.{◌≡◌, ℕ, List, length, take, drop, refl, sym, ap, ◌∙◌, arith, length-take, take-take}
use Rattle.roff_lines.specs.GlyphsInFront.{glyphs_in_front}
use Rattle.roff_lines.proofs.TextFront.{few-counted, taken-counted}
use Rattle.roff_lines.proofs.TextRuns.{above-counted, EndsGlyphs-none, TellsFront-glyphs, EndsGlyphs-glyphs}
use Rattle.roff_lines.proofs.env.Env.glyphs_in_front.Goals as goal

pub returns-then-told-eq0-clause-ends : goal.returns-then-told-eq0-clause-ends
returns-then-told-eq0-clause-ends c =
    let bytes : List ℕ = c.args.bytes.now in
    let counted = c.measured_glyphs-told in
    let room : ℕ = c.glyph_room.result in
    let text : List ℕ = take c.args.count bytes in
    let none : counted.result.0 ≡ 0 = omega (arith, c.if-told-eq0.true) in
    let taken = taken-counted bytes c.args.count room counted.result.0 counted.ensures.text
    (counted.ensures.glyphs ∙ ap (λ n. take n (glyphs_in_front bytes)) c.min.ensures) in
    EndsGlyphs-none room text c.args.self.now (ap (λ n. take n text) (sym none) ∙ taken) c.glyph_room.ensures

pub glyphs-requires-clause-room : goal.glyphs-requires-clause-room
glyphs-requires-clause-room c =
    let bytes : List ℕ = c.args.bytes.now in
    let counted = c.measured_glyphs-told in
    omega (
      arith,
      length-take counted.result.0 bytes,
      ap length counted.ensures.glyphs,
      length-take c.min.result (glyphs_in_front bytes),
      counted.ensures.text,
      c.min.ensures,
      c.glyph_room.ensures,
    )

pub glyphs-requires-clause-above : goal.glyphs-requires-clause-above
glyphs-requires-clause-above c =
    let bytes : List ℕ = c.args.bytes.now in
    let counted = c.measured_glyphs-told in
    let room : ℕ = c.glyph_room.result in
    let text : List ℕ = take c.args.count bytes in
    let cap = counted.ensures.glyphs ∙ ap (λ n. take n (glyphs_in_front bytes)) c.min.ensures in
    let few = few-counted bytes c.args.count room counted.result.0 counted.ensures.text cap in
    let taken = taken-counted bytes c.args.count room counted.result.0 counted.ensures.text cap in
    above-counted text (take counted.result.0 bytes) (drop counted.result.0 text) c.args.self.now counted.result.0 room (omega arith)
    (omega (arith, few, length-take c.args.count bytes, c.requires)) taken c.glyph_room.ensures (sym (take-take counted.result.0 c.args.count bytes few)) refl

pub returns-clause-told : goal.returns-clause-told
returns-clause-told c =
    let bytes : List ℕ = c.args.bytes.now in
    let counted = c.measured_glyphs-told in
    let room : ℕ = c.glyph_room.result in
    let text : List ℕ = take c.args.count bytes in
    let cap = counted.ensures.glyphs ∙ ap (λ n. take n (glyphs_in_front bytes)) c.min.ensures in
    let few = few-counted bytes c.args.count room counted.result.0 counted.ensures.text cap in
    let taken = taken-counted bytes c.args.count room counted.result.0 counted.ensures.text cap in
    TellsFront-glyphs text (take counted.result.0 bytes) (drop counted.result.0 text) c.args.self.now counted.result.0 room (omega arith)
    (omega (arith, few, length-take c.args.count bytes, c.requires)) taken c.glyph_room.ensures (sym (take-take counted.result.0 c.args.count bytes few)) refl
    c.glyphs.new.self c.glyphs.ensures

pub returns-clause-ends : goal.returns-clause-ends
returns-clause-ends c =
    let bytes : List ℕ = c.args.bytes.now in
    let counted = c.measured_glyphs-told in
    let room : ℕ = c.glyph_room.result in
    let text : List ℕ = take c.args.count bytes in
    let cap = counted.ensures.glyphs ∙ ap (λ n. take n (glyphs_in_front bytes)) c.min.ensures in
    let few = few-counted bytes c.args.count room counted.result.0 counted.ensures.text cap in
    let taken = taken-counted bytes c.args.count room counted.result.0 counted.ensures.text cap in
    EndsGlyphs-glyphs text (take counted.result.0 bytes) (drop counted.result.0 text) c.args.self.now counted.result.0 room (omega arith)
    (omega (arith, few, length-take c.args.count bytes, c.requires)) taken c.glyph_room.ensures (sym (take-take counted.result.0 c.args.count bytes few)) refl
    c.glyphs.new.self c.glyphs.ensures
