use Rattle.std.proofs.Common.{◌≡◌, ◌≤◌, ◌∷◌, None, rules, sym, subst, arith, ◌∙◌, true≢false}
use Rattle.page_model.specs.declared.event.Event.TheVariants.{Print}
use Rattle.page_model.specs.declared.glyph.Glyph.{Glyph}
use Rattle.roff_lines.specs.Env.Kept.{Kept, length_with, with_glyph_told}
use Rattle.roff_lines.specs.Env.Stands.{Stands}
use Rattle.roff_lines.proofs.GlyphTold.{StandsBehind-glyph, Stands-glyph_told, length_told-none, limit-glyph_told, with_glyph_told-none}
use Rattle.roff_lines.proofs.env.Env.glyph.Goals as goal

pub returns-clause-stands : goal.returns-clause-stands
returns-clause-stands c line_cap h s =
    let k : Kept = c.args.self.now in
    let g : Glyph = c.args.glyph in
    let none : k.field ≡ None = search rules in
    let room : length_with g k ≤ k.cap = search rules in
    let is : c.print.new.self ≡ with_glyph_told g k = c.print.ensures ∙ sym (with_glyph_told-none g k none) in
    subst (Stands line_cap (Print g ∷ h)) (sym is) (Stands-glyph_told g line_cap h k s (omega (arith, length_told-none g k none, room)))

pub returns-clause-limit : goal.returns-clause-limit
returns-clause-limit c line_cap h s =
    let k : Kept = c.args.self.now in
    let g : Glyph = c.args.glyph in
    let none : k.field ≡ None = search rules in
    let room : length_with g k ≤ k.cap = search rules in (
      λ wrong. absurd (true≢false (sym wrong)),
      λ over. absurd (omega (arith, (limit-glyph_told g line_cap h k s).1 over, length_told-none g k none, room)),
    )

pub returns-then-bytes-gap-clause-stands : goal.returns-then-bytes-gap-clause-stands
returns-then-bytes-gap-clause-stands c =
    let told = c.glyph_in_field.ensures in
    StandsBehind-glyph c.glyph_in_field.result c.args.glyph c.args.self.now c.glyph_in_field.new.self told.kept told.limit

pub returns-then-bytes-gap-clause-limit : goal.returns-then-bytes-gap-clause-limit
returns-then-bytes-gap-clause-limit c line_cap h s =
    let limit = limit-glyph_told c.args.glyph line_cap h c.args.self.now s in
    let told = c.glyph_in_field.ensures.limit in
    (λ refused. limit.0 (told.0 refused), λ over. told.1 (limit.1 over))
