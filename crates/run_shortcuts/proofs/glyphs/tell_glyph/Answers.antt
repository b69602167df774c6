use Rattle.std.proofs.Common.{ap, arith, refl, sym, ◌∙◌}
use Rattle.run_events.specs.declared.formatter.Formatter.{Formatter}
use Rattle.read_shortcuts.proofs.LinesBegun.{escapes-passed}
use Rattle.read_shortcuts.proofs.GlyphsRead.{glyph_front, no_newline_in_glyph}
use Rattle.run_shortcuts.proofs.GlyphsTold.{goes_on_behind, goes_past_glyph}
use Rattle.run_turns.proofs.ComingFurther.{comes_none, comes_nowhere}
use Rattle.run_shortcuts.proofs.glyphs.tell_glyph.Goals as goal

pub returns-then-not-tell_glyph-clause-past : goal.returns-then-not-tell_glyph-clause-past
returns-then-not-tell_glyph-clause-past g c = λ out err.
    comes_nowhere _ _ _ _ _ _ out err c.args.run.now _ refl refl refl
    (ap (λ (f : Formatter). record c.args.run.now { interpreter = record c.args.run.now.interpreter { formatter = f } })
    (c.tell_glyph.ensures.untold c.if-not-tell_glyph.true))

pub pass-requires-clause-front : goal.pass-requires-clause-front
pass-requires-clause-front g c =
    let glyph = glyph_front c.in-Some.glyph c.in-Some.length c.front.result.now (sym c.glyph_in_front.ensures ∙ c.in-Some.is) in
    record { among = omega (arith, glyph.few, c.front.ensures.front.among); within = omega (arith, glyph.few, c.front.ensures.front.within) }

pub pass-requires-clause-plain : goal.pass-requires-clause-plain
pass-requires-clause-plain g c =
    no_newline_in_glyph c.in-Some.glyph c.in-Some.length c.front.result.now _ c.args.run.now.unread
    (glyph_front c.in-Some.glyph c.in-Some.length c.front.result.now (sym c.glyph_in_front.ensures ∙ c.in-Some.is)) c.front.ensures.bytes

pub returns-else-not-tell_glyph-clause-past : goal.returns-else-not-tell_glyph-clause-past
returns-else-not-tell_glyph-clause-past g c = λ out err.
    let front = c.front.result.now in
    let glyph = glyph_front c.in-Some.glyph c.in-Some.length front (sym c.glyph_in_front.ensures ∙ c.in-Some.is) in
    let behind = goes_on_behind c.args.run.now.interpreter.reader.reading (sym c.is_behind_glyph.ensures ∙ c.if-not-is_behind_glyph.false) in
    goes_past_glyph c.args.run.now c.tell_glyph.new.self c.in-Some.glyph c.in-Some.length front behind.other behind.brace glyph
    (c.tell_glyph.ensures.told c.if-not-tell_glyph.false) c.requires.half_read behind.is _ _ _ _ _ _ _ out err _
    c.front.ensures.bytes c.pass.ensures.passes c.pass.ensures.notes c.pass.ensures.failures

pub returns-else-not-tell_glyph-clause-half : goal.returns-else-not-tell_glyph-clause-half
returns-else-not-tell_glyph-clause-half g c = escapes-passed _ _ _ _ _ c.pass.ensures.passes

pub returns-then-not-is_behind_glyph-clause-past : goal.returns-then-not-is_behind_glyph-clause-past
returns-then-not-is_behind_glyph-clause-past g c = λ out err. comes_none _ _ _ _

pub returns-in-None-clause-past : goal.returns-in-None-clause-past
returns-in-None-clause-past g c = λ out err. comes_none _ _ _ _
