use Rattle.std.proofs.Common.{false, ap, arith, refl, sym, ◌∙◌}
use Rattle.run_events.specs.declared.formatter.Formatter.{Formatter}
use Rattle.read_lines.specs.Reader.State.{ReaderState}
use Rattle.read_shortcuts.proofs.LinesBegun.{escapes-passed, is_run-begun}
use Rattle.read_shortcuts.proofs.GlyphsRead.{glyph_front, no_newline_in_glyph}
use Rattle.run_shortcuts.proofs.GlyphsTold.{goes_past_begun_glyph}
use Rattle.run_turns.proofs.ComingFurther.{comes_both, comes_nowhere}
use Rattle.run_shortcuts.proofs.glyphs.begin_with_glyph.Goals as goal

pub returns-then-not-tell_glyph-clause-past : goal.returns-then-not-tell_glyph-clause-past
returns-then-not-tell_glyph-clause-past g c = λ out err.
    comes_nowhere _ _ _ _ _ _ out err c.args.run.now _ refl refl refl
    (ap (λ (f : Formatter). record c.args.run.now { interpreter = record c.args.run.now.interpreter { formatter = f } })
    (c.tell_glyph.ensures.untold c.if-not-tell_glyph.true))

pub pass-requires-clause-front : goal.pass-requires-clause-front
pass-requires-clause-front g c =
    let glyph = glyph_front c.in-Some.glyph c.in-Some.length c.front.result.now (sym c.glyph_in_front.ensures ∙ c.in-Some.is) in
    record { among = omega (arith, glyph.few, c.front.ensures.front.among); within = omega (arith, glyph.few, c.front.ensures.front.within) }

pub pass-requires-clause-plain : goal.pass-requires-clause-plain
pass-requires-clause-plain g c =
    no_newline_in_glyph c.in-Some.glyph c.in-Some.length c.front.result.now _ c.args.run.now.unread
    (glyph_front c.in-Some.glyph c.in-Some.length c.front.result.now (sym c.glyph_in_front.ensures ∙ c.in-Some.is)) c.front.ensures.bytes

pub tell_behind_glyph-requires : goal.tell_behind_glyph-requires
tell_behind_glyph-requires g c =
    is_run-begun _ _ (ap (λ (r : ReaderState). r.reading) c.go_on.ensures) (escapes-passed _ _ _ _ _ c.pass.ensures.passes ∙ c.requires.none_half)

pub returns-else-not-tell_glyph-clause-past : goal.returns-else-not-tell_glyph-clause-past
returns-else-not-tell_glyph-clause-past g c = λ out err.
    let front = c.front.result.now in
    let glyph = glyph_front c.in-Some.glyph c.in-Some.length front (sym c.glyph_in_front.ensures ∙ c.in-Some.is) in
    comes_both false
    (goes_past_begun_glyph c.args.run.now c.tell_glyph.new.self c.in-Some.glyph c.in-Some.length front glyph
    (c.tell_glyph.ensures.told c.if-not-tell_glyph.false) c.requires.none_half c.requires.begins c.requires.none_goes_on _ (sym c.go_on.ensures)
    _ _ _ _ _ _ _ out err _ c.front.ensures.bytes
    c.pass.ensures.passes c.pass.ensures.notes c.pass.ensures.failures) (c.tell_behind_glyph.ensures.past out err)

pub returns-else-not-tell_glyph-clause-none_half : goal.returns-else-not-tell_glyph-clause-none_half
returns-else-not-tell_glyph-clause-none_half g c = c.tell_behind_glyph.ensures.run.half_read

pub returns-else-not-tell_glyph-clause-none_due : goal.returns-else-not-tell_glyph-clause-none_due
returns-else-not-tell_glyph-clause-none_due g c = c.tell_behind_glyph.ensures.run.none_due

pub returns-else-not-tell_glyph-clause-prints : goal.returns-else-not-tell_glyph-clause-prints
returns-else-not-tell_glyph-clause-prints g c = λ named. c.tell_behind_glyph.ensures.run

pub returns-in-None-clause-past : goal.returns-in-None-clause-past
returns-in-None-clause-past g c = c.begin_behind_silent.ensures.past
