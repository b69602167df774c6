use Rattle.std.proofs.Common.{arith, refl, sym, ◌∙◌}
use Rattle.read_shortcuts.proofs.SilentEscapesRead.{no_newline_in_silent, silent_of}
use Rattle.read_shortcuts.proofs.LinesBegun.{escapes-passed}
use Rattle.run_turns.proofs.ComingFurther.{comes_none}
use Rattle.run_shortcuts.proofs.SilentBegun.{goes_past_silent}
use Rattle.run_shortcuts.proofs.glyphs.begin_behind_silent.Goals as goal

pub returns-then-length-eq0-clause-past : goal.returns-then-length-eq0-clause-past
returns-then-length-eq0-clause-past g c = λ out err. comes_none _ _ _ _

pub pass-requires-clause-front : goal.pass-requires-clause-front
pass-requires-clause-front g c =
    let silent = silent_of c.silent_escape-length.result c.front.result.now c.silent_escape-length.ensures c.if-length-eq0.false in
    record { among = omega (arith, silent.few, c.front.ensures.front.among); within = omega (arith, silent.few, c.front.ensures.front.within) }

pub pass-requires-clause-plain : goal.pass-requires-clause-plain
pass-requires-clause-plain g c =
    no_newline_in_silent c.silent_escape-length.result c.front.result.now _ c.args.run.now.unread
    (silent_of c.silent_escape-length.result c.front.result.now c.silent_escape-length.ensures c.if-length-eq0.false) c.front.ensures.bytes

pub returns-clause-past : goal.returns-clause-past
returns-clause-past g c = λ out err.
    let silent = silent_of c.silent_escape-length.result c.front.result.now c.silent_escape-length.ensures c.if-length-eq0.false in
    goes_past_silent c.args.run.now _ silent.silent c.requires.none_half c.requires.begins c.requires.none_goes_on _ (sym c.go_on.ensures)
    _ _ c.silent_escape-length.result _ c.front.result.now _ _ _ _ out err _ refl silent.few c.front.ensures.bytes c.pass.ensures.passes c.pass.ensures.notes c.pass.ensures.failures

pub returns-clause-none_half : goal.returns-clause-none_half
returns-clause-none_half g c = escapes-passed _ _ _ _ _ c.pass.ensures.passes ∙ c.requires.none_half
