use Rattle.std.proofs.Common.{List, ℕ, Some, arith, subst}
use Rattle.memchr.specs.Find.{IsFirstByte, is_byte}
use Rattle.input_source.specs.Bytes.{newline}
use Rattle.read_shortcuts.proofs.DroppedLines.{found-dropped}
use Rattle.read_shortcuts.proofs.dropped.dropped_len.Goals as goal

pub returns-in-Some : goal.returns-in-Some
returns-in-Some c =
    found-dropped c.args.skipped c.args.bytes.now c.in-Some.count (omega (arith, c.if-skipped-bytes.false))
    (subst (λ (rest : List ℕ). IsFirstByte (is_byte newline) rest (Some c.in-Some.count)) c.split_at.ensures.back
    c.in-Some.ensures)
