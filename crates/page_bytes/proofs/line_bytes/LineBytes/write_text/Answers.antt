use Rattle.std.proofs.Common.{◌≡◌, replicate, refl, arith}
use Rattle.page_bytes.specs.LineBytes.Left.{spare_columns}
use Rattle.page_bytes.proofs.Copied.{WritesOver-copied}
use Rattle.page_bytes.proofs.SpreadsOver.{WritesOver-spread}
use Rattle.page_bytes.proofs.line_bytes.LineBytes.write_text.Goals as goal

pub returns-then-is_copied : goal.returns-then-is_copied
returns-then-is_copied c =
    let left = c.self.inside in
    let copied = c.is_copied.ensures c.if-is_copied.true in
    let none : left.blanks ≡ 0 = omega (arith, c.if-self-gt0.false) in
    rw (← c.self.view_is)
    (WritesOver-copied left.each left.rest (spare_columns left) left.gaps left.passed c.args.start left.blanks left.text.now c.split_at.result.1.now
    (replicate left.newlines 10) c.args.out.now c.copy_over.new.out copied.0 copied.1.0 refl c.self.invariant.rest none c.split_at.ensures.back
    (omega (arith, copied.1.1, c.requires)) c.copy_over.ensures.same c.copy_over.ensures.written)

pub returns : goal.returns
returns c =
    let left = c.self.inside in
    let written = c.spread_over-written in
    let none : left.blanks ≡ 0 = omega (arith, c.if-self-gt0.false) in
    rw (← c.self.view_is)
    (WritesOver-spread (spare_columns left) left.gaps left.passed written.result.passed written.result.taken c.args.start written.result.end left.blanks
    left.text.now c.split_at-2.result.1.now (replicate left.newlines 10) c.args.out.now written.new.out written.ensures.written none c.split_at-2.ensures.back)
