use Rattle.std.proofs.Common.{◌+◌, ◌<◌, ◌≤◌, ℕ, map, ap, subst, ◌∙◌}
use Rattle.tbl_text.specs.Laws.{byte_item}
use Rattle.tbl_text.specs.Measuring.{up_to_last_glyph}
use Rattle.tbl_text.proofs.PlainTexts.{behind-none, behind-some}
use Rattle.tbl_text.proofs.measure.glyphs_behind.Goals as goal

pub returns-then-more-gt0 : goal.returns-then-more-gt0
returns-then-more-gt0 c =
    ap (λ (n : ℕ). c.args.at + n) c.plain_glyphs-more.ensures.value
    ∙ behind-some c.args.glyphs c.args.at (up_to_last_glyph (map byte_item c.args.bytes.now)) (subst (λ (n : ℕ). 0 < n) c.plain_glyphs-more.ensures.value c.if-more-gt0.true)

pub returns-else-more-gt0 : goal.returns-else-more-gt0
returns-else-more-gt0 c = behind-none c.args.glyphs c.args.at c.args.bytes.now (subst (λ (n : ℕ). n ≤ 0) c.plain_glyphs-more.ensures.value c.if-more-gt0.false)
