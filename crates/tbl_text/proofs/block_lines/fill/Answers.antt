use Rattle.std.proofs.Common.{◌≡◌, ◌+◌, ◌≤◌, ◌||◌, Some, ℕ, Bool, length, max, arith, ap, subst, ◌∙◌}
use Rattle.tbl_text.specs.BlockLines.{has_word, lines_of, widest}
use Rattle.tbl_text.specs.BlockPlaces.{parts_at, parts_with}
use Rattle.tbl_text.specs.FilledLines.{left_with}
use Rattle.tbl_text.proofs.FilledBlocks.{next_lies, left_with-less, lines-more, width-more, word-more}
use Rattle.tbl_text.proofs.block_lines.fill.Goals as goal

pub loop-next-preserved : goal.loop-next-preserved
loop-next-preserved c =
    let bytes = c.args.bytes.now in
    let measure = c.args.measure in
    let part = c.in-Some.part in
    let behind = c.in-Some.behind in
    let before = c.loop-next.invariant in
    let line = c.line_begun-line.result in
    let made = c.line_begun-line.ensures in
    let grown = c.with_line-filled.ensures in
    let is : c.loop-next.next ≡ Some (part, behind) = cc in
    let all = parts_at bytes c.args.place in
    let lines = subst (λ next. c.loop-next.filled.lines + length (lines_of measure (parts_with bytes next)) ≡ length (lines_of measure all)) is before.lines in
    let width = subst (λ next. max c.loop-next.filled.width (widest (lines_of measure (parts_with bytes next))) ≡ widest (lines_of measure all)) is before.width in
    let word = subst (λ next. (c.loop-next.filled.has_word || has_word (parts_with bytes next)) ≡ has_word all) is before.word in
    let few = subst (λ next. c.loop-next.filled.lines + left_with bytes next ≤ length bytes + 1) is before.few in record {
      next = next_lies bytes _ line.next made.on;
      lines = ap (λ (n : ℕ). n + length (lines_of measure (parts_with bytes line.next))) grown.lines
          ∙ lines-more measure bytes part behind line.next made.behind c.loop-next.filled.lines _ lines;
      width = ap (λ (n : ℕ). max n (widest (lines_of measure (parts_with bytes line.next)))) grown.width
          ∙ width-more measure bytes part behind line.next made.behind c.loop-next.filled.width line.width _ made.width width;
      word = ap (λ (t : Bool). t || has_word (parts_with bytes line.next)) grown.word
          ∙ word-more measure bytes part behind line.next made.behind c.loop-next.filled.has_word _ word;
      few = omega (arith, few, grown.lines, left_with-less bytes _ line.next made.on);
      narrow = omega (arith, before.narrow, made.narrow, grown.width);
      room = made.room ∙ before.room;
    }
