use Rattle.std.proofs.Common.{sym, ap, ◌∙◌}
use Rattle.tbl_text.specs.BlockLines.{behind_rest, rest_of_line}
use Rattle.tbl_text.specs.BlockPlaces.{parts_at}
use Rattle.tbl_text.specs.FilledLines.{behind_with, line_with}
use Rattle.tbl_text.specs.declared.block_parts.BlockPlace.TheVariants.{Behind}
use Rattle.tbl_text.proofs.WordsOnLines.{line-word, behind-word}
use Rattle.tbl_text.proofs.block_lines.next_on_line.Goals as goal

pub returns-in-Some-clause-line : goal.returns-in-Some-clause-line
returns-in-Some-clause-line c =
    let bytes = c.args.bytes.now in
    let word = c.in-Some.word in
    ap (λ place. rest_of_line c.args.measure c.args.width (parts_at bytes place)) c.in-Behind.is
    ∙ ap (rest_of_line c.args.measure c.args.width) (c.in-Some.ensures.parts c.in-Behind.field-2)
    ∙ line-word c.args.measure c.args.width bytes word (Behind word.to c.in-Behind.end word.ends_sentence)
    ∙ ap (line_with bytes c.args.measure) (sym c.word_on_line.ensures)

pub returns-in-Some-clause-behind : goal.returns-in-Some-clause-behind
returns-in-Some-clause-behind c =
    let bytes = c.args.bytes.now in
    let word = c.in-Some.word in
    ap (λ place. behind_rest c.args.measure c.args.width (parts_at bytes place)) c.in-Behind.is
    ∙ ap (behind_rest c.args.measure c.args.width) (c.in-Some.ensures.parts c.in-Behind.field-2)
    ∙ behind-word c.args.measure c.args.width bytes word (Behind word.to c.in-Behind.end word.ends_sentence)
    ∙ ap (behind_with bytes c.args.measure) (sym c.word_on_line.ensures)
