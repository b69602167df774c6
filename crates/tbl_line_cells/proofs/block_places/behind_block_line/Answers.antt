use Rattle.std.proofs.Common.{rules, ◌≡◌, ◌+◌, ◌∷◌}
use Rattle.tbl_text.specs.BlockPlaces.{parts_at, word_at}
use Rattle.tbl_text.specs.BlockWords.{OneWord}
use Rattle.tbl_text.specs.FilledLines.{leading_of}
use Rattle.tbl_line_cells.proofs.BlockLeft.{word-behind}
use Rattle.tbl_line_cells.proofs.block_places.behind_block_line.Goals as goal

pub returns-in-Some-Word-default-clause-lines : goal.returns-in-Some-Word-default-clause-lines
returns-in-Some-Word-default-clause-lines c =
    let block = c.args.block.now in
    let word = c.in-Some-Word-default.word in
    let behind = c.in-Some-Word-default.behind in
    let parts : parts_at block c.args.place ≡ OneWord (word_at block word) ∷ parts_at block behind = search rules in
    let wide : c.begun_width.result ≡ leading_of word + word.width = search rules in
    word-behind c.args.measure block word c.args.place behind c.behind_words.result c.begun_width.result parts wide
    c.behind_words.ensures.behind
