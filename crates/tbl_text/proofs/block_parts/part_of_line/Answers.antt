use Rattle.std.proofs.Common.{◌∷◌, sym, ap, ◌∙◌, Some, None}
use Rattle.tbl_text.specs.BlockWords.{OneWord}
use Rattle.tbl_text.specs.BlockPlaces.{parts_at, word_at}
use Rattle.tbl_text.specs.declared.block_parts.BlockPlace.TheVariants.{Behind}
use Rattle.tbl_text.proofs.BlockParts.{words-part, first_word, no_words}
use Rattle.tbl_text.proofs.block_parts.part_of_line.Goals as goal

pub returns-in-Some-clause-parts : goal.returns-in-Some-clause-parts
returns-in-Some-clause-parts c =
    let bytes = c.args.bytes.now in
    let word = c.in-Some.word in
    let words = words-part bytes c.args.line c.args.end c.requires.order c.requires.within (Some word) c.in-Some.ensures.words in
    first_word bytes c.args.line c.args.end c.requires.order c.requires.within word c.in-Some.ensures.lies c.args.before
    (sym c.is_request.ensures ∙ c.if-is_request.false) (sym c.is_empty_line.ensures ∙ c.if-is_empty_line.false) words
    ∙ ap (λ w. OneWord (word_at bytes w) ∷ parts_at bytes (Behind word.to c.args.end word.ends_sentence)) (sym c.joined_word.ensures)

pub returns-in-None-clause-parts : goal.returns-in-None-clause-parts
returns-in-None-clause-parts c =
    let bytes = c.args.bytes.now in
    let words = words-part bytes c.args.line c.args.end c.requires.order c.requires.within None c.in-None.ensures.words in
    no_words bytes c.args.line c.args.end c.requires.order c.requires.within c.args.before
    (sym c.is_request.ensures ∙ c.if-is_request.false) (sym c.is_empty_line.ensures ∙ c.if-is_empty_line.false) words
