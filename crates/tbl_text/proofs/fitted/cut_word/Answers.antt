use Rattle.std.proofs.Common.{◌+◌, ◌-◌, ◌≤◌, refl, ap, ◌∙◌, [], ◌∷◌, arith}
use Rattle.tbl_text.specs.BlockPlaces.{word_at}
use Rattle.tbl_text.specs.declared.block_words.BlockWord.{BlockWord}
use Rattle.tbl_text.proofs.BlockSlices.{length-slice_range}
use Rattle.tbl_text.proofs.FittedWords.{cut-fitted, cut-lies, cut-within, none-fitted}
use Rattle.tbl_text.proofs.fitted.cut_word.Goals as goal

pub returns-in-Some-clause-word : goal.returns-in-Some-clause-word
returns-in-Some-clause-word c =
    let block = c.args.block.now in
    let word = c.args.word in
    let len = c.fitting_len-len.result in
    let short : len ≤ word.to - word.from =
    omega (arith, c.fitting_len-len.ensures.within, length-slice_range block word.from word.to c.requires.lies.within) in
    ap (λ (w : BlockWord). word_at block w ∷ []) c.with_gap_of.ensures
    ∙ cut-fitted block word c.in-Some.cut len (word.from + len) c.args.columns c.requires.lies refl short c.in-Some.ensures.lies _
    c.fitting_len-len.ensures.value c.in-Some.ensures.words

pub returns-in-Some-clause-lies : goal.returns-in-Some-clause-lies
returns-in-Some-clause-lies c =
    let block = c.args.block.now in
    let word = c.args.word in
    let len = c.fitting_len-len.result in
    let short : len ≤ word.to - word.from =
    omega (arith, c.fitting_len-len.ensures.within, length-slice_range block word.from word.to c.requires.lies.within) in
    rw c.with_gap_of.ensures
    (cut-lies block word c.in-Some.cut len (word.from + len) c.args.columns c.requires.lies refl short c.in-Some.ensures.lies)

pub returns-in-Some-clause-within : goal.returns-in-Some-clause-within
returns-in-Some-clause-within c =
    let block = c.args.block.now in
    let word = c.args.word in
    let len = c.fitting_len-len.result in
    let short : len ≤ word.to - word.from =
    omega (arith, c.fitting_len-len.ensures.within, length-slice_range block word.from word.to c.requires.lies.within) in
    rw c.with_gap_of.ensures
    (cut-within block word c.in-Some.cut len (word.from + len) c.args.columns c.requires.lies refl short c.in-Some.ensures.lies)

pub returns-in-None-clause-word : goal.returns-in-None-clause-word
returns-in-None-clause-word c =
    let block = c.args.block.now in
    let word = c.args.word in
    let len = c.fitting_len-len.result in
    let short : len ≤ word.to - word.from =
    omega (arith, c.fitting_len-len.ensures.within, length-slice_range block word.from word.to c.requires.lies.within) in
    none-fitted block word len (word.from + len) c.args.columns refl short c.fitting_len-len.ensures.value c.in-None.ensures.words
