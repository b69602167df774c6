use Rattle.std.proofs.Common.{◌≡◌, ◌≤◌, ℕ, ◌-◌, true, false, List, [], take, drop, refl, rules, subst, sym, ap, ◌∙◌, arith, length-take, take-take}
use Rattle.page_model.specs.Glyphs.{gaps_in, text_width}
use Rattle.roff_lines.specs.Env.Kept.{with_words}
use Rattle.roff_lines.specs.Env.Tells.{WholeWords}
use Rattle.roff_lines.proofs.WholeWords.{some-words, gaps-words, width-words, TellsFront-words}
use Rattle.roff_lines.proofs.env.Env.words_in_front.Goals as goal

pub overflow_sub-words : goal.overflow_sub-words
overflow_sub-words c =
    let k = c.args.self.now in
    let room : ℕ = c.word_room.result - 1 in
    let told = c.whole_words-told in
    let bytes : List ℕ = c.args.bytes.now in
    let text : List ℕ = take c.args.count bytes in
    let few : told.result.0 ≤ c.args.count = omega (arith, told.ensures.most, c.min.ensures) in
    let line : k.has_line ≡ true = search rules in
    let closed : k.is_open ≡ false = search rules in
    let none : k.word ≡ [] = search rules in
    let words : WholeWords told.result.1 (take told.result.0 text) = subst (WholeWords told.result.1) (sym (take-take told.result.0 c.args.count bytes few)) told.ensures.words in
    some-words k room line closed none (c.word_room.ensures (omega (arith, told.ensures.most, c.min.ensures))) text told.result.0 told.result.1 (omega arith)
    (omega (arith, few, length-take c.args.count bytes, c.requires)) (omega (arith, told.ensures.most, c.min.ensures)) words

pub words-requires-clause-gaps : goal.words-requires-clause-gaps
words-requires-clause-gaps c =
    let k = c.args.self.now in
    let room : ℕ = c.word_room.result - 1 in
    let told = c.whole_words-told in
    let bytes : List ℕ = c.args.bytes.now in
    let text : List ℕ = take c.args.count bytes in
    let few : told.result.0 ≤ c.args.count = omega (arith, told.ensures.most, c.min.ensures) in
    let line : k.has_line ≡ true = search rules in
    let closed : k.is_open ≡ false = search rules in
    let none : k.word ≡ [] = search rules in
    let words : WholeWords told.result.1 (take told.result.0 text) = subst (WholeWords told.result.1) (sym (take-take told.result.0 c.args.count bytes few)) told.ensures.words in
    let less : take (told.result.0 - 1) text ≡ take (told.result.0 - 1) bytes = take-take (told.result.0 - 1) c.args.count bytes (omega (arith, few)) in
    ap gaps_in (sym less)
    ∙ gaps-words k room line closed none (c.word_room.ensures (omega (arith, told.ensures.most, c.min.ensures))) text told.result.0 told.result.1 (omega arith)
    (omega (arith, few, length-take c.args.count bytes, c.requires)) (omega (arith, told.ensures.most, c.min.ensures)) words

pub words-requires-clause-width : goal.words-requires-clause-width
words-requires-clause-width c =
    let k = c.args.self.now in
    let room : ℕ = c.word_room.result - 1 in
    let told = c.whole_words-told in
    let bytes : List ℕ = c.args.bytes.now in
    let text : List ℕ = take c.args.count bytes in
    let few : told.result.0 ≤ c.args.count = omega (arith, told.ensures.most, c.min.ensures) in
    let line : k.has_line ≡ true = search rules in
    let closed : k.is_open ≡ false = search rules in
    let none : k.word ≡ [] = search rules in
    let words : WholeWords told.result.1 (take told.result.0 text) = subst (WholeWords told.result.1) (sym (take-take told.result.0 c.args.count bytes few)) told.ensures.words in
    let less : take (told.result.0 - 1) text ≡ take (told.result.0 - 1) bytes = take-take (told.result.0 - 1) c.args.count bytes (omega (arith, few)) in
    ap text_width (sym less)
    ∙ width-words k room line closed none (c.word_room.ensures (omega (arith, told.ensures.most, c.min.ensures))) text told.result.0 told.result.1 (omega arith)
    (omega (arith, few, length-take c.args.count bytes, c.requires)) (omega (arith, told.ensures.most, c.min.ensures)) words
    ∙ omega (arith, length-take (told.result.0 - 1) text, length-take c.args.count bytes, few, c.requires)

pub returns-clause-told : goal.returns-clause-told
returns-clause-told c =
    let k = c.args.self.now in
    let room : ℕ = c.word_room.result - 1 in
    let told = c.whole_words-told in
    let bytes : List ℕ = c.args.bytes.now in
    let text : List ℕ = take c.args.count bytes in
    let few : told.result.0 ≤ c.args.count = omega (arith, told.ensures.most, c.min.ensures) in
    let line : k.has_line ≡ true = search rules in
    let closed : k.is_open ≡ false = search rules in
    let none : k.word ≡ [] = search rules in
    let words : WholeWords told.result.1 (take told.result.0 text) = subst (WholeWords told.result.1) (sym (take-take told.result.0 c.args.count bytes few)) told.ensures.words in
    let less : take (told.result.0 - 1) text ≡ take (told.result.0 - 1) bytes = take-take (told.result.0 - 1) c.args.count bytes (omega (arith, few)) in
    TellsFront-words k room line closed none (c.word_room.ensures (omega (arith, told.ensures.most, c.min.ensures))) text told.result.0 told.result.1 (omega arith)
    (omega (arith, few, length-take c.args.count bytes, c.requires)) (omega (arith, told.ensures.most, c.min.ensures)) words (drop told.result.0 text) c.words.new.self refl
    (c.words.ensures ∙ ap (λ (xs : List ℕ). with_words xs k) (sym less))
