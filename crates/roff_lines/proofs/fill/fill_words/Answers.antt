use Rattle.std.proofs.Common.{◌-◌, ◌^◌, ◌∷◌, ◌++◌, [], ap, sym, subst, ◌∙◌, min, arith, length-append}
use Rattle.std.specs.Iterator.{Yields}
use Rattle.roff_lines.proofs.FirstLine.{Yields-more, first_line_count-cut, first_line_count-all}
use Rattle.roff_lines.proofs.fill.fill_words.Goals as goal

pub returns-in-None-width_of_line : goal.returns-in-None-width_of_line
returns-in-None-width_of_line g c =
    let filled = c.loop-word.invariant.2 in
    let taken = c.loop-word.yielded ++ c.in-Some.word ∷ [] in
    let cut = first_line_count-cut c.args.measure c.loop-word.yielded c.loop-word.line c.loop-word.count filled c.in-Some.word
    (sym c.width_of_line.ensures ∙ c.in-None-width_of_line.is) in
    let here = subst (λ s. Yields g.I.Iterator.next_gives s c.loop-word.yielded c.loop-word.word-iterator)
    c.into_iter-word-iterator.ensures.into_iter_gives c.loop-word.yielded_by in
    let gave = Yields-more g.I.Iterator.next_gives _ _ _ _ _ here c.in-Some.ensures.steps in
    let uncounted = length-append c.loop-word.yielded (c.in-Some.word ∷ []) in
    (taken, (_, gave, λ all. absurd (omega (arith, all, cut, uncounted))), filled.counted ∙ ap (λ n. min n (2 ^ 64 - 1)) (sym cut))

pub returns : goal.returns
returns g c =
    let filled = c.loop-word.invariant.2 in
    let all = first_line_count-all c.args.measure c.loop-word.yielded c.loop-word.line c.loop-word.count filled in
    let gave = subst (λ s. Yields g.I.Iterator.next_gives s c.loop-word.yielded c.loop-word.word-iterator)
    c.into_iter-word-iterator.ensures.into_iter_gives c.loop-word.yielded_by in
    (c.loop-word.yielded, (_, gave, λ _. (_, c.in-None.ensures.steps)), filled.counted ∙ ap (λ n. min n (2 ^ 64 - 1)) (sym all))
