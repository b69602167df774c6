use Rattle.std.proofs.Common.{◌+◌, ℕ, drop, take, List, arith, ap, ◌∙◌, sym, length-take, ◌==◌}
use Rattle.std.proofs.lemmas.List.Sums.{count_by-le-length}
use Rattle.page_model.specs.Glyphs.{gap_blank, gaps_in}
use Rattle.roff_lines.proofs.Steps.{gaps_in-take_add, ones-front}
use Rattle.roff_lines.proofs.lanes.gaps_of_step.Goals as goal

pub returns-clause-few : goal.returns-clause-few
returns-clause-few c =
    let bytes : List ℕ = c.args.bytes.now in
    let front : List ℕ = take c.args.count (drop c.args.start bytes) in
    let ones = ones-front (λ b. b == gap_blank) bytes c.args.start c.args.count c.blanks_of_step.result c.in_front-blanks.result c.requires.within c.requires.count
    c.blanks_of_step.ensures c.in_front-blanks.ensures in
    omega (arith, c.from.ensures, ones, count_by-le-length (λ b. b == gap_blank) front, length-take c.args.count (drop c.args.start bytes))

pub returns-clause-gaps : goal.returns-clause-gaps
returns-clause-gaps c =
    let bytes : List ℕ = c.args.bytes.now in
    let ones = ones-front (λ b. b == gap_blank) bytes c.args.start c.args.count c.blanks_of_step.result c.in_front-blanks.result c.requires.within c.requires.count
    c.blanks_of_step.ensures c.in_front-blanks.ensures in
    gaps_in-take_add bytes c.args.start c.args.count ∙ ap (λ n. gaps_in (take c.args.start bytes) + n) (sym (c.from.ensures ∙ ones))
