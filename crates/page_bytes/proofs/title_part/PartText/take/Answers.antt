use Rattle.std.proofs.Common.{◌≡◌, ℕ, ◌+◌, List, ◌∷◌, ◌++◌, length, drop, false, sym, ap, subst, ◌∙◌, arith, ne_eqb, ◌==◌}
use Rattle.page_model.specs.Columns.{spaces}
use Rattle.page_model.specs.Titles.{page_mark}
use Rattle.page_bytes.specs.TitleParts.{HasNoBlank}
use Rattle.page_bytes.proofs.TitleParts.{mark_printed, none_behind, run_taken, shown_no_blank, shown_printed, some_shown}
use Rattle.page_bytes.proofs.title_part.PartText.take.Goals as goal

pub returns-in_default-clause-taken : goal.returns-in_default-clause-taken
returns-in_default-clause-taken c =
    let a = c.args.self.now in
    run_taken a.number.now a.blanks c.from.result c.count_of_blanks.result a.part.now c.split_at.result.0.now c.split_at.result.1.now c.from.ensures
    c.split_at.ensures.front c.split_at.ensures.back c.count_of_blanks.ensures.part c.count_of_blanks.ensures.blanks

pub returns-then-byte-eq-PAGE_NUMBER-clause-taken : goal.returns-then-byte-eq-PAGE_NUMBER-clause-taken
returns-then-byte-eq-PAGE_NUMBER-clause-taken c =
    let a = c.args.self.now in
    let b : ℕ = c.in-Some.field-0-0.now in
    let is_mark : b ≡ page_mark = omega arith in
    ap (λ (bytes : List ℕ). spaces (c.from.result + length c.split_at.result.0.now) ++ bytes)
    (mark_printed a.number.now b c.split_at.result.1.now c.in-Some.rest.now c.in-Some.ensures.cases.0 is_mark)
    ∙ run_taken a.number.now a.blanks c.from.result c.count_of_blanks.result a.part.now c.split_at.result.0.now c.split_at.result.1.now c.from.ensures
    c.split_at.ensures.front c.split_at.ensures.back c.count_of_blanks.ensures.part c.count_of_blanks.ensures.blanks

pub returns-clause-taken : goal.returns-clause-taken
returns-clause-taken c =
    let a = c.args.self.now in
    let behind : List ℕ = c.split_at.result.1.now in
    rw (c.split_at-2.ensures.front, c.split_at-2.ensures.back)
    (ap (λ (bytes : List ℕ). spaces (c.from.result + length c.split_at.result.0.now) ++ bytes)
    (shown_printed a.number.now c.count_of_shown.result behind c.count_of_shown.ensures.shown)
    ∙ run_taken a.number.now a.blanks c.from.result c.count_of_blanks.result a.part.now c.split_at.result.0.now behind c.from.ensures
    c.split_at.ensures.front c.split_at.ensures.back c.count_of_blanks.ensures.part c.count_of_blanks.ensures.blanks)

pub returns-clause-shown : goal.returns-clause-shown
returns-clause-shown c =
    subst HasNoBlank (sym c.split_at-2.ensures.front) (shown_no_blank c.count_of_shown.result c.split_at.result.1.now c.count_of_shown.ensures.shown)

pub returns-clause-end : goal.returns-clause-end
returns-clause-end c none =
    let b : ℕ = c.in-Some.field-0-0.now in
    let behind : List ℕ = c.split_at.result.1.now in
    let first : drop c.count_of_blanks.result c.args.self.now.part.now ≡ b ∷ c.in-Some.rest.now =
    sym c.split_at.ensures.back ∙ c.in-Some.ensures.cases.0 in
    let blank = none_behind c.count_of_blanks.result b c.args.self.now.part.now c.in-Some.rest.now c.count_of_blanks.ensures.blanks first in
    let mark : (b == page_mark) ≡ false = ne_eqb b page_mark (λ is. absurd (omega arith)) in
    absurd (some_shown c.count_of_shown.result b behind c.in-Some.rest.now c.count_of_shown.ensures.shown c.in-Some.ensures.cases.0 blank mark
    (sym (ap length c.split_at-2.ensures.front) ∙ none))
