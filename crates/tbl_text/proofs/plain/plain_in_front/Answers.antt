use Rattle.std.proofs.Common.{List, ℕ, take, sym, subst, ◌∙◌}
use Rattle.tbl_text.specs.Laws.{ArePlain}
use Rattle.tbl_text.proofs.PlainTexts.{plain-width, text_taken}
use Rattle.tbl_text.proofs.plain.plain_in_front.Goals as goal

pub returns-then-len-gt0-clause-width : goal.returns-then-len-gt0-clause-width
returns-then-len-gt0-clause-width c =
    let front : List ℕ = take c.ascii_in_front-len.result c.args.bytes.now in
    sym (plain-width front c.ascii_in_front-len.ensures.plain ∙ c.ascii_in_front-len.ensures.width)

pub plain_width-width-requires : goal.plain_width-width-requires
plain_width-width-requires c = subst (λ (k : ℕ). ArePlain (take k c.args.bytes.now)) (sym c.text_in_front-len.ensures) (text_taken c.args.bytes.now)

pub returns-clause-plain : goal.returns-clause-plain
returns-clause-plain c = subst (λ (k : ℕ). ArePlain (take k c.args.bytes.now)) (sym c.text_in_front-len.ensures) (text_taken c.args.bytes.now)
