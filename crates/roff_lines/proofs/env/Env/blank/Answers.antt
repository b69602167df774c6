use Rattle.std.proofs.Common.{◌≡◌, true, rules, sym, ap, subst, ◌∙◌, arith, if◌then◌else◌}
use Rattle.std.proofs.lemmas.Bool.{not-true}
use Rattle.page_model.specs.declared.event.Event.TheVariants.{Gap}
use Rattle.roff_lines.specs.Env.Kept.{Kept, with_word_ended, word_finishes}
use Rattle.roff_lines.specs.Env.Stands.{StandsPlainBehind}
use Rattle.roff_lines.proofs.GapsTold.{Stands-with_gap, field-gap}
use Rattle.roff_lines.proofs.LinesTold.{field-word_ended}
use Rattle.roff_lines.proofs.TextRuns.{Tells-blank}
use Rattle.roff_lines.proofs.env.Env.blank.Goals as goal

pub returns : goal.returns
returns c =
    let k : Kept = c.args.self.now in
    let mid : Kept = c.join_word.new.self in
    let joined : c.join_word.result ≡ true = search rules in
    let none = not-true (word_finishes k) (sym c.join_word.ensures.joins ∙ joined) in
    let ended : mid ≡ with_word_ended k = c.join_word.ensures.kept ∙ ap (λ r. if r then with_word_ended k else k) joined in
    let gap : StandsPlainBehind mid (Gap 1) c.gap.new.self =
    subst (StandsPlainBehind mid (Gap 1)) (sym c.gap.ensures.kept) (Stands-with_gap 1 (omega arith) mid) in
    let same = ap (λ (n : Kept). n.field) c.gap.ensures.kept ∙ field-gap 1 mid ∙ ap (λ (n : Kept). n.field) ended ∙ field-word_ended k in
    Tells-blank k mid c.gap.new.self none ended gap same
