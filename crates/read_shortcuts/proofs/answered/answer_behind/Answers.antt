use Rattle.std.proofs.Common.{ℕ, drop, ap, ◌∙◌}
use Rattle.read_shortcuts.proofs.AnsweredConditions.{answers-behind}
use Rattle.read_shortcuts.proofs.answered.answer_behind.Goals as goal

pub returns-in-Some-expression_in_front : goal.returns-in-Some-expression_in_front
returns-in-Some-expression_in_front c =
    answers-behind c.answer_of.result c.args.reader.now c.args.composer.now c.args.unread.now c.in-Some.name c.in-Some-expression_in_front.count c.args.bytes.now _ _ c.in-Some.ensures
    (c.split_at.ensures.back ∙ ap (λ (n : ℕ). drop n c.args.bytes.now) c.escape_len.ensures) c.in-Some-expression_in_front.ensures c.split_at-in-Some-expression_in_front.ensures.front c.answer_of.ensures
