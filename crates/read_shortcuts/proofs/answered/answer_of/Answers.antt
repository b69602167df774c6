use Rattle.std.proofs.Common.{◌≡◌, ◌+◌, ◌++◌, List, ℕ, Some, rules, ap, subst, sym, ◌∙◌, length, pos}
use Rattle.std.proofs.lemmas.Int.{ints}
use Rattle.roff_num.specs.Expressions.{value_at}
use Rattle.roff_num.specs.declared.num.Scale.TheVariants.{Units}
use Rattle.read_shortcuts.specs.Answered.{BeginsNumber}
use Rattle.read_shortcuts.proofs.answered.answer_of.Goals as goal

pub returns-in-Ok-eval : goal.returns-in-Ok-eval
returns-in-Ok-eval c =
    let text : List ℕ = c.register_text-text.result.items in
    let rest : List ℕ = c.args.rest.now in
    let joined : c.as_slice-in-Ok.result.now ≡ text ++ rest = c.as_slice-in-Ok.ensures.value ∙ c.in-Ok.ensures.ok in
    record {
      text = text;
      text_is = c.register_text-text.ensures;
      number = subst BeginsNumber c.as_slice.ensures.value (c.is_number_begun.ensures c.if-not-is_number_begun.false);
      value = (c.in-Ok-eval.value, c.in-Ok-eval.field-0-1);
      is_number = sym (ap (λ (xs : List ℕ). value_at xs 0 Units (Some (pos 0))) joined) ∙ sym c.eval.ensures ∙ c.in-Ok-eval.is;
      so = search (rules, ints);
      len = c.len-len.ensures.value;
      count = ap (λ (n : ℕ). 5 + (n + length rest)) c.escape_len.ensures;
    }
