use Rattle.std.proofs.Common.{◌<◌, ℕ, List, length, FitsSigned, rules, subst, sym, w32, ◌∙◌}
use Rattle.page_bytes.specs.TitleParts.{HasNoBlank}
use Rattle.run_events.proofs.TitleNumbers.{number-shown, number-some}
use Rattle.run_items.proofs.interpreter.diverting.add_title.Goals as goal

pub add_numbered-requires-clause-some : goal.add_numbered-requires-clause-some
add_numbered-requires-clause-some c =
    let fits : FitsSigned w32 c.args.number.0 = search rules in
    subst (λ (bytes : List ℕ). 0 < length bytes) (sym (c.as_slice.ensures.value ∙ c.write_num.ensures)) (number-some c.args.format c.args.number.0 fits)

pub add_numbered-requires-clause-shown : goal.add_numbered-requires-clause-shown
add_numbered-requires-clause-shown c =
    let fits : FitsSigned w32 c.args.number.0 = search rules in
    subst HasNoBlank (sym (c.as_slice.ensures.value ∙ c.write_num.ensures)) (number-shown c.args.format c.args.number.0 fits)
