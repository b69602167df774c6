use Rattle.std.proofs.Common.{◌<◌, ℕ, List, length, FitsSigned, ap, rules, subst, sym, w32, ◌∙◌}
use Rattle.roff_num.specs.RegisterText.{register_text}
use Rattle.roff_num.specs.declared.num.Num.{Num}
use Rattle.page_bytes.specs.TitleParts.{HasNoBlank}
use Rattle.run_events.proofs.TitleNumbers.{number-shown, number-some}
use Rattle.run_events.proofs.formatter.Formatter.page_number.Goals as goal

pub returns-clause-number : goal.returns-clause-number
returns-clause-number c = λ L stands.
    c.write_num.ensures ∙ ap (λ (n : Num). register_text c.args.format n.0) (c.number.ensures L stands)

pub returns-clause-some : goal.returns-clause-some
returns-clause-some c =
    let fits : FitsSigned w32 c.number.result.0 = search rules in
    subst (λ (bytes : List ℕ). 0 < length bytes) (sym c.write_num.ensures) (number-some c.args.format c.number.result.0 fits)

pub returns-clause-shown : goal.returns-clause-shown
returns-clause-shown c =
    let fits : FitsSigned w32 c.number.result.0 = search rules in
    subst HasNoBlank (sym c.write_num.ensures) (number-shown c.args.format c.number.result.0 fits)
