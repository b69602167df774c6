use Rattle.std.proofs.Common.{◌≡◌, ap, rules, sym, ◌∙◌, Ok, Err, Some, None}
use Rattle.run_model.specs.Output.{text_of}
use Rattle.run_events.specs.Formatter.Sprung.{first_left}
use Rattle.run_events.proofs.Springing.{none_open, one_open}
use Rattle.run_events.proofs.formatter.Formatter.end_open_word.Goals as goal

pub returns-then-not-has_open_word : goal.returns-then-not-has_open_word
returns-then-not-has_open_word g c = none_open c.args.self.now _
    (λ l h stood. sym (c.has_open_word.ensures.open l.line (text_of h) stood.environments.in_force.lines) ∙ search rules)

pub returns-in-Ok-None : goal.returns-in-Ok-None
returns-in-Ok-None g c =
    let is : c.end_word.result ≡ Ok None = search rules in
    one_open _ _ _ _ c.end_word.result (Ok None) (ap first_left is)
    (λ l h stood. sym (c.has_open_word.ensures.open l.line (text_of h) stood.environments.in_force.lines) ∙ search rules)
    c.end_word.ensures.own

pub returns-in-Ok-Some : goal.returns-in-Ok-Some
returns-in-Ok-Some g c =
    let is : c.end_word.result ≡ Ok (Some c.in-Ok-Some.sprung) = search rules in
    one_open _ _ _ _ c.end_word.result _ (ap first_left is ∙ ap (λ sprung. Ok (Some sprung)) (sym c.before_event.ensures))
    (λ l h stood. sym (c.has_open_word.ensures.open l.line (text_of h) stood.environments.in_force.lines) ∙ search rules)
    c.end_word.ensures.own

pub returns-in-Err : goal.returns-in-Err
returns-in-Err g c =
    let is : c.end_word.result ≡ Err c.in-Err.halt = search rules in
    one_open _ _ _ _ c.end_word.result _ (ap first_left is)
    (λ l h stood. sym (c.has_open_word.ensures.open l.line (text_of h) stood.environments.in_force.lines) ∙ search rules)
    c.end_word.ensures.own
