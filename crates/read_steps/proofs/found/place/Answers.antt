use Rattle.std.proofs.Common.{◌≡◌, ◌∙◌, ap, rules, sym}
use Rattle.run_model.specs.Reading.Found.{place_in}
use Rattle.run_model.specs.Run.{known_at}
use Rattle.run_model.specs.declared.line_state.LineState.{LineState}
use Rattle.run_model.specs.declared.line_state.LineState.TheVariants.{Branch, Braced, LineStart, Text as InText}
use Rattle.read_steps.proofs.found.place.Goals as goal

pub returns-in-LineStart : goal.returns-in-LineStart
returns-in-LineStart c = λ l h rs i stands.
    let is : c.args.reader.now.reading ≡ LineStart = search rules in
    c.at_start.ensures l h rs i stands ∙ ap (λ (r : LineState). place_in (known_at h rs i) r) (sym is)

pub returns-in-Branch : goal.returns-in-Branch
returns-in-Branch c = λ l h rs i stands.
    let is : c.args.reader.now.reading ≡ Branch = search rules in
    c.at_start-in-Branch.ensures l h rs i stands ∙ ap (λ (r : LineState). place_in (known_at h rs i) r) (sym is)

pub returns-in-Braced : goal.returns-in-Braced
returns-in-Braced c = λ l h rs i stands.
    let is : c.args.reader.now.reading ≡ Braced = search rules in
    c.at_start-in-Braced.ensures l h rs i stands ∙ ap (λ (r : LineState). place_in (known_at h rs i) r) (sym is)

pub returns-in-Text : goal.returns-in-Text
returns-in-Text c = λ l h rs i stands.
    let is : c.args.reader.now.reading ≡ InText c.in-Text.line = search rules in
    c.on_line.ensures l h rs i stands ∙ ap (λ (r : LineState). place_in (known_at h rs i) r) (sym is)
