use Rattle.std.proofs.Common.{◌≡◌, ◌∙◌, ap, refl, rules}
use Rattle.run_model.specs.Reading.Found.{found_in}
use Rattle.read_lines.specs.Reader.State.{ReaderState}
use Rattle.run_model.specs.declared.line_state.LineState.{LineState}
use Rattle.run_model.specs.declared.line_state.LineState.TheVariants.{LineStart, Branch, Braced, Text as InText, Deciding, TitleFront, Title as InTitle, Collecting}
use Rattle.read_steps.proofs.Placed.{found-elsewhere}
use Rattle.read_lines.proofs.TakesAs.{TakesAs-where}
use Rattle.read_lines.proofs.LinesTaken.{TakesAs-collected, TakesAs-meant}
use Rattle.run_model.specs.declared.step.Step.TheVariants.{Nothing}
use Rattle.read_steps.proofs.found.read_found.Goals as goal

pub returns-in-LineStart : goal.returns-in-LineStart
returns-in-LineStart c =
    let u = c.args.unread.now in
    let done = c.begin_line in
    let place : LineState = LineStart in
    let is : c.args.reader.now.reading ≡ place = search rules in
    TakesAs-where (λ k r. found_in k u.input r c.args.found) place c.args.composer.now c.args.reader.now done.new.self u done.new.unread done.result is done.ensures

pub returns-in-Branch : goal.returns-in-Branch
returns-in-Branch c =
    let u = c.args.unread.now in
    let done = c.begin_line-in-Branch in
    let place : LineState = Branch in
    let is : c.args.reader.now.reading ≡ place = search rules in
    TakesAs-where (λ k r. found_in k u.input r c.args.found) place c.args.composer.now c.args.reader.now done.new.self u done.new.unread done.result is done.ensures

pub returns-in-Braced : goal.returns-in-Braced
returns-in-Braced c =
    let u = c.args.unread.now in
    let done = c.begin_line-in-Braced in
    let place : LineState = Braced in
    let is : c.args.reader.now.reading ≡ place = search rules in
    TakesAs-where (λ k r. found_in k u.input r c.args.found) place c.args.composer.now c.args.reader.now done.new.self u done.new.unread done.result is done.ensures

pub returns-in-Text : goal.returns-in-Text
returns-in-Text c =
    let u = c.args.unread.now in
    let done = c.read_text in
    let place : LineState = InText c.in-Text.line in
    let is : c.args.reader.now.reading ≡ place = search rules in
    TakesAs-where (λ k r. found_in k u.input r c.args.found) place c.args.composer.now c.args.reader.now done.new.self u done.new.unread done.result is done.ensures

pub returns-in-Deciding : goal.returns-in-Deciding
returns-in-Deciding c =
    let u = c.args.unread.now in
    let done = c.read_condition in
    let place : LineState = Deciding c.in-Deciding.keeps in
    let is : c.args.reader.now.reading ≡ place = search rules in
    TakesAs-where (λ k r. found_in k u.input r c.args.found) place c.args.composer.now c.args.reader.now done.new.self u done.new.unread done.result is done.ensures

pub returns-in-Collecting : goal.returns-in-Collecting
returns-in-Collecting c =
    let u = c.args.unread.now in
    let done = c.read_for in
    let place : LineState = Collecting c.in-Collecting.purpose in
    let is : c.args.reader.now.reading ≡ place = search rules in
    TakesAs-where (λ k r. found_in k u.input r c.args.found) place c.args.composer.now c.args.reader.now done.new.reader u done.new.unread done.result is done.ensures

pub returns-in-TitleFront : goal.returns-in-TitleFront
returns-in-TitleFront c =
    let u = c.args.unread.now in
    let done = c.read_collected in
    let place : LineState = TitleFront in
    let is : c.args.reader.now.reading ≡ place = search rules in
    TakesAs-collected place c.args.found c.args.composer.now c.args.reader.now done.new.reader u done.new.unread done.result (λ k i. refl) is done.ensures

pub returns-in-Title : goal.returns-in-Title
returns-in-Title c =
    let u = c.args.unread.now in
    let done = c.read_title in
    let place : LineState = InTitle c.in-Title.delimiter in
    let is : c.args.reader.now.reading ≡ place = search rules in
    TakesAs-where (λ k r. found_in k u.input r c.args.found) place c.args.composer.now c.args.reader.now done.new.reader u done.new.unread done.result is done.ensures

pub returns-in_default : goal.returns-in_default
returns-in_default c =
    let old = c.args.reader.now in
    let u = c.args.unread.now in
    let others = c.in_default in
    let same = ap (λ (s : ReaderState). s.reading) c.reader.view_is in
    TakesAs-meant (λ k. found_in k u.input old.reading c.args.found) old.reading c.args.composer.now old old u Nothing
    (λ k. found-elsewhere k u.input old.reading c.args.found (λ is. others.not-LineStart (same ∙ is)) (λ is. others.not-Branch (same ∙ is)) (λ is. others.not-Braced (same ∙ is))
    (λ line is. others.not-Text line (same ∙ is)) (λ purpose is. others.not-Collecting purpose (same ∙ is))
    (λ keeps is. others.not-Deciding keeps (same ∙ is)) (λ is. others.not-TitleFront (same ∙ is))
    (λ delimiter is. others.not-Title delimiter (same ∙ is))) refl refl
