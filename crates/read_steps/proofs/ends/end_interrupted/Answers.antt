use Rattle.std.proofs.Common.{◌≡◌, List, ◌∷◌, [], Option, None, Some, Ok, refl, sym, ap, ◌∙◌}
use Rattle.page_model.specs.declared.event.Event.TheVariants.{Resume}
use Rattle.std.specs.Option.{option_to_list}
use Rattle.run_model.specs.Events.Steps.{messages_of}
use Rattle.read_meaning.specs.Meaning.{MeaningKept}
use Rattle.read_lines.specs.Reader.State.{ReaderState}
use Rattle.run_model.specs.Reading.Ends.{interrupted_end}
use Rattle.run_model.specs.Reading.Items.{going_on, meaning_events}
use Rattle.run_model.specs.PageEvents.{PageEvent}
use Rattle.run_model.specs.declared.event.PageEvent.TheVariants.{Text}
use Rattle.run_model.specs.declared.line_state.LineState.TheVariants.{LineStart}
use Rattle.run_model.specs.declared.line_state.TextLine.{TextLine}
use Rattle.read_lines.proofs.TakesAs.{TakesAs-asked}
use Rattle.read_lines.proofs.LinesTaken.{TakesAs-meant, TakesAs-said}
use Rattle.run_model.specs.declared.step.Step.TheVariants.{Meaning, Nothing}
use Rattle.read_steps.proofs.ends.end_interrupted.Goals as goal

pub returns-in-None : goal.returns-in-None
returns-in-None c = λ u.
    let behind = LineStart in
    let es = c.args.composer.now in
    let old = c.args.reader.now in
    let new : ReaderState = record { reading = behind; registers = c.reader.inside.lasting; meaning = c.reader.inside.meaning } in
    let m = Nothing in
    let none : Option TextLine = None in
    TakesAs-asked (λ k line. meaning_events u.input behind (interrupted_end line)) (λ k. k.interrupted) none es old new u u (Ok m)
    (λ l h rs i stands. sym c.in-None.is ∙ c.interrupted_line.ensures l h stands.environments)
    (TakesAs-meant (λ k. going_on u.input behind) behind es old new u m (λ k. refl) (ap (λ (s : ReaderState). record s { reading = behind }) c.reader.view_is)
    refl)

pub returns-in-Some : goal.returns-in-Some
returns-in-Some c = λ u.
    let behind = LineStart in
    let es = c.args.composer.now in
    let old = c.args.reader.now in
    let line : Option TextLine = Some c.in-Some.line in
    let kept = c.keep_line.new.self in
    let new : ReaderState = record { reading = behind; registers = c.reader.inside.lasting; meaning = kept } in
    let events : kept.events ≡ interrupted_end line =
    ap (λ (m : MeaningKept). m.events) c.keep_line.ensures
    ∙ ap (λ (events : List PageEvent). Text Resume ∷ events) (c.line.ensures ∙ c.end.ensures.means []) in
    let quiet : messages_of kept.message Meaning ≡ [] = ap (λ (m : MeaningKept). option_to_list m.message) c.keep_line.ensures in
    TakesAs-asked (λ k line. meaning_events u.input behind (interrupted_end line)) (λ k. k.interrupted) line es old new u u (Ok Meaning)
    (λ l h rs i stands. sym c.in-Some.is ∙ c.interrupted_line.ensures l h stands.environments)
    (TakesAs-said (λ k. meaning_events u.input behind (interrupted_end line)) behind [] (interrupted_end line) es old new u Meaning (λ k. refl)
    (ap (λ (s : ReaderState). record s { reading = behind; meaning = kept }) c.reader.view_is) quiet events)
