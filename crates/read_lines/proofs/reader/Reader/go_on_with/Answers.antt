use Rattle.std.proofs.Common.{◌≡◌, ◌∙◌, List, [], ◌∷◌, Some, ap}
use Rattle.std.specs.Option.{option_to_list}
use Rattle.run_model.specs.Events.Steps.{events_of, messages_of}
use Rattle.page_model.specs.declared.event.Event.TheVariants.{Resume}
use Rattle.run_model.specs.Reading.Beginnings.{going_on_told}
use Rattle.run_model.specs.Reading.Items.{Taking, behind_events}
use Rattle.run_model.specs.Reading.TextLines.{text_taking}
use Rattle.run_model.specs.PageEvents.{PageEvent}
use Rattle.run_model.specs.declared.event.PageEvent.TheVariants.{Text}
use Rattle.read_meaning.specs.Meaning.{MeaningKept}
use Rattle.read_lines.specs.Reader.State.{ReaderState}
use Rattle.run_model.specs.declared.step.Step.TheVariants.{Meaning}
use Rattle.read_lines.proofs.LinesTaken.{TakesAs-said}
use Rattle.read_lines.proofs.reader.Reader.go_on_with.Goals as goal

pub returns : goal.returns
returns c = λ es u.
    let line = c.args.line in
    let read = c.taking-reading in
    let behind = read.result.0 in
    let old = c.args.self.now in
    let kept = c.keep_line.new.self in
    let new : ReaderState = record { reading = behind; registers = c.self.inside.lasting; meaning = kept } in
    let told : List PageEvent = Text Resume ∷ events_of [] read.result.1 in
    let events : kept.events ≡ told = ap (λ (m : MeaningKept). m.events) c.keep_line.ensures ∙ ap (λ (events : List PageEvent). Text Resume ∷ events) c.line.ensures in
    let quiet : messages_of kept.message Meaning ≡ [] = ap (λ (m : MeaningKept). option_to_list m.message) c.keep_line.ensures in
    TakesAs-said (λ k. behind_events (going_on_told (Some line)) (text_taking u.input line c.args.byte)) behind [] told es old new u Meaning
    (λ k. ap (λ (t : Taking). behind_events (going_on_told (Some line)) t) (read.ensures.means u.input []))
    (ap (λ (s : ReaderState). record s { reading = behind; meaning = kept }) c.self.view_is) quiet events
