use Rattle.std.proofs.Common.{◌≡◌, rules}
use Rattle.run_model.specs.Reading.Found.{found_in, place_in}
use Rattle.run_model.specs.declared.line_state.LineState.TheVariants.{Deciding}
use Rattle.read_lines.proofs.TakesAs.{TakesAs-ended_at, TakesAs-where}
use Rattle.read_steps.proofs.ends.end_any.Goals as goal

pub returns-in-Deciding : goal.returns-in-Deciding
returns-in-Deciding c =
    let es = c.args.composer.now in
    let old = c.args.reader.now in
    let u = c.args.unread.now in
    let r = old.reading in
    let place = Deciding c.in-Deciding.keeps in
    let is : r ≡ place = search rules in
    let ended = c.end_reading-found in
    let done = c.read_in_condition in
    TakesAs-ended_at (λ k i found. found_in k i r found) (λ k. place_in k r) c.place-place.result es c.place-place.ensures old done.new.reader u ended.new.self done.new.unread
    ended.result done.result ended.ensures.reading
    (TakesAs-where (λ k r. found_in k ended.new.self.input r ended.result) place es old done.new.reader ended.new.self done.new.unread done.result is done.ensures)

pub returns-in_default : goal.returns-in_default
returns-in_default c =
    let es = c.args.composer.now in
    let old = c.args.reader.now in
    let u = c.args.unread.now in
    let r = old.reading in
    let ended = c.end_reading-found in
    let done = c.read_found in
    TakesAs-ended_at (λ k i found. found_in k i r found) (λ k. place_in k r) c.place-place.result es c.place-place.ensures old done.new.reader u ended.new.self done.new.unread
    ended.result done.result ended.ensures.reading done.ensures
