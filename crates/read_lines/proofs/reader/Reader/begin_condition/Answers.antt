use Rattle.std.proofs.Common.{◌≡◌, true, false, Some, refl, rules, subst, ◌==◌}
use Rattle.input_source.specs.Bytes.{newline}
use Rattle.input_escapes.specs.OpenEscapes.{byte_read}
use Rattle.input_model.specs.Input.{choosing, with_escapes}
use Rattle.input_escapes.specs.declared.open_escape.Decision.TheVariants.{Is}
use Rattle.input_escapes.specs.declared.open_escape.Found.TheVariants.{Decides}
use Rattle.input_escapes.specs.declared.open_escape.Surroundings.TheVariants.{Arguments as AboveArguments}
use Rattle.input_escapes.proofs.TextsHeld.{texts_held-byte_read}
use Rattle.read_lines.specs.Reader.Taken.{TakesAs}
use Rattle.run_model.specs.Reading.Items.{PageUnread}
use Rattle.run_model.specs.Reading.Branches.{condition_begun, condition_found}
use Rattle.run_model.specs.Reading.Found.{read_in}
use Rattle.run_model.specs.declared.line_state.LineState.TheVariants.{Deciding}
use Rattle.read_lines.proofs.TakesAs.{NoMore-choosing, TakesAs-as, TakesAs-less, TakesAs-read}
use Rattle.read_lines.proofs.reader.Reader.begin_condition.Goals as goal

pub returns-then-byte-eq10 : goal.returns-then-byte-eq10
returns-then-byte-eq10 c =
    let u = c.args.unread.now in
    let b = c.args.byte in
    let keeps = c.args.keeps in
    let done = c.read_condition in
    let ends : (b == newline) ≡ true = search rules in
    TakesAs-as (λ k. condition_found k u.input keeps (Decides (Is false) (Some b))) (λ k. condition_begun k u.input keeps b) c.args.composer.now c.args.self.now done.new.self
    u done.new.unread done.result (λ k. rw ends refl) done.ensures

pub returns : goal.returns
returns c =
    let es = c.args.composer.now in
    let old = c.args.self.now in
    let u = c.args.unread.now in
    let b = c.args.byte in
    let keeps = c.args.keeps in
    let begun = c.begin_condition.new.self in
    let read = c.read_byte-found in
    let done = c.read_condition-2 in
    let goes_on : (b == newline) ≡ false = search rules in
    let took = TakesAs-read (λ k i found. condition_found k i keeps found) (byte_read AboveArguments begun.input.escapes b) es old done.new.self begun read.new.self done.new.unread
    read.result done.result read.ensures.reading (texts_held-byte_read AboveArguments b begun.input.escapes) done.ensures in
    let At : PageUnread → Type 0 = λ v. TakesAs (λ k.
    condition_found k (with_escapes (byte_read AboveArguments v.input.escapes b).1 v.input) keeps (byte_read AboveArguments v.input.escapes b).0)
    es old done.new.self v done.new.unread done.result in
    TakesAs-as (λ k. read_in k (Deciding keeps) u.input (byte_read AboveArguments (choosing u.input).escapes b)) (λ k. condition_begun k u.input keeps b) es old done.new.self
    u done.new.unread done.result (λ k. rw goes_on refl)
    (TakesAs-less (choosing u.input) (λ k. read_in k (Deciding keeps) u.input (byte_read AboveArguments (choosing u.input).escapes b)) es old done.new.self u done.new.unread done.result
    (NoMore-choosing u.input) refl refl (subst At c.begin_condition.ensures.change took))
