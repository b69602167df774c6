use Rattle.std.proofs.Common.{subst, ◌≡◌, Some, None, ap, rules}
use Rattle.read_lines.specs.Reader.State.{ReaderState}
use Rattle.read_lines.specs.Reader.Taken.{TakesAs}
use Rattle.run_model.specs.declared.line_state.LineState.{LineState}
use Rattle.run_model.specs.Reading.Collecting.{collected, unit_taking}
use Rattle.run_model.specs.Reading.Units.{interrupted, no_unit_found, unit_in, unit_or}
use Rattle.read_lines.proofs.TakesAs.{TakesAs-as, TakesAs-settled}
use Rattle.read_steps.proofs.found.read_collected.Goals as goal

pub returns-in-Some : goal.returns-in-Some
returns-in-Some c =
    let old = c.args.reader.now in
    let u = c.args.unread.now in
    let r = old.reading in
    let found = c.args.found in
    let unit = c.in-Some.unit in
    let done = c.read_unit_here in
    let is : Some unit ≡ unit_in found = search rules in
    TakesAs-as (λ k. unit_taking k u.input r unit) (λ k. collected k u.input r found) c.args.composer.now old done.new.reader u done.new.unread done.result
    (λ k. ap (unit_or (unit_taking k u.input r) (no_unit_found k (interrupted r u.input) r found)) is) done.ensures

pub returns-in-None : goal.returns-in-None
returns-in-None c =
    let es = c.args.composer.now in
    let old = c.args.reader.now in
    let u = c.args.unread.now in
    let r = old.reading in
    let found = c.args.found in
    let done = c.read_in_arguments in
    let is : None ≡ unit_in found = search rules in
    TakesAs-as (λ k. no_unit_found k (interrupted r u.input) r found) (λ k. collected k u.input r found) es old done.new.self u done.new.unread done.result
    (λ k. ap (unit_or (unit_taking k u.input r) (no_unit_found k (interrupted r u.input) r found)) is)
    (TakesAs-settled r (λ k i. no_unit_found k i r found) es old done.new.self u c.interrupt.new.unread done.new.unread done.result c.interrupt.ensures
    (subst (λ (r : LineState). TakesAs (λ k. no_unit_found k c.interrupt.new.unread.input r found) es old done.new.self c.interrupt.new.unread done.new.unread done.result)
    (ap (λ (s : ReaderState). s.reading) c.reader.view_is) done.ensures))
