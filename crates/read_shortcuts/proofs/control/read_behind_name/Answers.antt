use Rattle.std.proofs.Common.{◌≡◌, arith, refl, rules}
use Rattle.run_model.specs.declared.line_state.LineState.TheVariants.{Collecting}
use Rattle.run_model.specs.declared.purpose.Purpose.TheVariants.{Arguments as InArguments, Calling}
use Rattle.read_shortcuts.proofs.ControlFronts.{reads-named}
use Rattle.read_shortcuts.proofs.BytesTaken.{front_taken}
use Rattle.read_shortcuts.proofs.ControlReads.{body-read, condition-read, dropped-read, front-read, line-read, request-read}
use Rattle.read_shortcuts.proofs.DroppedLines.{name-leads}
use Rattle.read_shortcuts.proofs.LinesRead.{call-holds, named-leads, request-holds, three}
use Rattle.read_shortcuts.proofs.control.read_behind_name.Goals as goal

pub returns-then-front-clause-read : goal.returns-then-front-clause-read
returns-then-front-clause-read g c =
    let ended = c.read_ended in
    line-read g.S.ByteSource c.args.source.now ended.new.source c.args.composer.now c.args.reader.now ended.new.reader c.args.unread.now ended.new.unread
    ended.ensures.notes ended.ensures.failures ended.result ended.ensures.ended ended.ensures.line

pub returns-else-front-clause-read : goal.returns-else-front-clause-read
returns-else-front-clause-read g c =
    let there = c.args.reading in
    let is : there ≡ Collecting (InArguments c.in-Collecting-Arguments.field-0-0 c.in-Collecting-Arguments.field-0-1) = search rules in
    let held = c.hold_line-behind in
    let ready = g.S.ByteSource.ready c.args.source.now in
    request-read g.S.ByteSource c.args.source.now held.new.source c.args.composer.now c.args.reader.now c.go_on.new.self c.args.unread.now held.new.self
    held.ensures.notes held.ensures.failures there (three c.args.front) ready c.args.unread.now.input.arguments held.result
    (named-leads c.args.front there c.args.reader.now.reading ready c.args.unread.now c.requires (request-holds _ _ there is)) c.go_on.ensures c.stays_within.ensures c.held_to.result
    _ _ is held.ensures.holds c.held_to.ensures

pub returns-then-front-2-clause-read : goal.returns-then-front-2-clause-read
returns-then-front-2-clause-read g c =
    let ended = c.read_ended-then-front-2 in
    line-read g.S.ByteSource c.args.source.now ended.new.source c.args.composer.now c.args.reader.now ended.new.reader c.args.unread.now ended.new.unread
    ended.ensures.notes ended.ensures.failures ended.result ended.ensures.ended ended.ensures.line

pub returns-else-front-2-clause-read : goal.returns-else-front-2-clause-read
returns-else-front-2-clause-read g c =
    let there = c.args.reading in
    let is : there ≡ Collecting (Calling c.in-Collecting-Calling.field-0-0) = search rules in
    let held = c.hold_call-behind in
    let ready = g.S.ByteSource.ready c.args.source.now in
    body-read g.S.ByteSource c.args.source.now held.new.source c.args.composer.now c.args.reader.now c.go_on-in-Collecting-Calling.new.self c.args.unread.now held.new.self
    held.ensures.notes held.ensures.failures there (three c.args.front) ready c.args.unread.now.input.arguments held.result
    (named-leads c.args.front there c.args.reader.now.reading ready c.args.unread.now c.requires (call-holds _ there is)) c.go_on-in-Collecting-Calling.ensures
    c.stays_within-in-Collecting-Calling.ensures c.held_for_call.result
    _ is held.ensures.holds c.held_for_call.ensures

pub returns-in-Deciding-clause-read : goal.returns-in-Deciding-clause-read
returns-in-Deciding-clause-read g c =
    let read = c.read_condition in
    let told = read.ensures in
    condition-read g.S.ByteSource c.args.source.now read.new.source c.args.composer.now c.args.reader.now read.new.reader c.args.unread.now read.new.unread
    told.notes told.failures read.result told.read told.taken told.past told.condition told.decides told.line told.held told.call told.dropped

pub drop_line-requires : goal.drop_line-requires
drop_line-requires g c = name-leads c.args.front c.args.reading _ _ c.args.unread.now c.requires c.in-Dropped.is

pub returns-in-Dropped-clause-read : goal.returns-in-Dropped-clause-read
returns-in-Dropped-clause-read g c =
    let line = c.drop_line in
    dropped-read g.S.ByteSource c.args.source.now line.new.source c.args.composer.now c.args.reader.now line.new.reader c.args.unread.now line.new.unread
    line.ensures.notes line.ensures.failures line.result c.dropped_to.result c.dropped_to.ensures line.ensures.taken line.ensures.past line.ensures.begun

pub returns-in_default : goal.returns-in_default
returns-in_default g c = record {
  read =
      let front = c.args.front in
      let named = c.requires in
      let begun = c.begin_deciding in
      let taken = c.take_front in
      front-read g.S.ByteSource c.args.source.now taken.new.source c.args.composer.now c.args.reader.now c.go_on-in_default.new.self c.args.unread.now begun.new.unread
      taken.ensures.notes taken.ensures.failures
      (rw begun.ensures (front_taken _ _ 3 _ c.args.unread.now taken.new.unread named.stands.front (omega arith) taken.ensures.passes))
      (reads-named _ _ c.args.reader.now c.go_on-in_default.new.self c.args.reading front.breaks front.first front.second _ c.args.unread.now taken.new.unread begun.new.unread
      named.none_due named.begins named.none_half named.first named.second named.leads
      named.stands taken.ensures.passes begun.ensures c.stays_within-in_default.ensures c.go_on-in_default.ensures);
  some = refl;
}
