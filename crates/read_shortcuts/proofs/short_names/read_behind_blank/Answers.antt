use Rattle.std.proofs.Common.{◌≡◌, None, Some, refl, rules, subst}
use Rattle.roff_scan.specs.Unread.Lines.{HoldsLine}
use Rattle.run_model.specs.Reading.Items.{PageUnread}
use Rattle.run_model.specs.declared.line_state.LineState.TheVariants.{Collecting}
use Rattle.run_model.specs.declared.purpose.Purpose.TheVariants.{Arguments as InArguments, Calling}
use Rattle.read_shortcuts.specs.ShortNames.{with_blank}
use Rattle.read_shortcuts.proofs.ControlReads.{body-read, request-read}
use Rattle.read_shortcuts.proofs.DroppedLines.{leads-dropped}
use Rattle.read_shortcuts.proofs.ShortNames.{call-leads, dropped-leads, request-leads, short_bytes}
use Rattle.read_shortcuts.proofs.short_names.read_behind_blank.Goals as goal

pub drop_line-requires : goal.drop_line-requires
drop_line-requires g c =
    let there = c.args.reading in
    let reading = c.args.reader.now.reading in
    let ready = g.S.ByteSource.ready c.args.source.now in
    let u = c.args.unread.now in
    leads-dropped (short_bytes there reading ready u c.requires) there reading ready u (dropped-leads there reading ready u c.requires c.in-Dropped.is) c.in-Dropped.is

pub returns-else-not-hold_blank : goal.returns-else-not-hold_blank
returns-else-not-hold_blank g c = λ es.
    let there = c.args.reading in
    let reading = c.args.reader.now.reading in
    let ready = g.S.ByteSource.ready c.args.source.now in
    let u = c.args.unread.now in
    let is : there ≡ Collecting (InArguments c.in-Collecting-Arguments.field-0-0 c.in-Collecting-Arguments.field-0-1) = search rules in
    let blank = c.if-not-hold_blank.ensures.held refl in
    let held = c.hold_line-behind in
    request-read g.S.ByteSource c.args.source.now held.new.source es c.args.reader.now c.go_on.new.self u held.new.self held.ensures.notes held.ensures.failures
    there (short_bytes there reading ready u c.requires) ready (with_blank u.input.arguments) held.result (request-leads there reading ready u c.requires _ _ is)
    c.go_on.ensures c.stays_within.ensures c.held_to.result _ _ is
    (subst (λ (v : PageUnread). HoldsLine None 3 (g.S.ByteSource.gives c.args.source.now) (g.S.ByteSource.gives held.new.source) ready held.result v held.new.self) blank.is held.ensures.holds)
    c.held_to.ensures

pub returns-else-not-hold_blank-2 : goal.returns-else-not-hold_blank-2
returns-else-not-hold_blank-2 g c = λ es.
    let there = c.args.reading in
    let reading = c.args.reader.now.reading in
    let ready = g.S.ByteSource.ready c.args.source.now in
    let u = c.args.unread.now in
    let is : there ≡ Collecting (Calling c.in-Collecting-Calling.field-0-0) = search rules in
    let blank = c.if-not-hold_blank-2.ensures.held refl in
    let held = c.hold_call-behind in
    body-read g.S.ByteSource c.args.source.now held.new.source es c.args.reader.now c.go_on-in-Collecting-Calling.new.self u held.new.self held.ensures.notes held.ensures.failures
    there (short_bytes there reading ready u c.requires) ready (with_blank u.input.arguments) held.result (call-leads there reading ready u c.requires _ is blank.fewer)
    c.go_on-in-Collecting-Calling.ensures c.stays_within-in-Collecting-Calling.ensures c.held_for_call.result _ is
    (subst (λ (v : PageUnread). HoldsLine (Some 8) 3 (g.S.ByteSource.gives c.args.source.now) (g.S.ByteSource.gives held.new.source) ready held.result v held.new.self) blank.is held.ensures.holds)
    c.held_for_call.ensures
