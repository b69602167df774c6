use Rattle.std.proofs.Common.{◌≡◌, [], ap, arith, subst, sym, ◌∙◌, ℕ}
use Rattle.roff_scan.specs.Unread.Calls.{front_bytes}
use Rattle.roff_scan.specs.Unread.Copied.{CopiesFront}
use Rattle.run_model.specs.declared.line_state.LineState.{LineState}
use Rattle.read_definitions.specs.CopiedLines.{CopiesTo}
use Rattle.read_definitions.proofs.CopiedTurns.{fits}
use Rattle.read_definitions.proofs.CopiedLines.{on-copied, reads-copied, takes-copied}
use Rattle.read_shortcuts.proofs.RegistersPut.{none_open}
use Rattle.read_shortcuts.proofs.RunsRead.{reads-none}
use Rattle.read_definitions.proofs.copied.copy_lines.Goals as goal

pub returns-then-has_open_escape-clause-past : goal.returns-then-has_open_escape-clause-past
returns-then-has_open_escape-clause-past g c = reads-none _ c.args.reader.now c.args.unread.now c.stays_within.ensures

pub returns-then-not-is_none_ahead-clause-past : goal.returns-then-not-is_none_ahead-clause-past
returns-then-not-is_none_ahead-clause-past g c = reads-none _ c.args.reader.now c.args.unread.now c.stays_within.ensures

pub returns-then-count-eq0-clause-past : goal.returns-then-count-eq0-clause-past
returns-then-count-eq0-clause-past g c = reads-none _ c.args.reader.now c.args.unread.now c.stays_within.ensures

pub returns-then-is_store_full-clause-past : goal.returns-then-is_store_full-clause-past
returns-then-is_store_full-clause-past g c = reads-none _ c.args.reader.now c.args.unread.now c.stays_within.ensures

pub copy_front-requires-clause-front : goal.copy_front-requires-clause-front
copy_front-requires-clause-front g c =
    let all = c.front.ensures.front in
    let few = fits c.second_of_mark-second.result c.args.lines.begins c.piece_len-text.result.2 c.piece_len-text.result.0 c.piece_len-text.result.1 c.front.result.now c.piece_len-text.ensures in
    record { among = omega (arith, all.among, few.1); within = omega (arith, all.within, few.1) }

pub returns-clause-past : goal.returns-clause-past
returns-clause-past g c =
    let ready = g.S.ByteSource.ready c.args.source.now in
    let u = c.args.unread.now in
    let text = c.piece_len-text.result.0 in
    let count = c.piece_len-text.result.1 in
    let last = c.piece_len-text.result.2 in
    let gave = g.S.ByteSource.gives c.args.source.now in
    let gives = g.S.ByteSource.gives c.copy_front.new.source in
    let first = subst (λ (second : ℕ). CopiesTo second c.args.lines.begins c.front.result.now last text count) c.second_of_mark-second.ensures c.piece_len-text.ensures in
    let none_half : u.input.escapes ≡ [] = none_open u.input.escapes (sym c.has_open_escape.ensures ∙ c.if-has_open_escape.false) in
    let copied = subst (λ (kept : ℕ). CopiesFront gave gives (front_bytes count ready u) (front_bytes kept ready u) u c.copy_front.new.self) c.kept_of-kept.ensures c.copy_front.ensures.copies in
    let moved = c.go_on.ensures ∙ ap (λ (reading : LineState). record c.args.reader.now { reading = reading }) c.reads_lines.ensures in
    reads-copied ready c.args.lines last text count c.args.reader.now u c.front.result.now c.requires.reads c.front.ensures.bytes first gave gives _ c.copy_front.new.self none_half moved copied
    c.stays_within-2.ensures

pub returns-clause-on : goal.returns-clause-on
returns-clause-on g c = λ is.
    let ready = g.S.ByteSource.ready c.args.source.now in
    let u = c.args.unread.now in
    let text = c.piece_len-text.result.0 in
    let count = c.piece_len-text.result.1 in
    let last = c.piece_len-text.result.2 in
    let gave = g.S.ByteSource.gives c.args.source.now in
    let gives = g.S.ByteSource.gives c.copy_front.new.source in
    let first = subst (λ (second : ℕ). CopiesTo second c.args.lines.begins c.front.result.now last text count) c.second_of_mark-second.ensures c.piece_len-text.ensures in
    let none_half : u.input.escapes ≡ [] = none_open u.input.escapes (sym c.has_open_escape.ensures ∙ c.if-has_open_escape.false) in
    let copied = subst (λ (kept : ℕ). CopiesFront gave gives (front_bytes count ready u) (front_bytes kept ready u) u c.copy_front.new.self) c.kept_of-kept.ensures c.copy_front.ensures.copies in
    let moved = c.go_on.ensures ∙ ap (λ (reading : LineState). record c.args.reader.now { reading = reading }) c.reads_lines.ensures in
    on-copied ready c.args.lines last text count c.args.reader.now u c.front.result.now c.requires.reads c.front.ensures.bytes first gave gives _ c.copy_front.new.self none_half moved copied
    (omega (arith, c.if-count-eq0.false))

pub returns-clause-whole : goal.returns-clause-whole
returns-clause-whole g c = λ none_half asks.
    let ready = g.S.ByteSource.ready c.args.source.now in
    let u = c.args.unread.now in
    let text = c.piece_len-text.result.0 in
    let count = c.piece_len-text.result.1 in
    let last = c.piece_len-text.result.2 in
    let gave = g.S.ByteSource.gives c.args.source.now in
    let gives = g.S.ByteSource.gives c.copy_front.new.source in
    let first = subst (λ (second : ℕ). CopiesTo second c.args.lines.begins c.front.result.now last text count) c.second_of_mark-second.ensures c.piece_len-text.ensures in
    let copied = subst (λ (kept : ℕ). CopiesFront gave gives (front_bytes count ready u) (front_bytes kept ready u) u c.copy_front.new.self) c.kept_of-kept.ensures c.copy_front.ensures.copies in
    let moved = c.go_on.ensures ∙ ap (λ (reading : LineState). record c.args.reader.now { reading = reading }) c.reads_lines.ensures in
    takes-copied ready c.args.lines last text count c.args.reader.now u c.front.result.now c.requires.reads c.front.ensures.bytes first gave gives _ c.copy_front.new.self none_half moved copied
    (c.front.ensures.whole asks)
