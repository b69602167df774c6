use Rattle.std.proofs.Common.{ap, subst, ◌∙◌}
use Rattle.run_model.specs.Reading.Items.{PageUnread}
use Rattle.run_model.specs.declared.line_state.LineState.{LineState}
use Rattle.roff_scan.specs.Unread.Texts.{CountsText}
use Rattle.read_shortcuts.specs.KeptResults.{kept_unread}
use Rattle.read_shortcuts.proofs.BytesTaken.{counted_taken}
use Rattle.read_shortcuts.proofs.ComparedConditions.{decides-compared, stands-compared}
use Rattle.read_shortcuts.proofs.TakenConditions.{front-counted, plain-counted}
use Rattle.read_shortcuts.proofs.compared.decide_texts.Goals as goal

pub take_front-requires-clause-front : goal.take_front-requires-clause-front
take_front-requires-clause-front g c =
    let u = c.args.unread.now in
    let ready = g.S.ByteSource.ready c.args.source.now in
    let answer = c.in-Some.answer in
    front-counted c.args.keeps _ ready answer u c.count_text.new.self (stands-compared c.args.reader.now c.args.front ready _ u answer c.requires c.in-Some.ensures)
    (subst (λ (v : PageUnread). CountsText answer.len answer.count v c.count_text.new.self) (c.keep_if.ensures.kept c.if-not-keep_if.false) (c.count_text.ensures.counts c.if-not-count_text.false))

pub take_front-requires-clause-plain : goal.take_front-requires-clause-plain
take_front-requires-clause-plain g c =
    let u = c.args.unread.now in
    let ready = g.S.ByteSource.ready c.args.source.now in
    let answer = c.in-Some.answer in
    plain-counted c.args.keeps _ ready answer u c.count_text.new.self (stands-compared c.args.reader.now c.args.front ready _ u answer c.requires c.in-Some.ensures)
    (subst (λ (v : PageUnread). CountsText answer.len answer.count v c.count_text.new.self) (c.keep_if.ensures.kept c.if-not-keep_if.false) (c.count_text.ensures.counts c.if-not-count_text.false))

pub returns-else-not-count_text-clause-decides : goal.returns-else-not-count_text-clause-decides
returns-else-not-count_text-clause-decides g c = λ decided es.
    let r = c.args.reader.now in
    let u = c.args.unread.now in
    let answer = c.in-Some.answer in
    let ready = g.S.ByteSource.ready c.args.source.now in
    decides-compared c.args.keeps _ _ r es c.args.front ready u c.count_text.new.self c.take_front.new.unread answer c.requires c.in-Some.ensures
    (subst (λ (v : PageUnread). CountsText answer.len answer.count v c.count_text.new.self) (c.keep_if.ensures.kept c.if-not-keep_if.false) (c.count_text.ensures.counts c.if-not-count_text.false))
    (c.may_hold.ensures c.if-not-may_hold.false) c.stays_within.ensures c.stays_within-in-Some.ensures c.go_on.new.self c.take_front.ensures.passes
    (c.go_on.ensures ∙ ap (λ (reading : LineState). record r { reading = reading }) c.branch-answer.ensures)

pub returns-else-not-count_text-clause-taken : goal.returns-else-not-count_text-clause-taken
returns-else-not-count_text-clause-taken g c = λ decided.
    let answer = c.in-Some.answer in
    counted_taken _ _ answer.len answer.count _ (kept_unread c.args.keeps answer.so c.args.unread.now) c.count_text.new.self c.take_front.new.unread
    (subst (λ (v : PageUnread). CountsText answer.len answer.count v c.count_text.new.self) (c.keep_if.ensures.kept c.if-not-keep_if.false) (c.count_text.ensures.counts c.if-not-count_text.false))
    c.take_front.ensures.passes
