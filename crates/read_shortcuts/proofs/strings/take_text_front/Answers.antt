use Rattle.std.proofs.Common.{sym, ◌∙◌, ◌≡◌, ◌==◌, List, ap, arith, length, not, true, rules}
use Rattle.input_escapes.specs.OpenEscape.{OpenEscape}
use Rattle.read_shortcuts.proofs.RunsRead.{reads-none}
use Rattle.read_shortcuts.proofs.StringFronts.{begins-kept, front-kept, front-quoted, quote-is_front, quote-no_newline, reads-quote, takes-front, takes-quote}
use Rattle.read_lines.proofs.TextTaken.{none_half}
use Rattle.read_shortcuts.proofs.strings.take_text_front.Goals as goal

pub returns-then-has_open_escape-clause-past : goal.returns-then-has_open_escape-clause-past
returns-then-has_open_escape-clause-past g c = reads-none _ c.args.reader.now c.args.unread.now c.stays_within.ensures

pub returns-in-Other-clause-past : goal.returns-in-Other-clause-past
returns-in-Other-clause-past g c = reads-none _ c.args.reader.now c.args.unread.now c.stays_within-in-Other.ensures

pub take_front-requires-clause-front : goal.take_front-requires-clause-front
take_front-requires-clause-front g c =
    let front = c.front.result.now in
    let quoted = front-quoted front (sym c.text_front.ensures ∙ c.in-Quote.is) in
    quote-is_front _ front c.args.unread.now c.front.ensures.bytes quoted c.front.ensures.front

pub take_front-requires-clause-plain : goal.take_front-requires-clause-plain
take_front-requires-clause-plain g c =
    let front = c.front.result.now in
    let quoted = front-quoted front (sym c.text_front.ensures ∙ c.in-Quote.is) in
    quote-no_newline _ front c.args.unread.now c.front.ensures.bytes quoted

pub returns-in-Quote-clause-past : goal.returns-in-Quote-clause-past
returns-in-Quote-clause-past g c =
    let front = c.front.result.now in
    let quoted = front-quoted front (sym c.text_front.ensures ∙ c.in-Quote.is) in
    let none = none_half c.args.unread.now.input.escapes (sym c.has_open_escape.ensures ∙ c.if-has_open_escape.false) in
    reads-quote _ _ _ front c.args.reader.now c.go_on.new.self c.args.name c.args.appends c.args.unread.now _ c.requires none c.front.ensures.bytes quoted
    c.take_front.ensures.passes c.stays_within-in-Quote.ensures (search rules)

pub take_kept-requires-clause-none_half : goal.take_kept-requires-clause-none_half
take_kept-requires-clause-none_half g c =
    none_half c.args.unread.now.input.escapes (sym c.has_open_escape.ensures ∙ c.if-has_open_escape.false)

pub take_kept-requires-clause-kept : goal.take_kept-requires-clause-kept
take_kept-requires-clause-kept g c =
    let front = c.front.result.now in
    begins-kept _ front c.args.unread.now c.front.ensures.bytes (front-kept front (sym c.text_front.ensures ∙ c.in-Kept.is))

pub returns-then-has_open_escape-clause-whole : goal.returns-then-has_open_escape-clause-whole
returns-then-has_open_escape-clause-whole g c = λ none.
    let some : not (length c.args.unread.now.input.escapes == 0) ≡ true = sym c.has_open_escape.ensures ∙ c.if-has_open_escape.true in
    let are = ap (λ (half : List OpenEscape). not (length half == 0)) none in
    absurd (cc (some, are))

pub returns-in-Other-clause-whole : goal.returns-in-Other-clause-whole
returns-in-Other-clause-whole g c = λ none.
    takes-front c.front.result.now _ c.args.unread.now c.args.unread.now _ c.front.ensures.whole (sym c.text_front.ensures ∙ c.in-Other.is) (λ asks. omega arith)

pub returns-in-Quote-clause-whole : goal.returns-in-Quote-clause-whole
returns-in-Quote-clause-whole g c = λ none.
    let front = c.front.result.now in
    let is = sym c.text_front.ensures ∙ c.in-Quote.is in
    takes-front front _ c.args.unread.now c.take_front.new.unread _ c.front.ensures.whole is
    (takes-quote _ _ _ front c.args.unread.now c.take_front.new.unread c.front.ensures.bytes (front-quoted front is) c.take_front.ensures.passes)

pub returns-in-Kept-clause-whole : goal.returns-in-Kept-clause-whole
returns-in-Kept-clause-whole g c = λ none.
    takes-front c.front.result.now _ c.args.unread.now c.take_kept.new.unread _ c.front.ensures.whole (sym c.text_front.ensures ∙ c.in-Kept.is) c.take_kept.ensures.whole
