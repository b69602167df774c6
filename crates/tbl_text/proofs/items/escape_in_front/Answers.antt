use Rattle.std.proofs.Common.{◌≡◌, ◌-◌, ◌∷◌, ◌≤◌, List, ℕ, drop, take, length, ap, sym, subst, ◌∙◌, arith, length-drop, take_all}
use Rattle.tbl_text.specs.Items.{Reading, begun, columns, items, reading, whole}
use Rattle.tbl_text.specs.declared.items.What.{What}
use Rattle.tbl_text.proofs.Costs.{paid-whole, worth}
use Rattle.tbl_text.proofs.Fitting.{found-fits}
use Rattle.tbl_text.proofs.ItemLists.{items-escape}
use Rattle.tbl_text.proofs.ItemsRead.{whole-is}
use Rattle.tbl_text.proofs.items.escape_in_front.Goals as goal

-- what was read is the whole escape
whole_read : (c : goal.After-found_what)
    → whole begun (drop 1 c.args.text.now)
    ≡ reading c.read_escape-reading.result.len c.read_escape-reading.result.seen c.end_before.new.found c.end_before.new.escapes.escapes
whole_read c =
    let text : List ℕ = c.args.text.now in
    whole-is (take (length text - 1) (drop 1 text)) (drop 1 text) c.read_escape-reading.result.len c.read_escape-reading.result.seen c.read_escape-reading.result.found c.end_before.new.found
    c.read_escape-reading.new.escapes.escapes c.end_before.new.escapes.escapes
    (take_all (length text - 1) (drop 1 text) (omega (arith, length-drop 1 text))) c.read_escape-reading.ensures.read c.end_before.ensures.read

pub returns-clause-first : goal.returns-clause-first
returns-clause-first c =
    let text : List ℕ = c.args.text.now in
    let len = c.read_escape-reading.result.len in
    let r : Reading = reading len c.read_escape-reading.result.seen c.end_before.new.found c.end_before.new.escapes.escapes in
    items-escape text r c.requires.some c.requires.backslash (whole_read c) (omega arith)
    ∙ ap (λ (what : What). record { bytes = take len text; what = what } ∷ items (drop len text)) (sym c.found_what.ensures.value)

pub returns-clause-fits : goal.returns-clause-fits
returns-clause-fits c =
    let len = c.read_escape-reading.result.len in
    subst (λ (what : What). columns what ≤ len) (sym c.found_what.ensures.value)
    (found-fits len c.end_before.new.found c.read_escape-reading.ensures.some
    (subst (λ (r : Reading). worth r.read.0 ≤ r.len) (whole_read c) (paid-whole (drop 1 c.args.text.now)))
    (subst (λ (what : What). columns what ≤ 4) c.found_what.ensures.value c.found_what.ensures.narrow))
