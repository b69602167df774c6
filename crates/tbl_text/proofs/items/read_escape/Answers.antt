use Rattle.std.proofs.Common.{◌≡◌, ◌+◌, ◌<◌, ◌∷◌, List, ℕ, drop, length, get_or, ap, sym, subst, ◌∙◌, add-one, drop-cons, fold}
use Rattle.tbl_text.specs.Items.{Reading, met, reading}
use Rattle.tbl_text.proofs.ItemsRead.{IsWithin, fold-whole, met-within, nothing-length}
use Rattle.tbl_text.proofs.items.read_escape.Goals as goal

pub returns-then-is_empty-clause-read : goal.returns-then-is_empty-clause-read
returns-then-is_empty-clause-read c =
    let r : Reading = reading c.loop-byte.reading.len c.loop-byte.reading.seen c.loop-byte.reading.found c.loop-byte.escapes.escapes in
    sym (fold-whole r (drop c.loop-byte.byte-index c.args.text.now) (sym (nothing-length c.loop-byte.escapes.escapes) ∙ sym c.is_empty.ensures ∙ c.if-is_empty.true))
    ∙ c.loop-byte.invariant.read

pub loop-byte-preserved : goal.loop-byte-preserved
loop-byte-preserved c =
    let r : Reading = reading c.loop-byte.reading.len c.loop-byte.reading.seen c.loop-byte.reading.found c.loop-byte.escapes.escapes in
    let i = c.loop-byte.byte-index in
    let text : List ℕ = c.args.text.now in
    let inside : i < length text = c.loop-byte-test.true in
    let front : drop i text ≡ get_or text i 0 ∷ drop (i + 1) text = rw (add-one, drop-cons text i 0) in
    record {
      read = ap (λ (s : Reading). fold met s (drop (i + 1) text)) c.meet.ensures.read ∙ ap (fold met r) (sym front) ∙ c.loop-byte.invariant.read;
      within = subst (IsWithin (i + 1 + 1)) (sym c.meet.ensures.read) (met-within (i + 1) r (get_or text i 0) c.loop-byte.invariant.within);
      room = c.meet.ensures.room ∙ c.loop-byte.invariant.room;
    }
