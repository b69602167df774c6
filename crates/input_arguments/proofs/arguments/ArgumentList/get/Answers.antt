use Rattle.std.proofs.Common.{◌≡◌, ℕ, ◌<◌, ◌≤◌, List, ◌∙◌, ap, sym, get_or, Some, length, take, slice_get}
use Rattle.std.proofs.lemmas.Option.{slice_get-get_or, slice_get_past}
use Rattle.roff_num.specs.Lists.{last_end}
use Rattle.input_arguments.specs.declared.arguments.ArgumentList.{ArgumentList}
use Rattle.input_arguments.proofs.Ends.{slice_get-parts_ending, slice_get-no_text, EndInOrder-at}
use Rattle.input_arguments.proofs.arguments.ArgumentList.get.Goals as goal

-- the end of a text is found at its index
abbrev IsFound : List ℕ → ℕ → ℕ → Type 0
IsFound ends index end = (index < length ends) × ((d : ℕ) → end ≡ get_or ends index d)

found : (ends : List ℕ) (index end : ℕ) → IsFound ends index end → slice_get ends index ≡ Some end
found ends index end is = slice_get-get_or ends index 0 is.0 ∙ ap (λ e. Some e) (sym (is.1 0))

-- the text lies within the bytes
bounds : (l : ArgumentList) (index start end : ℕ) → start ≡ last_end 0 (take index l.ends.now) → IsFound l.ends.now index end
    → (start ≤ end) × (end ≤ length l.bytes.now)
bounds l index start end starts is = rw starts (EndInOrder-at (length l.bytes.now) 0 l.ends.now index end l.within (found l.ends.now index end is))

pub slice_bounds-result-count : goal.slice_bounds-result-count
slice_bounds-result-count c =
    (bounds c.args.self.now c.args.index c.last_end-start.result c.in-Some.end.now c.last_end-start.ensures c.in-Some.ensures.lookup.3).0

pub slice_bounds-result-start : goal.slice_bounds-result-start
slice_bounds-result-start c =
    (bounds c.args.self.now c.args.index c.last_end-start.result c.in-Some.end.now c.last_end-start.ensures c.in-Some.ensures.lookup.3).0

pub slice_bounds-result-end : goal.slice_bounds-result-end
slice_bounds-result-end c =
    (bounds c.args.self.now c.args.index c.last_end-start.result c.in-Some.end.now c.last_end-start.ensures c.in-Some.ensures.lookup.3).1

pub returns-in-Some : goal.returns-in-Some
returns-in-Some c =
    let l = c.args.self.now in
    let is = found l.ends.now c.args.index c.in-Some.end.now c.in-Some.ensures.lookup.3 in
    rw c.last_end-start.ensures (sym (slice_get-parts_ending l.bytes.now 0 l.ends.now c.args.index c.in-Some.end.now is))

pub returns-in-None : goal.returns-in-None
returns-in-None c =
    let l = c.args.self.now in
    sym (slice_get-no_text l.bytes.now 0 l.ends.now c.args.index (slice_get_past l.ends.now c.args.index c.in-None.ensures.lookup.3))
