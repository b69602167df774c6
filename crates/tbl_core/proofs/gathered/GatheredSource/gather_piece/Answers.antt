use Rattle.std.proofs.Common.{◌≡◌, ◌≤◌, ℕ, List, ap, arith, length, refl, rules, ◌∙◌, length-append, length-take}
use Rattle.tbl_core.proofs.GatheredBytes.{none_of_items, piece_kept}
use Rattle.tbl_core.proofs.Given.{front-pending, front_some}
use Rattle.tbl_core.proofs.gathered.GatheredSource.gather_piece.Goals as goal

pub returns-then-count-eq0-clause-on : goal.returns-then-count-eq0-clause-on
returns-then-count-eq0-clause-on g c = record {
  kept = record { inner = refl; tables = refl; giving = refl; notes = omega arith };
  next = refl;
  more = omega arith;
}

pub returns-then-count-eq0-clause-none : goal.returns-then-count-eq0-clause-none
returns-then-count-eq0-clause-none g c = λ no giving room.
    let empty : length c.at_most-piece.result.now ≡ 0 = search rules in
    let is = ap (λ (xs : List ℕ). length xs) c.at_most-piece.ensures ∙ length-take _ _ in
    none_of_items _ (λ pends. let some = c.pending.ensures.some giving pends in omega (arith, some, empty, is, room))

pub returns-clause-on : goal.returns-clause-on
returns-clause-on g c =
    let now = c.args.self.now in
    let piece = c.at_most-piece.result.now in
    let known = c.pending.result.now in
    let is = c.at_most-piece.ensures in
    let some : 1 ≤ length piece = omega (arith, c.if-count-eq0.false) in
    let within : now.next ≤ length now.gathered.items = search rules in
    let first = front-pending _ known piece now.source.tables.at.pending c.pending.ensures.front is in
    let none = c.pending.ensures.bytes (front_some _ known piece is some) in
    let grown = ap (λ (xs : List ℕ). length xs) c.append.ensures.items ∙ length-append now.gathered.items piece in record {
      kept = piece_kept now _ piece c.give_bytes.ensures c.append.ensures.items refl within first none;
      next = refl;
      more = omega (arith, grown);
    }

pub returns-clause-some : goal.returns-clause-some
returns-clause-some g c = λ gathers.
    let piece = c.at_most-piece.result.now in
    let some : 1 ≤ length piece = omega (arith, c.if-count-eq0.false) in
    let grown = ap (λ (xs : List ℕ). length xs) c.append.ensures.items ∙ length-append c.args.self.now.gathered.items piece in
    omega (arith, grown, some)
