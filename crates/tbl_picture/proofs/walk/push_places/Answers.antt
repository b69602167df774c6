use Rattle.std.proofs.Common.{◌≡◌, ◌+◌, List, [], ◌∷◌, ◌++◌, drop, get_or, map, refl, sym, ap, ◌∙◌, arith, append_assoc, append-nil}
use Rattle.std.proofs.lemmas.List.{drop_all, drop_more}
use Rattle.tbl_layout.specs.KeptEntries.{all_entries, no_entry}
use Rattle.tbl_layout.specs.declared.entry.Entry.{Entry}
use Rattle.tbl_picture.specs.Walks.{first_place}
use Rattle.tbl_picture.proofs.walk.push_places.Goals as goal
use Rattle.tbl_text.specs.declared.block_parts.BlockPlace.{BlockPlace}

pub loop-at-preserved : goal.loop-at-preserved
loop-at-preserved c =
    let all = all_entries (record { keys = c.args.keys.now; bars = 0 }) c.args.entries.now in
    let many = c.filled_columns-at-end.ensures 0 c.args.entries.now refl in
    let l = c.loop-at in
    let old = l.places.items in
    let rest : List BlockPlace = map first_place (drop (l.at + 1) all) in
    let push = c.push_reserved.ensures in
    let this : c.first_place.result ≡ first_place (get_or all l.at no_entry) = c.first_place.ensures ∙ ap first_place (c.entry_at.ensures 0) in
    let first = drop_more all l.at no_entry (omega (arith, c.loop-at-test.true, many)) in
    record {
      items =
          ap (λ (places : List BlockPlace). places ++ rest) push.items
          ∙ append_assoc old (c.first_place.result ∷ []) rest
          ∙ ap (λ (p : BlockPlace). old ++ p ∷ rest) this
          ∙ ap (λ (es : List Entry). old ++ map first_place es) (sym first)
          ∙ l.invariant.items;
      few = omega (arith, l.invariant.few, push.len, c.loop-at-test.true, many);
      capacity = push.capacity ∙ l.invariant.capacity;
    }

pub returns-clause-items : goal.returns-clause-items
returns-clause-items c =
    let all = all_entries (record { keys = c.args.keys.now; bars = 0 }) c.args.entries.now in
    let many = c.filled_columns-at-end.ensures 0 c.args.entries.now refl in
    let l = c.loop-at in
    let old = l.places.items in
    let none : drop l.at all ≡ [] = drop_all l.at all (omega (arith, c.loop-at-test.false, many)) in
    sym (append-nil old) ∙ ap (λ (es : List Entry). old ++ map first_place es) (sym none) ∙ l.invariant.items
