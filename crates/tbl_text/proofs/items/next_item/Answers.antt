use Rattle.std.proofs.Common.{◌∷◌, List, ℕ, drop, take, ap, sym, ◌∙◌, ne_eqb}
use Rattle.tbl_text.specs.Items.{items}
use Rattle.tbl_text.specs.declared.items.What.{What}
use Rattle.tbl_text.proofs.ItemLists.{items-byte}
use Rattle.tbl_text.proofs.items.next_item.Goals as goal

pub returns-clause-first : goal.returns-clause-first
returns-clause-first c =
    let text : List ℕ = c.args.text.now in
    items-byte text c.requires (ne_eqb _ 92 c.if-byte-eq92.false)
    ∙ ap (λ (what : What). record { bytes = take 1 text; what = what } ∷ items (drop 1 text)) (sym c.byte_what.ensures.value)
