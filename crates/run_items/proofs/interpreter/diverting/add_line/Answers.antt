use Rattle.std.proofs.Common.{◌≤◌, ℕ, List, length, refl, subst, sym, min}
use Rattle.run_items.proofs.TextsAdded.{allowed_most}
use Rattle.run_items.proofs.interpreter.diverting.add_line.Goals as goal

pub add_pieces-requires : goal.add_pieces-requires
add_pieces-requires c =
    let few : min (length c.of_line-text.result) 18446744073709551615 ≤ c.most_bytes.result =
    subst (λ (bytes : List ℕ). min (length bytes) 18446744073709551615 ≤ c.most_bytes.result) (sym c.of_line-text.ensures) c.most_bytes.ensures in
    record {
      room = allowed_most c.args.index c.of_line-text.result c.most_bytes.result c.args.unread.now c.stays_within.ensures few
          c.is_store_full.ensures.small (c.if-is_store_full.ensures.room refl);
    }
