use Rattle.std.proofs.Common.{sym}
use Rattle.run_items.proofs.TextsAdded.{refusal_told}
use Rattle.run_items.proofs.interpreter.diverting.is_refused.Goals as goal

pub returns : goal.returns
returns c =
    let full = c.is_store_full.ensures in
    λ bytes is. refusal_told c.args.index c.is_store_full.result bytes c.args.len c.args.unread.now c.stays_within.ensures
    (sym c.if-not-has_text.ensures) is full.small full.full full.room
