use Rattle.run_items.proofs.interpreter.diverting.add_text.Goals as goal

pub add_pieces-requires : goal.add_pieces-requires
add_pieces-requires c = record { room = c.if-is_refused.ensures c.args.text c.requires.len }
