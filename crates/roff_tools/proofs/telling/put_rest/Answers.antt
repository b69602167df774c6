use Rattle.std.proofs.Common.{[], ◌∷◌, ◌++◌}
use Rattle.page_bytes.proofs.Appending.{Fails-front, Puts-behind}
use Rattle.roff_tools.proofs.telling.put_rest.Goals as goal

pub returns-in-Ok : goal.returns-in-Ok
returns-in-Ok g c =
    Puts-behind (c.args.words.now ++ c.args.text.now) (10 ∷ []) c.put.result c.in-Ok.ensures.ok c.put.ensures.puts

pub returns-in-Err : goal.returns-in-Err
returns-in-Err g c = record { ok = tt; err = Fails-front (c.args.words.now ++ c.args.text.now) (10 ∷ []) c.in-Err.ensures.err }
