use Rattle.std.proofs.Common.{[], ◌∷◌, ◌++◌, codes}
use Rattle.page_bytes.proofs.Appending.{Fails-front, Puts-behind}
use Rattle.roff_tools.proofs.telling.put_line.Goals as goal

pub returns-in-Ok : goal.returns-in-Ok
returns-in-Ok g c =
    Puts-behind (codes "roff: ") ((c.args.words.now ++ c.args.text.now) ++ 10 ∷ []) c.put_rest.result c.in-Ok.ensures.puts.ok c.put_rest.ensures

pub returns-in-Err : goal.returns-in-Err
returns-in-Err g c =
    record { ok = tt; err = Fails-front (codes "roff: ") ((c.args.words.now ++ c.args.text.now) ++ 10 ∷ []) c.in-Err.ensures.puts.err }
