use Rattle.page_bytes.proofs.Appending.{Fails-front, Puts-behind}
use Rattle.roff_tools.proofs.telling.put_both.Goals as goal

pub returns-in-Ok : goal.returns-in-Ok
returns-in-Ok g c =
    let first = rw c.as_bytes.ensures.value at c.in-Ok.ensures.puts in
    let second = rw c.as_bytes-in-Ok.ensures.value at c.put-in-Ok.ensures.puts in
    Puts-behind c.args.first.now c.args.second.now c.put-in-Ok.result first.ok second

pub returns-in-Err : goal.returns-in-Err
returns-in-Err g c =
    let first = rw c.as_bytes.ensures.value at c.in-Err.ensures.puts in
    record { ok = tt; err = Fails-front c.args.first.now c.args.second.now first.err }
