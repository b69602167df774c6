use Rattle.std.proofs.Common.{[], ◌∷◌}
use Rattle.input_source.specs.Bytes.{newline}
use Rattle.page_bytes.proofs.Appending.{Fails-front, Puts-behind}
use Rattle.run_items.proofs.Bounded.{fails_told, puts_told}
use Rattle.run_items.proofs.report.put_line.Goals as goal

pub returns-in-Ok-clause-puts : goal.returns-in-Ok-clause-puts
returns-in-Ok-clause-puts g c =
    puts_told _ c.put-in-Ok.result (Puts-behind c.args.text.now (newline ∷ []) c.put-in-Ok.result c.in-Ok.ensures.puts.ok c.put-in-Ok.ensures.puts)

pub returns-in-Err-clause-puts : goal.returns-in-Err-clause-puts
returns-in-Err-clause-puts g c = record { ok = tt; err = fails_told _ (Fails-front c.args.text.now (newline ∷ []) c.in-Err.ensures.puts.err) }
