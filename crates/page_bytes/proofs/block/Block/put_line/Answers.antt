use Rattle.std.proofs.Common.{◌≡◌, ◌++◌, ◌∷◌, [], List, ℕ, append_assoc, replicate, subst}
use Rattle.page_model.specs.Columns.{device_line, finished_of, line_bytes, printed}
use Rattle.page_bytes.specs.Sinks.{Puts}
use Rattle.page_bytes.proofs.block.Block.put_line.Goals as goal

pub returns : goal.returns
returns g c =
    let line = finished_of c.args.line in
    let whole : device_line 0 (printed line) ++ replicate line.after 10 ≡ line_bytes line =
    append_assoc _ (10 ∷ []) (replicate line.after 10) in
    subst (λ (bytes : List ℕ). Puts (g.O.ByteSink.sunk c.args.out.now) (g.O.ByteSink.sunk c.put_line_behind.new.out) bytes c.put_line_behind.result) whole
    c.put_line_behind.ensures
