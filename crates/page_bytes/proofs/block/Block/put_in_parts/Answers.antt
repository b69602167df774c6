use Rattle.std.proofs.Common.{refl, ◌∙◌, ◌≡◌, ◌++◌, [], List, ℕ, append-nil, ap, replicate, subst}
use Rattle.page_model.specs.Columns.{device_line, finished_of, printed}
use Rattle.page_bytes.specs.Sinks.{Fails, Puts}
use Rattle.page_bytes.proofs.Appending.{Fails-front, Puts-behind}
use Rattle.page_bytes.proofs.block.Block.put_in_parts.Goals as goal

pub returns-in-Ok : goal.returns-in-Ok
returns-in-Ok g c =
    let line : List ℕ = device_line c.args.columns (printed (finished_of c.args.line)) in
    let parts : List ℕ = c.clear.new.self.items ++ c.behind_columns-to_come.result in
    let all : parts ≡ line ++ [] = rw (c.clear.ensures.items, c.behind_columns-to_come.ensures) refl in
    let whole : parts ++ replicate c.args.after 10 ≡ line ++ replicate c.args.after 10 =
    ap (λ (bytes : List ℕ). bytes ++ replicate c.args.after 10) (all ∙ append-nil line) in
    subst (λ (bytes : List ℕ). Puts (g.O.ByteSink.sunk c.args.out.now) (g.O.ByteSink.sunk c.put_newlines.new.out) bytes c.put_newlines.result) whole
    (Puts-behind parts (replicate c.args.after 10) c.put_newlines.result c.in-Ok.ensures.puts.ok c.put_newlines.ensures)

pub returns-in-Err : goal.returns-in-Err
returns-in-Err g c =
    let line : List ℕ = device_line c.args.columns (printed (finished_of c.args.line)) in
    let parts : List ℕ = c.clear.new.self.items ++ c.behind_columns-to_come.result in
    let all : parts ≡ line ++ [] = rw (c.clear.ensures.items, c.behind_columns-to_come.ensures) refl in
    let whole : parts ++ replicate c.args.after 10 ≡ line ++ replicate c.args.after 10 =
    ap (λ (bytes : List ℕ). bytes ++ replicate c.args.after 10) (all ∙ append-nil line) in
    record {
      ok = tt;
      err = subst (λ (bytes : List ℕ). Fails (g.O.ByteSink.sunk c.args.out.now) (g.O.ByteSink.sunk c.put_rest.new.out) bytes) whole
          (Fails-front parts (replicate c.args.after 10) c.in-Err.ensures.puts.err);
    }
