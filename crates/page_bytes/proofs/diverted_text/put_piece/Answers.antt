use Rattle.std.proofs.Common.{◌≡◌, ℕ, ◌+◌, ◌*◌, List, ◌++◌, length, take, ap, ◌∙◌, arith, append_assoc}
use Rattle.page_model.specs.Columns.{spaces}
use Rattle.page_model.specs.Diverted.{escaped}
use Rattle.page_bytes.proofs.diverted_text.put_piece.Goals as goal

pub returns-clause-written : goal.returns-clause-written
returns-clause-written c =
    let glyphs : List ℕ = c.args.glyphs.now in
    let sum : c.args.place + (2 * c.args.blanks + length glyphs) ≡ c.args.place + 2 * c.args.blanks + length glyphs = omega arith in
    ap (λ n. take n c.put_glyphs.new.buffer) sum ∙ c.put_glyphs.ensures.written
    ∙ ap (λ (bytes : List ℕ). bytes ++ glyphs) c.put_blanks.ensures.written
    ∙ append_assoc (take c.args.place c.args.buffer.now) (escaped (spaces c.args.blanks)) glyphs
