use Rattle.std.proofs.Common.{ℕ, List, None, Some, subst}
use Rattle.std.proofs.lemmas.List.{take_rest}
use Rattle.memchr.specs.Find.{IsFirstByte, is_byte}
use Rattle.input_source.specs.Bytes.{newline}
use Rattle.tbl_text.proofs.BlockParts.{lines_from-last, lines_from-first}
use Rattle.tbl_text.proofs.block_parts.line_end.Goals as goal

pub returns-in-Some-clause-lines : goal.returns-in-Some-clause-lines
returns-in-Some-clause-lines c =
    let P : List ℕ → Type 0 = λ rest. IsFirstByte (is_byte newline) rest (Some c.in-Some.len) in
    lines_from-first c.args.bytes.now c.args.line c.requires c.in-Some.len
    (subst P (take_rest c.args.bytes.now c.args.line) c.in-Some.ensures)

pub returns-in-None-clause-lines : goal.returns-in-None-clause-lines
returns-in-None-clause-lines c =
    let P : List ℕ → Type 0 = λ rest. IsFirstByte (is_byte newline) rest None in
    lines_from-last c.args.bytes.now c.args.line c.requires (subst P (take_rest c.args.bytes.now c.args.line) c.in-None.ensures)
