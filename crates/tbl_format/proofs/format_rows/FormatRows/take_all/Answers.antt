use Rattle.std.proofs.Common.{◌≡◌, ◌+◌, ℕ, [], length, slice_index_or, sym, ap, subst, ◌∙◌, take, arith}
use Rattle.tbl_format.specs.Format.{Format, format_byte, format_read}
use Rattle.tbl_format.specs.FormatRows.{KeptFormat, key_count, keeping}
use Rattle.tbl_format.specs.KeyCounts.{StandsOnLine}
use Rattle.tbl_format.proofs.FormatReading.{columns-more, keys-front, read-more}
use Rattle.tbl_format.proofs.StepPlaces.{read-stands}
use Rattle.tbl_format.proofs.format_rows.FormatRows.take_all.Goals as goal

pub take-requires-clause-keys : goal.take-requires-clause-keys
take-requires-clause-keys c =
    let bytes = c.args.bytes.now in
    let at = c.loop-at.at in
    let count = ap (λ (k : KeptFormat). key_count k.format) c.loop-at.invariant in
    let room = ap (λ (k : KeptFormat). k.key_room) c.loop-at.invariant in
    omega (arith, count, room, keys-front c.args.self.now.format bytes at (omega (arith, c.loop-at-test.true)), c.requires.keys, c.loop-at-test.true)

pub take-requires-clause-columns : goal.take-requires-clause-columns
take-requires-clause-columns c =
    let bytes = c.args.bytes.now in
    let at = c.loop-at.at in
    let b = slice_index_or bytes at 0 in
    let asked = ap (λ (k : KeptFormat). length (format_byte (take at bytes) k.format b).asked) c.loop-at.invariant in
    let room = ap (λ (k : KeptFormat). k.column_room) c.loop-at.invariant in
    omega (arith, asked, room, columns-more c.args.self.now.format bytes at c.loop-at-test.true, c.requires.columns)

pub take-requires-clause-place : goal.take-requires-clause-place
take-requires-clause-place c =
    let bytes = c.args.bytes.now in
    let at = c.loop-at.at in
    let f = c.args.self.now.format in
    let same : 0 + length (take at bytes) ≡ length (take at bytes) = omega arith in
    let stands = subst (λ (n : ℕ). StandsOnLine n (format_read f (take at bytes)).place) same (read-stands [] f (take at bytes) c.requires.place) in
    subst (λ (k : KeptFormat). StandsOnLine (length (take at bytes)) k.format.place) (sym c.loop-at.invariant) stands

pub loop-at-preserved : goal.loop-at-preserved
loop-at-preserved c =
    let bytes = c.args.bytes.now in
    let at = c.loop-at.at in
    let b = slice_index_or bytes at 0 in
    c.take.ensures
    ∙ ap (λ (k : KeptFormat). keeping k (format_byte (take at bytes) k.format b)) c.loop-at.invariant
    ∙ ap (λ (f : Format). keeping c.args.self.now f) (sym (read-more c.args.self.now.format bytes at c.loop-at-test.true))
