use Rattle.std.proofs.Common.{◌≡◌, ℕ, ◌+◌, ◌*◌, ◌-◌, ◌<◌, ◌≤◌, ◌/◌, ◌%◌, length, refl, sym, ap, subst, ◌∙◌, arith}
use Rattle.std.proofs.Math.Nat.{div-add-mod, mod-lt}
use Rattle.tbl_layout.specs.Entries.{up_to_last_glyph}
use Rattle.tbl_lines.specs.PictureLines.{Cell}
use Rattle.tbl_lines.specs.RowsLeft.{first_of}
use Rattle.tbl_lines.specs.RowsWalked.{HasGlyph}
use Rattle.tbl_picture.specs.Walks.{lent_row}
use Rattle.tbl_lines.proofs.FrontCells.{count-fronts}
use Rattle.tbl_lines.proofs.FrontsLent.{fronts-lent}
use Rattle.tbl_lines.proofs.RowColumns.{length-places}
use Rattle.tbl_lines.proofs.RowMarks.{even-marks, many-cells, odd-cell, past-marks}
use Rattle.tbl_picture.proofs.walk.fronts.has_mark.Goals as goal

-- a number by its half
halves : (n k : ℕ) → n ≤ 2 * k → n % 2 ≡ 0 → (n ≡ 2 * (n / 2)) × (n / 2 ≤ k)
halves n k few even = (omega (arith, even, div-add-mod n 2), omega (arith, few, even, div-add-mod n 2))

odd-halves : (n k : ℕ) → n ≤ 2 * k → (n % 2 ≡ 0 → ⊥) → (n ≡ 2 * (n / 2) + 1) × (n / 2 < k)
odd-halves n k few odd =
    let small : n % 2 < 2 = mod-lt n (omega arith) in
    let one : n % 2 ≡ 1 = omega (arith, small, odd) in
    (omega (arith, one, div-add-mod n 2), omega (arith, few, one, div-add-mod n 2))

pub front_at-requires-clause-within : goal.front_at-requires-clause-within
front_at-requires-clause-within c =
    let row = lent_row c.args.row.now in
    omega (
      arith,
      c.requires.within,
      c.if-at-fields.true,
      length-places row.bytes row.entries c.args.places.now c.requires.cells.places,
      many-cells row c.args.line c.args.places.now c.requires.cells.short c.requires.cells.places (fronts-lent c.args.row.now c.requires.lies) c.requires.any,
      count-fronts row (fronts-lent c.args.row.now c.requires.lies) c.requires.any,
    )

pub returns-then-at-fields : goal.returns-then-at-fields
returns-then-at-fields c =
    let row = lent_row c.args.row.now in
    let at = c.args.at in
    let given = length-places row.bytes row.entries c.args.places.now c.requires.cells.places in
    let i = at - length c.args.places.now in
    let marks = past-marks row c.args.line c.args.places.now c.requires.cells.short c.requires.cells.places (fronts-lent c.args.row.now c.requires.lies) c.requires.any at i c.front_at.result
    (omega (arith, c.if-at-fields.true, given)) (omega (arith, c.if-at-fields.true, given)) c.front_at.ensures.at c.front_at.ensures.some
    c.is_some.result c.is_some.ensures in
    record { yes = marks.yes; no = marks.no; room = refl }

pub front_at-requires-then-at-eq0-clause-within : goal.front_at-requires-then-at-eq0-clause-within
front_at-requires-then-at-eq0-clause-within c =
    let row = lent_row c.args.row.now in
    let given = length-places row.bytes row.entries c.args.places.now c.requires.cells.places in
    let half = halves c.args.at (length row.entries) (omega (arith, c.if-at-fields.false, given)) c.if-at-eq0.true in
    omega (
      arith,
      half.1,
      c.requires.cells.short,
      count-fronts row (fronts-lent c.args.row.now c.requires.lies) c.requires.any,
    )

pub returns-then-at-eq0 : goal.returns-then-at-eq0
returns-then-at-eq0 c =
    let row = lent_row c.args.row.now in
    let at = c.args.at in
    let given = length-places row.bytes row.entries c.args.places.now c.requires.cells.places in
    let half = halves at (length row.entries) (omega (arith, c.if-at-fields.false, given)) c.if-at-eq0.true in
    let found = c.front_at-then-at-eq0 in
    let marks = even-marks row c.args.line c.args.places.now c.requires.cells.short c.requires.cells.places (fronts-lent c.args.row.now c.requires.lies) c.requires.any at (at / 2) found.result
    half.0 half.1 found.ensures.at found.ensures.some c.is_some-then-at-eq0.result c.is_some-then-at-eq0.ensures in
    record { yes = marks.yes; no = marks.no; room = refl }

pub has_glyph_at-requires-clause-within : goal.has_glyph_at-requires-clause-within
has_glyph_at-requires-clause-within c =
    let row = lent_row c.args.row.now in
    let given = length-places row.bytes row.entries c.args.places.now c.requires.cells.places in
    (odd-halves c.args.at (length row.entries) (omega (arith, c.if-at-fields.false, given)) c.if-at-eq0.false).1

pub returns : goal.returns
returns c =
    let row = lent_row c.args.row.now in
    let at = c.args.at in
    let places = c.args.places.now in
    let given = length-places row.bytes row.entries places c.requires.cells.places in
    let half = odd-halves at (length row.entries) (omega (arith, c.if-at-fields.false, given)) c.if-at-eq0.false in
    let this = odd-cell row c.args.line places c.requires.cells.short c.requires.cells.places (fronts-lent c.args.row.now c.requires.lies) c.requires.any at (at / 2) half.0 half.1 in
    record {
      yes = λ yes. subst (λ (cell : Cell). HasGlyph (first_of cell)) (sym this) (c.has_glyph_at.ensures.yes yes);
      no = λ no. ap (λ (cell : Cell). up_to_last_glyph (first_of cell)) this ∙ c.has_glyph_at.ensures.no no;
      room = c.has_glyph_at.ensures.room;
    }
