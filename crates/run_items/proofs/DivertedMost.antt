-- How many bytes of a line a diversion can have.
use Rattle.std.proofs.Common.{◌≡◌, ℕ, ◌+◌, ◌*◌, ◌/◌, ◌≤◌, Bool, true, false, length, count_by, arith, refl, if◌then◌else◌, ◌==◌}
use Rattle.std.proofs.Math.Nat.{div-le_self, mul-le-mul_right}
use Rattle.std.proofs.lemmas.List.Sums.{count_by-le-length}
use Rattle.page_model.specs.Columns.{added_columns, printed}
use Rattle.page_model.specs.Diverted.{diverted}
use Rattle.page_model.specs.Glyphs.{gap_blank, gaps_in}
use Rattle.page_model.specs.Lines.{Finished}
use Rattle.page_bytes.specs.DivertedBytes.{is_doubled}
use Rattle.page_bytes.proofs.DivertedLength.{length-diverted}

-- adjusting adds no more than if each gap got all spare columns
added_by_test : (none : Bool) (spare gaps i most : ℕ) → (gaps == 0) ≡ none → i ≤ most → added_columns spare gaps i ≤ most * spare
added_by_test true spare gaps i most is_none few = rw is_none (omega arith)
added_by_test false spare gaps i most some few =
    let shared : i * spare / gaps ≤ i * spare = div-le_self (i * spare) gaps in
    let fewer : i * spare ≤ most * spare = mul-le-mul_right spare few in
    rw some (omega (arith, shared, fewer))

-- as if each byte of a line's text were two, and a gap that gets all its spare columns
pub length-diverted_most : (l : Finished) → length (diverted (printed l)) ≤ 3 + 2 * (length l.text + length l.text * l.spare + l.lead)
length-diverted_most l =
    let added = added_by_test (l.gaps == 0) l.spare l.gaps (gaps_in l.text) (length l.text) refl (count_by-le-length (λ b. b == gap_blank) l.text) in
    omega (arith, length-diverted l, added, count_by-le-length is_doubled l.text)
