-- A byte of a table that meets a limit, and the line of the last byte.
use Rattle.std.proofs.Common.{◌≡◌, ℕ, Bool, false, ◌&&◌, Option, Some, if◌then◌else◌, ap, refl, ◌∙◌}
use Rattle.roff_num.specs.declared.limit.Limit.{Limit}
use Rattle.tbl_format.specs.declared.limits.TblLimits.{TblLimits}
use Rattle.tbl_core.specs.declared.place.Count.{Count}
use Rattle.tbl_core.specs.declared.place.Front.{Front}
use Rattle.tbl_core.specs.Lines.{ends_name, front_behind, is_name, start_letter}
use Rattle.tbl_core.specs.Machine.{Inside, Reads, goes_on_inside, limit_inside, stops, table_ended}
use Rattle.tbl_table.specs.Reading.{Reading, byte_read}
use Rattle.tbl_table.specs.Table.{told_at_cut}
use Rattle.tbl_core.specs.Tables.{counted_step, line_of, standing_of}
use Rattle.tbl_core.specs.declared.place.Position.{Position}
use Rattle.tbl_core.specs.declared.place.Position.TheVariants.{Outside as AtOutside, RestOfStart as AtRestOfStart, Inside as AtInside, Over as AtOver}

-- it stops the run
pub counted_stop : (l : TblLimits) (line_length b : ℕ) (count : Count) (front : Front) (r : Reading) (limit : Limit)
    → (is_name front && ends_name b) ≡ false → limit_inside l b front r ≡ Some limit
    → counted_step l line_length b (Reads (record { count = count; place = Inside front r })) ≡ stops l limit count.line (told_at_cut r.table)
counted_stop l line_length b count front r limit goes_on met =
    ap (λ (ends : Bool). if ends then table_ended l line_length count (byte_read b r) (front_behind start_letter front b) else goes_on_inside (limit_inside l b front r) l b count front r) goes_on
    ∙ ap (λ (o : Option Limit). goes_on_inside o l b count front r) met

-- wherever the next byte stands, the last one is on the line that was counted
pub line_standing : (count : Count) (position : Position) (r : Reading) → line_of (standing_of count position r) ≡ count.line
line_standing count (AtOutside front) r = refl
line_standing count AtRestOfStart r = refl
line_standing count (AtInside front) r = refl
line_standing count (AtOver limit) r = refl
