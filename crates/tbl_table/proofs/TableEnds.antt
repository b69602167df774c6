-- What is told and given at the end of a table.
use Rattle.std.proofs.Common.{◌≡◌, ℕ, ◌-◌, ◌<◌, ◌≤◌, ◌^◌, min, Bool, true, false, nat_lt, List, ◌++◌, Option, Some, None, refl, sym, ap, ◌∙◌, arith, if◌then◌else◌, is_some}
use Rattle.std.proofs.lemmas.Bool.Decides.{nat_tests}
use Rattle.roff_num.specs.declared.limit.Limit.{Limit}
use Rattle.roff_num.specs.declared.limit.Limit.TheVariants.{Rows, Width}
use Rattle.tbl_data.specs.DataRead.{closed_block}
use Rattle.tbl_data.specs.TableData.{begun_by}
use Rattle.tbl_data.specs.TableRead.{RowBegun, with_notes}
use Rattle.tbl_data.specs.declared.table_data.OpenBlock.{OpenBlock}
use Rattle.tbl_data.specs.declared.table_data.OpenBlock.TheVariants.{Dropped, Kept, Nothing}
use Rattle.tbl_format.specs.declared.limits.TblLimits.{TblLimits}
use Rattle.tbl_options.specs.declared.message.Told.{Told}
use Rattle.tbl_kept.specs.Joined.{Joined}
use Rattle.tbl_layout.specs.Entries.{Content}
use Rattle.tbl_table.specs.Reading.{Reading, given_at_end, given_behind, limit_at_end, output_or_read, told_at_end, told_behind}
use Rattle.tbl_table.specs.Steps.{given_within, width_met}
use Rattle.tbl_data.specs.declared.phase.Phase.{Phase}
use Rattle.tbl_data.specs.declared.phase.Phase.TheVariants.{InData}
use Rattle.tbl_table.specs.Table.{TableRead, closed, closed_line, cut_told, ended, ended_in, notes, output, output_in, picture_of, rows, told_at_cut, width, width_in}
use Rattle.tbl_table.proofs.FewFields.{whole_pending}

-- a table that is closed has no line that goes on, and no block that is open
closed-line : (pending : Option Joined) (t : TableRead) → t.pending ≡ pending → (closed_line pending t).pending ≡ None
closed-line None t is = is
closed-line (Some j) t is = whole_pending j.ends 0 j.bytes t

closed-block : (begun : Option RowBegun) (t : TableRead) → (closed_block begun t).pending ≡ t.pending
closed-block None t = refl
closed-block (Some row) t = refl

block-rests : (begun : Option RowBegun) (t : TableRead) → t.begun ≡ begun → (closed_block begun t).begun ≡ None
block-rests None t is = is
block-rests (Some row) t is = refl

pub closed-alone : (t : TableRead) → (closed t).pending ≡ None
unfolding closed
closed-alone t =
    let whole = closed_line t.pending t in closed-block whole.begun whole ∙ closed-line t.pending t refl

pub closed-rests : (t : TableRead) → (closed t).begun ≡ None
unfolding closed
closed-rests t = let whole = closed_line t.pending t in block-rests whole.begun whole refl

-- no block is open where no row is begun
pub none-begun-open : (block : OpenBlock) (contents : List Content) → begun_by block contents ≡ None → block ≡ Nothing
none-begun-open Nothing contents is = refl
none-begun-open Kept contents is = absurd (cc)
none-begun-open (Dropped had_surplus) contents is = absurd (cc)

-- a width that is cut off passes a limit where it would
pub over-test : (most wide cut : ℕ) → most < 4294967296 → cut ≡ min wide (2 ^ 64 - 1) → most < cut → nat_lt most wide ≡ true
over-test most wide cut small is over = let over_wide : most < wide = omega (arith, is, over) in grind (arith, nat_tests)

pub within-test : (most wide cut : ℕ) → most < 4294967296 → cut ≡ min wide (2 ^ 64 - 1) → cut ≤ most → wide ≤ most
within-test most wide cut small is few = omega (arith, is, few, small)

pub none-test : (most wide cut : ℕ) → most < 4294967296 → cut ≡ min wide (2 ^ 64 - 1) → cut ≤ most → nat_lt most wide ≡ false
none-test most wide cut small is few = let within : wide ≤ most = omega (arith, is, few, small) in grind (arith, nat_tests)

module _ (l : TblLimits) (number line_length : ℕ) where
  -- the limits that are met
  pub rows-met : (t : TableRead) → nat_lt l.rows (rows (closed t)) ≡ true → Some Rows ≡ limit_at_end l line_length t
  rows-met t is =
      sym (ap (λ (b : Bool). if b then Some Rows else if nat_lt l.width (width line_length (closed t)) then Some Width else None) is)

  pub width-met : (t : TableRead) → nat_lt l.rows (rows (closed t)) ≡ false
      → width_met l.width (width_in (closed t).phase line_length (closed t)) ≡ limit_at_end l line_length t
  unfolding width
  width-met t is =
      sym (ap (λ (b : Bool). if b then Some Rows else if nat_lt l.width (width_in (closed t).phase line_length (closed t)) then Some Width else None) is)

  -- the messages
  told-some : (t : TableRead) (limit : Limit) → Some limit ≡ limit_at_end l line_length t → (closed t).notes ≡ told_at_end l number line_length t
  unfolding notes
  told-some t limit is = ap (λ (o : Option Limit). told_behind o number line_length t) is

  told-none : (t : TableRead) → None ≡ limit_at_end l line_length t → (ended_in (closed t).phase number line_length (closed t)).notes ≡ told_at_end l number line_length t
  unfolding notes ended
  told-none t is = ap (λ (o : Option Limit). told_behind o number line_length t) is

  pub told-cut : (t : TableRead) → nat_lt l.rows (rows (closed t)) ≡ true → told_at_cut (closed t) ≡ told_at_end l number line_length t
  unfolding told_at_cut notes
  told-cut t is = told-some t Rows (rows-met t is)

  pub told-by : (r : Option Limit) (t : TableRead) (told : List Told) → r ≡ limit_at_end l line_length t
      → (r ≡ None → told ≡ (ended_in (closed t).phase number line_length (closed t)).notes) → (is_some r ≡ true → told ≡ (closed t).notes)
      → told ≡ told_at_end l number line_length t
  told-by None t told is none some = none refl ∙ told-none t is
  told-by (Some limit) t told is none some = some refl ∙ told-some t limit is

  -- and the bytes
  given-none : (r : Reading) → None ≡ limit_at_end l line_length r.table
      → output_or_read (output_in (ended_in (closed r.table).phase number line_length (closed r.table)).phase line_length (ended_in (closed r.table).phase number line_length (closed r.table))) r.read ++ r.line
      ≡ given_at_end l number line_length r
  unfolding output ended
  given-none r is = ap (λ (o : Option Limit). given_behind o number line_length r) is

  pub given-by : (met : Option Limit) (r : Reading) → met ≡ limit_at_end l line_length r.table
      → given_within met (output_or_read (output_in (ended_in (closed r.table).phase number line_length (closed r.table)).phase line_length (ended_in (closed r.table).phase number line_length (closed r.table))) r.read ++ r.line)
      ≡ given_at_end l number line_length r
  given-by None r is = given-none r is
  given-by (Some limit) r is = ap (λ (o : Option Limit). given_behind o number line_length r) is

-- what stands in the place of a table in its data
pub picture-out : (t : TableRead) (number line_length : ℕ) → t.phase ≡ InData
    → output_in (ended_in t.phase number line_length t).phase line_length (ended_in t.phase number line_length t) ≡ Some (picture_of line_length t)
picture-out t number line_length is =
    let told = with_notes (cut_told number line_length t) t in
    ap (λ (p : Phase). output_in (ended_in p number line_length t).phase line_length (ended_in p number line_length t)) is
    ∙ ap (λ (p : Phase). output_in p line_length told) is

-- and what is told then
pub picture-told : (t : TableRead) (number line_length : ℕ) → t.phase ≡ InData
    → (ended_in t.phase number line_length t).notes ≡ t.notes ++ cut_told number line_length t
picture-told t number line_length is = ap (λ (p : Phase). (ended_in p number line_length t).notes) is
