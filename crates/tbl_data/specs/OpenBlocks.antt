-- Text blocks that are open.
use Rattle.std.specs.Prelude.{Bool, true, false}
use Rattle.tbl_data.specs.declared.table_data.OpenBlock.{OpenBlock}
use Rattle.tbl_data.specs.declared.table_data.OpenBlock.TheVariants.{Dropped, Kept, Nothing}

-- whether one is
abbrev pub is_open : OpenBlock → Bool
is_open Nothing = false
is_open Kept = true
is_open (Dropped had_surplus) = true

-- whether one is whose row had a field too many
abbrev pub had_surplus : OpenBlock → Bool
had_surplus Nothing = false
had_surplus Kept = false
had_surplus (Dropped had) = had
