-- What the fields of the machine hold.
use Rattle.std.specs.Prelude.{◌≡◌}
use Rattle.tbl_core.specs.declared.tables.Tables.TheInside.{Inside}
use Rattle.tbl_core.specs.Tables.{TablesState, Fits, IsCounted, pending_of, standing_of}

abbrev pub tables_state : Inside → TablesState
tables_state a = record {
  limits = a.limits;
  line_length = a.line_length;
  at = record { pending = pending_of a.table a.own; standing = standing_of a.count a.position a.table.reading };
}

-- the limits are those of the table, and the counts are within them
pub record IsSound (a : Inside) : Type 0 where
  pub limits : a.table.limits ≡ a.limits
  pub counted : IsCounted a.limits a.count
  pub fits : Fits a.limits.text a.position a.table.reading
