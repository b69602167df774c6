-- What the fields of the source hold.
use Rattle.tbl_core.specs.declared.source.TblSource.TheInside.{Inside}
use Rattle.tbl_core.specs.Source.{Sourced}

abbrev pub sourced : {S : Type 0} → Inside S → Sourced S
sourced a = record { inner = a.inner; tables = a.tables; idle = a.idle; giving = a.giving }
