-- The fields of a row by the table's bytes are all that stands in it, also under keys for which it has no field.
use Rattle.std.proofs.Common.{◌≡◌, ℕ, List, map, sym}
use Rattle.tbl_format.specs.Format.{FormatRow}
use Rattle.tbl_kept.specs.Rows.{fields_of}
use Rattle.tbl_layout.specs.KeptEntries.{all_entries, content_of}
use Rattle.tbl_layout.specs.declared.entry.Entry.{Entry}
use Rattle.tbl_layout.proofs.UnderKeys.{contents-completed}

pub fields-all : (bytes : List ℕ) (format : FormatRow) (entries : List Entry)
    → fields_of bytes format entries ≡ map (content_of bytes) (all_entries format entries)
fields-all bytes format entries = sym (contents-completed bytes format entries)
