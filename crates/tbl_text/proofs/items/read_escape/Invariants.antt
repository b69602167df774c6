use Rattle.std.proofs.Common.{◌≡◌, ◌+◌, drop, fold}
use Rattle.tbl_text.specs.Items.{begun, met, reading}
use Rattle.tbl_text.proofs.ItemsRead.{IsWithin}
use Rattle.tbl_text.proofs.items.read_escape.Given as goal

abbrev pub invariant-loop-byte : goal.invariant-loop-byte
invariant-loop-byte l = record {
  read : fold met (reading l.reading.len l.reading.seen l.reading.found l.escapes.escapes) (drop l.byte-index l.text) ≡ fold met begun l.text;
  within : IsWithin (l.byte-index + 1) (reading l.reading.len l.reading.seen l.reading.found l.escapes.escapes);
  room : l.escapes.room ≡ l.fn.escapes.room;
}
