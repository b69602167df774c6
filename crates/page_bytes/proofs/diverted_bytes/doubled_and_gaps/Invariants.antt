use Rattle.std.proofs.Common.{◌≡◌, ◌≤◌, count_by, take}
use Rattle.page_model.specs.Glyphs.{gaps_in}
use Rattle.page_bytes.specs.DivertedBytes.{is_doubled}
use Rattle.page_bytes.proofs.diverted_bytes.doubled_and_gaps.Given as goal

abbrev pub invariant-loop-byte : goal.invariant-loop-byte
invariant-loop-byte l = record {
  doubled : l.doubled ≡ count_by is_doubled (take l.byte-index l.text);
  gaps : l.gaps ≡ gaps_in (take l.byte-index l.text);
  few : l.doubled ≤ l.byte-index;
  fewer : l.gaps ≤ l.byte-index;
}
