use Rattle.std.proofs.Common.{drop}
use Rattle.tbl_kept.specs.TableText.{StaysBehind}
use Rattle.tbl_kept.proofs.table_text.joint_behind.Given as goal

abbrev pub invariant-loop-at : goal.invariant-loop-at
invariant-loop-at l = record {
  passed : StaysBehind l.start l.place (drop l.from l.joints) (drop l.at l.joints);
}
