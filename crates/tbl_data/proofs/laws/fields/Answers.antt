use Rattle.tbl_data.proofs.FieldSteps.{last-kept, no-room, one-field, opening-last}
use Rattle.tbl_data.proofs.laws.fields.Goals as goal

pub returns : goal.returns
returns c = record {
  first = λ ends n place field next rest in_front had t room. one-field ends n place field next rest in_front had t room;
  last = λ ends n place in_front had t field room opens. last-kept ends n place in_front had t field room opens;
  opening = λ ends n place in_front had t field room opens. opening-last ends n place in_front had t field room opens;
  surplus = λ ends n place in_front had t field rest full. no-room ends n place in_front had t field rest full;
}
