use Rattle.std.proofs.Common.{sym}
use Rattle.input_arguments.proofs.Ends.{length-up_to_last, EndInOrder-up_to_last, parts_ending-up_to_last, total_length-up_to_last}
use Rattle.input_arguments.proofs.arguments.ArgumentList.block.Goals as goal

pub slice_bounds-result-end : goal.slice_bounds-result-end
slice_bounds-result-end c =
    let l = c.args.self.now in
    rw c.last_end.ensures (sym (length-up_to_last l.bytes.now l.ends.now l.within))

pub returns : goal.returns
returns c =
    let l = c.args.self.now in
    rw c.last_end.ensures (record {
      texts = parts_ending-up_to_last l.bytes.now l.ends.now l.within;
      within = EndInOrder-up_to_last l.bytes.now l.ends.now l.within;
      len = total_length-up_to_last l.bytes.now l.ends.now l.within;
    })
