use Rattle.std.proofs.Common.{◌<◌, ◌∷◌, [], length, vec_len, vec_capacity, ◌∙◌, ap, arith, length-append}
use Rattle.input_arguments.specs.ArgumentTexts.Kept.{KeptArguments}
use Rattle.input_arguments.proofs.ArgumentBlock.{held-kept_in, kept_in-byte, AllKept-append_block}
use Rattle.input_arguments.proofs.Ends.{EndInOrder-more}
use Rattle.input_arguments.proofs.arguments.ArgumentTexts.push.Goals as goal

pub unwrap-requires : goal.unwrap-requires
unwrap-requires c =
    let old = c.self.inside in
    let requires = rw (← c.self.view_is) at c.requires in
    let room : vec_len old.bytes < vec_capacity old.bytes =
    omega (arith, requires, held-kept_in old.bytes.items old.ends.items old.place c.self.invariant.ends) in
    c.push.ensures.succeeds room

pub invariant_of-self : goal.invariant_of-self
invariant_of-self c =
    let old = c.self.inside in
    let requires = rw (← c.self.view_is) at c.requires in
    let items = rw c.unwrap.ensures at c.push.ensures.items in
    let longer = ap length items ∙ length-append old.bytes.items (c.args.byte ∷ []) in
    record {
      small = c.self.invariant.small;
      bytes_reserved = omega (arith, c.push.ensures.capacity);
      ends_reserved = c.self.invariant.ends_reserved;
      within = omega (arith, requires, held-kept_in old.bytes.items old.ends.items old.place c.self.invariant.ends);
      ends = EndInOrder-more (length old.bytes.items) _ 0 old.ends.items (omega arith) c.self.invariant.ends;
      kept = (AllKept-append_block old.bytes.items (c.args.byte ∷ []) _ old.ends.items items c.self.invariant.ends c.self.invariant.kept);
    }

pub returns : goal.returns
returns c =
    let old = c.self.inside in
    let items = rw c.unwrap.ensures at c.push.ensures.items in
    rw (← c.self.view_is, items)
    (ap (λ a. let k : KeptArguments = record { arguments = a; room = old.room } in k)
    (kept_in-byte old.bytes.items old.ends.items old.place c.args.place c.args.byte c.self.invariant.ends))
