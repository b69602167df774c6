use Rattle.std.proofs.Common.{◌<◌, length, vec_len, vec_capacity, ◌∙◌, ap, sym, arith}
use Rattle.input_model.specs.Arguments.{Arguments}
use Rattle.input_arguments.specs.ArgumentTexts.Kept.{KeptArguments}
use Rattle.input_arguments.proofs.ArgumentBlock.{AllKept-end, ends_fit, kept_in-end, kept_in-no_end}
use Rattle.input_arguments.proofs.Ends.{EndInOrder-append}
use Rattle.input_arguments.proofs.arguments.ArgumentTexts.end_argument.Goals as goal
use Rattle.input_arguments.proofs.arguments.ArgumentTexts.end_argument.Goals.{then-is_kept, else-is_kept}

pub unwrap-requires : goal.unwrap-requires
unwrap-requires c =
    let old = c.self.inside in
    let kept = rw (c.as_slice.ensures.value, c.len-end.ensures, old.bytes.ok.0) at (sym c.is_kept.ensures ∙ c.if-is_kept.true) in
    let fit = ends_fit old.bytes.items old.ends.items old.room c.self.invariant.ends c.self.invariant.kept c.self.invariant.within kept in
    let room : vec_len old.ends < vec_capacity old.ends = omega (arith, fit) in
    c.push.ensures.succeeds room

pub invariant_of-self : goal.invariant_of-self
invariant_of-self c =
    let old = c.self.inside in
    elim c.if-is_kept.branch [
      | then-is_kept w ↦
          let kept = rw (c.as_slice.ensures.value, c.len-end.ensures, old.bytes.ok.0) at (sym c.is_kept.ensures ∙ w.if-is_kept.true) in
          let items = rw (c.len-end.ensures, old.bytes.ok.0) at (rw w.unwrap.ensures at w.push.ensures.items) in
          rw w.self-inside-is (record {
            small = c.self.invariant.small;
            bytes_reserved = c.self.invariant.bytes_reserved;
            ends_reserved = omega (arith, w.push.ensures.capacity);
            within = c.self.invariant.within;
            ends = rw items (EndInOrder-append (length old.bytes.items) 0 old.ends.items c.self.invariant.ends);
            kept = rw items (AllKept-end old.bytes.items old.ends.items c.self.invariant.kept kept);
          })
      | else-is_kept w ↦ rw w.self-inside-is (record {
        small = c.self.invariant.small;
        bytes_reserved = c.self.invariant.bytes_reserved;
        ends_reserved = c.self.invariant.ends_reserved;
        within = c.self.invariant.within;
        ends = c.self.invariant.ends;
        kept = c.self.invariant.kept;
      })
    ]

pub returns : goal.returns
returns c =
    let old = c.self.inside in
    let of_room = λ (a : Arguments). let k : KeptArguments = record { arguments = a; room = old.room } in k in
    elim c.if-is_kept.branch [
      | then-is_kept w ↦
          let kept = rw (c.as_slice.ensures.value, c.len-end.ensures, old.bytes.ok.0) at (sym c.is_kept.ensures ∙ w.if-is_kept.true) in
          let items = rw (c.len-end.ensures, old.bytes.ok.0) at (rw w.unwrap.ensures at w.push.ensures.items) in
          rw (← c.self.view_is, w.self-inside-is, items) (ap of_room (kept_in-end old.bytes.items old.ends.items old.place c.self.invariant.kept kept))
      | else-is_kept w ↦
          let not_kept = rw (c.as_slice.ensures.value, c.len-end.ensures, old.bytes.ok.0) at (sym c.is_kept.ensures ∙ w.if-is_kept.false) in
          rw (← c.self.view_is, w.self-inside-is) (ap of_room (kept_in-no_end old.bytes.items old.ends.items old.place c.self.invariant.kept not_kept))
    ]
