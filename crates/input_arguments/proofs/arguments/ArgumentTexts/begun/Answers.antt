use Rattle.std.proofs.Common.{drop, length, ◌∙◌, ap, sym, reverse}
use Rattle.std.proofs.lemmas.List.{reverse-reverse}
use Rattle.roff_num.specs.Lists.{last_end}
use Rattle.input_arguments.specs.ArgumentTexts.Kept.{KeptArguments}
use Rattle.input_arguments.proofs.Ends.{EndInOrder-last}
use Rattle.input_arguments.proofs.arguments.ArgumentTexts.begun.Goals as goal

pub split_at-requires : goal.split_at-requires
split_at-requires c =
    let old = c.self.inside in
    rw (c.last_end-start.ensures, c.as_slice.ensures.value, c.as_slice-2.ensures.value) (EndInOrder-last (length old.bytes.items) 0 old.ends.items c.self.invariant.ends)

pub returns : goal.returns
returns c =
    let old = c.self.inside in
    rw (c.split_at.ensures.back, c.last_end-start.ensures, c.as_slice.ensures.value, c.as_slice-2.ensures.value)
    (sym (reverse-reverse (drop (last_end 0 old.ends.items) old.bytes.items)) ∙ ap (λ (k : KeptArguments). reverse k.arguments.begun) c.self.view_is)
