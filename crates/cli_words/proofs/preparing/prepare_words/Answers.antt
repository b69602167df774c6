use Rattle.std.specs.Prelude.{string_bytes}
use Rattle.cli_words.proofs.PreparedWords.{all_prepared, one_prepared}
use Rattle.cli_words.proofs.preparing.prepare_words.Goals as goal

pub loop-word-preserved : goal.loop-word-preserved
loop-word-preserved c =
    one_prepared string_bytes c.loop-word.prepared.items c.push.new.self.items c.loop-word.rest.now c.in-Some.others.now c.in-Some.word.now c.in_ok-prepare_word.field-0
    c.loop-word.are_files c.are_files_from-are_files.result _ c.in-Some.ensures.cases.0 (rw c.as_str-word.ensures.value at c.are_files_from-are_files.ensures)
    (rw c.as_str-word.ensures.value at c.in_ok-prepare_word.ensures) c.in_ok-push.ensures.items c.loop-word.invariant

pub returns : goal.returns
returns c = all_prepared string_bytes c.loop-word.prepared.items c.loop-word.rest.now c.loop-word.are_files _ c.in_default.ensures.cases c.loop-word.invariant
