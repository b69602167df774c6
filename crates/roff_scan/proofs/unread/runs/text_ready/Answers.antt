use Rattle.std.proofs.Common.{take, take_while, ap, ◌∙◌}
use Rattle.input_source.specs.Bytes.{is_text_byte}
use Rattle.roff_scan.proofs.AddedFronts.{plain_in_front}
use Rattle.roff_scan.proofs.PartsTaken.{begin}
use Rattle.roff_scan.proofs.unread.runs.text_ready.Goals as goal

pub returns-clause-plain : goal.returns-clause-plain
returns-clause-plain g c = plain_in_front c.at_most-front.result.now c.at_most.result.now c.text_in_front.result c.at_most.ensures c.text_in_front.ensures

pub returns-clause-whole : goal.returns-clause-whole
returns-clause-whole g c =
    c.at_most.ensures
    ∙ (begin is_text_byte c.at_most-front.result.now c.text_in_front.result c.text_in_front.ensures).whole
    ∙ ap (take_while is_text_byte) (c.at_most-front.ensures ∙ ap (take c.args.most) c.buffered.ensures)
