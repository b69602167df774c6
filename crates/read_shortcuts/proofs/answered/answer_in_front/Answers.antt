use Rattle.std.proofs.Common.{rules, ◌≡◌, get_or}
use Rattle.input_source.specs.Bytes.{blank}
use Rattle.read_shortcuts.proofs.AnsweredConditions.{answers-front}
use Rattle.read_shortcuts.proofs.answered.answer_in_front.Goals as goal

pub returns-in-32 : goal.returns-in-32
returns-in-32 g c =
    let is : get_or c.front.result.now 3 0 ≡ blank = search rules in
    answers-front c.answer_behind.result c.args.reader.now c.args.composer.now c.args.unread.now (g.S.ByteSource.ready c.args.source.now) c.front.result.now c.in-32.len_at_least is
    c.front.ensures.bytes c.front.ensures.front c.answer_behind.ensures
