use Rattle.std.proofs.Common.{take, sym, ap, ◌∙◌, arith}
use Rattle.run_events.proofs.Telling.{plain_le, tells_counted, tells_none, tells_of_all, text_above}
use Rattle.run_events.proofs.formatter.Formatter.text_front.Goals as goal

pub text_front-requires-clause-text : goal.text_front-requires-clause-text
text_front-requires-clause-text c = omega (arith, c.text_in_front-count.ensures, plain_le c.told_at_once-near.result.now)

pub text_front-requires-clause-above : goal.text_front-requires-clause-above
text_front-requires-clause-above c =
    let near = c.told_at_once-near.result.now in
    text_above near _ (ap (λ n. take n near) c.text_in_front-count.ensures)

pub returns-then-not-takes_text : goal.returns-then-not-takes_text
returns-then-not-takes_text c = tells_none c.args.front.now c.args.self.now (λ L stands. sym (c.takes_text.ensures L stands) ∙ c.if-not-takes_text.true)

pub returns : goal.returns
returns c =
    let near = c.told_at_once-near.result.now in
    tells_of_all c.args.front.now near _ _ _ c.told_at_once-near.ensures
    (tells_counted near c.text_in_front-count.result _ c.args.self.now _ c.text_in_front-count.ensures c.text_front.ensures.within
    (λ L stands. sym (c.takes_text.ensures L stands) ∙ c.if-not-takes_text.false) c.text_front.ensures.quiet c.text_front.ensures.stands c.text_front.ensures.most)
