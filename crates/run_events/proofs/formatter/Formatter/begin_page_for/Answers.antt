use Rattle.std.proofs.Common.{refl}
use Rattle.run_events.proofs.formatter.Formatter.begin_page_for.Goals as goal

pub returns-then-needs_page_for : goal.returns-then-needs_page_for
returns-then-needs_page_for c = record {
  page = λ l h stood is. c.begin_page.ensures;
  stays = λ l h stood is. absurd (let wrong = c.needs_page_for.ensures l h stood in let true_is = c.if-needs_page_for.true in cc);
  others = c.begin_page.ensures.others;
}

pub returns : goal.returns
returns c = record {
  page = λ l h stood is. absurd (let wrong = c.needs_page_for.ensures l h stood in let false_is = c.if-needs_page_for.false in cc);
  stays = λ l h stood is. (refl, refl);
  others = refl;
}
