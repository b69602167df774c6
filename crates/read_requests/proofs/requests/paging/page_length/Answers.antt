use Rattle.std.proofs.Common.{Ok, Err, sym, ◌∙◌}
use Rattle.read_requests.proofs.PageLengths.{page_length-given}
use Rattle.read_requests.proofs.requests.paging.page_length.Goals as goal

pub returns-in-Ok : goal.returns-in-Ok
returns-in-Ok c = λ k as_given knows given.
    c.lines_on_page-in-Ok.ensures as_given
    ∙ page_length-given k as_given c.in-Some.text.now (Ok c.in-Ok.lines) (rw c.in-Some.is at given) (sym c.in-Ok.is ∙ c.lines_set.ensures k as_given knows)

pub returns-in-Err : goal.returns-in-Err
returns-in-Err c = λ k as_given knows given.
    c.bad_number.ensures as_given
    ∙ page_length-given k as_given c.in-Some.text.now (Err c.in-Err.field-0) (rw c.in-Some.is at given) (sym c.in-Err.is ∙ c.lines_set.ensures k as_given knows)
