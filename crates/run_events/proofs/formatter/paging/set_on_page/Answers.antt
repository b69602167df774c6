use Rattle.std.proofs.Common.{refl}
use Rattle.page_model.specs.declared.layout_event.LayoutEvent.TheVariants.{ListPages, Length, Offset, Next, Number, NoSpace}
use Rattle.run_events.proofs.Quiet.{begins_by, sets_quietly}
use Rattle.run_events.proofs.formatter.paging.set_on_page.Goals as goal

pub returns-in-ListPages : goal.returns-in-ListPages
returns-in-ListPages c = rw c.in-ListPages.is (sets_quietly (ListPages c.in-ListPages.first c.in-ListPages.last) _ _ c.args.due.now refl refl c.list_pages.ensures tt)

pub returns-in-Length : goal.returns-in-Length
returns-in-Length c = rw c.in-Length.is (sets_quietly (Length c.in-Length.lines) _ _ c.args.due.now refl refl c.set_length.ensures tt)

pub returns-in-Offset : goal.returns-in-Offset
returns-in-Offset c = rw c.in-Offset.is (sets_quietly (Offset c.in-Offset.columns) _ _ c.args.due.now refl refl c.set_offset.ensures tt)

pub returns-in-Next : goal.returns-in-Next
returns-in-Next c = rw c.in-Next.is (sets_quietly (Next c.in-Next.number) _ _ c.args.due.now refl refl c.set_next.ensures tt)

pub returns-in-Number : goal.returns-in-Number
returns-in-Number c = rw c.in-Number.is (sets_quietly (Number c.in-Number.number) _ _ c.args.due.now refl refl c.set_number.ensures tt)

pub returns-in-NoSpace : goal.returns-in-NoSpace
returns-in-NoSpace c = rw c.in-NoSpace.is (sets_quietly (NoSpace c.in-NoSpace.on) _ _ c.args.due.now refl refl c.set_no_space.ensures tt)

pub returns-in-Begin : goal.returns-in-Begin
returns-in-Begin c = rw (c.in-Begin.is, c.by.ensures.sprung) (begins_by _ _ c.args.due.now c.by.new.due c.begin.result c.begin.ensures.happens c.begin.ensures.springs c.by.ensures.noted)
