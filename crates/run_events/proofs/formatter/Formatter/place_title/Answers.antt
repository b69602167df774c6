use Rattle.std.proofs.Common.{refl}
use Rattle.run_model.specs.declared.event.PageEvent.TheVariants.{Title}
use Rattle.run_events.proofs.Titling.{title_page, title_placed}
use Rattle.run_events.proofs.formatter.Formatter.place_title.Goals as goal

pub returns-in-Some : goal.returns-in-Some
returns-in-Some g c = title_page c.args.which _ _ _ _ _ _ c.in-Some.name _ (c.in-Some.ensures (Title c.args.which) (λ h. refl)) c.stopped_by.ensures.due c.stopped_by.ensures.is

pub returns-in-None : goal.returns-in-None
returns-in-None g c =
    title_placed c.args.which _ c.args.format _ c.begin_first.new.self _ _ _ _ (c.in-None.ensures (Title c.args.which) (λ h. refl)) c.place_title_here.ensures
