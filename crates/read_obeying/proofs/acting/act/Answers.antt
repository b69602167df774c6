use Rattle.std.proofs.Common.{◌≡◌, ◌∙◌, ◌&&◌, Bool, true, false, List, [], ◌∷◌, ap, refl, sym}
use Rattle.page_model.specs.declared.event.Event.TheVariants.{Set}
use Rattle.page_model.specs.declared.settings.Param.TheVariants.{Adjusting, Filling}
use Rattle.run_model.specs.PageEvents.{PageEvent}
use Rattle.run_model.specs.Requests.Effects.{behind_break}
use Rattle.run_model.specs.declared.event.PageEvent.TheVariants.{Text}
use Rattle.run_model.specs.declared.step.Step.TheVariants.{Nothing}
use Rattle.read_obeying.specs.Acting.{kept}
use Rattle.read_obeying.proofs.Effects.{and_false, and_true, quiet-effect}
use Rattle.read_obeying.proofs.acting.act.Goals as goal

-- what breaks as the table has it
by_table : (breaks : Bool) (events : List PageEvent) → behind_break breaks events ≡ behind_break (breaks && true) events
by_table breaks events = ap (λ (b : Bool). behind_break b events) (sym (and_true breaks))

unbroken : (breaks : Bool) (events : List PageEvent) → events ≡ behind_break (breaks && false) events
unbroken breaks events = ap (λ (b : Bool). behind_break b events) (sym (and_false breaks))

pub returns-in-Break : goal.returns-in-Break
returns-in-Break c = rw c.in-Break.is (record {
  acts = λ l h stands. quiet-effect [] (behind_break (c.args.breaks && true) []) (kept c.args.lasting.now c.args.meaning.now) (kept c.args.lasting.now c.args.meaning.now) c.args.unread.now c.broken.result refl
      (c.broken.ensures.says _) (c.broken.ensures.means _ ∙ by_table c.args.breaks []);
})

pub returns-in-NumberRegister : goal.returns-in-NumberRegister
returns-in-NumberRegister c = rw c.in-NumberRegister.is (c.set_register.ensures c.args.breaks)

pub returns-in-WithoutEffect : goal.returns-in-WithoutEffect
returns-in-WithoutEffect c = rw c.in-WithoutEffect.is (record {
  acts = λ l h stands. quiet-effect [] (behind_break (c.args.breaks && false) []) (kept c.args.lasting.now c.args.meaning.now) (kept c.args.lasting.now c.args.meaning.now) c.args.unread.now Nothing refl
      refl (unbroken c.args.breaks []);
})

pub returns-in-Fill : goal.returns-in-Fill
returns-in-Fill c = let done = c.set_always in let events : List PageEvent = Text (Set (Filling true)) ∷ [] in rw c.in-Fill.is (record {
  acts = λ l h stands. quiet-effect [] (behind_break (c.args.breaks && true) events) (kept c.args.lasting.now c.args.meaning.now) (kept c.args.lasting.now done.new.meaning) c.args.unread.now done.result
      refl done.ensures.says (done.ensures.kept ∙ by_table c.args.breaks events);
})

pub returns-in-NoFill : goal.returns-in-NoFill
returns-in-NoFill c = let done = c.set_always-in-NoFill in let events : List PageEvent = Text (Set (Filling false)) ∷ [] in rw c.in-NoFill.is (record {
  acts = λ l h stands. quiet-effect [] (behind_break (c.args.breaks && true) events) (kept c.args.lasting.now c.args.meaning.now) (kept c.args.lasting.now done.new.meaning) c.args.unread.now done.result
      refl done.ensures.says (done.ensures.kept ∙ by_table c.args.breaks events);
})

pub returns-in-NoAdjust : goal.returns-in-NoAdjust
returns-in-NoAdjust c = let done = c.set_always-in-NoAdjust in let events : List PageEvent = Text (Set (Adjusting false)) ∷ [] in rw c.in-NoAdjust.is (record {
  acts = λ l h stands. quiet-effect [] (behind_break (c.args.breaks && false) events) (kept c.args.lasting.now c.args.meaning.now) (kept c.args.lasting.now done.new.meaning) c.args.unread.now done.result
      refl done.ensures.says (done.ensures.kept ∙ unbroken c.args.breaks events);
})

pub returns-in-Indent : goal.returns-in-Indent
returns-in-Indent c = rw c.in-Indent.is (c.set_indent.ensures c.args.lasting.now)
