use Rattle.std.proofs.Common.{◌∙◌, List, [], ◌∷◌, Ok, ap, refl, subst, ℕ, pos, take}
use Rattle.std.specs.Option.{option_to_list}
use Rattle.read_registers.specs.declared.lasting.Change.TheVariants.{SetTo}
use Rattle.read_requests.specs.declared.requests.effects.Changes.TheVariants.{One}
use Rattle.run_model.specs.Registers.{page_name}
use Rattle.run_model.specs.Requests.{Effect}
use Rattle.run_model.specs.Requests.Effects.{behind_break, meant_by}
use Rattle.run_model.specs.Requests.Numbering.{set_to}
use Rattle.run_model.specs.Requests.Tabs.{most_stops, stop_places, tab_stops}
use Rattle.read_requests.proofs.TabStops.{stops_meant}
use Rattle.read_obeying.specs.Acting.{CameToEffect, kept, texts_read}
use Rattle.read_obeying.proofs.Effects.{changed-effect, quiet-effect}
use Rattle.read_obeying.proofs.acting.respond.Goals as goal

pub returns-in-Ignored : goal.returns-in-Ignored
returns-in-Ignored c = rw c.in-Ignored.is
    (quiet-effect (option_to_list c.in-Ignored.message) [] (kept c.args.lasting.now c.args.meaning.now) (kept c.args.lasting.now c.say.new.meaning) c.args.unread.now c.say.result refl c.say.ensures.says c.say.ensures.none)

pub returns-in-Nothing : goal.returns-in-Nothing
returns-in-Nothing c = let done = c.broken in rw c.in-Nothing.is
    (quiet-effect [] (behind_break c.args.breaks []) (kept c.args.lasting.now c.args.meaning.now) (kept c.args.lasting.now c.args.meaning.now) c.args.unread.now done.result refl (done.ensures.says _) (done.ensures.means _))

pub returns-in-Happens : goal.returns-in-Happens
returns-in-Happens c = let done = c.happen in rw c.in-Happens.is
    (quiet-effect [] (behind_break c.args.breaks (c.in-Happens.event ∷ [])) (kept c.args.lasting.now c.args.meaning.now) (kept c.args.lasting.now done.new.meaning) c.args.unread.now done.result refl done.ensures.says done.ensures.kept)

pub returns-in-Says : goal.returns-in-Says
returns-in-Says c = let done = c.keep in rw c.in-Says.is
    (quiet-effect (c.in-Says.message ∷ []) (behind_break c.args.breaks (c.in-Says.event ∷ [])) (kept c.args.lasting.now c.args.meaning.now) (kept c.args.lasting.now done.new.meaning) c.args.unread.now done.result refl done.ensures.says done.ensures.kept)

pub returns-in-Two : goal.returns-in-Two
returns-in-Two c = let done = c.keep-in-Two in rw c.in-Two.is
    (quiet-effect [] (behind_break c.args.breaks (c.in-Two.first ∷ c.in-Two.second ∷ [])) (kept c.args.lasting.now c.args.meaning.now) (kept c.args.lasting.now done.new.meaning) c.args.unread.now done.result refl done.ensures.says done.ensures.kept)

pub returns-in-Around : goal.returns-in-Around
returns-in-Around c = let done = c.keep-in-Around in rw c.in-Around.is
    (quiet-effect [] (c.in-Around.before ∷ behind_break c.args.breaks (c.in-Around.behind ∷ [])) (kept c.args.lasting.now c.args.meaning.now) (kept c.args.lasting.now done.new.meaning) c.args.unread.now done.result refl done.ensures.says done.ensures.kept)

pub returns-in-SetsStops : goal.returns-in-SetsStops
returns-in-SetsStops c =
    let done = c.keep_stops in
    let u = c.args.unread.now in
    let effect : List (List ℕ) → Effect = λ texts. meant_by c.args.breaks (tab_stops texts) in
    let e : Effect = effect (texts_read u) in
    rw c.in-SetsStops.is
    (subst (λ (e : Effect). CameToEffect e (kept c.args.lasting.now c.args.meaning.now) (kept c.args.lasting.now done.new.meaning) u u done.result) (stops_meant c.args.breaks (stop_places (pos 0) (take most_stops (texts_read u))))
    (quiet-effect e.messages e.events (kept c.args.lasting.now c.args.meaning.now) (kept c.args.lasting.now done.new.meaning) u done.result refl
    (done.ensures.says ∙ ap (λ (texts : List (List ℕ)). (effect texts).messages) c.arguments.ensures)
    (done.ensures.kept ∙ ap (λ (texts : List (List ℕ)). (effect texts).events) c.arguments.ensures)))

pub returns-in_ok-set_numbers-in-Numbers : goal.returns-in_ok-set_numbers-in-Numbers
returns-in_ok-set_numbers-in-Numbers c =
    let value = c.in-Numbers.value in
    let increment = c.in-Numbers.increment in
    let done = c.happen-in-Numbers in
    let u = c.args.unread.now in
    let changed = rw c.page_name.ensures at c.in_ok-set_numbers-in-Numbers.ensures.changed in
    rw c.in-Numbers.is
    (changed-effect (One (SetTo page_name value increment)) (meant_by c.args.breaks (set_to page_name (Ok value.0) (Ok increment.0))) (kept c.args.lasting.now c.args.meaning.now) (kept c.set_numbers.new.lasting c.args.meaning.now) (kept c.set_numbers.new.lasting done.new.meaning) u u done.result refl refl
    changed refl refl done.ensures.says done.ensures.kept)
