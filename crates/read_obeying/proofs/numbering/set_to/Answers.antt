use Rattle.std.proofs.Common.{[], ◌∷◌, refl}
use Rattle.read_registers.specs.declared.lasting.Change.TheVariants.{SetTo}
use Rattle.read_requests.specs.declared.requests.effects.Changes.TheVariants.{One}
use Rattle.run_model.specs.declared.message.Message.TheVariants.{BadNumber}
use Rattle.read_obeying.specs.Acting.{kept}
use Rattle.read_obeying.proofs.Effects.{changed-effect, quiet-effect}
use Rattle.read_obeying.proofs.numbering.set_to.Goals as goal

pub returns-in-None : goal.returns-in-None
returns-in-None c = λ u. rw c.in-None.is
    (quiet-effect (BadNumber ∷ []) [] (kept c.args.lasting.now c.args.meaning.now) (kept c.args.lasting.now c.report.new.meaning) u c.report.result refl c.report.ensures.says c.report.ensures.none)

pub returns-in_ok-set_numbers-in-Some : goal.returns-in_ok-set_numbers-in-Some
returns-in_ok-set_numbers-in-Some c = λ u.
    let numbers = c.in-Some.numbers in
    let done = c.number_page_by in
    rw c.in-Some.is
    (changed-effect (One (SetTo c.args.name.now numbers.value numbers.increment)) _ (kept c.args.lasting.now c.args.meaning.now) (kept c.set_numbers.new.lasting c.args.meaning.now) (kept c.set_numbers.new.lasting done.new.meaning) u u done.result refl refl
    c.in_ok-set_numbers-in-Some.ensures.changed refl refl done.ensures.says done.ensures.numbers)
