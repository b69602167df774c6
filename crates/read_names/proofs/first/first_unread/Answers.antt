use Rattle.std.proofs.Common.{◌≡◌, ◌∙◌, Some, None, Result, ap, arith, length, rules, sym, slice_get}
use Rattle.std.proofs.lemmas.Option.{slice_get-get_or}
use Rattle.roff_num.specs.declared.limit.Limit.{Limit}
use Rattle.run_model.specs.Reading.Items.{PageUnread}
use Rattle.run_model.specs.Requests.{requests, row_of}
use Rattle.run_model.specs.declared.request.Request.TheVariants.{Break}
use Rattle.read_names.proofs.FirstNames.{names_next, unread_at}
use Rattle.read_names.proofs.first.first_unread.Goals as goal
use Rattle.read_names.proofs.first.first_unread.Goals.{in-Some, in_default}

pub loop-number-init : goal.loop-number-init
loop-number-init c = search rules

pub loop-number-preserved : goal.loop-number-preserved
loop-number-preserved c = elim c.match-numbered.branch [
  | in-Some w ↦
      let number = c.loop-number.number in
      let request = w.in-Some.request in
      let numbered : slice_get requests number ≡ Some request = sym c.numbered.ensures ∙ w.in-Some.is in
      let name : w.unwrap-name.result ≡ (row_of request).name = search rules in
      let changed = rw (c.loop-number.invariant, name) at w.set.ensures.change in
      w.unread-is ∙ ap (λ (answer : Result (Unit {0}) Limit × PageUnread). answer.1) (changed ∙ names_next c.args.limits number request numbered)
  | in_default w ↦
      let some = slice_get-get_or requests c.loop-number.number Break c.loop-number-test.true in
      let none : slice_get requests c.loop-number.number ≡ None = sym c.numbered.ensures ∙ w.in_default.is in
      let differs = sym none ∙ some in cc
]

pub returns : goal.returns
returns c =
    let all : c.loop-number.number ≡ length requests = omega (arith, c.loop-number-test.false, c.loop-number.auto.number-end) in
    c.loop-number.invariant ∙ ap (unread_at c.args.limits) all
