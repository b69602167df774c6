use Rattle.std.proofs.Common.{◌≡◌, ◌≤◌, ◌∙◌, arith, refl, rules, sym}
use Rattle.page_model.specs.Happenings.{Does}
use Rattle.page_model.specs.declared.layout_event.LayoutEvent.TheVariants.{Need}
use Rattle.run_state.specs.declared.due_text.DueText.TheVariants.{BlankLines}
use Rattle.run_events.proofs.Diverting.{needed_count, open_in, put_blank, put_nothing, untold_within}
use Rattle.run_events.proofs.formatter.diverting.divert_need.Goals as goal

pub returns-then-count-eq0 : goal.returns-then-count-eq0
returns-then-count-eq0 c = λ told.
    let none : c.blank_needed-count.result ≡ 0 = search rules in
    put_nothing (Does (Need c.args.lines)) _ _ _ _ _ told c.divert_need-name.result c.done_on.result c.divert_need-name.ensures.happens c.divert_need-name.ensures.springs
    (λ L stands. open_in L _ stands c.requires)
    (λ L stands. untold_within (Does (Need c.args.lines)) L (needed_count c.args.lines L ∙ sym (c.blank_needed-count.ensures L stands) ∙ none) (open_in L _ stands c.requires) refl)
    c.done_on.ensures.halts c.done_on.ensures.noted c.done_on.ensures.stops

pub returns : goal.returns
returns c = λ told.
    let some : 1 ≤ c.blank_needed-count.result = search rules in
    put_blank (Need c.args.lines) _ _ _ (record { text = BlankLines c.blank_needed-count.result; sprung = c.divert_need-name.result }) told c.blank_needed-count.result _
    (record {
      happens = c.divert_need-name.ensures.happens;
      kind = refl;
      diverted = λ L stands. open_in L _ stands c.requires;
      some = λ L stands. omega (arith, some, needed_count c.args.lines L, c.blank_needed-count.ensures L stands);
      springs = c.divert_need-name.ensures.springs;
      told = λ L stands. refl;
      quiet = refl;
      is = rw c.diverting.ensures refl;
    }) (λ L stands. needed_count c.args.lines L ∙ sym (c.blank_needed-count.ensures L stands))
