use Rattle.std.proofs.Common.{◌≡◌, ◌≤◌, ◌∙◌, arith, refl, rules, sym}
use Rattle.page_model.specs.Happenings.{Does}
use Rattle.page_model.specs.declared.layout_event.LayoutEvent.TheVariants.{Space}
use Rattle.run_state.specs.declared.due_text.DueText.TheVariants.{BlankLines}
use Rattle.roff_pages.proofs.Diverting.{is_open}
use Rattle.run_events.proofs.Diverting.{spaced_count, open_in, put_blank, put_nothing, untold_within}
use Rattle.run_events.proofs.formatter.diverting.divert_space.Goals as goal

pub returns-then-count-eq0 : goal.returns-then-count-eq0
returns-then-count-eq0 c = λ told.
    let none : c.blank_spaced-count.result ≡ 0 = search rules in
    put_nothing (Does (Space c.args.lines)) _ _ _ _ _ told c.divert_space-name.result c.done_on.result c.divert_space-name.ensures.happens c.divert_space-name.ensures.springs
    (λ L stands. open_in L _ stands c.requires)
    (λ L stands. untold_within (Does (Space c.args.lines)) L (spaced_count c.args.lines L (is_open L _ stands c.requires) ∙ sym (c.blank_spaced-count.ensures L stands) ∙ none) (open_in L _ stands c.requires) refl)
    c.done_on.ensures.halts c.done_on.ensures.noted c.done_on.ensures.stops

pub returns : goal.returns
returns c = λ told.
    let some : 1 ≤ c.blank_spaced-count.result = search rules in
    put_blank (Space c.args.lines) _ _ _ (record { text = BlankLines c.blank_spaced-count.result; sprung = c.divert_space-name.result }) told c.blank_spaced-count.result _
    (record {
      happens = c.divert_space-name.ensures.happens;
      kind = refl;
      diverted = λ L stands. open_in L _ stands c.requires;
      some = λ L stands. omega (arith, some, spaced_count c.args.lines L (is_open L _ stands c.requires), c.blank_spaced-count.ensures L stands);
      springs = c.divert_space-name.ensures.springs;
      told = λ L stands. refl;
      quiet = refl;
      is = rw c.diverting.ensures refl;
    }) (λ L stands. spaced_count c.args.lines L (is_open L _ stands c.requires) ∙ sym (c.blank_spaced-count.ensures L stands))
