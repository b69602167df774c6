use Rattle.std.proofs.Common.{◌≡◌, List, length, replicate, ap, ◌∙◌, subst, sym}
use Rattle.std.proofs.lemmas.List.{length-replicate}
use Rattle.page_model.specs.Layout.{Box, Empty, Layout}
use Rattle.page_model.specs.declared.layout_event.LayoutEvent.TheVariants.{Need}
use Rattle.page_model.specs.Happenings.{Happening, Does}
use Rattle.page_model.specs.Turning.{greatest_width}
use Rattle.page_model.specs.Queries.{text_target}
use Rattle.roff_pages.specs.Pages.Counted.{counted}
use Rattle.roff_pages.specs.Pages.Kept.{Kept}
use Rattle.roff_pages.specs.Pages.Stands.{StandsAs}
use Rattle.roff_pages.proofs.Diverting.{PutsDiverted, greatest_width-blank, is_open, need_diverted, springs_diverted, with_diverted_put}
use Rattle.roff_pages.proofs.pages.Pages.divert_need.Goals as goal

pub returns-clause-happens : goal.returns-clause-happens
returns-clause-happens c =
    let k : Kept = c.args.self.now in
    let x : Happening = Does (Need c.args.lines) in
    let boxes : List Box = replicate c.needed_up_to-count.result Empty in
    let long : counted c.needed_up_to-count.result ≡ counted (length boxes) = ap counted (sym (length-replicate {A = Box} c.needed_up_to-count.result Empty)) in
    let wide : counted 0 ≡ counted (greatest_width boxes) = ap counted (sym (greatest_width-blank c.needed_up_to-count.result)) in
    let put : (L : Layout) → StandsAs L k → PutsDiverted x L boxes = λ L s. need_diverted c.args.lines L c.needed_up_to-count.result (is_open L k s c.requires) (c.needed_up_to-count.ensures (text_target L).place (text_target L).stop (c.way_to_trap.ensures L s)) in
    record {
      stands = λ L s. subst (λ (M : Layout). StandsAs M c.put_diverted.new.self) (sym (with_diverted_put x L boxes (put L s)))
          (c.put_diverted.ensures.stands L boxes s long wide);
      limits = c.put_diverted.ensures.limits;
      written = c.put_diverted.ensures.written;
    }

pub returns-clause-springs : goal.returns-clause-springs
returns-clause-springs c L s =
    let k : Kept = c.args.self.now in
    let x : Happening = Does (Need c.args.lines) in
    let boxes : List Box = replicate c.needed_up_to-count.result Empty in
    let long : counted c.needed_up_to-count.result ≡ counted (length boxes) = ap counted (sym (length-replicate {A = Box} c.needed_up_to-count.result Empty)) in
    let wide : counted 0 ≡ counted (greatest_width boxes) = ap counted (sym (greatest_width-blank c.needed_up_to-count.result)) in
    c.put_diverted.ensures.springs L boxes s long wide ∙ sym (springs_diverted x L boxes (need_diverted c.args.lines L c.needed_up_to-count.result (is_open L k s c.requires) (c.needed_up_to-count.ensures (text_target L).place (text_target L).stop (c.way_to_trap.ensures L s))))
