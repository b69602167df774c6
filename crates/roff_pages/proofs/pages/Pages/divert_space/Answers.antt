use Rattle.std.proofs.Common.{◌≡◌, List, length, replicate, ap, ◌∙◌, subst, sym}
use Rattle.std.proofs.lemmas.List.{length-replicate}
use Rattle.page_model.specs.Layout.{Box, Empty, Layout}
use Rattle.page_model.specs.declared.layout_event.LayoutEvent.TheVariants.{Space}
use Rattle.page_model.specs.Happenings.{Happening, Does}
use Rattle.page_model.specs.Turning.{greatest_width}
use Rattle.page_model.specs.Queries.{text_target}
use Rattle.page_model.specs.Puts.{within_stop}
use Rattle.roff_pages.specs.Pages.Counted.{counted}
use Rattle.roff_pages.specs.Pages.Kept.{Kept}
use Rattle.roff_pages.specs.Pages.Stands.{StandsAs}
use Rattle.roff_pages.proofs.Diverting.{PutsDiverted, greatest_width-blank, is_open, space_diverted, springs_diverted, with_diverted_put}
use Rattle.roff_pages.proofs.pages.Pages.divert_space.Goals as goal

pub returns-clause-happens : goal.returns-clause-happens
returns-clause-happens c =
    let k : Kept = c.args.self.now in
    let x : Happening = Does (Space c.args.lines) in
    let boxes : List Box = replicate c.up_to_trap-count.result Empty in
    let long : counted c.up_to_trap-count.result ≡ counted (length boxes) = ap counted (sym (length-replicate {A = Box} c.up_to_trap-count.result Empty)) in
    let wide : counted 0 ≡ counted (greatest_width boxes) = ap counted (sym (greatest_width-blank c.up_to_trap-count.result)) in
    let put : (L : Layout) → StandsAs L k → PutsDiverted x L boxes = λ L s. space_diverted c.args.lines L c.up_to_trap-count.result (is_open L k s c.requires) (sym (c.is_spaceless.ensures L s) ∙ c.if-is_spaceless.false) (c.up_to_trap-count.ensures (text_target L).place (text_target L).stop (c.way_to_trap.ensures L s) ∙ ap (within_stop (text_target L).place (text_target L).stop) c.from.ensures) in
    record {
      stands = λ L s. subst (λ (M : Layout). StandsAs M c.put_diverted.new.self) (sym (with_diverted_put x L boxes (put L s)))
          (c.put_diverted.ensures.stands L boxes s long wide);
      limits = c.put_diverted.ensures.limits;
      written = c.put_diverted.ensures.written;
    }

pub returns-clause-springs : goal.returns-clause-springs
returns-clause-springs c L s =
    let k : Kept = c.args.self.now in
    let x : Happening = Does (Space c.args.lines) in
    let boxes : List Box = replicate c.up_to_trap-count.result Empty in
    let long : counted c.up_to_trap-count.result ≡ counted (length boxes) = ap counted (sym (length-replicate {A = Box} c.up_to_trap-count.result Empty)) in
    let wide : counted 0 ≡ counted (greatest_width boxes) = ap counted (sym (greatest_width-blank c.up_to_trap-count.result)) in
    c.put_diverted.ensures.springs L boxes s long wide ∙ sym (springs_diverted x L boxes (space_diverted c.args.lines L c.up_to_trap-count.result (is_open L k s c.requires) (sym (c.is_spaceless.ensures L s) ∙ c.if-is_spaceless.false) (c.up_to_trap-count.ensures (text_target L).place (text_target L).stop (c.way_to_trap.ensures L s) ∙ ap (within_stop (text_target L).place (text_target L).stop) c.from.ensures)))
