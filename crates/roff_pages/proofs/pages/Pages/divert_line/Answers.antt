use Rattle.std.proofs.Common.{◌≡◌, List, length, ap, ◌∙◌, arith, subst, sym}
use Rattle.page_model.specs.Columns.{finished_of, printed}
use Rattle.page_model.specs.Layout.{Box, Layout}
use Rattle.page_model.specs.Happenings.{Happening, Places}
use Rattle.page_model.specs.Turning.{greatest_width}
use Rattle.page_model.specs.Queries.{text_target}
use Rattle.roff_pages.specs.Pages.Counted.{counted}
use Rattle.roff_pages.specs.Pages.Kept.{Kept}
use Rattle.roff_pages.specs.Pages.Stands.{StandsAs}
use Rattle.roff_pages.proofs.Placing.{length-text_boxes, text_boxes}
use Rattle.roff_pages.proofs.Diverting.{PutsDiverted, greatest_width-text, is_open, line_diverted, springs_diverted, with_diverted_put}
use Rattle.roff_pages.proofs.pages.Pages.divert_line.Goals as goal

pub returns-clause-happens : goal.returns-clause-happens
returns-clause-happens c =
    let k : Kept = c.args.self.now in
    let x : Happening = Places (finished_of c.args.line) in
    let boxes : List Box = text_boxes c.behind_text-after.result (printed (finished_of c.args.line)) in
    let long : counted c.saturating_add.result ≡ counted (length boxes) = omega (arith, c.saturating_add.ensures, length-text_boxes c.behind_text-after.result (printed (finished_of c.args.line))) in
    let wide : counted c.width_of_line-width.result ≡ counted (greatest_width boxes) = c.width_of_line-width.ensures ∙ ap counted (sym (greatest_width-text c.behind_text-after.result (printed (finished_of c.args.line)))) in
    let put : (L : Layout) → StandsAs L k → PutsDiverted x L boxes = λ L s. line_diverted (finished_of c.args.line) L c.behind_text-after.result (is_open L k s c.requires) (c.behind_text-after.ensures (text_target L).place (text_target L).stop (c.way_to_trap.ensures L s)) in
    record {
      stands = λ L s. subst (λ (M : Layout). StandsAs M c.put_diverted.new.self) (sym (with_diverted_put x L boxes (put L s)))
          (c.put_diverted.ensures.stands L boxes s long wide);
      limits = c.put_diverted.ensures.limits;
      written = c.put_diverted.ensures.written;
    }

pub returns-clause-springs : goal.returns-clause-springs
returns-clause-springs c L s =
    let k : Kept = c.args.self.now in
    let x : Happening = Places (finished_of c.args.line) in
    let boxes : List Box = text_boxes c.behind_text-after.result (printed (finished_of c.args.line)) in
    let long : counted c.saturating_add.result ≡ counted (length boxes) = omega (arith, c.saturating_add.ensures, length-text_boxes c.behind_text-after.result (printed (finished_of c.args.line))) in
    let wide : counted c.width_of_line-width.result ≡ counted (greatest_width boxes) = c.width_of_line-width.ensures ∙ ap counted (sym (greatest_width-text c.behind_text-after.result (printed (finished_of c.args.line)))) in
    c.put_diverted.ensures.springs L boxes s long wide ∙ sym (springs_diverted x L boxes (line_diverted (finished_of c.args.line) L c.behind_text-after.result (is_open L k s c.requires) (c.behind_text-after.ensures (text_target L).place (text_target L).stop (c.way_to_trap.ensures L s))))
