use Rattle.std.proofs.Common.{◌≡◌, List, length, ap, ◌∙◌, subst, sym}
use Rattle.page_model.specs.Titles.{title_text}
use Rattle.page_bytes.specs.TitleLeft.{title_of}
use Rattle.page_model.specs.Layout.{Box, Layout}
use Rattle.page_model.specs.Happenings.{Happening, Titles}
use Rattle.page_model.specs.Turning.{greatest_width}
use Rattle.roff_pages.specs.Pages.Counted.{counted}
use Rattle.roff_pages.specs.Pages.Kept.{Kept}
use Rattle.roff_pages.specs.Pages.Stands.{StandsAs}
use Rattle.roff_pages.proofs.Placing.{length-text_boxes, text_boxes}
use Rattle.roff_pages.proofs.Diverting.{PutsDiverted, greatest_width-text, is_open, title_diverted, springs_diverted, with_diverted_put}
use Rattle.roff_pages.proofs.pages.Pages.divert_title.Goals as goal

pub returns-clause-happens : goal.returns-clause-happens
returns-clause-happens c =
    let k : Kept = c.args.self.now in
    let x : Happening = Titles (title_of c.args.title) in
    let boxes : List Box = text_boxes 0 (title_text (title_of c.args.title)) in
    let long : counted 1 ≡ counted (length boxes) = ap counted (sym (length-text_boxes 0 (title_text (title_of c.args.title)))) in
    let wide : counted c.width_of_title-width.result ≡ counted (greatest_width boxes) = ap counted (c.width_of_title-width.ensures ∙ sym (greatest_width-text 0 (title_text (title_of c.args.title)))) in
    let put : (L : Layout) → StandsAs L k → PutsDiverted x L boxes = λ L s. title_diverted (title_of c.args.title) L (is_open L k s c.requires.open) in
    record {
      stands = λ L s. subst (λ (M : Layout). StandsAs M c.put_diverted.new.self) (sym (with_diverted_put x L boxes (put L s)))
          (c.put_diverted.ensures.stands L boxes s long wide);
      limits = c.put_diverted.ensures.limits;
      written = c.put_diverted.ensures.written;
    }

pub returns-clause-springs : goal.returns-clause-springs
returns-clause-springs c L s =
    let k : Kept = c.args.self.now in
    let x : Happening = Titles (title_of c.args.title) in
    let boxes : List Box = text_boxes 0 (title_text (title_of c.args.title)) in
    let long : counted 1 ≡ counted (length boxes) = ap counted (sym (length-text_boxes 0 (title_text (title_of c.args.title)))) in
    let wide : counted c.width_of_title-width.result ≡ counted (greatest_width boxes) = ap counted (c.width_of_title-width.ensures ∙ sym (greatest_width-text 0 (title_text (title_of c.args.title)))) in
    c.put_diverted.ensures.springs L boxes s long wide ∙ sym (springs_diverted x L boxes (title_diverted (title_of c.args.title) L (is_open L k s c.requires.open)))
