use Rattle.std.proofs.Common.{◌≡◌, ◌∙◌, ℕ, false, List, Ok, ap, refl}
use Rattle.page_model.specs.Columns.{device_line}
use Rattle.page_model.specs.Layout.{Box}
use Rattle.page_model.specs.Happenings.{Happening, Titles}
use Rattle.page_model.specs.Titles.{title_text}
use Rattle.page_bytes.specs.TitleLeft.{title_of}
use Rattle.page_model.specs.DeviceText.{device_lines}
use Rattle.roff_pages.specs.Pages.Kept.{Kept}
use Rattle.roff_pages.proofs.PageBoxes.{SameLimits-behind, boxed, did_boxes}
use Rattle.roff_pages.proofs.Placing.{length-text_boxes, text_boxes, title_puts}
use Rattle.roff_pages.proofs.pages.Pages.title.Goals as goal

pub returns-in-Ok-clause-happens : goal.returns-in-Ok-clause-happens
returns-in-Ok-clause-happens g c =
    let k : Kept = c.args.self.now in
    let x : Happening = Titles (title_of c.args.title) in
    let boxes : List Box = text_boxes 0 (title_text (title_of c.args.title)) in
    let text : List ℕ = device_line k.offset (title_text (title_of c.args.title)) in
    let same : text ≡ device_lines k.offset boxes = refl in
    let mid : Kept = c.write_title.new.self in
    let kept : c.self.inside.next ≡ mid.next = ap (λ (k : Kept). k.next) c.self.view_is in
    let next : c.self.inside.next ≡ k.next = kept ∙ ap (λ (k : Kept). k.next) c.write_title.ensures.kept in
    let put = c.put_lines in
    let out = g.O.ByteSink.sunk c.args.out.now in
    let out_then = g.O.ByteSink.sunk c.write_title.new.out in
    record {
      did = λ L s. did_boxes x L boxes c.self.inside.next false k put.new.self out out_then (Ok put.result)
          (title_puts (title_of c.args.title) L k c.self.inside.next s c.requires.page next)
          (boxed L k mid put.new.self boxes 1 c.self.inside.next false put.result text out out_then s c.write_title.ensures.kept (length-text_boxes 0 (title_text (title_of c.args.title))) same
          put.ensures.stands put.ensures.springs put.ensures.written c.in-Ok.ensures.ok);
      limits = SameLimits-behind k mid put.new.self mid.written c.write_title.ensures.kept put.ensures.limits;
    }
