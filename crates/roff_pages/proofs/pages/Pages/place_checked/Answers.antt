use Rattle.std.proofs.Common.{◌≡◌, ◌∙◌, ◌+◌, ◌++◌, ℕ, false, List, Ok, Err, ap, arith, replicate, subst, sym}
use Rattle.page_model.specs.Columns.{device_line, finished_of, printed}
use Rattle.page_model.specs.Layout.{Box, Lined}
use Rattle.page_model.specs.Happenings.{Happening, Places}
use Rattle.page_model.specs.DeviceText.{device_lines}
use Rattle.roff_pages.specs.Pages.Kept.{Kept}
use Rattle.roff_pages.specs.Pages.Printing.{HappensWriting}
use Rattle.roff_pages.proofs.PageBoxes.{SameLimits-behind, SameLimits-written, boxed, device_lines-behind, did_boxes, unboxed}
use Rattle.roff_pages.proofs.Placing.{length-text_boxes, line_puts, text_boxes}
use Rattle.roff_pages.proofs.pages.Pages.place_checked.Goals as goal

pub returns-in-Ok-clause-happens : goal.returns-in-Ok-clause-happens
returns-in-Ok-clause-happens g c =
    let k : Kept = c.args.self.now in
    let x : Happening = Places (finished_of c.args.line) in
    let boxes : List Box = text_boxes c.min-after.result (printed (finished_of c.args.line)) in
    let text : List ℕ = device_line k.offset (printed (finished_of c.args.line)) ++ replicate c.min-after.result 10 in
    let same : text ≡ device_lines k.offset boxes = sym (device_lines-behind k.offset c.min-after.result (Lined (printed (finished_of c.args.line)))) in
    let mid : Kept = c.write_line.new.self in
    let kept : c.self.inside.next ≡ mid.next = ap (λ (k : Kept). k.next) c.self.view_is in
    let next : c.self.inside.next ≡ k.next = kept ∙ ap (λ (k : Kept). k.next) c.write_line.ensures.kept in
    let put = c.put_lines-sprung in
    let out = g.O.ByteSink.sunk c.args.out.now in
    let out_then = g.O.ByteSink.sunk c.write_line.new.out in
    subst (λ (now : Kept). HappensWriting x k now out out_then (Ok put.result)) (sym c.look_ahead.ensures) (record {
      did = λ L s. did_boxes x L boxes c.self.inside.next false k put.new.self out out_then (Ok put.result)
          (line_puts (finished_of c.args.line) L k c.min-after.result c.self.inside.next s c.way-way.ensures.short c.requires (omega (arith, c.min-after.ensures, c.saturating_sub.ensures, c.way-way.ensures.way)) next)
          (boxed L k mid put.new.self boxes (c.min-after.result + 1) c.self.inside.next false put.result text out out_then s c.write_line.ensures.kept (length-text_boxes c.min-after.result (printed (finished_of c.args.line))) same
          put.ensures.stands put.ensures.springs put.ensures.written c.in-Ok.ensures.ok);
      limits = SameLimits-behind k mid put.new.self mid.written c.write_line.ensures.kept put.ensures.limits;
    })

pub returns-in-Err-clause-happens : goal.returns-in-Err-clause-happens
returns-in-Err-clause-happens g c =
    let k : Kept = c.args.self.now in
    let x : Happening = Places (finished_of c.args.line) in
    let boxes : List Box = text_boxes c.min-after.result (printed (finished_of c.args.line)) in
    let text : List ℕ = device_line k.offset (printed (finished_of c.args.line)) ++ replicate c.min-after.result 10 in
    let same : text ≡ device_lines k.offset boxes = sym (device_lines-behind k.offset c.min-after.result (Lined (printed (finished_of c.args.line)))) in
    let mid : Kept = c.write_line.new.self in
    let next : mid.next ≡ k.next = ap (λ (k : Kept). k.next) c.write_line.ensures.kept in
    let out = g.O.ByteSink.sunk c.args.out.now in
    let out_then = g.O.ByteSink.sunk c.write_line.new.out in
    record {
      did = λ L s. did_boxes x L boxes mid.next false k mid out out_then (Err c.in-Err.fault)
          (line_puts (finished_of c.args.line) L k c.min-after.result mid.next s c.way-way.ensures.short c.requires (omega (arith, c.min-after.ensures, c.saturating_sub.ensures, c.way-way.ensures.way)) next)
          (unboxed L k mid c.in-Err.fault boxes text out out_then s same c.in-Err.ensures.err);
      limits = SameLimits-written k mid mid.written c.write_line.ensures.kept;
    }
