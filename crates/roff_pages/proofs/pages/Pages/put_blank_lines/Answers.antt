use Rattle.std.proofs.Common.{List, replicate, sym}
use Rattle.std.proofs.lemmas.List.{length-replicate}
use Rattle.page_model.specs.Layout.{Box, Empty}
use Rattle.roff_pages.specs.Pages.Kept.{Kept}
use Rattle.roff_pages.proofs.PageBoxes.{boxed, unboxed, device_lines-blank}
use Rattle.roff_pages.proofs.pages.Pages.put_blank_lines.Goals as goal

pub returns-in-Ok-clause-did : goal.returns-in-Ok-clause-did
returns-in-Ok-clause-did g c L s =
    let k : Kept = c.args.self.now in
    let put = c.put_lines in
    let boxes : List Box = replicate c.args.count Empty in
    boxed L k c.write_blank_lines.new.self put.new.self boxes c.args.count c.args.next c.args.no_space put.result (replicate c.args.count 10) _ _ s
    c.write_blank_lines.ensures.kept (length-replicate {A = Box} c.args.count Empty) (sym (device_lines-blank k.offset c.args.count))
    put.ensures.stands put.ensures.springs put.ensures.written c.in-Ok.ensures.ok

pub returns-in-Err-clause-did : goal.returns-in-Err-clause-did
returns-in-Err-clause-did g c L s =
    let k : Kept = c.args.self.now in
    unboxed L k _ _ (replicate c.args.count Empty) (replicate c.args.count 10) _ _ s (sym (device_lines-blank k.offset c.args.count)) c.in-Err.ensures.err
