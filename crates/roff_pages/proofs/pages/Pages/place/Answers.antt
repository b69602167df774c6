use Rattle.std.proofs.Common.{◌≡◌, ◌+◌, ◌<◌, ◌≤◌, ◌++◌, ◌∙◌, ℕ, true, false, List, None, Ok, Err, ap, arith, length, refl, replicate, subst, sym, ◌^◌}
use Rattle.page_model.specs.Columns.{device_line, finished_of, printed}
use Rattle.page_model.specs.Lines.{Finished}
use Rattle.page_bytes.specs.declared.page_fault.PageFault.TheVariants.{Sink}
use Rattle.page_bytes.specs.Sinks.{Fails, Writes}
use Rattle.page_model.specs.Layout.{Box, Lined}
use Rattle.page_model.specs.Happenings.{Places}
use Rattle.page_model.specs.Stops.{next_stop}
use Rattle.page_model.specs.DeviceText.{device_lines}
use Rattle.roff_pages.specs.Pages.Kept.{Kept}
use Rattle.roff_pages.specs.Pages.Printing.{DidTo}
use Rattle.roff_pages.proofs.NextStop.{next_stop-stays, next_stop_le}
use Rattle.roff_pages.proofs.PageBoxes.{boxed, device_lines-behind, did_boxes}
use Rattle.roff_pages.proofs.Placing.{cut_freely, length-text_boxes, line_puts, line_text, placed_freely, printed_nowhere, text_boxes}
use Rattle.roff_pages.proofs.pages.Pages.place.Goals as goal

pub invariant_of-self : goal.invariant_of-self
invariant_of-self g c =
    let a = c.self.inside in
    let inv = c.self.invariant in
    let lines : ℕ = c.args.line.after + 1 in
    let before : a.place + lines < next_stop a.length a.place a.traps.items = omega (arith, inv.free, inv.stop, c.if-line-self.true) in
    let last = next_stop_le a.length a.place a.traps.items in
    let few : c.put_at_once-count.result ≤ 8192 = c.put_at_once-count.ensures.within in
    record {
      begun = inv.begun;
      short = inv.short;
      place = omega (arith, before, last, inv.short);
      stop = inv.stop ∙ sym (next_stop-stays a.length a.place (a.place + lines) a.traps.items (omega arith) before);
      known = inv.known;
      traps = inv.traps;
      traps_room = inv.traps_room;
      stops_room = inv.stops_room;
      outer = inv.outer;
      outer_room = inv.outer_room;
      free = omega (arith, inv.free, c.if-line-self.true);
      room = omega (arith, inv.room, few, c.if-line-self.true);
      listed = λ some. inv.listed (omega (arith, c.if-line-self.true));
      mode = λ some. inv.mode (omega (arith, c.if-line-self.true));
      none_open = inv.none_open;
    }

pub returns-then-count-gt0-clause-happens : goal.returns-then-count-gt0-clause-happens
returns-then-count-gt0-clause-happens g c =
    let k : Kept = c.args.self.now in
    let a = c.self.inside in
    let inv = c.self.invariant in
    let line : Finished = finished_of c.args.line in
    let n : ℕ = c.put_at_once-count.result in
    let out = g.O.ByteSink.sunk c.args.out.now in
    let out_then = g.O.ByteSink.sunk c.put_at_once-count.new.out in
    let some : 0 < a.free = omega (arith, c.if-line-self.true) in
    let few : n ≤ 8192 = c.put_at_once-count.ensures.within in
    let short : k.length < 2 ^ 32 = subst (λ (k : Kept). k.length < 2 ^ 32) c.self.view_is inv.short in
    let ahead : k.place + (line.after + 1) < next_stop k.length k.place k.traps =
    subst (λ (k : Kept). k.place + (line.after + 1) < next_stop k.length k.place k.traps) c.self.view_is (omega (arith, inv.free, inv.stop, c.if-line-self.true)) in
    let listed : k.is_listed ≡ true = subst (λ (k : Kept). k.is_listed ≡ true) c.self.view_is (inv.listed some) in
    let mode : k.no_space ≡ false = subst (λ (k : Kept). k.no_space ≡ false) c.self.view_is (inv.mode some) in
    let same : device_line c.from-columns.result (printed line) ++ replicate line.after 10 ≡ line_text k line =
    ap (λ (columns : ℕ). device_line columns (printed line) ++ replicate line.after 10) (c.from-columns.ensures ∙ ap (λ (k : Kept). k.offset) c.self.view_is) in
    let whole : n ≡ length (line_text k line) = c.put_at_once-count.ensures.counted c.if-count-gt0.true ∙ ap length same in
    let within : k.written + n ≤ k.output = subst (λ (k : Kept). k.written + n ≤ k.output) c.self.view_is (omega (arith, inv.room, some, few)) in
    let writes : Writes out out_then (line_text k line) =
    subst (λ (bytes : List ℕ). Writes out out_then bytes) same (c.put_at_once-count.ensures.writes c.if-count-gt0.true) in
    record {
      did = λ L s. subst (λ (now : Kept). DidTo L (Places line) (Ok None) k (record now { place = now.place + (line.after + 1); written = now.written + n }) out out_then)
          (sym c.self.view_is) (placed_freely line L k n out out_then s short c.requires ahead listed mode whole within writes);
      limits = record {
        traps = ap (λ (k : Kept). k.most_traps) c.self.view_is;
        diversions = ap (λ (k : Kept). k.most_diversions) c.self.view_is;
        output = ap (λ (k : Kept). k.output) c.self.view_is;
      };
    }

pub returns-then-not-is_empty-clause-happens : goal.returns-then-not-is_empty-clause-happens
returns-then-not-is_empty-clause-happens g c =
    let k : Kept = c.args.self.now in
    let a = c.self.inside in
    let inv = c.self.invariant in
    let line : Finished = finished_of c.args.line in
    let out = g.O.ByteSink.sunk c.args.out.now in
    let out_then = g.O.ByteSink.sunk c.put_at_once-count.new.out in
    let bytes : List ℕ = c.put_at_once-count.new.self in
    let put : 0 < length bytes = c.is_empty.ensures.some c.if-not-is_empty.true in
    let some : 0 < a.free = omega (arith, c.if-line-self.true) in
    let short : k.length < 2 ^ 32 = subst (λ (k : Kept). k.length < 2 ^ 32) c.self.view_is inv.short in
    let ahead : k.place + (line.after + 1) < next_stop k.length k.place k.traps =
    subst (λ (k : Kept). k.place + (line.after + 1) < next_stop k.length k.place k.traps) c.self.view_is (omega (arith, inv.free, inv.stop, c.if-line-self.true)) in
    let listed : k.is_listed ≡ true = subst (λ (k : Kept). k.is_listed ≡ true) c.self.view_is (inv.listed some) in
    let same : device_line c.from-columns.result (printed line) ++ replicate line.after 10 ≡ line_text k line =
    ap (λ (columns : ℕ). device_line columns (printed line) ++ replicate line.after 10) (c.from-columns.ensures ∙ ap (λ (k : Kept). k.offset) c.self.view_is) in
    let few : length (line_text k line) ≤ 8192 = omega (arith, c.put_at_once-count.ensures.few, ap length (c.put_at_once-count.ensures.held put ∙ same)) in
    let within : k.written + length (line_text k line) ≤ k.output =
    subst (λ (now : Kept). now.written + length (line_text k line) ≤ now.output) c.self.view_is (omega (arith, inv.room, some, few)) in
    let fails : Fails out out_then (line_text k line) =
    subst (λ (bytes : List ℕ). Fails out out_then bytes) same (c.put_at_once-count.ensures.fails (omega (arith, c.if-count-gt0.false)) put) in
    record {
      did = λ L s. subst (λ (now : Kept). DidTo L (Places line) (Err Sink) k now out out_then)
          (sym c.self.view_is) (cut_freely line L k out out_then s short c.requires ahead listed within fails);
      limits = record {
        traps = ap (λ (k : Kept). k.most_traps) c.self.view_is;
        diversions = ap (λ (k : Kept). k.most_diversions) c.self.view_is;
        output = ap (λ (k : Kept). k.output) c.self.view_is;
      };
    }

pub returns-then-not-self-clause-happens : goal.returns-then-not-self-clause-happens
returns-then-not-self-clause-happens g c =
    let k : Kept = c.args.self.now in
    let line : Finished = finished_of c.args.line in
    let after : ℕ = c.min-lines.result in
    let boxes : List Box = text_boxes after (printed line) in
    let text : List ℕ = device_line k.offset (printed line) ++ replicate after 10 in
    let same : text ≡ device_lines k.offset boxes = sym (device_lines-behind k.offset after (Lined (printed line))) in
    let put = c.put_lines in
    let out = g.O.ByteSink.sunk c.args.out.now in
    let unlisted : k.is_listed ≡ false = subst (λ (k : Kept). k.is_listed ≡ false) c.self.view_is c.if-not-self.true in
    let within : k.written ≤ k.output = subst (λ (k : Kept). k.written ≤ k.output) c.self.view_is (omega (arith, c.self.invariant.room)) in
    record {
      did = λ L s. did_boxes (Places line) L boxes c.self.inside.next false k put.new.self out out (Ok put.result)
          (line_puts line L k after c.self.inside.next s c.way-way.ensures.short c.requires (omega (arith, c.min-lines.ensures, c.saturating_sub.ensures, c.way-way.ensures.way)) (ap (λ (k : Kept). k.next) c.self.view_is))
          (boxed L k k put.new.self boxes (after + 1) c.self.inside.next false put.result text out out s refl (length-text_boxes after (printed line)) same
          put.ensures.stands put.ensures.springs put.ensures.written (printed_nowhere k text out unlisted within));
      limits = put.ensures.limits;
    }
