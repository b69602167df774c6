use Rattle.std.proofs.Common.{refl}
use Rattle.run_turns.proofs.Turns.{front_byte, front_end, front_return, front_ended, front_event, front_failed, front_note, front_refused, front_stopped}
use Rattle.run_turns.proofs.running.Running.turn_item.Goals as goal

pub returns-in-Byte : goal.returns-in-Byte
returns-in-Byte g c =
    let shown = c.in-Byte.ensures in
    front_byte c.args.self.now _ _ _ _ _ _ shown.failures shown.notes c.in-Byte.byte c.line-line.result c.take-in-Byte.new.self _ _ shown.takes c.line-line.ensures (c.take-in-Byte.ensures _)

pub returns-in-End : goal.returns-in-End
returns-in-End g c =
    let shown = c.in-End.ensures in
    front_end c.args.self.now _ _ _ _ _ _ shown.failures shown.notes c.requires shown.takes

pub returns-in-Return : goal.returns-in-Return
returns-in-Return g c =
    let shown = c.in-Return.ensures in
    front_return c.args.self.now _ _ _ _ _ _ shown.failures shown.notes c.requires c.in-Return.back c.go_back.new.self shown.takes c.go_back.ensures

pub returns-in-Do : goal.returns-in-Do
returns-in-Do g c =
    let shown = c.in-Do.ensures in
    front_event c.args.self.now _ _ _ _ _ _ shown.failures shown.notes c.requires c.in-Do.event c.line-line.result c.perform.new.self _ _ shown.takes c.line-line.ensures (c.perform.ensures _)

pub returns-in-Note : goal.returns-in-Note
returns-in-Note g c =
    let shown = c.in-Note.ensures in
    front_note c.args.self.now _ _ _ _ _ _ shown.failures shown.notes c.requires _ _ c.line-line.result _ shown.takes (shown.note _ refl) c.line-line.ensures c.tell_note.ensures

pub returns-in-SourceEnd : goal.returns-in-SourceEnd
returns-in-SourceEnd g c =
    let shown = c.in-SourceEnd.ensures in
    front_ended c.args.self.now _ _ _ _ _ _ shown.failures shown.notes c.end_input.new.self _ _ shown.takes (λ may. c.end_input.ensures.acts may _) c.end_input.ensures.goes_on

pub returns-in-Fault : goal.returns-in-Fault
returns-in-Fault g c =
    let shown = c.in-Fault.ensures in
    let told = c.source_failed.ensures.report in
    front_failed c.args.self.now _ _ _ _ _ _ shown.failures shown.notes told.0 _ _ shown.takes c.source_failed.ensures.status (shown.fault refl) told.1

pub returns-in-Stop : goal.returns-in-Stop
returns-in-Stop g c =
    let shown = c.in-Stop.ensures in
    front_stopped c.args.self.now _ _ _ _ _ _ shown.failures shown.notes c.in-Stop.limit shown.takes

pub returns-in-Refused : goal.returns-in-Refused
returns-in-Refused g c =
    let shown = c.in-Refused.ensures in
    front_refused c.args.self.now _ _ _ _ _ _ shown.failures shown.notes c.in-Refused.limit c.line-line.result _ _ shown.takes c.line-line.ensures c.halted.ensures
