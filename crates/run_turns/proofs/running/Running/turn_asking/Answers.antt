use Rattle.std.proofs.Common.{refl, sym, ◌∙◌}
use Rattle.input_model.specs.Shown.{sighted}
use Rattle.run_items.proofs.Sighted.{ShowsFront}
use Rattle.run_turns.proofs.Waiting.{sees-look, waiting_ends, waiting_failed, waiting_in_front, waiting_note, waiting_stopped}
use Rattle.run_turns.proofs.running.Running.turn_asking.Goals as goal
use Rattle.run_turns.proofs.running.Running.turn_asking.Goals.{in-Byte, in-Nothing, in-SourceEnd}

pub returns-in-Note : goal.returns-in-Note
returns-in-Note g c =
    let shown = c.in-Note.ensures in
    waiting_note c.args.self.now _ _ _ _ _ _ shown.failures shown.notes _ _ c.line-line.result _ shown.looks (shown.note _ refl) c.line-line.ensures c.tell_note.ensures

pub returns-in-Fault : goal.returns-in-Fault
returns-in-Fault g c =
    let shown = c.in-Fault.ensures in
    let told = c.source_failed.ensures.report in
    waiting_failed c.args.self.now _ _ _ _ _ _ shown.failures shown.notes told.0 _ _ shown.looks c.source_failed.ensures.status (shown.fault refl) told.1

pub returns-in-Stop : goal.returns-in-Stop
returns-in-Stop g c =
    let shown = c.in-Stop.ensures in
    waiting_stopped c.args.self.now _ _ _ _ _ _ shown.failures shown.notes c.in-Stop.limit shown.looks

pub returns-then-is_ended_by : goal.returns-then-is_ended_by
returns-then-is_ended_by g c =
    let is_front : ShowsFront c.match-look.seen (sighted c.look.result) = elim c.match-look.branch [
      | in-Byte w ↦ rw w.in-Byte.is w.seen-is
      | in-Nothing w ↦ rw w.in-Nothing.is w.seen-is
      | in-SourceEnd w ↦ rw w.in-SourceEnd.is w.seen-is
    ] in
    let look = c.look.ensures in
    waiting_ends c.args.self.now _ _ _ _ _ _ look.failures look.notes c.match-look.seen (sighted c.look.result) c.end_escape.new.self _ _ is_front look.looks
    (sym c.is_ended_by.ensures ∙ c.if-is_ended_by.true) (c.end_escape.ensures _)

pub turn_above-requires : goal.turn_above-requires
turn_above-requires g c =
    let is_front : ShowsFront c.match-look.seen (sighted c.look.result) = elim c.match-look.branch [
      | in-Byte w ↦ rw w.in-Byte.is w.seen-is
      | in-Nothing w ↦ rw w.in-Nothing.is w.seen-is
      | in-SourceEnd w ↦ rw w.in-SourceEnd.is w.seen-is
    ] in
    sees-look c.args.self.now c.look.ensures.looks c.match-look.seen is_front (sym c.is_ended_by.ensures ∙ c.if-is_ended_by.false)

pub returns : goal.returns
returns g c =
    let is_front : ShowsFront c.match-look.seen (sighted c.look.result) = elim c.match-look.branch [
      | in-Byte w ↦ rw w.in-Byte.is w.seen-is
      | in-Nothing w ↦ rw w.in-Nothing.is w.seen-is
      | in-SourceEnd w ↦ rw w.in-SourceEnd.is w.seen-is
    ] in
    let look = c.look.ensures in
    waiting_in_front c.args.self.now look.looks c.match-look.seen is_front (sym c.is_ended_by.ensures ∙ c.if-is_ended_by.false) _ _ _ _ _ _ _ c.turn_above.new.self _ _
    look.failures look.notes c.turn_above.ensures
