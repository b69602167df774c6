use Rattle.std.proofs.Common.{◌≡◌, subst, sym}
use Rattle.page_model.specs.declared.event.Event.TheVariants.{FieldEnd}
use Rattle.roff_lines.specs.Env.Kept.{Kept, length_ended, with_field_ended}
use Rattle.roff_lines.specs.Env.Stands.{StandsBehind}
use Rattle.roff_lines.proofs.TabsTold.{StandsBehind-field_end, limit-field_end, ok_in_room}
use Rattle.roff_lines.proofs.env.Env.end_field.Goals as goal

pub returns-clause-stands : goal.returns-clause-stands
returns-clause-stands c =
    let old : Kept = c.args.self.now in
    let new : Kept = c.finish_field.new.self in
    ok_in_room c.finish_field.result (new ≡ with_field_ended old) (StandsBehind old FieldEnd new) old.cap (length_ended old) c.finish_field.ensures.limit
    c.finish_field.ensures.kept (λ room is. subst (StandsBehind old FieldEnd) (sym is) (StandsBehind-field_end old room))

pub returns-clause-limit : goal.returns-clause-limit
returns-clause-limit c = λ line_cap h s.
    let mine = c.finish_field.ensures.limit in
    let its = limit-field_end line_cap h c.args.self.now s in
    (λ failed. its.0 (mine.0 failed), λ over. mine.1 (its.1 over))
