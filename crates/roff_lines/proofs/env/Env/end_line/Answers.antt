use Rattle.std.proofs.Common.{refl, ap, ◌∙◌}
use Rattle.roff_lines.specs.Env.Kept.{Kept, finished_by_line_end}
use Rattle.roff_lines.proofs.LinesTold.{Finishes-line_end, StandsBehind-line_end}
use Rattle.roff_lines.proofs.env.Env.end_line.Goals as goal

pub returns : goal.returns
returns c =
    let k : Kept = c.args.self.now in
    let told = c.finish_input_line-shape.ensures in
    let left = c.leave_open_field.ensures in (
      (refl, λ _. tt, λ line_cap h s. rw (told.kept, left) (StandsBehind-line_end k line_cap h s)),
      record { stands = tt; line = λ line_cap h s. c.lent.ensures ∙ (told.line ∙ ap finished_by_line_end left ∙ Finishes-line_end k line_cap h s) },
    )
