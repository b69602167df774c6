use Rattle.std.proofs.Common.{refl, ◌∙◌}
use Rattle.roff_lines.proofs.LinesTold.{Finishes-word_end, StandsBehind-word_end}
use Rattle.roff_lines.proofs.env.Env.end_word.Goals as goal

pub returns : goal.returns
returns c =
    let k = c.args.self.now in
    let told = c.place_word-shape.ensures in (
      (refl, λ _. tt, λ line_cap h s. rw told.kept (StandsBehind-word_end k line_cap h s)),
      record { stands = tt; line = λ line_cap h s. c.lent.ensures ∙ (told.line ∙ Finishes-word_end k line_cap h s) },
    )
