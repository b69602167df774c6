use Rattle.std.proofs.Common.{arith, refl, sym, ◌∙◌}
use Rattle.read_shortcuts.proofs.SilentEscapesRead.{takes-none}
use Rattle.read_shortcuts.proofs.RunsRead.{reads-none}
use Rattle.read_shortcuts.proofs.silent_escapes.take_silent_escape.Goals as goal

pub returns-in_default : goal.returns-in_default
returns-in_default g c = record {
  past = reads-none _ c.args.reader.now c.args.unread.now c.stays_within.ensures;
  reads = refl;
  half = c.requires;
  whole = λ asks. sym (takes-none c.args.reader.now.reading _ (λ line is. c.in_default.not-Text line (c.reading.ensures ∙ is)));
  notes = omega arith;
  failures = refl;
}
