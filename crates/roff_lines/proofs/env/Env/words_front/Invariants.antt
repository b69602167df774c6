use Rattle.std.proofs.Common.{◌-◌, ◌≤◌, take, drop}
use Rattle.roff_lines.specs.Env.Tells.{TellsOf, EndsGlyphs}
use Rattle.roff_lines.proofs.env.Env.words_front.Given as goal

abbrev pub invariant-loop-next : goal.invariant-loop-next
invariant-loop-next l = record {
  few : l.told ≤ l.count;
  told : TellsOf l.count l.bytes l.told l.fn.self l.self;
  ends : EndsGlyphs (drop l.told (take l.count l.bytes)) l.self;
}

abbrev pub decreases-loop-next : goal.decreases-loop-next
decreases-loop-next l = l.count - l.told
