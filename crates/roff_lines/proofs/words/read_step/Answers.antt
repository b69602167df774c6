use Rattle.std.proofs.Common.{◌≡◌, ◌+◌, ◌-◌, ◌≤◌, subst, sym, arith}
use Rattle.roff_lines.specs.Env.Tells.{IsRun, ReadsWords}
use Rattle.roff_lines.proofs.ReadingWords.{ReadsWords-step}
use Rattle.roff_lines.proofs.WordRuns.{IsRun-front}
use Rattle.roff_lines.proofs.words.read_step.Goals as goal

pub returns-clause-reads : goal.returns-clause-reads
returns-clause-reads c =
    let bytes = c.args.bytes.now in
    let from = c.args.from in
    let run = c.min-run.result in
    let step = c.run_of_step in
    let place = c.behind_last_blank-place in
    let least : run ≤ step.result = omega (arith, c.min-run.ensures) in
    let whole : from.read + step.result ≡ from.read + run + (step.result - run) = omega (arith, least) in
    let goes = IsRun-front bytes (from.read + run) (step.result - run) (subst (IsRun bytes) whole (step.ensures.run c.requires.reads.run)) in
    subst (λ told. ReadsWords bytes (from.read + run) told (from.words + c.gaps_of_step.result)) (sym c.last_told.ensures)
    (ReadsWords-step bytes from.read from.told from.words c.requires.reads run place.result c.gaps_of_step.result goes place.ensures.from place.ensures.few
    place.ensures.blank place.ensures.others c.gaps_of_step.ensures.gaps c.gaps_of_step.ensures.few)
