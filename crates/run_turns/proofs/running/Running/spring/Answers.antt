use Rattle.std.proofs.Common.{refl}
use Rattle.run_turns.proofs.GoingOn.{goes_on_sprung, stops_sprung}
use Rattle.run_turns.proofs.running.Running.spring.Goals as goal

pub returns-in-Ok : goal.returns-in-Ok
returns-in-Ok g c = λ failures out. goes_on_sprung c.args.sprung c.args.name c.args.self.now c.put_left_back.new.self _ _ _ c.requires c.put_left_back.ensures c.in-Ok.ensures

pub returns-in-Err : goal.returns-in-Err
returns-in-Err g c = λ failures out. stops_sprung c.args.sprung c.args.name c.args.self.now c.put_left_back.new.self _ c.in-Err.limit c.line-line.result _ _ _
    c.requires c.put_left_back.ensures c.in-Err.ensures refl (c.line-line.ensures)
    (λ t tape start halts. c.halted.ensures t tape start failures out halts)
