use Rattle.roff_store.proofs.Calls.{entry_of-after_all}
use Rattle.roff_store.proofs.laws.finite_map.Goals as goal

pub returns : goal.returns
returns c = λ t calls name room. entry_of-after_all calls name t room
