use Rattle.roff_store.proofs.TextCalls.{after-refused}
use Rattle.roff_store.proofs.text_laws.refusals.Goals as goal

pub returns : goal.returns
returns c = λ call t limit refused. after-refused call t refused
