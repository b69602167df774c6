use Rattle.roff_store.proofs.TextCalls.{leases-after, names-after, open_texts-after}
use Rattle.roff_store.proofs.text_laws.apart.Goals as goal

pub returns-clause-leases : goal.returns-clause-leases
returns-clause-leases c = leases-after

pub returns-clause-names : goal.returns-clause-names
returns-clause-names c = names-after

pub returns-clause-open_texts : goal.returns-clause-open_texts
returns-clause-open_texts c = open_texts-after
