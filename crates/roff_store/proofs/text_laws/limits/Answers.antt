use Rattle.roff_store.proofs.CountedTexts.{limits-after}
use Rattle.roff_store.proofs.text_laws.limits.Goals as goal

pub returns-clause-names : goal.returns-clause-names
returns-clause-names c = λ call t. (limits-after call t).names

pub returns-clause-bytes : goal.returns-clause-bytes
returns-clause-bytes c = λ call t. (limits-after call t).bytes

pub returns-clause-kept : goal.returns-clause-kept
returns-clause-kept c = λ call t. (limits-after call t).kept

pub returns-clause-open_texts : goal.returns-clause-open_texts
returns-clause-open_texts c = λ call t. (limits-after call t).open_texts

pub returns-clause-leases : goal.returns-clause-leases
returns-clause-leases c = λ call t. (limits-after call t).leases
