use Rattle.law_runs.proofs.bounded_messages.message_bounds.Goals as goal
use Rattle.law_runs.proofs.Told.{messages_are_within, messages_only_stop}

pub returns-clause-within : goal.returns-clause-within
returns-clause-within c = messages_are_within

pub returns-clause-only_stop : goal.returns-clause-only_stop
returns-clause-only_stop c = messages_only_stop
