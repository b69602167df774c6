use Rattle.law_lines.proofs.Uninterrupted.{LeaveTheSame-interrupted, LeaveTheSame-uninterrupted}
use Rattle.law_lines.proofs.laws.interrupted_lines.Goals as goal

pub returns-clause-same_word : goal.returns-clause-same_word
returns-clause-same_word c = LeaveTheSame-interrupted

pub returns-clause-anywhere : goal.returns-clause-anywhere
returns-clause-anywhere c = LeaveTheSame-uninterrupted
