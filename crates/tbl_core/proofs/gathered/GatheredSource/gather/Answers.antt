use Rattle.std.proofs.Common.{refl, rules}
use Rattle.tbl_core.proofs.GatheredBytes.{emptied_kept, kept_on}
use Rattle.tbl_core.proofs.gathered.GatheredSource.gather.Goals as goal

pub returns-clause-kept : goal.returns-clause-kept
returns-clause-kept g c = kept_on c.args.self.now _ _ (emptied_kept c.args.self.now _ refl c.requires (search rules)) c.gather_pieces.ensures.on.kept

pub returns-clause-none : goal.returns-clause-none
returns-clause-none g c = c.gather_pieces.ensures.on.next

pub returns-clause-many : goal.returns-clause-many
returns-clause-many g c = c.gather_pieces.ensures.many
