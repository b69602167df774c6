use Rattle.std.proofs.Common.{length, refl, sym, ◌∙◌}
use Rattle.std.proofs.lemmas.Option.{slice_get_past, slice_get_read}
use Rattle.tbl_layout.proofs.UnderKeys.{entry-none, entry-some}
use Rattle.tbl_layout.proofs.rule_keys.entry_behind.Goals as goal

pub returns-in-Some : goal.returns-in-Some
returns-in-Some c = λ bars entries le.
    let keys = c.args.keys.now in
    let found = c.in-Some.ensures.lookup in
    c.under.ensures
    ∙ entry-some keys bars c.args.at entries le c.in-Some.key.now (sym (slice_get_read keys (length keys) c.args.at c.in-Some.key.now refl found.3.0 found.1))

pub returns-in-None : goal.returns-in-None
returns-in-None c = λ bars entries le.
    entry-none c.args.keys.now bars c.args.at entries le (sym (slice_get_past c.args.keys.now c.args.at c.in-None.ensures.lookup.3))
