use Rattle.std.proofs.Common.{Bool, Some, None, ◌≡◌, true, false, subst, sym, ◌∙◌, ap}
use Rattle.tbl_data.specs.LineTaken.{OpensBlock, key_next}
use Rattle.tbl_data.specs.TableData.{LastEndsAt}
use Rattle.tbl_data.specs.declared.table_data.OpenBlock.TheVariants.{Dropped, Kept}
use Rattle.tbl_data.proofs.RowSteps.{ends-at, opens-kept, opens-said, opens-surplus}
use Rattle.tbl_kept.specs.Rows.{KeptRows, with_entry}
use Rattle.tbl_layout.specs.KeptEntries.{rule_entry}
use Rattle.tbl_layout.specs.RuleKeys.{kind_of_key}
use Rattle.tbl_layout.specs.declared.entry.Entry.{Entry}
use Rattle.tbl_data.proofs.table_data.TableData.open_block.Goals as goal

pub returns-then-had_surplus-clause-opens : goal.returns-then-had_surplus-clause-opens
returns-then-had_surplus-clause-opens c bytes within cell fits =
    let d = c.args.self.now in
    subst (λ (b : Bool). OpensBlock bytes b d (record d { «open» = Dropped true })) (sym c.if-had_surplus.true) (opens-surplus bytes d fits)

pub returns-in-Some-clause-opens : goal.returns-in-Some-clause-opens
returns-in-Some-clause-opens c bytes within cell fits =
    let d = c.args.self.now in
    let rows = c.keep.ensures ∙ ap (λ (e : Entry). with_entry e d.rows) (c.of_rule.ensures ∙ ap (rule_entry c.args.line_end 0) c.kept_kind.ensures) in
    let is : kind_of_key (key_next d) ≡ Some c.in-Some.kind = ap kind_of_key (sym c.key_next.ensures) ∙ sym c.kind_of_key.ensures ∙ c.in-Some.is in
    subst (λ (b : Bool). OpensBlock bytes b d (record d { rows = c.keep.new.self; «open» = Dropped false })) (sym c.if-had_surplus.false)
    (subst (λ (k : KeptRows). OpensBlock bytes false d (record d { rows = k; «open» = Dropped false })) (sym rows)
    (opens-said bytes d c.args.line_end c.in-Some.kind within (cell c.if-had_surplus.false) is fits))

pub returns-in-None-clause-opens : goal.returns-in-None-clause-opens
returns-in-None-clause-opens c bytes within cell fits =
    let d = c.args.self.now in
    let rows = c.keep-in-None.ensures ∙ ap (λ (e : Entry). with_entry e d.rows) c.opened.ensures in
    let none : kind_of_key (key_next d) ≡ None = ap kind_of_key (sym c.key_next.ensures) ∙ sym c.kind_of_key.ensures ∙ c.in-None.is in
    subst (λ (b : Bool). OpensBlock bytes b d (record d { rows = c.keep-in-None.new.self; «open» = Kept })) (sym c.if-had_surplus.false)
    (subst (λ (k : KeptRows). OpensBlock bytes false d (record d { rows = k; «open» = Kept })) (sym rows)
    (opens-kept bytes d c.args.line_end within (cell c.if-had_surplus.false) none fits))

pub returns-in-None-clause-ends : goal.returns-in-None-clause-ends
returns-in-None-clause-ends c =
    subst (λ (k : KeptRows). LastEndsAt c.args.line_end k.row) (sym c.keep-in-None.ensures)
    (subst (λ (e : Entry). LastEndsAt c.args.line_end (with_entry e c.args.self.now.rows).row) (sym c.opened.ensures) (ends-at c.args.self.now.rows.row c.args.line_end))
