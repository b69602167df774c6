use Rattle.std.proofs.Common.{◌-◌, sym, subst, ap, ◌∙◌}
use Rattle.tbl_data.specs.LineTaken.{TakesField}
use Rattle.tbl_data.proofs.OthersKept.{takes-other}
use Rattle.tbl_kept.specs.Rows.{KeptRows, with_entry}
use Rattle.tbl_layout.specs.KeptEntries.{rule_entry}
use Rattle.tbl_layout.specs.declared.entry.Entry.{Entry}
use Rattle.tbl_data.proofs.table_data.TableData.take_other_field.Goals as goal

pub returns : goal.returns
returns c = record {
  taken = λ k line lies on-line is other fits closed cell.
      let d = c.args.self.now in
      let at = c.args.at in
      let end = c.args.end in
      let rows = c.keep.ensures ∙ ap (λ (e : Entry). with_entry e d.rows) (c.of_rule.ensures ∙ ap (rule_entry at (end - at)) c.kept_kind.ensures) in
      subst (λ (r : KeptRows). TakesField k line at end d (record d { rows = r })) (sym rows)
      (takes-other k line at end d c.args.kind c.requires.order lies on-line is other fits closed cell);
}
