use Rattle.std.proofs.Common.{◌≡◌, ℕ, List, refl, sym, ap, ◌∙◌}
use Rattle.std.specs.List.{slice_range}
use Rattle.tbl_data.specs.LineTaken.{key_next}
use Rattle.tbl_format.specs.declared.format.Key.{Key}
use Rattle.tbl_kept.specs.TableText.{block_of}
use Rattle.tbl_layout.specs.DataLines.{kind_under}
use Rattle.tbl_data.proofs.table_data.TableData.take_field.Goals as goal

pub take_text_field-requires-clause-kind : goal.take_text_field-requires-clause-kind
take_text_field-requires-clause-kind c =
    ap (λ (b : List ℕ). kind_under c.key_next-key.result (slice_range b c.args.at c.args.end)) (sym c.block.ensures) ∙ sym c.kind_under.ensures ∙ c.in-Text.is

pub returns-in_default : goal.returns-in_default
returns-in_default c =
    let d = c.args.self.now in
    let is : kind_under (key_next d) (slice_range (block_of c.args.text.now) c.args.at c.args.end) ≡ c.kind_under.result =
    ap (λ (b : List ℕ). kind_under (key_next d) (slice_range b c.args.at c.args.end)) (sym c.block.ensures)
    ∙ ap (λ (key : Key). kind_under key (slice_range c.block.result.now c.args.at c.args.end)) (sym c.key_next-key.ensures)
    ∙ sym c.kind_under.ensures in
    record {
      text = refl;
      taken = c.take_other_field.ensures.taken c.args.text.now c.args.line c.requires.lies c.requires.end is c.in_default.not-Text c.requires.fits c.requires.closed c.requires.cell;
    }
