use Rattle.std.proofs.Common.{List, length, refl, ap, ◌∙◌, arith}
use Rattle.tbl_layout.specs.declared.columns.Column.{Column}
use Rattle.tbl_tall.proofs.LinesLent.{entries-own, fronts-own, narrow-own, plain-own, row-own, within-own}
use Rattle.tbl_tall.proofs.tall_row.TallRow.lent.Goals as goal
use Rattle.tbl_tall.specs.TallRows.{KeptTall}

pub returns : goal.returns
returns c =
    let keys = c.as_slice.ensures.value ∙ ap (λ (t : KeptTall). t.line.keys) c.self.view_is in
    let columns = c.as_slice-2.ensures.value ∙ ap (λ (t : KeptTall). t.line.columns) c.self.view_is in
    let entries = c.as_slice-3.ensures.value ∙ ap (λ (t : KeptTall). t.line.entries) c.self.view_is in
    let fronts = c.as_slice-4.ensures.value ∙ ap (λ (t : KeptTall). t.line.fronts) c.self.view_is in
    record {
      lies = λ text draws. record {
        cells = within-own draws keys columns entries fronts;
        narrow = narrow-own draws keys columns entries fronts;
        few = omega (arith, draws.few, ap (λ (cs : List Column). length cs) columns);
        plain = λ is. plain-own draws keys columns entries fronts;
        fronts = fronts-own draws keys columns entries fronts;
      };
      row = λ text draws. row-own draws keys columns entries fronts;
      entries = λ text draws. entries-own draws keys columns entries fronts;
      height = refl;
    }
