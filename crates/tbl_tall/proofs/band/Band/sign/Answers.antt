use Rattle.std.proofs.Common.{◌≡◌, ℕ, ◌+◌, ◌-◌, List, true, sym, ap, ◌∙◌, arith, rules, Option}
use Rattle.tbl_format.specs.Format.{FormatRow}
use Rattle.tbl_format.specs.RowsServed.{all_rows, row_at}
use Rattle.tbl_format.specs.declared.format.FormatKey.{FormatKey}
use Rattle.tbl_layout.specs.Entries.{key_at}
use Rattle.tbl_layout.specs.RuleKeys.{rule_sign}
use Rattle.tbl_layout.specs.declared.data_lines.RuleSign.{RuleSign}
use Rattle.tbl_lines.specs.LinesLeft.{is_free, over_at}
use Rattle.tbl_lines.specs.PictureLines.{sign_over}
use Rattle.tbl_tall.specs.Bands.{is_open, kept_band, line_given}
use Rattle.tbl_tall.proofs.BandsAlike.{sign-free}
use Rattle.tbl_tall.proofs.band.Band.sign.Goals as goal

pub row_at-requires : goal.row_at-requires
row_at-requires c = omega (arith, c.requires.fits.places, c.requires.line, c.requires.keys c.in-None.is)

pub returns-in-None : goal.returns-in-None
returns-in-None c = λ all through.
    let b = kept_band c.args.self.now in
    let formats = all_rows c.args.format.now.format in
    let column = c.args.column in
    let n = b.first + (b.at - b.wholes) in
    let row : FormatRow = row_at formats n in
    let free_column : is_open c.args.self.now.through.items column ≡ true = search rules in
    let free : is_free (over_at all column) ≡ true = sym (through.free column) ∙ free_column in
    let keys = c.row_of_all.ensures.keys ∙ ap (λ (m : ℕ). (row_at formats m).keys) c.row_at.ensures in
    let key = c.key_at.ensures row.bars ∙ ap (λ (ks : List FormatKey). key_at (record { keys = ks; bars = row.bars }) column) keys in
    c.rule_sign.ensures
    ∙ ap rule_sign key
    ∙ sym (sign-free (line_given formats b c.args.whole) (over_at all column) column free
    ∙ ap (λ (w : Option RuleSign). sign_over (line_given formats b w) column) c.in-None.is)
