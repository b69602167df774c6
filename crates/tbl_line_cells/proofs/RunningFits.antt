-- Where the next bar or rule stands on a line, by what is laid there.
use Rattle.std.proofs.Common.{◌≡◌, ℕ, ◌-◌, ◌≤◌, List, arith, if◌then◌else◌}
use Rattle.tbl_format.specs.declared.format.Key.{Key}
use Rattle.tbl_format.specs.declared.format.Key.TheVariants.{Above as AboveKey, Alphabetic, Center, DoubleRule, Left as LeftKey, Numeric, Right, Rule as RuleKey, Spanned, WideNumeric}
use Rattle.tbl_layout.specs.Columns.{place_of_rule, shift_of_rule, widest_entry}
use Rattle.tbl_layout.specs.Entries.{Run}
use Rattle.tbl_layout.specs.declared.columns.Column.{Column}
use Rattle.tbl_lines.specs.LinesLeft.{is_there}
use Rattle.tbl_lines.specs.PictureLines.{Cell}
use Rattle.tbl_lines.specs.RowsLeft.{first_of}

-- where something stands there, or else what comes next
abbrev pub drawn_at : ℕ → List Run → ℕ → ℕ
drawn_at next runs at = if is_there runs then at else next

abbrev pub drawn_by : ℕ → Cell → ℕ
drawn_by next c = drawn_at next (first_of c) c.at

-- a rule as wide as the widest entry begins within its column
shift-within : (key : Key) (spare : ℕ) → shift_of_rule key spare ≤ spare
shift-within Right spare = omega arith
shift-within Center spare = omega arith
shift-within LeftKey spare = omega arith
shift-within Numeric spare = omega arith
shift-within WideNumeric spare = omega arith
shift-within Alphabetic spare = omega arith
shift-within Spanned spare = omega arith
shift-within AboveKey spare = omega arith
shift-within RuleKey spare = omega arith
shift-within DoubleRule spare = omega arith

pub rule-within : (c : Column) (key : Key) (place : ℕ) → place ≡ place_of_rule c key → place ≤ c.width
rule-within c key place is =
    let within = shift-within key (c.width - widest_entry c.needs) in omega (arith, is, within)
