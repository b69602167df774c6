-- The marks of a line of rules as it is walked: a rule that goes on behind a column is one mark.
use Rattle.std.specs.Prelude.{ℕ, suc, ◌+◌, ◌-◌, Bool, false, ◌&&◌, List, [], ◌∷◌, ◌++◌, length, replicate, codes, Option, None, Some, is_none, if◌then◌else◌, ◌==◌}
use Rattle.input_source.specs.Bytes.{newline}
use Rattle.tbl_layout.specs.Columns.{bar_place, bars_end}
use Rattle.tbl_layout.specs.DataLines.{is_same_sign, sign_byte}
use Rattle.tbl_layout.specs.declared.bars.Bars.{Bars}
use Rattle.tbl_layout.specs.declared.columns.Column.{Column}
use Rattle.tbl_layout.specs.declared.data_lines.RuleSign.{RuleSign}
use Rattle.tbl_lines.specs.PictureLines.{Mark, Neighbour, RuleLine, Sheet, bar, crossing, drawn, edge_mark, last_mark, met_at_edge, met_behind, rule_from, rule_to, sign_over}

-- whether the rule over a column goes on over the next one
abbrev pub is_same_rule : Option RuleSign → Option RuleSign → Bool
is_same_rule None next = is_none next
is_same_rule (Some sign) None = false
is_same_rule (Some sign) (Some next) = is_same_sign sign next

abbrev pub goes_on : RuleLine → ℕ → Bool
goes_on line column = is_same_rule (sign_over line column) (sign_over line (suc column))

-- a rule from a place on, if there is one, which so many bars cross at another place, and which ends there, or goes on with the next
-- column's; else these bars
abbrev pub mark_behind : Option RuleSign → Bool → ℕ → ℕ → ℕ → ℕ → Mark
mark_behind None is_on from count at end = record { at = at; bytes = replicate count bar }
mark_behind (Some sign) is_on from count at end = record {
  at = from;
  bytes = replicate (at - from) (sign_byte sign)
      ++ (replicate count crossing ++ (if is_on then [] else replicate (end - (at + count)) (sign_byte sign)));
}

-- what a line of rules draws from a column on, over columns and behind each but the last: its rule over the first begins at a place, and
-- that over the last ends at another
abbrev pub marks_from : Bars → RuleLine → Neighbour → Neighbour → ℕ → ℕ → ℕ → List Column → List Mark
marks_from bars line above below column from to [] = last_mark (sign_over line column) from to ∷ []
marks_from bars line above below column from to (c ∷ []) = last_mark (sign_over line column) from to ∷ []
marks_from bars line above below column from to (c ∷ d ∷ columns) =
    let count = met_behind bars line above below column in
    let at = bar_place count c d in
    let is_on = goes_on line column in
    if is_on && count == 0 then marks_from bars line above below (suc column) from to (d ∷ columns)
    else mark_behind (sign_over line column) is_on from count at (bars_end c d)
    ∷ marks_from bars line above below (suc column) (if is_on then at + count else bars_end c d) to (d ∷ columns)

-- all that it draws, as it is walked
abbrev pub marks_walked : Sheet → RuleLine → Neighbour → Neighbour → List Mark
marks_walked s line above below =
    let left = met_at_edge s.bars line above below 0 in
    let right = met_at_edge s.bars line above below (length s.columns) in
    edge_mark line 0 left
    ∷ marks_from s.bars line above below 0 (rule_from line left s.columns) (rule_to line (s.width - right) s.columns) s.columns
    ++ edge_mark line (s.width - right) right ∷ []

abbrev pub rule_line_walked : Sheet → RuleLine → Neighbour → Neighbour → List ℕ
rule_line_walked s line above below = codes "\\&" ++ (drawn 0 (marks_walked s line above below) ++ newline ∷ [])
