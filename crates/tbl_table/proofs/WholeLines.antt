-- What a whole line of the data makes of a table: a row at most, also if it is only begun, and a further format or the same.
use Rattle.std.proofs.Common.{◌≡◌, ℕ, ◌+◌, ◌-◌, ◌≤◌, ◌⊎◌, inl, inr, Bool, true, false, not, ◌&&◌, ◌||◌, List, [], ◌∷◌, ◌++◌, length, map, take, drop, Option, Some, None, refl, ap, arith, length-append, nat_lt}
use Rattle.tbl_format.specs.Format.{further}
use Rattle.tbl_options.specs.declared.message.Told.{Told}
use Rattle.tbl_kept.specs.Joined.{line_at}
use Rattle.tbl_layout.specs.Data.{fields}
use Rattle.tbl_layout.specs.DataLines.{block_line_kind, ends_in_block, len_of_fields, line_kind, without_opening}
use Rattle.tbl_layout.specs.Entries.{Command as OneCommand, Content, Row as OneRow, Rule as OneRule, completed}
use Rattle.tbl_layout.specs.declared.data_lines.BlockLineKind.{BlockLineKind}
use Rattle.tbl_layout.specs.declared.data_lines.BlockLineKind.TheVariants.{End, Request, Text}
use Rattle.tbl_layout.specs.declared.data_lines.LineKind.{LineKind}
use Rattle.tbl_layout.specs.declared.data_lines.LineKind.TheVariants.{Command, Formats, Row, Rule}
use Rattle.tbl_data.specs.DataRead.{behind_block, cells, field_notes, fields_with_block, keyed, rules_in_front, serving, surplus_notes, whole_line, with_block_line, with_fields, with_line, with_open_row, with_row, with_whole}
use Rattle.tbl_data.proofs.FieldSteps.{content-of}
use Rattle.tbl_data.specs.TableRead.{RowBegun, TableRead, with_notes}

-- a row that is begun
abbrev pub one_begun : Option RowBegun → ℕ
one_begun None = 0
one_begun (Some row) = 1

-- a table behind a line
pub record Makes (t u : TableRead) : Type 0 where
  pub few : length u.body + one_begun u.begun ≤ length t.body + 1
  pub format : (u.format ≡ t.format) ⊎ (u.format ≡ further t.format)

makes-row : (contents : List Content) (t : TableRead) → Makes t (with_row contents t)
makes-row contents t = record {
  few = omega (arith, length-append t.body (OneRow (rules_in_front t) (serving t) (completed (serving t) contents) ∷ []));
  format = inl refl;
}

makes-open : (opens had : Bool) (contents : List Content) (t : TableRead) → Makes t (with_open_row opens had contents t)
makes-open true had contents t = record { few = omega arith; format = inl refl }
makes-open false had contents t = makes-row contents t

makes-noted : (t u : TableRead) (notes : List Told) → Makes (with_notes notes t) u → Makes t u
makes-noted t u notes makes = record { few = makes.few; format = makes.format }

makes-fields : (ends : List (ℕ × ℕ)) (n place : ℕ) (all : List (List ℕ)) (in_front : List Content) (had_surplus : Bool) (t : TableRead)
    → Makes t (with_fields ends n place all in_front had_surplus t)
makes-fields ends n place all in_front had_surplus t =
    let column = length in_front in
    let room = cells t - column in
    let texts = take room (without_opening all) in
    let fields = keyed (serving t) column texts in
    let has_surplus = nat_lt room (length all) in
    let surplus = surplus_notes (has_surplus && not had_surplus) (line_at ends (place + len_of_fields texts - 1) n) in
    let u = with_notes (field_notes ends n place fields) t in
    let made = with_fields ends n place all in_front had_surplus t in
    makes-noted t made (field_notes ends n place fields) (makes-noted u made surplus
    (makes-open (ends_in_block all) (has_surplus || had_surplus) (in_front ++ map content-of fields) (with_notes surplus u)))

makes-line : (kind : LineKind) (ends : List (ℕ × ℕ)) (n : ℕ) (line : List ℕ) (t : TableRead) → one_begun t.begun ≡ 0 → Makes t (with_line kind ends n line t)
makes-line (Rule sign) ends n line t none = record { few = omega (arith, none, length-append t.body (OneRule sign ∷ [])); format = inl refl }
makes-line Formats ends n line t none = record { few = omega (arith, none); format = inr refl }
makes-line Command ends n line t none = record { few = omega (arith, none, length-append t.body (OneCommand line ∷ [])); format = inl refl }
makes-line Row ends n line t none = makes-fields ends n 0 (fields t.options.separator line) [] false t

makes-behind : (ends : List (ℕ × ℕ)) (n : ℕ) (all : List (List ℕ)) (row : RowBegun) (t : TableRead) → Makes t (behind_block ends n all row t)
makes-behind ends n [] row t = makes-row (fields_with_block row) t
makes-behind ends n (first ∷ []) row t = makes-row (fields_with_block row) t
makes-behind ends n (first ∷ field ∷ more) row t =
    makes-fields ends n (length first + 3) (field ∷ more) (fields_with_block row) row.had_surplus t

makes-block : (kind : BlockLineKind) (ends : List (ℕ × ℕ)) (n : ℕ) (line : List ℕ) (row : RowBegun) (t : TableRead)
    → Makes t (with_block_line kind ends n line row t)
makes-block End ends n line row t = makes-behind ends n (fields t.options.separator (drop 2 line)) row t
makes-block Request ends n line row t = record { few = omega arith; format = inl refl }
makes-block Text ends n line row t = record { few = omega arith; format = inl refl }

makes-with : (begun : Option RowBegun) (ends : List (ℕ × ℕ)) (n : ℕ) (line : List ℕ) (t : TableRead) → t.begun ≡ begun
    → Makes t (with_whole begun ends n line t)
makes-with None ends n line t is = makes-line (line_kind line) ends n line t (ap one_begun is)
makes-with (Some row) ends n line t is = makes-block (block_line_kind line) ends n line row t

pub makes-whole : (ends : List (ℕ × ℕ)) (n : ℕ) (line : List ℕ) (t : TableRead) → Makes t (whole_line ends n line t)
makes-whole ends n line t =
    let makes = makes-with t.begun ends n line (record t { pending = None }) refl in record { few = makes.few; format = makes.format }
