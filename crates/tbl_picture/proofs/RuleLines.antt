-- How many bars a line of a row shows beside a line of rules.
use Rattle.std.proofs.Common.{◌≡◌, ℕ, zero, suc, ◌+◌, ◌-◌, Bool, ◌&&◌, ◌||◌, List, [], ◌∷◌, drop, map, Option, Some, None, refl, sym, ap, ◌∙◌, arith, if◌then◌else◌, ◌==◌, is_some}
use Rattle.std.specs.Option.{unwrap_or}
use Rattle.tbl_format.specs.Cells.{cell_behind}
use Rattle.tbl_format.specs.Format.{FormatRow}
use Rattle.tbl_format.specs.RowsServed.{row_at}
use Rattle.tbl_format.specs.declared.format.FormatKey.{FormatKey}
use Rattle.tbl_options.specs.declared.options.Boxing.{Boxing}
use Rattle.tbl_kept.specs.Rows.{KeptElement, Row, fields_of}
use Rattle.tbl_layout.specs.Entries.{Content, Text, field_at}
use Rattle.tbl_layout.specs.KeptEntries.{all_entries, content_by, content_of}
use Rattle.tbl_layout.specs.Widths.{inner_bars}
use Rattle.tbl_layout.specs.declared.data_lines.RuleSign.{RuleSign}
use Rattle.tbl_layout.specs.declared.entry.Entry.{Entry}
use Rattle.tbl_layout.specs.declared.entry.EntryKind.{EntryKind}
use Rattle.tbl_layout.specs.declared.entry.EntryKind.TheVariants.{Above as AboveKind, Block as BlockKind, Repeated as RepeatedKind, Ruled as RuledKind, Short as ShortKind, Split as SplitKind, Text as TextKind}
use Rattle.tbl_lines.specs.PictureLines.{bars_between, is_ruled, joined_sign, shown_behind, shown_in_front}
use Rattle.tbl_format.specs.FormatLaws.{bars_among}
use Rattle.tbl_lines.specs.RowsLeft.{is_ruled_by, joined_first, joined_kinds}
use Rattle.tbl_picture.specs.RulesWalked.{line_beside, line_of_first}
use Rattle.tbl_picture.specs.declared.walk.beside.Beside.TheVariants.{Row as RowBeside}
use Rattle.tbl_lines.proofs.AllEntries.{fields-all}

-- two fields of a row that are the same rule
same-rule : (bytes : List ℕ) (from to : ℕ) (sign : RuleSign) (k : EntryKind) → is_ruled sign (content_by k bytes from to) ≡ is_ruled_by sign k
same-rule bytes from to sign (TextKind glyphs width) = refl
same-rule bytes from to sign (SplitKind s) = refl
same-rule bytes from to sign (BlockKind b) = refl
same-rule bytes from to sign (RuledKind other) = refl
same-rule bytes from to sign ShortKind = refl
same-rule bytes from to sign (RepeatedKind b) = refl
same-rule bytes from to sign AboveKind = refl

module _ (bytes : List ℕ) where
  joined-two : (k : EntryKind) (from to : ℕ) (f : Entry) → joined_sign (content_by k bytes from to) (content_of bytes f) ≡ joined_kinds k f.kind
  joined-two (TextKind glyphs width) from to f = refl
  joined-two (SplitKind s) from to f = refl
  joined-two (BlockKind b) from to f = refl
  joined-two (RuledKind sign) from to f = ap (λ (t : Bool). if t then Some sign else None) (same-rule bytes f.from f.to sign f.kind)
  joined-two ShortKind from to f = refl
  joined-two (RepeatedKind b) from to f = refl
  joined-two AboveKind from to f = refl

  joined-last : (k : EntryKind) (from to : ℕ) → joined_sign (content_by k bytes from to) (Text []) ≡ None
  joined-last (TextKind glyphs width) from to = refl
  joined-last (SplitKind s) from to = refl
  joined-last (BlockKind b) from to = refl
  joined-last (RuledKind sign) from to = refl
  joined-last ShortKind from to = refl
  joined-last (RepeatedKind b) from to = refl
  joined-last AboveKind from to = refl

  pub joined-at : (entries : List Entry) (column : ℕ)
      → joined_sign (field_at (map (content_of bytes) entries) column) (field_at (map (content_of bytes) entries) (suc column))
      ≡ joined_first (drop column entries)
  joined-at [] zero = refl
  joined-at [] (suc column) = refl
  joined-at (e ∷ []) zero = joined-last e.kind e.from e.to
  joined-at (e ∷ f ∷ entries) zero = joined-two e.kind e.from e.to f
  joined-at (e ∷ entries) (suc column) = joined-at entries column

-- how many bars a row shows in front of a cell that isn't the first
module _ (boxing : Boxing) (is_first : Bool) (format : FormatRow) (fields : List Content) where
  in-front-some : (cell : Option ℕ) (n : ℕ) → unwrap_or cell 0 ≡ suc n
      → shown_in_front boxing is_first format fields cell
      ≡ (if is_first && is_some (joined_sign (field_at fields n) (field_at fields (suc n))) then 0 else bars_between boxing format (suc n))
  in-front-some None n is = absurd (omega (arith, is))
  in-front-some (Some zero) n is = absurd (omega (arith, is))
  in-front-some (Some (suc cell)) n is =
      let same : cell ≡ n = omega (arith, is) in
      ap (λ (i : ℕ). if is_first && is_some (joined_sign (field_at fields i) (field_at fields (suc i))) then 0 else bars_between boxing format (suc i)) same

-- how many bars a line of a row that stands there shows behind a column, in front of a cell that isn't the first
module _ (boxing : Boxing) (bytes : List ℕ) (formats : List FormatRow) (is_below : Bool) (elements : List KeptElement) (at keys rules height : ℕ)
    (entries : List Entry) (rest : List KeptElement) (column : ℕ) (is : drop at elements ≡ Row keys rules height entries ∷ rest) where
  abbrev format : FormatRow
  format = row_at formats keys

  abbrev cell-there : Option ℕ
  cell-there = cell_behind format.keys (suc column)

  pub shown-row : (cell : ℕ) → unwrap_or cell-there 0 ≡ suc cell
      → shown_behind boxing (line_beside bytes formats is_below elements (RowBeside at)) column
      ≡ (if (is_below || height == 1) && is_some (joined_first (drop cell (all_entries format entries))) then 0
      else bars_between boxing format (suc cell))
  shown-row cell there =
      let bars = bars_between boxing format (suc cell) in
      let by : Option RuleSign → ℕ = λ j. if (is_below || height == 1) && is_some j then 0 else bars in
      ap (λ (es : List KeptElement). shown_behind boxing (line_of_first bytes formats is_below es) column) is
      ∙ in-front-some boxing (is_below || height == 1) format (fields_of bytes format entries) cell-there cell there
      ∙ ap (λ (fields : List Content). by (joined_sign (field_at fields cell) (field_at fields (suc cell)))) (fields-all bytes format entries)
      ∙ ap by (joined-at bytes (all_entries format entries) cell)

-- a cell that isn't the first
pub one-behind : (n : ℕ) → (n ≡ 0 → ⊥) → suc (n - 1) ≡ n
one-behind zero other = absurd (other refl)
one-behind (suc n) other = omega arith

-- the cell that is found behind a column, and its bars
pub cell-found : (keys : List FormatKey) (format : FormatRow) (column cell : ℕ) (found : Option ℕ) → keys ≡ format.keys
    → found ≡ cell_behind keys (column + 1) → cell ≡ unwrap_or found 0 → unwrap_or (cell_behind format.keys (suc column)) 0 ≡ cell
cell-found keys format column cell found keys_are found_is cell_is =
    let next : suc column ≡ column + 1 = omega arith in
    ap (λ (ks : List FormatKey). unwrap_or (cell_behind ks (suc column)) 0) (sym keys_are)
    ∙ ap (λ (n : ℕ). unwrap_or (cell_behind keys n) 0) next
    ∙ ap (λ (o : Option ℕ). unwrap_or o 0) (sym found_is)
    ∙ sym cell_is

pub bars-found : (boxing : Boxing) (keys : List FormatKey) (format : FormatRow) (last among shown cell : ℕ) → keys ≡ format.keys → last ≡ format.bars
    → among ≡ bars_among keys last cell → shown ≡ inner_bars boxing among → shown ≡ bars_between boxing format cell
bars-found boxing keys format last among shown cell keys_are last_is among_is shown_is =
    shown_is
    ∙ ap (inner_bars boxing) among_is
    ∙ ap (λ (ks : List FormatKey). inner_bars boxing (bars_among ks last cell)) keys_are
    ∙ ap (λ (n : ℕ). inner_bars boxing (bars_among format.keys n cell)) last_is
