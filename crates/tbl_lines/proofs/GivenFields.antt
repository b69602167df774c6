-- The fields that a row has, and what stands behind the last of them: rules of rule keys, and empty texts.
use Rattle.std.proofs.Common.{◌≡◌, ℕ, suc, ◌<◌, ◌≤◌, List, ◌∷◌, length, drop, get_or, Option, Some, None, refl, sym, ap, subst, ◌∙◌, arith, length-append, slice_get}
use Rattle.std.proofs.Math.Seq.{drop-cons}
use Rattle.std.proofs.lemmas.List.{get_or_append_left}
use Rattle.tbl_format.specs.Format.{FormatRow}
use Rattle.tbl_format.specs.declared.format.FormatKey.{FormatKey}
use Rattle.tbl_format.specs.declared.format.Key.{Key}
use Rattle.tbl_format.specs.declared.format.Key.TheVariants.{Above as AboveKey, Alphabetic, Center, DoubleRule, Left, Numeric, Right, Rule, Spanned, WideNumeric}
use Rattle.tbl_layout.specs.KeptEntries.{IsBlock, all_entries, no_entry, said_by_key}
use Rattle.tbl_layout.specs.RuleKeys.{kind_of_key, under_keys}
use Rattle.tbl_layout.specs.declared.data_lines.FieldKind.TheVariants.{Above as AboveField, Ruled as RuledField}
use Rattle.tbl_layout.specs.declared.data_lines.RuleSign.{RuleSign}
use Rattle.tbl_layout.specs.declared.data_lines.RuleSign.TheVariants.{Double, Single}
use Rattle.tbl_layout.specs.declared.entry.Entry.{Entry}
use Rattle.tbl_layout.specs.declared.entry.EntryKind.TheVariants.{Above, Ruled, Text}
use Rattle.tbl_layout.proofs.UnderKeys.{by_key, by_kind, get_or-behind}
use Rattle.tbl_lines.specs.PictureLines.{Cell}
use Rattle.tbl_lines.specs.RowsLeft.{first_cell}
use Rattle.tbl_lines.specs.RowsWalked.{IsEmptyOn}
use Rattle.tbl_lines.proofs.CellsGiven.{above-empty, above-moved, text-empty, text-moved}
use Rattle.tbl_lines.specs.declared.row_columns.RowColumn.{RowColumn}

module _ (format : FormatRow) (entries : List Entry) (at : ℕ) (given : at < length entries) where
  -- a field stands among all that stands in the row, and in its place
  pub given-within : at < length (all_entries format entries)
  given-within = omega (arith, given, length-append entries (under_keys said_by_key no_entry (drop (length entries) format.keys)))

  pub given-there : (e : Entry) → get_or (all_entries format entries) at e ≡ get_or entries at e
  given-there e = get_or_append_left entries (under_keys said_by_key no_entry (drop (length entries) format.keys)) e at given

-- what stands under a key for which a row has no field
pub data IsUnfilled (e : Entry) : Type 0 where
  Ruling : (sign : RuleSign) → e ≡ said_by_key (RuledField sign) → IsUnfilled e
  Going : e ≡ said_by_key AboveField → IsUnfilled e
  Empty : e ≡ no_entry → IsUnfilled e

unfilled-kind : (key : Key) → IsUnfilled (by_kind said_by_key no_entry (kind_of_key key))
unfilled-kind Left = Empty refl
unfilled-kind Right = Empty refl
unfilled-kind Center = Empty refl
unfilled-kind Numeric = Empty refl
unfilled-kind WideNumeric = Empty refl
unfilled-kind Alphabetic = Empty refl
unfilled-kind Spanned = Empty refl
unfilled-kind AboveKey = Going refl
unfilled-kind Rule = Ruling Single refl
unfilled-kind DoubleRule = Ruling Double refl

unfilled-key : (key : Option FormatKey) → IsUnfilled (by_key said_by_key no_entry key)
unfilled-key (Some k) = unfilled-kind k.key
unfilled-key None = Empty refl

pub unfilled-behind : (keys : List FormatKey) (bars : ℕ) (entries : List Entry) (at : ℕ) → length entries ≤ at
    → IsUnfilled (get_or (all_entries (record { keys = keys; bars = bars }) entries) at no_entry)
unfilled-behind keys bars entries at le =
    subst IsUnfilled (sym (get_or-behind keys bars entries at le)) (unfilled-key (slice_get keys at))

-- none of that is a block
no-block : (e : Entry) → IsUnfilled e → IsBlock e.kind → ⊥
no-block e (Ruling sign is) block = subst (λ (x : Entry). IsBlock x.kind) is block
no-block e (Going is) block = subst (λ (x : Entry). IsBlock x.kind) is block
no-block e (Empty is) block = subst (λ (x : Entry). IsBlock x.kind) is block

-- so a block is one of the row's fields
pub block-given : (keys : List FormatKey) (bars : ℕ) (entries : List Entry) (at : ℕ)
    → IsBlock (get_or (all_entries (record { keys = keys; bars = bars }) entries) at no_entry).kind → (length entries ≤ at → ⊥)
block-given keys bars entries at block le =
    no-block (get_or (all_entries (record { keys = keys; bars = bars }) entries) at no_entry) (unfilled-behind keys bars entries at le) block

-- the first of the cells that are left
pub first-left : (n : ℕ) (cells : List Cell) → n < length cells → drop n cells ≡ first_cell (drop n cells) ∷ drop (suc n) cells
first-left n cells within =
    let there = drop-cons cells n (first_cell (drop n cells)) within in
    let same : first_cell (drop n cells) ≡ get_or cells n (first_cell (drop n cells)) = ap first_cell there in
    there ∙ ap (λ (c : Cell). c ∷ drop (suc n) cells) (sym same)

-- what stands there is empty if it isn't a rule
pub empty-on : (bytes : List ℕ) (line : ℕ) (r : RowColumn) → IsUnfilled r.entry → ((sign : RuleSign) → r.entry.kind ≡ Ruled sign → ⊥)
    → IsEmptyOn bytes line r
empty-on bytes line r (Ruling sign is) other = absurd (other sign (ap (λ (e : Entry). e.kind) is))
empty-on bytes line r (Going is) other =
    let kind : r.entry.kind ≡ Above = ap (λ (e : Entry). e.kind) is in
    record { none = above-empty bytes r line kind; moved = above-moved bytes r line kind }
empty-on bytes line r (Empty is) other =
    let kind : r.entry.kind ≡ Text 0 0 = ap (λ (e : Entry). e.kind) is in
    let none : r.entry.from ≡ r.entry.to = ap (λ (e : Entry). e.from) is ∙ sym (ap (λ (e : Entry). e.to) is) in
    record { none = text-empty bytes r line 0 0 kind none; moved = text-moved bytes r line 0 0 kind }
