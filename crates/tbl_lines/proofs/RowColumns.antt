-- The cells of a row, by their places.
use Rattle.std.proofs.Common.{◌≡◌, ℕ, zero, suc, ◌+◌, ◌<◌, ◌≤◌, List, [], ◌∷◌, ◌++◌, length, take, drop, get_or, map, refl, sym, ap, subst, ◌∙◌, arith, if◌then◌else◌}
use Rattle.std.specs.List.{AllByRecursion}
use Rattle.std.proofs.lemmas.List.{drop-map}
use Rattle.tbl_format.specs.Format.{FormatRow}
use Rattle.tbl_format.specs.declared.format.FormatKey.{FormatKey}
use Rattle.tbl_options.specs.declared.options.Boxing.{Boxing}
use Rattle.tbl_layout.specs.declared.columns.Column.{Column}
use Rattle.tbl_layout.specs.declared.data_lines.RuleSign.{RuleSign}
use Rattle.tbl_layout.specs.declared.entry.Entry.{Entry}
use Rattle.tbl_layout.specs.KeptEntries.{Lies, no_entry}
use Rattle.tbl_lines.specs.PictureLines.{bars_between, joint}
use Rattle.tbl_format.specs.FormatLaws.{bars_among}
use Rattle.tbl_lines.specs.RowsLeft.{block_text, end_by, is_ruled_by, key_of, row_columns, rule_end_by}
use Rattle.tbl_lines.specs.RowsWalked.{IsNarrow, PlacesLie}
use Rattle.tbl_lines.specs.declared.row_columns.RowColumn.{RowColumn}
use Rattle.tbl_text.specs.BlockPlaces.{IsWithin}
use Rattle.tbl_text.specs.declared.block_parts.BlockPlace.{BlockPlace}

-- no element is left of none
pub drop-none : {A : Type 0} (n : ℕ) → drop {A = A} n [] ≡ []
drop-none zero = refl
drop-none (suc n) = refl

-- what is behind the first that is left
pub drop-next : {A : Type 0} (n : ℕ) (xs : List A) (x : A) (rest : List A) → drop n xs ≡ x ∷ rest → drop (suc n) xs ≡ rest
drop-next zero [] x rest is = absurd (cc)
drop-next zero (y ∷ xs) x rest is = cc
drop-next (suc n) [] x rest is = absurd (cc)
drop-next (suc n) (y ∷ xs) x rest is = drop-next n xs x rest is

pub take-next : {A : Type 0} (n : ℕ) (xs : List A) (x : A) (rest : List A) → drop n xs ≡ x ∷ rest → take (suc n) xs ≡ take n xs ++ x ∷ []
take-next zero [] x rest is = absurd (cc)
take-next {A = A} zero (y ∷ xs) x rest is = let same : y ≡ x = cc in ap (λ (z : A). z ∷ []) same
take-next (suc n) [] x rest is = absurd (cc)
take-next {A = A} (suc n) (y ∷ xs) x rest is = ap (λ (zs : List A). y ∷ zs) (take-next n xs x rest is)

-- the bars of a row of the formats: in front of a key, behind the last one, and none further on
pub among-keys : (keys : List FormatKey) (last at : ℕ) (k : FormatKey) → at < length keys
    → bars_among keys last at ≡ (get_or keys at k).bars
among-keys [] last at k few = absurd (omega (arith, few))
among-keys (x ∷ keys) last zero k few = refl
among-keys (x ∷ keys) last (suc at) k few = among-keys keys last at k (omega (arith, few))

pub among-last : (keys : List FormatKey) (last at : ℕ) → at ≡ length keys → bars_among keys last at ≡ last
among-last [] last zero is = refl
among-last [] last (suc at) is = absurd (omega (arith, is))
among-last (x ∷ keys) last zero is = absurd (omega (arith, is))
among-last (x ∷ keys) last (suc at) is = among-last keys last at (omega (arith, is))

pub among-past : (keys : List FormatKey) (last at : ℕ) → length keys < at → bars_among keys last at ≡ 0
among-past [] last zero past = absurd (omega (arith, past))
among-past [] last (suc at) past = refl
among-past (x ∷ keys) last zero past = absurd (omega (arith, past))
among-past (x ∷ keys) last (suc at) past = among-past keys last at (omega (arith, past))

module _ (boxing : Boxing) (format : FormatRow) where
  -- the cell at a place
  pub row-column : (k at : ℕ) (columns : List Column) (entries : List Entry) (places : List BlockPlace) (c : Column) (e : Entry) (p : BlockPlace)
      → at < length entries → length entries ≤ length columns → at < length places
      → drop at (row_columns boxing format k columns entries places)
      ≡ record {
        column = get_or columns at c;
        key = key_of format.keys (k + at);
        entry = get_or entries at e;
        place = get_or places at p;
        end = end_by (bars_between boxing format (suc (k + at))) (get_or entries at e).kind (get_or columns at c) (drop (suc at) columns) (drop (suc at) entries);
      }
      ∷ drop (suc at) (row_columns boxing format k columns entries places)
  row-column k at [] [] places c e p entry short place = absurd (omega (arith, entry))
  row-column k at [] (x ∷ entries) places c e p entry short place = absurd (omega (arith, short))
  row-column k at (d ∷ columns) [] places c e p entry short place = absurd (omega (arith, entry))
  row-column k at (d ∷ columns) (x ∷ entries) [] c e p entry short place = absurd (omega (arith, place))
  row-column k zero (d ∷ columns) (x ∷ entries) (q ∷ places) c e p entry short place =
      let same : k ≡ k + 0 = omega arith in
      ap (λ (i : ℕ). record { column = d; key = key_of format.keys i; entry = x; place = q; end = end_by (bars_between boxing format (suc i)) x.kind d columns entries } ∷ row_columns boxing format (suc k) columns entries places) same
  row-column k (suc at) (d ∷ columns) (x ∷ entries) (q ∷ places) c e p entry short place =
      let same : suc k + at ≡ k + suc at = omega arith in
      row-column (suc k) at columns entries places c e p (omega (arith, entry)) (omega (arith, short)) (omega (arith, place))
      ∙ ap (λ (i : ℕ). record {
        column = get_or columns at c;
        key = key_of format.keys i;
        entry = get_or entries at e;
        place = get_or places at p;
        end = end_by (bars_between boxing format (suc i)) (get_or entries at e).kind (get_or columns at c) (drop (suc at) columns) (drop (suc at) entries);
      }
      ∷ drop (suc at) (row_columns boxing format (suc k) columns entries places)) same

  pub length-row_columns : (bytes : List ℕ) (k : ℕ) (columns : List Column) (entries : List Entry) (places : List BlockPlace)
      → length entries ≤ length columns → PlacesLie bytes entries places → length (row_columns boxing format k columns entries places) ≡ length entries
  length-row_columns bytes k [] [] places short lie = refl
  length-row_columns bytes k [] (e ∷ entries) places short lie = absurd (omega (arith, short))
  length-row_columns bytes k (c ∷ columns) [] places short lie = refl
  length-row_columns bytes k (c ∷ columns) (e ∷ entries) [] short lie = absurd lie
  length-row_columns bytes k (c ∷ columns) (e ∷ entries) (p ∷ places) short lie =
      ap suc (length-row_columns bytes (suc k) columns entries places (omega (arith, short)) lie.1)

  -- no column has no place
  pub none-left : (k : ℕ) (columns : List Column) (entries : List Entry) → row_columns boxing format k columns entries [] ≡ []
  none-left k [] entries = refl
  none-left k (c ∷ columns) [] = refl
  none-left k (c ∷ columns) (e ∷ entries) = refl

  -- a place more
  pub row_columns-push : (k : ℕ) (columns : List Column) (entries : List Entry) (places behind : List BlockPlace) (p : BlockPlace) (r : RowColumn)
      (rest : List RowColumn) → drop (length behind) (row_columns boxing format k columns entries places) ≡ r ∷ rest
      → row_columns boxing format k columns entries (behind ++ p ∷ []) ≡ row_columns boxing format k columns entries behind ++ record r { place = p } ∷ []
  row_columns-push k [] entries places behind p r rest is = absurd (let no = sym (drop-none (length behind)) ∙ is in cc)
  row_columns-push k (c ∷ columns) [] places behind p r rest is = absurd (let no = sym (drop-none (length behind)) ∙ is in cc)
  row_columns-push k (c ∷ columns) (e ∷ entries) [] behind p r rest is = absurd (let no = sym (drop-none (length behind)) ∙ is in cc)
  row_columns-push k (c ∷ columns) (e ∷ entries) (q ∷ places) [] p r rest is =
      let first : RowColumn = record { column = c; key = key_of format.keys k; entry = e; place = q; end = end_by (bars_between boxing format (suc k)) e.kind c columns entries } in
      let same : first ≡ r = cc in
      ap (λ (more : List RowColumn). record first { place = p } ∷ more) (none-left (suc k) columns entries)
      ∙ ap (λ (x : RowColumn). record x { place = p } ∷ []) same
  row_columns-push k (c ∷ columns) (e ∷ entries) (q ∷ places) (b ∷ behind) p r rest is =
      ap (λ (more : List RowColumn). record { column = c; key = key_of format.keys k; entry = e; place = b; end = end_by (bars_between boxing format (suc k)) e.kind c columns entries } ∷ more)
      (row_columns-push (suc k) columns entries places behind p r rest is)

-- where a rule ends in front of a cell, and in the last one
pub rule_end-before : (bars : ℕ) (sign : RuleSign) (c d : Column) (at : ℕ) (columns : List Column) (entries : List Entry)
    → rule_end_by bars sign c (d ∷ columns) (drop at entries)
    ≡ (if is_ruled_by sign (get_or entries at no_entry).kind then joint bars c d else c.start + c.width)
rule_end-before bars sign c d at columns [] = ap (rule_end_by bars sign c (d ∷ columns)) (drop-none at)
rule_end-before bars sign c d zero columns (e ∷ entries) = refl
rule_end-before bars sign c d (suc at) columns (e ∷ entries) = rule_end-before bars sign c d at columns entries

pub rule_end-last : (bars : ℕ) (sign : RuleSign) (c : Column) (columns : List Column) (entries : List Entry) → columns ≡ []
    → rule_end_by bars sign c columns entries ≡ c.start + c.width
rule_end-last bars sign c columns entries none = ap (λ (cs : List Column). rule_end_by bars sign c cs entries) none

pub narrow-at : (columns : List Column) (at : ℕ) (c : Column) → AllByRecursion IsNarrow columns → at < length columns
    → IsNarrow (get_or columns at c)
narrow-at [] at c narrow within = absurd (omega (arith, within))
narrow-at (d ∷ columns) zero c narrow within = narrow.0
narrow-at (d ∷ columns) (suc at) c narrow within = narrow-at columns at c narrow.1 (omega (arith, within))

-- what is known of a column at a place
pub record ColumnLies (bytes : List ℕ) (all : List Entry) (n : ℕ) (r : RowColumn) : Type 0 where
  pub entries : drop n all ≡ r.entry ∷ drop (suc n) all
  pub lies : Lies bytes r.entry
  pub within : IsWithin (block_text bytes r.entry) r.place
  pub narrow : IsNarrow r.column

pub column-lies : (bytes : List ℕ) (boxing : Boxing) (format : FormatRow) (k n : ℕ) (columns : List Column) (entries : List Entry) (places : List BlockPlace)
    (r : RowColumn) (rest : List RowColumn) → drop n (row_columns boxing format k columns entries places) ≡ r ∷ rest
    → AllByRecursion (Lies bytes) entries → AllByRecursion IsNarrow columns → PlacesLie bytes entries places
    → ColumnLies bytes entries n r
column-lies bytes boxing format k n [] entries places r rest is lie narrow within = absurd (let no = sym (drop-none n) ∙ is in cc)
column-lies bytes boxing format k n (c ∷ columns) [] places r rest is lie narrow within = absurd (let no = sym (drop-none n) ∙ is in cc)
column-lies bytes boxing format k n (c ∷ columns) (e ∷ entries) [] r rest is lie narrow within = absurd within
column-lies bytes boxing format k zero (c ∷ columns) (e ∷ entries) (p ∷ places) r rest is lie narrow within =
    let first : RowColumn = record { column = c; key = key_of format.keys k; entry = e; place = p; end = end_by (bars_between boxing format (suc k)) e.kind c columns entries } in
    let same : first ≡ r = cc in
    subst (ColumnLies bytes (e ∷ entries) 0) same (record { entries = refl; lies = lie.0; within = within.0; narrow = narrow.0 })
column-lies bytes boxing format k (suc n) (c ∷ columns) (e ∷ entries) (p ∷ places) r rest is lie narrow within =
    let behind = column-lies bytes boxing format (suc k) n columns entries places r rest is lie.1 narrow.1 within.1 in
    record { entries = behind.entries; lies = behind.lies; within = behind.within; narrow = behind.narrow }

-- a place more in the blocks of a front of the fields
pub places-push : (bytes : List ℕ) (entries : List Entry) (behind : List BlockPlace) (p : BlockPlace) (e : Entry) (rest : List Entry)
    → drop (length behind) entries ≡ e ∷ rest → IsWithin (block_text bytes e) p → PlacesLie bytes (take (length behind) entries) behind
    → PlacesLie bytes (take (suc (length behind)) entries) (behind ++ p ∷ [])
places-push bytes [] behind p e rest is within lie = absurd (let no = sym (drop-none (length behind)) ∙ is in cc)
places-push bytes (x ∷ entries) [] p e rest is within lie =
    let same : x ≡ e = cc in (subst (λ (y : Entry). IsWithin (block_text bytes y) p) (sym same) within, tt)
places-push bytes (x ∷ entries) (b ∷ behind) p e rest is within lie =
    (lie.0, places-push bytes entries behind p e rest is within lie.1)

-- a place for each field
pub length-places : (bytes : List ℕ) (entries : List Entry) (places : List BlockPlace) → PlacesLie bytes entries places
    → length places ≡ length entries
length-places bytes [] [] lie = refl
length-places bytes [] (p ∷ places) lie = absurd lie
length-places bytes (e ∷ entries) [] lie = absurd lie
length-places bytes (e ∷ entries) (p ∷ places) lie = ap suc (length-places bytes entries places lie.1)

-- what is left of a list is left of another one of its elements
pub map-at : {A B : Type 0} (f : A → B) (n : ℕ) (xs : List A) (x : A) → drop n xs ≡ x ∷ drop (suc n) xs
    → drop n (map f xs) ≡ f x ∷ drop (suc n) (map f xs)
map-at {B = B} f n xs x is =
    drop-map f n xs ∙ ap (map f) is ∙ ap (λ (ys : List B). f x ∷ ys) (sym (drop-map f (suc n) xs))
