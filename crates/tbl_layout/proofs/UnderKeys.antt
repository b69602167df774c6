-- What stands under keys where a row has no fields for them.
use Rattle.std.proofs.Common.{◌≡◌, ℕ, zero, suc, ◌+◌, ◌-◌, ◌<◌, ◌≤◌, true, List, [], ◌∷◌, ◌++◌, length, map, drop, get_or, Option, Some, None, refl, sym, ap, ◌∙◌, arith, length-append, is_some, slice_get, drop-drop}
use Rattle.std.proofs.lemmas.Option.{slice_get-get_or}
use Rattle.std.proofs.lemmas.List.{get_or-append_right, length-map, map-append}
use Rattle.tbl_format.specs.Format.{FormatRow}
use Rattle.tbl_format.specs.declared.format.FormatKey.{FormatKey}
use Rattle.tbl_layout.specs.Entries.{Content, Text, completed, content_of_kind}
use Rattle.tbl_layout.specs.KeptEntries.{all_entries, content_of, entry_under, no_entry, said_by_key}
use Rattle.tbl_layout.specs.RuleKeys.{in_front_of, kind_of_key, under_keys}
use Rattle.tbl_layout.specs.declared.data_lines.FieldKind.{FieldKind}
use Rattle.tbl_layout.specs.declared.data_lines.FieldKind.TheVariants.{Above, Repeated, Ruled, Short, Text as OneText}
use Rattle.tbl_layout.specs.declared.entry.Entry.{Entry}

-- what stands under one key, if there is one
abbrev pub by_kind : {A : Type 0} → (FieldKind → A) → A → Option FieldKind → A
by_kind said empty (Some kind) = said kind
by_kind said empty None = empty

abbrev pub by_key : {A : Type 0} → (FieldKind → A) → A → Option FormatKey → A
by_key said empty None = empty
by_key said empty (Some k) = by_kind said empty (kind_of_key k.key)

module _ {A : Type 0} (said : FieldKind → A) (empty : A) where
  first-in_front : (kind : Option FieldKind) (fields : List A) → get_or (in_front_of said empty kind fields) 0 empty ≡ by_kind said empty kind
  first-in_front (Some kind) fields = refl
  first-in_front None [] = refl
  first-in_front None (field ∷ fields) = refl

  behind-in_front : (kind : Option FieldKind) (fields : List A) (at : ℕ)
      → get_or (in_front_of said empty kind fields) (suc at) empty ≡ get_or fields at empty
  behind-in_front (Some kind) fields at = refl
  behind-in_front None [] at = refl
  behind-in_front None (field ∷ fields) at = refl

  -- what stands in a place
  pub get_or-under : (keys : List FormatKey) (at : ℕ) → get_or (under_keys said empty keys) at empty ≡ by_key said empty (slice_get keys at)
  get_or-under [] at = refl
  get_or-under (k ∷ keys) zero = first-in_front (kind_of_key k.key) (under_keys said empty keys)
  get_or-under (k ∷ keys) (suc at) = behind-in_front (kind_of_key k.key) (under_keys said empty keys) at ∙ get_or-under keys at

  -- nothing stands behind the last key that says what its fields are
  none-in_front : (kind : Option FieldKind) (fields : List A) → in_front_of said empty kind fields ≡ [] → fields ≡ []
  none-in_front (Some kind) fields none = absurd cc
  none-in_front None [] none = refl
  none-in_front None (field ∷ fields) none = absurd cc

  pub none-behind : (keys : List FormatKey) (n m : ℕ) → under_keys said empty (drop n keys) ≡ [] → n ≤ m → under_keys said empty (drop m keys) ≡ []
  none-behind [] n zero none le = refl
  none-behind [] n (suc m) none le = refl
  none-behind (k ∷ keys) zero zero none le = none
  none-behind (k ∷ keys) zero (suc m) none le = none-behind keys 0 m (none-in_front (kind_of_key k.key) (under_keys said empty keys) none) (omega arith)
  none-behind (k ∷ keys) (suc n) zero none le = absurd (omega (arith, le))
  none-behind (k ∷ keys) (suc n) (suc m) none le = none-behind keys n m none (omega (arith, le))

  more-in_front : (kind : Option FieldKind) (fields : List A) → 0 < length fields → length (in_front_of said empty kind fields) ≡ suc (length fields)
  more-in_front (Some kind) fields some = refl
  more-in_front None [] some = absurd (omega (arith, some))
  more-in_front None (field ∷ fields) some = refl

  -- the last one stands under the last key that says what its fields are
  pub length-last : (n : ℕ) (keys : List FormatKey) → length (under_keys said empty (drop n keys)) ≡ 1 → length (under_keys said empty keys) ≡ n + 1
  length-last zero keys one = one
  length-last (suc n) [] one =
      let none : 0 ≡ 1 = one in
      absurd (omega (arith, none))
  length-last (suc n) (k ∷ keys) one =
      let rest = length-last n keys one in
      more-in_front (kind_of_key k.key) (under_keys said empty keys) (omega (arith, rest)) ∙ omega (arith, rest)

  kind-in_front : (kind : Option FieldKind) → is_some kind ≡ true → length (in_front_of said empty kind []) ≡ 1
  kind-in_front None is = absurd cc
  kind-in_front (Some kind) is = refl

  pub one-more : (keys : List FormatKey) (n : ℕ) (k : FormatKey) → slice_get keys n ≡ Some k → is_some (kind_of_key k.key) ≡ true
      → under_keys said empty (drop (suc n) keys) ≡ [] → length (under_keys said empty (drop n keys)) ≡ 1
  one-more [] n k there said_by none = absurd cc
  one-more (k ∷ keys) zero q there said_by none =
      let same : k ≡ q = cc in
      ap (λ (fields : List A). length (in_front_of said empty (kind_of_key k.key) fields)) none
      ∙ kind-in_front (kind_of_key k.key) (ap (λ (k : FormatKey). is_some (kind_of_key k.key)) same ∙ said_by)
  one-more (k ∷ keys) (suc n) q there said_by none = one-more keys n q there said_by none

  -- a function of what stands there
  map-in_front : {B : Type 0} (f : A → B) (kind : Option FieldKind) (fields : List A)
      → map f (in_front_of said empty kind fields) ≡ in_front_of (λ (k : FieldKind). f (said k)) (f empty) kind (map f fields)
  map-in_front f (Some kind) fields = refl
  map-in_front f None [] = refl
  map-in_front f None (field ∷ fields) = refl

  pub map-under : {B : Type 0} (f : A → B) (keys : List FormatKey)
      → map f (under_keys said empty keys) ≡ under_keys (λ (k : FieldKind). f (said k)) (f empty) keys
  map-under f [] = refl
  map-under f (k ∷ keys) =
      map-in_front f (kind_of_key k.key) (under_keys said empty keys)
      ∙ ap (λ fields. in_front_of (λ (k : FieldKind). f (said k)) (f empty) (kind_of_key k.key) fields) (map-under f keys)

-- what is said alike
module _ {A : Type 0} (said other : FieldKind → A) (empty : A) (same : (kind : FieldKind) → said kind ≡ other kind) where
  in_front-same : (kind : Option FieldKind) (fields : List A) → in_front_of said empty kind fields ≡ in_front_of other empty kind fields
  in_front-same (Some kind) fields = ap (λ (first : A). first ∷ fields) (same kind)
  in_front-same None [] = refl
  in_front-same None (field ∷ fields) = refl

  under-same : (keys : List FormatKey) → under_keys said empty keys ≡ under_keys other empty keys
  under-same [] = refl
  under-same (k ∷ keys) =
      in_front-same (kind_of_key k.key) (under_keys said empty keys)
      ∙ ap (λ fields. in_front_of other empty (kind_of_key k.key) fields) (under-same keys)

content-said : (bytes : List ℕ) (kind : FieldKind) → content_of bytes (said_by_key kind) ≡ content_of_kind kind
content-said bytes (Ruled sign) = refl
content-said bytes Short = refl
content-said bytes (Repeated b) = refl
content-said bytes Above = refl
content-said bytes OneText = refl

-- the fields of a row that is kept, with what stands behind them
pub contents-completed : (bytes : List ℕ) (format : FormatRow) (entries : List Entry)
    → map (content_of bytes) (all_entries format entries) ≡ completed format (map (content_of bytes) entries)
contents-completed bytes format entries =
    let keys = drop (length entries) format.keys in
    map-append (content_of bytes) entries (under_keys said_by_key no_entry keys)
    ∙ ap (λ (fields : List Content). map (content_of bytes) entries ++ fields)
    (map-under said_by_key no_entry (content_of bytes) keys
    ∙ under-same (λ (k : FieldKind). content_of bytes (said_by_key k)) content_of_kind (Text []) (content-said bytes) keys)
    ∙ ap (λ (n : ℕ). map (content_of bytes) entries ++ under_keys content_of_kind (Text []) (drop n format.keys)) (sym (length-map entries (content_of bytes)))

-- a place behind others
slice_get-drop : (n : ℕ) (keys : List FormatKey) (at : ℕ) → n ≤ at → slice_get (drop n keys) (at - n) ≡ slice_get keys at
slice_get-drop zero keys at le =
    let same : at - zero ≡ at = omega arith in
    ap (λ (n : ℕ). slice_get keys n) same
slice_get-drop (suc n) [] at le = refl
slice_get-drop (suc n) (k ∷ keys) zero le = absurd (omega (arith, le))
slice_get-drop (suc n) (k ∷ keys) (suc at) le =
    let less : suc at - suc n ≡ at - n = omega arith in
    ap (λ (m : ℕ). slice_get (drop n keys) m) less ∙ slice_get-drop n keys at (omega (arith, le))

-- what stands behind the last field of a row
pub get_or-behind : (keys : List FormatKey) (bars : ℕ) (entries : List Entry) (at : ℕ) → length entries ≤ at
    → get_or (all_entries (record { keys = keys; bars = bars }) entries) at no_entry ≡ by_key said_by_key no_entry (slice_get keys at)
get_or-behind keys bars entries at le =
    get_or-append_right entries (under_keys said_by_key no_entry (drop (length entries) keys)) (length entries) at no_entry refl le
    ∙ get_or-under said_by_key no_entry (drop (length entries) keys) (at - length entries)
    ∙ ap (by_key said_by_key no_entry) (slice_get-drop (length entries) keys at le)

entry_under-is : (kind : Option FieldKind) → by_kind said_by_key no_entry kind ≡ entry_under kind
entry_under-is (Some kind) = refl
entry_under-is None = refl

module _ (keys : List FormatKey) (bars at : ℕ) (entries : List Entry) (le : length entries ≤ at) where
  pub entry-some : (k : FormatKey) → Some k ≡ slice_get keys at
      → entry_under (kind_of_key k.key) ≡ get_or (all_entries (record { keys = keys; bars = bars }) entries) at no_entry
  entry-some k is =
      sym (entry_under-is (kind_of_key k.key)) ∙ ap (by_key said_by_key no_entry) is ∙ sym (get_or-behind keys bars entries at le)

  pub entry-none : None ≡ slice_get keys at → no_entry ≡ get_or (all_entries (record { keys = keys; bars = bars }) entries) at no_entry
  entry-none is = ap (by_key said_by_key no_entry) is ∙ sym (get_or-behind keys bars entries at le)

-- a row fills as many columns as stand up to its last rule key
module _ (keys : List FormatKey) (bars given : ℕ) (entries : List Entry) (is : length entries ≡ given) where
  filled : length (all_entries (record { keys = keys; bars = bars }) entries) ≡ given + length (under_keys said_by_key no_entry (drop given keys))
  filled =
      length-append entries (under_keys said_by_key no_entry (drop (length entries) keys))
      ∙ ap (λ (n : ℕ). n + length (under_keys said_by_key no_entry (drop n keys))) is

  pub filled-none : (count : ℕ) → under_keys said_by_key no_entry (drop count keys) ≡ [] → count ≤ given
      → given ≡ length (all_entries (record { keys = keys; bars = bars }) entries)
  filled-none count none le =
      let behind : length (under_keys said_by_key no_entry (drop given keys)) ≡ 0 = ap length (none-behind said_by_key no_entry keys count given none le) in
      omega (arith, filled, behind)

  pub filled-last : (last : ℕ) (none_there : FormatKey) → last < length keys → is_some (kind_of_key (get_or keys last none_there).key) ≡ true
      → under_keys said_by_key no_entry (drop (suc last) keys) ≡ [] → given ≤ last
      → suc last ≡ length (all_entries (record { keys = keys; bars = bars }) entries)
  filled-last last none_there within said_by none le =
      let there = slice_get-get_or keys last none_there within in
      let place : given + (last - given) ≡ last = omega (arith, le) in
      let one = one-more said_by_key no_entry keys last (get_or keys last none_there) there said_by none in
      let same = drop-drop (last - given) given keys ∙ ap (λ (n : ℕ). drop n keys) place in
      let all = length-last said_by_key no_entry (last - given) (drop given keys) (ap (λ (rest : List FormatKey). length (under_keys said_by_key no_entry rest)) same ∙ one) in
      omega (arith, filled, all, le)
