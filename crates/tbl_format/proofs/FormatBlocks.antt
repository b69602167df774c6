-- The rows of formats, as they lie among their keys.
use Rattle.std.proofs.Common.{◌≡◌, ℕ, zero, suc, ◌+◌, ◌-◌, ◌<◌, ◌≤◌, Bool, true, false, ◌&&◌, max, not, nat_lt, List, [], ◌∷◌, ◌++◌, length, take, drop, set, get_or, refl, sym, ap, subst, ◌∙◌, arith, length-append, length-drop, if◌then◌else◌, take-append-drop, take_all}
use Rattle.std.proofs.lemmas.List.{drop-append-le, drop_all, take-append-le}
use Rattle.tbl_format.specs.Format.{Format, FormatRow, asking, asking_for_bars, at_fault, columns_of_keys, fault_if, further, has_some, is_spanned, keys_with, last_changed, most_bars, nothing_asked, plain_key, with_asked, with_columns, with_end, with_last, with_whole, widened}
use Rattle.tbl_format.specs.FormatRows.{key_count, keys_of, rows_kept, rows_with}
use Rattle.roff_num.specs.Lists.{last_end, parts_ending}
use Rattle.tbl_format.specs.Parts.{EndWithin}
use Rattle.tbl_format.specs.declared.format.Asked.{Asked}
use Rattle.tbl_format.specs.declared.format.FormatKey.{FormatKey}
use Rattle.tbl_format.specs.RowsServed.{first_format, row_at}
use Rattle.tbl_format.specs.declared.format.FormatPlace.{FormatPlace}
use Rattle.tbl_format.specs.declared.format.FormatPlace.TheVariants.{InRows}
use Rattle.tbl_format.specs.declared.format.RowPart.TheVariants.{AtKeys}
use Rattle.std.specs.List.{slice_range}
use Rattle.tbl_format.specs.declared.format.Key.{Key}
use Rattle.tbl_format.proofs.KeyCounting.{has_some-long, has_some-none}
use Rattle.tbl_format.proofs.KeysWith.{columns_of-append, has_some-columns, keys_with-own, keys_with-wide}
use Rattle.roff_num.proofs.Lists.{last_end-append}
use Rattle.tbl_format.proofs.Parts.{EndWithin-first, PartRead, EndWithin-last, EndWithin-order, length-parts, length-slice_range, parts_ending-append, part-read, parts_ending-more, slice_range-rest}

-- all keys are in a row, or in the one begun
keys_of-with : (keys : List FormatKey) (from : ℕ) (ends bars : List ℕ) → EndWithin (length keys) from ends
    → keys_of (rows_with (parts_ending keys from ends) bars) + from ≡ last_end from ends
keys_of-with keys from [] bars within = omega arith
keys_of-with keys from (end ∷ ends) [] within =
    omega (arith, within.0, length-slice_range keys from end (EndWithin-first (length keys) end ends within.1), keys_of-with keys end ends [] within.1)
keys_of-with keys from (end ∷ ends) (n ∷ bars) within =
    omega (arith, within.0, length-slice_range keys from end (EndWithin-first (length keys) end ends within.1), keys_of-with keys end ends bars within.1)

keys_of-parts : (rows : List FormatRow) (first : ℕ) → keys_of (take first rows) + keys_of (drop first rows) ≡ keys_of rows
keys_of-parts rows zero = omega arith
keys_of-parts [] (suc first) = omega arith
keys_of-parts (row ∷ rows) (suc first) = omega (arith, keys_of-parts rows first)

-- these keys, ends and bars, the first rows of which are of earlier formats
abbrev pub format_of : List FormatKey → List ℕ → List ℕ → ℕ → List Asked → ℕ → ℕ → FormatPlace → Format
format_of keys ends row_bars first asked front bars place = record {
  earlier = take first (rows_kept keys ends row_bars);
  rows = drop first (rows_kept keys ends row_bars);
  row = drop (last_end 0 ends) keys;
  bars = bars;
  asked = asked;
  front = front;
  place = place;
}

pub key_count-all : (keys : List FormatKey) (ends row_bars : List ℕ) (first : ℕ) (asked : List Asked) (front bars : ℕ) (place : FormatPlace) → EndWithin (length keys) 0 ends
    → key_count (format_of keys ends row_bars first asked front bars place) ≡ length keys
key_count-all keys ends row_bars first asked front bars place within =
    omega (arith, keys_of-with keys 0 ends row_bars within, keys_of-parts (rows_kept keys ends row_bars) first, length-drop (last_end 0 ends) keys, EndWithin-last (length keys) 0 ends within)

-- as many rows as ends
length-with : (rows : List (List FormatKey)) (bars : List ℕ) → length (rows_with rows bars) ≡ length rows
length-with [] bars = refl
length-with (keys ∷ rows) [] = ap (λ (n : ℕ). suc n) (length-with rows [])
length-with (keys ∷ rows) (n ∷ bars) = ap (λ (m : ℕ). suc m) (length-with rows bars)

pub length-rows : (keys : List FormatKey) (ends bars : List ℕ) → length (rows_kept keys ends bars) ≡ length ends
length-rows keys ends bars = length-with (parts_ending keys 0 ends) bars ∙ length-parts keys 0 ends

-- one row more, with its bars
with-append : (rows : List (List FormatKey)) (bars : List ℕ) (keys : List FormatKey) (n : ℕ) → length bars ≡ length rows
    → rows_with (rows ++ keys ∷ []) (bars ++ n ∷ []) ≡ rows_with rows bars ++ record { keys = keys; bars = n } ∷ []
with-append [] [] keys n same = refl
with-append [] (m ∷ bars) keys n same = absurd (omega (arith, same))
with-append (row ∷ rows) [] keys n same = absurd (omega (arith, same))
with-append (row ∷ rows) (m ∷ bars) keys n same =
    ap (λ (more : List FormatRow). record { keys = row; bars = m } ∷ more) (with-append rows bars keys n (omega (arith, same)))

-- a key more stands in the row begun
pub row-key : (keys : List FormatKey) (ends : List ℕ) → EndWithin (length keys) 0 ends → (key : FormatKey)
    → drop (last_end 0 ends) (keys ++ key ∷ []) ≡ drop (last_end 0 ends) keys ++ key ∷ []
row-key keys ends within key = drop-append-le (last_end 0 ends) keys (key ∷ []) (EndWithin-last (length keys) 0 ends within)

module _ (keys : List FormatKey) (ends row_bars : List ℕ) (within : EndWithin (length keys) 0 ends) where
  rows-key : (key : FormatKey) → rows_kept (keys ++ key ∷ []) ends row_bars ≡ rows_kept keys ends row_bars
  rows-key key =
      ap (λ (rows : List (List FormatKey)). rows_with rows row_bars) (parts_ending-more keys (key ∷ []) 0 ends (EndWithin-order (length keys) 0 ends within))

  -- the row begun is whole
  pub rows-end : (n : ℕ) → length row_bars ≡ length ends
      → rows_kept keys (ends ++ length keys ∷ []) (row_bars ++ n ∷ []) ≡ rows_kept keys ends row_bars ++ record { keys = drop (last_end 0 ends) keys; bars = n } ∷ []
  rows-end n same =
      ap (λ (rows : List (List FormatKey)). rows_with rows (row_bars ++ n ∷ []))
      (parts_ending-append keys 0 (length keys) ends ∙ ap (λ (row : List FormatKey). parts_ending keys 0 ends ++ row ∷ []) (slice_range-rest keys (last_end 0 ends)))
      ∙ with-append (parts_ending keys 0 ends) row_bars (drop (last_end 0 ends) keys) n (omega (arith, same, length-parts keys 0 ends))

-- a column more
pub with_columns-longer : (asked : List Asked) (count : ℕ) → count ≡ length asked → with_columns asked count ≡ asked ++ nothing_asked ∷ []
with_columns-longer [] zero is = refl
with_columns-longer [] (suc count) is = absurd (omega (arith, is))
with_columns-longer (a ∷ asked) zero is = absurd (omega (arith, is))
with_columns-longer (a ∷ asked) (suc count) is = ap (λ (rest : List Asked). a ∷ rest) (with_columns-longer asked count (omega (arith, is)))

with_columns-within : (asked : List Asked) (count : ℕ) → count < length asked → with_columns asked count ≡ asked
with_columns-within [] count few = absurd (omega (arith, few))
with_columns-within (a ∷ asked) zero few = refl
with_columns-within (a ∷ asked) (suc count) few = ap (λ (rest : List Asked). a ∷ rest) (with_columns-within asked count (omega (arith, few)))

pub with_columns-kept : (asked : List Asked) (count : ℕ) → count ≤ length asked → (count ≡ length asked → ⊥) → with_columns asked count ≡ asked
with_columns-kept asked count few other = with_columns-within asked count (omega (arith, few, other))

-- what is asked changes one column
asking-at : (change : Asked → Asked) (asked : List Asked) (at : ℕ) (d : Asked) → at < length asked
    → asking change (suc at) asked ≡ set asked at (change (get_or asked at d))
asking-at change [] at d inside = absurd (omega (arith, inside))
asking-at change (a ∷ asked) zero d inside = refl
asking-at change (a ∷ asked) (suc at) d inside =
    ap (λ (rest : List Asked). a ∷ rest) (asking-at change asked at d (omega (arith, inside)))

pub asking-set : (change : Asked → Asked) (asked : List Asked) (columns : ℕ) (d : Asked) → 0 < columns → columns ≤ length asked
    → asking change columns asked ≡ set asked (columns - 1) (change (get_or asked (columns - 1) d))
asking-set change asked zero d some inside = absurd (omega (arith, some))
asking-set change asked (suc at) d some inside =
    let same : at ≡ suc at - 1 = omega arith in
    asking-at change asked at d (omega (arith, inside)) ∙ ap (λ (n : ℕ). set asked n (change (get_or asked n d))) same

-- and so do bars
pub bars-asked : (f : Format) (columns : ℕ) (new d : Asked) → columns ≡ columns_of_keys f.row → 0 < columns → columns ≤ length f.asked
    → new ≡ most_bars f.bars (get_or f.asked (columns - 1) d) → record f { asked = set f.asked (columns - 1) new } ≡ asking_for_bars f
bars-asked f columns new d columns_is some within new_is =
    ap (λ (a : Asked). record f { asked = set f.asked (columns - 1) a }) new_is
    ∙ ap (λ (asked : List Asked). record f { asked = asked }) (sym (asking-set (most_bars f.bars) f.asked columns d some within))
    ∙ ap (λ (n : ℕ). record f { asked = asking (most_bars f.bars) n f.asked }) columns_is
    ∙ ap (λ (t : Bool). if t then with_asked (most_bars f.bars) f else record f { front = max f.front f.bars })
    (sym (has_some-columns f.row (omega (arith, some, columns_is))))

-- whether there is a row of the last format
module _ (keys : List FormatKey) (ends row_bars : List ℕ) (first : ℕ) where
  rows-left : length (drop first (rows_kept keys ends row_bars)) ≡ length ends - first
  rows-left = omega (arith, length-drop first (rows_kept keys ends row_bars), length-rows keys ends row_bars)

  pub has-row : first < length ends → has_some (drop first (rows_kept keys ends row_bars)) ≡ true
  has-row some = has_some-long (drop first (rows_kept keys ends row_bars)) (omega (arith, some, rows-left))

  pub has-none : length ends ≤ first → has_some (drop first (rows_kept keys ends row_bars)) ≡ false
  has-none none = has_some-none (drop first (rows_kept keys ends row_bars)) (omega (arith, none, rows-left))

  pub count-rows : length (drop first (rows_kept keys ends row_bars)) ≡ length ends - first
  count-rows = rows-left

-- the last key is said something of
last-append : (change : FormatKey → FormatKey) (front : List FormatKey) (key : FormatKey) → last_changed change (front ++ key ∷ []) ≡ front ++ change key ∷ []
last-append change [] key = refl
last-append change (k ∷ []) key = refl
last-append change (k ∷ next ∷ front) key = ap (λ (rest : List FormatKey). k ∷ rest) (last-append change (next ∷ front) key)

EndWithin-less : (len more from : ℕ) (ends : List ℕ) → last_end from ends ≤ len → EndWithin more from ends → EndWithin len from ends
EndWithin-less len more from [] last within = last
EndWithin-less len more from (end ∷ ends) last within = (within.0, EndWithin-less len more end ends last within.1)

-- a list with a last element
record HasLast (keys : List FormatKey) : Type 0 where
  front : List FormatKey
  last : FormatKey
  is : keys ≡ front ++ last ∷ []

has_last-more : (key : FormatKey) (keys : List FormatKey) → HasLast keys → HasLast (key ∷ keys)
has_last-more key keys has = record { front = key ∷ has.front; last = has.last; is = ap (λ (rest : List FormatKey). key ∷ rest) has.is }

has_last : (key : FormatKey) (keys : List FormatKey) → HasLast (key ∷ keys)
has_last key [] = record { front = []; last = key; is = refl }
has_last key (next ∷ keys) = has_last-more key (next ∷ keys) (has_last next keys)

has_last-some : (keys : List FormatKey) → 0 < length keys → HasLast keys
has_last-some [] some = absurd (omega (arith, some))
has_last-some (key ∷ keys) some = has_last key keys

set-last : (front : List FormatKey) (key new : FormatKey) → set (front ++ key ∷ []) (length front) new ≡ front ++ new ∷ []
set-last [] key new = refl
set-last (k ∷ front) key new = ap (λ (rest : List FormatKey). k ∷ rest) (set-last front key new)

get-last : (front : List FormatKey) (key d : FormatKey) → get_or (front ++ key ∷ []) (length front) d ≡ key
get-last [] key d = refl
get-last (k ∷ front) key d = get-last front key d

-- only the row begun changes, and in it the last key
pub record LastChanged (change : FormatKey → FormatKey) (ends : List ℕ) (keys new : List FormatKey) : Type 0 where
  pub parts : parts_ending new 0 ends ≡ parts_ending keys 0 ends
  pub row : drop (last_end 0 ends) new ≡ last_changed change (drop (last_end 0 ends) keys)

module _ (change : FormatKey → FormatKey) (ends : List ℕ) where
  append-changed : (keys : List FormatKey) (key : FormatKey) → EndWithin (length keys) 0 ends
      → LastChanged change ends (keys ++ key ∷ []) (keys ++ change key ∷ [])
  append-changed keys key within =
      let order = EndWithin-order (length keys) 0 ends within in
      record {
        parts = parts_ending-more keys (change key ∷ []) 0 ends order ∙ sym (parts_ending-more keys (key ∷ []) 0 ends order);
        row = row-key keys ends within (change key) ∙ sym (last-append change (drop (last_end 0 ends) keys) key)
            ∙ ap (last_changed change) (sym (row-key keys ends within key));
      }

  pub set-changed : (keys : List FormatKey) (at : ℕ) (new d : FormatKey) → EndWithin (length keys) 0 ends → last_end 0 ends < length keys
      → at ≡ length keys - 1 → new ≡ change (get_or keys at d) → LastChanged change ends keys (set keys at new)
  set-changed keys at new d within some at_is new_is =
      let has = has_last-some keys (omega (arith, some)) in
      let len = length-append has.front (has.last ∷ []) in
      let all = ap length has.is in
      let at_last : at ≡ length has.front = omega (arith, at_is, all, len) in
      let new_last : new ≡ change has.last =
      new_is ∙ ap (λ (n : ℕ). change (get_or keys n d)) at_last ∙ ap (λ (xs : List FormatKey). change (get_or xs (length has.front) d)) has.is
      ∙ ap change (get-last has.front has.last d) in
      let set_last : set keys at new ≡ has.front ++ change has.last ∷ [] =
      ap (λ (n : ℕ). set keys n new) at_last ∙ ap (λ (xs : List FormatKey). set xs (length has.front) new) has.is
      ∙ set-last has.front has.last new ∙ ap (λ (k : FormatKey). has.front ++ k ∷ []) new_last in
      let less = EndWithin-less (length has.front) (length keys) 0 ends (omega (arith, some, all, len)) within in
      let changed = append-changed has.front has.last less in
      subst (λ (xs : List FormatKey). LastChanged change ends xs (set keys at new)) (sym has.is)
      (subst (LastChanged change ends (has.front ++ has.last ∷ [])) (sym set_last) changed)

  pub format-said : (row_bars : List ℕ) (first : ℕ) (asked : List Asked) (front bars : ℕ) (place : FormatPlace) (keys new : List FormatKey)
      → LastChanged change ends keys new
      → format_of new ends row_bars first asked front bars place ≡ with_last change (format_of keys ends row_bars first asked front bars place)
  format-said row_bars first asked front bars place keys new changed =
      let rows = ap (λ (parts : List (List FormatKey)). rows_with parts row_bars) changed.parts in
      ap (λ (rs : List FormatRow). let g : Format = record { earlier = take first rs; rows = drop first rs; row = drop (last_end 0 ends) new; bars = bars; asked = asked; front = front; place = place } in g) rows
      ∙ ap (λ (r : List FormatKey). let g : Format = record { earlier = take first (rows_kept keys ends row_bars); rows = drop first (rows_kept keys ends row_bars); row = r; bars = bars; asked = asked; front = front; place = place } in g) changed.row

-- the last key of the row begun is the last of all
pub columns-last : (keys : List FormatKey) (from at : ℕ) (d : FormatKey) → from < length keys → at ≡ length keys - 1
    → columns_of_keys (drop from keys) ≡ (get_or keys at d).end
columns-last keys from at d some at_is =
    let has = has_last-some keys (omega (arith, some)) in
    let len = length-append has.front (has.last ∷ []) in
    let all = ap length has.is in
    let at_last : at ≡ length has.front = omega (arith, at_is, all, len) in
    let within : from ≤ length has.front = omega (arith, some, all, len) in
    let last = ap (λ (n : ℕ). (get_or keys n d).end) at_last ∙ ap (λ (xs : List FormatKey). (get_or xs (length has.front) d).end) has.is
    ∙ ap (λ (k : FormatKey). k.end) (get-last has.front has.last d) in
    ap (λ (xs : List FormatKey). columns_of_keys (drop from xs)) has.is
    ∙ ap columns_of_keys (drop-append-le from has.front (has.last ∷ []) within)
    ∙ columns_of-append (drop from has.front) has.last ∙ sym last

module _ (keys : List FormatKey) (ends row_bars : List ℕ) (first : ℕ) (asked : List Asked) (front bars : ℕ) (place : FormatPlace) where
  abbrev this : Format
  this = format_of keys ends row_bars first asked front bars place

  pub end-none : first ≡ length ends → at_fault this ≡ with_end this
  end-none none =
      ap (λ (t : Bool). fault_if (not t) this) (sym (has-none keys ends row_bars first (omega (arith, none))))

  pub end-some : first < length ends → this ≡ with_end this
  end-some some = ap (λ (t : Bool). fault_if (not t) this) (sym (has-row keys ends row_bars first some))

  pub further-is : (start : FormatPlace) → first ≤ length ends → drop (last_end 0 ends) keys ≡ [] → start ≡ InRows AtKeys
      → format_of keys ends row_bars (length ends) asked front 0 start ≡ further this
  further-is start within none start_is =
      let all = rows_kept keys ends row_bars in
      let earlier : take (length ends) all ≡ take first all ++ drop first all =
      take_all (length ends) all (omega (arith, length-rows keys ends row_bars)) ∙ sym (take-append-drop first all) in
      let rows : drop (length ends) all ≡ [] = drop_all (length ends) all (omega (arith, length-rows keys ends row_bars)) in
      ap (λ (rs : List FormatRow). let g : Format = record { earlier = rs; rows = drop (length ends) all; row = drop (last_end 0 ends) keys; bars = 0; asked = asked; front = front; place = start } in g) earlier
      ∙ ap (λ (rs : List FormatRow). let g : Format = record { earlier = take first all ++ drop first all; rows = rs; row = drop (last_end 0 ends) keys; bars = 0; asked = asked; front = front; place = start } in g) rows
      ∙ ap (λ (r : List FormatKey). let g : Format = record { earlier = take first all ++ drop first all; rows = []; row = r; bars = 0; asked = asked; front = front; place = start } in g) none
      ∙ ap (λ (p : FormatPlace). let g : Format = record { earlier = take first all ++ drop first all; rows = []; row = []; bars = 0; asked = asked; front = front; place = p } in g) start_is

  module _ (within : EndWithin (length keys) 0 ends) where
    pub format-whole : 0 < length (drop (last_end 0 ends) keys) → length row_bars ≡ length ends → first ≤ length ends
        → format_of keys (ends ++ length keys ∷ []) (row_bars ++ bars ∷ []) first asked front 0 place ≡ with_whole this
    format-whole some same behind =
        let all = rows_kept keys ends row_bars in
        let row : FormatRow = record { keys = this.row; bars = bars } in
        let nothing : drop (last_end 0 (ends ++ length keys ∷ [])) keys ≡ [] =
        ap (λ (n : ℕ). drop n keys) (last_end-append 0 (length keys) ends) ∙ drop_all (length keys) keys (omega arith) in
        let count : first ≤ length all = omega (arith, behind, length-rows keys ends row_bars) in
        ap (λ (rs : List FormatRow). let g : Format = record { earlier = take first rs; rows = drop first rs; row = drop (last_end 0 (ends ++ length keys ∷ [])) keys; bars = 0; asked = asked; front = front; place = place } in g) (rows-end keys ends row_bars within bars same)
        ∙ ap (λ (rs : List FormatRow). let g : Format = record { earlier = rs; rows = drop first (all ++ row ∷ []); row = drop (last_end 0 (ends ++ length keys ∷ [])) keys; bars = 0; asked = asked; front = front; place = place } in g) (take-append-le first all (row ∷ []) count)
        ∙ ap (λ (rs : List FormatRow). let g : Format = record { earlier = take first all; rows = rs; row = drop (last_end 0 (ends ++ length keys ∷ [])) keys; bars = 0; asked = asked; front = front; place = place } in g) (drop-append-le first all (row ∷ []) count)
        ∙ ap (λ (r : List FormatKey). let g : Format = record { earlier = take first all; rows = drop first all ++ row ∷ []; row = r; bars = 0; asked = asked; front = front; place = place } in g) nothing
        ∙ ap (λ (t : Bool). if t then record this { rows = this.rows ++ row ∷ []; row = []; bars = 0 } else fault_if (nat_lt 0 this.bars) this) (sym (has_some-long this.row some))

    -- one key more, and what that makes of a row with one column more
    format-key : (k : FormatKey) → format_of (keys ++ k ∷ []) ends row_bars first asked front bars place ≡ record this { row = this.row ++ k ∷ [] }
    format-key k =
        ap (λ (rs : List FormatRow). let h : Format = record { earlier = take first rs; rows = drop first rs; row = drop (last_end 0 ends) (keys ++ k ∷ []); bars = bars; asked = asked; front = front; place = place } in h) (rows-key keys ends row_bars within k)
        ∙ ap (λ (r : List FormatKey). record this { row = r }) (row-key keys ends within k)

    pub format-cell : (key : Key) (k : FormatKey) → k ≡ plain_key bars key (columns_of_keys this.row) → (is_spanned key && has_some this.row) ≡ false
        → format_of (keys ++ k ∷ []) ends row_bars first asked front bars place ≡ record this { row = keys_with key bars this.row }
    format-cell key k k_is own =
        format-key k
        ∙ ap (λ (q : FormatKey). record this { row = this.row ++ q ∷ [] }) k_is
        ∙ ap (λ (r : List FormatKey). record this { row = r }) (sym (keys_with-own key bars this.row own))

    pub format-wide : (key : Key) (new : List FormatKey) → LastChanged widened ends keys new → is_spanned key ≡ true → has_some this.row ≡ true
        → format_of new ends row_bars first asked front bars place ≡ record this { row = keys_with key bars this.row }
    format-wide key new changed spans some =
        format-said widened ends row_bars first asked front bars place keys new changed
        ∙ ap (λ (r : List FormatKey). record this { row = r }) (sym (keys_with-wide key bars this.row spans some))

drop-drop : (m n : ℕ) (rows : List FormatRow) → drop n (drop m rows) ≡ drop (m + n) rows
drop-drop zero n rows = let same : n ≡ 0 + n = omega arith in ap (λ (k : ℕ). drop k rows) same
drop-drop (suc m) n [] = drop_all n [] (omega arith) ∙ sym (drop_all (suc m + n) [] (omega arith))
drop-drop (suc m) n (row ∷ rows) =
    let same : suc (m + n) ≡ suc m + n = omega arith in drop-drop m n rows ∙ ap (λ (k : ℕ). drop k (row ∷ rows)) same

-- one of the rows of the last format
abbrev first_keys : List (List FormatKey) → List FormatKey
first_keys [] = []
first_keys (keys ∷ rows) = keys

with-first : (rows : List (List FormatKey)) (bars : List ℕ) (n : ℕ) → first_format (drop n (rows_with rows bars)) ≡ first_keys (drop n rows)
with-first [] bars zero = refl
with-first [] bars (suc n) = refl
with-first (keys ∷ rows) [] zero = refl
with-first (keys ∷ rows) [] (suc n) = with-first rows [] n
with-first (keys ∷ rows) (m ∷ bars) zero = refl
with-first (keys ∷ rows) (m ∷ bars) (suc n) = with-first rows bars n

pub row-read : (keys : List FormatKey) (ends row_bars : List ℕ) (first at : ℕ) {start end : ℕ} → PartRead ends (first + at) start end
    → slice_range keys start end ≡ first_format (drop at (drop first (rows_kept keys ends row_bars)))
row-read keys ends row_bars first at read =
    sym (ap first_format (drop-drop first at (rows_kept keys ends row_bars))
    ∙ with-first (parts_ending keys 0 ends) row_bars (first + at)
    ∙ ap first_keys (part-read keys read))

-- and among the rows of all formats
first-row_at : (rows : List FormatRow) (at : ℕ) → first_format (drop at rows) ≡ (row_at rows at).keys
first-row_at [] zero = refl
first-row_at [] (suc at) = refl
first-row_at (row ∷ rows) zero = refl
first-row_at (row ∷ rows) (suc at) = first-row_at rows at

-- and its bars
with-bars : (rows : List (List FormatKey)) (bars : List ℕ) (at : ℕ) → at < length rows → (row_at (rows_with rows bars) at).bars ≡ get_or bars at 0
with-bars [] bars at some = absurd (omega (arith, some))
with-bars (keys ∷ rows) [] zero some = refl
with-bars (keys ∷ rows) [] (suc at) some = with-bars rows [] at (omega (arith, some))
with-bars (keys ∷ rows) (n ∷ bars) zero some = refl
with-bars (keys ∷ rows) (n ∷ bars) (suc at) some = with-bars rows bars at (omega (arith, some))

module _ (keys : List FormatKey) (ends row_bars : List ℕ) (first : ℕ) where
  abbrev kept : List FormatRow
  kept = rows_kept keys ends row_bars

  pub count-all : length (take first kept ++ drop first kept) ≡ length ends
  count-all = ap length (take-append-drop first kept) ∙ length-rows keys ends row_bars

  pub row_of_all-read : (at : ℕ) {start end : ℕ} → PartRead ends at start end → slice_range keys start end ≡ (row_at (take first kept ++ drop first kept) at).keys
  row_of_all-read at read =
      sym (ap (λ (rows : List FormatRow). (row_at rows at).keys) (take-append-drop first kept)
      ∙ sym (first-row_at kept at)
      ∙ with-first (parts_ending keys 0 ends) row_bars at
      ∙ ap first_keys (part-read keys read))

  pub bars_of_all-read : (at : ℕ) → at < length ends → get_or row_bars at 0 ≡ (row_at (take first kept ++ drop first kept) at).bars
  bars_of_all-read at some =
      sym (ap (λ (rows : List FormatRow). (row_at rows at).bars) (take-append-drop first kept)
      ∙ with-bars (parts_ending keys 0 ends) row_bars at (omega (arith, some, length-parts keys 0 ends)))
