-- Texts that a row adds: no more than its fields.
use Rattle.std.proofs.Common.{◌≡◌, ℕ, zero, suc, ◌+◌, ◌<◌, ◌≤◌, Bool, true, false, not, ◌&&◌, ◌||◌, List, [], ◌∷◌, map, drop, Option, Some, None, refl, sym, ap, subst, ◌∙◌, arith, get_or, if◌then◌else◌, ◌==◌, eqb-true, ne_eqb}
use Rattle.std.specs.List.{list_any}
use Rattle.tbl_format.specs.Cells.{end_of, same_cell}
use Rattle.tbl_format.specs.Format.{FormatRow}
use Rattle.tbl_format.specs.declared.format.FormatKey.{FormatKey}
use Rattle.tbl_layout.specs.Entries.{Above, Block, Command, Content, Element, Repeated, Row, Rule, Ruled, Short, Text, field_at}
use Rattle.tbl_layout.specs.Heights.{cell_above, is_above}
use Rattle.tbl_layout.specs.Texts.{is_text, texts_among, texts_of}
use Rattle.tbl_lines.specs.CellsLeft.{Left, all_keys, all_stopped, begun, cell_by, cells_from, cells_next, gone_on, goes_on, keys_behind, lines_over, nothing_left, own_field}
use Rattle.tbl_lines.proofs.CellEnds.{EndsFrom, all-ends, ends_of, same-end}
use Rattle.tbl_lines.proofs.CellsCut.{has_text, or-right}
use Rattle.tbl_lines.proofs.RowColumns.{drop-none}

-- whether a cell ends behind so many columns in which a text stands of which nothing was cut
abbrev pub is_live : ℕ → Left → Bool
is_live end c = c.key.end == end && (not c.is_cut && has_text c)

abbrev pub one_live : ℕ → List Left → ℕ
one_live end cells = if list_any (is_live end) cells then 1 else 0

-- and how many columns have one, from one on
abbrev pub live_from : List Left → ℕ → ℕ → ℕ
live_from cells end zero = 0
live_from cells end (suc columns) = one_live end cells + live_from cells (suc end) columns

abbrev pub live : ℕ → List Left → ℕ
live columns cells = live_from cells 1 columns

live-same : (some others : List Left) → ((end : ℕ) → list_any (is_live end) some ≡ list_any (is_live end) others) → (end columns : ℕ)
    → live_from some end columns ≡ live_from others end columns
live-same some others same end zero = refl
live-same some others same end (suc columns) =
    let here : one_live end some ≡ one_live end others = ap (λ (b : Bool). if b then 1 else 0) (same end) in
    omega (arith, here, live-same some others same (suc end) columns)

pub none-live-of : (end columns : ℕ) → live_from [] end columns ≡ 0
none-live-of end zero = refl
none-live-of end (suc columns) = omega (arith, none-live-of (suc end) columns)

-- where what stands without width ends changes none of it
stop-one : (on : Bool) (end : ℕ) (c : Left) (stop : ℕ) → is_live end (if on then record c { stop = stop } else c) ≡ is_live end c
stop-one true end c stop = refl
stop-one false end c stop = refl

stop-same : (columns : ℕ) (keys : List FormatKey) (elements : List Element) (cell : ℕ) (cells : List Left) (end : ℕ)
    → list_any (is_live end) (all_stopped columns keys elements cell cells) ≡ list_any (is_live end) cells
stop-same columns keys elements cell [] end = refl
stop-same columns keys elements cell (c ∷ cells) end =
    ap (λ (b : Bool). b || list_any (is_live end) (all_stopped columns keys elements (suc cell) cells))
    (stop-one (c.key.has_no_width && not (goes_on c)) end c _)
    ∙ ap (λ (b : Bool). is_live end c || b) (stop-same columns keys elements (suc cell) cells end)

-- where nothing stands none is live
and-none : (a : Bool) → (a && false) ≡ false
and-none true = refl
and-none false = refl

nothing-live : (end : ℕ) (keys : List FormatKey) → list_any (is_live end) (map nothing_left keys) ≡ list_any (is_live end) []
nothing-live end [] = refl
nothing-live end (k ∷ keys) =
    ap (λ (b : Bool). b || list_any (is_live end) (map nothing_left keys)) (and-none (k.end == end)) ∙ nothing-live end keys

-- a cell that goes on is one above
dead-new : (text : ℕ) (at : Bool) → text ≡ 0 → (at && (text == 1)) ≡ false
dead-new text at none = rw none (and-none at)

above-own : (field : Content) → is_above field ≡ true → is_text (own_field field) ≡ 0
above-own Above is = refl
above-own (Text bytes) is = absurd (cc)
above-own (Block measure lines) is = absurd (cc)
above-own (Ruled sign) is = absurd (cc)
above-own Short is = absurd (cc)
above-own (Repeated b) is = absurd (cc)

above-is : (on : Bool) (found : Option ℕ) (other : ℕ) → (if on then found else None) ≡ Some other → on ≡ true
above-is true found other is = refl
above-is false found other is = absurd (cc)

above-found : (on : Bool) (found : Option ℕ) (other : ℕ) → (if on then found else None) ≡ Some other → found ≡ Some other
above-found true found other is = is
above-found false found other is = absurd (cc)

or-here : (a b : Bool) → a ≡ true → (a || b) ≡ true
or-here true b is = refl
or-here false b is = absurd (cc)

gone-live : (k : FormatKey) (keys : List FormatKey) (above : List Left) (at other : ℕ) (new : Left) (end : ℕ) → EndsFrom keys at (ends_of above)
    → k.end ≡ end_of keys (at + other) → is_live end new ≡ false → is_live end (get_or (map (gone_on k) above) other new) ≡ true
    → list_any (is_live end) above ≡ true
gone-live k keys [] at other new end ends k_is dead is = absurd (let both : true ≡ false = sym is ∙ dead in cc)
gone-live k keys (c ∷ above) at zero new end ends k_is dead is =
    let at_is : at + 0 ≡ at = omega arith in
    let same : k.end ≡ c.key.end = k_is ∙ ap (λ (n : ℕ). end_of keys n) at_is ∙ sym ends.0 in
    or-here (is_live end c) (list_any (is_live end) above) (subst (λ (n : ℕ). (n == end && (not c.is_cut && has_text c)) ≡ true) same is)
gone-live k keys (c ∷ above) at (suc other) new end ends k_is dead is =
    let at_is : at + suc other ≡ suc at + other = omega arith in
    or-right (is_live end c) (list_any (is_live end) above)
    (gone-live k keys above (suc at) other new end ends.1 (k_is ∙ ap (λ (n : ℕ). end_of keys n) at_is) dead is)

-- of the cells from one on, those with a text of their own that end behind so many columns
abbrev begun_live : ℕ → List Content → ℕ → List FormatKey → ℕ
begun_live end fields cell [] = 0
begun_live end fields cell (k ∷ own) =
    (if k.end == end && is_text (own_field (field_at fields cell)) == 1 then 1 else 0) + begun_live end fields (suc cell) own

or-sum : (a b : Bool) (m n : ℕ) → (if b then 1 else 0) ≤ m + n → (if a || b then 1 else 0) ≤ m + ((if a then 1 else 0) + n)
or-sum true b m n few = omega arith
or-sum false b m n few = omega (arith, few)

or-most : (a b : Bool) (m n more : ℕ) → (a ≡ true → 1 ≤ m) → (if b then 1 else 0) ≤ m + n → (if a || b then 1 else 0) ≤ m + (more + n)
or-most true b m n more one few = omega (arith, one refl)
or-most false b m n more one few = omega (arith, few)

cell-one : (found : Option ℕ) (k : FormatKey) (keys : List FormatKey) (above : List Left) (format : FormatRow) (fields : List Content)
    (cell height more end : ℕ)
    (rest : List Left) (n : ℕ) → cell_above keys format.keys fields cell ≡ found → k.end ≡ end_of format.keys cell → EndsFrom keys 0 (ends_of above)
    → one_live end rest ≤ one_live end above + n
    → one_live end (cell_by found above (begun k (field_at fields cell) height more) ∷ rest)
    ≤ one_live end above + ((if k.end == end && is_text (own_field (field_at fields cell)) == 1 then 1 else 0) + n)
cell-one None k keys above format fields cell height more end rest n is k_is ends few =
    or-sum (k.end == end && is_text (own_field (field_at fields cell)) == 1) (list_any (is_live end) rest) (one_live end above) n few
cell-one (Some other) k keys above format fields cell height more end rest n is k_is ends few =
    let field = field_at fields cell in
    let new = begun k field height more in
    let same : end_of keys other ≡ end_of format.keys cell =
    same-end keys format.keys cell other (above-found (is_above field) (same_cell keys format.keys cell) other is) in
    let none : is_text (own_field field) ≡ 0 = above-own field (above-is (is_above field) (same_cell keys format.keys cell) other is) in
    let other_is : other ≡ 0 + other = omega arith in
    or-most (is_live end (get_or (map (gone_on k) above) other new)) (list_any (is_live end) rest) (one_live end above) n
    (if k.end == end && is_text (own_field field) == 1 then 1 else 0)
    (λ live. let some = gone-live k keys above 0 other new end ends (k_is ∙ sym same ∙ ap (λ (m : ℕ). end_of keys m) other_is)
    (dead-new (is_text (own_field field)) (k.end == end) none) live in
    let one : one_live end above ≡ 1 = ap (λ (b : Bool). if b then 1 else 0) some in omega (arith, one))
    few

from-one : (keys : List FormatKey) (above : List Left) (heights : List ℕ) (elements : List Element) (format : FormatRow) (fields : List Content)
    (end cell : ℕ) (own : List FormatKey)
    → EndsFrom keys 0 (ends_of above) → EndsFrom format.keys cell (map (λ k. k.end) own)
    → one_live end (cells_from keys above heights elements format fields cell own) ≤ one_live end above + begun_live end fields cell own
from-one keys above heights elements format fields end cell [] ends own_ends = omega arith
from-one keys above heights elements format fields end cell (k ∷ own) ends own_ends =
    cell-one (cell_above keys format.keys fields cell) k keys above format fields cell (get_or heights 0 0)
    (lines_over format.keys cell 0 (drop 1 heights) elements) end
    (cells_from keys above heights elements format fields (suc cell) own) (begun_live end fields (suc cell) own) refl own_ends.0 ends
    (from-one keys above heights elements format fields end (suc cell) own ends own_ends.1)

-- over all columns
abbrev begun_from : List Content → ℕ → List FormatKey → ℕ → ℕ → ℕ
begun_from fields cell own end zero = 0
begun_from fields cell own end (suc columns) = begun_live end fields cell own + begun_from fields cell own (suc end) columns

from-all : (keys : List FormatKey) (above : List Left) (heights : List ℕ) (elements : List Element) (format : FormatRow) (fields : List Content)
    (own : List FormatKey) (end columns : ℕ)
    → EndsFrom keys 0 (ends_of above) → EndsFrom format.keys 0 (map (λ k. k.end) own)
    → live_from (cells_from keys above heights elements format fields 0 own) end columns
    ≤ live_from above end columns + begun_from fields 0 own end columns
from-all keys above heights elements format fields own end zero ends own_ends = omega arith
from-all keys above heights elements format fields own end (suc columns) ends own_ends =
    omega (
      arith,
      from-one keys above heights elements format fields end 0 own ends own_ends,
      from-all keys above heights elements format fields own (suc end) columns ends own_ends,
    )

-- each cell counts once
abbrev pub once : ℕ → Bool → ℕ → ℕ → ℕ
once at text end zero = 0
once at text end (suc columns) = (if at == end && text then 1 else 0) + once at text (suc end) columns

none-there : (there text : Bool) → there ≡ false → (if there && text then 1 else 0) ≤ 0
none-there true text is = absurd (cc)
none-there false text is = omega arith

pub once-past : (at : ℕ) (text : Bool) (end columns : ℕ) → at < end → once at text end columns ≡ 0
once-past at text end zero less = refl
once-past at text end (suc columns) less =
    omega (
      arith,
      none-there (at == end) text (ne_eqb at end (λ is. omega (arith, less, is))),
      once-past at text (suc end) columns (omega (arith, less)),
    )

once-by : (there : Bool) (at : ℕ) (text : Bool) (end columns : ℕ) → (at == end) ≡ there → once at text (suc end) columns ≤ (if text then 1 else 0)
    → (if there && text then 1 else 0) + once at text (suc end) columns ≤ (if text then 1 else 0)
once-by true at text end columns is few =
    let same : at ≡ end = eqb-true at end is in omega (arith, once-past at text (suc end) columns (omega (arith, same)))
once-by false at text end columns is few = omega (arith, few)

once-few : (at : ℕ) (text : Bool) (end columns : ℕ) → once at text end columns ≤ (if text then 1 else 0)
once-few at text end zero = omega arith
once-few at text end (suc columns) = once-by (at == end) at text end columns refl (once-few at text (suc end) columns)

-- the texts of the fields of a row's cells
abbrev texts_in : List Content → ℕ → List FormatKey → ℕ
texts_in fields cell [] = 0
texts_in fields cell (k ∷ own) = is_text (own_field (field_at fields cell)) + texts_in fields (suc cell) own

begun-none : (fields : List Content) (cell end columns : ℕ) → begun_from fields cell [] end columns ≡ 0
begun-none fields cell end zero = refl
begun-none fields cell end (suc columns) = omega (arith, begun-none fields cell (suc end) columns)

begun-split : (fields : List Content) (cell : ℕ) (k : FormatKey) (own : List FormatKey) (end columns : ℕ)
    → begun_from fields cell (k ∷ own) end columns
    ≡ once k.end (is_text (own_field (field_at fields cell)) == 1) end columns + begun_from fields (suc cell) own end columns
begun-split fields cell k own end zero = omega arith
begun-split fields cell k own end (suc columns) = omega (arith, begun-split fields cell k own (suc end) columns)

text-one : (field : Content) → (if is_text field == 1 then 1 else 0) ≤ is_text field
text-one (Text []) = omega arith
text-one (Text (b ∷ bytes)) = omega arith
text-one (Block measure lines) = omega arith
text-one (Ruled sign) = omega arith
text-one Short = omega arith
text-one (Repeated b) = omega arith
text-one Above = omega arith

begun-few : (fields : List Content) (cell : ℕ) (own : List FormatKey) (end columns : ℕ)
    → begun_from fields cell own end columns ≤ texts_in fields cell own
begun-few fields cell [] end columns = omega (arith, begun-none fields cell end columns)
begun-few fields cell (k ∷ own) end columns =
    let field = own_field (field_at fields cell) in
    omega (
      arith,
      begun-split fields cell k own end columns,
      once-few k.end (is_text field == 1) end columns,
      text-one field,
      begun-few fields (suc cell) own end columns,
    )

own-text : (field : Content) → is_text (own_field field) ≤ is_text field
own-text (Text bytes) = omega arith
own-text (Block measure lines) = omega arith
own-text (Ruled sign) = omega arith
own-text Short = omega arith
own-text (Repeated b) = omega arith
own-text Above = omega arith

field-few : (fields : List Content) (cell : ℕ) → is_text (own_field (field_at fields cell)) + texts_among (drop (suc cell) fields)
    ≤ texts_among (drop cell fields)
field-few [] cell =
    let behind : texts_among (drop (suc cell) []) ≡ 0 = ap texts_among (drop-none (suc cell)) in
    let here : texts_among (drop cell []) ≡ 0 = ap texts_among (drop-none cell) in
    omega (arith, behind, here)
field-few (field ∷ fields) zero = omega (arith, own-text field)
field-few (field ∷ fields) (suc cell) = field-few fields cell

texts-few : (fields : List Content) (cell : ℕ) (own : List FormatKey) → texts_in fields cell own ≤ texts_among (drop cell fields)
texts-few fields cell [] = omega arith
texts-few fields cell (k ∷ own) = omega (arith, texts-few fields (suc cell) own, field-few fields cell)

-- what stands in the first row of some elements, and behind it
abbrev first_texts : List Element → ℕ
first_texts [] = 0
first_texts (Row rules format fields ∷ elements) = texts_among fields
first_texts (Rule sign ∷ elements) = first_texts elements
first_texts (Command bytes ∷ elements) = first_texts elements

abbrev pub later_texts : List Element → ℕ
later_texts [] = 0
later_texts (Row rules format fields ∷ elements) = texts_of elements
later_texts (Rule sign ∷ elements) = later_texts elements
later_texts (Command bytes ∷ elements) = later_texts elements

all-texts : (elements : List Element) → first_texts elements + later_texts elements ≡ texts_of elements
all-texts [] = refl
all-texts (Row rules format fields ∷ elements) = refl
all-texts (Rule sign ∷ elements) = all-texts elements
all-texts (Command bytes ∷ elements) = all-texts elements

first-few : (columns : ℕ) (keys : List FormatKey) (above : List Left) (heights : List ℕ) (elements : List Element) → EndsFrom keys 0 (ends_of above)
    → live columns (cells_next columns keys above heights elements) ≤ live columns above + first_texts elements
first-few columns keys above heights [] ends =
    let none = live-same (map nothing_left (keys_behind columns 0 0)) [] (λ end. nothing-live end (keys_behind columns 0 0)) 1 columns in
    omega (arith, none, none-live-of 1 columns)
first-few columns keys above heights (Row rules format fields ∷ elements) ends =
    let own = all_keys columns format in
    let cells = cells_from keys above heights elements format fields 0 own in
    let same = live-same (all_stopped columns format.keys elements 0 cells) cells
    (λ end. stop-same columns format.keys elements 0 cells end) 1 columns in
    omega (
      arith,
      same,
      from-all keys above heights elements format fields own 1 columns ends (all-ends columns format),
      begun-few fields 0 own 1 columns,
      texts-few fields 0 own,
    )
first-few columns keys above heights (Rule sign ∷ elements) ends = first-few columns keys above heights elements ends
first-few columns keys above heights (Command bytes ∷ elements) ends = first-few columns keys above heights elements ends

-- the next row adds its texts to those that are live
pub next-few : (columns : ℕ) (keys : List FormatKey) (above : List Left) (heights : List ℕ) (elements : List Element)
    → EndsFrom keys 0 (ends_of above)
    → live columns (cells_next columns keys above heights elements) + later_texts elements ≤ live columns above + texts_of elements
next-few columns keys above heights elements ends =
    omega (arith, first-few columns keys above heights elements ends, all-texts elements)
