-- Where the cells of a line end: behind each line as before, and as the keys of their row do.
use Rattle.std.proofs.Common.{◌≡◌, ℕ, zero, suc, ◌+◌, ◌-◌, ◌≤◌, Bool, true, false, not, ◌&&◌, List, [], ◌∷◌, ◌++◌, length, map, Option, Some, None, refl, sym, ap, subst, ◌∙◌, arith, append_assoc, length-append, get_or, if◌then◌else◌, ◌==◌, eqb-true}
use Rattle.std.proofs.lemmas.List.{get_or_past, length-map, map-append}
use Rattle.tbl_format.specs.Cells.{end_of, if_ends, same_cell}
use Rattle.tbl_format.specs.Format.{FormatRow, columns_of_keys}
use Rattle.tbl_format.specs.declared.format.FormatKey.{FormatKey}
use Rattle.tbl_layout.specs.Entries.{Above, Block, Command, Content, Element, Repeated, Row, Rule, Ruled, Short, Text}
use Rattle.tbl_lines.specs.CellsLeft.{Left, all_keys, all_stopped, behind_line, cell_by, cells_from, cells_next, gone_on, goes_on, keys_behind, rest_by}
use Rattle.tbl_lines.specs.CutEntries.{all_with_cut, behind_key_lines, behind_row, with_cut}
use Rattle.tbl_lines.specs.LinesLeft.{Beside, OfRules, overs, row_cut, rule_cut}
use Rattle.tbl_lines.specs.PictureLeft.{behind_keys, through_rule}
use Rattle.tbl_lines.specs.PictureLines.{OfKeys, Sheet}

-- columns behind which cells end, from a cell of these keys on
abbrev pub EndsFrom : List FormatKey → ℕ → List ℕ → Type 0
EndsFrom keys cell [] = Unit {0}
EndsFrom keys cell (end ∷ ends) = (end ≡ end_of keys cell) × EndsFrom keys (suc cell) ends

abbrev pub ends_of : List Left → List ℕ
ends_of cells = map (λ c. c.key.end) cells

-- cells that end as those of the first row of some elements
abbrev pub EndAs : List Element → List Left → Type 0
EndAs [] cells = Unit {0}
EndAs (Row rules format fields ∷ elements) cells = EndsFrom format.keys 0 (ends_of cells)
EndAs (Rule sign ∷ elements) cells = EndAs elements cells
EndAs (Command bytes ∷ elements) cells = EndAs elements cells

pub ends-kept : (elements : List Element) (cells new : List Left) → ends_of new ≡ ends_of cells → EndAs elements cells → EndAs elements new
ends-kept [] cells new is ends = tt
ends-kept (Row rules format fields ∷ elements) cells new is ends = subst (λ (es : List ℕ). EndsFrom format.keys 0 es) (sym is) ends
ends-kept (Rule sign ∷ elements) cells new is ends = ends-kept elements cells new is ends
ends-kept (Command bytes ∷ elements) cells new is ends = ends-kept elements cells new is ends

-- behind lines
ends-same : (f : Left → Left) → ((c : Left) → (f c).key.end ≡ c.key.end) → (cells : List Left) → ends_of (map f cells) ≡ ends_of cells
ends-same f same [] = refl
ends-same f same (c ∷ cells) =
    ap (λ (end : ℕ). end ∷ ends_of (map f cells)) (same c) ∙ ap (λ (ends : List ℕ). c.key.end ∷ ends) (ends-same f same cells)

rest-end : (field : Content) (c : Left) → (rest_by field c).key.end ≡ c.key.end
rest-end (Block measure lines) c = refl
rest-end (Text bytes) c = refl
rest-end (Ruled sign) c = refl
rest-end Short c = refl
rest-end (Repeated b) c = refl
rest-end Above c = refl

line-end-by : (at_once : Bool) (c : Left) → (if at_once then rest_by c.field c else record c { lead = c.lead - 1 }).key.end ≡ c.key.end
line-end-by true c = rest-end c.field c
line-end-by false c = refl

line-end : (c : Left) → (behind_line c).key.end ≡ c.key.end
line-end c = line-end-by (c.lead == 0) c

through-end-by : (goes : Bool) (c : Left) → (if goes then behind_line c else c).key.end ≡ c.key.end
through-end-by true c = line-end c
through-end-by false c = refl

through-end : (c : Left) → (through_rule c).key.end ≡ c.key.end
through-end c = through-end-by (goes_on c) c

cut-ends : (cut cells : List Left) → ends_of (all_with_cut cut cells) ≡ ends_of cells
cut-ends cut cells = ends-same (with_cut cut) (λ c. refl) cells

pub rule-ends : (cut cells : List Left) → ends_of (map through_rule (all_with_cut cut cells)) ≡ ends_of cells
rule-ends cut cells = ends-same through_rule through-end (all_with_cut cut cells) ∙ cut-ends cut cells

pub row-ends : (s : Sheet) (last lines : ℕ) (cells : List Left) → ends_of (behind_row s last lines cells) ≡ ends_of cells
row-ends s last zero cells = refl
row-ends s last (suc lines) cells =
    let behind = all_with_cut (row_cut s last cells) cells in
    row-ends s last lines (map behind_line behind) ∙ ends-same behind_line line-end behind ∙ cut-ends (row_cut s last cells) cells

pub keys-ends : (s : Sheet) (cells : List Left) (above : Beside) (formats : List FormatRow) (below : Beside)
    → ends_of (behind_key_lines s cells above formats below) ≡ ends_of cells
keys-ends s cells above [] below = refl
keys-ends s cells above (format ∷ formats) below =
    let cut = rule_cut s (OfKeys format) cells above (behind_keys s cells formats below) in
    keys-ends s (map through_rule (all_with_cut cut cells)) (OfRules (OfKeys format) (overs 0 cells s.columns) above) formats below
    ∙ rule-ends cut cells

-- the cells of a row end as its keys do
got-end : (k : FormatKey) (above : List Left) (other : ℕ) (new : Left) → new.key.end ≡ k.end
    → (get_or (map (gone_on k) above) other new).key.end ≡ k.end
got-end k [] other new is = is
got-end k (c ∷ above) zero new is = refl
got-end k (c ∷ above) (suc other) new is = got-end k above other new is

cell-end : (found : Option ℕ) (above : List Left) (new : Left) → (cell_by found above new).key.end ≡ new.key.end
cell-end None above new = refl
cell-end (Some other) above new = got-end new.key above other new refl

from-ends : (keys : List FormatKey) (above : List Left) (heights : List ℕ) (elements : List Element) (format : FormatRow) (fields : List Content)
    (cell : ℕ) (own : List FormatKey)
    → ends_of (cells_from keys above heights elements format fields cell own) ≡ map (λ k. k.end) own
from-ends keys above heights elements format fields cell [] = refl
from-ends keys above heights elements format fields cell (k ∷ own) =
    ap (λ (end : ℕ). end ∷ ends_of (cells_from keys above heights elements format fields (suc cell) own)) (cell-end _ above _)
    ∙ ap (λ (ends : List ℕ). k.end ∷ ends) (from-ends keys above heights elements format fields (suc cell) own)

stop-end : (on : Bool) (c : Left) (stop : ℕ) → (if on then record c { stop = stop } else c).key.end ≡ c.key.end
stop-end true c stop = refl
stop-end false c stop = refl

stop-ends : (columns : ℕ) (keys : List FormatKey) (elements : List Element) (cell : ℕ) (cells : List Left)
    → ends_of (all_stopped columns keys elements cell cells) ≡ ends_of cells
stop-ends columns keys elements cell [] = refl
stop-ends columns keys elements cell (c ∷ cells) =
    ap (λ (end : ℕ). end ∷ ends_of (all_stopped columns keys elements (suc cell) cells)) (stop-end (c.key.has_no_width && not (goes_on c)) c _)
    ∙ ap (λ (ends : List ℕ). c.key.end ∷ ends) (stop-ends columns keys elements (suc cell) cells)

-- those of the keys, and then of one column each
get-at : (front : List FormatKey) (k : FormatKey) (keys : List FormatKey) (cell other : ℕ) → cell ≡ length front
    → get_or (map (λ k. k.end) (front ++ k ∷ keys)) cell other ≡ k.end
get-at [] k keys zero other is = refl
get-at [] k keys (suc cell) other is = absurd (omega (arith, is))
get-at (f ∷ front) k keys zero other is = absurd (omega (arith, is))
get-at (f ∷ front) k keys (suc cell) other is = get-at front k keys cell other (omega (arith, is))

own-ends : (all front keys : List FormatKey) (cell : ℕ) → all ≡ front ++ keys → cell ≡ length front → EndsFrom all cell (map (λ k. k.end) keys)
own-ends all front [] cell is at = tt
own-ends all front (k ∷ keys) cell is at =
    let here : end_of all cell ≡ k.end =
    ap (λ (ks : List FormatKey). get_or (map (λ k. k.end) ks) cell (columns_of_keys all + (cell + 1 - length all))) is ∙ get-at front k keys cell _ at in (
      sym here,
      own-ends all (front ++ k ∷ []) keys (suc cell) (is ∙ sym (append_assoc front (k ∷ []) keys))
          (omega (arith, at, length-append front (k ∷ []))),
    )

behind-ends : (keys : List FormatKey) (count bars column cell : ℕ) → length keys ≤ cell → column ≡ columns_of_keys keys + (cell - length keys)
    → EndsFrom keys cell (map (λ k. k.end) (keys_behind count bars column))
behind-ends keys zero bars column cell past_keys is = tt
behind-ends keys (suc count) bars column cell past_keys is =
    let ends = map (λ (k : FormatKey). k.end) keys in
    let here : end_of keys cell ≡ columns_of_keys keys + (cell + 1 - length keys) =
    get_or_past ends cell _ (omega (arith, past_keys, length-map keys (λ (k : FormatKey). k.end))) in
    (omega (arith, here, is, past_keys), behind-ends keys count 0 (suc column) (suc cell) (omega (arith, past_keys)) (omega (arith, is, past_keys)))

ends-append : (keys : List FormatKey) (cell : ℕ) (front more : List ℕ) (n : ℕ) → n ≡ cell + length front → EndsFrom keys cell front
    → EndsFrom keys n more
    → EndsFrom keys cell (front ++ more)
ends-append keys cell [] more n is ends further = subst (λ (m : ℕ). EndsFrom keys m more) (omega (arith, is)) further
ends-append keys cell (end ∷ front) more n is ends further = (ends.0, ends-append keys (suc cell) front more n (omega (arith, is)) ends.1 further)

pub all-ends : (columns : ℕ) (format : FormatRow) → EndsFrom format.keys 0 (map (λ k. k.end) (all_keys columns format))
all-ends columns format =
    let keys = format.keys in
    let own = columns_of_keys keys in
    let others = keys_behind (columns - own) format.bars own in
    subst (λ (ends : List ℕ). EndsFrom keys 0 ends) (sym (map-append (λ (k : FormatKey). k.end) keys others))
    (ends-append keys 0 (map (λ (k : FormatKey). k.end) keys) (map (λ (k : FormatKey). k.end) others) (length keys)
    (omega (arith, length-map keys (λ (k : FormatKey). k.end))) (own-ends keys [] keys 0 refl refl)
    (behind-ends keys (columns - own) format.bars own (length keys) (omega arith) (omega arith)))

pub next-ends : (columns : ℕ) (keys : List FormatKey) (above : List Left) (heights : List ℕ) (elements : List Element)
    → EndAs elements (cells_next columns keys above heights elements)
next-ends columns keys above heights [] = tt
next-ends columns keys above heights (Row rules format fields ∷ elements) =
    let own = all_keys columns format in
    let cells = cells_from keys above heights elements format fields 0 own in
    subst (λ (ends : List ℕ). EndsFrom format.keys 0 ends)
    (sym (stop-ends columns format.keys elements 0 cells ∙ from-ends keys above heights elements format fields 0 own)) (all-ends columns format)
next-ends columns keys above heights (Rule sign ∷ elements) = next-ends columns keys above heights elements
next-ends columns keys above heights (Command bytes ∷ elements) = next-ends columns keys above heights elements

-- a cell of other keys that has the same columns ends as it does
test-by : (same : Bool) (keys : List FormatKey) (end found other : ℕ) → (end_of keys found == end) ≡ same
    → (if same then Some found else None) ≡ Some other
    → end_of keys other ≡ end
test-by true keys end found other same is =
    let found_is : found ≡ other = cc in
    sym (ap (λ (cell : ℕ). end_of keys cell) found_is) ∙ eqb-true (end_of keys found) end same
test-by false keys end found other same is = absurd (cc)

by-ends : (found : Option ℕ) (keys : List FormatKey) (end other : ℕ) → if_ends keys end found ≡ Some other → end_of keys other ≡ end
by-ends None keys end other is = absurd (cc)
by-ends (Some found) keys end other is = test-by (end_of keys found == end) keys end found other refl is

pub same-end : (keys others : List FormatKey) (cell other : ℕ) → same_cell keys others cell ≡ Some other → end_of keys other ≡ end_of others cell
same-end keys others cell other is = by-ends _ keys (end_of others cell) other is
