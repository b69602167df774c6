-- No more entries are cut than there are texts.
--
-- Behind each line those cells are counted in which a text stands and of which nothing was cut, by where they end. What is cut for the first
-- time on a line counts no more behind it, and a row adds its own texts.
use Rattle.std.proofs.Common.{◌≡◌, ℕ, zero, suc, ◌+◌, ◌-◌, ◌≤◌, Bool, true, false, not, ◌&&◌, ◌||◌, List, [], ◌∷◌, ◌++◌, length, map, drop, refl, sym, ap, subst, ◌∙◌, arith, get_or, if◌then◌else◌, ◌==◌, eqb-true}
use Rattle.std.specs.List.{list_any}
use Rattle.tbl_format.specs.Format.{FormatRow}
use Rattle.tbl_layout.specs.Entries.{Above, Block, Command, Content, Element, Repeated, Row, Rule, Ruled, Short, Text}
use Rattle.tbl_layout.specs.Heights.{heights}
use Rattle.tbl_layout.specs.Texts.{texts_of}
use Rattle.tbl_options.specs.declared.options.Boxing.{Boxing}
use Rattle.tbl_lines.specs.CellsLeft.{Left, bars_at_end, behind_line, cells_next, goes_on, rest_by}
use Rattle.tbl_lines.specs.CutEntries.{all_with_cut, behind_key_lines, behind_row, cut_entries, cut_from, cut_in_keys, cut_in_row, first_from, is_first, with_cut}
use Rattle.tbl_lines.specs.LinesLeft.{Beside, Nothing, OfRow, OfRules, overs, row_cut, rule_cut}
use Rattle.tbl_lines.specs.PictureLeft.{behind_keys, behind_lines, below_of, through_rule, through_rules}
use Rattle.tbl_lines.specs.PictureLines.{OfKeys, Sheet, Whole, boxed, frame_rules, frame_sign, rule_in_front, ruled_between, ruled_inside}
use Rattle.tbl_lines.proofs.CellEnds.{EndAs, EndsFrom, ends-kept, ends_of, keys-ends, next-ends, row-ends, rule-ends}
use Rattle.tbl_lines.proofs.CellsCut.{AreAmong, both-true, has_text, no-text, or-right, row-cut, rule-cut}
use Rattle.tbl_lines.proofs.CellTexts.{is_live, later_texts, live, live_from, next-few, none-live-of, one_live}

-- tests
and-first : (a b : Bool) → (a && b) ≡ true → a ≡ true
and-first true b is = refl
and-first false b is = absurd (cc)

and-second : (a b : Bool) → (a && b) ≡ true → b ≡ true
and-second true b is = is
and-second false b is = absurd (cc)

not-true : (a : Bool) → not a ≡ true → a ≡ false
not-true true is = absurd (cc)
not-true false is = refl

true-not : (a : Bool) → a ≡ false → not a ≡ true
true-not true is = absurd (cc)
true-not false is = refl

or-false : (a b : Bool) → (a || b) ≡ false → a ≡ false
or-false true b is = absurd (cc)
or-false false b is = refl

or-cases : (a b goal : Bool) → (a || b) ≡ true → (a ≡ true → goal ≡ true) → (b ≡ true → goal ≡ true) → goal ≡ true
or-cases true b goal is first second = first refl
or-cases false b goal is first second = second is

-- no more where each of some is one of the others
fewer-if : (a b : Bool) → (a ≡ true → b ≡ true) → (if a then 1 else 0) ≤ (if b then 1 else 0)
fewer-if true true only = omega arith
fewer-if true false only = absurd (let is = only refl in cc)
fewer-if false b only = omega arith

any-in : (p q : Left → Bool) (f : Left → Left) → ((c : Left) → p (f c) ≡ true → q c ≡ true) → (cells : List Left)
    → list_any p (map f cells) ≡ true → list_any q cells ≡ true
any-in p q f only [] is = absurd (cc)
any-in p q f only (c ∷ cells) is =
    or-cases (p (f c)) (list_any p (map f cells)) (q c || list_any q cells) is
    (λ here. let holds : q c ≡ true = only c here in ap (λ b. b || list_any q cells) holds)
    (λ there. or-right (q c) (list_any q cells) (any-in p q f only cells there))

any-same : (p q : Left → Bool) → ((c : Left) → p c ≡ true → q c ≡ true) → (cells : List Left) → list_any p cells ≡ true → list_any q cells ≡ true
any-same p q only [] is = absurd (cc)
any-same p q only (c ∷ cells) is =
    or-cases (p c) (list_any p cells) (q c || list_any q cells) is
    (λ here. let holds : q c ≡ true = only c here in ap (λ b. b || list_any q cells) holds)
    (λ there. or-right (q c) (list_any q cells) (any-same p q only cells there))

-- what changes cells so that none becomes live
abbrev OnlyEnds : (Left → Left) → Type 0
OnlyEnds f = (end : ℕ) (c : Left) → is_live end (f c) ≡ true → is_live end c ≡ true

changed-one : (f : Left → Left) → OnlyEnds f → (end : ℕ) (cells : List Left) → one_live end (map f cells) ≤ one_live end cells
changed-one f only end cells =
    fewer-if (list_any (is_live end) (map f cells)) (list_any (is_live end) cells) (any-in (is_live end) (is_live end) f (only end) cells)

changed-few : (f : Left → Left) → OnlyEnds f → (cells : List Left) (end columns : ℕ)
    → live_from (map f cells) end columns ≤ live_from cells end columns
changed-few f only cells end zero = omega arith
changed-few f only cells end (suc columns) = omega (arith, changed-one f only end cells, changed-few f only cells (suc end) columns)

-- behind a line: a text has gone, or is there as it was
rest-only : (field : Content) (end : ℕ) (c : Left) → c.field ≡ field → is_live end (rest_by field c) ≡ true → is_live end c ≡ true
rest-only (Block measure lines) end c same is = is
rest-only (Text bytes) end c same is = absurd (no-text (c.key.end == end) (not c.is_cut) is)
rest-only (Ruled sign) end c same is = absurd (no-text (c.key.end == end) (not c.is_cut) is)
rest-only Short end c same is = absurd (no-text (c.key.end == end) (not c.is_cut) is)
rest-only (Repeated b) end c same is = absurd (no-text (c.key.end == end) (not c.is_cut) is)
rest-only Above end c same is = absurd (no-text (c.key.end == end) (not c.is_cut) is)

line-by : (at_once : Bool) (end : ℕ) (c : Left) → is_live end (if at_once then rest_by c.field c else record c { lead = c.lead - 1 }) ≡ true
    → is_live end c ≡ true
line-by true end c is = rest-only c.field end c refl is
line-by false end c is = is

line-only : OnlyEnds behind_line
line-only = λ end c is. line-by (c.lead == 0) end c is

rule-by : (goes : Bool) (end : ℕ) (c : Left) → is_live end (if goes then behind_line c else c) ≡ true → is_live end c ≡ true
rule-by true end c is = line-only end c is
rule-by false end c is = is

rule-only : OnlyEnds through_rule
rule-only = λ end c is. rule-by (goes_on c) end c is

-- a cell of which something is cut is live no more
uncut : (cut : List Left) (end : ℕ) (c : Left) → is_live end (with_cut cut c) ≡ true → is_live end c ≡ true
uncut cut end c is =
    let here = and-first (c.key.end == end) _ is in
    let rest = and-second (c.key.end == end) _ is in
    let marked = not-true (c.is_cut || list_any (λ other. other.key.end == c.key.end) cut) (and-first _ (has_text c) rest) in
    both-true (c.key.end == end) (not c.is_cut && has_text c) here
    (both-true (not c.is_cut) (has_text c) (true-not c.is_cut (or-false c.is_cut _ marked)) (and-second _ (has_text c) rest))

ends-there : (cut : List Left) (end : ℕ) → is_first cut end ≡ true → (other : ℕ) → other ≡ end → list_any (λ c. c.key.end == other) cut ≡ true
ends-there cut end first other is =
    subst (λ (n : ℕ). list_any (λ c. c.key.end == n) cut ≡ true) (sym is)
    (any-same (λ c. c.key.end == end && not c.is_cut) (λ c. c.key.end == end) (λ c both. and-first (c.key.end == end) (not c.is_cut) both) cut first)

marked : (a b text : Bool) → b ≡ true → (not (a || b) && text) ≡ false
marked true b text is = refl
marked false true text is = refl
marked false false text is = absurd (cc)

dead-by : (there : Bool) (cut : List Left) (end : ℕ) → is_first cut end ≡ true → (c : Left) → (c.key.end == end) ≡ there
    → (there && (not (c.is_cut || list_any (λ other. other.key.end == c.key.end) cut) && has_text c)) ≡ false
dead-by true cut end first c is =
    marked c.is_cut (list_any (λ other. other.key.end == c.key.end) cut) (has_text c)
    (ends-there cut end first c.key.end (eqb-true c.key.end end is))
dead-by false cut end first c is = refl

dead : (cut : List Left) (end : ℕ) → is_first cut end ≡ true → (c : Left) → is_live end (with_cut cut c) ≡ false
dead cut end first c = dead-by (c.key.end == end) cut end first c refl

none-live : (cut : List Left) (end : ℕ) → is_first cut end ≡ true → (cells : List Left) → list_any (is_live end) (all_with_cut cut cells) ≡ false
none-live cut end first [] = refl
none-live cut end first (c ∷ cells) =
    ap (λ (b : Bool). b || list_any (is_live end) (all_with_cut cut cells)) (dead cut end first c) ∙ none-live cut end first cells

and-shift : (a b text : Bool) → ((a && b) && text) ≡ true → (a && (b && text)) ≡ true
and-shift true b text is = is
and-shift false b text is = is

-- on a line
line-by-first : (first : Bool) (cut cells : List Left) (end : ℕ) → is_first cut end ≡ first → AreAmong cut cells
    → (if first then 1 else 0) + one_live end (all_with_cut cut cells) ≤ one_live end cells
line-by-first true cut cells end is among =
    let before : list_any (is_live end) cells ≡ true =
    any-same (λ c. (c.key.end == end && not c.is_cut) && has_text c) (is_live end)
    (λ c both. and-shift (c.key.end == end) (not c.is_cut) (has_text c) both) cells
    (among (λ c. c.key.end == end && not c.is_cut) is) in
    let one : one_live end cells ≡ 1 = ap (λ (b : Bool). if b then 1 else 0) before in
    let none : one_live end (all_with_cut cut cells) ≡ 0 = ap (λ (b : Bool). if b then 1 else 0) (none-live cut end is cells) in
    omega (arith, one, none)
line-by-first false cut cells end is among = omega (arith, changed-one (with_cut cut) (uncut cut) end cells)

line-few : (cut cells : List Left) → AreAmong cut cells → (end columns : ℕ)
    → first_from cut end columns + live_from (all_with_cut cut cells) end columns ≤ live_from cells end columns
line-few cut cells among end zero = omega arith
line-few cut cells among end (suc columns) =
    omega (arith, line-by-first (is_first cut end) cut cells end refl among, line-few cut cells among (suc end) columns)

-- on the lines of a row
row-few : (s : Sheet) (last lines : ℕ) (cells : List Left)
    → cut_in_row s last lines cells + live (length s.columns) (behind_row s last lines cells) ≤ live (length s.columns) cells
row-few s last zero cells = omega arith
row-few s last (suc lines) cells =
    let cut = row_cut s last cells in
    let behind = all_with_cut cut cells in
    omega (
      arith,
      line-few cut cells (row-cut s last cells) 1 (length s.columns),
      changed-few behind_line line-only behind 1 (length s.columns),
      row-few s last lines (map behind_line behind),
    )

-- and of rules in front of it
keys-few : (s : Sheet) (cells : List Left) (above : Beside) (formats : List FormatRow) (below : Beside)
    → cut_in_keys s cells above formats below + live (length s.columns) (behind_key_lines s cells above formats below) ≤ live (length s.columns) cells
keys-few s cells above [] below = omega arith
keys-few s cells above (format ∷ formats) below =
    let cut = rule_cut s (OfKeys format) cells above (behind_keys s cells formats below) in
    let behind = all_with_cut cut cells in
    omega (
      arith,
      line-few cut cells (rule-cut s (OfKeys format) cells above (behind_keys s cells formats below)) 1 (length s.columns),
      changed-few through_rule rule-only behind 1 (length s.columns),
      keys-few s (map through_rule behind) (OfRules (OfKeys format) (overs 0 cells s.columns) above) formats below,
    )

-- from elements on, whose first row has cells that end as its keys do
pub from-few : (s : Sheet) (heights : List ℕ) (cells : List Left) (above : Beside) (elements : List Element) → EndAs elements cells
    → cut_from s heights cells above elements ≤ live (length s.columns) cells + later_texts elements
from-few s heights cells above [] ends = omega arith
from-few s heights cells above (Row rules format fields ∷ elements) ends =
    let count = length s.columns in
    let height = get_or heights 0 0 in
    let last = bars_at_end count format in
    let below = OfRow (through_rules (length rules) cells) last in
    let own = behind_key_lines s cells above rules below in
    let behind = behind_row s last height own in
    let next = cells_next count format.keys behind (drop 1 heights) elements in
    let kept : EndsFrom format.keys 0 (ends_of behind) =
    subst (λ (es : List ℕ). EndsFrom format.keys 0 es) (sym (row-ends s last height own ∙ keys-ends s cells above rules below)) ends in
    omega (
      arith,
      keys-few s cells above rules below,
      row-few s last height own,
      next-few count format.keys behind (drop 1 heights) elements kept,
      from-few s (drop 1 heights) next (OfRow (behind_lines (height - 1) own) last) elements
          (next-ends count format.keys behind (drop 1 heights) elements),
    )
from-few s heights cells above (Rule sign ∷ elements) ends =
    let cut = rule_cut s (Whole sign) cells above (below_of s (map through_rule cells) elements) in
    let behind = all_with_cut cut cells in
    omega (
      arith,
      line-few cut cells (rule-cut s (Whole sign) cells above (below_of s (map through_rule cells) elements)) 1 (length s.columns),
      changed-few through_rule rule-only behind 1 (length s.columns),
      from-few s heights (map through_rule behind) (OfRules (Whole sign) (overs 0 cells s.columns) above) elements
          (ends-kept elements cells (map through_rule behind) (rule-ends cut cells) ends),
    )
from-few s heights cells above (Command bytes ∷ elements) ends = from-few s heights cells above elements ends

-- the rules of a box are no texts
front-same : (behind_row : Bool) (rules : List FormatRow) (elements : List Element)
    → texts_of (rule_in_front behind_row rules ++ elements) ≡ texts_of elements
front-same true [] elements = refl
front-same true (format ∷ rules) elements = refl
front-same false rules elements = refl

between-same : (behind_row : Bool) (elements : List Element) → texts_of (ruled_between behind_row elements) ≡ texts_of elements
between-same behind_row [] = refl
between-same behind_row (Row rules format fields ∷ elements) =
    omega (arith, front-same behind_row rules (Row rules format fields ∷ ruled_between true elements), between-same true elements)
between-same behind_row (Rule sign ∷ elements) = between-same false elements
between-same behind_row (Command bytes ∷ elements) = between-same behind_row elements

inside-same : (is_inside : Bool) (elements : List Element) → texts_of (if is_inside then ruled_between false elements else elements)
    ≡ texts_of elements
inside-same true elements = between-same false elements
inside-same false elements = refl

frame-front : (none : Bool) (boxing : Boxing) (elements : List Element)
    → texts_of ((if none then [] else Rule (frame_sign boxing.bars) ∷ []) ++ elements) ≡ texts_of elements
frame-front true boxing elements = refl
frame-front false boxing elements = refl

texts-append : (xs ys : List Element) → texts_of (xs ++ ys) ≡ texts_of xs + texts_of ys
texts-append [] ys = omega arith
texts-append (Row rules format fields ∷ xs) ys = omega (arith, texts-append xs ys)
texts-append (Rule sign ∷ xs) ys = texts-append xs ys
texts-append (Command bytes ∷ xs) ys = texts-append xs ys

frame-behind : (none : Bool) (boxing : Boxing) (elements : List Element)
    → texts_of (elements ++ (if none then [] else Rule (frame_sign boxing.bars) ∷ [])) ≡ texts_of elements
frame-behind true boxing elements = omega (arith, texts-append elements [])
frame-behind false boxing elements = omega (arith, texts-append elements (Rule (frame_sign boxing.bars) ∷ []))

boxed-same : (boxing : Boxing) (elements : List Element) → texts_of (boxed boxing elements) ≡ texts_of elements
boxed-same boxing elements =
    let none = boxing.bars == 0 in
    let inside = ruled_inside boxing false elements in
    frame-front none boxing (inside ++ frame_rules boxing) ∙ frame-behind none boxing inside ∙ inside-same boxing.is_inside elements

pub cut-few : (s : Sheet) (elements : List Element) → cut_entries s elements ≤ texts_of elements
unfolding cut_entries
cut-few s elements =
    let all = boxed s.bars.boxing elements in
    let count = length s.columns in
    let own = heights s.bars.boxing.is_inside count elements in
    omega (
      arith,
      from-few s own (cells_next count [] [] own all) Nothing all (next-ends count [] [] own all),
      next-few count [] [] own all tt,
      none-live-of 1 count,
      boxed-same s.bars.boxing elements,
    )
