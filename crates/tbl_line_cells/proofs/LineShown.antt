-- What the cells of a line draw that is laid, in order.
use Rattle.std.proofs.Common.{◌≡◌, ℕ, zero, suc, get_or, take, append_assoc, append-nil, ◌≤◌, ◌<◌, ◌==◌, ◌&&◌, Bool, true, false, List, [], ◌∷◌, ◌++◌, length, map, Option, None, Some, refl, sym, ap, subst, ◌∙◌, arith, if◌then◌else◌, nat_lt, ne_eqb}
use Rattle.std.specs.List.{AllByRecursion, insert}
use Rattle.std.proofs.lemmas.List.Edits.{length-insert}
use Rattle.tbl_lines.specs.LinesLeft.{Shown, in_order, is_behind, put}
use Rattle.tbl_line_cells.specs.LaidCells.{IsDrawn, is_text_behind, place_among, text_by, text_of}
use Rattle.tbl_line_cells.specs.LinesDrawn.{AreDrawn}
use Rattle.tbl_line_cells.specs.declared.laid_cells.LaidCell.{LaidCell}
use Rattle.tbl_line_cells.specs.declared.laid_cells.TextAt.{TextAt}

-- a text begins at a column of the page at the latest
abbrev pub BeginsBy : ℕ → Shown → Type 0
BeginsBy last s = s.is_text ≡ true → s.at ≤ last

-- whether a text stands behind another one
behind-by : (b other : Bool) (at place rows more : ℕ)
    → is_text_behind (text_by b at rows) (text_by other place more) ≡ (b && other && at == place && nat_lt more rows)
behind-by false other at place rows more = refl
behind-by true false at place rows more = refl
behind-by true true at place rows more = refl

behind-same : (t other : Option TextAt) (s shows : Shown) → t ≡ text_of s → other ≡ text_of shows → is_text_behind t other ≡ is_behind s shows
behind-same t other s shows is others =
    ap (λ (x : Option TextAt). is_text_behind x other) is
    ∙ ap (is_text_behind (text_of s)) others
    ∙ behind-by s.is_text shows.is_text s.at shows.at s.rows shows.rows

-- a cell more, in its place
module _ (bytes : List ℕ) (c : LaidCell) (s : Shown) (is : IsDrawn bytes c s) where
  placed : (b : Bool) (d : LaidCell) (cells : List LaidCell) (t : Shown) (done : List Shown) → IsDrawn bytes d t → AreDrawn bytes cells done
      → AreDrawn bytes (insert cells (place_among c.text cells) c) (put s done)
      → AreDrawn bytes (insert (d ∷ cells) (if b then 0 else suc (place_among c.text cells)) c) (if b then s ∷ t ∷ done else t ∷ put s done)
  placed true d cells t done first all rest = (is, (first, all))
  placed false d cells t done first all rest = (first, rest)

  pub put-shown : (cells : List LaidCell) (done : List Shown) → AreDrawn bytes cells done
      → AreDrawn bytes (insert cells (place_among c.text cells) c) (put s done)
  put-shown [] [] all = (is, tt)
  put-shown [] (t ∷ done) all = absurd all
  put-shown (d ∷ cells) [] all = absurd all
  put-shown (d ∷ cells) (t ∷ done) all =
      subst (λ (b : Bool). AreDrawn bytes (insert (d ∷ cells) (if is_text_behind c.text d.text then 0 else suc (place_among c.text cells)) c)
      (if b then s ∷ t ∷ done else t ∷ put s done)) (behind-same c.text d.text s t is.text all.0.text)
      (placed (is_text_behind c.text d.text) d cells t done all.0 all.1 (put-shown cells done all.1))

-- nothing that is no text stands in front of others
pub none-among : (cells : List LaidCell) → place_among None cells ≡ length cells
none-among [] = refl
none-among (d ∷ cells) = omega (arith, none-among cells)

-- nor does a text that begins behind all of them
text-before : (b : Bool) (at rows last : ℕ) (t : TextAt) → (b ≡ true → at ≤ last) → last < t.at → is_text_behind (Some t) (text_by b at rows) ≡ false
text-before false at rows last t before past = refl
text-before true at rows last t before past =
    let apart : (t.at == at) ≡ false = ne_eqb t.at at (λ same. omega (arith, same, before refl, past)) in
    ap (λ (b : Bool). b && nat_lt rows t.rows) apart

pub last-among : (bytes : List ℕ) (last : ℕ) (t : TextAt) (cells : List LaidCell) (done : List Shown) → AreDrawn bytes cells done
    → AllByRecursion (BeginsBy last) done → last < t.at → place_among (Some t) cells ≡ length cells
last-among bytes last t [] [] all before past = refl
last-among bytes last t [] (s ∷ done) all before past = absurd all
last-among bytes last t (d ∷ cells) [] all before past = absurd all
last-among bytes last t (d ∷ cells) (s ∷ done) all before past =
    let other : is_text_behind (Some t) d.text ≡ false
    = ap (is_text_behind (Some t)) all.0.text ∙ text-before s.is_text s.at s.rows last t before.0 past in
    let rest = last-among bytes last t cells done all.1 before.1 past in
    ap (λ (b : Bool). if b then 0 else suc (place_among (Some t) cells)) other ∙ omega (arith, rest)

within-by : (b : Bool) (t : Option TextAt) (cells : List LaidCell) → place_among t cells ≤ length cells
    → (if b then 0 else suc (place_among t cells)) ≤ suc (length cells)
within-by true t cells rest = omega arith
within-by false t cells rest = omega (arith, rest)

pub place-within : (t : Option TextAt) (cells : List LaidCell) → place_among t cells ≤ length cells
place-within t [] = omega arith
place-within t (d ∷ cells) = within-by (is_text_behind t d.text) t cells (place-within t cells)

-- how far the texts begin
put-by : (b : Bool) (last : ℕ) (s t : Shown) (done : List Shown) → BeginsBy last s → AllByRecursion (BeginsBy last) (t ∷ done)
    → AllByRecursion (BeginsBy last) (put s done)
    → AllByRecursion (BeginsBy last) (if b then s ∷ t ∷ done else t ∷ put s done)
put-by true last s t done own all rest = (own, all)
put-by false last s t done own all rest = (all.0, rest)

pub begins-put : (last : ℕ) (s : Shown) (done : List Shown) → BeginsBy last s → AllByRecursion (BeginsBy last) done
    → AllByRecursion (BeginsBy last) (put s done)
begins-put last s [] own all = (own, tt)
begins-put last s (t ∷ done) own all = put-by (is_behind s t) last s t done own all (begins-put last s done own all.1)

pub begins-further : (last further : ℕ) (done : List Shown) → last ≤ further → AllByRecursion (BeginsBy last) done
    → AllByRecursion (BeginsBy further) done
begins-further last further [] more all = tt
begins-further last further (t ∷ done) more all =
    ((λ text. omega (arith, more, all.0 text)), begins-further last further done more all.1)

-- where one begins that is put there
pub begins-none : (b : Bool) (at rows last : ℕ) → None ≡ text_by b at rows → b ≡ true → at ≤ last
begins-none false at rows last is text = absurd (cc)
begins-none true at rows last is text = absurd (cc)

pub begins-text : (b : Bool) (at rows last : ℕ) (t : TextAt) → Some t ≡ text_by b at rows → t.at ≤ last → b ≡ true → at ≤ last
begins-text false at rows last t is before text = absurd (cc)
begins-text true at rows last t is before text =
    let same : t ≡ record { at = at; rows = rows } = cc in omega (arith, ap (λ (x : TextAt). x.at) same, before)

-- behind some that are put there in order comes one more
pub order-next : (done more : List Shown) (s : Shown) → in_order done (more ++ s ∷ []) ≡ put s (in_order done more)
order-next done [] s = refl
order-next done (t ∷ more) s = order-next (put t done) more s

-- the cells up to one are put in order, and those behind it are as they were
pub record OrderedTo (bytes : List ℕ) (cells : List LaidCell) (done : List Shown) (at last : ℕ) : Type 0 where
  pub first : List LaidCell
  pub rest : List LaidCell
  pub gone : List Shown
  pub left : List Shown
  pub cells_are : cells ≡ first ++ rest
  pub done_are : done ≡ gone ++ left
  pub many : length first ≡ at
  pub drawn : AreDrawn bytes first (in_order [] gone)
  pub others : AreDrawn bytes rest left
  pub begin : AllByRecursion (BeginsBy last) (in_order [] gone)

pub ordered-none : (bytes : List ℕ) (cells : List LaidCell) (done : List Shown) (last : ℕ) → AreDrawn bytes cells done
    → OrderedTo bytes cells done 0 last
ordered-none bytes cells done last all = record {
  first = [];
  rest = cells;
  gone = [];
  left = done;
  cells_are = refl;
  done_are = refl;
  many = refl;
  drawn = tt;
  others = all;
  begin = tt;
}

-- the next one, and those behind it
pub record NextDrawn (bytes : List ℕ) (rest : List LaidCell) (left : List Shown) : Type 0 where
  pub c : LaidCell
  pub others : List LaidCell
  pub s : Shown
  pub further : List Shown
  pub rest_is : rest ≡ c ∷ others
  pub left_is : left ≡ s ∷ further
  pub is : IsDrawn bytes c s
  pub drawn : AreDrawn bytes others further

pub next-drawn : (bytes : List ℕ) (rest : List LaidCell) (left : List Shown) → AreDrawn bytes rest left → 0 < length rest
    → NextDrawn bytes rest left
next-drawn bytes [] left all some = absurd (omega (arith, some))
next-drawn bytes (c ∷ rest) [] all some = absurd all
next-drawn bytes (c ∷ rest) (s ∷ left) all some = record {
  c = c;
  others = rest;
  s = s;
  further = left;
  rest_is = refl;
  left_is = refl;
  is = all.0;
  drawn = all.1;
}

pub get-behind : {A : Type 0} (first : List A) (c : A) (rest : List A) (at : ℕ) (d : A) → length first ≡ at → get_or (first ++ c ∷ rest) at d ≡ c
get-behind [] c rest zero d is = refl
get-behind [] c rest (suc at) d is = absurd (omega (arith, is))
get-behind (x ∷ first) c rest zero d is = absurd (omega (arith, is))
get-behind (x ∷ first) c rest (suc at) d is = get-behind first c rest at d (omega (arith, is))

pub one-behind : {A : Type 0} (first : List A) (c : A) (rest : List A) → (first ++ c ∷ []) ++ rest ≡ first ++ c ∷ rest
one-behind first c rest = append_assoc first (c ∷ []) rest

pub insert-last : {A : Type 0} (first : List A) (c : A) → insert first (length first) c ≡ first ++ c ∷ []
insert-last [] c = refl
insert-last (x ∷ first) c = ap (λ (xs : List _). x ∷ xs) (insert-last first c)

module _ (bytes : List ℕ) (cells : List LaidCell) (done : List Shown) (at last : ℕ) (to : OrderedTo bytes cells done at last)
    (next : NextDrawn bytes to.rest to.left) where
  -- the cell at a place is that
  pub there : cells ≡ to.first ++ next.c ∷ next.others
  there = to.cells_are ∙ ap (λ (cs : List LaidCell). to.first ++ cs) next.rest_is

  pub get-next : (d : LaidCell) → get_or cells at d ≡ next.c
  get-next d = ap (λ (cs : List LaidCell). get_or cs at d) there ∙ get-behind to.first next.c next.others at d to.many

  -- put in its place
  pub ordered-put : (new : List LaidCell) (further : ℕ) → new ≡ insert to.first (place_among next.c.text to.first) next.c ++ next.others
      → last ≤ further → BeginsBy further next.s → OrderedTo bytes new done (suc at) further
  ordered-put new further new_is more own =
      let shown = order-next [] to.gone next.s in
      record {
        first = insert to.first (place_among next.c.text to.first) next.c;
        rest = next.others;
        gone = to.gone ++ next.s ∷ [];
        left = next.further;
        cells_are = new_is;
        done_are = to.done_are ∙ ap (λ (ss : List Shown). to.gone ++ ss) next.left_is ∙ sym (one-behind to.gone next.s next.further);
        many = omega (arith, length-insert to.first (place_among next.c.text to.first) next.c (place-within next.c.text to.first), to.many);
        drawn = subst (λ (ss : List Shown). AreDrawn bytes (insert to.first (place_among next.c.text to.first) next.c) ss) (sym shown)
            (put-shown bytes next.c next.s next.is to.first (in_order [] to.gone) to.drawn);
        others = next.drawn;
        begin = subst (AllByRecursion (BeginsBy further)) (sym shown)
            (begins-put further next.s (in_order [] to.gone) own (begins-further last further (in_order [] to.gone) more to.begin));
      }

  -- it stands there
  pub ordered-stays : (further : ℕ) → place_among next.c.text to.first ≡ length to.first → last ≤ further → BeginsBy further next.s
      → OrderedTo bytes cells done (suc at) further
  ordered-stays further place more own =
      ordered-put cells further
      (there ∙ sym (one-behind to.first next.c next.others)
      ∙ ap (λ (cs : List LaidCell). cs ++ next.others) (sym (insert-last to.first next.c))
      ∙ ap (λ (n : ℕ). insert to.first n next.c ++ next.others) (sym place)) more own

none-left : {A : Type 0} (first rest : List A) (n : ℕ) → length first ≡ n → length (first ++ rest) ≤ n → rest ≡ []
none-left [] [] n is few = refl
none-left [] (x ∷ rest) n is few = absurd (omega (arith, is, few))
none-left (x ∷ first) rest zero is few = absurd (omega (arith, is))
none-left (x ∷ first) rest (suc n) is few = none-left first rest n (omega (arith, is)) (omega (arith, few))

no-left : (bytes : List ℕ) (rest : List LaidCell) (left : List Shown) → AreDrawn bytes rest left → rest ≡ [] → left ≡ []
no-left bytes [] [] all is = refl
no-left bytes [] (s ∷ left) all is = absurd all
no-left bytes (c ∷ rest) left all is = absurd (cc)

-- all are
pub ordered-all : (bytes : List ℕ) (cells : List LaidCell) (done : List Shown) (at last : ℕ) → OrderedTo bytes cells done at last
    → length cells ≤ at → AreDrawn bytes cells (in_order [] done)
ordered-all bytes cells done at last to few =
    let rest : to.rest ≡ [] = none-left to.first to.rest at to.many (omega (arith, few, ap (λ (cs : List LaidCell). length cs) to.cells_are)) in
    let left = no-left bytes to.rest to.left to.others rest in
    let whole : cells ≡ to.first = to.cells_are ∙ ap (λ (cs : List LaidCell). to.first ++ cs) rest ∙ append-nil to.first in
    let gone : done ≡ to.gone = to.done_are ∙ ap (λ (ss : List Shown). to.gone ++ ss) left ∙ append-nil to.gone in
    subst (λ (cs : List LaidCell). AreDrawn bytes cs (in_order [] done)) (sym whole)
    (subst (λ (ss : List Shown). AreDrawn bytes to.first (in_order [] ss)) (sym gone) to.drawn)

-- how far cells are brought forward
pub from-within : (t : Option TextAt) (cells : List LaidCell) (at place : ℕ) → place ≡ place_among t cells → length cells ≤ at → place ≤ at
from-within t cells at place is few = omega (arith, is, few, place-within t cells)

pub take-few : {A : Type 0} (n : ℕ) (xs : List A) → length (take n xs) ≤ n
take-few zero xs = omega arith
take-few (suc n) [] = omega arith
take-few (suc n) (x ∷ xs) = omega (arith, take-few n xs)
