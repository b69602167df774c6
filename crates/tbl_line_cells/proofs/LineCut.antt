-- A line on which what runs on is cut, from the right.
use Rattle.std.proofs.Common.{◌≡◌, ℕ, zero, suc, ◌+◌, ◌-◌, ◌<◌, ◌≤◌, ◌==◌, Bool, true, false, not, ◌&&◌, ◌||◌, List, [], ◌∷◌, ◌++◌, drop, get_or, length, map, replicate, take, Option, None, Some, refl, sym, ap, subst, ◌∙◌, arith, if◌then◌else◌, is_some, nat_lt, eqb-true}
use Rattle.std.specs.List.{AllByRecursion, list_any}
use Rattle.std.proofs.lemmas.Bool.{eqb-false}
use Rattle.std.proofs.lemmas.List.{get_or-replicate}
use Rattle.tbl_format.specs.declared.format.Key.TheVariants.{Left as LeftKey}
use Rattle.tbl_layout.specs.Entries.{columns_of}
use Rattle.tbl_layout.specs.declared.entry.EntryKind.TheVariants.{Text as TextEntry}
use Rattle.tbl_text.specs.declared.block_parts.BlockPlace.TheVariants.{AtLine}
use Rattle.tbl_lines.specs.CellsLeft.{Left}
use Rattle.tbl_lines.specs.CutEntries.{first_cut}
use Rattle.tbl_lines.specs.LinesLeft.{Shown, all_cut, cut_cells, cut_to, if_cut, if_runs_on, is_there, next_drawn, room_by}
use Rattle.tbl_lines.specs.PictureLines.{Cell, Sheet, nothing_there}
use Rattle.tbl_lines.specs.RowsLeft.{cell_of_front, first_of}
use Rattle.tbl_lines.specs.RowsWalked.{HasBars}
use Rattle.tbl_lines.specs.declared.fronts.Front.{Front}
use Rattle.tbl_lines.proofs.CutLines.{NoneRunOn, all_cut-none, cut_cells-none}
use Rattle.tbl_lines.proofs.FirstCut.{RiseFrom, first-each, fresh}
use Rattle.tbl_line_cells.specs.LaidCells.{IsDrawn, IsShown, on_line}
use Rattle.tbl_line_cells.specs.LinesDrawn.{AreDrawn, AreShown, CutMore, CutOn, EndsBehind, InFront, IsNoted, KeptLine, RunInOrder, end_behind, passes_room, shown_in}
use Rattle.tbl_line_cells.specs.declared.laid_cells.LaidCell.{LaidCell}

-- nothing in no columns
abbrev pub no_laid : LaidCell
no_laid = record {
  column = record { needs = record { alone = 0; strip = 0; left = 0; right = 0; split = 0 }; bars = 0; width = 0; start = 0 };
  key = LeftKey;
  entry = record { from = 0; to = 0; kind = TextEntry 0 0 };
  place = AtLine 0 None;
  text = None;
  runs_on = None;
}

pub front-kept : (old new : KeptLine) (fronts : List Cell) → new.fronts ≡ old.fronts → InFront old fronts → InFront new fronts
front-kept old new fronts same front = record {
  in_front = ap (map (λ (f : Front). on_line (cell_of_front f))) same ∙ front.in_front;
  some = subst (AllByRecursion HasBars) (sym same) front.some;
}

-- what stands in front of one of them
pub front-get : (fronts : List Front) (cells : List Cell) (at : ℕ) (f : Front) (d : Cell)
    → map (λ (g : Front). on_line (cell_of_front g)) fronts ≡ map on_line cells → at < length fronts
    → on_line (cell_of_front (get_or fronts at f)) ≡ on_line (get_or cells at d)
front-get [] cells at f d same few = absurd (omega (arith, few))
front-get (x ∷ fronts) [] at f d same few = absurd (cc)
front-get (x ∷ fronts) (y ∷ cells) zero f d same few = let first : on_line (cell_of_front x) ≡ on_line y = cc in first
front-get (x ∷ fronts) (y ∷ cells) (suc at) f d same few =
    let rest : map (λ (g : Front). on_line (cell_of_front g)) fronts ≡ map on_line cells = cc in
    front-get fronts cells at f d rest (omega (arith, few))

-- a cell, and what it shows
pub record ShownAt (bytes : List ℕ) (c : LaidCell) (k : ℕ) (done : List Shown) : Type 0 where
  pub x : Shown
  pub is : IsShown bytes c x
  pub rest : drop k done ≡ x ∷ drop (suc k) done

pub shown-at : (bytes : List ℕ) (cells : List LaidCell) (done : List Shown) (k : ℕ) (d : LaidCell) → AreShown bytes cells done → k < length cells
    → ShownAt bytes (get_or cells k d) k done
shown-at bytes [] done k d all few = absurd (omega (arith, few))
shown-at bytes (c ∷ cells) [] k d all few = absurd all
shown-at bytes (c ∷ cells) (s ∷ done) zero d all few = record { x = s; is = all.0; rest = refl }
shown-at bytes (c ∷ cells) (s ∷ done) (suc k) d all few =
    let there = shown-at bytes cells done k d all.1 (omega (arith, few)) in
    record { x = there.x; is = there.is; rest = there.rest }

pub many-shown : (bytes : List ℕ) (cells : List LaidCell) (done : List Shown) → AreShown bytes cells done → length cells ≡ length done
many-shown bytes [] [] all = refl
many-shown bytes [] (s ∷ done) all = absurd all
many-shown bytes (c ∷ cells) [] all = absurd all
many-shown bytes (c ∷ cells) (s ∷ done) all = ap suc (many-shown bytes cells done all.1)

-- cells that are the same up to one
pub same-get : {A : Type 0} (n k : ℕ) (xs ys : List A) (d : A) → take n xs ≡ take n ys → k < n → get_or xs k d ≡ get_or ys k d
same-get zero k xs ys d same few = absurd (omega (arith, few))
same-get (suc n) k [] [] d same few = refl
same-get (suc n) k [] (y ∷ ys) d same few = absurd (cc)
same-get (suc n) k (x ∷ xs) [] d same few = absurd (cc)
same-get (suc n) zero (x ∷ xs) (y ∷ ys) d same few = let first : x ≡ y = cc in first
same-get (suc n) (suc k) (x ∷ xs) (y ∷ ys) d same few =
    let rest : take n xs ≡ take n ys = cc in same-get n k xs ys d rest (omega (arith, few))

pub same-fewer : {A : Type 0} (n k : ℕ) (xs ys : List A) → take n xs ≡ take n ys → k ≤ n → take k xs ≡ take k ys
same-fewer n zero xs ys same few = refl
same-fewer zero (suc k) xs ys same few = absurd (omega (arith, few))
same-fewer (suc n) (suc k) [] [] same few = refl
same-fewer (suc n) (suc k) [] (y ∷ ys) same few = absurd (cc)
same-fewer (suc n) (suc k) (x ∷ xs) [] same few = absurd (cc)
same-fewer {A = A} (suc n) (suc k) (x ∷ xs) (y ∷ ys) same few =
    let first : x ≡ y = cc in
    let rest : take n xs ≡ take n ys = cc in
    ap (λ (z : A). z ∷ take k xs) first ∙ ap (λ (zs : List A). y ∷ zs) (same-fewer n k xs ys rest (omega (arith, few)))

pub drop-all : {A : Type 0} (n : ℕ) (xs : List A) → length xs ≤ n → drop n xs ≡ []
drop-all zero [] few = refl
drop-all (suc n) [] few = refl
drop-all zero (x ∷ xs) few = absurd (omega (arith, few))
drop-all (suc n) (x ∷ xs) few = drop-all n xs (omega (arith, few))

drop-more : {A : Type 0} (k : ℕ) (xs : List A) → drop 1 (drop k xs) ≡ drop (suc k) xs
drop-more zero [] = refl
drop-more zero (x ∷ xs) = refl
drop-more (suc k) [] = refl
drop-more (suc k) (x ∷ xs) = drop-more k xs

pub drop-get : {A : Type 0} (k : ℕ) (xs : List A) (d : A) → k < length xs → drop k xs ≡ get_or xs k d ∷ drop (suc k) xs
drop-get k [] d few = absurd (omega (arith, few))
drop-get zero (x ∷ xs) d few = refl
drop-get (suc k) (x ∷ xs) d few = drop-get k xs d (omega (arith, few))

-- where the next bar or rule stands from a cell on, without what stands in front of it
abbrev pub next_behind : ℕ → List Cell → List Shown → ℕ
next_behind end fronts done = next_drawn end (nothing_there ∷ drop 1 fronts) done

with-front : (end : ℕ) (f : Cell) (fronts : List Cell) (done : List Shown)
    → next_drawn end (f ∷ fronts) done ≡ (if is_there (first_of f) then f.at else next_drawn end (nothing_there ∷ fronts) done)
with-front end f fronts [] = refl
with-front end f fronts (s ∷ done) = refl

without-front : (end : ℕ) (done : List Shown) → next_drawn end [] done ≡ next_drawn end (nothing_there ∷ []) done
without-front end [] = refl
without-front end (s ∷ done) = refl

-- with the front of a cell, if the picture has fronts
pub front-next : (has : Bool) (end k : ℕ) (fronts : List Cell) (done : List Shown) (d : Cell) → k < length fronts
    → next_drawn end (drop k (if has then fronts else [])) done
    ≡ (if has && is_there (first_of (get_or fronts k d)) then (get_or fronts k d).at
    else next_behind end (drop k (if has then fronts else [])) done)
front-next true end k fronts done d few =
    let there = drop-get k fronts d few in
    ap (λ (fs : List Cell). next_drawn end fs done) there
    ∙ with-front end (get_or fronts k d) (drop (suc k) fronts) done
    ∙ ap (λ (fs : List Cell). if is_there (first_of (get_or fronts k d)) then (get_or fronts k d).at else next_behind end fs done) (sym there)
front-next false end zero fronts done d few = without-front end done
front-next false end (suc k) fronts done d few = without-front end done

-- what is cut from a cell on: what these draw, where the next bar or rule stands, and of which of them something is cut
pub record CutFrom (bytes : List ℕ) (s : Sheet) (fronts : List Cell) (done : List Shown) (at next : ℕ) (line : KeptLine) : Type 0 where
  pub drawn : AreDrawn bytes (drop at line.cells) (all_cut s (drop at fronts) (drop at done))
  pub next_is : next ≡ next_behind s.width (drop at fronts) (drop at done)
  pub flags : (end : ℕ) → 0 < end → end ≤ length line.cut
      → get_or line.cut (end - 1) false ≡ list_any (λ (own : Left). own.key.end == end) (cut_cells s (drop at fronts) (drop at done))
  pub first_is : line.first_cut ≡ fresh (cut_cells s (drop at fronts) (drop at done))

pub length-replicate : (count : ℕ) → length (replicate count false) ≡ count
length-replicate zero = refl
length-replicate (suc count) = ap suc (length-replicate count)

-- nothing is, behind the last
pub cut-none : (bytes : List ℕ) (s : Sheet) (fronts : List Cell) (done : List Shown) (line : KeptLine) (columns : ℕ) → AreShown bytes line.cells done
    → line.cut ≡ replicate columns false → line.first_cut ≡ 0 → CutFrom bytes s fronts done (length line.cells) s.width line
cut-none bytes s fronts done line columns all cut first =
    let n = length line.cells in
    let none : [] ≡ drop n done = sym (drop-all n done (omega (arith, many-shown bytes line.cells done all))) in
    let no_cells : [] ≡ drop n line.cells = sym (drop-all n line.cells (omega arith)) in
    record {
      drawn = subst (λ (ss : List Shown). AreDrawn bytes (drop n line.cells) (all_cut s (drop n fronts) ss)) none
          (subst (λ (cs : List LaidCell). AreDrawn bytes cs []) no_cells tt);
      next_is = ap (λ (ss : List Shown). next_behind s.width (drop n fronts) ss) none;
      flags = λ end some few.
          ap (λ (bs : List Bool). get_or bs (end - 1) false) cut
          ∙ get_or-replicate columns (end - 1) false false
          (omega (arith, some, few, ap (λ (bs : List Bool). length bs) cut, length-replicate columns))
          ∙ ap (λ (ss : List Shown). list_any (λ (own : Left). own.key.end == end) (cut_cells s (drop n fronts) ss)) none;
      first_is = first ∙ ap (λ (ss : List Shown). fresh (cut_cells s (drop n fronts) ss)) none;
    }

-- one cell more
in-room : (o : Option Left) (s : Sheet) (room drawn : ℕ) (x : Shown) → ((own : Left) → o ≡ Some own → room ≡ room_by s drawn x.at own)
    → shown_in room o x ≡ if_runs_on o s drawn x
in-room None s room drawn x is = refl
in-room (Some own) s room drawn x is = ap (λ (n : ℕ). cut_to n own x) (is own refl)

record Noted (o : Option Left) (cut : List Left) (here : List Left) (old new : KeptLine) : Type 0 where
  pub flags : ((end : ℕ) → 0 < end → end ≤ length old.cut → get_or old.cut (end - 1) false ≡ list_any (λ (own : Left). own.key.end == end) cut)
      → (end : ℕ) → 0 < end → end ≤ length new.cut
      → get_or new.cut (end - 1) false ≡ list_any (λ (own : Left). own.key.end == end) (here ++ cut)
  pub first : old.first_cut ≡ fresh cut → new.first_cut ≡ fresh (here ++ cut)

noted-same : (o : Option Left) (cut : List Left) (old new : KeptLine) → new.cut ≡ old.cut → new.first_cut ≡ old.first_cut → Noted o cut [] old new
noted-same o cut old new same first_same = record {
  flags = λ flags end some few. ap (λ (bs : List Bool). get_or bs (end - 1) false) same
      ∙ flags end some (omega (arith, few, ap (λ (bs : List Bool). length bs) same));
  first = λ first. first_same ∙ first;
}

fresh-more : (b : Bool) (n : ℕ) → (if b then 0 else 1) + n ≡ (if not b then 1 else 0) + n
fresh-more true n = refl
fresh-more false n = refl

-- its flag is set, and no other changes
flag-by : (own : Left) (cut : List Left) (old new : KeptLine) (b : Bool) (end : ℕ) → IsNoted own.key.end own.is_cut old new
    → (own.key.end == end) ≡ b → get_or old.cut (end - 1) false ≡ list_any (λ (c : Left). c.key.end == end) cut → 0 < end → end ≤ length old.cut
    → get_or new.cut (end - 1) false ≡ (b || list_any (λ (c : Left). c.key.end == end) cut)
flag-by own cut old new true end noted is flags some few =
    let same : own.key.end ≡ end = eqb-true own.key.end end is in
    ap (λ (n : ℕ). get_or new.cut (n - 1) false) (sym same) ∙ noted.here (omega (arith, same, some)) (omega (arith, same, few))
flag-by own cut old new false end noted is flags some few =
    noted.others end some (λ same. eqb-false own.key.end end is (sym same)) ∙ flags

noted-one : (own : Left) (cut : List Left) (old new : KeptLine) → IsNoted own.key.end own.is_cut old new
    → Noted (Some own) cut (own ∷ []) old new
noted-one own cut old new noted = record {
  flags = λ flags end some few.
      let within : end ≤ length old.cut = omega (arith, few, noted.count) in
      flag-by own cut old new (own.key.end == end) end noted refl (flags end some within) some within;
  first = λ first. noted.first ∙ ap (λ (n : ℕ). (if own.is_cut then 0 else 1) + n) first ∙ fresh-more own.is_cut (fresh cut);
}

noted-if : (b : Bool) (own : Left) (cut : List Left) (old new : KeptLine) → CutMore b (Some own) old new
    → Noted (Some own) cut (if b then own ∷ [] else []) old new
noted-if true own cut old new more = noted-one own cut old new more
noted-if false own cut old new more = noted-same (Some own) cut old new more.0 more.1

noted-by : (o : Option Left) (s : Sheet) (room drawn : ℕ) (x : Shown) (cut : List Left) (old new : KeptLine)
    → ((own : Left) → o ≡ Some own → room ≡ room_by s drawn x.at own) → CutMore (passes_room room o x) o old new
    → Noted o cut (if_cut o s drawn x) old new
noted-by None s room drawn x cut old new is more = noted-same None cut old new more.0 more.1
noted-by (Some own) s room drawn x cut old new is more =
    subst (λ (n : ℕ). Noted (Some own) cut (if nat_lt n (columns_of x.runs) then own ∷ [] else []) old new) (is own refl)
    (noted-if (nat_lt room (columns_of x.runs)) own cut old new more)

pub cut-next : {bytes : List ℕ} {s : Sheet} {fronts : List Cell} {done : List Shown} {k next drawn after room : ℕ} {old new : KeptLine} {c : LaidCell}
    {x : Shown} → CutFrom bytes s fronts done (suc k) next old → drop k done ≡ x ∷ drop (suc k) done
    → drawn ≡ next_drawn s.width (drop (suc k) fronts) (drop (suc k) done)
    → drop k new.cells ≡ c ∷ drop (suc k) old.cells → IsDrawn bytes c (shown_in room x.runs_on x)
    → ((own : Left) → x.runs_on ≡ Some own → room ≡ room_by s drawn x.at own) → CutMore (passes_room room x.runs_on x) x.runs_on old new
    → after ≡ (if not x.is_text && is_there x.runs then x.at else drawn) → CutFrom bytes s fronts done k after new
cut-next {bytes} {s} {fronts} {done} {k} {next} {drawn} {after} {room} {old} {new} {c} {x} from rest drawn_is cells is room_is more after_is =
    let rest_done = drop (suc k) done in
    let rest_fronts = drop (suc k) fronts in
    let behind = drop-more k fronts in
    let here : if_cut x.runs_on s drawn x ++ cut_cells s rest_fronts rest_done ≡ cut_cells s (drop k fronts) (drop k done)
    = ap (λ (n : ℕ). if_cut x.runs_on s n x ++ cut_cells s rest_fronts rest_done) drawn_is
    ∙ ap (λ (fs : List Cell). if_cut x.runs_on s (next_drawn s.width fs rest_done) x ++ cut_cells s fs rest_done) (sym behind)
    ∙ ap (λ (ss : List Shown). cut_cells s (drop k fronts) ss) (sym rest) in
    let shown : shown_in room x.runs_on x ∷ all_cut s rest_fronts rest_done ≡ all_cut s (drop k fronts) (drop k done)
    = ap (λ (y : Shown). y ∷ all_cut s rest_fronts rest_done) (in-room x.runs_on s room drawn x room_is)
    ∙ ap (λ (n : ℕ). if_runs_on x.runs_on s n x ∷ all_cut s rest_fronts rest_done) drawn_is
    ∙ ap (λ (fs : List Cell). if_runs_on x.runs_on s (next_drawn s.width fs rest_done) x ∷ all_cut s fs rest_done) (sym behind)
    ∙ ap (λ (ss : List Shown). all_cut s (drop k fronts) ss) (sym rest) in
    let noted = noted-by x.runs_on s room drawn x (cut_cells s rest_fronts rest_done) old new room_is more in
    record {
      drawn = subst (λ (ss : List Shown). AreDrawn bytes (drop k new.cells) ss) shown
          (subst (λ (cs : List LaidCell). AreDrawn bytes cs (shown_in room x.runs_on x ∷ all_cut s rest_fronts rest_done)) (sym cells) (is, from.drawn));
      next_is = after_is
          ∙ ap (λ (n : ℕ). if not x.is_text && is_there x.runs then x.at else n)
          (drawn_is ∙ ap (λ (fs : List Cell). next_drawn s.width fs rest_done) (sym behind))
          ∙ ap (λ (ss : List Shown). next_behind s.width (drop k fronts) ss) (sym rest);
      flags = λ end some few.
          noted.flags from.flags end some few ∙ ap (λ (cs : List Left). list_any (λ (own : Left). own.key.end == end) cs) here;
      first_is = noted.first from.first_is ∙ ap fresh here;
    }

-- the cells that are cut end one behind the other, too
rise-further : (from more : ℕ) (cut : List Left) → from ≤ more → RiseFrom more cut → RiseFrom from cut
rise-further from more [] order rise = tt
rise-further from more (c ∷ cut) order rise = (omega (arith, order, rise.0), rise.1)

abbrev AllWithin : ℕ → List Left → Type 0
AllWithin columns cut = AllByRecursion (λ (c : Left). c.key.end ≤ columns) cut

rise-if : (b : Bool) (columns from : ℕ) (own : Left) (cut : List Left) → from < own.key.end → RiseFrom own.key.end cut
    → RiseFrom from ((if b then own ∷ [] else []) ++ cut)
rise-if true columns from own cut more rise = (more, rise)
rise-if false columns from own cut more rise = rise-further from own.key.end cut (omega (arith, more)) rise

within-if : (b : Bool) (columns : ℕ) (own : Left) (cut : List Left) → own.key.end ≤ columns → AllWithin columns cut
    → AllWithin columns ((if b then own ∷ [] else []) ++ cut)
within-if true columns own cut few all = (few, all)
within-if false columns own cut few all = all

rise-cut : (o : Option Left) (s : Sheet) (drawn : ℕ) (x : Shown) (columns from : ℕ) (cut : List Left) → EndsBehind columns from o
    → RiseFrom (end_behind from o) cut → RiseFrom from (if_cut o s drawn x ++ cut)
rise-cut None s drawn x columns from cut ends rise = rise
rise-cut (Some own) s drawn x columns from cut ends rise =
    rise-if (nat_lt (room_by s drawn x.at own) (columns_of x.runs)) columns from own cut ends.0 rise

within-cut : (o : Option Left) (s : Sheet) (drawn : ℕ) (x : Shown) (columns from : ℕ) (cut : List Left) → EndsBehind columns from o
    → AllWithin columns cut → AllWithin columns (if_cut o s drawn x ++ cut)
within-cut None s drawn x columns from cut ends all = all
within-cut (Some own) s drawn x columns from cut ends all =
    within-if (nat_lt (room_by s drawn x.at own) (columns_of x.runs)) columns own cut ends.1 all

cut-rise : (s : Sheet) (fronts : List Cell) (columns from : ℕ) (done : List Shown) → RunInOrder columns from done
    → RiseFrom from (cut_cells s fronts done)
cut-rise s fronts columns from [] order = tt
cut-rise s fronts columns from (x ∷ done) order =
    rise-cut x.runs_on s (next_drawn s.width (drop 1 fronts) done) x columns from (cut_cells s (drop 1 fronts) done) order.0
    (cut-rise s (drop 1 fronts) columns (end_behind from x.runs_on) done order.1)

cut-within : (s : Sheet) (fronts : List Cell) (columns from : ℕ) (done : List Shown) → RunInOrder columns from done
    → AllWithin columns (cut_cells s fronts done)
cut-within s fronts columns from [] order = tt
cut-within s fronts columns from (x ∷ done) order =
    within-cut x.runs_on s (next_drawn s.width (drop 1 fronts) done) x columns from (cut_cells s (drop 1 fronts) done) order.0
    (cut-within s (drop 1 fronts) columns (end_behind from x.runs_on) done order.1)

-- all of it
pub cut-all : {bytes : List ℕ} {s : Sheet} {fronts : List Cell} {done : List Shown} {next columns : ℕ} {line : KeptLine}
    → CutFrom bytes s fronts done 0 next line → length line.cut ≡ columns → RunInOrder columns 0 done
    → CutOn columns line (cut_cells s fronts done)
cut-all {s = s} {fronts = fronts} {done = done} {columns = columns} from many order = record {
  ends = λ end some few. from.flags end some (omega (arith, few, many));
  first = from.first_is
      ∙ sym (first-each columns 0 (cut_cells s fronts done) (cut-rise s fronts columns 0 done order) (cut-within s fronts columns 0 done order));
}

-- where nothing runs on, nothing is cut
or-left : (a b : Bool) → (a || b) ≡ false → a ≡ false
or-left true b is = absurd (cc)
or-left false b is = refl

or-right : (a b : Bool) → (a || b) ≡ false → b ≡ false
or-right true b is = absurd (cc)
or-right false b is = is

none-some : (o : Option Left) → is_some o ≡ false → o ≡ None
none-some None is = refl
none-some (Some own) is = absurd (cc)

pub none-run : (done : List Shown) → list_any (λ (s : Shown). is_some s.runs_on) done ≡ false → NoneRunOn done
none-run [] none = tt
none-run (s ∷ done) none = (
  none-some s.runs_on (or-left (is_some s.runs_on) (list_any (λ (t : Shown). is_some t.runs_on) done) none),
  none-run done (or-right (is_some s.runs_on) (list_any (λ (t : Shown). is_some t.runs_on) done) none),
)

pub nothing-cut : (columns : ℕ) (line : KeptLine) → line.cut ≡ [] → line.first_cut ≡ 0 → CutOn columns line []
nothing-cut columns line cut first = record {
  ends = λ end some few. ap (λ (bs : List Bool). get_or bs (end - 1) false) cut;
  first = first ∙ sym (first-each columns 0 [] tt tt);
}

pub none-cut : (s : Sheet) (fronts : List Cell) (done : List Shown) (columns : ℕ) (line : KeptLine) → NoneRunOn done → line.cut ≡ []
    → line.first_cut ≡ 0 → CutOn columns line (cut_cells s fronts done)
none-cut s fronts done columns line none cut first =
    subst (λ (cs : List Left). CutOn columns line cs) (sym (cut_cells-none s fronts done none)) (nothing-cut columns line cut first)

pub none-drawn : (bytes : List ℕ) (s : Sheet) (fronts : List Cell) (done : List Shown) (cells : List LaidCell) → NoneRunOn done
    → AreDrawn bytes cells done → AreDrawn bytes cells (all_cut s fronts done)
none-drawn bytes s fronts done cells none drawn =
    subst (λ (ss : List Shown). AreDrawn bytes cells ss) (sym (all_cut-none s fronts done none)) drawn
