-- Pieces of a line on which entries run on stand apart, where they do if these fill their columns, and nothing else stands in a cell up to
-- where they stop.
use Rattle.std.proofs.Common.{◌≡◌, ℕ, ◌+◌, ◌<◌, ◌≤◌, max, min, Bool, true, false, not, ◌&&◌, List, [], ◌∷◌, drop, length, map, Option, Some, None, ◌⊎◌, inl, inr, refl, sym, ap, subst, ◌∙◌, arith, if◌then◌else◌, nat_lt, lt-ltb, ltb-true}
use Rattle.std.specs.List.{AllByRecursion}
use Rattle.std.proofs.lemmas.Bool.{cases_lt}
use Rattle.tbl_laws.proofs.EndsInTime.{cut-ends, still}
use Rattle.tbl_laws.specs.PiecesApart.{BeginsBehind, InTurn, IsApart, StandApart}
use Rattle.tbl_laws.specs.RunningOn.{Alike, AreAlike, FreeToStop, HasColumns, HaveColumns, IsClear, IsDrawn, Runs, Same}
use Rattle.tbl_layout.specs.Entries.{Run, columns_of, line_within}
use Rattle.tbl_lines.specs.CellsLeft.{Left}
use Rattle.tbl_lines.specs.LinesLeft.{Shown, all_cut, end_of_columns, if_runs_on, is_there, line_by, next_drawn, room_by, shown_cell}
use Rattle.tbl_lines.specs.PictureLines.{Cell, Sheet, end_of, with_fronts}
use Rattle.tbl_lines.specs.RowsLeft.{first_of}

-- the first piece that shows something begins at a place or behind it; where none does, the place lies in the picture
abbrev StartsBy : List Run → ℕ → ℕ → Type 0 → Type 0
StartsBy [] place at others = others
StartsBy (run ∷ runs) place at others = place ≤ at

abbrev pub StartsBehind : ℕ → ℕ → List Cell → Type 0
StartsBehind width place [] = place ≤ width
StartsBehind width place (c ∷ cells) = StartsBy (first_of c) place c.at (StartsBehind width place cells)

before-by : (runs : List Run) (place further at : ℕ) (others more : Type 0) → place ≤ further → (more → others) → StartsBy runs further at more
    → StartsBy runs place at others
before-by [] place further at others more le rest starts = rest starts
before-by (run ∷ runs) place further at others more le rest starts = omega (arith, le, starts)

starts-before : (width place further : ℕ) (cells : List Cell) → place ≤ further → StartsBehind width further cells → StartsBehind width place cells
starts-before width place further [] le starts = omega (arith, le, starts)
starts-before width place further (c ∷ cells) le starts =
    before-by (first_of c) place further c.at (StartsBehind width place cells) (StartsBehind width further cells) le
    (starts-before width place further cells le) starts

-- what is left of a cell that would fill its columns, as it is cut
data Follows (filled cut : Shown) : Type 0 where
  Equal : (is : filled ≡ cut) → Follows filled cut
  Begins : (same : filled.at ≡ cut.at) (some : 0 < length filled.runs) → Follows filled cut

abbrev AllFollow : List Shown → List Shown → Type 0
AllFollow [] [] = Unit {0}
AllFollow [] (w ∷ cut) = ⊥
AllFollow (p ∷ filled) [] = ⊥
AllFollow (p ∷ filled) (w ∷ cut) = Follows p w × AllFollow filled cut

cut-same : (s : Sheet) (drawn : ℕ) (p q : Shown) → q.runs_on ≡ None → p ≡ q → p ≡ if_runs_on q.runs_on s drawn q
cut-same s drawn p q none is = is ∙ sym (ap (λ (o : Option Left). if_runs_on o s drawn q) none)

follows : (s : Sheet) (drawn : ℕ) (p q : Shown) → Alike p q → Follows p (if_runs_on q.runs_on s drawn q)
follows s drawn p q (Same none is) = Equal (cut-same s drawn p q none is)
follows s drawn p q (Runs cell on text same some) = Begins (same ∙ sym (still q.runs_on s drawn q)) some

all-follow : (s : Sheet) (fronts : List Cell) (filled cells : List Shown) → AreAlike filled cells → AllFollow filled (all_cut s fronts cells)
all-follow s fronts [] [] alike = tt
all-follow s fronts [] (q ∷ cells) alike = absurd alike
all-follow s fronts (p ∷ filled) [] alike = absurd alike
all-follow s fronts (p ∷ filled) (q ∷ cells) alike = (
  follows s (next_drawn s.width (drop 1 fronts) cells) p q alike.0,
  all-follow s (drop 1 fronts) filled cells alike.1,
)

-- where the one stands apart behind a place, the other starts behind it
module _ (width : ℕ) where
  abbrev Starts : List Cell → List Cell → Type 0
  Starts pieces others = (at : ℕ) → StandApart width at pieces → StartsBehind width at others

  same-starts-by : (runs : List Run) (from at : ℕ) (pieces others : List Cell) → Starts pieces others → BeginsBehind from at runs
      → StandApart width (end_of at from runs) pieces → StartsBy runs from at (StartsBehind width from others)
  same-starts-by [] from at pieces others next begins rest = next from rest
  same-starts-by (run ∷ runs) from at pieces others next begins rest = begins

  same-starts : (from : ℕ) (c : Cell) (pieces others : List Cell) → Starts pieces others → StandApart width from (c ∷ pieces)
      → StartsBehind width from (c ∷ others)
  same-starts from c pieces others next apart = same-starts-by (first_of c) from c.at pieces others next apart.0 apart.1

  run-starts : (more runs : List Run) (from before at : ℕ) (pieces others : List Cell) → Starts pieces others → before ≡ at → 0 < length more
      → BeginsBehind from before more → StandApart width (end_of before from more) pieces
      → StartsBy runs from at (StartsBehind width from others)
  run-starts [] runs from before at pieces others next same some begins rest = absurd (omega (arith, some))
  run-starts (run ∷ more) [] from before at pieces others next same some begins rest =
      let end = end_of before from (run ∷ more) in starts-before width from end others (omega arith) (next end rest)
  run-starts (run ∷ more) (r ∷ runs) from before at pieces others next same some begins rest = omega (arith, begins, same)

  cell-starts : (from : ℕ) (p w : Shown) (pieces others : List Cell) → Follows p w → Starts pieces others
      → StandApart width from (shown_cell p ∷ pieces) → StartsBehind width from (shown_cell w ∷ others)
  cell-starts from p w pieces others (Equal is) next apart =
      subst (λ (x : Shown). StartsBehind width from (shown_cell x ∷ others)) is (same-starts from (shown_cell p) pieces others next apart)
  cell-starts from p w pieces others (Begins same some) next apart =
      run-starts p.runs w.runs from p.at w.at pieces others next same some apart.0 apart.1

  starts : (from : ℕ) (fronts : List Cell) (filled cut : List Shown) → AllFollow filled cut
      → StandApart width from (with_fronts fronts (map shown_cell filled)) → StartsBehind width from (with_fronts fronts (map shown_cell cut))
  starts from [] [] [] follow apart = apart
  starts from [] (p ∷ filled) (w ∷ cut) follow apart =
      cell-starts from p w (map shown_cell filled) (map shown_cell cut) follow.0 (λ at rest. starts at [] filled cut follow.1 rest) apart
  starts from (f ∷ fronts) [] [] follow apart =
      same-starts from f (with_fronts fronts []) (with_fronts fronts []) (λ at rest. starts at fronts [] [] follow rest) apart
  starts from (f ∷ fronts) (p ∷ filled) (w ∷ cut) follow apart =
      let pieces = with_fronts fronts (map shown_cell filled) in
      let others = with_fronts fronts (map shown_cell cut) in
      same-starts from f (shown_cell p ∷ pieces) (shown_cell w ∷ others)
      (λ at rest. cell-starts at p w pieces others follow.0 (λ further more. starts further fronts filled cut follow.1 more) rest) apart
  starts from fronts [] (w ∷ cut) follow apart = absurd follow
  starts from fronts (p ∷ filled) [] follow apart = absurd follow

-- what ends in front of the next bar and of where it stops ends in front of what starts behind it
module _ (s : Sheet) (end stop : ℕ) (within : end ≤ stop) where
  front-by : (runs : List Run) (at other : ℕ) (others : Type 0) → HasColumns runs → end ≤ (if is_there runs then at else other)
      → (end ≤ other → others) → StartsBy runs end at others
  front-by [] at other others has before rest = rest before
  front-by (run ∷ runs) at other others has before rest =
      subst (λ (t : Bool). end ≤ (if t then at else other)) (lt-ltb 0 (columns_of (run ∷ runs)) has) before

  plain-by : (runs : List Run) (text : Bool) (at other : ℕ) (others : Type 0) → BeginsBehind stop at runs
      → end ≤ (if not text && is_there runs then at else other) → (end ≤ other → others) → StartsBy runs end at others
  plain-by [] true at other others begins before rest = rest before
  plain-by [] false at other others begins before rest = rest before
  plain-by (run ∷ runs) text at other others begins before rest = omega (arith, within, begins)

  begins-any : (runs more : List Run) (room at : ℕ) → room < columns_of runs → BeginsBehind stop at runs → BeginsBehind stop at more
  begins-any [] more room at less begins = absurd (omega (arith, less))
  begins-any (run ∷ runs) [] room at less begins = tt
  begins-any (run ∷ runs) (r ∷ more) room at less begins = begins

  begins-cut : (t : Bool) (room : ℕ) (q : Shown) (more : List Run) → nat_lt room (columns_of q.runs) ≡ t → BeginsBehind stop q.at q.runs
      → BeginsBehind stop (if t then record q { runs = more } else q).at (if t then record q { runs = more } else q).runs
  begins-cut true room q more is begins = begins-any q.runs more room q.at (ltb-true room (columns_of q.runs) is) begins
  begins-cut false room q more is begins = begins

  cut-begins : (o : Option Left) (drawn : ℕ) (q : Shown) → BeginsBehind stop q.at q.runs
      → BeginsBehind stop (if_runs_on o s drawn q).at (if_runs_on o s drawn q).runs
  cut-begins None drawn q begins = begins
  cut-begins (Some own) drawn q begins =
      let room = room_by s drawn q.at own in
      begins-cut (nat_lt room (columns_of q.runs)) room q (line_within room own.key.key own.field own.gone) refl begins

  starts-any : (runs : List Run) (at : ℕ) (others : Type 0) → BeginsBehind stop at runs → others → StartsBy runs end at others
  starts-any [] at others begins rest = rest
  starts-any (run ∷ runs) at others begins rest = omega (arith, within, begins)

  some-starts : (runs : List Run) (at : ℕ) (others : Type 0) → 0 < columns_of runs → end ≤ at → StartsBy runs end at others
  some-starts [] at others some le = absurd (omega (arith, some))
  some-starts (run ∷ runs) at others some le = le

  drawn-starts : (q : Shown) (other : ℕ) (others : Type 0) → IsDrawn q
      → end ≤ (if not q.is_text && is_there q.runs then q.at else other) → StartsBy q.runs end q.at others
  drawn-starts q other others drawn before =
      let marked : (not q.is_text && is_there q.runs) ≡ true =
      ap (λ (t : Bool). not t && is_there q.runs) drawn.drawn ∙ lt-ltb 0 (columns_of q.runs) drawn.some in
      some-starts q.runs q.at others drawn.some (subst (λ (t : Bool). end ≤ (if t then q.at else other)) marked before)

  cell-reaches : (drawn other : ℕ) (p q : Shown) (others : List Cell) → Alike p q → IsClear stop q
      → end ≤ (if not q.is_text && is_there q.runs then q.at else other) → (end ≤ other → StartsBehind s.width end others)
      → StartsBehind s.width end (shown_cell (if_runs_on q.runs_on s drawn q) ∷ others)
  cell-reaches drawn other p q others (Same none is) (inl begins) before rest =
      subst (λ (o : Option Left). StartsBehind s.width end (shown_cell (if_runs_on o s drawn q) ∷ others)) (sym none)
      (plain-by q.runs q.is_text q.at other (StartsBehind s.width end others) begins before rest)
  cell-reaches drawn other p q others (Same none is) (inr rule) before rest =
      subst (λ (o : Option Left). StartsBehind s.width end (shown_cell (if_runs_on o s drawn q) ∷ others)) (sym none)
      (drawn-starts q other (StartsBehind s.width end others) rule before)
  cell-reaches drawn other p q others (Runs cell on text same some) (inl begins) before rest =
      let w = if_runs_on q.runs_on s drawn q in
      let inside = subst (λ (t : Bool). end ≤ (if not t && is_there q.runs then q.at else other)) text before in
      starts-any w.runs w.at (StartsBehind s.width end others) (cut-begins q.runs_on drawn q begins) (rest inside)
  cell-reaches drawn other p q others (Runs cell on text same some) (inr rule) before rest = absurd (cc (sym text ∙ rule.drawn))

  pub reaches : (fronts : List Cell) (filled cells : List Shown) → AreAlike filled cells
      → AllByRecursion (λ other. IsClear stop other) cells → HaveColumns fronts → length fronts ≤ length cells + 1
      → end ≤ next_drawn s.width fronts cells → StartsBehind s.width end (with_fronts fronts (map shown_cell (all_cut s fronts cells)))
  reaches [] [] [] alike behind have few before = before
  reaches (f ∷ []) [] [] alike behind have few before =
      front-by (first_of f) f.at s.width (end ≤ s.width) have.0 before (λ inside. inside)
  reaches (f ∷ g ∷ fronts) [] [] alike behind have few before = absurd (omega (arith, few))
  reaches [] (p ∷ filled) (q ∷ cells) alike behind have few before =
      cell-reaches (next_drawn s.width [] cells) (next_drawn s.width [] cells) p q (map shown_cell (all_cut s [] cells)) alike.0 behind.0 before
      (λ inside. reaches [] filled cells alike.1 behind.1 tt (omega arith) inside)
  reaches (f ∷ fronts) (p ∷ filled) (q ∷ cells) alike behind have few before =
      let next = next_drawn s.width fronts cells in
      let others = with_fronts fronts (map shown_cell (all_cut s fronts cells)) in
      front-by (first_of f) f.at (if not q.is_text && is_there q.runs then q.at else next)
      (StartsBehind s.width end (shown_cell (if_runs_on q.runs_on s next q) ∷ others)) have.0 before
      (λ inside.
      cell-reaches next next p q others alike.0 behind.0 inside
      (λ further. reaches fronts filled cells alike.1 behind.1 have.1 (omega (arith, few)) further))
  reaches fronts [] (q ∷ cells) alike behind have few before = absurd alike
  reaches fronts (p ∷ filled) [] alike behind have few before = absurd alike

-- where the one stands apart, so does the other
module _ (s : Sheet) where
  abbrev Apart : List Cell → List Cell → Type 0
  Apart pieces others = (at to : ℕ) → StandApart s.width at pieces → StartsBehind s.width to others → StandApart s.width to others

  same-by : (runs : List Run) (from place at : ℕ) (pieces others : List Cell) → Apart pieces others → Starts s.width pieces others
      → BeginsBehind from at runs → StandApart s.width (end_of at from runs) pieces → StartsBy runs place at (StartsBehind s.width place others)
      → BeginsBehind place at runs × StandApart s.width (end_of at place runs) others
  same-by [] from place at pieces others next first begins rest start = (tt, next from place rest start)
  same-by (run ∷ runs) from place at pieces others next first begins rest start =
      let far = end_of at from (run ∷ runs) in
      let end = end_of at place (run ∷ runs) in
      (start, next far end rest (starts-before s.width end far others (omega (arith, begins, start)) (first far rest)))

  same-apart : (from place : ℕ) (c : Cell) (pieces others : List Cell) → Apart pieces others → Starts s.width pieces others
      → StandApart s.width from (c ∷ pieces) → StartsBehind s.width place (c ∷ others) → StandApart s.width place (c ∷ others)
  same-apart from place c pieces others next first apart start =
      same-by (first_of c) from place c.at pieces others next first apart.0 apart.1 start

  run-apart : (runs : List Run) (far place at : ℕ) (pieces others : List Cell) → Apart pieces others → StandApart s.width far pieces
      → StartsBehind s.width (at + columns_of runs) others → StartsBy runs place at (StartsBehind s.width place others)
      → BeginsBehind place at runs × StandApart s.width (end_of at place runs) others
  run-apart [] far place at pieces others next rest further start = (tt, next far place rest start)
  run-apart (run ∷ runs) far place at pieces others next rest further start =
      let end = end_of at place (run ∷ runs) in
      (start, next far end rest (starts-before s.width end (at + columns_of (run ∷ runs)) others (omega (arith, start)) further))

  -- behind what runs on
  behind-by : (end limit at far drawn stop : ℕ) (others : List Cell) → end ≤ max at limit → limit ≡ min drawn stop → at ≤ far
      → (at < limit) ⊎ (limit ≤ at) → StartsBehind s.width far others → (end ≤ drawn → end ≤ stop → StartsBehind s.width end others)
      → StartsBehind s.width end others
  behind-by end limit at far drawn stop others ends is le (inl less) first reach = reach (omega (arith, ends, is, less)) (omega (arith, ends, is, less))
  behind-by end limit at far drawn stop others ends is le (inr more) first reach =
      starts-before s.width end far others (omega (arith, ends, le, more)) first

  far-behind : (more : List Run) (before from at : ℕ) → before ≡ at → 0 < length more → at ≤ end_of before from more
  far-behind [] before from at same some = absurd (omega (arith, some))
  far-behind (run ∷ more) before from at same some = omega (arith, same)

  cell-apart : (from place drawn : ℕ) (p q : Shown) (pieces others : List Cell) → Alike p q → Apart pieces others → Starts s.width pieces others
      → ((own : Left) → q.runs_on ≡ Some own → (end : ℕ) → end ≤ drawn → end ≤ end_of_columns s own.stop → StartsBehind s.width end others)
      → StandApart s.width from (shown_cell p ∷ pieces) → StartsBehind s.width place (shown_cell (if_runs_on q.runs_on s drawn q) ∷ others)
      → StandApart s.width place (shown_cell (if_runs_on q.runs_on s drawn q) ∷ others)
  cell-apart from place drawn p q pieces others (Same none is) next first reach apart start =
      subst (λ (x : Shown). StartsBehind s.width place (shown_cell x ∷ others) → StandApart s.width place (shown_cell x ∷ others))
      (cut-same s drawn p q none is) (λ begins. same-apart from place (shown_cell p) pieces others next first apart begins) start
  cell-apart from place drawn p q pieces others (Runs own on text same some) next first reach apart start =
      let w = if_runs_on q.runs_on s drawn q in
      let far = end_of p.at from p.runs in
      let stop = end_of_columns s own.stop in
      let limit = min drawn stop in
      let placed = same ∙ sym (still q.runs_on s drawn q) in
      run-apart w.runs far place w.at pieces others next apart.1
      (behind-by (w.at + columns_of w.runs) limit w.at far drawn stop others (cut-ends s drawn q own on) refl
      (far-behind p.runs p.at from w.at placed some) (cases_lt w.at limit) (first far apart.1) (reach own on (w.at + columns_of w.runs))) start

  pub runs-apart : (fronts : List Cell) (filled cells : List Shown) (from place : ℕ) → AreAlike filled cells → FreeToStop s cells
      → HaveColumns fronts → length fronts ≤ length cells + 1 → StandApart s.width from (with_fronts fronts (map shown_cell filled))
      → StartsBehind s.width place (with_fronts fronts (map shown_cell (all_cut s fronts cells)))
      → StandApart s.width place (with_fronts fronts (map shown_cell (all_cut s fronts cells)))
  runs-apart [] [] [] from place alike free have few apart start = start
  runs-apart (f ∷ fronts) [] [] from place alike free have few apart start =
      let others = with_fronts fronts [] in
      same-apart from place f others others
      (λ at to rest begins. runs-apart fronts [] [] at to alike free have.1 (omega (arith, few)) rest begins)
      (λ at rest. starts s.width at fronts [] [] tt rest) apart start
  runs-apart [] (p ∷ filled) (q ∷ cells) from place alike free have few apart start =
      let drawn = next_drawn s.width [] cells in
      cell-apart from place drawn p q (map shown_cell filled) (map shown_cell (all_cut s [] cells)) alike.0
      (λ at to rest begins. runs-apart [] filled cells at to alike.1 free.1 tt (omega arith) rest begins)
      (λ at rest. starts s.width at [] filled (all_cut s [] cells) (all-follow s [] filled cells alike.1) rest)
      (λ own on end before within. reaches s end (end_of_columns s own.stop) within [] filled cells alike.1 (free.0 own on) tt (omega arith) before)
      apart start
  runs-apart (f ∷ fronts) (p ∷ filled) (q ∷ cells) from place alike free have few apart start =
      let drawn = next_drawn s.width fronts cells in
      let pieces = with_fronts fronts (map shown_cell filled) in
      let others = with_fronts fronts (map shown_cell (all_cut s fronts cells)) in
      let fewer : length fronts ≤ length cells + 1 = omega (arith, few) in
      let follow = all-follow s fronts filled cells alike.1 in
      let first : Starts s.width pieces others = λ at rest. starts s.width at fronts filled (all_cut s fronts cells) follow rest in
      same-apart from place f (shown_cell p ∷ pieces) (shown_cell (if_runs_on q.runs_on s drawn q) ∷ others)
      (λ at to rest begins.
      cell-apart at to drawn p q pieces others alike.0
      (λ far near more begin. runs-apart fronts filled cells far near alike.1 free.1 have.1 fewer more begin) first
      (λ own on end before within. reaches s end (end_of_columns s own.stop) within fronts filled cells alike.1 (free.0 own on) have.1 fewer before)
      rest begins)
      (λ at rest. cell-starts s.width at p (if_runs_on q.runs_on s drawn q) pieces others (follows s drawn p q alike.0) first rest) apart start
  runs-apart fronts [] (q ∷ cells) from place alike free have few apart start = absurd alike
  runs-apart fronts (p ∷ filled) [] from place alike free have few apart start = absurd alike

  -- from the beginning of the line
  pub line-apart : (fronts : List Cell) (filled cells : List Shown) → AreAlike filled cells → FreeToStop s cells → HaveColumns fronts
      → length fronts ≤ length cells + 1 → StandApart s.width 0 (with_fronts fronts (map shown_cell filled))
      → StandApart s.width 0 (with_fronts fronts (map shown_cell (all_cut s fronts cells)))
  line-apart fronts filled cells alike free have few apart =
      runs-apart fronts filled cells 0 0 alike free have few apart
      (starts s.width 0 fronts filled (all_cut s fronts cells) (all-follow s fronts filled cells alike) apart)

  pub line-runs-apart : (fronts : List Cell) (filled cells : List Shown) → AreAlike filled cells → FreeToStop s cells → HaveColumns fronts
      → length fronts ≤ length cells + 1 → StandApart s.width 0 (with_fronts fronts (map shown_cell filled)) → InTurn (all_cut s fronts cells)
      → IsApart s.width (line_by s fronts cells) fronts (all_cut s fronts cells)
  line-runs-apart fronts filled cells alike free have few apart turn = record {
    is = refl;
    apart = subst (λ (shown : List Shown). StandApart s.width 0 (with_fronts fronts (map shown_cell shown))) (sym turn)
        (line-apart fronts filled cells alike free have few apart);
  }
