-- What a step does that gives what stands in front of a column.
use Rattle.std.proofs.Common.{◌≡◌, ◌≢◌, ℕ, zero, suc, ◌+◌, ◌-◌, ◌<◌, ◌≤◌, max, Bool, true, false, List, [], ◌∷◌, ◌++◌, length, drop, replicate, get_or, refl, sym, ap, subst, ◌∙◌, arith, append_assoc, length-drop, nat_lt, ltb-true, ltb-false, append-nil}
use Rattle.std.proofs.lemmas.List.{drop_all, length-map}
use Rattle.input_source.specs.Bytes.{blank}
use Rattle.tbl_layout.specs.DataLines.{sign_byte}
use Rattle.tbl_layout.specs.Entries.{Run, before_glyphs, blanks, columns_of, up_to_last_glyph}
use Rattle.tbl_layout.specs.declared.data_lines.RuleSign.{RuleSign}
use Rattle.tbl_layout.specs.declared.data_lines.RuleSign.TheVariants.{Double, Single}
use Rattle.tbl_lines.specs.PictureLines.{Cell, at_column, bar, bars_at, crossed_at, crossing, end_of, nothing_there, repeated, with_fronts}
use Rattle.tbl_pieces.specs.PieceQueue.{Adds, KeptPieces}
use Rattle.tbl_lines.specs.RowsLeft.{cell_left, cell_of_front, first_of, from_line, given, given_of, if_given, one_less, then_fronts}
use Rattle.tbl_lines.specs.declared.fronts.Front.{Front}
use Rattle.tbl_lines.specs.declared.fronts.Front.TheVariants.{Ruled as RuledFront}
use Rattle.tbl_lines.specs.RowsWalked.{HasGlyph, LastHasGlyph, front_count, most_steps, steps_of_cells, steps_of_columns}
use Rattle.tbl_picture.specs.Walks.{FrontStands, InFront, IsNear, IsOn, IsUnderWay, KeptWalk, OnLine, RowSteps, WalkedRow, cells_in_front, cells_left, columns_left, columns_walked, fields_left, fronts_of, row_fronts_of, front_passed, further_lines, reached_by, next_behind, row_left, row_steps, steps_of_rest}
use Rattle.tbl_picture.specs.Nexts.{AtCell, AtFront, Next}
use Rattle.tbl_pieces.proofs.Adding.{adds-fewer, adds-fitting, adds-none}
use Rattle.tbl_lines.proofs.CellsGiven.{none-given, repeated-last, run-given}
use Rattle.tbl_picture.proofs.PlaceReached.{given-reached, near-less}
use Rattle.tbl_picture.proofs.ColumnSteps.{steps-cells}
use Rattle.tbl_lines.proofs.FrontCells.{any-front, count-fronts}
use Rattle.tbl_lines.proofs.RowColumns.{drop-none, length-places, length-row_columns, map-at}
use Rattle.tbl_lines.proofs.RunsGiven.{given-before, given-last, glyph-before, glyph-first, last-behind}

-- cells behind what stands in front of the first of them
abbrev pub behind_front : List Cell → List Cell → List Cell
behind_front fronts [] = with_fronts fronts []
behind_front fronts (c ∷ cells) = c ∷ with_fronts fronts cells

with-first : (f : Cell) (fronts cells : List Cell) → with_fronts (f ∷ fronts) cells ≡ f ∷ behind_front fronts cells
with-first f fronts [] = refl
with-first f fronts (c ∷ cells) = refl

then-some : (fronts cells : List Cell) → 0 < length cells → then_fronts fronts cells ≡ behind_front fronts cells
then-some fronts [] some = absurd (omega (arith, some))
then-some fronts (c ∷ cells) some = refl

none-long : {A : Type 0} (xs : List A) → length xs ≡ 0 → xs ≡ []
none-long [] is = refl
none-long (x ∷ xs) is = absurd (omega (arith, is))

-- what stands in front of a column
pub front-stands : {row : WalkedRow} {w : KeptWalk} {at : ℕ} {found f : Front} → InFront row at w
    → drop at (row_fronts_of row) ≡ cell_of_front found ∷ drop (suc at) (row_fronts_of row) → found ≡ f → FrontStands row at (cell_of_front f) w
front-stands {row} {w} {at} {f = f} front there is =
    let all = row_fronts_of row in
    let first = subst (λ (g : Front). drop at all ≡ cell_of_front g ∷ drop (suc at) all) is there in
    record { front = front; first = map-at (from_line w.line) at all (cell_of_front f) first }

module _ (row : WalkedRow) (w : KeptWalk) (at : ℕ) (f : Cell) (stands : FrontStands row at f w) (reached : ℕ) where
  abbrev pub front_now : Cell
  front_now = from_line w.line f

  abbrev pub behind_now : List Cell
  behind_now = behind_front (drop (suc at) (fronts_of row w.line)) (fields_left row w)

  abbrev new_walk : KeptWalk
  new_walk = front_passed row at reached w

  pub front-first : cells_in_front at row w ≡ front_now ∷ behind_now
  front-first =
      ap (λ (fronts : List Cell). with_fronts fronts (fields_left row w)) stands.first
      ∙ with-first front_now (drop (suc at) (fronts_of row w.line)) (fields_left row w)

  last-front : LastHasGlyph (one_less w.count) behind_now
  last-front = last-behind w.count front_now behind_now (subst (LastHasGlyph w.count) front-first stands.front.last)

  all-fronts : length (row_fronts_of row) ≡ front_count row.columns
  all-fronts =
      count-fronts row stands.front.on.before.fronts (any-front row at stands.front.within)

  many-left : length (fields_left row w) ≡ length row.entries - length w.behind
  many-left =
      let b = stands.front.on.before in
      omega (
        arith,
        length-map (columns_left row w) (cell_left row.bytes w.line),
        length-drop (length w.behind) (columns_walked row w),
        length-row_columns row.bars.boxing row.format row.bytes 0 row.columns row.entries w.places b.short b.places,
      )

  on-front : IsNear (one_less w.count) reached → OnLine row new_walk
  on-front near =
      let o = stands.front.on in
      let b = o.before in
      record {
        before = record { line = b.line; short = b.short; room = b.room; narrow = b.narrow; lie = b.lie; fronts = b.fronts; places = b.places };
        near = near;
        column = o.column;
        places = o.places;
        moved = o.moved;
      }

  -- what is known behind it
  record Behind (next : Next) : Type 0 where
    can : IsUnderWay next row new_walk
    on : IsOn next
    left : row_left next row new_walk ≡ given (one_less w.count) reached behind_now ++ further_lines row w
    less : row_steps next row new_walk
        < front_count row.columns - at + steps_of_columns (most_steps row.bytes) (drop (length w.behind) row.entries)
        + steps_of_rest row (row.height - suc w.line)

  abbrev given_behind : List Cell → List ℕ
  given_behind cells = given (one_less w.count) reached cells ++ further_lines row w

  -- where a column comes next, and where none does any more
  cell-behind : IsNear (one_less w.count) reached → cells_left row new_walk ≡ behind_now
      → (steps_of_cells (most_steps row.bytes) (front_count row.columns - suc (length w.behind)) (drop (length w.behind) row.entries)
      < front_count row.columns - at + steps_of_columns (most_steps row.bytes) (drop (length w.behind) row.entries))
      → Behind AtCell
  cell-behind near same less = record {
    can = record { on = on-front near; last = subst (LastHasGlyph (one_less w.count)) (sym same) last-front };
    on = tt;
    left = ap given_behind same;
    less = omega (arith, less);
  }

  -- a place for each field
  many-places : length w.places ≡ length row.entries
  many-places = length-places row.bytes row.entries w.places stands.front.on.before.places

  next-by : (t u : Bool) → IsNear (one_less w.count) reached → nat_lt (length w.behind) (length w.places) ≡ t → nat_lt at (max 1 (length row.columns)) ≡ u
      → Behind (next_behind t u at)
  next-by true u near is_field is =
      let few : length w.behind < length row.entries = omega (arith, many-places, ltb-true (length w.behind) (length w.places) is_field) in
      let same : suc at ≡ suc (length w.behind) = ap suc (stands.front.first few) in
      cell-behind near
      (then-some (drop (suc (length w.behind)) (fronts_of row w.line)) (fields_left row w) (omega (arith, many-left, few))
      ∙ ap (λ (n : ℕ). behind_front (drop n (fronts_of row w.line)) (fields_left row w)) (sym same))
      (omega (
        arith,
        same,
        stands.front.within,
        all-fronts,
        steps-cells (most_steps row.bytes) (front_count row.columns - suc (length w.behind)) (drop (length w.behind) row.entries),
      ))
  next-by false true near is_field is =
      let past : length row.entries ≤ length w.behind = omega (arith, many-places, ltb-false (length w.behind) (length w.places) is_field) in
      let inner = ltb-true at (max 1 (length row.columns)) is in
      let none : fields_left row w ≡ [] = none-long (fields_left row w) (omega (arith, many-left, past)) in
      let next : at + 1 ≡ suc at = omega arith in
      let fronts = drop (suc at) (fronts_of row w.line) in
      let same : cells_in_front (at + 1) row new_walk ≡ behind_now =
      ap (λ (n : ℕ). with_fronts (drop n (fronts_of row w.line)) (fields_left row w)) next
      ∙ ap (with_fronts fronts) none
      ∙ sym (ap (behind_front fronts) none) in
      record {
        can = record {
          on = on-front near;
          within = omega (arith, inner, all-fronts);
          first = λ few. absurd (omega (arith, few, past));
          last = subst (LastHasGlyph (one_less w.count)) (sym same) last-front;
        };
        on = tt;
        left = ap given_behind same;
        less = omega (arith, inner);
      }
  next-by false false near is_field is =
      let past : length row.entries ≤ length w.behind = omega (arith, many-places, ltb-false (length w.behind) (length w.places) is_field) in
      let edge = ltb-false at (max 1 (length row.columns)) is in
      let all = row_fronts_of row in
      let none : fields_left row w ≡ [] = none-long (fields_left row w) (omega (arith, many-left, past)) in
      let no_entry : drop (length w.behind) row.entries ≡ [] = drop_all (length w.behind) row.entries (omega (arith, past)) in
      let no_front : drop (suc at) (fronts_of row w.line) ≡ [] =
      drop_all (suc at) (fronts_of row w.line) (omega (arith, edge, all-fronts, length-map all (from_line w.line))) in
      let most = most_steps row.bytes in
      cell-behind near
      (ap (then_fronts (drop (suc (length w.behind)) (fronts_of row w.line))) none
      ∙ sym (ap (λ (fronts : List Cell). behind_front fronts (fields_left row w)) no_front ∙ ap (behind_front []) none))
      (omega (
        arith,
        stands.front.within,
        all-fronts,
        ap (steps_of_cells most (front_count row.columns - suc (length w.behind))) no_entry,
        ap (steps_of_columns most) no_entry,
      ))

  -- a step that gives it
  pub front-passed : (frame : List ℕ) (before after : KeptPieces) (added : List ℕ) → w.next ≡ AtFront at
      → IsNear (one_less w.count) reached → Adds row.bytes frame 4 before after added
      → given w.count w.place (front_now ∷ behind_now) ≡ added ++ given (one_less w.count) reached behind_now
      → RowSteps frame row w new_walk before after
  front-passed frame before after added next near adds split =
      let behind = next-by (nat_lt (length w.behind) (length w.places)) (nat_lt at (max 1 (length row.columns))) near refl refl in
      record {
        added = added;
        adds = adds-fitting row.bytes frame before after added adds;
        joins =
            ap (λ (n : Next). row_left n row w) next
            ∙ ap (λ (cells : List Cell). given w.count w.place cells ++ further_lines row w) front-first
            ∙ ap (λ (bytes : List ℕ). bytes ++ further_lines row w) split
            ∙ append_assoc added (given (one_less w.count) reached behind_now) (further_lines row w)
            ∙ ap (λ (rest : List ℕ). added ++ rest) (sym behind.left);
        on = behind.on;
        can = behind.can;
        less = omega (arith, behind.less, ap (λ (n : Next). row_steps n row w) next);
        stays = record { element = refl; above = refl; bars = refl; width = refl; room = refl };
      }

-- a line of bars
bar-first : (line place n : ℕ) → first_of (from_line line (bars_at place (suc n))) ≡ repeated bar (suc n) ∷ []
bar-first line place n = ap (λ (lines : List (List Run)). get_or lines 0 (repeated bar (suc n) ∷ [])) (drop-none line)

nothing-first : (line : ℕ) → first_of (from_line line nothing_there) ≡ []
nothing-first line = ap (λ (lines : List (List Run)). get_or lines 0 []) (drop-none line)

-- on further lines bars aren't crossed
crossed-late : (line place n end : ℕ) (sign : RuleSign) → 0 < n → line ≢ 0
    → from_line line (crossed_at place n sign end) ≡ from_line line (bars_at place n)
crossed-late line place zero end sign some other = absurd (omega (arith, some))
crossed-late zero place (suc n) end sign some other = absurd (other refl)
crossed-late (suc k) place (suc n) end sign some other =
    ap (λ (lines : List (List Run)). record { at = place; lines = lines; below = repeated bar (suc n) ∷ [] }) (drop-none k)

pub stands-late : (row : WalkedRow) (w : KeptWalk) (at place n end : ℕ) (sign : RuleSign) → 0 < n → w.line ≢ 0
    → FrontStands row at (crossed_at place n sign end) w → FrontStands row at (bars_at place n) w
stands-late row w at place n end sign some other stands = record {
  front = stands.front;
  first = stands.first
      ∙ ap (λ (c : Cell). c ∷ drop (suc at) (fronts_of row w.line)) (crossed-late w.line place n end sign some other);
}

-- what is given of bars that are crossed
crossing-two : (count n k : ℕ) (sign : RuleSign) → given_of count (repeated crossing (suc n) ∷ repeated (sign_byte sign) k ∷ [])
    ≡ if_given count (replicate (suc n) crossing) ++ if_given count (replicate k (sign_byte sign))
crossing-two zero n k sign = refl
crossing-two (suc zero) n zero Single = sym (append-nil (replicate (suc n) crossing))
crossing-two (suc zero) n zero Double = sym (append-nil (replicate (suc n) crossing))
crossing-two (suc zero) n (suc k) Single = refl
crossing-two (suc zero) n (suc k) Double = refl
crossing-two (suc (suc m)) n k sign =
    let rest = repeated (sign_byte sign) k in
    given-before (suc (suc m)) (repeated crossing (suc n)) (rest ∷ []) (λ is. absurd (omega (arith, is)))
    ∙ ap (λ (more : List ℕ). replicate (suc n) crossing ++ more) (given-last (suc (suc m)) rest)

crossing-given : (count gap n k : ℕ) (sign : RuleSign)
    → given_of count (blanks gap ∷ repeated crossing (suc n) ∷ repeated (sign_byte sign) k ∷ [])
    ≡ if_given count (replicate gap blank) ++ (if_given count (replicate (suc n) crossing) ++ if_given count (replicate k (sign_byte sign)))
crossing-given count gap n k sign =
    let crossed = repeated crossing (suc n) in
    let rest = repeated (sign_byte sign) k in
    given-before count (blanks gap) (crossed ∷ rest ∷ []) (λ _. glyph-before (crossed ∷ []) (rest ∷ []) (omega arith))
    ∙ ap (λ (more : List ℕ). if_given count (replicate gap blank) ++ more) (crossing-two count n k sign)

-- what is given of a run of glyphs, and of a rule that bars cross
glyphs-before : (run : Run) (bytes : List ℕ) → run.to_glyph ≡ run.bytes → before_glyphs run bytes ≡ run.bytes ++ bytes
glyphs-before run [] same = same ∙ sym (append-nil run.bytes)
glyphs-before run (b ∷ bytes) same = refl

glyphs-given : (count : ℕ) (run : Run) (runs : List Run) → run.to_glyph ≡ run.bytes
    → given_of count (run ∷ runs) ≡ if_given count run.bytes ++ given_of count runs
glyphs-given zero run runs same = refl
glyphs-given (suc zero) run runs same = glyphs-before run (up_to_last_glyph runs) same
glyphs-given (suc (suc n)) run runs same = given-before (suc (suc n)) run runs (λ is. absurd (omega (arith, is)))

no-runs : (count : ℕ) → given_of count [] ≡ []
no-runs zero = refl
no-runs (suc zero) = refl
no-runs (suc (suc n)) = refl

rule-glyphs : (sign : RuleSign) (k : ℕ) → (repeated (sign_byte sign) k).to_glyph ≡ replicate k (sign_byte sign)
rule-glyphs Single k = refl
rule-glyphs Double k = refl

ruled-three : (count j n k : ℕ) (sign : RuleSign)
    → given_of count (repeated (sign_byte sign) j ∷ repeated crossing n ∷ repeated (sign_byte sign) k ∷ [])
    ≡ if_given count (replicate j (sign_byte sign)) ++ (if_given count (replicate n crossing) ++ if_given count (replicate k (sign_byte sign)))
ruled-three count j n k sign =
    let before = repeated (sign_byte sign) j in
    let crossed = repeated crossing n in
    let rest = repeated (sign_byte sign) k in
    glyphs-given count before (crossed ∷ rest ∷ []) (rule-glyphs sign j)
    ∙ ap (λ (more : List ℕ). if_given count before.bytes ++ more)
    (glyphs-given count crossed (rest ∷ []) refl
    ∙ ap (λ (more : List ℕ). if_given count crossed.bytes ++ more)
    (glyphs-given count rest [] (rule-glyphs sign k)
    ∙ ap (λ (more : List ℕ). if_given count rest.bytes ++ more) (no-runs count)
    ∙ append-nil (if_given count rest.bytes)))

module _ (row : WalkedRow) (w : KeptWalk) (at : ℕ) (next : w.next ≡ AtFront at) (frame : List ℕ) where
  -- some bars
  pub bars-steps : (n : ℕ) (before after : KeptPieces) (place gap reached : ℕ) → 0 < n → FrontStands row at (bars_at place n) w
      → gap ≡ place - w.place → reached ≡ reached_by w.count w.place place n → IsNear (one_less w.count) reached
      → Adds row.bytes frame 4 before after (if_given w.count (replicate gap blank) ++ if_given w.count (replicate n bar))
      → RowSteps frame row w (front_passed row at reached w) before after
  bars-steps zero before after place gap reached some stands gap_is reached_is near adds = absurd (omega (arith, some))
  bars-steps (suc m) before after place gap reached some stands gap_is reached_is near adds =
      let f = bars_at place (suc m) in
      let run = repeated bar (suc m) in
      let behind = behind_now row w at f stands reached in
      let first = bar-first w.line place m in
      let has : HasGlyph (run ∷ []) = omega arith in
      let text = if_given w.count (replicate (suc m) bar) in
      front-passed row w at f stands reached frame before after (if_given w.count (replicate gap blank) ++ text) next near adds
      (run-given w.count w.place (from_line w.line f) run behind first (λ _. subst HasGlyph (sym first) has)
      ∙ ap (λ (last : List ℕ). (if_given w.count (replicate (place - w.place) blank) ++ last) ++ given (one_less w.count) (max place w.place + suc m) behind)
      (repeated-last w.count bar (suc m) (λ _. has))
      ∙ ap (λ (n : ℕ). (if_given w.count (replicate n blank) ++ text) ++ given (one_less w.count) (max place w.place + suc m) behind) (sym gap_is)
      ∙ ap (λ (bytes : List ℕ). (if_given w.count (replicate gap blank) ++ text) ++ bytes) (given-reached w.count w.place place (suc m) behind)
      ∙ ap (λ (n : ℕ). (if_given w.count (replicate gap blank) ++ text) ++ given (one_less w.count) n behind) (sym reached_is))

  -- nothing
  pub nothing-steps : (pieces : KeptPieces) → FrontStands row at nothing_there w → RowSteps frame row w (front_passed row at w.place w) pieces pieces
  nothing-steps pieces stands =
      front-passed row w at nothing_there stands w.place frame pieces pieces [] next (near-less w.count w.place stands.front.on.near)
      (adds-fewer row.bytes frame 0 4 pieces pieces [] (omega arith) (adds-none row.bytes frame pieces))
      (none-given w.count w.place (from_line w.line nothing_there) (behind_now row w at nothing_there stands w.place) (nothing-first w.line))

  -- bars that are crossed
  pub crossing-steps : (n : ℕ) (before after : KeptPieces) (place end gap rest reached : ℕ) (sign : RuleSign) → 0 < n
      → FrontStands row at (crossed_at place n sign end) w → w.line ≡ 0
      → gap ≡ place - w.place → rest ≡ end - (place + n) → reached ≡ reached_by w.count w.place place (n + rest)
      → IsNear (one_less w.count) reached
      → Adds row.bytes frame 4 before after
      (if_given w.count (replicate gap blank) ++ (if_given w.count (replicate n crossing) ++ if_given w.count (replicate rest (sign_byte sign))))
      → RowSteps frame row w (front_passed row at reached w) before after
  crossing-steps zero before after place end gap rest reached sign some stands line gap_is rest_is reached_is near adds =
      absurd (omega (arith, some))
  crossing-steps (suc m) before after place end gap rest reached sign some stands line gap_is rest_is reached_is near adds =
      let f = crossed_at place (suc m) sign end in
      let behind = behind_now row w at f stands reached in
      let runs : ℕ → List Run = λ n. repeated crossing (suc m) ∷ repeated (sign_byte sign) n ∷ [] in
      let more = if_given w.count (replicate (suc m) crossing) ++ if_given w.count (replicate rest (sign_byte sign)) in
      let g : List Run → List ℕ = λ text. given_of w.count (at_column place w.place text) ++ given (one_less w.count) (end_of place w.place text) behind in
      let wide : max place w.place + columns_of (runs rest) ≡ max place w.place + (suc m + rest) = omega arith in
      front-passed row w at f stands reached frame before after (if_given w.count (replicate gap blank) ++ more) next near adds
      (ap (λ (n : ℕ). g (first_of (from_line n f))) line
      ∙ ap (λ (n : ℕ). g (runs n)) (sym rest_is)
      ∙ ap (λ (n : ℕ). given_of w.count (blanks n ∷ runs rest) ++ given (one_less w.count) (max place w.place + columns_of (runs rest)) behind) (sym gap_is)
      ∙ ap (λ (front : List ℕ). front ++ given (one_less w.count) (max place w.place + columns_of (runs rest)) behind) (crossing-given w.count gap m rest sign)
      ∙ ap (λ (n : ℕ). (if_given w.count (replicate gap blank) ++ more) ++ given (one_less w.count) n behind) wide
      ∙ ap (λ (bytes : List ℕ). (if_given w.count (replicate gap blank) ++ more) ++ bytes)
      (given-reached w.count w.place place (suc m + rest) behind ∙ ap (λ (n : ℕ). given (one_less w.count) n behind) (sym reached_is)))

  -- a rule that bars cross
  pub ruled-steps : (n : ℕ) (before after : KeptPieces) (from place end gap front rest reached : ℕ) (sign : RuleSign)
      → FrontStands row at (cell_of_front (RuledFront from sign place n end)) w
      → gap ≡ from - w.place → front ≡ place - from → rest ≡ end - (place + n)
      → reached ≡ reached_by w.count w.place from (front + n + rest) → IsNear (one_less w.count) reached
      → Adds row.bytes frame 4 before after
      (if_given w.count (replicate gap blank) ++ (if_given w.count (replicate front (sign_byte sign))
      ++ (if_given w.count (replicate n crossing) ++ if_given w.count (replicate rest (sign_byte sign)))))
      → RowSteps frame row w (front_passed row at reached w) before after
  ruled-steps n before after from place end gap front rest reached sign stands gap_is front_is rest_is reached_is near adds =
      let f = cell_of_front (RuledFront from sign place n end) in
      let now = from_line w.line f in
      let behind = behind_now row w at f stands reached in
      let runs : ℕ → ℕ → List Run = λ j k. repeated (sign_byte sign) j ∷ repeated crossing n ∷ repeated (sign_byte sign) k ∷ [] in
      let all = runs front rest in
      let first : first_of now ≡ all =
      ap (λ (lines : List (List Run)). get_or lines 0 (runs (place - from) (end - (place + n)))) (drop-none w.line)
      ∙ ap (λ (j : ℕ). runs j (end - (place + n))) (sym front_is)
      ∙ ap (runs front) (sym rest_is) in
      let has : w.count ≡ 1 → HasGlyph all = λ one.
      subst HasGlyph first (glyph-first w.count now behind (subst (LastHasGlyph w.count) (front-first row w at f stands reached) stands.front.last) one) in
      let text : List ℕ = if_given w.count (replicate front (sign_byte sign))
      ++ (if_given w.count (replicate n crossing) ++ if_given w.count (replicate rest (sign_byte sign))) in
      let g : List Run → List ℕ = λ text. given_of w.count (at_column from w.place text) ++ given (one_less w.count) (end_of from w.place text) behind in
      let last : ℕ → List ℕ = λ reached. given (one_less w.count) reached behind in
      let wide : max from w.place + columns_of all ≡ max from w.place + (front + n + rest) = omega arith in
      front-passed row w at f stands reached frame before after (if_given w.count (replicate gap blank) ++ text) next near adds
      (ap g first
      ∙ ap (λ (k : ℕ). given_of w.count (blanks k ∷ all) ++ last (max from w.place + columns_of all)) (sym gap_is)
      ∙ ap (λ (front : List ℕ). front ++ last (max from w.place + columns_of all))
      (given-before w.count (blanks gap) all has ∙ ap (λ (more : List ℕ). if_given w.count (replicate gap blank) ++ more) (ruled-three w.count front n rest sign))
      ∙ ap (λ (k : ℕ). (if_given w.count (replicate gap blank) ++ text) ++ last k) wide
      ∙ ap (λ (bytes : List ℕ). (if_given w.count (replicate gap blank) ++ text) ++ bytes)
      (given-reached w.count w.place from (front + n + rest) behind ∙ ap last (sym reached_is)))
