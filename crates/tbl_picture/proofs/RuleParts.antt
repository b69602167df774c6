-- What stands on a line of rules, part by part, is what is drawn of its marks as they are walked.
use Rattle.std.proofs.Common.{◌≡◌, ℕ, suc, ◌+◌, ◌-◌, ◌≤◌, Bool, true, false, ◌&&◌, List, [], ◌∷◌, ◌++◌, length, replicate, Option, Some, None, refl, sym, ap, ◌∙◌, arith, append_assoc, append-nil, length-append, if◌then◌else◌, ◌==◌, ne_eqb}
use Rattle.std.proofs.lemmas.Bool.Decides.{nat_tests}
use Rattle.std.proofs.lemmas.List.{length-replicate, replicate-append-replicate}
use Rattle.input_source.specs.Bytes.{blank}
use Rattle.tbl_layout.specs.Columns.{bar_place, bars_end}
use Rattle.tbl_layout.specs.DataLines.{is_same_sign, sign_byte}
use Rattle.tbl_layout.specs.declared.bars.Bars.{Bars}
use Rattle.tbl_layout.specs.declared.columns.Column.{Column}
use Rattle.tbl_layout.specs.declared.data_lines.RuleSign.{RuleSign}
use Rattle.tbl_layout.specs.declared.data_lines.RuleSign.TheVariants.{Double, Single}
use Rattle.tbl_lines.specs.PictureLines.{Mark, Neighbour, RuleLine, bar, crossing, drawn, last_mark, met_behind, parts_from, places_mark, sign_in_front, sign_over}
use Rattle.tbl_lines.proofs.RulesOrdered.{bars-within}
use Rattle.tbl_lines.proofs.RulesShown.{unruled-next}
use Rattle.tbl_picture.specs.RuleMarks.{goes_on, is_same_rule, mark_behind, marks_from}
use Rattle.tbl_lines.specs.RulePlaces.{AreMet}
use Rattle.tbl_picture.specs.RulesWalked.{mark_given, place_behind}
use Rattle.tbl_picture.proofs.RuleMarks.{mark-drawn}

-- behind a mark is drawn what is drawn of the rest
pub behind-mark : (m : Mark) (xs ys : List Mark) → ((place : ℕ) → drawn place xs ≡ drawn place ys) → (place : ℕ)
    → drawn place (m ∷ xs) ≡ drawn place (m ∷ ys)
behind-mark m xs ys same place =
    mark-drawn m xs place
    ∙ ap (λ (bytes : List ℕ). mark_given m place ++ bytes) (same (place_behind m place))
    ∙ sym (mark-drawn m ys place)

-- a mark that has a byte
some-drawn : (at b : ℕ) (bytes : List ℕ) (marks : List Mark) (place : ℕ)
    → drawn place (record { at = at; bytes = b ∷ bytes } ∷ marks)
    ≡ replicate (at - place) blank ++ ((b ∷ bytes) ++ drawn (at + length (b ∷ bytes)) marks)
some-drawn at b bytes marks place =
    let all = b ∷ bytes in
    let some : (length all == 0) ≡ false = ne_eqb (length all) 0 (λ is. omega (arith, is)) in
    ap (λ (t : Bool). if t then drawn place marks else replicate (at - place) blank ++ (all ++ drawn (at + length all) marks)) some

-- a mark that begins where another one ends
next-drawn : (at b : ℕ) (bytes : List ℕ) (marks : List Mark)
    → drawn at (record { at = at; bytes = b ∷ bytes } ∷ marks) ≡ (b ∷ bytes) ++ drawn (at + length (b ∷ bytes)) marks
next-drawn at b bytes marks =
    let none : at - at ≡ 0 = omega arith in
    some-drawn at b bytes marks at
    ∙ ap (λ (n : ℕ). replicate n blank ++ ((b ∷ bytes) ++ drawn (at + length (b ∷ bytes)) marks)) none

-- two marks without a gap are drawn as one
joined : (at : ℕ) (xs ys : List ℕ) (marks : List Mark) (place : ℕ)
    → drawn place (record { at = at; bytes = xs } ∷ record { at = at + length xs; bytes = ys } ∷ marks)
    ≡ drawn place (record { at = at; bytes = xs ++ ys } ∷ marks)
joined at [] ys marks place =
    let none : List ℕ = [] in
    let same : at + length none ≡ at = omega arith in ap (λ (n : ℕ). drawn place (record { at = n; bytes = ys } ∷ marks)) same
joined at (x ∷ xs) [] marks place =
    ap (λ (bytes : List ℕ). drawn place (record { at = at; bytes = bytes } ∷ marks)) (sym (append-nil (x ∷ xs)))
joined at (x ∷ xs) (y ∷ ys) marks place =
    let front = x ∷ xs in
    let behind = y ∷ ys in
    let far : at + length front + length behind ≡ at + length (front ++ behind) = omega (arith, length-append front behind) in
    let gap = replicate (at - place) blank in
    some-drawn at x xs (record { at = at + length front; bytes = behind } ∷ marks) place
    ∙ ap (λ (bytes : List ℕ). gap ++ (front ++ bytes)) (next-drawn (at + length front) y ys marks)
    ∙ ap (λ (bytes : List ℕ). gap ++ bytes) (sym (append_assoc front behind (drawn (at + length front + length behind) marks)))
    ∙ ap (λ (n : ℕ). gap ++ ((front ++ behind) ++ drawn n marks)) far
    ∙ sym (some-drawn at x (xs ++ behind) marks place)

-- a rule goes on where it ended
rule-joined : (b from at to : ℕ) (more : List ℕ) (marks : List Mark) (place : ℕ) → from ≤ at → at ≤ to
    → drawn place (record { at = from; bytes = replicate (at - from) b } ∷ record { at = at; bytes = replicate (to - at) b ++ more } ∷ marks)
    ≡ drawn place (record { at = from; bytes = replicate (to - from) b ++ more } ∷ marks)
rule-joined b from at to more marks place begins ends =
    let front = replicate (at - from) b in
    let rest = replicate (to - at) b in
    let far : at ≡ from + length front = omega (arith, begins, length-replicate (at - from) b) in
    let whole : at - from + (to - at) ≡ to - from = omega (arith, begins, ends) in
    ap (λ (n : ℕ). drawn place (record { at = from; bytes = front } ∷ record { at = n; bytes = rest ++ more } ∷ marks)) far
    ∙ joined from front (rest ++ more) marks place
    ∙ ap (λ (bytes : List ℕ). drawn place (record { at = from; bytes = bytes } ∷ marks))
    (sym (append_assoc front rest more)
    ∙ ap (λ (bytes : List ℕ). bytes ++ more) (replicate-append-replicate (at - from) (to - at) b)
    ∙ ap (λ (n : ℕ). replicate n b ++ more) whole)

stretch-joined : (b from at to : ℕ) (marks : List Mark) (place : ℕ) → from ≤ at → at ≤ to
    → drawn place (record { at = from; bytes = replicate (at - from) b } ∷ record { at = at; bytes = replicate (to - at) b } ∷ marks)
    ≡ drawn place (record { at = from; bytes = replicate (to - from) b } ∷ marks)
stretch-joined b from at to marks place begins ends =
    ap (λ (bytes : List ℕ). drawn place (record { at = from; bytes = replicate (at - from) b } ∷ record { at = at; bytes = bytes } ∷ marks))
    (sym (append-nil (replicate (to - at) b)))
    ∙ rule-joined b from at to [] marks place begins ends
    ∙ ap (λ (bytes : List ℕ). drawn place (record { at = from; bytes = bytes } ∷ marks)) (append-nil (replicate (to - from) b))

-- a rule that bars cross, and what of it is behind them
crossed-split : (b from at count to : ℕ) (marks : List Mark) (place : ℕ) → from ≤ at
    → drawn place (record { at = from; bytes = replicate (at - from) b ++ (replicate count crossing ++ replicate (to - (at + count)) b) } ∷ marks)
    ≡ drawn place (record { at = from; bytes = replicate (at - from) b ++ (replicate count crossing ++ []) }
    ∷ record { at = at + count; bytes = replicate (to - (at + count)) b } ∷ marks)
crossed-split b from at count to marks place begins =
    let front = replicate (at - from) b in
    let bars = replicate count crossing in
    let rest = replicate (to - (at + count)) b in
    let crossed = front ++ (bars ++ []) in
    let none : bars ++ [] ≡ bars = append-nil bars in
    let far : from + length crossed ≡ at + count =
    omega (
      arith,
      begins,
      length-append front (bars ++ []),
      ap (λ (bytes : List ℕ). length bytes) none,
      length-replicate (at - from) b,
      length-replicate count crossing,
    ) in
    let same : front ++ (bars ++ rest) ≡ crossed ++ rest =
    ap (λ (bytes : List ℕ). front ++ (bytes ++ rest)) (sym none) ∙ sym (append_assoc front (bars ++ []) rest) in
    ap (λ (bytes : List ℕ). drawn place (record { at = from; bytes = bytes } ∷ marks)) same
    ∙ sym (joined from crossed rest marks place)
    ∙ ap (λ (n : ℕ). drawn place (record { at = from; bytes = crossed } ∷ record { at = n; bytes = rest } ∷ marks)) far

-- two rules that are drawn alike
same-sign : (s t : RuleSign) → is_same_sign s t ≡ true → s ≡ t
same-sign Single Single is = refl
same-sign Single Double is = absurd (cc)
same-sign Double Single is = absurd (cc)
same-sign Double Double is = refl

same-next : (s : RuleSign) (next : Option RuleSign) → is_same_rule (Some s) next ≡ true → next ≡ Some s
same-next s None is = absurd (cc)
same-next s (Some t) is = ap (λ (r : RuleSign). Some r) (sym (same-sign s t is))

none-next : (next : Option RuleSign) → is_same_rule None next ≡ true → next ≡ None
none-next None is = refl
none-next (Some t) is = absurd (cc)

module _ (bars : Bars) (line : RuleLine) (above below : Neighbour) (to : ℕ) (tail : List Mark) where
  abbrev pub met : ℕ → ℕ
  met column = met_behind bars line above below column

  abbrev pub parts : ℕ → ℕ → List Column → List Mark
  parts column from columns = parts_from bars line above below column from to columns ++ tail

  abbrev pub marks : ℕ → ℕ → List Column → List Mark
  marks column from columns = marks_from bars line above below column from to columns ++ tail

  -- where a rule over a column begins, it is the same rule from further in front on
  ruled-from : (s : RuleSign) (column from at : ℕ) (c : Column) (columns : List Column) (place : ℕ) → sign_over line column ≡ Some s
      → from ≤ at → at ≤ c.start → AreMet met to column (c ∷ columns)
      → drawn place (last_mark (Some s) from at ∷ parts column at (c ∷ columns)) ≡ drawn place (parts column from (c ∷ columns))
  ruled-from s column from at c [] place is begins within are =
      let b = sign_byte s in
      ap (λ (o : Option RuleSign). drawn place (last_mark (Some s) from at ∷ last_mark o at to ∷ tail)) is
      ∙ stretch-joined b from at to tail place begins (omega (arith, within, are))
      ∙ ap (λ (o : Option RuleSign). drawn place (last_mark o from to ∷ tail)) (sym is)
  ruled-from s column from at c (d ∷ columns) place is begins within are =
      let b = sign_byte s in
      let end = c.start + c.width in
      let rest = places_mark (sign_over line column) (sign_in_front line (suc column)) (met column) c d ∷ parts (suc column) (bars_end c d) (d ∷ columns) in
      ap (λ (o : Option RuleSign). drawn place (last_mark (Some s) from at ∷ last_mark o at end ∷ rest)) is
      ∙ stretch-joined b from at end rest place begins (omega (arith, within))
      ∙ ap (λ (o : Option RuleSign). drawn place (last_mark o from end ∷ rest)) (sym is)

  -- where none is over it, none begins
  unruled-from : (column from at : ℕ) (c : Column) (columns : List Column) (place : ℕ) → sign_over line column ≡ None
      → drawn place (parts column at (c ∷ columns)) ≡ drawn place (parts column from (c ∷ columns))
  unruled-from column from at c [] place none =
      ap (λ (o : Option RuleSign). drawn place (last_mark o at to ∷ tail)) none
      ∙ ap (λ (o : Option RuleSign). drawn place (last_mark o from to ∷ tail)) (sym none)
  unruled-from column from at c (d ∷ columns) place none =
      let end = c.start + c.width in
      let rest = places_mark (sign_over line column) (sign_in_front line (suc column)) (met column) c d ∷ parts (suc column) (bars_end c d) (d ∷ columns) in
      ap (λ (o : Option RuleSign). drawn place (last_mark o at end ∷ rest)) none
      ∙ ap (λ (o : Option RuleSign). drawn place (last_mark o from end ∷ rest)) (sym none)

  -- from one column on to the next
  module _ (column from : ℕ) (c d : Column) (columns : List Column) (are : AreMet met to column (c ∷ d ∷ columns))
      (begins : from ≤ c.start + c.width)
      (further : (next place : ℕ) → next ≤ d.start
      → drawn place (parts (suc column) next (d ∷ columns)) ≡ drawn place (marks (suc column) next (d ∷ columns))) where
    abbrev pub n : ℕ
    n = met column

    abbrev pub at : ℕ
    at = bar_place n c d

    abbrev pub end : ℕ
    end = bars_end c d

    abbrev pub parts-on : ℕ → List Mark
    parts-on next = parts (suc column) next (d ∷ columns)

    abbrev pub marks-on : ℕ → List Mark
    marks-on next = marks (suc column) next (d ∷ columns)

    abbrev pub within : (at + n ≤ end) × (end ≤ d.start) × (c.start + c.width ≤ at)
    within = bars-within n c d are.0 are.1

    -- what stands there, by the rule over the column
    abbrev pub parts-by : Option RuleSign → Option RuleSign → List Mark
    parts-by sign next = last_mark sign from (c.start + c.width) ∷ places_mark sign next n c d ∷ parts-on end

    parts-ruled : (s : RuleSign) (place : ℕ) → sign_over line column ≡ Some s
        → drawn place (parts column from (c ∷ d ∷ columns)) ≡ drawn place (mark_behind (Some s) false from n at end ∷ parts-on end)
    parts-ruled s place is =
        let b = sign_byte s in
        ap (λ (o : Option RuleSign). drawn place (parts-by o (sign_in_front line (suc column)))) is
        ∙ rule-joined b from (c.start + c.width) at (replicate n crossing ++ replicate (end - (at + n)) b) (parts-on end) place begins within.2

    parts-unruled : (place : ℕ) → sign_over line column ≡ None
        → drawn place (parts column from (c ∷ d ∷ columns)) ≡ drawn place (record { at = at; bytes = replicate n bar } ∷ parts-on end)
    parts-unruled place none =
        ap (λ (o : Option RuleSign). drawn place (parts-by o (sign_in_front line (suc column)))) none
        ∙ ap (λ (o : Option RuleSign). drawn place (parts-by None o)) (unruled-next line column none)

    -- what is walked, by whether the rule goes on and whether bars meet there
    abbrev pub walked : Option RuleSign → Bool → Bool → List Mark
    walked sign is_on is_none =
        (if is_on && is_none then marks_from bars line above below (suc column) from to (d ∷ columns)
        else mark_behind sign is_on from n at end
        ∷ marks_from bars line above below (suc column) (if is_on then at + n else end) to (d ∷ columns))
        ++ tail

    walked-is : (sign : Option RuleSign) (is_on is_none : Bool) (place : ℕ) → sign_over line column ≡ sign → goes_on line column ≡ is_on
        → (n == 0) ≡ is_none → drawn place (marks column from (c ∷ d ∷ columns)) ≡ drawn place (walked sign is_on is_none)
    walked-is sign is_on is_none place sign_is on_is none_is =
        ap (λ (o : Option RuleSign). drawn place (walked o (goes_on line column) (n == 0))) sign_is
        ∙ ap (λ (t : Bool). drawn place (walked sign t (n == 0))) on_is
        ∙ ap (λ (t : Bool). drawn place (walked sign is_on t)) none_is

    -- the next column begins behind the places of bars
    further-end : (place : ℕ) → drawn place (parts-on end) ≡ drawn place (marks-on end)
    further-end place = further end place within.1

    further-bars : (place : ℕ) → drawn place (parts-on (at + n)) ≡ drawn place (marks-on (at + n))
    further-bars place = further (at + n) place (omega (arith, within.0, within.1))

    further-from : (place : ℕ) → drawn place (parts-on from) ≡ drawn place (marks-on from)
    further-from place = further from place (omega (arith, begins, within.0, within.1, within.2))

    -- the same rule is over it
    module _ (s : RuleSign) (next : sign_over line (suc column) ≡ Some s) where
      -- it goes on behind bars
      ruled-on : (place : ℕ)
          → drawn place (mark_behind (Some s) false from n at end ∷ parts-on end) ≡ drawn place (mark_behind (Some s) true from n at end ∷ parts-on (at + n))
      ruled-on place =
          crossed-split (sign_byte s) from at n end (parts-on end) place (omega (arith, begins, within.2))
          ∙ behind-mark (mark_behind (Some s) true from n at end) (last_mark (Some s) (at + n) end ∷ parts-on end) (parts-on (at + n))
          (λ p. ruled-from s (suc column) (at + n) end d columns p next within.0 within.1 are.2) place

      -- and where there is none
      ruled-through : (place : ℕ) → n ≡ 0
          → drawn place (mark_behind (Some s) true from n at end ∷ parts-on (at + n)) ≡ drawn place (parts-on from)
      ruled-through place none =
          let b = sign_byte s in
          let far : at - from ≡ at + n - from = omega (arith, none) in
          let same : replicate (at - from) b ++ (replicate n crossing ++ []) ≡ replicate (at + n - from) b =
          ap (λ (k : ℕ). replicate (at - from) b ++ (replicate k crossing ++ [])) none
          ∙ append-nil (replicate (at - from) b)
          ∙ ap (λ (k : ℕ). replicate k b) far in
          ap (λ (bytes : List ℕ). drawn place (record { at = from; bytes = bytes } ∷ parts-on (at + n))) same
          ∙ ruled-from s (suc column) from (at + n) d columns place next (omega (arith, begins, within.2)) (omega (arith, within.0, within.1)) are.2

    step : (sign : Option RuleSign) (is_on is_none : Bool) (place : ℕ) → sign_over line column ≡ sign → goes_on line column ≡ is_on
        → (n == 0) ≡ is_none → drawn place (parts column from (c ∷ d ∷ columns)) ≡ drawn place (walked sign is_on is_none)
    step (Some s) false u place is on none =
        parts-ruled s place is ∙ behind-mark (mark_behind (Some s) false from n at end) (parts-on end) (marks-on end) further-end place
    step (Some s) true false place is on none =
        let next = same-next s (sign_over line (suc column)) (ap (λ (o : Option RuleSign). is_same_rule o (sign_over line (suc column))) (sym is) ∙ on) in
        parts-ruled s place is
        ∙ ruled-on s next place
        ∙ behind-mark (mark_behind (Some s) true from n at end) (parts-on (at + n)) (marks-on (at + n)) further-bars place
    step (Some s) true true place is on none =
        let next = same-next s (sign_over line (suc column)) (ap (λ (o : Option RuleSign). is_same_rule o (sign_over line (suc column))) (sym is) ∙ on) in
        parts-ruled s place is
        ∙ ruled-on s next place
        ∙ ruled-through s next place (grind (arith, nat_tests))
        ∙ further-from place
    step None false u place is on none =
        parts-unruled place is ∙ behind-mark (record { at = at; bytes = replicate n bar }) (parts-on end) (marks-on end) further-end place
    step None true false place is on none =
        let next = none-next (sign_over line (suc column)) (ap (λ (o : Option RuleSign). is_same_rule o (sign_over line (suc column))) (sym is) ∙ on) in
        parts-unruled place is
        ∙ behind-mark (record { at = at; bytes = replicate n bar }) (parts-on end) (marks-on (at + n))
        (λ p. unruled-from (suc column) (at + n) end d columns p next ∙ further-bars p) place
    step None true true place is on none =
        let next = none-next (sign_over line (suc column)) (ap (λ (o : Option RuleSign). is_same_rule o (sign_over line (suc column))) (sym is) ∙ on) in
        let no_bar : n ≡ 0 = grind (arith, nat_tests) in
        parts-unruled place is
        ∙ ap (λ (k : ℕ). drawn place (record { at = at; bytes = replicate k bar } ∷ parts-on end)) no_bar
        ∙ unruled-from (suc column) from end d columns place next
        ∙ further-from place

    pub next-drawn-same : (place : ℕ) → drawn place (parts column from (c ∷ d ∷ columns)) ≡ drawn place (marks column from (c ∷ d ∷ columns))
    next-drawn-same place =
        step (sign_over line column) (goes_on line column) (n == 0) place refl refl refl
        ∙ sym (walked-is (sign_over line column) (goes_on line column) (n == 0) place refl refl refl)

  -- both are drawn alike
  pub parts-drawn : (column from place : ℕ) (c : Column) (columns : List Column) → AreMet met to column (c ∷ columns) → from ≤ c.start + c.width
      → drawn place (parts column from (c ∷ columns)) ≡ drawn place (marks column from (c ∷ columns))
  parts-drawn column from place c [] are begins = refl
  parts-drawn column from place c (d ∷ columns) are begins =
      next-drawn-same column from c d columns are begins
      (λ next p within. parts-drawn (suc column) next p d columns are.2 (omega (arith, within))) place
