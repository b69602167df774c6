-- Behind a line of rules of a picture with cells of several rows.
use Rattle.std.proofs.Common.{◌≡◌, ℕ, zero, suc, ◌+◌, ◌-◌, ◌≤◌, ◌<◌, false, List, [], ◌∷◌, drop, length, map, refl, sym, ap, subst, ◌∙◌, arith, ◌==◌}
use Rattle.tbl_format.specs.Format.{FormatRow}
use Rattle.tbl_kept.specs.Rows.{Command, KeptElement, KeptRows, Row, Rule, heights_of}
use Rattle.tbl_layout.specs.Entries.{Element, Rule as OneRule}
use Rattle.tbl_lines.specs.CellsLeft.{Left}
use Rattle.tbl_lines.specs.LinesLeft.{Beside, OfRules, overs}
use Rattle.tbl_lines.specs.PictureLeft.{through_rule}
use Rattle.tbl_lines.specs.PictureLines.{RuleLine, Sheet, frame_sign}
use Rattle.tbl_giving.proofs.LayNext.{line-placed}
use Rattle.tbl_tall.specs.BandLaws.{HasLinePlaces}
use Rattle.tbl_options.specs.declared.options.Boxing.{Boxing}
use Rattle.tbl_giving.proofs.LinesGo.{PartCame, behind-in-front, behind-last, behind-whole, gone, part-came, rule-height}
use Rattle.tbl_giving.proofs.PartsCome.{rule-behind, rule-has}
use Rattle.tbl_giving.proofs.PartsNext.{row-first}
use Rattle.tbl_giving.specs.LinesWalked.{HasCome, IsRuleFirst, KeptLineByLine, PartGone, is_on_line, StandsNext, boxed_now, coming, elements_left, heights_left, heights_now, sheet_by}
use Rattle.tbl_giving.specs.PartsToCome.{ToCome, behind_part}
use Rattle.tbl_giving.specs.declared.line_by_line.Place.{Place}
use Rattle.tbl_giving.specs.declared.line_by_line.Place.TheVariants.{AtElement, AtEnd, OnRule}
use Rattle.tbl_giving.specs.declared.line_by_line.RuleAt.{RuleAt}
use Rattle.tbl_giving.specs.declared.line_by_line.RuleAt.TheVariants.{Element as OfElement, End as OfEnd, InFront, Top as OfTop}
use Rattle.tbl_tall.specs.Bands.{keys_left, wholes_left}
use Rattle.tbl_tall.specs.TallRows.{Comes, KeptTall, RuleComes, keys_in_front, wholes_in_front}

-- what is dropped with one element more
pub drop-next : (n : ℕ) (xs : List KeptElement) (x : KeptElement) (rest : List KeptElement) → drop n xs ≡ x ∷ rest → drop (suc n) xs ≡ rest
drop-next zero [] x rest is = absurd (cc)
drop-next zero (y ∷ xs) x rest is = ap (λ (zs : List KeptElement). drop 1 zs) is
drop-next (suc n) [] x rest is = absurd (cc)
drop-next (suc n) (y ∷ xs) x rest is = drop-next n xs x rest is

pub drop-within : (n : ℕ) (xs : List KeptElement) (x : KeptElement) (rest : List KeptElement) → drop n xs ≡ x ∷ rest → n < length xs
drop-within zero [] x rest is = absurd (cc)
drop-within zero (y ∷ xs) x rest is = omega arith
drop-within (suc n) [] x rest is = absurd (cc)
drop-within (suc n) (y ∷ xs) x rest is = omega (arith, drop-within n xs x rest is)

-- the row that comes is kept behind any line of rules
abbrev pub PassesRule : List ℕ → List FormatRow → Boxing → KeptTall → KeptTall → Type 0
PassesRule bytes formats boxing old new = (s : Sheet) (heights : List ℕ) (cells : List Left) (above : Beside) (elements rest : List Element) (line : RuleLine)
    → s.bars.boxing ≡ boxing → Comes bytes formats s old heights cells above elements → RuleComes elements line rest → HasLinePlaces s line
    → Comes bytes formats s new heights (map through_rule cells) (OfRules line (overs 0 cells s.columns) above) rest

module _ (bytes : List ℕ) (formats : List FormatRow) (rows : KeptRows) (g : KeptLineByLine) (room : ℕ) (at : RuleAt) (tall : KeptTall)
    (come : HasCome bytes formats rows (record g { place = OnRule at }) room) (passes : PassesRule bytes formats g.bars.boxing g.tall tall)
    (ended : tall.come ≡ g.tall.come) (same : tall.room ≡ g.tall.room) where
  abbrev on : KeptLineByLine
  on = record g { place = OnRule at }

  abbrev s : Sheet
  s = sheet_by rows g

  abbrev x : ToCome
  x = coming bytes formats rows on

  abbrev kept : List KeptElement
  kept = drop g.element rows.elements

  old : Comes bytes formats s g.tall x.heights x.cells x.above x.elements
  old = come.stands.front.comes

  -- what is to come behind the line
  abbrev behind : ToCome
  behind = record { heights = x.heights; cells = map through_rule x.cells; above = OfRules come.stands.line (overs 0 x.cells s.columns) x.above; elements = come.stands.rest }

  behind-is : behind_part s x ≡ behind
  behind-is = rule-behind s x.heights x.cells x.above x.elements come.stands.rest come.stands.line come.stands.rule

  new : Comes bytes formats s tall behind.heights behind.cells behind.above behind.elements
  new = passes s x.heights x.cells x.above x.elements come.stands.rest come.stands.line refl old come.stands.rule
      (line-placed bytes formats rows g room at come)

  lines : tall.lines_left ≡ g.tall.lines_left
  lines = new.height ∙ sym (rule-height x.heights x.elements come.stands.rest come.stands.line come.stands.rule) ∙ sym old.height

  -- from the elements that come then
  came : (element : ℕ) (place : Place) → g.element ≤ element → element ≤ length rows.elements
      → elements_left bytes formats rows (gone bytes formats rows on room element place tall) ≡ come.stands.rest
      → heights_left rows (gone bytes formats rows on room element place tall) ≡ x.heights
      → StandsNext place bytes formats rows (gone bytes formats rows on room element place tall) behind
      → PartCame bytes formats rows on (gone bytes formats rows on room element place tall) room
  came element place less few elements heights stands =
      part-came bytes formats rows on room element place tall come (rule-has s x.heights x.elements come.stands.rest come.stands.line come.stands.rule)
      few (omega (arith, ended, come.ended, less)) same
      (elements ∙ ap (λ (z : ToCome). z.elements) (sym behind-is)) (heights ∙ ap (λ (z : ToCome). z.heights) (sym behind-is))
      (subst (λ (z : ToCome). StandsNext place bytes formats rows (gone bytes formats rows on room element place tall) z) (sym behind-is) stands)

  -- in front of elements whose rows have their heights
  in-front : (element : ℕ) → g.element ≤ element → element ≤ length rows.elements
      → boxed_now g.bars.boxing bytes formats (wholes_left tall.band) (keys_left formats tall.band) (drop element rows.elements) ≡ come.stands.rest
      → heights_now g.tall.lines_left (drop element rows.elements) ≡ heights_now g.tall.lines_left kept
      → heights_of (drop element rows.elements) ≡ heights_of kept
      → PartCame bytes formats rows on (gone bytes formats rows on room element AtElement tall) room
  in-front element less few elements heights whole =
      let same_lines : heights_now tall.lines_left (drop element rows.elements) ≡ heights_now g.tall.lines_left kept =
      ap (λ (n : ℕ). heights_now n (drop element rows.elements)) lines ∙ heights in
      came element AtElement less few elements (same_lines ∙ sym come.heights)
      (record { comes = new; whole = same_lines ∙ come.stands.front.whole ∙ sym whole })

module _ (bytes : List ℕ) (formats : List FormatRow) (rows : KeptRows) (g : KeptLineByLine) (room : ℕ) (tall : KeptTall)
    (passes : PassesRule bytes formats g.bars.boxing g.tall tall) (ended : tall.come ≡ g.tall.come) (same : tall.room ≡ g.tall.room) where
  abbrev PartAt : RuleAt → ℕ → Place → Type 0
  PartAt at element place = PartCame bytes formats rows (record g { place = OnRule at }) (record g { element = element; place = place; tall = tall }) room

  pub top-ended : HasCome bytes formats rows (record g { place = OnRule OfTop }) room → PartAt OfTop g.element AtElement
  top-ended come =
      let x = coming bytes formats rows (record g { place = OnRule OfTop }) in
      let front = come.stands.front.comes in
      let next = new bytes formats rows g room OfTop tall come passes ended same in
      let boxing = g.bars.boxing in
      let kept = drop g.element rows.elements in
      let all = OneRule (frame_sign boxing.bars) ∷ boxed_now boxing bytes formats (wholes_left g.tall.band - 1) (keys_left formats g.tall.band) kept in
      let elements : x.elements ≡ all = come.elements in
      in-front bytes formats rows g room OfTop tall come passes ended same g.element (omega arith) come.element
      (behind-whole boxing bytes formats (frame_sign boxing.bars) (wholes_left g.tall.band) (wholes_left tall.band) (keys_left formats g.tall.band)
      (keys_left formats tall.band) kept come.stands.rest come.stands.line
      (subst (λ (es : List Element). RuleComes es come.stands.line come.stands.rest) elements come.stands.rule)
      (front.wholes ∙ ap (λ (es : List Element). wholes_in_front es) elements) (front.rules ∙ ap (λ (es : List Element). keys_in_front es) elements)
      next.wholes next.rules)
      refl refl

  element-by : (kept : List KeptElement) → drop g.element rows.elements ≡ kept → IsRuleFirst kept
      → HasCome bytes formats rows (record g { place = OnRule OfElement }) room → PartAt OfElement (suc g.element) AtElement
  element-by [] is first come = absurd first
  element-by (Row keys rules height entries ∷ kept) is first come = absurd first
  element-by (Command from to ∷ kept) is first come = absurd first
  element-by (Rule sign ∷ kept) is first come =
      let x = coming bytes formats rows (record g { place = OnRule OfElement }) in
      let front = come.stands.front.comes in
      let next = new bytes formats rows g room OfElement tall come passes ended same in
      let boxing = g.bars.boxing in
      let wholes = wholes_left g.tall.band in
      let rules = keys_left formats g.tall.band in
      let all = OneRule sign ∷ boxed_now boxing bytes formats (wholes - 1) rules kept in
      let elements : x.elements ≡ all = come.elements ∙ ap (λ (es : List KeptElement). boxed_now boxing bytes formats wholes rules es) is in
      let next_is : drop (suc g.element) rows.elements ≡ kept = drop-next g.element rows.elements (Rule sign) kept is in
      in-front bytes formats rows g room OfElement tall come passes ended same (suc g.element) (omega arith)
      (drop-within g.element rows.elements (Rule sign) kept is)
      (ap (λ (es : List KeptElement). boxed_now boxing bytes formats (wholes_left tall.band) (keys_left formats tall.band) es) next_is
      ∙ behind-whole boxing bytes formats sign wholes (wholes_left tall.band) rules
      (keys_left formats tall.band) kept come.stands.rest come.stands.line
      (subst (λ (es : List Element). RuleComes es come.stands.line come.stands.rest) elements come.stands.rule)
      (front.wholes ∙ ap (λ (es : List Element). wholes_in_front es) elements) (front.rules ∙ ap (λ (es : List Element). keys_in_front es) elements)
      next.wholes next.rules)
      (ap (λ (es : List KeptElement). heights_now g.tall.lines_left es) next_is ∙ ap (λ (es : List KeptElement). heights_now g.tall.lines_left es) (sym is))
      (ap (λ (es : List KeptElement). heights_of es) next_is ∙ ap (λ (es : List KeptElement). heights_of es) (sym is))

  last-ended : drop g.element rows.elements ≡ [] → HasCome bytes formats rows (record g { place = OnRule OfEnd }) room → PartAt OfEnd g.element AtEnd
  last-ended is come =
      let x = coming bytes formats rows (record g { place = OnRule OfEnd }) in
      let boxing = g.bars.boxing in
      let elements = come.elements
      ∙ ap (λ (es : List KeptElement). boxed_now boxing bytes formats (wholes_left g.tall.band) (keys_left formats g.tall.band) es) is in
      came bytes formats rows g room OfEnd tall come passes ended same g.element AtEnd (omega arith) come.element
      (behind-last boxing bytes formats come.stands.rest come.stands.line
      (subst (λ (es : List Element). RuleComes es come.stands.line come.stands.rest) elements come.stands.rule))
      (ap (λ (es : List KeptElement). heights_now tall.lines_left es) is ∙ ap (λ (es : List KeptElement). heights_now g.tall.lines_left es) (sym is) ∙ sym come.heights)
      tt

  pub element-ended : HasCome bytes formats rows (record g { place = OnRule OfElement }) room → PartAt OfElement (g.element + 1) AtElement
  element-ended come =
      let one : suc g.element ≡ g.element + 1 = omega arith in
      subst (λ (n : ℕ). PartAt OfElement n AtElement) one (element-by (drop g.element rows.elements) refl come.stands.stands come)

  pub front-ended : HasCome bytes formats rows (record g { place = OnRule InFront }) room → PartAt InFront g.element AtElement
  front-ended come =
      let row = row-first (drop g.element rows.elements) come.stands.stands in
      let x = coming bytes formats rows (record g { place = OnRule InFront }) in
      let next = new bytes formats rows g room InFront tall come passes ended same in
      let boxing = g.bars.boxing in
      let wholes = wholes_left g.tall.band in
      let rules = keys_left formats g.tall.band in
      let elements = come.elements ∙ ap (λ (es : List KeptElement). boxed_now boxing bytes formats wholes rules es) row.is in
      in-front bytes formats rows g room InFront tall come passes ended same g.element (omega arith) come.element
      (ap (λ (es : List KeptElement). boxed_now boxing bytes formats (wholes_left tall.band) (keys_left formats tall.band) es) row.is
      ∙ behind-in-front boxing bytes formats (wholes == 0) wholes refl rules row.keys row.others row.height row.entries row.kept come.stands.rest come.stands.line
      (subst (λ (es : List Element). RuleComes es come.stands.line come.stands.rest) elements come.stands.rule)
      (wholes_left tall.band) (keys_left formats tall.band) next.wholes next.rules)
      refl refl

  pub end-ended : HasCome bytes formats rows (record g { place = OnRule OfEnd }) room → PartAt OfEnd g.element AtEnd
  end-ended come = last-ended come.stands.stands come

-- wherever the line stands
pub gone-by : {bytes : List ℕ} {formats : List FormatRow} {rows : KeptRows} {g old : KeptLineByLine} {room : ℕ} {tall : KeptTall} {at : RuleAt} {element : ℕ}
    {next : Place} → g ≡ old → old.place ≡ OnRule at → is_on_line next ≡ false → tall.room ≡ g.tall.room
    → (HasCome bytes formats rows (record g { place = OnRule at }) room
    → PartCame bytes formats rows (record g { place = OnRule at }) (record g { element = element; place = next; tall = tall }) room)
    → HasCome bytes formats rows old room → PartGone bytes formats rows old (record g { element = element; place = next; tall = tall }) room
gone-by {bytes} {formats} {rows} {g} {old} {room} {tall} {at} {element} {next} view is off same part come =
    let new = record g { element = element; place = next; tall = tall } in
    let place : g.place ≡ OnRule at = ap (λ (k : KeptLineByLine). k.place) view ∙ is in
    let here = subst (λ (k : KeptLineByLine). HasCome bytes formats rows k room) (sym view) come in
    let came = part (subst (λ (p : Place). HasCome bytes formats rows (record g { place = p }) room) place here) in
    subst (λ (k : KeptLineByLine). PartGone bytes formats rows k new room) view
    (subst (λ (p : Place). PartGone bytes formats rows (record g { place = p }) new room) (sym place)
    (record { come = came.come; coming = came.is; bars = refl; width = refl; off = off; own = same }))
