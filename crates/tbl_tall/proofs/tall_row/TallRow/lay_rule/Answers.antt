use Rattle.std.proofs.Common.{◌≡◌, ◌+◌, ◌<◌, ◌≤◌, ℕ, List, None, get_or, length, sym, ap, subst, ◌∙◌, arith}
use Rattle.tbl_format.specs.RowsServed.{all_rows}
use Rattle.tbl_lines.specs.CellsLeft.{Left, all_keys}
use Rattle.tbl_lines.specs.LinesLeft.{Beside, bars_met, over_at, overs, sign_at}
use Rattle.tbl_layout.specs.Entries.{Element}
use Rattle.tbl_lines.specs.PictureLines.{RuleLine, Sheet}
use Rattle.tbl_lines.specs.RulePlaces.{HavePlaces}
use Rattle.tbl_tall.specs.BandLaws.{NextPlaces}
use Rattle.tbl_tall.proofs.CellsCover.{covers}
use Rattle.tbl_tall.proofs.KeysCover.{cover-all, left-has}
use Rattle.tbl_tall.proofs.RuleGivens.{given-keys, given-whole, next-line, rule-given}
use Rattle.tbl_tall.proofs.tall_row.TallRow.lay_rule.Goals.{After-is_some}
use Rattle.tbl_tall.proofs.tall_row.TallRow.lay_rule.Goals as goal
use Rattle.tbl_tall.specs.Bands.{BandStands, GoThrough, KeptBand, band_line, kept_band, line_given, lines_behind}
use Rattle.tbl_line_cells.specs.LinesDrawn.{keys_in}
use Rattle.tbl_line_cells.specs.RulesDrawn.{RuleGiven}
use Rattle.tbl_tall.specs.TallRows.{Comes, RuleComes, SignIs, below_rule, kept_by, next_format, row_below}
use Rattle.tbl_line_cells.specs.declared.cells.CellLeft.{CellLeft}

-- the line that is laid, and the bars that meet on it
given : (c : After-is_some) {heights : List ℕ} {cells : List Left} {above : Beside} {elements rest : List Element} {line : RuleLine}
    → let s : Sheet = record { bars = c.args.bars; width = c.args.width; columns = c.args.columns.now } in
    let formats = all_rows c.args.format.now.format in
    HavePlaces formats s → NextPlaces s elements → Comes c.args.bytes.now formats s (kept_by c.self.inside) heights cells above elements
    → RuleComes elements line rest → SignIs c.args.whole line
    → RuleGiven c.args.bytes.now c.as_slice.result.now c.fill_signs.new.signs.items c.as_slice-2.result.now s.columns cells s.bars line above
    (below_rule s line cells rest)
given c {heights} {cells} {above} {elements} {rest} {line} places own here rule sign =
    let a = c.self.inside in
    let b = kept_band a.band in
    let bytes = c.args.bytes.now in
    let formats = all_rows c.args.format.now.format in
    let s : Sheet = record { bars = c.args.bars; width = c.args.width; columns = c.args.columns.now } in
    let n = length s.columns in
    let all = overs 0 cells s.columns in
    let through : GoThrough c.count.new.self.through.items all = subst (λ (k : KeptBand). GoThrough k.through all) (sym c.count.ensures.rest)
    here.band.through in
    let signs = c.fill_signs.new.signs.items in
    let drawn : (column : ℕ) → column < n → get_or signs column None ≡ sign_at (line_given formats b c.args.whole) (over_at all column) column
    = subst (λ (k : KeptBand). (column : ℕ) → column < n → get_or signs column None
    ≡ sign_at (line_given formats k c.args.whole) (over_at all column) column) c.count.ensures.rest (c.fill_signs.ensures.signs all through) in
    let counts = c.count.new.self.counts.items in
    let first = row_below n cells elements in
    let Met : ℕ → Type 0 = λ m. (boundary : ℕ) → boundary ≤ m → get_or counts boundary 0
    ≡ bars_met s.bars m (band_line formats b b.at) all above (lines_behind formats b all (b.at + 1) first) boundary in
    let met : Met n = subst Met here.band.as_many (c.count.ensures.met all above first
    (subst (λ (m : ℕ). BandStands formats s.bars m b all above first) (sym here.band.as_many) here.band)) in
    let below = below_rule s line cells rest in
    let made = rule-given here rule c.args.whole signs counts sign places own drawn met in
    subst (λ (cs : List CellLeft). RuleGiven bytes cs signs c.as_slice-2.result.now s.columns cells s.bars line above below)
    (sym c.as_slice.ensures.value)
    (subst (λ (ns : List ℕ). RuleGiven bytes a.cells.items signs ns s.columns cells s.bars line above below) (sym c.as_slice-2.ensures.value) made)

pub count-requires-clause-line : goal.count-requires-clause-line
count-requires-clause-line c =
    let n = rw (← c.self.view_is) at c.requires.next in
    (next-line n.comes n.rule).more

pub fill_signs-requires-clause-line : goal.fill_signs-requires-clause-line
fill_signs-requires-clause-line c =
    let n = rw (← c.self.view_is) at c.requires.next in
    let told = c.count.ensures.rest in
    omega (
      arith,
      (next-line n.comes n.rule).more,
      ap (λ (b : KeptBand). b.at) told,
      ap (λ (b : KeptBand). b.wholes) told,
      ap (λ (b : KeptBand). b.count) told,
    )

pub fill_signs-requires-clause-keys : goal.fill_signs-requires-clause-keys
fill_signs-requires-clause-keys c = λ none.
    let n = rw (← c.self.view_is) at c.requires.next in
    let told = c.count.ensures.rest in
    let formats = all_rows c.args.format.now.format in
    omega (
      arith,
      given-keys formats (kept_band c.self.inside.band) c.args.whole n.line n.sign (next-line n.comes n.rule).alike none,
      ap (λ (b : KeptBand). b.at) told,
      ap (λ (b : KeptBand). b.wholes) told,
    )

pub fill_signs-requires-clause-room : goal.fill_signs-requires-clause-room
fill_signs-requires-clause-room c =
    let n = rw (← c.self.view_is) at c.requires.next in
    omega (arith, n.comes.room, (c.clear_rule.ensures.room c.self.inside.room c.self.invariant.line).signs)

pub lay_rule-requires-clause-cover : goal.lay_rule-requires-clause-cover
lay_rule-requires-clause-cover c =
    let n = rw (← c.self.view_is) at c.requires.next in
    let s : Sheet = record { bars = c.args.bars; width = c.args.width; columns = c.args.columns.now } in
    let count = length s.columns in
    let format = next_format n.elements in
    let cells = c.self.inside.cells.items in
    let has = left-has c.args.bytes.now cells n.cells (all_keys count format) n.comes.left n.comes.keys.bars n.comes.keys.ends in
    let cover = cover-all count format cells n.comes.within has in
    rw c.as_slice.ensures.value (covers (length c.args.columns.now) (keys_in cells) cover.order
    cover.all)

pub invariant_of-self : goal.invariant_of-self
invariant_of-self c =
    let room = c.self.inside.room in
    let cleared = c.clear_rule.ensures.room room c.self.invariant.line in
    record {
      few = c.self.invariant.few;
      cells = c.self.invariant.cells;
      above = c.self.invariant.above;
      band = c.count.ensures.room room c.self.invariant.band;
      line = c.lay_rule.ensures.room room (record {
        signs = omega (arith, cleared.signs, c.fill_signs.ensures.capacity);
        cells = cleared.cells;
        cut = cleared.cut;
        fronts = cleared.fronts;
        columns = cleared.columns;
        keys = cleared.keys;
        entries = cleared.entries;
        places = cleared.places;
      });
      come = c.self.invariant.come;
      come_above = c.self.invariant.come_above;
    }

pub lay_rule-requires-clause-given : goal.lay_rule-requires-clause-given
lay_rule-requires-clause-given c =
    let n = rw (← c.self.view_is) at c.requires.next in
    let s : Sheet = record { bars = c.args.bars; width = c.args.width; columns = c.args.columns.now } in
    record {
      lefts = n.cells;
      bars = s.bars;
      line = n.line;
      above = n.above;
      below = below_rule s n.line n.cells n.rest;
      whole = c.is_some.ensures ∙ given-whole c.args.whole n.line n.sign;
      given = given (goal.at.lay_rule-requires-clause-given c).After-is_some n.places n.next n.comes n.rule n.sign;
    }

pub returns-clause-draws : goal.returns-clause-draws
returns-clause-draws c = λ heights cells above elements rest line places own comes rule sign.
    let here = rw (← c.self.view_is) at comes in
    let made = given (goal.at.returns-clause-draws c).After-is_some places own here rule sign in
    c.lay_rule.ensures.draws cells c.args.bars line above _ (c.is_some.ensures ∙ given-whole c.args.whole line sign) made

pub returns-clause-cut : goal.returns-clause-cut
returns-clause-cut c = λ heights cells above elements rest line places own comes rule sign.
    let here = rw (← c.self.view_is) at comes in
    let made = given (goal.at.returns-clause-cut c).After-is_some places own here rule sign in
    c.lay_rule.ensures.cut cells c.args.bars line above _ (c.is_some.ensures ∙ given-whole c.args.whole line sign) made
