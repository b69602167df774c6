-- A line of a picture with cells of several rows is laid and begins, as a row of one line.
use Rattle.std.proofs.Common.{◌≡◌, ℕ, suc, ◌≤◌, ◌<◌, Bool, true, List, [], ◌∷◌, ◌++◌, drop, get_or, length, Option, refl, sym, ap, subst, ◌∙◌, arith, append-nil}
use Rattle.std.proofs.lemmas.List.{length-map}
use Rattle.tbl_format.specs.Format.{FormatRow}
use Rattle.tbl_kept.specs.Rows.{Command, KeptElement, KeptRows, Row, Rule, heights_of}
use Rattle.tbl_layout.specs.Entries.{Element}
use Rattle.tbl_layout.specs.declared.bars.Bars.{Bars}
use Rattle.tbl_layout.specs.declared.columns.Column.{Column}
use Rattle.tbl_layout.specs.declared.data_lines.RuleSign.{RuleSign}
use Rattle.tbl_lines.specs.CellsLeft.{Left, bars_at_end}
use Rattle.tbl_lines.specs.LinesLeft.{Beside, row_line, rule_line_left}
use Rattle.tbl_lines.specs.RulePlaces.{HavePlaces}
use Rattle.tbl_lines.specs.PictureLines.{RuleLine, Sheet}
use Rattle.tbl_lines.specs.RowsLeft.{cell_of_front}
use Rattle.tbl_giving.proofs.PartsCome.{part-first, rule-has, rule-part}
use Rattle.tbl_giving.specs.LinesWalked.{HasCome, IsRowOf, KeptLineByLine, LineBegins, LineUnderWay, StandsNext, UnderWayIf, all_boxed, bars_by, boxed_by, boxed_now, coming, elements_left, heights_left, heights_now, is_on_line, lines_to_come_by, parts_left, row_laid, sheet_by}
use Rattle.tbl_picture.specs.Nexts.{AtLine}
use Rattle.tbl_giving.specs.PartsToCome.{HasPart, HasPartBy, ToCome, all_lines, behind_part, first_part, part_by, parts_in, with_parts}
use Rattle.tbl_picture.specs.Walks.{BeforeLine, KeptWalk, row_left}
use Rattle.tbl_giving.specs.declared.line_by_line.Place.{Place}
use Rattle.tbl_giving.specs.declared.line_by_line.Place.TheVariants.{OnRow, OnRule}
use Rattle.tbl_giving.specs.declared.line_by_line.RuleAt.{RuleAt}
use Rattle.tbl_tall.specs.Bands.{keys_left, wholes_left}
use Rattle.tbl_line_cells.specs.LinesDrawn.{Draws, KeptLine, laid_row}
use Rattle.tbl_tall.specs.BandLaws.{NextPlaces}
use Rattle.tbl_tall.specs.TallRows.{Comes, KeptTall, RowStands, RuleComes, SignIs, below_rule}

-- a walk before a line that is laid
abbrev pub before_line : KeptLine → KeptWalk → KeptWalk
before_line line w = record w { line = 0; places = line.places; next = AtLine }

module _ (bytes : List ℕ) (bars : Bars) (width : ℕ) (line : KeptLine) (text : List ℕ) (draws : Draws bytes bars width line text) (w : KeptWalk)
    (few : length line.entries ≤ w.room) where
  pub line-before : BeforeLine (laid_row bytes bars width line) (before_line line w)
  line-before = record {
    line = omega arith;
    short = omega (arith, draws.as_many_entries);
    room = few;
    narrow = draws.narrow;
    lie = draws.lie;
    fronts = length-map line.fronts cell_of_front ∙ draws.fronts.count;
    places = draws.places;
  }

  pub line-left : row_left AtLine (laid_row bytes bars width line) (before_line line w) ≡ text
  line-left = append-nil _ ∙ draws.text

-- as it had come, with the row that comes kept otherwise, or another place
pub record StillCome (bytes : List ℕ) (formats : List FormatRow) (rows : KeptRows) (old new : KeptLineByLine) (room : ℕ) : Type 0 where
  pub come : HasCome bytes formats rows new room
  pub is : coming bytes formats rows new ≡ coming bytes formats rows old

module _ (bytes : List ℕ) (formats : List FormatRow) (rows : KeptRows) (g : KeptLineByLine) (room : ℕ) where
  pub still-come : (place : Place) (tall : KeptTall) → HasCome bytes formats rows g room → tall.come ≡ g.tall.come → tall.room ≡ g.tall.room
      → elements_left bytes formats rows (record g { place = place; tall = tall }) ≡ (coming bytes formats rows g).elements
      → heights_left rows (record g { place = place; tall = tall }) ≡ (coming bytes formats rows g).heights
      → StandsNext place bytes formats rows (record g { place = place; tall = tall }) (coming bytes formats rows g)
      → StillCome bytes formats rows g (record g { place = place; tall = tall }) room
  still-come place tall come ended same elements heights stands =
      let new = record g { place = place; tall = tall } in
      let x = coming bytes formats rows g in
      let parts : parts_left bytes formats rows new ≡ parts_left bytes formats rows g =
      ap (λ (hs : List ℕ). parts_in hs (elements_left bytes formats rows new)) (heights ∙ come.heights)
      ∙ ap (λ (es : List Element). parts_in (heights_left rows g) es) (elements ∙ come.elements) in
      let is : coming bytes formats rows new ≡ x =
      ap (λ (n : ℕ). with_parts (sheet_by rows g) (heights_of rows.elements) (all_boxed bytes formats rows g) n) parts in
      record {
        come = record {
          drawn = record {
            laid = come.drawn.laid;
            lie = come.drawn.lie;
            high = come.drawn.high;
            narrow = come.drawn.narrow;
            places = come.drawn.places;
            wide = come.drawn.wide;
            ruled = come.drawn.ruled;
            some = come.drawn.some;
            room = omega (arith, come.drawn.room, same);
            few = come.drawn.few;
          };
          element = come.element;
          ended = omega (arith, come.ended, ended);
          parts = omega (arith, parts, come.parts);
          elements = ap (λ (z : ToCome). z.elements) is ∙ sym elements;
          heights = ap (λ (z : ToCome). z.heights) is ∙ sym heights;
          stands = subst (λ (z : ToCome). StandsNext place bytes formats rows new z) (sym is) stands;
        };
        is = is;
      }

  -- the line that comes begins: it is the first part of what is to come
  pub line-begins : (tall : KeptTall) (w : KeptWalk) → (on : Place) → StillCome bytes formats rows g (record g { place = on; tall = tall }) room
      → w.room ≡ room → length tall.line.entries ≤ room
      → Draws bytes (bars_by on g.bars) g.width tall.line (first_part (sheet_by rows g) (coming bytes formats rows g))
      → HasPart (coming bytes formats rows g)
      → is_on_line on ≡ true → g.place ≡ on → tall.room ≡ g.tall.room
      → LineBegins bytes formats rows g (record g { place = on; tall = tall }) w (before_line tall.line w)
  line-begins tall w on still same few draws has line place own =
      let new = record g { place = on; tall = tall } in
      let s = sheet_by rows g in
      let x = coming bytes formats rows g in
      let few_w : length tall.line.entries ≤ w.room = omega (arith, few, same) in
      let under : LineUnderWay bytes new (before_line tall.line w) = record {
        text = first_part s x;
        draws = draws;
        few = few_w;
        under = line-before bytes (bars_by on g.bars) g.width tall.line (first_part s x) draws w few_w;
      } in
      let same_lines : row_left AtLine (row_laid bytes new) (before_line tall.line w) ++ all_lines s (behind_part s (coming bytes formats rows new)) ≡ all_lines s x =
      ap (λ (front : List ℕ). front ++ all_lines s (behind_part s (coming bytes formats rows new))) (line-left bytes (bars_by on g.bars) g.width tall.line (first_part s x) draws w few_w)
      ∙ ap (λ (z : ToCome). first_part s x ++ all_lines s (behind_part s z)) still.is
      ∙ sym (part-first s x has) in
      record {
        can = record {
          come = subst (λ (n : ℕ). HasCome bytes formats rows new n) (sym same) still.come;
          under = subst (λ (t : Bool). UnderWayIf t bytes new (before_line tall.line w)) (sym line) under;
        };
        same = subst (λ (t : Bool). lines_to_come_by t bytes rows new (before_line tall.line w) (coming bytes formats rows new) ≡ all_lines s x) (sym line) same_lines;
        place = sym place;
        room = refl;
        own = own;
      }

-- the line that comes is drawn, whatever it is
abbrev pub LaysRule : List ℕ → List FormatRow → Bars → ℕ → Option RuleSign → KeptTall → KeptTall → List Column → Type 0
LaysRule bytes formats bars width whole old new columns = (heights : List ℕ) (cells : List Left) (above : Beside) (elements rest : List Element)
    (line : RuleLine)
    → let s : Sheet = record { bars = bars; width = width; columns = columns } in
    HavePlaces formats s → NextPlaces s elements → Comes bytes formats s old heights cells above elements → RuleComes elements line rest
    → SignIs whole line
    → Draws bytes (record bars { has_any = true }) width new.line (rule_line_left s line cells above (below_rule s line cells rest))

abbrev pub LaysRow : List ℕ → Bars → ℕ → KeptTall → KeptTall → List Column → Type 0
LaysRow bytes bars width old new columns = (format : FormatRow) (cells : List Left) (lines : ℕ)
    → let s : Sheet = record { bars = bars; width = width; columns = columns } in
    RowStands bytes s old format cells lines → Draws bytes bars width new.line (row_line s (bars_at_end (length s.columns) format) cells)

-- what was given stands behind a line that is laid
module _ (bytes : List ℕ) (formats : List FormatRow) (rows : KeptRows) (g : KeptLineByLine) (room : ℕ) (tall : KeptTall) (ended : tall.come ≡ g.tall.come)
    (same : tall.room ≡ g.tall.room) (w : KeptWalk) (w_room : w.room ≡ room) (few : length tall.line.entries ≤ length rows.columns) where
  -- a line of rules
  pub rule-begins : (at : RuleAt) → (come : HasCome bytes formats rows (record g { place = OnRule at }) room)
      → (let x = coming bytes formats rows (record g { place = OnRule at }) in
      Comes bytes formats (sheet_by rows g) tall x.heights x.cells x.above x.elements
      → Draws bytes (record g.bars { has_any = true }) g.width tall.line
      (rule_line_left (sheet_by rows g) come.stands.line x.cells x.above (below_rule (sheet_by rows g) come.stands.line x.cells come.stands.rest))
      → LineBegins bytes formats rows (record g { place = OnRule at }) (record g { place = OnRule at; tall = tall }) w (before_line tall.line w))
  rule-begins at come comes draws =
      let on = record g { place = OnRule at } in
      let s = sheet_by rows g in
      let x = coming bytes formats rows on in
      let rule = come.stands.rule in
      let kept = drop g.element rows.elements in
      let old = come.stands.front.comes in
      let wholes : wholes_left tall.band ≡ wholes_left g.tall.band = comes.wholes ∙ sym old.wholes in
      let rules : keys_left formats tall.band ≡ keys_left formats g.tall.band = comes.rules ∙ sym old.rules in
      let lines : tall.lines_left ≡ g.tall.lines_left = comes.height ∙ sym old.height in
      let heights : heights_left rows (record g { place = OnRule at; tall = tall }) ≡ heights_left rows on = ap (λ (n : ℕ). heights_now n kept) lines in
      let elements : elements_left bytes formats rows (record g { place = OnRule at; tall = tall }) ≡ elements_left bytes formats rows on =
      ap (λ (n : ℕ). boxed_by (OnRule at) g.bars.boxing bytes formats n (keys_left formats tall.band) kept) wholes
      ∙ ap (λ (rs : List FormatRow). boxed_by (OnRule at) g.bars.boxing bytes formats (wholes_left g.tall.band) rs kept) rules in
      let still = still-come bytes formats rows on room (OnRule at) tall come ended same
      (elements ∙ sym come.elements) (heights ∙ sym come.heights)
      (record {
        front = record { comes = comes; whole = heights ∙ come.stands.front.whole };
        line = come.stands.line;
        rest = come.stands.rest;
        rule = rule;
        stands = come.stands.stands;
      }) in
      line-begins bytes formats rows on room tall w (OnRule at) still w_room (omega (arith, few, come.drawn.few))
      (subst (λ (text : List ℕ). Draws bytes (record g.bars { has_any = true }) g.width tall.line text)
      (sym (rule-part s x.cells x.above x.elements come.stands.rest come.stands.line rule)) draws)
      (rule-has s x.heights x.elements come.stands.rest come.stands.line rule) refl refl same

  -- a line of a row
  row-kept : (kept : List KeptElement) → drop g.element rows.elements ≡ kept → (format : FormatRow) → IsRowOf formats format kept
      → (x : ToCome) → x.elements ≡ boxed_now g.bars.boxing bytes formats 0 [] kept → x.heights ≡ heights_now g.tall.lines_left kept → 0 < g.tall.lines_left
      → HasPart x × (first_part (sheet_by rows g) x ≡ row_line (sheet_by rows g) (bars_at_end (length rows.columns) format) x.cells)
  row-kept [] is format row x elements heights some = absurd row
  row-kept (Rule sign ∷ kept) is format row x elements heights some = absurd row
  row-kept (Command from to ∷ kept) is format row x elements heights some = absurd row
  row-kept (Row keys rules height entries ∷ kept) is format row x elements heights some =
      let s = sheet_by rows g in
      let lines = g.tall.lines_left ∷ heights_of kept in
      let first : 0 < get_or x.heights 0 0 = subst (λ (hs : List ℕ). 0 < get_or hs 0 0) (sym heights) some in (
        subst (λ (es : List Element). HasPartBy x.heights es) (sym elements) first,
        ap (λ (es : List Element). part_by s x.cells x.above es) elements
            ∙ ap (λ (f : FormatRow). row_line s (bars_at_end (length rows.columns) f) x.cells) (sym row),
      )

  pub row-begins : (come : HasCome bytes formats rows (record g { place = OnRow }) room) → tall ≡ record g.tall { line = tall.line }
      → (let x = coming bytes formats rows (record g { place = OnRow }) in
      Draws bytes g.bars g.width tall.line (row_line (sheet_by rows g) (bars_at_end (length rows.columns) come.stands.format) x.cells)
      → LineBegins bytes formats rows (record g { place = OnRow }) (record g { place = OnRow; tall = tall }) w (before_line tall.line w))
  row-begins come is draws =
      let on = record g { place = OnRow } in
      let s = sheet_by rows g in
      let x = coming bytes formats rows on in
      let kept = drop g.element rows.elements in
      let lines : tall.lines_left ≡ g.tall.lines_left = ap (λ (t : KeptTall). t.lines_left) is in
      let stands = come.stands.stands in
      let parts = row-kept kept refl come.stands.format come.stands.row x come.elements come.heights (omega (arith, stands.height)) in
      let still = still-come bytes formats rows on room OnRow tall come ended same (sym come.elements)
      (ap (λ (n : ℕ). heights_now n kept) lines ∙ sym come.heights)
      (record {
        format = come.stands.format;
        row = come.stands.row;
        more = come.stands.more;
        stands = subst (λ (t : KeptTall). RowStands bytes s t come.stands.format x.cells (suc come.stands.more)) (sym is)
            (record {
              left = stands.left;
              keys = stands.keys;
              height = stands.height;
              last = stands.last;
              within = stands.within;
              some = stands.some;
              room = stands.room;
              first = stands.first;
            });
      }) in
      line-begins bytes formats rows on room tall w OnRow still w_room (omega (arith, few, come.drawn.few))
      (subst (λ (text : List ℕ). Draws bytes g.bars g.width tall.line text) (sym parts.1) draws) parts.0 refl refl same
