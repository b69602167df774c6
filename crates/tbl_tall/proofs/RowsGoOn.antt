-- The row that comes, behind a line of rules in front of it, and behind a line of it.
use Rattle.std.proofs.Common.{◌≡◌, ℕ, suc, ◌+◌, ◌-◌, Bool, true, false, ◌==◌, List, [], ◌∷◌, drop, length, map, take, refl, ap, subst, ◌∙◌, arith, if◌then◌else◌}
use Rattle.tbl_format.specs.Format.{FormatRow}
use Rattle.tbl_format.specs.FormatRows.{AreWithin}
use Rattle.tbl_format.specs.declared.format.FormatKey.{FormatKey}
use Rattle.tbl_layout.specs.Entries.{Above, Block, Content, Element, Repeated, Ruled, Short, Text}
use Rattle.tbl_lines.specs.CellsLeft.{Left, all_keys, bars_at_end, behind_line, rest_by}
use Rattle.tbl_lines.specs.LinesLeft.{Beside, OfRow, OfRules, overs}
use Rattle.tbl_lines.specs.PictureLeft.{through_rule}
use Rattle.tbl_lines.specs.PictureLines.{RuleLine, Sheet}
use Rattle.tbl_lines.specs.RulePlaces.{HasPlaces}
use Rattle.tbl_tall.proofs.BandSteps.{overs-self}
use Rattle.tbl_tall.proofs.BandsAlike.{through-key}
use Rattle.tbl_tall.proofs.BandsBelow.{comes-next}
use Rattle.tbl_tall.proofs.BarsFit.{row-fits, rules-fit}
use Rattle.tbl_tall.proofs.KeysCover.{lefts-all, lefts-order}
use Rattle.tbl_tall.specs.BandLaws.{ComesNext, HasLinePlaces}
use Rattle.tbl_tall.specs.Bands.{BandStands, ShowBars}
use Rattle.tbl_line_cells.specs.KeptCells.{AllLeft}
use Rattle.tbl_tall.specs.TallRows.{Comes, HaveKeys, KeysCome, KeptTall, RowEnded, RowStands, RuleComes, WholeComes, next_format, next_height, row_below}

-- what comes behind a line of rules is what comes
next-format : (elements rest : List Element) (line : RuleLine) → RuleComes elements line rest → next_format elements ≡ next_format rest
next-format _ _ _ WholeComes = refl
next-format _ _ _ KeysCome = refl

next-height : (elements rest : List Element) (line : RuleLine) (heights : List ℕ) → RuleComes elements line rest
    → next_height heights elements ≡ next_height heights rest
next-height _ _ _ heights WholeComes = refl
next-height _ _ _ heights KeysCome = refl

next-below : (columns : ℕ) (cells : List Left) (elements rest : List Element) (line : RuleLine) → RuleComes elements line rest
    → row_below columns cells elements ≡ row_below columns (map through_rule cells) rest
next-below columns cells _ _ _ WholeComes = refl
next-below columns cells _ _ _ KeysCome = refl

-- cells keep their keys
module _ (f : Left → Left) (same : (l : Left) → (f l).key ≡ l.key) where
  bars-stay : (cells : List Left) → map (λ (c : Left). c.key.bars) (map f cells) ≡ map (λ (c : Left). c.key.bars) cells
  bars-stay [] = refl
  bars-stay (c ∷ cells) =
      ap (λ (k : FormatKey). k.bars ∷ map (λ (c : Left). c.key.bars) (map f cells)) (same c)
      ∙ ap (λ (ns : List ℕ). c.key.bars ∷ ns) (bars-stay cells)

  ends-stay : (cells : List Left) → map (λ (c : Left). c.key.end) (map f cells) ≡ map (λ (c : Left). c.key.end) cells
  ends-stay [] = refl
  ends-stay (c ∷ cells) =
      ap (λ (k : FormatKey). k.end ∷ map (λ (c : Left). c.key.end) (map f cells)) (same c)
      ∙ ap (λ (ns : List ℕ). c.key.end ∷ ns) (ends-stay cells)

  pub keys-stay : (cells : List Left) (keys : List FormatKey) → HaveKeys cells keys → HaveKeys (map f cells) keys
  keys-stay cells keys have = record { bars = bars-stay cells ∙ have.bars; ends = ends-stay cells ∙ have.ends }

-- a line of rules in front of it was given
pub rule-passed : {bytes : List ℕ} {formats : List FormatRow} {s : Sheet} {t new : KeptTall} {heights : List ℕ} {cells : List Left} {above : Beside}
    {elements rest : List Element} {line : RuleLine} → Comes bytes formats s t heights cells above elements → RuleComes elements line rest
    → HasLinePlaces s line → AllLeft bytes new.cells (map through_rule cells)
    → BandStands formats s.bars (length s.columns) new.band (overs 0 (map through_rule cells) s.columns) (OfRules line (overs 0 cells s.columns) above)
    (row_below (length s.columns) cells elements)
    → new.band.wholes ≡ t.band.wholes → new.band.first ≡ t.band.first → new.band.count ≡ t.band.count → new.band.at ≡ t.band.at + 1
    → new.lines_left ≡ t.lines_left → new.last ≡ t.last → new.room ≡ t.room
    → Comes bytes formats s new heights (map through_rule cells) (OfRules line (overs 0 cells s.columns) above) rest
rule-passed {bytes} {formats} {s} {t} {new} {heights} {cells} {above} {elements} {rest} {line} comes rule places left stands wholes first count at high last room =
    let n = length s.columns in
    let all = overs 0 cells s.columns in
    let same = next-format elements rest line rule in
    let fits = comes.band.fits in
    let next : ComesNext formats s t.band all cells line elements rest
    = comes-next formats s t.band all cells (overs-self all) fits.given fits.rows elements rest line rule comes.wholes comes.rules in
    let gone : new.band.at - new.band.wholes ≡ t.band.at + 1 - t.band.wholes = omega (arith, at, wholes) in
    let many : new.band.count - (new.band.at - new.band.wholes) ≡ t.band.count - (t.band.at + 1 - t.band.wholes) = omega (arith, gone, count) in
    let from : new.band.first + (new.band.at - new.band.wholes) ≡ t.band.first + (t.band.at + 1 - t.band.wholes) = omega (arith, gone, first) in
    record {
      left = left;
      keys = keys-stay through_rule through-key cells (all_keys n (next_format rest))
          (subst (λ (f : FormatRow). HaveKeys cells (all_keys n f)) same comes.keys);
      band = subst (λ (line_below : Beside). BandStands formats s.bars n new.band (overs 0 (map through_rule cells) s.columns) (OfRules line all above) line_below)
          (next-below n cells elements rest line rule) stands;
      wholes = omega (arith, next.wholes, at, wholes);
      rules = ap (λ (m : ℕ). take m (drop (new.band.first + (new.band.at - new.band.wholes)) formats)) many
          ∙ ap (λ (m : ℕ). take (t.band.count - (t.band.at + 1 - t.band.wholes)) (drop m formats)) from ∙ next.keys;
      height = high ∙ comes.height ∙ next-height elements rest line heights rule;
      last = last ∙ comes.last ∙ ap (bars_at_end n) same;
      fit = rules-fit s line all above places comes.fit;
      within = subst (λ (f : FormatRow). AreWithin n f.keys) same comes.within;
      some = comes.some;
      room = omega (arith, comes.room, room);
    }

-- a line of it was given
key-by : (t : Bool) (field : Content) (l : Left) → (if t then rest_by field l else record l { lead = l.lead - 1 }).key ≡ l.key
key-by false field l = refl
key-by true (Block measure lines) l = refl
key-by true (Text text) l = refl
key-by true (Ruled sign) l = refl
key-by true Short l = refl
key-by true (Repeated b) l = refl
key-by true Above l = refl

behind-key : (l : Left) → (behind_line l).key ≡ l.key
behind-key l = key-by (l.lead == 0) l.field l

pub line-passed : {bytes : List ℕ} {s : Sheet} {t new : KeptTall} {format : FormatRow} {cells : List Left} {more : ℕ}
    → RowStands bytes s t format cells (suc more) → AllLeft bytes new.cells (map behind_line cells) → new.lines_left ≡ t.lines_left - 1
    → new.last ≡ t.last → new.room ≡ t.room → new.is_first ≡ false → RowStands bytes s new format (map behind_line cells) more
line-passed {s = s} {format = format} {cells = cells} stands left high last room given = record {
  left = left;
  keys = keys-stay behind_line behind-key cells (all_keys (length s.columns) format) stands.keys;
  height = omega (arith, high, stands.height);
  last = last ∙ stands.last;
  within = stands.within;
  some = stands.some;
  room = omega (arith, stands.room, room);
  first = λ is. absurd cc;
}

-- and it was the last
pub row-ended : {bytes : List ℕ} {s : Sheet} {t new : KeptTall} {format : FormatRow} {cells : List Left} → RowStands bytes s t format cells 1
    → HasPlaces s.bars.front s.columns format → AllLeft bytes new.cells (map behind_line cells)
    → ShowBars s.bars.boxing (length s.columns) new.band.above (OfRow cells (bars_at_end (length s.columns) format))
    → RowEnded bytes s new (map behind_line cells) (OfRow cells (bars_at_end (length s.columns) format))
row-ended {s = s} {format = format} {cells = cells} stands places left shown = record {
  left = left;
  shown = shown;
  fit = row-fits s format cells places stands.keys (lefts-order (length s.columns) format cells stands.within stands.keys)
      (lefts-all (length s.columns) format cells stands.within stands.keys) stands.within;
}
