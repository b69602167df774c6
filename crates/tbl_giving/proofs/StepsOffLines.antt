-- Steps in front of elements of a picture with cells of several rows: a line begins.
use Rattle.std.proofs.Common.{◌≡◌, ℕ, nat_lt, ◌+◌, Bool, true, false, List, [], ◌∷◌, drop, Option, None, Some, refl, sym, ap, subst, ◌∙◌, ◌==◌, if◌then◌else◌}
use Rattle.tbl_format.specs.Format.{FormatRow}
use Rattle.tbl_kept.specs.Rows.{KeptElement, KeptRows, Rule}
use Rattle.tbl_layout.specs.declared.data_lines.RuleSign.{RuleSign}
use Rattle.tbl_layout.specs.declared.data_lines.RuleSign.TheVariants.{Single}
use Rattle.tbl_layout.specs.Entries.{Element, Rule as OneRule}
use Rattle.tbl_lines.specs.PictureLeft.{lines_left}
use Rattle.tbl_lines.specs.PictureLines.{frame_sign}
use Rattle.tbl_giving.proofs.LineStepsMade.{begins-step, off-line}
use Rattle.tbl_giving.proofs.LinesLaid.{StillCome}
use Rattle.tbl_giving.proofs.PartsNext.{RuleNext, element-next, end-next, row-next, row-first, rule-keys-next, top-next, whole-next}
use Rattle.tbl_giving.proofs.StepsOnLines.{come-at}
use Rattle.tbl_giving.specs.LinesWalked.{CanGo, HasCome, KeptLineByLine, LineBegins, LineSteps, boxed_now, coming, is_on_line, lines_to_come, sheet_by}
use Rattle.tbl_picture.specs.RulesWalked.{IsRowFirst}
use Rattle.tbl_giving.specs.PartsToCome.{all_lines}
use Rattle.tbl_picture.specs.Walks.{KeptWalk}
use Rattle.tbl_giving.specs.declared.line_by_line.Place.{Place}
use Rattle.tbl_giving.specs.declared.line_by_line.Place.TheVariants.{AtElement, AtEnd, AtTop, OnRow, OnRule}
use Rattle.tbl_giving.specs.declared.line_by_line.RuleAt.{RuleAt}
use Rattle.tbl_giving.specs.declared.line_by_line.RuleAt.TheVariants.{Element as OfElement, End as OfEnd, InFront, Top as OfTop}
use Rattle.tbl_pieces.specs.PieceQueue.{KeptPieces}
use Rattle.tbl_tall.specs.Bands.{keys_left, wholes_left}

still-from : {bytes : List ℕ} {formats : List FormatRow} {rows : KeptRows} {g new : KeptLineByLine} {room : ℕ} {place : Place} → g.place ≡ place
    → StillCome bytes formats rows (record g { place = place }) new room → StillCome bytes formats rows g new room
still-from {bytes} {formats} {rows} {g} {new} {room} is still = subst (λ (p : Place). StillCome bytes formats rows (record g { place = p }) new room) (sym is) still

module _ {bytes frame : List ℕ} {formats : List FormatRow} {rows : KeptRows} {g new : KeptLineByLine} {w after : KeptWalk} {pieces : KeptPieces} where
  -- a line of rules begins, or one of a row
  pub rule-step : {place : Place} {at : RuleAt} {whole : Option RuleSign} → g.place ≡ place → is_on_line place ≡ false
      → RuleNext bytes formats rows g place at whole w.room → LineBegins bytes formats rows (record g { place = OnRule at }) new w after
      → LineSteps bytes frame formats rows g new w after pieces pieces
  rule-step {place} {at} is off next begins =
      begins-step bytes frame formats rows g w new after pieces (OnRule at) (ap (λ (p : Place). is_on_line p) is ∙ off) refl (still-from is next.still) begins

  pub row-step : g.place ≡ AtElement → StillCome bytes formats rows (record g { place = AtElement }) (record g { place = OnRow }) w.room
      → LineBegins bytes formats rows (record g { place = OnRow }) new w after → LineSteps bytes frame formats rows g new w after pieces pieces
  row-step is still begins =
      begins-step bytes frame formats rows g w new after pieces OnRow (ap (λ (p : Place). is_on_line p) is) refl (still-from is still) begins

module _ {bytes : List ℕ} {formats : List FormatRow} {rows : KeptRows} {g : KeptLineByLine} {w : KeptWalk} where
  -- what comes in front of a row
  module _ (is : g.place ≡ AtElement) (can : CanGo bytes formats rows g w) where
    here : HasCome bytes formats rows (record g { place = AtElement }) w.room
    here = come-at is can.come

    pub whole-at : IsRowFirst (drop g.element rows.elements) → (wholes_left g.tall.band == 0) ≡ false
        → RuleNext bytes formats rows g AtElement InFront (Some Single) w.room
    whole-at row some = whole-next bytes formats rows g w.room (row-first (drop g.element rows.elements) row) here some

    pub keys-at : IsRowFirst (drop g.element rows.elements) → wholes_left g.tall.band ≡ 0
        → nat_lt g.tall.band.at (g.tall.band.wholes + g.tall.band.count) ≡ true → RuleNext bytes formats rows g AtElement InFront None w.room
    keys-at row none more = rule-keys-next bytes formats rows g w.room (row-first (drop g.element rows.elements) row) here none more

    pub line-at : IsRowFirst (drop g.element rows.elements) → wholes_left g.tall.band ≡ 0
        → nat_lt g.tall.band.at (g.tall.band.wholes + g.tall.band.count) ≡ false
        → StillCome bytes formats rows (record g { place = AtElement }) (record g { place = OnRow }) w.room
    line-at row none more = row-next bytes formats rows g w.room (row-first (drop g.element rows.elements) row) here none more

    -- an element that is a rule; and behind all of them a rule, or nothing
    pub element-at : {sign : RuleSign} {kept : List KeptElement} → drop g.element rows.elements ≡ Rule sign ∷ kept
        → RuleNext bytes formats rows g AtElement OfElement (Some sign) w.room
    element-at {sign} {kept} kept_is = element-next bytes formats rows g w.room sign kept kept_is here

    pub end-at : {sign : RuleSign} → sign ≡ frame_sign g.bars.boxing.bars → (g.bars.boxing.bars == 0) ≡ false → drop g.element rows.elements ≡ []
        → RuleNext bytes formats rows g AtElement OfEnd (Some sign) w.room
    end-at sign_is some none =
        subst (λ (s : RuleSign). RuleNext bytes formats rows g AtElement OfEnd (Some s) w.room) (sym sign_is) (end-next bytes formats rows g w.room some none here)

    nothing-comes : (coming bytes formats rows (record g { place = AtElement })).elements ≡ [] → lines_to_come bytes formats rows g w ≡ []
    nothing-comes elements =
        let x = coming bytes formats rows (record g { place = AtElement }) in
        let s = sheet_by rows g in
        off-line bytes [] formats rows g w (ap (λ (p : Place). is_on_line p) is)
        ∙ ap (λ (p : Place). all_lines s (coming bytes formats rows (record g { place = p }))) is
        ∙ ap (λ (es : List Element). lines_left s x.heights x.cells x.above es) elements

    pub none-at : (g.bars.boxing.bars == 0) ≡ true → drop g.element rows.elements ≡ [] → lines_to_come bytes formats rows g w ≡ []
    none-at no_bars none =
        let elements : (coming bytes formats rows (record g { place = AtElement })).elements ≡ [] =
        here.elements
        ∙ ap (λ (es : List KeptElement). boxed_now g.bars.boxing bytes formats (wholes_left g.tall.band) (keys_left formats g.tall.band) es) none
        ∙ ap (λ (t : Bool). if t then [] else OneRule (frame_sign g.bars.boxing.bars) ∷ []) no_bars in
        nothing-comes elements

  -- the rule above everything
  pub top-at : {sign : RuleSign} → sign ≡ frame_sign g.bars.boxing.bars → g.place ≡ AtTop → CanGo bytes formats rows g w
      → RuleNext bytes formats rows g AtTop OfTop (Some sign) w.room
  top-at sign_is is can =
      subst (λ (s : RuleSign). RuleNext bytes formats rows g AtTop OfTop (Some s) w.room) (sym sign_is) (top-next bytes formats rows g w.room (come-at is can.come))

  -- behind everything nothing comes
  pub ended-at : g.place ≡ AtEnd → CanGo bytes formats rows g w → lines_to_come bytes formats rows g w ≡ []
  ended-at is can =
      let come = come-at is can.come in
      let x = coming bytes formats rows (record g { place = AtEnd }) in
      let s = sheet_by rows g in
      off-line bytes [] formats rows g w (ap (λ (p : Place). is_on_line p) is)
      ∙ ap (λ (p : Place). all_lines s (coming bytes formats rows (record g { place = p }))) is
      ∙ ap (λ (es : List Element). lines_left s x.heights x.cells x.above es) come.elements
