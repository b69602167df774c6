-- The steps of a walk over the lines of a picture with cells of several rows.
use Rattle.std.proofs.Common.{◌≡◌, ℕ, suc, ◌+◌, ◌<◌, Bool, true, false, List, [], ◌∷◌, ◌++◌, drop, length, refl, sym, ap, subst, ◌∙◌, arith, append_assoc, length-append}
use Rattle.std.specs.List.{slice_range}
use Rattle.input_source.specs.Bytes.{newline}
use Rattle.tbl_format.specs.Format.{FormatRow}
use Rattle.tbl_kept.specs.Rows.{Command, KeptElement, KeptRows, heights_of}
use Rattle.tbl_layout.specs.Entries.{Command as OneCommand, Element}
use Rattle.tbl_giving.proofs.LinesGo.{part-came}
use Rattle.tbl_giving.proofs.LinesLaid.{StillCome}
use Rattle.tbl_giving.proofs.PartsCome.{part-first}
use Rattle.tbl_picture.proofs.RowSteps.{under-on}
use Rattle.tbl_picture.proofs.RowsOn.{some-on}
use Rattle.tbl_giving.proofs.RulesEnded.{drop-next, drop-within}
use Rattle.tbl_giving.specs.LinesWalked.{CanGo, HasCome, KeptLineByLine, LineBegins, LineSteps, LineUnderWay, StandsNext, UnderWayIf, boxed_now, coming, heights_left, heights_now, is_on_line, lines_to_come, lines_to_come_by, row_laid, sheet_by, steps_of}
use Rattle.tbl_giving.specs.PartsToCome.{HasPart, HasPartBy, ToCome, all_lines, behind_by, behind_part, part_by}
use Rattle.tbl_picture.specs.Walks.{KeptWalk, RowEnds, RowSteps, row_left}
use Rattle.tbl_giving.specs.declared.line_by_line.Place.{Place}
use Rattle.tbl_giving.specs.declared.line_by_line.Place.TheVariants.{AtElement}
use Rattle.tbl_pieces.proofs.Adding.{adds-fewer, adds-fitting, adds-none}
use Rattle.tbl_pieces.specs.PieceQueue.{Adds, KeptPieces}
use Rattle.tbl_tall.specs.Bands.{keys_left, wholes_left}
use Rattle.tbl_tall.specs.TallRows.{Comes}

module _ (bytes frame : List ℕ) (formats : List FormatRow) (rows : KeptRows) (g : KeptLineByLine) (w : KeptWalk) where
  -- what is to come, off a line and on one
  pub off-line : is_on_line g.place ≡ false → lines_to_come bytes formats rows g w ≡ all_lines (sheet_by rows g) (coming bytes formats rows g)
  off-line off = ap (λ (t : Bool). lines_to_come_by t bytes rows g w (coming bytes formats rows g)) off

  on-line : is_on_line g.place ≡ true → lines_to_come bytes formats rows g w
      ≡ row_left w.next (row_laid bytes g) w ++ all_lines (sheet_by rows g) (behind_part (sheet_by rows g) (coming bytes formats rows g))
  on-line on = ap (λ (t : Bool). lines_to_come_by t bytes rows g w (coming bytes formats rows g)) on

  -- a line begins
  fewer-begun : (t u : Bool) (xs ys : List ℕ) → t ≡ true → u ≡ false → xs ≡ ys → steps_of t xs < steps_of u ys
  fewer-begun true true xs ys on off same = absurd (cc)
  fewer-begun true false xs ys on off same =
      let len = ap (λ (zs : List ℕ). length zs) same in omega (arith, len)
  fewer-begun false u xs ys on off same = absurd (cc)

  pub begins-step : (new : KeptLineByLine) (after : KeptWalk) (pieces : KeptPieces) (place : Place) → is_on_line g.place ≡ false → is_on_line place ≡ true
      → StillCome bytes formats rows g (record g { place = place }) w.room
      → LineBegins bytes formats rows (record g { place = place }) new w after
      → LineSteps bytes frame formats rows g new w after pieces pieces
  begins-step new after pieces place off on still begins =
      let s = sheet_by rows g in
      let same : lines_to_come bytes formats rows g w ≡ lines_to_come bytes formats rows new after =
      off-line off ∙ ap (λ (x : ToCome). all_lines s x) (sym still.is) ∙ sym begins.same in
      let on_new : is_on_line new.place ≡ true = ap (λ (p : Place). is_on_line p) begins.place ∙ on in
      record {
        added = [];
        adds = adds-fitting bytes frame pieces pieces [] (adds-fewer bytes frame 0 4 pieces pieces [] (omega arith) (adds-none bytes frame pieces));
        same = same;
        can = begins.can;
        less = λ _. fewer-begun (is_on_line new.place) (is_on_line g.place) (lines_to_come bytes formats rows new after) (lines_to_come bytes formats rows g w)
            on_new off (sym same);
        room = begins.room;
        own = begins.own;
      }

  -- fewer bytes are to come behind some
  fewer-by : (t u : Bool) (n m : ℕ) (zs xs : List ℕ) → length zs ≡ n → length xs ≡ m → n < m → steps_of t zs < steps_of u xs
  fewer-by true true n m zs xs is_n is_m less = omega (arith, is_n, is_m, less)
  fewer-by true false n m zs xs is_n is_m less = omega (arith, is_n, is_m, less)
  fewer-by false true n m zs xs is_n is_m less = omega (arith, is_n, is_m, less)
  fewer-by false false n m zs xs is_n is_m less = omega (arith, is_n, is_m, less)

  fewer-steps : (t u : Bool) (xs ys zs : List ℕ) → xs ≡ ys ++ zs → 0 < length ys → steps_of t zs < steps_of u xs
  fewer-steps t u xs ys zs is some =
      let len = ap (λ (bs : List ℕ). length bs) is ∙ length-append ys zs in
      fewer-by t u (length zs) (length xs) zs xs refl refl (omega (arith, len, some))

  module _ (after : KeptWalk) (pieces others : KeptPieces) where
    -- it ends, and what follows comes
    pub ends-step : is_on_line g.place ≡ true → CanGo bytes formats rows g w → RowEnds frame (row_laid bytes g) w after pieces others
        → (new : KeptLineByLine) (last : KeptWalk) → last.room ≡ after.room → CanGo bytes formats rows new last
        → lines_to_come bytes formats rows new last ≡ all_lines (sheet_by rows g) (behind_part (sheet_by rows g) (coming bytes formats rows g))
        → new.tall.room ≡ g.tall.room
        → LineSteps bytes frame formats rows g new w last pieces others
    ends-step on can ends new last room can_new all own =
        let s = sheet_by rows g in
        let under : LineUnderWay bytes g w = subst (λ (t : Bool). UnderWayIf t bytes g w) on can.under in
        let row = row_laid bytes g in
        let some : 0 < length (row_left w.next row w) = some-on w.next row w (under-on w.next row w under.under) under.under in
        let given : 0 < length ends.added = subst (λ (xs : List ℕ). 0 < length xs) ends.all some in
        let same : lines_to_come bytes formats rows g w ≡ ends.added ++ lines_to_come bytes formats rows new last =
        on-line on ∙ ap (λ (xs : List ℕ). xs ++ all_lines s (behind_part s (coming bytes formats rows g))) ends.all
        ∙ ap (λ (xs : List ℕ). ends.added ++ xs) (sym all) in
        record {
          added = ends.added;
          adds = ends.adds;
          same = same;
          can = can_new;
          less = λ _. fewer-steps (is_on_line new.place) (is_on_line g.place) (lines_to_come bytes formats rows g w) ends.added
              (lines_to_come bytes formats rows new last) same given;
          room = room ∙ ends.stays.room;
          own = own;
        }

  -- a command is given
  pub command-step : (from to : ℕ) (kept : List KeptElement) → drop g.element rows.elements ≡ Command from to ∷ kept
      → CanGo bytes formats rows (record g { place = AtElement }) w → (pieces others : KeptPieces)
      → Adds bytes frame 4 pieces others (slice_range bytes from to ++ newline ∷ [])
      → LineSteps bytes frame formats rows (record g { place = AtElement }) (record g { element = suc g.element; place = AtElement }) w w pieces others
  command-step from to kept is can pieces others adds =
      let old = record g { place = AtElement } in
      let new = record g { element = suc g.element; place = AtElement } in
      let s = sheet_by rows g in
      let come = can.come in
      let x = coming bytes formats rows old in
      let boxing = g.bars.boxing in
      let wholes = wholes_left g.tall.band in
      let rules = keys_left formats g.tall.band in
      let rest = boxed_now boxing bytes formats wholes rules kept in
      let text = slice_range bytes from to in
      let next : drop (suc g.element) rows.elements ≡ kept = drop-next g.element rows.elements (Command from to) kept is in
      let elements : x.elements ≡ OneCommand text ∷ rest =
      come.elements ∙ ap (λ (es : List KeptElement). boxed_now boxing bytes formats wholes rules es) is in
      let y : ToCome = record { heights = x.heights; cells = x.cells; above = x.above; elements = rest } in
      let behind : behind_part s x ≡ y = ap (λ (es : List Element). behind_by s x.heights x.cells x.above es) elements in
      let has : HasPart x = subst (λ (es : List Element). HasPartBy x.heights es) (sym elements) tt in
      let front = come.stands in
      let comes = subst (λ (es : List Element). Comes bytes formats s g.tall x.heights x.cells x.above es) elements front.comes in
      let heights : heights_left rows new ≡ heights_left rows old =
      ap (λ (es : List KeptElement). heights_now g.tall.lines_left es) next ∙ ap (λ (es : List KeptElement). heights_now g.tall.lines_left es) (sym is) in
      let came = part-came bytes formats rows old w.room (suc g.element) AtElement g.tall come has
      (drop-within g.element rows.elements (Command from to) kept is) (omega (arith, come.ended)) refl
      (ap (λ (es : List KeptElement). boxed_now boxing bytes formats wholes rules es) next ∙ ap (λ (z : ToCome). z.elements) (sym behind))
      (heights ∙ sym come.heights ∙ ap (λ (z : ToCome). z.heights) (sym behind))
      (subst (λ (z : ToCome). StandsNext AtElement bytes formats rows new z) (sym behind)
      (record {
        comes = record {
          left = comes.left;
          keys = comes.keys;
          band = comes.band;
          wholes = comes.wholes;
          rules = comes.rules;
          height = comes.height;
          last = comes.last;
          fit = comes.fit;
          within = comes.within;
          some = comes.some;
          room = comes.room;
        };
        whole = heights ∙ front.whole ∙ ap (λ (es : List KeptElement). heights_of es) is ∙ ap (λ (es : List KeptElement). heights_of es) (sym next);
      })) in
      let same : all_lines s x ≡ (text ++ newline ∷ []) ++ all_lines s (coming bytes formats rows new) =
      part-first s x has ∙ ap (λ (es : List Element). part_by s x.cells x.above es ++ all_lines s (behind_part s x)) elements
      ∙ ap (λ (z : ToCome). (text ++ newline ∷ []) ++ all_lines s z) (sym came.is) in
      record {
        added = text ++ newline ∷ [];
        adds = adds-fitting bytes frame pieces others (text ++ newline ∷ []) adds;
        same = same;
        can = record { come = came.come; under = tt };
        less = λ _. fewer-steps false false (all_lines s x) (text ++ newline ∷ []) (all_lines s (coming bytes formats rows new)) same
            (omega (arith, length-append text (newline ∷ [])));
        room = refl;
        own = refl;
      }

module _ {bytes frame : List ℕ} {formats : List FormatRow} {rows : KeptRows} {g : KeptLineByLine} {w after : KeptWalk} {pieces others : KeptPieces} where
  -- a line goes on, and there is no room for another step
  pub goes-step : is_on_line g.place ≡ true → CanGo bytes formats rows g w → RowSteps frame (row_laid bytes g) w after pieces others
      → others.room < others.taken + 4 → LineSteps bytes frame formats rows g g w after pieces others
  goes-step on can steps full =
      let s = sheet_by rows g in
      let rest = all_lines s (behind_part s (coming bytes formats rows g)) in
      let under : LineUnderWay bytes g w = subst (λ (t : Bool). UnderWayIf t bytes g w) on can.under in
      let now : LineUnderWay bytes g after = record {
        text = under.text;
        draws = under.draws;
        few = omega (arith, under.few, steps.stays.room);
        under = steps.can;
      } in
      record {
        added = steps.added;
        adds = steps.adds;
        same = on-line bytes frame formats rows g w on ∙ ap (λ (xs : List ℕ). xs ++ rest) steps.joins
            ∙ append_assoc steps.added (row_left after.next (row_laid bytes g) after) rest
            ∙ ap (λ (xs : List ℕ). steps.added ++ xs)
            (sym (ap (λ (t : Bool). lines_to_come_by t bytes rows g after (coming bytes formats rows g)) on));
        can = record {
          come = subst (λ (n : ℕ). HasCome bytes formats rows g n) (sym steps.stays.room) can.come;
          under = subst (λ (t : Bool). UnderWayIf t bytes g after) (sym on) now;
        };
        less = λ room. absurd (omega (arith, room, full));
        room = steps.stays.room;
        own = refl;
      }
