-- A cell of a line more is put in order.
use Rattle.std.proofs.Common.{◌≡◌, ℕ, suc, ◌+◌, ◌≤◌, ◌<◌, List, [], ◌∷◌, ◌++◌, length, get_or, Option, None, Some, refl, sym, ap, ◌∙◌, arith, vec_capacity, length-append}
use Rattle.std.specs.List.{insert}
use Rattle.tbl_lines.specs.LinesLeft.{Shown, in_order}
use Rattle.tbl_line_cells.specs.LaidCells.{place_among}
use Rattle.tbl_line_cells.specs.declared.laid_cells.LaidCell.{LaidCell}
use Rattle.tbl_line_cells.specs.declared.laid_cells.TextAt.{TextAt}
use Rattle.tbl_line_cells.specs.declared.line_cells.LineCells.{LineCells}
use Rattle.tbl_line_cells.proofs.LineShown.{NextDrawn, OrderedTo, begins-none, begins-text, get-next, last-among, next-drawn, none-among, ordered-put, ordered-stays, there}

pub next-of : (bytes : List ℕ) (cells : List LaidCell) (done : List Shown) (at last : ℕ) (to : OrderedTo bytes cells done at last) → at < length cells
    → NextDrawn bytes to.rest to.left
next-of bytes cells done at last to more =
    next-drawn bytes to.rest to.left to.others
    (omega (arith, more, ap (λ (cs : List LaidCell). length cs) to.cells_are, length-append to.first to.rest, to.many))

module _ (bytes : List ℕ) (cells : List LaidCell) (done : List Shown) (at last : ℕ) (to : OrderedTo bytes cells done at last)
    (more : at < length cells) (d : LaidCell) where
  abbrev next : NextDrawn bytes to.rest to.left
  next = next-of bytes cells done at last to more

  text-is : (t : Option TextAt) → (get_or cells at d).text ≡ t → next.c.text ≡ t
  text-is t is = ap (λ (c : LaidCell). c.text) (sym (get-next bytes cells done at last to next d)) ∙ is

  -- a text that is brought forward
  pub ordered-brought : (new : List LaidCell) (t : TextAt) → (get_or cells at d).text ≡ Some t → t.at ≤ last
      → ((first : List LaidCell) (c : LaidCell) (rest : List LaidCell) → cells ≡ first ++ c ∷ rest → length first ≡ at
      → new ≡ insert first (place_among (Some t) first) c ++ rest)
      → OrderedTo bytes new done (suc at) last
  ordered-brought new t is before brought =
      let text = text-is (Some t) is in
      ordered-put bytes cells done at last to next new last
      (brought to.first next.c next.others (there bytes cells done at last to next) to.many
      ∙ ap (λ (x : Option TextAt). insert to.first (place_among x to.first) next.c ++ next.others) (sym text))
      (omega arith)
      (begins-text next.s.is_text next.s.at next.s.rows last t (sym text ∙ next.is.text) before)

  -- one that begins behind all of them, and what is no text
  pub ordered-behind : (t : TextAt) → (get_or cells at d).text ≡ Some t → last < t.at → OrderedTo bytes cells done (suc at) t.at
  ordered-behind t is past =
      let text = text-is (Some t) is in
      ordered-stays bytes cells done at last to next t.at
      (ap (λ (x : Option TextAt). place_among x to.first) text ∙ last-among bytes last t to.first (in_order [] to.gone) to.drawn to.begin past)
      (omega (arith, past))
      (begins-text next.s.is_text next.s.at next.s.rows t.at t (sym text ∙ next.is.text) (omega arith))

  pub ordered-other : (get_or cells at d).text ≡ None → OrderedTo bytes cells done (suc at) last
  ordered-other is =
      let text = text-is None is in
      ordered-stays bytes cells done at last to next last
      (ap (λ (x : Option TextAt). place_among x to.first) text ∙ none-among to.first)
      (omega arith)
      (begins-none next.s.is_text next.s.at next.s.rows last (sym text ∙ next.is.text))

-- a step of that on a line
pub record OrderNext (old new : LineCells) (at last further : ℕ) : Type 0 where
  pub line : new ≡ record old { cells = new.cells }
  pub count : length new.cells.items ≡ length old.cells.items
  pub capacity : vec_capacity new.cells ≡ vec_capacity old.cells
  pub so_far : (bytes : List ℕ) (done : List Shown) → OrderedTo bytes old.cells.items done at last
      → OrderedTo bytes new.cells.items done (suc at) further

module _ (old new : LineCells) (at last : ℕ) (more : at < length old.cells.items) (d : LaidCell) (t : TextAt)
    (is : (get_or old.cells.items at d).text ≡ Some t) where
  pub order-brought : t.at ≤ last → new ≡ record old { cells = new.cells } → length new.cells.items ≡ length old.cells.items
      → vec_capacity new.cells ≡ vec_capacity old.cells
      → ((first : List LaidCell) (c : LaidCell) (rest : List LaidCell) → old.cells.items ≡ first ++ c ∷ rest → length first ≡ at
      → new.cells.items ≡ insert first (place_among (Some t) first) c ++ rest)
      → OrderNext old new at last last
  order-brought before line count capacity brought = record {
    line = line;
    count = count;
    capacity = capacity;
    so_far = λ bytes done to. ordered-brought bytes old.cells.items done at last to more d new.cells.items t is before brought;
  }

pub order-behind : (old : LineCells) (at last : ℕ) → at < length old.cells.items → (d : LaidCell) (t : TextAt)
    → (get_or old.cells.items at d).text ≡ Some t → last < t.at → OrderNext old old at last t.at
order-behind old at last more d t is past = record {
  line = refl;
  count = refl;
  capacity = refl;
  so_far = λ bytes done to. ordered-behind bytes old.cells.items done at last to more d t is past;
}

pub order-other : (old : LineCells) (at last : ℕ) → at < length old.cells.items → (d : LaidCell) → (get_or old.cells.items at d).text ≡ None
    → OrderNext old old at last last
order-other old at last more d is = record {
  line = refl;
  count = refl;
  capacity = refl;
  so_far = λ bytes done to. ordered-other bytes old.cells.items done at last to more d is;
}
