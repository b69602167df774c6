use Rattle.std.proofs.Common.{◌≡◌, ℕ, Bool, ◌+◌, ◌≤◌, ◌++◌, List, [], drop, ap, refl, sym, subst, ◌∙◌, arith, append-nil, append_assoc}
use Rattle.tbl_format.specs.RowsServed.{all_rows}
use Rattle.tbl_kept.specs.TableText.{block_of}
use Rattle.tbl_giving.specs.Giving.{lines_left_by, with_newline}
use Rattle.tbl_giving.specs.LinesWalked.{KeptLineByLine, lines_to_come}
use Rattle.tbl_pieces.specs.PieceQueue.{KeptPieces, bytes_left}
use Rattle.tbl_pieces.specs.Pieces.{AreWithin}
use Rattle.tbl_picture.specs.Walks.{KeptWalk}
use Rattle.tbl_giving.proofs.GivingLeft.{following-behind, following-lines, newline-append}
use Rattle.tbl_giving.proofs.LinesRefilled.{fewer-left, lines-on}
use Rattle.tbl_giving.proofs.giving.Giving.refill_tall.Goals as goal

pub invariant_of-self-then-not-is_some : goal.invariant_of-self-then-not-is_some
invariant_of-self-then-not-is_some c =
    let a = c.self-in-loop-self.inside in
    let ended = c.if-not-is_some.ensures.step a.frame.items in
    let sound = c.self-in-loop-self.invariant in
    record {
      frame = sound.frame;
      end = sound.end;
      pieces = subst (λ (q : KeptPieces). 4 ≤ q.room) (sym ended.pieces_same) sound.pieces;
      lines = ap (λ (g : KeptLineByLine). g.tall.room) ended.same ∙ sound.lines ∙ sym (ap (λ (w : KeptWalk). w.room) ended.walk);
    }

pub add_end-requires : goal.add_end-requires
add_end-requires c =
    let a = c.self-in-loop-self.inside in
    let inv = rw (← c.self-in-loop-self.view_is) at c.loop-self.invariant in
    let ended = c.if-not-is_some.ensures.step a.frame.items in
    let room = c.loop-self-test.ensures.yes refl in
    record {
      room = subst (λ (q : KeptPieces). q.taken + 3 ≤ q.room) (sym ended.pieces_same) (omega (arith, room));
      within = subst (λ (q : KeptPieces). AreWithin (block_of c.args.text.now) a.frame.items q.pieces) (sym ended.pieces_same) inv.within;
    }

pub returns-then-not-is_some-clause-coming : goal.returns-then-not-is_some-clause-coming
returns-then-not-is_some-clause-coming c =
    let t = c.args.text.now in
    let block = block_of t in
    let a = c.self-in-loop-self.inside in
    let inv = rw (← c.self-in-loop-self.view_is) at c.loop-self.invariant in
    let ended = c.if-not-is_some.ensures.step a.frame.items in
    let none : lines_to_come block (all_rows c.args.format.now.format) c.args.rows.now a.line_by_line a.walk ≡ [] = rw c.block.ensures at ended.none in
    let left = bytes_left block a.frame.items a.pieces in
    c.add_end.ensures.coming c.args.rows.now c.args.format.now
    ∙ ap (λ (q : KeptPieces). bytes_left block a.frame.items q ++ with_newline a.has_newline (drop a.frame_end a.frame.items ++ t.line)) ended.pieces_same
    ∙ following-behind t c.args.rows.now c.args.format.now c.self.view_is c.requires.lines c.requires.tall inv.newline inv.frame inv.frame_end
    (sym (append-nil left) ∙ ap (λ (bytes : List ℕ). left ++ bytes) (sym none) ∙ inv.lines)

pub returns-then-not-is_some-clause-can : goal.returns-then-not-is_some-clause-can
returns-then-not-is_some-clause-can c = c.add_end.ensures.can c.args.rows.now c.args.format.now

pub returns-then-not-is_some-clause-room : goal.returns-then-not-is_some-clause-room
returns-then-not-is_some-clause-room c =
    let a = c.self-in-loop-self.inside in
    let inv = rw (← c.self-in-loop-self.view_is) at c.loop-self.invariant in
    let ended = c.if-not-is_some.ensures.step a.frame.items in
    c.add_end.ensures.room ∙ ap (λ (w : KeptWalk). w.room) ended.walk ∙ inv.columns ∙ rw (← c.self.view_is) refl

pub loop-self-preserved : goal.loop-self-preserved
loop-self-preserved c =
    let a = c.self-in-loop-self.inside in
    let inv = rw (← c.self-in-loop-self.view_is) at c.loop-self.invariant in
    let step = rw c.block.ensures at (c.if-not-is_some.ensures.step a.frame.items) in
    record {
      rest = inv.rest;
      newline = inv.newline;
      tall = inv.tall;
      frame = inv.frame;
      frame_end = inv.frame_end;
      columns = step.room ∙ inv.columns;
      can = step.can;
      lines = lines-on step inv.within ∙ inv.lines;
      within = step.adds.adds.within inv.within;
      taken = omega (arith, step.adds.adds.grown, inv.taken);
      room = omega (arith, step.adds.adds.room, inv.room);
    }

pub loop-self-smaller : goal.loop-self-smaller
loop-self-smaller c =
    let step = rw c.block.ensures at (c.if-not-is_some.ensures.step c.self-in-loop-self.inside.frame.items) in
    rw (← c.self-in-loop-self.view_is) (fewer-left step (c.loop-self-test.ensures.yes refl))

pub step-is_some-requires-clause-can : goal.step-is_some-requires-clause-can
step-is_some-requires-clause-can c = rw c.block.ensures (rw (← c.self-in-loop-self.view_is) at c.loop-self.invariant).can

pub invariant_of-self-else-not-is_some : goal.invariant_of-self-else-not-is_some
invariant_of-self-else-not-is_some c =
    let a = c.self-in-loop-self.inside in
    let sound = c.self-in-loop-self.invariant in
    let step = c.if-not-is_some.ensures.step a.frame.items in
    record {
      frame = sound.frame;
      end = sound.end;
      pieces = omega (arith, sound.pieces, step.adds.adds.room);
      lines = step.own ∙ sound.lines ∙ sym step.room;
    }

pub returns-clause-coming : goal.returns-clause-coming
returns-clause-coming c =
    let t = c.args.text.now in
    let r = c.args.rows.now in
    let k = c.args.format.now in
    let m = c.loop-self.self in
    let inv = c.loop-self.invariant in
    let left = bytes_left (block_of t) m.frame m.pieces in
    let behind = drop m.frame_end m.frame ++ t.line in
    let lines = lines_to_come (block_of t) (all_rows k.format) r m.lines m.walk in
    ap (λ (rest : List ℕ). left ++ rest) (following-lines t r k m inv.rest
    ∙ ap (λ (is : Bool). with_newline m.has_newline (lines_left_by is t r k m.walk m.lines ++ behind)) inv.tall
    ∙ sym (newline-append m.has_newline lines behind))
    ∙ sym (append_assoc left lines (with_newline m.has_newline behind))
    ∙ following-behind t r k c.self.view_is c.requires.lines c.requires.tall inv.newline inv.frame inv.frame_end inv.lines
