use Rattle.std.proofs.Common.{◌≡◌, ℕ, ◌+◌, ◌≤◌, ◌++◌, List, [], drop, ap, refl, sym, subst, ◌∙◌, arith, append-nil}
use Rattle.tbl_kept.specs.TableText.{block_of}
use Rattle.tbl_giving.specs.Giving.{lines_left, with_newline}
use Rattle.tbl_pieces.specs.PieceQueue.{KeptPieces, bytes_left}
use Rattle.tbl_pieces.specs.Pieces.{AreWithin}
use Rattle.tbl_picture.specs.Walks.{KeptWalk}
use Rattle.tbl_giving.proofs.GivingLeft.{following-behind}
use Rattle.tbl_giving.proofs.giving.Giving.refill_plain.Goals as goal

pub invariant_of-self-then-not-is_some : goal.invariant_of-self-then-not-is_some
invariant_of-self-then-not-is_some c =
    let a = c.self-in-loop-self.inside in
    let inv = rw (← c.self-in-loop-self.view_is) at c.loop-self.invariant in
    let within : AreWithin c.block.result.now a.frame.items a.pieces.pieces = rw c.block.ensures inv.within in
    let ended = c.if-not-is_some.ensures.step a.frame.items within in
    let sound = c.self-in-loop-self.invariant in
    record {
      frame = sound.frame;
      end = sound.end;
      pieces = subst (λ (q : KeptPieces). 4 ≤ q.room) (sym ended.pieces) sound.pieces;
      lines = sound.lines ∙ sym (ap (λ (w : KeptWalk). w.room) ended.walk);
    }

pub add_end-requires : goal.add_end-requires
add_end-requires c =
    let a = c.self-in-loop-self.inside in
    let inv = rw (← c.self-in-loop-self.view_is) at c.loop-self.invariant in
    let within : AreWithin c.block.result.now a.frame.items a.pieces.pieces = rw c.block.ensures inv.within in
    let ended = c.if-not-is_some.ensures.step a.frame.items within in
    let room = c.loop-self-test.ensures.yes refl in
    record {
      room = subst (λ (q : KeptPieces). q.taken + 3 ≤ q.room) (sym ended.pieces) (omega (arith, room));
      within = subst (λ (q : KeptPieces). AreWithin (block_of c.args.text.now) a.frame.items q.pieces) (sym ended.pieces) inv.within;
    }

pub returns-then-not-is_some-clause-coming : goal.returns-then-not-is_some-clause-coming
returns-then-not-is_some-clause-coming c =
    let t = c.args.text.now in
    let block = block_of t in
    let a = c.self-in-loop-self.inside in
    let inv = rw (← c.self-in-loop-self.view_is) at c.loop-self.invariant in
    let within : AreWithin c.block.result.now a.frame.items a.pieces.pieces = rw c.block.ensures inv.within in
    let ended = c.if-not-is_some.ensures.step a.frame.items within in
    let none : lines_left t c.args.rows.now c.args.format.now a.walk ≡ [] = rw c.block.ensures at ended.none in
    let left = bytes_left block a.frame.items a.pieces in
    c.add_end.ensures.coming c.args.rows.now c.args.format.now
    ∙ ap (λ (q : KeptPieces). bytes_left block a.frame.items q ++ with_newline a.has_newline (drop a.frame_end a.frame.items ++ t.line)) ended.pieces
    ∙ following-behind t c.args.rows.now c.args.format.now c.self.view_is c.requires.lines c.requires.plain inv.newline inv.frame inv.frame_end
    (sym (append-nil left) ∙ ap (λ (bytes : List ℕ). left ++ bytes) (sym none) ∙ inv.lines)

pub returns-then-not-is_some-clause-can : goal.returns-then-not-is_some-clause-can
returns-then-not-is_some-clause-can c = c.add_end.ensures.can c.args.rows.now c.args.format.now

pub returns-then-not-is_some-clause-room : goal.returns-then-not-is_some-clause-room
returns-then-not-is_some-clause-room c =
    let a = c.self-in-loop-self.inside in
    let inv = rw (← c.self-in-loop-self.view_is) at c.loop-self.invariant in
    let within : AreWithin c.block.result.now a.frame.items a.pieces.pieces = rw c.block.ensures inv.within in
    let ended = c.if-not-is_some.ensures.step a.frame.items within in
    c.add_end.ensures.room ∙ ap (λ (w : KeptWalk). w.room) ended.walk ∙ inv.columns ∙ rw (← c.self.view_is) refl

pub loop-self-preserved : goal.loop-self-preserved
loop-self-preserved c =
    let a = c.self-in-loop-self.inside in
    let inv = rw (← c.self-in-loop-self.view_is) at c.loop-self.invariant in
    let within : AreWithin c.block.result.now a.frame.items a.pieces.pieces = rw c.block.ensures inv.within in
    let step = rw c.block.ensures at (c.if-not-is_some.ensures.step a.frame.items within) in
    record {
      rest = inv.rest;
      newline = inv.newline;
      plain = inv.plain;
      frame = inv.frame;
      frame_end = inv.frame_end;
      columns = step.room ∙ inv.columns;
      can = step.can;
      lines = step.same ∙ inv.lines;
      within = step.within;
      taken = omega (arith, step.grown, inv.taken);
      room = omega (arith, step.pieces_room, inv.room);
    }
