use Rattle.std.proofs.Common.{◌≡◌, ◌≢◌, ℕ, sym, ap, subst}
use Rattle.tbl_lines.specs.RowsWalked.{HasBars}
use Rattle.tbl_picture.specs.Walks.{KeptWalk, RowSteps, lent_row}
use Rattle.tbl_picture.proofs.FrontSteps.{front-stands, nothing-steps, stands-late}
use Rattle.tbl_picture.proofs.walk.Walk.give_front.Goals as goal

pub returns-in-Nothing : goal.returns-in-Nothing
returns-in-Nothing c = λ frame.
    let row = lent_row c.args.row.now in
    let w = c.args.self.now in
    let pieces = c.args.pieces.now in
    let here = front-stands c.requires.front c.front_at.ensures.at c.in-Nothing.is in
    subst (λ (k : KeptWalk). RowSteps frame row w k pieces pieces) (sym c.skip_front.ensures)
    (nothing-steps row w c.args.at c.requires.next frame pieces here)

pub give_bars-requires-clause-front : goal.give_bars-requires-clause-front
give_bars-requires-clause-front c = front-stands c.requires.front c.front_at.ensures.at c.in-Bars.is

pub give_bars-requires-clause-some : goal.give_bars-requires-clause-some
give_bars-requires-clause-some c = subst HasBars c.in-Bars.is c.front_at.ensures.some

pub give_crossing-requires-clause-front : goal.give_crossing-requires-clause-front
give_crossing-requires-clause-front c = front-stands c.requires.front c.front_at.ensures.at c.in-Crossed.is

pub give_crossing-requires-clause-some : goal.give_crossing-requires-clause-some
give_crossing-requires-clause-some c = subst HasBars c.in-Crossed.is c.front_at.ensures.some

pub give_bars-requires-else-self-eq0-clause-front : goal.give_bars-requires-else-self-eq0-clause-front
give_bars-requires-else-self-eq0-clause-front c =
    let w = c.args.self.now in
    let arm = c.in-Crossed in
    let some = subst HasBars arm.is c.front_at.ensures.some in
    let line_is : c.self.inside.line ≡ w.line = ap (λ (k : KeptWalk). k.line) c.self.view_is in
    stands-late (lent_row c.args.row.now) w c.args.at arm.place arm.bars arm.end arm.sign some (subst (λ (n : ℕ). n ≢ 0) line_is c.if-self-eq0.false)
    (front-stands c.requires.front c.front_at.ensures.at arm.is)

pub give_bars-requires-else-self-eq0-clause-some : goal.give_bars-requires-else-self-eq0-clause-some
give_bars-requires-else-self-eq0-clause-some c = subst HasBars c.in-Crossed.is c.front_at.ensures.some

pub give_ruled_front-requires-clause-front : goal.give_ruled_front-requires-clause-front
give_ruled_front-requires-clause-front c = front-stands c.requires.front c.front_at.ensures.at c.in-Ruled.is

pub give_ruled_front-requires-clause-some : goal.give_ruled_front-requires-clause-some
give_ruled_front-requires-clause-some c = subst HasBars c.in-Ruled.is c.front_at.ensures.some
