use Rattle.std.proofs.Common.{Option, false, sym, subst, arith}
use Rattle.tbl_layout.specs.declared.data_lines.RuleSign.{RuleSign}
use Rattle.tbl_lines.specs.PictureLines.{bar}
use Rattle.tbl_picture.specs.RuleMarks.{mark_behind}
use Rattle.tbl_picture.specs.RulesWalked.{bytes_at, mark_given}
use Rattle.tbl_pieces.specs.PieceQueue.{Adds}
use Rattle.tbl_pieces.proofs.Adding.{adds-fewer}
use Rattle.tbl_picture.proofs.walk.Walk.give_behind.Goals as goal

pub returns-in-Some-clause-adds : goal.returns-in-Some-clause-adds
returns-in-Some-clause-adds c = λ block frame.
    let a = c.args in
    subst (λ (s : Option RuleSign). Adds block frame 4 a.pieces.now c.give_ruled.new.pieces
    (mark_given (mark_behind s false a.from a.count a.at a.end) a.self.now.place)) (sym c.in-Some.is)
    (c.give_ruled.ensures.adds block frame)

pub returns-in-None-clause-adds : goal.returns-in-None-clause-adds
returns-in-None-clause-adds c = λ block frame.
    let a = c.args in
    subst (λ (s : Option RuleSign). Adds block frame 4 a.pieces.now c.give_mark.new.pieces
    (mark_given (mark_behind s false a.from a.count a.at a.end) a.self.now.place)) (sym c.in-None.is)
    (adds-fewer block frame 2 4 a.pieces.now c.give_mark.new.pieces (mark_given (bytes_at a.at bar a.count) a.self.now.place) (omega arith)
    (c.give_mark.ensures.adds block frame))
