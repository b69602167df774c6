use Rattle.std.proofs.Common.{ℕ, Option, Some, sym, subst}
use Rattle.tbl_lines.specs.PictureLines.{OfRules}
use Rattle.tbl_picture.specs.RulesWalked.{ShownThrough}
use Rattle.tbl_picture.specs.declared.walk.beside.Lengths.{Lengths}
use Rattle.tbl_picture.proofs.RulesShown.{row-above, rows-above}
use Rattle.tbl_picture.proofs.walk.beside.lengths_above.Goals as goal

pub returns-in-Some : goal.returns-in-Some
returns-in-Some c = λ boxing line seen format is through.
    let keys = c.args.keys in
    let at = c.args.at in
    let lengths = c.in-Some.lengths in
    subst (λ (n : ℕ). ShownThrough boxing (Some (record { nearest = keys; longest = n; last = at })) line (OfRules format seen)) (sym c.max.ensures)
    (rows-above boxing line seen format lengths keys at is (subst (λ (l : Option Lengths). ShownThrough boxing l line seen) c.in-Some.is through))

pub returns-in-None : goal.returns-in-None
returns-in-None c = λ boxing line seen format is through.
    row-above boxing line seen format c.args.keys c.args.at is (subst (λ (l : Option Lengths). ShownThrough boxing l line seen) c.in-None.is through)
