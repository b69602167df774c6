use Rattle.std.proofs.Common.{◌≡◌, ◌+◌, ◌-◌, [], ◌∷◌, ◌++◌, drop, refl, sym, ap, subst, ◌∙◌, arith}
use Rattle.input_source.specs.Bytes.{newline}
use Rattle.tbl_format.specs.RowsServed.{all_rows}
use Rattle.tbl_picture.specs.ElementsWalked.{FirstFits}
use Rattle.tbl_picture.specs.RulesWalked.{LineEnded, RuleLies, RuleStands, bytes_at, mark_given, place_behind}
use Rattle.tbl_picture.specs.Walks.{KeptWalk}
use Rattle.tbl_pieces.specs.PieceQueue.{Adds}
use Rattle.tbl_pieces.proofs.Adding.{adds-fewer, adds-more}
use Rattle.tbl_picture.proofs.RuleSteps.{ends-with, lies-at, stands-at}
use Rattle.tbl_picture.proofs.walk.Walk.end_rule.Goals as goal

pub add-requires : goal.add-requires
add-requires c = let adds = c.give_mark.ensures.adds [] [] in omega (arith, adds.few, adds.room, c.requires.room)

pub go_behind_rule-requires-clause-lies : goal.go_behind_rule-requires-clause-lies
go_behind_rule-requires-clause-lies c =
    let formats = all_rows c.args.format.now.format in
    let rows = c.args.rows.now in
    let rule = c.args.rule in
    let w = c.args.self.now in
    let place = place_behind (bytes_at c.saturating_sub-at.result c.edge_byte.result rule.right) w.place in
    subst (λ (k : KeptWalk). RuleLies formats rows rule k (drop k.element rows.elements)) (sym c.give_mark.ensures.walk)
    (lies-at formats rows rule place w.next w (drop w.element rows.elements) c.requires.lies)

pub go_behind_rule-requires-clause-fits : goal.go_behind_rule-requires-clause-fits
go_behind_rule-requires-clause-fits c =
    let formats = all_rows c.args.format.now.format in
    let rows = c.args.rows.now in
    subst (λ (k : KeptWalk). FirstFits k.room formats (drop k.element rows.elements)) (sym c.give_mark.ensures.walk) c.requires.fits

pub returns : goal.returns
returns c = λ bytes frame stands.
    let formats = all_rows c.args.format.now.format in
    let rows = c.args.rows.now in
    let rule = c.args.rule in
    let w = c.args.self.now in
    let right = rule.right in
    let at = c.saturating_sub-at.result in
    let byte = c.edge_byte.result in
    let before = c.args.pieces.now in
    let between = c.give_mark.new.pieces in
    let after = c.add.new.self in
    let new = c.go_behind_rule.new.self in
    let mark = mark_given (bytes_at at byte right) w.place in
    let place = place_behind (bytes_at at byte right) w.place in
    let walk = c.give_mark.ensures.walk in
    let at_is : at ≡ w.picture_width - right = c.saturating_sub-at.ensures ∙ ap (λ (k : KeptWalk). k.picture_width - right) c.self.view_is in
    let same = ends-with bytes frame formats rows rule w before after at right byte at_is refl (c.edge_byte.ensures formats) c.requires.all c.requires.lies in
    let adds = adds-fewer bytes frame (2 + 1) 4 before after (mark ++ newline ∷ []) (omega arith)
    (adds-more bytes frame 2 1 before between after mark (newline ∷ []) (c.give_mark.ensures.adds bytes frame) (c.add.ensures.adds bytes frame refl)) in
    let stands_in = subst (λ (k : KeptWalk). RuleStands bytes formats rows rule k (drop k.element rows.elements)) (sym walk)
    (stands-at bytes formats rows rule place w.next w (drop w.element rows.elements) stands) in
    record {
      adds = subst (Adds bytes frame 4 before after) same adds;
      all = omega (arith, c.requires.all, c.requires.lies.column);
      place = place;
      walk = subst (λ (k : KeptWalk). LineEnded rule.line bytes formats rows rule k new) walk (c.go_behind_rule.ensures bytes stands_in);
    }
