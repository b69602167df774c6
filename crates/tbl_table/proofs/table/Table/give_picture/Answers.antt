use Rattle.std.proofs.Common.{◌≡◌, ℕ, List, ◌++◌, sym, ap, ◌∙◌}
use Rattle.tbl_giving.specs.Frame.{indent, picture}
use Rattle.tbl_giving.specs.Giving.{with_newline}
use Rattle.tbl_table.specs.Kept.{table_of}
use Rattle.tbl_table.specs.Table.{laid_out}
use Rattle.tbl_table.proofs.PicturesGiven.{IsLaidHere, IsPlacedHere, can-give, can-tell, cut-fits, cuts-told, fits-bytes, given-fits, laid-here, lines-given, over-limit, width-is, within-limit}
use Rattle.tbl_table.proofs.table.Table.give_picture.Goals.{After-lay_out-laid, After-set_places}
use Rattle.tbl_table.proofs.table.Table.give_picture.Goals as goal

pub lay_out-laid-requires-clause-fits : goal.lay_out-laid-requires-clause-fits
lay_out-laid-requires-clause-fits c =
    let is = rw (← c.self.view_is) at c.requires.phase in
    let none = rw (← c.self.view_is) at c.requires.pending in
    let rests = rw (← c.self.view_is) at c.requires.begun in
    fits-bytes c.self.inside c.self.invariant.parts is none rests c.line_start.result c.block.result.now c.line_start.ensures.value c.block.ensures

here : (c : After-lay_out-laid) → IsLaidHere c.self.inside c.args.line_length c.of-bars.result c.lay_out-laid.new.kept c.lay_out-laid.result.width c.lay_out-laid.result.more
here c =
    let is = rw (← c.self.view_is) at c.requires.phase in
    let none = rw (← c.self.view_is) at c.requires.pending in
    let rests = rw (← c.self.view_is) at c.requires.begun in
    let laid = c.lay_out-laid.ensures in
    laid-here c.self.inside c.self.invariant.parts is none rests c.line_start.result c.block.result.now c.line_start.ensures.value c.block.ensures c.of-bars.ensures laid.laid laid.width laid.more

placed : (c : After-set_places) → IsPlacedHere c.self.inside.limits c.of-bars.result c.lay_out-laid.new.kept c.lay_out-laid.result.width c.lay_out-laid.result.more c.set_places.new.kept
placed c = record { few = c.if-laid-self.false; value = c.set_places.ensures.value; laid = c.set_places.ensures.laid }

pub invariant_of-self : goal.invariant_of-self
invariant_of-self c =
    let new = c.lay_out-laid.new.kept in
    record {
      parts = rw c.tell.ensures (cut-fits (here (goal.at.invariant_of-self c).After-lay_out-laid));
      giving = c.give_nothing.ensures.nothing.can c.self.inside.text new.rows new.format;
      columns = c.give_nothing.ensures.room ∙ c.self.invariant.columns;
    }

pub returns-then-laid-self-clause-answer : goal.returns-then-laid-self-clause-answer
returns-then-laid-self-clause-answer c =
    rw (← c.self.view_is) (sym (over-limit (here (goal.at.returns-then-laid-self-clause-answer c).After-lay_out-laid) c.if-laid-self.true))

pub tell_cut-requires : goal.tell_cut-requires
tell_cut-requires c =
    let w = goal.at.tell_cut-requires c in
    can-tell (here w.After-lay_out-laid) (placed w.After-set_places) c.self.inside.giving.columns c.self.invariant.columns

pub give_picture-requires : goal.give_picture-requires
give_picture-requires c =
    let w = goal.at.give_picture-requires c in
    can-give (here w.After-lay_out-laid) (placed w.After-set_places) c.args.number c.tell_cut.new.kept c.tell_cut.ensures.kept c.tell_cut.new.giving.columns
    (c.tell_cut.ensures.room ∙ c.self.invariant.columns)

pub invariant_of-self-2 : goal.invariant_of-self-2
invariant_of-self-2 c =
    let w = goal.at.invariant_of-self-2 c in
    record {
      parts = given-fits (here w.After-lay_out-laid) (placed w.After-set_places) c.args.number c.tell_cut.new.kept c.tell_cut.ensures.kept;
      giving = c.give_picture.ensures.can;
      columns = c.give_picture.ensures.room ∙ c.tell_cut.ensures.room ∙ c.self.invariant.columns;
    }

pub returns-clause-answer : goal.returns-clause-answer
returns-clause-answer c =
    rw (← c.self.view_is) (sym (within-limit (here (goal.at.returns-clause-answer c).After-lay_out-laid) c.if-laid-self.false))

pub returns-clause-told : goal.returns-clause-told
returns-clause-told c = λ met.
    let w = goal.at.returns-clause-told c in
    rw (← c.self.view_is) (cuts-told (here w.After-lay_out-laid) (placed w.After-set_places) c.args.number c.tell_cut.new.kept c.tell_cut.ensures.kept)

pub returns-clause-to_come : goal.returns-clause-to_come
returns-clause-to_come c =
    let w = goal.at.returns-clause-to_come c in
    let a = c.self.inside in
    let line_length = c.args.line_length in
    let t = table_of a.phase a.options a.text a.kept in
    let given = λ (n : ℕ) (ls : List ℕ). with_newline c.args.has_newline (picture n ls ++ a.text.line) in
    let lines_are = lines-given (here w.After-lay_out-laid) (placed w.After-set_places) c.args.number c.tell_cut.new.kept c.tell_cut.ensures.kept in
    let wide_is = width-is (here w.After-lay_out-laid) c.if-laid-self.false in
    let indent_is : c.indent.result ≡ indent a.options.centered line_length (laid_out line_length t).width =
    c.indent.ensures ∙ ap (λ (n : ℕ). indent a.options.centered line_length n) wide_is in
    rw (← c.self.view_is)
    (c.give_picture.ensures.coming ∙ (λ i. given (indent_is i) (lines_are i)))
