use Rattle.std.proofs.Common.{◌≡◌, ◌==◌, ◌+◌, false, [], ◌∷◌, length, ◌∙◌, arith}
use Rattle.std.proofs.lemmas.List.Elements.{All-cons, All-nil}
use Rattle.input_source.specs.Bytes.{newline}
use Rattle.tbl_table.proofs.TableFits.{push-fits}
use Rattle.tbl_table.proofs.table.Table.push.Goals as goal

pub invariant_of-self : goal.invariant_of-self
invariant_of-self c =
    let a = c.self.inside in
    let fits = c.self.invariant.parts in
    let room = rw (← c.self.view_is) at c.requires.room in
    let value = rw c.line.ensures at c.behind-self-inside.ensures.value in
    let few = rw c.line.ensures at c.behind-self-inside.ensures.few in
    record {
      parts = rw c.push.ensures
          (push-fits fits (c.args.byte ∷ []) c.behind-self-inside.result (omega (arith, room))
          (All-cons (λ b. (b == newline) ≡ false) c.args.byte [] c.requires.line (All-nil (λ b. (b == newline) ≡ false)))
          (value a.phase a.kept.format.format fits.keys.made fits.keys.is) (few (a.limits.columns + length a.text.line) fits.keys.few));
      giving = c.give_nothing.ensures.nothing.can c.push.new.self a.kept.rows a.kept.format;
      columns = c.give_nothing.ensures.room ∙ c.self.invariant.columns;
    }
