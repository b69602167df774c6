use Rattle.std.proofs.Common.{◌≡◌, ◌+◌, ◌∷◌, ◌<◌, subst, ap, arith}
use Rattle.input_ahead.specs.InputAhead.Kept.{AheadAndTexts}
use Rattle.input_model.specs.Input.{EndAhead}
use Rattle.roff_scan.specs.Unread.Calls.{PassesEnd}
use Rattle.roff_scan.specs.Unread.Kept.{kept_by}
use Rattle.roff_scan.proofs.TextEnds.{takes_end}
use Rattle.roff_scan.proofs.unread.Unread.pass_end.Goals as goal

pub returns-clause-passes : goal.returns-clause-passes
returns-clause-passes g c = λ did.
    let kept = kept_by c.self.inside in
    let new = c.pass_end.new.self in
    let taken : c.self.inside.input_ahead ≡ record new { ahead = EndAhead ∷ new.ahead } = c.pass_end.ensures.taken c.if-not-pass_end.false in
    let front : kept.input.ahead ≡ EndAhead ∷ new.ahead = ap (λ (f : AheadAndTexts _). f.ahead) taken in
    let room : kept.input.charge < kept.limits.bytes = omega (arith, c.self.invariant.within.charge) in
    subst (λ (f : AheadAndTexts _). PassesEnd c.args.self.now (record kept {
      input = record kept.input {
        ahead = new.ahead;
        charge = kept.input.charge + 1;
        names = f.texts.names.entries;
        open_texts = f.texts.open_texts;
      };
    })) taken
    (takes_end new.ahead kept c.args.self.now c.self.view_is front room)
