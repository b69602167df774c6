use Rattle.std.proofs.Common.{◌≡◌, ◌∷◌, ◌<◌, subst, ap}
use Rattle.input_source.specs.Bytes.{newline}
use Rattle.input_ahead.specs.InputAhead.Kept.{AheadAndTexts}
use Rattle.input_model.specs.Input.{ByteAhead}
use Rattle.roff_scan.specs.Unread.Calls.{PassesNewline}
use Rattle.roff_scan.specs.Unread.Kept.{kept_by}
use Rattle.roff_scan.proofs.Newlines.{takes_newline}
use Rattle.roff_scan.proofs.PassingAhead.{behind_bytes}
use Rattle.roff_scan.proofs.unread.Unread.pass_newline_ahead.Goals as goal

pub returns-clause-passes : goal.returns-clause-passes
returns-clause-passes g c = λ did.
    let kept = kept_by c.self.inside in
    let new = c.pass_newline.new.self in
    let taken : c.self.inside.input_ahead ≡ record new { ahead = ByteAhead newline ∷ new.ahead } = c.pass_newline.ensures.taken c.if-not-pass_newline.false in
    let front : kept.input.ahead ≡ ByteAhead newline ∷ new.ahead = ap (λ (f : AheadAndTexts _). f.ahead) taken in
    let room : kept.input.charge < kept.limits.bytes = rw (← c.self.view_is) at c.requires.room in
    subst (λ (f : AheadAndTexts _). PassesNewline c.args.self.now (record kept {
      input = record (behind_bytes 1 new.ahead kept.input) {
        names = f.texts.names.entries;
        open_texts = f.texts.open_texts;
      };
    })) taken
    (takes_newline new.ahead kept c.args.self.now c.self.view_is front room)
