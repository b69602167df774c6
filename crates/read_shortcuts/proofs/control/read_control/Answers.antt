use Rattle.std.proofs.Common.{refl, sym, ap, ◌∙◌}
use Rattle.run_model.specs.Reading.ControlLines.{behind_called}
use Rattle.read_shortcuts.specs.Conditions.{ByOther}
use Rattle.read_shortcuts.proofs.ControlFronts.{ready-two}
use Rattle.read_shortcuts.proofs.ControlReads.{decided-read, dropped-read, nothing-read}
use Rattle.read_shortcuts.proofs.DroppedLines.{backslash-leads}
use Rattle.read_shortcuts.proofs.control.read_control.Goals as goal

pub drop_line-requires : goal.drop_line-requires
drop_line-requires g c =
    let front = c.args.front in
    backslash-leads front.breaks _ _ c.args.unread.now c.requires.none_due c.requires.begins c.requires.none_half
    (ready-two front.breaks front.first front.second _ c.args.unread.now c.if-front-eq92.true c.requires.ready)

pub returns-then-front-eq92-clause-read : goal.returns-then-front-eq92-clause-read
returns-then-front-eq92-clause-read g c =
    let line = c.drop_line in
    dropped-read g.S.ByteSource c.args.source.now line.new.source c.args.composer.now c.args.reader.now line.new.reader c.args.unread.now line.new.unread
    line.ensures.notes line.ensures.failures line.result c.dropped_to.result c.dropped_to.ensures line.ensures.taken line.ensures.past line.ensures.begun

pub returns-then-not-belongs_to_name-clause-read : goal.returns-then-not-belongs_to_name-clause-read
returns-then-not-belongs_to_name-clause-read g c = nothing-read _ _ _ _ _ _ refl refl

pub returns-then-not-belongs_to_name-2-clause-read : goal.returns-then-not-belongs_to_name-2-clause-read
returns-then-not-belongs_to_name-2-clause-read g c = nothing-read _ _ _ _ _ _ refl refl

pub read_behind_name-requires : goal.read_behind_name-requires
read_behind_name-requires g c = record {
  stands = c.requires.ready;
  begins = c.requires.begins;
  none_due = c.requires.none_due;
  none_half = c.requires.none_half;
  first = c.if-not-belongs_to_name.ensures.belongs refl;
  second = c.if-not-belongs_to_name-2.ensures.belongs refl;
  leads = λ i. sym (ap (behind_called i c.args.front.breaks) c.called_by.ensures) ∙ c.in-Some.ensures.leads i;
  ends = c.requires.ends;
}

pub take_other-requires : goal.take_other-requires
take_other-requires g c = record {
  stands = c.requires.ready;
  named = record {
    begins = c.requires.begins;
    none_due = c.requires.none_due;
    none_half = c.requires.none_half;
    named_first = c.if-not-belongs_to_name.ensures.belongs refl;
    named_second = c.if-not-belongs_to_name-2.ensures.belongs refl;
    leads = λ i. sym (ap (behind_called i c.args.front.breaks) c.called_by.ensures) ∙ c.behind_called.ensures.other c.in-None.is i;
  };
}

pub returns-in-None-clause-read : goal.returns-in-None-clause-read
returns-in-None-clause-read g c =
    let other = c.take_other in
    decided-read g.S.ByteSource c.args.source.now other.new.source c.args.composer.now c.args.reader.now other.new.reader c.args.unread.now other.new.unread
    other.ensures.notes other.ensures.failures other.ensures.taken (ByOther other.ensures.takes)
