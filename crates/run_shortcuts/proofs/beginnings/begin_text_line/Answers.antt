use Rattle.std.proofs.Common.{false, ap, ◌∙◌}
use Rattle.run_model.specs.Reading.Ends.{due}
use Rattle.run_turns.proofs.ComingFurther.{comes_both, comes_further}
use Rattle.run_shortcuts.proofs.TextsBegun.{tells-more}
use Rattle.run_shortcuts.proofs.beginnings.begin_text_line.Goals as goal

pub returns-in-Named-clause-past : goal.returns-in-Named-clause-past
returns-in-Named-clause-past g c = λ out err.
    comes_both false (c.begin_text.ensures.past out err) (comes_further (c.take_named.ensures.further out err))

pub returns-in-Named-clause-none_half : goal.returns-in-Named-clause-none_half
returns-in-Named-clause-none_half g c = c.take_named.ensures.half ∙ c.begin_text.ensures.none_half

pub returns-in-Named-clause-none_due : goal.returns-in-Named-clause-none_due
returns-in-Named-clause-none_due g c =
    ap due c.take_named.ensures.reads ∙ c.begin_text.ensures.none_due

pub take_named-requires : goal.take_named-requires
take_named-requires g c = c.begin_text.ensures.prints c.in-Named.is

pub returns-in-Untold-clause-some : goal.returns-in-Untold-clause-some
returns-in-Untold-clause-some g c = λ stands none not_one. c.begin_text.ensures.some stands none c.in-Untold.is

pub returns-in-Named-clause-told : goal.returns-in-Named-clause-told
returns-in-Named-clause-told g c = λ stands none.
    tells-more _ c.args.run.now c.begin_text.new.run c.take_named.new.run (c.begin_text.ensures.told stands none) c.take_named.ensures.more
