use Rattle.std.proofs.Common.{sym, ◌∙◌}
use Rattle.run_model.specs.Output.{layout_of, text_of}
use Rattle.run_events.proofs.Telling.{short_enough, stand-glyph}
use Rattle.run_events.proofs.formatter.Formatter.tell_glyph.Goals as goal

pub returns-in-Ok-clause-told : goal.returns-in-Ok-clause-told
returns-in-Ok-clause-told c = λ told. record {
  takes = λ l h stood. sym (c.takes_text.ensures (layout_of h) stood.pages) ∙ c.if-not-takes_text.false;
  within = λ l h stood. short_enough c.glyph.result _ l.line _ c.in-Ok.is (c.glyph.ensures.limit l.line (text_of h) stood.environments.in_force.lines);
  stands = λ l h stood. stand-glyph l c.args.glyph h c.args.self.now.composer c.glyph.new.self stood
      (c.in-Ok.ensures.stands l.line (text_of h) stood.environments.in_force.lines);
}
