use Rattle.read_lines.proofs.reader.Reader.begins_with_break.Goals as goal

pub returns-clause-others : goal.returns-clause-others
returns-clause-others c = rw (← c.self.view_is) c.begins_with_break.ensures.others
