use Rattle.run_state.proofs.InForce.{last_width-in_force, settings-in_force}
use Rattle.read_names.proofs.known.facts.Goals as goal

pub returns : goal.returns
returns c = λ l h all stands. record {
  settings = settings-in_force l h c.args.composer.now stands;
  last_width = last_width-in_force l h c.args.composer.now stands;
  newlines = c.newlines.ensures;
  arguments = c.argument_count.ensures;
  pages = stands.pages;
}
