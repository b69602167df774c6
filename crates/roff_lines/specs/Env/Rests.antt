-- What an environment is once the line that it lent is given up.
use Rattle.std.specs.Prelude.{⊤}
use Rattle.std.specs.Borrow.{MutBor, Fml, follows_so}
use mathlib.Core.Option.{none}
use Rattle.roff_lines.specs.declared.env.Env.{Env}
use Rattle.roff_lines.specs.contracts.env.Env.{the_row}
use Rattle.page_model.specs.declared.event.Event.{Event}
use Rattle.roff_lines.specs.Env.Stands.{StandsBehind}

-- P holds of the environment then
abbrev pub Rests : MutBor Env → (Env → Type 0) → Fml
Rests s P = follows_so the_row the_row s.ghost_name none (λ _ _. ⊤) P

-- it stands for its history with one event more
abbrev pub RestsBehind : MutBor Env → Event → Fml
RestsBehind s e = Rests s (λ n. StandsBehind s.now e n)
