-- What lines write, behind any history.
use Rattle.std.specs.Prelude.{ℕ, not, List, map, Option, option_map, ◌==◌}
use Rattle.std.specs.List.{take_while}
use Rattle.page_model.specs.declared.event.Event.TheVariants.{Break}
use Rattle.page_model.specs.Events.{History}
use Rattle.page_model.specs.Columns.{line_bytes}
use Rattle.page_model.specs.Behind.{finished, finished_lines}

-- what a break writes, if it finishes a line
abbrev pub written_by_break : History → Option (List ℕ)
written_by_break h = option_map line_bytes (finished h Break)

-- what the lines that a history finishes write, without their newlines and blank lines
abbrev pub lines_written : History → List (List ℕ)
lines_written h = map (λ line. take_while (λ b. not (b == 10)) (line_bytes line)) (finished_lines h)
