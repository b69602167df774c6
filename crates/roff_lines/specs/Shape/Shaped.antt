-- The shape of a finished line.
use Rattle.std.specs.Prelude.{ℕ, List}
use Rattle.roff_lines.specs.declared.shape.Shape.{Shape}
use Rattle.page_model.specs.Lines.{Finished}

-- the line of a shape and a text
abbrev pub shaped : Shape → List ℕ → Finished
shaped s text = record { text = text; lead = s.lead; spare = s.spare; gaps = s.gaps; after = s.after }
