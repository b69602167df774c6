-- What is left of the bytes of a line.
use Rattle.std.specs.Prelude.{◌≡◌, ℕ, ◌+◌, ◌*◌, ◌%◌, ◌<◌, ◌^◌, List, ◌++◌, length, replicate}
use Rattle.page_bytes.specs.declared.line_bytes.LineBytes.TheInside.{Inside}
use Rattle.page_model.specs.Columns.{spaces, spread}

-- the columns that are spread over the gaps: those that each gap gets, and the rest
abbrev pub spare_columns : Inside → ℕ
spare_columns a = a.each * a.gaps + a.rest

-- the blanks that are owed, the rest of the text, and the newlines
abbrev pub bytes_left : Inside → List ℕ
bytes_left a = spaces a.blanks ++ (spread (spare_columns a) a.gaps a.passed a.text.now ++ replicate a.newlines 10)

-- the rest is smaller than the gaps are many, and what is over is the remainder of what the gaps that were
-- passed would get, were columns divided
pub record IsShared (a : Inside) : Type 0 where
  pub passed : a.passed + length a.text.now < 2 ^ 64
  pub spare : spare_columns a < 2 ^ 64
  pub rest : a.rest < a.gaps
  pub over : a.over ≡ a.passed * spare_columns a % a.gaps
