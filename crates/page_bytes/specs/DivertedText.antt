-- What is left of the bytes that one happening adds to the text of a diversion.
use Rattle.std.specs.Prelude.{ℕ, List, [], ◌++◌, replicate}
use Rattle.page_bytes.specs.declared.diverted_text.FirstLine.{FirstLine}
use Rattle.page_bytes.specs.declared.diverted_text.FirstLine.TheVariants.{OfLine, OfTitle, NoLine}
use Rattle.page_bytes.specs.declared.diverted_text.DivertedText.TheInside.{Inside}

-- what is left of a line, of a title, or of none
abbrev pub first_left : FirstLine → List ℕ
first_left (OfLine bytes) = bytes
first_left (OfTitle bytes) = bytes
first_left NoLine = []

-- that, and the newlines of blank lines
abbrev pub text_left : Inside → List ℕ
text_left a = first_left a.first ++ replicate a.newlines 10
