-- The characters that `\(xx` prints, each with its text on a typewriter (manual, the table of special characters).
use Rattle.std.specs.Prelude.{ℕ, List, [], ◌∷◌, bytes_eq, codes, find, Option, option_map}
pub mod Coded

-- a character's name, and the bytes that are printed
pub record Character : Type 0 where
  pub name : List ℕ
  pub text : List ℕ

-- a row of the table
abbrev pub row : List ℕ → List ℕ → Character
row name text = record { name = name; text = text }

-- the table
abbrev pub characters : List Character
characters =
    row (codes "em") (codes "--")
    ∷ row (codes "en") (codes "-")
    ∷ row (codes "hy") (codes "-")
    ∷ row (codes "mi") (codes "-")
    ∷ row (codes "pl") (codes "+")
    ∷ row (codes "eq") (codes "=")
    ∷ row (codes "mu") (codes "x")
    ∷ row (codes "di") (codes "/")
    ∷ row (codes "sl") (codes "/")
    ∷ row (codes "+-") (codes "+-")
    ∷ row (codes "bu") (codes "*")
    ∷ row (codes "**") (codes "*")
    ∷ row (codes "sq") (codes "[]")
    ∷ row (codes "co") (codes "(C)")
    ∷ row (codes "rg") (codes "(R)")
    ∷ row (codes "tm") (codes "(TM)")
    ∷ row (codes "14") (codes "1/4")
    ∷ row (codes "12") (codes "1/2")
    ∷ row (codes "34") (codes "3/4")
    ∷ row (codes "fi") (codes "fi")
    ∷ row (codes "fl") (codes "fl")
    ∷ row (codes "ff") (codes "ff")
    ∷ row (codes "Fi") (codes "ffi")
    ∷ row (codes "Fl") (codes "ffl")
    ∷ row (codes "aq") (codes "'")
    ∷ row (codes "cq") (codes "'")
    ∷ row (codes "aa") (codes "'")
    ∷ row (codes "fm") (codes "'")
    ∷ row (codes "oq") (codes "`")
    ∷ row (codes "ga") (codes "`")
    ∷ row (codes "dq") (codes "\"")
    ∷ row (codes "lq") (codes "\"")
    ∷ row (codes "rq") (codes "\"")
    ∷ row (codes "rs") (codes "\\")
    ∷ row (codes "ba") (codes "|")
    ∷ row (codes "br") (codes "|")
    ∷ row (codes "or") (codes "|")
    ∷ row (codes "ul") (codes "_")
    ∷ row (codes "ru") (codes "_")
    ∷ row (codes "->") (codes "->")
    ∷ row (codes "<-") (codes "<-")
    ∷ row (codes "<=") (codes "<=")
    ∷ row (codes ">=") (codes ">=")
    ∷ row (codes "!=") (codes "!=")
    ∷ row (codes "==") (codes "==")
    ∷ row (codes "ap") (codes "~")
    ∷ row (codes "ti") (codes "~")
    ∷ row (codes "ha") (codes "^")
    ∷ row (codes "at") (codes "@")
    ∷ row (codes "sh") (codes "#")
    ∷ row (codes "Do") (codes "$")
    ∷ row (codes "de") (codes "deg")
    ∷ []

-- the text of a name, if it is one's
abbrev pub character : List ℕ → Option (List ℕ)
character name = option_map (λ row. row.text) (find (λ row. bytes_eq name row.name) characters)
