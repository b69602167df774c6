-- The longest front of a text that fits in so many columns (Lesk, "Tbl": Format, the key letter `z`).
use Rattle.std.specs.Prelude.{ℕ, ◌-◌, List, [], ◌∷◌, nat_lt, take, if◌then◌else◌}
use Rattle.tbl_text.specs.Items.{Item, columns, items}
use Rattle.tbl_text.specs.Measuring.{len_of}

-- items as far as they fit, whole: those without width behind the last one, too
abbrev pub fitting : ℕ → List Item → List Item
fitting room [] = []
fitting room (x ∷ items) = let own = columns x.what in if nat_lt room own then [] else x ∷ fitting (room - own) items

-- the bytes of a text as far as it fits, and how many they are
abbrev pub fitting_len : ℕ → List ℕ → ℕ
fitting_len room text = len_of (fitting room (items text))

abbrev pub fitting_text : ℕ → List ℕ → List ℕ
fitting_text room text = take (fitting_len room text) text
