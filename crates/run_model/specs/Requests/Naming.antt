-- Removing and renaming strings, macros and requests, and the macro that is read last (manual, section 7).
use Rattle.std.specs.Prelude.{ℕ, List, [], ◌∷◌, map}
use Rattle.roff_store.specs.TextCalls.{Call, Remove, Rename}
use Rattle.roff_num.specs.ShortNames.{name_at, name_or_none}
use Rattle.run_model.specs.Registers.{ReadLast}
use Rattle.run_model.specs.Requests.Effects.{Response, Ignored, changing, naming}
use Rattle.run_model.specs.Requests.Numbering.{if_named, name_given, names_given}

-- names go, one after another
abbrev pub removals : List (List ℕ) → List Call
removals names = map Remove names

-- `rm`: what names stand for goes, be it a string, a macro or a request
abbrev pub remove_names : List (List ℕ) → Response
remove_names as_given = naming (removals (names_given as_given))

-- `rn`: what a name stands for goes to another one, if both are given
abbrev pub rename : List (List ℕ) → Response
rename [] = Ignored []
rename (from ∷ []) = Ignored []
rename (from ∷ to ∷ others) = if_named from (if_named to (naming (Rename (name_given from) (name_given to) ∷ [])))

-- `em`: this is the macro that is read behind the input; without a name there is none
abbrev pub end_macro : List (List ℕ) → Response
end_macro as_given = changing (ReadLast (name_or_none (name_at 0 as_given)))
