-- The names that some arguments give, and the next one.
use Rattle.std.proofs.Common.{◌≡◌, ℕ, zero, suc, List, [], ◌∷◌, ◌++◌, map, take, slice_get, Some, None, refl, ap, ◌∙◌, filter}
use Rattle.std.proofs.lemmas.List.{map-append}
use Rattle.std.proofs.lemmas.List.Elements.{filter-append}
use Rattle.roff_num.specs.Names.{name_of}
use Rattle.input_model.specs.Arguments.{has_byte}
use Rattle.run_model.specs.Requests.Numbering.{name_given, names_given}

-- some texts and the next one
take_next : {A : Type 0} (n : ℕ) (texts : List A) (text : A) → slice_get texts n ≡ Some text → take (suc n) texts ≡ take n texts ++ text ∷ []
take_next n [] text is = cc
take_next zero (first ∷ texts) text is = cc
take_next (suc n) (first ∷ texts) text is = ap (λ rest. first ∷ rest) (take_next n texts text is)

-- behind the last
pub take_past : {A : Type 0} (n : ℕ) (texts : List A) → slice_get texts n ≡ None → take (suc n) texts ≡ take n texts
take_past zero [] is = refl
take_past (suc n) [] is = refl
take_past zero (first ∷ texts) is = cc
take_past (suc n) (first ∷ texts) is = ap (λ rest. first ∷ rest) (take_past n texts is)

-- a text gives a name, or none
pub named_by : (text name : List ℕ) → name_of (name_given text) ≡ Some name → names_given (text ∷ []) ≡ name ∷ []
named_by [] name is = cc
named_by (b ∷ []) name is = cc
named_by (b ∷ c ∷ text) name is = cc

pub not_named : (text : List ℕ) → name_of (name_given text) ≡ None → names_given (text ∷ []) ≡ []
not_named [] is = refl
not_named (b ∷ []) is = cc
not_named (b ∷ c ∷ text) is = cc

names_given-append : (texts others : List (List ℕ)) → names_given (texts ++ others) ≡ names_given texts ++ names_given others
names_given-append texts others =
    ap (map name_given) (filter-append has_byte texts others) ∙ map-append name_given (filter has_byte texts) (filter has_byte others)

pub names_given-next : (n : ℕ) (texts : List (List ℕ)) (text : List ℕ) → slice_get texts n ≡ Some text
    → names_given (take (suc n) texts) ≡ names_given (take n texts) ++ names_given (text ∷ [])
names_given-next n texts text is = ap names_given (take_next n texts text is) ∙ names_given-append (take n texts) (text ∷ [])
