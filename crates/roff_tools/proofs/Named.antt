-- Parts that names stand for.
use Rattle.std.proofs.Common.{◌≡◌, ℕ, ◌+◌, ◌<◌, List, [], ◌∷◌, ◌++◌, map, take, drop, length, get_or, ap, sym, ◌∙◌, subst, take-append-drop}
use Rattle.std.proofs.lemmas.List.{drop_more, map-append, take_more}
use Rattle.std.specs.Borrow.{Bor}
use Rattle.cli_devices.specs.declared.inputs.Part.{Part}
use Rattle.cli_devices.specs.Inputs.Part.{AreNamed, IsNamed}
use Rattle.roff_tools.specs.StartFault.{NamesFile, NamesFirstRefused}
use Rattle.roff_tools.specs.declared.fault.StartFault.{StartFault}
use Rattle.roff_tools.specs.declared.fault.StartFault.TheVariants.{CannotOpen, BadPages, BadRegister, NotText, OutOfMemory}

-- one more name, and one more part that it stands for
AreNamed-push : {F S : Type 0} (opens : List ℕ → F → Type 0) (stands : S → Type 0) (names : List (List ℕ)) (parts : List (Part F S)) (name : List ℕ) (part : Part F S)
    → AreNamed opens stands names parts → IsNamed opens stands name part → AreNamed opens stands (names ++ name ∷ []) (parts ++ part ∷ [])
AreNamed-push opens stands [] [] name part are is = (is, tt)
AreNamed-push opens stands [] (p ∷ parts) name part are is = absurd are
AreNamed-push opens stands (n ∷ names) [] name part are is = absurd are
AreNamed-push opens stands (n ∷ names) (p ∷ parts) name part are is = (are.0, AreNamed-push opens stands names parts name part are.1 is)

-- the same of the next one of the names
pub AreNamed-next : {F S : Type 0} (opens : List ℕ → F → Type 0) (stands : S → Type 0) (names : List (Bor (List ℕ))) (i : ℕ) (d : Bor (List ℕ)) (parts parts' : List (Part F S)) (part : Part F S)
    → i < length names → parts' ≡ parts ++ part ∷ []
    → AreNamed opens stands (map (λ name. name.now) (take i names)) parts → IsNamed opens stands (get_or names i d).now part
    → AreNamed opens stands (map (λ name. name.now) (take (i + 1) names)) parts'
AreNamed-next opens stands names i d parts parts' part within pushed are is =
    rw (pushed, take_more names i d within, map-append (λ name. name.now) (take i names) (get_or names i d ∷ []))
    (AreNamed-push opens stands (map (λ name. name.now) (take i names)) parts (get_or names i d).now part are is)

-- one of the names, behind those in front of it and in front of the others
name_split : (names : List (Bor (List ℕ))) (i : ℕ) (d : Bor (List ℕ)) → i < length names
    → map (λ name. name.now) names ≡ map (λ name. name.now) (take i names) ++ (get_or names i d).now ∷ map (λ name. name.now) (drop (i + 1) names)
name_split names i d within =
    ap (map (λ name. name.now)) (sym (take-append-drop i names) ∙ ap (λ (rest : List (Bor (List ℕ))). take i names ++ rest) (drop_more names i d within))
    ∙ map-append (λ name. name.now) (take i names) (get_or names i d ∷ drop (i + 1) names)

-- the name that was refused behind names that stand for parts is the first one
pub first_refused : {F S : Type 0} (opens : List ℕ → F → Type 0) (refuses : List ℕ → Type 0) (stands : S → Type 0) (names : List (Bor (List ℕ))) (i : ℕ) (d : Bor (List ℕ))
    (parts : List (Part F S)) (fault : StartFault) → i < length names
    → AreNamed opens stands (map (λ name. name.now) (take i names)) parts → NamesFile refuses (get_or names i d).now fault
    → NamesFirstRefused opens refuses stands (map (λ name. name.now) names) fault
first_refused opens refuses stands names i d parts (CannotOpen s) within are refused = record {
  front = map (λ name. name.now) (take i names);
  back = map (λ name. name.now) (drop (i + 1) names);
  split = name_split names i d within
      ∙ ap (λ (name : List ℕ). map (λ name. name.now) (take i names) ++ name ∷ map (λ name. name.now) (drop (i + 1) names)) (sym refused.0);
  parts = parts;
  opened = are;
  refused = subst refuses (sym refused.0) refused.1;
}
first_refused opens refuses stands names i d parts (BadPages s) within are refused = absurd refused
first_refused opens refuses stands names i d parts (BadRegister s) within are refused = absurd refused
first_refused opens refuses stands names i d parts NotText within are refused = absurd refused
first_refused opens refuses stands names i d parts OutOfMemory within are refused = tt
