-- Number registers that are set and removed, by the arguments that are given.
use Rattle.std.proofs.Common.{◌≡◌, ℕ, ℤ, List, [], ◌∷◌, drop, slice_get, IfSome, Some, Result, arith, ap, sym, ◌∙◌}
use Rattle.std.proofs.lemmas.Bool.Decides.{nat_tests}
use Rattle.roff_num.specs.declared.num.Num.{Num}
use Rattle.roff_num.specs.declared.num.NumFault.{NumFault}
use Rattle.roff_num.specs.declared.num.Scale.TheVariants.{Units}
use Rattle.run_model.specs.Numbers.{value_beside}
use Rattle.run_model.specs.Registers.{Known, value_in_force}
use Rattle.read_requests.specs.Request.Coded.{register_named}
use Rattle.run_model.specs.Requests.Effects.{Response}
use Rattle.run_model.specs.Requests.Numbering.{if_named, increment_given, set_register, set_to}

-- an argument that has a byte gives a name
if_named-some : (c : ℕ) (text : List ℕ) (done : Response) → if_named (c ∷ text) done ≡ done
if_named-some c text done = grind (arith, nat_tests)

-- a register is set beside this value
abbrev pub setting_beside : Num → List ℕ → List ℕ → Result ℤ NumFault → Response
setting_beside in_force name text increment = set_to name (value_beside in_force.0 Units text) increment

-- of equal names, values in force and texts
setting_beside-same : (in_force known : Num) (name given text value : List ℕ) (increment : Result ℤ NumFault)
    → in_force ≡ known → name ≡ given → text ≡ value
    → setting_beside known given value increment ≡ setting_beside in_force name text increment
setting_beside-same in_force known name given text value increment by_known by_name by_text =
    ap (λ (v : Num). setting_beside v given value increment) (sym by_known)
    ∙ ap (λ (n : List ℕ). setting_beside in_force n value increment) (sym by_name)
    ∙ ap (λ (t : List ℕ). setting_beside in_force name t increment) (sym by_text)

-- a register that is named is set beside its value
pub set_register-named : (k : Known) (as_given : List (List ℕ)) (name text : List ℕ) (in_force : Num)
    → Some name ≡ register_named as_given → Some text ≡ slice_get as_given 1
    → IfSome (register_named as_given) (λ named. in_force ≡ (value_in_force k named))
    → set_register k as_given ≡ setting_beside in_force name text (increment_given (drop 2 as_given))
set_register-named k [] name text in_force named given known = cc
set_register-named k (first ∷ []) name text in_force named given known = cc
set_register-named k ([] ∷ second ∷ others) name text in_force named given known = cc
set_register-named k ((c ∷ []) ∷ second ∷ others) name text in_force named given known =
    setting_beside-same in_force (value_in_force k (c ∷ [])) name (c ∷ []) text second (increment_given others) known (cc) (cc)
set_register-named k ((c ∷ d ∷ rest) ∷ second ∷ others) name text in_force named given known =
    let in_force_now : Num = (value_in_force k (c ∷ d ∷ [])) in
    if_named-some c (d ∷ rest) (setting_beside in_force_now (c ∷ d ∷ []) second (increment_given others))
    ∙ setting_beside-same in_force in_force_now name (c ∷ d ∷ []) text second (increment_given others) known (cc) (cc)
