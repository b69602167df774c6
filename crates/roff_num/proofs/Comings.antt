-- What an expression that is being read comes to, step by step.
use Rattle.std.proofs.Common.{◌≡◌, ℕ, suc, ◌+◌, ◌-◌, ◌<◌, ◌≤◌, Bool, true, false, cond, List, [], ◌∷◌, ◌++◌, length, drop, reverse, refl, ap, sym, subst, ◌∙◌, arith, inl, inr, Ok, Err, Some, None, length-append, ℤ, ◌-ℤ◌, Result, Option, OnOk, nat_lt, drop-drop}
use Rattle.std.proofs.lemmas.Bool.{cases_lt}
use Rattle.std.proofs.lemmas.Bool.Decides.{nat_tests}
use Rattle.std.proofs.lemmas.List.{reverse-append}
use Rattle.roff_num.specs.declared.expression.Frame.{Frame}
use Rattle.roff_num.specs.declared.expression.Next.{Next}
use Rattle.roff_num.specs.declared.expression.Next.TheVariants.{Opened, Operand}
use Rattle.roff_num.specs.declared.expression.Opening.{Opening}
use Rattle.roff_num.specs.declared.expression.Opening.TheVariants.{Parenthesis, Bar}
use Rattle.roff_num.specs.declared.expression.Reading.{Reading}
use Rattle.roff_num.specs.declared.num.NumFault.{NumFault}
use Rattle.roff_num.specs.declared.num.NumFault.TheVariants.{Missing}
use Rattle.roff_num.specs.declared.num.Scale.{Scale}
use Rattle.roff_num.specs.declared.operator.Operator.{Operator}
use Rattle.roff_num.specs.Expressions.{closed_behind, expression_of, folded_onto, operand_within, past, sign_at, unsigned_of}
use Rattle.roff_num.specs.Reading.Frames.{combined, come_to, entered, folded_from, held_value, left_behind, outcome_of, outcome_opened, outcome_stepped, unheld}
use Rattle.roff_num.specs.Numerals.{numeral_at}
use Rattle.roff_num.specs.Operators.{applied, begins_with, operator_at}
use Rattle.roff_num.specs.Ranges.{in_range, signed}
use Rattle.roff_num.specs.Steps.{followed}
use Rattle.roff_num.proofs.Folds.{folded_onto-drop, folded_from-none, folded_from-some, past-past}
use Rattle.roff_num.proofs.Openings.{unsigned_of-bar, unsigned_of-no_place, unsigned_of-numeral, unsigned_of-parenthesis}

-- steps behind a step that has two of its own
folded_steps : (operand : ℤ → ℕ → Result (ℤ × ℕ) NumFault) (o : Operator) (value : ℤ) (first second : ℤ × ℕ → Result (ℤ × ℕ) NumFault) (x : Result (ℤ × ℕ) NumFault)
    → followed x (λ r. followed (applied o value r.0) (λ v. followed (followed (operand v r.1) first) second))
    ≡ followed (followed (followed x (λ r. followed (applied o value r.0) (λ v. operand v r.1))) first) second
folded_steps operand o value first second (Ok r) = by_value (applied o value r.0)
  where
    by_value : (y : Result ℤ NumFault) → followed y (λ v. followed (followed (operand v r.1) first) second) ≡ followed (followed (followed y (λ v. operand v r.1)) first) second
    by_value (Ok v) = refl
    by_value (Err e) = refl
folded_steps operand o value first second (Err e) = refl

-- an operator behind a value that no operand holds
pub come_to-operator : (text : List ℕ) (scale : Scale) (place : Option ℤ) (levels : ℕ) (value : ℤ) (at behind : ℕ) (o : Operator) (k : ℕ)
    → operator_at (drop at text) ≡ Some (o, k) → behind ≡ at + (1 + k)
    → followed (past behind (operand_within scale place levels (drop behind text))) (λ r. followed (applied o value r.0) (λ v. come_to text scale place levels [] v r.1))
    ≡ come_to text scale place levels [] value at
unfolding come_to
come_to-operator text scale place levels value at behind o k found e = sym (folded_from-some text (operand_within scale place levels) value at behind o k found e)

-- the end behind it
pub come_to-end : (text : List ℕ) (scale : Scale) (place : Option ℤ) (levels : ℕ) (value : ℤ) (at : ℕ)
    → operator_at (drop at text) ≡ None → Ok (value, at) ≡ come_to text scale place levels [] value at
unfolding come_to
come_to-end text scale place levels value at found = sym (folded_from-none text (operand_within scale place levels) value at found)

-- an operator behind a value in parentheses
come_to-parenthesis_operator : (text : List ℕ) (scale : Scale) (place : Option ℤ) (levels : ℕ) (pending : Option (Operator × ℤ)) (is_negative : Bool) (frames : List Frame) (value : ℤ) (at behind : ℕ) (o : Operator) (k : ℕ)
    → operator_at (drop at text) ≡ Some (o, k) → behind ≡ at + (1 + k)
    → followed (past behind (operand_within scale place levels (drop behind text)))
    (λ r. followed (applied o value r.0) (λ v. come_to text scale place levels (record { pending = pending; negative = is_negative; opening = Parenthesis } ∷ frames) v r.1))
    ≡ come_to text scale place levels (record { pending = pending; negative = is_negative; opening = Parenthesis } ∷ frames) value at
unfolding come_to
come_to-parenthesis_operator text scale place levels pending is_negative frames value at behind o k found e =
    folded_steps (folded_from text (operand_within scale place levels)) o value
    (λ r. past r.1 (closed_behind is_negative r.0 (drop r.1 text)))
    (λ r. followed (combined pending r.0) (λ v. come_to text scale place (suc levels) frames v r.1))
    (past behind (operand_within scale place levels (drop behind text)))
    ∙ ap (λ x. followed (followed x (λ r. past r.1 (closed_behind is_negative r.0 (drop r.1 text)))) (λ r. followed (combined pending r.0) (λ v. come_to text scale place (suc levels) frames v r.1)))
    (sym (folded_from-some text (operand_within scale place levels) value at behind o k found e))

pub come_to-operator_within : (text : List ℕ) (scale : Scale) (place : Option ℤ) (levels : ℕ) (f : Frame) (frames : List Frame) (value : ℤ) (at behind : ℕ) (o : Operator) (k : ℕ)
    → f.opening ≡ Parenthesis → operator_at (drop at text) ≡ Some (o, k) → behind ≡ at + (1 + k)
    → followed (past behind (operand_within scale place levels (drop behind text))) (λ r. followed (applied o value r.0) (λ v. come_to text scale place levels (f ∷ frames) v r.1))
    ≡ come_to text scale place levels (f ∷ frames) value at
come_to-operator_within text scale place levels f frames value at behind o k opened found e =
    let P : Opening → Type 0 = λ opening.
    followed (past behind (operand_within scale place levels (drop behind text)))
    (λ r. followed (applied o value r.0) (λ v. come_to text scale place levels (record { pending = f.pending; negative = f.negative; opening = opening } ∷ frames) v r.1))
    ≡ come_to text scale place levels (record { pending = f.pending; negative = f.negative; opening = opening } ∷ frames) value at in
    subst P (sym opened) (come_to-parenthesis_operator text scale place levels f.pending f.negative frames value at behind o k found e)

-- behind a value in parentheses without an operator stands a `)`, or there is a fault
held_value-end : (text : List ℕ) (operand : List ℕ → Result (ℤ × ℕ) NumFault) (opening : Opening) (is_negative : Bool) (value : ℤ) (at : ℕ)
    → opening ≡ Parenthesis → operator_at (drop at text) ≡ None
    → held_value text operand opening is_negative value at ≡ past at (closed_behind is_negative value (drop at text))
held_value-end text operand opening is_negative value at opened found =
    ap (λ o. held_value text operand o is_negative value at) opened
    ∙ ap (λ x. followed x (λ r. past r.1 (closed_behind is_negative r.0 (drop r.1 text)))) (folded_from-none text operand value at found)

-- a value that ends an operand at a place
ended_at : (at taken : ℕ) (next : ℤ × ℕ → Result (ℤ × ℕ) NumFault) (x : Result ℤ NumFault)
    → followed (past at (followed x (λ v. Ok (v, taken)))) next ≡ followed x (λ v. next (v, at + taken))
ended_at at taken next (Ok v) = refl
ended_at at taken next (Err e) = refl

-- the `)` behind a value in parentheses
pub come_to-closed : (text : List ℕ) (scale : Scale) (place : Option ℤ) (levels : ℕ) (f : Frame) (frames : List Frame) (value : ℤ) (at : ℕ)
    → f.opening ≡ Parenthesis → operator_at (drop at text) ≡ None → begins_with 41 (drop at text) ≡ true
    → followed (in_range (signed f.negative value)) (λ v. followed (combined f.pending v) (λ w. come_to text scale place (suc levels) frames w (at + 1)))
    ≡ come_to text scale place levels (f ∷ frames) value at
unfolding come_to
come_to-closed text scale place levels f frames value at opened found closed =
    let next : ℤ × ℕ → Result (ℤ × ℕ) NumFault = λ r. followed (combined f.pending r.0) (λ v. come_to text scale place (suc levels) frames v r.1) in
    let ended : closed_behind f.negative value (drop at text) ≡ followed (in_range (signed f.negative value)) (λ v. Ok (v, 1)) = rw closed refl in
    sym (ap (λ x. followed x next) (held_value-end text (operand_within scale place levels) f.opening f.negative value at opened found ∙ ap (past at) ended)
    ∙ ended_at at 1 next (in_range (signed f.negative value)))

-- no `)` behind it
pub come_to-not_closed : (text : List ℕ) (scale : Scale) (place : Option ℤ) (levels : ℕ) (f : Frame) (frames : List Frame) (value : ℤ) (at : ℕ)
    → f.opening ≡ Parenthesis → operator_at (drop at text) ≡ None → begins_with 41 (drop at text) ≡ false
    → Err Missing ≡ come_to text scale place levels (f ∷ frames) value at
unfolding come_to
come_to-not_closed text scale place levels f frames value at opened found closed =
    let next : ℤ × ℕ → Result (ℤ × ℕ) NumFault = λ r. followed (combined f.pending r.0) (λ v. come_to text scale place (suc levels) frames v r.1) in
    let missing : closed_behind f.negative value (drop at text) ≡ Err Missing = rw closed refl in
    sym (ap (λ x. followed x next) (held_value-end text (operand_within scale place levels) f.opening f.negative value at opened found ∙ ap (past at) missing))

-- a distance: its operand has a value
pub come_to-bar : (text : List ℕ) (scale : Scale) (place : Option ℤ) (levels : ℕ) (f : Frame) (frames : List Frame) (value from : ℤ) (at : ℕ)
    → f.opening ≡ Bar from
    → followed (in_range (signed f.negative (value -ℤ from))) (λ v. followed (combined f.pending v) (λ w. come_to text scale place (suc levels) frames w at))
    ≡ come_to text scale place levels (f ∷ frames) value at
unfolding come_to
come_to-bar text scale place levels f frames value from at opened =
    let next : ℤ × ℕ → Result (ℤ × ℕ) NumFault = λ r. followed (combined f.pending r.0) (λ v. come_to text scale place (suc levels) frames v r.1) in
    sym (ap (λ o. followed (held_value text (operand_within scale place levels) o f.negative value at) next) opened
    ∙ by_value next (in_range (signed f.negative (value -ℤ from))))
  where
    by_value : (next : ℤ × ℕ → Result (ℤ × ℕ) NumFault) (x : Result ℤ NumFault) → followed (followed x (λ v. Ok (v, at))) next ≡ followed x (λ v. next (v, at))
    by_value next (Ok v) = refl
    by_value next (Err e) = refl

-- a reading that leaves an operand comes to what the operand's value does
pub outcome_stepped-left : (text : List ℕ) (scale : Scale) (place : Option ℤ) (f : Frame) (at levels : ℕ) (old new : Reading) (result : Result Next NumFault) (x : Result ℤ NumFault)
    → result ≡ followed x (λ v. Ok (Operand v)) → OnOk result (new ≡ left_behind f at old) → levels ≡ 33 - length old.frames.items
    → outcome_stepped text scale place new result
    ≡ followed x (λ v. followed (combined f.pending v) (λ w. come_to text scale place levels (reverse old.frames.items) w at))
outcome_stepped-left text scale place f at levels old new result (Ok v) e left l =
    let stands : new ≡ left_behind f at old = rw e at left in
    ap (outcome_stepped text scale place new) e
    ∙ (ap (λ r. outcome_stepped text scale place r (Ok (Operand v))) stands
    ∙ ap (λ n. followed (combined f.pending v) (λ w. come_to text scale place n (reverse old.frames.items) w at)) (sym l))
outcome_stepped-left text scale place f at levels old new result (Err fault) e left l = ap (outcome_stepped text scale place new) e

-- a frame at the end of the frames is the innermost one
pub reverse-innermost : (frames : List Frame) (f : Frame) → reverse (frames ++ f ∷ []) ≡ f ∷ reverse frames
reverse-innermost frames f = reverse-append frames (f ∷ [])

-- what an opened operand comes to, with the levels and the frames under other names
outcome_opened-named : (text : List ℕ) (scale : Scale) (place : Option ℤ) (at : ℕ) (pending : Option (Operator × ℤ)) (items frames : List Frame) (levels : ℕ)
    → levels ≡ 33 - length items → frames ≡ reverse items
    → outcome_opened text scale place (record { at = at; pending = pending; frames = record { items = items } })
    ≡ followed (past at (operand_within scale place levels (drop at text))) (λ r. followed (combined pending r.0) (λ v. come_to text scale place levels frames v r.1))
outcome_opened-named text scale place at pending items frames levels l f =
    ap (λ n. followed (past at (operand_within scale place n (drop at text))) (λ r. followed (combined pending r.0) (λ v. come_to text scale place n (reverse items) v r.1))) (sym l)
    ∙ ap (λ fs. followed (past at (operand_within scale place levels (drop at text))) (λ r. followed (combined pending r.0) (λ v. come_to text scale place levels fs v r.1))) (sym f)

-- an operator behind a value in parentheses, of a reading
pub outcome_opened-operator : (text : List ℕ) (scale : Scale) (place : Option ℤ) (levels : ℕ) (f : Frame) (items more : List Frame) (value : ℤ) (at behind : ℕ) (o : Operator) (k : ℕ)
    → f.opening ≡ Parenthesis → operator_at (drop at text) ≡ Some (o, k) → behind ≡ at + (1 + k) → more ≡ items ++ f ∷ [] → levels ≡ 33 - length more
    → outcome_opened text scale place (record { at = behind; pending = Some (o, value); frames = record { items = more } })
    ≡ come_to text scale place levels (f ∷ reverse items) value at
outcome_opened-operator text scale place levels f items more value at behind o k opened found e m l =
    let innermost : f ∷ reverse items ≡ reverse more = sym (ap reverse m ∙ reverse-innermost items f) in
    outcome_opened-named text scale place behind (Some (o, value)) more (f ∷ reverse items) levels l innermost
    ∙ come_to-operator_within text scale place levels f (reverse items) value at behind o k opened found e

-- an operand that is read next, behind its sign
pub outcome_opened-unsigned : (text : List ℕ) (scale : Scale) (place : Option ℤ) (reading : Reading) (n at : ℕ) (sign : Bool × ℕ)
    → suc n ≡ 33 - length reading.frames.items → sign ≡ sign_at (drop reading.at text) → at ≡ reading.at + sign.1
    → outcome_opened text scale place reading
    ≡ followed (past at (unsigned_of scale place (operand_within scale place n) sign.0 (drop at text)))
    (λ r. followed (combined reading.pending r.0) (λ v. come_to text scale place (suc n) (reverse reading.frames.items) v r.1))
unfolding operand_within
outcome_opened-unsigned text scale place reading n at sign l s e =
    let next : ℤ × ℕ → Result (ℤ × ℕ) NumFault = λ r. followed (combined reading.pending r.0) (λ v. come_to text scale place (suc n) (reverse reading.frames.items) v r.1) in
    let unsigned : Bool × ℕ → List ℕ → Result (ℤ × ℕ) NumFault = λ g. unsigned_of scale place (operand_within scale place n) g.0 in
    outcome_opened-named text scale place reading.at reading.pending reading.frames.items (reverse reading.frames.items) (suc n) l refl
    ∙ (ap (λ g. followed (past reading.at (past g.1 (unsigned g (drop g.1 (drop reading.at text))))) next) (sym s)
    ∙ (ap (λ x. followed x next) (past-past reading.at sign.1 (unsigned sign (drop sign.1 (drop reading.at text))))
    ∙ (ap (λ t. followed (past (reading.at + sign.1) (unsigned sign t)) next) (drop-drop sign.1 reading.at text)
    ∙ ap (λ b. followed (past b (unsigned sign (drop b text))) next) (sym e))))

-- what opens an operand within an operand: what the operand comes to is what the one within it does, on a level less
pub record OpensWithin (text : List ℕ) (scale : Scale) (place : Option ℤ) (reading : Reading) (at : ℕ) (is_negative : Bool) (opening : Opening) : Type 0 where
  pub same : (n : ℕ)
      → followed (past (at + 1) (operand_within scale place n (drop (at + 1) text)))
      (λ r. come_to text scale place n (record { pending = reading.pending; negative = is_negative; opening = opening } ∷ reverse reading.frames.items) r.0 r.1)
      ≡ followed (past at (unsigned_of scale place (operand_within scale place n) is_negative (drop at text)))
      (λ r. followed (combined reading.pending r.0) (λ v. come_to text scale place (suc n) (reverse reading.frames.items) v r.1))

-- `(` does
pub OpensWithin-parenthesis : (text : List ℕ) (scale : Scale) (place : Option ℤ) (reading : Reading) (at : ℕ) (is_negative : Bool)
    → begins_with 40 (drop at text) ≡ true → OpensWithin text scale place reading at is_negative Parenthesis
unfolding come_to
OpensWithin-parenthesis text scale place reading at is_negative found = record {
  same = λ n. sym (unsigned_of-parenthesis text scale place (operand_within scale place n) is_negative at
      (λ r. followed (combined reading.pending r.0) (λ v. come_to text scale place (suc n) (reverse reading.frames.items) v r.1)) found);
}

-- `|` does, where there is a place
OpensWithin-some_place : (text : List ℕ) (scale : Scale) (from : ℤ) (reading : Reading) (at : ℕ) (is_negative : Bool)
    → begins_with 40 (drop at text) ≡ false → begins_with 124 (drop at text) ≡ true → OpensWithin text scale (Some from) reading at is_negative (Bar from)
unfolding come_to
OpensWithin-some_place text scale from reading at is_negative other found = record {
  same = λ n. sym (unsigned_of-bar text scale from (operand_within scale (Some from) n) is_negative at
      (λ r. followed (combined reading.pending r.0) (λ v. come_to text scale (Some from) (suc n) (reverse reading.frames.items) v r.1)) other found);
}

pub OpensWithin-bar : (text : List ℕ) (scale : Scale) (place : Option ℤ) (from : ℤ) (reading : Reading) (at : ℕ) (is_negative : Bool)
    → place ≡ Some from → begins_with 40 (drop at text) ≡ false → begins_with 124 (drop at text) ≡ true → OpensWithin text scale place reading at is_negative (Bar from)
OpensWithin-bar text scale place from reading at is_negative e other found =
    let P : Option ℤ → Type 0 = λ p. OpensWithin text scale p reading at is_negative (Bar from) in
    subst P (sym e) (OpensWithin-some_place text scale from reading at is_negative other found)

-- a test of two numbers, and what it chooses
chosen : (m n : ℕ) (x y z : Result Next NumFault) → z ≡ cond (nat_lt m n) x y → m < n → z ≡ x
chosen m n x y z e less = grind (arith, nat_tests)

left_out : (m n : ℕ) (x y z : Result Next NumFault) → z ≡ cond (nat_lt m n) x y → n ≤ m → z ≡ y
left_out m n x y z e more = grind (arith, nat_tests)

-- a reading that goes on within an operand comes to the same, and where the levels are used up to a fault
pub outcome_stepped-entered : (text : List ℕ) (scale : Scale) (place : Option ℤ) (old new : Reading) (at : ℕ) (sign : Bool × ℕ) (opening : Opening) (result : Result Next NumFault)
    → sign ≡ sign_at (drop old.at text) → at ≡ old.at + sign.1 → length old.frames.items ≤ 32
    → OpensWithin text scale place old at sign.0 opening
    → result ≡ cond (nat_lt (length old.frames.items) 32) (Ok Opened) (Err Missing) → OnOk result (new ≡ entered old (at + 1) sign.0 opening)
    → outcome_stepped text scale place new result ≡ outcome_opened text scale place old
unfolding operand_within
outcome_stepped-entered text scale place old new at sign opening result s e few opens answer goes = elim (cases_lt (length old.frames.items) 32) [
  | inl room ↦
      let n : ℕ = 32 - length old.frames.items in
      let f : Frame = record { pending = old.pending; negative = sign.0; opening = opening } in
      let opened : result ≡ Ok Opened = chosen (length old.frames.items) 32 (Ok Opened) (Err Missing) result answer room in
      let stands : new ≡ entered old (at + 1) sign.0 opening = rw opened at goes in
      let levels : n ≡ 33 - length (old.frames.items ++ f ∷ []) = omega (arith, length-append old.frames.items (f ∷ [])) in
      ap (outcome_stepped text scale place new) opened
      ∙ (ap (outcome_opened text scale place) stands
      ∙ (outcome_opened-named text scale place (at + 1) None (old.frames.items ++ f ∷ []) (f ∷ reverse old.frames.items) n levels (sym (reverse-innermost old.frames.items f))
      ∙ (opens.same n ∙ sym (outcome_opened-unsigned text scale place old n at sign (omega arith) s e))))
  | inr full ↦
      let refused : result ≡ Err Missing = left_out (length old.frames.items) 32 (Ok Opened) (Err Missing) result answer full in
      ap (outcome_stepped text scale place new) refused
      ∙ (opens.same 0 ∙ sym (outcome_opened-unsigned text scale place old 0 at sign (omega arith) s e))
]

-- a `|` where there is no place
pub outcome_opened-no_place : (text : List ℕ) (scale : Scale) (reading : Reading) (at : ℕ) (sign : Bool × ℕ)
    → sign ≡ sign_at (drop reading.at text) → at ≡ reading.at + sign.1 → length reading.frames.items ≤ 32
    → begins_with 40 (drop at text) ≡ false → begins_with 124 (drop at text) ≡ true
    → Err Missing ≡ outcome_opened text scale None reading
outcome_opened-no_place text scale reading at sign s e few other found =
    let n : ℕ = 32 - length reading.frames.items in
    let next : ℤ × ℕ → Result (ℤ × ℕ) NumFault = λ r. followed (combined reading.pending r.0) (λ v. come_to text scale None (suc n) (reverse reading.frames.items) v r.1) in
    sym (outcome_opened-unsigned text scale None reading n at sign (omega arith) s e
    ∙ ap (λ x. followed (past at x) next) (unsigned_of-no_place (drop at text) scale (operand_within scale None n) sign.0 other found))

-- a numeral
pub outcome_opened-numeral : (text : List ℕ) (scale : Scale) (place : Option ℤ) (reading : Reading) (at : ℕ) (sign : Bool × ℕ)
    → sign ≡ sign_at (drop reading.at text) → at ≡ reading.at + sign.1 → length reading.frames.items ≤ 32
    → begins_with 40 (drop at text) ≡ false → begins_with 124 (drop at text) ≡ false
    → outcome_of text scale place reading (past at (numeral_at scale sign.0 (drop at text))) ≡ outcome_opened text scale place reading
outcome_opened-numeral text scale place reading at sign s e few other found =
    let n : ℕ = 32 - length reading.frames.items in
    let levels : suc n ≡ 33 - length reading.frames.items = omega arith in
    sym (outcome_opened-unsigned text scale place reading n at sign levels s e
    ∙ (ap (λ x. followed (past at x) (λ r. followed (combined reading.pending r.0) (λ v. come_to text scale place (suc n) (reverse reading.frames.items) v r.1)))
    (unsigned_of-numeral (drop at text) scale place (operand_within scale place n) sign.0 other found)
    ∙ ap (λ l. followed (past at (numeral_at scale sign.0 (drop at text))) (λ r. followed (combined reading.pending r.0) (λ v. come_to text scale place l (reverse reading.frames.items) v r.1))) levels))

-- a value within an operand that has just been taken off the frames
pub come_to-innermost : (text : List ℕ) (scale : Scale) (place : Option ℤ) (old new : List Frame) (f : Frame) (levels : ℕ) (pending : Option (Operator × ℤ)) (value w : ℤ) (at : ℕ)
    → combined pending value ≡ Ok w → old ≡ new ++ f ∷ [] → levels ≡ 33 - length old
    → come_to text scale place levels (f ∷ reverse new) w at
    ≡ followed (combined pending value) (λ v. come_to text scale place (33 - length old) (reverse old) v at)
come_to-innermost text scale place old new f levels pending value w at k e l =
    ap (λ n. come_to text scale place n (f ∷ reverse new) w at) l
    ∙ (ap (λ fs. come_to text scale place (33 - length old) fs w at) (sym (ap reverse e ∙ reverse-innermost new f))
    ∙ ap (λ x. followed x (λ v. come_to text scale place (33 - length old) (reverse old) v at)) (sym k))

-- an expression that begins comes to its value
started : (text : List ℕ) (operand : List ℕ → Result (ℤ × ℕ) NumFault) (at : ℕ) (x : Result (ℤ × ℕ) NumFault)
    → followed (past at x) (λ r. folded_from text operand r.0 r.1) ≡ past at (followed x (λ r. past r.1 (folded_onto operand r.1 r.0 (drop at text))))
started text operand at (Ok r) =
    ap (λ l. past (at + r.1) (folded_onto operand 0 r.0 l)) (sym (drop-drop r.1 at text))
    ∙ (ap (past (at + r.1)) (sym (folded_onto-drop operand r.1 r.0 (drop at text)))
    ∙ sym (past-past at r.1 (folded_onto operand r.1 r.0 (drop at text))))
started text operand at (Err e) = refl

pub outcome_opened-start : (text : List ℕ) (scale : Scale) (place : Option ℤ) (at : ℕ)
    → outcome_opened text scale place (unheld at None) ≡ past at (expression_of (operand_within scale place 33) (drop at text))
unfolding come_to
outcome_opened-start text scale place at = started text (operand_within scale place 33) at (operand_within scale place 33 (drop at text))

-- behind an operand that no other one holds stands an operator, or the expression's end, unless the operator before it
-- has a fault
pub outcome_opened-further : (text : List ℕ) (scale : Scale) (place : Option ℤ) (begin : ℕ) (pending : Option (Operator × ℤ)) (operand value : ℤ) (behind next : ℕ) (o : Operator) (k : ℕ) (total : Result (ℤ × ℕ) NumFault)
    → outcome_of text scale place (unheld begin pending) (Ok (operand, behind)) ≡ total → combined pending operand ≡ Ok value
    → operator_at (drop behind text) ≡ Some (o, k) → next ≡ behind + (1 + k)
    → outcome_opened text scale place (unheld next (Some (o, value))) ≡ total
outcome_opened-further text scale place begin pending operand value behind next o k total came c found e =
    come_to-operator text scale place 33 value behind next o k found e
    ∙ (ap (λ x. followed x (λ v. come_to text scale place 33 [] v behind)) (sym c) ∙ came)

pub outcome_of-end : (text : List ℕ) (scale : Scale) (place : Option ℤ) (begin : ℕ) (pending : Option (Operator × ℤ)) (operand value : ℤ) (behind : ℕ) (total : Result (ℤ × ℕ) NumFault)
    → outcome_of text scale place (unheld begin pending) (Ok (operand, behind)) ≡ total → combined pending operand ≡ Ok value
    → operator_at (drop behind text) ≡ None → Ok (value, behind) ≡ total
outcome_of-end text scale place begin pending operand value behind total came c found =
    come_to-end text scale place 33 value behind found ∙ (ap (λ x. followed x (λ v. come_to text scale place 33 [] v behind)) (sym c) ∙ came)

pub outcome_of-fault : (text : List ℕ) (scale : Scale) (place : Option ℤ) (begin : ℕ) (pending : Option (Operator × ℤ)) (operand : ℤ) (behind : ℕ) (fault : NumFault) (total : Result (ℤ × ℕ) NumFault)
    → outcome_of text scale place (unheld begin pending) (Ok (operand, behind)) ≡ total → combined pending operand ≡ Err fault
    → Err fault ≡ total
outcome_of-fault text scale place begin pending operand behind fault total came c =
    ap (λ x. followed x (λ v. come_to text scale place 33 [] v behind)) (sym c) ∙ came
