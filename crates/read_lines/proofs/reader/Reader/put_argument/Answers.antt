use Rattle.std.proofs.Common.{◌≡◌, ◌-◌, ◌≤◌, ℕ, List, [], Ok, Err, ap, rules, arith, get_or, length, refl, subst, ◌∙◌, ltb-false, ltb-true}
use Rattle.input_model.specs.Input.{pushing}
use Rattle.input_model.specs.Input.Calls.{argument_live, arguments_live}
use Rattle.read_lines.specs.Reader.Taken.{TakesAs}
use Rattle.run_model.specs.Reading.Escapes.{argument_named}
use Rattle.run_model.specs.Reading.Items.{going_on}
use Rattle.read_lines.proofs.CalledBodies.{argument_named-digit, argument_named-other}
use Rattle.read_lines.proofs.LinesTaken.{TakesAs-changed, TakesAs-not_changed}
use Rattle.read_lines.proofs.reader.Reader.put_argument.Goals.{in_default-via-then-as_bytes-lt1, in_default-via-else-as_bytes-lt1+then-this-lt2+then-this-lt49, in_default-via-else-as_bytes-lt1+then-this-lt2+else-this-lt49+else-this-lt58, in_default-via-else-as_bytes-lt1+else-this-lt2}
use Rattle.run_model.specs.declared.step.Step.TheVariants.{Nothing}
use Rattle.read_lines.proofs.reader.Reader.put_argument.Goals as goal

pub returns-in_err-push-in_default : goal.returns-in_err-push-in_default
returns-in_err-push-in_default c = λ es.
    let old = c.args.self.now in
    let u = c.args.unread.now in
    let name = c.as_bytes.result.now in
    let limit = c.in_err-push-in_default.field-0.0 in
    let arguments = arguments_live u.input in
    let refused : c.from_residual-in_err-push-in_default.result ≡ Err limit = search rules in
    let not : length name ≡ 1 → 49 ≤ get_or name 0 0 → get_or name 0 0 ≤ 57 → ⊥ = λ one above below. elim c.in_default.branch [
      | in_default-via-then-as_bytes-lt1 o ↦ absurd (omega (arith, one, above, below, ltb-true, ltb-false))
      | in_default-via-else-as_bytes-lt1+then-this-lt2+then-this-lt49 o ↦ absurd (omega (arith, one, above, below, ltb-true, ltb-false))
      | in_default-via-else-as_bytes-lt1+then-this-lt2+else-this-lt49+else-this-lt58 o ↦ absurd (omega (arith, one, above, below, ltb-true, ltb-false))
      | in_default-via-else-as_bytes-lt1+else-this-lt2 o ↦ absurd (omega (arith, one, above, below, ltb-true, ltb-false))
    ] in
    let same = argument_named-other name arguments not ∙ ap (λ (name : List ℕ). argument_named name arguments) c.as_bytes.ensures.value in
    rw refused
    (subst (λ (text : List ℕ). TakesAs (λ k. going_on (pushing text u.input) old.reading) es old old u c.push.new.self (Err limit)) same
    (TakesAs-not_changed (pushing [] u.input) old.reading es old old u c.push.new.self limit c.in_err-push-in_default.ensures.change))

pub returns-in_err-push_argument-in-49-to-57 : goal.returns-in_err-push_argument-in-49-to-57
returns-in_err-push_argument-in-49-to-57 c = λ es.
    let old = c.args.self.now in
    let u = c.args.unread.now in
    let name = c.as_bytes.result.now in
    let arguments = arguments_live u.input in
    let limit = c.in_err-push_argument-in-49-to-57.field-0.0 in
    let refused : c.from_residual.result ≡ Err limit = search rules in
    let same = ap (λ (name : List ℕ). argument_named name arguments) c.as_bytes.ensures.value in
    let one : length name ≡ 1 = omega (arith, c.in-49-to-57.len_at_least, c.in-49-to-57.len_below) in
    let above : 49 ≤ get_or name 0 0 = omega arith in
    let below : get_or name 0 0 ≤ 57 = omega arith in
    rw refused
    (subst (λ (text : List ℕ). TakesAs (λ k. going_on (pushing text u.input) old.reading) es old old u c.push_argument.new.self (Err limit)) (argument_named-digit name arguments one above below ∙ same)
    (TakesAs-not_changed (pushing (argument_live (get_or name 0 0 - 49) u.input) u.input) old.reading es old old u c.push_argument.new.self limit c.in_err-push_argument-in-49-to-57.ensures.change))

pub returns-in_ok-push_argument-in-49-to-57 : goal.returns-in_ok-push_argument-in-49-to-57
returns-in_ok-push_argument-in-49-to-57 c = λ es.
    let old = c.args.self.now in
    let u = c.args.unread.now in
    let name = c.as_bytes.result.now in
    let arguments = arguments_live u.input in
    let done = c.in_ok-push_argument-in-49-to-57 in
    let new = c.push_argument.new.self in
    let same = ap (λ (name : List ℕ). argument_named name arguments) c.as_bytes.ensures.value in
    let one : length name ≡ 1 = omega (arith, c.in-49-to-57.len_at_least, c.in-49-to-57.len_below) in
    let above : 49 ≤ get_or name 0 0 = omega arith in
    let below : get_or name 0 0 ≤ 57 = omega arith in
    subst (λ (text : List ℕ). TakesAs (λ k. going_on (pushing text u.input) old.reading) es old old u new (Ok Nothing)) (argument_named-digit name arguments one above below ∙ same)
    (TakesAs-changed (pushing (argument_live (get_or name 0 0 - 49) u.input) u.input) old.reading es old old u new Nothing done.field-0 done.ensures.change refl refl)

pub returns-in_ok-push-in_default : goal.returns-in_ok-push-in_default
returns-in_ok-push-in_default c = λ es.
    let old = c.args.self.now in
    let u = c.args.unread.now in
    let name = c.as_bytes.result.now in
    let arguments = arguments_live u.input in
    let done = c.in_ok-push-in_default in
    let new = c.push.new.self in
    let same = ap (λ (name : List ℕ). argument_named name arguments) c.as_bytes.ensures.value in
    let not : length name ≡ 1 → 49 ≤ get_or name 0 0 → get_or name 0 0 ≤ 57 → ⊥ = λ one above below. elim c.in_default.branch [
      | in_default-via-then-as_bytes-lt1 o ↦ absurd (omega (arith, one, above, below, ltb-true, ltb-false))
      | in_default-via-else-as_bytes-lt1+then-this-lt2+then-this-lt49 o ↦ absurd (omega (arith, one, above, below, ltb-true, ltb-false))
      | in_default-via-else-as_bytes-lt1+then-this-lt2+else-this-lt49+else-this-lt58 o ↦ absurd (omega (arith, one, above, below, ltb-true, ltb-false))
      | in_default-via-else-as_bytes-lt1+else-this-lt2 o ↦ absurd (omega (arith, one, above, below, ltb-true, ltb-false))
    ] in
    subst (λ (text : List ℕ). TakesAs (λ k. going_on (pushing text u.input) old.reading) es old old u new (Ok Nothing)) (argument_named-other name arguments not ∙ same)
    (TakesAs-changed (pushing [] u.input) old.reading es old old u new Nothing done.field-0 done.ensures.change refl refl)
