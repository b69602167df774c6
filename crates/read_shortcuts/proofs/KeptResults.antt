-- Results of conditions that are kept at once, and kept no more where the condition isn't taken.
use Rattle.std.proofs.Common.{◌≡◌, Bool, true, false, Result, Option, Ok, Err, Some, None, refl, sym, ap, ◌∙◌}
use Rattle.roff_num.specs.declared.limit.Limit.{Limit}
use Rattle.input_model.specs.Input.Calls.{with_result}
use Rattle.input_model.specs.Unread.{changing, input_refusal, unless_passed}
use Rattle.run_model.specs.Reading.Items.{PageInput, PageUnread}
use Rattle.read_shortcuts.specs.KeptResults.{kept_unread}

-- a result that was kept is there, or nothing changed
changed : (refusal : Option Limit) (i : PageInput) (u new : PageUnread) (r : Result (Unit {0}) Limit) → (r, new) ≡ unless_passed refusal i u → r ≡ Ok tt → new ≡ record u { input = i }
changed None i u new r is done = ap (λ (p : Result (Unit {0}) Limit × PageUnread). p.1) is
changed (Some limit) i u new r is done =
    let wrong : Ok tt ≡ Err limit = sym done ∙ ap (λ (p : Result (Unit {0}) Limit × PageUnread). p.0) is in
    absurd (cc)

stayed : (refusal : Option Limit) (i : PageInput) (u new : PageUnread) (r : Result (Unit {0}) Limit) (limit : Limit) → (r, new) ≡ unless_passed refusal i u → r ≡ Err limit → new ≡ u
stayed None i u new r limit is done =
    let wrong : Err limit ≡ Ok tt = sym done ∙ ap (λ (p : Result (Unit {0}) Limit × PageUnread). p.0) is in
    absurd (cc)
stayed (Some other) i u new r limit is done = ap (λ (p : Result (Unit {0}) Limit × PageUnread). p.1) is

pub result-kept : (so : Bool) (u new : PageUnread) (r : Result (Unit {0}) Limit) → (r, new) ≡ changing (with_result so u.input) u → r ≡ Ok tt → new ≡ kept_unread true so u
result-kept so u new r is done = changed (input_refusal u.limits (with_result so u.input)) (with_result so u.input) u new r is done

pub result-refused : (so : Bool) (u new : PageUnread) (r : Result (Unit {0}) Limit) (limit : Limit) → (r, new) ≡ changing (with_result so u.input) u → r ≡ Err limit → new ≡ u
result-refused so u new r limit is done = stayed (input_refusal u.limits (with_result so u.input)) (with_result so u.input) u new r limit is done

-- a result that is to be kept was, and where none is, nothing changed
pub kept-where : (keeps so : Bool) (u new : PageUnread) → keeps ≡ true → new ≡ kept_unread true so u → new ≡ kept_unread keeps so u
kept-where true so u new keeping is = is
kept-where false so u new keeping is = absurd (cc)

pub kept-none : (keeps so : Bool) (u : PageUnread) → keeps ≡ false → u ≡ kept_unread keeps so u
kept-none true so u keeping = absurd (cc)
kept-none false so u keeping = refl
