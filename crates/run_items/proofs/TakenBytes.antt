-- What is taken leaves what is half read.
use Rattle.std.proofs.Common.{◌≡◌, ℕ, ◌+◌, Bool, true, false, List, [], ◌∷◌, refl, ap, ◌∙◌, if◌then◌else◌, nat_lt}
use Rattle.roff_num.specs.declared.limit.Limit.TheVariants.{Bytes}
use Rattle.input_source.specs.Tape.{Tape, Answer, Gives, Ends, OneByte, OneNote}
use Rattle.input_model.specs.Input.{Ahead, cost, counting, item_taken}
use Rattle.input_model.specs.Looking.{answer_behind}
use Rattle.input_model.specs.Shown.{Shown, ShowsByte, ShowsRefusal, shown_ahead}
use Rattle.input_model.specs.Unread.{taking_answer, taking_first}
use Rattle.input_model.specs.declared.looked.Looked.TheVariants.{Nothing, Byte}
use Rattle.roff_scan.specs.Unread.Calls.{Takes}
use Rattle.run_model.specs.PageEvents.{PageEvent}
use Rattle.run_model.specs.Reading.Items.{PageUnread}

-- whatever a limit refuses
escapes-either : (refused : Bool) (u there behind : PageUnread) (one other : Shown PageEvent) → there.input.escapes ≡ u.input.escapes → behind.input.escapes ≡ u.input.escapes
    → let both : Shown PageEvent × PageUnread = if refused then (one, there) else (other, behind) in both.1.input.escapes ≡ u.input.escapes
escapes-either true u there behind one other same kept = same
escapes-either false u there behind one other same kept = kept

escapes-answer : (a : Answer) (u : PageUnread) → (taking_answer a u).1.input.escapes ≡ u.input.escapes
escapes-answer (Gives (OneByte b)) u =
    escapes-either (nat_lt u.limits.bytes (u.input.charge + 1)) u (record u { looked = Byte b }) (record u { input = counting b u.input; looked = Nothing }) (ShowsRefusal Bytes) (ShowsByte b) refl refl
escapes-answer (Gives (OneNote message)) u = refl
escapes-answer (Ends ending) u = refl

escapes-first : (items : List (Ahead PageEvent)) (a : Answer) (u : PageUnread) → (taking_first items a u).1.input.escapes ≡ u.input.escapes
escapes-first [] a u = escapes-answer (answer_behind u.looked a) u
escapes-first (item ∷ behind) a u =
    escapes-either (nat_lt u.limits.bytes (u.input.charge + cost item)) u u (record u { input = item_taken item behind u.input }) (ShowsRefusal Bytes) (shown_ahead item) refl refl

-- so a byte does
pub escapes-taken : (gave gives : Tape → Type 0) (before after : PageUnread) (b : ℕ) → Takes gave gives before after (ShowsByte b) → after.input.escapes ≡ before.input.escapes
escapes-taken gave gives before after b takes =
    ap (λ (shown : Shown PageEvent × PageUnread). shown.1.input.escapes) takes.taken ∙ escapes-first before.input.ahead takes.answer before
