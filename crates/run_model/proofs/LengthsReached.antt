-- An event brings the pending line to no greater length than the limit on lines is asked of.
use Rattle.std.proofs.Common.{◌≤◌, ◌∷◌, arith}
use Rattle.page_model.specs.Behind.{length_reached, pending_length}
use Rattle.page_model.specs.Events.{History}
use Rattle.page_model.specs.declared.event.Event.{Event}
use Rattle.page_model.specs.declared.event.Event.TheVariants.{Print, Tab, FieldEnd, WordEnd, Gap, LineEnd, Count, Break, Interrupt, Resume, Set}

pub pending_length-reached : (e : Event) (h : History) → pending_length (e ∷ h) ≤ length_reached e h
pending_length-reached (Print glyph) h = omega arith
pending_length-reached Tab h = omega arith
pending_length-reached FieldEnd h = omega arith
pending_length-reached WordEnd h = omega arith
pending_length-reached (Gap columns) h = omega arith
pending_length-reached LineEnd h = omega arith
pending_length-reached Count h = omega arith
pending_length-reached Break h = omega arith
pending_length-reached Interrupt h = omega arith
pending_length-reached Resume h = omega arith
pending_length-reached (Set param) h = omega arith
