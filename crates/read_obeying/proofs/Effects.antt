-- Effects to which the code comes.
use Rattle.std.proofs.Common.{◌≡◌, ◌∙◌, ◌&&◌, Bool, true, false, List, [], ◌∷◌, None, ap, refl, slice_get, ℕ}
use Rattle.read_requests.specs.Request.Coded.{calls_of, changes_of, register_named}
use Rattle.read_requests.specs.declared.requests.effects.Changes.{Changes}
use Rattle.read_requests.specs.declared.requests.effects.Changes.TheVariants.{Nothing}
use Rattle.run_model.specs.Events.Steps.{events_of, messages_of}
use Rattle.run_model.specs.PageEvents.{PageEvent}
use Rattle.run_model.specs.Reading.Arguments.{calling_all}
use Rattle.run_model.specs.Reading.Items.{PageUnread}
use Rattle.run_model.specs.Registers.{Known}
use Rattle.run_model.specs.Registers.Capped.{is_past_cap}
use Rattle.run_model.specs.Requests.{Effect, Ignored, saying}
use Rattle.run_model.specs.Requests.Numbering.{set_register}
use Rattle.run_model.specs.declared.message.Message.{Message}
use Rattle.run_model.specs.declared.step.Step.{Step}
use Rattle.read_obeying.specs.Acting.{CameToEffect, ChangedTo, Kept, texts_read}

-- what breaks if it is called so, and what doesn't
pub and_true : (b : Bool) → (b && true) ≡ b
and_true true = refl
and_true false = refl

pub and_false : (b : Bool) → (b && false) ≡ false
and_false true = refl
and_false false = refl

-- an effect that changes what some request may, with a meaning that is kept behind the changes
pub changed-effect : (asked : Changes) (e : Effect) (old mid new : Kept) (before behind : PageUnread) (m : Step)
    → e.changes ≡ changes_of (texts_read before) asked → e.calls ≡ calls_of (texts_read before) asked
    → ChangedTo e.changes old.registers mid.registers → new ≡ record mid { meaning = new.meaning }
    → behind ≡ record before { input = calling_all e.calls before.input }
    → messages_of new.meaning.message m ≡ e.messages → events_of new.meaning.events m ≡ e.events
    → CameToEffect e old new before behind m
changed-effect asked e old mid new before behind m changes calls changed others called says means =
    let stay = ap (λ (s : Kept). s.registers) others in record {
      asked = asked;
      changes = changes;
      calls = calls;
      changed = record { registers = stay ∙ changed.registers; within = λ few. ap is_past_cap stay ∙ changed.within few };
      called = called;
      messages = says;
      events = means;
    }

-- one that changes nothing
pub quiet-effect : (messages : List Message) (events : List PageEvent) (old new : Kept) (u : PageUnread) (m : Step)
    → new ≡ record old { meaning = new.meaning } → messages_of new.meaning.message m ≡ messages → events_of new.meaning.events m ≡ events
    → CameToEffect (saying messages events) old new u u m
quiet-effect messages events old new u m others says means =
    changed-effect Nothing (saying messages events) old old new u u m refl refl (record { registers = refl; within = λ few. few }) others refl says means

-- a register that isn't named isn't set
pub set_register-unnamed : (k : Known) (as_given : List (List ℕ)) → register_named as_given ≡ None → set_register k as_given ≡ Ignored []
set_register-unnamed k [] is = refl
set_register-unnamed k (name ∷ []) is = refl
set_register-unnamed k ([] ∷ value ∷ others) is = refl
set_register-unnamed k ((c ∷ []) ∷ value ∷ others) is = cc
set_register-unnamed k ((c ∷ d ∷ rest) ∷ value ∷ others) is = cc

-- nor is one without a value
pub set_register-without : (k : Known) (as_given : List (List ℕ)) → slice_get as_given 1 ≡ None → set_register k as_given ≡ Ignored []
set_register-without k [] is = refl
set_register-without k (name ∷ []) is = refl
set_register-without k (name ∷ value ∷ others) is = cc
