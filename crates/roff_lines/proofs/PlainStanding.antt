-- Where no field is open: an environment stands for its history as it does for the plain one that tells it without fields.
use Rattle.std.proofs.Common.{◌≡◌, ◌≤◌, ℕ, List, [], ◌∷◌, Option, Some, None, refl, sym, ap, subst, ◌∙◌, is_some, if◌then◌else◌, ◌==◌}
use Rattle.page_model.specs.declared.event.Event.TheVariants.{WordEnd}
use Rattle.page_model.specs.Events.{History}
use Rattle.page_model.specs.Fields.{Field, Told, so_far, told_plainly, unfielded}
use Rattle.page_model.specs.Behind.{finished}
use Rattle.page_model.specs.Lines.{Finished, finished_in, pending_length as length_plainly}
use Rattle.page_model.specs.Telling.{bytes_told, QuietlyTold}
use Rattle.roff_lines.specs.Env.Kept.{Kept}
use Rattle.roff_lines.specs.Env.Stands.{Stands, StandsFor, StandsPlain, StandsTold}
use Rattle.roff_lines.specs.Env.Tells.{PlainlyTold, Tells, TellsPlain}
use Rattle.roff_lines.proofs.Unfielded.{told-bytes_as}

-- no field is open where none is kept
none_told : (line_cap : ℕ) (h : History) (f : Option Field) (k : Kept) → k.field ≡ None → StandsTold line_cap h f k → f ≡ None
none_told line_cap h None k none s = refl
none_told line_cap h (Some f) k none s = let wrong = sym none ∙ s.field_is in cc

-- what is told where none is open
told_unfielded : (t : Told) → t.field ≡ None → t ≡ unfielded t.events
told_unfielded t none = ap (λ (f : Option Field). record { events = t.events; field = f }) none

-- what an environment in which no field is kept stands for
pub record IsPlain (line_cap : ℕ) (h : History) (k : Kept) : Type 0 where
  pub events : History
  pub is_told : told_plainly h ≡ unfielded events
  pub stands : StandsPlain line_cap events k

pub plain_of : (line_cap : ℕ) (h : History) (k : Kept) → k.field ≡ None → Stands line_cap h k → IsPlain line_cap h k
plain_of line_cap h k none s =
    let unopened : (told_plainly h).field ≡ None = none_told line_cap (told_plainly h).events (told_plainly h).field k none s in record {
      events = (told_plainly h).events;
      is_told = told_unfielded (told_plainly h) unopened;
      stands = subst (λ (f : Option Field). StandsTold line_cap (told_plainly h).events f k) unopened s;
    }

-- and the other way round
pub stands_plain : (line_cap : ℕ) (h events : History) (k : Kept) → told_plainly h ≡ unfielded events → StandsPlain line_cap events k → Stands line_cap h k
stands_plain line_cap h events k is s = subst (λ (t : Told). StandsFor line_cap t k) (sym is) s

-- a word end finishes what it finishes behind the plain history
finished-word_end : (h events : History) → told_plainly h ≡ unfielded events → finished h WordEnd ≡ finished_in events WordEnd
finished-word_end h events is = ap (λ (t : Told). if is_some t.field then None else finished_in (so_far t) WordEnd) is

-- bytes are told quietly where the plain history lets them
pub quiet_plain : (line_cap : ℕ) (bytes : List ℕ) (h events : History) → told_plainly h ≡ unfielded events → PlainlyTold line_cap bytes events
    → QuietlyTold line_cap bytes h
quiet_plain line_cap [] h events is quiet = tt
quiet_plain line_cap (b ∷ bytes) h events is quiet =
    let is_told = told-bytes_as (b ∷ []) h events is in (
      ap (λ (o : Option Finished). if b == 32 then o else None) (finished-word_end h events is) ∙ quiet.0,
      subst (λ (t : Told). length_plainly (so_far t) ≤ line_cap) (sym is_told) quiet.1,
      quiet_plain line_cap bytes (bytes_told (b ∷ []) h) (bytes_told (b ∷ []) events) is_told quiet.2,
    )

pub plainly_quiet : (line_cap : ℕ) (bytes : List ℕ) (h events : History) → told_plainly h ≡ unfielded events → QuietlyTold line_cap bytes h
    → PlainlyTold line_cap bytes events
plainly_quiet line_cap [] h events is quiet = tt
plainly_quiet line_cap (b ∷ bytes) h events is quiet =
    let is_told = told-bytes_as (b ∷ []) h events is in (
      ap (λ (o : Option Finished). if b == 32 then o else None) (sym (finished-word_end h events is)) ∙ quiet.0,
      subst (λ (t : Told). length_plainly (so_far t) ≤ line_cap) is_told quiet.1,
      plainly_quiet line_cap bytes (bytes_told (b ∷ []) h) (bytes_told (b ∷ []) events) is_told quiet.2,
    )

-- so what is told behind plain histories is told behind all for which the environment stands
pub Tells-plain : (bytes : List ℕ) (old new : Kept) → old.field ≡ None → TellsPlain bytes old new → Tells bytes old new
Tells-plain bytes old new none t = record {
  quiet = λ line_cap h s. let p = plain_of line_cap h old none s in quiet_plain line_cap bytes h p.events p.is_told (t.quiet line_cap p.events p.stands);
  stands = λ line_cap h s.
      let p = plain_of line_cap h old none s in
      stands_plain line_cap (bytes_told bytes h) (bytes_told bytes p.events) new (told-bytes_as bytes h p.events p.is_told)
      (t.stands line_cap p.events p.stands);
}
