-- What waits for a byte, by what is seen in front.
use Rattle.input_escapes.specs.Conditions.{is_decided}
use Rattle.input_escapes.specs.OpenEscape.{OpenEscape, Backslash, Comment, Name, Size, Delimited, Width, Condition}
use Rattle.input_escapes.specs.declared.open_escape.ConditionPart.TheVariants.{Choice, Expression, Compared, Decided}
use Rattle.std.proofs.Common.{◌≡◌, ℕ, Bool, true, false, List, ◌++◌, Option, Some, None, refl, sym, ap, subst, append_assoc, ◌∷◌, [], if◌then◌else◌}
use Rattle.roff_num.specs.declared.limits.Limits.{Limits}
use Rattle.input_model.specs.declared.place.Place.{Place}
use Rattle.input_escapes.specs.Waiting.{is_ended_by}
use Rattle.input_escapes.specs.declared.open_escape.Waiting.TheVariants.{Takes as TakesAny, Decides, Waits}
use Rattle.input_source.specs.Tape.{Tape, Item, Ended, Failed, Stopped, items_then}
use Rattle.input_model.specs.Shown.{Sighted, SeesByte, SeesNothing, SeesNote, SeesEnding, seen_ahead}
use Rattle.run_model.specs.Reading.Items.{PageInput, Taking}
use Rattle.run_model.specs.Run.{State, escape_ends, in_front_taken, made}
use Rattle.run_model.specs.Reading.{escape_ended}
use Rattle.run_model.specs.Registers.{Known}
use Rattle.run_model.specs.Reading.Waiting.{waiting_above, waiting_in}
use Rattle.run_model.specs.declared.line_state.LineState.{LineState}
use Rattle.run_items.specs.Outcome.{seen}
use Rattle.input_model.proofs.FewEvents.{few-behind}
use Rattle.run_items.specs.Room.{FewFor, SeesOn, decides_next}
use Rattle.run_items.proofs.EndsUnseen.{few-unseen}
use Rattle.run_items.proofs.Fronts.{few-seen_ended}
use Rattle.run_model.proofs.InFront.{IsNoNote, front_step, sighted_step}

-- a look shows this in front, a byte or nothing that can be read: no message, fault or limit of the source's
abbrev pub ShowsFront : Option ℕ → Sighted → Type 0
ShowsFront seen (SeesByte b) = seen ≡ Some b
ShowsFront seen SeesNothing = seen ≡ None
ShowsFront seen (SeesNote message) = ⊥
ShowsFront seen (SeesEnding Ended) = seen ≡ None
ShowsFront seen (SeesEnding Failed) = ⊥
ShowsFront seen (SeesEnding (Stopped limit)) = ⊥

pub no_note_in_front : (seen : Option ℕ) (sight : Sighted) → ShowsFront seen sight → IsNoNote sight
no_note_in_front seen (SeesByte b) is = tt
no_note_in_front seen SeesNothing is = tt
no_note_in_front seen (SeesNote message) is = is
no_note_in_front seen (SeesEnding ending) is = tt

-- the step goes by it
pub sighted_step-front : (l : Limits) (seen : Option ℕ) (sight : Sighted) (from behind : State) → ShowsFront seen sight
    → sighted_step l sight from behind ≡ front_step l seen from behind
sighted_step-front l seen (SeesByte b) from behind is = ap (λ (o : Option ℕ). front_step l o from behind) (sym is)
sighted_step-front l seen SeesNothing from behind is = ap (λ (o : Option ℕ). front_step l o from behind) (sym is)
sighted_step-front l seen (SeesNote message) from behind is = absurd is
sighted_step-front l seen (SeesEnding Ended) from behind is = ap (λ (o : Option ℕ). front_step l o from behind) (sym is)
sighted_step-front l seen (SeesEnding Failed) from behind is = absurd is
sighted_step-front l seen (SeesEnding (Stopped limit)) from behind is = absurd is

-- what is seen stays, and what is half read ends; or it doesn't, and the item in front is taken
pub front_step-by : (l : Limits) (seen : Option ℕ) (from behind : State) (stays : Bool)
    → is_ended_by behind.input.escapes seen ≡ stays
    → front_step l seen from behind ≡ (if stays then made l from (escape_ends behind) else in_front_taken l behind.input.ahead behind)
front_step-by l seen from behind stays is =
    ap (λ (c : Bool). if c then made l from (escape_ends behind) else in_front_taken l behind.input.ahead behind) is

-- where a condition that decided is next it ends before what can't be read, or what stands above it does
pub ended-next : (half : List OpenEscape) → decides_next half ≡ true → is_ended_by half None ≡ true
ended-next [] next = absurd (cc)
ended-next (Backslash ∷ rest) next = absurd (cc)
ended-next (Comment ∷ rest) next = absurd (cc)
ended-next (Name purpose part ∷ rest) next = absurd (cc)
ended-next (Size part ∷ rest) next = refl
ended-next (Delimited purpose d text ∷ rest) next = absurd (cc)
ended-next (Width d width is_deep ∷ rest) next = absurd (cc)
ended-next (Condition (Choice negated) text ∷ rest) next = absurd (cc)
ended-next (Condition (Expression negated) text ∷ rest) next = absurd (cc)
ended-next (Condition (Compared negated d first) text ∷ rest) next = absurd (cc)
ended-next (Condition (Decided decision freed) text ∷ rest) next = refl

-- none is where the item in front is taken, whatever it is
pub takes-none : (b : Bool) → (if b then Decides else Waits) ≡ TakesAny → b ≡ false
takes-none true takes = cc
takes-none false takes = cc

pub takes-next : (reading : LineState) (place : Place) (half : List OpenEscape) → waiting_above reading place half ≡ TakesAny → decides_next half ≡ false
takes-next reading place [] takes = refl
takes-next reading place (Backslash ∷ rest) takes = refl
takes-next reading place (Comment ∷ rest) takes = refl
takes-next reading place (Name purpose part ∷ rest) takes = refl
takes-next reading place (Size part ∷ rest) takes = cc
takes-next reading place (Delimited purpose d text ∷ rest) takes = refl
takes-next reading place (Width d width is_deep ∷ rest) takes = refl
takes-next reading place (Condition part text ∷ rest) takes = takes-none (is_decided part) takes

-- so nothing is asked of what is seen in front there
pub sees-taking : (reading : LineState) (i : PageInput) → waiting_in reading i ≡ TakesAny → SeesOn i
sees-taking reading i takes = λ next none. let goes_on = takes-next reading i.arguments.place i.escapes takes in cc

pub sees-alone : (i : PageInput) → i.escapes ≡ [] → SeesOn i
sees-alone i none = λ next seen. let goes_on : decides_next i.escapes ≡ false = ap decides_next none in cc

-- there is room for what is left where what is half read ends before what is seen
pub few-ended_by : (k : Known) (reading : LineState) (i : PageInput) (seen_byte : Option ℕ) (sight : Sighted) → ShowsFront seen_byte sight → is_ended_by i.escapes seen_byte ≡ true
    → (seen_ahead i.ahead ≡ Some SeesNothing → sight ≡ SeesNothing) → FewFor [] reading i.escapes i.ahead
    → let t : Taking = escape_ended k reading i in FewFor t.effect.events t.reading t.input.escapes i.ahead
few-ended_by k reading i seen_byte (SeesByte b) is stays seen few = few-seen_ended k reading i (few-behind 5 i.ahead few.few (λ none. let wrong = seen none in cc))
few-ended_by k reading i seen_byte SeesNothing is stays seen few = few-unseen k reading i (subst (λ (o : Option ℕ). is_ended_by i.escapes o ≡ true) is stays) few
few-ended_by k reading i seen_byte (SeesNote message) is stays seen few = absurd is
few-ended_by k reading i seen_byte (SeesEnding ending) is stays seen few = few-seen_ended k reading i (few-behind 5 i.ahead few.few (λ none. let wrong = seen none in cc))

-- what is seen and stays shows that
pub sees-front : (i : PageInput) (seen_byte : Option ℕ) (sight : Sighted) → ShowsFront seen_byte sight → is_ended_by i.escapes seen_byte ≡ false
    → (seen_ahead i.ahead ≡ Some SeesNothing → sight ≡ SeesNothing) → SeesOn i
sees-front i seen_byte (SeesByte b) is goes_on seen = λ next none. let wrong = seen none in cc
sees-front i seen_byte SeesNothing is goes_on seen = λ next none.
    let ends = ended-next i.escapes next in
    let stays : is_ended_by i.escapes None ≡ false = subst (λ (o : Option ℕ). is_ended_by i.escapes o ≡ false) is goes_on in cc
sees-front i seen_byte (SeesNote message) is goes_on seen = absurd is
sees-front i seen_byte (SeesEnding ending) is goes_on seen = λ next none. let wrong = seen none in cc

-- items, and then others, are both in this order
pub items_then-append : (first others : List Item) (tape : Tape) → items_then (first ++ others) tape ≡ items_then first (items_then others tape)
items_then-append first others tape = ap (λ (items : List Item). record { items = items; ending = tape.ending }) (append_assoc first others tape.items)
