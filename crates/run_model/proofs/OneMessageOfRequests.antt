-- A request says one thing at the most.
use Rattle.std.proofs.Common.{◌≡◌, refl, ℕ, zero, suc, Bool, true, false, List, [], ◌∷◌, Option, Some, None, ◌&&◌, if◌then◌else◌, slice_get}
use Rattle.roff_num.specs.declared.short_name.ShortName.{ShortName}
use Rattle.run_model.specs.Registers.{Known}
use Rattle.run_model.specs.Requests.{called_as, called_by, request_effect, requests, row_of}
use Rattle.run_model.specs.Requests.Effects.{Response, Around, Ignored, Obeyed, meant_by}
use Rattle.roff_num.specs.ShortNames.{name_bytes}
use Rattle.roff_store.specs.Named.{Named, entry_of}
use Rattle.roff_store.specs.Texts.{Entry, Body, Request as RequestEntry}
use Rattle.run_model.specs.declared.request.Called.{Called}
use Rattle.run_model.specs.declared.request.Called.TheVariants.{Request as ARequest, Nothing as Unknown}
use Rattle.run_model.specs.declared.request.Request.{Request}
use Rattle.run_model.specs.declared.request.Request.TheVariants.{LeftOut}
use Rattle.run_model.proofs.OneMessage.{AtMostTwo, IsNamed, TellsOne}
use Rattle.run_model.proofs.RequestAnswers.{Answered, Answers, Does, Opened, SaysName, StopsSet, answers}

-- its break says nothing
one-done : (breaks : Bool) (r : Response) → Does r → TellsOne (meant_by breaks r).messages
one-done breaks (Ignored messages) done = done
one-done breaks (Obeyed messages changes calls events) done = done.0
one-done breaks (Around before behind) done = tt

one-answered : {is_named : Type 0} (breaks own : Bool) (r : Response) → Answers is_named own r → is_named → TellsOne (meant_by breaks r).messages
one-answered breaks own r (Answered _ done) named = one-done breaks r done
one-answered breaks own _ (SaysName messages short) named = short named
one-answered breaks own _ (Opened name appends) named = tt
one-answered breaks own _ (StopsSet stops) named = tt

pub one-request_effect : (k : Known) (breaks : Bool) (request : Request) (as_given : List (List ℕ)) → IsNamed request
    → TellsOne (request_effect k breaks request as_given).messages
one-request_effect k breaks request as_given named =
    one-answered (breaks && (row_of request).breaks) (row_of request).breaks ((row_of request).does k as_given) (answers k request as_given) named

-- a line that begins with a name has such a request, if it has one
abbrev pub IsNamedCall : Called → Type 0
IsNamedCall (ARequest request) = IsNamed request
IsNamedCall (_) = Unit {0}

abbrev IsNamedAt : Option Request → Type 0
IsNamedAt None = Unit {0}
IsNamedAt (Some request) = IsNamed request

-- a name has two bytes at the most
abbrev is_short : List ℕ → Bool
is_short [] = true
is_short (a ∷ []) = true
is_short (a ∷ b ∷ []) = true
is_short (a ∷ b ∷ c ∷ name) = false

short-name : (name : List ℕ) → is_short name ≡ true → AtMostTwo name
short-name [] short = tt
short-name (a ∷ []) short = tt
short-name (a ∷ b ∷ []) short = tt
short-name (a ∷ b ∷ c ∷ name) short = let wrong : false ≡ true = short in absurd (cc)

-- so has each request of a list, if it has one
abbrev is_named : Request → Bool
is_named (LeftOut name) = is_short name
is_named (_) = true

abbrev are_named : List Request → Bool
are_named [] = true
are_named (request ∷ rs) = if is_named request then are_named rs else false

named-if : (request : Request) (others named : Bool) → is_named request ≡ named → (if named then others else false) ≡ true
    → IsNamed request × (others ≡ true)
named-if (LeftOut name) others true is all = (short-name name is, all)
named-if (_) others true is all = (tt, all)
named-if request others false is all = let wrong : false ≡ true = all in absurd (cc)

named-at : (rs : List Request) (number : ℕ) → are_named rs ≡ true → IsNamedAt (slice_get rs number)
named-at [] number named = tt
named-at (request ∷ rs) zero named = (named-if request (are_named rs) (is_named request) refl named).0
named-at (request ∷ rs) (suc number) named = named-at rs number (named-if request (are_named rs) (is_named request) refl named).1

named-found : (found : Option Request) → IsNamedAt found → IsNamedCall (elim found [ None ↦ Unknown | Some request ↦ ARequest request ])
named-found None named = tt
named-found (Some request) named = named

named-entry : (name : ShortName) (entry : Option Entry) → IsNamedCall (called_as name entry)
named-entry name None = tt
named-entry name (Some (RequestEntry number)) = named-found (slice_get requests number) (named-at requests number refl)
named-entry name (Some (Body bytes)) = tt

pub named-called : (name : ShortName) (names : Named Entry) → IsNamedCall (called_by name names)
named-called name names = named-entry name (entry_of (name_bytes name) names)
