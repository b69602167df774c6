-- What the code of requests is given, and what it answers, as the definition has it.
use Rattle.std.specs.Prelude.{◌≡◌, ℕ, ◌^◌, List, [], ◌∷◌, min, not, slice_get, IfSome, Ok, Option, Some, None}
use Rattle.arrayvec.specs.ArrayVec.{ArrayVec}
use Rattle.std.specs.Option.{option_copied, option_to_list}
use Rattle.roff_num.specs.Names.{name_of}
use Rattle.read_requests.specs.declared.requests.Given.{Given}
use Rattle.run_model.specs.declared.request.Request.{Request}
use Rattle.run_model.specs.declared.request.Request.TheVariants.{NumberRegister}
use Rattle.read_requests.specs.declared.requests.effects.Changes.{Changes}
use Rattle.read_requests.specs.declared.requests.effects.Changes.TheVariants.{Nothing, One, RemoveGiven, RemoveNamesGiven, Rename as RenameGiven}
use Rattle.read_requests.specs.declared.requests.effects.Response.{Response as CodedResponse}
use Rattle.read_requests.specs.declared.requests.effects.Response.TheVariants.{Around as HappensAround, Changes as ChangesTo, Happens, Ignored as IgnoredWith, Nothing as NothingDone, Numbers as NumbersTo, Says, SetsStops, Two}
use Rattle.read_requests.specs.declared.requests.effects.PageFacts.{PageFacts}
use Rattle.read_requests.specs.declared.requests.numbering.Numbers.{Numbers}
use Rattle.read_requests.specs.declared.requests.effects.RequestFacts.{RequestFacts}
use Rattle.read_meaning.specs.Events.{stops_set}
use Rattle.run_state.specs.Environments.Standing.{StandBy}
use Rattle.page_model.specs.declared.stop.TabStop.{TabStop}
use Rattle.page_model.specs.Words.{is_empty}
use Rattle.roff_num.specs.declared.limits.Limits.{Limits}
use Rattle.run_model.specs.Environments.{PageHistory, environments}
use Rattle.page_model.specs.Layout.{Layout}
use Rattle.roff_pages.specs.Pages.Stands.{StandsAs}
use Rattle.roff_pages.specs.Pages.Counted.{counted}
use Rattle.page_model.specs.Queries.{is_diverting, place_now}
use Rattle.run_model.specs.Registers.{Known, Change, Remove, page_name, value_in_force}
use Rattle.read_registers.specs.Registers.Coded.{change_of}
use Rattle.roff_store.specs.TextCalls.{Call, Rename}
use Rattle.run_model.specs.Requests.{Response, Around, Ignored, Obeyed, nothing}
use Rattle.run_model.specs.Requests.Effects.{bad_number, happens}
use Rattle.run_model.specs.Requests.Naming.{removals}
use Rattle.run_model.specs.Requests.Numbering.{name_given, names_given, set_to}
use Rattle.run_model.specs.Requests.Tabs.{tab_stops}

-- the code was given the first of these arguments
pub record GivesFirst (as_given : List (List ℕ)) (given : Given) : Type 0 where
  pub first : option_copied given.first ≡ slice_get as_given 0
  pub second : option_copied given.second ≡ slice_get as_given 1
  pub third : option_copied given.third ≡ slice_get as_given 2

-- the register that the first argument names, if it names one
abbrev pub register_named : List (List ℕ) → Option (List ℕ)
register_named [] = None
register_named (text ∷ others) = name_of (name_given text)

-- what the code knows of the pages
pub record KnowsPages (L : Layout) (known : PageFacts) : Type 0 where
  pub place : known.place ≡ counted (place_now L)
  pub page_length : known.page_length ≡ L.length
  pub page_offset : known.page_offset ≡ L.offset
  pub previous_page_offset : known.previous_page_offset ≡ L.previous_offset
  pub page_number : known.page_number ≡ L.number
  pub begun : known.begun ≡ min L.begun (2 ^ 32)
  pub diverts : known.diverts ≡ is_diverting L

-- The code knows what a request asks for: the settings, whether an environment was left, and the pages, by what keeps them; and the
-- value of the register that the first argument names, which one request alone asks for.
pub record KnowsOf (k : Known) (request : Request) (as_given : List (List ℕ)) (known : RequestFacts) : Type 0 where
  pub settings : known.composer.now.environments.in_force.lines.settings ≡ k.settings
  pub limits : Limits
  pub history : PageHistory
  pub stand : StandBy limits (environments history) known.composer.now.environments
  pub has_left : not (is_empty (environments history).left) ≡ k.has_left
  pub pages : StandsAs k.layout known.composer.now.pages
  pub in_force : request ≡ NumberRegister → IfSome (register_named as_given) (λ name. known.in_force ≡ value_in_force k name)

-- the changes of registers that a request makes, given these arguments
abbrev pub changes_of : List (List ℕ) → Changes → List Change
changes_of as_given Nothing = []
changes_of as_given (One change) = change_of change ∷ []
changes_of as_given RemoveGiven = Remove (names_given as_given) ∷ []
changes_of as_given RemoveNamesGiven = []
changes_of as_given (RenameGiven from to) = []

-- and the calls on what names stand for
abbrev pub calls_of : List (List ℕ) → Changes → List Call
calls_of as_given Nothing = []
calls_of as_given (One change) = []
calls_of as_given RemoveGiven = []
calls_of as_given RemoveNamesGiven = removals (names_given as_given)
calls_of as_given (RenameGiven from to) = Rename from to ∷ []

-- what a request did in the code, given these arguments
abbrev pub response_of : List (List ℕ) → CodedResponse → Response
response_of as_given (IgnoredWith message) = Ignored (option_to_list message)
response_of as_given NothingDone = nothing
response_of as_given (Happens event) = happens [] (event ∷ [])
response_of as_given (Says message event) = happens (message ∷ []) (event ∷ [])
response_of as_given (Two first second) = happens [] (first ∷ second ∷ [])
response_of as_given (HappensAround before behind) = Around before behind
response_of as_given (ChangesTo changes) = Obeyed [] (changes_of as_given changes) (calls_of as_given changes) []
response_of as_given (NumbersTo value increment) = set_to page_name (Ok value.0) (Ok increment.0)
response_of as_given SetsStops = tab_stops as_given

-- a register is set to these, if they are numbers
abbrev pub set_by : List ℕ → Option Numbers → Response
set_by name None = bad_number
set_by name (Some numbers) = set_to name (Ok numbers.value.0) (Ok numbers.increment.0)

-- what a request for tab stops did where its arguments are these stops, or none that are good
abbrev pub stops_response : Option (ArrayVec TabStop) → Response
stops_response (Some stops) = happens [] (stops_set stops.items)
stops_response None = bad_number
