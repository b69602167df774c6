-- What a request does, and what that means for the registers and the page.
use Rattle.std.specs.Prelude.{ℕ, Bool, List, [], ◌∷◌, Option, Some, None, if◌then◌else◌}
use Rattle.page_model.specs.declared.event.Event.TheVariants.{WordEnd, Break, Set}
use Rattle.page_model.specs.declared.settings.Param.{Param}
use Rattle.roff_num.specs.declared.num.Num.{Num}
use Rattle.page_model.specs.declared.layout_event.LayoutEvent.TheVariants.{Number}
use Rattle.run_model.specs.PageEvents.{PageEvent}
use Rattle.run_model.specs.declared.event.PageEvent.{PageEvent as PageEventOf}
use Rattle.run_model.specs.declared.event.PageEvent.TheVariants.{Text, Page}
use Rattle.run_model.specs.declared.message.Message.{Message}
use Rattle.run_model.specs.declared.message.Message.TheVariants.{BadNumber, BadFormat, LeftOut, NoSuchEnvironment}
use Rattle.run_model.specs.Registers.{Change}
use Rattle.roff_store.specs.TextCalls.{Call}

-- what a byte or a request means: messages, changes of registers, calls on what names stand for, and then events
pub record Effect : Type 0 where
  pub messages : List Message
  pub changes : List Change
  pub calls : List Call
  pub events : List PageEvent

-- events alone
abbrev pub doing : List PageEvent → Effect
doing events = record { messages = []; changes = []; calls = []; events = events }

-- events of which this is said
abbrev pub saying : List Message → List PageEvent → Effect
saying messages events = record { messages = messages; changes = []; calls = []; events = events }

-- what a request does with its arguments
pub data Response : Type 0 where
  -- it is ignored, and says why
  Ignored : (messages : List Message) → Response
  -- it says this, the registers change so, and what names stand for, and this happens behind its break
  Obeyed : (messages : List Message) (changes : List Change) (calls : List Call) (events : List PageEvent) → Response
  -- one event happens in front of its break, and one behind it
  Around : (before behind : PageEvent) → Response

-- these events happen behind its break, and it says this
abbrev pub happens : List Message → List PageEvent → Response
happens messages events = Obeyed messages [] [] events

-- nothing happens behind its break
abbrev pub nothing : Response
nothing = happens [] []

-- a parameter is set
abbrev pub setting : Param → Response
setting p = happens [] (Text (Set p) ∷ [])

-- a register changes
abbrev pub changing : Change → Response
changing change = Obeyed [] (change ∷ []) [] []

-- what names stand for changes
abbrev pub naming : List Call → Response
naming calls = Obeyed [] [] calls []

-- the page gets this number, if there is one: that is to be done, or happened
abbrev pub page_numbered : {T : Type 0} → Option Num → List (PageEventOf T)
page_numbered None = []
page_numbered (Some n) = Page (Number n) ∷ []

-- an argument isn't a number, or is out of range
abbrev pub bad_number : Response
bad_number = Ignored (BadNumber ∷ [])

-- an argument isn't a format
abbrev pub bad_format : Response
bad_format = Ignored (BadFormat ∷ [])

-- an argument is no environment's number, or there is none to go back to
abbrev pub no_such_environment : Response
no_such_environment = Ignored (NoSuchEnvironment ∷ [])

-- a request of this name isn't built
abbrev pub left_out : List ℕ → Response
left_out name = Ignored (LeftOut name ∷ [])

-- a break in front of some events, if there is one
abbrev pub behind_break : Bool → List PageEvent → List PageEvent
behind_break breaks events = if breaks then Text WordEnd ∷ Text Break ∷ events else events

-- what a request means by what it did: it breaks, if its row has it so, unless it is ignored
abbrev pub meant_by : Bool → Response → Effect
meant_by breaks (Ignored messages) = saying messages []
meant_by breaks (Obeyed messages changes calls events) =
    record { messages = messages; changes = changes; calls = calls; events = behind_break breaks events }
meant_by breaks (Around before behind) = doing (before ∷ behind_break breaks (behind ∷ []))
