-- The texts of strings and of definitions, as they grow.
use Rattle.std.proofs.Common.{◌≡◌, ℕ, Bool, true, false, List, [], Option, Some, None, Result, refl, is_some, option_map, ◌&&◌}
use Rattle.roff_num.specs.declared.limit.Limit.{Limit}
use Rattle.roff_num.specs.declared.short_name.ShortName.{ShortName}
use Rattle.roff_num.specs.ShortNames.{name_bytes}
use Rattle.input_escapes.specs.OpenEscape.{unit_bytes}
use Rattle.input_escapes.specs.declared.open_escape.CopyUnit.{CopyUnit}
use Rattle.input_model.specs.Input.Names.{adding, calling, texts_of}
use Rattle.input_model.specs.Unread.{changing}
use Rattle.roff_store.specs.Named.{entry_of}
use Rattle.roff_store.specs.TextCalls.{Set}
use Rattle.roff_store.specs.Texts.{Entry, Body as BodyOfName, Request as RequestOfName, has_body, is_body, kind_given, kind_of}
use Rattle.roff_store.specs.declared.text.Kind.{Kind}
use Rattle.roff_store.specs.declared.text.Kind.TheVariants.{Body as BodyGiven, Request as RequestGiven}
use Rattle.read_names.specs.Inputs.{InputCameTo}
use Rattle.run_model.specs.Reading.Definitions.{definition_grown}
use Rattle.run_model.specs.Reading.Items.{PageUnread}
use Rattle.run_model.specs.Reading.Strings.{string_emptied, string_grown}
use Rattle.read_names.proofs.InputsChanged.{InputCameTo-changing}

-- a string with a name grows by what is added
pub InputCameTo-grown : (name : Option ShortName) (unit : CopyUnit) (before behind : PageUnread) (result : Result (Unit {0}) Limit) → is_some name ≡ true
    → (result, behind) ≡ changing (adding (unit_bytes unit) before.input) before → InputCameTo (string_grown name unit before.input) before behind result
InputCameTo-grown None unit before behind result is changes = absurd (cc)
InputCameTo-grown (Some name) unit before behind result is changes = InputCameTo-changing (adding (unit_bytes unit) before.input) before behind result changes

-- a name that stands for nothing, or for a request, has no body
is_body-kind : (entry : Option Entry) (kind : Option Kind) → option_map kind_given kind ≡ option_map kind_of entry → ((count : ℕ) → kind ≡ Some (BodyGiven count) → ⊥)
    → is_body entry ≡ false
is_body-kind None kind same no_body = refl
is_body-kind (Some (RequestOfName number)) kind same no_body = refl
is_body-kind (Some (BodyOfName bytes)) None same no_body = cc
is_body-kind (Some (BodyOfName bytes)) (Some (BodyGiven count)) same no_body = absurd (no_body count refl)
is_body-kind (Some (BodyOfName bytes)) (Some (RequestGiven number)) same no_body = cc

no_second : (appends has : Bool) → has ≡ false → (appends && has) ≡ false
no_second true has none = none
no_second false has none = refl

-- a string that isn't appended to, or has no body to append to, is empty
emptied : (name : ShortName) (appends : Bool) (before behind : PageUnread) (result : Result (Unit {0}) Limit)
    → (appends && has_body (name_bytes name) (texts_of before.input)) ≡ false
    → (result, behind) ≡ changing (calling (Set (name_bytes name) (BodyOfName [])) before.input) before
    → InputCameTo (string_emptied (Some name) appends before.input) before behind result
emptied name appends before behind result none changes =
    rw none (InputCameTo-changing (calling (Set (name_bytes name) (BodyOfName [])) before.input) before behind result changes)

pub InputCameTo-fresh : (name : ShortName) (appends : Bool) (before behind : PageUnread) (result : Result (Unit {0}) Limit) → appends ≡ false
    → (result, behind) ≡ changing (calling (Set (name_bytes name) (BodyOfName [])) before.input) before
    → InputCameTo (string_emptied (Some name) appends before.input) before behind result
InputCameTo-fresh name appends before behind result fresh changes = emptied name appends before behind result (rw fresh refl) changes

pub InputCameTo-new : (name : ShortName) (appends : Bool) (kind : Option Kind) (before behind : PageUnread) (result : Result (Unit {0}) Limit)
    → option_map kind_given kind ≡ option_map kind_of (entry_of (name_bytes name) before.input.names) → ((count : ℕ) → kind ≡ Some (BodyGiven count) → ⊥)
    → (result, behind) ≡ changing (calling (Set (name_bytes name) (BodyOfName [])) before.input) before
    → InputCameTo (string_emptied (Some name) appends before.input) before behind result
InputCameTo-new name appends kind before behind result same no_body changes =
    emptied name appends before behind result
    (no_second appends _ (is_body-kind (entry_of (name_bytes name) before.input.names) kind same no_body)) changes

-- the text of a definition grows, if a name gets it
pub InputCameTo-defined : (name : Option ShortName) (bytes : List ℕ) (before behind : PageUnread) (result : Result (Unit {0}) Limit) → is_some name ≡ true
    → (result, behind) ≡ changing (adding bytes before.input) before → InputCameTo (definition_grown name bytes before.input) before behind result
InputCameTo-defined None bytes before behind result is changes = absurd (cc)
InputCameTo-defined (Some name) bytes before behind result is changes = InputCameTo-changing (adding bytes before.input) before behind result changes
