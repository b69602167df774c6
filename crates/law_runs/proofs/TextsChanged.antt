-- What becomes of a state in which the text of a diversion changes: its input has other names and texts in the making, and nothing else.
use Rattle.std.proofs.Common.{◌≡◌, ℕ, List, [], Option, Some, None, sym, ◌∙◌, ap}
use Rattle.input_model.specs.Input.Names.{calling_on, open_numbered}
use Rattle.page_model.specs.DueTexts.{TextDue, Begins, Ends, Gets, AllDropped}
use Rattle.roff_num.specs.ShortNames.{name_bytes}
use Rattle.roff_num.specs.declared.short_name.ShortName.{ShortName}
use Rattle.run_model.specs.Reading.Items.{PageInput}
use Rattle.run_model.specs.Run.{Following, State, nothing_follows, only_sprung, text_done}
use Rattle.roff_store.specs.Named.{Named}
use Rattle.roff_store.specs.TextCalls.{Call, Enter, PushOpen}
use Rattle.roff_store.specs.Texts.{Entry}

-- with these names and texts, where what sprang is still to be read
abbrev pub with_texts_done : Named Entry → List (List ℕ) → State → State
with_texts_done names texts s =
    record s { follows = only_sprung s.follows.sprung; input = record s.input { names = names; open_texts = texts } }

-- what holds with any of them
abbrev HoldsWithTexts : (PageInput → Type 0) → PageInput → Type 0
HoldsWithTexts P i = (names : Named Entry) (texts : List (List ℕ)) → P (record i { names = names; open_texts = texts })

-- holds behind a call on one of them, if it is there
holds-calling_on : (P : PageInput → Type 0) (call : ℕ → Call) (id : Option ℕ) (i : PageInput) → HoldsWithTexts P i
    → P (calling_on call id i)
holds-calling_on P call None i holds = holds i.names i.open_texts
holds-calling_on P call (Some id) i holds = holds _ _

-- and behind a change of the text of a diversion
pub text-holds : (P : State → Type 0) (due : TextDue) (s : State)
    → ((names : Named Entry) (texts : List (List ℕ)) → P (with_texts_done names texts s)) → P (text_done due s)
text-holds P Begins s holds = holds _ _
text-holds P (Ends index name appends) s holds =
    holds-calling_on (λ (i : PageInput). P (record s { follows = only_sprung s.follows.sprung; input = i }))
    (λ id. Enter id (name_bytes name) appends)
    (open_numbered index s.input) s.input holds
text-holds P (Gets index bytes) s holds =
    holds-calling_on (λ (i : PageInput). P (record s { follows = only_sprung s.follows.sprung; input = i })) (λ id. PushOpen id bytes)
    (open_numbered index s.input) s.input holds
text-holds P AllDropped s holds = holds s.input.names []

-- where no text changes and nothing sprang nothing follows
pub follows-nothing : (f : Following) → f.text ≡ None → f.sprung ≡ None → f ≡ nothing_follows
follows-nothing f text sprung =
    let of : Option TextDue → Option ShortName → Following = λ t n. record { text = t; sprung = n } in
    ap (λ (t : Option TextDue). of t f.sprung) text ∙ ap (λ (n : Option ShortName). of None n) sprung

-- so no text changes where nothing follows, and nothing sprang
pub no_text : (f : Following) (due : TextDue) → f ≡ nothing_follows → f.text ≡ Some due → ⊥
no_text f due none some = let wrong : None ≡ Some due = sym (ap (λ (g : Following). g.text) none) ∙ some in absurd (cc)

pub none_sprung : (f : Following) (name : ShortName) → f ≡ nothing_follows → f.sprung ≡ Some name → ⊥
none_sprung f name none some = let wrong : None ≡ Some name = sym (ap (λ (g : Following). g.sprung) none) ∙ some in absurd (cc)
