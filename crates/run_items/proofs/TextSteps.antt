-- The text of a diversion changes in a step of its own, before what was left is done or put back behind a macro.
use Rattle.std.proofs.Common.{◌∙◌, ◌≡◌, ◌-◌, ℕ, false, List, length, Option, Some, None, ap, arith, refl, if◌then◌else◌, map, nat_lt}
use Rattle.roff_num.specs.ShortNames.{name_bytes}
use Rattle.roff_num.specs.declared.limit.Limit.{Limit}
use Rattle.roff_num.specs.declared.limit.Limit.TheVariants.{Conditions, Depth, Diversions, Names, Stack, Store}
use Rattle.roff_num.specs.declared.limits.Limits.{Limits}
use Rattle.roff_num.specs.declared.short_name.ShortName.{ShortName}
use Rattle.input_model.specs.Input.{depth, pushed, putting_all_back, result_count}
use Rattle.input_model.specs.Input.Names.{calling_on, names_added, open_numbered, stored}
use Rattle.input_model.specs.Unread.{input_refusal}
use Rattle.page_model.specs.DueTexts.{TextDue, Begins, Ends, Gets, AllDropped}
use Rattle.roff_store.specs.TextCalls.{Call, Enter, PushOpen}
use Rattle.run_model.proofs.InputCounts.{first_passed-few_names}
use Rattle.run_model.proofs.PutBack.{bytes_ahead-back, ends_ahead-back}
use Rattle.run_model.specs.Following.{text_changed}
use Rattle.run_model.specs.PageEvents.{PageEvent}
use Rattle.run_model.specs.Reading.Items.{PageInput}
use Rattle.run_model.specs.Registers.{AllRegisters}
use Rattle.run_model.specs.Run.{State, followed_by, made, only_sprung, step, step_behind, text_done, unless_refused}
use Rattle.run_model.specs.Run.Counts.{counts_in, first_passed}
use Rattle.run_model.specs.TitleTexts.{title_length}
use Rattle.run_model.specs.Titles.{keeping, put_back}

-- what stands in front stays there, whatever becomes of a text
on-back : (call : ℕ → Call) (id : Option ℕ) (events : List PageEvent) (i : PageInput)
    → calling_on call id (putting_all_back events i) ≡ putting_all_back events (calling_on call id i)
on-back call None events i = refl
on-back call (Some n) events i = refl

pub text_changed-back : (due : TextDue) (events : List PageEvent) (i : PageInput)
    → text_changed due (putting_all_back events i) ≡ putting_all_back events (text_changed due i)
text_changed-back Begins events i = refl
text_changed-back (Ends index name appends) events i = on-back (λ id. Enter id (name_bytes name) appends) (open_numbered index i) events i
text_changed-back (Gets index bytes) events i = on-back (λ id. PushOpen id bytes) (open_numbered index i) events i
text_changed-back AllDropped events i = refl

-- events that are put back count in no limit
refusal-back : (l : Limits) (events : List PageEvent) (i : PageInput) → input_refusal l (putting_all_back events i) ≡ input_refusal l i
refusal-back l events i =
    let back : PageInput = putting_all_back events i in
    let of : ℕ → ℕ → Option Limit = λ bytes texts.
    if nat_lt l.store (stored i) then Some Store
    else if nat_lt l.names (names_added i) then Some Names
    else if nat_lt l.diversions (length i.open_texts - 1) then Some Diversions
    else if nat_lt l.stack bytes then Some Stack
    else if nat_lt l.depth texts then Some Depth
    else if nat_lt l.conditions (result_count i) then Some Conditions
    else None in
    let bytes : pushed back ≡ pushed i = omega (arith, bytes_ahead-back events i.ahead) in
    let texts : depth back ≡ depth i = omega (arith, ends_ahead-back events i.ahead) in
    ap (λ (n : ℕ). of n (depth back)) bytes ∙ ap (λ (n : ℕ). of (pushed i) n) texts

-- nor does a title that is kept
keeping-few : (events : List PageEvent) (rs : AllRegisters) (l : Limits) (i : PageInput)
    → nat_lt l.names (length (keeping events rs).named) ≡ false → nat_lt l.line (title_length (keeping events rs).title) ≡ false
    → first_passed l (counts_in (keeping events rs) (putting_all_back (map put_back events) i)) ≡ input_refusal l i
keeping-few events rs l i few short =
    first_passed-few_names l (keeping events rs) (putting_all_back (map put_back events) i) few short ∙ refusal-back l (map put_back events) i

-- the step of a state with a text due
step-due : (l : Limits) (s : State) (due : TextDue) → s.ended ≡ None → s.follows.text ≡ Some due → step l s ≡ made l s (text_done due s)
step-due l s due goes is =
    ap (λ ended. elim ended [ None ↦ step_behind l s.follows.text s | Some status ↦ s ]) goes ∙ ap (λ (text : Option TextDue). step_behind l text s) is

-- a state behind events of which one stopped them, whose text is to change
abbrev pub text_due_at : TextDue → Option ShortName → List PageEvent → State → State
text_due_at due sprung left s = followed_by (record { text = Some due; sprung = sprung }) left s

-- and once it changed
abbrev pub text_done_at : TextDue → Option ShortName → List PageEvent → State → State
text_done_at due sprung left s = followed_by (only_sprung sprung) left (record s { input = text_changed due s.input })

-- it changes in that step, unless a limit refuses it
pub text_step : (l : Limits) (s : State) (due : TextDue) (sprung : Option ShortName) (left : List PageEvent) → s.ended ≡ None
    → nat_lt l.names (length s.registers.named) ≡ false → nat_lt l.line (title_length s.registers.title) ≡ false
    → nat_lt l.names (length (keeping left s.registers).named) ≡ false → nat_lt l.line (title_length (keeping left s.registers).title) ≡ false
    → step l (text_due_at due sprung left s)
    ≡ unless_refused l (input_refusal l (text_changed due s.input)) (text_due_at due sprung left s) (text_done_at due sprung left s)
text_step l s due None left goes few short few_kept short_kept =
    let from : State = text_due_at due None left s in
    let there : State = text_done_at due None left s in
    step-due l from due goes refl
    ∙ ap (λ (r : Option Limit). unless_refused l r from there) (first_passed-few_names l s.registers (text_changed due s.input) few short)
text_step l s due (Some name) left goes few short few_kept short_kept =
    let from : State = text_due_at due (Some name) left s in
    let there : State = text_done_at due (Some name) left s in
    step-due l from due goes refl
    ∙ ap (λ (i : PageInput). made l from (record there { input = i })) (text_changed-back due (map put_back left) s.input)
    ∙ ap (λ (r : Option Limit). unless_refused l r from there) (keeping-few left s.registers l (text_changed due s.input) few_kept short_kept)

-- what stands in front, what is half read and what was paid for stay
pub record SameFront (i j : PageInput) : Type 0 where
  pub ahead : i.ahead ≡ j.ahead
  pub escapes : i.escapes ≡ j.escapes
  pub charge : i.charge ≡ j.charge
  pub line : i.line ≡ j.line

-- so they do as texts change
on-front : (call : ℕ → Call) (id : Option ℕ) (i : PageInput) → SameFront (calling_on call id i) i
on-front call None i = record { ahead = refl; escapes = refl; charge = refl; line = refl }
on-front call (Some n) i = record { ahead = refl; escapes = refl; charge = refl; line = refl }

pub text-front : (due : TextDue) (i : PageInput) → SameFront (text_changed due i) i
text-front Begins i = record { ahead = refl; escapes = refl; charge = refl; line = refl }
text-front (Ends index name appends) i = on-front (λ id. Enter id (name_bytes name) appends) (open_numbered index i) i
text-front (Gets index bytes) i = on-front (λ id. PushOpen id bytes) (open_numbered index i) i
text-front AllDropped i = record { ahead = refl; escapes = refl; charge = refl; line = refl }
