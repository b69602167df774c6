-- Runs over bytes that mean events.
use Rattle.std.proofs.Common.{◌≡◌, ℕ, zero, suc, ◌+◌, ◌≤◌, Bool, true, false, List, ◌∷◌, ◌++◌, length, Option, Some, None, refl, ap, sym, subst, ◌∙◌, arith, append_assoc, [], map, append-nil, length-append}
use Rattle.std.specs.Prelude.{⊤}
use Rattle.roff_num.specs.declared.limits.Limits.{Limits}
use Rattle.roff_num.specs.declared.limit.Limit.{Limit}
use Rattle.input_model.specs.Input.{ByteAhead}
use Rattle.run_model.proofs.ItemsTaken.{Fits, Fits-IsWithin, FromAhead, FromSource, Origin, bytes_ahead_are_taken, bytes_of_the_source_are_taken, made-Fits}
use Rattle.run_model.proofs.Leads.{after-add}
use Rattle.run_model.proofs.PlainRuns.{behind_byte, behind_bytes, run_at}
use Rattle.run_model.specs.Environments.{PageHistory}
use Rattle.run_model.specs.ItemsTaken.{TakesItems}
use Rattle.run_model.specs.Reading.{byte_taking}
use Rattle.run_model.specs.Reading.Ends.{due}
use Rattle.run_model.specs.Reading.Items.{PageInput, Taking, meaning_events}
use Rattle.run_model.specs.Registers.{AllRegisters, Known}
use Rattle.run_model.specs.PageEvents.{PageEvent, PastEvent}
use Rattle.run_model.specs.Titles.{told}
use Rattle.page_model.specs.declared.event.Event.TheVariants.{FieldEnd, WordEnd}
use Rattle.page_model.specs.declared.layout_event.LayoutEvent.TheVariants.{Begin}
use Rattle.run_model.specs.declared.event.PageEvent.TheVariants.{Page, Text}
use Rattle.law_runs.proofs.ComesBefore.{ComesBefore, NothingComes, FieldEndComes, PageComes, WordEndComes, comes_before, end_steps, page_steps, steps_in_front, steps_in_front-few}
use Rattle.law_runs.proofs.PerformedOrStopped.{left_of-none}
use Rattle.law_reading.specs.TextLaws.{AllQuiet, IsQuiet, all_performed, performed_with}
use Rattle.run_model.specs.Run.{Following, State, after, done_if, followed_by, known, made, nothing_follows, performed, performing, step, step_behind, taken_as, unless_refused}
use Rattle.run_model.specs.TurnsToCome.{behind_all}
use Rattle.run_model.specs.declared.line_state.LineState.{LineState}
use Rattle.run_model.specs.declared.line_state.LineState.TheVariants.{LineStart}
use Rattle.run_model.specs.declared.status.Status.{Status}
use Rattle.law_reading.proofs.LineRooms.{Room, reads_at, room-behind, within-room}
use Rattle.run_model.specs.Following.{following}
use Rattle.run_model.specs.Layouts.{layout_of}
use Rattle.page_model.specs.Queries.{takes_text}
use Rattle.run_model.specs.Springs.{ends_field, left_of, next, word_end_of}
use Rattle.run_model.specs.Run.Counts.{refusal}

-- events are quiet as they are performed, each with what comes before it
abbrev pub AreQuiet : Limits → AllRegisters → PageHistory → List PageEvent → Type 0
AreQuiet l rs h events = AllQuiet l rs h (all_performed rs events h)

-- how many steps they take, and the history behind them
abbrev pub steps_of : AllRegisters → List PageEvent → PageHistory → ℕ
steps_of rs events h = length (all_performed rs events h)

abbrev pub behind_performed : AllRegisters → List PageEvent → PageHistory → PageHistory
behind_performed rs events h = behind_all rs (all_performed rs events h) h

-- a step at one that is quiet
quiet-step : (l : Limits) (s : State) (e : PastEvent) (left : List PageEvent) → s.follows ≡ nothing_follows → IsQuiet l s.history e
    → unless_refused l (refusal l s.history e) s (performed e left s) ≡ record s { to_do = left; history = e ∷ s.history }
quiet-step l s e left unfollowed quiet =
    let happened : State = record s { history = e ∷ s.history } in
    ap (λ (refused : Option Limit). unless_refused l refused s (performed e left s)) quiet.allowed
    ∙ ap (λ (over : Bool). done_if over happened (followed_by (following s.history e) left happened)) quiet.goes_on
    ∙ ap (λ (f : Following). followed_by f left happened) quiet.unfollowed
    ∙ ap (λ (f : Following). record happened { to_do = left; follows = f }) (sym unfollowed)

-- one that is to do
quiet-alone : (l : Limits) (s : State) (e : PageEvent) (es : List PageEvent) → s.ended ≡ None → s.follows ≡ nothing_follows
    → next s.history e ≡ None → IsQuiet l s.history (told s.registers e)
    → step l (record s { to_do = e ∷ es }) ≡ record s { to_do = es; history = told s.registers e ∷ s.history }
quiet-alone l s e es going unfollowed is quiet =
    let before : State = record s { to_do = e ∷ es } in
    let happens : PastEvent = told s.registers e in
    ap (λ (ended : Option Status). elim ended [ None ↦ step_behind l before.follows.text before | Some status ↦ before ]) going
    ∙ ap (λ (f : Following). step_behind l f.text before) unfollowed
    ∙ ap (λ (own : Option PageEvent). performing l own e es before) is
    ∙ quiet-step l before happens (left_of s.history happens ++ es) unfollowed quiet
    ∙ ap (λ (front : List PageEvent). record s { to_do = front ++ es; history = happens ∷ s.history })
    (left_of-none s.registers e s.history (ap (λ (f : Following). f.sprung) quiet.unfollowed))

-- or what comes before it
quiet-own : (l : Limits) (s : State) (own e : PageEvent) (es : List PageEvent) → s.ended ≡ None → s.follows ≡ nothing_follows
    → next s.history e ≡ Some own → IsQuiet l s.history (told s.registers own)
    → step l (record s { to_do = e ∷ es }) ≡ record s { to_do = e ∷ es; history = told s.registers own ∷ s.history }
quiet-own l s own e es going unfollowed is quiet =
    let before : State = record s { to_do = e ∷ es } in
    ap (λ (ended : Option Status). elim ended [ None ↦ step_behind l before.follows.text before | Some status ↦ before ]) going
    ∙ ap (λ (f : Following). step_behind l f.text before) unfollowed
    ∙ ap (λ (own : Option PageEvent). performing l own e es before) is
    ∙ quiet-step l before (told s.registers own) (e ∷ es) unfollowed quiet

-- where no more events come before one than so many, those are performed, and it is
abbrev PerformsOthers : Limits → List PageEvent → Type 0
PerformsOthers l es =
    (u : State) → u.ended ≡ None → u.follows ≡ nothing_follows → AreQuiet l u.registers u.history es →
    after l (steps_of u.registers es u.history) (record u { to_do = es })
    ≡ record u { to_do = []; history = behind_performed u.registers es u.history }

abbrev PerformsFirst : Limits → State → PageEvent → List PageEvent → List PageEvent → Type 0
PerformsFirst l s e es performed =
    AllQuiet l s.registers s.history performed →
    after l (length performed) (record s { to_do = e ∷ es })
    ≡ record s { to_do = []; history = behind_all s.registers performed s.history }

perform-alone : (l : Limits) (s : State) (e : PageEvent) (es : List PageEvent) → s.ended ≡ None → s.follows ≡ nothing_follows
    → next s.history e ≡ None → PerformsOthers l es
    → PerformsFirst l s e es (e ∷ all_performed s.registers es (told s.registers e ∷ s.history))
perform-alone l s e es going unfollowed none others quiet =
    let h : PageHistory = told s.registers e ∷ s.history in
    ap (after l (steps_of s.registers es h)) (quiet-alone l s e es going unfollowed none quiet.0)
    ∙ others (record s { history = h }) going unfollowed quiet.1

perform-own : (l : Limits) (s : State) (own e : PageEvent) (es performed : List PageEvent) → s.ended ≡ None → s.follows ≡ nothing_follows
    → next s.history e ≡ Some own
    → PerformsFirst l (record s { history = told s.registers own ∷ s.history }) e es performed
    → PerformsFirst l s e es (own ∷ performed)
perform-own l s own e es performed going unfollowed is others quiet =
    ap (after l (length performed)) (quiet-own l s own e es going unfollowed is quiet.0) ∙ others quiet.1

-- how many steps may be in front of an event where so many events come before it at the most: one of the ends counts twice
abbrev most_steps : ℕ → ℕ
most_steps zero = 0
most_steps (suc zero) = 2
most_steps (suc (suc n)) = n + 3

end_steps-none : (in_field : Bool) (own : Option PageEvent) → end_steps in_field own ≤ 1 → end_steps in_field own ≤ 0
end_steps-none true own few = absurd (omega (arith, few))
end_steps-none false None few = omega arith
end_steps-none false (Some own) few = absurd (omega (arith, few))

fewer-field : (n before behind : ℕ) → 3 ≤ before → behind + 1 ≤ before → before ≤ most_steps (suc n) → behind ≤ most_steps n
fewer-field zero before behind some fewer few = absurd (omega (arith, some, few))
fewer-field (suc zero) before behind some fewer few = omega (arith, fewer, few)
fewer-field (suc (suc n)) before behind some fewer few = omega (arith, fewer, few)

fewer-word : (n before behind : ℕ) → behind + 2 ≤ before → before ≤ most_steps (suc n) → behind ≤ most_steps n
fewer-word zero before behind fewer few = omega (arith, fewer, few)
fewer-word (suc zero) before behind fewer few = omega (arith, fewer, few)
fewer-word (suc (suc n)) before behind fewer few = omega (arith, fewer, few)

fewer-page : (n : ℕ) (h g : PageHistory) (e : PageEvent) → takes_text (layout_of h) ≡ false → steps_in_front g e + 1 ≤ steps_in_front h e
    → steps_in_front h e ≤ most_steps (suc n) → steps_in_front g e ≤ most_steps n
fewer-page zero h g e none fewer few =
    let begun : page_steps (takes_text (layout_of h)) ≡ 1 = ap page_steps none in
    omega (arith, fewer, begun, end_steps-none (ends_field h e) (word_end_of h e) (omega (arith, few, begun)))
fewer-page (suc zero) h g e none fewer few = omega (arith, fewer, few)
fewer-page (suc (suc n)) h g e none fewer few = omega (arith, fewer, few)

-- by what comes before it
perform-by : (l : Limits) (n : ℕ) (s : State) (e : PageEvent) (es : List PageEvent) (own : Option PageEvent)
    → s.ended ≡ None → s.follows ≡ nothing_follows → next s.history e ≡ own → ComesBefore s.history e own
    → steps_in_front s.history e ≤ most_steps (suc n) → PerformsOthers l es
    → let rs : AllRegisters = s.registers in
    ((g : PageHistory) → steps_in_front g e ≤ most_steps n
    → PerformsFirst l (record s { history = g }) e es (performed_with rs n g e (all_performed rs es)))
    → PerformsFirst l s e es (elim own [
      | None ↦ e ∷ all_performed rs es (told rs e ∷ s.history)
      | Some first ↦ first ∷ performed_with rs n (told rs first ∷ s.history) e (all_performed rs es)
    ])
perform-by l n s e es own going unfollowed is (NothingComes none_begins) few others first =
    perform-alone l s e es going unfollowed is others
perform-by l n s e es own going unfollowed is (FieldEndComes ends none_begins fewer) few others first =
    let h : PageHistory = Text FieldEnd ∷ s.history in
    let some : end_steps (ends_field s.history e) (word_end_of s.history e) ≡ 3 =
    ap (λ (c : Bool). end_steps c (word_end_of s.history e)) ends in
    perform-own l s (Text FieldEnd) e es _ going unfollowed is
    (first h (fewer-field n (steps_in_front s.history e) (steps_in_front h e) (omega (arith, some)) fewer few))
perform-by l n s e es own going unfollowed is (WordEndComes none_begins fewer) few others first =
    let h : PageHistory = Text WordEnd ∷ s.history in
    perform-own l s (Text WordEnd) e es _ going unfollowed is
    (first h (fewer-word n (steps_in_front s.history e) (steps_in_front h e) fewer few))
perform-by l n s e es own going unfollowed is (PageComes none_begun fewer) few others first =
    let h : PageHistory = Page Begin ∷ s.history in
    perform-own l s (Page Begin) e es _ going unfollowed is (first h (fewer-page n s.history h e none_begun fewer few))

-- nothing comes before an event where no step does
none_in_front : (h : PageHistory) (e : PageEvent) (own : Option PageEvent) → ComesBefore h e own → steps_in_front h e ≤ 0 → own ≡ None
none_in_front h e own (NothingComes none_begins) none = refl
none_in_front h e own (FieldEndComes ends none_begins fewer) none = absurd (omega (arith, fewer, none))
none_in_front h e own (WordEndComes none_begins fewer) none = absurd (omega (arith, fewer, none))
none_in_front h e own (PageComes none_begun fewer) none = absurd (omega (arith, fewer, none))

perform-first : (l : Limits) (n : ℕ) (s : State) (e : PageEvent) (es : List PageEvent) → s.ended ≡ None → s.follows ≡ nothing_follows
    → steps_in_front s.history e ≤ most_steps n → PerformsOthers l es
    → PerformsFirst l s e es (performed_with s.registers n s.history e (all_performed s.registers es))
perform-first l zero s e es going unfollowed few others =
    perform-alone l s e es going unfollowed (none_in_front s.history e (next s.history e) (comes_before s.history e) few) others
perform-first l (suc n) s e es going unfollowed few others =
    perform-by l n s e es (next s.history e) going unfollowed refl (comes_before s.history e) few others
    (λ g few. perform-first l n (record s { history = g }) e es going unfollowed few others)

-- they are performed in a step each
pub perform-all : (l : Limits) (s : State) (events : List PageEvent) → s.ended ≡ None → s.follows ≡ nothing_follows
    → AreQuiet l s.registers s.history events
    → after l (steps_of s.registers events s.history) (record s { to_do = events })
    ≡ record s { to_do = []; history = behind_performed s.registers events s.history }
perform-all l s [] going unfollowed quiet = refl
perform-all l s (e ∷ es) going unfollowed quiet =
    perform-first l 3 s e es going unfollowed (steps_in_front-few s.history e)
    (λ u going unfollowed quiet. perform-all l u es going unfollowed quiet) quiet

-- events one behind another, by what comes before the first
append-by : (rs : AllRegisters) (n : ℕ) (h : PageHistory) (e : PageEvent) (first both more : PageHistory → List PageEvent)
    (own : Option PageEvent) → ((g : PageHistory) → both g ≡ first g ++ more (behind_all rs (first g) g))
    → let front : PageHistory → List PageEvent = λ g. performed_with rs n g e first in
    ((g : PageHistory) → performed_with rs n g e both ≡ front g ++ more (behind_all rs (front g) g))
    → let all : (PageHistory → List PageEvent) → List PageEvent = λ behind.
    elim own [ None ↦ e ∷ behind (told rs e ∷ h) | Some own ↦ own ∷ performed_with rs n (told rs own ∷ h) e behind ] in
    all both ≡ all first ++ more (behind_all rs (all first) h)
append-by rs n h e first both more None same others = ap (λ (es : List PageEvent). e ∷ es) (same (told rs e ∷ h))
append-by rs n h e first both more (Some own) same others = ap (λ (es : List PageEvent). own ∷ es) (others (told rs own ∷ h))

with-append : (rs : AllRegisters) (n : ℕ) (h : PageHistory) (e : PageEvent) (first both more : PageHistory → List PageEvent)
    → ((g : PageHistory) → both g ≡ first g ++ more (behind_all rs (first g) g))
    → performed_with rs n h e both ≡ performed_with rs n h e first ++ more (behind_all rs (performed_with rs n h e first) h)
with-append rs zero h e first both more same = ap (λ (es : List PageEvent). e ∷ es) (same (told rs e ∷ h))
with-append rs (suc n) h e first both more same =
    append-by rs n h e first both more (next h e) same (λ g. with-append rs n g e first both more same)

pub performed-append : (rs : AllRegisters) (events more : List PageEvent) (h : PageHistory)
    → all_performed rs (events ++ more) h ≡ all_performed rs events h ++ all_performed rs more (behind_performed rs events h)
performed-append rs [] more h = refl
performed-append rs (e ∷ events) more h =
    with-append rs 3 h e (all_performed rs events) (all_performed rs (events ++ more)) (all_performed rs more)
    (λ g. performed-append rs events more g)

behind_all-append : (rs : AllRegisters) (events more : List PageEvent) (h : PageHistory)
    → behind_all rs (events ++ more) h ≡ behind_all rs more (behind_all rs events h)
behind_all-append rs [] more h = refl
behind_all-append rs (e ∷ events) more h = behind_all-append rs events more (told rs e ∷ h)

pub behind-append : (rs : AllRegisters) (events more : List PageEvent) (h : PageHistory)
    → behind_performed rs (events ++ more) h ≡ behind_performed rs more (behind_performed rs events h)
behind-append rs events more h =
    ap (λ (all : List PageEvent). behind_all rs all h) (performed-append rs events more h)
    ∙ behind_all-append rs (all_performed rs events h) (all_performed rs more (behind_performed rs events h)) h

pub steps-append : (rs : AllRegisters) (events more : List PageEvent) (h : PageHistory)
    → steps_of rs (events ++ more) h ≡ steps_of rs events h + steps_of rs more (behind_performed rs events h)
steps-append rs events more h =
    ap (λ (all : List PageEvent). length all) (performed-append rs events more h)
    ∙ length-append (all_performed rs events h) (all_performed rs more (behind_performed rs events h))

-- the first of them are quiet, and the others
quiet-parts : (l : Limits) (rs : AllRegisters) (h : PageHistory) (events more : List PageEvent) → AllQuiet l rs h (events ++ more)
    → AllQuiet l rs h events × AllQuiet l rs (behind_all rs events h) more
quiet-parts l rs h [] more quiet = (tt, quiet)
quiet-parts l rs h (e ∷ events) more quiet =
    let others = quiet-parts l rs (told rs e ∷ h) events more quiet.1 in ((quiet.0, others.0), others.1)

pub quiet-front : (l : Limits) (rs : AllRegisters) (h : PageHistory) (events more : List PageEvent)
    → AreQuiet l rs h (events ++ more) → AreQuiet l rs h events × AreQuiet l rs (behind_performed rs events h) more
quiet-front l rs h events more quiet =
    quiet-parts l rs h (all_performed rs events h) (all_performed rs more (behind_performed rs events h))
    (subst (AllQuiet l rs h) (performed-append rs events more h) quiet)

-- what is meant of an item, where nothing is to do
pub taken_as-meaning : (i : PageInput) (reading : LineState) (events : List PageEvent) (s : State) → s.to_do ≡ []
    → taken_as (meaning_events i reading events) s ≡ record s { input = i; reading = reading; to_do = events }
taken_as-meaning i reading events s idle =
    let of : List ℕ → List PageEvent → State = λ messages to_do. record s { input = i; reading = reading; messages = messages; to_do = to_do } in
    ap (λ (m : List ℕ). of m (events ++ s.to_do)) (append-nil s.messages)
    ∙ ap (λ (others : List PageEvent). of s.messages (events ++ others)) idle
    ∙ ap (of s.messages) (append-nil events)

-- a byte means these where this is read and nothing is half read, if this is known, and that is read behind it
abbrev pub Means : (Known → Type 0) → LineState → ℕ → List PageEvent → LineState → Type 0
Means so p b events q = (k : Known) (i : PageInput) → so k → i.escapes ≡ [] → byte_taking k p i b ≡ meaning_events i q events

abbrev pub Always : Known → Type 0
Always k = ⊤

-- bytes that mean events, one after another
pub data Tells : LineState → List ℕ → List PageEvent → LineState → Type 0 where
  Here : (p : LineState) → Tells p [] [] p
  Onward : (p q r : LineState) (b : ℕ) (bytes : List ℕ) (events more : List PageEvent) → due p ≡ None → Means Always p b events q → Tells q bytes more r
      → Tells p (b ∷ bytes) (events ++ more) r

pub Tells-append : (p q r : LineState) (front behind : List ℕ) (events more : List PageEvent) → Tells p front events q → Tells q behind more r
    → Tells p (front ++ behind) (events ++ more) r
Tells-append _ q r _ behind _ more (Here p) others = others
Tells-append p q r _ behind _ more (Onward _ next _ b bytes events rest none_due means path) others =
    subst (λ (all : List PageEvent). Tells p (b ∷ bytes ++ behind) all r) (sym (append_assoc events rest more))
    (Onward p next r b (bytes ++ behind) events (rest ++ more) none_due means (Tells-append next q r bytes behind rest more path others))

-- a run that reads this behind such a history, where these bytes come next
abbrev pub text_at : State → LineState → Origin → List ℕ → PageInput → PageHistory → State
text_at s reading from bytes i h = run_at (record s { history = h }) s.input.names (reads_at reading s) from bytes i

-- a step at a byte, and those of its events
step-meant : (l : Limits) (s : State) (from : Origin) (p q : LineState) (b : ℕ) (bytes : List ℕ) (events : List PageEvent) (i : PageInput) (h : PageHistory)
    → TakesItems s → due p ≡ None → i.charge + 1 ≤ l.bytes → Fits l s.registers (text_at s q from bytes (behind_byte from b i) h).input
    → byte_taking (known (text_at s p from bytes (behind_byte from b i) h)) p (text_at s p from bytes (behind_byte from b i) h).input b
    ≡ meaning_events (text_at s p from bytes (behind_byte from b i) h).input q events
    → step l (text_at s p from (b ∷ bytes) i h) ≡ record (text_at s q from bytes (behind_byte from b i) h) { to_do = events }
step-meant l s (FromAhead rest) p q b bytes events i h on none_due few fits means =
    let from : Origin = FromAhead rest in
    let before : State = text_at s p from (b ∷ bytes) i h in
    let taken : State = text_at s p from bytes (behind_byte from b i) h in
    let there : State = record (text_at s q from bytes (behind_byte from b i) h) { to_do = events } in
    bytes_ahead_are_taken l before b (map ByteAhead bytes ++ rest) (record { going = on.going; is_open = on.is_open; idle = on.idle; unsprung = on.unsprung; none_due = none_due })
    refl refl (omega (arith, few))
    ∙ ap (made l before) (ap (λ (t : Taking). taken_as t taken) means ∙ taken_as-meaning taken.input q events taken on.idle)
    ∙ made-Fits l before there fits
step-meant l s (FromSource tape) p q b bytes events i h on none_due few fits means =
    let from : Origin = FromSource tape in
    let before : State = text_at s p from (b ∷ bytes) i h in
    let taken : State = text_at s p from bytes (behind_byte from b i) h in
    let there : State = record (text_at s q from bytes (behind_byte from b i) h) { to_do = events } in
    bytes_of_the_source_are_taken l before b (record { going = on.going; is_open = on.is_open; idle = on.idle; unsprung = on.unsprung; none_due = none_due })
    refl refl refl (omega (arith, few))
    ∙ ap (made l before) (ap (λ (t : Taking). taken_as t taken) means ∙ taken_as-meaning taken.input q events taken on.idle)
    ∙ made-Fits l before there fits

-- a state at a stage, with nothing to do
pub idle-state : (s : State) (reading : LineState) (from : Origin) (bytes : List ℕ) (i : PageInput) (h : PageHistory) → s.to_do ≡ []
    → record (text_at s reading from bytes i h) { to_do = [] } ≡ text_at s reading from bytes i h
idle-state s reading from bytes i h idle = ap (λ (to_do : List PageEvent). record (text_at s reading from bytes i h) { to_do = to_do }) (sym idle)

pub fits-room : (l : Limits) (s : State) (q : LineState) (from : Origin) (bytes : List ℕ) (i : PageInput) (h : PageHistory) → Room l s from bytes i
    → Fits l s.registers (text_at s q from bytes i h).input
fits-room l s q from bytes i h room = Fits-IsWithin l (run_at s s.input.names (reads_at LineStart s) from bytes i) (within-room l s from LineStart bytes i room)

-- a byte and its events
pub after-meant : (l : Limits) (s : State) (from : Origin) (p q : LineState) (b : ℕ) (bytes : List ℕ) (events : List PageEvent) (i : PageInput) (h : PageHistory)
    → TakesItems s → due p ≡ None → Room l s from (b ∷ bytes) i → AreQuiet l s.registers h events
    → byte_taking (known (text_at s p from bytes (behind_byte from b i) h)) p (text_at s p from bytes (behind_byte from b i) h).input b
    ≡ meaning_events (text_at s p from bytes (behind_byte from b i) h).input q events
    → after l (suc (steps_of s.registers events h)) (text_at s p from (b ∷ bytes) i h)
    ≡ text_at s q from bytes (behind_byte from b i) (behind_performed s.registers events h)
after-meant l s from p q b bytes events i h on none_due room quiet means =
    let there : State = text_at s q from bytes (behind_byte from b i) h in
    let fits : Fits l s.registers there.input = fits-room l s q from bytes (behind_byte from b i) h (room-behind l s from b bytes i room) in
    ap (after l (steps_of s.registers events h))
    (step-meant l s from p q b bytes events i h on none_due (omega (arith, room.charged)) fits means)
    ∙ perform-all l there events on.going on.unsprung quiet
    ∙ idle-state s q from bytes (behind_byte from b i) (behind_performed s.registers events h) on.idle

-- how many steps they are
steps-onward : (rs : AllRegisters) (events more : List PageEvent) (bytes : List ℕ) (h : PageHistory)
    → length (0 ∷ bytes) + steps_of rs (events ++ more) h
    ≡ suc (steps_of rs events h) + (length bytes + steps_of rs more (behind_performed rs events h))
steps-onward rs events more bytes h = omega (arith, steps-append rs events more h)

pub after-Tells : (l : Limits) (s : State) (from : Origin) (p q : LineState) (bytes more : List ℕ) (events : List PageEvent) (i : PageInput) (h : PageHistory)
    → TakesItems s → Tells p bytes events q → Room l s from (bytes ++ more) i → AreQuiet l s.registers h events
    → (after l (length bytes + steps_of s.registers events h) (text_at s p from (bytes ++ more) i h)
    ≡ text_at s q from more (behind_bytes from bytes i) (behind_performed s.registers events h))
    × Room l s from more (behind_bytes from bytes i)
after-Tells l s from _ q _ more _ i h on (Here p) room quiet = (refl, room)
after-Tells l s from p q _ more _ i h on (Onward _ next _ b bytes events rest none_due means path) room quiet =
    let rs : AllRegisters = s.registers in
    let both = quiet-front l rs h events rest quiet in
    let start : State = text_at s p from (b ∷ bytes ++ more) i h in
    let g : PageHistory = behind_performed rs events h in
    let first : after l (suc (steps_of rs events h)) start ≡ text_at s next from (bytes ++ more) (behind_byte from b i) g =
    after-meant l s from p next b (bytes ++ more) events i h on none_due room both.0
    (means (known (text_at s p from (bytes ++ more) (behind_byte from b i) h)) (text_at s p from (bytes ++ more) (behind_byte from b i) h).input tt refl) in
    let others = after-Tells l s from next q bytes more rest (behind_byte from b i) g on path (room-behind l s from b (bytes ++ more) i room) both.1 in (
      ap (λ (n : ℕ). after l n start) (steps-onward rs events rest bytes h)
          ∙ after-add l (suc (steps_of rs events h)) (length bytes + steps_of rs rest g) start
          ∙ ap (after l (length bytes + steps_of rs rest g)) first
          ∙ others.0
          ∙ ap (text_at s q from more (behind_bytes from (b ∷ bytes) i)) (sym (behind-append rs events rest h)),
      others.1,
    )
