-- The step that takes the item in front, or looks at it, by what the call of the unread input shows of it, and what
-- the calls take of their source.
use Rattle.std.proofs.Common.{◌≡◌, ℕ, ◌+◌, Bool, true, false, List, [], ◌∷◌, ◌++◌, Option, Some, None, refl, sym, subst, ap, nat_lt, ◌&&◌, is_none, if◌then◌else◌}
use Rattle.roff_num.specs.declared.limits.Limits.{Limits}
use Rattle.input_escapes.specs.Waiting.{is_ended_by}
use Rattle.input_model.specs.Input.{Ahead, ByteAhead, FreeAhead, EndAhead, ReturnAhead, DoAhead, cost, item_taken}
use Rattle.input_source.specs.Tape.{Tape, Item, Answer, Gives, Ends, OneByte, OneNote, Ending, Ended, Failed, Stopped, front, behind_front, items_then, only}
use Rattle.input_model.specs.declared.looked.Looked.{Looked}
use Rattle.input_model.specs.declared.looked.Looked.TheVariants.{Nothing, Byte, Closed}
use Rattle.input_model.specs.Looking.{answer_behind, is_closed, is_nothing, looked_then}
use Rattle.input_model.specs.Unread.{Unread, taking, taking_ahead, taking_answer, asks_to_take, looking, looking_at, looking_past, asks_to_look, Asked}
use Rattle.input_model.specs.Shown.{Shown, ShowsByte, ShowsEnd, ShowsReturn, ShowsDo, ShowsNote, ShowsEnding, ShowsRefusal, shown_ahead, Sighted, SeesByte, SeesNothing, SeesNote, SeesEnding, seen_ahead}
use Rattle.run_model.proofs.InputCounts.{one_of}
use Rattle.run_model.specs.Reading.Units.{interrupted}
use Rattle.run_model.specs.Reading.Returns.{behind_return}
use Rattle.run_model.specs.Reading.Items.{PageInput}
use Rattle.run_model.specs.Requests.{PageEvent}
use Rattle.run_model.specs.Run.{front_seen, State, made, byte_taken, ending_input, ending_with, ending_as, stopped_by, in_front_taken, answered, ahead_taken, escape_ends, awaited, awaited_of_source, going_back_to}
use Rattle.run_model.specs.declared.message.Message.TheVariants.{ReadFailed}
use Rattle.run_model.specs.declared.status.Status.TheVariants.{Device, Limit as Limited}

-- how the items of the source end, in a run with nothing ahead
abbrev pub ending_step : Limits → Ending → State → State
ending_step l Ended from = ending_input l from.input.escapes from
ending_step l Failed from = ending_with Device ReadFailed from
ending_step l (Stopped limit) from = ending_as (Limited limit) from

-- what a step does that takes the item in front, from one state, where this one is it without the item
abbrev pub shown_step : Limits → Shown PageEvent → State → State → State
shown_step l (ShowsByte b) from behind = made l from (byte_taken b behind)
shown_step l ShowsEnd from behind = made l from behind
shown_step l (ShowsReturn back) from behind = made l from (going_back_to (behind_return back behind.reading) behind)
shown_step l (ShowsDo e) from behind = made l from (record behind { input = interrupted behind.reading behind.input; to_do = e ∷ [] })
shown_step l (ShowsNote message) from behind = record behind { messages = behind.messages ++ message }
shown_step l (ShowsEnding ending) from behind = ending_step l ending from
shown_step l (ShowsRefusal limit) from behind = stopped_by l limit from

-- a state over this unread input, where the source still gives this tape
abbrev pub over_unread : Unread PageEvent → Tape → State → State
over_unread u tape s = record s { tape = looked_then u.looked tape; input = u.input; is_closed = is_closed u.looked }

-- the source's tape before and behind a call, by whether it was asked: it begins with what the source answered
pub data Given (a : Answer) : Bool → Tape → Tape → Type 0 where
  WasAsked : (tape : Tape) → front tape ≡ a → Given a true tape (behind_front tape)
  WasNot : (tape : Tape) → Given a false tape tape

-- of two tests that come out the same the same part holds
either : {A B : Type 0} (P : A → B → Type 0) (c d : Bool) (x y : A) (p q : B) → d ≡ c → P x p → P y q
    → P (if c then x else y) (if d then p else q)
either P true true x y p q same first second = first
either P true false x y p q same first second = cc
either P false true x y p q same first second = cc
either P false false x y p q same first second = second

-- a byte of the source that was looked at still stands in front
pub looked-behind_front : (b : ℕ) (t : Tape) → front t ≡ Gives (OneByte b) → items_then (OneByte b ∷ []) (behind_front t) ≡ t
looked-behind_front b t gives = by_items t.items t.ending gives
  where
    by_items : (items : List Item) (ending : Ending) → let tape : Tape = record { items = items; ending = ending } in
        front tape ≡ Gives (OneByte b) → items_then (OneByte b ∷ []) (behind_front tape) ≡ tape
    by_items [] ending gives = cc
    by_items (item ∷ items) ending gives =
        let same : Gives item ≡ Gives (OneByte b) = gives in
        let is : OneByte b ≡ item = cc in
        ap (λ (first : Item). record { items = first ∷ items; ending = ending }) is

-- an ending stays
pub ended-behind_front : (e : Ending) (t : Tape) → front t ≡ Ends e → behind_front t ≡ t
ended-behind_front e t ends = by_items t.items t.ending ends
  where
    by_items : (items : List Item) (ending : Ending) → let tape : Tape = record { items = items; ending = ending } in
        front tape ≡ Ends e → behind_front tape ≡ tape
    by_items [] ending ends = refl
    by_items (item ∷ items) ending ends = cc

-- what a call shows and leaves, where a step leads to this state
abbrev IsShown : Limits → State → Tape → State → State → Shown PageEvent × Unread PageEvent → Type 0
IsShown l from tape s done call = done ≡ shown_step l call.0 from (over_unread call.1 tape s)

-- of two limits that are the same, a count is above both or neither
same_test : (old new count : ℕ) → old ≡ new → nat_lt old count ≡ nat_lt new count
same_test old new count same = ap (λ limit. nat_lt limit count) same

-- calls on this input, where the code's limits have the same limit on bytes
module _ (l limits : Limits) (i : PageInput) (tape : Tape) (s : State) (cap : limits.bytes ≡ l.bytes) where
  -- an item ahead that no limit refuses
  allowed_shown : (looked : Looked) (item : Ahead PageEvent) (behind : List (Ahead PageEvent))
      → let u : Unread PageEvent = record { input = i; looked = looked; limits = limits } in
      let from : State = over_unread u tape s in
      let taken : PageInput = item_taken item behind i in
      IsShown l from tape s (made l from (ahead_taken item (record from { input = taken }))) (shown_ahead item, record u { input = taken })
  allowed_shown looked (ByteAhead b) behind = refl
  allowed_shown looked (FreeAhead b) behind = refl
  allowed_shown looked EndAhead behind = refl
  allowed_shown looked (ReturnAhead back) behind = refl
  allowed_shown looked (DoAhead e) behind = refl

  -- an item ahead
  ahead_shown : (looked : Looked) (item : Ahead PageEvent) (behind : List (Ahead PageEvent))
      → let u : Unread PageEvent = record { input = i; looked = looked; limits = limits } in
      let from : State = over_unread u tape s in
      IsShown l from tape s (in_front_taken l (item ∷ behind) from) (taking_ahead item behind u)
  ahead_shown looked item behind =
      let from : State = over_unread (record { input = i; looked = looked; limits = limits }) tape s in
      either (IsShown l from tape s) _ _ _ _ _ _ (same_test limits.bytes l.bytes (i.charge + cost item) cap) refl (allowed_shown looked item behind)

  -- the byte that was looked at
  looked_shown : (b : ℕ) → let u : Unread PageEvent = record { input = i; looked = Byte b; limits = limits } in
      let from : State = over_unread u tape s in
      IsShown l from tape s (in_front_taken l [] from) (taking_answer (Gives (OneByte b)) u)
  looked_shown b =
      let from : State = over_unread (record { input = i; looked = Byte b; limits = limits }) tape s in
      either (IsShown l from tape s) _ _ _ _ _ _ (same_test limits.bytes l.bytes (i.charge + 1) cap) refl refl

  -- an answer of the source
  answer_shown : (a : Answer) → let u : Unread PageEvent = record { input = i; looked = Nothing; limits = limits } in
      let from : State = over_unread u tape s in
      IsShown l from (behind_front tape) s (answered l a from) (taking_answer a u)
  answer_shown (Gives (OneByte b)) =
      let from : State = over_unread (record { input = i; looked = Nothing; limits = limits }) tape s in
      either (IsShown l from (behind_front tape) s) _ _ _ _ _ _ (same_test limits.bytes l.bytes (i.charge + 1) cap) refl refl
  answer_shown (Gives (OneNote message)) = refl
  answer_shown (Ends Ended) = refl
  answer_shown (Ends Failed) = refl
  answer_shown (Ends (Stopped limit)) = refl

-- by what stands in front
in_front_of : (l limits : Limits) (i : PageInput) (s : State) → limits.bytes ≡ l.bytes
    → (ahead : List (Ahead PageEvent)) (looked : Looked) (a : Answer) (tape behind : Tape)
    → let u : Unread PageEvent = record { input = record i { ahead = ahead }; looked = looked; limits = limits } in
    Given a (asks_to_take u) tape behind
    → IsShown l (over_unread u tape s) behind s (in_front_taken l ahead (over_unread u tape s)) (taking a u)
in_front_of l limits i s cap [] Nothing a tape behind (WasAsked t gives) =
    let u : Unread PageEvent = record { input = record i { ahead = [] }; looked = Nothing; limits = limits } in
    let from : State = over_unread u t s in
    subst (λ (b : Answer). IsShown l from (behind_front t) s (answered l b from) (taking_answer a u)) (sym gives)
    (answer_shown l limits u.input t s cap a)
in_front_of l limits i s cap [] (Byte b) a tape behind (WasNot t) = looked_shown l limits (record i { ahead = [] }) t s cap b
in_front_of l limits i s cap [] (Closed kept) a tape behind (WasNot t) = refl
in_front_of l limits i s cap (item ∷ items) looked a tape behind (WasNot t) =
    ahead_shown l limits (record i { ahead = item ∷ items }) t s cap looked item items

-- the step that takes the item in front is what the call shows
pub in_front : (l : Limits) (u : Unread PageEvent) (a : Answer) (tape behind : Tape) (s : State)
    → u.limits.bytes ≡ l.bytes → Given a (asks_to_take u) tape behind
    → in_front_taken l u.input.ahead (over_unread u tape s)
    ≡ shown_step l (taking a u).0 (over_unread u tape s) (over_unread (taking a u).1 behind s)
in_front l u a tape behind s cap given = in_front_of l u.limits u.input s cap u.input.ahead u.looked a tape behind given

-- a call leaves the limits
limits-answer : (a : Answer) (u : Unread PageEvent) → (taking_answer a u).1.limits ≡ u.limits
limits-answer (Gives (OneByte b)) u = one_of (λ (call : Shown PageEvent × Unread PageEvent). call.1.limits ≡ u.limits) (nat_lt u.limits.bytes (u.input.charge + 1)) _ _ refl refl
limits-answer (Gives (OneNote message)) u = refl
limits-answer (Ends ending) u = refl

limits-taking_of : (ahead : List (Ahead PageEvent)) (a : Answer) (i : PageInput) (looked : Looked) (limits : Limits)
    → let u : Unread PageEvent = record { input = record i { ahead = ahead }; looked = looked; limits = limits } in (taking a u).1.limits ≡ limits
limits-taking_of [] a i looked limits = limits-answer (answer_behind looked a) (record { input = record i { ahead = [] }; looked = looked; limits = limits })
limits-taking_of (item ∷ items) a i looked limits =
    one_of (λ (call : Shown PageEvent × Unread PageEvent). call.1.limits ≡ limits) (nat_lt limits.bytes (i.charge + cost item)) _ _ refl refl

pub limits-taking : (a : Answer) (u : Unread PageEvent) → (taking a u).1.limits ≡ u.limits
limits-taking a u = limits-taking_of u.input.ahead a u.input u.looked u.limits

-- a call shows how the source's items end
abbrev pub IsEnding : Shown PageEvent → Type 0
IsEnding (ShowsByte b) = ⊥
IsEnding ShowsEnd = ⊥
IsEnding (ShowsReturn back) = ⊥
IsEnding (ShowsDo event) = ⊥
IsEnding (ShowsNote message) = ⊥
IsEnding (ShowsEnding ending) = Unit {0}
IsEnding (ShowsRefusal limit) = ⊥

no_ending_ahead : (item : Ahead PageEvent) → IsEnding (shown_ahead item) → ⊥
no_ending_ahead (ByteAhead b) is = is
no_ending_ahead (FreeAhead b) is = is
no_ending_ahead EndAhead is = is
no_ending_ahead (ReturnAhead back) is = is
no_ending_ahead (DoAhead event) is = is

-- what a call leaves that shows an ending
abbrev LeavesState : State → Tape → State → Shown PageEvent × Unread PageEvent → Type 0
LeavesState from tape s call = IsEnding call.0 → over_unread call.1 tape s ≡ from

ending_of : (i : PageInput) (limits : Limits) (s : State) (ahead : List (Ahead PageEvent)) (looked : Looked) (a : Answer) (tape behind : Tape)
    → let u : Unread PageEvent = record { input = record i { ahead = ahead }; looked = looked; limits = limits } in
    Given a (asks_to_take u) tape behind → LeavesState (over_unread u tape s) behind s (taking a u)
ending_of i limits s [] Nothing (Gives (OneByte b)) tape behind given =
    one_of (LeavesState (record s { tape = tape; input = record i { ahead = [] }; is_closed = false }) behind s) (nat_lt limits.bytes (i.charge + 1)) _ _ (λ is. absurd is) (λ is. absurd is)
ending_of i limits s [] Nothing (Gives (OneNote message)) tape behind given = λ is. absurd is
ending_of i limits s [] Nothing (Ends ending) tape behind (WasAsked t ends) =
    λ is. ap (λ (left : Tape). record s { tape = left; input = record i { ahead = [] }; is_closed = false }) (ended-behind_front ending t ends)
ending_of i limits s [] (Closed kept) a tape behind (WasNot t) = λ is. refl
ending_of i limits s [] (Byte b) a tape behind given =
    let from : State = record s { tape = looked_then (Byte b) tape; input = record i { ahead = [] }; is_closed = false } in
    one_of (LeavesState from behind s) (nat_lt limits.bytes (i.charge + 1)) _ _ (λ is. absurd is) (λ is. absurd is)
ending_of i limits s (item ∷ items) looked a tape behind given =
    let from : State = record s { tape = looked_then looked tape; input = record i { ahead = item ∷ items }; is_closed = is_closed looked } in
    one_of (LeavesState from behind s) (nat_lt limits.bytes (i.charge + cost item)) _ _ (λ is. absurd is) (λ is. absurd (no_ending_ahead item is))

-- where the source's items end, the call changes nothing of the state
pub over_unread-ending : (u : Unread PageEvent) (a : Answer) (tape behind : Tape) (s : State) → Given a (asks_to_take u) tape behind
    → IsEnding (taking a u).0 → over_unread (taking a u).1 behind s ≡ over_unread u tape s
over_unread-ending u a tape behind s given is = ending_of u.input u.limits s u.input.ahead u.looked a tape behind given is

-- what a step does that sees this in front, a byte or nothing, from one state, where this one is it behind the look
abbrev pub front_step : Limits → Option ℕ → State → State → State
front_step l seen from behind =
    if is_ended_by behind.input.escapes seen then made l from (escape_ends behind) else in_front_taken l behind.input.ahead behind

-- what a step does in which what is half read waits, by what is seen, from one state, where this one is it behind the look
abbrev pub sighted_step : Limits → Sighted → State → State → State
sighted_step l (SeesByte b) from behind = front_step l (Some b) from behind
sighted_step l SeesNothing from behind = front_step l None from behind
sighted_step l (SeesNote message) from behind = record behind { messages = behind.messages ++ message }
sighted_step l (SeesEnding Ended) from behind = front_step l None from behind
sighted_step l (SeesEnding Failed) from behind = ending_with Device ReadFailed from
sighted_step l (SeesEnding (Stopped limit)) from behind = ending_as (Limited limit) from

-- a byte or nothing is seen ahead of the source
abbrev IsSeenAhead : Option Sighted → Type 0
IsSeenAhead None = Unit {0}
IsSeenAhead (Some (SeesByte b)) = Unit {0}
IsSeenAhead (Some SeesNothing) = Unit {0}
IsSeenAhead (Some (SeesNote message)) = ⊥
IsSeenAhead (Some (SeesEnding ending)) = ⊥

seen-ahead : (items : List (Ahead PageEvent)) → IsSeenAhead (seen_ahead items)
seen-ahead [] = tt
seen-ahead (ByteAhead b ∷ items) = tt
seen-ahead (FreeAhead b ∷ items) = tt
seen-ahead (EndAhead ∷ items) = seen-ahead items
seen-ahead (ReturnAhead back ∷ items) = seen-ahead items
seen-ahead (DoAhead event ∷ items) = tt

-- what a look shows and leaves, where a step leads to this state
abbrev IsSighted : Limits → State → Tape → State → State → Sighted × Unread PageEvent → Type 0
IsSighted l from tape s done call = done ≡ sighted_step l call.0 from (over_unread call.1 tape s)

-- an answer of the source that was looked at
answer_sighted : (l limits : Limits) (i : PageInput) (a : Answer) (tape : Tape) (s : State) → front tape ≡ a
    → let u : Unread PageEvent = record { input = i; looked = Nothing; limits = limits } in
    let from : State = over_unread u tape s in
    IsSighted l from (behind_front tape) s (awaited_of_source l a from) (looking_at a u)
answer_sighted l limits i (Gives (OneByte b)) tape s gives =
    let from : Tape → State = λ t. record s { tape = t; input = i; is_closed = false } in
    subst (λ (t : Tape). awaited_of_source l (Gives (OneByte b)) (from tape) ≡ sighted_step l (SeesByte b) (from tape) (from t))
    (sym (looked-behind_front b tape gives)) refl
answer_sighted l limits i (Gives (OneNote message)) tape s gives = refl
answer_sighted l limits i (Ends Ended) tape s gives =
    let from : Tape → State = λ t. record s { tape = t; input = i; is_closed = false } in
    subst (λ (t : Tape). front_seen l None (from tape) ≡ front_step l None (from tape) (from t)) (sym (ended-behind_front Ended tape gives)) refl
answer_sighted l limits i (Ends Failed) tape s gives = refl
answer_sighted l limits i (Ends (Stopped limit)) tape s gives = refl

-- by what is seen ahead of the source
seen_of : (l limits : Limits) (i : PageInput) (s : State) (sight : Option Sighted) → IsSeenAhead sight
    → (looked : Looked) (a : Answer) (tape behind : Tape)
    → let u : Unread PageEvent = record { input = i; looked = looked; limits = limits } in
    let call : Sighted × Unread PageEvent = looking_past sight a u in
    Given a (is_none sight && is_nothing looked) tape behind
    → IsSighted l (over_unread u tape s) behind s (awaited l sight (over_unread u tape s)) call
seen_of l limits i s None is Nothing a tape behind (WasAsked t gives) =
    let u : Unread PageEvent = record { input = i; looked = Nothing; limits = limits } in
    let from : State = over_unread u t s in
    subst (λ (b : Answer). IsSighted l from (behind_front t) s (awaited_of_source l b from) (looking_at a u)) (sym gives) (answer_sighted l limits i a t s gives)
seen_of l limits i s None is (Byte b) a tape behind (WasNot t) = refl
seen_of l limits i s None is (Closed kept) a tape behind (WasNot t) = refl
seen_of l limits i s (Some (SeesByte b)) is looked a tape behind (WasNot t) = refl
seen_of l limits i s (Some SeesNothing) is looked a tape behind (WasNot t) = refl
seen_of l limits i s (Some (SeesNote message)) is looked a tape behind given = absurd is
seen_of l limits i s (Some (SeesEnding ending)) is looked a tape behind given = absurd is

-- the step in which what is half read waits is what the look shows
pub seen : (l : Limits) (u : Unread PageEvent) (a : Answer) (tape behind : Tape) (s : State) → Given a (asks_to_look u) tape behind
    → awaited l (seen_ahead u.input.ahead) (over_unread u tape s)
    ≡ sighted_step l (looking a u).0 (over_unread u tape s) (over_unread (looking a u).1 behind s)
seen l u a tape behind s given = seen_of l u.limits u.input s (seen_ahead u.input.ahead) (seen-ahead u.input.ahead) u.looked a tape behind given

-- a look leaves the input and the limits
pub record Looks (u left : Unread PageEvent) : Type 0 where
  pub input : left.input ≡ u.input
  pub limits : left.limits ≡ u.limits

looks-answer : (a : Answer) (u : Unread PageEvent) → Looks u (looking_at a u).1
looks-answer (Gives (OneByte b)) u = record { input = refl; limits = refl }
looks-answer (Gives (OneNote message)) u = record { input = refl; limits = refl }
looks-answer (Ends ending) u = record { input = refl; limits = refl }

looks-by : (sight : Option Sighted) (a : Answer) (u : Unread PageEvent)
    → Looks u (looking_past sight a u).1
looks-by None a u = looks-answer (answer_behind u.looked a) u
looks-by (Some seen) a u = record { input = refl; limits = refl }

pub Looks-looking : (a : Answer) (u : Unread PageEvent) → Looks u (looking a u).1
Looks-looking a u = looks-by (seen_ahead u.input.ahead) a u

-- a call shows no message of the source's
abbrev pub IsNoNote : Sighted → Type 0
IsNoNote (SeesByte b) = Unit {0}
IsNoNote SeesNothing = Unit {0}
IsNoNote (SeesNote message) = ⊥
IsNoNote (SeesEnding ending) = Unit {0}

-- by what is seen ahead of the source
unmoved_of : (limits : Limits) (i : PageInput) (s : State) (sight : Option Sighted)
    → (looked : Looked) (a : Answer) (tape behind : Tape)
    → let u : Unread PageEvent = record { input = i; looked = looked; limits = limits } in
    let call : Sighted × Unread PageEvent = looking_past sight a u in
    Given a (is_none sight && is_nothing looked) tape behind → IsNoNote call.0 → over_unread call.1 behind s ≡ over_unread u tape s
unmoved_of limits i s None Nothing (Gives (OneByte b)) tape behind (WasAsked t gives) quiet =
    ap (λ (t : Tape). record s { tape = t; input = i; is_closed = false }) (looked-behind_front b t gives)
unmoved_of limits i s None Nothing (Gives (OneNote message)) tape behind (WasAsked t gives) quiet = absurd quiet
unmoved_of limits i s None Nothing (Ends ending) tape behind (WasAsked t gives) quiet =
    ap (λ (t : Tape). record s { tape = t; input = i; is_closed = false }) (ended-behind_front ending t gives)
unmoved_of limits i s None (Byte b) a tape behind (WasNot t) quiet = refl
unmoved_of limits i s None (Closed kept) a tape behind (WasNot t) quiet = refl
unmoved_of limits i s (Some sight) looked a tape behind (WasNot t) quiet = refl

-- a look changes nothing of the state, unless it shows a message of the source's
pub over_unread-looking : (u : Unread PageEvent) (a : Answer) (tape behind : Tape) (s : State) → Given a (asks_to_look u) tape behind
    → IsNoNote (looking a u).0 → over_unread (looking a u).1 behind s ≡ over_unread u tape s
over_unread-looking u a tape behind s given quiet =
    unmoved_of u.limits u.input s (seen_ahead u.input.ahead) u.looked a tape behind given quiet

-- the items of a source's answer, if it was asked
abbrev pub items_asked : Bool → Answer → List Item
items_asked true (Gives item) = item ∷ []
items_asked true (Ends ending) = []
items_asked false a = []

-- over each tape that the source may still give, the call's tape was this
pub Given-asked : (gave gives : Tape → Type 0) (asked : Bool) (a : Answer) → Asked gave gives asked a
    → (t : Tape) → gives t → Given a asked (items_then (items_asked asked a) t) t
Given-asked gave gives true (Gives item) answers t may = WasAsked (items_then (item ∷ []) t) refl
Given-asked gave gives true (Ends ending) answers t may =
    subst (λ (t : Tape). Given (Ends ending) true t t) (sym (answers.final ending refl t may)) (WasAsked (only ending) refl)
Given-asked gave gives false a stays t may = WasNot t
