-- What the calls of the unread input leave of a run: of its source, its limits and its turns to come.
use Rattle.std.proofs.Common.{◌≡◌, ◌⊎◌, inl, inr, ℕ, ◌+◌, ◌≤◌, Bool, true, false, List, [], ◌∷◌, Option, Some, None, refl, sym, ap, subst, arith, nat_lt, is_none, ◌&&◌}
use Rattle.input_escapes.specs.Waiting.{is_ended_by}
use Rattle.input_model.specs.Input.{Ahead, ByteAhead, FreeAhead, EndAhead, ReturnAhead, DoAhead, cost, item_taken}
use Rattle.input_source.specs.Tape.{Tape, Item, Answer, Ending, Ended, Failed, Stopped, OneByte, OneNote, Gives, Ends, items_then}
use Rattle.input_model.specs.Looking.{answer_behind, is_closed, is_nothing, looked_then}
use Rattle.input_model.specs.declared.looked.Looked.{Looked}
use Rattle.input_model.specs.declared.looked.Looked.TheVariants.{Nothing, Byte, Closed}
use Rattle.input_model.specs.Unread.{Asked, asks_to_take, asks_to_look, looking, looking_past, taking, taking_answer}
use Rattle.input_model.specs.Input.Few.{AreFew, AreFewFrom}
use Rattle.input_model.proofs.FewEvents.{few-more}
use Rattle.run_items.specs.Room.{FewFor, SeesOn}
use Rattle.run_events.proofs.EventsLeft.{most-length}
use Rattle.run_items.proofs.Fronts.{few-nothing, few-sees}
use Rattle.input_model.specs.Shown.{Shown, ShowsByte, ShowsDo, ShowsEnding, ShowsRefusal, Sighted, SeesByte, SeesNothing, SeesEnding, shown_ahead, seen_ahead}
use Rattle.run_items.specs.Outcome.{IsLeftOf}
use Rattle.run_model.specs.Reading.Items.{PageInput, PageUnread}
use Rattle.run_model.specs.Registers.{AllRegisters}
use Rattle.run_model.specs.PageEvents.{PageEvent}
use Rattle.run_model.specs.declared.line_state.LineState.{LineState}
use Rattle.run_model.specs.Run.Counts.{counts_in, first_passed}
use Rattle.run_model.specs.TurnsToCome.{turns_to_come, turns_within}
use Rattle.run_model.proofs.InFront.{Given, WasAsked, WasNot, Given-asked, Looks-looking, items_asked, limits-taking}
use Rattle.run_model.proofs.InputCounts.{first_passed-taking, one_of}

-- A call took these items of its source, and left this unread input: what is left of the source is what it took from,
-- but for the item in front, and no count or turn to come is more.
pub record Leaves (gave gives : Tape → Type 0) (u left : PageUnread) (taken : List Item) : Type 0 where
  pub before : (t : Tape) → gives t → gave (items_then taken t)
  pub rest : (t : Tape) → gives t → IsLeftOf t (looked_then u.looked (items_then taken t))
  pub limits : left.limits ≡ u.limits
  pub within : (rs : AllRegisters) → first_passed u.limits (counts_in rs u.input) ≡ None → first_passed u.limits (counts_in rs left.input) ≡ None
  pub turns : turns_to_come left ≤ turns_to_come u

-- what a source may give behind a call, it might have given before it
before-asked : (gave gives : Tape → Type 0) (asked : Bool) (a : Answer) → Asked gave gives asked a → (t : Tape) → gives t
    → gave (items_then (items_asked asked a) t)
before-asked gave gives true (Gives item) answers t may = answers.before t may
before-asked gave gives true (Ends ending) answers t may = subst gave (sym (answers.final ending refl t may)) (answers.before t may)
before-asked gave gives false a stays t may = stays.before t may

-- what is left behind a call, by whether a byte was looked at
left_behind : (looked : Looked) (asked : Bool) (a : Answer) (before behind : Tape) → (asked ≡ true → looked ≡ Nothing) → Given a asked before behind
    → IsLeftOf behind (looked_then looked before)
left_behind Nothing asked a before behind none (WasAsked t gives) = inr refl
left_behind (Byte b) asked a before behind none (WasAsked t gives) = let wrong : Byte b ≡ Nothing = none refl in cc
left_behind (Closed kept) asked a before behind none (WasAsked t gives) = let wrong : Closed kept ≡ Nothing = none refl in cc
left_behind Nothing asked a before behind none (WasNot t) = inl refl
left_behind (Byte b) asked a before behind none (WasNot t) = inr refl
left_behind (Closed None) asked a before behind none (WasNot t) = inl refl
left_behind (Closed (Some b)) asked a before behind none (WasNot t) = inr refl

-- a source is asked only if no byte was looked at, and it is open
asked-to_take : (ahead : List (Ahead PageEvent)) (i : PageInput) (looked : Looked) (v : PageUnread)
    → let u : PageUnread = record v { input = record i { ahead = ahead }; looked = looked } in asks_to_take u ≡ true → looked ≡ Nothing
asked-to_take [] i Nothing v asks = refl
asked-to_take [] i (Byte b) v asks = cc
asked-to_take [] i (Closed kept) v asks = cc
asked-to_take (item ∷ items) i looked v asks = cc

asked-to_look : (sight : Option Sighted) (looked : Looked) → is_none sight && is_nothing looked ≡ true → looked ≡ Nothing
asked-to_look None Nothing asks = refl
asked-to_look None (Byte b) asks = cc
asked-to_look None (Closed kept) asks = cc
asked-to_look (Some sight) looked asks = cc

-- no more turns are to come behind a call
abbrev NoMoreTurns : PageUnread → Shown PageEvent × PageUnread → Type 0
NoMoreTurns u call = turns_to_come call.1 ≤ turns_to_come u

turns-item : (item : Ahead PageEvent) (items : List (Ahead PageEvent)) (bytes : ℕ) (i : PageInput)
    → turns_within bytes (item_taken item items i) ≤ turns_within bytes (record i { ahead = item ∷ items })
turns-item (ByteAhead b) items bytes i = omega arith
turns-item (FreeAhead b) items bytes i = omega arith
turns-item EndAhead items bytes i = omega arith
turns-item (ReturnAhead back) items bytes i = omega arith
turns-item (DoAhead event) items bytes i = omega arith

turns-answer : (a : Answer) (u : PageUnread) → NoMoreTurns u (taking_answer a u)
turns-answer (Gives (OneByte b)) u = one_of (NoMoreTurns u) (nat_lt u.limits.bytes (u.input.charge + 1)) _ _ (omega arith) (omega arith)
turns-answer (Gives (OneNote message)) u = omega arith
turns-answer (Ends ending) u = omega arith

turns-taking : (ahead : List (Ahead PageEvent)) (a : Answer) (i : PageInput) (looked : Looked) (v : PageUnread)
    → let u : PageUnread = record v { input = record i { ahead = ahead }; looked = looked } in NoMoreTurns u (taking a u)
turns-taking [] a i looked v = turns-answer (answer_behind looked a) (record v { input = record i { ahead = [] }; looked = looked })
turns-taking (item ∷ items) a i looked v =
    let u : PageUnread = record v { input = record i { ahead = item ∷ items }; looked = looked } in
    one_of (NoMoreTurns u) (nat_lt v.limits.bytes (i.charge + cost item)) _ _ (omega arith) (turns-item item items v.limits.bytes u.input)

-- So few events stand in front behind what a call showed that took an item: none before the next end behind a byte. Behind another
-- item there is room where a condition that decided is next, if something else was seen in front than an event.
abbrev pub FewBehind : PageInput → LineState → Shown PageEvent → PageInput → Type 0
FewBehind was reading (ShowsByte b) i = AreFewFrom 0 i.ahead
FewBehind was reading (ShowsDo event) i = SeesOn was → FewFor (event ∷ []) reading i.escapes i.ahead
FewBehind was reading (ShowsRefusal limit) i = Unit {0}
FewBehind was reading (_) i = SeesOn was → FewFor [] reading i.escapes i.ahead

few-answer : (a : Answer) (was : PageInput) (reading : LineState) (u : PageUnread) → u.input.ahead ≡ []
    → FewBehind was reading (taking_answer a u).0 (taking_answer a u).1.input
few-answer (Gives (OneByte b)) was reading u none =
    one_of (λ (call : Shown PageEvent × PageUnread). FewBehind was reading call.0 call.1.input) (nat_lt u.limits.bytes (u.input.charge + 1)) _ _ tt
    (subst (λ (items : List (Ahead PageEvent)). AreFewFrom 0 items) (sym none) tt)
few-answer (Gives (OneNote message)) was reading u none = λ sees. few-nothing reading u.input none
few-answer (Ends ending) was reading u none = λ sees. few-nothing reading u.input none

few-item : (item : Ahead PageEvent) (items : List (Ahead PageEvent)) (i : PageInput) (reading : LineState) → AreFew (item ∷ items)
    → FewBehind (record i { ahead = item ∷ items }) reading (shown_ahead item) (item_taken item items i)
few-item (ByteAhead b) items i reading few = few
few-item (FreeAhead b) items i reading few = few
few-item EndAhead items i reading few = λ sees. few-sees reading (record i { ahead = items }) few sees
few-item (ReturnAhead back) items i reading few = λ sees. few-sees reading (record i { ahead = items }) few sees
few-item (DoAhead event) items i reading few = λ sees. record {
  few = few-more 4 _ items (omega (arith, most-length (event ∷ []))) few.1;
  decided = λ keeps is next. absurd (sees next refl);
}

pub few-taking : (ahead : List (Ahead PageEvent)) (a : Answer) (i : PageInput) (reading : LineState) (looked : Looked) (v : PageUnread)
    → let u : PageUnread = record v { input = record i { ahead = ahead }; looked = looked } in AreFew ahead → FewBehind u.input reading (taking a u).0 (taking a u).1.input
few-taking [] a i reading looked v few =
    let u : PageUnread = record v { input = record i { ahead = [] }; looked = looked } in few-answer (answer_behind looked a) u.input reading u refl
few-taking (item ∷ items) a i reading looked v few =
    let was : PageInput = record i { ahead = item ∷ items } in
    one_of (λ (call : Shown PageEvent × PageUnread). FewBehind was reading call.0 call.1.input) (nat_lt v.limits.bytes (i.charge + cost item)) _ _ tt (few-item item items i reading few)

-- the call that takes the item in front
pub Leaves-takes : (gave gives : Tape → Type 0) (u : PageUnread) (a : Answer) → Asked gave gives (asks_to_take u) a
    → Leaves gave gives u (taking a u).1 (items_asked (asks_to_take u) a)
Leaves-takes gave gives u a asked = record {
  before = before-asked gave gives (asks_to_take u) a asked;
  rest = λ t may.
      left_behind u.looked (asks_to_take u) a _ t (asked-to_take u.input.ahead u.input u.looked u) (Given-asked gave gives (asks_to_take u) a asked t may);
  limits = limits-taking a u;
  within = λ rs none. first_passed-taking u.limits rs a u none;
  turns = turns-taking u.input.ahead a u.input u.looked u;
}

-- the call that looks ahead
pub Leaves-looks : (gave gives : Tape → Type 0) (u : PageUnread) (a : Answer) → Asked gave gives (asks_to_look u) a
    → Leaves gave gives u (looking a u).1 (items_asked (asks_to_look u) a)
Leaves-looks gave gives u a asked =
    let same = Looks-looking a u in record {
      before = before-asked gave gives (asks_to_look u) a asked;
      rest = λ t may.
          left_behind u.looked (asks_to_look u) a _ t (asked-to_look (seen_ahead u.input.ahead) u.looked) (Given-asked gave gives (asks_to_look u) a asked t may);
      limits = same.limits;
      within = λ rs none. subst (λ (i : PageInput). first_passed u.limits (counts_in rs i) ≡ None) (sym same.input) none;
      turns = rw (same.limits, same.input) (omega arith);
    }

-- a tape of a source that isn't asked is left as it is
left-unasked : (looked : Looked) (t : Tape) → IsLeftOf t (looked_then looked t)
left-unasked Nothing t = inl refl
left-unasked (Byte b) t = inr refl
left-unasked (Closed None) t = inl refl
left-unasked (Closed (Some b)) t = inr refl

-- no call: a condition decides, and nothing is taken or seen
pub Leaves-deciding : (gives : Tape → Type 0) (u : PageUnread) → is_ended_by u.input.escapes None ≡ true → Leaves gives gives u u []
Leaves-deciding gives u decides = record {
  before = λ t may. may;
  rest = λ t may. left-unasked u.looked t;
  limits = refl;
  within = λ rs none. none;
  turns = omega arith;
}

-- a source may end so: by itself, or as it is closed
abbrev pub EndsAt : Ending → Looked → Type 0
EndsAt Ended looked = (looked ≡ Nothing) ⊎ (is_closed looked ≡ true)
EndsAt Failed looked = looked ≡ Nothing
EndsAt (Stopped limit) looked = looked ≡ Nothing

ends_open : (ending : Ending) → EndsAt ending Nothing
ends_open Ended = inl refl
ends_open Failed = refl
ends_open (Stopped limit) = refl

-- with nothing ahead of it the source ended so: nothing was taken
pub record EndsThere (ending : Ending) (u left : PageUnread) (taken : List Item) : Type 0 where
  pub looked : EndsAt ending u.looked
  pub taken_is : taken ≡ []
  pub same : left ≡ u

-- a call that shows an ending
abbrev TakesEnding : PageUnread → List Item → Shown PageEvent × PageUnread → Type 0
TakesEnding u taken call = (ending : Ending) → call.0 ≡ ShowsEnding ending → EndsThere ending u call.1 taken

no_ending_ahead : (item : Ahead PageEvent) (ending : Ending) → shown_ahead item ≡ ShowsEnding ending → ⊥
no_ending_ahead (ByteAhead b) ending is = cc
no_ending_ahead (FreeAhead b) ending is = cc
no_ending_ahead EndAhead ending is = cc
no_ending_ahead (ReturnAhead back) ending is = cc
no_ending_ahead (DoAhead event) ending is = cc

ends-byte : (b : ℕ) (u : PageUnread) (taken : List Item) → TakesEnding u taken (taking_answer (Gives (OneByte b)) u)
ends-byte b u taken = one_of (TakesEnding u taken) (nat_lt u.limits.bytes (u.input.charge + 1)) _ _ (λ ending is. absurd (cc)) (λ ending is. absurd (cc))

-- a closed source has ended
ends-closed : (kept : Option ℕ) (ending : Ending) (shown : Shown PageEvent) → ShowsEnding Ended ≡ shown → shown ≡ ShowsEnding ending → EndsAt ending (Closed kept)
ends-closed kept ending shown ended is = let same : Ended ≡ ending = cc in subst (λ (e : Ending). EndsAt e (Closed kept)) same (inr refl)

ends-taking : (ahead : List (Ahead PageEvent)) (a : Answer) (i : PageInput) (looked : Looked) (v : PageUnread)
    → let u : PageUnread = record v { input = record i { ahead = ahead }; looked = looked } in
    TakesEnding u (items_asked (asks_to_take u) a) (taking a u)
ends-taking [] (Gives (OneByte b)) i Nothing v = ends-byte b (record v { input = record i { ahead = [] }; looked = Nothing }) _
ends-taking [] (Gives (OneNote message)) i Nothing v = λ ending is. absurd (cc)
ends-taking [] (Ends ending) i Nothing v = λ shown is. record { looked = ends_open shown; taken_is = refl; same = refl }
ends-taking [] a i (Byte b) v = ends-byte b (record v { input = record i { ahead = [] }; looked = Byte b }) _
ends-taking [] a i (Closed kept) v = λ ending is. record { looked = ends-closed kept ending (ShowsEnding Ended) refl is; taken_is = refl; same = refl }
ends-taking (item ∷ items) a i looked v =
    let u : PageUnread = record v { input = record i { ahead = item ∷ items }; looked = looked } in
    one_of (TakesEnding u _) (nat_lt v.limits.bytes (i.charge + cost item)) _ _ (λ ending is. absurd (cc)) (λ ending is. absurd (no_ending_ahead item ending is))

-- and nothing stands ahead of its end
none-answer : (a : Answer) (u : PageUnread) → u.input.ahead ≡ [] → (taking_answer a u).1.input.ahead ≡ []
none-answer (Gives (OneByte b)) u none = one_of (λ (call : Shown PageEvent × PageUnread). call.1.input.ahead ≡ []) (nat_lt u.limits.bytes (u.input.charge + 1)) _ _ none none
none-answer (Gives (OneNote message)) u none = none
none-answer (Ends ending) u none = none

pub none-taking : (ahead : List (Ahead PageEvent)) (a : Answer) (i : PageInput) (looked : Looked) (v : PageUnread) (ending : Ending)
    → let u : PageUnread = record v { input = record i { ahead = ahead }; looked = looked } in (taking a u).0 ≡ ShowsEnding ending → (taking a u).1.input.ahead ≡ []
none-taking [] a i looked v ending is = none-answer (answer_behind looked a) (record v { input = record i { ahead = [] }; looked = looked }) refl
none-taking (item ∷ items) a i looked v ending is =
    one_of (λ (call : Shown PageEvent × PageUnread). call.0 ≡ ShowsEnding ending → call.1.input.ahead ≡ []) (nat_lt v.limits.bytes (i.charge + cost item)) _ _
    (λ is. absurd (cc)) (λ is. absurd (no_ending_ahead item ending is)) is

-- the source's items end behind the call that takes the item in front
pub EndsThere-takes : (u : PageUnread) (a : Answer) (ending : Ending) → (taking a u).0 ≡ ShowsEnding ending → EndsThere ending u (taking a u).1 (items_asked (asks_to_take u) a)
EndsThere-takes u a ending is = ends-taking u.input.ahead a u.input u.looked u ending is

-- no ending is seen ahead of the source
no_ending_seen : (items : List (Ahead PageEvent)) (ending : Ending) → seen_ahead items ≡ Some (SeesEnding ending) → ⊥
no_ending_seen [] ending is = cc
no_ending_seen (ByteAhead b ∷ items) ending is = let same : SeesByte b ≡ SeesEnding ending = cc in cc
no_ending_seen (FreeAhead b ∷ items) ending is = let same : SeesByte b ≡ SeesEnding ending = cc in cc
no_ending_seen (EndAhead ∷ items) ending is = no_ending_seen items ending is
no_ending_seen (ReturnAhead back ∷ items) ending is = no_ending_seen items ending is
no_ending_seen (DoAhead event ∷ items) ending is = let same : SeesNothing ≡ SeesEnding ending = cc in cc

ends-closed_look : (kept : Option ℕ) (ending : Ending) (sight : Sighted) → SeesEnding Ended ≡ sight → sight ≡ SeesEnding ending → EndsAt ending (Closed kept)
ends-closed_look kept ending sight ended is = let same : Ended ≡ ending = cc in subst (λ (e : Ending). EndsAt e (Closed kept)) same (inr refl)

ends-looking : (sight : Option Sighted) (a : Answer) (i : PageInput) (looked : Looked) (v : PageUnread)
    → let u : PageUnread = record v { input = i; looked = looked } in
    ((ending : Ending) → sight ≡ Some (SeesEnding ending) → ⊥)
    → (ending : Ending) → (looking_past sight a u).0 ≡ SeesEnding ending → EndsThere ending u (looking_past sight a u).1 (items_asked (is_none sight && is_nothing looked) a)
ends-looking None (Gives (OneByte b)) i Nothing v none ending is = absurd (cc)
ends-looking None (Gives (OneNote message)) i Nothing v none ending is = absurd (cc)
ends-looking None (Ends e) i Nothing v none ending is = record { looked = ends_open ending; taken_is = refl; same = refl }
ends-looking None a i (Byte b) v none ending is = absurd (cc)
ends-looking None a i (Closed kept) v none ending is = record { looked = ends-closed_look kept ending (SeesEnding Ended) refl is; taken_is = refl; same = refl }
ends-looking (Some seen) a i looked v none ending is = absurd (none ending (ap (λ (s : Sighted). Some s) is))

-- the source's items end behind the call that looks ahead
pub EndsThere-looks : (u : PageUnread) (a : Answer) (ending : Ending) → (looking a u).0 ≡ SeesEnding ending → EndsThere ending u (looking a u).1 (items_asked (asks_to_look u) a)
EndsThere-looks u a ending is = ends-looking (seen_ahead u.input.ahead) a u.input u.looked u (no_ending_seen u.input.ahead) ending is
