-- A byte that is waited for and stands ready.
use Rattle.std.proofs.Common.{◌≡◌, ℕ, Bool, true, false, List, Some, refl, ap, subst, ◌∙◌, ◌∷◌, [], if◌then◌else◌}
use Rattle.roff_num.specs.declared.limit.Limit.{Limit}
use Rattle.roff_num.specs.declared.limits.Limits.{Limits}
use Rattle.input_escapes.specs.Waiting.{decides as decides_by, is_ended_by}
use Rattle.input_escapes.specs.declared.open_escape.Waiting.{Waiting}
use Rattle.input_escapes.specs.declared.open_escape.Waiting.TheVariants.{Takes as TakesAny, Decides, Waits}
use Rattle.input_model.specs.Input.{Ahead, ByteAhead, FreeAhead, EndAhead, ReturnAhead, DoAhead}
use Rattle.input_source.specs.Tape.{Tape, Answer, Gives, Ends, OneByte, OneNote}
use Rattle.input_model.specs.Unread.{asks_to_take, taking}
use Rattle.input_model.specs.declared.looked.Looked.{Looked}
use Rattle.input_model.specs.declared.looked.Looked.TheVariants.{Nothing, Byte, Closed}
use Rattle.input_model.specs.Shown.{Shown, ShowsByte, ShowsDo, ShowsEnd, ShowsRefusal, ShowsReturn, seen_ahead}
use Rattle.run_model.specs.PageEvents.{PageEvent}
use Rattle.run_model.specs.Reading.Items.{PageUnread, PageInput}
use Rattle.run_model.specs.Run.{State, awaited, awaited_of_source, front_seen, escape_ends, in_front_taken, made, read_waiting}
use Rattle.run_model.proofs.InFront.{Given, WasAsked, WasNot, over_unread}
use Rattle.run_model.proofs.Waiting.{undecided}

-- an item is shown, or refused by a limit: what is shown then is this byte alone
pub shows_byte : (refuses : Bool) (limit : Limit) (u left : PageUnread) (item : Shown PageEvent) (b : ℕ)
    → let call : Shown PageEvent × PageUnread = if refuses then (ShowsRefusal limit, u) else (item, left) in
    call.0 ≡ ShowsByte b → item ≡ ShowsByte b
shows_byte true limit u left item b is = cc
shows_byte false limit u left item b is = is

-- what is half read waits for this byte: where it is seen, the item in front is taken
pub front_seen-taken : (l : Limits) (b seen_byte : ℕ) (s : State) → is_ended_by s.input.escapes (Some b) ≡ false
    → (item : Shown PageEvent) → item ≡ ShowsByte seen_byte → item ≡ ShowsByte b → front_seen l (Some seen_byte) s ≡ in_front_taken l s.input.ahead s
front_seen-taken l b seen_byte s goes_on item shows is =
    let same : b ≡ seen_byte = cc in
    ap (λ (stays : Bool). if stays then made l s (escape_ends s) else in_front_taken l s.input.ahead s)
    (subst (λ (n : ℕ). is_ended_by s.input.escapes (Some n) ≡ false) same goes_on)

-- the call that takes the item in front shows the byte that is waited for: the step in which it is seen takes the item
pub awaited_byte : (l limits : Limits) (i : PageInput) (s : State) (b : ℕ) → is_ended_by i.escapes (Some b) ≡ false
    → (ahead : List (Ahead PageEvent)) (looked : Looked) (a : Answer) (tape behind : Tape)
    → let u : PageUnread = record { input = record i { ahead = ahead }; looked = looked; limits = limits } in
    Given a (asks_to_take u) tape behind → (taking a u).0 ≡ ShowsByte b
    → awaited l (seen_ahead ahead) (over_unread u tape s) ≡ in_front_taken l ahead (over_unread u tape s)
awaited_byte l limits i s b goes_on [] Nothing (Gives (OneByte c)) tape behind (WasAsked t gives) shows =
    let from : State = over_unread (record { input = record i { ahead = [] }; looked = Nothing; limits = limits }) t s in
    ap (λ (a : Answer). awaited_of_source l a from) gives ∙ front_seen-taken l b c from goes_on (ShowsByte c) refl (shows_byte _ _ _ _ _ b shows)
awaited_byte l limits i s b goes_on [] Nothing (Gives (OneNote message)) tape behind given shows = cc
awaited_byte l limits i s b goes_on [] Nothing (Ends ending) tape behind given shows = cc
awaited_byte l limits i s b goes_on [] (Closed kept) a tape behind (WasNot t) shows = cc
awaited_byte l limits i s b goes_on [] (Byte c) a tape behind (WasNot t) shows =
    let from : State = over_unread (record { input = record i { ahead = [] }; looked = Byte c; limits = limits }) t s in
    front_seen-taken l b c from goes_on (ShowsByte c) refl (shows_byte _ _ _ _ _ b shows)
awaited_byte l limits i s b goes_on (ByteAhead c ∷ items) looked a tape behind given shows =
    let from : State = over_unread (record { input = record i { ahead = ByteAhead c ∷ items }; looked = looked; limits = limits }) tape s in
    front_seen-taken l b c from goes_on (ShowsByte c) refl (shows_byte _ _ _ _ _ b shows)
awaited_byte l limits i s b goes_on (FreeAhead c ∷ items) looked a tape behind given shows =
    let from : State = over_unread (record { input = record i { ahead = FreeAhead c ∷ items }; looked = looked; limits = limits }) tape s in
    front_seen-taken l b c from goes_on (ShowsByte c) refl (shows_byte _ _ _ _ _ b shows)
awaited_byte l limits i s b goes_on (EndAhead ∷ items) looked a tape behind given shows =
    let wrong : ShowsEnd ≡ ShowsByte b = shows_byte _ _ _ _ _ b shows in cc
awaited_byte l limits i s b goes_on (ReturnAhead back ∷ items) looked a tape behind given shows =
    let wrong : ShowsReturn back ≡ ShowsByte b = shows_byte _ _ _ _ _ b shows in cc
awaited_byte l limits i s b goes_on (DoAhead event ∷ items) looked a tape behind given shows =
    let wrong : ShowsDo event ≡ ShowsByte b = shows_byte _ _ _ _ _ b shows in cc

-- the byte that is shown is taken, whether it is waited for or not
pub read_byte : (l limits : Limits) (w : Waiting) (i : PageInput) (s : State) (b : ℕ) → is_ended_by i.escapes (Some b) ≡ false → decides_by w ≡ false
    → (looked : Looked) (a : Answer) (tape behind : Tape)
    → let u : PageUnread = record { input = i; looked = looked; limits = limits } in
    Given a (asks_to_take u) tape behind → (taking a u).0 ≡ ShowsByte b
    → read_waiting l w (over_unread u tape s) ≡ in_front_taken l i.ahead (over_unread u tape s)
read_byte l limits TakesAny i s b goes_on undecided looked a tape behind given shows = refl
read_byte l limits Decides i s b goes_on undecided looked a tape behind given shows = absurd (cc)
read_byte l limits Waits i s b goes_on undecided looked a tape behind given shows =
    awaited_byte l limits i s b goes_on i.ahead looked a tape behind given shows
