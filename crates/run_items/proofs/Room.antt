-- Room for events that are put back: between two ends stand few.
use Rattle.std.proofs.Common.{◌≡◌, ◌≤◌, ◌+◌, ◌-◌, ℕ, Bool, true, false, List, ◌++◌, length, Option, Some, None, arith, refl, if◌then◌else◌, map, nat_lt}
use Rattle.std.proofs.lemmas.Bool.Decides.{nat_tests}
use Rattle.std.proofs.lemmas.List.{length-map}
use Rattle.roff_num.specs.declared.limits.Limits.{Limits}
use Rattle.input_model.specs.Input.{DoAhead, ends_ahead, pushed, putting_all_back}
use Rattle.input_model.specs.Input.Few.{AreFew, AreFewFrom}
use Rattle.input_model.specs.Input.Names.{names_added, stored}
use Rattle.input_model.proofs.FewEvents.{events-few, few-back, few-more}
use Rattle.run_model.specs.PageEvents.{PageEvent}
use Rattle.run_model.specs.Reading.Items.{PageInput, PageUnread}
use Rattle.run_model.specs.Registers.{AllRegisters}
use Rattle.run_model.specs.Run.Counts.{counts_in, first_passed}
use Rattle.run_model.specs.TitleTexts.{title_length}
use Rattle.run_model.specs.Titles.{put_back}
use Rattle.run_items.specs.Room.{HasRoom}

-- with these put back they are few
pub back_few : (events : List PageEvent) (room : ℕ) (i : PageInput) → AreFewFrom room i.ahead → length events + room ≤ 5
    → AreFew (putting_all_back (map put_back events) i).ahead
back_few events room i few enough =
    few-more (length (map put_back events) + room) 5 (map DoAhead (map put_back events) ++ i.ahead) (omega (arith, enough, length-map events put_back))
    (few-back room (map put_back events) i.ahead few)

-- and there is room for them
pub room_left : (events : List PageEvent) (room : ℕ) (u : PageUnread) → AreFewFrom room u.input.ahead → length events + room ≤ 5
    → ends_ahead u.input.ahead ≤ u.limits.depth → HasRoom events u
room_left events room u few enough within = λ some. omega (arith, events-few room u.input.ahead few, enough, within)

-- of what no limit is passed, each is within its own
none-passed : {A : Type 0} (b : Bool) (x : A) (rest : Option A) → (if b then Some x else rest) ≡ None → (b ≡ false) × (rest ≡ None)
none-passed true x rest none = absurd (cc)
none-passed false x rest none = (refl, none)

not-above : (n most : ℕ) → nat_lt most n ≡ false → n ≤ most
not-above n most none = grind (arith, nat_tests, none)

-- the ends that stand ahead, too
pub ends-within : (l : Limits) (rs : AllRegisters) (i : PageInput) → first_passed l (counts_in rs i) ≡ None → ends_ahead i.ahead ≤ l.depth
ends-within l rs i none =
    let names = none-passed (nat_lt l.names (length rs.named)) _ _ none in
    let title = none-passed (nat_lt l.line (title_length rs.title)) _ _ names.1 in
    let store = none-passed (nat_lt l.store (stored i)) _ _ title.1 in
    let texts = none-passed (nat_lt l.names (names_added i)) _ _ store.1 in
    let making = none-passed (nat_lt l.diversions (length i.open_texts - 1)) _ _ texts.1 in
    let stack = none-passed (nat_lt l.stack (pushed i)) _ _ making.1 in
    not-above (ends_ahead i.ahead) l.depth (none-passed (nat_lt l.depth (ends_ahead i.ahead)) _ _ stack.1).0
