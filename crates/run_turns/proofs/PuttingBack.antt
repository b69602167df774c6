-- Events that are put back: what was left of those that the reader keeps.
use Rattle.std.proofs.Common.{◌∙◌, ◌≡◌, ◌≤◌, ◌<◌, ◌+◌, ℕ, Bool, true, false, List, [], ◌∷◌, ◌++◌, length, Some, None, ap, arith, refl, subst, sym, drop, map, slice_get, ◌-◌}
use Rattle.std.proofs.lemmas.List.{length-map}
use Rattle.input_model.specs.Input.{Ahead, DoAhead, events_ahead, most_events, putting_all_back, putting_back}
use Rattle.read_lines.specs.Reader.State.{ReaderState}
use Rattle.run_model.specs.PageEvents.{PageEvent}
use Rattle.run_model.specs.declared.event.PageEvent.TheVariants.{Text, Interrupt, Environment, Back, InputTrap, Page, Title}
use Rattle.run_model.specs.declared.title.WhichTitle.TheVariants.{Read, Kept}
use Rattle.run_model.specs.Reading.Items.{PageUnread}
use Rattle.run_model.specs.Registers.{AllRegisters}
use Rattle.run_model.specs.Titles.{keeping, put_back, with_title_kept}
use Rattle.run_items.specs.declared.interpreter.Interpreter.{Interpreter}
use Rattle.run_turns.specs.declared.running.Running.{Running as Coded}
use Rattle.run_items.specs.Room.{HasRoom}
use Rattle.run_turns.specs.Running.Springing.{PutsBack}
use Rattle.run_events.specs.Formatter.Sprung.{event_going_on, first_going_on, is_going_on, left_behind}
use Rattle.run_events.specs.declared.sprung.Sprung.{Sprung}
use Rattle.run_events.proofs.EventsLeft.{drop-at, drop-past, drop-past-next, going-none}

-- the reader where these events are put back: a title among them is kept
abbrev pub reader_keeping : List PageEvent → ReaderState → ReaderState
reader_keeping events r = record r { registers = record r.registers { all = keeping events r.registers.all } }

-- the run with these events put back
abbrev pub with_back : List PageEvent → Coded → Coded
with_back events run = record run {
  unread = record run.unread { input = putting_all_back (map put_back events) run.unread.input };
  interpreter = record run.interpreter { reader = reader_keeping events run.interpreter.reader };
}

-- it is that run, if there was room
pub is-back : (events : List PageEvent) (old mid : Coded) → PutsBack events old mid → HasRoom events old.unread → mid ≡ with_back events old
is-back events old mid puts room =
    puts.others
    ∙ ap (λ (u : PageUnread). record old { unread = u; interpreter = mid.interpreter }) (puts.puts room)
    ∙ ap (λ (f : Interpreter). record old { unread = record old.unread { input = putting_all_back (map put_back events) old.unread.input }; interpreter = f }) puts.keeps

-- events that are put back are so many more
events_ahead-back : (events : List PageEvent) (items : List (Ahead PageEvent)) → events_ahead (map DoAhead events ++ items) ≡ length events + events_ahead items
events_ahead-back [] items = omega arith
events_ahead-back (e ∷ events) items = omega (arith, events_ahead-back events items)

-- a title that is kept before others are is kept behind them
kept-keeping : (events : List PageEvent) (rs : AllRegisters) → with_title_kept (keeping events rs) ≡ keeping events (with_title_kept rs)
kept-keeping [] rs = refl
kept-keeping (Title Read ∷ events) rs = kept-keeping events (with_title_kept rs)
kept-keeping (Title Kept ∷ events) rs = kept-keeping events rs
kept-keeping (Text e ∷ events) rs = kept-keeping events rs
kept-keeping (Interrupt untold ∷ events) rs = kept-keeping events rs
kept-keeping (Environment number ∷ events) rs = kept-keeping events rs
kept-keeping (Back ∷ events) rs = kept-keeping events rs
kept-keeping (InputTrap trap ∷ events) rs = kept-keeping events rs
kept-keeping (Page e ∷ events) rs = kept-keeping events rs

-- so that an event is put back behind others does as where it comes first
keeping-behind : (event : PageEvent) (others : List PageEvent) (rs : AllRegisters) → keeping (event ∷ []) (keeping others rs) ≡ keeping (event ∷ others) rs
keeping-behind (Title Read) others rs = kept-keeping others rs
keeping-behind (Title Kept) others rs = refl
keeping-behind (Text e) others rs = refl
keeping-behind (Interrupt untold) others rs = refl
keeping-behind (Environment number) others rs = refl
keeping-behind Back others rs = refl
keeping-behind (InputTrap trap) others rs = refl
keeping-behind (Page e) others rs = refl

-- the run with this reader and unread input
abbrev pub with_both : Coded → ReaderState → PageUnread → Coded
with_both run reader unread = record run { unread = unread; interpreter = record run.interpreter { reader = reader } }

-- one more in front of others
pub puts_one : (event : PageEvent) (others : List PageEvent) (old mid : Coded) (reader : ReaderState) (left : PageUnread) → PutsBack others old mid
    → reader ≡ reader_keeping (event ∷ []) mid.interpreter.reader
    → (events_ahead mid.unread.input.ahead < most_events mid.unread.limits.depth → left ≡ record mid.unread { input = putting_back (put_back event) mid.unread.input })
    → PutsBack (event ∷ others) old (with_both mid reader left)
puts_one event others old mid reader left puts kept put = record {
  others = ap (λ (run : Coded). record run { unread = left; interpreter = record mid.interpreter { reader = reader } }) puts.others;
  keeps = ap (λ (r : ReaderState). record mid.interpreter { reader = r }) kept
      ∙ ap (λ (f : Interpreter). record f { reader = reader_keeping (event ∷ []) f.reader }) puts.keeps
      ∙ ap (λ (rs : AllRegisters). record old.interpreter { reader = record old.interpreter.reader { registers = record old.interpreter.reader.registers { all = rs } } })
      (keeping-behind event others old.interpreter.reader.registers.all);
  puts = λ room.
      let enough : events_ahead old.unread.input.ahead + length (event ∷ others) ≤ most_events old.unread.limits.depth = room (omega arith) in
      let is : mid.unread ≡ record old.unread { input = putting_all_back (map put_back others) old.unread.input } = puts.puts (λ some. omega (arith, enough)) in
      let many : length (map put_back others) ≡ length others = length-map others put_back in
      let allowed : events_ahead mid.unread.input.ahead < most_events mid.unread.limits.depth =
      rw is (omega (arith, enough, many, events_ahead-back (map put_back others) old.unread.input.ahead)) in
      put allowed ∙ ap (λ (u : PageUnread). record u { input = putting_back (put_back event) u.input }) is;
}

-- the events that the reader keeps stay as others are put back
kept_same : (events : List PageEvent) (old mid : Coded) → PutsBack events old mid
    → mid.interpreter.reader.meaning.events ≡ old.interpreter.reader.meaning.events
kept_same events old mid puts = ap (λ (f : Interpreter). f.reader.meaning.events) puts.keeps

-- one more of those that the reader keeps is put back, in front of those behind it
pub puts_at : (old mid : Coded) (reader : ReaderState) (left : PageUnread) (index : ℕ) (event : PageEvent) → 1 ≤ index
    → PutsBack (drop index old.interpreter.reader.meaning.events) old mid
    → slice_get mid.interpreter.reader.meaning.events (index - 1) ≡ Some event
    → reader ≡ reader_keeping (event ∷ []) mid.interpreter.reader
    → (events_ahead mid.unread.input.ahead < most_events mid.unread.limits.depth → left ≡ record mid.unread { input = putting_back (put_back event) mid.unread.input })
    → PutsBack (drop (index - 1) old.interpreter.reader.meaning.events) old (with_both mid reader left)
puts_at old mid reader left index event some puts at kept put =
    let events : List PageEvent = old.interpreter.reader.meaning.events in
    let next : index - 1 + 1 ≡ index = omega (arith, some) in
    let stands : slice_get events (index - 1) ≡ Some event =
    subst (λ (es : List PageEvent). slice_get es (index - 1) ≡ Some event) (kept_same (drop index events) old mid puts) at in
    let opened : drop (index - 1) events ≡ event ∷ drop index events =
    drop-at events (index - 1) event stands ∙ ap (λ (n : ℕ). event ∷ drop n events) next in
    subst (λ (es : List PageEvent). PutsBack es old (with_both mid reader left)) (sym opened)
    (puts_one event (drop index events) old mid reader left puts kept put)

-- where there is none, none is there behind it either
pub puts_past : (old mid : Coded) (index : ℕ) → 1 ≤ index → PutsBack (drop index old.interpreter.reader.meaning.events) old mid
    → slice_get mid.interpreter.reader.meaning.events (index - 1) ≡ None → PutsBack (drop (index - 1) old.interpreter.reader.meaning.events) old mid
puts_past old mid index some puts at =
    let events : List PageEvent = old.interpreter.reader.meaning.events in
    let next : index - 1 + 1 ≡ index = omega (arith, some) in
    let stands : slice_get events (index - 1) ≡ None =
    subst (λ (es : List PageEvent). slice_get es (index - 1) ≡ None) (kept_same (drop index events) old mid puts) at in
    let none : drop (index - 1) events ≡ drop index events =
    drop-past events (index - 1) stands ∙ sym (subst (λ (n : ℕ). drop n events ≡ []) next (drop-past-next events (index - 1) stands)) in
    subst (λ (es : List PageEvent). PutsBack es old mid) (sym none) puts

-- What is left of those that the reader keeps was put back: those from an index on, where none goes on.
pub puts_left : (sprung : Sprung) (old mid : Coded) → is_going_on sprung.why ≡ false → PutsBack (drop sprung.left old.interpreter.reader.meaning.events) old mid
    → PutsBack (left_behind sprung old.interpreter.reader.meaning.events) old mid
puts_left sprung old mid is puts =
    let left : List PageEvent = drop sprung.left old.interpreter.reader.meaning.events in
    subst (λ (events : List PageEvent). PutsBack events old mid) (sym (ap (λ (b : Bool). first_going_on b left) is ∙ going-none left)) puts

-- and in front of those behind it the one that goes on
pub puts_going_on : (sprung : Sprung) (old mid : Coded) (reader : ReaderState) (left : PageUnread) (event : PageEvent) → is_going_on sprung.why ≡ true
    → PutsBack (drop (sprung.left + 1) old.interpreter.reader.meaning.events) old mid
    → slice_get mid.interpreter.reader.meaning.events sprung.left ≡ Some event
    → reader ≡ reader_keeping (event_going_on event ∷ []) mid.interpreter.reader
    → (events_ahead mid.unread.input.ahead < most_events mid.unread.limits.depth → left ≡ record mid.unread { input = putting_back (put_back (event_going_on event)) mid.unread.input })
    → PutsBack (left_behind sprung old.interpreter.reader.meaning.events) old (with_both mid reader left)
puts_going_on sprung old mid reader left event is puts at kept put =
    let events : List PageEvent = old.interpreter.reader.meaning.events in
    let others : List PageEvent = drop (sprung.left + 1) events in
    let stands : slice_get events sprung.left ≡ Some event =
    subst (λ (es : List PageEvent). slice_get es sprung.left ≡ Some event) (kept_same others old mid puts) at in
    let opened : left_behind sprung events ≡ event_going_on event ∷ others =
    ap (λ (b : Bool). first_going_on b (drop sprung.left events)) is ∙ ap (λ (es : List PageEvent). first_going_on true es) (drop-at events sprung.left event stands) in
    subst (λ (es : List PageEvent). PutsBack es old (with_both mid reader left)) (sym opened) (puts_one (event_going_on event) others old mid reader left puts kept put)

-- where there is none, nothing is left
pub puts_gone : (sprung : Sprung) (old mid : Coded) → PutsBack (drop (sprung.left + 1) old.interpreter.reader.meaning.events) old mid
    → slice_get mid.interpreter.reader.meaning.events sprung.left ≡ None → PutsBack (left_behind sprung old.interpreter.reader.meaning.events) old mid
puts_gone sprung old mid puts at =
    let events : List PageEvent = old.interpreter.reader.meaning.events in
    let stands : slice_get events sprung.left ≡ None =
    subst (λ (es : List PageEvent). slice_get es sprung.left ≡ None) (kept_same (drop (sprung.left + 1) events) old mid puts) at in
    let none : left_behind sprung events ≡ drop (sprung.left + 1) events =
    ap (λ (es : List PageEvent). first_going_on (is_going_on sprung.why) es) (drop-past events sprung.left stands) ∙ sym (drop-past-next events sprung.left stands) in
    subst (λ (es : List PageEvent). PutsBack es old mid) (sym none) puts
