-- A run that goes on behind events, where none of them stopped the others, or one did and sprang a macro that is read.
use Rattle.std.proofs.Common.{◌∙◌, ◌≡◌, ◌≤◌, ◌-◌, ℕ, List, [], length, Option, Some, None, Ok, Err, ap, arith, refl, subst, sym, false, is_some, map, nat_lt, le-ltb}
use Rattle.input_model.specs.Input.{putting_all_back}
use Rattle.run_items.specs.Room.{FewFor, HasRoom}
use Rattle.input_model.proofs.FewEvents.{few-called}
use Rattle.input_model.specs.Input.Calls.{called_text}
use Rattle.input_model.specs.Input.Names.{body_named}
use Rattle.roff_num.specs.ShortNames.{name_bytes}
use Rattle.roff_num.specs.declared.limit.Limit.{Limit}
use Rattle.roff_num.specs.declared.limits.Limits.{Limits}
use Rattle.roff_num.specs.declared.short_name.ShortName.{ShortName}
use Rattle.input_model.specs.Unread.{input_refusal}
use Rattle.input_source.specs.Tape.{Tape}
use Rattle.read_lines.proofs.TakesAs.{few_names, short_title}
use Rattle.read_lines.specs.Reader.Springs.{Springs, SpringsBody, SpringsNothing, sprung_input}
use Rattle.read_lines.specs.Reader.State.{ReaderState}
use Rattle.read_lines.specs.Reader.Taken.{IsReady}
use Rattle.run_state.specs.Composer.Standing.{StandFor}
use Rattle.run_model.specs.Environments.{PageHistory, interrupted_line}
use Rattle.run_model.proofs.InputCounts.{NoMore, first_passed-few_names, first_passed-no_more}
use Rattle.run_model.proofs.KeepingText.{free_ahead-called}
use Rattle.run_model.proofs.Leads.{Leads-to}
use Rattle.run_model.proofs.PutBack.{bytes_ahead-back, ends_ahead-back, free_ahead-back}
use Rattle.run_model.proofs.Behind.{begun-behind_return}
use Rattle.run_model.specs.Reading.Items.{PageInput, PageUnread}
use Rattle.run_model.specs.Reading.Returns.{back_of, in_sprung}
use Rattle.run_model.specs.Requests.{called_by}
use Rattle.law_runs.proofs.RunsStayWithin.{named-keeping, title-keeping}
use Rattle.run_model.specs.Registers.{AllRegisters}
use Rattle.run_model.specs.TitleTexts.{title_length}
use Rattle.run_model.specs.Titles.{keeping, put_back}
use Rattle.run_model.specs.Run.{State, followed_by, initial, made, only_sprung, sprung_read, step, unless_refused, stopped_by}
use Rattle.run_model.specs.Run.Counts.{counts_in, first_passed}
use Rattle.run_model.specs.PageEvents.{PageEvent}
use Rattle.run_model.specs.declared.line_state.LineState.{LineState}
use Rattle.run_model.specs.declared.line_state.LineState.TheVariants.{LineStart, Branch, Braced, Text as InText, Control, Name, Deciding, Skipping, Dropped, Told, Exiting, TitleFront, Title as InTitle, Collecting}
use Rattle.run_model.specs.declared.request.Called.{Called}
use Rattle.run_model.specs.declared.request.Called.TheVariants.{Request as ARequest, Body as ABody, Nothing as Unknown}
use Rattle.run_model.specs.declared.status.Status.{Status}
use Rattle.run_events.specs.declared.halt.Halt.TheVariants.{Limit as Limited}
use Rattle.run_turns.specs.declared.running.Running.{Running as Coded}
use Rattle.run_events.specs.declared.sprung.Sprung.{Sprung}
use Rattle.run_items.specs.Outcome.{Beginning, OutcomeOf, Reaches, Seen}
use Rattle.run_items.proofs.Bounded.{told_step-quiet}
use Rattle.run_events.specs.Formatter.Sprung.{left_behind, most_back}
use Rattle.run_turns.specs.Running.Springing.{GoesOn, GoesOnSettled, IsSettled, PutsBack, turns_where}
use Rattle.run_items.specs.Halting.{Halts}
use Rattle.run_turns.specs.Running.Turning.{IsAt, line_turns, lines_left_in, state_at, turns_of_run}
use Rattle.run_items.proofs.Halted.{IsLeftOf-looked_then}
use Rattle.run_items.proofs.Fronts.{few-none, few-put_back}
use Rattle.run_items.proofs.Room.{ends-within, room_left}
use Rattle.run_turns.proofs.PuttingBack.{is-back, with_back}
use Rattle.run_items.proofs.Changes.{changed-Err, changed-Ok, not_above}
use Rattle.run_turns.proofs.TurnsLeft.{line_turns-more, lines_left-stands, lines_left_in-few}
use Rattle.run_model.specs.TurnsToCome.{lines_left}

-- no more turns are to come of a run than where so many interrupted lines are left at the most
pub turns-most : (l : Limits) (h : PageHistory) (run : Coded) (most : ℕ) → StandFor l h run.interpreter.formatter.composer → lines_left (interrupted_line h) ≤ most
    → turns_of_run run ≤ turns_where run most
turns-most l h run most stands few =
    let lines = lines_left-stands l h run.interpreter.formatter.composer stands in
    omega (arith, line_turns-more run.interpreter.reader.reading (lines_left_in run.interpreter.formatter.composer) most (omega (arith, lines, few)))

-- nothing stopped
pub goes_on_quietly : (run : Coded) (now : Seen) → GoesOn None run run now now (Ok tt)
goes_on_quietly run now = record {
  limits = refl;
  goes = λ t tape start most at. record {
    history = at.history;
    messages = at.messages;
    reaches = at.reaches;
    stands = at.stands;
    ready = at.ready;
    limits = at.limits;
    few = at.stopped.few;
  };
  turns = λ t tape start most at. turns-most run.limits at.history run most at.stands at.stopped.lines;
}

-- what isn't there
pub not_some : {A : Type 0} (o : Option A) → is_some o ≡ false → o ≡ None
not_some None is = refl
not_some (Some x) is = cc

-- what is read in a macro that sprang is no more of a line
line_turns-sprung : (reading : LineState) (left : ℕ) → left ≤ 1 → line_turns (in_sprung reading) left ≤ line_turns reading left
line_turns-sprung LineStart left few = omega arith
line_turns-sprung Branch left few = omega (arith, few)
line_turns-sprung Braced left few = omega arith
line_turns-sprung (InText line) left few = omega (arith, few)
line_turns-sprung (Control breaks) left few = omega arith
line_turns-sprung (Name breaks first) left few = omega arith
line_turns-sprung (Collecting purpose) left few = omega arith
line_turns-sprung (Deciding keeping) left few = omega arith
line_turns-sprung (Skipping opened closed behind) left few = omega arith
line_turns-sprung Dropped left few = omega arith
line_turns-sprung (Told aborts) left few = omega arith
line_turns-sprung Exiting left few = omega arith
line_turns-sprung TitleFront left few = omega arith
line_turns-sprung (InTitle delimiter) left few = omega arith

-- they count in no limit
NoMore-back : (events : List PageEvent) (i : PageInput) → NoMore (putting_all_back events i) i
NoMore-back events i = record {
  bytes = omega (arith, bytes_ahead-back events i.ahead);
  texts = omega (arith, ends_ahead-back events i.ahead);
  results = omega arith;
  stored = omega arith;
  names = omega arith;
  open_texts = omega arith;
}

-- so none of what is counted is above its limit where they are put back
within-back : (l : Limits) (events : List PageEvent) (rs : AllRegisters) (i : PageInput) → first_passed l (counts_in rs i) ≡ None
    → nat_lt l.names (length rs.named) ≡ false → nat_lt l.line (title_length rs.title) ≡ false
    → first_passed l (counts_in (keeping events rs) (putting_all_back (map put_back events) i)) ≡ None
within-back l events rs i within few short =
    let back : PageInput = putting_all_back (map put_back events) i in
    let named : nat_lt l.names (length (keeping events rs).named) ≡ false = rw (named-keeping events rs) few in
    let title : nat_lt l.line (title_length (keeping events rs).title) ≡ false =
    le-ltb l.line (title_length (keeping events rs).title) (title-keeping l events rs (not_above (title_length rs.title) l.line short)) in
    first_passed-few_names l (keeping events rs) back named title ∙ sym (first_passed-few_names l rs back few short)
    ∙ first_passed-no_more l rs back i (NoMore-back (map put_back events) i) within

-- The run of the code stands where this sprang, with what was left put back: the definition has still to read it.
pub record IsSprung (t : Beginning) (tape : Tape) (start now : Seen) (name : ShortName) (run : Coded) : Type 0 where
  pub history : PageHistory
  pub messages : List ℕ
  pub reaches : Reaches run.limits t start now (record (state_at tape run history messages) { follows = only_sprung (Some name) })
  pub stands : StandFor run.limits history run.interpreter.formatter.composer
  pub ready : IsReady run.interpreter.reader.registers run.unread
  pub limits : run.unread.limits ≡ run.limits
  pub few : FewFor [] run.interpreter.reader.reading run.unread.input.escapes run.unread.input.ahead

is_sprung : (t : Beginning) (tape : Tape) (start now : Seen) (sprung : Sprung) (name : ShortName) (most : ℕ) (run : Coded)
    → run.interpreter.formatter.composer.due.sprung ≡ Some name → IsSettled t tape start now sprung most run
    → IsSprung t tape start now name (with_back (left_behind sprung run.interpreter.reader.meaning.events) run)
is_sprung t tape start now sprung name most run named at =
    let left : List PageEvent = left_behind sprung run.interpreter.reader.meaning.events in record {
      history = at.history;
      messages = at.messages;
      reaches = subst (λ (due : Option ShortName). Reaches run.limits t start now (followed_by (only_sprung due) left (state_at tape run at.history at.messages)))
          named at.reaches;
      stands = at.stands;
      ready = record {
        cap = at.ready.cap;
        line = at.ready.line;
        within = within-back run.unread.limits left run.interpreter.reader.registers.all run.unread.input at.ready.within
            (few_names run.interpreter.reader.registers run.unread at.ready) (short_title run.interpreter.reader.registers run.unread at.ready);
      };
      limits = at.limits;
      few = few-put_back run.interpreter.reader.meaning.events left run.interpreter.reader.reading run.unread.input.escapes run.unread.input.ahead run.unread.input
          at.stopped.few (λ room some few. few) at.stopped.left at.stopped.short;
    }

-- there is room for what is put back
room_back : (t : Beginning) (tape : Tape) (start now : Seen) (sprung : Sprung) (most : ℕ) (run : Coded) → IsSettled t tape start now sprung most run
    → HasRoom (left_behind sprung run.interpreter.reader.meaning.events) run.unread
room_back t tape start now sprung most run at =
    let kept : List PageEvent = run.interpreter.reader.meaning.events in
    room_left (left_behind sprung kept) (5 - most_back kept) run.unread at.stopped.few.few (omega (arith, at.stopped.left, at.stopped.short))
    (ends-within run.unread.limits run.interpreter.reader.registers.all run.unread.input at.ready.within)

-- it is read in a step, by what its name stands for
step-sprung : (l : Limits) (tape : Tape) (run : Coded) (h : PageHistory) (messages : List ℕ) (name : ShortName) (c : Called) → called_by name run.unread.input.names ≡ c
    → let from : State = record (state_at tape run h messages) { follows = only_sprung (Some name) } in step l from ≡ made l from (sprung_read c from)
step-sprung l tape run h messages name c is =
    let from : State = record (state_at tape run h messages) { follows = only_sprung (Some name) } in
    ap (λ (called : Called). made l from (sprung_read called from)) is

-- the run of the code with this reader and unread input
abbrev with_read : Coded → ReaderState → PageUnread → Coded
with_read run reader unread = record run { interpreter = record run.interpreter { reader = reader }; unread = unread }

module _ (run : Coded) (name : ShortName) (reader : ReaderState) (unread : PageUnread) (t : Beginning) (tape : Tape) (start now : Seen)
    (at : IsSprung t tape start now name run) where
  abbrev from : State
  from = record (state_at tape run at.history at.messages) { follows = only_sprung (Some name) }

  -- a name without a body: nothing is read
  pub nothing_read : (c : Called) → called_by name run.unread.input.names ≡ c
      → sprung_read c from ≡ state_at tape run at.history at.messages → SpringsNothing run.interpreter.reader reader run.unread unread (Ok tt)
      → IsAt t tape start now (with_read run reader unread)
  nothing_read c called reads springs =
      let there : State = state_at tape run at.history at.messages in
      let allowed : first_passed run.limits (counts_in run.interpreter.reader.registers.all run.unread.input) ≡ None =
      subst (λ (l : Limits). first_passed l (counts_in run.interpreter.reader.registers.all run.unread.input) ≡ None) at.limits at.ready.within in
      let goes : step run.limits from ≡ there =
      step-sprung run.limits tape run at.history at.messages name c called
      ∙ ap (λ (done : State). made run.limits from done) reads
      ∙ ap (λ (r : Option Limit). unless_refused run.limits r from there) allowed in
      subst (λ (u : PageUnread). IsAt t tape start now (with_read run reader u)) (sym springs.input)
      (subst (λ (r : ReaderState). IsAt t tape start now (with_read run r run.unread)) (sym springs.reader)
      (record {
        history = at.history;
        messages = at.messages;
        reaches = record {
          comes = Leads-to run.limits (initial run.limits t.start t.tape) from _ at.reaches.comes goes;
          text = at.reaches.text;
          messages = at.reaches.messages;
          faults = at.reaches.faults;
          room = at.reaches.room;
        };
        stands = at.stands;
        ready = at.ready;
        limits = at.limits;
        few = at.few;
      }))

  -- the body of a name is read
  pub body_read : (body : ShortName) → called_by name run.unread.input.names ≡ ABody body → SpringsBody body run.interpreter.reader reader run.unread unread (Ok tt)
      → IsAt t tape start now (with_read run reader unread)
  body_read body called springs =
      let i : PageInput = sprung_input body run.interpreter.reader.reading run.unread.input in
      let rs = run.interpreter.reader.registers.all in
      let changed = changed-Ok (input_refusal run.unread.limits i) i run.unread unread springs.input in
      let there : PageUnread = record run.unread { input = i } in
      let reads : ReaderState = record run.interpreter.reader { reading = in_sprung run.interpreter.reader.reading } in
      let passed : first_passed run.unread.limits (counts_in rs i) ≡ None =
      first_passed-few_names run.unread.limits rs i (few_names run.interpreter.reader.registers run.unread at.ready) (short_title run.interpreter.reader.registers run.unread at.ready) ∙ changed.0 in
      let allowed : first_passed run.limits (counts_in rs i) ≡ None = subst (λ (l : Limits). first_passed l (counts_in rs i) ≡ None) at.limits passed in
      let done : State = sprung_read (ABody body) from in
      let goes : step run.limits from ≡ done =
      step-sprung run.limits tape run at.history at.messages name (ABody body) called
      ∙ ap (λ (r : Option Limit). unless_refused run.limits r from done) allowed in
      subst (λ (u : PageUnread). IsAt t tape start now (with_read run reader u)) (sym changed.1)
      (subst (λ (r : ReaderState). IsAt t tape start now (with_read run r there)) (sym springs.reads) (record {
        history = at.history;
        messages = at.messages;
        reaches = record {
          comes = Leads-to run.limits (initial run.limits t.start t.tape) from _ at.reaches.comes goes;
          text = at.reaches.text;
          messages = at.reaches.messages;
          faults = at.reaches.faults;
          room = at.reaches.room;
        };
        stands = at.stands;
        ready = record { cap = at.ready.cap; line = at.ready.line; within = passed };
        limits = at.limits;
        few = few-none [] (in_sprung run.interpreter.reader.reading) i.escapes i.ahead
            (few-called 0 (called_text (body_named (name_bytes body) run.unread.input)) (back_of run.interpreter.reader.reading) run.unread.input.ahead at.few.few) (λ keeps is. refl);
      }))

  -- or a limit refuses it: the run stops there
  pub body_refused : (body : ShortName) (limit : Limit) → called_by name run.unread.input.names ≡ ABody body → SpringsBody body run.interpreter.reader reader run.unread unread (Err limit)
      → Halts run.limits t tape run.unread.input.line (Limited limit) start now
  body_refused body limit called springs =
      let i : PageInput = sprung_input body run.interpreter.reader.reading run.unread.input in
      let rs = run.interpreter.reader.registers.all in
      let changed = changed-Err (input_refusal run.unread.limits i) limit i run.unread unread springs.input in
      let passed : first_passed run.unread.limits (counts_in rs i) ≡ Some limit =
      first_passed-few_names run.unread.limits rs i (few_names run.interpreter.reader.registers run.unread at.ready) (short_title run.interpreter.reader.registers run.unread at.ready) ∙ changed.0 in
      let done : State = sprung_read (ABody body) from in record {
        state = from;
        reaches = at.reaches;
        goes_on = refl;
        stops = told_step-quiet run.limits from (stopped_by run.limits limit from) now.err.room refl at.reaches.room
            (step-sprung run.limits tape run at.history at.messages name (ABody body) called
            ∙ ap (λ (r : Option Limit). unless_refused run.limits r from done)
            (subst (λ (l : Limits). first_passed l (counts_in rs i) ≡ Some limit) at.limits passed)) refl;
        rest = IsLeftOf-looked_then run.unread.looked tape;
        quiet = refl;
        line_is = refl;
      }

  -- what its name stands for is read
  pub called_read : (c : Called) → called_by name run.unread.input.names ≡ c → Springs c run.interpreter.reader reader run.unread unread (Ok tt)
      → IsAt t tape start now (with_read run reader unread)
  called_read (ABody body) called springs = body_read body called springs
  called_read (ARequest request) called springs = nothing_read (ARequest request) called refl springs
  called_read Unknown called springs = nothing_read Unknown called refl springs

  pub called_refused : (c : Called) (limit : Limit) → called_by name run.unread.input.names ≡ c → Springs c run.interpreter.reader reader run.unread unread (Err limit)
      → Halts run.limits t tape run.unread.input.line (Limited limit) start now
  called_refused (ABody body) limit called springs = body_refused body limit called springs
  called_refused (ARequest request) limit called springs = (let wrong = springs.goes_on in cc)
  called_refused Unknown limit called springs = (let wrong = springs.goes_on in cc)

-- where nothing is read no more turns are to come, with what was put back
turns-nothing : (events : List PageEvent) (old : Coded) (reader : ReaderState) (unread : PageUnread)
    → SpringsNothing (with_back events old).interpreter.reader reader (with_back events old).unread unread (Ok tt)
    → turns_of_run (with_read (with_back events old) reader unread) ≤ turns_of_run old
turns-nothing events old reader unread springs =
    subst (λ (u : PageUnread). turns_of_run (with_read (with_back events old) reader u) ≤ turns_of_run old) (sym springs.input)
    (subst (λ (r : ReaderState). turns_of_run (with_read (with_back events old) r (with_back events old).unread) ≤ turns_of_run old) (sym springs.reader)
    (omega (arith, free_ahead-back (map put_back events) old.unread.input.ahead)))

-- nor are they where a body is read
turns-read : (c : Called) (events : List PageEvent) (old : Coded) (reader : ReaderState) (unread : PageUnread)
    → Springs c (with_back events old).interpreter.reader reader (with_back events old).unread unread (Ok tt)
    → turns_of_run (with_read (with_back events old) reader unread) ≤ turns_of_run old
turns-read (ABody body) events old reader unread springs =
    let mid : Coded = with_back events old in
    let i : PageInput = sprung_input body old.interpreter.reader.reading mid.unread.input in
    let changed = changed-Ok (input_refusal mid.unread.limits i) i mid.unread unread springs.input in
    let reads : ReaderState = record mid.interpreter.reader { reading = in_sprung old.interpreter.reader.reading } in
    let left : ℕ = lines_left_in old.interpreter.formatter.composer in
    let there : Coded = with_read mid reads (record mid.unread { input = i }) in
    let few : turns_of_run there ≤ turns_of_run old =
    (let text : List ℕ = called_text (body_named (name_bytes body) mid.unread.input) in
    omega (
      arith,
      free_ahead-called text (back_of old.interpreter.reader.reading) mid.unread.input.ahead,
      free_ahead-back (map put_back events) old.unread.input.ahead,
      begun-behind_return 0 old.interpreter.reader.reading,
      line_turns-sprung old.interpreter.reader.reading left (lines_left_in-few old.interpreter.formatter.composer),
    )) in
    subst (λ (u : PageUnread). turns_of_run (with_read mid reader u) ≤ turns_of_run old) (sym changed.1)
    (subst (λ (r : ReaderState). turns_of_run (with_read mid r (record mid.unread { input = i })) ≤ turns_of_run old) (sym springs.reads) few)
turns-read (ARequest request) events old reader unread springs = turns-nothing events old reader unread springs
turns-read Unknown events old reader unread springs = turns-nothing events old reader unread springs

-- the run goes on in what sprang
pub goes_on_sprung : (sprung : Sprung) (name : ShortName) (old mid : Coded) (reader : ReaderState) (unread : PageUnread) (now : Seen)
    → old.interpreter.formatter.composer.due.sprung ≡ Some name → PutsBack (left_behind sprung old.interpreter.reader.meaning.events) old mid
    → Springs (called_by name mid.unread.input.names) mid.interpreter.reader reader mid.unread unread (Ok tt)
    → GoesOnSettled sprung old (with_read mid reader unread) now now (Ok tt)
goes_on_sprung sprung name old mid reader unread now named puts springs =
    let left : List PageEvent = left_behind sprung old.interpreter.reader.meaning.events in record {
      limits = ap (λ (run : Coded). run.limits) puts.others;
      goes = λ t tape start most at.
          let P : Coded → Type 0 = λ run. Springs (called_by name run.unread.input.names) run.interpreter.reader reader run.unread unread (Ok tt)
          → IsAt t tape start now (with_read run reader unread) in
          subst P (sym (is-back left old mid puts (room_back t tape start now sprung most old at)))
          (λ reads. called_read (with_back left old) name reader unread t tape start now (is_sprung t tape start now sprung name most old named at)
          (called_by name old.unread.input.names) refl reads) springs;
      turns = λ t tape start most at.
          let P : Coded → Type 0 = λ run. Springs (called_by name run.unread.input.names) run.interpreter.reader reader run.unread unread (Ok tt)
          → turns_of_run (with_read run reader unread) ≤ turns_of_run old in
          let fewer = subst P (sym (is-back left old mid puts (room_back t tape start now sprung most old at)))
          (λ reads. turns-read (called_by name old.unread.input.names) left old reader unread reads) springs in
          omega (arith, fewer, turns-most old.limits at.history old most at.stands (omega (arith, at.stopped.lines, at.stopped.most)));
    }

-- or a limit refuses that
pub stops_sprung : (sprung : Sprung) (name : ShortName) (old mid new : Coded) (limit : Limit) (line : ℕ) (now behind : Seen) (status : Status)
    → old.interpreter.formatter.composer.due.sprung ≡ Some name → PutsBack (left_behind sprung old.interpreter.reader.meaning.events) old mid
    → Springs (called_by name mid.unread.input.names) mid.interpreter.reader new.interpreter.reader mid.unread new.unread (Err limit)
    → new.limits ≡ mid.limits → line ≡ mid.unread.input.line
    → ((t : Beginning) (tape : Tape) (start : Seen) → Halts new.limits t tape line (Limited limit) start now → OutcomeOf new.limits t tape status start behind)
    → GoesOnSettled sprung old new now behind (Err status)
stops_sprung sprung name old mid new limit line now behind status named puts springs same line_is ends =
    let left : List PageEvent = left_behind sprung old.interpreter.reader.meaning.events in record {
      limits = same ∙ ap (λ (run : Coded). run.limits) puts.others;
      goes = λ t tape start most at.
          let P : Coded → Type 0 = λ run. Springs (called_by name run.unread.input.names) run.interpreter.reader new.interpreter.reader run.unread new.unread (Err limit)
          → Halts run.limits t tape run.unread.input.line (Limited limit) start now in
          let halts : Halts mid.limits t tape mid.unread.input.line (Limited limit) start now =
          subst P (sym (is-back left old mid puts (room_back t tape start now sprung most old at)))
          (λ reads. called_refused (with_back left old) name new.interpreter.reader new.unread t tape start now (is_sprung t tape start now sprung name most old named at)
          (called_by name old.unread.input.names) limit refl reads) springs in
          ends t tape start (rw (same, line_is) halts);
      turns = λ t tape start most at. tt;
    }
