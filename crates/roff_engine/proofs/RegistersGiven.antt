-- Registers that are given to a run are set one after another, or one is refused.
use Rattle.std.proofs.Common.{arith, ◌≡◌, ℕ, Bool, true, false, List, [], ◌∷◌, length, Some, None, Result, Ok, Err, refl, sym, ap, subst, ◌∙◌, nat_lt, if◌then◌else◌}
use Rattle.roff_num.specs.declared.limit.Limit.{Limit}
use Rattle.roff_num.specs.declared.limit.Limit.TheVariants.{Names}
use Rattle.roff_num.specs.declared.limits.Limits.{Limits}
use Rattle.roff_num.specs.declared.num.Num.{Num}
use Rattle.run_items.specs.Outcome.{Outcome, Seen}
use Rattle.run_items.specs.Performing.{going}
use Rattle.run_items.specs.Giving.{Gives}
use Rattle.run_items.specs.Room.{FewFor}
use Rattle.roff_engine.specs.Starting.{Begins, HasRoom, IsRefused, SetsSome}
use Rattle.run_items.specs.Halting.{StartStops}
use Rattle.run_turns.specs.Running.Turning.{state_at}
use Rattle.run_items.specs.declared.interpreter.Interpreter.{Interpreter}
use Rattle.run_turns.specs.declared.running.Running.{Running as Coded}
use Rattle.run_items.proofs.NumberedPages.{written-given}
use Rattle.read_lines.proofs.TakesAs.{few_names, short_title}
use Rattle.read_lines.specs.Reader.State.{ReaderState}
use Rattle.read_lines.specs.Reader.Taken.{IsReady}
use Rattle.run_state.specs.Composer.Standing.{StandFor}
use Rattle.run_model.proofs.InputCounts.{first_passed-few_names}
use Rattle.run_model.specs.Output.{PageHistory, written}
use Rattle.run_model.specs.Reading.Items.{PageInput}
use Rattle.run_model.specs.Registers.{AllRegisters, Change, changed_by}
use Rattle.run_model.specs.Registers.Capped.{Capped, is_past_cap, with_change}
use Rattle.law_runs.proofs.RunsStayWithin.{title-given}
use Rattle.run_model.specs.TitleTexts.{TitleText, title_length}
use Rattle.run_model.specs.Run.{State, initial, stopped_by, unless_refused, with_registers}
use Rattle.run_model.specs.Starts.{given_change, history_given, pages_given}
use Rattle.run_model.specs.declared.start.Start.{Start}
use Rattle.run_model.specs.declared.status.Status.{Status}
use Rattle.input_model.specs.Looking.{is_closed, looked_then}
use Rattle.input_model.specs.declared.looked.Looked.{Looked}
use Rattle.input_model.specs.declared.looked.Looked.TheVariants.{Nothing}
use Rattle.input_source.specs.Tape.{Tape}

-- what asking for a change answers, by whether more names than may would have a register behind it
abbrev answer_of : Bool → Result (Unit {0}) Limit
answer_of past = if past then Err Names else Ok tt

-- it is admitted where no more would
admitted_ok : (past : Bool) (r : Result (Unit {0}) Limit) → r ≡ answer_of past → r ≡ Ok tt → past ≡ false
admitted_ok true r is ok = cc
admitted_ok false r is ok = refl

-- and refused for the limit on names where more would
admitted_err : (past : Bool) (limit : Limit) (r : Result (Unit {0}) Limit) → r ≡ answer_of past → r ≡ Err limit → (past ≡ true) × (limit ≡ Names)
admitted_err true limit r is err = (refl, cc)
admitted_err false limit r is err = cc

-- so far these registers of all that are given were set, behind a history, and the others are to be
pub record SetSoFar (first : PageHistory) (old now : Coded) (given rest : List (ℕ × Num)) : Type 0 where
  pub history : PageHistory
  pub some : SetsSome old now history
  pub goes_on : HasRoom old → (tape : Tape) → with_registers old.limits given (state_at tape old first []) ≡ with_registers old.limits rest (state_at tape now history [])
  pub stands : (l : Limits) → StandFor l first old.interpreter.formatter.composer → StandFor l history now.interpreter.formatter.composer

-- none was set yet
pub SetSoFar-none : (first : PageHistory) (old : Coded) (given : List (ℕ × Num)) → written first ≡ [] → SetSoFar first old old given given
SetSoFar-none first old given quiet = record {
  history = first;
  some = record { sets = refl; reader = refl; room = λ room. room; quiet = quiet };
  goes_on = λ room tape. refl;
  stands = λ l stood. stood;
}

-- a reader in which registers alone changed since, and again
same_reader : (first now new : ReaderState) (rs : Capped) → now ≡ record first { registers = now.registers } → new ≡ record now { registers = rs }
    → new ≡ record first { registers = new.registers }
same_reader first now new rs was is =
    is ∙ ap (λ (r : ReaderState). record r { registers = rs }) was
    ∙ ap (λ (r : ReaderState). record first { registers = r.registers }) (sym is)

-- the next one, and those behind it
module _ (first : PageHistory) (old now : Coded) (given rest : List (ℕ × Num)) (next : ℕ × Num) (far : SetSoFar first old now given (next ∷ rest)) where
  -- the change, the registers before it, and those behind it
  abbrev change : Change
  change = given_change next.0 next.1

  abbrev rs : Capped
  rs = now.interpreter.reader.registers

  abbrev changed : Capped
  changed = with_change change rs

  abbrev behind : AllRegisters
  behind = changed_by change rs.all

  -- the reader with these registers
  abbrev reading : Capped → ReaderState
  reading registers = record now.interpreter.reader { registers = registers }

  -- the run with an interpreter, and the state at which it stands with a reader
  abbrev over : Interpreter → Coded
  over f = record now { interpreter = f }

  abbrev at : Tape → PageHistory → ReaderState → State
  at tape h r = going (looked_then now.unread.looked tape) now.unread.input r.reading r.registers.all h [] now.phase (is_closed now.unread.looked) []

  -- the states of the definition before it, and behind it and the others
  abbrev before : Tape → State
  before tape = at tape far.history (reading rs)

  abbrev others : Tape → State
  others tape = with_registers old.limits rest (at tape (history_given next far.history) (reading changed))

  limits : now.limits ≡ old.limits
  limits = ap (λ (run : Coded). run.limits) far.some.sets

  -- the code's limit on names is the run's
  cap : HasRoom old → rs.cap ≡ old.limits.names
  cap had =
      let room : HasRoom now = far.some.room had in
      room.ready.cap ∙ ap (λ (l : Limits). l.names) room.limits ∙ ap (λ (l : Limits). l.names) limits

  -- where it is set or refused the definition does that
  by : (past : Bool) → is_past_cap changed ≡ past → HasRoom old → (tape : Tape)
      → with_registers old.limits given (state_at tape old first []) ≡ (if past then stopped_by old.limits Names (before tape) else others tape)
  by past is had tape =
      let counted : nat_lt old.limits.names (length behind.named) ≡ past = ap (λ (n : ℕ). nat_lt n (length behind.named)) (sym (cap had)) ∙ is in
      far.goes_on had tape
      ∙ ap (λ (b : Bool). unless_refused old.limits (if b then Some Names else None) (before tape) (others tape)) counted
      ∙ by_past past (before tape) (others tape)
    where
      by_past : (past : Bool) (s others : State)
          → unless_refused old.limits (if past then Some Names else None) s others ≡ (if past then stopped_by old.limits Names s else others)
      by_past true s others = refl
      by_past false s others = refl

  -- no count is above its limit where it is set
  ready-set : is_past_cap changed ≡ false → HasRoom old → IsReady changed now.unread
  ready-set is had =
      let room : HasRoom now = far.some.room had in
      let l : Limits = now.unread.limits in
      let i : PageInput = now.unread.input in
      let few : nat_lt l.names (length behind.named) ≡ false = ap (λ (n : ℕ). nat_lt n (length behind.named)) (sym room.ready.cap) ∙ is in
      record {
        cap = room.ready.cap;
        line = room.ready.line;
        within = first_passed-few_names l behind i few (ap (λ (t : TitleText). nat_lt l.line (title_length t)) (title-given next rs.all) ∙ short_title rs now.unread room.ready) ∙ sym (first_passed-few_names l rs.all i (few_names rs now.unread room.ready) (short_title rs now.unread room.ready)) ∙ room.ready.within;
      }

  -- behind it, in an interpreter with these registers
  module _ (f : Interpreter) (r : Result (Unit {0}) Limit) (gives : Gives next.0 next.1 now.interpreter f r) where
    -- what else is read stays
    some-behind : (h : PageHistory) (registers : Capped) → f.reader ≡ reading registers
        → (HasRoom old → IsReady registers now.unread) → written h ≡ [] → SetsSome old (over f) h
    some-behind h registers is ready quiet = record {
      sets = ap (λ (run : Coded). record run { interpreter = f }) far.some.sets;
      reader = same_reader old.interpreter.reader now.interpreter.reader f.reader registers far.some.reader is;
      room = λ had. record {
        ready = subst (λ (r : ReaderState). IsReady r.registers now.unread) (sym is) (ready had);
        limits = (far.some.room had).limits;
        few = subst (λ (r : ReaderState). FewFor [] r.reading now.unread.input.escapes now.unread.input.ahead) (sym is) (far.some.room had).few;
      };
      quiet = quiet;
    }

    -- it was set
    pub set_next : r ≡ Ok tt → SetSoFar first old (over f) given rest
    set_next ok =
        let few : is_past_cap changed ≡ false = admitted_ok (is_past_cap changed) r gives.answer ok in
        let h : PageHistory = history_given next far.history in
        let is : f.reader ≡ reading changed = gives.reader ∙ ap (λ (past : Bool). reading (if past then rs else changed)) few in
        record {
          history = h;
          some = some-behind h changed is (ready-set few) (written-given next far.history far.some.quiet);
          goes_on = λ had tape. by false few had tape ∙ ap (λ (r : ReaderState). with_registers old.limits rest (at tape h r)) (sym is);
          stands = λ l stood. gives.stands l far.history (far.stands l stood);
        }

    -- or it was refused
    pub refused_next : (limit : Limit) → r ≡ Err limit → IsRefused first old (over f) given limit
    refused_next limit err =
        let past = admitted_err (is_past_cap changed) limit r gives.answer err in
        let is : f.reader ≡ reading rs =
        gives.reader ∙ ap (λ (past : Bool). reading (if past then rs else changed)) past.0 in
        subst (λ (n : Limit). IsRefused first old (over f) given n) (sym past.1) (record {
          history = far.history;
          some = some-behind far.history rs is (λ had. (far.some.room had).ready) far.some.quiet;
          stops = λ had tape. by true past.0 had tape ∙ ap (λ (r : ReaderState). stopped_by old.limits Names (at tape far.history r)) (sym is);
        })

-- all were set
pub Begins-all : (first : PageHistory) (old new : Coded) (given rest : List (ℕ × Num)) → length rest ≡ 0 → SetSoFar first old new given rest
    → Begins first old new given
Begins-all first old new given [] none far = record { history = far.history; some = far.some; goes_on = far.goes_on; stands = far.stands }
Begins-all first old new given (next ∷ rest) none far = absurd (omega (arith, none))

-- a limit refused one, where nothing of the source was looked at: nothing was read or written yet
pub stops_at_start : (run : Coded) (given : Start) (tape : Tape) (h : PageHistory) (limit : Limit) (line : ℕ) (now : Seen)
    → run.unread.looked ≡ Nothing → written h ≡ []
    → initial run.limits given tape ≡ stopped_by run.limits limit (state_at tape run h []) → line ≡ run.unread.input.line
    → StartStops run.limits (record { start = given; tape = tape }) tape line limit now now
stops_at_start run given tape h limit line now unread quiet stops line_is = record {
  state = state_at tape run h [];
  stops = stops;
  text = quiet;
  messages = refl;
  source = omega arith;
  out = refl;
  err = refl;
  rest = refl;
  unread = ap (λ (looked : Looked). looked_then looked tape) unread;
  line_is = sym line_is;
}

-- a run in which one was refused ends so
pub begin_refused : (old mid : Coded) (given : Start) (tape : Tape) (limit : Limit) (status : Status) (now behind : Seen)
    → IsRefused (pages_given given) old mid given.registers.items limit → HasRoom old → old.unread.looked ≡ Nothing
    → initial old.limits given tape ≡ with_registers old.limits given.registers.items (state_at tape old (pages_given given) [])
    → ((h : PageHistory) → mid.unread.looked ≡ Nothing → written h ≡ [] → initial mid.limits given tape ≡ stopped_by mid.limits limit (state_at tape mid h [])
    → Outcome mid.limits given tape tape status now behind)
    → Outcome old.limits given tape tape status now behind
begin_refused old mid given tape limit status now behind refused had unread is ends =
    let h : PageHistory = refused.history in
    let same : mid.limits ≡ old.limits = ap (λ (run : Coded). run.limits) refused.some.sets in
    let looked : mid.unread.looked ≡ old.unread.looked = ap (λ (run : Coded). run.unread.looked) refused.some.sets in
    subst (λ (l : Limits). Outcome l given tape tape status now behind) same
    (ends h (looked ∙ unread) refused.some.quiet
    (subst (λ (l : Limits). initial l given tape ≡ stopped_by l limit (state_at tape mid h [])) (sym same) (is ∙ refused.stops had tape)))
