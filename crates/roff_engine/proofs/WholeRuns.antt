-- A whole run of the code: how it starts, and that it comes further until it ends.
use Rattle.std.proofs.Common.{◌≡◌, ℕ, [], true, false, List, None, refl, sym, ap, subst, ◌∙◌, arith, ◌+◌, ◌*◌, ◌<◌, Bool, ◌++◌, Ok, Err, IsSome, nat_lt, le-ltb}
use Rattle.roff_num.specs.declared.limits.Limits.{Limits}
use Rattle.std.specs.Io.KnownBytes.{Appends}
use Rattle.input_source.specs.BlockRead.{SomeTape}
use Rattle.input_source.specs.Tape.{Tape, items_then}
use Rattle.input_model.specs.Looking.{is_closed, looked_then}
use Rattle.run_model.specs.declared.status.Status.{Status}
use Rattle.run_state.specs.Composer.Standing.{StandFor}
use Rattle.run_model.specs.Output.{PageHistory}
use Rattle.read_lines.specs.Reader.State.{ReaderState, fresh_reader}
use Rattle.read_lines.specs.Reader.Taken.{IsReady}
use Rattle.run_model.specs.Reading.Items.{PageUnread}
use Rattle.run_model.specs.Registers.{no_registers}
use Rattle.run_model.specs.Run.{State, Leads, first_input, first_unread, initial, paged_state, with_registers}
use Rattle.run_model.specs.Starts.{pages_given}
use Rattle.run_model.specs.declared.phase.Phase.{Phase}
use Rattle.run_model.specs.declared.phase.Phase.TheVariants.{Reading}
use Rattle.run_model.specs.declared.start.Start.{Start}
use Rattle.page_bytes.specs.Sinks.{Sunk}
use Rattle.run_model.specs.Run.Counts.{counts_in, first_passed}
use Rattle.run_turns.specs.declared.running.Running.{Running as Coded}
use Rattle.run_items.specs.Outcome.{Seen, Outcome, Runs, seen}
use Rattle.run_items.specs.Performing.{going}
use Rattle.run_turns.specs.Running.Turning.{HasCome, IsFresh, state_at, AreLeft, Comes, IsAt, falls_told, turns_with}
use Rattle.roff_engine.specs.Starting.{Begins, HasRoom}
use Rattle.run_items.proofs.Fronts.{few-nothing}
use Rattle.page_bytes.proofs.Appending.{Appends-nothing}
use Rattle.run_model.proofs.Leads.{Leads-refl}
use Rattle.run_items.proofs.Sighted.{items_then-append}

-- before the first item no count is above its limit
none_passed-fresh : (l : Limits) → first_passed l (counts_in no_registers first_input) ≡ None
none_passed-fresh l =
    let none : (limit : ℕ) → nat_lt limit 0 ≡ false = λ limit. le-ltb limit 0 (omega arith) in
    rw (none l.names, none l.line, none l.stack, none l.depth, none l.store, none l.diversions, none l.conditions) refl

-- a run before anything is given to it has room
pub HasRoom-fresh : (run : Coded) → IsFresh run.limits run.interpreter run.unread → HasRoom run
HasRoom-fresh run fresh =
    let l : Limits = run.limits in
    let P : PageUnread → ReaderState → Type 0 = λ u r. IsReady r.registers u in
    let first : P (first_unread l) (fresh_reader l.names l.line) = record { cap = refl; line = refl; within = none_passed-fresh l } in record {
      ready = subst (λ (u : PageUnread). P u run.interpreter.reader) (sym fresh.unread) (subst (λ (r : ReaderState). P (first_unread l) r) (sym fresh.reader) first);
      limits = ap (λ (u : PageUnread). u.limits) fresh.unread;
      few = few-nothing run.interpreter.reader.reading run.unread.input (ap (λ (u : PageUnread). u.input.ahead) fresh.unread);
    }

-- and stands at the definition's state in which the pages are given
pub paged-fresh : (given : Start) (tape : Tape) (run : Coded) → run.phase ≡ Reading → IsFresh run.limits run.interpreter run.unread
    → state_at tape run (pages_given given) [] ≡ paged_state given tape
paged-fresh given tape run first fresh =
    let l : Limits = run.limits in
    let at : PageUnread → ReaderState → Phase → State =
    λ u r p. going (looked_then u.looked tape) u.input r.reading r.registers.all (pages_given given) [] p (is_closed u.looked) [] in
    ap (λ (u : PageUnread). at u run.interpreter.reader run.phase) fresh.unread
    ∙ ap (λ (r : ReaderState). at (first_unread l) r run.phase) fresh.reader
    ∙ ap (λ (p : Phase). at (first_unread l) (fresh_reader l.names l.line) p) first

-- the definition begins as a run of the code that stands there
pub initial-fresh : (run : Coded) (given : Start) → run.phase ≡ Reading → IsFresh run.limits run.interpreter run.unread
    → (tape : Tape) → initial run.limits given tape ≡ with_registers run.limits given.registers.items (state_at tape run (pages_given given) [])
initial-fresh run given first fresh tape = ap (with_registers run.limits given.registers.items) (sym (paged-fresh given tape run first fresh))

-- registers were given to a run: it stands where the definition begins
begun : (old new : Coded) (given : Start) → old.phase ≡ Reading → IsFresh old.limits old.interpreter old.unread → (begins : Begins (pages_given given) old new given.registers.items)
    → (tape : Tape) → initial old.limits given tape ≡ state_at tape new begins.history []
begun old new given first fresh begins tape = initial-fresh old given first fresh tape ∙ begins.goes_on (HasRoom-fresh old fresh) tape

-- so no limit refused one of them
pub not_refused : (old new : Coded) (given : Start) → old.phase ≡ Reading → IsFresh old.limits old.interpreter old.unread → Begins (pages_given given) old new given.registers.items
    → (tape : Tape) → IsSome (initial old.limits given tape).ended → ⊥
not_refused old new given first fresh begins tape refused =
    let wrong : false ≡ true = subst (λ (s : State). IsSome s.ended) (begun old new given first fresh begins tape) refused in
    cc

-- and it has come to its first turn
pub started : (old new : Coded) (given : Start) (failures : ℕ) (out err : Sunk) (gives : Tape → Type 0) → old.phase ≡ Reading
    → StandFor old.limits (pages_given given) old.interpreter.formatter.composer → IsFresh old.limits old.interpreter old.unread
    → Begins (pages_given given) old new given.registers.items → err.room ≡ old.limits.messages → HasCome given gives gives (seen failures out err) (seen failures out err) new
started old new given failures out err gives first stands fresh begins room_is =
    let had : HasRoom old = HasRoom-fresh old fresh in
    let room : HasRoom new = begins.some.room had in
    let same : new.limits ≡ old.limits = ap (λ (run : Coded). run.limits) begins.some.sets in
    let h : PageHistory = begins.history in
    record {
      taken = [];
      before = λ tape may. may;
      at = λ tape may.
          let is : initial old.limits given tape ≡ state_at tape new h [] = begun old new given first fresh begins tape in
          record {
            history = h;
            messages = [];
            reaches = record {
              comes = subst (λ (l : Limits). Leads l (initial l given tape) (state_at tape new h [])) (sym same)
                  (subst (λ (s : State). Leads old.limits (initial old.limits given tape) s) is (Leads-refl old.limits (initial old.limits given tape)));
              text = subst (λ (text : List ℕ). Appends out.contents out.contents text) (sym begins.some.quiet) (Appends-nothing out.contents);
              messages = Appends-nothing err.contents;
              faults = record { source = omega arith; out = refl; err = refl };
              room = omega (arith, room_is, ap (λ (l : Limits). l.messages) same);
            };
            stands = subst (λ (l : Limits). StandFor l h new.interpreter.formatter.composer) (sym same) (begins.stands old.limits stands);
            ready = room.ready;
            limits = room.limits;
            few = room.few;
          };
    }

-- a run that has ended before its first turn, whatever its source would give, left all of that
pub ends_unread : (l : Limits) (given : Start) (status : Status) (gives : Tape → Type 0) (now behind : Seen) → SomeTape gives
    → ((tape : Tape) → Outcome l given tape tape status now behind) → Runs l given status gives gives now behind
ends_unread l given status gives now behind may ends = record {
  taken = [];
  took = record { before = λ t given. given; some = may.tape; some_given = may.given };
  outcome = λ left given. ends left;
}

-- a run that has come so far
module _ {given : Start} {first gave gives : Tape → Type 0} (noted notes : ℕ) (start now behind : Seen) (old new : Coded) (come : HasCome given first gave start now old) where
  -- has come further
  pub come_further : (fewer : Bool) → Comes fewer gave gives noted notes old new now behind (Ok tt) → HasCome given first gives start behind new
  come_further fewer further = record {
    taken = come.taken ++ further.taken;
    before = λ t may. subst first (sym (items_then-append come.taken further.taken t)) (come.before (items_then further.taken t) (further.before t may));
    at = λ t may.
        let tape : Tape = items_then further.taken t in
        subst (λ (whole : Tape). IsAt (record { start = given; tape = whole }) t start behind new) (sym (items_then-append come.taken further.taken t))
        (further.comes (record { start = given; tape = items_then come.taken tape }) t start may (come.at tape (further.before t may)) tt);
  }

  -- with no more turns to come, or fewer
  pub come_left : (fewer : Bool) → SomeTape gives → Comes fewer gave gives noted notes old new now behind (Ok tt)
      → AreLeft fewer (turns_with new notes) (turns_with old noted)
  come_left fewer may further =
      let tape : Tape = items_then further.taken may.tape in
      further.turns (record { start = given; tape = items_then come.taken tape }) may.tape start may.given (come.at tape (further.before may.tape may.given)) tt

  -- or has ended
  pub come_to_end : (fewer : Bool) (l : Limits) (status : Status) → old.limits ≡ l → SomeTape gives → Comes fewer gave gives noted notes old new now behind (Err status)
      → Runs l given status first gives start behind
  come_to_end fewer l status limits may further = record {
    taken = come.taken ++ further.taken;
    took = record {
      before = λ t given. subst first (sym (items_then-append come.taken further.taken t)) (come.before (items_then further.taken t) (further.before t given));
      some = may.tape;
      some_given = may.given;
    };
    outcome = λ t may.
        let tape : Tape = items_then further.taken t in
        let whole : Tape = items_then come.taken tape in
        let own : Outcome new.limits given whole t status start behind =
        further.comes (record { start = given; tape = whole }) t start may (come.at tape (further.before t may)) tt in
        subst (λ (whole : Tape). Outcome l given whole t status start behind) (sym (items_then-append come.taken further.taken t))
        (subst (λ (k : Limits). Outcome k given whole t status start behind) (further.limits ∙ limits) own);
  }

-- turns to come, and whether bytes were told
abbrev pub turns_told : ℕ → Bool → ℕ
turns_told turns false = 2 * turns
turns_told turns true = 2 * turns + 1

-- they fall with each step
pub told-fewer : (was is : Bool) (left turns : ℕ) → AreLeft (falls_told was (Ok is)) left turns → turns_told left is < turns_told turns was
told-fewer false false left turns less = omega (arith, less)
told-fewer false true left turns less = omega (arith, less)
told-fewer true false left turns less = omega (arith, less)
told-fewer true true left turns less = omega (arith, less)
