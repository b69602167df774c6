-- The state behind an item.
use Rattle.std.proofs.Common.{◌≡◌, ℕ, ◌≤◌, List, [], ◌∷◌, ◌++◌, Ok, None, refl, sym, ap, ◌∙◌, arith}
use Rattle.roff_num.specs.declared.limits.Limits.{Limits}
use Rattle.input_source.specs.Tape.{Tape, Item, items_then}
use Rattle.input_model.specs.Looking.{looked_then}
use Rattle.input_model.specs.declared.looked.Looked.{Looked}
use Rattle.input_model.specs.declared.looked.Looked.TheVariants.{Nothing, Byte, Closed}
use Rattle.read_lines.specs.Reader.Taken.{IsReady}
use Rattle.run_model.specs.Reading.Items.{PageUnread}
use Rattle.run_model.specs.Reading.Returns.{going_back}
use Rattle.run_model.specs.PageEvents.{PageEvent, PageHistory}
use Rattle.run_model.specs.declared.line_state.LineState.{LineState}
use Rattle.run_model.proofs.GoingBack.{going_back-by}
use Rattle.run_state.specs.Composer.Standing.{StandFor}
use Rattle.run_events.specs.declared.formatter.Formatter.{Formatter}
use Rattle.run_events.specs.Formatter.Performing.{AllPerformed, Flows, PerformsEvents, acting, behind_events}
use Rattle.run_model.specs.Registers.Capped.{Capped}
use Rattle.run_model.specs.Run.{State}
use Rattle.run_items.specs.Outcome.{Beginning, Seen, Reaches, seen}
use Rattle.page_bytes.specs.Sinks.{Sunk}
use Rattle.run_items.proofs.Calls.{Leaves}

-- the source may have had faults more
pub Reaches-failures : (l : Limits) (t : Beginning) (start : Seen) (old failures : ℕ) (out err : Sunk) (s : State) → old ≤ failures
    → Reaches l t start (seen old out err) s → Reaches l t start (seen failures out err) s
Reaches-failures l t start old failures out err s more reached = record {
  comes = reached.comes;
  text = reached.text;
  messages = reached.messages;
  faults = record { source = omega (arith, reached.faults.source, more); out = reached.faults.out; err = reached.faults.err };
  room = reached.room;
}

-- what going back to something means was performed, and nothing came before it
pub back_performed : (reading : LineState) (f g : Formatter) (l : Limits) (t : Beginning) (start : Seen) (failures : ℕ) (out err : Sunk) (s : State) (h : PageHistory)
    → PerformsEvents (going_back reading) f g out out (Ok None) → StandFor l h f.composer
    → Reaches l t start (seen failures out err) (acting s (going_back reading ++ []) h)
    → AllPerformed l t start (seen failures out err) s (behind_events s.registers (going_back reading) h) [] g.composer
back_performed reading f g l t start failures out err s h performs stands reaches =
    performs.performs l t start failures err s h [] stands (going_back-by (λ (es : List PageEvent). Flows s.registers es h) tt (refl, tt) reading) reaches

-- behind a call that raises no count, no count is above its limit
pub ready_behind : {gave gives : Tape → Type 0} {taken : List Item} (r : Capped) (u left : PageUnread) → Leaves gave gives u left taken
    → IsReady r u → IsReady r left
ready_behind r u left leaves ready = record {
  cap = ready.cap ∙ ap (λ (l : Limits). l.names) (sym leaves.limits);
  line = ready.line ∙ ap (λ (l : Limits). l.line) (sym leaves.limits);
  within = rw leaves.limits (leaves.within r.all ready.within);
}

-- where nothing was looked at or taken, all of a tape is left
pub all_left : (looked : Looked) (taken : List Item) (tape : Tape) → looked ≡ Nothing → taken ≡ [] → tape ≡ looked_then looked (items_then taken tape)
all_left Nothing [] tape none nothing = refl
all_left Nothing (item ∷ items) tape none nothing = cc
all_left (Byte b) taken tape none nothing = cc
all_left (Closed kept) taken tape none nothing = cc
