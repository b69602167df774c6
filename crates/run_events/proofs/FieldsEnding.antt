-- The end of an open field, which comes before a line end and a break.
use Rattle.std.proofs.Common.{◌∙◌, ◌≡◌, ◌<◌, ◌≤◌, ℕ, Bool, true, false, not, ◌&&◌, ◌||◌, List, [], ◌∷◌, Option, None, Result, Ok, Err, ap, arith, refl, subst, sym, is_some}
use Rattle.roff_num.specs.declared.limit.Limit.TheVariants.{Line}
use Rattle.roff_num.specs.declared.limits.Limits.{Limits}
use Rattle.page_model.specs.Behind.{has_open_word, pending_length}
use Rattle.page_model.specs.Events.{History}
use Rattle.page_model.specs.Fields.{Told, is_in_field, so_far, told_plainly, told_behind}
use Rattle.page_model.specs.Lines.{pending_length as length_in}
use Rattle.page_model.specs.Words.{has_open_word as has_word_in}
use Rattle.page_model.specs.declared.event.Event.TheVariants.{FieldEnd}
use Rattle.roff_pages.specs.Pages.Kept.{Kept}
use Rattle.roff_pages.specs.Pages.Stands.{StandsAs}
use Rattle.roff_lines.specs.Env.Stands.{StandsFor}
use Rattle.roff_lines.specs.declared.env.Env.{Env}
use Rattle.run_events.proofs.OpenFields.{has_open_word-stands, is_in_field-stands}
use Rattle.roff_lines.proofs.Unfielded.{told-unfielded}
use Rattle.run_state.specs.Composer.Standing.{StandFor}
use Rattle.run_state.specs.Environments.Standing.{StandBy}
use Rattle.run_state.specs.declared.composer.Composer.{Composer as ComposerOf}
use Rattle.run_events.specs.declared.formatter.Formatter.{Formatter}
use Rattle.run_events.specs.declared.halt.Halt.{Halt}
use Rattle.run_events.specs.declared.halt.Halt.TheVariants.{Limit as Limited}
use Rattle.run_events.specs.declared.sprung.Sprung.{Sprung}
use Rattle.run_events.specs.Reaching.{Beginning, Reaches}
use Rattle.page_bytes.specs.Devices.{Seen, seen}
use Rattle.run_events.specs.Formatter.Performing.{Performs, PerformsOne, PerformsStanding, PerformsUnfielded, acting, behind_event}
use Rattle.run_events.specs.Formatter.Sprung.{open_weight, word_weight}
use Rattle.run_model.specs.Environments.{PageHistory, environments, text_of}
use Rattle.run_model.specs.Output.{layout_of}
use Rattle.run_model.specs.PageEvents.{PageEvent}
use Rattle.run_model.specs.Registers.{AllRegisters}
use Rattle.run_model.specs.Springs.{ends_field, own_word_end, word_end_of}
use Rattle.run_model.specs.Titles.{told}
use Rattle.run_model.specs.declared.event.PageEvent.TheVariants.{Text}
use Rattle.run_model.specs.Run.{State, performed, performing, step, unless_refused}
use Rattle.run_model.specs.Run.Counts.{refusal}
use Rattle.run_model.proofs.LinesLeft.{lines_left-event}
use Rattle.page_bytes.specs.Sinks.{Sunk}
use Rattle.run_events.proofs.ComingBefore.{behind-field, behind-own}
use Rattle.run_events.proofs.DoneEvents.{reached_within, text_changes_here, within_stands}
use Rattle.run_events.proofs.DoneFirst.{PerformsHere, performs_unfielded}
use Rattle.run_events.proofs.FirstPages.{next-field}
use Rattle.run_events.proofs.Performed.{event_stopped, standing, word-least}
use Rattle.run_events.proofs.Placed.{stands_quietly, text_refused}
use Rattle.run_events.proofs.Springing.{OneUnfielded, moves_from, performs_from}

-- where none is open a field's end is told as nothing
pub told-again : (h : History) → is_in_field h ≡ false → told_plainly (FieldEnd ∷ h) ≡ told_plainly h
told-again h none = ap (told_behind FieldEnd) (told-unfielded h none) ∙ sym (told-unfielded h none)

-- so environments and pages that stand for a history with one stand for it without one
stands_again : (l : Limits) (h : PageHistory) (old new : ComposerOf) → is_in_field (text_of h) ≡ false → StandFor l h old
    → StandBy l (environments (Text FieldEnd ∷ h)) new.environments → new.pages ≡ old.pages → StandFor l h new
stands_again l h old new none stood ended same = record {
  environments = record {
    number = ended.number;
    in_force = record {
      lines = subst (λ (t : Told). StandsFor l.line t new.environments.in_force.lines) (told-again (text_of h) none) ended.in_force.lines;
      interrupted = ended.in_force.interrupted;
      input_trap = ended.in_force.input_trap;
    };
    next = ended.next;
    last = ended.last;
    left = ended.left;
    cap = ended.cap;
  };
  pages = subst (λ (k : Kept). StandsAs (layout_of h) k) (sym same) stood.pages;
  written = ap (λ (k : Kept). k.written) same ∙ stood.written;
  within = subst (λ (k : Kept). k.written ≤ k.output) (sym same) stood.within;
  output = ap (λ (k : Kept). k.output) same ∙ stood.output;
  traps = ap (λ (k : Kept). k.most_traps) same ∙ stood.traps;
  diversions = ap (λ (k : Kept). k.most_diversions) same ∙ stood.diversions;
  goes_on = stood.goes_on;
}

-- what is open counts no more behind a field's end: the field's word counts what the field did
weight-opened : (word : Bool) (field mid : Bool) → field ≡ true → word_weight mid ≤ word_weight (word || field)
weight-opened true field mid is = omega (arith, word-least mid)
weight-opened false true mid is = omega (arith, word-least mid)
weight-opened false false mid is = absurd (cc)

module _ (l : Limits) (h : PageHistory) (old mid : ComposerOf) (stood : StandFor l h old) (ended : StandBy l (environments (Text FieldEnd ∷ h)) mid.environments) where
  abbrev before_it : Env
  before_it = old.environments.in_force.lines

  abbrev behind_it : Env
  behind_it = mid.environments.in_force.lines

  fielded : is_some before_it.field ≡ is_in_field (text_of h)
  fielded = is_in_field-stands l.line (text_of h) before_it stood.environments.in_force.lines

  unfielded : is_some behind_it.field ≡ false
  unfielded = is_in_field-stands l.line (FieldEnd ∷ text_of h) behind_it ended.in_force.lines

  weight-same : is_in_field (text_of h) ≡ false → open_weight mid ≡ open_weight old
  weight-same none =
      let word : behind_it.is_open ≡ before_it.is_open =
      has_open_word-stands l.line (FieldEnd ∷ text_of h) behind_it ended.in_force.lines
      ∙ ap (λ (t : Told). not (is_some t.field) && has_word_in (so_far t)) (told-again (text_of h) none)
      ∙ sym (has_open_word-stands l.line (text_of h) before_it stood.environments.in_force.lines) in
      ap (λ (is_open : Bool). word_weight (is_open || is_some behind_it.field)) word
      ∙ ap (λ (field : Bool). word_weight (before_it.is_open || field)) (unfielded ∙ sym none ∙ sym fielded)

  weight-by : (b : Bool) → is_in_field (text_of h) ≡ b → open_weight mid ≤ open_weight old
  weight-by true is = weight-opened before_it.is_open (is_some before_it.field) (behind_it.is_open || is_some behind_it.field) (fielded ∙ is)
  weight-by false none = omega (arith, weight-same none)

  weight-ended : open_weight mid ≤ open_weight old
  weight-ended = weight-by (is_in_field (text_of h)) refl

-- an event before which the ends of an open field and an open word come, if these are open
module _ (e : PageEvent) (own : (h : PageHistory) → word_end_of h e ≡ own_word_end (has_open_word (text_of h)))
    (fields : (h : PageHistory) → ends_field h e ≡ is_in_field (text_of h)) where
  -- what it stands behind, where the field's end comes before it
  behind-ended : (rs : AllRegisters) (h : PageHistory) → ends_field h e ≡ true → behind_event rs e (Text FieldEnd ∷ h) ≡ behind_event rs e h
  behind-ended rs h ends =
      let there : PageHistory = Text FieldEnd ∷ h in
      ap (λ (g : PageHistory). told rs e ∷ g)
      (sym (behind-own rs e own there (fields there) 1) ∙ behind-own rs e own there (fields there) 0 ∙ sym (behind-field rs e 2 h ends))

  module _ (l : Limits) (t : Beginning) (before : Seen) (failures : ℕ) (err : Sunk) (s : State) (h : PageHistory) (rest : List PageEvent) (out : Sunk)
      (reached : Reaches l t before (seen failures out err) (acting s (e ∷ rest) h)) where
    -- the step in which it ends
    steps : ends_field h e ≡ true → step l (acting s (e ∷ rest) h)
        ≡ unless_refused l (refusal l h (Text FieldEnd)) (acting s (e ∷ rest) h) (performed (Text FieldEnd) (e ∷ rest) (acting s (e ∷ rest) h))
    steps ends = ap (λ (first : Option PageEvent). performing l first e rest (acting s (e ∷ rest) h)) (next-field h e ends)

    -- the event behind it
    one_by : (old mid new : Formatter) (out_new : Sunk) (r : Result (Option Sprung) Halt) → StandFor l h old.composer
        → ((l : Limits) (h : PageHistory) → StandFor l h old.composer → StandBy l (environments (Text FieldEnd ∷ h)) mid.composer.environments)
        → mid.composer.pages ≡ old.composer.pages → OneUnfielded e mid new out out_new r → (b : Bool) → ends_field h e ≡ b
        → Performs l t before (seen failures out_new err) s (e ∷ []) h (behind_event s.registers e h) rest r new.composer
    one_by old mid new out_new r stood stands same only false free =
        only.one l t before failures err s h rest
        (stands_again l h old.composer mid.composer (sym (fields h) ∙ free) stood (stands l h stood) same) free reached
    one_by old mid new out_new r stood stands same only true ends =
        let there : PageHistory = Text FieldEnd ∷ h in
        let here : PerformsHere (Text FieldEnd) (Text FieldEnd) old mid out out (Ok None) =
        text_changes_here FieldEnd old mid out (reached_within FieldEnd old mid (λ h. refl) stands) stands same (λ l h stood. refl) (λ h. refl) in
        let now = here.here l t before failures err s h e rest (e ∷ rest) stood refl (steps ends) reached in
        performs_from l t before (seen failures out_new err) s (e ∷ []) h there (behind_event s.registers e there) (behind_event s.registers e h) rest r new.composer
        (lines_left-event s.registers (Text FieldEnd) h) (behind-ended s.registers h ends)
        (only.one l t before failures err s there rest now.stands (fields there) now.reaches)

    -- or the limit on lines refuses it
    stopped_by : (old new : Formatter) → StandFor l h old.composer → l.line < pending_length (FieldEnd ∷ text_of h) → (b : Bool) → ends_field h e ≡ b
        → Performs l t before (seen failures out err) s (e ∷ []) h (behind_event s.registers e h) rest (Err (Limited Line)) new.composer
    stopped_by old new stood longer false free =
        let same : pending_length (FieldEnd ∷ text_of h) ≡ pending_length (text_of h) =
        ap (λ (t : Told). length_in (so_far t)) (told-again (text_of h) (sym (fields h) ∙ free)) in
        let few : pending_length (text_of h) ≤ l.line =
        within_stands l.line (text_of h) old.composer.environments.in_force.lines stood.environments.in_force.lines in
        absurd (omega (arith, longer, same, few))
    stopped_by old new stood longer true ends =
        event_stopped l t before failures err s h e rest out reached (Text FieldEnd) (e ∷ rest) (steps ends) Line (text_refused l h FieldEnd longer)

  pub field_then : (old mid new : Formatter) (out out_new : Sunk) (r : Result (Option Sprung) Halt)
      → ((l : Limits) (h : PageHistory) → StandFor l h old.composer → StandBy l (environments (Text FieldEnd ∷ h)) mid.composer.environments)
      → mid.composer.pages ≡ old.composer.pages → OneUnfielded e mid new out out_new r → PerformsOne e old new out out_new r
  field_then old mid new out out_new r stands same only = record {
    one = λ l t before failures err s h rest stood reached.
        one_by l t before failures err s h rest out reached old mid new out_new r stood stands same only (ends_field h e) refl;
    moves = λ l h stood.
        moves_from old mid new r (weight-ended l h old.composer mid.composer stood (stands l h stood))
        (only.moves l (Text FieldEnd ∷ h) (stands_quietly l h (Text FieldEnd) old.composer mid.composer stood refl (stands l h stood) same));
  }

  pub field_stopped : (old new : Formatter) (out : Sunk)
      → ((l : Limits) (h : PageHistory) → StandFor l h old.composer → l.line < pending_length (FieldEnd ∷ text_of h))
      → PerformsOne e old new out out (Err (Limited Line))
  field_stopped old new out longer = record {
    one = λ l t before failures err s h rest stood reached.
        stopped_by l t before failures err s h rest out reached old new stood (longer l h stood) (ends_field h e) refl;
    moves = λ l h stood. tt;
  }

-- an event that was performed with what comes before it was performed as any list
pub standing_one : (e : PageEvent) (old new : Formatter) (out out_new : Sunk) (r : Result (Option Sprung) Halt)
    → PerformsOne e old new out out_new r → PerformsStanding (e ∷ []) old new out out_new r
standing_one e old new out out_new r done = record {
  performs = λ l t before failures err s h rest stood flows reached. done.one l t before failures err s h rest stood reached;
  moves = done.moves;
}

-- and so was one before which no field's end comes, where none is open
pub standing_unfielded : (e : PageEvent) (old new : Formatter) (out out_new : Sunk) (r : Result (Option Sprung) Halt)
    → ((h : PageHistory) → ends_field h e ≡ is_in_field (text_of h))
    → ((l : Limits) (h : PageHistory) → StandFor l h old.composer → is_in_field (text_of h) ≡ false)
    → PerformsUnfielded e old new out out_new r → PerformsStanding (e ∷ []) old new out out_new r
standing_unfielded e old new out out_new r fields none only =
    standing (e ∷ []) old new out out_new r (performs_unfielded e old new out out_new r (λ l h stood. fields h ∙ none l h stood) only)
