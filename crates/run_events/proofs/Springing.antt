-- Events before which something may come, and that may spring a macro.
use Rattle.std.proofs.Common.{◌∙◌, ◌≡◌, ◌≤◌, ℕ, Bool, true, false, List, [], ◌∷◌, Option, Some, None, Result, Ok, Err, ap, arith, refl, subst, sym}
use Rattle.roff_num.specs.declared.limits.Limits.{Limits}
use Rattle.page_model.specs.Behind.{has_open_word}
use Rattle.page_model.specs.declared.event.Event.TheVariants.{Count, WordEnd}
use Rattle.run_state.specs.Composer.Standing.{StandFor}
use Rattle.run_state.specs.Environments.Standing.{StandBy}
use Rattle.run_state.specs.declared.composer.Composer.{Composer as ComposerOf}
use Rattle.run_events.specs.declared.formatter.Formatter.{Formatter}
use Rattle.run_events.specs.declared.halt.Halt.{Halt}
use Rattle.run_events.specs.declared.sprung.Sprung.{Sprung}
use Rattle.run_events.specs.Reaching.{Beginning, Reaches}
use Rattle.page_bytes.specs.Devices.{Seen, seen}
use Rattle.run_events.specs.Formatter.Performing.{AllPerformed, EndsBefore, EndsOpenWord, EndsWordFirst, Performs, PerformsOne, PerformsEvents, PerformsUnfielded, acting, behind_event, behind_word}
use Rattle.run_events.specs.Formatter.Sprung.{MovesOn, first_left, noted, open_weight, sprung_by}
use Rattle.run_model.specs.Environments.{environments, interrupted_line}
use Rattle.run_model.specs.Output.{PageHistory, text_of}
use Rattle.run_model.specs.PageEvents.{PageEvent}
use Rattle.run_model.specs.declared.event.PageEvent.TheVariants.{Text, Page}
use Rattle.page_model.specs.declared.layout_event.LayoutEvent.TheVariants.{Begin}
use Rattle.run_model.specs.Registers.{AllRegisters}
use Rattle.roff_num.specs.declared.short_name.ShortName.{ShortName}
use Rattle.run_model.specs.Run.{State, only_sprung}
use Rattle.run_model.specs.Springs.{begins, ends_field, own_word_end, springs, word_end_of}
use Rattle.run_model.specs.Titles.{told}
use Rattle.run_model.specs.TurnsToCome.{lines_left, most_left}
use Rattle.run_model.proofs.LinesLeft.{lines_left-event, most_left-fewer}
use Rattle.page_bytes.specs.Sinks.{Sunk}
use Rattle.run_events.proofs.DoneFirst.{only_first, ready_then, springs_here}
use Rattle.run_events.proofs.FirstPages.{begun_by, begun_for, ready_always}
use Rattle.run_events.proofs.ComingBefore.{behind-own, free-word, word_ended}
use Rattle.run_events.proofs.DoneEvents.{reached_within}
use Rattle.run_events.proofs.LinesLeft.{lines_left-behind}
use Rattle.run_events.proofs.Placed.{stands_quietly, text_allowed}

-- an event before which no word end comes was performed
pub one_alone : (e : PageEvent) (old new : Formatter) (out out_new : Sunk) (r : Result (Option Sprung) Halt) → ((h : PageHistory) → word_end_of h e ≡ None)
    → PerformsEvents (e ∷ []) old new out out_new r → PerformsOne e old new out out_new r
one_alone e old new out out_new r none only = record {
  one = λ l t before failures err s h rest stood reached. only.performs l t before failures err s h rest stood (none h, tt) reached;
  moves = λ l h stood. only.moves;
}

-- a text line counts, and springs this
pub counts_only : (old new : Formatter) (out : Sunk) (name : Option ShortName)
    → ((l : Limits) (h : PageHistory) → StandFor l h old.composer → StandBy l (environments (Text Count ∷ h)) new.composer.environments)
    → new.composer.pages ≡ old.composer.pages → new.composer.due ≡ noted name old.composer.due
    → ((l : Limits) (h : PageHistory) → StandFor l h old.composer → name ≡ springs h (Text Count))
    → PerformsEvents (Text Count ∷ []) old new out out (Ok (sprung_by name))
counts_only old new out name stands same due is =
    only_first (Text Count) (Text Count) old new out out (Ok (sprung_by name)) (λ rs. refl) (λ g. refl) (λ sprung is. refl) (λ g. refl)
    (ready_then (Text Count) (Text Count) old old new out out (Ok (sprung_by name)) (ready_always (Text Count) old (λ h. refl))
    (springs_here (Text Count) (Text Count) old new out name
    (λ l h stood. text_allowed l h Count (reached_within Count old new (λ h. refl) stands l h stood) refl)
    (λ l h stood. stands_quietly l h (Text Count) old.composer new.composer stood refl (stands l h stood) same)
    (λ l h stood. refl) (λ l h stood. ap only_sprung (sym (is l h stood))) due))

-- no word was open
pub none_open : (f : Formatter) (out : Sunk) → ((l : Limits) (h : PageHistory) → StandFor l h f.composer → has_open_word (text_of h) ≡ false)
    → EndsOpenWord f f out out (Ok None)
none_open f out closed = record {
  ends = λ l t before failures err s h e rest stood own reached.
      subst (λ (b : Bool). EndsBefore l t before (seen failures out err) s e h (behind_word s.registers b h) rest (Ok None) f.composer) (sym (closed l h stood))
      (record { reaches = reached; stands = stood });
  closes = λ is l h stood. omega arith;
  moves = λ l h stood. tt;
}

-- nothing stopped in front of an event
quiet_before : (r : Result (Option Sprung) Halt) → first_left r ≡ Ok None → r ≡ Ok None
quiet_before (Ok None) is = refl
quiet_before (Ok (Some sprung)) is = absurd (cc)
quiet_before (Err halt) is = absurd (cc)

-- one was
pub one_open : (old new : Formatter) (out out_new : Sunk) (r result : Result (Option Sprung) Halt) → first_left r ≡ result
    → ((l : Limits) (h : PageHistory) → StandFor l h old.composer → has_open_word (text_of h) ≡ true)
    → EndsWordFirst old new out out_new r → EndsOpenWord old new out out_new result
one_open old new out out_new r result answers found ends = record {
  ends = λ l t before failures err s h e rest stood own reached.
      let is = found l h stood in
      subst (λ (result : Result (Option Sprung) Halt). EndsBefore l t before (seen failures out_new err) s e h (behind_word s.registers (has_open_word (text_of h)) h) rest result new.composer) answers
      (subst (λ (b : Bool). EndsBefore l t before (seen failures out_new err) s e h (behind_word s.registers b h) rest (first_left r) new.composer) (sym is)
      (ends.first l t before failures err s h e rest stood (own ∙ ap own_word_end is) reached));
  closes = λ none l h stood. omega (arith, ends.closes (quiet_before r (answers ∙ none)) l h stood (found l h stood));
  moves = λ l h stood. subst (λ (result : Result (Option Sprung) Halt). MovesOn old new result) answers (ends.moves l h stood (found l h stood));
}

-- What was performed of events behind a history was performed behind an earlier one, behind which as many interrupted lines are left
-- at the least.
pub performs_from : (l : Limits) (t : Beginning) (before now : Seen) (s : State) (events : List PageEvent) (h there behind behind_it : PageHistory) (rest : List PageEvent) (r : Result (Option Sprung) Halt) (es : ComposerOf)
    → lines_left (interrupted_line there) ≤ lines_left (interrupted_line h) → behind ≡ behind_it
    → Performs l t before now s events there behind rest r es → Performs l t before now s events h behind_it rest r es
performs_from l t before now s events h there behind behind_it rest (Ok None) es fewer is p =
    subst (λ (behind : PageHistory). AllPerformed l t before now s behind rest es) is p
performs_from l t before now s events h there behind behind_it rest (Ok (Some sprung)) es fewer is p =
    let few = most_left-fewer events (lines_left (interrupted_line there)) (lines_left (interrupted_line h)) fewer in
    let lines : lines_left (interrupted_line p.history) ≤ most_left events (lines_left (interrupted_line there)) = p.lines in record {
      history = p.history;
      reaches = p.reaches;
      stands = p.stands;
      lines = omega (arith, few, lines);
      among = p.among;
      named = p.named;
      few = p.few;
    }
performs_from l t before now s events h there behind behind_it rest (Err halt) es fewer is p = p

-- behind the first page's beginning as many are left
pub lines-begun : (rs : AllRegisters) (e : PageEvent) (h : PageHistory) → lines_left (interrupted_line (begun_for e h)) ≤ lines_left (interrupted_line h)
lines-begun rs e h = by (begins h e)
  where
    by : (b : Bool) → lines_left (interrupted_line (begun_by b h)) ≤ lines_left (interrupted_line h)
    by false = omega arith
    by true = lines_left-event rs (Page Begin) h

-- behind the open word no more interrupted lines are left
lines-word : (rs : AllRegisters) (b : Bool) (h : PageHistory) → lines_left (interrupted_line (behind_word rs b h)) ≤ lines_left (interrupted_line h)
lines-word rs false h = omega arith
lines-word rs true h = omega (arith, lines_left-behind rs (Text WordEnd) h)

-- what moved on behind an end of a word did so in all
pub moves_from : (old mid new : Formatter) (r : Result (Option Sprung) Halt) → open_weight mid.composer ≤ open_weight old.composer → MovesOn mid new r → MovesOn old new r
moves_from old mid new (Ok None) fewer moves = tt
moves_from old mid new (Ok (Some sprung)) fewer moves = omega (arith, fewer, moves)
moves_from old mid new (Err halt) fewer moves = tt

-- An event was performed where no field's end comes before it, whether the end of a word does or not.
pub record OneUnfielded (e : PageEvent) (old new : Formatter) (out out_new : Sunk) (r : Result (Option Sprung) Halt) : Type 0 where
  pub one : (l : Limits) (t : Beginning) (before : Seen) (failures : ℕ) (err : Sunk) (s : State) (h : PageHistory) (rest : List PageEvent)
      → StandFor l h old.composer → ends_field h e ≡ false → Reaches l t before (seen failures out err) (acting s (e ∷ rest) h)
      → Performs l t before (seen failures out_new err) s (e ∷ []) h (behind_event s.registers e h) rest r new.composer
  pub moves : (l : Limits) (h : PageHistory) → StandFor l h old.composer → MovesOn old new r

-- it was performed where none ever does
pub one_free : (e : PageEvent) (old new : Formatter) (out out_new : Sunk) (r : Result (Option Sprung) Halt) → ((h : PageHistory) → ends_field h e ≡ false)
    → OneUnfielded e old new out out_new r → PerformsOne e old new out out_new r
one_free e old new out out_new r free only = record {
  one = λ l t before failures err s h rest stood reached. only.one l t before failures err s h rest stood (free h) reached;
  moves = only.moves;
}

-- one that was performed as any list, where no word end comes before it either
pub unfielded : (e : PageEvent) (old new : Formatter) (out out_new : Sunk) (r : Result (Option Sprung) Halt)
    → PerformsEvents (e ∷ []) old new out out_new r → PerformsUnfielded e old new out out_new r
unfielded e old new out out_new r only = record {
  performs = λ l t before failures err s h rest stood none free reached. only.performs l t before failures err s h rest stood (none, tt) reached;
  moves = only.moves;
}

-- an event before which the end of the open word comes, if one is open
module _ (e : PageEvent) (own : (h : PageHistory) → word_end_of h e ≡ own_word_end (has_open_word (text_of h))) where
  -- what became of the event, as it stands behind that
  behind_own : (l : Limits) (t : Beginning) (before now : Seen) (s : State) (h : PageHistory) → ends_field h e ≡ false → (rest : List PageEvent) (r : Result (Option Sprung) Halt) (es : ComposerOf)
      → let there : PageHistory = behind_word s.registers (has_open_word (text_of h)) h in
      Performs l t before now s (e ∷ []) there (behind_event s.registers e there) rest r es → Performs l t before now s (e ∷ []) h (behind_event s.registers e h) rest r es
  behind_own l t before now s h free rest r es p =
      let there : PageHistory = behind_word s.registers (has_open_word (text_of h)) h in
      performs_from l t before now s (e ∷ []) h there (behind_event s.registers e there) (behind_event s.registers e h) rest r es
      (lines-word s.registers (has_open_word (text_of h)) h) (ap (λ (g : PageHistory). told s.registers e ∷ g) (behind-own s.registers e own h free 1)) p

  -- the event behind it
  pub own_then : (old mid new : Formatter) (out out_mid out_new : Sunk) (done r : Result (Option Sprung) Halt)
      → done ≡ Ok None → EndsOpenWord old mid out out_mid done → PerformsUnfielded e mid new out_mid out_new r → OneUnfielded e old new out out_new r
  own_then old mid new out out_mid out_new done r quiet ended only =
      let ends : EndsOpenWord old mid out out_mid (Ok None) = subst (λ (r : Result (Option Sprung) Halt). EndsOpenWord old mid out out_mid r) quiet ended in record {
        one = λ l t before failures err s h rest stood free reached.
            let b : Bool = has_open_word (text_of h) in
            let now = ends.ends l t before failures err s h e rest stood (own h) reached in
            behind_own l t before (seen failures out_new err) s h free rest r new.composer
            (only.performs l t before failures err s (behind_word s.registers b h) rest now.stands
            (word_ended s.registers e own h free b refl) (free-word s.registers e own h free b) now.reaches);
        moves = λ l h stood. moves_from old mid new r (ends.closes refl l h stood) only.moves;
      }

  -- or where the end of that sprang something, and the event is left
  pub own_sprung : (old new : Formatter) (out out_new : Sunk) (sprung : Sprung) (done : Result (Option Sprung) Halt) → done ≡ Ok (Some sprung) → EndsOpenWord old new out out_new done → OneUnfielded e old new out out_new (Ok (Some sprung))
  own_sprung old new out out_new sprung done found ended =
      let ends : EndsOpenWord old new out out_new (Ok (Some sprung)) = subst (λ (r : Result (Option Sprung) Halt). EndsOpenWord old new out out_new r) found ended in record {
        one = λ l t before failures err s h rest stood free reached. ends.ends l t before failures err s h e rest stood (own h) reached;
        moves = ends.moves;
      }

  -- or halted
  pub own_halted : (old new : Formatter) (out out_new : Sunk) (halt : Halt) → EndsOpenWord old new out out_new (Err halt) → OneUnfielded e old new out out_new (Err halt)
  own_halted old new out out_new halt ends = record {
    one = λ l t before failures err s h rest stood free reached. ends.ends l t before failures err s h e rest stood (own h) reached;
    moves = λ l h stood. tt;
  }
