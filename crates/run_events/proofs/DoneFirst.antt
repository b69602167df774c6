-- Events that are performed where they stand in front of others, each behind the first page's beginning if it begins there.
use Rattle.std.proofs.Common.{◌∙◌, ◌≡◌, ◌≤◌, ℕ, Bool, true, false, ◌||◌, List, [], ◌∷◌, length, Option, Some, None, Result, Ok, Err, ap, arith, refl, subst, sym, is_some}
use Rattle.page_model.specs.Events.{History}
use Rattle.page_model.specs.Fields.{is_in_field}
use Rattle.roff_num.specs.declared.limit.Limit.{Limit}
use Rattle.roff_num.specs.declared.limits.Limits.{Limits}
use Rattle.roff_num.specs.declared.short_name.ShortName.{ShortName}
use Rattle.page_model.specs.declared.event.Event.TheVariants.{WordEnd}
use Rattle.page_model.specs.DueTexts.{TextDue}
use Rattle.page_model.specs.Behind.{has_open_word}
use Rattle.roff_lines.specs.Env.Kept.{Kept}
use Rattle.roff_lines.specs.Env.Stands.{Stands, StandsBehind}
use Rattle.run_events.proofs.OpenFields.{has_open_word-stands, is_in_field-stands}
use Rattle.roff_lines.specs.declared.env.Env.{Env}
use Rattle.run_state.specs.Composer.Standing.{StandFor}
use Rattle.run_state.specs.declared.composer.Composer.{Composer as ComposerOf}
use Rattle.run_state.specs.declared.due_text.Due.{Due}
use Rattle.run_events.specs.declared.formatter.Formatter.{Formatter}
use Rattle.run_events.specs.declared.halt.Halt.{Halt}
use Rattle.run_events.specs.declared.halt.Halt.TheVariants.{Limit as Limited}
use Rattle.run_events.specs.declared.sprung.Sprung.{Sprung}
use Rattle.run_events.specs.Reaching.{Beginning, Reaches}
use Rattle.page_bytes.specs.Devices.{Seen, seen}
use Rattle.run_events.specs.Formatter.Performing.{AllPerformed, EndsBefore, EndsWordFirst, HaltedAt, Performs, PerformsEvents, PerformsUnfielded, SprungAt, acting, behind_event, behind_next}
use Rattle.run_events.specs.Formatter.Paging.{ReadyFor}
use Rattle.run_events.specs.Formatter.Sprung.{MovesOn, StopsBehind, diverting, first_left, following_of, left_before, left_behind, may_be_left, most_back, noted, open_weight, sprung_before, sprung_behind, sprung_by, with_sprung, word_weight}
use Rattle.run_model.specs.Environments.{PageHistory, interrupted_line, text_of}
use Rattle.run_model.specs.Output.{happens, layout_of, written_by}
use Rattle.run_model.specs.Registers.{AllRegisters}
use Rattle.run_model.specs.Springs.{begins, ends_field, left_of, springs}
use Rattle.run_model.specs.Titles.{told}
use Rattle.run_model.specs.TurnsToCome.{left_by, lines_left}
use Rattle.run_model.specs.PageEvents.{PageEvent, PastEvent}
use Rattle.run_model.specs.declared.event.PageEvent.TheVariants.{Text}
use Rattle.run_model.specs.Following.{following, text_behind}
use Rattle.run_model.specs.Run.{State, Following, followed_by, nothing_follows, only_sprung, performed, step, unless_refused}
use Rattle.run_model.specs.Run.Counts.{refusal}
use Rattle.page_bytes.specs.Sinks.{Sunk, Writes}
use Rattle.page_bytes.proofs.Appending.{Writes-nothing}
use Rattle.run_events.proofs.EventsLeft.{going-none, most-left}
use Rattle.run_events.proofs.ComingBefore.{behind-alone, closed-word, in_field-word}
use Rattle.run_events.proofs.FirstPages.{DoneFirst, begun, begun_for, done_alone, done_own, field_end-same, moves-before, next-alone, next-own, page_sprang, word-unfielded, word_end-same}
use Rattle.run_events.proofs.LinesLeft.{lines_left-behind, owns-left, left-leaves}
use Rattle.run_events.proofs.Performed.{event_performed, event_stopped, moves-behind, sprung-least}

-- Nothing follows what happened where an event stands in front of others, behind which these are left.
pub record DoneHere (l : Limits) (t : Beginning) (before now : Seen) (s : State) (h : PageHistory) (x : PastEvent) (left : List PageEvent) (es : ComposerOf) : Type 0 where
  pub reaches : Reaches l t before now (acting s left (x ∷ h))
  pub stands : StandFor l (x ∷ h) es
  pub springs : springs h x ≡ None

-- a macro sprang, or the text of a diversion is to be changed first
pub data StopsSo (h : PageHistory) (x : PastEvent) : Sprung → Type 0 where
  BySpringing : (name : ShortName) → springs h x ≡ Some name → StopsSo h x sprung_behind
  ByText : (due : TextDue) → text_behind (happens h x) (layout_of h) ≡ Some due → StopsSo h x diverting

-- this follows it
pub record SprungHere (l : Limits) (t : Beginning) (before now : Seen) (s : State) (h : PageHistory) (x : PastEvent) (left : List PageEvent) (sprung : Sprung) (es : ComposerOf) : Type 0 where
  pub reaches : Reaches l t before now (followed_by (following_of es sprung s.registers) left (acting s [] (x ∷ h)))
  pub stands : StandFor l (x ∷ h) es
  pub so : StopsSo h x sprung
  pub follows : following h x ≡ following_of es sprung s.registers

-- what became of it
abbrev pub Here : Limits → Beginning → Seen → Seen → State → PageHistory → PastEvent → List PageEvent → Result (Option Sprung) Halt → ComposerOf → Type 0
Here l t before now s h x left (Ok None) es = DoneHere l t before now s h x left es
Here l t before now s h x left (Ok (Some sprung)) es = SprungHere l t before now s h x left sprung es
Here l t before now s h x left (Err halt) es = HaltedAt l t before now s halt

-- A formatter performed this, as this event happens, where it is done first, in front of which no page begins: for each state of a run
-- that has an event to do where it is, behind which these are left.
pub record PerformsHere (own : PageEvent) (x : PastEvent) (old new : Formatter) (out out_new : Sunk) (r : Result (Option Sprung) Halt) : Type 0 where
  pub here : (l : Limits) (t : Beginning) (before : Seen) (failures : ℕ) (err : Sunk) (s : State) (h : PageHistory) (e : PageEvent) (rest left : List PageEvent)
      → StandFor l h old.composer → told s.registers own ≡ x
      → step l (acting s (e ∷ rest) h) ≡ unless_refused l (refusal l h x) (acting s (e ∷ rest) h) (performed x left (acting s (e ∷ rest) h))
      → Reaches l t before (seen failures out err) (acting s (e ∷ rest) h)
      → Here l t before (seen failures out_new err) s h x left r new.composer
  pub stops : StopsBehind r

-- the same of an event as it happens, with the first page's beginning, if that springs nothing
pub record PerformsFirst (x : PageEvent) (p : PastEvent) (old new : Formatter) (out out_new : Sunk) (r : Result (Option Sprung) Halt) : Type 0 where
  pub first : (l : Limits) (t : Beginning) (before : Seen) (failures : ℕ) (err : Sunk) (s : State) (h : PageHistory) (e : PageEvent) (rest : List PageEvent) (left : PageHistory → List PageEvent)
      → StandFor l h old.composer → told s.registers x ≡ p → ((g : PageHistory) → text_of g ≡ text_of h → DoneFirst e x rest (left g) g)
      → Reaches l t before (seen failures out err) (acting s (e ∷ rest) h)
      → Here l t before (seen failures out_new err) s (begun_for x h) p (left (begun_for x h)) r new.composer
  pub stops : StopsBehind r

-- a formatter that is ready for an event performs it first
pub ready_then : (x : PageEvent) (p : PastEvent) (old mid new : Formatter) (out out_new : Sunk) (r : Result (Option Sprung) Halt) → ReadyFor x old mid None
    → PerformsHere x p mid new out out_new r → PerformsFirst x p old new out out_new r
ready_then x p old mid new out out_new r ready here = record {
  first = λ l t before failures err s h e rest left stood is done reached.
      let now = begun l t before failures err s h e x rest out (done h refl).page old mid None ready stood reached refl in
      let there : PageHistory = begun_for x h in
      let steps = subst (λ (p : PastEvent). step l (acting s (e ∷ rest) there)
      ≡ unless_refused l (refusal l there p) (acting s (e ∷ rest) there) (performed p (left there) (acting s (e ∷ rest) there))) is
      ((done there now.text).itself l s now.none) in
      here.here l t before failures err s there e rest (left there) now.stands is steps now.reaches;
  stops = here.stops;
}

-- no more are left behind one event than may be
pub left-one : (e : PageEvent) → may_be_left e ≡ true → (others : List PageEvent)
    → length (left_behind sprung_behind (e ∷ others)) ≤ most_back (e ∷ others)
left-one e may others = omega (arith, most-left e others may, ap length (going-none others))

-- one that stopped the list behind itself leaves itself out
pub stopped_one : (l : Limits) (t : Beginning) (before now : Seen) (s : State) (e : PageEvent) (h g : PageHistory) (x : PastEvent) (rest : List PageEvent) (sprung : Sprung) (es : ComposerOf)
    → may_be_left e ≡ true → lines_left (interrupted_line (x ∷ g)) ≤ left_by e (lines_left (interrupted_line h)) → StopsSo g x sprung
    → Reaches l t before now (followed_by (following_of es sprung s.registers) rest (acting s [] (x ∷ g))) → StandFor l (x ∷ g) es
    → SprungAt l t before now s (e ∷ []) h sprung rest es
stopped_one l t before now s e h g x rest sprung es may few (BySpringing name is) reaches stands = record {
  history = x ∷ g;
  reaches = reaches;
  stands = stands;
  lines = omega (arith, few);
  among = omega arith;
  named = λ goes. absurd (cc);
  few = λ others. left-one e may others;
}
stopped_one l t before now s e h g x rest sprung es may few (ByText due is) reaches stands = record {
  history = x ∷ g;
  reaches = reaches;
  stands = stands;
  lines = omega (arith, few);
  among = omega arith;
  named = λ goes. absurd (cc);
  few = λ others. left-one e may others;
}

-- what became of one event, as it was performed in front of others, with what comes before it
pub one_here : (l : Limits) (t : Beginning) (before now : Seen) (s : State) (e : PageEvent) (h g : PageHistory) (x : PastEvent) (rest : List PageEvent) (r : Result (Option Sprung) Halt) (es : ComposerOf) (behind : PageHistory)
    → ((sprung : Sprung) → r ≡ Ok (Some sprung) → may_be_left e ≡ true) → x ∷ g ≡ behind
    → lines_left (interrupted_line behind) ≤ left_by e (lines_left (interrupted_line h))
    → Here l t before now s g x rest r es → Performs l t before now s (e ∷ []) h behind rest r es
one_here l t before now s e h g x rest (Ok None) es behind may is lines p =
    subst (λ (h : PageHistory). AllPerformed l t before now s h rest es) is (record { reaches = p.reaches; stands = p.stands })
one_here l t before now s e h g x rest (Ok (Some sprung)) es behind may is lines p =
    stopped_one l t before now s e h g x rest sprung es (may sprung refl)
    (subst (λ (g : PageHistory). lines_left (interrupted_line g) ≤ left_by e (lines_left (interrupted_line h))) (sym is) lines) p.so p.reaches p.stands
one_here l t before now s e h g x rest (Err halt) es behind may is lines p = p

-- it is performed with what comes before it, where no field ends, where it happens so with any registers, and nothing goes on of it
pub unfielded_first : (x : PageEvent) (p : PastEvent) (old new : Formatter) (out out_new : Sunk) (r : Result (Option Sprung) Halt)
    → ((rs : AllRegisters) → told rs x ≡ p) → ((g : PageHistory) → left_of g p ≡ []) → ((sprung : Sprung) → r ≡ Ok (Some sprung) → may_be_left x ≡ true)
    → PerformsFirst x p old new out out_new r → PerformsUnfielded x old new out out_new r
unfielded_first x p old new out out_new r always whole may done = record {
  performs = λ l t before failures err s h rest stood none free reached.
      let is : told s.registers x ≡ p = always s.registers in
      one_here l t before (seen failures out_new err) s x h (begun_for x h) p rest r new.composer (behind_event s.registers x h) may
      (ap (λ (p : PastEvent). p ∷ begun_for x h) (sym is) ∙ ap (λ (g : PageHistory). told s.registers x ∷ g) (sym (behind-alone s.registers x 2 h none free)))
      (lines_left-behind s.registers x h)
      (done.first l t before failures err s h x rest (λ g. rest) stood is
      (λ g same. done_alone x [] rest g (λ rs. ap (left_of g) (always rs) ∙ whole g)
      (word_end-same x g h same ∙ none) (field_end-same x g h (ap is_in_field same) ∙ free)) reached);
  moves = moves-behind old new r done.stops;
}

-- where a field's end comes before it behind no history for which the formatter stands, it is performed as any list
pub performs_unfielded : (x : PageEvent) (old new : Formatter) (out out_new : Sunk) (r : Result (Option Sprung) Halt)
    → ((l : Limits) (h : PageHistory) → StandFor l h old.composer → ends_field h x ≡ false)
    → PerformsUnfielded x old new out out_new r → PerformsEvents (x ∷ []) old new out out_new r
performs_unfielded x old new out out_new r free only = record {
  performs = λ l t before failures err s h rest stood flows reached.
      only.performs l t before failures err s h rest stood flows.0 (free l h stood) reached;
  moves = only.moves;
}

-- and so it is where none ever does
pub only_first : (x : PageEvent) (p : PastEvent) (old new : Formatter) (out out_new : Sunk) (r : Result (Option Sprung) Halt)
    → ((rs : AllRegisters) → told rs x ≡ p) → ((g : PageHistory) → left_of g p ≡ []) → ((sprung : Sprung) → r ≡ Ok (Some sprung) → may_be_left x ≡ true)
    → ((g : PageHistory) → ends_field g x ≡ false)
    → PerformsFirst x p old new out out_new r → PerformsEvents (x ∷ []) old new out out_new r
only_first x p old new out out_new r always whole may free done =
    performs_unfielded x old new out out_new r (λ l h stood. free h) (unfielded_first x p old new out out_new r always whole may done)

-- or where the page begins in front of it, and springs something
unfielded_begun : (x : PageEvent) (old mid : Formatter) (out : Sunk) (name : ShortName) → ((h : PageHistory) → begins h x ≡ true → may_be_left x ≡ true) → ReadyFor x old mid (Some name)
    → PerformsUnfielded x old (with_sprung name mid) out out (Ok (Some sprung_before))
unfielded_begun x old mid out name may ready = record {
  performs = λ l t before failures err s h rest stood none free reached.
      page_sprang l t before failures err s h x x rest out (λ is. next-alone h x true none free is) old mid (Some name) ready stood reached name refl (may h);
  moves = moves-before x old mid name ready;
}

-- as the code says where it stopped
pub unfielded_page : (x : PageEvent) (old mid new : Formatter) (out : Sunk) (name : ShortName) (r : Result (Option Sprung) Halt) → ((h : PageHistory) → begins h x ≡ true → may_be_left x ≡ true)
    → ReadyFor x old mid (Some name) → new ≡ with_sprung name mid → r ≡ Ok (Some sprung_before) → PerformsUnfielded x old new out out r
unfielded_page x old mid new out name r may ready there is =
    subst (λ (r : Result (Option Sprung) Halt). PerformsUnfielded x old new out out r) (sym is)
    (subst (λ (f : Formatter). PerformsUnfielded x old f out out (Ok (Some sprung_before))) (sym there) (unfielded_begun x old mid out name may ready))

pub only_stopped : (x : PageEvent) (old mid new : Formatter) (out : Sunk) (name : ShortName) (r : Result (Option Sprung) Halt) → ((h : PageHistory) → begins h x ≡ true → may_be_left x ≡ true)
    → ((g : PageHistory) → ends_field g x ≡ false) → ReadyFor x old mid (Some name)
    → new ≡ with_sprung name mid → r ≡ Ok (Some sprung_before) → PerformsEvents (x ∷ []) old new out out r
only_stopped x old mid new out name r may free ready there is =
    performs_unfielded x old new out out r (λ l h stood. free h) (unfielded_page x old mid new out name r may ready there is)

pub only_page : (x : PageEvent) (old mid new : Formatter) (out : Sunk) (name : ShortName) (r : Result (Option Sprung) Halt) → may_be_left x ≡ true
    → ((g : PageHistory) → ends_field g x ≡ false) → ReadyFor x old mid (Some name)
    → new ≡ with_sprung name mid → r ≡ Ok (Some sprung_before) → PerformsEvents (x ∷ []) old new out out r
only_page x old mid new out name r may free ready there is = only_stopped x old mid new out name r (λ h begun. may) free ready there is

-- the end of a word that stopped in front of an event leaves that
word_stopped : (l : Limits) (t : Beginning) (before now : Seen) (s : State) (e : PageEvent) (h g : PageHistory) (rest : List PageEvent) (sprung : Sprung) (es : ComposerOf)
    → may_be_left e ≡ true → lines_left (interrupted_line (Text WordEnd ∷ g)) ≤ lines_left (interrupted_line h) → StopsSo g (Text WordEnd) sprung
    → Reaches l t before now (followed_by (following_of es sprung s.registers) (e ∷ rest) (acting s [] (Text WordEnd ∷ g))) → StandFor l (Text WordEnd ∷ g) es
    → SprungAt l t before now s (e ∷ []) h (left_before sprung) rest es
word_stopped l t before now s e h g rest sprung es may few (BySpringing name is) reaches stands =
    let left : left_by e (lines_left (interrupted_line h)) ≡ lines_left (interrupted_line h) = left-leaves e (lines_left (interrupted_line h)) may in record {
      history = Text WordEnd ∷ g;
      reaches = reaches;
      stands = stands;
      lines = omega (arith, left, few);
      among = omega arith;
      named = λ goes. absurd (cc);
      few = λ more. omega (arith, most-left e more may);
    }
word_stopped l t before now s e h g rest sprung es may few (ByText due is) reaches stands =
    let left : left_by e (lines_left (interrupted_line h)) ≡ lines_left (interrupted_line h) = left-leaves e (lines_left (interrupted_line h)) may in record {
      history = Text WordEnd ∷ g;
      reaches = reaches;
      stands = stands;
      lines = omega (arith, left, few);
      among = omega arith;
      named = λ goes. absurd (cc);
      few = λ more. omega (arith, most-left e more may);
    }

-- what became of it
ended_here : (l : Limits) (t : Beginning) (before now : Seen) (s : State) (e : PageEvent) (h : PageHistory) (rest : List PageEvent) (r : Result (Option Sprung) Halt) (es : ComposerOf)
    → may_be_left e ≡ true → Here l t before now s (begun_for (Text WordEnd) h) (Text WordEnd) (e ∷ rest) r es
    → EndsBefore l t before now s e h (behind_event s.registers (Text WordEnd) h) rest (first_left r) es
ended_here l t before now s e h rest (Ok None) es may p =
    subst (λ (g : PageHistory). AllPerformed l t before now s (Text WordEnd ∷ g) (e ∷ rest) es) (sym (behind-alone s.registers (Text WordEnd) 2 h refl refl))
    (record { reaches = p.reaches; stands = p.stands })
ended_here l t before now s e h rest (Ok (Some sprung)) es may p =
    let is : behind_next s.registers 3 (Text WordEnd) h ≡ begun_for (Text WordEnd) h = behind-alone s.registers (Text WordEnd) 2 h refl refl in
    word_stopped l t before now s e h (begun_for (Text WordEnd) h) rest sprung es may
    (subst (λ (g : PageHistory). lines_left (interrupted_line (Text WordEnd ∷ g)) ≤ lines_left (interrupted_line h)) is (lines_left-behind s.registers (Text WordEnd) h))
    p.so p.reaches p.stands
ended_here l t before now s e h rest (Err halt) es may p = p

-- behind a word end no word is open, and no field where none was
closed_kept : (line_cap : ℕ) (h : History) (k : Kept) → is_in_field h ≡ false → Stands line_cap (WordEnd ∷ h) k → (k.is_open || is_some k.field) ≡ false
closed_kept line_cap h k none s =
    let closed : k.is_open ≡ false = has_open_word-stands line_cap (WordEnd ∷ h) k s ∙ closed-word h in
    let unfielded : is_some k.field ≡ false = is_in_field-stands line_cap (WordEnd ∷ h) k s ∙ in_field-word h ∙ none in
    rw (closed, unfielded) refl

closed_behind : (l : Limits) (h : PageHistory) (old mid new : Formatter) (name : Option ShortName) → ReadyFor (Text WordEnd) old mid name → StandFor l h old.composer
    → has_open_word (text_of h) ≡ true → StandsBehind mid.composer.environments.in_force.lines WordEnd new.composer.environments.in_force.lines → open_weight new.composer ≡ 0
closed_behind l h old mid new name ready stood found behind =
    let same : mid.composer.environments.in_force.lines ≡ old.composer.environments.in_force.lines = ap (λ (f : Formatter). f.composer.environments.in_force.lines) ready.others in
    ap word_weight (closed_kept l.line (text_of h) new.composer.environments.in_force.lines (word-unfielded h found)
    (behind l.line (text_of h) (subst (λ (k : Env). Stands l.line (text_of h) k) (sym same) stood.environments.in_force.lines)))

-- so it moved on, in front of an event
ends_moving : (l : Limits) (h : PageHistory) (old new : Formatter) (r : Result (Option Sprung) Halt) → StandFor l h old.composer → has_open_word (text_of h) ≡ true
    → open_weight new.composer ≡ 0 → MovesOn old new (first_left r)
ends_moving l h old new (Ok None) stood found closed = tt
ends_moving l h old new (Ok (Some sprung)) stood found closed =
    let lines : Env = old.composer.environments.in_force.lines in
    let opened : open_weight old.composer ≡ 2 =
    ap (λ (is_open : Bool). word_weight (is_open || is_some lines.field)) (has_open_word-stands l.line (text_of h) lines stood.environments.in_force.lines ∙ found) in
    omega (arith, opened, closed, sprung-least new.composer.due.sprung)
ends_moving l h old new (Err halt) stood found closed = tt

-- so is the end of a word where that comes before an event
pub word_first : (old mid new : Formatter) (out out_new : Sunk) (r : Result (Option Sprung) Halt) → ReadyFor (Text WordEnd) old mid None
    → StandsBehind mid.composer.environments.in_force.lines WordEnd new.composer.environments.in_force.lines
    → PerformsHere (Text WordEnd) (Text WordEnd) mid new out out_new r → EndsWordFirst old new out out_new r
word_first old mid new out out_new r ready behind here =
    let done : PerformsFirst (Text WordEnd) (Text WordEnd) old new out out_new r = ready_then (Text WordEnd) (Text WordEnd) old mid new out out_new r ready here in record {
      first = λ l t before failures err s h e rest stood own reached.
          ended_here l t before (seen failures out_new err) s e h rest r new.composer (owns-left h e (Text WordEnd) own)
          (done.first l t before failures err s h e rest (λ g. e ∷ rest) stood refl (λ g same. done_own e (Text WordEnd) rest g (word_end-same e g h same ∙ own)) reached);
      closes = λ is l h stood found. closed_behind l h old mid new None ready stood found behind;
      moves = λ l h stood found. ends_moving l h old new r stood found (closed_behind l h old mid new None ready stood found behind);
    }

-- or the page begins in front of it, and springs something
pub word_page : (old mid new : Formatter) (out : Sunk) (name : ShortName) (r : Result (Option Sprung) Halt) → ReadyFor (Text WordEnd) old mid (Some name)
    → new ≡ with_sprung name mid → r ≡ Ok (Some sprung_before) → EndsWordFirst old new out out r
word_page old mid new out name r ready there is =
    subst (λ (r : Result (Option Sprung) Halt). EndsWordFirst old new out out r) (sym is)
    (subst (λ (f : Formatter). EndsWordFirst old f out out (Ok (Some sprung_before))) (sym there) (record {
      first = λ l t before failures err s h e rest stood own reached.
          page_sprang l t before failures err s h e (Text WordEnd) rest out (λ is. next-own h e (Text WordEnd) true own is) old mid (Some name) ready stood reached name refl (λ begun. owns-left h e (Text WordEnd) own);
      closes = λ is. cc;
      moves = λ l h stood found. moves-before (Text WordEnd) old mid name ready;
    }))

-- one that no limit refuses, that writes nothing and springs nothing
pub changes_here : (own : PageEvent) (x : PastEvent) (old new : Formatter) (out : Sunk)
    → ((l : Limits) (h : PageHistory) → StandFor l h old.composer → refusal l h x ≡ None)
    → ((l : Limits) (h : PageHistory) → StandFor l h old.composer → StandFor l (x ∷ h) new.composer)
    → ((l : Limits) (h : PageHistory) → StandFor l h old.composer → written_by h x ≡ [])
    → ((l : Limits) (h : PageHistory) → StandFor l h old.composer → following h x ≡ nothing_follows)
    → PerformsHere own x old new out out (Ok None)
changes_here own x old new out allowed stands nothing follows = record {
  here = λ l t before failures err s h e rest left stood told_so steps reached. record {
    reaches = event_performed l t before failures err s h e rest out reached x left steps nothing_follows (follows l h stood) out (allowed l h stood) (stands l h stood).goes_on
        (subst (λ (bytes : List ℕ). Writes out out bytes) (sym (nothing l h stood)) (Writes-nothing out));
    stands = stands l h stood;
    springs = ap (λ (f : Following). f.sprung) (follows l h stood);
  };
  stops = tt;
}

-- one behind which this follows, and that writes nothing
pub stops_here : (own : PageEvent) (x : PastEvent) (old new : Formatter) (out : Sunk) (sprung : Sprung)
    → ((l : Limits) (h : PageHistory) → StandFor l h old.composer → refusal l h x ≡ None)
    → ((l : Limits) (h : PageHistory) → StandFor l h old.composer → StandFor l (x ∷ h) new.composer)
    → ((l : Limits) (h : PageHistory) → StandFor l h old.composer → written_by h x ≡ [])
    → ((l : Limits) (h : PageHistory) (rs : AllRegisters) → StandFor l h old.composer → following h x ≡ following_of new.composer sprung rs)
    → ((l : Limits) (h : PageHistory) → StandFor l h old.composer → StopsSo h x sprung)
    → 1 ≤ sprung.left → PerformsHere own x old new out out (Ok (Some sprung))
stops_here own x old new out sprung allowed stands nothing follows so one = record {
  here = λ l t before failures err s h e rest left stood told_so steps reached. record {
    reaches = event_performed l t before failures err s h e rest out reached x left steps (following_of new.composer sprung s.registers) (follows l h s.registers stood) out
        (allowed l h stood) (stands l h stood).goes_on
        (subst (λ (bytes : List ℕ). Writes out out bytes) (sym (nothing l h stood)) (Writes-nothing out));
    stands = stands l h stood;
    so = so l h stood;
    follows = follows l h s.registers stood;
  };
  stops = one;
}

-- one that springs a macro, or none, and changes no text
pub springs_here : (own : PageEvent) (x : PastEvent) (old new : Formatter) (out : Sunk) (name : Option ShortName)
    → ((l : Limits) (h : PageHistory) → StandFor l h old.composer → refusal l h x ≡ None)
    → ((l : Limits) (h : PageHistory) → StandFor l h old.composer → StandFor l (x ∷ h) new.composer)
    → ((l : Limits) (h : PageHistory) → StandFor l h old.composer → written_by h x ≡ [])
    → ((l : Limits) (h : PageHistory) → StandFor l h old.composer → following h x ≡ only_sprung name)
    → new.composer.due ≡ noted name old.composer.due
    → PerformsHere own x old new out out (Ok (sprung_by name))
springs_here own x old new out None allowed stands nothing follows due = changes_here own x old new out allowed stands nothing follows
springs_here own x old new out (Some name) allowed stands nothing follows due =
    stops_here own x old new out sprung_behind allowed stands nothing
    (λ l h rs stood. follows l h stood ∙ ap only_sprung (sym (ap (λ (d : Due). d.sprung) due)))
    (λ l h stood. BySpringing name (ap (λ (f : Following). f.sprung) (follows l h stood))) (omega arith)

-- one that a limit refuses
pub stopped_here : (own : PageEvent) (x : PastEvent) (old new : Formatter) (out : Sunk) (limit : Limit)
    → ((l : Limits) (h : PageHistory) → StandFor l h old.composer → refusal l h x ≡ Some limit)
    → PerformsHere own x old new out out (Err (Limited limit))
stopped_here own x old new out limit refused = record {
  here = λ l t before failures err s h e rest left stood told_so steps reached.
      event_stopped l t before failures err s h e rest out reached x left steps limit (refused l h stood);
  stops = tt;
}
