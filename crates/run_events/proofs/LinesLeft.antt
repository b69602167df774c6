-- How many interrupted lines are left in the environment in force behind some events.
use Rattle.std.proofs.Common.{◌≡◌, ◌≤◌, ℕ, zero, suc, Bool, true, false, List, [], ◌∷◌, Option, Some, None, refl, arith}
use Rattle.page_model.specs.declared.event.Event.TheVariants.{Print, Tab, FieldEnd, WordEnd, Gap, LineEnd, Count, Break, Interrupt as Interrupted, Resume, Set}
use Rattle.run_events.specs.Formatter.Sprung.{may_be_left}
use Rattle.run_model.proofs.LinesLeft.{left_by-fewer, lines_left-event, most_left-fewer}
use Rattle.run_model.specs.Environments.{PageHistory, interrupted_line, text_of}
use Rattle.run_model.specs.PageEvents.{PageEvent}
use Rattle.run_model.specs.declared.event.PageEvent.TheVariants.{Text, Page, Interrupt, Environment, Back, InputTrap as SetsTrap, Title}
use Rattle.run_model.specs.TurnsToCome.{lines_left, left_by, most_left}
use Rattle.run_model.specs.Registers.{AllRegisters}
use Rattle.run_model.specs.Titles.{told}
use Rattle.run_events.specs.Formatter.Performing.{behind_event, behind_events, behind_next}
use Rattle.run_model.specs.Springs.{begins, ends_field, field_end_or, next, next_unfielded, own_word_end, page_begin_or, word_end_of}
use Rattle.page_model.specs.Behind.{has_open_word}

-- what comes before an event, if anything does, leaves as many
abbrev LeavesAll : Option PageEvent → Type 0
LeavesAll None = Unit {0}
LeavesAll (Some first) = (lines : ℕ) → left_by first lines ≡ lines

-- the end of an open word does
leaves-own : (b : Bool) → LeavesAll (own_word_end b)
leaves-own false = tt
leaves-own true = λ lines. refl

leaves-word_end : (h : PageHistory) (e : PageEvent) → LeavesAll (word_end_of h e)
leaves-word_end h (Text (Print glyph)) = tt
leaves-word_end h (Text Tab) = tt
leaves-word_end h (Text FieldEnd) = tt
leaves-word_end h (Text WordEnd) = tt
leaves-word_end h (Text (Gap columns)) = leaves-own (has_open_word (text_of h))
leaves-word_end h (Text LineEnd) = leaves-own (has_open_word (text_of h))
leaves-word_end h (Text Count) = tt
leaves-word_end h (Text Break) = leaves-own (has_open_word (text_of h))
leaves-word_end h (Text Interrupted) = tt
leaves-word_end h (Text Resume) = tt
leaves-word_end h (Text (Set param)) = tt
leaves-word_end h (Page e) = tt
leaves-word_end h (Interrupt untold) = tt
leaves-word_end h (Environment number) = tt
leaves-word_end h Back = tt
leaves-word_end h (SetsTrap trap) = tt
leaves-word_end h (Title which) = tt

-- and so does the first page's beginning
leaves-page : (does : Bool) (other : Option PageEvent) → LeavesAll other → LeavesAll (page_begin_or does other)
leaves-page true other leaves = λ lines. refl
leaves-page false other leaves = leaves

leaves-first : (h : PageHistory) (e : PageEvent) (own : Option PageEvent) → LeavesAll own
    → LeavesAll (elim own [ None ↦ page_begin_or (begins h e) None | Some own ↦ page_begin_or (begins h own) (Some own) ])
leaves-first h e None leaves = leaves-page (begins h e) None tt
leaves-first h e (Some own) leaves = leaves-page (begins h own) (Some own) leaves

-- and so does the end of a field
leaves-field : (does : Bool) (other : Option PageEvent) → LeavesAll other → LeavesAll (field_end_or does other)
leaves-field true other leaves = λ lines. refl
leaves-field false other leaves = leaves

-- so no more are left behind what comes before an event
lines_left-first : (rs : AllRegisters) (n : ℕ) (e : PageEvent) (h : PageHistory) (first : Option PageEvent) → LeavesAll first
    → ((g : PageHistory) → lines_left (interrupted_line (behind_next rs n e g)) ≤ lines_left (interrupted_line g))
    → lines_left (interrupted_line (elim first [ None ↦ h | Some first ↦ behind_next rs n e (told rs first ∷ h) ])) ≤ lines_left (interrupted_line h)
lines_left-first rs n e h None leaves more = omega arith
lines_left-first rs n e h (Some first) leaves more =
    omega (arith, more (told rs first ∷ h), lines_left-event rs first h, leaves (lines_left (interrupted_line h)))

lines_left-next : (rs : AllRegisters) (n : ℕ) (e : PageEvent) (h : PageHistory) → lines_left (interrupted_line (behind_next rs n e h)) ≤ lines_left (interrupted_line h)
lines_left-next rs zero e h = omega arith
lines_left-next rs (suc n) e h =
    lines_left-first rs n e h (next h e)
    (leaves-field (ends_field h e) (next_unfielded h e) (leaves-first h e (word_end_of h e) (leaves-word_end h e))) (λ g. lines_left-next rs n e g)

-- nor behind the event
pub lines_left-behind : (rs : AllRegisters) (e : PageEvent) (h : PageHistory) → lines_left (interrupted_line (behind_event rs e h)) ≤ left_by e (lines_left (interrupted_line h))
lines_left-behind rs e h =
    let before : PageHistory = behind_next rs 3 e h in
    let fewer = left_by-fewer e (lines_left (interrupted_line before)) (lines_left (interrupted_line h)) (lines_left-next rs 3 e h) in
    omega (arith, lines_left-event rs e before, fewer)

-- behind all of some events, each with what comes before it, no more are left than any leaves
pub lines_left-all : (rs : AllRegisters) (events : List PageEvent) (h : PageHistory)
    → lines_left (interrupted_line (behind_events rs events h)) ≤ most_left events (lines_left (interrupted_line h))
lines_left-all rs [] h = omega arith
lines_left-all rs (e ∷ events) h =
    let behind : PageHistory = behind_event rs e h in
    let more = most_left-fewer events (lines_left (interrupted_line behind)) (left_by e (lines_left (interrupted_line h))) (lines_left-behind rs e h) in
    omega (arith, more, lines_left-all rs events behind)

-- an event more is performed
pub more_left : (rs : AllRegisters) (e : PageEvent) (others : List PageEvent) (h : PageHistory)
    → most_left others (lines_left (interrupted_line (behind_event rs e h))) ≤ most_left (e ∷ others) (lines_left (interrupted_line h))
more_left rs e others h =
    let more : most_left others (lines_left (interrupted_line (behind_event rs e h))) ≤ most_left others (left_by e (lines_left (interrupted_line h))) =
    most_left-fewer others (lines_left (interrupted_line (behind_event rs e h))) (left_by e (lines_left (interrupted_line h))) (lines_left-behind rs e h) in
    omega (arith, more)

-- where it is the last one that is, too
pub last_left : (rs : AllRegisters) (e : PageEvent) (others : List PageEvent) (h : PageHistory)
    → lines_left (interrupted_line (behind_event rs e h)) ≤ most_left (e ∷ others) (lines_left (interrupted_line h))
last_left rs e others h = omega (arith, lines_left-behind rs e h)

-- an event that may be left leaves all interrupted lines
pub left-leaves : (e : PageEvent) (lines : ℕ) → may_be_left e ≡ true → left_by e lines ≡ lines
left-leaves (Text (Print glyph)) lines may = refl
left-leaves (Text Tab) lines may = refl
left-leaves (Text FieldEnd) lines may = absurd (cc)
left-leaves (Text WordEnd) lines may = refl
left-leaves (Text (Gap columns)) lines may = refl
left-leaves (Text LineEnd) lines may = refl
left-leaves (Text Count) lines may = refl
left-leaves (Text Break) lines may = refl
left-leaves (Text Interrupted) lines may = absurd (cc)
left-leaves (Text Resume) lines may = absurd (cc)
left-leaves (Text (Set param)) lines may = refl
left-leaves (Page e) lines may = refl
left-leaves (Interrupt untold) lines may = absurd (cc)
left-leaves (Environment number) lines may = absurd (cc)
left-leaves Back lines may = absurd (cc)
left-leaves (SetsTrap trap) lines may = refl
left-leaves (Title which) lines may = refl

-- one before which the end of a word comes may be
pub owns-left : (h : PageHistory) (e own : PageEvent) → word_end_of h e ≡ Some own → may_be_left e ≡ true
owns-left h (Text (Gap columns)) own is = refl
owns-left h (Text LineEnd) own is = refl
owns-left h (Text Break) own is = refl
owns-left h (Text (Print glyph)) own is = refl
owns-left h (Text Tab) own is = refl
owns-left h (Text FieldEnd) own is = absurd (cc)
owns-left h (Text WordEnd) own is = refl
owns-left h (Text Count) own is = refl
owns-left h (Text Interrupted) own is = absurd (cc)
owns-left h (Text Resume) own is = absurd (cc)
owns-left h (Text (Set param)) own is = absurd (cc)
owns-left h (Page e) own is = absurd (cc)
owns-left h (Interrupt untold) own is = absurd (cc)
owns-left h (Environment number) own is = absurd (cc)
owns-left h Back own is = absurd (cc)
owns-left h (SetsTrap trap) own is = absurd (cc)
owns-left h (Title which) own is = refl
