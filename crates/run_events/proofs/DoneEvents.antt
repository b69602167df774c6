-- Events of the text and of the pages, where they stand in front of others.
use Rattle.std.proofs.Common.{◌∙◌, ◌≡◌, inl, inr, ◌<◌, ◌≤◌, ℕ, Bool, true, false, ◌||◌, List, [], ◌∷◌, ◌++◌, length, Option, Some, None, Result, Ok, Err, ap, arith, refl, subst, sym, IsSome, OnOk, is_some, option_map}
use Rattle.std.proofs.Math.Nat.{lt_of_not-le}
use Rattle.std.specs.List.{cons_option}
use Rattle.roff_num.specs.declared.limit.Limit.{Limit}
use Rattle.roff_num.specs.declared.limit.Limit.TheVariants.{Line}
use Rattle.roff_num.specs.declared.limits.Limits.{Limits}
use Rattle.roff_num.specs.declared.short_name.ShortName.{ShortName}
use Rattle.roff_lines.specs.Env.Stands.{Stands, StandsBehind}
use Rattle.page_model.specs.Lines.{Finished}
use Rattle.page_model.specs.Behind.{finished, finished_lines, last_text, length_reached, pending_length}
use Rattle.page_model.specs.Events.{History}
use Rattle.page_model.specs.LastLine.{newest_text}
use Rattle.roff_lines.specs.declared.env.Env.{Env}
use Rattle.page_model.specs.declared.event.Event.{Event}
use Rattle.page_model.specs.DeviceText.{device_text}
use Rattle.page_model.specs.DueTexts.{TextDue, due_by, text_due}
use Rattle.page_model.specs.Happenings.{Happening, Does, Places, is_eject_event}
use Rattle.page_model.specs.Puts.{appended}
use Rattle.page_model.specs.Stops.{is_diverted}
use Rattle.page_model.specs.declared.layout_event.LayoutEvent.{LayoutEvent}
use Rattle.page_model.specs.declared.layout_event.LayoutEvent.TheVariants.{Eject, EjectLast, EjectOn, EjectTo, Need, Space}
use Rattle.page_model.specs.Layout.{Layout}
use Rattle.roff_lines.proofs.Standing.{finished-stands, left_stands}
use Rattle.roff_pages.specs.Pages.Stands.{Happens, StandsAs}
use Rattle.page_model.specs.Springs.{goes_on, springs_on_page}
use Rattle.page_model.specs.Turning.{with_event}
use Rattle.run_state.specs.Composer.Due.{due_told}
use Rattle.run_state.specs.Composer.Standing.{StandFor}
use Rattle.run_state.specs.Environments.Standing.{StandBy}
use Rattle.run_state.specs.declared.composer.Composer.{Composer as ComposerOf}
use Rattle.run_state.specs.declared.environments.Environments.{Environments as EnvironmentsOf}
use Rattle.run_events.specs.declared.formatter.Formatter.{Formatter}
use Rattle.run_events.specs.declared.halt.Halt.{Halt}
use Rattle.run_events.specs.declared.halt.Halt.TheVariants.{Limit as Limited, Refused, Over, Output, Messages}
use Rattle.run_events.specs.declared.sprung.Sprung.{Sprung}
use Rattle.run_events.specs.Reaching.{Beginning, Reaches}
use Rattle.page_bytes.specs.Devices.{Seen, seen}
use Rattle.run_events.specs.Formatter.Performing.{AllPerformed, Performs, PerformsEvents, SprungAt, acting, behind_event}
use Rattle.run_events.specs.Formatter.Paging.{PutsFinished, PutsOnPage, ReadyFor, blank_due, ejects_still, line_due}
use Rattle.run_events.specs.Formatter.Setting.{DoesBy, DoesOnPage, HasRoomFor, SetsMore, SetsOnPage, SetsSo, SetSpringing, SetText, may_put}
use Rattle.run_events.specs.Formatter.Sprung.{MovesOn, StopsBehind, StopsSprung, diverting, following_of, going_on_if, left_going_on, may_be_left, open_weight, sprung_behind, text_first, word_weight}
use Rattle.run_model.specs.Environments.{PageHistory, environments, interrupted_line, text_of, trap_behind}
use Rattle.run_model.specs.Output.{happens, layout_of, text_laid}
use Rattle.run_model.specs.Registers.{AllRegisters}
use Rattle.run_model.specs.Springs.{ends_field, left_if, left_of, needs_page, springs, sprung_on}
use Rattle.run_model.specs.Titles.{told}
use Rattle.run_model.specs.TurnsToCome.{lines_left, most_left}
use Rattle.run_model.specs.declared.event.InputTrap.{InputTrap}
use Rattle.run_model.specs.PageEvents.{PageEvent, PastEvent}
use Rattle.run_model.specs.declared.event.PageEvent.TheVariants.{Text, Page}
use Rattle.run_model.specs.Following.{following, text_behind}
use Rattle.run_model.specs.Run.{State, Following, followed_by, nothing_follows}
use Rattle.run_model.specs.Run.Counts.{first_passed, refusal, written_counted}
use Rattle.page_bytes.specs.Sinks.{Sunk}
use Rattle.run_events.proofs.DoneFirst.{ByText, BySpringing, Here, PerformsFirst, PerformsHere, StopsSo, changes_here, left-one, only_first, ready_then, stopped_here, stops_here}
use Rattle.run_events.proofs.DonePut.{follows_so, put_here, stops-sprung}
use Rattle.run_events.proofs.DueTexts.{TellsText, line_tells, need_tells, put_opens, same_behind, space_tells}
use Rattle.run_events.proofs.Ejects.{goes-still, going-not, not_left, nothing_left, sets-end}
use Rattle.run_events.proofs.EventsLeft.{most-left, page-left, text-alone, text-left}
use Rattle.run_events.proofs.ComingBefore.{behind-alone}
use Rattle.run_events.proofs.FirstPages.{begun_for, done_alone, ready-open, ready_always}
use Rattle.run_events.proofs.LinesLeft.{last_left}
use Rattle.run_events.proofs.Performed.{moves-behind}
use Rattle.run_events.proofs.Placed.{nothing_allowed, nothing_written, page_counted, page_refused, room-puts, sets_goes_on, sets_nothing, stands_quietly, stands_set, text_allowed, text_counted, text_refused}

-- the environments and pages of the code, where the lines of the environment in force became these
abbrev pub with_lines : ComposerOf → Env → ComposerOf
with_lines es lines = record es { environments = record es.environments { in_force = record es.environments.in_force { lines = lines } } }

-- where those lines stand for their history with one event more, that counts for no input-line trap, the environments do
pub lines_behind : (e : Event) (es : ComposerOf) (lines : Env) → ((trap : Option InputTrap) → trap_behind e trap ≡ trap)
    → StandsBehind es.environments.in_force.lines e lines
    → (l : Limits) (h : PageHistory) → StandFor l h es → StandBy l (environments (Text e ∷ h)) (with_lines es lines).environments
lines_behind e es lines stays behind l h stood =
    let now = stood.environments in record {
      number = now.number;
      in_force = record { lines = behind l.line (text_of h) now.in_force.lines; interrupted = now.in_force.interrupted; input_trap = now.in_force.input_trap ∙ sym (stays (environments h).in_force.input_trap) };
      next = now.next;
      last = now.last;
      left = now.left;
      cap = now.cap;
    }

-- nothing follows an event with which nothing happens, and that springs nothing
pub follows-none : (h : PageHistory) (x : PastEvent) → happens h x ≡ None → springs h x ≡ None → following h x ≡ nothing_follows
follows-none h x none unsprung =
    let made : Option Happening → Option ShortName → Following = λ o name. record { text = text_behind o (layout_of h); sprung = name } in
    ap (λ (o : Option Happening). made o (springs h x)) none ∙ ap (made None) unsprung

-- the text of the last line is that of the one that an event finishes
last_text-finished : (h : History) (e : Event) (line : Finished) → finished h e ≡ Some line → last_text (e ∷ h) ≡ line.text
last_text-finished h e line is = ap (λ (o : Option Finished). newest_text (cons_option o (finished_lines h))) is

-- the pending line of an environment is within its limit
pub within_stands : (line_cap : ℕ) (h : History) (k : Env) → Stands line_cap h k → pending_length h ≤ line_cap
within_stands line_cap h k s = (left_stands line_cap h k s).within

-- so no limit refuses an event, but a tab, behind which it stands
pub reached_within : (e : Event) (old new : Formatter) → ((h : History) → length_reached e h ≡ pending_length (e ∷ h))
    → ((l : Limits) (h : PageHistory) → StandFor l h old.composer → StandBy l (environments (Text e ∷ h)) new.composer.environments)
    → (l : Limits) (h : PageHistory) → StandFor l h old.composer → length_reached e (text_of h) ≤ l.line
reached_within e old new same stands l h stood =
    omega (arith, same (text_of h), within_stands l.line (e ∷ text_of h) new.composer.environments.in_force.lines (stands l h stood).in_force.lines)

-- and so where the lines of the environment in force do
pub reached_behind : (e : Event) (es : ComposerOf) (lines : Env) → ((h : History) → length_reached e h ≡ pending_length (e ∷ h))
    → StandsBehind es.environments.in_force.lines e lines → (l : Limits) (h : PageHistory) → StandFor l h es → length_reached e (text_of h) ≤ l.line
reached_behind e es lines same behind l h stood =
    omega (arith, same (text_of h), within_stands l.line (e ∷ text_of h) lines (behind l.line (text_of h) stood.environments.in_force.lines))

-- what isn't above a limit is within it
pub not_above : (most size : ℕ) → (most < size → ⊥) → size ≤ most
not_above most size few = omega (arith, lt_of_not-le few)

-- what is so where a result is no error
pub ok_holds : {A : Type 0} (r : Result A Limit) (x : A) (P : Type 0) → r ≡ Ok x → OnOk r P → P
ok_holds (Ok y) x P is holds = holds
ok_holds (Err limit) x P is holds = absurd (cc)

-- an event of the text that finishes no line
pub text_changes_here : (e : Event) (old new : Formatter) (out : Sunk)
    → ((l : Limits) (h : PageHistory) → StandFor l h old.composer → length_reached e (text_of h) ≤ l.line)
    → ((l : Limits) (h : PageHistory) → StandFor l h old.composer → StandBy l (environments (Text e ∷ h)) new.composer.environments)
    → new.composer.pages ≡ old.composer.pages
    → ((l : Limits) (h : PageHistory) → StandFor l h old.composer → happens h (Text e) ≡ None)
    → ((h : PageHistory) → springs h (Text e) ≡ sprung_on (happens h (Text e)) (layout_of h))
    → PerformsHere (Text e) (Text e) old new out out (Ok None)
text_changes_here e old new out short stands same none met =
    changes_here (Text e) (Text e) old new out (λ l h stood. text_allowed l h e (short l h stood) (none l h stood))
    (λ l h stood. stands_quietly l h (Text e) old.composer new.composer stood (none l h stood) (stands l h stood) same)
    (λ l h stood. ap (λ (o : Option Happening). text_laid o (layout_of h)) (none l h stood))
    (λ l h stood. follows-none h (Text e) (none l h stood) (met h ∙ ap (λ (o : Option Happening). sprung_on o (layout_of h)) (none l h stood)))

-- one for which the pending line would be too long
pub text_stopped_here : (e : Event) (old new : Formatter) (out : Sunk)
    → ((l : Limits) (h : PageHistory) → StandFor l h old.composer → l.line < length_reached e (text_of h))
    → PerformsHere (Text e) (Text e) old new out out (Err (Limited Line))
text_stopped_here e old new out longer = stopped_here (Text e) (Text e) old new out Line (λ l h stood. text_refused l h e (longer l h stood))

-- one whose line was placed, if it finished one
pub text_put_here : (e : Event) (line : Option Finished) (old new : Formatter) (out out_new : Sunk) (r : Result (Option Sprung) Halt)
    → ((h : PageHistory) → springs h (Text e) ≡ sprung_on (happens h (Text e)) (layout_of h))
    → ((l : Limits) (h : PageHistory) → StandFor l h old.composer → line ≡ finished (text_of h) e)
    → ((l : Limits) (h : PageHistory) → StandFor l h old.composer → length_reached e (text_of h) ≤ l.line)
    → ((l : Limits) (h : PageHistory) → StandFor l h old.composer → StandBy l (environments (Text e ∷ h)) new.composer.environments)
    → PutsFinished line old.composer.pages new.composer.pages old.composer.due new.composer.due out out_new r
    → PerformsHere (Text e) (Text e) old new out out_new r
text_put_here e None old new out out_new r met is short stands put =
    let none : (l : Limits) (h : PageHistory) → StandFor l h old.composer → happens h (Text e) ≡ None =
    λ l h stood. ap (option_map Places) (sym (is l h stood)) in
    subst (λ (now : Sunk). PerformsHere (Text e) (Text e) old new out now r) (sym put.2)
    (subst (λ (answer : Result (Option Sprung) Halt). PerformsHere (Text e) (Text e) old new out out answer) (sym put.3)
    (text_changes_here e old new out short stands put.0 none met))
text_put_here e (Some line) old new out out_new r met is short stands put =
    let places : (l : Limits) (h : PageHistory) → StandFor l h old.composer → happens h (Text e) ≡ Some (Places line) =
    λ l h stood. ap (option_map Places) (sym (is l h stood)) in
    put_here (Text e) (Text e) (Places line) (line_due line) old new out out_new r places met
    (λ l h stood. text_counted l h e (short l h stood)
    ∙ ap (λ (o : Option Happening). first_passed l (written_counted h o)) (places l h stood)) stands
    (λ l h rs stood now told_so diverts some due. line_tells line (layout_of h) new.composer rs diverts
    (finished-stands l.line (e ∷ text_of h) new.composer.environments.in_force.lines (stands l h stood).in_force.lines ∙ last_text-finished (text_of h) e line (sym (is l h stood)))
    (same_behind l h (Text e) (Places line) new.composer now (places l h stood) diverts refl) due) put

-- an event of the pages that changes a text stopped by it
by_text : (h : PageHistory) (x : PastEvent) (o : Option TextDue) → text_behind (happens h x) (layout_of h) ≡ o → IsSome o → StopsSo h x diverting
by_text h x None is some = absurd (cc)
by_text h x (Some due) is some = ByText due is

-- an event of the pages that sets something, or is refused
module _ (e : LayoutEvent) (old new : Formatter) (out : Sunk) (sets : may_put e ≡ false) (stay : new.composer.environments ≡ old.composer.environments) where
  nothing : (h : PageHistory) → device_text (Does e) (layout_of h) ≡ []
  nothing h = nothing_written (Does e) (layout_of h) (sets_nothing e (layout_of h) sets)

  module _ (happened : Happens (Does e) old.composer.pages new.composer.pages) (room : HasRoomFor e old.composer.pages) (l : Limits) (h : PageHistory) (stood : StandFor l h old.composer) where
    set_allowed : refusal l h (Page e) ≡ None
    set_allowed = page_counted l h e old.composer stood room ∙ nothing_allowed l h (Does e) old.composer stood (nothing h)

    set_stands : StandFor l (Page e ∷ h) new.composer
    set_stands =
        stands_set l h (Page e) (Does e) old.composer new.composer stood refl (subst (λ (es : EnvironmentsOf). StandBy l (environments h) es) (sym stay) stood.environments)
        (happened.stands (layout_of h) stood.pages) (nothing h) happened.written happened.limits (sets_goes_on e (layout_of h) sets ∙ stood.goes_on)

  set_so : (h : PageHistory) (l : Limits) (sprung : Sprung) → StandFor l h old.composer → SetsMore e old.composer.pages new.composer.due sprung → SetsSo e old.composer.pages new.composer.due sprung
      → StopsSo h (Page e) sprung
  set_so h l sprung stood more (SetSpringing name is) = BySpringing name (sym (more.springs (layout_of h) stood.pages) ∙ is)
  set_so h l sprung stood more (SetText some) = by_text h (Page e) (text_due (Does e) (layout_of h)) refl (some (layout_of h) stood.pages)

  set_one : (sprung : Sprung) → SetsSo e old.composer.pages new.composer.due sprung → 1 ≤ sprung.left
  set_one sprung (SetSpringing name is) = omega arith
  set_one sprung (SetText some) = omega arith

  pub set_here : (r : Result (Option Sprung) Halt) → SetsOnPage e old.composer.pages new.composer.pages new.composer.due r → PerformsHere (Page e) (Page e) old new out out r
  set_here (Ok None) set =
      changes_here (Page e) (Page e) old new out (set_allowed set.0 set.1) (set_stands set.0 set.1) (λ l h stood. nothing h)
      (λ l h stood. follows_so h (Page e) (Does e) None None refl (set.2.untold (layout_of h) stood.pages) (set.2.springs (layout_of h) stood.pages))
  set_here (Ok (Some sprung)) set =
      let more : SetsMore e old.composer.pages new.composer.due sprung = set.2 in
      stops_here (Page e) (Page e) old new out sprung (set_allowed set.0 set.1) (set_stands set.0 set.1) (λ l h stood. nothing h)
      (λ l h rs stood. follows_so h (Page e) (Does e) (text_first sprung.why (due_told new.composer rs)) new.composer.due.sprung refl
      (sym (more.text (layout_of h) new.composer rs stood.pages)) (sym (more.springs (layout_of h) stood.pages)))
      (λ l h stood. set_so h l sprung stood more more.so) (set_one sprung more.so)
  set_here (Err (Limited limit)) set =
      stopped_here (Page e) (Page e) old new out limit (λ l h stood. page_refused l h e limit old.composer stood set.0)
  set_here (Err (Refused limit)) set = absurd set
  set_here (Err Over) set = absurd set
  set_here (Err Output) set = absurd set
  set_here (Err Messages) set = absurd set

-- what goes on of an event
module _ (l : Limits) (t : Beginning) (before now : Seen) (s : State) (e : LayoutEvent) (h g : PageHistory) (rest : List PageEvent) (es : ComposerOf)
    (is : Page e ∷ g ≡ behind_event s.registers (Page e) h) where
  -- of one that sprang a macro and goes on, if it does, that is left
  still_going : may_be_left (Page e) ≡ true → (es.due.sprung ≡ None → ⊥) → (goes : Bool) (left : List PageEvent) → left_if goes e ≡ left
      → Reaches l t before now (followed_by (following_of es sprung_behind s.registers) (left ++ rest) (acting s [] (Page e ∷ g))) → StandFor l (Page e ∷ g) es
      → SprungAt l t before now s (Page e ∷ []) h (going_on_if goes sprung_behind) rest es
  still_going may named true left leaves reaches stands = record {
    history = Page e ∷ g;
    reaches = subst (λ (left : List PageEvent). Reaches l t before now (followed_by (following_of es sprung_behind s.registers) (left ++ rest) (acting s [] (Page e ∷ g)))) (sym leaves) reaches;
    stands = stands;
    lines = subst (λ (h' : PageHistory). lines_left (interrupted_line h') ≤ most_left (Page e ∷ []) (lines_left (interrupted_line h))) (sym is) (last_left s.registers (Page e) [] h);
    among = omega arith;
    named = λ goes. named;
    few = λ more. omega (arith, most-left (Page e) more may);
  }
  still_going may named false left leaves reaches stands = record {
    history = Page e ∷ g;
    reaches = subst (λ (left : List PageEvent). Reaches l t before now (followed_by (following_of es sprung_behind s.registers) (left ++ rest) (acting s [] (Page e ∷ g)))) (sym leaves) reaches;
    stands = stands;
    lines = subst (λ (h' : PageHistory). lines_left (interrupted_line h') ≤ most_left (Page e ∷ []) (lines_left (interrupted_line h))) (sym is) (last_left s.registers (Page e) [] h);
    among = omega arith;
    named = λ goes. absurd (cc);
    few = λ more. left-one (Page e) may more;
  }

  -- of one with which a text changes nothing is
  text_changing : (due : TextDue) → due_by e (layout_of g) ≡ Some due
      → Reaches l t before now (followed_by (following_of es diverting s.registers) (left_of g (Page e) ++ rest) (acting s [] (Page e ∷ g))) → StandFor l (Page e ∷ g) es
      → SprungAt l t before now s (Page e ∷ []) h diverting rest es
  text_changing due changes reaches stands =
      let alone : left_of g (Page e) ≡ [] = not_left e (layout_of g) (text-alone e (layout_of g) due changes) in record {
        history = Page e ∷ g;
        reaches = subst (λ (left : List PageEvent). Reaches l t before now (followed_by (following_of es diverting s.registers) (left ++ rest) (acting s [] (Page e ∷ g)))) alone reaches;
        stands = stands;
        lines = subst (λ (h' : PageHistory). lines_left (interrupted_line h') ≤ most_left (Page e ∷ []) (lines_left (interrupted_line h))) (sym is) (last_left s.registers (Page e) [] h);
        among = omega arith;
        named = λ goes. absurd (cc);
        few = λ more. left-one (Page e) (text-left e (layout_of g) due changes) more;
      }

  -- by why it stopped
  going_by : (goes : Bool) (sprung : Sprung) → StopsSo g (Page e) sprung → ((name : ShortName) → springs g (Page e) ≡ Some name → left_of g (Page e) ≡ left_if goes e)
      → (is_eject_event e ≡ false → goes ≡ false) → following g (Page e) ≡ following_of es sprung s.registers
      → Reaches l t before now (followed_by (following_of es sprung s.registers) (left_of g (Page e) ++ rest) (acting s [] (Page e ∷ g))) → StandFor l (Page e ∷ g) es
      → SprungAt l t before now s (Page e ∷ []) h (going_on_if goes sprung) rest es
  going_by goes sprung (BySpringing name sprang) leaves only follows reaches stands =
      still_going (page-left e g name sprang) (λ none. let wrong : Some name ≡ None = sym sprang ∙ ap (λ (f : Following). f.sprung) follows ∙ none in cc) goes (left_of g (Page e)) (sym (leaves name sprang)) reaches stands
  going_by goes sprung (ByText due changes) leaves only follows reaches stands =
      subst (λ (goes : Bool). SprungAt l t before now s (Page e ∷ []) h (going_on_if goes diverting) rest es) (sym (only (text-alone e (layout_of g) due changes)))
      (text_changing due changes reaches stands)

  -- by what it sprang, where it goes on exactly so
  event_here : (goes : Bool) (done : Result (Option Sprung) Halt)
      → (StandFor l (Page e ∷ g) es → (name : ShortName) → springs g (Page e) ≡ Some name → left_of g (Page e) ≡ left_if goes e)
      → (is_eject_event e ≡ false → goes ≡ false)
      → Here l t before now s g (Page e) (left_of g (Page e) ++ rest) done es
      → Performs l t before now s (Page e ∷ []) h (behind_event s.registers (Page e) h) rest (left_going_on goes done) es
  event_here goes (Ok None) leaves only p =
      let none : left_of g (Page e) ≡ [] = nothing_left e (layout_of g) p.springs in
      subst (λ (h : PageHistory). AllPerformed l t before now s h rest es) is (record {
        reaches = subst (λ (left : List PageEvent). Reaches l t before now (acting s (left ++ rest) (Page e ∷ g))) none p.reaches;
        stands = p.stands;
      })
  event_here goes (Ok (Some sprung)) leaves only p = going_by goes sprung p.so (leaves p.stands) only p.follows p.reaches p.stands
  event_here goes (Err halt) leaves only p = p

-- an event of the pages is performed, of which an eject goes on where its page hasn't ended
page_events : (e : LayoutEvent) (old mid new : Formatter) (out out_new : Sunk) (goes : Bool) (done : Result (Option Sprung) Halt) → ReadyFor (Page e) old mid None
    → PerformsHere (Page e) (Page e) mid new out out_new done
    → ((L M : Layout) (name : ShortName) → M ≡ with_event (Does e) L → StandsAs M new.composer.pages → springs_on_page (Does e) L ≡ Some name → goes_on (Does e) L ≡ goes)
    → (is_eject_event e ≡ false → goes ≡ false) → MovesOn old new (left_going_on goes done)
    → PerformsEvents (Page e ∷ []) old new out out_new (left_going_on goes done)
page_events e old mid new out out_new goes done ready here still only moves = record {
  performs = λ l t before failures err s h rest stood flows reached.
      let g : PageHistory = begun_for (Page e) h in
      let x : PerformsFirst (Page e) (Page e) old new out out_new done = ready_then (Page e) (Page e) old mid new out out_new done ready here in
      event_here l t before (seen failures out_new err) s e h g rest new.composer
      (ap (λ (g : PageHistory). Page e ∷ g) (sym (behind-alone s.registers (Page e) 2 h refl refl))) goes done
      (λ stands name sprung. ap (λ (b : Bool). left_if b e) (still (layout_of g) (layout_of (Page e ∷ g)) name refl stands.pages sprung)) only
      (x.first l t before failures err s h (Page e) rest (λ g. left_of g (Page e) ++ rest) stood refl
      (λ g same. done_alone (Page e) (left_of g (Page e)) rest g (λ rs. refl) refl refl) reached);
  moves = moves;
}

-- it moved on, whether it goes on or is done
going_moves : (old mid new : Formatter) (goes : Bool) (done : Result (Option Sprung) Halt) → open_weight new.composer ≡ open_weight old.composer
    → StopsSprung done new.composer.due → MovesOn old new (left_going_on goes done)
going_moves old mid new goes (Ok None) same stops = tt
going_moves old mid new true (Ok (Some sprung)) same stops = omega (arith, same, stops.1)
going_moves old mid new false (Ok (Some sprung)) same stops = moves-behind old new (Ok (Some sprung)) (stops-sprung (Ok (Some sprung)) new.composer.due stops)
going_moves old mid new goes (Err halt) same stops = tt

not_going : (old new : Formatter) (goes : Bool) (done : Result (Option Sprung) Halt) → goes ≡ false → StopsBehind done → MovesOn old new (left_going_on goes done)
not_going old new goes done is stops =
    subst (λ (goes : Bool). MovesOn old new (left_going_on goes done)) (sym is)
    (subst (λ (r : Result (Option Sprung) Halt). MovesOn old new r) (sym (going-not done)) (moves-behind old new done stops))

-- what an event that may put something tells of blank lines in a diversion
event_tells : (e : LayoutEvent) (L : Layout) (es : ComposerOf) (rs : AllRegisters) → may_put e ≡ true → length es.pages.diversions ≡ length L.diversions
    → is_diverted (Does e) L ≡ true → 0 < length (appended (Does e) L) → es.due.text ≡ blank_due e L → TellsText (Does e) L es rs
event_tells (Space k) L es rs puts count diverts some is = space_tells L es rs count k diverts some is
event_tells (Need k) L es rs puts count diverts some is = need_tells L es rs count k diverts some is
event_tells (Eject asked) L es rs puts count diverts some is = absurd (cc)
event_tells (EjectTo asked number) L es rs puts count diverts some is = absurd (cc)
event_tells (EjectOn asked) L es rs puts count diverts some is = absurd (cc)
event_tells EjectLast L es rs puts count diverts some is = absurd (cc)
event_tells (_) L es rs puts count diverts some is = absurd (cc)

-- any event of the pages
module _ (e : LayoutEvent) (old mid new : Formatter) (out out_new : Sunk) (r : Result (Option Sprung) Halt) (ready : ReadyFor (Page e) old mid None)
    (stay : new.composer.environments ≡ mid.composer.environments) where
  same_open : open_weight new.composer ≡ open_weight old.composer
  same_open = ap (λ (es : EnvironmentsOf). word_weight (es.in_force.lines.is_open || is_some es.in_force.lines.field)) stay ∙ ready-open (Page e) old mid None ready

  put_moves : (goes : Bool) (done : Result (Option Sprung) Halt) → (is_eject_event e ≡ false → goes ≡ false)
      → PutsOnPage (Does e) (blank_due e) mid.composer.pages new.composer.pages mid.composer.due new.composer.due out out_new done
      → MovesOn old new (left_going_on goes done)
  put_moves goes done only (inl put) = going_moves old mid new goes done same_open put.stops
  put_moves goes done only (inr put) = not_going old new goes done (only put.kind) (subst StopsBehind (sym put.is) (omega arith))

  done_by : (puts : Bool) → may_put e ≡ puts → DoesBy puts e mid.composer.pages new.composer.pages mid.composer.due new.composer.due out out_new r
      → PerformsEvents (Page e ∷ []) old new out out_new r
  done_by true puts did =
      let here : PerformsHere (Page e) (Page e) mid new out out_new did.done =
      put_here (Page e) (Page e) (Does e) (blank_due e) mid new out out_new did.done (λ l h stood. refl) (λ h. refl)
      (λ l h stood. page_counted l h e mid.composer stood (room-puts e mid.composer.pages puts))
      (λ l h stood. subst (λ (es : EnvironmentsOf). StandBy l (environments h) es) (sym stay) stood.environments)
      (λ l h rs stood now told_so diverts some due. event_tells e (layout_of h) new.composer rs puts
      (same_behind l h (Page e) (Does e) new.composer now refl diverts (put_opens e (layout_of h) puts)) diverts some due) did.puts in
      subst (λ (r : Result (Option Sprung) Halt). PerformsEvents (Page e ∷ []) old new out out_new r) (sym did.left)
      (page_events e old mid new out out_new did.goes_on did.done ready here
      (λ L M name same stands sprung. goes-still e L name sprung ∙ ap (λ (M : Layout). ejects_still e M) (sym same) ∙ sym (did.is M stands))
      did.only (put_moves did.goes_on did.done did.only did.puts))
  done_by false puts did =
      let here : PerformsHere (Page e) (Page e) mid new out out r = set_here e mid new out puts stay r did.0 in
      subst (λ (now : Sunk). PerformsEvents (Page e ∷ []) old new out now r) (sym did.1)
      (subst (λ (r : Result (Option Sprung) Halt). PerformsEvents (Page e ∷ []) old new out out r) (going-not r)
      (page_events e old mid new out out false r ready here (λ L M name same stands sprung. sets-end e L puts) (λ is. refl)
      (not_going old new false r refl here.stops)))

  pub page_only : DoesOnPage e mid.composer.pages new.composer.pages mid.composer.due new.composer.due out out_new r → PerformsEvents (Page e ∷ []) old new out out_new r
  page_only done = done_by (may_put e) refl done

-- an event that needs no page, and with which nothing happens to them
pub changes_only : (x : PageEvent) (p : PastEvent) (old new : Formatter) (out : Sunk) → ((rs : AllRegisters) → told rs x ≡ p)
    → ((g : PageHistory) → left_of g p ≡ []) → ((g : PageHistory) → ends_field g x ≡ false) → ((h : PageHistory) → needs_page h x ≡ false)
    → ((h : PageHistory) → happens h p ≡ None)
    → ((h : PageHistory) → springs h p ≡ None)
    → ((l : Limits) (h : PageHistory) → StandFor l h old.composer → refusal l h p ≡ None)
    → ((l : Limits) (h : PageHistory) → StandFor l h old.composer → StandBy l (environments (p ∷ h)) new.composer.environments)
    → new.composer.pages ≡ old.composer.pages → PerformsEvents (x ∷ []) old new out out (Ok None)
changes_only x p old new out always whole free needless none unsprung allowed stands same =
    only_first x p old new out out (Ok None) always whole (λ sprung is. cc) free (ready_then x p old old new out out (Ok None) (ready_always x old needless)
    (changes_here x p old new out allowed (λ l h stood. stands_quietly l h p old.composer new.composer stood (none h) (stands l h stood) same)
    (λ l h stood. ap (λ (o : Option Happening). text_laid o (layout_of h)) (none h)) (λ l h stood. follows-none h p (none h) (unsprung h))))

-- one of the text
pub text_changes_only : (e : Event) (old new : Formatter) (out : Sunk) → ((g : PageHistory) → ends_field g (Text e) ≡ false)
    → ((h : History) → length_reached e h ≡ pending_length (e ∷ h)) → ((h : PageHistory) → needs_page h (Text e) ≡ false)
    → ((h : PageHistory) → happens h (Text e) ≡ None) → ((h : PageHistory) → springs h (Text e) ≡ sprung_on (happens h (Text e)) (layout_of h))
    → ((l : Limits) (h : PageHistory) → StandFor l h old.composer → StandBy l (environments (Text e ∷ h)) new.composer.environments)
    → new.composer.pages ≡ old.composer.pages → PerformsEvents (Text e ∷ []) old new out out (Ok None)
text_changes_only e old new out free counted needless none met stands same =
    only_first (Text e) (Text e) old new out out (Ok None) (λ rs. refl) (λ g. refl) (λ sprung is. cc) free
    (ready_then (Text e) (Text e) old old new out out (Ok None) (ready_always (Text e) old needless)
    (text_changes_here e old new out (reached_within e old new counted stands) stands same (λ l h stood. none h) met))

-- one that needs no page, and that a limit refuses
pub stopped_only : (x : PageEvent) (p : PastEvent) (old new : Formatter) (out : Sunk) (limit : Limit) → ((rs : AllRegisters) → told rs x ≡ p)
    → ((g : PageHistory) → left_of g p ≡ []) → ((g : PageHistory) → ends_field g x ≡ false)
    → ((h : PageHistory) → needs_page h x ≡ false) → ((l : Limits) (h : PageHistory) → StandFor l h old.composer → refusal l h p ≡ Some limit)
    → PerformsEvents (x ∷ []) old new out out (Err (Limited limit))
stopped_only x p old new out limit always whole free needless refused =
    only_first x p old new out out (Err (Limited limit)) always whole (λ sprung is. cc) free (ready_then x p old old new out out (Err (Limited limit)) (ready_always x old needless)
    (stopped_here x p old new out limit refused))
