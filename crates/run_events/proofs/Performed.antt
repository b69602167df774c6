-- Events that are performed, one by one, over the states of the definition.
use Rattle.std.proofs.Common.{◌∙◌, ◌≡◌, ◌≤◌, ◌+◌, ℕ, Bool, true, false, ◌||◌, List, [], ◌∷◌, ◌++◌, length, arith, Option, Some, None, Result, Ok, Err, ap, refl, subst, sym, is_some, append_assoc}
use Rattle.std.specs.Io.KnownBytes.{Appends}
use Rattle.roff_lines.specs.declared.env.Env.{Env}
use Rattle.roff_num.specs.declared.limit.Limit.{Limit}
use Rattle.roff_num.specs.declared.limits.Limits.{Limits}
use Rattle.roff_num.specs.declared.short_name.ShortName.{ShortName}
use Rattle.run_state.specs.declared.composer.Composer.{Composer as ComposerOf}
use Rattle.run_events.specs.declared.formatter.Formatter.{Formatter}
use Rattle.run_events.specs.declared.halt.Halt.{Halt}
use Rattle.run_events.specs.declared.sprung.Sprung.{Sprung}
use Rattle.run_events.specs.Reaching.{Beginning, Reaches}
use Rattle.page_bytes.specs.Devices.{Seen, AppendsBetween, NoSinkFault, seen}
use Rattle.run_events.specs.Formatter.Performing.{AllPerformed, StoppedAt, FailedAt, OverAt, Performs, PerformsEvents, PerformsStanding, SprungAt, acting, behind_event, behind_events}
use Rattle.run_events.specs.Formatter.Sprung.{HasFew, MovesOn, StopsBehind, following_of, further, further_by, is_going_on, left_behind, unsprung_weight, word_weight}
use Rattle.run_model.specs.Output.{PageHistory, layout_of, written, written_by}
use Rattle.run_model.specs.PageEvents.{PageEvent, PastEvent}
use Rattle.page_model.specs.DueTexts.{TextDue}
use Rattle.run_model.specs.Following.{following}
use Rattle.run_model.specs.Run.{State, Following, done_if, followed_by, initial, output, performed, step, unless_refused, with_left}
use Rattle.run_model.specs.Run.Counts.{refusal}
use Rattle.page_bytes.specs.Sinks.{Sunk, Writes, AppendsFront, Fails}
use Rattle.page_bytes.proofs.Appending.{Appends-append}
use Rattle.run_model.proofs.Leads.{Leads-to}
use Rattle.run_events.proofs.EventsLeft.{left-front, left-further, most-behind, reach-further, reach-least}
use Rattle.run_events.proofs.LinesLeft.{more_left}

-- a beginning of a piece was written behind a text
pub between : (old mid new : Option (List ℕ)) (least piece : List ℕ)
    → Appends old mid least → AppendsFront mid new piece → AppendsBetween old new least (least ++ piece)
between old mid new least piece first part = record {
  front = part.front;
  back = part.back;
  split = rw part.split refl;
  written = Appends-append old mid new least part.front first part.written;
}

-- the output has no fault more
pub faults_of_out : (before : Seen) (failures : ℕ) (err old new : Sunk) → new.failures ≡ old.failures
    → NoSinkFault before (seen failures old err) → NoSinkFault before (seen failures new err)
faults_of_out before failures err old new same faults = record { source = faults.source; out = same ∙ faults.out; err = faults.err }

-- nor has the message sink
pub faults_of_err : (before : Seen) (failures : ℕ) (out old new : Sunk) → new.failures ≡ old.failures
    → NoSinkFault before (seen failures out old) → NoSinkFault before (seen failures out new)
faults_of_err before failures out old new same faults = record { source = faults.source; out = faults.out; err = same ∙ faults.err }

-- what was written where an event was performed, whatever it sprang, and whether the last page ended with it
output-left : (sprung : Option ShortName) (left : List PageEvent) (behind : State) → output (with_left sprung left behind) ≡ output behind
output-left None left behind = refl
output-left (Some name) left behind = refl

output-performed : (over : Bool) (f : Following) (left : List PageEvent) (behind : State)
    → output (done_if over behind (followed_by f left behind)) ≡ output behind
output-performed true f left behind = refl
output-performed false f left behind = output-left f.sprung left (record behind { follows = f })

-- no message is told then
messages-left : (sprung : Option ShortName) (left : List PageEvent) (behind : State) → (with_left sprung left behind).messages ≡ behind.messages
messages-left None left behind = refl
messages-left (Some name) left behind = refl

messages-performed : (over : Bool) (f : Following) (left : List PageEvent) (behind : State)
    → (done_if over behind (followed_by f left behind)).messages ≡ behind.messages
messages-performed true f left behind = refl
messages-performed false f left behind = messages-left f.sprung left (record behind { follows = f })

-- A step at an event in front of others, at a state of a run: in it this happens, the event or what comes before it, and these are
-- left.
module _ (l : Limits) (t : Beginning) (before : Seen) (failures : ℕ) (err : Sunk) (s : State) (h : PageHistory) (e : PageEvent) (rest : List PageEvent) (old : Sunk)
    (reached : Reaches l t before (seen failures old err) (acting s (e ∷ rest) h)) (happens : PastEvent) (left : List PageEvent)
    (steps : step l (acting s (e ∷ rest) h)
    ≡ unless_refused l (refusal l h happens) (acting s (e ∷ rest) h) (performed happens left (acting s (e ∷ rest) h))) where
  -- one that no limit refuses is performed by the step
  step-performed : refusal l h happens ≡ None → step l (acting s (e ∷ rest) h) ≡ performed happens left (acting s (e ∷ rest) h)
  step-performed allowed = steps ∙ ap (λ r. unless_refused l r (acting s (e ∷ rest) h) (performed happens left (acting s (e ∷ rest) h))) allowed

  -- where the last page doesn't end with it the others are left
  step-event : (f : Following) → following h happens ≡ f → refusal l h happens ≡ None → (layout_of (happens ∷ h)).is_over ≡ false
      → step l (acting s (e ∷ rest) h) ≡ followed_by f left (acting s (e ∷ rest) (happens ∷ h))
  step-event f is allowed goes =
      step-performed allowed
      ∙ ap (λ (over : Bool). done_if over (acting s (e ∷ rest) (happens ∷ h)) (followed_by (following h happens) left (acting s (e ∷ rest) (happens ∷ h)))) goes
      ∙ ap (λ (f : Following). followed_by f left (acting s (e ∷ rest) (happens ∷ h))) is

  -- it is performed, and what it writes is written
  event_followed : (text : Option TextDue) (sprung : Option ShortName) → let f : Following = record { text = text; sprung = sprung } in
      following h happens ≡ f → (new : Sunk) → refusal l h happens ≡ None → (layout_of (happens ∷ h)).is_over ≡ false
      → Writes old new (written_by h happens) → Reaches l t before (seen failures new err) (followed_by f left (acting s [] (happens ∷ h)))
  event_followed text None is new allowed goes writes = record {
    comes = Leads-to l (initial l t.start t.tape) _ _ reached.comes (step-event (record { text = text; sprung = None }) is allowed goes);
    text = Appends-append _ _ _ _ _ reached.text writes.written;
    messages = reached.messages;
    faults = faults_of_out before failures err old new writes.failures reached.faults;
    room = reached.room;
  }
  event_followed text (Some name) is new allowed goes writes = record {
    comes = Leads-to l (initial l t.start t.tape) _ _ reached.comes (step-event (record { text = text; sprung = Some name }) is allowed goes);
    text = Appends-append _ _ _ _ _ reached.text writes.written;
    messages = reached.messages;
    faults = faults_of_out before failures err old new writes.failures reached.faults;
    room = reached.room;
  }

  pub event_performed : (f : Following) → following h happens ≡ f → (new : Sunk) → refusal l h happens ≡ None
      → (layout_of (happens ∷ h)).is_over ≡ false → Writes old new (written_by h happens)
      → Reaches l t before (seen failures new err) (followed_by f left (acting s [] (happens ∷ h)))
  event_performed f is = event_followed f.text f.sprung is

  -- and the last page ends with it
  pub event_over : (new : Sunk) → refusal l h happens ≡ None → (layout_of (happens ∷ h)).is_over ≡ true → Writes old new (written_by h happens)
      → OverAt l t before (seen failures new err) s
  event_over new allowed over writes = record {
    to_do = e ∷ rest;
    history = happens ∷ h;
    reaches = record {
      comes = Leads-to l (initial l t.start t.tape) _ _ reached.comes (step-performed allowed
          ∙ ap (λ (b : Bool). done_if b (acting s (e ∷ rest) (happens ∷ h)) (followed_by (following h happens) left (acting s (e ∷ rest) (happens ∷ h)))) over);
      text = Appends-append _ _ _ _ _ reached.text writes.written;
      messages = reached.messages;
      faults = faults_of_out before failures err old new writes.failures reached.faults;
      room = reached.room;
    };
  }

  -- or the output fails
  pub event_failed : (new : Sunk) → refusal l h happens ≡ None → Fails old new (written_by h happens)
      → FailedAt l t before (seen failures new err) s
  event_failed new allowed fails = record {
    next = e;
    to_do = rest;
    history = h;
    stops = record {
      comes = reached.comes;
      goes_on = refl;
      text = subst (λ (bytes : List ℕ). AppendsBetween before.out.contents new.contents (written h) bytes)
          (sym (ap output (step-performed allowed) ∙ output-performed (layout_of (happens ∷ h)).is_over (following h happens) left (acting s (e ∷ rest) (happens ∷ h))))
          (between _ _ _ _ _ reached.text fails.written);
      fault = rw (sym reached.faults.out) fails.fault;
      quiet = ap (λ (s : State). s.messages) (step-performed allowed)
          ∙ messages-performed (layout_of (happens ∷ h)).is_over (following h happens) left (acting s (e ∷ rest) (happens ∷ h));
      room = reached.room;
    };
    messages = reached.messages;
    messages_stay = reached.faults.err;
  }

  -- or a limit refuses it
  pub event_stopped : (limit : Limit) → refusal l h happens ≡ Some limit → StoppedAt l t before (seen failures old err) s limit
  event_stopped limit refused = record {
    next = e;
    to_do = rest;
    history = h;
    reaches = reached;
    stops = steps ∙ ap (λ r. unless_refused l r (acting s (e ∷ rest) h) (performed happens left (acting s (e ∷ rest) h))) refused;
  }

module _ (l : Limits) (t : Beginning) (before now : Seen) (s : State) (first : PageEvent) (others : List PageEvent) (h : PageHistory) (rest : List PageEvent) (es : ComposerOf) where
  -- what one of the events behind the first sprang
  sprang_behind : (sprung : Sprung) → SprungAt l t before now s others (behind_event s.registers first h) sprung rest es
      → SprungAt l t before now s (first ∷ others) h (further 1 sprung) rest es
  sprang_behind sprung p = record {
    history = p.history;
    reaches = subst (λ (left : List PageEvent). Reaches l t before now (followed_by (following_of es sprung s.registers) (left ++ rest) (acting s [] p.history)))
        (sym (left-further sprung first others)) p.reaches;
    stands = p.stands;
    lines = omega (arith, p.lines, more_left s.registers first others h);
    among = omega (arith, reach-further (is_going_on sprung.why) sprung.left 1 (length others) p.among);
    named = p.named;
    few = λ more. omega (arith, ap length (left-further sprung first (others ++ more)), p.few more, most-behind first (others ++ more));
  }

  -- what the first one sprang
  pub sprang_first : (sprung : Sprung) → SprungAt l t before now s (first ∷ []) h sprung (others ++ rest) es
      → SprungAt l t before now s (first ∷ others) h sprung rest es
  sprang_first sprung p = record {
    history = p.history;
    reaches = subst (λ (left : List PageEvent). Reaches l t before now (followed_by (following_of es sprung s.registers) left (acting s [] p.history)))
        (sym (append_assoc (left_behind sprung (first ∷ [])) others rest) ∙ ap (λ (left : List PageEvent). left ++ rest) (sym (left-front sprung (first ∷ []) others p.among))) p.reaches;
    stands = p.stands;
    lines = omega (arith, p.lines);
    among = omega (arith, p.among);
    named = p.named;
    few = λ more. p.few (others ++ more);
  }

  -- how far the events behind the first one were performed, by the answer
  behind_first : (r result : Result (Option Sprung) Halt) → length others ≤ 99 → (HasFew r 1 → result ≡ further_by 1 r)
      → Performs l t before now s others (behind_event s.registers first h) (behind_events s.registers (first ∷ others) h) rest r es
      → Performs l t before now s (first ∷ others) h (behind_events s.registers (first ∷ others) h) rest result es
  behind_first (Ok None) result short is p =
      subst (λ (r : Result (Option Sprung) Halt). Performs l t before now s (first ∷ others) h (behind_events s.registers (first ∷ others) h) rest r es) (sym (is tt)) p
  behind_first (Ok (Some sprung)) result short is p =
      let few : sprung.left + 1 ≤ 255 = omega (arith, short, p.among, reach-least (is_going_on sprung.why) sprung.left) in
      subst (λ (r : Result (Option Sprung) Halt). Performs l t before now s (first ∷ others) h (behind_events s.registers (first ∷ others) h) rest r es) (sym (is few))
      (sprang_behind sprung p)
  behind_first (Err halt) result short is p =
      subst (λ (r : Result (Option Sprung) Halt). Performs l t before now s (first ∷ others) h (behind_events s.registers (first ∷ others) h) rest r es) (sym (is tt)) p

-- what is still to come counts little
pub word-least : (is_open : Bool) → word_weight is_open ≤ 2
word-least false = omega arith
word-least true = omega arith

pub sprung-least : (name : Option ShortName) → unsprung_weight name ≤ 1
sprung-least None = omega arith
sprung-least (Some name) = omega arith

-- so one that is done moved on
pub moves-behind : (old new : Formatter) (r : Result (Option Sprung) Halt) → StopsBehind r → MovesOn old new r
moves-behind old new (Ok None) stops = tt
moves-behind old new (Ok (Some sprung)) stops =
    let lines : Env = new.composer.environments.in_force.lines in
    omega (arith, stops, word-least (lines.is_open || is_some lines.field), sprung-least new.composer.due.sprung)
moves-behind old new (Err halt) stops = tt

-- events that were performed whatever the formatter stands for
pub standing : (events : List PageEvent) (old new : Formatter) (told told_new : Sunk) (r : Result (Option Sprung) Halt)
    → PerformsEvents events old new told told_new r → PerformsStanding events old new told told_new r
standing events old new told told_new r done = record { performs = done.performs; moves = λ l h stood. done.moves }

-- an event and others behind it, of which the first was performed
pub standing_both : (first : PageEvent) (others : List PageEvent) (old mid new : Formatter) (told told_mid told_new : Sunk) (done r result : Result (Option Sprung) Halt)
    → done ≡ Ok None → PerformsStanding (first ∷ []) old mid told told_mid done → PerformsStanding others mid new told_mid told_new r
    → length others ≤ 99 → (HasFew r 1 → result ≡ further_by 1 r) → StopsBehind result
    → PerformsEvents (first ∷ others) old new told told_new result
standing_both first others old mid new told told_mid told_new done r result quiet ended more short is stops =
    let one : PerformsStanding (first ∷ []) old mid told told_mid (Ok None) = subst (λ (r : Result (Option Sprung) Halt). PerformsStanding (first ∷ []) old mid told told_mid r) quiet ended in record {
      performs = λ l t before failures err s h rest stood flows reached.
          let now = one.performs l t before failures err s h (others ++ rest) stood (flows.0, tt) reached in
          behind_first l t before (seen failures told_new err) s first others h rest new.composer r result short is
          (more.performs l t before failures err s (behind_event s.registers first h) rest now.stands flows.1 now.reaches);
      moves = moves-behind old new result stops;
    }

pub performs_both : (first : PageEvent) (others : List PageEvent) (old mid new : Formatter) (told told_mid told_new : Sunk) (done r result : Result (Option Sprung) Halt)
    → done ≡ Ok None → PerformsEvents (first ∷ []) old mid told told_mid done → PerformsEvents others mid new told_mid told_new r
    → length others ≤ 99 → (HasFew r 1 → result ≡ further_by 1 r) → StopsBehind result
    → PerformsEvents (first ∷ others) old new told told_new result
performs_both first others old mid new told told_mid told_new done r result quiet ended more short is stops =
    standing_both first others old mid new told told_mid told_new done r result quiet (standing (first ∷ []) old mid told told_mid done ended)
    (standing others mid new told_mid told_new r more) short is stops

-- or sprang something
pub standing_sprung : (first : PageEvent) (others : List PageEvent) (old new : Formatter) (told told_new : Sunk) (sprung : Sprung) (done : Result (Option Sprung) Halt)
    → done ≡ Ok (Some sprung) → PerformsStanding (first ∷ []) old new told told_new done → PerformsStanding (first ∷ others) old new told told_new (Ok (Some sprung))
standing_sprung first others old new told told_new sprung done found ended =
    let one : PerformsStanding (first ∷ []) old new told told_new (Ok (Some sprung)) = subst (λ (r : Result (Option Sprung) Halt). PerformsStanding (first ∷ []) old new told told_new r) found ended in record {
      performs = λ l t before failures err s h rest stood flows reached.
          sprang_first l t before (seen failures told_new err) s first others h rest new.composer sprung
          (one.performs l t before failures err s h (others ++ rest) stood (flows.0, tt) reached);
      moves = one.moves;
    }

pub performs_first_sprung : (first : PageEvent) (others : List PageEvent) (old new : Formatter) (told told_new : Sunk) (sprung : Sprung) (done : Result (Option Sprung) Halt)
    → done ≡ Ok (Some sprung) → PerformsEvents (first ∷ []) old new told told_new done → PerformsEvents (first ∷ others) old new told told_new (Ok (Some sprung))
performs_first_sprung first others old new told told_new sprung done found ended =
    let one : PerformsEvents (first ∷ []) old new told told_new (Ok (Some sprung)) = subst (λ (r : Result (Option Sprung) Halt). PerformsEvents (first ∷ []) old new told told_new r) found ended in record {
      performs = (standing_sprung first others old new told told_new sprung (Ok (Some sprung)) refl (standing (first ∷ []) old new told told_new (Ok (Some sprung)) one)).performs;
      moves = one.moves;
    }

-- or in which the code halted
pub standing_halted : (first : PageEvent) (others : List PageEvent) (old new : Formatter) (told told_new : Sunk) (halt : Halt)
    → PerformsStanding (first ∷ []) old new told told_new (Err halt) → PerformsStanding (first ∷ others) old new told told_new (Err halt)
standing_halted first others old new told told_new halt one = record {
  performs = λ l t before failures err s h rest stood flows reached.
      one.performs l t before failures err s h (others ++ rest) stood (flows.0, tt) reached;
  moves = λ l h stood. tt;
}

pub performs_first_halted : (first : PageEvent) (others : List PageEvent) (old new : Formatter) (told told_new : Sunk) (halt : Halt)
    → PerformsEvents (first ∷ []) old new told told_new (Err halt) → PerformsEvents (first ∷ others) old new told told_new (Err halt)
performs_first_halted first others old new told told_new halt one = record {
  performs = λ l t before failures err s h rest stood flows reached.
      one.performs l t before failures err s h (others ++ rest) stood (flows.0, tt) reached;
  moves = tt;
}

-- what was performed where the answer is that nothing sprang, or this
pub performed_quietly : (l : Limits) (t : Beginning) (before now : Seen) (s : State) (events : List PageEvent) (h behind : PageHistory) (rest : List PageEvent) (r : Result (Option Sprung) Halt) (es : ComposerOf)
    → r ≡ Ok None → Performs l t before now s events h behind rest r es → AllPerformed l t before now s behind rest es
performed_quietly l t before now s events h behind rest r es is p = subst (λ (r : Result (Option Sprung) Halt). Performs l t before now s events h behind rest r es) is p

pub performed_sprung : (l : Limits) (t : Beginning) (before now : Seen) (s : State) (events : List PageEvent) (h behind : PageHistory) (rest : List PageEvent) (r : Result (Option Sprung) Halt) (sprung : Sprung) (es : ComposerOf)
    → r ≡ Ok (Some sprung) → Performs l t before now s events h behind rest r es → SprungAt l t before now s events h sprung rest es
performed_sprung l t before now s events h behind rest r sprung es is p = subst (λ (r : Result (Option Sprung) Halt). Performs l t before now s events h behind rest r es) is p

-- no event is performed by doing nothing
pub performs_nothing : (f : Formatter) (out : Sunk) → PerformsEvents [] f f out out (Ok None)
performs_nothing f out = record {
  performs = λ l t before failures err s h rest stood flows reached. record { reaches = reached; stands = stood };
  moves = tt;
}
