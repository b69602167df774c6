-- Events that are performed one after another, up to one that sprang something.
use Rattle.std.proofs.Common.{◌∙◌, ◌≡◌, ◌<◌, ◌≤◌, ◌+◌, ℕ, Bool, true, false, List, [], ◌∷◌, ◌++◌, length, Some, Ok, ap, append-nil, arith, refl, subst, sym, ◌||◌, drop, is_some, nat_lt, ltb-false, ltb-true, append_assoc}
use Rattle.roff_num.specs.declared.limits.Limits.{Limits}
use Rattle.run_state.specs.declared.composer.Composer.{Composer as ComposerOf}
use Rattle.run_events.specs.declared.sprung.Sprung.{Sprung}
use Rattle.run_items.specs.Outcome.{Beginning, Reaches, Seen}
use Rattle.run_events.specs.Formatter.Performing.{SprungAt, acting}
use Rattle.run_events.specs.declared.formatter.Formatter.{Formatter}
use Rattle.run_items.specs.declared.interpreter.Interpreter.{Interpreter}
use Rattle.run_items.specs.Performing.{CameBehind, LeftOn}
use Rattle.run_events.specs.Formatter.Sprung.{MovesOn, first_going_on, following_of, further, is_going_on, left_behind, most_back, open_weight, weight}
use Rattle.run_model.specs.Environments.{PageHistory, interrupted_line}
use Rattle.run_model.specs.PageEvents.{PageEvent}
use Rattle.run_model.specs.Run.{State, followed_by}
use Rattle.run_model.specs.TurnsToCome.{lines_left, most_left}
use Rattle.run_events.proofs.EventsLeft.{drop-drop, left-front, most-drop, reach-least}
use Rattle.run_events.proofs.Performed.{sprang_first, sprung-least, word-least}
use Rattle.page_model.specs.declared.event.Event.TheVariants.{Break, WordEnd}
use Rattle.run_model.specs.declared.event.PageEvent.TheVariants.{Text}

-- the event at an index, or what comes before it, sprang this, behind those in front of it
pub came_so_far : (l : Limits) (t : Beginning) (before now : Seen) (s : State) (events : List PageEvent) (n : ℕ) (e : PageEvent) (h g : PageHistory) (rest : List PageEvent) (sprung told : Sprung) (es : ComposerOf)
    → drop n events ≡ e ∷ drop (n + 1) events → n ≤ 99 → (sprung.left + n ≤ 255 → told ≡ further n sprung)
    → most_left (drop n events) (lines_left (interrupted_line g)) ≤ most_left events (lines_left (interrupted_line h))
    → SprungAt l t before now s (e ∷ []) g sprung (drop (n + 1) events ++ rest) es → CameBehind l t before now s events h events rest (Some told) es
came_so_far l t before now s events n e h g rest sprung told es opened short is fewer p =
    let others : List PageEvent = drop (n + 1) events in
    let q : SprungAt l t before now s (e ∷ others) g sprung rest es = sprang_first l t before now s e others g rest es sprung p in
    let few : sprung.left + n ≤ 255 = omega (arith, short, p.among, reach-least (is_going_on sprung.why) sprung.left) in
    let same : left_behind (further n sprung) events ≡ left_behind sprung (e ∷ others) =
    ap (λ (es : List PageEvent). first_going_on (is_going_on sprung.why) es) (drop-drop sprung.left n events)
    ∙ ap (λ (es : List PageEvent). first_going_on (is_going_on sprung.why) (drop sprung.left es)) opened in
    let whole : (e ∷ others) ++ [] ≡ e ∷ others = append-nil (e ∷ others) in
    let at_most : lines_left (interrupted_line q.history) ≤ most_left (e ∷ others) (lines_left (interrupted_line g)) = q.lines in
    let counted : most_left (drop n events) (lines_left (interrupted_line g)) ≡ most_left (e ∷ others) (lines_left (interrupted_line g)) =
    ap (λ (es : List PageEvent). most_left es (lines_left (interrupted_line g))) opened in
    subst (λ (o : Sprung). CameBehind l t before now s events h events rest (Some o) es) (sym (is few)) (record {
      history = q.history;
      reaches = subst (λ (left : List PageEvent). Reaches l t before now (followed_by (following_of es sprung s.registers) (left ++ rest) (acting s [] q.history))) (sym same) q.reaches;
      stands = q.stands;
      lines = omega (arith, fewer, counted, at_most);
      few =
          let last : length (left_behind sprung (e ∷ others)) ≤ most_back (e ∷ others) =
          subst (λ (es : List PageEvent). length (left_behind sprung es) ≤ most_back es) whole (q.few []) in
          omega (arith, ap length same, last, ap most_back opened, most-drop n events);
      keeps = (refl, q.named);
    })

-- the break with which the events begin sprang this
pub came_broken : (l : Limits) (t : Beginning) (before now : Seen) (s : State) (events others : List PageEvent) (h : PageHistory) (rest : List PageEvent) (sprung : Sprung) (es : ComposerOf)
    → events ≡ Text WordEnd ∷ Text Break ∷ others → SprungAt l t before now s (Text WordEnd ∷ Text Break ∷ []) h sprung (others ++ rest) es
    → CameBehind l t before now s events h events rest (Some sprung) es
came_broken l t before now s events others h rest sprung es begins p =
    let front : List PageEvent = Text WordEnd ∷ Text Break ∷ [] in
    let same : left_behind sprung (front ++ others) ≡ left_behind sprung front ++ others = left-front sprung front others p.among in
    subst (λ (events : List PageEvent). CameBehind l t before now s events h events rest (Some sprung) es) (sym begins) (record {
      history = p.history;
      reaches = subst (λ (left : List PageEvent). Reaches l t before now (followed_by (following_of es sprung s.registers) left (acting s [] p.history)))
          (sym (append_assoc (left_behind sprung front) others rest) ∙ ap (λ (left : List PageEvent). left ++ rest) (sym same)) p.reaches;
      stands = p.stands;
      lines = omega (arith, p.lines);
      few = p.few others;
      keeps = (refl, p.named);
    })

-- The event at an index stopped the list: then fewer are left than from the first one on, or that is the first one, and moved on.
pub left_on : (first n : ℕ) (old mid new : Interpreter) (sprung told : Sprung) → first ≤ n → n ≤ 35 → (sprung.left + n ≤ 255 → told ≡ further n sprung)
    → (255 < sprung.left + n → told ≡ record sprung { left = 255 }) → (n ≡ first → mid.formatter ≡ old.formatter)
    → (n ≡ first → MovesOn mid.formatter new.formatter (Ok (Some sprung))) → LeftOn first old new (Ok (Some told))
left_on first n old mid new sprung told from short within most same moves = by (nat_lt first n) refl (nat_lt 255 (sprung.left + n)) refl
  where
    least : weight new.formatter.composer ≤ 3
    least =
        let es : ComposerOf = new.formatter.composer in
        omega (arith, word-least (es.environments.in_force.lines.is_open || is_some es.environments.in_force.lines.field), sprung-least es.due.sprung)

    by : (later : Bool) → nat_lt first n ≡ later → (beyond : Bool) → nat_lt 255 (sprung.left + n) ≡ beyond → LeftOn first old new (Ok (Some told))
    by later after true beyond =
        let is : told.left ≡ 255 = ap (λ (o : Sprung). o.left) (most (ltb-true 255 (sprung.left + n) beyond)) in
        omega (arith, is, least, short, from)
    by true after false beyond =
        let is : told.left ≡ sprung.left + n = ap (λ (o : Sprung). o.left) (within (omega (arith, ltb-false 255 (sprung.left + n) beyond))) in
        omega (arith, is, least, short, ltb-true first n after)
    by false after false beyond =
        let here : n ≡ first = omega (arith, from, ltb-false first n after) in
        let few : sprung.left + n ≤ 255 = omega (arith, ltb-false 255 (sprung.left + n) beyond) in
        let is : told.left ≡ sprung.left + n = ap (λ (o : Sprung). o.left) (within few) in
        let opened : open_weight mid.formatter.composer ≡ open_weight old.formatter.composer = ap (λ (f : Formatter). open_weight f.composer) (same here) in
        omega (arith, is, few, opened, here, moves here)
