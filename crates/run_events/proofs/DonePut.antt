-- What happens to the pages where an event stands in front of others: it is put on a page, or in a diversion.
use Rattle.std.proofs.Common.{◌∙◌, ◌≡◌, inl, inr, ◌<◌, ℕ, Bool, true, false, List, [], ◌∷◌, length, Option, Some, None, Result, Ok, Err, ap, arith, refl, subst, sym}
use Rattle.roff_num.specs.declared.limit.Limit.TheVariants.{Output as OutputLimit}
use Rattle.roff_num.specs.declared.limits.Limits.{Limits}
use Rattle.roff_num.specs.declared.short_name.ShortName.{ShortName}
use Rattle.page_model.specs.DeviceText.{device_text}
use Rattle.page_model.specs.DueTexts.{TextDue, text_due}
use Rattle.page_model.specs.Happenings.{Happening}
use Rattle.page_model.specs.Layout.{Layout}
use Rattle.page_model.specs.Puts.{appended}
use Rattle.page_model.specs.Stops.{is_diverted}
use Rattle.roff_pages.specs.Pages.Kept.{Kept}
use Rattle.roff_pages.specs.Pages.Printing.{DidTo}
use Rattle.roff_pages.specs.Pages.Stands.{StandsAs}
use Rattle.page_model.specs.Springs.{springs_on_page}
use Rattle.page_model.specs.Turning.{with_event}
use Rattle.run_state.specs.Composer.Standing.{StandFor}
use Rattle.run_state.specs.Environments.Standing.{StandBy}
use Rattle.run_state.specs.Composer.Due.{due_told}
use Rattle.run_state.specs.declared.due_text.Due.{Due}
use Rattle.run_state.specs.declared.due_text.DueText.{DueText}
use Rattle.run_events.specs.declared.formatter.Formatter.{Formatter}
use Rattle.run_events.specs.declared.halt.Halt.{Halt}
use Rattle.run_events.specs.declared.halt.Halt.TheVariants.{Limit as Limited, Output}
use Rattle.run_events.specs.declared.sprung.Sprung.{Sprung}
use Rattle.run_events.specs.Reaching.{Beginning, Reaches}
use Rattle.page_bytes.specs.Devices.{Seen, seen}
use Rattle.run_events.specs.Formatter.Performing.{StoppedAt, acting}
use Rattle.run_events.specs.Formatter.Paging.{PutsHere, PutsIn, PutsOnPage, halted_by, noted_by}
use Rattle.run_events.specs.Formatter.Sprung.{StopsBehind, StopsSprung, diverting, following_of, noted, sprung_behind, sprung_by}
use Rattle.run_model.specs.Environments.{PageHistory, environments}
use Rattle.run_model.specs.Layouts.{laid_out}
use Rattle.run_model.specs.Output.{happens, layout_of, text_laid, written_by}
use Rattle.run_model.specs.Registers.{AllRegisters}
use Rattle.run_model.specs.Springs.{springs, sprung_on}
use Rattle.run_model.specs.Titles.{told}
use Rattle.run_model.specs.PageEvents.{PageEvent, PastEvent}
use Rattle.run_model.specs.Following.{following, text_behind}
use Rattle.run_model.specs.Run.{State, Following, followed_by, nothing_follows, only_sprung, performed, step, unless_refused}
use Rattle.run_model.specs.Run.Counts.{first_passed, refusal, written_counted}
use Rattle.page_bytes.specs.Sinks.{Fails, Sunk, Writes}
use Rattle.page_bytes.specs.declared.page_fault.PageFault.{PageFault}
use Rattle.page_bytes.specs.declared.page_fault.PageFault.TheVariants.{Output as PastOutput, Sink as SinkFails}
use Rattle.page_bytes.proofs.Appending.{Writes-nothing}
use Rattle.run_events.proofs.DueTexts.{TellsText}
use Rattle.run_events.proofs.Performed.{event_failed, event_over, event_performed, event_stopped}
use Rattle.run_events.proofs.Placed.{diverted_goes, diverted_nothing, nothing_allowed, stands_put, stands_set, written_allowed, written_refused}
use Rattle.run_events.proofs.DoneFirst.{ByText, BySpringing, Here, PerformsHere, SprungHere}

-- what follows an event with which this happens
pub follows_so : (h : PageHistory) (x : PastEvent) (y : Happening) (text : Option TextDue) (name : Option ShortName) → happens h x ≡ Some y → text_due y (layout_of h) ≡ text
    → springs h x ≡ name → following h x ≡ record { text = text; sprung = name }
follows_so h x y text name is told sprang =
    let made : Option TextDue → Option ShortName → Following = λ text name. record { text = text; sprung = name } in
    ap (λ (text : Option TextDue). made text (springs h x)) (ap (λ (o : Option Happening). text_behind o (layout_of h)) is ∙ told) ∙ ap (made text) sprang

-- what stopped behind an event that sprang a macro is done
pub stops-sprung : (r : Result (Option Sprung) Halt) (due : Due) → StopsSprung r due → StopsBehind r
stops-sprung (Ok None) due stops = tt
stops-sprung (Ok (Some sprung)) due stops = omega (arith, ap (λ (sprung : Sprung). sprung.left) stops.0)
stops-sprung (Err halt) due stops = tt

-- one with which something happens to the pages that may write
module _ (own : PageEvent) (x : PastEvent) (y : Happening) (text : Layout → DueText) (old new : Formatter) (out out_new : Sunk) (r : Result (Option Sprung) Halt)
    (is : (l : Limits) (h : PageHistory) → StandFor l h old.composer → happens h x ≡ Some y)
    (met : (h : PageHistory) → springs h x ≡ sprung_on (happens h x) (layout_of h))
    (counted : (l : Limits) (h : PageHistory) → StandFor l h old.composer → refusal l h x ≡ first_passed l (written_counted h (Some y)))
    (stands : (l : Limits) (h : PageHistory) → StandFor l h old.composer → StandBy l (environments (x ∷ h)) new.composer.environments)
    (tells : (l : Limits) (h : PageHistory) (rs : AllRegisters) → StandFor l h old.composer → StandFor l (x ∷ h) new.composer → told rs own ≡ x
    → is_diverted y (layout_of h) ≡ true → 0 < length (appended y (layout_of h)) → new.composer.due.text ≡ text (layout_of h)
    → TellsText y (layout_of h) new.composer rs) where
  module _ (l : Limits) (t : Beginning) (before : Seen) (failures : ℕ) (err : Sunk) (s : State) (h : PageHistory) (e : PageEvent) (rest left : List PageEvent)
      (stood : StandFor l h old.composer) (told_so : told s.registers own ≡ x)
      (steps : step l (acting s (e ∷ rest) h) ≡ unless_refused l (refusal l h x) (acting s (e ∷ rest) h) (performed x left (acting s (e ∷ rest) h)))
      (reached : Reaches l t before (seen failures out err) (acting s (e ∷ rest) h)) where
    wrote : written_by h x ≡ device_text y (layout_of h)
    wrote = ap (λ (o : Option Happening). text_laid o (layout_of h)) (is l h stood)

    laid : layout_of (x ∷ h) ≡ with_event y (layout_of h)
    laid = ap (λ (o : Option Happening). laid_out o (layout_of h)) (is l h stood)

    sprang : springs h x ≡ springs_on_page y (layout_of h)
    sprang = met h ∙ ap (λ (o : Option Happening). sprung_on o (layout_of h)) (is l h stood)

    abbrev Done : Result (Option Sprung) Halt → Type 0
    Done answer = Here l t before (seen failures out_new err) s h x left answer new.composer

    -- on a page, or where no text changes
    module _ (put : PutsHere y old.composer.pages new.composer.pages old.composer.due new.composer.due out out_new r) where
      -- it is done, and springs this, if anything
      module _ (name : Option ShortName) (goes_on : (with_event y (layout_of h)).is_over ≡ false)
          (did : DidTo (layout_of h) y (Ok name) old.composer.pages new.composer.pages out out_new) where
        found : springs h x ≡ name
        found = sprang ∙ sym did.springs

        follows : following h x ≡ only_sprung name
        follows = follows_so h x y None name (is l h stood) (put.untold (layout_of h) stood.pages) found

        now_stands : StandFor l (x ∷ h) new.composer
        now_stands =
            stands_put l h x y old.composer new.composer stood (is l h stood) (stands l h stood) did.stands did.printed.written did.printed.within put.puts.limits goes_on

        now_reaches : (f : Following) → following h x ≡ f → Reaches l t before (seen failures out_new err) (followed_by f left (acting s [] (x ∷ h)))
        now_reaches f so =
            let within = did.printed.within in
            let allowed : refusal l h x ≡ None = counted l h stood ∙ written_allowed l h y (omega (arith, within, stood.written, stood.output)) in
            event_performed l t before failures err s h e rest out reached x left steps f so out_new allowed (ap (λ (L : Layout). L.is_over) laid ∙ goes_on)
            (subst (λ (bytes : List ℕ). Writes out out_new bytes) (sym wrote) did.printed.writes)

      put_named : (name : Option ShortName) → new.composer.due ≡ noted name old.composer.due → (with_event y (layout_of h)).is_over ≡ false
          → DidTo (layout_of h) y (Ok name) old.composer.pages new.composer.pages out out_new → Done (Ok (sprung_by name))
      put_named None due goes_on did = record {
        reaches = now_reaches None goes_on did nothing_follows (follows None goes_on did);
        stands = now_stands None goes_on did;
        springs = found None goes_on did;
      }
      put_named (Some name) due goes_on did = record {
        reaches = now_reaches (Some name) goes_on did (following_of new.composer sprung_behind s.registers)
            (follows (Some name) goes_on did ∙ ap only_sprung (sym (ap (λ (d : Due). d.sprung) due)));
        stands = now_stands (Some name) goes_on did;
        so = BySpringing name (found (Some name) goes_on did);
        follows = follows (Some name) goes_on did ∙ ap only_sprung (sym (ap (λ (d : Due). d.sprung) due));
      }

      put_done : (name : Option ShortName) → new.composer.due ≡ noted name old.composer.due → (over : Bool) → (with_event y (layout_of h)).is_over ≡ over
          → DidTo (layout_of h) y (Ok name) old.composer.pages new.composer.pages out out_new → Done (halted_by (Ok name) over)
      put_done name due false goes_on did = put_named name due goes_on did
      put_done name due true over did =
          let within = did.printed.within in
          let allowed : refusal l h x ≡ None = counted l h stood ∙ written_allowed l h y (omega (arith, within, stood.written, stood.output)) in
          event_over l t before failures err s h e rest out reached x left steps out_new allowed (ap (λ (L : Layout). L.is_over) laid ∙ over)
          (subst (λ (bytes : List ℕ). Writes out out_new bytes) (sym wrote) did.printed.writes)

      -- by what pages answer
      put_by : (answer : Result (Option ShortName) PageFault) → DidTo (layout_of h) y answer old.composer.pages new.composer.pages out out_new
          → ((L : Layout) → StandsAs L new.composer.pages → r ≡ halted_by answer L.is_over) → new.composer.due ≡ noted_by answer old.composer.due → Done r
      put_by (Ok name) did halts due =
          subst Done (sym (halts (with_event y (layout_of h)) did.stands)) (put_done name due (with_event y (layout_of h)).is_over refl did)
      put_by (Err PastOutput) did halts due =
          let halted : r ≡ Err (Limited OutputLimit) = halts (layout_of h) (subst (λ (k : Kept). StandsAs (layout_of h) k) (sym did.same) stood.pages) in
          let above = did.above in
          let refused : refusal l h x ≡ Some OutputLimit = counted l h stood ∙ written_refused l h y (omega (arith, above, stood.written, stood.output)) in
          subst Done (sym halted)
          (subst (λ (now : Sunk). StoppedAt l t before (seen failures now err) s OutputLimit) (sym did.unwritten)
          (event_stopped l t before failures err s h e rest out reached x left steps OutputLimit refused))
      put_by (Err SinkFails) did halts due =
          let halted : r ≡ Err Output = halts (layout_of h) (subst (λ (k : Kept). StandsAs (layout_of h) k) (sym did.same) stood.pages) in
          let within = did.within in
          let allowed : refusal l h x ≡ None = counted l h stood ∙ written_allowed l h y (omega (arith, within, stood.written, stood.output)) in
          subst Done (sym halted)
          (event_failed l t before failures err s h e rest out reached x left steps out_new allowed
          (subst (λ (bytes : List ℕ). Fails out out_new bytes) (sym wrote) did.fails))

      placed : Done r
      placed = put_by put.answer (put.puts.did (layout_of h) stood.pages stood.within) put.halts put.due

    -- in a diversion
    module _ (put : PutsIn y text old.composer.pages new.composer.pages new.composer.due out out_new r) where
      diverts : is_diverted y (layout_of h) ≡ true
      diverts = put.diverted (layout_of h) stood.pages

      in_stands : StandFor l (x ∷ h) new.composer
      in_stands =
          stands_set l h x y old.composer new.composer stood (is l h stood) (stands l h stood) (put.happens.stands (layout_of h) stood.pages)
          (diverted_nothing y (layout_of h) diverts) put.happens.written put.happens.limits (diverted_goes y (layout_of h) diverts ∙ stood.goes_on)

      telling : TellsText y (layout_of h) new.composer s.registers
      telling = tells l h s.registers stood in_stands told_so diverts (put.some (layout_of h) stood.pages) (put.told (layout_of h) stood.pages)

      in_follows : following h x ≡ following_of new.composer diverting s.registers
      in_follows =
          follows_so h x y (due_told new.composer s.registers) new.composer.due.sprung (is l h stood) (telling.so ∙ sym telling.told)
          (sprang ∙ sym (put.springs (layout_of h) stood.pages))

      in_reaches : Reaches l t before (seen failures out err) (followed_by (following_of new.composer diverting s.registers) left (acting s [] (x ∷ h)))
      in_reaches =
          let nothing : written_by h x ≡ [] = wrote ∙ diverted_nothing y (layout_of h) diverts in
          event_performed l t before failures err s h e rest out reached x left steps (following_of new.composer diverting s.registers)
          in_follows out
          (counted l h stood ∙ nothing_allowed l h y old.composer stood (diverted_nothing y (layout_of h) diverts)) in_stands.goes_on
          (subst (λ (bytes : List ℕ). Writes out out bytes) (sym nothing) (Writes-nothing out))

      placed_in : Done r
      placed_in =
          let one : SprungHere l t before (seen failures out err) s h x left diverting new.composer = record {
            reaches = in_reaches;
            stands = in_stands;
            so = ByText telling.due (ap (λ (o : Option Happening). text_behind o (layout_of h)) (is l h stood) ∙ telling.so);
            follows = in_follows;
          } in
          subst (λ (now : Sunk). Here l t before (seen failures now err) s h x left r new.composer) (sym put.quiet)
          (subst (λ (r : Result (Option Sprung) Halt). Here l t before (seen failures out err) s h x left r new.composer) (sym put.is) one)

  pub put_here : PutsOnPage y text old.composer.pages new.composer.pages old.composer.due new.composer.due out out_new r → PerformsHere own x old new out out_new r
  put_here (inl put) = record {
    here = λ l t before failures err s h e rest left stood told_so steps reached. placed l t before failures err s h e rest left stood told_so steps reached put;
    stops = stops-sprung r new.composer.due put.stops;
  }
  put_here (inr put) = record {
    here = λ l t before failures err s h e rest left stood told_so steps reached. placed_in l t before failures err s h e rest left stood told_so steps reached put;
    stops = subst StopsBehind (sym put.is) (omega arith);
  }
