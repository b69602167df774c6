-- Text lines that stand in front up to their newlines, and are told and ended at once.
use Rattle.std.proofs.Common.{◌≡◌, ◌∙◌, ap, false, ℕ, List, [], ◌∷◌, take, Option, Some, None, Result, Ok, refl, sym, subst, arith, is_some}
use Rattle.page_model.specs.Happenings.{Places}
use Rattle.page_model.specs.Lines.{Finished}
use Rattle.page_model.specs.declared.event.Event.TheVariants.{LineEnd, WordEnd}
use Rattle.roff_lines.specs.Env.Unfilled.{EndsAtOnce, line_of, with_line_put}
use Rattle.roff_lines.proofs.Unfilled.{ends_at_once}
use Rattle.run_events.proofs.OpenFields.{is_in_field-stands}
use Rattle.roff_lines.specs.Env.Kept.{KeptField}
use Rattle.roff_num.specs.declared.limits.Limits.{Limits}
use Rattle.run_state.specs.Composer.Standing.{StandFor}
use Rattle.page_model.specs.Fields.{is_in_field}
use Rattle.roff_lines.specs.declared.env.Env.{Env}
use Rattle.run_state.specs.Environments.Standing.{StandBy}
use Rattle.run_state.specs.declared.environments.Environments.{Environments as EnvironmentsOf}
use Rattle.run_model.specs.Environments.{PageHistory, environments, text_of}
use Rattle.run_model.specs.Output.{layout_of}
use Rattle.run_model.specs.declared.event.PageEvent.TheVariants.{Text}
use Rattle.page_bytes.specs.Sinks.{Sunk}
use Rattle.run_events.specs.declared.formatter.Formatter.{Formatter}
use Rattle.run_events.specs.declared.halt.Halt.{Halt}
use Rattle.run_events.specs.declared.sprung.Sprung.{Sprung}
use Rattle.run_events.specs.Formatter.Paging.{PutsOnPage, line_due}
use Rattle.run_events.specs.Formatter.Performing.{PerformsEvents}
use Rattle.run_events.specs.Formatter.Telling.{TellsFront}
use Rattle.run_events.specs.Formatter.Unfilled.{PutsBehind, StandsNear}
use Rattle.run_events.proofs.DoneEvents.{lines_behind, reached_within, text_put_here, with_lines}
use Rattle.run_events.proofs.DoneFirst.{only_first, performs_unfielded, ready_then, unfielded_first}
use Rattle.run_events.proofs.FirstPages.{ready_taking}
use Rattle.run_events.proofs.Telling.{tells_counted}

module _ (near : List ℕ) (count gaps : ℕ) (old : Formatter) (stands : StandsNear near count gaps old) where
  abbrev text : List ℕ
  text = take count near

  abbrev kept : Env
  kept = old.composer.environments.in_force.lines

  abbrev at_once : EndsAtOnce text (line_of text kept) kept (with_line_put text kept)
  at_once = ends_at_once near count gaps kept stands.ends

  -- the formatter with these lines
  abbrev with : Env → Formatter
  with lines = record old { composer = with_lines old.composer lines }

  told : TellsFront near count old (with at_once.told)
  told =
      tells_counted near count count old at_once.told stands.counted (omega arith) stands.takes at_once.tells.quiet at_once.tells.stands
      (λ cap h stood more. absurd (omega (arith, more)))

  word_stands : (l : Limits) (h : PageHistory) → StandFor l h (with at_once.told).composer → StandBy l (environments (Text WordEnd ∷ h)) (with at_once.ended).composer.environments
  word_stands = lines_behind WordEnd (with at_once.told).composer at_once.ended (λ trap. refl) at_once.word_end

  -- no field is open
  none_open : (l : Limits) (h : PageHistory) → StandFor l h (with at_once.ended).composer → is_in_field (text_of h) ≡ false
  none_open l h stood =
      sym (is_in_field-stands l.line (text_of h) at_once.ended stood.environments.in_force.lines) ∙ ap (λ (f : Option KeptField). is_some f) at_once.no_field

  line_stands : (new : Formatter) → new.composer.environments ≡ (with (with_line_put text kept)).composer.environments
      → (l : Limits) (h : PageHistory) → StandFor l h (with at_once.ended).composer → StandBy l (environments (Text LineEnd ∷ h)) new.composer.environments
  line_stands new stay l h stood =
      subst (λ (es : EnvironmentsOf). StandBy l (environments (Text LineEnd ∷ h)) es) (sym stay)
      (lines_behind LineEnd (with at_once.ended).composer (with_line_put text kept) (λ trap. refl) at_once.line_end l h stood)

  ended : (out : Sunk) → PerformsEvents (Text WordEnd ∷ []) (with at_once.told) (with at_once.ended) out out (Ok None)
  ended out =
      only_first (Text WordEnd) (Text WordEnd) (with at_once.told) (with at_once.ended) out out (Ok None) (λ rs. refl) (λ g. refl) (λ sprung is. refl) (λ g. refl)
      (ready_then (Text WordEnd) (Text WordEnd) (with at_once.told) (with at_once.told) (with at_once.ended) out out (Ok None)
      (ready_taking (Text WordEnd) (with at_once.told) (λ l h stood. stands.takes (layout_of h) stood.pages))
      (text_put_here WordEnd None (with at_once.told) (with at_once.ended) out out (Ok None) (λ h. refl)
      (λ l h stood. at_once.quiet l.line (text_of h) stood.environments.in_force.lines)
      (reached_within WordEnd (with at_once.told) (with at_once.ended) (λ h. refl) word_stands) word_stands (refl, refl, refl, refl)))

  -- the bytes were told, and the line that ended was placed
  pub puts_near : (new : Formatter) (out out_new : Sunk) (r : Result (Option Sprung) Halt) (line : Finished) → line ≡ line_of text kept
      → new.composer.environments ≡ (with (with_line_put text kept)).composer.environments
      → PutsOnPage (Places line) (line_due line) old.composer.pages new.composer.pages old.composer.due new.composer.due out out_new r
      → PutsBehind (Text LineEnd ∷ []) near count old new out out_new r
  puts_near new out out_new r line is stay put = record {
    told = with at_once.told;
    tells = told;
    ended = with at_once.ended;
    word = ended;
    performs =
        performs_unfielded (Text LineEnd) (with at_once.ended) new out out_new r none_open
        (unfielded_first (Text LineEnd) (Text LineEnd) (with at_once.ended) new out out_new r (λ rs. refl) (λ g. refl) (λ sprung is. refl)
        (ready_then (Text LineEnd) (Text LineEnd) (with at_once.ended) (with at_once.ended) new out out_new r
        (ready_taking (Text LineEnd) (with at_once.ended) (λ l h stood. stands.takes (layout_of h) stood.pages))
        (text_put_here LineEnd (Some (line_of text kept)) (with at_once.ended) new out out_new r (λ h. refl)
        (λ l h stood. at_once.finishes l.line (text_of h) stood.environments.in_force.lines)
        (reached_within LineEnd (with at_once.ended) new (λ h. refl) (line_stands new stay)) (line_stands new stay)
        (subst (λ (line : Finished). PutsOnPage (Places line) (line_due line) old.composer.pages new.composer.pages old.composer.due new.composer.due out out_new r) is put))));
  }
