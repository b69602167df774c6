-- How many diversions are open.
use Rattle.std.proofs.Common.{◌≡◌, ◌≤◌, ◌+◌, ℕ, Bool, true, false, List, [], ◌∷◌, length, Option, Some, None, arith, refl, sym, subst, nat_le, option_map, if◌then◌else◌}
use Rattle.page_model.specs.Happenings.{Happening, Does, Places, Titles}
use Rattle.page_model.specs.Layout.{Box, Diversion, Layout, page_place}
use Rattle.page_model.specs.Behind.{finished}
use Rattle.page_model.specs.Lines.{Finished}
use Rattle.page_model.specs.Puts.{Put, appended, puts}
use Rattle.page_model.specs.Stops.{is_diverted}
use Rattle.page_model.specs.Turning.{behind_put, in_innermost, next_behind, page_begun, unput, with_boxes, with_diversion_trap, with_mode, without_innermost}
use Rattle.page_model.specs.declared.layout_event.LayoutEvent.{LayoutEvent}
use Rattle.page_model.specs.declared.layout_event.LayoutEvent.TheVariants.{Close, NoSpace, DiversionTrap, NoDiversionTrap, Divert, EndDivert}
use Rattle.page_model.specs.declared.trap.Trap.{Trap}
use Rattle.roff_num.specs.declared.limits.Limits.{Limits}
use Rattle.run_model.specs.Environments.{PageHistory, text_of}
use Rattle.run_model.specs.Layouts.{laid_out, layout_of, placed}
use Rattle.run_model.specs.PageEvents.{PageEvent}
use Rattle.run_model.specs.Registers.{AllRegisters}
use Rattle.run_model.specs.Run.Counts.{counts, refusal}
use Rattle.run_model.specs.Titles.{title_told, told}
use Rattle.run_model.specs.declared.event.PageEvent.TheVariants.{Text, Page, Interrupt, Environment, Back, InputTrap as SetsTrap, Title}
use Rattle.law_runs.proofs.CountsWithin.{counts_within}
use Rattle.law_runs.proofs.PutHolds.{put-holds}
use Rattle.law_diversions.specs.DiversionLaws.{NoMoreDiversionsAreOpen}
use Rattle.law_diversions.proofs.HistoriesHold.{history-holds}

-- a page that ends leaves them as they are
pub diversions-turned : (full closing : Bool) (N : Layout)
    → (if full then (if closing then record N { is_over = true } else page_begun N) else N).diversions ≡ N.diversions
diversions-turned true true N = refl
diversions-turned true false N = refl
diversions-turned false closing N = refl

-- what is put leaves as many
length-innermost : (boxes : List Box) (ds : List Diversion) → length (in_innermost boxes ds) ≤ length ds
length-innermost boxes [] = omega arith
length-innermost boxes (d ∷ ds) = omega arith

length-with_boxes : (diverted : Bool) (boxes : List Box) (ds : List Diversion)
    → length (if diverted then in_innermost boxes ds else ds) ≤ length ds
length-with_boxes true boxes ds = length-innermost boxes ds
length-with_boxes false boxes ds = omega arith

open-put : (most : ℕ) (x : Happening) (p : Option Put) (boxes : List Box) (L : Layout) → length L.diversions ≤ most
    → length (unput x L).diversions ≤ most → length (behind_put x p boxes L).diversions ≤ most
open-put most x None boxes L is unput = unput
open-put most x (Some p) boxes L is unput =
    let N : Layout = with_boxes x boxes (record L { next = next_behind x L.next }) in
    let few : length N.diversions ≤ most = omega (arith, is, length-with_boxes (is_diverted x L) boxes L.diversions) in
    put-holds (λ (M : Layout). length M.diversions ≤ most) (is_diverted x L) N few
    (subst (λ (ds : List Diversion). length ds ≤ most) (sym (diversions-turned (nat_le N.length (page_place N)) N.is_closing N)) few)

open-laid : (most : ℕ) (x : Option Finished) (L : Layout) → length L.diversions ≤ most
    → length (laid_out (option_map Places x) L).diversions ≤ most
open-laid most None L is = is
open-laid most (Some line) L is = let x : Happening = Places line in open-put most x (puts x L) (appended x L) L is is

-- nor do modes and traps change their number, and one that ends leaves one fewer
length-with_mode : (on : Bool) (ds : List Diversion) → length (with_mode on ds) ≤ length ds
length-with_mode on [] = omega arith
length-with_mode on (d ∷ ds) = omega arith

length-with_trap : (trap : Option Trap) (ds : List Diversion) → length (with_diversion_trap trap ds) ≤ length ds
length-with_trap trap [] = omega arith
length-with_trap trap (d ∷ ds) = omega arith

length-without : (ds : List Diversion) → length (without_innermost ds) ≤ length ds
length-without [] = omega arith
length-without (d ∷ ds) = omega arith

-- one more is opened where the limit lets it
open-unput : (l : Limits) (h : PageHistory) (e : LayoutEvent) → length (layout_of h).diversions ≤ l.diversions → refusal l h (Page e) ≡ None
    → length (unput (Does e) (layout_of h)).diversions ≤ l.diversions
open-unput l h (Divert name appends) is allowed =
    let few : length (layout_of h).diversions + 1 ≤ l.diversions =
    (counts_within l (counts h (Page (Divert name appends))) allowed).0 in omega (arith, few)
open-unput l h EndDivert is allowed = omega (arith, is, length-without (layout_of h).diversions)
open-unput l h Close is allowed = omega arith
open-unput l h (NoSpace on) is allowed = omega (arith, is, length-with_mode on (layout_of h).diversions)
open-unput l h (DiversionTrap trap) is allowed = omega (arith, is, length-with_trap (Some trap) (layout_of h).diversions)
open-unput l h NoDiversionTrap is allowed = omega (arith, is, length-with_trap None (layout_of h).diversions)
open-unput l h (_) is allowed = is

open-event : (l : Limits) (rs : AllRegisters) (h : PageHistory) (e : PageEvent) → refusal l h (told rs e) ≡ None
    → length (layout_of h).diversions ≤ l.diversions → length (layout_of (told rs e ∷ h)).diversions ≤ l.diversions
open-event l rs h (Text e) allowed is = open-laid l.diversions (finished (text_of h) e) (layout_of h) is
open-event l rs h (Page e) allowed is =
    let L : Layout = layout_of h in
    let x : Happening = Does e in
    open-put l.diversions x (puts x L) (appended x L) L is (open-unput l h e is allowed)
open-event l rs h (Title which) allowed is =
    let L : Layout = layout_of h in
    let x : Happening = Titles (placed (title_told rs which) (text_of h) L) in
    open-put l.diversions x (puts x L) (appended x L) L is is
open-event l rs h (Interrupt untold) allowed is = is
open-event l rs h (Environment number) allowed is = is
open-event l rs h Back allowed is = is
open-event l rs h (SetsTrap trap) allowed is = is

pub no_more_diversions_are_open : NoMoreDiversionsAreOpen
no_more_diversions_are_open l start tape n =
    history-holds (λ (h : PageHistory). length (layout_of h).diversions ≤ l.diversions) l (record {
      nothing = omega arith;
      listed = λ first last h is. is;
      next_page = λ n h is. is;
      number = λ n h is. is;
      event = open-event l;
    }) start tape n
