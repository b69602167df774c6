-- Where what happens is put: in the innermost open diversion, or on the page.
use Rattle.std.proofs.Common.{◌≡◌, Bool, true, false, not, ◌||◌, List, [], ◌∷◌, ◌++◌, Option, Some, None, arith, append-nil, refl, sym, ◌∙◌, ap, subst, is_some, nat_le, if◌then◌else◌}
use Rattle.page_model.specs.DeviceText.{device_lines, device_text}
use Rattle.page_model.specs.DivertedText.{diverted_lines, diverted_text}
use Rattle.page_model.specs.DueTexts.{TextDue, bytes_due, text_due}
use Rattle.page_model.specs.Happenings.{Happening, Does, Places, Titles, is_eject}
use Rattle.page_model.specs.Layout.{Box, Diversion, Layout, page_place}
use Rattle.page_model.specs.Lines.{Finished}
use Rattle.page_model.specs.Puts.{Put, appended, puts}
use Rattle.page_model.specs.Stops.{is_diverted}
use Rattle.page_model.specs.Turning.{behind_put, in_innermost, next_behind, no_space_behind, page_begun, turned_if_full, turned_unless}
use Rattle.page_model.specs.Words.{is_empty}
use Rattle.page_model.specs.declared.layout_event.LayoutEvent.TheVariants.{Space, Need, Close, Divert, EndDivert}
use Rattle.roff_num.specs.declared.limit.Limit.{Limit}
use Rattle.roff_num.specs.declared.limits.Limits.{Limits}
use Rattle.roff_num.specs.declared.short_name.ShortName.{ShortName}
use Rattle.run_model.specs.Following.{following, text_behind}
use Rattle.run_model.specs.Layouts.{happens, laid_out, layout_of}
use Rattle.run_model.specs.Output.{text_laid, written}
use Rattle.run_model.specs.PageEvents.{PageEvent, PastEvent}
use Rattle.run_model.specs.Run.{Following, State, done_if, performed, performing, step_behind, step_with, unless_refused, with_left}
use Rattle.run_model.specs.Run.Counts.{refusal}
use Rattle.run_model.specs.Springs.{next}
use Rattle.run_model.specs.declared.event.PageEvent.TheVariants.{Text}
use Rattle.run_model.specs.Titles.{told}
use Rattle.law_runs.specs.SpringLaws.{first_of, happening, left_behind}
use Rattle.law_runs.proofs.Ended.{step-going}
use Rattle.law_diversions.specs.DiversionLaws.{HasHappened, LinesGoWhereTheyAreFinished, OpenDiversionsTakeAll, PerformedEventsHappen, ThePageTakesTheRest}
use Rattle.law_diversions.proofs.OpenDiversions.{diversions-turned}

-- with boxes in the innermost diversion
abbrev put_inside : Happening → List Box → Layout → Layout
put_inside x boxes L = record L { next = next_behind x L.next; diversions = in_innermost boxes L.diversions }

inside : (x : Happening) (p : Option Put) (boxes : List Box) (L : Layout) → is_some p ≡ true → is_diverted x L ≡ true
    → behind_put x p boxes L ≡ put_inside x boxes L
inside x None boxes L some diverted = absurd (cc)
inside x (Some p) boxes L some diverted =
    ap
    (λ (c : Bool).
    turned_unless c (record L {
      next = next_behind x L.next;
      boxes = if c then L.boxes else boxes ++ L.boxes;
      no_space = if c then L.no_space else no_space_behind (is_eject x) boxes L.no_space;
      diversions = if c then in_innermost boxes L.diversions else L.diversions;
    })) diverted

-- with boxes on the page, before it ends
abbrev put_outside : Happening → List Box → Layout → Layout
put_outside x boxes L =
    record L { next = next_behind x L.next; boxes = boxes ++ L.boxes; no_space = no_space_behind (is_eject x) boxes L.no_space }

outside : (x : Happening) (p : Option Put) (boxes : List Box) (L : Layout) → is_some p ≡ true → is_diverted x L ≡ false
    → behind_put x p boxes L ≡ turned_if_full (put_outside x boxes L)
outside x None boxes L some on_page = absurd (cc)
outside x (Some p) boxes L some on_page =
    ap
    (λ (c : Bool).
    turned_unless c (record L {
      next = next_behind x L.next;
      boxes = if c then L.boxes else boxes ++ L.boxes;
      no_space = if c then L.no_space else no_space_behind (is_eject x) boxes L.no_space;
      diversions = if c then in_innermost boxes L.diversions else L.diversions;
    })) on_page

-- what becomes of the texts
due-put : (x : Happening) (L : Layout) → is_some (puts x L) ≡ true → is_eject x ≡ false
    → text_due x L ≡ bytes_due L.diversions (diverted_text x L)
due-put (Places line) L some placed = refl
due-put (Titles t) L some placed = refl
due-put (Does (Space k)) L some placed = refl
due-put (Does (Need k)) L some placed = refl
due-put (Does (_)) L some placed = absurd (cc)

none-due : (x : Happening) (L : Layout) → is_some (puts x L) ≡ true → is_diverted x L ≡ false → text_due x L ≡ None
none-due (Places line) L some on_page =
    ap (λ (c : Bool). bytes_due L.diversions (if c then diverted_lines (appended (Places line) L) else [])) on_page
none-due (Titles t) L some on_page =
    ap (λ (c : Bool). bytes_due L.diversions (if c then diverted_lines (appended (Titles t) L) else [])) on_page
none-due (Does (Space k)) L some on_page =
    ap (λ (c : Bool). bytes_due L.diversions (if c then diverted_lines (appended (Does (Space k)) L) else [])) on_page
none-due (Does (Need k)) L some on_page =
    ap (λ (c : Bool). bytes_due L.diversions (if c then diverted_lines (appended (Does (Need k)) L) else [])) on_page
none-due (Does Close) L some on_page = absurd (cc)
none-due (Does EndDivert) L some on_page = absurd (cc)
none-due (Does (Divert name appends)) L some on_page = absurd (cc)
none-due (Does (_)) L some on_page = refl

-- where a diversion is open
diverted_by : (eject empty : Bool) → eject ≡ false → empty ≡ false → not (eject || empty) ≡ true
diverted_by true empty placed some = absurd (cc)
diverted_by false true placed some = absurd (cc)
diverted_by false false placed some = refl

pub open_diversions_take_all : OpenDiversionsTakeAll
open_diversions_take_all h e x d ds is some placed one_open =
    let L : Layout = layout_of h in
    let boxes : List Box = appended x L in
    let filled : is_empty L.diversions ≡ false = ap (λ (ds : List Diversion). is_empty ds) one_open in
    let diverted : is_diverted x L ≡ true = diverted_by (is_eject x) (is_empty L.diversions) placed filled in
    let there : layout_of (e ∷ h) ≡ put_inside x boxes L =
    ap (λ (o : Option Happening). laid_out o L) is ∙ inside x (puts x L) boxes L some diverted in
    let text : diverted_text x L ≡ diverted_lines boxes = ap (λ (c : Bool). if c then diverted_lines boxes else []) diverted in
    let silent : device_text x L ≡ [] =
    ap (λ (c : Bool). if c || not L.is_listed then [] else device_lines L.offset boxes) diverted in record {
      boxes = ap (λ (M : Layout). M.diversions) there ∙ ap (in_innermost boxes) one_open;
      text =
          ap (λ (o : Option Happening). text_behind o L) is ∙ due-put x L some placed
          ∙ ap (λ (ds : List Diversion). bytes_due ds (diverted_text x L)) one_open ∙ ap (bytes_due (d ∷ ds)) text;
      written_is =
          ap (λ (o : Option Happening). written h ++ text_laid o L) is ∙ ap (λ text. written h ++ text) silent ∙ append-nil (written h);
      page = ap (λ (M : Layout). M.boxes) there;
      begun = ap (λ (M : Layout). M.begun) there;
      over = ap (λ (M : Layout). M.is_over) there;
    }

-- a page that goes on has its boxes
boxes-turned : (full closing : Bool) (N : Layout)
    → let M : Layout = if full then (if closing then record N { is_over = true } else page_begun N) else N in
    M.begun ≡ N.begun → M.is_over ≡ false → M.boxes ≡ N.boxes
boxes-turned true true N same goes = absurd (cc)
boxes-turned true false N same goes = absurd (omega (arith, same))
boxes-turned false closing N same goes = refl

pub the_page_takes_the_rest : ThePageTakesTheRest
the_page_takes_the_rest h e x is some on_page =
    let L : Layout = layout_of h in
    let boxes : List Box = appended x L in
    let N : Layout = put_outside x boxes L in
    let full : Bool = nat_le N.length (page_place N) in
    let there : layout_of (e ∷ h) ≡ turned_if_full N =
    ap (λ (o : Option Happening). laid_out o L) is ∙ outside x (puts x L) boxes L some on_page in record {
      boxes =
          λ same goes.
          ap (λ (M : Layout). M.boxes) there
          ∙ boxes-turned full N.is_closing N (sym (ap (λ (M : Layout). M.begun) there) ∙ same)
          (sym (ap (λ (M : Layout). M.is_over) there) ∙ goes);
      written_is =
          λ listed.
          ap (λ (o : Option Happening). written h ++ text_laid o L) is
          ∙ ap (λ (c : Bool). written h ++ (if c || not L.is_listed then [] else device_lines L.offset boxes)) on_page
          ∙ ap (λ (c : Bool). written h ++ (if not c then [] else device_lines L.offset boxes)) listed;
      diversions = ap (λ (M : Layout). M.diversions) there ∙ diversions-turned full N.is_closing N;
      text = ap (λ (o : Option Happening). text_behind o L) is ∙ none-due x L some on_page;
    }

-- a line
pub lines_go_where_they_are_finished : LinesGoWhereTheyAreFinished
lines_go_where_they_are_finished h e line is =
    let x : Happening = Places line in
    let happened : happens h (Text e) ≡ Some x =
    ap (λ (o : Option Finished). elim o as (λ _. Option Happening) [ None ↦ None | Some line ↦ Some (Places line) ]) is in (
      (_, refl),
      (
        (λ d ds one_open. open_diversions_take_all h (Text e) x d ds happened refl refl one_open),
        (λ none. the_page_takes_the_rest h (Text e) x happened refl (ap (λ (ds : List Diversion). not (is_empty ds)) none)),
      ),
    )

-- an event that is performed has happened
happened-by : (over : Bool) (sprung : Option ShortName) (f : Following) (left : List PageEvent) (s : State)
    → let t : State = done_if over s (with_left sprung left (record s { follows = f })) in
    (t.history ≡ s.history) × (t.ended ≡ None → t.follows ≡ f)
happened-by true sprung f left s = (refl, λ going. absurd (cc))
happened-by false None f left s = (refl, λ going. refl)
happened-by false (Some name) f left s = (refl, λ going. refl)

happened : (e : PastEvent) (left : List PageEvent) (s : State) → HasHappened e s (performed e left s)
happened e left s =
    let behind : State = record s { history = e ∷ s.history } in
    let f : Following = following s.history e in
    let is = happened-by (layout_of behind.history).is_over f.sprung f left behind in record { history = is.0; follows = is.1 }

performing-allowed : (l : Limits) (s : State) (own : Option PageEvent) (e : PageEvent) (rest : List PageEvent)
    → refusal l s.history (told s.registers (first_of own e)) ≡ None
    → HasHappened (told s.registers (first_of own e)) s (performing l own e rest s)
performing-allowed l s None e rest allowed =
    let x : PastEvent = told s.registers e in
    let left : List PageEvent = left_behind None e rest s in
    subst (λ (r : Option Limit). HasHappened x s (unless_refused l r s (performed x left s))) (sym allowed) (happened x left s)
performing-allowed l s (Some own) e rest allowed =
    let x : PastEvent = told s.registers own in
    subst (λ (r : Option Limit). HasHappened x s (unless_refused l r s (performed x (e ∷ rest) s))) (sym allowed) (happened x (e ∷ rest) s)

pub performed_events_happen : PerformedEventsHappen
performed_events_happen l s e rest does =
    subst (HasHappened (happening e s) s)
    (sym (step-going l s does.going ∙ ap (λ (due : Option TextDue). step_behind l due s) does.no_text
    ∙ ap (λ (es : List PageEvent). step_with l es s) does.first))
    (performing-allowed l s (next s.history e) e rest does.allowed)
