-- The first page, which begins in front of the first event that needs one.
use Rattle.std.proofs.Common.{◌∙◌, ◌≡◌, ◌<◌, ℕ, Bool, true, false, not, ◌||◌, ◌&&◌, List, [], ◌∷◌, ◌++◌, Option, Some, None, Ok, ap, arith, refl, subst, sym, if◌then◌else◌, is_some, nat_le, option_map, ne_eqb}
use Rattle.roff_num.specs.declared.limits.Limits.{Limits}
use Rattle.page_model.specs.Lines.{Finished}
use Rattle.page_model.specs.Behind.{finished, has_open_word}
use Rattle.page_model.specs.Fields.{is_in_field, plain}
use Rattle.page_model.specs.Words.{has_open_word as has_word_in}
use Rattle.page_model.specs.declared.event.Event.{Event}
use Rattle.page_model.specs.declared.glyph.Glyph.{Glyph}
use Rattle.page_model.specs.declared.event.Event.TheVariants.{Print, Tab, FieldEnd, WordEnd, Gap, LineEnd, Count, Break, Interrupt as Interrupted, Resume, Set}
use Rattle.page_model.specs.Happenings.{Does, Places}
use Rattle.page_model.specs.Layout.{Layout, page_place}
use Rattle.page_model.specs.Puts.{appended}
use Rattle.page_model.specs.Queries.{is_diverting, takes_text}
use Rattle.page_model.specs.Stops.{is_diverted}
use Rattle.page_model.specs.Turning.{page_begun, with_boxes, with_event}
use Rattle.page_model.specs.declared.layout_event.LayoutEvent.TheVariants.{Begin}
use Rattle.run_state.specs.Composer.Standing.{StandFor}
use Rattle.run_events.specs.declared.formatter.Formatter.{Formatter}
use Rattle.run_events.specs.Reaching.{Beginning, Reaches}
use Rattle.page_bytes.specs.Devices.{Seen, seen}
use Rattle.run_events.specs.Formatter.Performing.{SprungAt, acting}
use Rattle.run_events.specs.Formatter.Sprung.{MovesOn, may_be_left, noted, open_weight, sprung_before, with_sprung}
use Rattle.run_events.specs.Formatter.Paging.{BeginsPage, BeginsFor, ReadyFor}
use Rattle.run_model.specs.Environments.{PageHistory, interrupted_line, text_of}
use Rattle.run_model.specs.Layouts.{laid_out}
use Rattle.run_model.specs.Output.{layout_of, written_by}
use Rattle.run_model.specs.Springs.{begins, ends_field, field_end_or, left_of, needs_page, next, next_unfielded, own_word_end, page_begin_or, word_end_of}
use Rattle.run_model.specs.PageEvents.{PageEvent}
use Rattle.run_model.specs.Registers.{AllRegisters}
use Rattle.run_model.specs.Titles.{told}
use Rattle.run_model.specs.declared.event.PageEvent.TheVariants.{Text, Interrupt, Environment, Back, InputTrap as SetsTrap, Page, Title}
use Rattle.run_model.specs.Run.{State, followed_by, only_sprung, performed, performing, step, unless_refused}
use Rattle.run_model.specs.TurnsToCome.{left_by, lines_left}
use Rattle.run_model.proofs.LinesLeft.{lines_left-event}
use Rattle.roff_num.specs.declared.short_name.ShortName.{ShortName}
use Rattle.run_model.specs.Run.Counts.{refusal}
use Rattle.page_bytes.specs.Sinks.{Sunk, Writes}
use Rattle.page_bytes.proofs.Appending.{Writes-nothing}
use Rattle.run_events.proofs.EventsLeft.{most-left}
use Rattle.run_events.proofs.LinesLeft.{left-leaves}
use Rattle.run_events.proofs.Performed.{event_performed}
use Rattle.run_events.proofs.Placed.{nothing_allowed, nothing_written, stands-due, stands_set}

-- the history with the first page's beginning, if it begins
abbrev pub begun_by : Bool → PageHistory → PageHistory
begun_by false h = h
begun_by true h = Page Begin ∷ h

-- and if it begins in front of this event
abbrev pub begun_for : PageEvent → PageHistory → PageHistory
begun_for e h = begun_by (begins h e) h

-- text is taken where a page was begun
pub takes-begun : (L : Layout) → 0 < L.begun → takes_text L ≡ true
takes-begun L some = ap (λ (none : Bool). not none || is_diverting L) (ne_eqb L.begun 0 (λ none. omega (arith, some, none)))

-- a page that was begun stays so where lines are placed
begun-turned : (full closing : Bool) (L : Layout) → 0 < L.begun
    → 0 < (if full then (if closing then record L { is_over = true } else page_begun L) else L).begun
begun-turned false closing L some = some
begun-turned true false L some = omega (arith, some)
begun-turned true true L some = some

begun-unless : (diverted full closing : Bool) (L : Layout) → 0 < L.begun
    → 0 < (if diverted then L else if full then (if closing then record L { is_over = true } else page_begun L) else L).begun
begun-unless true full closing L some = some
begun-unless false full closing L some = begun-turned full closing L some

begun-placed : (line : Finished) (L : Layout) → 0 < L.begun → 0 < (with_event (Places line) L).begun
begun-placed line L some =
    let M : Layout = with_boxes (Places line) (appended (Places line) L) (record L { next = L.next }) in
    begun-unless (is_diverted (Places line) L) (nat_le M.length (page_place M)) M.is_closing M some

-- whatever an event of the text finishes
pub begun-text : (h : PageHistory) (e : Event) → 0 < (layout_of h).begun → 0 < (layout_of (Text e ∷ h)).begun
begun-text h e some = by (finished (text_of h) e)
  where
    by : (line : Option Finished) → 0 < (laid_out (option_map Places line) (layout_of h)).begun
    by None = some
    by (Some line) = begun-placed line (layout_of h) some

-- nothing begins where text is taken
never-where : (takes needs : Bool) → takes ≡ true → (not takes && needs) ≡ false
never-where true needs is = refl
never-where false needs is = absurd (cc)

pub begins-taken : (h : PageHistory) (e : PageEvent) → takes_text (layout_of h) ≡ true → begins h e ≡ false
begins-taken h e takes = never-where (takes_text (layout_of h)) (needs_page h e) takes

-- nor where none is needed
never-needed : (takes needs : Bool) → needs ≡ false → (not takes && needs) ≡ false
never-needed true needs is = refl
never-needed false needs is = is

pub begins-needless : (h : PageHistory) (e : PageEvent) → needs_page h e ≡ false → begins h e ≡ false
begins-needless h e none = never-needed (takes_text (layout_of h)) (needs_page h e) none

-- where one begins it is needed, and text isn't taken
needs-where : (takes needs : Bool) → (not takes && needs) ≡ true → (takes ≡ false) × (needs ≡ true)
needs-where false needs is = (refl, is)
needs-where true needs is = absurd (cc)

-- behind the page's beginning text is taken
pub begun-takes : (h : PageHistory) → takes_text (layout_of (Page Begin ∷ h)) ≡ true
begun-takes h = takes-begun (page_begun (layout_of h)) (omega arith)

-- the word end that comes before an event is the same behind the page's beginning
pub word_end-same : (e : PageEvent) (g h : PageHistory) → text_of g ≡ text_of h → word_end_of g e ≡ word_end_of h e
word_end-same (Text (Print glyph)) g h same = refl
word_end-same (Text Tab) g h same = refl
word_end-same (Text FieldEnd) g h same = refl
word_end-same (Text WordEnd) g h same = refl
word_end-same (Text (Gap columns)) g h same = ap (λ text. own_word_end (has_open_word text)) same
word_end-same (Text LineEnd) g h same = ap (λ text. own_word_end (has_open_word text)) same
word_end-same (Text Count) g h same = refl
word_end-same (Text Break) g h same = ap (λ text. own_word_end (has_open_word text)) same
word_end-same (Text Interrupted) g h same = refl
word_end-same (Text Resume) g h same = refl
word_end-same (Text (Set param)) g h same = refl
word_end-same (Interrupt untold) g h same = refl
word_end-same (Environment number) g h same = refl
word_end-same Back g h same = refl
word_end-same (SetsTrap trap) g h same = refl
word_end-same (Page event) g h same = refl
word_end-same (Title which) g h same = refl

-- and so is the field's end
pub field_end-same : (e : PageEvent) (g h : PageHistory) → is_in_field (text_of g) ≡ is_in_field (text_of h) → ends_field g e ≡ ends_field h e
field_end-same (Text LineEnd) g h same = same
field_end-same (Text Break) g h same = same
field_end-same (_) g h same = refl

-- no field is open where a word is
unfielded-word : (field word : Bool) → (not field && word) ≡ true → field ≡ false
unfielded-word false word is = refl
unfielded-word true word is = absurd (cc)

pub word-unfielded : (h : PageHistory) → has_open_word (text_of h) ≡ true → is_in_field (text_of h) ≡ false
word-unfielded h some = unfielded-word (is_in_field (text_of h)) (has_word_in (plain (text_of h))) some

-- so a field's end doesn't come where a word end does
unfielded-own : (h : PageHistory) (own : PageEvent) (b : Bool) → has_open_word (text_of h) ≡ b → own_word_end b ≡ Some own → is_in_field (text_of h) ≡ false
unfielded-own h own false closed some = absurd (cc)
unfielded-own h own true is some = word-unfielded h is

pub own-unfielded : (h : PageHistory) (e own : PageEvent) → word_end_of h e ≡ Some own → ends_field h e ≡ false
own-unfielded h (Text LineEnd) own some = unfielded-own h own (has_open_word (text_of h)) refl some
own-unfielded h (Text Break) own some = unfielded-own h own (has_open_word (text_of h)) refl some
own-unfielded h (_) own some = refl

-- what comes before an event where no field's end does
next-free : (h : PageHistory) (e : PageEvent) → ends_field h e ≡ false → next h e ≡ next_unfielded h e
next-free h e free = ap (λ (ends : Bool). field_end_or ends (next_unfielded h e)) free

-- where one does
pub next-field : (h : PageHistory) (e : PageEvent) → ends_field h e ≡ true → next h e ≡ Some (Text FieldEnd)
next-field h e ends = ap (λ (ends : Bool). field_end_or ends (next_unfielded h e)) ends

-- what comes before an event, by the word end that does, and whether the page begins
pub next-alone : (h : PageHistory) (e : PageEvent) (b : Bool) → word_end_of h e ≡ None → ends_field h e ≡ false → begins h e ≡ b
    → next h e ≡ page_begin_or b None
next-alone h e b none free is =
    next-free h e free
    ∙ ap (λ (o : Option PageEvent). elim o [ None ↦ page_begin_or (begins h e) None | Some own ↦ page_begin_or (begins h own) (Some own) ]) none
    ∙ ap (λ (b : Bool). page_begin_or b None) is

pub next-own : (h : PageHistory) (e own : PageEvent) (b : Bool) → word_end_of h e ≡ Some own → begins h own ≡ b → next h e ≡ page_begin_or b (Some own)
next-own h e own b some is =
    next-free h e (own-unfielded h e own some)
    ∙ ap (λ (o : Option PageEvent). elim o [ None ↦ page_begin_or (begins h e) None | Some first ↦ page_begin_or (begins h first) (Some first) ]) some
    ∙ ap (λ (b : Bool). page_begin_or b (Some own)) is

-- What is done first where an event stands in front of others: the first page's beginning, if this needs it; and this, behind which
-- these are left.
pub record DoneFirst (e x : PageEvent) (rest left : List PageEvent) (h : PageHistory) : Type 0 where
  pub page : begins h x ≡ true → next h e ≡ Some (Page Begin)
  pub itself : (l : Limits) (s : State) → begins h x ≡ false
      → step l (acting s (e ∷ rest) h)
      ≡ unless_refused l (refusal l h (told s.registers x)) (acting s (e ∷ rest) h) (performed (told s.registers x) left (acting s (e ∷ rest) h))

-- the event itself, where no word end comes before it: what goes on of it is left
pub done_alone : (e : PageEvent) (left rest : List PageEvent) (h : PageHistory) → ((rs : AllRegisters) → left_of h (told rs e) ≡ left) → word_end_of h e ≡ None
    → ends_field h e ≡ false → DoneFirst e e rest (left ++ rest) h
done_alone e left rest h leaves none free = record {
  page = λ is. next-alone h e true none free is;
  itself = λ l s is.
      ap (λ (first : Option PageEvent). performing l first e rest (acting s (e ∷ rest) h)) (next-alone h e false none free is)
      ∙ ap (λ (left : List PageEvent). unless_refused l (refusal l h (told s.registers e)) (acting s (e ∷ rest) h) (performed (told s.registers e) (left ++ rest) (acting s (e ∷ rest) h))) (leaves s.registers);
}

-- the word end that comes before it
pub done_own : (e own : PageEvent) (rest : List PageEvent) (h : PageHistory) → word_end_of h e ≡ Some own → DoneFirst e own rest (e ∷ rest) h
done_own e own rest h some = record {
  page = λ is. next-own h e own true some is;
  itself = λ l s is. ap (λ (first : Option PageEvent). performing l first e rest (acting s (e ∷ rest) h)) (next-own h e own false some is);
}

-- the definition has come to the first page's beginning, if it begins in front of an event, and the code with it
pub record Begun (l : Limits) (t : Beginning) (before now : Seen) (s : State) (h : PageHistory) (x : PageEvent) (to_do : List PageEvent) (f : Formatter) : Type 0 where
  pub reaches : Reaches l t before now (acting s to_do (begun_for x h))
  pub stands : StandFor l (begun_for x h) f.composer
  pub none : begins (begun_for x h) x ≡ false
  pub text : text_of (begun_for x h) ≡ text_of h

module _ (l : Limits) (t : Beginning) (before : Seen) (failures : ℕ) (err : Sunk) (s : State) (h : PageHistory) (e x : PageEvent) (rest : List PageEvent) (out : Sunk)
    (first : begins h x ≡ true → next h e ≡ Some (Page Begin)) (old mid : Formatter) (name : Option ShortName) (ready : ReadyFor x old mid name) (stood : StandFor l h old.composer)
    (reached : Reaches l t before (seen failures out err) (acting s (e ∷ rest) h)) where
  -- the page began
  page_stands : BeginsPage old mid name → StandFor l (Page Begin ∷ h) mid.composer
  page_stands page =
      let now : StandFor l (Page Begin ∷ h) (record old.composer { pages = mid.composer.pages }) =
      stands_set l h (Page Begin) (Does Begin) old.composer (record old.composer { pages = mid.composer.pages }) stood refl stood.environments
      (page.begins.stands (layout_of h) stood.pages) (nothing_written (Does Begin) (layout_of h) refl) page.begins.written page.begins.limits stood.goes_on in
      subst (λ (f : Formatter). StandFor l (Page Begin ∷ h) f.composer) (sym page.others) now

  -- with what it sprang
  page_reaches : BeginsPage old mid name → begins h x ≡ true → Reaches l t before (seen failures out err) (followed_by (only_sprung name) (e ∷ rest) (acting s [] (Page Begin ∷ h)))
  page_reaches page is =
      let steps : step l (acting s (e ∷ rest) h)
      ≡ unless_refused l (refusal l h (Page Begin)) (acting s (e ∷ rest) h) (performed (Page Begin) (e ∷ rest) (acting s (e ∷ rest) h))
      = ap (λ (own : Option PageEvent). performing l own e rest (acting s (e ∷ rest) h)) (first is) in
      let wrote : written_by h (Page Begin) ≡ [] = nothing_written (Does Begin) (layout_of h) refl in
      event_performed l t before failures err s h e rest out reached (Page Begin) (e ∷ rest) steps (only_sprung name)
      (ap only_sprung (sym (page.springs (layout_of h) stood.pages))) out
      (nothing_allowed l h (Does Begin) old.composer stood wrote) stood.goes_on
      (subst (λ (bytes : List ℕ). Writes out out bytes) (sym wrote) (Writes-nothing out))

  begun_where : name ≡ None → (b : Bool) → begins h x ≡ b → Begun l t before (seen failures out err) s h x (e ∷ rest) mid
  begun_where none false is =
      let same : begun_by false h ≡ begun_for x h = ap (λ (b : Bool). begun_by b h) (sym is) in
      let there : mid ≡ old = (ready.stays l h stood is).0 in record {
        reaches = subst (λ (g : PageHistory). Reaches l t before (seen failures out err) (acting s (e ∷ rest) g)) same reached;
        stands = subst (λ (g : PageHistory). StandFor l g mid.composer) same (subst (λ (f : Formatter). StandFor l h f.composer) (sym there) stood);
        none = subst (λ (g : PageHistory). begins g x ≡ false) same is;
        text = ap text_of (sym same);
      }
  begun_where none true is =
      let same : begun_by true h ≡ begun_for x h = ap (λ (b : Bool). begun_by b h) (sym is) in
      let page : BeginsPage old mid name = ready.page l h stood is in
      record {
        reaches = subst (λ (g : PageHistory). Reaches l t before (seen failures out err) (acting s (e ∷ rest) g)) same
            (subst (λ (o : Option ShortName). Reaches l t before (seen failures out err) (followed_by (only_sprung o) (e ∷ rest) (acting s [] (Page Begin ∷ h)))) none (page_reaches page is));
        stands = subst (λ (g : PageHistory). StandFor l g mid.composer) same (page_stands page);
        none = subst (λ (g : PageHistory). begins g x ≡ false) same (begins-taken (Page Begin ∷ h) x (begun-takes h));
        text = ap text_of (sym same);
      }

  pub begun : name ≡ None → Begun l t before (seen failures out err) s h x (e ∷ rest) mid
  begun none = begun_where none (begins h x) refl

  -- it sprang something: the event is left
  sprang_where : (found : ShortName) → name ≡ Some found → (begins h x ≡ true → may_be_left e ≡ true) → (b : Bool) → begins h x ≡ b
      → SprungAt l t before (seen failures out err) s (e ∷ []) h sprung_before rest (with_sprung found mid).composer
  sprang_where found some may false is = absurd (let none = (ready.stays l h stood is).1 in cc)
  sprang_where found some may true is =
      let page : BeginsPage old mid name = ready.page l h stood is in
      let left : left_by e (lines_left (interrupted_line h)) ≡ lines_left (interrupted_line h) = left-leaves e (lines_left (interrupted_line h)) (may is) in
      record {
        history = Page Begin ∷ h;
        reaches = subst (λ (o : Option ShortName). Reaches l t before (seen failures out err) (followed_by (only_sprung o) (e ∷ rest) (acting s [] (Page Begin ∷ h)))) some (page_reaches page is);
        stands = stands-due l (Page Begin ∷ h) mid.composer (noted (Some found) mid.composer.due) (page_stands page);
        lines = omega (arith, left, lines_left-event s.registers (Page Begin) h);
        among = omega arith;
        named = λ goes. absurd (cc);
        few = λ more. omega (arith, most-left e more (may is));
      }

  pub page_sprang : (found : ShortName) → name ≡ Some found → (begins h x ≡ true → may_be_left e ≡ true)
      → SprungAt l t before (seen failures out err) s (e ∷ []) h sprung_before rest (with_sprung found mid).composer
  page_sprang found some may = sprang_where found some may (begins h x) refl

-- a formatter is ready for an event that needs no page
pub ready_always : (e : PageEvent) (f : Formatter) → ((h : PageHistory) → needs_page h e ≡ false) → ReadyFor e f f None
ready_always e f needless = record {
  page = λ l h stood is. absurd (let wrong = begins-needless h e (needless h) in cc);
  stays = λ l h stood is. (refl, refl);
  others = refl;
}

-- a formatter that is ready has the same open word
pub ready-open : (e : PageEvent) (old mid : Formatter) (name : Option ShortName) → ReadyFor e old mid name → open_weight mid.composer ≡ open_weight old.composer
ready-open e old mid name ready = ap (λ (f : Formatter). open_weight f.composer) ready.others

-- so where the first page's beginning sprang a macro, that moved on
pub moves-before : (e : PageEvent) (old mid : Formatter) (name : ShortName) → ReadyFor e old mid (Some name)
    → MovesOn old (with_sprung name mid) (Ok (Some sprung_before))
moves-before e old mid name ready = omega (arith, ready-open e old mid (Some name) ready)

-- and where text is taken
pub ready_taking : (e : PageEvent) (f : Formatter) → ((l : Limits) (h : PageHistory) → StandFor l h f.composer → takes_text (layout_of h) ≡ true)
    → ReadyFor e f f None
ready_taking e f takes = record {
  page = λ l h stood is. absurd (let wrong = begins-taken h e (takes l h stood) in cc);
  stays = λ l h stood is. (refl, refl);
  others = refl;
}

-- where it isn't, the page begins if the event needs it
pub ready_needing : (e : PageEvent) (old new : Formatter) (name : Option ShortName) → ((l : Limits) (h : PageHistory) → StandFor l h old.composer → takes_text (layout_of h) ≡ false)
    → BeginsFor e old new name → ReadyFor e old new name
ready_needing e old new name takes needs = record {
  page = λ l h stood is. needs.page l h stood (needs-where (takes_text (layout_of h)) (needs_page h e) is).1;
  stays = λ l h stood is. needs.stays l h stood (by (takes_text (layout_of h)) (needs_page h e) (takes l h stood) is);
  others = needs.others;
}
  where
    by : (takes needs : Bool) → takes ≡ false → (not takes && needs) ≡ false → needs ≡ false
    by false needs none is = is
    by true needs none is = absurd (cc)

-- and where it does always
pub begins_always : (e : PageEvent) (old new : Formatter) (name : Option ShortName) → ((h : PageHistory) → needs_page h e ≡ true) → BeginsPage old new name
    → BeginsFor e old new name
begins_always e old new name needs page = record {
  page = λ l h stood is. page;
  stays = λ l h stood is. absurd (let wrong = needs h in cc);
  others = page.others;
}

-- a break in the closing phase needs a page where it finishes a line
pub closes : (closing finishes : Bool) → closing ≡ true → finishes ≡ (not closing || finishes)
closes true finishes is = refl
closes false finishes is = absurd (cc)

-- and each event but a glyph, tab and break
pub needs-finishing : (e : Event) (h : PageHistory) → ((glyph : Glyph) → e ≡ Print glyph → ⊥) → (e ≡ Tab → ⊥) → (e ≡ Break → ⊥)
    → is_some (finished (text_of h) e) ≡ needs_page h (Text e)
needs-finishing (Print glyph) h not-Print not-Tab not-Break = absurd (not-Print glyph refl)
needs-finishing Tab h not-Print not-Tab not-Break = absurd (not-Tab refl)
needs-finishing FieldEnd h not-Print not-Tab not-Break = refl
needs-finishing WordEnd h not-Print not-Tab not-Break = refl
needs-finishing (Gap columns) h not-Print not-Tab not-Break = refl
needs-finishing LineEnd h not-Print not-Tab not-Break = refl
needs-finishing Count h not-Print not-Tab not-Break = refl
needs-finishing Break h not-Print not-Tab not-Break = absurd (not-Break refl)
needs-finishing Interrupted h not-Print not-Tab not-Break = refl
needs-finishing Resume h not-Print not-Tab not-Break = refl
needs-finishing (Set param) h not-Print not-Tab not-Break = refl
