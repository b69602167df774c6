-- How many steps come before an event at the most: those of the end of an open field and of an open word, and of the first page's
-- beginning.
use Rattle.std.proofs.Common.{◌≡◌, ◌≤◌, ◌+◌, ℕ, Bool, true, false, not, ◌||◌, List, [], ◌∷◌, Option, Some, None, refl, sym, ◌∙◌, ap, subst, arith, ◌&&◌, nat_le, is_some, if◌then◌else◌, ◌==◌, ne_eqb}
use Rattle.page_model.specs.Behind.{finished, has_open_word}
use Rattle.page_model.specs.Events.{History}
use Rattle.page_model.specs.Fields.{Field, Told, is_in_field, so_far, told_plainly, told_behind}
use Rattle.page_model.specs.Lines.{Finished}
use Rattle.page_model.specs.Words.{has_open_word as has_word_in, is_empty}
use Rattle.page_model.specs.declared.event.Event.TheVariants.{Print, Tab, FieldEnd, WordEnd, Gap, LineEnd, Count, Break, Interrupt as Interrupted, Resume, Set}
use Rattle.page_model.specs.Happenings.{Happening, Places}
use Rattle.page_model.specs.declared.layout_event.LayoutEvent.TheVariants.{Begin}
use Rattle.page_model.specs.Layout.{Box, Diversion, Layout, page_place}
use Rattle.page_model.specs.Puts.{appended}
use Rattle.page_model.specs.Queries.{is_diverting, takes_text}
use Rattle.page_model.specs.Stops.{is_diverted}
use Rattle.page_model.specs.Turning.{in_innermost, page_begun, with_boxes}
use Rattle.run_model.specs.Environments.{PageHistory, text_of}
use Rattle.run_model.specs.Layouts.{laid_out, layout_of}
use Rattle.run_model.specs.Springs.{begins, ends_field, field_end_or, needs_page, next, next_unfielded, own_word_end, page_begin_or, word_end_of}
use Rattle.run_model.specs.PageEvents.{PageEvent}
use Rattle.run_model.specs.declared.event.PageEvent.TheVariants.{Text, Page, Interrupt, Environment, Back, InputTrap as SetsTrap, Title}
use Rattle.law_runs.proofs.PutHolds.{put-holds}

-- an event that comes before takes a step, and the change of a diversion's text behind it one
abbrev pub own_steps : Option PageEvent → ℕ
own_steps None = 0
own_steps (Some own) = 2

-- the first page's beginning takes one, where none was begun
abbrev pub page_steps : Bool → ℕ
page_steps true = 0
page_steps false = 1

-- a field's end takes one, behind which its text is of an open word; else those of a word's end are taken
abbrev pub end_steps : Bool → Option PageEvent → ℕ
end_steps true own = 3
end_steps false own = own_steps own

-- how many steps come before an event at the most
abbrev pub steps_in_front : PageHistory → PageEvent → ℕ
steps_in_front h e = end_steps (ends_field h e) (word_end_of h e) + page_steps (takes_text (layout_of h))

own_steps-few : (own : Option PageEvent) → own_steps own ≤ 2
own_steps-few None = omega arith
own_steps-few (Some own) = omega arith

end_steps-few : (in_field : Bool) (own : Option PageEvent) → end_steps in_field own ≤ 3
end_steps-few true own = omega arith
end_steps-few false own = omega (arith, own_steps-few own)

page_steps-few : (takes : Bool) → page_steps takes ≤ 1
page_steps-few true = omega arith
page_steps-few false = omega arith

pub steps_in_front-few : (h : PageHistory) (e : PageEvent) → steps_in_front h e ≤ 4
steps_in_front-few h e = omega (arith, end_steps-few (ends_field h e) (word_end_of h e), page_steps-few (takes_text (layout_of h)))

-- where a page was begun text is taken
takes-begun : (n : ℕ) (diverting : Bool) → (not (n + 1 == 0) || diverting) ≡ true
takes-begun n diverting =
    let some : (n + 1 == 0) ≡ false = ne_eqb (n + 1) 0 (λ is. omega (arith, is)) in
    ap (λ (none : Bool). not none || diverting) some

-- a put closes no diversion
takes-put : (begun : ℕ) (diverted : Bool) (boxes : List Box) (ds : List Diversion)
    → (not (begun == 0) || not (is_empty (if diverted then in_innermost boxes ds else ds))) ≡ (not (begun == 0) || not (is_empty ds))
takes-put begun false boxes ds = refl
takes-put begun true boxes [] = refl
takes-put begun true boxes (d ∷ ds) = refl

-- nor does a page's end
takes-turned : (full closing : Bool) (L : Layout) → takes_text L ≡ true
    → takes_text (if full then (if closing then record L { is_over = true } else page_begun L) else L) ≡ true
takes-turned true true L takes = takes
takes-turned true false L takes = takes-begun L.begun (is_diverting L)
takes-turned false closing L takes = takes

-- so text is taken behind a line that is placed, where it was
takes-laid : (x : Option Finished) (L : Layout) → takes_text L ≡ true
    → takes_text (laid_out (elim x [ None ↦ None | Some line ↦ Some (Places line) ]) L) ≡ true
takes-laid None L takes = takes
takes-laid (Some line) L takes =
    let x : Happening = Places line in
    let boxes : List Box = appended x L in
    let M : Layout = with_boxes x boxes L in
    let put : takes_text M ≡ true = takes-put L.begun (is_diverted x L) boxes L.diversions ∙ takes in
    put-holds (λ (N : Layout). takes_text N ≡ true) (is_diverted x L) M put
    (takes-turned (nat_le M.length (page_place M)) M.is_closing M put)

-- fewer steps
fewer-page_steps : (b c : Bool) → (b ≡ true → c ≡ true) → page_steps c ≤ page_steps b
fewer-page_steps true true same = omega arith
fewer-page_steps true false same = let wrong = same refl in absurd (cc)
fewer-page_steps false c same = page_steps-few c

-- what comes before an event is the end of an open field, or of an open word, or the first page's beginning, where none was begun;
-- and fewer steps come before it behind that
pub data ComesBefore (h : PageHistory) (e : PageEvent) : Option PageEvent → Type 0 where
  NothingComes : begins h e ≡ false → ComesBefore h e None
  FieldEndComes : ends_field h e ≡ true → begins h (Text FieldEnd) ≡ false → steps_in_front (Text FieldEnd ∷ h) e + 1 ≤ steps_in_front h e
      → ComesBefore h e (Some (Text FieldEnd))
  WordEndComes : begins h (Text WordEnd) ≡ false → steps_in_front (Text WordEnd ∷ h) e + 2 ≤ steps_in_front h e
      → ComesBefore h e (Some (Text WordEnd))
  PageComes : takes_text (layout_of h) ≡ false → steps_in_front (Page Begin ∷ h) e + 1 ≤ steps_in_front h e → ComesBefore h e (Some (Page Begin))

-- what an event ends before it happens, if that is open: a field and a word, or a word alone, or neither
data Ends (e : PageEvent) : Type 0 where
  EndsBoth : ((h : PageHistory) → ends_field h e ≡ is_in_field (text_of h))
      → ((h : PageHistory) → word_end_of h e ≡ own_word_end (has_open_word (text_of h))) → Ends e
  EndsWord : ((h : PageHistory) → ends_field h e ≡ false)
      → ((h : PageHistory) → word_end_of h e ≡ own_word_end (has_open_word (text_of h))) → Ends e
  EndsNone : ((h : PageHistory) → ends_field h e ≡ false) → ((h : PageHistory) → word_end_of h e ≡ None) → Ends e

ends : (e : PageEvent) → Ends e
ends (Text (Gap columns)) = EndsWord (λ h. refl) (λ h. refl)
ends (Text LineEnd) = EndsBoth (λ h. refl) (λ h. refl)
ends (Text Break) = EndsBoth (λ h. refl) (λ h. refl)
ends (Text (Print glyph)) = EndsNone (λ h. refl) (λ h. refl)
ends (Text Tab) = EndsNone (λ h. refl) (λ h. refl)
ends (Text FieldEnd) = EndsNone (λ h. refl) (λ h. refl)
ends (Text WordEnd) = EndsNone (λ h. refl) (λ h. refl)
ends (Text Count) = EndsNone (λ h. refl) (λ h. refl)
ends (Text Interrupted) = EndsNone (λ h. refl) (λ h. refl)
ends (Text Resume) = EndsNone (λ h. refl) (λ h. refl)
ends (Text (Set param)) = EndsNone (λ h. refl) (λ h. refl)
ends (Page e) = EndsNone (λ h. refl) (λ h. refl)
ends (Interrupt untold) = EndsNone (λ h. refl) (λ h. refl)
ends (Environment number) = EndsNone (λ h. refl) (λ h. refl)
ends Back = EndsNone (λ h. refl) (λ h. refl)
ends (SetsTrap trap) = EndsNone (λ h. refl) (λ h. refl)
ends (Title which) = EndsNone (λ h. refl) (λ h. refl)

-- behind a word end no word is open that one would end, and a field that was open still is
closed-word_end : (h : History) → has_open_word (WordEnd ∷ h) ≡ false
closed-word_end h = by_field (told_plainly h).events (told_plainly h).field
  where
    by_field : (events : History) (field : Option Field) → let t : Told = told_behind WordEnd (record { events = events; field = field }) in
        (not (is_some t.field) && has_word_in (so_far t)) ≡ false
    by_field events None = refl
    by_field events (Some f) = refl

same-field : (h : History) → is_in_field (WordEnd ∷ h) ≡ is_in_field h
same-field h = by_field (told_plainly h).events (told_plainly h).field
  where
    by_field : (events : History) (field : Option Field) → is_some (told_behind WordEnd (record { events = events; field = field })).field ≡ is_some field
    by_field events None = refl
    by_field events (Some f) = refl

-- a word end of an event's own, behind which it has none, and ends a field where it did before
data HasWordEnd (h : PageHistory) (e : PageEvent) : Option PageEvent → Type 0 where
  NoWord : HasWordEnd h e None
  OpenWord : word_end_of (Text WordEnd ∷ h) e ≡ None → ends_field (Text WordEnd ∷ h) e ≡ ends_field h e → HasWordEnd h e (Some (Text WordEnd))

word_end_by : (h : PageHistory) (e : PageEvent) (is_open : Bool) → word_end_of (Text WordEnd ∷ h) e ≡ None
    → ends_field (Text WordEnd ∷ h) e ≡ ends_field h e → HasWordEnd h e (own_word_end is_open)
word_end_by h e false none same = NoWord
word_end_by h e true none same = OpenWord none same

has_word_end : (h : PageHistory) (e : PageEvent) → Ends e → HasWordEnd h e (word_end_of h e)
has_word_end h e (EndsBoth fields words) =
    subst (HasWordEnd h e) (sym (words h))
    (word_end_by h e (has_open_word (text_of h)) (words (Text WordEnd ∷ h) ∙ ap own_word_end (closed-word_end (text_of h)))
    (fields (Text WordEnd ∷ h) ∙ same-field (text_of h) ∙ sym (fields h)))
has_word_end h e (EndsWord fields words) =
    subst (HasWordEnd h e) (sym (words h))
    (word_end_by h e (has_open_word (text_of h)) (words (Text WordEnd ∷ h) ∙ ap own_word_end (closed-word_end (text_of h)))
    (fields (Text WordEnd ∷ h) ∙ sym (fields h)))
has_word_end h e (EndsNone fields words) = subst (HasWordEnd h e) (sym (words h)) NoWord

-- of what is open the same steps are taken
same-ends : (g h : PageHistory) (e : PageEvent) → ends_field g e ≡ ends_field h e → word_end_of g e ≡ word_end_of h e
    → end_steps (ends_field g e) (word_end_of g e) ≡ end_steps (ends_field h e) (word_end_of h e)
same-ends g h e fields words =
    ap (λ (c : Bool). end_steps c (word_end_of g e)) fields ∙ ap (end_steps (ends_field h e)) words

-- so they are behind the first page's beginning
ends-begun : (h : PageHistory) (e : PageEvent) → Ends e
    → end_steps (ends_field (Page Begin ∷ h) e) (word_end_of (Page Begin ∷ h) e) ≡ end_steps (ends_field h e) (word_end_of h e)
ends-begun h e (EndsBoth fields words) =
    let g : PageHistory = Page Begin ∷ h in same-ends g h e (fields g ∙ sym (fields h)) (words g ∙ sym (words h))
ends-begun h e (EndsWord fields words) =
    let g : PageHistory = Page Begin ∷ h in same-ends g h e (fields g ∙ sym (fields h)) (words g ∙ sym (words h))
ends-begun h e (EndsNone fields words) =
    let g : PageHistory = Page Begin ∷ h in same-ends g h e (fields g ∙ sym (fields h)) (words g ∙ sym (words h))

-- behind a field's end no event ends one
field_ended : (h : PageHistory) (e : PageEvent) → Ends e → ends_field (Text FieldEnd ∷ h) e ≡ false
field_ended h e (EndsBoth fields words) = fields (Text FieldEnd ∷ h)
field_ended h e (EndsWord fields words) = fields (Text FieldEnd ∷ h)
field_ended h e (EndsNone fields words) = fields (Text FieldEnd ∷ h)

-- where the first page begins none was begun
none_begun : (takes needs : Bool) → (not takes && needs) ≡ true → takes ≡ false
none_begun true needs begins = absurd (cc)
none_begun false needs begins = refl

-- and fewer steps come before the same event behind it
begun-fewer : (h : PageHistory) (e own : PageEvent) → begins h own ≡ true → steps_in_front (Page Begin ∷ h) e + 1 ≤ steps_in_front h e
begun-fewer h e own is =
    let before : page_steps (takes_text (layout_of h)) ≡ 1 = ap page_steps (none_begun (takes_text (layout_of h)) (needs_page h own) is) in
    let behind : page_steps (takes_text (layout_of (Page Begin ∷ h))) ≡ 0 =
    ap page_steps (takes-begun (layout_of h).begun (is_diverting (layout_of h))) in
    omega (arith, before, behind, ends-begun h e (ends e))

-- behind the end of the open word too
word_end-fewer : (h : PageHistory) (e : PageEvent) → ends_field h e ≡ false → word_end_of h e ≡ Some (Text WordEnd)
    → word_end_of (Text WordEnd ∷ h) e ≡ None → ends_field (Text WordEnd ∷ h) e ≡ ends_field h e
    → steps_in_front (Text WordEnd ∷ h) e + 2 ≤ steps_in_front h e
word_end-fewer h e no_field is none same =
    let g : PageHistory = Text WordEnd ∷ h in
    let before : end_steps (ends_field h e) (word_end_of h e) ≡ 2 =
    ap (λ (c : Bool). end_steps c (word_end_of h e)) no_field ∙ ap own_steps is in
    let behind : end_steps (ends_field g e) (word_end_of g e) ≡ 0 =
    ap (λ (c : Bool). end_steps c (word_end_of g e)) (same ∙ no_field) ∙ ap own_steps none in
    let pages = fewer-page_steps (takes_text (layout_of h)) (takes_text (layout_of g)) (takes-laid (finished (text_of h) WordEnd) (layout_of h)) in
    omega (arith, before, behind, pages)

-- and behind a field's end, which changes nothing of pages
field_end-fewer : (h : PageHistory) (e : PageEvent) → ends_field h e ≡ true → steps_in_front (Text FieldEnd ∷ h) e + 1 ≤ steps_in_front h e
field_end-fewer h e is =
    let g : PageHistory = Text FieldEnd ∷ h in
    let before : end_steps (ends_field h e) (word_end_of h e) ≡ 3 = ap (λ (c : Bool). end_steps c (word_end_of h e)) is in
    let behind : end_steps (ends_field g e) (word_end_of g e) ≡ own_steps (word_end_of g e) =
    ap (λ (c : Bool). end_steps c (word_end_of g e)) (field_ended h e (ends e)) in
    let pages : page_steps (takes_text (layout_of g)) ≡ page_steps (takes_text (layout_of h)) = refl in
    omega (arith, before, behind, pages, own_steps-few (word_end_of g e))

-- by whether the first page begins
comes_alone : (h : PageHistory) (e : PageEvent) (first : Bool) → begins h e ≡ first → ComesBefore h e (page_begin_or first None)
comes_alone h e true is = PageComes (none_begun (takes_text (layout_of h)) (needs_page h e) is) (begun-fewer h e e is)
comes_alone h e false is = NothingComes is

comes_first : (h : PageHistory) (e : PageEvent) (first : Bool) → begins h (Text WordEnd) ≡ first
    → steps_in_front (Text WordEnd ∷ h) e + 2 ≤ steps_in_front h e → ComesBefore h e (page_begin_or first (Some (Text WordEnd)))
comes_first h e true is fewer =
    PageComes (none_begun (takes_text (layout_of h)) (needs_page h (Text WordEnd)) is) (begun-fewer h e (Text WordEnd) is)
comes_first h e false is fewer = WordEndComes is fewer

-- by the word end that an event has of its own
comes_by : (h : PageHistory) (e : PageEvent) (own : Option PageEvent) → ends_field h e ≡ false → word_end_of h e ≡ own → HasWordEnd h e own
    → ComesBefore h e (elim own [ None ↦ page_begin_or (begins h e) None | Some own ↦ page_begin_or (begins h own) (Some own) ])
comes_by h e own no_field is NoWord = comes_alone h e (begins h e) refl
comes_by h e own no_field is (OpenWord none same) =
    comes_first h e (begins h (Text WordEnd)) refl (word_end-fewer h e no_field is none same)

-- no page begins in front of what needs none
none_begins : (takes : Bool) → (not takes && false) ≡ false
none_begins true = refl
none_begins false = refl

-- by whether a field ends
comes_with : (h : PageHistory) (e : PageEvent) (in_field : Bool) → ends_field h e ≡ in_field
    → ComesBefore h e (field_end_or in_field (next_unfielded h e))
comes_with h e true is = FieldEndComes is (none_begins (takes_text (layout_of h))) (field_end-fewer h e is)
comes_with h e false none = comes_by h e (word_end_of h e) none refl (has_word_end h e (ends e))

pub comes_before : (h : PageHistory) (e : PageEvent) → ComesBefore h e (next h e)
comes_before h e = comes_with h e (ends_field h e) refl
