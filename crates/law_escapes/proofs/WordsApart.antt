-- Words begin where none is open: around a macro that springs, and in any run.
use Rattle.std.proofs.Common.{◌≡◌, inl, inr, ℕ, zero, suc, Bool, true, false, not, List, [], ◌∷◌, ◌++◌, Option, Some, None, refl, sym, ◌∙◌, ap, subst, arith, append_assoc, map, reverse, ◌≢◌, ◌<◌, ◌+◌, ◌==◌, ◌&&◌, ◌||◌, is_some, option_map, if◌then◌else◌, ne_eqb, true≢false}
use Rattle.input_model.proofs.KeptArguments.{reverse-cons}
use Rattle.roff_num.specs.declared.limits.Limits.{Limits}
use Rattle.page_model.specs.DueTexts.{TextDue}
use Rattle.page_model.specs.Behind.{has_open_word as has_word_to_end}
use Rattle.page_model.specs.Events.{History, settings_after}
use Rattle.page_model.specs.Fields.{Field, Told, field_ended, field_told, is_in_field, motion, plain, so_far, tab_reached, told_plainly, told_behind, unfielded, with_glyph}
use Rattle.page_model.specs.Lines.{Finished, finished_in}
use Rattle.page_model.specs.Words.{begun_gap, blanks, ends_sentence, has_open_word, line_end_gap, last_word_glyphs, open_glyphs, open_word}
use Rattle.page_model.specs.declared.event.Event.{Event}
use Rattle.page_model.specs.declared.event.Event.TheVariants.{Print, Tab, FieldEnd, WordEnd, Gap, LineEnd, Count, Break, Interrupt as Interrupted, Resume, Set}
use Rattle.page_model.specs.declared.glyph.Glyph.{Glyph}
use Rattle.page_model.specs.declared.glyph.Glyph.TheVariants.{Blanks}
use Rattle.page_model.specs.Places.{has_line_glyph}
use Rattle.page_model.specs.Settings.{fills}
use Rattle.page_model.specs.Happenings.{Happening, Places}
use Rattle.run_model.specs.Environments.{Environments, environments, is_same, number_behind, text_of}
use Rattle.run_model.specs.Layouts.{happens}
use Rattle.run_model.specs.PageEvents.{PageEvent, PageHistory, PastEvent}
use Rattle.run_model.specs.Registers.{AllRegisters}
use Rattle.run_model.specs.Run.{State, after, step, step_behind, step_with}
use Rattle.run_model.specs.Springs.{begins, ends_field, field_end_or, next, next_unfielded, own_word_end, page_begin_or, word_end_of}
use Rattle.run_model.specs.Titles.{told}
use Rattle.run_model.specs.declared.environment_number.EnvironmentNumber.{EnvironmentNumber}
use Rattle.run_model.specs.declared.environment_number.EnvironmentNumber.TheVariants.{Zero, One, Two}
use Rattle.run_model.specs.declared.event.PageEvent.TheVariants.{Text, Page, Interrupt, Environment, Back, InputTrap as SetsTrap, Title}
use Rattle.run_model.proofs.Readings.{ReadsOn-text, ReadsOn-with_sprung}
use Rattle.law_runs.specs.EnvironmentLaws.{text_in}
use Rattle.law_runs.specs.SpringLaws.{first_of, happening, left_behind}
use Rattle.law_runs.proofs.ComesBefore.{ComesBefore, NothingComes, FieldEndComes, PageComes, WordEndComes, comes_before}
use Rattle.law_runs.proofs.Endings.{ended_or_not, step-ended, step-going}
use Rattle.law_runs.proofs.EnvironmentTurns.{text-environment_of}
use Rattle.law_runs.proofs.PerformedOrStopped.{PerformedOrStopped, Performed, Sprang, EndsOver, StoppedAt, performed_or_stopped}
use Rattle.law_runs.proofs.SpringLaws.{springing-step}
use Rattle.law_runs.proofs.Stages.{history-read}
use Rattle.law_escapes.specs.WordsApart.{EndsLeaveNoWordOpen, FieldsLeaveAWordOpen, FootersBeginWords, FootersBehindTabs, InWordsOfItsOwn, LineEndsLeaveNoWordOpen, OnlyGlyphsOpenWords, OpenWordsGoOn, TellsGlyph, WordsBeginWhereNoneIsOpen, WordsStandApart, ended_words}
use Rattle.roff_lines.proofs.Fields.{blanks-field, has_open_word-field, open_glyphs-field}
use Rattle.roff_lines.proofs.Unfielded.{is_in_field-closed, told-unfielded}
use Rattle.law_escapes.proofs.OwnWords.{Adds, own-event, own-same, tab-own}

-- in the environment in force, or in another one
own-if : (is_there : Bool) (before h : History) (e : Event) → Adds before h → Adds before (if is_there then e ∷ h else h)
own-if true before h e own = own-event before h e own
own-if false before h e own = own

-- an event more of a page's history
own-past : (number : EnvironmentNumber) (before : History) (x : PastEvent) (h : PageHistory) → Adds before (text_in number h)
    → Adds before (text_in number (x ∷ h))
own-past number before (Text e) h own = own-if (is_same (environments h).number number) before (text_in number h) e own
own-past number before (Interrupt untold) h own = own-if (is_same (environments h).number number) before (text_in number h) Interrupted own
own-past number before (Environment other) h own = own
own-past number before Back h own = own
own-past number before (SetsTrap trap) h own = own
own-past number before (Page e) h own = own
own-past number before (Title t) h own = own

own-performed : (number : EnvironmentNumber) (before : History) (l : Limits) (x : PageEvent) (left : List PageEvent) (s t : State)
    → PerformedOrStopped l x left s t → Adds before (text_in number s.history) → Adds before (text_in number t.history)
own-performed number before l x left s t (Performed allowed on none) own = own-past number before (told s.registers x) s.history own
own-performed number before l x left s t (Sprang name allowed on some) own = own-past number before (told s.registers x) s.history own
own-performed number before l x left s t (EndsOver allowed over) own = own-past number before (told s.registers x) s.history own
own-performed number before l x left s t (StoppedAt limit) own = own

-- a step more
own-step_with : (number : EnvironmentNumber) (before : History) (l : Limits) (es : List PageEvent) (s : State)
    → Adds before (text_in number s.history) → Adds before (text_in number (step_with l es s).history)
own-step_with number before l (x ∷ es) s own =
    let first : Option PageEvent = next s.history x in
    own-performed number before l (first_of first x) (left_behind first x es s) s _ (performed_or_stopped l first x es s) own
own-step_with number before l [] s own =
    subst (λ (h : PageHistory). Adds before (text_in number h)) (sym (history-read l s _ (ReadsOn-with_sprung l s.follows.sprung s refl))) own

own-step_behind : (number : EnvironmentNumber) (before : History) (l : Limits) (due : Option TextDue) (s : State) → s.follows.text ≡ due
    → Adds before (text_in number s.history) → Adds before (text_in number (step_behind l due s).history)
own-step_behind number before l None s is own = own-step_with number before l s.to_do s own
own-step_behind number before l (Some due) s is own =
    subst (λ (h : PageHistory). Adds before (text_in number h)) (sym (history-read l s _ (ReadsOn-text l due s is))) own

pub own-step : (number : EnvironmentNumber) (before : History) (l : Limits) (s : State) → Adds before (text_in number s.history)
    → Adds before (text_in number (step l s).history)
own-step number before l s own = elim (ended_or_not s.ended) [
  | inl ended ↦ subst (λ (t : State). Adds before (text_in number t.history)) (sym (step-ended l s ended)) own
  | inr going ↦
      subst (λ (t : State). Adds before (text_in number t.history)) (sym (step-going l s going))
      (own-step_behind number before l s.follows.text s refl own)
]

own-after : (number : EnvironmentNumber) (before : History) (l : Limits) (n : ℕ) (s : State) → Adds before (text_in number s.history)
    → Adds before (text_in number (after l n s).history)
own-after number before l zero s own = own
own-after number before l (suc n) s own = own-after number before l n (step l s) (own-step number before l s own)

pub words_begin_where_none_is_open : WordsBeginWhereNoneIsOpen
words_begin_where_none_is_open l s number n none = own-after number (plain (text_in number s.history)) l n s (own-same (text_in number s.history) none)

-- the text of the environment in force
is_same-itself : (number : EnvironmentNumber) → is_same number number ≡ true
is_same-itself Zero = refl
is_same-itself One = refl
is_same-itself Two = refl

pub text_in-force : (h : PageHistory) → text_in (environments h).number h ≡ text_of h
text_in-force h =
    let es : Environments = environments h in
    sym (text-environment_of es.number h)
    ∙ ap (λ (c : Bool). (if c then es.in_force else if is_same (number_behind es.number) es.number then es.next else es.last).text)
    (is_same-itself es.number)

-- the gap of a word that begins isn't none
line_end_gap-some : (glyphs : List Glyph) → 0 < line_end_gap glyphs
line_end_gap-some glyphs = by_sentence (ends_sentence glyphs)
  where
    by_sentence : (c : Bool) → 0 < (if c then 2 else 1)
    by_sentence true = omega arith
    by_sentence false = omega arith

begun_gap-some : (n : ℕ) (glyphs : List Glyph) → 0 < begun_gap n glyphs
begun_gap-some zero glyphs = line_end_gap-some glyphs
begun_gap-some (suc n) glyphs =
    let some : (suc n == 0) ≡ false = ne_eqb (suc n) 0 (λ is. omega (arith, is)) in
    subst (λ (c : Bool). 0 < (if c then line_end_gap glyphs else suc n)) (sym some) (omega arith)

-- a glyph joins the open word, or begins one
begun-some : (is_open : Bool) (before begun : ℕ) → (is_open ≡ true → 0 < before) → 0 < begun → 0 < (if is_open then before else begun)
begun-some true before begun apart some = apart refl
begun-some false before begun apart some = some

-- what is no glyph leaves the gap of an open word
same-some : (is_open : Bool) (before other : ℕ) → is_open ≡ true → 0 < before → 0 < (if is_open then before else other)
same-some true before other is apart = apart
same-some false before other is apart = absurd (cc)

gap-some : (is_open other : Bool) (before more : ℕ) → is_open ≡ true → 0 < before → 0 < (if is_open || other then before else more)
gap-some true other before more is apart = apart
gap-some false other before more is apart = absurd (cc)

blanks-some : (h : History) → has_open_word h ≡ true → 0 < blanks h
blanks-some [] is = absurd (cc)
blanks-some (Print g ∷ h) is =
    begun-some (has_open_word h) (blanks h) (begun_gap (blanks h) (last_word_glyphs h)) (blanks-some h) (begun_gap-some (blanks h) (last_word_glyphs h))
blanks-some (Tab ∷ h) is =
    begun-some (has_open_word h) (blanks h) (begun_gap (blanks h) (last_word_glyphs h)) (blanks-some h) (begun_gap-some (blanks h) (last_word_glyphs h))
blanks-some (FieldEnd ∷ h) is = blanks-some h is
blanks-some (WordEnd ∷ h) is = absurd (cc)
blanks-some (Gap n ∷ h) is =
    gap-some (has_open_word h) (not (has_line_glyph h) && not (blanks h == 0)) (blanks h) (blanks h + n) is (blanks-some h is)
blanks-some (LineEnd ∷ h) is =
    gap-some (has_open_word h) (fills (settings_after h) && not (has_line_glyph h)) (blanks h)
    (if fills (settings_after h) then line_end_gap (last_word_glyphs h) else 0) is (blanks-some h is)
blanks-some (Count ∷ h) is = blanks-some h is
blanks-some (Break ∷ h) is = same-some (has_open_word h) (blanks h) 0 is (blanks-some h is)
blanks-some (Interrupted ∷ h) is = blanks-some h is
blanks-some (Resume ∷ h) is = blanks-some h is
blanks-some (Set p ∷ h) is = blanks-some h is

pub words_stand_apart : WordsStandApart
words_stand_apart h is = blanks-some (plain h) is

-- a field ends no word
ended-glyphs : (gs : List Glyph) (h : History) → ended_words (map Print gs ++ h) ≡ ended_words h
ended-glyphs [] h = refl
ended-glyphs (g ∷ gs) h = ended-glyphs gs h

ended-field : (columns : ℕ) (f : Field) (h : History) → ended_words (field_told columns f h) ≡ ended_words h
ended-field columns f h = ended-glyphs f.glyphs (Print (Blanks columns) ∷ h)

-- a glyph behind the open word, and in a field, where a gap may stand before it
open-glyph : (g blank : Glyph) (none : Bool) (gs before : List Glyph)
    → reverse (g ∷ ((if none then gs else blank ∷ gs) ++ before))
    ≡ reverse (gs ++ before) ++ ((if none then [] else blank ∷ []) ++ g ∷ [])
open-glyph g blank true gs before = reverse-cons g (gs ++ before)
open-glyph g blank false gs before =
    reverse-cons g (blank ∷ gs ++ before)
    ∙ ap (λ (all : List Glyph). all ++ g ∷ []) (reverse-cons blank (gs ++ before))
    ∙ append_assoc (reverse (gs ++ before)) (blank ∷ []) (g ∷ [])

open-told : (g : Glyph) (h : History) (field : Option Field)
    → let t : Told = record { events = h; field = field } in
    let behind : History = so_far (told_behind (Print g) t) in
    let between : List Glyph = elim field [ None ↦ [] | Some f ↦ if f.gap == 0 then [] else Blanks f.gap ∷ [] ] in
    has_open_word (so_far t) ≡ true →
    ((open_word behind).glyphs ≡ (open_word (so_far t)).glyphs ++ (between ++ g ∷ []))
    × ((open_word behind).gap ≡ (open_word (so_far t)).gap) × (ended_words behind ≡ ended_words (so_far t))
open-told g h None is =
    (reverse-cons g (open_glyphs h), ap (λ (c : Bool). if c then blanks h else begun_gap (blanks h) (last_word_glyphs h)) is, refl)
open-told g h (Some f) is =
    let between : List Glyph = if f.gap == 0 then [] else Blanks f.gap ∷ [] in (
      ap reverse (open_glyphs-field 0 (with_glyph g f) h)
          ∙ open-glyph g (Blanks f.gap) (f.gap == 0) f.glyphs (Blanks 0 ∷ open_glyphs h)
          ∙ ap (λ (gs : List Glyph). reverse gs ++ (between ++ g ∷ [])) (sym (open_glyphs-field 0 f h)),
      blanks-field 0 (with_glyph g f) h ∙ sym (blanks-field 0 f h),
      ended-field 0 (with_glyph g f) h ∙ sym (ended-field 0 f h),
    )

pub open_words_go_on : OpenWordsGoOn
open_words_go_on h g is = open-told g (told_plainly h).events (told_plainly h).field is

-- where nothing comes before a gap, a line's end or a break no word is open
none_before : (h : PageHistory) (e : PageEvent) (own : Option PageEvent)
    → ◌≡◌ {A = Option PageEvent} (elim own [ None ↦ page_begin_or (begins h e) None | Some own ↦ page_begin_or (begins h own) (Some own) ]) None
    → own ≡ None
none_before h e None is = refl
none_before h e (Some own) is = by_begin (begins h own) is
  where
    by_begin : (c : Bool) → page_begin_or c (Some own) ≡ None → Some own ≡ None
    by_begin true is = absurd (cc)
    by_begin false is = absurd (cc)

none_open : (is_open : Bool) → own_word_end is_open ≡ None → is_open ≡ false
none_open true is = absurd (cc)
none_open false is = refl

no_field_end : (ends : Bool) (other : Option PageEvent) → field_end_or ends other ≡ None → ends ≡ false
no_field_end true other is = absurd (cc)
no_field_end false other is = refl

no_other : (ends : Bool) (other : Option PageEvent) → field_end_or ends other ≡ None → other ≡ None
no_other true other is = absurd (cc)
no_other false other is = is

-- and no field, where it would end one
pub no_field_in_front : (h : PageHistory) (e : PageEvent) → next h e ≡ None → ends_field h e ≡ false
no_field_in_front h e none = no_field_end (ends_field h e) (next_unfielded h e) none

pub no_word_in_front : (h : PageHistory) (e : PageEvent) → word_end_of h e ≡ own_word_end (has_word_to_end (text_of h)) → next h e ≡ None
    → has_word_to_end (text_of h) ≡ false
no_word_in_front h e ends none =
    none_open (has_word_to_end (text_of h))
    (sym ends ∙ none_before h e (word_end_of h e) (no_other (ends_field h e) (next_unfielded h e) none))

-- where no field is open, and no word that a word's end would end, none is open at all
pub none_at_all : (h : History) → is_in_field h ≡ false → has_word_to_end h ≡ false → has_open_word (plain h) ≡ false
none_at_all h no_field none = sym (ap (λ (c : Bool). not c && has_open_word (plain h)) no_field) ∙ none

-- behind what ends a line no word is open, and no field
closed-line : (h : PageHistory) (e : Event) → (let T : History = text_of h in
    told_plainly T ≡ unfielded (plain T) → has_open_word (plain T) ≡ false → has_open_word (plain (e ∷ T)) ≡ false)
    → is_in_field (text_of h) ≡ false → has_word_to_end (text_of h) ≡ false → has_open_word (plain (e ∷ text_of h)) ≡ false
closed-line h e closes no_field none = closes (told-unfielded (text_of h) no_field) (none_at_all (text_of h) no_field none)

pub line_ends_leave_no_word_open : LineEndsLeaveNoWordOpen
line_ends_leave_no_word_open h LineEnd ends none =
    closed-line h LineEnd (λ told closed. ap (λ (t : Told). has_open_word (so_far (told_behind LineEnd t))) told ∙ closed)
    (no_field_in_front h (Text LineEnd) none) (no_word_in_front h (Text LineEnd) refl none)
line_ends_leave_no_word_open h Break ends none =
    closed-line h Break (λ told closed. ap (λ (t : Told). has_open_word (so_far (told_behind Break t))) told ∙ closed)
    (no_field_in_front h (Text Break) none) (no_word_in_front h (Text Break) refl none)
line_ends_leave_no_word_open h WordEnd ends none = absurd ends
line_ends_leave_no_word_open h (Print g) ends none = absurd ends
line_ends_leave_no_word_open h Tab ends none = absurd ends
line_ends_leave_no_word_open h FieldEnd ends none = absurd ends
line_ends_leave_no_word_open h (Gap n) ends none = absurd ends
line_ends_leave_no_word_open h Count ends none = absurd ends
line_ends_leave_no_word_open h Interrupted ends none = absurd ends
line_ends_leave_no_word_open h Resume ends none = absurd ends
line_ends_leave_no_word_open h (Set p) ends none = absurd ends

-- behind what ends a word none is open that a word's end would end
none-to_end : (in_field is_open : Bool) → is_open ≡ false → (not in_field && is_open) ≡ false
none-to_end true is_open none = refl
none-to_end false is_open none = none

closed-word_end : (h : History) (field : Option Field)
    → let t : Told = told_behind WordEnd (record { events = h; field = field }) in (not (is_some t.field) && has_open_word (so_far t)) ≡ false
closed-word_end h None = refl
closed-word_end h (Some f) = refl

pub ends_leave_no_word_open : EndsLeaveNoWordOpen
ends_leave_no_word_open h WordEnd ends none = closed-word_end (told_plainly (text_of h)).events (told_plainly (text_of h)).field
ends_leave_no_word_open h LineEnd ends none =
    let T : History = LineEnd ∷ text_of h in
    none-to_end (is_in_field T) (has_open_word (plain T)) (line_ends_leave_no_word_open h LineEnd tt none)
ends_leave_no_word_open h Break ends none =
    let T : History = Break ∷ text_of h in
    none-to_end (is_in_field T) (has_open_word (plain T)) (line_ends_leave_no_word_open h Break tt none)
ends_leave_no_word_open h (Print g) ends none = absurd ends
ends_leave_no_word_open h Tab ends none = absurd ends
ends_leave_no_word_open h FieldEnd ends none = absurd ends
ends_leave_no_word_open h (Gap n) ends none = absurd ends
ends_leave_no_word_open h Count ends none = absurd ends
ends_leave_no_word_open h Interrupted ends none = absurd ends
ends_leave_no_word_open h Resume ends none = absurd ends
ends_leave_no_word_open h (Set p) ends none = absurd ends

-- until a glyph is told
told-closed : (h : History) → has_open_word (plain h) ≡ false → told_plainly h ≡ unfielded (plain h)
told-closed h none = told-unfielded h (is_in_field-closed h none)

opens-none : (h : History) (e : Event) → has_open_word (plain h) ≡ false → has_open_word (plain (e ∷ h)) ≡ true
    → has_open_word (so_far (told_behind e (unfielded (plain h)))) ≡ false → TellsGlyph e
opens-none h e none is closed =
    let none_behind : has_open_word (plain (e ∷ h)) ≡ false =
    ap (λ (t : Told). has_open_word (so_far (told_behind e t))) (told-closed h none) ∙ closed in
    absurd (true≢false (sym is ∙ none_behind))

pub only_glyphs_open_words : OnlyGlyphsOpenWords
only_glyphs_open_words h (Print g) none is = tt
only_glyphs_open_words h Tab none is = tt
only_glyphs_open_words h FieldEnd none is = opens-none h FieldEnd none is none
only_glyphs_open_words h WordEnd none is = opens-none h WordEnd none is refl
only_glyphs_open_words h (Gap n) none is = opens-none h (Gap n) none is none
only_glyphs_open_words h LineEnd none is = opens-none h LineEnd none is none
only_glyphs_open_words h Count none is = opens-none h Count none is none
only_glyphs_open_words h Break none is = opens-none h Break none is none
only_glyphs_open_words h Interrupted none is = opens-none h Interrupted none is none
only_glyphs_open_words h Resume none is = opens-none h Resume none is none
only_glyphs_open_words h (Set p) none is = opens-none h (Set p) none is none

-- a field's end leaves its word open
left-open : (h : History) (field : Option Field) → is_some field ≡ true
    → let t : Told = record { events = h; field = field } in has_open_word (field_ended t) ≡ true
left-open h None is = absurd (cc)
left-open h (Some f) is = has_open_word-field (motion f) f h

pub fields_leave_a_word_open : FieldsLeaveAWordOpen
fields_leave_a_word_open h is = left-open (told_plainly h).events (told_plainly h).field is

-- an event that finishes a line leaves none open: a word's end, or a line's end or a break with no word in front
finishing-word : (h : History) (field : Option Field) (x : Happening)
    → let t : Told = record { events = h; field = field } in
    option_map Places (if is_some field then None else finished_in (so_far t) WordEnd) ≡ Some x → has_open_word (so_far (told_behind WordEnd t)) ≡ false
finishing-word h None x places = refl
finishing-word h (Some f) x places = absurd (cc)

abbrev closed_in_force : PageHistory → PastEvent → Type 0
closed_in_force h x = has_open_word (plain (text_in (environments h).number (x ∷ h))) ≡ false

finishing-word_end : (h : PageHistory) (line : Finished) → happens h (Text WordEnd) ≡ Some (Places line) → closed_in_force h (Text WordEnd)
finishing-word_end h line places =
    ap (λ (T : History). has_open_word (plain T)) (text_in-force (Text WordEnd ∷ h))
    ∙ finishing-word (told_plainly (text_of h)).events (told_plainly (text_of h)).field (Places line) places

finishing : (rs : AllRegisters) (h : PageHistory) (e : PageEvent) (line : Finished) → next h e ≡ None → told rs e ≢ Text Tab
    → happens h (told rs e) ≡ Some (Places line) → closed_in_force h (told rs e)
finishing rs h (Text WordEnd) line none no_tab places = finishing-word_end h line places
finishing rs h (Text LineEnd) line none no_tab places =
    ap (λ (T : History). has_open_word (plain T)) (text_in-force (Text LineEnd ∷ h)) ∙ line_ends_leave_no_word_open h LineEnd tt none
finishing rs h (Text Break) line none no_tab places =
    ap (λ (T : History). has_open_word (plain T)) (text_in-force (Text Break ∷ h)) ∙ line_ends_leave_no_word_open h Break tt none
finishing rs h (Text Tab) line none no_tab places = absurd (no_tab refl)
finishing rs h (Text (Print g)) line none no_tab places = absurd (cc)
finishing rs h (Text FieldEnd) line none no_tab places = absurd (cc)
finishing rs h (Text (Gap n)) line none no_tab places = absurd (cc)
finishing rs h (Text Count) line none no_tab places = absurd (cc)
finishing rs h (Text Interrupted) line none no_tab places = absurd (cc)
finishing rs h (Text Resume) line none no_tab places = absurd (cc)
finishing rs h (Text (Set p)) line none no_tab places = absurd (cc)
finishing rs h (Page e) line none no_tab places = absurd (cc)
finishing rs h (Title which) line none no_tab places = absurd (cc)
finishing rs h (Interrupt untold) line none no_tab places = absurd (cc)
finishing rs h (Environment number) line none no_tab places = absurd (cc)
finishing rs h Back line none no_tab places = absurd (cc)
finishing rs h (SetsTrap trap) line none no_tab places = absurd (cc)

finishing-first : (rs : AllRegisters) (h : PageHistory) (e : PageEvent) (own : Option PageEvent) (line : Finished) → next h e ≡ own
    → ComesBefore h e own → told rs (first_of own e) ≢ Text Tab → happens h (told rs (first_of own e)) ≡ Some (Places line)
    → closed_in_force h (told rs (first_of own e))
finishing-first rs h e own line is (NothingComes none_begins) no_tab places = finishing rs h e line is no_tab places
finishing-first rs h e own line is (FieldEndComes ends none_begins fewer) no_tab places = absurd (cc)
finishing-first rs h e own line is (WordEndComes none_begins fewer) no_tab places = finishing-word_end h line places
finishing-first rs h e own line is (PageComes none_begun fewer) no_tab places = absurd (cc)

pub footers_begin_words : FootersBeginWords
footers_begin_words l s e rest name line n springs no_tab places =
    let number : EnvironmentNumber = (environments s.history).number in
    let before : History = text_in number (happening e s ∷ s.history) in
    let none : has_open_word (plain before) ≡ false =
    finishing-first s.registers s.history e (next s.history e) line refl (comes_before s.history e) no_tab places in
    own-after number (plain before) l n (step l s)
    (subst (λ (t : State). InWordsOfItsOwn before (text_in number t.history)) (sym (springing-step l s e rest name springs)) (own-same before none))

pub footers_behind_tabs : FootersBehindTabs
footers_behind_tabs l s e rest name line n springs is places =
    let number : EnvironmentNumber = (environments s.history).number in
    let T : History = text_of s.history in
    let before : History = tab_reached (told_plainly T) in
    let first : Adds before (Tab ∷ T) = tab-own T (Places line) (sym (ap (happens s.history) is) ∙ places) in
    let behind : Adds before (text_in number (Text Tab ∷ s.history)) = subst (Adds before) (sym (text_in-force (Text Tab ∷ s.history))) first in
    own-after number before l n (step l s)
    (subst (λ (t : State). Adds before (text_in number t.history)) (sym (springing-step l s e rest name springs))
    (subst (λ (x : PastEvent). Adds before (text_in number (x ∷ s.history))) (sym is) behind))
