-- The history behind what comes before an event: the ends of a field and of a word, and the first page's beginning.
use Rattle.std.proofs.Common.{◌∙◌, ◌≡◌, ℕ, zero, suc, Bool, true, false, not, ◌&&◌, ◌∷◌, Option, Some, None, ap, arith, refl, sym, is_some}
use Rattle.page_model.specs.Behind.{has_open_word}
use Rattle.page_model.specs.Events.{History}
use Rattle.page_model.specs.Fields.{Field, Told, is_in_field, so_far, told_plainly, told_behind}
use Rattle.page_model.specs.Words.{has_open_word as has_word_in}
use Rattle.page_model.specs.declared.event.Event.TheVariants.{FieldEnd, WordEnd}
use Rattle.page_model.specs.declared.layout_event.LayoutEvent.TheVariants.{Begin}
use Rattle.run_events.specs.Formatter.Performing.{behind_next, behind_word}
use Rattle.run_model.specs.Environments.{PageHistory, text_of}
use Rattle.run_model.specs.Output.{layout_of}
use Rattle.run_model.specs.Springs.{begins, ends_field, own_word_end, word_end_of}
use Rattle.run_model.specs.PageEvents.{PageEvent}
use Rattle.run_model.specs.Registers.{AllRegisters}
use Rattle.run_model.specs.Titles.{told}
use Rattle.run_model.specs.declared.event.PageEvent.TheVariants.{Text, Page}
use Rattle.run_events.proofs.FirstPages.{begins-taken, begun-takes, begun-text, begun_by, begun_for, field_end-same, next-alone, next-field, next-own, takes-begun, word_end-same}

-- the history behind what comes before an event is the same where nothing does
module _ (rs : AllRegisters) (e : PageEvent) where
  behind-none : (n : ℕ) (h : PageHistory) → word_end_of h e ≡ None → ends_field h e ≡ false → begins h e ≡ false → behind_next rs n e h ≡ h
  behind-none zero h none free is = refl
  behind-none (suc n) h none free is =
      ap (λ (o : Option PageEvent). elim o [ None ↦ h | Some first ↦ behind_next rs n e (told rs first ∷ h) ]) (next-alone h e false none free is)

  -- or that of the page's beginning, where no word or field ends
  behind-begun : (n : ℕ) (h : PageHistory) (b : Bool) → word_end_of h e ≡ None → ends_field h e ≡ false → begins h e ≡ b → behind_next rs (suc n) e h ≡ begun_by b h
  behind-begun n h false none free is = behind-none (suc n) h none free is
  behind-begun n h true none free is =
      ap (λ (o : Option PageEvent). elim o [ None ↦ h | Some first ↦ behind_next rs n e (told rs first ∷ h) ]) (next-alone h e true none free is)
      ∙ behind-none n (Page Begin ∷ h) (word_end-same e (Page Begin ∷ h) h refl ∙ none) (field_end-same e (Page Begin ∷ h) h refl ∙ free)
      (begins-taken (Page Begin ∷ h) e (begun-takes h))

  pub behind-alone : (n : ℕ) (h : PageHistory) → word_end_of h e ≡ None → ends_field h e ≡ false → behind_next rs (suc n) e h ≡ begun_for e h
  behind-alone n h none free = behind-begun n h (begins h e) none free refl

  -- and where a field does, it comes first
  pub behind-field : (n : ℕ) (h : PageHistory) → ends_field h e ≡ true → behind_next rs (suc n) e h ≡ behind_next rs n e (Text FieldEnd ∷ h)
  behind-field n h ends =
      ap (λ (o : Option PageEvent). elim o [ None ↦ h | Some first ↦ behind_next rs n e (told rs first ∷ h) ]) (next-field h e ends)

-- a word end leaves a field open, and opens none
in_field-told : (h : History) (field : Option Field) → is_some (told_behind WordEnd (record { events = h; field = field })).field ≡ is_some field
in_field-told h None = refl
in_field-told h (Some f) = refl

pub in_field-word : (h : History) → is_in_field (WordEnd ∷ h) ≡ is_in_field h
in_field-word h = in_field-told (told_plainly h).events (told_plainly h).field

pub field_end-word : (e : PageEvent) (g h : PageHistory) → text_of g ≡ WordEnd ∷ text_of h → ends_field g e ≡ ends_field h e
field_end-word e g h same = field_end-same e g h (ap is_in_field same ∙ in_field-word (text_of h))

-- and behind it no word is open
closed-told : (h : History) (field : Option Field) → let t : Told = told_behind WordEnd (record { events = h; field = field }) in
    (not (is_some t.field) && has_word_in (so_far t)) ≡ false
closed-told h None = refl
closed-told h (Some f) = refl

pub closed-word : (h : History) → has_open_word (WordEnd ∷ h) ≡ false
closed-word h = closed-told (told_plainly h).events (told_plainly h).field

-- the page's beginning is none of the text
text-begun : (b : Bool) (h : PageHistory) → text_of (begun_by b h) ≡ text_of h
text-begun false h = refl
text-begun true h = refl

-- the history behind the end of an open word, if one is open, with the page's beginning, if that comes before it
abbrev word_behind : Bool → PageHistory → PageHistory
word_behind false h = h
word_behind true h = Text WordEnd ∷ begun_for (Text WordEnd) h

-- what comes before an event that has a word end of its own, where no field ends: that, and then the page's beginning, where the event
-- itself needs it
module _ (rs : AllRegisters) (e : PageEvent) (owns : (g : PageHistory) → word_end_of g e ≡ own_word_end (has_open_word (text_of g))) (n : ℕ) (h : PageHistory) (free : ends_field h e ≡ false) where
  -- behind a word end that the page begins in front of
  own-begun : has_open_word (text_of h) ≡ true → begins h (Text WordEnd) ≡ true
      → behind_next rs (suc (suc n)) e h ≡ begun_for e (Text WordEnd ∷ Page Begin ∷ h)
  own-begun some is =
      let there : PageHistory = Text WordEnd ∷ Page Begin ∷ h in
      let own : word_end_of h e ≡ Some (Text WordEnd) = owns h ∙ ap own_word_end some in
      let again : word_end_of (Page Begin ∷ h) e ≡ Some (Text WordEnd) = owns (Page Begin ∷ h) ∙ ap own_word_end some in
      let none : begins there e ≡ false = begins-taken there e (takes-begun (layout_of there) (begun-text (Page Begin ∷ h) WordEnd (omega arith))) in
      ap (λ (o : Option PageEvent). elim o [ None ↦ h | Some first ↦ behind_next rs (suc n) e (told rs first ∷ h) ]) (next-own h e (Text WordEnd) true own is)
      ∙ ap (λ (o : Option PageEvent). elim o [ None ↦ Page Begin ∷ h | Some first ↦ behind_next rs n e (told rs first ∷ Page Begin ∷ h) ])
      (next-own (Page Begin ∷ h) e (Text WordEnd) false again (begins-taken (Page Begin ∷ h) (Text WordEnd) (begun-takes h)))
      ∙ behind-none rs e n there (owns there ∙ ap own_word_end (closed-word (text_of h))) (field_end-word e there h refl ∙ free) none
      ∙ ap (λ (b : Bool). begun_by b there) (sym none)

  -- or doesn't
  own-unbegun : has_open_word (text_of h) ≡ true → begins h (Text WordEnd) ≡ false → behind_next rs (suc (suc n)) e h ≡ begun_for e (Text WordEnd ∷ h)
  own-unbegun some is =
      let there : PageHistory = Text WordEnd ∷ h in
      let own : word_end_of h e ≡ Some (Text WordEnd) = owns h ∙ ap own_word_end some in
      ap (λ (o : Option PageEvent). elim o [ None ↦ h | Some first ↦ behind_next rs (suc n) e (told rs first ∷ h) ]) (next-own h e (Text WordEnd) false own is)
      ∙ behind-alone rs e n there (owns there ∙ ap own_word_end (closed-word (text_of h))) (field_end-word e there h refl ∙ free)

  own-some : (begun : Bool) → has_open_word (text_of h) ≡ true → begins h (Text WordEnd) ≡ begun
      → behind_next rs (suc (suc n)) e h ≡ begun_for e (Text WordEnd ∷ begun_by begun h)
  own-some true some is = own-begun some is
  own-some false some is = own-unbegun some is

  own-either : (b : Bool) → has_open_word (text_of h) ≡ b → behind_next rs (suc (suc n)) e h ≡ begun_for e (word_behind b h)
  own-either false closed = behind-alone rs e (suc n) h (owns h ∙ ap own_word_end closed) free
  own-either true some = own-some (begins h (Text WordEnd)) some refl

-- that is the history behind the end of the open word
word_behind-is : (rs : AllRegisters) (b : Bool) (h : PageHistory) → behind_word rs b h ≡ word_behind b h
word_behind-is rs false h = refl
word_behind-is rs true h = ap (λ (g : PageHistory). Text WordEnd ∷ g) (behind-alone rs (Text WordEnd) 2 h refl refl)

-- so it is the same behind that as in front of it
module _ (rs : AllRegisters) (e : PageEvent) (owns : (g : PageHistory) → word_end_of g e ≡ own_word_end (has_open_word (text_of g))) (h : PageHistory) (free : ends_field h e ≡ false) where
  -- behind the end of the open word none is open
  pub word_ended : (b : Bool) → has_open_word (text_of h) ≡ b → word_end_of (behind_word rs b h) e ≡ None
  word_ended false closed = owns h ∙ ap own_word_end closed
  word_ended true some =
      ap (λ (g : PageHistory). word_end_of g e) (word_behind-is rs true h) ∙ owns (word_behind true h)
      ∙ ap own_word_end (closed-word (text_of (begun_for (Text WordEnd) h)))

  -- and no field ends
  pub free-word : (b : Bool) → ends_field (behind_word rs b h) e ≡ false
  free-word false = free
  free-word true = ap (λ (g : PageHistory). ends_field g e) (word_behind-is rs true h)
      ∙ field_end-word e (word_behind true h) h (ap (λ (text : History). WordEnd ∷ text) (text-begun (begins h (Text WordEnd)) h)) ∙ free

  pub behind-own : (n : ℕ) → behind_next rs 3 e (behind_word rs (has_open_word (text_of h)) h) ≡ behind_next rs (suc (suc n)) e h
  behind-own n =
      behind-alone rs e 2 (behind_word rs (has_open_word (text_of h)) h) (word_ended (has_open_word (text_of h)) refl) (free-word (has_open_word (text_of h)))
      ∙ ap (begun_for e) (word_behind-is rs (has_open_word (text_of h)) h)
      ∙ sym (own-either rs e owns n h free (has_open_word (text_of h)) refl)
