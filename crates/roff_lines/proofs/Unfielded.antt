-- Histories behind which no field is open: what happens then is told as it is.
use Rattle.std.proofs.Common.{◌≡◌, ℕ, Bool, true, false, List, [], ◌∷◌, ◌++◌, map, reverse, Option, Some, None, refl, ap, ◌∙◌, if◌then◌else◌, ◌==◌, is_some}
use Rattle.page_model.specs.declared.glyph.Glyph.{Glyph}
use Rattle.page_model.specs.declared.glyph.Glyph.TheVariants.{Printed}
use Rattle.page_model.specs.declared.event.Event.{Event}
use Rattle.page_model.specs.declared.event.Event.TheVariants.{Print, Tab, FieldEnd, WordEnd, Gap, LineEnd, Count, Break, Interrupt, Resume, Set}
use Rattle.page_model.specs.Events.{History, stops_after}
use Rattle.page_model.specs.declared.stop.StopKind.TheVariants.{Left as AtLeft}
use Rattle.page_model.specs.TabStops.{Way, way_to_next}
use Rattle.page_model.specs.Places.{input_place}
use Rattle.page_model.specs.Fitting.{Word}
use Rattle.page_model.specs.Lines.{finished_in}
use Rattle.page_model.specs.Words.{has_open_word}
use Rattle.page_model.specs.Telling.{glyphs_told, words_told, bytes_told}
use Rattle.page_model.specs.Fields.{Field, Told, is_in_field, plain, so_far, tab_told, told_plainly, told_behind, unfielded}
use Rattle.page_model.specs.Behind as behind
use Rattle.roff_lines.proofs.Fields.{has_open_word-field}
use Rattle.roff_lines.proofs.Told.{finished_told, finished_told-is}

-- what is told with no field open
unfielded-so_far : (h : History) (field : Option Field) → is_some field ≡ false
    → (let t : Told = record { events = h; field = field } in t) ≡ unfielded (so_far (record { events = h; field = field }))
unfielded-so_far h None none = refl
unfielded-so_far h (Some f) none = cc

pub told-unfielded : (h : History) → is_in_field h ≡ false → told_plainly h ≡ unfielded (plain h)
told-unfielded h none = unfielded-so_far (told_plainly h).events (told_plainly h).field none

-- in a field a word is open, and a glyph stands on the line
open-in-field : (h : History) (field : Option Field) → has_open_word (so_far (record { events = h; field = field })) ≡ false
    → is_some field ≡ false
open-in-field h None none = refl
open-in-field h (Some f) none = let is = has_open_word-field 0 f h in cc

-- so where no word is open, no field is
pub is_in_field-closed : (h : History) → has_open_word (plain h) ≡ false → is_in_field h ≡ false
is_in_field-closed h closed = open-in-field (told_plainly h).events (told_plainly h).field closed

-- an event that is told as it is where no field is open: neither a tab nor a field's end
abbrev pub IsPlain : Event → Type 0
IsPlain Tab = ⊥
IsPlain FieldEnd = ⊥
IsPlain (_) = Unit {0}

told_behind-plain : (e : Event) (h : History) → IsPlain e → told_behind e (unfielded h) ≡ unfielded (e ∷ h)
told_behind-plain (Print g) h is = refl
told_behind-plain Tab h is = absurd is
told_behind-plain FieldEnd h is = absurd is
told_behind-plain WordEnd h is = refl
told_behind-plain (Gap n) h is = refl
told_behind-plain LineEnd h is = refl
told_behind-plain Count h is = refl
told_behind-plain Break h is = refl
told_behind-plain Interrupt h is = refl
told_behind-plain Resume h is = refl
told_behind-plain (Set p) h is = refl

-- so is a tab to no stop, or to one at which text begins
told-tab-way : (way : Option Way) (h : History) → ((w : Way) → way ≡ Some w → w.kind ≡ AtLeft) → tab_told way h ≡ unfielded (Tab ∷ h)
told-tab-way None h left = refl
told-tab-way (Some w) h left = rw (left w refl) refl

-- the line that an event finishes is that of the definition over plain histories
finished_told-unfielded : (e : Event) (p : History) → finished_told e (unfielded p) ≡ finished_in p e
finished_told-unfielded (Print g) p = refl
finished_told-unfielded Tab p = refl
finished_told-unfielded FieldEnd p = refl
finished_told-unfielded WordEnd p = refl
finished_told-unfielded (Gap n) p = refl
finished_told-unfielded LineEnd p = refl
finished_told-unfielded Count p = refl
finished_told-unfielded Break p = refl
finished_told-unfielded Interrupt p = refl
finished_told-unfielded Resume p = refl
finished_told-unfielded (Set c) p = refl

-- a history h that is told as the plain history p
module _ (h p : History) (is : told_plainly h ≡ unfielded p) where
  -- with one event more
  pub told-event_as : (e : Event) → IsPlain e → told_plainly (e ∷ h) ≡ unfielded (e ∷ p)
  told-event_as e plain_event = ap (told_behind e) is ∙ told_behind-plain e p plain_event

  -- with a tab, unless it opens a field
  pub told-tab_as : ((w : Way) → way_to_next (stops_after p) (input_place p) ≡ Some w → w.kind ≡ AtLeft)
      → told_plainly (Tab ∷ h) ≡ unfielded (Tab ∷ p)
  told-tab_as left = ap (told_behind Tab) is ∙ told-tab-way (way_to_next (stops_after p) (input_place p)) p left

  -- a field's end is none
  pub told-field_end_as : told_plainly (FieldEnd ∷ h) ≡ unfielded p
  told-field_end_as = ap (told_behind FieldEnd) is

  -- a line is finished, and a word is open, where the definitions over plain histories say so
  pub finished_as : (e : Event) → behind.finished h e ≡ finished_in p e
  finished_as e = finished_told-is e h ∙ ap (finished_told e) is ∙ finished_told-unfielded e p

-- these glyphs behind it
pub told-glyphs_as : (gs : List Glyph) (h p : History) → told_plainly h ≡ unfielded p
    → told_plainly (map Print gs ++ h) ≡ unfielded (map Print gs ++ p)
told-glyphs_as [] h p is = is
told-glyphs_as (g ∷ gs) h p is = told-event_as (map Print gs ++ h) (map Print gs ++ p) (told-glyphs_as gs h p is) (Print g) tt

pub told-glyphs_told_as : (gs : List Glyph) (h p : History) → told_plainly h ≡ unfielded p
    → told_plainly (glyphs_told gs h) ≡ unfielded (glyphs_told gs p)
told-glyphs_told_as gs h p is = told-glyphs_as (reverse gs) h p is

-- these words
pub told-words_as : (ws : List Word) (h p : History) → told_plainly h ≡ unfielded p
    → told_plainly (words_told ws h) ≡ unfielded (words_told ws p)
told-words_as [] h p is = is
told-words_as (w ∷ ws) h p is =
    let before = told-event_as (words_told ws h) (words_told ws p) (told-words_as ws h p is) (Gap w.gap) tt in
    told-event_as (glyphs_told w.glyphs (Gap w.gap ∷ words_told ws h)) (glyphs_told w.glyphs (Gap w.gap ∷ words_told ws p))
    (told-glyphs_told_as w.glyphs (Gap w.gap ∷ words_told ws h) (Gap w.gap ∷ words_told ws p) before) WordEnd tt

-- a byte
told-byte_as : (blank : Bool) (b : ℕ) (h p : History) → told_plainly h ≡ unfielded p
    → told_plainly (if blank then Gap 1 ∷ WordEnd ∷ h else Print (Printed b) ∷ h)
    ≡ unfielded (if blank then Gap 1 ∷ WordEnd ∷ p else Print (Printed b) ∷ p)
told-byte_as true b h p is = told-event_as (WordEnd ∷ h) (WordEnd ∷ p) (told-event_as h p is WordEnd tt) (Gap 1) tt
told-byte_as false b h p is = told-event_as h p is (Print (Printed b)) tt

-- these bytes
pub told-bytes_as : (bytes : List ℕ) (h p : History) → told_plainly h ≡ unfielded p
    → told_plainly (bytes_told bytes h) ≡ unfielded (bytes_told bytes p)
told-bytes_as [] h p is = is
told-bytes_as (b ∷ bytes) h p is =
    told-bytes_as bytes (bytes_told (b ∷ []) h) (bytes_told (b ∷ []) p) (told-byte_as (b == 32) b h p is)
