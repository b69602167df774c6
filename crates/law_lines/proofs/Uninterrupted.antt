-- An interruption of a line of the input changes nothing, nor does it in a field.
use Rattle.std.proofs.Common.{◌≡◌, ℕ, Bool, true, false, List, [], ◌∷◌, ◌++◌, map, reverse, Option, Some, None, refl, sym, ap, ap₂, subst, ◌∙◌, append_assoc, if◌then◌else◌, ◌==◌}
use Rattle.std.proofs.lemmas.List.{reverse-append, map-append}
use Rattle.page_model.specs.declared.glyph.Glyph.{Glyph}
use Rattle.page_model.specs.declared.glyph.Glyph.TheVariants.{Blanks}
use Rattle.page_model.specs.declared.stop.StopKind.{StopKind}
use Rattle.page_model.specs.declared.stop.StopKind.TheVariants.{Left as AtLeft, Right as AtRight, Centred as InMiddle}
use Rattle.page_model.specs.declared.event.Event.TheVariants.{Print, Tab, FieldEnd, WordEnd, Gap, LineEnd, Count, Break, Interrupt, Resume, Set}
use Rattle.page_model.specs.Events.{History, stops_after}
use Rattle.page_model.specs.TabStops.{Way, way_to_next}
use Rattle.page_model.specs.Places.{input_place}
use Rattle.page_model.specs.Telling.{glyphs_told}
use Rattle.page_model.specs.Fields.{Field, Told, field_told, gap_ended, motion, plain, so_far, tab_told, told_plainly, told_behind, without_gap}
use Rattle.law_lines.specs.Interruptions.{uninterrupted, LeaveTheSame}
use Rattle.law_lines.proofs.Interruptions.{Alike, Alike-uninterrupted, word-same}
use Rattle.roff_lines.proofs.Told.{told_as, finished_lines-plain, stops_after-plain}

-- what is told, without interruptions
abbrev told_uninterrupted : Told → Told
told_uninterrupted t = record { events = uninterrupted t.events; field = t.field }

-- glyphs are none
uninterrupted-glyphs : (gs : List Glyph) (h : History) → uninterrupted (map Print gs ++ h) ≡ map Print gs ++ uninterrupted h
uninterrupted-glyphs [] h = refl
uninterrupted-glyphs (g ∷ gs) h = ap (λ i. Print g ∷ i) (uninterrupted-glyphs gs h)

-- so a field that is told has none
uninterrupted-field : (m : ℕ) (f : Field) (h : History) → uninterrupted (field_told m f h) ≡ field_told m f (uninterrupted h)
uninterrupted-field m f h = ap (λ i. Gap f.gap ∷ i) (uninterrupted-glyphs f.glyphs (Print (Blanks m) ∷ h))

gap_ended-by : (none : Bool) (n : ℕ) (h : History)
    → uninterrupted (if none then h else Gap n ∷ WordEnd ∷ h) ≡ (if none then uninterrupted h else Gap n ∷ WordEnd ∷ uninterrupted h)
gap_ended-by true n h = refl
gap_ended-by false n h = refl

-- in front of a tab that ends a field
tab_reached-uninterrupted : (f : Field) (h : History)
    → uninterrupted (gap_ended f (field_told (motion f) (without_gap f) h)) ≡ gap_ended f (field_told (motion f) (without_gap f) (uninterrupted h))
tab_reached-uninterrupted f h =
    gap_ended-by (f.gap == 0) f.gap (field_told (motion f) (without_gap f) h)
    ∙ ap (gap_ended f) (uninterrupted-field (motion f) (without_gap f) h)

-- all that happened so far
so_far-uninterrupted : (h : History) (field : Option Field)
    → uninterrupted (so_far (told_as h field)) ≡ so_far (told_as (uninterrupted h) field)
so_far-uninterrupted h None = refl
so_far-uninterrupted h (Some f) = uninterrupted-field 0 f h

-- the way to the next stop is the same
way-uninterrupted : (h : History)
    → way_to_next (stops_after h) (input_place h) ≡ way_to_next (stops_after (uninterrupted h)) (input_place (uninterrupted h))
way-uninterrupted h = let same = Alike-uninterrupted h in ap₂ way_to_next same.stops same.place

tab-by_kind : (h : History) (columns : ℕ) (kind : StopKind)
    → told_uninterrupted (tab_told (Some (record { columns = columns; kind = kind })) h)
    ≡ tab_told (Some (record { columns = columns; kind = kind })) (uninterrupted h)
tab-by_kind h columns AtLeft = refl
tab-by_kind h columns AtRight = refl
tab-by_kind h columns InMiddle = refl

tab-by_way : (way : Option Way) (h : History) → told_uninterrupted (tab_told way h) ≡ tab_told way (uninterrupted h)
tab-by_way None h = refl
tab-by_way (Some way) h = tab-by_kind h way.columns way.kind

-- so a tab does the same
tab-uninterrupted : (h : History) → told_uninterrupted (tab_told (way_to_next (stops_after h) (input_place h)) h)
    ≡ tab_told (way_to_next (stops_after (uninterrupted h)) (input_place (uninterrupted h))) (uninterrupted h)
tab-uninterrupted h =
    tab-by_way (way_to_next (stops_after h) (input_place h)) h
    ∙ ap (λ way. tab_told way (uninterrupted h)) (way-uninterrupted h)

-- behind a tab
behind-tab : (h : History) (field : Option Field)
    → told_uninterrupted (told_behind Tab (told_as h field)) ≡ told_behind Tab (told_as (uninterrupted h) field)
behind-tab h None = tab-uninterrupted h
behind-tab h (Some f) =
    let Behind : History → Told = λ i. tab_told (way_to_next (stops_after i) (input_place i)) i in
    tab-uninterrupted (gap_ended f (field_told (motion f) (without_gap f) h)) ∙ ap Behind (tab_reached-uninterrupted f h)

-- behind a glyph, a gap, a word end, a field's end, a line end and a break
behind-print : (g : Glyph) (h : History) (field : Option Field)
    → told_uninterrupted (told_behind (Print g) (told_as h field)) ≡ told_behind (Print g) (told_as (uninterrupted h) field)
behind-print g h None = refl
behind-print g h (Some f) = refl

behind-gap : (n : ℕ) (h : History) (field : Option Field)
    → told_uninterrupted (told_behind (Gap n) (told_as h field)) ≡ told_behind (Gap n) (told_as (uninterrupted h) field)
behind-gap n h None = refl
behind-gap n h (Some f) = refl

behind-word_end : (h : History) (field : Option Field)
    → told_uninterrupted (told_behind WordEnd (told_as h field)) ≡ told_behind WordEnd (told_as (uninterrupted h) field)
behind-word_end h None = refl
behind-word_end h (Some f) = refl

-- with no field open
abbrev ended : History → Told
ended h = record { events = h; field = None }

behind-field_end : (h : History) (field : Option Field)
    → told_uninterrupted (told_behind FieldEnd (told_as h field)) ≡ told_behind FieldEnd (told_as (uninterrupted h) field)
behind-field_end h None = refl
behind-field_end h (Some f) = ap ended (uninterrupted-field (motion f) f h)

behind-line_end : (h : History) (field : Option Field)
    → told_uninterrupted (told_behind LineEnd (told_as h field)) ≡ told_behind LineEnd (told_as (uninterrupted h) field)
behind-line_end h field = ap (λ i. ended (LineEnd ∷ i)) (so_far-uninterrupted h field)

behind-break : (h : History) (field : Option Field)
    → told_uninterrupted (told_behind Break (told_as h field)) ≡ told_behind Break (told_as (uninterrupted h) field)
behind-break h field = ap (λ i. ended (Break ∷ i)) (so_far-uninterrupted h field)

-- a history without its interruptions is told as it is with them, without theirs
told-uninterrupted : (h : History) → told_plainly (uninterrupted h) ≡ told_uninterrupted (told_plainly h)
told-uninterrupted [] = refl
told-uninterrupted (Print g ∷ h) = ap (told_behind (Print g)) (told-uninterrupted h) ∙ sym (behind-print g (told_plainly h).events (told_plainly h).field)
told-uninterrupted (Tab ∷ h) = ap (told_behind Tab) (told-uninterrupted h) ∙ sym (behind-tab (told_plainly h).events (told_plainly h).field)
told-uninterrupted (FieldEnd ∷ h) = ap (told_behind FieldEnd) (told-uninterrupted h) ∙ sym (behind-field_end (told_plainly h).events (told_plainly h).field)
told-uninterrupted (WordEnd ∷ h) = ap (told_behind WordEnd) (told-uninterrupted h) ∙ sym (behind-word_end (told_plainly h).events (told_plainly h).field)
told-uninterrupted (Gap n ∷ h) = ap (told_behind (Gap n)) (told-uninterrupted h) ∙ sym (behind-gap n (told_plainly h).events (told_plainly h).field)
told-uninterrupted (LineEnd ∷ h) = ap (told_behind LineEnd) (told-uninterrupted h) ∙ sym (behind-line_end (told_plainly h).events (told_plainly h).field)
told-uninterrupted (Count ∷ h) = ap (told_behind Count) (told-uninterrupted h)
told-uninterrupted (Break ∷ h) = ap (told_behind Break) (told-uninterrupted h) ∙ sym (behind-break (told_plainly h).events (told_plainly h).field)
told-uninterrupted (Interrupt ∷ h) = told-uninterrupted h
told-uninterrupted (Resume ∷ h) = told-uninterrupted h
told-uninterrupted (Set p ∷ h) = ap (told_behind (Set p)) (told-uninterrupted h)

-- so all that happened so far
plain-uninterrupted : (h : History) → plain (uninterrupted h) ≡ uninterrupted (plain h)
plain-uninterrupted h = ap so_far (told-uninterrupted h) ∙ sym (so_far-uninterrupted (told_plainly h).events (told_plainly h).field)

-- so a history leaves the same without its interruptions
pub LeaveTheSame-uninterrupted : (h : History) → LeaveTheSame h (uninterrupted h)
LeaveTheSame-uninterrupted h =
    let i = uninterrupted h in
    let same : Alike (plain h) (plain i) = subst (Alike (plain h)) (sym (plain-uninterrupted h)) (Alike-uninterrupted (plain h)) in
    record {
      field = sym (ap (λ t. t.field) (told-uninterrupted h));
      word = word-same (plain h) (plain i) same;
      on_line = same.on_line;
      place = same.place;
      paragraph = same.paragraph;
      stops = stops_after-plain h ∙ same.stops ∙ sym (stops_after-plain i);
      lines = finished_lines-plain h ∙ same.lines ∙ sym (finished_lines-plain i);
    }

-- two histories that leave the same as a third leave the same
LeaveTheSame-both : (h i j : History) → LeaveTheSame h j → LeaveTheSame i j → LeaveTheSame h i
LeaveTheSame-both h i j one other = record {
  field = one.field ∙ sym other.field;
  word = one.word ∙ sym other.word;
  on_line = one.on_line ∙ sym other.on_line;
  place = one.place ∙ sym other.place;
  paragraph = one.paragraph ∙ sym other.paragraph;
  stops = one.stops ∙ sym other.stops;
  lines = one.lines ∙ sym other.lines;
}

-- glyphs that are told behind others are told with them
glyphs_told-append : (front back : List Glyph) (h : History)
    → glyphs_told back (glyphs_told front h) ≡ glyphs_told (front ++ back) h
glyphs_told-append front back h =
    let last = map Print (reverse back) in
    let first = map Print (reverse front) in
    rw (reverse-append front back, map-append Print (reverse back) (reverse front), append_assoc last first h) refl

-- so a line that was interrupted goes on in the same word
pub LeaveTheSame-interrupted : (front back : List Glyph) (h : History)
    → LeaveTheSame (glyphs_told back (Resume ∷ Interrupt ∷ glyphs_told front h)) (glyphs_told (front ++ back) h)
LeaveTheSame-interrupted front back h =
    let broken = glyphs_told back (Resume ∷ Interrupt ∷ glyphs_told front h) in
    let whole = glyphs_told (front ++ back) h in
    let last = uninterrupted-glyphs (reverse back) (Resume ∷ Interrupt ∷ glyphs_told front h) in
    let first = uninterrupted-glyphs (reverse front) h in
    let same : uninterrupted broken ≡ uninterrupted whole =
    last ∙ ap (glyphs_told back) first ∙ glyphs_told-append front back (uninterrupted h)
    ∙ sym (uninterrupted-glyphs (reverse (front ++ back)) h) in
    LeaveTheSame-both broken whole (uninterrupted whole)
    (subst (LeaveTheSame broken) same (LeaveTheSame-uninterrupted broken)) (LeaveTheSame-uninterrupted whole)
