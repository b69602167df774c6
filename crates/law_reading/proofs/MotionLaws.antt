-- Motions and tabs: how much longer the pending line is behind them.
use Rattle.std.proofs.Common.{◌≡◌, ℕ, ◌+◌, Bool, true, false, List, [], ◌∷◌, length, Option, Some, None, refl, ap, sym, ◌∙◌, arith, is_some, not, option_map, ◌&&◌, ◌||◌, replicate, reverse, if◌then◌else◌, append-nil, length-append}
use Rattle.std.specs.List.{flat_map}
use Rattle.std.proofs.lemmas.Grind.{flat_map-append}
use Rattle.std.proofs.lemmas.List.{length-replicate, reverse-append}
use Rattle.roff_num.specs.declared.limit.Limit.TheVariants.{Line}
use Rattle.roff_num.specs.declared.limits.Limits.{Limits}
use Rattle.page_model.specs.Behind.{finished, finished_by_tab, length_reached, pending_length}
use Rattle.page_model.specs.Events.{History, stops_after}
use Rattle.page_model.specs.Fields.{Field, Told, field_ended, is_in_field, plain, so_far, tab_told, told_plainly, told_behind, with_glyph}
use Rattle.page_model.specs.Glyphs.{glyph_text, glyph_blank}
use Rattle.page_model.specs.Happenings.{Places}
use Rattle.page_model.specs.Lines.{Finished, pending_length as length_in}
use Rattle.page_model.specs.Places.{input_place, tab_width}
use Rattle.page_model.specs.TabStops.{Way, way_to_next}
use Rattle.page_model.specs.Words.{begun_gap, blanks, has_open_word, is_empty, last_word_glyphs, open_glyphs, words}
use Rattle.page_model.specs.declared.event.Event.TheVariants.{FieldEnd, Print, Tab}
use Rattle.page_model.specs.declared.glyph.Glyph.{Glyph}
use Rattle.page_model.specs.declared.glyph.Glyph.TheVariants.{Blanks}
use Rattle.page_model.specs.declared.stop.StopKind.{StopKind}
use Rattle.page_model.specs.declared.stop.StopKind.TheVariants.{Left as AtLeft, Right as AtRight, Centred as InMiddle}
use Rattle.roff_lines.proofs.Fields.{length-field_glyph, pending_length-field}
use Rattle.roff_lines.proofs.Unfielded.{told-unfielded}
use Rattle.run_model.specs.Output.{PageHistory, text_of}
use Rattle.run_model.specs.Run.Counts.{first_passed, refusal, written_counted}
use Rattle.run_model.specs.declared.event.PageEvent.TheVariants.{Text}
use Rattle.law_reading.specs.WidthLaws.{FieldsBeginInTheLine, FieldsBeginWithoutColumns, MotionsAreAsLongAsTheirColumns, MotionsCountInTheLine, TabsAreAsLongAsTheirColumns, TabsCountInTheLine, gap_begun, word_gap}

-- a gap counts once a word is open behind it
gap-counts : (is_open is_first : Bool) (gap begun : ℕ)
    → (if not is_first then (if is_open then gap else begun) else 0)
    ≡ (if is_open && not is_first then gap else 0) + (if is_open || is_first then 0 else begun)
gap-counts true true gap begun = refl
gap-counts true false gap begun = omega arith
gap-counts false true gap begun = refl
gap-counts false false gap begun = omega arith

-- blanks behind other glyphs
length-Blanks : (n : ℕ) (glyphs : List Glyph)
    → length (flat_map glyph_text (reverse (Blanks n ∷ glyphs))) ≡ length (flat_map glyph_text (reverse glyphs)) + n
length-Blanks n glyphs =
    let one : flat_map glyph_text (Blanks n ∷ []) ≡ replicate n glyph_blank = append-nil (replicate n glyph_blank) in
    ap (λ (all : List Glyph). length (flat_map glyph_text all)) (reverse-append (Blanks n ∷ []) glyphs)
    ∙ ap length (flat_map-append glyph_text (reverse glyphs) (Blanks n ∷ []))
    ∙ length-append (flat_map glyph_text (reverse glyphs)) (flat_map glyph_text (Blanks n ∷ []))
    ∙ ap (λ (k : ℕ). length (flat_map glyph_text (reverse glyphs)) + k) (ap length one ∙ length-replicate n glyph_blank)

-- what is told without fields is so much longer
plain-motion : (h : History) (n : ℕ) → length_in (Print (Blanks n) ∷ h) ≡ length_in h + word_gap h + n
plain-motion h n =
    omega (arith, gap-counts (has_open_word h) (is_empty (words h)) (blanks h) (begun_gap (blanks h) (last_word_glyphs h)), length-Blanks n (open_glyphs h))

-- the gap before a glyph, by what is told
abbrev gap_told : Told → ℕ
gap_told t = elim t.field [ None ↦ word_gap (so_far t) | Some f ↦ f.gap ]

-- in a field its text is longer by the gap at its end and by the motion
motion-told : (h : History) (field : Option Field) (n : ℕ)
    → let t : Told = record { events = h; field = field } in
    length_in (so_far (told_behind (Print (Blanks n)) t)) ≡ length_in (so_far t) + gap_told t + n
motion-told h None n = plain-motion h n
motion-told h (Some f) n =
    let g : Field = with_glyph (Blanks n) f in
    let blank : length (glyph_text (Blanks n)) ≡ n = length-replicate n glyph_blank in
    omega (arith, pending_length-field 0 g h, pending_length-field 0 f h, length-field_glyph (Blanks n) f, blank)

pub motions_are_as_long_as_their_columns : MotionsAreAsLongAsTheirColumns
motions_are_as_long_as_their_columns h n = motion-told (told_plainly h).events (told_plainly h).field n

pub motions_count_in_the_line : MotionsCountInTheLine
motions_count_in_the_line l h n =
    ap (λ (count : ℕ). first_passed l ((Line, count) ∷ [])) (motions_are_as_long_as_their_columns (text_of h) n)

-- a tab that opens no field is told as it is
tab-closed : (columns : ℕ) (kind : StopKind) (h : History)
    → let t : Told = tab_told (Some (record { columns = columns; kind = kind })) h in is_some t.field ≡ false → so_far t ≡ Tab ∷ h
tab-closed columns AtLeft h closed = refl
tab-closed columns AtRight h closed = absurd (cc)
tab-closed columns InMiddle h closed = absurd (cc)

way-closed : (way : Option Way) (h : History) → is_some (tab_told way h).field ≡ false → so_far (tab_told way h) ≡ Tab ∷ h
way-closed None h closed = refl
way-closed (Some way) h closed = tab-closed way.columns way.kind h closed

-- and one that opens a field is as long as a motion of no columns
tab-opened : (columns : ℕ) (kind : StopKind) (h : History)
    → let t : Told = tab_told (Some (record { columns = columns; kind = kind })) h in
    is_some t.field ≡ true → length_in (so_far t) ≡ length_in (Print (Blanks 0) ∷ h)
tab-opened columns AtLeft h is_open = absurd (cc)
tab-opened columns AtRight h is_open = refl
tab-opened columns InMiddle h is_open = refl

way-opened : (way : Option Way) (h : History) → is_some (tab_told way h).field ≡ true
    → length_in (so_far (tab_told way h)) ≡ length_in (Print (Blanks 0) ∷ h)
way-opened None h is_open = absurd (cc)
way-opened (Some way) h is_open = tab-opened way.columns way.kind h is_open

-- a tab where no field is open
module _ (h : History) (none : is_in_field h ≡ false) where
  abbrev way_here : Option Way
  way_here = way_to_next (stops_after (plain h)) (input_place (plain h))

  told-tab_here : told_plainly (Tab ∷ h) ≡ tab_told way_here (plain h)
  told-tab_here = ap (told_behind Tab) (told-unfielded h none)

  field-tab_here : is_in_field (Tab ∷ h) ≡ is_some (tab_told way_here (plain h)).field
  field-tab_here = ap (λ (t : Told). is_some t.field) told-tab_here

  gap-here : gap_begun h ≡ word_gap (plain h)
  gap-here = ap gap_told (told-unfielded h none)

  length-tab_closed : is_in_field (Tab ∷ h) ≡ false → pending_length (Tab ∷ h) ≡ pending_length h + gap_begun h + tab_width (plain h)
  length-tab_closed closed =
      let same : pending_length (Tab ∷ h) ≡ length_in (Tab ∷ plain h) =
      ap (λ (t : Told). length_in (so_far t)) told-tab_here
      ∙ ap length_in (way-closed way_here (plain h) (sym field-tab_here ∙ closed)) in
      let motion : length_in (Tab ∷ plain h) ≡ length_in (plain h) + word_gap (plain h) + tab_width (plain h) =
      plain-motion (plain h) (tab_width (plain h)) in
      same ∙ motion ∙ ap (λ (gap : ℕ). pending_length h + gap + tab_width (plain h)) (sym gap-here)

  length-tab_opened : is_in_field (Tab ∷ h) ≡ true → pending_length (Tab ∷ h) ≡ pending_length h + gap_begun h + 0
  length-tab_opened is_open =
      let same : pending_length (Tab ∷ h) ≡ length_in (Print (Blanks 0) ∷ plain h) =
      ap (λ (t : Told). length_in (so_far t)) told-tab_here
      ∙ way-opened way_here (plain h) (sym field-tab_here ∙ is_open) in
      same ∙ plain-motion (plain h) 0 ∙ ap (λ (gap : ℕ). pending_length h + gap + 0) (sym gap-here)

  -- there is no field to end, and no line to finish
  length-field_end : pending_length (FieldEnd ∷ h) ≡ pending_length h
  length-field_end = ap (λ (t : Told). length_in (field_ended t)) (told-unfielded h none)

  finished-tab : finished h Tab ≡ None
  finished-tab = ap finished_by_tab (told-unfielded h none)

  -- so it is refused as a motion of so many columns is
  reached-tab : (n : ℕ) → pending_length (Tab ∷ h) ≡ pending_length h + gap_begun h + n → length_reached Tab h ≡ length_reached (Print (Blanks n)) h
  reached-tab n is =
      let motion : pending_length (Print (Blanks n) ∷ h) ≡ pending_length h + gap_begun h + n = motions_are_as_long_as_their_columns h n in
      omega (arith, is, motion, length-field_end)

refused-tab : (l : Limits) (h : PageHistory) (n : ℕ) → is_in_field (text_of h) ≡ false
    → pending_length (Tab ∷ text_of h) ≡ pending_length (text_of h) + gap_begun (text_of h) + n
    → refusal l h (Text Tab) ≡ refusal l h (Text (Print (Blanks n)))
refused-tab l h n none is =
    let T : History = text_of h in
    ap (λ (o : Option Finished). first_passed l ((Line, length_reached Tab T) ∷ written_counted h (option_map Places o))) (finished-tab T none)
    ∙ ap (λ (count : ℕ). first_passed l ((Line, count) ∷ [])) (reached-tab T none n is)

pub tabs_are_as_long_as_their_columns : TabsAreAsLongAsTheirColumns
tabs_are_as_long_as_their_columns h none closed = length-tab_closed h none closed

pub tabs_count_in_the_line : TabsCountInTheLine
tabs_count_in_the_line l h none closed =
    refused-tab l h (tab_width (plain (text_of h))) none (length-tab_closed (text_of h) none closed)

pub fields_begin_without_columns : FieldsBeginWithoutColumns
fields_begin_without_columns h none is_open = omega (arith, length-tab_opened h none is_open)

pub fields_begin_in_the_line : FieldsBeginInTheLine
fields_begin_in_the_line l h none is_open = refused-tab l h 0 none (length-tab_opened (text_of h) none is_open)
