-- The laws of sentences, centred lines, indents for one line and spacing.
use Rattle.std.proofs.Common.{◌≡◌, ℕ, ◌-◌, Bool, true, false, List, [], ◌∷◌, length, reverse, Option, Some, None, refl, sym, ap, subst, ◌∙◌, arith, All, IfSome, ◌&&◌, ◌||◌, not, if◌then◌else◌, ◌==◌}
use Rattle.std.proofs.lemmas.List.Elements.{All-head, All-tail}
use Rattle.roff_lines.proofs.Fields.{ends_sentence-field, settings_after-field}
use Rattle.roff_lines.proofs.Told.{settings_after-plain, settings_after-told}
use Rattle.roff_lines.proofs.Unfielded.{is_in_field-closed, told-glyphs_told_as, told-unfielded}
use Rattle.roff_lines.proofs.Telling.{has_open_word-word, open_word-word, told_word, words-told, words-word}
use Rattle.page_model.specs.Behind.{finished_by_tab}
use Rattle.page_model.specs.Events.{History, settings_after}
use Rattle.page_model.specs.Fields.{Field, Told, field_told, is_in_field, motion, plain, so_far, told_plainly, told_behind, unfielded, with_glyph, without_gap}
use Rattle.page_model.specs.declared.event.Event.{Event}
use Rattle.page_model.specs.declared.event.Event.TheVariants.{FieldEnd, Gap, LineEnd, Count, Break, Interrupt, Print, Resume, Set, Tab, WordEnd}
use Rattle.page_model.specs.Fitting.{Word, fits, last_line, line_indent}
use Rattle.page_model.specs.Lines.{Finished, empty_line, finished_in, line_laid_out, pending_line}
use Rattle.page_model.specs.Places.{has_line_glyph}
use Rattle.page_model.specs.Settings.{fills}
use Rattle.page_model.specs.Telling.{bytes_told, glyphs_told, text_line}
use Rattle.page_model.specs.Words.{blanks, ends_sentence, has_open_word, indent_by, is_closer, is_empty, is_sentence_mark, line_end_gap, last_word_glyphs, open_glyphs, open_word, temporary_indent, words}
use Rattle.page_model.specs.declared.glyph.Glyph.{Glyph}
use Rattle.page_model.specs.declared.glyph.Glyph.TheVariants.{Blanks, Printed}
use Rattle.page_model.specs.declared.settings.Param.TheVariants.{Centring, TemporaryIndent}
use Rattle.page_model.specs.declared.settings.Settings.{Settings}
use Rattle.law_reading.proofs.AskedHalves.{differs}
use Rattle.law_reading.specs.LineLaws.{CentredLinesStandInTheMiddle, ClosersApartEndNoSentence, LinesAreSpaced, NoOtherGlyphEndsASentence, OtherLinesHaveTheIndentInForce, SentencesAreTwoBlanksApart, SentencesEndAtTheirMarks, SoManyLinesAreCentred, TemporaryIndentsAreForOneLine, lines_told}

-- a gap of one blank or two isn't none
gap-begun : (ends : Bool) (rest : ℕ) → let n : ℕ = if ends then 2 else 1 in (if n == 0 then rest else n) ≡ n
gap-begun true rest = refl
gap-begun false rest = refl

-- the blanks behind the end of such a line
blanks-line_end : (h : History) → fills (settings_after h) ≡ true → has_line_glyph h ≡ true → has_open_word h ≡ false → blanks (LineEnd ∷ h) ≡ line_end_gap (last_word_glyphs h)
blanks-line_end h measured glyph closed = rw (closed, measured, glyph) refl

-- no word is open behind it
none_open : (gs : List Glyph) → not (is_empty gs) ≡ false → gs ≡ []
none_open [] closed = refl
none_open (g ∷ gs) closed = absurd (cc)

plain-sentences : (h : History) (glyphs : List Glyph) → fills (settings_after h) ≡ true → has_line_glyph h ≡ true → has_open_word h ≡ false
    → is_empty glyphs ≡ false
    → (open_word (glyphs_told glyphs (Count ∷ LineEnd ∷ h))).gap ≡ (if ends_sentence (last_word_glyphs h) then 2 else 1)
plain-sentences h glyphs measured glyph closed some =
    let behind : History = Count ∷ LineEnd ∷ h in
    let rest : ℕ = line_end_gap (last_word_glyphs behind) in
    ap (λ (w : Word). w.gap) (open_word-word glyphs behind some (none_open (open_glyphs h) closed))
    ∙ ap (λ (n : ℕ). if n == 0 then rest else n) (blanks-line_end h measured glyph closed)
    ∙ gap-begun (ends_sentence (last_word_glyphs h)) rest

-- where no word is open no field is, and the history is told as it is
told-closed : (h : History) → has_open_word (plain h) ≡ false → told_plainly h ≡ unfielded (plain h)
told-closed h closed = told-unfielded h (is_in_field-closed h closed)

pub sentences_are_two_blanks_apart : SentencesAreTwoBlanksApart
sentences_are_two_blanks_apart h glyphs measured glyph closed some =
    let behind : told_plainly (Count ∷ LineEnd ∷ h) ≡ unfielded (Count ∷ LineEnd ∷ plain h) =
    ap (λ (t : Told). told_behind Count (told_behind LineEnd t)) (told-closed h closed) in
    ap (λ (t : Told). (open_word (so_far t)).gap)
    (told-glyphs_told_as glyphs (Count ∷ LineEnd ∷ h) (Count ∷ LineEnd ∷ plain h) behind)
    ∙ plain-sentences (plain h) glyphs (ap fills (sym (settings_after-plain h)) ∙ measured) glyph closed some

-- a byte that is printed is a glyph
told-glyph : (p : Glyph → Bool) (b : ℕ) (bytes : List ℕ) (h : History) → p (Printed b) ≡ true → p (Printed 32) ≡ false
    → bytes_told (b ∷ bytes) h ≡ bytes_told bytes (Print (Printed b) ∷ h)
told-glyph p b bytes h is isnt =
    ap (λ (c : Bool). bytes_told bytes (if c then Gap 1 ∷ WordEnd ∷ h else Print (Printed b) ∷ h)) (differs (λ (c : ℕ). p (Printed c)) b 32 is isnt)

-- whether a sentence ends with what a glyph would stand behind: with the open word, of which no glyph is there where none is open;
-- in a field with its text, unless a gap stands at its end
abbrev ends_if : Bool → History → Bool
ends_if is_open h = ends_sentence (if is_open then last_word_glyphs h else [])

abbrev ends_in : Field → Bool
ends_in f = if f.gap == 0 then ends_sentence f.glyphs else false

abbrev ends_before : Told → Bool
ends_before t = elim t.field [ None ↦ ends_if (has_open_word t.events) t.events | Some f ↦ ends_in f ]

-- and whether one ends there
abbrev ends_at : Told → Bool
ends_at t = ends_sentence (last_word_glyphs (so_far t))

-- a glyph behind it: a closer leaves that as it was
ends-glyphs : (g : Glyph) (f : Field) → ends_sentence (with_glyph g f).glyphs ≡ (if is_closer g then ends_in f else is_sentence_mark g)
ends-glyphs g f = by_gap (f.gap == 0)
  where
    by_gap : (none : Bool) → ends_sentence (g ∷ (if none then f.glyphs else Blanks f.gap ∷ f.glyphs))
        ≡ (if is_closer g then (if none then ends_sentence f.glyphs else false) else is_sentence_mark g)
    by_gap true = refl
    by_gap false = refl

ends-told : (g : Glyph) (h : History) (field : Option Field)
    → let t : Told = record { events = h; field = field } in
    ends_at (told_behind (Print g) t) ≡ (if is_closer g then ends_before t else is_sentence_mark g)
ends-told g h None = refl
ends-told g h (Some f) = ends_sentence-field 0 (with_glyph g f) h ∙ ends-glyphs g f

ends-behind : (g : Glyph) (h : History) → ends_at (told_plainly (Print g ∷ h)) ≡ (if is_closer g then ends_before (told_plainly h) else is_sentence_mark g)
ends-behind g h = ends-told g (told_plainly h).events (told_plainly h).field

-- a glyph that stands behind that is of the same word
before-told : (g : Glyph) (h : History) (field : Option Field)
    → let t : Told = told_behind (Print g) (record { events = h; field = field }) in ends_before t ≡ ends_at t
before-told g h None = refl
before-told g h (Some f) = sym (ends_sentence-field 0 (with_glyph g f) h)

before-behind : (g : Glyph) (h : History) → ends_before (told_plainly (Print g ∷ h)) ≡ ends_at (told_plainly (Print g ∷ h))
before-behind g h = before-told g (told_plainly h).events (told_plainly h).field

-- so closers leave it as it was
closer-behind : (b : ℕ) (h : History) → is_closer (Printed b) ≡ true → ends_at (told_plainly (Print (Printed b) ∷ h)) ≡ ends_before (told_plainly h)
closer-behind b h is = ends-behind (Printed b) h ∙ ap (λ (c : Bool). if c then ends_before (told_plainly h) else is_sentence_mark (Printed b)) is

closers-behind : (closers : List ℕ) (g : Glyph) (h : History) → All (λ b. is_closer (Printed b) ≡ true) closers
    → ends_at (told_plainly (bytes_told closers (Print g ∷ h))) ≡ ends_at (told_plainly (Print g ∷ h))
closers-behind [] g h are = refl
closers-behind (b ∷ closers) g h are =
    let is : is_closer (Printed b) ≡ true = All-head (λ c. is_closer (Printed c) ≡ true) b closers are in
    ap (λ (i : History). ends_at (told_plainly i)) (told-glyph is_closer b closers (Print g ∷ h) is refl)
    ∙ closers-behind closers (Printed b) (Print g ∷ h) (All-tail (λ c. is_closer (Printed c) ≡ true) b closers are)
    ∙ closer-behind b (Print g ∷ h) is ∙ before-behind g h

-- a mark is no closer
no_closer : (b : ℕ) → is_sentence_mark (Printed b) ≡ true → is_closer (Printed b) ≡ false
no_closer b is =
    let mark : ℕ → Bool = λ c. is_sentence_mark (Printed c) in
    ap (λ (c : Bool). c || (b == 39 || (b == 41 || (b == 93 || (b == 42 || false))))) (differs mark b 34 is refl)
    ∙ ap (λ (c : Bool). c || (b == 41 || (b == 93 || (b == 42 || false)))) (differs mark b 39 is refl)
    ∙ ap (λ (c : Bool). c || (b == 93 || (b == 42 || false))) (differs mark b 41 is refl)
    ∙ ap (λ (c : Bool). c || (b == 42 || false)) (differs mark b 93 is refl)
    ∙ ap (λ (c : Bool). c || false) (differs mark b 42 is refl)

pub sentences_end_at_their_marks : SentencesEndAtTheirMarks
sentences_end_at_their_marks h mark closers is are =
    ap (λ (i : History). ends_at (told_plainly i)) (told-glyph is_sentence_mark mark closers h is refl)
    ∙ closers-behind closers (Printed mark) h are
    ∙ ends-behind (Printed mark) h
    ∙ ap (λ (c : Bool). if c then ends_before (told_plainly h) else is_sentence_mark (Printed mark)) (no_closer mark is) ∙ is

pub closers_apart_end_no_sentence : ClosersApartEndNoSentence
closers_apart_end_no_sentence h closer closers closed is are =
    ap (λ (i : History). ends_at (told_plainly i)) (told-glyph is_closer closer closers h is refl)
    ∙ closers-behind closers (Printed closer) h are
    ∙ closer-behind closer h is
    ∙ ap ends_before (told-closed h closed)
    ∙ ap (λ (c : Bool). ends_if c (plain h)) closed

pub no_other_glyph_ends_a_sentence : NoOtherGlyphEndsASentence
no_other_glyph_ends_a_sentence h glyph no_mark closer =
    ends-behind glyph h ∙ ap (λ (c : Bool). if c then ends_before (told_plainly h) else is_sentence_mark glyph) closer ∙ no_mark

-- while lines are centred no words are measured
unmeasured : (filling centring : Bool) → centring ≡ false → (filling && centring) ≡ false
unmeasured true centring none = none
unmeasured false centring none = refl

pub centred_lines_stand_in_the_middle : CentredLinesStandInTheMiddle
centred_lines_stand_in_the_middle h centred some =
    let s : Settings = settings_after h in
    rw (sym (settings_after-plain h), unmeasured s.filling (s.centring == 0) centred, some, centred) refl

-- the bytes of a text line change nothing that is in force
settings-bytes : (bytes : List ℕ) (h : History) → settings_after (bytes_told bytes h) ≡ settings_after h
settings-bytes [] h = refl
settings-bytes (b ∷ bytes) h = settings-bytes bytes (if b == 32 then Gap 1 ∷ WordEnd ∷ h else Print (Printed b) ∷ h) ∙ by_blank (b == 32)
  where
    by_blank : (is : Bool) → settings_after (if is then Gap 1 ∷ WordEnd ∷ h else Print (Printed b) ∷ h) ≡ settings_after h
    by_blank true = refl
    by_blank false = refl

settings-lines : (lines : List (List ℕ)) (h : History)
    → settings_after (lines_told lines h) ≡ record (settings_after h) { centring = (settings_after h).centring - length lines }
settings-lines [] h = ap (λ (n : ℕ). record (settings_after h) { centring = n }) (omega arith)
settings-lines (line ∷ lines) h =
    let of : Settings → Settings = λ s. record s { centring = s.centring - 1 - length lines } in
    settings-lines lines (text_line line h)
    ∙ ap of (settings-bytes line h)
    ∙ ap (λ (n : ℕ). record (settings_after h) { centring = n }) (omega arith)

pub so_many_lines_are_centred : SoManyLinesAreCentred
so_many_lines_are_centred h n lines = settings-lines lines (Set (Centring n) ∷ h)

plain-indents : (h : History) (n : ℕ) (glyphs : List Glyph) → words h ≡ [] → has_open_word h ≡ false → is_empty glyphs ≡ false
    → let behind : History = WordEnd ∷ glyphs_told glyphs (Set (TemporaryIndent n) ∷ h) in
    (line_indent (pending_line behind) ≡ n) × (temporary_indent behind ≡ None)
plain-indents h n glyphs none closed some =
    let set : History = Set (TemporaryIndent n) ∷ h in
    let unopened : open_glyphs set ≡ [] = none_open (open_glyphs h) closed in
    let one : words (WordEnd ∷ glyphs_told glyphs set) ≡ told_word glyphs set ∷ [] =
    words-word glyphs set some unopened ∙ ap (λ (ws : List Word). told_word glyphs set ∷ ws) none in
    let before : words (glyphs_told glyphs set) ≡ [] = words-told (reverse glyphs) set ∙ none in (
      ap (λ (ws : List Word). line_indent (last_line ws)) one,
      rw (has_open_word-word glyphs set some unopened, before) refl,
    )

pub temporary_indents_are_for_one_line : TemporaryIndentsAreForOneLine
temporary_indents_are_for_one_line h n glyphs none closed some =
    let set : History = Set (TemporaryIndent n) ∷ h in
    let behind : told_plainly (glyphs_told glyphs set) ≡ unfielded (glyphs_told glyphs (Set (TemporaryIndent n) ∷ plain h)) =
    told-glyphs_told_as glyphs set (Set (TemporaryIndent n) ∷ plain h) (ap (told_behind (Set (TemporaryIndent n))) (told-closed h closed)) in
    let Goal : Told → Type 0 = λ t.
    (line_indent (pending_line (so_far (told_behind WordEnd t))) ≡ n) × (temporary_indent (so_far (told_behind WordEnd t)) ≡ None) in
    subst Goal (sym behind) (plain-indents (plain h) n glyphs none closed some)

pub other_lines_have_the_indent_in_force : OtherLinesHaveTheIndentInForce
other_lines_have_the_indent_in_force h none =
    ap (λ (pending : Option ℕ). indent_by pending (settings_after (plain h))) none ∙ ap (λ (s : Settings). s.indent) (sym (settings_after-plain h))

-- a line that may be finished has so many blank lines behind it
abbrev SpacedBy : Settings → Option Finished → Type 0
SpacedBy s o = IfSome o (λ (line : Finished). line.after ≡ s.spacing - 1)

spaced-if : (c : Bool) (s : Settings) (line : Finished) → line.after ≡ s.spacing - 1 → SpacedBy s (if c then Some line else None)
spaced-if true s line is = is
spaced-if false s line is = tt

spaced-if_not : (c : Bool) (s : Settings) (o : Option Finished) → SpacedBy s o → SpacedBy s (if c then None else o)
spaced-if_not true s o is = tt
spaced-if_not false s o is = is

-- told without fields
plain-spaced : (h : History) (e : Event) → SpacedBy (settings_after h) (finished_in h e)
plain-spaced h WordEnd =
    let s : Settings = settings_after h in
    spaced-if (has_open_word h && not (is_empty (words h)) && not (fits (pending_line h) (open_word h))) s (line_laid_out s true (pending_line h)) refl
plain-spaced h LineEnd =
    let s : Settings = settings_after h in
    spaced-if_not (fills s) s _ (spaced-either (is_empty (words h)) s.filling)
  where
    spaced-either : (none filling : Bool)
        → let s : Settings = settings_after h in
        SpacedBy s (if none then (if filling then None else Some (empty_line s)) else Some (line_laid_out s false (pending_line h)))
    spaced-either true true = tt
    spaced-either true false = refl
    spaced-either false filling = refl
plain-spaced h Break =
    let s : Settings = settings_after h in
    spaced-if_not (is_empty (words h)) s (Some (line_laid_out s false (pending_line h))) refl
plain-spaced h (Print g) = tt
plain-spaced h Tab = tt
plain-spaced h FieldEnd = tt
plain-spaced h (Gap n) = tt
plain-spaced h Count = tt
plain-spaced h Interrupt = tt
plain-spaced h Resume = tt
plain-spaced h (Set p) = tt

-- with fields the settings are the same
spaced-plain : (h : History) (e : Event) → SpacedBy (settings_after h) (finished_in (plain h) e)
spaced-plain h e = subst (λ (s : Settings). SpacedBy s (finished_in (plain h) e)) (sym (settings_after-plain h)) (plain-spaced (plain h) e)

-- the line that a tab finishes
spaced-tab : (h : History) (field : Option Field)
    → let t : Told = record { events = h; field = field } in SpacedBy (settings_after h) (finished_by_tab t)
spaced-tab h None = tt
spaced-tab h (Some f) =
    let moved : History = field_told (motion f) (without_gap f) h in
    spaced-if_not (f.gap == 0) (settings_after h) (finished_in moved WordEnd)
    (subst (λ (s : Settings). SpacedBy s (finished_in moved WordEnd)) (settings_after-field (motion f) (without_gap f) h) (plain-spaced moved WordEnd))

pub lines_are_spaced : LinesAreSpaced
lines_are_spaced h Tab =
    subst (λ (s : Settings). SpacedBy s (finished_by_tab (told_plainly h))) (sym (settings_after-told h)) (spaced-tab (told_plainly h).events (told_plainly h).field)
lines_are_spaced h WordEnd = spaced-if_not (is_in_field h) (settings_after h) (finished_in (plain h) WordEnd) (spaced-plain h WordEnd)
lines_are_spaced h LineEnd = spaced-plain h LineEnd
lines_are_spaced h Break = spaced-plain h Break
lines_are_spaced h (Print g) = tt
lines_are_spaced h FieldEnd = tt
lines_are_spaced h (Gap n) = tt
lines_are_spaced h Count = tt
lines_are_spaced h Interrupt = tt
lines_are_spaced h Resume = tt
lines_are_spaced h (Set p) = tt
