-- What is told stands in words of its own where no word was open: without fields, and with them.
use Rattle.std.proofs.Common.{◌≡◌, ℕ, Bool, true, false, not, List, [], ◌∷◌, ◌++◌, map, Option, Some, None, refl, sym, ◌∙◌, ap, ◌==◌, option_map, if◌then◌else◌}
use Rattle.std.proofs.lemmas.Bool.{cond_both}
use Rattle.std.proofs.lemmas.List.{reverse-reverse}
use Rattle.page_model.specs.Behind.{finished_by_tab}
use Rattle.page_model.specs.Events.{History, settings_after, stops_after}
use Rattle.page_model.specs.Fields.{Field, Told, field_told, gap_ended, motion, plain, so_far, tab_reached, tab_told, told_plainly, told_behind, with_gap, with_glyph, without_gap}
use Rattle.page_model.specs.Fitting.{Word}
use Rattle.page_model.specs.Happenings.{Happening, Places}
use Rattle.page_model.specs.Lines.{finished_in}
use Rattle.page_model.specs.Settings.{fills}
use Rattle.page_model.specs.Places.{input_place, tab_width}
use Rattle.page_model.specs.TabStops.{Way, way_to_next}
use Rattle.page_model.specs.Words.{has_open_word, is_empty, open_glyphs, open_word, words}
use Rattle.page_model.specs.declared.event.Event.{Event}
use Rattle.page_model.specs.declared.event.Event.TheVariants.{Print, Tab, FieldEnd, WordEnd, Gap, LineEnd, Count, Break, Interrupt as Interrupted, Resume, Set}
use Rattle.page_model.specs.declared.glyph.Glyph.{Glyph}
use Rattle.page_model.specs.declared.glyph.Glyph.TheVariants.{Blanks}
use Rattle.page_model.specs.declared.stop.StopKind.{StopKind}
use Rattle.page_model.specs.declared.stop.StopKind.TheVariants.{Left as AtLeft, Right as AtRight, Centred as InMiddle}
use Rattle.law_escapes.specs.WordsApart.{AddsWords, AreNewest, InWordsOfItsOwn, LinesAreOfEndedWords, ended_words, glyphs_in, glyphs_of}

-- where no word is open there are no glyphs of one
no_glyphs : (glyphs : List Glyph) → not (is_empty glyphs) ≡ false → glyphs ≡ []
no_glyphs [] none = refl
no_glyphs (g ∷ glyphs) none = absurd (cc)

-- nothing was told yet
same-words : (h : History) → has_open_word h ≡ false → AddsWords h h
same-words h none = record {
  words = [];
  others_stay = refl;
  of_its_glyphs = ap (λ (glyphs : List Glyph). (glyphs ++ []) ++ glyphs_of h) (sym (no_glyphs (open_glyphs h) none));
}

-- a word ends, if one is open
words-word_end : (before h : History) (is_open : Bool) → has_open_word h ≡ is_open → AddsWords before h → AddsWords before (WordEnd ∷ h)
words-word_end before h true is own = record {
  words = open_word h ∷ own.words;
  others_stay =
      ap (λ (c : Bool). if c then open_word h ∷ ended_words h else ended_words h) is
      ∙ ap (λ (words : List Word). open_word h ∷ words) own.others_stay;
  of_its_glyphs =
      own.of_its_glyphs
      ∙ ap (λ (glyphs : List Glyph). (glyphs ++ glyphs_in own.words) ++ glyphs_of before) (sym (reverse-reverse (open_glyphs h)));
}
words-word_end before h false is own = record {
  words = own.words;
  others_stay = ap (λ (c : Bool). if c then open_word h ∷ ended_words h else ended_words h) is ∙ own.others_stay;
  of_its_glyphs = own.of_its_glyphs ∙ ap (λ (glyphs : List Glyph). (glyphs ++ glyphs_in own.words) ++ glyphs_of before) (no_glyphs (open_glyphs h) is);
}

-- an event more of the text
words-event : (before h : History) (e : Event) → AddsWords before h → AddsWords before (e ∷ h)
words-event before h (Print g) own = record {
  words = own.words;
  others_stay = own.others_stay;
  of_its_glyphs = ap (λ (glyphs : List Glyph). g ∷ glyphs) own.of_its_glyphs;
}
words-event before h Tab own = record {
  words = own.words;
  others_stay = own.others_stay;
  of_its_glyphs = ap (λ (glyphs : List Glyph). Blanks (tab_width h) ∷ glyphs) own.of_its_glyphs;
}
words-event before h WordEnd own = words-word_end before h (has_open_word h) refl own
words-event before h FieldEnd own = record { words = own.words; others_stay = own.others_stay; of_its_glyphs = own.of_its_glyphs }
words-event before h (Gap n) own = record { words = own.words; others_stay = own.others_stay; of_its_glyphs = own.of_its_glyphs }
words-event before h LineEnd own = record { words = own.words; others_stay = own.others_stay; of_its_glyphs = own.of_its_glyphs }
words-event before h Count own = record { words = own.words; others_stay = own.others_stay; of_its_glyphs = own.of_its_glyphs }
words-event before h Break own = record { words = own.words; others_stay = own.others_stay; of_its_glyphs = own.of_its_glyphs }
words-event before h Interrupted own = record { words = own.words; others_stay = own.others_stay; of_its_glyphs = own.of_its_glyphs }
words-event before h Resume own = record { words = own.words; others_stay = own.others_stay; of_its_glyphs = own.of_its_glyphs }
words-event before h (Set p) own = record { words = own.words; others_stay = own.others_stay; of_its_glyphs = own.of_its_glyphs }

-- glyphs more, and a field
words-glyphs : (before h : History) (gs : List Glyph) → AddsWords before h → AddsWords before (map Print gs ++ h)
words-glyphs before h [] own = own
words-glyphs before h (g ∷ gs) own = words-event before (map Print gs ++ h) (Print g) (words-glyphs before h gs own)

words-field : (before : History) (columns : ℕ) (f : Field) (h : History) → AddsWords before h → AddsWords before (field_told columns f h)
words-field before columns f h own =
    words-event before (map Print f.glyphs ++ Print (Blanks columns) ∷ h) (Gap f.gap)
    (words-glyphs before (Print (Blanks columns) ∷ h) f.glyphs (words-event before h (Print (Blanks columns)) own))

-- and so it is without them
abbrev behind_first : List Glyph → List Glyph
behind_first [] = []
behind_first (g ∷ gs) = gs

words-unprinted : (before h : History) (g : Glyph) → AddsWords before (Print g ∷ h) → AddsWords before h
words-unprinted before h g own =
    record { words = own.words; others_stay = own.others_stay; of_its_glyphs = ap behind_first own.of_its_glyphs }

words-no_glyphs : (before h : History) (gs : List Glyph) → AddsWords before (map Print gs ++ h) → AddsWords before h
words-no_glyphs before h [] own = own
words-no_glyphs before h (g ∷ gs) own = words-no_glyphs before h gs (words-unprinted before (map Print gs ++ h) g own)

words-no_field : (before : History) (columns : ℕ) (f : Field) (h : History) → AddsWords before (field_told columns f h) → AddsWords before h
words-no_field before columns f h own =
    words-unprinted before h (Blanks columns)
    (words-no_glyphs before (Print (Blanks columns) ∷ h) f.glyphs
    (record { words = own.words; others_stay = own.others_stay; of_its_glyphs = own.of_its_glyphs }))

-- a tab, whether it opens a field or not
words-tab : (before : History) (columns : ℕ) (kind : StopKind) (h : History) → AddsWords before h
    → AddsWords before (so_far (tab_told (Some (record { columns = columns; kind = kind })) h))
words-tab before columns AtLeft h own = words-event before h Tab own
words-tab before columns AtRight h own =
    words-field before 0 (record { way = columns; is_centred = false; glyphs = []; gap = 0 }) h own
words-tab before columns InMiddle h own =
    words-field before 0 (record { way = columns; is_centred = true; glyphs = []; gap = 0 }) h own

words-way : (before : History) (way : Option Way) (h : History) → AddsWords before h → AddsWords before (so_far (tab_told way h))
words-way before None h own = words-event before h Tab own
words-way before (Some way) h own = words-tab before way.columns way.kind h own

words-reached : (before : History) (f : Field) (h : History) → AddsWords before h → AddsWords before (gap_ended f h)
words-reached before f h own =
    cond_both (f.gap == 0) h (Gap f.gap ∷ WordEnd ∷ h) (AddsWords before) (λ _. own)
    (λ _. words-event before (WordEnd ∷ h) (Gap f.gap) (words-event before h WordEnd own))

-- an event more, as it is told without fields: with none open
told-none : (before : History) (e : Event) (h : History)
    → let t : Told = record { events = h; field = None } in AddsWords before h → AddsWords before (so_far (told_behind e t))
told-none before Tab h own = words-way before (way_to_next (stops_after h) (input_place h)) h own
told-none before FieldEnd h own = own
told-none before (Print g) h own = words-event before h (Print g) own
told-none before (Gap n) h own = words-event before h (Gap n) own
told-none before WordEnd h own = words-event before h WordEnd own
told-none before LineEnd h own = words-event before h LineEnd own
told-none before Count h own = words-event before h Count own
told-none before Break h own = words-event before h Break own
told-none before Interrupted h own = words-event before h Interrupted own
told-none before Resume h own = words-event before h Resume own
told-none before (Set p) h own = words-event before h (Set p) own

-- and in a field
told-some : (before : History) (e : Event) (h : History) (f : Field)
    → let t : Told = record { events = h; field = Some f } in
    AddsWords before h → AddsWords before (so_far (told_behind e t))
told-some before Tab h f own =
    let moved : History = field_told (motion f) (without_gap f) h in
    let reached : History = gap_ended f moved in
    words-way before (way_to_next (stops_after reached) (input_place reached)) reached
    (words-reached before f moved (words-field before (motion f) (without_gap f) h own))
told-some before FieldEnd h f own = words-field before (motion f) f h own
told-some before (Print g) h f own = words-field before 0 (with_glyph g f) h own
told-some before (Gap n) h f own = words-field before 0 (with_gap n f) h own
told-some before WordEnd h f own = words-field before 0 f h own
told-some before LineEnd h f own = words-event before (field_told 0 f h) LineEnd (words-field before 0 f h own)
told-some before Break h f own = words-event before (field_told 0 f h) Break (words-field before 0 f h own)
told-some before Count h f own = words-field before 0 f (Count ∷ h) (words-event before h Count own)
told-some before Interrupted h f own = words-field before 0 f (Interrupted ∷ h) (words-event before h Interrupted own)
told-some before Resume h f own = words-field before 0 f (Resume ∷ h) (words-event before h Resume own)
told-some before (Set p) h f own = words-field before 0 f (Set p ∷ h) (words-event before h (Set p) own)

own-told : (before : History) (e : Event) (h : History) (field : Option Field)
    → let t : Told = record { events = h; field = field } in
    AddsWords before (so_far t) → AddsWords before (so_far (told_behind e t))
own-told before e h None own = told-none before e h own
own-told before e h (Some f) own = told-some before e h f (words-no_field before 0 f h own)

-- so it is of any history
abbrev pub Adds : History → History → Type 0
Adds before h = AddsWords before (plain h)

-- nothing was told yet
pub own-same : (h : History) → has_open_word (plain h) ≡ false → InWordsOfItsOwn h h
own-same h none = same-words (plain h) none

-- an event more is
pub own-event : (before h : History) (e : Event) → Adds before h → Adds before (e ∷ h)
own-event before h e own = own-told before e (told_plainly h).events (told_plainly h).field own

-- behind a tab that finishes a line: the word in front of a field's gap has ended
reached-own : (none : Bool) (n : ℕ) (moved : History) (x : Happening) → option_map Places (if none then None else finished_in moved WordEnd) ≡ Some x
    → let reached : History = if none then moved else Gap n ∷ WordEnd ∷ moved in
    AddsWords reached (so_far (tab_told (way_to_next (stops_after reached) (input_place reached)) reached))
reached-own true n moved x places = absurd (cc)
reached-own false n moved x places =
    let reached : History = Gap n ∷ WordEnd ∷ moved in
    words-way reached (way_to_next (stops_after reached) (input_place reached)) reached (same-words reached refl)

tab-told : (h : History) (field : Option Field) (x : Happening)
    → let t : Told = record { events = h; field = field } in
    option_map Places (finished_by_tab t) ≡ Some x → AddsWords (tab_reached t) (so_far (told_behind Tab t))
tab-told h None x places = absurd (cc)
tab-told h (Some f) x places = reached-own (f.gap == 0) f.gap (field_told (motion f) (without_gap f) h) x places

pub tab-own : (h : History) (x : Happening) → option_map Places (finished_by_tab (told_plainly h)) ≡ Some x → Adds (tab_reached (told_plainly h)) (Tab ∷ h)
tab-own h x places = tab-told (told_plainly h).events (told_plainly h).field x places

-- the words since the last break are the newest that have ended: by whether a word ends, or a line's end is a break
newest-word : (is_open : Bool) (w : Word) (ws all : List Word) → AreNewest ws all
    → AreNewest (if is_open then w ∷ ws else ws) (if is_open then w ∷ all else all)
newest-word true w ws all newest = record { others = newest.others; is = ap (λ (xs : List Word). w ∷ xs) newest.is }
newest-word false w ws all newest = newest

newest-line : (filled : Bool) (ws all : List Word) → AreNewest ws all → AreNewest (if filled then ws else []) all
newest-line true ws all newest = newest
newest-line false ws all newest = record { others = all; is = refl }

newest-plain : (h : History) → AreNewest (words h) (ended_words h)
newest-plain [] = record { others = []; is = refl }
newest-plain (Print g ∷ h) = newest-plain h
newest-plain (Tab ∷ h) = newest-plain h
newest-plain (FieldEnd ∷ h) = newest-plain h
newest-plain (WordEnd ∷ h) = newest-word (has_open_word h) (open_word h) (words h) (ended_words h) (newest-plain h)
newest-plain (Gap n ∷ h) = newest-plain h
newest-plain (LineEnd ∷ h) = newest-line (fills (settings_after h)) (words h) (ended_words h) (newest-plain h)
newest-plain (Count ∷ h) = newest-plain h
newest-plain (Break ∷ h) = record { others = ended_words h; is = refl }
newest-plain (Interrupted ∷ h) = newest-plain h
newest-plain (Resume ∷ h) = newest-plain h
newest-plain (Set p ∷ h) = newest-plain h

pub lines_are_of_ended_words : LinesAreOfEndedWords
lines_are_of_ended_words h = newest-plain (plain h)
