-- What a paragraph of any history writes is its lines, laid out.
use Rattle.std.proofs.Common.{◌≡◌, ℕ, true, false, List, [], ◌∷◌, ◌++◌, Option, Some, None, refl, sym, ap, subst, ◌∙◌, inl, inr, ◌==◌, All}
use Rattle.std.proofs.lemmas.Bool.{cases_Bool, cond_both}
use Rattle.std.proofs.lemmas.List.Elements.{All-nil, All-head, All-tail}
use Rattle.page_model.specs.declared.glyph.Glyph.{Glyph}
use Rattle.page_model.specs.declared.settings.Settings.{Settings}
use Rattle.page_model.specs.declared.stop.StopKind.{StopKind}
use Rattle.page_model.specs.declared.stop.StopKind.TheVariants.{Left as AtLeft, Right as AtRight, Centred as InMiddle}
use Rattle.page_model.specs.declared.event.Event.{Event}
use Rattle.page_model.specs.declared.event.Event.TheVariants.{Print, Tab, FieldEnd, WordEnd, Gap, LineEnd, Count, Break, Interrupt, Resume, Set}
use Rattle.page_model.specs.Events.{History, settings_after, stops_after}
use Rattle.page_model.specs.Settings.{fills}
use Rattle.page_model.specs.TabStops.{Way, way_to_next}
use Rattle.page_model.specs.Places.{input_place}
use Rattle.page_model.specs.Fitting.{Word}
use Rattle.page_model.specs.Words.{is_empty, words, temporary_indent}
use Rattle.page_model.specs.Telling.{words_told, IsOfText, IsWordUnder, IsClear}
use Rattle.page_model.specs.Paragraphs.{until_break, full_lines, broken_lines, paragraph_lines, finished_lines as lines_in}
use Rattle.page_model.specs.Fields.{Field, field_told, gap_ended, motion, plain, so_far, tab_told, told_plainly, told_behind, unfielded, without_gap}
use Rattle.page_model.specs.Behind.{finished_lines}
use Rattle.law_lines.specs.Filling.{lines_of}
use Rattle.roff_lines.proofs.Fields.{settings_after-field, until_break-field, words-field}
use Rattle.roff_lines.proofs.Told.{told_as, settings_after-told, settings_after-plain, finished_lines-plain}
use Rattle.roff_lines.proofs.Unfielded.{is_in_field-closed, told-unfielded, told-words_as}
use Rattle.law_lines.proofs.ToldWords.{settings_after-text, until_break-text, under-word_end}
use Rattle.law_lines.proofs.Paragraphs.{finished_lines-pending, finished_lines-broken, finished_lines-unfilled, finished_lines-even, finished_lines-told}

-- a tab breaks nothing
until_break-tab : (h : History) (columns : ℕ) (kind : StopKind)
    → until_break (tab_told (Some (record { columns = columns; kind = kind })) h).events ≡ until_break h
until_break-tab h columns AtLeft = refl
until_break-tab h columns AtRight = refl
until_break-tab h columns InMiddle = refl

until_break-tab_told : (way : Option Way) (h : History) → until_break (tab_told way h).events ≡ until_break h
until_break-tab_told None h = refl
until_break-tab_told (Some way) h = until_break-tab h way.columns way.kind

until_break-gap_ended : (f : Field) (h : History) → until_break (gap_ended f h) ≡ until_break h
until_break-gap_ended f h =
    cond_both (f.gap == 0) h (Gap f.gap ∷ WordEnd ∷ h) (λ i. until_break i ≡ until_break h) (λ _. refl) (λ _. refl)

until_break-behind_tab : (h : History) (field : Option Field)
    → until_break (told_behind Tab (told_as h field)).events ≡ until_break h
until_break-behind_tab h None = until_break-tab_told (way_to_next (stops_after h) (input_place h)) h
until_break-behind_tab h (Some f) =
    let before = field_told (motion f) (without_gap f) h in
    let i = gap_ended f before in
    until_break-tab_told (way_to_next (stops_after i) (input_place i)) i
    ∙ until_break-gap_ended f before ∙ until_break-field (motion f) (without_gap f) h

-- nor does what else is no break and no line end
until_break-print : (g : Glyph) (h : History) (field : Option Field)
    → until_break (told_behind (Print g) (told_as h field)).events ≡ until_break h
until_break-print g h None = refl
until_break-print g h (Some f) = refl

until_break-gap : (n : ℕ) (h : History) (field : Option Field)
    → until_break (told_behind (Gap n) (told_as h field)).events ≡ until_break h
until_break-gap n h None = refl
until_break-gap n h (Some f) = refl

until_break-word_end : (h : History) (field : Option Field)
    → until_break (told_behind WordEnd (told_as h field)).events ≡ until_break h
until_break-word_end h None = refl
until_break-word_end h (Some f) = refl

until_break-field_end : (h : History) (field : Option Field)
    → until_break (told_behind FieldEnd (told_as h field)).events ≡ until_break h
until_break-field_end h None = refl
until_break-field_end h (Some f) = until_break-field (motion f) f h

-- and an open field
until_break-so_far : (h : History) (field : Option Field) → until_break (so_far (told_as h field)) ≡ until_break h
until_break-so_far h None = refl
until_break-so_far h (Some f) = until_break-field 0 f h

-- so a history up to its last break is told up to its last break
until_break-told : (h : History) → until_break (told_plainly h).events ≡ plain (until_break h)
until_break-told [] = refl
until_break-told (Print g ∷ h) = until_break-print g (told_plainly h).events (told_plainly h).field ∙ until_break-told h
until_break-told (Tab ∷ h) = until_break-behind_tab (told_plainly h).events (told_plainly h).field ∙ until_break-told h
until_break-told (FieldEnd ∷ h) = until_break-field_end (told_plainly h).events (told_plainly h).field ∙ until_break-told h
until_break-told (WordEnd ∷ h) = until_break-word_end (told_plainly h).events (told_plainly h).field ∙ until_break-told h
until_break-told (Gap n ∷ h) = until_break-gap n (told_plainly h).events (told_plainly h).field ∙ until_break-told h
until_break-told (LineEnd ∷ h) =
    elim (cases_Bool (fills (settings_after h))) [
      | inl measured ↦
          let here : fills (settings_after (plain h)) ≡ true = ap fills (sym (settings_after-plain h)) ∙ measured in
          rw (measured, here) (until_break-so_far (told_plainly h).events (told_plainly h).field ∙ until_break-told h)
      | inr off ↦
          let here : fills (settings_after (plain h)) ≡ false = ap fills (sym (settings_after-plain h)) ∙ off in
          rw (off, here) refl
    ]
until_break-told (Count ∷ h) = until_break-told h
until_break-told (Break ∷ h) = refl
until_break-told (Interrupt ∷ h) = until_break-told h
until_break-told (Resume ∷ h) = until_break-told h
until_break-told (Set p ∷ h) = until_break-told h

until_break-plain : (h : History) → until_break (plain h) ≡ plain (until_break h)
until_break-plain h = until_break-so_far (told_plainly h).events (told_plainly h).field ∙ until_break-told h

-- the lines up to there
lines-until : (h : History) → lines_in (until_break (plain h)) ≡ finished_lines (until_break h)
lines-until h = ap lines_in (until_break-plain h) ∙ sym (finished_lines-plain (until_break h))

-- a history has finished the full lines of its words since the last break
pub finished_lines-since_break : (h : History)
    → finished_lines h ≡ full_lines (lines_of (words (plain h))) ++ finished_lines (until_break h)
finished_lines-since_break h =
    finished_lines-plain h ∙ finished_lines-pending (plain h)
    ∙ ap (λ ls. full_lines (lines_of (words (plain h))) ++ ls) (lines-until h)

-- all lines of a history's words, behind those up to its last break
all_lines : (h : History) → broken_lines (settings_after (plain h)) (lines_of (words (plain h))) ++ lines_in (until_break (plain h))
    ≡ broken_lines (settings_after h) (lines_of (words (plain h))) ++ finished_lines (until_break h)
all_lines h =
    let lines = lines_of (words (plain h)) in
    ap (λ s. broken_lines s lines ++ lines_in (until_break (plain h))) (sym (settings_after-plain h))
    ∙ ap (λ ls. broken_lines (settings_after h) lines ++ ls) (lines-until h)

-- a break finishes the last line, too
pub finished_lines-behind_break : (h : History) → finished_lines (Break ∷ h)
    ≡ broken_lines (settings_after h) (lines_of (words (plain h))) ++ finished_lines (until_break h)
finished_lines-behind_break h = finished_lines-plain (Break ∷ h) ∙ finished_lines-broken (plain h) ∙ all_lines h

-- so does a line's end where words aren't measured, behind words
pub finished_lines-behind_line : (h : History) → fills (settings_after h) ≡ false → is_empty (words (plain h)) ≡ false
    → finished_lines (LineEnd ∷ h)
    ≡ broken_lines (settings_after h) (lines_of (words (plain h))) ++ finished_lines (until_break h)
finished_lines-behind_line h off some =
    finished_lines-plain (LineEnd ∷ h)
    ∙ finished_lines-unfilled (plain h) (ap fills (sym (settings_after-plain h)) ∙ off) some ∙ all_lines h

-- words that end under what is in force
abbrev EndUnder : Settings → History → Type 0
EndUnder s h = All (λ w. w.under ≡ s) (words h)

module _ (s : Settings) (measured : fills s ≡ true) where
  under-tab : (h : History) (columns : ℕ) (kind : StopKind) → EndUnder s h
      → EndUnder s (tab_told (Some (record { columns = columns; kind = kind })) h).events
  under-tab h columns AtLeft each = each
  under-tab h columns AtRight each = each
  under-tab h columns InMiddle each = each

  under-tab_told : (way : Option Way) (h : History) → EndUnder s h → EndUnder s (tab_told way h).events
  under-tab_told None h each = each
  under-tab_told (Some way) h each = under-tab h way.columns way.kind each

  -- a field has none
  under-field : (m : ℕ) (f : Field) (h : History) → EndUnder s h → EndUnder s (field_told m f h)
  under-field m f h each = subst (All (λ w. w.under ≡ s)) (sym (words-field m f h)) each

  -- a gap at its end ends one
  under-gap_ended : (f : Field) (h : History) → settings_after h ≡ s → EndUnder s h → EndUnder s (gap_ended f h)
  under-gap_ended f h same each =
      cond_both (f.gap == 0) h (Gap f.gap ∷ WordEnd ∷ h) (EndUnder s) (λ _. each) (λ _. under-word_end s h same each)

  -- a line end leaves them
  under-line_end : (h : History) → settings_after h ≡ s → EndUnder s h → EndUnder s (LineEnd ∷ h)
  under-line_end h same each = let here : fills (settings_after h) ≡ true = ap fills same ∙ measured in rw here each

  -- so the words of a text that is told end under it, event by event
  under-behind : (e : Event) (h : History) (field : Option Field) → IsOfText e → settings_after h ≡ s → EndUnder s h
      → EndUnder s (told_behind e (told_as h field)).events
  under-behind (Print g) h None is same each = each
  under-behind (Print g) h (Some f) is same each = each
  under-behind Tab h None is same each = under-tab_told (way_to_next (stops_after h) (input_place h)) h each
  under-behind Tab h (Some f) is same each =
      let before = field_told (motion f) (without_gap f) h in
      let i = gap_ended f before in
      let there = settings_after-field (motion f) (without_gap f) h ∙ same in
      under-tab_told (way_to_next (stops_after i) (input_place i)) i
      (under-gap_ended f before there (under-field (motion f) (without_gap f) h each))
  under-behind FieldEnd h None is same each = each
  under-behind FieldEnd h (Some f) is same each = under-field (motion f) f h each
  under-behind WordEnd h None is same each = under-word_end s h same each
  under-behind WordEnd h (Some f) is same each = each
  under-behind (Gap n) h None is same each = each
  under-behind (Gap n) h (Some f) is same each = each
  under-behind LineEnd h None is same each = under-line_end h same each
  under-behind LineEnd h (Some f) is same each =
      under-line_end (field_told 0 f h) (settings_after-field 0 f h ∙ same) (under-field 0 f h each)
  under-behind Count h field is same each = each
  under-behind Break h field is same each = absurd is
  under-behind Interrupt h field is same each = each
  under-behind Resume h field is same each = each
  under-behind (Set p) h field is same each = absurd is

  -- with a field open behind it
  under-so_far : (h : History) (field : Option Field) → EndUnder s h → EndUnder s (so_far (told_as h field))
  under-so_far h None each = each
  under-so_far h (Some f) each = under-field 0 f h each

  -- and as a whole
  under-told : (h : History) → settings_after h ≡ s → EndUnder s (told_plainly h).events → (text : List Event) → All IsOfText text
      → EndUnder s (told_plainly (text ++ h)).events
  under-told h same each [] of_text = each
  under-told h same each (e ∷ text) of_text =
      let others = All-tail IsOfText e text of_text in
      let filling = ap fills same ∙ measured in
      let here : settings_after (told_plainly (text ++ h)).events ≡ s =
      sym (settings_after-told (text ++ h)) ∙ settings_after-text h filling text others ∙ same in
      under-behind e (told_plainly (text ++ h)).events (told_plainly (text ++ h)).field (All-head IsOfText e text of_text) here
      (under-told h same each text others)

-- a history is clear: no word is open, so no field is
clear-told : (h : History) → IsClear (plain h) → told_plainly h ≡ unfielded (plain h)
clear-told h clear = told-unfielded h (is_in_field-closed h clear.no_open_word)

-- a text and then a break finish the lines of its words
pub finished_lines-behind_text : (text : List Event) (h : History) → IsClear (plain h) → fills (settings_after h) ≡ true
    → All IsOfText text
    → finished_lines (Break ∷ text ++ h)
    ≡ paragraph_lines (settings_after h) (lines_of (words (plain (text ++ h)))) ++ finished_lines h
finished_lines-behind_text text h clear measured each =
    let s = settings_after h in
    let here : settings_after (plain h) ≡ s = sym (settings_after-plain h) in
    let same : settings_after (plain (text ++ h)) ≡ settings_after (plain h) =
    sym (settings_after-plain (text ++ h)) ∙ settings_after-text h measured text each ∙ settings_after-plain h in
    let from : until_break (plain (text ++ h)) ≡ until_break (plain h) =
    until_break-plain (text ++ h) ∙ ap plain (until_break-text h measured text each) ∙ sym (until_break-plain h) in
    let none : words (told_plainly h).events ≡ [] = subst (λ t. words t.events ≡ []) (sym (clear-told h clear)) clear.no_words in
    let before : EndUnder s (told_plainly h).events = subst (All (λ w. w.under ≡ s)) (sym none) (All-nil (λ w. w.under ≡ s)) in
    let t = told_plainly (text ++ h) in
    let under : EndUnder s (plain (text ++ h)) =
    under-so_far s measured t.events t.field (under-told s measured h refl before text each) in
    let even = finished_lines-even (plain h) (plain (text ++ h)) clear same from
    (subst (λ r. EndUnder r (plain (text ++ h))) (sym here) under) in
    finished_lines-plain (Break ∷ text ++ h) ∙ even
    ∙ ap (λ r. paragraph_lines r (lines_of (words (plain (text ++ h)))) ++ lines_in (plain h)) here
    ∙ ap (λ ls. paragraph_lines s (lines_of (words (plain (text ++ h)))) ++ ls) (sym (finished_lines-plain h))

-- so do words that are told one after another
pub finished_lines-behind_words : (ws : List Word) (h : History) → IsClear (plain h) → temporary_indent (plain h) ≡ None
    → All (IsWordUnder (settings_after h)) ws
    → finished_lines (Break ∷ words_told ws h) ≡ paragraph_lines (settings_after h) (lines_of ws) ++ finished_lines h
finished_lines-behind_words ws h clear none each =
    let p = plain h in
    let all : plain (words_told ws h) ≡ words_told ws p = ap so_far (told-words_as ws h p (clear-told h clear)) in
    let under : All (IsWordUnder (settings_after p)) ws =
    subst (λ s. All (IsWordUnder s) ws) (settings_after-plain h) each in
    finished_lines-plain (Break ∷ words_told ws h)
    ∙ ap (λ i. lines_in (Break ∷ i)) all
    ∙ finished_lines-told ws p clear none under
    ∙ ap (λ s. paragraph_lines s (lines_of ws) ++ lines_in p) (sym (settings_after-plain h))
    ∙ ap (λ ls. paragraph_lines (settings_after h) (lines_of ws) ++ ls) (sym (finished_lines-plain h))
