-- What isn't text: it leaves the text as it was, and so a field in front of which it is told.
use Rattle.std.proofs.Common.{◌≡◌, ℕ, Bool, true, false, ◌∷◌, Option, Some, None, refl, sym, ap, ◌∙◌}
use Rattle.page_model.specs.declared.settings.Settings.{Settings}
use Rattle.page_model.specs.declared.settings.Param.{Param}
use Rattle.page_model.specs.declared.settings.Param.TheVariants.{Filling, Adjusting, Mode, LineLength, Indent, TemporaryIndent, Centring, Spacing, TitleLength, NoStops, Stop, RightStop, CentredStop}
use Rattle.page_model.specs.declared.event.Event.{Event}
use Rattle.page_model.specs.declared.event.Event.TheVariants.{Count, Interrupt, Resume, Set}
use Rattle.page_model.specs.Events.{History, settings_after, stops_after, is_interrupted}
use Rattle.page_model.specs.Glyphs.{text_width}
use Rattle.page_model.specs.Settings.{settings_with, temporary_with}
use Rattle.page_model.specs.TabStops.{TabStops, stops_with}
use Rattle.page_model.specs.Places.{has_line_glyph, input_place, moved}
use Rattle.page_model.specs.Words.{open_glyphs, last_word_glyphs, blanks, words, temporary_indent}
use Rattle.page_model.specs.LastLine.{newest_text, newest_width}
use Rattle.page_model.specs.Paragraphs.{finished_lines}
use Rattle.page_model.specs.Fields.{Field, Told, field_text, field_told, told_plainly, told_behind}
use Rattle.roff_lines.specs.Env.Kept.{Kept}
use Rattle.roff_lines.specs.Env.Stands.{StandsBehind, StandsPlain, StandsTold}
use Rattle.roff_lines.proofs.Fields.{blanks-field, finished_lines-field, has_line_glyph-field, input_place-field, is_interrupted-field, last_word_glyphs-field, open_glyphs-field, settings_after-field, stops_after-field, temporary_indent-field, words-field}
use Rattle.roff_lines.proofs.Standing.{in_field, left, left_in_field}

-- two histories have the same text: words, glyphs, blanks and finished lines, but for the place on the line
record SameText (h i : History) : Type 0 where
  pub words : words i ≡ words h
  pub open_glyphs : open_glyphs i ≡ open_glyphs h
  pub last_word : last_word_glyphs i ≡ last_word_glyphs h
  pub blanks : blanks i ≡ blanks h
  pub has_glyph : has_line_glyph i ≡ has_line_glyph h
  pub lines : finished_lines i ≡ finished_lines h

-- what is kept, with other things in force and at another place
abbrev changed : Settings → Option ℕ → TabStops → Bool → ℕ → Kept → Kept
changed settings indent stops interrupted place k = record k {
  settings = settings;
  temporary_indent = indent;
  stops = stops;
  place = place;
  is_interrupted = interrupted;
}

-- so it stands for the other one
module _ (line_cap : ℕ) (h i : History) (k : Kept) (same : SameText h i) (s : StandsPlain line_cap h k) where
  Stands-same : (settings : Settings) (indent : Option ℕ) (stops : TabStops) (interrupted : Bool) (place : ℕ)
      → settings ≡ settings_after i → indent ≡ temporary_indent i → stops ≡ stops_after i → interrupted ≡ is_interrupted i → place ≡ input_place i
      → StandsPlain line_cap i (changed settings indent stops interrupted place k)
  Stands-same settings indent stops interrupted place in_force pending at_stops on here = record {
    small = s.small;
    within = rw (same.words, same.open_glyphs, same.blanks) s.within;
    cap = s.cap;
    no_field = s.no_field;
    settings = in_force;
    temporary_indent = pending;
    stops = at_stops;
    has_line = rw same.words s.has_line;
    line = rw same.words s.line;
    indent = rw same.words s.indent;
    word = rw same.open_glyphs s.word;
    is_open = rw same.open_glyphs s.is_open;
    blanks = rw same.blanks s.blanks;
    has_glyph = rw same.has_glyph s.has_glyph;
    ends_sentence = rw same.last_word s.ends_sentence;
    place = here;
    is_interrupted = on;
    finished = s.finished ∙ sym (ap newest_text same.lines);
    last_width = s.last_width ∙ sym (ap newest_width same.lines);
  }

-- a field behind them has the same
SameText-field : (m : ℕ) (f : Field) (h i : History) → SameText h i → SameText (field_told m f h) (field_told m f i)
SameText-field m f h i same = record {
  words = words-field m f i ∙ same.words ∙ sym (words-field m f h);
  open_glyphs = open_glyphs-field m f i ∙ rw same.open_glyphs refl ∙ sym (open_glyphs-field m f h);
  last_word = last_word_glyphs-field m f i ∙ rw (same.open_glyphs, same.last_word) refl ∙ sym (last_word_glyphs-field m f h);
  blanks = blanks-field m f i ∙ rw (same.open_glyphs, same.blanks, same.last_word) refl ∙ sym (blanks-field m f h);
  has_glyph = has_line_glyph-field m f i ∙ sym (has_line_glyph-field m f h);
  lines = finished_lines-field m f i ∙ same.lines ∙ sym (finished_lines-field m f h);
}

-- an event that isn't text: it is told in front of an open field, and changes only what is in force
record Changes (e : Event) (settings : Settings → Settings) (indent : Option ℕ → Option ℕ) (stops : TabStops → TabStops)
    (interrupted : Bool → Bool) : Type 0 where
  pub told : (t : Told) → told_behind e t ≡ record t { events = e ∷ t.events }
  pub same : (h : History) → SameText h (e ∷ h)
  pub in_force : (h : History) → settings_after (e ∷ h) ≡ settings (settings_after h)
  pub pending : (h : History) → temporary_indent (e ∷ h) ≡ indent (temporary_indent h)
  pub at_stops : (h : History) → stops_after (e ∷ h) ≡ stops (stops_after h)
  pub on : (h : History) → is_interrupted (e ∷ h) ≡ interrupted (is_interrupted h)
  pub place : (h : History) → input_place (e ∷ h) ≡ input_place h

module _ (e : Event) (settings : Settings → Settings) (indent : Option ℕ → Option ℕ) (stops : TabStops → TabStops)
    (interrupted : Bool → Bool) (c : Changes e settings indent stops interrupted) where
  abbrev behind : Kept → Kept
  behind k = changed (settings k.settings) (indent k.temporary_indent) (stops k.stops) (interrupted k.is_interrupted) k.place k

  -- behind a plain history
  changed_plain : (line_cap : ℕ) (h : History) (k : Kept) → StandsPlain line_cap h k → StandsPlain line_cap (e ∷ h) (behind k)
  changed_plain line_cap h k s =
      Stands-same line_cap h (e ∷ h) k (c.same h) s (settings k.settings) (indent k.temporary_indent) (stops k.stops) (interrupted k.is_interrupted) k.place
      (ap settings s.settings ∙ sym (c.in_force h)) (ap indent s.temporary_indent ∙ sym (c.pending h)) (ap stops s.stops ∙ sym (c.at_stops h))
      (ap interrupted s.is_interrupted ∙ sym (c.on h)) (s.place ∙ sym (c.place h))

  -- in front of a field
  changed_field : (line_cap : ℕ) (h : History) (f : Field) (k : Kept) → StandsPlain line_cap (field_told 0 f h) k
      → StandsPlain line_cap (field_told 0 f (e ∷ h)) (behind k)
  changed_field line_cap h f k s =
      let i : History = e ∷ h in
      Stands-same line_cap (field_told 0 f h) (field_told 0 f i) k (SameText-field 0 f h i (c.same h)) s
      (settings k.settings) (indent k.temporary_indent) (stops k.stops) (interrupted k.is_interrupted) k.place
      (ap settings (s.settings ∙ settings_after-field 0 f h) ∙ sym (c.in_force h) ∙ sym (settings_after-field 0 f i))
      (ap indent (s.temporary_indent ∙ temporary_indent-field 0 f h) ∙ sym (c.pending h) ∙ sym (temporary_indent-field 0 f i))
      (ap stops (s.stops ∙ stops_after-field 0 f h) ∙ sym (c.at_stops h) ∙ sym (stops_after-field 0 f i))
      (ap interrupted (s.is_interrupted ∙ is_interrupted-field 0 f h) ∙ sym (c.on h) ∙ sym (is_interrupted-field 0 f i))
      (s.place ∙ input_place-field 0 f h ∙ ap (λ p. moved f.gap (moved (text_width (field_text f)) (moved 0 p))) (sym (c.place h))
      ∙ sym (input_place-field 0 f i))

  changed_told : (line_cap : ℕ) (h : History) (f : Option Field) (k : Kept) → StandsTold line_cap h f k → StandsTold line_cap (e ∷ h) f (behind k)
  changed_told line_cap h None k s = changed_plain line_cap h k s
  changed_told line_cap h (Some f) k s =
      in_field line_cap (e ∷ h) f (behind k) s.field s.field_is s.way s.is_centred s.text s.gap s.none_open
      (changed_field line_cap h f (left s.field k) (left_in_field line_cap h f k s))

  -- what is kept behind it stands for the history with it
  StandsBehind-change : (k : Kept) → StandsBehind k e (behind k)
  StandsBehind-change k line_cap h s =
      rw c.told (changed_told line_cap (told_plainly h).events (told_plainly h).field k s)

-- each of these is one
text_before : (e : Event) (h : History) → words (e ∷ h) ≡ words h → open_glyphs (e ∷ h) ≡ open_glyphs h
    → last_word_glyphs (e ∷ h) ≡ last_word_glyphs h → blanks (e ∷ h) ≡ blanks h → has_line_glyph (e ∷ h) ≡ has_line_glyph h
    → finished_lines (e ∷ h) ≡ finished_lines h → SameText h (e ∷ h)
text_before e h all glyphs last gap glyph lines =
    record { words = all; open_glyphs = glyphs; last_word = last; blanks = gap; has_glyph = glyph; lines = lines }

pub Stands-count : (k : Kept) → StandsBehind k Count k
Stands-count k =
    StandsBehind-change Count (λ s. s) (λ i. i) (λ t. t) (λ b. b) (record {
      told = λ t. refl;
      same = λ h. text_before Count h refl refl refl refl refl refl;
      in_force = λ h. refl;
      pending = λ h. refl;
      at_stops = λ h. refl;
      on = λ h. refl;
      place = λ h. refl;
    }) k

pub Stands-interrupt : (k : Kept) → StandsBehind k Interrupt (record k { is_interrupted = true })
Stands-interrupt k =
    StandsBehind-change Interrupt (λ s. s) (λ i. i) (λ t. t) (λ b. true) (record {
      told = λ t. refl;
      same = λ h. text_before Interrupt h refl refl refl refl refl refl;
      in_force = λ h. refl;
      pending = λ h. refl;
      at_stops = λ h. refl;
      on = λ h. refl;
      place = λ h. refl;
    }) k

pub Stands-resume : (k : Kept) → StandsBehind k Resume (record k { is_interrupted = false })
Stands-resume k =
    StandsBehind-change Resume (λ s. s) (λ i. i) (λ t. t) (λ b. false) (record {
      told = λ t. refl;
      same = λ h. text_before Resume h refl refl refl refl refl refl;
      in_force = λ h. refl;
      pending = λ h. refl;
      at_stops = λ h. refl;
      on = λ h. refl;
      place = λ h. refl;
    }) k

Stands-set : (p : Param) (k : Kept) → StandsBehind k (Set p)
    (record k { settings = settings_with p k.settings; temporary_indent = temporary_with p k.temporary_indent; stops = stops_with p k.stops })
Stands-set p k =
    StandsBehind-change (Set p) (settings_with p) (temporary_with p) (stops_with p) (λ b. b) (record {
      told = λ t. refl;
      same = λ h. text_before (Set p) h refl refl refl refl refl refl;
      in_force = λ h. refl;
      pending = λ h. refl;
      at_stops = λ h. refl;
      on = λ h. refl;
      place = λ h. refl;
    }) k

-- however the new values were found
pub Stands-set_as : (p : Param) (k : Kept) (settings : Settings) (indent : Option ℕ) (stops : TabStops) → settings ≡ settings_with p k.settings
    → indent ≡ temporary_with p k.temporary_indent → stops ≡ stops_with p k.stops
    → StandsBehind k (Set p) (record k { settings = settings; temporary_indent = indent; stops = stops })
Stands-set_as p k settings indent stops in_force pending at_stops line_cap h s =
    rw (in_force, pending, at_stops) (Stands-set p k line_cap h s)

-- a change of another kind leaves the indent that is pending
pub temporary_with-other : (p : Param) (i : Option ℕ) → ((n : ℕ) → p ≡ TemporaryIndent n → ⊥) → i ≡ temporary_with p i
temporary_with-other (Filling b) i other = refl
temporary_with-other (Adjusting b) i other = refl
temporary_with-other (Mode m) i other = refl
temporary_with-other (LineLength n) i other = refl
temporary_with-other (Indent n) i other = refl
temporary_with-other (TemporaryIndent n) i other = absurd (other n refl)
temporary_with-other (Centring n) i other = refl
temporary_with-other (Spacing n) i other = refl
temporary_with-other (TitleLength n) i other = refl
temporary_with-other NoStops i other = refl
temporary_with-other (Stop n) i other = refl
temporary_with-other (RightStop n) i other = refl
temporary_with-other (CentredStop n) i other = refl
