-- Fields (manual, section 9.1): what stands behind a tab to a stop at which text ends, or has its middle.
--
-- The text of a field is moved as a whole, once the field ends. So what happened is told anew without fields: a field is a motion
-- and its glyphs behind that, all of one word, which no blank parts. What is told so is a plain history: each of its tabs has
-- the columns up to its stop, and its glyphs, gaps, words and lines are those of the definitions over histories.
use Rattle.std.specs.Prelude.{ℕ, ◌+◌, ◌-◌, ◌/◌, Bool, true, false, List, [], ◌∷◌, ◌++◌, map, reverse, Option, Some, None, is_some, if◌then◌else◌, ◌==◌}
use Rattle.std.specs.List.{flat_map}
use Rattle.page_model.specs.declared.glyph.Glyph.{Glyph}
use Rattle.page_model.specs.declared.glyph.Glyph.TheVariants.{Blanks}
use Rattle.page_model.specs.Glyphs.{glyph_text, text_width}
use Rattle.page_model.specs.TabStops.{Way, AtLeft, AtRight, InMiddle, way_to_next}
use Rattle.page_model.specs.Events.{Event, Print, Tab, FieldEnd, WordEnd, Gap, LineEnd, Break, History, stops_after}
use Rattle.page_model.specs.Places.{input_place}

-- a field that is open: the columns from its tab to its stop, and whether its text has its middle there; its glyphs, the newest
-- first, and the blanks of a gap behind these
pub record Field : Type 0 where
  pub way : ℕ
  pub is_centred : Bool
  pub glyphs : List Glyph
  pub gap : ℕ

-- the text of a field, without a gap at its end
abbrev pub field_text : Field → List ℕ
field_text f = flat_map glyph_text (reverse f.glyphs)

-- The columns in front of a field's text: the text ends at the stop, or has its middle there, where half of its columns, rounded down,
-- stand in front of the stop. It begins at the tab where what is to stand in front of the stop is longer than the way to that.
abbrev pub motion : Field → ℕ
motion f = f.way - (if f.is_centred then text_width (field_text f) / 2 else text_width (field_text f))

-- a field, and behind it a glyph: a gap in front of the glyph is of the same word
abbrev pub with_glyph : Glyph → Field → Field
with_glyph g f = record f {
  glyphs = g ∷ (if f.gap == 0 then f.glyphs else Blanks f.gap ∷ f.glyphs);
  gap = 0;
}

-- a field, and behind it so many blanks of a gap
abbrev pub with_gap : ℕ → Field → Field
with_gap n f = record f { gap = f.gap + n }

-- a field without a gap at its end
abbrev pub without_gap : Field → Field
without_gap f = record f { gap = 0 }

-- what happened, told without fields, up to the tab of the field that is open, if one is
pub record Told : Type 0 where
  pub events : History
  pub field : Option Field

-- a history, and behind it a motion and a field's glyphs, of one word; a gap at the field's end moves only the place on the line
abbrev pub field_told : ℕ → Field → History → History
field_told columns f h = Gap f.gap ∷ (map Print f.glyphs ++ Print (Blanks columns) ∷ h)

-- all that happened so far; an open field begins at its tab
abbrev pub so_far : Told → History
so_far t = elim t.field [ None ↦ t.events | Some f ↦ field_told 0 f t.events ]

-- behind the end of the field that is open, if one is
abbrev pub field_ended : Told → History
field_ended t = elim t.field [ None ↦ t.events | Some f ↦ field_told (motion f) f t.events ]

-- behind a field that a tab ends: a gap at its end ends the word before it
abbrev pub gap_ended : Field → History → History
gap_ended f h = if f.gap == 0 then h else Gap f.gap ∷ WordEnd ∷ h

-- in front of a tab
abbrev pub tab_reached : Told → History
tab_reached t = elim t.field [ None ↦ t.events | Some f ↦ gap_ended f (field_told (motion f) (without_gap f) t.events) ]

-- with no field open
abbrev pub unfielded : History → Told
unfielded h = record { events = h; field = None }

-- with a field open behind a tab
abbrev pub opened : ℕ → Bool → History → Told
opened way is_centred h = record {
  events = h;
  field = Some (record { way = way; is_centred = is_centred; glyphs = []; gap = 0 });
}

-- behind a tab: it opens a field where its stop is of that kind
abbrev pub tab_told : Option Way → History → Told
tab_told None h = unfielded (Tab ∷ h)
tab_told (Some way) h =
    elim way.kind [
      | AtLeft ↦ unfielded (Tab ∷ h)
      | AtRight ↦ opened way.columns false h
      | InMiddle ↦ opened way.columns true h
    ]

-- behind an event. In a field a word end ends nothing, and what isn't text is told in front of the field, as its order with
-- glyphs changes nothing. A line end or break before which the field wasn't ended leaves its text at the tab.
abbrev pub told_behind : Event → Told → Told
told_behind (Print g) t = elim t.field [ None ↦ unfielded (Print g ∷ t.events) | Some f ↦ record t { field = Some (with_glyph g f) } ]
told_behind (Gap n) t = elim t.field [ None ↦ unfielded (Gap n ∷ t.events) | Some f ↦ record t { field = Some (with_gap n f) } ]
told_behind WordEnd t = elim t.field [ None ↦ unfielded (WordEnd ∷ t.events) | Some f ↦ t ]
told_behind Tab t = let h = tab_reached t in tab_told (way_to_next (stops_after h) (input_place h)) h
told_behind FieldEnd t = unfielded (field_ended t)
told_behind LineEnd t = unfielded (LineEnd ∷ so_far t)
told_behind Break t = unfielded (Break ∷ so_far t)
told_behind e t = record t { events = e ∷ t.events }

-- what happened, told without fields
abbrev pub told_plainly : History → Told
told_plainly [] = unfielded []
told_plainly (e ∷ h) = told_behind e (told_plainly h)

-- whether a field is open
abbrev pub is_in_field : History → Bool
is_in_field h = is_some (told_plainly h).field

-- all that happened so far, without fields
abbrev pub plain : History → History
plain h = so_far (told_plainly h)
