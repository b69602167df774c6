-- Where the text of a field stands once the field has ended, and histories without fields.
use Rattle.std.specs.Prelude.{◌≡◌, ℕ, ◌+◌, ◌/◌, true, false, List, [], ◌∷◌, max, Some, sum_by}
use Rattle.page_model.specs.declared.glyph.Glyph.{Glyph}
use Rattle.page_model.specs.declared.settings.Param.TheVariants.{RightStop, CentredStop}
use Rattle.page_model.specs.declared.stop.StopKind.{StopKind}
use Rattle.page_model.specs.declared.event.Event.{Event}
use Rattle.page_model.specs.declared.event.Event.TheVariants.{FieldEnd, Set}
use Rattle.page_model.specs.Glyphs.{glyph_width, text_width}
use Rattle.page_model.specs.Events.{History, stops_after}
use Rattle.page_model.specs.TabStops.{way_to_next}
use Rattle.page_model.specs.Places.{moved}
use Rattle.page_model.specs.Fields.{Field, field_text, field_told, is_in_field, motion, plain, told_plainly}
use Rattle.page_model.specs.Behind.{input_place}

-- The text of a field ends at a right stop, and has its middle at a centred one: half of its columns, rounded down, stand in front
-- of that. Where what is to stand in front of the stop is longer than the way there, the text begins at the tab.
pub record StandsAtStop (f : Field) : Type 0 where
  pub right : f.is_centred ≡ false → motion f + text_width (field_text f) ≡ max f.way (text_width (field_text f))
  pub centred : f.is_centred ≡ true
      → motion f + text_width (field_text f) / 2 ≡ max f.way (text_width (field_text f) / 2)

-- the end of an open field moves its text as a whole: what is told behind its tab is the motion, and then its glyphs
pub record MovesField (h : History) (f : Field) : Type 0 where
  pub told : plain (FieldEnd ∷ h) ≡ field_told (motion f) f (told_plainly h).events
  pub place : input_place (FieldEnd ∷ h) ≡ moved (motion f) (input_place h)

-- no field is open, and a tab leads so many columns, to a stop of this kind
pub record TabLeads (h : History) (kind : StopKind) (columns : ℕ) : Type 0 where
  pub none : is_in_field h ≡ false
  pub way : way_to_next (stops_after h) (input_place h) ≡ Some (record { columns = columns; kind = kind })

-- the columns of glyphs
abbrev pub glyphs_width : List Glyph → ℕ
glyphs_width glyphs = sum_by glyph_width glyphs

-- an event that sets no stop at which text ends, or has its middle
abbrev pub SetsNoField : Event → Type 0
SetsNoField (Set (RightStop n)) = ⊥
SetsNoField (Set (CentredStop n)) = ⊥
SetsNoField (_) = Unit {0}

-- a history without the ends of fields
abbrev pub without_field_ends : History → History
without_field_ends [] = []
without_field_ends (FieldEnd ∷ h) = without_field_ends h
without_field_ends (e ∷ h) = e ∷ without_field_ends h
