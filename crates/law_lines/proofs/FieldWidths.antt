-- Where the text of a field stands once the field has ended, and how wide lines are.
use Rattle.std.proofs.Common.{◌≡◌, ℕ, ◌+◌, ◌-◌, ◌/◌, Bool, true, false, List, [], ◌∷◌, ◌++◌, map, reverse, Option, Some, None, refl, sym, ap, subst, ◌∙◌, arith, if◌then◌else◌, ◌==◌, max, IfSome, is_some}
use Rattle.std.proofs.lemmas.Bool.{cond_both}
use Rattle.std.proofs.lemmas.List.{reverse-append}
use Rattle.std.proofs.lemmas.List.Sums.{sum_by-cons, sum_by-append}
use Rattle.page_model.specs.declared.glyph.Glyph.{Glyph}
use Rattle.page_model.specs.declared.glyph.Glyph.TheVariants.{Blanks}
use Rattle.page_model.specs.declared.stop.StopKind.{StopKind}
use Rattle.page_model.specs.declared.stop.StopKind.TheVariants.{Left as AtLeft, Right as AtRight, Centred as InMiddle}
use Rattle.page_model.specs.declared.event.Event.{Event}
use Rattle.page_model.specs.declared.event.Event.TheVariants.{Print, Tab, FieldEnd, WordEnd, Gap, LineEnd, Break}
use Rattle.page_model.specs.Glyphs.{glyph_width, text_width}
use Rattle.page_model.specs.Events.{History, stops_after}
use Rattle.page_model.specs.TabStops.{columns_of_way, way_to_next}
use Rattle.page_model.specs.Places.{moved, input_place as place_in}
use Rattle.page_model.specs.Lines.{finished_in}
use Rattle.page_model.specs.LastLine.{EndsAtWidth}
use Rattle.page_model.specs.Telling.{glyphs_told}
use Rattle.page_model.specs.Fields.{Field, Told, field_text, field_told, motion, opened, plain, so_far, tab_told, told_plainly, told_behind, without_gap}
use Rattle.page_model.specs.Behind.{finished, input_place}
use Rattle.law_lines.specs.FieldLaws.{StandsAtStop, MovesField, TabLeads, glyphs_width}
use Rattle.roff_lines.proofs.Fields.{text_width-glyphs, input_place-field, input_place-motion}
use Rattle.roff_lines.proofs.LastLine.{EndsAtWidth-finished}
use Rattle.roff_lines.proofs.Told.{told_as, finished_told, finished_told-is, stops_after-plain}
use Rattle.roff_lines.proofs.Unfielded.{told-unfielded}

-- text that ends at a right stop
ends_at : (centred : Bool) (way width : ℕ) → centred ≡ false → way - (if centred then width / 2 else width) + width ≡ max way width
ends_at true way width right = cc
ends_at false way width right = omega arith

-- text that has its middle at a centred one
middle_at : (centred : Bool) (way width : ℕ) → centred ≡ true
    → way - (if centred then width / 2 else width) + width / 2 ≡ max way (width / 2)
middle_at true way width is = omega arith
middle_at false way width is = cc

-- so a field's text stands at its stop
pub stands_at_stop : (f : Field) → StandsAtStop f
stands_at_stop f = record {
  right = ends_at f.is_centred f.way (text_width (field_text f));
  centred = middle_at f.is_centred f.way (text_width (field_text f));
}

-- what is told behind the end of an open field
field_end_told : (h : History) (f : Field) (t : Told) → t.field ≡ Some f
    → so_far (told_behind FieldEnd t) ≡ field_told (motion f) f t.events
field_end_told h f t is =
    ap (λ field. so_far (told_behind FieldEnd (told_as t.events field))) is

in_field_told : (f : Field) (t : Told) → t.field ≡ Some f → so_far t ≡ field_told 0 f t.events
in_field_told f t is = ap (λ field. so_far (told_as t.events field)) is

-- the end of a field moves its text as a whole
pub moves_field : (h : History) (f : Field) → (told_plainly h).field ≡ Some f → MovesField h f
moves_field h f is =
    let behind = field_end_told h f (told_plainly h) is in
    record {
      told = behind;
      place =
          ap place_in behind ∙ input_place-motion (motion f) f (told_plainly h).events
          ∙ ap (λ i. moved (motion f) (place_in i)) (sym (in_field_told f (told_plainly h) is));
    }

-- the widths of glyphs, in either order
glyphs_width-reverse : (gs : List Glyph) → glyphs_width (reverse gs) ≡ glyphs_width gs
glyphs_width-reverse [] = refl
glyphs_width-reverse (g ∷ gs) =
    let turned : glyphs_width (reverse (g ∷ gs)) ≡ glyphs_width (reverse gs ++ g ∷ []) = ap glyphs_width (reverse-append (g ∷ []) gs) in
    let last = sum_by-append glyph_width (reverse gs) (g ∷ []) in
    omega (arith, turned, last, sum_by-cons glyph_width g [], sum_by-cons glyph_width g gs, glyphs_width-reverse gs)

-- a field of these glyphs, with no gap behind them
abbrev field_of : ℕ → Bool → List Glyph → Field
field_of way centred glyphs = record { way = way; is_centred = centred; glyphs = glyphs; gap = 0 }

-- glyphs that are told in it are its
told-in_field : (h i : History) (way : ℕ) (centred : Bool) → told_plainly h ≡ opened way centred i → (gs : List Glyph)
    → told_plainly (map Print gs ++ h) ≡ told_as i (Some (field_of way centred gs))
told-in_field h i way centred is [] = is
told-in_field h i way centred is (g ∷ gs) = ap (told_behind (Print g)) (told-in_field h i way centred is gs)

-- the place behind it, once it has ended
module _ (h i : History) (way : ℕ) (centred : Bool) (is : told_plainly h ≡ opened way centred i) (glyphs : List Glyph) where
  place_behind : input_place (FieldEnd ∷ glyphs_told glyphs h)
      ≡ moved (motion (field_of way centred (reverse glyphs)) + glyphs_width glyphs) (place_in i)
  place_behind =
      let f = field_of way centred (reverse glyphs) in
      let behind : plain (FieldEnd ∷ glyphs_told glyphs h) ≡ field_told (motion f) f i =
      ap (λ t. so_far (told_behind FieldEnd t)) (told-in_field h i way centred is (reverse glyphs)) in
      let width : text_width (field_text f) ≡ glyphs_width glyphs = text_width-glyphs (reverse glyphs) ∙ glyphs_width-reverse glyphs in
      ap place_in behind ∙ omega (arith, input_place-field (motion f) f i, width)

  width_is : text_width (field_text (field_of way centred (reverse glyphs))) ≡ glyphs_width glyphs
  width_is = text_width-glyphs (reverse glyphs) ∙ glyphs_width-reverse glyphs

-- a tab to such a stop opens a field
opens : (h : History) (kind : StopKind) (n : ℕ) → TabLeads h kind n
    → told_plainly (Tab ∷ h) ≡ tab_told (Some (record { columns = n; kind = kind })) (plain h)
opens h kind n leads =
    ap (told_behind Tab) (told-unfielded h leads.none)
    ∙ ap (λ way. tab_told way (plain h)) (ap (λ s. way_to_next s (input_place h)) (sym (stops_after-plain h)) ∙ leads.way)

-- so the place behind glyphs that are told then
pub place-right : (h : History) (n : ℕ) (glyphs : List Glyph) → TabLeads h AtRight n
    → input_place (FieldEnd ∷ glyphs_told glyphs (Tab ∷ h)) ≡ moved (max n (glyphs_width glyphs)) (input_place h)
place-right h n glyphs leads =
    let f = field_of n false (reverse glyphs) in
    let is = opens h AtRight n leads in
    let all : motion f + glyphs_width glyphs ≡ max n (glyphs_width glyphs) =
    omega (arith, width_is (Tab ∷ h) (plain h) n false is glyphs) in
    place_behind (Tab ∷ h) (plain h) n false is glyphs ∙ ap (λ columns. moved columns (input_place h)) all

pub place-centred : (h : History) (n : ℕ) (glyphs : List Glyph) → TabLeads h InMiddle n
    → input_place (FieldEnd ∷ glyphs_told glyphs (Tab ∷ h))
    ≡ moved (n - glyphs_width glyphs / 2 + glyphs_width glyphs) (input_place h)
place-centred h n glyphs leads =
    let is = opens h InMiddle n leads in
    place_behind (Tab ∷ h) (plain h) n true is glyphs
    ∙ ap (λ width. moved (n - width / 2 + glyphs_width glyphs) (input_place h)) (width_is (Tab ∷ h) (plain h) n true is glyphs)

-- behind a tab to a left stop, that stop is the place
pub place-left : (h : History) (n : ℕ) → TabLeads h AtLeft n → input_place (Tab ∷ h) ≡ moved n (input_place h)
place-left h n leads =
    let way : way_to_next (stops_after (plain h)) (input_place h) ≡ Some (record { columns = n; kind = AtLeft }) =
    ap (λ s. way_to_next s (input_place h)) (sym (stops_after-plain h)) ∙ leads.way in
    ap (λ t. place_in (so_far t)) (opens h AtLeft n leads) ∙ ap (λ w. moved (columns_of_way w) (input_place h)) way

-- no gap stands at the end of a field
ended_by : (n : ℕ) (h : History) → n ≡ 0 → (if n == 0 then Gap 0 ∷ h else Gap n ∷ WordEnd ∷ Gap 0 ∷ h) ≡ Gap n ∷ h
ended_by n h none = rw none refl

-- then a tab does what it does behind the field's end
tab_behind : (h : History) (f : Field) → f.gap ≡ 0
    → told_behind Tab (told_as h (Some f)) ≡ told_behind Tab (told_behind FieldEnd (told_as h (Some f)))
tab_behind h f none =
    let Behind : History → Told = λ i. tab_told (way_to_next (stops_after i) (place_in i)) i in
    ap Behind (ended_by f.gap (map Print f.glyphs ++ Print (Blanks (motion f)) ∷ h) none)

pub tab_ends_field : (h : History) (f : Field) → (told_plainly h).field ≡ Some f → f.gap ≡ 0 → told_plainly (Tab ∷ h) ≡ told_plainly (Tab ∷ FieldEnd ∷ h)
tab_ends_field h f is none =
    let events = (told_plainly h).events in
    ap (λ field. told_behind Tab (told_as events field)) is ∙ tab_behind events f none
    ∙ ap (λ field. told_behind Tab (told_behind FieldEnd (told_as events field))) (sym is)

-- the text of a line that a tab finishes ends at its width
EndsAtWidth-tab : (h : History) (field : Option Field) → IfSome (finished_told Tab (told_as h field)) EndsAtWidth
EndsAtWidth-tab h None = tt
EndsAtWidth-tab h (Some f) =
    cond_both (f.gap == 0) None (finished_in (field_told (motion f) (without_gap f) h) WordEnd) (λ o. IfSome o EndsAtWidth)
    (λ _. tt) (λ _. EndsAtWidth-finished (field_told (motion f) (without_gap f) h) WordEnd)

-- so does that of each finished line
EndsAtWidth-told : (e : Event) (t : Told) → IfSome (finished_told e t) EndsAtWidth
EndsAtWidth-told Tab t = EndsAtWidth-tab t.events t.field
EndsAtWidth-told WordEnd t =
    cond_both (is_some t.field) None (finished_in (so_far t) WordEnd) (λ o. IfSome o EndsAtWidth)
    (λ _. tt) (λ _. EndsAtWidth-finished (so_far t) WordEnd)
EndsAtWidth-told LineEnd t = EndsAtWidth-finished (so_far t) LineEnd
EndsAtWidth-told Break t = EndsAtWidth-finished (so_far t) Break
EndsAtWidth-told (_) t = tt

pub EndsAtWidth-behind : (h : History) (e : Event) → IfSome (finished h e) EndsAtWidth
EndsAtWidth-behind h e = subst (λ o. IfSome o EndsAtWidth) (sym (finished_told-is e h)) (EndsAtWidth-told e (told_plainly h))
