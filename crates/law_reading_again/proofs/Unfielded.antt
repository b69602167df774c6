-- Histories behind which no field is open: what is told of them without fields.
use Rattle.std.proofs.Common.{◌≡◌, ℕ, List, [], ◌∷◌, ◌++◌, map, Option, Some, None, refl, ap, ◌∙◌, ◌==◌}
use Rattle.std.proofs.lemmas.Bool.{cond_both}
use Rattle.page_model.specs.declared.event.Event.{Event}
use Rattle.page_model.specs.declared.event.Event.TheVariants.{Print, Tab, FieldEnd, WordEnd, Gap, LineEnd, Count, Break, Interrupt, Resume, Set}
use Rattle.page_model.specs.declared.glyph.Glyph.{Glyph}
use Rattle.page_model.specs.declared.glyph.Glyph.TheVariants.{Blanks}
use Rattle.page_model.specs.declared.stop.StopKind.{StopKind}
use Rattle.page_model.specs.declared.stop.StopKind.TheVariants.{Left as AtLeft, Right as AtRight, Centred as InMiddle}
use Rattle.page_model.specs.Events.{History, settings_after, stops_after}
use Rattle.page_model.specs.Fields.{Field, Told, field_told, gap_ended, motion, plain, so_far, tab_told, told_plainly, told_behind, unfielded, without_gap}
use Rattle.page_model.specs.Places.{input_place}
use Rattle.page_model.specs.Settings.{counted, settings_with}
use Rattle.page_model.specs.TabStops.{Way, way_to_next}
use Rattle.page_model.specs.Words.{open_glyphs}

-- a field changes nothing of what is in force
settings_after-glyphs : (h : History) (gs : List Glyph) → settings_after (map Print gs ++ h) ≡ settings_after h
settings_after-glyphs h [] = refl
settings_after-glyphs h (g ∷ gs) = settings_after-glyphs h gs

settings_after-field : (columns : ℕ) (f : Field) (h : History) → settings_after (field_told columns f h) ≡ settings_after h
settings_after-field columns f h = settings_after-glyphs (Print (Blanks columns) ∷ h) f.glyphs

-- nor does a tab
settings_after-tab : (columns : ℕ) (kind : StopKind) (h : History)
    → settings_after (tab_told (Some (record { columns = columns; kind = kind })) h).events ≡ settings_after h
settings_after-tab columns AtLeft h = refl
settings_after-tab columns AtRight h = refl
settings_after-tab columns InMiddle h = refl

settings_after-way : (way : Option Way) (h : History) → settings_after (tab_told way h).events ≡ settings_after h
settings_after-way None h = refl
settings_after-way (Some way) h = settings_after-tab way.columns way.kind h

-- so what is in force behind an event is the same told without fields
settings_after-behind : (e : Event) (h : History) (field : Option Field)
    → settings_after (let t : Told = record { events = h; field = field } in told_behind e t).events ≡ settings_after (e ∷ h)
settings_after-behind (Print g) h None = refl
settings_after-behind (Print g) h (Some f) = refl
settings_after-behind Tab h None = settings_after-way (way_to_next (stops_after h) (input_place h)) h
settings_after-behind Tab h (Some f) =
    let moved : History = field_told (motion f) (without_gap f) h in
    let reached : History = gap_ended f moved in
    settings_after-way (way_to_next (stops_after reached) (input_place reached)) reached
    ∙ cond_both (f.gap == 0) moved (Gap f.gap ∷ WordEnd ∷ moved) (λ i. settings_after i ≡ settings_after moved) (λ _. refl) (λ _. refl)
    ∙ settings_after-field (motion f) (without_gap f) h
settings_after-behind FieldEnd h None = refl
settings_after-behind FieldEnd h (Some f) = settings_after-field (motion f) f h
settings_after-behind WordEnd h None = refl
settings_after-behind WordEnd h (Some f) = refl
settings_after-behind (Gap n) h None = refl
settings_after-behind (Gap n) h (Some f) = refl
settings_after-behind LineEnd h None = refl
settings_after-behind LineEnd h (Some f) = ap counted (settings_after-field 0 f h)
settings_after-behind Break h None = refl
settings_after-behind Break h (Some f) = settings_after-field 0 f h
settings_after-behind Count h field = refl
settings_after-behind Interrupt h field = refl
settings_after-behind Resume h field = refl
settings_after-behind (Set p) h field = refl

same-settings : (e : Event) (h i : History) → settings_after h ≡ settings_after i → settings_after (e ∷ h) ≡ settings_after (e ∷ i)
same-settings (Set p) h i same = ap (settings_with p) same
same-settings LineEnd h i same = ap counted same
same-settings (Print g) h i same = same
same-settings Tab h i same = same
same-settings FieldEnd h i same = same
same-settings WordEnd h i same = same
same-settings (Gap n) h i same = same
same-settings Count h i same = same
same-settings Break h i same = same
same-settings Interrupt h i same = same
same-settings Resume h i same = same

settings_after-told : (h : History) → settings_after (told_plainly h).events ≡ settings_after h
settings_after-told [] = refl
settings_after-told (e ∷ h) =
    settings_after-behind e (told_plainly h).events (told_plainly h).field ∙ same-settings e (told_plainly h).events h (settings_after-told h)

settings_after-so_far : (h : History) (field : Option Field)
    → settings_after (let t : Told = record { events = h; field = field } in so_far t) ≡ settings_after h
settings_after-so_far h None = refl
settings_after-so_far h (Some f) = settings_after-field 0 f h

pub settings_after-plain : (h : History) → settings_after (plain h) ≡ settings_after h
settings_after-plain h = settings_after-so_far (told_plainly h).events (told_plainly h).field ∙ settings_after-told h

-- in a field a word is open, so where none is, no field is open
no_glyphs-field : (columns : ℕ) (h : History) (gs : List Glyph) → open_glyphs (map Print gs ++ Print (Blanks columns) ∷ h) ≡ [] → ⊥
no_glyphs-field columns h [] none = cc
no_glyphs-field columns h (g ∷ gs) none = cc

unfielded-so_far : (h : History) (field : Option Field)
    → let t : Told = record { events = h; field = field } in open_glyphs (so_far t) ≡ [] → t ≡ unfielded (so_far t)
unfielded-so_far h None none = refl
unfielded-so_far h (Some f) none = absurd (no_glyphs-field 0 h f.glyphs none)

pub told-no_glyphs : (h : History) → open_glyphs (plain h) ≡ [] → told_plainly h ≡ unfielded (plain h)
told-no_glyphs h none = unfielded-so_far (told_plainly h).events (told_plainly h).field none
