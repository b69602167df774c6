-- A history in which no stop is set at which text ends, or has its middle, has no field.
use Rattle.std.proofs.Common.{◌≡◌, ℕ, List, [], ◌∷◌, ◌++◌, Option, Some, None, refl, ap, length, All, nat_le, nat_lt}
use Rattle.std.proofs.lemmas.Bool.{cond_both}
use Rattle.std.proofs.lemmas.List.Elements.{All-head, All-tail}
use Rattle.page_model.specs.declared.settings.Param.{Param}
use Rattle.page_model.specs.declared.settings.Param.TheVariants.{NoStops, Stop, RightStop, CentredStop}
use Rattle.page_model.specs.declared.stop.TabStop.{TabStop}
use Rattle.page_model.specs.declared.stop.StopKind.TheVariants.{Left as AtLeft}
use Rattle.page_model.specs.declared.event.Event.TheVariants.{Tab, FieldEnd, Set}
use Rattle.page_model.specs.Events.{History, stops_after}
use Rattle.page_model.specs.TabStops.{TabStops, Way, with_stop_set, stops_with, way_beyond, shorter_way, way_to_nearest, way_to_next}
use Rattle.page_model.specs.Places.{input_place}
use Rattle.page_model.specs.Fields.{plain, so_far, told_plainly, unfielded}
use Rattle.law_lines.specs.FieldLaws.{SetsNoField, without_field_ends}
use Rattle.roff_lines.proofs.Unfielded.{told-event_as, told-tab_as, told-field_end_as}

-- text begins at each of some stops
abbrev AreLeft : List TabStop → Type 0
AreLeft [] = Unit {0}
AreLeft (s ∷ stops) = (s.kind ≡ AtLeft) × AreLeft stops

abbrev LeftStops : TabStops → Type 0
LeftStops None = Unit {0}
LeftStops (Some stops) = AreLeft stops

-- and at the one to which a way leads, if one does
abbrev IsLeft : Option Way → Type 0
IsLeft None = Unit {0}
IsLeft (Some way) = way.kind ≡ AtLeft

-- one more at which it does
AreLeft-append : (n : ℕ) (stops : List TabStop) → AreLeft stops → AreLeft (stops ++ record { column = n; kind = AtLeft } ∷ [])
AreLeft-append n [] left = (refl, tt)
AreLeft-append n (s ∷ stops) left = (left.0, AreLeft-append n stops left.1)

LeftStops-with : (n : ℕ) (stops : TabStops) → LeftStops stops → LeftStops (with_stop_set (record { column = n; kind = AtLeft }) stops)
LeftStops-with n None left = (refl, tt)
LeftStops-with n (Some stops) left =
    cond_both (nat_lt (length stops) 32) (stops ++ record { column = n; kind = AtLeft } ∷ []) stops AreLeft
    (λ _. AreLeft-append n stops left) (λ _. left)

-- so it does behind a change that sets no other
LeftStops-change : (p : Param) (stops : TabStops) → SetsNoField (Set p) → LeftStops stops → LeftStops (stops_with p stops)
LeftStops-change NoStops stops none left = tt
LeftStops-change (Stop n) stops none left = LeftStops-with n stops left
LeftStops-change (RightStop n) stops none left = absurd none
LeftStops-change (CentredStop n) stops none left = absurd none
LeftStops-change (p) stops none left = left

-- and behind a history that sets no other
LeftStops-history : (h : History) → All SetsNoField h → LeftStops (stops_after (without_field_ends h))
LeftStops-history [] none = tt
LeftStops-history (FieldEnd ∷ h) none = LeftStops-history h (All-tail SetsNoField FieldEnd h none)
LeftStops-history (Set p ∷ h) none =
    LeftStops-change p (stops_after (without_field_ends h)) (All-head SetsNoField (Set p) h none)
    (LeftStops-history h (All-tail SetsNoField (Set p) h none))
LeftStops-history (e ∷ h) none = LeftStops-history h (All-tail SetsNoField e h none)

-- of two ways to such stops the shorter one leads to such a one
IsLeft-shorter : (one other : Option Way) → IsLeft one → IsLeft other → IsLeft (shorter_way one other)
IsLeft-shorter None other left also = also
IsLeft-shorter (Some one) None left also = left
IsLeft-shorter (Some one) (Some other) left also =
    cond_both (nat_le one.columns other.columns) (Some one) (Some other) IsLeft (λ _. left) (λ _. also)

IsLeft-beyond : (place : ℕ) (s : TabStop) → s.kind ≡ AtLeft → IsLeft (way_beyond place s)
IsLeft-beyond place s left = cond_both (nat_lt place s.column) (Some _) None IsLeft (λ _. left) (λ _. tt)

-- so does the way to the nearest of them
IsLeft-nearest : (stops : List TabStop) (place : ℕ) → AreLeft stops → IsLeft (way_to_nearest stops place)
IsLeft-nearest [] place left = tt
IsLeft-nearest (s ∷ stops) place left =
    IsLeft-shorter (way_beyond place s) (way_to_nearest stops place) (IsLeft-beyond place s left.0) (IsLeft-nearest stops place left.1)

IsLeft-next : (stops : TabStops) (place : ℕ) → LeftStops stops → IsLeft (way_to_next stops place)
IsLeft-next None place left = refl
IsLeft-next (Some stops) place left = IsLeft-nearest stops place left

IsLeft-some : (way : Option Way) → IsLeft way → (w : Way) → way ≡ Some w → w.kind ≡ AtLeft
IsLeft-some None left w is = cc
IsLeft-some (Some v) left w is = cc

-- so such a history is told as it is, without the ends of fields
told-left : (h : History) → All SetsNoField h → told_plainly h ≡ unfielded (without_field_ends h)
told-left [] none = refl
told-left (FieldEnd ∷ h) none = told-field_end_as h (without_field_ends h) (told-left h (All-tail SetsNoField FieldEnd h none))
told-left (Tab ∷ h) none =
    let others = All-tail SetsNoField Tab h none in
    let p = without_field_ends h in
    let way = way_to_next (stops_after p) (input_place p) in
    told-tab_as h p (told-left h others)
    (IsLeft-some way (IsLeft-next (stops_after p) (input_place p) (LeftStops-history h others)))
told-left (e ∷ h) none = told-event_as h (without_field_ends h) (told-left h (All-tail SetsNoField e h none)) e tt

pub plain-left : (h : History) → All SetsNoField h → plain h ≡ without_field_ends h
plain-left h none = ap so_far (told-left h none)
