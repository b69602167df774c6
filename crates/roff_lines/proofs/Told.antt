-- What a history says, and what it says told without fields.
use Rattle.std.proofs.Common.{◌≡◌, ℕ, Bool, true, false, [], ◌∷◌, Option, Some, None, refl, sym, ap, ◌∙◌, if◌then◌else◌, ◌==◌, is_some}
use Rattle.std.specs.List.{cons_option}
use Rattle.std.proofs.lemmas.Bool.{cond_both}
use Rattle.page_model.specs.declared.event.Event.{Event}
use Rattle.page_model.specs.declared.event.Event.TheVariants.{Print, Tab, FieldEnd, WordEnd, Gap, LineEnd, Count, Break, Interrupt, Resume, Set}
use Rattle.page_model.specs.Events.{History, settings_after, stops_after, is_interrupted}
use Rattle.page_model.specs.Settings.{settings_with, counted}
use Rattle.page_model.specs.declared.stop.StopKind.{StopKind}
use Rattle.page_model.specs.declared.stop.StopKind.TheVariants.{Left as AtLeft, Right as AtRight, Centred as InMiddle}
use Rattle.page_model.specs.TabStops.{Way, stops_with, way_to_next}
use Rattle.page_model.specs.Places.{input_place}
use Rattle.page_model.specs.Lines.{Finished, finished_in}
use Rattle.page_model.specs.Paragraphs.{finished_lines}
use Rattle.page_model.specs.LastLine.{newest_text, newest_width, last_text, last_width}
use Rattle.page_model.specs.Fields.{Field, Told, field_told, gap_ended, motion, plain, so_far, tab_told, told_plainly, told_behind, without_gap}
use Rattle.page_model.specs.Behind as behind
use Rattle.roff_lines.proofs.Fields.{settings_after-field, stops_after-field, is_interrupted-field, finished_lines-field}

-- behind a tab all is as it was in front of it
settings_after-tab : (h : History) (columns : ℕ) (kind : StopKind)
    → settings_after (tab_told (Some (record { columns = columns; kind = kind })) h).events ≡ settings_after h
settings_after-tab h columns AtLeft = refl
settings_after-tab h columns AtRight = refl
settings_after-tab h columns InMiddle = refl

settings_after-tab_told : (way : Option Way) (h : History) → settings_after (tab_told way h).events ≡ settings_after h
settings_after-tab_told None h = refl
settings_after-tab_told (Some way) h = settings_after-tab h way.columns way.kind

stops_after-tab : (h : History) (columns : ℕ) (kind : StopKind)
    → stops_after (tab_told (Some (record { columns = columns; kind = kind })) h).events ≡ stops_after h
stops_after-tab h columns AtLeft = refl
stops_after-tab h columns AtRight = refl
stops_after-tab h columns InMiddle = refl

stops_after-tab_told : (way : Option Way) (h : History) → stops_after (tab_told way h).events ≡ stops_after h
stops_after-tab_told None h = refl
stops_after-tab_told (Some way) h = stops_after-tab h way.columns way.kind

is_interrupted-tab : (h : History) (columns : ℕ) (kind : StopKind)
    → is_interrupted (tab_told (Some (record { columns = columns; kind = kind })) h).events ≡ is_interrupted h
is_interrupted-tab h columns AtLeft = refl
is_interrupted-tab h columns AtRight = refl
is_interrupted-tab h columns InMiddle = refl

is_interrupted-tab_told : (way : Option Way) (h : History) → is_interrupted (tab_told way h).events ≡ is_interrupted h
is_interrupted-tab_told None h = refl
is_interrupted-tab_told (Some way) h = is_interrupted-tab h way.columns way.kind

finished_lines-tab : (h : History) (columns : ℕ) (kind : StopKind)
    → finished_lines (tab_told (Some (record { columns = columns; kind = kind })) h).events ≡ finished_lines h
finished_lines-tab h columns AtLeft = refl
finished_lines-tab h columns AtRight = refl
finished_lines-tab h columns InMiddle = refl

finished_lines-tab_told : (way : Option Way) (h : History) → finished_lines (tab_told way h).events ≡ finished_lines h
finished_lines-tab_told None h = refl
finished_lines-tab_told (Some way) h = finished_lines-tab h way.columns way.kind

-- so it is where a tab ends a field, but for the line that a gap at its end may finish
settings_after-gap_ended : (f : Field) (h : History) → settings_after (gap_ended f h) ≡ settings_after h
settings_after-gap_ended f h =
    cond_both (f.gap == 0) h (Gap f.gap ∷ WordEnd ∷ h) (λ i. settings_after i ≡ settings_after h) (λ _. refl) (λ _. refl)

stops_after-gap_ended : (f : Field) (h : History) → stops_after (gap_ended f h) ≡ stops_after h
stops_after-gap_ended f h =
    cond_both (f.gap == 0) h (Gap f.gap ∷ WordEnd ∷ h) (λ i. stops_after i ≡ stops_after h) (λ _. refl) (λ _. refl)

is_interrupted-gap_ended : (f : Field) (h : History) → is_interrupted (gap_ended f h) ≡ is_interrupted h
is_interrupted-gap_ended f h =
    cond_both (f.gap == 0) h (Gap f.gap ∷ WordEnd ∷ h) (λ i. is_interrupted i ≡ is_interrupted h) (λ _. refl) (λ _. refl)

finished_lines-gap_ended_by : (none : Bool) (n : ℕ) (h : History)
    → finished_lines (if none then h else Gap n ∷ WordEnd ∷ h)
    ≡ cons_option (if none then None else finished_in h WordEnd) (finished_lines h)
finished_lines-gap_ended_by true n h = refl
finished_lines-gap_ended_by false n h = refl

-- a history, and the field that is open behind it, if one is
abbrev pub told_as : History → Option Field → Told
told_as h field = record { events = h; field = field }

-- what is in force behind an event, as it is told
settings_after-behind : (e : Event) (h : History) (field : Option Field)
    → settings_after (told_behind e (told_as h field)).events ≡ settings_after (e ∷ h)
settings_after-behind (Print g) h None = refl
settings_after-behind (Print g) h (Some f) = refl
settings_after-behind Tab h None = settings_after-tab_told (way_to_next (stops_after h) (input_place h)) h
settings_after-behind Tab h (Some f) =
    let ended = field_told (motion f) (without_gap f) h in
    let i = gap_ended f ended in
    settings_after-tab_told (way_to_next (stops_after i) (input_place i)) i
    ∙ settings_after-gap_ended f ended ∙ settings_after-field (motion f) (without_gap f) h
settings_after-behind FieldEnd h None = refl
settings_after-behind FieldEnd h (Some f) = settings_after-field (motion f) f h
settings_after-behind WordEnd h None = refl
settings_after-behind WordEnd h (Some f) = refl
settings_after-behind (Gap n) h None = refl
settings_after-behind (Gap n) h (Some f) = refl
settings_after-behind LineEnd h None = refl
settings_after-behind LineEnd h (Some f) = ap counted (settings_after-field 0 f h)
settings_after-behind Count h field = refl
settings_after-behind Break h None = refl
settings_after-behind Break h (Some f) = settings_after-field 0 f h
settings_after-behind Interrupt h field = refl
settings_after-behind Resume h field = refl
settings_after-behind (Set p) h field = refl

-- the tab stops
stops_after-behind : (e : Event) (h : History) (field : Option Field)
    → stops_after (told_behind e (told_as h field)).events ≡ stops_after (e ∷ h)
stops_after-behind (Print g) h None = refl
stops_after-behind (Print g) h (Some f) = refl
stops_after-behind Tab h None = stops_after-tab_told (way_to_next (stops_after h) (input_place h)) h
stops_after-behind Tab h (Some f) =
    let ended = field_told (motion f) (without_gap f) h in
    let i = gap_ended f ended in
    stops_after-tab_told (way_to_next (stops_after i) (input_place i)) i
    ∙ stops_after-gap_ended f ended ∙ stops_after-field (motion f) (without_gap f) h
stops_after-behind FieldEnd h None = refl
stops_after-behind FieldEnd h (Some f) = stops_after-field (motion f) f h
stops_after-behind WordEnd h None = refl
stops_after-behind WordEnd h (Some f) = refl
stops_after-behind (Gap n) h None = refl
stops_after-behind (Gap n) h (Some f) = refl
stops_after-behind LineEnd h None = refl
stops_after-behind LineEnd h (Some f) = stops_after-field 0 f h
stops_after-behind Count h field = refl
stops_after-behind Break h None = refl
stops_after-behind Break h (Some f) = stops_after-field 0 f h
stops_after-behind Interrupt h field = refl
stops_after-behind Resume h field = refl
stops_after-behind (Set p) h field = refl

-- whether the line of the input is interrupted
is_interrupted-behind : (e : Event) (h : History) (field : Option Field)
    → is_interrupted (told_behind e (told_as h field)).events ≡ is_interrupted (e ∷ h)
is_interrupted-behind (Print g) h None = refl
is_interrupted-behind (Print g) h (Some f) = refl
is_interrupted-behind Tab h None = is_interrupted-tab_told (way_to_next (stops_after h) (input_place h)) h
is_interrupted-behind Tab h (Some f) =
    let ended = field_told (motion f) (without_gap f) h in
    let i = gap_ended f ended in
    is_interrupted-tab_told (way_to_next (stops_after i) (input_place i)) i
    ∙ is_interrupted-gap_ended f ended ∙ is_interrupted-field (motion f) (without_gap f) h
is_interrupted-behind FieldEnd h None = refl
is_interrupted-behind FieldEnd h (Some f) = is_interrupted-field (motion f) f h
is_interrupted-behind WordEnd h None = refl
is_interrupted-behind WordEnd h (Some f) = refl
is_interrupted-behind (Gap n) h None = refl
is_interrupted-behind (Gap n) h (Some f) = refl
is_interrupted-behind LineEnd h None = refl
is_interrupted-behind LineEnd h (Some f) = is_interrupted-field 0 f h
is_interrupted-behind Count h field = refl
is_interrupted-behind Break h None = refl
is_interrupted-behind Break h (Some f) = is_interrupted-field 0 f h
is_interrupted-behind Interrupt h field = refl
is_interrupted-behind Resume h field = refl
is_interrupted-behind (Set p) h field = refl

-- the line that an event finishes behind what is told so
abbrev pub finished_told : Event → Told → Option Finished
finished_told Tab t = behind.finished_by_tab t
finished_told WordEnd t = if is_some t.field then None else finished_in (so_far t) WordEnd
finished_told LineEnd t = finished_in (so_far t) LineEnd
finished_told Break t = finished_in (so_far t) Break
finished_told (_) t = None

-- it is the one of the history that is told so
pub finished_told-is : (e : Event) (h : History) → behind.finished h e ≡ finished_told e (told_plainly h)
finished_told-is (Print g) h = refl
finished_told-is Tab h = refl
finished_told-is FieldEnd h = refl
finished_told-is WordEnd h = refl
finished_told-is (Gap n) h = refl
finished_told-is LineEnd h = refl
finished_told-is Count h = refl
finished_told-is Break h = refl
finished_told-is Interrupt h = refl
finished_told-is Resume h = refl
finished_told-is (Set p) h = refl

-- the lines that are finished behind an event, as it is told
finished_lines-behind : (e : Event) (h : History) (field : Option Field)
    → finished_lines (told_behind e (told_as h field)).events ≡ cons_option (finished_told e (told_as h field)) (finished_lines h)
finished_lines-behind (Print g) h None = refl
finished_lines-behind (Print g) h (Some f) = refl
finished_lines-behind Tab h None = finished_lines-tab_told (way_to_next (stops_after h) (input_place h)) h
finished_lines-behind Tab h (Some f) =
    let ended = field_told (motion f) (without_gap f) h in
    let i = gap_ended f ended in
    let line : Option Finished = if f.gap == 0 then None else finished_in ended WordEnd in
    finished_lines-tab_told (way_to_next (stops_after i) (input_place i)) i
    ∙ finished_lines-gap_ended_by (f.gap == 0) f.gap ended
    ∙ ap (cons_option line) (finished_lines-field (motion f) (without_gap f) h)
finished_lines-behind FieldEnd h None = refl
finished_lines-behind FieldEnd h (Some f) = finished_lines-field (motion f) f h
finished_lines-behind WordEnd h None = refl
finished_lines-behind WordEnd h (Some f) = refl
finished_lines-behind (Gap n) h None = refl
finished_lines-behind (Gap n) h (Some f) = refl
finished_lines-behind LineEnd h None = refl
finished_lines-behind LineEnd h (Some f) = ap (cons_option (finished_in (field_told 0 f h) LineEnd)) (finished_lines-field 0 f h)
finished_lines-behind Count h field = refl
finished_lines-behind Break h None = refl
finished_lines-behind Break h (Some f) = ap (cons_option (finished_in (field_told 0 f h) Break)) (finished_lines-field 0 f h)
finished_lines-behind Interrupt h field = refl
finished_lines-behind Resume h field = refl
finished_lines-behind (Set p) h field = refl

-- an open field changes nothing of that
settings_after-so_far : (h : History) (field : Option Field) → settings_after (so_far (told_as h field)) ≡ settings_after h
settings_after-so_far h None = refl
settings_after-so_far h (Some f) = settings_after-field 0 f h

stops_after-so_far : (h : History) (field : Option Field) → stops_after (so_far (told_as h field)) ≡ stops_after h
stops_after-so_far h None = refl
stops_after-so_far h (Some f) = stops_after-field 0 f h

is_interrupted-so_far : (h : History) (field : Option Field) → is_interrupted (so_far (told_as h field)) ≡ is_interrupted h
is_interrupted-so_far h None = refl
is_interrupted-so_far h (Some f) = is_interrupted-field 0 f h

finished_lines-so_far : (h : History) (field : Option Field) → finished_lines (so_far (told_as h field)) ≡ finished_lines h
finished_lines-so_far h None = refl
finished_lines-so_far h (Some f) = finished_lines-field 0 f h

-- an event behind the same leaves the same
with-settings : (e : Event) (h i : History) → settings_after h ≡ settings_after i → settings_after (e ∷ h) ≡ settings_after (e ∷ i)
with-settings (Print g) h i same = same
with-settings Tab h i same = same
with-settings FieldEnd h i same = same
with-settings WordEnd h i same = same
with-settings (Gap n) h i same = same
with-settings LineEnd h i same = ap counted same
with-settings Count h i same = same
with-settings Break h i same = same
with-settings Interrupt h i same = same
with-settings Resume h i same = same
with-settings (Set p) h i same = ap (settings_with p) same

with-stops : (e : Event) (h i : History) → stops_after h ≡ stops_after i → stops_after (e ∷ h) ≡ stops_after (e ∷ i)
with-stops (Print g) h i same = same
with-stops Tab h i same = same
with-stops FieldEnd h i same = same
with-stops WordEnd h i same = same
with-stops (Gap n) h i same = same
with-stops LineEnd h i same = same
with-stops Count h i same = same
with-stops Break h i same = same
with-stops Interrupt h i same = same
with-stops Resume h i same = same
with-stops (Set p) h i same = ap (stops_with p) same

with-interrupted : (e : Event) (h i : History) → is_interrupted h ≡ is_interrupted i → is_interrupted (e ∷ h) ≡ is_interrupted (e ∷ i)
with-interrupted (Print g) h i same = same
with-interrupted Tab h i same = same
with-interrupted FieldEnd h i same = same
with-interrupted WordEnd h i same = same
with-interrupted (Gap n) h i same = same
with-interrupted LineEnd h i same = same
with-interrupted Count h i same = same
with-interrupted Break h i same = same
with-interrupted Interrupt h i same = refl
with-interrupted Resume h i same = refl
with-interrupted (Set p) h i same = same

-- so what is in force is the same told without fields, up to the field that is open and with it
pub settings_after-told : (h : History) → settings_after h ≡ settings_after (told_plainly h).events
settings_after-told [] = refl
settings_after-told (e ∷ h) =
    with-settings e h (told_plainly h).events (settings_after-told h)
    ∙ sym (settings_after-behind e (told_plainly h).events (told_plainly h).field)

pub settings_after-plain : (h : History) → settings_after h ≡ settings_after (plain h)
settings_after-plain h = settings_after-told h ∙ sym (settings_after-so_far (told_plainly h).events (told_plainly h).field)

-- so are the tab stops
pub stops_after-told : (h : History) → stops_after h ≡ stops_after (told_plainly h).events
stops_after-told [] = refl
stops_after-told (e ∷ h) =
    with-stops e h (told_plainly h).events (stops_after-told h) ∙ sym (stops_after-behind e (told_plainly h).events (told_plainly h).field)

pub stops_after-plain : (h : History) → stops_after h ≡ stops_after (plain h)
stops_after-plain h = stops_after-told h ∙ sym (stops_after-so_far (told_plainly h).events (told_plainly h).field)

-- whether the line of the input is interrupted
pub is_interrupted-told : (h : History) → is_interrupted h ≡ is_interrupted (told_plainly h).events
is_interrupted-told [] = refl
is_interrupted-told (e ∷ h) =
    with-interrupted e h (told_plainly h).events (is_interrupted-told h)
    ∙ sym (is_interrupted-behind e (told_plainly h).events (told_plainly h).field)

pub is_interrupted-plain : (h : History) → is_interrupted h ≡ is_interrupted (plain h)
is_interrupted-plain h = is_interrupted-told h ∙ sym (is_interrupted-so_far (told_plainly h).events (told_plainly h).field)

-- and the lines that are finished
pub finished_lines-told : (h : History) → behind.finished_lines h ≡ finished_lines (told_plainly h).events
finished_lines-told [] = refl
finished_lines-told (e ∷ h) =
    ap (λ o. cons_option o (behind.finished_lines h)) (finished_told-is e h)
    ∙ ap (cons_option (finished_told e (told_plainly h))) (finished_lines-told h)
    ∙ sym (finished_lines-behind e (told_plainly h).events (told_plainly h).field)

pub finished_lines-plain : (h : History) → behind.finished_lines h ≡ finished_lines (plain h)
finished_lines-plain h = finished_lines-told h ∙ sym (finished_lines-so_far (told_plainly h).events (told_plainly h).field)

pub last_text-plain : (h : History) → behind.last_text h ≡ last_text (plain h)
last_text-plain h = ap newest_text (finished_lines-plain h)

pub last_width-plain : (h : History) → behind.last_width h ≡ last_width (plain h)
last_width-plain h = ap newest_width (finished_lines-plain h)
