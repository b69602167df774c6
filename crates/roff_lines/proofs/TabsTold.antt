-- A field's end and a tab, whatever an environment stands for.
use Rattle.std.proofs.Common.{◌≡◌, ◌↔◌, ℕ, suc, ◌<◌, ◌≤◌, max, Bool, true, false, [], ◌∷◌, Option, Some, None, refl, sym, ap, ap₂, subst, ◌∙◌, arith, Result, Ok, Err, IsErr, OnOk, append-nil}
use Rattle.std.proofs.Math.Nat.{lt_of_not-le}
use Rattle.roff_num.specs.declared.limit.Limit.{Limit}
use Rattle.page_model.specs.declared.glyph.Glyph.TheVariants.{Blanks}
use Rattle.page_model.specs.declared.stop.StopKind.{StopKind}
use Rattle.page_model.specs.declared.event.Event.TheVariants.{FieldEnd, Print, Tab}
use Rattle.page_model.specs.Events.{History, stops_after}
use Rattle.page_model.specs.Fields.{Field, Told, field_ended, opened, so_far, tab_told, told_plainly, told_behind, tab_reached}
use Rattle.page_model.specs.Behind.{finished_by_tab, length_reached, pending_length as pending_length_behind}
use Rattle.page_model.specs.TabStops.{Way, way_to_next}
use Rattle.page_model.specs.Places.{input_place}
use Rattle.page_model.specs.Lines.{pending_length}
use Rattle.roff_lines.specs.Env.Kept.{Kept, at_tab, length_ended, length_of_words, length_with, with_field_ended, with_field_opened, kept_with_glyph}
use Rattle.roff_lines.specs.Env.Stands.{Finishes, Stands, StandsBehind, StandsBehindTab, StandsFor, StandsPlain, StandsTold, length_at_tab}
use Rattle.roff_lines.proofs.InField.{Stands-field_ended, length-stands, limit-ended}
use Rattle.roff_lines.proofs.PlainStanding.{plain_of}
use Rattle.roff_lines.proofs.Printed.{Stands-print}
use Rattle.roff_lines.proofs.TabEnds.{Stands-at_tab}

-- behind a field's end
module _ (line_cap : ℕ) (h : History) where
  ended-told : (o : Option Field) (k : Kept) → StandsTold line_cap h o k → length_ended k ≤ k.cap
      → StandsPlain line_cap (field_ended (record { events = h; field = o })) (with_field_ended k)
  ended-told None k s room =
      let same : with_field_ended k ≡ k = rw s.no_field refl in
      subst (StandsPlain line_cap h) (sym same) s
  ended-told (Some f) k s room = Stands-field_ended line_cap h f k s room

  limit-told : (o : Option Field) (k : Kept) → StandsTold line_cap h o k
      → (k.cap < length_ended k) ↔ (line_cap < pending_length (field_ended (record { events = h; field = o })))
  limit-told None k s =
      let same : length_ended k ≡ pending_length h = unended ∙ length-stands line_cap h k s in
      (λ over. omega (arith, over, same, s.cap), λ over. omega (arith, over, same, s.cap))
    where
      unended : length_ended k ≡ length_of_words k
      unended = rw s.no_field refl
  limit-told (Some f) k s = limit-ended line_cap h f k s

  -- in front of a tab
  tab-told : (o : Option Field) (k : Kept) → StandsTold line_cap h o k → length_ended k ≤ k.cap
      → StandsPlain line_cap (tab_reached (record { events = h; field = o })) (at_tab k)
  tab-told None k s room =
      let same : at_tab k ≡ k = rw s.no_field refl in
      subst (StandsPlain line_cap h) (sym same) s
  tab-told (Some f) k s room = Stands-at_tab line_cap h f k s room

pub limit-field_end : (line_cap : ℕ) (h : History) (k : Kept) → Stands line_cap h k
    → (k.cap < length_ended k) ↔ (line_cap < pending_length (field_ended (told_plainly h)))
limit-field_end line_cap h k s = limit-told line_cap (told_plainly h).events (told_plainly h).field k s

pub StandsBehind-field_end : (old : Kept) → length_ended old ≤ old.cap → StandsBehind old FieldEnd (with_field_ended old)
StandsBehind-field_end old room line_cap h s = ended-told line_cap (told_plainly h).events (told_plainly h).field old s room

pub Stands-tab_reached : (line_cap : ℕ) (h : History) (k : Kept) → Stands line_cap h k → length_ended k ≤ k.cap
    → StandsPlain line_cap (tab_reached (told_plainly h)) (at_tab k)
Stands-tab_reached line_cap h k s room = tab-told line_cap (told_plainly h).events (told_plainly h).field k s room

-- a tab of no columns that opens a field
pub Stands-opened : (line_cap : ℕ) (h : History) (k : Kept) (way : ℕ) (is_centred : Bool) → StandsPlain line_cap (Print (Blanks 0) ∷ h) k
    → StandsFor line_cap (opened way is_centred h) (with_field_opened way is_centred k)
Stands-opened line_cap h k way is_centred s = record {
  field = record { way = way; is_centred = is_centred; text = []; word_blanks = k.blanks };
  field_is = refl;
  way = refl;
  is_centred = refl;
  text = refl;
  gap = omega arith;
  none_open = refl;
  left = record {
    small = s.small;
    within = s.within;
    cap = s.cap;
    no_field = refl;
    settings = s.settings;
    temporary_indent = s.temporary_indent;
    stops = s.stops;
    has_line = s.has_line;
    line = s.line;
    indent = s.indent;
    word = append-nil k.word ∙ s.word;
    is_open = refl;
    blanks = s.blanks;
    has_glyph = s.has_glyph;
    ends_sentence = s.ends_sentence;
    place = omega (arith, s.place);
    is_interrupted = s.is_interrupted;
    finished = s.finished;
    last_width = s.last_width;
  };
}

-- what a call left, where its answer is no error, as a count was within the limit then
pub ok_in_room : {T : Type 0} (r : Result T Limit) (A P : Type 0) (c n : ℕ) → (IsErr r ↔ (c < n)) → OnOk r A → (n ≤ c → A → P) → OnOk r P
ok_in_room (Ok x) A P c n limit is so = so (omega (arith, lt_of_not-le {n = suc c} {m = n} (λ more. let wrong = limit.1 more in cc))) is
ok_in_room (Err e) A P c n limit is so = tt

-- no error is answered where no length is above the limit
pub not_reached : (cap one other : ℕ) → (cap < one → ⊥) → (cap < other → ⊥) → cap < max one other → ⊥
not_reached cap one other first second more =
    let low : one < suc cap = lt_of_not-le {n = suc cap} {m = one} first in
    let lower : other < suc cap = lt_of_not-le {n = suc cap} {m = other} second in
    absurd (omega (arith, low, lower, more))

-- a tab to a stop at which a field opens
pub StandsBehindTab-opened : (old new : Kept) (columns : ℕ) (kind : StopKind) (is_centred : Bool)
    → ((h : History) → tab_told (Some (record { columns = columns; kind = kind })) h ≡ opened columns is_centred h)
    → way_to_next old.stops old.place ≡ Some (record { columns = columns; kind = kind })
    → new ≡ with_field_opened columns is_centred (kept_with_glyph (Blanks 0) old) → length_with (Blanks 0) old ≤ old.cap → StandsBehindTab old new
StandsBehindTab-opened old new columns kind is_centred opens way is room line_cap h s =
    let same : way_to_next (stops_after h) (input_place h) ≡ Some (record { columns = columns; kind = kind }) =
    sym (ap₂ way_to_next s.stops s.place) ∙ way in
    subst (λ (t : Told). StandsFor line_cap t new) (sym (ap (λ (w : Option Way). tab_told w h) same ∙ opens h))
    (subst (StandsFor line_cap (opened columns is_centred h)) (sym is)
    (Stands-opened line_cap h (kept_with_glyph (Blanks 0) old) columns is_centred (Stands-print line_cap h old s (Blanks 0) room)))

-- where no error was answered, a count was within the limit
pub no_error : {failed : Bool} {c n : ℕ} → ((failed ≡ true) ↔ (c < n)) → failed ≡ false → n ≤ c
no_error {c = c} {n = n} limit fine = omega (arith, lt_of_not-le {n = suc c} {m = n} (λ more. let wrong = sym fine ∙ limit.1 more in cc))

-- a tab where no field is open
module _ {E : Type 0} (r : Result (Unit {0}) E) (old : Kept) (none : old.field ≡ None) where
  stands_behind : (new : Kept) → StandsBehindTab old new → StandsBehind old Tab new
  stands_behind new stands line_cap h s =
      let p = plain_of line_cap h old none s in
      subst (λ (t : Told). StandsFor line_cap (told_behind Tab t) new) (sym p.is_told) (stands line_cap p.events p.stands)

  -- behind it
  pub StandsBehind-tab_plainly : (new : Kept) → OnOk r (StandsBehindTab old new) → OnOk r (StandsBehind old Tab new)
  StandsBehind-tab_plainly new stands = elim r as (λ (r : Result (Unit {0}) E). OnOk r (StandsBehindTab old new) → OnOk r (StandsBehind old Tab new)) [
    | Ok u ↦ stands_behind new
    | Err e ↦ λ _. tt
  ] stands

  -- it finishes no line
  pub finished_at_tab-plainly : Finishes old Tab None
  finished_at_tab-plainly line_cap h s =
      let p = plain_of line_cap h old none s in
      sym (ap finished_by_tab p.is_told)

  -- no length before it is above the limit
  pub limit-tab_plainly : ((line_cap : ℕ) (h : History) → StandsPlain line_cap h old → IsErr r ↔ (line_cap < length_at_tab h))
      → (line_cap : ℕ) (h : History) → Stands line_cap h old → IsErr r ↔ (line_cap < length_reached Tab h)
  limit-tab_plainly limit line_cap h s =
      let p = plain_of line_cap h old none s in
      let ended : pending_length_behind (FieldEnd ∷ h) ≡ pending_length p.events = ap (λ (t : Told). pending_length (so_far (told_behind FieldEnd t))) p.is_told in
      let behind : pending_length_behind (Tab ∷ h) ≡ length_at_tab p.events = ap (λ (t : Told). pending_length (so_far (told_behind Tab t))) p.is_told in
      let here = limit line_cap p.events p.stands in (
        λ is. omega (arith, here.0 is, behind),
        λ over. here.1 (omega (arith, over, ended, behind, p.stands.within)),
      )
