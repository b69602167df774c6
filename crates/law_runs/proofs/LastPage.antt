-- The last page: as it is ejected it ends, unless that goes on behind a macro, and then the pages are whole.
use Rattle.std.proofs.Common.{◌≡◌, ◌⊎◌, inl, inr, ℕ, Bool, true, false, not, ◌&&◌, ◌||◌, List, [], ◌∷◌, ◌++◌, length, Option, refl, sym, ◌∙◌, ap, subst, arith, append-nil, is_some, nat_le, if◌then◌else◌, ◌==◌, eq-eqb, eqb-true}
use Rattle.page_model.specs.DeviceText.{device_lines}
use Rattle.page_model.specs.Happenings.{Happening, Does}
use Rattle.page_model.specs.Layout.{Box, Layout, page_place}
use Rattle.page_model.specs.Puts.{Put, boxes_put, ejected_if, puts}
use Rattle.page_model.specs.Stops.{is_diverted, page_target}
use Rattle.page_model.specs.Turning.{behind_put, next_behind, page_begun, with_boxes, with_event}
use Rattle.page_model.specs.Springs.{goes_on}
use Rattle.page_model.specs.declared.layout_event.LayoutEvent.TheVariants.{EjectLast}
use Rattle.run_model.specs.Environments.{PageHistory}
use Rattle.run_model.specs.Layouts.{layout_of}
use Rattle.run_model.specs.Output.{written}
use Rattle.run_model.specs.declared.event.PageEvent.TheVariants.{Page}
use Rattle.law_runs.specs.PageLaws.{IsWholePages, KeepsLength, PageLine, WritesEachPage, lines_text, pages_text}
use Rattle.law_runs.proofs.PagesSoFar.{IsSoFar, SoFar, listed, so_far-happening}
use Rattle.law_runs.proofs.RunsStayWithin.{nothing_by_test}

-- where nothing is ejected nothing stands on the page, or none was begun
nothing_on : (b c : Bool) → (not b && not c) ≡ false → (b ≡ true) ⊎ (c ≡ true)
nothing_on true c is = inl refl
nothing_on false true is = inr refl
nothing_on false false is = absurd (cc)

something_on : (b c : Bool) → (not b && not c) ≡ true → b ≡ true → ⊥
something_on true c is begun = absurd (cc)
something_on false c is begun = absurd (cc)

-- the last page is ejected
so_far-eject_by : (h : PageHistory) (some : Bool) → (not ((layout_of h).begun == 0) && not (page_place (layout_of h) == 0)) ≡ some
    → SoFar (layout_of h) (written h) → WritesEachPage h → (layout_of h).is_over ≡ false
    → let L : Layout = layout_of h in
    let p : Option Put = ejected_if some (page_target L) in
    SoFar (behind_put (Does EjectLast) p (boxes_put (page_target L) p) L)
    (written h ++ (if is_diverted (Does EjectLast) L || not L.is_listed then [] else device_lines L.offset (boxes_put (page_target L) p)))
so_far-eject_by h true is so_far writes goes =
    let x : Happening = Does EjectLast in
    let L : Layout = layout_of h in
    let p : Option Put = ejected_if true (page_target L) in
    let begun : L.begun ≡ 0 → ⊥ = λ none. something_on (L.begun == 0) (page_place L == 0) is (ap (λ n. n == 0) none) in
    let same : puts x L ≡ p = ap (λ (some : Bool). ejected_if some (page_target L)) is in
    subst (λ (q : Option Put). SoFar (behind_put x p (boxes_put (page_target L) q) L)
    (written h ++ (if is_diverted x L || not L.is_listed then [] else device_lines L.offset (boxes_put (page_target L) q)))) same
    (so_far-happening x p L (written h) same refl so_far
    (record { goes = goes; begun = begun; listed = listed h writes begun; on_page = refl; keeps = refl }))
so_far-eject_by h false is so_far writes goes =
    let L : Layout = layout_of h in
    let silent = nothing_by_test (is_diverted (Does EjectLast) L || not L.is_listed) L.offset in
    let none : length so_far.page ≡ 0 =
    elim (nothing_on (L.begun == 0) (page_place L == 0) is) [
      | inl unbegun ↦ so_far.size ∙ ap (λ (all : List Box). length all) (so_far.unbegun (eqb-true L.begun 0 unbegun)).1
      | inr empty ↦ so_far.size ∙ eqb-true (page_place L) 0 empty
    ] in record {
      pages = so_far.pages;
      page = so_far.page;
      full = so_far.full;
      written = ap (λ rest. written h ++ rest) silent ∙ append-nil (written h) ∙ so_far.written;
      size = so_far.size;
      some = so_far.some;
      unended = λ goes. absurd (cc);
      ended = λ over. inl none;
      unbegun = so_far.unbegun;
    }

pub so_far-eject_last : (h : PageHistory) → (layout_of h).is_over ≡ false → IsSoFar h → IsSoFar (Page EjectLast ∷ h)
so_far-eject_last h goes so_far keeps writes =
    so_far-eject_by h (not ((layout_of h).begun == 0) && not (page_place (layout_of h) == 0)) refl (so_far keeps.1 writes.1) writes.1 goes

-- in the closing phase no page begins by itself
over-turned : (full closing : Bool) (N : Layout) → closing ≡ true
    → (if full then (if closing then record N { is_over = true } else page_begun N) else N).begun ≡ N.begun
over-turned true true N closes = refl
over-turned true false N closes = absurd (cc)
over-turned false closing N closes = refl

-- so what doesn't go on there is over
goes_by : (begun behind : ℕ) (over : Bool) → behind ≡ begun → ((behind == begun) && not over) ≡ false → over ≡ true
goes_by begun behind over same stops = by_test over (ap (λ (c : Bool). c && not over) (sym (eq-eqb behind begun same)) ∙ stops)
  where
    by_test : (over : Bool) → (true && not over) ≡ false → over ≡ true
    by_test true stops = refl
    by_test false stops = absurd (cc)

eject-over_by : (some : Bool) (L : Layout) → L.is_closing ≡ true
    → let p : Option Put = ejected_if some (page_target L) in
    let M : Layout = behind_put (Does EjectLast) p (boxes_put (page_target L) p) L in
    (is_some p && ((M.begun == L.begun) && not M.is_over)) ≡ false → M.is_over ≡ true
eject-over_by false L closes stops = refl
eject-over_by true L closes stops =
    let x : Happening = Does EjectLast in
    let p : Option Put = ejected_if true (page_target L) in
    let N : Layout = with_boxes x (boxes_put (page_target L) p) (record L { next = next_behind x L.next }) in
    let M : Layout = behind_put x p (boxes_put (page_target L) p) L in
    goes_by L.begun M.begun M.is_over (over-turned (nat_le N.length (page_place N)) N.is_closing N closes) stops

pub eject-over : (L : Layout) → L.is_closing ≡ true → goes_on (Does EjectLast) L ≡ false → (with_event (Does EjectLast) L).is_over ≡ true
eject-over L closes stops = eject-over_by (not (L.begun == 0) && not (page_place L == 0)) L closes stops

-- where the last page has ended the pages are whole
lines-none : (lines : List PageLine) → length lines ≡ 0 → lines_text lines ≡ []
lines-none [] is = refl
lines-none (line ∷ lines) is = absurd (omega (arith, is))

whole : (L : Layout) (text : List ℕ) → SoFar L text → L.is_over ≡ true → IsWholePages L.length text
whole L text so_far over =
    elim (so_far.ended over) [
      | inl none ↦ record {
        pages = so_far.pages;
        full = so_far.full;
        written = so_far.written ∙ ap (λ rest. pages_text so_far.pages ++ rest) (lines-none so_far.page none) ∙ append-nil (pages_text so_far.pages);
      }
      | inr full ↦ record { pages = so_far.page ∷ so_far.pages; full = (full, so_far.full); written = so_far.written }
    ]

-- what a run that is done wrote
abbrev pub IsWhole : PageHistory → Type 0
IsWhole h = KeepsLength h → WritesEachPage h → IsWholePages (layout_of h).length (written h)

pub is_whole : (h : PageHistory) → (layout_of h).is_over ≡ true → IsSoFar h → IsWhole h
is_whole h over so_far keeps writes = whole (layout_of h) (written h) (so_far keeps writes) over
