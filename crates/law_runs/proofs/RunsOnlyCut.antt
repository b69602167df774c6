-- Whole runs, of which one is cut short by smaller limits, or by a source that fails.
use Rattle.std.proofs.Common.{◌≡◌, ◌⊎◌, inl, inr, ℕ, List, [], ◌∷◌, Some, refl, sym, ◌∙◌, ap}
use Rattle.roff_num.specs.declared.limit.Limit.{Limit}
use Rattle.run_model.specs.declared.status.Status.{Status}
use Rattle.run_model.specs.declared.status.Status.TheVariants.{Device, Done, Limit as Limited}
use Rattle.roff_num.specs.declared.limits.Limits.{Limits}
use Rattle.law_runs.specs.Laws.{OnlyCuts, LimitsOnlyCut, SameUntilALimit, FailingOnlyCuts, SameUntilTheFault, over, failing_behind, going_on_behind}
use Rattle.law_runs.specs.Limits.{AreWithin}
use Rattle.run_model.specs.Run.{State, initial, paged_state, told_after}
use Rattle.run_model.specs.declared.start.Start.{Start}
use Rattle.input_source.specs.Tape.{Tape, Item, Ending, Ends, Failed, front, behind_front}
use Rattle.law_runs.proofs.StepsAppend.{OnlyCuts-same}
use Rattle.law_runs.proofs.StepsOnlyCut.{Cut, Same, Short, Differ, Cut-with_registers}
use Rattle.law_runs.proofs.Told.{nothing_told}
use Rattle.law_runs.proofs.ToldOnlyCut.{Cut-told_after}

-- a run that may be cut short was only cut
pub OnlyCuts-Cut : (Beside : Tape → Tape → Type 0) (IsCause : Status → Type 0) (s whole : State) → Cut Beside IsCause s whole → OnlyCuts s whole
OnlyCuts-Cut Beside IsCause s whole (Same tape beside same) = rw same (OnlyCuts-same s (over tape s) refl refl)
OnlyCuts-Cut Beside IsCause s whole (Short status ended cause cuts) = cuts

-- the same tape
abbrev IsSame : Tape → Tape → Type 0
IsSame t u = u ≡ t

-- a limit
abbrev IsLimit : Status → Type 0
IsLimit status = (limit : Limit) × (status ≡ Limited limit)

undone-limit : (status : Status) → IsLimit status → status ≡ Done → ⊥
undone-limit status is done = let wrong : Limited is.0 ≡ Done = sym is.1 ∙ done in absurd (cc)

-- runs that differ in their limits
Differ-limits : (small large : Limits) → AreWithin small large → Differ IsSame IsLimit small large
Differ-limits small large within = record {
  limits = inr (within, λ limit. (limit, refl));
  tapes = λ t u same. inr (ap front same, ap behind_front same);
}

-- the one with the smaller limits may be cut short
Cut-limits : (small large : Limits) → AreWithin small large → (start : Start) (tape : Tape) (n : ℕ) → Cut IsSame IsLimit (told_after small n (initial small start tape)) (told_after large n (initial large start tape))
Cut-limits small large within start tape n =
    let differ = Differ-limits small large within in
    Cut-told_after IsSame IsLimit small large differ undone-limit n (initial small start tape) (initial large start tape) (nothing_told small start tape)
    (Cut-with_registers IsSame IsLimit small large differ start.registers.items (paged_state start tape) tape refl)

-- limits only cut
pub limits_only_cut : LimitsOnlyCut
limits_only_cut small large within start tape n = OnlyCuts-Cut IsSame IsLimit _ _ (Cut-limits small large within start tape n)

-- larger limits change nothing until a limit stops the run
pub same_until_a_limit : SameUntilALimit
same_until_a_limit small large within start tape n not_stopped =
    elim (Cut-limits small large within start tape n) [
      | Same left same_tape same ↦ same ∙ ap (λ t. over t (told_after small n (initial small start tape))) same_tape
      | Short status ended cause cuts ↦ absurd (not_stopped cause.0 (ended ∙ ap Some cause.1))
    ]

-- a tape that fails, and one that goes on there
data GoesOn : Tape → Tape → Type 0 where
  Behind : (items more : List Item) (ending : Ending) → GoesOn (failing_behind items) (going_on_behind items more ending)

-- a fault of the device
abbrev IsFault : Status → Type 0
IsFault status = status ≡ Device

undone-fault : (status : Status) → IsFault status → status ≡ Done → ⊥
undone-fault status is done = let wrong : Device ≡ Done = sym is ∙ done in absurd (cc)

-- runs that differ in their sources: both answer the same until the first one fails
Differ-sources : (l : Limits) → Differ GoesOn IsFault l l
Differ-sources l = record { limits = inl refl; tapes = fronts }
  where
    fronts : (t u : Tape) → GoesOn t u → ((front t ≡ Ends Failed) × IsFault Device) ⊎ ((front u ≡ front t) × GoesOn (behind_front t) (behind_front u))
    fronts t u (Behind [] more ending) = inl (refl, refl)
    fronts t u (Behind (item ∷ items) more ending) = inr (refl, Behind items more ending)

-- the one whose source fails may be cut short
Cut-sources : (l : Limits) (start : Start) (items more : List Item) (ending : Ending) (n : ℕ) → Cut GoesOn IsFault (told_after l n (initial l start (failing_behind items))) (told_after l n (initial l start (going_on_behind items more ending)))
Cut-sources l start items more ending n =
    Cut-told_after GoesOn IsFault l l (Differ-sources l) undone-fault n _ _ (nothing_told l start (failing_behind items))
    (Cut-with_registers GoesOn IsFault l l (Differ-sources l) start.registers.items (paged_state start (failing_behind items)) (going_on_behind items more ending) (Behind items more ending))

-- a failing source only cuts
pub failing_only_cuts : FailingOnlyCuts
failing_only_cuts l start items more ending n = OnlyCuts-Cut GoesOn IsFault _ _ (Cut-sources l start items more ending n)

-- a source that goes on changes nothing but what is left to take, until the run meets the fault
pub same_until_the_fault : SameUntilTheFault
same_until_the_fault l start items more ending n not_met =
    elim (Cut-sources l start items more ending n) [
      | Same left beside same ↦ ap (over (told_after l n (initial l start (failing_behind items))).tape) same
      | Short status ended cause cuts ↦ absurd (not_met (ended ∙ ap Some cause))
    ]
