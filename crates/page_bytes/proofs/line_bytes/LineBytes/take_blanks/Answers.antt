use Rattle.std.proofs.Common.{◌≡◌, ℕ, true, false, ◌+◌, List, ◌∷◌, ◌++◌, ap, ◌∙◌, arith, rules, append_assoc}
use Rattle.std.proofs.lemmas.List.{replicate-append-replicate}
use Rattle.page_model.specs.Columns.{spaces}
use Rattle.page_bytes.proofs.BlanksInFront.{as_many_blanks, all_blanks}
use Rattle.page_bytes.proofs.line_bytes.LineBytes.take_blanks.Goals as goal

-- one blank more, and those that are owed
more_spaces : (count owed : ℕ) (left mid new old : List ℕ) → spaces count ++ left ≡ old → 32 ∷ mid ≡ left → spaces owed ++ new ≡ mid
    → spaces (count + (1 + owed)) ++ new ≡ old
more_spaces count owed left mid new old before one rest =
    let joined : spaces count ++ spaces (1 + owed) ≡ spaces (count + (1 + owed)) = replicate-append-replicate count (1 + owed) 32 in
    let more : spaces 1 ++ spaces owed ≡ spaces (1 + owed) = replicate-append-replicate 1 owed 32 in
    let first : spaces (1 + owed) ++ new ≡ left = rw (← more) (ap (λ bytes. 32 ∷ bytes) rest ∙ one) in
    rw (← joined) (append_assoc (spaces count) (spaces (1 + owed)) new ∙ ap (λ bytes. spaces count ++ bytes) first ∙ before)

pub loop-count-preserved : goal.loop-count-preserved
loop-count-preserved c =
    let one : c.take_blank.result ≡ true = search rules in
    record {
      few = omega (arith, c.take_owed-owed.ensures.most);
      taken = more_spaces c.loop-count.count c.take_owed-owed.result _ _ _ _ c.loop-count.invariant.taken (rw one at c.take_blank.ensures.taken) c.take_owed-owed.ensures.taken;
    }

pub returns-then-count-most-clause-blanks : goal.returns-then-count-most-clause-blanks
returns-then-count-most-clause-blanks c =
    as_many_blanks c.args.most c.loop-count.count _ _ c.loop-count.invariant.taken c.loop-count.invariant.few (omega arith)

pub returns-then-not-take_blank-clause-blanks : goal.returns-then-not-take_blank-clause-blanks
returns-then-not-take_blank-clause-blanks c =
    let none : c.take_blank.result ≡ false = search rules in
    all_blanks c.args.most c.loop-count.count _ _ c.loop-count.invariant.taken c.loop-count.invariant.few (c.take_blank.ensures.none none)
