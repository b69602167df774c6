use Rattle.std.proofs.Common.{◌≡◌, true, false, List, ℕ, refl, subst, sym}
use Rattle.read_shortcuts.specs.ControlFronts.{ends_short, reads_short}
use Rattle.read_shortcuts.proofs.FrontsRead.{two-read}
use Rattle.read_shortcuts.proofs.short_names.read_short_front.Goals as goal

pub returns-in-Some-clause-whole : goal.returns-in-Some-clause-whole
returns-in-Some-clause-whole g c = λ asks reads.
    c.read_short.ensures.whole
    (two-read ends_short c.front.result.now c.in-Some.front c.in-Some.ensures.fronts
    (subst (λ (bytes : List ℕ). reads_short bytes ≡ true) (sym (c.front.ensures.whole asks)) reads))

pub returns-in-None-clause-whole : goal.returns-in-None-clause-whole
returns-in-None-clause-whole g c = λ asks reads.
    let none : reads_short c.front.result.now ≡ false = c.in-None.ensures.none ends_short refl in
    let some : reads_short c.front.result.now ≡ true = subst (λ (bytes : List ℕ). reads_short bytes ≡ true) (sym (c.front.ensures.whole asks)) reads in
    absurd (cc (none, some))
