use Rattle.std.proofs.Common.{◌≡◌, true, false, List, ℕ, refl, subst, sym}
use Rattle.read_shortcuts.specs.ControlFronts.{ends_short, is_front_read, reads_front, reads_short}
use Rattle.read_shortcuts.proofs.ControlReads.{nothing-read}
use Rattle.read_shortcuts.proofs.FrontsRead.{two-read}
use Rattle.read_shortcuts.proofs.LinesRead.{ended-front}
use Rattle.read_shortcuts.proofs.control.read_control_front.Goals as goal

pub read_control-requires-clause-ends : goal.read_control-requires-clause-ends
read_control-requires-clause-ends g c =
    ended-front c.in-Some.front c.front-bytes.result.now (g.S.ByteSource.ready c.args.source.now) c.args.unread.now c.in-Some.ensures.fronts c.front-bytes.ensures.bytes c.front-bytes.ensures.front

pub returns-in-Some-clause-whole : goal.returns-in-Some-clause-whole
returns-in-Some-clause-whole g c = λ asks reads.
    c.read_control.ensures.whole
    (two-read is_front_read c.front-bytes.result.now c.in-Some.front c.in-Some.ensures.fronts
    (subst (λ (bytes : List ℕ). reads_front bytes ≡ true) (sym (c.front-bytes.ensures.whole asks)) reads))

pub returns-in-Some-clause-short : goal.returns-in-Some-clause-short
returns-in-Some-clause-short g c = λ asks reads.
    c.read_control.ensures.short
    (two-read ends_short c.front-bytes.result.now c.in-Some.front c.in-Some.ensures.fronts
    (subst (λ (bytes : List ℕ). reads_short bytes ≡ true) (sym (c.front-bytes.ensures.whole asks)) reads))

pub returns-in-None-clause-read : goal.returns-in-None-clause-read
returns-in-None-clause-read g c = nothing-read _ _ _ _ _ _ c.unread_front.ensures.unread c.unread_front.ensures.past

pub returns-in-None-clause-whole : goal.returns-in-None-clause-whole
returns-in-None-clause-whole g c = λ asks reads.
    let none : reads_front c.front-bytes.result.now ≡ false = c.in-None.ensures.none is_front_read refl in
    let some : reads_front c.front-bytes.result.now ≡ true = subst (λ (bytes : List ℕ). reads_front bytes ≡ true) (sym (c.front-bytes.ensures.whole asks)) reads in
    absurd (cc (none, some))

pub returns-in-None-clause-short : goal.returns-in-None-clause-short
returns-in-None-clause-short g c = λ asks reads.
    let none : reads_short c.front-bytes.result.now ≡ false = c.in-None.ensures.none ends_short refl in
    let some : reads_short c.front-bytes.result.now ≡ true = subst (λ (bytes : List ℕ). reads_short bytes ≡ true) (sym (c.front-bytes.ensures.whole asks)) reads in
    absurd (cc (none, some))
