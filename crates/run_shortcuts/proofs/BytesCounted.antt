-- What is passed over at once is counted: no less was taken behind it.
use Rattle.std.proofs.Common.{◌≡◌, ℕ, ◌+◌, ◌≤◌, Bool, true, false, List, refl, ap, arith}
use Rattle.input_model.specs.Input.{pushing}
use Rattle.input_source.specs.Tape.{Tape}
use Rattle.roff_scan.specs.Unread.Calls.{PassesEnd, PassesFront}
use Rattle.run_model.specs.Reading.Items.{PageUnread}
use Rattle.run_state.specs.declared.composer.Composer.{Composer as ComposerOf}
use Rattle.read_lines.specs.Reader.State.{ReaderState}
use Rattle.read_shortcuts.specs.Registers.{Asked, PutsText}
use Rattle.read_shortcuts.specs.Stepped.{StepsText}
use Rattle.read_shortcuts.proofs.RunsRead.{passed-charge}

-- behind bytes that were taken
pub more-passed : (gave gives : Tape → Type 0) (bytes : List ℕ) (before after : PageUnread) → PassesFront gave gives bytes before after → before.input.charge ≤ after.input.charge
more-passed gave gives bytes before after passes = let is = passed-charge gave gives bytes before after passes in omega (arith, is)

-- behind an escape whose text was put in front
pub more-put : (asked : Asked) (gave gives : Tape → Type 0) (r : ReaderState) (es : ComposerOf) (before after : PageUnread) → PutsText asked gave gives r es before after
    → before.input.charge ≤ after.input.charge
more-put asked gave gives r es before after puts =
    let passed = more-passed gave gives puts.bytes before puts.passed puts.passes in
    let is : after.input.charge ≡ puts.passed.input.charge = ap (λ (u : PageUnread). u.input.charge) puts.put in
    omega (arith, passed, is)

-- behind one that stepped its register
pub more-stepped : (gave gives : Tape → Type 0) (old new : ReaderState) (es : ComposerOf) (before after : PageUnread) → StepsText gave gives old new es before after
    → before.input.charge ≤ after.input.charge
more-stepped gave gives old new es before after steps =
    let passed = more-passed gave gives steps.bytes before steps.passed steps.passes in
    let is : after.input.charge ≡ steps.passed.input.charge = ap (λ (u : PageUnread). u.input.charge) steps.put in
    omega (arith, passed, is)

-- behind bytes of a text that were read, by whether all were
pub more-read : (rest : List ℕ) (count : ℕ) (before after : PageUnread) (whole : Bool)
    → (whole ≡ true → after ≡ record before { input = record before.input { charge = before.input.charge + count + 1 } })
    → (whole ≡ false → after ≡ record before { input = pushing rest (record before.input { charge = before.input.charge + count }) })
    → before.input.charge ≤ after.input.charge
more-read rest count before after true ended left =
    let is : after.input.charge ≡ before.input.charge + count + 1 = ap (λ (u : PageUnread). u.input.charge) (ended refl) in omega (arith, is)
more-read rest count before after false ended left =
    let is : after.input.charge ≡ before.input.charge + count = ap (λ (u : PageUnread). u.input.charge) (left refl) in omega (arith, is)

-- behind the end of a text
pub more-ended : (before after : PageUnread) → PassesEnd before after → before.input.charge ≤ after.input.charge
more-ended before after passes = let is : after.input.charge ≡ before.input.charge + 1 = ap (λ (u : PageUnread). u.input.charge) passes.input in omega (arith, is)

-- behind what was taken, or where nothing changed
pub more-or_stays : (taken : Bool) (before after : PageUnread) → (taken ≡ true → before.input.charge ≤ after.input.charge) → (taken ≡ false → after ≡ before)
    → before.input.charge ≤ after.input.charge
more-or_stays true before after more stays = more refl
more-or_stays false before after more stays = let is = ap (λ (u : PageUnread). u.input.charge) (stays refl) in omega (arith, is)
