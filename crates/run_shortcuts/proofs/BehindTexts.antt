-- What stands behind bytes of a text that were told of those that stood ready.
use Rattle.std.proofs.Common.{◌≡◌, ℕ, ◌-◌, ◌≤◌, Bool, true, false, List, length, if◌then◌else◌, sym, ap, ◌∙◌, arith, length-take-le}
use Rattle.input_source.specs.Tape.{Tape}
use Rattle.roff_scan.specs.Unread.Calls.{PassesFront, front_bytes}
use Rattle.run_model.specs.Reading.Items.{PageUnread}
use Rattle.read_shortcuts.specs.Runs.{ready_allowed}
use Rattle.read_shortcuts.proofs.RunsRead.{first_of_front, passed-charge}
use Rattle.run_shortcuts.specs.declared.fronts.Behind.{Behind}
use Rattle.run_shortcuts.specs.declared.fronts.Behind.TheVariants.{Other}
use Rattle.run_shortcuts.specs.BehindText.{begins_above_controls, behind_ready, behind_text, behind_told}

-- so many bytes of a front were passed as are counted
counted-passed : (gave gives : Tape → Type 0) (ready front : List ℕ) (count : ℕ) (old new : PageUnread)
    → front ≡ front_bytes (length front) ready old → count ≤ length front → PassesFront gave gives (front_bytes count ready old) old new
    → count ≡ new.input.charge - old.input.charge
counted-passed gave gives ready front count old new stood few passes =
    let charge = passed-charge gave gives (front_bytes count ready old) old new passes in
    let same = ap (λ (bytes : List ℕ). length bytes) (sym (first_of_front front count ready old stood few)) ∙ length-take-le count front few in
    omega (arith, charge, same)

-- behind bytes that were told stands what stands at their end
pub behind-told : (gave gives : Tape → Type 0) (ready front : List ℕ) (count : ℕ) (old new : PageUnread) (behind : Behind)
    → front ≡ front_bytes (length front) ready old → count ≤ length front → PassesFront gave gives (front_bytes count ready old) old new
    → begins_above_controls front ≡ true → behind ≡ behind_text front count → front ≡ ready_allowed old ready
    → behind ≡ behind_ready ready old new
behind-told gave gives ready front count old new behind stood few passes begins is whole =
    is
    ∙ ap (λ (c : Bool). if c then behind_text front count else Other) (sym begins)
    ∙ ap (behind_told front) (counted-passed gave gives ready front count old new stood few passes)
    ∙ ap (λ (bytes : List ℕ). behind_told bytes (new.input.charge - old.input.charge)) whole

-- where a control byte stands first nothing is seen
pub behind-untold : (ready front : List ℕ) (old new : PageUnread) → begins_above_controls front ≡ false → front ≡ ready_allowed old ready
    → Other ≡ behind_ready ready old new
behind-untold ready front old new begins whole =
    let count : ℕ = new.input.charge - old.input.charge in
    ap (λ (c : Bool). if c then behind_text front count else Other) (sym begins)
    ∙ ap (λ (bytes : List ℕ). behind_told bytes count) whole
