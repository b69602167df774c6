-- As many bytes of a text line as can be told together were told, and taken.
use Rattle.std.proofs.Common.{◌≡◌, ℕ, ◌≤◌, Bool, true, false, List, [], ◌∷◌, length, sym, ap, subst, ◌∙◌, arith, length-take-le, ◌==◌, if◌then◌else◌, drop}
use Rattle.input_source.specs.Bytes.{backslash}
use Rattle.input_source.specs.Tape.{Tape}
use Rattle.roff_scan.specs.Unread.Calls.{PassesFront, front_bytes}
use Rattle.read_shortcuts.specs.Runs.{ready_allowed}
use Rattle.read_shortcuts.proofs.RunsRead.{first_of_front, passed-charge}
use Rattle.run_events.specs.Formatter.Telling.{TellsFront}
use Rattle.run_events.specs.declared.formatter.Formatter.{Formatter}
use Rattle.run_turns.specs.declared.running.Running.{Running as Coded}
use Rattle.run_shortcuts.specs.Beginning.{BeginWithText, TellsText}
use Rattle.run_shortcuts.specs.BehindText.{begin_with, begins_above_controls, begins_name, behind_text, escape_before}
use Rattle.run_shortcuts.specs.declared.fronts.Behind.{Behind}
use Rattle.run_shortcuts.specs.declared.fronts.Behind.TheVariants.{Escape, Named, Untold}

-- those that the formatter told of a front, where no more were passed
pub tells-text : (gave gives : Tape → Type 0) (ready front : List ℕ) (count : ℕ) (old new : Coded) (f : Formatter) → front ≡ front_bytes (length front) ready old.unread
    → TellsFront front count old.interpreter.formatter f → PassesFront gave gives (front_bytes count ready old.unread) old.unread new.unread → front ≡ ready_allowed old.unread ready
    → TellsText (ready_allowed old.unread ready) old new
tells-text gave gives ready front count old new f stood told passes whole =
    let charge = passed-charge gave gives (front_bytes count ready old.unread) old.unread new.unread passes in
    let same = ap (λ (bytes : List ℕ). length bytes) (sym (first_of_front front count ready old.unread stood told.few)) ∙ length-take-le count front told.few in
    subst (λ (bytes : List ℕ). TellsText bytes old new) whole (record {
      count = count;
      behind = f;
      tells = told;
      taken = omega (arith, charge, same);
    })

-- and others behind them
pub tells-more : (front : List ℕ) (old between new : Coded) → TellsText front old between → between.unread.input.charge ≤ new.unread.input.charge → TellsText front old new
tells-more front old between new told more = record {
  count = told.count;
  behind = told.behind;
  tells = told.tells;
  taken = let taken = told.taken in omega (arith, taken, more);
}

-- where a control byte stands first no other byte does
pub none-begins : {X : Type 0} (front allowed : List ℕ) → front ≡ allowed → begins_above_controls front ≡ false → begins_above_controls allowed ≡ true → X
none-begins front allowed whole none begins =
    let wrong : false ≡ true = sym none ∙ ap begins_above_controls whole ∙ begins in absurd (cc)

-- no text does where none begins
pub none-text : {X : Type 0} (front allowed : List ℕ) → front ≡ allowed → (BeginWithText front → ⊥) → BeginWithText allowed → X
none-text front allowed whole none first = absurd (none (subst BeginWithText (sym whole) first))

-- behind a backslash something is seen
escape-seen : (bytes : List ℕ) → escape_before bytes ≡ Untold → ⊥
escape-seen [] is = absurd (cc)
escape-seen (b ∷ bytes) is = by (begins_name b) is
  where
    by : (c : Bool) → (if c then Named else Escape) ≡ Untold → ⊥
    by true is = absurd (cc)
    by false is = absurd (cc)

begin-seen : (bytes : List ℕ) → begin_with bytes ≡ Untold → ⊥
begin-seen [] is = absurd (cc)
begin-seen (b ∷ bytes) is = by (b == backslash) is
  where
    by : (c : Bool) → (if c then escape_before bytes else Behind.Other) ≡ Untold → ⊥
    by true is = escape-seen bytes is
    by false is = absurd (cc)

-- what stands behind bytes that were told was looked at
pub behind-seen : (front : List ℕ) (count : ℕ) (behind : Behind) → behind ≡ behind_text front count → behind ≡ Untold → ⊥
behind-seen front count behind is untold = begin-seen (drop count front) (sym is ∙ untold)
