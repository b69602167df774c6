-- Laws of branches that are skipped (manual, section 16).
--
-- Their bytes mean nothing but for this: a backslash and the byte behind it stand together, `\{` and `\}` are counted, and
-- newlines are found.
use Rattle.std.specs.Prelude.{◌≡◌, ℕ, ◌+◌, ◌≤◌, Bool, true, false, not, List, [], ◌∷◌, ◌++◌, length, map, All, if◌then◌else◌, ◌==◌}
use Rattle.roff_num.specs.declared.limits.Limits.{Limits}
use Rattle.input_source.specs.Bytes.{newline, backslash, is_dropped}
use Rattle.input_model.specs.Input.{lines_taken}
use Rattle.input_source.specs.Tape.{Tape, OneByte, items_then}
use Rattle.run_model.specs.ItemsTaken.{TakesItems}
use Rattle.run_model.specs.Within.{IsWithin}
use Rattle.law_reading.specs.Quoting.{taking_all}
use Rattle.run_model.specs.Reading.Branches.{branch_of, most_braces}
use Rattle.run_model.specs.Reading.Items.{PageInput, going_on}
use Rattle.run_model.specs.Registers.{Known}
use Rattle.run_model.specs.Run.{State, after}
use Rattle.run_model.specs.declared.line_state.LineState.TheVariants.{LineStart, Skipping}

-- whether bytes are whole: the last isn't a backslash that belongs to a byte behind it
abbrev pub is_whole : List ℕ → Bool
is_whole [] = true
is_whole (b ∷ []) = not (b == backslash)
is_whole (b ∷ c ∷ bytes) = if b == backslash then is_whole bytes else is_whole (c ∷ bytes)

-- how many escapes of a byte are among others
abbrev pub escapes_among : ℕ → List ℕ → ℕ
escapes_among e [] = 0
escapes_among e (b ∷ []) = 0
escapes_among e (b ∷ c ∷ bytes) =
    if b == backslash then (if c == e then 1 else 0) + escapes_among e bytes else escapes_among e (c ∷ bytes)

-- a branch may end behind these: a newline that belongs to no backslash is the last, and `\{` isn't more often among them
-- than `\}`
pub record MayEnd (front : List ℕ) : Type 0 where
  pub before : List ℕ
  pub last : front ≡ before ++ newline ∷ []
  pub whole : is_whole before ≡ true
  pub braces : escapes_among 123 before ≤ escapes_among 125 before

-- a skipped branch: it may end behind these, and behind none of their fronts
pub record IsSkippedBranch (front : List ℕ) : Type 0 where
  pub ends : MayEnd front
  pub shortest : (shorter : List ℕ) (b : ℕ) (more : List ℕ) → front ≡ shorter ++ b ∷ more → MayEnd shorter → ⊥

-- no byte of these is dropped as it is taken
abbrev pub AreKept : List ℕ → Type 0
AreKept bytes = All (λ b. is_dropped b ≡ false) bytes

-- a skipped branch does nothing, and behind it a line begins
abbrev pub SkippedBranchesDoNothing : Type 0
SkippedBranchesDoNothing =
    (k : Known) (i : PageInput) (front : List ℕ) → IsSkippedBranch front → AreKept front → length front ≤ most_braces →
    taking_all k (branch_of false) i front ≡ going_on i LineStart

-- bytes that are skipped, and behind which the branch goes on
pub record GoesOnSkipping (k : Known) (i : PageInput) (bytes : List ℕ) : Type 0 where
  pub opened : ℕ
  pub closed : ℕ
  pub is_behind : Bool
  pub goes_on : taking_all k (branch_of false) i bytes ≡ going_on i (Skipping opened closed is_behind)

-- and where it may end behind no front of some bytes, it goes on behind them all
abbrev pub BranchesAreSkippedToTheirEnd : Type 0
BranchesAreSkippedToTheirEnd =
    (k : Known) (i : PageInput) (bytes : List ℕ) → ((front more : List ℕ) → bytes ≡ front ++ more → MayEnd front → ⊥) →
    AreKept bytes → length bytes ≤ most_braces → GoesOnSkipping k i bytes

-- A run passes over a skipped branch that stands in the source in as many steps as it has bytes, and each costs one. But for
-- what is counted nothing changes, and behind it a line begins.
abbrev pub RunsPassOverSkippedBranches : Type 0
RunsPassOverSkippedBranches =
    (l : Limits) (s : State) (front : List ℕ) (tape : Tape) → TakesItems s → s.reading ≡ branch_of false → s.input.escapes ≡ [] →
    s.input.ahead ≡ [] → s.tape ≡ items_then (map OneByte front) tape → IsSkippedBranch front → AreKept front →
    length front ≤ most_braces → s.input.charge + length front ≤ l.bytes → IsWithin l s →
    after l (length front) s ≡ record s { tape = tape; reading = LineStart; input = lines_taken front s.input }
