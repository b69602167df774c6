-- What bytes of a run are and change, by its kind.
use Rattle.std.proofs.Common.{◌≡◌, ℕ, ◌+◌, ◌==◌, ◌≤◌, Bool, true, false, if◌then◌else◌, List, [], ◌∷◌, length, None, refl, ap, subst, arith, eqb-true}
use Rattle.std.specs.List.{AllByRecursion}
use Rattle.input_source.specs.Bytes.{blank, is_argument_byte, is_passed, is_text_byte, newline}
use Rattle.input_escapes.specs.ConditionFronts.{ByteTaken, HalvesTaken, NothingTaken}
use Rattle.input_escapes.specs.EscapeFronts.{ByteRead, HalvesRead, NothingRead}
use Rattle.input_escapes.specs.OpenEscape.{OpenEscape, texts_held}
use Rattle.input_escapes.specs.declared.open_escape.CopyUnit.TheVariants.{Byte}
use Rattle.input_escapes.proofs.ConditionFronts.{taken-plain}
use Rattle.input_escapes.proofs.EscapeFronts.{HalvesRead-held}
use Rattle.input_model.specs.Arguments.{HeldFewer, bytes_held, held, only_kept, with_argument_byte, Arguments as LineArguments}
use Rattle.input_arguments.proofs.HeldBytes.{held-bytes_held}
use Rattle.input_ahead.proofs.GivenFronts.{HalvesTaken-held}
use Rattle.input_model.specs.Input.{Input}
use Rattle.roff_scan.specs.RunKinds.{goes_by_bytes, has_newlines, is_held, is_of, most_whole}
use Rattle.input_model.specs.Unread.{Unread}
use Rattle.roff_scan.specs.Unread.Calls.{NoNewline}
use Rattle.roff_scan.specs.Unread.Kept.{NoneBegun}
use Rattle.roff_scan.specs.Unread.Runs.{HalvesBehind, arguments_behind, room_for, texts_behind}
use Rattle.roff_scan.specs.declared.run_kind.RunKind.{RunKind}
use Rattle.roff_scan.specs.declared.run_kind.RunKind.TheVariants.{Text, Blanks, Arguments, CallArguments, Name, Condition, Definition, Ignored, Dropped}
use Rattle.roff_scan.proofs.LineCalls.{NoneBegun-with_unit}

-- a byte is no newline where a newline isn't one of these
other_byte : (p : ℕ → Bool) → p newline ≡ false → (b : ℕ) (is : Bool) → (b == newline) ≡ is → p b ≡ true → is ≡ false
other_byte p none b true is plain = let same : p newline ≡ true = subst (λ (c : ℕ). p c ≡ true) (eqb-true b newline is) plain in absurd (cc)
other_byte p none b false is plain = refl

pub no_newline_of : (p : ℕ → Bool) → p newline ≡ false → (bytes : List ℕ) → AllByRecursion (λ b. p b ≡ true) bytes → NoNewline bytes
no_newline_of p none [] plain = tt
no_newline_of p none (b ∷ bytes) plain = (other_byte p none b (b == newline) refl plain.0, no_newline_of p none bytes plain.1)

-- no newline is read in names, or in conditions
HalvesRead-plain : (half last : List OpenEscape) (bytes : List ℕ) → HalvesRead half bytes last → NoNewline bytes
HalvesRead-plain _ last _ (NothingRead half) = tt
HalvesRead-plain half _ _ (ByteRead _ next last b bytes reads others) = (reads.no_newline, HalvesRead-plain next last bytes others)

HalvesTaken-plain : (half last : List OpenEscape) (bytes : List ℕ) → HalvesTaken half bytes last → NoNewline bytes
HalvesTaken-plain _ last _ (NothingTaken half) = tt
HalvesTaken-plain half _ _ (ByteTaken _ next last b bytes takes others) = (taken-plain half next b takes, HalvesTaken-plain next last bytes others)

-- in most runs there is none
pub run-plain : (kind : RunKind) (half last : List OpenEscape) (bytes : List ℕ) → has_newlines kind ≡ false → AllByRecursion (λ b. is_of kind b ≡ true) bytes
    → HalvesBehind kind half bytes last → NoNewline bytes
run-plain Text half last bytes none are halves = no_newline_of (λ b. false) refl bytes are
run-plain Blanks half last bytes none are halves = no_newline_of (λ b. b == blank) refl bytes are
run-plain Arguments half last bytes none are halves = no_newline_of is_argument_byte refl bytes are
run-plain (CallArguments most) half last bytes none are halves = no_newline_of is_argument_byte refl bytes are
run-plain Name half last bytes none are halves = HalvesRead-plain half last bytes halves
run-plain Condition half last bytes none are halves = HalvesTaken-plain half last bytes halves
run-plain Definition half last bytes none are halves = no_newline_of is_text_byte refl bytes are
run-plain Ignored half last bytes none are halves = no_newline_of is_text_byte refl bytes are
run-plain (Dropped true) half last bytes none are halves = absurd (cc)
run-plain (Dropped false) half last bytes none are halves = no_newline_of (is_passed false) refl bytes are

-- how many bytes a run may hold
abbrev pub count_held : RunKind → List ℕ → ℕ
count_held kind bytes = if is_held kind then length bytes else 0

-- so many more are held at the most
same_held : (a : LineArguments) (half last : List OpenEscape) → last ≡ half → held a + texts_held last ≤ held a + texts_held half + 0
same_held a half last is = omega (arith, ap texts_held is)

more_held : (bytes : List ℕ) (a : LineArguments) (half last : List OpenEscape) → last ≡ half
    → held (bytes_held bytes a) + texts_held last ≤ held a + texts_held half + length bytes
more_held bytes a half last is = omega (arith, ap texts_held is, held-bytes_held bytes a)

pub run-held : (kind : RunKind) (bytes : List ℕ) (a : LineArguments) (half last : List OpenEscape) → HalvesBehind kind half bytes last
    → held (arguments_behind kind bytes a) + texts_held last ≤ held a + texts_held half + count_held kind bytes
run-held Text bytes a half last halves = same_held a half last halves
run-held Blanks bytes a half last halves = same_held a half last halves
run-held Arguments bytes a half last halves = more_held bytes a half last halves
run-held (CallArguments most) bytes a half last halves = more_held bytes a half last halves
run-held Name bytes a half last halves = omega (arith, HalvesRead-held half last bytes halves)
run-held Condition bytes a half last halves = omega (arith, HalvesTaken-held half last bytes halves)
run-held Definition bytes a half last halves = same_held a half last halves
run-held Ignored bytes a half last halves = same_held a half last halves
run-held (Dropped within_block) bytes a half last halves = same_held a half last halves

-- behind bytes that are held none is begun between arguments
NoneBegun-bytes_held : (bytes : List ℕ) (a : LineArguments) → NoneBegun a → NoneBegun (bytes_held bytes a)
NoneBegun-bytes_held [] a none = none
NoneBegun-bytes_held (b ∷ bytes) a none = NoneBegun-bytes_held bytes (only_kept (with_argument_byte a b)) (NoneBegun-with_unit a (Byte b) none)

pub run-begun : (kind : RunKind) (bytes : List ℕ) (a : LineArguments) → NoneBegun a → NoneBegun (arguments_behind kind bytes a)
run-begun Text bytes a none = none
run-begun Blanks bytes a none = none
run-begun Arguments bytes a none = NoneBegun-bytes_held bytes a none
run-begun (CallArguments most) bytes a none = NoneBegun-bytes_held bytes a none
run-begun Name bytes a none = none
run-begun Condition bytes a none = none
run-begun Definition bytes a none = none
run-begun Ignored bytes a none = none
run-begun (Dropped within_block) bytes a none = none

-- no bytes change nothing
pub run-none : (kind : RunKind) (a : LineArguments) → arguments_behind kind [] a ≡ a
run-none Text a = refl
run-none Blanks a = refl
run-none Arguments a = refl
run-none (CallArguments most) a = refl
run-none Name a = refl
run-none Condition a = refl
run-none Definition a = refl
run-none Ignored a = refl
run-none (Dropped within_block) a = refl

pub halves-none : (kind : RunKind) (half : List OpenEscape) → HalvesBehind kind half [] half
halves-none Text half = refl
halves-none Blanks half = refl
halves-none Arguments half = refl
halves-none (CallArguments most) half = refl
halves-none Name half = NothingRead half
halves-none Condition half = NothingTaken half
halves-none Definition half = refl
halves-none Ignored half = refl
halves-none (Dropped within_block) half = refl

pub fewer-none : (kind : RunKind) (a : LineArguments) → HeldFewer (most_whole kind) [] a
fewer-none kind a = tt

-- where there is no bound any number of arguments may be whole
pub no_bound : (bytes : List ℕ) (a : LineArguments) → HeldFewer None bytes a
no_bound [] a = tt
no_bound (b ∷ bytes) a = (tt, no_bound bytes (only_kept (with_argument_byte a b)))

-- any byte may be one of a name or of a condition
pub any_byte : (bytes : List ℕ) → AllByRecursion (λ b. true ≡ true) bytes
any_byte [] = tt
any_byte (b ∷ bytes) = (refl, any_byte bytes)

module _ {E : Type 0} where
  -- only a definition's text is put behind another one
  pub run-texts : (kind : RunKind) (bytes : List ℕ) (i : Input E) → (kind ≡ Definition → ⊥) → texts_behind kind bytes i ≡ i.open_texts
  run-texts Text bytes i other = refl
  run-texts Blanks bytes i other = refl
  run-texts Arguments bytes i other = refl
  run-texts (CallArguments most) bytes i other = refl
  run-texts Name bytes i other = refl
  run-texts Condition bytes i other = refl
  run-texts Definition bytes i other = absurd (other refl)
  run-texts Ignored bytes i other = refl
  run-texts (Dropped within_block) bytes i other = refl

  -- of other runs that go by bytes none are held, and there is room for as many as the limit on bytes allows
  pub run-room : (kind : RunKind) (u : Unread E) (most : ℕ) → (kind ≡ Definition → ⊥) → goes_by_bytes kind ≡ true → u.input.charge ≤ u.limits.bytes
      → (is_held kind ≡ false → u.input.charge + most ≡ u.limits.bytes) → most ≡ room_for kind u
  run-room Text u most other goes within all = absurd (cc)
  run-room Blanks u most other goes within all = omega (arith, within, all refl)
  run-room Arguments u most other goes within all = absurd (cc)
  run-room (CallArguments bound) u most other goes within all = absurd (cc)
  run-room Name u most other goes within all = absurd (cc)
  run-room Condition u most other goes within all = absurd (cc)
  run-room Definition u most other goes within all = absurd (other refl)
  run-room Ignored u most other goes within all = omega (arith, within, all refl)
  run-room (Dropped within_block) u most other goes within all = omega (arith, within, all refl)
