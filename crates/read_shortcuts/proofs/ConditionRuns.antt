-- Bytes of a condition change only what is half read, in which some are held, one after another.
use Rattle.std.proofs.Common.{◌≡◌, ℕ, ◌+◌, ◌≤◌, List, Some, None, false, refl, ap, arith}
use Rattle.input_model.specs.Arguments.{Arguments}
use Rattle.input_escapes.specs.ConditionFronts.{ByteTaken, HalvesTaken, IsHeld, IsRead, NothingTaken, TakesOn}
use Rattle.input_escapes.specs.OpenEscape.{OpenEscape, texts_held}
use Rattle.input_escapes.specs.Waiting.{is_ended_by}
use Rattle.roff_store.specs.Named.{Named}
use Rattle.roff_store.specs.Texts.{Entry}
use Rattle.run_model.specs.Reading.Ends.{due}
use Rattle.run_model.specs.Stages.{Here, Onward, Stage, TakesHalf, Turned, input_at}
use Rattle.run_model.specs.declared.line_state.LineState.{LineState}

-- where this is half read
abbrev stage_with : LineState → Arguments → List (List ℕ) → List OpenEscape → Stage
stage_with reading a texts half = record { reading = reading; escapes = half; arguments = a; texts = texts }

-- such a byte ends nothing
taken-stays : (half next : List OpenEscape) (b : ℕ) → TakesOn half b next → is_ended_by half (Some b) ≡ false
taken-stays half next b (IsRead reads) = reads.stays
taken-stays half next b (IsHeld top holds is) = holds.stays

-- of it one byte more is held at the most, and what was held stays
taken-least : (half next : List OpenEscape) (b : ℕ) → TakesOn half b next → texts_held half ≤ texts_held next
taken-least half next b (IsRead reads) = omega (arith, reads.held)
taken-least half next b (IsHeld top holds is) = omega (arith, ap texts_held is, holds.held)

taken-most : (half next : List OpenEscape) (b : ℕ) → TakesOn half b next → texts_held next ≤ texts_held half + 1
taken-most half next b (IsRead reads) = omega (arith, reads.held)
taken-most half next b (IsHeld top holds is) = omega (arith, ap texts_held is, holds.held)

-- bytes that change only what is half read lead from stage to stage
pub turned-taken : (names : Named Entry) (reading : LineState) (a : Arguments) (texts : List (List ℕ)) (half last : List OpenEscape) (bytes : List ℕ) → due reading ≡ None
    → TakesHalf reading → HalvesTaken half bytes last → Turned names (stage_with reading a texts half) bytes (stage_with reading a texts last)
turned-taken names reading a texts _ last _ none_due does (NothingTaken half) = Here (stage_with reading a texts half)
turned-taken names reading a texts half _ _ none_due does (ByteTaken _ next last b bytes takes others) =
    let p : Stage = stage_with reading a texts half in
    Onward p (stage_with reading a texts next) (stage_with reading a texts last) b bytes none_due (taken-stays half next b takes)
    (λ k i. does k (input_at names p i) b next takes) refl (omega (arith, taken-least half next b takes)) (omega (arith, taken-most half next b takes))
    (turned-taken names reading a texts next last bytes none_due does others)
