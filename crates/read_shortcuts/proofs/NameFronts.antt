-- Bytes in the front of an escape that reads a name change only what is half read, one after another.
use Rattle.std.proofs.Common.{◌≡◌, ℕ, List, None, refl, arith}
use Rattle.input_model.specs.Arguments.{Arguments}
use Rattle.input_escapes.specs.OpenEscape.{OpenEscape}
use Rattle.input_escapes.specs.EscapeFronts.{ByteRead, HalvesRead, NothingRead}
use Rattle.roff_store.specs.Named.{Named}
use Rattle.roff_store.specs.Texts.{Entry}
use Rattle.run_model.specs.Reading.Ends.{due}
use Rattle.run_model.specs.Stages.{Here, Onward, ReadsHalves, Stage, Turned, input_at}
use Rattle.run_model.specs.declared.line_state.LineState.{LineState}

-- where this is half read
abbrev stage_with : LineState → Arguments → List (List ℕ) → List OpenEscape → Stage
stage_with reading a texts half = record { reading = reading; escapes = half; arguments = a; texts = texts }

-- bytes that change only what is half read lead from stage to stage
pub turned-read : (names : Named Entry) (reading : LineState) (a : Arguments) (texts : List (List ℕ)) (half last : List OpenEscape) (bytes : List ℕ) → due reading ≡ None
    → ReadsHalves reading → HalvesRead half bytes last → Turned names (stage_with reading a texts half) bytes (stage_with reading a texts last)
turned-read names reading a texts _ last _ none_due does (NothingRead half) = Here (stage_with reading a texts half)
turned-read names reading a texts half _ _ none_due does (ByteRead _ next last b bytes reads others) =
    let p : Stage = stage_with reading a texts half in
    Onward p (stage_with reading a texts next) (stage_with reading a texts last) b bytes none_due reads.stays
    (λ k i. does k (input_at names p i) b next reads.stands reads.goes_on) refl (omega (arith, reads.held)) (omega (arith, reads.held))
    (turned-read names reading a texts next last bytes none_due does others)
