-- Bytes of plain text in a line of a definition that isn't the last one are put behind the newest text in the making, one after
-- another, and those of ignored lines change nothing.
use Rattle.std.proofs.Common.{◌≡◌, ℕ, Bool, true, List, [], ◌∷◌, Option, Some, None, refl, sym, ap, subst, ◌∙◌, arith}
use Rattle.std.specs.List.{AllByRecursion}
use Rattle.roff_scan.proofs.AddedFronts.{adding-texts, length-texts_added, newest-added, stored-texts_added, texts_added, texts_added-again, texts_added-none}
use Rattle.input_model.specs.Arguments.{Arguments}
use Rattle.input_source.specs.Bytes.{is_text_byte}
use Rattle.input_escapes.specs.OpenEscape.{OpenEscape}
use Rattle.input_escapes.specs.Waiting.{is_ended_by}
use Rattle.roff_store.specs.Named.{Named}
use Rattle.roff_store.specs.Texts.{Entry, newest}
use Rattle.run_model.specs.Reading.Ends.{due}
use Rattle.run_model.specs.Reading.Items.{PageInput, going_on}
use Rattle.run_model.specs.Stages.{Adds, Growing, Here, Ignores, Onward, Stage, TextsGrow, Turned, input_at}
use Rattle.run_model.specs.declared.line_state.LineState.{LineState}

-- where this is read
abbrev pub stage_with : LineState → List OpenEscape → Arguments → List (List ℕ) → Stage
stage_with reading half a texts = record { reading = reading; escapes = half; arguments = a; texts = texts }

-- texts in the making grow by what is put behind the newest
pub grows-added : (bytes : List ℕ) (texts : List (List ℕ)) → TextsGrow texts (texts_added bytes (newest texts) texts)
grows-added bytes texts = record { count = length-texts_added bytes (newest texts) texts; bytes = stored-texts_added bytes texts }

-- bytes that are added lead from stage to stage
pub turned-added : (names : Named Entry) (reading : LineState) (half : List OpenEscape) (a : Arguments) (texts : List (List ℕ)) (bytes : List ℕ)
    → half ≡ [] → due reading ≡ None → ((b : ℕ) → is_text_byte b ≡ true → Adds reading b) → AllByRecursion (λ b. is_text_byte b ≡ true) bytes
    → Turned names (stage_with reading half a texts) bytes (stage_with reading half a (texts_added bytes (newest texts) texts))
turned-added names reading half a texts [] none_half none_due adds plain =
    subst (λ (grown : List (List ℕ)). Turned names (stage_with reading half a texts) [] (stage_with reading half a grown)) (sym (texts_added-none (newest texts) texts))
    (Here (stage_with reading half a texts))
turned-added names reading half a texts (b ∷ bytes) none_half none_due adds plain =
    let one : List (List ℕ) = texts_added (b ∷ []) (newest texts) texts in
    let last : List (List ℕ) = texts_added (b ∷ bytes) (newest texts) texts in
    let p : Stage = stage_with reading half a texts in
    let leads : texts_added bytes (newest one) one ≡ last =
    ap (λ (id : Option ℕ). texts_added bytes id one) (newest-added (b ∷ []) (newest texts) texts) ∙ texts_added-again b bytes texts in
    Growing p (stage_with reading half a one) (stage_with reading half a last) b bytes none_due (ap (λ (h : List OpenEscape). is_ended_by h (Some b)) none_half)
    (λ k i. adds b plain.0 k (input_at names p i) none_half ∙ ap (λ (j : PageInput). going_on j reading) (adding-texts (b ∷ []) (input_at names p i)))
    (grows-added (b ∷ []) texts) (omega arith) (omega arith)
    (subst (λ (grown : List (List ℕ)). Turned names (stage_with reading half a one) bytes (stage_with reading half a grown)) leads
    (turned-added names reading half a one bytes none_half none_due adds plain.1))

-- bytes that change nothing lead to the stage that they come from
pub turned-same : (is_one : ℕ → Bool) (names : Named Entry) (reading : LineState) (half : List OpenEscape) (a : Arguments) (texts : List (List ℕ)) (bytes : List ℕ)
    → half ≡ [] → due reading ≡ None → ((b : ℕ) → is_one b ≡ true → Ignores reading b) → AllByRecursion (λ b. is_one b ≡ true) bytes
    → Turned names (stage_with reading half a texts) bytes (stage_with reading half a texts)
turned-same is_one names reading half a texts [] none_half none_due ignores plain = Here (stage_with reading half a texts)
turned-same is_one names reading half a texts (b ∷ bytes) none_half none_due ignores plain =
    let p : Stage = stage_with reading half a texts in
    Onward p p p b bytes none_due (ap (λ (h : List OpenEscape). is_ended_by h (Some b)) none_half) (λ k i. ignores b plain.0 k (input_at names p i) none_half) refl
    (omega arith) (omega arith) (turned-same is_one names reading half a texts bytes none_half none_due ignores plain.1)
