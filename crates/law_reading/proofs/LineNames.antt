-- Lines up to their names, byte by byte.
use Rattle.std.proofs.Common.{◌≡◌, ℕ, ◌≤◌, Bool, true, false, List, ◌∷◌, length, Option, Some, None, refl, ap, ◌∙◌, arith, [], All, sum_by, if◌then◌else◌}
use Rattle.std.proofs.lemmas.List.Elements.{All-head, All-tail}
use Rattle.input_model.specs.Arguments.{Arguments, held}
use Rattle.input_source.specs.Bytes.{blank, is_dropped, newline}
use Rattle.roff_store.specs.Named.{Named}
use Rattle.roff_store.specs.Texts.{Entry}
use Rattle.run_model.proofs.ItemsTaken.{not-first, not-second}
use Rattle.run_model.proofs.PlainRuns.{Here, Most, Onward, Path}
use Rattle.law_reading.specs.CallLaws.{IsApostrophe, IsControl, IsDot}
use Rattle.run_model.specs.Reading.ControlLines.{BelongsToName, behind_called, called_taking, ends_name, name_ended_taking, name_whole_taking}
use Rattle.run_model.specs.Reading.{undropped_taking, byte_taking}
use Rattle.run_model.specs.Reading.Ends.{due}
use Rattle.run_model.specs.Reading.Items.{PageInput, going_on}
use Rattle.run_model.specs.Registers.{Known}
use Rattle.run_model.specs.Requests.{called_by}
use Rattle.roff_num.specs.ShortNames.{name_bytes}
use Rattle.run_model.specs.Stages.{Stage, Turns, input_at}
use Rattle.run_model.specs.declared.line_state.LineState.{LineState}
use Rattle.run_model.specs.declared.line_state.LineState.TheVariants.{Control, LineStart, Name}
use Rattle.roff_num.specs.declared.short_name.ShortName.{ShortName}
use Rattle.run_model.specs.declared.request.Called.{Called}
use Rattle.run_model.proofs.NameBytes.{stage, turns-first}

-- what begins a control line
pub turns-control : (names : Named Entry) (a : Arguments) (texts : List (List ℕ)) (control : ℕ) → IsControl control
    → (breaks : Bool) × Turns names (stage LineStart a texts) control (stage (Control breaks) a texts)
turns-control names a texts _ IsDot = (true, λ k i. refl)
turns-control names a texts _ IsApostrophe = (false, λ k i. refl)

-- what a name stands for, and what is read behind it then: so does the second byte of a name, and so each byte behind a name of one byte
pub record ReadsAs (names : Named Entry) (name : ShortName) (there : LineState) : Type 0 where
  pub called : Called
  pub is : called_by name names ≡ called
  pub none_due : due there ≡ None
  pub whole : (i : PageInput) (breaks : Bool) → behind_called i breaks called ≡ going_on i there
  pub ended : (k : Known) (i : PageInput) (breaks : Bool) (b : ℕ) → called_taking k i breaks called b ≡ undropped_taking k there i b

turns-second : (names : Named Entry) (a : Arguments) (texts : List (List ℕ)) (breaks : Bool) (first b : ℕ) (there : LineState) → BelongsToName b
    → ReadsAs names (record { first = first; second = Some b }) there → Turns names (stage (Name breaks first) a texts) b (stage there a texts)
turns-second names a texts breaks first b there belongs reads k i =
    let here : PageInput = input_at names (stage (Name breaks first) a texts) i in
    let name : ShortName = record { first = first; second = Some b } in
    ap (λ (c : Bool). if c then going_on here (Name breaks first) else undropped_taking k (Name breaks first) here b) (not-first (is_dropped b) (ends_name b) belongs)
    ∙ ap (λ (c : Bool). if c then name_ended_taking k here breaks (record { first = first; second = None }) b else name_whole_taking here breaks name)
    (not-second (is_dropped b) (ends_name b) belongs)
    ∙ ap (behind_called here breaks) reads.is
    ∙ reads.whole here breaks

-- at a blank or a newline one thing that is read does as another does
pub record DoesAs (names : Named Entry) (reading there : LineState) : Type 0 where
  pub none_due : due reading ≡ None
  pub at_blank : (k : Known) (p : Stage) (i : PageInput) → byte_taking k reading (input_at names p i) blank ≡ byte_taking k there (input_at names p i) blank
  pub at_newline : (k : Known) (p : Stage) (i : PageInput) → byte_taking k reading (input_at names p i) newline ≡ byte_taking k there (input_at names p i) newline

-- what is read behind a name, in front of which a line begins
pub record ReadsName (most : Most) (names : Named Entry) (a : Arguments) (texts : List (List ℕ)) (bytes : List ℕ) (there : LineState) : Type 0 where
  pub reading : LineState
  pub path : Path most names (stage LineStart a texts) bytes (stage reading a texts)
  pub does : DoesAs names reading there

-- as much may be held as is
pub record Allows (most : Most) (a : Arguments) (texts : List (List ℕ)) : Type 0 where
  pub held_few : held a ≤ most.held
  pub stored_few : sum_by length texts ≤ most.stored
  pub texts_few : length texts ≤ most.texts

-- a byte that changes what is read alone
pub onward : (most : Most) (names : Named Entry) (a : Arguments) (texts : List (List ℕ)) (from there : LineState) (b : ℕ) (bytes : List ℕ) (r : Stage) → due from ≡ None
    → Turns names (stage from a texts) b (stage there a texts) → Allows most a texts → Path most names (stage there a texts) bytes r
    → Path most names (stage from a texts) (b ∷ bytes) r
onward most names a texts from there b bytes r none_due turns allows path =
    Onward (stage from a texts) (stage there a texts) r b bytes none_due refl turns
    (record { none_half = refl; held_few = allows.held_few; stored_few = allows.stored_few; texts_few = allows.texts_few }) (omega arith) path

-- the name of a line, of one byte or two
reads-name_of : (most : Most) (names : Named Entry) (a : Arguments) (texts : List (List ℕ)) (control first : ℕ) (second : Option ℕ) (there : LineState)
    → IsControl control → All BelongsToName (name_bytes (record { first = first; second = second })) → Allows most a texts
    → ReadsAs names (record { first = first; second = second }) there
    → ReadsName most names a texts (control ∷ name_bytes (record { first = first; second = second })) there
reads-name_of most names a texts control first None there is_control belong allows reads =
    let begins = turns-control names a texts control is_control in
    record {
      reading = Name begins.0 first;
      path =
          onward most names a texts LineStart (Control begins.0) control (first ∷ []) (stage (Name begins.0 first) a texts) refl begins.1 allows
          (onward most names a texts (Control begins.0) (Name begins.0 first) first [] (stage (Name begins.0 first) a texts) refl
          (turns-first names a texts begins.0 first (All-head BelongsToName first [] belong)) allows
          (Here (stage (Name begins.0 first) a texts)));
      does = record {
        none_due = refl;
        at_blank = λ k p i. ap (λ (c : Called). called_taking k (input_at names p i) begins.0 c blank) reads.is ∙ reads.ended k (input_at names p i) begins.0 blank;
        at_newline = λ k p i. ap (λ (c : Called). called_taking k (input_at names p i) begins.0 c newline) reads.is ∙ reads.ended k (input_at names p i) begins.0 newline;
      };
    }
reads-name_of most names a texts control first (Some second) there is_control belong allows reads =
    let begins = turns-control names a texts control is_control in
    let others : All BelongsToName (second ∷ []) = All-tail BelongsToName first (second ∷ []) belong in
    record {
      reading = there;
      path =
          onward most names a texts LineStart (Control begins.0) control (first ∷ second ∷ []) (stage there a texts) refl begins.1 allows
          (onward most names a texts (Control begins.0) (Name begins.0 first) first (second ∷ []) (stage there a texts) refl
          (turns-first names a texts begins.0 first (All-head BelongsToName first (second ∷ []) belong)) allows
          (onward most names a texts (Name begins.0 first) there second [] (stage there a texts) refl
          (turns-second names a texts begins.0 first second there (All-head BelongsToName second [] others) reads) allows
          (Here (stage there a texts))));
      does = record { none_due = reads.none_due; at_blank = λ k p i. refl; at_newline = λ k p i. refl };
    }

pub reads-name : (most : Most) (names : Named Entry) (a : Arguments) (texts : List (List ℕ)) (control : ℕ) (name : ShortName) (there : LineState)
    → IsControl control → All BelongsToName (name_bytes name) → Allows most a texts → ReadsAs names name there
    → ReadsName most names a texts (control ∷ name_bytes name) there
reads-name most names a texts control name there = reads-name_of most names a texts control name.first name.second there
