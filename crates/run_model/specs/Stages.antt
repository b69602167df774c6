-- Stages of the reading: what bytes change that change only what is read.
use Rattle.std.specs.Prelude.{◌≡◌, ℕ, ◌+◌, ◌≤◌, false, List, [], ◌∷◌, length, sum_by, Option, None, Some}
use Rattle.input_model.specs.Arguments.{AreFewer, Arguments, held}
use Rattle.input_source.specs.Bytes.{is_dropped, newline}
use Rattle.input_escapes.specs.ConditionFronts.{TakesOn}
use Rattle.input_escapes.specs.OpenEscape.{OpenEscape, texts_held}
use Rattle.input_escapes.specs.OpenEscapes.{byte_read}
use Rattle.input_escapes.specs.Waiting.{is_ended_by}
use Rattle.input_model.specs.Input.Names.{adding}
use Rattle.input_escapes.specs.declared.open_escape.CopyUnit.TheVariants.{Byte}
use Rattle.input_escapes.specs.declared.open_escape.Found.TheVariants.{GoesOn}
use Rattle.input_escapes.specs.declared.open_escape.Surroundings.{Surroundings}
use Rattle.roff_store.specs.Named.{Named}
use Rattle.roff_store.specs.Texts.{Entry}
use Rattle.run_model.specs.Reading.{byte_taking}
use Rattle.run_model.specs.Reading.Ends.{due}
use Rattle.run_model.specs.Reading.Items.{PageInput, going_on}
use Rattle.run_model.specs.Reading.Units.{holding}
use Rattle.run_model.specs.Registers.{Known}
use Rattle.run_model.specs.declared.line_state.LineState.{LineState}
use Rattle.run_model.specs.declared.line_state.LineState.TheVariants.{LineStart}

-- what bytes change: what is read, what is half read, the arguments of the line, and the texts in the making
pub record Stage : Type 0 where
  pub reading : LineState
  pub escapes : List OpenEscape
  pub arguments : Arguments
  pub texts : List (List ℕ)

-- the input at a stage, where names stand for these
abbrev pub input_at : Named Entry → Stage → PageInput → PageInput
input_at names p i = record i { escapes = p.escapes; arguments = p.arguments; names = names; open_texts = p.texts }

-- the stage of an input where this is read
abbrev pub stage_of : LineState → PageInput → Stage
stage_of reading i = record { reading = reading; escapes = i.escapes; arguments = i.arguments; texts = i.open_texts }

-- a byte leads from one stage to another, whatever else is known
abbrev pub Turns : Named Entry → Stage → ℕ → Stage → Type 0
Turns names p b q =
    (k : Known) (i : PageInput) → byte_taking k p.reading (input_at names p i) b ≡ going_on (input_at names q i) q.reading

-- where this is read, a newline changes nothing else, and a line begins behind it
abbrev pub EndsByNewline : LineState → Type 0
EndsByNewline reading = (k : Known) (i : PageInput) → byte_taking k reading i newline ≡ going_on i LineStart

-- a byte is held in the arguments of the line where nothing is half read, and this is read on
abbrev pub Holds : LineState → ℕ → Type 0
Holds reading b = (k : Known) (i : PageInput) → i.escapes ≡ [] → byte_taking k reading i b ≡ going_on (holding (Byte b) i) reading

-- the same where fewer than so many arguments are whole
abbrev pub HoldsIfFewer : Option ℕ → LineState → ℕ → Type 0
HoldsIfFewer most reading b =
    (k : Known) (i : PageInput) → i.escapes ≡ [] → AreFewer most i.arguments
    → byte_taking k reading i b ≡ going_on (holding (Byte b) i) reading

-- a byte is put behind the newest text in the making where nothing is half read, and this is read on
abbrev pub Adds : LineState → ℕ → Type 0
Adds reading b = (k : Known) (i : PageInput) → i.escapes ≡ [] → byte_taking k reading i b ≡ going_on (adding (b ∷ []) i) reading

-- a byte changes nothing where nothing is half read, and this is read on
abbrev pub Ignores : LineState → ℕ → Type 0
Ignores reading b = (k : Known) (i : PageInput) → i.escapes ≡ [] → byte_taking k reading i b ≡ going_on i reading

-- where this is read, bytes may change only what is half read: what gives nothing yet changes nothing else
abbrev pub ReadsHalves : LineState → Type 0
ReadsHalves reading =
    (k : Known) (i : PageInput) (b : ℕ) (next : List OpenEscape) → is_dropped b ≡ false
    → ((base : Surroundings) → byte_read base i.escapes b ≡ (GoesOn, next))
    → byte_taking k reading i b ≡ going_on (record i { escapes = next }) reading

-- where this is read, bytes may change only what is half read, in which some are held
abbrev pub TakesHalf : LineState → Type 0
TakesHalf reading =
    (k : Known) (i : PageInput) (b : ℕ) (next : List OpenEscape) → TakesOn i.escapes b next
    → byte_taking k reading i b ≡ going_on (record i { escapes = next }) reading

-- the bytes that are held at a stage, of arguments and of texts that are half read
abbrev pub held_at : Stage → ℕ
held_at p = held p.arguments + texts_held p.escapes

-- texts in the making that may have grown: none has begun or ended
pub record TextsGrow (texts grown : List (List ℕ)) : Type 0 where
  pub count : length grown ≡ length texts
  pub bytes : sum_by length texts ≤ sum_by length grown

-- Bytes lead from one stage to another, one after another: nothing is due before one, none ends what is half read, and the
-- texts in the making stay, or grow. Of each one byte more is held at the most, and what is held stays.
pub data Turned (names : Named Entry) : Stage → List ℕ → Stage → Type 0 where
  Here : (p : Stage) → Turned names p [] p
  Onward : (p q r : Stage) (b : ℕ) (bytes : List ℕ) → due p.reading ≡ None → is_ended_by p.escapes (Some b) ≡ false
      → Turns names p b q → q.texts ≡ p.texts → held_at p ≤ held_at q → held_at q ≤ held_at p + 1
      → Turned names q bytes r → Turned names p (b ∷ bytes) r
  Growing : (p q r : Stage) (b : ℕ) (bytes : List ℕ) → due p.reading ≡ None → is_ended_by p.escapes (Some b) ≡ false
      → Turns names p b q → TextsGrow p.texts q.texts → held_at p ≤ held_at q → held_at q ≤ held_at p + 1
      → Turned names q bytes r → Turned names p (b ∷ bytes) r
