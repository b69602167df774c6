-- What is read where something may be half read above it, and where nothing is.
use Rattle.std.proofs.Common.{◌≡◌, ℕ, ◌==◌, Bool, false, [], Option, Result, refl, subst, sym, ◌∙◌}
use Rattle.input_escapes.specs.OpenEscapes.{byte_read}
use Rattle.input_escapes.specs.declared.open_escape.CopyUnit.{CopyUnit}
use Rattle.input_escapes.specs.declared.open_escape.CopyUnit.TheVariants.{Byte}
use Rattle.input_escapes.specs.declared.open_escape.Found.{Found}
use Rattle.input_escapes.specs.declared.open_escape.Found.TheVariants.{Unit as GivesUnit}
use Rattle.run_model.specs.Reading.{undropped_taking}
use Rattle.run_model.specs.Reading.Found.{found_in, place_in, read_in}
use Rattle.run_model.specs.Reading.Collecting.{collected, unit_taking}
use Rattle.run_model.specs.Reading.Items.{PageInput, PageUnread, Taking, going_on}
use Rattle.input_source.specs.Bytes.{backslash}
use Rattle.roff_num.specs.declared.limit.Limit.{Limit}
use Rattle.run_model.specs.declared.step.Step.{Step}
use Rattle.read_lines.specs.Reader.State.{ReaderState}
use Rattle.read_steps.specs.Clauses.{ComposerOf, TakesAs}
use Rattle.read_lines.proofs.TextTaken.{plain-found}
use Rattle.run_model.specs.Registers.{Known}
use Rattle.run_model.specs.declared.line_state.LineState.{LineState}
use Rattle.run_model.specs.declared.line_state.LineState.TheVariants.{LineStart, Branch, Braced, Text as InText, Control, Name, Deciding, Skipping, Dropped, Told, Exiting, TitleFront, Title as InTitle, Collecting}
use Rattle.run_model.specs.declared.purpose.Purpose.{Purpose}
use Rattle.run_model.specs.declared.purpose.Purpose.TheVariants.{StringName, StringText, Arguments as InArguments, Telling, Calling, Defining}
use Rattle.roff_num.specs.declared.short_name.ShortName.{ShortName}
use Rattle.run_model.specs.declared.line_state.TextLine.{TextLine}

-- a byte is read by what is half read, and does what was found, but where nothing may be half read, and in a title's part
pub kept-placed : (k : Known) (i : PageInput) (r : LineState) (b : ℕ)
    → ((breaks : Bool) → r ≡ Control breaks → ⊥)
    → ((breaks : Bool) (first : ℕ) → r ≡ Name breaks first → ⊥)
    → ((opened : ℕ) (closed : ℕ) (behind : Bool) → r ≡ Skipping opened closed behind → ⊥)
    → (r ≡ Dropped → ⊥)
    → ((aborts : Bool) → r ≡ Told aborts → ⊥)
    → (r ≡ Exiting → ⊥)
    → ((delimiter : ℕ) → r ≡ InTitle delimiter → ⊥)
    → read_in k r i (byte_read (place_in k r) i.escapes b) ≡ undropped_taking k r i b
kept-placed k i LineStart b control named skips dropped told left titled = refl
kept-placed k i Branch b control named skips dropped told left titled = refl
kept-placed k i Braced b control named skips dropped told left titled = refl
kept-placed k i (InText line) b control named skips dropped told left titled = refl
kept-placed k i (Control breaks) b control named skips dropped told left titled = absurd (control breaks refl)
kept-placed k i (Name breaks first) b control named skips dropped told left titled = absurd (named breaks first refl)
kept-placed k i (Collecting purpose) b control named skips dropped told left titled = refl
kept-placed k i (Deciding keeps) b control named skips dropped told left titled = refl
kept-placed k i (Skipping opened closed behind) b control named skips dropped told left titled = absurd (skips opened closed behind refl)
kept-placed k i Dropped b control named skips dropped told left titled = absurd (dropped refl)
kept-placed k i (Told aborts) b control named skips dropped told left titled = absurd (told aborts refl)
kept-placed k i Exiting b control named skips dropped told left titled = absurd (left refl)
kept-placed k i TitleFront b control named skips dropped told left titled = refl
kept-placed k i (InTitle delimiter) b control named skips dropped told left titled = absurd (titled delimiter refl)

-- what is found where bytes are collected is a unit or none, but in a definition
pub found-collected : (k : Known) (i : PageInput) (purpose : Purpose) (found : Found)
    → ((name : Option ShortName) (appends : Bool) (end : Option ShortName) (matched : Option ℕ) → purpose ≡ Defining name appends end matched → ⊥)
    → collected k i (Collecting purpose) found ≡ found_in k i (Collecting purpose) found
found-collected k i (InArguments breaks request) found others = refl
found-collected k i (StringName appends) found others = refl
found-collected k i (StringText name appends is_front) found others = refl
found-collected k i (Telling aborts is_front) found others = refl
found-collected k i (Calling name) found others = refl
found-collected k i (Defining name appends end matched) found others = absurd (others name appends end matched refl)

-- elsewhere whatever was found changes nothing
pub found-elsewhere : (k : Known) (i : PageInput) (r : LineState) (found : Found)
    → (r ≡ LineStart → ⊥)
    → (r ≡ Branch → ⊥)
    → (r ≡ Braced → ⊥)
    → ((line : TextLine) → r ≡ InText line → ⊥)
    → ((purpose : Purpose) → r ≡ Collecting purpose → ⊥)
    → ((keeps : Bool) → r ≡ Deciding keeps → ⊥)
    → (r ≡ TitleFront → ⊥)
    → ((delimiter : ℕ) → r ≡ InTitle delimiter → ⊥)
    → found_in k i r found ≡ going_on i r
found-elsewhere k i LineStart found begun branch braced text collects decides opens titled = absurd (begun refl)
found-elsewhere k i Branch found begun branch braced text collects decides opens titled = absurd (branch refl)
found-elsewhere k i Braced found begun branch braced text collects decides opens titled = absurd (braced refl)
found-elsewhere k i (InText line) found begun branch braced text collects decides opens titled = absurd (text line refl)
found-elsewhere k i (Control breaks) found begun branch braced text collects decides opens titled = refl
found-elsewhere k i (Name breaks first) found begun branch braced text collects decides opens titled = refl
found-elsewhere k i (Collecting purpose) found begun branch braced text collects decides opens titled = absurd (collects purpose refl)
found-elsewhere k i (Deciding keeps) found begun branch braced text collects decides opens titled = absurd (decides keeps refl)
found-elsewhere k i (Skipping opened closed behind) found begun branch braced text collects decides opens titled = refl
found-elsewhere k i Dropped found begun branch braced text collects decides opens titled = refl
found-elsewhere k i (Told aborts) found begun branch braced text collects decides opens titled = refl
found-elsewhere k i Exiting found begun branch braced text collects decides opens titled = refl
found-elsewhere k i TitleFront found begun branch braced text collects decides opens titled = absurd (opens refl)
found-elsewhere k i (InTitle delimiter) found begun branch braced text collects decides opens titled = absurd (titled delimiter refl)

-- and a unit does nothing where no line collects units
pub unit_taking-elsewhere : (k : Known) (i : PageInput) (r : LineState) (unit : CopyUnit)
    → ((purpose : Purpose) → r ≡ Collecting purpose → ⊥)
    → (r ≡ TitleFront → ⊥)
    → unit_taking k i r unit ≡ going_on i r
unit_taking-elsewhere k i (Collecting purpose) unit collects opens = absurd (collects purpose refl)
unit_taking-elsewhere k i TitleFront unit collects opens = absurd (opens refl)
unit_taking-elsewhere k i (_) unit collects opens = refl

-- what is taken where bytes are collected for this is what is taken where they are for what that is
pub TakesAs-for : (t : Known → Purpose → Taking) (given purpose : Purpose) (es : ComposerOf) (old new : ReaderState) (before behind : PageUnread) (result : Result Step Limit)
    → given ≡ purpose → TakesAs (λ k. t k purpose) es old new before behind result → TakesAs (λ k. t k given) es old new before behind result
TakesAs-for t given purpose es old new before behind result is takes =
    subst (λ (p : Purpose). TakesAs (λ k. t k p) es old new before behind result) (sym is) takes

-- a byte is a unit where nothing is half read and bytes are collected, but in a definition
pub unit-undropped : (k : Known) (i : PageInput) (purpose : Purpose) (b : ℕ) → i.escapes ≡ [] → (b == backslash) ≡ false
    → ((name : Option ShortName) (appends : Bool) (end : Option ShortName) (matched : Option ℕ) → purpose ≡ Defining name appends end matched → ⊥)
    → unit_taking k i (Collecting purpose) (Byte b) ≡ undropped_taking k (Collecting purpose) i b
unit-undropped k i purpose b none_half no_escape others =
    found-collected k i purpose (GivesUnit (Byte b)) others ∙ plain-found k (Collecting purpose) i b none_half no_escape
