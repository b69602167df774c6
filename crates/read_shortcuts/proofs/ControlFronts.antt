-- The front of a control line leads from stage to stage, and is read past.
use Rattle.std.proofs.Common.{◌≡◌, ◌==◌, ℕ, ◌≤◌, Bool, true, false, List, [], ◌∷◌, ◌++◌, length, take, Some, None, refl, sym, ap, subst, ◌∙◌, arith, if◌then◌else◌, length-append, take-take}
use Rattle.std.proofs.Math.Seq.{take-append_seam}
use Rattle.input_model.specs.Arguments.{Arguments}
use Rattle.input_source.specs.Bytes.{backslash, is_dropped, newline}
use Rattle.input_escapes.specs.OpenEscape.{OpenEscape, texts_held}
use Rattle.input_escapes.specs.OpenEscapes.{byte_read}
use Rattle.input_source.specs.Tape.{Tape}
use Rattle.input_model.specs.Unread.{IsWithin}
use Rattle.roff_scan.specs.Unread.Calls.{PassesFront, front_bytes, next_bytes}
use Rattle.roff_store.specs.Named.{Named}
use Rattle.roff_store.specs.Texts.{Entry}
use Rattle.run_model.proofs.NameBytes.{turns-first}
use Rattle.read_shortcuts.proofs.RunsRead.{reads-run}
use Rattle.run_model.proofs.ItemsTaken.{not-first, not-second}
use Rattle.run_model.specs.Reading.ControlLines.{BelongsToName, behind_called, ends_name, name_ended_taking, name_whole_taking}
use Rattle.read_names.specs.NamesRead.{LeadsTo, half_begun, input_begun, is_deciding}
use Rattle.read_shortcuts.specs.ControlFronts.{BeginsControl, StandsReady, control_byte}
use Rattle.read_lines.specs.Reader.State.{ReaderState}
use Rattle.run_model.specs.Reading.Items.{PageUnread, PageInput, going_on}
use Rattle.run_model.specs.Reading.{undropped_taking}
use Rattle.run_model.specs.Reading.Beginnings.{at_start}
use Rattle.run_model.specs.Reading.Ends.{due}
use Rattle.run_model.specs.Reading.Found.{read_in}
use Rattle.run_model.specs.Requests.{called_by}
use Rattle.run_model.specs.Stages.{Here, Onward, Stage, Turned, Turns, input_at}
use Rattle.read_shortcuts.specs.Stages.{ReadsPast}
use Rattle.run_model.specs.declared.line_state.LineState.{LineState}
use Rattle.run_model.specs.declared.line_state.LineState.TheVariants.{LineStart, Branch, Braced, Control, Dropped, Name}
use Rattle.roff_num.specs.declared.short_name.ShortName.{ShortName}

-- where a line begins, or a branch, or its rest behind its brace, a control line may begin
begins-line_start : BeginsControl LineStart
begins-line_start k i true none_half =
    ap (λ (half : List OpenEscape). read_in k LineStart i (byte_read (at_start k) half 46)) none_half
    ∙ ap (λ (half : List OpenEscape). going_on (record i { escapes = half }) (Control true)) (sym none_half)
begins-line_start k i false none_half =
    ap (λ (half : List OpenEscape). read_in k LineStart i (byte_read (at_start k) half 39)) none_half
    ∙ ap (λ (half : List OpenEscape). going_on (record i { escapes = half }) (Control false)) (sym none_half)

begins-branch : BeginsControl Branch
begins-branch k i true none_half =
    ap (λ (half : List OpenEscape). read_in k Branch i (byte_read (at_start k) half 46)) none_half
    ∙ ap (λ (half : List OpenEscape). going_on (record i { escapes = half }) (Control true)) (sym none_half)
begins-branch k i false none_half =
    ap (λ (half : List OpenEscape). read_in k Branch i (byte_read (at_start k) half 39)) none_half
    ∙ ap (λ (half : List OpenEscape). going_on (record i { escapes = half }) (Control false)) (sym none_half)

begins-braced : BeginsControl Braced
begins-braced k i true none_half =
    ap (λ (half : List OpenEscape). read_in k Braced i (byte_read (at_start k) half 46)) none_half
    ∙ ap (λ (half : List OpenEscape). going_on (record i { escapes = half }) (Control true)) (sym none_half)
begins-braced k i false none_half =
    ap (λ (half : List OpenEscape). read_in k Braced i (byte_read (at_start k) half 39)) none_half
    ∙ ap (λ (half : List OpenEscape). going_on (record i { escapes = half }) (Control false)) (sym none_half)

pub begins_at_start : (reading : LineState) → reading ≡ LineStart → BeginsControl reading
begins_at_start reading is = subst (λ (r : LineState). BeginsControl r) (sym is) begins-line_start

pub begins_at_branch : (reading : LineState) → reading ≡ Branch → BeginsControl reading
begins_at_branch reading is = subst (λ (r : LineState). BeginsControl r) (sym is) begins-branch

pub begins_at_brace : (reading : LineState) → reading ≡ Braced → BeginsControl reading
begins_at_brace reading is = subst (λ (r : LineState). BeginsControl r) (sym is) begins-braced

-- some of the bytes that stand in front, from the first on, stand there
pub ready-some : (some rest ready : List ℕ) (u : PageUnread) → StandsReady (some ++ rest) ready u → StandsReady some ready u
ready-some some rest ready u all =
    let next : List ℕ = next_bytes u.input.ahead u.looked ready in
    let few : length some ≤ length (some ++ rest) = omega (arith, length-append some rest) in
    record {
      are = sym (take-append_seam some rest) ∙ ap (take (length some)) all.are ∙ take-take (length some) (length (some ++ rest)) next few;
      front = record { among = omega (arith, few, all.front.among); within = omega (arith, few, all.front.within) };
    }

-- the first two of them do, where the second is a backslash
pub ready-two : (breaks : Bool) (first second : ℕ) (ready : List ℕ) (u : PageUnread) → first ≡ backslash
    → StandsReady (control_byte breaks ∷ first ∷ second ∷ []) ready u → StandsReady (control_byte breaks ∷ backslash ∷ []) ready u
ready-two breaks first second ready u is stands =
    subst (λ (b : ℕ). StandsReady (control_byte breaks ∷ b ∷ []) ready u) is
    (ready-some (control_byte breaks ∷ first ∷ []) (second ∷ []) ready u stands)

-- a stage
abbrev pub stage_with : LineState → List OpenEscape → Arguments → List (List ℕ) → Stage
stage_with reading half a texts = record { reading = reading; escapes = half; arguments = a; texts = texts }

-- the byte with which a control line begins is no newline
pub control_plain : (breaks : Bool) → (control_byte breaks == newline) ≡ false
control_plain true = refl
control_plain false = refl

-- behind a name no text is held
none_held : (deciding : Bool) → texts_held (half_begun deciding []) ≡ 0
none_held true = refl
none_held false = refl

-- the last byte of a name
turns-called : (names : Named Entry) (a : Arguments) (texts : List (List ℕ)) (breaks : Bool) (first second : ℕ) (there : LineState) → BelongsToName second
    → LeadsTo (λ i. behind_called i breaks (called_by (record { first = first; second = Some second }) names)) there
    → Turns names (stage_with (Name breaks first) [] a texts) second (stage_with there (half_begun (is_deciding there) []) a texts)
turns-called names a texts breaks first second there belongs leads k i =
    let here : PageInput = input_at names (stage_with (Name breaks first) [] a texts) i in
    let name : ShortName = record { first = first; second = Some second } in
    ap (λ (c : Bool). if c then going_on here (Name breaks first) else undropped_taking k (Name breaks first) here second) (not-first (is_dropped second) (ends_name second) belongs)
    ∙ ap (λ (c : Bool). if c then name_ended_taking k here breaks (record { first = first; second = None }) second else name_whole_taking here breaks name)
    (not-second (is_dropped second) (ends_name second) belongs)
    ∙ leads here

-- a name of two bytes behind a dot or apostrophe
pub turned-named : (names : Named Entry) (reading there : LineState) (breaks : Bool) (first second : ℕ) (a : Arguments) (texts : List (List ℕ)) → due reading ≡ None
    → BeginsControl reading → BelongsToName first → BelongsToName second
    → LeadsTo (λ i. behind_called i breaks (called_by (record { first = first; second = Some second }) names)) there
    → Turned names (stage_with reading [] a texts) (control_byte breaks ∷ first ∷ second ∷ []) (stage_with there (half_begun (is_deciding there) []) a texts)
turned-named names reading there breaks first second a texts none_due begins named_first named_second leads =
    let p : Stage = stage_with reading [] a texts in
    let control : Stage = stage_with (Control breaks) [] a texts in
    let name : Stage = stage_with (Name breaks first) [] a texts in
    let q : Stage = stage_with there (half_begun (is_deciding there) []) a texts in
    let none : texts_held q.escapes ≡ 0 = none_held (is_deciding there) in
    Onward p control q (control_byte breaks) (first ∷ second ∷ []) none_due refl (λ k i. begins k (input_at names p i) breaks refl) refl (omega arith) (omega arith)
    (Onward control name q first (second ∷ []) refl refl (turns-first names a texts breaks first named_first) refl (omega arith) (omega arith)
    (Onward name q q second [] refl refl (turns-called names a texts breaks first second there named_second leads) refl (omega (arith, none)) (omega (arith, none))
    (Here q)))

-- a backslash there
pub turned-dropped : (names : Named Entry) (reading : LineState) (breaks : Bool) (a : Arguments) (texts : List (List ℕ)) → due reading ≡ None → BeginsControl reading
    → Turned names (stage_with reading [] a texts) (control_byte breaks ∷ backslash ∷ []) (stage_with Dropped [] a texts)
turned-dropped names reading breaks a texts none_due begins =
    let p : Stage = stage_with reading [] a texts in
    let control : Stage = stage_with (Control breaks) [] a texts in
    let q : Stage = stage_with Dropped [] a texts in
    Onward p control q (control_byte breaks) (backslash ∷ []) none_due refl (λ k i. begins k (input_at names p i) breaks refl) refl (omega arith) (omega arith)
    (Onward control q q backslash [] refl refl (λ k i. refl) refl (omega arith) (omega arith) (Here q))

-- bytes that were taken at once, and then what is half read changed, and this is read: they were read past
pub reads-front : (gave gives : Tape → Type 0) (r : ReaderState) (there : LineState) (bytes : List ℕ) (before passed : PageUnread) → before.input.escapes ≡ []
    → Turned before.input.names (stage_with r.reading [] before.input.arguments before.input.open_texts) bytes
    (stage_with there (half_begun (is_deciding there) []) before.input.arguments before.input.open_texts)
    → PassesFront gave gives bytes before passed → IsWithin (record passed { input = input_begun there passed.input })
    → ReadsPast gave gives r (record r { reading = there }) before (record passed { input = input_begun there passed.input })
reads-front gave gives r there bytes before passed none_half turned passes within =
    let i : PageInput = before.input in
    reads-run gave gives bytes r (record r { reading = there }) before (record passed { input = input_begun there passed.input }) passed.input (input_begun there)
    refl (λ j. refl) passes (λ j. refl)
    (subst (λ (half : List OpenEscape). Turned i.names (stage_with r.reading half i.arguments i.open_texts) bytes (stage_with there (half_begun (is_deciding there) half) i.arguments i.open_texts))
    (sym none_half) turned) refl refl within

-- so was a name of two bytes behind a dot or apostrophe
pub reads-named : (gave gives : Tape → Type 0) (r new : ReaderState) (there : LineState) (breaks : Bool) (first second : ℕ) (ready : List ℕ) (before passed after : PageUnread)
    → due r.reading ≡ None → BeginsControl r.reading → before.input.escapes ≡ [] → BelongsToName first → BelongsToName second
    → LeadsTo (λ i. behind_called i breaks (called_by (record { first = first; second = Some second }) before.input.names)) there
    → StandsReady (control_byte breaks ∷ first ∷ second ∷ []) ready before → PassesFront gave gives (front_bytes 3 ready before) before passed
    → after ≡ record passed { input = input_begun there passed.input } → IsWithin after → new ≡ record r { reading = there } → ReadsPast gave gives r new before after
reads-named gave gives r new there breaks first second ready before passed after none_due begins none_half named_first named_second leads stands passes is within same =
    let bytes : List ℕ = control_byte breaks ∷ first ∷ second ∷ [] in
    let behind : PageUnread = record passed { input = input_begun there passed.input } in
    let i : PageInput = before.input in
    subst (λ (n : ReaderState). ReadsPast gave gives r n before after) (sym same)
    (subst (λ (u : PageUnread). ReadsPast gave gives r (record r { reading = there }) before u) (sym is)
    (reads-front gave gives r there bytes before passed none_half
    (turned-named i.names r.reading there breaks first second i.arguments i.open_texts none_due begins named_first named_second leads)
    (subst (λ (all : List ℕ). PassesFront gave gives all before passed) (sym stands.are) passes)
    (subst (λ (u : PageUnread). IsWithin u) is within)))
