-- The bytes of an escape on a text line, read one by one: all but the last change only what is half read, and the last means
-- something.
use Rattle.std.proofs.Common.{◌≡◌, ℕ, ◌+◌, ◌≤◌, Bool, false, List, [], ◌∷◌, length, None, Some, refl, sym, ap, subst, ◌∙◌, arith, ℤ, if◌then◌else◌}
use Rattle.roff_num.specs.declared.limits.Limits.{Limits}
use Rattle.input_escapes.specs.OpenEscape.{Backslash, Name, OpenEscape, Size, texts_held}
use Rattle.input_escapes.specs.OpenEscapes.{byte_read}
use Rattle.input_escapes.specs.Waiting.{is_ended_by}
use Rattle.input_escapes.specs.declared.escapes.NameUse.{NameUse}
use Rattle.input_escapes.specs.declared.open_escape.Found.{Found}
use Rattle.input_escapes.specs.declared.open_escape.Found.TheVariants.{GoesOn}
use Rattle.input_escapes.specs.declared.open_escape.NamePart.{NamePart}
use Rattle.input_escapes.specs.declared.open_escape.SizePart.{SizePart}
use Rattle.input_escapes.specs.declared.open_escape.Surroundings.TheVariants.{Text as AboveText}
use Rattle.input_model.specs.Arguments.{Arguments}
use Rattle.input_model.specs.Input.{with_escapes}
use Rattle.input_source.specs.Bytes.{is_dropped}
use Rattle.input_source.specs.Tape.{Tape}
use Rattle.roff_store.specs.Named.{Named}
use Rattle.roff_store.specs.Texts.{Entry}
use Rattle.read_shortcuts.proofs.EscapeSteps.{half_at, step-read}
use Rattle.read_shortcuts.proofs.PrintedRuns.{Fits, fits-byte, told_at, told_from}
use Rattle.run_model.proofs.ItemsTaken.{IsOpenFor, Origin, ahead_at, tape_at}
use Rattle.run_model.proofs.Leads.{Leads-trans}
use Rattle.run_model.proofs.PlainRuns.{behind_byte, behind_bytes}
use Rattle.run_model.specs.Output.{PageHistory}
use Rattle.run_model.specs.PageEvents.{PageEvent}
use Rattle.run_model.specs.Reading.{byte_taking, undropped_taking}
use Rattle.run_model.specs.Reading.Beginnings.{line_begun_as}
use Rattle.run_model.specs.Reading.Ends.{due}
use Rattle.run_model.specs.Reading.Found.{found_in, read_in}
use Rattle.run_model.specs.Reading.Items.{PageInput, going_on, meaning_events}
use Rattle.run_model.specs.Reading.TextLines.{place_behind}
use Rattle.run_model.specs.Reading.Units.{interrupted}
use Rattle.run_model.specs.Registers.{AllRegisters, Known}
use Rattle.run_model.specs.Run.{Leads, State, known_at}
use Rattle.run_model.specs.Run.Counts.{counts_in, first_passed}
use Rattle.run_model.specs.Stages.{Here, Onward, Stage, Turned, input_at}
use Rattle.run_model.specs.declared.line_state.LineState.{LineState}
use Rattle.run_model.specs.declared.line_state.LineState.TheVariants.{LineStart, Text as InText}
use Rattle.run_model.specs.declared.line_state.TextLine.{TextLine}
use Rattle.run_model.specs.declared.phase.Phase.{Phase}

-- what is half read holds no text, and so nothing is counted of it
pub record HoldsNone (half : List OpenEscape) : Type 0 where
  pub held : texts_held half ≡ 0
  pub counts : (rs : AllRegisters) (i : PageInput) → counts_in rs (record i { escapes = half }) ≡ counts_in rs (record i { escapes = [] })

-- where this is read, and what is known is so, these bytes are read one by one with this half read in front of them: the last leaves
-- nothing half read, means these events, and leads to where that is read
pub data ReadsEscape (reading there : LineState) (events : List PageEvent) (Ready : Known → Type 0) : List OpenEscape → List ℕ → Type 0 where
  Last : (half : List OpenEscape) (b : ℕ) → HoldsNone half → is_ended_by half (Some b) ≡ false
      → ((k : Known) (i : PageInput) → Ready k → byte_taking k reading (with_escapes half i) b ≡ meaning_events (with_escapes [] i) there events)
      → ReadsEscape reading there events Ready half (b ∷ [])
  Front : (half next : List OpenEscape) (b : ℕ) (bytes : List ℕ) → HoldsNone half → HoldsNone next → is_ended_by half (Some b) ≡ false
      → ((k : Known) (i : PageInput) → Ready k → byte_taking k reading (with_escapes half i) b ≡ meaning_events (with_escapes next i) reading [])
      → ReadsEscape reading there events Ready next bytes → ReadsEscape reading there events Ready half (b ∷ bytes)

pub some-bytes : (reading there : LineState) (events : List PageEvent) (Ready : Known → Type 0) (half : List OpenEscape) (bytes : List ℕ)
    → ReadsEscape reading there events Ready half bytes → 1 ≤ length bytes
some-bytes reading there events Ready _ _ (Last half b none stays means) = omega arith
some-bytes reading there events Ready _ _ (Front half next b bytes none holds stays means escape) = omega arith

-- where this is read, a byte that isn't dropped is read above text, and what gives nothing yet changes only what is half read
pub record ReadsText (reading : LineState) : Type 0 where
  pub place : Known → ℤ
  pub reads : (k : Known) (i : PageInput) (half : List OpenEscape) (b : ℕ) → is_dropped b ≡ false
      → byte_taking k reading (with_escapes half i) b ≡ read_in k reading (with_escapes half i) (byte_read (AboveText (place k)) half b)
  pub goes_on : (k : Known) (i : PageInput) → found_in k i reading GoesOn ≡ meaning_events i reading []

-- so it is on a text line, and where one begins
pub text-line : (line : TextLine) → ReadsText (InText line)
text-line line = record {
  place = λ k. place_behind k line.leading;
  reads = λ k i half b stays. ap (λ (c : Bool). if c then going_on (interrupted (InText line) (with_escapes half i)) (InText line) else undropped_taking k (InText line) (with_escapes half i) b) stays;
  goes_on = λ k i. refl;
}

pub text-start : ReadsText LineStart
text-start = record {
  place = λ k. place_behind k (line_begun_as k.interrupted).leading;
  reads = λ k i half b stays. ap (λ (c : Bool). if c then going_on (interrupted LineStart (with_escapes half i)) LineStart else undropped_taking k LineStart (with_escapes half i) b) stays;
  goes_on = λ k i. refl;
}

-- nothing, a backslash, a name and a size hold no text
pub holds-nothing : HoldsNone []
holds-nothing = record { held = refl; counts = λ rs i. refl }

pub holds-backslash : HoldsNone (Backslash ∷ [])
holds-backslash = record { held = refl; counts = λ rs i. refl }

pub holds-name : (purpose : NameUse) (part : NamePart) → HoldsNone (Name purpose part ∷ [])
holds-name purpose part = record { held = refl; counts = λ rs i. refl }

pub holds-size : (part : SizePart) → HoldsNone (Size part ∷ [])
holds-size part = record { held = refl; counts = λ rs i. refl }

-- bytes of an escape there
module _ (reading there : LineState) (events : List PageEvent) (Ready : Known → Type 0) (text : ReadsText reading) where
  -- one that gives nothing yet
  pub front : (half next : List OpenEscape) (b : ℕ) (bytes : List ℕ) → HoldsNone half → HoldsNone next → is_ended_by half (Some b) ≡ false → is_dropped b ≡ false
      → ((p : ℤ) → byte_read (AboveText p) half b ≡ (GoesOn, next))
      → ReadsEscape reading there events Ready next bytes → ReadsEscape reading there events Ready half (b ∷ bytes)
  front half next b bytes none holds stays kept gives escape =
      Front half next b bytes none holds stays
      (λ k i ready.
      text.reads k i half b kept ∙ ap (read_in k reading (with_escapes half i)) (gives (text.place k)) ∙ text.goes_on k (with_escapes next i)) escape

  -- the last, with what it gives
  pub last : (half : List OpenEscape) (b : ℕ) (found : Found) → HoldsNone half → is_ended_by half (Some b) ≡ false → is_dropped b ≡ false
      → ((p : ℤ) → byte_read (AboveText p) half b ≡ (found, []))
      → ((k : Known) (i : PageInput) → Ready k → found_in k i reading found ≡ meaning_events i there events)
      → ReadsEscape reading there events Ready half (b ∷ [])
  last half b found none stays kept gives means =
      Last half b none stays
      (λ k i ready.
      text.reads k i half b kept ∙ ap (read_in k reading (with_escapes half i)) (gives (text.place k)) ∙ means k (with_escapes [] i) ready)

-- so a run leads to where they mean that, wherever they come from
module _ (l : Limits) (reading there : LineState) (events : List PageEvent) (Ready : Known → Type 0) (rs : AllRegisters) (messages : List ℕ) (phase : Phase) (closed : Bool)
    (none_due : due reading ≡ None) where
  -- where it has come to, reading this, with this half read
  abbrev at : LineState → Origin → List ℕ → Tape → List OpenEscape → PageInput → PageHistory → List PageEvent → State
  at r from bytes tape half i h to_do = half_at l rs messages phase closed r from bytes tape half i h to_do

  -- what they lead to
  abbrev Led : Origin → List ℕ → Tape → PageInput → PageHistory → State → Type 0
  Led from bytes tape i h start =
      Leads l start (told_at l there rs messages phase closed (tape_at from [] tape) (record (behind_bytes from bytes i) { ahead = ahead_at from [] }) h events)
      × Fits l reading rs messages phase closed from [] (behind_bytes from bytes i)

  leads-half : (from : Origin) (tape : Tape) (half : List OpenEscape) (bytes : List ℕ) (i : PageInput) (h : PageHistory) → ReadsEscape reading there events Ready half bytes
      → ((j : PageInput) → Ready (known_at h rs j)) → IsOpenFor from closed → Fits l reading rs messages phase closed from bytes (with_escapes [] i) → i.charge + length bytes ≤ l.bytes
      → Led from bytes tape (with_escapes [] i) h (at reading from bytes tape half i h [])
  leads-half from tape _ _ i h (Last half b none stays means) ready is_open fits few =
      let behind = fits-byte l reading rs messages phase closed from b [] (with_escapes [] i) fits in (
        record {
          steps = 1;
          there = step-read l rs messages phase closed reading there from tape b [] half [] events i h none_due is_open stays (omega (arith, few))
              (λ j. means (known_at h rs (with_escapes half j)) j (ready (with_escapes half j))) behind;
        },
        behind,
      )
  leads-half from tape _ _ i h (Front half next b bytes none holds stays means escape) ready is_open fits few =
      let behind = fits-byte l reading rs messages phase closed from b bytes (with_escapes [] i) fits in
      let others = leads-half from tape next bytes (behind_byte from b i) h escape ready is_open behind (omega (arith, few)) in (
        Leads-trans l (at reading from (b ∷ bytes) tape half i h []) (at reading from bytes tape next (behind_byte from b i) h []) _
            (record {
              steps = 1;
              there = step-read l rs messages phase closed reading reading from tape b bytes half next [] i h none_due is_open stays (omega (arith, few))
                  (λ j. means (known_at h rs (with_escapes half j)) j (ready (with_escapes half j)))
                  (ap (first_passed l) (holds.counts rs (record (behind_byte from b i) { ahead = ahead_at from bytes })) ∙ behind);
            }) others.0,
        others.1,
      )

  -- where nothing is half read in front of them
  pub leads-escape : (from : Origin) (tape : Tape) (bytes : List ℕ) (i : PageInput) (h : PageHistory) → ReadsEscape reading there events Ready [] bytes
      → ((j : PageInput) → Ready (known_at h rs j)) → IsOpenFor from closed → i.escapes ≡ [] → Fits l reading rs messages phase closed from bytes i → i.charge + length bytes ≤ l.bytes
      → Led from bytes tape i h (told_from l reading rs messages phase closed from bytes tape i h)
  leads-escape from tape bytes i h escape ready is_open none fits few =
      let j : PageInput = with_escapes [] i in
      let same : j ≡ i = ap (λ (half : List OpenEscape). record i { escapes = half }) (sym none) in
      subst (λ (input : PageInput). Led from bytes tape input h (told_from l reading rs messages phase closed from bytes tape input h)) same
      (leads-half from tape [] bytes i h escape ready is_open
      (subst (λ (input : PageInput). Fits l reading rs messages phase closed from bytes input) (sym same) fits) few)

-- and where the last means nothing, they lead from stage to stage
abbrev stage_at : LineState → Arguments → List (List ℕ) → List OpenEscape → Stage
stage_at reading a texts half = record { reading = reading; escapes = half; arguments = a; texts = texts }

turned-half : (names : Named Entry) (reading there : LineState) (a : Arguments) (texts : List (List ℕ)) (half : List OpenEscape) (bytes : List ℕ) → due reading ≡ None
    → ReadsEscape reading there [] (λ k. Unit {0}) half bytes → Turned names (stage_at reading a texts half) bytes (stage_at there a texts [])
turned-half names reading there a texts _ _ none_due (Last half b none stays means) =
    let last : Stage = stage_at there a texts [] in
    let here : Stage = stage_at reading a texts half in
    let held : texts_held half ≡ 0 = none.held in
    Onward here last last b [] none_due stays (λ k i. means k (input_at names here i) tt) refl (omega (arith, held)) (omega (arith, held)) (Here last)
turned-half names reading there a texts _ _ none_due (Front half next b bytes none holds stays means escape) =
    let here : Stage = stage_at reading a texts half in
    let held : texts_held half ≡ 0 = none.held in
    let same : texts_held next ≡ 0 = holds.held in
    Onward here (stage_at reading a texts next) (stage_at there a texts []) b bytes none_due stays (λ k i. means k (input_at names here i) tt) refl
    (omega (arith, held, same)) (omega (arith, held, same)) (turned-half names reading there a texts next bytes none_due escape)

pub turned-escape : (names : Named Entry) (reading there : LineState) (a : Arguments) (texts : List (List ℕ)) (bytes : List ℕ) → due reading ≡ None
    → ReadsEscape reading there [] (λ k. Unit {0}) [] bytes → Turned names (stage_at reading a texts []) bytes (stage_at there a texts [])
turned-escape names reading there a texts bytes none_due escape = turned-half names reading there a texts [] bytes none_due escape
