-- Leading blanks of a text line behind the first of them only count, and bytes that change only what is read are read past.
use Rattle.std.proofs.Common.{◌≡◌, ℕ, ◌+◌, ◌≤◌, ◌==◌, Bool, true, false, if◌then◌else◌, List, [], ◌∷◌, length, min, not, Some, inl, inr, refl, sym, ap, subst, ◌∙◌, arith, ◌&&◌, nat_lt, eqb-true, ltb-true, ne_eqb}
use Rattle.std.specs.List.{AllByRecursion}
use Rattle.std.proofs.lemmas.Bool.{cases_Bool}
use Rattle.page_model.specs.declared.event.Event.TheVariants.{Break, Gap, WordEnd}
use Rattle.input_model.specs.Arguments.{Arguments}
use Rattle.input_source.specs.Bytes.{blank}
use Rattle.input_escapes.specs.OpenEscape.{OpenEscape}
use Rattle.input_escapes.specs.OpenEscapes.{byte_read}
use Rattle.input_escapes.specs.Waiting.{is_ended_by}
use Rattle.input_source.specs.Tape.{Tape}
use Rattle.input_model.specs.Unread.{IsWithin}
use Rattle.roff_scan.specs.Unread.Runs.{TakesRun}
use Rattle.roff_scan.specs.declared.run_kind.RunKind.TheVariants.{Blanks}
use Rattle.roff_store.specs.Named.{Named}
use Rattle.roff_store.specs.Texts.{Entry}
use Rattle.read_shortcuts.proofs.AddedRuns.{turned-same}
use Rattle.read_shortcuts.proofs.RunsRead.{reads-taken, turned-behind}
use Rattle.read_lines.proofs.TextTaken.{plain-found}
use Rattle.read_lines.specs.Reader.State.{ReaderState}
use Rattle.run_model.specs.Reading.{byte_taking}
use Rattle.run_model.specs.Reading.Beginnings.{at_start}
use Rattle.run_model.specs.Reading.Ends.{due}
use Rattle.run_model.specs.Reading.Found.{read_in}
use Rattle.run_model.specs.Reading.Items.{PageInput, PageUnread, going_on, meaning_events}
use Rattle.run_model.specs.Reading.TextLines.{most_leading}
use Rattle.run_model.specs.Registers.{Known}
use Rattle.run_model.specs.declared.event.PageEvent.TheVariants.{Text}
use Rattle.run_model.specs.Stages.{Here, Ignores, Onward, Stage, Turned, input_at, stage_of}
use Rattle.read_shortcuts.specs.Runs.{blanks_counted, counts_blanks}
use Rattle.read_shortcuts.specs.Stages.{ReadsPast}
use Rattle.run_model.specs.declared.line_state.LineState.{LineState}
use Rattle.run_model.specs.declared.line_state.LineState.TheVariants.{Branch, Text as InText}
use Rattle.run_model.specs.declared.line_state.TextLine.{TextLine}

-- a line with so many leading blanks
abbrev led : TextLine → ℕ → TextLine
led line n = record line { leading = n }

-- where there is a leading blank, another one only counts
counts-blank : (k : Known) (i : PageInput) (line : TextLine) (n b : ℕ) → i.escapes ≡ [] → line.has_glyph ≡ false → 1 ≤ n → (b == blank) ≡ true
    → byte_taking k (InText (led line n)) i b ≡ going_on i (InText (led line (min (n + 1) most_leading)))
counts-blank k i line n b none_half no_glyph some is =
    let next : LineState = InText (led line (min (n + 1) most_leading)) in
    let more : (n == 0) ≡ false = ne_eqb n 0 (λ none. absurd (omega (arith, none, some))) in
    subst (λ (c : ℕ). byte_taking k (InText (led line n)) i c ≡ going_on i next) (sym (eqb-true b blank is))
    (sym (plain-found k (InText (led line n)) i blank none_half refl)
    ∙ ap (λ (c : Bool). if c then meaning_events i (InText (led line n)) (Text WordEnd ∷ Text (Gap 1) ∷ []) else meaning_events i next (if n == 0 then Text WordEnd ∷ Text Break ∷ [] else [])) no_glyph
    ∙ ap (λ (c : Bool). meaning_events i next (if c then Text WordEnd ∷ Text Break ∷ [] else [])) more)

-- some blanks more
counted-some : (count n : ℕ) → 1 ≤ count → blanks_counted count n ≡ min (n + count) most_leading
counted-some count n some =
    let more : (count == 0) ≡ false = ne_eqb count 0 (λ none. absurd (omega (arith, none, some))) in
    ap (λ (c : Bool). if c then n else min (n + count) most_leading) more

-- one, and then others
counted-again : (count n : ℕ) → blanks_counted count (min (n + 1) most_leading) ≡ min (n + (count + 1)) most_leading
counted-again count n = elim (cases_Bool (count == 0)) [
  | inl none ↦
      let is : count ≡ 0 = eqb-true count 0 none in
      ap (λ (c : Bool). if c then min (n + 1) most_leading else min (min (n + 1) most_leading + count) most_leading) none ∙ omega (arith, is)
  | inr some ↦
      ap (λ (c : Bool). if c then min (n + 1) most_leading else min (min (n + 1) most_leading + count) most_leading) some ∙ omega arith
]

-- where such a line is read
abbrev stage_with : TextLine → List OpenEscape → Arguments → List (List ℕ) → ℕ → Stage
stage_with line half a texts n = record { reading = InText (led line n); escapes = half; arguments = a; texts = texts }

-- blanks lead from stage to stage
turned-blanks : (names : Named Entry) (line : TextLine) (half : List OpenEscape) (a : Arguments) (texts : List (List ℕ)) (n last : ℕ) (bytes : List ℕ)
    → half ≡ [] → line.has_glyph ≡ false → 1 ≤ n → last ≡ blanks_counted (length bytes) n → AllByRecursion (λ b. (b == blank) ≡ true) bytes
    → Turned names (stage_with line half a texts n) bytes (stage_with line half a texts last)
turned-blanks names line half a texts n last [] none_half no_glyph some is blanks =
    subst (λ (m : ℕ). Turned names (stage_with line half a texts n) [] (stage_with line half a texts m)) (sym is) (Here (stage_with line half a texts n))
turned-blanks names line half a texts n last (b ∷ bytes) none_half no_glyph some is blanks =
    let p : Stage = stage_with line half a texts n in
    let next : ℕ = min (n + 1) most_leading in
    let counted : last ≡ min (n + length (b ∷ bytes)) most_leading = is ∙ counted-some (length (b ∷ bytes)) n (omega arith) in
    let again : blanks_counted (length bytes) next ≡ min (n + (length bytes + 1)) most_leading = counted-again (length bytes) n in
    let there : last ≡ blanks_counted (length bytes) next = counted ∙ ap (λ (m : ℕ). min m most_leading) (omega arith) ∙ sym again in
    Onward p (stage_with line half a texts next) (stage_with line half a texts last) b bytes refl (ap (λ (h : List OpenEscape). is_ended_by h (Some b)) none_half)
    (λ k i. counts-blank k (input_at names p i) line n b none_half no_glyph some blanks.0) refl (omega arith) (omega arith)
    (turned-blanks names line half a texts next last bytes none_half no_glyph (omega (arith, some)) there blanks.1)

-- what only counts blanks has one, and no glyph
counts_none : (has_glyph more : Bool) → not has_glyph && more ≡ true → (has_glyph ≡ false) × (more ≡ true)
counts_none true more so = cc
counts_none false more so = (refl, so)

-- blanks were counted, and read past
pub reads-blanks : (gave gives : Tape → Type 0) (ready : List ℕ) (line behind : TextLine) (count : ℕ) (old new : ReaderState) (before after : PageUnread)
    → before.input.escapes ≡ [] → old.reading ≡ InText line → counts_blanks old.reading ≡ true
    → behind ≡ record line { leading = blanks_counted count line.leading } → new ≡ record old { reading = InText behind }
    → TakesRun Blanks gave gives ready count before after → IsWithin after → ReadsPast gave gives old new before after
reads-blanks gave gives ready line behind count old new before after none_half is so led_on came took within =
    let i : PageInput = before.input in
    let bytes : List ℕ = took.bytes in
    let here : not line.has_glyph && nat_lt 0 line.leading ≡ true = subst (λ (r : LineState). counts_blanks r ≡ true) is so in
    let bare : (line.has_glyph ≡ false) × (nat_lt 0 line.leading ≡ true) = counts_none line.has_glyph (nat_lt 0 line.leading) here in
    let some : 1 ≤ line.leading = omega (arith, ltb-true 0 line.leading bare.1) in
    let last : ℕ = blanks_counted count line.leading in
    let taken : last ≡ blanks_counted (length bytes) line.leading = ap (λ (n : ℕ). blanks_counted n line.leading) (sym took.length_is) in
    let reading : InText (led line last) ≡ new.reading = sym (ap (λ (r : ReaderState). r.reading) came ∙ ap (λ (l : TextLine). InText l) led_on) in
    let turned : Turned i.names (stage_with line i.escapes i.arguments i.open_texts line.leading) bytes (stage_with line i.escapes i.arguments i.open_texts last) =
    turned-blanks i.names line i.escapes i.arguments i.open_texts line.leading last bytes none_half bare.0 some taken took.are_of in
    let there : Turned i.names (stage_of old.reading i) bytes (stage_of new.reading i) =
    subst (λ (r : LineState). Turned i.names (stage_of r i) bytes (stage_of new.reading i)) (sym is)
    (subst (λ (r : LineState). Turned i.names (stage_of (InText line) i) bytes (stage_of r i)) reading turned) in
    reads-taken Blanks gave gives ready count old new before after took
    (turned-behind i.names (stage_of old.reading i) bytes new.reading after.input i.escapes i.arguments i.open_texts took.half_read took.arguments took.texts there)
    (ap (λ (r : ReaderState). r.registers) came) (ap (λ (r : ReaderState). r.meaning) came) within

-- a blank where a branch begins is passed over
pub passes-blank : (b : ℕ) → (b == blank) ≡ true → Ignores Branch b
passes-blank b is = λ k i none_half.
    subst (λ (c : ℕ). byte_taking k Branch i c ≡ going_on i Branch) (sym (eqb-true b blank is))
    (ap (λ (half : List OpenEscape). read_in k Branch i (byte_read (at_start k) half 32)) none_half
    ∙ ap (λ (half : List OpenEscape). going_on (record i { escapes = half }) Branch) (sym none_half))

-- such blanks were read past
pub reads-branch_blanks : (gave gives : Tape → Type 0) (ready : List ℕ) (count : ℕ) (r : ReaderState) (before after : PageUnread)
    → before.input.escapes ≡ [] → r.reading ≡ Branch → TakesRun Blanks gave gives ready count before after → IsWithin after → ReadsPast gave gives r r before after
reads-branch_blanks gave gives ready count r before after none_half is took within =
    let i : PageInput = before.input in
    let ignores : (b : ℕ) → (b == blank) ≡ true → Ignores r.reading b = λ b plain. subst (λ (reading : LineState). Ignores reading b) (sym is) (passes-blank b plain) in
    reads-taken Blanks gave gives ready count r r before after took
    (turned-behind i.names (stage_of r.reading i) took.bytes r.reading after.input i.escapes i.arguments i.open_texts took.half_read took.arguments took.texts
    (turned-same (λ b. b == blank) i.names r.reading i.escapes i.arguments i.open_texts took.bytes none_half (ap (λ (reading : LineState). due reading) is) ignores took.are_of))
    refl refl within
