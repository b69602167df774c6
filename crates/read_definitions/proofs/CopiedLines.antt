-- Lines of a definition that are copied at once: their parts, and where they lead.
use Rattle.std.proofs.Common.{◌≡◌, ℕ, ◌+◌, ◌≤◌, Bool, true, false, List, [], ◌∷◌, ◌++◌, length, take, take_while, drop, Option, Some, None, inl, inr, refl, suc, sym, ap, subst, zero, ◌∙◌, arith, ◌==◌, ◌||◌, ◌&&◌, cond, if◌then◌else◌, eqb-true, ne_eqb, length-take-le}
use Rattle.std.specs.List.{AllByRecursion}
use Rattle.std.proofs.Math.Seq.{take-add}
use Rattle.std.proofs.lemmas.Bool.{and_parts, cases_Bool, not-true}
use Rattle.std.proofs.lemmas.List.Sums.{take_while-cons}
use Rattle.roff_num.specs.declared.short_name.ShortName.{ShortName}
use Rattle.roff_scan.proofs.AddedFronts.{adding-none, adding-texts, plain_in_front}
use Rattle.roff_scan.proofs.PartsTaken.{begin}
use Rattle.roff_scan.specs.Unread.Calls.{front_bytes}
use Rattle.roff_scan.specs.Unread.Copied.{CopiesFront}
use Rattle.roff_scan.specs.Unread.Runs.{with_stage_of}
use Rattle.input_model.specs.Input.Names.{adding}
use Rattle.input_model.specs.Unread.{IsWithin}
use Rattle.input_escapes.specs.OpenEscape.{OpenEscape}
use Rattle.input_source.specs.Bytes.{backslash, dot, is_text_byte, newline}
use Rattle.input_source.specs.Tape.{Tape}
use Rattle.run_model.proofs.TextBytes.{is_other}
use Rattle.run_model.specs.Reading.Items.{PageInput, PageUnread}
use Rattle.run_model.specs.Stages.{Stage, Turned, stage_of}
use Rattle.run_model.specs.TurnsToCome.{begun, turns_to_come}
use Rattle.run_model.specs.declared.line_state.LineState.{LineState}
use Rattle.read_lines.specs.Reader.State.{ReaderState}
use Rattle.read_definitions.specs.CopiedLines.{ByteCopied, Copies, CopiesOn, CopiesSome, CopiesTo, DotCopied, EscapeCopied, NoneCopied, TakesLines, goes_on_behind_dot, is_behind_dot, is_copied_byte, is_dot, is_kept_escape, is_space, keeps_escape, kept_of, reads_lines, second_of_mark}
use Rattle.read_shortcuts.specs.Runs.{ready_allowed}
use Rattle.read_shortcuts.specs.Stages.{ReadsPast}
use Rattle.read_definitions.specs.declared.copied.Lines.{Lines}
use Rattle.read_shortcuts.proofs.AddedRuns.{stage_with}
use Rattle.read_definitions.proofs.CopiedTurns.{copies_to-turned, fits, texts_copied}
use Rattle.read_shortcuts.proofs.RegistersPut.{leaves}
use Rattle.read_shortcuts.proofs.RunsRead.{first_of_front, passed-charge, turned-behind}

-- bytes that are copied, and then others
copies-append : (second : ℕ) (begins between last : Bool) (front behind : List ℕ) → Copies second begins front between → Copies second between behind last
    → Copies second begins (front ++ behind) last
copies-append second _ between last _ behind (NoneCopied begins) others = others
copies-append second _ _ last _ behind (ByteCopied begins between b bytes differs copied more) others =
    ByteCopied begins last b (bytes ++ behind) differs copied (copies-append second (b == newline) between last bytes behind more others)
copies-append second _ _ last _ behind (EscapeCopied begins between b bytes kept more) others =
    EscapeCopied begins last b (bytes ++ behind) kept (copies-append second false between last bytes behind more others)
copies-append second _ _ last _ behind (DotCopied between b bytes differs copied more) others =
    DotCopied last b (bytes ++ behind) differs copied (copies-append second (b == newline) between last bytes behind more others)

pub copies-more : (second : ℕ) (begins between last : Bool) (count more : ℕ) (bytes : List ℕ) → Copies second begins (take count bytes) between
    → Copies second between (take more (drop count bytes)) last → Copies second begins (take (count + more) bytes) last
copies-more second begins between last count more bytes front behind =
    subst (λ (all : List ℕ). Copies second begins all last) (sym (take-add count more bytes))
    (copies-append second begins between last (take count bytes) (take more (drop count bytes)) front behind)

-- plain text is copied
text-copied : (b : ℕ) → is_text_byte b ≡ true → is_copied_byte b ≡ true
text-copied b text = ap (λ (c : Bool). c || is_space b) text

space-copied : (b : ℕ) (text : Bool) → is_space b ≡ true → (text || is_space b) ≡ true
space-copied b true space = refl
space-copied b false space = space

copies-plain : (second : ℕ) (bytes : List ℕ) → AllByRecursion (λ b. is_text_byte b ≡ true) bytes → Copies second false bytes false
copies-plain second [] plain = NoneCopied false
copies-plain second (b ∷ bytes) plain =
    ByteCopied false false b bytes refl (text-copied b plain.0)
    (subst (λ (begins : Bool). Copies second begins bytes false) (sym (is_other b newline plain.0 refl)) (copies-plain second bytes plain.1))

-- a line begins behind no bytes where it began in front of them, and behind plain text none does
behind-none : (begins : Bool) → (begins && zero == 0) ≡ begins
behind-none true = refl
behind-none false = refl

behind-some : (begins : Bool) (count : ℕ) → (begins && suc count == 0) ≡ false
behind-some true count = ne_eqb (suc count) 0 (λ is. omega (arith, is))
behind-some false count = refl

copies-run : (second : ℕ) (begins : Bool) (b : ℕ) (bytes : List ℕ) (count : ℕ) → is_dot begins b ≡ false
    → AllByRecursion (λ c. is_text_byte c ≡ true) (take count (b ∷ bytes)) → Copies second begins (take count (b ∷ bytes)) (begins && count == 0)
copies-run second begins b bytes zero differs plain =
    subst (λ (last : Bool). Copies second begins [] last) (sym (behind-none begins)) (NoneCopied begins)
copies-run second begins b bytes (suc count) differs plain =
    subst (λ (last : Bool). Copies second begins (b ∷ take count bytes) last) (sym (behind-some begins count))
    (ByteCopied begins false b (take count bytes) differs (text-copied b plain.0)
    (subst (λ (start : Bool). Copies second start (take count bytes) false) (sym (is_other b newline plain.0 refl)) (copies-plain second (take count bytes) plain.1)))

-- where none is in front the first is no plain text
none-plain : (b : ℕ) (bytes : List ℕ) → length (take_while is_text_byte (b ∷ bytes)) ≡ 0 → is_text_byte b ≡ false
none-plain b bytes none = elim (cases_Bool (is_text_byte b)) [
  | inl text ↦
      let more = ap length (take_while-cons is_text_byte b bytes ∙ ap (λ (c : Bool). cond c (b ∷ take_while is_text_byte bytes) []) text) in
      absurd (omega (arith, more, none))
  | inr other ↦ other
]

-- no bytes
pub copies-none : (second : ℕ) (begins : Bool) (bytes : List ℕ) → length bytes ≡ 0 → CopiesSome second begins begins 0 bytes
copies-none second begins [] none = record { few = omega arith; copies = NoneCopied begins; none = λ none. refl }
copies-none second begins (b ∷ bytes) none = absurd (omega (arith, none))

-- a run of plain text
pub copies-text : (second : ℕ) (begins : Bool) (bytes : List ℕ) (b : ℕ) (rest : List ℕ) (count : ℕ) → bytes ≡ b ∷ rest → is_dot begins b ≡ false → (b == backslash) ≡ false
    → is_space b ≡ false → count ≡ length (take_while is_text_byte bytes) → CopiesSome second begins (begins && count == 0) count bytes
copies-text second begins bytes b rest count are differs no_escape other counted =
    subst (λ (xs : List ℕ). CopiesSome second begins (begins && count == 0) count xs) (sym are)
    (let counted_here : count ≡ length (take_while is_text_byte (b ∷ rest)) = counted ∙ ap (λ (xs : List ℕ). length (take_while is_text_byte xs)) are in
    record {
      few = (begin is_text_byte (b ∷ rest) count counted_here).few;
      copies = copies-run second begins b rest count differs (plain_in_front (b ∷ rest) (take count (b ∷ rest)) count refl counted_here);
      none = λ none.
          ap (λ (c : Bool). if c then goes_on_behind_dot second rest else if b == backslash then keeps_escape rest else is_copied_byte b) differs
          ∙ ap (λ (c : Bool). if c then keeps_escape rest else is_copied_byte b) no_escape
          ∙ ap (λ (c : Bool). is_text_byte b || c) other ∙ ap (λ (c : Bool). c || false) (none-plain b rest (sym counted_here ∙ none));
    })

-- a newline or a tab
pub copies-space : (second : ℕ) (begins : Bool) (bytes : List ℕ) (b : ℕ) (rest : List ℕ) → bytes ≡ b ∷ rest → is_dot begins b ≡ false → is_space b ≡ true
    → CopiesSome second begins (b == newline) 1 bytes
copies-space second begins bytes b rest are differs space =
    subst (λ (xs : List ℕ). CopiesSome second begins (b == newline) 1 xs) (sym are)
    (record {
      few = omega arith;
      copies = ByteCopied begins (b == newline) b [] differs (space-copied b (is_text_byte b) space) (NoneCopied (b == newline));
      none = λ none. absurd (omega (arith, none));
    })

-- a dot where a line begins, and the byte behind it
pub copies-behind_dot : (second : ℕ) (rest : List ℕ) (b : ℕ) (others : List ℕ) → rest ≡ b ∷ others → is_behind_dot second b ≡ true
    → Copies second true (take 2 (dot ∷ rest)) (b == newline)
copies-behind_dot second rest b others are goes =
    let parts = and_parts _ (is_copied_byte b) goes in
    subst (λ (xs : List ℕ). Copies second true (take 2 (dot ∷ xs)) (b == newline)) (sym are)
    (DotCopied (b == newline) b [] (not-true (b == second) parts.0) parts.1 (NoneCopied (b == newline)))

pub copies-dot : (second : ℕ) (begins last : Bool) (bytes : List ℕ) (b : ℕ) (rest : List ℕ) (count : ℕ) → bytes ≡ b ∷ rest → is_dot begins b ≡ true
    → count ≤ length rest + 1 → Copies second true (take count (dot ∷ rest)) last → (count ≡ 0 → goes_on_behind_dot second rest ≡ false)
    → CopiesSome second begins last count bytes
copies-dot second begins last bytes b rest count are is few copies none =
    let parts = and_parts begins (b == dot) is in
    subst (λ (xs : List ℕ). CopiesSome second begins last count xs) (sym (are ∙ ap (λ (c : ℕ). c ∷ rest) (eqb-true b dot parts.1)))
    (subst (λ (start : Bool). CopiesSome second start last count (dot ∷ rest)) (sym parts.0)
    (record { few = omega (arith, few); copies = copies; none = none }))

-- a backslash, and the byte behind it
pub copies-behind_backslash : (begins : Bool) (rest : List ℕ) (b : ℕ) (others : List ℕ) → rest ≡ b ∷ others → is_kept_escape b ≡ true
    → (second : ℕ) → Copies second begins (take 2 (backslash ∷ rest)) false
copies-behind_backslash begins rest b others are kept = λ second.
    subst (λ (xs : List ℕ). Copies second begins (take 2 (backslash ∷ xs)) false) (sym are) (EscapeCopied begins false b [] kept (NoneCopied false))

pub copies-backslash : (second : ℕ) (begins last : Bool) (bytes : List ℕ) (b : ℕ) (rest : List ℕ) (count : ℕ) → bytes ≡ b ∷ rest → is_dot begins b ≡ false
    → (b == backslash) ≡ true → count ≤ length rest + 1 → Copies second begins (take count (backslash ∷ rest)) last → (count ≡ 0 → keeps_escape rest ≡ false)
    → CopiesSome second begins last count bytes
copies-backslash second begins last bytes b rest count are differs is few copies none =
    subst (λ (xs : List ℕ). CopiesSome second begins last count xs) (sym are)
    (record {
      few = omega (arith, few);
      copies = subst (λ (c : ℕ). Copies second begins (take count (c ∷ rest)) last) (sym (eqb-true b backslash is)) copies;
      none = λ nothing.
          ap (λ (c : Bool). if c then goes_on_behind_dot second rest else if b == backslash then keeps_escape rest else is_copied_byte b) differs
          ∙ ap (λ (c : Bool). if c then keeps_escape rest else is_copied_byte b) is ∙ none nothing;
    })

-- bytes that were copied were read past
module _ (ready : List ℕ) (lines : Lines) (last : Bool) (text count : ℕ) (r : ReaderState) (before : PageUnread) (front : List ℕ)
    (reads : r.reading ≡ reads_lines lines) (is : front ≡ front_bytes (length front) ready before)
    (first : CopiesTo (second_of_mark lines.end) lines.begins front last text count) where
  abbrev i : PageInput
  i = before.input

  abbrev bytes : List ℕ
  bytes = front_bytes count ready before

  abbrev kept : List ℕ
  kept = front_bytes text ready before

  few : (text ≤ count) × (count ≤ length front)
  few = fits (second_of_mark lines.end) lines.begins last text count front first

  are : take count front ≡ bytes
  are = first_of_front front count ready before is few.1

  are-kept : take text front ≡ kept
  are-kept = first_of_front front text ready before is (omega (arith, few.0, few.1))

  long : length bytes ≡ count
  long = sym (ap length are) ∙ length-take-le count front few.1

  -- the lines behind them
  abbrev behind : LineState
  behind = reads_lines (record lines { begins = last })

  texts-behind : (name : Option ShortName) → (adding (front_bytes (kept_of name text) ready before) i).open_texts ≡ texts_copied name kept i.open_texts
  texts-behind None = adding-none i
  texts-behind (Some name) = ap (λ (j : PageInput). j.open_texts) (adding-texts kept i)

  module _ (gave gives : Tape → Type 0) (new : ReaderState) (after : PageUnread) (none_half : before.input.escapes ≡ []) (moved : new ≡ record r { reading = behind })
      (copied : CopiesFront gave gives (front_bytes count ready before) (front_bytes (kept_of lines.name text) ready before) before after) where
    turned-copied : Turned i.names (stage_of r.reading i) bytes (stage_of behind after.input)
    turned-copied =
        let grown : List (List ℕ) = texts_copied lines.name kept i.open_texts in
        let p : Stage = stage_with (reads_lines lines) [] i.arguments i.open_texts in
        let to : List ℕ → Stage = λ xs. stage_with behind [] i.arguments (texts_copied lines.name xs i.open_texts) in
        let path : Turned i.names p (take count front) (to (take text front)) =
        copies_to-turned lines.name lines.appends lines.end i.names i.arguments lines.begins last text count front i.open_texts first in
        turned-behind i.names (stage_of r.reading i) bytes behind after.input i.escapes i.arguments grown copied.half_read copied.arguments
        (copied.texts ∙ texts-behind lines.name)
        (subst (λ (reading : LineState). Turned i.names (stage_with reading i.escapes i.arguments i.open_texts) bytes (stage_with behind i.escapes i.arguments grown)) (sym reads)
        (subst (λ (half : List OpenEscape). Turned i.names (stage_with (reads_lines lines) half i.arguments i.open_texts) bytes (stage_with behind half i.arguments grown))
        (sym none_half)
        (subst (λ (xs : List ℕ). Turned i.names p xs (to kept)) are (subst (λ (xs : List ℕ). Turned i.names p (take count front) (to xs)) are-kept path))))

    pub reads-copied : IsWithin after → ReadsPast gave gives r new before after
    reads-copied within =
        subst (λ (n : ReaderState). ReadsPast gave gives r n before after) (sym moved)
        (record {
          bytes = bytes;
          turned = turned-copied;
          passes = copied.passes;
          registers = refl;
          meaning = refl;
          within = within;
        })

    -- fewer turns are to come behind some
    pub on-copied : 1 ≤ count → CopiesOn r new before after
    on-copied some =
        let passed : PageUnread = record after { input = with_stage_of i after.input } in
        let same : turns_to_come after ≡ turns_to_come passed =
        ap (λ (half : List OpenEscape). turns_to_come (record after { input = record after.input { escapes = half } })) copied.half_read in
        let left = leaves gave gives bytes before passed (omega (arith, some, long)) copied.passes in
        record {
          begun = ap (λ (n : ReaderState). begun n.reading) moved ∙ sym (ap begun reads);
          fewer = omega (arith, same, left.turns);
        }

    -- and they are all that are copied
    pub takes-copied : front ≡ ready_allowed before ready → TakesLines lines ready before after
    takes-copied all = record {
      last = last;
      text = text;
      count = count;
      copies = subst (λ (xs : List ℕ). CopiesTo (second_of_mark lines.end) lines.begins xs last text count) all first;
      taken = λ room. passed-charge gave gives bytes before (record after { input = with_stage_of i after.input }) copied.passes ∙ ap (λ (n : ℕ). i.charge + n) long;
    }
