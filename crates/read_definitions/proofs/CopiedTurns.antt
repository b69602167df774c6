-- Bytes of a definition's lines that are copied lead from stage to stage, one after another: each is put behind the newest text in the
-- making, if a name gets it.
use Rattle.std.proofs.Common.{◌≡◌, ℕ, ◌+◌, ◌≤◌, Bool, true, false, List, [], ◌∷◌, ◌++◌, length, take, drop, Option, Some, None, inl, inr, refl, sym, ap, subst, ◌∙◌, arith, ◌==◌, ◌||◌, ◌&&◌, not, nat_lt, if◌then◌else◌, eqb-true, length-drop}
use Rattle.std.proofs.Math.Seq.{take-add}
use Rattle.std.proofs.lemmas.Bool.{and_parts, cases_Bool}
use Rattle.roff_num.specs.declared.short_name.ShortName.{ShortName}
use Rattle.roff_scan.proofs.AddedFronts.{adding-texts, newest-added, texts_added, texts_added-again, texts_added-none}
use Rattle.input_model.specs.Arguments.{Arguments}
use Rattle.input_source.specs.Bytes.{backslash, dot, is_dropped, is_silent, is_text_byte, newline, tab}
use Rattle.input_escapes.specs.OpenEscape.{OpenEscape, Backslash}
use Rattle.input_escapes.proofs.Copying.{taken-copied}
use Rattle.input_escapes.specs.EscapeLaws.{begins_reading}
use Rattle.input_escapes.specs.OpenEscapes.{Reads, byte_read, unit_taken}
use Rattle.input_escapes.specs.declared.open_escape.CopyUnit.TheVariants.{Byte, Kept}
use Rattle.input_escapes.specs.declared.open_escape.Found.TheVariants.{GoesOn, Unit as GivesUnit}
use Rattle.input_escapes.specs.declared.open_escape.Surroundings.TheVariants.{Copy as AboveCopy}
use Rattle.roff_store.specs.Named.{Named}
use Rattle.roff_store.specs.Texts.{Entry, newest}
use Rattle.run_model.proofs.TextBytes.{is_other, kept-text}
use Rattle.run_model.specs.Definitions.{end_mark, front_of, line_from, line_with}
use Rattle.run_model.specs.Reading.{byte_taking, undropped_taking}
use Rattle.run_model.specs.Reading.DefinedLines.{definition_line, definition_unit}
use Rattle.run_model.specs.Reading.Definitions.{definition_grown}
use Rattle.run_model.specs.Reading.Found.{place_in, read_in}
use Rattle.run_model.specs.Reading.Items.{PageInput, going_on}
use Rattle.run_model.specs.Reading.Units.{interrupted}
use Rattle.run_model.specs.Registers.{Known}
use Rattle.run_model.specs.Stages.{Growing, Here, Onward, Stage, TextsGrow, Turned, input_at}
use Rattle.run_model.specs.declared.definition.DefinitionLine.{DefinitionLine}
use Rattle.run_model.specs.declared.definition.DefinitionLine.TheVariants.{MayBeLast, IsText}
use Rattle.run_model.specs.declared.line_state.LineState.{LineState}
use Rattle.run_model.specs.declared.line_state.LineState.TheVariants.{Collecting}
use Rattle.run_model.specs.declared.purpose.Purpose.TheVariants.{Defining}
use Rattle.read_definitions.specs.CopiedLines.{AsTheyStand, ByteCopied, Copies, CopiesTo, DotCopied, EscapeCopied, NoneCopied, ThenDoubled, is_copied_byte, is_dot, is_doubled, is_kept_escape, matched_at, second_of_mark}
use Rattle.read_shortcuts.proofs.AddedRuns.{grows-added, stage_with}
use Rattle.read_shortcuts.proofs.LinesRead.{Turned-append}

-- a byte that is copied isn't dropped
undropped : (below is_del is_escape is_newline is_tab silent : Bool) → (not (below || (is_del || is_escape)) || (is_newline || is_tab)) ≡ true
    → ((below || is_del) && not (is_newline || is_tab || silent)) ≡ false
undropped false false is_escape is_newline is_tab silent copied = refl
undropped true is_del is_escape true is_tab silent copied = refl
undropped true is_del is_escape false true silent copied = refl
undropped true is_del is_escape false false silent copied = cc
undropped false true is_escape true is_tab silent copied = refl
undropped false true is_escape false true silent copied = refl
undropped false true is_escape false false silent copied = cc

pub copied-undropped : (b : ℕ) → is_copied_byte b ≡ true → is_dropped b ≡ false
copied-undropped b copied = undropped (nat_lt b 32) (b == 127) (b == backslash) (b == newline) (b == tab) (is_silent b) copied

-- and is no backslash
copied-no_escape : (b : ℕ) → is_copied_byte b ≡ true → (b == backslash) ≡ false
copied-no_escape b copied = elim (cases_Bool (b == backslash)) [
  | inl same ↦ let no : false ≡ true = subst (λ (c : ℕ). is_copied_byte c ≡ true) (eqb-true b backslash same) copied in cc
  | inr differs ↦ differs
]

-- a line that begins with no dot isn't the last one, nor is one within which a byte comes
line-text : (end : Option ShortName) (begins : Bool) (b : ℕ) → is_dot begins b ≡ false → line_from (end_mark end) (matched_at begins) (Byte b) ≡ IsText
line-text end false b differs = refl
line-text None true b differs = ap (λ (c : Bool). if c then line_with (dot ∷ []) 1 [] else IsText) differs
line-text (Some name) true b differs = ap (λ (c : Bool). if c then MayBeLast 1 else IsText) differs

front-none : (end : Option ShortName) (begins : Bool) → front_of (end_mark end) (matched_at begins) ≡ []
front-none end false = refl
front-none end true = refl

-- one that begins with a dot may be, until another byte than the mark's follows
line-dot : (end : Option ShortName) → line_from (end_mark end) (Some 0) (Byte dot) ≡ MayBeLast 1
line-dot None = refl
line-dot (Some name) = refl

line-behind_dot : (end : Option ShortName) (b : ℕ) → (b == second_of_mark end) ≡ false → line_from (end_mark end) (Some 1) (Byte b) ≡ IsText
line-behind_dot None b differs = ap (λ (c : Bool). if c then MayBeLast 2 else IsText) differs
line-behind_dot (Some name) b differs = ap (λ (c : Bool). if c then MayBeLast 2 else IsText) differs

front-dot : (end : Option ShortName) → front_of (end_mark end) (Some 1) ≡ dot ∷ []
front-dot None = refl
front-dot (Some name) = refl

-- nor does an escape that is kept
line-kept : (end : Option ShortName) (begins : Bool) (b : ℕ) → line_from (end_mark end) (matched_at begins) (Kept b) ≡ IsText
line-kept end false b = refl
line-kept None true b = refl
line-kept (Some name) true b = refl

-- of two backslashes the first is kept
single : (begins : Bool) → is_dot begins backslash ≡ false
single true = refl
single false = refl

record TwoInFront (bytes : List ℕ) : Type 0 where
  both : take 2 bytes ≡ backslash ∷ backslash ∷ []
  kept : take 1 bytes ≡ backslash ∷ []
  among : 2 ≤ length bytes

two_in_front : (bytes : List ℕ) → is_doubled bytes ≡ true → TwoInFront bytes
two_in_front [] doubled = cc
two_in_front (b ∷ []) doubled = cc
two_in_front (b ∷ c ∷ bytes) doubled =
    let parts = and_parts (b == backslash) (c == backslash) doubled in
    let first : b ≡ backslash = eqb-true b backslash parts.0 in
    let second : c ≡ backslash = eqb-true c backslash parts.1 in
    record {
      both = ap (λ (d : ℕ). d ∷ c ∷ []) first ∙ ap (λ (d : ℕ). backslash ∷ d ∷ []) second;
      kept = ap (λ (d : ℕ). d ∷ []) first;
      among = omega arith;
    }

-- there are as many as are copied
pub fits : (second : ℕ) (begins last : Bool) (text count : ℕ) (bytes : List ℕ) → CopiesTo second begins bytes last text count
    → (text ≤ count) × (count ≤ length bytes)
fits second begins _ _ _ bytes (AsTheyStand last count first others) = (omega arith, first.few)
fits second begins _ _ _ bytes (ThenDoubled last count first doubled) =
    (omega arith, omega (arith, first.few, (two_in_front (drop count bytes) doubled).among, length-drop count bytes))

-- an escape that is kept is one that copy mode reads so
none_of_three : (reads is_dot is_t : Bool) → not (reads || (is_dot || is_t)) ≡ true → (reads ≡ false) × (is_dot ≡ false) × (is_t ≡ false)
none_of_three true is_dot is_t none = cc
none_of_three false true is_t none = cc
none_of_three false false true none = cc
none_of_three false false false none = (refl, refl, refl)

kept-undropped : (b : ℕ) → is_kept_escape b ≡ true → is_dropped b ≡ false
kept-undropped b kept =
    kept-text (nat_lt b 32) (b == 127) (b == backslash) (not (b == newline || b == tab || is_silent b)) (and_parts (is_text_byte b) _ kept).0

kept-read : (b : ℕ) → is_kept_escape b ≡ true → byte_read AboveCopy (Backslash ∷ []) b ≡ (GivesUnit (Kept b), [])
kept-read b kept =
    let text = (and_parts (is_text_byte b) _ kept).0 in
    let none = none_of_three (begins_reading b) (b == dot) (b == 116) (and_parts (is_text_byte b) _ kept).1 in
    let last : Reads = unit_taken [] (Kept b) in
    let by_t : Bool → Reads = λ is. if is then unit_taken [] (Byte tab) else last in
    let by_dot : Bool → Reads = λ is. if is then unit_taken [] (Byte dot) else by_t (b == 116) in
    let by_backslash : Bool → Reads = λ is. if is then unit_taken [] (Byte backslash) else by_dot (b == dot) in
    let by_newline : Bool → Reads = λ is. if is then (GoesOn, []) else by_backslash (b == backslash) in
    taken-copied AboveCopy b refl none.0
    ∙ ap by_newline (is_other b newline text refl) ∙ ap by_backslash (is_other b backslash text refl) ∙ ap by_dot none.1 ∙ ap by_t none.2

-- the texts in the making behind bytes of a definition
abbrev pub texts_copied : Option ShortName → List ℕ → List (List ℕ) → List (List ℕ)
texts_copied None bytes texts = texts
texts_copied (Some name) bytes texts = texts_added bytes (newest texts) texts

copied-grown : (name : Option ShortName) (bytes : List ℕ) (i : PageInput)
    → definition_grown name bytes i ≡ record i { open_texts = texts_copied name bytes i.open_texts }
copied-grown None bytes i = refl
copied-grown (Some name) bytes i = adding-texts bytes i

copied-none : (name : Option ShortName) (texts : List (List ℕ)) → texts_copied name [] texts ≡ texts
copied-none None texts = refl
copied-none (Some name) texts = texts_added-none (newest texts) texts

copied-again : (name : Option ShortName) (b : ℕ) (bytes : List ℕ) (texts : List (List ℕ))
    → texts_copied name bytes (texts_copied name (b ∷ []) texts) ≡ texts_copied name (b ∷ bytes) texts
copied-again None b bytes texts = refl
copied-again (Some name) b bytes texts =
    let one : List (List ℕ) = texts_added (b ∷ []) (newest texts) texts in
    ap (λ (id : Option ℕ). texts_added bytes id one) (newest-added (b ∷ []) (newest texts) texts) ∙ texts_added-again b bytes texts

copied-append : (name : Option ShortName) (front behind : List ℕ) (texts : List (List ℕ))
    → texts_copied name behind (texts_copied name front texts) ≡ texts_copied name (front ++ behind) texts
copied-append name [] behind texts = ap (texts_copied name behind) (copied-none name texts)
copied-append name (b ∷ front) behind texts =
    ap (texts_copied name behind) (sym (copied-again name b front texts)) ∙ copied-append name front behind (texts_copied name (b ∷ []) texts)
    ∙ copied-again name b (front ++ behind) texts

copied-behind_two : (name : Option ShortName) (a b : ℕ) (bytes : List ℕ) (texts : List (List ℕ))
    → texts_copied name bytes (texts_copied name (a ∷ b ∷ []) texts) ≡ texts_copied name (a ∷ b ∷ bytes) texts
copied-behind_two name a b bytes texts =
    ap (texts_copied name bytes) (sym (copied-again name a (b ∷ []) texts)) ∙ copied-again name b bytes (texts_copied name (a ∷ []) texts)
    ∙ copied-again name a (b ∷ bytes) texts

grows-copied : (name : Option ShortName) (bytes : List ℕ) (texts : List (List ℕ)) → TextsGrow texts (texts_copied name bytes texts)
grows-copied None bytes texts = record { count = refl; bytes = omega arith }
grows-copied (Some name) bytes texts = grows-added bytes texts

module _ (name : Option ShortName) (appends : Bool) (end : Option ShortName) where
  -- lines of a definition, of which the last one's mark was read so far
  abbrev defining : Option ℕ → LineState
  defining matched = Collecting (Defining name appends end matched)

  -- a byte that is copied is a unit of them
  unit-copied : (k : Known) (i : PageInput) (matched : Option ℕ) (b : ℕ) → i.escapes ≡ [] → is_copied_byte b ≡ true
      → byte_taking k (defining matched) i b ≡ definition_line k i name appends end matched (Byte b)
  unit-copied k i matched b none_half copied =
      let reading : LineState = defining matched in
      ap (λ (c : Bool). if c then going_on (interrupted reading i) reading else undropped_taking k reading i b) (copied-undropped b copied)
      ∙ ap (λ (half : List OpenEscape). read_in k reading i (byte_read (place_in k reading) half b)) none_half
      ∙ ap (λ (c : Bool). read_in k reading i (if c then (GoesOn, Backslash ∷ []) else (GivesUnit (Byte b), []))) (copied-no_escape b copied)
      ∙ ap (λ (half : List OpenEscape). definition_line k (record i { escapes = half }) name appends end matched (Byte b)) (sym none_half)

  -- and put behind the text with what stands in front of it
  text-copied : (k : Known) (i : PageInput) (matched : Option ℕ) (front : List ℕ) (b : ℕ) → i.escapes ≡ [] → is_copied_byte b ≡ true
      → line_from (end_mark end) matched (Byte b) ≡ IsText → front_of (end_mark end) matched ≡ front
      → byte_taking k (defining matched) i b
      ≡ going_on (record i { open_texts = texts_copied name (front ++ b ∷ []) i.open_texts }) (defining (matched_at (b == newline)))
  text-copied k i matched front b none_half copied is_text is_front =
      let behind : LineState = defining (matched_at (b == newline)) in
      unit-copied k i matched b none_half copied
      ∙ ap (λ (line : DefinitionLine). definition_unit k i name appends end (front_of (end_mark end) matched) (Byte b) line) is_text
      ∙ ap (λ (bytes : List ℕ). going_on (definition_grown name (bytes ++ b ∷ []) i) behind) is_front
      ∙ ap (λ (j : PageInput). going_on j behind) (copied-grown name (front ++ b ∷ []) i)

  -- a dot with which a line begins is no text yet
  dot-copied : (k : Known) (i : PageInput) → i.escapes ≡ [] → byte_taking k (defining (Some 0)) i dot ≡ going_on i (defining (Some 1))
  dot-copied k i none_half =
      unit-copied k i (Some 0) dot none_half refl
      ∙ ap (λ (line : DefinitionLine). definition_unit k i name appends end (front_of (end_mark end) (Some 0)) (Byte dot) line) (line-dot end)

  -- a backslash waits for the byte behind it
  backslash-copied : (k : Known) (i : PageInput) (matched : Option ℕ) → i.escapes ≡ []
      → byte_taking k (defining matched) i backslash ≡ going_on (record i { escapes = Backslash ∷ [] }) (defining matched)
  backslash-copied k i matched none_half = ap (λ (half : List OpenEscape). read_in k (defining matched) i (byte_read AboveCopy half backslash)) none_half

  -- and is put behind the text with it
  escape-copied : (k : Known) (i : PageInput) (begins : Bool) (b : ℕ) → i.escapes ≡ Backslash ∷ [] → is_kept_escape b ≡ true
      → byte_taking k (defining (matched_at begins)) i b
      ≡ going_on (record i { escapes = []; open_texts = texts_copied name (backslash ∷ b ∷ []) i.open_texts }) (defining None)
  escape-copied k i begins b half kept =
      let reading : LineState = defining (matched_at begins) in
      let there : PageInput = record i { escapes = [] } in
      ap (λ (c : Bool). if c then going_on (interrupted reading i) reading else undropped_taking k reading i b) (kept-undropped b kept)
      ∙ ap (λ (over : List OpenEscape). read_in k reading i (byte_read AboveCopy over b)) half
      ∙ ap (λ (r : Reads). read_in k reading i r) (kept-read b kept)
      ∙ ap (λ (line : DefinitionLine). definition_unit k there name appends end (front_of (end_mark end) (matched_at begins)) (Kept b) line) (line-kept end begins b)
      ∙ ap (λ (bytes : List ℕ). going_on (definition_grown name (bytes ++ backslash ∷ b ∷ []) there) (defining None)) (front-none end begins)
      ∙ ap (λ (j : PageInput). going_on j (defining None)) (copied-grown name (backslash ∷ b ∷ []) there)

  -- or is itself, if it is another backslash
  doubled-copied : (k : Known) (i : PageInput) (begins : Bool) → i.escapes ≡ Backslash ∷ []
      → byte_taking k (defining (matched_at begins)) i backslash
      ≡ going_on (record i { escapes = []; open_texts = texts_copied name (backslash ∷ []) i.open_texts }) (defining None)
  doubled-copied k i begins half =
      let reading : LineState = defining (matched_at begins) in
      let there : PageInput = record i { escapes = [] } in
      ap (λ (over : List OpenEscape). read_in k reading i (byte_read AboveCopy over backslash)) half
      ∙ ap (λ (line : DefinitionLine). definition_unit k there name appends end (front_of (end_mark end) (matched_at begins)) (Byte backslash) line)
      (line-text end begins backslash (single begins))
      ∙ ap (λ (bytes : List ℕ). going_on (definition_grown name (bytes ++ backslash ∷ []) there) (defining None)) (front-none end begins)
      ∙ ap (λ (j : PageInput). going_on j (defining None)) (copied-grown name (backslash ∷ []) there)

  module _ (names : Named Entry) (a : Arguments) where
    -- such lines, with these texts in the making
    abbrev at_line : Option ℕ → List (List ℕ) → Stage
    at_line matched texts = stage_with (defining matched) [] a texts

    -- bytes that are copied lead on
    pub copies-turned : (begins last : Bool) (bytes : List ℕ) (texts : List (List ℕ)) → Copies (second_of_mark end) begins bytes last
        → Turned names (at_line (matched_at begins) texts) bytes (at_line (matched_at last) (texts_copied name bytes texts))
    copies-turned _ last _ texts (NoneCopied begins) =
        subst (λ (grown : List (List ℕ)). Turned names (at_line (matched_at begins) texts) [] (at_line (matched_at begins) grown)) (sym (copied-none name texts))
        (Here (at_line (matched_at begins) texts))
    copies-turned _ _ _ texts (ByteCopied begins last b bytes differs copied others) =
        let one : List (List ℕ) = texts_copied name (b ∷ []) texts in
        let p : Stage = at_line (matched_at begins) texts in
        let next : Stage = at_line (matched_at (b == newline)) one in
        Growing p next (at_line (matched_at last) (texts_copied name (b ∷ bytes) texts)) b bytes refl refl
        (λ k i. text-copied k (input_at names p i) (matched_at begins) [] b refl copied (line-text end begins b differs) (front-none end begins))
        (grows-copied name (b ∷ []) texts) (omega arith) (omega arith)
        (subst (λ (grown : List (List ℕ)). Turned names next bytes (at_line (matched_at last) grown)) (copied-again name b bytes texts)
        (copies-turned (b == newline) last bytes one others))
    copies-turned _ _ _ texts (DotCopied last b bytes differs copied others) =
        let two : List (List ℕ) = texts_copied name (dot ∷ b ∷ []) texts in
        let p : Stage = at_line (Some 0) texts in
        let middle : Stage = at_line (Some 1) texts in
        let next : Stage = at_line (matched_at (b == newline)) two in
        let q : Stage = at_line (matched_at last) (texts_copied name (dot ∷ b ∷ bytes) texts) in
        Onward p middle q dot (b ∷ bytes) refl refl (λ k i. dot-copied k (input_at names p i) refl) refl (omega arith) (omega arith)
        (Growing middle next q b bytes refl refl
        (λ k i. text-copied k (input_at names middle i) (Some 1) (dot ∷ []) b refl copied (line-behind_dot end b differs) (front-dot end))
        (grows-copied name (dot ∷ b ∷ []) texts) (omega arith) (omega arith)
        (subst (λ (grown : List (List ℕ)). Turned names next bytes (at_line (matched_at last) grown)) (copied-behind_two name dot b bytes texts)
        (copies-turned (b == newline) last bytes two others)))
    copies-turned _ _ _ texts (EscapeCopied begins last b bytes kept others) =
        let two : List (List ℕ) = texts_copied name (backslash ∷ b ∷ []) texts in
        let p : Stage = at_line (matched_at begins) texts in
        let middle : Stage = stage_with (defining (matched_at begins)) (Backslash ∷ []) a texts in
        let next : Stage = at_line None two in
        let q : Stage = at_line (matched_at last) (texts_copied name (backslash ∷ b ∷ bytes) texts) in
        Onward p middle q backslash (b ∷ bytes) refl refl (λ k i. backslash-copied k (input_at names p i) (matched_at begins) refl) refl (omega arith) (omega arith)
        (Growing middle next q b bytes refl refl (λ k i. escape-copied k (input_at names middle i) begins b refl kept)
        (grows-copied name (backslash ∷ b ∷ []) texts) (omega arith) (omega arith)
        (subst (λ (grown : List (List ℕ)). Turned names next bytes (at_line (matched_at last) grown)) (copied-behind_two name backslash b bytes texts)
        (copies-turned false last bytes two others)))

    doubled-turned : (begins : Bool) (texts : List (List ℕ))
        → Turned names (at_line (matched_at begins) texts) (backslash ∷ backslash ∷ []) (at_line None (texts_copied name (backslash ∷ []) texts))
    doubled-turned begins texts =
        let p : Stage = at_line (matched_at begins) texts in
        let middle : Stage = stage_with (defining (matched_at begins)) (Backslash ∷ []) a texts in
        let q : Stage = at_line None (texts_copied name (backslash ∷ []) texts) in
        Onward p middle q backslash (backslash ∷ []) refl refl (λ k i. backslash-copied k (input_at names p i) (matched_at begins) refl) refl (omega arith) (omega arith)
        (Growing middle q q backslash [] refl refl (λ k i. doubled-copied k (input_at names middle i) begins refl)
        (grows-copied name (backslash ∷ []) texts) (omega arith) (omega arith) (Here q))

    -- and so do two backslashes behind them
    pub copies_to-turned : (begins last : Bool) (text count : ℕ) (bytes : List ℕ) (texts : List (List ℕ)) → CopiesTo (second_of_mark end) begins bytes last text count
        → Turned names (at_line (matched_at begins) texts) (take count bytes) (at_line (matched_at last) (texts_copied name (take text bytes) texts))
    copies_to-turned begins _ _ _ bytes texts (AsTheyStand last count first others) = copies-turned begins last (take count bytes) texts first.copies
    copies_to-turned begins _ _ _ bytes texts (ThenDoubled last count first doubled) =
        let front : List ℕ = take count bytes in
        let two = two_in_front (drop count bytes) doubled in
        let grown : List (List ℕ) = texts_copied name front texts in
        let p : Stage = at_line (matched_at begins) texts in
        let all : take (count + 2) bytes ≡ front ++ backslash ∷ backslash ∷ [] = take-add count 2 bytes ∙ ap (λ (xs : List ℕ). front ++ xs) two.both in
        let kept : take (count + 1) bytes ≡ front ++ backslash ∷ [] = take-add count 1 bytes ∙ ap (λ (xs : List ℕ). front ++ xs) two.kept in
        subst (λ (xs : List ℕ). Turned names p xs (at_line None (texts_copied name (take (count + 1) bytes) texts))) (sym all)
        (subst (λ (xs : List ℕ). Turned names p (front ++ backslash ∷ backslash ∷ []) (at_line None (texts_copied name xs texts))) (sym kept)
        (subst (λ (new : List (List ℕ)). Turned names p (front ++ backslash ∷ backslash ∷ []) (at_line None new)) (copied-append name front (backslash ∷ []) texts)
        (Turned-append names p (at_line (matched_at last) grown) (at_line None (texts_copied name (backslash ∷ []) grown)) front (backslash ∷ backslash ∷ [])
        (copies-turned begins last front texts first.copies) (doubled-turned last grown))))
