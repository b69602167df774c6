-- The line that ends a definition begins with its mark as it is copied, and the byte behind that ends the text.
use Rattle.std.proofs.Common.{◌≡◌, ℕ, ◌+◌, ◌≤◌, Bool, true, false, List, [], ◌∷◌, ◌++◌, length, Option, Some, None, refl, ap, sym, subst, ◌∙◌, append_assoc, All, if◌then◌else◌, ◌==◌, append-nil, length-append}
use Rattle.std.proofs.Math.Seq.{drop-length}
use Rattle.std.proofs.lemmas.Bool.{eqb-false}
use Rattle.std.proofs.lemmas.List.Elements.{All-head, All-tail}
use Rattle.input_model.specs.Arguments.{Arguments}
use Rattle.input_source.specs.Bytes.{backslash, is_dropped}
use Rattle.input_escapes.specs.EscapeLaws.{copied}
use Rattle.input_escapes.specs.OpenEscape.{OpenEscape}
use Rattle.input_escapes.specs.declared.open_escape.CopyUnit.TheVariants.{Byte, Kept}
use Rattle.roff_store.specs.Named.{Named}
use Rattle.roff_store.specs.Texts.{Entry}
use Rattle.law_escapes.proofs.CopiedParts.{copied-behind, copied-part, part-of_line}
use Rattle.law_escapes.proofs.PartRuns.{NoPart, OnBytes, OnText, PartsPath}
use Rattle.law_escapes.proofs.ReadTexts.{ByName}
use Rattle.law_escapes.proofs.Ways.{way}
use Rattle.law_escapes.specs.Parts.{AreParts, Escape, IsCopiedPart, MayHave, MayMeasure, MayRead, MayWrite, Part, known_behind_part, rewritten}
use Rattle.law_escapes.specs.TextsInDefinitions.{ABlank, ATab, MayFollow, TheNewline, behind_mark}
use Rattle.law_reading.proofs.DefinedBytes.{Allows, Definition, IsCopied, NoUnit, OneUnit, defining, making, no_backslash, onward-mark, reads-itself, reads-unit}
use Rattle.law_reading.proofs.DefinitionLaws.{entered-by, entered_by}
use Rattle.law_reading.specs.InterpolationLaws.{StandsForItself, text_named}
use Rattle.run_model.proofs.ItemsTaken.{Origin, ahead_at, tape_at}
use Rattle.run_model.proofs.PlainRuns.{Here, Most, Path, behind_byte, behind_bytes, counted, counted-last, run_at}
use Rattle.run_model.specs.Definitions.{end_mark, ends_mark, front_of, line_from, line_with}
use Rattle.run_model.specs.Output.{PageHistory}
use Rattle.run_model.specs.Reading.{byte_taking}
use Rattle.run_model.specs.Reading.DefinedLines.{behind_definition, definition_unit}
use Rattle.run_model.specs.Reading.Items.{PageInput, Taking}
use Rattle.run_model.specs.Registers.{AllRegisters, Known}
use Rattle.run_model.specs.Run.{State, byte_taken, known, known_at, taken_as}
use Rattle.run_model.specs.Stages.{Stage, input_at}
use Rattle.run_model.specs.declared.definition.DefinitionLine.TheVariants.{IsLast, IsText}
use Rattle.run_model.specs.declared.line_state.LineState.TheVariants.{Collecting}
use Rattle.run_model.specs.declared.purpose.Purpose.TheVariants.{Defining}
use Rattle.roff_num.specs.declared.short_name.ShortName.{ShortName}

same_byte : (c : ℕ) (is : Bool) → (c == c) ≡ is → is ≡ true
same_byte c true is = refl
same_byte c false is = absurd (eqb-false c c is refl)

-- bytes that are copied as the next ones of the mark, and more of it to come
path-copied_mark : (most : Most) (names : Named Entry) (d : Definition) (a : Arguments) (bound : ℕ) (text done todo line copy : List ℕ) → Allows most d a bound → length text ≤ bound
    → IsCopied line copy → All StandsForItself (copy ++ todo) → end_mark d.end ≡ done ++ (copy ++ todo)
    → Path most names (defining d a text (Some (length done))) line (defining d a text (Some (length (done ++ copy)))) × All StandsForItself todo
path-copied_mark most names d a bound text done todo _ _ allows small NoUnit mark is = (
  subst (λ (all : List ℕ). Path most names (defining d a text (Some (length done))) [] (defining d a text (Some (length all)))) (sym (append-nil done)) (Here (defining d a text (Some (length done)))),
  mark,
)
path-copied_mark most names d a bound text done todo _ _ allows small (OneUnit (Kept b) written line copy writes behind others) mark is =
    let none : true ≡ false = no_backslash backslash (All-head StandsForItself backslash (b ∷ copy ++ todo) mark) in absurd (cc)
path-copied_mark most names d a bound text done todo _ _ allows small (OneUnit (Byte b) written line copy writes behind others) mark is =
    let next : List ℕ = done ++ b ∷ [] in
    let as_long : length next ≡ length done + 1 = length-append done (b ∷ []) in
    let end : Stage = defining d a text (Some (length (done ++ b ∷ copy))) in
    let rest =
    path-copied_mark most names d a bound text next todo line copy allows small others (All-tail StandsForItself b (copy ++ todo) mark) (is ∙ sym (append_assoc done (b ∷ []) (copy ++ todo))) in (
      onward-mark most names d a bound text done (copy ++ todo) b b written line end allows writes small is (same_byte b (b == b) refl)
          (subst (λ (n : ℕ). Path most names (defining d a text (Some n)) line end) as_long
          (subst (λ (all : List ℕ). Path most names (defining d a text (Some (length next))) line (defining d a text (Some (length all)))) (append_assoc done (b ∷ []) copy) rest.0)),
      rest.1,
    )

-- the parts of the line, up to the mark's end
path-part_of_mark : (k : Known) (j : PageInput) (most : Most) (names : Named Entry) (d : Definition) (a : Arguments) (bound : ℕ) (text done : List ℕ) (part : Part) (parts : List Part)
    → Allows most d a bound → length text ≤ bound → MayHave false IsCopiedPart k j part → All StandsForItself (copied (rewritten k j (part ∷ parts)))
    → end_mark d.end ≡ done ++ copied (rewritten k j (part ∷ parts))
    → (let k1 : Known = known_behind_part k part in
    (next : List ℕ) → All StandsForItself (copied (rewritten k1 j parts)) → end_mark d.end ≡ next ++ copied (rewritten k1 j parts)
    → PartsPath j most names k1 (defining d a text (Some (length next))) parts (defining d a text (Some (length (end_mark d.end)))))
    → PartsPath j most names k (defining d a text (Some (length done))) (part ∷ parts) (defining d a text (Some (length (end_mark d.end))))
path-part_of_mark k j most names d a bound text done _ parts allows small (MayWrite bytes may) mark is others =
    let rest : List ℕ = copied (rewritten k j parts) in
    let same : copied (bytes ++ rewritten k j parts) ≡ copied bytes ++ rest = copied-behind bytes (rewritten k j parts) may in
    let all : end_mark d.end ≡ done ++ (copied bytes ++ rest) = is ∙ ap (λ (copy : List ℕ). done ++ copy) same in
    let next : List ℕ = done ++ copied bytes in
    let one =
    path-copied_mark most names d a bound text done rest bytes (copied bytes) allows small (copied-part bytes may) (subst (All StandsForItself) same mark) all in
    OnBytes k (defining d a text (Some (length done))) (defining d a text (Some (length next))) (defining d a text (Some (length (end_mark d.end)))) bytes parts
    (part-of_line bytes may) (way most names (defining d a text (Some (length done))) (defining d a text (Some (length next))) bytes one.0)
    (others next one.1 (all ∙ sym (append_assoc done (copied bytes) rest)))
path-part_of_mark k j most names d a bound text done _ parts allows small (MayRead purpose name bytes is_escape quiet may) mark is others =
    let part : Part = Escape purpose name bytes in
    let own : List ℕ = text_named k j purpose name in
    let behind : List ℕ = rewritten (known_behind_part k part) j parts in
    let rest : List ℕ = copied behind in
    let same : copied (own ++ behind) ≡ copied own ++ rest = copied-behind own behind may in
    let all : end_mark d.end ≡ done ++ (copied own ++ rest) = is ∙ ap (λ (copy : List ℕ). done ++ copy) same in
    let next : List ℕ = done ++ copied own in
    let texts : List (List ℕ) = making d.name d.before d.others text in
    let one =
    path-copied_mark most names d a bound text done rest own (copied own) allows small (copied-part own may) (subst (All StandsForItself) same mark) all in
    OnText k (Collecting (Defining d.name d.appends d.end (Some (length done)))) (Collecting (Defining d.name d.appends d.end (Some (length next)))) a a texts texts
    (defining d a text (Some (length (end_mark d.end)))) part parts refl (ByName purpose name bytes refl is_escape quiet)
    (way most names (defining d a text (Some (length done))) (defining d a text (Some (length next))) own one.0)
    (others next one.1 (all ∙ sym (append_assoc done (copied own) rest)))
path-part_of_mark k j most names d a bound text done _ parts allows small (MayMeasure delimiter measured measures may plain) mark is others = absurd (cc)

pub path-parts_of_mark : (j : PageInput) (most : Most) (names : Named Entry) (d : Definition) (a : Arguments) (bound : ℕ) (text : List ℕ) (k : Known) (done : List ℕ) (parts : List Part)
    → Allows most d a bound → length text ≤ bound → AreParts false IsCopiedPart k j parts → All StandsForItself (copied (rewritten k j parts)) → end_mark d.end ≡ done ++ copied (rewritten k j parts)
    → PartsPath j most names k (defining d a text (Some (length done))) parts (defining d a text (Some (length (end_mark d.end))))
path-parts_of_mark j most names d a bound text k done [] allows small may mark is =
    subst (λ (all : List ℕ). PartsPath j most names k (defining d a text (Some (length done))) [] (defining d a text (Some (length all)))) (sym (is ∙ append-nil done))
    (NoPart k (defining d a text (Some (length done))))
path-parts_of_mark j most names d a bound text k done (part ∷ parts) allows small may mark is =
    path-part_of_mark k j most names d a bound text done part parts allows small may.0 mark is
    (λ next. path-parts_of_mark j most names d a bound text (known_behind_part k part) next parts allows small may.1)

-- a byte that may stand behind the mark ends it, is kept, and begins no escape
record EndsText (b : ℕ) : Type 0 where
  pub ends : ends_mark b ≡ true
  pub is_kept : is_dropped b ≡ false
  pub plain : (b == backslash) ≡ false

ends-text : (b : ℕ) → MayFollow b → EndsText b
ends-text _ ABlank = record { ends = refl; is_kept = refl; plain = refl }
ends-text _ ATab = record { ends = refl; is_kept = refl; plain = refl }
ends-text _ TheNewline = record { ends = refl; is_kept = refl; plain = refl }

line_from-end : (mark : List ℕ) (b : ℕ) → ends_mark b ≡ true → line_from mark (Some (length mark)) (Byte b) ≡ IsLast b
line_from-end mark b ends =
    ap (λ (rest : List ℕ). line_with rest (length mark) (b ∷ [])) (drop-length mark) ∙ ap (λ (x : Bool). if x then IsLast b else IsText) ends

ends-line : (names : Named Entry) (d : Definition) (a : Arguments) (text : List ℕ) (b : ℕ) (k : Known) (i : PageInput) → MayFollow b
    → let n : ℕ = length (end_mark d.end) in
    byte_taking k (Collecting (Defining d.name d.appends d.end (Some n))) (input_at names (defining d a text (Some n)) i) b
    ≡ behind_definition k (entered_by d.name d.appends text d.before (record i { escapes = []; arguments = a; names = names; open_texts = d.others })) d.end b
ends-line names d a text b k i follows =
    let n : ℕ = length (end_mark d.end) in
    let here : PageInput = input_at names (defining d a text (Some n)) i in
    let is : EndsText b = ends-text b follows in
    reads-unit names d a text (Some n) [] (Byte b) b k i is.is_kept (reads-itself b is.plain)
    ∙ ap (definition_unit k here d.name d.appends d.end (front_of (end_mark d.end) (Some n)) (Byte b)) (line_from-end (end_mark d.end) b is.ends)
    ∙ ap (λ (j : PageInput). behind_definition k j d.end b) (entered-by d.name d.appends d.before d.others text here)

-- a run behind the byte behind the mark
abbrev pub ended_from : State → Origin → List ℕ → Definition → List ℕ → ℕ → State
ended_from s from bytes d text b =
    behind_mark d.end b (record s { tape = tape_at from [] s.tape; input = entered_by d.name d.appends text d.before (counted from bytes s.input) })

-- what is known is known there too
known-entered_by : (h : PageHistory) (registers : AllRegisters) (name : Option ShortName) (appends : Bool) (text : List ℕ) (before : List (List ℕ)) (i : PageInput)
    → known_at h registers (entered_by name appends text before i) ≡ known_at h registers i
known-entered_by h registers None appends text before i = refl
known-entered_by h registers (Some name) appends text before i = refl

pub mark-ends : (s : State) (from : Origin) (front : List ℕ) (d : Definition) (text : List ℕ) (b : ℕ) → MayFollow b → s.input.escapes ≡ [] → d.others ≡ s.input.open_texts
    → byte_taken b (run_at s s.input.names (defining d s.input.arguments text (Some (length (end_mark d.end)))) from [] (behind_byte from b (behind_bytes from front s.input)))
    ≡ ended_from s from (front ++ b ∷ []) d text b
mark-ends s from front d text b ends half others =
    let q : Stage = defining d s.input.arguments text (Some (length (end_mark d.end))) in
    let i : PageInput = behind_byte from b (behind_bytes from front s.input) in
    let u : State = run_at s s.input.names q from [] i in
    let here : PageInput = record i { ahead = ahead_at from [] } in
    let at : PageInput → List OpenEscape → List (List ℕ) → PageInput = λ j h texts.
    entered_by d.name d.appends text d.before (record j { escapes = h; arguments = s.input.arguments; names = s.input.names; open_texts = texts }) in
    let of : PageInput → List OpenEscape → List (List ℕ) → State = λ j h texts. behind_mark d.end b (record s { tape = tape_at from [] s.tape; input = at j h texts }) in
    let j : PageInput = counted from (front ++ b ∷ []) s.input in
    ap (λ (t : Taking). taken_as t u) (ends-line s.input.names d s.input.arguments text b (known u) here ends)
    ∙ ap (λ (k : Known). taken_as (behind_definition k (at here [] d.others) d.end b) u)
    (sym (known-entered_by s.history s.registers d.name d.appends text d.before (record here { escapes = []; arguments = s.input.arguments; names = s.input.names; open_texts = d.others })))
    ∙ ap (λ (k : PageInput). of k [] d.others) (counted-last from front b s.input)
    ∙ ap (λ (h : List OpenEscape). of j h d.others) (sym half)
    ∙ ap (of j s.input.escapes) others
