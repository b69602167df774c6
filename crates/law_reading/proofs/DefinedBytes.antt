-- The lines of a definition, unit by unit, up to what ends them.
use Rattle.std.proofs.Common.{◌≡◌, ℕ, ◌+◌, ◌≤◌, Bool, true, false, List, ◌∷◌, ◌++◌, length, Option, Some, None, refl, ap, sym, subst, ◌∙◌, arith, append_assoc, [], All, ◌||◌, drop, set, sum_by, take, if◌then◌else◌, ◌==◌, eqb-true, ne_eqb, length-append}
use Rattle.std.proofs.Math.Seq.{drop-append_seam, get_or-append_seam, set-append_seam, take-append_seam}
use Rattle.std.proofs.lemmas.Bool.{eqb-false}
use Rattle.std.proofs.lemmas.List.Elements.{All-head, All-tail}
use Rattle.input_model.specs.Arguments.{Arguments, held}
use Rattle.input_source.specs.Bytes.{backslash, is_dropped, newline}
use Rattle.input_escapes.specs.OpenEscape.{OpenEscape, Backslash, unit_bytes}
use Rattle.input_escapes.specs.OpenEscapes.{byte_read}
use Rattle.input_model.specs.Input.Names.{calling_on}
use Rattle.input_escapes.specs.declared.open_escape.CopyUnit.{CopyUnit}
use Rattle.input_escapes.specs.declared.open_escape.CopyUnit.TheVariants.{Byte, Kept}
use Rattle.input_escapes.specs.declared.open_escape.Found.TheVariants.{GoesOn, Unit as GivesUnit}
use Rattle.input_escapes.specs.declared.open_escape.Surroundings.TheVariants.{Copy as AboveCopy}
use Rattle.roff_store.specs.Named.{Named}
use Rattle.roff_store.specs.TextCalls.{PushOpen}
use Rattle.roff_store.specs.Texts.{Entry, newest}
use Rattle.law_reading.proofs.Interpolation.{IsRead-itself}
use Rattle.run_model.proofs.ItemsTaken.{not-first, not-second}
use Rattle.run_model.proofs.PlainRuns.{Most, Onward, Path}
use Rattle.law_reading.specs.DefinitionLaws.{is_end}
use Rattle.run_model.specs.Definitions.{end_mark, front_of, line_from, line_with, matched_behind}
use Rattle.law_reading.specs.InterpolationLaws.{StandsForItself}
use Rattle.run_model.specs.Reading.{undropped_taking, byte_taking}
use Rattle.run_model.specs.Reading.DefinedLines.{definition_line, definition_unit}
use Rattle.run_model.specs.Reading.Definitions.{definition_grown}
use Rattle.run_model.specs.Reading.Found.{read_in}
use Rattle.run_model.specs.Reading.Items.{PageInput, going_on}
use Rattle.run_model.specs.Registers.{Known}
use Rattle.run_model.specs.Stages.{Stage, input_at}
use Rattle.run_model.specs.declared.definition.DefinitionLine.TheVariants.{IsLast, IsText, MayBeLast}
use Rattle.run_model.specs.declared.line_state.LineState.{LineState}
use Rattle.run_model.specs.declared.line_state.LineState.TheVariants.{Collecting}
use Rattle.run_model.specs.declared.purpose.Purpose.TheVariants.{Defining}
use Rattle.roff_num.specs.declared.short_name.ShortName.{ShortName}

-- a definition: what it defines and how, what ends it, and the texts in the making, of which its own is the last
pub record Definition : Type 0 where
  pub name : Option ShortName
  pub appends : Bool
  pub end : Option ShortName
  pub before : List (List ℕ)
  pub others : List (List ℕ)

-- the texts in the making, where this is its own so far; one without a name has none
abbrev pub making : Option ShortName → List (List ℕ) → List (List ℕ) → List ℕ → List (List ℕ)
making None before others text = others
making (Some name) before others text = before ++ text ∷ []

-- where so many bytes of its mark stand in front of its line, if that may be the last one
abbrev pub defining : Definition → Arguments → List ℕ → Option ℕ → Stage
defining d a text matched =
    record { reading = Collecting (Defining d.name d.appends d.end matched); escapes = []; arguments = a; texts = making d.name d.before d.others text }

-- the newest of some texts is the last
pub newest-last : (before : List (List ℕ)) (text : List ℕ) → newest (before ++ text ∷ []) ≡ Some (length before)
newest-last [] text = refl
newest-last (first ∷ before) text =
    let all : length (before ++ text ∷ []) ≡ length (first ∷ before) = omega (arith, length-append before (text ∷ [])) in
    ap (λ (n : ℕ). Some n) all

-- its text grows
pub grown-by : (name : Option ShortName) (before others : List (List ℕ)) (text bytes : List ℕ) (i : PageInput)
    → definition_grown name bytes (record i { open_texts = making name before others text }) ≡ record i { open_texts = making name before others (text ++ bytes) }
grown-by None before others text bytes i = refl
grown-by (Some name) before others text bytes i =
    let texts : List (List ℕ) = before ++ text ∷ [] in
    ap (λ (id : Option ℕ). calling_on (λ n. PushOpen n bytes) id (record i { open_texts = texts })) (newest-last before text)
    ∙ ap (λ (own : List ℕ). record i { open_texts = set texts (length before) (own ++ bytes) }) (get_or-append_seam before text [] [])
    ∙ ap (λ (all : List (List ℕ)). record i { open_texts = all }) (set-append_seam before text [] (text ++ bytes))

-- where a backslash was read of it
abbrev escaping : Definition → Arguments → List ℕ → Option ℕ → Stage
escaping d a text matched = record (defining d a text matched) { escapes = Backslash ∷ [] }

-- a unit of its text is copied
abbrev pub Copies : Named Entry → Definition → Arguments → CopyUnit → List ℕ → Option ℕ → List ℕ → Option ℕ → Type 0
Copies names d a unit text matched there m =
    (k : Known) (i : PageInput) → definition_line k (input_at names (defining d a text matched) i) d.name d.appends d.end matched unit
    ≡ going_on (input_at names (defining d a there m) i) (Collecting (Defining d.name d.appends d.end m))

-- one behind which the line isn't the last one
pub copies-text : (names : Named Entry) (d : Definition) (a : Arguments) (unit : CopyUnit) (text front : List ℕ) (matched : Option ℕ)
    → front_of (end_mark d.end) matched ≡ front → line_from (end_mark d.end) matched unit ≡ IsText
    → Copies names d a unit text matched (text ++ (front ++ unit_bytes unit)) (matched_behind unit)
copies-text names d a unit text front matched is_front is_text k i =
    let here : PageInput = input_at names (defining d a text matched) i in
    ap (definition_unit k here d.name d.appends d.end (front_of (end_mark d.end) matched) unit) is_text
    ∙ ap (λ (f : List ℕ). going_on (definition_grown d.name (f ++ unit_bytes unit) here) (Collecting (Defining d.name d.appends d.end (matched_behind unit)))) is_front
    ∙ ap (λ (j : PageInput). going_on j (Collecting (Defining d.name d.appends d.end (matched_behind unit))))
    (grown-by d.name d.before d.others text (front ++ unit_bytes unit) here)

-- one behind which it still may be
pub copies-mark : (names : Named Entry) (d : Definition) (a : Arguments) (unit : CopyUnit) (text : List ℕ) (matched m : ℕ)
    → line_from (end_mark d.end) (Some matched) unit ≡ MayBeLast m → Copies names d a unit text (Some matched) text (Some m)
copies-mark names d a unit text matched m may k i =
    ap (definition_unit k (input_at names (defining d a text (Some matched)) i) d.name d.appends d.end (front_of (end_mark d.end) (Some matched)) unit) may

-- a byte that gives a unit, where this is half read
pub reads-unit : (names : Named Entry) (d : Definition) (a : Arguments) (text : List ℕ) (matched : Option ℕ) (half : List OpenEscape) (unit : CopyUnit) (b : ℕ) (k : Known) (i : PageInput)
    → is_dropped b ≡ false → byte_read AboveCopy half b ≡ (GivesUnit unit, [])
    → byte_taking k (Collecting (Defining d.name d.appends d.end matched)) (record (input_at names (defining d a text matched) i) { escapes = half }) b
    ≡ definition_line k (input_at names (defining d a text matched) i) d.name d.appends d.end matched unit
reads-unit names d a text matched half unit b k i is_kept reads =
    let reading : LineState = Collecting (Defining d.name d.appends d.end matched) in
    let here : PageInput = record (input_at names (defining d a text matched) i) { escapes = half } in
    ap (λ (c : Bool). if c then going_on here reading else undropped_taking k reading here b) is_kept
    ∙ ap (read_in k (Collecting (Defining d.name d.appends d.end matched)) here) reads

-- a byte that is no backslash gives itself
pub reads-itself : (b : ℕ) → (b == backslash) ≡ false → byte_read AboveCopy [] b ≡ (GivesUnit (Byte b), [])
reads-itself b plain = ap (λ (c : Bool). if c then (GoesOn, Backslash ∷ []) else (GivesUnit (Byte b), [])) plain

-- the bytes that give a unit: a byte that stands for itself, or a backslash and the byte behind it
pub data Writes : CopyUnit → List ℕ → Type 0 where
  AsItself : (b : ℕ) → StandsForItself b → Writes (Byte b) (b ∷ [])
  Escaped : (unit : CopyUnit) (b : ℕ) → is_dropped b ≡ false → byte_read AboveCopy (Backslash ∷ []) b ≡ (GivesUnit unit, []) → Writes unit (backslash ∷ b ∷ [])

-- as much may be held as texts of so many bytes make of it
pub record Allows (most : Most) (d : Definition) (a : Arguments) (bound : ℕ) : Type 0 where
  pub held_few : held a ≤ most.held
  pub stored_few : (text : List ℕ) → length text ≤ bound → sum_by length (making d.name d.before d.others text) ≤ most.stored
  pub texts_few : (text : List ℕ) → length (making d.name d.before d.others text) ≤ most.texts

-- a byte that gives a unit, and others behind it
onward : (most : Most) (names : Named Entry) (d : Definition) (a : Arguments) (bound : ℕ) (text there : List ℕ) (matched m : Option ℕ) (b : ℕ) (bytes : List ℕ) (r : Stage)
    → Allows most d a bound → length there ≤ bound → (b == backslash) ≡ false → is_dropped b ≡ false → Copies names d a (Byte b) text matched there m
    → Path most names (defining d a there m) bytes r → Path most names (defining d a text matched) (b ∷ bytes) r
onward most names d a bound text there matched m b bytes r allows small plain is_kept copies path =
    Onward (defining d a text matched) (defining d a there m) r b bytes refl refl
    (λ k i. reads-unit names d a text matched [] (Byte b) b k i is_kept (reads-itself b plain) ∙ copies k i)
    (record { none_half = refl; held_few = allows.held_few; stored_few = allows.stored_few there small; texts_few = allows.texts_few there }) (omega arith) path

-- what is known of a byte that stands for itself
pub no_backslash : (b : ℕ) → StandsForItself b → (b == backslash) ≡ false
no_backslash b itself = not-first (b == backslash) (is_dropped b || b == newline) itself

pub none_dropped : (b : ℕ) → StandsForItself b → is_dropped b ≡ false
none_dropped b itself = not-first (is_dropped b) (b == newline) (IsRead-itself b itself)

pub no_newline : (b : ℕ) → StandsForItself b → (b == newline) ≡ false
no_newline b itself = not-second (is_dropped b) (b == newline) (IsRead-itself b itself)

-- the bytes of a unit, and others behind them
pub onward-unit : (most : Most) (names : Named Entry) (d : Definition) (a : Arguments) (bound : ℕ) (text there : List ℕ) (matched m : Option ℕ) (unit : CopyUnit) (written bytes : List ℕ) (r : Stage)
    → Allows most d a bound → length text ≤ bound → length there ≤ bound → Writes unit written → Copies names d a unit text matched there m
    → Path most names (defining d a there m) bytes r → Path most names (defining d a text matched) (written ++ bytes) r
onward-unit most names d a bound text there matched m _ _ bytes r allows before small (AsItself b itself) copies path =
    onward most names d a bound text there matched m b bytes r allows small (no_backslash b itself) (none_dropped b itself) copies path
onward-unit most names d a bound text there matched m unit _ bytes r allows before small (Escaped _ b is_kept reads) copies path =
    Onward (defining d a text matched) (escaping d a text matched) r backslash (b ∷ bytes) refl refl (λ k i. refl)
    (record { none_half = refl; held_few = allows.held_few; stored_few = allows.stored_few text before; texts_few = allows.texts_few text }) (omega arith)
    (Onward (escaping d a text matched) (defining d a there m) r b bytes refl refl
    (λ k i. reads-unit names d a text matched (Backslash ∷ []) unit b k i is_kept reads ∙ copies k i)
    (record { none_half = refl; held_few = allows.held_few; stored_few = allows.stored_few there small; texts_few = allows.texts_few there }) (omega arith) path)

-- a unit of a line that isn't the last one
onward-text : (most : Most) (names : Named Entry) (d : Definition) (a : Arguments) (bound : ℕ) (text front : List ℕ) (matched : Option ℕ) (unit : CopyUnit) (written bytes : List ℕ) (r : Stage)
    → Allows most d a bound → length text + length front + length (unit_bytes unit) ≤ bound → Writes unit written → matched_behind unit ≡ None
    → front_of (end_mark d.end) matched ≡ front → line_from (end_mark d.end) matched unit ≡ IsText
    → Path most names (defining d a (text ++ (front ++ unit_bytes unit)) None) bytes r → Path most names (defining d a text matched) (written ++ bytes) r
onward-text most names d a bound text front matched unit written bytes r allows small writes behind is_front is_text path =
    let there : List ℕ = text ++ (front ++ unit_bytes unit) in
    onward-unit most names d a bound text there matched None unit written bytes r allows (omega (arith, small))
    (omega (arith, small, length-append text (front ++ unit_bytes unit), length-append front (unit_bytes unit))) writes
    (subst (λ (m : Option ℕ). Copies names d a unit text matched there m) behind (copies-text names d a unit text front matched is_front is_text)) path

-- a line without its newline, and what it is copied to: its units don't end it
pub data IsCopied : List ℕ → List ℕ → Type 0 where
  NoUnit : IsCopied [] []
  OneUnit : (unit : CopyUnit) (written line text : List ℕ) → Writes unit written → matched_behind unit ≡ None → IsCopied line text
      → IsCopied (written ++ line) (unit_bytes unit ++ text)

-- bytes in front of a line and of others
pub regrouped : (written line more : List ℕ) → ((written ++ line) ++ newline ∷ []) ++ more ≡ written ++ ((line ++ newline ∷ []) ++ more)
regrouped written line more =
    ap (λ (front : List ℕ). front ++ more) (append_assoc written line (newline ∷ [])) ∙ append_assoc written (line ++ newline ∷ []) more

-- the rest of such a line
path-in_text : (most : Most) (names : Named Entry) (d : Definition) (a : Arguments) (bound : ℕ) (text line copy more : List ℕ) (r : Stage)
    → Allows most d a bound → IsCopied line copy → length text + length copy + 1 ≤ bound
    → Path most names (defining d a (text ++ (copy ++ newline ∷ [])) (Some 0)) more r
    → Path most names (defining d a text None) ((line ++ newline ∷ []) ++ more) r
path-in_text most names d a bound text _ _ more r allows NoUnit small path =
    onward most names d a bound text (text ++ newline ∷ []) None (Some 0) newline more r allows (omega (arith, small, length-append text (newline ∷ []))) refl refl
    (copies-text names d a (Byte newline) text [] None refl refl) path
path-in_text most names d a bound text _ _ more r allows (OneUnit unit written line copy writes behind others) small path =
    let bytes : List ℕ = unit_bytes unit in
    let same : (text ++ bytes) ++ (copy ++ newline ∷ []) ≡ text ++ ((bytes ++ copy) ++ newline ∷ []) =
    append_assoc text bytes (copy ++ newline ∷ []) ∙ ap (λ (rest : List ℕ). text ++ rest) (sym (append_assoc bytes copy (newline ∷ []))) in
    subst (λ (all : List ℕ). Path most names (defining d a text None) all r) (sym (regrouped written line more))
    (onward-text most names d a bound text [] None unit written ((line ++ newline ∷ []) ++ more) r allows (omega (arith, small, length-append bytes copy)) writes behind refl refl
    (path-in_text most names d a bound (text ++ bytes) line copy more r allows others (omega (arith, small, length-append bytes copy, length-append text bytes))
    (subst (λ (all : List ℕ). Path most names (defining d a all (Some 0)) more r) (sym same) path)))

-- where a part of the mark stands in front, the rest of it is what the line is compared with
pub line_from-part : (mark done todo : List ℕ) (unit : CopyUnit) → mark ≡ done ++ todo → line_from mark (Some (length done)) unit ≡ line_with todo (length done) (unit_bytes unit)
line_from-part mark done todo unit is =
    ap (λ (rest : List ℕ). line_with rest (length done) (unit_bytes unit)) (ap (λ (all : List ℕ). drop (length done) all) is ∙ drop-append_seam done todo)

pub front_of-part : (mark done todo : List ℕ) → mark ≡ done ++ todo → front_of mark (Some (length done)) ≡ done
front_of-part mark done todo is = ap (λ (all : List ℕ). take (length done) all) is ∙ take-append_seam done todo

-- a unit that isn't the next one of the mark, and the rest of the line
onward-other : (most : Most) (names : Named Entry) (d : Definition) (a : Arguments) (bound : ℕ) (text done todo : List ℕ) (unit : CopyUnit) (written line copy more : List ℕ) (r : Stage)
    → Allows most d a bound → Writes unit written → matched_behind unit ≡ None → IsCopied line copy → length text + length done + length (unit_bytes unit ++ copy) + 1 ≤ bound
    → end_mark d.end ≡ done ++ todo → line_with todo (length done) (unit_bytes unit) ≡ IsText
    → Path most names (defining d a (text ++ (done ++ ((unit_bytes unit ++ copy) ++ newline ∷ []))) (Some 0)) more r
    → Path most names (defining d a text (Some (length done))) (((written ++ line) ++ newline ∷ []) ++ more) r
onward-other most names d a bound text done todo unit written line copy more r allows writes behind others small is is_text path =
    let bytes : List ℕ = unit_bytes unit in
    let there : List ℕ = text ++ (done ++ bytes) in
    let same : there ++ (copy ++ newline ∷ []) ≡ text ++ (done ++ ((bytes ++ copy) ++ newline ∷ [])) =
    append_assoc text (done ++ bytes) (copy ++ newline ∷ [])
    ∙ ap (λ (rest : List ℕ). text ++ rest)
    (append_assoc done bytes (copy ++ newline ∷ []) ∙ ap (λ (rest : List ℕ). done ++ rest) (sym (append_assoc bytes copy (newline ∷ [])))) in
    subst (λ (all : List ℕ). Path most names (defining d a text (Some (length done))) all r) (sym (regrouped written line more))
    (onward-text most names d a bound text done (Some (length done)) unit written ((line ++ newline ∷ []) ++ more) r allows (omega (arith, small, length-append bytes copy)) writes behind
    (front_of-part (end_mark d.end) done todo is) (line_from-part (end_mark d.end) done todo unit is ∙ is_text)
    (path-in_text most names d a bound there line copy more r allows others
    (omega (arith, small, length-append bytes copy, length-append text (done ++ bytes), length-append done bytes))
    (subst (λ (all : List ℕ). Path most names (defining d a all (Some 0)) more r) (sym same) path)))

-- the next byte of the mark
pub onward-mark : (most : Most) (names : Named Entry) (d : Definition) (a : Arguments) (bound : ℕ) (text done todo : List ℕ) (b c : ℕ) (written bytes : List ℕ) (r : Stage)
    → Allows most d a bound → Writes (Byte b) written → length text ≤ bound → end_mark d.end ≡ done ++ c ∷ todo → (b == c) ≡ true
    → Path most names (defining d a text (Some (length done + 1))) bytes r → Path most names (defining d a text (Some (length done))) (written ++ bytes) r
onward-mark most names d a bound text done todo b c written bytes r allows writes small is same path =
    onward-unit most names d a bound text text (Some (length done)) (Some (length done + 1)) (Byte b) written bytes r allows small small writes
    (copies-mark names d a (Byte b) text (length done) (length done + 1)
    (line_from-part (end_mark d.end) done (c ∷ todo) (Byte b) is ∙ ap (λ (x : Bool). if x then MayBeLast (length done + 1) else IsText) same))
    path

-- a line that doesn't end the definition, behind a part of the mark: by whether its next byte is the mark's
path-compared : (most : Most) (names : Named Entry) (d : Definition) (a : Arguments) (bound : ℕ) (text done todo : List ℕ) (b c : ℕ) (written line copy more : List ℕ) (r : Stage) (is_same : Bool)
    → (b == c) ≡ is_same → Allows most d a bound → Writes (Byte b) written → matched_behind (Byte b) ≡ None → IsCopied line copy
    → length text + length done + length (b ∷ copy) + 1 ≤ bound → end_mark d.end ≡ done ++ c ∷ todo
    → Path most names (defining d a (text ++ (done ++ (b ∷ copy ++ newline ∷ []))) (Some 0)) more r
    → (is_same ≡ true → Path most names (defining d a text (Some (length done + 1))) ((line ++ newline ∷ []) ++ more) r)
    → Path most names (defining d a text (Some (length done))) (((written ++ line) ++ newline ∷ []) ++ more) r
path-compared most names d a bound text done todo b c written line copy more r true same allows writes behind others small is path next =
    subst (λ (all : List ℕ). Path most names (defining d a text (Some (length done))) all r) (sym (regrouped written line more))
    (onward-mark most names d a bound text done todo b c written ((line ++ newline ∷ []) ++ more) r allows writes (omega (arith, small)) is same (next refl))
path-compared most names d a bound text done todo b c written line copy more r false same allows writes behind others small is path next =
    onward-other most names d a bound text done (c ∷ todo) (Byte b) written line copy more r allows writes behind others small is
    (ap (λ (x : Bool). if x then MayBeLast (length done + 1) else IsText) same) path

-- behind the whole mark a unit goes on with the line if its first byte does
pub goes_on-unit : (unit : CopyUnit) (matched : ℕ) (copy : List ℕ) → is_end [] (unit_bytes unit ++ copy) ≡ false → line_with [] matched (unit_bytes unit) ≡ IsText
goes_on-unit (Byte b) matched copy goes_on = ap (λ (x : Bool). if x then IsLast b else IsText) goes_on
goes_on-unit (Kept b) matched copy goes_on = refl

-- bytes that are equal the other way
pub other_way : (b c : ℕ) → (c == b) ≡ false → (b == c) ≡ false
other_way b c is = ne_eqb b c (λ same. eqb-false c b is (sym same))

-- a line that doesn't end the definition
pub path-line : (most : Most) (names : Named Entry) (d : Definition) (a : Arguments) (bound : ℕ) (text done todo line copy more : List ℕ) (r : Stage)
    → Allows most d a bound → All StandsForItself todo → IsCopied line copy → length text + length done + length copy + 1 ≤ bound
    → end_mark d.end ≡ done ++ todo → is_end todo copy ≡ false
    → Path most names (defining d a (text ++ (done ++ (copy ++ newline ∷ []))) (Some 0)) more r
    → Path most names (defining d a text (Some (length done))) ((line ++ newline ∷ []) ++ more) r
path-line most names d a bound text done [] _ _ more r allows mark NoUnit small is goes_on path = absurd (cc)
path-line most names d a bound text done [] _ _ more r allows mark (OneUnit unit written line copy writes behind others) small is goes_on path =
    onward-other most names d a bound text done [] unit written line copy more r allows writes behind others small is (goes_on-unit unit (length done) copy goes_on) path
path-line most names d a bound text done (c ∷ todo) _ _ more r allows mark NoUnit small is goes_on path =
    let other : (newline == c) ≡ false = other_way newline c (no_newline c (All-head StandsForItself c todo mark)) in
    onward most names d a bound text (text ++ (done ++ newline ∷ [])) (Some (length done)) (Some 0) newline more r allows
    (omega (arith, small, length-append text (done ++ newline ∷ []), length-append done (newline ∷ []))) refl refl
    (copies-text names d a (Byte newline) text done (Some (length done)) (front_of-part (end_mark d.end) done (c ∷ todo) is)
    (line_from-part (end_mark d.end) done (c ∷ todo) (Byte newline) is ∙ ap (λ (x : Bool). if x then MayBeLast (length done + 1) else IsText) other))
    path
path-line most names d a bound text done (c ∷ todo) _ _ more r allows mark (OneUnit (Kept b) written line copy writes behind others) small is goes_on path =
    let other : (backslash == c) ≡ false = other_way backslash c (no_backslash c (All-head StandsForItself c todo mark)) in
    onward-other most names d a bound text done (c ∷ todo) (Kept b) written line copy more r allows writes behind others small is
    (ap (λ (x : Bool). if x then line_with todo (length done + 1) (b ∷ []) else IsText) other) path
path-line most names d a bound text done (c ∷ todo) _ _ more r allows mark (OneUnit (Byte b) written line copy writes behind others) small is goes_on path =
    path-compared most names d a bound text done todo b c written line copy more r (b == c) refl allows writes behind others small is path
    (λ same.
    let next : List ℕ = done ++ c ∷ [] in
    let as_long : length next ≡ length done + 1 = omega (arith, length-append done (c ∷ [])) in
    let goes : is_end todo copy ≡ false = ap (λ (x : Bool). if x then is_end todo copy else false) (sym same) ∙ goes_on in
    let all : text ++ (next ++ (copy ++ newline ∷ [])) ≡ text ++ (done ++ (b ∷ copy ++ newline ∷ [])) =
    ap (λ (rest : List ℕ). text ++ rest)
    (append_assoc done (c ∷ []) (copy ++ newline ∷ []) ∙ ap (λ (e : ℕ). done ++ (e ∷ copy ++ newline ∷ [])) (sym (eqb-true b c same))) in
    subst (λ (m : ℕ). Path most names (defining d a text (Some m)) ((line ++ newline ∷ []) ++ more) r) as_long
    (path-line most names d a bound text next todo line copy more r allows (All-tail StandsForItself c todo mark) others
    (omega (arith, small, as_long)) (is ∙ sym (append_assoc done (c ∷ []) todo)) goes
    (subst (λ (t : List ℕ). Path most names (defining d a t (Some 0)) more r) (sym all) path)))
