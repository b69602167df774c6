-- Escapes that are read as texts: names of one byte and of two, and what they ask for.
use Rattle.std.proofs.Common.{◌≡◌, ℕ, ◌+◌, ◌<◌, true, List, ◌∷◌, ◌++◌, length, Option, Some, None, refl, ap, sym, subst, ◌∙◌, arith, [], ◌||◌, ◌==◌, append-nil}
use Rattle.roff_num.specs.declared.limits.Limits.{Limits}
use Rattle.input_model.specs.Arguments.{Arguments}
use Rattle.input_source.specs.Bytes.{newline, backslash, is_dropped}
use Rattle.input_escapes.specs.EscapeLaws.{sign}
use Rattle.input_escapes.specs.declared.escapes.NameUse.{NameUse}
use Rattle.input_escapes.specs.declared.escapes.NameUse.TheVariants.{Register, Text as OfText, Argument}
use Rattle.input_escapes.specs.OpenEscapes.{byte_read, most_names}
use Rattle.input_model.specs.Input.{Ahead, pushing}
use Rattle.input_escapes.specs.OpenEscape.{OpenEscape, Backslash, Name, names_in}
use Rattle.input_escapes.specs.declared.open_escape.NamePart.TheVariants.{Nothing}
use Rattle.input_escapes.specs.declared.open_escape.Found.TheVariants.{Asks}
use Rattle.input_escapes.specs.declared.open_escape.Surroundings.{Surroundings}
use Rattle.roff_num.specs.declared.direction.Direction.{Direction}
use Rattle.run_model.specs.declared.line_state.LineState.{LineState}
use Rattle.run_model.specs.declared.line_state.LineState.TheVariants.{LineStart, Branch, Braced, Text as InText, Control, Name as NameOf, Deciding, Skipping, Dropped, Told, Exiting, TitleFront, Title as InTitle, Collecting}
use Rattle.run_model.specs.declared.line_state.TextLine.{TextLine}
use Rattle.law_reading.proofs.Interpolation.{AtLast, Behind, IsRead, IsRead-itself, Means, ReadsEscapes, AtBeginning, AtBranch, AtBraced, OnText, OnArguments, OnCondition, OnStringName, OnCall, OnStringText, OnDefinition, OnMessage, ReadsEscapes-reads_escapes, after-escape, is-going, is_no_newline, line_behind, settled_for-settled_for, settled_input, source_behind, taking-reads}
use Rattle.run_model.proofs.ItemsTaken.{Fits-IsWithin, FromAhead, FromSource, Origin, ahead_at, going, input_of, not-first, tape_at}
use Rattle.law_reading.specs.InterpolationLaws.{IsEscapeOf, Short, Long, ShortString, LongString, OfArgument, reads_text, reads_escapes, reads_above, stepped, text_named, with_text_ahead, EscapesReadAsTexts, EscapesOfTheSourceReadAsTexts, EscapesOfTextReadAsTexts}
use Rattle.run_model.specs.ItemsTaken.{TakesItems}
use Rattle.run_model.specs.Within.{IsWithin}
use Rattle.run_model.specs.Reading.{byte_taking}
use Rattle.run_model.specs.Reading.Units.{interrupted, settled_for}
use Rattle.run_model.specs.Reading.Beginnings.{first_name}
use Rattle.run_model.specs.Reading.Escapes.{asking}
use Rattle.run_model.specs.Reading.Found.{place_in, read_in}
use Rattle.run_model.specs.Reading.Items.{PageInput, Taking}
use Rattle.run_model.specs.Reading.TextLines.{name_taking}
use Rattle.run_model.specs.Registers.{Known, text_of_register}
use Rattle.run_model.specs.PageEvents.{PageEvent}
use Rattle.run_model.specs.Run.{State, known, taken_as, step, after}
use Rattle.law_reading.proofs.NamesAsked.{AsksAtLast, asks-argument, asks-opened, byte_read-argument, byte_read-backslash, byte_read-opening, byte_read-short, byte_read-string, finds-signed, finds-string, goes_on-names}

-- what is read as a text: a register, a string or an argument
pub data Interpolates : NameUse → Type 0 where
  ARegister : (step : Option Direction) → Interpolates (Register step)
  AString : Interpolates OfText
  AnArgument : Interpolates Argument

-- in text too
name_taking-Interpolates : (k : Known) (i : PageInput) (reading : LineState) (line : TextLine) (purpose : NameUse) (name : Option (List ℕ)) → Interpolates purpose
    → name_taking k i reading line purpose name ≡ asking k i reading purpose name
name_taking-Interpolates k i reading line _ name (ARegister step) = refl
name_taking-Interpolates k i reading line _ name AString = refl
name_taking-Interpolates k i reading line _ name AnArgument = refl

-- and where a line begins
first_name-Interpolates : (k : Known) (i : PageInput) (reading : LineState) (purpose : NameUse) (name : Option (List ℕ)) → Interpolates purpose
    → first_name k i reading purpose name ≡ asking k i reading purpose name
first_name-Interpolates k i reading _ name (ARegister step) = refl
first_name-Interpolates k i reading _ name AString = refl
first_name-Interpolates k i reading _ name AnArgument = refl

-- such a text is asked for
pub read_in-asks : (k : Known) (reading : LineState) (i : PageInput) (half : List OpenEscape) (asks : NameUse) (name : Option (List ℕ))
    → Interpolates asks → ReadsEscapes reading
    → read_in k reading i (Asks asks name, half) ≡ asking k (settled_input reading half i) reading asks name
read_in-asks k _ i half asks name of AtBeginning = first_name-Interpolates k (record i { escapes = half }) LineStart asks name of
read_in-asks k _ i half asks name of AtBranch = first_name-Interpolates k (record i { escapes = half }) Branch asks name of
read_in-asks k _ i half asks name of AtBraced = first_name-Interpolates k (record i { escapes = half }) Braced asks name of
read_in-asks k _ i half asks name of (OnText line) = name_taking-Interpolates k (record i { escapes = half }) (InText line) line asks name of
read_in-asks k _ i half asks name of (OnArguments breaks request) = refl
read_in-asks k _ i half asks name of (OnCondition keeps) = refl
read_in-asks k _ i half asks name of (OnStringName appends) = refl
read_in-asks k _ i half asks name of (OnCall string) = refl
read_in-asks k _ i half asks name of (OnStringText string appends is_front) = refl
read_in-asks k _ i half asks name of (OnDefinition string appends end matched) = refl
read_in-asks k _ i half asks name of (OnMessage aborts is_front) = refl

-- a byte that asks for it
taking-asks : (k : Known) (reading : LineState) (i : PageInput) (b : ℕ) (half : List OpenEscape) (asks : NameUse) (name : Option (List ℕ))
    → Interpolates asks → ReadsEscapes reading → IsRead b → byte_read (place_in k reading) i.escapes b ≡ (Asks asks name, half)
    → byte_taking k reading i b ≡ asking k (settled_input reading half i) reading asks name
taking-asks k reading i b half asks name of on read reads =
    taking-reads k reading i b on read ∙ ap (read_in k reading i) reads ∙ read_in-asks k reading i half asks name of on

-- a text was asked for in a run
abbrev pub asked : State → LineState → Origin → Arguments → List OpenEscape → ℕ → ℕ → NameUse → List ℕ → State
asked s reading from a half charge line asks name =
    let u : State = going s reading from [] a half charge line in
    record (stepped asks name u) { input = pushing (text_named (known u) u.input asks name) u.input }

-- what it means is done
pub taken_as-asking : (s : State) (reading : LineState) (from : Origin) (a : Arguments) (before half : List OpenEscape) (charge line : ℕ) (asks : NameUse) (name : List ℕ)
    → Interpolates asks
    → taken_as (asking (known s) (input_of s from [] a half charge line) reading asks (Some name)) (going s reading from [] a before charge line)
    ≡ asked s reading from a half charge line asks name
taken_as-asking s reading from a before half charge line _ name (ARegister None) =
    ap (λ (m : List ℕ). record (asked s reading from a half charge line (Register None) name) { messages = m }) (append-nil s.messages)
taken_as-asking s reading from a before half charge line _ name (ARegister (Some direction)) = refl
taken_as-asking s reading from a before half charge line _ name AString =
    ap (λ (m : List ℕ). record (asked s reading from a half charge line OfText name) { messages = m }) (append-nil s.messages)
taken_as-asking s reading from a before half charge line _ name AnArgument =
    ap (λ (m : List ℕ). record (asked s reading from a half charge line Argument name) { messages = m }) (append-nil s.messages)

-- a byte that asks for a text
means-asks : (s : State) (reading : LineState) (from : Origin) (a : Arguments) (charge line : ℕ) (asks : NameUse) (name : List ℕ)
    (behind : List OpenEscape) → Interpolates asks → ReadsEscapes reading → settled_for reading a ≡ a
    → Means s reading from a charge line (Asks asks (Some name)) behind (asked s reading from a behind charge line asks name)
means-asks s reading from a charge line asks name behind of on same half b read reads =
    let before : State = going s reading from [] a half charge line in
    let i : PageInput = input_of s from [] a behind charge line in
    ap (λ (taking : Taking). taken_as taking before) (taking-asks (known s) reading before.input b behind asks (Some name) of on read reads)
    ∙ ap (λ (there : Arguments). taken_as (asking (known s) (record i { arguments = there }) reading asks (Some name)) before) same
    ∙ taken_as-asking s reading from a half behind charge line asks name of

-- a text ahead of what is behind some bytes
abbrev pub read_from : Origin → NameUse → List ℕ → ℕ → State → State
read_from from asks name taken s = with_text_ahead asks name taken (ahead_at from []) (source_behind from s)

-- before it no quote follows the quote before
pub with_text_ahead-arguments : (asks : NameUse) (name : List ℕ) (taken : ℕ) (rest : List (Ahead PageEvent)) (s : State) → ReadsEscapes s.reading
    → with_text_ahead asks name taken rest s
    ≡ record (stepped asks name s) {
      input = pushing (text_named (known s) s.input asks name) (record s.input { ahead = rest; arguments = settled_for s.reading s.input.arguments; charge = s.input.charge + taken });
    }
with_text_ahead-arguments asks name taken rest s on = refl

-- so it is the text that was asked for
pub read_from-asked : (s : State) (reading : LineState) (from : Origin) (bytes : List ℕ) (a : Arguments) (half : List OpenEscape) (charge taken line : ℕ)
    (asks : NameUse) (name : List ℕ) → Interpolates asks → ReadsEscapes reading
    → read_from from asks name taken (going s reading from bytes a half charge line)
    ≡ asked s reading from (settled_for reading a) half (charge + taken) (line_behind from s line) asks name
read_from-asked s reading (FromAhead rest) bytes a half charge taken line _ name (ARegister None) on =
    with_text_ahead-arguments (Register None) name taken rest (going s reading (FromAhead rest) bytes a half charge line) on
read_from-asked s reading (FromAhead rest) bytes a half charge taken line _ name (ARegister (Some direction)) on =
    with_text_ahead-arguments (Register (Some direction)) name taken rest (going s reading (FromAhead rest) bytes a half charge line) on
read_from-asked s reading (FromAhead rest) bytes a half charge taken line _ name AString on =
    with_text_ahead-arguments OfText name taken rest (going s reading (FromAhead rest) bytes a half charge line) on
read_from-asked s reading (FromAhead rest) bytes a half charge taken line _ name AnArgument on =
    with_text_ahead-arguments Argument name taken rest (going s reading (FromAhead rest) bytes a half charge line) on
read_from-asked s reading (FromSource tape) bytes a half charge taken line _ name (ARegister None) on =
    with_text_ahead-arguments (Register None) name taken [] (going s reading (FromSource tape) [] a half charge (s.input.newlines + 1)) on
read_from-asked s reading (FromSource tape) bytes a half charge taken line _ name (ARegister (Some direction)) on =
    with_text_ahead-arguments (Register (Some direction)) name taken [] (going s reading (FromSource tape) [] a half charge (s.input.newlines + 1)) on
read_from-asked s reading (FromSource tape) bytes a half charge taken line _ name AString on =
    with_text_ahead-arguments OfText name taken [] (going s reading (FromSource tape) [] a half charge (s.input.newlines + 1)) on
read_from-asked s reading (FromSource tape) bytes a half charge taken line _ name AnArgument on =
    with_text_ahead-arguments Argument name taken [] (going s reading (FromSource tape) [] a half charge (s.input.newlines + 1)) on

-- its charge
pub charge-asked : (s : State) (reading : LineState) (from : Origin) (a : Arguments) (half : List OpenEscape) (charge line : ℕ) (asks : NameUse) (name : List ℕ)
    → Interpolates asks → (asked s reading from a half charge line asks name).input.charge ≡ charge
charge-asked s reading from a half charge line _ name (ARegister None) = refl
charge-asked s reading from a half charge line _ name (ARegister (Some direction)) = refl
charge-asked s reading from a half charge line _ name AString = refl
charge-asked s reading from a half charge line _ name AnArgument = refl

-- an escape is read as its text
pub escape-reads : (l : Limits) (s : State) (from : Origin) (asks : NameUse) (name bytes : List ℕ)
    → Interpolates asks → TakesItems s → ReadsEscapes s.reading → reads_above s.input.escapes ≡ true → AsksAtLast (place_in (known s) s.reading) asks name s.input.escapes (Backslash ∷ s.input.escapes) bytes
    → s.input.ahead ≡ ahead_at from (backslash ∷ bytes) → s.tape ≡ tape_at from (backslash ∷ bytes) s.tape
    → let read : State = read_from from asks name (length (backslash ∷ bytes)) s in
    IsWithin l s → IsWithin l read → after l (length (backslash ∷ bytes)) s ≡ read
escape-reads l s from asks name bytes of takes on are last ahead tape within within_read =
    let escape : List ℕ = backslash ∷ bytes in
    let reading : LineState = s.reading in
    let names : List OpenEscape = s.input.escapes in
    let a : Arguments = s.input.arguments in
    let first : State = going s reading from escape a names s.input.charge s.input.line in
    let total : ℕ = s.input.charge + length escape in
    let next : ℕ = line_behind from s s.input.line in
    let t : State = asked s reading from (settled_for reading a) names total next asks name in
    let read : State → State = read_from from asks name (length escape) in
    let begins : first ≡ s = is-going s from escape takes ahead tape in
    let is : read first ≡ t = read_from-asked s reading from escape a names s.input.charge (length escape) s.input.line asks name of on in
    let within_t : IsWithin l t = subst (IsWithin l) (ap read (sym begins) ∙ is) within_read in
    let charged : t.input.charge ≡ total = charge-asked s reading from (settled_for reading a) names total next asks name of in
    ap (after l (length escape)) (sym begins)
    ∙ after-escape l s reading from a (Asks asks (Some name)) names names bytes s.input.charge s.input.line t on (goes_on-names names are)
    (byte_read-backslash (place_in (known s) reading) names are) last (omega (arith, within_t.bytes, charged)) (Fits-IsWithin l first (subst (IsWithin l) (sym begins) within))
    (means-asks s reading from (settled_for reading a) total next asks name names of on (settled_for-settled_for reading a on)) (Fits-IsWithin l t within_t)
    ∙ sym is
    ∙ ap read begins

-- each escape
escapes_read_from : (l : Limits) (s : State) (from : Origin) (asks : NameUse) (name escape : List ℕ)
    → IsEscapeOf asks name escape → TakesItems s → reads_above s.input.escapes ≡ true → names_in s.input.escapes < most_names
    → reads_escapes s.reading ≡ true → s.input.ahead ≡ ahead_at from escape → s.tape ≡ tape_at from escape s.tape
    → let read : State = read_from from asks name (length escape) s in
    IsWithin l s → IsWithin l read → after l (length escape) s ≡ read
escapes_read_from l s from _ _ _ (Short step x may plain) takes are few reads ahead tape =
    let on : ReadsEscapes s.reading = ReadsEscapes-reads_escapes s.reading reads in
    let base : Surroundings = place_in (known s) s.reading in
    escape-reads l s from (Register step) (x ∷ []) (110 ∷ sign step ++ x ∷ []) (ARegister step) takes on are
    (finds-signed base (Asks (Register step) (Some (x ∷ []))) s.input.escapes step (x ∷ []) s.input.escapes few
    (AtLast (Name (Register step) Nothing ∷ s.input.escapes) x (IsRead-itself x may) (is_no_newline x may) (byte_read-short base step x s.input.escapes are plain))) ahead tape
escapes_read_from l s from _ _ _ (Long step x y first second) takes are few reads ahead tape =
    let on : ReadsEscapes s.reading = ReadsEscapes-reads_escapes s.reading reads in
    let base : Surroundings = place_in (known s) s.reading in
    escape-reads l s from (Register step) (x ∷ y ∷ []) (110 ∷ sign step ++ 40 ∷ x ∷ y ∷ []) (ARegister step) takes on are
    (finds-signed base (Asks (Register step) (Some (x ∷ y ∷ []))) s.input.escapes step (40 ∷ x ∷ y ∷ []) s.input.escapes few
    (Behind _ _ 40 (x ∷ y ∷ []) refl refl (byte_read-opening base step s.input.escapes) refl (asks-opened base (Register step) x y s.input.escapes are first second))) ahead tape
escapes_read_from l s from _ _ _ (ShortString x may no_opening) takes are few reads ahead tape =
    let on : ReadsEscapes s.reading = ReadsEscapes-reads_escapes s.reading reads in
    let base : Surroundings = place_in (known s) s.reading in
    escape-reads l s from OfText (x ∷ []) (42 ∷ x ∷ []) AString takes on are
    (finds-string base (Asks OfText (Some (x ∷ []))) s.input.escapes (x ∷ []) s.input.escapes few
    (AtLast (Name OfText Nothing ∷ s.input.escapes) x (IsRead-itself x may) (is_no_newline x may)
    (byte_read-string base x s.input.escapes are (not-first (x == backslash) (is_dropped x || x == newline) may) no_opening))) ahead tape
escapes_read_from l s from _ _ _ (LongString x y first second) takes are few reads ahead tape =
    let on : ReadsEscapes s.reading = ReadsEscapes-reads_escapes s.reading reads in
    let base : Surroundings = place_in (known s) s.reading in
    escape-reads l s from OfText (x ∷ y ∷ []) (42 ∷ 40 ∷ x ∷ y ∷ []) AString takes on are
    (finds-string base (Asks OfText (Some (x ∷ y ∷ []))) s.input.escapes (40 ∷ x ∷ y ∷ []) s.input.escapes few
    (Behind _ _ 40 (x ∷ y ∷ []) refl refl refl refl (asks-opened base OfText x y s.input.escapes are first second))) ahead tape
escapes_read_from l s from _ _ _ (OfArgument x may) takes are few reads ahead tape =
    let on : ReadsEscapes s.reading = ReadsEscapes-reads_escapes s.reading reads in
    let base : Surroundings = place_in (known s) s.reading in
    escape-reads l s from Argument (x ∷ []) (36 ∷ x ∷ []) AnArgument takes on are
    (asks-argument base (x ∷ []) (x ∷ []) s.input.escapes few
    (AtLast (Name Argument Nothing ∷ s.input.escapes) x (IsRead-itself x may) (is_no_newline x may)
    (byte_read-argument base x s.input.escapes are (not-first (x == backslash) (is_dropped x || x == newline) may)))) ahead tape

pub escapes_read_as_texts : EscapesReadAsTexts
escapes_read_as_texts l s asks name escape rest is_escape takes are few reads ahead =
    escapes_read_from l s (FromAhead rest) asks name escape is_escape takes are few reads ahead refl

pub escapes_of_the_source_read_as_texts : EscapesOfTheSourceReadAsTexts
escapes_of_the_source_read_as_texts l s asks name escape tape is_escape takes are few reads none stands =
    escapes_read_from l s (FromSource tape) asks name escape is_escape takes are few reads none stands

-- where text is read escapes are, and nothing that isn't a byte of the line changes the input
reads-text : (reading : LineState) (i : PageInput) → reads_text reading ≡ true → (interrupted reading i ≡ i) × (reads_escapes reading ≡ true)
reads-text LineStart i is = (refl, refl)
reads-text Branch i is = (refl, refl)
reads-text Braced i is = (refl, refl)
reads-text (InText line) i is = (refl, refl)
reads-text (Collecting purpose) i is = absurd (cc)
reads-text (Control breaks) i is = absurd (cc)
reads-text (NameOf breaks first) i is = absurd (cc)
reads-text (Deciding keeps) i is = absurd (cc)
reads-text (Skipping opened closed behind) i is = absurd (cc)
reads-text Dropped i is = absurd (cc)
reads-text (Told aborts) i is = absurd (cc)
reads-text Exiting i is = absurd (cc)
reads-text TitleFront i is = absurd (cc)
reads-text (InTitle delimiter) i is = absurd (cc)

pub escapes_of_text_read_as_texts : EscapesOfTextReadAsTexts
escapes_of_text_read_as_texts l s name escape rest is_escape takes reads half ahead within within_read =
    let of : PageInput → State = λ i. record s {
      input = pushing (text_of_register (known s) name) (record i { ahead = rest; charge = s.input.charge + length escape });
    } in
    let there = reads-text s.reading s.input reads in
    let is : with_text_ahead (Register None) name (length escape) rest s ≡ of s.input = ap of there.0 in
    let few : names_in s.input.escapes < most_names = rw half (omega arith) in
    escapes_read_as_texts l s (Register None) name escape rest is_escape takes (rw half refl) few there.1 ahead
    within (subst (IsWithin l) (sym is) within_read)
    ∙ is
