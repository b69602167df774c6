-- Escapes whose names are cut are read as the texts of their first byte's name, or as nothing.
use Rattle.std.proofs.Common.{◌≡◌, ℕ, ◌+◌, ◌<◌, true, false, List, [], ◌∷◌, ◌++◌, length, Some, None, refl, ap, sym, subst, ◌∙◌, arith, ◌==◌}
use Rattle.roff_num.specs.declared.direction.Direction.{Direction}
use Rattle.roff_num.specs.declared.direction.Direction.TheVariants.{Up, Down}
use Rattle.roff_num.specs.declared.limits.Limits.{Limits}
use Rattle.input_model.specs.Arguments.{Arguments}
use Rattle.input_source.specs.Bytes.{backslash, newline}
use Rattle.input_source.specs.Tape.{Answer, Tape, Ended, Ends, Gives, OneByte, front}
use Rattle.input_model.specs.Input.{Ahead, ByteAhead}
use Rattle.input_escapes.specs.EscapeLaws.{sign}
use Rattle.input_escapes.specs.OpenEscape.{OpenEscape, Backslash, Name, names_in}
use Rattle.input_escapes.specs.OpenEscapes.{byte_read, most_names, name_ended}
use Rattle.input_escapes.specs.Waiting.{ends_backslash, takes_backslash_alone}
use Rattle.input_escapes.specs.declared.escapes.NameUse.{NameUse}
use Rattle.input_escapes.specs.declared.escapes.NameUse.TheVariants.{Argument, Character, Register, Text as OfText}
use Rattle.input_escapes.specs.declared.open_escape.Found.TheVariants.{Asks, GoesOn}
use Rattle.input_escapes.specs.declared.open_escape.NamePart.{NamePart}
use Rattle.input_escapes.specs.declared.open_escape.NamePart.TheVariants.{First, Nothing, Opened}
use Rattle.input_escapes.specs.declared.open_escape.Surroundings.{Surroundings}
use Rattle.law_reading.proofs.InterpolatedNames.{Interpolates, AnArgument, ARegister, AString, asked, charge-asked, read_from, read_from-asked, read_in-asks, taken_as-asking}
use Rattle.law_reading.proofs.Interpolation.{AtLast, Behind, FindsAtLast, IsRead, IsRead-itself, Means, OnText, ReadsEscapes, ReadsEscapes-reads_escapes, after-escape, held-settled_for, is-going, is_no_newline, line_behind, none_due-reads, settled_for-settled_for, source_behind, taking-nothing}
use Rattle.law_reading.proofs.NamesAsked.{begun-names, byte_read-backslash, byte_read-n, byte_read-opened, byte_read-opening, finds-signed, finds-string, goes_on-escape, goes_on-names, name_given-names}
use Rattle.law_reading.specs.CutNames.{AtNewline, AtTheEnd, CutNamesAreTheirFirstByte, CutNamesOfTheSourceAreTheirFirstByte, CutRegister, CutString, CutsLine, IsCutEscapeOf, IsNameless, NamelessCharactersAreTold, NamelessCharactersOfTheSourceAreTold, NamelessEscapesOfTheSourceReadAsNothing, NamelessEscapesReadAsNothing, NoArgument, NoRegister, NoString, nameless_character, with_no_character, with_nothing_read}
use Rattle.law_reading.specs.InterpolationLaws.{reads_above, reads_escapes}
use Rattle.run_model.specs.Reading.Units.{settled_for}
use Rattle.run_model.proofs.ItemsTaken.{Fits, Fits-IsWithin, FromAhead, FromSource, Origin, ahead_at, going, input_of, made-Fits, step-reads, tape_at, taken_as-going_on}
use Rattle.run_model.proofs.Leads.{after-add}
use Rattle.run_model.proofs.PlainRuns.{bytes_ahead-behind, ends_ahead-behind_all}
use Rattle.run_model.specs.ItemsTaken.{TakesItems}
use Rattle.run_model.specs.Reading.Escapes.{asking}
use Rattle.run_model.specs.Reading.Found.{place_in, read_in}
use Rattle.run_model.specs.Reading.Items.{PageInput, Taking, going_on}
use Rattle.run_model.specs.Registers.{Known}
use Rattle.run_model.specs.Run.{State, after, answered, awaited_of_source, escape_ends, known, made, step, taken_as}
use Rattle.run_model.specs.Within.{IsWithin}
use Rattle.run_model.specs.PageEvents.{PageEvent}
use Rattle.run_model.specs.declared.line_state.LineState.{LineState}
use Rattle.run_model.specs.declared.line_state.LineState.TheVariants.{Text as InText}
use Rattle.run_model.specs.declared.line_state.TextLine.{TextLine}

-- what cuts bytes that come from here
data Cuts : Origin → Type 0 where
  NewlineAhead : (rest : List (Ahead PageEvent)) → Cuts (FromAhead (ByteAhead newline ∷ rest))
  NewlineBehind : (tape : Tape) → front tape ≡ Gives (OneByte newline) → Cuts (FromSource tape)
  NothingBehind : (tape : Tape) → front tape ≡ Ends Ended → Cuts (FromSource tape)

cuts-source : (tape : Tape) (answer : Answer) → front tape ≡ answer → CutsLine answer → Cuts (FromSource tape)
cuts-source tape _ is AtNewline = NewlineBehind tape is
cuts-source tape _ is AtTheEnd = NothingBehind tape is

-- a name that is half read ends there
step-cut : (l : Limits) (s : State) (reading : LineState) (from : Origin) (a : Arguments) (asks : NameUse) (part : NamePart) (names : List OpenEscape) (charge line : ℕ)
    → ReadsEscapes reading → Cuts from
    → let u : State = going s reading from [] a (Name asks part ∷ names) charge line in step l u ≡ made l u (escape_ends u)
step-cut l s reading _ a asks part names charge line on (NewlineAhead rest) =
    step-reads l (going s reading (FromAhead (ByteAhead newline ∷ rest)) [] a (Name asks part ∷ names) charge line) refl refl refl (none_due-reads reading on)
step-cut l s reading _ a asks part names charge line on (NewlineBehind tape gives) =
    let u : State = going s reading (FromSource tape) [] a (Name asks part ∷ names) charge line in
    step-reads l u refl refl refl (none_due-reads reading on) ∙ ap (λ (answer : Answer). awaited_of_source l answer u) gives
step-cut l s reading _ a asks part names charge line on (NothingBehind tape ends) =
    let u : State = going s reading (FromSource tape) [] a (Name asks part ∷ names) charge line in
    step-reads l u refl refl refl (none_due-reads reading on)
    ∙ ap (λ (answer : Answer). awaited_of_source l answer u) ends
    ∙ ap (λ (answer : Answer). answered l answer u) ends

-- its one byte asks for a text
cut-asks : (s : State) (reading : LineState) (from : Origin) (a : Arguments) (asks : NameUse) (x : ℕ) (names : List OpenEscape) (charge line : ℕ)
    → Interpolates asks → ReadsEscapes reading → reads_above names ≡ true → settled_for reading a ≡ a
    → escape_ends (going s reading from [] a (Name asks (First x) ∷ names) charge line) ≡ asked s reading from a names charge line asks (x ∷ [])
cut-asks s reading from a asks x names charge line of on are same =
    let half : List OpenEscape = Name asks (First x) ∷ names in
    let u : State = going s reading from [] a half charge line in
    ap (λ r. taken_as (read_in (known s) reading u.input r) u) (name_given-names names asks (Some (x ∷ [])) are)
    ∙ ap (λ (t : Taking). taken_as t u) (read_in-asks (known s) reading u.input names asks (Some (x ∷ [])) of on)
    ∙ ap (λ (there : Arguments). taken_as (asking (known s) (input_of s from [] there names charge line) reading asks (Some (x ∷ []))) u) same
    ∙ taken_as-asking s reading from a half names charge line asks (x ∷ []) of

-- the bytes of the escape leave it half read
means-half : (s : State) (reading : LineState) (from : Origin) (a : Arguments) (charge line : ℕ) (behind : List OpenEscape) → ReadsEscapes reading
    → settled_for reading a ≡ a → Means s reading from a charge line GoesOn behind (going s reading from [] a behind charge line)
means-half s reading from a charge line behind on same half b read reads =
    let before : State = going s reading from [] a half charge line in
    let u : State = going s reading from [] a behind charge line in
    ap (λ (t : Taking). taken_as t before) (taking-nothing (known s) reading before.input b behind on read reads)
    ∙ ap (λ (there : Arguments). taken_as (going_on (record u.input { arguments = there }) reading) before) same
    ∙ taken_as-going_on u.input reading before

-- no more is held then
fits-half : (l : Limits) (s : State) (reading : LineState) (from : Origin) (bytes : List ℕ) (a : Arguments) (asks : NameUse) (part : NamePart) (names : List OpenEscape)
    (charge total line next : ℕ) → ReadsEscapes reading → Fits l s.registers (input_of s from bytes a names charge line)
    → Fits l s.registers (input_of s from [] (settled_for reading a) (Name asks part ∷ names) total next)
fits-half l s reading from bytes a asks part names charge total line next on fits = record {
  names = fits.names;
  title = fits.title;
  stack = omega (arith, fits.stack, bytes_ahead-behind from bytes, held-settled_for reading a on);
  depth = omega (arith, fits.depth, ends_ahead-behind_all from bytes);
  store = fits.store;
  texts = fits.texts;
  making = fits.making;
  conditions = fits.conditions;
}

-- an escape whose name is cut: behind its bytes the name ends, and what that leads to is what is read
cut-reads : (l : Limits) (s : State) (from : Origin) (asks : NameUse) (part : NamePart) (bytes : List ℕ) (read : State → State) (t : State)
    → TakesItems s → ReadsEscapes s.reading → reads_above s.input.escapes ≡ true → Cuts from
    → FindsAtLast (place_in (known s) s.reading) GoesOn (Name asks part ∷ s.input.escapes) (Backslash ∷ s.input.escapes) bytes
    → let escape : List ℕ = backslash ∷ bytes in
    let a : Arguments = s.input.arguments in
    let total : ℕ = s.input.charge + length escape in
    read (going s s.reading from escape a s.input.escapes s.input.charge s.input.line) ≡ t
    → escape_ends (going s s.reading from [] (settled_for s.reading a) (Name asks part ∷ s.input.escapes) total (line_behind from s s.input.line)) ≡ t
    → t.input.charge ≡ total → s.input.ahead ≡ ahead_at from escape → s.tape ≡ tape_at from escape s.tape
    → IsWithin l s → IsWithin l (read s) → after l (length escape + 1) s ≡ read s
cut-reads l s from asks part bytes read t takes on are cut last same is charged ahead tape within within_read =
    let escape : List ℕ = backslash ∷ bytes in
    let reading : LineState = s.reading in
    let names : List OpenEscape = s.input.escapes in
    let a : Arguments = s.input.arguments in
    let half : List OpenEscape = Name asks part ∷ names in
    let first : State = going s reading from escape a names s.input.charge s.input.line in
    let total : ℕ = s.input.charge + length escape in
    let next : ℕ = line_behind from s s.input.line in
    let there : Arguments = settled_for reading a in
    let u : State = going s reading from [] there half total next in
    let begins : first ≡ s = is-going s from escape takes ahead tape in
    let fits : Fits l s.registers first.input = Fits-IsWithin l first (subst (IsWithin l) (sym begins) within) in
    let within_t : IsWithin l t = subst (IsWithin l) (ap read (sym begins) ∙ same) within_read in
    let one : after l (length escape) first ≡ u =
    after-escape l s reading from a GoesOn names half bytes s.input.charge s.input.line u on (goes_on-names names are) (byte_read-backslash (place_in (known s) reading) names are)
    last (omega (arith, within_t.bytes, charged)) fits (means-half s reading from there total next half on (settled_for-settled_for reading a on))
    (fits-half l s reading from escape a asks part names s.input.charge total s.input.line next on fits) in
    ap (after l (length escape + 1)) (sym begins)
    ∙ after-add l (length escape) 1 first
    ∙ ap (after l 1) one
    ∙ step-cut l s reading from there asks part names total next on cut
    ∙ ap (made l u) is
    ∙ made-Fits l u t (Fits-IsWithin l t within_t)
    ∙ sym same
    ∙ ap read begins

-- behind its first byte
cut-named : (l : Limits) (s : State) (from : Origin) (asks : NameUse) (x : ℕ) (bytes : List ℕ) → Interpolates asks → TakesItems s → ReadsEscapes s.reading
    → reads_above s.input.escapes ≡ true → Cuts from
    → FindsAtLast (place_in (known s) s.reading) GoesOn (Name asks (First x) ∷ s.input.escapes) (Backslash ∷ s.input.escapes) bytes
    → s.input.ahead ≡ ahead_at from (backslash ∷ bytes) → s.tape ≡ tape_at from (backslash ∷ bytes) s.tape
    → let read : State = read_from from asks (x ∷ []) (length (backslash ∷ bytes)) s in
    IsWithin l s → IsWithin l read → after l (length (backslash ∷ bytes) + 1) s ≡ read
cut-named l s from asks x bytes of takes on are cut last ahead tape =
    let escape : List ℕ = backslash ∷ bytes in
    let a : Arguments = s.input.arguments in
    let names : List OpenEscape = s.input.escapes in
    let total : ℕ = s.input.charge + length escape in
    let next : ℕ = line_behind from s s.input.line in
    let there : Arguments = settled_for s.reading a in
    cut-reads l s from asks (First x) bytes (read_from from asks (x ∷ []) (length escape)) (asked s s.reading from there names total next asks (x ∷ [])) takes on are cut last
    (read_from-asked s s.reading from escape a names s.input.charge (length escape) s.input.line asks (x ∷ []) of on)
    (cut-asks s s.reading from there asks x names total next of on are (settled_for-settled_for s.reading a on))
    (charge-asked s s.reading from there names total next asks (x ∷ []) of) ahead tape

-- each escape
cut-from : (l : Limits) (s : State) (from : Origin) (asks : NameUse) (x : ℕ) (escape : List ℕ) → IsCutEscapeOf asks x escape → TakesItems s
    → reads_above s.input.escapes ≡ true → names_in s.input.escapes < most_names → reads_escapes s.reading ≡ true → Cuts from
    → s.input.ahead ≡ ahead_at from escape → s.tape ≡ tape_at from escape s.tape
    → let read : State = read_from from asks (x ∷ []) (length escape) s in
    IsWithin l s → IsWithin l read → after l (length escape + 1) s ≡ read
cut-from l s from _ _ _ (CutRegister step x may) takes are few reads cut ahead tape =
    let names : List OpenEscape = s.input.escapes in
    let on : ReadsEscapes s.reading = ReadsEscapes-reads_escapes s.reading reads in
    let base : Surroundings = place_in (known s) s.reading in
    cut-named l s from (Register step) x (110 ∷ sign step ++ 40 ∷ x ∷ []) (ARegister step) takes on are cut
    (finds-signed base GoesOn (Name (Register step) (First x) ∷ names) step (40 ∷ x ∷ []) names few
    (Behind _ _ 40 (x ∷ []) refl refl (byte_read-opening base step names) refl
    (AtLast _ x (IsRead-itself x may) (is_no_newline x may) (byte_read-opened base (Register step) x names may)))) ahead tape
cut-from l s from _ _ _ (CutString x may) takes are few reads cut ahead tape =
    let names : List OpenEscape = s.input.escapes in
    let on : ReadsEscapes s.reading = ReadsEscapes-reads_escapes s.reading reads in
    let base : Surroundings = place_in (known s) s.reading in
    cut-named l s from OfText x (42 ∷ 40 ∷ x ∷ []) AString takes on are cut
    (finds-string base GoesOn (Name OfText (First x) ∷ names) (40 ∷ x ∷ []) names few
    (Behind _ _ 40 (x ∷ []) refl refl refl refl
    (AtLast _ x (IsRead-itself x may) (is_no_newline x may) (byte_read-opened base OfText x names may)))) ahead tape

pub cut_names_are_their_first_byte : CutNamesAreTheirFirstByte
cut_names_are_their_first_byte l s purpose x escape rest is takes are few reads ahead =
    cut-from l s (FromAhead (ByteAhead newline ∷ rest)) purpose x escape is takes are few reads (NewlineAhead rest) ahead refl

pub cut_names_of_the_source_are_their_first_byte : CutNamesOfTheSourceAreTheirFirstByte
cut_names_of_the_source_are_their_first_byte l s purpose x escape tape is takes are few reads none stands cut =
    cut-from l s (FromSource tape) purpose x escape is takes are few reads (cuts-source tape (front tape) refl cut) none stands

-- without a byte it asks for nothing
asks-nothing : (k : Known) (i : PageInput) (reading : LineState) (asks : NameUse) → Interpolates asks → asking k i reading asks None ≡ going_on i reading
asks-nothing k i reading _ (ARegister step) = refl
asks-nothing k i reading _ AString = refl
asks-nothing k i reading _ AnArgument = refl

cut-nothing : (s : State) (reading : LineState) (from : Origin) (a : Arguments) (asks : NameUse) (part : NamePart) (names : List OpenEscape) (charge line : ℕ)
    → Interpolates asks → ReadsEscapes reading → name_ended names asks part ≡ (Asks asks None, names) → settled_for reading a ≡ a
    → escape_ends (going s reading from [] a (Name asks part ∷ names) charge line) ≡ going s reading from [] a names charge line
cut-nothing s reading from a asks part names charge line of on ended same =
    let u : State = going s reading from [] a (Name asks part ∷ names) charge line in
    let v : State = going s reading from [] a names charge line in
    ap (λ r. taken_as (read_in (known s) reading u.input r) u) ended
    ∙ ap (λ (t : Taking). taken_as t u) (read_in-asks (known s) reading u.input names asks None of on)
    ∙ ap (λ (there : Arguments). taken_as (asking (known s) (input_of s from [] there names charge line) reading asks None) u) same
    ∙ ap (λ (t : Taking). taken_as t u) (asks-nothing (known s) v.input reading asks of)
    ∙ taken_as-going_on v.input reading u

-- nothing is read in its place, behind bytes from here
abbrev unread_from : Origin → ℕ → State → State
unread_from from taken s = with_nothing_read taken (ahead_at from []) (source_behind from s)

unread_from-going : (s : State) (reading : LineState) (from : Origin) (bytes : List ℕ) (a : Arguments) (names : List OpenEscape) (charge taken line : ℕ) → ReadsEscapes reading
    → unread_from from taken (going s reading from bytes a names charge line)
    ≡ going s reading from [] (settled_for reading a) names (charge + taken) (line_behind from s line)
unread_from-going s reading (FromAhead rest) bytes a names charge taken line on = refl
unread_from-going s reading (FromSource tape) bytes a names charge taken line on = refl

-- bytes behind a backslash leave the name half read of something for which nothing is read
record LeavesNameless (base : Surroundings) (names : List OpenEscape) (bytes : List ℕ) : Type 0 where
  asks : NameUse
  part : NamePart
  interpolates : Interpolates asks
  ended : name_ended names asks part ≡ (Asks asks None, names)
  last : FindsAtLast base GoesOn (Name asks part ∷ names) (Backslash ∷ names) bytes

-- `n`, `*` or `$` does, of which no name is one too many
leaves-begun : (base : Surroundings) (names : List OpenEscape) (b : ℕ) (asks : NameUse) → Interpolates asks → reads_above names ≡ true → IsRead b
    → ends_backslash (Some b) ≡ false → byte_read base (Backslash ∷ names) b ≡ (GoesOn, Name asks Nothing ∷ names) → LeavesNameless base names (b ∷ [])
leaves-begun base names b asks of are read stays begins = record {
  asks = asks;
  part = Nothing;
  interpolates = of;
  ended = name_given-names names asks None are;
  last = AtLast (Backslash ∷ names) b read (goes_on-escape (takes_backslash_alone names) b stays) begins;
}

-- and a sign behind `n`
leaves-signed : (base : Surroundings) (names : List OpenEscape) (b : ℕ) (direction : Direction) → reads_above names ≡ true → names_in names < most_names → IsRead b
    → (b == newline) ≡ false → byte_read base (Name (Register None) Nothing ∷ names) b ≡ (GoesOn, Name (Register (Some direction)) Nothing ∷ names)
    → LeavesNameless base names (110 ∷ b ∷ [])
leaves-signed base names b direction are few read stays begins = record {
  asks = Register (Some direction);
  part = Nothing;
  interpolates = ARegister (Some direction);
  ended = name_given-names names (Register (Some direction)) None are;
  last = Behind (Backslash ∷ names) (Name (Register None) Nothing ∷ names) 110 (b ∷ []) refl (goes_on-escape (takes_backslash_alone names) 110 refl)
      (byte_read-n base names few) refl (AtLast (Name (Register None) Nothing ∷ names) b read stays begins);
}

leaves-nameless : (base : Surroundings) (names : List OpenEscape) (bytes : List ℕ) → reads_above names ≡ true → names_in names < most_names → IsNameless bytes
    → LeavesNameless base names bytes
leaves-nameless base names _ are few (NoRegister None false) = leaves-begun base names 110 (Register None) (ARegister None) are refl refl (byte_read-n base names few)
leaves-nameless base names _ are few (NoRegister (Some Up) false) = leaves-signed base names 43 Up are few refl refl refl
leaves-nameless base names _ are few (NoRegister (Some Down) false) = leaves-signed base names 45 Down are few refl refl refl
leaves-nameless base names _ are few (NoRegister step true) = record {
  asks = Register step;
  part = Opened;
  interpolates = ARegister step;
  ended = name_given-names names (Register step) None are;
  last = finds-signed base GoesOn (Name (Register step) Opened ∷ names) step (40 ∷ []) names few
      (AtLast (Name (Register step) Nothing ∷ names) 40 refl refl (byte_read-opening base step names));
}
leaves-nameless base names _ are few (NoString false) = leaves-begun base names 42 OfText AString are refl refl (begun-names names OfText few)
leaves-nameless base names _ are few (NoString true) = record {
  asks = OfText;
  part = Opened;
  interpolates = AString;
  ended = name_given-names names OfText None are;
  last = finds-string base GoesOn (Name OfText Opened ∷ names) (40 ∷ []) names few (AtLast (Name OfText Nothing ∷ names) 40 refl refl refl);
}
leaves-nameless base names _ are few NoArgument = leaves-begun base names 36 Argument AnArgument are refl refl (begun-names names Argument few)

nameless-from : (l : Limits) (s : State) (from : Origin) (bytes : List ℕ) → IsNameless bytes → TakesItems s → reads_above s.input.escapes ≡ true
    → names_in s.input.escapes < most_names → reads_escapes s.reading ≡ true → Cuts from
    → let escape : List ℕ = backslash ∷ bytes in
    s.input.ahead ≡ ahead_at from escape → s.tape ≡ tape_at from escape s.tape
    → let read : State = unread_from from (length escape) s in
    IsWithin l s → IsWithin l read → after l (length escape + 1) s ≡ read
nameless-from l s from bytes is takes are few reads cut =
    let a : Arguments = s.input.arguments in
    let names : List OpenEscape = s.input.escapes in
    let escape : List ℕ = backslash ∷ bytes in
    let on : ReadsEscapes s.reading = ReadsEscapes-reads_escapes s.reading reads in
    let leaves : LeavesNameless (place_in (known s) s.reading) names bytes = leaves-nameless (place_in (known s) s.reading) names bytes are few is in
    let there : Arguments = settled_for s.reading a in
    let total : ℕ = s.input.charge + length escape in
    let next : ℕ = line_behind from s s.input.line in
    cut-reads l s from leaves.asks leaves.part bytes (unread_from from (length escape)) (going s s.reading from [] there names total next) takes on are cut leaves.last
    (unread_from-going s s.reading from escape a names s.input.charge (length escape) s.input.line on)
    (cut-nothing s s.reading from there leaves.asks leaves.part names total next leaves.interpolates on leaves.ended (settled_for-settled_for s.reading a on)) refl

pub nameless_escapes_read_as_nothing : NamelessEscapesReadAsNothing
nameless_escapes_read_as_nothing l s bytes rest is takes are few reads ahead =
    nameless-from l s (FromAhead (ByteAhead newline ∷ rest)) bytes is takes are few reads (NewlineAhead rest) ahead refl

pub nameless_escapes_of_the_source_read_as_nothing : NamelessEscapesOfTheSourceReadAsNothing
nameless_escapes_of_the_source_read_as_nothing l s bytes tape is takes are few reads none stands cut =
    nameless-from l s (FromSource tape) bytes is takes are few reads (cuts-source tape (front tape) refl cut) none stands

-- a character's, on a text line
character-from : (l : Limits) (s : State) (line : TextLine) (from : Origin) → TakesItems s → s.reading ≡ InText line → s.input.escapes ≡ [] → Cuts from
    → s.input.ahead ≡ ahead_at from nameless_character → s.tape ≡ tape_at from nameless_character s.tape
    → let read : State = with_no_character line (unread_from from 2 s) in
    IsWithin l s → IsWithin l read → after l 3 s ≡ read
character-from l s line from takes is none cut =
    let reads : ReadsEscapes s.reading = subst ReadsEscapes (sym is) (OnText line) in
    let at : LineState → List OpenEscape → List OpenEscape → State = λ r half names.
    going s r from [] (settled_for r s.input.arguments) (half ++ names) (s.input.charge + 2) (line_behind from s s.input.line) in
    let Last : LineState → List OpenEscape → Type 0 = λ r names.
    FindsAtLast (place_in (known s) r) GoesOn (Name Character Opened ∷ names) (Backslash ∷ names) (40 ∷ []) in
    let Ends : LineState → List OpenEscape → Type 0 = λ r names. escape_ends (at r (Name Character Opened ∷ []) names) ≡ with_no_character line (at r [] names) in
    cut-reads l s from Character Opened (40 ∷ []) (λ u. with_no_character line (unread_from from 2 u)) (with_no_character line (at s.reading [] s.input.escapes)) takes reads
    (ap reads_above none) cut
    (subst (λ r. Last r s.input.escapes) (sym is) (subst (Last (InText line)) (sym none) (AtLast (Backslash ∷ []) 40 refl refl refl)))
    (ap (with_no_character line) (unread_from-going s s.reading from nameless_character s.input.arguments s.input.escapes s.input.charge 2 s.input.line reads))
    (subst (λ r. Ends r s.input.escapes) (sym is) (subst (Ends (InText line)) (sym none) refl)) refl

pub nameless_characters_are_told : NamelessCharactersAreTold
nameless_characters_are_told l s line rest takes is none ahead =
    character-from l s line (FromAhead (ByteAhead newline ∷ rest)) takes is none (NewlineAhead rest) ahead refl

pub nameless_characters_of_the_source_are_told : NamelessCharactersOfTheSourceAreTold
nameless_characters_of_the_source_are_told l s line tape takes is none none_ahead stands cut =
    character-from l s line (FromSource tape) takes is none (cuts-source tape (front tape) refl cut) none_ahead stands
