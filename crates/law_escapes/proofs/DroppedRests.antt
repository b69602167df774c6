-- The rest of the line of the two dots that end a definition is dropped.
use Rattle.std.proofs.Common.{◌≡◌, ℕ, ◌+◌, ◌≤◌, Bool, false, List, [], ◌∷◌, ◌++◌, length, Some, None, refl, ap, sym, subst, ◌∙◌, arith, append_assoc, All, map, sum_by, if◌then◌else◌, ◌==◌, length-append}
use Rattle.std.proofs.lemmas.List.Elements.{All-cons, All-head, All-nil, All-tail}
use Rattle.roff_num.specs.declared.limits.Limits.{Limits}
use Rattle.roff_num.specs.declared.short_name.ShortName.{ShortName}
use Rattle.input_model.specs.Arguments.{Arguments, held}
use Rattle.input_source.specs.Bytes.{dot, is_dropped, newline}
use Rattle.input_source.specs.Tape.{OneByte, Tape, items_then}
use Rattle.input_escapes.specs.OpenEscape.{OpenEscape}
use Rattle.roff_store.specs.Named.{Named}
use Rattle.roff_store.specs.Texts.{Entry}
use Rattle.input_model.specs.Input.{Ahead, ByteAhead, bytes_ahead, ends_ahead, lines_taken}
use Rattle.input_model.specs.Input.Names.{stored}
use Rattle.law_escapes.proofs.MessageLines.{split-ahead}
use Rattle.law_escapes.proofs.PartRuns.{behind_bytes-append, bytes_ahead-front, ends_ahead-front}
use Rattle.law_escapes.proofs.ReadTexts.{charged, split-tape}
use Rattle.law_escapes.proofs.TextsInCalls.{lines_taken-charged}
use Rattle.law_escapes.proofs.TextsInDefinitions.{KnowsNext, defined-with-texts}
use Rattle.law_escapes.specs.Parts.{Part, bytes_of}
use Rattle.law_escapes.specs.TextsInCalls.{HasRoomForTexts}
use Rattle.law_escapes.specs.TextsInDefinitions.{AreCopiedMark, AreTextLines, IsBehindMark, Nothing, Rest, TheNewline, RestsBehindTwoDotsAreDropped, RestsOfTheSourceBehindTwoDotsAreDropped, all_read, behind_mark, cost_of_all, known_behind_lines, lines_rewritten, lines_then, registers_behind_all, with_newline}
use Rattle.law_reading.proofs.CalledArguments.{going_on-if, same-if}
use Rattle.law_reading.proofs.LineNames.{Allows, onward}
use Rattle.law_reading.specs.DefinitionLaws.{BeginsDefinition, bytes_of_lines, text_of_lines, with_definition}
use Rattle.law_reading.specs.InterpolationLaws.{StandsForItself}
use Rattle.run_model.proofs.ItemsTaken.{FromAhead, FromSource, Origin, ahead_at, taken_as-going_on, tape_at}
use Rattle.run_model.proofs.Leads.{after-add}
use Rattle.run_model.proofs.NameBytes.{stage}
use Rattle.run_model.proofs.PlainRuns.{HasRoom, HasRoom-start, Here, Most, Path, after-last, behind_byte, behind_bytes, behind_bytes-charge, behind_bytes-counts, counted, counted-ahead, counted-last, counted-source, is-run_at, run_at}
use Rattle.run_model.specs.Definitions.{end_mark}
use Rattle.run_model.specs.ItemsTaken.{TakesItems}
use Rattle.run_model.specs.PageEvents.{PageEvent}
use Rattle.run_model.specs.Reading.Items.{PageInput, going_on}
use Rattle.run_model.specs.Registers.{AllRegisters, Known}
use Rattle.run_model.specs.Run.{State, after, byte_taken, known, known_at, taken_as}
use Rattle.run_model.specs.Stages.{Stage, Turns, input_at}
use Rattle.run_model.specs.Within.{IsWithin}
use Rattle.run_model.specs.declared.line_state.LineState.TheVariants.{Dropped, LineStart}

-- bytes of a line that is dropped
turns-dropped : (names : Named Entry) (a : Arguments) (texts : List (List ℕ)) (b : ℕ) → (b == newline) ≡ false → Turns names (stage Dropped a texts) b (stage Dropped a texts)
turns-dropped names a texts b is k i =
    let here : PageInput = input_at names (stage Dropped a texts) i in
    ap (λ (c : Bool). if is_dropped b then going_on here Dropped else going_on here (if c then LineStart else Dropped)) is
    ∙ going_on-if (is_dropped b) here Dropped a a
    ∙ ap (λ (m : Arguments). going_on (record here { arguments = m }) Dropped) (same-if (is_dropped b) a)

path-dropped : (most : Most) (names : Named Entry) (a : Arguments) (texts : List (List ℕ)) (bytes : List ℕ) → Allows most a texts → All (λ b. (b == newline) ≡ false) bytes
    → Path most names (stage Dropped a texts) bytes (stage Dropped a texts)
path-dropped most names a texts [] allows none = Here (stage Dropped a texts)
path-dropped most names a texts (b ∷ bytes) allows none =
    onward most names a texts Dropped Dropped b bytes (stage Dropped a texts) refl
    (turns-dropped names a texts b (All-head (λ c. (c == newline) ≡ false) b bytes none)) allows
    (path-dropped most names a texts bytes allows (All-tail (λ c. (c == newline) ≡ false) b bytes none))

-- a run behind the newline of a line
abbrev begun_from : State → Origin → List ℕ → State
begun_from s from bytes = record s { tape = tape_at from [] s.tape; input = counted from bytes s.input; reading = LineStart }

dropped-rest : (l : Limits) (s : State) (from : Origin) (bytes : List ℕ) → TakesItems s → s.input.escapes ≡ [] → All (λ b. (b == newline) ≡ false) bytes
    → let u : State = record s { reading = Dropped } in
    let all : List ℕ = bytes ++ newline ∷ [] in
    s.input.ahead ≡ ahead_at from all → s.tape ≡ tape_at from all s.tape → IsWithin l u → IsWithin l (begun_from s from all) → after l (length all) u ≡ begun_from s from all
dropped-rest l s from bytes on half none ahead tape within within_begun =
    let u : State = record s { reading = Dropped } in
    let all : List ℕ = bytes ++ newline ∷ [] in
    let names : Named Entry = s.input.names in
    let a : Arguments = s.input.arguments in
    let texts : List (List ℕ) = s.input.open_texts in
    let p : Stage = stage Dropped a texts in
    let most : Most = record { held = held a; stored = sum_by length texts; texts = length texts } in
    let is : run_at u names p from all u.input ≡ u = is-run_at u from all p refl half refl refl ahead tape in
    let room : HasRoom l u names from most p all u.input =
    HasRoom-start l u names from most p all u.input (subst (IsWithin l) (sym is) within) (omega (arith, within_begun.bytes, behind_bytes-charge from all s.input))
    (omega (arith, within.stack)) within.store within.making in
    let of : PageInput → List OpenEscape → State = λ j h. record s {
      tape = tape_at from [] s.tape;
      input = record j { arguments = a; escapes = h; names = names; open_texts = texts };
      reading = LineStart;
    } in
    let at : State = run_at u names p from [] (behind_byte from newline (behind_bytes from bytes s.input)) in
    let taken : byte_taken newline (run_at u names p from [] (behind_byte from newline (behind_bytes from bytes s.input))) ≡ begun_from s from all =
    taken_as-going_on at.input LineStart at ∙ ap (λ (j : PageInput). of j []) (counted-last from bytes newline s.input) ∙ ap (of (counted from all s.input)) (sym half) in
    ap (after l (length all)) (sym is)
    ∙ after-last l u names from most p p bytes newline s.input (begun_from s from all)
    (record { going = on.going; is_open = on.is_open; idle = on.idle; unsprung = on.unsprung; none_due = refl })
    (path-dropped most names a texts bytes (record { held_few = omega arith; stored_few = omega arith; texts_few = omega arith }) none) room refl refl taken within_begun

-- the place in front of bytes of a line, where others stand behind them
abbrev behind_in : Origin → List ℕ → Origin
behind_in (FromAhead rest) more = FromAhead (map ByteAhead more ++ rest)
behind_in (FromSource tape) more = FromSource (items_then (map OneByte more) tape)

ahead-in : (from : Origin) (bytes more : List ℕ) → ahead_at from (bytes ++ more) ≡ ahead_at (behind_in from more) bytes
ahead-in (FromAhead rest) bytes more = split-ahead bytes more rest
ahead-in (FromSource tape) bytes more = refl

tape-in : (from : Origin) (bytes more : List ℕ) (tape : Tape) → tape_at from (bytes ++ more) tape ≡ tape_at (behind_in from more) bytes tape
tape-in (FromAhead rest) bytes more tape = refl
tape-in (FromSource given) bytes more tape = split-tape bytes more given

ahead-behind : (from : Origin) (more : List ℕ) → ahead_at (behind_in from more) [] ≡ ahead_at from more
ahead-behind (FromAhead rest) more = refl
ahead-behind (FromSource tape) more = refl

tape-behind : (from : Origin) (more : List ℕ) (tape : Tape) → tape_at (behind_in from more) [] tape ≡ tape_at from more (tape_at (behind_in from more) [] tape)
tape-behind (FromAhead rest) more tape = refl
tape-behind (FromSource given) more tape = refl

tape-left : (from : Origin) (more : List ℕ) (tape : Tape) → tape_at from [] (tape_at (behind_in from more) [] tape) ≡ tape_at from [] tape
tape-left (FromAhead rest) more tape = refl
tape-left (FromSource given) more tape = refl

same-counts : (from : Origin) (more bytes : List ℕ) (i : PageInput) → behind_bytes (behind_in from more) bytes i ≡ behind_bytes from bytes i
same-counts (FromAhead rest) more [] i = refl
same-counts (FromAhead rest) more (b ∷ bytes) i = same-counts (FromAhead rest) more bytes (behind_byte (FromAhead rest) b i)
same-counts (FromSource tape) more [] i = refl
same-counts (FromSource tape) more (b ∷ bytes) i = same-counts (FromSource tape) more bytes (behind_byte (FromSource tape) b i)

counted-is : (from : Origin) (bytes : List ℕ) (i : PageInput) → record (behind_bytes from bytes i) { ahead = ahead_at from [] } ≡ counted from bytes i
counted-is from bytes i = ap (λ (j : PageInput). record j { ahead = ahead_at from [] }) (behind_bytes-counts from bytes i)

-- bytes are counted in an input whose name has a new body as in another one
module _ (name : ShortName) (appends : Bool) (text : List ℕ) (before : List (List ℕ)) where
  abbrev entered : PageInput → PageInput
  entered i = with_definition name appends text before i

  behind-entered : (from : Origin) (items : List (Ahead PageEvent)) (bytes : List ℕ) (i : PageInput)
      → behind_bytes from bytes (entered (record i { ahead = items })) ≡ entered (record (behind_bytes from bytes i) { ahead = items })
  behind-entered from items [] i = refl
  behind-entered from items (b ∷ bytes) i = behind-entered from items bytes (behind_byte from b i)

  counted-entered : (from : Origin) (front more : List ℕ) (i : PageInput) → counted from more (entered (counted (behind_in from more) front i)) ≡ entered (counted from (front ++ more) i)
  counted-entered from front more i =
      let at : Origin = behind_in from more in
      let items : List (Ahead PageEvent) = ahead_at at [] in
      let left : PageInput → PageInput = λ j. record j { ahead = ahead_at from [] } in
      sym (counted-is from more (entered (counted at front i)))
      ∙ ap (λ (j : PageInput). left (behind_bytes from more (entered j))) (sym (counted-is at front i))
      ∙ ap left (behind-entered from items more (behind_bytes at front i))
      ∙ ap (λ (j : PageInput). entered (left (behind_bytes from more j))) (same-counts from more front i)
      ∙ ap (λ (j : PageInput). entered (left j)) (behind_bytes-append from front more i)
      ∙ ap entered (counted-is from (front ++ more) i)

-- the bytes of a definition, by what stands behind the mark
lines_then-append : (lines : List (List Part)) (last : List Part) (behind more : List ℕ) → lines_then lines last (behind ++ more) ≡ lines_then lines last behind ++ more
lines_then-append lines last behind more =
    let front : List ℕ = bytes_of_lines (map bytes_of lines) in
    ap (λ (bytes : List ℕ). front ++ bytes) (sym (append_assoc (bytes_of last) behind more)) ∙ sym (append_assoc front (bytes_of last ++ behind) more)

two-dots : All StandsForItself (end_mark None)
two-dots = All-cons StandsForItself dot (dot ∷ []) refl (All-cons StandsForItself dot [] refl (All-nil StandsForItself))

module _ (l : Limits) (s : State) (from : Origin) (next : Known → Known) (name : ShortName) (appends : Bool) (before : List (List ℕ)) (lines : List (List Part)) (last : List Part)
    (knows_next : KnowsNext s from next)
    (starts : BeginsDefinition s (Some name) appends None) (own : s.input.open_texts ≡ before ++ [] ∷ []) (are : AreTextLines next None (known s) s.input lines)
    (marks : AreCopiedMark None (known_behind_lines next (known s) lines) s.input last)
    (stored_few : stored s.input + length (text_of_lines (lines_rewritten next (known s) s.input lines)) ≤ l.store)
    (room : HasRoomForTexts l s (all_read next (known s) s.input lines last)) (within : IsWithin l s) where
  abbrev whole : List ℕ → List ℕ
  whole dropped = lines_then lines last (dropped ++ newline ∷ [])

  abbrev cost : ℕ
  cost = cost_of_all next (known s) s.input lines last

  abbrev text : List ℕ
  text = text_of_lines (lines_rewritten next (known s) s.input lines)

  abbrev registers : AllRegisters
  registers = registers_behind_all s.registers lines last

  abbrev begins : List ℕ → State
  begins bytes = record s {
    tape = tape_at from [] s.tape;
    registers = registers;
    input = with_definition name appends text before (counted from bytes (charged cost s.input));
    reading = LineStart;
  }

  drops : (dropped : List ℕ) → IsBehindMark dropped → s.input.ahead ≡ ahead_at from (whole dropped) → s.tape ≡ tape_at from (whole dropped) s.tape → IsWithin l (begins (whole dropped))
      → after l (length (whole dropped) + cost) s ≡ begins (whole dropped)
  drops _ Nothing ahead tape within_begins =
      let bytes : List ℕ = whole [] in
      let e : State = record s { tape = tape_at from [] s.tape; registers = registers; input = with_definition name appends text before (counted from bytes (charged cost s.input)) } in
      let same : behind_mark None newline e ≡ begins bytes = taken_as-going_on e.input LineStart e in
      defined-with-texts l s from next name appends None before lines last newline knows_next starts own two-dots are marks TheNewline ahead tape
      (omega (arith, within_begins.bytes, behind_bytes-charge from bytes (charged cost s.input))) stored_few room within (subst (IsWithin l) (sym same) within_begins)
      ∙ same
  drops _ (Rest b dropped follows of_line) ahead tape within_begins =
      let more : List ℕ = dropped ++ newline ∷ [] in
      let front : List ℕ = lines_then lines last (b ∷ []) in
      let bytes : List ℕ = whole (b ∷ dropped) in
      let split : bytes ≡ front ++ more = lines_then-append lines last (b ∷ []) more in
      let at : Origin = behind_in from more in
      let paid_for : PageInput = charged cost s.input in
      let e : State = record s { tape = tape_at at [] s.tape; registers = registers; input = with_definition name appends text before (counted at front paid_for) } in
      let u : State = record e { reading = Dropped } in
      let sizes : length bytes ≡ length front + length more = ap length split ∙ length-append front more in
      let goes_on : behind_mark None b e ≡ u =
      ap (λ (c : Bool). taken_as (going_on e.input (if c then LineStart else Dropped)) e) (All-head (λ c. (c == newline) ≡ false) b dropped of_line) ∙ taken_as-going_on e.input Dropped e in
      let charge : (behind_bytes from bytes paid_for).charge ≡ paid_for.charge + length bytes = behind_bytes-charge from bytes paid_for in
      let charge_front : (behind_bytes at front paid_for).charge ≡ paid_for.charge + length front = behind_bytes-charge at front paid_for in
      let stands : ahead_at at [] ≡ ahead_at from more = ahead-behind from more in
      let all_ahead : s.input.ahead ≡ ahead_at from (front ++ more) = ahead ∙ ap (ahead_at from) split in
      let within_u : IsWithin l u = record {
        bytes = omega (arith, within_begins.bytes, charge, charge_front, sizes);
        stack = omega (arith, within.stack, ap bytes_ahead stands, ap bytes_ahead all_ahead, bytes_ahead-front from front more);
        depth = omega (arith, within.depth, ap ends_ahead stands, ap ends_ahead all_ahead, ends_ahead-front from front more);
        store = within_begins.store;
        texts = within_begins.texts;
        making = within_begins.making;
        conditions = within_begins.conditions;
        names = within_begins.names;
        title = within_begins.title;
        environments = within.environments;
        output = within.output;
        traps = within.traps;
      } in
      let same : begun_from e from more ≡ begins bytes =
      ap (λ (j : PageInput). record e { tape = tape_at from [] e.tape; input = j; reading = LineStart }) (counted-entered name appends text before from front more paid_for)
      ∙ ap (λ (t : Tape). record (begins (front ++ more)) { tape = t }) (tape-left from more s.tape)
      ∙ ap begins (sym split) in
      let sum : length bytes + cost ≡ (length front + cost) + length more = omega (arith, sizes) in
      ap (λ (n : ℕ). after l n s) sum
      ∙ after-add l (length front + cost) (length more) s
      ∙ ap (after l (length more))
      (defined-with-texts l s at next name appends None before lines last b (knows-in knows_next) starts own two-dots are marks follows
      (all_ahead ∙ ahead-in from front more) (tape ∙ ap (λ (all : List ℕ). tape_at from all s.tape) split ∙ tape-in from front more s.tape)
      (omega (arith, within_begins.bytes, charge, sizes)) stored_few room within (subst (IsWithin l) (sym goes_on) within_u)
      ∙ goes_on)
      ∙ dropped-rest l e from dropped
      (record { going = starts.takes.going; is_open = starts.takes.is_open; idle = starts.takes.idle; unsprung = starts.takes.unsprung; none_due = starts.takes.none_due })
      starts.escapes (All-tail (λ c. (c == newline) ≡ false) b dropped of_line) stands (tape-behind from more s.tape) within_u (subst (IsWithin l) (sym same) within_begins)
      ∙ same
    where
      -- a newline there counts as one before it
      knows-in : KnowsNext s from next → KnowsNext s (behind_in from (dropped ++ newline ∷ [])) next
      knows-in knows rs i = ap (known_at s.history rs) (same-counts from (dropped ++ newline ∷ []) (newline ∷ []) i) ∙ knows rs i

pub rests_behind_two_dots_are_dropped : RestsBehindTwoDotsAreDropped
rests_behind_two_dots_are_dropped l s name appends before lines last dropped rest starts own are marks is ahead stored_few room within within_begins =
    let same : Known → Known = λ k. k in
    let bytes : List ℕ = lines_then lines last (dropped ++ newline ∷ []) in
    let cost : ℕ = cost_of_all same (known s) s.input lines last in
    let text : List ℕ = text_of_lines (lines_rewritten same (known s) s.input lines) in
    let registers : AllRegisters = registers_behind_all s.registers lines last in
    let of : PageInput → State = λ i. record s { registers = registers; input = with_definition name appends text before i; reading = LineStart } in
    let sum : s.input.charge + cost + length bytes ≡ s.input.charge + (length bytes + cost) = omega arith in
    let is_begun : of (counted (FromAhead rest) bytes (charged cost s.input)) ≡ of (record s.input { ahead = rest; charge = s.input.charge + (length bytes + cost) }) =
    ap of (counted-ahead rest bytes (charged cost s.input)) ∙ ap (λ (n : ℕ). of (record s.input { ahead = rest; charge = n })) sum in
    drops l s (FromAhead rest) same name appends before lines last (λ registers i. refl) starts own are marks stored_few room within dropped is ahead refl
    (subst (IsWithin l) (sym is_begun) within_begins) ∙ is_begun

pub rests_of_the_source_behind_two_dots_are_dropped : RestsOfTheSourceBehindTwoDotsAreDropped
rests_of_the_source_behind_two_dots_are_dropped l s name appends before lines last dropped tape starts own are marks is none stands stored_few room within within_begins =
    let bytes : List ℕ = lines_then lines last (dropped ++ newline ∷ []) in
    let cost : ℕ = cost_of_all with_newline (known s) s.input lines last in
    let text : List ℕ = text_of_lines (lines_rewritten with_newline (known s) s.input lines) in
    let registers : AllRegisters = registers_behind_all s.registers lines last in
    let of : PageInput → State = λ i. record s { tape = tape; registers = registers; input = with_definition name appends text before i; reading = LineStart } in
    let is_begun : of (counted (FromSource tape) bytes (charged cost s.input)) ≡ of (record (lines_taken bytes s.input) { charge = s.input.charge + (length bytes + cost) }) =
    ap of (counted-source tape bytes (charged cost s.input) none ∙ lines_taken-charged bytes cost s.input) in
    drops l s (FromSource tape) with_newline name appends before lines last (λ registers i. refl) starts own are marks stored_few room within dropped is none stands
    (subst (IsWithin l) (sym is_begun) within_begins) ∙ is_begun
