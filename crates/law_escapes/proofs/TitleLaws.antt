-- A title of printable bytes is read and placed.
use Rattle.std.proofs.Common.{◌≡◌, ℕ, ◌+◌, ◌≤◌, Bool, true, false, List, [], ◌∷◌, ◌++◌, length, Option, None, refl, ap, sym, subst, ◌∙◌, arith, append_assoc, All, ℤ, ◌==◌, append-nil, length-append}
use Rattle.std.proofs.lemmas.List.Elements.{All-weaker}
use Rattle.input_model.specs.Input.{lines_taken}
use Rattle.input_model.specs.Arguments.{Arguments, no_arguments}
use Rattle.input_escapes.specs.OpenEscape.{OpenEscape}
use Rattle.page_model.specs.Events.{settings_after}
use Rattle.roff_num.specs.RegisterText.{register_text}
use Rattle.roff_num.specs.ShortNames.{name_bytes}
use Rattle.roff_num.specs.declared.limits.Limits.{Limits}
use Rattle.roff_num.specs.declared.short_name.ShortName.{ShortName}
use Rattle.page_model.specs.Titles.{part_text, parts_placed}
use Rattle.input_source.specs.Bytes.{blank, newline}
use Rattle.input_source.specs.Tape.{Tape}
use Rattle.roff_store.specs.Named.{Named}
use Rattle.roff_store.specs.Texts.{Entry}
use Rattle.law_escapes.proofs.PartRuns.{behind_bytes-append}
use Rattle.law_escapes.proofs.PrintedNumbers.{printable-number}
use Rattle.law_escapes.proofs.TitleColumns.{ArePrintable, not-byte, part-printed, printable-bounds, printable-numbered, stands-placed}
use Rattle.law_escapes.proofs.TitleReading.{TitleStage, at, last_reading, path-title, title_kept, titled}
use Rattle.law_escapes.proofs.TitleRuns.{after-TitlePath, title_at, with_title}
use Rattle.law_reading.proofs.EventRuns.{perform-all}
use Rattle.law_escapes.specs.TitleLaws.{IsDelimiter, IsPartByte, IsTitle, LeadsToTitle, NamesTitle, PartsStand, PlacesTitle, TitleOnLine, TitlesHaveThreeParts, TitlesOfTheSourceHaveThreeParts, is_printable, numbered, title_bytes, title_line, with_number}
use Rattle.law_reading.proofs.CalledArguments.{most_of}
use Rattle.law_reading.proofs.LineNames.{Allows, ReadsAs, ReadsName, onward, reads-name}
use Rattle.law_reading.specs.CallLaws.{BeginsLine}
use Rattle.law_reading.specs.TextLaws.{all_performed}
use Rattle.run_model.proofs.ItemsTaken.{FromAhead, FromSource, Origin, ahead_at, tape_at}
use Rattle.run_model.proofs.Leads.{after-add}
use Rattle.run_model.proofs.NameBytes.{stage}
use Rattle.run_model.proofs.PlainRuns.{HasRoom, HasRoom-behind, HasRoom-start, Here, IsSmall, IsWithin-HasRoom, Most, Path, Path-append, after-Path, behind_byte, behind_bytes, counted, counted-ahead, counted-last, counted-source, is-run_at, run_at, step-taken}
use Rattle.run_model.specs.Environments.{text_of}
use Rattle.run_model.specs.ItemsTaken.{TakesItems}
use Rattle.run_model.specs.Layouts.{layout_of}
use Rattle.run_model.specs.PageEvents.{PageEvent, PageHistory}
use Rattle.run_model.specs.Reading.{title_read}
use Rattle.run_model.specs.Reading.Ends.{due}
use Rattle.run_model.specs.Reading.Items.{PageInput}
use Rattle.run_model.specs.Registers.{AllRegisters}
use Rattle.run_model.specs.Run.{State, after, byte_taken, known, step, taken_as}
use Rattle.run_model.specs.Stages.{Stage}
use Rattle.run_model.specs.TitleTexts.{TitleText}
use Rattle.run_model.specs.Titles.{title_of}
use Rattle.run_model.specs.TurnsToCome.{behind_all}
use Rattle.run_model.specs.Within.{IsWithin}
use Rattle.run_model.specs.declared.event.PageEvent.TheVariants.{Title}
use Rattle.run_model.specs.declared.line_state.LineState.{LineState}
use Rattle.run_model.specs.declared.line_state.LineState.TheVariants.{LineStart, Title as InTitle, TitleFront}
use Rattle.run_model.specs.declared.request.Called.TheVariants.{Request as ARequest}
use Rattle.run_model.specs.declared.request.Request.TheVariants.{Title as PlaceTitle}
use Rattle.run_model.specs.declared.title.WhichTitle.{WhichTitle}
use Rattle.run_model.specs.declared.title.WhichTitle.TheVariants.{Kept, Read}

-- the bytes of a part are printable, and so are those with numbers among them
printable-bytes : (page : Option ℕ) (number : List ℕ) (d : ℕ) (bytes : List ℕ) → ArePrintable number → All (IsPartByte d) bytes
    → ArePrintable bytes × ArePrintable (with_number page number bytes)
printable-bytes page number d bytes number_is are =
    let prints : ArePrintable bytes = All-weaker (IsPartByte d) (λ b. is_printable b ≡ true) (λ b is. is.prints) bytes are in
    (prints, printable-numbered page number bytes number_is prints)

-- wherever the title is placed its parts stand where they belong
stands-kept : (page : Option ℕ) (t : TitleOnLine) (columns : ℕ) (number : List ℕ) → IsTitle t → ArePrintable number
    → let kept : TitleText = title_kept page t in
    PartsStand columns (numbered page number t) (parts_placed columns (part_text number kept.left) (part_text number kept.centre) (part_text number kept.right))
stands-kept page t columns number is number_is =
    let left_is = printable-bytes page number t.delimiter t.left number_is is.left_is in
    let middle_is = printable-bytes page number t.delimiter t.middle number_is is.middle_is in
    let right_is = printable-bytes page number t.delimiter t.right number_is is.right_is in
    let kept : TitleText = title_kept page t in
    let of : TitleOnLine = numbered page number t in
    let same : parts_placed columns (part_text number kept.left) (part_text number kept.centre) (part_text number kept.right) ≡ parts_placed columns of.left of.middle of.right =
    ap (λ (left : List ℕ). parts_placed columns left (part_text number kept.centre) (part_text number kept.right)) (part-printed page number t.left left_is.0)
    ∙ ap (λ (middle : List ℕ). parts_placed columns of.left middle (part_text number kept.right)) (part-printed page number t.middle middle_is.0)
    ∙ ap (λ (right : List ℕ). parts_placed columns of.left of.middle right) (part-printed page number t.right right_is.0) in
    subst (PartsStand columns of) (sym same) (stands-placed columns of left_is.1 middle_is.1 right_is.1)

-- so it is of the one that was read, and of one that is kept
places-text : (page : Option ℕ) (t : TitleOnLine) (h : PageHistory) (rs : AllRegisters) (which : WhichTitle) → IsTitle t
    → title_of rs which ≡ title_kept page t → PlacesTitle page t h rs which
places-text page t h rs which is same =
    let columns : ℕ = (settings_after (text_of h)).title_length in
    let value : ℤ = (layout_of h).number.0 in
    let number : List ℕ = register_text rs.page_format value in
    let text_of_title : TitleText → List ℕ = λ text. parts_placed columns (part_text number text.left) (part_text number text.centre) (part_text number text.right) in
    record {
      text = text_of_title (title_of rs which);
      is_put = refl;
      stands = λ fits.
          subst (λ (text : TitleText). PartsStand columns (numbered page number t) (text_of_title text)) (sym same)
          (stands-kept page t columns number is (printable-number rs.page_format value fits));
    }

-- the name of the line
reads-title_name : (names : Named Entry) (control : ℕ) (name : ShortName) → NamesTitle names control name → ReadsAs names name TitleFront
reads-title_name names control name has =
    record { called = ARequest PlaceTitle; is = has.stands_for; none_due = refl; whole = λ i breaks. refl; ended = λ k i breaks b. refl }

path-front : (names : Named Entry) (texts : List (List ℕ)) (control : ℕ) (name : ShortName) → NamesTitle names control name
    → Path (most_of 0 texts) names (stage LineStart no_arguments texts) ((control ∷ name_bytes name) ++ blank ∷ []) (stage TitleFront no_arguments texts)
path-front names texts control name has =
    let most : Most = most_of 0 texts in
    let allows : Allows most no_arguments texts = record { held_few = omega arith; stored_few = omega arith; texts_few = omega arith } in
    let begins : ReadsName most names no_arguments texts (control ∷ name_bytes name) TitleFront =
    reads-name most names no_arguments texts control name TitleFront has.begins has.is_name allows (reads-title_name names control name has) in
    let mid : Stage = stage begins.reading no_arguments texts in
    let end : Stage = stage TitleFront no_arguments texts in
    Path-append most names (stage LineStart no_arguments texts) mid end (control ∷ name_bytes name) (blank ∷ []) begins.path
    (onward most names no_arguments texts begins.reading TitleFront blank [] end begins.does.none_due (λ k i. begins.does.at_blank k mid i) allows (Here end))

-- nothing is due behind the parts
none-due : (d : ℕ) (is_closed : Bool) → due (last_reading d is_closed) ≡ None
none-due d true = refl
none-due d false = refl

-- the line's end is no delimiter
newline-differs : (d : ℕ) → IsDelimiter d → (newline == d) ≡ false
newline-differs d is = let bounds = printable-bounds d is.prints in not-byte newline d (λ same. omega (arith, bounds.0, same))

-- at the line's end the title is to be placed
newline-places : (s : State) (names : Named Entry) (texts : List (List ℕ)) (from : Origin) (i : PageInput) (d : ℕ) (is_closed : Bool) → s.to_do ≡ []
    → (newline == d) ≡ false
    → byte_taken newline (run_at s names (stage (last_reading d is_closed) no_arguments texts) from [] i)
    ≡ record (run_at s names (stage LineStart no_arguments texts) from [] i) { to_do = Title Read ∷ [] }
newline-places s names texts from i d false idle is =
    let u : State = run_at s names (stage (InTitle d) no_arguments texts) from [] i in
    let there : State = run_at s names (stage LineStart no_arguments texts) from [] i in
    ap (λ (c : Bool). taken_as (title_read (known u) u.input d newline c) u) is
    ∙ ap (λ (m : List ℕ). record there { messages = m; to_do = Title Read ∷ s.to_do }) (append-nil s.messages)
    ∙ ap (λ (events : List PageEvent). record there { to_do = Title Read ∷ events }) idle
newline-places s names texts from i d true idle is =
    let there : State = run_at s names (stage LineStart no_arguments texts) from [] i in
    ap (λ (m : List ℕ). record there { messages = m; to_do = Title Read ∷ s.to_do }) (append-nil s.messages)
    ∙ ap (λ (events : List PageEvent). record there { to_do = Title Read ∷ events }) idle

-- a run that read a title
abbrev read_from : State → Origin → List ℕ → TitleText → State
read_from s from line t = record s {
  tape = tape_at from [] s.tape;
  input = counted from line s.input;
  registers = titled t s.registers;
  to_do = Title Read ∷ [];
}

-- so it is behind the line
is-read_from : (s : State) (from : Origin) (front bytes : List ℕ) (t : TitleText) → BeginsLine s
    → let i : PageInput = behind_byte from newline (behind_bytes from bytes (behind_bytes from front s.input)) in
    let there : State = run_at (with_title t s) s.input.names (stage LineStart no_arguments s.input.open_texts) from [] i in
    record there { to_do = Title Read ∷ [] } ≡ read_from s from ((front ++ bytes) ++ newline ∷ []) t
is-read_from s from front bytes t begins =
    let of : PageInput → Arguments → List OpenEscape → LineState → State = λ m a h r. record s {
      tape = tape_at from [] s.tape;
      input = record m { arguments = a; escapes = h; names = s.input.names; open_texts = s.input.open_texts };
      reading = r;
      registers = titled t s.registers;
      to_do = Title Read ∷ [];
    } in
    let j : PageInput = counted from ((front ++ bytes) ++ newline ∷ []) s.input in
    ap (λ (m : PageInput). of (record (behind_byte from newline m) { ahead = ahead_at from [] }) no_arguments [] LineStart) (behind_bytes-append from front bytes s.input)
    ∙ ap (λ (m : PageInput). of m no_arguments [] LineStart) (counted-last from (front ++ bytes) newline s.input)
    ∙ ap (λ (a : Arguments). of j a [] LineStart) (sym begins.arguments)
    ∙ ap (λ (h : List OpenEscape). of j s.input.arguments h LineStart) (sym begins.escapes)
    ∙ ap (λ (r : LineState). of j s.input.arguments s.input.escapes r) (sym begins.reading)

-- the whole line
title-from : (l : Limits) (s : State) (from : Origin) (control : ℕ) (name : ShortName) (t : TitleOnLine)
    → BeginsLine s → NamesTitle s.input.names control name → IsTitle t
    → let line : List ℕ = title_line control name t in
    s.input.ahead ≡ ahead_at from line → s.tape ≡ tape_at from line s.tape → IsWithin l s → s.input.charge + length line ≤ l.bytes
    → length t.left + length t.middle + length t.right ≤ l.line → after l (length line) s ≡ read_from s from line (title_kept s.registers.page_character t)
title-from l s from control name t begins has is_title ahead tape within charged few =
    let names : Named Entry = s.input.names in
    let texts : List (List ℕ) = s.input.open_texts in
    let most : Most = most_of 0 texts in
    let in_line : List ℕ = control ∷ name_bytes name in
    let front : List ℕ = in_line ++ blank ∷ [] in
    let bytes : List ℕ = title_bytes t in
    let last : List ℕ = bytes ++ newline ∷ [] in
    let line : List ℕ = title_line control name t in
    let read : TitleText = title_kept s.registers.page_character t in
    let start : Stage = stage LineStart no_arguments texts in
    let mid : Stage = stage TitleFront no_arguments texts in
    let end : Stage = stage (last_reading t.delimiter t.is_closed) no_arguments texts in
    let p : TitleStage = at TitleFront s.registers.title in
    let q : TitleStage = at (last_reading t.delimiter t.is_closed) read in
    let same : line ≡ front ++ last = append_assoc in_line (blank ∷ bytes) (newline ∷ []) ∙ sym (append_assoc in_line (blank ∷ []) last) in
    let is : run_at s names start from (front ++ last) s.input ≡ s =
    is-run_at s from (front ++ last) start begins.reading begins.escapes begins.arguments refl (ahead ∙ ap (ahead_at from) same)
    (tape ∙ ap (λ (all : List ℕ). tape_at from all s.tape) same) in
    let room : HasRoom l s names from most start (front ++ last) s.input =
    HasRoom-start l s names from most start (front ++ last) s.input (subst (IsWithin l) (sym is) within) (omega (arith, charged, ap length same))
    (omega (arith, within.stack)) within.store within.making in
    let i1 : PageInput = behind_bytes from front s.input in
    let one = after-Path l s names from most start mid front last s.input begins.takes (path-front names texts control name has) room in
    let small : IsSmall most mid = record { none_half = refl; held_few = omega arith; stored_few = omega arith; texts_few = omega arith } in
    let two = after-TitlePath l s names texts from most p q bytes (newline ∷ []) i1 begins.takes small (path-title s.registers.page_character l.line t s.registers.title is_title few) one.1 in
    let i2 : PageInput = behind_bytes from bytes i1 in
    let i3 : PageInput = behind_byte from newline i2 in
    let there : State = run_at (with_title read s) names start from [] i3 in
    let to_place : State = record there { to_do = Title Read ∷ [] } in
    let small_start : IsSmall most start = record { none_half = refl; held_few = omega arith; stored_few = omega arith; texts_few = omega arith } in
    let within_there : IsWithin l there =
    IsWithin-HasRoom l (with_title read s) names from most start [] i3 small_start
    (HasRoom-behind l (with_title read s) names from most end start newline [] i2 (omega arith) two.1) in
    let within_placed : IsWithin l to_place = record {
      bytes = within_there.bytes;
      stack = within_there.stack;
      depth = within_there.depth;
      store = within_there.store;
      texts = within_there.texts;
      making = within_there.making;
      conditions = within_there.conditions;
      names = within_there.names;
      title = within_there.title;
      environments = within_there.environments;
      output = within_there.output;
      traps = within_there.traps;
    } in
    let on : TakesItems (with_title read s) = record {
      going = begins.takes.going;
      is_open = begins.takes.is_open;
      idle = begins.takes.idle;
      unsprung = begins.takes.unsprung;
      none_due = begins.takes.none_due;
    } in
    let three : step l (title_at s names q texts from (newline ∷ []) i2) ≡ to_place =
    step-taken l (with_title read s) names from end newline [] i2 to_place on (none-due t.delimiter t.is_closed) refl (omega (arith, two.1.charged))
    (newline-places (with_title read s) names texts from i3 t.delimiter t.is_closed begins.takes.idle (newline-differs t.delimiter is_title.delimiter_is)) within_placed in
    let sum : length line ≡ length front + (length bytes + 1) =
    omega (arith, ap length same, length-append front last, length-append bytes (newline ∷ [])) in
    ap (λ (n : ℕ). after l n s) sum
    ∙ after-add l (length front) (length bytes + 1) s
    ∙ ap (after l (length bytes + 1)) (ap (after l (length front)) (sym is) ∙ one.0)
    ∙ after-add l (length bytes) 1 (run_at s names mid from last i1)
    ∙ ap (after l 1) two.0
    ∙ three
    ∙ is-read_from s from front bytes read begins
    ∙ ap (λ (all : List ℕ). read_from s from all read) (append_assoc front bytes (newline ∷ []) ∙ sym same)

-- what it leads to
reads-title : (l : Limits) (s : State) (t : TitleOnLine) (line : List ℕ) (tape : Tape) (i : PageInput) → BeginsLine s → IsTitle t
    → after l (length line) s ≡ record s { tape = tape; input = i; registers = titled (title_kept s.registers.page_character t) s.registers; to_do = Title Read ∷ [] }
    → LeadsToTitle l s t line (record s { tape = tape; input = i })
reads-title l s t line tape i begins is next =
    let rs : AllRegisters = titled (title_kept s.registers.page_character t) s.registers in
    let events : List PageEvent = all_performed rs (Title Read ∷ []) s.history in
    let u : State = record s { tape = tape; input = i; registers = rs } in
    record {
      read = title_kept s.registers.page_character t;
      places = λ h rs same. places-text s.registers.page_character t h rs Read is same;
      keeps = λ h rs same. places-text s.registers.page_character t h rs Kept is same;
      is_next = next;
      is_placed = λ allowed.
          after-add l (length line) (length events) s
          ∙ ap (after l (length events)) next
          ∙ perform-all l u (Title Read ∷ []) begins.takes.going begins.takes.unsprung allowed
          ∙ ap (λ (none : List PageEvent). record u { to_do = none; history = behind_all rs events s.history }) (sym begins.takes.idle);
    }

pub titles_have_three_parts : TitlesHaveThreeParts
titles_have_three_parts l s control name t rest begins has is ahead within charged few =
    let line : List ℕ = title_line control name t in
    let rs : AllRegisters = titled (title_kept s.registers.page_character t) s.registers in
    reads-title l s t line s.tape (record s.input { ahead = rest; charge = s.input.charge + length line }) begins is
    (title-from l s (FromAhead rest) control name t begins has is ahead refl within charged few
    ∙ ap (λ (i : PageInput). record s { input = i; registers = rs; to_do = Title Read ∷ [] }) (counted-ahead rest line s.input))

pub titles_of_the_source_have_three_parts : TitlesOfTheSourceHaveThreeParts
titles_of_the_source_have_three_parts l s control name t tape begins has is none stands within charged few =
    let line : List ℕ = title_line control name t in
    let rs : AllRegisters = titled (title_kept s.registers.page_character t) s.registers in
    reads-title l s t line tape (lines_taken line s.input) begins is
    (title-from l s (FromSource tape) control name t begins has is none stands within charged few
    ∙ ap (λ (i : PageInput). record s { tape = tape; input = i; registers = rs; to_do = Title Read ∷ [] }) (counted-source tape line s.input none))
