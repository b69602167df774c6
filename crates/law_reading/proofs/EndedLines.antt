-- What the end of all input ends.
use Rattle.std.proofs.Common.{◌≡◌, ℕ, zero, suc, ◌+◌, ◌≤◌, Bool, true, false, List, [], ◌∷◌, ◌++◌, length, Option, Some, None, refl, ap, sym, subst, ◌∙◌, arith, append_assoc, replicate, sum_by, if◌then◌else◌, ◌==◌, append-nil, length-append}
use Rattle.std.specs.List.{flat_map}
use Rattle.std.proofs.lemmas.List.Elements.{All-head, All-tail}
use Rattle.std.proofs.lemmas.List.Sums.{sum_by-append}
use Rattle.roff_num.specs.declared.limits.Limits.{Limits}
use Rattle.input_model.specs.Arguments.{Arguments, held, no_arguments}
use Rattle.input_source.specs.Bytes.{apostrophe, blank, dot, is_dropped}
use Rattle.input_source.specs.Tape.{Answer, Tape, Ended, Ends, front}
use Rattle.page_model.specs.declared.event.Event.TheVariants.{Print, WordEnd, Break}
use Rattle.page_model.specs.declared.glyph.Glyph.TheVariants.{Printed}
use Rattle.roff_store.specs.Named.{Named}
use Rattle.roff_store.specs.TextCalls.{DropOpen}
use Rattle.roff_store.specs.Texts.{Entry}
use Rattle.input_escapes.specs.OpenEscape.{OpenEscape}
use Rattle.input_escapes.specs.declared.open_escape.Waiting.{Waiting}
use Rattle.input_escapes.specs.declared.open_escape.Waiting.TheVariants.{Takes}
use Rattle.input_model.specs.Input.{Ahead, counting, lines_taken}
use Rattle.input_model.specs.Input.Names.{calling_on, dropping}
use Rattle.law_reading.proofs.DefinedBytes.{Allows, Definition, defining, newest-last}
use Rattle.law_reading.proofs.DefinitionLaws.{making-length, making-stored, remove-last, path-lines}
use Rattle.law_reading.proofs.Skipping.{IsPlain, IsPlain-counting, skipped_behind, step-counting, taking-goes_on, run_at as skips_at}
use Rattle.law_reading.proofs.EventRuns.{AreQuiet, Means, Tells, after-Tells, after-meant, behind-append, behind_performed, fits-room, idle-state, perform-all, quiet-front, steps-append, steps_of, taken_as-meaning, text_at}
use Rattle.law_reading.proofs.TextLaws.{NoneGoesOn, first_events, glyph_line, leading_line, means-first, means-newline, neither, part_events, taking-glyph, tells-behind_blank, tells-rest}
use Rattle.law_reading.specs.CallLaws.{BeginsLine}
use Rattle.law_reading.specs.ConditionLaws.{AreKept, MayEnd}
use Rattle.law_reading.specs.DefinitionLaws.{bytes_of_lines, text_of_lines}
use Rattle.law_reading.specs.EndedLaws.{UnendedBranchesDoNothing, UnendedDefinitionsEnterNothing, UnfinishedTextLinesTellTheirWords, unfinished_bytes}
use Rattle.law_reading.specs.TextLaws.{IsTextOnLine, TextOnLine, all_performed, gap_and_word, gap_events, text_events, word_events}
use Rattle.run_model.proofs.ItemsTaken.{Fits, Fits-IsWithin, FromSource, Origin, ahead_at, made-Fits, step-reads, tape_at, taken_as-going_on}
use Rattle.run_model.proofs.Leads.{after-add}
use Rattle.run_model.proofs.PlainRuns.{HasRoom, HasRoom-start, Here, IsSmall, IsWithin-HasRoom, Most, Path, after-Path, behind_byte, behind_bytes, behind_bytes-counts, counted, counted-source, is-run_at, run_at}
use Rattle.run_model.specs.Environments.{PageHistory, interrupted_line}
use Rattle.run_model.specs.ItemsTaken.{TakesItems}
use Rattle.run_model.specs.Messages.{message_lines}
use Rattle.run_model.specs.Reading.Branches.{most_braces}
use Rattle.run_model.specs.Reading.Definitions.{definition_cut}
use Rattle.run_model.specs.Reading.Ends.{end_taking, interrupted_end, is_unfinished}
use Rattle.run_model.specs.Reading.Items.{PageInput, Taking, meaning_events}
use Rattle.run_model.specs.Reading.TextLines.{fresh_line, text_line_end}
use Rattle.run_model.specs.Reading.Waiting.{line_waits, waiting_above}
use Rattle.run_model.specs.Run.{State, after, answered, ending_input, in_front_taken, input_ended, known, known_at, made, read_waiting, source_answer, step, taken_as}
use Rattle.run_model.specs.Stages.{Stage}
use Rattle.run_model.specs.Registers.{AllRegisters}
use Rattle.run_model.specs.TurnsToCome.{behind_all}
use Rattle.run_model.specs.Within.{IsWithin}
use Rattle.run_model.specs.PageEvents.{PageEvent}
use Rattle.run_model.specs.declared.event.PageEvent.TheVariants.{Text}
use Rattle.run_model.specs.declared.line_state.LineState.{LineState}
use Rattle.run_model.specs.declared.line_state.LineState.TheVariants.{LineStart, Text as InText}
use Rattle.run_model.specs.declared.line_state.TextLine.{TextLine}
use Rattle.run_model.specs.declared.message.Message.TheVariants.{DefinitionNotEnded}
use Rattle.law_reading.proofs.LineRooms.{Room, reads_at, room-behind, room-start}

-- a step at the end of all input, where a line is unfinished
step-at_end : (l : Limits) (u : State) → TakesItems u → u.input.escapes ≡ [] → u.input.ahead ≡ [] → front u.tape ≡ Ends Ended
    → line_waits u.reading u.input.arguments.place ≡ Takes → is_unfinished u.phase (known u) u.reading ≡ true
    → step l u ≡ made l u (taken_as (end_taking (known u) u.reading u.input) u)
step-at_end l u on none_half none_ahead ends waits unfinished =
    let answers : source_answer u ≡ Ends Ended = ap (λ (closed : Bool). if closed then Ends Ended else front u.tape) on.is_open ∙ ends in
    step-reads l u on.going on.idle on.unsprung on.none_due
    ∙ ap (λ (half : List OpenEscape). read_waiting l (waiting_above u.reading u.input.arguments.place half) u) none_half
    ∙ ap (λ (w : Waiting). read_waiting l w u) waits
    ∙ ap (λ (items : List (Ahead PageEvent)). in_front_taken l items u) none_ahead
    ∙ ap (λ (a : Answer). answered l a u) answers
    ∙ ap (λ (half : List OpenEscape). ending_input l half u) none_half
    ∙ ap (λ (c : Bool). made l u (input_ended c u)) unfinished

-- a run behind a text line that the input ended
abbrev ended_from : State → Tape → List ℕ → List PageEvent → State
ended_from s tape line events =
    let h : PageHistory = behind_all s.registers events s.history in
    record s { tape = tape_at (FromSource tape) [] s.tape; input = counted (FromSource tape) line s.input; history = h }

is-ended : (s : State) (tape : Tape) (line : List ℕ) (events : List PageEvent) → BeginsLine s
    → let from : Origin = FromSource tape in
    text_at s LineStart from [] (behind_bytes from line s.input) (behind_all s.registers events s.history) ≡ ended_from s tape line events
is-ended s tape line events begins =
    let from : Origin = FromSource tape in
    let of : PageInput → Arguments → List OpenEscape → LineState → State = λ j a h r. record s {
      tape = tape_at from [] s.tape;
      input = record j { arguments = a; escapes = h; names = s.input.names; open_texts = s.input.open_texts };
      reading = r;
      history = behind_all s.registers events s.history;
    } in
    let j : PageInput = counted from line s.input in
    ap (λ (i : PageInput). of (record i { ahead = ahead_at from [] }) no_arguments [] LineStart) (behind_bytes-counts from line s.input)
    ∙ ap (λ (a : Arguments). of j a [] LineStart) (sym begins.arguments)
    ∙ ap (λ (h : List OpenEscape). of j s.input.arguments h LineStart) (sym begins.escapes)
    ∙ ap (λ (r : LineState). of j s.input.arguments s.input.escapes r) (sym begins.reading)

-- the end of the input does what the newline of the line does
after-end : (l : Limits) (s : State) (tape : Tape) (line : TextLine) (i : PageInput) (h : PageHistory) → TakesItems s → front tape ≡ Ends Ended
    → Room l s (FromSource tape) [] i → AreQuiet l s.registers h (text_line_end line)
    → after l (suc (steps_of s.registers (text_line_end line) h)) (text_at s (InText line) (FromSource tape) [] i h)
    ≡ text_at s LineStart (FromSource tape) [] i (behind_performed s.registers (text_line_end line) h)
after-end l s tape line i h on ends room quiet =
    let from : Origin = FromSource tape in
    let events : List PageEvent = text_line_end line in
    let u : State = text_at s (InText line) from [] i h in
    let there : State = text_at s LineStart from [] i h in
    let one : step l u ≡ record there { to_do = events } =
    step-at_end l u (record { going = on.going; is_open = on.is_open; idle = on.idle; unsprung = on.unsprung; none_due = refl }) refl refl ends refl refl
    ∙ ap (λ (t : Taking). made l u (taken_as t u)) (means-newline line (known u) u.input tt refl)
    ∙ ap (made l u) (taken_as-meaning u.input LineStart events u on.idle)
    ∙ made-Fits l u (record there { to_do = events }) (fits-room l s LineStart from [] i h room) in
    ap (after l (steps_of s.registers events h)) one
    ∙ perform-all l there events on.going on.unsprung quiet
    ∙ idle-state s LineStart from [] i (behind_performed s.registers events h) on.idle

steps-ended : (rs : AllRegisters) (bytes : List ℕ) (events more last : List PageEvent) (h : PageHistory)
    → let g : PageHistory = behind_performed rs events h in
    length (0 ∷ bytes) + steps_of rs ((events ++ more) ++ last) h + 1
    ≡ suc (steps_of rs events h) + ((length bytes + steps_of rs more g) + suc (steps_of rs last (behind_performed rs more g)))
steps-ended rs bytes events more last h =
    let same = ap (λ (g : PageHistory). steps_of rs last g) (behind-append rs events more h) in
    omega (arith, steps-append rs (events ++ more) last h, steps-append rs events more h, same)

-- a whole line: its first byte, others, and the end
unfinished-from : (l : Limits) (s : State) (tape : Tape) (b : ℕ) (bytes : List ℕ) (p : LineState) (line : TextLine) (events more : List PageEvent)
    → BeginsLine s → interrupted_line s.history ≡ None → front tape ≡ Ends Ended → Means NoneGoesOn LineStart b events p → Tells p bytes more (InText line)
    → let from : Origin = FromSource tape in
    let all : List PageEvent = (events ++ more) ++ text_line_end line in
    s.input.ahead ≡ [] → s.tape ≡ tape_at from (b ∷ bytes) s.tape → IsWithin l s → s.input.charge + length (b ∷ bytes) ≤ l.bytes
    → AreQuiet l s.registers s.history all
    → after l (length (b ∷ bytes) + steps_of s.registers all s.history + 1) s
    ≡ ended_from s tape (b ∷ bytes) (all_performed s.registers all s.history)
unfinished-from l s tape b bytes p line events more begins none_goes ends first path ahead stands within charged quiet =
    let from : Origin = FromSource tape in
    let last : List PageEvent = text_line_end line in
    let all : List PageEvent = (events ++ more) ++ last in
    let rs : AllRegisters = s.registers in
    let h : PageHistory = s.history in
    let i : PageInput = s.input in
    let j : PageInput = behind_byte from b i in
    let m : PageInput = behind_bytes from bytes j in
    let start : State = text_at s LineStart from (b ∷ bytes) i h in
    let is : start ≡ s = is-run_at s from (b ∷ bytes) (reads_at LineStart s) begins.reading begins.escapes begins.arguments refl ahead stands in
    let room : Room l s from (b ∷ bytes) i = room-start l s from (b ∷ bytes) begins ahead stands within charged in
    let outer = quiet-front l rs h (events ++ more) last quiet in
    let inner = quiet-front l rs h events more outer.0 in
    let at : State = text_at s LineStart from bytes j h in
    let h1 : PageHistory = behind_performed rs events h in
    let h2 : PageHistory = behind_performed rs more h1 in
    let one : after l (suc (steps_of rs events h)) start ≡ text_at s p from bytes j h1 =
    after-meant l s from LineStart p b bytes events i h begins.takes refl room inner.0 (first (known at) at.input none_goes refl) in
    let two = after-Tells l s from p (InText line) bytes [] more j h1 begins.takes path
    (subst (λ (behind : List ℕ). Room l s from behind j) (sym (append-nil bytes)) (room-behind l s from b bytes i room)) inner.1 in
    let steps1 : ℕ = length bytes + steps_of rs more h1 in
    let steps2 : ℕ = suc (steps_of rs last h2) in
    let quiet2 : AreQuiet l rs h2 last = subst (λ (g : PageHistory). AreQuiet l rs g last) (behind-append rs events more h) outer.1 in
    let three : after l steps2 (text_at s (InText line) from [] m h2)
    ≡ text_at s LineStart from [] m (behind_performed rs last h2) = after-end l s tape line m h2 begins.takes ends two.1 quiet2 in
    ap (after l (length (b ∷ bytes) + steps_of rs all h + 1)) (sym is)
    ∙ ap (λ (n : ℕ). after l n start) (steps-ended rs bytes events more last h)
    ∙ after-add l (suc (steps_of rs events h)) (steps1 + steps2) start
    ∙ ap (after l (steps1 + steps2)) one
    ∙ after-add l steps1 steps2 (text_at s p from bytes j h1)
    ∙ ap (λ (behind : List ℕ). after l steps2 (after l steps1 (text_at s p from behind j h1))) (sym (append-nil bytes))
    ∙ ap (after l steps2) two.0
    ∙ three
    ∙ ap (λ (g : PageHistory). text_at s LineStart from [] m g)
    (sym (behind-append rs (events ++ more) last h ∙ ap (behind_performed rs last) (behind-append rs events more h)))
    ∙ is-ended s tape (b ∷ bytes) (all_performed rs all h) begins

unfinished-text : (l : Limits) (s : State) (tape : Tape) (leading first : ℕ) (word : List ℕ) (others : List (ℕ × List ℕ)) (trailing : ℕ)
    → let t : TextOnLine = record { leading = leading; first = first; word = word; others = others; trailing = trailing } in
    BeginsLine s → interrupted_line s.history ≡ None → IsTextOnLine t → front tape ≡ Ends Ended
    → s.input.ahead ≡ [] → s.tape ≡ tape_at (FromSource tape) (unfinished_bytes t) s.tape → IsWithin l s → s.input.charge + length (unfinished_bytes t) ≤ l.bytes
    → AreQuiet l s.registers s.history (text_events t)
    → after l (length (unfinished_bytes t) + steps_of s.registers (text_events t) s.history + 1) s
    ≡ ended_from s tape (unfinished_bytes t) (all_performed s.registers (text_events t) s.history)
unfinished-text l s tape zero first word others trailing begins none_goes is ends ahead stands within charged allowed =
    let here : LineState = InText glyph_line in
    let both = neither (first == dot) (first == apostrophe) is.begins in
    unfinished-from l s tape first (word ++ flat_map gap_and_word others ++ replicate trailing blank) here glyph_line (Text (Print (Printed first)) ∷ [])
    (word_events word ++ flat_map part_events others ++ gap_events trailing) begins none_goes ends
    (means-first first here (Text (Print (Printed first)) ∷ []) is.first_is.is_text both.0 both.1 (λ i. taking-glyph i fresh_line first is.first_is))
    (tells-rest word others trailing is.word_is is.others_are) ahead stands within charged allowed
unfinished-text l s tape (suc n) first word others trailing begins none_goes is ends ahead stands within charged allowed =
    unfinished-from l s tape blank ((replicate n blank ++ first ∷ word) ++ flat_map gap_and_word others ++ replicate trailing blank) (InText (leading_line 1)) glyph_line
    (Text WordEnd ∷ Text Break ∷ []) ((first_events n first ++ word_events word) ++ flat_map part_events others ++ gap_events trailing) begins none_goes ends
    (means-first blank (InText (leading_line 1)) (Text WordEnd ∷ Text Break ∷ []) refl refl refl (λ i. refl))
    (tells-behind_blank n first word others trailing is.leading_few is.first_is is.word_is is.others_are) ahead stands within charged allowed

pub unfinished_text_lines_tell_their_words : UnfinishedTextLinesTellTheirWords
unfinished_text_lines_tell_their_words l s t tape begins none_goes is none stands ends within charged allowed =
    let h : PageHistory = behind_performed s.registers (text_events t) s.history in
    unfinished-text l s tape t.leading t.first t.word t.others t.trailing begins none_goes is ends none stands within charged allowed
    ∙ ap (λ (i : PageInput). record s { tape = tape; input = i; history = h })
    (counted-source tape (unfinished_bytes t) s.input none)

-- a text in the making is dropped
drops-last : (before : List (List ℕ)) (text : List ℕ) (i : PageInput) → dropping (record i { open_texts = before ++ text ∷ [] }) ≡ record i { open_texts = before }
drops-last before text i =
    let texts : List (List ℕ) = before ++ text ∷ [] in
    ap (λ (id : Option ℕ). calling_on (λ n. DropOpen n) id (record i { open_texts = texts })) (newest-last before text)
    ∙ ap (λ (left : List (List ℕ)). record i { open_texts = left }) (remove-last before text)

pub unended_definitions_enter_nothing : UnendedDefinitionsEnterNothing
unended_definitions_enter_nothing l s name appends end before lines tape begins own its none stands ends room within =
    let from : Origin = FromSource tape in
    let names : Named Entry = s.input.names in
    let a : Arguments = s.input.arguments in
    let bytes : List ℕ = bytes_of_lines lines in
    let text : List ℕ = text_of_lines lines in
    let d : Definition = record { name = Some name; appends = appends; end = end; before = before; others = s.input.open_texts } in
    let most : Most = record { held = held a; stored = sum_by length s.input.open_texts + length text; texts = length s.input.open_texts } in
    let start : Stage = defining d a [] (Some 0) in
    let last : Stage = defining d a text (Some 0) in
    let allows : Allows most d a (length text) = record {
      held_few = omega arith;
      stored_few = λ t few. omega (arith, making-stored (Some name) before s.input.open_texts t own, few);
      texts_few = λ t. omega (arith, making-length (Some name) before s.input.open_texts t own);
    } in
    let is : run_at s names start from bytes s.input ≡ s = is-run_at s from bytes start begins.reading begins.escapes refl own none stands in
    let path : Path most names start bytes last =
    subst (λ (all : List ℕ). Path most names start all last) (append-nil bytes)
    (path-lines most names d a (length text) [] lines [] last allows its.mark its.texts (omega arith) (Here last)) in
    let charged : s.input.charge + length bytes ≤ l.bytes = room.taken in
    let starts : HasRoom l s names from most start bytes s.input =
    HasRoom-start l s names from most start bytes s.input (subst (IsWithin l) (sym is) within) charged (omega (arith, within.stack)) (omega (arith, room.stored_beside)) within.making in
    let here : List ℕ → State = λ more. run_at s names start from more s.input in
    let there = after-Path l s names from most start last bytes [] s.input begins.takes path
    (subst (λ (all : List ℕ). HasRoom l s names from most start all s.input) (sym (append-nil bytes)) starts) in
    let m : PageInput = behind_bytes from bytes s.input in
    let u : State = run_at s names last from [] m in
    let small : IsSmall most last = record { none_half = refl; held_few = omega arith; stored_few = allows.stored_few text (omega arith); texts_few = allows.texts_few text } in
    let inside : IsWithin l u = IsWithin-HasRoom l s names from most last [] m small there.1 in
    let left : PageInput → List OpenEscape → State = λ j half. record s {
      tape = tape_at from [] s.tape;
      input = record j { escapes = half; arguments = a; names = names; open_texts = before };
      reading = LineStart;
      messages = s.messages ++ message_lines j.line (DefinitionNotEnded ∷ []);
    } in
    let dropped : PageInput = record m { ahead = []; escapes = []; arguments = a; names = names } in
    let done : State = left (record m { ahead = [] }) [] in
    let size : List ℕ → ℕ = length in
    let fits : Fits l s.registers done.input = record {
      names = inside.names;
      title = inside.title;
      stack = inside.stack;
      depth = inside.depth;
      store = omega (arith, inside.store, sum_by-append size before (text ∷ []));
      texts = inside.texts;
      making = omega (arith, inside.making, length-append before (text ∷ []));
      conditions = inside.conditions;
    } in
    let cut : taken_as (definition_cut u.input (Some name)) u ≡ done =
    ap (λ (i : PageInput). record u { input = i; reading = LineStart; messages = s.messages ++ message_lines i.line (DefinitionNotEnded ∷ []) }) (drops-last before text dropped) in
    let one : step l u ≡ done =
    step-at_end l u (record { going = begins.takes.going; is_open = begins.takes.is_open; idle = begins.takes.idle; unsprung = begins.takes.unsprung; none_due = refl }) refl refl ends refl refl
    ∙ ap (made l u) cut ∙ made-Fits l u done fits in
    after-add l (length bytes) 1 s
    ∙ ap (λ (v : State). after l 1 (after l (length bytes) v)) (sym is)
    ∙ ap (λ (all : List ℕ). after l 1 (after l (length bytes) (here all))) (sym (append-nil bytes))
    ∙ ap (after l 1) there.0
    ∙ one
    ∙ ap (λ (j : PageInput). left (record j { ahead = [] }) []) (behind_bytes-counts from bytes s.input)
    ∙ ap (λ (half : List OpenEscape). left (counted from bytes s.input) half) (sym begins.escapes)
    ∙ ap (λ (j : PageInput). record s {
      tape = tape;
      input = record j { open_texts = before };
      reading = LineStart;
      messages = s.messages ++ message_lines j.line (DefinitionNotEnded ∷ []);
    }) (counted-source tape bytes s.input none)

-- the steps at bytes behind which a branch that is skipped goes on
after-skipping : (l : Limits) (s : State) (tape : Tape) (done bytes : List ℕ) (input : PageInput)
    → TakesItems s → IsPlain l s input → input.charge + length bytes ≤ l.bytes
    → ((front more : List ℕ) → bytes ≡ front ++ more → MayEnd (done ++ front) → ⊥) → AreKept bytes → length done + length bytes ≤ most_braces
    → (after l (length bytes) (skips_at s tape bytes input (skipped_behind done)) ≡ skips_at s tape [] (lines_taken bytes input) (skipped_behind (done ++ bytes)))
    × IsPlain l s (lines_taken bytes input)
after-skipping l s tape done [] input on plain within none are_kept few =
    (ap (λ (all : List ℕ). skips_at s tape [] input (skipped_behind all)) (sym (append-nil done)), plain)
after-skipping l s tape done (b ∷ bytes) input on plain within none are_kept few =
    let there : List ℕ = done ++ b ∷ [] in
    let i : PageInput = counting b input in
    let others = after-skipping l s tape there bytes i on (IsPlain-counting l s input b plain (omega (arith, within))) (omega (arith, within))
    (λ front more is may. none (b ∷ front) more (ap (λ (rest : List ℕ). b ∷ rest) is) (subst MayEnd (append_assoc done (b ∷ []) front) may))
    (All-tail (λ c. is_dropped c ≡ false) b bytes are_kept) (omega (arith, few, length-append done (b ∷ []))) in (
      ap (after l (length bytes))
          (step-counting l s tape b bytes input (skipped_behind done) (skipped_behind there) on refl plain (omega (arith, within))
          (taking-goes_on (known_at s.history s.registers i) i done b (All-head (λ c. is_dropped c ≡ false) b bytes are_kept) (none (b ∷ []) bytes refl) (omega (arith, few))))
          ∙ others.0
          ∙ ap (λ (all : List ℕ). skips_at s tape [] (lines_taken bytes i) (skipped_behind all)) (append_assoc done (b ∷ []) bytes),
      others.1,
    )

pub unended_branches_do_nothing : UnendedBranchesDoNothing
unended_branches_do_nothing l s bytes tape on reading none_half none_ahead is ends none are_kept few none_goes within is_within =
    let there = after-skipping l s tape [] bytes s.input on (record { none_ahead = none_ahead; none_half = none_half; within = is_within }) within none are_kept (omega (arith, few)) in
    let u : State = skips_at s tape [] (lines_taken bytes s.input) (skipped_behind bytes) in
    let done : State = record u { reading = LineStart } in
    let one : step l u ≡ done =
    step-at_end l u (record { going = on.going; is_open = on.is_open; idle = on.idle; unsprung = on.unsprung; none_due = refl }) there.1.none_half there.1.none_ahead ends refl refl
    ∙ ap (λ (line : Option TextLine). made l u (taken_as (meaning_events u.input LineStart (interrupted_end line)) u)) none_goes
    ∙ ap (made l u) (taken_as-going_on u.input LineStart u)
    ∙ made-Fits l u done (Fits-IsWithin l (record s { input = lines_taken bytes s.input }) there.1.within) in
    after-add l (length bytes) 1 s
    ∙ ap (λ (t : Tape). after l 1 (after l (length bytes) (record s { tape = t }))) is
    ∙ ap (λ (r : LineState). after l 1 (after l (length bytes) (skips_at s tape bytes s.input r))) reading
    ∙ ap (after l 1) there.0
    ∙ one
