-- A line of a diversion's text ends: its box is put in the diversion, and the diversion's text gets it.
use Rattle.std.proofs.Common.{◌≡◌, ℕ, ◌+◌, ◌≤◌, Bool, false, List, [], ◌∷◌, ◌++◌, length, Option, Some, None, refl, ap, ◌∙◌, arith, ◌&&◌, is_some, not, option_map, if◌then◌else◌, le-ltb, append-nil}
use Rattle.roff_num.specs.declared.limit.Limit.TheVariants.{Line, Output}
use Rattle.roff_num.specs.declared.limits.Limits.{Limits}
use Rattle.roff_num.specs.declared.short_name.ShortName.{ShortName}
use Rattle.page_model.specs.Behind.{finished, has_open_word, length_reached}
use Rattle.page_model.specs.Columns.{printed}
use Rattle.page_model.specs.DeviceText.{device_text}
use Rattle.page_model.specs.DivertedText.{diverted_line}
use Rattle.page_model.specs.DueTexts.{Gets, TextDue, text_due}
use Rattle.page_model.specs.declared.event.Event.TheVariants.{WordEnd, LineEnd, Count, Break}
use Rattle.page_model.specs.Events.{History, settings_after}
use Rattle.page_model.specs.Fields.{Told, is_in_field, so_far, told_plainly, told_behind, unfielded}
use Rattle.page_model.specs.Fitting.{Word}
use Rattle.page_model.specs.declared.layout_event.LayoutEvent.TheVariants.{Space}
use Rattle.page_model.specs.Happenings.{Happening, Does, Places}
use Rattle.page_model.specs.Layout.{Box, Lined, Empty, Layout}
use Rattle.page_model.specs.Lines.{Finished, finished_in, pending_length as length_in}
use Rattle.page_model.specs.Settings.{counted}
use Rattle.page_model.specs.Springs.{springs_on_page}
use Rattle.page_model.specs.Turning.{with_event}
use Rattle.page_model.specs.Words.{has_open_word as has_word_in, paragraph}
use Rattle.page_model.specs.declared.glyph.Glyph.{Glyph}
use Rattle.page_model.specs.declared.settings.Settings.{Settings}
use Rattle.run_model.proofs.ItemsTaken.{Fits}
use Rattle.run_model.specs.Environments.{counted_down, text_of, trap_reached}
use Rattle.run_model.specs.Following.{text_behind, text_changed}
use Rattle.run_model.specs.Layouts.{happens, laid_out, layout_of}
use Rattle.run_model.specs.Output.{text_laid, written}
use Rattle.run_model.specs.declared.event.PageEvent.TheVariants.{Text, Page}
use Rattle.run_model.specs.PageEvents.{PageHistory, PastEvent}
use Rattle.run_model.specs.Reading.Items.{PageInput}
use Rattle.run_model.specs.Reading.TextLines.{blank_line}
use Rattle.run_model.specs.Run.{Following, State, after, nothing_follows}
use Rattle.run_model.specs.Run.Counts.{first_passed, written_counted}
use Rattle.run_model.specs.Springs.{own_word_end, springs, sprung_on}
use Rattle.law_reading_again.proofs.DivertedBoxes.{Around, PutsBox, holding, outer, puts-line, puts-space}
use Rattle.law_reading_again.proofs.Events.{IsQuiet, event-step, only_text, text-step}
use Rattle.law_reading_again.proofs.Glyphs.{line_of, plain_line}
use Rattle.law_reading_again.proofs.PendingLines.{unfilled, finished-break, finished-line_end, pending-none, pending-word_end, temporary-word_end, words-line_end, words-none}
use Rattle.law_reading_again.proofs.Standing.{Stands, ended, first-none, laid-event, laid-word_end, quiet-event, quiet-word_end, springs-none, written-event, written-word_end}

-- where a happening puts a box in the diversion, the layout has it there
laid-put : (around : Around) (boxes : List Box) (h : PageHistory) (e : PastEvent) (x : Happening) (b : Box)
    → layout_of h ≡ holding around boxes
    → PutsBox around boxes x b → happens h e ≡ Some x → layout_of (e ∷ h) ≡ holding around (b ∷ boxes)
laid-put around boxes h e x b laid puts is =
    ap (λ (o : Option Happening). laid_out o (layout_of h)) is ∙ ap (with_event x) laid ∙ puts.laid

-- and nothing is written
written-put : (around : Around) (boxes : List Box) (h : PageHistory) (e : PastEvent) (x : Happening) (b : Box)
    → layout_of h ≡ holding around boxes
    → PutsBox around boxes x b → happens h e ≡ Some x → written h ≡ around.output → written (e ∷ h) ≡ around.output
written-put around boxes h e x b laid puts is unwritten =
    ap (λ (o : Option Happening). written h ++ text_laid o (layout_of h)) is
    ∙ ap (λ (L : Layout). written h ++ device_text x L) laid
    ∙ ap (λ (bytes : List ℕ). written h ++ bytes) puts.unwritten
    ∙ ap (λ (bytes : List ℕ). bytes ++ []) unwritten
    ∙ append-nil around.output

-- there is room for nothing
written-room : (l : Limits) (around : Around) (boxes : List Box) (h : PageHistory) (x : Happening) (b : Box)
    → layout_of h ≡ holding around boxes
    → PutsBox around boxes x b → written h ≡ around.output → length around.output ≤ l.output
    → first_passed l (written_counted h (Some x)) ≡ None
written-room l around boxes h x b laid puts unwritten room =
    ap (λ (bytes : List ℕ). first_passed l ((Output, length bytes + length (device_text x (layout_of h))) ∷ [])) unwritten
    ∙ ap (λ (L : Layout). first_passed l ((Output, length around.output + length (device_text x L)) ∷ [])) laid
    ∙ ap (λ (bytes : List ℕ). first_passed l ((Output, length around.output + length bytes) ∷ [])) puts.unwritten
    ∙ ap (λ (c : Bool). if c then Some Output else None) (le-ltb l.output (length around.output + 0) (omega (arith, room)))

-- the text gets the box, and nothing springs
follows-put : (around : Around) (boxes : List Box) (h : PageHistory) (e : PastEvent) (x : Happening) (b : Box)
    → layout_of h ≡ holding around boxes
    → PutsBox around boxes x b → happens h e ≡ Some x → springs h e ≡ sprung_on (happens h e) (layout_of h)
    → record { text = text_behind (happens h e) (layout_of h); sprung = springs h e } ≡ only_text (Some (Gets (outer around) (diverted_line b)))
follows-put around boxes h e x b laid puts is springs_so =
    let none : springs h e ≡ None =
    springs_so ∙ ap (λ (o : Option Happening). sprung_on o (layout_of h)) is ∙ ap (springs_on_page x) laid ∙ puts.sprung in
    let of : Option TextDue → Option ShortName → Following = λ due name. record { text = due; sprung = name } in
    ap (λ (o : Option Happening). of (text_behind o (layout_of h)) (springs h e)) is
    ∙ ap (of (text_due x (layout_of h))) none
    ∙ ap (λ (L : Layout). of (text_due x L) None) laid
    ∙ ap (λ (due : Option TextDue). of due None) puts.due

-- the line that is finished, and its box
abbrev pub again_line : List Glyph → Finished
again_line gs = plain_line (line_of gs)

abbrev pub again_box : List Glyph → Box
again_box gs = Lined (printed (again_line gs))

abbrev line_ended : PageHistory → PageHistory
line_ended h = Text LineEnd ∷ ended h

-- the histories behind a line, and behind an empty one
abbrev pub behind_line : PageHistory → PageHistory
behind_line h = Text Count ∷ line_ended h

abbrev broken : PageHistory → PageHistory
broken h = Text Break ∷ ended h

abbrev pub behind_empty : PageHistory → PageHistory
behind_empty h = Page (Space 1) ∷ broken h

-- behind the end of a word no field is open, and no word
told-ended : (around : Around) (boxes : List Box) (gs : List Glyph) (h : PageHistory) (stands : Stands around boxes gs h)
    → told_plainly (text_of (ended h)) ≡ unfielded (WordEnd ∷ stands.events)
told-ended around boxes gs h stands = ap (told_behind WordEnd) stands.as_told

no_field-ended : (around : Around) (boxes : List Box) (gs : List Glyph) (h : PageHistory) → Stands around boxes gs h
    → is_in_field (text_of (ended h)) ≡ false
no_field-ended around boxes gs h stands = ap (λ (t : Told). is_some t.field) (told-ended around boxes gs h stands)

none_open-ended : (around : Around) (boxes : List Box) (gs : List Glyph) (h : PageHistory) → Stands around boxes gs h
    → own_word_end (has_open_word (text_of (ended h))) ≡ None
none_open-ended around boxes gs h stands =
    ap (λ (t : Told). own_word_end (not (is_some t.field) && has_word_in (so_far t))) (told-ended around boxes gs h stands)

-- what happens at a line's end
happens-line_end : (around : Around) (boxes : List Box) (g : Glyph) (gs : List Glyph) (h : PageHistory) → Stands around boxes (g ∷ gs) h
    → happens (ended h) (Text LineEnd) ≡ Some (Places (again_line (g ∷ gs)))
happens-line_end around boxes g gs h stands =
    ap (λ (t : Told). option_map Places (finished_in (so_far t) LineEnd)) (told-ended around boxes (g ∷ gs) h stands)
    ∙ ap (option_map Places) (finished-line_end around.settings stands.events g gs stands.settings stands.cleared stands.word)

-- nothing is pending behind it
pending-line_end : (S : Settings) (T : History) → settings_after T ≡ unfilled S → length_in (LineEnd ∷ WordEnd ∷ T) ≡ 0
pending-line_end S T settings = pending-none (LineEnd ∷ WordEnd ∷ T) (words-line_end S (WordEnd ∷ T) settings) refl

pending-count : (S : Settings) (T : History) → settings_after T ≡ unfilled S → length_in (Count ∷ LineEnd ∷ WordEnd ∷ T) ≡ 0
pending-count S T settings = pending-none (Count ∷ LineEnd ∷ WordEnd ∷ T) (words-line_end S (WordEnd ∷ T) settings) refl

quiet-line_end : (l : Limits) (around : Around) (boxes : List Box) (g : Glyph) (gs : List Glyph) (s : State) (h : PageHistory)
    → Stands around boxes (g ∷ gs) h → length around.output ≤ l.output
    → IsQuiet l (record s { history = ended h }) (Text LineEnd) (Some (Gets (outer around) (diverted_line (again_box (g ∷ gs)))))
quiet-line_end l around boxes g gs s h stands room =
    let x : Happening = Places (again_line (g ∷ gs)) in
    let b : Box = again_box (g ∷ gs) in
    let puts : PutsBox around boxes x b = puts-line around boxes (line_of (g ∷ gs)) in
    let laid = laid-word_end around boxes (g ∷ gs) h stands in
    let is = happens-line_end around boxes g gs h stands in
    let pending : ℕ = length_reached LineEnd (text_of (ended h)) in
    let empty : pending ≡ 0 =
    ap (λ (t : Told). length_in (so_far (told_behind LineEnd t))) (told-ended around boxes (g ∷ gs) h stands)
    ∙ pending-line_end around.settings stands.events stands.settings in record {
      first = first-none around boxes (ended h) (Text LineEnd) laid (no_field-ended around boxes (g ∷ gs) h stands)
          (none_open-ended around boxes (g ∷ gs) h stands);
      allowed = ap (λ (o : Option Happening). first_passed l ((Line, pending) ∷ written_counted (ended h) o)) is
          ∙ ap (λ (c : Bool). if c then Some Line else first_passed l (written_counted (ended h) (Some x)))
          (le-ltb l.line pending (omega (arith, empty)))
          ∙ written-room l around boxes (ended h) x b laid puts (written-word_end around boxes (g ∷ gs) h stands) room;
      goes_on = ap (λ (L : Layout). L.is_over) (laid-put around boxes (ended h) (Text LineEnd) x b laid puts is) ∙ around.goes_on;
      follows = follows-put around boxes (ended h) (Text LineEnd) x b laid puts is refl;
      none_left = refl;
    }

laid-line_end : (around : Around) (boxes : List Box) (g : Glyph) (gs : List Glyph) (h : PageHistory) → Stands around boxes (g ∷ gs) h
    → layout_of (line_ended h) ≡ holding around (again_box (g ∷ gs) ∷ boxes)
laid-line_end around boxes g gs h stands =
    laid-put around boxes (ended h) (Text LineEnd) (Places (again_line (g ∷ gs))) (again_box (g ∷ gs))
    (laid-word_end around boxes (g ∷ gs) h stands)
    (puts-line around boxes (line_of (g ∷ gs))) (happens-line_end around boxes g gs h stands)

pub Stands-line : (around : Around) (boxes : List Box) (g : Glyph) (gs : List Glyph) (h : PageHistory) → Stands around boxes (g ∷ gs) h
    → Stands around (again_box (g ∷ gs) ∷ boxes) [] (behind_line h)
Stands-line around boxes g gs h stands =
    let T : History = stands.events in
    let x : Happening = Places (again_line (g ∷ gs)) in
    let written_so : written (line_ended h) ≡ around.output =
    written-put around boxes (ended h) (Text LineEnd) x (again_box (g ∷ gs)) (laid-word_end around boxes (g ∷ gs) h stands)
    (puts-line around boxes (line_of (g ∷ gs))) (happens-line_end around boxes g gs h stands)
    (written-word_end around boxes (g ∷ gs) h stands) in record {
      events = Count ∷ LineEnd ∷ WordEnd ∷ T;
      as_told = ap (λ (t : Told). told_behind Count (told_behind LineEnd t)) (told-ended around boxes (g ∷ gs) h stands);
      laid = laid-event around (again_box (g ∷ gs) ∷ boxes) (line_ended h) Count (laid-line_end around boxes g gs h stands) refl;
      settings = ap counted stands.settings;
      cleared = ap (λ (ws : List Word). record { words = ws; temporary_indent = (paragraph (WordEnd ∷ T)).temporary_indent })
          (words-line_end around.settings (WordEnd ∷ T) stands.settings)
          ∙ ap (λ (indent : Option ℕ). record { words = []; temporary_indent = indent }) (temporary-word_end T stands.cleared);
      word = refl;
      unbroken = stands.unbroken;
      trapless = ap counted_down stands.trapless;
      unwritten = written-event around.output (line_ended h) Count written_so refl;
    }

quiet-count : (l : Limits) (around : Around) (boxes : List Box) (g : Glyph) (gs : List Glyph) (s : State) (h : PageHistory)
    → Stands around boxes (g ∷ gs) h
    → IsQuiet l (record s { history = line_ended h }) (Text Count) None
quiet-count l around boxes g gs s h stands =
    let empty : length_reached Count (text_of (line_ended h)) ≡ 0 =
    ap (λ (t : Told). length_in (so_far (told_behind Count (told_behind LineEnd t)))) (told-ended around boxes (g ∷ gs) h stands)
    ∙ pending-count around.settings stands.events stands.settings in
    quiet-event l around (again_box (g ∷ gs) ∷ boxes) (record s { history = line_ended h }) Count
    (laid-line_end around boxes g gs h stands) refl refl refl
    (ap trap_reached stands.trapless) (omega (arith, empty))

-- the events of a line's end, and the text that changes behind the second of them
pub after-line : (l : Limits) (around : Around) (boxes : List Box) (g : Glyph) (gs : List Glyph) (s : State) → s.ended ≡ None
    → s.follows ≡ nothing_follows
    → Stands around boxes (g ∷ gs) s.history → length (line_of (g ∷ gs)) ≤ l.line → length around.output ≤ l.output
    → let input : PageInput = text_changed (Gets (outer around) (diverted_line (again_box (g ∷ gs)))) s.input in
    Fits l s.registers input
    → after l 4 (record s { to_do = Text WordEnd ∷ Text LineEnd ∷ Text Count ∷ [] })
    ≡ record s { to_do = []; follows = nothing_follows; input = input; history = behind_line s.history }
after-line l around boxes g gs s going idle stands room output fits =
    let h : PageHistory = s.history in
    let due : TextDue = Gets (outer around) (diverted_line (again_box (g ∷ gs))) in
    let word = pending-word_end around.settings stands.events g gs stands.settings stands.cleared stands.word in
    let one : State = record s { follows = nothing_follows; history = ended h } in
    let two : State = record s { history = line_ended h } in
    let three : State = record s { follows = nothing_follows; input = text_changed due s.input; history = line_ended h } in
    ap (after l 3)
    (event-step l s (Text WordEnd) (Text LineEnd ∷ Text Count ∷ []) None going idle (quiet-word_end l around boxes (g ∷ gs) s stands (omega (arith, word, room))))
    ∙ ap (after l 2)
    (event-step l one (Text LineEnd) (Text Count ∷ []) (Some due) going refl (quiet-line_end l around boxes g gs one h stands output))
    ∙ ap (after l 1) (text-step l two (Text Count ∷ []) due going fits)
    ∙ event-step l three (Text Count) [] None going refl (quiet-count l around boxes g gs three h stands)

-- an empty line: nothing is pending, and the break finishes nothing
finished-broken : (around : Around) (boxes : List Box) (h : PageHistory) → Stands around boxes [] h
    → finished (text_of (ended h)) Break ≡ None
finished-broken around boxes h stands =
    ap (λ (t : Told). finished_in (so_far t) Break) (told-ended around boxes [] h stands)
    ∙ finished-break (WordEnd ∷ stands.events) (words-none stands.events stands.cleared stands.word)

quiet-break : (l : Limits) (around : Around) (boxes : List Box) (s : State) (h : PageHistory) → Stands around boxes [] h
    → IsQuiet l (record s { history = ended h }) (Text Break) None
quiet-break l around boxes s h stands =
    let none = finished-broken around boxes h stands in
    let empty : length_reached Break (text_of (ended h)) ≡ 0 =
    ap (λ (t : Told). length_in (so_far (told_behind Break t))) (told-ended around boxes [] h stands)
    ∙ pending-none (Break ∷ WordEnd ∷ stands.events) refl refl in
    quiet-event l around boxes (record s { history = ended h }) Break (laid-word_end around boxes [] h stands)
    (no_field-ended around boxes [] h stands) (none_open-ended around boxes [] h stands) none
    (springs-none (ended h) Break none) (omega (arith, empty))

laid-broken : (around : Around) (boxes : List Box) (h : PageHistory) → Stands around boxes [] h
    → layout_of (broken h) ≡ holding around boxes
laid-broken around boxes h stands =
    laid-event around boxes (ended h) Break (laid-word_end around boxes [] h stands) (finished-broken around boxes h stands)

written-broken : (around : Around) (boxes : List Box) (h : PageHistory) → Stands around boxes [] h → written (broken h) ≡ around.output
written-broken around boxes h stands =
    written-event around.output (ended h) Break (written-word_end around boxes [] h stands) (finished-broken around boxes h stands)

quiet-space : (l : Limits) (around : Around) (boxes : List Box) (s : State) (h : PageHistory) → Stands around boxes [] h
    → length around.output ≤ l.output
    → IsQuiet l (record s { history = broken h }) (Page (Space 1)) (Some (Gets (outer around) (diverted_line Empty)))
quiet-space l around boxes s h stands room =
    let x : Happening = Does (Space 1) in
    let puts : PutsBox around boxes x Empty = puts-space around boxes in
    let laid = laid-broken around boxes h stands in record {
      first = first-none around boxes (broken h) (Page (Space 1)) laid refl refl;
      allowed = written-room l around boxes (broken h) x Empty laid puts (written-broken around boxes h stands) room;
      goes_on = ap (λ (L : Layout). L.is_over) (laid-put around boxes (broken h) (Page (Space 1)) x Empty laid puts refl) ∙ around.goes_on;
      follows = follows-put around boxes (broken h) (Page (Space 1)) x Empty laid puts refl refl;
      none_left = refl;
    }

pub Stands-empty : (around : Around) (boxes : List Box) (h : PageHistory) → Stands around boxes [] h
    → Stands around (Empty ∷ boxes) [] (behind_empty h)
Stands-empty around boxes h stands =
    let x : Happening = Does (Space 1) in
    let puts : PutsBox around boxes x Empty = puts-space around boxes in
    let laid = laid-broken around boxes h stands in record {
      events = Break ∷ WordEnd ∷ stands.events;
      as_told = ap (told_behind Break) (told-ended around boxes [] h stands);
      laid = laid-put around boxes (broken h) (Page (Space 1)) x Empty laid puts refl;
      settings = stands.settings;
      cleared = ap (λ (indent : Option ℕ). record { words = []; temporary_indent = indent })
          (temporary-word_end stands.events stands.cleared);
      word = refl;
      unbroken = stands.unbroken;
      trapless = stands.trapless;
      unwritten = written-put around boxes (broken h) (Page (Space 1)) x Empty laid puts refl (written-broken around boxes h stands);
    }

pub after-empty : (l : Limits) (around : Around) (boxes : List Box) (s : State) → s.ended ≡ None → s.follows ≡ nothing_follows
    → Stands around boxes [] s.history
    → length around.output ≤ l.output
    → let input : PageInput = text_changed (Gets (outer around) (diverted_line Empty)) s.input in
    Fits l s.registers input
    → after l 4 (record s { to_do = blank_line }) ≡ record s { to_do = []; follows = nothing_follows; input = input; history = behind_empty s.history }
after-empty l around boxes s going idle stands output fits =
    let h : PageHistory = s.history in
    let due : TextDue = Gets (outer around) (diverted_line Empty) in
    let word : length_in (WordEnd ∷ stands.events) ≡ 0 =
    pending-none (WordEnd ∷ stands.events) (words-none stands.events stands.cleared stands.word) refl in
    let one : State = record s { follows = nothing_follows; history = ended h } in
    let two : State = record s { follows = nothing_follows; history = broken h } in
    let three : State = record s { history = behind_empty h } in
    ap (after l 3)
    (event-step l s (Text WordEnd) (Text Break ∷ Page (Space 1) ∷ []) None going idle (quiet-word_end l around boxes [] s stands (omega (arith, word))))
    ∙ ap (after l 2) (event-step l one (Text Break) (Page (Space 1) ∷ []) None going refl (quiet-break l around boxes one h stands))
    ∙ ap (after l 1) (event-step l two (Page (Space 1)) [] (Some due) going refl (quiet-space l around boxes two h stands output))
    ∙ text-step l three [] due going fits
