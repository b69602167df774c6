-- Texts that are measured, and motions.
use Rattle.std.proofs.Common.{◌≡◌, ℕ, ◌+◌, ◌*◌, ◌≤◌, Bool, true, false, List, [], ◌∷◌, ◌++◌, length, Some, None, refl, ap, sym, subst, ◌∙◌, arith, Option, decimal, fold, min, ◌||◌, sum_by, if◌then◌else◌, ◌==◌}
use Rattle.std.proofs.lemmas.Bool.Decides.{nat_tests}
use Rattle.std.proofs.lemmas.List.Elements.{All-head, All-tail}
use Rattle.std.proofs.lemmas.List.Sums.{sum_by-cons}
use Rattle.roff_num.specs.declared.limits.Limits.{Limits}
use Rattle.input_model.specs.Arguments.{Arguments}
use Rattle.input_source.specs.Bytes.{newline, backslash, is_dropped}
use Rattle.input_escapes.specs.OpenEscape.{OpenEscape, Backslash, Width}
use Rattle.input_escapes.specs.OpenEscapes.{Reads, byte_read, reading_ended, reads_widths}
use Rattle.input_escapes.specs.Waiting.{is_ended_by}
use Rattle.input_model.specs.Input.{pushing, Ahead}
use Rattle.input_escapes.specs.Measures.{byte_columns, most_width, wider}
use Rattle.input_source.specs.Tape.{Answer}
use Rattle.input_model.specs.Shown.{seen_ahead}
use Rattle.input_escapes.specs.declared.open_escape.Found.TheVariants.{GoesOn, Measures}
use Rattle.input_escapes.specs.declared.open_escape.Surroundings.{Surroundings}
use Rattle.input_escapes.specs.declared.open_escape.Surroundings.TheVariants.{Text as AboveText, Arguments as AboveArguments, Copy as AboveCopy}
use Rattle.law_reading.proofs.Interpolation.{FindsAtLast, AtLast, Behind, IsRead, IsRead-itself, Means, ReadsEscapes, AtBeginning, AtBranch, AtBraced, OnText, OnArguments, OnCondition, OnStringName, OnCall, OnStringText, OnDefinition, OnMessage, ReadsEscapes-reads_escapes, after-escape, is-going, is_no_newline, line_behind, settled_for-settled_for, settled_input, source_behind, step-byte, taking-reads, none_due-reads}
use Rattle.run_model.specs.Reading.Units.{settled_for}
use Rattle.run_model.proofs.ItemsTaken.{Fits-IsWithin, FromAhead, FromSource, Origin, ahead_at, going, input_of, not-first, not-second, tape_at, taken_as-going_on, made-Fits, step-TakesItems}
use Rattle.law_reading.specs.InterpolationLaws.{StandsForItself, reads_escapes}
use Rattle.run_model.specs.ItemsTaken.{TakesItems}
use Rattle.run_model.specs.Within.{IsWithin}
use Rattle.run_model.specs.Reading.{byte_taking, escape_ended}
use Rattle.run_model.specs.Reading.Escapes.{measuring}
use Rattle.run_model.specs.Reading.Found.{place_in, read_in}
use Rattle.run_model.specs.Reading.Items.{PageInput, Taking}
use Rattle.run_model.specs.Registers.{Known}
use Rattle.run_model.specs.PageEvents.{PageEvent}
use Rattle.run_model.specs.Run.{State, after, known, step, taken_as, answered, awaited, awaited_of_source, ending_input, escape_ends, in_front_taken, made, read_waiting, item_read}
use Rattle.run_model.specs.Reading.Waiting.{waiting_above}
use Rattle.law_reading.specs.WidthLaws.{MayDelimit, IsPlain, text_units, width_escape, measures_texts, with_width_ahead, WidthsReadAsDigits, WidthsOfTheSourceReadAsDigits, MeasuredTextsReadAsDigits, MeasuredTextsOfTheSourceReadAsDigits, EndsText, NewlineAhead, NewlineOfTheSource, EndOfTheSource, WidthsEndWithTheirLine}
use Rattle.run_model.specs.declared.line_state.LineState.{LineState}
use Rattle.run_model.specs.declared.line_state.LineState.TheVariants.{LineStart, Branch, Braced, Text as InText, Control, Name as NameOf, Deciding, Skipping, Dropped, Told, Exiting, TitleFront, Title as InTitle, Collecting}
use Rattle.run_model.specs.declared.purpose.Purpose.TheVariants.{Arguments as InArguments, StringName, StringText, Telling, Calling, Defining}

-- a width was measured where escapes are read
read_in-measures : (k : Known) (reading : LineState) (i : PageInput) (half : List OpenEscape) (width : ℕ) → ReadsEscapes reading
    → read_in k reading i (Measures width, half) ≡ measuring (settled_input reading half i) reading width
read_in-measures k _ i half width AtBeginning = refl
read_in-measures k _ i half width AtBranch = refl
read_in-measures k _ i half width AtBraced = refl
read_in-measures k _ i half width (OnText line) = refl
read_in-measures k _ i half width (OnArguments breaks request) = refl
read_in-measures k _ i half width (OnCondition keeps) = refl
read_in-measures k _ i half width (OnStringName appends) = refl
read_in-measures k _ i half width (OnCall string) = refl
read_in-measures k _ i half width (OnStringText string appends is_front) = refl
read_in-measures k _ i half width (OnDefinition string appends end matched) = refl
read_in-measures k _ i half width (OnMessage aborts is_front) = refl

-- a byte that ends a text that is measured
taking-measures : (k : Known) (reading : LineState) (i : PageInput) (b width : ℕ) (half : List OpenEscape) → ReadsEscapes reading
    → IsRead b → byte_read (place_in k reading) i.escapes b ≡ (Measures width, half) → byte_taking k reading i b ≡ measuring (settled_input reading half i) reading width
taking-measures k reading i b width half on read reads =
    taking-reads k reading i b on read ∙ ap (read_in k reading i) reads ∙ read_in-measures k reading i half width on

-- a width was measured in such a run
abbrev measured : State → LineState → Origin → Arguments → List OpenEscape → ℕ → ℕ → ℕ → State
measured s reading from a half charge line width =
    let t : State = going s reading from [] a half charge line in
    record t { input = pushing (decimal width) t.input }

-- a byte that finds it
means-measures : (s : State) (reading : LineState) (from : Origin) (a : Arguments) (charge line width : ℕ) (behind : List OpenEscape)
    → ReadsEscapes reading
    → Means s reading from a charge line (Measures width) behind (measured s reading from (settled_for reading a) behind charge line width)
means-measures s reading from a charge line width behind on half b read reads =
    let before : State = going s reading from [] a half charge line in
    let i : PageInput = input_of s from [] (settled_for reading a) behind charge line in
    ap (λ (taking : Taking). taken_as taking before) (taking-measures (known s) reading before.input b width behind on read reads)
    ∙ taken_as-going_on (pushing (decimal width) i) reading before

-- its digits ahead of what is behind the bytes
abbrev width_from : Origin → ℕ → List OpenEscape → ℕ → State → State
width_from from width half taken s = with_width_ahead width half taken (ahead_at from []) (source_behind from s)

-- before them no quote follows the quote before
with_width_ahead-arguments : (width : ℕ) (half : List OpenEscape) (taken : ℕ) (rest : List (Ahead PageEvent)) (s : State) → ReadsEscapes s.reading
    → with_width_ahead width half taken rest s
    ≡ record s { input = pushing (decimal width) (record (settled_input s.reading half s.input) { ahead = rest; charge = s.input.charge + taken }) }
with_width_ahead-arguments width half taken rest s on = refl

-- so it is the width that was measured
width_from-measured : (s : State) (reading : LineState) (from : Origin) (bytes : List ℕ) (a : Arguments) (half behind : List OpenEscape)
    (charge taken line width : ℕ) → ReadsEscapes reading
    → width_from from width behind taken (going s reading from bytes a half charge line)
    ≡ measured s reading from (settled_for reading a) behind (charge + taken) (line_behind from s line) width
width_from-measured s reading (FromAhead rest) bytes a half behind charge taken line width on =
    with_width_ahead-arguments width behind taken rest (going s reading (FromAhead rest) bytes a half charge line) on
width_from-measured s reading (FromSource tape) bytes a half behind charge taken line width on =
    with_width_ahead-arguments width behind taken [] (going s reading (FromSource tape) [] a half charge (s.input.newlines + 1)) on

-- a byte is itself
itself : (b : ℕ) → (b == b) ≡ true
itself b = grind (arith, nat_tests)

-- the delimiter ends the text
byte_read-delimiter : (base : Surroundings) (d width : ℕ) (is_deep : Bool) (half : List OpenEscape)
    → byte_read base (Width (Some d) width is_deep ∷ half) d ≡ (Measures width, half)
byte_read-delimiter base d width is_deep half = rw (itself d) refl

-- the step at it
step-delimiter : (l : Limits) (s : State) (reading : LineState) (from : Origin) (a : Arguments) (d width : ℕ) (is_deep : Bool)
    (half : List OpenEscape) (charge line : ℕ) → ReadsEscapes reading → MayDelimit d
    → let first : State = going s reading from (d ∷ []) a (Width (Some d) width is_deep ∷ half) charge line in
    let read : State = width_from from width half 1 first in
    IsWithin l first → IsWithin l read → step l first ≡ read
step-delimiter l s reading from a d width is_deep half charge line on may within within_read =
    let text : List OpenEscape = Width (Some d) width is_deep ∷ half in
    let next : ℕ = line_behind from s line in
    let t : State = measured s reading from (settled_for reading a) half (charge + 1) next width in
    let is : width_from from width half 1 (going s reading from (d ∷ []) a text charge line) ≡ t =
    width_from-measured s reading from (d ∷ []) a text half charge 1 line width on in
    let within_t : IsWithin l t = subst (IsWithin l) is within_read in
    step-byte l s reading from d [] a text charge line t (none_due-reads reading on) may (not-second (is_dropped d) (d == newline) may) within_t.bytes
    (means-measures s reading from a (charge + 1) next width half on text d may (byte_read-delimiter (place_in (known s) reading) d width is_deep half))
    (Fits-IsWithin l t within_t)
    ∙ sym is

-- and in any state of such a run
delimiter-reads : (l : Limits) (s : State) (from : Origin) (d width : ℕ) (is_deep : Bool) (half : List OpenEscape)
    → MayDelimit d → TakesItems s → reads_escapes s.reading ≡ true → s.input.escapes ≡ Width (Some d) width is_deep ∷ half
    → s.input.ahead ≡ ahead_at from (d ∷ []) → s.tape ≡ tape_at from (d ∷ []) s.tape
    → let read : State = width_from from width half 1 s in
    IsWithin l s → IsWithin l read → step l s ≡ read
delimiter-reads l s from d width is_deep half may takes reads measures ahead tape =
    let on : ReadsEscapes s.reading = ReadsEscapes-reads_escapes s.reading reads in
    let Goal : State → Type 0 = λ t. IsWithin l t → IsWithin l (width_from from width half 1 t) → step l t ≡ width_from from width half 1 t in
    let is : going s s.reading from (d ∷ []) s.input.arguments (Width (Some d) width is_deep ∷ half) s.input.charge s.input.line ≡ s =
    ap (λ (h : List OpenEscape). going s s.reading from (d ∷ []) s.input.arguments h s.input.charge s.input.line) (sym measures)
    ∙ is-going s from (d ∷ []) takes ahead tape in
    subst Goal is (step-delimiter l s s.reading from s.input.arguments d width is_deep half s.input.charge s.input.line on may)

pub widths_read_as_digits : WidthsReadAsDigits
widths_read_as_digits l s d width is_deep half rest may takes reads measures ahead =
    delimiter-reads l s (FromAhead rest) d width is_deep half may takes reads measures ahead refl

pub widths_of_the_source_read_as_digits : WidthsOfTheSourceReadAsDigits
widths_of_the_source_read_as_digits l s d width is_deep half tape may takes reads measures none stands =
    delimiter-reads l s (FromSource tape) d width is_deep half may takes reads measures none stands

-- the end of a text that is measured
escape_ended-measures : (k : Known) (reading : LineState) (i : PageInput) (delimiter : Option ℕ) (width : ℕ) (is_deep : Bool) (half : List OpenEscape)
    → ReadsEscapes reading → i.escapes ≡ Width delimiter width is_deep ∷ half
    → escape_ended k reading i ≡ measuring (settled_input reading half i) reading width
escape_ended-measures k reading i delimiter width is_deep half on measures =
    ap (λ (h : List OpenEscape). read_in k reading i (reading_ended (place_in k reading) h)) measures
    ∙ read_in-measures k reading i half width on

-- where it ends so, its end is the step
item_read-ends : (l : Limits) (s : State) (delimiter : Option ℕ) (width : ℕ) (is_deep : Bool) (half : List OpenEscape)
    → EndsText s → s.input.escapes ≡ Width delimiter width is_deep ∷ half → item_read l s ≡ made l s (escape_ends s)
item_read-ends l s delimiter width is_deep half (NewlineAhead rest ahead) measures =
    ap (λ (h : List OpenEscape). read_waiting l (waiting_above s.reading s.input.arguments.place h) s) measures
    ∙ ap (λ (items : List (Ahead PageEvent)). awaited l (seen_ahead items) s) ahead
    ∙ ap (λ (h : List OpenEscape). if is_ended_by h (Some newline) then made l s (escape_ends s) else in_front_taken l s.input.ahead s) measures
item_read-ends l s delimiter width is_deep half (NewlineOfTheSource ahead gives) measures =
    ap (λ (h : List OpenEscape). read_waiting l (waiting_above s.reading s.input.arguments.place h) s) measures
    ∙ ap (λ (items : List (Ahead PageEvent)). awaited l (seen_ahead items) s) ahead
    ∙ ap (λ (a : Answer). awaited_of_source l a s) gives
    ∙ ap (λ (h : List OpenEscape). if is_ended_by h (Some newline) then made l s (escape_ends s) else in_front_taken l s.input.ahead s) measures
item_read-ends l s delimiter width is_deep half (EndOfTheSource ahead ends) measures =
    ap (λ (h : List OpenEscape). read_waiting l (waiting_above s.reading s.input.arguments.place h) s) measures
    ∙ ap (λ (items : List (Ahead PageEvent)). awaited l (seen_ahead items) s) ahead
    ∙ ap (λ (a : Answer). awaited_of_source l a s) ends
    ∙ ap (λ (h : List OpenEscape). if is_ended_by h None then made l s (escape_ends s) else in_front_taken l s.input.ahead s) measures
    ∙ ap (λ (items : List (Ahead PageEvent)). in_front_taken l items s) ahead
    ∙ ap (λ (a : Answer). answered l a s) ends
    ∙ ap (λ (h : List OpenEscape). ending_input l h s) measures

pub widths_end_with_their_line : WidthsEndWithTheirLine
widths_end_with_their_line l s delimiter width is_deep half ends takes reads measures within within_read =
    let on : ReadsEscapes s.reading = ReadsEscapes-reads_escapes s.reading reads in
    let read : State = with_width_ahead width half 0 s.input.ahead s in
    let is : escape_ends s ≡ read =
    ap (λ (taking : Taking). taken_as taking s) (escape_ended-measures (known s) s.reading s.input delimiter width is_deep half on measures)
    ∙ taken_as-going_on (pushing (decimal width) (settled_input s.reading half s.input)) s.reading s
    ∙ ap (λ (c : ℕ). let t : State = record s { input = pushing (decimal width) (record (settled_input s.reading half s.input) { charge = c }) } in t) (omega arith)
    ∙ sym (with_width_ahead-arguments width half 0 s.input.ahead s on) in
    step-TakesItems l s takes ∙ item_read-ends l s delimiter width is_deep half ends measures
    ∙ ap (made l s) is ∙ made-Fits l s read (Fits-IsWithin l read within_read)

-- a width that grows by some bytes
abbrev grown_by : ℕ → List ℕ → ℕ
grown_by width text = fold (λ (w b : ℕ). wider w (byte_columns b)) width text

-- bounded twice, a sum is bounded
min-min : (a b most : ℕ) → min (min a most + b) most ≡ min (a + b) most
min-min a b most = grind (arith)

-- it is 24 more for each of their columns, and no more than may be
grown_by-is : (width : ℕ) (text : List ℕ) → width ≤ most_width → grown_by width text ≡ min (width + 24 * sum_by byte_columns text) most_width
grown_by-is width [] few = grind (arith, few)
grown_by-is width (b ∷ text) few =
    grown_by-is (wider width (byte_columns b)) text (omega arith)
    ∙ min-min (width + 24 * byte_columns b) (24 * sum_by byte_columns text) most_width
    ∙ ap (λ (n : ℕ). min n most_width) (omega (arith, sum_by-cons byte_columns b text))

grown_by-nothing : (text : List ℕ) → grown_by 0 text ≡ text_units text
grown_by-nothing text = grown_by-is 0 text (omega arith) ∙ ap (λ (n : ℕ). min n most_width) (omega arith)

-- a plain byte of such a text
byte_read-measured : (base : Surroundings) (d width b : ℕ) → ((b == d) ≡ false) × StandsForItself b
    → byte_read base (Width (Some d) width false ∷ []) b ≡ (GoesOn, Width (Some d) (wider width (byte_columns b)) false ∷ [])
byte_read-measured base d width b plain =
    let next : Reads = (GoesOn, Width (Some d) (wider width (byte_columns b)) false ∷ []) in
    let escape : Reads = (GoesOn, Backslash ∷ Width (Some d) width false ∷ []) in
    ap (λ (c : Bool). if c then (Measures width, []) else if b == backslash then escape else next) plain.0
    ∙ ap (λ (c : Bool). if c then escape else next) (not-first (b == backslash) (is_dropped b || b == newline) plain.1)

-- its bytes and its delimiter
finds-text : (base : Surroundings) (d width : ℕ) (text : List ℕ) → MayDelimit d → IsPlain d text
    → FindsAtLast base (Measures (grown_by width text)) [] (Width (Some d) width false ∷ []) (text ++ d ∷ [])
finds-text base d width [] may plain = AtLast _ d may (not-second (is_dropped d) (d == newline) may) (byte_read-delimiter base d width false [])
finds-text base d width (b ∷ text) may plain =
    let first = All-head (λ b. ((b == d) ≡ false) × StandsForItself b) b text plain in
    Behind _ _ b (text ++ d ∷ []) (IsRead-itself b first.1) (is_no_newline b first.1) (byte_read-measured base d width b first) refl
    (finds-text base d (wider width (byte_columns b)) text may (All-tail (λ b. ((b == d) ≡ false) × StandsForItself b) b text plain))

-- where texts are measured escapes are read
reads_escapes-measures_texts : (reading : LineState) → measures_texts reading ≡ true → reads_escapes reading ≡ true
reads_escapes-measures_texts LineStart is = refl
reads_escapes-measures_texts Branch is = refl
reads_escapes-measures_texts Braced is = refl
reads_escapes-measures_texts (InText line) is = refl
reads_escapes-measures_texts (Control breaks) is = absurd (cc)
reads_escapes-measures_texts (NameOf breaks first) is = absurd (cc)
reads_escapes-measures_texts (Collecting (InArguments breaks request)) is = refl
reads_escapes-measures_texts (Deciding keeps) is = refl
reads_escapes-measures_texts (Collecting (StringName appends)) is = refl
reads_escapes-measures_texts (Collecting (Calling name)) is = refl
reads_escapes-measures_texts (Collecting (StringText name appends is_front)) is = absurd (cc)
reads_escapes-measures_texts (Collecting (Defining name appends end matched)) is = absurd (cc)
reads_escapes-measures_texts (Skipping opened closed behind) is = absurd (cc)
reads_escapes-measures_texts Dropped is = absurd (cc)
reads_escapes-measures_texts (Collecting (Telling aborts is_front)) is = absurd (cc)
reads_escapes-measures_texts (Told aborts) is = absurd (cc)
reads_escapes-measures_texts Exiting is = absurd (cc)
reads_escapes-measures_texts TitleFront is = absurd (cc)
reads_escapes-measures_texts (InTitle delimiter) is = absurd (cc)

-- above a text line and above arguments widths are read, but not where a string's text is copied
reads_widths-above : (k : Known) (reading : LineState) → ReadsEscapes reading → measures_texts reading ≡ true → reads_widths (place_in k reading) ≡ true
reads_widths-above k _ AtBeginning reads = refl
reads_widths-above k _ AtBranch reads = refl
reads_widths-above k _ AtBraced reads = refl
reads_widths-above k _ (OnText line) reads = refl
reads_widths-above k _ (OnArguments breaks request) reads = refl
reads_widths-above k _ (OnCondition keeps) reads = refl
reads_widths-above k _ (OnStringName appends) reads = refl
reads_widths-above k _ (OnCall string) reads = refl
reads_widths-above k _ (OnStringText string appends is_front) reads = absurd (cc)
reads_widths-above k _ (OnDefinition string appends end matched) reads = absurd (cc)
reads_widths-above k _ (OnMessage aborts is_front) reads = absurd (cc)

-- `w`
byte_read-w : (base : Surroundings) → reads_widths base ≡ true → byte_read base (Backslash ∷ []) 119 ≡ (GoesOn, Width None 0 false ∷ [])
byte_read-w (AboveText place) reads = refl
byte_read-w AboveArguments reads = refl
byte_read-w AboveCopy reads = absurd (cc)

-- the bytes behind the backslash
finds-escape : (base : Surroundings) (d : ℕ) (text : List ℕ) → reads_widths base ≡ true → MayDelimit d → IsPlain d text
    → FindsAtLast base (Measures (text_units text)) [] (Backslash ∷ []) (119 ∷ d ∷ text ++ d ∷ [])
finds-escape base d text reads may plain =
    subst (λ (width : ℕ). FindsAtLast base (Measures width) [] (Backslash ∷ []) (119 ∷ d ∷ text ++ d ∷ [])) (grown_by-nothing text)
    (Behind _ _ 119 (d ∷ text ++ d ∷ []) refl refl (byte_read-w base reads) refl
    (Behind (Width None 0 false ∷ []) (Width (Some d) 0 false ∷ []) d (text ++ d ∷ []) may (not-second (is_dropped d) (d == newline) may) refl refl (finds-text base d 0 text may plain)))

-- the steps at the escape
after-width : (l : Limits) (s : State) (reading : LineState) (from : Origin) (a : Arguments) (d : ℕ) (text : List ℕ) (charge line : ℕ)
    → ReadsEscapes reading → measures_texts reading ≡ true → MayDelimit d → IsPlain d text
    → let first : State = going s reading from (width_escape d text) a [] charge line in
    let read : State = width_from from (text_units text) [] (length (width_escape d text)) first in
    IsWithin l first → IsWithin l read → after l (length (width_escape d text)) first ≡ read
after-width l s reading from a d text charge line on reads may plain within within_read =
    let escape : List ℕ = width_escape d text in
    let total : ℕ = charge + length escape in
    let next : ℕ = line_behind from s line in
    let there : Arguments = settled_for reading a in
    let t : State = measured s reading from there [] total next (text_units text) in
    let is : width_from from (text_units text) [] (length escape) (going s reading from escape a [] charge line) ≡ t =
    width_from-measured s reading from escape a [] [] charge (length escape) line (text_units text) on in
    let within_t : IsWithin l t = subst (IsWithin l) is within_read in
    let means : Means s reading from there total next (Measures (text_units text)) [] t =
    subst (λ (b : Arguments). Means s reading from there total next (Measures (text_units text)) [] (measured s reading from b [] total next (text_units text)))
    (settled_for-settled_for reading a on) (means-measures s reading from there total next (text_units text) [] on) in
    after-escape l s reading from a (Measures (text_units text)) [] [] (119 ∷ d ∷ text ++ d ∷ []) charge line t on refl refl
    (finds-escape (place_in (known s) reading) d text (reads_widths-above (known s) reading on reads) may plain) within_t.bytes
    (Fits-IsWithin l (going s reading from escape a [] charge line) within) means (Fits-IsWithin l t within_t)
    ∙ sym is

-- and in any state of such a run
width-reads : (l : Limits) (s : State) (from : Origin) (d : ℕ) (text : List ℕ) → MayDelimit d → IsPlain d text → TakesItems s
    → measures_texts s.reading ≡ true → s.input.escapes ≡ [] → s.input.ahead ≡ ahead_at from (width_escape d text) → s.tape ≡ tape_at from (width_escape d text) s.tape
    → let read : State = width_from from (text_units text) [] (length (width_escape d text)) s in
    IsWithin l s → IsWithin l read → after l (length (width_escape d text)) s ≡ read
width-reads l s from d text may plain takes reads none ahead tape =
    let on : ReadsEscapes s.reading = ReadsEscapes-reads_escapes s.reading (reads_escapes-measures_texts s.reading reads) in
    let escape : List ℕ = width_escape d text in
    let Goal : State → Type 0 = λ t.
    IsWithin l t → IsWithin l (width_from from (text_units text) [] (length escape) t)
    → after l (length escape) t ≡ width_from from (text_units text) [] (length escape) t in
    let is : going s s.reading from escape s.input.arguments [] s.input.charge s.input.line ≡ s =
    ap (λ (h : List OpenEscape). going s s.reading from escape s.input.arguments h s.input.charge s.input.line) (sym none)
    ∙ is-going s from escape takes ahead tape in
    subst Goal is (after-width l s s.reading from s.input.arguments d text s.input.charge s.input.line on reads may plain)

pub measured_texts_read_as_digits : MeasuredTextsReadAsDigits
measured_texts_read_as_digits l s d text rest may plain takes reads none ahead =
    width-reads l s (FromAhead rest) d text may plain takes reads none ahead refl

pub measured_texts_of_the_source_read_as_digits : MeasuredTextsOfTheSourceReadAsDigits
measured_texts_of_the_source_read_as_digits l s d text tape may plain takes reads none nothing stands =
    width-reads l s (FromSource tape) d text may plain takes reads none nothing stands
