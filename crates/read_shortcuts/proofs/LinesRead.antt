-- Control lines that are read at once with their arguments, some of them up to their newlines.
use Rattle.std.proofs.Common.{◌≡◌, ◌==◌, ◌||◌, ◌+◌, ◌≤◌, ℕ, Bool, true, false, List, [], ◌∷◌, ◌++◌, Option, None, append-nil, length, take, refl, sym, ap, subst, ◌∙◌, arith, eqb-true, length-append, take-take, if◌then◌else◌}
use Rattle.std.specs.List.{AllByRecursion}
use Rattle.input_escapes.specs.OpenEscape.{OpenEscape}
use Rattle.input_model.specs.Arguments.{Arguments, bytes_held}
use Rattle.input_model.specs.Unread.{IsWithin}
use Rattle.input_source.specs.Bytes.{backslash, blank, is_argument_byte, is_dropped, newline, tab}
use Rattle.input_source.specs.Tape.{Tape}
use Rattle.roff_store.specs.Named.{Named}
use Rattle.roff_store.specs.Texts.{Entry}
use Rattle.roff_num.specs.declared.short_name.ShortName.{ShortName}
use Rattle.read_names.specs.NamesRead.{half_begun}
use Rattle.roff_scan.proofs.RunKinds.{no_newline_of}
use Rattle.roff_scan.proofs.Staged.{passes-staged, stage-behind, staged}
use Rattle.roff_scan.specs.Unread.Calls.{IsFront, NoNewline, PassesFront, front_bytes, next_bytes}
use Rattle.roff_scan.specs.Unread.Lines.{HoldsLine, StandsNewline, begins_with_newline, ended_by, is_ended, with_held}
use Rattle.roff_scan.specs.declared.unread.lines.BehindHeld.{BehindHeld}
use Rattle.run_model.proofs.ItemsTaken.{not-second}
use Rattle.roff_scan.specs.Unread.Runs.{with_stage_of}
use Rattle.run_model.specs.Reading.ControlLines.{BelongsToName, ends_name}
use Rattle.run_model.specs.Reading.Ends.{due}
use Rattle.run_model.specs.Reading.Items.{PageInput, PageUnread}
use Rattle.run_model.specs.Stages.{Growing, Here, HoldsIfFewer, Onward, Stage, Turned, stage_of}
use Rattle.run_model.specs.declared.line_state.LineState.{LineState}
use Rattle.read_lines.specs.Reader.State.{ReaderState}
use Rattle.read_shortcuts.specs.ControlFronts.{Fronts, HoldsArguments, StandsName, StandsReady, control_byte}
use Rattle.read_shortcuts.specs.Stages.{ReadsLine, ReadsPast}
use Rattle.read_shortcuts.specs.declared.control.ControlFront.{ControlFront}
use Rattle.read_shortcuts.proofs.ControlFronts.{control_plain, stage_with, turned-named}
use Rattle.read_shortcuts.proofs.HeldRuns.{holds_call_where, holds_request, turned-held}
use Rattle.read_shortcuts.specs.Runs.{IsRun}
use Rattle.roff_scan.specs.declared.run_kind.RunKind.TheVariants.{Arguments as ArgumentsRun, CallArguments}
use Rattle.run_model.specs.declared.line_state.LineState.TheVariants.{Collecting}
use Rattle.run_model.specs.declared.purpose.Purpose.TheVariants.{Arguments as InArguments, Calling}
use Rattle.run_model.specs.declared.request.Request.{Request}
use Rattle.read_shortcuts.proofs.RunsRead.{turned-behind}

-- one path behind another
pub Turned-append : (names : Named Entry) (p q r : Stage) (front behind : List ℕ) → Turned names p front q → Turned names q behind r → Turned names p (front ++ behind) r
Turned-append names _ q r _ behind (Here p) others = others
Turned-append names p _ r _ behind (Onward _ next q b bytes none_due stays turns same least most path) others =
    Onward p next r b (bytes ++ behind) none_due stays turns same least most (Turned-append names next q r bytes behind path others)
Turned-append names p _ r _ behind (Growing _ next q b bytes none_due stays turns grow least most path) others =
    Growing p next r b (bytes ++ behind) none_due stays turns grow least most (Turned-append names next q r bytes behind path others)

-- bytes that have no newline, and others that have none
pub plain-append : (front bytes : List ℕ) → NoNewline front → NoNewline bytes → NoNewline (front ++ bytes)
plain-append [] bytes first others = others
plain-append (b ∷ front) bytes first others = (first.0, plain-append front bytes first.1 others)

-- the three bytes of a control line's front
abbrev pub three : ControlFront → List ℕ
three front = control_byte front.breaks ∷ front.first ∷ front.second ∷ []

-- a byte of a name is no newline
not_third : (first second third fourth : Bool) → first || (second || (third || fourth)) ≡ false → third ≡ false
not_third true second third fourth none = absurd (cc)
not_third false true third fourth none = absurd (cc)
not_third false false true fourth none = absurd (cc)
not_third false false false fourth none = refl

pub named_plain : (b : ℕ) → BelongsToName b → (b == newline) ≡ false
named_plain b belongs = not_third (b == blank) (b == tab) (b == newline) (b == backslash) (not-second (is_dropped b) (ends_name b) belongs)

three_plain : (front : ControlFront) (there reading : LineState) (ready : List ℕ) (u : PageUnread) → StandsName front there reading ready u → NoNewline (three front)
three_plain front there reading ready u named = (control_plain front.breaks, (named_plain front.first named.first, (named_plain front.second named.second, tt)))

pub front_plain : (front : ControlFront) (there reading : LineState) (ready : List ℕ) (u : PageUnread) → StandsName front there reading ready u → NoNewline (front_bytes 3 ready u)
front_plain front there reading ready u named = subst NoNewline named.stands.are (three_plain front there reading ready u named)

-- These bytes stand in front, without a newline, where nothing is half read, and lead to where this is read, with these arguments of the line.
pub record LeadsBehind (first : List ℕ) (there reading : LineState) (a : Arguments) (ready : List ℕ) (u : PageUnread) : Type 0 where
  pub stands : StandsReady first ready u
  pub some : 1 ≤ length first
  pub plain : NoNewline first
  pub none_half : u.input.escapes ≡ []
  pub none_due : due there ≡ None
  pub turned : Turned u.input.names (stage_with reading [] u.input.arguments u.input.open_texts) first (stage_with there [] a u.input.open_texts)

-- those up to the end of a name of two bytes do, where no condition is read behind it
pub named-leads : (front : ControlFront) (there reading : LineState) (ready : List ℕ) (u : PageUnread) → StandsName front there reading ready u → HoldsArguments there
    → LeadsBehind (three front) there reading u.input.arguments ready u
named-leads front there reading ready u named holds =
    let i : PageInput = u.input in
    record {
      stands = named.stands;
      some = omega arith;
      plain = three_plain front there reading ready u named;
      none_half = named.none_half;
      none_due = holds.0;
      turned =
          subst (λ (deciding : Bool). Turned i.names (stage_with reading [] i.arguments i.open_texts) (three front) (stage_with there (half_begun deciding []) i.arguments i.open_texts)) holds.1
          (turned-named i.names reading there front.breaks front.first front.second i.arguments i.open_texts named.none_due named.begins named.first named.second named.leads);
    }

module _ (gave gives : Tape → Type 0) (r : ReaderState) (there : LineState) (first ready : List ℕ) (before : PageUnread) (begun : Arguments) (held : List ℕ)
    (leads : LeadsBehind first there r.reading begun ready before) (are : AllByRecursion (λ b. is_argument_byte b ≡ true) held)
    (turned_held : Turned before.input.names (stage_with there [] begun before.input.open_texts) held (stage_with there [] (bytes_held held begun) before.input.open_texts)) where
  abbrev i : PageInput
  i = before.input

  abbrev a : Arguments
  a = bytes_held held begun

  -- the bytes of the line
  abbrev pub line_bytes : List ℕ
  line_bytes = front_bytes (length first) ready before ++ held

  -- they lead behind its arguments
  turned-line : Turned i.names (stage_of r.reading i) line_bytes (stage_with there i.escapes a i.open_texts)
  turned-line =
      subst (λ (bytes : List ℕ). Turned i.names (stage_of r.reading i) (bytes ++ held) (stage_with there i.escapes a i.open_texts)) leads.stands.are
      (subst (λ (half : List OpenEscape). Turned i.names (stage_with r.reading half i.arguments i.open_texts) (first ++ held) (stage_with there half a i.open_texts)) (sym leads.none_half)
      (Turned-append i.names (stage_with r.reading [] i.arguments i.open_texts) (stage_with there [] begun i.open_texts) (stage_with there [] a i.open_texts) first held
      leads.turned turned_held))

  module _ (bytes : List ℕ) (after : PageUnread) (passes : PassesFront gave gives bytes (with_held a before) after) where
    -- what they change is there
    stage : after.input ≡ staged i.escapes a i.open_texts after.input
    stage = stage-behind gave gives bytes i.escapes a i.open_texts before after passes

    turned-there : Turned i.names (stage_of r.reading i) line_bytes (stage_of there after.input)
    turned-there =
        turned-behind i.names (stage_of r.reading i) line_bytes there after.input i.escapes a i.open_texts (ap (λ (j : PageInput). j.escapes) stage)
        (ap (λ (j : PageInput). j.arguments) stage) (ap (λ (j : PageInput). j.open_texts) stage) turned-line

  -- there are some
  some_bytes : 1 ≤ length line_bytes
  some_bytes =
      subst (λ (bytes : List ℕ). 1 ≤ length (bytes ++ held)) leads.stands.are (omega (arith, length-append first held, leads.some))

  -- so the bytes were read past
  pub reads-held : (after : PageUnread) → PassesFront gave gives line_bytes (with_held a before) after → IsWithin after → ReadsPast gave gives r (record r { reading = there }) before after
  reads-held after passes within = record {
    bytes = line_bytes;
    turned = turned-there line_bytes after passes;
    passes = passes-staged gave gives line_bytes i.escapes a i.open_texts before after passes;
    registers = refl;
    meaning = refl;
    within = within;
  }

  -- or the line, up to its newline
  pub reads-line : (after : PageUnread) → IsWithin (with_held a before)
      → PassesFront gave gives (line_bytes ++ newline ∷ []) (with_held a before) after → ReadsLine gave gives r (record r { reading = there }) before after
  reads-line after within passes =
      let is : after.input ≡ staged i.escapes a i.open_texts after.input = stage (line_bytes ++ newline ∷ []) after passes in
      let same : with_stage_of after.input i ≡ staged i.escapes a i.open_texts i = ap (λ (j : PageInput). with_stage_of j i) is in
      let first_plain : NoNewline (front_bytes (length first) ready before) = subst NoNewline leads.stands.are leads.plain in
      record {
        bytes = line_bytes;
        turned = turned-there (line_bytes ++ newline ∷ []) after passes;
        some = some_bytes;
        plain = plain-append (front_bytes (length first) ready before) held first_plain (no_newline_of is_argument_byte refl held are);
        passes = subst (λ (j : PageInput). PassesFront gave gives (line_bytes ++ newline ∷ []) (record before { input = j }) after) (sym same) passes;
        within = subst (λ (j : PageInput). IsWithin (record before { input = j })) (sym same) within;
        registers = refl;
        meaning = refl;
        none_half = ap (λ (j : PageInput). j.escapes) is ∙ leads.none_half;
        none_due = leads.none_due;
      }

-- what was held of a line leads there
module _ (gave gives : Tape → Type 0) (r new : ReaderState) (there : LineState) (first ready : List ℕ) (behind : BehindHeld) (before after : PageUnread) (begun : Arguments) (most : Option ℕ)
    (leads : LeadsBehind first there r.reading begun ready before) (each : (b : ℕ) → is_argument_byte b ≡ true → HoldsIfFewer most there b)
    (line : HoldsLine most (length first) gave gives ready behind (with_held begun before) after) (is : new ≡ record r { reading = there }) where
  turned : Turned before.input.names (stage_with there [] begun before.input.open_texts) line.held (stage_with there [] (bytes_held line.held begun) before.input.open_texts)
  turned = turned-held most before.input.names there [] before.input.open_texts begun line.held refl leads.none_due each line.are_held line.fewer

  -- what was taken, by whether it ended
  abbrev Passes : Bool → Type 0
  Passes ended =
      let bytes : List ℕ = front_bytes (length first) ready before ++ line.held in
      PassesFront gave gives (if ended then bytes ++ newline ∷ [] else bytes) (with_held (bytes_held line.held begun) before) after

  -- past its bytes
  pub held-past : is_ended behind ≡ false → IsWithin after → ReadsPast gave gives r new before after
  held-past left within =
      subst (λ (n : ReaderState). ReadsPast gave gives r n before after) (sym is)
      (reads-held gave gives r there first ready before begun line.held leads line.are_held turned after (subst Passes left line.passes) within)

  -- where nothing is half read
  pub held-half : after.input.escapes ≡ []
  held-half =
      ap (λ (j : PageInput). j.escapes)
      (stage-behind gave gives (ended_by behind (front_bytes (length first) ready before ++ line.held)) before.input.escapes (bytes_held line.held begun) before.input.open_texts before after line.passes)
      ∙ leads.none_half

  -- up to its newline
  pub held-line : is_ended behind ≡ true → ReadsLine gave gives r new before after
  held-line ended =
      subst (λ (n : ReaderState). ReadsLine gave gives r n before after) (sym is)
      (reads-line gave gives r there first ready before begun line.held leads line.are_held turned after line.within (subst Passes ended line.passes))

-- a line of which nothing was held
pub bare-line : (gave gives : Tape → Type 0) (r new : ReaderState) (there : LineState) (first ready : List ℕ) (before after : PageUnread)
    → LeadsBehind first there r.reading before.input.arguments ready before → IsWithin before → PassesFront gave gives (front_bytes (length first) ready before ++ newline ∷ []) before after
    → new ≡ record r { reading = there } → ReadsLine gave gives r new before after
bare-line gave gives r new there first ready before after leads within passes is =
    subst (λ (n : ReaderState). ReadsLine gave gives r n before after) (sym is)
    (reads-line gave gives r there first ready before before.input.arguments [] leads tt (Here (stage_with there [] before.input.arguments before.input.open_texts)) after within
    (subst (λ (bytes : List ℕ). PassesFront gave gives (bytes ++ newline ∷ []) before after) (sym (append-nil (front_bytes (length first) ready before))) passes))

-- a newline stands behind the front that bytes begin with
pub ended-front : (front : ControlFront) (bytes ready : List ℕ) (u : PageUnread) (fronts : Fronts bytes front) → bytes ≡ front_bytes (length bytes) ready u → IsFront (length bytes) ready u
    → front.ends ≡ true → StandsNewline 3 ready u
ended-front front bytes ready u fronts are stands ends = there fronts.rest fronts.are (sym fronts.ends ∙ ends)
  where
    next : List ℕ
    next = next_bytes u.input.ahead u.looked ready

    there : (rest : List ℕ) → bytes ≡ three front ++ rest → begins_with_newline rest ≡ true → StandsNewline 3 ready u
    there [] split is = absurd (cc)
    there (b ∷ rest) split is =
        let many : length bytes ≡ length rest + 4 = ap length split ∙ omega arith in
        let few : 4 ≤ length bytes = omega (arith, many) in
        let first : (n : ℕ) → n ≤ length bytes → take n next ≡ take n (three front ++ b ∷ rest) =
        λ n enough. sym (take-take n (length bytes) next enough) ∙ ap (take n) (sym are ∙ split) in
        record {
          front = record { among = omega (arith, stands.among, few); within = omega (arith, stands.within, few) };
          last =
              first 4 few ∙ ap (λ (c : ℕ). three front ++ c ∷ []) (eqb-true b newline is)
              ∙ ap (λ (bytes : List ℕ). bytes ++ newline ∷ []) (sym (first 3 (omega (arith, few))));
        }

-- behind a request's name they are held
pub request-holds : (breaks : Bool) (request : Request) (there : LineState) → there ≡ Collecting (InArguments breaks request) → HoldsArguments there
request-holds breaks request there is = subst HoldsArguments (sym is) (refl, refl)

pub request-each : (breaks : Bool) (request : Request) (there : LineState) → there ≡ Collecting (InArguments breaks request) → (b : ℕ) → is_argument_byte b ≡ true → HoldsIfFewer None there b
request-each breaks request there is b plain = subst (λ (r : LineState). HoldsIfFewer None r b) (sym is) (holds_request breaks request b plain)

-- and behind that of a body
pub call-holds : (name : ShortName) (there : LineState) → there ≡ Collecting (Calling name) → HoldsArguments there
call-holds name there is = subst HoldsArguments (sym is) (refl, refl)

-- behind a request's name arguments are held
pub runs-arguments : (breaks : Bool) (request : Request) (reading : LineState) (half : List OpenEscape) → reading ≡ Collecting (InArguments breaks request) → half ≡ [] → IsRun ArgumentsRun reading half
runs-arguments breaks request reading half is none =
    subst (λ (r : LineState). IsRun ArgumentsRun r half) (sym is) (record {
      does = λ b plain k i bare. holds_request breaks request b plain k i bare tt;
      half_read = none;
      none_due = refl;
    })

-- and behind that of a body, as long as fewer than eight are whole
pub runs-call : (name : ShortName) (reading : LineState) (half : List OpenEscape) → reading ≡ Collecting (Calling name) → half ≡ [] → IsRun (CallArguments 8) reading half
runs-call name reading half is none =
    subst (λ (r : LineState). IsRun (CallArguments 8) r half) (sym is) (record {
      does = λ b plain. holds_call_where (Collecting (Calling name)) name refl b plain;
      half_read = none;
      none_due = refl;
    })
