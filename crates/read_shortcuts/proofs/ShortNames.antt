-- Names of one byte behind a dot or apostrophe, with the blank or the newline that ends them: what they lead to.
use Rattle.std.proofs.Common.{◌≡◌, ℕ, ◌+◌, ◌≤◌, Bool, true, false, List, [], ◌∷◌, ◌++◌, Option, None, Some, refl, sym, ap, subst, ◌∙◌, arith}
use Rattle.input_arguments.proofs.HeldBytes.{held-byte}
use Rattle.input_model.specs.Arguments.{AreFewer, Arguments, held}
use Rattle.input_model.specs.Unread.{IsWithin}
use Rattle.input_source.specs.Bytes.{blank, is_argument_byte, newline}
use Rattle.input_source.specs.Tape.{Tape}
use Rattle.read_lines.specs.Reader.State.{ReaderState}
use Rattle.read_names.specs.NamesRead.{input_begun}
use Rattle.roff_num.specs.declared.short_name.ShortName.{ShortName}
use Rattle.roff_scan.specs.Unread.Calls.{NoNewline, PassesFront, front_bytes}
use Rattle.roff_store.specs.Named.{Named}
use Rattle.roff_store.specs.Texts.{Entry}
use Rattle.run_model.proofs.NameBytes.{turns-first}
use Rattle.run_model.specs.Reading.{undropped_taking}
use Rattle.run_model.specs.Reading.Branches.{branch_of, reads_else}
use Rattle.run_model.specs.Reading.ControlLines.{BelongsToName, behind_called, behind_name, called_taking, line_taking}
use Rattle.run_model.specs.Reading.Ends.{due}
use Rattle.run_model.specs.Reading.Items.{PageInput, PageUnread, Taking, going_on}
use Rattle.run_model.specs.Registers.{Known}
use Rattle.run_model.specs.Requests.{called_by, row_of}
use Rattle.run_model.specs.Stages.{Here, HoldsIfFewer, Onward, Stage, Turned, Turns, input_at}
use Rattle.input_model.specs.Input.Calls.{last_result}
use Rattle.run_model.specs.declared.line_state.LineState.{LineState}
use Rattle.run_model.specs.declared.line_state.LineState.TheVariants.{Collecting, Control, Dropped, Name}
use Rattle.run_model.specs.declared.purpose.Purpose.TheVariants.{Arguments as InArguments, Calling}
use Rattle.run_model.specs.declared.request.Called.{Called}
use Rattle.run_model.specs.declared.request.Called.TheVariants.{Request as ARequest, Body as ABody, Nothing as Unknown}
use Rattle.run_model.specs.declared.request.LineReading.{LineReading}
use Rattle.run_model.specs.declared.request.LineReading.TheVariants.{ByArguments, ByCondition, ByElse, ByLastLine, ByLines, ByMessage, ByString, ByTitle}
use Rattle.run_model.specs.declared.request.Request.{Request}
use Rattle.read_shortcuts.specs.ControlFronts.{BeginsControl, StandsReady, control_byte}
use Rattle.read_shortcuts.specs.ShortNames.{StandsShort, takes_blank, with_blank}
use Rattle.read_shortcuts.specs.Stages.{ReadsLine}
use Rattle.read_shortcuts.specs.declared.control.ControlFront.{ControlFront}
use Rattle.read_shortcuts.proofs.ControlFronts.{control_plain, ready-some, stage_with}
use Rattle.read_shortcuts.proofs.HeldRuns.{held-byte_least, holds_call_where}
use Rattle.read_shortcuts.proofs.LinesRead.{LeadsBehind, bare-line, named_plain, request-each}

-- a branch isn't read on in arguments
no_branch : (so : Bool) → takes_blank (branch_of so) ≡ false
no_branch true = refl
no_branch false = refl

-- The byte that ends a request's name does what it does where the name leads, if arguments are read there.
line-again : (k : Known) (i : PageInput) (breaks : Bool) (request : Request) (line : LineReading) (there : LineState) (b : ℕ) → takes_blank there ≡ true
    → behind_name i breaks request line ≡ going_on (input_begun there i) there → line_taking k i breaks request line b ≡ undropped_taking k there i b
line-again k i breaks request ByArguments there b takes leads = ap (λ (r : LineState). undropped_taking k r i b) (ap (λ (t : Taking). t.reading) leads)
line-again k i breaks request (ByCondition keeps) there b takes leads =
    let wrong : false ≡ true = ap (λ (t : Taking). takes_blank t.reading) leads ∙ takes in absurd (cc)
line-again k i breaks request (ByString appends) there b takes leads =
    let wrong : false ≡ true = ap (λ (t : Taking). takes_blank t.reading) leads ∙ takes in absurd (cc)
line-again k i breaks request ByLastLine there b takes leads = ap (λ (r : LineState). undropped_taking k r i b) (ap (λ (t : Taking). t.reading) leads)
line-again k i breaks request (ByMessage aborts) there b takes leads =
    let wrong : false ≡ true = ap (λ (t : Taking). takes_blank t.reading) leads ∙ takes in absurd (cc)
line-again k i breaks request (ByLines lines) there b takes leads = ap (λ (r : LineState). undropped_taking k r i b) (ap (λ (t : Taking). t.reading) leads)
line-again k i breaks request ByTitle there b takes leads =
    let wrong : false ≡ true = ap (λ (t : Taking). takes_blank t.reading) leads ∙ takes in absurd (cc)
line-again k i breaks request ByElse there b takes leads =
    let wrong : false ≡ true = sym (no_branch (reads_else (last_result i))) ∙ ap (λ (t : Taking). takes_blank t.reading) leads ∙ takes in absurd (cc)

-- so does the one that ends any other name, if the line is dropped then, or a body is called
called-again : (k : Known) (i : PageInput) (breaks : Bool) (called : Called) (there : LineState) (b : ℕ) → takes_blank there ≡ true
    → behind_called i breaks called ≡ going_on (input_begun there i) there → called_taking k i breaks called b ≡ undropped_taking k there i b
called-again k i breaks (ARequest request) there b takes leads = line-again k i breaks request (row_of request).line there b takes leads
called-again k i breaks (ABody name) there b takes leads = ap (λ (r : LineState). undropped_taking k r i b) (ap (λ (t : Taking). t.reading) leads)
called-again k i breaks Unknown there b takes leads = ap (λ (r : LineState). undropped_taking k r i b) (ap (λ (t : Taking). t.reading) leads)

-- a dot or apostrophe, and a byte of a name
turned-begun : (names : Named Entry) (reading : LineState) (breaks : Bool) (first : ℕ) (a : Arguments) (texts : List (List ℕ)) → due reading ≡ None → BeginsControl reading → BelongsToName first
    → Turned names (stage_with reading [] a texts) (control_byte breaks ∷ first ∷ []) (stage_with (Name breaks first) [] a texts)
turned-begun names reading breaks first a texts none_due begins named =
    let p : Stage = stage_with reading [] a texts in
    let control : Stage = stage_with (Control breaks) [] a texts in
    let name : Stage = stage_with (Name breaks first) [] a texts in
    Onward p control name (control_byte breaks) (first ∷ []) none_due refl (λ k i. begins k (input_at names p i) breaks refl) refl (omega arith) (omega arith)
    (Onward control name name first [] refl refl (turns-first names a texts breaks first named) refl (omega arith) (omega arith) (Here name))

-- and a blank, which does what it does where the name leads
turned-short : (names : Named Entry) (reading there : LineState) (breaks : Bool) (first : ℕ) (a begun : Arguments) (texts : List (List ℕ)) → due reading ≡ None → BeginsControl reading → BelongsToName first
    → takes_blank there ≡ true → ((i : PageInput) → behind_called i breaks (called_by (record { first = first; second = None }) names) ≡ going_on (input_begun there i) there)
    → Turns names (stage_with there [] a texts) blank (stage_with there [] begun texts) → held a ≤ held begun → held begun ≤ held a + 1
    → Turned names (stage_with reading [] a texts) (control_byte breaks ∷ first ∷ blank ∷ []) (stage_with there [] begun texts)
turned-short names reading there breaks first a begun texts none_due begins named takes leads next least most =
    let p : Stage = stage_with reading [] a texts in
    let control : Stage = stage_with (Control breaks) [] a texts in
    let name : Stage = stage_with (Name breaks first) [] a texts in
    let q : Stage = stage_with there [] begun texts in
    let turns : Turns names name blank q = λ k i.
    called-again k (input_at names name i) breaks (called_by (record { first = first; second = None }) names) there blank takes (leads (input_at names name i)) ∙ next k i in
    Onward p control q (control_byte breaks) (first ∷ blank ∷ []) none_due refl (λ k i. begins k (input_at names p i) breaks refl) refl (omega arith) (omega arith)
    (Onward control name q first (blank ∷ []) refl refl (turns-first names a texts breaks first named) refl (omega arith) (omega arith)
    (Onward name q q blank [] refl refl turns refl (omega (arith, least)) (omega (arith, most)) (Here q)))

-- a name that a blank ends leads to where the line is read on, with the blank in its arguments
module _ (there reading : LineState) (ready : List ℕ) (u : PageUnread) (short : StandsShort there reading ready u) where
  -- the bytes
  abbrev pub short_bytes : List ℕ
  short_bytes = control_byte short.breaks ∷ short.first ∷ blank ∷ []

  pub short-plain : NoNewline short_bytes
  short-plain = (control_plain short.breaks, (named_plain short.first short.named, (refl, tt)))

  leads-with : (begun : Arguments) → due there ≡ None → takes_blank there ≡ true
      → Turns u.input.names (stage_with there [] u.input.arguments u.input.open_texts) blank (stage_with there [] begun u.input.open_texts)
      → held u.input.arguments ≤ held begun → held begun ≤ held u.input.arguments + 1 → LeadsBehind short_bytes there reading begun ready u
  leads-with begun none_due_there takes next least most = record {
    stands = short.stands;
    some = omega arith;
    plain = short-plain;
    none_half = short.none_half;
    none_due = none_due_there;
    turned =
        turned-short u.input.names reading there short.breaks short.first u.input.arguments begun u.input.open_texts short.none_due short.begins short.named takes short.leads next least most;
  }

  -- where they are held
  held-leads : (most : Option ℕ) → due there ≡ None → takes_blank there ≡ true → ((b : ℕ) → is_argument_byte b ≡ true → HoldsIfFewer most there b) → AreFewer most u.input.arguments
      → LeadsBehind short_bytes there reading (with_blank u.input.arguments) ready u
  held-leads most none_due_there takes each fewer =
      let a : Arguments = u.input.arguments in
      leads-with (with_blank a) none_due_there takes
      (λ k i. each blank refl k (input_at u.input.names (stage_with there [] a u.input.open_texts) i) refl fewer) (held-byte_least a blank) (held-byte a blank)

  pub request-leads : (breaks : Bool) (request : Request) → there ≡ Collecting (InArguments breaks request) → LeadsBehind short_bytes there reading (with_blank u.input.arguments) ready u
  request-leads breaks request is = held-leads None (ap due is) (ap takes_blank is) (request-each breaks request there is) tt

  pub call-leads : (name : ShortName) → there ≡ Collecting (Calling name) → AreFewer (Some 8) u.input.arguments → LeadsBehind short_bytes there reading (with_blank u.input.arguments) ready u
  call-leads name is fewer = held-leads (Some 8) (ap due is) (ap takes_blank is) (holds_call_where there name is) fewer

  -- where the line is dropped
  pub dropped-leads : there ≡ Dropped → LeadsBehind short_bytes there reading u.input.arguments ready u
  dropped-leads is =
      let a : Arguments = u.input.arguments in
      leads-with a (ap due is) (ap takes_blank is)
      (subst (λ (r : LineState). Turns u.input.names (stage_with r [] a u.input.open_texts) blank (stage_with r [] a u.input.open_texts)) (sym is) (λ k i. refl))
      (omega arith) (omega arith)

-- in front of a newline the name is read alone
pub name-line : (gave gives : Tape → Type 0) (r new : ReaderState) (front : ControlFront) (ready : List ℕ) (before after : PageUnread) → due r.reading ≡ None → BeginsControl r.reading
    → before.input.escapes ≡ [] → StandsReady (control_byte front.breaks ∷ front.first ∷ front.second ∷ []) ready before → BelongsToName front.first → IsWithin before
    → PassesFront gave gives (front_bytes 2 ready before ++ newline ∷ []) before after → new ≡ record r { reading = Name front.breaks front.first } → ReadsLine gave gives r new before after
name-line gave gives r new front ready before after none_due begins none_half stands named within passes is =
    let i : PageInput = before.input in
    let two : List ℕ = control_byte front.breaks ∷ front.first ∷ [] in
    bare-line gave gives r new (Name front.breaks front.first) two ready before after (record {
      stands = ready-some two (front.second ∷ []) ready before stands;
      some = omega arith;
      plain = (control_plain front.breaks, (named_plain front.first named, tt));
      none_half = none_half;
      none_due = refl;
      turned = turned-begun i.names r.reading front.breaks front.first i.arguments i.open_texts none_due begins named;
    }) within passes is
