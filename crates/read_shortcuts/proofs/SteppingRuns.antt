-- Runs over an escape that steps a register: its bytes lead from stage to stage, and behind the last one the register is stepped, and its
-- text is in front.
use Rattle.std.proofs.Common.{◌≡◌, ℕ, ◌+◌, ◌≤◌, Bool, false, List, [], ◌∷◌, length, Option, Some, None, refl, ap, sym, subst, append-nil, ◌∙◌, if◌then◌else◌}
use Rattle.roff_num.specs.declared.direction.Direction.{Direction}
use Rattle.roff_num.specs.declared.limit.Limit.{Limit}
use Rattle.roff_num.specs.declared.limits.Limits.{Limits}
use Rattle.roff_num.specs.declared.num.Num.{Num}
use Rattle.input_escapes.specs.Waiting.{is_ended_by}
use Rattle.input_model.specs.Input.{pushing}
use Rattle.roff_store.specs.Named.{Named}
use Rattle.roff_store.specs.Registers.{next_value}
use Rattle.roff_store.specs.Texts.{Entry}
use Rattle.run_model.proofs.ItemsTaken.{IsOpenFor, Origin, ahead_at, tape_at}
use Rattle.run_model.proofs.PlainRuns.{behind_byte, behind_bytes, counted, run_at}
use Rattle.run_model.specs.Reading.{byte_taking}
use Rattle.run_model.specs.Reading.Ends.{due}
use Rattle.run_model.specs.Reading.Escapes.{interpolating}
use Rattle.run_model.specs.Reading.Items.{PageInput, Taking}
use Rattle.run_model.specs.Registers.{AllRegisters, Known, StepBy, changed_by, is_page, known_behind, number_in_range, numbered, page_register, page_stepped, step_messages, text_of_register}
use Rattle.run_model.specs.Requests.Effects.{page_numbered}
use Rattle.run_model.specs.Run.{Leads, State, nothing_follows, known, known_at, made, step, taken_as, unless_refused}
use Rattle.run_model.specs.Run.Counts.{counts_in, first_passed}
use Rattle.run_model.specs.Stages.{Stage, input_at, stage_of}
use Rattle.run_model.specs.declared.line_state.LineState.{LineState}
use Rattle.run_model.specs.declared.line_state.LineState.TheVariants.{Text as InText}
use Rattle.run_model.specs.declared.line_state.TextLine.{TextLine}
use Rattle.run_model.specs.declared.message.Message.{Message}
use Rattle.read_shortcuts.specs.SteppedNames.{AsksStep}
use Rattle.read_shortcuts.proofs.PuttingRuns.{before_byte, input-last, leads-last}
use Rattle.read_shortcuts.proofs.TurnedRuns.{IsGoing, stage_input, step-byte}

module _ (direction : Direction) (name : List ℕ) where
  -- the registers behind the step
  abbrev pub stepped : AllRegisters → AllRegisters
  stepped rs = changed_by (StepBy name direction) rs

  -- nothing is said of the step where these are the registers
  abbrev pub IsQuiet : AllRegisters → Type 0
  IsQuiet rs = (k : Known) → k.registers ≡ rs → step_messages (Some direction) name k ≡ []

  -- the step, where this is said of it, and the page gets this number
  abbrev stepping_with : Known → PageInput → LineState → List Message → Option Num → Taking
  stepping_with k i reading said number = record {
    input = pushing (text_of_register (record (known_behind (StepBy name direction ∷ []) k) { layout = numbered number k.layout }) name) i;
    reading = reading;
    effect = record {
      messages = said;
      changes = StepBy name direction ∷ [];
      calls = [];
      events = page_numbered number;
    };
  }

  -- nothing is said of it, and the page gets no number
  quietly : (k : Known) (i : PageInput) (reading : LineState) → step_messages (Some direction) name k ≡ [] → is_page name ≡ false
      → interpolating k i reading (Some direction) name ≡ stepping_with k i reading [] None
  quietly k i reading quiet unnumbered =
      ap (λ (said : List Message). stepping_with k i reading said (page_stepped (Some direction) name k)) quiet
      ∙ ap (λ (c : Bool). stepping_with k i reading [] (if c then number_in_range (next_value direction (page_register k)) else None)) unnumbered

  -- what is done then
  taken_as-stepping : (k : Known) (i : PageInput) (reading : LineState) (s : State)
      → taken_as (stepping_with k i reading [] None) s
      ≡ record s { input = pushing (text_of_register (known_behind (StepBy name direction ∷ []) k) name) i; reading = reading; registers = stepped s.registers }
  taken_as-stepping k i reading s =
      ap (λ (m : List ℕ). record s { input = pushing (text_of_register (known_behind (StepBy name direction ∷ []) k) name) i; reading = reading; registers = stepped s.registers; messages = m })
      (append-nil s.messages)

  -- the step at the last byte
  step-stepped : (l : Limits) (s : State) (names : Named Entry) (from : Origin) (p q : Stage) (b : ℕ) (text : List ℕ) (j : PageInput)
      → IsGoing from s → due q.reading ≡ None → is_ended_by q.escapes (Some b) ≡ false → j.charge + 1 ≤ l.bytes
      → ((k : Known) (i : PageInput) → byte_taking k q.reading (input_at names q i) b ≡ interpolating k (input_at names p i) p.reading (Some direction) name)
      → IsQuiet s.registers → is_page name ≡ false
      → (let there : PageInput = stage_input names p from [] (behind_byte from b j) in text ≡ text_of_register (known_at s.history (stepped s.registers) there) name)
      → first_passed l (counts_in (stepped s.registers) (pushing text (stage_input names p from [] (behind_byte from b j)))) ≡ None
      → step l (run_at s names q from (b ∷ []) j)
      ≡ record s { tape = tape_at from [] s.tape; input = pushing text (stage_input names p from [] (behind_byte from b j)); reading = p.reading; registers = stepped s.registers }
  step-stepped l s names from p q b text j on none_due stays few asks quiet unnumbered is_text fits =
      let before : State = run_at s names q from (b ∷ []) j in
      let taken : State = run_at s names q from [] (behind_byte from b j) in
      let there : PageInput = record (behind_byte from b j) { ahead = ahead_at from [] } in
      let behind : List ℕ → State = λ digits. record taken { input = pushing digits (input_at names p there); reading = p.reading; registers = stepped s.registers } in
      step-byte l s names from q b [] j on none_due stays few
      ∙ ap (λ (t : Taking). made l before (taken_as t taken)) (asks (known taken) there ∙ quietly (known taken) (input_at names p there) p.reading (quiet (known taken) refl) unnumbered)
      ∙ ap (made l before) (taken_as-stepping (known taken) (input_at names p there) p.reading taken)
      ∙ ap (λ (digits : List ℕ). made l before (behind digits)) (sym is_text)
      ∙ ap (λ (r : Option Limit). unless_refused l r before (behind text)) fits

  -- a run leads over the escape on a text line, where no count is above its limit in front of it and behind it
  pub leads-stepped : (l : Limits) (s : State) (line : TextLine) (from : Origin) (bytes text : List ℕ) → s.ended ≡ None → s.to_do ≡ [] → s.follows ≡ nothing_follows → IsOpenFor from s.is_closed
      → s.reading ≡ InText line → AsksStep direction s.input.names (stage_of s.reading s.input) bytes name → IsQuiet s.registers → is_page name ≡ false
      → s.input.ahead ≡ ahead_at from bytes → s.tape ≡ tape_at from bytes s.tape
      → s.input.charge + length bytes ≤ l.bytes → first_passed l (counts_in s.registers s.input) ≡ None
      → text ≡ text_of_register (known_at s.history (stepped s.registers) (counted from bytes s.input)) name
      → first_passed l (counts_in (stepped s.registers) (pushing text (counted from bytes s.input))) ≡ None
      → Leads l s (record s { tape = tape_at from [] s.tape; input = pushing text (counted from bytes s.input); registers = stepped s.registers })
  leads-stepped l s line from bytes text going idle unsprung is_open reads asked quiet unnumbered ahead tape charged within is_text fits =
      let i : PageInput = s.input in
      let p : Stage = stage_of s.reading i in
      let j : PageInput = behind_bytes (before_byte from asked.last) asked.front i in
      let is : stage_input i.names p from [] (behind_byte from asked.last j) ≡ counted from bytes i = input-last i.names p from bytes asked.front asked.last i asked.is in
      leads-last l s (record s { tape = tape_at from [] s.tape; input = pushing text (counted from bytes i); registers = stepped s.registers }) from bytes asked.front asked.last asked.there
      going idle unsprung is_open asked.is asked.turned asked.held asked.texts ahead tape charged within
      (λ on few.
      step-stepped l s i.names from p asked.there asked.last text j on asked.none_due asked.stays few asked.asks quiet unnumbered
      (subst (λ (k : PageInput). text ≡ text_of_register (known_at s.history (stepped s.registers) k) name) (sym is) is_text)
      (subst (λ (k : PageInput). first_passed l (counts_in (stepped s.registers) (pushing text k)) ≡ None) (sym is) fits)
      ∙ ap (λ (k : PageInput). record s { tape = tape_at from [] s.tape; input = pushing text k; registers = stepped s.registers }) is)
