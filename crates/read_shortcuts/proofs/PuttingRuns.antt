-- Runs over bytes of which the last one does something, and those in front of it lead from stage to stage: as the escape of a register or
-- a string, behind which the text is in front.
use Rattle.std.proofs.Common.{◌≡◌, ℕ, ◌+◌, ◌≤◌, Bool, false, List, [], ◌∷◌, ◌++◌, length, Option, Some, None, refl, ap, sym, subst, ◌∙◌, arith, map}
use Rattle.roff_num.specs.declared.limit.Limit.{Limit}
use Rattle.roff_num.specs.declared.limits.Limits.{Limits}
use Rattle.input_escapes.specs.Waiting.{is_ended_by}
use Rattle.input_model.proofs.Counts.{bytes_ahead-bytes, ends_ahead-bytes}
use Rattle.input_model.specs.Input.{Ahead, ByteAhead, pushing}
use Rattle.input_model.specs.Input.Names.{stored}
use Rattle.input_source.specs.Tape.{Item, OneByte, Tape, items_then}
use Rattle.roff_store.specs.Named.{Named}
use Rattle.roff_store.specs.Texts.{Entry}
use Rattle.run_model.proofs.InputCounts.{NoMore, first_passed-no_more}
use Rattle.run_model.proofs.ItemsTaken.{IsOpenFor, FromAhead, FromSource, Origin, ahead_at, tape_at, taken_as-going_on}
use Rattle.run_model.proofs.Leads.{Leads-to}
use Rattle.run_model.proofs.PlainRuns.{behind_byte, behind_bytes, behind_bytes-counts, counted, counted-last, is-run_at, run_at}
use Rattle.run_model.specs.Reading.{byte_taking}
use Rattle.run_model.specs.Reading.Ends.{due}
use Rattle.run_model.specs.Reading.Items.{PageInput, Taking, going_on}
use Rattle.run_model.specs.Reading.Units.{interrupted}
use Rattle.run_model.specs.Registers.{Known}
use Rattle.run_model.specs.PageEvents.{PageEvent}
use Rattle.run_model.specs.Run.{Leads, State, nothing_follows, after, known, known_at, made, step, taken_as, unless_refused}
use Rattle.run_model.specs.Run.Counts.{counts_in, first_passed}
use Rattle.run_model.specs.Stages.{Stage, Turned, held_at, input_at, stage_of}
use Rattle.run_model.specs.declared.line_state.LineState.{LineState}
use Rattle.read_shortcuts.specs.Registers.{Asked, AsksText, settled_at, text_asked}
use Rattle.read_shortcuts.proofs.TurnedRuns.{FitsAt, IsGoing, after-Turned, stage_input, step-byte}

-- bytes come from there, where this one comes behind them
abbrev pub before_byte : Origin → ℕ → Origin
before_byte (FromAhead rest) b = FromAhead (ByteAhead b ∷ rest)
before_byte (FromSource tape) b = FromSource (items_then (OneByte b ∷ []) tape)

open-before : (from : Origin) (b : ℕ) (closed : Bool) → IsOpenFor from closed → IsOpenFor (before_byte from b) closed
open-before (FromAhead rest) b closed is_open = tt
open-before (FromSource tape) b closed is_open = is_open

-- the last of some things is the first of those behind the others
last_behind : (A B : Type 0) (f : A → B) (front : List A) (last : A) (behind : List B) → map f (front ++ last ∷ []) ++ behind ≡ map f front ++ f last ∷ behind
last_behind A B f [] last behind = refl
last_behind A B f (x ∷ front) last behind = ap (λ (others : List B). f x ∷ others) (last_behind A B f front last behind)

ahead-before : (from : Origin) (front : List ℕ) (last : ℕ) → ahead_at from (front ++ last ∷ []) ≡ ahead_at (before_byte from last) front
ahead-before (FromAhead rest) front last = last_behind ℕ (Ahead PageEvent) ByteAhead front last rest
ahead-before (FromSource tape) front last = refl

tape-before : (from : Origin) (front : List ℕ) (last : ℕ) (tape : Tape) → tape_at from (front ++ last ∷ []) tape ≡ tape_at (before_byte from last) front tape
tape-before (FromAhead rest) front last tape = refl
tape-before (FromSource behind) front last tape =
    ap (λ (items : List Item). let t : Tape = record { items = items; ending = behind.ending } in t) (last_behind ℕ Item OneByte front last behind.items)

-- what is counted of bytes is the same there
counts-before : (from : Origin) (b : ℕ) (bytes : List ℕ) (i : PageInput) → behind_bytes (before_byte from b) bytes i ≡ behind_bytes from bytes i
counts-before (FromAhead rest) b [] i = refl
counts-before (FromSource tape) b [] i = refl
counts-before (FromAhead rest) b (c ∷ bytes) i = counts-before (FromAhead rest) b bytes (behind_byte (FromAhead rest) c i)
counts-before (FromSource tape) b (c ∷ bytes) i = counts-before (FromSource tape) b bytes (behind_byte (FromSource tape) c i)

-- at the last byte
run-last : (s : State) (names : Named Entry) (q : Stage) (from : Origin) (b : ℕ) (j : PageInput) → run_at s names q (before_byte from b) [] j ≡ run_at s names q from (b ∷ []) j
run-last s names q (FromAhead rest) b j = refl
run-last s names q (FromSource tape) b j = refl

-- no more is counted at a stage in which as much is held, behind the bytes that lead to it
NoMore-led : (names : Named Entry) (p q : Stage) (from : Origin) (bytes : List ℕ) (i : PageInput) (charge newlines line : ℕ) → held_at q ≤ held_at p → q.texts ≡ p.texts
    → NoMore (stage_input names q from [] (record i { charge = charge; newlines = newlines; line = line })) (stage_input names p from bytes i)
NoMore-led names p q (FromAhead rest) bytes i charge newlines line held texts =
    let now : PageInput = stage_input names q (FromAhead rest) [] (record i { charge = charge; newlines = newlines; line = line }) in
    let counted = bytes_ahead-bytes bytes rest in
    let ends = ends_ahead-bytes bytes rest in
    let same = ap (λ (all : List (List ℕ)). stored (record now { open_texts = all })) texts in
    record {
      bytes = omega (arith, held, counted);
      texts = omega (arith, ends);
      results = omega arith;
      stored = omega (arith, same);
      names = omega arith;
      open_texts = omega (arith, ap (λ (all : List (List ℕ)). length all) texts);
    }
NoMore-led names p q (FromSource tape) bytes i charge newlines line held texts =
    let now : PageInput = stage_input names q (FromSource tape) [] (record i { charge = charge; newlines = newlines; line = line }) in
    let same = ap (λ (all : List (List ℕ)). stored (record now { open_texts = all })) texts in
    record {
      bytes = omega (arith, held);
      texts = omega arith;
      results = omega arith;
      stored = omega (arith, same);
      names = omega arith;
      open_texts = omega (arith, ap (λ (all : List (List ℕ)). length all) texts);
    }

-- the bytes that are counted are within the limit
charged-behind : (from : Origin) (bytes : List ℕ) (i : PageInput) → (behind_bytes from bytes i).charge ≡ i.charge + length bytes
charged-behind from [] i = omega arith
charged-behind from (b ∷ bytes) i = let rest = charged-behind from bytes (behind_byte from b i) in omega (arith, rest)

-- so many bytes are in front of the last one
length-last : (front : List ℕ) (b : ℕ) → length (front ++ b ∷ []) ≡ length front + 1
length-last [] b = refl
length-last (c ∷ front) b = let rest = length-last front b in omega (arith, rest)

-- the input at a stage behind the last byte
pub input-last : (names : Named Entry) (p : Stage) (from : Origin) (bytes front : List ℕ) (b : ℕ) (i : PageInput) → bytes ≡ front ++ b ∷ []
    → stage_input names p from [] (behind_byte from b (behind_bytes (before_byte from b) front i)) ≡ input_at names p (counted from bytes i)
input-last names p from bytes front b i is =
    ap (λ (k : PageInput). input_at names p (record (behind_byte from b k) { ahead = ahead_at from [] })) (counts-before from b front i)
    ∙ ap (λ (k : PageInput). input_at names p k) (counted-last from front b i)
    ∙ ap (λ (bs : List ℕ). input_at names p (counted from bs i)) (sym is)

-- A run leads behind bytes of which the last one does this, and those in front of it lead from stage to stage, where no count is above its
-- limit in front of them.
pub leads-last : (l : Limits) (s behind_them : State) (from : Origin) (bytes front : List ℕ) (b : ℕ) (q : Stage) → s.ended ≡ None → s.to_do ≡ [] → s.follows ≡ nothing_follows
    → IsOpenFor from s.is_closed → bytes ≡ front ++ b ∷ [] → Turned s.input.names (stage_of s.reading s.input) front q → held_at q ≤ held_at (stage_of s.reading s.input)
    → q.texts ≡ s.input.open_texts → s.input.ahead ≡ ahead_at from bytes → s.tape ≡ tape_at from bytes s.tape → s.input.charge + length bytes ≤ l.bytes
    → first_passed l (counts_in s.registers s.input) ≡ None
    → (let j : PageInput = behind_bytes (before_byte from b) front s.input in IsGoing from s → j.charge + 1 ≤ l.bytes → step l (run_at s s.input.names q from (b ∷ []) j) ≡ behind_them)
    → Leads l s behind_them
leads-last l s behind_them from bytes front b q going idle unsprung is_open is turned held texts ahead tape charged within does =
    let i : PageInput = s.input in
    let p : Stage = stage_of s.reading i in
    let first : Origin = before_byte from b in
    let j : PageInput = behind_bytes first front i in
    let in_front : i.ahead ≡ ahead_at first front = ahead ∙ ap (λ (bs : List ℕ). ahead_at from bs) is ∙ ahead-before from front b in
    let on_tape : s.tape ≡ tape_at first front s.tape = tape ∙ ap (λ (bs : List ℕ). tape_at from bs s.tape) is ∙ tape-before from front b s.tape in
    let on : IsGoing first s = record { going = going; is_open = open-before from b s.is_closed is_open; idle = idle; unsprung = unsprung } in
    let counts = ap (λ (bs : List ℕ). length bs) is ∙ length-last front b in
    let stands : run_at s i.names p first front i ≡ s = is-run_at s first front p refl refl refl refl in_front on_tape in
    let before : FitsAt l s.registers i.names p first front i =
    subst (λ (items : List (Ahead PageEvent)). first_passed l (counts_in s.registers (record i { ahead = items })) ≡ None) in_front within in
    let behind : FitsAt l s.registers i.names q first [] j =
    subst (λ (k : PageInput). FitsAt l s.registers i.names q first [] k) (sym (behind_bytes-counts first front i))
    (first_passed-no_more l s.registers (stage_input i.names q first [] (record i { charge = j.charge; newlines = j.newlines; line = j.line })) (stage_input i.names p first front i)
    (NoMore-led i.names p q first front i j.charge j.newlines j.line held texts) before) in
    let comes : Leads l s (run_at s i.names q from (b ∷ []) j) = record {
      steps = length front;
      there = ap (after l (length front)) (sym stands)
          ∙ after-Turned l s i.names first p q front i on turned (omega (arith, counts, charged)) before behind
          ∙ run-last s i.names q from b j;
    } in
    let charge = charged-behind first front i in
    Leads-to l s (run_at s i.names q from (b ∷ []) j) behind_them comes
    (does (record { going = going; is_open = is_open; idle = idle; unsprung = unsprung }) (omega (arith, charge, counts, charged)))

-- the step at the last byte
step-put : (asked : Asked) (l : Limits) (s : State) (names : Named Entry) (from : Origin) (p q : Stage) (b : ℕ) (name text : List ℕ) (j : PageInput)
    → IsGoing from s → due q.reading ≡ None → is_ended_by q.escapes (Some b) ≡ false → j.charge + 1 ≤ l.bytes
    → ((k : Known) (i : PageInput) → byte_taking k q.reading (input_at names q i) b ≡ going_on (pushing (text_asked asked k (input_at names p i) name) (input_at names p i)) p.reading)
    → (let there : PageInput = stage_input names p from [] (behind_byte from b j) in text ≡ text_asked asked (known_at s.history s.registers there) there name)
    → first_passed l (counts_in s.registers (pushing text (stage_input names p from [] (behind_byte from b j)))) ≡ None
    → step l (run_at s names q from (b ∷ []) j)
    ≡ record s { tape = tape_at from [] s.tape; input = pushing text (stage_input names p from [] (behind_byte from b j)); reading = p.reading }
step-put asked l s names from p q b name text j on none_due stays few asks is_text fits =
    let before : State = run_at s names q from (b ∷ []) j in
    let taken : State = run_at s names q from [] (behind_byte from b j) in
    let there : PageInput = record (behind_byte from b j) { ahead = ahead_at from [] } in
    let behind : List ℕ → State = λ digits. record taken { input = pushing digits (input_at names p there); reading = p.reading } in
    step-byte l s names from q b [] j on none_due stays few
    ∙ ap (λ (t : Taking). made l before (taken_as t taken)) (asks (known taken) there)
    ∙ ap (made l before) (taken_as-going_on (pushing (text_asked asked (known taken) (input_at names p there) name) (input_at names p there)) p.reading taken)
    ∙ ap (λ (digits : List ℕ). made l before (behind digits)) (sym is_text)
    ∙ ap (λ (r : Option Limit). unless_refused l r before (behind text)) fits

-- the input behind the escape, with its text in front
abbrev pub input_put : LineState → List ℕ → Origin → List ℕ → PageInput → PageInput
input_put reading text from bytes i = pushing text (interrupted reading (counted from bytes i))

-- a run leads over the escape, where no count is above its limit in front of it and behind it
pub leads-put : (purpose : Asked) (l : Limits) (s : State) (from : Origin) (bytes name text : List ℕ) → s.ended ≡ None → s.to_do ≡ [] → s.follows ≡ nothing_follows → IsOpenFor from s.is_closed
    → AsksText purpose s.input.names (stage_of s.reading s.input) bytes name → s.input.ahead ≡ ahead_at from bytes → s.tape ≡ tape_at from bytes s.tape
    → s.input.charge + length bytes ≤ l.bytes → first_passed l (counts_in s.registers s.input) ≡ None
    → text ≡ text_asked purpose (known_at s.history s.registers (counted from bytes s.input)) (interrupted s.reading (counted from bytes s.input)) name
    → first_passed l (counts_in s.registers (input_put s.reading text from bytes s.input)) ≡ None
    → Leads l s (record s { tape = tape_at from [] s.tape; input = input_put s.reading text from bytes s.input })
leads-put purpose l s from bytes name text going idle unsprung is_open asked ahead tape charged within is_text fits =
    let i : PageInput = s.input in
    let p : Stage = stage_of s.reading i in
    let j : PageInput = behind_bytes (before_byte from asked.last) asked.front i in
    let is : stage_input i.names (settled_at p) from [] (behind_byte from asked.last j) ≡ interrupted s.reading (counted from bytes i) =
    input-last i.names (settled_at p) from bytes asked.front asked.last i asked.is in
    leads-last l s (record s { tape = tape_at from [] s.tape; input = input_put s.reading text from bytes i }) from bytes asked.front asked.last asked.there
    going idle unsprung is_open asked.is asked.turned asked.held asked.texts ahead tape charged within
    (λ on few.
    step-put purpose l s i.names from (settled_at p) asked.there asked.last name text j on asked.none_due asked.stays few asked.asks
    (subst (λ (k : PageInput). text ≡ text_asked purpose (known_at s.history s.registers k) k name) (sym is) is_text)
    (subst (λ (k : PageInput). first_passed l (counts_in s.registers (pushing text k)) ≡ None) (sym is) fits)
    ∙ ap (λ (k : PageInput). record s { tape = tape_at from [] s.tape; input = pushing text k }) is)
