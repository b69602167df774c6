-- Runs over bytes that change only what is read, the arguments of the line and what is half read: one step for each, wherever
-- they come from.
use Rattle.std.proofs.Common.{◌≡◌, ℕ, ◌+◌, ◌≤◌, false, List, [], ◌∷◌, ◌++◌, length, Option, Some, None, refl, ap, sym, subst, ◌∙◌, arith, map, sum_by}
use Rattle.roff_num.specs.declared.limit.Limit.{Limit}
use Rattle.roff_num.specs.declared.limits.Limits.{Limits}
use Rattle.roff_scan.proofs.PassingAhead.{bytes_taken-is}
use Rattle.input_escapes.specs.Waiting.{is_ended_by}
use Rattle.input_model.specs.Input.{Ahead, ByteAhead, bytes_taken}
use Rattle.input_source.specs.Tape.{Tape}
use Rattle.roff_store.specs.Named.{Named}
use Rattle.roff_store.specs.Texts.{Entry}
use Rattle.run_model.proofs.InputCounts.{NoMore, first_passed-no_more, first_passed-texts}
use Rattle.run_model.proofs.ItemsTaken.{IsOpenFor, FromAhead, FromSource, Origin, ahead_at, byte_ahead_is_taken, bytes_of_the_source_are_taken, taken_as-going_on}
use Rattle.run_model.proofs.PlainRuns.{behind_byte, behind_bytes, behind_bytes-counts, counted, counted-ahead, run_at}
use Rattle.run_model.proofs.TurnsToCome.{turns_within-byte}
use Rattle.run_model.specs.Reading.{byte_taking}
use Rattle.run_model.specs.Reading.Ends.{due}
use Rattle.run_model.specs.Reading.Items.{PageInput, Taking}
use Rattle.run_model.specs.Registers.{AllRegisters, Known}
use Rattle.run_model.specs.PageEvents.{PageEvent}
use Rattle.run_model.specs.Run.{State, nothing_follows, after, byte_taken, known, made, step, taken_as, unless_refused}
use Rattle.run_model.specs.Run.Counts.{counts_in, first_passed}
use Rattle.run_model.specs.Stages.{Growing, Here, Onward, Stage, TextsGrow, Turned, Turns, held_at, input_at, stage_of}
use Rattle.roff_scan.specs.Unread.Runs.{with_stage_of}
use Rattle.run_model.specs.TurnsToCome.{begun, free_ahead, turns_within}
use Rattle.run_model.specs.declared.line_state.LineState.{LineState}

-- the input at a stage, where these bytes come next
abbrev pub stage_input : Named Entry → Stage → Origin → List ℕ → PageInput → PageInput
stage_input names p from bytes i = record (input_at names p i) { ahead = ahead_at from bytes }

-- no count is above its limit there
abbrev pub FitsAt : Limits → AllRegisters → Named Entry → Stage → Origin → List ℕ → PageInput → Type 0
FitsAt l rs names p from bytes i = first_passed l (counts_in rs (stage_input names p from bytes i)) ≡ None

-- a run that goes on where bytes come from there: it hasn't ended, and there is nothing to do first
pub record IsGoing (from : Origin) (s : State) : Type 0 where
  pub going : s.ended ≡ None
  pub is_open : IsOpenFor from s.is_closed
  pub idle : s.to_do ≡ []
  pub unsprung : s.follows ≡ nothing_follows

-- behind a byte that stood ahead no more is counted than in front of it, but for the bytes of texts in the making
NoMore-ahead : (names : Named Entry) (p q : Stage) (rest : List (Ahead PageEvent)) (b : ℕ) (bytes : List ℕ) (i : PageInput) → held_at q ≤ held_at p + 1
    → NoMore (record (stage_input names q (FromAhead rest) bytes (behind_byte (FromAhead rest) b i)) { open_texts = p.texts }) (stage_input names p (FromAhead rest) (b ∷ bytes) i)
NoMore-ahead names p q rest b bytes i grows =
    record {
      bytes = omega (arith, grows);
      texts = omega arith;
      results = omega arith;
      stored = omega arith;
      names = omega arith;
      open_texts = omega arith;
    }

-- texts in the making that stay
TextsGrow-same : (texts more : List (List ℕ)) → more ≡ texts → TextsGrow texts more
TextsGrow-same texts more same =
    let bytes : sum_by length more ≡ sum_by length texts = ap (λ (all : List (List ℕ)). sum_by length all) same in
    record { count = ap (λ (all : List (List ℕ)). length all) same; bytes = omega (arith, bytes) }

-- and that grow further
TextsGrow-trans : (texts more most : List (List ℕ)) → TextsGrow texts more → TextsGrow more most → TextsGrow texts most
TextsGrow-trans texts more most first second = record { count = second.count ∙ first.count; bytes = omega (arith, first.bytes, second.bytes) }

-- what is held only grows on the way, and so do the texts in the making
Turned-grows : (names : Named Entry) (p q : Stage) (bytes : List ℕ) → Turned names p bytes q → (held_at p ≤ held_at q) × TextsGrow p.texts q.texts
Turned-grows names _ q _ (Here p) = (omega arith, TextsGrow-same p.texts p.texts refl)
Turned-grows names p _ _ (Onward _ next q b bytes none_due stays turns same least most others) =
    let there = Turned-grows names next q bytes others in
    (omega (arith, least, there.0), TextsGrow-trans p.texts next.texts q.texts (TextsGrow-same p.texts next.texts same) there.1)
Turned-grows names p _ _ (Growing _ next q b bytes none_due stays turns grow least most others) =
    let there = Turned-grows names next q bytes others in
    (omega (arith, least, there.0), TextsGrow-trans p.texts next.texts q.texts grow there.1)

-- so of bytes of the source no more is counted in front of them than behind them
NoMore-source : (names : Named Entry) (p q : Stage) (tape : Tape) (bytes : List ℕ) (i : PageInput) (charge newlines line : ℕ)
    → held_at p ≤ held_at q → TextsGrow p.texts q.texts
    → NoMore (stage_input names p (FromSource tape) bytes i) (stage_input names q (FromSource tape) [] (record i { charge = charge; newlines = newlines; line = line }))
NoMore-source names p q tape bytes i charge newlines line grows grow =
    record {
      bytes = omega (arith, grows);
      texts = omega arith;
      results = omega arith;
      stored = omega (arith, grow.bytes);
      names = omega arith;
      open_texts = omega (arith, grow.count);
    }

fits-source : (l : Limits) (rs : AllRegisters) (names : Named Entry) (p q : Stage) (tape : Tape) (bytes : List ℕ) (i : PageInput) → Turned names p bytes q
    → FitsAt l rs names q (FromSource tape) [] (behind_bytes (FromSource tape) bytes i) → FitsAt l rs names p (FromSource tape) bytes i
fits-source l rs names p q tape bytes i turned behind =
    let j : PageInput = behind_bytes (FromSource tape) bytes i in
    let there : PageInput = record i { charge = j.charge; newlines = j.newlines; line = j.line } in
    let grows = Turned-grows names p q bytes turned in
    first_passed-no_more l rs (stage_input names p (FromSource tape) bytes i) (stage_input names q (FromSource tape) [] there)
    (NoMore-source names p q tape bytes i j.charge j.newlines j.line grows.0 grows.1)
    (subst (λ (k : PageInput). FitsAt l rs names q (FromSource tape) [] k) (behind_bytes-counts (FromSource tape) bytes i) behind)

-- where no count is above its limit in front of bytes and behind them, none is behind the first of them
fits-next : (l : Limits) (rs : AllRegisters) (names : Named Entry) (from : Origin) (p next q : Stage) (b : ℕ) (bytes : List ℕ) (i : PageInput)
    → TextsGrow p.texts next.texts → held_at next ≤ held_at p + 1 → Turned names next bytes q → FitsAt l rs names p from (b ∷ bytes) i
    → FitsAt l rs names q from [] (behind_bytes from (b ∷ bytes) i) → FitsAt l rs names next from bytes (behind_byte from b i)
fits-next l rs names (FromAhead rest) p next q b bytes i grow grows others before behind =
    let now : PageInput = stage_input names next (FromAhead rest) bytes (behind_byte (FromAhead rest) b i) in
    let there : PageInput = stage_input names q (FromAhead rest) [] (behind_bytes (FromAhead rest) (b ∷ bytes) i) in
    let later = Turned-grows names next q bytes others in
    let as_before : PageInput = record now { open_texts = p.texts } in
    first_passed-texts l rs as_before there next.texts grow.count (omega (arith, later.1.bytes))
    (first_passed-no_more l rs as_before (stage_input names p (FromAhead rest) (b ∷ bytes) i) (NoMore-ahead names p next rest b bytes i grows) before) behind
fits-next l rs names (FromSource tape) p next q b bytes i grow grows others before behind =
    fits-source l rs names next q tape bytes (behind_byte (FromSource tape) b i) others behind

-- a step takes a byte, wherever it comes from
pub step-byte : (l : Limits) (s : State) (names : Named Entry) (from : Origin) (p : Stage) (b : ℕ) (bytes : List ℕ) (i : PageInput)
    → IsGoing from s → due p.reading ≡ None → is_ended_by p.escapes (Some b) ≡ false → i.charge + 1 ≤ l.bytes
    → step l (run_at s names p from (b ∷ bytes) i) ≡ made l (run_at s names p from (b ∷ bytes) i) (byte_taken b (run_at s names p from bytes (behind_byte from b i)))
step-byte l s names (FromAhead rest) p b bytes i on none_due stays few =
    byte_ahead_is_taken l (run_at s names p (FromAhead rest) (b ∷ bytes) i) b (map ByteAhead bytes ++ rest) on.going on.idle on.unsprung none_due refl stays (omega (arith, few))
step-byte l s names (FromSource tape) p b bytes i on none_due stays few =
    bytes_of_the_source_are_taken l (run_at s names p (FromSource tape) (b ∷ bytes) i) b
    (record { going = on.going; is_open = on.is_open; idle = on.idle; unsprung = on.unsprung; none_due = none_due }) refl refl stays (omega (arith, few))

-- one that leads to another stage, where no count is above its limit behind it
step-turned : (l : Limits) (s : State) (names : Named Entry) (from : Origin) (p q : Stage) (b : ℕ) (bytes : List ℕ) (i : PageInput)
    → IsGoing from s → due p.reading ≡ None → is_ended_by p.escapes (Some b) ≡ false → i.charge + 1 ≤ l.bytes → Turns names p b q
    → FitsAt l s.registers names q from bytes (behind_byte from b i)
    → step l (run_at s names p from (b ∷ bytes) i) ≡ run_at s names q from bytes (behind_byte from b i)
step-turned l s names from p q b bytes i on none_due stays few turns fits =
    let before : State = run_at s names p from (b ∷ bytes) i in
    let taken : State = run_at s names p from bytes (behind_byte from b i) in
    let there : PageInput = record (behind_byte from b i) { ahead = ahead_at from bytes } in
    let done : State = run_at s names q from bytes (behind_byte from b i) in
    step-byte l s names from p b bytes i on none_due stays few
    ∙ ap (λ (t : Taking). made l before (taken_as t taken)) (turns (known taken) there)
    ∙ ap (made l before) (taken_as-going_on (input_at names q there) q.reading taken)
    ∙ ap (λ (r : Option Limit). unless_refused l r before done) fits

-- a run takes one step for each of such bytes, where no count is above its limit in front of them and behind them
pub after-Turned : (l : Limits) (s : State) (names : Named Entry) (from : Origin) (p q : Stage) (bytes : List ℕ) (i : PageInput)
    → IsGoing from s → Turned names p bytes q → i.charge + length bytes ≤ l.bytes
    → FitsAt l s.registers names p from bytes i → FitsAt l s.registers names q from [] (behind_bytes from bytes i)
    → after l (length bytes) (run_at s names p from bytes i) ≡ run_at s names q from [] (behind_bytes from bytes i)
after-Turned l s names from _ q _ i on (Here p) within before behind = refl
after-Turned l s names from p _ _ i on (Onward _ next q b bytes none_due stays turns same least most others) within before behind =
    let there : FitsAt l s.registers names next from bytes (behind_byte from b i) =
    fits-next l s.registers names from p next q b bytes i (TextsGrow-same p.texts next.texts same) most others before behind in
    ap (after l (length bytes)) (step-turned l s names from p next b bytes i on none_due stays (omega (arith, within)) turns there)
    ∙ after-Turned l s names from next q bytes (behind_byte from b i) on others (omega (arith, within)) there behind
after-Turned l s names from p _ _ i on (Growing _ next q b bytes none_due stays turns grow least most others) within before behind =
    let there : FitsAt l s.registers names next from bytes (behind_byte from b i) =
    fits-next l s.registers names from p next q b bytes i grow most others before behind in
    ap (after l (length bytes)) (step-turned l s names from p next b bytes i on none_due stays (omega (arith, within)) turns there)
    ∙ after-Turned l s names from next q bytes (behind_byte from b i) on others (omega (arith, within)) there behind

-- what stands ahead and costs nothing stays
pub free_ahead-behind : (from : Origin) (b : ℕ) (bytes : List ℕ) → free_ahead (ahead_at from (b ∷ bytes)) ≡ free_ahead (ahead_at from bytes)
free_ahead-behind (FromAhead rest) b bytes = refl
free_ahead-behind (FromSource tape) b bytes = refl

-- a turn fewer is to come behind a byte
turns-turned : (most : ℕ) (k : Known) (names : Named Entry) (from : Origin) (p q : Stage) (b : ℕ) (bytes : List ℕ) (i : PageInput)
    → Turns names p b q → i.charge + 1 ≤ most
    → turns_within most (stage_input names q from bytes (behind_byte from b i)) + begun q.reading + 1
    ≤ turns_within most (stage_input names p from (b ∷ bytes) i) + begun p.reading
turns-turned most k names from p q b bytes i turns few =
    let there : PageInput = record (behind_byte from b i) { ahead = ahead_at from bytes } in
    let bound : turns_within most (byte_taking k p.reading (input_at names p there) b).input + begun (byte_taking k p.reading (input_at names p there) b).reading
    ≤ turns_within most (input_at names p there) + begun p.reading + 4 = turns_within-byte most k p.reading (input_at names p there) b in
    let read : turns_within most (input_at names q there) + begun q.reading ≤ turns_within most (input_at names p there) + begun p.reading + 4 =
    subst (λ (t : Taking). turns_within most t.input + begun t.reading ≤ turns_within most (input_at names p there) + begun p.reading + 4) (turns k there) bound in
    omega (arith, few, read, free_ahead-behind from b bytes)

-- and behind several one fewer for each
pub turns_left-turned : (most : ℕ) (k : Known) (names : Named Entry) (from : Origin) (p q : Stage) (bytes : List ℕ) (i : PageInput)
    → Turned names p bytes q → i.charge + length bytes ≤ most
    → turns_within most (stage_input names q from [] (behind_bytes from bytes i)) + begun q.reading + length bytes
    ≤ turns_within most (stage_input names p from bytes i) + begun p.reading
turns_left-turned most k names from _ q _ i (Here p) within = omega arith
turns_left-turned most k names from p _ _ i (Onward _ next q b bytes none_due stays turns same least most_held others) within =
    let first = turns-turned most k names from p next b bytes i turns (omega (arith, within)) in
    let behind = turns_left-turned most k names from next q bytes (behind_byte from b i) others (omega (arith, within)) in
    omega (arith, first, behind)
turns_left-turned most k names from p _ _ i (Growing _ next q b bytes none_due stays turns grow least most_held others) within =
    let first = turns-turned most k names from p next b bytes i turns (omega (arith, within)) in
    let behind = turns_left-turned most k names from next q bytes (behind_byte from b i) others (omega (arith, within)) in
    omega (arith, first, behind)

-- no bytes lead nowhere
pub Turned-none : (names : Named Entry) (p q : Stage) (bytes : List ℕ) → bytes ≡ [] → Turned names p bytes q → p ≡ q
Turned-none names _ q _ none (Here p) = refl
Turned-none names p _ _ none (Onward _ next q b bytes none_due stays turns same least most others) = absurd (omega (arith, ap (λ (xs : List ℕ). length xs) none))
Turned-none names p _ _ none (Growing _ next q b bytes none_due stays turns grow least most others) = absurd (omega (arith, ap (λ (xs : List ℕ). length xs) none))

-- the input behind bytes, with nothing of them left
pub stage_input-counted : (names : Named Entry) (q : Stage) (from : Origin) (bytes : List ℕ) (i : PageInput)
    → stage_input names q from [] (behind_bytes from bytes i) ≡ input_at names q (counted from bytes i)
stage_input-counted names q from bytes i = ap (λ (j : PageInput). stage_input names q from [] j) (behind_bytes-counts from bytes i)

-- bytes ahead that are taken are counted
pub counted-bytes_taken : (rest : List (Ahead PageEvent)) (bytes : List ℕ) (i : PageInput) → i.ahead ≡ map ByteAhead bytes ++ rest
    → counted (FromAhead rest) bytes i ≡ bytes_taken bytes rest i
counted-bytes_taken rest bytes i front = counted-ahead rest bytes i ∙ sym (bytes_taken-is bytes rest i front)

-- the input behind bytes that changed only what is read, and were taken as bytes that change nothing
pub input-passed : (reading : LineState) (before after : PageInput) (from : Origin) (bytes : List ℕ) → with_stage_of before after ≡ counted from bytes before
    → after ≡ input_at before.names (stage_of reading after) (counted from bytes before)
input-passed reading before after from bytes is =
    ap (λ (names : Named Entry). record after { names = names }) (ap (λ (i : PageInput). i.names) is)
    ∙ ap (λ (i : PageInput). input_at before.names (stage_of reading after) i) is
