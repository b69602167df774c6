-- Runs over the bytes of a title, and what comes of it.
use Rattle.std.proofs.Common.{◌≡◌, ℕ, ◌+◌, ◌≤◌, List, ◌∷◌, ◌++◌, length, None, refl, ap, ◌∙◌, arith, append-nil}
use Rattle.input_model.specs.Arguments.{no_arguments}
use Rattle.roff_num.specs.declared.limits.Limits.{Limits}
use Rattle.roff_store.specs.Named.{Named}
use Rattle.roff_store.specs.Texts.{Entry}
use Rattle.law_escapes.proofs.TitleReading.{Here, Onward, TitlePath, TitleStage, TitleTurns, changing_taking, titled}
use Rattle.run_model.proofs.ItemsTaken.{Origin}
use Rattle.run_model.proofs.NameBytes.{stage}
use Rattle.run_model.proofs.PlainRuns.{HasRoom, HasRoom-behind, IsSmall, IsWithin-HasRoom, Most, behind_byte, behind_bytes, run_at, step-taken}
use Rattle.run_model.specs.ItemsTaken.{TakesItems}
use Rattle.run_model.specs.Reading.Ends.{due}
use Rattle.run_model.specs.Reading.Items.{PageInput, Taking}
use Rattle.run_model.specs.Registers.{AllRegisters, Change, changed_by_all}
use Rattle.run_model.specs.Run.{State, after, known, step, taken_as}
use Rattle.run_model.specs.Springs.{next}
use Rattle.run_model.specs.Stages.{Stage}
use Rattle.run_model.specs.TitleTexts.{TitleText, title_length}
use Rattle.run_model.specs.Within.{IsWithin}
use Rattle.run_model.specs.declared.line_state.LineState.{LineState}

-- a run whose title is this
abbrev pub with_title : TitleText → State → State
with_title t s = record s { registers = titled t s.registers }

-- a run at a stage of a title's line
abbrev pub title_at : State → Named Entry → TitleStage → List (List ℕ) → Origin → List ℕ → PageInput → State
title_at s names p texts from bytes i = run_at (with_title p.title s) names (stage p.reading no_arguments texts) from bytes i

-- what is read on, and the registers behind it
taken_as-changing : (i : PageInput) (reading : LineState) (changes : List Change) (s : State)
    → taken_as (changing_taking i reading changes) s ≡ record s { input = i; reading = reading; registers = changed_by_all changes s.registers }
taken_as-changing i reading changes s =
    ap (λ (m : List ℕ). record s { input = i; reading = reading; messages = m; registers = changed_by_all changes s.registers }) (append-nil s.messages)

-- there is room for a title
pub room-titled : (l : Limits) (s : State) (t u : TitleText) (names : Named Entry) (from : Origin) (most : Most) (p : Stage) (bytes : List ℕ) (i : PageInput)
    → title_length u ≤ l.line → HasRoom l (with_title t s) names from most p bytes i → HasRoom l (with_title u s) names from most p bytes i
room-titled l s t u names from most p bytes i few room = record {
  charged = room.charged;
  stack = room.stack;
  depth = room.depth;
  store = room.store;
  texts = room.texts;
  making = room.making;
  conditions = room.conditions;
  registers = room.registers;
  title = few;
  environments = room.environments;
  output = room.output;
  traps = room.traps;
}

-- a step at a byte
step-title : (l : Limits) (s : State) (names : Named Entry) (texts : List (List ℕ)) (from : Origin) (p q : TitleStage) (b : ℕ) (bytes : List ℕ) (i : PageInput)
    → TakesItems s → due p.reading ≡ None → i.charge + 1 ≤ l.bytes → TitleTurns s.registers.page_character p q b
    → IsWithin l (title_at s names q texts from bytes (behind_byte from b i))
    → step l (title_at s names p texts from (b ∷ bytes) i) ≡ title_at s names q texts from bytes (behind_byte from b i)
step-title l s names texts from p q b bytes i on none_due few turns within =
    let taken : State = title_at s names p texts from bytes (behind_byte from b i) in
    step-taken l (with_title p.title s) names from (stage p.reading no_arguments texts) b bytes i (title_at s names q texts from bytes (behind_byte from b i))
    (record { going = on.going; is_open = on.is_open; idle = on.idle; unsprung = on.unsprung; none_due = on.none_due }) none_due refl few
    (ap (λ (t : Taking). taken_as t taken) (turns.takes (known taken) taken.input refl refl)
    ∙ taken_as-changing taken.input q.reading turns.changes taken
    ∙ ap (λ (rs : AllRegisters). record taken { reading = q.reading; registers = rs }) (turns.changed s.registers))
    within

-- a run takes one step for each byte, and there is room behind them for others
pub after-TitlePath : (l : Limits) (s : State) (names : Named Entry) (texts : List (List ℕ)) (from : Origin) (most : Most) (p q : TitleStage) (bytes more : List ℕ) (i : PageInput)
    → TakesItems s → IsSmall most (stage p.reading no_arguments texts) → TitlePath s.registers.page_character l.line p bytes q
    → HasRoom l (with_title p.title s) names from most (stage p.reading no_arguments texts) (bytes ++ more) i
    → (after l (length bytes) (title_at s names p texts from (bytes ++ more) i) ≡ title_at s names q texts from more (behind_bytes from bytes i))
    × HasRoom l (with_title q.title s) names from most (stage q.reading no_arguments texts) more (behind_bytes from bytes i)
after-TitlePath l s names texts from most _ q _ more i on small (Here p) room = (refl, room)
after-TitlePath l s names texts from most p q _ more i on small (Onward _ next _ b bytes none_due turns few path) room =
    let there : Stage = stage next.reading no_arguments texts in
    let j : PageInput = behind_byte from b i in
    let behind : HasRoom l (with_title next.title s) names from most there (bytes ++ more) j =
    HasRoom-behind l (with_title next.title s) names from most (stage p.reading no_arguments texts) there b (bytes ++ more) i (omega arith)
    (room-titled l s p.title next.title names from most (stage p.reading no_arguments texts) (b ∷ bytes ++ more) i few room) in
    let small_there : IsSmall most there =
    record { none_half = refl; held_few = small.held_few; stored_few = small.stored_few; texts_few = small.texts_few } in
    let others = after-TitlePath l s names texts from most next q bytes more j on small_there path behind in (
      ap (after l (length bytes))
          (step-title l s names texts from p next b (bytes ++ more) i on none_due (omega (arith, room.charged)) turns
          (IsWithin-HasRoom l (with_title next.title s) names from most there (bytes ++ more) j small_there behind))
          ∙ others.0,
      others.1,
    )
