-- Runs over bytes of which two may hold two more together, as an escape that stays as it is does at its second byte.
use Rattle.std.proofs.Common.{◌≡◌, ℕ, ◌+◌, ◌≤◌, false, List, [], ◌∷◌, ◌++◌, length, Some, None, refl, ap, ◌∙◌, arith}
use Rattle.roff_num.specs.declared.limits.Limits.{Limits}
use Rattle.input_model.specs.Arguments.{held}
use Rattle.roff_store.specs.Named.{Named}
use Rattle.roff_store.specs.Texts.{Entry}
use Rattle.input_escapes.specs.Waiting.{is_ended_by}
use Rattle.run_model.proofs.ItemsTaken.{FromAhead, FromSource, Origin, ahead_at, taken_as-going_on}
use Rattle.run_model.proofs.PlainRuns.{HasRoom, HasRoom-behind, Here, IsSmall, IsWithin-HasRoom, Most, Onward, Path, behind_byte, behind_bytes, run_at, step-taken}
use Rattle.run_model.specs.ItemsTaken.{TakesItems}
use Rattle.run_model.specs.Reading.Ends.{due}
use Rattle.run_model.specs.Reading.Items.{PageInput, Taking}
use Rattle.run_model.specs.Run.{State, after, known, step, taken_as}
use Rattle.run_model.specs.Within.{IsWithin}
use Rattle.run_model.specs.Stages.{Stage, Turns, input_at}

-- bytes that lead from stage to stage: one by one, of each of which one byte more is held at the most, or by two, of which two are
pub data Way (most : Most) (names : Named Entry) : Stage → List ℕ → Stage → Type 0 where
  Done : (p : Stage) → Way most names p [] p
  One : (p q r : Stage) (b : ℕ) (bytes : List ℕ) → due p.reading ≡ None → is_ended_by p.escapes (Some b) ≡ false → Turns names p b q → IsSmall most q → held q.arguments ≤ held p.arguments + 1
      → Way most names q bytes r → Way most names p (b ∷ bytes) r
  Two : (p mid q r : Stage) (b c : ℕ) (bytes : List ℕ) → due p.reading ≡ None → is_ended_by p.escapes (Some b) ≡ false → Turns names p b mid → IsSmall most mid
      → held mid.arguments ≤ held p.arguments + 1 → due mid.reading ≡ None → is_ended_by mid.escapes (Some c) ≡ false → Turns names mid c q → IsSmall most q
      → held q.arguments ≤ held p.arguments + 2 → Way most names q bytes r → Way most names p (b ∷ c ∷ bytes) r

-- a path is one
pub way : (most : Most) (names : Named Entry) (p q : Stage) (bytes : List ℕ) → Path most names p bytes q → Way most names p bytes q
way most names _ q _ (Here p) = Done p
way most names _ q _ (Onward p next _ b bytes none_due stays turns small grows path) = One p next q b bytes none_due stays turns small grows (way most names next q bytes path)

-- what is held behind it
pub small-Way : (most : Most) (names : Named Entry) (p q : Stage) (bytes : List ℕ) → Way most names p bytes q → IsSmall most p → IsSmall most q
small-Way most names _ q _ (Done p) small = small
small-Way most names _ q _ (One p next _ b bytes none_due stays turns is_small grows others) small = small-Way most names next q bytes others is_small
small-Way most names _ q _ (Two p mid next _ b c bytes none_due stays turns is_small grows due_behind stays_behind turns_behind small_behind grows_behind others) small =
    small-Way most names next q bytes others small_behind

pub held-Way : (most : Most) (names : Named Entry) (p q : Stage) (bytes : List ℕ) → Way most names p bytes q → held q.arguments ≤ held p.arguments + length bytes
held-Way most names _ q _ (Done p) = omega arith
held-Way most names _ q _ (One p next _ b bytes none_due stays turns is_small grows others) = omega (arith, grows, held-Way most names next q bytes others)
held-Way most names _ q _ (Two p mid next _ b c bytes none_due stays turns is_small grows due_behind stays_behind turns_behind small_behind grows_behind others) =
    omega (arith, grows_behind, held-Way most names next q bytes others)

-- behind two bytes there is room for the others
HasRoom-two : (l : Limits) (s : State) (names : Named Entry) (from : Origin) (most : Most) (p q : Stage) (b c : ℕ) (bytes : List ℕ) (i : PageInput)
    → held q.arguments ≤ held p.arguments + 2 → HasRoom l s names from most p (b ∷ c ∷ bytes) i → HasRoom l s names from most q bytes (behind_byte from c (behind_byte from b i))
HasRoom-two l s names (FromAhead rest) most p q b c bytes i grows room = record {
  charged = omega (arith, room.charged);
  stack = omega (arith, grows, room.stack);
  depth = omega (arith, room.depth);
  store = room.store;
  texts = room.texts;
  making = room.making;
  conditions = room.conditions;
  registers = room.registers;
  title = room.title;
  environments = room.environments;
  output = room.output;
  traps = room.traps;
}
HasRoom-two l s names (FromSource tape) most p q b c bytes i grows room = record {
  charged = omega (arith, room.charged);
  stack = room.stack;
  depth = omega (arith, room.depth);
  store = room.store;
  texts = room.texts;
  making = room.making;
  conditions = room.conditions;
  registers = room.registers;
  title = room.title;
  environments = room.environments;
  output = room.output;
  traps = room.traps;
}

-- a step at a byte that leads to another stage
step-turns : (l : Limits) (s : State) (names : Named Entry) (from : Origin) (p q : Stage) (b : ℕ) (bytes : List ℕ) (i : PageInput)
    → TakesItems s → due p.reading ≡ None → is_ended_by p.escapes (Some b) ≡ false → i.charge + 1 ≤ l.bytes → Turns names p b q → IsWithin l (run_at s names q from bytes (behind_byte from b i))
    → step l (run_at s names p from (b ∷ bytes) i) ≡ run_at s names q from bytes (behind_byte from b i)
step-turns l s names from p q b bytes i on none_due stays few turns within =
    let taken : State = run_at s names p from bytes (behind_byte from b i) in
    let there : PageInput = record (behind_byte from b i) { ahead = ahead_at from bytes } in
    step-taken l s names from p b bytes i (run_at s names q from bytes (behind_byte from b i)) on none_due stays few
    (ap (λ (t : Taking). taken_as t taken) (turns (known taken) there) ∙ taken_as-going_on (input_at names q there) q.reading taken) within

-- a run takes one step for each byte, and there is room behind them for the others
pub after-Way : (l : Limits) (s : State) (names : Named Entry) (from : Origin) (most : Most) (p q : Stage) (bytes more : List ℕ) (i : PageInput)
    → TakesItems s → Way most names p bytes q → HasRoom l s names from most p (bytes ++ more) i
    → (after l (length bytes) (run_at s names p from (bytes ++ more) i) ≡ run_at s names q from more (behind_bytes from bytes i))
    × HasRoom l s names from most q more (behind_bytes from bytes i)
after-Way l s names from most _ q _ more i on (Done p) room = (refl, room)
after-Way l s names from most _ q _ more i on (One p next _ b bytes none_due stays turns small grows others) room =
    let behind : HasRoom l s names from most next (bytes ++ more) (behind_byte from b i) = HasRoom-behind l s names from most p next b (bytes ++ more) i grows room in
    let rest = after-Way l s names from most next q bytes more (behind_byte from b i) on others behind in (
      ap (after l (length bytes))
          (step-turns l s names from p next b (bytes ++ more) i on none_due stays (omega (arith, room.charged)) turns
          (IsWithin-HasRoom l s names from most next (bytes ++ more) (behind_byte from b i) small behind))
          ∙ rest.0,
      rest.1,
    )
after-Way l s names from most _ q _ more i on (Two p mid next _ b c bytes none_due stays turns small grows due_behind stays_behind turns_behind small_behind grows_behind others) room =
    let i1 : PageInput = behind_byte from b i in
    let i2 : PageInput = behind_byte from c i1 in
    let between : HasRoom l s names from most mid (c ∷ bytes ++ more) i1 = HasRoom-behind l s names from most p mid b (c ∷ bytes ++ more) i grows room in
    let behind : HasRoom l s names from most next (bytes ++ more) i2 = HasRoom-two l s names from most p next b c (bytes ++ more) i grows_behind room in
    let rest = after-Way l s names from most next q bytes more i2 on others behind in (
      ap (λ (u : State). after l (length (c ∷ bytes)) u)
          (step-turns l s names from p mid b (c ∷ bytes ++ more) i on none_due stays (omega (arith, room.charged)) turns
          (IsWithin-HasRoom l s names from most mid (c ∷ bytes ++ more) i1 small between))
          ∙ ap (after l (length bytes))
          (step-turns l s names from mid next c (bytes ++ more) i1 on due_behind stays_behind (omega (arith, between.charged)) turns_behind
          (IsWithin-HasRoom l s names from most next (bytes ++ more) i2 small_behind behind))
          ∙ rest.0,
      rest.1,
    )
