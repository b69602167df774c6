-- Runs over lines in parts: bytes as they stand, and the texts of escapes in their places.
use Rattle.std.proofs.Common.{◌≡◌, ℕ, ◌+◌, ◌-◌, ◌≤◌, Bool, false, List, [], ◌∷◌, ◌++◌, length, None, refl, ap, sym, subst, ◌∙◌, arith, append_assoc, map, if◌then◌else◌, ◌==◌, append-nil, length-append}
use Rattle.std.proofs.lemmas.List.Elements.{All-append, All-head, All-nil, All-tail}
use Rattle.roff_num.specs.declared.limits.Limits.{Limits}
use Rattle.input_model.specs.Arguments.{Arguments, held, live_bytes}
use Rattle.input_source.specs.Bytes.{newline}
use Rattle.roff_store.specs.Named.{Named}
use Rattle.roff_store.specs.Texts.{Entry}
use Rattle.input_model.specs.Input.{Ahead, ByteAhead, EndAhead, bytes_ahead, ends_ahead}
use Rattle.law_escapes.proofs.ReadTexts.{AreAsMany, IsMore, IsOfOneLine, IsRead, behind_read, charged, in_front, more-behind, part-many, read-cost, read-escapes, read-of_line, read-same, reads-end, reads-text, standing}
use Rattle.law_escapes.proofs.Ways.{Way, after-Way, held-Way, small-Way}
use Rattle.law_escapes.specs.Parts.{Part, Written, bytes_of, bytes_of_part, cost_of_texts, known_behind_part, registers_behind, registers_behind_part, rewritten, rewritten_part}
use Rattle.law_reading.proofs.Interpolation.{ReadsEscapes-reads_escapes, held-settled_for}
use Rattle.run_model.specs.Reading.Units.{settled_for}
use Rattle.run_model.specs.Environments.{environments}
use Rattle.run_model.specs.Output.{PageHistory, written}
use Rattle.run_model.specs.Layouts.{layout_of}
use Rattle.run_model.proofs.ItemsTaken.{FromAhead, FromSource, Origin, ahead_at}
use Rattle.run_model.proofs.Leads.{after-add}
use Rattle.run_model.proofs.NameBytes.{stage}
use Rattle.run_model.proofs.PlainRuns.{HasRoom, IsSmall, IsWithin-HasRoom, Most, behind_byte, behind_bytes, behind_bytes-ahead, behind_bytes-charge, behind_bytes-counts, run_at}
use Rattle.run_model.specs.ItemsTaken.{TakesItems}
use Rattle.run_model.specs.Reading.Ends.{due}
use Rattle.run_model.specs.Reading.Items.{PageInput}
use Rattle.run_model.specs.Registers.{Known}
use Rattle.run_model.specs.Run.{State, after, known, known_at}
use Rattle.run_model.specs.Stages.{Stage}
use Rattle.run_model.specs.Within.{EnvironmentsWithin, IsWithin}
use Rattle.run_model.specs.PageEvents.{PageEvent}
use Rattle.run_model.specs.declared.line_state.LineState.{LineState}

-- parts of a line lead from stage to stage: their bytes, and the texts that are read in their places
pub data PartsPath (j : PageInput) (most : Most) (names : Named Entry) : Known → Stage → List Part → Stage → Type 0 where
  NoPart : (k : Known) (p : Stage) → PartsPath j most names k p [] p
  OnBytes : (k : Known) (p q r : Stage) (bytes : List ℕ) (parts : List Part) → IsOfOneLine bytes → Way most names p bytes q
      → PartsPath j most names k q parts r → PartsPath j most names k p (Written bytes ∷ parts) r
  OnText : (k : Known) (reading there : LineState) (a b : Arguments) (texts made : List (List ℕ)) (r : Stage) (part : Part) (parts : List Part)
      → due there ≡ None → IsRead k reading part
      → Way most names (stage reading (settled_for reading a) texts) (rewritten_part k j part) (stage there b made)
      → PartsPath j most names (known_behind_part k part) (stage there b made) parts r
      → PartsPath j most names k (stage reading a texts) (part ∷ parts) r

-- none of their bytes ends a line
pub one-of_line : (j : PageInput) (most : Most) (names : Named Entry) (k : Known) (p q : Stage) (parts : List Part) → PartsPath j most names k p parts q → IsOfOneLine (bytes_of parts)
one-of_line j most names _ _ q _ (NoPart k p) = All-nil (λ b. (b == newline) ≡ false)
one-of_line j most names _ _ q _ (OnBytes k p next _ bytes parts one path more) =
    All-append (λ b. (b == newline) ≡ false) bytes (bytes_of parts) one (one-of_line j most names k next q parts more)
one-of_line j most names _ _ q _ (OnText k reading there a b texts made _ part parts none_due is path more) =
    All-append (λ b. (b == newline) ≡ false) (bytes_of_part part) (bytes_of parts) (read-of_line k reading part is)
    (one-of_line j most names (known_behind_part k part) (stage there b made) q parts more)

-- bytes that are counted one after another, and what was counted before
pub behind_bytes-append : (from : Origin) (bytes more : List ℕ) (i : PageInput) → behind_bytes from more (behind_bytes from bytes i) ≡ behind_bytes from (bytes ++ more) i
behind_bytes-append from [] more i = refl
behind_bytes-append from (b ∷ bytes) more i = behind_bytes-append from bytes more (behind_byte from b i)

pub behind_bytes-charged : (from : Origin) (bytes : List ℕ) (n : ℕ) (i : PageInput) → behind_bytes from bytes (charged n i) ≡ charged n (behind_bytes from bytes i)
behind_bytes-charged from [] n i = refl
behind_bytes-charged from (b ∷ bytes) n i =
    let sum : i.charge + n + 1 ≡ i.charge + 1 + n = omega arith in
    ap (λ (c : ℕ). behind_bytes from bytes (record (behind_byte from b i) { charge = c })) sum ∙ behind_bytes-charged from bytes n (behind_byte from b i)

-- bytes that don't end a line change nothing of what is known
newlines-of_line : (from : Origin) (bytes : List ℕ) (i : PageInput) → IsOfOneLine bytes → (behind_bytes from bytes i).newlines ≡ i.newlines
newlines-of_line (FromAhead rest) bytes i one = ap (λ (j : PageInput). j.newlines) (behind_bytes-ahead rest bytes i)
newlines-of_line (FromSource tape) [] i one = refl
newlines-of_line (FromSource tape) (b ∷ bytes) i one =
    newlines-of_line (FromSource tape) bytes (behind_byte (FromSource tape) b i) (All-tail (λ c. (c == newline) ≡ false) b bytes one)
    ∙ ap (λ (c : Bool). if c then i.newlines + 1 else i.newlines) (All-head (λ c. (c == newline) ≡ false) b bytes one)

-- what is known of an input, by which its escapes are read
pub record Knows (s : State) (k : Known) (j : PageInput) (i : PageInput) : Type 0 where
  pub is_known : known_at s.history s.registers i ≡ k
  pub calls : i.calls ≡ j.calls

pub knows-behind : (s : State) (k : Known) (j : PageInput) (from : Origin) (bytes : List ℕ) (i : PageInput) → IsOfOneLine bytes → Knows s k j i → Knows s k j (behind_bytes from bytes i)
knows-behind s k j from bytes i one knows = record {
  is_known =
      ap (known_at s.history s.registers) (behind_bytes-counts from bytes i)
      ∙ ap (λ (n : ℕ). known_at s.history s.registers (record i { newlines = n })) (newlines-of_line from bytes i one)
      ∙ knows.is_known;
  calls = ap (λ (m : PageInput). m.calls) (behind_bytes-counts from bytes i) ∙ knows.calls;
}

-- what stands ahead of bytes in front
pub bytes_ahead-front : (from : Origin) (bytes more : List ℕ) → bytes_ahead (ahead_at from more) ≤ bytes_ahead (ahead_at from (bytes ++ more))
bytes_ahead-front from [] more = omega arith
bytes_ahead-front (FromAhead rest) (b ∷ bytes) more = omega (arith, bytes_ahead-front (FromAhead rest) bytes more)
bytes_ahead-front (FromSource tape) (b ∷ bytes) more = omega arith

pub ends_ahead-front : (from : Origin) (bytes more : List ℕ) → ends_ahead (ahead_at from (bytes ++ more)) ≡ ends_ahead (ahead_at from more)
ends_ahead-front from [] more = refl
ends_ahead-front (FromAhead rest) (b ∷ bytes) more = ends_ahead-front (FromAhead rest) bytes more
ends_ahead-front (FromSource tape) (b ∷ bytes) more = refl

bytes_ahead-text : (text : List ℕ) (items : List (Ahead PageEvent)) → bytes_ahead (map ByteAhead text ++ EndAhead ∷ items) ≡ length text + bytes_ahead items
bytes_ahead-text [] items = omega arith
bytes_ahead-text (b ∷ text) items = omega (arith, bytes_ahead-text text items)

ends_ahead-text : (text : List ℕ) (items : List (Ahead PageEvent)) → ends_ahead (map ByteAhead text ++ EndAhead ∷ items) ≡ ends_ahead items + 1
ends_ahead-text [] items = refl
ends_ahead-text (b ∷ text) items = ends_ahead-text text items

-- the limits have room for bytes, for so many of texts among them, that cost so much
pub record RoomFor (l : Limits) (s : State) (names : Named Entry) (from : Origin) (most : Most) (p : Stage) (read cost : ℕ) (bytes : List ℕ) (i : PageInput) : Type 0 where
  pub room : HasRoom l s names from most p bytes i
  pub charged_all : i.charge + length bytes + cost ≤ l.bytes
  pub stack : bytes_ahead (ahead_at from bytes) + held p.arguments + read + live_bytes i.calls ≤ l.stack
  pub deep : ends_ahead (ahead_at from bytes) + 1 ≤ l.depth

-- so there is room for other bytes, if there is for what is held, and where as many registers are set
room-again : (l : Limits) (s t : State) (names : Named Entry) (from : Origin) (most : Most) (p q : Stage) (bytes more : List ℕ) (i j : PageInput)
    → AreAsMany t.registers s.registers → t.history ≡ s.history
    → HasRoom l s names from most p bytes i → j.charge + length more ≤ l.bytes → bytes_ahead (ahead_at from more) + held q.arguments + live_bytes j.calls ≤ l.stack
    → ends_ahead (ahead_at from more) ≤ l.depth → live_bytes j.calls ≡ live_bytes i.calls → length names - j.first_names ≤ l.names → length j.results ≤ l.conditions
    → HasRoom l t names from most q more j
room-again l s t names (FromAhead rest) most p q bytes more i j many same room charged_few stack_few deep live names_few results_few = record {
  charged = charged_few;
  stack = stack_few;
  depth = deep;
  store = room.store;
  texts = names_few;
  making = room.making;
  conditions = results_few;
  registers = omega (arith, room.registers, many.named);
  title = omega (arith, room.title, many.title);
  environments = subst (λ (h : PageHistory). EnvironmentsWithin l (environments h)) (sym same) room.environments;
  output = omega (arith, room.output, ap (λ (h : PageHistory). length (written h)) same);
  traps = omega (arith, room.traps, ap (λ (h : PageHistory). length (layout_of h).traps) same);
}
room-again l s t names (FromSource tape) most p q bytes more i j many same room charged_few stack_few deep live names_few results_few = record {
  charged = charged_few;
  stack = omega (arith, room.stack, live);
  depth = deep;
  store = room.store;
  texts = names_few;
  making = room.making;
  conditions = results_few;
  registers = omega (arith, room.registers, many.named);
  title = omega (arith, room.title, many.title);
  environments = subst (λ (h : PageHistory). EnvironmentsWithin l (environments h)) (sym same) room.environments;
  output = omega (arith, room.output, ap (λ (h : PageHistory). length (written h)) same);
  traps = omega (arith, room.traps, ap (λ (h : PageHistory). length (layout_of h).traps) same);
}

-- a run behind some parts, where there is room for what comes
pub record ComesTo (l : Limits) (s : State) (names : Named Entry) (from : Origin) (most : Most) (turns : ℕ) (u : State) (q : Stage) (read cost : ℕ) (more : List ℕ) (i : PageInput) : Type 0 where
  pub leads : after l turns u ≡ run_at s names q from more i
  pub small : IsSmall most q
  pub room : RoomFor l s names from most q read cost more i

module _ (l : Limits) (s : State) (names : Named Entry) (from : Origin) (most : Most) (k : Known) (j : PageInput) (on : TakesItems s) (same_names : names ≡ j.names) where
  -- bytes of a path
  pub after-bytes : (p q : Stage) (bytes more : List ℕ) (read cost : ℕ) (i : PageInput) → Way most names p bytes q → IsSmall most p
      → RoomFor l s names from most p (length bytes + read) cost (bytes ++ more) i
      → ComesTo l s names from most (length bytes) (run_at s names p from (bytes ++ more) i) q read cost more (behind_bytes from bytes i)
  after-bytes p q bytes more read cost i path small room =
      let one = after-Way l s names from most p q bytes more i on path room.room in
      let live : live_bytes (behind_bytes from bytes i).calls ≡ live_bytes i.calls = ap (λ (m : PageInput). live_bytes m.calls) (behind_bytes-counts from bytes i) in
      record {
        leads = one.0;
        small = small-Way most names p q bytes path small;
        room = record {
          room = one.1;
          charged_all = omega (arith, room.charged_all, behind_bytes-charge from bytes i, length-append bytes more);
          stack = omega (arith, room.stack, live, bytes_ahead-front from bytes more, held-Way most names p q bytes path);
          deep = omega (arith, room.deep, ends_ahead-front from bytes more);
        };
      }

  -- a part that is read as a text, the text, and its end: behind it the registers are those behind the part
  module _ (reading there : LineState) (a b : Arguments) (texts made : List (List ℕ)) (part : Part) (last : List ℕ) (read cost : ℕ) (i : PageInput) (is_more : IsMore last)
      (none_due : due there ≡ None) (is : IsRead k reading part)
      (path : Way most names (stage reading (settled_for reading a) texts) (rewritten_part k j part) (stage there b made))
      (small : IsSmall most (stage reading a texts)) (knows : Knows s k j i)
      (room : RoomFor l s names from most (stage reading a texts) (length (rewritten_part k j part) + read) (length (rewritten_part k j part) + 1 + cost) (bytes_of_part part ++ last) i) where
    abbrev bytes : List ℕ
    bytes = bytes_of_part part

    abbrev text : List ℕ
    text = rewritten_part k j part

    abbrev before : Stage
    before = stage reading (settled_for reading a) texts

    abbrev behind : Stage
    behind = stage there b made

    abbrev i2 : PageInput
    i2 = behind_bytes from bytes i

    abbrev total : ℕ
    total = length text + 1

    -- the registers behind the part
    abbrev s1 : State
    s1 = behind_read s part

    abbrev s2 : State
    s2 = standing s1 from last

    as_many : AreAsMany s1.registers s.registers
    as_many = part-many s.registers part

    abbrev on1 : TakesItems s1
    on1 = record { going = on.going; is_open = on.is_open; idle = on.idle; unsprung = on.unsprung; none_due = on.none_due }

    abbrev on2 : TakesItems s2
    on2 = record { going = on.going; is_open = on.is_open; idle = on.idle; unsprung = on.unsprung; none_due = on.none_due }

    held-before : held (settled_for reading a) ≡ held a
    held-before = held-settled_for reading a (ReadsEscapes-reads_escapes reading (read-escapes k reading part is))

    small-before : IsSmall most before
    small-before = record { none_half = small.none_half; held_few = omega (arith, small.held_few, held-before); stored_few = small.stored_few; texts_few = small.texts_few }

    live : live_bytes i2.calls ≡ live_bytes i.calls
    live = ap (λ (m : PageInput). live_bytes m.calls) (behind_bytes-counts from bytes i)

    calls : i2.calls ≡ i.calls
    calls = ap (λ (m : PageInput). m.calls) (behind_bytes-counts from bytes i)

    room-text : HasRoom l s2 names (in_front from last) most before (text ++ []) i2
    room-text =
        let all : length (text ++ []) ≡ length text = ap length (append-nil text) in
        let stands : bytes_ahead (map ByteAhead (text ++ []) ++ EndAhead ∷ ahead_at from last) ≡ length text + bytes_ahead (ahead_at from last) =
        omega (arith, bytes_ahead-text (text ++ []) (ahead_at from last), all) in
        record {
          charged = omega (arith, room.charged_all, behind_bytes-charge from bytes i, length-append bytes last, all);
          stack = omega (arith, room.stack, stands, live, held-before, bytes_ahead-front from bytes last);
          depth = omega (arith, room.deep, ends_ahead-text (text ++ []) (ahead_at from last), ends_ahead-front from bytes last);
          store = room.room.store;
          texts = subst (λ (n : ℕ). length names - n ≤ l.names) (sym (ap (λ (m : PageInput). m.first_names) (behind_bytes-counts from bytes i))) room.room.texts;
          making = room.room.making;
          conditions = omega (arith, room.room.conditions, ap (λ (m : PageInput). length m.results) (behind_bytes-counts from bytes i));
          registers = omega (arith, room.room.registers, as_many.named);
          title = omega (arith, room.room.title, as_many.title);
          environments = room.room.environments;
          output = room.room.output;
          traps = room.room.traps;
        }

    room-last : HasRoom l s1 names from most behind last (charged total i2)
    room-last =
        room-again l s s1 names from most (stage reading a texts) behind (bytes ++ last) last i (charged total i2) as_many refl room.room
        (omega (arith, room.charged_all, behind_bytes-charge from bytes i, length-append bytes last))
        (omega (arith, room.stack, live, held-before, bytes_ahead-front from bytes last, held-Way most names before behind text path))
        (omega (arith, room.deep, ends_ahead-front from bytes last)) live room-text.texts room-text.conditions

    -- the part
    at-text : after l (length bytes) (run_at s names (stage reading a texts) from (bytes ++ last) i) ≡ run_at s2 names before (in_front from last) (text ++ []) i2
    at-text =
        let u : State = run_at s names (stage reading a texts) from (bytes ++ last) i in
        let at : List ℕ → State = λ t. run_at s2 names before (in_front from last) t i2 in
        let same : at (rewritten_part (known u) u.input part) ≡ at (text ++ []) =
        ap at (sym (read-same k (known u) j u.input reading part is (sym knows.is_known) (sym same_names) (sym knows.calls)) ∙ sym (append-nil text)) in
        reads-text l s names from reading a texts part last i on (subst (λ (m : Known). IsRead m reading part) (sym knows.is_known) is)
        (IsWithin-HasRoom l s names from most (stage reading a texts) (bytes ++ last) i small room.room)
        (subst (IsWithin l) (sym same) (IsWithin-HasRoom l s2 names (in_front from last) most before (text ++ []) i2 small-before room-text))
        ∙ same

    -- its text
    at-end : after l (length text) (run_at s2 names before (in_front from last) (text ++ []) i2) ≡ run_at s2 names behind (in_front from last) [] (charged (length text) i2)
    at-end =
        (after-Way l s2 names (in_front from last) most before behind text [] i2 on2 path room-text).0
        ∙ ap (run_at s2 names behind (in_front from last) []) (behind_bytes-ahead (EndAhead ∷ ahead_at from last) text i2)

    -- and the text's end
    at-last : after l 1 (run_at s2 names behind (in_front from last) [] (charged (length text) i2)) ≡ run_at s1 names behind from last (charged total i2)
    at-last =
        let sum : i2.charge + length text + 1 ≡ i2.charge + total = omega arith in
        let same : run_at s1 names behind from last (charged 1 (charged (length text) i2)) ≡ run_at s1 names behind from last (charged total i2) =
        ap (λ (n : ℕ). run_at s1 names behind from last (record i2 { charge = n })) sum in
        reads-end l s1 names from there b made last (charged (length text) i2) on1 is_more none_due
        (omega (arith, room.charged_all, behind_bytes-charge from bytes i, length-append bytes last))
        (subst (IsWithin l) (sym same) (IsWithin-HasRoom l s1 names from most behind last (charged total i2) (small-Way most names before behind text path small-before) room-last))
        ∙ same

    pub after-text : ComesTo l s1 names from most (length bytes + total) (run_at s names (stage reading a texts) from (bytes ++ last) i) behind read cost last (charged total i2)
    after-text =
        let u : State = run_at s names (stage reading a texts) from (bytes ++ last) i in
        record {
          leads =
              after-add l (length bytes) total u
              ∙ ap (after l total) at-text
              ∙ after-add l (length text) 1 (run_at s2 names before (in_front from last) (text ++ []) i2)
              ∙ ap (after l 1) at-end
              ∙ at-last;
          small = small-Way most names before behind text path small-before;
          room = record {
            room = room-last;
            charged_all = omega (arith, room.charged_all, behind_bytes-charge from bytes i, length-append bytes last);
            stack = omega (arith, room.stack, live, held-before, bytes_ahead-front from bytes last, held-Way most names before behind text path);
            deep = omega (arith, room.deep, ends_ahead-front from bytes last);
          };
        }

-- one run behind another
pub comes-on : (l : Limits) (s t : State) (names : Named Entry) (from : Origin) (most : Most) (n m all : ℕ) (u : State) (p q : Stage) (first_read first_cost read cost : ℕ) (mid more : List ℕ)
    (between behind_all end : PageInput) → ComesTo l s names from most n u p first_read first_cost mid between
    → ComesTo l t names from most m (run_at s names p from mid between) q read cost more behind_all
    → behind_all ≡ end → all ≡ n + m → ComesTo l t names from most all u q read cost more end
comes-on l s t names from most n m all u p q first_read first_cost read cost mid more between behind_all end first others is sum = record {
  leads =
      ap (λ (c : ℕ). after l c u) sum ∙ after-add l n m u ∙ ap (after l m) first.leads ∙ others.leads
      ∙ ap (run_at t names q from more) is;
  small = others.small;
  room = subst (RoomFor l t names from most q read cost more) is others.room;
}

-- what is known behind a part
pub knows-part : (s : State) (k : Known) (j : PageInput) (i : PageInput) (n : ℕ) (part : Part) → Knows s k j i → Knows (behind_read s part) (known_behind_part k part) j (charged n i)
knows-part s k j i n part knows = record {
  is_known = ap (λ (m : Known). record m { registers = registers_behind_part m.registers part }) knows.is_known;
  calls = knows.calls;
}

-- parts of a line, and the bytes behind them
pub after-parts : (l : Limits) (j : PageInput) (most : Most) (names : Named Entry) (s : State) (from : Origin) (k : Known) (on : TakesItems s) (same_names : names ≡ j.names) (p q : Stage) (parts : List Part)
    (more : List ℕ) (read cost : ℕ) (i : PageInput) → IsMore more → PartsPath j most names k p parts q → IsSmall most p → Knows s k j i
    → RoomFor l s names from most p (length (rewritten k j parts) + read) (cost_of_texts k j parts + cost) (bytes_of parts ++ more) i
    → ComesTo l (record s { registers = registers_behind s.registers parts }) names from most (length (bytes_of parts) + cost_of_texts k j parts) (run_at s names p from (bytes_of parts ++ more) i) q
    read cost more (charged (cost_of_texts k j parts) (behind_bytes from (bytes_of parts) i))
after-parts l j most names s from _ on same_names _ q _ more read cost i is_more (NoPart k p) small knows room =
    let same : i ≡ charged 0 i = ap (λ (n : ℕ). record i { charge = n }) (omega arith) in
    let none : 0 + 0 ≡ 0 = omega arith in
    record {
      leads = ap (λ (n : ℕ). after l n (run_at s names p from more i)) none ∙ ap (run_at s names p from more) same;
      small = small;
      room = record {
        room = subst (HasRoom l s names from most p more) same room.room;
        charged_all = omega (arith, room.charged_all);
        stack = omega (arith, room.stack);
        deep = room.deep;
      };
    }
after-parts l j most names s from _ on same_names _ q _ more read cost i is_more (OnBytes k p next _ bytes parts one path others) small knows room =
    let rest : List ℕ = bytes_of parts in
    let texts_read : ℕ = length (rewritten k j parts) in
    let texts_cost : ℕ = cost_of_texts k j parts in
    let t : State = record s { registers = registers_behind s.registers parts } in
    let same : (bytes ++ rest) ++ more ≡ bytes ++ (rest ++ more) = append_assoc bytes rest more in
    let begun : RoomFor l s names from most p (length bytes + (texts_read + read)) (texts_cost + cost) (bytes ++ (rest ++ more)) i = record {
      room = subst (λ (all : List ℕ). HasRoom l s names from most p all i) same room.room;
      charged_all = omega (arith, room.charged_all, ap length same);
      stack = omega (arith, room.stack, ap (λ (all : List ℕ). bytes_ahead (ahead_at from all)) same, length-append bytes (rewritten k j parts));
      deep = omega (arith, room.deep, ap (λ (all : List ℕ). ends_ahead (ahead_at from all)) same);
    } in
    let first = after-bytes l s names from most k j on same_names p next bytes (rest ++ more) (texts_read + read) (texts_cost + cost) i path small begun in
    let i2 : PageInput = behind_bytes from bytes i in
    let behind = after-parts l j most names s from k on same_names next q parts more read cost i2 is_more others first.small (knows-behind s k j from bytes i one knows) first.room in
    subst (λ (all : List ℕ). ComesTo l t names from most (length (bytes ++ rest) + texts_cost) (run_at s names p from all i) q read cost more (charged texts_cost (behind_bytes from (bytes ++ rest) i)))
    (sym same)
    (comes-on l s t names from most (length bytes) (length rest + texts_cost) (length (bytes ++ rest) + texts_cost) (run_at s names p from (bytes ++ (rest ++ more)) i) next q
    (texts_read + read) (texts_cost + cost) read cost (rest ++ more) more i2 (charged texts_cost (behind_bytes from rest i2)) (charged texts_cost (behind_bytes from (bytes ++ rest) i))
    first behind (ap (charged texts_cost) (behind_bytes-append from bytes rest i)) (omega (arith, length-append bytes rest)))
after-parts l j most names s from _ on same_names _ q _ more read cost i is_more (OnText k reading there a b texts made _ part parts none_due is path others) small knows room =
    let bytes : List ℕ = bytes_of_part part in
    let rest : List ℕ = bytes_of parts in
    let text : List ℕ = rewritten_part k j part in
    let own : ℕ = length text + 1 in
    let k1 : Known = known_behind_part k part in
    let s1 : State = behind_read s part in
    let t : State = record s { registers = registers_behind s.registers (part ∷ parts) } in
    let p : Stage = stage reading a texts in
    let next : Stage = stage there b made in
    let texts_read : ℕ = length (rewritten k1 j parts) in
    let texts_cost : ℕ = cost_of_texts k1 j parts in
    let total : cost_of_texts k j (part ∷ parts) ≡ own + texts_cost = read-cost k j reading part parts is in
    let same : (bytes ++ rest) ++ more ≡ bytes ++ (rest ++ more) = append_assoc bytes rest more in
    let begun : RoomFor l s names from most p (length text + (texts_read + read)) (own + (texts_cost + cost)) (bytes ++ (rest ++ more)) i = record {
      room = subst (λ (all : List ℕ). HasRoom l s names from most p all i) same room.room;
      charged_all = omega (arith, room.charged_all, ap length same, total);
      stack = omega (arith, room.stack, ap (λ (all : List ℕ). bytes_ahead (ahead_at from all)) same, length-append text (rewritten k1 j parts));
      deep = omega (arith, room.deep, ap (λ (all : List ℕ). ends_ahead (ahead_at from all)) same);
    } in
    let first =
    after-text l s names from most k j on same_names reading there a b texts made part (rest ++ more) (texts_read + read) (texts_cost + cost) i (more-behind rest more is_more)
    none_due is path small knows begun in
    let one : IsOfOneLine bytes = read-of_line k reading part is in
    let i2 : PageInput = charged own (behind_bytes from bytes i) in
    let on1 : TakesItems s1 = record { going = on.going; is_open = on.is_open; idle = on.idle; unsprung = on.unsprung; none_due = on.none_due } in
    let behind =
    after-parts l j most names s1 from k1 on1 same_names next q parts more read cost i2 is_more others first.small
    (knows-part s k j (behind_bytes from bytes i) own part (knows-behind s k j from bytes i one knows)) first.room in
    let sum : (behind_bytes from (bytes ++ rest) i).charge + own + texts_cost ≡ (behind_bytes from (bytes ++ rest) i).charge + (own + texts_cost) = omega arith in
    let end : PageInput = charged (own + texts_cost) (behind_bytes from (bytes ++ rest) i) in
    let is_end : charged texts_cost (behind_bytes from rest i2) ≡ end =
    ap (charged texts_cost) (behind_bytes-charged from rest own (behind_bytes from bytes i) ∙ ap (charged own) (behind_bytes-append from bytes rest i))
    ∙ ap (λ (n : ℕ). record (behind_bytes from (bytes ++ rest) i) { charge = n }) sum in
    subst (λ (n : ℕ). ComesTo l t names from most (length (bytes ++ rest) + n) (run_at s names p from ((bytes ++ rest) ++ more) i) q read cost more (charged n (behind_bytes from (bytes ++ rest) i)))
    (sym total)
    (subst (λ (all : List ℕ). ComesTo l t names from most (length (bytes ++ rest) + (own + texts_cost)) (run_at s names p from all i) q read cost more end)
    (sym same)
    (comes-on l s1 t names from most (length bytes + own) (length rest + texts_cost) (length (bytes ++ rest) + (own + texts_cost)) (run_at s names p from (bytes ++ (rest ++ more)) i) next q
    (texts_read + read) (texts_cost + cost) read cost (rest ++ more) more i2 (charged texts_cost (behind_bytes from rest i2)) end
    first behind is_end (omega (arith, length-append bytes rest))))
