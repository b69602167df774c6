-- The lines of a definition enter its name with the texts of their escapes.
use Rattle.std.proofs.Common.{◌≡◌, ℕ, ◌+◌, ◌≤◌, Bool, List, [], ◌∷◌, ◌++◌, length, Option, Some, refl, ap, sym, subst, ◌∙◌, arith, append_assoc, All, fold, map, sum_by, append-nil, length-append}
use Rattle.roff_num.specs.declared.limits.Limits.{Limits}
use Rattle.roff_num.specs.declared.short_name.ShortName.{ShortName}
use Rattle.input_model.specs.Arguments.{Arguments, held}
use Rattle.input_source.specs.Bytes.{newline}
use Rattle.roff_store.specs.Named.{Named}
use Rattle.roff_store.specs.Texts.{Entry}
use Rattle.input_escapes.specs.EscapeLaws.{copied}
use Rattle.input_escapes.specs.declared.open_escape.CopyUnit.TheVariants.{Byte}
use Rattle.input_model.specs.Input.{bytes_ahead, ends_ahead, lines_taken}
use Rattle.input_model.specs.Input.Names.{stored}
use Rattle.law_escapes.proofs.CopiedMarks.{ended_from, mark-ends, path-parts_of_mark}
use Rattle.law_escapes.proofs.CopiedParts.{AtMark, SoFar, copies-newline, reads-copies}
use Rattle.law_escapes.proofs.PartRuns.{ComesTo, Knows, RoomFor, after-bytes, after-parts, behind_bytes-append, behind_bytes-charged, comes-on, knows-behind, one-of_line}
use Rattle.law_escapes.proofs.ReadTexts.{More, charged}
use Rattle.law_escapes.proofs.TextsInCalls.{lines_taken-charged, paid}
use Rattle.law_escapes.proofs.Ways.{Done, One, Way}
use Rattle.law_escapes.specs.Parts.{Part, bytes_of, cost_of_texts, known_behind, registers_behind, rewritten}
use Rattle.law_escapes.specs.TextsInCalls.{HasRoomForTexts}
use Rattle.law_escapes.specs.TextsInDefinitions.{AreCopiedMark, MayFollow, AreTextLines, DefinitionsEnterTheTextsRead, DefinitionsOfTheSourceEnterTheTextsRead, all_read, behind_mark, cost_of_all, cost_of_lines, known_behind_lines, lines_rewritten, lines_then, registers_behind_all, with_newline}
use Rattle.law_reading.proofs.DefinedBytes.{Allows, Copies, Definition, defining, making, reads-unit}
use Rattle.law_reading.proofs.DefinitionLaws.{making-length, making-stored}
use Rattle.law_reading.specs.DefinitionLaws.{BeginsDefinition, bytes_of_lines, text_of_lines, with_definition}
use Rattle.law_reading.specs.InterpolationLaws.{StandsForItself}
use Rattle.run_model.proofs.ItemsTaken.{FromAhead, FromSource, Origin, ahead_at, tape_at}
use Rattle.run_model.proofs.Leads.{after-add}
use Rattle.run_model.proofs.PlainRuns.{HasRoom, HasRoom-start, IsSmall, Most, behind_byte, behind_bytes, counted-ahead, counted-source, is-run_at, run_at, step-taken}
use Rattle.run_model.specs.Definitions.{end_mark}
use Rattle.run_model.specs.ItemsTaken.{TakesItems}
use Rattle.run_model.specs.Reading.Items.{PageInput}
use Rattle.run_model.specs.Registers.{AllRegisters, Known}
use Rattle.run_model.specs.Run.{State, after, byte_taken, known, known_at}
use Rattle.run_model.specs.Stages.{Stage}
use Rattle.run_model.specs.Within.{IsWithin}

-- behind a newline this is known
abbrev pub KnowsNext : State → Origin → (Known → Known) → Type 0
KnowsNext s from next =
    (registers : AllRegisters) (i : PageInput) → known_at s.history registers (behind_byte from newline i) ≡ next (known_at s.history registers i)

module _ (l : Limits) (from : Origin) (d : Definition) (a : Arguments) (bound : ℕ) (most : Most) (next : Known → Known) (j : PageInput) (allows : Allows most d a bound)
    (mark : All StandsForItself (end_mark d.end)) where
  abbrev names : Named Entry
  names = j.names

  -- where a line of the text begins
  abbrev begins : List ℕ → Stage
  begins text = defining d a text (Some 0)

  small-begins : (text : List ℕ) (m : Option ℕ) → length text ≤ bound → IsSmall most (defining d a text m)
  small-begins text m few = record { none_half = refl; held_few = allows.held_few; stored_few = allows.stored_few text few; texts_few = allows.texts_few text }

  -- its newline
  path-newline : (text there : List ℕ) (m : Option ℕ) → Copies names d a (Byte newline) text m there (Some 0) → length there ≤ bound
      → Way most names (defining d a text m) (newline ∷ []) (begins there)
  path-newline text there m copies few =
      One (defining d a text m) (begins there) (begins there) newline [] refl refl
      (λ k i. reads-unit names d a text m [] (Byte newline) newline k i refl refl ∙ copies k i)
      (small-begins there (Some 0) few) (omega arith) (Done (begins there))

  -- a line
  after-line : (s : State) → TakesItems s → KnowsNext s from next → (k : Known) (text : List ℕ) (line : List Part) (more : List ℕ) (read cost : ℕ) (i : PageInput)
      → AreTextLines next d.end k j (line ∷ []) → Knows s k j i → length text + (length (copied (rewritten k j line)) + 1) ≤ bound
      → RoomFor l s names from most (begins text) (length (rewritten k j line) + (1 + read)) (cost_of_texts k j line + cost) (bytes_of line ++ newline ∷ more) i
      → let s1 : State = record s { registers = registers_behind s.registers line } in
      let end : PageInput = behind_byte from newline (charged (cost_of_texts k j line) (behind_bytes from (bytes_of line) i)) in
      ComesTo l s1 names from most (length (bytes_of line) + cost_of_texts k j line + 1) (run_at s names (begins text) from (bytes_of line ++ newline ∷ more) i)
      (begins (text ++ (copied (rewritten k j line) ++ newline ∷ []))) read cost more end
      × Knows s1 (next (known_behind k line)) j end
  after-line s on knows_next k text line more read cost i are knows few room =
      let copy : List ℕ = copied (rewritten k j line) in
      let paid_for : ℕ = cost_of_texts k j line in
      let all : List ℕ = text ++ copy in
      let s1 : State = record s { registers = registers_behind s.registers line } in
      let on1 : TakesItems s1 = record { going = on.going; is_open = on.is_open; idle = on.idle; unsprung = on.unsprung; none_due = on.none_due } in
      let sizes : length all ≡ length text + length copy = length-append text copy in
      let so_far : SoFar (end_mark d.end) copy text (Some 0) text =
      subst (SoFar (end_mark d.end) copy text (Some 0)) (append-nil text) (AtMark text [] (end_mark d.end) refl mark are.0.1) in
      let reads = reads-copies j most names d a bound k text (Some 0) text line allows are.0.0 so_far (omega (arith, few)) in
      let i1 : PageInput = charged paid_for (behind_bytes from (bytes_of line) i) in
      let first =
      after-parts l j most names s from k on refl (begins text) (defining d a reads.there reads.m) line (newline ∷ more) (1 + read) cost i (More newline more) reads.path
      (small-begins text (Some 0) (omega (arith, few))) knows room in
      let there : List ℕ = all ++ newline ∷ [] in
      let last =
      after-bytes l s1 names from most k j on1 refl (defining d a reads.there reads.m) (begins there) (newline ∷ []) more read cost i1
      (path-newline reads.there there reads.m (copies-newline names d a reads.there reads.m all reads.so_far) (omega (arith, few, sizes, length-append all (newline ∷ []))))
      first.small first.room in
      let known_there = knows-behind s k j from (bytes_of line) i (one-of_line j most names k (begins text) (defining d a reads.there reads.m) line reads.path) knows in
      let behind_line : known_at s.history s1.registers i1 ≡ known_behind k line = ap (λ (m : Known). known_behind m line) known_there.is_known in
      let i2 : PageInput = behind_byte from newline i1 in (
        subst (λ (t : List ℕ). ComesTo l s1 names from most (length (bytes_of line) + paid_for + 1) (run_at s names (begins text) from (bytes_of line ++ newline ∷ more) i) (begins t) read cost more i2)
            (append_assoc text copy (newline ∷ []))
            (comes-on l s1 s1 names from most (length (bytes_of line) + paid_for) 1 (length (bytes_of line) + paid_for + 1)
            (run_at s names (begins text) from (bytes_of line ++ newline ∷ more) i) (defining d a reads.there reads.m) (begins there) (1 + read) cost read cost (newline ∷ more) more i1 i2 i2
            first last refl refl),
        record { is_known = knows_next s1.registers i1 ∙ ap next behind_line; calls = known_there.calls },
      )

  -- all lines
  pub after-lines : (s : State) → TakesItems s → KnowsNext s from next → (k : Known) (text : List ℕ) (lines : List (List Part)) (more : List ℕ) (read cost : ℕ) (i : PageInput)
      → AreTextLines next d.end k j lines → Knows s k j i
      → length text + length (text_of_lines (lines_rewritten next k j lines)) ≤ bound
      → RoomFor l s names from most (begins text) (length (bytes_of_lines (lines_rewritten next k j lines)) + read) (cost_of_lines next k j lines + cost)
      (bytes_of_lines (map bytes_of lines) ++ more) i
      → let t : State = record s { registers = fold registers_behind s.registers lines } in
      let end : PageInput = charged (cost_of_lines next k j lines) (behind_bytes from (bytes_of_lines (map bytes_of lines)) i) in
      ComesTo l t names from most (length (bytes_of_lines (map bytes_of lines)) + cost_of_lines next k j lines)
      (run_at s names (begins text) from (bytes_of_lines (map bytes_of lines) ++ more) i) (begins (text ++ text_of_lines (lines_rewritten next k j lines))) read cost more end
      × Knows t (known_behind_lines next k lines) j end
  after-lines s on knows_next k text [] more read cost i are knows few room =
      let same : i ≡ charged 0 i = ap (λ (n : ℕ). record i { charge = n }) (omega arith) in
      let none : 0 + 0 ≡ 0 = omega arith in (
        subst (λ (t : List ℕ). ComesTo l s names from most (0 + 0) (run_at s names (begins text) from more i) (begins t) read cost more (charged 0 i)) (sym (append-nil text))
            (record {
              leads = ap (λ (n : ℕ). after l n (run_at s names (begins text) from more i)) none ∙ ap (run_at s names (begins text) from more) same;
              small = small-begins text (Some 0) (omega (arith, few));
              room = record {
                room = subst (HasRoom l s names from most (begins text) more) same room.room;
                charged_all = omega (arith, room.charged_all);
                stack = omega (arith, room.stack);
                deep = room.deep;
              };
            }),
        record { is_known = knows.is_known; calls = knows.calls },
      )
  after-lines s on knows_next k text (line ∷ lines) more read cost i are knows few room =
      let k1 : Known = next (known_behind k line) in
      let s1 : State = record s { registers = registers_behind s.registers line } in
      let t : State = record s { registers = fold registers_behind s.registers (line ∷ lines) } in
      let on1 : TakesItems s1 = record { going = on.going; is_open = on.is_open; idle = on.idle; unsprung = on.unsprung; none_due = on.none_due } in
      let bytes : List ℕ = bytes_of line in
      let others : List ℕ = bytes_of_lines (map bytes_of lines) in
      let copy : List ℕ = copied (rewritten k j line) ++ newline ∷ [] in
      let text_behind : List ℕ = text_of_lines (lines_rewritten next k1 j lines) in
      let read_behind : List ℕ = bytes_of_lines (lines_rewritten next k1 j lines) in
      let cost_behind : ℕ = cost_of_lines next k1 j lines in
      let own : ℕ = cost_of_texts k j line in
      let copy_size : length copy ≡ length (copied (rewritten k j line)) + 1 = length-append (copied (rewritten k j line)) (newline ∷ []) in
      let read_size : length ((rewritten k j line ++ newline ∷ []) ++ read_behind) ≡ length (rewritten k j line) + (1 + length read_behind) =
      omega (arith, length-append (rewritten k j line ++ newline ∷ []) read_behind, length-append (rewritten k j line) (newline ∷ [])) in
      let bytes_size : length ((bytes ++ newline ∷ []) ++ others) ≡ length bytes + (1 + length others) =
      omega (arith, length-append (bytes ++ newline ∷ []) others, length-append bytes (newline ∷ [])) in
      let same : ((bytes ++ newline ∷ []) ++ others) ++ more ≡ bytes ++ newline ∷ (others ++ more) =
      append_assoc (bytes ++ newline ∷ []) others more ∙ append_assoc bytes (newline ∷ []) (others ++ more) in
      let begun : RoomFor l s names from most (begins text) (length (rewritten k j line) + (1 + (length read_behind + read))) (own + (cost_behind + cost)) (bytes ++ newline ∷ (others ++ more)) i = record {
        room = subst (λ (all : List ℕ). HasRoom l s names from most (begins text) all i) same room.room;
        charged_all = omega (arith, room.charged_all, ap length same);
        stack = omega (arith, room.stack, ap (λ (all : List ℕ). bytes_ahead (ahead_at from all)) same, read_size);
        deep = omega (arith, room.deep, ap (λ (all : List ℕ). ends_ahead (ahead_at from all)) same);
      } in
      let i2 : PageInput = behind_byte from newline (charged own (behind_bytes from bytes i)) in
      let first =
      after-line s on knows_next k text line (others ++ more) (length read_behind + read) (cost_behind + cost) i (are.0, tt) knows
      (omega (arith, few, copy_size, length-append copy text_behind)) begun in
      let there : List ℕ = text ++ copy in
      let rest =
      after-lines s1 on1 knows_next k1 there lines more read cost i2 are.1 first.1
      (omega (arith, few, length-append copy text_behind, length-append text copy)) first.0.room in
      let end : PageInput = charged (own + cost_behind) (behind_bytes from ((bytes ++ newline ∷ []) ++ others) i) in
      let sums : (c m n : ℕ) → c + m + n ≡ c + (m + n) = λ c m n. omega arith in
      let counts : charged cost_behind (behind_bytes from others i2) ≡ end =
      ap (λ (m : PageInput). charged cost_behind (behind_bytes from others m)) (behind_bytes-charged from (newline ∷ []) own (behind_bytes from bytes i))
      ∙ ap (charged cost_behind) (behind_bytes-charged from others own (behind_bytes from (newline ∷ []) (behind_bytes from bytes i)))
      ∙ ap (λ (m : PageInput). charged cost_behind (charged own (behind_bytes from others m))) (behind_bytes-append from bytes (newline ∷ []) i)
      ∙ ap (λ (m : PageInput). charged cost_behind (charged own m)) (behind_bytes-append from (bytes ++ newline ∷ []) others i)
      ∙ ap (λ (n : ℕ). record (behind_bytes from ((bytes ++ newline ∷ []) ++ others) i) { charge = n })
      (sums (behind_bytes from ((bytes ++ newline ∷ []) ++ others) i).charge own cost_behind) in
      let turns : ℕ = length ((bytes ++ newline ∷ []) ++ others) + (own + cost_behind) in (
        subst (λ (all : List ℕ). ComesTo l t names from most turns (run_at s names (begins text) from all i) (begins (text ++ (copy ++ text_behind))) read cost more end) (sym same)
            (subst (λ (u : List ℕ). ComesTo l t names from most turns (run_at s names (begins text) from (bytes ++ newline ∷ (others ++ more)) i) (begins u) read cost more end) (append_assoc text copy text_behind)
            (comes-on l s1 t names from most (length bytes + own + 1) (length others + cost_behind) turns (run_at s names (begins text) from (bytes ++ newline ∷ (others ++ more)) i)
            (begins there) (begins (there ++ text_behind)) (length read_behind + read) (cost_behind + cost) read cost (others ++ more) more i2 (charged cost_behind (behind_bytes from others i2)) end
            first.0 rest.0 counts (omega (arith, bytes_size)))),
        subst (Knows t (known_behind_lines next k1 lines) j) counts rest.1,
      )

-- the lines of a definition, and the one that ends it
pub defined-with-texts : (l : Limits) (s : State) (from : Origin) (next : Known → Known) (name : ShortName) (appends : Bool) (end : Option ShortName) (before : List (List ℕ)) (lines : List (List Part))
    (last : List Part) (b : ℕ)
    → KnowsNext s from next
    → BeginsDefinition s (Some name) appends end → s.input.open_texts ≡ before ++ [] ∷ [] → All StandsForItself (end_mark end) → AreTextLines next end (known s) s.input lines
    → AreCopiedMark end (known_behind_lines next (known s) lines) s.input last → MayFollow b
    → let bytes : List ℕ = lines_then lines last (b ∷ []) in
    let text : List ℕ = text_of_lines (lines_rewritten next (known s) s.input lines) in
    let cost : ℕ = cost_of_all next (known s) s.input lines last in
    let d : Definition = record { name = Some name; appends = appends; end = end; before = before; others = s.input.open_texts } in
    let ended : State = ended_from (paid s (registers_behind_all s.registers lines last) cost) from bytes d text b in
    s.input.ahead ≡ ahead_at from bytes → s.tape ≡ tape_at from bytes s.tape → s.input.charge + (length bytes + cost) ≤ l.bytes → stored s.input + length text ≤ l.store
    → HasRoomForTexts l s (all_read next (known s) s.input lines last) → IsWithin l s → IsWithin l ended → after l (length bytes + cost) s ≡ ended
defined-with-texts l s from next name appends end before lines last b knows_next starts own mark are marks ends ahead tape charge stored_few has_room within within_ended =
    let k : Known = known s in
    let j : PageInput = s.input in
    let k_last : Known = known_behind_lines next k lines in
    let names : Named Entry = s.input.names in
    let a : Arguments = s.input.arguments in
    let bytes : List ℕ = lines_then lines last (b ∷ []) in
    let text : List ℕ = text_of_lines (lines_rewritten next k j lines) in
    let cost_lines : ℕ = cost_of_lines next k j lines in
    let cost_last : ℕ = cost_of_texts k_last j last in
    let read_lines : List ℕ = bytes_of_lines (lines_rewritten next k j lines) in
    let read_last : List ℕ = rewritten k_last j last in
    let d : Definition = record { name = Some name; appends = appends; end = end; before = before; others = s.input.open_texts } in
    let v : State = paid s (registers_behind_all s.registers lines last) (cost_lines + cost_last) in
    let ended : State = ended_from v from bytes d text b in
    let front : List ℕ = bytes_of_lines (map bytes_of lines) in
    let more : List ℕ = bytes_of last ++ b ∷ [] in
    let most : Most = record { held = held a; stored = sum_by length s.input.open_texts + length text; texts = length s.input.open_texts } in
    let stored_at : (t : List ℕ) → sum_by length (making (Some name) before s.input.open_texts t) ≤ sum_by length s.input.open_texts + length t =
    λ t. making-stored (Some name) before s.input.open_texts t own in
    let allows : Allows most d a (length text) = record {
      held_few = omega arith;
      stored_few = λ t few. omega (arith, stored_at t, few);
      texts_few = λ t. omega (arith, making-length (Some name) before s.input.open_texts t own);
    } in
    let start : Stage = defining d a [] (Some 0) in
    let done : Stage = defining d a text (Some 0) in
    let stops : Stage = defining d a text (Some (length (end_mark end))) in
    let is : run_at s names start from bytes s.input ≡ s = is-run_at s from bytes start starts.reading starts.escapes refl own ahead tape in
    let reads : length (read_lines ++ read_last) ≡ length read_lines + length read_last = length-append read_lines read_last in
    let room : RoomFor l s names from most start (length read_lines + (length read_last + 0)) (cost_lines + (cost_last + 0)) bytes s.input = record {
      room =
          HasRoom-start l s names from most start bytes s.input (subst (IsWithin l) (sym is) within) (omega (arith, charge)) (omega (arith, within.stack)) (omega (arith, stored_few))
          within.making;
      charged_all = omega (arith, charge);
      stack = omega (arith, has_room.beside, ap bytes_ahead ahead, reads);
      deep = omega (arith, has_room.deep, ap ends_ahead ahead);
    } in
    let behind =
    after-lines l from d a (length text) most next j allows mark s starts.takes knows_next k [] lines more (length read_last + 0) (cost_last + 0) s.input are
    (record { is_known = refl; calls = refl }) (omega arith) room in
    let i2 : PageInput = charged cost_lines (behind_bytes from front s.input) in
    let s2 : State = record s { registers = fold registers_behind s.registers lines } in
    let at_mark =
    after-parts l j most names s2 from k_last
    (record { going = starts.takes.going; is_open = starts.takes.is_open; idle = starts.takes.idle; unsprung = starts.takes.unsprung; none_due = starts.takes.none_due }) refl done stops last (b ∷ []) 0 0 i2
    (More b []) (path-parts_of_mark j most names d a (length text) text k_last [] last allows (omega arith) marks.may (subst (All StandsForItself) (sym marks.is_mark) mark) (sym marks.is_mark))
    behind.0.small behind.1 behind.0.room in
    let i3 : PageInput = charged cost_last (behind_bytes from (bytes_of last) i2) in
    let in_front : List ℕ = front ++ bytes_of last in
    let sums : (c m n : ℕ) → c + m + n ≡ c + (m + n) = λ c m n. omega arith in
    let counts : i3 ≡ behind_bytes from in_front (charged (cost_lines + cost_last) s.input) =
    ap (charged cost_last) (behind_bytes-charged from (bytes_of last) cost_lines (behind_bytes from front s.input))
    ∙ ap (λ (m : PageInput). charged cost_last (charged cost_lines m)) (behind_bytes-append from front (bytes_of last) s.input)
    ∙ ap (λ (n : ℕ). record (behind_bytes from in_front s.input) { charge = n }) (sums (behind_bytes from in_front s.input).charge cost_lines cost_last)
    ∙ sym (behind_bytes-charged from in_front (cost_lines + cost_last) s.input) in
    let taken : byte_taken b (run_at v names stops from [] (behind_byte from b i3)) ≡ ended =
    ap (λ (m : PageInput). byte_taken b (run_at v names stops from [] (behind_byte from b m))) counts
    ∙ mark-ends v from in_front d text b ends starts.escapes refl
    ∙ ap (λ (all : List ℕ). ended_from v from all d text b) (append_assoc front (bytes_of last) (b ∷ [])) in
    let sum : length bytes + (cost_lines + cost_last) ≡ (length front + cost_lines) + ((length (bytes_of last) + cost_last) + 1) =
    omega (arith, length-append front more, length-append (bytes_of last) (b ∷ [])) in
    ap (λ (n : ℕ). after l n s) sum
    ∙ after-add l (length front + cost_lines) ((length (bytes_of last) + cost_last) + 1) s
    ∙ ap (after l ((length (bytes_of last) + cost_last) + 1)) (ap (after l (length front + cost_lines)) (sym is) ∙ behind.0.leads)
    ∙ after-add l (length (bytes_of last) + cost_last) 1 (run_at s2 names done from more i2)
    ∙ ap (after l 1) at_mark.leads
    ∙ step-taken l (record s { registers = registers_behind_all s.registers lines last }) names from stops b [] i3 ended
    (record { going = starts.takes.going; is_open = starts.takes.is_open; idle = starts.takes.idle; unsprung = starts.takes.unsprung; none_due = starts.takes.none_due }) refl refl (omega (arith, at_mark.room.charged_all)) taken within_ended

pub definitions_enter_the_texts_read : DefinitionsEnterTheTextsRead
definitions_enter_the_texts_read l s name appends end before lines last b rest starts own mark are marks ends ahead charge stored_few room within within_ended =
    let next : Known → Known = λ k. k in
    let bytes : List ℕ = lines_then lines last (b ∷ []) in
    let cost : ℕ = cost_of_all next (known s) s.input lines last in
    let text : List ℕ = text_of_lines (lines_rewritten next (known s) s.input lines) in
    let d : Definition = record { name = Some name; appends = appends; end = end; before = before; others = s.input.open_texts } in
    let registers : AllRegisters = registers_behind_all s.registers lines last in
    let of : PageInput → State = λ i. behind_mark end b (record s { registers = registers; input = with_definition name appends text before i }) in
    let sum : s.input.charge + cost + length bytes ≡ s.input.charge + (length bytes + cost) = omega arith in
    let is : ended_from (paid s registers cost) (FromAhead rest) bytes d text b ≡ of (record s.input { ahead = rest; charge = s.input.charge + (length bytes + cost) }) =
    ap of (counted-ahead rest bytes (charged cost s.input)) ∙ ap (λ (n : ℕ). of (record s.input { ahead = rest; charge = n })) sum in
    defined-with-texts l s (FromAhead rest) next name appends end before lines last b (λ registers i. refl) starts own mark are marks ends ahead refl charge stored_few room within
    (subst (IsWithin l) (sym is) within_ended) ∙ is

pub definitions_of_the_source_enter_the_texts_read : DefinitionsOfTheSourceEnterTheTextsRead
definitions_of_the_source_enter_the_texts_read l s name appends end before lines last b tape starts own mark are marks ends none stands charge stored_few room within within_ended =
    let bytes : List ℕ = lines_then lines last (b ∷ []) in
    let cost : ℕ = cost_of_all with_newline (known s) s.input lines last in
    let text : List ℕ = text_of_lines (lines_rewritten with_newline (known s) s.input lines) in
    let d : Definition = record { name = Some name; appends = appends; end = end; before = before; others = s.input.open_texts } in
    let registers : AllRegisters = registers_behind_all s.registers lines last in
    let of : PageInput → State = λ i. behind_mark end b (record s { tape = tape; registers = registers; input = with_definition name appends text before i }) in
    let is : ended_from (paid s registers cost) (FromSource tape) bytes d text b ≡ of (record (lines_taken bytes s.input) { charge = s.input.charge + (length bytes + cost) }) =
    ap of (counted-source tape bytes (charged cost s.input) none ∙ lines_taken-charged bytes cost s.input) in
    defined-with-texts l s (FromSource tape) with_newline name appends end before lines last b (λ registers i. refl) starts own mark are marks ends none stands charge stored_few room within
    (subst (IsWithin l) (sym is) within_ended) ∙ is
