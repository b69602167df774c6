-- What a run tells where no limit on messages stops it: so many bytes at the most for each that it is charged, beside the notes of its source.
use Rattle.std.proofs.Common.{◌≡◌, ◌⊎◌, inl, inr, ◌≤◌, ◌<◌, ◌+◌, ◌-◌, ◌*◌, ◌^◌, ℕ, zero, suc, List, [], ◌∷◌, ◌++◌, length, length-append, length-take, take, refl, sym, ◌∙◌, ap, subst, arith, IsSome, decimal, ◌==◌}
use Rattle.std.proofs.Math.Nat.{mul-le-mul_right}
use Rattle.std.proofs.lemmas.Fmt.{length-decimal-le}
use Rattle.std.proofs.lemmas.List.{length-reverse}
use Rattle.std.proofs.lemmas.List.Sums.{count_by-le-length}
use Rattle.input_model.specs.Arguments.{Arguments, total_length}
use Rattle.roff_num.specs.declared.limits.Limits.{Limits}
use Rattle.run_model.specs.Messages.{message_line}
use Rattle.run_model.specs.Reading.Messages.{message_text_read}
use Rattle.run_model.specs.Run.{State, after, initial, paged_state, step}
use Rattle.run_model.specs.Within.{IsWithin}
use Rattle.run_model.specs.declared.start.Start.{Start}
use Rattle.input_source.specs.Bytes.{newline}
use Rattle.input_source.specs.Tape.{Tape, Item, Ending, Gives, OneByte, OneNote, behind_front, front}
use Rattle.law_runs.specs.MessageBounds.{EachRunTellsFew, GreatLimitStopsNothing, MessagesAreFew, TellsAtMost, TellsFew, NothingTold, LineTold, TextTold, NoteTold, most_of_line, most_of_turn, most_turns, notes_of}
use Rattle.law_runs.specs.Taken.{Takes, bytes_of}
use Rattle.law_runs.proofs.Endings.{EndsWithin-initial, at_last_state}
use Rattle.law_runs.proofs.RunsStayWithin.{IsWithin-step, no_limit_is_passed}
use Rattle.law_runs.proofs.StepsTellLittle.{TellsLittle-step, named-run}
use Rattle.law_runs.proofs.Taking.{Takes-step, each_item_is_taken_once}
use Rattle.law_runs.proofs.Told.{ToldOrStopped, AllTold, StopsBefore, nothing_told, told_after-within, told_or_stopped}
use Rattle.law_runs.proofs.TurnsNeeded.{turns_needed}
use Rattle.law_runs.proofs.TurnsPaid.{IsPaid, IsPaid-step, IsPaid-with_registers, bytes-fewer, bytes_left, fewer-notes, notes_left, weight}
use Rattle.run_model.proofs.HeldBytes.{held_of}
use Rattle.run_model.proofs.OneMessage.{NamesRequest, most_held}

-- the notes of two lists of items
notes-append : (taken others : List Item) → total_length (notes_of (taken ++ others)) ≡ total_length (notes_of taken) + total_length (notes_of others)
notes-append [] others = omega arith
notes-append (OneByte b ∷ taken) others = notes-append taken others
notes-append (OneNote message ∷ taken) others = omega (arith, notes-append taken others)

-- each item is a byte or a note
items-counted : (items : List Item) → length items ≡ length (bytes_of items) + length (notes_of items)
items-counted [] = refl
items-counted (OneByte b ∷ items) = omega (arith, items-counted items)
items-counted (OneNote message ∷ items) = omega (arith, items-counted items)

-- a note that is taken is still to come no more
note-taken : (items : List Item) (ending : Ending) (message : List ℕ) → let tape : Tape = record { items = items; ending = ending } in
    front tape ≡ Gives (OneNote message) → notes_left tape ≡ length message + notes_left (behind_front tape)
note-taken [] ending message gives = absurd (cc)
note-taken (OneByte b ∷ items) ending message gives = absurd (cc)
note-taken (OneNote text ∷ items) ending message gives = let same : text ≡ message = cc in omega (arith, ap length same)

-- what a step tells, and holds
weighs : (digits : ℕ) (s t : State) → TellsAtMost s t → held_of t.input ≤ most_held s.input → length (decimal t.input.line) ≤ digits
    → notes_left t.tape ≤ notes_left s.tape → weight t ≤ weight s + (most_of_line digits + 2)
weighs digits s t (NothingTold same) held few fewer = omega (arith, ap length same, held, fewer)
weighs digits s t (LineTold m short told) held few fewer =
    omega (arith, ap length told, length-append s.messages (message_line t.input.line m), short, few, held, fewer)
weighs digits s t (TextTold told released) held few fewer =
    let free : held_of t.input ≡ 0 = ap (λ (a : Arguments). length a.begun) released in
    let text : List ℕ = message_text_read s.input in
    let written : length t.messages ≡ length s.messages + (held_of s.input + 1) =
    omega (arith, ap length told, length-append s.messages (text ++ newline ∷ []), length-append text (newline ∷ []), length-reverse s.input.arguments.begun) in
    omega (arith, written, free, fewer)
weighs digits s t (NoteTold message gives behind told) held few fewer =
    omega (arith, ap length told, length-append s.messages message, note-taken s.tape.items s.tape.ending message gives, ap notes_left behind, held)

-- the number of a line is within the limit on bytes, and has ten digits at the most
line-within : (l : Limits) (tape : Tape) (s : State) → Takes tape s → IsWithin l s → s.input.line ≤ l.bytes + 1
line-within l tape s takes is =
    let bytes : List ℕ = bytes_of takes.taken in
    let front_bytes : List ℕ = take (length bytes - 1) bytes in
    omega (arith, takes.line, takes.charge, is.bytes, count_by-le-length (λ (b : ℕ). b == newline) front_bytes, length-take (length bytes - 1) bytes)

ten_digits : (l : Limits) (line : ℕ) → l.bytes < 2 ^ 32 → line ≤ l.bytes + 1 → length (decimal line) ≤ 10
ten_digits l line small within = length-decimal-le 10 line (omega arith) (omega (arith, small, within)) (omega (arith, small, within))

-- so many turns are enough for a run over a tape
abbrev enough : Limits → Tape → ℕ
enough l tape = 4 * (5 * l.bytes + length tape.items) + 5

-- what is so behind each step: what was told is paid for
record Stands (l : Limits) (tape : Tape) (s : State) : Type 0 where
  takes : Takes tape s
  is : IsWithin l s
  named : NamesRequest s.reading
  paid : IsPaid l (notes_left tape) most_of_turn (enough l tape) s

Stands-initial : (l : Limits) (start : Start) (tape : Tape) → Stands l tape (initial l start tape)
Stands-initial l start tape = record {
  takes = each_item_is_taken_once l start tape 0;
  is = no_limit_is_passed l start tape 0;
  named = named-run l start tape 0;
  paid = IsPaid-with_registers l (notes_left tape) most_of_turn (enough l tape) start.registers.items (paged_state start tape) (omega arith) (omega arith) (EndsWithin-initial l start tape);
}

Stands-step : (l : Limits) (tape : Tape) (s : State) → l.bytes < 2 ^ 32 → Stands l tape s → Stands l tape (step l s)
Stands-step l tape s small stands =
    let takes : Takes tape (step l s) = Takes-step tape l s stands.takes in
    let is : IsWithin l (step l s) = IsWithin-step l s stands.is in
    let digits = ten_digits l (step l s).input.line small (line-within l tape (step l s) takes is) in
    let tells = TellsLittle-step l s stands.named in
    record {
      takes = takes;
      is = is;
      named = tells.1;
      paid = IsPaid-step l (notes_left tape) most_of_turn (enough l tape) s stands.paid (λ reads. weighs 10 s (step l s) tells.0 tells.2 digits (fewer-notes l s (step l s) reads));
    }

Stands-after : (l : Limits) (tape : Tape) (n : ℕ) (s : State) → l.bytes < 2 ^ 32 → Stands l tape s → Stands l tape (after l n s)
Stands-after l tape zero s small stands = stands
Stands-after l tape (suc n) s small stands = Stands-after l tape n (step l s) small (Stands-step l tape s small stands)

-- the turns that were taken leave room for what is left
room_left : (l : Limits) (all turns : ℕ) (s : State) → (IsSome s.ended × (turns + bytes_left l s ≤ all)) ⊎ (turns + turns_needed l s ≤ all)
    → turns + bytes_left l s ≤ all
room_left l all turns s (inl ended) = ended.1
room_left l all turns s (inr room) = omega (arith, room, bytes-fewer l s)

-- so few messages are told
TellsFew-stands : (l : Limits) (tape : Tape) (s : State) → Stands l tape s → TellsFew tape s
TellsFew-stands l tape s stands =
    let paid : IsPaid l (notes_left tape) most_of_turn (enough l tape) s = stands.paid in
    let takes : Takes tape s = stands.takes in
    let within : s.input.charge ≤ l.bytes = stands.is.bytes in
    let notes : ℕ = length (notes_of takes.taken) in
    let room : paid.turns + bytes_left l s ≤ enough l tape = room_left l (enough l tape) paid.turns s paid.left in
    let items : length tape.items ≡ length takes.taken + length s.tape.items = ap length takes.items ∙ length-append takes.taken s.tape.items in
    let few : paid.turns ≤ most_turns s.input.charge notes = omega (arith, room, items, items-counted takes.taken, takes.charge, within) in
    let told : notes_left tape ≡ total_length (notes_of takes.taken) + notes_left s.tape =
    ap (λ (items : List Item). total_length (notes_of items)) takes.items ∙ notes-append takes.taken s.tape.items in
    record {
      taken = takes.taken;
      items = takes.items;
      messages = omega (arith, paid.told, told, mul-le-mul_right most_of_turn few);
    }

few_after : (l : Limits) (start : Start) (tape : Tape) (n : ℕ) → l.bytes < 2 ^ 32 → TellsFew tape (after l n (initial l start tape))
few_after l start tape n small = TellsFew-stands l tape _ (Stands-after l tape n (initial l start tape) small (Stands-initial l start tape))

-- where the limit on messages stops a run it has told no more
few_told : (l : Limits) (n : ℕ) (tape : Tape) (s t : State) → ((m : ℕ) → TellsFew tape (after l m s)) → ToldOrStopped l n s t → TellsFew tape t
few_told l n tape s t few (AllTold within) = few n
few_told l n tape s t few (StopsBefore m before going within beyond) =
    let told = few m in record { taken = told.taken; items = told.items; messages = told.messages }

pub messages_are_few : MessagesAreFew
messages_are_few l start tape n small =
    few_told l n tape (initial l start tape) _ (λ m. few_after l start tape m small) (told_or_stopped l n (initial l start tape) (nothing_told l start tape))

-- behind a whole run too
pub each_run_tells_few : EachRunTellsFew
each_run_tells_few l start tape small = at_last_state (TellsFew tape) l start tape (λ n. messages_are_few l start tape n small)

-- what is taken has no more notes than all has
notes-fewer : (taken others : List Item) → length (notes_of taken) ≤ length (notes_of (taken ++ others))
notes-fewer [] others = omega arith
notes-fewer (OneByte b ∷ taken) others = notes-fewer taken others
notes-fewer (OneNote message ∷ taken) others = omega (arith, notes-fewer taken others)

-- so a limit that is great enough stops nothing
pub great_limit_stops_nothing : GreatLimitStopsNothing
great_limit_stops_nothing l start tape n small enough_messages =
    let s : State = after l n (initial l start tape) in
    let stands : Stands l tape s = Stands-after l tape n (initial l start tape) small (Stands-initial l start tape) in
    let few : TellsFew tape s = TellsFew-stands l tape s stands in
    let within : s.input.charge ≤ l.bytes = stands.is.bytes in
    let count : length (notes_of few.taken) ≤ length (notes_of tape.items) =
    subst (λ (items : List Item). length (notes_of few.taken) ≤ length (notes_of items)) (sym few.items) (notes-fewer few.taken s.tape.items) in
    let bytes : total_length (notes_of tape.items) ≡ total_length (notes_of few.taken) + total_length (notes_of s.tape.items) =
    ap (λ (items : List Item). total_length (notes_of items)) few.items ∙ notes-append few.taken s.tape.items in
    let turns : most_turns s.input.charge (length (notes_of few.taken)) ≤ most_turns l.bytes (length (notes_of tape.items)) = omega (arith, within, count) in
    told_after-within l n (initial l start tape) (omega (arith, few.messages, bytes, mul-le-mul_right most_of_turn turns, enough_messages))
