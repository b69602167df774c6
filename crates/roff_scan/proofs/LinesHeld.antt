-- A line that is taken up to its newline, and the newline behind it.
use Rattle.std.proofs.Common.{◌≡◌, ◌==◌, ℕ, suc, zero, ◌+◌, ◌-◌, ◌≤◌, true, List, [], ◌∷◌, ◌++◌, count_by, drop, length, map, Option, take, refl, sym, ap, subst, ◌∙◌, arith, cond, length-drop, take-take, length-take-le}
use Rattle.std.specs.List.{AllByRecursion}
use Rattle.std.proofs.lemmas.List.Sums.{sum_by-cons}
use Rattle.std.proofs.Math.Seq.{take-add}
use Rattle.std.proofs.lemmas.Bool.{and_parts}
use Rattle.std.proofs.lemmas.List.{drop-take}
use Rattle.input_model.specs.Input.{counting, is_none_ahead, pushed}
use Rattle.input_model.specs.declared.looked.Looked.TheVariants.{Nothing}
use Rattle.input_model.specs.Unread.{IsWithin, Unread, asks_to_take}
use Rattle.input_source.specs.Bytes.{is_argument_byte, newline}
use Rattle.input_source.specs.Tape.{OneByte, Tape, Took}
use Rattle.roff_scan.specs.Unread.Calls.{NoNewline, PassesFront, PassesSource, front_bytes, next_bytes}
use Rattle.roff_scan.specs.Unread.Lines.{HoldsLine, StandsNewline, ended_by, line_behind, line_room, standing, with_held}
use Rattle.roff_scan.specs.declared.unread.lines.BehindHeld.{BehindHeld}
use Rattle.roff_scan.specs.declared.run_kind.RunKind.TheVariants.{Arguments as ArgumentsRun}
use Rattle.roff_scan.proofs.RunKinds.{run-held, run-plain}
use Rattle.roff_scan.proofs.Runs.{IsWithin-staged}
use Rattle.input_arguments.specs.ArgumentTexts.Kept.{StopsAt}
use Rattle.input_model.specs.Arguments.{Arguments, HeldFewer, bytes_held}
use Rattle.input_model.specs.Looking.{is_nothing}
use Rattle.roff_scan.proofs.Fronts.{nothing_looked, passes_lines, source}
use Rattle.roff_scan.proofs.Passing.{counted}

-- no newline is counted among bytes that have none
none_counted : (bytes : List ℕ) → NoNewline bytes → count_by (λ b. b == newline) bytes ≡ 0
none_counted [] plain = refl
none_counted (b ∷ bytes) plain =
    let split : count_by (λ c. c == newline) (b ∷ bytes) ≡ 0 + count_by (λ c. c == newline) bytes =
    sum_by-cons (λ c. cond (c == newline) 1 0) b bytes ∙ ap (λ t. cond t 1 0 + count_by (λ c. c == newline) bytes) plain.0 in
    omega (arith, split, none_counted bytes plain.1)

-- bytes that have no newline, and others that have none
plain-append : (front bytes : List ℕ) → NoNewline front → NoNewline bytes → NoNewline (front ++ bytes)
plain-append [] bytes first others = others
plain-append (b ∷ front) bytes first others = (first.0, plain-append front bytes first.1 others)

-- of bytes that are lent, those behind the first ones stand behind these among all that come next
pub taken_behind : (next front : List ℕ) (skipped count : ℕ) → front ≡ take (length front) next → count ≤ length (drop skipped front)
    → take (skipped + count) next ≡ take skipped next ++ take count (drop skipped front)
taken_behind next front skipped count is few =
    take-add skipped count next ∙ ap (λ (bytes : List ℕ). take skipped next ++ bytes) (sym (same count few))
  where
    same : (count : ℕ) → count ≤ length (drop skipped front) → take count (drop skipped front) ≡ take count (drop skipped next)
    same zero few = refl
    same (suc n) few =
        let left : length (drop skipped front) ≡ length front - skipped = length-drop skipped front in
        let more : ℕ = length front - skipped in
        let parts : length front ≡ skipped + more = omega (arith, few, left) in
        ap (λ (bytes : List ℕ). take (suc n) (drop skipped bytes)) (is ∙ ap (λ (m : ℕ). take m next) parts)
        ∙ ap (take (suc n)) (drop-take skipped more next)
        ∙ take-take (suc n) more (drop skipped next) (omega (arith, few, left))

module _ {E : Type 0} (ready : List ℕ) (u : Unread E) (count : ℕ) (stands : StandsNewline count ready u) (none : is_none_ahead u.input.ahead ≡ true)
    (plain : NoNewline (front_bytes count ready u)) where
  -- what is counted of so many bytes of the source and a newline behind them
  abbrev behind_newline : Unread E
  behind_newline = record u { input = counting newline (record u.input { charge = u.input.charge + count }); looked = Nothing }

  -- they were taken at once
  pub passes_ended : (old new : Tape → Type 0) → Took old new (map OneByte (take (count + 1) ready)) → PassesSource old new (front_bytes count ready u ++ newline ∷ []) u behind_newline
  passes_ended old new took =
      let front : List ℕ = front_bytes count ready u in
      let next : next_bytes u.input.ahead u.looked ready ≡ ready = (source ready u (count + 1) stands.front (omega arith) none).1.1 in
      let split : take (count + 1) ready ≡ front ++ newline ∷ [] = ap (take (count + 1)) (sym next) ∙ stands.last in
      let among = stands.front.among in
      let few : length front ≡ count = length-take-le count (next_bytes u.input.ahead u.looked ready) (omega (arith, among)) in
      let nothing : count_by (λ b. b == newline) front ≡ 0 = none_counted front plain in
      let same : u.input.newlines + 0 ≡ u.input.newlines = omega arith in
      subst (λ (bytes : List ℕ). PassesSource old new bytes u behind_newline) stands.last
      (subst (λ (after : Unread E). PassesSource old new (front_bytes (count + 1) ready u) u after)
      (ap (λ (n : ℕ). record u { input = counting newline (counted n (count_by (λ b. b == newline) front) u.input); looked = Nothing }) few
      ∙ ap (λ (n : ℕ). record u { input = counting newline (counted count n u.input); looked = Nothing }) nothing
      ∙ ap (λ (n : ℕ). record u { input = counting newline (record u.input { charge = u.input.charge + count; newlines = n }); looked = Nothing }) same)
      (passes_lines ready u (count + 1) stands.front (omega arith) none old new front (take (count + 1) ready) newline refl split took))

module _ {E : Type 0} (most : Option ℕ) (ready : List ℕ) (u : Unread E) (front rest : List ℕ) (skipped count room : ℕ) (behind_is : rest ≡ drop skipped front)
    (cut : front ≡ take (length front) (next_bytes u.input.ahead u.looked ready)) (among : length front ≤ length (next_bytes u.input.ahead u.looked ready))
    (few : length front ≤ room) (taken : count ≤ length rest) where
  -- the bytes of a line that are held, and the arguments behind them
  abbrev pub held_bytes : List ℕ
  held_bytes = take count rest

  abbrev pub arguments_held : Arguments
  arguments_held = bytes_held held_bytes u.input.arguments

  next : List ℕ
  next = next_bytes u.input.ahead u.looked ready

  length_rest : length rest ≡ length front - skipped
  length_rest = ap length behind_is ∙ length-drop skipped front

  -- they stand behind the first ones among the bytes that come next
  pub all_taken : (n : ℕ) → n ≤ length rest → front_bytes (skipped + n) ready u ≡ front_bytes skipped ready u ++ take n rest
  all_taken n enough =
      taken_behind (next_bytes u.input.ahead u.looked ready) front skipped n cut (omega (arith, enough, ap length behind_is))
      ∙ ap (λ (bytes : List ℕ). front_bytes skipped ready u ++ take n bytes) (sym behind_is)

  -- none of them is a newline
  pub all_plain : NoNewline (front_bytes skipped ready u) → AllByRecursion (λ b. is_argument_byte b ≡ true) held_bytes → NoNewline (front_bytes (skipped + count) ready u)
  all_plain plain are =
      subst NoNewline (sym (all_taken count taken)) (plain-append (front_bytes skipped ready u) held_bytes plain (run-plain ArgumentsRun [] [] held_bytes refl are refl))

  -- no count is above its limit with them
  pub all_within : IsWithin u → pushed u.input + (room - skipped) ≤ u.limits.stack → IsWithin (with_held arguments_held u)
  all_within within stack =
      let length_held : length held_bytes ≡ count = length-take-le count rest taken in
      IsWithin-staged u u.input.escapes arguments_held (length held_bytes) within
      (run-held ArgumentsRun held_bytes u.input.arguments u.input.escapes u.input.escapes refl)
      (omega (arith, stack, few, taken, length_held, length_rest))

  -- so the line was held so far
  pub holds_line : (old new : Tape → Type 0) (behind : BehindHeld) (after : Unread E) → AllByRecursion (λ b. is_argument_byte b ≡ true) held_bytes
      → HeldFewer most held_bytes u.input.arguments → IsWithin u → pushed u.input + (room - skipped) ≤ u.limits.stack
      → PassesFront old new (ended_by behind (front_bytes (skipped + count) ready u)) (with_held arguments_held u) after
      → (is_none_ahead u.input.ahead ≡ true → u.looked ≡ Nothing → front ≡ take room ready) → room ≡ line_room skipped u
      → StopsAt most rest count arguments_held → behind ≡ standing (drop count rest)
      → HoldsLine most skipped old new ready behind u after
  holds_line old new behind after are fewer within stack passes whole is_room stops there =
      let length_held : length held_bytes ≡ count = length-take-le count rest taken in
      record {
        held = held_bytes;
        are_held = are;
        fewer = fewer;
        within = all_within within stack;
        passes = subst (λ (bytes : List ℕ). PassesFront old new (ended_by behind bytes) (with_held arguments_held u) after) (all_taken count taken) passes;
        stops = λ asks. subst (λ (bytes : List ℕ). StopsAt most bytes (length held_bytes) arguments_held) (far asks) (subst (λ (n : ℕ). StopsAt most rest n arguments_held) (sym length_held) stops);
        stands = λ asks. there ∙ ap (λ (bytes : List ℕ). standing (drop count bytes)) (far asks)
            ∙ ap (λ (n : ℕ). standing (drop n (line_behind skipped u ready))) (sym length_held);
      }
    where
      far : asks_to_take u ≡ true → rest ≡ line_behind skipped u ready
      far asks =
          let parts = and_parts (is_none_ahead u.input.ahead) (is_nothing u.looked) asks in
          behind_is ∙ ap (drop skipped) (whole parts.0 (nothing_looked u.looked parts.1) ∙ ap (λ (n : ℕ). take n ready) is_room)
