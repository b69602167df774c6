-- Bytes that stand in front and are taken together as a run.
use Rattle.std.proofs.Common.{◌≡◌, ℕ, ◌+◌, ◌≤◌, Bool, true, false, if◌then◌else◌, List, [], length, take, take_while, refl, sym, ap, subst, ◌∙◌, arith, length-take-le, take-take}
use Rattle.std.specs.List.{AllByRecursion}
use Rattle.std.proofs.lemmas.Bool.{and_parts}
use Rattle.input_model.specs.Arguments.{HeldFewer, held, Arguments as LineArguments}
use Rattle.input_escapes.specs.OpenEscape.{OpenEscape, texts_held}
use Rattle.input_model.specs.Input.{Input, is_none_ahead, pushed}
use Rattle.input_source.specs.Tape.{Tape}
use Rattle.roff_scan.specs.RunKinds.{goes_by_bytes, has_newlines, is_held, is_of, most_whole}
use Rattle.input_model.specs.Unread.{Unread, IsWithin, asks_to_take}
use Rattle.roff_scan.specs.Unread.Calls.{IsFront, NoNewline, PassesFront, front_bytes, next_bytes}
use Rattle.roff_scan.specs.Unread.Runs.{HalvesBehind, TakesRun, arguments_behind, room_for, texts_behind}
use Rattle.roff_scan.specs.declared.run_kind.RunKind.{RunKind}
use Rattle.roff_scan.specs.declared.run_kind.RunKind.TheVariants.{Text, Blanks, Arguments, CallArguments, Name, Condition, Definition, Ignored, Dropped}
use Rattle.input_model.specs.Looking.{is_nothing}
use Rattle.input_model.specs.declared.looked.Looked.{Looked}
use Rattle.input_model.specs.declared.looked.Looked.TheVariants.{Nothing, Byte, Closed}
use Rattle.roff_scan.proofs.Fronts.{nothing_looked, passes_none}
use Rattle.roff_scan.proofs.AddedFronts.{adding-none}
use Rattle.roff_scan.proofs.Staged.{passes-staged, stage-behind, staged}
use Rattle.roff_scan.proofs.RunKinds.{count_held, fewer-none, halves-none, run-none, run-plain, run-texts}

-- a byte that was looked at was
not_nothing : (looked : Looked) → is_nothing looked ≡ false → is_nothing looked ≡ true → ⊥
not_nothing Nothing some none = cc
not_nothing (Byte b) some none = cc
not_nothing (Closed kept) some none = cc

module _ {E : Type 0} where
  -- no count is above its limit where so many bytes more are held at the most, for which there is room
  pub IsWithin-staged : (u : Unread E) (half : List OpenEscape) (a : LineArguments) (more : ℕ) → IsWithin u
      → held a + texts_held half ≤ held u.input.arguments + texts_held u.input.escapes + more → pushed u.input + more ≤ u.limits.stack
      → IsWithin (record u { input = staged half a u.input.open_texts u.input })
  IsWithin-staged u half a more within few room = record {
    charge = within.charge;
    newlines = within.newlines;
    pushed = omega (arith, room, few);
    depth = within.depth;
    results = within.results;
    stored = within.stored;
    names = within.names;
    making = within.making;
  }

  -- where so many bytes are of a run there is room for what is held of them
  pub run-fits : (kind : RunKind) (u : Unread E) (bytes : List ℕ) (most : ℕ) → length bytes ≤ most → IsWithin u
      → (is_held kind ≡ true → pushed u.input + most ≤ u.limits.stack) → pushed u.input + count_held kind bytes ≤ u.limits.stack
  run-fits kind u bytes most few within room = fits (is_held kind) room
    where
      fits : (is : Bool) → (is ≡ true → pushed u.input + most ≤ u.limits.stack) → pushed u.input + (if is then length bytes else 0) ≤ u.limits.stack
      fits true room = omega (arith, room refl, few)
      fits false room = omega (arith, within.pushed)

  module _ (kind : RunKind) (ready : List ℕ) (u : Unread E) (front : List ℕ) (count most : ℕ) (among : length front ≤ length (next_bytes u.input.ahead u.looked ready))
      (same : front ≡ take (length front) (next_bytes u.input.ahead u.looked ready)) (few : count ≤ length front) where
    -- the first of the bytes that were lent stand in front
    pub run_in_front : u.input.charge + length front ≤ u.limits.bytes → IsFront count ready u
    run_in_front allowed = record { among = omega (arith, among, few); within = omega (arith, allowed, few) }

    pub first_in_front : take count front ≡ front_bytes count ready u
    first_in_front = ap (take count) same ∙ take-take count (length front) (next_bytes u.input.ahead u.looked ready) few

    -- in most runs none of them is a newline
    pub run_no_newline : (last : List OpenEscape) → AllByRecursion (λ b. is_of kind b ≡ true) (take count front) → HalvesBehind kind u.input.escapes (take count front) last
        → has_newlines kind ≡ false → NoNewline (front_bytes count ready u)
    run_no_newline last are halves none = subst NoNewline first_in_front (run-plain kind u.input.escapes last (take count front) none are halves)

    -- and they were taken
    abbrev pub takes_run : (old new : Tape → Type 0) (half : List OpenEscape) (a : LineArguments) (after : Unread E) → (kind ≡ Definition → ⊥)
        → AllByRecursion (λ b. is_of kind b ≡ true) (take count front) → HeldFewer (most_whole kind) (take count front) u.input.arguments
        → a ≡ arguments_behind kind (take count front) u.input.arguments → HalvesBehind kind u.input.escapes (take count front) half
        → (goes_by_bytes kind ≡ true → take count front ≡ take_while (is_of kind) front)
        → (is_none_ahead u.input.ahead ≡ true → u.looked ≡ Nothing → front ≡ take most ready)
        → (goes_by_bytes kind ≡ true → most ≡ room_for kind u)
        → PassesFront old new (front_bytes count ready u) (record u { input = staged half a u.input.open_texts u.input }) after
        → TakesRun kind old new ready count u after
    takes_run old new half a after other are fewer held halves far all room passed =
        let bytes : List ℕ = take count front in
        let there : PassesFront old new bytes (record u { input = staged half a u.input.open_texts u.input }) after =
        subst (λ (xs : List ℕ). PassesFront old new xs (record u { input = staged half a u.input.open_texts u.input }) after) (sym first_in_front) passed in
        let stage = stage-behind old new bytes half a u.input.open_texts u after there in
        record {
          bytes = bytes;
          length_is = length-take-le count front few;
          are_of = are;
          fewer = fewer;
          passes = passes-staged old new bytes half a u.input.open_texts u after there;
          arguments = ap (λ (i : Input E). i.arguments) stage ∙ held;
          half_read = subst (HalvesBehind kind u.input.escapes bytes) (sym (ap (λ (i : Input E). i.escapes) stage)) halves;
          texts = ap (λ (i : Input E). i.open_texts) stage ∙ sym (run-texts kind bytes u.input other);
          whole = λ goes asks.
              let parts = and_parts (is_none_ahead u.input.ahead) (is_nothing u.looked) asks in
              far goes
              ∙ ap (take_while (is_of kind)) (all parts.0 (nothing_looked u.looked parts.1))
              ∙ ap (λ (n : ℕ). take_while (is_of kind) (take n ready)) (room goes);
        }

  -- where the front is empty none of the source is of the run, as far as there is room
  pub none-whole : (kind : RunKind) (ready : List ℕ) (u : Unread E) (front : List ℕ) (most : ℕ) → front ≡ []
      → (is_none_ahead u.input.ahead ≡ true → u.looked ≡ Nothing → front ≡ take most ready) → (goes_by_bytes kind ≡ true → most ≡ room_for kind u)
      → goes_by_bytes kind ≡ true → asks_to_take u ≡ true → [] ≡ take_while (is_of kind) (take (room_for kind u) ready)
  none-whole kind ready u front most empty all room goes asks =
      let parts = and_parts (is_none_ahead u.input.ahead) (is_nothing u.looked) asks in
      ap (take_while (is_of kind)) (sym empty ∙ all parts.0 (nothing_looked u.looked parts.1))
      ∙ ap (λ (n : ℕ). take_while (is_of kind) (take n ready)) (room goes)

  -- no bytes are put behind no text
  pub texts-none : (kind : RunKind) (i : Input E) → i.open_texts ≡ texts_behind kind [] i
  texts-none Text i = refl
  texts-none Blanks i = refl
  texts-none Arguments i = refl
  texts-none (CallArguments most) i = refl
  texts-none Name i = refl
  texts-none Condition i = refl
  texts-none Definition i = sym (adding-none i)
  texts-none Ignored i = refl
  texts-none (Dropped within_block) i = refl

  -- where none are in front, none are taken
  abbrev pub takes_none : (kind : RunKind) (gives : Tape → Type 0) (ready : List ℕ) (u : Unread E) → u.input.charge ≤ u.limits.bytes
      → (goes_by_bytes kind ≡ true → asks_to_take u ≡ true → [] ≡ take_while (is_of kind) (take (room_for kind u) ready))
      → TakesRun kind gives gives ready 0 u u
  takes_none kind gives ready u within far = record {
    bytes = [];
    length_is = refl;
    are_of = tt;
    fewer = fewer-none kind u.input.arguments;
    passes = passes_none [] u gives 0 refl within;
    arguments = sym (run-none kind u.input.arguments);
    half_read = halves-none kind u.input.escapes;
    texts = texts-none kind u.input;
    whole = far;
  }

  -- no text is put behind another one where the source's next byte isn't the next one
  pub not_asked-ahead : (u : Unread E) → is_none_ahead u.input.ahead ≡ false → asks_to_take u ≡ true → ⊥
  not_asked-ahead u some asks = let none = (and_parts (is_none_ahead u.input.ahead) (is_nothing u.looked) asks).0 in cc

  pub adds_none-looked : (gives : Tape → Type 0) (ready : List ℕ) (u : Unread E) → u.input.charge ≤ u.limits.bytes → is_nothing u.looked ≡ false
      → TakesRun Definition gives gives ready 0 u u
  adds_none-looked gives ready u within some =
      takes_none Definition gives ready u within
      (λ goes asks. absurd (not_nothing u.looked some (and_parts (is_none_ahead u.input.ahead) (is_nothing u.looked) asks).1))
