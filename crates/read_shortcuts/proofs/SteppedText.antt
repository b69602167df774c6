-- The escape that steps a register, taken at once, and the register's text in front.
use Rattle.std.proofs.Common.{◌≡◌, ℕ, ◌+◌, ◌<◌, ◌≤◌, ◌==◌, false, List, [], length, Option, Some, None, refl, sym, ap, subst, ◌∙◌, arith, IfSome}
use Rattle.run_state.specs.Composer.Standing.{StandFor}
use Rattle.run_state.specs.declared.composer.Composer.{Composer as ComposerOf}
use Rattle.input_escapes.specs.OpenEscape.{OpenEscape}
use Rattle.input_model.specs.Input.{depth, pushed}
use Rattle.input_model.specs.Unread.{IsWithin}
use Rattle.roff_num.specs.ShortNames.{name_bytes}
use Rattle.roff_num.specs.declared.direction.Direction.{Direction}
use Rattle.roff_num.specs.declared.direction.Direction.TheVariants.{Up, Down}
use Rattle.roff_num.specs.declared.limits.Limits.{Limits}
use Rattle.roff_num.specs.declared.short_name.ShortName.{ShortName}
use Rattle.read_lines.specs.Reader.State.{ReaderState}
use Rattle.read_lines.specs.Reader.Stepping.{StepsReader}
use Rattle.run_model.specs.Environments.{PageHistory}
use Rattle.run_model.specs.Reading.Items.{PageUnread}
use Rattle.run_model.specs.Registers.{text_of_register}
use Rattle.run_model.specs.Run.{known_at}
use Rattle.run_model.specs.Stages.{stage_of}
use Rattle.run_model.specs.declared.line_state.LineState.{LineState}
use Rattle.run_model.specs.declared.line_state.LineState.TheVariants.{Text as InText}
use Rattle.run_model.specs.declared.line_state.TextLine.{TextLine}
use Rattle.roff_scan.proofs.Changing.{IsWithin-pushing}
use Rattle.roff_scan.specs.Unread.Calls.{IsFront, NoNewline, PassesFront, front_bytes}
use Rattle.input_source.specs.Bytes.{backslash, is_dropped, newline}
use Rattle.input_source.specs.Tape.{Tape}
use Rattle.read_shortcuts.specs.Registers.{IsNameOf, with_text}
use Rattle.read_shortcuts.specs.Stepped.{IsStepAhead, StepsText}
use Rattle.read_shortcuts.specs.SteppedNames.{AsksStep, BeginsStep, sign_of, step_behind, step_escape}
use Rattle.read_shortcuts.specs.declared.stepped.Stepped.{Stepped}
use Rattle.read_shortcuts.proofs.HeldRuns.{none_of_three}
use Rattle.read_shortcuts.proofs.RegistersPut.{Leaves, leaves, turns-pushed}
use Rattle.read_shortcuts.proofs.RunsRead.{first_of_front, passed-charge}
use Rattle.read_shortcuts.proofs.SteppedNames.{asks_step}

-- no newline is in such an escape
sign_no_newline : (direction : Direction) → (sign_of direction == newline) ≡ false
sign_no_newline Up = refl
sign_no_newline Down = refl

pub no_newline : (direction : Direction) (first : ℕ) (second : Option ℕ) → IsNameOf first second → NoNewline (step_behind direction first second)
no_newline direction first None is =
    (refl, (refl, (sign_no_newline direction, ((none_of_three (first == backslash) (is_dropped first) (first == newline) is.0).1.1, tt))))
no_newline direction first (Some second) is = (
  refl,
  (
    refl,
    (
      sign_no_newline direction,
      (
        refl,
        (
          (none_of_three (first == backslash) (is_dropped first) (first == newline) is.0).1.1,
          ((none_of_three (second == backslash) (is_dropped second) (second == newline) is.1).1.1, tt),
        ),
      ),
    ),
  ),
)

-- it has some bytes, and few
some_bytes : (direction : Direction) (first : ℕ) (second : Option ℕ) → 1 ≤ length (step_behind direction first second)
some_bytes direction first None = omega arith
some_bytes direction first (Some second) = omega arith

few_bytes : (direction : Direction) (first : ℕ) (second : Option ℕ) → length (step_behind direction first second) ≤ 6
few_bytes direction first None = omega arith
few_bytes direction first (Some second) = omega arith

-- The escape was taken, and the register's text would be in front.
module _ (gave gives : Tape → Type 0) (ready : List ℕ) (direction : Direction) (name : ShortName) (old new : ReaderState) (before passed : PageUnread) (text : List ℕ)
    (ahead : IsStepAhead direction name old.reading ready before) (steps : StepsReader direction (name_bytes name) old new)
    (passes : PassesFront gave gives (step_escape direction name) before passed) (few : length text ≤ 48) where
  left : Leaves before passed
  left = leaves gave gives (step_escape direction name) before passed (some_bytes direction name.first name.second) passes

  -- the limit on bytes has room for what is read of it
  pub room_stepped : passed.input.charge + length text < passed.limits.bytes
  room_stepped =
      let charge = passed-charge gave gives (step_escape direction name) before passed passes in
      omega (arith, charge, few_bytes direction name.first name.second, few, ahead.bytes, ap (λ (m : Limits). m.bytes) left.same)

  asked : AsksStep direction before.input.names (stage_of old.reading before.input) (step_escape direction name) (name_bytes name)
  asked =
      subst (λ (reading : LineState). AsksStep direction before.input.names (stage_of reading before.input) (step_escape direction name) (name_bytes name)) (sym ahead.reads)
      (subst (λ (half : List OpenEscape). AsksStep direction before.input.names (record { reading = InText ahead.line; escapes = half; arguments = before.input.arguments; texts = before.input.open_texts }) (step_escape direction name) (name_bytes name)) (sym ahead.none_half)
      (asks_step direction before.input.names ahead.line before.input.arguments before.input.open_texts name.first name.second ahead.named))

  pub steps_text : (es : ComposerOf) → IsWithin passed
      → ((limits : Limits) (h : PageHistory) → StandFor limits h es → text ≡ text_of_register (known_at h new.registers.all passed.input) (name_bytes name))
      → StepsText gave gives old new es before (with_text text passed)
  steps_text es fits text_is =
      let turns = turns-pushed text passed in
      record {
        direction = direction;
        bytes = step_escape direction name;
        name = name_bytes name;
        text = text;
        passed = passed;
        line = ahead.line;
        reads = ahead.reads;
        asked = asked;
        steps = steps;
        passes = passes;
        text_is = text_is;
        put = refl;
        fewer = omega (arith, turns, left.turns);
        half = left.half;
        within = IsWithin-pushing passed text fits (pushed passed.input) refl
            (omega (arith, few, ahead.room, left.less, ap (λ (m : Limits). m.stack) left.same))
            (omega (arith, ahead.shallow, left.fewer, ap (λ (m : Limits). m.depth) left.same));
      }

-- where bytes in front begin with the escape, and the limits have room, it is read at once
pub is_step_ahead : (direction : Direction) (name : ShortName) (bytes ready : List ℕ) (line : TextLine) (reading : LineState) (u : PageUnread) → BeginsStep bytes direction name
    → bytes ≡ front_bytes (length bytes) ready u → IsFront (length bytes) ready u → reading ≡ InText line → u.input.escapes ≡ []
    → pushed u.input + 48 ≤ u.limits.stack → depth u.input < u.limits.depth → u.input.charge + 55 ≤ u.limits.bytes
    → IsStepAhead direction name reading ready u
is_step_ahead direction name bytes ready line reading u begins stood front reads none_half room shallow charge = record {
  named = begins.named;
  line = line;
  reads = reads;
  none_half = none_half;
  front = record { among = omega (arith, begins.among, front.among); within = omega (arith, begins.among, front.within) };
  is = sym (first_of_front bytes (length (step_escape direction name)) ready u stood begins.among) ∙ begins.is;
  room = room;
  shallow = shallow;
  bytes = charge;
}

-- the same of one that is found
pub found_ahead : (found : Option Stepped) (bytes ready : List ℕ) (line : TextLine) (reading : LineState) (u : PageUnread) → IfSome found (λ stepped. BeginsStep bytes stepped.direction stepped.name)
    → bytes ≡ front_bytes (length bytes) ready u → IsFront (length bytes) ready u → reading ≡ InText line → u.input.escapes ≡ []
    → pushed u.input + 48 ≤ u.limits.stack → depth u.input < u.limits.depth → u.input.charge + 55 ≤ u.limits.bytes
    → IfSome found (λ stepped. IsStepAhead stepped.direction stepped.name reading ready u)
found_ahead None bytes ready line reading u begins stood front reads none_half room shallow charge = tt
found_ahead (Some stepped) bytes ready line reading u begins stood front reads none_half room shallow charge =
    is_step_ahead stepped.direction stepped.name bytes ready line reading u begins stood front reads none_half room shallow charge
