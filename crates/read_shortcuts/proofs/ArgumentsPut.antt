-- The escape of an argument that was taken at once, and its text in front.
use Rattle.std.proofs.Common.{◌≡◌, ◌≢◌, ℕ, ◌+◌, ◌-◌, ◌<◌, ◌≤◌, ◌==◌, true, false, List, [], ◌∷◌, length, None, Some, refl, sym, ap, subst, ◌∙◌, arith, get_or, nat_le, nat_lt, ne_eqb}
use Rattle.std.proofs.lemmas.Bool.Decides.{nat_tests}
use Rattle.run_state.specs.declared.composer.Composer.{Composer as ComposerOf}
use Rattle.input_model.specs.Input.Calls.{argument_live, arguments_live}
use Rattle.input_model.specs.Unread.{IsWithin}
use Rattle.roff_num.specs.declared.limits.Limits.{Limits}
use Rattle.read_lines.specs.Reader.State.{ReaderState}
use Rattle.run_model.specs.Reading.Escapes.{argument_named}
use Rattle.run_model.specs.Reading.Items.{PageInput, PageUnread}
use Rattle.run_model.specs.Reading.Units.{interrupted}
use Rattle.run_model.specs.declared.line_state.LineState.{LineState}
use Rattle.roff_scan.proofs.PassingAhead.{bytes_taken-is}
use Rattle.roff_scan.specs.Unread.Calls.{IsFront, OfSource, OfTexts, PassesFront, front_bytes}
use Rattle.input_source.specs.Tape.{Tape}
use Rattle.read_shortcuts.specs.Registers.{OfArgument, BeginsText, IsArgumentAhead, IsNameFor, IsTextAhead, MayRead, PutsText, ReadsNames, argument_name, escape_of, with_text}
use Rattle.read_shortcuts.specs.declared.registers.TextAhead.{TextAhead}
use Rattle.read_shortcuts.specs.declared.registers.TextAhead.TheVariants.{Register as RegisterAhead, Argument as ArgumentAhead}
use Rattle.read_shortcuts.proofs.RegistersPut.{Leaves, is_register_ahead, leaves, lines_taken-counts, puts_text}
use Rattle.read_shortcuts.proofs.RunsRead.{first_of_front, passed-charge}

-- a digit above 0 is a name
pub is_name-digit : (digit : ℕ) → 49 ≤ digit → digit ≤ 57 → IsNameFor OfArgument digit None
is_name-digit digit above below =
    let no : (b : ℕ) → digit ≢ b → (digit == b) ≡ false = λ b other. ne_eqb digit b other in
    let high : nat_lt digit 32 ≡ false = grind (arith, nat_tests) in
    let backslash_no = no 92 (λ is. omega (arith, is, above, below)) in
    let newline_no = no 10 (λ is. omega (arith, is, above, below)) in
    let delete_no = no 127 (λ is. omega (arith, is, above, below)) in (
      rw (backslash_no, high, delete_no, newline_no) refl,
      no 40 (λ is. omega (arith, is, above, below)),
      no 43 (λ is. omega (arith, is, above, below)),
      no 45 (λ is. omega (arith, is, above, below)),
    )

-- it stands for the argument at its place
pub argument_named-digit : (digit : ℕ) (arguments : List (List ℕ)) → 49 ≤ digit → digit ≤ 57 → argument_named (digit ∷ []) arguments ≡ get_or arguments (digit - 49) []
argument_named-digit digit arguments above below =
    let from : nat_le 49 digit ≡ true = grind (arith, nat_tests) in
    let to : nat_le digit 57 ≡ true = grind (arith, nat_tests) in
    rw (from, to) refl

-- bytes that were taken at once leave the arguments of calls
same_calls : (gave gives : Tape → Type 0) (bytes : List ℕ) (reading : LineState) (before passed : PageUnread) → PassesFront gave gives bytes before passed
    → arguments_live (interrupted reading passed.input) ≡ arguments_live before.input
same_calls gave gives bytes reading before passed passes = there before passed passes
  where
    there : (before passed : PageUnread) → PassesFront gave gives bytes before passed → arguments_live passed.input ≡ arguments_live before.input
    there before passed (OfSource passes) =
        ap (λ (u : PageUnread). arguments_live u.input) (passes.input ∙ ap (λ (k : PageInput). record before { input = k }) (lines_taken-counts bytes before.input))
    there before passed (OfTexts passes) =
        ap (λ (u : PageUnread). arguments_live u.input) (passes.input ∙ ap (λ (k : PageInput). record before { input = k }) (bytes_taken-is bytes passes.behind before.input passes.in_front))

-- an argument's escape was taken, and its text would be in front
module _ (gave gives : Tape → Type 0) (ready : List ℕ) (reading : LineState) (before passed settled : PageUnread) (digit : ℕ) (text : List ℕ)
    (ahead : IsArgumentAhead digit reading ready before) (passes : PassesFront gave gives (escape_of OfArgument (argument_name digit)) before passed)
    (is_settled : settled ≡ record passed { input = interrupted reading passed.input }) (text_is : text ≡ argument_live (digit - 49) before.input) where
  left : Leaves before passed
  left = leaves gave gives (escape_of OfArgument (argument_name digit)) before passed (omega arith) passes

  -- it is the same behind its escape
  same_text : text ≡ argument_live (digit - 49) settled.input
  same_text =
      let same = ap (λ (u : PageUnread). arguments_live u.input) is_settled ∙ same_calls gave gives (escape_of OfArgument (argument_name digit)) reading before passed passes in
      text_is ∙ ap (λ (arguments : List (List ℕ)). get_or arguments (digit - 49) []) (sym same)

  short : length text ≤ 48
  short = omega (arith, ahead.short, ap (λ (bytes : List ℕ). length bytes) text_is)

  -- the limit on bytes has room for what is read of it
  pub argument_room : settled.input.charge + length text < settled.limits.bytes
  argument_room =
      let charge = passed-charge gave gives (escape_of OfArgument (argument_name digit)) before passed passes in
      subst (λ (u : PageUnread). u.input.charge + length text < u.limits.bytes) (sym is_settled)
      (omega (arith, charge, short, ahead.bytes, ap (λ (m : Limits). m.bytes) left.same))

  pub puts_argument : (r : ReaderState) (es : ComposerOf) → r.reading ≡ reading → IsWithin settled → PutsText OfArgument gave gives r es before (with_text text settled)
  puts_argument r es is_reading fits =
      puts_text OfArgument gave gives r es before passed settled (argument_name digit) text (is_name-digit digit ahead.above ahead.below) (subst ReadsNames (sym is_reading) ahead.reads) ahead.none_half
      (omega (arith, short, ahead.room)) ahead.shallow passes
      (subst (λ (reads : LineState). settled ≡ record passed { input = interrupted reads passed.input }) (sym is_reading) is_settled) fits
      (λ limits h stands. same_text ∙ sym (argument_named-digit digit (arguments_live settled.input) ahead.above ahead.below))

-- where bytes in front begin with the escape of a register or an argument, and it may be read at once, it stands so
pub is_text_ahead : (ahead : TextAhead) (bytes ready : List ℕ) (reading : LineState) (u : PageUnread) → BeginsText bytes ahead
    → bytes ≡ front_bytes (length bytes) ready u → IsFront (length bytes) ready u → MayRead ahead reading u → IsTextAhead ahead reading ready u
is_text_ahead (RegisterAhead name) bytes ready reading u begins stood front may =
    is_register_ahead (Some name) bytes ready reading u begins stood front may.reads may.none_half may.room may.shallow may.bytes
is_text_ahead (ArgumentAhead digit) bytes ready reading u begins stood front may = record {
  above = begins.above;
  below = begins.below;
  reads = may.reads;
  none_half = may.none_half;
  front = record { among = omega (arith, begins.among, front.among); within = omega (arith, begins.among, front.within) };
  is = sym (first_of_front bytes 3 ready u stood begins.among) ∙ begins.is;
  room = may.room;
  shallow = may.shallow;
  bytes = may.bytes;
  short = may.short;
}

-- where the escape of a register or an argument stands so, names are read, and nothing is half read
pub reads-ahead : (ahead : TextAhead) (reading : LineState) (ready : List ℕ) (u : PageUnread) → IsTextAhead ahead reading ready u → ReadsNames reading × (u.input.escapes ≡ [])
reads-ahead (RegisterAhead name) reading ready u stands = (stands.reads, stands.none_half)
reads-ahead (ArgumentAhead digit) reading ready u stands = (stands.reads, stands.none_half)
