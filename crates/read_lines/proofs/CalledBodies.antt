-- What the code does where a line calls a body, as the definition does it.
use Rattle.std.proofs.Common.{◌≡◌, ◌<◌, ◌≤◌, ℕ, ◌-◌, Bool, true, false, List, [], ◌∷◌, length, Result, Ok, Err, refl, sym, subst, ap, ◌==◌, arith, ◌&&◌, get_or, if◌then◌else◌, nat_le, le-leb, leb-true}
use Rattle.std.proofs.lemmas.Bool.{lt-leb}
use Rattle.run_state.specs.declared.composer.Composer.{Composer as ComposerOf}
use Rattle.roff_num.specs.declared.limit.Limit.{Limit}
use Rattle.input_model.specs.Unread.{changing}
use Rattle.input_escapes.specs.declared.open_escape.CopyUnit.{CopyUnit}
use Rattle.input_escapes.specs.declared.open_escape.CopyUnit.TheVariants.{Byte, Kept}
use Rattle.read_lines.specs.Reader.State.{ReaderState}
use Rattle.read_lines.specs.Reader.Taken.{TakesAs}
use Rattle.run_model.specs.Reading.Items.{PageUnread, PageInput, going_on}
use Rattle.run_model.specs.Reading.Calls.{call_unit, holding_call}
use Rattle.run_model.specs.Reading.Escapes.{argument_named}
use Rattle.run_model.specs.Reading.Units.{holding, settling}
use Rattle.run_model.specs.declared.step.Step.{Step}
use Rattle.run_model.specs.declared.step.Step.TheVariants.{Nothing}
use Rattle.run_model.specs.declared.line_state.LineState.TheVariants.{Collecting}
use Rattle.run_model.specs.declared.purpose.Purpose.TheVariants.{Calling}
use Rattle.roff_num.specs.declared.short_name.ShortName.{ShortName}
use Rattle.read_lines.proofs.Strings.{other}
use Rattle.read_lines.proofs.TakesAs.{TakesAs-as, TakesAs-settled}
use Rattle.read_lines.proofs.LinesTaken.{TakesAs-changed, TakesAs-meant, TakesAs-not_changed}

-- another unit than a newline or a quote is held where no quote follows the quote before
pub call_unit-other : (i : PageInput) (name : ShortName) (unit : CopyUnit) → (unit ≡ Byte 10 → ⊥) → (unit ≡ Byte 34 → ⊥)
    → going_on (holding_call unit (settling i)) (Collecting (Calling name)) ≡ call_unit i name unit
call_unit-other i name (Kept b) no_newline no_quote = refl
call_unit-other i name (Byte b) no_newline no_quote =
    let newline : (b == 10) ≡ false = other b 10 (λ is. no_newline (ap (λ (c : ℕ). Byte c) is)) in
    let quote : (b == 34) ≡ false = other b 34 (λ is. no_quote (ap (λ (c : ℕ). Byte c) is)) in
    rw (newline, quote) refl

-- a quote may follow the quote before
pub call_unit-quote : (i : PageInput) (name : ShortName) (unit : CopyUnit) → unit ≡ Byte 34
    → going_on (holding_call unit i) (Collecting (Calling name)) ≡ call_unit i name unit
call_unit-quote i name unit is =
    subst (λ (u : CopyUnit). going_on (holding_call u i) (Collecting (Calling name)) ≡ call_unit i name u) (sym is) refl

module _ (unit : CopyUnit) (name : ShortName) (es : ComposerOf) (old new : ReaderState) (u behind : PageUnread) where
  -- a unit is held while fewer than nine arguments are whole
  holding_few : length u.input.arguments.whole < 9 → going_on (holding unit u.input) (Collecting (Calling name)) ≡ going_on (holding_call unit u.input) (Collecting (Calling name))
  holding_few few =
      ap (λ (full : Bool). going_on (if full then u.input else holding unit u.input) (Collecting (Calling name))) (sym (lt-leb 9 (length u.input.arguments.whole) few))

  pub TakesAs-call_held : (m : Step) (done : Unit {0}) → length u.input.arguments.whole < 9 → (Ok done, behind) ≡ changing (holding unit u.input) u
      → new ≡ record old { reading = Collecting (Calling name) } → m ≡ Nothing
      → TakesAs (λ k. going_on (holding_call unit u.input) (Collecting (Calling name))) es old new u behind (Ok m)
  TakesAs-call_held m done few changes came none =
      subst (λ (t : _). TakesAs (λ k. t) es old new u behind (Ok m)) (holding_few few)
      (TakesAs-changed (holding unit u.input) (Collecting (Calling name)) es old new u behind m done changes came none)

  -- or a limit refuses it
  pub TakesAs-call_not_held : (limit : Limit) → length u.input.arguments.whole < 9 → (Err limit, behind) ≡ changing (holding unit u.input) u
      → TakesAs (λ k. going_on (holding_call unit u.input) (Collecting (Calling name))) es old new u behind (Err limit)
  TakesAs-call_not_held limit few changes =
      subst (λ (t : _). TakesAs (λ k. t) es old new u behind (Err limit)) (holding_few few)
      (TakesAs-not_changed (holding unit u.input) (Collecting (Calling name)) es old new u behind limit changes)

-- behind nine arguments nothing is held
pub TakesAs-call_full : (unit : CopyUnit) (name : ShortName) (es : ComposerOf) (old new : ReaderState) (u : PageUnread) (m : Step) → 9 ≤ length u.input.arguments.whole
    → new ≡ record old { reading = Collecting (Calling name) } → m ≡ Nothing
    → TakesAs (λ k. going_on (holding_call unit u.input) (Collecting (Calling name))) es old new u u (Ok m)
TakesAs-call_full unit name es old new u m full came none =
    TakesAs-meant (λ k. going_on (holding_call unit u.input) (Collecting (Calling name))) (Collecting (Calling name)) es old new u m
    (λ k. ap (λ (full : Bool). going_on (if full then u.input else holding unit u.input) (Collecting (Calling name))) (le-leb 9 (length u.input.arguments.whole) full))
    came none

-- a digit names an argument
pub argument_named-digit : (name : List ℕ) (arguments : List (List ℕ)) → length name ≡ 1 → 49 ≤ get_or name 0 0 → get_or name 0 0 ≤ 57
    → get_or arguments (get_or name 0 0 - 49) [] ≡ argument_named name arguments
argument_named-digit [] arguments one above below = absurd (omega (arith, one))
argument_named-digit (digit ∷ []) arguments one above below = rw (le-leb 49 digit above, le-leb digit 57 below) refl
argument_named-digit (first ∷ second ∷ others) arguments one above below = absurd (omega (arith, one))

-- by whether it is one
unless_both : (first second : Bool) (argument : List ℕ) → (first ≡ true → second ≡ true → ⊥) → [] ≡ (if first && second then argument else [])
unless_both false second argument not = refl
unless_both true false argument not = refl
unless_both true true argument not = absurd (not refl refl)

-- anything else names an empty one
pub argument_named-other : (name : List ℕ) (arguments : List (List ℕ)) → (length name ≡ 1 → 49 ≤ get_or name 0 0 → get_or name 0 0 ≤ 57 → ⊥)
    → [] ≡ argument_named name arguments
argument_named-other [] arguments not = refl
argument_named-other (digit ∷ []) arguments not =
    unless_both (nat_le 49 digit) (nat_le digit 57) (get_or arguments (digit - 49) []) (λ above below. not refl (leb-true 49 digit above) (leb-true digit 57 below))
argument_named-other (first ∷ second ∷ others) arguments not = refl

module _ (unit : CopyUnit) (name : ShortName) (es : ComposerOf) (old new : ReaderState) (u mid behind : PageUnread) (result : Result Step Limit) where
  -- a quote behind a call's name, as it is read where the line is
  pub TakesAs-call_quote : mid ≡ u → unit ≡ Byte 34 → TakesAs (λ k. going_on (holding_call unit mid.input) (Collecting (Calling name))) es old new mid behind result
      → TakesAs (λ k. call_unit u.input name unit) es old new u behind result
  TakesAs-call_quote same is takes =
      TakesAs-as (λ k. going_on (holding_call unit u.input) (Collecting (Calling name))) (λ k. call_unit u.input name unit) es old new u behind result
      (λ k. call_unit-quote u.input name unit is)
      (subst (λ (v : PageUnread). TakesAs (λ k. going_on (holding_call unit v.input) (Collecting (Calling name))) es old new v behind result) same takes)

  -- and any other unit but a newline
  pub TakesAs-call_other : mid ≡ record u { input = settling u.input } → (unit ≡ Byte 10 → ⊥) → (unit ≡ Byte 34 → ⊥)
      → TakesAs (λ k. going_on (holding_call unit mid.input) (Collecting (Calling name))) es old new mid behind result
      → TakesAs (λ k. call_unit u.input name unit) es old new u behind result
  TakesAs-call_other settles no_newline no_quote takes =
      TakesAs-as (λ k. going_on (holding_call unit (settling u.input)) (Collecting (Calling name))) (λ k. call_unit u.input name unit) es old new u behind result
      (λ k. call_unit-other u.input name unit no_newline no_quote)
      (TakesAs-settled (Collecting (Calling name)) (λ k i. going_on (holding_call unit i) (Collecting (Calling name))) es old new u mid behind result settles takes)
