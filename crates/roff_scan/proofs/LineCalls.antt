-- A line calls a body: what is counted of its arguments, and which limit refuses it.
use Rattle.std.proofs.Common.{◌≡◌, ◌<◌, ◌≤◌, ◌+◌, ◌-◌, ℕ, Bool, true, false, List, [], ◌∷◌, get_or, length, Ok, Err, refl, ap, ◌∙◌, arith, if◌then◌else◌, reverse, ◌==◌}
use Rattle.roff_num.specs.declared.limit.Limit.TheVariants.{Stack, Depth}
use Rattle.input_model.specs.Arguments.{Arguments, with_byte, with_byte_at, with_plain, with_unit, with_whole, between, settled, settled_at, finished, finished_at, held, in_argument, only_kept, total_length}
use Rattle.input_arguments.specs.ArgumentList.{listed}
use Rattle.input_source.specs.Bytes.{blank, quote}
use Rattle.input_arguments.specs.Calls.Kept.{first_call}
use Rattle.input_model.specs.Input.{Input, ReturnAhead, depth, pushed, returns_ahead}
use Rattle.input_model.specs.Input.Calls.{argument_live, called_text, calling_body, springing}
use Rattle.input_model.specs.Unread.{Unread, IsWithin, changing}
use Rattle.roff_scan.specs.Unread.Kept.{NoneBegun}
use Rattle.input_arguments.specs.declared.arguments.ArgumentList.{ArgumentList}
use Rattle.input_model.specs.declared.place.Place.{Place}
use Rattle.input_model.specs.declared.place.Place.TheVariants.{Between, InPlain, InQuotes, BehindQuote}
use Rattle.input_escapes.specs.declared.open_escape.CopyUnit.{CopyUnit}
use Rattle.input_escapes.specs.declared.open_escape.CopyUnit.TheVariants.{Byte, Kept}
use Rattle.roff_scan.proofs.Changing.{OthersWithin, put_past_stack, put_past_depth, put_within, IsWithin-put}
use Rattle.input_model.proofs.Counts.{bytes_ahead-bytes, ends_ahead-bytes, returns_ahead-bytes}
use Rattle.input_model.proofs.KeptArguments.{held-finished, held-only_kept, total_length-reverse}

-- where an argument is read, the reading doesn't stand between arguments
in_argument-not : (place : Place) → in_argument place ≡ Between → ⊥
in_argument-not Between is = cc
in_argument-not InPlain is = cc
in_argument-not InQuotes is = cc
in_argument-not BehindQuote is = cc

-- so no unit leaves an argument begun between arguments
NoneBegun-if : (is : Bool) (a b : Arguments) → NoneBegun a → NoneBegun b → NoneBegun (if is then a else b)
NoneBegun-if true a b first second = first
NoneBegun-if false a b first second = second

NoneBegun-between : (a : Arguments) (b : ℕ) → NoneBegun a → NoneBegun (between a b)
NoneBegun-between a b none =
    NoneBegun-if (b == blank) a _ none
    (NoneBegun-if (b == quote) (record a { place = InQuotes }) (with_byte a InPlain b) (λ is. cc) (λ is. cc))

NoneBegun-with_byte_at : (place : Place) (a : Arguments) (b : ℕ) → NoneBegun a → NoneBegun (with_byte_at place a b)
NoneBegun-with_byte_at Between a b none = NoneBegun-between a b none
NoneBegun-with_byte_at InPlain a b none = NoneBegun-if (b == blank) (with_whole a) (with_byte a InPlain b) (λ is. refl) (λ is. cc)
NoneBegun-with_byte_at InQuotes a b none =
    NoneBegun-if (b == quote) (record a { place = BehindQuote }) (with_byte a InQuotes b) (λ is. cc) (λ is. cc)
NoneBegun-with_byte_at BehindQuote a b none =
    NoneBegun-if (b == quote) (with_byte a InQuotes b) (between (with_whole a) b) (λ is. cc)
    (NoneBegun-between (with_whole a) b (λ is. refl))

pub NoneBegun-with_unit : (a : Arguments) (unit : CopyUnit) → NoneBegun a → NoneBegun (with_unit a unit)
NoneBegun-with_unit a (Byte b) none = NoneBegun-with_byte_at a.place a b none
NoneBegun-with_unit a (Kept b) none = λ is. absurd (in_argument-not (settled a).place is)

-- a unit of a text in which nothing separates is held as it comes
pub NoneBegun-with_plain : (a : Arguments) (unit : CopyUnit) → NoneBegun (with_plain a unit)
NoneBegun-with_plain a (Byte b) = λ is. cc
NoneBegun-with_plain a (Kept b) = λ is. cc

NoneBegun-settled_at : (place : Place) (a : Arguments) → NoneBegun a → NoneBegun (settled_at place a)
NoneBegun-settled_at Between a none = none
NoneBegun-settled_at InPlain a none = none
NoneBegun-settled_at InQuotes a none = none
NoneBegun-settled_at BehindQuote a none = λ is. refl

pub NoneBegun-settled : (a : Arguments) → NoneBegun a → NoneBegun (settled a)
NoneBegun-settled a none = NoneBegun-settled_at a.place a none

-- and none is once the line has ended
begun-finished_at : (place : Place) (a : Arguments) → (place ≡ Between → a.begun ≡ []) → (finished_at place a).begun ≡ []
begun-finished_at Between a none = none refl
begun-finished_at InPlain a none = refl
begun-finished_at InQuotes a none = refl
begun-finished_at BehindQuote a none = refl

pub begun-finished : (a : Arguments) → NoneBegun a → (finished a).begun ≡ []
begun-finished a none = begun-finished_at a.place a none

-- the arguments that a line was given have the bytes that are held of them
pub length-given : (a : Arguments) → NoneBegun a → total_length (reverse (only_kept (finished a)).whole) ≡ held a
length-given a none =
    let all = total_length-reverse (only_kept (finished a)).whole in
    let begun : length (finished a).begun ≡ 0 = ap length (begun-finished a none) in
    omega (arith, all, begun, held-only_kept (finished a), held-finished a)

-- the arguments of the innermost call
live_is : (calls : List (List (List ℕ))) → first_call calls ≡ elim calls [ [] ↦ [] | arguments ∷ calls ↦ arguments ]
live_is [] = refl
live_is (arguments ∷ calls) = refl

module _ {E : Type 0} where
  -- an argument of it
  pub is_argument_live : (index : ℕ) (i : Input E) (l : ArgumentList) (text : List ℕ) → listed l ≡ first_call i.calls
      → text ≡ get_or (listed l) index [] → text ≡ argument_live index i
  is_argument_live index i l text first is =
      is ∙ ap (λ (arguments : List (List ℕ)). get_or arguments index []) (first ∙ live_is i.calls)

  -- a called body counts by its bytes, and once in the depth; the arguments count as before
  pushed-calling : (body : List ℕ) (i : Input E) → NoneBegun i.arguments
      → pushed (calling_body body i) ≡ length (called_text body) + pushed i
  pushed-calling body i none =
      omega (arith, bytes_ahead-bytes (called_text body) (ReturnAhead 0 ∷ i.ahead), length-given i.arguments none)

  depth-calling : (body : List ℕ) (i : Input E) → depth (calling_body body i) ≡ depth i + 1
  depth-calling body i = ends_ahead-bytes (called_text body) (ReturnAhead 0 ∷ i.ahead)

  -- its end counts as one of a call
  pub returns-calling : (body : List ℕ) (i : Input E) → returns_ahead i.ahead ≡ length i.calls
      → returns_ahead (calling_body body i).ahead ≡ length (calling_body body i).calls
  returns-calling body i same =
      omega (arith, returns_ahead-bytes (called_text body) (ReturnAhead 0 ∷ i.ahead), same)

-- a body that sprang counts as one that a line called
module _ {E : Type 0} (body : List ℕ) (back : ℕ) (i : Input E) where
  pushed-springing : pushed (springing body back i) ≡ length (called_text body) + pushed i
  pushed-springing = omega (arith, bytes_ahead-bytes (called_text body) (ReturnAhead back ∷ i.ahead))

  depth-springing : depth (springing body back i) ≡ depth i + 1
  depth-springing = ends_ahead-bytes (called_text body) (ReturnAhead back ∷ i.ahead)

  pub returns-springing : returns_ahead i.ahead ≡ length i.calls
      → returns_ahead (springing body back i).ahead ≡ length (springing body back i).calls
  returns-springing same = omega (arith, returns_ahead-bytes (called_text body) (ReturnAhead back ∷ i.ahead), same)

module _ {E : Type 0} (u : Unread E) (body : List ℕ) (within : IsWithin u) (none : NoneBegun u.input.arguments)
    (bytes : ℕ) (counted : bytes ≡ pushed u.input) where
  others-calling : OthersWithin u (calling_body body u.input)
  others-calling = record {
    charge = within.charge;
    newlines = within.newlines;
    results = within.results;
    stored = within.stored;
    names = within.names;
    making = within.making;
  }

  -- a body that doesn't fit is refused
  pub call_past_stack : u.limits.stack - bytes < length (called_text body)
      → changing (calling_body body u.input) u ≡ (Err Stack, u)
  call_past_stack above =
      put_past_stack u (calling_body body u.input) others-calling (length (called_text body)) bytes counted
      (pushed-calling body u.input none) (depth-calling body u.input) above

  module _ (fits : length (called_text body) ≤ u.limits.stack - bytes) where
    -- an end that doesn't fit is refused
    pub call_past_depth : u.limits.depth ≤ depth u.input → changing (calling_body body u.input) u ≡ (Err Depth, u)
    call_past_depth above =
        put_past_depth u (calling_body body u.input) others-calling (length (called_text body)) bytes counted
        (pushed-calling body u.input none) (depth-calling body u.input) within.pushed fits above

    module _ (inside : depth u.input < u.limits.depth) where
      -- and a body and an end that fit are put in front
      pub call_within : changing (calling_body body u.input) u ≡ (Ok tt, record u { input = calling_body body u.input })
      call_within =
          put_within u (calling_body body u.input) others-calling (length (called_text body)) bytes counted
          (pushed-calling body u.input none) (depth-calling body u.input) within.pushed fits inside

      pub IsWithin-calling : IsWithin (record u { input = calling_body body u.input })
      IsWithin-calling =
          IsWithin-put u (calling_body body u.input) others-calling (length (called_text body)) bytes counted
          (pushed-calling body u.input none) (depth-calling body u.input) within.pushed fits inside

module _ {E : Type 0} (u : Unread E) (body : List ℕ) (back : ℕ) (within : IsWithin u) (bytes : ℕ) (counted : bytes ≡ pushed u.input) where
  others-springing : OthersWithin u (springing body back u.input)
  others-springing = record {
    charge = within.charge;
    newlines = within.newlines;
    results = within.results;
    stored = within.stored;
    names = within.names;
    making = within.making;
  }

  -- a body that doesn't fit is refused where it springs, too
  pub spring_past_stack : u.limits.stack - bytes < length (called_text body)
      → changing (springing body back u.input) u ≡ (Err Stack, u)
  spring_past_stack above =
      put_past_stack u (springing body back u.input) others-springing (length (called_text body)) bytes counted
      (pushed-springing body back u.input) (depth-springing body back u.input) above

  module _ (fits : length (called_text body) ≤ u.limits.stack - bytes) where
    -- so is an end that doesn't fit
    pub spring_past_depth : u.limits.depth ≤ depth u.input → changing (springing body back u.input) u ≡ (Err Depth, u)
    spring_past_depth above =
        put_past_depth u (springing body back u.input) others-springing (length (called_text body)) bytes counted
        (pushed-springing body back u.input) (depth-springing body back u.input) within.pushed fits above

    module _ (inside : depth u.input < u.limits.depth) where
      -- and what fits is put in front
      pub spring_within :
          changing (springing body back u.input) u ≡ (Ok tt, record u { input = springing body back u.input })
      spring_within =
          put_within u (springing body back u.input) others-springing (length (called_text body)) bytes counted
          (pushed-springing body back u.input) (depth-springing body back u.input) within.pushed fits inside

      pub IsWithin-springing : IsWithin (record u { input = springing body back u.input })
      IsWithin-springing =
          IsWithin-put u (springing body back u.input) others-springing (length (called_text body)) bytes counted
          (pushed-springing body back u.input) (depth-springing body back u.input) within.pushed fits inside
