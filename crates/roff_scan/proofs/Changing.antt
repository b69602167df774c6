-- Which changes of the input a limit refuses.
use Rattle.std.proofs.Common.{true, false, None, ◌≡◌, ◌<◌, ◌≤◌, ◌+◌, ◌-◌, ℕ, List, ◌∷◌, Ok, Err, length, refl, arith, nat_lt, Bool, Option, Some, if◌then◌else◌}
use Rattle.std.proofs.lemmas.Bool.Decides.{nat_tests}
use Rattle.roff_num.specs.declared.limit.Limit.{Limit}
use Rattle.roff_num.specs.declared.limit.Limit.TheVariants.{Stack, Depth, Store, Names}
use Rattle.input_model.specs.Arguments.{Arguments, held}
use Rattle.input_escapes.specs.OpenEscape.{OpenEscape, texts_held}
use Rattle.input_model.specs.Input.{Input, EndAhead, pushed, depth, result_count, pushing, freeing, leaving, with_arguments, with_escapes}
use Rattle.input_model.specs.Input.Names.{names_added, stored}
use Rattle.input_model.specs.declared.looked.Looked.{Looked}
use Rattle.input_model.specs.Unread.{Unread, IsWithin, changing, unless_passed}
use Rattle.roff_scan.proofs.CallsOver.{results_below-few}
use Rattle.input_model.proofs.KeptArguments.{held-only_kept}
use Rattle.input_model.proofs.Counts.{bytes_ahead-bytes, ends_ahead-bytes, bytes_ahead-frees, ends_ahead-frees}

-- a test that fails, and one that holds
pub not_above : (limit count : ℕ) → count ≤ limit → nat_lt limit count ≡ false
not_above limit count within = grind (arith, nat_tests)

pub is_above : (limit count : ℕ) → limit < count → nat_lt limit count ≡ true
is_above limit count above = grind (arith, nat_tests)

-- the limit on texts that refuses an input, by whether it has too many bytes of them, and too many names
abbrev pub texts_refusal : Bool → Bool → Option Limit
texts_refusal bytes names = if bytes then Some Store else if names then Some Names else None

module _ {E : Type 0} where
  -- a pushed text counts by its bytes, and once in the depth
  pub pushed-pushing : (text : List ℕ) (i : Input E) → pushed (pushing text i) ≡ length text + pushed i
  pushed-pushing text i = omega (arith, bytes_ahead-bytes text (EndAhead ∷ i.ahead))

  pub depth-pushing : (text : List ℕ) (i : Input E) → depth (pushing text i) ≡ depth i + 1
  depth-pushing text i = ends_ahead-bytes text (EndAhead ∷ i.ahead)

module _ {E : Type 0} (u : Unread E) (i : Input E) where
  -- the counts beside those of what stands in front
  pub record OthersWithin : Type 0 where
    pub charge : i.charge ≤ u.limits.bytes
    pub newlines : i.newlines ≤ i.charge
    pub results : result_count i ≤ u.limits.conditions
    pub stored : stored i ≤ u.limits.store
    pub names : names_added i ≤ u.limits.names
    pub making : length i.open_texts ≤ u.limits.diversions + 1

  -- the limits on the texts come first, of which the bytes and the names may be above theirs
  pub changing_texts : pushed i ≤ u.limits.stack → depth i ≤ u.limits.depth → length i.open_texts ≤ u.limits.diversions + 1
      → result_count i ≤ u.limits.conditions
      → changing i u
      ≡ unless_passed (texts_refusal (nat_lt u.limits.store (stored i)) (nat_lt u.limits.names (names_added i))) i u
  changing_texts within inside making few =
      rw (
        not_above u.limits.stack (pushed i) within,
        not_above u.limits.depth (depth i) inside,
        not_above u.limits.diversions (length i.open_texts - 1) (omega (arith, making)),
        not_above u.limits.conditions (result_count i) few,
      ) refl

  module _ (others : OthersWithin) where
    -- then that on the stack, and that on the depth
    pub changing_past_stack : u.limits.stack < pushed i → changing i u ≡ (Err Stack, u)
    changing_past_stack above =
        rw (
          not_above u.limits.diversions (length i.open_texts - 1) (omega (arith, others.making)),
          not_above u.limits.store (stored i) others.stored,
          not_above u.limits.names (names_added i) others.names,
          is_above u.limits.stack (pushed i) above,
        ) refl

    pub changing_past_depth : pushed i ≤ u.limits.stack → u.limits.depth < depth i → changing i u ≡ (Err Depth, u)
    changing_past_depth within above =
        rw (
          not_above u.limits.diversions (length i.open_texts - 1) (omega (arith, others.making)),
          not_above u.limits.store (stored i) others.stored,
          not_above u.limits.names (names_added i) others.names,
          not_above u.limits.stack (pushed i) within,
          is_above u.limits.depth (depth i) above,
        ) refl

    pub changing_within : pushed i ≤ u.limits.stack → depth i ≤ u.limits.depth → changing i u ≡ (Ok tt, record u { input = i })
    changing_within within inside =
        rw (
          changing_texts within inside others.making others.results,
          not_above u.limits.store (stored i) others.stored,
          not_above u.limits.names (names_added i) others.names,
        ) refl

    pub IsWithin-others : pushed i ≤ u.limits.stack → depth i ≤ u.limits.depth → IsWithin (record u { input = i })
    IsWithin-others within inside = record {
      charge = others.charge;
      newlines = others.newlines;
      pushed = within;
      depth = inside;
      results = others.results;
      stored = others.stored;
      names = others.names;
      making = others.making;
    }

    -- so many bytes more stand in front, and an end
    module _ (more bytes : ℕ) (counted : bytes ≡ pushed u.input) (longer : pushed i ≡ more + pushed u.input)
        (deeper : depth i ≡ depth u.input + 1) where
      -- bytes that don't fit are refused
      pub put_past_stack : u.limits.stack - bytes < more → changing i u ≡ (Err Stack, u)
      put_past_stack above = changing_past_stack (omega (arith, above, counted, longer))

      module _ (before : pushed u.input ≤ u.limits.stack) (fits : more ≤ u.limits.stack - bytes) where
        stack_within : pushed i ≤ u.limits.stack
        stack_within = omega (arith, before, fits, counted, longer)

        -- an end that doesn't fit is refused
        pub put_past_depth : u.limits.depth ≤ depth u.input → changing i u ≡ (Err Depth, u)
        put_past_depth above = changing_past_depth stack_within (omega (arith, above, deeper))

        -- and bytes and an end that fit are put there
        pub put_within : depth u.input < u.limits.depth → changing i u ≡ (Ok tt, record u { input = i })
        put_within inside = changing_within stack_within (omega (arith, inside, deeper))

        pub IsWithin-put : depth u.input < u.limits.depth → IsWithin (record u { input = i })
        IsWithin-put inside = IsWithin-others stack_within (omega (arith, inside, deeper))

module _ {E : Type 0} (u : Unread E) (text : List ℕ) (within : IsWithin u) (bytes : ℕ) (counted : bytes ≡ pushed u.input) where
  others-pushing : OthersWithin u (pushing text u.input)
  others-pushing = record {
    charge = within.charge;
    newlines = within.newlines;
    results = within.results;
    stored = within.stored;
    names = within.names;
    making = within.making;
  }

  -- a text that doesn't fit is refused
  pub push_past_stack : u.limits.stack - bytes < length text → changing (pushing text u.input) u ≡ (Err Stack, u)
  push_past_stack above =
      put_past_stack u (pushing text u.input) others-pushing (length text) bytes counted (pushed-pushing text u.input)
      (depth-pushing text u.input) above

  module _ (fits : length text ≤ u.limits.stack - bytes) where
    -- an end that doesn't fit is refused
    pub push_past_depth : u.limits.depth ≤ depth u.input → changing (pushing text u.input) u ≡ (Err Depth, u)
    push_past_depth above =
        put_past_depth u (pushing text u.input) others-pushing (length text) bytes counted (pushed-pushing text u.input)
        (depth-pushing text u.input) within.pushed fits above

    module _ (inside : depth u.input < u.limits.depth) where
      -- and a text and an end that fit are pushed
      pub push_within : changing (pushing text u.input) u ≡ (Ok tt, record u { input = pushing text u.input })
      push_within =
          put_within u (pushing text u.input) others-pushing (length text) bytes counted (pushed-pushing text u.input)
          (depth-pushing text u.input) within.pushed fits inside

      pub IsWithin-pushing : IsWithin (record u { input = pushing text u.input })
      IsWithin-pushing =
          IsWithin-put u (pushing text u.input) others-pushing (length text) bytes counted (pushed-pushing text u.input)
          (depth-pushing text u.input) within.pushed fits inside

-- bytes in front again count nowhere
pub IsWithin-freeing : {E : Type 0} (u : Unread E) (bytes : List ℕ) → IsWithin u
    → IsWithin (record u { input = freeing bytes u.input })
IsWithin-freeing u bytes within = record {
  charge = within.charge;
  newlines = within.newlines;
  pushed = rw (bytes_ahead-frees bytes u.input.ahead) within.pushed;
  depth = rw (ends_ahead-frees bytes u.input.ahead) within.depth;
  results = within.results;
  stored = within.stored;
  names = within.names;
  making = within.making;
}

module _ {E : Type 0} (u : Unread E) (a : Arguments) (within : IsWithin u) where
  -- what isn't kept of arguments holds no bytes
  pushed-with_arguments : pushed (with_arguments a u.input) + held u.input.arguments ≡ pushed u.input + held a
  pushed-with_arguments = omega (arith, held-only_kept a)

  others-with_arguments : OthersWithin u (with_arguments a u.input)
  others-with_arguments = record {
    charge = within.charge;
    newlines = within.newlines;
    results = within.results;
    stored = within.stored;
    names = within.names;
    making = within.making;
  }

  -- arguments with no more bytes
  pub IsWithin-same_held : held a ≡ held u.input.arguments → IsWithin (record u { input = with_arguments a u.input })
  IsWithin-same_held same =
      IsWithin-others u (with_arguments a u.input) others-with_arguments
      (omega (arith, pushed-with_arguments, same, within.pushed)) within.depth

  module _ (bytes more : ℕ) (counted : bytes ≡ pushed u.input) (longer : held a ≡ held u.input.arguments + more) where
    -- arguments that don't fit are refused
    pub hold_past_stack : u.limits.stack - bytes < more → changing (with_arguments a u.input) u ≡ (Err Stack, u)
    hold_past_stack above =
        changing_past_stack u (with_arguments a u.input) others-with_arguments
        (omega (arith, above, pushed-with_arguments, counted, longer))

    module _ (fits : more ≤ u.limits.stack - bytes) where
      held_within : pushed (with_arguments a u.input) ≤ u.limits.stack
      held_within = omega (arith, fits, pushed-with_arguments, counted, longer, within.pushed)

      -- and those that fit are held
      pub hold_within : changing (with_arguments a u.input) u ≡ (Ok tt, record u { input = with_arguments a u.input })
      hold_within = changing_within u (with_arguments a u.input) others-with_arguments held_within within.depth

      pub IsWithin-holding : IsWithin (record u { input = with_arguments a u.input })
      IsWithin-holding = IsWithin-others u (with_arguments a u.input) others-with_arguments held_within within.depth

-- a text of the line, of which one unit more is held
module _ {E : Type 0} (u : Unread E) (a : Arguments) (within : IsWithin u) (bytes more : ℕ) (counted : bytes ≡ pushed u.input)
    (longer : held a ≡ held u.input.arguments + more) where
  others-plain : OthersWithin u (record u.input { arguments = a })
  others-plain = record {
    charge = within.charge;
    newlines = within.newlines;
    results = within.results;
    stored = within.stored;
    names = within.names;
    making = within.making;
  }

  -- one that doesn't fit is refused
  pub plain_past_stack : u.limits.stack - bytes < more → changing (record u.input { arguments = a }) u ≡ (Err Stack, u)
  plain_past_stack above =
      changing_past_stack u (record u.input { arguments = a }) others-plain (omega (arith, above, counted, longer))

  module _ (fits : more ≤ u.limits.stack - bytes) where
    plain_pushed : pushed (record u.input { arguments = a }) ≤ u.limits.stack
    plain_pushed = omega (arith, fits, counted, longer, within.pushed)

    pub IsWithin-plain : IsWithin (record u { input = record u.input { arguments = a } })
    IsWithin-plain = IsWithin-others u (record u.input { arguments = a }) others-plain plain_pushed within.depth

    -- and one that fits is held
    pub plain_within :
        changing (record u.input { arguments = a }) u ≡ (Ok tt, record u { input = record u.input { arguments = a } })
    plain_within = changing_within u (record u.input { arguments = a }) others-plain plain_pushed within.depth

-- where nothing stands ahead
pub IsWithin-leaving : {E : Type 0} (looked : Looked) (u : Unread E) → IsWithin u → IsWithin (record u { input = leaving u.input; looked = looked })
IsWithin-leaving looked u within = record {
  charge = within.charge;
  newlines = within.newlines;
  pushed = omega (arith, within.pushed);
  depth = omega arith;
  results = omega (arith, results_below-few 1 u.input.results, within.results);
  stored = within.stored;
  names = within.names;
  making = within.making;
}

-- where no more is held of texts between delimiters
pub IsWithin-with_escapes :
    {E : Type 0} (u : Unread E) (half : List OpenEscape) → IsWithin u → texts_held half ≤ texts_held u.input.escapes
    → IsWithin (record u { input = with_escapes half u.input })
IsWithin-with_escapes u half within fewer =
    record {
      charge = within.charge;
      newlines = within.newlines;
      pushed = omega (arith, within.pushed, fewer);
      depth = within.depth;
      results = within.results;
      stored = within.stored;
      names = within.names;
      making = within.making;
    }
