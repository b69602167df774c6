-- Calls on names and on texts in the making, beside bodies that are read where they lie.
use Rattle.std.proofs.Common.{◌≤◌, ℕ, Bool, true, false, List, [], ◌∷◌, length, arith, Result, Ok, Err, Some, if◌then◌else◌}
use Rattle.std.specs.Str.{bytes_eq}
use Rattle.std.proofs.lemmas.List.Sums.{sum_by-cons}
use Rattle.roff_num.specs.declared.limit.Limit.{Limit}
use Rattle.input_ahead.specs.InputAhead.Kept.{IsSound}
use Rattle.input_ahead.specs.declared.input_ahead.InputAhead.TheInside.{Inside}
use Rattle.roff_store.specs.Named.{Named, Table, entry_of}
use Rattle.roff_store.specs.TextCalls.{unless_refused}
use Rattle.roff_store.specs.Texts.{Entry, body_if_any, bytes_in, bytes_of}

module _ {E : Type 0} (a : Inside E) where
  -- other names and other texts in the making leave the leases, and so the bodies
  IsSound-texts : (names : Table Entry) (open_texts : List (List ℕ)) → IsSound a
      → IsSound (record a { texts = record a.texts { names = names; open_texts = open_texts } })
  IsSound-texts names open_texts sound = record {
    ended = sound.ended;
    give = sound.give;
    once = sound.once;
    live = sound.live;
    sum = sound.sum;
    cap_leases = sound.cap_leases;
    cap_kept = sound.cap_kept;
    bytes = sound.bytes;
    ends = sound.ends;
    events = sound.events;
    frees = sound.frees;
    small = sound.small;
    store = sound.store;
  }

  -- and so does a call on them that may be refused
  pub IsSound-unless_refused : (answer : Result (Unit {0}) Limit) (names : Table Entry) (open_texts : List (List ℕ)) → IsSound a
      → IsSound (record a { texts = unless_refused answer a.texts (record a.texts { names = names; open_texts = open_texts }) })
  IsSound-unless_refused (Ok done) names open_texts sound = IsSound-texts names open_texts sound
  IsSound-unless_refused (Err limit) names open_texts sound = sound

-- the body of a name is no longer than all, be it the first or among the others
within_by : (name : List ℕ) (first : List ℕ × Entry) (others : Named Entry)
    → length (body_if_any (entry_of name others)) ≤ bytes_in others → (is_first : Bool)
    → length (body_if_any (if is_first then Some first.1 else entry_of name others)) ≤ bytes_in (first ∷ others)
within_by name first others within true =
    omega (arith, sum_by-cons (λ (e : List ℕ × Entry). length (bytes_of e.1)) first others)
within_by name first others within false =
    omega (arith, within, sum_by-cons (λ (e : List ℕ × Entry). length (bytes_of e.1)) first others)

-- no body is longer than all of them
pub body_within : (name : List ℕ) (entries : Named Entry) → length (body_if_any (entry_of name entries)) ≤ bytes_in entries
body_within name [] = omega arith
body_within name (first ∷ others) = within_by name first others (body_within name others) (bytes_eq name first.0)
