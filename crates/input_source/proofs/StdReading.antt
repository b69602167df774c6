-- What one read of a reader of the standard library did.
use Rattle.std.proofs.lemmas.Bool.{cases_Bool}
use Rattle.std.proofs.lemmas.Bool.Decides.{nat_tests}
use Rattle.std.proofs.Common.{true, false, inl, inr, ◌==◌, Result, Ok, Err, ◌≡◌, ◌<◌, ◌≤◌, ℕ, List, [], ◌++◌, Option, length, map, take, refl, sym, ap, ◌∙◌, arith}
use Rattle.std.specs.Io.{ReadsAtMost}
use Rattle.std.specs.Io.KnownBytes.{ReadConsumes}
use Rattle.std.proofs.lemmas.List.{map-append}
use Rattle.std.proofs.KnownBytes.{Consumes-nil, Consumes-trans}
use Rattle.input_source.specs.BlockRead.{Reads}
use Rattle.input_source.specs.StdRead.{IsRead, given_by}
use Rattle.input_source.specs.Tape.{Item, OneByte}

-- a count that is 0, or isn't
more_than_none : (n : ℕ) → (n == 0) ≡ false → 1 ≤ n
more_than_none n not = grind (arith, nat_tests)

none_at_all : (n : ℕ) → (n == 0) ≡ true → n ≡ 0
none_at_all n is = grind (arith, nat_tests)

-- its answer says what it did
pub std_reads : {E : Type 0} (old new : Option (List ℕ)) (block : List ℕ) (answer : Result ℕ E) → 0 < length block
    → ReadsAtMost answer block → ReadConsumes old new answer block → Reads (IsRead old) (IsRead new) block (given_by answer)
std_reads old new block (Ok n) room bound consumed = elim (cases_Bool (n == 0)) [
  | inl is ↦
      let at_end = rw (none_at_all n is) at consumed in
      rw is record { bytes = []; rest = new; items = refl; front = at_end.0; ends = at_end.1 refl room }
  | inr not ↦ rw not record {
    some = more_than_none n not;
    within = bound.0;
    before = λ t given. record {
      bytes = take n block ++ given.bytes;
      rest = given.rest;
      items = ap (λ (items : List Item). map OneByte (take n block) ++ items) given.items ∙ sym (map-append OneByte (take n block) given.bytes);
      front = Consumes-trans old new given.rest (take n block) given.bytes consumed.0 given.front;
      ends = given.ends;
    };
  }
]
std_reads old new block (Err e) room bound consumed = record { bytes = []; rest = old; items = refl; front = Consumes-nil old; ends = tt }
