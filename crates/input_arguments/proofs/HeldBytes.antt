-- Bytes of a line that are held in its arguments.
use Rattle.std.proofs.Common.{◌≡◌, ℕ, suc, ◌+◌, ◌≤◌, ◌<◌, Bool, true, false, if◌then◌else◌, List, [], ◌∷◌, ◌++◌, length, take, get_or, Option, refl, sym, ap, subst, ◌∙◌, arith}
use Rattle.std.specs.List.{AllByRecursion}
use Rattle.std.proofs.Math.Seq.{take-suc}
use Rattle.input_model.specs.Arguments.{AreFewer, Arguments, HeldFewer, bytes_held, held, only_kept, with_argument_byte, is_held}
use Rattle.input_source.specs.Bytes.{is_argument_byte}
use Rattle.input_arguments.specs.ArgumentTexts.Kept.{KeptArguments, HoldsFront, keeping}
use Rattle.input_model.proofs.KeptArguments.{held-only_kept, held-with_argument_byte}

-- of each byte one more is held at the most
one_at_most : (holds : Bool) → (if holds then 1 else 0) ≤ 1
one_at_most true = omega arith
one_at_most false = omega arith

pub held-byte : (a : Arguments) (b : ℕ) → held (only_kept (with_argument_byte a b)) ≤ held a + 1
held-byte a b = omega (arith, held-only_kept (with_argument_byte a b), held-with_argument_byte a b, one_at_most (is_held a.place b))

pub held-bytes_held : (bytes : List ℕ) (a : Arguments) → held (bytes_held bytes a) ≤ held a + length bytes
held-bytes_held [] a = omega arith
held-bytes_held (b ∷ bytes) a = omega (arith, held-byte a b, held-bytes_held bytes (only_kept (with_argument_byte a b)))

-- the last of them is held behind the others
bytes_held-last : (bytes : List ℕ) (b : ℕ) (a : Arguments) → bytes_held (bytes ++ b ∷ []) a ≡ only_kept (with_argument_byte (bytes_held bytes a) b)
bytes_held-last [] b a = refl
bytes_held-last (c ∷ bytes) b a = bytes_held-last bytes b (only_kept (with_argument_byte a c))

all-last : (P : ℕ → Type 0) (bytes : List ℕ) (b : ℕ) → AllByRecursion P bytes → P b → AllByRecursion P (bytes ++ b ∷ [])
all-last P [] b all last = (last, tt)
all-last P (c ∷ bytes) b all last = (all.0, all-last P bytes b all.1 last)

-- few enough arguments are whole before each of them where they are before the last
fewer-last : (most : Option ℕ) (bytes : List ℕ) (b : ℕ) (a : Arguments) → HeldFewer most bytes a → AreFewer most (bytes_held bytes a) → HeldFewer most (bytes ++ b ∷ []) a
fewer-last most [] b a fewer last = (last, tt)
fewer-last most (c ∷ bytes) b a fewer last = (fewer.0, fewer-last most bytes b (only_kept (with_argument_byte a c)) fewer.1 last)

-- there is room for one more, where there was for all
pub room-more : (most : Option ℕ) (bytes : List ℕ) (count : ℕ) (old now : KeptArguments) (b : ℕ) → HoldsFront most bytes count old now → count < length bytes
    → held old.arguments + length bytes ≤ old.room → length (take count bytes) ≡ count → held (with_argument_byte now.arguments b) ≤ now.room
room-more most bytes count old now b takes inside room counted =
    let few : held now.arguments ≤ held old.arguments + length (take count bytes) =
    subst (λ (k : KeptArguments). held k.arguments ≤ held old.arguments + length (take count bytes)) (sym takes.taken) (held-bytes_held (take count bytes) old.arguments) in
    let same : now.room ≡ old.room = ap (λ (k : KeptArguments). k.room) takes.taken in
    omega (arith, few, same, room, inside, counted, held-with_argument_byte now.arguments b, one_at_most (is_held now.arguments.place b))

-- one more was taken
pub TakesFront-more : (most : Option ℕ) (bytes : List ℕ) (count : ℕ) (old now new : KeptArguments) → HoldsFront most bytes count old now → count < length bytes
    → is_argument_byte (get_or bytes count 0) ≡ true → AreFewer most now.arguments → new ≡ keeping now (with_argument_byte now.arguments (get_or bytes count 0))
    → HoldsFront most bytes (count + 1) old new
TakesFront-more most bytes count old now new takes inside is are_fewer taken =
    let b : ℕ = get_or bytes count 0 in
    let front : List ℕ = take count bytes in
    let next : count + 1 ≡ suc count = omega arith in
    let more : take (count + 1) bytes ≡ front ++ b ∷ [] = ap (λ (n : ℕ). take n bytes) next ∙ take-suc bytes count 0 inside in
    record {
      few = omega (arith, inside);
      plain = subst (λ (xs : List ℕ). AllByRecursion (λ c. is_argument_byte c ≡ true) xs) (sym more) (all-last (λ c. is_argument_byte c ≡ true) front b takes.plain is);
      fewer =
          subst (λ (xs : List ℕ). HeldFewer most xs old.arguments) (sym more)
          (fewer-last most front b old.arguments takes.fewer (subst (λ (k : KeptArguments). AreFewer most k.arguments) takes.taken are_fewer));
      taken =
          taken
          ∙ ap (λ (k : KeptArguments). keeping k (with_argument_byte k.arguments b)) takes.taken
          ∙ ap (λ (a : Arguments). record old { arguments = a }) (sym (ap (λ (xs : List ℕ). bytes_held xs old.arguments) more ∙ bytes_held-last front b old.arguments));
    }
