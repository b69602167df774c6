-- What a call holds of its line, and what the line's arguments are read as.
use Rattle.std.proofs.Common.{◌≡◌, ℕ, ◌+◌, ◌≤◌, Bool, true, false, List, [], ◌∷◌, ◌++◌, length, refl, ap, sym, subst, ◌∙◌, arith, fold, nat_le, reverse, take, if◌then◌else◌, ◌==◌, leb-true, take_all}
use Rattle.std.specs.Prelude.{⊤}
use Rattle.std.proofs.Math.Seq.{take-append_seam}
use Rattle.std.proofs.lemmas.Bool.Decides.{nat_tests}
use Rattle.std.proofs.lemmas.List.{length-reverse, reverse-append}
use Rattle.input_model.proofs.KeptArguments.{held-finished, held-only_kept, held-settled, held-with_argument_byte, total_length-reverse}
use Rattle.input_model.specs.Arguments.{Arguments, arguments_read, between, finished, held, only_kept, settled, total_length, with_argument_byte, with_whole, is_held}
use Rattle.input_model.specs.declared.place.Place.{Place}
use Rattle.input_model.specs.declared.place.Place.TheVariants.{Between, InPlain, InQuotes, BehindQuote}
use Rattle.law_reading.proofs.CalledArguments.{arguments_at, call_byte, call_byte-full, hold, hold-few, only_kept-few, same-if}
use Rattle.input_source.specs.Bytes.{blank, quote}

-- between arguments none is begun
abbrev pub IsClean : Place → List ℕ → Type 0
IsClean Between begun = begun ≡ []
IsClean (_) begun = ⊤

-- what is held where a line was read so: all of it, or its first nine arguments
pub data Agrees : Arguments → Arguments → Type 0 where
  Same : (whole : List (List ℕ)) (begun : List ℕ) (place : Place) → length whole ≤ 8 → IsClean place begun → Agrees (arguments_at whole begun place) (arguments_at whole begun place)
  Full : (whole more : List (List ℕ)) (begun : List ℕ) (place : Place) → length whole ≡ 9 → Agrees (arguments_at whole [] Between) (arguments_at (more ++ whole) begun place)

-- few are all held
pub agrees-kept : (whole : List (List ℕ)) (begun : List ℕ) (place : Place) → length whole ≤ 8 → IsClean place begun
    → Agrees (only_kept (arguments_at whole begun place)) (arguments_at whole begun place)
agrees-kept whole begun place few clean =
    subst (λ (a : Arguments). Agrees a (arguments_at whole begun place)) (sym (only_kept-few whole begun place (omega (arith, few)))) (Same whole begun place few clean)

-- nine or fewer are whole
pub agrees-whole : (whole : List (List ℕ)) (c : Bool) → nat_le (length whole) 8 ≡ c → length whole ≤ 9 → Agrees (only_kept (arguments_at whole [] Between)) (arguments_at whole [] Between)
agrees-whole whole true is few = agrees-kept whole [] Between (leb-true (length whole) 8 is) refl
agrees-whole whole false is few =
    subst (λ (a : Arguments). Agrees a (arguments_at whole [] Between)) (sym (only_kept-few whole [] Between (omega (arith, few))))
    (Full whole [] [] Between (grind (arith, nat_tests, is, few)))

-- a byte between arguments
agrees-between : (blanks quotes : Bool) (whole : List (List ℕ)) (begun : List ℕ) (b : ℕ) → length whole ≤ 8 → IsClean Between begun
    → let a : Arguments = arguments_at whole begun Between in
    let there : Arguments = if blanks then a else if quotes then arguments_at whole begun InQuotes else arguments_at whole (b ∷ begun) InPlain in
    Agrees (only_kept there) there
agrees-between true quotes whole begun b few clean = agrees-kept whole begun Between few clean
agrees-between false true whole begun b few clean = agrees-kept whole begun InQuotes few tt
agrees-between false false whole begun b few clean = agrees-kept whole (b ∷ begun) InPlain few tt

-- a byte within a word
agrees-plain : (blanks : Bool) (whole : List (List ℕ)) (begun : List ℕ) (b : ℕ) → length whole ≤ 8
    → let there : Arguments = if blanks then arguments_at (reverse begun ∷ whole) [] Between else arguments_at whole (b ∷ begun) InPlain in
    Agrees (only_kept there) there
agrees-plain true whole begun b few = agrees-whole (reverse begun ∷ whole) (nat_le (length (reverse begun ∷ whole)) 8) refl (omega (arith, few))
agrees-plain false whole begun b few = agrees-kept whole (b ∷ begun) InPlain few tt

-- and within quotes
agrees-quoted : (quotes : Bool) (whole : List (List ℕ)) (begun : List ℕ) (b : ℕ) → length whole ≤ 8
    → let there : Arguments = if quotes then arguments_at whole begun BehindQuote else arguments_at whole (b ∷ begun) InQuotes in
    Agrees (only_kept there) there
agrees-quoted true whole begun b few = agrees-kept whole begun BehindQuote few tt
agrees-quoted false whole begun b few = agrees-kept whole (b ∷ begun) InQuotes few tt

-- nothing more is held where nine are whole
full-between : (blanks quotes : Bool) (whole more : List (List ℕ)) (begun : List ℕ) (b : ℕ) → length whole ≡ 9
    → Agrees (arguments_at whole [] Between)
    (if blanks then arguments_at (more ++ whole) begun Between else if quotes then arguments_at (more ++ whole) begun InQuotes else arguments_at (more ++ whole) (b ∷ begun) InPlain)
full-between true quotes whole more begun b full = Full whole more begun Between full
full-between false true whole more begun b full = Full whole more begun InQuotes full
full-between false false whole more begun b full = Full whole more (b ∷ begun) InPlain full

full-plain : (blanks : Bool) (whole more : List (List ℕ)) (begun : List ℕ) (b : ℕ) → length whole ≡ 9
    → Agrees (arguments_at whole [] Between) (if blanks then arguments_at (reverse begun ∷ more ++ whole) [] Between else arguments_at (more ++ whole) (b ∷ begun) InPlain)
full-plain true whole more begun b full = Full whole (reverse begun ∷ more) [] Between full
full-plain false whole more begun b full = Full whole more (b ∷ begun) InPlain full

full-quoted : (quotes : Bool) (whole more : List (List ℕ)) (begun : List ℕ) (b : ℕ) → length whole ≡ 9
    → Agrees (arguments_at whole [] Between) (if quotes then arguments_at (more ++ whole) begun BehindQuote else arguments_at (more ++ whole) (b ∷ begun) InQuotes)
full-quoted true whole more begun b full = Full whole more begun BehindQuote full
full-quoted false whole more begun b full = Full whole more (b ∷ begun) InQuotes full

full-behind : (quotes : Bool) (whole more : List (List ℕ)) (begun : List ℕ) (b : ℕ) → length whole ≡ 9
    → Agrees (arguments_at whole [] Between) (if quotes then arguments_at (more ++ whole) (b ∷ begun) InQuotes else between (arguments_at (reverse begun ∷ more ++ whole) [] Between) b)
full-behind true whole more begun b full = Full whole more (b ∷ begun) InQuotes full
full-behind false whole more begun b full = full-between (b == blank) (b == quote) whole (reverse begun ∷ more) [] b full

full-byte : (place : Place) (whole more : List (List ℕ)) (begun : List ℕ) (b : ℕ) → length whole ≡ 9
    → Agrees (arguments_at whole [] Between) (with_argument_byte (arguments_at (more ++ whole) begun place) b)
full-byte Between whole more begun b full = full-between (b == blank) (b == quote) whole more begun b full
full-byte InPlain whole more begun b full = full-plain (b == blank) whole more begun b full
full-byte InQuotes whole more begun b full = full-quoted (b == quote) whole more begun b full
full-byte BehindQuote whole more begun b full = full-behind (b == quote) whole more begun b full

-- a byte where fewer are whole, and none is behind its quote
call_byte-few : (whole : List (List ℕ)) (begun : List ℕ) (place : Place) (b : ℕ) → length whole ≤ 8 → settled (arguments_at whole begun place) ≡ arguments_at whole begun place
    → call_byte (arguments_at whole begun place) b ≡ only_kept (with_argument_byte (arguments_at whole begun place) b)
call_byte-few whole begun place b few same =
    let a : Arguments = arguments_at whole begun place in
    ap (λ (all : Arguments). if b == quote then hold a b else hold (only_kept all) b) same
    ∙ ap (λ (all : Arguments). if b == quote then hold a b else hold all b) (only_kept-few whole begun place (omega (arith, few)))
    ∙ same-if (b == quote) (hold a b)
    ∙ hold-few whole begun place b few

few-byte : (whole : List (List ℕ)) (begun : List ℕ) (place : Place) (b : ℕ) → length whole ≤ 8 → settled (arguments_at whole begun place) ≡ arguments_at whole begun place
    → let there : Arguments = with_argument_byte (arguments_at whole begun place) b in
    Agrees (only_kept there) there → Agrees (call_byte (arguments_at whole begun place) b) there
few-byte whole begun place b few same agrees =
    subst (λ (a : Arguments). Agrees a (with_argument_byte (arguments_at whole begun place) b)) (sym (call_byte-few whole begun place b few same)) agrees

-- a byte behind an argument that is whole
hold-between : (whole : List (List ℕ)) (b : ℕ) (c : Bool) → nat_le (length whole) 8 ≡ c → length whole ≤ 9
    → Agrees (hold (arguments_at whole [] Between) b) (between (arguments_at whole [] Between) b)
hold-between whole b true is few =
    let small : length whole ≤ 8 = leb-true (length whole) 8 is in
    subst (λ (a : Arguments). Agrees a (between (arguments_at whole [] Between) b)) (sym (hold-few whole [] Between b small))
    (agrees-between (b == blank) (b == quote) whole [] b small refl)
hold-between whole b false is few =
    let full : length whole ≡ 9 = grind (arith, nat_tests, is, few) in
    let a : Arguments = arguments_at whole [] Between in
    subst (λ (x : Arguments). Agrees x (between a b)) (sym (ap (λ (n : ℕ). if nat_le 9 n then a else only_kept (with_argument_byte a b)) full))
    (full-between (b == blank) (b == quote) whole [] [] b full)

behind-byte : (c : Bool) (whole : List (List ℕ)) (begun : List ℕ) (b : ℕ) → (b == quote) ≡ c → length whole ≤ 8
    → let a : Arguments = arguments_at whole begun BehindQuote in
    Agrees (if c then hold a b else hold (only_kept (settled a)) b) (if c then arguments_at whole (b ∷ begun) InQuotes else between (with_whole a) b)
behind-byte true whole begun b is few =
    let a : Arguments = arguments_at whole begun BehindQuote in
    let there : Arguments = arguments_at whole (b ∷ begun) InQuotes in
    subst (λ (x : Arguments). Agrees x there)
    (sym (hold-few whole begun BehindQuote b few ∙ ap (λ (c : Bool). only_kept (if c then there else between (with_whole a) b)) is))
    (agrees-kept whole (b ∷ begun) InQuotes few tt)
behind-byte false whole begun b is few =
    let w : List (List ℕ) = reverse begun ∷ whole in
    subst (λ (x : Arguments). Agrees (hold x b) (between (arguments_at w [] Between) b)) (sym (only_kept-few w [] Between (omega (arith, few))))
    (hold-between w b (nat_le (length w) 8) refl (omega (arith, few)))

same-byte : (place : Place) (whole : List (List ℕ)) (begun : List ℕ) (b : ℕ) → length whole ≤ 8 → IsClean place begun
    → Agrees (call_byte (arguments_at whole begun place) b) (with_argument_byte (arguments_at whole begun place) b)
same-byte Between whole begun b few clean = few-byte whole begun Between b few refl (agrees-between (b == blank) (b == quote) whole begun b few clean)
same-byte InPlain whole begun b few clean = few-byte whole begun InPlain b few refl (agrees-plain (b == blank) whole begun b few)
same-byte InQuotes whole begun b few clean = few-byte whole begun InQuotes b few refl (agrees-quoted (b == quote) whole begun b few)
same-byte BehindQuote whole begun b few clean = behind-byte (b == quote) whole begun b refl few

-- so it is behind each byte
agrees-byte : (a u : Arguments) (b : ℕ) → Agrees a u → Agrees (call_byte a b) (with_argument_byte u b)
agrees-byte _ _ b (Same whole begun place few clean) = same-byte place whole begun b few clean
agrees-byte _ _ b (Full whole more begun place full) =
    subst (λ (a : Arguments). Agrees a (with_argument_byte (arguments_at (more ++ whole) begun place) b)) (sym (call_byte-full whole b full)) (full-byte place whole more begun b full)

pub agrees-bytes : (a u : Arguments) (bytes : List ℕ) → Agrees a u → Agrees (fold call_byte a bytes) (fold with_argument_byte u bytes)
agrees-bytes a u [] agrees = agrees
agrees-bytes a u (b ∷ bytes) agrees = agrees-bytes (call_byte a b) (with_argument_byte u b) bytes (agrees-byte a u b agrees)

-- what a call is given then
given-few : (whole : List (List ℕ)) (begun : List ℕ) (place : Place) → length whole ≤ 9 → reverse (only_kept (arguments_at whole begun place)).whole ≡ take 9 (reverse whole)
given-few whole begun place few =
    ap (λ (a : Arguments). reverse a.whole) (only_kept-few whole begun place (omega (arith, few)))
    ∙ sym (take_all 9 (reverse whole) (omega (arith, few, length-reverse whole)))

given-full : (whole more : List (List ℕ)) → length whole ≡ 9 → reverse (only_kept (arguments_at whole [] Between)).whole ≡ take 9 (reverse (more ++ whole))
given-full whole more full =
    ap (λ (a : Arguments). reverse a.whole) (only_kept-few whole [] Between (omega (arith, full)))
    ∙ sym (take-append_seam (reverse whole) (reverse more))
    ∙ ap (λ (n : ℕ). take n (reverse whole ++ reverse more)) (length-reverse whole ∙ full)
    ∙ ap (take 9) (sym (reverse-append more whole))

given-same : (place : Place) (whole : List (List ℕ)) (begun : List ℕ) → length whole ≤ 8
    → reverse (only_kept (finished (arguments_at whole begun place))).whole ≡ take 9 (arguments_read (arguments_at whole begun place))
given-same Between whole begun few = given-few whole begun Between (omega (arith, few))
given-same InPlain whole begun few = given-few (reverse begun ∷ whole) [] Between (omega (arith, few))
given-same InQuotes whole begun few = given-few (reverse begun ∷ whole) [] Between (omega (arith, few))
given-same BehindQuote whole begun few = given-few (reverse begun ∷ whole) [] Between (omega (arith, few))

given-nine : (place : Place) (whole more : List (List ℕ)) (begun : List ℕ) → length whole ≡ 9
    → reverse (only_kept (arguments_at whole [] Between)).whole ≡ take 9 (arguments_read (arguments_at (more ++ whole) begun place))
given-nine Between whole more begun full = given-full whole more full
given-nine InPlain whole more begun full = given-full whole (reverse begun ∷ more) full
given-nine InQuotes whole more begun full = given-full whole (reverse begun ∷ more) full
given-nine BehindQuote whole more begun full = given-full whole (reverse begun ∷ more) full

pub given-agrees : (a u : Arguments) → Agrees a u → reverse (only_kept (finished a)).whole ≡ take 9 (arguments_read u)
given-agrees _ _ (Same whole begun place few clean) = given-same place whole begun few
given-agrees _ _ (Full whole more begun place full) = given-nine place whole more begun full

-- all that is held is given
none-begun : (place : Place) (whole : List (List ℕ)) (begun : List ℕ) → IsClean place begun → (finished (arguments_at whole begun place)).begun ≡ []
none-begun Between whole begun clean = clean
none-begun InPlain whole begun clean = refl
none-begun InQuotes whole begun clean = refl
none-begun BehindQuote whole begun clean = refl

held-given : (a : Arguments) → (finished a).begun ≡ [] → held a ≡ total_length (reverse (only_kept (finished a)).whole)
held-given a none =
    omega (arith, held-finished a, held-only_kept (finished a), ap length none, total_length-reverse (only_kept (finished a)).whole)

pub held-agrees : (a u : Arguments) → Agrees a u → held a ≡ total_length (reverse (only_kept (finished a)).whole)
held-agrees _ _ (Same whole begun place few clean) = held-given (arguments_at whole begun place) (none-begun place whole begun clean)
held-agrees _ _ (Full whole more begun place full) = held-given (arguments_at whole [] Between) refl

-- of a byte one more is held at the most, and what was held stays
bit : (c : Bool) → (if c then 1 else 0) ≤ 1
bit true = omega arith
bit false = omega arith

held-hold : (c : Bool) (a : Arguments) (b : ℕ) → (held a ≤ held (if c then a else only_kept (with_argument_byte a b))) × (held (if c then a else only_kept (with_argument_byte a b)) ≤ held a + 1)
held-hold true a b = (omega arith, omega arith)
held-hold false a b = (
  omega (arith, held-only_kept (with_argument_byte a b), held-with_argument_byte a b),
  omega (arith, held-only_kept (with_argument_byte a b), held-with_argument_byte a b, bit (is_held a.place b)),
)

held-either : (c : Bool) (a : Arguments) (b : ℕ) → let there : Arguments = if c then hold a b else hold (only_kept (settled a)) b in (held a ≤ held there) × (held there ≤ held a + 1)
held-either true a b = held-hold (nat_le 9 (length a.whole)) a b
held-either false a b =
    let z : Arguments = only_kept (settled a) in
    let both = held-hold (nat_le 9 (length z.whole)) z b in
    (omega (arith, both.0, held-only_kept (settled a), held-settled a), omega (arith, both.1, held-only_kept (settled a), held-settled a))

pub held-call_byte : (a : Arguments) (b : ℕ) → (held a ≤ held (call_byte a b)) × (held (call_byte a b) ≤ held a + 1)
held-call_byte a b = held-either (b == quote) a b

pub held-least : (a : Arguments) (bytes : List ℕ) → held a ≤ held (fold call_byte a bytes)
held-least a [] = omega arith
held-least a (b ∷ bytes) = omega (arith, (held-call_byte a b).0, held-least (call_byte a b) bytes)
