-- An escape behind one byte more, and behind many.
use Rattle.std.proofs.Common.{◌≡◌, ℕ, ◌+◌, ◌≤◌, Bool, true, false, List, [], ◌∷◌, length, refl, sym, ap, ◌∙◌, arith, rules, ◌==◌, None, Some, fold, if◌then◌else◌}
use Rattle.input_source.specs.Bytes.{is_dropped}
use Rattle.input_escapes.specs.Nesting.{is_nothing}
use Rattle.input_escapes.specs.OpenEscape.{OpenEscape, Reads}
use Rattle.input_escapes.specs.declared.open_escape.Found.{Found}
use Rattle.tbl_text.specs.Items.{Reading, all_ended, begun, met, reading, taken, whole}

-- a choice by a test that is known
chosen : {A : Type 0} (c : Bool) (x y : A) → c ≡ true → (if c then x else y) ≡ x
chosen c x y is = ap (λ (t : Bool). if t then x else y) is

-- nothing has no length
pub nothing-length : (half : List OpenEscape) → (length half == 0) ≡ is_nothing half
nothing-length [] = refl
nothing-length (first ∷ rest) = search rules

-- a whole escape stays
pub met-whole : (r : Reading) (b : ℕ) → is_nothing r.read.1 ≡ true → met r b ≡ r
met-whole r b whole = chosen (is_nothing r.read.1) _ _ whole

-- nothing changes a whole escape
pub fold-whole : (r : Reading) (text : List ℕ) → is_nothing r.read.1 ≡ true → fold met r text ≡ r
fold-whole r [] whole = refl
fold-whole r (b ∷ text) whole = ap (λ (s : Reading). fold met s text) (met-whole r b whole) ∙ fold-whole r text whole

-- an escape has a byte, and no more than were looked at, of which there are no more than so many
pub record IsWithin (most : ℕ) (r : Reading) : Type 0 where
  pub some : 1 ≤ r.len
  pub fewer : r.len ≤ r.seen
  pub few : r.seen ≤ most

-- with more it is so too
more : (most : ℕ) (r : Reading) → IsWithin most r → IsWithin (most + 1) r
more most r within = record { some = within.some; fewer = within.fewer; few = omega (arith, within.few) }

-- of two either is so, by a test
either : (most : ℕ) (c : Bool) (x y : Reading) → IsWithin most x → IsWithin most y → IsWithin most (if c then x else y)
either most true x y of_x of_y = of_x
either most false x y of_x of_y = of_y

-- behind a byte that isn't dropped
taken-within : (most : ℕ) (r : Reading) (b : ℕ) (half : List OpenEscape) → IsWithin most r → IsWithin (most + 1) (taken r b half)
taken-within most r b [] within = more most r within
taken-within most r b (first ∷ rest) within = record { some = omega arith; fewer = omega arith; few = omega (arith, within.few) }

-- behind a byte one more was looked at, at most
pub met-within : (most : ℕ) (r : Reading) (b : ℕ) → IsWithin most r → IsWithin (most + 1) (met r b)
met-within most r b within =
    let before : Reads = all_ended (Some b) r.read in
    either (most + 1) (is_nothing r.read.1) _ _ (more most r within)
    (either (most + 1) (is_dropped b) (record r { seen = r.seen + 1 }) (taken (record r { read = before }) b before.1)
    (record { some = within.some; fewer = omega (arith, within.fewer); few = omega (arith, within.few) })
    (taken-within most (record r { read = before }) b before.1 (record { some = within.some; fewer = within.fewer; few = within.few })))

-- a whole escape by what was read of it, and what its last reading's end found
pub whole-is : (rest text : List ℕ) (len seen : ℕ) (found last : Found) (half left : List OpenEscape) → rest ≡ text
    → reading len seen found half ≡ fold met begun rest → (last, left) ≡ all_ended None (found, half)
    → whole begun text ≡ reading len seen last left
whole-is rest text len seen found last half left same read ends =
    ap (whole begun) (sym same)
    ∙ ap (λ (r : Reading). record r { read = all_ended None r.read }) (sym read)
    ∙ ap (λ (r : Reads). record { len = len; seen = seen; read = r }) (sym ends)
