-- The keys of all cells of a row, one by one.
use Rattle.std.proofs.Common.{◌≡◌, ℕ, zero, suc, ◌+◌, ◌-◌, ◌<◌, ◌≤◌, ◌==◌, Bool, true, false, List, [], ◌∷◌, ◌++◌, drop, get_or, length, map, refl, sym, ap, ◌∙◌, arith, ne_eqb, if◌then◌else◌}
use Rattle.std.proofs.Math.Seq.{drop-append-add}
use Rattle.std.proofs.lemmas.List.{drop-append-le, length-map}
use Rattle.tbl_format.specs.Cells.{cell_count, end_of}
use Rattle.tbl_format.specs.Format.{columns_of_keys, plain_key}
use Rattle.tbl_format.specs.declared.format.FormatKey.{FormatKey}
use Rattle.tbl_format.specs.declared.format.Key.TheVariants.{Left as LeftKey}
use Rattle.tbl_format.specs.declared.format.Standing.TheVariants.{Middle}
use Rattle.tbl_lines.specs.CellsLeft.{all_keys, keys_behind}

no-bars : (b : Bool) (n : ℕ) → (if b then n else n) ≡ n
no-bars true n = refl
no-bars false n = refl

-- behind those of the format
pub key-behind : (at count bars column : ℕ) → at < count
    → drop at (keys_behind count bars column)
    ≡ plain_key (if at == 0 then bars else 0) LeftKey (column + at) ∷ drop (suc at) (keys_behind count bars column)
key-behind at zero bars column few = absurd (omega (arith, few))
key-behind zero (suc count) bars column few =
    ap (λ (n : ℕ). plain_key bars LeftKey n ∷ keys_behind count 0 (suc column)) (omega arith)
key-behind (suc at) (suc count) bars column few =
    let rest = drop (suc at) (keys_behind count 0 (suc column)) in
    key-behind at count 0 (suc column) (omega (arith, few))
    ∙ ap (λ (n : ℕ). plain_key n LeftKey (suc column + at) ∷ rest) (no-bars (at == 0) 0)
    ∙ ap (λ (n : ℕ). plain_key 0 LeftKey n ∷ rest) (omega arith)
    ∙ ap (λ (b : Bool). plain_key (if b then bars else 0) LeftKey (column + suc at) ∷ rest)
    (sym (ne_eqb (suc at) 0 (λ same. omega (arith, same))))

-- one of those of the format, and one behind them
pub key-there : (keys : List FormatKey) (bars columns at : ℕ) (key : FormatKey) → at < length keys → drop at keys ≡ key ∷ drop (suc at) keys
    → drop at (all_keys columns (record { keys = keys; bars = bars })) ≡ key ∷ drop (suc at) (all_keys columns (record { keys = keys; bars = bars }))
key-there keys bars columns at key some is =
    let more = keys_behind (columns - columns_of_keys keys) bars (columns_of_keys keys) in
    drop-append-le at keys more (omega (arith, some))
    ∙ ap (λ (own : List FormatKey). own ++ more) is
    ∙ ap (λ (rest : List FormatKey). key ∷ rest) (sym (drop-append-le (suc at) keys more (omega (arith, some))))

drop-all : (keys more : List FormatKey) (at : ℕ) → length keys ≤ at → drop at (keys ++ more) ≡ drop (at - length keys) more
drop-all keys more at past =
    ap (λ (n : ℕ). drop n (keys ++ more)) (omega (arith, past)) ∙ drop-append-add keys more (at - length keys)

pub key-past : (keys : List FormatKey) (bars columns at : ℕ) → length keys ≤ at → at < cell_count keys columns
    → drop at (all_keys columns (record { keys = keys; bars = bars }))
    ≡ plain_key (if (at - length keys) == 0 then bars else 0) LeftKey (columns_of_keys keys + (at - length keys))
    ∷ drop (suc at) (all_keys columns (record { keys = keys; bars = bars }))
key-past keys bars columns at past few =
    let more = keys_behind (columns - columns_of_keys keys) bars (columns_of_keys keys) in
    let same : suc (at - length keys) ≡ suc at - length keys = omega (arith, past) in
    drop-all keys more at past
    ∙ key-behind (at - length keys) (columns - columns_of_keys keys) bars (columns_of_keys keys) (omega (arith, past, few))
    ∙ ap (λ (rest : List FormatKey). plain_key (if (at - length keys) == 0 then bars else 0) LeftKey (columns_of_keys keys + (at - length keys)) ∷ rest)
    (ap (λ (n : ℕ). drop n more) same ∙ sym (drop-all keys more (suc at) (omega (arith, past))))

get-past : {A : Type 0} (xs : List A) (at : ℕ) (none : A) → length xs ≤ at → get_or xs at none ≡ none
get-past [] at none past = refl
get-past (x ∷ xs) zero none past = absurd (omega (arith, past))
get-past (x ∷ xs) (suc at) none past = get-past xs at none (omega (arith, past))

drop-get : {A : Type 0} (xs : List A) (at : ℕ) (none : A) → at < length xs → drop at xs ≡ get_or xs at none ∷ drop (suc at) xs
drop-get [] at none some = absurd (omega (arith, some))
drop-get (x ∷ xs) zero none some = refl
drop-get (x ∷ xs) (suc at) none some = drop-get xs at none (omega (arith, some))

-- as they are read
pub key-read : (keys : List FormatKey) (bars columns at : ℕ) (key : FormatKey) → at < length keys → key ≡ get_or keys at key
    → drop at (all_keys columns (record { keys = keys; bars = bars })) ≡ key ∷ drop (suc at) (all_keys columns (record { keys = keys; bars = bars }))
key-read keys bars columns at key some is =
    key-there keys bars columns at key some (drop-get keys at key some ∙ ap (λ (k : FormatKey). k ∷ drop (suc at) keys) (sym is))

pub key-made : (keys : List FormatKey) (bars columns at first end : ℕ) → length keys ≤ at → at < cell_count keys columns
    → (if (at - length keys) == 0 then bars else 0) ≡ first → end ≡ end_of keys at
    → drop at (all_keys columns (record { keys = keys; bars = bars }))
    ≡ record { bars = first; key = LeftKey; end = end; standing = Middle; has_no_width = false }
    ∷ drop (suc at) (all_keys columns (record { keys = keys; bars = bars }))
key-made keys bars columns at first end past few is ends =
    let rest = drop (suc at) (all_keys columns (record { keys = keys; bars = bars })) in
    let no_end = get-past (map (λ (k : FormatKey). k.end) keys) at (columns_of_keys keys + (at + 1 - length keys)) (omega (arith, past, length-map keys (λ (k : FormatKey). k.end))) in
    key-past keys bars columns at past few
    ∙ ap (λ (n : ℕ). plain_key n LeftKey (columns_of_keys keys + (at - length keys)) ∷ rest) is
    ∙ ap (λ (n : ℕ). record { bars = first; key = LeftKey; end = n; standing = Middle; has_no_width = false } ∷ rest)
    (omega (arith, past, ends ∙ no_end))
