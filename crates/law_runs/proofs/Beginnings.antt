-- Lists that others begin with.
use Rattle.std.proofs.Common.{ℕ, List, [], ◌++◌, refl, sym, append_assoc, append-nil}
use Rattle.roff_num.specs.Lists.{IsBeginning}

-- a list begins with itself
pub IsBeginning-same : (xs : List ℕ) → IsBeginning xs xs
IsBeginning-same xs = record { rest = []; split = sym (append-nil xs) }

-- what is appended to a list begins with it
pub IsBeginning-append : (xs ys : List ℕ) → IsBeginning xs (xs ++ ys)
IsBeginning-append xs ys = record { rest = ys; split = refl }

-- a beginning of a beginning is one
pub IsBeginning-trans : {xs ys zs : List ℕ} → IsBeginning xs ys → IsBeginning ys zs → IsBeginning xs zs
IsBeginning-trans first second = record { rest = first.rest ++ second.rest; split = rw (second.split, first.split, append_assoc) refl }
