-- What a buffer in front of a writer was given.
use Rattle.std.proofs.Common.{◌≡◌, ◌≤◌, ℕ, List, [], ◌++◌, Option, None, Some, IfSome, drop, length, take, sym, ap, ◌∙◌, append_assoc, append-nil, arith, take-append-drop}
use Rattle.std.specs.Io.KnownBytes.{Appends, Keeps, append_known}
use Rattle.std.proofs.KnownBytes.{Keeps-refl}
use Rattle.std.proofs.lemmas.List.{drop_all}
use Rattle.cli_devices.specs.Buffered.{with_held}
use Rattle.page_bytes.specs.Sinks.{Sunk, Writes}

-- the writer took bytes from the front of what is held
pub written_out : (old new : Option (List ℕ)) (count : ℕ) (held : List ℕ) → Appends old new (take count held)
    → Keeps (append_known old held) (append_known new (drop count held))
written_out None new count held took = tt
written_out (Some x) None count held took = absurd took
written_out (Some x) (Some y) count held took =
    ap (λ l. l ++ drop count held) took ∙ append_assoc x (take count held) (drop count held) ∙ ap (λ l. x ++ l) (take-append-drop count held)

-- it took nothing
pub held_still : (old new : Option (List ℕ)) (held : List ℕ) → Keeps old new → Keeps (append_known old held) (append_known new held)
held_still None new held kept = tt
held_still (Some x) None held kept = absurd kept
held_still (Some x) (Some y) held kept = ap (λ l. l ++ held) kept

-- a piece is written past a buffer that holds nothing
pub written_past : (old new : Option (List ℕ)) (piece : List ℕ) → Appends old new piece → Appends (append_known old []) (append_known new []) piece
written_past None new piece took = tt
written_past (Some x) None piece took = absurd took
written_past (Some x) (Some y) piece took = append-nil y ∙ took ∙ ap (λ l. l ++ piece) (sym (append-nil x))

-- the same of what one write took of a piece
pub some_written_past : (old new : Sunk) (items piece : List ℕ) (next : ℕ) (r : Option ℕ) → length items ≡ 0 → IfSome r (λ n. Writes old new (take n piece))
    → IfSome r (λ n. Writes (with_held old (drop next items)) (with_held new (drop next items)) (take n piece))
some_written_past old new items piece next None empty wrote = tt
some_written_past old new items piece next (Some n) empty wrote =
    let none : drop next items ≡ [] = drop_all next items (omega (arith, empty)) in
    rw none record { written = written_past old.contents new.contents (take n piece) wrote.written; failures = wrote.failures }

-- nothing of it is held any more
pub held_over : (known : Option (List ℕ)) (items items' : List ℕ) (next : ℕ) → length items ≤ next → items' ≡ []
    → Keeps (append_known known (drop next items)) (append_known known (drop 0 items'))
held_over known items items' next over is = rw (drop_all next items over, is) (Keeps-refl (append_known known []))
