-- What a buffer was given that holds nothing.
use Rattle.std.proofs.Common.{◌≡◌, ℕ, List, [], Option, None, Some, refl, ap, append-nil}
use Rattle.std.specs.Io.KnownBytes.{append_known}
use Rattle.cli_devices.specs.Buffered.{with_held}
use Rattle.page_bytes.specs.Sinks.{Sunk}

append_known-nothing : (contents : Option (List ℕ)) → append_known contents [] ≡ contents
append_known-nothing None = refl
append_known-nothing (Some xs) = ap Some (append-nil xs)

-- it is what its writer took
pub with_nothing : (sunk : Sunk) → with_held sunk [] ≡ sunk
with_nothing sunk = ap (λ (contents : Option (List ℕ)). record sunk { contents = contents }) (append_known-nothing sunk.contents)
