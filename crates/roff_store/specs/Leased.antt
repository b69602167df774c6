-- What comes of leasing a body by how many bytes it has.
use Rattle.std.specs.Prelude.{◌≡◌, ℕ, ◌<◌, ◌≤◌, true, List, length, Option, None}
use Rattle.std.specs.List.{last_or}
use Rattle.roff_store.specs.declared.text.Leased.{Leased}
use Rattle.roff_store.specs.declared.text.Leased.TheVariants.{Body, Nothing, Long}
use Rattle.roff_store.specs.Texts.{Texts, IsFree, body_of, has_body}
use Rattle.roff_store.specs.TextCalls.{Lease, after}

-- the body of a name, of so many bytes at the least and at the most, was leased under a number
pub record HasLeased (old new : Texts) (name : List ℕ) (least most id : ℕ) (last : Option ℕ) : Type 0 where
  pub body : has_body name old ≡ true
  pub long : least ≤ length (body_of name old)
  pub short : length (body_of name old) ≤ most
  pub last_is : last ≡ last_or None (body_of name old)
  pub number : IsFree id old
  pub leased : new ≡ after (Lease name id) old

-- the name has no body, or one of fewer bytes, and nothing changed
pub record HasNothing (old new : Texts) (name : List ℕ) (least : ℕ) : Type 0 where
  pub few : has_body name old ≡ true → length (body_of name old) < least
  pub same : new ≡ old

-- the body has more bytes, and nothing changed
pub record IsLong (old new : Texts) (name : List ℕ) (most : ℕ) : Type 0 where
  pub long : most < length (body_of name old)
  pub same : new ≡ old

-- what was answered is what came of it
abbrev pub LeasesWithin : Texts → Texts → List ℕ → ℕ → ℕ → Leased → Type 0
LeasesWithin old new name least most (Body id last) = HasLeased old new name least most id.0 last
LeasesWithin old new name least most Nothing = HasNothing old new name least
LeasesWithin old new name least most Long = IsLong old new name most
