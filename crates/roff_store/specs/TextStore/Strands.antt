-- The strands of a store of texts.
use Rattle.std.specs.Prelude.{ℕ, List, [], ◌∷◌, ◌++◌, map, Option, Some, None, option_map}
use Rattle.roff_store.specs.declared.strand.Strand.{Strand}
use Rattle.roff_store.specs.declared.text_store.Meaning.{Meaning}
use Rattle.roff_store.specs.declared.text_store.Meaning.TheVariants.{Body as BodyIn, Request as RequestOf}
use Rattle.roff_store.specs.Chains.{Chunks, bytes_of}
use Rattle.roff_store.specs.Named.{Named}
use Rattle.roff_store.specs.Texts.{Entry, Body, Request}

-- what a name stands for
abbrev pub entry_in : Chunks → Meaning → Entry
entry_in m (BodyIn strand) = Body (bytes_of m strand)
entry_in m (RequestOf number) = Request number

-- the names with what they stand for
abbrev pub entries_in : Chunks → Named Meaning → Named Entry
entries_in m names = map (λ e. (e.0, entry_in m e.1)) names

-- what a lease still gives, if it lives
abbrev pub lease_in : Chunks → Option Strand → Option (List ℕ)
lease_in m lease = option_map (bytes_of m) lease

-- the strand of what a name stands for, if it has one
abbrev pub strands_of : Option Meaning → List Strand
strands_of None = []
strands_of (Some (BodyIn strand)) = strand ∷ []
strands_of (Some (RequestOf number)) = []

-- the strands of the bodies of names
abbrev pub bodies : Named Meaning → List Strand
bodies [] = []
bodies (e ∷ names) = strands_of (Some e.1) ++ bodies names
