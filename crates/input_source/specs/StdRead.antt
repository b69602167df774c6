-- What readers of the standard library give, as far as they tell.
use Rattle.std.specs.Prelude.{◌≡◌, ℕ, List, [], map, Option, Some, None, Result, Ok, Err, if◌then◌else◌, ◌==◌, refl}
use Rattle.std.specs.Io.KnownBytes.{Consumes, IsAtEnd}
use Rattle.input_source.specs.declared.block_read.Given.{Given}
use Rattle.input_source.specs.declared.block_read.Given.TheVariants.{Bytes, Nothing, Error}
use Rattle.input_source.specs.BlockRead.{SomeTape}
use Rattle.input_source.specs.Tape.{Tape, OneByte, Ending, Ended, Failed, Stopped, only}

-- by the reader's answer: every error is one, and no byte is the end
abbrev pub given_by : {E : Type 0} → Result ℕ E → Given
given_by (Ok count) = if count == 0 then Nothing else Bytes count
given_by (Err e) = Error

-- how the bytes of a reader may end: by an error at any time, by its end where none is left, by no limit
abbrev pub MayEnd : Option (List ℕ) → Ending → Type 0
MayEnd rest Failed = Unit {0}
MayEnd rest Ended = IsAtEnd rest
MayEnd rest (Stopped limit) = ⊥

-- bytes of the reader's to come, where it tells them, from the front on, and how they end there
pub record IsRead (known : Option (List ℕ)) (t : Tape) : Type 0 where
  pub bytes : List ℕ
  pub rest : Option (List ℕ)
  pub items : t.items ≡ map OneByte bytes
  pub front : Consumes known rest bytes
  pub ends : MayEnd rest t.ending

-- nothing of it is read
nothing_read : (known : Option (List ℕ)) → Consumes known known []
nothing_read None = tt
nothing_read (Some xs) = refl

-- an error may come at once
pub some_read : (known : Option (List ℕ)) → SomeTape (IsRead known)
some_read known = record {
  tape = only Failed;
  given = record { bytes = []; rest = known; items = refl; front = nothing_read known; ends = tt };
}
