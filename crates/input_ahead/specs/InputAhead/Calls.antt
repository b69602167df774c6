-- What calls on frames tell.
use Rattle.std.specs.Prelude.{◌≡◌, ◌<◌, ◌≤◌, ℕ, Bool, true, false, List, ◌∷◌, ◌++◌, length, map}
use Rattle.std.specs.List.{AllByRecursion}
use Rattle.input_source.specs.Bytes.{is_passed}
use Rattle.input_escapes.specs.ConditionFronts.{HalvesTaken, TakesOn}
use Rattle.input_ahead.specs.InputAhead.Kept.{AheadAndTexts, IsSound, kept_by}
use Rattle.input_escapes.specs.EscapeTexts.{KeptEscapes}
use Rattle.input_model.specs.Input.{Ahead, ByteAhead}
use Rattle.input_model.specs.Shown.{Shown, shown_ahead}
use Rattle.input_ahead.specs.declared.input_ahead.InputAhead.TheInside.{Inside}

-- the front item was taken and shown
pub record TakesFront {E : Type 0} (old new : AheadAndTexts E) (item : Shown E) : Type 0 where
  pub front : Ahead E
  pub taken : old ≡ record new { ahead = front ∷ new.ahead }
  pub shows : item ≡ shown_ahead front

-- so many bytes in front were passed over, of so many that might be
pub record PassesFront {E : Type 0} (old new : AheadAndTexts E) (within_block : Bool) (most count : ℕ) : Type 0 where
  pub bytes : List ℕ
  pub taken : old ≡ record new { ahead = map ByteAhead bytes ++ new.ahead }
  pub plain : AllByRecursion (λ b. is_passed within_block b ≡ true) bytes
  pub length_is : count ≡ length bytes
  pub few : count ≤ most

-- bytes were put in front
pub record PutsBytes {E : Type 0} (old new : Inside E) (bytes : List ℕ) : Type 0 where
  pub sound : IsSound new
  pub kept : kept_by new ≡ record (kept_by old) { ahead = map ByteAhead bytes ++ (kept_by old).ahead }

-- a text and what stands behind it were put in front, or the text has more than so many bytes and nothing changed
pub record PutsWithin {E : Type 0} (old new : AheadAndTexts E) (text : List ℕ) (behind : Ahead E) (most : ℕ) (is_put : Bool) : Type 0 where
  pub short : is_put ≡ true → length text ≤ most
  pub put : is_put ≡ true → new ≡ record old { ahead = map ByteAhead text ++ behind ∷ old.ahead }
  pub long : is_put ≡ false → most < length text
  pub unchanged : is_put ≡ false → new ≡ old

-- a byte of a pushed text was in front, and was given to what is half read, which took it
pub record GivesOne {E : Type 0} (old new : AheadAndTexts E) (before after : KeptEscapes) : Type 0 where
  pub byte : ℕ
  pub behind : List (Ahead E)
  pub in_front : old.ahead ≡ ByteAhead byte ∷ behind
  pub taken : new ≡ record old { ahead = behind }
  pub takes : TakesOn before.escapes byte after.escapes

-- the same, or none was given and nothing changed
pub record GivesByte {E : Type 0} (old new : AheadAndTexts E) (before after : KeptEscapes) (is_given : Bool) : Type 0 where
  pub given : is_given ≡ true → GivesOne old new before after
  pub unchanged : is_given ≡ false → (new ≡ old) × (after ≡ before)
  pub room : after.room ≡ before.room

-- so many bytes in front were given so, one after another
pub record GivesFront {E : Type 0} (old new : AheadAndTexts E) (before after : KeptEscapes) (count : ℕ) : Type 0 where
  pub bytes : List ℕ
  pub behind : List (Ahead E)
  pub in_front : old.ahead ≡ map ByteAhead bytes ++ behind
  pub length_is : length bytes ≡ count
  pub taken : new ≡ record old { ahead = behind }
  pub takes : HalvesTaken before.escapes bytes after.escapes
  pub room : after.room ≡ before.room
