-- Bytes in front that are given to what is half read.
use Rattle.std.proofs.Common.{◌≡◌, ℕ, ◌+◌, ◌≤◌, Bool, true, List, [], ◌∷◌, ◌++◌, length, map, refl, sym, ap, ◌∙◌, arith, length-append, append_assoc}
use Rattle.std.proofs.lemmas.List.{map-append}
use Rattle.input_escapes.specs.ConditionFronts.{ByteTaken, HalvesTaken, NothingTaken}
use Rattle.input_ahead.specs.InputAhead.Calls.{GivesByte, GivesFront, GivesOne}
use Rattle.input_ahead.specs.InputAhead.Kept.{AheadAndTexts}
use Rattle.input_escapes.specs.OpenEscape.{OpenEscape, texts_held}
use Rattle.input_escapes.specs.EscapeTexts.{KeptEscapes}
use Rattle.input_model.specs.Input.{Ahead, ByteAhead, bytes_ahead}
use Rattle.input_escapes.proofs.ConditionFronts.{HalvesTaken-last, taken-held}
use Rattle.input_model.proofs.Counts.{bytes_ahead-bytes}

-- each byte that is taken is held at the most
pub HalvesTaken-held : (half last : List OpenEscape) (bytes : List ℕ) → HalvesTaken half bytes last → texts_held last ≤ texts_held half + length bytes
HalvesTaken-held _ last _ (NothingTaken half) = omega arith
HalvesTaken-held half _ _ (ByteTaken _ next last b bytes takes others) =
    omega (arith, taken-held half next b takes, HalvesTaken-held next last bytes others)

module _ {E : Type 0} where
  -- none was given yet
  pub GivesFront-none : (f : AheadAndTexts E) (k : KeptEscapes) → GivesFront f f k k 0
  GivesFront-none f k = record {
    bytes = [];
    behind = f.ahead;
    in_front = refl;
    length_is = refl;
    taken = refl;
    takes = NothingTaken k.escapes;
    room = refl;
  }

  module _ (old now new : AheadAndTexts E) (before held after : KeptEscapes) (count : ℕ) (gives : GivesFront old now before held count) where
    -- what stands ahead behind those that were given
    ahead-behind : now.ahead ≡ gives.behind
    ahead-behind = ap (λ (f : AheadAndTexts E). f.ahead) gives.taken

    -- there is room for what is ahead and what is held
    pub room-behind : bytes_ahead old.ahead + texts_held before.escapes ≤ before.room → bytes_ahead now.ahead + texts_held held.escapes ≤ held.room
    room-behind few =
        let fewer = ap bytes_ahead gives.in_front ∙ bytes_ahead-bytes gives.bytes gives.behind in
        omega (arith, few, fewer, ap bytes_ahead ahead-behind, HalvesTaken-held before.escapes held.escapes gives.bytes gives.takes, gives.room)

    -- one more was given
    pub GivesFront-more : (is_given : Bool) → is_given ≡ true → GivesByte now new held after is_given → GivesFront old new before after (count + 1)
    GivesFront-more is_given is byte =
        let one : GivesOne now new held after = byte.given is in
        let here : gives.behind ≡ ByteAhead one.byte ∷ one.behind = sym ahead-behind ∙ one.in_front in
        let bytes : List ℕ = gives.bytes ++ one.byte ∷ [] in
        let joined : map ByteAhead bytes ++ one.behind ≡ map ByteAhead gives.bytes ++ (ByteAhead one.byte ∷ one.behind) = rw (map-append, append_assoc) refl in
        record {
          bytes = bytes;
          behind = one.behind;
          in_front = gives.in_front ∙ ap (λ (items : List (Ahead E)). map ByteAhead gives.bytes ++ items) here ∙ sym joined;
          length_is = length-append gives.bytes (one.byte ∷ []) ∙ ap (λ (n : ℕ). n + 1) gives.length_is;
          taken = one.taken ∙ ap (λ (f : AheadAndTexts E). record f { ahead = one.behind }) gives.taken;
          takes = HalvesTaken-last before.escapes held.escapes after.escapes gives.bytes one.byte gives.takes one.takes;
          room = byte.room ∙ gives.room;
        }
