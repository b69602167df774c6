-- Fronts of escapes that read a name: what is half read behind them.
use Rattle.std.proofs.Common.{◌≡◌, ℕ, suc, ◌+◌, ◌<◌, Bool, true, List, [], ◌∷◌, ◌++◌, length, drop, take, get_or, refl, sym, ap, subst, ◌∙◌, arith, false, not, ◌&&◌, ◌||◌, ◌==◌, eqb-true}
use Rattle.std.proofs.Math.Seq.{take-suc}
use Rattle.input_source.specs.Bytes.{backslash, is_argument_byte, is_dropped, newline}
use Rattle.input_escapes.specs.OpenEscape.{Backslash, Comment, OpenEscape, texts_held}
use Rattle.input_escapes.specs.EscapeTexts.{IsOnTop, KeptEscapes, leaving}
use Rattle.input_escapes.specs.Nesting.{IsNested}
use Rattle.input_escapes.specs.Waiting.{takes_backslash_alone}
use Rattle.input_escapes.specs.declared.open_escape.HeldEscape.TheVariants.{Backslash as BackslashRead, Comment as CommentRead}
use Rattle.input_escapes.specs.EscapeFronts.{ByteRead, HalvesRead, NothingRead, ReadsByte, ReadsFront, ReadsOn}
use Rattle.input_escapes.specs.OpenEscapes.{byte_read}
use Rattle.input_escapes.specs.declared.open_escape.Found.{Found}
use Rattle.input_escapes.specs.declared.open_escape.Found.TheVariants.{GoesOn}
use Rattle.input_escapes.specs.declared.open_escape.Surroundings.{Surroundings}

-- a byte was read
was_read : (b : ℕ) (old new : KeptEscapes) (next : List OpenEscape) → ReadsOn old.escapes b next → new ≡ record old { escapes = next } → ReadsByte b true old new
was_read b old new next reads is = record {
  read = λ is_so. subst (ReadsOn old.escapes b) (sym (ap (λ (k : KeptEscapes). k.escapes) is)) reads;
  kept = λ isnt. absurd (cc);
  room = ap (λ (k : KeptEscapes). k.room) is;
}

-- one was read where this stands on top, and something else stands in its place
pub read_in_place : (b : ℕ) (top next : OpenEscape) (rest : List OpenEscape) (old new : KeptEscapes) → old.escapes ≡ top ∷ rest → ReadsOn (top ∷ rest) b (next ∷ rest)
    → new ≡ record old { escapes = next ∷ drop 1 old.escapes } → ReadsByte b true old new
read_in_place b top next rest old new same reads is =
    was_read b old new (next ∷ rest) (subst (λ (half : List OpenEscape). ReadsOn half b (next ∷ rest)) (sym same) reads)
    (is ∙ ap (λ (half : List OpenEscape). record old { escapes = next ∷ drop 1 half }) same)

-- where one was read nothing is given yet
pub gives_nothing : (base : Surroundings) (b : ℕ) (old new : KeptEscapes) (is_read : Bool) → is_read ≡ true → ReadsByte b is_read old new
    → (GoesOn, new) ≡ leaving (byte_read base old.escapes b) old
gives_nothing base b old new is_read is reads =
    ap (λ (room : ℕ). let k : KeptEscapes = record { escapes = new.escapes; room = room } in (GoesOn, k)) reads.room
    ∙ ap (λ (r : Found × List OpenEscape). leaving r old) (sym ((reads.read is).goes_on base))

-- the last byte is read behind the others
HalvesRead-last : (half there next : List OpenEscape) (bytes : List ℕ) (b : ℕ) → HalvesRead half bytes there → ReadsOn there b next → HalvesRead half (bytes ++ b ∷ []) next
HalvesRead-last _ there next _ b (NothingRead half) reads = ByteRead half next next b [] reads (NothingRead next)
HalvesRead-last half _ next _ b (ByteRead _ second there c bytes first others) reads =
    ByteRead half second next c (bytes ++ b ∷ []) first (HalvesRead-last second there next bytes b others reads)

-- one more was read
pub ReadsFront-more : (bytes : List ℕ) (count : ℕ) (old now new : KeptEscapes) → ReadsFront bytes count old now → count < length bytes
    → ReadsByte (get_or bytes count 0) true now new → ReadsFront bytes (count + 1) old new
ReadsFront-more bytes count old now new reads inside is =
    let b : ℕ = get_or bytes count 0 in
    let next : count + 1 ≡ suc count = omega arith in
    let more : take (count + 1) bytes ≡ take count bytes ++ b ∷ [] = ap (λ (n : ℕ). take n bytes) next ∙ take-suc bytes count 0 inside in
    record {
      few = omega (arith, inside);
      read = subst (λ (xs : List ℕ). HalvesRead old.escapes xs new.escapes) (sym more)
          (HalvesRead-last old.escapes now.escapes new.escapes (take count bytes) b reads.read (is.read refl));
      room = is.room ∙ reads.room;
    }

-- none was read yet
pub ReadsFront-none : (bytes : List ℕ) (k : KeptEscapes) → ReadsFront bytes 0 k k
ReadsFront-none bytes k = record { few = omega arith; read = NothingRead k.escapes; room = refl }

-- as many bytes of texts are held
pub HalvesRead-held : (half last : List OpenEscape) (bytes : List ℕ) → HalvesRead half bytes last
    → texts_held last ≡ texts_held half
HalvesRead-held _ last _ (NothingRead half) = refl
HalvesRead-held half _ _ (ByteRead _ next last b bytes reads others) = HalvesRead-held next last bytes others ∙ reads.held

-- a comment may stand where a backslash stands
pub IsNested-comment : (half : List OpenEscape) → IsNested half → (top : IsOnTop BackslashRead half) → IsNested (Comment ∷ drop 1 half)
IsNested-comment half nested top =
    subst (λ (h : List OpenEscape). IsNested (Comment ∷ drop 1 h)) (sym top.same) (subst IsNested top.same nested)

none_both : (a : Bool) → (a && false) ≡ false
none_both true = refl
none_both false = refl

-- a quote behind a backslash begins one, wherever that stands
pub begins-comment : (rest : List OpenEscape) → ReadsOn (Backslash ∷ rest) 34 (Comment ∷ rest)
begins-comment rest = record {
  stands = refl;
  no_newline = refl;
  stays = none_both (takes_backslash_alone rest);
  goes_on = λ base. refl;
  held = refl;
}

-- a byte that is neither dropped nor a newline
record IsOfComment (b : ℕ) : Type 0 where
  stands : is_dropped b ≡ false
  no_newline : (b == newline) ≡ false

neither : (dropped line : Bool) → not (false || (dropped || line)) ≡ true → (dropped ≡ false) × (line ≡ false)
neither true line none = absurd (cc)
neither false true none = absurd (cc)
neither false false none = (refl, refl)

of_comment : (b : ℕ) (is_escape : Bool) → (b == backslash) ≡ is_escape → (is_escape || not (is_escape || (is_dropped b || b == newline))) ≡ true → IsOfComment b
of_comment b true is so = subst IsOfComment (sym (eqb-true b backslash is)) (record { stands = refl; no_newline = refl })
of_comment b false is so = let none = neither (is_dropped b) (b == newline) so in record { stands = none.0; no_newline = none.1 }

-- so it changes nothing there
pub reads-comment : (b : ℕ) (is_read : Bool) (k : KeptEscapes) → IsOnTop CommentRead k.escapes → is_read ≡ (b == backslash || is_argument_byte b) → ReadsByte b is_read k k
reads-comment b is_read k top is = record {
  read = λ is_so.
      let of : IsOfComment b = of_comment b (b == backslash) refl (sym is ∙ is_so) in
      subst (λ (half : List OpenEscape). ReadsOn half b half) (sym top.same)
      (record { stands = of.stands; no_newline = of.no_newline; stays = of.no_newline; goes_on = λ base. refl; held = refl });
  kept = λ isnt. refl;
  room = refl;
}
