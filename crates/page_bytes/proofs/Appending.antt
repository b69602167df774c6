-- What is written to sinks, piece by piece.
use Rattle.std.proofs.Common.{ℕ, Option, Some, None, List, [], ◌∷◌, ◌++◌, Result, Ok, Err, refl, append_assoc, append-nil, sym, ◌∙◌}
use Rattle.std.specs.Io.KnownBytes.{Appends}
use Rattle.page_bytes.specs.Sinks.{Sunk, Writes, HoldsBack, Fails, Puts}

-- two pieces one after the other are one
pub Appends-append : (old mid new : Option (List ℕ)) (front back : List ℕ) → Appends old mid front → Appends mid new back → Appends old new (front ++ back)
Appends-append None mid new front back first second = first
Appends-append (Some xs) None new front back first second = absurd first
Appends-append (Some xs) (Some ys) None front back first second = second
Appends-append (Some xs) (Some ys) (Some zs) front back first second = simp (second, first, append_assoc)

-- nothing is appended to what stays
pub Appends-nothing : (known : Option (List ℕ)) → Appends known known []
Appends-nothing None = tt
Appends-nothing (Some xs) = sym (append-nil xs)

-- nothing is written to a sink that stays
pub Writes-nothing : (s : Sunk) → Writes s s []
Writes-nothing s = record { written = Appends-nothing s.contents; failures = refl }

-- two pieces are written one after the other
pub Writes-append : {old mid new : Sunk} (front back : List ℕ) → Writes old mid front → Writes mid new back → Writes old new (front ++ back)
Writes-append front back first second = record {
  written = Appends-append _ _ _ front back first.written second.written;
  failures = second.failures ∙ first.failures;
}

-- more of a piece
pub HoldsBack-more : {old mid new : Sunk} {piece held held_then : List ℕ} (more : List ℕ)
    → HoldsBack old mid piece held → HoldsBack mid new (held ++ more) held_then
    → HoldsBack old new (piece ++ more) held_then
HoldsBack-more more all next = record {
  front = all.front ++ next.front;
  split = rw (all.split, append_assoc all.front _ more, next.split, append_assoc) refl;
  writes = Writes-append all.front next.front all.writes next.writes;
}

-- one byte more of it
pub HoldsBack-push : {old mid new : Sunk} {piece held held_then : List ℕ} (b : ℕ)
    → HoldsBack old mid piece held → HoldsBack mid new (held ++ b ∷ []) held_then
    → HoldsBack old new (piece ++ b ∷ []) held_then
HoldsBack-push b all more = HoldsBack-more (b ∷ []) all more

-- a beginning of what was held back is one of the piece and of what follows it
pub Fails-held : {old mid new : Sunk} {piece held : List ℕ} (rest : List ℕ)
    → HoldsBack old mid piece held → Fails mid new held → Fails old new (piece ++ rest)
Fails-held rest all part = record {
  written = record {
    front = all.front ++ part.written.front;
    back = part.written.back ++ rest;
    split = rw (all.split, part.written.split) (simp append_assoc);
    written = Appends-append _ _ _ _ _ all.writes.written part.written.written;
  };
  fault = rw (sym all.writes.failures) part.fault;
}

-- all of a piece is written where what was held back is
pub HoldsBack-put : {old mid : Sunk} (new : Sunk) {piece held : List ℕ}
    → HoldsBack old mid piece held → Writes mid new held → Writes old new piece
HoldsBack-put new all rest = rw all.split (Writes-append all.front _ all.writes rest)

-- more of a piece is held back
pub HoldsBack-keep : {old new : Sunk} {piece held : List ℕ} (more : List ℕ) → HoldsBack old new piece held
    → HoldsBack old new (piece ++ more) (held ++ more)
HoldsBack-keep more all = record {
  front = all.front;
  split = rw (all.split, append_assoc) refl;
  writes = all.writes;
}

-- a beginning of a piece is one of what it begins
pub Fails-front : {old new : Sunk} (front back : List ℕ) → Fails old new front → Fails old new (front ++ back)
Fails-front front back part = record {
  written = record {
    front = part.written.front;
    back = part.written.back ++ back;
    split = rw part.written.split (simp append_assoc);
    written = part.written.written;
  };
  fault = part.fault;
}

-- a second piece is put behind the first
pub Puts-behind : {F : Type 0} {old mid new : Sunk} (front back : List ℕ) (r : Result (Unit {0}) F) → Writes old mid front → Puts mid new back r → Puts old new (front ++ back) r
Puts-behind front back (Ok done) first second = record { ok = Writes-append front back first second.ok; err = tt }
Puts-behind {F} {old} {mid} {new} front back (Err fault) first second = record {
  ok = tt;
  err = record {
    written = record {
      front = front ++ second.err.written.front;
      back = second.err.written.back;
      split = rw second.err.written.split (simp append_assoc);
      written = Appends-append _ _ _ _ _ first.written second.err.written.written;
    };
    fault = rw (sym first.failures) second.err.fault;
  };
}
