use Rattle.std.proofs.Common.{◌≡◌, ◌+◌, ◌-◌, ◌++◌, [], List, ℕ, length, take, replicate, arith, append_assoc, append-nil, refl, sym, ap, ◌∙◌, rules, vec_len, take_all, length-append}
use Rattle.std.proofs.lemmas.List.{length-replicate}
use Rattle.page_bytes.specs.LineBytes.Fronts.{Moves}
use Rattle.page_bytes.proofs.block.add_pieces.Goals as goal

-- blanks behind what is held
resized : (held : List ℕ) (blanks end long : ℕ) → end ≡ length held + blanks → long ≡ length held
    → take end held ++ replicate (end - long) 32 ≡ held ++ replicate blanks 32
resized held blanks end long ends whole =
    let more : end - long ≡ blanks = omega arith in
    rw (take_all end held (omega arith), more) refl

-- a piece more is added
Moves-piece : {held before behind to_come left rest : List ℕ} (blanks : ℕ) (glyphs : List ℕ) → Moves held before to_come left
    → replicate blanks 32 ++ (glyphs ++ rest) ≡ left → behind ≡ (before ++ replicate blanks 32) ++ glyphs → Moves held behind to_come rest
Moves-piece blanks glyphs moves whole added = record {
  moved = moves.moved ++ (replicate blanks 32 ++ glyphs);
  added = rw (added, moves.added, append_assoc, append_assoc) refl;
  taken = rw (append_assoc, append_assoc, whole) moves.taken;
}

pub loop-piece-init : goal.loop-piece-init
loop-piece-init c = record {
  capacity = omega arith;
  few = c.requires.few;
  moves = record { moved = []; added = sym (append-nil _); taken = refl };
}

-- how long the bytes are with them
length-piece : (held behind : List ℕ) (blanks : ℕ) (glyphs : List ℕ) → behind ≡ (held ++ replicate blanks 32) ++ glyphs
    → length behind ≡ length held + (blanks + length glyphs)
length-piece held behind blanks glyphs added =
    ap length added ∙ omega (arith, length-append (held ++ replicate blanks 32) glyphs, length-append held (replicate blanks 32), length-replicate {A = ℕ} blanks 32)

pub loop-piece-preserved : goal.loop-piece-preserved
loop-piece-preserved c =
    let piece = c.take_piece-piece in
    let held : List ℕ = c.loop-piece.bytes.items in
    let whole : vec_len c.loop-piece.bytes ≡ length held = first_of (omega arith, search rules) in
    let ends : c.len-in-loop-piece.result + piece.result.blanks ≡ length held + piece.result.blanks = omega (arith, c.len-in-loop-piece.ensures, whole) in
    let blanks : c.resize.new.self.items ≡ held ++ replicate piece.result.blanks 32 =
    rw (c.resize.ensures.items, c.unwrap.ensures) (resized held piece.result.blanks _ _ ends whole) in
    let glyphs : c.extend_from_slice.new.self.items ≡ (held ++ replicate piece.result.blanks 32) ++ piece.result.glyphs.now =
    rw (c.extend_from_slice.ensures.items, c.unwrap-in-loop-piece.ensures, blanks) (refl {a = (held ++ replicate piece.result.blanks 32) ++ piece.result.glyphs.now}) in
    let long = length-piece held _ piece.result.blanks piece.result.glyphs.now glyphs in
    record {
      capacity = omega (arith, c.loop-piece.invariant.capacity, c.resize.ensures.capacity, c.extend_from_slice.ensures.capacity);
      few = omega (arith, long, piece.ensures.within, c.loop-piece.invariant.few);
      moves = Moves-piece piece.result.blanks piece.result.glyphs.now c.loop-piece.invariant.moves piece.ensures.whole glyphs;
    }

pub loop-piece-smaller : goal.loop-piece-smaller
loop-piece-smaller c =
    let piece = c.take_piece-piece in
    let held : List ℕ = c.loop-piece.bytes.items in
    let whole : vec_len c.loop-piece.bytes ≡ length held = first_of (omega arith, search rules) in
    let ends : c.len-in-loop-piece.result + piece.result.blanks ≡ length held + piece.result.blanks = omega (arith, c.len-in-loop-piece.ensures, whole) in
    let blanks : c.resize.new.self.items ≡ held ++ replicate piece.result.blanks 32 =
    rw (c.resize.ensures.items, c.unwrap.ensures) (resized held piece.result.blanks _ _ ends whole) in
    let glyphs : c.extend_from_slice.new.self.items ≡ (held ++ replicate piece.result.blanks 32) ++ piece.result.glyphs.now =
    rw (c.extend_from_slice.ensures.items, c.unwrap-in-loop-piece.ensures, blanks) (refl {a = (held ++ replicate piece.result.blanks 32) ++ piece.result.glyphs.now}) in
    let long = length-piece held _ piece.result.blanks piece.result.glyphs.now glyphs in
    omega (arith, long, piece.ensures.within, c.loop-piece.invariant.few)
