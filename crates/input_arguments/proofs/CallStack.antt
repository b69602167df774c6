-- Arguments of calls, stacked in one block.
use Rattle.std.proofs.Common.{◌≡◌, ℕ, ◌+◌, ◌*◌, ◌≤◌, List, [], ◌∷◌, ◌++◌, append-nil, length, length-append, length-drop, take, drop, suc, refl, sym, subst, ap, arith, take_at, drop_at, length-take-le}
use Rattle.input_model.specs.Arguments.{total_length, live_bytes}
use Rattle.roff_num.specs.Lists.{EndInOrder, parts_ending}
use Rattle.input_arguments.specs.Calls.Kept.{calls_in, IsOnTop, AreStacked}
use Rattle.input_arguments.specs.declared.calls.CallStart.{CallStart}
use Rattle.input_arguments.proofs.Ends.{total_length-parts_ending}

-- as many calls as starts
pub length-calls_in : (starts : List CallStart) (bytes ends : List ℕ) → length (calls_in starts bytes ends) ≡ length starts
length-calls_in [] bytes ends = refl
length-calls_in (start ∷ below) bytes ends =
    ap (λ n. suc n) (length-calls_in below (take start.byte bytes) (take start.end ends))

-- the block has the bytes of all arguments
pub live_bytes-calls_in : (starts : List CallStart) (bytes ends : List ℕ) → AreStacked starts bytes ends
    → live_bytes (calls_in starts bytes ends) ≡ length bytes
live_bytes-calls_in [] bytes ends stacked = sym (ap length stacked.0)
live_bytes-calls_in (start ∷ below) bytes ends stacked =
    let top = stacked.0 in
    omega (
      arith,
      total_length-parts_ending (drop start.byte bytes) 0 (drop start.end ends) top.within,
      live_bytes-calls_in below (take start.byte bytes) (take start.end ends) stacked.1,
      top.last,
      length-drop start.byte bytes,
      length-take-le start.byte bytes top.byte,
    )

-- few arguments have no byte
pub few_ends : (starts : List CallStart) (bytes ends : List ℕ) → AreStacked starts bytes ends
    → length ends ≤ length bytes + 32 * length starts
few_ends [] bytes ends stacked = omega (arith, ap length stacked.1)
few_ends (start ∷ below) bytes ends stacked =
    let top = stacked.0 in
    omega (
      arith,
      few_ends below (take start.byte bytes) (take start.end ends) stacked.1,
      top.few,
      length-drop start.byte bytes,
      length-take-le start.byte bytes top.byte,
      length-drop start.end ends,
      length-take-le start.end ends top.end,
    )

-- arguments that have all bytes of a block, and of which few have none, lie on top of the others once they are behind them
module _ (start : CallStart) (bytes ends block more : List ℕ) (byte : length bytes ≡ start.byte) (end : length ends ≡ start.end) where
  IsOnTop-push : EndInOrder (length block) 0 more → total_length (parts_ending block 0 more) ≡ length block
      → length more ≤ length block + 32 → IsOnTop start (bytes ++ block) (ends ++ more)
  IsOnTop-push within full few =
      let bytes_on_top = drop_at bytes block start.byte byte in
      let ends_on_top = drop_at ends more start.end end in
      record {
        byte = omega (arith, byte, length-append bytes block);
        end = omega (arith, end, length-append ends more);
        within = rw (bytes_on_top, ends_on_top) within;
        last = rw (bytes_on_top, ends_on_top) (omega (arith, full, total_length-parts_ending block 0 more within));
        few = rw (bytes_on_top, ends_on_top) few;
      }

  pub AreStacked-push : (below : List CallStart) → EndInOrder (length block) 0 more
      → total_length (parts_ending block 0 more) ≡ length block → length more ≤ length block + 32
      → AreStacked below bytes ends → AreStacked (start ∷ below) (bytes ++ block) (ends ++ more)
  AreStacked-push below within full few stacked =
      let others : AreStacked below (take start.byte (bytes ++ block)) (take start.end (ends ++ more)) =
      rw (take_at bytes block start.byte byte, take_at ends more start.end end) stacked in
      (IsOnTop-push within full few, others)

-- none do so too
pub AreStacked-none : (start : CallStart) (bytes ends : List ℕ) → length bytes ≡ start.byte → length ends ≡ start.end → (below : List CallStart)
    → AreStacked below bytes ends → AreStacked (start ∷ below) bytes ends
AreStacked-none start bytes ends byte end below stacked =
    subst (λ (all : List ℕ). AreStacked (start ∷ below) all ends) (append-nil bytes)
    (subst (λ (all : List ℕ). AreStacked (start ∷ below) (bytes ++ []) all) (append-nil ends)
    (AreStacked-push start bytes ends [] [] byte end below (omega arith) refl (omega arith) stacked))
