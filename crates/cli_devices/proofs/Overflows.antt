-- What a watched sink is given, up to the first byte that has no room, and what it keeps of that.
use Rattle.std.proofs.Common.{◌≡◌, ℕ, suc, ◌+◌, ◌<◌, ◌≤◌, false, List, [], ◌∷◌, ◌++◌, length, get_or, take, drop, ◌⊎◌, inl, inr, Option, Some, None, Err, refl, sym, ap, ◌∙◌, subst, append_assoc, append-nil, arith, length-append, take_all, take-append-drop}
use Rattle.std.proofs.Math.Seq.{take-append-add, take-append_seam, take-suc}
use Rattle.std.specs.Option.{is_some, option_to_list}
use Rattle.std.specs.Result.{IsOk}
use Rattle.page_bytes.specs.Sinks.{CountsFault, Fails, Sunk}
use Rattle.page_bytes.specs.declared.sink.SinkFault.{SinkFault}
use Rattle.cli_devices.specs.Memory.{KeepsWithin, kept_by, room_of}
use Rattle.cli_devices.specs.WatchedSink.Telling.{IsSound, given_to}
use Rattle.cli_devices.specs.declared.memory.MemSink.{MemSink}
use Rattle.cli_devices.specs.declared.watched.WatchedSink.{WatchedSink}

-- no byte had no room
pub None-is_some : (o : Option ℕ) → is_some o ≡ false → o ≡ None
None-is_some None is = refl
None-is_some (Some byte) is = absurd (cc)

-- what is kept of a piece that is too long, and its first byte without room
kept_and_one : (room : ℕ) (kept kept_then piece : List ℕ) (left : ℕ)
    → length kept + left ≡ room → left < length piece → kept_then ≡ take room (kept ++ piece)
    → kept_then ++ (get_or piece left 0 ∷ []) ≡ kept ++ take (suc left) piece
kept_and_one room kept kept_then piece left split short is =
    let front : kept_then ≡ kept ++ take left piece = is ∙ ap (λ n. take n (kept ++ piece)) (sym split) ∙ take-append-add kept piece left in
    ap (λ xs. xs ++ (get_or piece left 0 ∷ [])) front ∙ append_assoc kept (take left piece) _ ∙ ap (λ xs. kept ++ xs) (sym (take-suc piece left 0 short))

-- a piece that is too long was put where no byte had no room before
pub Fails-overflow : (room room_then faults faults_then : ℕ) (kept kept_then piece : List ℕ) (left : ℕ)
    → length kept + left ≡ room → left < length piece → room_then ≡ room → kept_then ≡ take room (kept ++ piece) → CountsFault faults faults_then
    → let old : Sunk = record { contents = Some (room ∷ kept ++ []); failures = faults; room = 0 } in
    let new : Sunk = record { contents = Some (room_then ∷ kept_then ++ (get_or piece left 0 ∷ [])); failures = faults_then; room = 0 } in
    Fails old new piece
Fails-overflow room room_then faults faults_then kept kept_then piece left split short same is counts =
    let grown = kept_and_one room kept kept_then piece left split short is in record {
      written = record {
        front = take (suc left) piece;
        back = drop (suc left) piece;
        split = sym (take-append-drop (suc left) piece);
        written = rw (same, grown, append-nil kept) refl;
      };
      fault = counts;
    }

-- what a sink refused was longer than the room that was left
pub refused-longer : (old new : MemSink) (fault : SinkFault) (piece : List ℕ) (left : ℕ)
    → KeepsWithin old new (Err fault) piece → length (kept_by old) + left ≡ room_of old → left < length piece
refused-longer old new fault piece left keeps split =
    let too_long : length (kept_by old ++ piece) ≤ room_of old → ⊥ = λ fits. let ok : IsOk {T = Unit {0}} {E = SinkFault} (Err fault) = keeps.fits.1 fits in absurd (cc) in
    omega (arith, too_long, length-append (kept_by old) piece)

-- a byte had no room, or each had
pub overflow_or_not : (o : Option ℕ) → (o ≡ None) ⊎ ((byte : ℕ) × (o ≡ Some byte))
overflow_or_not None = inl refl
overflow_or_not (Some byte) = inr (byte, refl)

-- a sink keeps the first of the bytes that it was given
kept-first_at : (room : ℕ) (kept : List ℕ) (o : Option ℕ) → length kept ≤ room → ((byte : ℕ) → o ≡ Some byte → length kept ≡ room)
    → kept ≡ take room (kept ++ option_to_list o)
kept-first_at room kept None within full = rw append-nil (sym (take_all room kept within))
kept-first_at room kept (Some byte) within full =
    subst (λ n. kept ≡ take n (kept ++ byte ∷ [])) (full byte refl) (sym (take-append_seam kept (byte ∷ [])))

pub kept-first : (w : WatchedSink) → IsSound w → kept_by w.sink ≡ take (room_of w.sink) (given_to w)
kept-first w sound = kept-first_at (room_of w.sink) (kept_by w.sink) w.overflow sound.within sound.full

-- it keeps all of them if each had room
pub kept-all : (w : WatchedSink) → w.overflow ≡ None → kept_by w.sink ≡ given_to w
kept-all w none = rw none (sym (append-nil (kept_by w.sink)))

-- and it was given more than it has room for if one had none
pub given-longer : (w : WatchedSink) → IsSound w → (byte : ℕ) → w.overflow ≡ Some byte → room_of w.sink < length (given_to w)
given-longer w sound byte is =
    let given : length (given_to w) ≡ length (kept_by w.sink) + 1 = rw is (length-append (kept_by w.sink) (byte ∷ [])) in
    omega (arith, given, sound.full byte is)
