-- Few events stand in front of what was read.
use Rattle.std.proofs.Common.{◌≡◌, ℕ, ◌≤◌, List, [], ◌∷◌, ◌++◌, ◌∙◌, ap, map, refl, subst, arith}
use Rattle.run_model.specs.Reading.Items.{PageInput}
use Rattle.run_model.specs.declared.line_state.LineState.{LineState}
use Rattle.run_model.proofs.PlainRuns.{behind_byte, behind_bytes}
use Rattle.run_items.specs.Room.{FewFor, decides_next}
use Rattle.run_items.proofs.Fronts.{few-undecided}
use Rattle.input_model.specs.Input.{Ahead, ByteAhead}
use Rattle.input_model.specs.Input.Few.{AreFew, AreFewFrom}
use Rattle.input_model.proofs.FewEvents.{few-more}
use Rattle.run_model.specs.PageEvents.{PageEvent}
use Rattle.run_model.proofs.ItemsTaken.{FromAhead, FromSource, Origin, ahead_at}

-- behind bytes that stood in front few events do
pub few-bytes : (room : ℕ) (bytes : List ℕ) (items : List (Ahead PageEvent)) → room ≤ 5 → AreFewFrom room (map ByteAhead bytes ++ items) → AreFew items
few-bytes room [] items most few = few-more room 5 items most few
few-bytes room (b ∷ bytes) items most few = few-bytes 0 bytes items (omega arith) few

pub few-read : (from : Origin) (bytes : List ℕ) → AreFew (ahead_at from bytes) → AreFew (ahead_at from [])
few-read (FromSource tape) bytes few = tt
few-read (FromAhead items) bytes few = few-bytes 5 bytes items (omega arith) few

-- behind one at the least none does before an end
pub none-read : (from : Origin) (b : ℕ) (bytes : List ℕ) → AreFew (ahead_at from (b ∷ bytes)) → AreFewFrom 0 (ahead_at from [])
none-read (FromSource tape) b bytes few = tt
none-read (FromAhead items) b bytes few = none-bytes bytes items few
  where
    none-bytes : (bytes : List ℕ) (items : List (Ahead PageEvent)) → AreFewFrom 0 (map ByteAhead bytes ++ items) → AreFewFrom 0 items
    none-bytes [] items few = few
    none-bytes (b ∷ bytes) items few = none-bytes bytes items few

-- nor does it behind an escape, which has a last byte
pub few-behind_escape : (from : Origin) (front : List ℕ) (last : ℕ) → AreFew (ahead_at from (front ++ last ∷ [])) → AreFewFrom 0 (ahead_at from [])
few-behind_escape from [] last few = none-read from last [] few
few-behind_escape from (b ∷ front) last few = none-read from b (front ++ last ∷ []) few

-- bytes leave what is half read
pub escapes-behind : (from : Origin) (bytes : List ℕ) (i : PageInput) → (behind_bytes from bytes i).escapes ≡ i.escapes
escapes-behind from [] i = refl
escapes-behind from (b ∷ bytes) i = escapes-behind from bytes (behind_byte from b i)

-- where nothing is half read, whatever is read behind them
pub few-alone : (from : Origin) (bytes : List ℕ) (reading there : LineState) (old new : PageInput) → old.escapes ≡ [] → FewFor [] reading old.escapes old.ahead → old.ahead ≡ ahead_at from bytes
    → record (behind_bytes from bytes old) { ahead = ahead_at from [] } ≡ new → FewFor [] there new.escapes new.ahead
few-alone from bytes reading there old new none few front same =
    let input : PageInput = record (behind_bytes from bytes old) { ahead = ahead_at from [] } in
    subst (λ (j : PageInput). FewFor [] there j.escapes j.ahead) same
    (few-undecided [] there input.escapes input.ahead (few-read from bytes (subst (λ (items : List (Ahead PageEvent)). AreFew items) front few.few))
    (ap decides_next (escapes-behind from bytes old ∙ none)))
