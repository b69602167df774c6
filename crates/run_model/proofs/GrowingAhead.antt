-- What reading an item of the input may put in front of what stands ahead: bytes and ends, but no event.
use Rattle.std.proofs.Common.{◌≡◌, ◌++◌, ℕ, Bool, true, false, List, [], ◌∷◌, map, refl, sym, subst}
use Rattle.input_model.specs.Input.{Ahead, ByteAhead, FreeAhead, EndAhead, ReturnAhead}
use Rattle.input_model.specs.Input.Names.{calling}
use Rattle.roff_store.specs.TextCalls.{Call}
use Rattle.run_model.specs.Reading.Arguments.{calling_all}
use Rattle.run_model.specs.Reading.Branches.{with_result_if}
use Rattle.run_model.specs.Reading.Items.{PageInput}
use Rattle.run_model.specs.Reading.Units.{interrupted}
use Rattle.run_model.specs.Requests.{PageEvent}
use Rattle.run_model.specs.declared.line_state.LineState.{LineState}

-- bytes and ends may stand in front of these, but no event
pub data Grows (items : List (Ahead PageEvent)) : List (Ahead PageEvent) → Type 0 where
  Stays : Grows items items
  WithByte : (b : ℕ) (more : List (Ahead PageEvent)) → Grows items more → Grows items (ByteAhead b ∷ more)
  WithFree : (b : ℕ) (more : List (Ahead PageEvent)) → Grows items more → Grows items (FreeAhead b ∷ more)
  WithEnd : (more : List (Ahead PageEvent)) → Grows items more → Grows items (EndAhead ∷ more)
  WithReturn : (back : ℕ) (more : List (Ahead PageEvent)) → Grows items more → Grows items (ReturnAhead back ∷ more)

-- a text and its end stand in front
pub ahead-text : (text : List ℕ) (items : List (Ahead PageEvent)) → Grows items (map ByteAhead text ++ EndAhead ∷ items)
ahead-text [] items = WithEnd items Stays
ahead-text (b ∷ text) items = WithByte b (map ByteAhead text ++ EndAhead ∷ items) (ahead-text text items)

-- and so does a body that was called, or sprang
pub ahead-called : (text : List ℕ) (back : ℕ) (items : List (Ahead PageEvent))
    → Grows items (map ByteAhead text ++ ReturnAhead back ∷ items)
ahead-called [] back items = WithReturn back items Stays
ahead-called (b ∷ text) back items = WithByte b (map ByteAhead text ++ ReturnAhead back ∷ items) (ahead-called text back items)

-- another input with the same ahead
grows-same : (before behind : List (Ahead PageEvent)) → behind ≡ before → Grows before behind
grows-same before behind same = subst (λ (more : List (Ahead PageEvent)). Grows before more) (sym same) Stays

pub ahead-same : {before behind : List (Ahead PageEvent)} → behind ≡ before → Grows before behind
ahead-same same = grows-same _ _ same

-- calls on what names stand for leave what is ahead
pub ahead-calling_all : (calls : List Call) (i : PageInput) → (calling_all calls i).ahead ≡ i.ahead
ahead-calling_all [] i = refl
ahead-calling_all (call ∷ calls) i = ahead-calling_all calls (calling call i)

-- so does a result that is kept
pub ahead-result : (keeps so : Bool) (i : PageInput) → (with_result_if keeps so i).ahead ≡ i.ahead
ahead-result true so i = refl
ahead-result false so i = refl

-- and so does what isn't a byte of the line
pub ahead-interrupted : (reading : LineState) (i : PageInput) → (interrupted reading i).ahead ≡ i.ahead
ahead-interrupted reading i = refl
