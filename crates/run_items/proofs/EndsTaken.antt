-- Ends of texts and of calls that stand in front.
use Rattle.std.proofs.Common.{◌++◌, ◌≡◌, ℕ, ◌+◌, ◌<◌, ◌≤◌, Bool, List, ◌∷◌, refl, sym, ap, ◌∙◌, arith, if◌then◌else◌, nat_lt, le-ltb}
use Rattle.roff_num.specs.declared.limit.Limit.TheVariants.{Bytes}
use Rattle.roff_num.specs.declared.limits.Limits.{Limits}
use Rattle.input_model.specs.Input.{Ahead, EndAhead, ReturnAhead, is_none_ahead, item_taken}
use Rattle.input_source.specs.Tape.{Tape}
use Rattle.roff_scan.proofs.Asking.{takes_ahead}
use Rattle.input_model.specs.Unread.{taking_first}
use Rattle.input_model.specs.Shown.{ShowsEnd, ShowsRefusal}
use Rattle.roff_scan.specs.Unread.Calls.{PassesEnd, Takes}
use Rattle.run_model.specs.Reading.Items.{PageUnread, PageInput}
use Rattle.run_model.specs.Reading.Returns.{behind_return}
use Rattle.run_model.proofs.Behind.{begun-behind_return}
use Rattle.run_model.proofs.GoingBack.{going_back-start}
use Rattle.run_model.specs.Run.{State, in_front_taken, made, stopped_by}
use Rattle.run_model.specs.TurnsToCome.{begun, free_ahead, turns_within}
use Rattle.run_model.specs.PageEvents.{PageEvent}
use Rattle.run_model.specs.declared.line_state.LineState.{LineState}
use Rattle.input_model.specs.Input.Few.{AreFew}

-- An item in front that is an end is taken in a step, and this is read on behind it: fewer turns are to come, and none for what is
-- read then.
pub record IsEnd (item : Ahead PageEvent) (reads_on : LineState → LineState) : Type 0 where
  pub taken : (l : Limits) (s : State) (behind : List (Ahead PageEvent))
      → let there : State = record s { input = item_taken item behind s.input; reading = reads_on s.reading } in
      in_front_taken l (item ∷ behind) s ≡ (if nat_lt l.bytes (s.input.charge + 1) then stopped_by l Bytes s else made l s there)
  pub begun_behind : (reading : LineState) → begun (reads_on reading) ≤ begun reading
  pub few : (behind : List (Ahead PageEvent)) → AreFew (item ∷ behind) → AreFew behind
  pub fewer : (most : ℕ) (i : PageInput) (behind : List (Ahead PageEvent)) → i.ahead ≡ item ∷ behind → i.charge < most
      → turns_within most (item_taken item behind i) < turns_within most i

-- that of a text is, and that of a call
pub end_of_text : IsEnd EndAhead (λ reading. reading)
end_of_text = record {
  taken = λ l s behind. refl;
  begun_behind = λ reading. omega arith;
  few = λ behind few. few;
  fewer = λ most i behind front allowed. omega (arith, allowed, ap free_ahead front);
}

pub end_of_call : IsEnd (ReturnAhead 0) (λ reading. behind_return 0 reading)
end_of_call = record {
  taken = λ l s behind.
      let there : State = record s { input = item_taken (ReturnAhead 0) behind s.input; reading = behind_return 0 s.reading } in
      ap (λ (es : List PageEvent). if nat_lt l.bytes (s.input.charge + 1) then stopped_by l Bytes s else made l s (record there { to_do = es ++ s.to_do }))
      (going_back-start s.reading);
  begun_behind = λ reading. omega (arith, begun-behind_return 0 reading);
  few = λ behind few. few;
  fewer = λ most i behind front allowed. omega (arith, allowed, ap free_ahead front);
}

-- so it is taken as the front item is
pub takes_end : (gave : Tape → Type 0) (before after : PageUnread) → PassesEnd before after → Takes gave gave before after ShowsEnd
takes_end gave before after passes =
    let ahead = ap (λ (items : List (Ahead PageEvent)). is_none_ahead items) passes.in_front in
    takes_ahead gave before before after refl ShowsEnd ahead
    (λ a.
    ap (λ (u : PageUnread). (ShowsEnd, u)) passes.input
    ∙ sym (ap (λ (items : List (Ahead PageEvent)). taking_first items a before) passes.in_front
    ∙ ap (λ (c : Bool). if c then (ShowsRefusal Bytes, before) else (ShowsEnd, record before { input = item_taken EndAhead passes.behind before.input }))
    (le-ltb before.limits.bytes (before.input.charge + 1) passes.within)))
