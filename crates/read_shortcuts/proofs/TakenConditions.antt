-- A condition whose bytes and whose text were taken at once: where they came from, and what is left behind them.
use Rattle.std.proofs.Common.{◌≡◌, ℕ, ◌+◌, ◌≤◌, Bool, List, [], length, sym, ap, subst, ◌∙◌, arith}
use Rattle.input_source.specs.Tape.{Tape}
use Rattle.input_escapes.specs.OpenEscape.{OpenEscape}
use Rattle.input_model.specs.Input.{Ahead, is_none_ahead, pushed}
use Rattle.input_model.specs.Unread.{IsWithin}
use Rattle.roff_scan.proofs.PassingAhead.{bytes_taken-is}
use Rattle.roff_scan.specs.Unread.Calls.{IsFront, NoNewline, OfSource, OfTexts, PassesFront, front_bytes}
use Rattle.roff_scan.specs.Unread.Texts.{CountsText, HasRoomFor}
use Rattle.run_model.proofs.ItemsTaken.{FromAhead, FromSource, Origin, ahead_at}
use Rattle.run_model.specs.PageEvents.{PageEvent}
use Rattle.run_model.specs.Reading.Items.{PageInput, PageUnread}
use Rattle.read_shortcuts.specs.Conditions.{HoldsMore}
use Rattle.read_shortcuts.specs.ControlFronts.{StandsReady}
use Rattle.read_shortcuts.specs.KeptResults.{kept_unread, results_kept}
use Rattle.read_shortcuts.specs.declared.answered.Answer.{Answer}
use Rattle.read_shortcuts.proofs.ComingBytes.{CameFrom, IsOpen, at, coming-all, lines-plain, newly_held}

-- A condition stands in front with the front of its line: these bytes, which are as many as are to be taken.
pub record StandsWhole (line ready : List ℕ) (answer : Answer) (u : PageUnread) : Type 0 where
  pub stands : StandsReady line ready u
  pub count : answer.count ≡ length line
  pub some : 1 ≤ length line
  pub plain : NoNewline line

-- The bytes of a line came from there, and so much is left. The limits have room for its text, and for bytes of it that are held.
pub record TakenFrom (keeps : Bool) (gave gives : Tape → Type 0) (answer : Answer) (before after : PageUnread) (line : List ℕ) : Type 0 where
  pub from : Origin
  pub is : after ≡ at from (kept_unread keeps answer.so before) [] (ahead_at from []) (before.input.charge + (answer.len + 1) + answer.count)
  pub is_open : IsOpen from gives before.looked
  pub ahead : before.input.ahead ≡ ahead_at from line
  pub comes : CameFrom from gave gives line
  pub few : length (results_kept keeps answer.so before.input) ≤ before.limits.conditions
  pub room : HasRoomFor answer.len answer.count before
  pub stack : (bytes : List ℕ) → length bytes + 1 ≤ answer.count → pushed before.input + answer.len + newly_held from bytes ≤ before.limits.stack

module _ (keeps : Bool) (line ready : List ℕ) (answer : Answer) (before counted : PageUnread) (whole : StandsWhole line ready answer before)
    (counts : CountsText answer.len answer.count (kept_unread keeps answer.so before) counted) where
  -- there they stand too where its text is counted
  pub front-counted : IsFront answer.count ready counted
  front-counted =
      subst (λ (u : PageUnread). IsFront answer.count ready u) (sym counts.counted)
      (record { among = omega (arith, whole.count, whole.stands.front.among); within = omega (arith, counts.room.bytes) })

  bytes-counted : front_bytes answer.count ready counted ≡ line
  bytes-counted =
      ap (λ (n : ℕ). front_bytes n ready counted) whole.count ∙ ap (λ (u : PageUnread). front_bytes (length line) ready u) counts.counted ∙ sym whole.stands.are

  pub plain-counted : NoNewline (front_bytes answer.count ready counted)
  plain-counted = subst NoNewline (sym bytes-counted) whole.plain

  module _ (gave gives : Tape → Type 0) (after : PageUnread) (none : before.input.escapes ≡ []) (held : HoldsMore answer before) (inside : IsWithin after) where
    abbrev there : PageInput
    there = record before.input { charge = before.input.charge + (answer.len + 1); results = results_kept keeps answer.so before.input }

    room : HasRoomFor answer.len answer.count before
    room = record { stack = counts.room.stack; shallow = counts.room.shallow; bytes = counts.room.bytes }

    -- nothing is half read, and so many bytes were taken
    is-left : (from : Origin) → after ≡ at from (record before { input = there }) before.input.escapes (ahead_at from []) (there.charge + length line)
        → after ≡ at from (record before { input = there }) [] (ahead_at from []) (there.charge + answer.count)
    is-left from is =
        is ∙ ap (λ (half : List OpenEscape). at from (record before { input = there }) half (ahead_at from []) (there.charge + length line)) none
        ∙ ap (λ (n : ℕ). at from (record before { input = there }) [] (ahead_at from []) (there.charge + n)) (sym whole.count)

    taken : PassesFront gave gives line (record before { input = there }) after → TakenFrom keeps gave gives answer before after line
    taken (OfSource passes) =
        let from : Origin = FromSource passes.some.0 in
        let is = is-left from (passes.input ∙ ap (λ (j : PageInput). record before { input = j }) (lines-plain line there whole.plain whole.some)
        ∙ ap (λ (items : List (Ahead PageEvent)). record before { input = record there { ahead = items; charge = there.charge + length line; line = there.newlines + 1 } }) passes.ahead) in
        record {
          from = from;
          is = is;
          is_open = (passes.looked, passes.some);
          ahead = passes.ahead;
          comes = coming-all line gives gave passes.in_front;
          few = (subst IsWithin is inside).results;
          room = room;
          stack = λ bytes some. (let fits = held (ap (λ (items : List (Ahead PageEvent)). is_none_ahead items) passes.ahead) in omega (arith, fits, some, room.stack));
        }
    taken (OfTexts passes) =
        let from : Origin = FromAhead passes.behind in
        let is = is-left from (passes.input ∙ ap (λ (j : PageInput). record before { input = j }) (bytes_taken-is line passes.behind there passes.in_front)) in
        record {
          from = from;
          is = is;
          is_open = tt;
          ahead = passes.in_front;
          comes = passes.stays;
          few = (subst IsWithin is inside).results;
          room = room;
          stack = λ bytes some. omega (arith, room.stack);
        }

    -- it was taken where its text was counted
    pub taken-from : PassesFront gave gives (front_bytes answer.count ready counted) counted after → TakenFrom keeps gave gives answer before after line
    taken-from passes =
        taken (subst (λ (u : PageUnread). PassesFront gave gives line u after) counts.counted
        (subst (λ (bytes : List ℕ). PassesFront gave gives bytes counted after) bytes-counted passes))
