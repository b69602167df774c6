-- Bytes that are put at once, as steps of the definition: each is one.
use Rattle.std.proofs.Common.{◌≡◌, ◌∙◌, ◌⊎◌, ℕ, suc, ◌+◌, ◌-◌, ◌<◌, ◌≤◌, Bool, true, List, [], ◌∷◌, ◌++◌, length, map, take, drop, nat_lt, ap, append_assoc, append-nil, arith, inl, inr, length-append, length-take, refl, subst, sym, if◌then◌else◌, take-append-drop}
use Rattle.std.proofs.lemmas.Bool.Decides.{nat_tests}
use Rattle.std.proofs.lemmas.List.{length-map, map-append}
use Rattle.std.specs.Io.KnownBytes.{Appends}
use Rattle.roff_num.specs.declared.limit.Limit.TheVariants.{Output}
use Rattle.page_bytes.proofs.Appending.{Appends-append}
use Rattle.page_bytes.specs.Devices.{AppendsBetween, Seen}
use Rattle.page_bytes.specs.Sinks.{CountsFault, Sunk}
use Rattle.run_model.specs.declared.status.Status.{Status}
use Rattle.run_model.specs.declared.status.Status.TheVariants.{Device, Limit as Limited}
use Rattle.input_source.specs.Tape.{Item, OneByte, Tape, items_then}
use Rattle.tbl_options.specs.Messages.{tbl_message_line}
use Rattle.tbl_format.specs.Parts.{IsFront}
use Rattle.tbl_format.specs.declared.limits.TblLimits.{TblLimits}
use Rattle.tbl_options.specs.declared.message.Message.TheVariants.{LimitReached, WriteFailed}
use Rattle.tbl_core.specs.Machine.{Standing}
use Rattle.tbl_core.specs.Source.{MayGiveSome}
use Rattle.tbl_core.specs.Tables.{line_of}
use Rattle.tbl_core.specs.Yields.{At}
use Rattle.tbl_run.specs.Coming.{HasCome}
use Rattle.tbl_run.specs.Outcome.{OutputFails, PutsTables}
use Rattle.tbl_run.specs.Run.{State, Written, ends_telling, initial, step, steps}
use Rattle.tbl_run.specs.declared.run.Counts.{Counts}
use Rattle.tbl_run.specs.Turns.{Adds, FailsAdding, FrontFails, FrontWritten, Tells}
use Rattle.tbl_run.proofs.Turning.{Appends-adds, AppendsBetween-fails}

-- there is room for as many, and no more are pending than there are
pub front_room : (k written output : ℕ) (known front : List ℕ) → front ≡ take k known → k ≡ output - written → written ≤ output
    → written + length front ≤ output
front_room k written output known front is most within =
    let few = ap (λ (xs : List ℕ). length xs) is in
    omega (arith, few, length-take k known, most, within)

-- fewer bytes may still be written behind them
pub front_falls : (output count more notes fewer n : ℕ) → 1 ≤ n → more ≡ count + n → count + n ≤ output → fewer ≤ notes
    → (output - more) + fewer < (output - count) + notes
front_falls output count more notes fewer n some is room few = omega (arith, some, is, room, few)

-- a list's last element, behind the others
record Last (xs : List ℕ) : Type 0 where
  before : List ℕ
  last : ℕ
  is : xs ≡ before ++ last ∷ []

last_of : (b : ℕ) (xs : List ℕ) → Last (b ∷ xs)
last_of b [] = record { before = []; last = b; is = refl }
last_of b (c ∷ xs) =
    let more = last_of c xs in
    record { before = b ∷ more.before; last = more.last; is = ap (λ (ys : List ℕ). b ∷ ys) more.is }

-- the byte of a front at which a sink failed that wrote a part of it: all before it were written, and itself perhaps
record FailedAt (front part : List ℕ) : Type 0 where
  done : List ℕ
  byte : ℕ
  after : List ℕ
  split : front ≡ done ++ byte ∷ after
  some : List ℕ
  none : List ℕ
  byte_is : byte ∷ [] ≡ some ++ none
  part_is : part ≡ done ++ some

failed_at : (front part back : List ℕ) → 1 ≤ length front → front ≡ part ++ back → FailedAt front part
failed_at front part (b ∷ back) some is = record {
  done = part;
  byte = b;
  after = back;
  split = is;
  some = [];
  none = b ∷ [];
  byte_is = refl;
  part_is = sym (append-nil part);
}
failed_at front [] [] some is = let len = ap (λ (xs : List ℕ). length xs) is in absurd (omega (arith, some, len))
failed_at front (b ∷ part) [] some is =
    let more = last_of b part in
    record {
      done = more.before;
      byte = more.last;
      after = [];
      split = is ∙ append-nil (b ∷ part) ∙ more.is;
      some = more.last ∷ [];
      none = [];
      byte_is = refl;
      part_is = more.is;
    }

-- so many turns behind others
abbrev turns_behind : List ℕ → ℕ → ℕ
turns_behind [] n = n
turns_behind (b ∷ bytes) n = turns_behind bytes (suc n)

-- these bytes were written
abbrev with_bytes : List ℕ → Written → Written
with_bytes bytes w = record w { output = w.output ++ bytes }

module _ (l : TblLimits) (line_length : ℕ) (left : Tape) (s : Standing) where
  -- a state in which this is pending
  abbrev state : List Item → Written → State
  state pending w = record { stage = record { tape = left; at = record { pending = pending; standing = s } }; written = w }

  byte_step : (b : ℕ) (rest : List Item) (w : Written) → length w.output < l.output
      → step l line_length (state (OneByte b ∷ rest) w) ≡ state rest (with_bytes (b ∷ []) w)
  byte_step b rest w room =
      let within : nat_lt (length w.output) l.output ≡ true = grind (arith, nat_tests, room) in
      ap (λ (t : Bool). state rest (if t then with_bytes (b ∷ []) w else ends_telling (line_of s) (LimitReached Output l.output) (Limited Output) w)) within

  bytes_steps : (bytes : List ℕ) (rest : List Item) (w : Written) (n : ℕ) (first : State)
      → steps l line_length n first ≡ state (map OneByte bytes ++ rest) w → length w.output + length bytes ≤ l.output
      → steps l line_length (turns_behind bytes n) first ≡ state rest (with_bytes bytes w)
  bytes_steps [] rest w n first is room = is ∙ ap (λ (out : List ℕ). state rest (record w { output = out })) (sym (append-nil w.output))
  bytes_steps (b ∷ bytes) rest w n first is room =
      let longer = length-append w.output (b ∷ []) in
      let one = byte_step b (map OneByte bytes ++ rest) w (omega (arith, room)) in
      bytes_steps bytes rest (with_bytes (b ∷ []) w) (suc n) first (ap (step l line_length) is ∙ one) (omega (arith, room, longer))
      ∙ ap (λ (out : List ℕ). state rest (record w { output = out })) (append_assoc w.output (b ∷ []) bytes)

-- the first bytes that are pending were put
module _ {first gives : Tape → Type 0} (l : TblLimits) (line_length : ℕ) (at : At) (front : List ℕ) (counts : Counts) (line : ℕ) (start now behind : Seen)
    (come : HasCome l line_length first gives at counts start now) (is : IsFront (map OneByte front) at.pending)
    (room : counts.written + length front ≤ l.output) (line_is : line ≡ line_of at.standing) (failures : now.failures ≤ behind.failures) where
  -- what is pending behind them
  abbrev rest : List Item
  rest = drop (length front) at.pending

  split : at.pending ≡ map OneByte front ++ rest
  split =
      let len = length-map front OneByte in
      sym (take-append-drop (length front) at.pending)
      ∙ ap (λ (items : List Item). items ++ rest) (ap (λ (n : ℕ). take n at.pending) (sym len) ∙ is)

  -- what is counted behind them
  abbrev with_front : Counts
  with_front = record counts { written = counts.written + length front }

  more_written : {more : Counts} → more ≡ with_front → more.written ≡ counts.written + length front
  more_written is = ap (λ (c : Counts). c.written) is

  as_told : {more : Counts} → more ≡ with_front → more.told ≡ counts.told
  as_told is = ap (λ (c : Counts). c.told) is

  -- all of them were written, and the loop goes on
  pub front_goes_on : (more : Counts) → FrontWritten front counts more now.out behind.out now.err behind.err
      → HasCome l line_length first gives (record { pending = rest; standing = at.standing }) more start behind
  front_goes_on more put = record {
    taken = come.taken;
    gave = come.gave;
    turns = turns_behind front come.turns;
    written = with_bytes front come.written;
    goes_on = come.goes_on;
    comes = λ left may.
        bytes_steps l line_length left at.standing front rest come.written come.turns _
        (come.comes left may ∙ ap (λ (items : List Item). state l line_length left at.standing items come.written) split)
        (omega (arith, room, come.counted.written));
    text = Appends-append start.out.contents _ _ come.written.output front come.text put.text.written;
    told = subst (λ (o : Sunk). Appends start.err.contents o.contents come.written.messages) (sym put.messages) come.told;
    faults = record {
      source = omega (arith, come.faults.source, failures);
      out = put.text.failures ∙ come.faults.out;
      err = ap (λ (o : Sunk). o.failures) put.messages ∙ come.faults.err;
    };
    counted = record {
      written = omega (arith, more_written put.counted, come.counted.written, length-append come.written.output front);
      told = as_told put.counted ∙ come.counted.told;
    };
    within = record {
      written = omega (arith, more_written put.counted, room);
      told = omega (arith, as_told put.counted, come.within.told);
    };
  }

  -- or the sink failed at one of them
  module _ (status : Status) (fails : FrontFails line front status now.out behind.out now.err behind.err) (some : 1 ≤ length front) where
    abbrev failed : FailedAt front fails.text.written.front
    failed = failed_at front fails.text.written.front fails.text.written.back some fails.text.written.split

    -- what is pending then
    abbrev later : List Item
    later = map OneByte failed.after ++ rest

    pending_is : at.pending ≡ map OneByte failed.done ++ (OneByte failed.byte ∷ later)
    pending_is =
        split
        ∙ ap (λ (bytes : List ℕ). map OneByte bytes ++ rest) failed.split
        ∙ ap (λ (items : List Item). items ++ rest) (map-append OneByte failed.done (failed.byte ∷ failed.after))
        ∙ append_assoc (map OneByte failed.done) (OneByte failed.byte ∷ map OneByte failed.after) rest

    few : length failed.done + 1 ≤ length front
    few =
        let len = ap (λ (xs : List ℕ). length xs) failed.split in
        omega (arith, len, length-append failed.done (failed.byte ∷ failed.after))

    -- what is told of it
    abbrev Told : ℕ → Type 0
    Told n =
        let told = come.written.messages ++ tbl_message_line n WriteFailed in
        (Appends start.err.contents behind.err.contents told × (behind.err.failures ≡ start.err.failures))
        ⊎ (AppendsBetween start.err.contents behind.err.contents come.written.messages told × CountsFault start.err.failures behind.err.failures)

    told_by : Tells line WriteFailed Device status now.err behind.err → Told line
    told_by (inl tells) =
        let adds : Adds now.err behind.err come.written.messages (come.written.messages ++ tbl_message_line line WriteFailed) =
        record { more = tbl_message_line line WriteFailed; is = refl; writes = tells.1 } in
        inl (Appends-adds start.err.contents come.written.messages _ come.told adds, tells.1.failures ∙ come.faults.err)
    told_by (inr tells) =
        let adding : FailsAdding now.err behind.err come.written.messages (come.written.messages ++ tbl_message_line line WriteFailed) =
        record { more = tbl_message_line line WriteFailed; is = refl; fails = tells.1 } in
        inr (AppendsBetween-fails start.err.contents come.written.messages _ come.told adding, rw (sym come.faults.err) tells.1.fault)

    device : Tells line WriteFailed Device status now.err behind.err → status ≡ Device
    device (inl tells) = tells.0
    device (inr tells) = tells.0

    module _ (left : Tape) (may : gives left) where
      -- the state before the byte, and behind it
      abbrev before : State
      before = state l line_length left at.standing (OneByte failed.byte ∷ later) (with_bytes failed.done come.written)

      abbrev after : State
      after = state l line_length left at.standing later (with_bytes (failed.byte ∷ []) (with_bytes failed.done come.written))

      came : steps l line_length (turns_behind failed.done come.turns) (initial (items_then come.taken left)) ≡ before
      came =
          bytes_steps l line_length left at.standing failed.done (OneByte failed.byte ∷ later) come.written come.turns _
          (come.comes left may ∙ ap (λ (items : List Item). state l line_length left at.standing items come.written) pending_is)
          (omega (arith, room, come.counted.written, few))

      stepped : step l line_length before ≡ after
      stepped =
          let done = length-append come.written.output failed.done in
          byte_step l line_length left at.standing failed.byte later (with_bytes failed.done come.written)
          (omega (arith, room, come.counted.written, few, done))

      output_fails : OutputFails l line_length (items_then come.taken left) left status start behind
      output_fails =
          let output = come.written.output ++ failed.done in
          let all = Appends-append start.out.contents _ _ come.written.output fails.text.written.front come.text fails.text.written.written in
          let as_done : come.written.output ++ fails.text.written.front ≡ output ++ failed.some =
          ap (λ (bytes : List ℕ). come.written.output ++ bytes) failed.part_is ∙ sym (append_assoc come.written.output failed.done failed.some) in
          let text : AppendsBetween start.out.contents behind.out.contents output (output ++ failed.byte ∷ []) = record {
            front = failed.some;
            back = failed.none;
            split = ap (λ (bytes : List ℕ). output ++ bytes) failed.byte_is;
            written = subst (Appends start.out.contents behind.out.contents) as_done all;
          } in
          record {
            is_device = device fails.messages;
            state = before;
            comes = record { count = turns_behind failed.done come.turns; is = came; goes_on = come.goes_on };
            rest = ap (λ (s : State). s.stage.tape) (sym stepped);
            text = subst (λ (s : State). AppendsBetween start.out.contents behind.out.contents output s.written.output) (sym stepped) text;
            fault = rw (sym come.faults.out) fails.text.fault;
            messages = subst (λ (s : State). Told (line_of s.stage.at.standing)) (sym stepped) (subst Told line_is (told_by fails.messages));
          }

    pub front_has_ended : MayGiveSome gives → PutsTables l line_length status first gives start behind
    front_has_ended alive = record {
      taken = come.taken;
      took = record { before = come.gave; some = alive.some; some_given = alive.some_given };
      outcome = λ left may. inr (inl (output_fails left may));
    }
