-- The text of a register or an argument of which bytes were read at once, as if it had been put in front.
use Rattle.std.proofs.Common.{◌≡◌, ℕ, suc, zero, ◌+◌, ◌<◌, ◌≤◌, Bool, true, false, List, [], ◌∷◌, ◌++◌, length, map, take, drop, Option, None, Some, refl, sym, ap, subst, ◌∙◌, arith, length-drop, length-take-le}
use Rattle.std.specs.List.{AllByRecursion}
use Rattle.run_state.specs.declared.composer.Composer.{Composer as ComposerOf}
use Rattle.input_escapes.specs.OpenEscape.{OpenEscape}
use Rattle.input_model.proofs.Counts.{bytes_ahead-bytes, ends_ahead-bytes}
use Rattle.input_model.specs.Arguments.{Arguments as ArgumentsOf, HeldFewer, bytes_held, is_behind_quote}
use Rattle.input_arguments.proofs.HeldBytes.{held-bytes_held}
use Rattle.input_model.specs.Input.{Ahead, ByteAhead, EndAhead, depth, leading, pushed, pushing}
use Rattle.input_model.specs.Unread.{IsWithin}
use Rattle.input_model.specs.declared.looked.Looked.{Looked}
use Rattle.read_lines.specs.Reader.State.{ReaderState}
use Rattle.run_model.specs.PageEvents.{PageEvent}
use Rattle.run_model.specs.Reading.Items.{PageInput, PageUnread}
use Rattle.roff_scan.proofs.PassingAhead.{bytes_taken-is}
use Rattle.roff_scan.specs.Unread.Calls.{OfTexts, PassesEnd, PassesFront, next_bytes}
use Rattle.roff_scan.specs.RunKinds.{goes_by_bytes, is_of, most_whole}
use Rattle.roff_scan.specs.Unread.Runs.{HalvesBehind, TakesRun, arguments_behind, texts_behind}
use Rattle.roff_scan.specs.declared.run_kind.RunKind.TheVariants.{Blanks}
use Rattle.input_source.specs.Bytes.{is_argument_byte}
use Rattle.input_source.specs.Tape.{Tape}
use Rattle.run_model.specs.Reading.Waiting.{waiting_above}
use Rattle.read_shortcuts.specs.Registers.{Asked, HoldsText, PutsText, ReadsNames, with_text}
use Rattle.read_shortcuts.specs.Runs.{IsRun, run_holding}
use Rattle.read_shortcuts.proofs.TakenRuns.{reads-a_run}

-- the first bytes of a text stand in front of the others
ahead-split : (count : ℕ) (text : List ℕ) (items : List (Ahead PageEvent))
    → map ByteAhead text ++ items ≡ map ByteAhead (take count text) ++ (map ByteAhead (drop count text) ++ items)
ahead-split zero text items = refl
ahead-split (suc count) [] items = refl
ahead-split (suc count) (b ∷ text) items = ap (λ (others : List (Ahead PageEvent)). ByteAhead b ∷ others) (ahead-split count text items)

-- the bytes of a text that was put in front come next, up to its end
leading-put : (text : List ℕ) (items : List (Ahead PageEvent)) → leading (map ByteAhead text ++ EndAhead ∷ items) ≡ text
leading-put [] items = refl
leading-put (b ∷ text) items = ap (λ (others : List ℕ). b ∷ others) (leading-put text items)

pub next_bytes-put : (text : List ℕ) (items : List (Ahead PageEvent)) (looked : Looked) (ready : List ℕ)
    → next_bytes (map ByteAhead text ++ EndAhead ∷ items) looked ready ≡ text
next_bytes-put [] items looked ready = refl
next_bytes-put (b ∷ text) items looked ready = leading-put (b ∷ text) items

-- where a text has room in front, it has room elsewhere
pub room-put : (text : List ℕ) (u : PageUnread) → IsWithin (with_text text u) → (pushed u.input + length text ≤ u.limits.stack) × (depth u.input < u.limits.depth)
room-put text u put =
    let bytes = bytes_ahead-bytes text (EndAhead ∷ u.input.ahead) in
    let ends = ends_ahead-bytes text (EndAhead ∷ u.input.ahead) in
    (omega (arith, put.pushed, bytes), omega (arith, put.depth, ends))

-- and so has what is left of it
pub room-left : (text : List ℕ) (count : ℕ) (u : PageUnread) → IsWithin (with_text text u)
    → (pushed u.input + length (drop count text) ≤ u.limits.stack) × (depth u.input < u.limits.depth)
room-left text count u put =
    let room = room-put text u put in
    let left = length-drop count text in
    (omega (arith, room.0, left), room.1)

-- where its first bytes are held too
pub room-rest : (text : List ℕ) (count : ℕ) (u held_in : PageUnread) → count ≤ length text → IsWithin (with_text text u)
    → held_in ≡ record u { input = record u.input { arguments = bytes_held (take count text) u.input.arguments } }
    → (pushed held_in.input + length (drop count text) ≤ held_in.limits.stack) × (depth held_in.input < held_in.limits.depth)
room-rest text count u held_in few put is =
    let room = room-put text u put in
    let taken = length-take-le count text few in
    let left = length-drop count text in
    let more = held-bytes_held (take count text) u.input.arguments in
    subst (λ (v : PageUnread). (pushed v.input + length (drop count text) ≤ v.limits.stack) × (depth v.input < v.limits.depth)) (sym is)
    (omega (arith, room.0, taken, left, more, few), room.1)

-- so many bytes of a text that was put in front were read, and changed at the most the arguments to these
module _ (text : List ℕ) (count : ℕ) (few : count ≤ length text) (before : PageUnread) (a : ArgumentsOf)
    (room : before.input.charge + length text < before.limits.bytes) where
  abbrev pub bytes : List ℕ
  bytes = take count text

  abbrev pub rest : List ℕ
  rest = drop count text

  -- the input behind them
  abbrev pub read : PageUnread
  read = record before {
    input = record before.input { ahead = map ByteAhead rest ++ EndAhead ∷ before.input.ahead; arguments = a; charge = before.input.charge + count };
  }

  -- they stood in front
  pub passes-read : (gives : Tape → Type 0) → PassesFront gives gives bytes (with_text text before) (record read { input = record read.input { arguments = before.input.arguments } })
  passes-read gives =
      let i : PageInput = pushing text before.input in
      let behind : List (Ahead PageEvent) = map ByteAhead rest ++ EndAhead ∷ before.input.ahead in
      let front : i.ahead ≡ map ByteAhead bytes ++ behind = ahead-split count text (EndAhead ∷ before.input.ahead) in
      let counted : length bytes ≡ count = length-take-le count text few in
      OfTexts (record {
        behind = behind;
        in_front = front;
        stays = record { before = λ t may. may; after = λ t may. may };
        input = ap (λ (n : ℕ). record before { input = record i { ahead = behind; charge = i.charge + n } }) (sym counted)
            ∙ ap (λ (j : PageInput). record before { input = j }) (sym (bytes_taken-is bytes behind i front));
        within = omega (arith, counted, few, room);
      })

  -- behind which the text was put in front but for them, or its end was taken, where these are all
  pub record ReadsText (is_ended : Bool) (after : PageUnread) : Type 0 where
    pub whole : is_ended ≡ true → rest ≡ []
    pub ended : is_ended ≡ true → after ≡ record before { input = record before.input { arguments = a; charge = before.input.charge + count + 1 } }
    pub rests : is_ended ≡ false → after ≡ read
    pub within : IsWithin after

  -- that is so, as it is done in two steps
  pub reads_text : (held after : PageUnread) (is_ended : Bool) → held ≡ record before { input = record before.input { arguments = a } }
      → (is_ended ≡ true → rest ≡ []) → (is_ended ≡ true → after ≡ record held { input = record held.input { charge = held.input.charge + count + 1 } })
      → (is_ended ≡ false → after ≡ record held { input = pushing rest (record held.input { charge = held.input.charge + count }) })
      → IsWithin after → ReadsText is_ended after
  reads_text held after is_ended is whole ended rests within = record {
    whole = whole;
    ended = λ so. ended so ∙ ap (λ (u : PageUnread). record u { input = record u.input { charge = u.input.charge + count + 1 } }) is;
    rests = λ so. rests so ∙ ap (λ (u : PageUnread). record u { input = pushing rest (record u.input { charge = u.input.charge + count }) }) is;
    within = within;
  }

  module _ (puts : IsWithin (with_text text before)) (is_ended : Bool) (after : PageUnread) (reads : ReadsText is_ended after) where
    -- no count is above its limit in front of the end
    within-ended : rest ≡ [] → after ≡ record before { input = record before.input { arguments = a; charge = before.input.charge + count + 1 } } → IsWithin read
    within-ended whole is =
        let behind : IsWithin (record before { input = record before.input { arguments = a; charge = before.input.charge + count + 1 } }) = subst IsWithin is reads.within in
        let counted = bytes_ahead-bytes rest (EndAhead ∷ before.input.ahead) in
        let none = ap (λ (xs : List ℕ). length xs) whole in
        let ends = ends_ahead-bytes rest (EndAhead ∷ before.input.ahead) in
        let put = ends_ahead-bytes text (EndAhead ∷ before.input.ahead) in
        record {
          charge = omega (arith, behind.charge);
          newlines = omega (arith, puts.newlines);
          pushed = omega (arith, behind.pushed, counted, none);
          depth = omega (arith, puts.depth, ends, put);
          results = puts.results;
          stored = puts.stored;
          names = puts.names;
          making = puts.making;
        }

    pub within-read : IsWithin read
    within-read = by_end is_ended reads.whole reads.ended reads.rests
      where
        by_end : (ended : Bool) → (ended ≡ true → rest ≡ [])
            → (ended ≡ true → after ≡ record before { input = record before.input { arguments = a; charge = before.input.charge + count + 1 } })
            → (ended ≡ false → after ≡ read) → IsWithin read
        by_end true whole is stays = within-ended (whole refl) (is refl)
        by_end false whole is stays = subst IsWithin (stays refl) reads.within

    -- the end was in front
    pub passes-end : is_ended ≡ true → PassesEnd read after
    passes-end so = record {
      behind = before.input.ahead;
      in_front = ap (λ (xs : List ℕ). map ByteAhead xs ++ EndAhead ∷ before.input.ahead) (reads.whole so);
      input = reads.ended so;
      within = omega (arith, few, room);
    }

    -- what is half read stays
    pub half-read : after.input.escapes ≡ before.input.escapes
    half-read = by_end is_ended reads.ended reads.rests
      where
        by_end : (ended : Bool) → (ended ≡ true → after ≡ record before { input = record before.input { arguments = a; charge = before.input.charge + count + 1 } })
            → (ended ≡ false → after ≡ read) → after.input.escapes ≡ before.input.escapes
        by_end true is stays = ap (λ (u : PageUnread). u.input.escapes) (is refl)
        by_end false is stays = ap (λ (u : PageUnread). u.input.escapes) (stays refl)

-- bytes are of a run that is held, where they are held as they are read
holds-of : (most : Option ℕ) (text : List ℕ) → AllByRecursion (λ b. is_argument_byte b ≡ true) text → AllByRecursion (λ b. is_of (run_holding most) b ≡ true) text
holds-of None text plain = plain
holds-of (Some most) text plain = plain

holds-fewer : (most : Option ℕ) (text : List ℕ) (a : ArgumentsOf) → HeldFewer most text a → HeldFewer (most_whole (run_holding most)) text a
holds-fewer None text a fewer = fewer
holds-fewer (Some most) text a fewer = fewer

holds-arguments : (most : Option ℕ) (text : List ℕ) (a : ArgumentsOf) → bytes_held text a ≡ arguments_behind (run_holding most) text a
holds-arguments None text a = refl
holds-arguments (Some most) text a = refl

holds-half : (most : Option ℕ) (text : List ℕ) (half : List OpenEscape) → HalvesBehind (run_holding most) half text half
holds-half None text half = refl
holds-half (Some most) text half = refl

holds-texts : (most : Option ℕ) (text : List ℕ) (i : PageInput) → i.open_texts ≡ texts_behind (run_holding most) text i
holds-texts None text i = refl
holds-texts (Some most) text i = refl

-- and how far it goes isn't told by bytes alone
holds-whole : (most : Option ℕ) → goes_by_bytes (run_holding most) ≡ true → ⊥
holds-whole None goes = cc
holds-whole (Some most) goes = cc

holds-other : (most : Option ℕ) → run_holding most ≡ Blanks → ⊥
holds-other None is = cc
holds-other (Some most) is = cc

-- its first bytes are held in arguments
pub holds_text : (asked : Asked) (most : Option ℕ) (gave gives : Tape → Type 0) (r : ReaderState) (es : ComposerOf) (before passed after : PageUnread) (text : List ℕ) (count : ℕ) (few : count ≤ length text)
    (room : passed.input.charge + length text < passed.limits.bytes) (is_ended : Bool)
    → IsRun (run_holding most) r.reading before.input.escapes → ReadsNames r.reading → before.input.escapes ≡ [] → PutsText asked gave gives r es before (with_text text passed)
    → AllByRecursion (λ b. is_argument_byte b ≡ true) (take count text) → HeldFewer most (take count text) passed.input.arguments
    → (is_ended ≡ true → is_behind_quote (bytes_held (take count text) passed.input.arguments).place ≡ false)
    → ReadsText text count few passed (bytes_held (take count text) passed.input.arguments) room is_ended after
    → HoldsText gave gives r es before after
holds_text asked most gave gives r es before passed after text count few room is_ended run names none_half puts plain fewer none_waited reads =
    let a : ArgumentsOf = bytes_held (take count text) passed.input.arguments in
    let put : PageUnread = with_text text passed in
    let there : PageUnread = read text count few passed a room in
    let took : TakesRun (run_holding most) gives gives [] count put there = record {
      bytes = take count text;
      length_is = length-take-le count text few;
      are_of = holds-of most (take count text) plain;
      fewer = holds-fewer most (take count text) passed.input.arguments fewer;
      passes = passes-read text count few passed a room gives;
      arguments = holds-arguments most (take count text) passed.input.arguments;
      half_read = holds-half most (take count text) passed.input.escapes;
      texts = holds-texts most (take count text) put.input;
      whole = λ goes. absurd (holds-whole most goes);
    } in
    record {
      asked = asked;
      put = put;
      puts = puts;
      read = there;
      past = reads-a_run (run_holding most) gives gives [] count r put there took (subst (λ (half : List OpenEscape). IsRun (run_holding most) r.reading half) (sym puts.half) run) (holds-other most)
          (within-read text count few passed a room puts.within is_ended after reads);
      is_ended = is_ended;
      takes = λ so.
          ap (λ (half : List OpenEscape). waiting_above r.reading a.place half) (puts.half ∙ none_half) ∙ names.takes a.place (none_waited so);
      ends = passes-end text count few passed a room puts.within is_ended after reads;
      stays = reads.rests;
      within = reads.within;
      half = half-read text count few passed a room puts.within is_ended after reads ∙ puts.half;
    }
