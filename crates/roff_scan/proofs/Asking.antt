-- Calls that are lent the source, by what they find.
use Rattle.std.proofs.Common.{Bool, true, false, ◌&&◌, ◌≡◌, ℕ, ◌≤◌, List, [], ◌∷◌, length, map, take, Option, Some, None, refl, sym, ap, ◌∙◌, arith, IfSome, get_or, is_none}
use Rattle.input_model.specs.Input.{Ahead, ByteAhead, FreeAhead, EndAhead, ReturnAhead, DoAhead, is_none_ahead}
use Rattle.input_source.specs.Tape.{Tape, Answer, Answers, Took, Gives, Ends, OneByte, Ending, Ended}
use Rattle.input_model.specs.Unread.{Unread, Asked, Stays, taking, taking_first, taking_answer, asks_to_take, looking, looking_past, looking_at, asks_to_look}
use Rattle.input_model.specs.Looking.{answer_behind, is_nothing}
use Rattle.input_model.specs.declared.looked.Looked.{Looked}
use Rattle.input_model.specs.declared.looked.Looked.TheVariants.{Nothing, Byte, Closed}
use Rattle.input_model.specs.Shown.{Shown, ShowsByte, Sighted, SeesByte, SeesNote, SeesEnding, seen_ahead}
use Rattle.roff_scan.specs.Unread.Calls.{Takes, Looks}

-- a source that isn't lent stays
stays : (tapes : Tape → Type 0) → Stays tapes tapes
stays tapes = record { before = λ t given. given; after = λ t given. given }

-- what a test decides, where its value is known
asked_by : (old new : Tape → Type 0) (a : Answer) (asks : Bool) → asks ≡ true → Answers old new a → Asked old new asks a
asked_by old new a asks is answers = rw is answers

unasked_by : (tapes : Tape → Type 0) (a : Answer) (asks : Bool) → asks ≡ false → Asked tapes tapes asks a
unasked_by tapes a asks is = rw is (stays tapes)

module _ {E : Type 0} where
  -- with nothing ahead, what the source answers is taken
  taking_none : (ahead : List (Ahead E)) (a : Answer) (u : Unread E) → is_none_ahead ahead ≡ true → taking_first ahead a u ≡ taking_answer (answer_behind u.looked a) u
  taking_none [] a u none = refl
  taking_none (item ∷ behind) a u none = cc

  -- with nothing seen ahead, what it answers is seen
  looking_none : (sight : Option Sighted) (a : Answer) (u : Unread E) → sight ≡ None → looking_past sight a u ≡ looking_at (answer_behind u.looked a) u
  looking_none sight a u none = rw none refl

-- The input is known by the fields that keep it.
module _ {E : Type 0} (tapes : Tape → Type 0) (kept before after : Unread E) (is : kept ≡ before) (item : Shown E) where
  -- what stands ahead is taken
  pub takes_ahead : is_none_ahead kept.input.ahead ≡ false → ((a : Answer) → (item, after) ≡ taking a before) → Takes tapes tapes before after item
  takes_ahead some taken = record {
    answer = Ends Ended;
    asked = unasked_by tapes (Ends Ended) (asks_to_take before) (ap asks_to_take (sym is) ∙ ap (λ n. n && is_nothing kept.looked) some);
    taken = taken (Ends Ended);
  }

  -- what is taken where nothing is ahead
  taken_by : (looked : Looked) (a : Answer) → is_none_ahead kept.input.ahead ≡ true → kept.looked ≡ looked
      → taking a before ≡ taking_answer (answer_behind looked a) before
  taken_by looked a none is_looked =
      taking_none before.input.ahead a before (ap (λ (u : Unread E). is_none_ahead u.input.ahead) (sym is) ∙ none)
      ∙ ap (λ o. taking_answer (answer_behind o a) before) (ap (λ (u : Unread E). u.looked) (sym is) ∙ is_looked)

  asks_by : (looked : Looked) → is_none_ahead kept.input.ahead ≡ true → kept.looked ≡ looked → asks_to_take before ≡ is_nothing looked
  asks_by looked none is_looked = ap asks_to_take (sym is) ∙ ap (λ n. n && is_nothing kept.looked) none ∙ ap is_nothing is_looked

  -- the byte that was looked at is taken
  pub takes_looked : (b : ℕ) → is_none_ahead kept.input.ahead ≡ true → kept.looked ≡ Byte b → (item, after) ≡ taking_answer (Gives (OneByte b)) before
      → Takes tapes tapes before after item
  takes_looked b none looked taken = record {
    answer = Ends Ended;
    asked = unasked_by tapes (Ends Ended) (asks_to_take before) (asks_by (Byte b) none looked);
    taken = taken ∙ sym (taken_by (Byte b) (Ends Ended) none looked);
  }

  -- where nothing more is taken of the source, it has ended
  pub takes_closed : (byte : Option ℕ) → is_none_ahead kept.input.ahead ≡ true → kept.looked ≡ Closed byte → (item, after) ≡ taking_answer (Ends Ended) before
      → Takes tapes tapes before after item
  takes_closed byte none looked taken = record {
    answer = Ends Ended;
    asked = unasked_by tapes (Ends Ended) (asks_to_take before) (asks_by (Closed byte) none looked);
    taken = taken ∙ sym (taken_by (Closed byte) (Ends Ended) none looked);
  }

  -- the source is asked
  pub takes_asked : (new : Tape → Type 0) (a : Answer) → is_none_ahead kept.input.ahead ≡ true → kept.looked ≡ Nothing → Answers tapes new a
      → (item, after) ≡ taking_answer a before → Takes tapes new before after item
  takes_asked new a none looked answers taken = record {
    answer = a;
    asked = asked_by tapes new a (asks_to_take before) (asks_by Nothing none looked) answers;
    taken = taken ∙ sym (taken_by Nothing a none looked);
  }

-- a source gave the first of the bytes that stood ready
pub answers_first : (old new : Tape → Type 0) (bytes : List ℕ) → 1 ≤ length bytes → Took old new (map OneByte (take 1 bytes))
    → Answers old new (Gives (OneByte (get_or bytes 0 0)))
answers_first old new [] some took = absurd (omega (arith, some))
answers_first old new (b ∷ bytes) some took =
    record { before = took.before; final = λ ending is. cc; some = took.some; some_given = took.some_given }

-- a byte ahead is taken, if one is
pub takes_ready : {E : Type 0} (tapes : Tape → Type 0) (kept before after : Unread E) → kept ≡ before → is_none_ahead kept.input.ahead ≡ false
    → (byte : Option ℕ) → IfSome byte (λ b. (a : Answer) → (ShowsByte b, after) ≡ taking a before)
    → IfSome byte (λ b. Takes tapes tapes before after (ShowsByte b))
takes_ready tapes kept before after is some None taken = tt
takes_ready tapes kept before after is some (Some b) taken = takes_ahead tapes kept before after is (ShowsByte b) some taken

module _ {E : Type 0} (tapes : Tape → Type 0) (kept before : Unread E) (is : kept ≡ before) where
  -- what stands ahead is seen
  pub looks_ahead : (sight : Sighted) → seen_ahead kept.input.ahead ≡ Some sight → Looks tapes tapes before before sight
  looks_ahead sight seen = record {
    answer = Ends Ended;
    asked = unasked_by tapes (Ends Ended) (asks_to_look before) (ap asks_to_look (sym is) ∙ ap (λ s. is_none s && is_nothing kept.looked) seen);
    seen = ap (λ s. looking_past s (Ends Ended) before) (sym (ap (λ (u : Unread E). seen_ahead u.input.ahead) (sym is) ∙ seen));
  }

  module _ (looked : Looked) (none : seen_ahead kept.input.ahead ≡ None) (is_looked : kept.looked ≡ looked) where
    -- the byte that was looked at is that of the input
    same_looked : before.looked ≡ looked
    same_looked = ap (λ (u : Unread E). u.looked) (sym is) ∙ is_looked

    -- what is seen where nothing is ahead
    seen_by : (a : Answer) → looking a before ≡ looking_at (answer_behind looked a) before
    seen_by a =
        looking_none (seen_ahead before.input.ahead) a before (ap (λ (u : Unread E). seen_ahead u.input.ahead) (sym is) ∙ none)
        ∙ ap (λ o. looking_at (answer_behind o a) before) same_looked

    asks_sight : asks_to_look before ≡ is_nothing looked
    asks_sight = ap asks_to_look (sym is) ∙ ap (λ s. is_none s && is_nothing kept.looked) none ∙ ap is_nothing is_looked

  -- the byte that was looked at is seen
  pub looks_looked : (b : ℕ) → seen_ahead kept.input.ahead ≡ None → kept.looked ≡ Byte b → Looks tapes tapes before before (SeesByte b)
  looks_looked b none looked = record {
    answer = Ends Ended;
    asked = unasked_by tapes (Ends Ended) (asks_to_look before) (asks_sight (Byte b) none looked);
    seen = ap (λ o. (SeesByte b, record before { looked = o })) (same_looked (Byte b) none looked) ∙ sym (seen_by (Byte b) none looked (Ends Ended));
  }

  -- where nothing more is taken of the source, its end is seen
  pub looks_closed : (byte : Option ℕ) → seen_ahead kept.input.ahead ≡ None → kept.looked ≡ Closed byte → Looks tapes tapes before before (SeesEnding Ended)
  looks_closed byte none looked = record {
    answer = Ends Ended;
    asked = unasked_by tapes (Ends Ended) (asks_to_look before) (asks_sight (Closed byte) none looked);
    seen = sym (seen_by (Closed byte) none looked (Ends Ended));
  }

  -- the source is asked
  pub looks_asked : (after : Unread E) (sight : Sighted) (new : Tape → Type 0) (a : Answer) → seen_ahead kept.input.ahead ≡ None → kept.looked ≡ Nothing
      → Answers tapes new a → (sight, after) ≡ looking_at a before → Looks tapes new before after sight
  looks_asked after sight new a none looked answers seen = record {
    answer = a;
    asked = asked_by tapes new a (asks_to_look before) (asks_sight Nothing none looked) answers;
    seen = seen ∙ sym (seen_by Nothing none looked a);
  }

module _ {E : Type 0} where
  -- nothing of the source's own is seen ahead
  pub no_note_ahead : (items : List (Ahead E)) (m : List ℕ) → seen_ahead items ≡ Some (SeesNote m) → ⊥
  no_note_ahead [] m seen = cc
  no_note_ahead (ByteAhead b ∷ items) m seen = cc
  no_note_ahead (FreeAhead b ∷ items) m seen = cc
  no_note_ahead (EndAhead ∷ items) m seen = no_note_ahead items m seen
  no_note_ahead (ReturnAhead back ∷ items) m seen = no_note_ahead items m seen
  no_note_ahead (DoAhead event ∷ items) m seen = cc

  pub no_ending_ahead : (items : List (Ahead E)) (e : Ending) → seen_ahead items ≡ Some (SeesEnding e) → ⊥
  no_ending_ahead [] e seen = cc
  no_ending_ahead (ByteAhead b ∷ items) e seen = cc
  no_ending_ahead (FreeAhead b ∷ items) e seen = cc
  no_ending_ahead (EndAhead ∷ items) e seen = no_ending_ahead items e seen
  no_ending_ahead (ReturnAhead back ∷ items) e seen = no_ending_ahead items e seen
  no_ending_ahead (DoAhead event ∷ items) e seen = cc
