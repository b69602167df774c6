-- What may be given behind each turn, over what the input may give.
use Rattle.std.proofs.Common.{◌≡◌, ℕ, List, [], ◌∷◌, Option, Some, None, length, nat_lt, subst, refl, sym, ap, ◌∙◌, Bool, true, false}
use Rattle.roff_num.specs.declared.limit.Limit.{Limit}
use Rattle.input_source.specs.Tape.{Item, OneByte, Ending, Ended, Failed, Stopped, Tape, Answer, Answers, Gives, Ends, only, items_then, answer_then}
use Rattle.tbl_format.specs.declared.limits.TblLimits.{TblLimits}
use Rattle.tbl_core.specs.declared.place.Count.{Count}
use Rattle.tbl_core.specs.Lines.{is_name}
use Rattle.tbl_core.specs.Machine.{Now, Outside, RestOfStart, Inside, Standing, Reads, Over, Step, take, at_rest, standing_behind, passes_table, inside_ended, end_at, Place}
use Rattle.tbl_table.specs.Reading.{Reading, bytes_read, limit_at_end}
use Rattle.tbl_core.specs.Yields.{MayGive, Continues, behind_step, at_ending, ended_by, yields, yields_from}

-- the same answer, the same ending
ends_same : (a b : Ending) → Ends a ≡ Ends b → a ≡ b
ends_same a b same = cc

-- behind turns that gave nothing, an answer is one to the tapes before them
pub answers_behind : (old mid new : Tape → Type 0) (a : Answer) → Continues old mid → Answers mid new a → Answers old new a
answers_behind old mid new a goes_on answers = record {
  before = λ t given. goes_on (answer_then a t) (answers.before t given);
  final = answers.final;
  some = answers.some;
  some_given = answers.some_given;
}

module _ (l : TblLimits) (line_length : ℕ) where
  -- what is pending is given first
  pub pending_given : (item : Item) (rest : List Item) (s : Standing) (inner : Tape → Type 0) (some : Tape) → inner some
      → Answers (MayGive l line_length (record { pending = item ∷ rest; standing = s }) inner) (MayGive l line_length (record { pending = rest; standing = s }) inner) (Gives item)
  pending_given item rest s inner some given = record {
    before = λ t gives. record { under = gives.under; given = gives.given; is = ap (λ (u : Tape). answer_then (Gives item) u) gives.is };
    final = λ e ends. cc;
    some = yields l line_length (record { pending = rest; standing = s }) some;
    some_given = record { under = some; given = given; is = refl };
  }

  -- a byte of the input
  pub byte_taken : (old new : Tape → Type 0) (b : ℕ) (now : Now) → Answers old new (Gives (OneByte b))
      → Continues (MayGive l line_length (record { pending = []; standing = Reads now }) old) (MayGive l line_length (behind_step (take l line_length b now)) new)
  byte_taken old new b now answers = λ t gives.
      record { under = answer_then (Gives (OneByte b)) gives.under; given = answers.before gives.under gives.given; is = gives.is }

  -- at rest an ending gives itself alone
  rest_ends : (e : Ending) (count : Count) → yields_from l line_length (Reads (at_rest count)) [] e ≡ only e
  rest_ends Ended count = refl
  rest_ends Failed count = refl
  rest_ends (Stopped limit) count = refl

  -- so does each way to stand behind one
  limit_ends : (limit : Option Limit) (e : Ending) (count : Count)
      → yields_from l line_length (standing_behind limit (at_rest count)) [] e ≡ ended_by e (standing_behind limit (at_rest count))
  limit_ends None e count = rest_ends e count
  limit_ends (Some limit) e count = refl

  passed_ends : (over : Bool) (e : Ending) (count : Count) (r : Reading)
      → yields_from l line_length (passes_table over l count r).behind [] e ≡ ended_by e (passes_table over l count r).behind
  passed_ends true e count r = refl
  passed_ends false e count r = rest_ends e count

  inside_ends : (name : Bool) (count : Count) (r : Reading)
      → yields_from l line_length (inside_ended name l line_length count r).behind [] Ended ≡ ended_by Ended (inside_ended name l line_length count r).behind
  inside_ends true count r = limit_ends (limit_at_end l line_length r.table) Ended count
  inside_ends false count r = passed_ends (nat_lt l.text (length (bytes_read r))) Ended count r

  end_ends : (count : Count) (place : Place)
      → yields_from l line_length (end_at l line_length count place).behind [] Ended ≡ ended_by Ended (end_at l line_length count place).behind
  end_ends count (Outside front) = rest_ends Ended count
  end_ends count RestOfStart = rest_ends Ended count
  end_ends count (Inside front r) = inside_ends (is_name front) count r

  pub ending_ends : (e : Ending) (now : Now)
      → yields_from l line_length (at_ending l line_length e now).behind [] e ≡ ended_by e (at_ending l line_length e now).behind
  ending_ends Ended now = end_ends now.count now.place
  ending_ends Failed now = rest_ends Failed now.count
  ending_ends (Stopped limit) now = rest_ends (Stopped limit) now.count

  -- an ending of the input
  pub ending_taken : (old new : Tape → Type 0) (e : Ending) (now : Now) → Answers old new (Ends e)
      → Continues (MayGive l line_length (record { pending = []; standing = Reads now }) old) (MayGive l line_length (behind_step (at_ending l line_length e now)) new)
  ending_taken old new e now answers = λ t gives.
      record {
        under = only e;
        given = answers.before gives.under gives.given;
        is = gives.is
            ∙ ap (λ (u : Tape). items_then (at_ending l line_length e now).out (yields_from l line_length (at_ending l line_length e now).behind u.items u.ending))
            (answers.final e refl gives.under gives.given)
            ∙ ap (items_then (at_ending l line_length e now).out) (ending_ends e now);
      }

  -- an ending that gives nothing but itself
  pub ending_given : (old new : Tape → Type 0) (e : Ending) (now behind : Now) → Answers old new (Ends e)
      → at_ending l line_length e now ≡ record { out = []; behind = Reads behind }
      → Answers (MayGive l line_length (record { pending = []; standing = Reads now }) old) (MayGive l line_length (record { pending = []; standing = Reads behind }) new) (Ends e)
  ending_given old new e now behind answers is =
      let rests : yields_from l line_length (Reads behind) [] e ≡ only e =
      subst (λ (s : Step). yields_from l line_length s.behind [] e ≡ ended_by e s.behind) is (ending_ends e now) in
      record {
        before = λ t gives. record {
          under = only e;
          given = answers.before gives.under gives.given;
          is = sym (ap (λ (s : Step). items_then s.out (ended_by e s.behind)) is);
        };
        final = λ other ends t gives. gives.is
            ∙ ap (λ (u : Tape). yields_from l line_length (Reads behind) u.items u.ending) (answers.final e refl gives.under gives.given)
            ∙ rests ∙ ap only (ends_same e other ends);
        some = yields l line_length (record { pending = []; standing = Reads behind }) answers.some;
        some_given = record { under = answers.some; given = answers.some_given; is = refl };
      }

  -- a limit's stop is given again and again
  pub limit_given : (limit : Limit) (line : ℕ) (inner : Tape → Type 0) (some : Tape) → inner some
      → Answers (MayGive l line_length (record { pending = []; standing = Over limit line }) inner) (MayGive l line_length (record { pending = []; standing = Over limit line }) inner) (Ends (Stopped limit))
  limit_given limit line inner some given = record {
    before = λ t gives. record { under = gives.under; given = gives.given; is = refl };
    final = λ e ends t gives. gives.is ∙ ap only (ends_same (Stopped limit) e ends);
    some = only (Stopped limit);
    some_given = record { under = some; given = given; is = refl };
  }
