-- What is answered, as items of the input are taken.
use Rattle.std.proofs.Common.{◌≡◌, ℕ, List, [], ◌∷◌, ◌++◌, Option, Some, None, refl, sym, ap, ◌∙◌, subst, append_assoc, IfSome, unwrap_or}
use Rattle.std.specs.Option.{MatchOption}
use Rattle.roff_num.specs.declared.limit.Limit.{Limit}
use Rattle.input_source.specs.declared.source.Taken.{Taken}
use Rattle.input_source.specs.Tape.{Item, OneByte, OneNote, Ending, Stopped, Tape, Answer, Answers, Gives, Ends, Took, answer_of, front, items_then, only}
use Rattle.tbl_format.specs.declared.limits.TblLimits.{TblLimits}
use Rattle.tbl_core.specs.Laws.{AnswersAreGiven}
use Rattle.tbl_core.specs.Machine.{Now, Standing, Reads, Over, Step, take}
use Rattle.tbl_core.specs.Source.{IsAlive}
use Rattle.tbl_core.specs.Stages.{Answered, Takes, TakesOn, answered, answered_by, answering, ending_answered}
use Rattle.tbl_core.specs.Tables.{IsGiven, TablesState, byte_step, ending_step, handed, stopped_by}
use Rattle.tbl_core.specs.Yields.{At, at_ending, behind_step, ended_by, yields_from}
use Rattle.tbl_core.proofs.Quiet.{quiet_ending}
use Rattle.tbl_core.proofs.Turning.{alive_stopped, alive_then, at_of, reads_now}

-- items that were taken one after another
both_earlier : (old mid new : Tape → Type 0) (xs ys : List Item) → ((t : Tape) → mid t → old (items_then xs t)) → ((t : Tape) → new t → mid (items_then ys t))
    → (t : Tape) → new t → old (items_then (xs ++ ys) t)
both_earlier old mid new xs ys first second = λ t given.
    subst (λ (items : List Item). old (record { items = items; ending = t.ending })) (sym (append_assoc xs ys t.items))
    (first (items_then ys t) (second t given))

-- nothing was taken
took_none : (gives : Tape → Type 0) (some : Tape) → gives some → Took gives gives []
took_none gives some given = record { before = λ t g. g; some = some; some_given = given }

-- an ending was met
took_ending : (old new : Tape → Type 0) (e : Ending) → Answers old new (Ends e) → Took old new []
took_ending old new e answers = record {
  before = λ t given. subst old (sym (answers.final e refl t given)) (answers.before t given);
  some = answers.some;
  some_given = answers.some_given;
}

module _ (l : TblLimits) (line_length : ℕ) where
  -- at first nothing was taken
  pub takes_none : (gives : Tape → Type 0) (at : At) → TakesOn gives gives l line_length at at
  takes_none gives at = record { taken = []; earlier = λ t given. given; is = λ left given. refl }

  -- more is taken behind what was
  pub takes_more : (old mid new : Tape → Type 0) (a b c : At) → TakesOn old mid l line_length a b → TakesOn mid new l line_length b c
      → TakesOn old new l line_length a c
  takes_more old mid new a b c first second = record {
    taken = first.taken ++ second.taken;
    earlier = both_earlier old mid new first.taken second.taken first.earlier second.earlier;
    is = λ left given.
        ap (λ (items : List Item). answered l line_length (record { tape = record { items = items; ending = left.ending }; at = a })) (append_assoc first.taken second.taken left.items)
        ∙ first.is (items_then second.taken left) (second.earlier left given)
        ∙ second.is left given;
  }

  pub takes_then : (old mid new : Tape → Type 0) (a b c : At) (answer : Answer) → TakesOn old mid l line_length a b → Takes mid new l line_length b c answer
      → Takes old new l line_length a c answer
  takes_then old mid new a b c answer first second = record {
    taken = first.taken ++ second.taken;
    took = record {
      before = both_earlier old mid new first.taken second.taken first.earlier second.took.before;
      some = second.took.some;
      some_given = second.took.some_given;
    };
    is = λ left given.
        ap (λ (items : List Item). answered l line_length (record { tape = record { items = items; ending = left.ending }; at = a })) (append_assoc first.taken second.taken left.items)
        ∙ first.is (items_then second.taken left) (second.took.before left given)
        ∙ second.is left given;
  }

  -- a byte is taken
  takes_byte : (b : ℕ) (pending : List Item) (s : Standing) (old new : Tape → Type 0)
      → pending ≡ [] → stopped_by s ≡ None → Answers old new (Gives (OneByte b)) → (at : At)
      → at.pending ≡ (byte_step l line_length b s).out → at.standing ≡ (byte_step l line_length b s).behind
      → TakesOn old new l line_length (record { pending = pending; standing = s }) at
  takes_byte b [] (Reads now) old new none reads answers at out behind =
      subst (λ (here : At). TakesOn old new l line_length (record { pending = []; standing = Reads now }) here) (sym (at_of at _ _ out behind))
      (record { taken = OneByte b ∷ []; earlier = answers.before; is = λ left given. refl })
  takes_byte b [] (Over limit line) old new none reads answers at out behind = cc
  takes_byte b (item ∷ items) s old new none reads answers at out behind = cc

  -- a message is
  pub takes_note : (message : List ℕ) (pending : List Item) (s : Standing) (old new : Tape → Type 0)
      → pending ≡ [] → stopped_by s ≡ None → Answers old new (Gives (OneNote message))
      → TakesOn old new l line_length (record { pending = pending; standing = s }) (record { pending = pending; standing = s })
  takes_note message [] (Reads now) old new none reads answers =
      record { taken = OneNote message ∷ []; earlier = answers.before; is = λ left given. refl }
  takes_note message [] (Over limit line) old new none reads answers = cc
  takes_note message (item ∷ items) s old new none reads answers = cc

  -- what is pending is given
  takes_item : (gives : Tape → Type 0) (some : Tape) → gives some → (item : Item) (at : At)
      → Takes gives gives l line_length (record { pending = item ∷ at.pending; standing = at.standing }) at (Gives item)
  takes_item gives some given item at = record { taken = []; took = took_none gives some given; is = λ left g. refl }

  -- an ending is met, behind which this is given
  ending_item : (old new : Tape → Type 0) (e : Ending) (now : Now) → Answers old new (Ends e) → (item : Item) (at : At)
      → (at_ending l line_length e now).out ≡ item ∷ at.pending → (at_ending l line_length e now).behind ≡ at.standing
      → Takes old new l line_length (record { pending = []; standing = Reads now }) at (Gives item)
  ending_item old new e now answers item at out behind = record {
    taken = [];
    took = took_ending old new e answers;
    is = λ left given.
        let last : left ≡ only e = answers.final e refl left given in
        ap (λ (t : Tape). answered l line_length (record { tape = t; at = record { pending = []; standing = Reads now } })) last
        ∙ ap (λ (items : List Item). ending_answered e (at_ending l line_length e now).behind items) out
        ∙ ap (λ (s : Standing). answering (Gives item) s at.pending [] e) behind
        ∙ ap (λ (t : Tape). let a : Answered = record { answer = Gives item; stage = record { tape = t; at = at } } in a) (sym last);
  }

  -- or which itself is answered
  ending_alone : (old new : Tape → Type 0) (e : Ending) (now on : Now) → Answers old new (Ends e)
      → (at_ending l line_length e now).out ≡ [] → (at_ending l line_length e now).behind ≡ Reads on
      → Takes old new l line_length (record { pending = []; standing = Reads now }) (record { pending = []; standing = Reads on }) (Ends e)
  ending_alone old new e now on answers out behind = record {
    taken = [];
    took = took_ending old new e answers;
    is = λ left given.
        let last : left ≡ only e = answers.final e refl left given in
        ap (λ (t : Tape). answered l line_length (record { tape = t; at = record { pending = []; standing = Reads now } })) last
        ∙ ap (λ (items : List Item). ending_answered e (at_ending l line_length e now).behind items) out
        ∙ ap (λ (s : Standing). ending_answered e s []) behind
        ∙ ap (λ (t : Tape). let a : Answered = record { answer = Ends e; stage = record { tape = t; at = record { pending = []; standing = Reads on } } } in a) (sym last);
  }

  -- a limit has stopped the run
  takes_stop : (gives : Tape → Type 0) (some : Tape) → gives some → (limit : Limit) (line : ℕ)
      → Takes gives gives l line_length (record { pending = []; standing = Over limit line }) (record { pending = []; standing = Over limit line }) (Ends (Stopped limit))
  takes_stop gives some given limit line = record { taken = []; took = took_none gives some given; is = λ left g. refl }

  -- the answers are those of what is given for the input
  ending_front : (e : Ending) (s : Standing) (out : List Item) → (ending_answered e s out).answer ≡ front (items_then out (ended_by e s))
  ending_front e s (item ∷ out) = refl
  ending_front e (Reads now) [] = refl
  ending_front e (Over limit line) [] = refl

  front_by : (s : Standing) (pending items : List Item) (e : Ending)
      → (answered_by l line_length s pending items e).answer ≡ front (items_then pending (yields_from l line_length s items e))
  front_by s (item ∷ pending) items e = refl
  front_by (Over limit line) [] items e = refl
  front_by (Reads now) [] [] e = ending_front e (at_ending l line_length e now).behind (at_ending l line_length e now).out
  front_by (Reads now) [] (OneByte b ∷ items) e = front_by (take l line_length b now).behind (take l line_length b now).out items e
  front_by (Reads now) [] (OneNote message ∷ items) e = front_by (Reads now) [] items e

pub answers_given : AnswersAreGiven
answers_given l line_length s = front_by l line_length s.at.standing s.at.pending s.tape.items s.tape.ending

-- of whole states: a byte is taken
pub byte_takes : (old new : TablesState) (b : ℕ) (inner behind : Tape → Type 0) (given : Option ℕ)
    → old.at.pending ≡ [] → stopped_by old.at.standing ≡ None → Answers inner behind (Gives (OneByte b))
    → handed given ++ new.at.pending ≡ (byte_step old.limits old.line_length b old.at.standing).out
    → new.at.standing ≡ (byte_step old.limits old.line_length b old.at.standing).behind
    → TakesOn inner behind old.limits old.line_length old.at (record { pending = handed given ++ new.at.pending; standing = new.at.standing })
byte_takes old new b inner behind given none reads answers out is =
    takes_byte old.limits old.line_length b old.at.pending old.at.standing inner behind none reads answers
    (record { pending = handed given ++ new.at.pending; standing = new.at.standing }) out is

-- it is given as it is
pub byte_given : (start inner : Tape → Type 0) (some : Tape) → inner some → (l : TblLimits) (line_length : ℕ) (before at : At) (item : Item)
    → TakesOn start inner l line_length before (record { pending = item ∷ at.pending; standing = at.standing })
    → Takes start inner l line_length before at (Gives item)
byte_given start inner some given l line_length before at item on =
    takes_then l line_length start inner inner before (record { pending = item ∷ at.pending; standing = at.standing }) at (Gives item) on
    (takes_item l line_length inner some given item at)

-- or what is pending behind it is given
given_next : (start inner : Tape → Type 0) (some : Tape) → inner some → (l : TblLimits) (line_length : ℕ) (before : At) (old new : TablesState) (taken : Taken)
    → IsGiven old new taken → TakesOn start inner l line_length before old.at → Takes start inner l line_length before new.at (answer_of taken)
given_next start inner some given l line_length before old new taken is on =
    rw is.answer
    (byte_given start inner some given l line_length before new.at is.item
    (subst (λ (t : TablesState). TakesOn start inner l line_length before t.at) is.is on))

pub may_takes : (start inner : Tape → Type 0) (some : Tape) → inner some → (l : TblLimits) (line_length : ℕ) (before : At) (old new : TablesState) (taken : Option Taken)
    → MatchOption taken ((old.at.pending ≡ []) × (new ≡ old)) (λ t. IsGiven old new t) → TakesOn start inner l line_length before old.at
    → IfSome taken (λ t. Takes start inner l line_length before new.at (answer_of t))
may_takes start inner some given l line_length before old new None is on = tt
may_takes start inner some given l line_length before old new (Some taken) is on = given_next start inner some given l line_length before old new taken is on

-- an ending is met
pub ending_takes : (l : TblLimits) (line_length : ℕ) (e : Ending) (pending : List Item) (s : Standing) (inner behind : Tape → Type 0)
    → pending ≡ [] → stopped_by s ≡ None → Answers inner behind (Ends e) → (old new : TablesState) (taken : Option Taken) (last : Taken)
    → old ≡ record { limits = l; line_length = line_length; at = behind_step (ending_step l line_length e s) }
    → MatchOption taken ((old.at.pending ≡ []) × (new ≡ old)) (λ t. IsGiven old new t) → answer_of last ≡ Ends e
    → Takes inner behind l line_length (record { pending = pending; standing = s }) new.at (answer_of (unwrap_or taken last))
ending_takes l line_length e [] (Reads now) inner behind none reads answers old new (Some taken) last is given ends =
    let step = at_ending l line_length e now in
    let out : step.out ≡ given.item ∷ new.at.pending = ap (λ (t : TablesState). t.at.pending) (sym is ∙ given.is) in
    let on : step.behind ≡ new.at.standing = ap (λ (t : TablesState). t.at.standing) (sym is ∙ given.is) in
    rw given.answer (ending_item l line_length inner behind e now answers given.item new.at out on)
ending_takes l line_length e [] (Reads now) inner behind none reads answers old new None last is given ends =
    let step = at_ending l line_length e now in
    let empty : step.out ≡ [] = ap (λ (t : TablesState). t.at.pending) (sym is) ∙ given.0 in
    let on = reads_now now.count.taken step.behind (quiet_ending l line_length e now empty) in
    let step_is : step ≡ record { out = []; behind = Reads on.0 } =
    ap (λ (items : List Item). record { out = items; behind = step.behind }) empty ∙ ap (λ (s : Standing). record { out = []; behind = s }) on.1 in
    let here : new ≡ record { limits = l; line_length = line_length; at = record { pending = []; standing = Reads on.0 } } =
    given.1 ∙ is ∙ ap (λ (s : Step). record { limits = l; line_length = line_length; at = behind_step s }) step_is in
    rw ends (subst (λ (t : TablesState). Takes inner behind l line_length (record { pending = []; standing = Reads now }) t.at (Ends e)) (sym here)
    (ending_alone l line_length inner behind e now on.0 answers empty on.1))
ending_takes l line_length e [] (Over limit line) inner behind none reads answers old new taken last is given ends = cc
ending_takes l line_length e (item ∷ items) s inner behind none reads answers old new taken last is given ends = cc

-- what was pending is given
pub pending_takes : (inner : Tape → Type 0) (old new : TablesState) (taken : Taken) → IsGiven old new taken → IsAlive inner old.at
    → Takes inner inner old.limits old.line_length old.at new.at (answer_of taken)
pending_takes inner old new taken given alive =
    let some = alive_then inner old new given.item given.is alive in
    given_next inner inner some.0 some.1 old.limits old.line_length old.at old new taken given (takes_none old.limits old.line_length inner old.at)

-- and where a limit has stopped the run, its stop
pub stop_takes : (l : TblLimits) (line_length : ℕ) (inner : Tape → Type 0) (pending : List Item) (s : Standing) (limit : Limit)
    → pending ≡ [] → stopped_by s ≡ Some limit → IsAlive inner (record { pending = pending; standing = s })
    → Takes inner inner l line_length (record { pending = pending; standing = s }) (record { pending = pending; standing = s }) (Ends (Stopped limit))
stop_takes l line_length inner [] (Reads now) limit none stopped alive = cc
stop_takes l line_length inner [] (Over other line) limit none stopped alive =
    let same : other ≡ limit = cc in
    let some = alive_stopped inner [] (Over other line) other line refl alive in
    rw same (takes_stop l line_length inner some.0 some.1 limit line)
stop_takes l line_length inner (item ∷ items) s limit none stopped alive = cc

-- the limits and the line length stay as an item is given
pub limits_given : (old new : TablesState) (taken : Option Taken) → MatchOption taken ((old.at.pending ≡ []) × (new ≡ old)) (λ t. IsGiven old new t)
    → new.limits ≡ old.limits
limits_given old new None given = ap (λ (t : TablesState). t.limits) given.1
limits_given old new (Some taken) given = ap (λ (t : TablesState). t.limits) (sym given.is)

pub length_given : (old new : TablesState) (taken : Option Taken) → MatchOption taken ((old.at.pending ≡ []) × (new ≡ old)) (λ t. IsGiven old new t)
    → new.line_length ≡ old.line_length
length_given old new None given = ap (λ (t : TablesState). t.line_length) given.1
length_given old new (Some taken) given = ap (λ (t : TablesState). t.line_length) (sym given.is)

-- behind turns that answered nothing, under the limits and the line length that stay
pub takes_on_behind : (old mid new : Tape → Type 0) (start before behind : TablesState) → before.limits ≡ start.limits → before.line_length ≡ start.line_length
    → TakesOn old mid start.limits start.line_length start.at before.at → TakesOn mid new before.limits before.line_length before.at behind.at
    → TakesOn old new start.limits start.line_length start.at behind.at
takes_on_behind old mid new start before behind limits line_length first second =
    takes_more start.limits start.line_length old mid new start.at before.at behind.at first
    (subst (λ (n : ℕ). TakesOn mid new start.limits n before.at behind.at) line_length
    (subst (λ (l : TblLimits). TakesOn mid new l before.line_length before.at behind.at) limits second))

pub takes_behind : (old mid new : Tape → Type 0) (start before behind : TablesState) (answer : Answer) → before.limits ≡ start.limits → before.line_length ≡ start.line_length
    → TakesOn old mid start.limits start.line_length start.at before.at → Takes mid new before.limits before.line_length before.at behind.at answer
    → Takes old new start.limits start.line_length start.at behind.at answer
takes_behind old mid new start before behind answer limits line_length first second =
    takes_then start.limits start.line_length old mid new start.at before.at behind.at answer first
    (subst (λ (n : ℕ). Takes mid new start.limits n before.at behind.at answer) line_length
    (subst (λ (l : TblLimits). Takes mid new l before.line_length before.at behind.at answer) limits second))
