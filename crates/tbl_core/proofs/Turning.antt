-- A turn of a source over its inner one, by what the inner one answers.
use Rattle.std.proofs.Common.{◌≡◌, ℕ, Bool, true, List, [], ◌∷◌, ◌++◌, Option, Some, None, refl, sym, ap, ◌∙◌, subst, IfSome, unwrap_or}
use Rattle.std.specs.Option.{MatchOption}
use Rattle.roff_num.specs.declared.limit.Limit.{Limit}
use Rattle.input_source.specs.declared.source.Taken.{Taken}
use Rattle.input_source.specs.Tape.{Item, OneByte, Ending, Stopped, Tape, Answers, Gives, Ends, answer_of}
use Rattle.tbl_format.specs.declared.limits.TblLimits.{TblLimits}
use Rattle.tbl_core.specs.Machine.{Now, Standing, Reads, Over, Step}
use Rattle.tbl_core.specs.Source.{IsAlive, NotAsked, WasAsked}
use Rattle.tbl_core.specs.Tables.{TablesState, IsGiven, byte_step, ending_step, handed, stopped_by}
use Rattle.tbl_core.specs.Yields.{At, Continues, MayGive, at_ending, at_start, behind_step}
use Rattle.tbl_core.proofs.Giving.{answers_behind, byte_taken, ending_given, ending_taken, limit_given, pending_given}
use Rattle.tbl_core.proofs.Quiet.{ReadsAt, quiet_ending}

-- what may be given by the fields of a state
pub at_of : (at : At) (pending : List Item) (s : Standing) → at.pending ≡ pending → at.standing ≡ s → at ≡ record { pending = pending; standing = s }
at_of at pending s is_pending is_standing =
    ap (λ (items : List Item). record { pending = items; standing = at.standing }) is_pending
    ∙ ap (λ (standing : Standing). record { pending = pending; standing = standing }) is_standing

-- the next byte: nothing was given
pub byte_silent : (l : TblLimits) (line_length b : ℕ) (pending : List Item) (s : Standing) (old new : Tape → Type 0)
    → pending ≡ [] → stopped_by s ≡ None → Answers old new (Gives (OneByte b)) → (at : At)
    → at.pending ≡ (byte_step l line_length b s).out → at.standing ≡ (byte_step l line_length b s).behind
    → Continues (MayGive l line_length (record { pending = pending; standing = s }) old) (MayGive l line_length at new)
byte_silent l line_length b [] (Reads now) old new none reads answers at out behind =
    subst (λ (here : At). Continues (MayGive l line_length (record { pending = []; standing = Reads now }) old) (MayGive l line_length here new))
    (sym (at_of at _ _ out behind)) (byte_taken l line_length old new b now answers)
byte_silent l line_length b [] (Over limit line) old new none reads answers at out behind = cc
byte_silent l line_length b (item ∷ items) s old new none reads answers at out behind = cc

-- the same of whole states, with the byte that is handed out
pub byte_goes_on : (old new : TablesState) (b : ℕ) (inner behind : Tape → Type 0) (given : Option ℕ)
    → old.at.pending ≡ [] → stopped_by old.at.standing ≡ None → Answers inner behind (Gives (OneByte b))
    → handed given ++ new.at.pending ≡ (byte_step old.limits old.line_length b old.at.standing).out
    → new.at.standing ≡ (byte_step old.limits old.line_length b old.at.standing).behind → new.limits ≡ old.limits → new.line_length ≡ old.line_length
    → Continues (MayGive old.limits old.line_length old.at inner)
    (MayGive new.limits new.line_length (record { pending = handed given ++ new.at.pending; standing = new.at.standing }) behind)
byte_goes_on old new b inner behind given none reads answers out is limits line_length =
    rw (limits, line_length) (byte_silent old.limits old.line_length b old.at.pending old.at.standing inner behind none reads answers
    (record { pending = handed given ++ new.at.pending; standing = new.at.standing }) out is)

-- the first of what is given behind turns that gave nothing
pub first_given : (start inner : Tape → Type 0) (some : Tape) → inner some → (l : TblLimits) (line_length : ℕ) (item : Item) (at : At)
    → Continues start (MayGive l line_length (record { pending = item ∷ at.pending; standing = at.standing }) inner)
    → Answers start (MayGive l line_length at inner) (Gives item)
first_given start inner some given l line_length item at goes_on =
    answers_behind start _ (MayGive l line_length at inner) (Gives item) goes_on (pending_given l line_length item at.pending at.standing inner some given)

-- the same of what a call gives, if it does
pub next_given : (start inner : Tape → Type 0) (some : Tape) → inner some → (old new : TablesState) (taken : Taken) → IsGiven old new taken
    → Continues start (MayGive old.limits old.line_length old.at inner) → Answers start (MayGive new.limits new.line_length new.at inner) (answer_of taken)
next_given start inner some given old new taken is goes_on =
    rw is.answer (first_given start inner some given new.limits new.line_length is.item new.at
    (subst (λ (t : TablesState). Continues start (MayGive t.limits t.line_length t.at inner)) is.is goes_on))

pub may_be_given : (start inner : Tape → Type 0) (some : Tape) → inner some → (old new : TablesState) (taken : Option Taken)
    → MatchOption taken ((old.at.pending ≡ []) × (new ≡ old)) (λ t. IsGiven old new t)
    → Continues start (MayGive old.limits old.line_length old.at inner)
    → IfSome taken (λ t. Answers start (MayGive new.limits new.line_length new.at inner) (answer_of t))
may_be_given start inner some given old new None is goes_on = tt
may_be_given start inner some given old new (Some taken) is goes_on = next_given start inner some given old new taken is goes_on

-- where the run reads on, it stands so
pub reads_now : (taken : ℕ) (s : Standing) → ReadsAt taken s → (now : Now) × (s ≡ Reads now)
reads_now taken (Reads now) is = (now, refl)
reads_now taken (Over limit line) is = absurd is

-- an ending: what is pending behind it is given first, or else it is
pub ending_next : (l : TblLimits) (line_length : ℕ) (e : Ending) (pending : List Item) (s : Standing) (inner behind : Tape → Type 0)
    → pending ≡ [] → stopped_by s ≡ None → Answers inner behind (Ends e) → (old new : TablesState) (taken : Option Taken) (last : Taken)
    → old ≡ record { limits = l; line_length = line_length; at = behind_step (ending_step l line_length e s) }
    → MatchOption taken ((old.at.pending ≡ []) × (new ≡ old)) (λ t. IsGiven old new t) → answer_of last ≡ Ends e
    → Answers (MayGive l line_length (record { pending = pending; standing = s }) inner) (MayGive new.limits new.line_length new.at behind) (answer_of (unwrap_or taken last))
ending_next l line_length e [] (Reads now) inner behind none reads answers old new (Some taken) last is given ends =
    next_given (MayGive l line_length (record { pending = []; standing = Reads now }) inner) behind answers.some answers.some_given old new taken given
    (subst (λ (t : TablesState). Continues (MayGive l line_length (record { pending = []; standing = Reads now }) inner) (MayGive t.limits t.line_length t.at behind)) (sym is) (ending_taken l line_length inner behind e now answers))
ending_next l line_length e [] (Reads now) inner behind none reads answers old new None last is given ends =
    let step = at_ending l line_length e now in
    let empty : step.out ≡ [] = ap (λ (t : TablesState). t.at.pending) (sym is) ∙ given.0 in
    let on = reads_now now.count.taken step.behind (quiet_ending l line_length e now empty) in
    let step_is : step ≡ record { out = []; behind = Reads on.0 } =
    ap (λ (items : List Item). record { out = items; behind = step.behind }) empty ∙ ap (λ (s : Standing). record { out = []; behind = s }) on.1 in
    let here : new ≡ record { limits = l; line_length = line_length; at = record { pending = []; standing = Reads on.0 } } =
    given.1 ∙ is ∙ ap (λ (s : Step). record { limits = l; line_length = line_length; at = behind_step s }) step_is in
    rw ends (subst (λ (t : TablesState). Answers (MayGive l line_length (record { pending = []; standing = Reads now }) inner) (MayGive t.limits t.line_length t.at behind) (Ends e))
    (sym here) (ending_given l line_length inner behind e now on.0 answers step_is))
ending_next l line_length e [] (Over limit line) inner behind none reads answers old new taken last is given ends = cc
ending_next l line_length e (item ∷ items) s inner behind none reads answers old new taken last is given ends = cc

-- something was pending: so the inner source was asked before
pub alive_then : (inner : Tape → Type 0) (old new : TablesState) (item : Item)
    → old ≡ record { limits = new.limits; line_length = new.line_length; at = record { pending = item ∷ new.at.pending; standing = new.at.standing } }
    → IsAlive inner old.at → (some : Tape) × inner some
alive_then inner old new item is (WasAsked some given) = (some, given)
alive_then inner old new item is (NotAsked fresh) =
    let wrong : item ∷ new.at.pending ≡ [] = ap (λ (t : TablesState). t.at.pending) (sym is) ∙ ap (λ (at : At). at.pending) fresh in
    cc

pub alive_given : (inner : Tape → Type 0) (old new : TablesState) (taken : Taken) → IsGiven old new taken → IsAlive inner old.at → IsAlive inner new.at
alive_given inner old new taken given alive = let some = alive_then inner old new given.item given.is alive in WasAsked some.0 some.1

-- so it wasn't known that nothing is
pub idle_given : (old new : TablesState) (taken : Taken) (idle : Bool) → IsGiven old new taken → (idle ≡ true → old.at.pending ≡ []) → idle ≡ true → new.at.pending ≡ []
idle_given old new taken idle given idles is =
    let wrong : given.item ∷ new.at.pending ≡ [] = ap (λ (t : TablesState). t.at.pending) (sym given.is) ∙ idles is in
    cc

-- what was pending is given
pub given_now : (inner : Tape → Type 0) (old new : TablesState) (taken : Taken) → IsGiven old new taken → IsAlive inner old.at
    → Answers (MayGive old.limits old.line_length old.at inner) (MayGive new.limits new.line_length new.at inner) (answer_of taken)
given_now inner old new taken given alive =
    let some = alive_then inner old new given.item given.is alive in
    next_given (MayGive old.limits old.line_length old.at inner) inner some.0 some.1 old new taken given (λ t gives. gives)

-- and where a limit has stopped the run, its stop
pub alive_stopped : (inner : Tape → Type 0) (pending : List Item) (s : Standing) (limit : Limit) (line : ℕ) → s ≡ Over limit line
    → IsAlive inner (record { pending = pending; standing = s }) → (some : Tape) × inner some
alive_stopped inner pending s limit line is (WasAsked some given) = (some, given)
alive_stopped inner pending s limit line is (NotAsked fresh) =
    let wrong : Over limit line ≡ at_start.standing = sym is ∙ ap (λ (at : At). at.standing) fresh in
    cc

pub stop_given : (l : TblLimits) (line_length : ℕ) (inner : Tape → Type 0) (pending : List Item) (s : Standing) (limit : Limit)
    → pending ≡ [] → stopped_by s ≡ Some limit → IsAlive inner (record { pending = pending; standing = s })
    → Answers (MayGive l line_length (record { pending = pending; standing = s }) inner) (MayGive l line_length (record { pending = pending; standing = s }) inner) (Ends (Stopped limit))
stop_given l line_length inner [] (Reads now) limit none stopped alive = cc
stop_given l line_length inner [] (Over other line) limit none stopped alive =
    let same : other ≡ limit = cc in
    let some = alive_stopped inner [] (Over other line) other line refl alive in
    rw same (limit_given l line_length limit line inner some.0 some.1)
stop_given l line_length inner (item ∷ items) s limit none stopped alive = cc
