-- Bytes that stand ready: they are given one after another as the inner source gives them.
use Rattle.std.specs.List.{prefix_len, take_while}
use Rattle.std.proofs.lemmas.Bool.Decides.{nat_tests}
use Rattle.input_source.specs.Tape.{Item, OneByte, Ending, Tape, Took, items_then, Answers, Gives}
use Rattle.input_source.proofs.PlainBytes.{take_while-plain}
use Rattle.roff_num.specs.declared.limit.Limit.TheVariants.{TblBytes}
use Rattle.tbl_format.specs.declared.limits.TblLimits.{TblLimits}
use Rattle.tbl_core.specs.declared.place.Count.{Count}
use Rattle.tbl_core.specs.declared.place.Front.{Front}
use Rattle.tbl_core.specs.Lines.{counted, ends_name, front_behind, is_name, line_counted, next_line, start_letter}
use Rattle.tbl_core.specs.Machine.{Now, Place, Outside, RestOfStart, Inside, Standing, Reads, Over, Step, on_start_line, passes, stops, take as taken, take_at}
use Rattle.tbl_core.specs.Passing.{DoPass, StaysOutside, before_table, front_over, is_of_line, most_looked_at, passed, passes_next, passing, passing_in}
use Rattle.tbl_core.specs.Tables.{IsByteGiven, IsGiven, TablesState, stopped_by}
use Rattle.tbl_core.specs.NotesLeft.{noted}
use Rattle.std.proofs.Common.{Option, Some, IfSome, ◌≡◌, ◌&&◌, ℕ, ◌+◌, ◌-◌, ◌≤◌, ◌<◌, min, nat_le, Bool, true, false, if◌then◌else◌, List, [], ◌∷◌, ◌++◌, None, length, map, take, refl, sym, ap, ◌∙◌, subst, arith, length-take, take-take, length-take-le}
use Rattle.std.specs.Option.{MatchOption}
use Rattle.tbl_core.specs.Source.{IsAlive, IsSourced}
use Rattle.tbl_core.proofs.Turning.{alive_given, given_now, idle_given}
use Rattle.input_source.specs.declared.source.Taken.TheVariants.{Byte}
use Rattle.tbl_core.specs.Yields.{At, MayGive, yields, yields_from}
use Rattle.tbl_core.proofs.Answering.{pending_takes}
use Rattle.tbl_core.proofs.Passing.{before-few, before-first, before-stays}
use Rattle.tbl_core.specs.Stages.{Takes}

-- what is known to pass, by where the run stands: these bytes do, and they are the first
pub record ArePassed (l : TblLimits) (s : Standing) (known bytes : List ℕ) (n : ℕ) : Type 0 where
  pub do_pass : DoPass l s (take n bytes)
  pub first : take n known ≡ take n bytes
  pub few : n ≤ length bytes

pub line-few : (most : ℕ) (bytes : List ℕ) → length (take_while is_of_line (take most bytes)) ≤ length (take most bytes)
line-few most bytes =
    let all = length-take (prefix_len is_of_line (take most bytes)) (take most bytes) in
    omega (arith, all)

-- the line as far as it is looked at
abbrev line_at : TblLimits → Count → List ℕ → List ℕ
line_at l count bytes = take_while is_of_line (take (min most_looked_at (l.bytes - count.taken)) bytes)

pub passed-within : (l : TblLimits) (count : Count) (front : Front) (bytes : List ℕ) (n : ℕ)
    → n ≤ length (before_table front (line_at l count bytes))
    → (n ≤ l.bytes - count.taken) × (n ≤ length bytes) × (n ≤ length (line_at l count bytes))
passed-within l count front bytes n few =
    let most = min most_looked_at (l.bytes - count.taken) in
    let line = line_at l count bytes in
    let in_line = before-few front line in
    let in_text = line-few most bytes in
    let in_most = length-take most bytes in
    (omega (arith, few, in_line, in_text, in_most), omega (arith, few, in_line, in_text, in_most), omega (arith, few, in_line))

passing_passes : (l : TblLimits) (count : Count) (place : Place) (bytes : List ℕ) (n : ℕ)
    → 1 ≤ n → n ≤ length (passing_in l count place bytes)
    → ArePassed l (Reads (record { count = count; place = place })) (passing_in l count place bytes) bytes n
passing_passes l count (Outside front) bytes n some few =
    let most = min most_looked_at (l.bytes - count.taken) in
    let text = take most bytes in
    let len = prefix_len is_of_line text in
    let line = take_while is_of_line text in
    let within = passed-within l count front bytes n few in
    let in_line = length-take len text in
    let in_text = length-take most bytes in
    let first : take n (before_table front line) ≡ take n bytes =
    before-first front line n few ∙ take-take n len text (omega (arith, within.2, in_line))
    ∙ take-take n most bytes (omega (arith, within.2, in_line, in_text)) in
    let length_is = length-take-le n bytes within.1 in
    record {
      do_pass = record {
        count = count;
        front = front;
        is = refl;
        stays = subst (StaysOutside front) first (before-stays front line n (take_while-plain is_of_line text));
        some = omega (arith, some, length_is);
        within = omega (arith, some, within.0, length_is);
      };
      first = first;
      few = within.1;
    }
passing_passes l count RestOfStart bytes n some few = absurd (omega (arith, some, few))
passing_passes l count (Inside front r) bytes n some few = absurd (omega (arith, some, few))

standing_passes : (l : TblLimits) (s : Standing) (bytes : List ℕ) (n : ℕ) → 1 ≤ n → n ≤ length (passing l s bytes)
    → ArePassed l s (passing l s bytes) bytes n
standing_passes l (Reads now) bytes n some few = passing_passes l now.count now.place bytes n some few
standing_passes l (Over limit line) bytes n some few = absurd (omega (arith, some, few))

-- the same where it is known that nothing is pending
pub ready_passes : (idle : Bool) (l : TblLimits) (s : Standing) (bytes : List ℕ) (n : ℕ)
    → 1 ≤ n → n ≤ length (if idle then passing l s bytes else [])
    → ArePassed l s (if idle then passing l s bytes else []) bytes n
ready_passes true l s bytes n some few = standing_passes l s bytes n some few
ready_passes false l s bytes n some few = absurd (omega (arith, some, few))

pub ready_idle : (idle : Bool) (known : List ℕ) (n : ℕ) → 1 ≤ n → n ≤ length (if idle then known else []) → idle ≡ true
ready_idle true known n some few = refl
ready_idle false known n some few = absurd (omega (arith, some, few))

-- outside tables
abbrev outside_now : Count → Front → Now
outside_now count front = record { count = count; place = Outside front }

-- a byte was taken there
abbrev behind_byte : ℕ → Count → Front → Now
behind_byte b count front = outside_now (counted b count) (front_behind start_letter front b)

-- so many of a line were
abbrev behind_line : List ℕ → Count → Front → Now
behind_line bytes count front = outside_now (line_counted (length bytes) count) (front_over front bytes)

-- nothing is pending there
abbrev idle_at : Standing → At
idle_at s = record { pending = []; standing = s }

module _ (l : TblLimits) (line_length : ℕ) where
  -- a byte outside passes
  outside_step : (b : ℕ) (count : Count) (front : Front) → count.taken < l.bytes → (is_name front && ends_name b) ≡ false
      → taken l line_length b (outside_now count front) ≡ passes b (behind_byte b count front)
  outside_step b count front room on =
      let more : nat_le l.bytes count.taken ≡ false = grind (arith, nat_tests, room) in
      let behind = front_behind start_letter front b in
      ap (λ (t : Bool). if t then stops l TblBytes count.line [] else take_at l line_length b (counted b count) (Outside front)) more
      ∙ ap (λ (t : Bool). passes b (record { count = counted b count; place = if t then on_start_line b else Outside behind })) on

  -- so many of a line
  outside_given : (bytes : List ℕ) (count : Count) (front : Front) (items : List Item) (e : Ending)
      → StaysOutside front bytes → count.taken + length bytes ≤ l.bytes → 1 ≤ length bytes
      → yields_from l line_length (Reads (outside_now count front)) (map OneByte bytes ++ items) e
      ≡ items_then (map OneByte bytes) (yields_from l line_length (Reads (behind_line bytes count front)) items e)
  outside_given [] count front items e stays room some = absurd (omega (arith, some))
  outside_given (b ∷ []) count front items e stays room some =
      let behind : Bool → Now = λ t.
      outside_now (record { taken = count.taken + 1; line = next_line count; ended = t })
      (front_behind start_letter front b) in
      ap (λ (s : Step). items_then s.out (yields_from l line_length s.behind items e))
      (outside_step b count front (omega (arith, room)) stays.1)
      ∙ ap (λ (t : Bool). items_then (OneByte b ∷ []) (yields_from l line_length (Reads (behind t)) items e)) stays.0
  outside_given (b ∷ c ∷ bytes) count front items e stays room some =
      let more = c ∷ bytes in
      let one = counted b count in
      let line : Bool → ℕ = λ t. if t then next_line count + 1 else next_line count in
      let counts : line_counted (length more) one ≡ line_counted (length (b ∷ more)) count =
      ap (λ (n : ℕ). record { taken = n; line = next_line one; ended = false }) (omega arith)
      ∙ ap (λ (t : Bool). record { taken = count.taken + length (b ∷ more); line = line t; ended = false }) stays.0 in
      let behind : Count → Now = λ n. outside_now n (front_over front (b ∷ more)) in
      ap (λ (s : Step). items_then s.out (yields_from l line_length s.behind (map OneByte more ++ items) e))
      (outside_step b count front (omega (arith, room)) stays.1)
      ∙ ap (items_then (OneByte b ∷ []))
      (outside_given (c ∷ bytes) one (front_behind start_letter front b) items e stays.2 (omega (arith, room)) (omega arith))
      ∙ ap (λ (n : Count). items_then (map OneByte (b ∷ more)) (yields_from l line_length (Reads (behind n)) items e)) counts

  -- bytes of the inner source that pass are given
  took_passed : (count : Count) (front : Front) (bytes : List ℕ) (old new : Tape → Type 0)
      → StaysOutside front bytes → count.taken + length bytes ≤ l.bytes → 1 ≤ length bytes → Took old new (map OneByte bytes)
      → Took (MayGive l line_length (idle_at (Reads (outside_now count front))) old)
      (MayGive l line_length (idle_at (Reads (behind_line bytes count front))) new) (map OneByte bytes)
  took_passed count front bytes old new stays room some took = record {
    before = λ t gives. record {
      under = items_then (map OneByte bytes) gives.under;
      given = took.before gives.under gives.given;
      is = ap (items_then (map OneByte bytes)) gives.is
          ∙ sym (outside_given bytes count front gives.under.items gives.under.ending stays room some);
    };
    some = yields l line_length (idle_at (Reads (behind_line bytes count front))) took.some;
    some_given = record { under = took.some; given = took.some_given; is = refl };
  }

  took_standing : (pending : List Item) (s : Standing) (bytes : List ℕ) (old new : Tape → Type 0)
      → pending ≡ [] → DoPass l s bytes → Took old new (map OneByte bytes)
      → Took (MayGive l line_length (record { pending = pending; standing = s }) old)
      (MayGive l line_length (record { pending = pending; standing = passed bytes s }) new) (map OneByte bytes)
  took_standing pending s bytes old new none known took =
      rw (none, known.is) (took_passed known.count known.front bytes old new known.stays known.within known.some took)

-- behind bytes that pass
abbrev pub behind_passed : List ℕ → TablesState → TablesState
behind_passed bytes t = record t { at = record { pending = t.at.pending; standing = passed bytes t.at.standing } }

-- what whole states may give
abbrev given_by : TablesState → (Tape → Type 0) → Tape → Type 0
given_by t inner = MayGive t.limits t.line_length t.at inner

-- of whole states: they are taken
pub ready_taken : (old behind : TablesState) (known bytes : List ℕ) (inner new : Tape → Type 0)
    → known ≡ bytes → old.at.pending ≡ [] → DoPass old.limits old.at.standing bytes → behind ≡ behind_passed bytes old
    → Took inner new (map OneByte bytes)
    → Took (MayGive old.limits old.line_length old.at inner) (MayGive behind.limits behind.line_length behind.at new) (map OneByte known)
ready_taken old behind known bytes inner new same none do_pass is took =
    rw same (subst (λ (t : TablesState). Took (given_by old inner) (given_by t new) (map OneByte bytes)) (sym is)
    (took_standing old.limits old.line_length old.at.pending old.at.standing bytes inner new none do_pass took))

-- and nothing is pending behind them
pub still_idle : (old behind : TablesState) (bytes : List ℕ) → behind ≡ behind_passed bytes old → old.at.pending ≡ []
    → behind.at.pending ≡ []
still_idle old behind bytes is none = ap (λ (t : TablesState). t.at.pending) is ∙ none

pub still_quiet : (old behind : TablesState) (bytes : List ℕ) → behind ≡ behind_passed bytes old
    → noted old.at.pending ≡ 0 → noted behind.at.pending ≡ 0
still_quiet old behind bytes is none = ap (λ (t : TablesState). noted t.at.pending) is ∙ none

-- a byte that was pending is given, if there is one
byte_was_given : (old new : TablesState) (b : ℕ) → IsByteGiven old new b → IsGiven old new (Byte b)
byte_was_given old new b is = record { item = OneByte b; answer = refl; is = is }

pub sourced_behind : (inner : Tape → Type 0) (old new : TablesState) (idle giving : Bool) (next : Option ℕ)
    → MatchOption next (new ≡ old) (λ b. IsByteGiven old new b) → IsSourced inner old.at idle giving
    → IsSourced inner new.at idle giving
sourced_behind inner old new idle giving None given is =
    subst (λ (t : TablesState). IsSourced inner t.at idle giving) (sym given) is
sourced_behind inner old new idle giving (Some b) given is = record {
  alive = alive_given inner old new (Byte b) (byte_was_given old new b given) is.alive;
  idles = idle_given old new (Byte b) idle (byte_was_given old new b given) is.idles;
  quiet = λ gives. ap (λ (t : TablesState). noted t.at.pending) (sym given) ∙ is.quiet gives;
}

pub byte_answers : (inner : Tape → Type 0) (old new : TablesState) (next : Option ℕ)
    → MatchOption next (new ≡ old) (λ b. IsByteGiven old new b) → IsAlive inner old.at
    → IfSome next (λ b. Answers (MayGive old.limits old.line_length old.at inner) (MayGive new.limits new.line_length new.at inner) (Gives (OneByte b)))
byte_answers inner old new None given alive = tt
byte_answers inner old new (Some b) given alive = given_now inner old new (Byte b) (byte_was_given old new b given) alive

pub byte_takes_now : (inner : Tape → Type 0) (old new : TablesState) (next : Option ℕ)
    → MatchOption next (new ≡ old) (λ b. IsByteGiven old new b) → IsAlive inner old.at
    → IfSome next (λ b. Takes inner inner old.limits old.line_length old.at new.at (Gives (OneByte b)))
byte_takes_now inner old new None given alive = tt
byte_takes_now inner old new (Some b) given alive = pending_takes inner old new (Byte b) (byte_was_given old new b given) alive

-- and the limits and the line length stay
pub byte_limits : (old new : TablesState) (next : Option ℕ) → MatchOption next (new ≡ old) (λ b. IsByteGiven old new b)
    → new.limits ≡ old.limits
byte_limits old new None given = ap (λ (t : TablesState). t.limits) given
byte_limits old new (Some b) given = ap (λ (t : TablesState). t.limits) (sym given)

pub byte_length : (old new : TablesState) (next : Option ℕ) → MatchOption next (new ≡ old) (λ b. IsByteGiven old new b)
    → new.line_length ≡ old.line_length
byte_length old new None given = ap (λ (t : TablesState). t.line_length) given
byte_length old new (Some b) given = ap (λ (t : TablesState). t.line_length) (sym given)

-- where the next byte passes, no limit has stopped the run
pub passes_reads : (l : TblLimits) (s : Standing) → passes_next l s ≡ true → stopped_by s ≡ None
passes_reads l (Reads now) passes = refl
passes_reads l (Over limit line) passes = cc
