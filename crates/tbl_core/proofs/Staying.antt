-- What stood ready behind bytes that were taken stands ready still.
use Rattle.std.proofs.Common.{List, [], ◌∷◌, ◌++◌, Option, Some, None, IfSome, length, take, drop, refl, sym, ap, subst, arith, ◌≡◌, ◌⊎◌, inl, inr, ◌&&◌, ◌∙◌, ℕ, ◌+◌, ◌-◌, ◌<◌, ◌≤◌, min, nat_le, nat_lt, suc, zero, Bool, true, false, if◌then◌else◌, length-append, length-take-le}
use Rattle.std.proofs.Math.Bool.{and-true}
use Rattle.std.specs.List.{take_while}
use Rattle.std.specs.Option.{MatchOption}
use Rattle.std.proofs.lemmas.Bool.Decides.{nat_tests}
use Rattle.std.proofs.lemmas.List.Sums.{take_while-cons}
use Rattle.input_source.specs.Tape.{OneByte, StaysReady}
use Rattle.tbl_format.specs.declared.limits.TblLimits.{TblLimits}
use Rattle.tbl_core.specs.declared.place.Count.{Count}
use Rattle.tbl_core.specs.declared.place.Front.{Front}
use Rattle.tbl_core.specs.Gathered.{bytes_or}
use Rattle.tbl_core.specs.Lines.{counted, ends_name, front_behind, is_name, start_letter}
use Rattle.tbl_core.specs.Machine.{Place, Outside, RestOfStart, Inside, Standing, Reads, Over, on_start_line, stops, take_at}
use Rattle.roff_num.specs.declared.limit.Limit.TheVariants.{TblBytes}
use Rattle.tbl_core.specs.Passing.{before_table, front_over, is_of_line, most_looked_at, passed, passes_next, passing, passing_in}
use Rattle.tbl_core.specs.Tables.{IsByteGiven, TablesState, byte_step}
use Rattle.tbl_core.proofs.GatheredBytes.{bytes-none, bytes-some, cases_list}
use Rattle.tbl_core.proofs.Ready.{behind_passed, passed-within}

-- behind none anything stands ready
pub none_ready : (n : ℕ) (before after : List ℕ) → drop n before ≡ [] → StaysReady n before after
none_ready n before after none = record { more = after; is = ap (λ (front : List ℕ). front ++ after) (sym none) }

-- equal bytes do
stays_same : (n : ℕ) (before known after now : List ℕ) → before ≡ known → after ≡ now → StaysReady n known now → StaysReady n before after
stays_same n before known after now was is stays = record {
  more = stays.more;
  is = is ∙ stays.is ∙ ap (λ (front : List ℕ). drop n front ++ stays.more) (sym was);
}

-- of those of a line one that makes it a `.TS` line, or ends it, is none
abbrev on_line : Bool → Bool → ℕ → List ℕ → List ℕ
on_line within ends b rest = if within then (if ends then [] else b ∷ rest) else []

-- the bytes that pass, of so many that are looked at
abbrev looked : ℕ → Front → List ℕ → List ℕ
looked most front bytes = before_table front (take_while is_of_line (take most bytes))

looked_by : (within : Bool) (front : Front) (b : ℕ) (line : List ℕ)
    → before_table front (if within then b ∷ line else [])
    ≡ on_line within (is_name front && ends_name b) b (before_table (front_behind start_letter front b) line)
looked_by true front b line = refl
looked_by false front b line = refl

looked-cons : (most : ℕ) (front : Front) (b : ℕ) (bytes : List ℕ)
    → looked (suc most) front (b ∷ bytes)
    ≡ on_line (is_of_line b) (is_name front && ends_name b) b (looked most (front_behind start_letter front b) bytes)
looked-cons most front b bytes =
    ap (before_table front) (take_while-cons is_of_line b (take most bytes))
    ∙ looked_by (is_of_line b) front b (take_while is_of_line (take most bytes))

-- where more are looked at, of more bytes, at least as many pass
longer_by : (within ends : Bool) (b : ℕ) (known now : List ℕ) → StaysReady 0 known now
    → StaysReady 0 (on_line within ends b known) (on_line within ends b now)
longer_by true true b known now stays = record { more = []; is = refl }
longer_by true false b known now stays = record { more = stays.more; is = ap (λ (bytes : List ℕ). b ∷ bytes) stays.is }
longer_by false ends b known now stays = record { more = []; is = refl }

looked-longer : (most after : ℕ) (front : Front) (bytes more : List ℕ) → most ≤ after
    → StaysReady 0 (looked most front bytes) (looked after front (bytes ++ more))
looked-longer zero after front bytes more less = none_ready 0 [] (looked after front (bytes ++ more)) refl
looked-longer (suc most) after front [] more less = none_ready 0 [] (looked after front more) refl
looked-longer (suc most) zero front (b ∷ bytes) more less = absurd (omega (arith, less))
looked-longer (suc most) (suc after) front (b ∷ bytes) more less =
    let behind = front_behind start_letter front b in
    stays_same 0 _ _ _ _ (looked-cons most front b bytes) (looked-cons after front b (bytes ++ more))
    (longer_by (is_of_line b) (is_name front && ends_name b) b (looked most behind bytes) (looked after behind (bytes ++ more))
    (looked-longer most after behind bytes more (omega (arith, less))))

-- behind some that pass the rest of them do
behind_by : (within ends : Bool) (b n : ℕ) (known behind : List ℕ) → suc n ≤ length (on_line within ends b known)
    → (n ≤ length known → behind ≡ drop n known) → behind ≡ drop (suc n) (on_line within ends b known)
behind_by true true b n known behind few is = absurd (omega (arith, few))
behind_by true false b n known behind few is = is (omega (arith, few))
behind_by false ends b n known behind few is = absurd (omega (arith, few))

looked-behind : (n most : ℕ) (front : Front) (bytes : List ℕ) → n ≤ length (looked most front bytes)
    → looked (most - n) (front_over front (take n bytes)) (drop n bytes) ≡ drop n (looked most front bytes)
looked-behind zero most front bytes few =
    let same : most - 0 ≡ most = omega arith in
    ap (λ (m : ℕ). looked m front bytes) same
looked-behind (suc n) zero front bytes few = absurd (omega (arith, few))
looked-behind (suc n) (suc most) front [] few = absurd (omega (arith, few))
looked-behind (suc n) (suc most) front (b ∷ bytes) few =
    let behind = front_behind start_letter front b in
    let known = looked most behind bytes in
    let is = looked-cons most front b bytes in
    let fewer : suc most - suc n ≡ most - n = omega arith in
    ap (λ (m : ℕ). looked m (front_over behind (take n bytes)) (drop n bytes)) fewer
    ∙ behind_by (is_of_line b) (is_name front && ends_name b) b n known _
    (subst (λ (front : List ℕ). suc n ≤ length front) is few) (looked-behind n most behind bytes)
    ∙ ap (drop (suc n)) (sym is)

-- so many of them passed: what stands behind them passes still
module _ (l : TblLimits) where
  place_stays : (count : Count) (place : Place) (bytes more : List ℕ) (n : ℕ) → 1 ≤ n → n ≤ length (passing_in l count place bytes)
      → StaysReady n (passing_in l count place bytes)
      (passing l (passed (take n bytes) (Reads (record { count = count; place = place }))) (drop n bytes ++ more))
  place_stays count (Outside front) bytes more n some few =
      let most = min most_looked_at (l.bytes - count.taken) in
      let within = passed-within l count front bytes n few in
      let length_is = length-take-le n bytes within.1 in
      let after = min most_looked_at (l.bytes - (count.taken + length (take n bytes))) in
      let less : most - n ≤ after = omega (arith, length_is) in
      let longer = looked-longer (most - n) after (front_over front (take n bytes)) (drop n bytes) more less in
      record {
        more = longer.more;
        is = longer.is ∙ ap (λ (front : List ℕ). front ++ longer.more) (looked-behind n most front bytes few);
      }
  place_stays count RestOfStart bytes more n some few = absurd (omega (arith, some, few))
  place_stays count (Inside front r) bytes more n some few = absurd (omega (arith, some, few))

  standing_stays : (s : Standing) (bytes after : List ℕ) (n : ℕ) → 1 ≤ n → n ≤ length (passing l s bytes) → StaysReady n bytes after
      → StaysReady n (passing l s bytes) (passing l (passed (take n bytes) s) after)
  standing_stays (Reads now) bytes after n some few stays =
      subst (λ (here : List ℕ). StaysReady n (passing l (Reads now) bytes) (passing l (passed (take n bytes) (Reads now)) here)) (sym stays.is)
      (place_stays now.count now.place bytes stays.more n some few)
  standing_stays (Over limit line) bytes after n some few stays = absurd (omega (arith, some, few))

-- the same of whole states
pub passed_stays : (old new : TablesState) (idle : Bool) (bytes after : List ℕ) (n : ℕ)
    → 1 ≤ n → n ≤ length (if idle then passing old.limits old.at.standing bytes else [])
    → new ≡ behind_passed (take n bytes) old → StaysReady n bytes after
    → StaysReady n (if idle then passing old.limits old.at.standing bytes else []) (if idle then passing new.limits new.at.standing after else [])
passed_stays old new true bytes after n some few is stays =
    subst (λ (t : TablesState). StaysReady n (passing old.limits old.at.standing bytes) (passing t.limits t.at.standing after)) (sym is)
    (standing_stays old.limits old.at.standing bytes after n some few stays)
passed_stays old new false bytes after n some few is stays = absurd (omega (arith, some, few))

-- a byte was taken that passes whatever it is
module _ (l : TblLimits) (line_length b : ℕ) (rest more : List ℕ) where
  step_by : (within ends : Bool) (count : Count) (front : Front) (place : Place) (known : List ℕ)
      → StaysReady 0 known (passing_in l count (Outside front) (rest ++ more))
      → StaysReady 1 (on_line within ends b known) (passing_in l count (if ends then place else Outside front) (rest ++ more))
  step_by true true count front place known stays = none_ready 1 [] _ refl
  step_by true false count front place known stays = record { more = stays.more; is = stays.is }
  step_by false ends count front place known stays = none_ready 1 [] _ refl

  step_stays : (count : Count) (place : Place) → passes_next l (Reads (record { count = count; place = place })) ≡ true
      → StaysReady 1 (passing_in l count place (b ∷ rest))
      (passing l (byte_step l line_length b (Reads (record { count = count; place = place }))).behind (rest ++ more))
  step_stays count (Outside front) passes =
      let test : nat_lt count.taken l.bytes ≡ true = sym (and-true _) ∙ passes in
      let room : count.taken < l.bytes = grind (arith, nat_tests, test) in
      let open_still : nat_le l.bytes count.taken ≡ false = grind (arith, nat_tests, room) in
      let most = min most_looked_at (l.bytes - count.taken) in
      let after = min most_looked_at (l.bytes - (count.taken + 1)) in
      let one : most ≡ suc (most - 1) = omega (arith, room) in
      let behind = front_behind start_letter front b in
      let less : most - 1 ≤ after = omega arith in
      stays_same 1 _ _ _ _
      (ap (λ (m : ℕ). looked m front (b ∷ rest)) one ∙ looked-cons (most - 1) front b rest)
      (ap (λ (t : Bool).
      passing l (if t then stops l TblBytes count.line [] else take_at l line_length b (counted b count) (Outside front)).behind (rest ++ more)) open_still)
      (step_by (is_of_line b) (is_name front && ends_name b) (counted b count) behind (on_start_line b) (looked (most - 1) behind rest)
      (looked-longer (most - 1) after behind rest more less))
  step_stays count RestOfStart passes = none_ready 1 [] _ refl
  step_stays count (Inside front r) passes = none_ready 1 [] _ refl

  byte_stays : (s : Standing) → passes_next l s ≡ true
      → StaysReady 1 (passing l s (b ∷ rest)) (passing l (byte_step l line_length b s).behind (rest ++ more))
  byte_stays (Reads now) passes = step_stays now.count now.place passes
  byte_stays (Over limit line) passes = none_ready 1 [] _ refl

-- the same of whole states
pub next_stays : (old new : TablesState) (idle : Bool) (b : ℕ) (bytes after : List ℕ) → idle ≡ true
    → passes_next old.limits old.at.standing ≡ true
    → new.at.standing ≡ (byte_step old.limits old.line_length b old.at.standing).behind → new.limits ≡ old.limits
    → bytes ≡ b ∷ drop 1 bytes → StaysReady 1 bytes after
    → StaysReady 1 (if idle then passing old.limits old.at.standing bytes else []) (if idle then passing new.limits new.at.standing after else [])
next_stays old new true b bytes after idle passes behind limits first stays =
    stays_same 1 _ _ _ _ (ap (passing old.limits old.at.standing) first)
    (ap (λ (l : TblLimits). passing l new.at.standing after) limits ∙ ap (λ (s : Standing). passing old.limits s after) behind
    ∙ ap (passing old.limits (byte_step old.limits old.line_length b old.at.standing).behind) stays.is)
    (byte_stays old.limits old.line_length b (drop 1 bytes) stays.more old.at.standing passes)
next_stays old new false b bytes after idle passes behind limits first stays = cc

-- one that was pending was given: none stood ready
given_none : (old new : TablesState) (idle : Bool) (b : ℕ) (before after : List ℕ) → (idle ≡ true → old.at.pending ≡ [])
    → IsByteGiven old new b → StaysReady 1 (if idle then before else []) (if idle then after else [])
given_none old new true b before after none given =
    let pends : OneByte b ∷ new.at.pending ≡ [] = ap (λ (t : TablesState). t.at.pending) (sym given) ∙ none refl in
    cc
given_none old new false b before after none given = none_ready 1 [] [] refl

pub given_stays : (old new : TablesState) (idle : Bool) (next : Option ℕ) (before after : List ℕ) → (idle ≡ true → old.at.pending ≡ [])
    → MatchOption next (new ≡ old) (λ b. IsByteGiven old new b)
    → IfSome next (λ b. StaysReady 1 (if idle then before else []) (if idle then after else []))
given_stays old new idle None before after none given = tt
given_stays old new idle (Some b) before after none given = given_none old new idle b before after none given

-- what is left of bytes stands ready still, or others do
stays_or_by : (left others now behind : List ℕ) (n : ℕ) → (drop n left ≡ []) ⊎ (1 ≤ length (drop n left)) → 1 ≤ length left
    → StaysReady 0 (drop n left) now → StaysReady n (bytes_or left others) (bytes_or now behind)
stays_or_by left others now behind n (inl none) some stays =
    stays_same n _ left _ _ (bytes-some left others some) refl (none_ready n left (bytes_or now behind) none)
stays_or_by left others now behind n (inr more) some stays =
    let all = ap (λ (bytes : List ℕ). length bytes) stays.is ∙ length-append (drop n left) stays.more in
    stays_same n _ left _ now (bytes-some left others some) (bytes-some now behind (omega (arith, all, more)))
    (record { more = stays.more; is = stays.is })

pub stays_or : (left others now behind : List ℕ) (n : ℕ) → 1 ≤ length left → StaysReady 0 (drop n left) now
    → StaysReady n (bytes_or left others) (bytes_or now behind)
stays_or left others now behind n some stays = stays_or_by left others now behind n (cases_list (drop n left)) some stays

-- where none is left those of the source do
pub stays_source : (left others now behind : List ℕ) (n : ℕ) → left ≡ [] → now ≡ left → StaysReady n others behind
    → StaysReady n (bytes_or left others) (bytes_or now behind)
stays_source left others now behind n none same stays =
    stays_same n _ others _ behind (bytes-none left others none) (bytes-none now behind (same ∙ none)) stays

pub stays_source_byte : (left others now behind : List ℕ) (next : Option ℕ) → left ≡ [] → now ≡ left
    → IfSome next (λ b. StaysReady 1 others behind) → IfSome next (λ b. StaysReady 1 (bytes_or left others) (bytes_or now behind))
stays_source_byte left others now behind None none same stays = tt
stays_source_byte left others now behind (Some b) none same stays = stays_source left others now behind 1 none same stays
