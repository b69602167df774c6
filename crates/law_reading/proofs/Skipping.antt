-- Branches that are skipped end behind the shortest bytes behind which they may end, and runs pass over them.
use Rattle.std.proofs.Common.{◌≡◌, ℕ, ◌+◌, ◌≤◌, true, false, List, [], ◌∷◌, ◌++◌, length, None, Some, refl, ap, sym, subst, ◌∙◌, arith, append_assoc, Bool, map, not, nat_le, ◌&&◌, if◌then◌else◌, ◌==◌, append-nil, length-append, eqb-true, le-leb, leb-true}
use Rattle.std.proofs.lemmas.List.Elements.{All-head, All-tail}
use Rattle.roff_num.specs.declared.limits.Limits.{Limits}
use Rattle.input_source.specs.Bytes.{newline, is_dropped, backslash}
use Rattle.input_escapes.specs.OpenEscape.{OpenEscape}
use Rattle.input_escapes.specs.Waiting.{is_ended_by}
use Rattle.input_model.specs.Input.{counting, lines_taken}
use Rattle.input_source.specs.Tape.{Tape, OneByte, items_then}
use Rattle.run_model.proofs.ItemsTaken.{Fits-IsWithin, made-Fits, taken_as-going_on, bytes_of_the_source_are_taken}
use Rattle.law_reading.specs.ConditionLaws.{is_whole, escapes_among, MayEnd, AreKept, RunsPassOverSkippedBranches, SkippedBranchesDoNothing, BranchesAreSkippedToTheirEnd}
use Rattle.run_model.specs.ItemsTaken.{TakesItems}
use Rattle.run_model.specs.Within.{IsWithin}
use Rattle.run_model.specs.Reading.{byte_taking, undropped_taking}
use Rattle.run_model.specs.Reading.Branches.{most_braces, counted_if, skipping_taking}
use Rattle.run_model.specs.Reading.Ends.{due}
use Rattle.run_model.specs.Reading.Items.{PageInput, Taking, going_on}
use Rattle.run_model.specs.Run.{State, known_at, made, taken_as, step, after}
use Rattle.run_model.specs.declared.line_state.LineState.{LineState}
use Rattle.run_model.specs.declared.line_state.LineState.TheVariants.{LineStart, Skipping}
use Rattle.law_reading.specs.Quoting.{both, taking_all}
use Rattle.run_model.specs.Registers.{Known}

-- what is being read behind bytes of a skipped branch
abbrev pub skipped_behind : List ℕ → LineState
skipped_behind bytes = Skipping (escapes_among 123 bytes) (escapes_among 125 bytes) (not (is_whole bytes))

-- whether the last of them belongs to a backslash is told by the others
is_whole-either : (escaped behind_escape behind : Bool) (whole_escape whole : Bool) (z : Bool)
    → behind_escape ≡ (if whole_escape then z else true) → behind ≡ (if whole then z else true)
    → (if escaped then behind_escape else behind) ≡ (if if escaped then whole_escape else whole then z else true)
is_whole-either true behind_escape behind whole_escape whole z first second = first
is_whole-either false behind_escape behind whole_escape whole z first second = second

is_whole-one : (escaped z : Bool) → (if escaped then true else z) ≡ (if not escaped then z else true)
is_whole-one true z = refl
is_whole-one false z = refl

is_whole-behind : (bytes : List ℕ) (b : ℕ) → is_whole (bytes ++ b ∷ []) ≡ (if is_whole bytes then not (b == backslash) else true)
is_whole-behind [] b = refl
is_whole-behind (c ∷ []) b = is_whole-one (c == backslash) (not (b == backslash))
is_whole-behind (c ∷ d ∷ bytes) b =
    is_whole-either (c == backslash) (is_whole (bytes ++ b ∷ [])) (is_whole (d ∷ bytes ++ b ∷ [])) (is_whole bytes) (is_whole (d ∷ bytes)) (not (b == backslash))
    (is_whole-behind bytes b) (is_whole-behind (d ∷ bytes) b)

-- one escape more, if this is so
abbrev one_if : Bool → ℕ
one_if so = if so then 1 else 0

escapes_among-either : (escaped : Bool) (first behind_escape behind n m : ℕ) (whole_escape whole : Bool) (z : ℕ)
    → behind_escape ≡ n + (if whole_escape then 0 else z) → behind ≡ m + (if whole then 0 else z)
    → (if escaped then first + behind_escape else behind)
    ≡ (if escaped then first + n else m) + (if if escaped then whole_escape else whole then 0 else z)
escapes_among-either true first behind_escape behind n m whole_escape whole z is_escape is = omega (arith, is_escape)
escapes_among-either false first behind_escape behind n m whole_escape whole z is_escape is = is

escapes_among-one : (escaped : Bool) (z : ℕ) → (if escaped then z + 0 else 0) ≡ 0 + (if not escaped then 0 else z)
escapes_among-one true z = omega arith
escapes_among-one false z = refl

escapes_among-behind : (e : ℕ) (bytes : List ℕ) (b : ℕ)
    → escapes_among e (bytes ++ b ∷ []) ≡ escapes_among e bytes + (if is_whole bytes then 0 else one_if (b == e))
escapes_among-behind e [] b = refl
escapes_among-behind e (c ∷ []) b = escapes_among-one (c == backslash) (one_if (b == e))
escapes_among-behind e (c ∷ d ∷ bytes) b =
    escapes_among-either (c == backslash) (one_if (d == e)) (escapes_among e (bytes ++ b ∷ [])) (escapes_among e (d ∷ bytes ++ b ∷ []))
    (escapes_among e bytes) (escapes_among e (d ∷ bytes)) (is_whole bytes) (is_whole (d ∷ bytes)) (one_if (b == e))
    (escapes_among-behind e bytes b) (escapes_among-behind e (d ∷ bytes) b)

-- there are at most as many escapes as bytes
escapes_among-few-either : (escaped so : Bool) (n m : ℕ) (bytes : List ℕ) → n ≤ length bytes → m ≤ length bytes + 1
    → (if escaped then one_if so + n else m) ≤ length bytes + 2
escapes_among-few-either true true n m bytes few more = omega (arith, few)
escapes_among-few-either true false n m bytes few more = omega (arith, few)
escapes_among-few-either false so n m bytes few more = omega (arith, more)

escapes_among-few : (e : ℕ) (bytes : List ℕ) → escapes_among e bytes ≤ length bytes
escapes_among-few e [] = omega arith
escapes_among-few e (b ∷ []) = omega arith
escapes_among-few e (b ∷ c ∷ bytes) =
    let few : (if b == backslash then one_if (c == e) + escapes_among e bytes else escapes_among e (c ∷ bytes)) ≤ length bytes + 2 =
    escapes_among-few-either (b == backslash) (c == e) (escapes_among e bytes) (escapes_among e (c ∷ bytes)) bytes
    (escapes_among-few e bytes) (let more = escapes_among-few e (c ∷ bytes) in omega (arith, more)) in
    omega (arith, few)

-- a count that hasn't come to its greatest is counted on
counted_if-below : (so : Bool) (n : ℕ) → n + 1 ≤ most_braces → counted_if so n ≡ n + one_if so
counted_if-below true n below = omega (arith, below)
counted_if-below false n below = omega arith

-- behind a backslash
skipped-escape : (i : PageInput) (bytes : List ℕ) (b : ℕ) → is_whole bytes ≡ false → length bytes + 1 ≤ most_braces
    → skipping_taking i (escapes_among 123 bytes) (escapes_among 125 bytes) true b ≡ going_on i (skipped_behind (bytes ++ b ∷ []))
skipped-escape i bytes b whole few =
    let count : (e : ℕ) → counted_if (b == e) (escapes_among e bytes) ≡ escapes_among e (bytes ++ b ∷ []) =
    λ e. counted_if-below (b == e) (escapes_among e bytes) (let least = escapes_among-few e bytes in omega (arith, least, few))
    ∙ ap (λ (w : Bool). escapes_among e bytes + (if w then 0 else one_if (b == e))) (sym whole)
    ∙ sym (escapes_among-behind e bytes b) in
    let whole_behind : is_whole (bytes ++ b ∷ []) ≡ true =
    is_whole-behind bytes b ∙ ap (λ (w : Bool). if w then not (b == backslash) else true) whole in
    ap (λ (n : ℕ). going_on i (Skipping n (counted_if (b == 125) (escapes_among 125 bytes)) false)) (count 123)
    ∙ ap (λ (n : ℕ). going_on i (Skipping (escapes_among 123 (bytes ++ b ∷ [])) n false)) (count 125)
    ∙ ap (λ (w : Bool). going_on i (Skipping (escapes_among 123 (bytes ++ b ∷ [])) (escapes_among 125 (bytes ++ b ∷ [])) (not w))) (sym whole_behind)

-- behind none
skipped-either : (i : PageInput) (opened closed : ℕ) (is_backslash ends : Bool) → (ends ≡ true → ⊥)
    → (if is_backslash then going_on i (Skipping opened closed true) else if ends then going_on i LineStart else going_on i (Skipping opened closed false))
    ≡ going_on i (Skipping opened closed (not (not is_backslash)))
skipped-either i opened closed true ends not_so = refl
skipped-either i opened closed false true not_so = absurd (not_so refl)
skipped-either i opened closed false false not_so = refl

-- a newline there ends the branch if that may end there
may_end : (bytes : List ℕ) (b : ℕ) (opened closed : ℕ) (is_newline : Bool) → is_whole bytes ≡ true → escapes_among 123 bytes ≡ opened → escapes_among 125 bytes ≡ closed
    → (b == newline) ≡ is_newline → (is_newline && nat_le opened closed) ≡ true → MayEnd (bytes ++ b ∷ [])
may_end bytes b opened closed true whole o c is so =
    record { before = bytes; last = ap (λ (d : ℕ). bytes ++ d ∷ []) (eqb-true b newline is); whole = whole; braces = omega (arith, o, c, leb-true opened closed so) }
may_end bytes b opened closed false whole o c is so = absurd (cc)

skipped-plain : (i : PageInput) (bytes : List ℕ) (b : ℕ) → is_whole bytes ≡ true → (MayEnd (bytes ++ b ∷ []) → ⊥)
    → skipping_taking i (escapes_among 123 bytes) (escapes_among 125 bytes) false b ≡ going_on i (skipped_behind (bytes ++ b ∷ []))
skipped-plain i bytes b whole not_so =
    let count : (e : ℕ) → escapes_among e bytes ≡ escapes_among e (bytes ++ b ∷ []) =
    λ e. (let all : escapes_among e bytes + 0 ≡ escapes_among e (bytes ++ b ∷ []) =
    ap (λ (w : Bool). escapes_among e bytes + (if w then 0 else one_if (b == e))) (sym whole)
    ∙ sym (escapes_among-behind e bytes b) in omega (arith, all)) in
    let whole_behind : is_whole (bytes ++ b ∷ []) ≡ not (b == backslash) =
    is_whole-behind bytes b ∙ ap (λ (w : Bool). if w then not (b == backslash) else true) whole in
    skipped-either i (escapes_among 123 bytes) (escapes_among 125 bytes) (b == backslash) (b == newline && nat_le (escapes_among 123 bytes) (escapes_among 125 bytes))
    (λ so. not_so (may_end bytes b (escapes_among 123 bytes) (escapes_among 125 bytes) (b == newline) whole refl refl refl so))
    ∙ ap (λ (n : ℕ). going_on i (Skipping n (escapes_among 125 bytes) (not (not (b == backslash))))) (count 123)
    ∙ ap (λ (n : ℕ). going_on i (Skipping (escapes_among 123 (bytes ++ b ∷ [])) n (not (not (b == backslash))))) (count 125)
    ∙ ap (λ (w : Bool). going_on i (Skipping (escapes_among 123 (bytes ++ b ∷ [])) (escapes_among 125 (bytes ++ b ∷ [])) (not w))) (sym whole_behind)

-- one byte more is skipped, if the branch may not end behind it
skipped-by : (i : PageInput) (bytes : List ℕ) (b : ℕ) (whole : Bool) → is_whole bytes ≡ whole → (MayEnd (bytes ++ b ∷ []) → ⊥) → length bytes + 1 ≤ most_braces
    → skipping_taking i (escapes_among 123 bytes) (escapes_among 125 bytes) (not whole) b ≡ going_on i (skipped_behind (bytes ++ b ∷ []))
skipped-by i bytes b true whole not_so few = skipped-plain i bytes b whole not_so
skipped-by i bytes b false whole not_so few = skipped-escape i bytes b whole few

-- a byte that is kept
taking-skipped : (k : Known) (i : PageInput) (bytes : List ℕ) (b : ℕ) → is_dropped b ≡ false
    → byte_taking k (skipped_behind bytes) i b ≡ skipping_taking i (escapes_among 123 bytes) (escapes_among 125 bytes) (not (is_whole bytes)) b
taking-skipped k i bytes b is_kept =
    ap (λ (d : Bool). if d then going_on i (skipped_behind bytes) else undropped_taking k (skipped_behind bytes) i b) is_kept

pub taking-goes_on : (k : Known) (i : PageInput) (bytes : List ℕ) (b : ℕ) → is_dropped b ≡ false → (MayEnd (bytes ++ b ∷ []) → ⊥) → length bytes + 1 ≤ most_braces
    → byte_taking k (skipped_behind bytes) i b ≡ going_on i (skipped_behind (bytes ++ b ∷ []))
taking-goes_on k i bytes b is_kept not_so few = taking-skipped k i bytes b is_kept ∙ skipped-by i bytes b (is_whole bytes) refl not_so few

-- the newline that ends the branch
pub taking-ends : (k : Known) (i : PageInput) (bytes : List ℕ) → is_whole bytes ≡ true → escapes_among 123 bytes ≤ escapes_among 125 bytes
    → byte_taking k (skipped_behind bytes) i newline ≡ going_on i LineStart
taking-ends k i bytes whole braces =
    ap (λ (w : Bool). skipping_taking i (escapes_among 123 bytes) (escapes_among 125 bytes) (not w) newline) whole
    ∙ ap (λ (ends : Bool). if ends then going_on i LineStart else going_on i (Skipping (escapes_among 123 bytes) (escapes_among 125 bytes) false))
    (le-leb (escapes_among 123 bytes) (escapes_among 125 bytes) braces)

-- bytes are skipped, if the branch may end behind none of them
skips : (k : Known) (i : PageInput) (done bytes rest : List ℕ) → ((front more : List ℕ) → bytes ≡ front ++ more → MayEnd (done ++ front) → ⊥)
    → AreKept (bytes ++ rest) → length done + length bytes ≤ most_braces
    → taking_all k (skipped_behind done) i (bytes ++ rest) ≡ taking_all k (skipped_behind (done ++ bytes)) i rest
skips k i done [] rest none are_kept few = ap (λ (all : List ℕ). taking_all k (skipped_behind all) i rest) (sym (append-nil done))
skips k i done (b ∷ bytes) rest none are_kept few =
    let meaning_none : Taking → Taking = λ t. let others : Taking = taking_all k t.reading t.input (bytes ++ rest) in
    record { input = others.input; reading = others.reading; effect = both t.effect others.effect } in
    ap meaning_none
    (taking-goes_on k i done b (All-head (λ c. is_dropped c ≡ false) b (bytes ++ rest) are_kept) (none (b ∷ []) bytes refl) (omega (arith, few)))
    ∙ skips k i (done ++ b ∷ []) bytes rest
    (λ front more is may. none (b ∷ front) more (ap (λ (others : List ℕ). b ∷ others) is) (subst MayEnd (append_assoc done (b ∷ []) front) may))
    (All-tail (λ c. is_dropped c ≡ false) b (bytes ++ rest) are_kept)
    (omega (arith, few, length-append done (b ∷ [])))
    ∙ ap (λ (all : List ℕ). taking_all k (skipped_behind all) i rest) (append_assoc done (b ∷ []) bytes)

-- a skipped branch may end behind no front of what stands before its newline
pub none_before : (front before shorter more : List ℕ) → front ≡ before ++ newline ∷ []
    → ((other : List ℕ) (b : ℕ) (behind : List ℕ) → front ≡ other ++ b ∷ behind → MayEnd other → ⊥)
    → before ≡ shorter ++ more → MayEnd shorter → ⊥
none_before front before shorter [] last shortest is =
    shortest shorter newline [] (last ∙ ap (λ (bytes : List ℕ). bytes ++ newline ∷ []) (is ∙ append-nil shorter))
none_before front before shorter (b ∷ more) last shortest is =
    shortest shorter b (more ++ newline ∷ [])
    (last ∙ ap (λ (bytes : List ℕ). bytes ++ newline ∷ []) is ∙ append_assoc shorter (b ∷ more) (newline ∷ []))

pub skipped_branches_do_nothing : SkippedBranchesDoNothing
skipped_branches_do_nothing k i front skipped are_kept few =
    let before : List ℕ = skipped.ends.before in
    let last : front ≡ before ++ newline ∷ [] = skipped.ends.last in
    ap (taking_all k (Skipping 0 0 false) i) last
    ∙ skips k i [] before (newline ∷ []) (λ shorter more is. none_before front before shorter more last skipped.shortest is)
    (subst AreKept last are_kept) (omega (arith, few, ap length last, length-append before (newline ∷ [])))
    ∙ ap (λ (t : Taking). let joined : Taking = record { input = t.input; reading = t.reading; effect = both t.effect (going_on t.input t.reading).effect } in joined)
    (taking-ends k i before skipped.ends.whole skipped.ends.braces)

pub branches_are_skipped_to_their_end : BranchesAreSkippedToTheirEnd
branches_are_skipped_to_their_end k i bytes none are_kept few = record {
  opened = escapes_among 123 bytes;
  closed = escapes_among 125 bytes;
  is_behind = not (is_whole bytes);
  goes_on =
      ap (taking_all k (Skipping 0 0 false) i) (sym (append-nil bytes))
      ∙ skips k i [] bytes [] none (subst AreKept (sym (append-nil bytes)) are_kept) (omega (arith, few));
}

-- a run that has come to these bytes of the source
abbrev pub run_at : State → Tape → List ℕ → PageInput → LineState → State
run_at s tape bytes input reading = record s { tape = items_then (map OneByte bytes) tape; input = input; reading = reading }

-- nothing is ahead of them, nothing is half read, and no count is above its limit
pub record IsPlain (l : Limits) (s : State) (input : PageInput) : Type 0 where
  pub none_ahead : input.ahead ≡ []
  pub none_half : input.escapes ≡ []
  pub within : IsWithin l (record s { input = input })

-- so it stays behind a byte within the limit
within-counting : (l : Limits) (s : State) (input : PageInput) (b : ℕ) → IsWithin l (record s { input = input }) → input.charge + 1 ≤ l.bytes
    → IsWithin l (record s { input = counting b input })
within-counting l s input b within few =
    record { bytes = few; stack = within.stack; depth = within.depth; store = within.store; texts = within.texts; making = within.making; conditions = within.conditions; names = within.names; title = within.title; environments = within.environments; output = within.output; traps = within.traps }

pub IsPlain-counting : (l : Limits) (s : State) (input : PageInput) (b : ℕ) → IsPlain l s input → input.charge + 1 ≤ l.bytes → IsPlain l s (counting b input)
IsPlain-counting l s input b plain few =
    record { none_ahead = plain.none_ahead; none_half = plain.none_half; within = within-counting l s input b plain.within few }

-- a step at a byte that means nothing
pub step-counting : (l : Limits) (s : State) (tape : Tape) (b : ℕ) (bytes : List ℕ) (input : PageInput) (reading there : LineState)
    → TakesItems s → due reading ≡ None → IsPlain l s input → input.charge + 1 ≤ l.bytes
    → byte_taking (known_at s.history s.registers (counting b input)) reading (counting b input) b ≡ going_on (counting b input) there
    → step l (run_at s tape (b ∷ bytes) input reading) ≡ run_at s tape bytes (counting b input) there
step-counting l s tape b bytes input reading there on none_due plain within is =
    let before : State = run_at s tape (b ∷ bytes) input reading in
    let taken : State = run_at s tape bytes (counting b input) reading in
    let done : State = run_at s tape bytes (counting b input) there in
    bytes_of_the_source_are_taken l before b (record { going = on.going; is_open = on.is_open; idle = on.idle; unsprung = on.unsprung; none_due = none_due }) plain.none_ahead refl
    (ap (λ (half : List OpenEscape). is_ended_by half (Some b)) plain.none_half) (omega (arith, within))
    ∙ ap (λ (t : Taking). made l before (taken_as t taken)) is
    ∙ ap (made l before) (taken_as-going_on (counting b input) there taken)
    ∙ made-Fits l before done (Fits-IsWithin l (record s { input = counting b input }) (within-counting l s input b plain.within within))

-- the steps at bytes behind which the branch may not end, and at the newline that ends it
after-skips : (l : Limits) (s : State) (tape : Tape) (done bytes : List ℕ) (input : PageInput)
    → TakesItems s → IsPlain l s input → input.charge + length (bytes ++ newline ∷ []) ≤ l.bytes
    → ((front more : List ℕ) → bytes ≡ front ++ more → MayEnd (done ++ front) → ⊥) → AreKept (bytes ++ newline ∷ []) → length done + length bytes ≤ most_braces
    → is_whole (done ++ bytes) ≡ true → escapes_among 123 (done ++ bytes) ≤ escapes_among 125 (done ++ bytes)
    → after l (length (bytes ++ newline ∷ [])) (run_at s tape (bytes ++ newline ∷ []) input (skipped_behind done))
    ≡ run_at s tape [] (lines_taken (bytes ++ newline ∷ []) input) LineStart
after-skips l s tape done [] input on plain within none are_kept few whole braces =
    let same : done ++ [] ≡ done = append-nil done in
    let i : PageInput = counting newline input in
    step-counting l s tape newline [] input (skipped_behind done) LineStart on refl plain within
    (taking-ends (known_at s.history s.registers i) i done (subst (λ (all : List ℕ). is_whole all ≡ true) same whole)
    (subst (λ (all : List ℕ). escapes_among 123 all ≤ escapes_among 125 all) same braces))
after-skips l s tape done (b ∷ bytes) input on plain within none are_kept few whole braces =
    let there : List ℕ = done ++ b ∷ [] in
    let others : List ℕ = bytes ++ newline ∷ [] in
    let same : done ++ b ∷ bytes ≡ there ++ bytes = sym (append_assoc done (b ∷ []) bytes) in
    let i : PageInput = counting b input in
    ap (after l (length others))
    (step-counting l s tape b others input (skipped_behind done) (skipped_behind there) on refl plain (omega (arith, within))
    (taking-goes_on (known_at s.history s.registers i) i done b (All-head (λ c. is_dropped c ≡ false) b others are_kept)
    (none (b ∷ []) bytes refl) (omega (arith, few))))
    ∙ after-skips l s tape there bytes i on (IsPlain-counting l s input b plain (omega (arith, within))) (omega (arith, within))
    (λ front more is may. none (b ∷ front) more (ap (λ (rest : List ℕ). b ∷ rest) is) (subst MayEnd (append_assoc done (b ∷ []) front) may))
    (All-tail (λ c. is_dropped c ≡ false) b others are_kept)
    (omega (arith, few, length-append done (b ∷ [])))
    (subst (λ (all : List ℕ). is_whole all ≡ true) same whole)
    (subst (λ (all : List ℕ). escapes_among 123 all ≤ escapes_among 125 all) same braces)

pub runs_pass_over_skipped_branches : RunsPassOverSkippedBranches
runs_pass_over_skipped_branches l s front tape on reading none_half none_ahead is skipped are_kept few within is_within =
    let before : List ℕ = skipped.ends.before in
    let last : front ≡ before ++ newline ∷ [] = skipped.ends.last in
    ap (λ (t : Tape). after l (length front) (record s { tape = t })) is
    ∙ ap (λ (r : LineState). after l (length front) (run_at s tape front s.input r)) reading
    ∙ ap (λ (all : List ℕ). after l (length all) (run_at s tape all s.input (Skipping 0 0 false))) last
    ∙ after-skips l s tape [] before s.input on
    (record { none_ahead = none_ahead; none_half = none_half; within = is_within })
    (omega (arith, within, ap length last))
    (λ shorter more same. none_before front before shorter more last skipped.shortest same)
    (subst AreKept last are_kept) (omega (arith, few, ap length last, length-append before (newline ∷ [])))
    skipped.ends.whole skipped.ends.braces
    ∙ ap (λ (all : List ℕ). run_at s tape [] (lines_taken all s.input) LineStart) (sym last)
