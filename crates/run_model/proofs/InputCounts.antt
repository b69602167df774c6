-- What the calls of the unread input leave of the counts that limits are on.
use Rattle.std.proofs.Common.{◌≡◌, ℕ, ◌+◌, ◌-◌, ◌≤◌, Bool, true, false, List, [], ◌∷◌, length, Option, Some, None, refl, sym, subst, ap, ◌∙◌, arith, drop, nat_le, nat_lt, sum_by, if◌then◌else◌, le-ltb, ltb-false}
use Rattle.roff_num.specs.declared.limit.Limit.{Limit}
use Rattle.roff_num.specs.declared.limit.Limit.TheVariants.{Stack, Depth, Conditions, Line, Names, Store, Diversions}
use Rattle.roff_num.specs.declared.limits.Limits.{Limits}
use Rattle.input_model.specs.Arguments.{held, settled, no_arguments, live_bytes}
use Rattle.input_escapes.specs.OpenEscape.{texts_held}
use Rattle.input_model.specs.Input.{Ahead, ByteAhead, FreeAhead, EndAhead, ReturnAhead, DoAhead, counting, item_taken, leaving, pushed, depth, result_count, bytes_ahead, ends_ahead, calls_behind, results_behind, results_below}
use Rattle.input_model.specs.Input.Names.{names_added, stored}
use Rattle.input_source.specs.Tape.{Answer, Gives, Ends, OneByte, OneNote}
use Rattle.input_model.specs.declared.looked.Looked.{Looked}
use Rattle.input_model.specs.Looking.{answer_behind}
use Rattle.input_model.specs.Unread.{Unread, IsWithin, taking, taking_answer, input_refusal}
use Rattle.input_model.specs.Shown.{Shown}
use Rattle.roff_store.specs.Named.{Named}
use Rattle.roff_store.specs.Texts.{Entry, bytes_in}
use Rattle.input_model.proofs.KeptArguments.{held-only_kept, held-settled}
use Rattle.run_model.specs.Reading.Items.{PageInput}
use Rattle.run_model.specs.Reading.Units.{interrupted, settling}
use Rattle.run_model.specs.Registers.{AllRegisters}
use Rattle.run_model.specs.Requests.{PageEvent}
use Rattle.run_model.specs.TitleTexts.{title_length}
use Rattle.run_model.specs.Run.Counts.{first_passed, counts_in}
use Rattle.run_model.specs.declared.line_state.LineState.{LineState}
use Rattle.run_model.specs.declared.line_state.LineState.TheVariants.{Collecting}
use Rattle.run_model.specs.declared.purpose.Purpose.TheVariants.{Arguments as InArguments, StringName, Calling}

-- of either part of a test it holds
pub one_of : {A : Type 0} (P : A → Type 0) (c : Bool) (x y : A) → P x → P y → P (if c then x else y)
one_of P true x y first second = first
one_of P false x y first second = second

-- what one input has ahead, in its arguments, of results, of texts and of names counts for no more than what another has
pub record NoMore (now before : PageInput) : Type 0 where
  pub bytes : pushed now ≤ pushed before
  pub texts : depth now ≤ depth before
  pub results : result_count now ≤ result_count before
  pub stored : stored now ≤ stored before
  pub names : names_added now ≤ names_added before
  pub open_texts : length now.open_texts ≤ length before.open_texts

-- of the same names and texts the same counts
stored-same : (now before : PageInput) → now.names ≡ before.names → now.open_texts ≡ before.open_texts → stored now ≡ stored before
stored-same now before names open_texts =
    ap (λ (names : Named Entry). bytes_in names + sum_by length now.open_texts) names
    ∙ ap (λ (texts : List (List ℕ)). bytes_in before.names + sum_by length texts) open_texts

names_added-same : (now before : PageInput) → now.names ≡ before.names → now.first_names ≡ before.first_names → names_added now ≡ names_added before
names_added-same now before names first_names =
    ap (λ (names : Named Entry). length names - now.first_names) names ∙ ap (λ (first : ℕ). length before.names - first) first_names

-- by what stands ahead, the calls of bodies and the results that are kept alone
by_ahead : (now before : PageInput) → now.arguments ≡ before.arguments → now.escapes ≡ before.escapes → now.names ≡ before.names
    → now.first_names ≡ before.first_names → now.open_texts ≡ before.open_texts → bytes_ahead now.ahead ≤ bytes_ahead before.ahead
    → ends_ahead now.ahead ≤ ends_ahead before.ahead → live_bytes now.calls ≤ live_bytes before.calls → length now.results ≤ length before.results → NoMore now before
by_ahead now before same same_half names first_names open_texts bytes texts calls kept =
    let held_same : held now.arguments ≡ held before.arguments = ap held same in
    let half_same : texts_held now.escapes ≡ texts_held before.escapes = ap texts_held same_half in
    let texts_same : length now.open_texts ≡ length before.open_texts = ap (λ (texts : List (List ℕ)). length texts) open_texts in
    let stored_same = stored-same now before names open_texts in
    let names_same = names_added-same now before names first_names in
    record { bytes = omega arith; texts = texts; results = kept; stored = omega arith; names = omega arith; open_texts = omega arith }

-- what changes nothing there
pub NoMore-same : (i : PageInput) → NoMore i i
NoMore-same i = record { bytes = omega arith; texts = omega arith; results = omega arith; stored = omega arith; names = omega arith; open_texts = omega arith }

-- what counts for no more than another, which counts for no more than a third
pub NoMore-trans : (now before first : PageInput) → NoMore now before → NoMore before first → NoMore now first
NoMore-trans now before first less fewer = record {
  bytes = omega (arith, less.bytes, fewer.bytes);
  texts = omega (arith, less.texts, fewer.texts);
  results = omega (arith, less.results, fewer.results);
  stored = omega (arith, less.stored, fewer.stored);
  names = omega (arith, less.names, fewer.names);
  open_texts = omega (arith, less.open_texts, fewer.open_texts);
}

-- behind an item
bytes_behind : (item : Ahead PageEvent) (items : List (Ahead PageEvent)) → bytes_ahead items ≤ bytes_ahead (item ∷ items)
bytes_behind (ByteAhead b) items = omega arith
bytes_behind (FreeAhead b) items = omega arith
bytes_behind EndAhead items = omega arith
bytes_behind (ReturnAhead back) items = omega arith
bytes_behind (DoAhead event) items = omega arith

ends_behind : (item : Ahead PageEvent) (items : List (Ahead PageEvent)) → ends_ahead items ≤ ends_ahead (item ∷ items)
ends_behind (ByteAhead b) items = omega arith
ends_behind (FreeAhead b) items = omega arith
ends_behind EndAhead items = omega arith
ends_behind (ReturnAhead back) items = omega arith
ends_behind (DoAhead event) items = omega arith

-- a call that is over has no arguments more
live_bytes-drop : (calls : List (List (List ℕ))) → live_bytes (drop 1 calls) ≤ live_bytes calls
live_bytes-drop [] = omega arith
live_bytes-drop (arguments ∷ calls) = omega arith

calls_behind-fewer : (item : Ahead PageEvent) (calls : List (List (List ℕ))) → live_bytes (calls_behind item calls) ≤ live_bytes calls
calls_behind-fewer (ByteAhead b) calls = omega arith
calls_behind-fewer (FreeAhead b) calls = omega arith
calls_behind-fewer EndAhead calls = omega arith
calls_behind-fewer (ReturnAhead back) calls = live_bytes-drop calls
calls_behind-fewer (DoAhead event) calls = omega arith

-- nor have results that were kept in it been kept
results_below-fewer : (calls : ℕ) (kept : List (Bool × ℕ)) → length (results_below calls kept) ≤ length kept
results_below-fewer calls [] = omega arith
results_below-fewer calls (result ∷ others) =
    let fewer = results_below-fewer calls others in
    one_of (λ (left : List (Bool × ℕ)). length left ≤ length (result ∷ others)) (nat_le calls result.1) (results_below calls others) (result ∷ others)
    (omega (arith, fewer)) (omega arith)

results_behind-fewer : (item : Ahead PageEvent) (calls : List (List (List ℕ))) (kept : List (Bool × ℕ)) → length (results_behind item calls kept) ≤ length kept
results_behind-fewer (ByteAhead b) calls kept = omega arith
results_behind-fewer (FreeAhead b) calls kept = omega arith
results_behind-fewer EndAhead calls kept = omega arith
results_behind-fewer (ReturnAhead back) calls kept = results_below-fewer (length calls) kept
results_behind-fewer (DoAhead event) calls kept = omega arith

pub NoMore-item_taken : (item : Ahead PageEvent) (items : List (Ahead PageEvent)) (i : PageInput) → i.ahead ≡ item ∷ items → NoMore (item_taken item items i) i
NoMore-item_taken item items i ahead = by_ahead (item_taken item items i) i refl refl refl refl refl
    (subst (λ (all : List (Ahead PageEvent)). bytes_ahead items ≤ bytes_ahead all) (sym ahead) (bytes_behind item items))
    (subst (λ (all : List (Ahead PageEvent)). ends_ahead items ≤ ends_ahead all) (sym ahead) (ends_behind item items))
    (calls_behind-fewer item i.calls) (results_behind-fewer item i.calls i.results)

-- what a call leaves counts for no more
abbrev LeavesNoMore : PageInput → Shown PageEvent × Unread PageEvent → Type 0
LeavesNoMore i call = NoMore call.1.input i

NoMore-answer : (a : Answer) (u : Unread PageEvent) → LeavesNoMore u.input (taking_answer a u)
NoMore-answer (Gives (OneByte b)) u = one_of (LeavesNoMore u.input) _ _ _ (NoMore-same u.input) (by_ahead (counting b u.input) u.input refl refl refl refl refl (omega arith) (omega arith) (omega arith) (omega arith))
NoMore-answer (Gives (OneNote message)) u = NoMore-same u.input
NoMore-answer (Ends ending) u = NoMore-same u.input

NoMore-taking_of : (ahead : List (Ahead PageEvent)) (a : Answer) (i : PageInput) (looked : Looked) (limits : Limits)
    → let u : Unread PageEvent = record { input = record i { ahead = ahead }; looked = looked; limits = limits } in LeavesNoMore u.input (taking a u)
NoMore-taking_of [] a i looked limits = NoMore-answer (answer_behind looked a) (record { input = record i { ahead = [] }; looked = looked; limits = limits })
NoMore-taking_of (item ∷ items) a i looked limits =
    let before : PageInput = record i { ahead = item ∷ items } in
    one_of (LeavesNoMore before) _ _ _ (NoMore-same before) (NoMore-item_taken item items before refl)

-- the call that takes the item in front
pub NoMore-taking : (a : Answer) (u : Unread PageEvent) → NoMore (taking a u).1.input u.input
NoMore-taking a u = NoMore-taking_of u.input.ahead a u.input u.looked u.limits

-- where no quote follows, as many bytes are held
pub pushed-settling : (i : PageInput) → pushed (settling i) ≡ pushed i
pushed-settling i = ap (λ n. bytes_ahead i.ahead + n + texts_held i.escapes + live_bytes i.calls) (held-only_kept (settled i.arguments) ∙ held-settled i.arguments)

pub NoMore-settling : (i : PageInput) → NoMore (settling i) i
NoMore-settling i = record { bytes = omega (arith, pushed-settling i); texts = omega arith; results = omega arith; stored = omega arith; names = omega arith; open_texts = omega arith }

pub NoMore-interrupted : (reading : LineState) (i : PageInput) → NoMore (interrupted reading i) i
NoMore-interrupted (Collecting (InArguments breaks request)) i = NoMore-settling i
NoMore-interrupted (Collecting (StringName appends)) i = NoMore-settling i
NoMore-interrupted (Collecting (Calling name)) i = NoMore-settling i
NoMore-interrupted (_) i = NoMore-same i

-- where the arguments are released
pub NoMore-released : (i : PageInput) → NoMore (record i { arguments = no_arguments }) i
NoMore-released i = record { bytes = omega arith; texts = omega arith; results = omega arith; stored = omega arith; names = omega arith; open_texts = omega arith }

-- where nothing stands ahead
pub NoMore-leaving : (i : PageInput) → NoMore (leaving i) i
NoMore-leaving i = record { bytes = omega arith; texts = omega arith; results = results_below-fewer 1 i.results; stored = omega arith; names = omega arith; open_texts = omega arith }

-- a limit that a count isn't above is above none that is no more
pub not_above : (limit before now : ℕ) → now ≤ before → nat_lt limit before ≡ false → nat_lt limit now ≡ false
not_above limit before now less passes = le-ltb limit now (omega (arith, ltb-false limit before passes))

-- where none of two is refused
neither : {A : Type 0} (x : A) (rest : Option A) (c : Bool) → (if c then Some x else rest) ≡ None → (c ≡ false) × (rest ≡ None)
neither x rest true none = cc
neither x rest false none = (refl, none)

first_not : {A : Type 0} (x : A) (rest : Option A) (c : Bool) → c ≡ false → rest ≡ None → (if c then Some x else rest) ≡ None
first_not x rest true passes none = cc
first_not x rest false passes none = none

-- where the counts are no more, no limit refuses what none refused
pub input_refusal-no_more : (l : Limits) (now before : PageInput) → NoMore now before → input_refusal l before ≡ None → input_refusal l now ≡ None
input_refusal-no_more l now before less none =
    let behind_depth : Option Limit = if nat_lt l.conditions (result_count before) then Some Conditions else None in
    let behind_bytes : Option Limit = if nat_lt l.depth (depth before) then Some Depth else behind_depth in
    let behind_names : Option Limit = if nat_lt l.stack (pushed before) then Some Stack else behind_bytes in
    let behind_texts : Option Limit = if nat_lt l.diversions (length before.open_texts - 1) then Some Diversions else behind_names in
    let behind_stored : Option Limit = if nat_lt l.names (names_added before) then Some Names else behind_texts in
    let store = neither Store behind_stored (nat_lt l.store (stored before)) none in
    let names = neither Names behind_texts (nat_lt l.names (names_added before)) store.1 in
    let making = neither Diversions behind_names (nat_lt l.diversions (length before.open_texts - 1)) names.1 in
    let bytes = neither Stack behind_bytes (nat_lt l.stack (pushed before)) making.1 in
    let texts = neither Depth behind_depth (nat_lt l.depth (depth before)) bytes.1 in
    let kept = neither Conditions None (nat_lt l.conditions (result_count before)) texts.1 in
    let fewer : length now.open_texts - 1 ≤ length before.open_texts - 1 = omega (arith, less.open_texts) in
    first_not Store _ _ (not_above l.store (stored before) (stored now) less.stored store.0)
    (first_not Names _ _ (not_above l.names (names_added before) (names_added now) less.names names.0)
    (first_not Diversions _ _ (not_above l.diversions (length before.open_texts - 1) (length now.open_texts - 1) fewer making.0)
    (first_not Stack _ _ (not_above l.stack (pushed before) (pushed now) less.bytes bytes.0)
    (first_not Depth _ _ (not_above l.depth (depth before) (depth now) less.texts texts.0)
    (first_not Conditions None _ (not_above l.conditions (result_count before) (result_count now) less.results kept.0) refl)))))

-- where no count is above its limit, no limit refuses the input
pub IsWithin-allowed : (u : Unread PageEvent) → IsWithin u → input_refusal u.limits u.input ≡ None
IsWithin-allowed u within =
    first_not Store _ _ (le-ltb u.limits.store (stored u.input) within.stored)
    (first_not Names _ _ (le-ltb u.limits.names (names_added u.input) within.names)
    (first_not Diversions _ _ (le-ltb u.limits.diversions (length u.input.open_texts - 1) (omega (arith, within.making)))
    (first_not Stack _ _ (le-ltb u.limits.stack (pushed u.input) within.pushed)
    (first_not Depth _ _ (le-ltb u.limits.depth (depth u.input) within.depth)
    (first_not Conditions None _ (le-ltb u.limits.conditions (result_count u.input) within.results) refl)))))

-- the limits behind that on names
abbrev pub behind_title : Limits → AllRegisters → PageInput → Option Limit
behind_title l rs i = if nat_lt l.line (title_length rs.title) then Some Line else input_refusal l i

-- where the names and the title that is read are within their limits, the others decide
pub first_passed-few_names : (l : Limits) (rs : AllRegisters) (i : PageInput) → nat_lt l.names (length rs.named) ≡ false
    → nat_lt l.line (title_length rs.title) ≡ false → first_passed l (counts_in rs i) ≡ input_refusal l i
first_passed-few_names l rs i few short =
    ap (λ (c : Bool). if c then Some Names else if nat_lt l.line (title_length rs.title) then Some Line else input_refusal l i) few
    ∙ ap (λ (c : Bool). if c then Some Line else input_refusal l i) short

pub first_passed-no_more : (l : Limits) (rs : AllRegisters) (now before : PageInput) → NoMore now before
    → first_passed l (counts_in rs before) ≡ None → first_passed l (counts_in rs now) ≡ None
first_passed-no_more l rs now before less none =
    let names = neither Names (behind_title l rs before) (nat_lt l.names (length rs.named)) none in
    let title = neither Line (input_refusal l before) (nat_lt l.line (title_length rs.title)) names.1 in
    first_not Names (behind_title l rs now) _ names.0
    (first_not Line (input_refusal l now) _ title.0 (input_refusal-no_more l now before less title.1))

-- the limits behind that on the texts in the making, and behind that on names, and on the store
abbrev behind_making : Limits → PageInput → Option Limit
behind_making l i =
    if nat_lt l.stack (pushed i) then Some Stack
    else if nat_lt l.depth (depth i) then Some Depth
    else if nat_lt l.conditions (result_count i) then Some Conditions
    else None

abbrev behind_names : Limits → PageInput → Option Limit
behind_names l i = if nat_lt l.diversions (length i.open_texts - 1) then Some Diversions else behind_making l i

abbrev behind_store : Limits → PageInput → Option Limit
behind_store l i = if nat_lt l.names (names_added i) then Some Names else behind_names l i

-- where no limit refuses an input, that on the store doesn't
stored_few : (l : Limits) (i : PageInput) → input_refusal l i ≡ None → nat_lt l.store (stored i) ≡ false
stored_few l i none = (neither Store (behind_store l i) (nat_lt l.store (stored i)) none).0

-- where as many texts are in the making, and they have no more bytes than where no limit is passed, none is passed
pub first_passed-texts : (l : Limits) (rs : AllRegisters) (i there : PageInput) (texts : List (List ℕ)) → length texts ≡ length i.open_texts
    → stored (record i { open_texts = texts }) ≤ stored there → first_passed l (counts_in rs i) ≡ None → first_passed l (counts_in rs there) ≡ None
    → first_passed l (counts_in rs (record i { open_texts = texts })) ≡ None
first_passed-texts l rs i there texts same few none none_there =
    let now : PageInput = record i { open_texts = texts } in
    let names = neither Names (behind_title l rs i) (nat_lt l.names (length rs.named)) none in
    let title = neither Line (input_refusal l i) (nat_lt l.line (title_length rs.title)) names.1 in
    let names_there = neither Names (behind_title l rs there) (nat_lt l.names (length rs.named)) none_there in
    let title_there = neither Line (input_refusal l there) (nat_lt l.line (title_length rs.title)) names_there.1 in
    let store = neither Store (behind_store l i) (nat_lt l.store (stored i)) title.1 in
    let added = neither Names (behind_names l i) (nat_lt l.names (names_added i)) store.1 in
    let making = neither Diversions (behind_making l i) (nat_lt l.diversions (length i.open_texts - 1)) added.1 in
    first_not Names (behind_title l rs now) _ names.0
    (first_not Line (input_refusal l now) _ title.0
    (first_not Store (behind_store l now) _ (not_above l.store (stored there) (stored now) few (stored_few l there title_there.1))
    (first_not Names (behind_names l now) _ added.0
    (first_not Diversions (behind_making l now) _ (ap (λ (n : ℕ). nat_lt l.diversions (n - 1)) same ∙ making.0) making.1))))

pub first_passed-taking : (l : Limits) (rs : AllRegisters) (a : Answer) (u : Unread PageEvent)
    → first_passed l (counts_in rs u.input) ≡ None → first_passed l (counts_in rs (taking a u).1.input) ≡ None
first_passed-taking l rs a u none = first_passed-no_more l rs (taking a u).1.input u.input (NoMore-taking a u) none
