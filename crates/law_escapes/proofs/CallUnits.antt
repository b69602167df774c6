-- What a call holds of the units of its line, and of those that copy mode makes of an escape.
use Rattle.std.proofs.Common.{◌≡◌, ℕ, ◌+◌, ◌≤◌, Bool, true, false, List, [], ◌∷◌, ◌++◌, length, refl, ap, sym, subst, ◌∙◌, arith, All, ◌||◌, ◌&&◌, fold, nat_le, not, reverse, if◌then◌else◌, ◌==◌, eqb-true, leb-true}
use Rattle.std.proofs.lemmas.Bool.Decides.{nat_tests}
use Rattle.std.proofs.lemmas.List.Elements.{All-head, All-tail}
use Rattle.roff_num.specs.declared.short_name.ShortName.{ShortName}
use Rattle.input_model.proofs.KeptArguments.{held-only_kept, held-settled}
use Rattle.input_model.specs.Arguments.{Arguments, held, only_kept, settled, with_argument_byte, with_kept, with_unit}
use Rattle.input_model.specs.declared.place.Place.{Place}
use Rattle.input_model.specs.declared.place.Place.TheVariants.{Between, InPlain, InQuotes, BehindQuote}
use Rattle.input_source.specs.Bytes.{backslash, dot, is_dropped, newline, quote, tab}
use Rattle.roff_store.specs.Named.{Named}
use Rattle.roff_store.specs.Texts.{Entry}
use Rattle.input_escapes.proofs.Copying.{taken-copied}
use Rattle.input_escapes.specs.EscapeLaws.{begins_reading, is_only_copied}
use Rattle.input_escapes.specs.OpenEscape.{Backslash, unit_bytes}
use Rattle.input_escapes.specs.OpenEscapes.{byte_read, unit_taken}
use Rattle.input_escapes.specs.declared.open_escape.CopyUnit.{CopyUnit}
use Rattle.input_escapes.specs.declared.open_escape.CopyUnit.TheVariants.{Byte, Kept}
use Rattle.input_escapes.specs.declared.open_escape.Found.TheVariants.{GoesOn, Unit as GivesUnit}
use Rattle.input_escapes.specs.declared.open_escape.Surroundings.TheVariants.{Arguments as AboveArguments}
use Rattle.input_model.specs.Input.Names.{body_named}
use Rattle.roff_num.specs.ShortNames.{name_bytes}
use Rattle.law_escapes.proofs.Ways.{Done, One, Two, Way}
use Rattle.law_escapes.specs.Parts.{IsOnlyCopied}
use Rattle.law_escapes.specs.TextsInCalls.{unit_behind, units_of}
use Rattle.law_reading.proofs.CalledArguments.{arguments_at, call_byte, hold, most_of, only_kept-few, turns-call}
use Rattle.law_reading.proofs.Interpolation.{OnCall, settled_for-settled_for}
use Rattle.law_reading.proofs.ReadArguments.{Agrees, Full, Same, agrees-bytes, agrees-kept, held-call_byte}
use Rattle.law_reading.specs.ConditionLaws.{is_whole}
use Rattle.law_reading.specs.DefinitionLaws.{IsOfLine}
use Rattle.law_reading.specs.InterpolationLaws.{StandsForItself}
use Rattle.run_model.proofs.ItemsTaken.{not-first, not-second}
use Rattle.run_model.proofs.NameBytes.{stage}
use Rattle.run_model.specs.Reading.{undropped_taking}
use Rattle.run_model.specs.Reading.Calls.{call_unit, holding_call}
use Rattle.run_model.specs.Reading.Units.{settling}
use Rattle.input_model.specs.Input.Calls.{calling_body}
use Rattle.run_model.specs.Reading.Found.{read_in}
use Rattle.run_model.specs.Reading.Items.{PageInput, Taking, going_on}
use Rattle.run_model.specs.Stages.{Stage, Turns, input_at}
use Rattle.run_model.specs.declared.line_state.LineState.{LineState}
use Rattle.run_model.specs.declared.line_state.LineState.TheVariants.{LineStart, Collecting}
use Rattle.run_model.specs.declared.purpose.Purpose.TheVariants.{Calling}

-- a unit that a backslash gives with the byte behind it: it neither ends the line nor quotes
pub data IsBehind : CopyUnit → Type 0 where
  AByte : (b : ℕ) → (b == newline) ≡ false → (b == quote) ≡ false → IsBehind (Byte b)
  Stays : (b : ℕ) → IsBehind (Kept b)

-- bytes of a line of arguments, and their units
pub data AreUnits : List ℕ → List CopyUnit → Type 0 where
  NoUnit : AreUnits [] []
  Itself : (b : ℕ) (line : List ℕ) (units : List CopyUnit) → StandsForItself b → AreUnits line units → AreUnits (b ∷ line) (Byte b ∷ units)
  Escaped : (unit : CopyUnit) (b : ℕ) (line : List ℕ) (units : List CopyUnit) → is_dropped b ≡ false → byte_read AboveArguments (Backslash ∷ []) b ≡ (GivesUnit unit, []) → IsBehind unit
      → AreUnits line units → AreUnits (backslash ∷ b ∷ line) (unit ∷ units)

-- those of bytes without interpolations and comments
reads-behind : (is_newline is_backslash is_dot is_tab : Bool) (b : ℕ) → is_newline ≡ false
    → (if is_newline then (GoesOn, []) else if is_backslash then unit_taken [] (Byte backslash) else if is_dot then unit_taken [] (Byte dot) else if is_tab then unit_taken [] (Byte tab) else unit_taken [] (Kept b))
    ≡ (GivesUnit (if is_backslash then Byte backslash else if is_dot then Byte dot else if is_tab then Byte tab else Kept b), [])
reads-behind true is_backslash is_dot is_tab b is = absurd (cc)
reads-behind false true is_dot is_tab b is = refl
reads-behind false false true is_tab b is = refl
reads-behind false false false true b is = refl
reads-behind false false false false b is = refl

is-behind : (is_backslash is_dot is_tab : Bool) (b : ℕ) → IsBehind (if is_backslash then Byte backslash else if is_dot then Byte dot else if is_tab then Byte tab else Kept b)
is-behind true is_dot is_tab b = AByte backslash refl refl
is-behind false true is_tab b = AByte dot refl refl
is-behind false false true b = AByte tab refl refl
is-behind false false false b = Stays b

both_hold : (a b : Bool) → (a && b) ≡ true → (a ≡ true) × (b ≡ true)
both_hold true b both = (refl, both)
both_hold false b both = absurd (cc)

not-true : (c : Bool) → not c ≡ true → c ≡ false
not-true true is = absurd (cc)
not-true false is = refl

stands-itself : (b : ℕ) (is_backslash : Bool) → (b == backslash) ≡ is_backslash → is_backslash ≡ false → IsOfLine b → StandsForItself b
stands-itself b true same is of_line = absurd (cc)
stands-itself b false same is of_line = ap (λ (c : Bool). not (c || (is_dropped b || b == newline))) same ∙ of_line

units-two : (is : Bool) (b c : ℕ) (line : List ℕ) → (b == backslash) ≡ is → IsOfLine b → IsOfLine c
    → (if is then not (begins_reading c) && is_only_copied line else is_only_copied (c ∷ line)) ≡ true → (if is then is_whole line else is_whole (c ∷ line)) ≡ true
    → (is_only_copied line ≡ true → is_whole line ≡ true → AreUnits line (units_of line))
    → (is_only_copied (c ∷ line) ≡ true → is_whole (c ∷ line) ≡ true → AreUnits (c ∷ line) (units_of (c ∷ line)))
    → AreUnits (b ∷ c ∷ line) (if is then unit_behind c ∷ units_of line else Byte b ∷ units_of (c ∷ line))
units-two true b c line is of_line of_line_too only whole behind behind_plain =
    let both = both_hold (not (begins_reading c)) (is_only_copied line) only in
    let none : (c == newline) ≡ false = not-second (is_dropped c) (c == newline) of_line_too in
    let reads : byte_read AboveArguments (Backslash ∷ []) c ≡ (GivesUnit (unit_behind c), []) =
    taken-copied AboveArguments c refl (not-true (begins_reading c) both.0) ∙ reads-behind (c == newline) (c == backslash) (c == dot) (c == 116) c none in
    subst (λ (e : ℕ). AreUnits (e ∷ c ∷ line) (unit_behind c ∷ units_of line)) (sym (eqb-true b backslash is))
    (Escaped (unit_behind c) c line (units_of line) (not-first (is_dropped c) (c == newline) of_line_too) reads (is-behind (c == backslash) (c == dot) (c == 116) c) (behind both.1 whole))
units-two false b c line is of_line of_line_too only whole behind behind_plain =
    Itself b (c ∷ line) (units_of (c ∷ line)) (stands-itself b (b == backslash) refl is of_line) (behind_plain only whole)

units-of : (line : List ℕ) → All IsOfLine line → is_only_copied line ≡ true → is_whole line ≡ true → AreUnits line (units_of line)
units-of [] bytes only whole = NoUnit
units-of (b ∷ []) bytes only whole = Itself b [] [] (stands-itself b (b == backslash) refl (not-true (b == backslash) whole) (All-head IsOfLine b [] bytes)) NoUnit
units-of (b ∷ c ∷ line) bytes only whole =
    let others : All IsOfLine (c ∷ line) = All-tail IsOfLine b (c ∷ line) bytes in
    units-two (b == backslash) b c line refl (All-head IsOfLine b (c ∷ line) bytes) (All-head IsOfLine c line others) only whole
    (units-of line (All-tail IsOfLine c line others)) (units-of (c ∷ line) others)

pub units-line : (line : List ℕ) → IsOnlyCopied line → AreUnits line (units_of line)
units-line line is = units-of line is.bytes is.only_copied is.whole

-- the arguments of a call behind a unit: up to the ninth they are held
abbrev hold_unit : Arguments → CopyUnit → Arguments
hold_unit a unit = if nat_le 9 (length a.whole) then a else only_kept (with_unit a unit)

abbrev pub call_unit_held : Arguments → CopyUnit → Arguments
call_unit_held a (Byte b) = call_byte a b
call_unit_held a (Kept b) = hold_unit (only_kept (settled a)) (Kept b)

-- where a backslash was read of it
abbrev escaping : ShortName → List (List ℕ) → Arguments → Stage
escaping name texts a = record (stage (Collecting (Calling name)) (only_kept (settled a)) texts) { escapes = Backslash ∷ [] }

-- the byte behind it gives a unit
holding-if : (c : Bool) (i : PageInput) (a there : Arguments) → (if c then record i { arguments = a } else record i { arguments = there }) ≡ record i { arguments = if c then a else there }
holding-if true i a there = refl
holding-if false i a there = refl

holds-unit : (names : Named Entry) (name : ShortName) (a : Arguments) (texts : List (List ℕ)) (unit : CopyUnit) (i : PageInput) → IsBehind unit
    → let here : Arguments → PageInput = λ h. record i { escapes = []; arguments = h; names = names; open_texts = texts } in
    call_unit (here (only_kept (settled a))) name unit ≡ going_on (here (call_unit_held a unit)) (Collecting (Calling name))
holds-unit names name a texts _ i (AByte b ends quotes) =
    let here : Arguments → PageInput = λ h. record i { escapes = []; arguments = h; names = names; open_texts = texts } in
    let z : Arguments = only_kept (settled a) in
    let others : Taking = going_on (holding_call (Byte b) (settling (here z))) (Collecting (Calling name)) in
    let quoted : Taking = going_on (holding_call (Byte b) (here z)) (Collecting (Calling name)) in
    ap (λ (c : Bool). if c then going_on (calling_body (body_named (name_bytes name) (here z)) (here z)) LineStart else if b == quote then quoted else others) ends
    ∙ ap (λ (c : Bool). if c then quoted else others) quotes
    ∙ ap (λ (h : Arguments). going_on (holding_call (Byte b) (here h)) (Collecting (Calling name))) (settled_for-settled_for (Collecting (Calling name)) a (OnCall name))
    ∙ ap (λ (j : PageInput). going_on j (Collecting (Calling name))) (holding-if (nat_le 9 (length z.whole)) (here z) z (only_kept (with_argument_byte z b)))
    ∙ ap (λ (c : Bool). going_on (here (if c then hold a b else hold z b)) (Collecting (Calling name))) (sym quotes)
holds-unit names name a texts _ i (Stays b) =
    let here : Arguments → PageInput = λ h. record i { escapes = []; arguments = h; names = names; open_texts = texts } in
    let z : Arguments = only_kept (settled a) in
    ap (λ (h : Arguments). going_on (holding_call (Kept b) (here h)) (Collecting (Calling name))) (settled_for-settled_for (Collecting (Calling name)) a (OnCall name))
    ∙ ap (λ (j : PageInput). going_on j (Collecting (Calling name))) (holding-if (nat_le 9 (length z.whole)) (here z) z (only_kept (with_kept z b)))

turns-unit : (names : Named Entry) (name : ShortName) (a : Arguments) (texts : List (List ℕ)) (unit : CopyUnit) (b : ℕ) → is_dropped b ≡ false
    → byte_read AboveArguments (Backslash ∷ []) b ≡ (GivesUnit unit, []) → IsBehind unit → Turns names (escaping name texts a) b (stage (Collecting (Calling name)) (call_unit_held a unit) texts)
turns-unit names name a texts unit b is_kept reads behind k i =
    let reading : LineState = Collecting (Calling name) in
    let here : PageInput = input_at names (escaping name texts a) i in
    ap (λ (c : Bool). if c then going_on (settling here) reading else undropped_taking k reading here b) is_kept
    ∙ ap (read_in k (Collecting (Calling name)) here) reads
    ∙ holds-unit names name a texts unit i behind

-- how much is held
held-hold_unit : (c : Bool) (a : Arguments) (b : ℕ) → held (if c then a else only_kept (with_kept a b)) ≤ held a + 2
held-hold_unit true a b = omega arith
held-hold_unit false a b = omega (arith, held-only_kept (with_kept a b), held-settled a)

held-unit : (a : Arguments) (unit : CopyUnit) → held (call_unit_held a unit) ≤ held a + length (unit_bytes unit)
held-unit a (Byte b) = (held-call_byte a b).1
held-unit a (Kept b) =
    let z : Arguments = only_kept (settled a) in omega (arith, held-hold_unit (nat_le 9 (length z.whole)) z b, held-only_kept (settled a), held-settled a)

unit-length : (unit : CopyUnit) → length (unit_bytes unit) ≤ 2
unit-length (Byte b) = omega arith
unit-length (Kept b) = omega arith

pub held-units : (a : Arguments) (line : List ℕ) (units : List CopyUnit) → AreUnits line units → held (fold call_unit_held a units) ≤ held a + length line
held-units a _ _ NoUnit = omega arith
held-units a _ _ (Itself b line units itself others) = omega (arith, held-units (call_byte a b) line units others, held-unit a (Byte b))
held-units a _ _ (Escaped unit b line units is_kept reads behind others) = omega (arith, held-units (call_unit_held a unit) line units others, held-unit a unit, unit-length unit)

-- the units of a line go to the arguments
pub way-call : (names : Named Entry) (name : ShortName) (texts : List (List ℕ)) (most : ℕ) (a : Arguments) (line : List ℕ) (units : List CopyUnit) → AreUnits line units
    → held a + length line ≤ most → Way (most_of most texts) names (stage (Collecting (Calling name)) a texts) line (stage (Collecting (Calling name)) (fold call_unit_held a units) texts)
way-call names name texts most a _ _ NoUnit few = Done (stage (Collecting (Calling name)) a texts)
way-call names name texts most a _ _ (Itself b line units itself others) few =
    let next : Arguments = call_byte a b in
    let grows : held next ≤ held a + 1 = held-unit a (Byte b) in
    One (stage (Collecting (Calling name)) a texts) (stage (Collecting (Calling name)) next texts) (stage (Collecting (Calling name)) (fold call_unit_held next units) texts) b line refl refl (turns-call names name a texts b itself)
    (record { none_half = refl; held_few = omega (arith, grows, few); stored_few = omega arith; texts_few = omega arith }) grows
    (way-call names name texts most next line units others (omega (arith, grows, few)))
way-call names name texts most a _ _ (Escaped unit b line units is_kept reads behind others) few =
    let next : Arguments = call_unit_held a unit in
    let grows : held next ≤ held a + 2 = omega (arith, held-unit a unit, unit-length unit) in
    let same : held (only_kept (settled a)) ≡ held a = held-only_kept (settled a) ∙ held-settled a in
    Two (stage (Collecting (Calling name)) a texts) (escaping name texts a) (stage (Collecting (Calling name)) next texts) (stage (Collecting (Calling name)) (fold call_unit_held next units) texts) backslash b line refl refl (λ k i. refl)
    (record { none_half = refl; held_few = omega (arith, same, few); stored_few = omega arith; texts_few = omega arith }) (omega (arith, same)) refl refl
    (turns-unit names name a texts unit b is_kept reads behind) (record { none_half = refl; held_few = omega (arith, grows, few); stored_few = omega arith; texts_few = omega arith }) grows
    (way-call names name texts most next line units others (omega (arith, grows, few)))

-- what is held is what the line is read as, behind an escape that stays too
kept-few : (whole : List (List ℕ)) (begun : List ℕ) (place : Place) (b : ℕ) → length whole ≤ 8 → settled (arguments_at whole begun place) ≡ arguments_at whole begun place
    → hold_unit (only_kept (settled (arguments_at whole begun place))) (Kept b) ≡ only_kept (with_kept (arguments_at whole begun place) b)
kept-few whole begun place b few same =
    let a : Arguments = arguments_at whole begun place in
    let room : nat_le 9 (length whole) ≡ false = grind (arith, nat_tests, few) in
    ap (λ (all : Arguments). hold_unit (only_kept all) (Kept b)) same
    ∙ ap (λ (all : Arguments). hold_unit all (Kept b)) (only_kept-few whole begun place (omega (arith, few)))
    ∙ ap (λ (c : Bool). if c then a else only_kept (with_kept a b)) room

kept-nine : (whole : List (List ℕ)) (b : ℕ) → length whole ≡ 9 → hold_unit (only_kept (arguments_at whole [] Between)) (Kept b) ≡ arguments_at whole [] Between
kept-nine whole b full =
    let a : Arguments = arguments_at whole [] Between in
    ap (λ (all : Arguments). hold_unit all (Kept b)) (only_kept-few whole [] Between (omega (arith, full)))
    ∙ ap (λ (n : ℕ). if nat_le 9 n then a else only_kept (with_kept a b)) full

kept-whole : (whole : List (List ℕ)) (b : ℕ) (c : Bool) → nat_le (length whole) 8 ≡ c → length whole ≤ 9
    → Agrees (hold_unit (only_kept (arguments_at whole [] Between)) (Kept b)) (with_kept (arguments_at whole [] Between) b)
kept-whole whole b true is few =
    let small : length whole ≤ 8 = leb-true (length whole) 8 is in
    subst (λ (a : Arguments). Agrees a (with_kept (arguments_at whole [] Between) b)) (sym (kept-few whole [] Between b small refl)) (agrees-kept whole (b ∷ backslash ∷ []) InPlain small tt)
kept-whole whole b false is few =
    let full : length whole ≡ 9 = grind (arith, nat_tests, is, few) in
    subst (λ (a : Arguments). Agrees a (with_kept (arguments_at whole [] Between) b)) (sym (kept-nine whole b full)) (Full whole [] (b ∷ backslash ∷ []) InPlain full)

kept-same : (place : Place) (whole : List (List ℕ)) (begun : List ℕ) (b : ℕ) → length whole ≤ 8
    → Agrees (hold_unit (only_kept (settled (arguments_at whole begun place))) (Kept b)) (with_kept (arguments_at whole begun place) b)
kept-same Between whole begun b few =
    subst (λ (a : Arguments). Agrees a (with_kept (arguments_at whole begun Between) b)) (sym (kept-few whole begun Between b few refl)) (agrees-kept whole (b ∷ backslash ∷ begun) InPlain few tt)
kept-same InPlain whole begun b few =
    subst (λ (a : Arguments). Agrees a (with_kept (arguments_at whole begun InPlain) b)) (sym (kept-few whole begun InPlain b few refl)) (agrees-kept whole (b ∷ backslash ∷ begun) InPlain few tt)
kept-same InQuotes whole begun b few =
    subst (λ (a : Arguments). Agrees a (with_kept (arguments_at whole begun InQuotes) b)) (sym (kept-few whole begun InQuotes b few refl)) (agrees-kept whole (b ∷ backslash ∷ begun) InQuotes few tt)
kept-same BehindQuote whole begun b few =
    let w : List (List ℕ) = reverse begun ∷ whole in kept-whole w b (nat_le (length w) 8) refl (omega (arith, few))

kept-full : (place : Place) (whole more : List (List ℕ)) (begun : List ℕ) (b : ℕ) → length whole ≡ 9 → Agrees (arguments_at whole [] Between) (with_kept (arguments_at (more ++ whole) begun place) b)
kept-full Between whole more begun b full = Full whole more (b ∷ backslash ∷ begun) InPlain full
kept-full InPlain whole more begun b full = Full whole more (b ∷ backslash ∷ begun) InPlain full
kept-full InQuotes whole more begun b full = Full whole more (b ∷ backslash ∷ begun) InQuotes full
kept-full BehindQuote whole more begun b full = Full whole (reverse begun ∷ more) (b ∷ backslash ∷ []) InPlain full

agrees-unit : (a u : Arguments) (unit : CopyUnit) → Agrees a u → Agrees (call_unit_held a unit) (with_unit u unit)
agrees-unit a u (Byte b) agrees = agrees-bytes a u (b ∷ []) agrees
agrees-unit _ _ (Kept b) (Same whole begun place few clean) = kept-same place whole begun b few
agrees-unit _ _ (Kept b) (Full whole more begun place full) =
    subst (λ (a : Arguments). Agrees a (with_kept (arguments_at (more ++ whole) begun place) b)) (sym (kept-nine whole b full)) (kept-full place whole more begun b full)

pub agrees-units : (a u : Arguments) (units : List CopyUnit) → Agrees a u → Agrees (fold call_unit_held a units) (fold with_unit u units)
agrees-units a u [] agrees = agrees
agrees-units a u (unit ∷ units) agrees = agrees-units (call_unit_held a unit) (with_unit u unit) units (agrees-unit a u unit agrees)

-- units of bytes one behind another
units-append-two : (is : Bool) (b c : ℕ) (front behind : List ℕ) → (if is then is_whole front else is_whole (c ∷ front)) ≡ true
    → (is_whole front ≡ true → units_of (front ++ behind) ≡ units_of front ++ units_of behind)
    → (is_whole (c ∷ front) ≡ true → units_of (c ∷ front ++ behind) ≡ units_of (c ∷ front) ++ units_of behind)
    → (if is then unit_behind c ∷ units_of (front ++ behind) else Byte b ∷ units_of (c ∷ front ++ behind)) ≡ (if is then unit_behind c ∷ units_of front else Byte b ∷ units_of (c ∷ front)) ++ units_of behind
units-append-two true b c front behind whole others others_too = ap (λ (rest : List CopyUnit). unit_behind c ∷ rest) (others whole)
units-append-two false b c front behind whole others others_too = ap (λ (rest : List CopyUnit). Byte b ∷ rest) (others_too whole)

units-plain : (b : ℕ) (behind : List ℕ) → (b == backslash) ≡ false → units_of (b ∷ behind) ≡ Byte b ∷ units_of behind
units-plain b [] plain = refl
units-plain b (c ∷ behind) plain = ap (λ (x : Bool). if x then unit_behind c ∷ units_of behind else Byte b ∷ units_of (c ∷ behind)) plain

pub units-append : (front behind : List ℕ) → is_whole front ≡ true → units_of (front ++ behind) ≡ units_of front ++ units_of behind
units-append [] behind whole = refl
units-append (b ∷ []) behind whole = units-plain b behind (not-true (b == backslash) whole)
units-append (b ∷ c ∷ front) behind whole = units-append-two (b == backslash) b c front behind whole (units-append front behind) (units-append (c ∷ front) behind)
