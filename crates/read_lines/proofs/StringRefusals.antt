-- What a limit refuses where a string's name is whole, or its text begins.
use Rattle.std.proofs.Common.{◌≡◌, ◌⊎◌, inl, inr, ℕ, ◌+◌, ◌-◌, ◌<◌, ◌≤◌, ◌++◌, subst, Bool, true, false, List, [], ◌∷◌, length, reverse, Option, Some, None, Err, refl, sym, ap, ◌∙◌, ◌==◌, arith, nat_lt, get_or, sum_by, if◌then◌else◌, le-ltb, lt-ltb, length-append, length-set}
use Rattle.std.proofs.lemmas.Bool.{cases_Bool}
use Rattle.std.proofs.lemmas.List.{length-reverse}
use Rattle.std.proofs.lemmas.List.Sums.{sum_by-append, sum_by-set}
use Rattle.run_state.specs.declared.composer.Composer.{Composer as ComposerOf}
use Rattle.roff_num.specs.declared.limit.Limit.{Limit}
use Rattle.roff_num.specs.declared.limit.Limit.TheVariants.{Stack, Depth, Diversions, Store, Names, Conditions}
use Rattle.roff_num.specs.declared.limits.Limits.{Limits}
use Rattle.input_model.specs.Arguments.{Arguments, held, no_arguments, settled_at, with_byte_at, with_unit, with_whole, live_bytes}
use Rattle.input_escapes.specs.OpenEscape.{texts_held, unit_bytes}
use Rattle.input_model.specs.Input.{bytes_ahead, depth, pushed, result_count}
use Rattle.input_model.specs.Input.Names.{adding, calling, calling_on, names_added, stored}
use Rattle.input_model.specs.Unread.{input_refusal}
use Rattle.input_model.specs.declared.place.Place.{Place}
use Rattle.input_model.specs.declared.place.Place.TheVariants.{Between, InPlain, InQuotes, BehindQuote}
use Rattle.input_escapes.specs.declared.open_escape.CopyUnit.{CopyUnit}
use Rattle.input_escapes.specs.declared.open_escape.CopyUnit.TheVariants.{Byte, Kept}
use Rattle.input_model.proofs.KeptArguments.{held-only_kept}
use Rattle.roff_store.specs.TextCalls.{Open, PushOpen}
use Rattle.roff_store.specs.Texts.{newest}
use Rattle.read_names.specs.FirstUnits.{first_text}
use Rattle.read_lines.specs.Reader.State.{ReaderState}
use Rattle.read_names.specs.Inputs.{InputCameTo}
use Rattle.read_lines.specs.Reader.Taken.{TakesAs}
use Rattle.run_model.specs.Reading.Items.{PageUnread, PageInput, going_on}
use Rattle.roff_num.specs.ShortNames.{name_at}
use Rattle.run_model.specs.Reading.Strings.{name_read, string_begun, string_grown, string_name_behind, string_unit}
use Rattle.run_model.specs.Reading.Units.{holding}
use Rattle.run_model.specs.declared.line_state.LineState.TheVariants.{Collecting}
use Rattle.run_model.specs.declared.purpose.Purpose.TheVariants.{StringName, StringText}
use Rattle.roff_num.specs.declared.short_name.ShortName.{ShortName}
use Rattle.run_model.proofs.InputCounts.{NoMore, NoMore-released, input_refusal-no_more, not_above, one_of}
use Rattle.read_lines.proofs.Strings.{TakesAs-not_became, other, refused_none}
use Rattle.run_model.specs.Registers.{AllRegisters}
use Rattle.run_model.specs.Run.Counts.{counts_in, first_passed}
use Rattle.run_model.specs.TitleTexts.{title_length}
use Rattle.run_model.specs.declared.line_state.LineState.{LineState}
use Rattle.roff_scan.proofs.AddedFronts.{adding-texts, texts_added}
use Rattle.read_lines.proofs.TakesAs.{TakesAs-as, few_names, short_title}

-- the first of the limits that is passed
abbrev first_of : Bool → Bool → Bool → Bool → Bool → Bool → Option Limit
first_of store names diversions stack depth conditions =
    if store then Some Store
    else if names then Some Names
    else if diversions then Some Diversions
    else if stack then Some Stack
    else if depth then Some Depth
    else if conditions then Some Conditions
    else None

-- none of them is but for that on diversions
record NonePassed (store names stack depth conditions : Bool) : Type 0 where
  store_not : store ≡ false
  names_not : names ≡ false
  stack_not : stack ≡ false
  depth_not : depth ≡ false
  conditions_not : conditions ≡ false

none_passed : (store names diversions stack depth conditions : Bool) → first_of store names diversions stack depth conditions ≡ None
    → NonePassed store names stack depth conditions
none_passed true b c d e f none = cc
none_passed false true c d e f none = cc
none_passed false false true d e f none = cc
none_passed false false false true e f none = cc
none_passed false false false false true f none = cc
none_passed false false false false false true none = cc
none_passed false false false false false false none =
    record { store_not = refl; names_not = refl; stack_not = refl; depth_not = refl; conditions_not = refl }

-- one of them is, and it isn't another than that on diversions
diversions_passed : (store names diversions stack depth conditions : Bool) (limit : Limit) → NonePassed store names stack depth conditions
    → first_of store names diversions stack depth conditions ≡ Some limit → diversions ≡ true
diversions_passed a b true d e f limit others is = refl
diversions_passed a b false d e f limit others is =
    let none : first_of a b false d e f ≡ None =
    rw (others.store_not, others.names_not, others.stack_not, others.depth_not, others.conditions_not) refl in cc

-- so it is whatever the limits behind it say
first_of-diversions : (store names diversions stack depth conditions : Bool) → store ≡ false → names ≡ false → diversions ≡ true
    → first_of store names diversions stack depth conditions ≡ Some Diversions
first_of-diversions a b c d e f room few passed = rw (room, few, passed) refl

-- the input once the argument is released and a text more is in the making
abbrev begun : PageInput → PageInput
begun i = calling Open (record i { arguments = no_arguments })

-- it stores as much
stored-begun : (i : PageInput) → stored (begun i) ≡ stored i
stored-begun i = let more = sum_by-append (λ (text : List ℕ). length text) i.open_texts ([] ∷ []) in omega (arith, more)

-- the others are passed as little as before
others_not : (l : Limits) (i : PageInput) → input_refusal l i ≡ None
    → NonePassed (nat_lt l.store (stored (begun i))) (nat_lt l.names (names_added (begun i))) (nat_lt l.stack (pushed (begun i)))
    (nat_lt l.depth (depth (begun i))) (nat_lt l.conditions (result_count (begun i)))
others_not l i none =
    let before = none_passed _ _ _ _ _ _ none in
    let released = NoMore-released i in
    record {
      store_not = ap (λ (bytes : ℕ). nat_lt l.store bytes) (stored-begun i) ∙ before.store_not;
      names_not = before.names_not;
      stack_not = not_above l.stack (pushed i) (pushed (begun i)) released.bytes before.stack_not;
      depth_not = before.depth_not;
      conditions_not = before.conditions_not;
    }

-- bytes put behind a text in the making leave as many of them
making-adding : (bytes : List ℕ) (id : Option ℕ) (i : PageInput) → length (calling_on (λ id. PushOpen id bytes) id i).open_texts ≡ length i.open_texts
making-adding bytes None i = refl
making-adding bytes (Some id) i = length-set i.open_texts id _

-- what a byte adds, by whether it is dropped in front
abbrev first_by : Option ShortName → Bool → Bool → ℕ → List ℕ
first_by None is_blank is_quote b = []
first_by (Some name) is_blank is_quote b = if is_blank then [] else if is_quote then [] else b ∷ []

first_by-text : (name : Option ShortName) (b : ℕ) → length (first_text name (Byte b)) ≡ length (first_by name (b == 32) (b == 34) b)
first_by-text None b = refl
first_by-text (Some name) b = refl

-- names stay as they are
names-adding : (bytes : List ℕ) (id : Option ℕ) (i : PageInput) → names_added (calling_on (λ id. PushOpen id bytes) id i) ≡ names_added i
names-adding bytes None i = refl
names-adding bytes (Some id) i = refl

-- bytes put behind the newest of some texts are more bytes of them
bytes-added : (bytes : List ℕ) (texts : List (List ℕ)) → 1 ≤ length texts
    → sum_by length (texts_added bytes (newest texts) texts) ≡ sum_by length texts + length bytes
bytes-added bytes [] some = absurd (omega (arith, some))
bytes-added bytes (text ∷ texts) some =
    let size : List ℕ → ℕ = length in
    let old : List ℕ = get_or (text ∷ texts) (length texts) [] in
    omega (arith, sum_by-set size (text ∷ texts) (length texts) (old ++ bytes) [] (omega arith), length-append old bytes)

-- so much is stored once a text is begun with these bytes
stored-grown : (bytes : List ℕ) (i : PageInput) → stored (adding bytes (begun i)) ≡ stored i + length bytes
stored-grown bytes i =
    let texts : List (List ℕ) = (begun i).open_texts in
    let some : 1 ≤ length texts = omega (arith, length-append i.open_texts ([] ∷ [])) in
    let grown : stored (adding bytes (begun i)) ≡ stored (record (begun i) { open_texts = texts_added bytes (newest texts) texts }) =
    ap (λ (j : PageInput). stored j) (adding-texts bytes (begun i)) in
    omega (arith, grown, bytes-added bytes texts some, stored-begun i)

-- where no text more may be begun, none is that grows, if the store has room for it
refused-grown : (l : Limits) (i : PageInput) (bytes : List ℕ) (limit : Limit) → stored i + length bytes ≤ l.store → input_refusal l i ≡ None
    → input_refusal l (begun i) ≡ Some limit → input_refusal l (adding bytes (begun i)) ≡ Some limit
refused-grown l i bytes limit room none is =
    let others = others_not l i none in
    let passed = diversions_passed _ _ _ _ _ _ limit others is in
    let same = making-adding bytes (newest (begun i).open_texts) (begun i) in
    let was = first_of-diversions _ _ _ (nat_lt l.stack (pushed (begun i))) (nat_lt l.depth (depth (begun i))) (nat_lt l.conditions (result_count (begun i)))
    others.store_not others.names_not passed in
    let grown : PageInput = adding bytes (begun i) in
    first_of-diversions _ _ _ (nat_lt l.stack (pushed grown)) (nat_lt l.depth (depth grown)) (nat_lt l.conditions (result_count grown))
    (le-ltb l.store (stored grown) (omega (arith, room, stored-grown bytes i)))
    (ap (λ (n : ℕ). nat_lt l.names n) (names-adding bytes (newest (begun i).open_texts) (begun i)) ∙ others.names_not)
    (ap (λ (n : ℕ). nat_lt l.diversions (n - 1)) same ∙ passed)
    ∙ sym was ∙ is

InputCameTo-refused_grown : (name : ShortName) (unit : CopyUnit) (before behind : PageUnread) (limit : Limit)
    → stored before.input + length (unit_bytes unit) ≤ before.limits.store → InputCameTo (string_begun (Some name) before.input) before behind (Err limit)
    → InputCameTo (string_grown (Some name) unit (string_begun (Some name) before.input)) before behind (Err limit)
InputCameTo-refused_grown name unit before behind limit room refused = record {
  becomes = λ within. refused-grown before.limits before.input (unit_bytes unit) limit room within (refused.becomes within);
}

-- the same of a byte, by whether it is dropped in front
byte-not_begun : (is_blank is_quote : Bool) (name : Option ShortName) (appends : Bool) (b : ℕ) (es : ComposerOf) (old new : ReaderState) (before behind : PageUnread)
    (limit : Limit) → stored before.input + length (first_by name is_blank is_quote b) ≤ before.limits.store
    → InputCameTo (string_begun name before.input) before behind (Err limit)
    → let i : PageInput = string_begun name before.input in
    TakesAs
    (λ k. if is_blank then going_on i (Collecting (StringText name appends true)) else if is_quote then going_on i (Collecting (StringText name appends false)) else going_on (string_grown name (Byte b) i) (Collecting (StringText name appends false)))
    es old new before behind (Err limit)
byte-not_begun true is_quote name appends b es old new before behind limit room refused =
    TakesAs-not_became _ (Collecting (StringText name appends true)) es old new before behind limit refused
byte-not_begun false true name appends b es old new before behind limit room refused =
    TakesAs-not_became _ (Collecting (StringText name appends false)) es old new before behind limit refused
byte-not_begun false false None appends b es old new before behind limit room refused =
    TakesAs-not_became _ (Collecting (StringText None appends false)) es old new before behind limit refused
byte-not_begun false false (Some name) appends b es old new before behind limit room refused =
    TakesAs-not_became _ (Collecting (StringText (Some name) appends false)) es old new before behind limit
    (InputCameTo-refused_grown name (Byte b) before behind limit room refused)

-- where a text can't be begun, its first unit isn't read
pub TakesAs-not_begun : (name : Option ShortName) (appends : Bool) (unit : CopyUnit) (es : ComposerOf) (old new : ReaderState) (before behind : PageUnread)
    (limit : Limit) → (unit ≡ Byte 10 → ⊥) → stored before.input + length (first_text name unit) ≤ before.limits.store
    → InputCameTo (string_begun name before.input) before behind (Err limit)
    → TakesAs (λ k. string_unit (string_begun name before.input) name appends true unit) es old new before behind (Err limit)
TakesAs-not_begun None appends (Kept b) es old new before behind limit no_newline room refused =
    TakesAs-not_became _ (Collecting (StringText None appends false)) es old new before behind limit refused
TakesAs-not_begun (Some name) appends (Kept b) es old new before behind limit no_newline room refused =
    TakesAs-not_became _ (Collecting (StringText (Some name) appends false)) es old new before behind limit
    (InputCameTo-refused_grown name (Kept b) before behind limit room refused)
TakesAs-not_begun name appends (Byte b) es old new before behind limit no_newline room refused =
    let newline : (b == 10) ≡ false = other b 10 (λ is. no_newline (ap (λ (c : ℕ). Byte c) is)) in
    let fits : stored before.input + length (first_by name (b == 32) (b == 34) b) ≤ before.limits.store = subst (λ (n : ℕ). stored before.input + n ≤ before.limits.store) (first_by-text name b) room in
    rw newline (byte-not_begun (b == 32) (b == 34) name appends b es old new before behind limit fits refused)

-- where the store has no room for what it adds, that is refused first
refused-first : (l : Limits) (rs : AllRegisters) (i : PageInput) → nat_lt l.names (length rs.named) ≡ false
    → nat_lt l.line (title_length rs.title) ≡ false → l.store < stored i → first_passed l (counts_in rs i) ≡ Some Store
refused-first l rs i few short full = rw (few, short, lt-ltb l.store (stored i) full) refl

TakesAs-full : (i : PageInput) (place : LineState) (es : ComposerOf) (old new : ReaderState) (before behind : PageUnread)
    → before.limits.store < stored i → TakesAs (λ k. going_on i place) es old new before behind (Err Store)
TakesAs-full i place es old new before behind full = record {
  takes = λ l h stands ready.
      refused-first before.limits old.registers.all i (few_names old.registers before ready) (short_title old.registers before ready) full;
}

byte-full : (is_blank is_quote : Bool) (name : Option ShortName) (appends : Bool) (b : ℕ) (es : ComposerOf) (old new : ReaderState) (before behind : PageUnread)
    → stored before.input ≤ before.limits.store → before.limits.store < stored before.input + length (first_by name is_blank is_quote b)
    → let i : PageInput = string_begun name before.input in
    TakesAs
    (λ k. if is_blank then going_on i (Collecting (StringText name appends true)) else if is_quote then going_on i (Collecting (StringText name appends false)) else going_on (string_grown name (Byte b) i) (Collecting (StringText name appends false)))
    es old new before behind (Err Store)
byte-full true is_quote None appends b es old new before behind within full = absurd (omega (arith, within, full))
byte-full true is_quote (Some name) appends b es old new before behind within full = absurd (omega (arith, within, full))
byte-full false true None appends b es old new before behind within full = absurd (omega (arith, within, full))
byte-full false true (Some name) appends b es old new before behind within full = absurd (omega (arith, within, full))
byte-full false false None appends b es old new before behind within full = absurd (omega (arith, within, full))
byte-full false false (Some name) appends b es old new before behind within full =
    TakesAs-full _ (Collecting (StringText (Some name) appends false)) es old new before behind (omega (arith, full, stored-grown (b ∷ []) before.input))

-- so the first unit isn't read
pub TakesAs-no_room : (name : Option ShortName) (appends : Bool) (unit : CopyUnit) (es : ComposerOf) (old new : ReaderState) (before behind : PageUnread)
    → (unit ≡ Byte 10 → ⊥) → stored before.input ≤ before.limits.store → before.limits.store < stored before.input + length (first_text name unit)
    → TakesAs (λ k. string_unit (string_begun name before.input) name appends true unit) es old new before behind (Err Store)
TakesAs-no_room None appends (Kept b) es old new before behind no_newline within full = absurd (omega (arith, within, full))
TakesAs-no_room (Some name) appends (Kept b) es old new before behind no_newline within full =
    TakesAs-full _ (Collecting (StringText (Some name) appends false)) es old new before behind (omega (arith, full, stored-grown (unit_bytes (Kept b)) before.input))
TakesAs-no_room name appends (Byte b) es old new before behind no_newline within full =
    let newline : (b == 10) ≡ false = other b 10 (λ is. no_newline (ap (λ (c : ℕ). Byte c) is)) in
    let above : before.limits.store < stored before.input + length (first_by name (b == 32) (b == 34) b) = subst (λ (n : ℕ). before.limits.store < stored before.input + n) (first_by-text name b) full in
    rw newline (byte-full (b == 32) (b == 34) name appends b es old new before behind within above)

-- the arguments behind a unit have none that is whole, or hold as many bytes as before
abbrev NoneOrAsMany : Arguments → Arguments → Type 0
NoneOrAsMany before now = (now.whole ≡ []) ⊎ (held now ≡ held before)

NoneOrAsMany-whole : (a : Arguments) → NoneOrAsMany a (with_whole a)
NoneOrAsMany-whole a = inr (let same = length-reverse a.begun in omega (arith, same))

NoneOrAsMany-byte : (place : Place) (a : Arguments) (b : ℕ) → a.whole ≡ [] → ((b ≡ 34 → ⊥) → place ≡ BehindQuote → ⊥) → NoneOrAsMany a (with_byte_at place a b)
NoneOrAsMany-byte Between a b none apart = one_of (NoneOrAsMany a) (b == 32) _ _ (inl none) (one_of (NoneOrAsMany a) (b == 34) _ _ (inl none) (inl none))
NoneOrAsMany-byte InPlain a b none apart = one_of (NoneOrAsMany a) (b == 32) _ _ (NoneOrAsMany-whole a) (inl none)
NoneOrAsMany-byte InQuotes a b none apart = one_of (NoneOrAsMany a) (b == 34) _ _ (inl none) (inl none)
NoneOrAsMany-byte BehindQuote a b none apart = elim (cases_Bool (b == 34)) [
  | inl quote ↦ rw quote (inl none)
  | inr differs ↦ absurd (apart (λ is. let same : (b == 34) ≡ true = rw is refl in cc) refl)
]

-- an escape that is kept doesn't end an argument that no quote ended
settled-none : (place : Place) (a : Arguments) → a.whole ≡ [] → (place ≡ BehindQuote → ⊥) → (settled_at place a).whole ≡ []
settled-none Between a none apart = none
settled-none InPlain a none apart = none
settled-none InQuotes a none apart = none
settled-none BehindQuote a none apart = absurd (apart refl)

NoneOrAsMany-unit : (a : Arguments) (unit : CopyUnit) → a.whole ≡ [] → ((unit ≡ Byte 34 → ⊥) → a.place ≡ BehindQuote → ⊥) → NoneOrAsMany a (with_unit a unit)
NoneOrAsMany-unit a (Byte b) none apart =
    NoneOrAsMany-byte a.place a b none (λ no_quote. apart (λ is. no_quote (ap (λ (unit : CopyUnit). elim unit [ Byte c ↦ c | Kept c ↦ c ]) is)))
NoneOrAsMany-unit a (Kept b) none apart = inl (settled-none a.place a none (apart (λ is. cc)))

-- without a first name there is no text
no_texts : (texts : List (List ℕ)) → name_at 0 texts ≡ None → length texts ≡ 0
no_texts [] none = refl
no_texts (text ∷ texts) none = cc

empty : (texts : List (List ℕ)) → length texts ≡ 0 → texts ≡ []
empty [] none = refl
empty (text ∷ texts) none = cc

none_whole : (i : PageInput) → name_read i ≡ None → i.arguments.whole ≡ []
none_whole i none = empty i.arguments.whole (sym (length-reverse i.arguments.whole) ∙ no_texts (reverse i.arguments.whole) none)

-- where as many bytes are held the unit counts for no more
NoMore-held : (i : PageInput) (unit : CopyUnit) → held (with_unit i.arguments unit) ≡ held i.arguments → NoMore (holding unit i) i
NoMore-held i unit same =
    let bytes : pushed (holding unit i) ≡ pushed i =
    ap (λ n. bytes_ahead i.ahead + n + texts_held i.escapes + live_bytes i.calls) (held-only_kept (with_unit i.arguments unit) ∙ same) in
    record { bytes = omega (arith, bytes); texts = omega arith; results = omega arith; stored = omega arith; names = omega arith; open_texts = omega arith }

-- no name is whole behind a unit that a limit refuses
no_name : (i : PageInput) (unit : CopyUnit) (l : Limits) (limit : Limit) → input_refusal l i ≡ None → input_refusal l (holding unit i) ≡ Some limit
    → NoneOrAsMany i.arguments (with_unit i.arguments unit) → name_read (holding unit i) ≡ None
no_name i unit l limit none refused (inl no_whole) = rw no_whole refl
no_name i unit l limit none refused (inr same) =
    let passes = input_refusal-no_more l (holding unit i) i (NoMore-held i unit same) none in cc

-- where a unit of a name is refused, the name isn't whole behind it
pub TakesAs-not_held : (appends : Bool) (unit : CopyUnit) (es : ComposerOf) (old new : ReaderState) (before behind : PageUnread) (limit : Limit)
    → ((unit ≡ Byte 34 → ⊥) → before.input.arguments.place ≡ BehindQuote → ⊥) → name_read before.input ≡ None
    → InputCameTo (holding unit before.input) before behind (Err limit)
    → TakesAs (λ k. string_name_behind (holding unit before.input) appends (name_read (holding unit before.input))) es old new before behind (Err limit)
TakesAs-not_held appends unit es old new before behind limit apart none refused = record {
  takes = λ l h stands ready.
      let within = refused_none old.registers before ready in
      let held = NoneOrAsMany-unit before.input.arguments unit (none_whole before.input none) apart in
      let still = no_name before.input unit before.limits limit within (refused.becomes within) held in
      let here = TakesAs-as (λ k. going_on (holding unit before.input) (Collecting (StringName appends)))
      (λ k. string_name_behind (holding unit before.input) appends (name_read (holding unit before.input))) es old new before behind (Err limit)
      (λ k. ap (string_name_behind (holding unit before.input) appends) (sym still))
      (TakesAs-not_became (holding unit before.input) (Collecting (StringName appends)) es old new before behind limit refused) in
      here.takes l h stands ready;
}
