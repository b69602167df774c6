-- The arguments of a call in quotes, byte by byte.
use Rattle.std.proofs.Common.{◌≡◌, ℕ, zero, suc, ◌+◌, ◌≤◌, Bool, true, false, List, ◌∷◌, ◌++◌, length, refl, ap, sym, subst, ◌∙◌, arith, append_assoc, [], All, ◌||◌, nat_le, reverse, sum_by, take, if◌then◌else◌, ◌==◌, eqb-true, append-nil}
use Rattle.std.specs.List.{flat_map}
use Rattle.std.proofs.Math.Seq.{take-nil}
use Rattle.std.proofs.lemmas.Bool.Decides.{nat_tests}
use Rattle.std.proofs.lemmas.List.{length-reverse, reverse-reverse}
use Rattle.std.proofs.lemmas.List.Elements.{All-head, All-tail}
use Rattle.input_model.proofs.KeptArguments.{reverse-cons}
use Rattle.input_model.specs.Arguments.{Arguments, finished, held, kept_behind, only_kept, settled, total_length, with_argument_byte}
use Rattle.input_source.specs.Bytes.{backslash, blank, is_dropped, newline, quote}
use Rattle.input_escapes.specs.OpenEscape.{Backslash}
use Rattle.input_escapes.specs.OpenEscapes.{byte_read}
use Rattle.input_model.specs.Input.Calls.{calling_body}
use Rattle.input_model.specs.Input.Names.{body_named}
use Rattle.input_arguments.specs.Quoting.{quoted_byte, quoted_line}
use Rattle.input_model.specs.declared.place.Place.{Place}
use Rattle.input_model.specs.declared.place.Place.TheVariants.{BehindQuote, Between, InQuotes}
use Rattle.input_escapes.specs.declared.open_escape.CopyUnit.TheVariants.{Byte}
use Rattle.input_escapes.specs.declared.open_escape.Found.TheVariants.{GoesOn, Unit as GivesUnit}
use Rattle.input_escapes.specs.declared.open_escape.Surroundings.TheVariants.{Arguments as AboveArguments}
use Rattle.roff_store.specs.Named.{Named}
use Rattle.roff_store.specs.Texts.{Entry}
use Rattle.law_reading.proofs.Interpolation.{IsRead, IsRead-itself}
use Rattle.run_model.proofs.ItemsTaken.{not-first, not-second}
use Rattle.run_model.proofs.PlainRuns.{Here, Most, Onward, Path}
use Rattle.law_reading.proofs.QuotedArguments.{itself-quoted_line}
use Rattle.law_reading.specs.InterpolationLaws.{StandsForItself}
use Rattle.run_model.specs.Reading.{undropped_taking}
use Rattle.run_model.specs.Reading.Calls.{holding_call}
use Rattle.run_model.specs.Reading.Found.{read_in}
use Rattle.run_model.specs.Reading.Items.{PageInput, Taking, going_on}
use Rattle.run_model.specs.Reading.Units.{settling}
use Rattle.roff_num.specs.ShortNames.{name_bytes}
use Rattle.run_model.specs.Stages.{Stage, Turns, input_at}
use Rattle.run_model.specs.declared.line_state.LineState.{LineState}
use Rattle.run_model.specs.declared.line_state.LineState.TheVariants.{LineStart, Collecting}
use Rattle.run_model.specs.declared.purpose.Purpose.TheVariants.{Calling}
use Rattle.roff_num.specs.declared.short_name.ShortName.{ShortName}
use Rattle.run_model.proofs.NameBytes.{stage}

-- the arguments of a call behind a byte: up to the ninth they are held
abbrev pub hold : Arguments → ℕ → Arguments
hold a b = if nat_le 9 (length a.whole) then a else only_kept (with_argument_byte a b)

abbrev pub call_byte : Arguments → ℕ → Arguments
call_byte a b = if b == quote then hold a b else hold (only_kept (settled a)) b

-- an input that holds other arguments, or doesn't
holding-if : (c : Bool) (i : PageInput) (a there : Arguments) → (if c then record i { arguments = a } else record i { arguments = there }) ≡ record i { arguments = if c then a else there }
holding-if true i a there = refl
holding-if false i a there = refl

pub going_on-if : (c : Bool) (i : PageInput) (reading : LineState) (a there : Arguments)
    → (if c then going_on (record i { arguments = a }) reading else going_on (record i { arguments = there }) reading) ≡ going_on (record i { arguments = if c then a else there }) reading
going_on-if true i reading a there = refl
going_on-if false i reading a there = refl

-- a byte of a call goes to its arguments
pub turns-call : (names : Named Entry) (name : ShortName) (a : Arguments) (texts : List (List ℕ)) (b : ℕ) → StandsForItself b
    → Turns names (stage (Collecting (Calling name)) a texts) b (stage (Collecting (Calling name)) (call_byte a b) texts)
turns-call names name a texts b itself k i =
    let reading : LineState = Collecting (Calling name) in
    let here : PageInput = input_at names (stage reading a texts) i in
    let read : IsRead b = IsRead-itself b itself in
    let unit : byte_read AboveArguments [] b ≡ (GivesUnit (Byte b), []) =
    ap (λ (c : Bool). if c then (GoesOn, Backslash ∷ []) else (GivesUnit (Byte b), [])) (not-first (b == backslash) (is_dropped b || b == newline) itself) in
    let others : Taking = if b == quote then going_on (holding_call (Byte b) here) reading else going_on (holding_call (Byte b) (settling here)) reading in
    ap (λ (c : Bool). if c then going_on (settling here) reading else undropped_taking k reading here b) (not-first (is_dropped b) (b == newline) read)
    ∙ ap (read_in k (Collecting (Calling name)) here) unit
    ∙ ap (λ (c : Bool). if c then going_on (calling_body (body_named (name_bytes name) here) here) LineStart else others) (not-second (is_dropped b) (b == newline) read)
    ∙ ap (λ (j : PageInput). if b == quote then going_on j reading else going_on (holding_call (Byte b) (settling here)) reading)
    (holding-if (nat_le 9 (length a.whole)) here a (only_kept (with_argument_byte a b)))
    ∙ ap (λ (j : PageInput). if b == quote then going_on (record here { arguments = hold a b }) reading else going_on j reading)
    (holding-if (nat_le 9 (length (only_kept (settled a)).whole)) here (only_kept (settled a)) (only_kept (with_argument_byte (only_kept (settled a)) b)))
    ∙ going_on-if (b == quote) here reading (hold a b) (hold (only_kept (settled a)) b)

-- arguments that are read so far
abbrev pub arguments_at : List (List ℕ) → List ℕ → Place → Arguments
arguments_at whole begun place = record { whole = whole; begun = begun; place = place }

-- few of them are all kept
kept-few : (n : ℕ) (texts : List (List ℕ)) → length texts ≤ n → kept_behind n texts ≡ texts
kept-few zero [] few = refl
kept-few zero (text ∷ texts) few = absurd (omega (arith, few))
kept-few (suc n) [] few = refl
kept-few (suc n) (text ∷ texts) few = ap (λ (others : List (List ℕ)). text ∷ others) (kept-few n texts (omega (arith, few)))

pub only_kept-few : (whole : List (List ℕ)) (begun : List ℕ) (place : Place) → length whole ≤ 32 → only_kept (arguments_at whole begun place) ≡ arguments_at whole begun place
only_kept-few whole begun place few =
    ap (λ (texts : List (List ℕ)). arguments_at (reverse texts) begun place) (kept-few 32 (reverse whole) (omega (arith, few, length-reverse whole)))
    ∙ ap (λ (texts : List (List ℕ)). arguments_at texts begun place) (reverse-reverse whole)

-- a byte is held where fewer than nine are whole
pub hold-few : (whole : List (List ℕ)) (begun : List ℕ) (place : Place) (b : ℕ) → length whole ≤ 8
    → hold (arguments_at whole begun place) b ≡ only_kept (with_argument_byte (arguments_at whole begun place) b)
hold-few whole begun place b few =
    let a : Arguments = arguments_at whole begun place in
    let room : nat_le 9 (length whole) ≡ false = grind (arith, nat_tests, few) in
    ap (λ (c : Bool). if c then a else only_kept (with_argument_byte a b)) room

-- the quote that begins an argument
call_byte-opening : (whole : List (List ℕ)) → length whole ≤ 8 → call_byte (arguments_at whole [] Between) quote ≡ arguments_at whole [] InQuotes
call_byte-opening whole few = hold-few whole [] Between quote few ∙ only_kept-few whole [] InQuotes (omega (arith, few))

-- a quote within quotes
call_byte-closing : (whole : List (List ℕ)) (begun : List ℕ) → length whole ≤ 8
    → call_byte (arguments_at whole begun InQuotes) quote ≡ arguments_at whole begun BehindQuote
call_byte-closing whole begun few = hold-few whole begun InQuotes quote few ∙ only_kept-few whole begun BehindQuote (omega (arith, few))

-- and one behind it
call_byte-again : (whole : List (List ℕ)) (begun : List ℕ) → length whole ≤ 8
    → call_byte (arguments_at whole begun BehindQuote) quote ≡ arguments_at whole (quote ∷ begun) InQuotes
call_byte-again whole begun few = hold-few whole begun BehindQuote quote few ∙ only_kept-few whole (quote ∷ begun) InQuotes (omega (arith, few))

-- any other byte within quotes
call_byte-inside : (whole : List (List ℕ)) (begun : List ℕ) (b : ℕ) → length whole ≤ 8 → (b == quote) ≡ false
    → call_byte (arguments_at whole begun InQuotes) b ≡ arguments_at whole (b ∷ begun) InQuotes
call_byte-inside whole begun b few is =
    let a : Arguments = arguments_at whole begun InQuotes in
    let there : Arguments = arguments_at whole (b ∷ begun) InQuotes in
    ap (λ (c : Bool). if c then hold a b else hold (only_kept a) b) is
    ∙ ap (λ (all : Arguments). hold all b) (only_kept-few whole begun InQuotes (omega (arith, few)))
    ∙ hold-few whole begun InQuotes b few
    ∙ ap (λ (c : Bool). only_kept (if c then arguments_at whole begun BehindQuote else there)) is
    ∙ only_kept-few whole (b ∷ begun) InQuotes (omega (arith, few))

-- a blank between arguments
hold-blank : (c : Bool) (whole : List (List ℕ)) → length whole ≤ 9
    → (if c then arguments_at whole [] Between else only_kept (arguments_at whole [] Between)) ≡ arguments_at whole [] Between
hold-blank true whole few = refl
hold-blank false whole few = only_kept-few whole [] Between (omega (arith, few))

call_byte-blank : (whole : List (List ℕ)) (begun : List ℕ) → length whole ≤ 8
    → call_byte (arguments_at whole begun BehindQuote) blank ≡ arguments_at (reverse begun ∷ whole) [] Between
call_byte-blank whole begun few =
    ap (λ (all : Arguments). hold all blank) (only_kept-few (reverse begun ∷ whole) [] Between (omega (arith, few)))
    ∙ hold-blank (nat_le 9 (length (reverse begun ∷ whole))) (reverse begun ∷ whole) (omega (arith, few))

-- nothing is held behind the ninth
pub same-if : (c : Bool) (a : Arguments) → (if c then a else a) ≡ a
same-if true a = refl
same-if false a = refl

pub call_byte-full : (whole : List (List ℕ)) (b : ℕ) → length whole ≡ 9 → call_byte (arguments_at whole [] Between) b ≡ arguments_at whole [] Between
call_byte-full whole b full =
    let a : Arguments = arguments_at whole [] Between in
    let same : only_kept a ≡ a = only_kept-few whole [] Between (omega (arith, full)) in
    let holds : hold a b ≡ a = ap (λ (n : ℕ). if nat_le 9 n then a else only_kept (with_argument_byte a b)) full in
    ap (λ (all : Arguments). if b == quote then hold a b else hold all b) same
    ∙ ap (λ (all : Arguments). if b == quote then all else all) holds
    ∙ same-if (b == quote) a

-- what may be held on the way
abbrev pub most_of : ℕ → List (List ℕ) → Most
most_of most texts = record { held = most; stored = sum_by length texts; texts = length texts }

-- a byte of a call, and others behind it
onward-call : (names : Named Entry) (name : ShortName) (texts : List (List ℕ)) (most : ℕ) (a there : Arguments) (b : ℕ) (bytes : List ℕ) (r : Stage) → StandsForItself b
    → call_byte a b ≡ there → held there ≤ held a + 1 → held there ≤ most → Path (most_of most texts) names (stage (Collecting (Calling name)) there texts) bytes r
    → Path (most_of most texts) names (stage (Collecting (Calling name)) a texts) (b ∷ bytes) r
onward-call names name texts most a there b bytes r itself is grows few path =
    Onward (stage (Collecting (Calling name)) a texts) (stage (Collecting (Calling name)) there texts) r b bytes refl refl
    (subst (λ (all : Arguments). Turns names (stage (Collecting (Calling name)) a texts) b (stage (Collecting (Calling name)) all texts)) is (turns-call names name a texts b itself))
    (record { none_half = refl; held_few = few; stored_few = omega arith; texts_few = omega arith }) grows path

-- a byte within quotes is written so, and others behind it
path-quoted_byte : (names : Named Entry) (name : ShortName) (texts : List (List ℕ)) (most : ℕ) (whole : List (List ℕ)) (begun : List ℕ) (b : ℕ) (is_quote : Bool) (bytes more : List ℕ) (r : Stage)
    → (b == quote) ≡ is_quote → StandsForItself b → length whole ≤ 8 → total_length whole + length begun + 1 ≤ most
    → Path (most_of most texts) names (stage (Collecting (Calling name)) (arguments_at whole (b ∷ begun) InQuotes) texts) (bytes ++ more) r
    → Path (most_of most texts) names (stage (Collecting (Calling name)) (arguments_at whole begun InQuotes) texts) ((if is_quote then quote ∷ quote ∷ [] else b ∷ []) ++ bytes ++ more) r
path-quoted_byte names name texts most whole begun b true bytes more r is itself few small path =
    let there : Arguments = arguments_at whole (quote ∷ begun) InQuotes in
    onward-call names name texts most (arguments_at whole begun InQuotes) (arguments_at whole begun BehindQuote) quote (quote ∷ bytes ++ more) r refl
    (call_byte-closing whole begun few) (omega arith) (omega (arith, small))
    (onward-call names name texts most (arguments_at whole begun BehindQuote) there quote (bytes ++ more) r refl
    (call_byte-again whole begun few) (omega arith) (omega (arith, small))
    (subst (λ c. Path (most_of most texts) names (stage (Collecting (Calling name)) (arguments_at whole (c ∷ begun) InQuotes) texts) (bytes ++ more) r) (eqb-true b quote is) path))
path-quoted_byte names name texts most whole begun b false bytes more r is itself few small path =
    onward-call names name texts most (arguments_at whole begun InQuotes) (arguments_at whole (b ∷ begun) InQuotes) b (bytes ++ more) r itself
    (call_byte-inside whole begun b few is) (omega arith) (omega (arith, small)) path

-- the bytes of an argument within quotes, and the quote behind them
path-in_quotes : (names : Named Entry) (name : ShortName) (texts : List (List ℕ)) (most : ℕ) (whole : List (List ℕ)) (begun argument more : List ℕ) (r : Stage)
    → All StandsForItself argument → length whole ≤ 8 → total_length whole + length begun + length argument ≤ most
    → Path (most_of most texts) names (stage (Collecting (Calling name)) (arguments_at whole (reverse argument ++ begun) BehindQuote) texts) more r
    → Path (most_of most texts) names (stage (Collecting (Calling name)) (arguments_at whole begun InQuotes) texts) (flat_map quoted_byte argument ++ quote ∷ more) r
path-in_quotes names name texts most whole begun [] more r themselves few small path =
    onward-call names name texts most (arguments_at whole begun InQuotes) (arguments_at whole begun BehindQuote) quote more r refl
    (call_byte-closing whole begun few) (omega arith) (omega (arith, small)) path
path-in_quotes names name texts most whole begun (b ∷ argument) more r themselves few small path =
    let same : reverse (b ∷ argument) ++ begun ≡ reverse argument ++ b ∷ begun =
    ap (λ (front : List ℕ). front ++ begun) (reverse-cons b argument) ∙ append_assoc (reverse argument) (b ∷ []) begun in
    path-quoted_byte names name texts most whole begun b (b == quote) (flat_map quoted_byte argument) (quote ∷ more) r refl
    (All-head StandsForItself b argument themselves) few (omega (arith, small))
    (path-in_quotes names name texts most whole (b ∷ begun) argument more r (All-tail StandsForItself b argument themselves) few (omega (arith, small))
    (subst (λ (all : List ℕ). Path (most_of most texts) names (stage (Collecting (Calling name)) (arguments_at whole all BehindQuote) texts) more r) same path))

-- nothing is held of bytes behind the ninth
path-full : (names : Named Entry) (name : ShortName) (texts : List (List ℕ)) (most : ℕ) (whole : List (List ℕ)) (bytes : List ℕ) → All StandsForItself bytes
    → length whole ≡ 9 → total_length whole ≤ most
    → Path (most_of most texts) names (stage (Collecting (Calling name)) (arguments_at whole [] Between) texts) bytes (stage (Collecting (Calling name)) (arguments_at whole [] Between) texts)
path-full names name texts most whole [] themselves full small = Here (stage (Collecting (Calling name)) (arguments_at whole [] Between) texts)
path-full names name texts most whole (b ∷ bytes) themselves full small =
    let a : Arguments = arguments_at whole [] Between in
    onward-call names name texts most a a b bytes (stage (Collecting (Calling name)) a texts) (All-head StandsForItself b bytes themselves)
    (call_byte-full whole b full) (omega arith) (omega (arith, small))
    (path-full names name texts most whole bytes (All-tail StandsForItself b bytes themselves) full small)

-- arguments in quotes are read, behind those that are whole, and these are given then
pub record ReadsArguments (names : Named Entry) (name : ShortName) (texts : List (List ℕ)) (most : ℕ) (from : Arguments) (bytes : List ℕ) (as_given : List (List ℕ)) : Type 0 where
  pub there : Arguments
  pub path : Path (most_of most texts) names (stage (Collecting (Calling name)) from texts) bytes (stage (Collecting (Calling name)) there texts)
  pub given : reverse (only_kept (finished there)).whole ≡ as_given

-- those that are whole are given
given-whole : (whole : List (List ℕ)) → length whole ≤ 9 → reverse (only_kept (arguments_at whole [] Between)).whole ≡ reverse whole
given-whole whole few = ap (λ (a : Arguments). reverse a.whole) (only_kept-few whole [] Between (omega (arith, few)))

-- an argument more is given
given-more : (whole others : List (List ℕ)) (argument : List ℕ) → reverse (argument ∷ whole) ++ others ≡ reverse whole ++ argument ∷ others
given-more whole others argument =
    ap (λ (front : List (List ℕ)). front ++ others) (reverse-cons argument whole) ∙ append_assoc (reverse whole) (argument ∷ []) others

pub reads-arguments : (names : Named Entry) (name : ShortName) (texts : List (List ℕ)) (most : ℕ) (whole : List (List ℕ)) (n : ℕ) (arguments : List (List ℕ))
    → All (All StandsForItself) arguments → length whole + n ≡ 9 → total_length whole + total_length (take n arguments) ≤ most
    → ReadsArguments names name texts most (arguments_at whole [] Between) (quoted_line arguments) (reverse whole ++ take n arguments)
reads-arguments names name texts most whole n [] themselves places small = record {
  there = arguments_at whole [] Between;
  path = Here (stage (Collecting (Calling name)) (arguments_at whole [] Between) texts);
  given = given-whole whole (omega (arith, places)) ∙ sym (append-nil (reverse whole)) ∙ ap (λ (others : List (List ℕ)). reverse whole ++ others) (sym (take-nil n));
}
reads-arguments names name texts most whole zero (argument ∷ arguments) themselves places small = record {
  there = arguments_at whole [] Between;
  path = path-full names name texts most whole (quoted_line (argument ∷ arguments)) (itself-quoted_line (argument ∷ arguments) themselves) (omega (arith, places)) (omega (arith, small));
  given = given-whole whole (omega (arith, places)) ∙ sym (append-nil (reverse whole));
}
reads-arguments names name texts most whole (suc n) (argument ∷ []) themselves places small =
    let few : length whole ≤ 8 = omega (arith, places) in
    let begun : List ℕ = reverse argument ++ [] in
    let there : Arguments = arguments_at whole begun BehindQuote in
    let same : reverse begun ≡ argument = ap reverse (append-nil (reverse argument)) ∙ reverse-reverse argument in
    record {
      there = there;
      path =
          onward-call names name texts most (arguments_at whole [] Between) (arguments_at whole [] InQuotes) quote (flat_map quoted_byte argument ++ quote ∷ []) (stage (Collecting (Calling name)) there texts) refl
          (call_byte-opening whole few) (omega arith) (omega (arith, small))
          (path-in_quotes names name texts most whole [] argument [] (stage (Collecting (Calling name)) there texts) (All-head (All StandsForItself) argument [] themselves) few (omega (arith, small))
          (Here (stage (Collecting (Calling name)) there texts)));
      given =
          given-whole (reverse begun ∷ whole) (omega (arith, few))
          ∙ ap (λ (text : List ℕ). reverse (text ∷ whole)) same
          ∙ reverse-cons argument whole
          ∙ ap (λ (others : List (List ℕ)). reverse whole ++ argument ∷ others) (sym (take-nil n));
    }
reads-arguments names name texts most whole (suc n) (argument ∷ next ∷ arguments) themselves places small =
    let few : length whole ≤ 8 = omega (arith, places) in
    let others : List (List ℕ) = next ∷ arguments in
    let begun : List ℕ = reverse argument ++ [] in
    let same : reverse begun ≡ argument = ap reverse (append-nil (reverse argument)) ∙ reverse-reverse argument in
    let reads = reads-arguments names name texts most (argument ∷ whole) n others (All-tail (All StandsForItself) argument others themselves) (omega (arith, places)) (omega (arith, small)) in
    let end : Stage = stage (Collecting (Calling name)) reads.there texts in
    let behind : Path (most_of most texts) names (stage (Collecting (Calling name)) (arguments_at whole begun BehindQuote) texts) (blank ∷ quoted_line others) end =
    onward-call names name texts most (arguments_at whole begun BehindQuote) (arguments_at (argument ∷ whole) [] Between) blank (quoted_line others) end refl
    (call_byte-blank whole begun few ∙ ap (λ (text : List ℕ). arguments_at (text ∷ whole) [] Between) same)
    (omega (arith, ap length (sym same), length-reverse begun)) (omega (arith, small)) reads.path in
    record {
      there = reads.there;
      path =
          onward-call names name texts most (arguments_at whole [] Between) (arguments_at whole [] InQuotes) quote
          ((flat_map quoted_byte argument ++ quote ∷ []) ++ blank ∷ quoted_line others) end refl
          (call_byte-opening whole few) (omega arith) (omega (arith, small))
          (subst (λ (bytes : List ℕ). Path (most_of most texts) names (stage (Collecting (Calling name)) (arguments_at whole [] InQuotes) texts) bytes end)
          (sym (append_assoc (flat_map quoted_byte argument) (quote ∷ []) (blank ∷ quoted_line others)))
          (path-in_quotes names name texts most whole [] argument (blank ∷ quoted_line others) end (All-head (All StandsForItself) argument others themselves) few (omega (arith, small)) behind));
      given = reads.given ∙ given-more whole (take n others) argument;
    }
