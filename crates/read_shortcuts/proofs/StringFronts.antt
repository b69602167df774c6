-- The beginning of a string's text is read past: a quote alone, which is dropped, or bytes of which the first is kept.
use Rattle.std.proofs.Common.{◌≡◌, ℕ, zero, suc, ◌+◌, ◌≤◌, ◌==◌, Bool, true, false, ◌&&◌, List, [], ◌∷◌, ◌++◌, length, length-take, map, take, Option, Some, refl, sym, ap, subst, ◌∙◌, arith, if◌then◌else◌, eqb-true}
use Rattle.std.specs.List.{AllByRecursion}
use Rattle.std.proofs.lemmas.Bool.Decides.{nat_tests}
use Rattle.std.proofs.lemmas.List.{nil_from_length}
use Rattle.input_source.specs.Bytes.{backslash, blank, is_dropped, is_text_byte, newline, quote}
use Rattle.input_source.specs.Tape.{Tape}
use Rattle.input_model.specs.Arguments.{Arguments}
use Rattle.input_escapes.specs.OpenEscape.{OpenEscape}
use Rattle.input_escapes.specs.Waiting.{is_ended_by}
use Rattle.input_escapes.specs.declared.open_escape.CopyUnit.TheVariants.{Byte}
use Rattle.input_escapes.specs.declared.open_escape.Found.TheVariants.{Unit as GivesUnit}
use Rattle.roff_store.specs.Named.{Named}
use Rattle.roff_store.specs.Texts.{Entry, newest}
use Rattle.input_model.specs.Input.{Ahead, ByteAhead, is_none_ahead, leading}
use Rattle.input_model.specs.Input.Names.{adding}
use Rattle.input_model.specs.Looking.{is_nothing}
use Rattle.input_model.specs.Unread.{IsWithin, asks_to_take}
use Rattle.input_model.specs.declared.looked.Looked.{Looked}
use Rattle.roff_scan.proofs.AddedFronts.{adding-texts, newest-added, texts_added, texts_added-again, texts_added-none}
use Rattle.roff_scan.specs.Unread.Calls.{IsFront, NoNewline, OfSource, OfTexts, PassesFront, front_bytes, next_bytes}
use Rattle.roff_scan.specs.Unread.Runs.{TakesRun, room_for, with_stage_of}
use Rattle.roff_scan.specs.declared.run_kind.RunKind.TheVariants.{Definition}
use Rattle.roff_num.specs.declared.short_name.ShortName.{ShortName}
use Rattle.run_model.specs.PageEvents.{PageEvent}
use Rattle.run_model.specs.Reading.{byte_taking, undropped_taking}
use Rattle.run_model.specs.Reading.Units.{interrupted}
use Rattle.run_model.specs.Reading.Found.{found_in}
use Rattle.run_model.specs.Reading.Items.{PageInput, PageUnread, Taking, going_on}
use Rattle.run_model.specs.Reading.Strings.{string_entered, string_grown}
use Rattle.run_model.specs.Registers.{Known}
use Rattle.run_model.specs.Stages.{Growing, Here, Onward, Stage, Turned, input_at, stage_of}
use Rattle.run_model.specs.declared.line_state.LineState.{LineState}
use Rattle.run_model.specs.declared.line_state.LineState.TheVariants.{LineStart, Collecting}
use Rattle.run_model.specs.declared.purpose.Purpose.TheVariants.{StringText}
use Rattle.read_lines.proofs.TextTaken.{plain-found}
use Rattle.read_lines.specs.Reader.State.{ReaderState}
use Rattle.read_shortcuts.proofs.AddedRuns.{grows-added, stage_with, turned-added}
use Rattle.read_shortcuts.proofs.RunsRead.{first_of_front, passed-charge, reads-bytes, reads-taken, turned-behind}
use Rattle.read_shortcuts.specs.Stages.{ReadsPast}
use Rattle.read_shortcuts.specs.Runs.{TakesReady, ready_allowed}
use Rattle.read_shortcuts.specs.StringFronts.{AreKept, BeginsKept, IsQuoted, bytes_of_front, text_front}
use Rattle.read_shortcuts.specs.declared.strings.TextFront.{TextFront}
use Rattle.read_shortcuts.specs.declared.strings.TextFront.TheVariants.{Quote, Kept, Other}

-- where the text is read, in front of it or behind its beginning
abbrev at_text : ShortName → Bool → Bool → LineState
at_text name appends is_front = Collecting (StringText (Some name) appends is_front)

-- a byte of plain text is none of three
record IsPlain (b : ℕ) : Type 0 where
  undropped : is_dropped b ≡ false
  no_escape : (b == backslash) ≡ false
  no_newline : (b == newline) ≡ false

plain_parts : (b : ℕ) → is_text_byte b ≡ true → IsPlain b
plain_parts b plain = record {
  undropped = grind (arith, nat_tests, plain);
  no_escape = grind (arith, nat_tests, plain);
  no_newline = grind (arith, nat_tests, plain);
}

module _ (k : Known) (i : PageInput) (name : ShortName) (appends : Bool) (none_half : i.escapes ≡ []) where
  -- a byte of plain text is found as itself
  text-found : (is_front : Bool) (b : ℕ) → IsPlain b
      → byte_taking k (at_text name appends is_front) i b ≡ found_in k i (at_text name appends is_front) (GivesUnit (Byte b))
  text-found is_front b plain =
      let reading : LineState = at_text name appends is_front in
      ap (λ (c : Bool). if c then going_on (interrupted reading i) reading else undropped_taking k reading i b) plain.undropped
      ∙ sym (plain-found k reading i b none_half plain.no_escape)

  -- what is put behind the text
  abbrev grown : ℕ → Taking
  grown b = going_on (string_grown (Some name) (Byte b) i) (at_text name appends false)

  abbrev ended : Taking
  ended = going_on (string_entered (Some name) appends i) LineStart

  -- behind the beginning it is put behind the text
  text-adds : (b : ℕ) → IsPlain b → byte_taking k (at_text name appends false) i b ≡ going_on (adding (b ∷ []) i) (at_text name appends false)
  text-adds b plain =
      text-found false b plain
      ∙ ap (λ (c : Bool). if c then ended else grown b) plain.no_newline

  -- and at the beginning, if it is kept there
  front-adds : (b : ℕ) → IsPlain b → (b == blank) ≡ false → (b == quote) ≡ false
      → byte_taking k (at_text name appends true) i b ≡ going_on (adding (b ∷ []) i) (at_text name appends false)
  front-adds b plain no_blank no_quote =
      let dropped : Taking = going_on i (at_text name appends true) in
      let unquoted : Taking = going_on i (at_text name appends false) in
      text-found true b plain
      ∙ ap (λ (c : Bool). if c then ended else if b == blank then dropped else if b == quote then unquoted else grown b) plain.no_newline
      ∙ ap (λ (c : Bool). if c then dropped else if b == quote then unquoted else grown b) no_blank
      ∙ ap (λ (c : Bool). if c then unquoted else grown b) no_quote

  -- a quote is dropped there
  quote-dropped : byte_taking k (at_text name appends true) i quote ≡ going_on i (at_text name appends false)
  quote-dropped = sym (plain-found k (at_text name appends true) i quote none_half refl)

-- bytes of which the first is kept lead behind the beginning
module _ (names : Named Entry) (name : ShortName) (appends : Bool) (half : List OpenEscape) (a : Arguments) (texts : List (List ℕ)) (none_half : half ≡ []) where
  turned-front : (b : ℕ) (bytes : List ℕ) → (b == blank) ≡ false → (b == quote) ≡ false → AllByRecursion (λ c. is_text_byte c ≡ true) (b ∷ bytes)
      → Turned names (stage_with (at_text name appends true) half a texts) (b ∷ bytes)
      (stage_with (at_text name appends false) half a (texts_added (b ∷ bytes) (newest texts) texts))
  turned-front b bytes no_blank no_quote plain =
      let reading : LineState = at_text name appends false in
      let one : List (List ℕ) = texts_added (b ∷ []) (newest texts) texts in
      let last : List (List ℕ) = texts_added (b ∷ bytes) (newest texts) texts in
      let p : Stage = stage_with (at_text name appends true) half a texts in
      let leads : texts_added bytes (newest one) one ≡ last =
      ap (λ (id : Option ℕ). texts_added bytes id one) (newest-added (b ∷ []) (newest texts) texts) ∙ texts_added-again b bytes texts in
      Growing p (stage_with reading half a one) (stage_with reading half a last) b bytes refl (ap (λ (h : List OpenEscape). is_ended_by h (Some b)) none_half)
      (λ k i. front-adds k (input_at names p i) name appends none_half b (plain_parts b plain.0) no_blank no_quote
      ∙ ap (λ (j : PageInput). going_on j reading) (adding-texts (b ∷ []) (input_at names p i)))
      (grows-added (b ∷ []) texts) (omega arith) (omega arith)
      (subst (λ (grown : List (List ℕ)). Turned names (stage_with reading half a one) bytes (stage_with reading half a grown)) leads
      (turned-added names reading half a one bytes none_half refl (λ c text k i bare. text-adds k i name appends bare c (plain_parts c text)) plain.1))

  -- a quote does
  turned-quote : Turned names (stage_with (at_text name appends true) half a texts) (quote ∷ []) (stage_with (at_text name appends false) half a texts)
  turned-quote =
      let p : Stage = stage_with (at_text name appends true) half a texts in
      let q : Stage = stage_with (at_text name appends false) half a texts in
      Onward p q q quote [] refl (ap (λ (h : List OpenEscape). is_ended_by h (Some quote)) none_half)
      (λ k i. quote-dropped k (input_at names p i) name appends none_half) refl (omega arith) (omega arith) (Here q)

-- what bytes are that begin with a quote, or with a byte that is kept
front-parted : (b : ℕ) (rest : List ℕ) (t u : Bool) (kind : TextFront) → (b == quote) ≡ t → (b == blank) ≡ u → (if t then Quote else if u then Other else Kept) ≡ kind
    → (kind ≡ Quote → IsQuoted (b ∷ rest)) × (kind ≡ Kept → AreKept (b ∷ rest))
front-parted b rest true u kind quoted blank is =
    (λ here. record { rest = rest; are = ap (λ (c : ℕ). c ∷ rest) (eqb-true b quote quoted) }, λ here. cc)
front-parted b rest false true kind quoted blank is = (λ here. cc, λ here. cc)
front-parted b rest false false kind quoted blank is =
    (λ here. cc, λ here. record { first = b; rest = rest; are = refl; no_blank = blank; no_quote = quoted })

pub front-quoted : (bytes : List ℕ) → text_front bytes ≡ Quote → IsQuoted bytes
front-quoted [] is = cc
front-quoted (b ∷ rest) is = (front-parted b rest (b == quote) (b == blank) Quote refl refl is).0 refl

pub front-kept : (bytes : List ℕ) → text_front bytes ≡ Kept → AreKept bytes
front-kept [] is = cc
front-kept (b ∷ rest) is = (front-parted b rest (b == quote) (b == blank) Kept refl refl is).1 refl

-- where bytes were taken as those that stand ready begin, as many were taken as the ones in front say
pub takes-front : (front ready : List ℕ) (u after : PageUnread) (kind : TextFront) → (asks_to_take u ≡ true → front ≡ ready_allowed u ready)
    → text_front front ≡ kind → TakesReady (bytes_of_front kind u ready) u after
    → TakesReady (bytes_of_front (text_front (ready_allowed u ready)) u ready) u after
takes-front front ready u after kind whole is takes = λ asks.
    takes asks ∙ ap (λ (k : TextFront). u.input.charge + length (bytes_of_front k u ready)) (sym is ∙ ap text_front (whole asks))

-- where a quote is the first of the bytes in front, one byte of them is a quote, and no newline
module _ (ready front : List ℕ) (u : PageUnread) (front_is : front ≡ front_bytes (length front) ready u) (quoted : IsQuoted front) where
  quote_some : 1 ≤ length front
  quote_some =
      let len = ap (λ (bytes : List ℕ). length bytes) quoted.are in
      omega (arith, len)

  pub quote-front : front_bytes 1 ready u ≡ quote ∷ []
  quote-front = sym (first_of_front front 1 ready u front_is quote_some) ∙ ap (take 1) quoted.are

  pub quote-no_newline : NoNewline (front_bytes 1 ready u)
  quote-no_newline = subst (λ (bytes : List ℕ). NoNewline bytes) (sym quote-front) (refl, tt)

  pub quote-is_front : IsFront (length front) ready u → IsFront 1 ready u
  quote-is_front is = record { among = omega (arith, quote_some, is.among); within = omega (arith, quote_some, is.within) }

pub takes-quote : (gave gives : Tape → Type 0) (ready front : List ℕ) (before after : PageUnread) → front ≡ front_bytes (length front) ready before → IsQuoted front
    → PassesFront gave gives (front_bytes 1 ready before) before after → TakesReady (quote ∷ []) before after
takes-quote gave gives ready front before after is quoted passes = λ asks.
    passed-charge gave gives (front_bytes 1 ready before) before after passes
    ∙ ap (λ (bytes : List ℕ). before.input.charge + length bytes) (quote-front ready front before is quoted)

-- bytes in front begin as those that come next
front-first : (b : ℕ) (bytes all : List ℕ) (n : ℕ) → b ∷ bytes ≡ take n all → (rest : List ℕ) × (all ≡ b ∷ rest)
front-first b bytes [] n is =
    let some = ap (λ (xs : List ℕ). length xs) is in
    let none = length-take {A = ℕ} n [] in
    absurd (omega (arith, some, none))
front-first b bytes (c ∷ all) zero is = cc
front-first b bytes (c ∷ all) (suc n) is = (all, cc)

pub begins-kept : (ready front : List ℕ) (u : PageUnread) → front ≡ front_bytes (length front) ready u → AreKept front → BeginsKept ready u
begins-kept ready front u front_is kept =
    let first = front-first kept.first kept.rest (next_bytes u.input.ahead u.looked ready) (length front) (sym kept.are ∙ front_is) in
    record { first = kept.first; rest = first.0; are = first.1; no_blank = kept.no_blank; no_quote = kept.no_quote }

-- a quote alone was read past
pub reads-quote : (gave gives : Tape → Type 0) (ready front : List ℕ) (r new : ReaderState) (name : ShortName) (appends : Bool) (before after : PageUnread)
    → r.reading ≡ at_text name appends true → before.input.escapes ≡ [] → front ≡ front_bytes (length front) ready before → IsQuoted front
    → PassesFront gave gives (front_bytes 1 ready before) before after → IsWithin after → new ≡ record r { reading = at_text name appends false }
    → ReadsPast gave gives r new before after
reads-quote gave gives ready front r new name appends before after is none_half front_is quoted passes within came =
    let i : PageInput = before.input in
    let one : front_bytes 1 ready before ≡ quote ∷ [] = quote-front ready front before front_is quoted in
    let turned : Turned i.names (stage_of (at_text name appends true) i) (quote ∷ []) (stage_of (at_text name appends false) i) =
    turned-quote i.names name appends i.escapes i.arguments i.open_texts none_half in
    reads-bytes gave gives (quote ∷ []) r new before after
    (subst (λ (bytes : List ℕ). PassesFront gave gives bytes before after) one passes)
    (subst (λ (reading : LineState). Turned i.names (stage_of r.reading i) (quote ∷ []) (stage_of reading i)) (sym (ap (λ (n : ReaderState). n.reading) came))
    (subst (λ (reading : LineState). Turned i.names (stage_of reading i) (quote ∷ []) (stage_of (at_text name appends false) i)) (sym is) turned))
    (ap (λ (n : ReaderState). n.registers) came) (ap (λ (n : ReaderState). n.meaning) came) within

-- the first byte of a list that begins with one that is kept
kept-first : (b : ℕ) (all more : List ℕ) → all ≡ b ∷ more → AreKept all → ((b == blank) ≡ false) × ((b == quote) ≡ false)
kept-first b all more is kept =
    let same : kept.first ∷ kept.rest ≡ b ∷ more = sym kept.are ∙ is in
    let first : kept.first ≡ b = cc in
    (subst (λ (c : ℕ). (c == blank) ≡ false) first kept.no_blank, subst (λ (c : ℕ). (c == quote) ≡ false) first kept.no_quote)

-- bytes that are the first of a list begin as it does
taken-first : (b : ℕ) (bytes all : List ℕ) (n m : ℕ) → b ∷ bytes ≡ take n (take m all) → (rest : List ℕ) × (all ≡ b ∷ rest)
taken-first b bytes [] n m is =
    let some = ap (λ (xs : List ℕ). length xs) is in
    let few = length-take {A = ℕ} n (take m []) in
    let none = length-take {A = ℕ} m [] in
    absurd (omega (arith, some, few, none))
taken-first b bytes (c ∷ all) zero m is = cc
taken-first b bytes (c ∷ all) (suc n) zero is = cc
taken-first b bytes (c ∷ all) (suc n) (suc m) is = (all, cc)

module _ (gave gives : Tape → Type 0) (ready : List ℕ) (count : ℕ) (before after : PageUnread) (took : TakesRun Definition gave gives ready count before after) where
  -- the bytes that come next begin with those that were taken
  next-taken : (b : ℕ) (bytes : List ℕ) → took.bytes ≡ b ∷ bytes → PassesFront gave gives took.bytes before (record after { input = with_stage_of before.input after.input })
      → (rest : List ℕ) × (next_bytes before.input.ahead before.looked ready ≡ b ∷ rest)
  next-taken b bytes is (OfTexts passes) =
      let ahead : before.input.ahead ≡ ByteAhead b ∷ (map ByteAhead bytes ++ passes.behind) =
      passes.in_front ∙ ap (λ (all : List ℕ). map ByteAhead all ++ passes.behind) is in
      (leading (map ByteAhead bytes ++ passes.behind), ap (λ (items : List (Ahead PageEvent)). next_bytes items before.looked ready) ahead)
  next-taken b bytes is (OfSource passes) =
      let asks : asks_to_take before ≡ true =
      ap (λ (items : List (Ahead PageEvent)). is_none_ahead items && is_nothing before.looked) passes.ahead
      ∙ ap (λ (looked : Looked). is_nothing looked) passes.looked in
      let first = taken-first b bytes ready _ (room_for Definition before) (sym is ∙ took.whole refl asks) in
      let next : next_bytes before.input.ahead before.looked ready ≡ ready =
      ap (λ (items : List (Ahead PageEvent)). next_bytes items before.looked ready) passes.ahead
      ∙ ap (λ (looked : Looked). next_bytes {E = PageEvent} [] looked ready) passes.looked in
      (first.0, next ∙ first.1)

  -- where none was taken the stage stays
  pub reads-no_text : (r : ReaderState) → count ≡ 0 → IsWithin after → ReadsPast gave gives r r before after
  reads-no_text r none_taken within =
      let i : PageInput = before.input in
      let none : took.bytes ≡ [] = nil_from_length took.bytes (took.length_is ∙ none_taken) in
      let texts : after.input.open_texts ≡ i.open_texts =
      took.texts ∙ ap (λ (bytes : List ℕ). (adding bytes i).open_texts) none
      ∙ ap (λ (j : PageInput). j.open_texts) (adding-texts [] i) ∙ texts_added-none (newest i.open_texts) i.open_texts in
      let same : Turned i.names (stage_of r.reading i) [] (stage_of r.reading after.input) =
      turned-behind i.names (stage_of r.reading i) [] r.reading after.input i.escapes i.arguments i.open_texts took.half_read took.arguments texts (Here (stage_of r.reading i)) in
      reads-taken Definition gave gives ready count r r before after took
      (subst (λ (bytes : List ℕ). Turned i.names (stage_of r.reading i) bytes (stage_of r.reading after.input)) (sym none) same) refl refl within

  module _ (r new : ReaderState) (name : ShortName) (appends : Bool) (is : r.reading ≡ at_text name appends true) (none_half : before.input.escapes ≡ [])
      (kept : BeginsKept ready before) (within : IsWithin after) (came : new ≡ record r { reading = at_text name appends false }) where
    -- these bytes lead there
    turned-taken : (bytes : List ℕ) → took.bytes ≡ bytes → 1 ≤ length bytes
        → Turned before.input.names (stage_of (at_text name appends true) before.input) bytes (stage_of (at_text name appends false) after.input)
    turned-taken [] bytes_are some = absurd (omega (arith, some))
    turned-taken (b ∷ bytes) bytes_are some =
        let i : PageInput = before.input in
        let next = next-taken b bytes bytes_are took.passes in
        let first = kept-first b (next_bytes i.ahead before.looked ready) next.0 next.1 kept in
        let plain : AllByRecursion (λ (c : ℕ). is_text_byte c ≡ true) (b ∷ bytes) =
        subst (λ (all : List ℕ). AllByRecursion (λ (c : ℕ). is_text_byte c ≡ true) all) bytes_are took.are_of in
        let texts : after.input.open_texts ≡ texts_added (b ∷ bytes) (newest i.open_texts) i.open_texts =
        took.texts ∙ ap (λ (all : List ℕ). (adding all i).open_texts) bytes_are ∙ ap (λ (j : PageInput). j.open_texts) (adding-texts (b ∷ bytes) i) in
        turned-behind i.names (stage_of (at_text name appends true) i) (b ∷ bytes) (at_text name appends false) after.input i.escapes i.arguments
        (texts_added (b ∷ bytes) (newest i.open_texts) i.open_texts) took.half_read took.arguments texts
        (turned-front i.names name appends i.escapes i.arguments i.open_texts none_half b bytes first.0 first.1 plain)

    -- bytes of which the first is kept were read past
    pub reads-text : 1 ≤ count → ReadsPast gave gives r new before after
    reads-text some =
        let i : PageInput = before.input in
        let turned = turned-taken took.bytes refl (rw took.length_is some) in
        reads-taken Definition gave gives ready count r new before after took
        (subst (λ (reading : LineState). Turned i.names (stage_of r.reading i) took.bytes (stage_of reading after.input)) (sym (ap (λ (n : ReaderState). n.reading) came))
        (subst (λ (reading : LineState). Turned i.names (stage_of reading i) took.bytes (stage_of (at_text name appends false) after.input)) (sym is) turned))
        (ap (λ (n : ReaderState). n.registers) came) (ap (λ (n : ReaderState). n.meaning) came) within
