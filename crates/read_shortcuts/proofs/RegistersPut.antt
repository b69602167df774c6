-- The escape of a register or a string that was taken at once, and its text in front.
use Rattle.std.proofs.Common.{◌≡◌, ℕ, ◌+◌, ◌<◌, ◌≤◌, ◌==◌, Bool, true, false, not, List, [], ◌∷◌, ◌++◌, length, map, Option, Some, None, Result, refl, sym, ap, subst, ◌∙◌, arith, IfSome, ne_eqb}
use Rattle.run_state.specs.Composer.Standing.{StandFor}
use Rattle.run_state.specs.declared.composer.Composer.{Composer as ComposerOf}
use Rattle.input_escapes.specs.OpenEscape.{OpenEscape}
use Rattle.input_model.proofs.Counts.{bytes_ahead-bytes, ends_ahead-bytes}
use Rattle.input_model.specs.Input.{Ahead, ByteAhead, EndAhead, bytes_ahead, counting, depth, ends_ahead, lines_taken, pushed, pushing}
use Rattle.input_model.specs.Input.Names.{body_named}
use Rattle.input_model.specs.Unread.{IsWithin, changing, input_refusal, unless_passed}
use Rattle.roff_num.specs.ShortNames.{name_bytes}
use Rattle.roff_num.specs.declared.limit.Limit.{Limit}
use Rattle.roff_num.specs.declared.limits.Limits.{Limits}
use Rattle.roff_num.specs.declared.short_name.ShortName.{ShortName}
use Rattle.read_lines.specs.Reader.State.{ReaderState}
use Rattle.run_model.proofs.InputCounts.{IsWithin-allowed, NoMore-interrupted}
use Rattle.run_model.specs.Environments.{PageHistory}
use Rattle.run_model.specs.Reading.Items.{PageInput, PageUnread}
use Rattle.run_model.specs.Reading.Units.{interrupted}
use Rattle.run_model.specs.Registers.{text_of_register}
use Rattle.run_model.specs.Run.{known_at}
use Rattle.run_model.specs.TurnsToCome.{free_ahead, turns_to_come}
use Rattle.run_model.specs.PageEvents.{PageEvent}
use Rattle.run_model.specs.declared.line_state.LineState.{LineState}
use Rattle.run_model.specs.declared.line_state.LineState.TheVariants.{Collecting}
use Rattle.run_model.specs.declared.purpose.Purpose.TheVariants.{Arguments as InArguments, Calling, StringName}
use Rattle.roff_scan.proofs.Changing.{IsWithin-pushing}
use Rattle.roff_scan.proofs.PassingAhead.{bytes_taken-is}
use Rattle.roff_scan.specs.Unread.Calls.{IsFront, NoNewline, OfSource, OfTexts, PassesFront, front_bytes}
use Rattle.input_source.specs.Bytes.{backslash, is_dropped, newline}
use Rattle.input_source.specs.Tape.{Tape}
use Rattle.read_shortcuts.specs.Registers.{Asked, OfArgument, OfRegister, OfString, AsksText, BeginsEscape, HasLongNames, IsNameFor, IsNameOf, IsRegisterAhead, IsStringAhead, PutsRegister, PutsText, ReadsNames, escape_behind, escape_of, letter_of, register_escape, text_asked, with_text}
use Rattle.read_shortcuts.proofs.HeldRuns.{none_of_three}
use Rattle.read_shortcuts.proofs.RunsRead.{first_of_front, passed-charge}
use Rattle.read_shortcuts.proofs.RegisterNames.{asks_text, reads_escape-alone}

-- no newline is in such an escape
letter_no_newline : (asked : Asked) → (letter_of asked == newline) ≡ false
letter_no_newline OfRegister = refl
letter_no_newline OfString = refl
letter_no_newline OfArgument = refl

pub no_newline : (asked : Asked) (first : ℕ) (second : Option ℕ) → IsNameOf first second → NoNewline (escape_behind asked first second)
no_newline asked first None is = (refl, (letter_no_newline asked, ((none_of_three (first == backslash) (is_dropped first) (first == newline) is.0).1.1, tt)))
no_newline asked first (Some second) is = (
  refl,
  (
    letter_no_newline asked,
    (
      refl,
      (
        (none_of_three (first == backslash) (is_dropped first) (first == newline) is.0).1.1,
        ((none_of_three (second == backslash) (is_dropped second) (second == newline) is.1).1.1, tt),
      ),
    ),
  ),
)

-- bytes of texts cost their own
pub free_ahead-bytes : (text : List ℕ) (items : List (Ahead PageEvent)) → free_ahead (map ByteAhead text ++ items) ≡ free_ahead items
free_ahead-bytes [] items = refl
free_ahead-bytes (b ∷ text) items = free_ahead-bytes text items

-- bytes of the source change what is counted alone
pub lines_taken-counts : (bytes : List ℕ) (i : PageInput) → let j : PageInput = lines_taken bytes i in j ≡ record i { charge = j.charge; newlines = j.newlines; line = j.line }
lines_taken-counts [] i = refl
lines_taken-counts (b ∷ bytes) i = lines_taken-counts bytes (counting b i)

lines_taken-charge : (bytes : List ℕ) (i : PageInput) → (lines_taken bytes i).charge ≡ i.charge + length bytes
lines_taken-charge [] i = omega arith
lines_taken-charge (b ∷ bytes) i =
    let rest = lines_taken-charge bytes (counting b i) in omega (arith, rest)

-- What bytes that were taken at once leave: no more is counted, the limits are the same, and fewer turns are to come.
pub record Leaves (before passed : PageUnread) : Type 0 where
  pub same : passed.limits ≡ before.limits
  pub less : pushed passed.input ≤ pushed before.input
  pub fewer : depth passed.input ≤ depth before.input
  pub turns : turns_to_come passed < turns_to_come before
  pub half : passed.input.escapes ≡ before.input.escapes

pub leaves : (gave gives : Tape → Type 0) (bytes : List ℕ) (before passed : PageUnread) → 1 ≤ length bytes → PassesFront gave gives bytes before passed → Leaves before passed
leaves gave gives bytes before passed some (OfSource passes) =
    let i : PageInput = before.input in
    let j : PageInput = lines_taken bytes i in
    let charged : j.charge ≡ i.charge + length bytes = lines_taken-charge bytes i in
    let there : PageUnread = record before { input = record i { charge = j.charge; newlines = j.newlines; line = j.line } } in
    let is : passed ≡ there = passes.input ∙ ap (λ (k : PageInput). record before { input = k }) (lines_taken-counts bytes i) in
    subst (λ (u : PageUnread). Leaves before u) (sym is)
    (record {
      same = refl;
      less = omega arith;
      fewer = omega arith;
      turns = omega (arith, charged, some, passes.within);
      half = refl;
    })
leaves gave gives bytes before passed some (OfTexts passes) =
    let i : PageInput = before.input in
    let there : PageUnread = record before { input = record i { ahead = passes.behind; charge = i.charge + length bytes } } in
    let is : passed ≡ there = passes.input ∙ ap (λ (k : PageInput). record before { input = k }) (bytes_taken-is bytes passes.behind i passes.in_front) in
    let counted = ap (λ (items : List (Ahead PageEvent)). bytes_ahead items) passes.in_front ∙ bytes_ahead-bytes bytes passes.behind in
    let ends = ap (λ (items : List (Ahead PageEvent)). ends_ahead items) passes.in_front ∙ ends_ahead-bytes bytes passes.behind in
    let free = ap free_ahead passes.in_front ∙ free_ahead-bytes bytes passes.behind in
    subst (λ (u : PageUnread). Leaves before u) (sym is)
    (record {
      same = refl;
      less = omega (arith, counted);
      fewer = omega (arith, ends);
      turns = omega (arith, free, some, passes.within);
      half = refl;
    })

-- and bodies are the same
same_bodies : (gave gives : Tape → Type 0) (bytes name : List ℕ) (reading : LineState) (before passed : PageUnread) → PassesFront gave gives bytes before passed
    → body_named name (interrupted reading passed.input) ≡ body_named name before.input
same_bodies gave gives bytes name reading before passed passes =
    names-interrupted name reading passed.input ∙ there before passed passes
  where
    names-interrupted : (name : List ℕ) (reading : LineState) (i : PageInput) → body_named name (interrupted reading i) ≡ body_named name i
    names-interrupted name (Collecting (InArguments breaks request)) i = refl
    names-interrupted name (Collecting (StringName appends)) i = refl
    names-interrupted name (Collecting (Calling called)) i = refl
    names-interrupted name (_) i = refl

    there : (before passed : PageUnread) → PassesFront gave gives bytes before passed → body_named name passed.input ≡ body_named name before.input
    there before passed (OfSource passes) =
        ap (λ (u : PageUnread). body_named name u.input) (passes.input ∙ ap (λ (k : PageInput). record before { input = k }) (lines_taken-counts bytes before.input))
    there before passed (OfTexts passes) =
        ap (λ (u : PageUnread). body_named name u.input) (passes.input ∙ ap (λ (k : PageInput). record before { input = k }) (bytes_taken-is bytes passes.behind before.input passes.in_front))

-- no more turns are to come where a text was put in front
pub turns-pushed : (text : List ℕ) (u : PageUnread) → turns_to_come (with_text text u) ≤ turns_to_come u
turns-pushed text u = let free = free_ahead-bytes text (EndAhead ∷ u.input.ahead) in omega (arith, free)

-- an escape has some bytes, and few
pub some_bytes : (asked : Asked) (first : ℕ) (second : Option ℕ) → 1 ≤ length (escape_behind asked first second)
some_bytes asked first None = omega arith
some_bytes asked first (Some second) = omega arith

few_bytes : (asked : Asked) (first : ℕ) (second : Option ℕ) → length (escape_behind asked first second) ≤ 5
few_bytes asked first None = omega arith
few_bytes asked first (Some second) = omega arith

-- a name of one byte or two, where it may have two
pub name_for : (asked : Asked) (first : ℕ) (second : Option ℕ) → HasLongNames asked → IsNameOf first second → IsNameFor asked first second
name_for asked first None long is = is
name_for asked first (Some second) long is = (is, long)

-- An escape was taken, and what it asks for would be in front, where the limits have room for it.
pub puts_text : (asked : Asked) (gave gives : Tape → Type 0) (r : ReaderState) (es : ComposerOf) (before passed settled : PageUnread) (name : ShortName) (text : List ℕ)
    → IsNameFor asked name.first name.second → ReadsNames r.reading → before.input.escapes ≡ [] → pushed before.input + length text ≤ before.limits.stack → depth before.input < before.limits.depth
    → PassesFront gave gives (escape_of asked name) before passed → settled ≡ record passed { input = interrupted r.reading passed.input } → IsWithin settled
    → ((limits : Limits) (h : PageHistory) → StandFor limits h es → text ≡ text_asked asked (known_at h r.registers.all settled.input) settled.input (name_bytes name))
    → PutsText asked gave gives r es before (with_text text settled)
puts_text asked gave gives r es before passed settled name text named reads none_half room shallow passes is_settled fits text_is =
    let i : PageInput = before.input in
    let there : PageUnread = record passed { input = interrupted r.reading passed.input } in
    let left : Leaves before passed = leaves gave gives (escape_of asked name) before passed (some_bytes asked name.first name.second) passes in
    let fits_there : IsWithin there = subst IsWithin is_settled fits in
    let no_more = NoMore-interrupted r.reading passed.input in
    let turns = turns-pushed text there in
    let put : PutsText asked gave gives r es before (with_text text there) = record {
      bytes = escape_of asked name;
      name = name_bytes name;
      text = text;
      passed = passed;
      asked = subst (λ (half : List OpenEscape). AsksText asked i.names (record { reading = r.reading; escapes = half; arguments = i.arguments; texts = i.open_texts }) (escape_of asked name) (name_bytes name)) (sym none_half)
          (asks_text asked i.names r.reading reads [] (reads_escape-alone asked) i.arguments i.open_texts name.first name.second named);
      passes = passes;
      text_is = λ limits h stands. subst (λ (u : PageUnread). text ≡ text_asked asked (known_at h r.registers.all u.input) u.input (name_bytes name)) is_settled (text_is limits h stands);
      put = refl;
      fewer = omega (arith, turns, left.turns);
      half = left.half;
      within = IsWithin-pushing there text fits_there (pushed there.input) refl
          (omega (arith, room, no_more.bytes, left.less, ap (λ (m : Limits). m.stack) left.same))
          (omega (arith, shallow, no_more.texts, left.fewer, ap (λ (m : Limits). m.depth) left.same));
    } in
    subst (λ (u : PageUnread). PutsText asked gave gives r es before (with_text text u)) (sym is_settled) put

module _ (gave gives : Tape → Type 0) (ready : List ℕ) (reading : LineState) (before passed settled : PageUnread) (name : ShortName) (text : List ℕ)
    (ahead : IsRegisterAhead name reading ready before) (passes : PassesFront gave gives (register_escape name) before passed)
    (is_settled : settled ≡ record passed { input = interrupted reading passed.input }) (few : length text ≤ 48) where
  left : Leaves before passed
  left = leaves gave gives (register_escape name) before passed (some_bytes OfRegister name.first name.second) passes

  -- the limit on bytes has room for what is read of a register's text
  pub room_behind : settled.input.charge + length text < settled.limits.bytes
  room_behind =
      let charge = passed-charge gave gives (register_escape name) before passed passes in
      subst (λ (u : PageUnread). u.input.charge + length text < u.limits.bytes) (sym is_settled)
      (omega (arith, charge, few_bytes OfRegister name.first name.second, few, ahead.bytes, ap (λ (m : Limits). m.bytes) left.same))

  -- its escape was taken, and its text would be in front
  pub puts_register : (r : ReaderState) (es : ComposerOf) → r.reading ≡ reading → IsWithin settled
      → ((limits : Limits) (h : PageHistory) → StandFor limits h es → text ≡ text_of_register (known_at h r.registers.all settled.input) (name_bytes name))
      → PutsRegister gave gives r es before (with_text text settled)
  puts_register r es is_reading fits text_is =
      puts_text OfRegister gave gives r es before passed settled name text (name_for OfRegister name.first name.second tt ahead.named) (subst ReadsNames (sym is_reading) ahead.reads) ahead.none_half (omega (arith, few, ahead.room)) ahead.shallow passes
      (subst (λ (reads : LineState). settled ≡ record passed { input = interrupted reads passed.input }) (sym is_reading) is_settled) fits text_is

-- nothing is half read
pub none_open : (half : List OpenEscape) → not (length half == 0) ≡ false → half ≡ []
none_open [] is = refl
none_open (first ∷ others) is =
    let some : (length (first ∷ others) == 0) ≡ false = ne_eqb (length (first ∷ others)) 0 (λ none. omega (arith, none)) in
    let wrong : true ≡ false = sym (ap (λ (c : Bool). not c) some) ∙ is in
    absurd (cc)

-- where bytes in front begin with the escape of a name, and the limits have room, it is read at once
pub is_register_ahead : (found : Option ShortName) (bytes ready : List ℕ) (reading : LineState) (u : PageUnread) → IfSome found (λ name. BeginsEscape OfRegister bytes name)
    → bytes ≡ front_bytes (length bytes) ready u → IsFront (length bytes) ready u → ReadsNames reading → u.input.escapes ≡ []
    → pushed u.input + 48 ≤ u.limits.stack → depth u.input < u.limits.depth → u.input.charge + 54 ≤ u.limits.bytes
    → IfSome found (λ name. IsRegisterAhead name reading ready u)
is_register_ahead None bytes ready reading u begins stood front reads none_half room shallow charge = tt
is_register_ahead (Some name) bytes ready reading u begins stood front reads none_half room shallow charge = record {
  named = begins.named;
  reads = reads;
  none_half = none_half;
  front = record { among = omega (arith, begins.among, front.among); within = omega (arith, begins.among, front.within) };
  is = sym (first_of_front bytes (length (register_escape name)) ready u stood begins.among) ∙ begins.is;
  room = room;
  shallow = shallow;
  bytes = charge;
}

-- the same of a string, where the stack has room for its text
pub is_string_ahead : (name : ShortName) (bytes ready : List ℕ) (reading : LineState) (u : PageUnread) → BeginsEscape OfString bytes name
    → bytes ≡ front_bytes (length bytes) ready u → IsFront (length bytes) ready u → ReadsNames reading → u.input.escapes ≡ []
    → pushed u.input + length (body_named (name_bytes name) u.input) ≤ u.limits.stack → depth u.input < u.limits.depth → IsStringAhead name reading ready u
is_string_ahead name bytes ready reading u begins stood front reads none_half room shallow = record {
  named = begins.named;
  reads = reads;
  none_half = none_half;
  front = record { among = omega (arith, begins.among, front.among); within = omega (arith, begins.among, front.within) };
  is = sym (first_of_front bytes (length (escape_of OfString name)) ready u stood begins.among) ∙ begins.is;
  room = room;
  shallow = shallow;
}

-- what was put in front is there, where no limit refuses it
pub put-allowed : (i : PageInput) (u new : PageUnread) (r : Result (Unit {0}) Limit) → IsWithin (record u { input = i }) → (r, new) ≡ changing i u → new ≡ record u { input = i }
put-allowed i u new r within changes =
    let allowed : input_refusal u.limits i ≡ None = IsWithin-allowed (record u { input = i }) within in
    ap (λ (p : Result (Unit {0}) Limit × PageUnread). p.1) (changes ∙ ap (λ (o : Option Limit). unless_passed o i u) allowed)

-- the escapes of a name have as many bytes each
pub as_long : (asked : Asked) (first : ℕ) (second : Option ℕ) → length (escape_behind asked first second) ≡ length (escape_behind OfRegister first second)
as_long asked first None = refl
as_long asked first (Some second) = refl

-- the escape of a string was taken, and the string was put in front
module _ (gave gives : Tape → Type 0) (r : ReaderState) (es : ComposerOf) (ready : List ℕ) (before passed settled after : PageUnread) (name : ShortName) (answer : Result (Unit {0}) Limit)
    (ahead : IsStringAhead name r.reading ready before) (passes : PassesFront gave gives (escape_of OfString name) before passed)
    (is_settled : settled ≡ record passed { input = interrupted r.reading passed.input }) (fits : IsWithin settled)
    (changes : let text : List ℕ = body_named (name_bytes name) settled.input in (answer, after) ≡ changing (pushing text settled.input) settled) where
  abbrev text_put : List ℕ
  text_put = body_named (name_bytes name) settled.input

  -- it is that of the names as they were
  same_text : text_put ≡ body_named (name_bytes name) before.input
  same_text = ap (λ (u : PageUnread). body_named (name_bytes name) u.input) is_settled ∙ same_bodies gave gives (escape_of OfString name) (name_bytes name) r.reading before passed passes

  puts : PutsText OfString gave gives r es before (with_text text_put settled)
  puts =
      puts_text OfString gave gives r es before passed settled name text_put (name_for OfString name.first name.second tt ahead.named) ahead.reads ahead.none_half
      (omega (arith, ahead.room, ap (λ (text : List ℕ). length text) same_text)) ahead.shallow passes is_settled fits (λ limits h stands. refl)

  pub puts_string : PutsText OfString gave gives r es before after
  puts_string =
      subst (λ (u : PageUnread). PutsText OfString gave gives r es before u) (sym (put-allowed (pushing text_put settled.input) settled after answer puts.within changes)) puts
