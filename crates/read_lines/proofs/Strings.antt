-- What the code does where a string's name and text are read, as the definition does it.
use Rattle.std.proofs.Common.{◌≡◌, ℕ, Bool, true, false, Option, None, Result, Ok, Err, inl, inr, refl, sym, subst, ap, ◌∙◌, ◌==◌, eqb-true}
use Rattle.std.proofs.lemmas.Bool.{cases_Bool}
use Rattle.run_state.specs.declared.composer.Composer.{Composer as ComposerOf}
use Rattle.roff_num.specs.declared.limit.Limit.{Limit}
use Rattle.input_model.specs.Input.{holding_plain}
use Rattle.input_model.specs.Unread.{input_refusal}
use Rattle.input_escapes.specs.declared.open_escape.CopyUnit.{CopyUnit}
use Rattle.input_escapes.specs.declared.open_escape.CopyUnit.TheVariants.{Byte, Kept}
use Rattle.run_model.specs.Events.Steps.{events_of, messages_of}
use Rattle.read_lines.specs.Reader.State.{ReaderState}
use Rattle.read_names.specs.Inputs.{InputCameTo}
use Rattle.read_lines.specs.Reader.Taken.{IsReady, TakesAs}
use Rattle.run_model.specs.Reading.Items.{PageUnread, PageInput, Taking, going_on}
use Rattle.run_model.specs.Reading.Messages.{message_unit}
use Rattle.run_model.specs.Reading.Strings.{name_read, string_grown, string_name_or_text, string_name_unit, string_unit}
use Rattle.run_model.specs.Reading.Units.{settling}
use Rattle.run_model.specs.Registers.Capped.{Capped}
use Rattle.run_model.specs.declared.step.Step.{Step}
use Rattle.run_model.specs.declared.step.Step.TheVariants.{Nothing}
use Rattle.run_model.specs.declared.line_state.LineState.{LineState}
use Rattle.run_model.specs.declared.line_state.LineState.TheVariants.{Collecting}
use Rattle.run_model.specs.declared.purpose.Purpose.TheVariants.{StringText, Telling}
use Rattle.roff_num.specs.declared.short_name.ShortName.{ShortName}
use Rattle.run_model.proofs.InputCounts.{first_passed-few_names}
use Rattle.read_lines.proofs.TakesAs.{Takes-elsewhere, few_names, short_title}

-- no limit refuses the input of a reader that is ready
pub refused_none : (r : Capped) (u : PageUnread) → IsReady r u → input_refusal u.limits u.input ≡ None
refused_none r u ready = sym (first_passed-few_names u.limits r.all u.input (few_names r u ready) (short_title r u ready)) ∙ ready.within

-- the input became this, and this is read on
pub TakesAs-became : (i : PageInput) (place : LineState) (es : ComposerOf) (old new : ReaderState) (before behind : PageUnread) (m : Step) (done : Unit {0})
    → InputCameTo i before behind (Ok done) → new ≡ record old { reading = place } → m ≡ Nothing
    → TakesAs (λ k. going_on i place) es old new before behind (Ok m)
TakesAs-became i place es old new before behind m done became came none = record {
  takes = λ l h stands ready.
      let now = became.becomes (refused_none old.registers before ready) in
      record {
        became = record {
          input = now.0;
          reading = ap (λ (s : ReaderState). s.reading) came;
          registers = ap (λ (s : ReaderState). s.registers) came;
          within = first_passed-few_names before.limits old.registers.all i (few_names old.registers before ready) (short_title old.registers before ready) ∙ now.1;
        };
        messages = ap (messages_of new.meaning.message) none;
        events = ap (events_of new.meaning.events) none;
      };
}

-- or a limit refuses it
pub TakesAs-not_became : (i : PageInput) (place : LineState) (es : ComposerOf) (old new : ReaderState) (before behind : PageUnread) (limit : Limit)
    → InputCameTo i before behind (Err limit) → TakesAs (λ k. going_on i place) es old new before behind (Err limit)
TakesAs-not_became i place es old new before behind limit became = record {
  takes = λ l h stands ready.
      first_passed-few_names before.limits old.registers.all i (few_names old.registers before ready) (short_title old.registers before ready)
      ∙ became.becomes (refused_none old.registers before ready);
}

-- other numbers differ
pub other : (b n : ℕ) → (b ≡ n → ⊥) → (b == n) ≡ false
other b n differs = elim (cases_Bool (b == n)) [ inl is ↦ absurd (differs (eqb-true b n is)) | inr differing ↦ differing ]

-- a unit of a string's text that isn't dropped in front, and doesn't end it
pub string_unit-grown : (i : PageInput) (name : Option ShortName) (appends is_front : Bool) (unit : CopyUnit) → (unit ≡ Byte 10 → ⊥)
    → (unit ≡ Byte 32 → is_front ≡ true → ⊥) → (unit ≡ Byte 34 → is_front ≡ true → ⊥)
    → going_on (string_grown name unit i) (Collecting (StringText name appends false)) ≡ string_unit i name appends is_front unit
string_unit-grown i name appends is_front (Kept b) no_newline no_blank no_quote = refl
string_unit-grown i name appends false (Byte b) no_newline no_blank no_quote =
    let newline : (b == 10) ≡ false = other b 10 (λ is. no_newline (ap (λ (c : ℕ). Byte c) is)) in rw newline refl
string_unit-grown i name appends true (Byte b) no_newline no_blank no_quote =
    let newline : (b == 10) ≡ false = other b 10 (λ is. no_newline (ap (λ (c : ℕ). Byte c) is)) in
    let blank : (b == 32) ≡ false = other b 32 (λ is. no_blank (ap (λ (c : ℕ). Byte c) is) refl) in
    let quote : (b == 34) ≡ false = other b 34 (λ is. no_quote (ap (λ (c : ℕ). Byte c) is) refl) in
    rw (newline, blank, quote) refl

-- a unit of a message's text that isn't dropped in front, and doesn't end it
pub message_unit-held : (i : PageInput) (aborts is_front : Bool) (unit : CopyUnit) → (unit ≡ Byte 10 → ⊥) → (unit ≡ Byte 32 → is_front ≡ true → ⊥)
    → going_on (holding_plain unit i) (Collecting (Telling aborts false)) ≡ message_unit i aborts is_front unit
message_unit-held i aborts is_front (Kept b) no_newline no_blank = refl
message_unit-held i aborts false (Byte b) no_newline no_blank =
    let newline : (b == 10) ≡ false = other b 10 (λ is. no_newline (ap (λ (c : ℕ). Byte c) is)) in rw newline refl
message_unit-held i aborts true (Byte b) no_newline no_blank =
    let newline : (b == 10) ≡ false = other b 10 (λ is. no_newline (ap (λ (c : ℕ). Byte c) is)) in
    let blank : (b == 32) ≡ false = other b 32 (λ is. no_blank (ap (λ (c : ℕ). Byte c) is) refl) in
    rw (newline, blank) refl

-- what is taken once the input became another
pub TakesAs-elsewhere : (t : PageInput → Taking) (i : PageInput) (es : ComposerOf) (old new : ReaderState) (before mid behind : PageUnread) (done : Unit {0})
    (result : Result Step Limit) → InputCameTo i before mid (Ok done) → TakesAs (λ k. t mid.input) es old new mid behind result
    → TakesAs (λ k. t i) es old new before behind result
TakesAs-elsewhere t i es old new before mid behind done result became takes = record {
  takes = λ l h stands ready.
      let now = became.becomes (refused_none old.registers before ready) in
      let moved : TakesAs (λ k. t i) es old new (record before { input = i }) behind result =
      subst (λ (u : PageUnread). TakesAs (λ k. t u.input) es old new u behind result) now.0 takes in
      let within = first_passed-few_names before.limits old.registers.all i (few_names old.registers before ready) (short_title old.registers before ready) ∙ now.1 in
      Takes-elsewhere (t i) old.registers new before behind i result (moved.takes l h stands (record { cap = ready.cap; line = ready.line; within = within }));
}

-- another unit than a newline or a quote may be the text's first one, where no quote follows the quote before
pub string_name_unit-other : (i : PageInput) (appends : Bool) (unit : CopyUnit) → (unit ≡ Byte 10 → ⊥) → (unit ≡ Byte 34 → ⊥)
    → string_name_or_text (settling i) appends unit (name_read (settling i)) ≡ string_name_unit i appends unit
string_name_unit-other i appends (Kept b) no_newline no_quote = refl
string_name_unit-other i appends (Byte b) no_newline no_quote =
    let newline : (b == 10) ≡ false = other b 10 (λ is. no_newline (ap (λ (c : ℕ). Byte c) is)) in
    let quote : (b == 34) ≡ false = other b 34 (λ is. no_quote (ap (λ (c : ℕ). Byte c) is)) in
    rw (newline, quote) refl

-- a quote may belong to the name
pub string_name_unit-quote : (i : PageInput) (appends : Bool) (unit : CopyUnit) → unit ≡ Byte 34
    → string_name_or_text i appends unit (name_read i) ≡ string_name_unit i appends unit
string_name_unit-quote i appends unit is =
    subst (λ (u : CopyUnit). string_name_or_text i appends u (name_read i) ≡ string_name_unit i appends u) (sym is) refl
