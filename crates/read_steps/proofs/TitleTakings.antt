-- What the code takes of a title, as the definition takes it.
use Rattle.std.proofs.Common.{◌≡◌, ℕ, ◌==◌, Bool, true, false, List, [], ◌∷◌, length, Result, Ok, Err, refl, sym, subst, ap, ◌∙◌, arith, ◌&&◌, not, nat_lt, if◌then◌else◌, le-ltb}
use Rattle.page_model.specs.Words.{is_empty}
use Rattle.roff_num.specs.declared.limit.Limit.{Limit}
use Rattle.input_escapes.specs.OpenEscape.{OpenEscape}
use Rattle.run_model.specs.Reading.{title_read}
use Rattle.run_model.specs.Reading.Items.{PageInput, PageUnread, Taking}
use Rattle.run_model.specs.Reading.Titles.{bytes_for, empty_title_ended, title_ended}
use Rattle.run_model.specs.Registers.{Known, TitleBegins}
use Rattle.run_model.specs.Registers.Capped.{Capped, title_after, with_change}
use Rattle.run_model.specs.Run.{known_at}
use Rattle.run_model.specs.declared.step.Step.{Step}
use Rattle.run_model.proofs.InputCounts.{first_passed-few_names}
use Rattle.run_state.specs.declared.composer.Composer.{Composer as ComposerOf}
use Rattle.read_lines.specs.Reader.State.{ReaderState}
use Rattle.read_lines.specs.Reader.Taken.{IsReady, Takes, TakesAs}
use Rattle.read_lines.proofs.Strings.{refused_none}
use Rattle.read_lines.proofs.TakesAs.{few_names}

-- what a byte stands for in a part, as the code has it
pub TakesAs-for_byte : (t : List ℕ → Taking) (bytes : List ℕ) (b : ℕ) (es : ComposerOf) (old new : ReaderState) (u : PageUnread)
    (result : Result Step Limit) → ((k : Known) → k.registers ≡ old.registers.all → bytes ≡ bytes_for k b)
    → TakesAs (λ k. t bytes) es old new u u result → TakesAs (λ k. t (bytes_for k b)) es old new u u result
TakesAs-for_byte t bytes b es old new u result are takes = record {
  takes = λ l h stands ready.
      subst (λ (xs : List ℕ). Takes (t xs) old.registers new u u result) (are (known_at h old.registers.all u.input) refl)
      (takes.takes l h stands ready);
}

-- an empty title has no more bytes than it may
empty-short : (most : ℕ) → nat_lt most 0 ≡ false
empty-short most = le-ltb most 0 (omega arith)

-- what the end of a line does where the title is empty already
Takes-empty : (k now : Known) (r : Capped) (new : ReaderState) (u behind : PageUnread) (result : Result Step Limit)
    → Takes (title_ended now u.input) (with_change (TitleBegins []) r) new u behind result
    → Takes (empty_title_ended k u.input) r new u behind result
Takes-empty k now r new u behind (Ok m) took = record {
  became = record {
    input = took.became.input;
    reading = took.became.reading;
    registers = took.became.registers;
    within = took.became.within;
  };
  messages = took.messages;
  events = took.events;
}
Takes-empty k now r new u behind (Err limit) passed = passed

pub TakesAs-empty : (es : ComposerOf) (old mid new : ReaderState) (u behind : PageUnread) (result : Result Step Limit)
    → mid.registers ≡ title_after (TitleBegins []) old.registers
    → TakesAs (λ k. title_ended k u.input) es mid new u behind result
    → TakesAs (λ k. empty_title_ended k u.input) es old new u behind result
TakesAs-empty es old mid new u behind result begun ended =
    let empty : Capped = with_change (TitleBegins []) old.registers in
    let is : mid.registers ≡ empty =
    begun ∙ ap (λ (long : Bool). if long then old.registers else empty) (empty-short old.registers.line) in
    record {
      takes = λ l h stands ready.
          let at_mid : IsReady empty u = record {
            cap = ready.cap;
            line = ready.line;
            within = first_passed-few_names u.limits empty.all u.input (few_names old.registers u ready) (empty-short u.limits.line)
                ∙ refused_none old.registers u ready;
          } in
          Takes-empty (known_at h old.registers.all u.input) (known_at h empty.all u.input) old.registers new u behind result
          (subst (λ (r : Capped). Takes (title_ended (known_at h r.all u.input) u.input) r new u behind result) is
          (ended.takes l h stands (subst (λ (r : Capped). IsReady r u) (sym is) at_mid)));
    }

-- where nothing is half read a byte of a title is a delimiter if it is that byte
pub title_read-alone : (k : Known) (i : PageInput) (delimiter b : ℕ) (is_delimiter : Bool) → i.escapes ≡ [] → (b == delimiter) ≡ is_delimiter
    → title_read k i delimiter b is_delimiter ≡ title_read k i delimiter b (is_empty i.escapes && b == delimiter)
title_read-alone k i delimiter b is_delimiter none_half is =
    ap (title_read k i delimiter b) (sym is) ∙ ap (λ (half : List OpenEscape). title_read k i delimiter b (is_empty half && b == delimiter)) (sym none_half)

-- and where something is, it is none
some_half : (half : List OpenEscape) → not (length half == 0) ≡ true → is_empty half ≡ false
some_half [] is = cc
some_half (escape ∷ half) is = refl

pub title_read-half : (k : Known) (i : PageInput) (delimiter b : ℕ) → not (length i.escapes == 0) ≡ true
    → title_read k i delimiter b false ≡ title_read k i delimiter b (is_empty i.escapes && b == delimiter)
title_read-half k i delimiter b is = ap (λ (c : Bool). title_read k i delimiter b (c && b == delimiter)) (sym (some_half i.escapes is))
