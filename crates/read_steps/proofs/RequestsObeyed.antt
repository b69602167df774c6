-- A request that is obeyed, and how it changes registers, as the definition takes its line's end.
use Rattle.std.proofs.Common.{◌≡◌, ℕ, Bool, true, false, List, length, Some, None, Ok, Err, refl, sym, subst, ap, ◌∙◌, nat_lt, if◌then◌else◌}
use Rattle.run_state.specs.declared.composer.Composer.{Composer as ComposerOf}
use Rattle.roff_num.specs.declared.limit.Limit.{Limit}
use Rattle.roff_num.specs.declared.limit.Limit.TheVariants.{Names}
use Rattle.input_model.specs.Arguments.{finished, no_arguments, only_kept}
use Rattle.input_model.specs.Input.{with_arguments, without_arguments}
use Rattle.input_model.specs.Input.Calls.{arguments_given}
use Rattle.input_model.specs.Unread.{input_refusal}
use Rattle.roff_store.specs.TextCalls.{Call}
use Rattle.run_model.specs.Events.Steps.{events_of, messages_of}
use Rattle.read_obeying.specs.Acting.{Acts, CameToEffect, Kept, Refused, behind_changes, kept, texts_read}
use Rattle.read_meaning.specs.Meaning.{MeaningKept}
use Rattle.read_lines.specs.Reader.State.{ReaderState}
use Rattle.read_lines.specs.Reader.Taken.{TakesAs}
use Rattle.run_model.specs.Reading.Items.{PageUnread, PageInput}
use Rattle.run_model.specs.Reading.Arguments.{calling_all, line_ended, reading_behind}
use Rattle.run_model.specs.Registers.{AllRegisters, Change, changed_by, changed_by_all, is_page, is_read_only}
use Rattle.run_model.specs.Registers.Capped.{Capped, is_past_cap}
use Rattle.read_registers.specs.Registers.Coded.{change_of}
use Rattle.read_requests.specs.Request.Coded.{calls_of, changes_of}
use Rattle.read_registers.specs.declared.lasting.Change.{Change as CodedChange}
use Rattle.read_registers.specs.declared.lasting.Change.TheVariants.{SetTo, FormatAs, ReadLast, CharacterIs}
use Rattle.read_requests.specs.declared.requests.effects.Changes.{Changes}
use Rattle.read_requests.specs.declared.requests.effects.Changes.TheVariants.{Nothing, One, RemoveGiven, RemoveNamesGiven, Rename as RenameGiven}
use Rattle.run_model.specs.TitleTexts.{TitleText, title_length}
use Rattle.run_model.specs.Requests.{Effect, request_effect, row_of}
use Rattle.run_model.specs.Run.{known_at}
use Rattle.run_model.specs.declared.step.Step.{Step}
use Rattle.run_model.specs.declared.request.Request.{Request}
use Rattle.read_steps.proofs.FewerNames.{NoMore-calls}
use Rattle.run_model.proofs.InputCounts.{behind_title, NoMore, NoMore-released, NoMore-trans, first_passed-few_names, input_refusal-no_more, one_of}
use Rattle.read_names.proofs.RemovedNames.{calling_all-arguments}
use Rattle.read_lines.proofs.TakesAs.{few_names, short_title}

-- what a reader keeps beside what it reads
abbrev pub kept_of : ReaderState → Kept
kept_of r = kept r.registers r.meaning

-- the input of a line that has ended
abbrev line_finished : PageUnread → PageUnread
line_finished u = record u { input = with_arguments (finished u.input.arguments) u.input }

-- the input behind the calls of a request, and without its arguments
abbrev called : List Call → PageUnread → PageUnread
called calls u = record u { input = calling_all calls u.input }

abbrev released : PageUnread → PageUnread
released u = record u { input = without_arguments u.input }

-- calls are made behind a line as they are where its arguments are released
released-called : (calls : List Call) (u : PageUnread) → released (called calls (line_finished u)) ≡ called calls (released u)
released-called calls u =
    ap (λ (i : PageInput). released (record u { input = i })) (calling_all-arguments calls (only_kept (finished u.input.arguments)) u.input)
    ∙ ap (λ (i : PageInput). (let now : PageUnread = record u { input = i } in now)) (sym (calling_all-arguments calls no_arguments u.input))

-- whether more names than may have a register, by the unread input's limit
few_behind : (changes : List Change) (old : Capped) (u : PageUnread) (passes : Bool) → old.cap ≡ u.limits.names
    → is_past_cap (behind_changes changes old) ≡ passes → nat_lt u.limits.names (length (changed_by_all changes old.all).named) ≡ passes
few_behind changes old u passes cap is = ap (λ (n : ℕ). nat_lt n (length (changed_by_all changes old.all).named)) (sym cap) ∙ is

-- no request changes the title that is read
title-change_of : (change : CodedChange) (rs : AllRegisters) → (changed_by (change_of change) rs).title ≡ rs.title
title-change_of (SetTo name value increment) rs =
    one_of (λ (now : AllRegisters). now.title ≡ rs.title) (is_read_only name) _ _ refl
    (one_of (λ (now : AllRegisters). now.title ≡ rs.title) (is_page name) _ _ refl refl)
title-change_of (FormatAs name format) rs =
    one_of (λ (now : AllRegisters). now.title ≡ rs.title) (is_read_only name) _ _ refl
    (one_of (λ (now : AllRegisters). now.title ≡ rs.title) (is_page name) _ _ refl refl)
title-change_of (ReadLast name) rs = refl
title-change_of (CharacterIs character) rs = refl

title-changes_of : (as_given : List (List ℕ)) (changes : Changes) (rs : AllRegisters) → (changed_by_all (changes_of as_given changes) rs).title ≡ rs.title
title-changes_of as_given Nothing rs = refl
title-changes_of as_given (One change) rs = title-change_of change rs
title-changes_of as_given RemoveGiven rs = refl
title-changes_of as_given RemoveNamesGiven rs = refl
title-changes_of as_given (RenameGiven from to) rs = refl

-- no effect of a request does
title-effect : (e : Effect) (as_given : List (List ℕ)) (asked : Changes) (rs : AllRegisters) → e.changes ≡ changes_of as_given asked
    → (changed_by_all e.changes rs).title ≡ rs.title
title-effect e as_given asked rs is =
    ap (λ (changes : List Change). (changed_by_all changes rs).title) is ∙ title-changes_of as_given asked rs

-- nor does it bring more names, texts or bytes
NoMore-effect : (e : Effect) (as_given : List (List ℕ)) (asked : Changes) (i : PageInput) → e.calls ≡ calls_of as_given asked → NoMore (calling_all e.calls i) i
NoMore-effect e as_given asked i is =
    subst (λ (calls : List Call). NoMore (calling_all calls i) i) (sym is) (NoMore-calls as_given asked i)

-- a request acted, and its arguments were released
pub TakesAs-acted : (es : ComposerOf) (old : ReaderState) (acted : Kept) (new : ReaderState) (before mid act behind : PageUnread) (breaks : Bool) (request : Request) (m : Step)
    → mid ≡ line_finished before → Acts breaks request es (kept_of old) acted mid act (Ok m) → behind ≡ released act
    → new.registers ≡ acted.registers → new.meaning ≡ acted.meaning → new.reading ≡ reading_behind (row_of request).line
    → TakesAs (λ k. line_ended k before.input breaks request) es old new before behind (Ok m)
TakesAs-acted es old acted new before mid act behind breaks request m finishes acting releases registers_stay meaning_stays begins = record {
  takes = λ l h stands ready.
      let i : PageInput = before.input in
      let rs : AllRegisters = old.registers.all in
      let e : Effect = request_effect (known_at h rs i) breaks request (arguments_given i) in
      let did : CameToEffect e (kept_of old) acted (line_finished before) act m =
      subst (λ (u : PageUnread). CameToEffect (request_effect (known_at h rs u.input) breaks request (texts_read u)) (kept_of old) acted u act m) finishes (acting.acts l h stands) in
      let few : is_past_cap old.registers ≡ false =
      ap (λ (n : ℕ). nat_lt n (length rs.named)) ready.cap ∙ few_names old.registers before ready in
      let few_now : nat_lt before.limits.names (length (changed_by_all e.changes rs).named) ≡ false =
      few_behind e.changes old.registers before false ready.cap (ap is_past_cap (sym did.changed.registers) ∙ did.changed.within few) in
      let short_now : nat_lt before.limits.line (title_length (changed_by_all e.changes rs).title) ≡ false =
      ap (λ (t : TitleText). nat_lt before.limits.line (title_length t)) (title-effect e (arguments_given i) did.asked rs did.changes)
      ∙ short_title old.registers before ready in
      let none_before : input_refusal before.limits i ≡ None =
      sym (first_passed-few_names before.limits rs i (few_names old.registers before ready) (short_title old.registers before ready)) ∙ ready.within in
      let without : PageInput = record i { arguments = no_arguments } in
      let ended : PageInput = calling_all e.calls without in
      let less : NoMore ended i = NoMore-trans ended without i (NoMore-effect e (arguments_given i) did.asked without did.calls) (NoMore-released i) in
      let input : behind ≡ record before { input = ended } = releases ∙ ap released did.called ∙ released-called e.calls before in record {
        became = record {
          input = input;
          reading = begins;
          registers = registers_stay ∙ did.changed.registers;
          within = first_passed-few_names before.limits (changed_by_all e.changes rs) ended few_now short_now
              ∙ input_refusal-no_more before.limits ended i less none_before;
        };
        messages = ap (λ (kept : MeaningKept). messages_of kept.message m) meaning_stays ∙ did.messages;
        events = ap (λ (kept : MeaningKept). events_of kept.events m) meaning_stays ∙ did.events;
      };
}

-- or more names than may would have a register
pub TakesAs-not_acted : (es : ComposerOf) (old : ReaderState) (acted : Kept) (new : ReaderState) (before mid act behind : PageUnread) (breaks : Bool) (request : Request) (limit : Limit)
    → mid ≡ line_finished before → Acts breaks request es (kept_of old) acted mid act (Err limit)
    → TakesAs (λ k. line_ended k before.input breaks request) es old new before behind (Err limit)
TakesAs-not_acted es old acted new before mid act behind breaks request limit finishes acting = record {
  takes = λ l h stands ready.
      let i : PageInput = before.input in
      let rs : AllRegisters = old.registers.all in
      let e : Effect = request_effect (known_at h rs i) breaks request (arguments_given i) in
      let refused : Refused e.changes old.registers limit =
      subst (λ (u : PageUnread). Refused (request_effect (known_at h rs u.input) breaks request (texts_read u)).changes old.registers limit) finishes (acting.acts l h stands) in
      let many : nat_lt before.limits.names (length (changed_by_all e.changes rs).named) ≡ true =
      few_behind e.changes old.registers before true ready.cap refused.past in
      let ended : PageInput = calling_all e.calls (record i { arguments = no_arguments }) in
      ap (λ (many : Bool). if many then Some Names else behind_title before.limits (changed_by_all e.changes rs) ended) many ∙ ap (λ (l : Limit). Some l) (sym refused.limit_is);
}
