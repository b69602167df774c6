-- A condition that decides, as the definition takes it: its result is kept, if it is to be, and its branch comes.
use Rattle.std.proofs.Common.{◌≡◌, ℕ, ◌-◌, ◌≤◌, Bool, true, false, List, length, Option, Some, None, Result, Ok, Err, refl, sym, subst, ap, ◌∙◌, arith, nat_lt, nat_le, ◌&&◌, if◌then◌else◌, ◌==◌, lt-ltb, ltb-true}
use Rattle.run_state.specs.Composer.Standing.{StandFor}
use Rattle.run_state.specs.declared.composer.Composer.{Composer as ComposerOf}
use Rattle.roff_num.specs.declared.limit.Limit.{Limit}
use Rattle.roff_num.specs.declared.limit.Limit.TheVariants.{Line, Names, Stack, Depth, Store, Diversions, Conditions}
use Rattle.roff_num.specs.declared.limits.Limits.{Limits}
use Rattle.input_source.specs.Bytes.{tab, newline, blank, apostrophe, dot, backslash, is_silent}
use Rattle.input_escapes.specs.Characters.{character}
use Rattle.input_escapes.specs.Escapes.{escape_of}
use Rattle.input_escapes.specs.OpenEscapes.{byte_read}
use Rattle.input_model.specs.Input.{pushed, depth, result_count}
use Rattle.input_model.specs.Input.Calls.{with_result}
use Rattle.input_model.specs.Input.Names.{names_added, stored}
use Rattle.input_model.specs.Unread.{changing, input_refusal}
use Rattle.input_escapes.specs.declared.escapes.Escape.{Escape as Kind}
use Rattle.input_escapes.specs.declared.escapes.Escape.TheVariants.{Prints, Blank, NoWidth, Tab as GivesTab, Interrupts, Brace, Nothing, Comment as BeginsComment, Size as BeginsSize, Name as BeginsName, Text as BeginsText, Width as BeginsWidth, LeftOut as IsLeftOut}
use Rattle.input_escapes.specs.declared.escapes.NameUse.TheVariants.{Register, Text, Argument, Character, Font, LeftOut as NameLeftOut}
use Rattle.input_escapes.specs.declared.escapes.TextUse.TheVariants.{Motion as OfMotion, LeftOut as LeftOutText}
use Rattle.input_escapes.specs.declared.open_escape.CopyUnit.TheVariants.{Byte, Kept}
use Rattle.input_escapes.specs.declared.open_escape.Decision.{Decision}
use Rattle.input_escapes.specs.declared.open_escape.Found.{Found}
use Rattle.input_escapes.specs.declared.open_escape.Found.TheVariants.{GoesOn, Unit as OneUnit, Holds, Escape, Asks, Motion, Measures, Tells, Decides}
use Rattle.read_lines.specs.Reader.State.{ReaderState}
use Rattle.read_lines.specs.Reader.Taken.{TakesAs, Took}
use Rattle.run_model.specs.Environments.{PageHistory}
use Rattle.run_model.specs.Reading.Items.{PageUnread, PageInput, Taking, behind_events}
use Rattle.run_model.specs.Reading.Beginnings.{at_start, beginning_found, first_escape, first_taking, going_on_told, line_begun, line_begun_as}
use Rattle.run_model.specs.Reading.Branches.{condition_found, decided, is_so, with_result_if, skipping_taking}
use Rattle.run_model.specs.Reading.TextLines.{character_printed, escape_meant, escape_taking, text_taking}
use Rattle.run_model.specs.Reading.Units.{no_unit_found}
use Rattle.run_model.specs.Registers.{AllRegisters, Known, changed_by_all}
use Rattle.run_model.specs.Registers.Capped.{Capped}
use Rattle.run_model.specs.PageEvents.{PageEvent}
use Rattle.run_model.specs.Run.{known_at}
use Rattle.run_model.specs.Run.Counts.{counts_in, first_passed}
use Rattle.run_model.specs.TitleTexts.{title_length}
use Rattle.run_model.specs.declared.step.Step.{Step}
use Rattle.run_model.specs.declared.step.Step.TheVariants.{Nothing}
use Rattle.run_model.specs.declared.line_state.LineState.TheVariants.{Branch, Deciding}
use Rattle.run_model.specs.declared.line_state.TextLine.{TextLine}
use Rattle.run_model.proofs.InputCounts.{first_passed-few_names}
use Rattle.read_lines.proofs.TakesAs.{TakesAs-asked, few_names_in, short_title_in}
use Rattle.read_names.proofs.InputsChanged.{passed_none, passed_one}

-- a taking behind which a result is kept too
abbrev with_kept : Bool → Taking → Taking
with_kept so t = record t { input = with_result so t.input }

-- what is taken doesn't ask what is kept
abbrev Keeps : Bool → (PageInput → Taking) → Type 0
Keeps so f = (i : PageInput) → f (with_result so i) ≡ with_kept so (f i)

-- by a test
Keeps-either : (so c : Bool) (f g : PageInput → Taking) → Keeps so f → Keeps so g → Keeps so (λ i. if c then f i else g i)
Keeps-either so true f g of_f of_g = of_f
Keeps-either so false f g of_f of_g = of_g

-- behind some events
Keeps-behind : (so : Bool) (events : List PageEvent) (f : PageInput → Taking) → Keeps so f → Keeps so (λ i. behind_events events (f i))
Keeps-behind so events f of_f i = ap (behind_events events) (of_f i)

-- a byte of a text line
Keeps-text_taking : (so : Bool) (line : TextLine) (b : ℕ) → Keeps so (λ i. text_taking i line b)
Keeps-text_taking so line b =
    Keeps-either so (b == newline) _ _ (λ i. refl)
    (Keeps-either so (b == tab) _ _ (λ i. refl)
    (Keeps-either so (is_silent b) _ _ (λ i. refl)
    (Keeps-either so (b == blank) _ _ (Keeps-either so line.has_glyph _ _ (λ i. refl) (λ i. refl)) (λ i. refl))))

-- where a branch begins
Keeps-line_begun : (so : Bool) (k : Known) (b : ℕ) → Keeps so (λ i. line_begun k i b)
Keeps-line_begun so k b =
    let line : TextLine = line_begun_as k.interrupted in
    Keeps-either so (b == dot) _ _ (λ i. refl)
    (Keeps-either so (b == apostrophe) _ _ (λ i. refl)
    (Keeps-behind so (going_on_told k.interrupted) (λ i. text_taking i line b) (Keeps-text_taking so line b)))

Keeps-first_taking : (so : Bool) (k : Known) (b : ℕ) → Keeps so (λ i. first_taking k i Branch b)
Keeps-first_taking so k b = Keeps-either so (b == blank) _ _ (λ i. refl) (Keeps-line_begun so k b)

Keeps-escape_meant : (so : Bool) (line : TextLine) (b : ℕ) (kind : Kind) → Keeps so (λ i. escape_meant i line b kind)
Keeps-escape_meant so line b (Prints byte) i = refl
Keeps-escape_meant so line b Blank i = refl
Keeps-escape_meant so line b NoWidth i = refl
Keeps-escape_meant so line b GivesTab i = refl
Keeps-escape_meant so line b Interrupts i = refl
Keeps-escape_meant so line b Brace i = refl
Keeps-escape_meant so line b IsLeftOut i = refl
Keeps-escape_meant so line b (BeginsText (LeftOutText byte)) i = refl
Keeps-escape_meant so line b (BeginsText OfMotion) i = refl
Keeps-escape_meant so line b Nothing i = refl
Keeps-escape_meant so line b BeginsComment i = refl
Keeps-escape_meant so line b BeginsSize i = refl
Keeps-escape_meant so line b (BeginsName purpose) i = refl
Keeps-escape_meant so line b BeginsWidth i = refl

Keeps-first_escape : (so : Bool) (k : Known) (b : ℕ) → Keeps so (λ i. first_escape k i Branch b)
Keeps-first_escape so k b =
    let line : TextLine = line_begun_as k.interrupted in
    Keeps-either so (b == 123) _ _ (λ i. refl)
    (Keeps-either so (b == newline) _ _ (λ i. refl)
    (Keeps-behind so (going_on_told k.interrupted) (λ i. escape_taking i line b) (Keeps-escape_meant so line b (escape_of b))))

Keeps-character_printed : (so : Bool) (line : TextLine) (name text : Option (List ℕ)) → Keeps so (λ i. character_printed i line name text)
Keeps-character_printed so line name (Some text) i = refl
Keeps-character_printed so line name None i = refl

Keeps-beginning_found : (so : Bool) (k : Known) (found : Found) → Keeps so (λ i. beginning_found k i Branch found)
Keeps-beginning_found so k GoesOn i = refl
Keeps-beginning_found so k (OneUnit (Byte b)) i = Keeps-first_taking so k b i
Keeps-beginning_found so k (OneUnit (Kept b)) i = Keeps-first_escape so k b i
Keeps-beginning_found so k (Holds unit) i = refl
Keeps-beginning_found so k (Escape b) i = Keeps-first_escape so k b i
Keeps-beginning_found so k (Asks Character (Some name)) i =
    let line : TextLine = line_begun_as k.interrupted in
    ap (behind_events (going_on_told k.interrupted)) (Keeps-character_printed so line (Some name) (character name) i)
Keeps-beginning_found so k (Asks Character None) i = refl
Keeps-beginning_found so k (Asks Font name) i = refl
Keeps-beginning_found so k (Asks (NameLeftOut b) name) i = refl
Keeps-beginning_found so k (Asks (Register step) (Some name)) i = refl
Keeps-beginning_found so k (Asks (Register step) None) i = refl
Keeps-beginning_found so k (Asks Text (Some name)) i = refl
Keeps-beginning_found so k (Asks Text None) i = refl
Keeps-beginning_found so k (Asks Argument (Some name)) i = refl
Keeps-beginning_found so k (Asks Argument None) i = refl
Keeps-beginning_found so k (Motion columns remark) i = refl
Keeps-beginning_found so k (Measures width) i = refl
Keeps-beginning_found so k (Tells remark) i = refl
Keeps-beginning_found so k (Decides decision freed) i = refl

-- where it is skipped
Keeps-skipping_taking : (so : Bool) (b : ℕ) → Keeps so (λ i. skipping_taking i 0 0 false b)
Keeps-skipping_taking so b =
    Keeps-either so (b == backslash) _ _ (λ i. refl) (Keeps-either so (b == newline && nat_le 0 0) _ _ (λ i. refl) (λ i. refl))

-- so the branch may be begun before its result is kept
Keeps-decided : (so : Bool) (k : Known) (freed : Option ℕ) → Keeps so (λ i. decided k i so freed)
Keeps-decided so k None i = refl
Keeps-decided true k (Some b) i =
    let read = byte_read (at_start k) i.escapes b in Keeps-beginning_found true k read.0 (record i { escapes = read.1 })
Keeps-decided false k (Some b) i = Keeps-skipping_taking false b i

-- one result more is above the limit on results where fewer are, and no other count grows by it
results_more : (limit : Limit) (most before now : ℕ) (passes : Bool) → nat_lt most before ≡ passes → before ≤ now
    → (if passes then Some Conditions else None) ≡ Some limit → (if nat_lt most now then Some Conditions else None) ≡ Some limit
results_more limit most before now true passes more passed =
    ap (λ (c : Bool). if c then Some Conditions else None) (lt-ltb most now (omega (arith, ltb-true most before passes, more))) ∙ passed
results_more limit most before now false passes more passed = cc

unless_first : (limit first : Limit) (before now : Option Limit) (c : Bool) → (before ≡ Some limit → now ≡ Some limit)
    → (if c then Some first else before) ≡ Some limit → (if c then Some first else now) ≡ Some limit
unless_first limit first before now true later passed = passed
unless_first limit first before now false later passed = later passed

first_passed-with_result : (l : Limits) (rs : AllRegisters) (so : Bool) (i : PageInput) (limit : Limit)
    → first_passed l (counts_in rs i) ≡ Some limit → first_passed l (counts_in rs (with_result so i)) ≡ Some limit
first_passed-with_result l rs so i limit passed =
    unless_first limit Names _ _ (nat_lt l.names (length rs.named))
    (unless_first limit Line _ _ (nat_lt l.line (title_length rs.title))
    (unless_first limit Store _ _ (nat_lt l.store (stored i))
    (unless_first limit Names _ _ (nat_lt l.names (names_added i))
    (unless_first limit Diversions _ _ (nat_lt l.diversions (length i.open_texts - 1))
    (unless_first limit Stack _ _ (nat_lt l.stack (pushed i))
    (unless_first limit Depth _ _ (nat_lt l.depth (depth i))
    (results_more limit l.conditions (result_count i) (result_count (with_result so i)) (nat_lt l.conditions (result_count i)) refl (omega arith)))))))) passed

-- the limit that a taking would pass, if it would pass one
abbrev passed_by : Limits → AllRegisters → Taking → Option Limit
passed_by l rs t = first_passed l (counts_in (changed_by_all t.effect.changes rs) t.input)

-- a branch whose beginning a limit refuses
pub TakesAs-not_begun : (keeps so : Bool) (freed : Option ℕ) (es : ComposerOf) (old new : ReaderState) (before behind : PageUnread) (limit : Limit)
    → TakesAs (λ k. decided k before.input so freed) es old new before behind (Err limit)
    → TakesAs (λ k. decided k (with_result_if keeps so before.input) so freed) es old new before behind (Err limit)
TakesAs-not_begun false so freed es old new before behind limit begins = begins
TakesAs-not_begun true so freed es old new before behind limit begins = record {
  takes = λ l h stands ready.
      let k : Known = known_at h old.registers.all before.input in
      let begun : Taking = decided k before.input so freed in
      subst (λ (t : Taking). passed_by before.limits old.registers.all t ≡ Some limit) (sym (Keeps-decided so k freed before.input))
      (first_passed-with_result before.limits (changed_by_all begun.effect.changes old.registers.all) so begun.input limit (begins.takes l h stands ready));
}

-- what is known of an input behind a taking: of the counts but that of results none is above its limit
record Begun (t : Taking) (old : Capped) (before mid : PageUnread) : Type 0 where
  came : mid ≡ record before { input = t.input }
  few : nat_lt before.limits.names (length (changed_by_all t.effect.changes old.all).named) ≡ false
  short : nat_lt before.limits.line (title_length (changed_by_all t.effect.changes old.all).title) ≡ false

Begun-took : (t : Taking) (old : Capped) (new : ReaderState) (before mid : PageUnread) (m : Step) → Took t old new before mid m → Begun t old before mid
Begun-took t old new before mid m took = record {
  came = took.became.input;
  few = few_names_in before.limits (changed_by_all t.effect.changes old.all) t.input took.became.within;
  short = short_title_in before.limits (changed_by_all t.effect.changes old.all) t.input took.became.within;
}

-- by the input that keeps a result behind it
passed_by-kept : (so : Bool) (t : Taking) (old : Capped) (before mid : PageUnread) → Begun t old before mid
    → passed_by before.limits old.all (with_kept so t) ≡ input_refusal mid.limits (with_result so mid.input)
passed_by-kept so t old before mid begun =
    first_passed-few_names before.limits (changed_by_all t.effect.changes old.all) (with_result so t.input) begun.few begun.short
    ∙ ap (λ (u : PageUnread). input_refusal u.limits (with_result so u.input)) (sym begun.came)

-- a branch began, and a limit refuses to keep the result
pub TakesAs-not_kept : (so : Bool) (freed : Option ℕ) (es : ComposerOf) (old new : ReaderState) (before mid behind : PageUnread) (m : Step) (limit : Limit)
    → TakesAs (λ k. decided k before.input so freed) es old new before mid (Ok m) → (Err limit, behind) ≡ changing (with_result so mid.input) mid
    → TakesAs (λ k. decided k (with_result so before.input) so freed) es old new before behind (Err limit)
TakesAs-not_kept so freed es old new before mid behind m limit begins keeps = record {
  takes = λ l h stands ready.
      let k : Known = known_at h old.registers.all before.input in
      let t : Taking = decided k before.input so freed in
      let begun : Begun t old.registers before mid = Begun-took t old.registers new before mid m (begins.takes l h stands ready) in
      subst (λ (t : Taking). passed_by before.limits old.registers.all t ≡ Some limit) (sym (Keeps-decided so k freed before.input))
      (passed_by-kept so t old.registers before mid begun
      ∙ passed_one (input_refusal mid.limits (with_result so mid.input)) (with_result so mid.input) mid behind limit keeps);
}

-- or the result is kept
pub TakesAs-kept : (so : Bool) (freed : Option ℕ) (es : ComposerOf) (old new : ReaderState) (before mid behind : PageUnread) (m : Step) (done : Unit {0})
    → TakesAs (λ k. decided k before.input so freed) es old new before mid (Ok m) → (Ok done, behind) ≡ changing (with_result so mid.input) mid
    → TakesAs (λ k. decided k (with_result so before.input) so freed) es old new before behind (Ok m)
TakesAs-kept so freed es old new before mid behind m done begins keeps = record {
  takes = λ l h stands ready.
      let k : Known = known_at h old.registers.all before.input in
      let t : Taking = decided k before.input so freed in
      let took : Took t old.registers new before mid m = begins.takes l h stands ready in
      let begun : Begun t old.registers before mid = Begun-took t old.registers new before mid m took in
      let kept = passed_none (input_refusal mid.limits (with_result so mid.input)) (with_result so mid.input) mid behind done keeps in
      subst (λ (t : Taking). Took t old.registers new before behind m) (sym (Keeps-decided so k freed before.input))
      (record {
        became = record {
          input = kept.0 ∙ ap (λ (u : PageUnread). (let with_it : PageUnread = record u { input = with_result so u.input } in with_it)) begun.came;
          reading = took.became.reading;
          registers = took.became.registers;
          within = passed_by-kept so t old.registers before mid begun ∙ kept.1;
        };
        messages = took.messages;
        events = took.events;
      });
}

-- what a condition decides by what is known of the run, that it decides
pub TakesAs-decides : (keeps so : Bool) (decision : Decision) (freed : Option ℕ) (es : ComposerOf) (old new : ReaderState) (before behind : PageUnread) (result : Result Step Limit)
    → ((l : Limits) (h : PageHistory) (rs : AllRegisters) (i : PageInput) → StandFor l h es → so ≡ is_so (known_at h rs i) decision)
    → TakesAs (λ k. decided k (with_result_if keeps so before.input) so freed) es old new before behind result
    → TakesAs (λ k. condition_found k before.input keeps (Decides decision freed)) es old new before behind result
TakesAs-decides keeps so decision freed es old new before behind result asked decides =
    TakesAs-asked (λ k is. decided k (with_result_if keeps is before.input) is freed) (λ k. is_so k decision) so es old new before behind result
    asked decides

-- anything of a condition but its decision is read as behind a request's name
pub condition_found-undecided : (k : Known) (i : PageInput) (keeps : Bool) (found : Found) → ((decision : Decision) (freed : Option ℕ) → found ≡ Decides decision freed → ⊥)
    → no_unit_found k i (Deciding keeps) found ≡ condition_found k i keeps found
condition_found-undecided k i keeps GoesOn goes_on = refl
condition_found-undecided k i keeps (OneUnit unit) goes_on = refl
condition_found-undecided k i keeps (Escape b) goes_on = refl
condition_found-undecided k i keeps (Holds unit) goes_on = refl
condition_found-undecided k i keeps (Asks purpose name) goes_on = refl
condition_found-undecided k i keeps (Motion columns remark) goes_on = refl
condition_found-undecided k i keeps (Measures width) goes_on = refl
condition_found-undecided k i keeps (Tells remark) goes_on = refl
condition_found-undecided k i keeps (Decides decision freed) goes_on = absurd (goes_on decision freed refl)
