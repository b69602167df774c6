-- What the code of the reader takes, piece by piece, as the definition takes it.
use Rattle.std.proofs.Common.{◌≡◌, ℕ, ◌≤◌, Bool, true, false, cond, List, [], ◌∷◌, length, Option, Some, None, Result, Ok, Err, refl, sym, subst, ap, ◌∙◌, arith, nat_lt, ◌&&◌, drop, is_some, if◌then◌else◌}
use Rattle.roff_num.specs.declared.limits.Limits.{Limits}
use Rattle.run_model.specs.Events.Steps.{events_of, messages_of}
use Rattle.run_state.specs.Composer.Standing.{StandFor}
use Rattle.run_state.specs.declared.composer.Composer.{Composer as ComposerOf}
use Rattle.roff_num.specs.declared.limit.Limit.{Limit}
use Rattle.roff_num.specs.declared.limit.Limit.TheVariants.{Line, Names}
use Rattle.roff_num.specs.Ranges.{is_in_range}
use Rattle.input_escapes.specs.OpenEscape.{OpenEscape, texts_held}
use Rattle.input_escapes.specs.OpenEscapes.{Reads, byte_read, reading_ended}
use Rattle.input_model.specs.Input.{choosing, pushing, with_escapes}
use Rattle.input_model.specs.Input.Calls.{without_last}
use Rattle.input_model.specs.Unread.{changing, input_refusal, reading}
use Rattle.input_escapes.specs.declared.open_escape.Found.{Found}
use Rattle.input_escapes.specs.declared.open_escape.Surroundings.{Surroundings}
use Rattle.input_escapes.proofs.TextsHeld.{texts_held-byte_read, texts_held-reading_ended}
use Rattle.roff_store.proofs.Entries.{length-with_entry}
use Rattle.roff_store.specs.Named.{with_entry, entry_of}
use Rattle.roff_store.specs.Registers.{Registers, register_of, with_step, next_value}
use Rattle.roff_num.specs.declared.direction.Direction.{Direction}
use Rattle.roff_store.specs.declared.register.Register.{Register}
use Rattle.run_model.specs.Output.{PageHistory}
use Rattle.read_lines.specs.Reader.State.{ReaderState}
use Rattle.read_lines.specs.Reader.Taken.{IsReady, Takes, TakesAs, Took}
use Rattle.run_model.specs.Reading.Items.{PageUnread, PageInput, Taking, going_on}
use Rattle.run_model.specs.Reading.ControlLines.{line_taking}
use Rattle.run_model.specs.Reading.Escapes.{interpolating}
use Rattle.run_model.specs.Reading.Units.{interrupted}
use Rattle.run_model.specs.Registers.{AllRegisters, Known, changed_by_all, is_page, is_read_only, known_stepped, page_stepped, step_changes, step_messages, text_of_register}
use Rattle.run_model.specs.Registers.Capped.{Capped}
use Rattle.run_model.specs.Requests.Effects.{page_numbered}
use Rattle.run_model.specs.Requests.{row_of}
use Rattle.run_model.specs.Run.{known_at}
use Rattle.run_model.specs.Run.Counts.{counts_in, first_passed}
use Rattle.run_model.specs.declared.step.Step.{Step}
use Rattle.run_model.specs.declared.step.Step.TheVariants.{Nothing}
use Rattle.read_meaning.specs.Meaning.{MeaningKept}
use Rattle.run_model.specs.declared.line_state.LineState.{LineState}
use Rattle.run_model.specs.declared.request.LineReading.{LineReading}
use Rattle.run_model.specs.declared.request.Request.{Request}
use Rattle.read_names.specs.NamesRead.{half_begun}
use Rattle.read_names.proofs.InputsChanged.{passed_none, passed_one}
use Rattle.run_model.specs.TitleTexts.{TitleText, title_length}
use Rattle.run_model.proofs.InputCounts.{behind_title, NoMore, NoMore-interrupted, NoMore-same, first_passed-few_names, first_passed-no_more, one_of}

-- what is taken where other units are half read, and something else was read of the line
pub Takes-elsewhere : (t : Taking) (old : Capped) (new : ReaderState) (before behind : PageUnread) (i : PageInput) (result : Result Step Limit)
    → Takes t old new (record before { input = i }) behind result → Takes t old new before behind result
Takes-elsewhere t old new before behind i (Ok m) took = record {
  became = record {
    input = took.became.input;
    reading = took.became.reading;
    registers = took.became.registers;
    within = took.became.within;
  };
  messages = took.messages;
  events = took.events;
}
Takes-elsewhere t old new before behind i (Err limit) passed = passed

-- where no more is held of texts that are half read
NoMore-with_escapes : (half : List OpenEscape) (i : PageInput) → texts_held half ≤ texts_held i.escapes
    → NoMore (with_escapes half i) i
NoMore-with_escapes half i fewer = record { bytes = omega (arith, fewer); texts = omega arith; results = omega arith; stored = omega arith; names = omega arith; open_texts = omega arith }

-- where a condition begins
pub NoMore-choosing : (i : PageInput) → NoMore (choosing i) i
NoMore-choosing i = NoMore-with_escapes (choosing i).escapes i (omega arith)

-- where a condition begins, if it does
pub NoMore-half_begun : (begins : Bool) (i : PageInput) → NoMore (record i { escapes = half_begun begins i.escapes }) i
NoMore-half_begun true i = NoMore-choosing i
NoMore-half_begun false i = NoMore-same i

-- where the newest result is taken
fewer_results : (kept : List (Bool × ℕ)) → length (drop 1 kept) ≤ length kept
fewer_results [] = omega arith
fewer_results (result ∷ kept) = omega arith

pub NoMore-without_last : (i : PageInput) → NoMore (without_last i) i
NoMore-without_last i =
    let fewer = fewer_results i.results in
    record { bytes = omega arith; texts = omega arith; results = omega arith; stored = omega arith; names = omega arith; open_texts = omega arith }

-- what something reads, with what is half read then
pub TakesAs-read : (t : Known → PageInput → Found → Taking) (r : Reads) (es : ComposerOf) (old new : ReaderState) (before mid behind : PageUnread)
    (found : Found) (result : Result Step Limit) → (found, mid) ≡ reading r before → texts_held r.1 ≤ texts_held before.input.escapes
    → TakesAs (λ k. t k mid.input found) es old new mid behind result
    → TakesAs (λ k. t k (with_escapes r.1 before.input) r.0) es old new before behind result
TakesAs-read t r es old new before mid behind found result reads fewer takes =
    let half : PageInput = with_escapes r.1 before.input in
    let behind_it : PageUnread = record before { input = half } in
    let moved : TakesAs (λ k. t k half r.0) es old new behind_it behind result =
    subst (λ (p : Found × PageUnread). TakesAs (λ k. t k p.1.input p.0) es old new p.1 behind result) reads takes in
    record {
      takes = λ l h stands ready.
          let within = first_passed-no_more before.limits old.registers.all half before.input (NoMore-with_escapes r.1 before.input fewer) ready.within in
          Takes-elsewhere (t (known_at h old.registers.all before.input) half r.0) old.registers new before behind half result
          (moved.takes l h stands (record { cap = ready.cap; line = ready.line; within = within }));
    }

-- the same from where something else is read of the line
pub TakesAs-set : (t : Known → Taking) (es : ComposerOf) (old set new : ReaderState) (before behind : PageUnread) (result : Result Step Limit)
    → set.registers ≡ old.registers → TakesAs t es set new before behind result → TakesAs t es old new before behind result
TakesAs-set t es old set new before behind result same takes = record {
  takes = λ l h stands ready.
      subst (λ (r : Capped). Takes (t (known_at h r.all before.input)) r new before behind result) same
      (takes.takes l h stands (subst (λ (r : Capped). IsReady r before) (sym same) ready));
}

-- what is taken where this is being read
pub TakesAs-where : (t : Known → LineState → Taking) (place : LineState) (es : ComposerOf) (old new : ReaderState) (before behind : PageUnread) (result : Result Step Limit)
    → old.reading ≡ place → TakesAs (λ k. t k place) es old new before behind result → TakesAs (λ k. t k old.reading) es old new before behind result
TakesAs-where t place es old new before behind result is takes =
    subst (λ (r : LineState). TakesAs (λ k. t k r) es old new before behind result) (sym is) takes

-- what is taken as one of two that are equal is taken as the other
pub TakesAs-as : (s t : Known → Taking) (es : ComposerOf) (old new : ReaderState) (before behind : PageUnread) (result : Result Step Limit)
    → ((k : Known) → s k ≡ t k) → TakesAs s es old new before behind result → TakesAs t es old new before behind result
TakesAs-as s t es old new before behind result same takes = record {
  takes = λ l h stands ready.
      subst (λ (taking : Taking). Takes taking old.registers new before behind result) (same (known_at h old.registers.all before.input))
      (takes.takes l h stands ready);
}

-- what is taken once no quote follows the quote before, where this is read
pub TakesAs-settled : (reading : LineState) (t : Known → PageInput → Taking) (es : ComposerOf) (old new : ReaderState) (before mid behind : PageUnread) (result : Result Step Limit)
    → mid ≡ record before { input = interrupted reading before.input } → TakesAs (λ k. t k mid.input) es old new mid behind result
    → TakesAs (λ k. t k (interrupted reading before.input)) es old new before behind result
TakesAs-settled reading t es old new before mid behind result settles takes =
    let i : PageInput = interrupted reading before.input in
    let moved : TakesAs (λ k. t k i) es old new (record before { input = i }) behind result =
    subst (λ (u : PageUnread). TakesAs (λ k. t k u.input) es old new u behind result) settles takes in
    record {
      takes = λ l h stands ready.
          let within = first_passed-no_more before.limits old.registers.all i before.input (NoMore-interrupted reading before.input) ready.within in
          Takes-elsewhere (t (known_at h old.registers.all before.input) i) old.registers new before behind i result
          (moved.takes l h stands (record { cap = ready.cap; line = ready.line; within = within }));
    }

-- of as many newlines and the same calls the same is known
known_at-same : (h : PageHistory) (rs : AllRegisters) (now before : PageInput) → now.newlines ≡ before.newlines → now.calls ≡ before.calls
    → known_at h rs now ≡ known_at h rs before
known_at-same h rs now before newlines calls =
    ap (λ (lines : ℕ). known_at h rs (record now { newlines = lines })) newlines
    ∙ ap (λ (calls : List (List (List ℕ))). known_at h rs (record now { newlines = before.newlines; calls = calls })) calls

-- what is taken once the input is another one, of no more counts, as many newlines and the same calls
pub TakesAs-less : (i : PageInput) (t : Known → Taking) (es : ComposerOf) (old new : ReaderState) (before behind : PageUnread) (result : Result Step Limit)
    → NoMore i before.input → i.newlines ≡ before.input.newlines → i.calls ≡ before.input.calls
    → TakesAs t es old new (record before { input = i }) behind result → TakesAs t es old new before behind result
TakesAs-less i t es old new before behind result less newlines calls takes = record {
  takes = λ l h stands ready.
      let within = first_passed-no_more before.limits old.registers.all i before.input less ready.within in
      let known : known_at h old.registers.all i ≡ known_at h old.registers.all before.input =
      known_at-same h old.registers.all i before.input newlines calls in
      Takes-elsewhere (t (known_at h old.registers.all before.input)) old.registers new before behind i result
      (subst (λ (k : Known). Takes (t k) old.registers new (record before { input = i }) behind result) known
      (takes.takes l h stands (record { cap = ready.cap; line = ready.line; within = within })));
}

-- what the first byte behind a name does, by how the line of its request is read
pub TakesAs-line : (line : LineReading) (breaks : Bool) (request : Request) (b : ℕ) (es : ComposerOf) (old new : ReaderState) (before behind : PageUnread) (result : Result Step Limit)
    → (row_of request).line ≡ line → TakesAs (λ k. line_taking k before.input breaks request line b) es old new before behind result
    → TakesAs (λ k. line_taking k before.input breaks request (row_of request).line b) es old new before behind result
TakesAs-line line breaks request b es old new before behind result is takes =
    subst (λ (l : LineReading). TakesAs (λ k. line_taking k before.input breaks request l b) es old new before behind result) (sym is) takes

-- a step makes no name a register
length-stepped : (name : List ℕ) (r : Register) (named : Registers) (has in_range : Bool) → is_some (entry_of name named) ≡ has
    → length (cond (has && in_range) (with_entry name r named) named) ≡ length named
length-stepped name r named true true has = rw has at (length-with_entry name r named)
length-stepped name r named true false has = refl
length-stepped name r named false in_range has = refl

-- registers with as many names
abbrev SameNames : AllRegisters → AllRegisters → Type 0
SameNames before now = length now.named ≡ length before.named

length-step_changes : (step : Option Direction) (name : List ℕ) (rs : AllRegisters) → SameNames rs (changed_by_all (step_changes step name) rs)
length-step_changes None name rs = refl
length-step_changes (Some direction) name rs =
    one_of (SameNames rs) (is_read_only name) _ _ refl
    (one_of (SameNames rs) (is_page name) rs (record rs { named = with_step direction name rs.named }) refl
    (length-stepped name _ rs.named (is_some (entry_of name rs.named)) (is_in_range (next_value direction (register_of name rs.named))) refl))

-- and the title stays as it is
title-step_changes : (step : Option Direction) (name : List ℕ) (rs : AllRegisters) → (changed_by_all (step_changes step name) rs).title ≡ rs.title
title-step_changes None name rs = refl
title-step_changes (Some direction) name rs =
    one_of (λ (now : AllRegisters). now.title ≡ rs.title) (is_read_only name) _ _ refl
    (one_of (λ (now : AllRegisters). now.title ≡ rs.title) (is_page name) rs (record rs { named = with_step direction name rs.named }) refl refl)

-- no count is above its limit, so no more names than may have a register
few_names-of : {A : Type 0} (x : A) (rest : Option A) (many : Bool) → (if many then Some x else rest) ≡ None → many ≡ false
few_names-of x rest true none = cc
few_names-of x rest false none = refl

pub few_names_in : (l : Limits) (rs : AllRegisters) (i : PageInput) → first_passed l (counts_in rs i) ≡ None → nat_lt l.names (length rs.named) ≡ false
few_names_in l rs i within = few_names-of Names (behind_title l rs i) (nat_lt l.names (length rs.named)) within

pub few_names : (r : Capped) (u : PageUnread) → IsReady r u → nat_lt u.limits.names (length r.all.named) ≡ false
few_names r u ready = few_names_in u.limits r.all u.input ready.within

-- and the title that is read has no more bytes than it may
behind_names : {A : Type 0} (x : A) (rest : Option A) (many : Bool) → (if many then Some x else rest) ≡ None → rest ≡ None
behind_names x rest true none = cc
behind_names x rest false none = none

pub short_title_in : (l : Limits) (rs : AllRegisters) (i : PageInput) → first_passed l (counts_in rs i) ≡ None → nat_lt l.line (title_length rs.title) ≡ false
short_title_in l rs i within =
    few_names-of Line (input_refusal l i) (nat_lt l.line (title_length rs.title))
    (behind_names Names (behind_title l rs i) (nat_lt l.names (length rs.named)) within)

pub short_title : (r : Capped) (u : PageUnread) → IsReady r u → nat_lt u.limits.line (title_length r.all.title) ≡ false
short_title r u ready = short_title_in u.limits r.all u.input ready.within

-- behind a step the input's counts decide
pub passed-stepped : (step : Option Direction) (name : List ℕ) (r : Capped) (u : PageUnread) (i : PageInput) → IsReady r u
    → first_passed u.limits (counts_in (changed_by_all (step_changes step name) r.all) i) ≡ input_refusal u.limits i
passed-stepped step name r u i ready =
    let names : nat_lt u.limits.names (length (changed_by_all (step_changes step name) r.all).named) ≡ false =
    ap (nat_lt u.limits.names) (length-step_changes step name r.all) ∙ few_names r u ready in
    let title : nat_lt u.limits.line (title_length (changed_by_all (step_changes step name) r.all).title) ≡ false =
    ap (λ (t : TitleText). nat_lt u.limits.line (title_length t)) (title-step_changes step name r.all) ∙ short_title r u ready in
    first_passed-few_names u.limits (changed_by_all (step_changes step name) r.all) i names title

-- what a register's text is, as it is known at a history
pub record KnowsText (es : ComposerOf) (rs : AllRegisters) (i : PageInput) (step : Option Direction) (name text : List ℕ) : Type 0 where
  pub text_is : (l : Limits) (h : PageHistory) → StandFor l h es → text ≡ text_of_register (known_stepped step name (known_at h rs i)) name

-- a register is read in the place of its escape
pub TakesAs-interpolated : (es : ComposerOf) (old new : ReaderState) (registers : Capped) (before behind : PageUnread) (step : Option Direction) (name text : List ℕ) (m : Step) (done : Unit {0})
    → KnowsText es old.registers.all before.input step name text
    → registers ≡ record old.registers { all = changed_by_all (step_changes step name) old.registers.all }
    → new ≡ record old { registers = registers; meaning = new.meaning }
    → ((l : Limits) (h : PageHistory) → StandFor l h es → messages_of new.meaning.message m ≡ step_messages step name (known_at h old.registers.all before.input))
    → ((l : Limits) (h : PageHistory) → StandFor l h es
    → events_of new.meaning.events m ≡ page_numbered (page_stepped step name (known_at h old.registers.all before.input)))
    → (Ok done, behind) ≡ changing (pushing text before.input) before
    → TakesAs (λ k. interpolating k before.input old.reading step name) es old new before behind (Ok m)
TakesAs-interpolated es old new registers before behind step name text m done knows changed came messages events pushes = record {
  takes = λ l h stands ready.
      let k : Known = known_at h old.registers.all before.input in
      let known : text ≡ text_of_register (known_stepped step name k) name = knows.text_is l h stands in
      let passed = passed_none (input_refusal before.limits (pushing text before.input)) (pushing text before.input) before behind done pushes in
      let at : List ℕ → Taking = λ t. record {
        input = pushing t before.input;
        reading = old.reading;
        effect = record {
          messages = step_messages step name k;
          changes = step_changes step name;
          calls = [];
          events = page_numbered (page_stepped step name k);
        };
      } in
      subst (λ (t : List ℕ). Took (at t) old.registers new before behind m) known
      (record {
        became = record {
          input = passed.0;
          reading = ap (λ (s : ReaderState). s.reading) came;
          registers = ap (λ (s : ReaderState). s.registers) came ∙ changed;
          within = passed-stepped step name old.registers before (pushing text before.input) ready ∙ passed.1;
        };
        messages = messages l h stands;
        events = events l h stands;
      });
}

-- or its text doesn't fit
pub TakesAs-not_interpolated : (es : ComposerOf) (old new : ReaderState) (before behind : PageUnread) (step : Option Direction) (name text : List ℕ) (limit : Limit)
    → KnowsText es old.registers.all before.input step name text
    → (Err limit, behind) ≡ changing (pushing text before.input) before
    → TakesAs (λ k. interpolating k before.input old.reading step name) es old new before behind (Err limit)
TakesAs-not_interpolated es old new before behind step name text limit knows pushes = record {
  takes = λ l h stands ready.
      let known : text ≡ text_of_register (known_stepped step name (known_at h old.registers.all before.input)) name = knows.text_is l h stands in
      let refused = passed_one (input_refusal before.limits (pushing text before.input)) (pushing text before.input) before behind limit pushes in
      subst (λ (t : List ℕ). first_passed before.limits (counts_in (changed_by_all (step_changes step name) old.registers.all) (pushing t before.input)) ≡ Some limit) known
      (passed-stepped step name old.registers before (pushing text before.input) ready ∙ refused);
}

-- a byte that isn't one of the line is taken
pub TakesAs-interrupted : (es : ComposerOf) (old : ReaderState) (u behind : PageUnread) → behind ≡ record u { input = interrupted old.reading u.input }
    → TakesAs (λ k. going_on (interrupted old.reading u.input) old.reading) es old old u behind (Ok Nothing)
TakesAs-interrupted es old u behind came = record {
  takes = λ l h stands ready. record {
    became = record {
      input = came;
      reading = refl;
      registers = refl;
      within = first_passed-no_more u.limits old.registers.all (interrupted old.reading u.input) u.input (NoMore-interrupted old.reading u.input) ready.within;
    };
    messages = refl;
    events = refl;
  };
}

-- what is kept stays where only this is read on
pub keeps-meaning : (behind : LineState) (old new : ReaderState) → new ≡ record old { reading = behind } → new ≡ record old { reading = behind; meaning = new.meaning }
keeps-meaning behind old new came = came ∙ ap (λ (m : MeaningKept). record old { reading = behind; meaning = m }) (sym (ap (λ (s : ReaderState). s.meaning) came))

-- what asks something of the run, from the answer that the environments give
pub TakesAs-asked : {A : Type 0} (t : Known → A → Taking) (asked : Known → A) (answer : A) (es : ComposerOf) (old new : ReaderState)
    (before behind : PageUnread) (result : Result Step Limit)
    → ((l : Limits) (h : PageHistory) (rs : AllRegisters) (i : PageInput) → StandFor l h es → answer ≡ asked (known_at h rs i))
    → TakesAs (λ k. t k answer) es old new before behind result
    → TakesAs (λ k. t k (asked k)) es old new before behind result
TakesAs-asked t asked answer es old new before behind result answers takes = record {
  takes = λ l h stands ready.
      subst (λ x. Takes (t (known_at h old.registers.all before.input) x) old.registers new before behind result)
      (answers l h old.registers.all before.input stands) (takes.takes l h stands ready);
}

-- how a byte is read, by the place on the line
module _ (found_at : Known → PageInput → Found → Taking) (place : Known → Surroundings) (answer : Surroundings) (es : ComposerOf)
    (answers : (l : Limits) (h : PageHistory) (rs : AllRegisters) (i : PageInput) → StandFor l h es → answer ≡ place (known_at h rs i))
    (old new : ReaderState) (before mid behind : PageUnread) (found : Found) (result : Result Step Limit) where
  -- a byte of the line
  pub TakesAs-read_at : (b : ℕ) → (found, mid) ≡ reading (byte_read answer before.input.escapes b) before
      → TakesAs (λ k. found_at k mid.input found) es old new mid behind result
      → TakesAs (λ k.
      found_at k (with_escapes (byte_read (place k) before.input.escapes b).1 before.input) (byte_read (place k) before.input.escapes b).0)
      es old new before behind result
  TakesAs-read_at b reads takes =
      let half : List OpenEscape = before.input.escapes in
      TakesAs-asked (λ k s. found_at k (with_escapes (byte_read s half b).1 before.input) (byte_read s half b).0) place answer es old new
      before behind result answers
      (TakesAs-read found_at (byte_read answer half b) es old new before mid behind found result reads
      (texts_held-byte_read answer b half) takes)

  -- or the end of what is half read
  pub TakesAs-ended_at : (found, mid) ≡ reading (reading_ended answer before.input.escapes) before
      → TakesAs (λ k. found_at k mid.input found) es old new mid behind result
      → TakesAs (λ k.
      found_at k (with_escapes (reading_ended (place k) before.input.escapes).1 before.input) (reading_ended (place k) before.input.escapes).0)
      es old new before behind result
  TakesAs-ended_at reads takes =
      let half : List OpenEscape = before.input.escapes in
      TakesAs-asked (λ k s. found_at k (with_escapes (reading_ended s half).1 before.input) (reading_ended s half).0) place answer es old new
      before behind result answers
      (TakesAs-read found_at (reading_ended answer half) es old new before mid behind found result reads
      (texts_held-reading_ended answer half) takes)
