-- A condition that was read at once, and decided: the run has come behind it.
use Rattle.std.proofs.Common.{◌≡◌, ℕ, ◌≤◌, Bool, true, false, List, [], ◌∷◌, Some, None, Result, refl, sym, ap, subst, ◌∙◌, arith, pos, int_lt}
use Rattle.roff_num.specs.declared.num.Num.{Num}
use Rattle.roff_num.specs.declared.num.NumFault.{NumFault}
use Rattle.input_source.specs.Bytes.{blank}
use Rattle.input_source.specs.Tape.{Tape}
use Rattle.page_bytes.specs.Sinks.{Sunk}
use Rattle.input_escapes.specs.Conditions.{expression_valued}
use Rattle.input_escapes.specs.OpenEscape.{Condition, OpenEscape, texts_held}
use Rattle.input_escapes.specs.OpenEscapes.{reading_ended}
use Rattle.input_escapes.specs.Waiting.{decides, is_ended_by, waiting_of}
use Rattle.input_escapes.specs.declared.open_escape.ConditionPart.TheVariants.{Decided}
use Rattle.input_escapes.specs.declared.open_escape.Decision.TheVariants.{Is}
use Rattle.input_escapes.specs.declared.open_escape.Found.TheVariants.{GoesOn}
use Rattle.input_escapes.specs.declared.open_escape.Surroundings.{Surroundings}
use Rattle.input_escapes.specs.declared.open_escape.Surroundings.TheVariants.{Copy as AboveCopy}
use Rattle.input_model.specs.Unread.{IsWithin, reading}
use Rattle.read_lines.specs.Reader.State.{ReaderState}
use Rattle.run_model.specs.Reading.{escape_ended}
use Rattle.run_model.specs.Reading.Branches.{branch_of, with_result_if}
use Rattle.run_model.specs.Reading.Ends.{due}
use Rattle.run_model.specs.Reading.Items.{PageInput, PageUnread, going_on}
use Rattle.run_model.specs.Reading.Waiting.{waiting_in}
use Rattle.input_escapes.specs.declared.open_escape.Waiting.TheVariants.{Takes}
use Rattle.read_shortcuts.proofs.ConstantConditions.{none_due-branch}
use Rattle.run_model.specs.Registers.{Known}
use Rattle.run_model.specs.declared.line_state.LineState.{LineState}
use Rattle.run_model.specs.declared.line_state.LineState.TheVariants.{Deciding}
use Rattle.read_shortcuts.specs.Registers.{Asked, OfArgument, OfRegister}
use Rattle.read_shortcuts.specs.Conditions.{DecidesAtOnce, DecidesBehind, DecidesConstant, DecidesRegister, DecidesTexts, ByConstant, ByOther, ByRegister, ByTexts, NoRest, PassesEndIf, ReadsAsked, ReadsRest, SomeRest, coming, deciding_reader, kept_half}
use Rattle.read_shortcuts.specs.KeptResults.{kept_input}
use Rattle.run_turns.specs.declared.running.Running.{Running as Coded}
use Rattle.run_items.specs.Outcome.{Seen, seen}
use Rattle.run_shortcuts.specs.EndsAtOnce.{EndsAtOnce}
use Rattle.run_turns.specs.Running.Turning.{GoesPast}
use Rattle.run_shortcuts.proofs.EndsAtOnce.{decides-reading, ends-expression, goes_further_decided, goes_past_expression, waits-reading}
use Rattle.run_shortcuts.proofs.OtherBranches.{goes_further_other}
use Rattle.run_shortcuts.proofs.PassingEnds.{goes_further_passed, goes_past_seen}
use Rattle.run_shortcuts.proofs.PutRegisters.{goes_further_put}
use Rattle.run_shortcuts.proofs.Turned.{goes_past_turned}
use Rattle.run_turns.proofs.ComingFurther.{comes_both, comes_further, comes_none}

-- what is unread with nothing half read, and with a result that is kept, if it is to be
kept-as : (keeps so : Bool) (i : PageInput) → with_result_if keeps so (record i { escapes = [] }) ≡ kept_input keeps so (record i { escapes = [] })
kept-as true so i = refl
kept-as false so i = refl

-- A condition that is read, and whose result is kept or isn't, has decided: the run goes on where its branch begins.
module _ (keeps so : Bool) (texts : List ℕ) (gives : Tape → Type 0) (notes : ℕ) (now : Seen) (old : Coded)
    (deciding : old.interpreter.reader.reading ≡ Deciding keeps) (half : old.unread.input.escapes ≡ Condition (Decided (Is so) None) texts ∷ [])
    (within : IsWithin (kept_half keeps so old.unread)) where
  abbrev pub decided : Coded
  decided = record old {
    unread = kept_half keeps so old.unread;
    interpreter = record old.interpreter { reader = record old.interpreter.reader { reading = branch_of so } };
  }

  ended : (k : Known) → escape_ended k old.interpreter.reader.reading old.unread.input ≡ going_on decided.unread.input (branch_of so)
  ended k =
      ap (λ (r : LineState). escape_ended k r old.unread.input) deciding
      ∙ ap (λ (opened : List OpenEscape). escape_ended k (Deciding keeps) (record old.unread.input { escapes = opened })) half
      ∙ ap (λ (i : PageInput). going_on i (branch_of so)) (kept-as keeps so old.unread.input)

  ends : EndsAtOnce old decided
  ends = record { ended = ended; ahead = refl; within = within; is = refl }

  pub goes_further_deciding : GoesPast true gives gives notes notes old decided now now
  goes_further_deciding =
      goes_further_decided old decided true (ap (λ (r : LineState). due r) deciding)
      (λ did. decides-reading keeps old deciding (ap (λ (opened : List OpenEscape). decides (waiting_of AboveCopy opened)) half)) (λ did. ends) (λ not. absurd (cc)) gives notes now

-- the end of a text is passed where a branch begins, or nothing is
waits-branch : (so : Bool) (i : PageInput) → i.escapes ≡ [] → waiting_in (branch_of so) i ≡ Takes
waits-branch true i none = ap (λ (half : List OpenEscape). waiting_in (branch_of true) (record i { escapes = half })) none
waits-branch false i none = ap (λ (half : List OpenEscape). waiting_in (branch_of false) (record i { escapes = half })) none

goes_past_ended : (gives : Tape → Type 0) (notes : ℕ) (now : Seen) (old : Coded) (so is_ended : Bool) (over : PageUnread) → old.interpreter.reader.reading ≡ branch_of so → old.unread.input.escapes ≡ []
    → PassesEndIf is_ended old.unread over → GoesPast false gives gives notes notes old (record old { unread = over }) now now
goes_past_ended gives notes now old so true over reads none ends =
    comes_further (goes_further_passed old (record old { unread = over }) true (λ did. ap (λ (r : LineState). due r) reads ∙ none_due-branch so)
    (λ did. ap (λ (r : LineState). waiting_in r old.unread.input) reads ∙ waits-branch so old.unread.input none) (λ did. ends.0) (λ did. ends.1) (λ not. absurd (cc)) refl gives notes now)
goes_past_ended gives notes now old so false over reads none ends =
    subst (λ (u : PageUnread). GoesPast false gives gives notes notes old (record old { unread = u }) now now) (sym ends) (comes_none gives notes old now)

module _ (keeps : Bool) (gave gives : Tape → Type 0) (noted notes failed failures : ℕ) (out err : Sunk) (old : Coded) (new : ReaderState) (after : PageUnread)
    (d : DecidesBehind keeps gave gives old.interpreter.reader new old.unread after) (within : IsWithin old.unread) (fewer : notes ≤ noted) (same : failures ≡ failed) where
  abbrev u : PageUnread
  u = old.unread

  abbrev now : Seen
  now = seen failed out err

  -- whether it is so, and what is half read where it decides
  abbrev so : Bool
  so = int_lt (pos 0) d.value.0.0

  abbrev deciding : PageUnread
  deciding = record u { input = record u.input { escapes = Condition (Decided (Is so) None) d.text ∷ [] } }

  -- the run there, and where it has decided
  abbrev there : Coded
  there = record old { unread = deciding }

  abbrev behind : Coded
  behind = decided keeps so d.text gave noted now there d.deciding refl d.within

  -- no more is held there
  within-deciding : IsWithin deciding
  within-deciding =
      let held = ap texts_held d.half in
      record {
        charge = within.charge;
        newlines = within.newlines;
        pushed = omega (arith, within.pushed, held);
        depth = within.depth;
        results = within.results;
        stored = within.stored;
        names = within.names;
        making = within.making;
      }

  -- the expression ends
  expression-ends : (base : Surroundings) → (GoesOn, deciding) ≡ reading (reading_ended base u.input.escapes) u
  expression-ends base =
      sym (ap (λ (half : List OpenEscape). reading (reading_ended base half) u) d.half
      ∙ ap (λ (r : Result (Num × ℕ) NumFault). reading (expression_valued [] false None d.text r) u) d.is_number)

  past-expression : GoesPast false gave gave noted noted old there now now
  past-expression =
      goes_past_expression old there true blank gave (ap (λ (r : LineState). due r) d.deciding) (waits-reading keeps old d.deciding (ap (waiting_of AboveCopy) d.half)) d.sees
      (ap (λ (half : List OpenEscape). is_ended_by half (Some blank)) d.half)
      (λ did. ends-expression keeps old deciding d.deciding expression-ends within-deciding) (λ not. absurd (cc)) noted now

  pub goes_further_behind : GoesPast true gave gives noted notes old (record old { unread = after; interpreter = record old.interpreter { reader = new } }) now (seen failures out err)
  goes_further_behind =
      comes_both true
      (comes_both true
      (comes_both false past-expression
      (goes_further_deciding keeps so d.text gave noted now there d.deciding refl d.within))
      (goes_past_ended gave noted now behind so d.is_ended d.over refl refl d.ends))
      (goes_past_turned gave gives noted notes failed failures out err (record behind { unread = d.over }) after new d.behind fewer same)

-- a reader that reads a condition
abbrev on_condition : Bool → Coded → PageUnread → Coded
on_condition keeps old u = record old { unread = u; interpreter = record old.interpreter { reader = deciding_reader keeps old.interpreter.reader } }

-- so the run goes past one that asks nothing
goes_further_constant : (gave gives : Tape → Type 0) (noted notes failed failures : ℕ) (out err : Sunk) (old : Coded) (after : PageUnread) (new : ReaderState)
    → DecidesConstant gave gives old.interpreter.reader new old.unread after → notes ≤ noted → failures ≡ failed
    → GoesPast true gave gives noted notes old (record old { unread = after; interpreter = record old.interpreter { reader = new } }) (seen failed out err) (seen failures out err)
goes_further_constant gave gives noted notes failed failures out err old after new d fewer same =
    let r : ReaderState = deciding_reader d.keeps old.interpreter.reader in
    let between : Coded = on_condition d.keeps old d.between in
    let new_run : Coded = record old { unread = after; interpreter = record old.interpreter { reader = new } } in
    comes_both false
    (goes_past_turned gave gives noted notes failed failures out err old d.between r d.past fewer same)
    (goes_further_behind d.keeps gives gives notes notes failures failures out err between new after d.decides d.past.within (omega arith) refl)

-- past the end of a text and bytes behind it, or past nothing
goes_past_rest : (keeps : Bool) (second last : List ℕ) (gives : Tape → Type 0) (notes failures : ℕ) (out err : Sunk) (old : Coded) (between : PageUnread)
    → old.interpreter.reader.reading ≡ Deciding keeps → ReadsRest keeps second last gives old.interpreter.reader old.unread between
    → GoesPast false (coming second gives) (coming last gives) notes notes old (record old { unread = between }) (seen failures out err) (seen failures out err)
goes_past_rest keeps second last gives notes failures out err old between reads (NoRest same is) =
    subst (λ (bytes : List ℕ). GoesPast false (coming second gives) (coming bytes gives) notes notes old (record old { unread = between }) (seen failures out err) (seen failures out err)) (sym same)
    (subst (λ (u : PageUnread). GoesPast false (coming second gives) (coming second gives) notes notes old (record old { unread = u }) (seen failures out err) (seen failures out err)) (sym is)
    (comes_none (coming second gives) notes old (seen failures out err)))
goes_past_rest keeps second last gives notes failures out err old between reads (SomeRest over p rest) =
    comes_both false
    (goes_past_seen old (record old { unread = over }) true p.byte (coming second gives) (ap (λ (r : LineState). due r) reads) (ap (λ (r : LineState). waiting_in r old.unread.input) reads ∙ p.waits) p.sees p.stays
    (λ did. p.passes) p.within (λ not. absurd (cc)) refl notes (seen failures out err))
    (goes_past_turned (coming second gives) (coming last gives) notes notes failures failures out err (record old { unread = over }) between old.interpreter.reader rest (omega arith) refl)

-- past an escape of a condition, and what was read behind it
goes_further_asked : (asked_for : Asked) (keeps : Bool) (last : List ℕ) (gave gives : Tape → Type 0) (noted notes failed failures : ℕ) (out err : Sunk) (old : Coded) (between : PageUnread)
    → ReadsAsked asked_for old.interpreter.formatter.composer keeps last gave gives old.interpreter.reader old.unread between → notes ≤ noted → failures ≡ failed
    → GoesPast true gave (coming last gives) noted notes old (on_condition keeps old between) (seen failed out err) (seen failures out err)
goes_further_asked asked_for keeps last gave gives noted notes failed failures out err old between d fewer same =
    let r : ReaderState = deciding_reader keeps old.interpreter.reader in
    let first : Tape → Type 0 = coming d.first gives in
    let second : Tape → Type 0 = coming d.second gives in
    comes_both true
    (comes_both true
    (comes_both false
    (goes_past_turned gave first noted notes failed failures out err old d.asked r d.past fewer same)
    (goes_further_put asked_for first second (on_condition keeps old d.asked) d.put d.puts notes notes failures failures out err (omega arith) refl))
    (goes_past_turned second second notes notes failures failures out err (on_condition keeps old d.put) d.ended r d.text (omega arith) refl))
    (goes_past_rest keeps d.second last gives notes failures out err (on_condition keeps old d.ended) between refl d.rest)

-- and past one that asks for a register
goes_further_asking : (gave gives : Tape → Type 0) (noted notes failed failures : ℕ) (out err : Sunk) (old : Coded) (after : PageUnread) (new : ReaderState)
    → DecidesRegister old.interpreter.formatter.composer gave gives old.interpreter.reader new old.unread after → notes ≤ noted → failures ≡ failed
    → GoesPast true gave gives noted notes old (record old { unread = after; interpreter = record old.interpreter { reader = new } }) (seen failed out err) (seen failures out err)
goes_further_asking gave gives noted notes failed failures out err old after new d fewer same =
    comes_both true
    (goes_further_asked OfRegister d.keeps d.last gave gives noted notes failed failures out err old d.between d.reads fewer same)
    (goes_further_behind d.keeps (coming d.last gives) gives notes notes failures failures out err (on_condition d.keeps old d.between) new after d.decides d.within (omega arith) refl)

-- and past one that compares an argument with a text
goes_further_comparing : (gave gives : Tape → Type 0) (noted notes failed failures : ℕ) (out err : Sunk) (old : Coded) (after : PageUnread) (new : ReaderState)
    → DecidesTexts old.interpreter.formatter.composer gave gives old.interpreter.reader new old.unread after → notes ≤ noted → failures ≡ failed
    → GoesPast true gave gives noted notes old (record old { unread = after; interpreter = record old.interpreter { reader = new } }) (seen failed out err) (seen failures out err)
goes_further_comparing gave gives noted notes failed failures out err old after new d fewer same =
    let behind : Seen = seen failures out err in
    let between : Coded = on_condition d.keeps old d.between in
    let within : IsWithin (kept_half d.keeps d.so d.between) = subst IsWithin d.is d.within in
    subst (λ (u : PageUnread). GoesPast true gave gives noted notes old (record old { unread = u; interpreter = record old.interpreter { reader = new } }) (seen failed out err) behind) (sym d.is)
    (subst (λ (n : ReaderState). GoesPast true gave gives noted notes old (record old { unread = kept_half d.keeps d.so d.between; interpreter = record old.interpreter { reader = n } }) (seen failed out err) behind)
    (sym d.reads)
    (comes_both true
    (goes_further_asked OfArgument d.keeps [] gave gives noted notes failed failures out err old d.between d.asked fewer same)
    (goes_further_deciding d.keeps d.so d.texts gives notes behind between refl d.half within)))

-- past any
pub goes_further_at_once : (gave gives : Tape → Type 0) (noted notes failed failures : ℕ) (out err : Sunk) (old : Coded) (after : PageUnread) (new : ReaderState)
    → DecidesAtOnce old.interpreter.formatter.composer gave gives old.interpreter.reader new old.unread after → notes ≤ noted → failures ≡ failed
    → GoesPast true gave gives noted notes old (record old { unread = after; interpreter = record old.interpreter { reader = new } }) (seen failed out err) (seen failures out err)
goes_further_at_once gave gives noted notes failed failures out err old after new (ByConstant d) fewer same =
    goes_further_constant gave gives noted notes failed failures out err old after new d fewer same
goes_further_at_once gave gives noted notes failed failures out err old after new (ByRegister d) fewer same =
    goes_further_asking gave gives noted notes failed failures out err old after new d fewer same
goes_further_at_once gave gives noted notes failed failures out err old after new (ByTexts d) fewer same =
    goes_further_comparing gave gives noted notes failed failures out err old after new d fewer same
goes_further_at_once gave gives noted notes failed failures out err old after new (ByOther takes) fewer same =
    goes_further_other gave gives old after new takes noted notes failed failures out err fewer same
