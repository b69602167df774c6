-- A condition that asks nothing is read at once, and decides.
use Rattle.std.proofs.Common.{◌≡◌, ℕ, ◌==◌, Bool, true, false, List, [], ◌∷◌, ◌++◌, length, Some, None, Ok, refl, sym, ap, subst, ◌∙◌, arith, ◌||◌, not, IsTrue, pos, int_lt, if◌then◌else◌, eqb-true}
use Rattle.roff_num.specs.Expressions.{folded_onto, operand_within, value_at}
use Rattle.roff_num.specs.declared.num.Num.{Num}
use Rattle.roff_num.specs.declared.num.Scale.TheVariants.{Units}
use Rattle.input_source.specs.Bytes.{backslash, blank, is_dropped, newline, tab}
use Rattle.input_source.specs.Tape.{Tape}
use Rattle.input_escapes.specs.ConditionFronts.{ByteTaken, HalvesTaken, HoldsOn, IsHeld, IsRead, NothingTaken, TakesOn}
use Rattle.input_escapes.specs.OpenEscape.{Condition, OpenEscape, Reads}
use Rattle.input_escapes.specs.declared.open_escape.ConditionPart.TheVariants.{Choice, Expression}
use Rattle.input_escapes.specs.declared.open_escape.Surroundings.TheVariants.{Arguments as AboveArguments}
use Rattle.input_model.specs.Arguments.{Arguments}
use Rattle.input_model.specs.Input.{Ahead, ByteAhead, bytes_ahead, bytes_taken, ends_ahead, is_none_ahead}
use Rattle.input_model.specs.Unread.{IsWithin}
use Rattle.roff_scan.specs.Unread.Calls.{IsFront, NoNewline, OfSource, OfTexts, PassesFront, PassesTexts, front_bytes}
use Rattle.roff_scan.specs.Unread.Runs.{with_stage_of}
use Rattle.roff_scan.specs.declared.run_kind.RunKind.TheVariants.{Condition as ConditionRun}
use Rattle.read_names.specs.NamesRead.{LeadsTo, input_begun}
use Rattle.roff_store.specs.Named.{Named}
use Rattle.roff_store.specs.Texts.{Entry}
use Rattle.read_lines.specs.Reader.State.{ReaderState}
use Rattle.run_model.specs.PageEvents.{PageEvent}
use Rattle.run_model.specs.Reading.{undropped_taking}
use Rattle.run_model.specs.Reading.Branches.{branch_of}
use Rattle.run_model.specs.Reading.ControlLines.{BelongsToName, behind_called}
use Rattle.run_model.specs.Reading.Ends.{due}
use Rattle.run_model.specs.Reading.Found.{read_in}
use Rattle.run_model.specs.Reading.Items.{PageInput, PageUnread, going_on}
use Rattle.run_model.specs.Requests.{called_by}
use Rattle.run_model.specs.Stages.{Ignores, Stage, TakesHalf, Turned, stage_of}
use Rattle.run_model.specs.declared.line_state.LineState.{LineState}
use Rattle.run_model.specs.declared.line_state.LineState.TheVariants.{Deciding, Skipping}
use Rattle.read_shortcuts.specs.Conditions.{AsksNothing, DecidesConstant, HasBlank, OfAhead, constant_front, digit_of, kept_half}
use Rattle.read_shortcuts.specs.Runs.{IsRun}
use Rattle.read_shortcuts.specs.ControlFronts.{BeginsControl, StandsReady, control_byte}
use Rattle.read_shortcuts.specs.Stages.{ReadsPast}
use Rattle.read_shortcuts.proofs.AddedRuns.{turned-same}
use Rattle.read_shortcuts.proofs.BlankRuns.{passes-blank}
use Rattle.read_shortcuts.proofs.ConditionRuns.{turned-taken}
use Rattle.read_shortcuts.proofs.LinesRead.{Turned-append}
use Rattle.read_shortcuts.proofs.ControlFronts.{control_plain, ready-some, reads-front, stage_with, turned-named}

-- where a condition is read, bytes change what is half read
pub takes-half : (keeps : Bool) → TakesHalf (Deciding keeps)
takes-half keeps k i b next (IsRead reads) =
    ap (λ (c : Bool). if c then going_on i (Deciding keeps) else undropped_taking k (Deciding keeps) i b) reads.stands
    ∙ ap (λ (r : Reads). read_in k (Deciding keeps) i r) (reads.goes_on AboveArguments)
takes-half keeps k i b next (IsHeld top holds is) =
    ap (λ (c : Bool). if c then going_on i (Deciding keeps) else undropped_taking k (Deciding keeps) i b) holds.stands
    ∙ ap (λ (r : Reads). read_in k (Deciding keeps) i r) (holds.holds AboveArguments)
    ∙ ap (λ (half : List OpenEscape). going_on (record i { escapes = half }) (Deciding keeps)) (sym is)

-- a condition of which nothing is read, and an expression
abbrev pub choice : List OpenEscape
choice = Condition (Choice false) [] ∷ []

abbrev pub expression : List ℕ → List OpenEscape
expression text = Condition (Expression false) text ∷ []

-- a blank in front of it changes nothing
pub passes-first : TakesOn choice 32 choice
passes-first = IsRead (record { stands = refl; no_newline = refl; stays = refl; goes_on = λ base. refl; held = refl })

-- its digit begins an expression
holds-digit : (so : Bool) → HoldsOn choice (digit_of so) (expression [])
holds-digit true = record { stands = refl; no_newline = refl; stays = refl; holds = λ base. refl; held = refl }
holds-digit false = record { stands = refl; no_newline = refl; stays = refl; holds = λ base. refl; held = refl }

halves-digit : (so : Bool) → HalvesTaken choice (blank ∷ digit_of so ∷ []) (expression (digit_of so ∷ []))
halves-digit so =
    ByteTaken choice choice (expression (digit_of so ∷ [])) blank (digit_of so ∷ []) passes-first
    (ByteTaken choice (expression (digit_of so ∷ [])) (expression (digit_of so ∷ [])) (digit_of so) [] (IsHeld (expression []) (holds-digit so) refl)
    (NothingTaken (expression (digit_of so ∷ []))))

-- which is a number
abbrev number_of : Bool → Num × ℕ
number_of so = (record { 0 = if so then pos 1 else pos 0 }, 1)

is_number-digit : (so : Bool) → value_at (digit_of so ∷ []) 0 Units (Some (pos 0)) ≡ Ok (number_of so)
unfolding folded_onto operand_within value_at
is_number-digit true = refl
is_number-digit false = refl

so-digit : (so : Bool) → int_lt (pos 0) (number_of so).0.0 ≡ so
so-digit true = refl
so-digit false = refl

-- a blank behind it is passed over
pub passes-behind : (so : Bool) (b : ℕ) → (b == blank) ≡ true → Ignores (branch_of so) b
passes-behind true b is = passes-blank b is
passes-behind false b is = λ k i none. subst (λ (c : ℕ). Ignores (Skipping 0 0 false) c) (sym (eqb-true b blank is)) (λ k i none. refl) k i none

pub none_due-branch : (so : Bool) → due (branch_of so) ≡ None
none_due-branch true = refl
none_due-branch false = refl

module _ (gave gives : Tape → Type 0) (r : ReaderState) (breaks : Bool) (first second : ℕ) (so : Bool) (before passed : PageUnread) (none : before.input.escapes ≡ [])
    (none_due : due r.reading ≡ None) (begins : BeginsControl r.reading) (named_first : BelongsToName first) (named_second : BelongsToName second)
    (leads : LeadsTo (λ i. behind_called i breaks (called_by (record { first = first; second = Some second }) before.input.names)) (Deciding false))
    (passes : PassesTexts gave gives (constant_front breaks first second so) before passed) (within : IsWithin before) (inside : IsWithin passed) where
  abbrev i : PageInput
  i = before.input

  -- the bytes in front of the blank behind it, and what is unread behind them
  abbrev front : List ℕ
  front = control_byte breaks ∷ first ∷ second ∷ blank ∷ digit_of so ∷ []

  abbrev between : PageUnread
  between = record before { input = record (bytes_taken front (ByteAhead blank ∷ passes.behind) i) { escapes = expression (digit_of so ∷ []) } }

  turned-front : Turned i.names (stage_of r.reading i) front (stage_of (Deciding false) between.input)
  turned-front =
      let last : List OpenEscape = expression (digit_of so ∷ []) in
      subst (λ (half : List OpenEscape). Turned i.names (stage_with r.reading half i.arguments i.open_texts) front (stage_with (Deciding false) last i.arguments i.open_texts)) (sym none)
      (Turned-append i.names (stage_with r.reading [] i.arguments i.open_texts) (stage_with (Deciding false) choice i.arguments i.open_texts) (stage_with (Deciding false) last i.arguments i.open_texts)
      (control_byte breaks ∷ first ∷ second ∷ []) (blank ∷ digit_of so ∷ [])
      (turned-named i.names r.reading (Deciding false) breaks first second i.arguments i.open_texts none_due begins named_first named_second leads)
      (turned-taken i.names (Deciding false) i.arguments i.open_texts choice last (blank ∷ digit_of so ∷ []) refl (takes-half false) (halves-digit so)))

  within-between : IsWithin between
  within-between =
      let bytes = ap (λ (items : List (Ahead PageEvent)). bytes_ahead items) passes.in_front in
      let ends = ap (λ (items : List (Ahead PageEvent)). ends_ahead items) passes.in_front in
      record {
        charge = omega (arith, passes.within);
        newlines = omega (arith, within.newlines);
        pushed = omega (arith, within.pushed, bytes);
        depth = omega (arith, within.depth, ends);
        results = within.results;
        stored = within.stored;
        names = within.names;
        making = within.making;
      }

  within-decided : IsWithin (kept_half false so between)
  within-decided = record {
    charge = within-between.charge;
    newlines = within-between.newlines;
    pushed = omega (arith, within-between.pushed);
    depth = within-between.depth;
    results = within-between.results;
    stored = within-between.stored;
    names = within-between.names;
    making = within-between.making;
  }

  past-front : ReadsPast gave gives r (record r { reading = Deciding false }) before between
  past-front = record {
    bytes = front;
    turned = turned-front;
    passes = OfTexts (record {
      behind = ByteAhead blank ∷ passes.behind;
      in_front = passes.in_front;
      stays = passes.stays;
      input = refl;
      within = omega (arith, passes.within);
    });
    registers = refl;
    meaning = refl;
    within = within-between;
  }

  -- the blank
  past-blank : ReadsPast gives gives (record r { reading = branch_of so }) (record r { reading = branch_of so }) (kept_half false so between) passed
  past-blank =
      let p : Stage = stage_with (branch_of so) [] i.arguments i.open_texts in
      let same : stage_of (branch_of so) passed.input ≡ p =
      ap (λ (u : PageUnread). stage_of (branch_of so) u.input) passes.input ∙ ap (λ (half : List OpenEscape). stage_with (branch_of so) half i.arguments i.open_texts) none in
      record {
        bytes = blank ∷ [];
        turned = subst (λ (q : Stage). Turned i.names p (blank ∷ []) q) (sym same)
            (turned-same (λ b. b == blank) i.names (branch_of so) [] i.arguments i.open_texts (blank ∷ []) refl (none_due-branch so) (passes-behind so) (refl, tt));
        passes = OfTexts (record {
          behind = passes.behind;
          in_front = refl;
          stays = record { before = λ t may. may; after = λ t may. may };
          input = ap (λ (u : PageUnread). record u { input = with_stage_of (kept_half false so between).input u.input }) passes.input;
          within = omega (arith, passes.within);
        });
        registers = refl;
        meaning = refl;
        within = inside;
      }

  decides-texts : DecidesConstant gave gives r (record r { reading = branch_of so }) before passed
  decides-texts = record {
    keeps = false;
    between = between;
    past = past-front;
    decides = record {
      deciding = refl;
      text = digit_of so ∷ [];
      half = refl;
      sees = OfAhead refl;
      value = number_of so;
      is_number = is_number-digit so;
      within = subst (λ (is : Bool). IsWithin (kept_half false is between)) (sym (so-digit so)) within-decided;
      is_ended = false;
      over = kept_half false so between;
      ends = refl;
      behind = subst (λ (is : Bool). ReadsPast gives gives (record r { reading = branch_of is }) (record r { reading = branch_of so }) (kept_half false is between) passed) (sym (so-digit so)) past-blank;
    };
  }

-- it stands ahead of the source
pub decides-constant : (gave gives : Tape → Type 0) (r new : ReaderState) (breaks : Bool) (first second : ℕ) (so : Bool) (ready : List ℕ) (before passed : PageUnread)
    → before.input.escapes ≡ [] → due r.reading ≡ None → BeginsControl r.reading → BelongsToName first → BelongsToName second
    → LeadsTo (λ i. behind_called i breaks (called_by (record { first = first; second = Some second }) before.input.names)) (Deciding false)
    → StandsReady (constant_front breaks first second so) ready before → is_none_ahead before.input.ahead ≡ false → PassesFront gave gives (front_bytes 6 ready before) before passed
    → IsWithin before → IsWithin passed → new ≡ record r { reading = branch_of so } → DecidesConstant gave gives r new before passed
decides-constant gave gives r new breaks first second so ready before passed none none_due begins named_first named_second leads stands ahead passes within inside is =
    subst (λ (n : ReaderState). DecidesConstant gave gives r n before passed) (sym is)
    (of_texts (subst (λ (bytes : List ℕ). PassesFront gave gives bytes before passed) (sym stands.are) passes))
  where
    of_texts : PassesFront gave gives (constant_front breaks first second so) before passed → DecidesConstant gave gives r (record r { reading = branch_of so }) before passed
    of_texts (OfSource passes) = let wrong = ap (λ (items : List (Ahead PageEvent)). is_none_ahead items) passes.ahead in absurd (cc)
    of_texts (OfTexts passes) = decides-texts gave gives r breaks first second so before passed none none_due begins named_first named_second leads passes within inside

-- a condition that asks nothing stands behind a control line's front
pub stands-constant : (breaks : Bool) (first second : ℕ) (so : Bool) (bytes ready : List ℕ) (u : PageUnread) → bytes ≡ front_bytes (length bytes) ready u → IsFront (length bytes) ready u
    → AsksNothing bytes so → StandsReady (control_byte breaks ∷ first ∷ second ∷ []) ready u → StandsReady (constant_front breaks first second so) ready u
stands-constant breaks first second so bytes ready u are front asks stands =
    let three : List ℕ = asks.mark ∷ asks.first ∷ asks.second ∷ [] in
    let condition : List ℕ = blank ∷ digit_of so ∷ blank ∷ [] in
    let all : StandsReady bytes ready u = record { are = are; front = front } in
    let there : StandsReady (three ++ condition) ready u =
    ready-some (three ++ condition) asks.rest ready u (subst (λ (some : List ℕ). StandsReady some ready u) asks.is all) in
    let some : StandsReady three ready u = ready-some three condition ready u there in
    let same : three ≡ control_byte breaks ∷ first ∷ second ∷ [] = some.are ∙ sym stands.are in
    subst (λ (bytes : List ℕ). StandsReady bytes ready u) (ap (λ (bytes : List ℕ). bytes ++ condition) same) there

-- a blank stands behind a control line's front
pub stands-blank : (breaks : Bool) (first second : ℕ) (bytes ready : List ℕ) (u : PageUnread) → bytes ≡ front_bytes (length bytes) ready u → IsFront (length bytes) ready u
    → HasBlank bytes → StandsReady (control_byte breaks ∷ first ∷ second ∷ []) ready u → StandsReady (control_byte breaks ∷ first ∷ second ∷ blank ∷ []) ready u
stands-blank breaks first second bytes ready u are front has stands =
    let three : List ℕ = has.mark ∷ has.first ∷ has.second ∷ [] in
    let all : StandsReady bytes ready u = record { are = are; front = front } in
    let there : StandsReady (three ++ blank ∷ []) ready u =
    ready-some (three ++ blank ∷ []) has.rest ready u (subst (λ (some : List ℕ). StandsReady some ready u) has.is all) in
    let some : StandsReady three ready u = ready-some three (blank ∷ []) ready u there in
    let same : three ≡ control_byte breaks ∷ first ∷ second ∷ [] = some.are ∙ sym stands.are in
    subst (λ (bytes : List ℕ). StandsReady bytes ready u) (ap (λ (bytes : List ℕ). bytes ++ blank ∷ []) same) there

-- no newline is among these
no_newline-name : (dropped blanks tabs newlines others : Bool) → IsTrue (not (dropped || (blanks || (tabs || (newlines || others))))) → newlines ≡ false
no_newline-name true blanks tabs newlines others is = cc
no_newline-name false true tabs newlines others is = cc
no_newline-name false false true newlines others is = cc
no_newline-name false false false true others is = cc
no_newline-name false false false false others is = refl

pub no_newline-blank : (breaks : Bool) (first second : ℕ) → BelongsToName first → BelongsToName second → NoNewline (control_byte breaks ∷ first ∷ second ∷ blank ∷ [])
no_newline-blank breaks first second named_first named_second = (
  control_plain breaks,
  (
    no_newline-name (is_dropped first) (first == blank) (first == tab) (first == newline) (first == backslash) named_first,
    (no_newline-name (is_dropped second) (second == blank) (second == tab) (second == newline) (second == backslash) named_second, (refl, tt)),
  ),
)

-- a condition's front leads to where nothing is read of it yet, and so does a blank behind it
pub turned-blank : (names : Named Entry) (reading : LineState) (keeps breaks : Bool) (first second : ℕ) (a : Arguments) (texts : List (List ℕ)) → due reading ≡ None → BeginsControl reading
    → BelongsToName first → BelongsToName second → LeadsTo (λ i. behind_called i breaks (called_by (record { first = first; second = Some second }) names)) (Deciding keeps)
    → Turned names (stage_with reading [] a texts) (control_byte breaks ∷ first ∷ second ∷ blank ∷ []) (stage_with (Deciding keeps) choice a texts)
turned-blank names reading keeps breaks first second a texts none_due begins named_first named_second leads =
    let there : Stage = stage_with (Deciding keeps) choice a texts in
    Turned-append names (stage_with reading [] a texts) there there (control_byte breaks ∷ first ∷ second ∷ []) (blank ∷ [])
    (turned-named names reading (Deciding keeps) breaks first second a texts none_due begins named_first named_second leads)
    (turned-taken names (Deciding keeps) a texts choice choice (blank ∷ []) refl (takes-half keeps)
    (ByteTaken choice choice choice blank [] passes-first (NothingTaken choice)))

-- a condition's front was read, with a blank behind it
pub reads-blank : (gave gives : Tape → Type 0) (r new : ReaderState) (keeps breaks : Bool) (first second : ℕ) (ready : List ℕ) (before passed after : PageUnread)
    → due r.reading ≡ None → BeginsControl r.reading → before.input.escapes ≡ [] → BelongsToName first → BelongsToName second
    → LeadsTo (λ i. behind_called i breaks (called_by (record { first = first; second = Some second }) before.input.names)) (Deciding keeps)
    → StandsReady (control_byte breaks ∷ first ∷ second ∷ blank ∷ []) ready before → PassesFront gave gives (front_bytes 4 ready before) before passed
    → after ≡ record passed { input = input_begun (Deciding keeps) passed.input } → IsWithin after → new ≡ record r { reading = Deciding keeps } → ReadsPast gave gives r new before after
reads-blank gave gives r new keeps breaks first second ready before passed after none_due begins none named_first named_second leads stands passes is within same =
    let i : PageInput = before.input in
    let bytes : List ℕ = control_byte breaks ∷ first ∷ second ∷ blank ∷ [] in
    let behind : PageUnread = record passed { input = input_begun (Deciding keeps) passed.input } in
    subst (λ (n : ReaderState). ReadsPast gave gives r n before after) (sym same)
    (subst (λ (u : PageUnread). ReadsPast gave gives r (record r { reading = Deciding keeps }) before u) (sym is)
    (reads-front gave gives r (Deciding keeps) bytes before passed none
    (turned-blank i.names r.reading keeps breaks first second i.arguments i.open_texts none_due begins named_first named_second leads)
    (subst (λ (all : List ℕ). PassesFront gave gives all before passed) (sym stands.are) passes)
    (subst (λ (u : PageUnread). IsWithin u) is within)))

-- a condition is read from there on
pub runs-condition : (keeps : Bool) (r new : ReaderState) (half : List OpenEscape) → new ≡ record r { reading = Deciding keeps } → IsRun ConditionRun new.reading half
runs-condition keeps r new half is =
    subst (λ (n : ReaderState). IsRun ConditionRun n.reading half) (sym is) (record { does = takes-half keeps; half_read = tt; none_due = refl })
