use Rattle.std.proofs.Common.{List, ℕ, arith, subst}
use Rattle.roff_scan.specs.Unread.Calls.{NoNewline}
use Rattle.run_model.specs.declared.line_state.LineState.TheVariants.{Deciding}
use Rattle.read_shortcuts.specs.Conditions.{HasBlank, StandsBehind}
use Rattle.read_shortcuts.specs.declared.conditions.BehindName.{BehindName}
use Rattle.read_shortcuts.proofs.BytesTaken.{front_taken}
use Rattle.read_shortcuts.proofs.ConstantConditions.{no_newline-blank, reads-blank, runs-condition, stands-blank}
use Rattle.read_shortcuts.proofs.ControlFronts.{reads-named}
use Rattle.read_shortcuts.proofs.conditions.read_undecided.Goals as goal

pub take_front-requires-clause-plain : goal.take_front-requires-clause-plain
take_front-requires-clause-plain g c =
    let front = c.args.front in
    let bytes = c.requires.behind.bytes in
    let has : HasBlank bytes = subst (λ (b : BehindName). StandsBehind bytes b) c.in-Blank.is c.requires.behind.are in
    let stands = stands-blank front.breaks front.first front.second bytes (g.S.ByteSource.ready c.args.source.now) c.args.unread.now
    c.requires.behind.stands.are c.requires.behind.stands.front has c.requires.named.stands in
    subst (λ (bytes : List ℕ). NoNewline bytes) stands.are (no_newline-blank front.breaks front.first front.second c.requires.named.first c.requires.named.second)

pub returns-in-Blank-clause-past : goal.returns-in-Blank-clause-past
returns-in-Blank-clause-past g c =
    let front = c.args.front in
    let u = c.args.unread.now in
    let ready = g.S.ByteSource.ready c.args.source.now in
    let bytes = c.requires.behind.bytes in
    let passed = c.take_front in
    let begun = c.begin_condition in
    let has : HasBlank bytes = subst (λ (b : BehindName). StandsBehind bytes b) c.in-Blank.is c.requires.behind.are in
    reads-blank _ _ c.args.reader.now begun.new.reader c.args.keeps front.breaks front.first front.second ready u passed.new.unread begun.new.unread
    c.requires.named.none_due c.requires.named.begins c.requires.named.none_half c.requires.named.first c.requires.named.second c.requires.named.leads
    (stands-blank front.breaks front.first front.second bytes ready u c.requires.behind.stands.are c.requires.behind.stands.front has c.requires.named.stands)
    passed.ensures.passes begun.ensures.begun begun.ensures.within begun.ensures.reads

pub returns-in_default-clause-past : goal.returns-in_default-clause-past
returns-in_default-clause-past g c =
    let front = c.args.front in
    let passed = c.take_front-in_default in
    let begun = c.begin_condition-in_default in
    reads-named _ _ c.args.reader.now begun.new.reader (Deciding c.args.keeps) front.breaks front.first front.second _ c.args.unread.now passed.new.unread begun.new.unread
    c.requires.named.none_due c.requires.named.begins c.requires.named.none_half c.requires.named.first c.requires.named.second c.requires.named.leads
    c.requires.named.stands passed.ensures.passes begun.ensures.begun begun.ensures.within begun.ensures.reads

pub returns-in-Blank-clause-run : goal.returns-in-Blank-clause-run
returns-in-Blank-clause-run g c = runs-condition c.args.keeps c.args.reader.now c.begin_condition.new.reader _ c.begin_condition.ensures.reads

pub returns-in_default-clause-run : goal.returns-in_default-clause-run
returns-in_default-clause-run g c = runs-condition c.args.keeps c.args.reader.now c.begin_condition-in_default.new.reader _ c.begin_condition-in_default.ensures.reads

pub take_front-requires-in-Texts-clause-plain : goal.take_front-requires-in-Texts-clause-plain
take_front-requires-in-Texts-clause-plain g c =
    let front = c.args.front in
    let bytes = c.requires.behind.bytes in
    let has : HasBlank bytes = subst (λ (b : BehindName). StandsBehind bytes b) c.in-Texts.is c.requires.behind.are in
    let stands = stands-blank front.breaks front.first front.second bytes (g.S.ByteSource.ready c.args.source.now) c.args.unread.now
    c.requires.behind.stands.are c.requires.behind.stands.front has c.requires.named.stands in
    subst (λ (bytes : List ℕ). NoNewline bytes) stands.are (no_newline-blank front.breaks front.first front.second c.requires.named.first c.requires.named.second)

pub returns-in-Texts-clause-past : goal.returns-in-Texts-clause-past
returns-in-Texts-clause-past g c =
    let front = c.args.front in
    let u = c.args.unread.now in
    let ready = g.S.ByteSource.ready c.args.source.now in
    let bytes = c.requires.behind.bytes in
    let passed = c.take_front-in-Texts in
    let begun = c.begin_condition-in-Texts in
    let has : HasBlank bytes = subst (λ (b : BehindName). StandsBehind bytes b) c.in-Texts.is c.requires.behind.are in
    reads-blank _ _ c.args.reader.now begun.new.reader c.args.keeps front.breaks front.first front.second ready u passed.new.unread begun.new.unread
    c.requires.named.none_due c.requires.named.begins c.requires.named.none_half c.requires.named.first c.requires.named.second c.requires.named.leads
    (stands-blank front.breaks front.first front.second bytes ready u c.requires.behind.stands.are c.requires.behind.stands.front has c.requires.named.stands)
    passed.ensures.passes begun.ensures.begun begun.ensures.within begun.ensures.reads

pub returns-in-Blank-clause-taken : goal.returns-in-Blank-clause-taken
returns-in-Blank-clause-taken g c =
    let front = c.args.front in
    let u = c.args.unread.now in
    let ready = g.S.ByteSource.ready c.args.source.now in
    let bytes = c.requires.behind.bytes in
    let has : HasBlank bytes = subst (λ (b : BehindName). StandsBehind bytes b) c.in-Blank.is c.requires.behind.are in
    let stands = stands-blank front.breaks front.first front.second bytes ready u c.requires.behind.stands.are c.requires.behind.stands.front has c.requires.named.stands in
    rw c.begin_condition.ensures.begun (front_taken _ _ 4 ready u c.take_front.new.unread stands.front (omega arith) c.take_front.ensures.passes)

pub returns-in-Texts-clause-taken : goal.returns-in-Texts-clause-taken
returns-in-Texts-clause-taken g c =
    let front = c.args.front in
    let u = c.args.unread.now in
    let ready = g.S.ByteSource.ready c.args.source.now in
    let bytes = c.requires.behind.bytes in
    let has : HasBlank bytes = subst (λ (b : BehindName). StandsBehind bytes b) c.in-Texts.is c.requires.behind.are in
    let stands = stands-blank front.breaks front.first front.second bytes ready u c.requires.behind.stands.are c.requires.behind.stands.front has c.requires.named.stands in
    rw c.begin_condition-in-Texts.ensures.begun (front_taken _ _ 4 ready u c.take_front-in-Texts.new.unread stands.front (omega arith) c.take_front-in-Texts.ensures.passes)

pub returns-in_default-clause-taken : goal.returns-in_default-clause-taken
returns-in_default-clause-taken g c =
    rw c.begin_condition-in_default.ensures.begun
    (front_taken _ _ 3 _ c.args.unread.now c.take_front-in_default.new.unread c.requires.named.stands.front (omega arith) c.take_front-in_default.ensures.passes)
