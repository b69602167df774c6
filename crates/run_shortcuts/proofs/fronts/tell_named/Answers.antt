use Rattle.std.proofs.Common.{ℕ, List, refl, subst, sym, ◌+◌, ◌<◌, ◌∙◌, arith, length}
use Rattle.input_model.specs.Unread.{IsWithin}
use Rattle.run_model.specs.Reading.Items.{PageUnread}
use Rattle.read_shortcuts.specs.Registers.{PutsText, asked_by, with_text}
use Rattle.read_shortcuts.proofs.ArgumentsPut.{reads-ahead}
use Rattle.read_shortcuts.proofs.RegistersHeld.{half-read, reads_text, room-left}
use Rattle.run_turns.specs.declared.running.Running.{Running as Coded}
use Rattle.run_shortcuts.proofs.PutRegisters.{goes_further_told}
use Rattle.run_shortcuts.proofs.BytesCounted.{more-put, more-read}
use Rattle.run_shortcuts.proofs.fronts.tell_named.Goals as goal

pub push_read-requires-clause-stack : goal.push_read-requires-clause-stack
push_read-requires-clause-stack g c =
    let passed : PageUnread = c.pass_text-text.new.unread in
    let puts = subst (λ (t : List ℕ). IsWithin (with_text t passed)) (sym c.as_slice-bytes.ensures.value) c.pass_text-text.ensures.puts.within in
    (room-left c.as_slice-bytes.result.now c.text_front-count.result passed puts).0

pub push_read-requires-clause-shallow : goal.push_read-requires-clause-shallow
push_read-requires-clause-shallow g c =
    let passed : PageUnread = c.pass_text-text.new.unread in
    let puts = subst (λ (t : List ℕ). IsWithin (with_text t passed)) (sym c.as_slice-bytes.ensures.value) c.pass_text-text.ensures.puts.within in
    (room-left c.as_slice-bytes.result.now c.text_front-count.result passed puts).1

pub returns-clause-half : goal.returns-clause-half
returns-clause-half g c =
    let passed : PageUnread = c.pass_text-text.new.unread in
    let text : List ℕ = c.as_slice-bytes.result.now in
    let is = sym c.as_slice-bytes.ensures.value in
    let within = subst (λ (t : List ℕ). IsWithin (with_text t passed)) is c.pass_text-text.ensures.puts.within in
    let room = subst (λ (t : List ℕ). passed.input.charge + length t < passed.limits.bytes) is c.pass_text-text.ensures.bytes in
    let wrote = c.push_read.ensures in
    let few = c.text_front-count.ensures.few in
    half-read text c.text_front-count.result few passed passed.input.arguments room within c.push_read.result c.push_read.new.self
    (reads_text text c.text_front-count.result few passed passed.input.arguments room passed c.push_read.new.self c.push_read.result refl
    wrote.whole wrote.ended wrote.rest c.stays_within.ensures)
    ∙ c.pass_text-text.ensures.puts.half

pub returns-clause-further : goal.returns-clause-further
returns-clause-further g c = λ out err.
    let old : Coded = c.args.run.now in
    let passed : PageUnread = c.pass_text-text.new.unread in
    let text : List ℕ = c.as_slice-bytes.result.now in
    let is = sym c.as_slice-bytes.ensures.value in
    let gave = g.S.ByteSource.gives c.args.source.now in
    let gives = g.S.ByteSource.gives c.pass_text-text.new.source in
    let puts = subst (λ (t : List ℕ). PutsText (asked_by c.args.ahead) gave gives old.interpreter.reader old.interpreter.formatter.composer old.unread (with_text t passed)) is c.pass_text-text.ensures.puts in
    let room = subst (λ (t : List ℕ). passed.input.charge + length t < passed.limits.bytes) is c.pass_text-text.ensures.bytes in
    let wrote = c.push_read.ensures in
    let told = c.text_front-count.ensures in
    let ahead = reads-ahead c.args.ahead old.interpreter.reader.reading (g.S.ByteSource.ready c.args.source.now) old.unread c.requires.ahead in
    goes_further_told (asked_by c.args.ahead) gave gives _ _ _ _ out err old _ passed c.push_read.new.self text c.text_front-count.result room c.push_read.result told
    c.requires.run ahead.0 puts wrote.quote
    (reads_text text c.text_front-count.result told.few passed passed.input.arguments room passed c.push_read.new.self c.push_read.result refl
    wrote.whole wrote.ended wrote.rest c.stays_within.ensures)
    c.pass_text-text.ensures.notes c.pass_text-text.ensures.failures

pub returns-clause-more : goal.returns-clause-more
returns-clause-more g c =
    let passed : PageUnread = c.pass_text-text.new.unread in
    let put = more-put (asked_by c.args.ahead) _ _ _ _ c.args.run.now.unread (with_text c.pass_text-text.result.items passed) c.pass_text-text.ensures.puts in
    let read = more-read _ c.text_front-count.result passed c.push_read.new.self c.push_read.result c.push_read.ensures.ended c.push_read.ensures.rest in
    omega (arith, put, read)
