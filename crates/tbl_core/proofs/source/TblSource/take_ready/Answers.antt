use Rattle.std.proofs.Common.{arith, rules, Some, sym, ap, ◌∙◌, ◌++◌, ◌≡◌, [], Option, ℕ, subst, IfSome}
use Rattle.std.proofs.lemmas.Grind.{common_steps}
use Rattle.input_source.specs.Tape.{OneByte}
use Rattle.tbl_core.specs.Source.{WasAsked}
use Rattle.tbl_core.specs.NotesLeft.{noted}
use Rattle.tbl_core.specs.Passing.{passing}
use Rattle.tbl_core.specs.Tables.{handed}
use Rattle.tbl_core.proofs.NotesLeft.{few_behind_byte}
use Rattle.tbl_core.proofs.Answering.{byte_given, byte_takes}
use Rattle.tbl_core.proofs.Ready.{byte_answers, byte_length, byte_limits, byte_takes_now, passes_reads, sourced_behind}
use Rattle.tbl_core.proofs.Staying.{given_stays, next_stays}
use Rattle.tbl_core.proofs.Turning.{byte_goes_on, first_given}
use Rattle.tbl_core.proofs.source.TblSource.take_ready.Goals as goal

pub invariant_of-self : goal.invariant_of-self
invariant_of-self g c =
    sourced_behind _ c.self.inside.tables c.next_byte.new.self c.self.inside.idle c.self.inside.giving c.next_byte.result
    c.next_byte.ensures c.self.invariant

pub invariant_of-self-in-Some : goal.invariant_of-self-in-Some
invariant_of-self-in-Some g c =
    let given = c.in-Some.ensures.gives in
    let is = c.byte.ensures.passes (sym c.if-not-passes_next.ensures) in
    let none = subst (λ (r : Option ℕ). IfSome r (λ b. c.byte.new.self.at.pending ≡ [])) is c.byte.ensures.alone in
    record {
      alive = WasAsked given.some given.some_given;
      idles = λ idle. none;
      quiet = λ giving. ap noted none;
    }

pub returns-then-self : goal.returns-then-self
returns-then-self g c =
    let t = c.self.inside.tables in
    let new = c.next_byte.new.self in
    let given = c.next_byte.result in
    let is = c.next_byte.ensures in
    let ready = g.S.ByteSource.ready c.self.inside.inner in
    rw (← c.self.view_is)
    (record {
      gives = byte_answers _ t new given is c.self.invariant.alive;
      takes = byte_takes_now _ t new given is c.self.invariant.alive;
      kept = first_of (search rules, grind (arith, common_steps));
      ready = given_stays t new c.self.inside.idle given (passing t.limits t.at.standing ready) (passing new.limits new.at.standing ready) c.self.invariant.idles is;
      limits = byte_limits t new given is;
      line_length = byte_length t new given is;
      notes = first_of (search rules, grind (arith, common_steps));
      failures = first_of (search rules, grind (arith, common_steps));
    })

pub returns-in-Some : goal.returns-in-Some
returns-in-Some g c =
    let t = c.self.inside.tables in
    let new = c.byte.new.self in
    let byte = c.in-Some.byte in
    let passes = sym c.if-not-passes_next.ensures in
    let reads = passes_reads t.limits t.at.standing passes in
    let taken = c.in-Some.ensures.gives in
    let behind = c.byte.ensures in
    let out = ap (λ (r : Option ℕ). handed r ++ new.at.pending) (sym (behind.passes passes)) ∙ behind.out in
    let none = c.self.invariant.idles c.if-not-self.false in
    let goes_on = byte_goes_on t new byte _ _ (Some byte) none reads taken out behind.behind behind.limits behind.line_length in
    let on = byte_takes t new byte _ _ (Some byte) none reads taken out behind.behind in
    let ready = g.S.ByteSource.ready c.self.inside.inner in
    let after = g.S.ByteSource.ready c.take_first.new.source in
    rw (← c.self.view_is)
    (record {
      gives = first_given _ _ taken.some taken.some_given new.limits new.line_length (OneByte byte) new.at goes_on;
      takes = byte_given _ _ taken.some taken.some_given t.limits t.line_length t.at new.at (OneByte byte) on;
      kept = λ nothing. cc;
      ready = next_stays t new c.self.inside.idle byte ready after c.if-not-self.false passes behind.behind behind.limits c.in-Some.ensures.first c.in-Some.ensures.ready;
      limits = behind.limits;
      line_length = behind.line_length;
      notes = few_behind_byte t new byte (Some byte) out behind.behind behind.limits;
      failures = first_of (search rules, grind (arith, common_steps));
    })
