use Rattle.std.proofs.Common.{None, arith, sym, ap, ◌∙◌}
use Rattle.tbl_core.specs.NotesLeft.{noted}
use Rattle.tbl_core.specs.Source.{WasAsked}
use Rattle.tbl_core.specs.Tables.{stopped_by}
use Rattle.tbl_core.proofs.Answering.{byte_takes}
use Rattle.tbl_core.proofs.NotesLeft.{few_behind_byte}
use Rattle.tbl_core.proofs.Quiet.{byte_reads, fewer_behind}
use Rattle.tbl_core.proofs.Turning.{byte_goes_on}
use Rattle.tbl_core.proofs.source.TblSource.read_ready.Goals as goal

pub invariant_of-self : goal.invariant_of-self
invariant_of-self g c = record {
  alive = WasAsked c.in-Some.ensures.gives.some c.in-Some.ensures.gives.some_given;
  idles = λ is. c.read_next.ensures.pending;
  quiet = λ is. ap noted c.read_next.ensures.pending;
}

pub returns-in-Some : goal.returns-in-Some
returns-in-Some g c =
    let t = c.self.inside.tables in
    let new = c.read_next.new.self in
    let behind = c.read_next.ensures in
    let given = c.in-Some.ensures.gives in
    let out = behind.pending ∙ sym behind.out in
    let none = ap (λ s. s.tables.at.pending) c.self.view_is ∙ c.requires.pending in
    let reads = ap (λ s. stopped_by s.tables.at.standing) c.self.view_is ∙ c.requires.reads in
    let fewer = fewer_behind t.limits t.line_length c.in-Some.byte t.at.standing reads behind.out in
    rw (← c.self.view_is)
    (record {
      kept = λ wrong. cc;
      silent = λ is. record {
        goes_on = byte_goes_on t new c.in-Some.byte _ _ None none reads given out behind.behind behind.limits behind.line_length;
        takes_on = byte_takes t new c.in-Some.byte _ _ None none reads given out behind.behind;
        pending = behind.pending;
        reads = rw behind.behind (byte_reads t.limits t.line_length c.in-Some.byte t.at.standing reads behind.out);
        falls = rw (behind.limits, behind.behind) (omega (arith, fewer, c.in-Some.ensures.notes));
      };
      later = record {
        limits = behind.limits;
        line_length = behind.line_length;
        notes = few_behind_byte t new c.in-Some.byte None out behind.behind behind.limits;
        failures = omega (arith, c.in-Some.ensures.failures);
      };
    })
