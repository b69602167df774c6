use Rattle.std.proofs.Common.{◌≡◌, ◌∙◌, ℕ, List, length, map, take, sym, ap, subst, arith}
use Rattle.input_source.specs.Tape.{OneByte, Took}
use Rattle.tbl_core.specs.NotesLeft.{noted}
use Rattle.tbl_core.specs.ReadOn.{line_read}
use Rattle.tbl_core.specs.Source.{WasAsked}
use Rattle.tbl_core.proofs.ReadOn.{few_behind_line, fewer_behind_line, line_goes_on, line_reads_on, line_takes, some_bytes}
use Rattle.tbl_core.proofs.source.TblSource.read_line.Goals as goal

pub invariant_of-self : goal.invariant_of-self
invariant_of-self g c = record {
  alive = WasAsked c.pass.ensures.gives.some c.pass.ensures.gives.some_given;
  idles = λ is. c.read_line.ensures.pending;
  quiet = λ is. ap noted c.read_line.ensures.pending;
}

pub returns : goal.returns
returns g c =
    let old = c.self.inside.tables in
    let new = c.read_line.new.self in
    let front = c.reading-count.result.now in
    let ready = g.S.ByteSource.ready c.self.inside.inner in
    let same : take (length front) ready ≡ front = ap (take (length front)) (sym c.buffered.ensures) ∙ c.reading-count.ensures.front in
    let given = c.at_most.ensures ∙ ap (take (length front)) c.buffered-2.ensures ∙ same in
    let known = c.reading-count.ensures.reads (some_bytes (length front) c.if-count-eq0.false) in
    let none = ap (λ s. s.tables.at.pending) c.self.view_is ∙ c.requires.pending in
    let after = c.read_line.ensures in
    let behind = after.behind ∙ ap (λ (bytes : List ℕ). line_read bytes old.at.standing) given in
    let took = subst (λ (bytes : List ℕ). Took (g.S.ByteSource.gives c.self.inside.inner) (g.S.ByteSource.gives c.pass.new.self) (map OneByte bytes)) same c.pass.ensures.gives in
    rw (← c.self.view_is)
    (record {
      kept = λ wrong. cc;
      silent = λ is. record {
        goes_on = line_goes_on old new front known none after.pending behind after.limits after.line_length _ _ took;
        takes_on = line_takes old new front known none after.pending behind after.limits _ _ took;
        pending = after.pending;
        reads = line_reads_on old new front known none after.pending behind after.limits;
        falls = omega (arith, fewer_behind_line old new front known none after.pending behind after.limits, c.pass.ensures.notes);
      };
      later = record {
        limits = after.limits;
        line_length = after.line_length;
        notes = few_behind_line old new front known none after.pending behind after.limits;
        failures = omega (arith, c.pass.ensures.failures);
      };
    })
