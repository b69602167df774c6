use Rattle.std.proofs.Common.{◌≡◌, ◌+◌, ◌-◌, ◌++◌, length, take, sym, ap, ◌∙◌, arith}
use Rattle.page_model.specs.Columns.{spaces}
use Rattle.page_model.specs.Diverted.{escaped}
use Rattle.page_bytes.specs.DivertedText.{first_left}
use Rattle.page_bytes.proofs.DivertedPieces.{last_piece, piece_put}
use Rattle.page_bytes.proofs.diverted_text.FirstLine.fill.Goals as goal

pub loop-end-preserved : goal.loop-end-preserved
loop-end-preserved c =
    let l = c.loop-end in
    let p = c.take_piece-piece in
    record {
      same = c.put_piece-count.ensures.same ∙ l.invariant.same;
      within = omega (arith, c.put_piece-count.ensures.count, c.put_piece-count.ensures.same, p.ensures.within, l.invariant.within);
      whole = piece_put (take l.end l.buffer) (take (l.end + c.put_piece-count.result) c.put_piece-count.new.buffer) (escaped (spaces p.result.blanks))
          p.result.glyphs.now (first_left l.self) (first_left p.new.self) (first_left c.args.self.now) c.put_piece-count.ensures.written p.ensures.whole
          l.invariant.whole;
    }

pub put_piece-count-requires : goal.put_piece-count-requires
put_piece-count-requires c =
    omega (arith, c.take_piece-piece.ensures.within, c.loop-end.invariant.within)

pub returns-then-count-eq0-clause-whole : goal.returns-then-count-eq0-clause-whole
returns-then-count-eq0-clause-whole c =
    let l = c.loop-end in
    let p = c.take_piece-piece in
    let none : l.end + c.put_piece-count.result ≡ l.end = omega arith in
    ap (λ n. take n c.put_piece-count.new.buffer ++ first_left p.new.self) (sym none)
    ∙ piece_put (take l.end l.buffer) (take (l.end + c.put_piece-count.result) c.put_piece-count.new.buffer) (escaped (spaces p.result.blanks))
    p.result.glyphs.now (first_left l.self) (first_left p.new.self) (first_left c.args.self.now) c.put_piece-count.ensures.written p.ensures.whole
    l.invariant.whole

pub returns-then-count-eq0-clause-end : goal.returns-then-count-eq0-clause-end
returns-then-count-eq0-clause-end c before =
    let l = c.loop-end in
    let p = c.take_piece-piece in
    last_piece (length l.buffer - l.end) p.result.blanks p.result.glyphs.now (first_left l.self) (first_left p.new.self) p.ensures
    (omega (arith, c.put_piece-count.ensures.count)) (omega (arith, l.invariant.same, before))
