use Rattle.std.proofs.Common.{ℕ, ◌<◌, List, length, refl, ap, ◌∙◌, arith, length-take}
use Rattle.tbl_pieces.specs.declared.pieces.Piece.TheVariants.{Frame}
use Rattle.tbl_kept.specs.TableText.{block_of}
use Rattle.tbl_giving.specs.Giving.{kept_by}
use Rattle.tbl_giving.specs.declared.giving.Rest.TheVariants.{Lines}
use Rattle.tbl_giving.proofs.GivingLeft.{coming-picture, frame-within, some-long, started-can, started-coming}
use Rattle.tbl_giving.proofs.giving.Giving.give_picture.Goals as goal

pub returns-clause-coming : goal.returns-clause-coming
returns-clause-coming c =
    let t = c.args._text.now in
    let r = c.args.rows.now in
    let k = c.args.format.now in
    let frame = c.write_frame-self-inside in
    let new = c.start_lines.new.self in
    let old = record (kept_by c.self.inside) {
      pieces = c.set_one.new.self;
      rest = Lines;
      has_newline = c.args.has_newline;
      frame = frame.new.frame.items;
      frame_end = frame.result;
    } in
    let g = record old { walk = new.walk; lines = new.lines; is_tall = new.is_tall } in
    let starts = c.start_lines.ensures.starts in
    started-coming t r k c.args.bars c.args.width old new starts c.set_one.new.self refl refl
    ∙ rw c.set_one.ensures (coming-picture t r k g c.args.indent c.args.bars c.args.width frame.ensures.front frame.ensures.end starts.lines)

pub returns-clause-can : goal.returns-clause-can
returns-clause-can c =
    let t = c.args._text.now in
    let r = c.args.rows.now in
    let k = c.args.format.now in
    let frame = c.write_frame-self-inside in
    let new = c.start_lines.new.self in
    let old = record (kept_by c.self.inside) {
      pieces = c.set_one.new.self;
      rest = Lines;
      has_newline = c.args.has_newline;
      frame = frame.new.frame.items;
      frame_end = frame.result;
    } in
    let long : 0 < frame.result =
    omega (arith, ap (λ (bytes : List ℕ). length bytes) frame.ensures.front, length-take frame.result frame.new.frame.items) in
    started-can t r k c.args.bars c.args.width old new c.start_lines.ensures.starts c.set_one.new.self refl refl c.requires.small
    (rw c.set_one.ensures (frame-within (block_of t) frame.new.frame.items 0 frame.result (omega (arith, frame.ensures.within))))
    (rw c.set_one.ensures (some-long (Frame 0 frame.result) (omega (arith, long))))
