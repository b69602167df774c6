use Rattle.std.proofs.Common.{◌≡◌, ℕ, ◌+◌, List, [], ◌++◌, length, drop, sym, ap, subst, ◌∙◌, arith, append_assoc, append-nil}
use Rattle.std.specs.List.{slice_range}
use Rattle.tbl_format.proofs.Parts.{length-slice_range}
use Rattle.tbl_kept.specs.TableText.{block_of}
use Rattle.tbl_giving.specs.Giving.{KeptGiving, last_piece, with_newline}
use Rattle.tbl_pieces.specs.PieceQueue.{bytes_left}
use Rattle.tbl_pieces.specs.Pieces.{AreWithin, bytes_of, piece_len}
use Rattle.tbl_pieces.specs.declared.pieces.Piece.{Piece}
use Rattle.tbl_pieces.proofs.Adding.{adds-more}
use Rattle.tbl_giving.proofs.GivingLeft.{ending, last-len, newline-last}
use Rattle.tbl_giving.proofs.giving.Giving.add_end.Goals as goal

pub returns-clause-coming : goal.returns-clause-coming
returns-clause-coming c = λ r k.
    let t = c.args.text.now in
    let block = block_of t in
    let a = c.self.inside in
    let frame = a.frame.items in
    let is = a.has_newline in
    let view = c.self.view_is in
    let p = c.last_piece-last.result in
    let p_is : p ≡ last_piece is = c.last_piece-last.ensures ∙ ap (λ (g : KeptGiving). last_piece g.has_newline) (sym view) in
    let len : length (bytes_of block frame p) ≡ piece_len p = subst (λ (x : Piece). length (bytes_of block frame x) ≡ piece_len x) (sym p_is) (last-len block frame is) in
    let all = c.len.result in
    let all_is : all ≡ length frame = c.len.ensures ∙ a.frame.ok.0 in
    let start = c.line_start.result in
    let to = length c.block.result.now in
    let to_is : to ≡ length block = ap (λ (bytes : List ℕ). length bytes) c.block.ensures in
    let front = slice_range frame a.frame_end all in
    let back = slice_range block start to in
    let adds = adds-more block frame 1 (1 + 1) a.pieces c.add.new.self c.add-3.new.self front (back ++ bytes_of block frame p)
    (c.add.ensures.adds block frame (length-slice_range frame a.frame_end all (omega (arith, all_is))))
    (adds-more block frame 1 1 c.add.new.self c.add-2.new.self c.add-3.new.self back (bytes_of block frame p)
    (c.add-2.ensures.adds block frame (length-slice_range block start to (omega (arith, to_is)))) (c.add-3.ensures.adds block frame len)) in
    let within : AreWithin block frame a.pieces.pieces = subst (λ (g : KeptGiving). AreWithin block g.frame g.pieces.pieces) (sym view) c.requires.within in
    let left = bytes_left block frame a.pieces in
    subst (λ (g : KeptGiving). bytes_left block frame c.add-3.new.self ++ [] ≡ bytes_left block g.frame g.pieces ++ with_newline g.has_newline (drop g.frame_end g.frame ++ t.line)) view
    (append-nil (bytes_left block frame c.add-3.new.self)
    ∙ adds.left within
    ∙ ap (λ (bytes : List ℕ). left ++ bytes) (sym (append_assoc front back (bytes_of block frame p))
    ∙ ap (λ (x : Piece). (front ++ back) ++ bytes_of block frame x) p_is
    ∙ newline-last block frame is (front ++ back)
    ∙ ap (with_newline is) (ending block frame t.line start to all a.frame_end to_is all_is c.line_start.ensures.line)))
