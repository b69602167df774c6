use Rattle.std.proofs.Common.{◌≡◌, ℕ, ◌-◌, ◌≤◌, List, ◌++◌, length, take, ap, arith, drop_at, length-take}
use Rattle.std.proofs.lemmas.List.{length-replicate}
use Rattle.page_model.specs.Columns.{spaces}
use Rattle.roff_lines.specs.GlyphsInFront.{glyphs_in_front}
use Rattle.page_bytes.specs.LineBytes.Fronts.{TakesPiece, blanks_in_front}
use Rattle.page_bytes.proofs.line_bytes.LineBytes.take_piece.Goals as goal

-- the blanks, and then the glyphs of what is left behind them
piece : (most blanks : ℕ) (glyphs old left new : List ℕ) → blanks ≤ most → spaces blanks ++ left ≡ old
    → spaces blanks ≡ take most (blanks_in_front old) → glyphs ≡ take (most - blanks) (glyphs_in_front left) → glyphs ++ new ≡ left
    → TakesPiece most blanks glyphs old new
piece most blanks glyphs old left new few first in_front behind rest = record {
  whole = rw rest first;
  within = omega (arith, ap length behind, length-take (most - blanks) (glyphs_in_front left));
  in_front = in_front;
  behind = rw (← first, drop_at (spaces blanks) left blanks (length-replicate blanks 32)) behind;
}

pub returns : goal.returns
returns c =
    let blanks = c.take_blanks-blanks.ensures in
    let glyphs = c.take_glyphs-glyphs.ensures in
    piece c.args.most c.take_blanks-blanks.result c.take_glyphs-glyphs.result.now _ _ _ blanks.most blanks.taken blanks.blanks glyphs.glyphs glyphs.taken
