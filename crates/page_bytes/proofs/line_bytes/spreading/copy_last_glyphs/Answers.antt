use Rattle.std.proofs.Common.{◌≡◌, ◌+◌, ◌<◌, ◌++◌, ◌∷◌, ℕ, [], List, length, take, drop, slice_index_or, slice_set, sym, ap, subst, ◌∙◌, arith, append_assoc, get_or-drop, length-drop, length-set}
use Rattle.std.proofs.lemmas.List.{take_more, take_more_set}
use Rattle.roff_lines.proofs.GlyphsInFront.{glyphs_in_front-more}
use Rattle.page_bytes.proofs.line_bytes.spreading.copy_last_glyphs.Goals as goal

pub loop-count-preserved : goal.loop-count-preserved
loop-count-preserved c =
    let l = c.loop-count in
    let text : List ℕ = c.args.text.now in
    let rest : List ℕ = drop c.args.taken text in
    let place = c.args.end + l.count in
    let byte : ℕ = slice_index_or text (c.args.taken + l.count) 0 in
    let same : slice_index_or rest l.count 0 ≡ byte = get_or-drop c.args.taken text l.count 0 in
    let within : l.count < length rest = omega (arith, length-drop c.args.taken text, c.loop-count-test.true) in
    let next : c.args.end + (l.count + 1) ≡ place + 1 = omega arith in
    record {
      text = omega (arith, c.loop-count-test.true);
      same = length-set l.out place byte ∙ l.invariant.same;
      glyphs = glyphs_in_front-more rest l.count l.invariant.glyphs within (subst (λ b. 32 < b) (sym same) c.if-text-taken-gt32.true);
      written =
          ap (λ m. take m (slice_set l.out place byte)) next
          ∙ take_more_set l.out place byte (omega (arith, c.requires.room, c.loop-count-test.true, l.invariant.same))
          ∙ ap (λ (xs : List ℕ). xs ++ byte ∷ []) l.invariant.written
          ∙ append_assoc (take c.args.end c.args.out.now) (take l.count rest) (byte ∷ [])
          ∙ ap (λ (xs : List ℕ). take c.args.end c.args.out.now ++ xs) (ap (λ b. take l.count rest ++ b ∷ []) (sym same) ∙ sym (take_more rest l.count 0 within));
    }
