use Rattle.std.proofs.Common.{◌≡◌, ℕ, suc, ◌+◌, ◌*◌, ◌<◌, ◌≤◌, ◌++◌, ◌∷◌, List, length, drop, slice_index_or, refl, subst, ◌∙◌, arith}
use Rattle.page_model.specs.Columns.{spaces, spread}
use Rattle.page_bytes.proofs.SharedColumns.{over-behind}
use Rattle.page_bytes.proofs.SpreadsOver.{SpreadsOver-blanks, SpreadsOver-glyphs, spread-mark, spread-widened}
use Rattle.page_bytes.proofs.line_bytes.spreading.spread_over.Goals as goal

pub loop-taken-preserved-then-byte-eq-GAP : goal.loop-taken-preserved-then-byte-eq-GAP
loop-taken-preserved-then-byte-eq-GAP c =
    let l = c.loop-taken in
    let run = c.copy_glyphs-run in
    let shares = c.args.shares in
    let spare : ℕ = shares.each * shares.gaps + shares.rest in
    let text : List ℕ = c.args.text.now in
    let taken : ℕ = l.taken + run.result in
    let end : ℕ = l.end + run.result in
    let byte : ℕ = slice_index_or text taken 0 in
    let rest : List ℕ = drop (taken + 1) text in
    let next = c.added_to_gap-added in
    let added : ℕ = next.result.0 in
    let few : added ≤ l.left = omega (arith, c.if-added-left.false) in
    let more : taken < length text = omega (arith, run.ensures.text, c.if-taken-text.false) in
    let gap : byte ≡ 32 = omega (arith, c.if-byte-eq-GAP.true) in
    let columns : suc added ≡ 1 + added = omega arith in
    let room : end + (1 + added) ≤ length run.new.out = omega (arith, l.invariant.room, more, few, run.ensures.same, l.invariant.same) in
    record {
      text = omega (arith, more);
      same = c.write_blanks.ensures.same ∙ run.ensures.same ∙ l.invariant.same;
      passed = omega (arith, l.invariant.passed);
      over = over-behind spare shares.gaps l.passed added l.over next.result.1 l.invariant.over next.ensures.over next.ensures.added;
      room = omega (arith, l.invariant.room, more, few);
      written =
          SpreadsOver-blanks spare shares.gaps shares.passed l.passed taken c.args.start end text c.args.out.now run.new.out c.write_blanks.new.out
          (SpreadsOver-glyphs spare shares.gaps shares.passed l.passed l.taken c.args.start l.end text c.args.out.now l.out run.new.out l.invariant.written
          run.result run.ensures.text (omega (arith, l.invariant.room, more, l.invariant.same)) run.ensures.same run.ensures.glyphs run.ensures.written)
          (1 + added) (l.passed + 1) (end + (1 + added)) more room c.write_blanks.ensures.same c.write_blanks.ensures.written refl
          (subst (λ n. spread spare shares.gaps l.passed (byte ∷ rest) ≡ spaces n ++ spread spare shares.gaps (l.passed + 1) rest) columns
          (spread-widened spare shares.gaps l.passed added l.over next.result.1 byte rest l.invariant.over next.ensures.over next.ensures.added gap));
    }

pub loop-taken-preserved-then-byte-gt32 : goal.loop-taken-preserved-then-byte-gt32
loop-taken-preserved-then-byte-gt32 c =
    let l = c.loop-taken in
    let run = c.copy_glyphs-run in
    let shares = c.args.shares in
    record {
      text = run.ensures.text;
      same = run.ensures.same ∙ l.invariant.same;
      passed = omega (arith, l.invariant.passed);
      over = l.invariant.over;
      room = omega (arith, l.invariant.room, run.ensures.text);
      written =
          SpreadsOver-glyphs (shares.each * shares.gaps + shares.rest) shares.gaps shares.passed l.passed l.taken c.args.start l.end c.args.text.now c.args.out.now
          l.out run.new.out l.invariant.written run.result run.ensures.text (omega (arith, l.invariant.room, run.ensures.text, l.invariant.same)) run.ensures.same
          run.ensures.glyphs run.ensures.written;
    }

pub loop-taken-preserved : goal.loop-taken-preserved
loop-taken-preserved c =
    let l = c.loop-taken in
    let run = c.copy_glyphs-run in
    let blank = c.write_blanks-in-loop-taken in
    let shares = c.args.shares in
    let spare : ℕ = shares.each * shares.gaps + shares.rest in
    let text : List ℕ = c.args.text.now in
    let taken : ℕ = l.taken + run.result in
    let end : ℕ = l.end + run.result in
    let byte : ℕ = slice_index_or text taken 0 in
    let more : taken < length text = omega (arith, run.ensures.text, c.if-taken-text.false) in
    let low : byte ≤ 1 = omega (arith, c.if-byte-gt-FURTHER_BLANK.false) in
    record {
      text = omega (arith, more);
      same = blank.ensures.same ∙ run.ensures.same ∙ l.invariant.same;
      passed = omega (arith, l.invariant.passed);
      over = l.invariant.over;
      room = omega (arith, l.invariant.room, more);
      written =
          SpreadsOver-blanks spare shares.gaps shares.passed l.passed taken c.args.start end text c.args.out.now run.new.out blank.new.out
          (SpreadsOver-glyphs spare shares.gaps shares.passed l.passed l.taken c.args.start l.end text c.args.out.now l.out run.new.out l.invariant.written
          run.result run.ensures.text (omega (arith, l.invariant.room, more, l.invariant.same)) run.ensures.same run.ensures.glyphs run.ensures.written)
          1 l.passed (end + 1) more (omega (arith, l.invariant.room, more, run.ensures.same, l.invariant.same)) blank.ensures.same blank.ensures.written refl
          (spread-mark spare shares.gaps l.passed byte (drop (taken + 1) text) low);
    }

pub returns-then-taken-text-clause-written : goal.returns-then-taken-text-clause-written
returns-then-taken-text-clause-written c =
    let l = c.loop-taken in
    let run = c.copy_glyphs-run in
    let shares = c.args.shares in
    SpreadsOver-glyphs (shares.each * shares.gaps + shares.rest) shares.gaps shares.passed l.passed l.taken c.args.start l.end c.args.text.now c.args.out.now
    l.out run.new.out l.invariant.written run.result run.ensures.text (omega (arith, l.invariant.room, run.ensures.text, l.invariant.same)) run.ensures.same
    run.ensures.glyphs run.ensures.written

pub returns-then-added-left-clause-written : goal.returns-then-added-left-clause-written
returns-then-added-left-clause-written c =
    let l = c.loop-taken in
    let run = c.copy_glyphs-run in
    let shares = c.args.shares in
    SpreadsOver-glyphs (shares.each * shares.gaps + shares.rest) shares.gaps shares.passed l.passed l.taken c.args.start l.end c.args.text.now c.args.out.now
    l.out run.new.out l.invariant.written run.result run.ensures.text (omega (arith, l.invariant.room, run.ensures.text, l.invariant.same)) run.ensures.same
    run.ensures.glyphs run.ensures.written

pub returns-then-byte-gt-FURTHER_BLANK-clause-written : goal.returns-then-byte-gt-FURTHER_BLANK-clause-written
returns-then-byte-gt-FURTHER_BLANK-clause-written c =
    let l = c.loop-taken in
    let run = c.copy_glyphs-run in
    let shares = c.args.shares in
    SpreadsOver-glyphs (shares.each * shares.gaps + shares.rest) shares.gaps shares.passed l.passed l.taken c.args.start l.end c.args.text.now c.args.out.now
    l.out run.new.out l.invariant.written run.result run.ensures.text (omega (arith, l.invariant.room, run.ensures.text, l.invariant.same)) run.ensures.same
    run.ensures.glyphs run.ensures.written
