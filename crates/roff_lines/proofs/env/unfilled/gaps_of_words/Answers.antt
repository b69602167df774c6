use Rattle.std.proofs.Common.{◌≡◌, ℕ, List, arith, subst, take}
use Rattle.page_model.specs.Glyphs.{gaps_in}
use Rattle.roff_lines.specs.Env.Tells.{IsRun}
use Rattle.roff_lines.proofs.env.unfilled.gaps_of_words.Goals as goal

pub returns-else-read-count : goal.returns-else-read-count
returns-else-read-count c =
    let bytes : List ℕ = c.args.bytes.now in
    let r = c.run_by_steps-read in
    let same : r.result.0 ≡ c.args.count = omega (arith, r.ensures.few, c.if-read-count.false) in
    record {
      some = omega (arith, c.if-count-eq0.false);
      within = c.requires;
      run = subst (IsRun bytes) same r.ensures.run;
      last = c.if-bytes-count-eq32.false;
      gaps_are = subst (λ n. gaps_in (take n bytes) ≡ r.result.1) same r.ensures.gaps;
    }
