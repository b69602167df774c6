use Rattle.std.proofs.Common.{◌≡◌, ◌+◌, ◌++◌, ℕ, Option, List, [], map, sym, ap, subst, take, drop, ◌∙◌, append-nil, arith, length-take-le}
use Rattle.std.proofs.lemmas.List.{drop_all}
use Rattle.tbl_format.specs.Format.{Format, format_read, if_letter, left_out_behind}
use Rattle.tbl_format.specs.KeyCounts.{Counts, IsCount}
use Rattle.tbl_options.specs.Notes.{left_out_note}
use Rattle.tbl_format.proofs.FormatReading.{read-more}
use Rattle.tbl_format.proofs.LeftOut.{letters-more}
use Rattle.tbl_format.proofs.left_out.push_left_out.Goals as goal

pub loop-at-preserved : goal.loop-at-preserved
loop-at-preserved c =
    let bytes = c.args.bytes.now in
    let at = c.loop-at.at in
    let before = c.loop-at.invariant in
    let len = length-take-le at bytes (omega (arith, c.loop-at-test.true)) in
    let more = ap (λ (n : ℕ). n + 1) len in
    record {
      items = λ f counts.
          letters-more c.args.line f bytes at c.loop-at.before.place _ _ _ c.loop-at-test.true (before.counts f counts).place
          (c.push_letter.ensures.items ∙ ap (λ (letter : Option ℕ). c.loop-at.notes.items ++ map (left_out_note c.args.line) (if_letter letter)) c.left_out_at.ensures) (before.items f counts);
      counts = λ f counts.
          subst (λ (g : Format). Counts g c.behind-before.result) (sym (read-more f bytes at c.loop-at-test.true))
          (c.behind-before.ensures.value (format_read f (take at bytes)) (before.counts f counts));
      is = subst (λ (n : ℕ). IsCount n c.behind-before.result) more c.behind-before.ensures.is;
      few = omega (arith, before.few, c.behind-before.ensures.few);
      room = omega (arith, before.room, c.push_letter.ensures.few);
      capacity = c.push_letter.ensures.capacity ∙ before.capacity;
    }

pub returns-clause-items : goal.returns-clause-items
returns-clause-items c = λ f counts.
    let bytes = c.args.bytes.now in
    let at = c.loop-at.at in
    let before = c.loop-at.invariant in
    let kept = c.loop-at.notes.items in
    let nothing : drop at bytes ≡ [] = drop_all at bytes (omega (arith, c.loop-at-test.false, c.loop-at.auto.at-end)) in
    sym (append-nil kept)
    ∙ ap (λ (rest : List ℕ). kept ++ map (left_out_note c.args.line) (left_out_behind (take at bytes) (format_read f (take at bytes)) rest)) (sym nothing)
    ∙ before.items f counts
