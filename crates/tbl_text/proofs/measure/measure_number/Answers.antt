use Rattle.std.proofs.Common.{List, ℕ, [], ap, refl, sym, subst, ◌∙◌, arith, Option}
use Rattle.tbl_text.specs.MeasuredSoFar.{measured_behind, shown}
use Rattle.tbl_text.specs.declared.measure.Measuring.{Measuring}
use Rattle.tbl_text.specs.declared.measure.Split.{Split}
use Rattle.tbl_text.specs.declared.measure.Splitting.{Splitting}
use Rattle.tbl_text.proofs.Numbers.{IsNumber, number-all, number-item}
use Rattle.tbl_text.proofs.measure.measure_number.Goals as goal

pub loop-measuring-init : goal.loop-measuring-init
loop-measuring-init c = record {
  read = record { before = []; printed = []; parts = refl; seen = refl; same = refl; splits = refl; len = refl; width = refl; narrow = omega arith; within = omega arith; glyphs = omega arith };
  room = refl;
}

pub loop-measuring-preserved : goal.loop-measuring-preserved
loop-measuring-preserved c =
    let text : List ℕ = c.args.text.now in
    let m : Measuring = c.loop-measuring.measuring in
    let s : Splitting = c.loop-measuring.splitting in
    let len = c.next_item-item.result.len in
    let what = c.next_item-item.result.what in
    record {
      read =
          subst (λ (n : Measuring). IsNumber text n c.take-shown.new.self)
          (sym (c.take.ensures ∙ ap (λ item. measured_behind m item.len item.what) c.take-shown.ensures.shown))
          (subst (IsNumber text (measured_behind m len (shown s.ampersand what))) (sym c.take-shown.ensures.splits)
          (number-item text c.behind-rest.result.now m s len what c.loop-measuring.invariant.read c.behind-rest.ensures
          c.next_item-item.ensures.first c.next_item-item.ensures.some c.next_item-item.ensures.within c.next_item-item.ensures.fits));
      room = c.next_item-item.ensures.room ∙ c.loop-measuring.invariant.room;
    }

pub returns-clause-value : goal.returns-clause-value
returns-clause-value c =
    let m : Measuring = c.loop-measuring.measuring in
    c.measured.ensures
    ∙ ap (λ (o : Option Split). record { width = m.width; glyphs = m.glyphs; split = o; has_notes = m.has_notes }) c.split.ensures
    ∙ number-all c.args.text.now m c.loop-measuring.splitting c.loop-measuring.invariant.read c.loop-measuring-test.false
