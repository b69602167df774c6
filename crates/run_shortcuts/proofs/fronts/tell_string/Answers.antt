use Rattle.std.proofs.Common.{false, true, ap, ◌∙◌, arith}
use Rattle.roff_scan.specs.declared.run_kind.RunKind.TheVariants.{Text}
use Rattle.run_items.specs.declared.interpreter.Interpreter.{Interpreter}
use Rattle.run_turns.specs.declared.running.Running.{Running as Coded}
use Rattle.run_shortcuts.proofs.PassingEnds.{goes_further_passed}
use Rattle.run_shortcuts.proofs.PutRegisters.{half_ended, run-kept}
use Rattle.run_turns.proofs.ComingFurther.{comes_both, comes_further, comes_on}
use Rattle.run_shortcuts.proofs.BytesCounted.{more-ended, more-or_stays}
use Rattle.run_shortcuts.proofs.fronts.tell_string.Goals as goal

pub returns-then-not-put_string-clause-further : goal.returns-then-not-put_string-clause-further
returns-then-not-put_string-clause-further g c = λ out err. comes_further (c.put_string.ensures.further out err)

pub tell_front-requires : goal.tell_front-requires
tell_front-requires g c =
    run-kept Text c.args.run.now c.put_string.new.run (ap (λ (i : Interpreter). i.reader.reading) c.put_string.ensures.reads) c.put_string.ensures.half c.requires

pub returns-clause-further : goal.returns-clause-further
returns-clause-further g c = λ out err.
    let ends = c.pass_end.ensures in
    comes_on _ true c.if-not-put_string.false (c.put_string.ensures.further out err)
    (comes_both false (c.tell_front.ensures.past out err)
    (comes_further (goes_further_passed _ _ _ ends.none_due ends.takes ends.passes ends.within ends.unchanged ends.others _ _ _)))

pub returns-clause-half : goal.returns-clause-half
returns-clause-half g c =
    half_ended c.tell_front.new.run.unread c.pass_end.new.run.unread c.pass_end.result c.pass_end.ensures.passes (λ none. ap (λ (run : Coded). run.unread) (c.pass_end.ensures.unchanged none))
    ∙ c.tell_front.ensures.half ∙ c.put_string.ensures.half

pub returns-clause-reads : goal.returns-clause-reads
returns-clause-reads g c =
    ap (λ (run : Coded). run.interpreter.reader) c.pass_end.ensures.others ∙ c.tell_front.ensures.reads ∙ ap (λ (i : Interpreter). i.reader) c.put_string.ensures.reads

pub returns-clause-more : goal.returns-clause-more
returns-clause-more g c =
    let put = c.put_string.ensures.more in
    let told = c.tell_front.ensures.more in
    let ended =
    more-or_stays c.pass_end.result c.tell_front.new.run.unread c.pass_end.new.run.unread (λ passed. more-ended _ _ (c.pass_end.ensures.passes passed))
    (λ none. ap (λ (run : Coded). run.unread) (c.pass_end.ensures.unchanged none)) in
    omega (arith, put, told, ended)
