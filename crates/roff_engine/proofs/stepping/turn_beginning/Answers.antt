use Rattle.std.proofs.Common.{◌≡◌, Ok, ap, false, sym, true, ◌∙◌}
use Rattle.run_turns.proofs.ComingFurther.{both_left, comes_any, comes_both, comes_ended, read_turn}
use Rattle.roff_engine.proofs.stepping.turn_beginning.Goals as goal

pub returns-then-begins_line : goal.returns-then-begins_line
returns-then-begins_line g c =
    let further = rw (sym c.begins_line.ensures ∙ c.if-begins_line.true) at c.in-Ok.ensures.further in
    comes_any _ further

pub returns-then-is_told-is_nothing : goal.returns-then-is_told-is_nothing
returns-then-is_told-is_nothing g c =
    let further = rw (sym c.begins_line.ensures ∙ c.if-begins_line.false) at c.in-Ok.ensures.further in
    let was_told : c.args.is_told ≡ true = both_left c.args.is_told c.is_nothing.result c.if-is_told-is_nothing.true in
    rw was_told further

pub returns-else-is_told-is_nothing : goal.returns-else-is_told-is_nothing
returns-else-is_told-is_nothing g c =
    let none = sym c.begins_line.ensures ∙ c.if-begins_line.false in
    let further = rw none at c.in-Ok.ensures.further in
    let none_due = c.in-Ok.ensures.none_due (ap Ok none) in
    comes_any _ (comes_both false further (read_turn c.begin_text_at_once.new.run none_due c.turn_alone.ensures))

pub returns-in-Err : goal.returns-in-Err
returns-in-Err g c = comes_ended c.in-Err.ensures.further

pub turn_alone-requires : goal.turn_alone-requires
turn_alone-requires g c = record { none_half = c.in-Ok.ensures.none_half (ap Ok (sym c.begins_line.ensures ∙ c.if-begins_line.false)) }
