use Rattle.std.proofs.Common.{Bool, ap, subst, sym, ◌∙◌, ◌&&◌, ◌==◌, eq-eqb, ne_eqb}
use Rattle.read_definitions.specs.CopiedLines.{CopiesSome}
use Rattle.read_definitions.proofs.CopiedLines.{copies-backslash, copies-dot, copies-none, copies-space, copies-text}
use Rattle.read_definitions.proofs.copied.part_len.Goals as goal

pub returns-in-None : goal.returns-in-None
returns-in-None c = copies-none c.args.second c.args.begins c.args.bytes.now c.in-None.ensures.cases

pub returns-then-is_dot : goal.returns-then-is_dot
returns-then-is_dot c =
    let dotted = c.dotted_len.ensures in
    copies-dot c.args.second c.args.begins c.dotted_len.result.1 c.args.bytes.now c.in-Some.first.now c.in-Some.rest.now c.dotted_len.result.0 c.in-Some.ensures.cases.0
    (sym c.is_dot.ensures ∙ c.if-is_dot.true) dotted.few dotted.copies dotted.none

pub returns-then-is_space : goal.returns-then-is_space
returns-then-is_space c =
    copies-space c.args.second c.args.begins c.args.bytes.now c.in-Some.first.now c.in-Some.rest.now c.in-Some.ensures.cases.0
    (sym c.is_dot.ensures ∙ c.if-is_dot.false) (sym c.is_space.ensures ∙ c.if-is_space.true)

pub returns-then-begins : goal.returns-then-begins
returns-then-begins c =
    let count = c.text_in_front-count.result in
    subst (λ (last : Bool). CopiesSome c.args.second c.args.begins last count c.args.bytes.now) (ap (λ (t : Bool). t && count == 0) c.if-begins.true)
    (copies-text c.args.second c.args.begins c.args.bytes.now c.in-Some.first.now c.in-Some.rest.now count c.in-Some.ensures.cases.0
    (sym c.is_dot.ensures ∙ c.if-is_dot.false) (ne_eqb c.in-Some.first.now 92 c.if-first-eq92.false) (sym c.is_space.ensures ∙ c.if-is_space.false) c.text_in_front-count.ensures)

pub returns-else-begins : goal.returns-else-begins
returns-else-begins c =
    let count = c.text_in_front-count.result in
    subst (λ (last : Bool). CopiesSome c.args.second c.args.begins last count c.args.bytes.now) (ap (λ (t : Bool). t && count == 0) c.if-begins.false ∙ sym c.if-begins.false)
    (copies-text c.args.second c.args.begins c.args.bytes.now c.in-Some.first.now c.in-Some.rest.now count c.in-Some.ensures.cases.0
    (sym c.is_dot.ensures ∙ c.if-is_dot.false) (ne_eqb c.in-Some.first.now 92 c.if-first-eq92.false) (sym c.is_space.ensures ∙ c.if-is_space.false) c.text_in_front-count.ensures)

pub returns-then-first-eq92 : goal.returns-then-first-eq92
returns-then-first-eq92 c =
    let escape = c.escape_len.ensures in
    copies-backslash c.args.second c.args.begins c.escape_len.result.1 c.args.bytes.now c.in-Some.first.now c.in-Some.rest.now c.escape_len.result.0 c.in-Some.ensures.cases.0
    (sym c.is_dot.ensures ∙ c.if-is_dot.false) (eq-eqb c.in-Some.first.now 92 c.if-first-eq92.true) escape.few (escape.copies c.args.second) escape.none
