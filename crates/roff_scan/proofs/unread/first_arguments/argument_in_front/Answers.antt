use Rattle.std.proofs.Common.{◌≡◌, ◌∙◌, ℕ, ◌+◌, ◌==◌, List, ap, drop, false, true, sym, subst, take}
use Rattle.std.specs.List.{AllByRecursion}
use Rattle.input_source.specs.Bytes.{blank}
use Rattle.roff_scan.specs.Unread.FirstArguments.{Unended, blanks_in, inside_in, is_inside}
use Rattle.roff_scan.proofs.FirstArguments.{unended-alone, unended-parts}
use Rattle.roff_scan.proofs.PartsTaken.{begin}
use Rattle.roff_scan.proofs.unread.first_arguments.argument_in_front.Goals as goal

pub returns-then-not-none_begun-clause-unended : goal.returns-then-not-none_begun-clause-unended
returns-then-not-none_begun-clause-unended c =
    let bytes = c.args.bytes.now in
    let others = c.inside_in_front.result in
    rw (c.if-not-none_begun.true)
    (subst (Unended false) (sym c.at_most.ensures) (unended-alone bytes others (begin is_inside bytes others c.inside_in_front.ensures).are))

pub returns-clause-unended : goal.returns-clause-unended
returns-clause-unended c =
    let bytes = c.args.bytes.now in
    let blanks = c.blanks_in_front-blanks.result in
    let others = c.inside_in_front-2.result in
    rw (c.if-not-none_begun.false)
    (subst (Unended true) (sym c.at_most-2.ensures)
    (unended-parts bytes blanks others (begin (λ b. b == blank) bytes blanks c.blanks_in_front-blanks.ensures).are
    (subst (λ (rest : List ℕ). AllByRecursion (λ b. is_inside b ≡ true) (take others rest)) c.behind.ensures
    (begin is_inside c.behind.result.now others c.inside_in_front-2.ensures).are)))

pub returns-then-not-none_begun-clause-whole : goal.returns-then-not-none_begun-clause-whole
returns-then-not-none_begun-clause-whole c =
    rw (c.if-not-none_begun.true) (c.at_most.ensures ∙ ap (λ (n : ℕ). take n c.args.bytes.now) c.inside_in_front.ensures)

pub returns-clause-whole : goal.returns-clause-whole
returns-clause-whole c =
    let bytes = c.args.bytes.now in
    let blanks = c.blanks_in_front-blanks.result in
    let are : blanks ≡ blanks_in bytes = c.blanks_in_front-blanks.ensures in
    let others : c.inside_in_front-2.result ≡ inside_in (drop (blanks_in bytes) bytes) =
    c.inside_in_front-2.ensures ∙ ap inside_in (c.behind.ensures ∙ ap (λ (n : ℕ). drop n bytes) are) in
    rw (c.if-not-none_begun.false)
    (c.at_most-2.ensures ∙ ap (λ (n : ℕ). take (n + c.inside_in_front-2.result) bytes) are ∙ ap (λ (n : ℕ). take (blanks_in bytes + n) bytes) others)
