use Rattle.std.proofs.Common.{◌∙◌, ap, map, subst, sym}
use Rattle.clap.specs.Words.{App, HasKind, fault_of, is_simple, is_simple_and_free, subcommand_of, takes}
use Rattle.clap.proofs.TakesLemmas.{passed_up}
use Rattle.cli_words.proofs.CommandLine.{passed-MatchResult, roff_app-is_free, roff_app-is_simple}
use Rattle.cli_words.proofs.Commands.{nothing_asked-fault}
use Rattle.cli_words.proofs.words.parse_words.Goals as goal

pub returns-in_err-matches-clause-fault : goal.returns-in_err-matches-clause-fault
returns-in_err-matches-clause-fault g c =
    passed-MatchResult _ c.in_err-matches.field-0.0 _ _ c.from_residual-in_err-matches.ensures.1
    (subst (λ (a : App). HasKind (fault_of a (map g.S.AsStr.text c.args.words.now)) c.in_err-matches.field-0.0) c.in_ok-command.ensures
    (c.in_err-matches.ensures.kinds (ap is_simple_and_free c.in_ok-command.ensures ∙ roff_app-is_free)))

pub returns-in_err-matches-clause-taken : goal.returns-in_err-matches-clause-taken
returns-in_err-matches-clause-taken g c =
    passed_up _ c.in_err-matches.field-0.0 _ c.from_residual-in_err-matches.ensures.1
    (λ taken. c.in_err-matches.ensures.passes (ap (λ (a : App). takes a (map g.S.AsStr.text c.args.words.now)) c.in_ok-command.ensures ∙ taken))

pub returns-in-Some-clause-fault : goal.returns-in-Some-clause-fault
returns-in-Some-clause-fault g c =
    ap (λ (a : App). fault_of a (map g.S.AsStr.text c.args.words.now)) (sym c.in_ok-command.ensures)
    ∙ c.in_ok-matches.ensures.kinds (ap is_simple_and_free c.in_ok-command.ensures ∙ roff_app-is_free)

pub returns-in-Some-clause-ok : goal.returns-in-Some-clause-ok
returns-in-Some-clause-ok g c =
    let matches = c.in_ok-matches.ensures.ok.2 (ap is_simple c.in_ok-command.ensures ∙ roff_app-is_simple) in
    rw (← (matches.1 ∙ ap (λ (a : App). subcommand_of a (map g.S.AsStr.text c.args.words.now)) c.in_ok-command.ensures))
    (rw c.in-Some.is at c.in_ok-request.ensures.some)

pub returns-clause-fault : goal.returns-clause-fault
returns-clause-fault g c = absurd (
    nothing_asked-fault c.in_ok-matches.matches _ (map g.S.AsStr.text c.args.words.now) c.in_ok-command.ensures c.in_ok-matches.ensures.ok.2
    (c.in_ok-request.ensures.none c.in-None.is) (c.in_ok-matches.ensures.kinds (ap is_simple_and_free c.in_ok-command.ensures ∙ roff_app-is_free))
    )

pub returns-clause-taken : goal.returns-clause-taken
returns-clause-taken g c = absurd (
    nothing_asked-fault c.in_ok-matches.matches _ (map g.S.AsStr.text c.args.words.now) c.in_ok-command.ensures c.in_ok-matches.ensures.ok.2
    (c.in_ok-request.ensures.none c.in-None.is) (c.in_ok-matches.ensures.kinds (ap is_simple_and_free c.in_ok-command.ensures ∙ roff_app-is_free))
    )
