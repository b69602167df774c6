use Rattle.std.proofs.Common.{◌≡◌, ◌∙◌, true, ap, ap₂, codes, refl}
use Rattle.std.proofs.lemmas.Result.{IfOk-weaker}
use Rattle.clap.specs.Words.{App, app_of, new_app, with_subcommand}
use Rattle.clap.proofs.SimpleLemmas.{plain_fields}
use Rattle.cli_words.specs.CommandLine.{both_app, nroff_app, roff_app, tbl_app}
use Rattle.cli_words.proofs.command.roff_command.Goals as goal

abbrev alone : App
alone = let roff = new_app (codes "roff") in record roff { top = record roff.top { has_version = true; subcommand_required = true } }

nroff_app-is_plain : nroff_app.top.is_plain ≡ true
unfolding nroff_app
nroff_app-is_plain = refl

tbl_app-is_plain : tbl_app.top.is_plain ≡ true
unfolding tbl_app
tbl_app-is_plain = refl

both_app-is_plain : both_app.top.is_plain ≡ true
unfolding both_app
both_app-is_plain = refl

pub returns : goal.returns
unfolding roff_app
returns c =
    let empty : app_of c.subcommand_required.result ≡ alone =
    rw (c.subcommand_required.ensures, c.after_help.ensures, c.about.ensures, c.version.ensures)
    (ap (λ (a : App). record a { top = record a.top { has_version = true; subcommand_required = true } }) c.new.ensures.app) in
    let nroff : app_of c.in_ok-nroff_command.field-0 ≡ nroff_app = c.in_ok-nroff_command.ensures in
    let tbl : app_of c.in_ok-tbl_command.field-0 ≡ tbl_app = c.in_ok-tbl_command.ensures in
    let both : app_of c.in_ok-both_command.field-0 ≡ both_app = c.in_ok-both_command.ensures in
    let plain = plain_fields c.in_ok-nroff_command.field-0 (ap (λ (a : App). a.top.is_plain) nroff ∙ nroff_app-is_plain) in
    let plain_tbl = plain_fields c.in_ok-tbl_command.field-0 (ap (λ (a : App). a.top.is_plain) tbl ∙ tbl_app-is_plain) in
    let plain_both = plain_fields c.in_ok-both_command.field-0 (ap (λ (a : App). a.top.is_plain) both ∙ both_app-is_plain) in
    let one = c.in_ok-subcommand.ensures.shape plain.globals ∙ ap₂ with_subcommand empty (ap (λ (a : App). a.top) nroff) in
    let two = c.in_ok-subcommand-2.ensures.shape plain_tbl.globals ∙ ap₂ with_subcommand one (ap (λ (a : App). a.top) tbl) in
    IfOk-weaker c.subcommand-3.result _ _ (λ r adds. adds.shape plain_both.globals ∙ ap₂ with_subcommand two (ap (λ (a : App). a.top) both)) c.subcommand-3.ensures
