use Rattle.std.proofs.Common.{sym}
use Rattle.clap.specs.Words.{found_of, rows_of}
use Rattle.cli_words.proofs.CommandLine.{found-rows}
use Rattle.cli_words.proofs.words.request_of.Goals as goal

pub returns-clause-some : goal.returns-clause-some
returns-clause-some c =
    rw (found-rows c.args.matches.now c.in-Some.name.now (rows_of (found_of c.in-Some.options.now)) (sym c.in-Some.ensures.name) (sym c.in-Some.ensures.rows))
    record {
      files = c.in_ok-files_of.ensures;
      first_page = c.first_page_of.ensures;
      pages = c.pages_of.ensures;
      registers = c.registers_of.ensures;
      asked = c.in-Some-asked_by.ensures;
    }
