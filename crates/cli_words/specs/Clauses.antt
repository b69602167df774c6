-- The words of the clauses in `src/`, for one import line in each source file.
pub use Rattle.clap.specs.Lexer.{strip_byte}
pub use Rattle.clap.specs.Words.{FailsBy, app_of, fault_of, found_of, kind_of, rows_of, rule_of, subcommand_of, subcommand_rows_of, takes, with_rule}
pub use Rattle.clap.specs.declared.error.ErrorKind.TheVariants.{ArgumentConflict, DisplayHelp, DisplayVersion, InvalidValue, MissingSubcommand, UnknownArgument, ValueValidation}
pub use Rattle.roff_num.specs.Clauses.{default_limits, limits_with, value_of}
pub use Rattle.tbl_format.specs.TblLimits.{default_tbl_limits, tbl_limits_with, tbl_value_of}
pub use Rattle.cli_words.specs.CommandLine.{Asks, AsksFor, EachOptionSetsItsLimit, asked_by, asked_in, both_app, command_named, default_of, default_texts, file_operand, files_asked, first_page_asked, first_page_of, first_page_option, is_bound_by_default, pages_option, with_start, limit_option, limits_asked, set_by, set_if_asked, line_length_asked, line_length_option, nroff_app, number_option, register_option, roff_app, tbl_app, tbl_limits_asked, value_by_default}
pub use Rattle.cli_words.specs.PagesAsked.{are_digits, last_written, next_range, page, page_written, pages_asked, pages_listed, range_from, range_written, ranges_written, split_at, told_pages}
pub use Rattle.cli_words.specs.CommandRows.{asked, first_page, pages, fault, formats, formats_tables, limited, numbered, registers, tables, tables_numbered, valued}
pub use Rattle.cli_words.specs.RegistersAsked.{Adds, next_register, register_of, registers_asked, registers_of, told, whole_value}
pub use Rattle.cli_words.specs.Preparing.{behind_equals, word_prepared, words_prepared}
