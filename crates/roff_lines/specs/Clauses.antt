-- The words of this crate's clauses, for one import line in each source file.
pub use Rattle.page_model.specs.declared.glyph.Glyph.TheVariants.{Blanks}
pub use Rattle.page_model.specs.Glyphs.{text_byte, text_width, gaps_in}
pub use Rattle.page_model.specs.Settings.{counted}
pub use Rattle.page_model.specs.declared.event.Event.TheVariants.{Print, Tab, FieldEnd, WordEnd, Gap, LineEnd, Count, Break, Interrupt, Resume, Set}
pub use Rattle.page_model.specs.Events.{History}
pub use Rattle.page_model.specs.Events.{settings_after, is_interrupted}
pub use Rattle.page_model.specs.TabStops.{TabStops, stops_with, way_beyond, way_to_next, way_to_nearest, shorter_way}
pub use Rattle.page_model.specs.Places.{moved}
pub use Rattle.page_model.specs.Fields.{is_in_field}
pub use Rattle.page_model.specs.Behind.{finished, has_line_glyph, has_open_word, input_place, last_text, last_width, length_reached, pending_length}
pub use Rattle.page_model.specs.Fitting.{gap_text, may_be_wide}
pub use Rattle.page_model.specs.Words.{is_closer, is_sentence_mark, ends_sentence_behind, indent_by}
pub use Rattle.page_model.specs.Telling.{bytes_told, QuietlyTold}
pub use Rattle.page_model.specs.Lines.{laid_out, empty_line}
pub use Rattle.page_model.specs.Columns.{finished_of}
pub use Rattle.page_model.specs.TitleColumns.{title_columns}
pub use Rattle.roff_lines.specs.FirstLine.{MeasuredWord, width_with, first_line_count}
pub use Rattle.page_model.specs.LastLine.{line_width}
pub use Rattle.roff_lines.specs.Shape.Shaped.{shaped}
