-- The words of this crate's laws. What an environment is behind any history has its own name; where a law is of words and lines
-- alone, it speaks of what is told without fields.
pub use Rattle.page_model.specs.declared.settings.Settings.{Settings}
pub use Rattle.page_model.specs.declared.settings.AdjustMode.TheVariants.{Right, Centre}
pub use Rattle.page_model.specs.declared.settings.Param.TheVariants.{Filling, Adjusting, Mode, LineLength, Indent, TemporaryIndent, Centring, Spacing, NoStops, Stop, RightStop, CentredStop}
pub use Rattle.page_model.specs.declared.glyph.Glyph.{Glyph}
pub use Rattle.page_model.specs.declared.glyph.Glyph.TheVariants.{Blanks, Printed}
pub use Rattle.page_model.specs.declared.stop.TabStop.{TabStop}
pub use Rattle.page_model.specs.declared.stop.StopKind.TheVariants.{Left as AtLeft, Right as AtRight, Centred as InMiddle}
pub use Rattle.page_model.specs.declared.event.Event.{Event}
pub use Rattle.page_model.specs.declared.event.Event.TheVariants.{Print, Tab, FieldEnd, WordEnd, LineEnd, Count, Break, Interrupt, Resume, Set}
pub use Rattle.page_model.specs.Settings.{fills}
pub use Rattle.page_model.specs.TabStops.{TabStops, columns_of_way, way_to_next}
pub use Rattle.page_model.specs.Events.{History, settings_after, stops_after, is_interrupted}
pub use Rattle.page_model.specs.Places.{moved, tab_width, input_place as place_in}
pub use Rattle.page_model.specs.Fitting.{Word}
pub use Rattle.page_model.specs.Words.{is_empty, words, temporary_indent, has_open_word as has_word_in}
pub use Rattle.page_model.specs.Lines.{Finished}
pub use Rattle.page_model.specs.Columns.{line_bytes, printed, device_line, StandsInColumns}
pub use Rattle.page_model.specs.Paragraphs.{until_break, full_lines, broken_lines, paragraph_lines, finished_lines as lines_in}
pub use Rattle.page_model.specs.LastLine.{EndsAtWidth}
pub use Rattle.page_model.specs.Telling.{glyphs_told, words_told, bytes_told, text_line, IsOfText, IsWordUnder, IsClear}
pub use Rattle.page_model.specs.Diverted.{diverted}
pub use Rattle.page_model.specs.TitleColumns.{title_columns}
pub use Rattle.page_model.specs.Fields.{Field, plain, told_plainly}
pub use Rattle.page_model.specs.Behind.{input_place, pending_length, length_reached, finished, finished_lines, last_width}
pub use Rattle.law_lines.specs.Written.{written_by_break, lines_written}
pub use Rattle.law_lines.specs.FieldLaws.{StandsAtStop, MovesField, TabLeads, glyphs_width, SetsNoField, without_field_ends}
pub use Rattle.law_lines.specs.NearestStop.{stop_at, LeadsToNearest}
pub use Rattle.law_lines.specs.Filling.{lines_of, FillsLines}
pub use Rattle.roff_lines.specs.declared.fill.Word.{Word as MeasuredWord}
pub use Rattle.roff_lines.specs.FirstLine.{first_line_count}
pub use Rattle.law_lines.specs.FirstLineOf.{TakesFirstLine}
pub use Rattle.law_lines.specs.Interruptions.{uninterrupted, LeaveTheSame}
