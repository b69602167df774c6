-- The words of this crate's clauses beside those of std's Prelude, for one import line in each source file.
pub use Rattle.std.specs.Char.{is_ascii_digit}
pub use Rattle.std.specs.Int.{w32, w64}
pub use Rattle.std.specs.List.{list_all}
pub use Rattle.std.specs.Str.{str_to_ascii_uppercase}
pub use Rattle.std.specs.Str.Parse.{AllDigits, digits_value, digits_value_after}
pub use Rattle.arrayvec.specs.ArrayVec.{array_vec_len}
pub use Rattle.roff_num.specs.declared.format.Format.{Format}
pub use Rattle.roff_num.specs.declared.format.Format.TheVariants.{Decimal, RomanLower, RomanUpper, AlphaLower, AlphaUpper}
pub use Rattle.roff_num.specs.declared.num.NumFault.TheVariants.{Missing, Range, ZeroDivisor}
pub use Rattle.roff_num.specs.declared.num.Scale.{Scale}
pub use Rattle.roff_num.specs.declared.num.Scale.TheVariants.{Units}
pub use Rattle.roff_num.specs.LimitNames.{limit_name}
pub use Rattle.roff_num.specs.LimitValues.{value_of, limits_with, default_limits}
pub use Rattle.roff_num.specs.Names.{name_of}
pub use Rattle.roff_num.specs.Rounding.{rounded}
pub use Rattle.roff_num.specs.Ranges.{in_range, signed}
pub use Rattle.roff_num.specs.Steps.{followed}
pub use Rattle.roff_num.specs.Widths.{byte_width}
pub use Rattle.roff_num.specs.Operators.{truth, applied, begins_with, operator_at}
pub use Rattle.roff_num.specs.Numerals.{letter_unit, scale_unit, unit_at, digits_at, dot_at, decimals_at, size_of, numeral_at}
pub use Rattle.roff_num.specs.Expressions.{sign_at, most_levels, as_number, value_at}
pub use Rattle.roff_num.specs.Laws.{IsLeftFold}
pub use Rattle.roff_num.specs.Alphabetic.{word, IsOverLetters, ComesBefore, place}
pub use Rattle.roff_num.specs.Roman.{ones, tens, hundreds, thousands, digit_of, roman, roman_value}
pub use Rattle.roff_num.specs.RegisterText.{decimal_field, roman_text, alphabetic_text, size_text, register_text}
pub use Rattle.roff_num.specs.Formats.{letter_format, is_field, format_of, IsWritten}
