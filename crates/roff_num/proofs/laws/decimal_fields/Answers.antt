use Rattle.roff_num.proofs.Fields.{AllDigits-decimal_field, decimal_field-long, decimal_field-wide, digits_value-decimal_field}
use Rattle.roff_num.proofs.laws.decimal_fields.Goals as goal

pub returns : goal.returns
returns c = record {
  of_digits = AllDigits-decimal_field;
  value = digits_value-decimal_field;
  wide_enough = decimal_field-wide;
  no_wider = decimal_field-long;
}
