-- What is read in the place of an escape: registers, strings, arguments and widths (manual, sections 7, 8 and 11).
use Rattle.std.specs.Prelude.{ℕ, get_or, ◌-◌, ◌&&◌, nat_le, List, [], ◌∷◌, decimal, Some, None, Option, if◌then◌else◌}
use Rattle.input_model.specs.Input.{pushing}
use Rattle.input_model.specs.Input.Names.{body_named}
use Rattle.input_model.specs.Input.Calls.{arguments_live}
use Rattle.input_escapes.specs.declared.escapes.NameUse.{NameUse}
use Rattle.input_escapes.specs.declared.escapes.NameUse.TheVariants.{Register, Text as OfText, Argument as OfArgument}
use Rattle.roff_num.specs.declared.direction.Direction.{Direction}
use Rattle.run_model.specs.declared.line_state.LineState.{LineState}
use Rattle.run_model.specs.Reading.Items.{PageInput, Taking, going_on}
use Rattle.run_model.specs.Registers.{Known, known_stepped, page_stepped, step_changes, step_messages, text_of_register}
use Rattle.run_model.specs.Requests.Effects.{page_numbered}

-- a register is read in the place of its escape: it is stepped first, and its text is put in front
abbrev pub interpolating : Known → PageInput → LineState → Option Direction → List ℕ → Taking
interpolating k i reading step name = record {
  input = pushing (text_of_register (known_stepped step name k) name) i;
  reading = reading;
  effect = record {
    messages = step_messages step name k;
    changes = step_changes step name;
    calls = [];
    events = page_numbered (page_stepped step name k);
  };
}

-- a string is read in the place of its escape
abbrev pub putting_string : PageInput → LineState → List ℕ → Taking
putting_string i reading name = going_on (pushing (body_named name i) i) reading

-- nothing is read in the place of an escape
abbrev pub putting_nothing : PageInput → LineState → Taking
putting_nothing i reading = going_on (pushing [] i) reading

-- the one of these arguments that a name of one digit above 0 stands for; another name stands for an empty one
abbrev pub argument_named : List ℕ → List (List ℕ) → List ℕ
argument_named [] arguments = []
argument_named (digit ∷ []) arguments = if nat_le 49 digit && nat_le digit 57 then get_or arguments (digit - 49) [] else []
argument_named (first ∷ second ∷ others) arguments = []

-- an argument of the innermost body that a line called is read in the place of its escape
abbrev pub putting_argument : PageInput → LineState → List ℕ → Taking
putting_argument i reading name = going_on (pushing (argument_named name (arguments_live i)) i) reading

-- the width of a text is read in its place, in digits
abbrev pub measuring : PageInput → LineState → ℕ → Taking
measuring i reading width = going_on (pushing (decimal width) i) reading

-- what the name behind an escape asks for is read in the escape's place; without a byte it is no name
abbrev pub asking : Known → PageInput → LineState → NameUse → Option (List ℕ) → Taking
asking k i reading purpose None = going_on i reading
asking k i reading (Register step) (Some name) = interpolating k i reading step name
asking k i reading OfText (Some name) = putting_string i reading name
asking k i reading OfArgument (Some name) = putting_argument i reading name
asking k i reading (_) (Some name) = putting_nothing i reading
