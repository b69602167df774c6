-- Kinds of runs, and which bytes are of each.
use Rattle.std.specs.Prelude.{ℕ, ◌==◌, Bool, true, false, Option, None, Some}
use Rattle.input_source.specs.Bytes.{blank, is_argument_byte, is_passed, is_text_byte}
use Rattle.roff_scan.specs.declared.run_kind.RunKind.{RunKind}
use Rattle.roff_scan.specs.declared.run_kind.RunKind.TheVariants.{Text, Blanks, Arguments, CallArguments, Name, Condition, Definition, Ignored, Dropped}

-- Whether a byte may be one of such a run. Of text the unread input takes none by itself; and which bytes are in names and
-- conditions depends on what is half read.
abbrev pub is_of : RunKind → ℕ → Bool
is_of Text b = false
is_of Blanks b = b == blank
is_of Arguments b = is_argument_byte b
is_of (CallArguments most) b = is_argument_byte b
is_of Name b = true
is_of Condition b = true
is_of Definition b = is_text_byte b
is_of Ignored b = is_text_byte b
is_of (Dropped within_block) b = is_passed within_block b

-- whether the bytes of a run tell by themselves how far it goes
abbrev pub goes_by_bytes : RunKind → Bool
goes_by_bytes Text = false
goes_by_bytes Blanks = true
goes_by_bytes Arguments = false
goes_by_bytes (CallArguments most) = false
goes_by_bytes Name = false
goes_by_bytes Condition = false
goes_by_bytes Definition = true
goes_by_bytes Ignored = true
goes_by_bytes (Dropped within_block) = true

-- whether bytes are held, and count in the limit on the stack
abbrev pub is_held : RunKind → Bool
is_held Arguments = true
is_held (CallArguments most) = true
is_held Condition = true
is_held (_) = false

-- whether newlines may be among them
abbrev pub has_newlines : RunKind → Bool
has_newlines (Dropped within_block) = within_block
has_newlines (_) = false

-- fewer arguments than so many are whole before each byte, where there is a bound
abbrev pub most_whole : RunKind → Option ℕ
most_whole (CallArguments most) = Some most
most_whole (_) = None
