-- A table as far as it was read (Lesk, "Tbl").
use Rattle.std.specs.Prelude.{ℕ, Bool, List, [], ◌∷◌, ◌++◌, length, Option, None}
use Rattle.tbl_format.specs.Format.{Format, no_format}
use Rattle.tbl_options.specs.Notes.{told_at}
use Rattle.tbl_options.specs.Options.{no_options}
use Rattle.tbl_options.specs.declared.message.Message.{Message}
use Rattle.tbl_options.specs.declared.message.Message.TheVariants.{BadFormat}
use Rattle.tbl_options.specs.declared.message.Told.{Told}
use Rattle.tbl_options.specs.declared.options.Options.{Options}
use Rattle.tbl_kept.specs.Joined.{Joined}
use Rattle.tbl_layout.specs.Entries.{Content, Element}
use Rattle.tbl_data.specs.declared.phase.Phase.{Phase}
use Rattle.tbl_data.specs.declared.phase.Phase.TheVariants.{AtHead, Bad}

-- a row of which a text block is open: the fields in front of the block, and the block's lines, unless it is dropped, as its field is one
-- too many, or stands under a key that says what its fields are; and whether it had one too many
pub record RowBegun : Type 0 where
  pub fields : List Content
  pub block : Option (List (List ℕ))
  pub had_surplus : Bool

-- a table: what is read now, what its options and its formats say, which row of the last one comes next, the line that goes on, the row of which a block is open, what stands in the table so far, and the messages
pub record TableRead : Type 0 where
  pub phase : Phase
  pub options : Options
  pub format : Format
  pub next_row : ℕ
  pub pending : Option Joined
  pub begun : Option RowBegun
  pub body : List Element
  pub notes : List Told

-- directly behind the line that begins the table
unfoldable pub no_lines : TableRead
no_lines = record {
  phase = AtHead;
  options = no_options;
  format = no_format;
  next_row = 0;
  pending = None;
  begun = None;
  body = [];
  notes = [];
}

-- messages more
abbrev pub with_notes : List Told → TableRead → TableRead
with_notes notes t = record t { notes = t.notes ++ notes }

-- one more
abbrev pub with_note : ℕ → Message → TableRead → TableRead
with_note n message t = with_notes (told_at n message ∷ []) t

-- a table that passes as it was read
abbrev pub bad : ℕ → TableRead → TableRead
bad n t = with_note n BadFormat (record t { phase = Bad; pending = None; begun = None })

-- its columns
abbrev pub columns : TableRead → ℕ
columns t = length t.format.asked
