-- The messages of a table, and those that are to tell.
use Rattle.std.specs.Prelude.{ℕ, ◌≤◌, List, [], ◌++◌, length, replicate, vec_capacity}
use Rattle.std.specs.List.{slice_range}
use Rattle.tbl_options.specs.Notes.{cut_note}
use Rattle.tbl_options.specs.declared.notes.KeptNote.{KeptNote}
use Rattle.tbl_kept.specs.declared.table_notes.TableNotes.TheInside.{Inside}

-- all messages, those of them that are to tell, and for how many there is room
pub record KeptNotes : Type 0 where
  pub notes : List KeptNote
  pub to_tell : List KeptNote
  pub note_room : ℕ

abbrev pub no_notes : ℕ → KeptNotes
no_notes room = record { notes = []; to_tell = []; note_room = room }

-- the messages of entries that are cut are all alike: how many are to tell is kept, and on which line
abbrev pub kept_by : Inside → KeptNotes
kept_by a = record {
  notes = a.notes.items;
  to_tell = slice_range a.notes.items a.next a.end ++ replicate a.cut (cut_note a.cut_line);
  note_room = a.note_room;
}

-- those others that are to tell are among them
pub record IsSound (a : Inside) : Type 0 where
  pub room : a.note_room ≤ vec_capacity a.notes
  pub order : a.next ≤ a.end
  pub within : a.end ≤ length a.notes.items
