-- The rows of a table, as they grow by bytes and lines.
use Rattle.std.specs.Prelude.{◌≡◌, ℕ, ◌+◌, ◌<◌, ◌≤◌, false, List, [], ◌∷◌, ◌++◌, get_or, length, All, ◌==◌}
use Rattle.std.specs.List.{slice_range}
use Rattle.input_source.specs.Bytes.{newline}
use Rattle.tbl_layout.specs.Entries.{Block, Content}
use Rattle.tbl_layout.specs.KeptEntries.{not_filled}
use Rattle.tbl_layout.specs.declared.entry.Entry.{Entry}
use Rattle.tbl_layout.specs.declared.entry.EntryKind.TheVariants.{Block as BlockKind}

-- a block that is read goes on up to a place: behind what was read of it stands a newline, and then a line
pub record BlockGrows (bytes : List ℕ) (e : Entry) (to : ℕ) : Type 0 where
  pub is : e.kind ≡ BlockKind not_filled
  pub order : e.from ≤ e.to
  pub more : e.to < to
  pub within : to ≤ length bytes
  pub ended : get_or bytes e.to 0 ≡ newline
  pub line : All (λ b. (b == newline) ≡ false) (slice_range bytes (e.to + 1) to)

-- a block with a line more
abbrev pub with_line : List ℕ → Content → Content
with_line line (Block measure lines) = Block measure (lines ++ line ∷ [])
with_line line content = content
