-- Whether something stands in a field, by what it measures.
use Rattle.std.proofs.Common.{◌≡◌, ℕ, ◌-◌, ◌<◌, Bool, true, false, List, [], ◌∷◌, length, refl, ap, ◌∙◌, arith, nat_lt, le-ltb, lt-ltb}
use Rattle.std.specs.List.{slice_range}
use Rattle.tbl_format.specs.declared.format.Key.{Key}
use Rattle.tbl_layout.specs.Entries.{Text, is_entry, is_number}
use Rattle.tbl_layout.specs.KeptEntries.{IsLaidBy, content_by, text_entry}
use Rattle.tbl_layout.specs.declared.entry.Entry.{Entry}
use Rattle.tbl_layout.specs.declared.entry.EntryKind.{EntryKind}
use Rattle.tbl_layout.specs.declared.entry.EntryKind.TheVariants.{Above as AboveKind, Block as BlockKind, Repeated as RepeatedKind, Ruled as RuledKind, Short as ShortKind, Split as SplitKind, Text as TextKind}
use Rattle.tbl_layout.specs.declared.entry.SplitEntry.{SplitEntry}
use Rattle.tbl_text.proofs.BlockSlices.{length-slice_range}

-- whether something stands in a field of this kind
abbrev pub used_by : EntryKind → Entry → Bool
used_by (TextKind glyphs width) e = nat_lt e.from e.to
used_by (SplitKind s) e = true
used_by (BlockKind b) e = b.has_word
used_by (RuledKind sign) e = true
used_by ShortKind e = true
used_by (RepeatedKind b) e = true
used_by AboveKind e = false

-- a text, by its bytes
text-used : (from to : ℕ) (text : List ℕ) → length text ≡ to - from → nat_lt from to ≡ is_entry (Text text)
text-used from to [] len = le-ltb from to (omega (arith, len))
text-used from to (b ∷ text) len = lt-ltb from to (omega (arith, len))

-- a number that is split has a byte
pub split-some : (is_number : Bool) (from : ℕ) (text : List ℕ) (s : SplitEntry)
    → SplitKind s ≡ (text_entry is_number from text).kind → 0 < length text
split-some true from [] s is = absurd cc
split-some false from [] s is = absurd cc
split-some is_number from (b ∷ text) s is = omega arith

some-used : (text : List ℕ) → 0 < length text → true ≡ is_entry (Text text)
some-used [] some = absurd (omega (arith, some))
some-used (b ∷ text) some = refl

pub used-laid : (kind : EntryKind) (bytes : List ℕ) (key : Key) (e : Entry) → kind ≡ e.kind → IsLaidBy kind bytes key e
    → used_by kind e ≡ is_entry (content_by kind bytes e.from e.to)
used-laid (TextKind glyphs width) bytes key e is laid =
    text-used e.from e.to (slice_range bytes e.from e.to) (length-slice_range bytes e.from e.to laid.within)
used-laid (SplitKind s) bytes key e is laid =
    let text = slice_range bytes e.from e.to in
    some-used text (split-some (is_number key) e.from text s (is ∙ ap (λ (x : Entry). x.kind) laid.is))
used-laid (BlockKind b) bytes key e is laid =
    ap (λ (kind : EntryKind). used_by kind e) (is ∙ laid.is)
used-laid (RuledKind sign) bytes key e is laid = refl
used-laid ShortKind bytes key e is laid = refl
used-laid (RepeatedKind b) bytes key e is laid = refl
used-laid AboveKind bytes key e is laid = refl
