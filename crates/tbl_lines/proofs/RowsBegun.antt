-- A row that begins is what its fields are in the table.
use Rattle.std.proofs.Common.{◌≡◌, ℕ, zero, suc, ◌+◌, ◌-◌, ◌≤◌, Bool, true, false, List, [], ◌∷◌, ◌++◌, length, take, drop, map, min, Option, Some, None, refl, sym, ap, ◌∙◌, arith, if◌then◌else◌, nat_lt, nat_le, leb-true, leb-false, drop-drop, take-take, take_all}
use Rattle.std.specs.List.{AllByRecursion, slice_range}
use Rattle.std.proofs.lemmas.Slice.{between_is}
use Rattle.tbl_format.specs.Format.{FormatRow}
use Rattle.tbl_format.specs.declared.format.Key.{Key}
use Rattle.tbl_kept.specs.Rows.{AreLaid}
use Rattle.tbl_layout.specs.Entries.{Run, key_at, run_of, without}
use Rattle.tbl_layout.specs.KeptEntries.{IsLaidBy, Lies, split_by}
use Rattle.tbl_layout.specs.declared.entry.Entry.{Entry}
use Rattle.tbl_layout.specs.declared.entry.EntryKind.{EntryKind}
use Rattle.tbl_layout.specs.declared.entry.EntryKind.TheVariants.{Above as AboveKind, Block as BlockKind, Repeated as RepeatedKind, Ruled as RuledKind, Short as ShortKind, Split as SplitKind, Text as TextKind}
use Rattle.tbl_lines.specs.RowsLeft.{block_text, parts_to, split_run, text_run}
use Rattle.tbl_lines.specs.RowsWalked.{PlacesLie}
use Rattle.tbl_lines.specs.RowsLent.{first_place}
use Rattle.tbl_text.specs.BlockPlaces.{IsWithin}
use Rattle.tbl_text.specs.declared.block_parts.BlockPlace.TheVariants.{AtEnd, AtLine}
use Rattle.tbl_text.specs.declared.measure.Measured.{Measured}
use Rattle.tbl_text.specs.declared.measure.Split.{Split}

-- a front of a front
front-by : (t : Bool) (xs : List ℕ) (n m : ℕ) → nat_le n m ≡ t → take (min n m) xs ≡ take n (take m xs)
front-by true xs n m is =
    let le = leb-true n m is in
    let same : min n m ≡ n = omega (arith, le) in
    ap (λ (k : ℕ). take k xs) same ∙ sym (take-take n m xs le)
front-by false xs n m is =
    let lt = leb-false n m is in
    let same : min n m ≡ m = omega (arith, lt) in
    ap (λ (k : ℕ). take k xs) same ∙ sym (take_all n (take m xs) (omega (arith, lt, length-take-few m xs))) where
      length-take-few : (m : ℕ) (xs : List ℕ) → length (take m xs) ≤ m
      length-take-few zero xs = omega arith
      length-take-few (suc m) [] = omega arith
      length-take-few (suc m) (x ∷ xs) = omega (arith, length-take-few m xs)

-- a front and a rest of a part
pub slice-front : (xs : List ℕ) (from n to : ℕ) → slice_range xs from (min (from + n) to) ≡ take n (slice_range xs from to)
slice-front xs from n to =
    let same : min (from + n) to - from ≡ min n (to - from) = omega arith in
    ap (λ (k : ℕ). take k (drop from xs)) same ∙ front-by (nat_le n (to - from)) (drop from xs) n (to - from) refl

slice-behind : (xs : List ℕ) (from n to : ℕ) → slice_range xs (from + n) to ≡ drop n (slice_range xs from to)
slice-behind xs from n to =
    between_is xs (from + n) to ∙ sym (drop-drop n from (take to xs)) ∙ ap (λ (ys : List ℕ). drop n ys) (sym (between_is xs from to))

-- a text that is kept, where it lies
module _ (bytes : List ℕ) (e : Entry) where
  pub text-run : (m : Measured) → m.split ≡ None → text_run bytes e (e.from + m.glyphs) m.width ≡ run_of m (slice_range bytes e.from e.to)
  text-run m none =
      let all = slice_range bytes e.from e.to in
      let run : List ℕ → List ℕ → Run = λ xs ys. record { bytes = xs; to_glyph = ys; columns = m.width } in
      ap (λ (ys : List ℕ). run all ys) (slice-front bytes e.from m.glyphs e.to)
      ∙ ap (λ (s : Option Split). run (without s all) (without s (take m.glyphs all))) (sym none)

  parts-to : (s : Split) (g w l to : ℕ) → parts_to bytes e (record { glyphs = g; width = w; left = l; end = e.from + s.end; behind = e.from + s.behind }) to
      ≡ without (Some s) (slice_range bytes e.from to)
  parts-to s g w l to =
      ap (λ (front : List ℕ). front ++ slice_range bytes (e.from + s.behind) to) (slice-front bytes e.from s.end to)
      ∙ ap (λ (back : List ℕ). take s.end (slice_range bytes e.from to) ++ back) (slice-behind bytes e.from s.behind to)

  pub split-is : (m : Measured) (s : Split) → m.split ≡ Some s
      → split_run bytes e (split_by e.from (e.from + m.glyphs) m.width s) ≡ run_of m (slice_range bytes e.from e.to)
  split-is m s is =
      let all = slice_range bytes e.from e.to in
      let run : List ℕ → List ℕ → Run = λ xs ys. record { bytes = xs; to_glyph = ys; columns = m.width } in
      let to_glyph = min (e.from + m.glyphs) e.to in
      ap (λ (xs : List ℕ). run xs (parts_to bytes e (split_by e.from (e.from + m.glyphs) m.width s) to_glyph)) (parts-to s (e.from + m.glyphs) m.width s.left e.to)
      ∙ ap (λ (ys : List ℕ). run (without (Some s) all) ys)
      (parts-to s (e.from + m.glyphs) m.width s.left to_glyph ∙ ap (λ (xs : List ℕ). without (Some s) xs) (slice-front bytes e.from m.glyphs e.to))
      ∙ ap (λ (split : Option Split). run (without split all) (without split (take m.glyphs all))) (sym is)

-- what is kept of a row lies in the table's bytes
entry-lies : (k : EntryKind) (bytes : List ℕ) (key : Key) (e : Entry) → IsLaidBy k bytes key e → Lies bytes e
entry-lies (TextKind glyphs width) bytes key e laid = record { order = laid.order; within = laid.within }
entry-lies (SplitKind s) bytes key e laid = record { order = laid.order; within = laid.within }
entry-lies (BlockKind b) bytes key e laid = record { order = laid.lies.order; within = laid.lies.within }
entry-lies (RuledKind sign) bytes key e laid = record { order = laid.order; within = laid.within }
entry-lies ShortKind bytes key e laid = record { order = laid.order; within = laid.within }
entry-lies (RepeatedKind b) bytes key e laid = record { order = laid.order; within = laid.within }
entry-lies AboveKind bytes key e laid = record { order = laid.order; within = laid.within }

pub entries-lie : (bytes : List ℕ) (format : FormatRow) (cell : ℕ) (entries : List Entry)
    → AreLaid bytes format cell entries → AllByRecursion (Lies bytes) entries
entries-lie bytes format cell [] laid = tt
entries-lie bytes format cell (e ∷ entries) laid =
    (entry-lies e.kind bytes (key_at format cell) e laid.0, entries-lie bytes format (suc cell) entries laid.1)

-- its blocks begin within them
first-by : (t : Bool) (block : List ℕ) → IsWithin block (if t then AtLine 0 None else AtEnd)
first-by true block = omega arith
first-by false block = tt

pub first-places : (bytes : List ℕ) (entries : List Entry) → PlacesLie bytes entries (map first_place entries)
first-places bytes [] = tt
first-places bytes (e ∷ entries) = (first-by (nat_lt e.from e.to) (block_text bytes e), first-places bytes entries)
