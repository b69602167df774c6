-- The fields of rows, where bytes are added behind those of the table.
use Rattle.std.proofs.Common.{◌≡◌, ℕ, suc, ◌+◌, ◌<◌, ◌≤◌, Bool, false, true, List, [], ◌∷◌, ◌++◌, length, map, take, drop, refl, sym, ap, subst, ◌∙◌, arith, inl, inr, All, ◌==◌, cond, length-append, if◌then◌else◌, eq-eqb, ne_eqb}
use Rattle.std.specs.List.{slice_range, slice_split, onto_first}
use Rattle.std.proofs.lemmas.Bool.{cases_lt}
use Rattle.std.proofs.lemmas.List.{take-append-le}
use Rattle.std.proofs.lemmas.Slice.{between_is}
use Rattle.std.proofs.lemmas.List.Splits.{length-slice_split, slice_split-cons_yes, slice_split_none}
use Rattle.input_source.specs.Bytes.{newline}
use Rattle.tbl_format.specs.Format.{FormatRow}
use Rattle.tbl_format.specs.declared.format.Key.{Key}
use Rattle.tbl_layout.specs.Entries.{Block, Content, Text, is_number, key_at}
use Rattle.tbl_layout.specs.KeptEntries.{IsKept, IsKeptBy, IsLaid, IsLaidBy, IsOpened, IsText, Lies, block_filled, block_lines, content_by, content_of, not_filled, text_entry, with_end}
use Rattle.tbl_layout.specs.declared.entry.Entry.{Entry}
use Rattle.tbl_layout.specs.declared.entry.EntryKind.{EntryKind}
use Rattle.tbl_layout.specs.declared.entry.EntryKind.TheVariants.{Above as AboveKind, Block as BlockKind, Repeated as RepeatedKind, Ruled as RuledKind, Short as ShortKind, Split as SplitKind, Text as TextKind}
use Rattle.tbl_text.specs.BlockWords.{lines_in}
use Rattle.std.proofs.lemmas.Grind.{get_or_default_zero}
use Rattle.tbl_format.proofs.Slices.{slice_range-more}
use Rattle.tbl_text.proofs.BlockSlices.{slice_range-join}
use Rattle.tbl_kept.specs.Rows.{AreKept, last_changed}
use Rattle.tbl_kept.specs.RowsGrowing.{BlockGrows, with_line}
use Rattle.tbl_kept.specs.RowsLaying.{AreOpened, IsOpenedKind}

-- a part is one of the front that it lies in
pub slice_range-front : {A : Type 0} (xs ys : List A) (from to : ℕ) → take to xs ≡ take to ys → slice_range xs from to ≡ slice_range ys from to
slice_range-front {A = A} xs ys from to same =
    between_is xs from to ∙ ap (λ (front : List A). drop from front) same ∙ sym (between_is ys from to)

-- where a field that is kept, or laid out, ends
kept-within : (kind : EntryKind) (bytes : List ℕ) (key : Key) (e : Entry) → IsKeptBy kind bytes key e → e.to ≤ length bytes
kept-within (TextKind glyphs width) bytes key e kept = kept.within
kept-within (SplitKind s) bytes key e kept = kept.within
kept-within (BlockKind b) bytes key e kept = kept.lies.within
kept-within (RuledKind sign) bytes key e kept = kept.within
kept-within ShortKind bytes key e kept = kept.within
kept-within (RepeatedKind byte) bytes key e kept = kept.within
kept-within AboveKind bytes key e kept = kept.within

laid-within : (kind : EntryKind) (bytes : List ℕ) (key : Key) (e : Entry) → IsLaidBy kind bytes key e → e.to ≤ length bytes
laid-within (TextKind glyphs width) bytes key e laid = laid.within
laid-within (SplitKind s) bytes key e laid = laid.within
laid-within (BlockKind b) bytes key e laid = laid.lies.within
laid-within (RuledKind sign) bytes key e laid = laid.within
laid-within ShortKind bytes key e laid = laid.within
laid-within (RepeatedKind byte) bytes key e laid = laid.within
laid-within AboveKind bytes key e laid = laid.within

-- bytes behind those of the table change no field
module _ (bytes more : List ℕ) where
  pub part-more : (from to : ℕ) → to ≤ length bytes → slice_range (bytes ++ more) from to ≡ slice_range bytes from to
  part-more from to within = slice_range-front (bytes ++ more) bytes from to (take-append-le to bytes more within)

  pub more-within : (to : ℕ) → to ≤ length bytes → to ≤ length (bytes ++ more)
  more-within to within = omega (arith, within, length-append bytes more)

  lines-more : (from to : ℕ) → to ≤ length bytes → block_lines (bytes ++ more) from to ≡ block_lines bytes from to
  lines-more from to within =
      ap (λ (part : List ℕ). if from == to then [] else lines_in part) (part-more (from + 1) to within)

  content_by-more : (kind : EntryKind) (from to : ℕ) → to ≤ length bytes → content_by kind (bytes ++ more) from to ≡ content_by kind bytes from to
  content_by-more (TextKind glyphs width) from to within = ap Text (part-more from to within)
  content_by-more (SplitKind s) from to within = ap Text (part-more from to within)
  content_by-more (BlockKind b) from to within = ap (Block b.measure) (lines-more from to within)
  content_by-more (RuledKind sign) from to within = refl
  content_by-more ShortKind from to within = refl
  content_by-more (RepeatedKind byte) from to within = refl
  content_by-more AboveKind from to within = refl

  text-more : (number : Bool) (e : Entry) → IsText bytes number e → IsText (bytes ++ more) number e
  text-more number e text = record {
    order = text.order;
    within = more-within e.to text.within;
    is = text.is ∙ ap (λ (part : List ℕ). text_entry number e.from part) (sym (part-more e.from e.to text.within));
  }

  lies-more : (e : Entry) → Lies bytes e → Lies (bytes ++ more) e
  lies-more e lies = record { order = lies.order; within = more-within e.to lies.within }

  IsKeptBy-more : (kind : EntryKind) (key : Key) (e : Entry) → IsKeptBy kind bytes key e → IsKeptBy kind (bytes ++ more) key e
  IsKeptBy-more (TextKind glyphs width) key e kept = text-more (is_number key) e kept
  IsKeptBy-more (SplitKind s) key e kept = text-more (is_number key) e kept
  IsKeptBy-more (BlockKind b) key e kept = record { lies = lies-more e kept.lies; is = kept.is }
  IsKeptBy-more (RuledKind sign) key e kept = lies-more e kept
  IsKeptBy-more ShortKind key e kept = lies-more e kept
  IsKeptBy-more (RepeatedKind byte) key e kept = lies-more e kept
  IsKeptBy-more AboveKind key e kept = lies-more e kept

  IsLaidBy-more : (kind : EntryKind) (key : Key) (e : Entry) → IsLaidBy kind bytes key e → IsLaidBy kind (bytes ++ more) key e
  IsLaidBy-more (TextKind glyphs width) key e laid = text-more (is_number key) e laid
  IsLaidBy-more (SplitKind s) key e laid = text-more (is_number key) e laid
  IsLaidBy-more (BlockKind b) key e laid = record {
    lies = lies-more e laid.lies;
    is = laid.is ∙ ap (λ (lines : List (List ℕ)). BlockKind (block_filled b.measure lines)) (sym (lines-more e.from e.to laid.lies.within));
  }
  IsLaidBy-more (RuledKind sign) key e laid = lies-more e laid
  IsLaidBy-more ShortKind key e laid = lies-more e laid
  IsLaidBy-more (RepeatedKind byte) key e laid = lies-more e laid
  IsLaidBy-more AboveKind key e laid = lies-more e laid

  pub IsKept-more : (key : Key) (e : Entry) → IsKept bytes key e → IsKept (bytes ++ more) key e
  IsKept-more key e kept = IsKeptBy-more e.kind key e kept

  pub content_of-more : (key : Key) (e : Entry) → IsKept bytes key e → content_of (bytes ++ more) e ≡ content_of bytes e
  content_of-more key e kept = content_by-more e.kind e.from e.to (kept-within e.kind bytes key e kept)

  pub IsLaid-more : (key : Key) (e : Entry) → IsLaid bytes key e → IsLaid (bytes ++ more) key e
  IsLaid-more key e laid = IsLaidBy-more e.kind key e laid

  pub content_of-laid-more : (key : Key) (e : Entry) → IsLaid bytes key e → content_of (bytes ++ more) e ≡ content_of bytes e
  content_of-laid-more key e laid = content_by-more e.kind e.from e.to (laid-within e.kind bytes key e laid)

  pub AreKept-more : (format : FormatRow) (column : ℕ) (entries : List Entry) → AreKept bytes format column entries
      → AreKept (bytes ++ more) format column entries
  AreKept-more format column [] kept = tt
  AreKept-more format column (e ∷ entries) kept =
      (IsKept-more (key_at format column) e kept.0, AreKept-more format (suc column) entries kept.1)

  pub contents-more : (format : FormatRow) (column : ℕ) (entries : List Entry) → AreKept bytes format column entries
      → map (content_of (bytes ++ more)) entries ≡ map (content_of bytes) entries
  contents-more format column [] kept = refl
  contents-more format column (e ∷ entries) kept =
      ap (λ (c : Content). c ∷ map (content_of (bytes ++ more)) entries) (content_of-more (key_at format column) e kept.0)
      ∙ ap (λ (cs : List Content). content_of bytes e ∷ cs) (contents-more format (suc column) entries kept.1)

-- the last of some fields
pub last_changed-last : (change : Entry → Entry) (front : List Entry) (e : Entry)
    → last_changed change (front ++ e ∷ []) ≡ front ++ change e ∷ []
last_changed-last change [] e = refl
last_changed-last change (f ∷ []) e = refl
last_changed-last change (f ∷ g ∷ front) e = ap (λ (es : List Entry). f ∷ es) (last_changed-last change (g ∷ front) e)

-- one field more
module _ (bytes : List ℕ) (format : FormatRow) where
  pub AreKept-last : (column : ℕ) (front : List Entry) (e : Entry) → AreKept bytes format column front
      → IsKept bytes (key_at format (column + length front)) e → AreKept bytes format column (front ++ e ∷ [])
  AreKept-last column [] e kept is =
      let at : column + 0 ≡ column = omega arith in
      (subst (λ (n : ℕ). IsKept bytes (key_at format n) e) at is, tt)
  AreKept-last column (f ∷ front) e kept is =
      let at : column + suc (length front) ≡ suc column + length front = omega arith in
      (kept.0, AreKept-last (suc column) front e kept.1 (subst (λ (n : ℕ). IsKept bytes (key_at format n) e) at is))

  -- without the last
  pub AreKept-front : (column : ℕ) (front : List Entry) (e : Entry) → AreKept bytes format column (front ++ e ∷ [])
      → AreKept bytes format column front
  AreKept-front column [] e kept = tt
  AreKept-front column (f ∷ front) e kept = (kept.0, AreKept-front (suc column) front e kept.1)

-- parts, and one more behind what splits them
onto_part : (splits : Bool) (x : ℕ) (parts : List (List ℕ)) (last : List ℕ) → 0 < length parts
    → cond splits ([] ∷ (parts ++ last ∷ [])) (onto_first x (parts ++ last ∷ [])) ≡ cond splits ([] ∷ parts) (onto_first x parts) ++ last ∷ []
onto_part true x parts last some = refl
onto_part false x [] last some = absurd (omega (arith, some))
onto_part false x (part ∷ parts) last some = refl

split-last : (p : ℕ → Bool) (front : List ℕ) (y : ℕ) (last : List ℕ) → p y ≡ true → All (λ (b : ℕ). p b ≡ false) last
    → slice_split p (front ++ y ∷ last) ≡ slice_split p front ++ last ∷ []
split-last p [] y last splits none =
    slice_split-cons_yes p y last splits ∙ ap (λ (parts : List (List ℕ)). [] ∷ parts) (slice_split_none p last none)
split-last p (x ∷ front) y last splits none =
    ap (λ (parts : List (List ℕ)). cond (p x) ([] ∷ parts) (onto_first x parts)) (split-last p front y last splits none)
    ∙ onto_part (p x) x (slice_split p front) last (omega (arith, length-slice_split p front))

-- a block with a line more
pub block_lines-more : (bytes : List ℕ) (e : Entry) (to : ℕ) → BlockGrows bytes e to
    → block_lines bytes e.from to ≡ block_lines bytes e.from e.to ++ slice_range bytes (e.to + 1) to ∷ []
block_lines-more bytes e to grows =
    let line = slice_range bytes (e.to + 1) to in
    let some : (e.from == to) ≡ false = ne_eqb e.from to (λ same. omega (arith, same, grows.order, grows.more)) in
    let first : slice_range bytes e.to to ≡ newline ∷ line =
    slice_range-more bytes e.to to newline grows.more grows.within
    (sym grows.ended ∙ sym (get_or_default_zero bytes e.to newline (omega (arith, grows.more, grows.within)))) in
    elim (cases_lt e.from e.to) [
      | inl before ↦
          let more : (e.from == e.to) ≡ false = ne_eqb e.from e.to (λ same. omega (arith, same, before)) in
          ap (λ (is_empty : Bool). if is_empty then [] else lines_in (slice_range bytes (e.from + 1) to)) some
          ∙ ap lines_in (slice_range-join bytes (e.from + 1) e.to to (omega (arith, before)) (omega (arith, grows.more))
          ∙ ap (λ (behind : List ℕ). slice_range bytes (e.from + 1) e.to ++ behind) first)
          ∙ split-last (λ (b : ℕ). b == newline) (slice_range bytes (e.from + 1) e.to) newline line refl grows.line
          ∙ ap (λ (is_empty : Bool). (if is_empty then [] else lines_in (slice_range bytes (e.from + 1) e.to)) ++ line ∷ []) (sym more)
      | inr end ↦
          let same : e.from ≡ e.to = omega (arith, end, grows.order) in
          ap (λ (is_empty : Bool). if is_empty then [] else lines_in (slice_range bytes (e.from + 1) to)) some
          ∙ ap (λ (n : ℕ). lines_in (slice_range bytes (n + 1) to)) same
          ∙ slice_split_none (λ (b : ℕ). b == newline) line grows.line
          ∙ ap (λ (is_empty : Bool). (if is_empty then [] else lines_in (slice_range bytes (e.from + 1) e.to)) ++ line ∷ []) (sym (eq-eqb e.from e.to same))
    ]

content-more : (kind : EntryKind) (bytes : List ℕ) (e : Entry) (to : ℕ) → kind ≡ BlockKind not_filled → BlockGrows bytes e to
    → content_by kind bytes e.from to ≡ with_line (slice_range bytes (e.to + 1) to) (content_by kind bytes e.from e.to)
content-more (TextKind glyphs width) bytes e to is grows = absurd (cc)
content-more (SplitKind s) bytes e to is grows = absurd (cc)
content-more (BlockKind b) bytes e to is grows = ap (Block b.measure) (block_lines-more bytes e to grows)
content-more (RuledKind sign) bytes e to is grows = absurd (cc)
content-more ShortKind bytes e to is grows = absurd (cc)
content-more (RepeatedKind byte) bytes e to is grows = absurd (cc)
content-more AboveKind bytes e to is grows = absurd (cc)

pub content_of-block_end : (bytes : List ℕ) (e : Entry) (to : ℕ) → BlockGrows bytes e to
    → content_of bytes (with_end to e) ≡ with_line (slice_range bytes (e.to + 1) to) (content_of bytes e)
content_of-block_end bytes e to grows = content-more e.kind bytes e to grows.is grows

opened : (kind : EntryKind) (bytes : List ℕ) (key : Key) (e : Entry) → kind ≡ BlockKind not_filled → IsOpened bytes e → IsKeptBy kind bytes key e
opened (TextKind glyphs width) bytes key e is kept = absurd (cc)
opened (SplitKind s) bytes key e is kept = absurd (cc)
opened (BlockKind b) bytes key e is kept = kept
opened (RuledKind sign) bytes key e is kept = absurd (cc)
opened ShortKind bytes key e is kept = absurd (cc)
opened (RepeatedKind byte) bytes key e is kept = absurd (cc)
opened AboveKind bytes key e is kept = absurd (cc)

pub IsKept-block_end : (bytes : List ℕ) (key : Key) (e : Entry) (to : ℕ) → BlockGrows bytes e to → IsKept bytes key (with_end to e)
IsKept-block_end bytes key e to grows =
    opened e.kind bytes key (with_end to e) grows.is
    (record { lies = record { order = omega (arith, grows.order, grows.more); within = grows.within }; is = grows.is })

-- fields that are kept are no filled blocks
kept-opened : (kind : EntryKind) (bytes : List ℕ) (key : Key) (e : Entry) → kind ≡ e.kind → IsKeptBy kind bytes key e → IsOpenedKind kind
kept-opened (TextKind glyphs width) bytes key e is kept = tt
kept-opened (SplitKind s) bytes key e is kept = tt
kept-opened (BlockKind b) bytes key e is kept =
    let same : BlockKind b ≡ BlockKind not_filled = is ∙ kept.is in
    cc
kept-opened (RuledKind sign) bytes key e is kept = tt
kept-opened ShortKind bytes key e is kept = tt
kept-opened (RepeatedKind byte) bytes key e is kept = tt
kept-opened AboveKind bytes key e is kept = tt

pub AreOpened-kept : (bytes : List ℕ) (format : FormatRow) (column : ℕ) (entries : List Entry) → AreKept bytes format column entries → AreOpened entries
AreOpened-kept bytes format column [] kept = tt
AreOpened-kept bytes format column (e ∷ entries) kept =
    (kept-opened e.kind bytes (key_at format column) e refl kept.0, AreOpened-kept bytes format (suc column) entries kept.1)
