-- Lines of the options and the format, byte by byte.
use Rattle.std.proofs.Common.{◌≡◌, ℕ, suc, ◌+◌, ◌<◌, Bool, true, false, not, ◌&&◌, List, [], ◌∷◌, ◌++◌, length, drop, fold, Option, Some, None, refl, sym, ap, subst, ◌∙◌, arith, length-append, if◌then◌else◌, ◌==◌}
use Rattle.std.proofs.lemmas.List.{drop-append-le, drop_all}
use Rattle.std.proofs.lemmas.List.Sums.{fold-append}
use Rattle.tbl_format.proofs.FormatReading.{read-last}
use Rattle.tbl_format.proofs.Parts.{slice_range-rest}
use Rattle.tbl_format.proofs.RowsHeld.{read-held}
use Rattle.tbl_format.proofs.RowsWithin.{has_some-begun}
use Rattle.std.specs.List.{slice_range}
use Rattle.input_source.specs.Bytes.{newline}
use Rattle.tbl_table.specs.Begun.{begun_in, count_of, head_begun}
use Rattle.tbl_format.specs.Format.{Format, columns_of_keys, format_byte, format_read, has_some, no_format}
use Rattle.tbl_format.specs.FormatLaws.{IsRead, Line, NoByte}
use Rattle.tbl_format.specs.KeyCounts.{Counts}
use Rattle.tbl_options.specs.Options.{bracketed, options_end, options_end_from, semicolon}
use Rattle.tbl_table.specs.Table.{columns_of, has_newline, head_columns, head_place}
use Rattle.tbl_table.specs.declared.begun.Begun.TheVariants.{Front, Keys, Nothing}
use Rattle.tbl_format.specs.declared.format.FormatPlace.{FormatPlace}
use Rattle.tbl_format.specs.declared.key_count.KeyCount.{KeyCount}
use Rattle.tbl_data.specs.declared.phase.Phase.{Phase}
use Rattle.tbl_data.specs.declared.phase.Phase.TheVariants.{AtHead, Bad, InData, InFormat}

-- a count is what it counts
pub counts : (f : Format) → IsRead f → Counts f (count_of f)
counts f made = record {
  place = refl;
  is_further = refl;
  has_row = refl;
  begun = has_some-begun f.row (columns_of_keys f.row) (read-held f made).row.cells refl;
  row = refl;
  bars = refl;
  columns = refl;
}

pub count_is : (f : Format) (c : KeyCount) → Counts f c → c ≡ count_of f
count_is f c is =
    let k = λ (place : FormatPlace) (is_further has_row : Bool) (row bars columns : ℕ). let count : KeyCount = record { place = place; is_further = is_further; has_row = has_row; row = row; bars = bars; columns = columns } in count in
    ap (λ (place : FormatPlace). k place c.is_further c.has_row c.row c.bars c.columns) (sym is.place)
    ∙ ap (λ (is_further : Bool). k f.place is_further c.has_row c.row c.bars c.columns) (sym is.is_further)
    ∙ ap (λ (has_row : Bool). k f.place (has_some f.earlier) has_row c.row c.bars c.columns) (sym is.has_row)
    ∙ ap (λ (row : ℕ). k f.place (has_some f.earlier) (has_some f.rows) row c.bars c.columns) (sym is.row)
    ∙ ap (λ (bars : ℕ). k f.place (has_some f.earlier) (has_some f.rows) (columns_of_keys f.row) bars c.columns) (sym is.bars)
    ∙ ap (λ (columns : ℕ). k f.place (has_some f.earlier) (has_some f.rows) (columns_of_keys f.row) f.bars columns) (sym is.columns)

-- behind one byte more of a line
abbrev pub CountsOn : KeyCount → KeyCount → List ℕ → ℕ → Type 0
CountsOn old new front b = (f : Format) → Counts f old → Counts (format_byte front f b) new

-- the same of what is left of a line from a place on
pub counts-behind : (line : List ℕ) (old new : KeyCount) (start b : ℕ) → CountsOn old new (slice_range line start (length line)) b → CountsOn old new (drop start line) b
counts-behind line old new start b on = subst (λ (xs : List ℕ). CountsOn old new xs b) (slice_range-rest line start) on

count-on : (old new : KeyCount) (front : List ℕ) (b : ℕ) (f : Format) → IsRead f → CountsOn old new front b → old ≡ count_of f → new ≡ count_of (format_byte front f b)
count-on old new front b f made on is = count_is (format_byte front f b) new (on f (subst (λ (c : KeyCount). Counts f c) (sym is) (counts f made)))

-- keys of a format, which begin at a place of their line
same-keys : (c d : KeyCount) (start s : ℕ) → Keys start c ≡ Keys s d → c ≡ d
same-keys c d start s is = cc

same-start : (c d : KeyCount) (start s : ℕ) → Keys start c ≡ Keys s d → start ≡ s
same-start c d start s is = cc

module _ (old new : KeyCount) (start s b : ℕ) (f : Format) (made : IsRead f) (line rest : List ℕ) (on : CountsOn old new (drop start line) b) (left : drop s line ≡ rest) (is : Keys start old ≡ Keys s (count_of (format_read f rest))) where
  pub keys-new : new ≡ count_of (format_read f (rest ++ b ∷ []))
  keys-new =
      let starts = same-start old (count_of (format_read f rest)) start s is in
      let front : drop start line ≡ rest = ap (λ (n : ℕ). drop n line) starts ∙ left in
      count-on old new rest b (format_read f rest) (Line f rest made) (subst (λ (xs : List ℕ). CountsOn old new xs b) front on) (same-keys old (count_of (format_read f rest)) start s is)
      ∙ ap count_of (sym (read-last f rest b))

  pub keys-on : Keys start new ≡ Keys s (count_of (format_read f (rest ++ b ∷ [])))
  keys-on =
      ap (λ (n : ℕ). Keys n new) (same-start old (count_of (format_read f rest)) start s is)
      ∙ ap (λ (c : KeyCount). Keys s c) keys-new

module _ (b : ℕ) where
  abbrev pub ends_here : Bool → Bool
  ends_here inside = not inside && b == semicolon

  end-none : (t inside : Bool) (from c : ℕ) (line : List ℕ) → (not inside && c == semicolon) ≡ t → options_end_from inside from (c ∷ line) ≡ None → t ≡ false
  end-none true inside from c line is none =
      let some : Some from ≡ None = sym (ap (λ (u : Bool). if u then Some from else options_end_from (bracketed inside c) (suc from) line) is) ∙ none in cc
  end-none false inside from c line is none = refl

  pub options_end-none : (inside : Bool) (from : ℕ) (line : List ℕ) → options_end_from inside from line ≡ None
      → options_end_from inside from (line ++ b ∷ []) ≡ (if ends_here (fold bracketed inside line) then Some (from + length line) else None)
  options_end-none inside from [] none = let same : from ≡ from + 0 = omega arith in ap (λ (n : ℕ). if ends_here inside then Some n else None) same
  options_end-none inside from (c ∷ line) none =
      let test = end-none (not inside && c == semicolon) inside from c line refl none in
      let before : options_end_from (bracketed inside c) (suc from) line ≡ None =
      sym (ap (λ (u : Bool). if u then Some from else options_end_from (bracketed inside c) (suc from) line) test) ∙ none in
      let same : suc from + length line ≡ from + suc (length line) = omega arith in
      ap (λ (u : Bool). if u then Some from else options_end_from (bracketed inside c) (suc from) (line ++ b ∷ [])) test
      ∙ options_end-none (bracketed inside c) (suc from) line before
      ∙ ap (λ (n : ℕ). if ends_here (fold bracketed (bracketed inside c) line) then Some n else None) same

  some-by : (t inside : Bool) (from c end : ℕ) (line : List ℕ)
      → (options_end_from (bracketed inside c) (suc from) line ≡ Some end → options_end_from (bracketed inside c) (suc from) (line ++ b ∷ []) ≡ Some end)
      → (if t then Some from else options_end_from (bracketed inside c) (suc from) line) ≡ Some end
      → (if t then Some from else options_end_from (bracketed inside c) (suc from) (line ++ b ∷ [])) ≡ Some end
  some-by true inside from c end line more is = is
  some-by false inside from c end line more is = more is

  pub options_end-some : (inside : Bool) (from end : ℕ) (line : List ℕ) → options_end_from inside from line ≡ Some end
      → options_end_from inside from (line ++ b ∷ []) ≡ Some end
  options_end-some inside from end [] is = absurd (cc)
  options_end-some inside from end (c ∷ line) is =
      some-by (not inside && c == semicolon) inside from c end line (options_end-some (bracketed inside c) (suc from) end line) is

within-by : (t : Bool) (from end len : ℕ) (behind : Option ℕ) → (behind ≡ Some end → end < suc from + len)
    → (if t then Some from else behind) ≡ Some end → end < from + suc len
within-by true from end len behind more is = let same : from ≡ end = cc in omega (arith, same)
within-by false from end len behind more is = omega (arith, more is)

pub options_end-within : (inside : Bool) (from end : ℕ) (line : List ℕ) → options_end_from inside from line ≡ Some end → end < from + length line
options_end-within inside from end [] is = absurd (cc)
options_end-within inside from end (c ∷ line) is =
    within-by (not inside && c == semicolon) from end (length line) (options_end_from (bracketed inside c) (suc from) line)
    (options_end-within (bracketed inside c) (suc from) end line) is

-- of a first line something is known
pub nothing-head : (line : List ℕ) (end : Option ℕ) → Nothing ≡ head_begun end line → ⊥
nothing-head line None begun = absurd (cc)
nothing-head line (Some end) begun = absurd (cc)

-- the first line, one byte longer
module _ (line : List ℕ) (b : ℕ) where
  -- its options have ended
  module _ (end : ℕ) (is : options_end line ≡ Some end) where
    within : end < length line
    within = omega (arith, options_end-within false 0 end line is)

    pub rest-more : drop (suc end) (line ++ b ∷ []) ≡ drop (suc end) line ++ b ∷ []
    rest-more = drop-append-le (suc end) line (b ∷ []) (omega (arith, within))

    pub end-same : options_end (line ++ b ∷ []) ≡ Some end
    end-same = options_end-some b false 0 end line is

    pub head-some : head_begun (options_end (line ++ b ∷ [])) (line ++ b ∷ []) ≡ Keys (suc end) (count_of (format_read no_format (drop (suc end) line ++ b ∷ [])))
    head-some =
        ap (λ (e : Option ℕ). head_begun e (line ++ b ∷ [])) end-same
        ∙ ap (λ (rest : List ℕ). Keys (suc end) (count_of (format_read no_format rest))) rest-more

  keys-head : (old new : KeyCount) (start : ℕ) (end : Option ℕ) → options_end line ≡ end → CountsOn old new (drop start line) b → Keys start old ≡ head_begun end line
      → Keys start new ≡ head_begun (options_end (line ++ b ∷ [])) (line ++ b ∷ [])
  keys-head old new start None is on begun = absurd (cc)
  keys-head old new start (Some end) is on begun =
      keys-on old new start (suc end) b no_format NoByte line (drop (suc end) line) on refl begun ∙ sym (head-some end is)

  pub begun-keys : (old new : KeyCount) (start : ℕ) (phase : Phase) (f : Format) → IsRead f → CountsOn old new (drop start line) b → Keys start old ≡ begun_in phase f line
      → Keys start new ≡ begun_in phase f (line ++ b ∷ [])
  begun-keys old new start AtHead f made on is = keys-head old new start (options_end line) refl on is
  begun-keys old new start InFormat f made on is = keys-on old new start 0 b f made line line on refl is
  begun-keys old new start InData f made on is = absurd (cc)
  begun-keys old new start Bad f made on is = absurd (cc)

  pub begun-nothing : (phase : Phase) (f : Format) → Nothing ≡ begun_in phase f line → Nothing ≡ begun_in phase f (line ++ b ∷ [])
  begun-nothing AtHead f is = absurd (nothing-head line (options_end line) is)
  begun-nothing InFormat f is = absurd (cc)
  begun-nothing InData f is = refl
  begun-nothing Bad f is = refl

  -- its options haven't ended
  pub no-end : (inside : Bool) (end : Option ℕ) → options_end line ≡ end → Front inside ≡ head_begun end line → options_end line ≡ None
  no-end inside None is begun = is
  no-end inside (Some end) is begun = absurd (cc)

  pub inside-is : (inside : Bool) (end : Option ℕ) → options_end line ≡ end → Front inside ≡ head_begun end line → inside ≡ fold bracketed false line
  inside-is inside None is begun = cc
  inside-is inside (Some end) is begun = absurd (cc)

  module _ (inside : Bool) (begun : Front inside ≡ head_begun (options_end line) line) where
    end-is : options_end (line ++ b ∷ []) ≡ (if ends_here b inside then Some (length line) else None)
    end-is =
        let was : inside ≡ fold bracketed false line = inside-is inside (options_end line) refl begun in
        let len : 0 + length line ≡ length line = omega arith in
        options_end-none b false 0 line (no-end inside (options_end line) refl begun)
        ∙ ap (λ (i : Bool). if ends_here b i then Some (0 + length line) else None) (sym was)
        ∙ ap (λ (n : ℕ). if ends_here b inside then Some n else None) len

    pub front-on : ends_here b inside ≡ false → Front (bracketed inside b) ≡ head_begun (options_end (line ++ b ∷ [])) (line ++ b ∷ [])
    front-on on =
        let was : inside ≡ fold bracketed false line = inside-is inside (options_end line) refl begun in
        ap (λ (i : Bool). Front (bracketed i b)) was
        ∙ ap (λ (i : Bool). Front i) (sym (fold-append bracketed false line (b ∷ [])))
        ∙ ap (λ (e : Option ℕ). head_begun e (line ++ b ∷ [])) (sym (end-is ∙ ap (λ (t : Bool). if t then Some (length line) else None) on))

    pub front-end : ends_here b inside ≡ true → Keys (length line + 1) (count_of (format_read no_format [])) ≡ head_begun (options_end (line ++ b ∷ [])) (line ++ b ∷ [])
    front-end ends =
        let rest : drop (suc (length line)) (line ++ b ∷ []) ≡ [] = drop_all (suc (length line)) (line ++ b ∷ []) (omega (arith, length-append line (b ∷ []))) in
        let start : length line + 1 ≡ suc (length line) = omega arith in
        ap (λ (n : ℕ). Keys n (count_of (format_read no_format []))) start
        ∙ ap (λ (xs : List ℕ). Keys (suc (length line)) (count_of (format_read no_format xs))) (sym rest)
        ∙ ap (λ (e : Option ℕ). head_begun e (line ++ b ∷ [])) (sym (end-is ∙ ap (λ (t : Bool). if t then Some (length line) else None) ends))

  -- the columns that count
  pub columns-some : (end : ℕ) → options_end line ≡ Some end
      → head_columns (options_end (line ++ b ∷ [])) (line ++ b ∷ []) ≡ columns_of (format_read no_format (drop (suc end) line ++ b ∷ []))
  columns-some end is =
      ap (λ (e : Option ℕ). head_columns e (line ++ b ∷ [])) (end-same end is)
      ∙ ap (λ (rest : List ℕ). columns_of (format_read no_format rest)) (rest-more end is)

  pub columns-keys : (old new : KeyCount) (start : ℕ) (end : Option ℕ) → options_end line ≡ end → CountsOn old new (drop start line) b → Keys start old ≡ head_begun end line
      → new.columns ≡ head_columns (options_end (line ++ b ∷ [])) (line ++ b ∷ [])
  columns-keys old new start None is on begun = absurd (cc)
  columns-keys old new start (Some end) is on begun =
      ap (λ (c : KeyCount). c.columns) (keys-new old new start (suc end) b no_format NoByte line (drop (suc end) line) on refl begun) ∙ sym (columns-some end is)

  pub columns-format : (old new : KeyCount) (start : ℕ) (f : Format) → IsRead f → CountsOn old new (drop start line) b → Keys start old ≡ Keys 0 (count_of (format_read f line))
      → new.columns ≡ columns_of (format_read f (line ++ b ∷ []))
  columns-format old new start f made on is = ap (λ (c : KeyCount). c.columns) (keys-new old new start 0 b f made line line on refl is)

-- a newline is the last byte
has_newline-last : (line : List ℕ) (b : ℕ) → has_newline (line ++ b ∷ []) ≡ (b == newline)
has_newline-last [] b = refl
has_newline-last (c ∷ []) b = refl
has_newline-last (c ∷ d ∷ line) b = has_newline-last (d ∷ line) b

module _ (line : List ℕ) (inside : Bool) (begun : Front inside ≡ head_begun (options_end line) line) where
  -- of a line without options
  pub columns-whole : (b : ℕ) → (b == newline) ≡ true → ends_here b inside ≡ false
      → columns_of (format_read no_format (line ++ b ∷ [])) ≡ head_columns (options_end (line ++ b ∷ [])) (line ++ b ∷ [])
  columns-whole b is on =
      let none : options_end (line ++ b ∷ []) ≡ None = end-is line b inside begun ∙ ap (λ (t : Bool). if t then Some (length line) else None) on in
      ap (λ (t : Bool). if t then columns_of (format_read no_format (line ++ b ∷ [])) else 0) (sym (has_newline-last line b ∙ is))
      ∙ ap (λ (e : Option ℕ). head_columns e (line ++ b ∷ [])) (sym none)

  none-by : (t : Bool) (b : ℕ) → ends_here b inside ≡ t → (b == newline) ≡ false → 0 ≡ head_columns (options_end (line ++ b ∷ [])) (line ++ b ∷ [])
  none-by false b on is =
      let none : options_end (line ++ b ∷ []) ≡ None = end-is line b inside begun ∙ ap (λ (t : Bool). if t then Some (length line) else None) on in
      ap (λ (t : Bool). if t then columns_of (format_read no_format (line ++ b ∷ [])) else 0) (sym (has_newline-last line b ∙ is))
      ∙ ap (λ (e : Option ℕ). head_columns e (line ++ b ∷ [])) (sym none)
  none-by true b on is =
      let some : options_end (line ++ b ∷ []) ≡ Some (length line) = end-is line b inside begun ∙ ap (λ (t : Bool). if t then Some (length line) else None) on in
      let rest : drop (suc (length line)) (line ++ b ∷ []) ≡ [] = drop_all (suc (length line)) (line ++ b ∷ []) (omega (arith, length-append line (b ∷ []))) in
      ap (λ (xs : List ℕ). columns_of (format_read no_format xs)) (sym rest)
      ∙ ap (λ (e : Option ℕ). head_columns e (line ++ b ∷ [])) (sym some)

  pub columns-none : (b : ℕ) → (b == newline) ≡ false → 0 ≡ head_columns (options_end (line ++ b ∷ [])) (line ++ b ∷ [])
  columns-none b is = none-by (ends_here b inside) b refl is

-- where the reading stands behind the newline
pub place-keys : (line : List ℕ) (old new : KeyCount) (start : ℕ) (end : Option ℕ) → CountsOn old new (drop start line) newline → Keys start old ≡ head_begun end line
    → new.place ≡ head_place end line
place-keys line old new start None on begun = absurd (cc)
place-keys line old new start (Some end) on begun =
    ap (λ (c : KeyCount). c.place) (keys-new old new start (suc end) newline no_format NoByte line (drop (suc end) line) on refl begun)

pub place-format : (line : List ℕ) (old new : KeyCount) (start : ℕ) (f : Format) → IsRead f → CountsOn old new (drop start line) newline → Keys start old ≡ Keys 0 (count_of (format_read f line))
    → new.place ≡ (format_read f (line ++ newline ∷ [])).place
place-format line old new start f made on is = ap (λ (c : KeyCount). c.place) (keys-new old new start 0 newline f made line line on refl is)

-- a newline ends no options
pub newline-goes_on : (inside : Bool) → ends_here newline inside ≡ false
newline-goes_on true = refl
newline-goes_on false = refl

-- where nothing of it is known but options
front-by : (line : List ℕ) (inside : Bool) (place : FormatPlace) (end : Option ℕ) → (format_read no_format (line ++ newline ∷ [])).place ≡ place → Front inside ≡ head_begun end line
    → place ≡ head_place end line
front-by line inside place None is begun = sym is
front-by line inside place (Some end) is begun = absurd (cc)

pub place-front : (line : List ℕ) (inside : Bool) (place : FormatPlace) → (format_read no_format (line ++ newline ∷ [])).place ≡ place → Front inside ≡ head_begun (options_end line) line
    → place ≡ head_place (options_end line) line
place-front line inside place is begun = front-by line inside place (options_end line) is begun
