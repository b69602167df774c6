-- A walk over the lines of a picture with cells of several rows goes on behind a part.
use Rattle.std.proofs.Common.{◌≡◌, ℕ, suc, ◌-◌, ◌≤◌, Bool, true, false, List, [], ◌∷◌, ◌++◌, length, refl, sym, ap, subst, ◌∙◌, arith, if◌then◌else◌, ◌==◌}
use Rattle.tbl_format.specs.Format.{FormatRow}
use Rattle.tbl_format.specs.RowsServed.{row_at}
use Rattle.tbl_kept.specs.Rows.{KeptElement, KeptRows, Row, elements_of, fields_of, heights_of}
use Rattle.tbl_layout.specs.Entries.{Command as OneCommand, Element, Row as OneRow, Rule as OneRule}
use Rattle.tbl_layout.specs.declared.data_lines.RuleSign.{RuleSign}
use Rattle.tbl_layout.specs.declared.data_lines.RuleSign.TheVariants.{Single}
use Rattle.tbl_layout.specs.declared.entry.Entry.{Entry}
use Rattle.tbl_lines.specs.PictureLines.{OfKeys, RuleLine, Whole, boxed_from, frame_rules, frame_sign}
use Rattle.tbl_options.specs.declared.options.Boxing.{Boxing}
use Rattle.tbl_giving.proofs.PartsCome.{part-fewer, part-on}
use Rattle.tbl_giving.specs.LinesWalked.{HasCome, KeptLineByLine, StandsNext, all_boxed, boxed_now, coming, elements_left, heights_left, parts_left, sheet_by}
use Rattle.tbl_giving.specs.PartsToCome.{HasPart, ToCome, behind_part, parts_in}
use Rattle.tbl_giving.specs.declared.line_by_line.Place.{Place}
use Rattle.tbl_tall.specs.TallRows.{KeptTall, KeysCome, RuleComes, WholeComes, keys_in_front, next_height, wholes_in_front}

-- the part that came was given
pub record PartCame (bytes : List ℕ) (formats : List FormatRow) (rows : KeptRows) (old new : KeptLineByLine) (room : ℕ) : Type 0 where
  pub come : HasCome bytes formats rows new room
  pub is : coming bytes formats rows new ≡ behind_part (sheet_by rows old) (coming bytes formats rows old)

module _ (bytes : List ℕ) (formats : List FormatRow) (rows : KeptRows) (g : KeptLineByLine) (room : ℕ) where
  abbrev pub gone : ℕ → Place → KeptTall → KeptLineByLine
  gone element place tall = record g { element = element; place = place; tall = tall }

  pub part-came : (element : ℕ) (place : Place) (tall : KeptTall) → HasCome bytes formats rows g room → HasPart (coming bytes formats rows g)
      → element ≤ length rows.elements → tall.come ≤ element → tall.room ≡ g.tall.room
      → (let y = behind_part (sheet_by rows g) (coming bytes formats rows g) in
      elements_left bytes formats rows (gone element place tall) ≡ y.elements
      → heights_left rows (gone element place tall) ≡ y.heights
      → StandsNext place bytes formats rows (gone element place tall) y
      → PartCame bytes formats rows g (gone element place tall) room)
  part-came element place tall come has few ended same elements heights stands =
      let new = gone element place tall in
      let s = sheet_by rows g in
      let x = coming bytes formats rows g in
      let y = behind_part s x in
      let fewer : parts_left bytes formats rows g ≡ suc (parts_left bytes formats rows new) =
      ap (λ (hs : List ℕ). parts_in hs (elements_left bytes formats rows g)) (sym come.heights)
      ∙ ap (λ (es : List Element). parts_in x.heights es) (sym come.elements)
      ∙ part-fewer s x has
      ∙ ap (λ (hs : List ℕ). suc (parts_in hs y.elements)) (sym heights)
      ∙ ap (λ (es : List Element). suc (parts_in (heights_left rows new) es)) (sym elements) in
      let is : coming bytes formats rows new ≡ y =
      part-on s (heights_of rows.elements) (all_boxed bytes formats rows g) (parts_left bytes formats rows g) (parts_left bytes formats rows new) fewer come.parts in
      record {
        come = record {
          drawn = record {
            laid = come.drawn.laid;
            lie = come.drawn.lie;
            high = come.drawn.high;
            narrow = come.drawn.narrow;
            places = come.drawn.places;
            wide = come.drawn.wide;
            ruled = come.drawn.ruled;
            some = come.drawn.some;
            room = omega (arith, come.drawn.room, same);
            few = come.drawn.few;
          };
          element = few;
          ended = ended;
          parts = omega (arith, fewer, come.parts);
          elements = ap (λ (z : ToCome). z.elements) is ∙ sym elements;
          heights = ap (λ (z : ToCome). z.heights) is ∙ sym heights;
          stands = subst (λ (z : ToCome). StandsNext place bytes formats rows new z) (sym is) stands;
        };
        is = is;
      }

-- what a line of rules is, and what comes behind it, by the elements
abbrev pub RuleOf : List Element → RuleLine → List Element → Type 0
RuleOf [] line rest = ⊥
RuleOf (OneRow [] row fields ∷ elements) line rest = ⊥
RuleOf (OneRow (format ∷ rules) row fields ∷ elements) line rest = (line ≡ OfKeys format) × (rest ≡ OneRow rules row fields ∷ elements)
RuleOf (OneRule sign ∷ elements) line rest = (line ≡ Whole sign) × (rest ≡ elements)
RuleOf (OneCommand bytes ∷ elements) line rest = ⊥

pub rule-of : (elements rest : List Element) (line : RuleLine) → RuleComes elements line rest → RuleOf elements line rest
rule-of _ _ _ WholeComes = (refl, refl)
rule-of _ _ _ KeysCome = (refl, refl)

-- the row behind it is as high
pub rule-height : (heights : List ℕ) (elements rest : List Element) (line : RuleLine) → RuleComes elements line rest
    → next_height heights elements ≡ next_height heights rest
rule-height heights _ _ _ WholeComes = refl
rule-height heights _ _ _ KeysCome = refl

module _ (boxing : Boxing) (bytes : List ℕ) (formats : List FormatRow) where
  abbrev pub now : ℕ → List FormatRow → List KeptElement → List Element
  now wholes rules kept = boxed_now boxing bytes formats wholes rules kept

  -- behind a rule over the whole picture
  pub behind-whole : (sign : RuleSign) (wholes new_wholes : ℕ) (rules new_rules : List FormatRow) (kept : List KeptElement) (rest : List Element)
      (line : RuleLine) → RuleComes (OneRule sign ∷ now (wholes - 1) rules kept) line rest
      → wholes ≡ wholes_in_front (OneRule sign ∷ now (wholes - 1) rules kept)
      → rules ≡ keys_in_front (OneRule sign ∷ now (wholes - 1) rules kept)
      → new_wholes ≡ wholes_in_front rest → new_rules ≡ keys_in_front rest → now new_wholes new_rules kept ≡ rest
  behind-whole sign wholes new_wholes rules new_rules kept rest line comes is_wholes is_rules new_is new_rules_is =
      let behind = now (wholes - 1) rules kept in
      let rest_is : rest ≡ behind = (rule-of (OneRule sign ∷ behind) rest line comes).1 in
      let fewer : new_wholes ≡ wholes - 1 =
      (let all = new_is ∙ ap (λ (es : List Element). wholes_in_front es) rest_is in omega (arith, all, is_wholes)) in
      let same : new_rules ≡ rules = new_rules_is ∙ ap (λ (es : List Element). keys_in_front es) rest_is ∙ sym is_rules in
      ap (λ (n : ℕ). now n new_rules kept) fewer ∙ ap (λ (rs : List FormatRow). now (wholes - 1) rs kept) same ∙ sym rest_is

  -- behind one in front of a row: of rule keys, or that of the box
  row-now : (wholes : ℕ) (rules : List FormatRow) (keys others height : ℕ) (entries : List Entry) (kept : List KeptElement)
      (rest : List Element)
      → rest ≡ OneRow rules (row_at formats keys) (fields_of bytes (row_at formats keys) entries) ∷ boxed_from boxing true (elements_of bytes formats kept)
      → (new_rules : List FormatRow) → wholes ≡ wholes_in_front rest → new_rules ≡ keys_in_front rest
      → now wholes new_rules (Row keys others height entries ∷ kept) ≡ rest
  row-now wholes rules keys others height entries kept rest is new_rules wholes_is rules_is =
      let none : wholes ≡ 0 = wholes_is ∙ ap (λ (es : List Element). wholes_in_front es) is in
      let same : new_rules ≡ rules = rules_is ∙ ap (λ (es : List Element). keys_in_front es) is in
      ap (λ (n : ℕ). now n new_rules (Row keys others height entries ∷ kept)) none
      ∙ ap (λ (rs : List FormatRow). now 0 rs (Row keys others height entries ∷ kept)) same ∙ sym is

  behind-keys-now : (rules : List FormatRow) (keys others height : ℕ) (entries : List Entry) (kept : List KeptElement)
      (rest : List Element) (line : RuleLine)
      → RuleComes (OneRow rules (row_at formats keys) (fields_of bytes (row_at formats keys) entries) ∷ boxed_from boxing true (elements_of bytes formats kept)) line rest
      → (wholes : ℕ) (new_rules : List FormatRow) → wholes ≡ wholes_in_front rest → new_rules ≡ keys_in_front rest
      → now wholes new_rules (Row keys others height entries ∷ kept) ≡ rest
  behind-keys-now [] keys others height entries kept rest line comes wholes new_rules wholes_is rules_is =
      absurd (rule-of (OneRow [] (row_at formats keys) (fields_of bytes (row_at formats keys) entries) ∷ boxed_from boxing true (elements_of bytes formats kept)) rest line comes)
  behind-keys-now (rule ∷ rules) keys others height entries kept rest line comes wholes new_rules wholes_is rules_is =
      row-now wholes rules keys others height entries kept rest
      (rule-of (OneRow (rule ∷ rules) (row_at formats keys) (fields_of bytes (row_at formats keys) entries) ∷ boxed_from boxing true (elements_of bytes formats kept)) rest line comes).1
      new_rules wholes_is rules_is

  -- a row that comes, by whether a rule stands in front of it
  pub row-split : (t : Bool) (wholes : ℕ) → (wholes == 0) ≡ t → (rules : List FormatRow) (keys others height : ℕ) (entries : List Entry)
      (kept : List KeptElement) → now wholes rules (Row keys others height entries ∷ kept)
      ≡ (if t then [] else OneRule Single ∷ [])
      ++ OneRow rules (row_at formats keys) (fields_of bytes (row_at formats keys) entries) ∷ boxed_from boxing true (elements_of bytes formats kept)
  row-split t wholes is rules keys others height entries kept =
      ap (λ (u : Bool). (if u then [] else OneRule Single ∷ [])
      ++ OneRow rules (row_at formats keys) (fields_of bytes (row_at formats keys) entries) ∷ boxed_from boxing true (elements_of bytes formats kept)) is

  pub behind-in-front : (t : Bool) (wholes : ℕ) → (wholes == 0) ≡ t → (rules : List FormatRow) (keys others height : ℕ)
      (entries : List Entry) (kept : List KeptElement) (rest : List Element) (line : RuleLine)
      → RuleComes (now wholes rules (Row keys others height entries ∷ kept)) line rest
      → (new_wholes : ℕ) (new_rules : List FormatRow) → new_wholes ≡ wholes_in_front rest → new_rules ≡ keys_in_front rest
      → now new_wholes new_rules (Row keys others height entries ∷ kept) ≡ rest
  behind-in-front true wholes is rules keys others height entries kept rest line comes new_wholes new_rules wholes_is rules_is =
      behind-keys-now rules keys others height entries kept rest line
      (subst (λ (es : List Element). RuleComes es line rest) (row-split true wholes is rules keys others height entries kept) comes)
      new_wholes new_rules wholes_is rules_is
  behind-in-front false wholes is rules keys others height entries kept rest line comes new_wholes new_rules wholes_is rules_is =
      let row = OneRow rules (row_at formats keys) (fields_of bytes (row_at formats keys) entries) in
      row-now new_wholes rules keys others height entries kept rest
      (rule-of (OneRule Single ∷ row ∷ boxed_from boxing true (elements_of bytes formats kept)) rest line
      (subst (λ (es : List Element). RuleComes es line rest) (row-split false wholes is rules keys others height entries kept) comes)).1
      new_rules wholes_is rules_is

  -- behind the last rule
  last-none : (t : Bool) (sign : RuleSign) (rest : List Element) (line : RuleLine) → RuleComes (if t then [] else OneRule sign ∷ []) line rest → [] ≡ rest
  last-none true sign rest line comes = absurd (rule-of [] rest line comes)
  last-none false sign rest line comes = sym (rule-of (OneRule sign ∷ []) rest line comes).1

  pub behind-last : (rest : List Element) (line : RuleLine) → RuleComes (frame_rules boxing) line rest → [] ≡ rest
  behind-last rest line comes = last-none (boxing.bars == 0) (frame_sign boxing.bars) rest line comes
