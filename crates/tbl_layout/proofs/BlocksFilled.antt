-- The measures of blocks, and elements whose blocks have them.
use Rattle.std.proofs.Common.{◌≡◌, ℕ, suc, List, [], ◌∷◌, ◌++◌, length, drop, refl, sym, ap, ◌∙◌, arith}
use Rattle.std.specs.List.{AllByRecursion}
use Rattle.tbl_format.specs.Format.{FormatRow}
use Rattle.tbl_format.specs.declared.format.Asked.{Asked}
use Rattle.tbl_layout.specs.Entries.{Above, Block, Content, Repeated, Ruled, Short, Text, completed, content_of_kind}
use Rattle.tbl_layout.specs.RuleKeys.{under_keys}
use Rattle.tbl_layout.specs.Spans.{filled_fields, filled_in, measure_of}
use Rattle.tbl_layout.specs.declared.bars.Bars.{Bars}
use Rattle.tbl_layout.specs.declared.data_lines.FieldKind.{FieldKind}
use Rattle.tbl_layout.specs.declared.data_lines.FieldKind.TheVariants.{Above as AboveKind, Repeated as RepeatedKind, Ruled as RuledKind, Short as ShortKind, Text as OneText}
use Rattle.tbl_layout.proofs.RowStands.{all-under}

-- a block's measure is set anew
pub filled_in-twice : (measure other : ℕ) (field : Content) → filled_in measure (filled_in other field) ≡ filled_in measure field
filled_in-twice measure other (Text bytes) = refl
filled_in-twice measure other (Block m lines) = refl
filled_in-twice measure other (Ruled sign) = refl
filled_in-twice measure other Short = refl
filled_in-twice measure other (Repeated b) = refl
filled_in-twice measure other Above = refl

module _ (bars : Bars) (line_length : ℕ) where
  module _ (count : ℕ) where
    pub filled_fields-twice : (cells : List (List Asked)) (fields : List Content)
        → filled_fields bars line_length count cells (filled_fields bars line_length count cells fields) ≡ filled_fields bars line_length count cells fields
    filled_fields-twice [] fields = refl
    filled_fields-twice (asked ∷ cells) [] = refl
    filled_fields-twice (asked ∷ cells) (field ∷ fields) =
        let measure = measure_of bars line_length count asked in
        ap (λ (first : Content). first ∷ filled_fields bars line_length count cells (filled_fields bars line_length count cells fields)) (filled_in-twice measure measure field)
        ∙ ap (λ (rest : List Content). filled_in measure field ∷ rest) (filled_fields-twice cells fields)

    pub length-filled_fields : (cells : List (List Asked)) (fields : List Content)
        → length (filled_fields bars line_length count cells fields) ≡ length fields
    length-filled_fields [] fields = refl
    length-filled_fields (asked ∷ cells) [] = refl
    length-filled_fields (asked ∷ cells) (field ∷ fields) = ap (λ (n : ℕ). suc n) (length-filled_fields cells fields)

    -- fields that aren't blocks stay behind those of a row
    abbrev IsUnfilled : Content → Type 0
    IsUnfilled field = (measure : ℕ) → filled_in measure field ≡ field

    unfilled-said : (kind : FieldKind) → IsUnfilled (content_of_kind kind)
    unfilled-said (RuledKind sign) measure = refl
    unfilled-said ShortKind measure = refl
    unfilled-said (RepeatedKind b) measure = refl
    unfilled-said AboveKind measure = refl
    unfilled-said OneText measure = refl

    unfilled : (cells : List (List Asked)) (fields : List Content) → AllByRecursion IsUnfilled fields → filled_fields bars line_length count cells fields ≡ fields
    unfilled [] fields none = refl
    unfilled (asked ∷ cells) [] none = refl
    unfilled (asked ∷ cells) (field ∷ fields) none =
        ap (λ (first : Content). first ∷ filled_fields bars line_length count cells fields) (none.0 (measure_of bars line_length count asked))
        ∙ ap (λ (rest : List Content). field ∷ rest) (unfilled cells fields none.1)

    filled-behind : (cells : List (List Asked)) (fields more : List Content) → AllByRecursion IsUnfilled more
        → filled_fields bars line_length count cells (fields ++ more) ≡ filled_fields bars line_length count cells fields ++ more
    filled-behind [] fields more none = refl
    filled-behind (asked ∷ cells) [] more none = unfilled (asked ∷ cells) more none
    filled-behind (asked ∷ cells) (field ∷ fields) more none =
        ap (λ (rest : List Content). filled_in (measure_of bars line_length count asked) field ∷ rest) (filled-behind cells fields more none)

    -- a row is completed before or after its blocks get their measures
    pub filled-completed : (cells : List (List Asked)) (format : FormatRow) (fields : List Content)
        → filled_fields bars line_length count cells (completed format fields) ≡ completed format (filled_fields bars line_length count cells fields)
    filled-completed cells format fields =
        filled-behind cells fields (under_keys content_of_kind (Text []) (drop (length fields) format.keys))
        (all-under IsUnfilled content_of_kind (Text []) (drop (length fields) format.keys) unfilled-said (λ (measure : ℕ). refl))
        ∙ ap (λ (n : ℕ). filled_fields bars line_length count cells fields ++ under_keys content_of_kind (Text []) (drop n format.keys))
        (sym (length-filled_fields cells fields))
