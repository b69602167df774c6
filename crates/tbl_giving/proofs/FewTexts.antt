-- No more texts stand in a table than it has fields: keys for which a row has none add no text.
use Rattle.std.proofs.Common.{◌≡◌, ℕ, ◌+◌, ◌≤◌, List, [], ◌∷◌, ◌++◌, drop, length, map, refl, arith, Option, None, Some}
use Rattle.tbl_format.specs.Format.{FormatRow}
use Rattle.tbl_format.specs.RowsServed.{row_at}
use Rattle.tbl_format.specs.declared.format.FormatKey.{FormatKey}
use Rattle.tbl_kept.specs.Rows.{Command, KeptElement, Row, Rule, elements_of, entries_in}
use Rattle.tbl_layout.specs.Entries.{Above, Block, Content, Repeated, Ruled, Short, Text, content_of_kind}
use Rattle.tbl_layout.specs.KeptEntries.{content_of}
use Rattle.tbl_layout.specs.RuleKeys.{in_front_of, kind_of_key, under_keys}
use Rattle.tbl_layout.specs.Texts.{is_text, texts_among, texts_of}
use Rattle.tbl_layout.specs.declared.data_lines.FieldKind.{FieldKind}
use Rattle.tbl_layout.specs.declared.data_lines.FieldKind.TheVariants.{Above as AboveKind, Repeated as RepeatedKind, Ruled as RuledKind, Short as ShortKind, Text as TextKind}
use Rattle.tbl_layout.specs.declared.entry.Entry.{Entry}

text-one : (field : Content) → is_text field ≤ 1
text-one (Text []) = omega arith
text-one (Text (b ∷ bytes)) = omega arith
text-one (Block measure lines) = omega arith
text-one (Ruled sign) = omega arith
text-one Short = omega arith
text-one (Repeated b) = omega arith
text-one Above = omega arith

texts-append : (fields others : List Content) → texts_among (fields ++ others) ≡ texts_among fields + texts_among others
texts-append [] others = omega arith
texts-append (field ∷ fields) others = omega (arith, texts-append fields others)

texts-each : (bytes : List ℕ) (entries : List Entry) → texts_among (map (content_of bytes) entries) ≤ length entries
texts-each bytes [] = omega arith
texts-each bytes (e ∷ entries) = omega (arith, text-one (content_of bytes e), texts-each bytes entries)

-- what stands under keys alone is no text
kind-none : (kind : FieldKind) → is_text (content_of_kind kind) ≡ 0
kind-none TextKind = refl
kind-none (RuledKind sign) = refl
kind-none ShortKind = refl
kind-none (RepeatedKind b) = refl
kind-none AboveKind = refl

front-none : (said : Option FieldKind) (fields : List Content) → texts_among fields ≡ 0
    → texts_among (in_front_of content_of_kind (Text []) said fields) ≡ 0
front-none (Some kind) fields none = omega (arith, kind-none kind, none)
front-none None [] none = none
front-none None (field ∷ fields) none = omega (arith, none)

under-none : (keys : List FormatKey) → texts_among (under_keys content_of_kind (Text []) keys) ≡ 0
under-none [] = refl
under-none (k ∷ keys) = front-none (kind_of_key k.key) (under_keys content_of_kind (Text []) keys) (under-none keys)

pub texts-few : (bytes : List ℕ) (formats : List FormatRow) (elements : List KeptElement)
    → texts_of (elements_of bytes formats elements) ≤ entries_in elements
texts-few bytes formats [] = omega arith
texts-few bytes formats (Row keys rules height entries ∷ elements) =
    let fields = map (content_of bytes) entries in
    let behind = drop (length fields) (row_at formats keys).keys in
    omega (
      arith,
      texts-append fields (under_keys content_of_kind (Text []) behind),
      under-none behind,
      texts-each bytes entries,
      texts-few bytes formats elements,
    )
texts-few bytes formats (Rule sign ∷ elements) = omega (arith, texts-few bytes formats elements)
texts-few bytes formats (Command from to ∷ elements) = omega (arith, texts-few bytes formats elements)
