-- A field that is no text, as it is kept.
use Rattle.std.proofs.Common.{◌≡◌, ◌≢◌, ℕ, List, [], Some, refl}
use Rattle.tbl_data.specs.DataRead.{notes_by_kind}
use Rattle.tbl_format.specs.declared.format.Key.{Key}
use Rattle.tbl_format.specs.declared.format.Key.TheVariants.{Above as AboveKey, Alphabetic, Center, DoubleRule, Left, Numeric, Right, Rule, Spanned, WideNumeric}
use Rattle.tbl_layout.specs.Entries.{content_by_kind}
use Rattle.tbl_layout.specs.KeptEntries.{IsKeptBy, Lies, content_by, kept_kind}
use Rattle.tbl_layout.specs.RuleKeys.{kind_of_key}
use Rattle.tbl_layout.specs.declared.data_lines.FieldKind.{FieldKind}
use Rattle.tbl_layout.specs.declared.data_lines.FieldKind.TheVariants.{Above, Repeated, Ruled, Short, Text}
use Rattle.tbl_layout.specs.declared.entry.Entry.{Entry}

-- it is kept as what it is, by where it lies
pub other-content : (kind : FieldKind) → kind ≢ Text → (bytes : List ℕ) (from to : ℕ) (field : List ℕ)
    → content_by (kept_kind kind) bytes from to ≡ content_by_kind kind field
other-content Text other bytes from to field = absurd (other refl)
other-content (Ruled sign) other bytes from to field = refl
other-content Short other bytes from to field = refl
other-content (Repeated b) other bytes from to field = refl
other-content Above other bytes from to field = refl

pub other-lies : (kind : FieldKind) → kind ≢ Text → (bytes : List ℕ) (key : Key) (e : Entry) → Lies bytes e → IsKeptBy (kept_kind kind) bytes key e
other-lies Text other bytes key e lies = absurd (other refl)
other-lies (Ruled sign) other bytes key e lies = lies
other-lies Short other bytes key e lies = lies
other-lies (Repeated b) other bytes key e lies = lies
other-lies Above other bytes key e lies = lies

-- nothing is told of it
pub other-untold : (kind : FieldKind) → kind ≢ Text → (ends : List (ℕ × ℕ)) (n place : ℕ) (field : List ℕ) → [] ≡ notes_by_kind kind ends n place field
other-untold Text other ends n place field = absurd (other refl)
other-untold (Ruled sign) other ends n place field = refl
other-untold Short other ends n place field = refl
other-untold (Repeated b) other ends n place field = refl
other-untold Above other ends n place field = refl

-- no key says that its fields are texts
pub no-text-said : (key : Key) → kind_of_key key ≢ Some Text
no-text-said Rule is = absurd (cc)
no-text-said DoubleRule is = absurd (cc)
no-text-said AboveKey is = absurd (cc)
no-text-said Left is = absurd (cc)
no-text-said Right is = absurd (cc)
no-text-said Center is = absurd (cc)
no-text-said Numeric is = absurd (cc)
no-text-said WideNumeric is = absurd (cc)
no-text-said Alphabetic is = absurd (cc)
no-text-said Spanned is = absurd (cc)
