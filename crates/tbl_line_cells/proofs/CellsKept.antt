-- What is left of a cell, as it is kept, behind a line, in the row below and beside the next one.
use Rattle.std.proofs.Common.{◌≡◌, ℕ, ◌+◌, ◌-◌, ◌<◌, ◌==◌, Bool, true, false, List, [], drop, refl, sym, ap, subst, ◌∙◌, arith, ne_eqb, drop-drop, if◌then◌else◌, Option, None, Some}
use Rattle.tbl_format.specs.declared.format.FormatKey.{FormatKey}
use Rattle.tbl_format.specs.declared.format.Key.{Key}
use Rattle.tbl_layout.specs.Entries.{Content, Text as TextField, is_number}
use Rattle.tbl_layout.specs.KeptEntries.{IsLaid, Lies, block_lines, content_by, no_entry, text_entry}
use Rattle.tbl_layout.specs.declared.data_lines.RuleSign.{RuleSign}
use Rattle.tbl_layout.specs.declared.entry.BlockEntry.{BlockEntry}
use Rattle.tbl_layout.specs.declared.entry.Entry.{Entry}
use Rattle.tbl_layout.specs.declared.entry.EntryKind.{EntryKind}
use Rattle.tbl_layout.specs.declared.entry.EntryKind.TheVariants.{Above, Block, Repeated, Ruled, Short, Split, Text}
use Rattle.tbl_lines.specs.CellsLeft.{Left, behind_line, gone_on, rest_by}
use Rattle.tbl_lines.specs.LinesLeft.{joined_here, rule_here, rule_of, same_sign}
use Rattle.tbl_lines.specs.RowsLeft.{block_text, joined_kinds}
use Rattle.tbl_line_cells.specs.KeptCells.{BlockGoesOn, GoesOnBy, IsLeft}
use Rattle.tbl_line_cells.specs.declared.cells.CellLeft.{CellLeft}
use Rattle.tbl_text.specs.BlockLines.{lines_of}
use Rattle.tbl_text.specs.BlockPlaces.{IsWithin, ReadsAll, parts_at}
use Rattle.tbl_text.specs.BlockWords.{parts_of}
use Rattle.tbl_text.specs.declared.block_parts.BlockPlace.{BlockPlace}
use Rattle.tbl_text.specs.declared.block_parts.BlockPlace.TheVariants.{AtEnd}

-- a cell of which nothing is left
abbrev pub nothing_left : CellLeft → CellLeft
nothing_left c = record c { entry = no_entry; lead = 0; place = AtEnd }

pub nothing-lies : (bytes : List ℕ) → Lies bytes no_entry
nothing-lies bytes = record { order = omega arith; within = omega arith }

empty-text : (t : Bool) → no_entry ≡ text_entry t 0 []
empty-text true = refl
empty-text false = refl

pub nothing-laid : (bytes : List ℕ) (key : Key) → IsLaid bytes key no_entry
nothing-laid bytes key = record { order = omega arith; within = omega arith; is = empty-text (is_number key) }

pub nothing-kept : (bytes : List ℕ) (c : CellLeft) (l : Left) → IsLeft bytes c l → c.lead ≡ 0 → l.gone ≡ 0
    → IsLeft bytes (nothing_left c) (record l { field = TextField [] })
nothing-kept bytes c l is here whole = record {
  key = is.key;
  field = refl;
  lead = sym here ∙ is.lead;
  rows = is.rows;
  used = is.used;
  stop = is.stop;
  cut = is.cut;
  lies = nothing-lies bytes;
  laid = nothing-laid bytes c.key.key;
  within = tt;
  place = whole;
}

-- what is left behind the line, by whether the field's next line stands on it
abbrev behind_by : Bool → Left → Left
behind_by is_here l = if is_here then rest_by l.field l else record l { lead = l.lead - 1 }

pub no-lead : (n : ℕ) → 0 < n → (n == 0) ≡ false
no-lead n more = ne_eqb n 0 (λ same. omega (arith, same, more))

-- a line less stands above the field's next one
pub behind-lead : (bytes : List ℕ) (c : CellLeft) (l : Left) → IsLeft bytes c l → 0 < c.lead
    → IsLeft bytes (record c { lead = c.lead - 1 }) (behind_line l)
behind-lead bytes c l is more =
    subst (λ (b : Bool). IsLeft bytes (record c { lead = c.lead - 1 }) (behind_by b l))
    (sym (no-lead l.lead (omega (arith, more, is.lead)))) (record {
      key = is.key;
      field = is.field;
      lead = ap (λ (n : ℕ). n - 1) is.lead;
      rows = is.rows;
      used = is.used;
      stop = is.stop;
      cut = is.cut;
      lies = is.lies;
      laid = is.laid;
      within = is.within;
      place = is.place;
    })

-- of a block a line less is left, where the place behind that line is known
goes-behind : (bytes : List ℕ) (e : Entry) (b : BlockEntry) (place next : BlockPlace) (gone : ℕ) → BlockGoesOn bytes e b place gone
    → IsWithin (block_text bytes e) next → (ReadsAll place → ReadsAll next)
    → lines_of b.measure (parts_at (block_text bytes e) next) ≡ drop 1 (lines_of b.measure (parts_at (block_text bytes e) place))
    → BlockGoesOn bytes e b next (gone + 1)
goes-behind bytes e b place next gone on within all lines =
    record {
      within = within;
      all = all on.all;
      lines = lines ∙ ap (drop 1) on.lines ∙ drop-drop 1 gone (lines_of b.measure (parts_of
          (block_lines bytes e.from e.to)));
    }

module _ (bytes : List ℕ) (c : CellLeft) (l : Left) (next : BlockPlace) (is : IsLeft bytes c l) (here : c.lead ≡ 0) where
  on-by : (kind : EntryKind) (b : BlockEntry) → kind ≡ Block b → GoesOnBy kind bytes c.entry c.place l.gone
      → IsWithin (block_text bytes c.entry) next → (ReadsAll c.place → ReadsAll next)
      → lines_of b.measure (parts_at (block_text bytes c.entry) next) ≡ drop 1 (lines_of b.measure (parts_at (block_text bytes c.entry) c.place))
      → GoesOnBy kind bytes c.entry next (l.gone + 1)
  on-by kind b block on within all lines =
      subst (λ (k : EntryKind). GoesOnBy k bytes c.entry next (l.gone + 1)) (sym block)
      (goes-behind bytes c.entry b c.place next l.gone (subst (λ (k : EntryKind). GoesOnBy k bytes c.entry c.place l.gone) block on) within all lines)

  block-behind : (b : BlockEntry) → c.entry.kind ≡ Block b → IsWithin (block_text bytes c.entry) next → (ReadsAll c.place → ReadsAll next)
      → lines_of b.measure (parts_at (block_text bytes c.entry) next) ≡ drop 1 (lines_of b.measure (parts_at (block_text bytes c.entry) c.place))
      → IsLeft bytes (record c { lead = 0; place = next }) (rest_by l.field l)
  block-behind b block within all lines =
      let field : content_by (Block b) bytes c.entry.from c.entry.to ≡ l.field
      = ap (λ (k : EntryKind). content_by k bytes c.entry.from c.entry.to) (sym block) ∙ is.field in
      subst (λ (f : Content). IsLeft bytes (record c { lead = 0; place = next }) (rest_by f l)) field (record {
        key = is.key;
        field = is.field;
        lead = sym here ∙ is.lead;
        rows = is.rows;
        used = is.used;
        stop = is.stop;
        cut = is.cut;
        lies = is.lies;
        laid = is.laid;
        within = within;
        place = on-by c.entry.kind b block is.place within all lines;
      })

  pub behind-block : (b : BlockEntry) → c.entry.kind ≡ Block b → IsWithin (block_text bytes c.entry) next → (ReadsAll c.place → ReadsAll next)
      → lines_of b.measure (parts_at (block_text bytes c.entry) next) ≡ drop 1 (lines_of b.measure (parts_at (block_text bytes c.entry) c.place))
      → IsLeft bytes (record c { lead = 0; place = next }) (behind_line l)
  behind-block b block within all lines =
      subst (λ (h : Bool). IsLeft bytes (record c { lead = 0; place = next }) (behind_by h l))
      (ap (λ (n : ℕ). n == 0) (sym here ∙ is.lead)) (block-behind b block within all lines)

-- and of any other field nothing
nothing-behind : (kind : EntryKind) (bytes : List ℕ) (c : CellLeft) (l : Left) → IsLeft bytes c l → c.lead ≡ 0 → ((b : BlockEntry)
    → kind ≡ Block b → ⊥)
    → GoesOnBy kind bytes c.entry c.place l.gone → IsLeft bytes (nothing_left c) (rest_by (content_by kind bytes c.entry.from c.entry.to) l)
nothing-behind (Block b) bytes c l is here other on = absurd (other b refl)
nothing-behind (Text glyphs width) bytes c l is here other on = nothing-kept bytes c l is here on
nothing-behind (Split s) bytes c l is here other on = nothing-kept bytes c l is here on
nothing-behind (Ruled sign) bytes c l is here other on = nothing-kept bytes c l is here on
nothing-behind Short bytes c l is here other on = nothing-kept bytes c l is here on
nothing-behind (Repeated b) bytes c l is here other on = nothing-kept bytes c l is here on
nothing-behind Above bytes c l is here other on = nothing-kept bytes c l is here on

pub behind-other : (bytes : List ℕ) (c : CellLeft) (l : Left) → IsLeft bytes c l → c.lead ≡ 0 → ((b : BlockEntry) → c.entry.kind ≡ Block b → ⊥)
    → IsLeft bytes (nothing_left c) (behind_line l)
behind-other bytes c l is here other =
    subst (λ (h : Bool). IsLeft bytes (nothing_left c) (behind_by h l)) (ap (λ (n : ℕ). n == 0) (sym here ∙ is.lead))
    (subst (λ (f : Content). IsLeft bytes (nothing_left c) (rest_by f l)) is.field
    (nothing-behind c.entry.kind bytes c l is here other is.place))

-- it goes on in the row below
pub gone-kept : (bytes : List ℕ) (c : CellLeft) (l : Left) (key : FormatKey) → IsLeft bytes c l
    → IsLeft bytes (record c { key = record key { key = c.key.key; has_no_width = c.key.has_no_width }; rows = c.rows + 1 }) (gone_on key l)
gone-kept bytes c l key is = record {
  key = ap (λ (k : FormatKey). record key { key = k.key; has_no_width = k.has_no_width }) is.key;
  field = is.field;
  lead = is.lead;
  rows = ap (λ (n : ℕ). n + 1) is.rows;
  used = is.used;
  stop = is.stop;
  cut = is.cut;
  lies = is.lies;
  laid = is.laid;
  within = is.within;
  place = is.place;
}

-- the rule that a cell shows
abbrev pub kept_rule : EntryKind → Option RuleSign
kept_rule (Ruled sign) = Some sign
kept_rule kind = None

rule-kept : (kind : EntryKind) (bytes : List ℕ) (from to : ℕ) → rule_of (content_by kind bytes from to) ≡ kept_rule kind
rule-kept (Text glyphs width) bytes from to = refl
rule-kept (Split s) bytes from to = refl
rule-kept (Block b) bytes from to = refl
rule-kept (Ruled sign) bytes from to = refl
rule-kept Short bytes from to = refl
rule-kept (Repeated b) bytes from to = refl
rule-kept Above bytes from to = refl

abbrev pub rule_if : Bool → Option RuleSign → Option RuleSign
rule_if is_here rule = if is_here then rule else None

pub rule-here : (bytes : List ℕ) (c : CellLeft) (l : Left) → IsLeft bytes c l → rule_here l ≡ rule_if (c.lead == 0) (kept_rule c.entry.kind)
rule-here bytes c l is =
    ap (λ (n : ℕ). rule_if (n == 0) (rule_of l.field)) (sym is.lead)
    ∙ ap (λ (f : Content). rule_if (c.lead == 0) (rule_of f)) (sym is.field)
    ∙ ap (rule_if (c.lead == 0)) (rule-kept c.entry.kind bytes c.entry.from c.entry.to)

ruled-joined : (sign : RuleSign) (other : EntryKind) → same_sign (Some sign) (kept_rule other) ≡ joined_kinds (Ruled sign) other
ruled-joined sign (Text glyphs width) = refl
ruled-joined sign (Split s) = refl
ruled-joined sign (Block b) = refl
ruled-joined sign (Ruled other) = refl
ruled-joined sign Short = refl
ruled-joined sign (Repeated b) = refl
ruled-joined sign Above = refl

kinds-joined : (kind other : EntryKind) → same_sign (kept_rule kind) (kept_rule other) ≡ joined_kinds kind other
kinds-joined (Text glyphs width) other = refl
kinds-joined (Split s) other = refl
kinds-joined (Block b) other = refl
kinds-joined (Ruled sign) other = ruled-joined sign other
kinds-joined Short other = refl
kinds-joined (Repeated b) other = refl
kinds-joined Above other = refl

none-joined : (rule : Option RuleSign) → same_sign rule None ≡ None
none-joined None = refl
none-joined (Some sign) = refl

-- two cells beside each other show the same rule, or not: neither does where a line stands above its field
module _ (bytes : List ℕ) (c d : CellLeft) (l m : Left) (is : IsLeft bytes c l) (next : IsLeft bytes d m) where
  joined-by : joined_here l m ≡ same_sign (rule_if (c.lead == 0) (kept_rule c.entry.kind)) (rule_if (d.lead == 0) (kept_rule d.entry.kind))
  joined-by =
      ap (λ (r : Option RuleSign). same_sign r (rule_here m)) (rule-here bytes c l is)
      ∙ ap (same_sign (rule_if (c.lead == 0) (kept_rule c.entry.kind))) (rule-here bytes d m next)

  pub joined-behind : 0 < c.lead → joined_here l m ≡ None
  joined-behind more =
      joined-by ∙ ap (λ (b : Bool). same_sign (rule_if b (kept_rule c.entry.kind)) (rule_if (d.lead == 0) (kept_rule d.entry.kind)))
      (no-lead c.lead more)

  pub joined-before : 0 < d.lead → joined_here l m ≡ None
  joined-before more =
      joined-by ∙ ap (λ (b : Bool). same_sign (rule_if (c.lead == 0) (kept_rule c.entry.kind)) (rule_if b (kept_rule d.entry.kind)))
      (no-lead d.lead more) ∙ none-joined (rule_if (c.lead == 0) (kept_rule c.entry.kind))

  pub joined-kept : c.lead ≡ 0 → d.lead ≡ 0 → joined_here l m ≡ joined_kinds c.entry.kind d.entry.kind
  joined-kept here there =
      joined-by
      ∙ ap (λ (n : ℕ). same_sign (rule_if (n == 0) (kept_rule c.entry.kind)) (rule_if (d.lead == 0) (kept_rule d.entry.kind))) here
      ∙ ap (λ (n : ℕ). same_sign (kept_rule c.entry.kind) (rule_if (n == 0) (kept_rule d.entry.kind))) there
      ∙ kinds-joined c.entry.kind d.entry.kind

-- what is no rule is joined with none
pub no-ruled : (kind next : EntryKind) → ((sign : RuleSign) → kind ≡ Ruled sign → ⊥) → joined_kinds kind next ≡ None
no-ruled (Ruled sign) next other = absurd (other sign refl)
no-ruled (Text glyphs width) next other = refl
no-ruled (Split s) next other = refl
no-ruled (Block b) next other = refl
no-ruled Short next other = refl
no-ruled (Repeated b) next other = refl
no-ruled Above next other = refl
