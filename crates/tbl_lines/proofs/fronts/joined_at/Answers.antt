use Rattle.std.proofs.Common.{◌≡◌, ℕ, suc, ◌+◌, None, get_or, refl, sym, ap, ◌∙◌, arith}
use Rattle.tbl_format.specs.Format.{FormatRow}
use Rattle.tbl_layout.specs.KeptEntries.{all_entries, no_entry}
use Rattle.tbl_layout.specs.declared.data_lines.RuleSign.{RuleSign}
use Rattle.tbl_layout.specs.declared.entry.Entry.{Entry}
use Rattle.tbl_layout.specs.declared.entry.EntryKind.{EntryKind}
use Rattle.tbl_layout.specs.declared.entry.EntryKind.TheVariants.{Above, Block, Repeated, Ruled, Short, Split, Text}
use Rattle.tbl_lines.specs.RowsLeft.{joined_kinds}
use Rattle.tbl_lines.proofs.FrontCells.{joined-at}
use Rattle.tbl_lines.proofs.fronts.joined_at.Goals as goal

pub returns-in-Ruled : goal.returns-in-Ruled
returns-in-Ruled c = λ bars.
    let at = c.args.at in
    let format : FormatRow = record { keys = c.args.keys.now; bars = bars } in
    let entries = all_entries format c.args.entries.now in
    let next : at + 1 ≡ suc at = omega arith in
    c.joined_with.ensures
    ∙ ap (λ (k : EntryKind). joined_kinds k c.entry_at-in-Ruled.result.kind) (sym c.in-Ruled.is)
    ∙ ap (λ (e : Entry). joined_kinds e.kind c.entry_at-in-Ruled.result.kind) (c.entry_at.ensures bars)
    ∙ ap (λ (e : Entry). joined_kinds (get_or entries at no_entry).kind e.kind) (c.entry_at-in-Ruled.ensures bars)
    ∙ ap (λ (n : ℕ). joined_kinds (get_or entries at no_entry).kind (get_or entries n no_entry).kind) next
    ∙ sym (joined-at at entries)

-- what isn't a rule is the same rule as none
not-joined : (kind next : EntryKind) → ((sign : RuleSign) → kind ≡ Ruled sign → ⊥) → None ≡ joined_kinds kind next
not-joined (Text glyphs width) next other = refl
not-joined (Split s) next other = refl
not-joined (Block b) next other = refl
not-joined (Ruled sign) next other = absurd (other sign refl)
not-joined Short next other = refl
not-joined (Repeated b) next other = refl
not-joined Above next other = refl

pub returns-in_default : goal.returns-in_default
returns-in_default c = λ bars.
    let at = c.args.at in
    let format : FormatRow = record { keys = c.args.keys.now; bars = bars } in
    let entries = all_entries format c.args.entries.now in
    let behind = get_or entries (suc at) no_entry in
    not-joined c.entry_at.result.kind behind.kind c.in_default.not-Ruled
    ∙ ap (λ (e : Entry). joined_kinds e.kind behind.kind) (c.entry_at.ensures bars)
    ∙ sym (joined-at at entries)
