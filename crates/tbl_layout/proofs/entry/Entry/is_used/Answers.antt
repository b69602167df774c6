use Rattle.std.proofs.Common.{subst, sym, ap, ◌∙◌}
use Rattle.tbl_layout.specs.KeptEntries.{IsLaidBy, content_by}
use Rattle.tbl_layout.specs.Entries.{is_entry}
use Rattle.tbl_layout.specs.declared.entry.EntryKind.{EntryKind}
use Rattle.tbl_layout.proofs.UsedEntries.{used-laid}
use Rattle.tbl_layout.proofs.entry.Entry.is_used.Goals as goal

pub returns-in-Text : goal.returns-in-Text
returns-in-Text c = λ bytes key laid.
    let e = c.args.self in
    used-laid _ bytes key e (sym c.in-Text.is) (subst (λ (kind : EntryKind). IsLaidBy kind bytes key e) c.in-Text.is laid)
    ∙ ap (λ (kind : EntryKind). is_entry (content_by kind bytes e.from e.to)) (sym c.in-Text.is)

pub returns-in-Split : goal.returns-in-Split
returns-in-Split c = λ bytes key laid.
    let e = c.args.self in
    used-laid _ bytes key e (sym c.in-Split.is) (subst (λ (kind : EntryKind). IsLaidBy kind bytes key e) c.in-Split.is laid)
    ∙ ap (λ (kind : EntryKind). is_entry (content_by kind bytes e.from e.to)) (sym c.in-Split.is)

pub returns-in-Block : goal.returns-in-Block
returns-in-Block c = λ bytes key laid.
    let e = c.args.self in
    used-laid _ bytes key e (sym c.in-Block.is) (subst (λ (kind : EntryKind). IsLaidBy kind bytes key e) c.in-Block.is laid)
    ∙ ap (λ (kind : EntryKind). is_entry (content_by kind bytes e.from e.to)) (sym c.in-Block.is)

pub returns-in-Ruled : goal.returns-in-Ruled
returns-in-Ruled c = λ bytes key laid.
    let e = c.args.self in
    used-laid _ bytes key e (sym c.in-Ruled.is) (subst (λ (kind : EntryKind). IsLaidBy kind bytes key e) c.in-Ruled.is laid)
    ∙ ap (λ (kind : EntryKind). is_entry (content_by kind bytes e.from e.to)) (sym c.in-Ruled.is)

pub returns-in-Short : goal.returns-in-Short
returns-in-Short c = λ bytes key laid.
    let e = c.args.self in
    used-laid _ bytes key e (sym c.in-Short.is) (subst (λ (kind : EntryKind). IsLaidBy kind bytes key e) c.in-Short.is laid)
    ∙ ap (λ (kind : EntryKind). is_entry (content_by kind bytes e.from e.to)) (sym c.in-Short.is)

pub returns-in-Repeated : goal.returns-in-Repeated
returns-in-Repeated c = λ bytes key laid.
    let e = c.args.self in
    used-laid _ bytes key e (sym c.in-Repeated.is) (subst (λ (kind : EntryKind). IsLaidBy kind bytes key e) c.in-Repeated.is laid)
    ∙ ap (λ (kind : EntryKind). is_entry (content_by kind bytes e.from e.to)) (sym c.in-Repeated.is)

pub returns-in-Above : goal.returns-in-Above
returns-in-Above c = λ bytes key laid.
    let e = c.args.self in
    used-laid _ bytes key e (sym c.in-Above.is) (subst (λ (kind : EntryKind). IsLaidBy kind bytes key e) c.in-Above.is laid)
    ∙ ap (λ (kind : EntryKind). is_entry (content_by kind bytes e.from e.to)) (sym c.in-Above.is)
