use Rattle.std.proofs.Common.{◌≡◌, ◌∙◌, ap, length, rules}
use Rattle.std.specs.List.{filter}
use Rattle.std.proofs.lemmas.List.Elements.{filter_from_retain}
use Rattle.roff_store.proofs.Slots.{entries_in-filter, length-filter_used}
use Rattle.roff_store.proofs.name_table.drop_unused.Goals as goal

pub returns-clause-entries : goal.returns-clause-entries
returns-clause-entries g c =
    let kept : c.retain.new.self.items ≡ filter (λ s. s.is_used) c.args.slots.now.items =
    filter_from_retain _ (λ s. s.is_used) (λ f s r next called. search rules) _ _ _ c.retain.ensures.filtered in
    rw kept (entries_in-filter c.args.slots.now.items)

pub returns-clause-len : goal.returns-clause-len
returns-clause-len g c =
    let kept : c.retain.new.self.items ≡ filter (λ s. s.is_used) c.args.slots.now.items =
    filter_from_retain _ (λ s. s.is_used) (λ f s r next called. search rules) _ _ _ c.retain.ensures.filtered in
    c.retain.new.self.ok.0 ∙ ap length kept ∙ length-filter_used c.args.slots.now.items
