use Rattle.std.proofs.Common.{◌≡◌, Some, rules, sym, ap, ◌∙◌}
use Rattle.input_model.specs.Shown.{SeesByte, sighted}
use Rattle.input_model.specs.declared.item.Sight.TheVariants.{Byte}
use Rattle.roff_scan.proofs.Asking.{looks_ahead}
use Rattle.roff_scan.proofs.unread.Unread.look_ahead.Goals as goal

pub returns-in-Some-Byte-clause-looks : goal.returns-in-Some-Byte-clause-looks
returns-in-Some-Byte-clause-looks g c =
    let byte = c.in-Some-Byte.byte in
    let is : c.in-Some-Byte.field-0 ≡ Byte byte = search rules in
    looks_ahead (g.S.ByteSource.gives c.args.source.now) _ _ c.self.view_is (SeesByte byte) (sym c.in-Some-Byte.ensures ∙ ap (λ s. Some (sighted s)) is)
