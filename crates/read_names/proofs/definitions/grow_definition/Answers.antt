use Rattle.std.proofs.Common.{◌≡◌, ℕ, List, ◌++◌, true, rules, subst, is_some}
use Rattle.input_escapes.specs.OpenEscape.{unit_bytes}
use Rattle.input_model.specs.Input.Names.{adding}
use Rattle.input_model.specs.Unread.{changing}
use Rattle.read_names.proofs.GrownTexts.{InputCameTo-defined}
use Rattle.read_names.proofs.definitions.grow_definition.Goals.{in-Byte, in-Kept}
use Rattle.read_names.proofs.definitions.grow_definition.Goals as goal

pub returns : goal.returns
returns c =
    let u = c.args.unread.now in
    let bytes : List ℕ = c.args.front.now ++ unit_bytes c.args.unit in
    let named : is_some c.args.name ≡ true = search rules in
    let text : c.deref.result.now ≡ bytes = elim c.match-unit.branch [ in-Byte w ↦ search rules | in-Kept w ↦ search rules ] in
    InputCameTo-defined c.args.name bytes u c.add.new.self c.add.result named
    (subst (λ (bytes : List ℕ). (c.add.result, c.add.new.self) ≡ changing (adding bytes u.input) u) text c.add.ensures.change)
