use Rattle.std.proofs.Common.{◌≡◌, List, [], ℕ, rules, subst, option_map}
use Rattle.input_model.specs.Input.Names.{calling}
use Rattle.input_model.specs.Unread.{changing}
use Rattle.roff_store.specs.Named.{entry_of}
use Rattle.roff_store.specs.TextCalls.{Set}
use Rattle.roff_store.specs.Texts.{Body, kind_given, kind_of}
use Rattle.read_names.proofs.GrownTexts.{InputCameTo-fresh, InputCameTo-new}
use Rattle.read_names.proofs.texts.empty_string.Goals.{in_default-via-in-Some-Body+else-appends, in_default-via-in-Some+in_default, in_default-via-in_default}
use Rattle.read_names.proofs.texts.empty_string.Goals as goal

pub returns-in_default : goal.returns-in_default
returns-in_default c =
    let u = c.args.unread.now in
    let name = c.args.name in
    let same = c.name-name.ensures in
    let changes = subst (λ (bytes : List ℕ). (c.set.result, c.set.new.self) ≡ changing (calling (Set bytes (Body [])) u.input) u) same c.set.ensures.change in
    let known = subst (λ (bytes : List ℕ). option_map kind_given c.get.result ≡ option_map kind_of (entry_of bytes u.input.names)) same c.get.ensures in
    elim c.in_default.branch [
      | in_default-via-in-Some-Body+else-appends w ↦ InputCameTo-fresh name c.args.appends u c.set.new.self c.set.result (search rules) changes
      | in_default-via-in-Some+in_default w ↦ InputCameTo-new name c.args.appends c.get.result u c.set.new.self c.set.result known (λ count is. search rules) changes
      | in_default-via-in_default w ↦ InputCameTo-new name c.args.appends c.get.result u c.set.new.self c.set.result known (λ count is. search rules) changes
    ]
