use Rattle.std.proofs.Common.{◌≡◌, false, List, ℕ, Option, Some, None, ap, reverse, rules, subst, sym, ◌∙◌}
use Rattle.input_model.specs.Input.Calls.{arguments_given}
use Rattle.read_lines.specs.Reader.Taken.{TakesAs}
use Rattle.run_model.specs.Reading.Items.{PageUnread}
use Rattle.run_model.specs.Reading.Definitions.{definition_begun, definition_named}
use Rattle.roff_num.specs.ShortNames.{name_at, name_or_none}
use Rattle.roff_num.specs.declared.short_name.ShortName.{ShortName}
use Rattle.read_lines.proofs.BegunDefinitions.{TakesAs-behind_line, flatten-name}
use Rattle.read_lines.proofs.reader.Reader.begin_lines.Goals as goal

pub returns-in-Nobody-default : goal.returns-in-Nobody-default
returns-in-Nobody-default c = λ es.
    let old = c.args.self.now in
    let u = c.args.unread.now in
    let done = c.begin_definition in
    let given : List (List ℕ) = arguments_given u.input in
    let ends = ap (λ (v : PageUnread). reverse v.input.arguments.whole) c.finish_arguments.ensures.change in
    let first : c.short_name_at-first.result ≡ name_at 0 given = c.short_name_at-first.ensures ∙ ap (name_at 0) (c.arguments.ensures ∙ ends) in
    let end : c.flatten.result ≡ name_or_none (name_at 0 given) = c.flatten.ensures ∙ flatten-name c.short_name_at-first.result ∙ ap name_or_none first in
    rw c.in-Nobody-default.is-0
    (subst (λ (end : Option ShortName). TakesAs (λ k. definition_begun u.input None false end) es old done.new.self u done.new.unread done.result) end
    (TakesAs-behind_line None false c.flatten.result es old done.new.self u c.finish_arguments.new.self done.new.unread done.result
    c.finish_arguments.ensures.change (done.ensures es)))

pub returns-in-Macro-Some-Some : goal.returns-in-Macro-Some-Some
returns-in-Macro-Some-Some c = λ es.
    let old = c.args.self.now in
    let u = c.args.unread.now in
    let done = c.begin_definition-in-Macro-Some-Some in
    let appends = c.in-Macro-Some-Some.appends in
    let name = c.in-Macro-Some-Some.name in
    let given : List (List ℕ) = arguments_given u.input in
    let ends = ap (λ (v : PageUnread). reverse v.input.arguments.whole) c.finish_arguments.ensures.change in
    let first : c.short_name_at-first.result ≡ name_at 0 given = c.short_name_at-first.ensures ∙ ap (name_at 0) (c.arguments.ensures ∙ ends) in
    let named : c.short_name_at-first.result ≡ Some (Some name) = search rules in
    let second : c.short_name_at-second.result ≡ name_at 1 given = c.short_name_at-second.ensures ∙ ap (name_at 1) (c.arguments-2.ensures ∙ ends) in
    let flat = c.flatten-in-Macro-Some-Some in
    let end : flat.result ≡ name_or_none (name_at 1 given) = flat.ensures ∙ flatten-name c.short_name_at-second.result ∙ ap name_or_none second in
    rw c.in-Macro-Some-Some.is-0
    (subst (λ (first : Option (Option ShortName)).
    TakesAs (λ k. definition_named u.input appends first (name_or_none (name_at 1 given))) es old done.new.self u done.new.unread done.result) (sym named ∙ first)
    (subst (λ (end : Option ShortName). TakesAs (λ k. definition_begun u.input (Some name) appends end) es old done.new.self u done.new.unread done.result) end
    (TakesAs-behind_line (Some name) appends flat.result es old done.new.self u c.finish_arguments.new.self done.new.unread done.result
    c.finish_arguments.ensures.change (done.ensures es))))
