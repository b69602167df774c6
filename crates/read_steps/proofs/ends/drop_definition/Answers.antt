use Rattle.std.proofs.Common.{◌≡◌, ◌∙◌, None, ap, subst, sym}
use Rattle.input_model.specs.Unread.{input_refusal}
use Rattle.run_model.specs.Reading.Items.{PageInput, PageUnread}
use Rattle.run_model.specs.declared.line_state.LineState.TheVariants.{LineStart}
use Rattle.run_model.proofs.InputCounts.{IsWithin-allowed}
use Rattle.read_lines.specs.Reader.State.{ReaderState}
use Rattle.read_steps.proofs.EndedDefinitions.{TakesAs-cut, definition_dropped-none, definition_dropped-some}
use Rattle.read_steps.proofs.ends.drop_definition.Goals.{then-is_some, else-is_some}
use Rattle.read_steps.proofs.ends.drop_definition.Goals as goal

pub returns : goal.returns
returns c = λ es.
    let u = c.args.unread.now in
    let name = c.args.name in
    let done = c.report in
    let came = done.ensures.others ∙ ap (λ (s : ReaderState). record s { reading = LineStart; meaning = done.new.self.meaning }) c.reader.view_is in
    elim c.if-is_some.branch [
      | then-is_some w ↦
          let dropped = definition_dropped-some name u.input (sym c.is_some.ensures ∙ w.if-is_some.true) in
          let allowed = subst (λ (v : PageUnread). input_refusal v.limits v.input ≡ None) w.drop_text.ensures.change (IsWithin-allowed w.drop_text.new.self w.stays_within.ensures) in
          TakesAs-cut name es c.args.reader.now done.new.self u c.if-is_some.unread done.result
          (w.unread-is ∙ w.drop_text.ensures.change ∙ ap (λ (i : PageInput). record u { input = i }) (sym dropped))
          (λ none. ap (input_refusal u.limits) dropped ∙ allowed) came done.ensures.says done.ensures.none
      | else-is_some w ↦
          let kept = definition_dropped-none name u.input (sym c.is_some.ensures ∙ w.if-is_some.false) in
          TakesAs-cut name es c.args.reader.now done.new.self u c.if-is_some.unread done.result
          (w.unread-is ∙ ap (λ (i : PageInput). record u { input = i }) (sym kept))
          (λ none. ap (input_refusal u.limits) kept ∙ none) came done.ensures.says done.ensures.none
    ]
