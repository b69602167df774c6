use Rattle.std.proofs.Common.{◌-◌, ◌∙◌, length, drop, take_all, reverse, ap, arith, length-drop}
use Rattle.input_escapes.proofs.EscapeTexts.{drop-held, held-rest}
use Rattle.input_escapes.proofs.open_escapes.OpenEscapes.text.Goals as goal

pub slice_bounds-result-count : goal.slice_bounds-result-count
slice_bounds-result-count c =
    let inside = c.self.inside in
    let begins = rw (← c.self.view_is) at c.requires in
    omega (arith, begins, ap length c.deref.ensures.value, held-rest (reverse inside.items.items) inside.texts.items c.self.invariant.joined)

pub slice_bounds-result-start : goal.slice_bounds-result-start
slice_bounds-result-start c =
    let inside = c.self.inside in
    let begins = rw (← c.self.view_is) at c.requires in
    omega (arith, begins, ap length c.deref.ensures.value, held-rest (reverse inside.items.items) inside.texts.items c.self.invariant.joined)

pub returns : goal.returns
returns c =
    let inside = c.self.inside in
    let block = inside.texts.items in
    let begins = rw (← c.self.view_is) at c.requires in
    let part = drop c.args.begin c.deref.result.now in
    rw (← c.self.view_is)
    (take_all (length c.deref.result.now - c.args.begin) part (omega (arith, length-drop c.args.begin c.deref.result.now))
    ∙ ap (drop c.args.begin) c.deref.ensures.value
    ∙ ap (λ n. drop n block) begins
    ∙ drop-held (reverse inside.items.items) block c.self.invariant.joined)
