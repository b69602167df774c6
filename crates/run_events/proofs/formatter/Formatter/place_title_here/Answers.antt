use Rattle.std.proofs.Common.{◌∙◌, subst, sym, ◌<◌, ℕ, List, length}
use Rattle.page_bytes.specs.TitleParts.{HasNoBlank}
use Rattle.run_events.proofs.Titling.{title_here}
use Rattle.run_events.proofs.formatter.Formatter.place_title_here.Goals as goal

pub put_title-requires-clause-some : goal.put_title-requires-clause-some
put_title-requires-clause-some g c = subst (λ (bytes : List ℕ). 0 < length bytes) (sym c.as_slice.ensures.value) c.page_number-number.ensures.some

pub put_title-requires-clause-shown : goal.put_title-requires-clause-shown
put_title-requires-clause-shown g c = subst HasNoBlank (sym c.as_slice.ensures.value) c.page_number-number.ensures.shown

pub returns : goal.returns
returns g c =
    title_here c.args.which _ c.args.format c.as_slice.result.now _ _ _ _ _
    (λ L stands. c.as_slice.ensures.value ∙ c.page_number-number.ensures.number L stands) c.put_title.ensures.puts c.put_title.ensures.others
