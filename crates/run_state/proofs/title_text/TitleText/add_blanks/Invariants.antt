use Rattle.std.proofs.Common.{◌≡◌, replicate}
use Rattle.page_model.specs.Glyphs.{glyph_blank}
use Rattle.run_model.specs.TitleTexts.{with_bytes}
use Rattle.run_state.proofs.title_text.TitleText.add_blanks.Given as goal

abbrev pub invariant-loop : goal.invariant-loop
invariant-loop l = l.self ≡ record l.fn.self { text = with_bytes (replicate l.counter glyph_blank) l.fn.self.text }
