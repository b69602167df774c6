use Rattle.roff_lines.proofs.TextFront.{EndsGlyphs-behind, TellsOf-append}
use Rattle.roff_lines.proofs.env.Env.words_and_glyphs.Goals as goal

pub returns-clause-told : goal.returns-clause-told
returns-clause-told c =
    let words = c.sentences_in_front-words in
    let glyphs = c.glyphs_in_front in
    TellsOf-append c.args.count words.result glyphs.result c.args.bytes.now c.split_at.result.1.now c.args.self.now words.new.self glyphs.new.self
    c.split_at.ensures.back words.ensures.told glyphs.ensures.told

pub returns-clause-ends : goal.returns-clause-ends
returns-clause-ends c =
    let words = c.sentences_in_front-words in
    let glyphs = c.glyphs_in_front in
    EndsGlyphs-behind c.args.count words.result glyphs.result c.args.bytes.now c.split_at.result.1.now glyphs.new.self c.split_at.ensures.back glyphs.ensures.ends
