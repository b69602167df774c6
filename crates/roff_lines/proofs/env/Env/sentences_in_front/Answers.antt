use Rattle.std.proofs.Common.{◌+◌, ℕ, List, take, drop, arith}
use Rattle.roff_lines.specs.Env.Tells.{TellsOf}
use Rattle.roff_lines.proofs.Tells.{TellsFront-append}
use Rattle.roff_lines.proofs.TextFront.{TellsOf-append}
use Rattle.roff_lines.proofs.TextRuns.{TellsFront-blank, TellsFront-same}
use Rattle.roff_lines.proofs.env.Env.sentences_in_front.Goals as goal

pub returns-then-not-blank_behind_words-clause-told : goal.returns-then-not-blank_behind_words-clause-told
returns-then-not-blank_behind_words-clause-told c =
    let l = c.loop-count in
    let count : ℕ = c.args.count in
    let bytes : List ℕ = c.args.bytes.now in
    let words = c.words_in_front-told in
    let place : ℕ = l.told + words.result in
    let told : TellsOf count bytes place c.args.self.now words.new.self =
    TellsOf-append count l.told words.result bytes c.split_at.result.1.now c.args.self.now l.self words.new.self c.split_at.ensures.back
    l.invariant.told words.ensures.told in
    TellsFront-same (take count bytes) (drop place (take count bytes)) c.args.self.now words.new.self c.blank_behind_words.new.self told
    c.if-not-blank_behind_words.ensures

pub loop-count-preserved : goal.loop-count-preserved
loop-count-preserved c =
    let l = c.loop-count in
    let count : ℕ = c.args.count in
    let bytes : List ℕ = c.args.bytes.now in
    let text : List ℕ = take count bytes in
    let words = c.words_in_front-told in
    let blank = c.blank_behind_words in
    let place : ℕ = l.told + words.result in
    let tells = c.if-not-blank_behind_words.ensures in
    let told : TellsOf count bytes place c.args.self.now words.new.self =
    TellsOf-append count l.told words.result bytes c.split_at.result.1.now c.args.self.now l.self words.new.self c.split_at.ensures.back
    l.invariant.told words.ensures.told in
    record {
      few = omega (arith, tells.0);
      told =
          TellsFront-append text (drop place text) (drop (place + 1) text) c.args.self.now words.new.self blank.new.self told
          (TellsFront-blank (drop place text) (drop (place + 1) text) words.new.self blank.new.self tells.1.0 tells.1.1);
    }
