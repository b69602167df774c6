use Rattle.std.proofs.Common.{◌+◌, ℕ, List, take, drop, arith}
use Rattle.roff_lines.specs.Env.Tells.{TellsOf}
use Rattle.roff_lines.proofs.Tells.{TellsFront-append}
use Rattle.roff_lines.proofs.TextFront.{EndsGlyphs-behind, TellsOf-append, most-front, quiet-front, stands-front}
use Rattle.roff_lines.proofs.TextRuns.{TellsFront-blank, TellsFront-same}
use Rattle.roff_lines.proofs.env.Env.words_front.Goals as goal

pub loop-next-preserved : goal.loop-next-preserved
loop-next-preserved c =
    let l = c.loop-next in
    let count : ℕ = c.args.count in
    let bytes : List ℕ = c.args.bytes.now in
    let text : List ℕ = take count bytes in
    let rest : List ℕ = drop l.told text in
    let next : ℕ = l.told + 1 in
    let blank = c.blank_in_front in
    let behind = c.text_in_front in
    let tells = c.loop-next-test.ensures in
    let one : TellsOf count bytes next c.args.self.now blank.new.self =
    TellsFront-append text rest (drop next text) c.args.self.now l.self blank.new.self l.invariant.told
    (TellsFront-blank rest (drop next text) l.self blank.new.self tells.1.0 tells.1.1) in
    record {
      few = omega (arith, behind.ensures.few, tells.0);
      told =
          TellsOf-append count next behind.result bytes c.split_at.result.1.now c.args.self.now blank.new.self behind.new.self c.split_at.ensures.back one
          behind.ensures.told;
      ends = EndsGlyphs-behind count next behind.result bytes c.split_at.result.1.now behind.new.self c.split_at.ensures.back behind.ensures.ends;
    }

pub returns-clause-quiet : goal.returns-clause-quiet
returns-clause-quiet c line_cap h s =
    let l = c.loop-next in
    quiet-front c.args.count l.told c.args.bytes.now c.args.self.now l.self c.requires.text l.invariant.few l.invariant.told line_cap h s

pub returns-clause-stands : goal.returns-clause-stands
returns-clause-stands c line_cap h s =
    let l = c.loop-next in
    let text : List ℕ = take c.args.count c.args.bytes.now in
    let new = c.blank_in_front.new.self in
    stands-front c.args.count l.told c.args.bytes.now c.args.self.now new c.requires.text l.invariant.few
    (TellsFront-same text (drop l.told text) c.args.self.now l.self new l.invariant.told c.loop-next-test.ensures.0) line_cap h s

pub returns-clause-most : goal.returns-clause-most
returns-clause-most c =
    let l = c.loop-next in
    most-front c.args.count l.told c.args.bytes.now c.args.self.now l.self c.requires.text l.invariant.few l.invariant.told c.requires.above l.invariant.ends
    c.loop-next-test.ensures.1
