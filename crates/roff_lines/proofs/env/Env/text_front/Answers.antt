use Rattle.std.proofs.Common.{◌≡◌, ◌+◌, None, rules, sym, take, ◌∙◌}
use Rattle.roff_lines.specs.Env.Kept.{Kept}
use Rattle.roff_lines.proofs.TextTold.{most-field, most-unfielded, quiet-unfielded, stands-unfielded}
use Rattle.roff_lines.proofs.env.Env.text_front.Goals as goal

pub returns-then-is_in_field-clause-quiet : goal.returns-then-is_in_field-clause-quiet
returns-then-is_in_field-clause-quiet c line_cap h s = c.field_front.ensures.told.quiet line_cap h s

pub returns-then-is_in_field-clause-stands : goal.returns-then-is_in_field-clause-stands
returns-then-is_in_field-clause-stands c line_cap h s = c.field_front.ensures.told.stands line_cap h s

pub returns-then-is_in_field-clause-most : goal.returns-then-is_in_field-clause-most
returns-then-is_in_field-clause-most c line_cap h s less quiet =
    let front = c.field_front in (
      sym (c.is_in_field.ensures.«open» line_cap h s) ∙ c.if-is_in_field.true,
      most-field c.args.count front.result c.args.bytes.now c.args.self.now front.new.self c.requires.text less front.ensures.told front.ensures.ends
          line_cap h s quiet,
    )

pub returns-clause-quiet : goal.returns-clause-quiet
returns-clause-quiet c line_cap h s =
    let old : Kept = c.args.self.now in
    let none : old.field ≡ None = search rules in
    quiet-unfielded line_cap h old none s (take c.words_front.result c.args.bytes.now) (λ p plain. c.words_front.ensures.quiet line_cap p plain)

pub returns-clause-stands : goal.returns-clause-stands
returns-clause-stands c line_cap h s =
    let old : Kept = c.args.self.now in
    let none : old.field ≡ None = search rules in
    stands-unfielded line_cap h old none s (take c.words_front.result c.args.bytes.now) c.words_front.new.self
    (λ p plain. c.words_front.ensures.stands line_cap p plain)

pub returns-clause-most : goal.returns-clause-most
returns-clause-most c line_cap h s less quiet =
    let old : Kept = c.args.self.now in
    let none : old.field ≡ None = search rules in
    absurd (most-unfielded line_cap h old none s (take (c.words_front.result + 1) c.args.bytes.now)
    (λ p plain told. c.words_front.ensures.most line_cap p plain less told) quiet)
