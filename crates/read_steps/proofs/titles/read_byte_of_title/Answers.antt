use Rattle.std.proofs.Common.{◌∙◌, ℕ, [], ◌∷◌, refl, sym, ap, subst}
use Rattle.std.specs.Option.{option_to_list}
use Rattle.run_model.specs.Reading.Titles.{bytes_for, part_taking, title_byte}
use Rattle.read_lines.specs.Reader.Taken.{TakesAs}
use Rattle.read_lines.proofs.Strings.{other}
use Rattle.read_lines.proofs.TakesAs.{TakesAs-as}
use Rattle.read_steps.proofs.TitleTakings.{TakesAs-for_byte}
use Rattle.read_steps.proofs.titles.read_byte_of_title.Goals as goal

pub returns-then-byte-eq10 : goal.returns-then-byte-eq10
returns-then-byte-eq10 c =
    let u = c.args.unread.now in
    let done = c.obey in
    subst (λ (b : ℕ). TakesAs (λ k. title_byte k u.input c.args.delimiter b) c.args.composer.now c.args.reader.now done.new.reader u done.new.unread done.result)
    (sym c.if-byte-eq10.true) done.ensures

pub returns-in-Some : goal.returns-in-Some
returns-in-Some c =
    let es = c.args.composer.now in
    let old = c.args.reader.now in
    let u = c.args.unread.now in
    let b = c.args.byte in
    let done = c.put_in_title in
    let no_newline = other b 10 c.if-byte-eq10.false in
    TakesAs-as (λ k. part_taking u.input c.args.delimiter (bytes_for k b)) (λ k. title_byte k u.input c.args.delimiter b) es old done.new.reader u u done.result
    (λ k. rw no_newline refl)
    (TakesAs-for_byte (part_taking u.input c.args.delimiter) (c.in-Some.byte ∷ []) b es old done.new.reader u done.result
    (λ k is. ap option_to_list (sym c.in-Some.is) ∙ c.byte_for.ensures k is) (done.ensures es u))

pub returns-in-None : goal.returns-in-None
returns-in-None c =
    let es = c.args.composer.now in
    let old = c.args.reader.now in
    let u = c.args.unread.now in
    let b = c.args.byte in
    let done = c.put_in_title-in-None in
    let no_newline = other b 10 c.if-byte-eq10.false in
    TakesAs-as (λ k. part_taking u.input c.args.delimiter (bytes_for k b)) (λ k. title_byte k u.input c.args.delimiter b) es old done.new.reader u u done.result
    (λ k. rw no_newline refl)
    (TakesAs-for_byte (part_taking u.input c.args.delimiter) [] b es old done.new.reader u done.result
    (λ k is. ap option_to_list (sym c.in-None.is) ∙ c.byte_for.ensures k is) (done.ensures es u))
