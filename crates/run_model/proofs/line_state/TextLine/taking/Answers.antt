use Rattle.std.proofs.Common.{◌≡◌, true, false, rules, ◌==◌, refl}
use Rattle.input_source.specs.Bytes.{is_silent}
use Rattle.run_model.proofs.line_state.TextLine.taking.Goals as goal

pub returns-then-byte-eq10-clause-means : goal.returns-then-byte-eq10-clause-means
returns-then-byte-eq10-clause-means c = λ i kept.
    let is_newline : (c.args.byte == 10) ≡ true = search rules in
    rw (is_newline, c.end.ensures.means kept) refl

pub returns-then-byte-eq9-clause-means : goal.returns-then-byte-eq9-clause-means
returns-then-byte-eq9-clause-means c = λ i kept.
    let not_newline : (c.args.byte == 10) ≡ false = search rules in
    let is_tab : (c.args.byte == 9) ≡ true = search rules in
    rw (not_newline, is_tab, c.behind_glyph.ensures) refl

pub returns-then-is_silent-clause-means : goal.returns-then-is_silent-clause-means
returns-then-is_silent-clause-means c = λ i kept.
    let not_newline : (c.args.byte == 10) ≡ false = search rules in
    let not_tab : (c.args.byte == 9) ≡ false = search rules in
    let silent : is_silent c.args.byte ≡ true = search rules in
    rw (not_newline, not_tab, silent, c.behind_other.ensures) refl

pub returns-then-byte-eq32-clause-means : goal.returns-then-byte-eq32-clause-means
returns-then-byte-eq32-clause-means c = λ i kept.
    let not_newline : (c.args.byte == 10) ≡ false = search rules in
    let not_tab : (c.args.byte == 9) ≡ false = search rules in
    let heard : is_silent c.args.byte ≡ false = search rules in
    let is_blank : (c.args.byte == 32) ≡ true = search rules in
    rw (not_newline, not_tab, heard, is_blank) (c.blank.ensures.means i kept)

pub returns-else-byte-eq32-clause-means : goal.returns-else-byte-eq32-clause-means
returns-else-byte-eq32-clause-means c = λ i kept.
    let not_newline : (c.args.byte == 10) ≡ false = search rules in
    let not_tab : (c.args.byte == 9) ≡ false = search rules in
    let heard : is_silent c.args.byte ≡ false = search rules in
    let not_blank : (c.args.byte == 32) ≡ false = search rules in
    rw (not_newline, not_tab, heard, not_blank, c.behind_glyph-else-byte-eq32.ensures) refl
