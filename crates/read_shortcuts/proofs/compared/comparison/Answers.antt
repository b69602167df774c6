use Rattle.std.proofs.Common.{rules, ◌≡◌, ◌≤◌, true, List, ℕ, ap, subst, ◌∙◌, get_or, length, take}
use Rattle.std.proofs.Math.Seq.{take-length}
use Rattle.read_shortcuts.specs.Compared.{OfText, is_delimiter}
use Rattle.read_shortcuts.proofs.ComparedFronts.{compares-behind}
use Rattle.read_shortcuts.proofs.compared.comparison.Goals as goal

pub returns-else-text_len-text : goal.returns-else-text_len-text
returns-else-text_len-text c =
    let bytes = c.args.bytes.now in
    let many : 5 ≤ length bytes = search rules in
    let second : get_or bytes 1 0 ≡ 92 = search rules in
    let third : get_or bytes 2 0 ≡ 36 = search rules in
    let above : 49 ≤ get_or bytes 3 0 = search rules in
    let below : get_or bytes 3 0 ≤ 57 = search rules in
    let fifth : get_or bytes 4 0 ≡ get_or bytes 0 0 = search rules in
    let delimits : is_delimiter (get_or bytes 0 0) ≡ true = search rules in
    let text : List ℕ = c.argument-text.result.now in
    let all : c.text_len.result ≡ length text = search rules in
    let plain : OfText (get_or bytes 0 0) text =
    subst (λ (xs : List ℕ). OfText (get_or bytes 0 0) xs) (ap (λ (n : ℕ). take n text) all ∙ take-length text) c.text_len.ensures.are in
    compares-behind c.compared.result c.args.negated bytes c.args.unread.now text many second third above below fifth delimits (search rules) plain c.compared.ensures
