use Rattle.std.proofs.Common.{◌≡◌, ℕ, ◌+◌, ◌*◌, List, [], ◌∷◌, ◌++◌, length, replicate, refl, sym, ap, ◌∙◌, append_assoc, ◌==◌, if◌then◌else◌}
use Rattle.std.proofs.lemmas.List.{replicate-append-replicate}
use Rattle.page_model.specs.Columns.{spaces, spread, trimmed}
use Rattle.page_bytes.specs.LineBytes.Fronts.{without_blanks}
use Rattle.page_bytes.specs.LineBytes.Shares.{shared_out}
use Rattle.page_bytes.proofs.Blanks.{line_bytes_of_front}
use Rattle.page_bytes.proofs.SharedColumns.{spread-shares}
use Rattle.page_bytes.proofs.line_bytes.LineBytes.behind_columns.Goals as goal
use Rattle.page_bytes.proofs.line_bytes.LineBytes.behind_columns.Goals.{then-is_empty, else-is_empty}

-- a lead behind columns is one lead
one_lead : (columns lead after : ℕ) (text : List ℕ)
    → (trimmed (spaces columns ++ (spaces lead ++ text)) ++ 10 ∷ []) ++ replicate after 10
    ≡ trimmed (spaces (columns + lead) ++ text) ++ 10 ∷ replicate after 10
one_lead columns lead after text =
    let joined : spaces columns ++ (spaces lead ++ text) ≡ spaces (columns + lead) ++ text =
    sym (append_assoc (spaces columns) (spaces lead) text) ∙ ap (λ front. front ++ text) (replicate-append-replicate columns lead 32) in
    append_assoc (trimmed (spaces columns ++ (spaces lead ++ text))) (10 ∷ []) (replicate after 10)
    ∙ ap (λ bytes. trimmed bytes ++ 10 ∷ replicate after 10) joined

-- what a line writes behind columns, by the columns that were shared out
behind_shares : (columns lead spare gaps after blanks first second newlines : ℕ) (text front : List ℕ) (out : ℕ × ℕ × ℕ) → front ≡ without_blanks text
    → blanks ≡ (if length front == 0 then 0 else first + second) → first ≡ columns → second ≡ lead → out ≡ shared_out spare gaps → newlines ≡ after
    → spaces blanks ++ (spread (out.0 * out.2 + out.1) out.2 0 front ++ replicate (newlines + 1) 10)
    ≡ (trimmed (spaces columns ++ (spaces lead ++ spread spare gaps 0 text)) ++ 10 ∷ []) ++ replicate after 10
behind_shares columns lead spare gaps after blanks first second newlines text front out without led is_first is_second shared ends =
    rw (led, without, is_first, is_second, shared, ends, spread-shares spare gaps (without_blanks text))
    (sym (one_lead columns lead after (spread spare gaps 0 text) ∙ line_bytes_of_front (columns + lead) spare gaps after text))

pub returns : goal.returns
returns c =
    let line = c.args.line in
    let front : List ℕ = c.without_trailing_blanks-text.result.now in
    let led : c.if-is_empty.result ≡ (if length front == 0 then 0 else c.from.result + c.from-2.result) =
    elim c.if-is_empty.branch [
      | then-is_empty w ↦ w.result-is ∙ rw (← c.is_empty.ensures, w.if-is_empty.true) refl
      | else-is_empty w ↦ w.result-is ∙ rw (← c.is_empty.ensures, w.if-is_empty.false) refl
    ] in
    behind_shares c.args.columns line.lead line.spare line.gaps c.args.after c.if-is_empty.result c.from.result c.from-2.result c.from-3.result
    line.text.now front c.shares-each.result c.without_trailing_blanks-text.ensures led c.from.ensures c.from-2.ensures c.shares-each.ensures c.from-3.ensures
