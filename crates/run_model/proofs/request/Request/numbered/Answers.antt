use Rattle.std.proofs.Common.{◌≡◌, ◌<◌, ◌≤◌, List, [], ℕ, get_or, Some, ap, length, rules, sym, ◌∙◌}
use Rattle.run_model.specs.Requests.{built, names_left_out, names_without_effect}
use Rattle.run_model.specs.declared.request.Request.{Request}
use Rattle.run_model.specs.declared.request.Request.TheVariants.{Break, LeftOut, WithoutEffect}
use Rattle.run_model.proofs.NumberedRequests.{behind_built, behind_effectless, built_at, left_out_at, none_at, without_effect_at}
use Rattle.run_model.proofs.request.Request.numbered.Goals as goal

pub returns-in-Some : goal.returns-in-Some
returns-in-Some c =
    let less : c.args.number < length built = search rules in
    let request : c.in-Some.request.now ≡ get_or built c.args.number Break = search rules in
    ap (λ (request : Request). Some request) request ∙ sym (built_at c.args.number less)

pub returns-in_err-get-in-None : goal.returns-in_err-get-in-None
returns-in_err-get-in-None c =
    let above : length built ≤ c.args.number = search rules in
    let more : length names_without_effect ≤ behind_built c.args.number = search rules in
    let past : length names_left_out ≤ behind_effectless c.args.number = search rules in
    c.from_residual.ensures ∙ sym (none_at c.args.number above more past)

pub returns-in-Some-get : goal.returns-in-Some-get
returns-in-Some-get c =
    let above : length built ≤ c.args.number = search rules in
    let less : behind_built c.args.number < length names_without_effect = search rules in
    let name : c.in-Some-get.name.now ≡ get_or names_without_effect (behind_built c.args.number) [] = search rules in
    ap (λ (name : List ℕ). Some (WithoutEffect name)) name ∙ sym (without_effect_at c.args.number above less)

pub returns-in_ok-get-in-None : goal.returns-in_ok-get-in-None
returns-in_ok-get-in-None c =
    let above : length built ≤ c.args.number = search rules in
    let more : length names_without_effect ≤ behind_built c.args.number = search rules in
    let less : behind_effectless c.args.number < length names_left_out = search rules in
    let name : c.in_ok-get-in-None.field-0.now ≡ get_or names_left_out (behind_effectless c.args.number) [] = search rules in
    ap (λ (name : List ℕ). Some (LeftOut name)) name ∙ sym (left_out_at c.args.number above more less)
