use Rattle.std.proofs.Common.{◌≡◌, ℕ, List, slice_get, ap, refl, ◌∙◌}
use Rattle.std.specs.Option.{option_copied}
use Rattle.run_model.specs.Run.{known_at}
use Rattle.run_state.proofs.InForce.{settings-in_force}
use Rattle.read_obeying.specs.Acting.{texts_read}
use Rattle.read_obeying.proofs.acting.response_to.Goals as goal

pub returns : goal.returns
returns c = λ l h stands.
    let u = c.args.unread.now in
    let as_given : List (List ℕ) = texts_read u in
    let argument : (n : ℕ) → _ = λ n. ap (λ (texts : List (List ℕ)). slice_get texts n) c.arguments-arguments.ensures in
    let first : option_copied c.get.result ≡ slice_get as_given 0 = c.get.ensures ∙ argument 0 in
    c.response.ensures (known_at h c.args.lasting.now.all u.input) as_given
    (record {
      settings = settings-in_force l h c.args.composer.now stands;
      limits = l;
      history = h;
      stand = stands.environments;
      has_left = refl;
      pages = stands.pages;
      in_force = c.in_force_for.ensures l h as_given stands first;
    })
    (record { first = first; second = c.get-2.ensures ∙ argument 1; third = c.get-3.ensures ∙ argument 2 })
