use Rattle.std.proofs.Common.{◌≤◌, ◌<◌, ◌∷◌, ◌∙◌, refl, sym, ap, subst, arith, option_map}
use Rattle.page_model.specs.declared.event.Event.TheVariants.{FieldEnd, Tab}
use Rattle.page_model.specs.Fields.{tab_reached, told_plainly}
use Rattle.page_model.specs.Behind.{pending_length}
use Rattle.roff_lines.specs.Env.Kept.{Kept, length_ended}
use Rattle.roff_lines.specs.Env.Stands.{StandsPlain}
use Rattle.roff_lines.specs.Shape.Shaped.{shaped}
use Rattle.roff_lines.proofs.TabEnds.{finished_at_tab-stands}
use Rattle.roff_lines.proofs.TabsTold.{Stands-tab_reached, limit-field_end, no_error, not_reached}
use Rattle.roff_lines.proofs.env.Env.tab_told.Goals as goal

pub returns-in-Ok-move_to_stop-clause-stands : goal.returns-in-Ok-move_to_stop-clause-stands
returns-in-Ok-move_to_stop-clause-stands c = λ line_cap h s.
    let old : Kept = c.args.self.now in
    let room : length_ended old ≤ old.cap = no_error c.in-Ok.ensures.limit refl in
    c.in-Ok-move_to_stop.ensures.stands line_cap (tab_reached (told_plainly h))
    (subst (StandsPlain line_cap (tab_reached (told_plainly h))) (sym c.in-Ok.ensures.kept) (Stands-tab_reached line_cap h old s room))

pub returns-in-Ok-move_to_stop-clause-line : goal.returns-in-Ok-move_to_stop-clause-line
returns-in-Ok-move_to_stop-clause-line c = λ line_cap h s.
    ap (λ text. option_map (λ s. shaped s text) c.in-Ok.shape) c.in-Ok-move_to_stop.ensures.finished ∙ c.in-Ok.ensures.line
    ∙ finished_at_tab-stands line_cap h c.args.self.now s

pub returns-in-Ok-move_to_stop-clause-limit : goal.returns-in-Ok-move_to_stop-clause-limit
returns-in-Ok-move_to_stop-clause-limit c = λ line_cap h s.
    let old : Kept = c.args.self.now in
    let room : length_ended old ≤ old.cap = no_error c.in-Ok.ensures.limit refl in
    let before = subst (StandsPlain line_cap (tab_reached (told_plainly h))) (sym c.in-Ok.ensures.kept) (Stands-tab_reached line_cap h old s room) in
    let first : line_cap < pending_length (FieldEnd ∷ h) → ⊥ =
    λ over. let wrong = c.in-Ok.ensures.limit.1 ((limit-field_end line_cap h old s).1 over) in cc in
    let second : line_cap < pending_length (Tab ∷ h) → ⊥ =
    λ over. let wrong = (c.in-Ok-move_to_stop.ensures.limit line_cap (tab_reached (told_plainly h)) before).1 over in cc in
    (λ wrong. cc, λ over. absurd (not_reached line_cap (pending_length (FieldEnd ∷ h)) (pending_length (Tab ∷ h)) first second over))

pub returns-in-Err-move_to_stop-clause-limit : goal.returns-in-Err-move_to_stop-clause-limit
returns-in-Err-move_to_stop-clause-limit c = λ line_cap h s.
    let old : Kept = c.args.self.now in
    let room : length_ended old ≤ old.cap = no_error c.in-Ok.ensures.limit refl in
    let before = subst (StandsPlain line_cap (tab_reached (told_plainly h))) (sym c.in-Ok.ensures.kept) (Stands-tab_reached line_cap h old s room) in
    let over : line_cap < pending_length (Tab ∷ h) = (c.in-Err-move_to_stop.ensures.limit line_cap (tab_reached (told_plainly h)) before).0 refl in
    (λ failed. omega (arith, over), λ more. refl)

pub returns-in-Err-clause-limit : goal.returns-in-Err-clause-limit
returns-in-Err-clause-limit c = λ line_cap h s.
    let over : line_cap < pending_length (FieldEnd ∷ h) = (limit-field_end line_cap h c.args.self.now s).0 (c.in-Err.ensures.limit.0 refl) in
    (λ failed. omega (arith, over), λ more. refl)
