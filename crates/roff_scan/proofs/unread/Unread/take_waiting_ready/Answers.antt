use Rattle.std.proofs.Common.{◌≡◌, ◌∙◌, ℕ, ◌+◌, List, false, true, arith, map, take, refl, subst, sym, get_or, nat_lt, le-ltb}
use Rattle.input_model.specs.Input.{is_none_ahead}
use Rattle.input_source.specs.Tape.{Gives, OneByte, Took}
use Rattle.input_model.specs.declared.looked.Looked.TheVariants.{Nothing}
use Rattle.roff_scan.proofs.Asking.{answers_first, takes_asked}
use Rattle.roff_scan.proofs.Fronts.{nothing_looked}
use Rattle.roff_scan.proofs.unread.Unread.take_waiting_ready.Goals as goal

pub returns-else-not-waits_for-clause-takes : goal.returns-else-not-waits_for-clause-takes
returns-else-not-waits_for-clause-takes g c =
    let now = c.args.self.now in
    let bytes = c.buffered.result.now in
    let gave = g.S.ByteSource.gives c.args.source.now in
    let gives = g.S.ByteSource.gives c.pass.new.self in
    let none : c.self.inside.looked ≡ Nothing = nothing_looked c.self.inside.looked (sym c.is_nothing.ensures ∙ c.if-not-is_nothing.false) in
    let none_ahead : is_none_ahead c.self.inside.input_ahead.ahead ≡ true = rw (← c.self.view_is) at c.requires.none_ahead in
    let room : nat_lt now.limits.bytes (now.input.charge + 1) ≡ false = le-ltb now.limits.bytes (now.input.charge + 1) (omega (arith, c.requires.room)) in
    let took : Took gave gives (map OneByte (take 1 bytes)) = subst (λ (ready : List ℕ). Took gave gives (map OneByte (take 1 ready))) (sym c.buffered.ensures) c.pass.ensures.gives in
    takes_asked gave _ _ _ c.self.view_is _ gives (Gives (OneByte (get_or bytes 0 0))) none_ahead none
    (answers_first gave gives bytes c.in-len1-up.len_at_least took) (rw (room, c.count.ensures.counts) refl)
